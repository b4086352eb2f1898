use Rattle.std.proofs.Common.{◌<◌, get_or, sym, ◌∙◌, ap, arith, inl, inr, subst}
use Rattle.std.proofs.Math.Nat.{eq-or-lt_of_le}
use Rattle.std.proofs.lemmas.Option.{get_or_from_slice_get}
use Rattle.dvg_game_words.specs.Tables.{NamesRom}
use Rattle.dvg_game_check.proofs.offered.names_rom.Goals as goal

pub loop-i-preserved : goal.loop-i-preserved
loop-i-preserved c k d h =
    elim (eq-or-lt_of_le {n = k} {m = c.loop-i.i} (omega (arith, h))) as (λ _. NamesRom (get_or c.args.draft.now k d)) [
      | inl same ↦ subst NamesRom (c.kind-kind.ensures.value
          ∙ sym (ap (λ n. get_or c.args.draft.now n d) same ∙ get_or_from_slice_get c.args.draft.now c.loop-i.i c.op.result d c.op.ensures))
          (c.names_high.ensures c.if-not-names_high.false)
      | inr less ↦ c.loop-i.invariant k d less
    ]

pub returns : goal.returns
returns c so =
    (λ k d h. c.loop-i.invariant k d (omega (arith, h, c.len-i-end.ensures.value)), c.len-i-end.ensures.draft)
