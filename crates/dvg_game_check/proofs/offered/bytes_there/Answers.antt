use Rattle.std.proofs.Common.{◌≡◌, ◌+◌, ◌*◌, get_or, sym, ◌∙◌, ap, arith, inl, inr, length}
use Rattle.std.proofs.Math.Nat.{eq-or-lt_of_le}
use Rattle.std.proofs.lemmas.Option.{get_or_from_slice_get}
use Rattle.dvg_mem.specs.declared.half.Half.TheVariants.{H0}
use Rattle.dvg_frame.specs.Layout.{laid}
use Rattle.dvg_frame.proofs.Bytes.{bytes-length}
use Rattle.dvg_game_words.specs.Tables.{table_of}
use Rattle.dvg_game_check.proofs.offered.bytes_there.Goals as goal

pub loop-k-preserved : goal.loop-k-preserved
loop-k-preserved c f h k less =
    elim (eq-or-lt_of_le {n = k} {m = c.loop-k.k} (omega (arith, less)))
    as (λ _. f (c.args.at + k) ≡ get_or (table_of c.args.frame.now.operations) k 0) [
      | inl same ↦ ap (λ n. f (c.args.at + n)) (same ∙ sym c.from.ensures) ∙ (sym (c.byte_at.ensures f h)
          ∙ (sym c.if-byte-byte_at.false ∙ sym (ap (λ n. get_or (table_of c.args.frame.now.operations) n 0) same
          ∙ get_or_from_slice_get (table_of c.args.frame.now.operations) c.loop-k.k c.byte.result 0 c.byte.ensures)))
      | inr fewer ↦ c.loop-k.invariant f h k fewer
    ]

pub returns : goal.returns
returns c so f h k less =
    let long = bytes-length (laid H0 c.args.frame.now.operations) in
    let words = c.len_words-k-end.ensures.laid H0 in
    c.loop-k.invariant f h k (omega (arith, long, words, less))
