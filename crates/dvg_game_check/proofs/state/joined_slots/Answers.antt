use Rattle.std.proofs.Common.{◌≡◌, ◌≢◌, ◌+◌, ◌<◌, ◌⊎◌, ◌∙◌, ℕ, ap, arith, get_or, inl, inr, set, subst, sym, true}
use Rattle.std.proofs.Math.ListN.{length-set}
use Rattle.std.proofs.lemmas.Grind.{get_or-set_at}
use Rattle.std.proofs.lemmas.List.{get_or-set_other}
use Rattle.std.proofs.Math.Nat.{eq-or-lt_of_le}
use Rattle.dvg_game_words.specs.Checker.{serves}
use Rattle.dvg_game_check.specs.declared.note.Slot.TheVariants.{Any}
use Rattle.dvg_game_check.specs.Rules.{slot_meant}
use Rattle.dvg_game_check.proofs.Pushes.{stacked_joined}
use Rattle.dvg_game_check.proofs.state.joined_slots.Goals as goal

pub loop-i-preserved : goal.loop-i-preserved
loop-i-preserved c = (
  simp length-set c.loop-i.invariant.0,
  λ k less slot a b.
      elim (eq-or-lt_of_le {n = k} {m = c.loop-i.i} (omega (arith, less)))
      as (λ _. serves slot (slot_meant (get_or (set c.loop-i.joined c.loop-i.i c.joined_slot.result) k Any)) ≡ true) [
        | inl same ↦
            ap (λ x. serves slot (slot_meant x)) (get_or-set_at c.loop-i.joined c.loop-i.i k c.joined_slot.result Any same
            (omega (arith, c.loop-i.invariant.0, c.loop-i-test.true)))
            ∙ c.joined_slot.ensures slot (subst (λ j. serves slot (slot_meant (get_or c.args.one j Any)) ≡ true) same a)
            (subst (λ j. serves slot (slot_meant (get_or c.args.other j Any)) ≡ true) same b)
        | inr fewer ↦
            let other : k ≢ c.loop-i.i = λ same. omega (arith, fewer, same) in
            ap (λ x. serves slot (slot_meant x)) (get_or-set_other c.loop-i.joined c.loop-i.i k c.joined_slot.result Any other)
            ∙ c.loop-i.invariant.1 k fewer slot a b
      ],
)

pub returns : goal.returns
returns c asked depth most h g =
    stacked_joined asked c.args.one c.args.other c.loop-i.joined depth
    (λ k less. c.loop-i.invariant.1 k (omega (arith, less, most))) h g
