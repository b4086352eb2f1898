use Rattle.std.proofs.Common.{◌≡◌, ◌<◌, ℕ, get_or, length, true}
use Rattle.dvg_game_words.specs.Checker as rules
use Rattle.dvg_game_words.specs.Checker.{serves}
use Rattle.dvg_game_check.specs.declared.note.Slot.TheVariants.{Any}
use Rattle.dvg_game_check.specs.Rules.{slot_meant}
use Rattle.dvg_game_check.proofs.state.joined_slots.Given as goal

abbrev pub invariant-loop-i : goal.invariant-loop-i
invariant-loop-i l = (length l.joined ≡ 32) × ((k : ℕ) → k < l.i → (slot : rules.Slot) → serves slot (slot_meant (get_or l.one k Any)) ≡ true
    → serves slot (slot_meant (get_or l.other k Any)) ≡ true → serves slot (slot_meant (get_or l.joined k Any)) ≡ true)
