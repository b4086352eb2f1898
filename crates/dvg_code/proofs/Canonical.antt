-- Which words are canonical.
use Rattle.std.proofs.Common.{◌≡◌, ℕ, Bool, true, false, List, [], length, ◌∙◌, sym, ap, append-nil, rules}
use Rattle.std.specs.Prelude.{◌↔◌, IsTrue, nat_eq}
use Rattle.std.specs.Cmp.Lexicographic.{pointwise, same_text, other_text}
use Rattle.dvg_code.specs.declared.instr.Instr.{Instr}
use Rattle.dvg_code.specs.Ranges.{InRange}
use Rattle.dvg_code.specs.Spelling.{IsCanonical, canon}
use Rattle.dvg_code.specs.Cutting.{Fronts}
use Rattle.dvg_code.proofs.Unique.{front_of_canon, same_fronts}

-- words are canonical exactly where they equal what is written of the instruction that their front spells
pub canonical_answer : (words written : List ℕ) (a : Instr) (count : ℕ) (equal : Bool) → InRange a → Fronts words a count → written ≡ canon a
    → equal ≡ pointwise nat_eq written words → (IsTrue equal ↔ IsCanonical words)
canonical_answer words written a count true r read written_is told =
    let same = same_text written words told in
    (λ equal. (a, r, sym same ∙ written_is), λ canonical. search rules)
canonical_answer words written a count false r read written_is told = (
  λ equal. absurd (search rules),
  λ canonical.
      let b = canonical.0 in
      let other = front_of_canon words [] b canonical.1 (canonical.2 ∙ sym (append-nil (canon b))) in
      let one = same_fronts words a b count (length (canon b)) read other in
      absurd (other_text written words told (written_is ∙ ap canon one.0 ∙ sym canonical.2)),
)
