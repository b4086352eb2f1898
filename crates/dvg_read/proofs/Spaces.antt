-- How a line of an event is cut at its first space.
use Rattle.std.proofs.Common.{◌≡◌, ◌≤◌, ℕ, List, [], ◌∷◌, length, get_or, take, refl, sym, subst, ap, ◌∙◌, arith, eqb, Option, Some, None, IfSome, ⊎_elim}
use Rattle.std.specs.Char.{digit_value}
use Rattle.std.specs.List.{join_with_byte}
use Rattle.std.specs.Str.Parse.{AllDigits}
use Rattle.std.proofs.lemmas.Bool.{eqb-true, false_from_ne_true}
use Rattle.std.proofs.lemmas.List.{get_or_default}
use Rattle.std.proofs.lemmas.List.Splits.{slice_split_none, slice_split_at, length-slice_split, join_with_byte-slice_split}
use Rattle.dvg_log.specs.Events.{Happening}
use Rattle.dvg_read.specs.EventLines.{happenings}
use Rattle.dvg_read.specs.declared.event_line.EventLine.{EventLine}
use Rattle.dvg_read.specs.Texts.{parts}
use Rattle.dvg_read.specs.TraceTexts.{EventParts}
use Rattle.dvg_read.proofs.Decimals.{digit_below, shaped}
use Rattle.dvg_read.proofs.EventRows.{few_parts, operand_row}
use Rattle.dvg_read.proofs.FirstBytes.{HasNone, IsCutAt, behind}

-- the first part goes up to the first space
pub part_ended : (line : List ℕ) (i : ℕ) → IsCutAt 32 line (Some i) → parts line ≡ take i line ∷ parts (behind i line)
part_ended line i (end, halves, before, there) = ap parts halves ∙ slice_split_at (λ byte. eqb byte 32) (take i line) end (behind i line) before there

-- where there is none, the line is its one part
pub part_unended : (line : List ℕ) → IsCutAt 32 line None → parts line ≡ line ∷ []
part_unended line h = slice_split_none (λ byte. eqb byte 32) line h

-- a space is no digit
pub no_space : (radix : ℕ) (digits : List ℕ) → radix ≤ 16 → AllDigits radix digits → HasNone 32 digits
no_space radix digits most h k d inside = false_from_ne_true (eqb (get_or digits k d) 32) (λ is.
    absurd (omega (arith, most, digit_below radix digits k h inside, ap digit_value (get_or_default digits k 0 d inside ∙ eqb-true _ 32 is))))

-- so digits are one part
pub digits_alone : (radix : ℕ) (digits : List ℕ) → radix ≤ 16 → AllDigits radix digits → parts digits ≡ digits ∷ []
digits_alone radix digits most h = slice_split_none (λ byte. eqb byte 32) digits (no_space radix digits most h)

-- so is the operand of an event
pub operand_alone : {events : List Happening} {name operand : List ℕ} → EventParts events (name ∷ operand ∷ []) → parts operand ≡ operand ∷ []
operand_alone {operand = operand} h = ⊎_elim (λ r. digits_alone 10 operand (omega arith) (shaped r.n operand (omega (arith, r.most)) r.spelled).digits) (λ r. digits_alone 16 operand (omega arith) r.spelled.digits) (operand_row h)

one_operand_of : {events : List Happening} {name : List ℕ} (operand : List ℕ) (ps : List (List ℕ)) → parts operand ≡ ps → EventParts events (name ∷ ps) → EventParts events (name ∷ operand ∷ [])
one_operand_of operand [] e h = absurd (omega (arith, length-slice_split (λ byte. eqb byte 32) operand, ap length e))
one_operand_of {events} {name} operand (part ∷ []) e h =
    let is : part ≡ operand = ap (join_with_byte 32) (sym e) ∙ join_with_byte-slice_split 32 operand in
    subst (λ part. EventParts events (name ∷ part ∷ [])) is h
one_operand_of operand (part ∷ next ∷ ps) e h = let few = few_parts h in absurd (omega (arith, few))

-- and after the name of an event stands one operand
pub one_operand : {events : List Happening} {name operand : List ℕ} → EventParts events (name ∷ parts operand) → EventParts events (name ∷ operand ∷ [])
one_operand {operand = operand} h = one_operand_of operand (parts operand) refl h

-- so what is read of a name and an operand is what the whole line spells
pub found_whole : (name operand : List ℕ) (repeated : Option EventLine) → IfSome repeated (λ repeated. EventParts (happenings repeated) (name ∷ operand ∷ [])) → IfSome repeated (λ repeated. EventParts (happenings repeated) (name ∷ parts operand))
found_whole name operand None h = h
found_whole name operand (Some repeated) h = subst (λ ps. EventParts (happenings repeated) (name ∷ ps)) (sym (operand_alone h)) h
