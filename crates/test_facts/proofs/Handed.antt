-- What a generator answers where it keeps the picture.
use Rattle.std.proofs.Common.{◌≡◌, ℕ, List, [], ◌∷◌, Option, Some, None, refl, ap, ◌∙◌, lit<, lit≤}
use Rattle.std.specs.Prelude.{Result, Ok, Err, IfOk, OnErr}
use Rattle.dvg_code.specs.Spelling.{halt}
use Rattle.dvg_gen.specs.declared.stroke.Stroke.{Stroke}
use Rattle.dvg_gen.specs.declared.taken.Step.{Step}
use Rattle.dvg_gen.specs.declared.taken.Step.TheVariants as step
use Rattle.dvg_gen.specs.Bytes.{met}
use Rattle.dvg_gen.specs.Machine.{Machine, HasTaken, Answers, answer_by, picture_after}
use Rattle.dvg_gen.specs.Run.{one}
use Rattle.dvg_gen.specs.Told.{Told, Start, Drew, starts, takes}
use Rattle.dvg_gen.proofs.Rows.{HasReply}
use Rattle.dvg_dump.proofs.OneWordMore.{is_low}

-- after a start, B000 finishes a run that drew nothing
pub halt_after : {machine : Machine} {low : Option ℕ} (history : List Told) → HasTaken machine history low
    → HasReply (Start ∷ history) (Some 0xB000) (Drew [])
halt_after history after =
    record { run = _; leaves = takes (starts after.leaves) refl (one (halt (lit≤ tt) (lit< tt))); answered = refl }

-- the answer to the first byte of a run is that to a low byte
pub low_result : {E : Type 0} (result : Result Step E) {old : Machine} (machine : Machine) (history : List Told)
    (byte : ℕ) → HasTaken old history None
    → IfOk result (λ answer. (told : List Told) (low : Option ℕ) → HasTaken old told low
    → Answers told (met low (Some byte)) machine (answer_by answer machine.picture))
    → IfOk result (λ answer. answer ≡ step.Low)
low_result (Ok answer) machine history byte after answers =
    is_low answer machine.picture (answers history None after).1
low_result (Err e) machine history byte after answers = answers

-- which leaves the picture, as a refusal does
pub low_kept : {E : Type 0} (result : Result Step E) (old machine : Machine)
    → IfOk result (λ answer. answer ≡ step.Low) → IfOk result (λ answer. machine.picture ≡ picture_after answer old)
    → OnErr result (machine ≡ old) → machine.picture ≡ old.picture
low_kept (Ok answer) old machine low picture refused = picture ∙ ap (λ a. picture_after a old) low
low_kept (Err e) old machine low picture refused = ap (λ m. m.picture) refused

-- what is answered as an empty picture is one
pub is_empty : (answer : Step) (picture : List Stroke) → answer_by answer picture ≡ Some (Drew [])
    → (answer ≡ step.Done) × (picture ≡ [])
is_empty step.Low picture replies = absurd (cc)
is_empty step.Word picture replies = absurd (cc)
is_empty step.Done picture replies = (refl, cc)
is_empty (step.Broke fault) picture replies = absurd (cc)
