-- Entries of fetches.
use Rattle.std.proofs.Common.{◌≡◌, ℕ, Some, None, refl}
use Rattle.std.specs.Prelude.{IsSome}
use Rattle.dvg_gen.specs.Bytes.{Met, Waits, Whole, word_of}
use Rattle.dvg_gen.specs.Machine.{Machine, picture_after}
use Rattle.dvg_gen.specs.declared.taken.Step.{Step}
use Rattle.dvg_gen.specs.declared.taken.Step.TheVariants as step
use Rattle.dvg_log.specs.Entries.{drew_in, entry_by, map_entry}
use Rattle.dvg_world.specs.Standing.{ChangesNothing}

-- the entry of a generator that fetches isn't one that changes nothing
pub fetch_changes : (address : ℕ) (found : Met) (answer : Step) → ChangesNothing (entry_by address found answer tt) → ⊥
fetch_changes address (Waits byte) answer nothing = nothing
fetch_changes address (Whole None) answer nothing = nothing
fetch_changes address (Whole (Some word)) step.Low nothing = nothing
fetch_changes address (Whole (Some word)) step.Word nothing = nothing
fetch_changes address (Whole (Some word)) step.Done nothing = nothing
fetch_changes address (Whole (Some word)) (step.Broke fault) nothing = nothing

-- what the run drew stands in the entry as it is
pub map_entry_by : {S T : Type 0} (f : S → T) (address : ℕ) (found : Met) (answer : Step) (drew : S)
    → map_entry f (entry_by address found answer drew) ≡ entry_by address found answer (f drew)
map_entry_by f address (Waits byte) answer drew = refl
map_entry_by f address (Whole None) answer drew = refl
map_entry_by f address (Whole (Some word)) step.Low drew = refl
map_entry_by f address (Whole (Some word)) step.Word drew = refl
map_entry_by f address (Whole (Some word)) step.Done drew = refl
map_entry_by f address (Whole (Some word)) (step.Broke fault) drew = refl

-- a fetch whose entry shows nothing drawn finished no run, and leaves the picture
pub picture_stays : {S : Type 0} (machine : Machine) (address : ℕ) (found : Met) (answer : Step) (drew : S)
    → (answer ≡ step.Done → IsSome (word_of found)) → drew_in (entry_by address found answer drew) ≡ None
    → picture_after answer machine ≡ machine.picture
picture_stays machine address (Waits byte) step.Done drew finished none = let no = finished refl in absurd (cc)
picture_stays machine address (Whole None) step.Done drew finished none = let no = finished refl in absurd (cc)
picture_stays machine address (Whole (Some word)) step.Done drew finished none = absurd (cc)
picture_stays machine address found step.Low drew finished none = refl
picture_stays machine address found step.Word drew finished none = refl
picture_stays machine address found (step.Broke fault) drew finished none = refl
