-- Entries without where their strokes lie in memory.
use Rattle.std.specs.Prelude.{ℕ, List, Option, Some, None, Vec}
use Rattle.dvg_gen.specs.declared.stroke.Stroke.{Stroke}
use Rattle.dvg_gen.specs.Bytes.{Met, Waits, Whole}
use Rattle.dvg_gen.specs.declared.taken.GenFault.TheVariants.{Hole}
use Rattle.dvg_gen.specs.declared.taken.Step.{Step}
use Rattle.dvg_gen.specs.declared.taken.Step.TheVariants as step
use Rattle.dvg_log.specs.declared.entry.Entry.{Entry}
use Rattle.dvg_log.specs.declared.entry.Entry.TheVariants.{Offered, Refused, Busy, Asked, NothingPublished, Acted}
use Rattle.dvg_log.specs.declared.entry.Entry.TheVariants.{Started, NoStrobe, Low, Fetched, Done, Broke, Still, Cleared}

-- the same entry, with f of what the run drew
abbrev pub map_entry : {S T : Type 0} → (S → T) → Entry S → Entry T
map_entry f Offered = Offered
map_entry f (Refused fault) = Refused fault
map_entry f Busy = Busy
map_entry f Asked = Asked
map_entry f NothingPublished = NothingPublished
map_entry f (Acted action) = Acted action
map_entry f Started = Started
map_entry f NoStrobe = NoStrobe
map_entry f (Low address byte) = Low address byte
map_entry f (Fetched address word) = Fetched address word
map_entry f (Done address word drew) = Done address word (f drew)
map_entry f (Broke address fault) = Broke address fault
map_entry f Still = Still
map_entry f Cleared = Cleared

-- what the run of an entry drew, if it finished
abbrev pub drew_in : {S : Type 0} → Entry S → Option S
drew_in (Done address word drew) = Some drew
drew_in _ = None

-- an entry whose strokes are a list
abbrev pub Shown : Type 0
Shown = Entry (List Stroke)

-- an entry of the code, with its strokes as a list
abbrev pub shown_of : {A : Type 0} → Entry (Vec Stroke A) → Shown
shown_of entry = map_entry (λ drew. drew.items) entry

-- the entry of a fetch at this address that met this, by the generator's answer, and what the run drew, if it finished
abbrev pub entry_by : {S : Type 0} → ℕ → Met → Step → S → Entry S
entry_by address (Waits byte) answer drew = Low address byte
entry_by address (Whole None) answer drew = Broke address Hole
entry_by address (Whole (Some word)) step.Low drew = Fetched address word
entry_by address (Whole (Some word)) step.Word drew = Fetched address word
entry_by address (Whole (Some word)) step.Done drew = Done address word drew
entry_by address (Whole (Some word)) (step.Broke fault) drew = Broke address fault
