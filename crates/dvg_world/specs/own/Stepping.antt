-- One line more: the words of private contracts.
use Rattle.std.specs.Prelude.{◌≡◌, ℕ, Bool, true, List, Option, Vec, option_map, slice_set}
use Rattle.dvg_gen.specs.declared.stroke.Stroke.{Stroke}
use Rattle.dvg_driver.specs.declared.action.Action.{Action}
use Rattle.dvg_driver.specs.declared.action.Action.TheVariants.{Wrote, Sent}
use Rattle.dvg_log.specs.Entries.{Shown, drew_in}
use Rattle.dvg_log.specs.Events.{Happening}
use Rattle.dvg_log.specs.Log.{Log}
use Rattle.dvg_world.specs.Standing.{State, WorldAfter}
use Rattle.dvg_world.specs.Wanting.{TakesMemory}

-- the RAM after an action
abbrev pub ram_by : Action → List ℕ → List ℕ
ram_by (Wrote a byte) ram = slice_set ram a byte
ram_by action ram = ram

-- whether a strobe was sent, after an action
abbrev pub sent_by : Action → Bool → Bool
sent_by Sent sent = true
sent_by action sent = sent

-- after each log that the world stands after, the event takes memory
abbrev pub WantsMemory : Happening → State → Type 0
WantsMemory event world = (R image : List ℕ) (log : Log) → WorldAfter R image log world → TakesMemory R image log event

-- this is what the run of an entry drew, if it finished
abbrev pub IsDrawnBy : {A : Type 0} → Shown → Option (Vec Stroke A) → Type 0
IsDrawnBy entry drew = drew_in entry ≡ option_map (λ strokes. strokes.items) drew
