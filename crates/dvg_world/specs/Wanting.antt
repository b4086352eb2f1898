-- Which events can be refused for want of memory.
use Rattle.std.specs.Prelude.{◌≡◌, ◌≢◌, ℕ, List, Some, None}
use Rattle.dvg_gen.specs.Bytes.{Whole}
use Rattle.dvg_gen.specs.Run.{Visit, Adds, strokes}
use Rattle.dvg_log.specs.Events.{Happening}
use Rattle.dvg_log.specs.declared.event.Event.TheVariants.{Fetch}
use Rattle.dvg_log.specs.Log.{Log, meets, history}
use Rattle.dvg_log.specs.Legal.{IsWanted}

-- the next fetch of the open run adds a stroke: by the word that it meets at the address that is wanted
pub record DrawsNext (R image : List ℕ) (log : Log) : Type 0 where
  pub address : ℕ
  pub asked : IsWanted (history R image log) address
  pub word : ℕ
  pub met : meets R image log address ≡ Whole (Some word)
  pub visits : List Visit
  pub adds : Adds asked.run.visits asked.run.held word visits None
  pub draws : strokes asked.run.first visits ≢ strokes asked.run.first asked.run.visits

-- an event that takes memory: a fetch that adds a stroke
abbrev pub TakesMemory : List ℕ → List ℕ → Log → Happening → Type 0
TakesMemory R image log Fetch = DrawsNext R image log
TakesMemory R image log event = ⊥
