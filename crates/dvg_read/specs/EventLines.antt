-- The events of a line, as a reader has them.
use Rattle.std.specs.Prelude.{◌≡◌, ℕ, List, replicate, codes}
use Rattle.dvg_log.specs.Events.{Happening, spelled_as}
use Rattle.dvg_log.specs.declared.event.Event.TheVariants.{Redraw, Tick, Strobe, Fetch, ResetGen, ResetCpu}
use Rattle.dvg_read.specs.declared.event_line.EventLine.{EventLine}

-- an event that its name alone spells, and that name
abbrev pub IsNamed : Happening → List ℕ → Type 0
IsNamed Redraw name = name ≡ codes "redraw"
IsNamed Tick name = name ≡ codes "tick"
IsNamed Strobe name = name ≡ codes "strobe"
IsNamed Fetch name = name ≡ codes "fetch"
IsNamed ResetGen name = name ≡ codes "resetgen"
IsNamed ResetCpu name = name ≡ codes "resetcpu"
IsNamed event name = ⊥

-- a count may follow the event's name
abbrev pub TakesCount : Happening → Type 0
TakesCount Tick = Unit {0}
TakesCount Strobe = Unit {0}
TakesCount Fetch = Unit {0}
TakesCount event = ⊥

-- the events of a line
abbrev pub happenings : EventLine → List Happening
happenings line = replicate line.count (spelled_as line.event)
