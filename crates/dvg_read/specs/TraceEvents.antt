-- Lines of events that are taken many at once (for private contracts).
use Rattle.std.specs.Prelude.{◌≡◌, ℕ, List, [], ◌∷◌, ◌++◌, length}
use Rattle.std.specs.List.{AllZip}
use Rattle.std.specs.Int.{to_le_bytes, w32}
use Rattle.dvg_log.specs.Events.{Happening}
use Rattle.dvg_read.specs.declared.event_head.Name.{Name}
use Rattle.dvg_read.specs.EventLines.{IsNamed}
use Rattle.dvg_read.specs.Texts.{parts}
use Rattle.dvg_read.specs.TraceTexts.{EventParts}

-- the bytes of a name
abbrev pub name_bytes : Name → List ℕ
name_bytes name = to_le_bytes w32 name.letters ++ name.ending.now

-- these bytes are the name of this event and a line's end; 10 is LF
pub record IsNameLine (event : Happening) (bytes : List ℕ) : Type 0 where
  pub name : List ℕ
  pub named : IsNamed event name
  pub ended : bytes ≡ name ++ 10 ∷ []

-- the line spells this one event by itself
abbrev pub SpellsEvent : Happening → List ℕ → Type 0
SpellsEvent event line = EventParts (event ∷ []) (parts line)

-- the first of these lines spell these events, one each, and the rest stands after them
pub record HasEvents (left : List (List ℕ)) (events : List Happening) (rest : List (List ℕ)) : Type 0 where
  pub ahead : List (List ℕ)
  pub spelled : AllZip SpellsEvent events ahead
  pub cut : left ≡ ahead ++ rest

-- the first of these lines spells an event
pub record BeginsWithEvent (left : List (List ℕ)) : Type 0 where
  pub event : Happening
  pub rest : List (List ℕ)
  pub ahead : HasEvents left (event ∷ []) rest

-- the first of these lines, so many, spell one event each, which was added to those before
pub record AddsEvents (left : List (List ℕ)) (old : List Happening) (count : ℕ) (rest : List (List ℕ))
    (new : List Happening) : Type 0 where
  pub more : List Happening
  pub ahead : HasEvents left more rest
  pub added : new ≡ old ++ more
  pub counted : length more ≡ count
