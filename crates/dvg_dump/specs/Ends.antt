-- How a run over a memory that does not change ends within 65,536 words.
use Rattle.std.specs.Prelude.{◌≡◌, ◌<◌, ◌≤◌, ℕ, List, [], ◌∷◌, Option, None}
use Rattle.dvg_gen.specs.declared.stroke.Stroke.{Stroke}
use Rattle.dvg_gen.specs.declared.taken.GenFault.{GenFault}
use Rattle.dvg_gen.specs.declared.taken.GenFault.TheVariants.{Hole}
use Rattle.dvg_gen.specs.Run.{Visit, Goes, Finished, Breaks, fate, strokes, wanted, Runs}
use Rattle.dvg_gen.specs.Told.{nothing}

-- a run is complete after so many words, with these strokes; it broke at the fetch of this address; or neither comes
-- within 65,536 words
pub data End : Type 0 where
  Complete : (words : ℕ) → (drew : List Stroke) → End
  Broken : (address : ℕ) → (fault : GenFault) → End
  Endless : End

-- the strokes of a first run's instructions: the beam begins at 0, 0 with scale 0
abbrev pub drawn_by : List Visit → List Stroke
drawn_by visits = strokes nothing.first visits

-- the run over a memory ends so, after these instructions: at HALT, at a call or a return that breaks it, at a hole, or
-- not at all; the most words are this project's own choice
pub data Ends (memory : ℕ → Option ℕ) : List Visit → End → Type 0 where
  halts : {words : ℕ} {visits : List Visit} → Runs memory words visits None → words ≤ 65536 → fate visits ≡ Finished
      → Ends memory visits (Complete words (drawn_by visits))
  breaks : {words : ℕ} {visit : Visit} {older : List Visit} {fault : GenFault} → Runs memory words (visit ∷ older) None
      → words ≤ 65536
      → fate (visit ∷ older) ≡ Breaks fault → Ends memory (visit ∷ older) (Broken visit.place fault)
  meets_hole : {words : ℕ} {visits : List Visit} {held : Option ℕ} → Runs memory words visits held → words < 65536
      → fate visits ≡ Goes
      → memory (wanted visits held) ≡ None → Ends memory visits (Broken (wanted visits held) Hole)
  goes_on : {visits : List Visit} {held : Option ℕ} → Runs memory 65536 visits held → fate visits ≡ Goes
      → Ends memory visits Endless

-- the run over a memory draws no stroke
abbrev pub DrawsNoStroke : (ℕ → Option ℕ) → Type 0
DrawsNoStroke memory = (visits : List Visit) (end : End) → Ends memory visits end → drawn_by visits ≡ []
