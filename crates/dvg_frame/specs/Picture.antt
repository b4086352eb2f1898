-- What a draft draws, by its operations and the ROM's instructions: without a stack, an address of
-- the RAM, or a memory that changes.
use Rattle.std.specs.Prelude.{◌≡◌, ℕ, suc, ◌+◌, List, [], ◌++◌}
use Rattle.dvg_code.specs.declared.instr.Instr.{Instr}
use Rattle.dvg_code.specs.Spelling.{word_count}
use Rattle.dvg_gen.specs.declared.beam.Beam.{Beam}
use Rattle.dvg_gen.specs.declared.stroke.Stroke.{Stroke}
use Rattle.dvg_gen.specs.Drawing.{moved, drawn}
use Rattle.dvg_code.specs.Acts.{Moves, Jumps, Calls, Returns, Halts}
use Rattle.dvg_frame.specs.declared.op.OpKind.{OpKind}
use Rattle.dvg_frame.specs.declared.place.Place.{Place}
use Rattle.dvg_frame.specs.declared.place.Place.TheVariants.{InFrame}
use Rattle.dvg_frame.specs.Steps.{Stands}

-- how what is drawn from a place ends: at a HALT, or at the return that answers no call in it
pub data End : Type 0 where
  AtHalt : End
  AtReturn : End

-- from this place and beam these strokes are drawn, up to a beam and an end, in this many words
pub data Draws (F : List OpKind) (R : List ℕ) : Place → Beam → List Stroke → Beam → End → ℕ → Type 0 where
  halts : {p after : Place} {beam : Beam} → Stands F R p Halts after → Draws F R p beam [] beam AtHalt 1
  returns : {p after : Place} {beam : Beam} → Stands F R p Returns after → Draws F R p beam [] beam AtReturn 1
  -- a vector or LABS: what it draws, and then what the place after it draws
  moves : {p after : Place} {beam last : Beam} {instr : Instr} {strokes : List Stroke} {end : End} {n : ℕ}
      → Stands F R p (Moves instr) after → Draws F R after (moved beam instr) strokes last end n
      → Draws F R p beam (drawn beam instr ++ strokes) last end (word_count instr + n)
  jumps : {p to after : Place} {beam last : Beam} {strokes : List Stroke} {end : End} {n : ℕ}
      → Stands F R p (Jumps to) after → Draws F R to beam strokes last end n → Draws F R p beam strokes last end (suc n)
  -- a call whose target halts
  call_halts : {p to after : Place} {beam last : Beam} {strokes : List Stroke} {n : ℕ} → Stands F R p (Calls to) after
      → Draws F R to beam strokes last AtHalt n → Draws F R p beam strokes last AtHalt (suc n)
  -- a call whose target returns: what it draws, and then what the place after the call draws
  calls : {p to after : Place} {beam back last : Beam} {strokes more : List Stroke} {end : End} {n m : ℕ}
      → Stands F R p (Calls to) after → Draws F R to beam strokes back AtReturn n → Draws F R after back more last end m
      → Draws F R p beam (strokes ++ more) last end (suc (n + m))

-- the picture of a draft, and the words of its whole run, word zero included
pub record IsPicture (F : List OpKind) (R : List ℕ) (strokes : List Stroke) (n : ℕ) : Type 0 where
  pub last : Beam
  pub rest : ℕ
  pub draws : Draws F R (InFrame 0) (record { x = 0; y = 0; scale = 0 }) strokes last AtHalt rest
  pub count : n ≡ suc rest

-- the draft has a picture, and its whole run has this many words
abbrev pub IsBound : List OpKind → List ℕ → ℕ → Type 0
IsBound F R n = (strokes : List Stroke) × IsPicture F R strokes n
