-- Worked examples of the beam and of a generator alone.
use Rattle.std.proofs.Common.{◌≡◌, ℕ, ◌-◌, pos, negsuc, true, false, List, [], ◌∷◌, Option, Some, None, refl, lit<, lit≤}
use Rattle.dvg_code.specs.declared.instr.Instr.{Instr}
use Rattle.dvg_code.specs.declared.instr.Instr.TheVariants.{Vctr, Labs, Jsrl, Rtsl, Jmpl, Svec}
use Rattle.dvg_code.specs.Spelling.{Spells, jmpl, jsrl, rtsl}
use Rattle.dvg_gen.specs.declared.beam.Beam.{Beam}
use Rattle.dvg_gen.specs.declared.stroke.Stroke.{Stroke}
use Rattle.dvg_gen.specs.declared.taken.GenFault.TheVariants.{StackOver, StackUnder, Hole}
use Rattle.dvg_gen.specs.Counting.{counted, whole_way}
use Rattle.dvg_gen.specs.Drawing.{moved, drawn}
use Rattle.dvg_gen.specs.Moving.{moves}
use Rattle.dvg_gen.specs.Run.{Visit, first, one, next, fate, Breaks, Goes}
use Rattle.dvg_gen.specs.Told.{Told, Start, Fed, Newest, Leaves, new, starts, takes, meets_hole, Reply, Fails, reply, wants}

-- a beam
abbrev at : ℕ → ℕ → ℕ → Beam
at x y scale = record { x = x; y = y; scale = scale }

-- one stroke
abbrev from_to : ℕ → ℕ → ℕ → ℕ → ℕ → List Stroke
from_to x0 y0 x1 y1 z = record { x0 = x0; y0 = y0; x1 = x1; y1 = y1; z = z } ∷ []

-- at global scale 0, SVEC 3 -3 -2 moves x by -6144 and y by -4096
pub short_move : moved (at 0 0 0) (Svec 3 (negsuc 2) (negsuc 1) 3) ≡ at (2097152 - 6144) (2097152 - 4096) 0
short_move = refl

-- a move past the right edge comes in at the left one
pub wrap : drawn (moved (at 0 0 0) (Labs 4095 0 0)) (Vctr 9 (pos 1) (pos 0) 5) ≡ from_to 2096640 0 0 0 5
wrap = refl

-- scale 10 moves nothing, and the stroke of length zero is one
pub scale_past_9 : drawn (moved (at 0 0 0) (Labs 0 0 1)) (Vctr 9 (pos 50) (pos 0) 8) ≡ from_to 0 0 0 0 8
scale_past_9 = refl

-- scale 16 is scale 0
pub scale_past_15 : drawn (moved (at 0 0 0) (Labs 0 0 15)) (Vctr 1 (pos 50) (pos 0) 8) ≡ from_to 0 0 50 0 8
scale_past_15 = refl

-- a blank vector moves and draws nothing
pub blank : drawn (at 0 0 0) (Vctr 9 (pos 50) (pos 0) 0) ≡ []
blank = refl

abbrev visit : ℕ → Instr → Visit
visit place code = record { place = place; code = code }

-- a LABS at 002 moves the beam unseen, and a blank vector at 004 does so too
pub unseen_moves : moves (at 7 0 0)
    (visit 4 (Vctr 9 (pos 1) (pos 0) 0) ∷ visit 2 (Labs 4095 0 0) ∷ visit 0 (Jmpl 2) ∷ [])
    ≡ record { x0 = 7; y0 = 0; x1 = 2096640; y1 = 0; z = 0; placed = true; address = 2 }
    ∷ record { x0 = 2096640; y0 = 0; x1 = 0; y1 = 0; z = 0; placed = false; address = 4 } ∷ []
unseen_moves = refl

-- half a unit is rounded away from zero, both ways, also over the edge, and less is none
pub half_ahead : whole_way 2097000 104 ≡ pos 1
half_ahead = refl

pub half_back : whole_way 104 2097000 ≡ negsuc 0
half_back = refl

pub less_than_half : whole_way 255 0 ≡ pos 0
less_than_half = refl

-- a counter goes round, too
pub counted_round : counted 0 (negsuc 0) ≡ 4095
counted_round = refl

-- a return on an empty stack
pub no_caller : fate (visit 0 Rtsl ∷ []) ≡ Breaks StackUnder
no_caller = refl

-- four calls
abbrev four : List Visit
four = visit 2048 (Jsrl 2048) ∷ visit 2048 (Jsrl 2048) ∷ visit 2048 (Jsrl 2048) ∷ visit 0 (Jsrl 2048) ∷ []

-- they go on
pub four_calls : fate four ≡ Goes
four_calls = refl

-- a fifth breaks the run
pub fifth_call : fate (visit 2048 (Jsrl 2048) ∷ four) ≡ Breaks StackOver
fifth_call = refl

-- a return leads to one past the open call: 000 calls 800, which calls C00 and returns from it
pub inner_return : next (visit 3072 Rtsl ∷ visit 2048 (Jsrl 3072) ∷ visit 0 (Jsrl 2048) ∷ []) ≡ 2049
inner_return = refl

-- and the return after that leads to the word after the older one
pub outer_return : next (visit 2049 Rtsl ∷ visit 3072 Rtsl ∷ visit 2048 (Jsrl 3072) ∷ visit 0 (Jsrl 2048) ∷ []) ≡ 1
outer_return = refl

-- a history and a fetch after it leave a run, with this answer to the fetch
pub record HasReply (history : List Told) (word : Option ℕ) (answer : Reply) : Type 0 where
  pub run : Newest
  pub leaves : Leaves (Fed word ∷ history) run
  pub answered : reply word run ≡ answer

-- after a start, D000 finds an empty stack
pub return_first : HasReply (Start ∷ []) (Some 0xD000) (Fails StackUnder)
return_first = record { run = _; leaves = takes (starts new) refl (one (rtsl (lit≤ tt) (lit< tt))); answered = refl }

-- after a start, a hole breaks the run
pub hole_first : HasReply (Start ∷ []) None (Fails Hole)
hole_first = record { run = _; leaves = meets_hole (starts new) refl; answered = refl }

-- C800 calls 800
call_800 : Spells (Jsrl 2048) (0xC800 ∷ [])
call_800 = jsrl (lit≤ tt) refl

-- after a start and four calls, a fifth breaks the run
pub five_calls : HasReply (Fed (Some 0xC800) ∷ Fed (Some 0xC800) ∷ Fed (Some 0xC800) ∷ Fed (Some 0xC800) ∷ Start ∷ []) (Some 0xC800) (Fails StackOver)
five_calls =
    record {
      run = _;
      leaves = takes (takes (takes (takes (takes (starts new) refl (one call_800)) refl (one call_800)) refl (one call_800)) refl (one call_800)) refl (one call_800);
      answered = refl;
    }

-- a history leaves a run that wants this address
pub record HasWanted (history : List Told) (address : ℕ) : Type 0 where
  pub run : Newest
  pub leaves : Leaves history run
  pub wanted : wants run ≡ Some address

-- EFFF jumps to FFF
jump_fff : Spells (Jmpl 4095) (0xEFFF ∷ [])
jump_fff = jmpl (lit≤ tt) refl

-- after EFFF comes FFF
pub last_address : HasWanted (Fed (Some 0xEFFF) ∷ Start ∷ []) 4095
last_address = record { run = _; leaves = takes (starts new) refl (one jump_fff); wanted = refl }

-- after FFF comes 000
pub after_the_last : HasWanted (Fed (Some 0xA000) ∷ Fed (Some 0xEFFF) ∷ Start ∷ []) 0
after_the_last = record { run = _; leaves = takes (takes (starts new) refl (one jump_fff)) refl (first (lit< tt)); wanted = refl }

-- a start on a running generator wants 000
pub start_again : HasWanted (Start ∷ Fed (Some 0xEFFF) ∷ Start ∷ []) 0
start_again = record { run = _; leaves = starts (takes (starts new) refl (one jump_fff)); wanted = refl }
