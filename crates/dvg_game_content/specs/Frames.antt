-- Whether the check accepts a draft, as a test that can be computed: each way through it is gone to its end.
use Rattle.std.specs.Prelude.{ℕ, zero, suc, ◌+◌, ◌-◌, ◌/◌, ◌&&◌, Bool, true, false, not, nat_eq, nat_le, nat_lt}
use Rattle.std.specs.Prelude.{if◌then◌else◌, List, [], ◌∷◌, length, Option, Some, None, slice_get}
use Rattle.dvg_code.specs.declared.instr.Instr.TheVariants.{Labs}
use Rattle.dvg_mem.specs.Memory.{first_word, rom_word}
use Rattle.dvg_frame.specs.declared.op.OpKind.{OpKind}
use Rattle.dvg_frame.specs.declared.op.OpKind.TheVariants.{Draw, CallRom, JumpRom, Call, Jump, Return, Halt as Stop}
use Rattle.dvg_frame.specs.declared.place.Place.{Place}
use Rattle.dvg_frame.specs.declared.place.Place.TheVariants.{InFrame, InRom}
use Rattle.dvg_frame.specs.Layout.{size}

-- how a place leads on
pub data View : Type 0 where
  -- nothing that may be there
  Wrong : View
  -- a vector or a LABS, and a jump: to this place
  On : Place → View
  To : Place → View
  -- a call: to its target, and to the place after it
  Both : Place → Place → View
  Back : View
  End : View

-- a word of the ROM stands there, an operation of the draft
abbrev pub is_there : List OpKind → List ℕ → Place → Bool
is_there F R (InFrame i) = nat_lt i (length F)
is_there F R (InRom a) = nat_le (first_word R) a && nat_lt a 0xC00

abbrev pub view_word : List ℕ → ℕ → ℕ → View
view_word R a word = if nat_lt word 0xB000 then (if is_there [] R (InRom (a + 1)) then On (InRom (a + 2)) else Wrong)
    else if nat_lt word 0xC000 then End
    else if nat_lt word 0xD000 then Both (InRom (word - 0xC000)) (InRom (a + 1))
    else if nat_lt word 0xE000 then Back
    else if nat_lt word 0xF000 then To (InRom (word - 0xE000)) else On (InRom (a + 1))

abbrev pub view_rom : List ℕ → ℕ → Option ℕ → View
view_rom R a None = Wrong
view_rom R a (Some word) = view_word R a word

abbrev pub view_op : ℕ → Option OpKind → View
view_op i None = Wrong
view_op i (Some (Draw instr)) = On (InFrame (i + 1))
view_op i (Some (CallRom a)) = Both (InRom a) (InFrame (i + 1))
view_op i (Some (JumpRom a)) = To (InRom a)
view_op i (Some (Call j)) = Both (InFrame j) (InFrame (i + 1))
view_op i (Some (Jump j)) = To (InFrame j)
view_op i (Some Return) = Back
view_op i (Some Stop) = End

abbrev pub view : List OpKind → List ℕ → Place → View
view F R (InFrame i) = view_op i (slice_get F i)
view F R (InRom a) = view_rom R a (rom_word R a)

-- a view from which each way has no fault, where this holds of the places that it leads to
abbrev pub leads_well : List OpKind → List ℕ → (Place → ℕ → Bool) → View → ℕ → Bool
leads_well F R well Wrong d = false
leads_well F R well (On q) d = is_there F R q && well q d
leads_well F R well (To q) d = is_there F R q && well q d
leads_well F R well (Both q r) d =
    (is_there F R q && is_there F R r) && (not (nat_eq d 4) && (well q (suc d) && well r d))
leads_well F R well Back d = not (nat_eq d 0)
leads_well F R well End d = true

-- each way from here has fewer steps than this, and no fault
abbrev pub ends : ℕ → List OpKind → List ℕ → Place → ℕ → Bool
ends zero F R p d = false
ends (suc n) F R p d = leads_well F R (ends n F R) (view F R p) d

-- operation 0 is a LABS
abbrev pub has_labs : List OpKind → Bool
has_labs (Draw (Labs x y scale) ∷ ops) = true
has_labs ops = false

-- what it names of the draft is there
abbrev pub aims : ℕ → OpKind → Bool
aims count (Call j) = nat_lt j count
aims count (Jump j) = nat_lt j count
aims count op = true

abbrev pub all_aim : ℕ → List OpKind → Bool
all_aim count [] = true
all_aim count (op ∷ ops) = aims count op && all_aim count ops

-- no way may be as long as this
abbrev pub longest : List OpKind → List ℕ → ℕ
longest F R = 1 + (length F + length R / 2)

abbrev pub passes : List OpKind → List ℕ → Bool
passes F R = has_labs F && (nat_le (size F) 511 && (all_aim (length F) F && ends (longest F R) F R (InFrame 0) 0))
