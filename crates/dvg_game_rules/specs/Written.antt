-- How a program and its notes are written down.
use Rattle.std.specs.Prelude.{ℕ, zero, suc, ◌-◌, ◌/◌, ◌%◌, nat_eq, nat_lt, Bool, false, if◌then◌else◌}
use Rattle.std.specs.Prelude.{Option, None, Some, List, [], ◌∷◌}
use Rattle.dvg_calls_6502.specs.Code.{code}
use Rattle.dvg_game_rules.specs.Checker.{Level, Nmi, Slot, Any, Note, Notes, first}

-- item n of a list, from 0, or `other` past its end
unfoldable pub of_list : {A : Type 0} → A → List A → ℕ → A
of_list other [] n = other
of_list other (x ∷ xs) zero = x
of_list other (x ∷ xs) (suc n) = of_list other xs n

-- a ROM: the driver's code from 6800 on, the game's bytes in rows of 64, FF behind them, and the
-- six bytes of vectors from 7FFA on. Elsewhere it is `other`
unfoldable pub rom_of : (rows : List (List ℕ)) → (vectors : List ℕ) → (other : ℕ → ℕ) → ℕ → ℕ
rom_of rows vectors other b =
    if nat_lt b 0x6800 then other b
    else if nat_lt b first then of_list 0 code (b - 0x6800)
    else if nat_lt b 0x7FFA then of_list 0xFF (of_list [] rows ((b - first) / 64)) ((b - first) % 64)
    else if nat_lt b 0x8000 then of_list 0 vectors (b - 0x7FFA) else other b

-- the note of an address
unfoldable pub found : List (ℕ × Note) → ℕ → Option Note
found [] at = None
found (one ∷ more) at = if nat_eq one.0 at then Some one.1 else found more at

-- notes, a row for each 64 addresses
unfoldable pub notes_of : List (List (ℕ × Note)) → Notes
notes_of rows at = found (of_list [] rows ((at - first) / 64)) at

-- a note of the program's code: its level, how many bytes are pushed, its room, whether dvg_reset
-- was called, and whether a frame may be blank, here and where the code returns
unfoldable pub note : Level → (depth room : ℕ) → (awake blank ends : Bool) → Note
note level depth room awake blank ends = record {
  level = level;
  depth = depth;
  held = record { a = Any; x = Any; y = Any };
  slots = [];
  room = room;
  fuel = 0;
  awake = awake;
  blank = blank;
  ends = ends;
}

-- a note of the NMI's code
unfoldable pub nmi_note : (depth room fuel : ℕ) → (a x y : Slot) → List Slot → Note
nmi_note depth room fuel a x y slots = record {
  level = Nmi;
  depth = depth;
  held = record { a = a; x = x; y = y };
  slots = slots;
  room = room;
  fuel = fuel;
  awake = false;
  blank = false;
  ends = false;
}
