-- What the values of the code mean in the rules, beyond kinds.
use Rattle.std.specs.Prelude.{◌≡◌, ℕ, ◌+◌, ◌-◌, ◌%◌, ◌<◌, ◌≤◌, ◌&&◌, ◌||◌, Bool, true, false, not, nat_eq, nat_le, if◌then◌else◌}
use Rattle.std.specs.Prelude.{Option, None, Some, List, [], ◌∷◌, map, length, slice_index, slice_index_or}
use Rattle.dvg_game_words.specs.Processor.{A, target}
use Rattle.dvg_game_words.specs.Checker
use Rattle.dvg_game_words.specs.Checker.{Notes, all_under, may_write, is_strobe, leads, first, set, holding, of_held, pushing, pulling}
use Rattle.dvg_game_words.specs.Checker.{newest, same_level, enters, implies, noted, begun, ends_of, all_serve, unchanged}
use Rattle.dvg_game_words.specs.Kinds
use Rattle.dvg_game_words.specs.Kinds.{Quiet, Reads, Transfer, Stores, Push, PushFlags, Pull, PullFlags, Branch, Jump, Call}
use Rattle.dvg_game_words.specs.Kinds.{Return, Finish, Wild, size}
use Rattle.dvg_game_words.specs.Machine.{is_own, is_driver, is_reset, blank_after}
use Rattle.dvg_game_check.specs.declared.note.Level.{Level}
use Rattle.dvg_game_check.specs.declared.note.Level.TheVariants.{Main, Sub, Nmi}
use Rattle.dvg_game_check.specs.declared.note.Slot.{Slot}
use Rattle.dvg_game_check.specs.declared.note.Slot.TheVariants.{Any, Was}
use Rattle.dvg_game_check.specs.declared.note.Held.{Held}
use Rattle.dvg_game_check.specs.declared.note.Note.{Note}
use Rattle.dvg_game_check.specs.declared.note.Change.{Change}
use Rattle.dvg_game_check.specs.declared.note.Change.TheVariants.{Same, Holds, Leaves, Pushes, Pulls, Returns, Begins}
use Rattle.dvg_game_check.specs.declared.reach.Test.{Test}
use Rattle.dvg_game_check.specs.declared.reach.Test.TheVariants.{NoStrobe, Writable, NotOwn}
use Rattle.dvg_game_check.specs.Meant.{register_meant}

abbrev pub level_meant : Level → Checker.Level
level_meant Main = Checker.Main
level_meant Sub = Checker.Sub
level_meant Nmi = Checker.Nmi

abbrev pub slot_meant : Slot → Checker.Slot
slot_meant Any = Checker.Any
slot_meant (Was register) = Checker.Was (register_meant register)

abbrev pub held_meant : Held → Checker.Held
held_meant held = record { a = slot_meant held.a; x = slot_meant held.x; y = slot_meant held.y }

abbrev pub note_meant : Note → Checker.Note
note_meant note = record {
  level = level_meant note.level;
  depth = note.depth;
  held = held_meant note.held;
  slots = map slot_meant note.slots.items;
  room = note.room;
  fuel = note.fuel;
  awake = note.awake;
  blank = note.blank;
  ends = note.ends;
}

abbrev pub option_meant : Option Note → Option Checker.Note
option_meant None = None
option_meant (Some note) = Some (note_meant note)

-- what holds after an instruction
abbrev pub changed : Change → Checker.Note → Checker.Note
changed Same now = now
changed (Holds held) now = record now { held = held_meant held }
changed (Leaves awake) now = record now { awake = awake }
changed (Pushes slot) now = pushing (slot_meant slot) now
changed (Pulls held) now = record (pulling now) { held = held_meant held }
changed (Returns awake blank) now = record now { awake = awake; blank = blank }
changed (Begins ends) now = begun ends now

-- the notes of a list, the first one for the first place
abbrev pub notes_in : List (Option Note) → Notes
notes_in notes at = option_meant (slice_index_or notes (at - first) None)

abbrev pub test_meant : Test → ℕ → Bool
test_meant NoStrobe a = not (is_strobe a)
test_meant (Writable level) a = may_write (level_meant level) a
test_meant NotOwn a = not (is_own a)

-- as of_reached, by the bytes of the instruction
abbrev pub reached_by : Kinds.Place → (low word : ℕ) → (ℕ → Bool) → Bool
reached_by Kinds.ZeroPage low word p = p low
reached_by Kinds.ZeroPageIndexed low word p = all_under 256 p
reached_by Kinds.Absolute low word p = p word
reached_by Kinds.AbsoluteIndexed low word p = all_under 256 (λ k. p ((word + k) % 65536))

abbrev pub jumps_fine : Notes → (word reset : ℕ) → Checker.Note → Bool
jumps_fine notes word reset now =
    if nat_eq word reset then not (same_level now.level Checker.Nmi) else if is_driver word then enters word now
    && (same_level now.level Checker.Sub && (nat_eq now.depth 0 && implies (blank_after word now.blank) now.ends))
    else leads notes word now

abbrev pub calls_fine : Notes → (word at : ℕ) → Checker.Note → Bool
calls_fine notes word at now =
    if is_driver word then enters word now
    && leads notes (at + 3) (record now { awake = is_reset word || now.awake; blank = blank_after word now.blank })
    else let ends = ends_of (noted notes word) in nat_le 2 now.room && (not (same_level now.level Checker.Nmi)
    && (leads notes word (begun ends now) && leads notes (at + 3) (record now { blank = ends })))

-- as fine_by, by the bytes behind the opcode, their word, and where the reset's vector leads
abbrev pub fine_with : Kinds.Kind → Notes → (low word reset : ℕ) → ℕ → Checker.Note → Bool
fine_with (Quiet sets bytes) notes low word reset at now = leads notes (at + bytes) (record now { held = set sets now.held })
fine_with (Reads sets place) notes low word reset at now = reached_by place low word (λ a. not (is_strobe a))
    && leads notes (at + size place) (record now { held = set sets now.held })
fine_with (Transfer from to) notes low word reset at now =
    leads notes (at + 1) (record now { held = holding to (of_held from now.held) now.held })
fine_with (Stores place) notes low word reset at now = reached_by place low word (may_write now.level)
    && leads notes (at + size place) (record now { awake = now.awake && reached_by place low word (λ a. not (is_own a)) })
fine_with Push notes low word reset at now = nat_le 1 now.room && leads notes (at + 1) (pushing now.held.a now)
fine_with PushFlags notes low word reset at now = nat_le 1 now.room && leads notes (at + 1) (pushing Checker.Any now)
fine_with Pull notes low word reset at now = nat_le 1 now.depth
    && leads notes (at + 1) (record (pulling now) { held = holding A (newest now.slots) now.held })
fine_with PullFlags notes low word reset at now = nat_le 1 now.depth && leads notes (at + 1) (pulling now)
fine_with Branch notes low word reset at now = leads notes (target at low) now && leads notes (at + 2) now
fine_with Jump notes low word reset at now = jumps_fine notes word reset now
fine_with Call notes low word reset at now = calls_fine notes word at now
fine_with Return notes low word reset at now =
    same_level now.level Checker.Sub && (nat_eq now.depth 0 && implies now.blank now.ends)
fine_with Finish notes low word reset at now =
    same_level now.level Checker.Nmi && (nat_eq now.depth 0 && all_serve unchanged now.held)
fine_with Wild notes low word reset at now = false

-- the program's bytes stand in the ROM from 6800 on
abbrev pub HasBytes : List ℕ → (ℕ → ℕ) → Type 0
HasBytes bytes rom = (a : ℕ) → 0x6800 ≤ a → a < 0x8000 → rom a ≡ slice_index bytes (a - 0x6800)

-- as may_boot, by the bytes of the instruction
abbrev pub boots_with : Kinds.Kind → (low word : ℕ) → Bool
boots_with (Quiet sets bytes) low word = true
boots_with (Reads sets place) low word = reached_by place low word (λ a. not (is_strobe a))
boots_with (Stores Kinds.AbsoluteIndexed) low word = false
boots_with (Stores place) low word = reached_by place low word (may_write Checker.Main)
boots_with kind low word = false
