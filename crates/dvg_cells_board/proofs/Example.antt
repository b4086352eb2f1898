-- The first picture on the board: the driver boots, writes a frame, publishes it, and sends a strobe; the core draws it.
use Rattle.std.proofs.Common.{◌≡◌, ℕ, suc, ◌<◌, ◌++◌, pos, negsuc, Bool, true, false, not, List, [], ◌∷◌, Option, Some, None}
use Rattle.std.proofs.Common.{length, replicate, drop, refl, sym, ap, ◌∙◌, arith, eqb-true, leb-true}
use Rattle.std.specs.Prelude.{slice_index, ◌==◌, ◌&&◌, nat_eq, nat_lt, if◌then◌else◌}
use Rattle.std.proofs.lemmas.List.{length-replicate}
use Rattle.dvg_code.specs.declared.instr.Instr.TheVariants.{Vctr, Labs}
use Rattle.dvg_frame.specs.declared.op.OpKind.{OpKind}
use Rattle.dvg_frame.specs.declared.op.OpKind.TheVariants.{Draw, Halt}
use Rattle.dvg_driver.specs.declared.action.Action.{Action}
use Rattle.dvg_log.specs.declared.event.Event.TheVariants.{Offer, Strobe, Fetch, ResetGen}
use Rattle.dvg_log.specs.Entries.{Shown}
use Rattle.dvg_log.specs.declared.entry.Entry.TheVariants.{Offered, Started, Cleared}
use Rattle.dvg_log.specs.Log.{◌⟼◌, Log, ram}
use Rattle.dvg_log.specs.Legal.{IsLegal}
use Rattle.dvg_theorem.proofs.Rows.{first_picture}
use Rattle.dvg_cells_core.specs.Cells.{bit}
use Rattle.dvg_cells_board.specs.Board.{Board, Bus, takes}
use Rattle.dvg_cells_board.specs.Clocks.{IsBus, after, IsServed, looks, changes}
use Rattle.dvg_cells_board.specs.Fetches.{entry}
use Rattle.dvg_cells_board.specs.Logs.{did, core_line, answered, FitsIf, IsBoard, powers, clocks, acts, FitsScript}
use Rattle.dvg_cells_board.specs.Example.{zeros, SomeBoard}
use Rattle.std.proofs.lemmas.Bool.{and_parts as both_true}
use Rattle.dvg_mem.proofs.Roms.{behind_ram as first_least}

abbrev pub held : ℕ → ℕ
held = slice_index zeros

-- a clock without an access, one that reads, and one that writes
abbrev pub quiet : Bus
quiet = record { reset = 0; hold = 0; access = 0; write = 0; a = 0; d = 0; big = 0; rom = 0; undefined = 0 }

abbrev pub reading : ℕ → Bus
reading a = record quiet { access = 1; a = a }

abbrev pub writing : ℕ → ℕ → Bus
writing a d = record quiet { access = 1; write = 1; a = a; d = d }

pub is_quiet : IsBus quiet
is_quiet = record { reset = omega arith; a = omega arith; d = omega arith; rom = omega arith }

pub is_reading : (a : ℕ) → a < 65536 → IsBus (reading a)
is_reading a small = record { reset = omega arith; a = small; d = omega arith; rom = omega arith }

pub is_writing : (a d : ℕ) → a < 65536 → d < 256 → IsBus (writing a d)
is_writing a d small byte = record { reset = omega arith; a = small; d = byte; rom = omega arith }

-- the jumper is set for 2,048 bytes, and no byte of the ROM is fetched
small_rom : 0 ≡ bit (not (length zeros == 2048))
small_rom = sym (ap (λ n. bit (not (n == 2048))) (length-replicate {A = ℕ} 2048 0))

pub served : (board : Board) (bus : Bus) → bus.big ≡ 0 → board.core.at < 0x400 → IsServed zeros board bus
served board bus big below = record {
  big = big ∙ small_rom;
  rom = λ e from to. let least = first_least zeros in absurd (omega arith);
}

-- a clock with this bus, or a draft that is taken
data Step : Type 0 where
  Clock : Bus → Step
  Takes : List OpKind → Step

-- the clocks of steps, the newest first, and their log
abbrev clocks_of : List Step → List Bus
clocks_of [] = []
clocks_of (Clock bus ∷ steps) = bus ∷ clocks_of steps
clocks_of (Takes F ∷ steps) = clocks_of steps

abbrev log_of : List Step → Log
log_of [] = []
log_of (Clock bus ∷ steps) = did (changes bus) (answered zeros held (clocks_of steps) bus false (log_of steps))
log_of (Takes F ∷ steps) = (Offer F ⟼ Offered) ∷ log_of steps

-- what is driven are bits, bytes and addresses, and the core fetches from the RAM
abbrev are_driven : List Step → Bool
are_driven [] = true
are_driven (Clock bus ∷ steps) = (nat_lt bus.reset 2 && (nat_lt bus.a 65536 && (nat_lt bus.d 256 && (nat_lt bus.rom 256
    && (nat_eq bus.big 0 && nat_lt (after held (clocks_of steps)).core.at 0x400))))) && are_driven steps
are_driven (Takes F ∷ steps) = are_driven steps

-- the log before a line is legal, and the line fits
undone : (action : Option Action) (log : Log) → IsLegal zeros zeros (did action log)
    → FitsIf (FitsScript zeros zeros log) action × IsLegal zeros zeros log
undone None log legal = (tt, legal)
undone (Some action) log legal = (legal.0.0, legal.2)

before_line : (reset start takes : ℕ) (bytes : List ℕ) (shown : Shown) (log : Log)
    → IsLegal zeros zeros (core_line reset start takes false bytes shown log) → IsLegal zeros zeros log
before_line reset start takes bytes shown log = by (nat_eq reset 0) (nat_eq start 0) (nat_eq takes 0)
  where
    by : (r s p : Bool)
        → IsLegal zeros zeros (if r then if s then if p then log else (Fetch ⟼ shown) ∷ log else (Strobe ⟼ Started) ∷ log
        else (ResetGen ⟼ Cleared) ∷ log)
        → IsLegal zeros zeros log
    by true true true legal = legal
    by true true false legal = legal.2
    by true false p legal = legal.2
    by false s p legal = legal.2

-- where the log of steps is legal, it is one of a board
board_of : (steps : List Step) → are_driven steps ≡ true → IsLegal zeros zeros (log_of steps)
    → IsBoard FitsScript zeros zeros held (log_of steps) (clocks_of steps)
board_of [] is legal = powers legal.0 legal.1 (λ a small. refl)
board_of (Takes F ∷ steps) is legal = acts (board_of steps is legal.2) legal.1 tt legal.0
board_of (Clock bus ∷ steps) is legal =
    let board = after held (clocks_of steps) in
    let changed = undone (changes bus) (answered zeros held (clocks_of steps) bus false (log_of steps)) legal in
    let looked = undone (looks board bus) (log_of steps) (before_line bus.reset board.starting (takes board bus)
    (ram zeros (did (looks board bus) (log_of steps)))
    (entry held (did (looks board bus) (log_of steps)) (clocks_of steps) bus) _ changed.1) in
    let both = both_true _ (are_driven steps) is in
    let reset = both_true (nat_lt bus.reset 2) _ both.0 in
    let a = both_true (nat_lt bus.a 65536) _ reset.1 in
    let d = both_true (nat_lt bus.d 256) _ a.1 in
    let rom = both_true (nat_lt bus.rom 256) _ d.1 in
    let big = both_true (nat_eq bus.big 0) (nat_lt board.core.at 0x400) rom.1 in
    clocks bus false (board_of steps both.1 looked.1)
    (record {
      reset = leb-true (suc bus.reset) 2 reset.0;
      a = leb-true (suc bus.a) 65536 a.0;
      d = leb-true (suc bus.d) 256 d.0;
      rom = leb-true (suc bus.rom) 256 rom.0;
    })
    (served board bus (eqb-true bus.big 0 big.0) (leb-true (suc board.core.at) 0x400 big.1)) looked.0 changed.0

-- the picture's first bytes, the newest first, over those that publish it
abbrev writes : List (ℕ × ℕ) → List Step → List Step
writes [] steps = steps
writes (w ∷ ws) steps = Clock (writing w.0 w.1) ∷ writes ws steps

-- labs 512 400 0; vctr 9 -100 100 7; halt
abbrev picture : List Step
picture = replicate 25 (Clock quiet) ++ (Clock (writing 0x3000 0x00) ∷ Clock (reading 0x2002)
    ∷ writes ((0x4001, 0xE2) ∷ (0x4000, 0x01) ∷ (0x440B, 0xB0) ∷ (0x440A, 0x00) ∷ (0x4409, 0x74) ∷ (0x4408, 0x64)
    ∷ (0x4407, 0x90) ∷ (0x4406, 0x64) ∷ (0x4405, 0x02) ∷ (0x4404, 0x00) ∷ (0x4403, 0xA1) ∷ (0x4402, 0x90) ∷ [])
    (Takes (Draw (Labs 512 400 0) ∷ Draw (Vctr 9 (negsuc 99) (pos 100) 7) ∷ Halt ∷ [])
    ∷ Clock (reading 0x2002) ∷ Clock (reading 0x4001) ∷ []))

-- it is the log of a picture that is legal
pub some_board : SomeBoard
some_board = (drop 1 (log_of picture), clocks_of picture, board_of picture refl first_picture)
