-- The laws aren't empty: a program whose bytes meet their premises, and what it may play.
use Rattle.std.specs.Prelude.{◌≡◌, ℕ, ◌<◌, true, false, List, [], ◌∷◌}
use Rattle.dvg_calls_6502.specs.Amid.{is_code}
use Rattle.dvg_calls_6502.specs.Code.{dvg_offer, dvg_pair, dvg_put}
use Rattle.dvg_calls_6502.specs.Processor.{A, X, Y, Cpu}
use Rattle.dvg_game_rules.specs.Checker.{Main, Was, Note, Notes, accepts}
use Rattle.dvg_game_rules.specs.Written.{rom_of, notes_of, note, nmi_note}
use Rattle.dvg_game_6502.specs.Games.{never_calls}
use Rattle.dvg_game_6502.specs.Play.{IsPlay}

-- LDX #$FF, TXS; JSR dvg_reset; over and over JSR dvg_run; the NMI's routine is an RTI
unfoldable pub bytes : List (List ℕ)
bytes = (0xA2 ∷ 0xFF ∷ 0x9A ∷ 0x20 ∷ 0x00 ∷ 0x68 ∷ 0x20 ∷ 0x09 ∷ 0x68 ∷ 0x4C ∷ 0x8D ∷ 0x6A ∷ 0x40 ∷ []) ∷ []

unfoldable pub vectors : List ℕ
vectors = 0x93 ∷ 0x6A ∷ 0x87 ∷ 0x6A ∷ 0x93 ∷ 0x6A ∷ []

unfoldable pub rows : List (List (ℕ × Note))
rows =
    ((0x6A8A, note Main 0 4 false false false) ∷ (0x6A8D, note Main 0 4 true false false)
    ∷ (0x6A90, note Main 0 4 true false false) ∷ (0x6A93, nmi_note 0 0 1 (Was A) (Was X) (Was Y) []) ∷ [])
    ∷ []

-- whatever stands beside the program's ROM
unfoldable pub rom : (ℕ → ℕ) → ℕ → ℕ
rom other = rom_of bytes vectors other

unfoldable pub notes : Notes
notes = notes_of rows

abbrev pub start : ℕ
start = 0x6A8A

-- it is accepted, and calls neither dvg_offer, dvg_put nor dvg_pair
abbrev pub IsFine : Type 0
IsFine = (other : ℕ → ℕ) → (accepts (rom other) start notes ≡ true) × (never_calls (rom other) dvg_offer ≡ true)
    × (never_calls (rom other) dvg_put ≡ true) × (never_calls (rom other) dvg_pair ≡ true)

-- and it plays: two instructions later the driver has begun, in its own code
abbrev pub Plays : Type 0
Plays = (other : ℕ → ℕ) → ((b : ℕ) → other b < 256) → (cpu : Cpu) × IsPlay (rom other) start cpu 2 []
    × (is_code cpu.pc ≡ true)
