-- What `rom_text` answers and writes.
use Rattle.std.specs.Prelude.{◌≡◌, ◌⊎◌, ◌==◌, ℕ, List, [], ◌∷◌, ◌++◌, if◌then◌else◌, codes, length, Option, Result, Ok}
use Rattle.std.specs.Prelude.{Err}
use Rattle.std.specs.Io.KnownBytes.{Appends}
use Rattle.dvg_code.specs.Words.{words_of}
use Rattle.dvg_print.specs.Lines.{rom_lines, rom_text}
use Rattle.dvg_io.specs.Watching.{BeginsToWrite}
use Rattle.dvg_read.specs.declared.fault.TextFault.{TextFault}
use Rattle.dvg_read.specs.declared.fault.TextFault.TheVariants.{RomSize}
use Rattle.dvg_read.specs.declared.fault.Unread.{Unread}
use Rattle.dvg_read.specs.declared.fault.Unread.TheVariants as unread
use Rattle.dvg_io.specs.declared.fault.ToolFault.{ToolFault}
use Rattle.dvg_io.specs.declared.fault.ToolFault.TheVariants.{Text, Writer}

-- an input of as many bytes as a ROM has
abbrev pub HasRomSize : List ℕ → Type 0
HasRomSize input = (length input ≡ 2048) ⊎ (length input ≡ 4096)

-- the fault of an input that isn't a ROM: its size
abbrev pub HasRomFault : List ℕ → TextFault → Type 0
HasRomFault input RomSize = ¬ HasRomSize input
HasRomFault input _ = ⊥

-- the input is a ROM of these words (for a private contract)
abbrev pub IsRomOf : (input words : List ℕ) → Type 0
IsRomOf input words = HasRomSize input × (words ≡ words_of input)

-- the text of a ROM's words: 1,024 of them have no line of a map (for a private contract)
abbrev pub words_text : List ℕ → List ℕ
words_text words =
    if length words == 1024 then rom_lines 0x800 words
    else (codes "map 4096" ++ 10 ∷ []) ++ rom_lines 0x400 words

-- a fault at which no words are made of these bytes: that of the size, or want of memory, where
-- they are a ROM (for a private contract)
abbrev pub IsRomFault : List ℕ → Unread → Type 0
IsRomFault bytes (unread.Text fault) = HasRomFault bytes fault
IsRomFault bytes unread.Memory = HasRomSize bytes

-- what `rom_text` answers to an input, and what went out: the text, or at `Writer` a beginning of
-- it (that nothing went out at the other faults is a part of `Serves`)
abbrev pub WritesRom : {T : Type 0} → Result T ToolFault → (input : List ℕ) → Option (List ℕ) → Option (List ℕ) → Type 0
WritesRom (Ok done) input old new = HasRomSize input × Appends old new (rom_text input)
WritesRom (Err (Text fault)) input old new = HasRomFault input fault
WritesRom (Err Writer) input old new = HasRomSize input × BeginsToWrite (rom_text input) old new
WritesRom _ input old new = Unit {0}
