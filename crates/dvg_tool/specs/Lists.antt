-- What `list` answers and writes.
use Rattle.std.specs.Prelude.{◌≡◌, ◌≢◌, ◌+◌, ◌%◌, flat_map, ◌<◌, ◌≤◌, ℕ, List, [], drop, length, nat_eq, Option, Result}
use Rattle.std.specs.Prelude.{Ok, Err}
use Rattle.std.specs.Io.KnownBytes.{Appends}
use Rattle.std.specs.List.{starts_with}
use lib.Pointwise.{pointwise}
use Rattle.dvg_code.specs.declared.instr.Instr.{Instr}
use Rattle.dvg_code.specs.Spelling.{canon}
use Rattle.dvg_code.specs.Words.{words_of}
use Rattle.dvg_code.specs.Cutting.{Cutting, Placed}
use Rattle.dvg_print.specs.Lines.{line_text}
use Rattle.dvg_io.specs.Watching.{BeginsToWrite}
use Rattle.dvg_read.specs.declared.fault.TextFault.TheVariants.{TooLong, Odd, Cut}
use Rattle.dvg_io.specs.declared.fault.ToolFault.{ToolFault}
use Rattle.dvg_io.specs.declared.fault.ToolFault.TheVariants.{Text, Reader, Writer, Memory}
use Rattle.dvg_tool.specs.declared.lists.TheConstants.{MOST_LIST_BYTES}

-- the line of the instruction that stands at a place of the words, listed at this address
-- (for a private contract)
abbrev pub line_at : (words : List ℕ) → (place address : ℕ) → Instr → List ℕ
line_at words place address instr = line_text address instr (starts_with nat_eq (drop place words) (canon instr))

-- the address of a place of words of which the first has this address: there are 4,096
abbrev pub address_from : (at place : ℕ) → ℕ
address_from at place = (at + place) % 4096

-- the line of an instruction with the words that spell it, where the first word has this address
abbrev pub line_of : (at : ℕ) → Placed → List ℕ
line_of at item = line_text (address_from at item.place) item.instr (pointwise nat_eq (canon item.instr) item.words)

-- the text of a listing
abbrev pub list_text : (at : ℕ) → List Placed → List ℕ
list_text at = flat_map (line_of at)

-- at most 8,192 bytes, in whole words
abbrev pub IsListable : List ℕ → Type 0
IsListable input = (length input ≤ MOST_LIST_BYTES) × (length input % 2 ≡ 0)

-- what is answered to words, of which the first has this address, and what went out: the text of the instructions, at
-- `Cut` of those before the rest, at `Writer` a beginning of it
abbrev pub ListsWords : {T : Type 0} → (at : ℕ) → Result T ToolFault → (words : List ℕ) → Option (List ℕ)
    → Option (List ℕ) → Type 0
ListsWords at (Ok done) words old new =
    (cutting : Cutting words) → (cutting.rest ≡ []) × Appends old new (list_text at cutting.items)
ListsWords at (Err (Text (Cut place))) words old new = (cutting : Cutting words)
    → (cutting.rest ≢ []) × (place ≡ address_from at cutting.end) × Appends old new (list_text at cutting.items)
ListsWords at (Err Writer) words old new =
    (cutting : Cutting words) → BeginsToWrite (list_text at cutting.items) old new
ListsWords at _ words old new = ⊥

-- what `list` answers to an input, and what went out, where the first word has this address (that nothing went out at
-- the other faults is a part of `Serves`)
abbrev pub Lists : {T : Type 0} → (at : ℕ) → Result T ToolFault → (input : List ℕ) → Option (List ℕ) → Option (List ℕ)
    → Type 0
Lists at (Err (Text TooLong)) input old new = MOST_LIST_BYTES < length input
Lists at (Err (Text Odd)) input old new = (length input ≤ MOST_LIST_BYTES) × (length input % 2 ≡ 1)
Lists at (Err Reader) input old new = Unit {0}
Lists at (Err Memory) input old new = Unit {0}
Lists at answer input old new = IsListable input × ListsWords at answer (words_of input) old new
