-- What is laid out of frames and of names.
use Rattle.std.specs.Prelude.{ℕ, suc, List, [], ◌∷◌, ◌++◌, Option, Some, None, codes, decimal}
use Rattle.std.specs.Prelude.{flat_map}
use Rattle.std.specs.Borrow.{Bor}
use Rattle.std.specs.List.{join_by}
use Rattle.dvg_code.specs.Spelling.{canon}
use Rattle.dvg_mem.specs.declared.half.Half.{Half}
use Rattle.dvg_mem.specs.declared.half.Half.TheVariants.{H0}
use Rattle.dvg_frame.specs.declared.op.OpKind.{OpKind}
use Rattle.dvg_frame.specs.Bytes.{bytes}
use Rattle.dvg_frame.specs.Layout.{laid, op_code, size}
use Rattle.dvg_print.specs.Lines.{hex_3, hex_4}
use Rattle.dvg_named.specs.declared.meaning.NamedFrame.{NamedFrame}
use Rattle.dvg_named.specs.declared.meaning.RomName.{RomName}
use Rattle.dvg_rows.specs.declared.source.Source.{Source}
use Rattle.dvg_blame.specs.Said.{said}

-- the bytes of frames in order, each as it lies in a half
abbrev pub frames_bytes : Half → List NamedFrame → List ℕ
frames_bytes half frames = flat_map (λ frame. bytes (laid half frame.ops.now)) frames

-- a word as the assembler reads it: four hexadecimal digits after a dollar sign, which is 36
abbrev pub dollar : ℕ → List ℕ
dollar word = 36 ∷ hex_4 word

-- a line that lays down what a text tells; 10 is LF
abbrev pub word_line : List ℕ → List ℕ
word_line text = codes "        .word " ++ text ++ 10 ∷ []

-- the line of an operation: its words, and as a comment what its line of the sketch says
abbrev pub op_line : List ℕ → Source → List ℕ
op_line words source =
    word_line (join_by dollar (codes ", ") words ++ codes " ; " ++ said source.line.now)

-- the lines of these operations of a draft, as they lie in half 0
abbrev pub op_lines : (F ops : List OpKind) → List Source → List ℕ
op_lines F (op ∷ ops) (source ∷ sources) =
    op_line (canon (op_code H0 F op)) source ++ op_lines F ops sources
op_lines F _ _ = []

-- the label of the frame of this number: its name, or else `frame_` and its number
abbrev pub label : ℕ → Option (Bor (List ℕ)) → List ℕ
label number (Some name) = name.now
label number None = codes "frame_" ++ decimal number

-- the table of the frame of this number: its label with a colon, which is 58, how many words it
-- has, and its operations
abbrev pub frame_table : ℕ → NamedFrame → List ℕ
frame_table number frame =
    label number frame.name ++ 58 ∷ 10 ∷ [] ++ word_line (decimal (size frame.ops.now))
    ++ op_lines frame.ops.now frame.ops.now frame.sources.now

-- the tables of frames in order, of which the first has this number
abbrev pub tables : ℕ → List NamedFrame → List ℕ
tables number [] = []
tables number (frame ∷ frames) = frame_table number frame ++ tables (suc number) frames

-- the line of a name: its word address after a dollar sign
abbrev pub name_line : RomName → List ℕ
name_line name = name.name.now ++ codes " = $" ++ hex_3 name.address ++ 10 ∷ []

-- the lines of names in order
abbrev pub name_lines : List RomName → List ℕ
name_lines names = flat_map name_line names
