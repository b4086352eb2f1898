-- Frames as drafts without names.
use Rattle.std.specs.Prelude.{ℕ, ℤ, ◌+◌, List, [], ◌∷◌, ◌++◌, codes, decimal, flat_map, if◌then◌else◌, nat_eq, replicate}
use Rattle.std.specs.Fmt.{signed_decimal}
use lib.Pointwise.{pointwise}
use Rattle.dvg_code.specs.Words.{words_of}
use Rattle.dvg_code.specs.declared.instr.Instr.{Instr}
use Rattle.dvg_code.specs.declared.instr.Instr.TheVariants.{Vctr, Labs, Svec}
use Rattle.dvg_mem.specs.Memory.{first_word}
use Rattle.dvg_frame.specs.declared.op.OpKind.{OpKind}
use Rattle.dvg_frame.specs.declared.op.OpKind.TheVariants.{Draw, CallRom, JumpRom, Call, Jump, Return, Halt}
use Rattle.dvg_print.specs.Lines.{hex_3, map_text, rom_line}
use Rattle.dvg_named.specs.declared.meaning.NamedFrame.{NamedFrame}

-- a vector's name and its numbers; 32 is the space
abbrev pub vector_text : (name : List ℕ) → (scale : ℕ) → (dx dy : ℤ) → (z : ℕ) → List ℕ
vector_text name scale dx dy z = name
    ++ 32 ∷ decimal scale ++ 32 ∷ signed_decimal dx ++ 32 ∷ signed_decimal dy ++ 32 ∷ decimal z

-- what draws, as a draft has it; no draft has another instruction
abbrev pub drawing_text : Instr → List ℕ
drawing_text (Vctr scale dx dy z) = vector_text (codes "vctr") scale dx dy z
drawing_text (Svec scale dx dy z) = vector_text (codes "svec") scale dx dy z
drawing_text (Labs x y scale) = codes "labs" ++ 32 ∷ decimal x ++ 32 ∷ decimal y ++ 32 ∷ decimal scale
drawing_text _ = []

-- an operation, as a draft has it
abbrev pub op_text : OpKind → List ℕ
op_text (Draw instr) = drawing_text instr
op_text (Call n) = codes "call" ++ 32 ∷ decimal n
op_text (Jump n) = codes "jump" ++ 32 ∷ decimal n
op_text (CallRom a) = codes "callrom" ++ 32 ∷ hex_3 a
op_text (JumpRom a) = codes "jumprom" ++ 32 ∷ hex_3 a
op_text Return = codes "return"
op_text Halt = codes "halt"

-- the line of an operation; 10 is LF
abbrev pub draft_line : OpKind → List ℕ
draft_line op = op_text op ++ 10 ∷ []

-- the lines of a draft
abbrev pub draft_lines : List OpKind → List ℕ
draft_lines = flat_map draft_line

-- a frame's draft as a trace offers it
abbrev pub offer_lines : NamedFrame → List ℕ
offer_lines frame = codes "offer" ++ 10 ∷ draft_lines frame.ops.now ++ codes "end" ++ 10 ∷ []

-- one frame's draft stands alone; several stand as a trace offers them
abbrev pub frame_drafts : List NamedFrame → List ℕ
frame_drafts (frame ∷ []) = draft_lines frame.ops.now
frame_drafts frames = flat_map offer_lines frames

-- the line of eight words of a ROM; none where each is D000, which is a word that no line gives
abbrev pub given_line : ℕ → List ℕ → List ℕ
given_line address words = if pointwise nat_eq words (replicate 8 0xD000) then [] else rom_line address words

-- such lines of the words from an address on, eight by eight
abbrev pub given_lines : ℕ → List ℕ → List ℕ
given_lines address (a ∷ b ∷ c ∷ d ∷ e ∷ f ∷ g ∷ h ∷ words) =
    given_line address (a ∷ b ∷ c ∷ d ∷ e ∷ f ∷ g ∷ h ∷ []) ++ given_lines (address + 8) words
given_lines address _ = []

-- the lines of a ROM: its map, and the words that aren't D000
abbrev pub rom_part : (R : List ℕ) → List ℕ
rom_part R = map_text R ++ given_lines (first_word R) (words_of R)

-- the drafts of frames, after the ROM that they share
abbrev pub drafts_text : (R : List ℕ) → List NamedFrame → List ℕ
drafts_text R frames = rom_part R ++ frame_drafts frames
