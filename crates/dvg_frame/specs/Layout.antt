-- The words of a draft, laid out for a half.
use Rattle.std.specs.Prelude.{ℕ, ◌+◌, List, [], ◌∷◌, take, flat_map}
use Rattle.dvg_code.specs.declared.instr.Instr.{Instr}
use Rattle.dvg_code.specs.declared.instr.Instr.TheVariants.{Halt, Jsrl, Rtsl, Jmpl}
use Rattle.dvg_code.specs.Spelling.{canon, word_count}
use Rattle.dvg_mem.specs.declared.half.Half.{Half}
use Rattle.dvg_mem.specs.Areas.{base}
use Rattle.dvg_frame.specs.declared.op.OpKind.{OpKind}
use Rattle.dvg_frame.specs.declared.op.OpKind.TheVariants.{Draw, CallRom, JumpRom, Call, Jump, Return, Halt as Stop}

-- how many words an operation has
abbrev pub op_words : OpKind → ℕ
op_words (Draw instr) = word_count instr
op_words _ = 1

-- how many words a list of operations has
abbrev pub size : List OpKind → ℕ
size [] = 0
size (op ∷ ops) = op_words op + size ops

-- the word address of operation i: the half's first word, and the words of the operations before it
abbrev pub at : Half → List OpKind → ℕ → ℕ
at half F i = base half + size (take i F)

-- an operation as an instruction: a named operation stands for its word address
abbrev pub op_code : Half → List OpKind → OpKind → Instr
op_code half F (Draw instr) = instr
op_code half F (CallRom a) = Jsrl a
op_code half F (JumpRom a) = Jmpl a
op_code half F (Call j) = Jsrl (at half F j)
op_code half F (Jump j) = Jmpl (at half F j)
op_code half F Return = Rtsl
op_code half F Stop = Halt

-- the layout of a draft: the canonical words of its operations, one after the other
abbrev pub laid : Half → List OpKind → List ℕ
laid half F = flat_map (λ op. canon (op_code half F op)) F
