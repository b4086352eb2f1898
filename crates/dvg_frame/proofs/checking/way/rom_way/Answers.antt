use Rattle.std.proofs.Common.{arith}
use Rattle.dvg_frame.proofs.Words.{stands_halt, stands_call, stands_return, stands_jump, stands_short, stands_long}
use Rattle.dvg_frame.proofs.checking.way.rom_way.Goals as goal

pub returns-else-a-eq-ROM_END : goal.returns-else-a-eq-ROM_END
returns-else-a-eq-ROM_END g c = λ F. stands_long F _ _ _ c.word-word.ensures c.requires.rom c.requires.low (omega arith) c.if-word-lt45056.true

pub returns-in-11 : goal.returns-in-11
returns-in-11 g c = let opcode = c.in-11.is in λ F. stands_halt F _ _ _ c.word-word.ensures (omega arith) (omega arith)

pub returns-in-12 : goal.returns-in-12
returns-in-12 g c = let opcode = c.in-12.is in λ F. stands_call F _ _ _ c.word-word.ensures (omega arith) (omega arith)

pub returns-in-13 : goal.returns-in-13
returns-in-13 g c = let opcode = c.in-13.is in λ F. stands_return F _ _ _ c.word-word.ensures (omega arith) (omega arith)

pub returns-in-14 : goal.returns-in-14
returns-in-14 g c = let opcode = c.in-14.is in λ F. stands_jump F _ _ _ c.word-word.ensures (omega arith) (omega arith)

pub returns-in_default : goal.returns-in_default
returns-in_default g c = λ F. stands_short F _ _ _ c.word-word.ensures (omega arith) (omega arith)
