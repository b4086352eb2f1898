use Rattle.std.proofs.Common.{arith}
use Rattle.dvg_moment.proofs.JudgeAfterLog.{beyond_stands, written_left}
use Rattle.dvg_moment.proofs.judge.MomentJudge.wrote.Goals as goal

pub returns-then-at-lt-MEMORY_BYTES : goal.returns-then-at-lt-MEMORY_BYTES
returns-then-at-lt-MEMORY_BYTES c = λ log stands.
    written_left c.args.self.now c.write_byte.new.self log c.args.address c.from-at.result c.args.byte stands c.from-at.ensures c.if-at-lt-MEMORY_BYTES.true c.write_byte.ensures

pub returns-else-at-lt-MEMORY_BYTES : goal.returns-else-at-lt-MEMORY_BYTES
returns-else-at-lt-MEMORY_BYTES c = λ log stands.
    beyond_stands c.args.self.now log c.args.address c.args.byte stands (let e = c.from-at.ensures in let l = c.if-at-lt-MEMORY_BYTES.false in omega arith)
