use Rattle.std.proofs.Common.{◌∙◌, refl, sym, true≢false, []}
use Rattle.dvg_logs.proofs.half_lines.tell.Goals as goal

pub returns-then-wrote-clause-torn : goal.returns-then-wrote-clause-torn
returns-then-wrote-clause-torn c = λ log stands. rw c.in-Wrote.is (refl, (c.wrote.ensures.torn c.in-Wrote.byte log stands).0 c.if-wrote.true)

pub returns-else-wrote-clause-untorn : goal.returns-else-wrote-clause-untorn
returns-else-wrote-clause-untorn c = λ log stands none. rw c.in-Wrote.is (λ torn. true≢false (sym ((c.wrote.ensures.torn c.in-Wrote.byte log stands).1 torn) ∙ c.if-wrote.false))

pub returns-in-Halted-clause-stands : goal.returns-in-Halted-clause-stands
returns-in-Halted-clause-stands c = λ log stands. rw c.in-Halted.is (c.halted.ensures 0 0 [] log stands)
