use Rattle.dvg_read.proofs.FirstBytes.{NoneFirst}
use Rattle.dvg_read.proofs.text_lines.line_end.Given as goal

abbrev pub invariant-loop-place : goal.invariant-loop-place
invariant-loop-place l = NoneFirst 10 l.text l.place
