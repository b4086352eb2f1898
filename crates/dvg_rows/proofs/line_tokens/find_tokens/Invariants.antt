use Rattle.std.proofs.Common.{◌≡◌, ◌++◌, length}
use Rattle.dvg_read.specs.LineParts.{bytes_of}
use Rattle.dvg_rows.specs.PlainLines.{tokens}
use Rattle.dvg_rows.proofs.LineCuts.{parted}
use Rattle.dvg_rows.proofs.line_tokens.find_tokens.Given as goal

abbrev pub invariant-loop-end : goal.invariant-loop-end
invariant-loop-end l = bytes_of l.found.items ++ parted l.rest ≡ tokens l.fn.line

abbrev pub decreases-loop-end : goal.decreases-loop-end
decreases-loop-end l = length l.rest
