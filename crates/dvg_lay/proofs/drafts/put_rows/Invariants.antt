use Rattle.std.proofs.Common.{◌≡◌, ◌+◌, ◌*◌, ◌++◌, drop}
use Rattle.dvg_lay.specs.Drafts.{given_lines}
use Rattle.dvg_lay.proofs.drafts.put_rows.Given as goal

abbrev pub invariant-loop-row : goal.invariant-loop-row
invariant-loop-row g l = l.text.items ++ given_lines (l.first + l.row * 8) (drop (l.row * 8) l.words) ≡ l.fn.text.items ++ given_lines l.first l.words
