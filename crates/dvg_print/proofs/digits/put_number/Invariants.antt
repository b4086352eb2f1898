use Rattle.std.proofs.Common.{◌≡◌, ◌+◌, ◌≤◌, ◌++◌, length, drop}
use Rattle.std.specs.Fmt.{decimal}
use Rattle.dvg_print.proofs.digits.put_number.Given as goal

abbrev pub invariant-loop-left : goal.invariant-loop-left
invariant-loop-left l = record {
  room : length (decimal l.left) ≤ l.at;
  inside : l.at ≤ l.end;
  start : l.at + length (decimal l.number) ≡ l.end + length (decimal l.left);
  text : decimal l.left ++ drop l.at l.bytes ≡ decimal l.number ++ drop l.end l.fn.bytes;
}

abbrev pub decreases-loop-left : goal.decreases-loop-left
decreases-loop-left l = l.left
