use Rattle.std.proofs.Common.{◌≡◌, take}
use Rattle.dvg_logs.specs.LogLines.{small}
use Rattle.dvg_logs.proofs.log_line.in_small_letters.Given as goal

abbrev pub invariant-loop-byte : goal.invariant-loop-byte
invariant-loop-byte l = l.small.items ≡ small (take l.byte-index l.line)
