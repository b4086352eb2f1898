use Rattle.std.proofs.Common.{◌≡◌, ◌+◌, ◌%◌, ◌^◌, ◌<◌, take, rules}
use Rattle.dvg_print.proofs.Counting.{more_at_end, nine_at_end}
use Rattle.dvg_print.proofs.entry_lines.EntryLines.count_on.Goals as goal

pub invariant_of-self : goal.invariant_of-self
invariant_of-self c =
    let old = c.self.inside in
    let small : old.next + 1 < 2 ^ 64 = search rules in (
      c.self.invariant.0,
      more_at_end old.next old.ones (take old.count old.tens) small c.self.invariant.1 c.if-self-lt57.true,
    )

pub next_ten-requires-clause-nine : goal.next_ten-requires-clause-nine
next_ten-requires-clause-nine c =
    let old = c.self.inside in
    let small : old.next + 1 < 2 ^ 64 = search rules in
    let nine = nine_at_end old.next old.ones (take old.count old.tens) small c.self.invariant.1
    c.if-self-lt57.false in
    let last : old.next % 10 ≡ 9 = nine.0 in
    search rules
