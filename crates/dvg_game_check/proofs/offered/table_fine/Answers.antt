use Rattle.std.proofs.Common.{arith}
use Rattle.dvg_game_check.proofs.offered.table_fine.Goals as goal

pub returns-in-Some : goal.returns-in-Some
returns-in-Some g c so = record {
  draft = c.in-Some.draft;
  count = c.word_at-count.result;
  laid = c.is_laid.ensures so;
  head = c.word_at-count.ensures;
  some = omega arith;
  most = omega arith;
  low = omega arith;
  ends = omega arith;
}
