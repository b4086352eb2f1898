use Rattle.dvg_calls_cells.proofs.Needed.{premises_follow, all_is_does}
use Rattle.dvg_calls_cells.proofs.NeededRuns.{needs_no_strobe, needs_no_write, needs_rests, needs_count, needs_answers}
use Rattle.dvg_calls_cells.proofs.NeededFree.{needs_free}
use Rattle.dvg_calls_cells.proofs.premises_are_needed.Goals as goal

pub returns : goal.returns
returns c = let shared = c.machine_keeps.ensures.shared in
    record {
      strobe = needs_no_strobe;
      write = needs_no_write shared;
      rests = needs_rests shared;
      free = needs_free shared;
      count = needs_count shared;
      answers = needs_answers shared;
      others = all_is_does;
      follow = premises_follow shared;
    }
