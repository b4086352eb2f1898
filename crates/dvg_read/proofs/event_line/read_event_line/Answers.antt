use Rattle.dvg_log.specs.Events.{spelled_as}
use Rattle.dvg_read.proofs.EventRows.{alone_row, named_made, named_only}
use Rattle.dvg_read.proofs.FirstBytes.{IsCutAt, cut_at_first}
use Rattle.dvg_read.proofs.Spaces.{found_whole, one_operand, part_ended, part_unended}
use Rattle.dvg_read.proofs.event_line.read_event_line.Goals as goal

pub returns-in-Some-clause-found : goal.returns-in-Some-clause-found
returns-in-Some-clause-found c = named_made (spelled_as c.in-Some.event) c.args.line.now c.in-Some.ensures.found

pub returns-in-Some-clause-only : goal.returns-in-Some-clause-only
returns-in-Some-clause-only c = named_only (spelled_as c.in-Some.event) c.args.line.now c.in-Some.ensures.found c.in-Some.ensures.only

pub returns-in_err-space-clause-only : goal.returns-in_err-space-clause-only
returns-in_err-space-clause-only c events h =
    let cut : IsCutAt 32 c.args.line.now c.memchr.result = cut_at_first 32 c.args.line.now _ c.memchr.ensures in
    let row = alone_row (rw (part_unended c.args.line.now (rw c.in_err-space.was at cut)) at h) in
    let answered = c.in_default.ensures.only row.event row.named in absurd answered

pub returns-clause-found : goal.returns-clause-found
returns-clause-found c =
    let cut : IsCutAt 32 c.args.line.now c.memchr.result = cut_at_first 32 c.args.line.now _ c.memchr.ensures in
    rw (part_ended c.args.line.now c.in_ok-space.space (rw c.in_ok-space.was at cut)) (found_whole _ _ _ c.with_operand.ensures.found)

pub returns-clause-only : goal.returns-clause-only
returns-clause-only c events h =
    let cut : IsCutAt 32 c.args.line.now c.memchr.result = cut_at_first 32 c.args.line.now _ c.memchr.ensures in
    c.with_operand.ensures.only events (one_operand (rw (part_ended c.args.line.now c.in_ok-space.space (rw c.in_ok-space.was at cut)) at h))
