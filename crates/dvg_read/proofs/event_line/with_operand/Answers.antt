use Rattle.std.proofs.Common.{◌≡◌, codes, rules, ⊎_elim}
use Rattle.dvg_log.specs.Events.{spelled_as}
use Rattle.dvg_read.specs.EventLines.{TakesCount}
use Rattle.dvg_read.proofs.EventRows.{operand_row, resetall_made, resetall_only, times_made}
use Rattle.dvg_read.proofs.event_line.with_operand.Goals as goal

pub returns-then-eq-clause-found : goal.returns-then-eq-clause-found
returns-then-eq-clause-found c =
    let name : c.args.name.now ≡ codes "resetall" = search rules in resetall_made c.in_ok-byte.field-0 c.args.name.now c.args.operand.now name c.in_ok-byte.ensures.found

pub returns-then-eq-clause-only : goal.returns-then-eq-clause-only
returns-then-eq-clause-only c =
    let name : c.args.name.now ≡ codes "resetall" = search rules in resetall_only c.in_ok-byte.field-0 c.args.name.now c.args.operand.now name c.in_ok-byte.ensures.only

pub returns-in_err-event-clause-only : goal.returns-in_err-event-clause-only
returns-in_err-event-clause-only c events h =
    let other : c.args.name.now ≡ codes "resetall" → ⊥ = search rules in
    ⊎_elim (λ r. let answered = c.in_err-event.ensures.only r.event r.named in absurd answered) (λ r. absurd (other r.named)) (operand_row h)

pub returns-clause-found : goal.returns-clause-found
returns-clause-found c =
    let counts : TakesCount (spelled_as c.in_ok-event.event) = search rules in
    times_made (spelled_as c.in_ok-event.event) c.in_ok-times.field-0 c.args.name.now c.args.operand.now c.in_ok-event.ensures.found counts c.in_ok-times.ensures.found c.in_ok-times.ensures.least c.in_ok-times.ensures.most
