use Rattle.std.proofs.Common.{sym, ◌∙◌}
use Rattle.std.proofs.lemmas.List.{length-replicate}
use Rattle.dvg_log.specs.Events.{spelled_as}
use Rattle.dvg_read.proofs.trace_text.count.Goals as goal

pub returns-clause-value : goal.returns-clause-value
returns-clause-value c = c.from.ensures ∙ sym (length-replicate c.args.repeated.now.count (spelled_as c.args.repeated.now.event))
