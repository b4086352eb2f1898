use Rattle.dvg_log.specs.Entries.{shown_of}
use Rattle.dvg_log.specs.Events.{happening_of}
use Rattle.dvg_world.proofs.Judging.{drawn_after}
use Rattle.dvg_world.proofs.judge.Judge.take.Goals as goal

pub returns-clause-stands : goal.returns-clause-stands
returns-clause-stands g c = λ log stands.
    drawn_after _ _ _ log (happening_of c.args.event.now) (shown_of c.args.entry.now) stands c.after_event.ensures c.after_entry-self.ensures

pub returns-clause-torn : goal.returns-clause-torn
returns-clause-torn g c = λ log stands. c.is_torn_by.ensures log (happening_of c.args.event.now) (returns-clause-stands g c log stands)
