use Rattle.std.proofs.Common.{◌≡◌, ◌∷◌, sym, subst}
use Rattle.std.specs.Prelude.{IsTrue, ◌↔◌}
use Rattle.dvg_log.specs.Entries.{shown_of}
use Rattle.dvg_log.specs.Events.{happening_of}
use Rattle.dvg_log.specs.declared.entry.Entry.TheVariants.{Started}
use Rattle.dvg_log.specs.Log.{◌⟼◌}
use Rattle.dvg_moment.specs.Judging.{StandsAfter}
use Rattle.dvg_moment.proofs.LinesByEntry.{event_stands, begins, begins_not}
use Rattle.dvg_moment.proofs.judge.MomentJudge.take.Goals as goal
use Rattle.dvg_moment.proofs.judge.MomentJudge.take.Goals.{in-Started, in_default}

pub returns-clause-stands : goal.returns-clause-stands
returns-clause-stands g c = λ log stands.
    let starts : IsTrue c.match-matches.matches ↔ (shown_of c.args.entry.now ≡ Started) = elim c.match-matches.branch [
      | in-Started w ↦ begins c.args.entry.now c.match-matches.matches w.matches-is w.in-Started.is
      | in_default w ↦ begins_not c.args.entry.now c.match-matches.matches w.matches-is w.in_default.not-Started
    ] in
    subst (λ left. StandsAfter left ((happening_of c.args.event.now ⟼ shown_of c.args.entry.now) ∷ log)) (sym c.take_event.ensures)
    (event_stands c.take_entry-torn.new.self (shown_of c.args.entry.now) log (happening_of c.args.event.now) c.match-matches.matches starts (c.take_entry-torn.ensures.stands log stands))

pub returns-clause-torn : goal.returns-clause-torn
returns-clause-torn g c = λ log stands. c.take_entry-torn.ensures.torn (happening_of c.args.event.now) log stands
