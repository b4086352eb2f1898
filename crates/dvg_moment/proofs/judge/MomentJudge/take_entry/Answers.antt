use Rattle.std.proofs.Common.{◌∷◌, sym, subst}
use Rattle.std.specs.Prelude.{IsTrue, ◌↔◌}
use Rattle.dvg_log.specs.Entries.{shown_of}
use Rattle.dvg_log.specs.declared.entry.Entry.TheVariants.{Started, Low, Fetched, Done, Broke}
use Rattle.dvg_log.specs.declared.event.Event.TheVariants.{Fetch, Strobe, Tick}
use Rattle.dvg_log.specs.Log.{◌⟼◌}
use Rattle.dvg_moment.specs.Moment.{IsOfOneMoment, told}
use Rattle.dvg_moment.specs.Judging.{StandsAfter}
use Rattle.dvg_moment.proofs.LinesByEntry.{as_tick, rest_stands, not_judged, broke_stands, done_same}
use Rattle.dvg_moment.proofs.judge.MomentJudge.take_entry.Goals as goal

pub returns-in-Started-clause-stands : goal.returns-in-Started-clause-stands
returns-in-Started-clause-stands g c = λ log stands.
    subst (λ n. StandsAfter c.started.new.self ((Tick ⟼ shown_of n) ∷ log)) (sym c.in-Started.is) (as_tick c.started.new.self Started log Strobe tt (c.started.ensures log stands))

pub returns-in-Low-clause-stands : goal.returns-in-Low-clause-stands
returns-in-Low-clause-stands g c = λ log stands.
    subst (λ n. StandsAfter c.low.new.self ((Tick ⟼ shown_of n) ∷ log)) (sym c.in-Low.is)
    (as_tick c.low.new.self (Low c.in-Low.address c.in-Low.byte) log Fetch tt (c.low.ensures log stands))

pub returns-in-Fetched-clause-stands : goal.returns-in-Fetched-clause-stands
returns-in-Fetched-clause-stands g c = λ log stands.
    subst (λ n. StandsAfter c.fetched.new.self ((Tick ⟼ shown_of n) ∷ log)) (sym c.in-Fetched.is)
    (as_tick c.fetched.new.self (Fetched c.in-Fetched.address c.in-Fetched.word) log Fetch tt (c.fetched.ensures log stands))

pub returns-in-Done-clause-stands : goal.returns-in-Done-clause-stands
returns-in-Done-clause-stands g c = λ log stands.
    subst (λ n. StandsAfter c.done.new.self ((Tick ⟼ shown_of n) ∷ log)) (sym c.in-Done.is)
    (as_tick c.done.new.self (Done c.in-Done.address c.in-Done.word c.in-Done.field-2.items) log Fetch tt (c.done.ensures.stands c.in-Done.field-2.items log stands))

pub returns-in-Done-clause-torn : goal.returns-in-Done-clause-torn
returns-in-Done-clause-torn g c = λ event log stands.
    let t = c.done.ensures.torn c.in-Done.field-2.items log stands in
    subst (λ n. IsTrue c.done.result ↔ ¬ IsOfOneMoment told log event (shown_of n)) (sym c.in-Done.is) (
      (λ y f. t.0 y (done_same event Fetch log c.in-Done.address c.in-Done.word c.in-Done.field-2.items f)),
      λ n. t.1 (λ f. n (done_same Fetch event log c.in-Done.address c.in-Done.word c.in-Done.field-2.items f)),
    )

pub returns-in-Broke-clause-stands : goal.returns-in-Broke-clause-stands
returns-in-Broke-clause-stands g c = λ log stands.
    subst (λ n. StandsAfter c.end.new.self ((Tick ⟼ shown_of n) ∷ log)) (sym c.in-Broke.is)
    (subst (λ left. StandsAfter left ((Tick ⟼ Broke c.in-Broke.field-0 c.in-Broke.field-1) ∷ log)) (sym c.end.ensures) (broke_stands c.args.self.now c.in-Broke.field-0 c.in-Broke.field-1 log stands))

pub returns-in-Acted-clause-stands : goal.returns-in-Acted-clause-stands
returns-in-Acted-clause-stands g c = λ log stands. subst (λ n. StandsAfter c.take_action.new.self ((Tick ⟼ shown_of n) ∷ log)) (sym c.in-Acted.is) (c.take_action.ensures log stands)

pub returns-in_default-clause-stands : goal.returns-in_default-clause-stands
returns-in_default-clause-stands g c = λ log stands.
    rest_stands c.args.self.now c.args.entry.now log c.in_default.not-Started c.in_default.not-Low c.in_default.not-Fetched c.in_default.not-Done c.in_default.not-Broke c.in_default.not-Acted stands

pub returns-in_default-clause-torn : goal.returns-in_default-clause-torn
returns-in_default-clause-torn g c = λ event log stands. not_judged c.args.entry.now log event c.in_default.not-Done
