use Rattle.std.proofs.Common.{[], false, refl, sym, subst}
use Rattle.dvg_driver.specs.declared.action.Action.TheVariants as actions
use Rattle.dvg_log.specs.declared.entry.Entry.TheVariants as entries
use Rattle.dvg_log.specs.declared.event.Event.TheVariants.{Tick, Strobe, Fetch, ResetGen, ResetAll}
use Rattle.dvg_log.specs.Log.{◌⟼◌}
use Rattle.dvg_device.specs.Judges.{JudgesLine, line_of}
use Rattle.dvg_device.proofs.JudgeSays.{reads_nothing, was_told}
use Rattle.dvg_device.proofs.judging.tell.Goals as goal

pub returns-in-Passed : goal.returns-in-Passed
returns-in-Passed c = subst (λ line. JudgesLine (line_of line) c.args.judge.now c.args.judge.now c.standing.result) (sym c.in-Passed.is)
    (was_told (Tick ⟼ entries.Acted actions.Idle) c.args.judge.now c.args.judge.now false c.standing.result
    c.passed.ensures c.standing.ensures (λ log s. reads_nothing log Tick (entries.Acted actions.Idle) (λ a. refl)) (λ log run now. now))

pub returns-in-Started : goal.returns-in-Started
returns-in-Started c = subst (λ line. JudgesLine (line_of line) c.args.judge.now c.started.new.self c.standing-in-Started.result) (sym c.in-Started.is)
    (was_told (Strobe ⟼ entries.Started) c.args.judge.now c.started.new.self false c.standing-in-Started.result
    c.started.ensures c.standing-in-Started.ensures (λ log s. reads_nothing log Strobe entries.Started (λ a. refl)) (λ log run now. now))

pub returns-in-Low : goal.returns-in-Low
returns-in-Low c = subst (λ line. JudgesLine (line_of line) c.args.judge.now c.low.new.self c.standing-in-Low.result) (sym c.in-Low.is)
    (was_told (Fetch ⟼ entries.Low c.in-Low.address c.in-Low.byte) c.args.judge.now c.low.new.self c.contradicts_low-wrong.result c.standing-in-Low.result
    c.low.ensures c.standing-in-Low.ensures c.contradicts_low-wrong.ensures (λ log run now. now))

pub returns-in-Fetched : goal.returns-in-Fetched
returns-in-Fetched c = subst (λ line. JudgesLine (line_of line) c.args.judge.now c.fetched.new.self c.standing-in-Fetched.result) (sym c.in-Fetched.is)
    (was_told (Fetch ⟼ entries.Fetched c.in-Fetched.address c.in-Fetched.word) c.args.judge.now c.fetched.new.self c.contradicts_word-wrong.result c.standing-in-Fetched.result
    c.fetched.ensures c.standing-in-Fetched.ensures c.contradicts_word-wrong.ensures.fetched (λ log run now. now))

pub returns-in-Wrote : goal.returns-in-Wrote
returns-in-Wrote c = subst (λ line. JudgesLine (line_of line) c.args.judge.now c.wrote.new.self c.standing-in-Wrote.result) (sym c.in-Wrote.is)
    (was_told (Tick ⟼ entries.Acted (actions.Wrote c.in-Wrote.address c.in-Wrote.byte)) c.args.judge.now c.wrote.new.self false c.standing-in-Wrote.result
    c.wrote.ensures c.standing-in-Wrote.ensures (λ log s. reads_nothing log Tick (entries.Acted (actions.Wrote c.in-Wrote.address c.in-Wrote.byte)) (λ a. refl)) (λ log run now. now))

pub returns-in-Ended : goal.returns-in-Ended
returns-in-Ended c = subst (λ line. JudgesLine (line_of line) c.args.judge.now c.ended.new.self c.standing-in-Ended.result) (sym c.in-Ended.is)
    (was_told (ResetGen ⟼ entries.Cleared) c.args.judge.now c.ended.new.self false c.standing-in-Ended.result
    c.ended.ensures c.standing-in-Ended.ensures (λ log s. reads_nothing log ResetGen entries.Cleared (λ a. refl)) (λ log run now. now))

pub returns-in-Reset : goal.returns-in-Reset
returns-in-Reset c = subst (λ line. JudgesLine (line_of line) c.args.judge.now c.reset.new.self c.standing-in-Reset.result) (sym c.in-Reset.is)
    (was_told (ResetAll [] ⟼ entries.Cleared) c.args.judge.now c.reset.new.self false c.standing-in-Reset.result
    (λ log s. c.reset.ensures [] log s) c.standing-in-Reset.ensures (λ log s. reads_nothing log (ResetAll []) entries.Cleared (λ a. refl)) (λ log run now. now))
