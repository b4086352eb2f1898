use Rattle.std.proofs.Common.{◌≡◌, ◌∷◌, Bool, true, false, refl}
use Rattle.std.specs.Prelude.{IsTrue}
use Rattle.dvg_log.specs.declared.entry.Entry.TheVariants.{Done}
use Rattle.dvg_log.specs.declared.event.Event.TheVariants.{Fetch}
use Rattle.dvg_log.specs.Log.{◌⟼◌}
use Rattle.dvg_moment.proofs.OfOneMoment.{told_of_one_moment}
use Rattle.dvg_moment.proofs.JudgeAfterLog.{done_left, done_answer}
use Rattle.dvg_moment.proofs.judge.MomentJudge.done.Goals as goal

pub returns-clause-stands : goal.returns-clause-stands
returns-clause-stands c = λ strokes log stands.
    done_left c.args.self.now c.read_word.new.self c.end.new.self log c.args.address c.args.word strokes stands c.read_word.ensures c.end.ensures

pub returns-clause-torn : goal.returns-clause-torn
returns-clause-torn c = λ strokes log stands.
    done_answer c.args.self.now c.read_word.new.self log c.args.address c.args.word strokes c.has_no_moment-torn.result stands c.read_word.ensures c.has_no_moment-torn.ensures

not_true : (answer : Bool) → ¬ IsTrue answer → answer ≡ false
not_true true n = absurd (n refl)
not_true false n = refl

pub returns-clause-legal : goal.returns-clause-legal
returns-clause-legal c = λ R image strokes log stands legal.
    not_true c.has_no_moment-torn.result
    (λ y. (returns-clause-torn c strokes log stands).0 y (told_of_one_moment R image ((Fetch ⟼ Done c.args.address c.args.word strokes) ∷ log) legal).0)
