use Rattle.std.proofs.Common.{◌*◌, subst}
use Rattle.std.specs.Prelude.{IsTrue, ◌↔◌}
use Rattle.dvg_moment.proofs.Contradicting.{IsAnother, low_answer}
use Rattle.dvg_moment.proofs.judge.MomentJudge.contradicts_low.Goals as goal

pub returns : goal.returns
returns c = λ log stands.
    low_answer c.args.self.now log stands c.args.address c.args.byte c.is_told_as_another.result
    (subst (λ a. IsTrue c.is_told_as_another.result ↔ IsAnother c.args.self.now (2 * a) c.args.byte) c.from.ensures c.is_told_as_another.ensures)
