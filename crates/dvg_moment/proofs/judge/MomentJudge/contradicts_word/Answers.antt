use Rattle.std.proofs.Common.{◌*◌, ◌+◌, ◌/◌, ◌%◌, refl, sym, ◌∙◌, subst, true≢false}
use Rattle.std.specs.Prelude.{IsTrue, ◌↔◌}
use Rattle.dvg_moment.proofs.Contradicting.{IsAnother, low_found, high_answer}
use Rattle.dvg_moment.proofs.judge.MomentJudge.contradicts_word.Goals as goal
use Rattle.dvg_moment.proofs.judge.MomentJudge.contradicts_word.Goals.{else-not-waits-via-then-not-waits+else-is_told_as_another, else-not-waits-via-else-not-waits}

pub returns-then-is_told_as_another-clause-fetched : goal.returns-then-is_told_as_another-clause-fetched
returns-then-is_told_as_another-clause-fetched c = λ log stands.
    let low = subst (λ a. IsTrue c.is_told_as_another.result ↔ IsAnother c.args.self.now (2 * a) (c.args.word % 256)) c.from-at.ensures c.is_told_as_another.ensures in
    ((λ t. low_found c.args.self.now log stands c.args.address c.args.word (sym c.waits.ensures ∙ c.if-not-waits.true) (low.0 c.if-is_told_as_another.true)), λ k. refl)

pub returns-then-is_told_as_another-clause-done : goal.returns-then-is_told_as_another-clause-done
returns-then-is_told_as_another-clause-done c = λ strokes log stands. returns-then-is_told_as_another-clause-fetched c log stands

pub returns-clause-fetched : goal.returns-clause-fetched
returns-clause-fetched c = λ log stands.
    high_answer c.args.self.now log stands c.args.address c.args.word c.is_told_as_another-2.result
    (subst (λ a. IsTrue c.is_told_as_another-2.result ↔ IsAnother c.args.self.now (2 * a + 1) (c.args.word / 256)) c.from-at.ensures c.is_told_as_another-2.ensures)
    (λ k. true≢false (sym (c.waits_as_another.ensures.1 k) ∙ c.if-waits_as_another.false))
    (λ f. elim c.else-not-waits.branch [
      | else-not-waits-via-then-not-waits+else-is_told_as_another w ↦ (λ k.
          let low = subst (λ a. IsTrue w.is_told_as_another.result ↔ IsAnother c.args.self.now (2 * a) (c.args.word % 256)) c.from-at.ensures w.is_told_as_another.ensures in
          true≢false (sym (low.1 k) ∙ w.if-is_told_as_another.false))
      | else-not-waits-via-else-not-waits w ↦ (λ k. true≢false (sym w.if-not-waits.false ∙ (c.waits.ensures ∙ f)))
    ])

pub returns-clause-done : goal.returns-clause-done
returns-clause-done c = λ strokes log stands. returns-clause-fetched c log stands
