use Rattle.std.proofs.Common.{◌≡◌, ◌∙◌, false, sym, true≢false}
use Rattle.dvg_log.specs.Log.{open_run}
use Rattle.dvg_world.specs.Judging.{draws_half}
use Rattle.dvg_world.proofs.HalvesDrawn.{as_drawn, half_passes, not_within}
use Rattle.dvg_world.proofs.judge.Judge.is_drawing.Goals as goal

pub returns-in-Within-clause-counted : goal.returns-in-Within-clause-counted
returns-in-Within-clause-counted c = λ log stands.
    sym (half_passes (open_run log) c.in-Within.field-0 (rw c.in-Within.is at stands))

pub returns-in_default-clause-counted : goal.returns-in_default-clause-counted
returns-in_default-clause-counted c = λ log stands.
    sym (not_within c.args.self.now.drawing c.in_default.not-Within (open_run log) stands)

pub returns-in_default-clause-drawn : goal.returns-in_default-clause-drawn
returns-in_default-clause-drawn c = λ log stands.
    let none : draws_half (open_run log) ≡ false = not_within c.args.self.now.drawing c.in_default.not-Within (open_run log) stands in
    (λ e. absurd (true≢false (sym e)), λ drawn. absurd (true≢false (sym (half_passes (open_run log) drawn.0 (as_drawn log drawn.0 drawn.1)) ∙ none)))
