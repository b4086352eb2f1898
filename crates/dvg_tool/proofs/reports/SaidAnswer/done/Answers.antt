use Rattle.std.proofs.Common.{◌≡◌, ◌∙◌, false, sym, true}
use Rattle.dvg_tool.proofs.Reported.{bad_frames, good_frames}
use Rattle.dvg_tool.proofs.reports.SaidAnswer.done.Goals as goal

pub returns-then-is_good : goal.returns-then-is_good
returns-then-is_good g c = sym (good_frames _ (c.is_good.ensures.0 c.if-is_good.true))

pub returns : goal.returns
returns g c =
    sym (bad_frames _ (λ all. let never : true ≡ false = sym (c.is_good.ensures.1 all) ∙ c.if-is_good.false in cc))
