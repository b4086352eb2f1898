use Rattle.std.proofs.Common.{◌+◌, ap, sym, ◌∙◌, subst}
use Rattle.dvg_frame.specs.Picture.{IsBound}
use Rattle.dvg_frame.proofs.Straight.{accepted}
use Rattle.dvg_frame.proofs.checking.checks.Checker.check.Goals as goal

pub returns-then-measure : goal.returns-then-measure
returns-then-measure g c =
    let (accepts, bound) = accepted c.args.ops.now c.args.rom.now _ c.in-Ok.ensures.0 (c.in-Ok.ensures.1.straight.0 c.if-measure.true) c.in-Ok.ensures.1.words in (
      accepts,
      ap (λ frame. frame.operations) c.of.ensures,
      subst (IsBound c.args.ops.now c.args.rom.now)
          (ap (λ words. words + 1) (sym c.from.ensures) ∙ sym (ap (λ frame. frame.bound) c.of.ensures)) bound,
    )
