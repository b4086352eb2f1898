use Rattle.std.proofs.Common.{All, ◌∙◌, subst, sym}
use Rattle.dvg_named.specs.ReadSketches.{IsSketchOf}
use Rattle.dvg_blame.specs.Refusals.{IsFault, IsGood, IsLent}
use Rattle.dvg_blame.proofs.LentFrames.{all_lent}
use Rattle.dvg_explain.proofs.FramesAnswered.{accepts, refuses}
use Rattle.dvg_explain.proofs.frames.check_read.Goals as goal

pub check_all-requires : goal.check_all-requires
check_all-requires g c =
    let sketch = c.args.sketch.now in
    subst (All IsLent) (sym c.as_slice-3.ensures.value)
    (all_lent c.requires.read.0 sketch.rom.items sketch.names.items c.in_ok-frames.frames.items
    (subst (IsSketchOf c.requires.read.0 sketch.rom.items sketch.names.items) (sym c.in_ok-frames.ensures) c.requires.read.1))

pub returns-in-Ok-check_all-clause-frames : goal.returns-in-Ok-check_all-clause-frames
returns-in-Ok-check_all-clause-frames g c text is =
    accepts text c.args.sketch.now c.in_ok-frames.frames.items c.in-Ok.rom c.in_ok-frames.ensures
    (c.in-Ok.ensures.bytes ∙ c.as_slice.ensures.value) is
    (subst (All (IsGood c.in-Ok.rom)) c.as_slice-3.ensures.value c.in-Ok-check_all.ensures.good)

pub returns-clause-frames : goal.returns-clause-frames
returns-clause-frames g c text is =
    let fault = rw c.in-Err-Refused.field-0-is at c.in-Err-Refused.ensures.refused in
    refuses text c.args.sketch.now c.in_ok-frames.frames.items c.in-Ok.rom c.as_slice-2.result.now c.in-Err-Refused.refusal c.in_ok-frames.ensures
    (c.in-Ok.ensures.bytes ∙ c.as_slice.ensures.value) is
    (subst (λ frames. IsFault c.in-Ok.rom c.as_slice-2.result.now frames c.in-Err-Refused.refusal) c.as_slice-3.ensures.value fault)
