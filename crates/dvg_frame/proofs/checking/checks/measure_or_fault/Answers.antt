use Rattle.std.proofs.Common.{arith}
use Rattle.dvg_frame.specs.Ops.{IsDraft}
use Rattle.dvg_frame.proofs.Firsts.{begins_with, frame_by, too_long, long_list, fits_by}
use Rattle.dvg_frame.proofs.Measured.{misses_none}
use Rattle.dvg_frame.proofs.Sizes.{read_op}
use Rattle.dvg_frame.proofs.checking.checks.measure_or_fault.Goals as goal

pub returns-then-count-gt-MAX_OPS : goal.returns-then-count-gt-MAX_OPS
returns-then-count-gt-MAX_OPS c = λ R.
    let op = read_op c.args.draft.now 0 _ (omega (arith, c.if-count-eq0.false)) c.index-draft-0.is in (
      begins_with _ _ _ op c.kind.ensures.value (c.is_labs.ensures.0 c.if-not-is_labs.false),
      long_list _ c.if-count-gt-MAX_OPS.true,
    )

pub returns-then-measure-gt-MAX_WORDS : goal.returns-then-measure-gt-MAX_WORDS
returns-then-measure-gt-MAX_WORDS c = λ R.
    let op = read_op c.args.draft.now 0 _ (omega (arith, c.if-count-eq0.false)) c.index-draft-0.is in (
      begins_with _ _ _ op c.kind.ensures.value (c.is_labs.ensures.0 c.if-not-is_labs.false),
      too_long _ _ c.measured-measure.ensures.words c.if-measure-gt-MAX_WORDS.true,
    )

pub returns-then-measure : goal.returns-then-measure
returns-then-measure c =
    let op = read_op c.args.draft.now 0 _ (omega (arith, c.if-count-eq0.false)) c.index-draft-0.is in
    let draft : IsDraft c.args.draft.now = record { count = c.if-count-gt-MAX_OPS.false; ops = c.are_ops.ensures } in
    let runs = c.measured-measure.ensures.straight.0 c.if-measure.true in (
      frame_by _ _ _ _ draft op c.kind.ensures.value (c.is_labs.ensures.0 c.if-not-is_labs.false)
          c.measured-measure.ensures.words c.if-measure-gt-MAX_WORDS.false (misses_none _ runs),
      c.measured-measure.ensures,
    )

pub returns-in-Some : goal.returns-in-Some
returns-in-Some c = λ R.
    let op = read_op c.args.draft.now 0 _ (omega (arith, c.if-count-eq0.false)) c.index-draft-0.is in (
      begins_with _ _ _ op c.kind.ensures.value (c.is_labs.ensures.0 c.if-not-is_labs.false),
      fits_by _ _ c.measured-measure.ensures.words c.if-measure-gt-MAX_WORDS.false,
      c.in-Some.ensures.0,
      c.in-Some.ensures.1,
    )

pub returns-in-None : goal.returns-in-None
returns-in-None c =
    let op = read_op c.args.draft.now 0 _ (omega (arith, c.if-count-eq0.false)) c.index-draft-0.is in
    let draft : IsDraft c.args.draft.now = record { count = c.if-count-gt-MAX_OPS.false; ops = c.are_ops.ensures } in (
      frame_by _ _ _ _ draft op c.kind.ensures.value (c.is_labs.ensures.0 c.if-not-is_labs.false)
          c.measured-measure.ensures.words c.if-measure-gt-MAX_WORDS.false c.in-None.ensures,
      c.measured-measure.ensures,
    )
