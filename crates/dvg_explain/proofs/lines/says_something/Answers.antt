use Rattle.std.proofs.Common.{◌≡◌, rules}
use Rattle.dvg_read.specs.TextLines.{lines_left}
use Rattle.dvg_read.specs.Texts.{lines}
use Rattle.dvg_explain.specs.Kinds.{Says}
use Rattle.dvg_explain.proofs.LinesLooked.{is_said, looks_first, looks_on, looks_to_end}
use Rattle.dvg_explain.proofs.lines.says_something.Goals as goal

pub loop-line-init : goal.loop-line-init
loop-line-init c =
    let start = c.into_iter-line-iterator.result in
    let all : lines_left start ≡ lines c.args.text.now = search rules in
    record { next = tt; ends = tt; looked = (0, looks_first (λ line. ¬ Says line) c.args.text.now (lines_left start) all) }

pub loop-line-preserved : goal.loop-line-preserved
loop-line-preserved c =
    let looked = c.loop-line.invariant.looked in
    let silent : ¬ Says c.in-Some.line.now = search rules in
    record {
      next = tt;
      ends = tt;
      looked = (_, looks_on (λ line. ¬ Says line) c.args.text.now _ looked.0 looked.1 c.in-Some.line.now _ c.in-Some.ensures.steps silent);
    }

pub returns-then-is_said-clause-silent : goal.returns-then-is_said-clause-silent
returns-then-is_said-clause-silent c silent =
    let looked = c.loop-line.invariant.looked in
    let says : Says c.in-Some.line.now = search rules in
    absurd (is_said c.args.text.now _ looked.0 looked.1 c.in-Some.line.now _ c.in-Some.ensures.steps says silent)

pub returns-clause-said : goal.returns-clause-said
returns-clause-said c is =
    let looked = c.loop-line.invariant.looked in
    looks_to_end (λ line. ¬ Says line) c.args.text.now _ looked.0 looked.1 c.in-None.ensures.steps.0
