use Rattle.std.proofs.Common.{◌≡◌, arith, rules}
use Rattle.dvg_read.specs.TextLines.{lines_left}
use Rattle.dvg_read.specs.Texts.{lines}
use Rattle.dvg_explain.specs.Answers.{TellsSome}
use Rattle.dvg_explain.proofs.LinesLooked.{few_lines, looks_first, looks_on, looks_to_end, stops_log}
use Rattle.dvg_explain.proofs.asking.log_fault.Goals as goal

pub loop-line-init : goal.loop-line-init
loop-line-init c =
    let start = c.into_iter-line-iterator.result in
    let all : lines_left start ≡ lines c.args.text.now = search rules in
    record { next = tt; ends = tt; short = search rules; looked = looks_first TellsSome c.args.text.now (lines_left start) all }

pub overflow_add-number : goal.overflow_add-number
overflow_add-number c =
    let few = few_lines TellsSome c.args.text.now _ c.loop-line.number c.loop-line.invariant.looked c.loop-line.invariant.short in
    omega (arith, few)

pub loop-line-preserved : goal.loop-line-preserved
loop-line-preserved c = record {
  next = tt;
  ends = tt;
  short = c.loop-line.invariant.short;
  looked = looks_on TellsSome c.args.text.now _ c.loop-line.number c.loop-line.invariant.looked c.in-Some.line.now _ c.in-Some.ensures.steps (_, c.in-Some-read_log_line.ensures.found);
}

pub returns-in-None-read_log_line : goal.returns-in-None-read_log_line
returns-in-None-read_log_line c =
    stops_log c.args.text.now _ c.loop-line.number c.loop-line.invariant.looked c.in-Some.line.now _ c.in-Some.ensures.steps
    (λ tells. c.in-None-read_log_line.ensures.only tells.0 tells.1)

pub returns : goal.returns
returns c = looks_to_end TellsSome c.args.text.now _ c.loop-line.number c.loop-line.invariant.looked c.in-None.ensures.steps.0
