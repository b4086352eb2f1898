use Rattle.std.proofs.Common.{rules, true, ◌≡◌, ◌+◌, length, replicate, ap, ◌∙◌, sym, subst, arith, length-append}
use Rattle.std.proofs.lemmas.List.{length-replicate}
use Rattle.std.specs.Io.KnownBytes.{Appends}
use Rattle.dvg_print.specs.Shows.{shown}
use Rattle.dvg_io.specs.Watching.{BeginsToWrite, Went, stream_of}
use Rattle.dvg_io.proofs.WrittenSoFar.{all_of_it, piece_begun, piece_more}
use Rattle.dvg_world.specs.Keeping.{entry_in}
use Rattle.dvg_tool.proofs.EntryByEntry.{shown_run}
use Rattle.dvg_tool.proofs.shows.write_entries.Goals as goal

pub returns-in_err-write_run : goal.returns-in_err-write_run
returns-in_err-write_run g c =
    let run = c.in-Some.run' in
    let rest = c.next.new.self in
    let n = c.loop-run.lines.next in
    let piece = shown true n (replicate run.times (entry_in run)) in
    let next = ap (shown true n) c.in-Some.ensures.steps.2 ∙ shown_run true n run.times (entry_in run) rest in
    let old = g.W.Write.contents (stream_of c.loop-run.writer) in
    let new = g.W.Write.contents (stream_of c.write_run.new.writer) in
    let begun : BeginsToWrite piece old new = search rules in
    let all = piece_begun piece (shown true (n + run.times) rest) c.loop-run.invariant.went next begun in
    search rules

pub loop-run-preserved : goal.loop-run-preserved
loop-run-preserved g c =
    let run = c.in-Some.run' in
    let rest = c.next.new.self in
    let n = c.loop-run.lines.next in
    let piece = shown true n (replicate run.times (entry_in run)) in
    let steps = c.in-Some.ensures.steps.2 in
    let next = ap (shown true n) steps ∙ shown_run true n run.times (entry_in run) rest in
    let start = g.W.Write.contents (stream_of c.args.writer.now) in
    let old = g.W.Write.contents (stream_of c.loop-run.writer) in
    let new = g.W.Write.contents (stream_of c.write_run.new.writer) in
    let wrote : Appends old new piece = search rules in
    let all = shown true 0 c.args.entries.now in
    let went : Went all (shown true (n + run.times) rest) start new =
    piece_more piece (shown true (n + run.times) rest) c.loop-run.invariant.went next wrote in
    let number : c.write_run.new.lines.next ≡ n + run.times = search rules in
    let few = c.loop-run.invariant.few in
    let longer = ap length steps in
    let sum = length-append (replicate run.times (entry_in run)) rest in
    let times = length-replicate run.times (entry_in run) in
    record {
      counted = search rules;
      few = omega (arith, few, longer, sum, times, number);
      went = subst (λ m. Went all (shown true m rest) start new) (sym number) went;
    }

pub returns : goal.returns
returns g c =
    let all = all_of_it c.loop-run.invariant.went (ap (shown true c.loop-run.lines.next) c.in-None.ensures.steps.0) in
    (all, c.loop-run.invariant.counted)
