use Rattle.std.proofs.Common.{rules, true, ℕ, ◌≡◌, ◌+◌, ◌-◌, ◌∙◌, ap, arith, length, replicate, sym, subst}
use Rattle.std.specs.Io.KnownBytes.{Appends}
use Rattle.dvg_log.specs.Entries.{map_entry}
use Rattle.dvg_print.specs.Shows.{entry_line, shown, shown_entry}
use Rattle.dvg_io.specs.Watching.{BeginsToWrite, Went, stream_of}
use Rattle.dvg_io.proofs.WrittenSoFar.{piece_begun, piece_more}
use Rattle.dvg_world.specs.Keeping.{entry_in}
use Rattle.dvg_tool.proofs.EntryByEntry.{next_alike}
use Rattle.dvg_tool.proofs.shows.write_others.Goals as goal

pub returns-in_err-write_next-clause-written : goal.returns-in_err-write_next-clause-written
returns-in_err-write_next-clause-written g c =
    let entry = entry_in c.args.run in
    let times = c.args.run.times in
    let done = c.loop-again._again in
    let n = c.loop-again.lines.next in
    let old = g.W.Write.contents (stream_of c.loop-again.writer) in
    let new = g.W.Write.contents (stream_of c.write_next.new.writer) in
    let begun : BeginsToWrite (shown_entry true n entry) old new = search rules in
    let all = piece_begun (shown_entry true n entry) (shown true (n + 1) (replicate (times - (done + 1)) entry))
    c.loop-again.invariant.went (next_alike true n done times entry c.loop-again-test.true) begun in
    search rules

pub loop-again-preserved : goal.loop-again-preserved
loop-again-preserved g c =
    let entry = entry_in c.args.run in
    let times = c.args.run.times in
    let done = c.loop-again._again in
    let n = c.loop-again.lines.next in
    let later = replicate (times - (done + 1)) entry in
    let old = g.W.Write.contents (stream_of c.loop-again.writer) in
    let new = g.W.Write.contents (stream_of c.write_next.new.writer) in
    let start = g.W.Write.contents (stream_of c.args.writer.now) in
    let text = shown true c.args.lines.now.next (replicate (times - 1) entry) in
    let wrote : Appends old new (shown_entry true n entry) = search rules in
    let went : Went text (shown true (n + 1) later) start new =
    piece_more (shown_entry true n entry) (shown true (n + 1) later) c.loop-again.invariant.went
    (next_alike true n done times entry c.loop-again-test.true) wrote in
    let next : c.write_next.new.lines.next ≡ n + 1 = search rules in
    let line = λ (m : ℕ). entry_line m (map_entry (λ _. length c.args.run.strokes.now) c.args.run.entry.now) in
    let before : n ≡ c.write_next.new.lines.next - 1 = omega (arith, next) in
    record {
      counted = search rules;
      next = search rules;
      alike = c.write_next.ensures.text ∙ ap line before;
      went = subst (λ m. Went text (shown true m later) start new) (sym next) went;
    }
