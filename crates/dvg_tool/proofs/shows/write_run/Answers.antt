use Rattle.std.proofs.Common.{rules, true, ℕ, ◌≡◌, ◌+◌, ◌-◌, replicate, sym, subst}
use Rattle.dvg_print.specs.Shows.{shown, shown_entry}
use Rattle.dvg_io.specs.Watching.{Writes}
use Rattle.dvg_io.proofs.WrittenSoFar.{BrokeOff, Wrote, writes_first, writes_second}
use Rattle.dvg_world.specs.Keeping.{entry_in}
use Rattle.dvg_tool.proofs.EntryByEntry.{first_alike, one_alike}
use Rattle.dvg_tool.proofs.shows.write_run.Goals as goal

pub returns-in_err-write_next-clause-written : goal.returns-in_err-write_next-clause-written
returns-in_err-write_next-clause-written g c =
    let entry = entry_in c.args.run in
    let n = c.args.lines.now.next in
    let first = shown_entry true n entry in
    let later = shown true (n + 1) (replicate (c.args.run.times - 1) entry) in
    let broke : BrokeOff g.W.Write.contents first c.args.writer.now c.write_next.new.writer = search rules in
    let all = subst (λ text. BrokeOff g.W.Write.contents text c.args.writer.now c.write_next.new.writer)
    (sym (first_alike true n c.args.run.times entry c.requires.some))
    (writes_first g.W.Write.contents first later c.args.writer.now c.write_next.new.writer broke) in
    search rules

pub returns-then-run-eq1-clause-written : goal.returns-then-run-eq1-clause-written
returns-then-run-eq1-clause-written g c =
    let entry = entry_in c.args.run in
    let n = c.args.lines.now.next in
    let wrote : Wrote g.W.Write.contents (shown_entry true n entry) c.args.writer.now c.write_next.new.writer =
    search rules in
    subst (λ text. Wrote g.W.Write.contents text c.args.writer.now c.write_next.new.writer)
    (sym (one_alike true n c.args.run.times entry c.if-run-eq1.true)) wrote

pub returns-clause-written : goal.returns-clause-written
returns-clause-written g c =
    let entry = entry_in c.args.run in
    let n = c.args.lines.now.next in
    let first = shown_entry true n entry in
    let later = λ (m : ℕ). shown true m (replicate (c.args.run.times - 1) entry) in
    let wrote : Wrote g.W.Write.contents first c.args.writer.now c.write_next.new.writer = search rules in
    let next : c.write_next.new.lines.next ≡ n + 1 = search rules in
    let others = subst (λ m. Writes g.W.Write.contents (later m) c.write_others.result c.write_next.new.writer
    c.write_others.new.writer) next c.write_others.ensures.written in
    subst (λ text. Writes g.W.Write.contents text c.write_others.result c.args.writer.now c.write_others.new.writer)
    (sym (first_alike true n c.args.run.times entry c.requires.some))
    (writes_second g.W.Write.contents first (later (n + 1)) c.write_others.result
    c.args.writer.now c.write_next.new.writer c.write_others.new.writer wrote others)
