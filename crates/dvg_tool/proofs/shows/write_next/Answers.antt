use Rattle.std.proofs.Common.{rules, ◌≡◌, ◌++◌, ◌∙◌, [], ap, append-nil, flat_map, length, sym, subst, true}
use Rattle.std.proofs.lemmas.Bool.{eqb-true}
use Rattle.std.proofs.lemmas.List.{nil_from_length}
use Rattle.dvg_log.specs.Entries.{map_entry}
use Rattle.dvg_print.specs.Shows.{entry_line, shown_entry, stroke_line}
use Rattle.dvg_io.specs.Watching.{Writes}
use Rattle.dvg_io.proofs.WrittenSoFar.{BrokeOff, Wrote, writes_first, writes_second}
use Rattle.dvg_tool.proofs.EntryByEntry.{line_then}
use Rattle.dvg_tool.proofs.shows.write_next.Goals as goal

pub returns-in_err-write_whole-clause-written : goal.returns-in_err-write_whole-clause-written
returns-in_err-write_whole-clause-written g c =
    let strokes = c.args.strokes.now in
    let n = c.args.lines.now.next in
    let line = entry_line n (map_entry (λ _. length strokes) c.args.entry.now) in
    let drawn = flat_map stroke_line strokes in
    let all = line_then n strokes c.args.entry.now c.requires.drawn in
    let first : BrokeOff g.W.Write.contents line c.args.writer.now c.write_whole.new.writer = search rules in
    let broke = subst (λ text. BrokeOff g.W.Write.contents text c.args.writer.now c.write_whole.new.writer) (sym all)
    (writes_first g.W.Write.contents line drawn c.args.writer.now c.write_whole.new.writer first) in
    search rules

pub returns-clause-written : goal.returns-clause-written
returns-clause-written g c =
    let strokes = c.args.strokes.now in
    let n = c.args.lines.now.next in
    let line = entry_line n (map_entry (λ _. length strokes) c.args.entry.now) in
    let drawn = flat_map stroke_line strokes in
    let all = line_then n strokes c.args.entry.now c.requires.drawn in
    let first : Wrote g.W.Write.contents line c.args.writer.now c.write_whole.new.writer = search rules in
    subst (λ text. Writes g.W.Write.contents text c.write_strokes.result c.args.writer.now c.write_strokes.new.writer)
    (sym all)
    (writes_second g.W.Write.contents line drawn c.write_strokes.result
    c.args.writer.now c.write_whole.new.writer c.write_strokes.new.writer first c.write_strokes.ensures)

pub returns-then-is_empty-clause-written : goal.returns-then-is_empty-clause-written
returns-then-is_empty-clause-written g c =
    let strokes = c.args.strokes.now in
    let n = c.args.lines.now.next in
    let line = entry_line n (map_entry (λ _. length strokes) c.args.entry.now) in
    let none : strokes ≡ [] = nil_from_length strokes (eqb-true (length strokes) 0 (sym c.is_empty.ensures ∙ c.if-is_empty.true)) in
    let same : shown_entry true n (map_entry (λ _. strokes) c.args.entry.now) ≡ line =
    line_then n strokes c.args.entry.now c.requires.drawn ∙ ap (λ s. line ++ flat_map stroke_line s) none ∙ append-nil line in
    let first : Wrote g.W.Write.contents line c.args.writer.now c.write_whole.new.writer = search rules in
    subst (λ text. Wrote g.W.Write.contents text c.args.writer.now c.write_whole.new.writer) (sym same) first
