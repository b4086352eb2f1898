use Rattle.std.proofs.Common.{◌≡◌, ◌+◌, ◌-◌, ◌*◌, ◌<◌, ◌∙◌, ap, length, take, drop, arith, rules}
use Rattle.dvg_print.specs.Lines.{rom_line}
use Rattle.dvg_io.specs.Watching.{BeginsToWrite, stream_of}
use Rattle.dvg_tool.proofs.RomLines.{all_rows, row_begun, row_written}
use Rattle.dvg_tool.proofs.roms.write_rows.Goals as goal

pub returns-in_err-write_whole : goal.returns-in_err-write_whole
returns-in_err-write_whole g c =
    let words = c.args.words.now in
    let eight : c.loop-row.row * 8 + 8 - c.loop-row.row * 8 ≡ 8 = omega arith in
    let is : c.as_bytes.result.now ≡ rom_line (c.args.first + c.loop-row.row * 8) (take 8 (drop (c.loop-row.row * 8) words)) =
    c.as_bytes.ensures ∙ c.become_rom.ensures ∙ ap (λ a. rom_line (a + c.loop-row.row * 8) (take (c.loop-row.row * 8 + 8 - c.loop-row.row * 8) (drop (c.loop-row.row * 8) words))) c.from.ensures
    ∙ ap (λ k. rom_line (c.args.first + c.loop-row.row * 8) (take k (drop (c.loop-row.row * 8) words))) eight in
    let begun : BeginsToWrite c.as_bytes.result.now (g.W.Write.contents (stream_of c.loop-row.writer)) (g.W.Write.contents (stream_of c.write_whole.new.writer)) = search rules in
    let all = row_begun c.args.first words c.as_bytes.result.now c.loop-row.row _ _ _ (search rules) c.loop-row.invariant.written is begun in
    search rules

pub loop-row-preserved : goal.loop-row-preserved
loop-row-preserved g c =
    let words = c.args.words.now in
    let eight : c.loop-row.row * 8 + 8 - c.loop-row.row * 8 ≡ 8 = omega arith in
    let is : c.as_bytes.result.now ≡ rom_line (c.args.first + c.loop-row.row * 8) (take 8 (drop (c.loop-row.row * 8) words)) =
    c.as_bytes.ensures ∙ c.become_rom.ensures ∙ ap (λ a. rom_line (a + c.loop-row.row * 8) (take (c.loop-row.row * 8 + 8 - c.loop-row.row * 8) (drop (c.loop-row.row * 8) words))) c.from.ensures
    ∙ ap (λ k. rom_line (c.args.first + c.loop-row.row * 8) (take k (drop (c.loop-row.row * 8) words))) eight in
    record {
      counted = search rules;
      written = row_written c.args.first words c.as_bytes.result.now c.loop-row.row _ _ _ (search rules) c.loop-row.invariant.written is (search rules);
    }

pub returns : goal.returns
returns g c =
    let whole : length c.args.words.now < c.loop-row.row * 8 + 8 = search rules in
    (all_rows c.args.first c.args.words.now c.loop-row.row _ _ whole c.loop-row.invariant.written, c.loop-row.invariant.counted)
