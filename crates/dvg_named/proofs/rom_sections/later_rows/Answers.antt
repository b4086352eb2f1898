use Rattle.std.proofs.Common.{◌∙◌, ap, sym, ◌++◌}
use Rattle.dvg_rows.specs.HeldRows.{rows_of}
use Rattle.dvg_named.specs.RomParts.{rom_list}
use Rattle.dvg_named.specs.SketchReading.{head_in}
use Rattle.dvg_named.proofs.RomFew.{part_more}
use Rattle.dvg_named.proofs.rom_sections.later_rows.Goals as goal

pub loop-part-preserved : goal.loop-part-preserved
loop-part-preserved g c =
    c.in_ok-push_rom.ensures
    ∙ ap (λ l. l ++ rom_list (head_in c.part-item.result.head) (rows_of c.part-item.result.rows.items)) c.loop-part.invariant
    ∙ sym (part_more c.args.others.now c.loop-part.part-index c.part-item.result c.loop-part-test.true c.part-item.is)
