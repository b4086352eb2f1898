use Rattle.std.proofs.Common.{◌∙◌, ◌++◌, ap, sym}
use Rattle.dvg_rows.specs.HeldRows.{rows_of}
use Rattle.dvg_named.specs.LaidValues.{laid_sections}
use Rattle.dvg_rows.specs.RowPlaces.{names_of}
use Rattle.dvg_named.proofs.NamedSections.{low_at}
use Rattle.dvg_named.proofs.NamesLaid.{section_names, section_stands}
use Rattle.dvg_named.proofs.addresses.rom_names.Goals as goal

pub push_names-requires : goal.push_names-requires
push_names-requires g c =
    low_at c.args.sections.now c.loop-section.section-index c.section-item.result c.requires c.loop-section-test.true
    c.section-item.is

pub loop-section-preserved : goal.loop-section-preserved
loop-section-preserved g c =
    let sections = c.args.sections.now in
    let i = c.loop-section.section-index in
    let section = c.section-item.result in
    let low = c.loop-section-test.true in
    let is = c.section-item.is in
    record {
      names = c.in_ok-push_names.ensures.names
          ∙ ap (λ l. l ++ names_of (rows_of section.rows.now)) c.loop-section.invariant.names
          ∙ sym (section_names sections i section low is);
      addresses = c.in_ok-push_names.ensures.addresses (laid_sections sections) (section_stands sections i section low is)
          c.loop-section.invariant.addresses;
    }
