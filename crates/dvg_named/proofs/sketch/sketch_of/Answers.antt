use Rattle.std.proofs.Common.{◌∙◌, All, ap, subst, sym}
use Rattle.dvg_read.specs.LineParts.{bytes_of}
use Rattle.dvg_rows.specs.RowPlaces.{names_of}
use Rattle.dvg_rows.specs.declared.given_names.GivenNames.{GivenNames}
use Rattle.dvg_named.specs.LaidValues.{laid_sections, rows_laid}
use Rattle.dvg_named.specs.RomNames.{IsNamedIn, names_listed}
use Rattle.dvg_named.proofs.GivenListed.{given_listed}
use Rattle.dvg_named.proofs.SketchWhole.{is_read}
use Rattle.dvg_named.proofs.sketch.sketch_of.Goals as goal

pub new-laid-requires-clause-given : goal.new-laid-requires-clause-given
new-laid-requires-clause-given g c =
    ap (λ (names : GivenNames _). bytes_of names.given.keys) c.given_in_rom.ensures
    ∙ given_listed c.requires.0 c.args.reading.now c.requires.1 c.as_slice-sections.result.now
    c.in-Ok-rom_names.names.items
    (ap laid_sections c.as_slice-sections.ensures.value ∙ c.in-Ok.ensures c.requires.1.rom c.requires.1.reads)
    c.in-Ok-rom_names.ensures.names
    ∙ ap names_listed (sym c.as_slice.ensures.value)

pub rom-requires : goal.rom-requires
rom-requires g c = record {
  small = c.requires.0;
  reads = c.requires.1;
  are = ap laid_sections (c.new-laid.ensures ∙ c.as_slice-sections.ensures.value)
      ∙ c.in-Ok.ensures c.requires.1.rom c.requires.1.reads;
}

pub unknown-requires-clause-text : goal.unknown-requires-clause-text
unknown-requires-clause-text g c = record {
  small = c.requires.0;
  reads = c.requires.1;
  are = ap laid_sections (c.new-laid.ensures ∙ c.as_slice-sections.ensures.value)
      ∙ c.in-Ok.ensures c.requires.1.rom c.requires.1.reads;
}

pub unknown-requires-in-Err-UnknownName-clause-text : goal.unknown-requires-in-Err-UnknownName-clause-text
unknown-requires-in-Err-UnknownName-clause-text g c = record {
  small = c.requires.0;
  reads = c.requires.1;
  are = ap laid_sections (c.new-laid.ensures ∙ c.as_slice-sections.ensures.value)
      ∙ c.in-Ok.ensures c.requires.1.rom c.requires.1.reads;
}

pub drafts-requires : goal.drafts-requires
drafts-requires g c = record {
  text = record {
    small = c.requires.0;
    reads = c.requires.1;
    are = ap laid_sections (c.new-laid.ensures ∙ c.as_slice-sections.ensures.value)
        ∙ c.in-Ok.ensures c.requires.1.rom c.requires.1.reads;
  };
}

pub returns-in-Ok-drafts-clause-read : goal.returns-in-Ok-drafts-clause-read
returns-in-Ok-drafts-clause-read g c text read =
    let same = c.new-laid.ensures in
    let names = c.in-Ok-rom_names.names.items in
    let are = ap laid_sections (same ∙ c.as_slice-sections.ensures.value) ∙ c.in-Ok.ensures read.rom read.reads in
    let joined = c.in-Ok-drafts.frames in
    is_read c.args.reading.now text read c.new-laid.result c.in-Some.rom.items names joined.ops.items
    joined.sources.items joined.spans.items are (c.in-Some.ensures.rom read.rom read.reads are)
    (c.in-Ok-rom_names.ensures.names ∙ ap (λ l. names_of (rows_laid (laid_sections l))) (sym same))
    (subst (λ l. All (IsNamedIn (laid_sections l)) names) (sym same) c.in-Ok-rom_names.ensures.addresses)
    (c.in-Ok-drafts.ensures.drafts read.rom)
    (c.in-Ok-drafts.ensures.begins read.rom _ read.next read.sourced read.numbered.top) (c.in-Ok-drafts.ensures.rise _ read.next read.sourced)
    (c.in-Ok-drafts.ensures.lines read.rom _ read.next read.sourced)
