use Rattle.std.proofs.Common.{◌≡◌, ◌≤◌, ◌+◌, ◌-◌, ◌/◌, ◌∙◌, ◌++◌, [], ◌∷◌, ap, length, refl, sym, take}
use Rattle.std.proofs.lemmas.List.{map_more}
use Rattle.dvg_named.specs.LaidValues.{laid_section, laid_sections}
use Rattle.dvg_named.specs.Places.{Laid, laid_end}
use Rattle.dvg_named.specs.RomBytes.{MayStandInRom}
use Rattle.dvg_named.specs.FirstUnknown.{WantsNone}
use Rattle.dvg_named.specs.Ungiven.{in_rom}
use Rattle.dvg_named.proofs.DraftRows.{at_in, low_in}
use Rattle.dvg_named.proofs.RomWritten.{first_is, section_at, stated_more}
use Rattle.dvg_named.proofs.rom_words.put_sections.Goals as goal

pub put_section-requires-clause-start : goal.put_section-requires-clause-start
put_section-requires-clause-start g c =
    (section_at (λ (s : Laid). (0xC00 - length c.args.rom.now / 2 ≤ s.start) × (laid_end s ≤ 0xC00)) c.args.sections.now
    c.loop-section.section-index c.section-item.result c.requires.lie (low_in c.loop-section.section-index c.sections-section-items.ensures c.loop-section-test.true) (at_in c.loop-section.section-index c.section-item.result c.sections-section-items.ensures c.section-item.is)).0

pub put_section-requires-clause-end : goal.put_section-requires-clause-end
put_section-requires-clause-end g c =
    (section_at (λ (s : Laid). (0xC00 - length c.args.rom.now / 2 ≤ s.start) × (laid_end s ≤ 0xC00)) c.args.sections.now
    c.loop-section.section-index c.section-item.result c.requires.lie (low_in c.loop-section.section-index c.sections-section-items.ensures c.loop-section-test.true) (at_in c.loop-section.section-index c.section-item.result c.sections-section-items.ensures c.section-item.is)).1

pub put_section-requires-clause-may : goal.put_section-requires-clause-may
put_section-requires-clause-may g c =
    section_at (λ (s : Laid). MayStandInRom s.rows) c.args.sections.now c.loop-section.section-index
    c.section-item.result c.requires.may (low_in c.loop-section.section-index c.sections-section-items.ensures c.loop-section-test.true) (at_in c.loop-section.section-index c.section-item.result c.sections-section-items.ensures c.section-item.is)

pub returns-in_default-clause-unknown : goal.returns-in_default-clause-unknown
returns-in_default-clause-unknown g c = λ known.
    c.in_default.ensures.unknown
    (section_at (λ (s : Laid). WantsNone (laid_sections c.args.sections.now) (in_rom s.rows)) c.args.sections.now c.loop-section.section-index
    c.section-item.result known (low_in c.loop-section.section-index c.sections-section-items.ensures c.loop-section-test.true)
    (at_in c.loop-section.section-index c.section-item.result c.sections-section-items.ensures c.section-item.is))

pub loop-section-preserved : goal.loop-section-preserved
loop-section-preserved g c =
    let sections = c.args.sections.now in
    let i = c.loop-section.section-index in
    let section = c.section-item.result in
    let low = (low_in c.loop-section.section-index c.sections-section-items.ensures c.loop-section-test.true) in
    let is = (at_in c.loop-section.section-index c.section-item.result c.sections-section-items.ensures c.section-item.is) in
    let laid = laid_sections sections in
    let before = c.loop-section.invariant in
    let more : laid_sections (take (i + 1) sections) ≡ laid_sections (take i sections) ++ laid_section section ∷ [] =
    map_more laid_section sections i section low
    ∙ ap (λ s. laid_sections (take i sections) ++ laid_section s ∷ []) (sym is) in
    let put = c.in-Some.ensures.put in
    record {
      stated = λ stated is_rom.
          stated_more laid (laid_sections (take i sections)) (laid_sections (take (i + 1) sections)) (laid_section section) stated
          (0xC00 - length c.args.rom.now / 2) c.loop-section.rom c.put_section.new.rom
          (first_is stated c.args.rom.now (0xC00 - length c.args.rom.now / 2) is_rom c.requires.size refl)
          (before.stated stated is_rom) put more;
      count = put.put.count ∙ before.count;
    }
