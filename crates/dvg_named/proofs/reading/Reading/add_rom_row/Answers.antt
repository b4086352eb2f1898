use Rattle.dvg_named.specs.SourcedRows.{IsRowAt}
use Rattle.dvg_named.proofs.EntriesMore.{row_adds}
use Rattle.std.proofs.Common.{refl, subst}
use Rattle.dvg_named.proofs.SourcedMore.{both_ok, row_sourced}
use Rattle.dvg_named.proofs.ReadRows.{on_ok, rom_added, rom_given, rom_refused, rom_stops, section_pushed}
use Rattle.dvg_named.specs.SketchReading.{head_in}
use Rattle.dvg_rows.specs.RomAreas.{StopsArea, Takes}
use Rattle.dvg_named.proofs.reading.Reading.add_rom_row.Goals as goal

pub returns-then-not-may_stand_in_rom-clause-fault : goal.returns-then-not-may_stand_in_rom-clause-fault
returns-then-not-may_stand_in_rom-clause-fault g c stated line reads spelled =
    rom_refused c.args.self.now c.args.row.now stated line reads spelled c.requires
    (λ may. let yes = c.may_stand_in_rom.ensures.1 may in let no = c.if-not-may_stand_in_rom.true in absurd cc)

pub returns-in-Err-clause-fault : goal.returns-in-Err-clause-fault
returns-in-Err-clause-fault g c stated line reads spelled =
    rom_given c.args.self.now c.args.row.now stated line reads spelled (head_in c.args.self.now.last.head) refl c.requires
    (c.may_stand_in_rom.ensures.0 c.if-not-may_stand_in_rom.false) c.in-Err.fault c.in-Err.ensures.fault

pub returns-in-Err-take-clause-fault : goal.returns-in-Err-take-clause-fault
returns-in-Err-take-clause-fault g c stated line reads spelled =
    rom_stops c.args.self.now c.args.row.now stated line reads spelled (head_in c.args.self.now.last.head) refl c.requires
    (c.may_stand_in_rom.ensures.0 c.if-not-may_stand_in_rom.false) c.in-Err-take.fault c.in_default.ensures.fresh
    (subst (λ n. StopsArea n c.args.self.now.area c.in-Err-take.fault) c.words_of_row.ensures c.in-Err-take.ensures.fault)

pub returns-clause-added : goal.returns-clause-added
returns-clause-added g c =
    on_ok c.push.result c.push.ensures.rows (λ pushed stated line reads spelled.
    rom_added c.args.self.now c.args.row.now stated line reads spelled (head_in c.args.self.now.last.head) refl c.requires
    (c.may_stand_in_rom.ensures.0 c.if-not-may_stand_in_rom.false) c.push.new.self c.give.new.self c.take.new.self
    (section_pushed c.args.self.now.last c.push.new.self c.args.row.now c.push.ensures.head pushed)
    c.in_default.ensures.given c.in_default.ensures.fresh
    (subst (λ n. Takes n c.args.self.now.area c.take.new.self) c.words_of_row.ensures c.in_default-take.ensures.taken))

pub returns-clause-sources : goal.returns-clause-sources
returns-clause-sources g c =
    both_ok c.push.result c.push.ensures.rows c.push.ensures.sources (λ rows sources small sourced at.
    row_sourced small c.args.self.now _ c.args.row.now c.args.source refl c.push.ensures.head c.push.ensures.begin rows sources
    sourced at)

pub returns-clause-entries : goal.returns-clause-entries
returns-clause-entries g c =
    both_ok c.push.result c.push.ensures.rows c.push.ensures.sources (λ rows sources small next sourced.
    row_adds (IsRowAt small) c.args.self.now _ c.args.row.now c.args.source refl c.push.ensures.head rows sources
    sourced.last.rows)
