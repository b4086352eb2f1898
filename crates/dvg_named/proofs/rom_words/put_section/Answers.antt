use Rattle.std.proofs.Common.{◌≡◌, ◌≤◌, ◌+◌, ◌-◌, ◌∙◌, [], arith, length, refl, subst, sym, take}
use Rattle.std.proofs.lemmas.List.{take_all}
use Rattle.dvg_code.specs.Spelling.{canon}
use Rattle.dvg_rows.specs.HeldRows.{rows_of}
use Rattle.dvg_named.specs.LaidValues.{laid_section, laid_sections}
use Rattle.dvg_rows.specs.RowPlaces.{doings}
use Rattle.dvg_named.specs.RomBytes.{ArePut}
use Rattle.dvg_rows.specs.RowValues.{doing_of}
use Rattle.dvg_named.specs.Ungiven.{in_rom}
use Rattle.dvg_named.proofs.DraftRows.{no_doing, nothing_left, one_doing, wants_here}
use Rattle.dvg_named.proofs.RomWritten.{Written, code_room, may_at, same_in_rom, section_put}
use Rattle.dvg_named.proofs.RomWritten.{written_more, written_same}
use Rattle.dvg_named.proofs.rom_words.put_section.Goals as goal
use Rattle.dvg_named.proofs.rom_words.put_section.Goals.{in-Some+in-Some-code_of, in_default}

pub code_of-requires-clause-may : goal.code_of-requires-clause-may
code_of-requires-clause-may g c =
    may_at c.args.section.now.rows.now c.loop-row.row-index c.row-item.result c.in-Some.doing c.requires.may
    c.loop-row-test.true c.row-item.is c.in-Some.is

pub returns-in_default-code_of-clause-unknown : goal.returns-in_default-code_of-clause-unknown
returns-in_default-code_of-clause-unknown g c = λ none.
    let rows = c.args.section.now.rows.now in
    let laid = laid_sections c.args.sections.now in
    none c.loop-row.row-index
    (wants_here rows c.loop-row.row-index c.row-item.result c.loop-row-test.true c.row-item.is laid
    (in_rom (rows_of rows)) refl c.in-Some.doing c.in-Some.is
    (same_in_rom laid [] (rows_of rows) (doing_of c.in-Some.doing) c.in_default-code_of.ensures.ungiven))

pub put_code-next-requires : goal.put_code-next-requires
put_code-next-requires g c =
    let written = c.loop-row.invariant.written in
    let room = code_room (laid_sections c.args.sections.now) c.args.section.now.rows.now c.loop-row.row-index
    c.row-item.result c.loop-row-test.true c.row-item.is c.in-Some.doing c.in-Some.is
    (c.args.section.now.start - c.args.first) c.loop-row.next c.args.rom.now c.loop-row.rom
    c.in-Some-code_of.code written c.in-Some-code_of.ensures.encoded in
    let count : length c.loop-row.rom ≡ length c.args.rom.now = written.put.count in
    omega (arith, room, count, c.requires.end, c.requires.whole, c.requires.start)

pub loop-row-preserved : goal.loop-row-preserved
loop-row-preserved g c =
    let rows = c.args.section.now.rows.now in
    let place = c.loop-row.row-index in
    let row = c.row-item.result in
    let low = c.loop-row-test.true in
    let is = c.row-item.is in
    let laid = laid_sections c.args.sections.now in
    let first = c.args.section.now.start - c.args.first in
    let before = c.loop-row.invariant in
    elim c.match-row.branch [
      | in-Some+in-Some-code_of w ↦
          let doing = w.in-Some.doing in
          let code = w.in-Some-code_of.code in
          let encoded = w.in-Some-code_of.ensures.encoded in
          record {
            written = written_more laid (doings (rows_of (take place rows))) (doings (rows_of (take (place + 1) rows))) first
                c.loop-row.next c.match-row.next c.args.rom.now c.loop-row.rom c.match-row.rom (doing_of doing) code
                before.written encoded
                (subst (λ bytes. ArePut c.loop-row.next (canon code) c.loop-row.rom bytes) (sym w.rom-is)
                w.put_code-next.ensures.put) (w.next-is ∙ w.put_code-next.ensures.next)
                (one_doing rows place row low is doing w.in-Some.is);
          }
      | in_default w ↦
          let none = nothing_left row.doing w.in_default.not-Some in
          record {
            written = written_same laid (doings (rows_of (take place rows))) (doings (rows_of (take (place + 1) rows))) first
                c.loop-row.next c.match-row.next c.args.rom.now c.loop-row.rom c.match-row.rom before.written
                (no_doing rows place row low is none) w.rom-is w.next-is;
          }
    ]

pub returns-clause-put : goal.returns-clause-put
returns-clause-put g c =
    let rows = c.args.section.now.rows.now in
    let laid = laid_sections c.args.sections.now in
    let first = c.args.section.now.start - c.args.first in
    let all : length rows ≤ c.loop-row.row-index = omega arith in
    section_put laid (laid_section c.args.section.now) c.args.first first c.loop-row.next c.args.rom.now
    c.loop-row.rom c.requires.start refl
    (subst (λ front. Written laid (doings (rows_of front)) first c.args.rom.now c.loop-row.rom c.loop-row.next)
    (take_all c.loop-row.row-index rows all) c.loop-row.invariant.written)
