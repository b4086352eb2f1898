use Rattle.std.proofs.Common.{refl}
use Rattle.dvg_named.specs.SourcedRows.{IsRowAt}
use Rattle.dvg_named.proofs.EntriesMore.{row_adds}
use Rattle.dvg_named.proofs.SourcedMore.{both_ok, row_sourced}
use Rattle.dvg_named.proofs.ReadRows.{frame_added, frame_filled, frame_given, on_ok, section_pushed}
use Rattle.dvg_named.proofs.reading.Reading.add_frame_row.Goals as goal

pub returns-in-Err-clause-fault : goal.returns-in-Err-clause-fault
returns-in-Err-clause-fault g c stated line reads spelled =
    frame_given c.args.self.now c.args.row.now stated line reads spelled c.in-Err.fault c.requires c.in-Err.ensures.fault

pub returns-in_default-counted-clause-fault : goal.returns-in_default-counted-clause-fault
returns-in_default-counted-clause-fault g c stated line reads spelled =
    frame_filled c.args.self.now c.args.row.now stated line reads spelled c.requires c.in_default.ensures.fresh
    c.in_default-counted.ensures.full

pub returns-clause-added : goal.returns-clause-added
returns-clause-added g c =
    on_ok c.push.result c.push.ensures.rows (λ pushed stated line reads spelled.
    frame_added c.args.self.now c.args.row.now stated line reads spelled c.push.new.self c.give.new.self c.in-Some.count
    c.requires (section_pushed c.args.self.now.last c.push.new.self c.args.row.now c.push.ensures.head pushed)
    c.in_default.ensures.given c.in_default.ensures.fresh c.in-Some.ensures.counted)

pub returns-clause-sources : goal.returns-clause-sources
returns-clause-sources g c =
    both_ok c.push.result c.push.ensures.rows c.push.ensures.sources (λ rows sources small sourced at.
    row_sourced small c.args.self.now _ c.args.row.now c.args.source refl c.push.ensures.head c.push.ensures.begin rows sources
    sourced at)

pub returns-clause-entries : goal.returns-clause-entries
returns-clause-entries g c =
    both_ok c.push.result c.push.ensures.rows c.push.ensures.sources (λ rows sources small next sourced.
    row_adds (IsRowAt small) c.args.self.now _ c.args.row.now c.args.source refl c.push.ensures.head rows sources
    sourced.last.rows)
