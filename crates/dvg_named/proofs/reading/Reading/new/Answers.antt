use Rattle.std.proofs.Common.{refl}
use Rattle.dvg_named.proofs.ReadBegins.{begins_bare}
use Rattle.dvg_named.proofs.SourcedMore.{sourced_first}
use Rattle.dvg_named.proofs.reading.Reading.new.Goals as goal

pub returns-clause-reads : goal.returns-clause-reads
returns-clause-reads g c =
    begins_bare (record { alloc = c.args.alloc; rom = c.new.result; closed = c.new-2.result; last = c.new-3.result; frame_names = c.new-4.result; rom_names = c.new-5.result; names = c.new-6.result; count = 0; area = c.new-7.result })
    c.new.ensures c.new-2.ensures.items c.new-3.ensures.head c.new-3.ensures.rows c.new-4.ensures c.new-5.ensures
    c.new-6.ensures refl c.new-7.ensures.free c.new-7.ensures.taken

pub returns-clause-sources : goal.returns-clause-sources
returns-clause-sources g c small first =
    sourced_first small _ c.args.first c.new-2.ensures.items c.new-3.ensures.head c.new-3.ensures.begin c.new-3.ensures.rows
    c.new-3.ensures.sources first
