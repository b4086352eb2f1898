use Rattle.dvg_named.proofs.OneSketch.{tells_no_head, tells_no_row}
use Rattle.std.proofs.Common.{◌∙◌}
use Rattle.dvg_read.specs.LineParts.{bytes_of}
use Rattle.dvg_named.specs.SketchSteps.{line_of}
use Rattle.dvg_named.proofs.ReadBegins.{rom_stated}
use Rattle.dvg_named.proofs.reading.Reading.tell.Goals as goal

pub returns-clause-stated : goal.returns-clause-stated
returns-clause-stated g c is bare stated reads =
    rom_stated c.args.self.now stated (line_of (bytes_of c.args.tokens.now)) c.take.new.self c.set_free.new.self bare reads
    (c.take.ensures.took c.if-not-take.false stated reads.rom) (c.set_free.ensures.free ∙ c.free.ensures) c.set_free.ensures.taken

pub returns-clause-no_row : goal.returns-clause-no_row
returns-clause-no_row g c is stated reads row =
    tells_no_row (c.take.ensures.took c.if-not-take.false stated reads.rom).tells

pub returns-clause-no_head : goal.returns-clause-no_head
returns-clause-no_head g c is stated reads head =
    tells_no_head (c.take.ensures.took c.if-not-take.false stated reads.rom).tells
