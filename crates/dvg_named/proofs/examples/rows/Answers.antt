use Rattle.dvg_read.specs.OpLines as ops
use Rattle.dvg_rows.specs.Rows as rows
use Rattle.dvg_named.proofs.ExampleNames.{address, bad, begins_with_digit, empty, halt, rock, rock_2, title, too_long}
use Rattle.dvg_named.proofs.examples.rows.Goals as goal

pub returns-clause-rows : goal.returns-clause-rows
returns-clause-rows c = (rows.named rock_2, rows.both rock (rows.plain ops.halt), rows.does (rows.call halt))

pub returns-clause-heads : goal.returns-clause-heads
returns-clause-heads c = (rows.nameless, rows.named_frame title, rows.anywhere, rows.at address)

pub returns-clause-names : goal.returns-clause-names
returns-clause-names c = (bad, begins_with_digit, empty, too_long)
