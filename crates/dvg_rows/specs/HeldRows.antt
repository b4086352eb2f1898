-- Rows in order, as the reader holds them.
use Rattle.std.specs.Prelude.{List, map}
use Rattle.dvg_rows.specs.declared.row.Row as held
use Rattle.dvg_rows.specs.RowValues.{row_of}
use Rattle.dvg_rows.specs.Rows.{Row}

-- rows
abbrev pub rows_of : List held.Row → List Row
rows_of = map row_of
