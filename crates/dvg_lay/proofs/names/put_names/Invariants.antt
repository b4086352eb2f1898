use Rattle.std.proofs.Common.{◌≡◌, ◌++◌, drop, flat_map}
use Rattle.dvg_lay.specs.Texts.{name_line, name_lines}
use Rattle.dvg_lay.proofs.names.put_names.Given as goal

abbrev pub invariant-loop-name : goal.invariant-loop-name
invariant-loop-name g l = l.text.items ++ flat_map name_line (drop l.name-index l.names) ≡ l.fn.text.items ++ name_lines l.names
