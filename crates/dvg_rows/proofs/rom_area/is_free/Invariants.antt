use Rattle.dvg_rows.specs.RomAreas.{IsFree}
use Rattle.dvg_rows.proofs.rom_area.is_free.Given as goal

abbrev pub invariant-loop-place : goal.invariant-loop-place
invariant-loop-place l = IsFree l.taken l.first l.place
