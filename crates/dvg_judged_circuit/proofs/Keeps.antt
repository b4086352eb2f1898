-- What the judge's yes says on a machine of cells, it says on the circuit.
use Rattle.dvg_game_circuit.proofs.Games.{keeps}
use Rattle.dvg_judged_cells.specs.Judged.{JudgedOnCellsKeeps}
use Rattle.dvg_judged_circuit.specs.Judged.{JudgedOnCircuitKeeps}

pub judged : JudgedOnCellsKeeps → JudgedOnCircuitKeeps
judged law bytes R start safe image rom at_bytes is_rom count rom_in held there =
    keeps R image rom start held is_rom count rom_in there (law bytes R start safe image held.ram rom at_bytes)
