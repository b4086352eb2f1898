-- What the judge's yes to a program says of each run of the circuit that has it in its ROMs.
use Rattle.std.specs.Prelude.{◌≡◌, ℕ, ◌<◌, All, List, length}
use Rattle.dvg_mem.specs.Memory.{IsRom}
use Rattle.dvg_game_circuit.specs.Game.{Bus}
use Rattle.dvg_game_circuit.specs.Circuit.{CircuitKeeps, Held, IsBus, HoldsGame}
use Rattle.dvg_game_check.specs.Rules.{HasBytes}
use Rattle.dvg_game_check.specs.Verdicts.{IsSafe}

-- that these bytes are safe with this vector ROM, as a yes says, means this of the circuit whose ROMs hold them at power-up: whatever its RAM held
-- then, and its pins were in each clock
abbrev pub JudgedOnCircuitKeeps : Type 0
JudgedOnCircuitKeeps = (bytes R : List ℕ) (start : ℕ) → IsSafe bytes R start
    → (image : List ℕ) (rom : ℕ → ℕ) → HasBytes bytes rom → IsRom R → length R ≡ 2048 → ((a : ℕ) → rom a < 256)
    → (held : Held) → HoldsGame R image rom held → (clocks : List Bus) → All IsBus clocks
    → CircuitKeeps R image rom start held clocks
