use Rattle.std.proofs.Common.{◌≡◌, ◌++◌, ◌-◌, ◌*◌, drop}
use Rattle.dvg_mem.specs.Memory.{first_word}
use Rattle.dvg_lay.proofs.laying.rom_bytes.Given as goal

abbrev pub invariant-loop-address : goal.invariant-loop-address
invariant-loop-address g l = l.text.items ++ drop (2 * (l.address - first_word l.rom)) l.rom ≡ l.rom
