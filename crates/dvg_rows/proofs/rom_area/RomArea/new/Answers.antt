use Rattle.std.proofs.Common.{◌≡◌, ℕ, zero, suc, false, refl}
use Rattle.std.proofs.Math.ListN.{get_or, replicate}
use Rattle.dvg_rows.proofs.rom_area.RomArea.new.Goals as goal

all_false : (n a : ℕ) → get_or (replicate n false) a false ≡ false
all_false zero zero = refl
all_false zero (suc a) = refl
all_false (suc n) zero = refl
all_false (suc n) (suc a) = all_false n a

pub returns-clause-taken : goal.returns-clause-taken
returns-clause-taken c a = all_false 3072 a
