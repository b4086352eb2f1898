use Rattle.std.proofs.Common.{refl, arith, subst, get_or}
use Rattle.dvg_game_check.specs.Offered.{IsFineTable}
use Rattle.dvg_game_check.proofs.Knows.{has_at}
use Rattle.dvg_game_check.proofs.Offers.{place_of}
use Rattle.dvg_game_check.proofs.offered.bad_table.Goals as goal

pub returns-then-not-table_fine : goal.returns-then-not-table_fine
returns-then-not-table_fine g c = has_at c.args.tables.now c.loop-i.i (get_or c.args.tables.now c.loop-i.i 0) (omega arith) refl

pub returns : goal.returns
returns g c n h =
    let p = place_of c.args.tables.now n h in
    subst (λ m. IsFineTable c.args.vectors.now c.args.rom.now m) p.2 (c.loop-i.invariant p.0 (omega (arith, p.1)))
