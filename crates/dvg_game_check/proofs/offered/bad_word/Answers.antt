use Rattle.std.proofs.Common.{get_or, refl, ◌<◌, ◌%◌, ◌/◌, arith, subst}
use Rattle.dvg_game_check.specs.Offered.{IsFineWord}
use Rattle.dvg_game_check.proofs.Knows.{has_at}
use Rattle.dvg_game_check.proofs.Offers.{place_of}
use Rattle.dvg_game_check.proofs.offered.bad_word.Goals as goal

pub returns-then-not-word_fine : goal.returns-then-not-word_fine
returns-then-not-word_fine g c = has_at c.args.words.now c.loop-i.i (get_or c.args.words.now c.loop-i.i 0) (omega arith) refl

pub returns : goal.returns
returns g c n h =
    let p = place_of c.args.words.now n h in
    subst (λ m. IsFineWord c.args.rom.now (m % 256) (m / 256)) p.2 (c.loop-i.invariant p.0 (omega (arith, p.1)))
