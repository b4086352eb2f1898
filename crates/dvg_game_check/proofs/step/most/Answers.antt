use Rattle.std.proofs.Common.{◌≡◌, ◌∙◌, ◌||◌, Bool, ap, arith, false, refl, sym, true}
use Rattle.dvg_game_words.specs.Checker.{implies}
use Rattle.dvg_game_check.proofs.step.most.Goals as goal

either : (a b n : Bool) → implies a n ≡ true → implies b n ≡ true → implies (a || b) n ≡ true
either true b n h g = h
either false b n h g = g

pub returns : goal.returns
returns c n one two = record {
  room = omega (arith, one.room, two.room, c.max.ensures);
  fuel = λ nmi. omega (arith, one.fuel nmi, two.fuel nmi, c.max-2.ensures);
  ends = ap (λ b. implies b n.ends) c.either-ends.ensures ∙ either c.args.one.ends c.args.other.ends n.ends one.ends two.ends;
}
