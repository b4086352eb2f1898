use Rattle.std.proofs.Common.{◌≡◌, ◌+◌, ◌∙◌, ap, arith, sym, subst, true}
use Rattle.dvg_game_words.specs.Checker.{implies}
use Rattle.dvg_game_check.specs.Least.{state_meant}
use Rattle.dvg_game_check.proofs.Onwards.{needed_before}
use Rattle.dvg_game_check.proofs.step.needs_before.Goals as goal

pub returns : goal.returns
returns c m n notes is under =
    let need = needed_before c.args.one m n (state_meant c.args.next) notes is under in
    let room = need.room in
    record {
      room = omega (arith, c.room_before.ensures, room);
      fuel = λ nmi. omega (arith, need.fuel nmi, c.saturating_add.ensures);
      ends = ap (λ b. implies b n.ends) c.ends_before.ensures ∙ need.ends;
    }
