use Rattle.std.proofs.Common.{◌≡◌, ◌∙◌, ◌+◌, ◌||◌, ap, arith, refl, sym, subst, true, false}
use Rattle.dvg_game_words.specs.Checker.{begun, ends_of, implies, leads, noted}
use Rattle.dvg_game_words.specs.Machine.{blank_after, is_driver, is_reset}
use Rattle.dvg_game_check.specs.Least.{state_meant}
use Rattle.dvg_game_check.proofs.Onwards.{on_begins, on_returns}
use Rattle.dvg_game_check.proofs.Steps.{blank_more, call_drives, call_on}
use Rattle.dvg_game_check.proofs.Suited.{implies_or}
use Rattle.dvg_game_check.proofs.step.call.Goals as goal

pub returns-then-is_driver : goal.returns-then-is_driver
returns-then-is_driver c n notes comes ends fine =
    let m = state_meant c.args.state in
    let two = call_drives notes c.args.word c.args.at n (sym c.is_driver.ensures ∙ c.if-is_driver.true) fine in
    c.straight.ensures m n notes two.0
    (on_returns m n notes comes (c.args.at + 3) c.woken-awake.result (is_reset c.args.word || n.awake)
    c.blank_after-blank.result (blank_after c.args.word n.blank)
    (ap (λ b. implies (is_reset c.args.word || n.awake) b) c.woken-awake.ensures
    ∙ implies_or n.awake m.awake (is_reset c.args.word) comes.awake)
    (ap (λ b. implies b (blank_after c.args.word n.blank)) c.blank_after-blank.ensures
    ∙ blank_more c.args.word m.blank n.blank comes.blank) two.1)

pub returns : goal.returns
returns c n notes comes ends fine =
    let m = state_meant c.args.state in
    let one = call_on notes c.args.word c.args.at n (sym c.is_driver.ensures ∙ c.if-is_driver.false) fine in
    record {
      next =
          on_returns m n notes comes (c.args.at + 3) m.awake n.awake c.args.ends (ends_of (noted notes c.args.word)) comes.awake
          ends one.behind;
      to =
          on_begins m n notes comes c.from.result c.args.ends (ends_of (noted notes c.args.word)) one.room one.level
          (ap (λ a. leads notes a (begun (ends_of (noted notes c.args.word)) n)) c.from.ensures ∙ one.begins);
      room = omega arith;
      ends = refl;
    }
