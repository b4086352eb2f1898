use Rattle.std.proofs.Common.{subst, sym}
use Rattle.dvg_game_check.specs.Least.{IsLeast}
use Rattle.dvg_game_check.specs.Verdicts.{Says}
use Rattle.dvg_game_check.proofs.judging.judge.Goals as goal

pub returns-in-Err-clause-means : goal.returns-in-Err-clause-means
returns-in-Err-clause-means g c =
    c.unlisted.ensures.means c.args.rom.now c.args.vectors.now
    (λ ways tables words. (c.in-Err.ensures.0, c.in-Err.ensures.1 c.in_ok-unnoted-in-Err.field-0.items))

pub refuse-verdict-requires-clause-least : goal.refuse-verdict-requires-clause-least
refuse-verdict-requires-clause-least g c =
    subst (λ notes. IsLeast c.args.rom.now notes c.in-Ok.start) (sym c.as_slice-all.ensures.value) c.in_ok-notes.ensures.1

pub returns-in-Some-clause-means : goal.returns-in-Some-clause-means
returns-in-Some-clause-means g c =
    c.unlisted-in-Some.ensures.means c.args.rom.now c.args.vectors.now
    (λ ways tables words. subst (λ notes. Says c.args.rom.now c.args.vectors.now notes ways tables words c.refuse-verdict.result)
    c.as_slice-all.ensures.value (c.refuse-verdict.ensures c.args.vectors.now ways tables words))
