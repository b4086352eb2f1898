use Rattle.dvg_game_check.proofs.Games.{has_none}
use Rattle.dvg_game_check.proofs.judging.refuse.Goals as goal

pub returns-then-is_forced : goal.returns-then-is_forced
returns-then-is_forced c R ways tables words = (
  has_none c.args.rom.now c.args.notes.now c.args.start c.requires.least c.requires.boots
      (c.is_forced.ensures c.if-is_forced.true),
  c.requires.refused.1,
)
