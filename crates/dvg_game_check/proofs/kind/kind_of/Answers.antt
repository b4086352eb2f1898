use Rattle.std.proofs.Common.{◌∙◌, ap, arith}
use Rattle.dvg_game_check.specs.Letters.{lettered}
use Rattle.dvg_game_check.proofs.Tables.{kind_lettered}
use Rattle.dvg_game_check.proofs.kind.kind_of.Goals as goal

pub returns : goal.returns
returns c = c.lettered.ensures ∙ (ap lettered c.letter_of.ensures ∙ kind_lettered c.args.opcode (omega arith))
