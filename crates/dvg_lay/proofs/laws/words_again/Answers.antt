use Rattle.dvg_frame.specs.Layout.{laid}
use Rattle.dvg_lay.proofs.LaidBytes.{words_again}
use Rattle.dvg_lay.proofs.laws.words_again.Goals as goal

pub returns : goal.returns
returns c = λ half F. words_again (laid half F)
