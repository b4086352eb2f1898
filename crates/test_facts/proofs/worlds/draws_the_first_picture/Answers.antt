use Rattle.test_facts.proofs.FirstPicture.{kept_of_first_picture}
use Rattle.test_facts.proofs.worlds.draws_the_first_picture.Goals as goal

pub returns-then-drawn : goal.returns-then-drawn
returns-then-drawn c = kept_of_first_picture c.draw_trace-drawn.ensures c.if-drawn.true c.requires.rom c.requires.image c.requires.events
