use Rattle.test_facts.proofs.FirstPicture.{kept_of_first_picture}
use Rattle.test_facts.proofs.worlds.logs_the_first_picture.Goals as goal

pub returns-then-logged : goal.returns-then-logged
returns-then-logged c = kept_of_first_picture c.log_trace-logged.ensures c.if-logged.true c.requires.rom c.requires.image c.requires.events
