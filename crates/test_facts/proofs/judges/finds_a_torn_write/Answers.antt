use Rattle.test_facts.proofs.TornPicture.{torn_at_2}
use Rattle.test_facts.proofs.judges.finds_a_torn_write.Goals as goal

pub returns : goal.returns
returns c = torn_at_2 c.first_torn.result c.first_torn.ensures.torn c.first_torn.ensures.untorn
