use Rattle.dvg_driver.proofs.Places.{life_place, whole_rests}
use Rattle.dvg_driver.proofs.Shapes.{place_life, rests_whole}
use Rattle.dvg_driver.proofs.laws.place_tells.Goals as goal

pub returns : goal.returns
returns c life = ((life_place life, λ stands. place_life life stands.0 stands.1), (whole_rests life, λ rests. rests_whole life rests.0 rests.1))
