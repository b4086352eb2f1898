use Rattle.dvg_moment.proofs.Torn.{torn_run}
use Rattle.dvg_moment.proofs.examples.tears.Goals as goal

pub returns : goal.returns
returns c =
    let begun = c.started.ensures _ c.new-judge.ensures in
    let read = c.fetched.ensures _ begun in
    let one = c.wrote.ensures _ read in
    let two = c.wrote-2.ensures _ one in
    let again = c.fetched-2.ensures _ two in
    (c.is_torn.ensures _ again).1 torn_run
