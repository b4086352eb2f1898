use Rattle.dvg_moment.proofs.Torn.{reads_another}
use Rattle.dvg_moment.proofs.examples.contradicts.Goals as goal

pub returns : goal.returns
returns c =
    let begun = c.started.ensures _ c.new-judge.ensures in
    let wrote = c.wrote.ensures _ begun in
    (c.contradicts_word.ensures.fetched _ wrote).1 reads_another
