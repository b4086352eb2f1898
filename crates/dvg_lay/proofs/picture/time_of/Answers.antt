use Rattle.dvg_lay.proofs.PictureTimes.{time_is}
use Rattle.dvg_lay.proofs.picture.time_of.Goals as goal

pub returns : goal.returns
returns g c =
    time_is c.undisturbed.ensures.memory c.args.frame.now.operations c.args.rom c.args.frame.now.bound c.len_words.ensures.draft
    c.len_words-2.ensures.rom c.requires.accepts.closed c.requires.bound c.one_end.ensures c.requires.few
    c.in_ok-ram.ram c.in_ok-ram.ensures _ c.time_over.ensures
