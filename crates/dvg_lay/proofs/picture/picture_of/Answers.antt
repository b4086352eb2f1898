use Rattle.std.proofs.Common.{subst}
use Rattle.dvg_lay.proofs.EndsDrawn.{EndsAs, none_else, picture_is}
use Rattle.dvg_lay.proofs.picture.picture_of.Goals as goal

pub unreachable-requires : goal.unreachable-requires
unreachable-requires g c =
    none_else c.undisturbed.ensures.ram c.one_end.ensures c.args.frame.now.operations c.in_ok-ram.ram c.args.rom c.args.frame.now.bound
    c.len_words.ensures.draft c.len_words-2.ensures.rom c.requires.accepts.closed c.in_ok-ram.ensures c.requires.bound c.requires.few
    c.in_ok-strokes.field-0 (subst (λ dump. EndsAs dump c.in_ok-strokes.field-0) c.of.ensures c.in_ok-strokes.ensures.ends) c.in-Broke.is

pub returns : goal.returns
returns g c =
    picture_is c.undisturbed.ensures.ram c.one_end.ensures c.args.frame.now.operations c.in_ok-ram.ram c.args.rom c.args.frame.now.bound
    c.len_words.ensures.draft c.len_words-2.ensures.rom c.requires.accepts.closed c.in_ok-ram.ensures c.requires.bound c.requires.few
    c.in_ok-strokes.field-0 c.in-Finished.words c.in-Finished.strokes
    (subst (λ dump. EndsAs dump c.in_ok-strokes.field-0) c.of.ensures c.in_ok-strokes.ensures.ends) c.in-Finished.is
