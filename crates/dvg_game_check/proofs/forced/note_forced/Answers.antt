use Rattle.std.proofs.Common.{◌∙◌, ap}
use Rattle.dvg_game_words.specs.Kinds.{kind_of}
use Rattle.dvg_game_check.specs.Meant.{kind_meant}
use Rattle.dvg_game_check.specs.Rules.{fine_with}
use Rattle.dvg_game_check.proofs.Barred.{contrary}
use Rattle.dvg_game_check.proofs.Bytes.{fine_by_bytes}
use Rattle.dvg_game_check.proofs.forced.note_forced.Goals as goal

pub returns : goal.returns
returns c is f all n has under u fine =
    contrary (fine_with (kind_meant c.kind_of-kind.result) all c.byte_at-low.result c.word_at-word.result c.word_at-reset.result c.args.at n)
    (c.forced_with.ensures is all n under u.comes)
    (fine_by_bytes (kind_meant c.kind_of-kind.result) (kind_of (f c.args.at)) all f
    c.args.at c.byte_at-low.result c.word_at-word.result c.word_at-reset.result n
    (c.kind_of-kind.ensures ∙ ap kind_of (c.byte_at.ensures f has)) (c.byte_at-low.ensures f has) (c.word_at-word.ensures f has)
    (c.word_at-reset.ensures f has) ∙ fine)
