use Rattle.std.proofs.Common.{◌∙◌, ap}
use Rattle.dvg_game_words.specs.Kinds.{kind_of}
use Rattle.dvg_game_check.specs.Meant.{kind_meant}
use Rattle.dvg_game_check.specs.Rules.{notes_in, note_meant}
use Rattle.dvg_game_check.proofs.Bytes.{why_by_bytes}
use Rattle.dvg_game_check.proofs.reason.reason.Goals as goal

pub returns : goal.returns
returns c f h =
    why_by_bytes c.why_with.result (kind_meant c.kind_of-kind.result) (kind_of (f c.args.at)) (notes_in c.args.notes.now) f
    c.args.at c.byte_at-low.result c.word_at-word.result c.word_at-reset.result (note_meant c.args.now.now)
    (c.kind_of-kind.ensures ∙ ap kind_of (c.byte_at.ensures f h)) (c.byte_at-low.ensures f h) (c.word_at-word.ensures f h)
    (c.word_at-reset.ensures f h) c.why_with.ensures
