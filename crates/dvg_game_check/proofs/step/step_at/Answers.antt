use Rattle.std.proofs.Common.{◌∙◌, ◌≡◌, ap, sym, subst, true}
use Rattle.dvg_game_words.specs.Kinds.{kind_of}
use Rattle.dvg_game_words.specs.Checker.{ends_of, implies, noted}
use Rattle.dvg_game_check.specs.Meant.{kind_meant}
use Rattle.dvg_game_check.proofs.Bytes.{fine_by_bytes}
use Rattle.dvg_game_check.proofs.step.step_at.Goals as goal

pub returns : goal.returns
returns c f n notes has under comes fine =
    c.step_with.ensures n notes comes
    (ap (λ a. implies c.ends_at-ends.result (ends_of (noted notes a))) (sym c.from.ensures) ∙ c.ends_at-ends.ensures notes under)
    (fine_by_bytes (kind_meant c.kind_of-kind.result) (kind_of (f c.args.at)) notes f
    c.args.at c.byte_at-low.result c.word_at-word.result c.word_at-reset.result n
    (c.kind_of-kind.ensures ∙ ap kind_of (c.byte_at.ensures f has)) (c.byte_at-low.ensures f has) (c.word_at-word.ensures f has)
    (c.word_at-reset.ensures f has) ∙ fine)
