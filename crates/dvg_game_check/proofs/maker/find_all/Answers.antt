use Rattle.std.proofs.Common.{◌∙◌, ap, subst, sym}
use Rattle.std.proofs.lemmas.Result.{IfOk-weaker}
use Rattle.dvg_game_words.specs.Checker.{interrupts, noted}
use Rattle.dvg_game_check.specs.Least.{AreUnder, states_in}
use Rattle.dvg_game_check.proofs.maker.find_all.Goals as goal
use Rattle.dvg_game_check.proofs.maker.find_all.Goals.{else-loop-test, then-loop-test+then-not-work_on}

pub loop-init : goal.loop-init
loop-init g c f notes has game =
    c.go-2.ensures notes
    (c.go.ensures notes (c.requires.found notes) (c.at_nmi.ensures (noted notes c.from-nmi.result)
    (ap (λ a. interrupts (noted notes a)) (c.from-nmi.ensures ∙ c.word_at.ensures f has) ∙ game.nmi)))
    (c.at_start.ensures (noted notes c.args.start) game.begins)

pub loop-preserved : goal.loop-preserved
loop-preserved g c f notes has game = c.work_on.ensures f c.args.start notes has game (c.loop.invariant f notes has game)

pub returns : goal.returns
returns g c =
    IfOk-weaker c.notes_of.result _ _ (λ made h. (
      h.0,
      λ f notes has game. h.1 notes
          (elim c.loop-test.branch [
            | else-loop-test w ↦
                subst (λ states. AreUnder (states_in states) notes) (sym w.states-is) (c.loop.invariant f notes has game)
            | then-loop-test+then-not-work_on w ↦
                subst (λ states. AreUnder (states_in states) notes) (sym w.states-is)
                (w.work_on.ensures f c.args.start notes has game (c.loop.invariant f notes has game))
          ]),
    )) c.notes_of.ensures
