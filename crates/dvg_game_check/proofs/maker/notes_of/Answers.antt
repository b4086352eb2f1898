use Rattle.std.proofs.Common.{◌≡◌, ◌+◌, ◌∙◌, ◌∷◌, [], ap, arith, length, length-append, subst, sym}
use Rattle.dvg_game_words.specs.Checker.{first, noted, places}
use Rattle.dvg_game_check.proofs.Loops.{places_are}
use Rattle.dvg_game_check.proofs.States.{UnderFor, under_all, under_index, under_more}
use Rattle.dvg_game_check.proofs.maker.notes_of.Goals as goal

pub loop-i-preserved : goal.loop-i-preserved
loop-i-preserved g c = (
  ap length c.in_ok-push.ensures.items ∙ (length-append c.loop-i.notes.items (c.noted_of.result ∷ []) ∙ ap (λ n. n + 1) c.loop-i.invariant.0),
  λ notes under. subst (λ items. UnderFor items notes (c.loop-i.i + 1)) (sym c.in_ok-push.ensures.items)
      (under_more c.loop-i.notes.items c.noted_of.result notes c.loop-i.i c.loop-i.invariant.0
      (c.noted_of.ensures (noted notes (first + c.loop-i.i)) (under_index c.args.states.now notes c.loop-i.i (omega arith) under))
      (c.loop-i.invariant.1 notes under)),
)

pub returns : goal.returns
returns g c = (
  omega (arith, c.loop-i.invariant.0),
  λ notes under. under_all c.loop-i.notes.items notes
      (subst (λ n. UnderFor c.loop-i.notes.items notes n) (omega (arith, places_are)) (c.loop-i.invariant.1 notes under)),
)
