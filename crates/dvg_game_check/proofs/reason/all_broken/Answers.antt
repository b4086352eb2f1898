use Rattle.std.proofs.Common.{◌≡◌, ◌+◌, ◌<◌, refl, subst, sym, ◌∙◌, ap, arith}
use Rattle.std.specs.Prelude.{All}
use Rattle.std.proofs.lemmas.List.Elements.{All-push}
use Rattle.dvg_game_check.specs.declared.reason.Broken.{Broken}
use Rattle.dvg_game_check.specs.Why.{HasBroken, IsBroken}
use Rattle.dvg_game_check.proofs.Listed.{more_fine, more_listed}
use Rattle.dvg_game_check.proofs.Loops.{places_are}
use Rattle.dvg_game_check.proofs.reason.all_broken.Goals as goal
use Rattle.dvg_game_check.proofs.reason.all_broken.Goals.{then-not-fine_place+in_ok-push, else-not-fine_place}

pub loop-i-preserved : goal.loop-i-preserved
loop-i-preserved g c =
    elim c.if-not-fine_place.branch [
      | then-not-fine_place+in_ok-push w ↦
          let one : Broken = record { at = 0x6A87 + c.loop-i.i; rule = w.why-rule.result } in
          let is : IsBroken c.args.rom.now c.args.notes.now one = record {
            low = omega arith;
            high = omega (arith, places_are);
            bad = λ f h. sym (c.fine_place.ensures f h) ∙ w.if-not-fine_place.true;
            breaks = w.why-rule.ensures;
          } in
          subst (λ all. All (IsBroken c.args.rom.now c.args.notes.now) all × HasBroken c.args.rom.now c.args.notes.now all (c.loop-i.i + 1))
          (sym (ap (λ all. all.items) w.all-is ∙ w.in_ok-push.ensures.items)) (
            All-push (IsBroken c.args.rom.now c.args.notes.now) c.loop-i.all.items one c.loop-i.invariant.0 is,
            more_listed c.args.rom.now c.args.notes.now c.loop-i.all.items one c.loop-i.i refl c.loop-i.invariant.1,
          )
      | else-not-fine_place w ↦
          subst (λ all. All (IsBroken c.args.rom.now c.args.notes.now) all.items
          × HasBroken c.args.rom.now c.args.notes.now all.items (c.loop-i.i + 1)) (sym w.all-is) (
            c.loop-i.invariant.0,
            more_fine c.args.rom.now c.args.notes.now c.loop-i.all.items c.loop-i.i
                (λ f h. sym (c.fine_place.ensures f h) ∙ w.if-not-fine_place.false) c.loop-i.invariant.1,
          )
    ]

pub returns : goal.returns
returns g c = record {
  each = c.loop-i.invariant.0;
  others = λ k less. c.loop-i.invariant.1 k (omega (arith, places_are, less));
}
