use Rattle.std.proofs.Common.{◌≡◌, ◌-◌, ◌+◌, ◌++◌, ◌∷◌, ◌∙◌, [], ap, append-nil, arith, get_or, length, map, refl, subst, sym}
use Rattle.dvg_game_check.specs.declared.note.Slot.TheVariants.{Any}
use Rattle.dvg_game_check.specs.Least.{stacked}
use Rattle.dvg_game_check.specs.Rules.{slot_meant}
use Rattle.dvg_game_check.proofs.Pushes.{stacked_more}
use Rattle.dvg_game_check.proofs.state.slots_of.Goals as goal

pub loop-i-preserved : goal.loop-i-preserved
loop-i-preserved c = (
  omega (arith, ap length c.push.ensures.items, c.loop-i.invariant.0, c.push.ensures.len),
  ap (λ items. map slot_meant items ++ stacked c.args.state.slots (c.from-depth.result - (c.loop-i.i + 1))) c.push.ensures.items
      ∙ stacked_more c.loop-i.slots.items c.args.state.slots c.from-depth.result c.loop-i.i
      (get_or c.args.state.slots (c.from-depth.result - 1 - c.loop-i.i) Any) (stacked c.args.state.slots c.from-depth.result)
      c.loop-i-test.true refl c.loop-i.invariant.1,
)

pub returns : goal.returns
returns c nmi less =
    let zero : c.from-depth.result - c.loop-i.i ≡ 0 = omega arith in
    sym (append-nil (map slot_meant c.loop-i.slots.items))
    ∙ (sym (ap (λ n. map slot_meant c.loop-i.slots.items ++ stacked c.args.state.slots n) zero)
    ∙ (c.loop-i.invariant.1 ∙ ap (stacked c.args.state.slots) c.from-depth.ensures))
