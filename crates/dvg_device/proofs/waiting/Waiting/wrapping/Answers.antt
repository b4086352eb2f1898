use Rattle.std.proofs.Common.{◌≡◌, [], eq-eqb, length, refl, sym, ap, ◌∙◌, subst}
use Rattle.std.proofs.lemmas.Bool.{eqb-true, false≢true}
use Rattle.std.proofs.lemmas.List.{length-reverse}
use Rattle.dvg_gen.specs.Machine.{Machine}
use Rattle.dvg_gen.specs.Saved.{IsWrappedState, wrapped_of}
use Rattle.dvg_device.specs.States.{CanStand}
use Rattle.dvg_device.specs.Wrappings.{wrapping_of}
use Rattle.dvg_device.proofs.StateParts.{can_stand, is_state}
use Rattle.dvg_device.proofs.waiting.Waiting.wrapping.Goals.{then-not-is_full-via-then-not-is_full, then-not-is_full-via-else-not-is_full+then-not-is_valid}
use Rattle.dvg_device.proofs.waiting.Waiting.wrapping.Goals as goal

pub returns-then-not-is_full : goal.returns-then-not-is_full
returns-then-not-is_full c = (
  λ can.
      let state = c.self.inside.state in
      elim c.then-not-is_full.branch [
        | then-not-is_full-via-then-not-is_full w ↦
            let four = sym (length-reverse _) ∙ subst (λ (machine : Machine). length machine.stack ≡ 4) (sym c.self.view_is) can.1 in
            false≢true (sym w.if-not-is_full.true ∙ c.is_full.ensures.value ∙ eq-eqb _ _ four)
        | then-not-is_full-via-else-not-is_full+then-not-is_valid w ↦
            let valid = is_state state c.self.inside.strokes.items [] (subst CanStand (sym c.self.view_is) can.0) in
            false≢true (sym w.if-not-is_valid.true ∙ w.is_valid.ensures.1 valid)
      ],
  refl,
)

pub unreachable-requires : goal.unreachable-requires
unreachable-requires c =
    let valid = c.is_valid.ensures.0 c.if-not-is_valid.false in
    let full = eqb-true _ _ (sym c.is_full.ensures.value ∙ c.if-not-is_full.false) in
    let told = c.take_told-state.ensures in
    let is = c.self.view_is ∙ told.told in
    let stands = can_stand c.self.inside.state c.self.inside.strokes.items [] valid in
    let there : IsWrappedState c.take_told-state.result.0 = record {
      plain = is_state c.take_told-state.result.0 c.take_told-state.result.1.items [] (subst CanStand is stands);
      four = sym (length-reverse _) ∙ subst (λ (machine : Machine). length machine.stack ≡ 4) is (length-reverse _ ∙ full);
    } in
    false≢true (c.in-Err.ensures.taken.1 (there, told.strokes))

pub returns : goal.returns
returns c =
    let valid = c.is_valid.ensures.0 c.if-not-is_valid.false in
    let full = eqb-true _ _ (sym c.is_full.ensures.value ∙ c.if-not-is_full.false) in
    let stands = subst CanStand c.self.view_is (can_stand c.self.inside.state c.self.inside.strokes.items [] valid) in
    let four = subst (λ (machine : Machine). length machine.stack ≡ 4) c.self.view_is (length-reverse _ ∙ full) in
    let told = c.take_told-state.ensures.told in
    let state = c.take_told-state.result.0 in
    let strokes = c.take_told-state.result.1.items in (
      (stands, four),
      ap (λ (machine : Machine). machine.picture) told,
      c.in-Ok.ensures.machine
          ∙ ap (λ picture. wrapped_of state strokes picture) c.new-wrapping.ensures.picture ∙ ap wrapping_of (sym told),
      c.take_told-state.ensures.forgotten,
    )
