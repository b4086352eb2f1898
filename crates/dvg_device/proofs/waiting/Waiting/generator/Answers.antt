use Rattle.std.proofs.Common.{[], refl, sym, ap, ◌∙◌, subst}
use Rattle.std.proofs.lemmas.Bool.{false≢true}
use Rattle.dvg_gen.specs.Machine.{Machine}
use Rattle.dvg_gen.specs.Saved.{machine_of}
use Rattle.dvg_device.specs.States.{CanStand}
use Rattle.dvg_device.proofs.StateParts.{can_stand, is_state}
use Rattle.dvg_device.proofs.waiting.Waiting.generator.Goals as goal

pub returns-then-not-is_valid : goal.returns-then-not-is_valid
returns-then-not-is_valid c = (
  λ can.
      let state = c.self.inside.state in
      let valid = is_state state c.self.inside.strokes.items [] (subst CanStand (sym c.self.view_is) can) in
      false≢true (sym c.if-not-is_valid.true ∙ c.is_valid.ensures.1 valid),
  refl,
)

pub unreachable-requires : goal.unreachable-requires
unreachable-requires c =
    let valid = c.is_valid.ensures.0 c.if-not-is_valid.false in
    let told = c.take_told-state.ensures in
    let stands = can_stand c.self.inside.state c.self.inside.strokes.items [] valid in
    let there = is_state c.take_told-state.result.0 c.take_told-state.result.1.items []
    (subst CanStand (c.self.view_is ∙ told.told) stands) in
    false≢true (c.in-Err.ensures.taken.1 (there, told.strokes))

pub returns : goal.returns
returns c =
    let valid = c.is_valid.ensures.0 c.if-not-is_valid.false in
    let told = c.take_told-state.ensures.told in
    let state = c.take_told-state.result.0 in
    let strokes = c.take_told-state.result.1.items in (
      subst CanStand c.self.view_is (can_stand c.self.inside.state c.self.inside.strokes.items [] valid),
      ap (λ (machine : Machine). machine.picture) told,
      c.in-Ok.ensures.machine ∙ ap (machine_of state strokes) c.new-generator.ensures.picture ∙ sym told,
      c.take_told-state.ensures.forgotten,
    )
