use Rattle.std.proofs.Common.{[], ap, refl, subst, sym, ◌∙◌}
use Rattle.std.proofs.lemmas.Bool.{false≢true}
use Rattle.dvg_gen.specs.Saved.{machine_of}
use Rattle.dvg_driver.specs.Saved.{IsState, driving_in}
use Rattle.dvg_device.specs.declared.reply.Reply.{Reply}
use Rattle.dvg_device.specs.Resuming.{state_of}
use Rattle.dvg_device.specs.Worlds.{Resumes, world_with}
use Rattle.dvg_device.proofs.StateParts.{can_stand, is_state}
use Rattle.dvg_device.proofs.device.resumed.Goals.{in-Ok, in-Err}
use Rattle.dvg_device.proofs.device.resumed.Goals as goal

pub returns : goal.returns
returns c =
    let generator = c.args.told.0 in
    let strokes = c.args.told.1.items in
    let F = c.args.draft.now in
    let world = c.args.world.now in
    let driver_is = c.state.ensures ∙ ap (state_of c.args.fields) c.copy.ensures in
    let answers : Reply → Type 0 = λ reply. Resumes c.args.ram (machine_of generator strokes []) c.args.fields F world c.resume.new.self reply in
    elim c.match-resume.branch [
      | in-Ok w ↦
          let taken = w.in-Ok.ensures.taken.0 refl in
          subst answers (sym w.result-is) (
            (can_stand generator strokes [] taken.0.0, subst (IsState world.rom) driver_is taken.1),
            w.in-Ok.ensures.state
                ∙ ap (λ driver. record (world_with c.args.ram (machine_of generator strokes []) c.args.fields F world)
                { driver = driver }) (ap driving_in driver_is),
          )
      | in-Err w ↦
          subst answers (sym w.result-is) (
            λ can. false≢true (w.in-Err.ensures.taken.1 (
              (is_state generator strokes [] can.0, c.requires),
              subst (IsState world.rom) (sym driver_is) can.1,
            )),
            w.in-Err.ensures.refused,
          )
    ]
