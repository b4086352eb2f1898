use Rattle.std.proofs.Common.{refl, sym, ap, ◌∙◌, inl, subst}
use Rattle.dvg_log.specs.declared.event.Event.TheVariants.{Tick}
use Rattle.dvg_world.specs.Desks.{TickAnswers}
use Rattle.dvg_device.specs.Drivers.{OfAction}
use Rattle.dvg_device.specs.Worlds.{Happens}
use Rattle.dvg_device.specs.declared.reply.Reply.TheVariants.{Closed, Unknown}
use Rattle.dvg_device.specs.declared.cabinet.Cabinet.{Cabinet}
use Rattle.dvg_device.proofs.device.Device.tick.Goals.{in-Nothing, in-World, in-Driver, in-Generator, in-Wrapping, in-Judge}
use Rattle.dvg_device.proofs.device.Device.tick.Goals as goal

pub returns : goal.returns
returns c = elim c.match-self.branch [
  | in-Nothing w ↦ rw (sym c.self.view_is, w.self-inside-is, w.result-is, w.in-Nothing.is)
      (Closed, (refl, refl), w.number.ensures)
  | in-World w ↦ rw (sym c.self.view_is, w.self-inside-is, w.result-is, w.in-World.is) (
    w.tick_world.result,
    (
      w.tick_world.new.world,
      refl,
      inl (subst (λ (cabinet : Cabinet). Happens Tick cabinet.world w.tick_world.new.world w.tick_world.result) w.deref_mut.ensures.value w.tick_world.ensures),
    ),
    w.number-in-World.ensures,
  )
  | in-Driver w ↦
      let driven = w.deref_mut-in-Driver.ensures.value in
      let later = w.tick_driver.new.desk in
      rw (sym c.self.view_is, w.self-inside-is, w.result-is, w.in-Driver.is) (
        w.tick_driver.result,
        (
          later,
          refl,
          w.tick_driver.ensures.rom ∙ ap (λ d. d.rom) driven,
          subst (λ d. OfAction (TickAnswers c.args.halted c.args.byte1 d.driver later.driver) w.tick_driver.result) driven
              w.tick_driver.ensures.answers,
        ),
        w.number-in-Driver.ensures,
      )
  | in-Generator w ↦ rw (sym c.self.view_is, w.self-inside-is, w.result-is, w.in-Generator.is)
      (Unknown, (w.in-Generator.field-0, refl, (refl, refl)), w.number-in-Generator.ensures)
  | in-Wrapping w ↦ rw (sym c.self.view_is, w.self-inside-is, w.result-is, w.in-Wrapping.is)
      (Unknown, (w.in-Wrapping.field-0, refl, (refl, refl)), w.number-in-Wrapping.ensures)
  | in-Judge w ↦ rw (sym c.self.view_is, w.self-inside-is, w.result-is, w.in-Judge.is)
      (Unknown, (w.in-Judge.field-0.value, refl, (refl, refl)), w.number-in-Judge.ensures)
]
