use Rattle.std.proofs.Common.{rules, refl, sym, ap, ◌∙◌, subst}
use Rattle.dvg_device.specs.Drivers.{DriverAnswers}
use Rattle.dvg_device.specs.Worlds.{WorldAnswers}
use Rattle.dvg_device.specs.declared.cabinet.Cabinet.{Cabinet}
use Rattle.dvg_device.proofs.device.Device.ask.Goals.{in-Nothing, in-World, in-Driver, in-Generator, in-Wrapping, in-Judge}
use Rattle.dvg_device.proofs.device.Device.ask.Goals as goal

pub returns : goal.returns
returns c =
    let draft = c.self.inside.draft in
    let request = c.args.request in
    elim c.match-self.branch [
      | in-Nothing w ↦ rw (w.result-is, w.self-inside-is, sym c.self.view_is, w.in-Nothing.is) (search rules)
      | in-World w ↦ rw (w.result-is, w.self-inside-is, sym c.self.view_is, w.in-World.is) (
        w.ask_world.new.world,
        refl,
        subst (λ staged. WorldAnswers draft staged request w.in-World.cabinet.value.world w.ask_world.new.world w.ask_world.result) w.as_slice.ensures.value
            (subst (λ (cabinet : Cabinet). WorldAnswers draft w.as_slice.result.now request cabinet.world w.ask_world.new.world w.ask_world.result)
            w.deref_mut.ensures.value w.ask_world.ensures),
      )
      | in-Driver w ↦ rw (w.result-is, w.self-inside-is, sym c.self.view_is, w.in-Driver.is) (
          let driven = w.deref_mut-in-Driver.ensures.value in (
            w.ask_driver.new.desk,
            refl,
            w.ask_driver.ensures.rom ∙ ap (λ d. d.rom) driven,
            subst (λ d. DriverAnswers d.rom draft request d.driver w.ask_driver.new.desk.driver w.ask_driver.result) driven w.ask_driver.ensures.answers,
          ))
      | in-Generator w ↦ rw (w.result-is, w.self-inside-is, sym c.self.view_is, w.in-Generator.is)
          (w.ask_generator.new.generator, refl, w.ask_generator.ensures)
      | in-Wrapping w ↦ rw (w.result-is, w.self-inside-is, sym c.self.view_is, w.in-Wrapping.is)
          (w.ask_wrapping.new.generator, refl, w.ask_wrapping.ensures)
      | in-Judge w ↦ rw (w.result-is, w.self-inside-is, sym c.self.view_is, w.in-Judge.is) (search rules)
    ]
