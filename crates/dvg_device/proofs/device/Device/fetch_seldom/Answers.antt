use Rattle.std.proofs.Common.{◌⊎◌, refl, sym, subst}
use Rattle.dvg_log.specs.declared.event.Event.TheVariants.{Fetch}
use Rattle.dvg_device.specs.Worlds.{Happens, Lacks}
use Rattle.dvg_device.specs.declared.reply.Reply.TheVariants.{Closed, Unknown}
use Rattle.dvg_device.specs.declared.cabinet.Cabinet.{Cabinet}
use Rattle.dvg_device.proofs.device.Device.fetch_seldom.Goals.{in-Nothing, in-World, in-Driver, in-Generator, in-Wrapping, in-Judge}
use Rattle.dvg_device.proofs.device.Device.fetch_seldom.Goals as goal

pub returns : goal.returns
returns c = elim c.match-self.branch [
  | in-Nothing w ↦ rw (w.result-is, w.self-inside-is, sym c.self.view_is, w.in-Nothing.is)
      (Closed, (refl, refl), w.number.ensures)
  | in-World w ↦ rw (w.result-is, w.self-inside-is, sym c.self.view_is, w.in-World.is) (
    w.fetch_world_high.ensures.0,
    (
      w.fetch_world_high.new.world,
      refl,
      subst (λ (cabinet : Cabinet). Happens Fetch cabinet.world w.fetch_world_high.new.world w.fetch_world_high.ensures.0 ⊎ Lacks Fetch cabinet.world w.fetch_world_high.new.world w.fetch_world_high.ensures.0) w.deref_mut.ensures.value w.fetch_world_high.ensures.1,
    ),
    w.fetch_world_high.ensures.2,
  )
  | in-Driver w ↦ rw (w.result-is, w.self-inside-is, sym c.self.view_is, w.in-Driver.is)
      (Unknown, (w.in-Driver.field-0.value, refl, refl, (refl, refl)), w.number-in-Driver.ensures)
  | in-Generator w ↦ rw (w.result-is, w.self-inside-is, sym c.self.view_is, w.in-Generator.is)
      (w.fetch_high.ensures.0, (w.fetch_high.new.generator, refl, w.fetch_high.ensures.1), w.fetch_high.ensures.2)
  | in-Wrapping w ↦ rw (w.result-is, w.self-inside-is, sym c.self.view_is, w.in-Wrapping.is)
      (w.fetch_wrapping.result, (w.fetch_wrapping.new.generator, refl, w.fetch_wrapping.ensures), w.number-in-Wrapping.ensures)
  | in-Judge w ↦ rw (w.result-is, w.self-inside-is, sym c.self.view_is, w.in-Judge.is)
      (Unknown, (w.in-Judge.field-0.value, refl, (refl, refl)), w.number-in-Judge.ensures)
]
