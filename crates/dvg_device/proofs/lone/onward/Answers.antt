use Rattle.std.proofs.Common.{◌≡◌, ◌↔◌, ℕ, Option, Some, false, sym, ap, ◌∙◌, subst}
use Rattle.std.specs.Prelude.{IsNone, is_some}
use Rattle.dvg_device.specs.declared.reply.Reply.TheVariants.{Onward}
use Rattle.dvg_device.specs.Generators.{onward}
use Rattle.dvg_device.proofs.lone.onward.Goals as goal

pub returns-in-Some-clause-histories : goal.returns-in-Some-clause-histories
returns-in-Some-clause-histories c history low after =
    ap (Onward c.args.entry c.in-Some.address) (c.is_some.ensures ∙ ap is_some (c.low_byte.ensures ∙ after.low))
    ∙ ap (λ address. onward c.args.entry address low) (sym c.in-Some.is ∙ c.wants.ensures.address history low after)

pub returns-in-Some-clause-any_state : goal.returns-in-Some-clause-any_state
returns-in-Some-clause-any_state c =
    let machine = c.args.generator.now in (
      Some c.in-Some.address,
      subst (λ (wanted : Option ℕ). IsNone wanted ↔ (machine.is_open ≡ false)) c.in-Some.is c.wants.ensures.halted,
      ap (Onward c.args.entry c.in-Some.address) (c.is_some.ensures ∙ ap is_some c.low_byte.ensures),
    )
