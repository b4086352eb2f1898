use Rattle.std.proofs.Common.{◌≡◌, ℕ, List, Option, sym, ap, ◌∙◌, inl, subst}
use Rattle.dvg_gen.specs.Bytes.{met}
use Rattle.dvg_gen.specs.Machine.{Machine, HasTaken}
use Rattle.dvg_gen.specs.Told.{Told, wants}
use Rattle.dvg_log.specs.Entries.{entry_by}
use Rattle.dvg_device.specs.Generators.{OfHistories, WantsNext, onward}
use Rattle.dvg_device.proofs.wrapping.fetch_wrapping.Goals as goal

pub returns-in-Ok : goal.returns-in-Ok
returns-in-Ok c =
    let address = c.in-Some.address in
    let step = c.in-Ok.step in
    let wanted = subst (λ (machine : Machine). (history : List Told) (low : Option ℕ)
    (after : HasTaken machine history low) → c.wants.result ≡ wants after.run) c.generator.ensures
    c.wants.ensures.address in
    let low = c.low_byte-low.ensures ∙ ap (λ (machine : Machine). machine.low) c.generator-2.ensures in
    let entry = c.of_fetch.result in
    let reply = c.onward.result in
    let told = subst (λ machine. OfHistories machine (λ history low run. reply ≡ onward entry (wants run) low))
    c.generator-in-Ok.ensures c.onward.ensures.histories in
    inl (record {
      address = address;
      step = step;
      wanted = λ history low stands. sym (wanted stands.told low stands.after) ∙ c.in-Some.is;
      answers = c.in-Ok.ensures.answers;
      picture = c.in-Ok.ensures.picture;
      entry = entry;
      came = λ history waiting stands. c.of_fetch.ensures
          ∙ ap (λ waits. entry_by address (met waits c.args.byte) step tt) (low ∙ stands.after.low);
      answered = λ history waiting stands. told stands.told waiting stands.after;
      read = c.of_fetch.ensures ∙ ap (λ waits. entry_by address (met waits c.args.byte) step tt) low;
      goes_on = subst (λ machine. WantsNext entry machine reply) c.generator-in-Ok.ensures c.onward.ensures.any_state;
    })
