use Rattle.std.proofs.Common.{sym, ap, ◌∙◌, inl}
use Rattle.dvg_gen.specs.Bytes.{met}
use Rattle.dvg_log.specs.Entries.{entry_by}
use Rattle.dvg_device.proofs.lone.fetch.Goals as goal

pub returns-in-Ok : goal.returns-in-Ok
returns-in-Ok c =
    let address = c.in-Some.address in
    let step = c.in-Ok.step in
    inl (record {
      address = address;
      step = step;
      wanted = λ history low after. sym (c.wants.ensures.address history low after) ∙ c.in-Some.is;
      answers = c.in-Ok.ensures.answers;
      picture = c.in-Ok.ensures.picture;
      entry = c.of_fetch.result;
      came = λ history low after. c.of_fetch.ensures
          ∙ ap (λ waits. entry_by address (met waits c.args.byte) step tt) (c.low_byte-low.ensures ∙ after.low);
      answered = c.onward.ensures.histories;
      read = c.of_fetch.ensures ∙ ap (λ waits. entry_by address (met waits c.args.byte) step tt) c.low_byte-low.ensures;
      goes_on = c.onward.ensures.any_state;
    })
