use Rattle.std.proofs.Common.{[], sym, ◌∙◌}
use Rattle.std.proofs.lemmas.Bool.{false≢true}
use Rattle.dvg_log.specs.Log.{open_run}
use Rattle.dvg_device.proofs.JudgeSays.{none_of}
use Rattle.dvg_device.proofs.judging.halt.Goals as goal

pub returns-then-done : goal.returns-then-done
returns-then-done c = record {
  stands = λ log s. c.done.ensures.stands [] log s;
  says = λ log s. ((c.done.ensures.torn [] log s).0 c.if-done.true, c.contradicts_word-wrong.ensures.done [] log s);
}

pub returns-then-is_open : goal.returns-then-is_open
returns-then-is_open c = record {
  stands = λ log s. c.done.ensures.stands [] log s;
  says = λ log s. (
    (
      (c.is_open-is_open.ensures log s).0 c.if-is_open.true,
      λ n. false≢true (sym c.if-done.false ∙ (c.done.ensures.torn [] log s).1 n),
    ),
    c.contradicts_word-wrong.ensures.done [] log s,
  );
}

pub returns-else-is_open : goal.returns-else-is_open
returns-else-is_open c = record {
  stands = λ log s. c.done.ensures.stands [] log s;
  says = λ log s. (
    none_of (open_run log) (λ n. false≢true (sym c.if-is_open.false ∙ (c.is_open-is_open.ensures log s).1 n)),
    c.contradicts_word-wrong.ensures.done [] log s,
  );
}
