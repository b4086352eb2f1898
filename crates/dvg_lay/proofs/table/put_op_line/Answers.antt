use Rattle.std.proofs.lemmas.Result.{on_ok_weaker}
use Rattle.dvg_lay.proofs.TextsGrow.{grew_by_5}
use Rattle.dvg_lay.proofs.table.put_op_line.Goals as goal

pub returns : goal.returns
returns g c = on_ok_weaker c.put-3.result (λ end. grew_by_5 _ _ _ _ _ _ _ _ _ _ _ c.in_ok-put.ensures c.in_ok-put_words.ensures c.in_ok-put-2.ensures c.in_ok-put_said.ensures end) c.put-3.ensures
