use Rattle.std.proofs.lemmas.Result.{on_ok_weaker}
use Rattle.dvg_lay.proofs.TextsGrow.{grew_by_3}
use Rattle.dvg_lay.proofs.table.put_count.Goals as goal

pub returns : goal.returns
returns g c = on_ok_weaker c.put-2.result (λ end. grew_by_3 _ _ _ _ _ _ _ c.in_ok-put.ensures c.in_ok-put_decimal.ensures end) c.put-2.ensures
