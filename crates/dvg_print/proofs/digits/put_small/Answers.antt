use Rattle.std.proofs.Common.{◌-◌, drop, ap, ◌∙◌}
use Rattle.dvg_print.proofs.PutDigits.{small_put}
use Rattle.dvg_print.proofs.digits.put_small.Goals as goal

pub returns-clause-text : goal.returns-clause-text
returns-clause-text c =
    ap (λ count. drop (c.args.end - count) c.put_pair-2.new.bytes) c.small_count.ensures.value
    ∙ small_put c.args.number c.args.end c.args.bytes.now c.put_pair.new.bytes c.put_pair-2.new.bytes c.requires.number
    c.requires.room c.put_pair.ensures c.put_pair-2.ensures
