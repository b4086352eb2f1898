use Rattle.std.proofs.Common.{◌∙◌}
use Rattle.dvg_print.proofs.PutDigits.{after_put}
use Rattle.dvg_print.proofs.instr_line.put_star.Goals as goal

pub returns-then-canonical-clause-text : goal.returns-then-canonical-clause-text
returns-then-canonical-clause-text c =
    let star = c.put_byte-star in
    let space = c.put_byte-space in
    rw c.if-canonical.true (
    after_put c.args.bytes.now space.new.bytes star.result c.args.end 42 star.ensures.start
    (after_put star.new.bytes space.new.bytes space.result star.result 32 space.ensures.start space.ensures.text
    ∙ star.ensures.text)
    )
