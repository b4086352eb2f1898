use Rattle.std.proofs.Common.{◌∙◌, rules}
use Rattle.dvg_code.specs.Ranges.{InRange}
use Rattle.dvg_code.proofs.Canonical.{canonical_answer}
use Rattle.dvg_code.proofs.encoding.is_canonical.Goals as goal

pub returns-in-Ok : goal.returns-in-Ok
returns-in-Ok c =
    let range : InRange c.in-Ok.read.0 = search rules in
    canonical_answer c.args.words.now c.as_slice.result.now c.in-Ok.read.0 _ c.eq.result range c.in-Ok.ensures.spelled (c.as_slice.ensures.value ∙ c.encode.ensures.canonical) c.eq.ensures
