use Rattle.std.proofs.Common.{◌≡◌, refl, rules}
use Rattle.dvg_frame.specs.declared.op.OpKind.TheVariants.{Draw, Return}
use Rattle.test_facts.specs.Facts.{long_vector}
use Rattle.test_facts.proofs.Called.{called_of}
use Rattle.test_facts.proofs.steps.called_by_name.Goals as goal

pub returns : goal.returns
returns c =
    let vector : c.unwrap.result ≡ Draw long_vector = search rules in
    let back : c.unwrap-2.result ≡ Return = search rules in
    called_of _ _ refl _ _ _ c.default.ensures vector back c.draft_of.result
    c.draft_of.ensures.draft c.draft_of.ensures.fault
