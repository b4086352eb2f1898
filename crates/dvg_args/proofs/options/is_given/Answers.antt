use Rattle.std.proofs.Common.{◌∙◌, ap, sym}
use Rattle.std.specs.Prelude.{is_some}
use Rattle.clap.specs.Words.{found_of}
use Rattle.clap.proofs.WalkLemmas.{first_value-rows}
use Rattle.dvg_args.proofs.Refused.{mapped_some}
use Rattle.dvg_args.proofs.options.is_given.Goals as goal

pub returns : goal.returns
returns c =
    c.is_some.ensures ∙ sym (mapped_some (λ s. s.now) c.get_str.result)
    ∙ ap is_some (c.get_str.ensures ∙ first_value-rows (found_of c.args.found.now) c.args.id.now)
