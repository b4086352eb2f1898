use Rattle.std.proofs.Common.{◌∙◌, ap, true}
use Rattle.clap.specs.Words.{App}
use Rattle.clap.specs.Simple.{app_of_fields}
use Rattle.dvg_args.proofs.command.program.Goals as goal

abbrev requiring : App → App
requiring a = record a { top = record a.top { subcommand_required = true } }

abbrev versioned : App → App
versioned a = record a { top = record a.top { has_version = true } }

pub returns-clause-app : goal.returns-clause-app
returns-clause-app c =
    ap app_of_fields c.subcommand_required.ensures ∙ ap requiring (ap app_of_fields c.version.ensures ∙ ap versioned c.helped.ensures.app)
