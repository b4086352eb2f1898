use Rattle.std.proofs.Common.{◌∙◌, subst, sym}
use Rattle.std.specs.Prelude.{IfOk, IfSome}
use Rattle.clap.specs.Words.{found_of, rows_of}
use Rattle.dvg_args.specs.Options.{Refuses}
use Rattle.dvg_args.specs.Arguments.{IsJob, IsJobName, options_fault}
use Rattle.dvg_args.proofs.Jobs.{entered_as}
use Rattle.dvg_args.proofs.arguments.entered.Goals as goal

pub unreachable-requires : goal.unreachable-requires
unreachable-requires c =
    let none = c.in_default.ensures.variant ∙ c.requires.some in
    cc

pub asked-requires : goal.asked-requires
asked-requires c = subst (λ name. IfSome name IsJobName) (sym c.in-Some.ensures.name) c.requires.name

pub returns-clause-ok : goal.returns-clause-ok
returns-clause-ok c =
    let rows = rows_of (found_of c.in-Some.entered.1.now) in
    let same = entered_as _ c.in-Some.entered.0.now rows c.in-Some.ensures.name c.in-Some.ensures.rows in
    subst (λ met. IfOk c.asked.result (λ job. IsJob job met)) (sym same) c.asked.ensures.ok

pub returns-clause-kinds : goal.returns-clause-kinds
returns-clause-kinds c =
    let rows = rows_of (found_of c.in-Some.entered.1.now) in
    let same = entered_as _ c.in-Some.entered.0.now rows c.in-Some.ensures.name c.in-Some.ensures.rows in
    subst (λ met. Refuses c.asked.result (options_fault met)) (sym same) c.asked.ensures.kinds
