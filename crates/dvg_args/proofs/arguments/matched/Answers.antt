use Rattle.std.proofs.Common.{◌≡◌, ◌∙◌, List, ap, map, subst, true}
use Rattle.std.proofs.lemmas.Result.{IfOk-weaker}
use Rattle.std.specs.Prelude.{IfErr}
use Rattle.clap.specs.Words.{App, FailsBy, HasMatchesOf, IsParsedFrom, Text, app_of, fault_of, is_simple, is_simple_and_free, kind_of, subcommand_of, takes}
use Rattle.clap.specs.declared.error.kind.ErrorKind.TheVariants.{OutOfMemory}
use Rattle.dvg_args.proofs.Jobs.{dvg_app_is_simple, dvg_app_is_free, subcommand_is_required}
use Rattle.dvg_args.proofs.arguments.matched.Goals as goal

pub returns-clause-some : goal.returns-clause-some
returns-clause-some c =
    let must = ap (λ (a : App). a.top.subcommand_required) c.in_ok-command.ensures.app ∙ subcommand_is_required in
    IfOk-weaker c.try_get_matches_from.result (IsParsedFrom c.in_ok-command.field-0) _
    (λ m given. (given.parsed (given.from.globals ∙ c.in_ok-command.ensures.local)).checked.subcommand (given.from.needs_subcommand ∙ must))
    c.try_get_matches_from.ensures.parsed

pub returns-clause-rows : goal.returns-clause-rows
returns-clause-rows c =
    let app = c.in_ok-command.ensures.app in
    let arguments : List Text = map (λ w. w.now) c.args.arguments.now in
    IfOk-weaker c.try_get_matches_from.result (HasMatchesOf (app_of c.in_ok-command.field-0) arguments) _
    (λ m given. (given (ap is_simple app ∙ dvg_app_is_simple)).1 ∙ ap (λ a. subcommand_of a arguments) app) c.try_get_matches_from.ensures.matches

pub returns-clause-err : goal.returns-clause-err
returns-clause-err c =
    let arguments : List Text = map (λ w. w.now) c.args.arguments.now in
    subst (λ a. IfErr c.try_get_matches_from.result (λ e. takes a arguments ≡ true → kind_of e ≡ OutOfMemory)) c.in_ok-command.ensures.app
    c.try_get_matches_from.ensures.passes

pub returns-clause-kinds : goal.returns-clause-kinds
returns-clause-kinds c =
    let app = c.in_ok-command.ensures.app in
    let arguments : List Text = map (λ w. w.now) c.args.arguments.now in
    subst (λ a. FailsBy (fault_of a arguments) c.try_get_matches_from.result) app
    (c.try_get_matches_from.ensures.kinds (ap is_simple_and_free app ∙ dvg_app_is_free))
