use Rattle.std.proofs.Common.{◌≡◌, ◌∙◌, Some, None, Option, List, ℕ, ap, false, codes}
use Rattle.std.specs.Option.{option_map_or}
use Rattle.std.specs.Str.{bytes_eq}
use Rattle.clap.specs.Words.{first_of, found_of, rows_of}
use Rattle.clap.proofs.WalkLemmas.{first_value-rows}
use Rattle.dvg_args.proofs.options.is_set.Goals as goal

pub returns-in-Some : goal.returns-in-Some
returns-in-Some c =
    let found = found_of c.args.found.now in
    let e : Some c.in-Some.text.now ≡ first_of c.args.id.now (rows_of found) = c.in-Some.ensures ∙ first_value-rows found c.args.id.now in
    c.eq.ensures ∙ ap (λ o. option_map_or (λ t. bytes_eq t (codes "true")) o false) e

pub returns-in-None : goal.returns-in-None
returns-in-None c =
    let found = found_of c.args.found.now in
    let none : Option (List ℕ) = None in
    let e : none ≡ first_of c.args.id.now (rows_of found) = c.in-None.ensures ∙ first_value-rows found c.args.id.now in
    ap (λ o. option_map_or (λ t. bytes_eq t (codes "true")) o false) e
