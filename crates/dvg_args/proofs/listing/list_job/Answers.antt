use Rattle.std.proofs.Common.{◌≡◌, ◌∙◌, ◌||◌, ℕ, Option, Some, None, ap, codes, false, not, sym}
use Rattle.std.specs.Prelude.{is_some, option_and_then}
use Rattle.clap.specs.Words.{Text, first_of, found_of, rows_of}
use Rattle.clap.proofs.WalkLemmas.{first_value-rows}
use Rattle.dvg_args.specs.Options.{hex_in, refused_by}
use Rattle.dvg_args.proofs.listing.list_job.Goals as goal

pub returns-in_default-clause-ok : goal.returns-in_default-clause-ok
returns-in_default-clause-ok c =
    let found = found_of c.args.found.now in
    let none : Option Text = None in
    let e : none ≡ first_of (codes "at") (rows_of found) = c.in_default.ensures ∙ first_value-rows found (codes "at") in
    ap (λ o. Some (codes "list", is_some o)) (sym e)

pub returns-in_default-clause-kinds : goal.returns-in_default-clause-kinds
returns-in_default-clause-kinds c =
    let found = found_of c.args.found.now in
    let none : Option Text = None in
    let e : none ≡ first_of (codes "at") (rows_of found) = c.in_default.ensures ∙ first_value-rows found (codes "at") in
    ap (λ o. refused_by false false (not (is_some o) || is_some (option_and_then (hex_in 3) o))) (sym e)

pub returns-in-Some-hex_in-clause-ok : goal.returns-in-Some-hex_in-clause-ok
returns-in-Some-hex_in-clause-ok c =
    let found = found_of c.args.found.now in
    let e : Some c.in-Some.text.now ≡ first_of (codes "at") (rows_of found) = c.in-Some.ensures ∙ first_value-rows found (codes "at") in
    let one : Some c.in-Some-hex_in.address ≡ hex_in 3 c.in-Some.text.now = c.in-Some-hex_in.ensures in
    ap (λ o. Some (codes "list", o)) (ap (λ o. option_and_then (hex_in 3) o) (sym e) ∙ sym one)

pub returns-in-Some-hex_in-clause-kinds : goal.returns-in-Some-hex_in-clause-kinds
returns-in-Some-hex_in-clause-kinds c =
    let found = found_of c.args.found.now in
    let e : Some c.in-Some.text.now ≡ first_of (codes "at") (rows_of found) = c.in-Some.ensures ∙ first_value-rows found (codes "at") in
    let one : Some c.in-Some-hex_in.address ≡ hex_in 3 c.in-Some.text.now = c.in-Some-hex_in.ensures in
    ap (λ o. refused_by false false (not (is_some o) || is_some (option_and_then (hex_in 3) o))) (sym e) ∙ ap (λ o. refused_by false false (is_some o)) (sym one)

pub returns-in-None-clause-kinds : goal.returns-in-None-clause-kinds
returns-in-None-clause-kinds c =
    let found = found_of c.args.found.now in
    let e : Some c.in-Some.text.now ≡ first_of (codes "at") (rows_of found) = c.in-Some.ensures ∙ first_value-rows found (codes "at") in
    let none : Option ℕ = None in
    let one : none ≡ hex_in 3 c.in-Some.text.now = c.in-None.ensures in
    ap (λ o. refused_by false false (not (is_some o) || is_some (option_and_then (hex_in 3) o))) (sym e) ∙ ap (λ o. refused_by false false (is_some o)) (sym one)
