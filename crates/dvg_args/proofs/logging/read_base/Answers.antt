use Rattle.std.proofs.Common.{◌≡◌, ◌∙◌, ℕ, Option, Some, None, ap, codes}
use Rattle.std.specs.Prelude.{option_map}
use Rattle.clap.specs.Words.{Text, first_of, found_of, rows_of}
use Rattle.clap.proofs.WalkLemmas.{first_value-rows}
use Rattle.dvg_args.specs.Options.{base_in, hex_in}
use Rattle.dvg_args.proofs.logging.read_base.Goals as goal

pub returns-in_default : goal.returns-in_default
returns-in_default c =
    let found = found_of c.args.found.now in
    let none : Option Text = None in
    let e : none ≡ first_of (codes "base") (rows_of found) = c.in_default.ensures ∙ first_value-rows found (codes "base") in
    ap base_in e

pub returns-in-Some-hex_in : goal.returns-in-Some-hex_in
returns-in-Some-hex_in c =
    let found = found_of c.args.found.now in
    let e : Some c.in-Some.text.now ≡ first_of (codes "base") (rows_of found) = c.in-Some.ensures ∙ first_value-rows found (codes "base") in
    let one : Some c.in-Some-hex_in.base ≡ hex_in 4 c.in-Some.text.now = c.in-Some-hex_in.ensures in
    ap (λ o. option_map Some o) one ∙ ap base_in e

pub returns-in-None : goal.returns-in-None
returns-in-None c =
    let found = found_of c.args.found.now in
    let e : Some c.in-Some.text.now ≡ first_of (codes "base") (rows_of found) = c.in-Some.ensures ∙ first_value-rows found (codes "base") in
    let none : Option ℕ = None in
    let one : none ≡ hex_in 4 c.in-Some.text.now = c.in-None.ensures in
    ap (λ o. option_map Some o) one ∙ ap base_in e
