use Rattle.std.proofs.Common.{◌≡◌, ◌∙◌, Bool, ℕ, Option, ap, codes, option_map, sym, arith}
use Rattle.std.specs.Borrow.{Bor}
use Rattle.std.specs.Prelude.{is_some}
use Rattle.clap.specs.Words.{Text, first_value, found_of, rows_of}
use Rattle.clap.specs.declared.parser.matches.Found.{Found}
use Rattle.clap.proofs.WalkLemmas.{first_value-rows}
use Rattle.dvg_args.specs.Options.{form_by, form_of, forms_given, forms_wanted, sets}
use Rattle.dvg_job.specs.declared.form.LayForm.{LayForm}
use Rattle.dvg_args.proofs.Refused.{mapped_some, none_refused, same_count, same_form, taken, two_refused}
use Rattle.dvg_args.proofs.laying.lay_form.Goals as goal

-- what the matching gives
module _ (f : Found) (half : Option (Bor Text)) (table rom equates draft : Bool) (half_is : option_map (λ s. s.now) half ≡ first_value f (codes "half"))
    (table_is : table ≡ sets (codes "table") (rows_of f)) (rom_is : rom ≡ sets (codes "rom") (rows_of f)) (equates_is : equates ≡ sets (codes "equates") (rows_of f))
    (draft_is : draft ≡ sets (codes "draft") (rows_of f)) where
  count_is : (some : Bool) (count : ℕ) → some ≡ is_some half → count ≡ forms_wanted some table rom equates draft → count ≡ forms_given (rows_of f)
  count_is some count some_is is =
      is ∙ same_count _ _ _ _ _ _ _ _ _ _ (some_is ∙ sym (mapped_some (λ s. s.now) half) ∙ ap is_some (half_is ∙ first_value-rows f (codes "half"))) table_is rom_is equates_is draft_is

  form_is : (form : Option LayForm) → form ≡ form_by table rom equates draft (option_map (λ s. s.now) half) → form ≡ form_of (rows_of f)
  form_is form is = is ∙ same_form _ _ _ _ _ _ _ _ _ _ table_is rom_is equates_is draft_is (half_is ∙ first_value-rows f (codes "half"))

pub returns-then-forms_wanted-gt1-clause-kinds : goal.returns-then-forms_wanted-gt1-clause-kinds
returns-then-forms_wanted-gt1-clause-kinds c =
    let count = count_is (found_of c.args.found.now) c.get_str-half.result _ _ _ _ c.get_str-half.ensures c.is_set-table.ensures c.is_set-rom.ensures c.is_set-equates.ensures c.is_set-draft.ensures
    _ _ c.is_some.ensures c.forms_wanted.ensures in
    two_refused _ _ (omega (arith, count, c.if-forms_wanted-gt1.true))

pub returns-in-Some-clause-ok : goal.returns-in-Some-clause-ok
returns-in-Some-clause-ok c =
    let form = form_is (found_of c.args.found.now) c.get_str-half.result _ _ _ _ c.get_str-half.ensures c.is_set-table.ensures c.is_set-rom.ensures c.is_set-equates.ensures c.is_set-draft.ensures
    _ c.form_by.ensures in
    sym form ∙ c.in-Some.is

pub returns-in-Some-clause-kinds : goal.returns-in-Some-clause-kinds
returns-in-Some-clause-kinds c =
    let count = count_is (found_of c.args.found.now) c.get_str-half.result _ _ _ _ c.get_str-half.ensures c.is_set-table.ensures c.is_set-rom.ensures c.is_set-equates.ensures c.is_set-draft.ensures
    _ _ c.is_some.ensures c.forms_wanted.ensures in
    let form = form_is (found_of c.args.found.now) c.get_str-half.result _ _ _ _ c.get_str-half.ensures c.is_set-table.ensures c.is_set-rom.ensures c.is_set-equates.ensures c.is_set-draft.ensures
    _ c.form_by.ensures in
    taken _ _ c.in-Some.form (omega (arith, count, c.if-forms_wanted-gt1.false)) (sym form ∙ c.in-Some.is)

pub returns-in-None-clause-kinds : goal.returns-in-None-clause-kinds
returns-in-None-clause-kinds c =
    let count = count_is (found_of c.args.found.now) c.get_str-half.result _ _ _ _ c.get_str-half.ensures c.is_set-table.ensures c.is_set-rom.ensures c.is_set-equates.ensures c.is_set-draft.ensures
    _ _ c.is_some.ensures c.forms_wanted.ensures in
    let form = form_is (found_of c.args.found.now) c.get_str-half.result _ _ _ _ c.get_str-half.ensures c.is_set-table.ensures c.is_set-rom.ensures c.is_set-equates.ensures c.is_set-draft.ensures
    _ c.form_by.ensures in
    none_refused _ _ (omega (arith, count, c.if-forms_wanted-gt1.false)) (sym form ∙ c.in-None.is)
