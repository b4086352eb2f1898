use Rattle.std.proofs.Common.{◌++◌, ◌∙◌, List, ap, subst, sym}
use Rattle.dvg_rows.specs.declared.row.Row as held
use Rattle.dvg_rows.specs.HeldRows.{rows_of}
use Rattle.dvg_named.specs.FirstUnknown.{WantsNone}
use Rattle.dvg_named.specs.LaidValues.{laid_sections}
use Rattle.dvg_named.specs.Ungiven.{Drafts, framed}
use Rattle.dvg_named.proofs.EntriesMore.{items_ok}
use Rattle.dvg_named.proofs.flat_draft.push_draft.Goals as goal

pub returns-clause-pushed : goal.returns-clause-pushed
returns-clause-pushed g c = record {
  draft = c.in-Some.draft;
  drafts = subst (λ (rows : List held.Row). Drafts c.args.rom.now rows c.in-Some.draft) c.in-Ok.ensures
      c.in-Some.ensures.draft;
  pushed = items_ok c.extend_from_slice.result c.extend_from_slice.new.self.items (c.args.ops.now.items ++ c.ops.result.now)
      c.args.ops.now.items (sym c.is_err.ensures.value ∙ c.if-is_err.false) c.extend_from_slice.ensures.items
      ∙ ap (λ l. c.args.ops.now.items ++ l) c.ops.ensures.value;
}

pub returns-in_default-draft_of-clause-fault : goal.returns-in_default-draft_of-clause-fault
returns-in_default-draft_of-clause-fault g c none =
    c.in_default-draft_of.ensures.unknown
    (subst (λ (rows : List held.Row). WantsNone (laid_sections c.args.rom.now) (framed (rows_of rows))) (sym c.in-Ok.ensures) none)
