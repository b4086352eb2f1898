use Rattle.std.proofs.Common.{refl, subst, sym}
use Rattle.std.specs.Prelude.{All}
use Rattle.dvg_frame.specs.Bytes.{IsBehindWordZero}
use Rattle.dvg_frame.proofs.Cursors.{all_left, begun, in_ram}
use Rattle.dvg_frame.proofs.cursor.Cursor.of.Goals as goal

pub invariant_of-result : goal.invariant_of-result
invariant_of-result c =
    begun _ c.args.checked.now.operations c.base.result c.len_words-left.result c.to_draft.ensures.draft
    c.to_draft.ensures.begins c.words_before_each.ensures c.new.ensures refl c.base.ensures refl refl
    (c.len_words-left.ensures.laid c.args.half)

pub returns-clause-items : goal.returns-clause-items
returns-clause-items c =
    all_left c.args.half c.args.checked.now.operations c.to_draft.result c.len_words-left.result
    c.to_draft.ensures.draft (c.len_words-left.ensures.laid c.args.half)

pub returns-clause-in_ram : goal.returns-clause-in_ram
returns-clause-in_ram c =
    subst (All IsBehindWordZero) (sym (returns-clause-items c))
    (in_ram c.args.half c.args.checked.now.operations c.len_words-left.result
    (c.len_words-left.ensures.laid c.args.half) c.len_words-left.ensures.bound)
