use Rattle.std.proofs.Common.{◌≡◌, refl, rules, subst, sym}
use Rattle.std.specs.Prelude.{All}
use Rattle.dvg_frame.specs.Bytes.{IsBehindWordZero}
use Rattle.dvg_frame.specs.own.Counting.{IsCounted}
use Rattle.dvg_frame.proofs.Cursors.{all_left, begun, in_ram}
use Rattle.dvg_frame.proofs.cursor.Cursor.restart.Goals as goal

pub invariant_of-self : goal.invariant_of-self
invariant_of-self c =
    let counted = subst (λ F. IsCounted F c.put_words_before.new.words_before.items) c.ops-2.ensures.value c.put_words_before.ensures in
    let same : c.try_extend_from_slice.new.self ≡ c.args.checked.now.operations = search rules in
    begun _ c.args.checked.now.operations c.base.result c.len_words.result same c.ops.ensures.begins
    counted c.new-self-inside.ensures refl c.base.ensures refl refl
    (c.len_words.ensures.laid c.args.half)

pub returns-clause-items : goal.returns-clause-items
returns-clause-items c =
    let same : c.try_extend_from_slice.new.self ≡ c.args.checked.now.operations = search rules in
    all_left c.args.half c.args.checked.now.operations c.try_extend_from_slice.new.self c.len_words.result same
    (c.len_words.ensures.laid c.args.half)

pub returns-clause-source : goal.returns-clause-source
returns-clause-source c =
    let same : c.try_extend_from_slice.new.self ≡ c.args.checked.now.operations = search rules in (same, refl)

pub returns-clause-in_ram : goal.returns-clause-in_ram
returns-clause-in_ram c =
    subst (All IsBehindWordZero) (sym (returns-clause-items c))
    (in_ram c.args.half c.args.checked.now.operations c.len_words.result
    (c.len_words.ensures.laid c.args.half) c.len_words.ensures.bound)
