use Rattle.std.proofs.Common.{◌∙◌, ◌≡◌, ◌*◌, ◌+◌, ◌-◌, ap, arith, length, refl, subst, sym}
use Rattle.std.specs.Prelude.{All}
use Rattle.std.proofs.lemmas.List.Elements.{All-drop}
use Rattle.dvg_frame.specs.Bytes.{IsBehindWordZero, addressed, bytes}
use Rattle.dvg_mem.specs.Areas.{base}
use Rattle.dvg_frame.specs.Layout.{laid, size}
use Rattle.dvg_frame.specs.Left.{CursorState, after_item, items_in}
use Rattle.dvg_frame.proofs.Cursors.{items_of_laid, same_cursor}
use Rattle.dvg_frame.proofs.cursor.Cursor.with_left.Goals as goal
use Rattle.dvg_frame.proofs.cursor.Cursor.with_left.Goals.{After-left}

-- a cursor that has passed over none has an item for each byte
all_items : (c : After-left) → c.left.result ≡ 2 * size c.args.checked.now.operations
all_items c =
    c.left.ensures.items ∙ ap length c.of-cursor.ensures.items
    ∙ items_of_laid c.args.half c.args.checked.now.operations

pub overflow_sub-end : goal.overflow_sub-end
overflow_sub-end c = let all = all_items c in let few = c.requires in omega arith

pub loop-init : goal.loop-init
loop-init c = same_cursor refl refl (omega arith)

pub loop-preserved : goal.loop-preserved
loop-preserved c =
    let left : c.of-cursor.result.left - c.loop.counter - 1 ≡ c.of-cursor.result.left - (c.loop.counter + 1) = omega arith in
    c.next.ensures.steps.rest ∙ ap after_item c.loop.invariant
    ∙ ap (λ n. let cursor : CursorState = record c.of-cursor.result { left = n } in cursor) left

pub returns-clause-cursor : goal.returns-clause-cursor
returns-clause-cursor c =
    let all = all_items (goal.at.returns-clause-cursor c).After-left in
    let few = c.requires in
    let end = c.loop.auto.counter-end in
    let over = c.loop-test.false in
    let first = c.left.ensures.value in
    let source = c.of-cursor.ensures.source in
    c.loop.invariant ∙ same_cursor source.0 source.1 (omega arith)

pub returns-clause-in_ram : goal.returns-clause-in_ram
returns-clause-in_ram c =
    let half = c.args.half in
    let F = c.args.checked.now.operations in
    subst (λ cursor. All IsBehindWordZero (items_in cursor)) (sym (returns-clause-cursor c))
    (All-drop IsBehindWordZero (2 * size F - c.args.left) (addressed (2 * base half) (bytes (laid half F)))
    (subst (All IsBehindWordZero) c.of-cursor.ensures.items c.of-cursor.ensures.in_ram))
