use Rattle.std.proofs.Common.{◌≡◌, ◌≢◌, ◌<◌, ◌-◌, [], length, refl, sym, ap, ◌∙◌, subst, arith}
use Rattle.dvg_frame.specs.declared.cursor.Cursor.TheInside.{Inside}
use Rattle.dvg_frame.specs.Cursors.{IsCursor, bytes_from}
use Rattle.dvg_frame.specs.Left.{CursorState, after_item, items_in}
use Rattle.dvg_frame.proofs.Cursors.{left_is, none_left, one_more, same_cursor, turns, GoesOn, IsNext, next_items, next_kept}
use Rattle.dvg_frame.proofs.cursor.CursorIterator.next.Goals as goal
use Rattle.dvg_frame.proofs.cursor.CursorIterator.next.Goals.{Joined-is_empty, After-take, then-is_empty, else-is_empty}

pub returns-then-self-eq0-clause-steps : goal.returns-then-self-eq0-clause-steps
returns-then-self-eq0-clause-steps c =
    let none = none_left c.self.inside (items_in c.args.self.now) (ap items_in c.self.view_is) c.self.invariant
    c.if-self-eq0.true in
    let left = ap (λ (cursor : CursorState). cursor.left) c.self.view_is in
    let zero = c.if-self-eq0.true in
    record { first = (none, none); rest = same_cursor refl refl (omega arith) }

-- there is one more operation
within : (S : Inside) → IsCursor S → S.left ≢ 0 → S.at_hand ≡ [] → S.op < length S.draft
within S kept some none = one_more S.half S.draft S.at_hand S.op S.left (left_is S kept) some none

pub bytes_of-self-inside-requires-clause-within : goal.bytes_of-self-inside-requires-clause-within
bytes_of-self-inside-requires-clause-within c =
    within c.self.inside c.self.invariant c.if-self-eq0.false (c.is_empty.ensures.0 c.if-is_empty.true)

pub overflow_add-self : goal.overflow_add-self
overflow_add-self c =
    let op = within c.self.inside c.self.invariant c.if-self-eq0.false (c.is_empty.ensures.0 c.if-is_empty.true) in
    let few = c.self.invariant.counted.draft.count in
    omega arith

-- a byte is at hand
ready : (c : Joined-is_empty) → GoesOn c.self.inside c.if-is_empty.self-inside
ready c =
    let S = c.self.inside in
    elim c.if-is_empty.branch [
      | then-is_empty w ↦ (
          let none = c.is_empty.ensures.0 w.if-is_empty.true in
          let next = turns S.half S.draft S.at_hand w.bytes_of-self-inside.result S.op none (within S c.self.invariant c.if-self-eq0.false none) w.bytes_of-self-inside.ensures in
          subst (λ N. GoesOn S N) (sym w.self-inside-is)
          (record { same = next.same; some = next.some; draft = refl; half = refl; end = refl; left = refl; counted = c.self.invariant.counted }))
      | else-is_empty w ↦
          subst (λ N. GoesOn S N) (sym w.self-inside-is)
          (record { same = refl; some = λ none. absurd (let is = c.is_empty.ensures.1 none in cc); draft = refl; half = refl; end = refl; left = refl; counted = c.self.invariant.counted })
    ]

pub take-requires : goal.take-requires
take-requires c = (ready (goal.at.take-requires c).Joined-is_empty).some

-- the first item is given
gave : (c : After-take) → GoesOn c.self.inside c.if-is_empty.self-inside
    → IsNext c.self.inside (record c.if-is_empty.self-inside { at_hand = c.take.new.self; left = c.if-is_empty.self-inside.left - 1 }) (c.if-is_empty.self-inside.end - c.if-is_empty.self-inside.left) c.take.result
gave c on =
    let N = c.if-is_empty.self-inside in
    let some = c.if-self-eq0.false in
    record {
      here = let end = on.end in let left = on.left in omega arith;
      bytes = on.same ∙ ap (λ bs. bytes_from N.half N.draft bs N.op) c.take.ensures;
      draft = on.draft;
      half = on.half;
      end = on.end;
      left = let same = on.left in omega arith;
      counted = on.counted;
    }

pub invariant_of-self : goal.invariant_of-self
invariant_of-self c =
    let at = goal.at.invariant_of-self c in
    next_kept _ _ _ _ c.self.invariant (gave at.After-take (ready at.Joined-is_empty))

pub returns-clause-steps : goal.returns-clause-steps
returns-clause-steps c =
    let at = goal.at.returns-clause-steps c in
    let next = gave at.After-take (ready at.Joined-is_empty) in
    let is = c.self.view_is in
    record {
      first = next_items c.self.inside _ (items_in c.args.self.now) _ _ (ap items_in is) c.self.invariant next;
      rest = same_cursor next.draft next.half (let left = next.left in omega arith) ∙ ap after_item is;
    }

pub returns-clause-goes : goal.returns-clause-goes
returns-clause-goes c =
    let less = ap length (returns-clause-steps c).first in
    record { on = λ finite. (tt, tt, omega arith); keeps = tt; rests = λ finite. tt }
