use Rattle.std.proofs.Common.{◌≡◌, ◌+◌, ◌∙◌, ◌++◌, [], ◌∷◌, ap, arith, length, length-append, refl, rules, sym, subst, take}
use Rattle.std.specs.List.{AllZip}
use Rattle.dvg_rows.specs.HeldRows.{rows_of}
use Rattle.dvg_named.specs.LaidValues.{laid_sections}
use Rattle.dvg_named.specs.Meanings.{IsDrafted}
use Rattle.dvg_rows.specs.RowPlaces.{doings}
use Rattle.dvg_rows.specs.RowValues.{doing_of}
use Rattle.dvg_named.specs.Ungiven.{framed}
use Rattle.dvg_named.proofs.DraftRows.{at_in, front_doings, low_in, no_doing, nothing_left, wants_here}
use Rattle.dvg_named.proofs.DraftRows.{one_doing, zip_more}
use Rattle.dvg_named.proofs.drafting.draft_of.Goals as goal
use Rattle.dvg_named.proofs.drafting.draft_of.Goals.{in-Some+in-Some-op_of, in_default}

pub returns-in_default-op_of-clause-unknown : goal.returns-in_default-op_of-clause-unknown
returns-in_default-op_of-clause-unknown g c = λ none.
    none c.loop-row.row-index
    (wants_here c.args.rows.now c.loop-row.row-index c.row-item.result (low_in c.loop-row.row-index c.rows-row-items.ensures c.loop-row-test.true)
    (at_in c.loop-row.row-index c.row-item.result c.rows-row-items.ensures c.row-item.is) (laid_sections c.args.rom.now) (framed (rows_of c.args.rows.now)) refl c.in-Some.doing
    c.in-Some.is c.in_default-op_of.ensures.ungiven)

pub unwrap-requires : goal.unwrap-requires
unwrap-requires g c =
    let more = ap length (one_doing c.args.rows.now c.loop-row.row-index c.row-item.result (low_in c.loop-row.row-index c.rows-row-items.ensures c.loop-row-test.true)
    (at_in c.loop-row.row-index c.row-item.result c.rows-row-items.ensures c.row-item.is) c.in-Some.doing c.in-Some.is) in
    let size = length-append (doings (rows_of (take c.loop-row.row-index c.args.rows.now))) (doing_of c.in-Some.doing ∷ []) in
    let front = front_doings c.args.rows.now (c.loop-row.row-index + 1) in
    c.push.ensures.room.1 (omega (arith, more, size, front, c.loop-row.invariant.count, c.requires.few))

pub loop-row-preserved : goal.loop-row-preserved
loop-row-preserved g c =
    let rows = c.args.rows.now in
    let place = c.loop-row.row-index in
    let row = c.row-item.result in
    let low = (low_in c.loop-row.row-index c.rows-row-items.ensures c.loop-row-test.true) in
    let is = (at_in c.loop-row.row-index c.row-item.result c.rows-row-items.ensures c.row-item.is) in
    let laid = laid_sections c.args.rom.now in
    let before = c.loop-row.invariant in
    elim c.match-row.branch [
      | in-Some+in-Some-op_of w ↦
          let doing = w.in-Some.doing in
          let op = w.in-Some-op_of.op in
          let pushed : w.push.new.self ≡ c.loop-row.draft ++ op ∷ [] = search rules in
          let new = w.draft-is ∙ pushed in
          let more = one_doing rows place row low is doing w.in-Some.is in
          record {
            drafted = zip_more (IsDrafted laid (rows_of rows)) (doings (rows_of (take place rows))) _ c.loop-row.draft _
                (doing_of doing) op before.drafted w.in-Some-op_of.ensures.drafted more new;
            count = ap length new ∙ length-append c.loop-row.draft (op ∷ []) ∙ ap (λ n. n + 1) before.count
                ∙ sym (ap length more ∙ length-append (doings (rows_of (take place rows))) (doing_of doing ∷ []));
          }
      | in_default w ↦
          let none = nothing_left row.doing w.in_default.not-Some in
          let same = no_doing rows place row low is none in
          record {
            drafted = subst (λ draft. AllZip (IsDrafted laid (rows_of rows)) (doings (rows_of (take (place + 1) rows))) draft)
                (sym w.draft-is) (subst (λ ds. AllZip (IsDrafted laid (rows_of rows)) ds c.loop-row.draft) (sym same) before.drafted);
            count = ap length w.draft-is ∙ before.count ∙ sym (ap length same);
          }
    ]
