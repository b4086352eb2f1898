use Rattle.std.proofs.Common.{◌≡◌, ◌≤◌, ◌+◌, ◌∙◌, ◌++◌, [], ℕ, ap, arith, length, max, rules, sym, take}
use Rattle.std.proofs.lemmas.List.{append-nil, take_all}
use Rattle.dvg_named.specs.declared.laid.LaidRows as held_laid
use Rattle.dvg_rows.specs.HeldRows.{rows_of}
use Rattle.dvg_named.specs.LaidValues.{laid_sections, section_of, sections_of}
use Rattle.dvg_named.specs.Places.{Laid, laid_from}
use Rattle.dvg_named.proofs.LaidOrder.{laid_more, sections_more, size_in_front, size_in_more}
use Rattle.dvg_named.proofs.laid.lay.Goals as goal

pub size-requires : goal.size-requires
size-requires g c =
    let i = c.loop-section.section-index in
    let more = size_in_more c.args.sections.now i c.section-item.result c.loop-section-test.true c.section-item.is in
    let front = size_in_front c.args.sections.now (i + 1) in
    omega (arith, more, front, c.requires.few)

pub overflow_add-start : goal.overflow_add-start
overflow_add-start g c =
    let i = c.loop-section.section-index in
    let more = size_in_more c.args.sections.now i c.section-item.result c.loop-section-test.true c.section-item.is in
    let front = size_in_front c.args.sections.now (i + 1) in
    omega (arith, more, front, c.requires.few, c.size.ensures, c.start_of-start.ensures.most, c.loop-section.invariant.low)

pub loop-section-preserved : goal.loop-section-preserved
loop-section-preserved g c =
    let sections = c.args.sections.now in
    let i = c.loop-section.section-index in
    let section = c.section-item.result in
    let low = c.loop-section-test.true in
    let is = c.section-item.is in
    let laid = c.loop-section.laid.items in
    let next = c.loop-section.next in
    let now = c.max-next.result in
    let free = c.args.free in
    let start_at : ℕ → Laid = λ start. record { start = start; rows = rows_of section.rows.now } in
    let last : held_laid.LaidRows = record { start = c.start_of-start.result; rows = section.rows } in
    let grown : now ≡ max next (c.start_of-start.result + c.size.result) = search rules in
    let more = size_in_more sections i section low is in
    record {
      so_far = λ others.
          ap (λ items. laid_sections items ++ laid_from now others) c.in_ok-push.ensures.items
          ∙ laid_more laid last (section_of section) next now free (sections_of (take i sections))
          (ap start_at c.start_of-start.ensures.value)
          (grown ∙ ap (λ words. max next (c.start_of-start.result + words)) c.size.ensures)
          c.loop-section.invariant.so_far others
          ∙ ap (λ l. laid_from free (l ++ others)) (sym (sections_more sections i section low is));
      low = omega (arith, grown, more, c.size.ensures, c.start_of-start.ensures.most, c.loop-section.invariant.low);
    }

pub returns : goal.returns
returns g c =
    let all : length c.args.sections.now ≤ c.loop-section.section-index = omega arith in
    sym (append-nil (laid_sections c.loop-section.laid.items)) ∙ c.loop-section.invariant.so_far []
    ∙ ap (laid_from c.args.free) (append-nil (sections_of (take c.loop-section.section-index c.args.sections.now))
    ∙ ap sections_of (take_all c.loop-section.section-index c.args.sections.now all))
