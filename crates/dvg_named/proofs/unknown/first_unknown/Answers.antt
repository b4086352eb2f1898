use Rattle.std.proofs.Common.{◌≡◌, ◌≤◌, ◌∙◌, None, length, subst, sym, arith}
use Rattle.std.specs.Prelude.{IfNone}
use Rattle.dvg_named.specs.FirstUnknown.{FirstOf, WantsIn, WantsNone, all_sections}
use Rattle.dvg_named.specs.LaidValues.{laid_sections}
use Rattle.dvg_named.specs.LineNumbers.{entries_last}
use Rattle.dvg_named.specs.SketchReading.{section_in}
use Rattle.dvg_named.proofs.RomFew.{if_ok}
use Rattle.dvg_named.proofs.UnknownSections.{found_last, known_all, known_more, last_at, none_found, none_more, section_at, some_here, some_known}
use Rattle.dvg_named.proofs.unknown.first_unknown.Goals as goal

pub returns-then-is_some-clause-first : goal.returns-then-is_some-clause-first
returns-then-is_some-clause-first g c =
    let closed = c.args.closed.now in
    let all = all_sections closed c.args.last.now in
    some_here (WantsIn (laid_sections c.args.laid.now) all) closed c.args.last.now c.loop-part.part-index c.part-item.result
    c.in_ok-found.found c.loop-part-test.true c.part-item.is c.loop-part.invariant.none
    (sym c.is_some.ensures ∙ c.if-is_some.true)
    (c.in_ok-found.ensures.first all c.loop-part.part-index
    (section_at closed c.args.last.now c.loop-part.part-index c.part-item.result c.loop-part-test.true c.part-item.is))

pub returns-then-is_some-clause-known : goal.returns-then-is_some-clause-known
returns-then-is_some-clause-known g c =
    some_known _ c.in_ok-found.found (sym c.is_some.ensures ∙ c.if-is_some.true)

pub loop-part-preserved : goal.loop-part-preserved
loop-part-preserved g c =
    let closed = c.args.closed.now in
    let all = all_sections closed c.args.last.now in
    let i = c.loop-part.part-index in
    let part = c.part-item.result in
    let low = c.loop-part-test.true in
    let none : c.in_ok-found.found ≡ None = none_found c.in_ok-found.found (sym c.is_some.ensures ∙ c.if-is_some.false) in
    record {
      none = none_more (WantsIn (laid_sections c.args.laid.now) all) closed i part low c.part-item.is
          c.loop-part.invariant.none
          (subst (FirstOf (WantsIn (laid_sections c.args.laid.now) all) (entries_last i part)) none
          (c.in_ok-found.ensures.first all i (section_at closed c.args.last.now i part low c.part-item.is)));
      known = known_more (laid_sections c.args.laid.now) closed i part low c.part-item.is c.loop-part.invariant.known
          (subst (λ found. IfNone found (WantsNone (laid_sections c.args.laid.now) (section_in part))) none
          c.in_ok-found.ensures.known);
    }

pub returns-clause-first : goal.returns-clause-first
returns-clause-first g c =
    let closed = c.args.closed.now in
    let all = all_sections closed c.args.last.now in
    let ended : length closed ≤ c.loop-part.part-index = omega arith in
    if_ok c.unknown_in-2.result c.unknown_in-2.ensures.first (λ found first.
    found_last (WantsIn (laid_sections c.args.laid.now) all) closed c.args.last.now c.loop-part.part-index
    found ended c.loop-part.invariant.none (first all (length closed) (last_at closed c.args.last.now)))

pub returns-clause-known : goal.returns-clause-known
returns-clause-known g c =
    let closed = c.args.closed.now in
    let ended : length closed ≤ c.loop-part.part-index = omega arith in
    if_ok c.unknown_in-2.result c.unknown_in-2.ensures.known (λ found known.
    known_all (laid_sections c.args.laid.now) closed c.args.last.now c.loop-part.part-index found ended
    c.loop-part.invariant.known known)
