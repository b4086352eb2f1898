use Rattle.std.proofs.Common.{subst, sym, All}
use Rattle.dvg_named.specs.FirstUnknown.{HasLines, IsFirstOf, WantsIn, WantsNone, all_sections, entries_held}
use Rattle.dvg_named.specs.LaidValues.{laid_sections}
use Rattle.dvg_named.proofs.RomFew.{if_ok}
use Rattle.dvg_named.proofs.UnknownRows.{none_kept}
use Rattle.dvg_named.proofs.UnknownText.{first_is_fault, has_lines, have_lines, if_found}
use Rattle.dvg_named.proofs.reading.Reading.first_unknown.Goals as goal

pub first_unknown-requires-clause-closed : goal.first_unknown-requires-clause-closed
first_unknown-requires-clause-closed g c =
    subst (All HasLines) (sym c.as_slice.ensures.value)
    (have_lines c.requires.small c.args.self.now.closed.items c.requires.reads.sourced.closed)

pub first_unknown-requires-clause-last : goal.first_unknown-requires-clause-last
first_unknown-requires-clause-last g c = has_lines c.requires.small c.args.self.now.last c.requires.reads.sourced.last

pub returns-clause-unknown : goal.returns-clause-unknown
returns-clause-unknown g c =
    let last = c.args.self.now.last in
    let closed = c.args.self.now.closed.items in
    if_ok c.first_unknown.result c.first_unknown.ensures.first (λ found firsts.
    if_found _ _ _ found firsts (λ n first small text read laid is.
    first_is_fault c.args.self.now small text read is n
    (subst (λ laid. IsFirstOf (WantsIn laid (all_sections closed last)) (entries_held closed last) n) laid
    (subst (λ parts. IsFirstOf (WantsIn (laid_sections c.args.laid.now) (all_sections parts last)) (entries_held parts last) n)
    c.as_slice.ensures.value first))))

pub returns-clause-known : goal.returns-clause-known
returns-clause-known g c =
    let last = c.args.self.now.last in
    if_ok c.first_unknown.result c.first_unknown.ensures.known (λ found known.
    none_kept found known
    (subst (λ parts. All (WantsNone (laid_sections c.args.laid.now)) (all_sections parts last)) c.as_slice.ensures.value))
