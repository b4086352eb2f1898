use Rattle.std.proofs.Common.{subst, arith, ap, length}
use Rattle.dvg_named.specs.FirstUnknown.{WantsNone, section_held}
use Rattle.dvg_named.specs.LaidValues.{laid_sections}
use Rattle.dvg_named.specs.Ungiven.{IsFirstUngiven}
use Rattle.dvg_named.proofs.UnknownRows.{first_in, none_in}
use Rattle.dvg_named.proofs.unknown.line_of_unknown.Goals as goal

pub returns-in-Some-clause-first : goal.returns-in-Some-clause-first
returns-in-Some-clause-first g c sections number inside =
    first_in (laid_sections c.args.laid.now) c.args.part.now sections number inside c.in-Some.place c.index.result.now
    (subst (λ rows. IsFirstUngiven (laid_sections c.args.laid.now) (section_held c.args.part.now.head rows) c.in-Some.place)
    c.requires.rows c.in-Some.ensures.found)
    (let low = c.in-Some.ensures.low in let count = ap length c.requires.rows in let lines = c.requires.lines in
    omega (arith, low, count, lines))
    c.index.ensures

pub returns-in-None-clause-first : goal.returns-in-None-clause-first
returns-in-None-clause-first g c sections number inside =
    none_in (laid_sections c.args.laid.now) c.args.part.now sections number inside
    (subst (λ rows. WantsNone (laid_sections c.args.laid.now) (section_held c.args.part.now.head rows))
    c.requires.rows c.in-None.ensures.known)

pub returns-in-None-clause-known : goal.returns-in-None-clause-known
returns-in-None-clause-known g c =
    subst (λ rows. WantsNone (laid_sections c.args.laid.now) (section_held c.args.part.now.head rows))
    c.requires.rows c.in-None.ensures.known
