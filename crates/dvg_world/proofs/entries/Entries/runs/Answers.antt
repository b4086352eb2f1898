use Rattle.std.proofs.Common.{◌≤◌, map, sym, subst, arith}
use Rattle.dvg_world.specs.own.Entries.{entry_count}
use Rattle.dvg_world.proofs.EntriesKept.{entries_counted}
use Rattle.dvg_world.proofs.entries.Entries.runs.Goals as goal

pub returns-clause-most : goal.returns-clause-most
returns-clause-most g c =
    let kept = c.as_slice.result.now in
    let counted = entries_counted (map (λ strokes. strokes.items) c.as_slice-2.result.now) kept in
    let few : entry_count kept ≤ 65536 =
    subst (λ kept. entry_count kept ≤ 65536) (sym c.as_slice.ensures.value) c.self.invariant.count in
    omega (arith, counted, few)
