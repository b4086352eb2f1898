use Rattle.std.proofs.Common.{ap, arith, length, refl}
use Rattle.dvg_frame.specs.Layout.{size}
use Rattle.dvg_frame.proofs.Counts.{found_count, in_table, size_bound}
use Rattle.dvg_frame.proofs.Sizes.{size-take_le}
use Rattle.dvg_frame.proofs.counted.Counted.words_before.Goals as goal

pub bounds-words_before-i : goal.bounds-words_before-i
bounds-words_before-i c = in_table _ _ _ _ _ c.self.invariant refl c.self.view_is (omega arith)

pub offset_bounds-words_before-i : goal.offset_bounds-words_before-i
offset_bounds-words_before-i c =
    let few = c.self.invariant.draft.count in
    let same = ap length c.self.view_is in
    omega (arith, c.requires)

pub returns-clause-value : goal.returns-clause-value
returns-clause-value c = found_count _ _ _ _ _ _ c.self.invariant refl c.self.view_is (omega arith)

pub returns-clause-bound : goal.returns-clause-bound
returns-clause-bound c =
    let value = returns-clause-value c in
    let few = c.self.invariant.draft.count in
    let bound = size_bound c.self.inside.ops.now in
    let same = ap size c.self.view_is in
    omega (arith, size-take_le c.args.self.now c.args.i)
