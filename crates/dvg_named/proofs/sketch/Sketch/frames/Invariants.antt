use Rattle.std.proofs.Common.{◌≡◌, map, take}
use Rattle.dvg_named.specs.ReadSketches.{joined_at, lent_of}
use Rattle.dvg_named.proofs.sketch.Sketch.frames.Given as goal

abbrev pub invariant-loop-span : goal.invariant-loop-span
invariant-loop-span g l =
    map lent_of l.frames.items
    ≡ map (joined_at l.self.frames.ops.items l.self.frames.sources.items) (take l.span-index l.self.frames.spans.items)
