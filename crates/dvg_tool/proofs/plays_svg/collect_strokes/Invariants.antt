use Rattle.std.proofs.Common.{◌≡◌, ◌++◌, map}
use Rattle.dvg_svg.specs.Svg.{strokes_of}
use Rattle.dvg_tool.proofs.plays_svg.collect_strokes.Given as goal

abbrev pub invariant-loop-picture : goal.invariant-loop-picture
invariant-loop-picture g l = record {
  so_far : map (λ picture. picture.strokes.items) l.fn.pictures.items ≡ strokes_of l.strokes.items ++ map (λ picture. picture.strokes.items) l.picture-iterator.rest.items;
}
