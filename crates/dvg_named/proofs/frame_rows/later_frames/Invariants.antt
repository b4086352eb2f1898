use Rattle.std.specs.Prelude.{◌≢◌, []}
use Rattle.std.proofs.Common.{◌≡◌, ◌<◌, ◌++◌, ◌∷◌, All, List, None, get_or, map, ℕ, take}
use Rattle.std.specs.List.{AllPairs, filter_map}
use Rattle.dvg_rows.specs.declared.part.Part.{Part}
use Rattle.dvg_named.specs.FrameValues.{BeginsBefore, BeginsFirst, IsBegunAt, IsFrameAt, frame_in, frames_of, rows_at_top}
use Rattle.dvg_rows.specs.HeldRows.{rows_of}
use Rattle.dvg_named.specs.Sections.{HasTop, Spelled}
use Rattle.dvg_named.specs.SketchReading.{section_in}
use Rattle.dvg_named.specs.SourcedRows.{AreInOrder, IsPartAt, StandsBefore}
use Rattle.dvg_named.proofs.frame_rows.later_frames.Given as goal

abbrev pub invariant-loop-part : goal.invariant-loop-part
invariant-loop-part g l = record {
  frames : frames_of l.found.items
      ≡ rows_at_top (rows_of l.top.rows.items) ++ filter_map frame_in (map section_in (take l.part-index l.others));
  sources : (small : List ℕ) → IsPartAt small l.top → All (IsPartAt small) l.others → All (IsFrameAt small) l.found.items;
  begins : (small : List ℕ) (sketch : Spelled) → (l.top.rows.items ≢ [] → HasTop sketch) → IsPartAt small l.top
      → l.top.head ≡ None → All (IsPartAt small) l.others → All (IsBegunAt small sketch) l.found.items;
  before : (small : List ℕ) (number : ℕ) → IsPartAt small l.top → StandsBefore number l.top
      → ((k : ℕ) (d : Part _) → k < l.part-index → StandsBefore number (get_or l.others k d)) → All (BeginsBefore number) l.found.items;
  rise : (small : List ℕ) → IsPartAt small l.top → AreInOrder (l.top ∷ l.others) → AllPairs BeginsFirst l.found.items;
}
