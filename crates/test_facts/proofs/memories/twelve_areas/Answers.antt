use Rattle.std.proofs.Common.{◌≡◌, ◌≤◌, ℕ, refl, sym, ◌∙◌, lit≤, lit<, inl, inr}
use Rattle.dvg_mem.specs.declared.half.Half.TheVariants.{H0, H1}
use Rattle.dvg_mem.specs.declared.areas.Area.{Area}
use Rattle.dvg_mem.specs.declared.areas.Area.TheVariants.{Zero, Frame, Unused, Rom, Hole}
use Rattle.dvg_mem.specs.Areas.{IsInMap}
use Rattle.dvg_mem.specs.Laws.{OneArea}
use Rattle.test_facts.proofs.memories.twelve_areas.Goals as goal

-- two areas of one address are one
same : OneArea → (a b : Area) (w : ℕ) → w ≤ 0xFFF → IsInMap 0x800 a w → IsInMap 0x800 b w → a ≡ b
same law a b w most in_a in_b = let one = law 0x800 w (lit≤ tt) (lit≤ tt) most in one.2 a in_a ∙ sym (one.2 b in_b)

pub returns : goal.returns
returns c =
    let law = c.one_area.ensures in
    rw (
      same law c.area.result Zero 0x000 (lit≤ tt) c.area.ensures refl,
      same law c.area-2.result (Frame H0) 0x001 (lit≤ tt) c.area-2.ensures (lit≤ tt, lit≤ tt),
      same law c.area-3.result (Frame H0) 0x1FF (lit≤ tt) c.area-3.ensures (lit≤ tt, lit≤ tt),
      same law c.area-4.result Unused 0x200 (lit≤ tt) c.area-4.ensures refl,
      same law c.area-5.result (Frame H1) 0x201 (lit≤ tt) c.area-5.ensures (lit≤ tt, lit≤ tt),
      same law c.area-6.result (Frame H1) 0x3FF (lit≤ tt) c.area-6.ensures (lit≤ tt, lit≤ tt),
      same law c.area-7.result Hole 0x400 (lit≤ tt) c.area-7.ensures (inl (lit≤ tt, lit< tt)),
      same law c.area-8.result Hole 0x7FF (lit≤ tt) c.area-8.ensures (inl (lit≤ tt, lit< tt)),
      same law c.area-9.result Rom 0x800 (lit≤ tt) c.area-9.ensures (lit≤ tt, lit≤ tt),
      same law c.area-10.result Rom 0xBFF (lit≤ tt) c.area-10.ensures (lit≤ tt, lit≤ tt),
      same law c.area-11.result Hole 0xC00 (lit≤ tt) c.area-11.ensures (inr (lit≤ tt, lit≤ tt)),
      same law c.area-12.result Hole 0xFFF (lit≤ tt) c.area-12.ensures (inr (lit≤ tt, lit≤ tt)),
    ) refl
