-- Each word address lies in one area.
use Rattle.std.proofs.Common.{◌≡◌, ℕ, ◌<◌, ◌≤◌, inl, inr, ⊎_elim, refl, arith}
use Rattle.std.proofs.lemmas.Bool.{cases_lt}
use Rattle.dvg_mem.specs.declared.half.Half.TheVariants.{H0, H1}
use Rattle.dvg_mem.specs.declared.areas.Area.{Area}
use Rattle.dvg_mem.specs.declared.areas.Area.TheVariants.{Zero, Frame, Unused, Rom, Hole}
use Rattle.dvg_mem.specs.Areas.{IsInMap}

module _ (first : ℕ) (ram : 0x400 ≤ first) (room : first ≤ 0xBFF) where
  abbrev IsIn : Area → ℕ → Type 0
  IsIn = IsInMap first

  low_hole : (w : ℕ) → IsIn Hole w → 0x400 ≤ w
  low_hole w = ⊎_elim (λ low. low.0) (λ high. let h = high.0 in omega arith)

  hole_and_rom : (w : ℕ) → IsIn Rom w → IsIn Hole w → 0xFFF < 0xFFF
  hole_and_rom w rom = ⊎_elim (λ low. omega arith) (λ high. omega arith)

  -- two areas of an address are one
  pub same_area : (one also : Area) (w : ℕ) → IsIn one w → IsIn also w → also ≡ one
  same_area Zero Zero w p q = refl
  same_area (Frame H0) (Frame H0) w p q = refl
  same_area (Frame H0) (Frame H1) w p q = absurd (omega arith)
  same_area (Frame H1) (Frame H0) w p q = absurd (omega arith)
  same_area (Frame H1) (Frame H1) w p q = refl
  same_area Unused Unused w p q = refl
  same_area Rom Rom w p q = refl
  same_area Hole Hole w p q = refl
  same_area Rom Hole w p q = let wrong = hole_and_rom w p q in absurd (omega arith)
  same_area Hole Rom w p q = let wrong = hole_and_rom w q p in absurd (omega arith)
  same_area (Frame H0) Hole w p q = let low = low_hole w q in absurd (omega arith)
  same_area (Frame H1) Hole w p q = let low = low_hole w q in absurd (omega arith)
  same_area Hole (Frame H0) w p q = let low = low_hole w p in absurd (omega arith)
  same_area Hole (Frame H1) w p q = let low = low_hole w p in absurd (omega arith)
  same_area one Hole w p q = let low = low_hole w q in absurd (omega arith)
  same_area Hole also w p q = let low = low_hole w p in absurd (omega arith)
  same_area one (Frame H0) w p q = absurd (omega arith)
  same_area one (Frame H1) w p q = absurd (omega arith)
  same_area (Frame H0) also w p q = absurd (omega arith)
  same_area (Frame H1) also w p q = absurd (omega arith)
  same_area one also w p q = absurd (omega arith)

  -- an address that is neither in the RAM nor in the ROM is in a hole
  past_ram : (w : ℕ) → w ≤ 0xFFF → 0x400 ≤ w → (one : Area) × IsIn one w
  past_ram w most low =
      ⊎_elim (λ below. (Hole, inl (low, omega arith)))
      (λ rom. ⊎_elim (λ below. (Rom, (rom, omega arith))) (λ above. (Hole, inr (above, most))) (cases_lt w 0xC00))
      (cases_lt w first)

  pub some_area : (w : ℕ) → w ≤ 0xFFF → (one : Area) × IsIn one w
  some_area w most =
      ⊎_elim (λ zero. (Zero, omega arith))
      (λ some. ⊎_elim (λ half. (Frame H0, (some, omega arith)))
      (λ past. ⊎_elim (λ unused. (Unused, omega arith))
      (λ second. ⊎_elim (λ half. (Frame H1, (second, omega arith))) (λ high. past_ram w most high) (cases_lt w 0x400))
      (cases_lt w 0x201))
      (cases_lt w 0x200))
      (cases_lt w 0x001)
