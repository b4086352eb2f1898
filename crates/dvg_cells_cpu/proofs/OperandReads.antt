-- What the reads of an instruction find, in place of any bytes.
use Rattle.std.proofs.Common.{◌≡◌, ℕ, suc, ◌+◌, ◌*◌, ◌/◌, ◌%◌, ◌<◌, Bool, true, false, refl, sym, ap, ◌∙◌, subst, arith, eqb-true}
use Rattle.std.specs.Prelude.{nat_eq, if◌then◌else◌}
use Rattle.std.proofs.lemmas.Bool.{ne_eqb}
use Rattle.dvg_calls_6502.specs.Processor.{Cpu, address, beside, Absolute, found, flag_place, pulled, reads, stack_place}
use Rattle.dvg_cells_cpu.specs.Refines.{IsSound}
use Rattle.dvg_cells_cpu.proofs.Sums.{flat, rejoined}

-- a byte that isn't at the flag's place
pub plain : (cpu : Cpu) (p : ℕ) → nat_eq p flag_place ≡ false → found p cpu ≡ cpu.mem p
plain cpu p e = ap (λ b. if b then cpu.flags 0 else cpu.mem p) e

plain_low : (cpu : Cpu) (p : ℕ) → p < 8194 → found p cpu ≡ cpu.mem p
plain_low cpu p less = plain cpu p (ne_eqb p 8194 (omega arith))

-- the byte after the opcode; what X and Y lead to from there; and from a pointer
module _ (cpu : Cpu) where
  abbrev pub zp : ℕ
  zp = cpu.mem (cpu.pc + 1)

  abbrev pub zp_by : ℕ → ℕ
  zp_by index = (zp + index) % 256

  abbrev pub wide : ℕ
  wide = zp + 256 * cpu.mem (cpu.pc + 2)

  abbrev pub wide_by : ℕ → ℕ
  wide_by index = (wide + index) % 65536

  abbrev pub above : ℕ → ℕ
  above p = (p + 1) % 256

  abbrev pub word : ℕ → ℕ
  word p = cpu.mem p + 256 * cpu.mem (above p)

  abbrev pub word_by : ℕ → ℕ
  word_by p = (word p + cpu.y) % 65536

  -- an indirect jump finds both bytes where it looks for them
  pub found_both : found (beside cpu) (reads (address Absolute cpu) cpu) ≡ found (beside cpu) cpu
  found_both = by (nat_eq (beside cpu) flag_place) (nat_eq wide flag_place) refl refl
    where
      by : (b w : Bool) → nat_eq (beside cpu) flag_place ≡ b → nat_eq wide flag_place ≡ w
          → (if b then (if w then (λ n. cpu.flags (suc n)) else cpu.flags) 0 else cpu.mem (beside cpu))
          ≡ (if b then cpu.flags 0 else cpu.mem (beside cpu))
      by false w is at = refl
      by true false is at = refl
      by true true is at =
          let high = eqb-true (beside cpu) flag_place is in
          let low = eqb-true wide flag_place at in absurd (omega arith)

module _ (cpu : Cpu) (sound : IsSound cpu) where
  pub pc1 : (cpu.pc + 1) % 65536 ≡ cpu.pc + 1
  pc1 = let less = sound.pc in omega arith

  pub pc2 : (cpu.pc + 2) % 65536 ≡ cpu.pc + 2
  pc2 = let less = sound.pc in omega arith

  pub pc3 : (cpu.pc + 3) % 65536 ≡ cpu.pc + 3
  pc3 = let less = sound.pc in omega arith

  pub found_byte : (p : ℕ) → found p cpu < 256
  found_byte p = by (nat_eq p flag_place)
    where
      by : (b : Bool) → (if b then cpu.flags 0 else cpu.mem p) < 256
      by true = sound.flags
      by false = sound.bytes p

  pub here : (d : ℕ) → d ≡ found cpu.pc cpu → d ≡ cpu.mem cpu.pc
  here d e = e ∙ sound.here

  first : (d : ℕ) → d ≡ found ((cpu.pc + 1) % 65536) cpu → d ≡ zp cpu
  first d e = e ∙ ap (λ p. found p cpu) pc1 ∙ sound.first

  second : (d : ℕ) → d ≡ found ((cpu.pc + 2) % 65536) cpu → d ≡ cpu.mem (cpu.pc + 2)
  second d e = e ∙ ap (λ p. found p cpu) pc2 ∙ sound.second

  -- #, and what is stored at an address of the zero page
  pub by_first : (P : ℕ → Type 0) → P (zp cpu) → (d1 : ℕ) → d1 ≡ found ((cpu.pc + 1) % 65536) cpu → P d1
  by_first P p d1 e1 = subst P (sym (first d1 e1)) p

  -- zp
  pub by_zero_page : (P : ℕ → ℕ → Type 0) → P (zp cpu) (found (zp cpu) cpu) → (d1 d2 : ℕ)
      → d1 ≡ found ((cpu.pc + 1) % 65536) cpu → d2 ≡ found (d1 + 0) cpu → P d1 d2
  by_zero_page P p d1 d2 e1 e2 =
      let f1 = first d1 e1 in
      let f2 : d2 ≡ found (zp cpu) cpu = e2 ∙ ap (λ p. found p cpu) (flat d1 ∙ f1) in
      subst (λ d. P d d2) (sym f1) (subst (P (zp cpu)) (sym f2) p)

  -- zp,X and zp,Y
  pub by_zero_page_i : (k : ℕ) (P : ℕ → ℕ → Type 0) → P (zp cpu) (found (zp_by cpu k) cpu) → (d1 d2 : ℕ)
      → d1 ≡ found ((cpu.pc + 1) % 65536) cpu → d2 ≡ found ((d1 + k) % 256 + 0) cpu → P d1 d2
  by_zero_page_i k P p d1 d2 e1 e2 =
      let f1 = first d1 e1 in
      let f2 : d2 ≡ found (zp_by cpu k) cpu =
      e2 ∙ ap (λ p. found p cpu) (flat ((d1 + k) % 256) ∙ ap (λ d. (d + k) % 256) f1) in
      subst (λ d. P d d2) (sym f1) (subst (P (zp cpu)) (sym f2) p)

  -- what is stored at an absolute address
  pub by_two : (P : ℕ → ℕ → Type 0) → P (zp cpu) (cpu.mem (cpu.pc + 2)) → (d1 d2 : ℕ)
      → d1 ≡ found ((cpu.pc + 1) % 65536) cpu → d2 ≡ found ((cpu.pc + 2) % 65536) cpu → P d1 d2
  by_two P p d1 d2 e1 e2 = subst (λ d. P d d2) (sym (first d1 e1)) (subst (P (zp cpu)) (sym (second d2 e2)) p)

  -- abs
  pub by_absolute : (P : ℕ → ℕ → ℕ → Type 0) → P (zp cpu) (cpu.mem (cpu.pc + 2)) (found (wide cpu) cpu)
      → (d1 d2 d3 : ℕ) → d1 ≡ found ((cpu.pc + 1) % 65536) cpu → d2 ≡ found ((cpu.pc + 2) % 65536) cpu
      → d3 ≡ found (d1 + 256 * d2) cpu → P d1 d2 d3
  by_absolute P p d1 d2 d3 e1 e2 e3 =
      by_two (λ d1 d2. (d3 : ℕ) → d3 ≡ found (d1 + 256 * d2) cpu → P d1 d2 d3)
      (λ d3 e. subst (P (zp cpu) (cpu.mem (cpu.pc + 2))) (sym e) p) d1 d2 e1 e2 d3 e3

  -- abs,X and abs,Y
  pub by_absolute_i : (k : ℕ) (P : ℕ → ℕ → ℕ → Type 0) → P (zp cpu) (cpu.mem (cpu.pc + 2)) (found (wide_by cpu k) cpu)
      → (d1 d2 d3 : ℕ) → d1 ≡ found ((cpu.pc + 1) % 65536) cpu → d2 ≡ found ((cpu.pc + 2) % 65536) cpu
      → d3 ≡ found ((d1 + 256 * d2 + k) % 65536 / 1 % 256 + 256 * ((d1 + 256 * d2 + k) % 65536 / 256 % 256)) cpu → P d1 d2 d3
  by_absolute_i k P p d1 d2 d3 e1 e2 e3 =
      by_two (λ d1 d2. (d3 : ℕ)
      → d3 ≡ found ((d1 + 256 * d2 + k) % 65536 / 1 % 256 + 256 * ((d1 + 256 * d2 + k) % 65536 / 256 % 256)) cpu → P d1 d2 d3)
      (λ d3 e. subst (P (zp cpu) (cpu.mem (cpu.pc + 2)))
      (sym (e ∙ ap (λ p. found p cpu) (rejoined (wide_by cpu k) (omega arith)))) p)
      d1 d2 e1 e2 d3 e3

  -- both bytes of a pointer
  pair : (p : ℕ) → p < 256 → (P : ℕ → ℕ → Type 0) → P (cpu.mem p) (cpu.mem (above cpu p)) → (d2 d3 : ℕ)
      → d2 ≡ found p cpu → d3 ≡ found ((p + 1) % 256) cpu → P d2 d3
  pair p less P q d2 d3 e2 e3 =
      let f2 : found p cpu ≡ cpu.mem p = plain_low cpu p (omega arith) in
      let f3 : found (above cpu p) cpu ≡ cpu.mem (above cpu p) = plain_low cpu (above cpu p) (omega arith) in
      subst (λ d. P d d3) (sym (e2 ∙ f2)) (subst (P (cpu.mem p)) (sym (e3 ∙ f3)) q)

  -- what is stored by (zp),Y
  pub by_point : (P : ℕ → ℕ → ℕ → Type 0) → P (zp cpu) (cpu.mem (zp cpu)) (cpu.mem (above cpu (zp cpu)))
      → (d1 d2 d3 : ℕ) → d1 ≡ found ((cpu.pc + 1) % 65536) cpu → d2 ≡ found d1 cpu → d3 ≡ found ((d1 + 1) % 256) cpu
      → P d1 d2 d3
  by_point P p d1 d2 d3 e1 e2 e3 =
      by_first (λ d1. (d2 d3 : ℕ) → d2 ≡ found d1 cpu → d3 ≡ found ((d1 + 1) % 256) cpu → P d1 d2 d3)
      (pair (zp cpu) (sound.bytes (cpu.pc + 1)) (P (zp cpu)) p) d1 e1 d2 d3 e2 e3

  -- (zp),Y
  pub by_indirect : (P : ℕ → ℕ → ℕ → ℕ → Type 0)
      → P (zp cpu) (cpu.mem (zp cpu)) (cpu.mem (above cpu (zp cpu))) (found (word_by cpu (zp cpu)) cpu) → (d1 d2 d3 d4 : ℕ)
      → d1 ≡ found ((cpu.pc + 1) % 65536) cpu → d2 ≡ found d1 cpu → d3 ≡ found ((d1 + 1) % 256) cpu
      → d4 ≡ found ((d2 + 256 * d3 + cpu.y) % 65536 / 1 % 256 + 256 * ((d2 + 256 * d3 + cpu.y) % 65536 / 256 % 256)) cpu
      → P d1 d2 d3 d4
  by_indirect P p d1 d2 d3 d4 e1 e2 e3 e4 =
      by_point (λ d1 d2 d3. (d4 : ℕ)
      → d4 ≡ found ((d2 + 256 * d3 + cpu.y) % 65536 / 1 % 256 + 256 * ((d2 + 256 * d3 + cpu.y) % 65536 / 256 % 256)) cpu
      → P d1 d2 d3 d4)
      (λ d4 e. subst (P (zp cpu) (cpu.mem (zp cpu)) (cpu.mem (above cpu (zp cpu))))
      (sym (e ∙ ap (λ p. found p cpu) (rejoined (word_by cpu (zp cpu)) (omega arith)))) p)
      d1 d2 d3 e1 e2 e3 d4 e4

  -- what is stored by (zp,X)
  pub by_point_x : (P : ℕ → ℕ → ℕ → Type 0)
      → P (zp cpu) (cpu.mem (zp_by cpu cpu.x)) (cpu.mem (above cpu (zp_by cpu cpu.x))) → (d1 d2 d3 : ℕ)
      → d1 ≡ found ((cpu.pc + 1) % 65536) cpu → d2 ≡ found ((d1 + cpu.x) % 256) cpu
      → d3 ≡ found (((d1 + cpu.x) % 256 + 1) % 256) cpu → P d1 d2 d3
  by_point_x P p d1 d2 d3 e1 e2 e3 =
      by_first (λ d1. (d2 d3 : ℕ) → d2 ≡ found ((d1 + cpu.x) % 256) cpu
      → d3 ≡ found (((d1 + cpu.x) % 256 + 1) % 256) cpu → P d1 d2 d3)
      (pair (zp_by cpu cpu.x) (omega arith) (P (zp cpu)) p) d1 e1 d2 d3 e2 e3

  -- (zp,X)
  pub by_indirect_x : (P : ℕ → ℕ → ℕ → ℕ → Type 0)
      → P (zp cpu) (cpu.mem (zp_by cpu cpu.x)) (cpu.mem (above cpu (zp_by cpu cpu.x))) (found (word cpu (zp_by cpu cpu.x)) cpu)
      → (d1 d2 d3 d4 : ℕ) → d1 ≡ found ((cpu.pc + 1) % 65536) cpu → d2 ≡ found ((d1 + cpu.x) % 256) cpu
      → d3 ≡ found (((d1 + cpu.x) % 256 + 1) % 256) cpu → d4 ≡ found (d2 + 256 * d3) cpu → P d1 d2 d3 d4
  by_indirect_x P p d1 d2 d3 d4 e1 e2 e3 e4 =
      by_point_x (λ d1 d2 d3. (d4 : ℕ) → d4 ≡ found (d2 + 256 * d3) cpu → P d1 d2 d3 d4)
      (λ d4 e. subst (P (zp cpu) (cpu.mem (zp_by cpu cpu.x)) (cpu.mem (above cpu (zp_by cpu cpu.x)))) (sym e) p)
      d1 d2 d3 e1 e2 e3 d4 e4

  -- JMP (abs)
  pub by_jump : (P : ℕ → ℕ → ℕ → ℕ → Type 0)
      → P (zp cpu) (cpu.mem (cpu.pc + 2)) (found (wide cpu) cpu) (found (beside cpu) cpu) → (d1 d2 d3 d4 : ℕ)
      → d1 ≡ found ((cpu.pc + 1) % 65536) cpu → d2 ≡ found ((cpu.pc + 2) % 65536) cpu
      → d3 ≡ found (d1 + 256 * d2) cpu → d4 ≡ found ((d1 + 1) % 256 + 256 * d2) cpu → P d1 d2 d3 d4
  by_jump P p d1 d2 d3 d4 e1 e2 e3 e4 =
      by_two (λ d1 d2. (d3 d4 : ℕ) → d3 ≡ found (d1 + 256 * d2) cpu → d4 ≡ found ((d1 + 1) % 256 + 256 * d2) cpu
      → P d1 d2 d3 d4)
      (λ d3 d4 e3 e4. subst (λ d. P (zp cpu) (cpu.mem (cpu.pc + 2)) d d4) (sym e3)
      (subst (P (zp cpu) (cpu.mem (cpu.pc + 2)) (found (wide cpu) cpu)) (sym e4) p))
      d1 d2 e1 e2 d3 d4 e3 e4

  -- the stack: where S leads after one, two and three steps up
  abbrev pub up1 : ℕ
  up1 = (cpu.s + 1) % 256

  abbrev pub up2 : ℕ
  up2 = (up1 + 1) % 256

  abbrev pub up3 : ℕ
  up3 = (up2 + 1) % 256

  pub at1 : up1 + 256 ≡ stack_place (cpu.s + 1)
  at1 = omega arith

  pub at2 : up2 + 256 ≡ stack_place (cpu.s + 2)
  at2 = omega arith

  pub at3 : up3 + 256 ≡ stack_place (cpu.s + 3)
  at3 = omega arith

  pub s2 : up2 ≡ (cpu.s + 2) % 256
  s2 = omega arith

  pub s3 : up3 ≡ (cpu.s + 3) % 256
  s3 = omega arith

  pulls : (p q : ℕ) → p ≡ q → q < 8194 → (d : ℕ) → d ≡ found p cpu → d ≡ cpu.mem q
  pulls p q same less d e = e ∙ ap (λ p. found p cpu) same ∙ plain_low cpu q less

  pub by_pull : (P : ℕ → Type 0) → P (pulled 1 cpu) → (d1 : ℕ) → d1 ≡ found (up1 + 256) cpu → P d1
  by_pull P p d1 e1 = subst P (sym (pulls (up1 + 256) (stack_place (cpu.s + 1)) at1 (omega arith) d1 e1)) p

  pub by_return : (P : ℕ → ℕ → Type 0) → P (pulled 1 cpu) (pulled 2 cpu) → (d1 d2 : ℕ)
      → d1 ≡ found (up1 + 256) cpu → d2 ≡ found (up2 + 256) cpu → P d1 d2
  by_return P p d1 d2 e1 e2 =
      by_pull (λ d1. P d1 d2) (subst (P (pulled 1 cpu))
      (sym (pulls (up2 + 256) (stack_place (cpu.s + 2)) at2 (omega arith) d2 e2)) p) d1 e1

  pub by_resume : (P : ℕ → ℕ → ℕ → Type 0) → P (pulled 1 cpu) (pulled 2 cpu) (pulled 3 cpu) → (d1 d2 d3 : ℕ)
      → d1 ≡ found (up1 + 256) cpu → d2 ≡ found (up2 + 256) cpu → d3 ≡ found (up3 + 256) cpu → P d1 d2 d3
  by_resume P p d1 d2 d3 e1 e2 e3 =
      by_return (λ d1 d2. P d1 d2 d3) (subst (P (pulled 1 cpu) (pulled 2 cpu))
      (sym (pulls (up3 + 256) (stack_place (cpu.s + 3)) at3 (omega arith) d3 e3)) p) d1 d2 e1 e2
