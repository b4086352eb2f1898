-- What one instruction of the driver makes of what is known.
use Rattle.std.proofs.Common.{◌≡◌, ◌⊎◌, ℕ, suc, ◌+◌, ◌*◌, ◌%◌, ◌<◌, Bool, true, false, refl, sym, ap, ◌∙◌, subst}
use Rattle.std.proofs.lemmas.Bool.{ne_eqb}
use Rattle.std.specs.Prelude.{nat_eq, nat_lt, ◌&&◌, not, if◌then◌else◌}
use Rattle.dvg_calls_6502.specs.Processor.{Cpu, A, X, Y, Instr, Store, Change, ZeroPage, Absolute}
use Rattle.dvg_calls_6502.specs.Processor.{put, decoded, opcodes}
use Rattle.dvg_game_rules.proofs.Facts.{both_true, not_true}
use Rattle.dvg_game_6502.proofs.Claims.{Claim, Ready, Low, Blank, Aims, Inside}
use Rattle.dvg_game_6502.proofs.Claims.{Also, Nothing, Is, UpTo, Small, Even, Page, Once, Twice, Says}
use Rattle.dvg_game_6502.proofs.Claims.{Under, Over, Found, Did, Holds, HoldsIn, MeansIn, is_known, is_quiet}
use Rattle.dvg_game_6502.proofs.Claims.{is_storing, is_touched, leaves, length_of, sets}
use Rattle.dvg_game_6502.proofs.Effects.{Goes}

-- a store there leaves what is known, and is allowed
abbrev pub aside : ℕ → Bool
aside b = is_touched b && (not (nat_eq 0x10 b) && (not (nat_eq 0x13 b) && (not (nat_eq 0x14 b) && not (nat_eq 0x15 b))))

-- an instruction, by its opcode and the two bytes behind it, and what is known before it and after
-- it
pub data Straight : (op low high : ℕ) → Claim → Also → Claim → Also → Type 0 where
  plain : {op low high : ℕ} {c : Claim} {e : Also} → is_quiet (decoded opcodes op) ≡ true
      → leaves (decoded opcodes op) e ≡ true → Straight op low high c e c e
  beside : {op low high : ℕ} {c : Claim} {e : Also} → is_storing (decoded opcodes op) ≡ true → aside low ≡ true
      → leaves (decoded opcodes op) e ≡ true → Straight op low high c e c e
  -- STA of the hardware
  far : {low high : ℕ} {c : Claim} {e : Also} → aside (low + 256 * high) ≡ true
      → leaves (Store A Absolute) e ≡ true → Straight 0x8D low high c e c e
  -- STA and DEC of dvg_x or dvg_y
  axis : {low high : ℕ} {c : Claim} → aside ((low + 0) % 256) ≡ true → aside ((low + 2) % 256) ≡ true
      → Straight 0x95 low high c Even c Even
  axis_down : {low high : ℕ} {c : Claim} → aside ((low + 0) % 256) ≡ true → aside ((low + 2) % 256) ≡ true
      → Straight 0xD6 low high c Even c Even
  -- LDA, LDX, LDY of a number
  lda : {k high : ℕ} {c : Claim} {e : Also} → Straight 0xA9 k high c e c (Is A k)
  ldx : {high : ℕ} {c : Claim} {e : Also} → Straight 0xA2 2 high c e c Even
  ldy : {k high : ℕ} {c : Claim} {e : Also} → Straight 0xA0 k high c e c (Is Y k)
  -- of the phase
  lda_phase : {high : ℕ} {c : Claim} {e : Also} → Straight 0xA5 0x10 high c e c (Says A)
  ldx_phase : {high : ℕ} {c : Claim} {e : Also} → Straight 0xA6 0x10 high c e c (Says X)
  ldy_phase : {high : ℕ} {c : Claim} {e : Also} → Straight 0xA4 0x10 high c e c (Says Y)
  -- Y is `at`, and goes on
  ldy_at : {high : ℕ} {c : Claim} {e : Also} → Straight 0xA4 0x13 high c e c Small
  iny : {low high : ℕ} {c : Claim} → Straight 0xC8 low high c Small c Small
  sty_at : {high : ℕ} {c : Claim} → Straight 0x84 0x13 high c Small c Small
  dey : {low high : ℕ} {c : Claim} → Straight 0x88 low high c (Is Y 1) c (Is Y 0)
  -- DEX
  once : {low high : ℕ} {c : Claim} → Straight 0xCA low high c Even c Once
  twice : {low high : ℕ} {c : Claim} → Straight 0xCA low high c Once c Twice
  count : {low high k : ℕ} {c : Claim} → Straight 0xCA low high c (Over k) c (Under (suc k))
  -- AND #$02, ASL A, ORA #$40
  mask : {high : ℕ} {c : Claim} {e : Also} → Straight 0x29 0x02 high c e c (UpTo 2)
  double : {low high : ℕ} {c : Claim} → Straight 0x0A low high c (UpTo 2) c (UpTo 4)
  page : {high : ℕ} {c : Claim} → Straight 0x09 0x40 high c (UpTo 4) c Page
  -- the phase is stored: a low one; any, where the pointer is in the vector RAM or just behind it
  lower : {high k : ℕ} {c : Claim} → nat_lt k 6 ≡ true → Straight 0x85 0x10 high c (Is A k) Low Nothing
  sta_phase : {high : ℕ} {e : Also} → leaves (Store A ZeroPage) e ≡ true → Straight 0x85 0x10 high Aims e Aims e
  stx_phase : {high : ℕ} {e : Also} → Straight 0x86 0x10 high Aims e Aims Nothing
  inc_phase : {high : ℕ} {e : Also} → Straight 0xE6 0x10 high Low e Ready Nothing
  -- the pointer is set, and goes on by a page
  clear : {high : ℕ} → Straight 0x84 0x14 high Low (Is Y 0) Blank Nothing
  aim : {high : ℕ} → Straight 0x85 0x15 high Blank Page Aims Nothing
  turn_page : {high : ℕ} {e : Also} → leaves (Change ZeroPage 1) e ≡ true → Straight 0xE6 0x15 high Inside e Aims e
  -- a byte is stored by the pointer
  store : {high : ℕ} → Straight 0x91 0x14 high Aims Small Inside Small
  -- CPY of the phase
  cpy : {k high : ℕ} {c : Claim} → nat_lt k 256 ≡ true → Straight 0xC0 k high c (Says Y) c (Found k)

-- what is known of a register that isn't set
pub left : (instr : Instr) (e : Also) (cpu new : Cpu) → leaves instr e ≡ true → Goes instr cpu new → MeansIn e cpu
    → MeansIn e new
left instr Nothing cpu new is goes means = tt
left instr (Is A k) cpu new is goes means = goes.a (not_true (sets A instr) is) ∙ means
left instr (Is X k) cpu new is goes means = goes.x (not_true (sets X instr) is) ∙ means
left instr (Is Y k) cpu new is goes means = goes.y (not_true (sets Y instr) is) ∙ means
left instr Small cpu new is goes means = subst (λ (j : ℕ). j < 256) (sym (goes.y (not_true (sets Y instr) is))) means
left instr Even cpu new is goes means =
    subst (λ (j : ℕ). (j ≡ 0) ⊎ (j ≡ 2)) (sym (goes.x (not_true (sets X instr) is))) means
left instr e cpu new is goes means = absurd (cc)

-- a byte that isn't stored
pub kept : (z v : ℕ) (mem : ℕ → ℕ) (b : ℕ) → nat_eq b z ≡ false → put z v mem b ≡ mem b
kept z v mem b is = ap (λ (t : Bool). if t then v else mem b) is

pub spared : (z v : ℕ) (mem : ℕ → ℕ) → is_touched z ≡ true → (b : ℕ) → is_touched b ≡ false → put z v mem b ≡ mem b
spared z v mem touched b off = kept z v mem b (ne_eqb b z (λ same. absurd (let e = ap is_touched same in cc)))

-- an instruction that stores aside
pub stores_aside : (instr : Instr) (c : Claim) (e : Also) (cpu new : Cpu) (z v : ℕ) → cpu.mem 0x13 < 256
    → HoldsIn c cpu.mem → MeansIn e cpu → Goes instr cpu new → leaves instr e ≡ true
    → new.mem ≡ put z v cpu.mem → aside z ≡ true → Did (length_of instr) cpu new c e
stores_aside instr c e cpu new z v place holds means goes leaves_it mem is = record {
  pc = goes.pc;
  s = goes.s;
  place = subst (λ (j : ℕ). j < 256) (sym (same 0x13 (not_true (nat_eq 0x13 z) three.0))) place;
  claim = subst (λ j. Holds c j (new.mem 0x14) (new.mem 0x15))
      (sym (same 0x10 (not_true (nat_eq 0x10 z) two.0)))
      (subst (λ j. Holds c (cpu.mem 0x10) j (new.mem 0x15))
      (sym (same 0x14 (not_true (nat_eq 0x14 z) four.0)))
      (subst (λ j. Holds c (cpu.mem 0x10) (cpu.mem 0x14) j)
      (sym (same 0x15 (not_true (nat_eq 0x15 z) four.1))) holds));
  also = left instr e cpu new leaves_it goes means;
  spares = λ b off. ap (λ (m : ℕ → ℕ). m b) mem ∙ spared z v cpu.mem one.0 b off;
}
  where
    same : (b : ℕ) → nat_eq b z ≡ false → new.mem b ≡ cpu.mem b
    same b off = ap (λ (m : ℕ → ℕ). m b) mem ∙ kept z v cpu.mem b off

    one : (is_touched z ≡ true)
        × ((not (nat_eq 0x10 z) && (not (nat_eq 0x13 z) && (not (nat_eq 0x14 z)
        && not (nat_eq 0x15 z)))) ≡ true)
    one = both_true (is_touched z) _ is

    two : (not (nat_eq 0x10 z) ≡ true) × ((not (nat_eq 0x13 z) && (not (nat_eq 0x14 z) && not (nat_eq 0x15 z))) ≡ true)
    two = both_true (not (nat_eq 0x10 z)) _ one.1

    three : (not (nat_eq 0x13 z) ≡ true) × ((not (nat_eq 0x14 z) && not (nat_eq 0x15 z)) ≡ true)
    three = both_true (not (nat_eq 0x13 z)) _ two.1

    four : (not (nat_eq 0x14 z) ≡ true) × (not (nat_eq 0x15 z) ≡ true)
    four = both_true (not (nat_eq 0x14 z)) _ three.1

-- where more than nothing is known, it is so after the instruction
pub straight_known : {op low high : ℕ} {c : Claim} {e : Also} {d : Claim} {f : Also} → Straight op low high c e d f
    → is_known c ≡ true → is_known d ≡ true
straight_known (lower a) is = refl
straight_known (sta_phase a) is = refl
straight_known stx_phase is = refl
straight_known inc_phase is = refl
straight_known clear is = refl
straight_known aim is = refl
straight_known (turn_page a) is = refl
straight_known store is = refl
straight_known _ is = is
