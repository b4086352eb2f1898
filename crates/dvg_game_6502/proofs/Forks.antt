-- What a branch of the driver makes of what is known, and what may be forgotten.
use Rattle.std.proofs.Common.{◌≡◌, ◌⊎◌, inl, inr, ℕ, suc, ◌+◌, ◌%◌, ◌<◌, ◌≤◌, Bool, true, false}
use Rattle.std.proofs.Common.{refl, sym, ap, ◌∙◌, subst, arith, eqb-true, leb-true}
use Rattle.std.proofs.lemmas.Bool.{eqb-false, leb-false, not-false, not-true}
use Rattle.std.specs.Prelude.{nat_eq, nat_lt, nat_le, not, if◌then◌else◌}
use Rattle.dvg_calls_6502.specs.Processor.{Cpu, A, X, Y, Instr, Branch, Negative, Zero, does, decoded}
use Rattle.dvg_calls_6502.specs.Processor.{opcodes, is_so, of_flag, target}
use Rattle.dvg_game_6502.proofs.Claims.{Claim, Ready, Sized, Low, Aims, Inside, Points}
use Rattle.dvg_game_6502.proofs.Claims.{Also, Nothing, Is, Small, Even, Twice, Says, Under, Over, Found}
use Rattle.dvg_game_6502.proofs.Claims.{HoldsIn, MeansIn, is_known}

abbrev pub is_branch : Instr → Bool
is_branch (Branch flag when) = true
is_branch instr = false

-- a branch, and what is known where it is taken, and where it isn't
pub data Fork : ℕ → Claim → Also → Claim → Also → Claim → Also → Type 0 where
  either : {op : ℕ} {c : Claim} {e : Also} → is_branch (decoded opcodes op) ≡ true → Fork op c e c e c e
  -- BMI: the phase is one of writing
  busy_a : Fork 0x30 Ready (Says A) Aims Nothing Ready Nothing
  busy_x : Fork 0x30 Ready (Says X) Aims Nothing Ready (Under 0)
  -- BEQ: X is 0
  none : {c : Claim} {k : ℕ} → nat_lt k 6 ≡ true → Fork 0xF0 c (Under k) Low Nothing c (Over k)
  -- BNE: the phase isn't DVG_IDLE, or DVG_BUILD
  idle : Fork 0xD0 Sized (Found 2) Ready Nothing Low Nothing
  building : Fork 0xD0 Ready (Found 7) Ready Nothing Aims Nothing
  -- BPL: X was 2
  plus : {c : Claim} → Fork 0x10 c Twice c Even c Nothing

-- what a branch leaves
pub record Forked (cpu new : Cpu) (taken : Claim) (one : Also) (passed : Claim)
    (two : Also) : Type 0 where
  pub s : new.s ≡ cpu.s
  pub mem : new.mem ≡ cpu.mem
  pub goes : ((new.pc ≡ target cpu.pc (cpu.mem (cpu.pc + 1))) × HoldsIn taken cpu.mem
      × MeansIn one new)
      ⊎ ((new.pc ≡ cpu.pc + 2) × HoldsIn passed cpu.mem × MeansIn two new)

module _ (cpu : Cpu) where
  branched : (op : ℕ) (c : Claim) (e : Also) (instr : Instr) → is_branch instr ≡ true → HoldsIn c cpu.mem
      → MeansIn e cpu → Forked cpu (does instr cpu) c e c e
  branched op c e (Branch flag when) is holds means = by (is_so when (of_flag flag cpu)) refl
    where
      by : (t : Bool) → is_so when (of_flag flag cpu) ≡ t → Forked cpu (does (Branch flag when) cpu) c e c e
      by true so = record {
        s = refl;
        mem = refl;
        goes = inl (ap (λ (t : Bool). if t then target cpu.pc (cpu.mem (cpu.pc + 1)) else cpu.pc + 2) so, holds, means);
      }
      by false so = record {
        s = refl;
        mem = refl;
        goes = inr (ap (λ (t : Bool). if t then target cpu.pc (cpu.mem (cpu.pc + 1)) else cpu.pc + 2) so, holds, means);
      }
  branched op c e instr is holds means = absurd (cc)

  -- by whether a flag is set
  by_flag : (instr : Instr) (taken : Bool) (c : Claim) (e : Also) (d : Claim) (f : Also) → (does instr cpu).s ≡ cpu.s
      → (does instr cpu).mem ≡ cpu.mem
      → (does instr cpu).pc ≡ (if taken then target cpu.pc (cpu.mem (cpu.pc + 1)) else cpu.pc + 2)
      → (taken ≡ true → HoldsIn c cpu.mem × MeansIn e (does instr cpu))
      → (taken ≡ false → HoldsIn d cpu.mem × MeansIn f (does instr cpu)) → Forked cpu (does instr cpu) c e d f
  by_flag instr taken c e d f s mem pc there here =
      record { s = s; mem = mem; goes = by taken refl }
    where
      by : (t : Bool) → taken ≡ t → (((does instr cpu).pc ≡ target cpu.pc (cpu.mem (cpu.pc + 1))) × HoldsIn c cpu.mem
          × MeansIn e (does instr cpu))
          ⊎ (((does instr cpu).pc ≡ cpu.pc + 2) × HoldsIn d cpu.mem × MeansIn f (does instr cpu))
      by true is = inl (
        pc ∙ ap (λ (t : Bool). if t then target cpu.pc (cpu.mem (cpu.pc + 1)) else cpu.pc + 2) is,
        (there is).0,
        (there is).1,
      )
      by false is = inr (
        pc ∙ ap (λ (t : Bool). if t then target cpu.pc (cpu.mem (cpu.pc + 1)) else cpu.pc + 2) is,
        (here is).0,
        (here is).1,
      )

  -- where the phase is high, the pointer may be stored by
  high_aims : (phase low high : ℕ) → 7 ≤ phase → (phase < 7) ⊎ Points 1 low high → Points 1 low high
  high_aims phase low high above (inl less) = absurd (omega arith)
  high_aims phase low high above (inr points) = points

  set : (b k : ℕ) → nat_le k b ≡ true → k ≤ b
  set b k is = leb-true k b is

  unset : (b : ℕ) → nat_le 128 b ≡ false → b < 128
  unset b is = let none = leb-false 128 b is in omega (arith, none)

  pub forked : {op : ℕ} {c : Claim} {e : Also} {d : Claim} {f : Also} {g : Claim} {h : Also} → Fork op c e d f g h
      → HoldsIn c cpu.mem → MeansIn e cpu → Forked cpu (does (decoded opcodes op) cpu) d f g h
  forked {op = op} {c = c} {e = e} (either is) = λ holds means. branched op c e (decoded opcodes op) is holds means
  forked busy_a = λ holds means. by_flag
      (Branch Negative true) cpu.n Aims Nothing Ready Nothing refl refl refl
      (λ is. (
        high_aims (cpu.mem 0x10) (cpu.mem 0x14) (cpu.mem 0x15)
            (let high = set cpu.a 128 (sym means.2 ∙ is) in let e =
            means.0 in omega (arith, high, e)) holds,
        tt,
      ))
      (λ is. (holds, tt))
  forked busy_x = λ holds means. by_flag (Branch Negative true) cpu.n Aims Nothing Ready
      (Under 0) refl refl refl
      (λ is. (
        high_aims (cpu.mem 0x10) (cpu.mem 0x14) (cpu.mem 0x15)
            (let high = set cpu.x 128 (sym means.2 ∙ is) in let e =
            means.0 in omega (arith, high, e)) holds,
        tt,
      ))
      (λ is. (holds, ((let e = means.0 in omega (arith, e)), unset cpu.x (sym means.2 ∙ is), means.1)))
  forked {c = c} {e = Under k} (none less) =
      λ holds means. by_flag (Branch Zero true) cpu.z Low Nothing c (Over k)
      refl refl refl (λ is. (low k (leb-true (suc k) 6 less) means (sym means.2 ∙ is), tt))
      (λ is. (holds, (means.0, means.1, some (sym means.2 ∙ is))))
    where
      low : (k : ℕ) → k < 6 → (cpu.mem 0x10 ≡ cpu.x + k) × (cpu.x < 128) × (cpu.z ≡ nat_eq cpu.x 0)
          → nat_eq cpu.x 0 ≡ true → cpu.mem 0x10 < 6
      low k few means is = let e = eqb-true cpu.x 0 is in let same = means.0 in omega (arith, e, same)

      some : nat_eq cpu.x 0 ≡ false → 1 ≤ cpu.x
      some is = let apart = eqb-false cpu.x 0 is in omega (arith, apart)
  forked idle = λ holds means. by_flag (Branch Zero false)
      (not cpu.z) Ready Nothing Low Nothing refl refl refl
      (λ is. (holds.1, tt))
      (λ is. ((let small = holds.0 in let e = means (was is) in omega (arith, small, e)), tt))
    where
      was : not cpu.z ≡ false → cpu.z ≡ true
      was is = not-false cpu.z is
  forked building = λ holds means. by_flag (Branch Zero false)
      (not cpu.z) Ready Nothing Aims Nothing refl refl refl
      (λ is. (holds, tt))
      (λ is. (
        high_aims (cpu.mem 0x10) (cpu.mem 0x14) (cpu.mem 0x15)
            (let e = means (not-false cpu.z is) in above (cpu.mem 0x10) e) holds,
        tt,
      ))
    where
      above : (b : ℕ) → b % 256 ≡ 7 → 7 ≤ b
      above b e = omega arith
  forked {c = c} plus = λ holds means. by_flag (Branch Negative false)
      (not cpu.n) c Even c Nothing refl refl refl
      (λ is. (holds, up means.0 (positive is means.1)))
      (λ is. (holds, tt))
    where
      positive : not cpu.n ≡ true → cpu.n ≡ nat_le 128 cpu.x → nat_le 128 cpu.x ≡ false
      positive is same = let e : not (nat_le 128 cpu.x) ≡ true = ap not (sym same) ∙ is in not-true (nat_le 128 cpu.x) e

      up : (cpu.x ≡ 254) ⊎ (cpu.x ≡ 0) → nat_le 128 cpu.x ≡ false → (cpu.x ≡ 0) ⊎ (cpu.x ≡ 2)
      up (inl is) low = absurd (let less = unset cpu.x low in omega (arith, is, less))
      up (inr is) low = inl is

-- what is known still, if something is forgotten
pub data Weaker : Claim → Claim → Type 0 where
  same : {c : Claim} → Weaker c c
  low_ready : Weaker Low Ready
  low_sized : Weaker Low Sized
  sized_ready : Weaker Sized Ready
  aims_ready : Weaker Aims Ready
  inside_aims : Weaker Inside Aims
  inside_ready : Weaker Inside Ready

pub data Drops : Also → Also → Type 0 where
  as_is : {e : Also} → Drops e e
  nothing : {e : Also} → Drops e Nothing
  small : {k : ℕ} → nat_lt k 256 ≡ true → Drops (Is Y k) Small

pub weakened : {c d : Claim} → Weaker c d → (mem : ℕ → ℕ) → HoldsIn c mem → HoldsIn d mem
weakened same mem holds = holds
weakened low_ready mem holds = inl (let less : mem 0x10 < 6 = holds in omega arith)
weakened low_sized mem holds = let less : mem 0x10 < 6 = holds in (omega arith, inl (omega arith))
weakened sized_ready mem holds = holds.1
weakened aims_ready mem holds = inr holds
weakened inside_aims mem holds = (holds.0, holds.1, (let less = holds.2 in omega (arith, less)))
weakened inside_ready mem holds = inr (holds.0, holds.1, (let less = holds.2 in omega (arith, less)))

pub dropped : {e f : Also} → Drops e f → (cpu : Cpu) → MeansIn e cpu → MeansIn f cpu
dropped as_is cpu means = means
dropped nothing cpu means = tt
dropped {e = Is Y k} (small few) cpu means =
    let less = leb-true (suc k) 256 few in subst (λ (j : ℕ). j < 256) (sym means) less

-- where more than nothing is known, it is so on both ways, and where less is said
pub fork_known : {op : ℕ} {c : Claim} {e : Also} {d : Claim} {f : Also} {g : Claim} {h : Also} → Fork op c e d f g h
    → is_known c ≡ true → (is_known d ≡ true) × (is_known g ≡ true)
fork_known (either a) is = (is, is)
fork_known (none a) is = (refl, is)
fork_known plus is = (is, is)
fork_known _ is = (refl, refl)

pub weaker_known : {c d : Claim} → Weaker c d → is_known c ≡ true → is_known d ≡ true
weaker_known same is = is
weaker_known _ is = refl
