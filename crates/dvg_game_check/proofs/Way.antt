-- The way of a reset, step by step.
use Rattle.std.proofs.Common.{◌≡◌, ℕ, zero, suc, ◌+◌, ◌-◌, ◌<◌, ◌≤◌, ◌&&◌, Bool, true, false, refl, sym, ◌∙◌, ap, arith, if◌then◌else◌, nat_eq, eq-eqb, eqb-true}
use Rattle.dvg_game_words.specs.Kinds.{kind_of}
use Rattle.dvg_game_words.specs.Checker.{boots, bytes_of, is_code, may_boot, stand_at, stack_setting}
use Rattle.dvg_game_check.specs.Program.{way}

pub way_zero : (f : ℕ → ℕ) (at start : ℕ) → way 0 f at start ≡ false
unfolding way
way_zero f at start = refl

pub way_out : (n : ℕ) (f : ℕ → ℕ) (at start : ℕ) → is_code at ≡ false → way n f at start ≡ false
unfolding way
way_out zero f at start e = refl
way_out (suc n) f at start e =
    ap (λ b. b && (if stand_at stack_setting f at then nat_eq start (at + 3)
    else may_boot (kind_of (f at)) f at && boots n f (at + bytes_of (kind_of (f at))) start)) e

one_step : (n : ℕ) (f : ℕ → ℕ) (at start : ℕ) (stack may : Bool) → is_code at ≡ true → stand_at stack_setting f at ≡ stack
    → may_boot (kind_of (f at)) f at ≡ may
    → way (suc n) f at start
    ≡ (if stack then nat_eq start (at + 3) else may && way n f (at + bytes_of (kind_of (f at))) start)
unfolding way
one_step n f at start stack may c s m =
    ap (λ b. b && (if stand_at stack_setting f at then nat_eq start (at + 3)
    else may_boot (kind_of (f at)) f at && boots n f (at + bytes_of (kind_of (f at))) start)) c
    ∙ (ap (λ b. if b then nat_eq start (at + 3)
    else may_boot (kind_of (f at)) f at && boots n f (at + bytes_of (kind_of (f at))) start) s
    ∙ ap (λ b. if stack then nat_eq start (at + 3) else b && boots n f (at + bytes_of (kind_of (f at))) start) m)

pub way_there : (n : ℕ) (f : ℕ → ℕ) (at : ℕ) → is_code at ≡ true → stand_at stack_setting f at ≡ true
    → way (suc n) f at (at + 3) ≡ true
way_there n f at c s =
    one_step n f at (at + 3) true (may_boot (kind_of (f at)) f at) c s refl ∙ eq-eqb (at + 3) (at + 3) refl

pub way_bad : (n : ℕ) (f : ℕ → ℕ) (at start : ℕ) → is_code at ≡ true → stand_at stack_setting f at ≡ false
    → may_boot (kind_of (f at)) f at ≡ false → way (suc n) f at start ≡ false
way_bad n f at start c s m = one_step n f at start false false c s m

pub way_on : (n : ℕ) (f : ℕ → ℕ) (at start : ℕ) → is_code at ≡ true → stand_at stack_setting f at ≡ false
    → may_boot (kind_of (f at)) f at ≡ true
    → way (suc n) f at start ≡ way n f (at + bytes_of (kind_of (f at))) start
way_on n f at start c s m = one_step n f at start false true c s m

-- a reset leads to one start
pub way_once : (n : ℕ) (f : ℕ → ℕ) (at s t : ℕ) → way n f at s ≡ true → way n f at t ≡ true → s ≡ t
way_once zero f at s t h g = absurd (let e : false ≡ true = sym (way_zero f at s) ∙ h in cc)
way_once (suc n) f at s t h g =
    by (way_once n f (at + bytes_of (kind_of (f at))) s t) (is_code at) (stand_at stack_setting f at)
    (may_boot (kind_of (f at)) f at) refl refl refl
  where
    by : (way n f (at + bytes_of (kind_of (f at))) s ≡ true → way n f (at + bytes_of (kind_of (f at))) t ≡ true → s ≡ t)
        → (code stack may : Bool) → is_code at ≡ code → stand_at stack_setting f at ≡ stack
        → may_boot (kind_of (f at)) f at ≡ may → s ≡ t
    by rest false stack may c k m = absurd (let e : false ≡ true = sym (way_out (suc n) f at s c) ∙ h in cc)
    by rest true true may c k m =
        eqb-true s (at + 3) (sym (one_step n f at s true may c k m) ∙ h)
        ∙ sym (eqb-true t (at + 3) (sym (one_step n f at t true may c k m) ∙ g))
    by rest true false false c k m = absurd (let e : false ≡ true = sym (way_bad n f at s c k m) ∙ h in cc)
    by rest true false true c k m =
        rest (sym (way_on n f at s c k m) ∙ h) (sym (way_on n f at t c k m) ∙ g)
