-- NMIs come far enough apart: each tick that counts has a cycle of its own.
use Rattle.std.proofs.Common.{◌≡◌, ℕ, zero, suc, ◌+◌, ◌*◌, ◌<◌, ◌≤◌, Bool, true, false, refl, sym, ap, ◌∙◌, arith, lit<, eqb-true, inl, inr}
use Rattle.std.specs.Prelude.{nat_eq, ◌&&◌, ◌⊎◌, if◌then◌else◌}
use Rattle.std.proofs.lemmas.Bool.{cases_lt, ne_eqb}
use Rattle.std.proofs.lemmas.Nat.{mod_below}
use Rattle.dvg_cells_core.specs.Cells.{add, bit, both, either, eq, mux, none}
use Rattle.dvg_cells_cpu.proofs.Bounds.{both_in, either_in, mux_in}

-- the ticks that count since the NMI rose, and before that since a reset, or since the self-test switch was closed, up to a period
abbrev pub since : (periods beat : ℕ) → ℕ
since periods beat = if nat_eq periods 12 then beat else 512 * periods + beat

since_most : (p b : ℕ) → since p b ≤ 512 * p + b
since_most p b = by (nat_eq p 12)
  where
    by : (t : Bool) → (if t then b else 512 * p + b) ≤ 512 * p + b
    by true = omega arith
    by false = omega arith

since_less : (p b : ℕ) → p < 12 → since p b ≡ 512 * p + b
since_less p b less = rw (ne_eqb p 12 (λ e. absurd (omega arith))) refl

since_full : (p b : ℕ) → p ≡ 12 → since p b ≡ b
since_full p b e = rw e refl

-- what holds between two clocks: the periods fit; as many ticks counted as cycles came, but for a period; and an NMI that
-- the processor hasn't seen comes late
pub record Timed (answers worked beat periods was calm : ℕ) : Type 0 where
  pub worked_in : worked < 2
  pub beat_in : beat < 512
  pub periods_in : periods ≤ 12
  pub late : since periods beat + worked ≤ calm + answers + 513
  pub unseen : periods ≡ 12 → was ≡ 0 → 5200 ≤ suc calm

either_most : (a b : ℕ) → a < 2 → b < 2 → either a b ≤ a + b
either_most zero zero p q = omega arith
either_most zero (suc zero) p q = omega arith
either_most (suc zero) b p q = omega arith
either_most (suc (suc n)) b p q = absurd (omega arith)
either_most zero (suc (suc n)) p q = absurd (omega arith)

both_most : (a : ℕ) → a < 2 → both a 1 ≤ a
both_most zero p = omega arith
both_most (suc zero) p = omega arith
both_most (suc (suc n)) p = absurd (omega arith)

not_last : (p : ℕ) → p ≤ 12 → nat_eq p 12 ≡ false → p < 12
not_last p most f = by (cases_lt p 12)
  where
    by : (p < 12) ⊎ (12 ≤ p) → p < 12
    by (inl less) = less
    by (inr more) = let e : p ≡ 12 = omega arith in let never = ap (λ n. nat_eq n 12) (sym e) ∙ f in absurd (cc)

-- a clock adds no more ticks that count, and cycles that none of them has, than cycles
module _ (access beat periods : ℕ) (access_in : access < 2) (beat_in : beat < 512) (periods_in : periods ≤ 12) where
  abbrev Grows : (taken worked : ℕ) → Type 0
  Grows taken worked =
      since (mux (both (both taken worked) (eq beat 511)) (mux (eq periods 12) 1 (add 4 periods 1)) periods)
      (mux (both taken worked) (add 9 beat 1) beat) + either access (both worked (none taken)) ≤ since periods beat + worked + access

  abbrev Counted : (full last : Bool) → Type 0
  Counted full last =
      since (mux (both 1 (bit full)) (mux (bit last) 1 (add 4 periods 1)) periods) (add 9 beat 1) + either access 0
      ≤ since periods beat + 1 + access

  counted : (full last : Bool) → nat_eq beat 511 ≡ full → nat_eq periods 12 ≡ last → Counted full last
  counted true true e f =
      let b : beat ≡ 511 = eqb-true beat 511 e in let p : periods ≡ 12 = eqb-true periods 12 f in
      let was = since_full periods beat p in
      let now = since_most 1 (add 9 beat 1) in
      let bump = either_most access 0 access_in (omega arith) in omega arith
  counted true false e f =
      let b : beat ≡ 511 = eqb-true beat 511 e in
      let less : periods < 12 = not_last periods periods_in f in
      let was = since_less periods beat less in
      let now = since_most (add 4 periods 1) (add 9 beat 1) in
      let bump = either_most access 0 access_in (omega arith) in omega arith
  counted false true e f =
      let p : periods ≡ 12 = eqb-true periods 12 f in
      let was = since_full periods beat p in let now = since_full periods (add 9 beat 1) p in
      let wrap : add 9 beat 1 ≤ beat + 1 = omega arith in
      let bump = either_most access 0 access_in (omega arith) in omega arith
  counted false false e f =
      let less : periods < 12 = not_last periods periods_in f in
      let was = since_less periods beat less in let now = since_less periods (add 9 beat 1) less in
      let wrap : add 9 beat 1 ≤ beat + 1 = omega arith in
      let bump = either_most access 0 access_in (omega arith) in omega arith

  pub grows : (taken worked : ℕ) → taken < 2 → worked < 2 → Grows taken worked
  grows zero worked t w =
      let bump = either_most access (both worked 1) access_in (both_in worked 1) in
      let one = both_most worked w in omega arith
  grows (suc zero) zero t w = let bump = either_most access 0 access_in (omega arith) in omega arith
  grows (suc zero) (suc zero) t w = counted (nat_eq beat 511) (nat_eq periods 12) refl refl
  grows (suc (suc n)) worked t w = absurd (omega arith)
  grows (suc zero) (suc (suc n)) t w = absurd (omega arith)

module _ (answers worked beat periods was calm : ℕ) where
  abbrev After : (resets access taken bit7 : ℕ) → Type 0
  After resets access taken bit7 =
      Timed access (either access (both worked (none taken))) (mux resets 0 (mux (both taken worked) (add 9 beat 1) beat))
      (mux (either resets bit7) 0 (mux (both (both taken worked) (eq beat 511)) (mux (eq periods 12) 1 (add 4 periods 1)) periods))
      (mux resets (eq periods 12) (mux answers (eq periods 12) was))
      (if nat_eq answers 1 && (nat_eq (eq periods 12) 1 && nat_eq was 0) then 0
      else if nat_eq answers 1 then suc calm else calm)

  module _ (timed : Timed answers worked beat periods was calm) (answers_in : answers < 2) (was_in : was < 2) where
    abbrev later : ℕ
    later = if nat_eq answers 1 && (nat_eq (eq periods 12) 1 && nat_eq was 0) then 0 else if nat_eq answers 1 then suc calm else calm

    -- an NMI rises, or the cycles go on
    not_calm : (a : ℕ) (last unheard : Bool) → a < 2 → nat_eq periods 12 ≡ last → nat_eq was 0 ≡ unheard
        → ((a ≡ 1) × (periods ≡ 12) × (was ≡ 0))
        ⊎ (calm + a ≤ (if nat_eq a 1 && (nat_eq (bit last) 1 && unheard) then 0 else if nat_eq a 1 then suc calm else calm))
    not_calm zero last unheard less e f = inr (omega arith)
    not_calm (suc zero) true true less e f = inl (refl, eqb-true periods 12 e, eqb-true was 0 f)
    not_calm (suc zero) true false less e f = inr (omega arith)
    not_calm (suc zero) false unheard less e f = inr (omega arith)
    not_calm (suc (suc n)) last unheard less e f = absurd (omega arith)

    rises_or : ((answers ≡ 1) × (periods ≡ 12) × (was ≡ 0)) ⊎ (calm + answers ≤ later)
    rises_or = not_calm answers (nat_eq periods 12) (nat_eq was 0) answers_in refl refl

    module _ (access taken : ℕ) (access_in : access < 2) (taken_in : taken < 2) (one_of : answers ≡ 1 → access ≡ 0) where
      abbrev worked' : ℕ
      worked' = either access (both worked (none taken))

      abbrev beat' : ℕ
      beat' = mux (both taken worked) (add 9 beat 1) beat

      abbrev periods' : ℕ
      periods' = mux (both (both taken worked) (eq beat 511)) (mux (eq periods 12) 1 (add 4 periods 1)) periods

      beat_less : beat' < 512
      beat_less = mux_in (both taken worked) (add 9 beat 1) beat 512 (mod_below (beat + 1) 512 (lit< tt)) timed.beat_in

      -- where nothing clears the periods
      on_time : since periods' beat' + worked' ≤ later + access + 513
      on_time = by rises_or
        where
          more : since periods' beat' + worked' ≤ since periods beat + worked + access
          more = grows access beat periods access_in timed.beat_in timed.periods_in taken worked taken_in timed.worked_in

          by : ((answers ≡ 1) × (periods ≡ 12) × (was ≡ 0)) ⊎ (calm + answers ≤ later)
              → since periods' beat' + worked' ≤ later + access + 513
          by (inl rise) =
              let m = more in let full = since_full periods beat rise.1 in let b = timed.beat_in in let w = timed.worked_in in omega arith
          by (inr most) = let m = more in let was = timed.late in omega arith

      cleared : (b : ℕ) → b < 512 → since 0 b + worked' ≤ later + access + 513
      cleared b less = let w = either_in access (both worked (none taken)) in omega arith

      -- the NMI is in the twelfth period
      counts_in : both taken worked < 2
      counts_in = both_in taken worked

      stays_or : (counts : ℕ) (full last : Bool) → counts < 2 → nat_eq beat 511 ≡ full → nat_eq periods 12 ≡ last
          → (mux (both counts (bit full)) (mux (bit last) 1 (add 4 periods 1)) periods ≡ periods)
          ⊎ ((periods ≡ 12) × (mux (both counts (bit full)) (mux (bit last) 1 (add 4 periods 1)) periods ≡ 1))
          ⊎ ((periods < 12) × (counts ≡ 1) × (beat ≡ 511) × (mux (both counts (bit full)) (mux (bit last) 1 (add 4 periods 1)) periods ≡ periods + 1))
      stays_or zero full last less e f = inl refl
      stays_or (suc zero) false last less e f = inl refl
      stays_or (suc zero) true true less e f = inr (inl (eqb-true periods 12 f, refl))
      stays_or (suc zero) true false less e f =
          let few = not_last periods timed.periods_in f in
          let same : add 4 periods 1 ≡ periods + 1 = omega arith in inr (inr (few, refl, eqb-true beat 511 e, same))
      stays_or (suc (suc n)) full last less e f = absurd (omega arith)

      abbrev Goes : Type 0
      Goes = (periods' ≡ periods) ⊎ ((periods ≡ 12) × (periods' ≡ 1))
          ⊎ ((periods < 12) × (both taken worked ≡ 1) × (beat ≡ 511) × (periods' ≡ periods + 1))

      goes : Goes
      goes = stays_or (both taken worked) (nat_eq beat 511) (nat_eq periods 12) counts_in refl refl

      periods_most : periods' ≤ 12
      periods_most = by goes
        where
          by : Goes → periods' ≤ 12
          by (inl e) = let p = timed.periods_in in omega arith
          by (inr (inl e)) = let n = e.1 in omega arith
          by (inr (inr e)) = let n = e.3 in let p = e.0 in omega arith

      -- one that the processor hasn't seen comes late
      worked_one : (t w : ℕ) → t < 2 → w < 2 → both t w ≡ 1 → w ≡ 1
      worked_one zero w p q e = absurd (omega arith)
      worked_one (suc zero) zero p q e = absurd (omega arith)
      worked_one (suc zero) (suc zero) p q e = refl
      worked_one (suc zero) (suc (suc n)) p q e = absurd (omega arith)
      worked_one (suc (suc n)) w p q e = absurd (omega arith)

      was_kept : (a : ℕ) → a < 2 → periods ≡ 12 → mux a (eq periods 12) was ≡ 0 → (a ≡ 0) × (was ≡ 0)
      was_kept zero less e f = (refl, f)
      was_kept (suc zero) less e f = let one : ◌≡◌ {A = ℕ} 1 0 = sym (ap (λ p. eq p 12) e) ∙ f in absurd (omega arith)
      was_kept (suc (suc n)) less e f = absurd (omega arith)

      late_still : periods' ≡ 12 → mux answers (eq periods 12) was ≡ 0 → 5200 ≤ suc later
      late_still full low = by goes rises_or
        where
          by : Goes → ((answers ≡ 1) × (periods ≡ 12) × (was ≡ 0)) ⊎ (calm + answers ≤ later) → 5200 ≤ suc later
          by (inl e) (inl rise) =
              let still = was_kept answers answers_in rise.1 low in let a = rise.0 in let b = still.0 in absurd (omega arith)
          by (inl e) (inr most) =
              let p : periods ≡ 12 = sym e ∙ full in let still = was_kept answers answers_in p low in
              let late = timed.unseen p still.1 in omega arith
          by (inr (inl e)) most = let n = e.1 in absurd (omega arith)
          by (inr (inr e)) (inl rise) = let p = e.0 in let q = rise.1 in absurd (omega arith)
          by (inr (inr e)) (inr most) =
              let w = worked_one taken worked taken_in timed.worked_in e.1 in let p = e.0 in let q = e.3 in let b = e.2 in
              let was_late = timed.late in let counted = since_less periods beat p in omega arith

      abbrev Cleared : (gone : Bool) → Type 0
      Cleared gone = Timed access worked' beat' (mux (if gone then 0 else 1) 0 periods') (mux answers (eq periods 12) was) later

      not_reset : (bit7_none : Bool) → Cleared bit7_none
      not_reset true = record {
        worked_in = either_in access (both worked (none taken));
        beat_in = beat_less;
        periods_in = periods_most;
        late = on_time;
        unseen = late_still;
      }
      not_reset false = record {
        worked_in = either_in access (both worked (none taken));
        beat_in = beat_less;
        periods_in = omega arith;
        late = cleared beat' beat_less;
        unseen = λ e. absurd (omega arith);
      }

      -- a clock on
      pub timed_on : (resets bit7 : ℕ) → resets < 2 → After resets access taken bit7
      timed_on zero bit7 less = not_reset (nat_eq bit7 0)
      timed_on (suc zero) bit7 less = record {
        worked_in = either_in access (both worked (none taken));
        beat_in = lit< tt;
        periods_in = omega arith;
        late = cleared 0 (lit< tt);
        unseen = λ e. absurd (omega arith);
      }
      timed_on (suc (suc n)) bit7 less = absurd (omega arith)
