-- A vector of the motion, clock by clock.
use Rattle.std.proofs.Common.{◌≡◌, ℕ, zero, suc, ◌+◌, ◌*◌, ◌%◌, ◌^◌, ◌<◌, ◌≤◌, Bool, true, false, pos}
use Rattle.std.proofs.Common.{◌*ℤ◌, neg_ℤ, List, [], ◌∷◌, refl, sym, ap, ◌∙◌, arith, cond, ltb, leb}
use Rattle.std.specs.Prelude.{nat_eq, nat_le, All, not}
use Rattle.std.proofs.lemmas.Bool.{agree_below_at, ltb-true, ltb-false, leb-true, eqb-true, ne_eqb, eq-eqb, lt-ltb, le-ltb}
use Rattle.std.proofs.lemmas.List.Elements.{All-head, All-tail}
use Rattle.std.proofs.Math.Dec.{eqb}
use Rattle.dvg_code.specs.Fields.{signed}
use Rattle.dvg_gen.specs.declared.counters.Counters.{Counters}
use Rattle.dvg_gen.specs.Counting.{whole, rounded, counted, stepped}
use Rattle.dvg_gen.specs.Drawing.{unit}
use Rattle.dvg_code.specs.declared.instr.Instr.TheVariants.{Vctr, Svec}
use Rattle.dvg_gen.proofs.Counted.{counted_step}
use Rattle.dvg_cells_core.specs.Cells.{mux, part, bit, add, sub, shl, both, some, none}
use Rattle.dvg_cells_motion.specs.Motion.{Motion, Pins, clock, going}
use Rattle.dvg_cells_motion.specs.Pulses.{pulse, pulses, led, IsQuiet, IsVector, after, ticks, time, within, counters_of, Fits, moved}
use Rattle.dvg_cells_motion.specs.Pulses.{DacsShow, GoesByPulses, MovesRight, Shows, visible, FollowsVctr, FollowsSvec, Places}
use Rattle.dvg_cells_motion.proofs.Ticks.{pulses_are}

-- a pulse is one bit
mux_small : (s a b : ℕ) → a < 2 → b < 2 → mux s a b < 2
mux_small zero a b p q = q
mux_small (suc s) a b p q = rw (ne_eqb (suc s) 0 (λ e. absurd (omega arith))) p

pulse_small : (rate count : ℕ) → pulse rate count < 2
pulse_small rate count =
    mux_small (part 0 1 count) _ _ (mux_small (part 1 1 count) _ _ (mux_small (part 2 1 count) _ _
    (mux_small (part 3 1 count) _ _ (mux_small (part 4 1 count) _ _ (mux_small (part 5 1 count) _ _
    (mux_small (part 6 1 count) _ _ (mux_small (part 7 1 count) _ _ (mux_small (part 8 1 count) _ _
    (mux_small (part 9 1 count) _ _ (omega arith) (omega arith)) (omega arith)) (omega arith)) (omega arith))
    (omega arith)) (omega arith)) (omega arith)) (omega arith)) (omega arith)) (omega arith)

-- where a counter is led in one tick
axis_by : (from sign q p : ℕ) → sign < 2 → p < 2
    → mux p (mux sign (sub 12 (led from sign q) 1) (add 12 (led from sign q) 1)) (led from sign q) ≡ led from sign (q + p)
axis_by from zero q zero s b = omega arith
axis_by from zero q (suc zero) s b = omega arith
axis_by from (suc zero) q zero s b = omega arith
axis_by from (suc zero) q (suc zero) s b = omega arith
axis_by from sign q (suc (suc p)) s b = absurd (omega arith)
axis_by from (suc (suc sign)) q p s b = absurd (omega arith)

axis : (from rate sign n : ℕ) → sign < 2
    → mux (pulse rate n) (mux sign (sub 12 (led from sign (pulses rate n)) 1) (add 12 (led from sign (pulses rate n)) 1)) (led from sign (pulses rate n))
    ≡ led from sign (pulses rate (suc n))
axis from rate sign n s = axis_by from sign (pulses rate n) (pulse rate n) s (pulse_small rate n)

-- ticks as far as they are a vector's
pub within_less : (last n : ℕ) → n < last → within last n ≡ n
within_less last n less = rw (lt-ltb n last less) refl

pub within_over : (last n : ℕ) → last ≤ n → within last n ≡ last
within_over last n over = rw (le-ltb n last over) refl

within_none : (last : ℕ) → within last 0 ≡ 0
within_none zero = refl
within_none (suc last) = within_less (suc last) 0 (omega arith)

within_on : (n last : ℕ) → n < last → within last (suc n) ≡ suc n
within_on n last less = by (ltb (suc n) last) refl
  where
    by : (b : Bool) → ltb (suc n) last ≡ b → cond b (suc n) last ≡ suc n
    by true e = refl
    by false e = let over = ltb-false (suc n) last e in omega arith

module _ (from_x from_y last rate_x rate_y back_x back_y bright : ℕ) where
  abbrev at_ : (x y count : ℕ) → Motion
  at_ x y count = record {
    x = x;
    y = y;
    count = count;
    last = last;
    rate_x = rate_x;
    rate_y = rate_y;
    back_x = back_x;
    back_y = back_y;
    bright = bright;
  }

  -- the motion at a count
  abbrev pub state : ℕ → Motion
  state n = at_ (led from_x back_x (pulses rate_x n)) (led from_y back_y (pulses rate_y n)) n

  alike : {x x' y y' c c' : ℕ} → x ≡ x' → y ≡ y' → c ≡ c' → at_ x y c ≡ at_ x' y' c'
  alike {x} {x'} {y} {y'} {c} {c'} p q r = ap (λ k. at_ k y c) p ∙ ap (λ k. at_ x' k c) q ∙ ap (λ k. at_ x' y' k) r

  -- a clock after the last tick, and one without a tick, change nothing; a tick counts
  rests : (pins : Pins) → IsQuiet pins → clock (state last) pins ≡ state last
  rests pins quiet = rw quiet.places (rw quiet.vec (rw (eq-eqb last last refl) refl))

  idles : (n : ℕ) (pins : Pins) → IsQuiet pins → n < last → pins.tick ≡ 0 → clock (state n) pins ≡ state n
  idles n pins quiet less none = rw quiet.places (rw quiet.vec (rw none (rw (ne_eqb n last (λ e. absurd (omega arith))) refl)))

  counts : (n : ℕ) (pins : Pins) → IsQuiet pins → back_x < 2 → back_y < 2 → n < last → last ≤ 1024 → pins.tick ≡ 1
      → clock (state n) pins ≡ state (suc n)
  counts n pins quiet bx by less small one =
      let on : add 11 n 1 ≡ suc n = omega arith in
      rw quiet.places (rw quiet.vec (rw one (rw (ne_eqb n last (λ e. absurd (omega arith)))
      (alike (axis from_x rate_x back_x n bx) (axis from_y rate_y back_y n by) on))))

  -- how far it has counted after these clocks
  abbrev far : List Pins → ℕ
  far clocks = within last (ticks clocks)

  pub on_by : (b : Bool) (n : ℕ) (pins : Pins) → IsQuiet pins → back_x < 2 → back_y < 2 → last ≤ 1024 → ltb n last ≡ b
      → clock (state (cond b n last)) pins ≡ state (within last (n + pins.tick))
  on_by false n pins quiet bx by small e =
      let over = ltb-false n last e in
      rests pins quiet ∙ ap state (sym (within_over last (n + pins.tick) (omega arith)))
  on_by true n pins quiet bx by small e =
      let less : n < last = ltb-true n last e in
      ticked pins.tick refl less
    where
      ticked : (t : ℕ) → pins.tick ≡ t → n < last → clock (state n) pins ≡ state (within last (n + t))
      ticked zero e less =
          let same : n ≡ n + 0 = omega arith in
          idles n pins quiet less e ∙ ap state (sym (within_less last n less) ∙ ap (within last) same)
      ticked (suc zero) e less =
          let same : suc n ≡ n + 1 = omega arith in
          counts n pins quiet bx by less small e
          ∙ ap state (sym (within_on n last less) ∙ ap (within last) same)
      ticked (suc (suc t)) e less = let bit = quiet.tick in absurd (omega arith)

  runs : (clocks : List Pins) → All IsQuiet clocks → back_x < 2 → back_y < 2 → last ≤ 1024
      → after (state 0) clocks ≡ state (far clocks)
  runs [] quiet bx by small = ap state (sym (within_none last))
  runs (pins ∷ clocks) quiet bx by small =
      ap (λ m. clock m pins) (runs clocks (All-tail IsQuiet pins clocks quiet) bx by small)
      ∙ on_by (ltb (ticks clocks) last) (ticks clocks) pins (All-head IsQuiet pins clocks quiet) bx by small refl

pub last_is : (sum : ℕ) → sum < 16 → shl 11 2 sum ≡ time sum
last_is sum h = eqb-true _ _ (agree_below_at (λ s. nat_eq (shl 11 2 s) (time s)) (λ s. true) 16 sum refl h)

pub time_small : (sum : ℕ) → sum < 16 → time sum ≤ 1024
time_small sum h = leb-true _ _ (agree_below_at (λ s. nat_le (time s) 1024) (λ s. true) 16 sum refl h)

started : (from sign : ℕ) → from < 4096 → from ≡ led from sign 0
started from zero h = omega arith
started from (suc sign) h = omega arith

pub begins : (motion : Motion) (pins : Pins) → Fits motion → IsVector pins
    → clock motion pins ≡ state motion.x motion.y (time pins.sum) pins.dx pins.dy pins.dx_sign pins.dy_sign pins.z 0
begins motion pins fits tells = rw tells.places (rw tells.vec
    (ap (λ k. record { x = k; y = motion.y; count = 0; last = shl 11 2 pins.sum; rate_x = pins.dx; rate_y = pins.dy; back_x = pins.dx_sign; back_y = pins.dy_sign; bright = pins.z }) (started motion.x pins.dx_sign fits.0)
    ∙ ap (λ k. record { x = led motion.x pins.dx_sign 0; y = k; count = 0; last = shl 11 2 pins.sum; rate_x = pins.dx; rate_y = pins.dy; back_x = pins.dx_sign; back_y = pins.dy_sign; bright = pins.z }) (started motion.y pins.dy_sign fits.1)
    ∙ ap (λ k. record { x = led motion.x pins.dx_sign 0; y = led motion.y pins.dy_sign 0; count = 0; last = k; rate_x = pins.dx; rate_y = pins.dy; back_x = pins.dx_sign; back_y = pins.dy_sign; bright = pins.z }) (last_is pins.sum tells.sum)))

going_is : (n last : ℕ) → bit (not (nat_eq (within last n) last)) ≡ bit (ltb n last)
going_is n last = by (ltb n last) refl
  where
    by : (b : Bool) → ltb n last ≡ b → bit (not (nat_eq (cond b n last) last)) ≡ bit b
    by true e = let less = ltb-true n last e in rw (ne_eqb n last (λ e. absurd (omega arith))) refl
    by false e = rw (eq-eqb last last refl) refl

-- the whole motion some clocks later
later : (motion : Motion) (pins : Pins) (clocks : List Pins) → Fits motion → IsVector pins → All IsQuiet clocks
    → moved motion pins clocks ≡ state motion.x motion.y (time pins.sum) pins.dx pins.dy pins.dx_sign pins.dy_sign pins.z (within (time pins.sum) (ticks clocks))
later motion pins clocks fits tells quiet =
    ap (λ m. after m clocks) (begins motion pins fits tells)
    ∙ runs motion.x motion.y (time pins.sum) pins.dx pins.dy pins.dx_sign pins.dy_sign pins.z clocks quiet tells.dx_sign tells.dy_sign (time_small pins.sum tells.sum)

pub goes_by_pulses_law : GoesByPulses
goes_by_pulses_law motion pins clocks fits tells quiet =
    let is = later motion pins clocks fits tells quiet in
    (ap counters_of is, ap going is ∙ going_is (ticks clocks) (time pins.sum))

-- the pulses of a whole vector
pub all_pulses : (rate sum : ℕ) → rate < 1024 → pulses rate (time sum) ≡ whole (rate * unit sum)
all_pulses rate sum h = by (leb sum 9) refl
  where
    by : (b : Bool) → leb sum 9 ≡ b → pulses rate (2 * cond b (2 ^ sum) 0) ≡ whole (rate * cond b (2 ^ sum) 0)
    by true e = let few = leb-true sum 9 e in pulses_are rate sum h (omega arith)
    by false e = let none : 0 ≡ whole (rate * 0) = omega arith in none

-- where they lead is where the definition counts to
pub turned : (from w : ℕ) → from < 4096 → led from 1 w ≡ counted from (signed 1 w)
turned from zero h = omega arith
turned from (suc w) h = refl

back : (from p : ℕ) → from < 4096 → led from 1 (whole p) ≡ counted from (rounded (neg_ℤ (pos p)))
back from zero h = omega arith
back from (suc p) h = turned from (whole (suc p)) h

pub led_is : (from s rate u : ℕ) → from < 4096 → s < 2 → led from s (whole (rate * u)) ≡ counted from (rounded (signed s rate *ℤ pos u))
led_is from zero rate u h b = refl
led_is from (suc zero) zero u h b = omega arith
led_is from (suc zero) (suc rate) u h b = back from (suc rate * u) h
led_is from (suc (suc s)) rate u h b = absurd (omega arith)

-- the counters after a vector
over_at : (motion : Motion) (pins : Pins) (clocks : List Pins) → Fits motion → IsVector pins → All IsQuiet clocks → time pins.sum ≤ ticks clocks
    → counters_of (moved motion pins clocks) ≡ record {
      x = led motion.x pins.dx_sign (whole (pins.dx * unit pins.sum));
      y = led motion.y pins.dy_sign (whole (pins.dy * unit pins.sum));
    }
over_at motion pins clocks fits tells quiet over =
    (goes_by_pulses_law motion pins clocks fits tells quiet).0
    ∙ ap (λ n. record { x = led motion.x pins.dx_sign (pulses pins.dx n); y = led motion.y pins.dy_sign (pulses pins.dy n) }) (within_over (time pins.sum) (ticks clocks) over)
    ∙ ap (λ n. record { x = led motion.x pins.dx_sign n; y = led motion.y pins.dy_sign (pulses pins.dy (time pins.sum)) }) (all_pulses pins.dx pins.sum tells.dx)
    ∙ ap (λ n. record { x = led motion.x pins.dx_sign (whole (pins.dx * unit pins.sum)); y = led motion.y pins.dy_sign n }) (all_pulses pins.dy pins.sum tells.dy)

abbrev pub both_at : ℕ → ℕ → Counters
both_at x y = record { x = x; y = y }

pub stepped_at : (motion : Motion) (sx sy dx dy u : ℕ) → Fits motion → sx < 2 → sy < 2
    → both_at (led motion.x sx (whole (dx * u))) (led motion.y sy (whole (dy * u)))
    ≡ stepped (counters_of motion) (signed sx dx *ℤ pos u) (signed sy dy *ℤ pos u)
stepped_at motion sx sy dx dy u fits bx by =
    ap (λ k. both_at k (led motion.y sy (whole (dy * u)))) (led_is motion.x sx dx u fits.0 bx)
    ∙ ap (λ k. both_at (counted motion.x (rounded (signed sx dx *ℤ pos u))) k) (led_is motion.y sy dy u fits.1 by)

pub wide : (d e u : ℕ) → d ≡ 256 * e → whole (d * u) ≡ whole (e * (256 * u))
wide d e u is = ap (λ k. whole (k * u)) is ∙ ap whole (same e u)
  where
    same : (e u : ℕ) → 256 * e * u ≡ e * (256 * u)
    same e u = omega arith

pub moves_right_law : MovesRight
moves_right_law motion pins clocks fits tells quiet over =
    over_at motion pins clocks fits tells quiet over
    ∙ stepped_at motion pins.dx_sign pins.dy_sign pins.dx pins.dy (unit pins.sum) fits tells.dx_sign tells.dy_sign

pub vctr_law : FollowsVctr
vctr_law motion pins clocks fits tells quiet over beam address local z inside sum range =
    moves_right_law motion pins clocks fits tells quiet over
    ∙ ap (λ s. stepped (counters_of motion) (signed pins.dx_sign pins.dx *ℤ pos (unit s)) (signed pins.dy_sign pins.dy *ℤ pos (unit s))) sum
    ∙ counted_step (counters_of motion) beam address (Vctr local (signed pins.dx_sign pins.dx) (signed pins.dy_sign pins.dy) z) inside range

pub svec_law : FollowsSvec
svec_law motion pins clocks fits tells quiet over beam address local z dx dy inside sum sx sy range =
    over_at motion pins clocks fits tells quiet over
    ∙ ap (λ k. both_at (led motion.x pins.dx_sign k) (led motion.y pins.dy_sign (whole (pins.dy * unit pins.sum)))) (wide pins.dx dx (unit pins.sum) sx)
    ∙ ap (λ k. both_at (led motion.x pins.dx_sign (whole (dx * (256 * unit pins.sum)))) (led motion.y pins.dy_sign k)) (wide pins.dy dy (unit pins.sum) sy)
    ∙ stepped_at motion pins.dx_sign pins.dy_sign dx dy (256 * unit pins.sum) fits tells.dx_sign tells.dy_sign
    ∙ ap (λ s. stepped (counters_of motion) (signed pins.dx_sign dx *ℤ pos (256 * unit s)) (signed pins.dy_sign dy *ℤ pos (256 * unit s))) sum
    ∙ counted_step (counters_of motion) beam address (Svec local (signed pins.dx_sign dx) (signed pins.dy_sign dy) z) inside range

pub labs_law : Places
labs_law motion pins places = rw places refl

-- what is shown
seen_by : (b : Bool) (x y z : ℕ) → mux (both (both (both (bit b) (some z)) (none (part 10 1 x))) (none (part 10 1 y))) z 0 ≡ visible b x y z
seen_by false x y z = refl
seen_by true x y z = by (eqb (part 10 1 x) 0) (eqb (part 10 1 y) 0) z refl refl
  where
    by : (p q : Bool) (z : ℕ) → eqb (part 10 1 x) 0 ≡ p → eqb (part 10 1 y) 0 ≡ q
        → mux (both (both (both (bit true) (some z)) (none (part 10 1 x))) (none (part 10 1 y))) z 0 ≡ visible true x y z
    by true true zero e f = rw e (rw f refl)
    by true false zero e f = rw e (rw f refl)
    by false true zero e f = rw e refl
    by false false zero e f = rw e refl
    by true true (suc z) e f = rw e (rw f (rw (ne_eqb (suc z) 0 (λ e. absurd (omega arith))) refl))
    by true false (suc z) e f = rw e (rw f (rw (ne_eqb (suc z) 0 (λ e. absurd (omega arith))) refl))
    by false true (suc z) e f = rw e (rw (ne_eqb (suc z) 0 (λ e. absurd (omega arith))) refl)
    by false false (suc z) e f = rw e (rw (ne_eqb (suc z) 0 (λ e. absurd (omega arith))) refl)

low_ten : (x : ℕ) → part 0 10 x ≡ x % 1024
low_ten x = omega arith

pub dacs_law : DacsShow
dacs_law motion fits = (low_ten motion.x, low_ten motion.y)

both_dark : (a : ℕ) → both a 0 ≡ 0
both_dark zero = refl
both_dark (suc a) = rw (ne_eqb (suc a) 0 (λ e. absurd (omega arith))) refl

lit_by : (g z p q : ℕ) → both (both (both g (some z)) p) q ≡ some (mux (both (both (both g (some z)) p) q) z 0)
lit_by g zero p q =
    let dark : both (both (both g 0) p) q ≡ 0 = ap (λ n. both (both n p) q) (both_dark g) in
    dark ∙ sym (ap (λ n. some (mux n 0 0)) dark)
lit_by g (suc z) p q = by (both (both g (some (suc z))) p) q
  where
    by : (a q : ℕ) → both a q ≡ some (mux (both a q) (suc z) 0)
    by zero q = refl
    by (suc a) zero = rw (ne_eqb (suc a) 0 (λ e. absurd (omega arith))) refl
    by (suc a) (suc q) = rw (ne_eqb (suc a) 0 (λ e. absurd (omega arith))) (rw (ne_eqb (suc q) 0 (λ e. absurd (omega arith))) (rw (ne_eqb (suc z) 0 (λ e. absurd (omega arith))) refl))

pub shows_law : Shows
shows_law motion pins clocks fits tells quiet =
    let is = later motion pins clocks fits tells quiet in
    let now = moved motion pins clocks in
    let goes_on = (goes_by_pulses_law motion pins clocks fits tells quiet).1 in (
      low_ten now.x,
      low_ten now.y,
      ap (λ g. mux (both (both (both g (some now.bright)) (none (part 10 1 now.x))) (none (part 10 1 now.y))) now.bright 0) goes_on
          ∙ ap (λ z. mux (both (both (both (bit (ltb (ticks clocks) (time pins.sum))) (some z)) (none (part 10 1 now.x))) (none (part 10 1 now.y))) z 0) (ap (λ m. m.bright) is)
          ∙ seen_by (ltb (ticks clocks) (time pins.sum)) now.x now.y pins.z,
      lit_by (going now) now.bright (none (part 10 1 now.x)) (none (part 10 1 now.y)),
    )
