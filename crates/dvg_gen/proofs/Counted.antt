-- Counters that follow the moves are those that the instructions count.
use Rattle.std.proofs.Common.{◌≡◌, ℕ, zero, suc, ◌+◌, ◌-◌, ◌*◌, ◌/◌, ◌%◌, ◌^◌, ◌<◌, ◌≤◌, Bool, true, false, ℤ, pos, negsuc}
use Rattle.std.proofs.Common.{◌*ℤ◌, neg_ℤ, List, [], ◌∷◌, ◌++◌, refl, sym, ap, ◌∙◌, arith, cond, ltb, leb, mul-le-mul_left}
use Rattle.std.specs.Prelude.{unsigned_abs}
use Rattle.std.proofs.Math.Pow.{pow_mono}
use Rattle.std.proofs.lemmas.Bool.{ltb-true, ltb-false, leb-true}
use Rattle.dvg_code.specs.Fields.{signed}
use Rattle.dvg_code.specs.Ranges.{InRange}
use Rattle.dvg_code.specs.declared.instr.Instr.{Instr}
use Rattle.dvg_code.specs.declared.instr.Instr.TheVariants.{Vctr, Labs, Halt, Jsrl, Rtsl, Jmpl, Svec}
use Rattle.dvg_gen.specs.declared.beam.Beam.{Beam}
use Rattle.dvg_gen.specs.declared.counters.Counters.{Counters}
use Rattle.dvg_gen.specs.declared.moving.Move.{Move}
use Rattle.dvg_gen.specs.Counting.{whole, rounded, counted, clocked, counters, ahead, whole_way, followed, followed_all}
use Rattle.dvg_gen.specs.Drawing.{unit, shifted}
use Rattle.dvg_gen.specs.Moving.{made, moves}
use Rattle.dvg_gen.specs.Position.{IsBeam}
use Rattle.dvg_gen.specs.Run.{Visit, next, beam_after, first, one, two}
use Rattle.dvg_gen.specs.Told.{Told, Newest, Leaves, new, starts, resets, meets_hole, takes}
use Rattle.dvg_gen.proofs.Inside.{Inside, run_inside, spelled_range}

-- the way ahead or back, in whole units
abbrev way_by : Bool → ℕ → ℤ
way_by ahead_of far = cond ahead_of (pos (whole far)) (signed 1 (whole (2097152 - far)))

-- a way of less than half the circle is the one ahead
way_ahead : (from to a : ℕ) → ahead from to ≡ a → a < 1048576 → whole_way from to ≡ pos (whole a)
way_ahead from to a is below = by (ltb (ahead from to) 1048576) refl
  where
    by : (b : Bool) → ltb (ahead from to) 1048576 ≡ b → way_by b (ahead from to) ≡ pos (whole a)
    by true e = ap (λ k. pos (whole k)) is
    by false e = let far = ltb-false (ahead from to) 1048576 e in absurd (omega arith)

-- and else the one back
way_back : (from to a : ℕ) → ahead from to ≡ a → 1048576 ≤ a → whole_way from to ≡ signed 1 (whole (2097152 - a))
way_back from to a is far = by (ltb (ahead from to) 1048576) refl
  where
    by : (b : Bool) → ltb (ahead from to) 1048576 ≡ b → way_by b (ahead from to) ≡ signed 1 (whole (2097152 - a))
    by true e = let below = ltb-true (ahead from to) 1048576 e in absurd (omega arith)
    by false e = ap (λ k. signed 1 (whole (2097152 - k))) is

-- a vector's way
ahead_pos : (x p : ℕ) → x < 2097152 → p < 1048576 → ahead x ((x + p) % 2097152) ≡ p
ahead_pos x p inside small = omega arith

ahead_neg : (x p : ℕ) → x < 2097152 → p < 1048576 → 0 < p
    → ahead x ((x + (2097152 - p % 2097152)) % 2097152) ≡ 2097152 - p
ahead_neg x p inside small some = omega arith

ahead_none : (x : ℕ) → x < 2097152 → ahead x ((x + (2097152 - 0 % 2097152)) % 2097152) ≡ 0
ahead_none x inside = omega arith

back_by : (x p : ℕ) → x < 2097152 → p < 1048576
    → whole_way x ((x + (2097152 - p % 2097152)) % 2097152) ≡ rounded (neg_ℤ (pos p))
back_by x zero inside small = way_ahead x _ 0 (ahead_none x inside) (omega arith)
back_by x (suc p) inside small =
    let far : 1048576 ≤ 2097152 - suc p = omega arith in
    let same : 2097152 - (2097152 - suc p) ≡ suc p = omega arith in
    way_back x _ (2097152 - suc p) (ahead_neg x (suc p) inside small (omega arith)) far
    ∙ ap (λ k. signed 1 (whole k)) same

way_is : (x : ℕ) (d : ℤ) (u : ℕ) → x < 2097152 → unsigned_abs d * u < 1048576
    → whole_way x (shifted x d u) ≡ rounded (d *ℤ pos u)
way_is x (pos m) u inside small = way_ahead x _ (m * u) (ahead_pos x (m * u) inside small) small
way_is x (negsuc m) u inside small = back_by x (suc m * u) inside small

-- a unit is 512 at most
unit_small : (scale : ℕ) → unit scale ≤ 512
unit_small scale = by (leb scale 9) refl
  where
    by : (b : Bool) → leb scale 9 ≡ b → cond b (2 ^ scale) 0 ≤ 512
    by true e = let power : 2 ^ scale ≤ 2 ^ 9 = pow_mono (leb-true scale 9 e) in omega arith
    by false e = omega arith

long_small : (d u : ℕ) → d ≤ 1023 → u ≤ 512 → d * u < 1048576
long_small d u p q =
    let one : d * u ≤ d * 512 = mul-le-mul_left d q in
    omega arith

short_small : (d u : ℕ) → d ≤ 3 → u ≤ 512 → d * (256 * u) < 1048576
short_small d u p q =
    let below : 256 * u ≤ 131072 = omega arith in
    let one : d * (256 * u) ≤ d * 131072 = mul-le-mul_left d below in
    omega arith

-- an instruction counts what its move leads to
pub counted_step : (old : Counters) (beam : Beam) (address : ℕ) (code : Instr)
    → IsBeam beam.x beam.y beam.scale → InRange code
    → clocked old beam.scale code ≡ followed_all old (made beam address code)
counted_step old beam address (Vctr scale dx dy z) b r =
    let u = unit ((beam.scale + scale) % 16) in
    let small = unit_small ((beam.scale + scale) % 16) in
    let along_x = way_is beam.x dx u b.x_inside (long_small (unsigned_abs dx) u r.1 small) in
    let along_y = way_is beam.y dy u b.y_inside (long_small (unsigned_abs dy) u r.2 small) in
    ap (λ d. record { x = counted old.x d; y = counted old.y (rounded (dy *ℤ pos u)) }) (sym along_x)
    ∙ ap (λ d. record { x = counted old.x (whole_way beam.x (shifted beam.x dx u)); y = counted old.y d }) (sym along_y)
counted_step old beam address (Labs x y scale) b r =
    let x_small = r.0 in
    let y_small = r.1 in
    let same_x : x ≡ 512 * x / 512 % 4096 = omega arith in
    let same_y : y ≡ 512 * y / 512 % 4096 = omega arith in
    ap (λ k. record { x = k; y = y }) same_x ∙ ap (λ k. record { x = 512 * x / 512 % 4096; y = k }) same_y
counted_step old beam address Halt b r = refl
counted_step old beam address (Jsrl to) b r = refl
counted_step old beam address Rtsl b r = refl
counted_step old beam address (Jmpl to) b r = refl
counted_step old beam address (Svec scale dx dy z) b r =
    let one = unit ((beam.scale + scale) % 16) in
    let u = 256 * one in
    let small = unit_small ((beam.scale + scale) % 16) in
    let along_x = way_is beam.x dx u b.x_inside (short_small (unsigned_abs dx) one r.2 small) in
    let along_y = way_is beam.y dy u b.y_inside (short_small (unsigned_abs dy) one r.3 small) in
    ap (λ d. record { x = counted old.x d; y = counted old.y (rounded (dy *ℤ pos u)) }) (sym along_x)
    ∙ ap (λ d. record { x = counted old.x (whole_way beam.x (shifted beam.x dx u)); y = counted old.y d }) (sym along_y)

-- the counters after two lists of moves
followed_all-append : (old : Counters) (xs ys : List Move)
    → followed_all old (xs ++ ys) ≡ followed_all (followed_all old xs) ys
followed_all-append old [] ys = refl
followed_all-append old (x ∷ xs) ys = followed_all-append (followed old x) xs ys

one_more : (beam : Beam) (old : Counters) (visit : Visit) (older : List Visit) → Inside (beam_after beam older)
    → InRange visit.code → counters beam old older ≡ followed_all old (moves beam older)
    → counters beam old (visit ∷ older) ≡ followed_all old (moves beam (visit ∷ older))
one_more beam old visit older inside range before =
    let now = beam_after beam older in
    ap (λ c. clocked c now.scale visit.code) before
    ∙ counted_step (followed_all old (moves beam older)) now visit.place visit.code inside range
    ∙ sym (followed_all-append old (moves beam older) (made now visit.place visit.code))

-- the same of a run
pub counted_run : (history : List Told) (run : Newest) (old : Counters) → Leaves history run
    → counters run.first old run.visits ≡ followed_all old (moves run.first run.visits)
counted_run history run old l = by l
  where
    by : {history : List Told} {run : Newest} → Leaves history run
        → counters run.first old run.visits ≡ followed_all old (moves run.first run.visits)
    by new = refl
    by (starts l) = refl
    by (resets l) = by l
    by (meets_hole l o) = by l
    by (takes l o (first f)) = by l
    by (takes {run = run} l o (one {code = code} s)) =
        let visit : Visit = record { place = next run.visits; code = code } in
        one_more run.first old visit run.visits (run_inside l).stands (spelled_range s) (by l)
    by (takes {run = run} l o (two {code = code} s)) =
        let visit : Visit = record { place = next run.visits; code = code } in
        one_more run.first old visit run.visits (run_inside l).stands (spelled_range s) (by l)
