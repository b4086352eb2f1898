-- Which runs draw a half, by a test.
use Rattle.std.proofs.Common.{◌≡◌, ◌⊎◌, inl, inr, ℕ, ◌+◌, ◌-◌, ◌≤◌, Bool, true, false, ◌||◌, ◌==◌, List, [], ◌∷◌, ◌++◌, Option, Some, None, refl, sym, ap, ◌∙◌, arith, true≢false}
use Rattle.std.specs.Prelude.{nat_le}
use Rattle.std.specs.Int.{is_in_range}
use Rattle.std.specs.Cmp.Derive.{both_true}
use Rattle.std.proofs.lemmas.Bool.{and_parts, eqb-true, false_from_ne_true, le-leb, leb-true, or_cases}
use Rattle.dvg_mem.specs.declared.half.Half.{Half}
use Rattle.dvg_mem.specs.declared.half.Half.TheVariants.{H0, H1}
use Rattle.dvg_mem.specs.Areas.{IsInHalf}
use Rattle.dvg_log.specs.Log.{Log, IsBeingDrawn, open_run}
use Rattle.dvg_world.specs.declared.judge.Drawing.{Drawing}
use Rattle.dvg_world.specs.declared.judge.Drawing.TheVariants.{Nothing, Begun, Within}
use Rattle.dvg_world.specs.Judging.{FitsRun, IsRunIn, begins_in_half, draws_half, jumps_to_half}

abbrev Run : Type 0
Run = Option (List (ℕ × ℕ))

in_range : (least most n : ℕ) → least ≤ n → n ≤ most → is_in_range least most n ≡ true
in_range least most n low high = both_true (le-leb least n low) (le-leb n most high)

from_range : (least most n : ℕ) → is_in_range least most n ≡ true → (least ≤ n) × (n ≤ most)
from_range least most n is =
    let both = and_parts (nat_le least n) (nat_le n most) is in
    (leb-true least n both.0, leb-true n most both.1)

or_first : (a b : Bool) → a ≡ true → (a || b) ≡ true
or_first a b e = rw e refl

or_second : (a b : Bool) → b ≡ true → (a || b) ≡ true
or_second true b e = refl
or_second false b e = e

-- a jump to an address in a half passes the test
jump_passes : (half : Half) (target : ℕ) → IsInHalf half target → jumps_to_half 0 (0xE000 + target) ≡ true
jump_passes H0 target is =
    or_first (is_in_range 0xE001 0xE1FF (0xE000 + target)) (is_in_range 0xE201 0xE3FF (0xE000 + target))
    (in_range 0xE001 0xE1FF (0xE000 + target) (omega (arith, is.0)) (omega (arith, is.1)))
jump_passes H1 target is =
    or_second (is_in_range 0xE001 0xE1FF (0xE000 + target)) (is_in_range 0xE201 0xE3FF (0xE000 + target))
    (in_range 0xE201 0xE3FF (0xE000 + target) (omega (arith, is.0)) (omega (arith, is.1)))

begins_passes : (later : List (ℕ × ℕ)) (half : Half) (target : ℕ) → IsInHalf half target
    → begins_in_half (later ++ (0, 0xE000 + target) ∷ []) ≡ true
begins_passes [] half target is = jump_passes half target is
begins_passes (newest ∷ []) half target is = jump_passes half target is
begins_passes (newest ∷ fetch ∷ later) half target is = begins_passes (fetch ∷ later) half target is

pub half_passes : (run : Run) (half : Half) → IsRunIn run half → draws_half run ≡ true
half_passes run half within =
    ap draws_half within.fetches ∙ begins_passes within.later half within.target within.in_half

-- what passes the test is one
first_in : (half : Half) (address word : ℕ) → address ≡ 0 → 0xE000 ≤ word → IsInHalf half (word - 0xE000)
    → IsRunIn (Some ((address, word) ∷ [])) half
first_in half address word zero jump in_half =
    let is : word ≡ 0xE000 + (word - 0xE000) = omega arith in
    record {
      later = [];
      target = word - 0xE000;
      fetches = ap (λ a. Some ((a, word) ∷ [])) zero ∙ ap (λ w. Some ((0, w) ∷ [])) is;
      in_half = in_half;
    }

first_draws : (address word : ℕ) → jumps_to_half address word ≡ true → (half : Half) × IsRunIn (Some ((address, word) ∷ [])) half
first_draws address word passes =
    let both = and_parts (address == 0) (is_in_range 0xE001 0xE1FF word || is_in_range 0xE201 0xE3FF word) passes in
    let zero = eqb-true address 0 both.0 in
    by_half zero (or_cases (is_in_range 0xE001 0xE1FF word) (is_in_range 0xE201 0xE3FF word) both.1)
  where
    by_half : address ≡ 0 → (is_in_range 0xE001 0xE1FF word ≡ true) ⊎ (is_in_range 0xE201 0xE3FF word ≡ true)
        → (half : Half) × IsRunIn (Some ((address, word) ∷ [])) half
    by_half zero (inl low) =
        let range = from_range 0xE001 0xE1FF word low in
        (H0, first_in H0 address word zero (omega (arith, range.0)) (omega (arith, range.0), omega (arith, range.1)))
    by_half zero (inr high) =
        let range = from_range 0xE201 0xE3FF word high in
        (H1, first_in H1 address word zero (omega (arith, range.0)) (omega (arith, range.0), omega (arith, range.1)))

fetch_more : (newest : ℕ × ℕ) (fetches : List (ℕ × ℕ)) → ((half : Half) × IsRunIn (Some fetches) half)
    → (half : Half) × IsRunIn (Some (newest ∷ fetches)) half
fetch_more newest fetches (half, within) = (
  half,
  record {
    later = newest ∷ within.later;
    target = within.target;
    fetches = ap (λ l. Some (newest ∷ l)) (let e = within.fetches in cc);
    in_half = within.in_half;
  },
)

begins_draws : (fetches : List (ℕ × ℕ)) → begins_in_half fetches ≡ true → (half : Half) × IsRunIn (Some fetches) half
begins_draws [] passes = absurd (true≢false (sym passes))
begins_draws (first ∷ []) passes = first_draws first.0 first.1 passes
begins_draws (newest ∷ fetch ∷ fetches) passes = fetch_more newest (fetch ∷ fetches) (begins_draws (fetch ∷ fetches) passes)

pub passes_half : (run : Run) → draws_half run ≡ true → (half : Half) × IsRunIn run half
passes_half None passes = absurd (true≢false (sym passes))
passes_half (Some fetches) passes = begins_draws fetches passes

-- what isn't within a half fails it
pub not_within : (drawing : Drawing) → ((half : Half) → drawing ≡ Within half → ⊥) → (run : Run) → FitsRun drawing run
    → draws_half run ≡ false
not_within Nothing not run draws =
    false_from_ne_true (draws_half run) (λ passes. let one = passes_half run passes in draws.1 one.0 one.1)
not_within Begun not run draws = ap draws_half draws
not_within (Within half) not run draws = absurd (not half refl)

pub as_drawn : (log : Log) (half : Half) → IsBeingDrawn log half → IsRunIn (open_run log) half
as_drawn log half drawn =
    record { later = drawn.later; target = drawn.target; fetches = drawn.fetches; in_half = drawn.in_half }
