-- The pairs by their numbers.
use Rattle.std.proofs.Common.{◌≡◌, ◌∙◌, ℕ, ◌+◌, ◌-◌, ◌/◌, ◌<◌, ◌≤◌, List, [], length, get_or, map, ⊎_elim, sym, ap, subst, arith}
use Rattle.std.specs.Prelude.{All, Some, if◌then◌else◌, option_map, slice_get}
use Rattle.std.proofs.lemmas.Option.{get_or_from_slice_get, slice_get-get_or, slice_get-map}
use Rattle.std.proofs.lemmas.List.Elements.{All-get_or}
use Rattle.std.proofs.lemmas.List.{length-map}
use Rattle.std.proofs.lemmas.Bool.{cases_lt, lt-ltb, le-ltb}
use Rattle.dvg_frame.specs.declared.draft.TheConstants.{MAX_OPS}
use Rattle.dvg_frame.specs.declared.checking.pair.Pair.{Pair}
use Rattle.dvg_frame.specs.declared.checking.pair.TheConstants.{DEEPEST, ROM_FIRST, PLACES, PAIRS}
use Rattle.dvg_frame.specs.declared.place.Place.TheVariants.{InFrame, InRom}
use Rattle.dvg_frame.specs.own.Pairs.{IsPlace, IsPair, place_at, pair_at}

pub frame_at : (n : ℕ) → n < MAX_OPS → place_at n ≡ InFrame n
frame_at n low = ap (λ b. if b then InFrame n else InRom (ROM_FIRST + (n - MAX_OPS))) (lt-ltb n MAX_OPS low)

pub rom_at : (n : ℕ) → MAX_OPS ≤ n → place_at n ≡ InRom (ROM_FIRST + (n - MAX_OPS))
rom_at n high = ap (λ b. if b then InFrame n else InRom (ROM_FIRST + (n - MAX_OPS))) (le-ltb n MAX_OPS high)

-- each pair of a list of such pairs is one
pub listed_at : (numbers now : List ℕ) (view : List Pair) (i : ℕ) (pair : Pair) → All IsPair (map pair_at numbers) → map pair_at numbers ≡ view → now ≡ numbers → i < length view → pair ≡ pair_at (get_or now i 0) → IsPair pair
listed_at numbers now view i pair valid view_is now_is low is =
    let count : length (map pair_at numbers) ≡ length numbers = length-map numbers pair_at in
    let count_view = ap length view_is in
    let number : slice_get numbers i ≡ Some (get_or numbers i 0) = slice_get-get_or numbers i 0 (omega arith) in
    let here : slice_get (map pair_at numbers) i ≡ Some (pair_at (get_or numbers i 0)) = slice_get-map pair_at numbers i ∙ ap (option_map pair_at) number in
    let valid_here : IsPair (get_or (map pair_at numbers) i pair) = All-get_or IsPair (map pair_at numbers) i pair (omega arith) valid in
    let same : get_or (map pair_at numbers) i pair ≡ pair = get_or_from_slice_get (map pair_at numbers) i (pair_at (get_or numbers i 0)) pair here ∙ ap (λ l. pair_at (get_or l i 0)) (sym now_is) ∙ sym is in
    subst IsPair same valid_here

-- each place of a number below their count is one that a draft can have
place_is : (n : ℕ) → n < PLACES → IsPlace (place_at n)
place_is n few =
    ⊎_elim (λ low. subst IsPlace (sym (frame_at n low)) low) (λ high. subst IsPlace (sym (rom_at n high)) (omega arith, omega arith)) (cases_lt n MAX_OPS)

pub pair_is : (n : ℕ) → n < PAIRS → IsPair (pair_at n)
pair_is n few = record { place = place_is (n / (DEEPEST + 1)) (omega arith); depth = omega arith }
