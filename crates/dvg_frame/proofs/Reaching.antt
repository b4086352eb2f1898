-- A list of all reached pairs, and the first one with a fault among them.
use Rattle.std.proofs.Common.{◌≡◌, ℕ, zero, suc, ◌+◌, ◌<◌, ◌≤◌, ◌⊎◌, inl, inr, ⊎_elim, List, [], ◌∷◌, ◌++◌, length, get_or, set, replicate, Option, Some, None, refl, arith, Bool, true, false}
use Rattle.std.specs.Prelude.{slice_get, IfSome}
use Rattle.std.proofs.lemmas.Bool.{cases_lt, cases_Bool}
use Rattle.std.proofs.lemmas.List.Sums.{count_by-le-length}
use Rattle.std.proofs.lemmas.Option.{slice_get_cases}
use Rattle.dvg_mem.specs.Memory.{IsRom}
use Rattle.dvg_frame.specs.declared.op.OpKind.{OpKind}
use Rattle.dvg_frame.specs.declared.place.Place.{Place}
use Rattle.dvg_frame.specs.declared.place.Place.TheVariants.{InFrame, InRom}
use Rattle.dvg_frame.specs.declared.fault.FrameFault.{FrameFault}
use Rattle.dvg_frame.specs.declared.checking.pair.TheConstants.{DEEPEST, PLACES, PAIRS}
use Rattle.dvg_frame.specs.declared.checking.pair.Pair.{Pair}
use Rattle.dvg_frame.specs.declared.checking.way.Way.{Way}
use Rattle.dvg_frame.specs.declared.checking.way.Way.TheVariants.{Move, Jump, Call, Return, Halt}
use Rattle.dvg_frame.specs.declared.checking.sweep.Found.{Found}
use Rattle.dvg_frame.specs.Steps.{IsWellFormed}
use Rattle.dvg_frame.specs.own.Growth.{Grows, AreMarked}
use Rattle.dvg_frame.specs.own.Pairs.{IsPlace, IsPair, pair_of, first_pair, place_index, index}
use Rattle.dvg_frame.specs.own.Ways.{IsLeast, StandsSo}
use Rattle.dvg_frame.specs.own.Sweeps.{BadPair, FinePair, StaysIn, Sweeps, WayLeadsTo}
use Rattle.dvg_frame.proofs.Marks.{same_grows, held_grows, push_grows, both_grow, none_marked, is_held, push_marked}
use Rattle.dvg_frame.proofs.Swept.{few_ops, pair_in, reached_pair, stays, begins_sweep, is_reached, fine_step, bad_step}
use Rattle.dvg_frame.proofs.LeastFaults.{look}

place_low : (p : Place) → IsPlace p → place_index p < PLACES
place_low (InFrame i) inside = omega arith
place_low (InRom a) inside = omega arith

index_low : (pair : Pair) → IsPair pair → index pair < PAIRS
index_low pair valid = let low = place_low pair.place valid.place in let depth = valid.depth in omega arith

-- pairs, each once, and their marks
record Listed : Type 0 where
  marks : List Bool
  pairs : List Pair
  marked : AreMarked marks pairs

-- pairs that a list grew to, by those of which New holds
record Added (old : Listed) (New : Pair → Type 0) : Type 0 where
  new : Listed
  grows : Grows old.pairs new.pairs New

nothing : Listed
nothing = record { marks = replicate PAIRS false; pairs = []; marked = none_marked _ PAIRS refl refl }

-- no more pairs are listed than there are
few_listed : (listed : Listed) → length listed.pairs ≤ PAIRS
few_listed listed =
    let counted = listed.marked.counted in
    let size = listed.marked.listed.size in
    let few = count_by-le-length (λ mark. mark) listed.marks in
    omega arith

add : (old : Listed) (pair : Pair) → IsPair pair → Added old (λ new. new ≡ pair)
add old pair valid =
    let low = index_low pair valid in
    ⊎_elim
    (λ held. record {
      new = old;
      grows = held_grows old.pairs pair
          (is_held old.marks old.pairs old.marked pair valid (index pair) refl low held);
    })
    (λ free. record {
      new = record {
        marks = set old.marks (index pair) true;
        pairs = old.pairs ++ pair ∷ [];
        marked = push_marked old.marks old.pairs old.marked pair valid (index pair) refl low free _ refl;
      };
      grows = push_grows old.pairs old.pairs _ pair refl refl;
    })
    (cases_Bool (get_or old.marks (index pair) false))

-- what a way leads to from a depth
spread : (old : Listed) (seen : Way) (d : ℕ) → d ≤ DEEPEST → StaysIn seen d → Added old (WayLeadsTo seen d)
spread old (Move after words) d low stays = add old (pair_of after d) (record { place = stays; depth = low })
spread old (Jump to) d low stays = add old (pair_of to d) (record { place = stays; depth = low })
spread old (Call to after) d low stays =
    let less = stays.2 in
    let first = add old (pair_of to (d + 1)) (record { place = stays.0; depth = omega arith }) in
    let next = add first.new (pair_of after d) (record { place = stays.1; depth = low }) in
    record { new = next.new; grows = both_grow old.pairs first.new.pairs next.new.pairs _ _ first.grows next.grows }
spread old Return d low stays = record { new = old; grows = same_grows old.pairs }
spread old Halt d low stays = record { new = old; grows = same_grows old.pairs }

-- the one of two that comes first
first_of : (best : Option Found) (found : Found)
    → (first : Found) × ((first ≡ found) ⊎ (best ≡ Some first)) × (index first.pair ≤ index found.pair)
    × IfSome best (λ old. index first.pair ≤ index old.pair)
first_of None found = (found, inl refl, omega arith, tt)
first_of (Some old) found =
    ⊎_elim (λ less. (old, inr refl, omega arith, omega arith)) (λ no_less. (found, inl refl, omega arith, no_less))
    (cases_lt (index old.pair) (index found.pair))

module _ (F : List OpKind) (R : List ℕ) (image : IsRom R) (begins : IsWellFormed F) where
  -- a sweep that looked at each pair of its list
  pub record Finished : Type 0 where
    pub items : List Pair
    pub best : Option Found
    pub done : ℕ
    pub sweeps : Sweeps F R items best done
    pub all : length items ≤ done

  module _ (few : length F ≤ 511) where
    -- the next pair has a fault, or it has none
    bad_next : (items : List Pair) (best : Option Found) (done : ℕ) → Sweeps F R items best done → (pair : Pair)
        → slice_get items done ≡ Some pair → (fault : FrameFault) → IsLeast (BadPair F R pair) fault
        → (first : Found) × Sweeps F R items (Some first) (done + 1)
    bad_next items best done sweeps pair is fault least =
        let (first, one, new, old) = first_of best (record { pair = pair; fault = fault }) in
        let found = Some first in
        let step = bad_step F R few begins items best done sweeps pair is fault first items found least in
        (first, step one new old refl refl)

    fine_next : (listed : Listed) (best : Option Found) (done : ℕ) → Sweeps F R listed.pairs best done → (pair : Pair)
        → slice_get listed.pairs done ≡ Some pair → FinePair F R pair → (seen : Way) → StandsSo F R pair.place seen
        → (new : Listed) × Sweeps F R new.pairs best (done + 1)
    fine_next listed best done sweeps pair is fine seen so =
        let items = listed.pairs in
        let valid = reached_pair F R few begins pair (is_reached F R few begins items best done sweeps pair is) in
        let added = spread listed seen pair.depth valid.depth (stays F R few begins pair seen valid fine so) in
        let later = added.new.pairs in
        let step = fine_step F R few begins items best done sweeps pair is seen later later best fine so in
        (added.new, step added.grows refl refl)

    sweep : (left done : ℕ) (listed : Listed) (best : Option Found) → Sweeps F R listed.pairs best done
        → PAIRS ≤ done + left → Finished
    sweep zero done listed best sweeps room =
        let few_pairs = few_listed listed in
        record { items = listed.pairs; best = best; done = done; sweeps = sweeps; all = omega arith }
    sweep (suc left) done listed best sweeps room =
        ⊎_elim
        (λ it.
        let reached = is_reached F R few begins listed.pairs best done sweeps it.0 it.2 in
        ⊎_elim
        (λ bad.
        let next = bad_next listed.pairs best done sweeps it.0 it.2 bad.0 bad.1 in
        sweep left (done + 1) listed (Some next.0) next.1 (omega arith))
        (λ fine.
        let next = fine_next listed best done sweeps it.0 it.2 fine.0 fine.1.0 fine.1.1 in
        sweep left (done + 1) next.0 best next.1 (omega arith))
        (look F R image it.0 (pair_in F R few begins it.0 reached)))
        (λ past. record { items = listed.pairs; best = best; done = done; sweeps = sweeps; all = past.0 })
        (slice_get_cases listed.pairs done).1

  pub swept : Finished
  unfolding nothing
  swept =
      let few = few_ops F begins in
      let first = add nothing first_pair (record { place = omega arith; depth = omega arith }) in
      let sweeps = begins_sweep F R few begins [] first.new.pairs first_pair refl refl first.grows in
      sweep few PAIRS 0 first.new None sweeps (omega arith)
