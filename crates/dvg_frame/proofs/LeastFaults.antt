-- What stands at a place is decided, and so is the least fault there.
use Rattle.std.proofs.Common.{◌≡◌, ℕ, zero, suc, ◌+◌, ◌<◌, ◌≤◌, ◌⊎◌, inl, inr, ⊎_elim, List, length, Option, Some, None, refl, subst, arith}
use Rattle.std.proofs.lemmas.Bool.{cases_lt, cases_eq}
use Rattle.std.proofs.lemmas.Option.{slice_get_cases}
use Rattle.dvg_code.specs.Words.{IsWord}
use Rattle.dvg_mem.specs.Memory.{IsRom, first_word, rom_word}
use Rattle.dvg_mem.proofs.Roms.{rom_there, word_fits}
use Rattle.dvg_frame.specs.declared.op.OpKind.{OpKind}
use Rattle.dvg_frame.specs.declared.place.Place.{Place}
use Rattle.dvg_frame.specs.declared.place.Place.TheVariants.{InFrame, InRom}
use Rattle.dvg_frame.specs.declared.fault.FrameFault.{FrameFault}
use Rattle.dvg_frame.specs.declared.fault.FrameFault.TheVariants.{RunsOff, OutOfRom, TooDeep, NoCaller}
use Rattle.dvg_frame.specs.declared.checking.pair.TheConstants.{DEEPEST}
use Rattle.dvg_mem.specs.declared.TheConstants.{ROM_END}
use Rattle.dvg_frame.specs.declared.checking.pair.Pair.{Pair}
use Rattle.dvg_frame.specs.declared.checking.way.Way.{Way}
use Rattle.dvg_frame.specs.declared.checking.way.Way.TheVariants.{Move, Jump, Call, Return, Halt}
use Rattle.dvg_frame.specs.Faults.{rank}
use Rattle.dvg_frame.specs.own.Ways.{IsPlaceOf, EndsWithin, StandsSo, LeadsOn, Outside, LeadsOutside, IsCall, IsReturn, HasFaultAt, IsLeast}
use Rattle.dvg_frame.specs.own.Sweeps.{BadPair, FinePair}
use Rattle.dvg_frame.proofs.FaultsAtPlaces.{stands_there, least_there, fine_there, cut_there}
use Rattle.dvg_frame.proofs.Words.{stands_halt, stands_call, stands_return, stands_jump, stands_short, stands_long}

-- a claim is decided
abbrev pub Decided : Type 0 → Type 0
Decided P = P ⊎ ¬ P

both : {P Q : Type 0} → Decided P → Decided Q → Decided (P × Q)
both one other =
    ⊎_elim (λ p. ⊎_elim (λ q. inl (p, q)) (λ not_q. inr (λ pq. not_q pq.1)) other) (λ not_p. inr (λ pq. not_p pq.0)) one

either : {P Q : Type 0} → Decided P → Decided Q → Decided (P ⊎ Q)
either one other =
    ⊎_elim (λ p. inl (inl p)) (λ not_p. ⊎_elim (λ q. inl (inr q)) (λ not_q. inr (⊎_elim not_p not_q)) other) one

-- the least number of which a claim holds, or it holds of none below n
pub least_below : (P : ℕ → Type 0) (n : ℕ) → ((j : ℕ) → j < n → Decided (P j))
    → ((j : ℕ) × P j × ((k : ℕ) → k < j → ¬ P k)) ⊎ ((k : ℕ) → k < n → ¬ P k)
least_below P zero decided = inr (λ k low. absurd (omega arith))
least_below P (suc n) decided =
    ⊎_elim (λ found. inl found)
    (λ none. ⊎_elim (λ here. inl (n, here, none))
    (λ not_here. inr (λ k low.
    ⊎_elim (none k) (λ high. let same : n ≡ k = omega arith in subst (λ m. ¬ P m) same not_here) (cases_lt k n)))
    (decided n (omega arith)))
    (least_below P n (λ j low. decided j (omega arith)))

-- what a way does is decided
goes_on : (seen : Way) → Decided (LeadsOn seen)
goes_on (Move after words) = inl tt
goes_on (Jump to) = inr (λ never. never)
goes_on (Call to after) = inl tt
goes_on Return = inr (λ never. never)
goes_on Halt = inr (λ never. never)

is_call : (seen : Way) → Decided (IsCall seen)
is_call (Move after words) = inr (λ never. never)
is_call (Jump to) = inr (λ never. never)
is_call (Call to after) = inl tt
is_call Return = inr (λ never. never)
is_call Halt = inr (λ never. never)

is_return : (seen : Way) → Decided (IsReturn seen)
is_return (Move after words) = inr (λ never. never)
is_return (Jump to) = inr (λ never. never)
is_return (Call to after) = inr (λ never. never)
is_return Return = inl tt
is_return Halt = inr (λ never. never)

no_word : (word : Option ℕ) → Decided (word ≡ None)
no_word None = inl refl
no_word (Some w) = inr (λ is. cc)

is_outside : (R : List ℕ) (p : Place) → Decided (Outside R p)
is_outside R (InFrame i) = inr (λ never. never)
is_outside R (InRom a) = no_word (rom_word R a)

leads_outside : (R : List ℕ) (seen : Way) → Decided (LeadsOutside R seen)
leads_outside R (Move after words) = is_outside R after
leads_outside R (Jump to) = is_outside R to
leads_outside R (Call to after) = either (is_outside R to) (is_outside R after)
leads_outside R Return = inr (λ never. never)
leads_outside R Halt = inr (λ never. never)

-- the last of this many operations goes on
record RunsOn (count : ℕ) (p : Place) (seen : Way) : Type 0 where
  number : ℕ
  place : p ≡ InFrame number
  last : number + 1 ≡ count
  goes : LeadsOn seen

runs_on : (count : ℕ) (p : Place) (seen : Way) → Decided (RunsOn count p seen)
runs_on count (InFrame i) seen =
    ⊎_elim (λ is. inl (record { number = i; place = refl; last = is.0; goes = is.1 }))
    (λ is_not. inr (λ it.
    let place : InFrame i ≡ InFrame it.number = it.place in
    let same : i ≡ it.number = cc in
    let last = it.last in
    is_not (omega arith, it.goes)))
    (both (cases_eq (i + 1) count) (goes_on seen))
runs_on count (InRom a) seen = inr (λ it. let place : InRom a ≡ InFrame it.number = it.place in cc)

-- a fault that holds, and none of a lesser rank does
abbrev HasLeast : (FrameFault → Type 0) → Type 0
HasLeast Holds = (fault : FrameFault) × IsLeast Holds fault

module _ (F : List OpKind) (R : List ℕ) where
  -- this fault holds at a pair, where this is the way on
  abbrev Has : Pair → Way → FrameFault → Type 0
  Has = HasFaultAt R (length F)

  abbrev IsTooDeep : Pair → Way → Type 0
  IsTooDeep pair seen = IsCall seen × (pair.depth ≡ DEEPEST)

  abbrev HasNoCaller : Pair → Way → Type 0
  HasNoCaller pair seen = IsReturn seen × (pair.depth ≡ 0)

  -- the causes of the faults of a rank below n don't hold
  record NoneBelow (n : ℕ) (pair : Pair) (seen : Way) : Type 0 where
    runs : 5 < n → ¬ RunsOn (length F) pair.place seen
    leaves : 6 < n → ¬ LeadsOutside R seen
    deep : 7 < n → ¬ IsTooDeep pair seen
    bare : 8 < n → ¬ HasNoCaller pair seen

  -- so only the others hold
  greater : (n : ℕ) (pair : Pair) (seen : Way) → NoneBelow n pair seen → (fault : FrameFault) → Has pair seen fault
      → n ≤ rank fault
  greater n pair seen none (RunsOff i) has =
      let here : RunsOn (length F) pair.place seen = record { number = i; place = has.0; last = has.1; goes = has.2 } in
      ⊎_elim (λ low. absurd (none.runs low here)) (λ high. high) (cases_lt 5 n)
  greater n pair seen none (OutOfRom p) has =
      ⊎_elim (λ low. absurd (none.leaves low has.1)) (λ high. high) (cases_lt 6 n)
  greater n pair seen none (TooDeep p) has =
      ⊎_elim (λ low. absurd (none.deep low (has.1, has.2))) (λ high. high) (cases_lt 7 n)
  greater n pair seen none (NoCaller p) has =
      ⊎_elim (λ low. absurd (none.bare low (has.1, has.2))) (λ high. high) (cases_lt 8 n)
  greater n pair seen none _ has = absurd has

  rank_low : (fault : FrameFault) → rank fault ≤ 8
  rank_low (RunsOff i) = omega arith
  rank_low (OutOfRom p) = omega arith
  rank_low (TooDeep p) = omega arith
  rank_low _ = omega arith

  -- the least fault by the way, or that there is none
  module _ (pair : Pair) (seen : Way) where
    none_5 : NoneBelow 5 pair seen
    none_5 = record {
      runs = λ low. absurd (omega arith);
      leaves = λ low. absurd (omega arith);
      deep = λ low. absurd (omega arith);
      bare = λ low. absurd (omega arith);
    }

    none_6 : ¬ RunsOn (length F) pair.place seen → NoneBelow 6 pair seen
    none_6 runs = record {
      runs = λ low. runs;
      leaves = λ low. absurd (omega arith);
      deep = λ low. absurd (omega arith);
      bare = λ low. absurd (omega arith);
    }

    none_7 : NoneBelow 6 pair seen → ¬ LeadsOutside R seen → NoneBelow 7 pair seen
    none_7 none leaves = record {
      runs = λ low. none.runs (omega arith);
      leaves = λ low. leaves;
      deep = λ low. absurd (omega arith);
      bare = λ low. absurd (omega arith);
    }

    none_8 : NoneBelow 7 pair seen → ¬ IsTooDeep pair seen → NoneBelow 8 pair seen
    none_8 none deep = record {
      runs = λ low. none.runs (omega arith);
      leaves = λ low. none.leaves (omega arith);
      deep = λ low. deep;
      bare = λ low. absurd (omega arith);
    }

    none_9 : NoneBelow 8 pair seen → ¬ HasNoCaller pair seen → NoneBelow 9 pair seen
    none_9 none bare = record {
      runs = λ low. none.runs (omega arith);
      leaves = λ low. none.leaves (omega arith);
      deep = λ low. none.deep (omega arith);
      bare = λ low. bare;
    }

    never : NoneBelow 9 pair seen → (fault : FrameFault) → ¬ Has pair seen fault
    never none fault has =
        let high = greater 9 pair seen none fault has in
        let low = rank_low fault in
        omega arith

    judge : HasLeast (Has pair seen) ⊎ ((fault : FrameFault) → ¬ Has pair seen fault)
    judge =
        ⊎_elim
        (λ it.
        inl (RunsOff it.number, record { holds = (it.place, it.last, it.goes); least = greater 5 pair seen none_5 }))
        (λ runs.
        let six = none_6 runs in
        ⊎_elim (λ it. inl (OutOfRom pair.place, record { holds = (refl, it); least = greater 6 pair seen six }))
        (λ leaves.
        let seven = none_7 six leaves in
        ⊎_elim
        (λ it. inl (TooDeep pair.place, record { holds = (refl, it.0, it.1); least = greater 7 pair seen seven }))
        (λ deep.
        let eight = none_8 seven deep in
        ⊎_elim
        (λ it. inl (NoCaller pair.place, record { holds = (refl, it.0, it.1); least = greater 8 pair seen eight }))
        (λ bare. inr (never (none_9 eight bare)))
        (both (is_return seen) (cases_eq pair.depth 0)))
        (both (is_call seen) (cases_eq pair.depth DEEPEST)))
        (leads_outside R seen))
        (runs_on (length F) pair.place seen)

  -- something stands at a place, and leads on in some way
  abbrev pub HasWay : Place → Type 0
  HasWay p = (seen : Way) × StandsSo F R p seen

  module _ (image : IsRom R) where
    -- what stands at a word of the ROM, by its opcode
    word_way : (a word : ℕ) → rom_word R a ≡ Some word → IsWord word → first_word R ≤ a → a < ROM_END
        → EndsWithin R (InRom a) ⊎ HasWay (InRom a)
    word_way a word there fits low high =
        ⊎_elim
        (λ first.
        ⊎_elim (λ inside. inr (_, stands_long F R a word there image low inside first))
        (λ end. inl (word, there, first, omega arith))
        (cases_lt (a + 1) ROM_END))
        (λ b. ⊎_elim (λ halt. inr (_, stands_halt F R a word there b halt))
        (λ c. ⊎_elim (λ call. inr (_, stands_call F R a word there c call))
        (λ d. ⊎_elim (λ return. inr (_, stands_return F R a word there d return))
        (λ e. ⊎_elim (λ jump. inr (_, stands_jump F R a word there e jump))
        (λ f. inr (_, stands_short F R a word there f fits))
        (cases_lt word 0xF000))
        (cases_lt word 0xE000))
        (cases_lt word 0xD000))
        (cases_lt word 0xC000))
        (cases_lt word 0xB000)

    way_there : (p : Place) → IsPlaceOf F R p → EndsWithin R p ⊎ HasWay p
    way_there (InFrame i) inside =
        let below = inside.0 in
        ⊎_elim (λ it. inr (_, stands_there F R (InFrame i) i i it.0 it.0 _ refl refl it.2 refl refl))
        (λ past. let far = past.0 in absurd (omega arith))
        (slice_get_cases F i).1
    way_there (InRom a) inside =
        word_way a _ (rom_there R a inside.0 inside.1) (word_fits R a image inside.0 inside.1) inside.0 inside.1

    -- a pair has a least fault, or it has none, and then something stands there
    pub look : (pair : Pair) → IsPlaceOf F R pair.place
        → HasLeast (BadPair F R pair) ⊎ (FinePair F R pair × HasWay pair.place)
    look pair inside =
        ⊎_elim (λ ends. inl (OutOfRom pair.place, cut_there F R pair ends))
        (λ so.
        ⊎_elim (λ found. inl (found.0, least_there F R pair (length F) so.0 found.0 refl so.1 found.1))
        (λ none. inr (fine_there F R pair (length F) so.0 refl so.1 none, so))
        (judge pair so.0))
        (way_there pair.place inside)
