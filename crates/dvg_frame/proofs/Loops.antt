-- This many steps at one depth come to a place twice, and then come to no end.
use Rattle.std.proofs.Common.{◌≡◌, ℕ, suc, ◌+◌, ◌-◌, ◌<◌, ◌⊎◌, inl, inr, ⊎_elim, List, [], ◌∷◌, length, refl, sym, ap, ◌∙◌, subst, arith, true, false}
use Rattle.std.specs.Prelude.{◌||◌}
use Rattle.std.specs.List.{AllByRecursion, IsDistinct, list_any}
use Rattle.std.proofs.Math.Dec.{eqb}
use Rattle.std.proofs.lemmas.Bool.{eqb-true, cases_Bool, or_cases}
use Rattle.std.proofs.lemmas.Map.Keys.{IsDistinct-cons}
use Rattle.std.proofs.lemmas.Map.Steps.{length-le_from_distinct_below}
use Rattle.dvg_mem.specs.Memory.{IsRom, first_word}
use Rattle.dvg_mem.proofs.Roms.{words_from_first}
use Rattle.dvg_frame.specs.declared.op.OpKind.{OpKind}
use Rattle.dvg_frame.specs.declared.place.Place.{Place}
use Rattle.dvg_frame.specs.declared.place.Place.TheVariants.{InFrame, InRom}
use Rattle.dvg_frame.specs.Steps.{Reached, step, Closed}
use Rattle.dvg_frame.specs.own.Pairs.{pair_of}
use Rattle.dvg_frame.specs.own.Ways.{IsPlaceOf}
use Rattle.dvg_frame.specs.own.Tables.{places}
use Rattle.dvg_frame.specs.Loops.{Walks, none, more, HasLoop, ComesBack}
use Rattle.dvg_frame.proofs.Swept.{few_ops, pair_in}
use Rattle.dvg_frame.proofs.Walks.{walked, turns, turns_from}

none_equal : (x : ℕ) (ns : List ℕ) → list_any (eqb x) ns ≡ false → AllByRecursion (λ y. eqb x y ≡ false) ns
none_equal x [] is = tt
none_equal x (y ∷ ns) is =
    ⊎_elim
    (λ first. let both : (eqb x y || list_any (eqb x) ns) ≡ true = ap (λ b. b || list_any (eqb x) ns) first in absurd cc)
    (λ first. let rest : list_any (eqb x) ns ≡ false = sym (ap (λ b. b || list_any (eqb x) ns) first) ∙ is in (first, none_equal x ns rest))
    (cases_Bool (eqb x y))

one_distinct : (x : ℕ) → IsDistinct eqb (x ∷ [])
unfolding IsDistinct
one_distinct x = (tt, tt)

module _ (F : List OpKind) (R : List ℕ) (image : IsRom R) (closed : Closed F R) where
  place_in : (p : Place) (d : ℕ) → Reached F R p d → IsPlaceOf F R p
  place_in p d reached = let begins = closed.begins in pair_in F R (few_ops F begins) begins (pair_of p d) reached

  -- the places are numbered, each once
  abbrev numbered : Place → ℕ
  numbered (InFrame i) = i
  numbered (InRom a) = length F + (a - first_word R)

  numbered_low : (p : Place) → IsPlaceOf F R p → numbered p < places F R
  numbered_low (InFrame i) inside = let below = inside.0 in omega arith
  numbered_low (InRom a) inside = let words = words_from_first R image in let low = inside.0 in let high = inside.1 in omega arith

  numbered_once : (p q : Place) → IsPlaceOf F R p → IsPlaceOf F R q → numbered p ≡ numbered q → p ≡ q
  numbered_once (InFrame i) (InFrame j) a b same = ap InFrame same
  numbered_once (InFrame i) (InRom y) a b same = let below = a.0 in absurd (omega arith)
  numbered_once (InRom x) (InFrame j) a b same = let below = b.0 in absurd (omega arith)
  numbered_once (InRom x) (InRom y) a b same = let equal : x ≡ y = omega arith in ap InRom equal

  -- a place of this number is walked to
  record Visits (d : ℕ) (p : Place) (m : ℕ) : Type 0 where
    place : Place
    count : ℕ
    walk : Walks F R d p count place
    number : numbered place ≡ m

  -- a place is walked to that comes back to itself
  pub record Turns (d : ℕ) (p : Place) : Type 0 where
    pub place : Place
    pub before : ℕ
    pub count : ℕ
    pub walk : Walks F R d p before place
    pub turn : Walks F R d place (suc count) place

  -- the numbers of the places of a walk
  record Trail (d : ℕ) (p : Place) (n : ℕ) : Type 0 where
    numbers : List ℕ
    long : length numbers ≡ suc n
    each : (m : ℕ) → list_any (eqb m) numbers ≡ true → Visits d p m
    once : IsDistinct eqb numbers ⊎ Turns d p

  trail : (d : ℕ) {n : ℕ} {p q : Place} → Reached F R p d → Walks F R d p n q → Trail d p n
  trail d {p = p} reached none =
      record {
        numbers = numbered p ∷ [];
        long = refl;
        each = λ m held. ⊎_elim (λ is. record { place = p; count = 0; walk = none; number = sym (eqb-true m (numbered p) is) }) (λ never. let two : false ≡ true = never in absurd cc) (or_cases (eqb m (numbered p)) false held);
        once = inl (one_distinct (numbered p));
      }
  trail d {p = p} reached (more {q = next} leads walk) =
      let there = step reached (closed.fine p d reached) leads in
      let rest = trail d there walk in
      record {
        numbers = numbered p ∷ rest.numbers;
        long = ap suc rest.long;
        each = λ m held.
            ⊎_elim (λ is. record { place = p; count = 0; walk = none; number = sym (eqb-true m (numbered p) is) })
            (λ later. let it = rest.each m later in record { place = it.place; count = suc it.count; walk = more leads it.walk; number = it.number })
            (or_cases (eqb m (numbered p)) (list_any (eqb m) rest.numbers) held);
        once = ⊎_elim
            (λ again.
            let it = rest.each (numbered p) again in
            let same : it.place ≡ p = numbered_once it.place p (place_in it.place d (walked F R closed d it.count there it.walk)) (place_in p d reached) it.number in
            inr (record { place = p; before = 0; count = it.count; walk = none; turn = more leads (subst (λ x. Walks F R d next it.count x) same it.walk) }))
            (λ new. ⊎_elim
            (λ distinct. inl (IsDistinct-cons eqb (numbered p) rest.numbers (none_equal (numbered p) rest.numbers new) distinct))
            (λ it. inr (record { place = it.place; before = suc it.before; count = it.count; walk = more leads it.walk; turn = it.turn }))
            rest.once)
            (cases_Bool (list_any (eqb (numbered p)) rest.numbers));
      }

  -- a walk of more steps than there are places comes to a place twice
  pub comes_twice : (d : ℕ) (p q : Place) → Reached F R p d → Walks F R d p (1 + places F R) q → Turns d p
  comes_twice d p q reached walk =
      let it = trail d reached walk in
      ⊎_elim
      (λ distinct.
      let few = length-le_from_distinct_below it.numbers (places F R) distinct
      (λ m held. let seen = it.each m held in subst (λ k. k < places F R) seen.number (numbered_low seen.place (place_in seen.place d (walked F R closed d seen.count reached seen.walk)))) in
      let long = it.long in
      absurd (omega arith))
      (λ turns. turns)
      it.once

  -- so where some length is no walk's, no walk has more steps than there are places
  pub walks_few : (d k : ℕ) (p : Place) → Reached F R p d → ((q : Place) → ¬ Walks F R d p k q) → (q : Place) → ¬ Walks F R d p (1 + places F R) q
  walks_few d k p reached ends q walk =
      let it = comes_twice d p q reached walk in
      let long = turns_from F R d k it.turn it.walk in
      ends long.0 long.1

  -- a draft has a loop exactly where a reached pair comes back to itself
  pub loop_comes_back : HasLoop F R → ComesBack F R
  loop_comes_back loop =
      let it = comes_twice loop.depth loop.place loop.end loop.reached loop.walk in
      record { place = it.place; depth = loop.depth; count = it.count; reached = walked F R closed loop.depth it.before loop.reached it.walk; walk = it.turn }

  pub back_loops : ComesBack F R → HasLoop F R
  back_loops it =
      let long = turns F R it.depth it.count (1 + places F R) it.place it.walk in
      record { place = it.place; depth = it.depth; end = long.0; reached = it.reached; walk = long.1 }
