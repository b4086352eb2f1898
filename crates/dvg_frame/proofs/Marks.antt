-- A list that grows at its end, and the table of what it holds.
use Rattle.std.proofs.Common.{◌≡◌, ℕ, zero, suc, ◌+◌, ◌<◌, ◌≤◌, ◌⊎◌, inl, inr, ⊎_elim, List, [], ◌∷◌, ◌++◌, length, get_or, set, replicate, refl, sym, ap, ◌∙◌, subst, arith, append-nil, append_assoc, length-append, length-set, get_or-set_other, Bool, true, false, cond}
use Rattle.std.specs.List.{Contains, All, count_by}
use Rattle.std.proofs.lemmas.List.{length-replicate, get_or-replicate}
use Rattle.std.proofs.lemmas.List.Elements.{All-nil, All-push, Contains-append_left, Contains-push, Contains-push_cases}
use Rattle.std.proofs.lemmas.List.Sums.{sum_by-set, sum_by-cons, count_by-le-length}
use Rattle.std.proofs.lemmas.Bool.{cases_lt, cases_eq}
use Rattle.std.proofs.Math.ListN.{get_or-eq_default}
use Rattle.dvg_frame.specs.declared.checking.pair.TheConstants.{PAIRS}
use Rattle.dvg_frame.specs.declared.checking.pair.Pair.{Pair}
use Rattle.dvg_frame.specs.declared.place.Place.{Place}
use Rattle.dvg_frame.specs.declared.place.Place.TheVariants.{InFrame, InRom}
use Rattle.dvg_frame.specs.own.Growth.{Grows, AreListed, AreMarked}
use Rattle.dvg_frame.specs.own.Pairs.{IsPlace, IsPair, pair_of, place_index, index}

-- pairs that have one index are one
pub same_place : (p q : Place) → IsPlace p → IsPlace q → place_index p ≡ place_index q → p ≡ q
same_place (InFrame i) (InFrame j) a b same = ap InFrame same
same_place (InFrame i) (InRom y) a b same = absurd (omega arith)
same_place (InRom x) (InFrame j) a b same = absurd (omega arith)
same_place (InRom x) (InRom y) a b same = let equal : x ≡ y = omega arith in ap InRom equal

pub same_pair : (one other : Pair) → IsPair one → IsPair other → index one ≡ index other → one ≡ other
same_pair one other a b same =
    let one_depth = a.depth in
    let other_depth = b.depth in
    let places = same_place one.place other.place a.place b.place (omega arith) in
    let depths : one.depth ≡ other.depth = omega arith in
    ap (λ p. pair_of p one.depth) places ∙ ap (pair_of other.place) depths

pub at_most_one : (mark : Bool) → cond {A = ℕ} mark 1 0 ≤ 1
at_most_one true = omega arith
at_most_one false = omega arith

pub unset_counts : (mark : Bool) → mark ≡ false → cond {A = ℕ} mark 1 0 ≡ 0
unset_counts true unset = let never : true ≡ false = unset in cc
unset_counts false unset = refl

-- a mark that is not set leaves room
count_room : (marks : List Bool) (i : ℕ) → i < length marks → get_or marks i false ≡ false → count_by (λ mark. mark) marks < length marks
count_room [] i within unset = absurd (omega arith)
count_room (mark ∷ marks) zero within unset =
    let counted : count_by (λ m. m) (mark ∷ marks) ≡ cond mark 1 0 + count_by (λ m. m) marks = sum_by-cons (λ m. cond m 1 0) mark marks in
    let none = unset_counts mark unset in
    let rest = count_by-le-length (λ m. m) marks in
    omega arith
count_room (mark ∷ marks) (suc i) within unset =
    let counted : count_by (λ m. m) (mark ∷ marks) ≡ cond mark 1 0 + count_by (λ m. m) marks = sum_by-cons (λ m. cond m 1 0) mark marks in
    let one = at_most_one mark in
    let rest = count_room marks i (omega arith) unset in
    omega arith

pub contains_nil : (pair : Pair) → Contains {X = Pair} [] pair → ⊥
contains_nil pair (j, within, is) = omega arith

-- growth by nothing, by one pair, and by two
pub same_grows : (items : List Pair) → Grows items items (λ new. ⊥)
same_grows items = record { more = []; kept = sym (append-nil items); only = λ new held. inl held; all = λ new none. absurd none }

pub held_grows : (items : List Pair) (pair : Pair) → Contains items pair → Grows items items (λ new. new ≡ pair)
held_grows items pair held =
    record { more = []; kept = sym (append-nil items); only = λ new in_items. inl in_items; all = λ new is. subst (Contains items) (sym is) held }

pub push_grows : (items old new : List Pair) (pair : Pair) → items ≡ old → new ≡ items ++ pair ∷ [] → Grows old new (λ other. other ≡ pair)
push_grows items old new pair items_is new_is =
    let pushed : new ≡ old ++ pair ∷ [] = new_is ∙ ap (λ xs. xs ++ pair ∷ []) items_is in
    record {
      more = pair ∷ [];
      kept = pushed;
      only = λ other held. ⊎_elim (λ before. inl before) (λ is. inr (sym is)) (Contains-push_cases old pair other (subst (λ xs. Contains xs other) pushed held));
      all = λ other is. subst (λ xs. Contains xs other) (sym pushed) (subst (Contains (old ++ pair ∷ [])) (sym is) (Contains-push old pair));
    }

pub both_grow : (a b c : List Pair) (P Q : Pair → Type 0) → Grows a b P → Grows b c Q → Grows a c (λ new. P new ⊎ Q new)
both_grow a b c P Q first next =
    record {
      more = first.more ++ next.more;
      kept = next.kept ∙ ap (λ xs. xs ++ next.more) first.kept ∙ append_assoc a first.more next.more;
      only = λ new held. ⊎_elim (λ in_b. ⊎_elim (λ in_a. inl in_a) (λ p. inr (inl p)) (first.only new in_b)) (λ q. inr (inr q)) (next.only new held);
      all = λ new. ⊎_elim (λ p. subst (λ xs. Contains xs new) (sym next.kept) (Contains-append_left b next.more new (first.all new p))) (next.all new);
    }

-- no mark is set
pub none_marked : (marks : List Bool) (n : ℕ) → n ≡ PAIRS → marks ≡ replicate n false → AreMarked marks []
none_marked marks n count is =
    let size : length marks ≡ n = ap length is ∙ length-replicate n false in
    let unset : (k : ℕ) → get_or marks k false ≡ false =
    λ k. ⊎_elim (λ within. ap (λ xs. get_or xs k false) is ∙ get_or-replicate n k false false within) (λ past. get_or-eq_default marks false (omega arith)) (cases_lt k n) in
    record {
      listed = record {
        size = size ∙ count;
        held = λ pair valid is_set. let never : false ≡ true = sym (unset (index pair)) ∙ is_set in cc;
        valid = All-nil IsPair;
      };
      counted = omega arith;
    }

module _ (marks : List Bool) (items : List Pair) (marked : AreMarked marks items) (pair : Pair) (valid : IsPair pair) (i : ℕ) (i_is : i ≡ index pair) (low : i < PAIRS) where
  pub is_held : get_or marks i false ≡ true → Contains items pair
  is_held is_set = marked.listed.held pair valid (ap (λ k. get_or marks k false) (sym i_is) ∙ is_set)

  pub has_room : get_or marks i false ≡ false → length items < PAIRS
  has_room unset =
      let size = marked.listed.size in
      let counted = marked.counted in
      let room = count_room marks i (omega arith) unset in
      omega arith

  held_other : (new : List Pair) → new ≡ items ++ pair ∷ [] → (other : Pair) → IsPair other → get_or (set marks i true) (index other) false ≡ true → Contains new other
  held_other new new_is other other_valid is_set =
      subst (λ xs. Contains xs other) (sym new_is)
      (⊎_elim
      (λ same. subst (Contains (items ++ pair ∷ [])) (same_pair pair other valid other_valid (sym i_is ∙ sym same)) (Contains-push items pair))
      (λ differ. Contains-append_left items (pair ∷ []) other (marked.listed.held other other_valid (sym (get_or-set_other marks i (index other) true false differ) ∙ is_set)))
      (cases_eq (index other) i))

  pub push_marked : get_or marks i false ≡ false → (new : List Pair) → new ≡ items ++ pair ∷ [] → AreMarked (set marks i true) new
  push_marked unset new new_is =
      let size = marked.listed.size in
      let counted = marked.counted in
      let within : i < length marks = omega arith in
      let counts : count_by (λ mark. mark) (set marks i true) + cond (get_or marks i false) 1 0 ≡ count_by (λ mark. mark) marks + 1 = sum_by-set (λ mark. cond mark 1 0) marks i true false within in
      let none = unset_counts (get_or marks i false) unset in
      let longer : length new ≡ length items + 1 = ap length new_is ∙ length-append items (pair ∷ []) in
      record {
        listed = record {
          size = length-set marks i true ∙ size;
          held = held_other new new_is;
          valid = subst (All IsPair) (sym new_is) (All-push IsPair items pair marked.listed.valid valid);
        };
        counted = omega arith;
      }

-- with no item left, no mark is set
pub none_left : (marks : List Bool) (items rest : List Pair) → AreListed marks items → rest ≡ items → (0 < length items → false ≡ true) → AreMarked marks rest
none_left marks items rest listed same none =
    let empty : length items ≡ 0 = ⊎_elim (λ some. let never : false ≡ true = none some in absurd (cc)) (λ few. omega arith) (cases_lt 0 (length items)) in
    let size = ap length same in
    record { listed = subst (AreListed marks) (sym same) listed; counted = omega arith }
