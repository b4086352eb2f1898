-- A draft that runs straight to a HALT is accepted, and fetches its words up to there.
use Rattle.std.proofs.Common.{◌≡◌, ℕ, zero, suc, ◌+◌, ◌<◌, List, [], ◌∷◌, drop, length, length-drop, Some, refl, sym, ap, subst, add-one, arith}
use Rattle.std.specs.Prelude.{slice_get}
use Rattle.dvg_code.specs.declared.instr.Instr.{Instr}
use Rattle.dvg_code.specs.Acts.{Act, Moves, Halts}
use Rattle.dvg_frame.specs.declared.op.OpKind.{OpKind}
use Rattle.dvg_frame.specs.declared.op.OpKind.TheVariants.{Draw, Halt as Stop}
use Rattle.dvg_frame.specs.declared.place.Place.{Place}
use Rattle.dvg_frame.specs.declared.place.Place.TheVariants.{InFrame, InRom}
use Rattle.dvg_frame.specs.declared.fault.FrameFault.{FrameFault}
use Rattle.dvg_frame.specs.Faults.{Accepts}
use Rattle.dvg_frame.specs.Loops.{Walks, none, more, HasLoop}
use Rattle.dvg_frame.specs.Picture.{AtHalt, IsBound}
use Rattle.dvg_frame.specs.Steps.{op_act, Stands, in_frame, GoesPast, Names, Bad, last, target, second, past, deep, bare, Leads, on, jump, call, back, Reached, begin, step, Closed, IsWellFormed}
use Rattle.dvg_frame.specs.Layout.{size}
use Rattle.dvg_frame.specs.own.Straight.{RunsStraight, halts, draws}
use Rattle.dvg_frame.specs.own.Frames.{IsFrame}
use Rattle.dvg_frame.proofs.Bounded.{Drawn, drawn_moves, drawn_halts}
use Rattle.dvg_frame.proofs.Firsts.{closed_by}
use Rattle.dvg_frame.proofs.FaultsAtPlaces.{same_standing}

-- the first of the items from number i on
first_at : {A : Type 0} (xs : List A) (i : ℕ) (x : A) (rest : List A) → drop i xs ≡ x ∷ rest → slice_get xs i ≡ Some x
first_at [] zero x rest is = absurd (cc)
first_at [] (suc i) x rest is = absurd (cc)
first_at (y ∷ xs) zero x rest is = let same : y ≡ x = cc in ap Some same
first_at (y ∷ xs) (suc i) x rest is = first_at xs i x rest is

-- the items after it
rest_after : {A : Type 0} (xs : List A) (i : ℕ) (x : A) (rest : List A) → drop i xs ≡ x ∷ rest → drop (suc i) xs ≡ rest
rest_after [] zero x rest is = absurd (cc)
rest_after [] (suc i) x rest is = absurd (cc)
rest_after (y ∷ xs) zero x rest is = let same : xs ≡ rest = cc in same
rest_after (y ∷ xs) (suc i) x rest is = rest_after xs i x rest is

rest_at : {A : Type 0} (xs : List A) (i : ℕ) (x : A) (rest : List A) → drop i xs ≡ x ∷ rest → drop (i + 1) xs ≡ rest
rest_at xs i x rest is = rw add-one (rest_after xs i x rest is)

-- some operation is there
some_op : (ops : List OpKind) → RunsStraight ops → 0 < length ops
some_op _ halts = omega arith
some_op _ (draws rest) = omega arith

module _ (F : List OpKind) (R : List ℕ) where
  -- what stands where the operations from number i on begin with this one
  here : (i : ℕ) (op : OpKind) (ops : List OpKind) → drop i F ≡ op ∷ ops → Stands F R (InFrame i) (op_act op) (InFrame (i + 1))
  here i op ops is = in_frame (first_at F i op ops is) refl

  -- what is drawn by operations that run straight
  drawn_straight : (i : ℕ) (ops : List OpKind) → drop i F ≡ ops → RunsStraight ops → Drawn F R (InFrame i) AtHalt (size ops)
  drawn_straight i _ is halts = drawn_halts F R (here i Stop [] is)
  drawn_straight i _ is (draws {instr = instr} {ops = ops} rest) =
      drawn_moves F R AtHalt (size ops) (here i (Draw instr) ops is) (drawn_straight (i + 1) ops (rest_at F i (Draw instr) ops is) rest)

  -- the place of operation i, at depth 0, from which on the operations run straight
  record IsOnTheWay (i : ℕ) (p : Place) (d : ℕ) : Type 0 where
    place : p ≡ InFrame i
    depth : d ≡ 0
    runs : RunsStraight (drop i F)

  -- what stands there ends the run, or leads to the next such place
  data IsOn (i : ℕ) (act : Act Place) (after : Place) : Type 0 where
    ends : act ≡ Halts → IsOn i act after
    goes : (instr : Instr) → act ≡ Moves instr → after ≡ InFrame (i + 1) → RunsStraight (drop (i + 1) F) → IsOn i act after

  stands_straight : (i : ℕ) (ops : List OpKind) (act : Act Place) (after : Place) → drop i F ≡ ops → RunsStraight ops → Stands F R (InFrame i) act after → IsOn i act after
  stands_straight i _ act after is halts stands = ends (same_standing stands (here i Stop [] is)).0
  stands_straight i _ act after is (draws {instr = instr} {ops = ops} rest) stands =
      let same = same_standing stands (here i (Draw instr) ops is) in
      goes instr same.0 same.1 (subst RunsStraight (sym (rest_at F i (Draw instr) ops is)) rest)

  stands_so : {p after : Place} {act : Act Place} (i d : ℕ) → IsOnTheWay i p d → Stands F R p act after → IsOn i act after
  stands_so {p} {after} {act} i d way stands = stands_straight i (drop i F) act after refl way.runs (subst (λ x. Stands F R x act after) way.place stands)

  within : (i : ℕ) → RunsStraight (drop i F) → i < length F
  within i runs = let some = some_op (drop i F) runs in let count = length-drop i F in omega arith

  -- a step leads to the next place of the way
  next_on : (i : ℕ) {p q : Place} {d e : ℕ} → IsOnTheWay i p d → Leads F R p d q e → IsOnTheWay (i + 1) q e
  next_on i {d = d} way (on stands) =
      elim (stands_so i d way stands) [
        | ends is ↦ absurd (cc)
        | goes instr is there runs ↦ record { place = there; depth = way.depth; runs = runs }
      ]
  next_on i {d = d} way (jump stands) = elim (stands_so i d way stands) [ ends is ↦ absurd (cc) | goes instr is there runs ↦ absurd (cc) ]
  next_on i {d = d} way (call stands) = elim (stands_so i d way stands) [ ends is ↦ absurd (cc) | goes instr is there runs ↦ absurd (cc) ]
  next_on i {d = d} way (back stands) = elim (stands_so i d way stands) [ ends is ↦ absurd (cc) | goes instr is there runs ↦ absurd (cc) ]

  -- no fault holds there
  fine_there : (i : ℕ) {p : Place} {d : ℕ} {fault : FrameFault} → IsOnTheWay i p d → ¬ Bad F R p d fault
  fine_there i {d = d} way (last {i = j} {act = act} stands goes_past end) =
      elim (stands_so i d way stands) [
        | ends is ↦ subst GoesPast is goes_past
        | goes instr is there runs ↦ (
            let more = within (i + 1) runs in
            let same : j ≡ i = let place = way.place in cc in
            absurd (omega arith))
      ]
  fine_there i {d = d} way (target a stands names outside) =
      elim (stands_so i d way stands) [
        | ends is ↦ subst (λ act. Names act (InRom a)) is names
        | goes instr is there runs ↦ subst (λ act. Names act (InRom a)) is names
      ]
  fine_there i way (second there first outside) = let place = way.place in absurd (cc)
  fine_there i way (past stands goes_past outside) = let place = way.place in absurd (cc)
  fine_there i {d = d} way (deep stands is_deep) = elim (stands_so i d way stands) [ ends is ↦ absurd (cc) | goes instr is there runs ↦ absurd (cc) ]
  fine_there i {d = d} way (bare stands is_bare) = elim (stands_so i d way stands) [ ends is ↦ absurd (cc) | goes instr is there runs ↦ absurd (cc) ]

  -- as many steps lead on as there are operations, or fewer
  few_steps : (d i k : ℕ) {p q : Place} → IsOnTheWay i p d → Walks F R d p k q → i + k < length F
  few_steps d i _ way none = let inside = within i way.runs in omega arith
  few_steps d i _ way (more {n = k} leads walk) = let rest = few_steps d (i + 1) k (next_on i way leads) walk in omega arith

  module _ (begins : IsWellFormed F) (runs : RunsStraight F) where
    -- each reached pair is on the way
    on_the_way : {p : Place} {d : ℕ} → Reached F R p d → (i : ℕ) × IsOnTheWay i p d
    on_the_way begin = (0, record { place = refl; depth = refl; runs = runs })
    on_the_way (step reached fine leads) = let before = on_the_way reached in (before.0 + 1, next_on before.0 before.1 leads)

    closed : Closed F R
    closed = closed_by F R begins (λ p d reached. let at = on_the_way reached in λ fault. fine_there at.0 at.1)

    no_loop : ¬ HasLoop F R
    no_loop loop = let at = on_the_way loop.reached in let few = few_steps loop.depth at.0 _ at.1 loop.walk in omega arith

    bound : IsBound F R (size F + 1)
    bound =
        let it = drawn_straight 0 F refl runs (record { x = 0; y = 0; scale = 0 }) in
        (it.0, record { last = it.1; rest = size F; draws = it.2; count = omega arith })

    straight : Accepts F R × IsBound F R (size F + 1)
    straight = (record { closed = closed; ends = no_loop }, bound)

-- a frame that runs straight is accepted, and its run fetches its words and word zero
pub accepted : (F : List OpKind) (R : List ℕ) (words : ℕ) → IsFrame F → RunsStraight F → words ≡ size F → Accepts F R × IsBound F R (words + 1)
accepted F R words frame runs is = subst (λ n. Accepts F R × IsBound F R (n + 1)) (sym is) (straight F R frame.begins runs)
