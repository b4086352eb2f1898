-- One fault at most is picked of a draft, and none of one that has no fault.
use Rattle.std.proofs.Common.{◌≡◌, ◌≢◌, ℕ, ◌<◌, ◌≤◌, ⊎_elim, List, [], length, refl, sym, ap, ◌∙◌, subst, arith, Ok, Err, Result}
use Rattle.std.proofs.lemmas.Bool.{cases_lt}
use Rattle.dvg_frame.specs.declared.op.OpKind.{OpKind}
use Rattle.dvg_frame.specs.declared.place.Place.{Place}
use Rattle.dvg_frame.specs.declared.place.Place.TheVariants.{InFrame, InRom}
use Rattle.dvg_frame.specs.declared.fault.FrameFault.{FrameFault}
use Rattle.dvg_frame.specs.declared.fault.FrameFault.TheVariants.{Empty, NoLabs, TooLong, Target, RunsOff, OutOfRom, TooDeep, NoCaller, Loops}
use Rattle.dvg_frame.specs.Layout.{size}
use Rattle.dvg_frame.specs.Steps.{Bad, last, target, second, past, deep, bare, BeginsWithLabs, Closed, Misses}
use Rattle.dvg_frame.specs.FaultNumbers.{number_of}
use Rattle.dvg_frame.specs.Faults.{rank, Precedes, Least, Refuses, Accepts, FrameState, IsChecked}
use Rattle.dvg_frame.proofs.Pictures.{one_picture}

same_frame : (one other : FrameState) → other.operations ≡ one.operations → other.bound ≡ one.bound → other ≡ one
same_frame one other operations bound = ap (λ ops. record { operations = ops; bound = other.bound }) operations ∙ ap (λ n. record { operations = one.operations; bound = n }) bound

-- two places that precede each other are one, and so are their depths
precede_both : (p q : Place) (d e : ℕ) → Precedes p d q e → Precedes q e p d → (p ≡ q) × (d ≡ e)
precede_both (InFrame i) (InFrame j) d e g h =
    ⊎_elim (λ x. ⊎_elim (λ y. absurd (omega arith)) (λ y. absurd (omega arith)) h)
    (λ x. ⊎_elim (λ y. absurd (omega arith)) (λ y. (ap InFrame x.0, omega arith)) h) g
precede_both (InFrame i) (InRom b) d e g h = absurd h
precede_both (InRom a) (InFrame j) d e g h = absurd g
precede_both (InRom a) (InRom b) d e g h =
    ⊎_elim (λ x. ⊎_elim (λ y. absurd (omega arith)) (λ y. absurd (omega arith)) h)
    (λ x. ⊎_elim (λ y. absurd (omega arith)) (λ y. (ap InRom x.0, omega arith)) h) g

module _ (F : List OpKind) (R : List ℕ) where
  -- the fault that has a number at a place
  abbrev numbered : ℕ → Place → FrameFault → Type 0
  numbered n p Empty = ⊥
  numbered n p NoLabs = ⊥
  numbered n p TooLong = ⊥
  numbered n p (Target i) = ⊥
  numbered n p (RunsOff i) = (n ≡ 5) × (p ≡ InFrame i)
  numbered n p (OutOfRom q) = (n ≡ 6) × (p ≡ q)
  numbered n p (TooDeep q) = (n ≡ 7) × (p ≡ q)
  numbered n p (NoCaller q) = (n ≡ 8) × (p ≡ q)
  numbered n p Loops = ⊥

  bad_numbered : {p : Place} {d : ℕ} {fault : FrameFault} → Bad F R p d fault → numbered (rank fault) p fault
  bad_numbered (last s on l) = (refl, refl)
  bad_numbered (target a s named o) = (refl, refl)
  bad_numbered (second is first o) = (refl, refl)
  bad_numbered (past s on o) = (refl, refl)
  bad_numbered (deep s is) = (refl, refl)
  bad_numbered (bare s is) = (refl, refl)

  same_numbered : (n : ℕ) (p : Place) (one other : FrameFault) → numbered n p one → numbered n p other → other ≡ one
  same_numbered n p (RunsOff i) (RunsOff j) a b = let is : InFrame i ≡ InFrame j = cc (a.1, b.1) in let same : i ≡ j = cc in ap RunsOff (sym same)
  same_numbered n p (OutOfRom q) (OutOfRom r) a b = ap OutOfRom (cc (a.1, b.1))
  same_numbered n p (TooDeep q) (TooDeep r) a b = ap TooDeep (cc (a.1, b.1))
  same_numbered n p (NoCaller q) (NoCaller r) a b = ap NoCaller (cc (a.1, b.1))
  same_numbered n p Empty _ a b = absurd a
  same_numbered n p NoLabs _ a b = absurd a
  same_numbered n p TooLong _ a b = absurd a
  same_numbered n p (Target i) _ a b = absurd a
  same_numbered n p Loops _ a b = absurd a
  same_numbered n p _ Empty a b = absurd b
  same_numbered n p _ NoLabs a b = absurd b
  same_numbered n p _ TooLong a b = absurd b
  same_numbered n p _ (Target j) a b = absurd b
  same_numbered n p _ Loops a b = absurd b
  same_numbered n p _ _ a b = let x = a.0 in let y = b.0 in absurd (omega arith)

  pub one_least : (one other : FrameFault) → Least F R one → Least F R other → other ≡ one
  one_least one other a b =
      let same = precede_both a.place b.place a.depth b.depth (a.first b.place b.depth other b.reached b.bad) (b.first a.place a.depth one a.reached a.bad) in
      let other_here : Bad F R a.place a.depth other = subst (λ d. Bad F R a.place d other) (sym same.1) (subst (λ p. Bad F R p b.depth other) (sym same.0) b.bad) in
      let one_there : Bad F R b.place b.depth one = subst (λ d. Bad F R b.place d one) same.1 (subst (λ p. Bad F R p a.depth one) same.0 a.bad) in
      let below = a.least other other_here in
      let above = b.least one one_there in
      let ranks : rank other ≡ rank one = omega arith in
      same_numbered (rank one) a.place one other (bad_numbered a.bad) (subst (λ n. numbered n a.place other) ranks (bad_numbered other_here))

  -- what holds where a fault of a greater number is picked
  begins_past : (fault : FrameFault) → 2 < number_of fault → Refuses F R fault → BeginsWithLabs F
  begins_past Empty n picked = absurd (omega arith)
  begins_past NoLabs n picked = absurd (omega arith)
  begins_past TooLong n picked = picked.0
  begins_past (Target i) n picked = picked.0
  begins_past (RunsOff i) n picked = picked.0.begins
  begins_past (OutOfRom p) n picked = picked.0.begins
  begins_past (TooDeep p) n picked = picked.0.begins
  begins_past (NoCaller p) n picked = picked.0.begins
  begins_past Loops n picked = picked.0.begins.begins

  fits_past : (fault : FrameFault) → 3 < number_of fault → Refuses F R fault → size F ≤ 511
  fits_past (Target i) n picked = picked.1
  fits_past (RunsOff i) n picked = picked.0.fits
  fits_past (OutOfRom p) n picked = picked.0.fits
  fits_past (TooDeep p) n picked = picked.0.fits
  fits_past (NoCaller p) n picked = picked.0.fits
  fits_past Loops n picked = picked.0.begins.fits
  fits_past _ n picked = absurd (omega arith)

  targets_past : (fault : FrameFault) → 4 < number_of fault → Refuses F R fault → (i : ℕ) → ¬ Misses F i
  targets_past (RunsOff j) n picked = picked.0.targets
  targets_past (OutOfRom p) n picked = picked.0.targets
  targets_past (TooDeep p) n picked = picked.0.targets
  targets_past (NoCaller p) n picked = picked.0.targets
  targets_past Loops n picked = picked.0.begins.targets
  targets_past _ n picked = absurd (omega arith)

  found_past : (fault : FrameFault) → 4 < number_of fault → number_of fault < 9 → Refuses F R fault → Least F R fault
  found_past (RunsOff i) n m picked = picked.1
  found_past (OutOfRom p) n m picked = picked.1
  found_past (TooDeep p) n m picked = picked.1
  found_past (NoCaller p) n m picked = picked.1
  found_past _ n m picked = absurd (omega arith)

  some_op : BeginsWithLabs F → F ≢ []
  some_op begins none = let never : BeginsWithLabs [] = subst BeginsWithLabs none begins in elim never [ ]

  some_past : (fault : FrameFault) → 1 < number_of fault → Refuses F R fault → F ≢ []
  some_past Empty n picked = absurd (omega arith)
  some_past NoLabs n picked = λ none. let count = ap length none in let some = picked.0 in omega arith
  some_past TooLong n picked = some_op picked.0
  some_past fault n picked = some_op (begins_past fault (omega arith) picked)

  -- a fault of the first four is not picked beside one of a greater number
  not_beside : (one other : FrameFault) → number_of one ≤ 4 → number_of one < number_of other → Refuses F R one → Refuses F R other → ⊥
  not_beside Empty other low less a b = some_past other less b a
  not_beside NoLabs other low less a b = a.1 (begins_past other less b)
  not_beside TooLong other low less a b = let fits = fits_past other less b in let long = a.1 in omega arith
  not_beside (Target i) other low less a b = targets_past other less b i a.2
  not_beside _ other low less a b = absurd (omega arith)

  one_miss : (i j : ℕ) → Misses F i → Misses F j → ((k : ℕ) → k < i → ¬ Misses F k) → ((k : ℕ) → k < j → ¬ Misses F k) → j ≡ i
  one_miss i j a b before_i before_j =
      ⊎_elim (λ less. absurd (before_j i less a)) (λ no_less. ⊎_elim (λ less. absurd (before_i j less b)) (λ no_more. omega arith) (cases_lt j i)) (cases_lt i j)

  same_number : (one other : FrameFault) → number_of one < 9 → number_of one ≡ number_of other → Refuses F R one → Refuses F R other → other ≡ one
  same_number Empty Empty m n a b = refl
  same_number NoLabs NoLabs m n a b = refl
  same_number TooLong TooLong m n a b = refl
  same_number (Target i) (Target j) m n a b = ap Target (one_miss i j a.2 b.2 a.3 b.3)
  same_number Empty _ m n a b = absurd (omega arith)
  same_number NoLabs _ m n a b = absurd (omega arith)
  same_number TooLong _ m n a b = absurd (omega arith)
  same_number (Target i) _ m n a b = absurd (omega arith)
  same_number one other m n a b = one_least one other (found_past one (omega arith) m a) (found_past other (omega arith) (omega arith) b)

  -- two faults of 1 to 8 that are both picked are one
  one_early : (one other : FrameFault) → number_of one < 9 → number_of other < 9 → Refuses F R one → Refuses F R other → other ≡ one
  one_early one other m k a b =
      ⊎_elim
      (λ low. ⊎_elim (λ less. absurd (not_beside one other (omega arith) less a b))
      (λ no_less. ⊎_elim (λ more. absurd (not_beside other one (omega arith) more b a)) (λ no_more. same_number one other m (omega arith) a b) (cases_lt (number_of other) (number_of one)))
      (cases_lt (number_of one) (number_of other)))
      (λ high. ⊎_elim (λ low. absurd (not_beside other one (omega arith) (omega arith) b a))
      (λ both. one_least one other (found_past one (omega arith) m a) (found_past other (omega arith) k b))
      (cases_lt (number_of other) 5))
      (cases_lt (number_of one) 5)

  -- of a draft that has none of the faults 1 to 8 nothing but a loop is picked
  closed_least : (fault : FrameFault) → Closed F R → Least F R fault → ⊥
  closed_least fault closed found = closed.fine found.place found.depth found.reached fault found.bad

  only_loops : (fault : FrameFault) → Closed F R → Refuses F R fault → fault ≡ Loops
  only_loops Empty closed picked = absurd (some_op closed.begins.begins picked)
  only_loops NoLabs closed picked = absurd (picked.1 closed.begins.begins)
  only_loops TooLong closed picked = let fits = closed.begins.fits in let long = picked.1 in absurd (omega arith)
  only_loops (Target i) closed picked = absurd (closed.begins.targets i picked.2)
  only_loops (RunsOff i) closed picked = absurd (closed_least (RunsOff i) closed picked.1)
  only_loops (OutOfRom p) closed picked = absurd (closed_least (OutOfRom p) closed picked.1)
  only_loops (TooDeep p) closed picked = absurd (closed_least (TooDeep p) closed picked.1)
  only_loops (NoCaller p) closed picked = absurd (closed_least (NoCaller p) closed picked.1)
  only_loops Loops closed picked = refl

  is_loops : (fault : FrameFault) → 9 ≤ number_of fault → fault ≡ Loops
  is_loops Loops high = refl
  is_loops _ high = absurd (omega arith)

  -- two faults that are both picked are one
  pub one_fault : (one other : FrameFault) → Refuses F R one → Refuses F R other → other ≡ one
  one_fault one other a b =
      ⊎_elim
      (λ early. ⊎_elim (λ early_too. one_early one other early early_too a b)
      (λ last. let is = is_loops other last in is ∙ sym (only_loops one (subst (Refuses F R) is b).0 a))
      (cases_lt (number_of other) 9))
      (λ last. let is = is_loops one last in only_loops other (subst (Refuses F R) is a).0 b ∙ sym is)
      (cases_lt (number_of one) 9)

  -- no fault is picked of a draft that has none and no loop
  pub accepted_stays : (fault : FrameFault) → Accepts F R → Refuses F R fault → ⊥
  accepted_stays fault accepts picked = accepts.ends (subst (Refuses F R) (only_loops fault accepts.closed picked) picked).1

  -- one answer at most holds
  pub one_checked : (one other : Result FrameState FrameFault) → IsChecked F R one → IsChecked F R other → other ≡ one
  one_checked (Ok frame) (Ok other) a b = ap Ok (same_frame frame other (b.1 ∙ sym a.1) (one_picture F R a.2.0 b.2.0 frame.bound other.bound a.2.1 b.2.1).1)
  one_checked (Ok frame) (Err fault) a b = absurd (accepted_stays fault a.0 b)
  one_checked (Err fault) (Ok frame) a b = absurd (accepted_stays fault b.0 a)
  one_checked (Err one) (Err other) a b = ap Err (one_fault one other a b)
