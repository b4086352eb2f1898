-- A sweep comes to each pair that is reached, and to no other.
use Rattle.std.proofs.Common.{◌≡◌, ◌≢◌, ℕ, suc, ◌+◌, ◌<◌, ◌≤◌, ◌⊎◌, inl, inr, ⊎_elim, List, [], ◌++◌, length, get_or, Option, Some, None, refl, sym, ap, ◌∙◌, subst, arith, length-append}
use Rattle.std.specs.Prelude.{slice_get, MatchOption, IfSome}
use Rattle.std.specs.List.{Contains}
use Rattle.std.proofs.lemmas.Bool.{cases_lt}
use Rattle.std.proofs.lemmas.List.Elements.{Contains-append_left}
use Rattle.std.proofs.lemmas.Option.{slice_get_within, get_or_from_slice_get, slice_get-get_or}
use Rattle.std.proofs.Math.ListN.{get_or-append}
use Rattle.dvg_code.specs.declared.instr.Instr.{Instr}
use Rattle.dvg_code.specs.declared.instr.Instr.TheVariants.{Vctr, Labs, Halt, Jsrl, Rtsl, Jmpl, Svec}
use Rattle.dvg_code.specs.Acts.{Act, Moves, Jumps, Calls, Returns, Halts, act_by}
use Rattle.dvg_frame.specs.declared.op.OpKind.{OpKind}
use Rattle.dvg_frame.specs.declared.place.Place.{Place}
use Rattle.dvg_frame.specs.declared.place.Place.TheVariants.{InFrame, InRom}
use Rattle.dvg_frame.specs.declared.fault.FrameFault.{FrameFault}
use Rattle.dvg_frame.specs.declared.fault.FrameFault.TheVariants.{RunsOff, OutOfRom, TooDeep}
use Rattle.dvg_frame.specs.declared.checking.pair.TheConstants.{DEEPEST}
use Rattle.dvg_mem.specs.declared.TheConstants.{ROM_END}
use Rattle.dvg_mem.specs.Memory.{first_word, rom_word}
use Rattle.dvg_mem.proofs.Roms.{behind_ram, none_there}
use Rattle.dvg_frame.specs.declared.checking.pair.Pair.{Pair}
use Rattle.dvg_frame.specs.declared.checking.way.Way.{Way}
use Rattle.dvg_frame.specs.declared.checking.way.Way.TheVariants.{Move, Jump, Call}
use Rattle.dvg_frame.specs.declared.checking.sweep.Found.{Found}
use Rattle.dvg_frame.specs.Steps.{Stands, in_frame, in_rom, GoesPast, Names, last, target, past, deep, IsFine, Leads, on, jump, call, back, Reached, begin, step, BeginsWithLabs, labs, misses, IsWellFormed}
use Rattle.dvg_frame.specs.Faults.{Precedes, Least}
use Rattle.dvg_frame.specs.own.Growth.{Grows}
use Rattle.dvg_frame.specs.own.Pairs.{IsPlace, IsPair, pair_of, first_pair, index}
use Rattle.dvg_frame.specs.own.Ways.{way, IsPlaceOf, StandsSo, IsLeast}
use Rattle.dvg_frame.specs.own.Sweeps.{ReachedPair, BadPair, FinePair, WayLeadsTo, StaysIn, IsFound, IsUpTo, IsDone, Sweeps}
use Rattle.dvg_frame.proofs.FaultsAtPlaces.{same_standing}
use Rattle.dvg_frame.proofs.Sizes.{length-le-size}
use Rattle.dvg_frame.proofs.Marks.{contains_nil, both_grow}

-- what a way leads to joins a list
pub spread_move : (old new : List Pair) (seen : Way) (after : Place) (words d : ℕ) → seen ≡ Move after words → Grows old new (λ next. next ≡ pair_of after d) → Grows old new (WayLeadsTo seen d)
spread_move old new seen after words d is grows = subst (λ x. Grows old new (WayLeadsTo x d)) (sym is) grows

pub spread_jump : (old new : List Pair) (seen : Way) (to : Place) (d : ℕ) → seen ≡ Jump to → Grows old new (λ next. next ≡ pair_of to d) → Grows old new (WayLeadsTo seen d)
spread_jump old new seen to d is grows = subst (λ x. Grows old new (WayLeadsTo x d)) (sym is) grows

pub spread_call : (old mid new : List Pair) (seen : Way) (to after : Place) (d : ℕ) → seen ≡ Call to after → Grows old mid (λ next. next ≡ pair_of to (d + 1)) → Grows mid new (λ next. next ≡ pair_of after d)
    → Grows old new (WayLeadsTo seen d)
spread_call old mid new seen to after d is first next =
    subst (λ x. Grows old new (WayLeadsTo x d)) (sym is) (both_grow old mid new (λ pair. pair ≡ pair_of to (d + 1)) (λ pair. pair ≡ pair_of after d) first next)

-- the order of pairs is that of their indexes
pub precedes : (one other : Pair) → IsPair one → IsPair other → index one ≤ index other → Precedes one.place one.depth other.place other.depth
precedes one other a b below = by_places one.place other.place one.depth other.depth a.place b.place a.depth b.depth below
  where
    by_places : (p q : Place) (d e : ℕ) → IsPlace p → IsPlace q → d ≤ DEEPEST → e ≤ DEEPEST → index (pair_of p d) ≤ index (pair_of q e) → Precedes p d q e
    by_places (InFrame i) (InFrame j) d e g h l m below = ⊎_elim (λ less. inl less) (λ no_less. let same : i ≡ j = omega arith in inr (same, omega arith)) (cases_lt i j)
    by_places (InFrame i) (InRom y) d e g h l m below = tt
    by_places (InRom x) (InFrame j) d e g h l m below = omega arith
    by_places (InRom x) (InRom y) d e g h l m below = ⊎_elim (λ less. inl less) (λ no_less. let same : x ≡ y = omega arith in inr (same, omega arith)) (cases_lt x y)

pub in_place : (F : List OpKind) (R : List ℕ) (p : Place) → IsPlaceOf F R p → IsPlace p
in_place F R (InFrame i) inside = inside.1
in_place F R (InRom a) inside = let behind = behind_ram R in let low = inside.0 in (omega arith, inside.1)

-- no instruction of the ROM names an operation
rom_names : (instr : Instr) (j : ℕ) → Names (act_by InRom instr) (InFrame j) → ⊥
rom_names (Vctr scale dx dy z) j named = named
rom_names (Labs x y scale) j named = named
rom_names Halt j named = named
rom_names (Jsrl a) j named = let is : InRom a ≡ InFrame j = named in cc
rom_names Rtsl j named = named
rom_names (Jmpl a) j named = let is : InRom a ≡ InFrame j = named in cc
rom_names (Svec scale dx dy z) j named = named

inside_rom : (F : List OpKind) (R : List ℕ) (a : ℕ) → ¬ rom_word R a ≡ None → IsPlaceOf F R (InRom a)
inside_rom F R a not_outside =
    let low : first_word R ≤ a = ⊎_elim (λ below. absurd (not_outside (none_there R a (inl below)))) (λ no_less. no_less) (cases_lt a (first_word R)) in
    let high : a < ROM_END = ⊎_elim (λ below. below) (λ far. absurd (not_outside (none_there R a (inr far)))) (cases_lt a ROM_END) in
    (low, high)

-- reads of lists of pairs
read_front : (xs ys : List Pair) (j : ℕ) (x : Pair) → j < length xs → slice_get (xs ++ ys) j ≡ Some x → slice_get xs j ≡ Some x
read_front xs ys j x within is =
    let both : get_or (xs ++ ys) j x ≡ x = get_or_from_slice_get (xs ++ ys) j x x is in
    let front : get_or (xs ++ ys) j x ≡ get_or xs j x = get_or-append xs ys x j within in
    slice_get-get_or xs j x within ∙ ap Some (sym front ∙ both)

read_more : (xs ys : List Pair) (j : ℕ) (x : Pair) → slice_get xs j ≡ Some x → slice_get (xs ++ ys) j ≡ Some x
read_more xs ys j x is =
    let within = slice_get_within xs j x is in
    let front : get_or (xs ++ ys) j x ≡ x = get_or-append xs ys x j within ∙ get_or_from_slice_get xs j x x is in
    let within_both : j < length (xs ++ ys) = let both = length-append xs ys in omega arith in
    slice_get-get_or (xs ++ ys) j x within_both ∙ ap Some front

pub read_contains : (xs : List Pair) (j : ℕ) (x : Pair) → slice_get xs j ≡ Some x → Contains xs x
read_contains xs j x is = (j, slice_get_within xs j x is, get_or_from_slice_get xs j x x is)

pub contains_read : (xs : List Pair) (x : Pair) → Contains xs x → (j : ℕ) × (j < length xs) × (slice_get xs j ≡ Some x)
contains_read xs x (j, within, is) = (j, within, slice_get-get_or xs j x within ∙ ap Some is)

-- a draft of at most 511 words has at most 511 operations
pub few_ops : (F : List OpKind) → IsWellFormed F → length F ≤ 511
few_ops F begins = let each = length-le-size F in let fits = begins.fits in omega arith

some_op : (F : List OpKind) → BeginsWithLabs F → 0 < length F
some_op F labs = omega arith

module _ (F : List OpKind) (R : List ℕ) (few : length F ≤ 511) (begins : IsWellFormed F) where
  -- a fine place leads to places of the draft and the ROM
  pub after_in : {p q : Place} {act : Act Place} (d : ℕ) → Stands F R p act q → GoesPast act → IsFine F R p d → IsPlaceOf F R q
  after_in d (in_frame {i = i} {op = op} is act_is) goes fine =
      let within = slice_get_within F i op is in
      let not_last : i + 1 ≢ length F = λ end. fine (RunsOff i) (last (in_frame is act_is) goes end) in
      (omega arith, omega arith)
  after_in d (in_rom {a = a} spelled act_is) goes fine = inside_rom F R _ (λ outside. fine (OutOfRom (InRom a)) (past (in_rom spelled act_is) goes outside))

  pub target_in : {p after : Place} {act : Act Place} (q : Place) (d : ℕ) → Stands F R p act after → Names act q → IsFine F R p d → IsPlaceOf F R q
  target_in (InFrame j) d (in_frame {i = i} {op = op} is act_is) named fine =
      let below : j < length F = ⊎_elim (λ less. less) (λ far. absurd (begins.targets i (misses is (subst (λ x. Names x (InFrame j)) act_is named) far))) (cases_lt j (length F)) in
      (below, omega arith)
  target_in (InFrame j) d (in_rom {instr = instr} spelled act_is) named fine = absurd (rom_names instr j (subst (λ x. Names x (InFrame j)) act_is named))
  target_in {p} (InRom a) d stands named fine = inside_rom F R a (λ outside. fine (OutOfRom p) (target a stands named outside))

  reached_in : {p : Place} {d : ℕ} → Reached F R p d → IsPlaceOf F R p × (d ≤ DEEPEST)
  reached_in begin = let some = some_op F begins.begins in ((some, omega arith), omega arith)
  reached_in (step {d = d} reached fine (on stands)) = let before = reached_in reached in (after_in d stands tt fine, before.1)
  reached_in (step {d = d} reached fine (jump {q = q} stands)) = let before = reached_in reached in (target_in q d stands refl fine, before.1)
  reached_in (step {p = p} {d = d} reached fine (call {q = q} stands)) =
      let before = reached_in reached in
      let low = before.1 in
      let not_deep : d ≢ DEEPEST = λ is. fine (TooDeep p) (deep stands is) in
      (target_in q d stands refl fine, omega arith)
  reached_in (step {d = d} reached fine (back stands)) = let before = reached_in reached in (after_in d stands tt fine, before.1)

  pub pair_in : (pair : Pair) → ReachedPair F R pair → IsPlaceOf F R pair.place
  pair_in pair reached = (reached_in reached).0

  pub reached_pair : (pair : Pair) → ReachedPair F R pair → IsPair pair
  reached_pair pair reached = let both = reached_in reached in record { place = in_place F R pair.place both.0; depth = both.1 }

  stays_by : (p : Place) (act : Act Place) (after : Place) (d : ℕ) → Stands F R p act after → d ≤ DEEPEST → IsFine F R p d → StaysIn (way act after) d
  stays_by p (Moves instr) after d stands low fine = in_place F R after (after_in d stands tt fine)
  stays_by p (Jumps q) after d stands low fine = in_place F R q (target_in q d stands refl fine)
  stays_by p (Calls q) after d stands low fine =
      let not_deep : d ≢ DEEPEST = λ is. fine (TooDeep p) (deep stands is) in
      (in_place F R q (target_in q d stands refl fine), in_place F R after (after_in d stands tt fine), omega arith)
  stays_by p Returns after d stands low fine = tt
  stays_by p Halts after d stands low fine = tt

  pub stays : (pair : Pair) (seen : Way) → IsPair pair → FinePair F R pair → StandsSo F R pair.place seen → StaysIn seen pair.depth
  stays pair seen valid fine so = subst (λ x. StaysIn x pair.depth) (sym so.is) (stays_by pair.place so.act so.after pair.depth so.stands valid.depth fine)

  -- what follows is what the steps lead to
  leads_follow : {p q : Place} {d e : ℕ} (act : Act Place) (after : Place) → Stands F R p act after → Leads F R p d q e → WayLeadsTo (way act after) d (pair_of q e)
  leads_follow {p} {q} {d} {e} act after stands (on stood) =
      let same = same_standing stood stands in
      subst (λ x. WayLeadsTo (way x after) d (pair_of q d)) same.0 (ap (λ x. pair_of x d) same.1)
  leads_follow {p} {q} {d} {e} act after stands (jump stood) =
      let same = same_standing stood stands in
      subst (λ x. WayLeadsTo (way x after) d (pair_of q d)) same.0 refl
  leads_follow {p} {q} {d} {e} act after stands (call {d = k} stood) =
      let same = same_standing stood stands in
      let one_deeper : suc k ≡ k + 1 = omega arith in
      subst (λ x. WayLeadsTo (way x after) k (pair_of q (suc k))) same.0 (inl (ap (λ x. pair_of q x) one_deeper))
  leads_follow {p} {q} {d} {e} act after stands (back stood) =
      let same = same_standing stood stands in
      subst (λ x. WayLeadsTo (way x after) d (pair_of q d)) same.0 (inr (ap (λ x. pair_of x d) same.1))

  follow_leads : (p : Place) (d : ℕ) (act : Act Place) (after : Place) (next : Pair) → Stands F R p act after → WayLeadsTo (way act after) d next → Leads F R p d next.place next.depth
  follow_leads p d (Moves instr) after next stands follows = subst (λ x. Leads F R p d x.place x.depth) (sym follows) (on stands)
  follow_leads p d (Jumps q) after next stands follows = subst (λ x. Leads F R p d x.place x.depth) (sym follows) (jump stands)
  follow_leads p d (Calls q) after next stands follows =
      let one_deeper : suc d ≡ d + 1 = omega arith in
      ⊎_elim
      (λ is. subst (λ x. Leads F R p d x.place x.depth) (sym is) (subst (λ x. Leads F R p d q x) one_deeper (call stands)))
      (λ is. subst (λ x. Leads F R p d x.place x.depth) (sym is) (back stands))
      follows
  follow_leads p d Returns after next stands follows = absurd follows
  follow_leads p d Halts after next stands follows = absurd follows

  -- a sweep that looked at no pair
  pub begins_sweep : (none items : List Pair) (first : Pair) → none ≡ [] → first ≡ first_pair → Grows none items (λ new. new ≡ first) → Sweeps F R items None 0
  begins_sweep none items first is first_is grows =
      record {
        count = omega arith;
        begins = grows.all first_pair (sym first_is);
        reached = λ pair held. ⊎_elim (λ never. absurd (contains_nil pair (subst (λ xs. Contains xs pair) is never))) (λ same. subst (ReachedPair F R) (sym (same ∙ first_is)) begin) (grows.only pair held);
        looked = λ j pair below. absurd (omega arith);
        found = tt;
      }

  -- a sweep that looks at one more pair
  module _ (items : List Pair) (best : Option Found) (done : ℕ) (sweeps : Sweeps F R items best done) (pair : Pair) (is : slice_get items done ≡ Some pair) where
    pub is_reached : ReachedPair F R pair
    is_reached = sweeps.reached pair (read_contains items done pair is)

    done_next : (items1 : List Pair) (best1 : Option Found) → ((j : ℕ) (other : Pair) → j < done → slice_get items1 j ≡ Some other → IsDone F R items1 best1 other) → slice_get items1 done ≡ Some pair
        → IsDone F R items1 best1 pair → (j : ℕ) (other : Pair) → j < done + 1 → slice_get items1 j ≡ Some other → IsDone F R items1 best1 other
    done_next items1 best1 before here here_done j other below read =
        ⊎_elim (λ less. before j other less read)
        (λ no_less.
        let last_one : j ≡ done = omega arith in
        let same : pair ≡ other = let two : Some pair ≡ Some other = sym here ∙ subst (λ k. slice_get items1 k ≡ Some other) last_one read in cc in
        subst (IsDone F R items1 best1) same here_done)
        (cases_lt j done)

    pub fine_step : (seen : Way) (items1 items2 : List Pair) (best2 : Option Found) → FinePair F R pair → StandsSo F R pair.place seen → Grows items items1 (WayLeadsTo seen pair.depth) → items2 ≡ items1 → best2 ≡ best
        → Sweeps F R items2 best2 (done + 1)
    fine_step seen items1 items2 best2 fine so grows items_is best_is =
        let within = slice_get_within items done pair is in
        let longer : length items1 ≡ length items + length grows.more = ap length grows.kept ∙ length-append items grows.more in
        let keep : (other : Pair) → Contains items other → Contains items1 other = λ other held. subst (λ xs. Contains xs other) (sym grows.kept) (Contains-append_left items grows.more other held) in
        let front : (j : ℕ) (other : Pair) → j < length items → slice_get items1 j ≡ Some other → slice_get items j ≡ Some other =
        λ j other low read. read_front items grows.more j other low (ap (λ xs. slice_get xs j) (sym grows.kept) ∙ read) in
        let here : slice_get items1 done ≡ Some pair = ap (λ xs. slice_get xs done) grows.kept ∙ read_more items grows.more done pair is in
        let swept : Sweeps F R items1 best (done + 1) =
        record {
          count = omega arith;
          begins = keep first_pair sweeps.begins;
          reached = λ other held. ⊎_elim (sweeps.reached other)
              (λ follows. step is_reached fine (follow_leads pair.place pair.depth so.act so.after other so.stands (subst (λ x. WayLeadsTo x pair.depth other) so.is follows))) (grows.only other held);
          looked = done_next items1 best
              (λ j other low read. let before = sweeps.looked j other low (front j other (omega arith) read) in record { fine = λ good next leads. keep next (before.fine good next leads); bad = before.bad })
              here
              (record {
                fine = λ good next leads. grows.all next (subst (λ x. WayLeadsTo x pair.depth next) (sym so.is) (leads_follow so.act so.after so.stands leads));
                bad = λ fault bad. absurd (fine fault bad);
              });
          found = sweeps.found;
        } in
        subst (λ xs. Sweeps F R xs best2 (done + 1)) (sym items_is) (subst (λ x. Sweeps F R items1 x (done + 1)) (sym best_is) swept)

    up_to : (old : Option Found) (first : Found) (other : Pair) → IfSome old (λ x. index first.pair ≤ index x.pair) → IsUpTo old other → index first.pair ≤ index other
    up_to None first other below up = absurd up
    up_to (Some x) first other below up = omega arith

    kept_found : (old : Option Found) (first : Found) → old ≡ Some first → IfSome old (IsFound F R) → IsFound F R first
    kept_found old first is_old found = let some : IfSome (Some first) (IsFound F R) = subst (λ x. IfSome x (IsFound F R)) is_old found in some

    pub bad_step : (fault : FrameFault) (first : Found) (items2 : List Pair) (best2 : Option Found) → IsLeast (BadPair F R pair) fault → (first ≡ record { pair = pair; fault = fault }) ⊎ (best ≡ Some first)
        → index first.pair ≤ index pair → IfSome best (λ old. index first.pair ≤ index old.pair) → items2 ≡ items → best2 ≡ Some first → Sweeps F R items2 best2 (done + 1)
    bad_step fault first items2 best2 least one new old items_is best_is =
        let within = slice_get_within items done pair is in
        let swept : Sweeps F R items (Some first) (done + 1) =
        record {
          count = omega arith;
          begins = sweeps.begins;
          reached = sweeps.reached;
          looked = done_next items (Some first)
              (λ j other low read. let before = sweeps.looked j other low read in record { fine = before.fine; bad = λ other_fault bad. up_to best first other old (before.bad other_fault bad) })
              is
              (record { fine = λ fine. absurd (fine fault least.holds); bad = λ other_fault bad. new });
          found = ⊎_elim (λ is_new. subst (IsFound F R) (sym is_new) (record { reached = is_reached; bad = least })) (λ is_old. kept_found best first is_old sweeps.found) one;
        } in
        subst (λ xs. Sweeps F R xs best2 (done + 1)) (sym items_is) (subst (λ x. Sweeps F R items x (done + 1)) (sym best_is) swept)

  -- what was found so far is a pair
  pub found_pair : (best : Option Found) → IfSome best (IsFound F R) → IfSome best (λ old. IsPair old.pair)
  found_pair None found = tt
  found_pair (Some x) found = reached_pair x.pair found.reached

  -- a sweep that looked at each pair of its list
  module _ (items : List Pair) (best : Option Found) (done : ℕ) (sweeps : Sweeps F R items best done) (all : length items ≤ done) where
    done_at : (pair : Pair) → Contains items pair → IsDone F R items best pair
    done_at pair held = let (j, within, read) = contains_read items pair held in sweeps.looked j pair (omega arith) read

    reached_held : {p : Place} {d : ℕ} → Reached F R p d → Contains items (pair_of p d)
    reached_held begin = sweeps.begins
    reached_held (step {p = p} {q = q} {d = d} {e = e} reached fine leads) =
        (done_at (pair_of p d) (reached_held reached)).fine fine (pair_of q e) leads

    pub all_up_to : (pair : Pair) (fault : FrameFault) → ReachedPair F R pair → BadPair F R pair fault → IsUpTo best pair
    all_up_to pair fault reached bad = (done_at pair (reached_held reached)).bad fault bad

  finish_some : (first : Found) → IsFound F R first → ((pair : Pair) (fault : FrameFault) → ReachedPair F R pair → BadPair F R pair fault → index first.pair ≤ index pair) → Least F R first.fault
  finish_some first found up =
      record {
        place = first.pair.place;
        depth = first.pair.depth;
        reached = found.reached;
        bad = found.bad.holds;
        first = λ q e other reached bad.
            let there : Pair = pair_of q e in
            precedes first.pair there (reached_pair first.pair found.reached) (reached_pair there reached) (up there other reached bad);
        least = found.bad.least;
      }

  pub finish : (best : Option Found) → IfSome best (IsFound F R) → ((pair : Pair) (fault : FrameFault) → ReachedPair F R pair → BadPair F R pair fault → IsUpTo best pair)
      → MatchOption best ((p : Place) → (d : ℕ) → Reached F R p d → IsFine F R p d) (λ first. Least F R first.fault)
  finish None found up = λ p d reached fault bad. up (pair_of p d) fault reached bad
  finish (Some first) found up = finish_some first found up
