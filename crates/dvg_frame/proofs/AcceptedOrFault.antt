-- Each draft is accepted, or a fault of it is picked.
use Rattle.std.proofs.Common.{◌≡◌, ℕ, zero, suc, ◌+◌, ◌<◌, ◌⊎◌, inl, inr, ⊎_elim, List, [], ◌∷◌, length, Option, Some, None, refl, sym, ◌∙◌, subst, arith}
use Rattle.std.specs.Prelude.{slice_get, Contains, MatchOption}
use Rattle.std.proofs.lemmas.Bool.{cases_lt}
use Rattle.std.proofs.lemmas.Option.{slice_get_cases}
use Rattle.dvg_code.specs.declared.instr.Instr.{Instr}
use Rattle.dvg_code.specs.declared.instr.Instr.TheVariants.{Labs}
use Rattle.dvg_code.specs.Acts.{Act, Moves, Jumps, Calls, Returns, Halts}
use Rattle.dvg_mem.specs.Memory.{IsRom}
use Rattle.dvg_gen.specs.Obeyed.{IsLabs}
use Rattle.dvg_frame.specs.declared.op.OpKind.{OpKind}
use Rattle.dvg_frame.specs.declared.op.OpKind.TheVariants.{Draw, Call, Jump}
use Rattle.dvg_frame.specs.declared.place.Place.{Place}
use Rattle.dvg_frame.specs.declared.fault.FrameFault.{FrameFault}
use Rattle.dvg_frame.specs.declared.fault.FrameFault.TheVariants.{Empty, NoLabs, TooLong, Target, Loops}
use Rattle.dvg_frame.specs.declared.checking.pair.Pair.{Pair}
use Rattle.dvg_frame.specs.declared.checking.sweep.Found.{Found}
use Rattle.dvg_frame.specs.Layout.{size}
use Rattle.dvg_frame.specs.Steps.{Leads, Reached, begin, step, Misses, IsWellFormed, Closed}
use Rattle.dvg_frame.specs.Faults.{Least, Refuses, Accepts}
use Rattle.dvg_frame.specs.Loops.{Walks, none, more}
use Rattle.dvg_frame.specs.own.Firsts.{DrawsLabs, NamesNone}
use Rattle.dvg_frame.specs.own.Pairs.{pair_of}
use Rattle.dvg_frame.specs.own.Tables.{AllFine, Next, StepsOn, places}
use Rattle.dvg_frame.proofs.Firsts.{begins_with, begins_not, misses_at, no_miss, no_miss_at, refuses_by, closed_by}
use Rattle.dvg_frame.proofs.Swept.{few_ops, pair_in, contains_read, read_contains, all_up_to, finish}
use Rattle.dvg_frame.proofs.Walks.{goes_from, leads_from, leads_once}
use Rattle.dvg_frame.proofs.FaultsAtPlaces.{same_standing}
use Rattle.dvg_frame.proofs.LeastFaults.{Decided, least_below, look}
use Rattle.dvg_frame.proofs.Reaching.{Finished, swept}

-- the faults 1 to 4 are decided
is_labs : (instr : Instr) → Decided (IsLabs instr)
is_labs (Labs x y scale) = inl tt
is_labs _ = inr (λ never. never)

draws_labs : (op : OpKind) → Decided (DrawsLabs op)
draws_labs (Draw instr) = is_labs instr
draws_labs _ = inr (λ never. never)

names_none : (count : ℕ) (op : OpKind) → Decided (NamesNone count op)
names_none count (Call j) = ⊎_elim (λ low. inr (λ high. omega arith)) (λ high. inl high) (cases_lt j count)
names_none count (Jump j) = ⊎_elim (λ low. inr (λ high. omega arith)) (λ high. inl high) (cases_lt j count)
names_none count _ = inr (λ never. never)

misses_or : (F : List OpKind) (i : ℕ) → i < length F → Decided (Misses F i)
misses_or F i below =
    ⊎_elim
    (λ it.
    ⊎_elim (λ none. inl (misses_at F i (length F) it.0 it.0 it.2 refl refl none))
    (λ some. inr (no_miss_at F i (length F) it.0 it.0 it.2 refl refl some))
    (names_none (length F) it.0))
    (λ past. let far = past.0 in absurd (omega arith))
    (slice_get_cases F i).1

begins_or : (F : List OpKind) → IsWellFormed F ⊎ ((fault : FrameFault) × ((R : List ℕ) → Refuses F R fault))
begins_or [] = inr (Empty, λ R. refl)
begins_or (op ∷ ops) =
    ⊎_elim
    (λ is.
    let begins = begins_with (op ∷ ops) op op refl refl is in
    ⊎_elim (λ long. inr (TooLong, λ R. (begins, long)))
    (λ fits. ⊎_elim (λ missed. inr (Target missed.0, λ R. (begins, fits, missed.1, missed.2)))
    (λ hit.
    let targets = no_miss (op ∷ ops) (length (op ∷ ops)) (omega arith) hit in
    inl (record { begins = begins; fits = fits; targets = targets }))
    (least_below (Misses (op ∷ ops)) (length (op ∷ ops)) (misses_or (op ∷ ops))))
    (cases_lt 511 (size (op ∷ ops))))
    (λ is_not. inr (NoLabs, λ R. (omega arith, begins_not (op ∷ ops) op op refl refl is_not)))
    (draws_labs op)

-- whether an act leads on at one depth is decided
leads_on : (act : Act Place) (after : Place) → ((q : Place) × Next act after q) ⊎ ((q : Place) → ¬ Next act after q)
leads_on (Moves instr) after = inl (after, refl)
leads_on (Jumps to) after = inl (to, refl)
leads_on (Calls to) after = inl (after, refl)
leads_on Returns after = inr (λ q never. never)
leads_on Halts after = inr (λ q never. never)

by_best : (F : List OpKind) (R : List ℕ) (best : Option Found)
    → MatchOption best (AllFine F R) (λ first. Least F R first.fault)
    → AllFine F R ⊎ ((fault : FrameFault) × Least F R fault)
by_best F R None fine = inl fine
by_best F R (Some first) least = inr (first.fault, least)

module _ (F : List OpKind) (R : List ℕ) where
  -- a walk without its first step, and that step
  rest_of : {d n : ℕ} {p q end : Place} → Leads F R p d q d → Walks F R d p (suc n) end → Walks F R d q n end
  rest_of {d} {n} {end = end} leads (more leads' walk) =
      subst (λ x. Walks F R d x n end) (leads_once F R leads' leads) walk

  steps_on : {d n : ℕ} {p end : Place} → Walks F R d p (suc n) end → (q : Place) × StepsOn F R p q
  steps_on (more {q = q} leads walk) = (q, goes_from F R leads)

  module _ (image : IsRom R) (begins : IsWellFormed F) (fine : AllFine F R) where
    -- whether a reached pair begins so many steps at its depth is decided
    walks_or : (n d : ℕ) (p : Place) → Reached F R p d → Decided ((end : Place) × Walks F R d p n end)
    walks_or zero d p reached = inl (p, none)
    walks_or (suc n) d p reached =
        ⊎_elim
        (λ bad. absurd (fine p d reached bad.0 bad.1.holds))
        (λ seen.
        let so = seen.1.1 in
        ⊎_elim
        (λ next.
        let goes : StepsOn F R p next.0 =
        record { act = so.act; after = so.after; stands = so.stands; next = next.1 } in
        let leads = leads_from F R p next.0 d goes in
        ⊎_elim (λ walk. inl (walk.0, more leads walk.1)) (λ never. inr (λ walk. never (walk.0, rest_of leads walk.1)))
        (walks_or n d next.0 (step reached seen.0 leads)))
        (λ stops. inr (λ walk.
        let on = steps_on walk.1 in
        let same = same_standing on.1.stands so.stands in
        stops on.0 (subst (λ x. Next so.act x on.0) same.1 (subst (λ x. Next x on.1.after on.0) same.0 on.1.next))))
        (leads_on so.act so.after))
        (look F R image (pair_of p d) (pair_in F R (few_ops F begins) begins (pair_of p d) reached))

    module _ (swept : Finished F R image begins) where
      -- the list has each reached pair
      held : {p : Place} {d : ℕ} → Reached F R p d → Contains swept.items (pair_of p d)
      held begin = swept.sweeps.begins
      held (step {p = p} {q = q} {d = d} {e = e} reached good leads) =
          let (j, within, read) = contains_read swept.items (pair_of p d) (held reached) in
          let all = swept.all in
          (swept.sweeps.looked j (pair_of p d) (omega arith) read).fine good (pair_of q e) leads

      reached_at : (j : ℕ) (pair : Pair) → slice_get swept.items j ≡ Some pair → Reached F R pair.place pair.depth
      reached_at j pair read = swept.sweeps.reached pair (read_contains swept.items j pair read)

      -- item j of the list begins more steps than there are places
      record LoopsAt (j : ℕ) : Type 0 where
        pair : Pair
        read : slice_get swept.items j ≡ Some pair
        end : Place
        walk : Walks F R pair.depth pair.place (1 + places F R) end

      loops_or : (j : ℕ) → j < length swept.items → Decided (LoopsAt j)
      loops_or j within =
          ⊎_elim
          (λ it.
          ⊎_elim (λ walk. inl (record { pair = it.0; read = it.2; end = walk.0; walk = walk.1 }))
          (λ never. inr (λ other.
          let same : other.pair ≡ it.0 = let two : Some other.pair ≡ Some it.0 = sym other.read ∙ it.2 in cc in
          never (other.end, subst (λ x. Walks F R x.depth x.place (1 + places F R) other.end) same other.walk)))
          (walks_or (1 + places F R) it.0.depth it.0.place (reached_at j it.0 it.2)))
          (λ past. let far = past.0 in absurd (omega arith))
          (slice_get_cases swept.items j).1

      closed : Closed F R
      closed = closed_by F R begins fine

      closed_answered : Accepts F R ⊎ ((fault : FrameFault) × Refuses F R fault)
      closed_answered =
          ⊎_elim
          (λ found.
          let it = found.1 in
          inr (
            Loops,
            (
              closed,
              record {
                place = it.pair.place;
                depth = it.pair.depth;
                end = it.end;
                reached = reached_at found.0 it.pair it.read;
                walk = it.walk;
              },
            ),
          ))
          (λ none. inl (record {
            closed = closed;
            ends = λ loop.
                let pair = pair_of loop.place loop.depth in
                let (j, within, read) = contains_read swept.items pair (held loop.reached) in
                none j within (record { pair = pair; read = read; end = loop.end; walk = loop.walk });
          }))
          (least_below LoopsAt (length swept.items) loops_or)

  begun_answered : IsRom R → IsWellFormed F → Accepts F R ⊎ ((fault : FrameFault) × Refuses F R fault)
  begun_answered image begins =
      let all = swept F R image begins in
      let few = few_ops F begins in
      let first = all_up_to F R few begins all.items all.best all.done all.sweeps all.all in
      ⊎_elim
      (λ fine. closed_answered image begins fine all)
      (λ least. inr (least.0, refuses_by F R least.0 begins least.1))
      (by_best F R all.best (finish F R few begins all.best all.sweeps.found first))

pub answered : (F : List OpKind) (R : List ℕ) → IsRom R → Accepts F R ⊎ ((fault : FrameFault) × Refuses F R fault)
answered F R image = ⊎_elim (begun_answered F R image) (λ early. inr (early.0, early.1 R)) (begins_or F)
