-- What stands at a place is one thing, and what is wrong there shows by how it leads on.
use Rattle.std.proofs.Common.{◌≡◌, ℕ, ◌+◌, ◌<◌, ◌≤◌, inl, inr, ⊎_elim, List, [], ◌∷◌, length, Option, Some, None, refl, sym, ap, ◌∙◌, subst, arith}
use Rattle.std.specs.Prelude.{slice_get}
use Rattle.dvg_code.specs.declared.instr.Instr.{Instr}
use Rattle.dvg_code.specs.Spelling.{Spells, IsFirst, word_count}
use Rattle.dvg_code.specs.Acts.{Act, Moves, Jumps, Calls, Returns, Halts, act_by}
use Rattle.dvg_code.proofs.Unique.{same_spelling, same_front, rest_begins_none}
use Rattle.dvg_mem.specs.Memory.{rom_word}
use Rattle.dvg_mem.proofs.Roms.{none_there}
use Rattle.dvg_frame.specs.declared.op.OpKind.{OpKind}
use Rattle.dvg_frame.specs.declared.place.Place.{Place}
use Rattle.dvg_frame.specs.declared.place.Place.TheVariants.{InFrame, InRom}
use Rattle.dvg_frame.specs.declared.fault.FrameFault.{FrameFault}
use Rattle.dvg_frame.specs.declared.fault.FrameFault.TheVariants.{RunsOff, OutOfRom, TooDeep, NoCaller}
use Rattle.dvg_frame.specs.declared.checking.pair.TheConstants.{DEEPEST}
use Rattle.dvg_frame.specs.declared.checking.pair.Pair.{Pair}
use Rattle.dvg_frame.specs.declared.checking.way.Way.{Way}
use Rattle.dvg_frame.specs.Steps.{SpelledAt, one, two, op_act, Stands, in_frame, in_rom, GoesPast, Names, Bad, last, target, second, past, deep, bare, IsFine}
use Rattle.dvg_frame.specs.Faults.{rank}
use Rattle.dvg_frame.specs.own.Ways.{IsPlaceOf, way, EndsWithin, StandsSo, LeadsOn, Outside, LeadsOutside, IsCall, IsReturn, HasFaultAt, IsLeast}

-- one instruction at most is spelled at an address
spelled_once : (mem : ℕ → Option ℕ) (a : ℕ) (instr other : Instr) → SpelledAt mem a instr → SpelledAt mem a other → instr ≡ other
spelled_once mem a instr other (one {word = v} v_is s) (one {word = w} w_is t) =
    let same : v ≡ w = cc in
    same_spelling instr other (w ∷ []) (subst (λ x. Spells instr (x ∷ [])) same s) t
spelled_once mem a instr other (one {word = v} v_is s) (two {first = w} {second = u} w_is u_is t) =
    let same : v ≡ w = cc in
    (same_front instr other (w ∷ []) (w ∷ u ∷ []) (u ∷ []) [] (subst (λ x. Spells instr (x ∷ [])) same s) t refl).0
spelled_once mem a instr other (two {first = v} {second = u} v_is u_is s) (one {word = w} w_is t) =
    let same : v ≡ w = cc in
    (same_front instr other (w ∷ u ∷ []) (w ∷ []) [] (u ∷ []) (subst (λ x. Spells instr (x ∷ u ∷ [])) same s) t refl).0
spelled_once mem a instr other (two {first = v} {second = u} v_is u_is s) (two {first = w} {second = x} w_is x_is t) =
    let first_same : v ≡ w = cc in
    let second_same : u ≡ x = cc in
    same_spelling instr other (w ∷ x ∷ []) (subst (λ y. Spells instr (y ∷ x ∷ [])) first_same (subst (λ y. Spells instr (v ∷ y ∷ [])) second_same s)) t

-- one thing stands at a place
pub same_standing : {F : List OpKind} {R : List ℕ} {p after after' : Place} {act act' : Act Place} → Stands F R p act after → Stands F R p act' after' → (act ≡ act') × (after ≡ after')
same_standing (in_frame {i = i} {op = op} is act_is) (in_frame {op = op'} is' act_is') =
    let same : op ≡ op' = cc in (act_is ∙ ap op_act same ∙ sym act_is', refl)
same_standing {F} {R} (in_rom {a = a} {instr = instr} spelled act_is) (in_rom {instr = instr'} spelled' act_is') =
    let same = spelled_once (rom_word R) a instr instr' spelled spelled' in
    (act_is ∙ ap (act_by InRom) same ∙ sym act_is', ap (λ x. InRom (a + word_count x)) same)

-- no ROM word has an address outside the ROM
outside_none : (R : List ℕ) (a word : ℕ) → rom_word R a ≡ None → rom_word R a ≡ Some word → ⊥
outside_none R a word outside is = let none : ◌≡◌ {A = Option ℕ} None (Some word) = sym outside ∙ is in cc

-- nothing is spelled where a second word lies outside the ROM
cut_none : (R : List ℕ) (a word : ℕ) (instr : Instr) → SpelledAt (rom_word R) a instr → rom_word R a ≡ Some word → IsFirst word → rom_word R (a + 1) ≡ None → ⊥
cut_none R a word instr (one {word = v} v_is spells) is first outside =
    let same : word ≡ v = cc in
    rest_begins_none (v ∷ []) (subst IsFirst same first) instr 1 (record { front = v ∷ []; after = []; parts = refl; spells = spells; counted = refl })
cut_none R a word instr (two {second = u} v_is u_is spells) is first outside = outside_none R (a + 1) u outside u_is

-- how an act leads on, and how its way does
past_goes : (act : Act Place) (after : Place) → GoesPast act → LeadsOn (way act after)
past_goes (Moves instr) after goes = goes
past_goes (Jumps q) after goes = goes
past_goes (Calls q) after goes = goes
past_goes Returns after goes = goes
past_goes Halts after goes = goes

goes_past : (act : Act Place) (after : Place) → LeadsOn (way act after) → GoesPast act
goes_past (Moves instr) after goes = goes
goes_past (Jumps q) after goes = goes
goes_past (Calls q) after goes = goes
goes_past Returns after goes = goes
goes_past Halts after goes = goes

names_outside : (R : List ℕ) (act : Act Place) (after : Place) (a : ℕ) → Names act (InRom a) → rom_word R a ≡ None → LeadsOutside R (way act after)
names_outside R (Moves instr) after a named outside = absurd named
names_outside R (Jumps q) after a named outside = subst (Outside R) (sym named) outside
names_outside R (Calls q) after a named outside = inl (subst (Outside R) (sym named) outside)
names_outside R Returns after a named outside = named
names_outside R Halts after a named outside = named

past_outside : (R : List ℕ) (act : Act Place) (after : Place) → GoesPast act → Outside R after → LeadsOutside R (way act after)
past_outside R (Moves instr) after goes outside = outside
past_outside R (Jumps q) after goes outside = absurd goes
past_outside R (Calls q) after goes outside = inr outside
past_outside R Returns after goes outside = absurd goes
past_outside R Halts after goes outside = absurd goes

module _ (F : List OpKind) (R : List ℕ) where
  -- what is wrong by the way is wrong on paper
  bad_target : {p after : Place} {act : Act Place} (q : Place) (d : ℕ) → Stands F R p act after → Names act q → Outside R q → Bad F R p d (OutOfRom p)
  bad_target (InFrame j) d stands named outside = absurd outside
  bad_target (InRom a) d stands named outside = target a stands named outside

  bad_past : {p after : Place} {act : Act Place} (d : ℕ) → Stands F R p act after → GoesPast act → Outside R after → Bad F R p d (OutOfRom p)
  bad_past d (in_frame is act_is) goes outside = absurd outside
  bad_past d (in_rom spelled act_is) goes outside = past (in_rom spelled act_is) goes outside

  bad_outside : {p : Place} (act : Act Place) (after : Place) (d : ℕ) → Stands F R p act after → LeadsOutside R (way act after) → Bad F R p d (OutOfRom p)
  bad_outside (Moves instr) after d stands outside = bad_past d stands tt outside
  bad_outside (Jumps q) after d stands outside = bad_target q d stands refl outside
  bad_outside (Calls q) after d stands outside = ⊎_elim (bad_target q d stands refl) (bad_past d stands tt) outside
  bad_outside Returns after d stands outside = absurd outside
  bad_outside Halts after d stands outside = absurd outside

  bad_deep : {p : Place} (act : Act Place) (after : Place) (d : ℕ) → Stands F R p act after → IsCall (way act after) → d ≡ DEEPEST → Bad F R p d (TooDeep p)
  bad_deep (Calls q) after d stands is depth = deep stands depth
  bad_deep (Moves instr) after d stands is depth = absurd is
  bad_deep (Jumps q) after d stands is depth = absurd is
  bad_deep Returns after d stands is depth = absurd is
  bad_deep Halts after d stands is depth = absurd is

  bad_bare : {p : Place} (act : Act Place) (after : Place) (d : ℕ) → Stands F R p act after → IsReturn (way act after) → d ≡ 0 → Bad F R p d (NoCaller p)
  bad_bare Returns after d stands is depth = bare stands depth
  bad_bare (Moves instr) after d stands is depth = absurd is
  bad_bare (Jumps q) after d stands is depth = absurd is
  bad_bare (Calls q) after d stands is depth = absurd is
  bad_bare Halts after d stands is depth = absurd is

  bad_by : (p : Place) (d : ℕ) (act : Act Place) (after : Place) (fault : FrameFault) → Stands F R p act after → HasFaultAt R (length F) (record { place = p; depth = d }) (way act after) fault → Bad F R p d fault
  bad_by p d act after (RunsOff i) stands has =
      subst (λ x. Bad F R x d (RunsOff i)) (sym has.0) (last (subst (λ x. Stands F R x act after) has.0 stands) (goes_past act after has.2) has.1)
  bad_by p d act after (OutOfRom q) stands has = subst (λ x. Bad F R p d (OutOfRom x)) has.0 (bad_outside act after d stands has.1)
  bad_by p d act after (TooDeep q) stands has = subst (λ x. Bad F R p d (TooDeep x)) has.0 (bad_deep act after d stands has.1 has.2)
  bad_by p d act after (NoCaller q) stands has = subst (λ x. Bad F R p d (NoCaller x)) has.0 (bad_bare act after d stands has.1 has.2)
  bad_by p d act after _ stands has = absurd has

  -- and what is wrong on paper is wrong by the way
  cut_stands : {a word : ℕ} {act : Act Place} {after : Place} → Stands F R (InRom a) act after → rom_word R a ≡ Some word → IsFirst word → rom_word R (a + 1) ≡ None → ⊥
  cut_stands {a} {word} (in_rom {instr = instr} spelled act_is) is first outside = cut_none R a word instr spelled is first outside

  by_bad : {p : Place} {d : ℕ} {fault : FrameFault} (act : Act Place) (after : Place) → Stands F R p act after → Bad F R p d fault → HasFaultAt R (length F) (record { place = p; depth = d }) (way act after) fault
  by_bad act after stands (last {act = b} {after = q} stood goes end) =
      let same = same_standing stood stands in
      (refl, end, subst (λ x. LeadsOn (way act x)) same.1 (subst (λ x. LeadsOn (way x q)) same.0 (past_goes b q goes)))
  by_bad act after stands (target {after = q} {act = b} a stood named outside) =
      let same = same_standing stood stands in
      (refl, subst (λ x. LeadsOutside R (way act x)) same.1 (subst (λ x. LeadsOutside R (way x q)) same.0 (names_outside R b q a named outside)))
  by_bad act after stands (second is first outside) = absurd (cut_stands stands is first outside)
  by_bad act after stands (past {b = e} {act = b} stood goes outside) =
      let same = same_standing stood stands in
      (refl, subst (λ x. LeadsOutside R (way act x)) same.1 (subst (λ x. LeadsOutside R (way x (InRom e))) same.0 (past_outside R b (InRom e) goes outside)))
  by_bad act after stands (deep stood depth) =
      let same = same_standing stood stands in
      (refl, subst (λ x. IsCall (way x after)) same.0 tt, depth)
  by_bad act after stands (bare stood depth) =
      let same = same_standing stood stands in
      (refl, subst (λ x. IsReturn (way x after)) same.0 tt, depth)

  pub in_list : (p : Place) (i n : ℕ) → IsPlaceOf F R p → p ≡ InFrame i → n ≡ i → n < length F
  in_list p i n inside place n_is = let here = subst (IsPlaceOf F R) place inside in let low = here.0 in omega arith

  pub stands_there : (p : Place) (i n : ℕ) (op kind : OpKind) (seen : Way) → p ≡ InFrame i → n ≡ i → slice_get F n ≡ Some op → kind ≡ op → seen ≡ way (op_act kind) (InFrame (i + 1)) → StandsSo F R p seen
  stands_there p i n op kind seen place n_is is kind_is seen_is =
      subst (λ x. StandsSo F R x seen) (sym place)
      (record { act = op_act kind; after = InFrame (i + 1); stands = in_frame (subst (λ k. slice_get F k ≡ Some op) n_is is) (ap op_act kind_is); is = seen_is })

  pub least_there : (pair : Pair) (count : ℕ) (seen : Way) (fault : FrameFault) → count ≡ length F → StandsSo F R pair.place seen → IsLeast (HasFaultAt R count pair seen) fault
      → IsLeast (Bad F R pair.place pair.depth) fault
  least_there pair count seen fault count_is so found =
      let here : IsLeast (HasFaultAt R (length F) pair (way so.act so.after)) fault =
      subst (λ x. IsLeast (HasFaultAt R (length F) pair x) fault) so.is (subst (λ n. IsLeast (HasFaultAt R n pair seen) fault) count_is found) in
      record {
        holds = bad_by pair.place pair.depth so.act so.after fault so.stands here.holds;
        least = λ other bad. here.least other (by_bad so.act so.after so.stands bad);
      }

  pub fine_there : (pair : Pair) (count : ℕ) (seen : Way) → count ≡ length F → StandsSo F R pair.place seen → ((fault : FrameFault) → ¬ HasFaultAt R count pair seen fault) → IsFine F R pair.place pair.depth
  fine_there pair count seen count_is so none fault bad =
      let here : HasFaultAt R (length F) pair (way so.act so.after) fault = by_bad so.act so.after so.stands bad in
      none fault (subst (λ n. HasFaultAt R n pair seen fault) (sym count_is) (subst (λ x. HasFaultAt R (length F) pair x fault) (sym so.is) here))

  -- where the ROM ends within an instruction, its second word lies outside
  cut_least : {p : Place} {d : ℕ} {fault : FrameFault} → EndsWithin R p → Bad F R p d fault → 6 ≤ rank fault
  cut_least ends (last stands goes end) = absurd ends
  cut_least ends (target a stands named outside) = omega arith
  cut_least ends (second is first outside) = omega arith
  cut_least ends (past stands goes outside) = omega arith
  cut_least ends (deep stands depth) = omega arith
  cut_least ends (bare stands depth) = omega arith

  cut_bad : (p : Place) (d : ℕ) → EndsWithin R p → Bad F R p d (OutOfRom p)
  cut_bad (InFrame i) d ends = absurd ends
  cut_bad (InRom a) d ends = let (word, is, first, end) = ends in second is first (none_there R (a + 1) (inr (omega arith)))

  pub cut_there : (pair : Pair) → EndsWithin R pair.place → IsLeast (Bad F R pair.place pair.depth) (OutOfRom pair.place)
  cut_there pair ends = record { holds = cut_bad pair.place pair.depth ends; least = λ other bad. cut_least ends bad }
