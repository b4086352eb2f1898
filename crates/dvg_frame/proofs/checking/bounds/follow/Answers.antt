use Rattle.std.proofs.Common.{◌≡◌, ◌∙◌, ◌⊎◌, inl, inr, ℕ, ◌+◌, ◌-◌, ◌*◌, ◌<◌, ◌≤◌, Fits, w64, sym, ap, arith, refl}
use Rattle.std.proofs.Common.{List, [], ◌++◌, length, append-nil, length-append, subst}
use Rattle.dvg_mem.specs.Memory.{IsRom}
use Rattle.dvg_frame.specs.declared.op.OpKind.{OpKind}
use Rattle.dvg_frame.specs.own.Tables.{IsKnown}
use Rattle.dvg_frame.specs.declared.place.Place.{Place}
use Rattle.dvg_frame.specs.declared.checking.chain.TheConstants.{LONGEST, ROOM}
use Rattle.dvg_frame.proofs.Swept.{few_ops, in_place}
use Rattle.dvg_frame.proofs.Tabled.{good_by, goes_in, goes_good, linked_loops, has_linked_more}
use Rattle.dvg_frame.proofs.Tabled.{onward_goes, ending_known, keeps_same, keeps_both}
use Rattle.dvg_frame.proofs.checking.bounds.follow.Goals as goal

few_words : (R : List ℕ) (words : ℕ) → (length R ≡ 2048) ⊎ (length R ≡ 4096) → length R ≡ 2 * words → words ≤ 2048
few_words R words (inl small) count = omega arith
few_words R words (inr large) count = omega arith

-- how many steps are taken at most
few_steps : (F : List OpKind) (R : List ℕ) (ops words places : ℕ) → length F ≤ 511 → IsRom R → ops ≡ length F
    → length R ≡ 2 * words → places ≡ words → ops + places + 1 ≤ LONGEST
few_steps F R ops words places most rom all count same =
    let few = few_words R words rom.count count in
    omega arith

fits_below : (n : ℕ) → n + 1 ≤ LONGEST → Fits w64 n
fits_below n few = omega arith

fits : (n : ℕ) → n ≤ LONGEST → Fits w64 n
fits n few = omega arith

closer : (step end : ℕ) → step < end → end - (step + 1) < end - step
closer step end low = omega arith

-- the room for the places of one depth
module _ (old new passed : List Place) (step end : ℕ) (is : new ≡ old ++ passed) (count : length passed ≡ step) where
  long : length new ≡ length old + step
  long = ap length is ∙ (length-append old passed ∙ ap (λ n. length old + n) count)

  in_room : step ≤ end → end ≤ LONGEST → length new ≤ length old + LONGEST
  in_room low few = let sum = long in omega arith

  room_left : step < end → end ≤ LONGEST → (depth : ℕ) → depth ≤ 4 → length old ≤ depth * LONGEST → length new < ROOM
  room_left low few depth deep room = let sum = long in omega arith

pub loop-step-init : goal.loop-step-init
loop-step-init g c = record {
  entries = c.requires.entries;
  kept = keeps_same _;
  passed = [];
  is = sym (append-nil _);
  linked = refl;
  count = refl;
  inside = c.requires.inside;
  reached = c.requires.reached;
}

pub returns-in-Some-clause-followed : goal.returns-in-Some-clause-followed
returns-in-Some-clause-followed g c =
    let i = c.loop-step.invariant in
    record {
      passed = i.passed;
      is = i.is;
      last = _;
      linked = i.linked;
      knows = (in_place _ _ _ i.inside, c.at.ensures ∙ c.in-Some.is);
    }

pub put_drawn-requires : goal.put_drawn-requires
put_drawn-requires g c = in_place _ _ _ c.loop-step.invariant.inside

pub returns-in-None-clause-entries : goal.returns-in-None-clause-entries
returns-in-None-clause-entries g c =
    let i = c.loop-step.invariant in
    let good = good_by _ _ _ _ i.inside c.in-Ok.ensures.0 i.reached in
    c.put_drawn.ensures.entries _ _ i.entries
    (subst (IsKnown _ _ _ _) (sym c.last_drawn-drawn.ensures)
    (ending_known _ _ c.requires.begins _ _ _ good _ c.in-Ok.ensures.1 (sym c.onward.ensures ∙ c.in-None.is)))

pub returns-in-None-clause-kept : goal.returns-in-None-clause-kept
returns-in-None-clause-kept g c = keeps_both _ _ _ c.loop-step.invariant.kept c.put_drawn.ensures.kept

pub returns-in-None-clause-followed : goal.returns-in-None-clause-followed
returns-in-None-clause-followed g c =
    let i = c.loop-step.invariant in
    record { passed = i.passed; is = i.is; last = _; linked = i.linked; knows = c.put_drawn.ensures.has }

pub loop-step-preserved : goal.loop-step-preserved
loop-step-preserved g c =
    let i = c.loop-step.invariant in
    let good = good_by _ _ _ _ i.inside c.in-Ok.ensures.0 i.reached in
    let goes = onward_goes _ _ _ _ _ c.in-Ok.ensures.1 (sym c.onward.ensures ∙ c.in-Some-onward.is) in
    let both =
    has_linked_more _ _ c.requires.begins _ _ _ _ _ _ _ i.passed i.is i.linked good c.push.ensures goes in
    record {
      entries = i.entries;
      kept = i.kept;
      passed = _;
      is = both.0;
      linked = both.1;
      count = length-append i.passed _ ∙ ap (λ n. n + 1) i.count;
      inside = goes_in _ _ c.requires.begins _ _ _ c.in-Ok.ensures.0 goes;
      reached = goes_good _ _ c.requires.begins _ _ _ good goes;
    }

pub returns-clause-followed : goal.returns-clause-followed
returns-clause-followed g c =
    let i = c.loop-step.invariant in
    let words = c.len_words.ensures.count in
    let count = i.count in
    linked_loops _ _ c.requires.begins _ _ _ i.passed c.requires.reached i.linked (omega arith)

pub overflow_add-step-end : goal.overflow_add-step-end
overflow_add-step-end g c =
    let most = few_ops _ c.requires.begins in
    let few = few_steps c.args.draft.now _ _ _ _ most c.requires.rom refl c.len_words.ensures.count c.from.ensures in
    fits_below _ few

pub overflow_add-step-end-2 : goal.overflow_add-step-end-2
overflow_add-step-end-2 g c =
    let most = few_ops _ c.requires.begins in
    let few = few_steps c.args.draft.now _ _ _ _ most c.requires.rom refl c.len_words.ensures.count c.from.ensures in
    fits _ few

pub returns-in-Some-clause-room : goal.returns-in-Some-clause-room
returns-in-Some-clause-room g c =
    let i = c.loop-step.invariant in
    let most = few_ops _ c.requires.begins in
    let few = few_steps c.args.draft.now _ _ _ _ most c.requires.rom refl c.len_words.ensures.count c.from.ensures in
    in_room _ _ _ _ _ i.is i.count c.loop-step.auto.step-end few

pub look-requires-clause-rom : goal.look-requires-clause-rom
look-requires-clause-rom g c = c.requires.rom

pub look-requires-clause-inside : goal.look-requires-clause-inside
look-requires-clause-inside g c = c.loop-step.invariant.inside

pub returns-in_default-look-clause-room : goal.returns-in_default-look-clause-room
returns-in_default-look-clause-room g c =
    let i = c.loop-step.invariant in
    let most = few_ops _ c.requires.begins in
    let few = few_steps c.args.draft.now _ _ _ _ most c.requires.rom refl c.len_words.ensures.count c.from.ensures in
    in_room _ _ _ _ _ i.is i.count c.loop-step.auto.step-end few

pub push-requires : goal.push-requires
push-requires g c =
    let i = c.loop-step.invariant in
    let most = few_ops _ c.requires.begins in
    let few = few_steps c.args.draft.now _ _ _ _ most c.requires.rom refl c.len_words.ensures.count c.from.ensures in
    record {
      room = room_left _ _ _ _ _ i.is i.count c.loop-step-test.true few _ c.requires.depth c.requires.room;
      valid = in_place _ _ _ i.inside;
    }

pub returns-in-None-clause-room : goal.returns-in-None-clause-room
returns-in-None-clause-room g c =
    let i = c.loop-step.invariant in
    let most = few_ops _ c.requires.begins in
    let few = few_steps c.args.draft.now _ _ _ _ most c.requires.rom refl c.len_words.ensures.count c.from.ensures in
    in_room _ _ _ _ _ i.is i.count c.loop-step.auto.step-end few

pub loop-step-smaller : goal.loop-step-smaller
loop-step-smaller g c = closer _ _ c.loop-step-test.true

pub returns-clause-room : goal.returns-clause-room
returns-clause-room g c =
    let i = c.loop-step.invariant in
    let most = few_ops _ c.requires.begins in
    let few = few_steps c.args.draft.now _ _ _ _ most c.requires.rom refl c.len_words.ensures.count c.from.ensures in
    in_room _ _ _ _ _ i.is i.count c.loop-step.auto.step-end few
