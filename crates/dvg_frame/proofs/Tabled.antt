-- The table of what is drawn from each place, and how it grows.
use Rattle.std.proofs.Common.{◌≡◌, ℕ, suc, ◌+◌, ◌-◌, ◌<◌, ◌≤◌, ◌⊎◌, inl, inr, ⊎_elim, Option, Some, None, true, false}
use Rattle.std.proofs.Common.{List, [], ◌∷◌, ◌++◌, length, set, append_assoc, refl, sym, ap, ◌∙◌, subst}
use Rattle.std.proofs.Common.{arith}
use Rattle.std.proofs.lemmas.Bool.{cases_lt, cases_eq}
use Rattle.dvg_code.specs.Spelling.{word_count}
use Rattle.dvg_code.specs.Acts.{Act, Moves, Jumps, Calls, Returns as GoesBack, Halts as Stops}
use Rattle.dvg_code.specs.declared.instr.Instr.{Instr}
use Rattle.dvg_mem.proofs.Roms.{none_there}
use Rattle.dvg_frame.specs.declared.op.OpKind.{OpKind}
use Rattle.dvg_frame.specs.declared.checking.pair.TheConstants.{PLACES}
use Rattle.dvg_frame.specs.declared.place.Place.{Place}
use Rattle.dvg_frame.specs.declared.place.Place.TheVariants.{InFrame, InRom}
use Rattle.dvg_frame.specs.declared.checking.table.Drawn.{Drawn}
use Rattle.dvg_frame.specs.declared.checking.table.Ending.{Ending}
use Rattle.dvg_frame.specs.declared.checking.table.Ending.TheVariants.{Halts, Returns}
use Rattle.dvg_frame.specs.declared.checking.way.Way.{Way}
use Rattle.dvg_frame.specs.declared.checking.way.Way.TheVariants.{Move, Jump, Call, Return, Halt}
use Rattle.dvg_frame.specs.declared.checking.way.Span.TheVariants.{Over, Into}
use Rattle.dvg_frame.specs.declared.fault.FrameFault.TheVariants.{RunsOff, OutOfRom, TooDeep, NoCaller}
use Rattle.dvg_frame.specs.own.Pairs.{IsPlace, pair_of, place_index}
use Rattle.dvg_frame.specs.Steps.{Stands, last, target, second, past, deep, bare, IsFine, Leads, on, jump, call, back}
use Rattle.dvg_frame.specs.Steps.{Reached, step, IsWellFormed}
use Rattle.dvg_frame.specs.Picture.{End, AtHalt, AtReturn}
use Rattle.dvg_frame.specs.Loops.{Walks, none, more, HasLoop}
use Rattle.dvg_frame.specs.own.Ways.{way, span, StandsSo, IsPlaceOf, EndsWithin}
use Rattle.dvg_frame.specs.own.Tables.{AllFine, Knows, known_at, KeepsKnown, end_of, FitsAt, IsDrawnFrom, IsKnown}
use Rattle.dvg_frame.specs.own.Tables.{IsTable, Next, StepsOn, IsGood, IsReady, Linked, HasChain, onward, last_drawn, IsLonger}
use Rattle.dvg_frame.specs.own.Tables.{IsCalled, places}
use Rattle.dvg_frame.proofs.FaultsAtPlaces.{same_standing}
use Rattle.dvg_frame.proofs.Marks.{same_place}
use Rattle.dvg_frame.proofs.OneEntryMore.{put_here, put_other}
use Rattle.dvg_frame.proofs.Swept.{few_ops, in_place, after_in, target_in, reached_pair}
use Rattle.dvg_frame.proofs.Walks.{goes_from, goes_once, leads_from}
use Rattle.dvg_frame.proofs.Bounded.{Drawn as DrawnSo, drawn_moves, drawn_jumps, drawn_call_halts, drawn_calls}
use Rattle.dvg_frame.proofs.Bounded.{drawn_returns, drawn_halts}

-- what stands where a way leads on
abbrev pub StandsAs : (F : List OpKind) (R : List ℕ) → Place → Way → Type 0
StandsAs F R p (Move after words) = (instr : Instr) × Stands F R p (Moves instr) after × (words ≡ word_count instr)
StandsAs F R p (Jump to) = (after : Place) × Stands F R p (Jumps to) after
StandsAs F R p (Call to after) = Stands F R p (Calls to) after
StandsAs F R p Return = (after : Place) × Stands F R p GoesBack after
StandsAs F R p Halt = (after : Place) × Stands F R p Stops after

module _ (F : List OpKind) (R : List ℕ) where
  by_act : (p : Place) (act : Act Place) (after : Place) → Stands F R p act after → StandsAs F R p (way act after)
  by_act p (Moves instr) after stands = (instr, stands, refl)
  by_act p (Jumps to) after stands = (after, stands)
  by_act p (Calls to) after stands = stands
  by_act p GoesBack after stands = (after, stands)
  by_act p Stops after stands = (after, stands)

  pub stands_as : (p : Place) (seen : Way) → StandsSo F R p seen → StandsAs F R p seen
  stands_as p seen so = subst (StandsAs F R p) (sym so.is) (by_act p so.act so.after so.stands)

  -- walks that come to an end
  abbrev pub Ends : Place → Type 0
  Ends p = (k : ℕ) × ((d : ℕ) (q : Place) → ¬ Walks F R d p k q)

  first_step : {d k : ℕ} {p q : Place} → Walks F R d p (suc k) q
      → (next : Place) × Leads F R p d next d × Walks F R d next k q
  first_step (more {q = next} leads walk) = (next, leads, walk)

  ends_more : (p q : Place) → StepsOn F R p q → Ends q → Ends p
  ends_more p q goes ends = (
    suc ends.0,
    λ d r walk.
        let it = first_step walk in
        let same : it.0 ≡ q = goes_once F R p it.0 q (goes_from F R it.1) goes in
        ends.1 d r (subst (λ x. Walks F R d x ends.0 r) same it.2),
  )

  ends_here : (p : Place) → ((q : Place) → ¬ StepsOn F R p q) → Ends p
  ends_here p nowhere = (1, λ d r walk. let it = first_step walk in nowhere it.0 (goes_from F R it.1))

  pub goes_move : {p after : Place} {instr : Instr} → Stands F R p (Moves instr) after → StepsOn F R p after
  goes_move {after = after} stands = record { act = _; after = after; stands = stands; next = refl }

  pub goes_jump : {p to after : Place} → Stands F R p (Jumps to) after → StepsOn F R p to
  goes_jump {after = after} stands = record { act = _; after = after; stands = stands; next = refl }

  pub goes_call : {p to after : Place} → Stands F R p (Calls to) after → StepsOn F R p after
  goes_call {after = after} stands = record { act = _; after = after; stands = stands; next = refl }

  stops_back : {p after q : Place} → Stands F R p GoesBack after → StepsOn F R p q → ⊥
  stops_back {q = q} stands goes =
      let same = same_standing goes.stands stands in
      subst (λ x. Next x goes.after q) same.0 goes.next

  stops_halt : {p after q : Place} → Stands F R p Stops after → StepsOn F R p q → ⊥
  stops_halt {q = q} stands goes =
      let same = same_standing goes.stands stands in
      subst (λ x. Next x goes.after q) same.0 goes.next

  -- a place that is fine at one depth, at another one
  fine_at : {p : Place} {act : Act Place} {after : Place} (d e : ℕ) → Stands F R p act after → IsFine F R p d
      → ((to : Place) → act ≡ Calls to → e ≡ 4 → ⊥) → (act ≡ GoesBack → e ≡ 0 → ⊥) → IsFine F R p e
  fine_at d e stands fine not_deep not_bare fault (last {i = i} stood goes end) = fine (RunsOff i) (last stood goes end)
  fine_at {p} d e stands fine not_deep not_bare fault (target a stood named outside) =
      fine (OutOfRom p) (target a stood named outside)
  fine_at {p} d e stands fine not_deep not_bare fault (second is first outside) =
      fine (OutOfRom p) (second is first outside)
  fine_at {p} d e stands fine not_deep not_bare fault (past stood goes outside) =
      fine (OutOfRom p) (past stood goes outside)
  fine_at d e stands fine not_deep not_bare fault (deep {to = to} stood depth) =
      not_deep to (same_standing stands stood).0 depth
  fine_at d e stands fine not_deep not_bare fault (bare stood depth) = not_bare (same_standing stands stood).0 depth

  -- a step of what calls nothing stays at its depth
  stays : {p q r : Place} {act : Act Place} {after : Place} {d e : ℕ} → Stands F R p act after
      → ((to : Place) → act ≡ Calls to → ⊥) → StepsOn F R p q → Leads F R p d r e → (e ≡ d) × (q ≡ r)
  stays {p = p} {q = q} {r = r} {d = d} stands no_call goes (on stood) =
      (refl, goes_once F R p q r goes (goes_from F R {d = d} (on stood)))
  stays {p = p} {q = q} {r = r} {d = d} stands no_call goes (jump stood) =
      (refl, goes_once F R p q r goes (goes_from F R {d = d} (jump stood)))
  stays stands no_call goes (call {q = to} stood) = absurd (no_call to (same_standing stands stood).0)
  stays {p = p} {q = q} {r = r} {d = d} stands no_call goes (back stood) =
      (refl, goes_once F R p q r goes (goes_from F R {d = d} (back stood)))

  -- a step of a call leads to its target one deeper, or to the place after it
  from_call : {p to after r : Place} {d e : ℕ} → Stands F R p (Calls to) after → Leads F R p d r e
      → ((e ≡ suc d) × (to ≡ r)) ⊎ ((e ≡ d) × (after ≡ r))
  from_call stands (on stood) = let same = (same_standing stands stood).0 in absurd cc
  from_call stands (jump stood) = let same = (same_standing stands stood).0 in absurd cc
  from_call {to = to} stands (call {q = other} stood) =
      let same = (same_standing stands stood).0 in
      let there : to ≡ other = cc in
      inl (refl, there)
  from_call stands (back stood) = inr (refl, (same_standing stands stood).1)

  -- nothing leads on from a return or a halt
  from_back : {p after r : Place} {d e : ℕ} → Stands F R p GoesBack after → Leads F R p d r e → ⊥
  from_back stands (on stood) = let same = (same_standing stands stood).0 in cc
  from_back stands (jump stood) = let same = (same_standing stands stood).0 in cc
  from_back stands (call stood) = let same = (same_standing stands stood).0 in cc
  from_back stands (back stood) = let same = (same_standing stands stood).0 in cc

  from_halt : {p after r : Place} {d e : ℕ} → Stands F R p Stops after → Leads F R p d r e → ⊥
  from_halt stands (on stood) = let same = (same_standing stands stood).0 in cc
  from_halt stands (jump stood) = let same = (same_standing stands stood).0 in cc
  from_halt stands (call stood) = let same = (same_standing stands stood).0 in cc
  from_halt stands (back stood) = let same = (same_standing stands stood).0 in cc

-- what is fetched from a call
pub call_stands : (F : List OpKind) (R : List ℕ) (p to : Place) (seen : Way) → StandsSo F R p seen
    → span seen ≡ Into to → (after : Place) × Stands F R p (Calls to) after
call_stands F R p to seen so into = by_way seen (stands_as F R p seen so) into
  where
    by_way : (seen : Way) → StandsAs F R p seen → span seen ≡ Into to → (after : Place) × Stands F R p (Calls to) after
    by_way (Move after words) it into = absurd cc
    by_way (Jump other) it into = absurd cc
    by_way (Call other after) it into =
        let same : other ≡ to = cc in (after, subst (λ x. Stands F R p (Calls x) after) same it)
    by_way Return it into = absurd cc
    by_way Halt it into = absurd cc

-- what fits, by what it leads on to
longer_fits : (rest : Drawn) (extra : ℕ) (new : Drawn) (d : ℕ) → IsLonger rest extra new → FitsAt new d → FitsAt rest d
longer_fits rest extra new d longer fits =
    let calls = longer.calls in
    let low = fits.deep in
    record { deep = omega arith; back = λ is. fits.back (longer.returns ∙ is) }

fits_longer : (rest : Drawn) (extra : ℕ) (new : Drawn) (d : ℕ) → IsLonger rest extra new → FitsAt rest d → FitsAt new d
fits_longer rest extra new d longer fits =
    let calls = longer.calls in
    let low = fits.deep in
    record { deep = omega arith; back = λ is. fits.back (sym longer.returns ∙ is) }

rest_fits : (inside rest new : Drawn) (d : ℕ) → IsCalled inside rest new → FitsAt new d → FitsAt rest d
rest_fits inside rest new d called fits =
    let calls = called.rest_calls in
    let low = fits.deep in
    record { deep = omega arith; back = λ is. fits.back (called.returns ∙ is) }

inside_fits : (inside rest new : Drawn) (d : ℕ) → IsCalled inside rest new → FitsAt new d → FitsAt inside (suc d)
inside_fits inside rest new d called fits =
    let low = fits.deep in
    let calls = called.deeper (omega arith) in
    record { deep = omega arith; back = λ is. omega arith }

fits_called : (inside rest new : Drawn) (d : ℕ) → IsCalled inside rest new → FitsAt inside (suc d) → FitsAt rest d
    → FitsAt new d
fits_called inside rest new d called deeper fits =
    let high = deeper.deep in
    let low = fits.deep in
    let calls = called.least (4 - d) (omega arith) (omega arith) in
    record { deep = omega arith; back = λ is. fits.back (sym called.returns ∙ is) }

module _ (F : List OpKind) (R : List ℕ) (begins : IsWellFormed F) (table : List (Option Drawn)) (p : Place) (d : ℕ)
    (good : IsGood F R d p) where
  reached_low : (e : ℕ) → Reached F R p e → e ≤ 4
  reached_low e reached = (reached_pair F R (few_ops F begins) begins (pair_of p e) reached).depth

  -- from a return, and from a halt
  known_return : (after : Place) → Stands F R p GoesBack after
      → IsKnown F R table p (record { words = 1; end = Returns; returns = true; calls = 0 })
  known_return after stands = record {
    fine = λ e fits.
        let some = fits.back refl in
        fine_at F R d e stands good.fine (λ to same. absurd cc) (λ same bare. omega arith);
    leads = λ e r k fits leads. absurd (from_back F R stands leads);
    tight = λ all e reached. record {
      deep = let low = reached_low e reached in omega arith;
      back = λ some.
          ⊎_elim (λ less. less) (λ no_less. absurd (all p e reached (NoCaller p) (bare stands (omega arith))))
          (cases_lt 0 e);
    };
    draws = record {
      count = 1;
      few = λ low. refl;
      draws = drawn_returns F R stands;
      ends = ends_here F R p (λ q goes. stops_back F R stands goes);
    };
  }

  known_halt : (after : Place) → Stands F R p Stops after
      → IsKnown F R table p (record { words = 1; end = Halts; returns = false; calls = 0 })
  known_halt after stands = record {
    fine = λ e fits. fine_at F R d e stands good.fine (λ to same. absurd cc) (λ same bare. absurd cc);
    leads = λ e r k fits leads. absurd (from_halt F R stands leads);
    tight = λ all e reached. record {
      deep = let low = reached_low e reached in omega arith;
      back = λ some. let never : false ≡ true = some in absurd cc;
    };
    draws = record {
      count = 1;
      few = λ low. refl;
      draws = drawn_halts F R stands;
      ends = ends_here F R p (λ q goes. stops_halt F R stands goes);
    };
  }

  -- what is drawn where a way leads nowhere
  pub ending_known : (seen : Way) → StandsSo F R p seen → onward seen ≡ None → IsKnown F R table p (last_drawn seen)
  ending_known seen so nowhere = by_way seen (stands_as F R p seen so) nowhere
    where
      by_way : (seen : Way) → StandsAs F R p seen → onward seen ≡ None → IsKnown F R table p (last_drawn seen)
      by_way (Move after words) it never = absurd cc
      by_way (Jump to) it never = absurd cc
      by_way (Call to after) it never = absurd cc
      by_way Return it nowhere = known_return it.0 it.1
      by_way Halt it nowhere = known_halt it.0 it.1

module _ (F : List OpKind) (R : List ℕ) (table : List (Option Drawn)) (p : Place) (d : ℕ) (rest : Drawn)
    (ready : IsReady F R table p d rest) where
  knows_next : (q : Place) → StepsOn F R p q → Knows table q rest
  knows_next q goes = subst (λ x. Knows table x rest) (goes_once F R p ready.next q ready.goes goes) ready.knows

  goes_place : (q : Place) → StepsOn F R p q → IsPlace q
  goes_place q goes = (knows_next q goes).0

  -- from an act that leads to one place alone
  module _ (act : Act Place) (after q : Place) (new : Drawn) (longer_by : ℕ) (stands : Stands F R p act after)
      (no_call : (to : Place) → act ≡ Calls to → ⊥) (no_back : act ≡ GoesBack → ⊥) (goes : StepsOn F R p q)
      (longer : IsLonger rest longer_by new)
      (counted : (end : End) (n : ℕ) → DrawnSo F R q end n → DrawnSo F R p end (n + longer_by)) where
    is : known_at table q ≡ Some rest
    is = (knows_next q goes).1

    below : IsKnown F R table q rest
    below = ready.entries q rest (goes_place q goes) is

    known_on : IsKnown F R table p new
    known_on = record {
      fine = λ e fits. fine_at F R d e stands ready.good.fine (λ to is deepest. no_call to is) (λ is bare. no_back is);
      leads = λ e r k fits leads.
          let same = stays F R stands no_call goes leads in
          record {
            inside = subst IsPlace same.1 (goes_place q goes);
            drawn = rest;
            known = subst (λ x. known_at table x ≡ Some rest) same.1 is;
            fits = subst (FitsAt rest) (sym same.0) (longer_fits rest longer_by new e longer fits);
          };
      tight = λ all e reached.
          let next = step reached (all p e reached) (leads_from F R p q e goes) in
          fits_longer rest longer_by new e longer (below.tight all e next);
      draws = record {
        count = below.draws.count + longer_by;
        few = λ low. let words = below.draws.few (omega arith) in let sum = longer.sum (omega arith) in omega arith;
        draws = subst (λ e. DrawnSo F R p (end_of e) (below.draws.count + longer_by)) (sym longer.end)
            (counted (end_of rest.end) below.draws.count below.draws.draws);
        ends = ends_more F R p q goes below.draws.ends;
      };
    }

  -- from a call
  module _ (to after : Place) (inside new : Drawn) (stands : Stands F R p (Calls to) after)
      (knows : Knows table to inside) (called : IsCalled inside rest new) where
    deeper : IsKnown F R table to inside
    deeper = ready.entries to inside knows.0 knows.1

    rest_is : known_at table after ≡ Some rest
    rest_is = (knows_next after (goes_call F R stands)).1

    rest_known : IsKnown F R table after rest
    rest_known = ready.entries after rest (goes_place after (goes_call F R stands)) rest_is

    call_draws : (end : Ending) → inside.end ≡ end → IsDrawnFrom F R p new
    call_draws Halts ends =
        let by = called.halts ends in
        let drew : DrawnSo F R to AtHalt deeper.draws.count =
        subst (λ e. DrawnSo F R to (end_of e) deeper.draws.count) ends deeper.draws.draws in
        record {
          count = suc deeper.draws.count;
          few = λ low. let words = deeper.draws.few (omega arith) in let sum = by.1 (omega arith) in omega arith;
          draws = subst (λ e. DrawnSo F R p (end_of e) (suc deeper.draws.count)) (sym by.0)
              (drawn_call_halts F R deeper.draws.count stands drew);
          ends = ends_more F R p after (goes_call F R stands) rest_known.draws.ends;
        }
    call_draws Returns ends =
        let by = called.goes_on ends in
        let drew : DrawnSo F R to AtReturn deeper.draws.count =
        subst (λ e. DrawnSo F R to (end_of e) deeper.draws.count) ends deeper.draws.draws in
        record {
          count = suc (deeper.draws.count + rest_known.draws.count);
          few = λ low.
              let words = deeper.draws.few (omega arith) in
              let others = rest_known.draws.few (omega arith) in
              let sum = by.1 (omega arith) in
              omega arith;
          draws = subst (λ e. DrawnSo F R p (end_of e) (suc (deeper.draws.count + rest_known.draws.count))) (sym by.0)
              (drawn_calls F R (end_of rest.end) deeper.draws.count rest_known.draws.count stands drew rest_known.draws.draws);
          ends = ends_more F R p after (goes_call F R stands) rest_known.draws.ends;
        }

    known_call : IsKnown F R table p new
    known_call = record {
      fine = λ e fits.
          let low = (inside_fits inside rest new e called fits).deep in
          fine_at F R d e stands ready.good.fine (λ to is deepest. omega arith) (λ is bare. cc);
      leads = λ e r k fits leads.
          ⊎_elim
          (λ same. record {
            inside = subst IsPlace same.1 knows.0;
            drawn = inside;
            known = subst (λ x. known_at table x ≡ Some inside) same.1 knows.1;
            fits = subst (FitsAt inside) (sym same.0) (inside_fits inside rest new e called fits);
          })
          (λ same. record {
            inside = subst IsPlace same.1 (goes_place after (goes_call F R stands));
            drawn = rest;
            known = subst (λ x. known_at table x ≡ Some rest) same.1 rest_is;
            fits = subst (FitsAt rest) (sym same.0) (rest_fits inside rest new e called fits);
          })
          (from_call F R stands leads);
      tight = λ all e reached.
          let fine = all p e reached in
          fits_called inside rest new e called (deeper.tight all (suc e) (step reached fine (call stands)))
          (rest_known.tight all e (step reached fine (back stands)));
      draws = call_draws inside.end refl;
    }

  -- the same by what is fetched to where the way leads on
  pub by_over : (seen : Way) (words : ℕ) (new : Drawn) → StandsSo F R p seen → span seen ≡ Over words
      → IsLonger rest words new → IsKnown F R table p new
  by_over seen words new so over longer = by_way seen (stands_as F R p seen so) over
    where
      by_way : (seen : Way) → StandsAs F R p seen → span seen ≡ Over words → IsKnown F R table p new
      by_way (Move after count) it over =
          known_on (Moves it.0) after after new words it.1 (λ to same. cc) (λ same. cc) (goes_move F R it.1) longer
          (λ end n drawn.
          let counted = it.2 in
          let same : count ≡ words = cc in
          let sum : word_count it.0 + n ≡ n + words = omega arith in
          subst (DrawnSo F R p end) sum (drawn_moves F R end n it.1 drawn))
      by_way (Jump to) it over =
          known_on (Jumps to) it.0 to new words it.1 (λ other same. cc) (λ same. cc) (goes_jump F R it.1) longer
          (λ end n drawn.
          let same : 1 ≡ words = cc in
          let sum : suc n ≡ n + words = omega arith in
          subst (DrawnSo F R p end) sum (drawn_jumps F R end n it.1 drawn))
      by_way (Call to after) it over = absurd cc
      by_way Return it over = absurd (stops_back F R it.1 ready.goes)
      by_way Halt it over = absurd (stops_halt F R it.1 ready.goes)

  pub by_into : (seen : Way) (to : Place) (inside new : Drawn) → StandsSo F R p seen → span seen ≡ Into to
      → Knows table to inside → IsCalled inside rest new → IsKnown F R table p new
  by_into seen to inside new so into knows called =
      let it = call_stands F R p to seen so into in
      known_call to it.0 inside new it.1 knows called

  pub here_place : IsPlace p
  here_place = in_place F R p ready.good.inside

-- what is known stays so where the table keeps what it has
pub known_keeps : (F : List OpKind) (R : List ℕ) (old new : List (Option Drawn)) (p : Place) (drawn : Drawn)
    → KeepsKnown old new → IsKnown F R old p drawn → IsKnown F R new p drawn
known_keeps F R old new p drawn keeps known = record {
  fine = known.fine;
  leads = λ d q e fits leads.
      let to = known.leads d q e fits leads in
      record { inside = to.inside; drawn = to.drawn; known = keeps q to.drawn to.inside to.known; fits = to.fits };
  tight = known.tight;
  draws = known.draws;
}

pub knows_keeps : (old new : List (Option Drawn)) (p : Place) (drawn : Drawn) → KeepsKnown old new → Knows old p drawn
    → Knows new p drawn
knows_keeps old new p drawn keeps knows = (knows.0, keeps p drawn knows.0 knows.1)

pub keeps_same : (table : List (Option Drawn)) → KeepsKnown table table
keeps_same table p drawn inside is = is

pub keeps_both : (a b c : List (Option Drawn)) → KeepsKnown a b → KeepsKnown b c → KeepsKnown a c
keeps_both a b c one two p drawn inside is = two p drawn inside (one p drawn inside is)

-- one more place
module _ (table new : List (Option Drawn)) (p : Place) (drawn : Drawn) (inside : IsPlace p)
    (none_there : known_at table p ≡ None) (size : length table ≡ PLACES)
    (is : new ≡ set table (place_index p) (Some drawn)) where
  here_is : known_at new p ≡ Some drawn
  here_is = put_here table new p (Some drawn) inside size is

  pub put_has : Knows new p drawn
  put_has = (inside, here_is)

  pub put_keeps : KeepsKnown table new
  put_keeps q other there had =
      ⊎_elim
      (λ same_index.
      let same : p ≡ q = same_place p q inside there same_index in
      let never : None ≡ Some other = sym none_there ∙ ap (known_at table) same ∙ had in
      absurd cc)
      (λ differ. put_other table new p q (Some drawn) inside there (λ same. differ (ap place_index same)) is ∙ had)
      (cases_eq (place_index p) (place_index q))

  pub put_entries : (F : List OpKind) (R : List ℕ) → IsTable F R table → IsKnown F R table p drawn → IsTable F R new
  put_entries F R entries known q other there has =
      ⊎_elim
      (λ same_index.
      let same : p ≡ q = same_place p q inside there same_index in
      let one : Some drawn ≡ Some other = sym here_is ∙ ap (known_at new) same ∙ has in
      let one_drawn : drawn ≡ other = cc in
      let kept = known_keeps F R table new p drawn put_keeps known in
      subst (λ x. IsKnown F R new x other) same (subst (IsKnown F R new p) one_drawn kept))
      (λ differ.
      let before = put_other table new p q (Some drawn) inside there (λ same. differ (ap place_index same)) is in
      known_keeps F R table new q other put_keeps (entries q other there (sym before ∙ has)))
      (cases_eq (place_index p) (place_index q))

-- where a way leads on
pub onward_goes : (F : List OpKind) (R : List ℕ) (p next : Place) (seen : Way) → StandsSo F R p seen
    → onward seen ≡ Some next → StepsOn F R p next
onward_goes F R p next seen so goes = by_way seen (stands_as F R p seen so) goes
  where
    by_way : (seen : Way) → StandsAs F R p seen → onward seen ≡ Some next → StepsOn F R p next
    by_way (Move after words) it goes = let same : after ≡ next = cc in subst (StepsOn F R p) same (goes_move F R it.1)
    by_way (Jump to) it goes = let same : to ≡ next = cc in subst (StepsOn F R p) same (goes_jump F R it.1)
    by_way (Call to after) it goes = let same : after ≡ next = cc in subst (StepsOn F R p) same (goes_call F R it)
    by_way Return it goes = absurd cc
    by_way Halt it goes = absurd cc

module _ (F : List OpKind) (R : List ℕ) (d : ℕ) where
  pub not_within : (p : Place) → IsFine F R p d → EndsWithin R p → ⊥
  not_within (InFrame i) fine never = never
  not_within (InRom a) fine it =
      fine (OutOfRom (InRom a)) (second it.1 it.2 (none_there R (a + 1) (inr (omega (arith, it.3)))))

  pub good_by : (p : Place) → IsPlaceOf F R p → IsFine F R p d → (AllFine F R → Reached F R p d) → IsGood F R d p
  good_by p inside fine reached = record { inside = inside; fine = fine; reached = reached }

module _ (F : List OpKind) (R : List ℕ) (begins : IsWellFormed F) (d : ℕ) where
  -- where a place without a fault leads on to, there is a place
  pub goes_in : (p q : Place) → IsFine F R p d → StepsOn F R p q → IsPlaceOf F R q
  goes_in p q fine goes = by_goes goes.act goes.after goes.stands goes.next
    where
      by_goes : (act : Act Place) (after : Place) → Stands F R p act after → Next act after q → IsPlaceOf F R q
      by_goes (Moves instr) after stands is =
          subst (IsPlaceOf F R) is (after_in F R (few_ops F begins) begins d stands tt fine)
      by_goes (Jumps to) after stands is =
          subst (IsPlaceOf F R) is (target_in F R (few_ops F begins) begins to d stands refl fine)
      by_goes (Calls to) after stands is =
          subst (IsPlaceOf F R) is (after_in F R (few_ops F begins) begins d stands tt fine)
      by_goes GoesBack after stands is = absurd is
      by_goes Stops after stands is = absurd is

  pub goes_good : (p q : Place) → IsGood F R d p → StepsOn F R p q → AllFine F R → Reached F R q d
  goes_good p q good goes all = step (good.reached all) good.fine (leads_from F R p q d goes)

  pub call_in : (p to after : Place) → IsGood F R d p → Stands F R p (Calls to) after → IsPlaceOf F R to
  call_in p to after good stands = target_in F R (few_ops F begins) begins to d stands refl good.fine

  pub call_low : (p to after : Place) → IsGood F R d p → Stands F R p (Calls to) after → d ≡ 4 → ⊥
  call_low p to after good stands deepest = good.fine (TooDeep p) (deep stands deepest)

  pub call_reached : (p to after : Place) → IsGood F R d p → Stands F R p (Calls to) after → AllFine F R
      → Reached F R to (d + 1)
  call_reached p to after good stands all =
      let one : suc d ≡ d + 1 = omega arith in
      subst (Reached F R to) one (step (good.reached all) good.fine (call stands))

  linked_walk : (start end : Place) (passed : List Place) → Linked F R d start passed end
      → Walks F R d start (length passed) end
  linked_walk start end [] linked = subst (λ x. Walks F R d start 0 x) linked none
  linked_walk start end (place ∷ passed) linked =
      let rest = linked.2 in
      let walk = linked_walk rest.0 end passed rest.2 in
      subst (λ x. Walks F R d x (suc (length passed)) end) (sym linked.0)
      (more (leads_from F R place rest.0 d rest.1) walk)

  pub linked_push : (start end next : Place) (passed : List Place) → Linked F R d start passed end → IsGood F R d end
      → StepsOn F R end next → Linked F R d start (passed ++ end ∷ []) next
  linked_push start end next [] linked good goes = (linked, good, (next, goes, refl))
  linked_push start end next (first ∷ passed) linked good goes =
      let rest = linked.2 in
      (linked.0, linked.1, (rest.0, rest.1, linked_push rest.0 end next passed rest.2 good goes))

  pub linked_loops : (start end : Place) (passed : List Place) → (AllFine F R → Reached F R start d)
      → Linked F R d start passed end → length passed ≡ 1 + places F R → AllFine F R → HasLoop F R
  linked_loops start end passed reached linked count all =
      let walk = subst (λ k. Walks F R d start k end) count (linked_walk start end passed linked) in
      record { place = start; depth = d; end = end; reached = reached all; walk = walk }

  -- the last of such places leads to where they lead
  pub linked_pop : (start end : Place) (passed : List Place) (place : Place)
      → Linked F R d start (passed ++ place ∷ []) end
      → Linked F R d start passed place × IsGood F R d place × StepsOn F R place end
  linked_pop start end [] place linked =
      let rest = linked.2 in
      (linked.0, linked.1, subst (StepsOn F R place) rest.2 rest.1)
  linked_pop start end (first ∷ passed) place linked =
      let rest = linked.2 in
      let last = linked_pop rest.0 end passed place rest.2 in
      ((linked.0, linked.1, (rest.0, rest.1, last.0)), last.1, last.2)

  -- a chain after what was there before
  pub has_linked_more : (start end next : Place) (before old new passed : List Place) → old ≡ before ++ passed
      → Linked F R d start passed end → IsGood F R d end → new ≡ old ++ end ∷ [] → StepsOn F R end next
      → (new ≡ before ++ (passed ++ end ∷ [])) × Linked F R d start (passed ++ end ∷ []) next
  has_linked_more start end next before old new passed old_is linked good new_is goes =
      let is = new_is ∙ ap (λ xs. xs ++ end ∷ []) old_is ∙ append_assoc before passed (end ∷ []) in
      (is, linked_push start end next passed linked good goes)

-- the last place of a list that is longer than what was there before
pub record Split (before passed rest : List Place) (place : Place) : Type 0 where
  pub front : List Place
  pub is : passed ≡ front ++ place ∷ []
  pub left : rest ≡ before ++ front

pub split : (before passed rest : List Place) (place : Place) → before ++ passed ≡ rest ++ place ∷ []
    → length before < length (before ++ passed) → Split before passed rest place
split [] passed rest place is longer = record { front = rest; is = is; left = refl }
split (first ∷ before) passed [] place is longer =
    let none_left : before ++ passed ≡ [] = cc in
    let count = ap length none_left in
    absurd (omega arith)
split (first ∷ before) passed (other ∷ rest) place is longer =
    let below : before ++ passed ≡ rest ++ place ∷ [] = cc in
    let same : first ≡ other = cc in
    let it = split before passed rest place below (omega arith) in
    record { front = it.front; is = it.is; left = ap (λ x. x ∷ rest) (sym same) ∙ ap (λ xs. first ∷ xs) it.left }

-- a place stays ready in a table that keeps what it had
pub ready_keeps : (F : List OpKind) (R : List ℕ) (old new : List (Option Drawn)) (p : Place) (d : ℕ) (rest : Drawn)
    → IsReady F R old p d rest → KeepsKnown old new → IsTable F R new → IsReady F R new p d rest
ready_keeps F R old new p d rest ready keeps entries = record {
  begins = ready.begins;
  good = ready.good;
  entries = entries;
  next = ready.next;
  goes = ready.goes;
  knows = knows_keeps old new ready.next rest keeps ready.knows;
}

module _ (F : List OpKind) (R : List ℕ) (begins : IsWellFormed F) (d : ℕ) where
  -- what a chain is once its last place is taken out
  pub record Popped (table : List (Option Drawn)) (old : Drawn) (start : Place)
      (before rest : List Place) (p : Place) : Type 0 where
    pub front : List Place
    pub left : rest ≡ before ++ front
    pub linked : Linked F R d start front p
    pub ready : IsReady F R table p d old

  pub popped : (table : List (Option Drawn)) (old : Drawn) (start : Place) (before all rest : List Place) (place : Place)
      → IsTable F R table → HasChain F R table d start old before all → all ≡ rest ++ place ∷ []
      → length before < length all → Popped table old start before rest place
  popped table old start before all rest place entries has is longer =
      let count = ap length has.is in
      let it = split before has.passed rest place (sym has.is ∙ is) (omega arith) in
      let linked = subst (λ passed. Linked F R d start passed has.last) it.is has.linked in
      let last = linked_pop F R begins d start has.last it.front place linked in
      record {
        front = it.front;
        left = it.left;
        linked = last.0;
        ready = record {
          begins = begins;
          good = last.1;
          entries = entries;
          next = has.last;
          goes = last.2;
          knows = has.knows;
        };
      }

  pub left_chain : (table new : List (Option Drawn)) (old drawn : Drawn) (start : Place)
      (before rest now : List Place) (p : Place) → Popped table old start before rest p → now ≡ rest
      → Knows new p drawn → HasChain F R new d start drawn before now
  left_chain table new old drawn start before rest now p out same here =
      record { passed = out.front; is = same ∙ out.left; last = p; linked = out.linked; knows = here }

  -- this is drawn from the place that was taken out, by a table that keeps what it had
  pub record IsTurn (old new : List (Option Drawn)) (p : Place) (drawn : Drawn) : Type 0 where
    pub keeps : KeepsKnown old new
    pub entries : IsTable F R new
    pub known : IsKnown F R new p drawn

  pub turn_is : (old mid new : List (Option Drawn)) (p : Place) (drawn now : Drawn) → new ≡ mid → now ≡ drawn
      → IsTurn old mid p drawn → IsTurn old new p now
  turn_is old mid new p drawn now new_is now_is turn =
      subst (λ table. IsTurn old table p now) (sym new_is) (subst (IsTurn old mid p) (sym now_is) turn)

  module _ (table : List (Option Drawn)) (p : Place) (rest : Drawn) (ready : IsReady F R table p d rest)
      (seen : Way) (so : StandsSo F R p seen) where
    pub turn_over : (words : ℕ) (drawn : Drawn) → span seen ≡ Over words → IsLonger rest words drawn
        → IsTurn table table p drawn
    turn_over words drawn over longer = record {
      keeps = keeps_same table;
      entries = ready.entries;
      known = by_over F R table p d rest ready seen words drawn so over longer;
    }

    pub turn_into : (to : Place) (new : List (Option Drawn)) (inside drawn : Drawn) → span seen ≡ Into to
        → KeepsKnown table new → IsTable F R new → Knows new to inside → IsCalled inside rest drawn
        → IsTurn table new p drawn
    turn_into to new inside drawn into keeps entries knows called = record {
      keeps = keeps;
      entries = entries;
      known = by_into F R new p d rest (ready_keeps F R table new p d rest ready keeps entries) seen to inside drawn so
          into knows called;
    }

    -- what it calls
    module _ (to : Place) (into : span seen ≡ Into to) where
      calls : (after : Place) × Stands F R p (Calls to) after
      calls = call_stands F R p to seen so into

      pub to_in : IsPlaceOf F R to
      to_in = call_in F R begins d p to calls.0 ready.good calls.1

      pub to_place : IsPlace to
      to_place = in_place F R to to_in

      pub to_low : d ≡ 4 → ⊥
      to_low = call_low F R begins d p to calls.0 ready.good calls.1

      pub to_reached : AllFine F R → Reached F R to (d + 1)
      to_reached = call_reached F R begins d p to calls.0 ready.good calls.1
