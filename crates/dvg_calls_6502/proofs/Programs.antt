-- For the calls of a program that builds there are drafts; and dvg_ticks comes back.
use Rattle.std.proofs.Common.{◌≡◌, ℕ, ◌+◌, Bool, true, false, List, [], ◌∷◌, refl}
use Rattle.std.proofs.Common.{sym, ap, ◌∙◌, subst, arith, Some, Option, None}
use Rattle.std.proofs.lemmas.Bool.{eqb-false, or_parts as neither}
use Rattle.std.specs.Prelude.{nat_eq, if◌then◌else◌}
use Rattle.dvg_frame.specs.declared.op.OpKind.{OpKind}
use Rattle.dvg_frame.specs.declared.op.OpKind.TheVariants.{Halt as Stop}
use Rattle.dvg_calls_6502.specs.Processor.{Cpu, run, stack_place}
use Rattle.dvg_calls_6502.specs.Board.{is_own, is_hardware}
use Rattle.dvg_calls_6502.specs.Tables.{table_of}
use Rattle.dvg_calls_6502.specs.Routines.{Enters}
use Rattle.dvg_calls_6502.specs.Calls.{Routine, Reset, Tick, Ticks, Run, Offer, Redraw, Open, Puts, Close, Call}
use Rattle.dvg_calls_6502.specs.Calls.{is_over, is_taken, entry, bounds, taken_bounds, frame_of, frame_after, Brings}
use Rattle.dvg_calls_6502.specs.Calls.{IsLeftAlone, Follows, UnlessReset, IsSessionBy, IsSession, TicksReturn, RunSpares, is_ticked, call_of}
use Rattle.dvg_calls_6502.specs.Programs.{CallBrings, renamed, with_drafts, BuildsOnly, AreBuilt, Hindsight}
use Rattle.dvg_calls_6502.proofs.TicksRun.{Leaves, ticks_go, ticks_return}
use Rattle.dvg_calls_6502.proofs.Built.{holds_in, holds_goes, run_goes_on, run_leaves}
use Rattle.dvg_calls_6502.proofs.BuildCalls.{close_some}
use Rattle.dvg_calls_6502.proofs.Sessions.{came_of, before_call, spared, unless_map}
use Rattle.dvg_calls_6502.proofs.Drafts.{is_draft, only_halt, Fits, shortest, shortest_fits, buildable, is_built}
use Rattle.dvg_calls_6502.proofs.DraftsForCalls.{MayCome, HasRoom, with_later, some_later, some_may_come}
use Rattle.dvg_calls_6502.proofs.DraftsForCalls.{call_with, Found, Finds, told, held}
use Rattle.dvg_calls_6502.proofs.DraftsForCalls.{olds', alone', follows', frame', taken_is, puts_find}

-- what dvg_ticks may change, one by one
leaves : (q : ℕ) (now before : ℕ → ℕ) → Leaves q now before → (b : ℕ) → is_ticked q b ≡ false → now b ≡ before b
leaves q now before same b is =
    let own = neither (is_own b) _ is in
    let count = neither (nat_eq b 0x1F) _ own.1 in
    let out = neither (is_hardware b) _ count.1 in
    let stack = neither (nat_eq b (stack_place q)) (nat_eq b (stack_place (q + 255))) out.1 in
    same b own.0 (eqb-false b 0x1F count.0) out.0 (eqb-false b (stack_place q) stack.0)
    (eqb-false b (stack_place (q + 255)) stack.1)

pub ticks_come_back : TicksReturn
ticks_come_back from others [] session = absurd (session 0).3.0
ticks_come_back from others (older ∷ olds) session =
    let first = session 0 in
    let ends = bounds (older ∷ olds) in
    let was = before_call (call_of Ticks from 0 others) (older ∷ olds) first.3.0 first.0.loaded first.3.1 in
    let goes = holds_goes ends.0 ends.1 (frame_of (older ∷ olds)) in
    let P = holds_in ends.0 ends.1 (frame_of (older ∷ olds)) in
    let done = ticks_return P from ends.0 ends.1 was.life goes first.0.entry first.0.a first.0.s was.holds in
    let call = call_of Ticks from done.0 others in
    let steady = (ticks_go P from ends.0 ends.1 was.life goes first.0.entry first.0.a first.0.s was.holds done.0).steady in
    let all = came_of call (older ∷ olds) (session done.0) in (
      done.0,
      all.returned ∙ done.1,
      ap (λ (k : Cpu). k.mem 0x1F) all.same.same ∙ all.same.keeps 0x1F refl ∙ done.2,
      (λ b out alone. spared call (older ∷ olds) steady (session done.0).2 b alone
          ∙ leaves from.s (run from.s done.0 from).mem from.mem done.3 b out),
    )

pub run_spares_rest : RunSpares
run_spares_rest from steps others [] session back b out alone = absurd session.3.0
run_spares_rest from steps others (older ∷ olds) session back b out alone =
    let ends = bounds (older ∷ olds) in
    let call = call_of Run from steps others in
    let was = before_call call (older ∷ olds) session.3.0 session.0.loaded session.3.1 in
    let goes = run_goes_on steps from ends.0 ends.1 (frame_of (older ∷ olds)) was.life session.0.entry session.0.s was.holds in
    let plain = sym (came_of call (older ∷ olds) session).returned ∙ back in
    spared call (older ∷ olds) goes.steady session.2 b alone
    ∙ leaves from.s (run from.s steps from).mem from.mem
    (run_leaves steps from ends.0 ends.1 (frame_of (older ∷ olds)) was.life session.0.entry session.0.s was.holds plain) b out

-- a call that neither begins a frame nor goes on with one
module _ (R : List ℕ) (call older : Call) (olds : List Call) (enters : Enters call.from (entry call.routine))
    (alone : IsLeftAlone call (older ∷ olds)) (follows : Follows call (older ∷ olds)) (finds : Finds R older olds)
    (keeps : renamed call.routine [] ≡ call.routine)
    (stays : (f : Option (ℕ × List ℕ)) → frame_after call.routine call f ≡ f)
    (brings : (f : Option (ℕ × List ℕ)) → Brings call.routine call.from f) (builds : BuildsOnly R call.routine)
    (unless : (P : Type 0) → P → UnlessReset call.routine P) where
  quiet_finds : Finds R call (older ∷ olds)
  quiet_finds = record {
    found = λ later may. made later (finds.found later
        (subst (λ f. MayCome R f later) (stays (frame_of (older ∷ olds))) may));
    room = subst HasRoom (sym (stays (frame_of (older ∷ olds)))) finds.room;
  }
    where
      made : (later : List OpKind) → Found R later older olds → Found R later call (older ∷ olds)
      made later found = record {
        draft = [];
        drafts = found.draft ∷ found.drafts;
        session = subst (λ r. IsSession (record call { routine = r } ∷ olds' R call older olds enters alone follows later found))
            (sym keeps) (
              enters,
              brings (frame_of (olds' R call older olds enters alone follows later found)),
              alone' R call older olds enters alone follows later found,
              unless _ (follows' R call older olds enters alone follows later found, found.session),
            );
        built = subst (λ r. AreBuilt R (record call { routine = r } ∷ olds' R call older olds enters alone follows later found))
            (sym keeps) (builds, unless _ found.built);
        same = ap (λ r. bounds (record call { routine = r } ∷ olds' R call older olds enters alone follows later found)) keeps
            ∙ ap (taken_bounds call.routine call) found.same;
        frame = λ here.
            ap (λ r. frame_of (record call { routine = r } ∷ olds' R call older olds enters alone follows later found)) keeps
            ∙ stays (frame_of (olds' R call older olds enters alone follows later found))
            ∙ frame' R call older olds enters alone follows later found
            ∙ ap (with_later later) (sym (stays (frame_of (older ∷ olds))));
      }

-- a call of dvg_open
module _ (R : List ℕ) (F : List OpKind) (from : Cpu) (steps : ℕ) (others : ℕ → ℕ → ℕ) (older : Call) (olds : List Call)
    (enters : Enters from 0x6924) where
  abbrev opening : List OpKind → Call
  opening G = record { routine = Open G; from = from; steps = steps; others = others }

  module _ (alone : IsLeftAlone (opening F) (older ∷ olds)) (follows : Follows (opening F) (older ∷ olds))
      (finds : Finds R older olds) where
    begun : (later next : List OpKind) (found : Found R next older olds) (G : List OpKind) → Fits R 0 G
        → (frame_of (opening G ∷ call_with older found.draft ∷ with_drafts olds found.drafts)
        ≡ with_later later (frame_of (opening F ∷ older ∷ olds)))
        → Found R later (opening F) (older ∷ olds)
    begun later next found G fits frame = record {
      draft = G;
      drafts = found.draft ∷ found.drafts;
      session = (
        enters,
        buildable R G fits.ends (let most = fits.fits in omega (arith, most)),
        alone' R (opening F) older olds enters alone follows next found,
        (follows' R (opening F) older olds enters alone follows next found, found.session),
      );
      built = (
        (
          is_draft R G fits.ends fits.ops (let most = fits.fits in omega (arith, most)),
          is_built R G fits.ends (fits.labs refl) (let most = fits.fits in omega (arith, most)),
        ),
        found.built,
      );
      same = found.same;
      frame = λ here. frame;
    }

    open_finds : Finds R (opening F) (older ∷ olds)
    open_finds = record { found = λ later may. by later (is_taken (opening F)) refl may; room = has_room (is_taken (opening F)) }
      where
        has_room : (t : Bool) → HasRoom (if t then Some (0, table_of F) else frame_of (older ∷ olds))
        has_room true = omega arith
        has_room false = finds.room

        by : (later : List OpKind) (t : Bool) → is_taken (opening F) ≡ t
            → MayCome R (if is_taken (opening F) then Some (0, table_of F) else frame_of (older ∷ olds)) later
            → Found R later (opening F) (older ∷ olds)
        by later true taken may =
            let next = some_later (frame_of (older ∷ olds)) in
            let found = finds.found next (some_may_come R (frame_of (older ∷ olds)) finds.room) in
            begun later next found later
            (subst (λ (t : Bool). MayCome R (if t then Some (0, table_of F) else frame_of (older ∷ olds)) later) taken may)
            (ap (λ (t : Bool). if t then Some (0, table_of later)
            else frame_of (call_with older found.draft ∷ with_drafts olds found.drafts)) taken
            ∙ ap (λ (t : Bool). with_later later (if t then Some (0, table_of F) else frame_of (older ∷ olds))) (sym taken))
        by later false taken may =
            let found = finds.found later
            (subst (λ (t : Bool). MayCome R (if t then Some (0, table_of F) else frame_of (older ∷ olds)) later) taken may) in
            begun later later found (shortest 0) (shortest_fits R 0 (omega arith))
            (ap (λ (t : Bool). if t then Some (0, table_of (shortest 0))
            else frame_of (call_with older found.draft ∷ with_drafts olds found.drafts)) taken
            ∙ frame' R (opening F) older olds enters alone follows later found
            ∙ ap (λ (t : Bool). with_later later (if t then Some (0, table_of F) else frame_of (older ∷ olds))) (sym taken))

-- a call of dvg_close
module _ (R : List ℕ) (from : Cpu) (steps : ℕ) (others : ℕ → ℕ → ℕ) (older : Call) (olds : List Call)
    (enters : Enters from 0x6A00) where
  abbrev closing : Call
  closing = record { routine = Close; from = from; steps = steps; others = others }

  module _ (alone : IsLeftAlone closing (older ∷ olds)) (follows : Follows closing (older ∷ olds))
      (tells : CallBrings R Close from (frame_of (older ∷ olds))) (finds : Finds R older olds) where
    module _ (next : List OpKind) (found : Found R next older olds) where
      abbrev earlier : List Call
      earlier = call_with older found.draft ∷ with_drafts olds found.drafts

      close_session : Brings Close from (frame_of earlier) → IsSession (closing ∷ earlier)
      close_session brings = (
        enters,
        brings,
        alone' R closing older olds enters alone follows next found,
        (follows' R closing older olds enters alone follows next found, found.session),
      )

      ended : (later : List OpKind) → Brings Close from (frame_of earlier)
          → (is_over closing ≡ true → frame_of (closing ∷ earlier) ≡ with_later later (frame_of (closing ∷ older ∷ olds)))
          → Found R later closing (older ∷ olds)
      ended later brings frame = record {
        draft = [];
        drafts = found.draft ∷ found.drafts;
        session = close_session brings;
        built = (tt, found.built);
        same = found.same;
        frame = frame;
      }

    module _ (frame : ℕ × List ℕ) (is : frame_of (older ∷ olds) ≡ Some frame) where
      halt_may : MayCome R (frame_of (older ∷ olds)) (Stop ∷ [])
      halt_may = subst (λ f. MayCome R f (Stop ∷ [])) (sym is) (record {
        ends = tt;
        ops = only_halt;
        labs = λ none. absurd (let some = subst (λ f. CallBrings R Close from f) is tells in omega (arith, some, none));
        fits = let room = subst HasRoom is finds.room in omega (arith, room);
      })

      abbrev found_halt : Found R (Stop ∷ []) older olds
      found_halt = finds.found (Stop ∷ []) halt_may

      frame_halt : frame_of (earlier (Stop ∷ []) found_halt) ≡ Some (frame.0, 0x00 ∷ 0xB0 ∷ [])
      frame_halt = frame' R closing older olds enters alone follows (Stop ∷ []) found_halt ∙ ap (with_later (Stop ∷ [])) is

      brings_halt : Brings Close from (frame_of (earlier (Stop ∷ []) found_halt))
      brings_halt = subst (λ f. Brings Close from f) (sym frame_halt) refl

      closes : is_over closing ≡ true → is_taken closing ≡ true
      closes here =
          let holds = held closing (call_with older found_halt.draft) (with_drafts olds found_halt.drafts) enters
          (follows' R closing older olds enters alone follows (Stop ∷ []) found_halt) found_halt.session in
          let did = close_some from holds.0 holds.1.0 (frame.0, 0x00 ∷ 0xB0 ∷ []) holds.1.1.0 enters
          (subst (λ f. holds_in holds.0 holds.1.0 f from.mem holds.1.1.0) frame_halt holds.1.1.1) refl in
          taken_is closing false here
          (told closing (earlier (Stop ∷ []) found_halt) (close_session (Stop ∷ []) found_halt brings_halt) false did.carry
          here)

      some_finds : Finds R closing (older ∷ olds)
      some_finds = record {
        found = λ later may. ended (Stop ∷ []) found_halt later brings_halt
            (λ here. ap (λ (t : Bool). if t then None else frame_of (earlier (Stop ∷ []) found_halt)) (closes here)
            ∙ ap (λ (t : Bool). with_later later (if t then None else frame_of (older ∷ olds))) (sym (closes here)));
        room = has_room (is_taken closing);
      }
        where
          has_room : (t : Bool) → HasRoom (if t then None else frame_of (older ∷ olds))
          has_room true = tt
          has_room false = finds.room

    close_finds : Finds R closing (older ∷ olds)
    close_finds = by (frame_of (older ∷ olds)) refl
      where
        by : (frame : Option (ℕ × List ℕ)) → frame_of (older ∷ olds) ≡ frame → Finds R closing (older ∷ olds)
        by (Some frame) is = some_finds frame is
        by None is = record {
          found = λ later may.
              let found = finds.found later (subst (λ f. MayCome R f later) (sym is) tt) in
              let none : frame_of (earlier later found) ≡ None =
              frame' R closing older olds enters alone follows later found ∙ ap (with_later later) is in
              ended later found later (subst (λ f. Brings Close from f) (sym none) tt)
              (λ here. ap still none ∙ still_none (is_taken closing)
              ∙ sym (ap (λ f. with_later later (still f)) is ∙ ap (with_later later) (still_none (is_taken closing))));
          room = subst HasRoom (sym (ap still is ∙ still_none (is_taken closing))) tt;
        }
          where
            still : Option (ℕ × List ℕ) → Option (ℕ × List ℕ)
            still f = if is_taken closing then None else f

            still_none : (t : Bool) → ◌≡◌ {A = Option (ℕ × List ℕ)} (if t then None else None) None
            still_none true = refl
            still_none false = refl

pub as_they_are : (calls : List Call) → with_drafts calls [] ≡ calls
as_they_are [] = refl
as_they_are (call ∷ calls) = refl

-- a reset
reset_finds : (R : List ℕ) (from : Cpu) (steps : ℕ) (others : ℕ → ℕ → ℕ) (calls : List Call) → Enters from 0x6800
    → IsLeftAlone (record { routine = Reset; from = from; steps = steps; others = others }) calls
    → Finds R (record { routine = Reset; from = from; steps = steps; others = others }) calls
reset_finds R from steps others calls enters alone = record {
  found = λ later may. record {
    draft = [];
    drafts = [];
    session = (
      enters,
      tt,
      subst (λ l. IsLeftAlone (record { routine = Reset; from = from; steps = steps; others = others }) l)
          (sym (as_they_are calls)) alone,
      tt,
    );
    built = (tt, tt);
    same = refl;
    frame = λ here. refl;
  };
  room = tt;
}

-- the call before this one, and what was found for it
abbrev Prior : List ℕ → Call → List Call → Type 0
Prior R call calls =
    (older : Call) × (olds : List Call) × (calls ≡ older ∷ olds) × Follows call (older ∷ olds) × Finds R older olds

-- each call, over those before it
module _ (R : List ℕ) (from : Cpu) (steps : ℕ) (others : ℕ → ℕ → ℕ) (calls : List Call) where
  abbrev made_by : Routine → Call
  made_by routine = record { routine = routine; from = from; steps = steps; others = others }

  quiet : (routine : Routine) → Enters from (entry routine) → IsLeftAlone (made_by routine) calls
      → Prior R (made_by routine) calls → renamed routine [] ≡ routine
      → ((f : Option (ℕ × List ℕ)) → frame_after routine (made_by routine) f ≡ f)
      → ((f : Option (ℕ × List ℕ)) → Brings routine from f) → BuildsOnly R routine
      → ((P : Type 0) → P → UnlessReset routine P) → Finds R (made_by routine) calls
  quiet routine enters alone first keeps stays brings builds unless =
      subst (λ l. Finds R (made_by routine) l) (sym first.2)
      (quiet_finds R (made_by routine) first.0 first.1 enters
      (subst (λ l. IsLeftAlone (made_by routine) l) first.2 alone) first.3 first.4 keeps stays brings builds unless)

  one_finds : (routine : Routine) → Enters from (entry routine) → CallBrings R routine from (frame_of calls)
      → IsLeftAlone (made_by routine) calls → UnlessReset routine (Prior R (made_by routine) calls)
      → Finds R (made_by routine) calls
  one_finds Reset enters tells alone first = reset_finds R from steps others calls enters alone
  one_finds Tick enters tells alone first =
      quiet Tick enters alone first refl (λ f. refl) (λ f. tt) tt (λ P is. is)
  one_finds Ticks enters tells alone first =
      quiet Ticks enters alone first refl (λ f. refl) (λ f. tt) tt (λ P is. is)
  one_finds Run enters tells alone first =
      quiet Run enters alone first refl (λ f. refl) (λ f. tt) tt (λ P is. is)
  one_finds (Offer F) enters tells alone first =
      quiet (Offer F) enters alone first refl (λ f. refl) (λ f. tells) tt (λ P is. is)
  one_finds Redraw enters tells alone first =
      quiet Redraw enters alone first refl (λ f. refl) (λ f. tt) tt (λ P is. is)
  one_finds (Open F) enters tells alone first =
      subst (λ l. Finds R (made_by (Open F)) l) (sym first.2)
      (open_finds R F from steps others first.0 first.1 enters
      (subst (λ l. IsLeftAlone (made_by (Open F)) l) first.2 alone) first.3 first.4)
  one_finds (Puts part) enters tells alone first =
      subst (λ l. Finds R (made_by (Puts part)) l) (sym first.2)
      (puts_find R part from steps others first.0 first.1 enters
      (subst (λ l. IsLeftAlone (made_by (Puts part)) l) first.2 alone) first.3
      (subst (λ l. CallBrings R (Puts part) from (frame_of l)) first.2 tells) first.4)
  one_finds Close enters tells alone first =
      subst (λ l. Finds R (made_by Close) l) (sym first.2)
      (close_finds R from steps others first.0 first.1 enters
      (subst (λ l. IsLeftAlone (made_by Close) l) first.2 alone) first.3
      (subst (λ l. CallBrings R Close from (frame_of l)) first.2 tells) first.4)

all_find : (R : List ℕ) (call : Call) (calls : List Call) → IsSessionBy (CallBrings R) (call ∷ calls) → Finds R call calls
all_find R call [] session =
    one_finds R call.from call.steps call.others [] call.routine session.0 session.1 session.2
    (unless_map call.routine (⊥ × IsSessionBy (CallBrings R) []) (Prior R call []) (λ none. absurd none.0) session.3)
all_find R call (older ∷ olds) session =
    one_finds R call.from call.steps call.others (older ∷ olds) call.routine session.0 session.1 session.2
    (unless_map call.routine (Follows call (older ∷ olds) × IsSessionBy (CallBrings R) (older ∷ olds))
    (Prior R call (older ∷ olds)) (λ both. (older, olds, refl, both.0, all_find R older olds both.1)) session.3)

pub hindsight : Hindsight
hindsight R [] session = absurd session
hindsight R (call ∷ calls) session =
    let all = all_find R call calls session in
    let found = all.found (some_later (frame_of (call ∷ calls))) (some_may_come R (frame_of (call ∷ calls)) all.room) in
    (found.draft ∷ found.drafts, found.session, found.built)
