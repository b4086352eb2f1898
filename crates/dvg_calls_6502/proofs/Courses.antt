-- What one call makes, also where others interrupt it, by what holds before it.
use Rattle.std.proofs.Common.{◌≡◌, ℕ, inl, inr, ◌+◌, ◌-◌, ◌*◌, ◌<◌, ◌≤◌, Bool, true, false, not, List, [], ◌∷◌, ◌++◌, length}
use Rattle.std.proofs.Common.{refl, sym, ap, ◌∙◌, subst, arith, Some, Option, None}
use Rattle.std.specs.Prelude.{nat_eq, ◌⊎◌, ◌&&◌, option_and_then, if◌then◌else◌}
use Rattle.dvg_mem.specs.declared.half.Half.{Half}
use Rattle.dvg_mem.specs.declared.half.Half.TheVariants.{H0, H1}
use Rattle.dvg_mem.specs.Areas.{base, other, half_of_high}
use Rattle.dvg_frame.specs.declared.op.OpKind.{OpKind}
use Rattle.dvg_frame.specs.Bytes.{addressed, bytes}
use Rattle.dvg_frame.specs.Layout.{laid}
use Rattle.dvg_driver.specs.Script.{Item, Offered, Asked, frame_writes, word_zero}
use Rattle.dvg_driver.specs.Place.{Place, Start, Resting, Writing, Waiting, place_of_life, next_place}
use Rattle.dvg_driver.specs.Stands.{Stage, StandsAfter, KnowsHalf, byte1_of}
use Rattle.dvg_calls_6502.specs.Processor.{Cpu, Access, run, at_return}
use Rattle.dvg_calls_6502.specs.Amid.{is_kept, are_steady, all_in}
use Rattle.dvg_calls_6502.specs.Board.{seen, goal_in}
use Rattle.dvg_calls_6502.specs.Holds.{Holds}
use Rattle.dvg_calls_6502.specs.Tables.{HasTable, table_of}
use Rattle.dvg_calls_6502.specs.Routines.{Enters, Answers, Part, begins, put_by}
use Rattle.dvg_calls_6502.specs.Calls
use Rattle.dvg_calls_6502.specs.Calls.{Routine, Call, call_of, after, is_over, is_taken, is_table, is_offered, bounds, frame_of}
use Rattle.dvg_calls_6502.specs.Calls.{Adds, AreShown, IsLifeOf, put_on}
use Rattle.dvg_calls_6502.proofs.LogsGrow.{GoesOn, within, same_end}
use Rattle.dvg_calls_6502.proofs.ProcessorRuns.{returned}
use Rattle.dvg_calls_6502.proofs.PlainTicks.{Covers}
use Rattle.dvg_calls_6502.proofs.TickDoesNext.{append_none}
use Rattle.dvg_calls_6502.proofs.LifeByAccesses.{Claim, GoesTo}
use Rattle.dvg_calls_6502.proofs.TickCall.{tick_goes}
use Rattle.dvg_calls_6502.proofs.TicksRun.{ticks_go}
use Rattle.dvg_calls_6502.proofs.Steady.{steady_all, code_kept}
use Rattle.dvg_calls_6502.proofs.Offering.{resets_steadily, reset_refines, takes_steadily, offer_is_taken, redraw_is_taken}
use Rattle.dvg_calls_6502.proofs.Offering.{redraw_is_refused, redraw_takes_steadily, redraw_refuses_steadily}
use Rattle.dvg_calls_6502.proofs.Building.{goal_is}
use Rattle.dvg_calls_6502.proofs.OpenAndClose.{open_steadily}
use Rattle.dvg_calls_6502.proofs.DriverInMemory.{Stood}
use Rattle.dvg_calls_6502.proofs.Refusing.{Refuses, refused_steady, offer_refused, open_refused, redraw_refused}
use Rattle.dvg_calls_6502.proofs.Built.{stage_at, holds_in, place_now, by_rest, holds_goes, run_goes_on}
use Rattle.dvg_calls_6502.proofs.BuildCalls.{refused_holds, puts_end, close_ends}
use Rattle.dvg_calls_6502.proofs.Interrupted.{Came, came, within as both_bounds}

-- after a call this holds of the memory of its run that nobody interrupts, which agrees with its own where that is kept
abbrev pub Holding : (ℕ × ℕ) → Option (ℕ × List ℕ) → Call → List Call → List Item → Type 0
Holding ends frame call calls life = (mem : ℕ → ℕ)
    × ((b : ℕ) → is_kept (is_table call calls) b ≡ true → (after call).mem b ≡ mem b) × holds_in ends.0 ends.1 frame mem life

-- what calls make: a life with a place, and where the newest one is over, a driver that stands after it or builds
abbrev pub Outcome : List Call → Type 0
Outcome [] = ⊥
Outcome (call ∷ calls) = (life : List Item) × IsLifeOf (call ∷ calls) life
    × ((place : Place) × (place_of_life life ≡ Some place))
    × (is_over call ≡ true → Holding (bounds (call ∷ calls)) (frame_of (call ∷ calls)) call calls life)

-- a call, whoever interrupts it: it takes guarded bytes alone, and makes this
pub record Course (r : Routine) (from : Cpu) (calls : List Call) : Type 0 where
  pub steady : (k : ℕ) (tables : ℕ → Bool) → ((b : ℕ) → is_offered r from b ≡ true → tables b ≡ true)
      → Covers tables (bounds calls).0 (bounds calls).1 → are_steady (is_kept tables) from.s k from ≡ true
  pub makes : (steps : ℕ) (others : ℕ → ℕ → ℕ) → Came (call_of r from steps others) calls
      → Outcome (call_of r from steps others ∷ calls)

-- what is quiet to its end is quiet before
none_before : (pre log : List Access) → [] ≡ pre ++ log → log ≡ []
none_before [] log is = sym is
none_before (access ∷ pre) log is = absurd (cc)

pub quiet_before : (s k n : ℕ) (cpu : Cpu) → at_return s (run s n cpu) ≡ true → seen (run s n cpu).log ≡ []
    → seen (run s k cpu).log ≡ []
quiet_before s k n cpu is quiet = by (within s k n cpu is)
  where
    by : (run s k cpu ≡ run s n cpu) ⊎ GoesOn (seen (run s n cpu).log) (seen (run s k cpu).log)
        → seen (run s k cpu).log ≡ []
    by (inl same) = ap (λ (c : Cpu). seen c.log) same ∙ quiet
    by (inr on) = none_before on.0 (seen (run s k cpu).log) (sym quiet ∙ on.1)

-- an answer: a call that touches no hardware, and returns with this C and this memory
pub record Quietly (cpu : Cpu) (c : Bool) (mem : ℕ → ℕ) : Type 0 where
  pub steps : ℕ
  pub returns : at_return cpu.s (run cpu.s steps cpu) ≡ true
  pub carry : (run cpu.s steps cpu).c ≡ c
  pub shows : seen (run cpu.s steps cpu).log ≡ []
  pub memory : (run cpu.s steps cpu).mem ≡ mem

abbrev pub of_answer : (cpu : Cpu) (c : Bool) (begin stop : ℕ) (new : Stage) → (did : Answers cpu c begin stop new)
    → Quietly cpu c (run cpu.s did.steps cpu).mem
of_answer cpu c begin stop new did = record {
  steps = did.steps;
  returns = did.returns;
  carry = did.carry;
  shows = did.shows;
  memory = refl;
}

abbrev pub of_refusal : (cpu : Cpu) → (did : Refuses cpu) → Quietly cpu true did.memory
of_refusal cpu did = record {
  steps = did.comes.steps;
  returns = returned cpu.s (run cpu.s did.comes.steps cpu) did.comes.returns did.comes.stack;
  carry = did.comes.carry;
  shows = did.comes.accesses;
  memory = did.comes.memory;
}

-- where a call is over and its run comes to its end with this C, it is taken where that is clear
pub taken_if : (call : Call) (calls : List Call) (came : Came call calls) (t c : Bool)
    → at_return call.from.s (run call.from.s came.n call.from) ≡ t → (run call.from.s came.n call.from).c ≡ c
    → is_taken call ≡ (t && not c)
taken_if call calls came true c here carry =
    let over = came.over ∙ here in
    ap (λ (t : Bool). t && not (Calls.answer call)) over ∙ ap not (came.carry over ∙ carry)
taken_if call calls came false c here carry = ap (λ (t : Bool). t && not (Calls.answer call)) (came.over ∙ here)

-- a call, over what holds before it
module _ (from : Cpu) (calls : List Call) (life : List Item) (is_life : IsLifeOf calls life)
    (holds : holds_in (bounds calls).0 (bounds calls).1 (frame_of calls) from.mem life) where
  abbrev placed_now : (place : Place) × (place_of_life life ≡ Some place)
  placed_now = place_now (bounds calls).0 (bounds calls).1 (frame_of calls) from.mem life holds

  -- a call that acts
  acts : (r : Routine) (P : Claim)
      → ((steps : ℕ) (others : ℕ → ℕ → ℕ) (items : List Item)
      → AreShown items (seen (after (call_of r from steps others)).log) → Adds r (call_of r from steps others) items)
      → ((items : List Item) → IsLifeOf calls items → Calls.SinceReset r items (IsLifeOf calls items))
      → from.log ≡ [] → ((k : ℕ) → GoesTo P from.s k from (bounds calls).0 (bounds calls).1 life)
      → ((steps : ℕ) (others : ℕ → ℕ → ℕ) (came : Came (call_of r from steps others) calls)
      → at_return from.s (run from.s came.n from) ≡ true → (mem : ℕ → ℕ) (items : List Item) → P mem items
      → holds_in (bounds (call_of r from steps others ∷ calls)).0 (bounds (call_of r from steps others ∷ calls)).1
      (frame_of (call_of r from steps others ∷ calls)) mem items)
      → Course r from calls
  acts r P adds since no_log goes follows = record {
    steady = λ k tables offered covers. (goes k).steady tables covers;
    makes = λ steps others came.
        let does = goes came.n in
        let logged : seen (after (call_of r from steps others)).log ≡ does.accesses = came.shows ∙ does.logged
        ∙ ap (λ l. does.accesses ++ seen l) no_log ∙ append_none does.accesses in (
          does.items ++ life,
          (
            does.items,
            life,
            refl,
            adds steps others does.items (subst (λ l. AreShown does.items l) (sym logged) does.shown),
            since life is_life,
          ),
          does.placed,
          (λ over. let here = sym came.over ∙ over in (
            (run from.s came.n from).mem,
            came.keeps,
            follows steps others came here (run from.s came.n from).mem (does.items ++ life) (does.stands here),
          )),
        );
  }

  abbrev Stays : Claim
  Stays = holds_in (bounds calls).0 (bounds calls).1 (frame_of calls)

  pub tick_course : Enters from 0x686A → Course Calls.Tick from calls
  tick_course enters = acts Calls.Tick Stays (λ steps others items shown. shown) (λ items made. made) enters.log
      (λ k. tick_goes Stays k from (bounds calls).0 (bounds calls).1 life
      (holds_goes (bounds calls).0 (bounds calls).1 (frame_of calls)) enters.entry holds)
      (λ steps others came here mem items is. is)

  pub ticks_course : Enters from 0x6860 → Course Calls.Ticks from calls
  ticks_course enters = acts Calls.Ticks Stays (λ steps others items shown. shown) (λ items made. made) enters.log
      (ticks_go Stays from (bounds calls).0 (bounds calls).1 life
      (holds_goes (bounds calls).0 (bounds calls).1 (frame_of calls)) enters.entry enters.a enters.s holds)
      (λ steps others came here mem items is. is)

  pub run_course : Enters from 0x6809 → Course Calls.Run from calls
  run_course enters = acts Calls.Run Stays (λ steps others items shown. shown) (λ items made. made) enters.log
      (λ k. run_goes_on k from (bounds calls).0 (bounds calls).1 (frame_of calls) life enters.entry enters.s holds)
      (λ steps others came here mem items is. is)

  -- what is still to come after a call, by its C
  still_to_come : (c : Bool) (taken left : Option (ℕ × List ℕ)) (t : Bool) → t ≡ not c
      → (if c then left else taken) ≡ (if t then taken else left)
  still_to_come true taken left t is = sym (ap (λ (t : Bool). if t then taken else left) is)
  still_to_come false taken left t is = sym (ap (λ (t : Bool). if t then taken else left) is)

  pub puts_course : (part : Part) → Enters from (begins part) → Calls.Brings (Calls.Puts part) from (frame_of calls)
      → Course (Calls.Puts part) from calls
  puts_course part enters brings =
      let taken = put_on (put_by part from) (frame_of calls) in
      let did = puts_end part from (bounds calls).0 (bounds calls).1 (frame_of calls) life enters brings holds in
      acts (Calls.Puts part) (holds_in (bounds calls).0 (bounds calls).1 (if did.0 then frame_of calls else taken))
      (λ steps others items shown. shown) (λ items made. made) enters.log did.1.goes
      (λ steps others came here mem items is. subst (λ frame. holds_in (bounds calls).0 (bounds calls).1 frame mem items)
      (still_to_come did.0 taken (frame_of calls) (is_taken (call_of (Calls.Puts part) from steps others))
      (taken_if (call_of (Calls.Puts part) from steps others) calls came true did.0 here (did.1.carry came.n here))) is)

  pub close_course : Enters from 0x6A00 → Calls.Brings Calls.Close from (frame_of calls) → Course Calls.Close from calls
  close_course enters brings =
      let did = close_ends from (bounds calls).0 (bounds calls).1 (frame_of calls) life enters brings holds in
      acts Calls.Close (holds_in (bounds calls).0 (bounds calls).1 (if did.0 then frame_of calls else None))
      (λ steps others items shown. shown) (λ items made. made) enters.log did.1.goes
      (λ steps others came here mem items is. subst (λ frame. holds_in (bounds calls).0 (bounds calls).1 frame mem items)
      (still_to_come did.0 None (frame_of calls) (is_taken (call_of Calls.Close from steps others))
      (taken_if (call_of Calls.Close from steps others) calls came true did.0 here (did.1.carry came.n here))) is)

  -- a call that answers: it is taken, which adds an item, or refused
  module _ (r : Routine) (item : Item) (bounds_if : Bool → ℕ × ℕ) (frame_if : Bool → Option (ℕ × List ℕ)) where
    -- what is added, by whether it is taken
    abbrev Made : Call → Bool → Type 0
    Made call taken = (life' : List Item) × ((new : List Item) × (old : List Item) × (life' ≡ new ++ old)
        × ((seen (after call).log ≡ []) × (new ≡ (if taken then item ∷ [] else []))) × IsLifeOf calls old)
        × ((place : Place) × (place_of_life life' ≡ Some place))
        × (is_over call ≡ true → Holding (bounds_if taken) (frame_if taken) call calls life')

    -- what holds after it, by its C
    abbrev After : Bool → (ℕ → ℕ) → Type 0
    After true mem = holds_in (bounds_if false).0 (bounds_if false).1 (frame_if false) mem life
    After false mem = holds_in (bounds_if true).0 (bounds_if true).1 (frame_if true) mem (item ∷ life)

    module _ (c : Bool) (mem : ℕ → ℕ) (did : Quietly from c mem) (steps : ℕ) (others : ℕ → ℕ → ℕ)
        (came : Came (call_of r from steps others) calls) where
      abbrev this : Call
      this = call_of r from steps others

      quiet : seen (after this).log ≡ []
      quiet = came.shows ∙ quiet_before from.s came.n did.steps from did.returns did.shows

      ended : at_return from.s (run from.s came.n from) ≡ true → run from.s came.n from ≡ run from.s did.steps from
      ended here = same_end from.s came.n did.steps from here did.returns

      agrees : at_return from.s (run from.s came.n from) ≡ true → (b : ℕ) → is_kept (is_table this calls) b ≡ true
          → (after this).mem b ≡ mem b
      agrees here b is = came.keeps b is ∙ ap (λ (k : Cpu). k.mem b) (ended here) ∙ ap (λ (m : ℕ → ℕ). m b) did.memory

      made : (t : Bool) → at_return from.s (run from.s came.n from) ≡ t → (c : Bool) → (run from.s did.steps from).c ≡ c
          → After c mem → Made this (is_taken this)
      made true here true carry after_it =
          subst (Made this) (sym (taken_if this calls came true true here (ap (λ (k : Cpu). k.c) (ended here) ∙ carry))) (
            life,
            ([], life, refl, (quiet, refl), is_life),
            placed_now,
            (λ over. (mem, agrees here, after_it)),
          )
      made true here false carry after_it =
          subst (Made this) (sym (taken_if this calls came true false here (ap (λ (k : Cpu). k.c) (ended here) ∙ carry))) (
            item ∷ life,
            (item ∷ [], life, refl, (quiet, refl), is_life),
            place_now (bounds_if true).0 (bounds_if true).1 (frame_if true) mem (item ∷ life) after_it,
            (λ over. (mem, agrees here, after_it)),
          )
      made false here c carry after_it =
          subst (Made this) (sym (taken_if this calls came false _ here refl)) (
            life,
            ([], life, refl, (quiet, refl), is_life),
            placed_now,
            (λ over. absurd (let e = sym came.over ∙ over in cc)),
          )

    answers : (c : Bool) (mem : ℕ → ℕ) → Quietly from c mem → After c mem
        → ((steps : ℕ) (others : ℕ → ℕ → ℕ) → let call = call_of r from steps others in
        Made call (is_taken call) → Outcome (call ∷ calls))
        → ((k : ℕ) (tables : ℕ → Bool) → ((b : ℕ) → is_offered r from b ≡ true → tables b ≡ true)
        → are_steady (is_kept tables) from.s k from ≡ true)
        → Course r from calls
    answers c mem did after_it outcome steady = record {
      steady = λ k tables offered covers. steady k tables offered;
      makes = λ steps others came. outcome steps others (made c mem did steps others came (at_return from.s (run from.s came.n from)) refl
          c did.carry after_it);
    }

  -- what stands after an answer
  stood_answer : (c : Bool) (begin stop : ℕ) (new : Stage) (did : Answers from c begin stop new) (peeked : ℕ)
      (after : List Item) → StandsAfter new peeked after → from.mem 0x4001 ≡ byte1_of peeked after
      → Stood (run from.s did.steps from).mem begin stop after
  stood_answer c begin stop new did peeked after stands byte1 = record {
    stage = new;
    peeked = peeked;
    stands = stands;
    holds = did.holds;
    byte1 = did.kept 0x4001 refl ∙ byte1;
    loaded = did.loaded;
  }

  -- a call that is refused, at any place
  refused_after : (did : Refuses from) → Stays did.memory life
  refused_after did = refused_holds from (bounds calls).0 (bounds calls).1 (frame_of calls) life did holds

  abbrev half_now : Half
  half_now = other (half_of_high (from.mem 0x4001))

  -- where a driver rests, a draft goes to the half that is free
  module _ (stood : Stood from.mem (bounds calls).0 (bounds calls).1 life) (first : Bool)
      (is : stood.stage.place ≡ Resting first) (free : first ≡ not stood.stage.flipped) (F : List OpKind) where
    half_is : stood.stage.half ≡ half_of_high (from.mem 0x4001)
    half_is = (subst (λ place. KnowsHalf place stood.stage.half (byte1_of stood.peeked life)) is stood.stands.half)
        ∙ ap half_of_high (sym stood.byte1)

    abbrev begun : Stage
    begun = record {
      place = Writing (frame_writes (other stood.stage.half) F (not stood.stage.flipped));
      half = stood.stage.half;
      flipped = stood.stage.flipped;
    }

    offered : StandsAfter begun stood.peeked (Offered half_now F ∷ life)
    offered = record {
      place = ap (option_and_then (λ place. next_place place (Offered half_now F))) (stood.stands.place ∙ ap Some is)
          ∙ ap (λ (first : Bool). Some (Writing (frame_writes half_now F first))) free
          ∙ ap (λ (now : Half). Some (Writing (frame_writes (other now) F (not stood.stage.flipped)))) (sym half_is);
      half = subst (λ place. KnowsHalf place stood.stage.half (byte1_of stood.peeked life)) is stood.stands.half;
      flipped = stood.stands.flipped;
    }

  pub offer_course : (F : List OpKind) → Enters from 0x68FE → HasTable from.mem (from.a + 256 * from.x) F
      → Course (Calls.Offer F) from calls
  offer_course F enters table =
      by_rest from.mem (bounds calls).0 (bounds calls).1 (frame_of calls) life (Course (Calls.Offer F) from calls)
      busy rests holds
    where
      bounds_if : Bool → ℕ × ℕ
      bounds_if taken = let t = from.a + 256 * from.x + 2 in if taken then (t, t + length (table_of F)) else bounds calls

      t : ℕ
      t = from.a + 256 * from.x

      in_table : (tables : ℕ → Bool) → ((b : ℕ) → is_offered (Calls.Offer F) from b ≡ true → tables b ≡ true) → (b : ℕ)
          → t ≤ b → b < t + 2 + length (table_of F) → tables b ≡ true
      in_table tables in_guard b low high = in_guard b (both_bounds t (t + 2 + length (table_of F)) b low high)

      heads : (tables : ℕ → Bool) → ((b : ℕ) → is_offered (Calls.Offer F) from b ≡ true → tables b ≡ true)
          → all_in tables ((from.a + 256 * from.x) ∷ (from.a + 256 * from.x + 1) ∷ []) ≡ true
      heads tables in_guard =
          ap (λ (u : Bool). u && (tables (from.a + 256 * from.x + 1) && true)) (in_table tables in_guard t (omega arith) (omega arith))
          ∙ ap (λ (u : Bool). u && true) (in_table tables in_guard (t + 1) (omega arith) (omega arith))

      busy : nat_eq (from.mem 0x10) 2 ≡ false → Course (Calls.Offer F) from calls
      busy away =
          let did = offer_refused from enters away in
          answers (Calls.Offer F) (Offered half_now F) bounds_if (λ t. frame_of calls) true did.memory (of_refusal from did)
          (refused_after did) (λ steps others made. made) (λ k tables in_guard. refused_steady tables from k did)

      rests : frame_of calls ≡ None → (stood : Stood from.mem (bounds calls).0 (bounds calls).1 life) (first : Bool)
          → stood.stage.place ≡ Resting first
          → Holds from.mem (bounds calls).0 (bounds calls).1
          (record { place = Resting first; half = stood.stage.half; flipped = stood.stage.flipped })
          → Course (Calls.Offer F) from calls
      rests none stood first is held =
          let new = begun stood first is held.place.2 F in
          let did = offer_is_taken from (bounds calls).0 (bounds calls).1 stood.stage.half stood.stage.flipped first F enters
          held table in
          answers (Calls.Offer F) (Offered half_now F) bounds_if (λ t. frame_of calls) false _ (of_answer from false _ _ new did)
          (subst (λ frame. holds_in (from.a + 256 * from.x + 2) (from.a + 256 * from.x + 2 + length (table_of F)) frame
          (run from.s did.steps from).mem (Offered half_now F ∷ life)) (sym none)
          (stood_answer false _ _ new did stood.peeked (Offered half_now F ∷ life)
          (offered stood first is held.place.2 F) stood.byte1)) (λ steps others made. made)
          (λ k tables in_guard. (takes_steadily tables from (bounds calls).0 (bounds calls).1 stood.stage.half
          stood.stage.flipped first F (heads tables in_guard) enters held table).steady k)

  pub open_course : (F : List OpKind) → Enters from 0x6924 → Calls.IsBuildable F → Course (Calls.Open F) from calls
  open_course F enters fit =
      by_rest from.mem (bounds calls).0 (bounds calls).1 (frame_of calls) life (Course (Calls.Open F) from calls)
      busy rests holds
    where
      frame_if : Bool → Option (ℕ × List ℕ)
      frame_if taken = if taken then Some (0, table_of F) else frame_of calls

      busy : nat_eq (from.mem 0x10) 2 ≡ false → Course (Calls.Open F) from calls
      busy away =
          let did = open_refused from enters away in
          answers (Calls.Open F) (Offered half_now F) (λ t. bounds calls) frame_if true did.memory (of_refusal from did)
          (refused_after did) (λ steps others made. made) (λ k tables in_guard. refused_steady tables from k did)

      alike : (half : Half) → bytes (laid half F) ≡ table_of F
      alike H0 = refl
      alike H1 = fit.alike

      laid_so : (half : Half) (flipped : Bool) (goal : ℕ) → goal ≡ 0x4000 + 2 * base (other half)
          → ◌≡◌ {A = Option Place} (Some (Writing (frame_writes (other half) F (not flipped))))
          (Some (stage_at goal half flipped (table_of F)).place)
      laid_so half flipped goal at_goal =
          let e : 2 * base (other half) ≡ goal - 0x4000 = omega (arith, at_goal) in
          ap (λ b. Some (Writing (addressed (2 * base (other half)) b ++ word_zero (other half) (not flipped))))
          (alike (other half))
          ∙ ap (λ p. Some (Writing (addressed p (table_of F) ++ word_zero (other half) (not flipped)))) e

      begun_at : (at base goal : ℕ) → goal ≡ 0x4000 + base → goal + 2 ≡ 0x4000 + base + at → at ≡ 2 + 0
      begun_at at base goal is page = omega (arith, is, page)

      rests : frame_of calls ≡ None → (stood : Stood from.mem (bounds calls).0 (bounds calls).1 life) (first : Bool)
          → stood.stage.place ≡ Resting first
          → Holds from.mem (bounds calls).0 (bounds calls).1
          (record { place = Resting first; half = stood.stage.half; flipped = stood.stage.flipped })
          → Course (Calls.Open F) from calls
      rests none stood first is held =
          let did = open_steadily from (bounds calls).0 (bounds calls).1 stood.stage.half stood.stage.flipped first
          (table_of F) enters held fit.some fit.fits in
          let life_is = offered stood first is held.place.2 F in
          answers (Calls.Open F) (Offered half_now F) (λ t. bounds calls) frame_if false (run from.s did.0.steps from).mem
          (record {
            steps = did.0.steps;
            returns = did.0.returns;
            carry = did.0.carry;
            shows = did.0.shows;
            memory = refl;
          })
          (record {
            half = stood.stage.half;
            flipped = stood.stage.flipped;
            peeked = stood.peeked;
            stands = record {
              place = life_is.place ∙ laid_so stood.stage.half stood.stage.flipped
                  (goal_in (run from.s did.0.steps from).mem) did.0.begins;
              half = life_is.half;
              flipped = life_is.flipped;
            };
            building = did.0.building;
            put = begun_at _ (2 * base (other stood.stage.half)) (goal_in (run from.s did.0.steps from).mem) did.0.begins
                (goal_is (run from.s did.0.steps from).mem stood.stage.half stood.stage.flipped (table_of F) did.0.loaded
                did.0.building);
            byte1 = did.1.byte1 ∙ stood.byte1;
            loaded = did.0.loaded;
          }) (λ steps others made. made)
          (λ k tables in_guard. steady_all (is_kept tables) from.s did.0.steps k from (did.1.steady tables) did.0.returns
          (code_kept tables (run from.s did.0.steps from).pc did.1.there))

  pub redraw_course : Enters from 0x6943 → Course Calls.Redraw from calls
  redraw_course enters =
      by_rest from.mem (bounds calls).0 (bounds calls).1 (frame_of calls) life (Course Calls.Redraw from calls)
      busy (λ none stood first is held. rests none stood first is held stood.stage.flipped refl) holds
    where
      busy : nat_eq (from.mem 0x10) 2 ≡ false → Course Calls.Redraw from calls
      busy away =
          let did = redraw_refused from enters away in
          answers Calls.Redraw Asked (λ t. bounds calls) (λ t. frame_of calls) true did.memory (of_refusal from did)
          (refused_after did) (λ steps others made. made) (λ k tables in_guard. refused_steady tables from k did)

      rests : frame_of calls ≡ None → (stood : Stood from.mem (bounds calls).0 (bounds calls).1 life) (first : Bool)
          → stood.stage.place ≡ Resting first
          → Holds from.mem (bounds calls).0 (bounds calls).1
          (record { place = Resting first; half = stood.stage.half; flipped = stood.stage.flipped })
          → (flipped : Bool) → stood.stage.flipped ≡ flipped → Course Calls.Redraw from calls
      rests none stood first is held false unset =
          let did = redraw_is_refused from (bounds calls).0 (bounds calls).1 stood.stage enters stood.holds
          (λ set. absurd (let e = sym unset ∙ set in cc)) in
          answers Calls.Redraw Asked (λ t. bounds calls) (λ t. frame_of calls) true _ (of_answer from true _ _ stood.stage did)
          (subst (λ frame. holds_in (bounds calls).0 (bounds calls).1 frame (run from.s did.steps from).mem life) (sym none)
          (stood_answer true _ _ stood.stage did stood.peeked life stood.stands stood.byte1)) (λ steps others made. made)
          (λ k tables in_guard. (redraw_refuses_steadily tables from (bounds calls).0 (bounds calls).1 stood.stage enters
          stood.holds (λ set. absurd (let e = sym unset ∙ set in cc))).steady k)
      rests none stood first is held true set =
          answers Calls.Redraw Asked (λ t. bounds calls) (λ t. frame_of calls) false _ (of_answer from false _ _ new did)
          (subst (λ frame. holds_in (bounds calls).0 (bounds calls).1 frame (run from.s did.steps from).mem (Asked ∷ life))
          (sym none) (stood_answer false _ _ new did stood.peeked (Asked ∷ life) stands stood.byte1)) (λ steps others made. made)
          (λ k tables in_guard. (redraw_takes_steadily tables from (bounds calls).0 (bounds calls).1 stood.stage.half first
          enters flips).steady k)
        where
          new : Stage
          new = record { place = Waiting first; half = stood.stage.half; flipped = true }

          flips : Holds from.mem (bounds calls).0 (bounds calls).1
              (record { place = Resting first; half = stood.stage.half; flipped = true })
          flips = subst (λ (t : Bool). Holds from.mem (bounds calls).0 (bounds calls).1
              (record { place = Resting first; half = stood.stage.half; flipped = t })) set held

          did : Answers from false (bounds calls).0 (bounds calls).1 new
          did = redraw_is_taken from (bounds calls).0 (bounds calls).1 stood.stage.half first enters flips

          stands : StandsAfter new stood.peeked (Asked ∷ life)
          stands = record {
            place = ap (option_and_then (λ place. next_place place Asked)) (stood.stands.place ∙ ap Some is);
            half = subst (λ place. KnowsHalf place stood.stage.half (byte1_of stood.peeked life)) is stood.stands.half;
            flipped = stood.stands.flipped ∙ set;
          }

-- a reset, over anything
module _ (from : Cpu) (calls : List Call) (enters : Enters from 0x6800) where
  abbrev start : Stage
  start = record { place = Start; half = H0; flipped = false }

  reset_did : Answers from from.c 0 0 start
  reset_did = reset_refines from 0 0 H0 enters

  pub reset_course : Course Calls.Reset from calls
  reset_course = record {
    steady = λ k tables in_guard covers. (resets_steadily tables from 0 0 H0 enters).steady k;
    makes = λ steps others came. (
      [],
      (
        [],
        [],
        refl,
        (came.shows ∙ quiet_before from.s came.n reset_did.steps from reset_did.returns reset_did.shows, refl),
        refl,
      ),
      (Start, refl),
      (λ over. (
        (run from.s reset_did.steps from).mem,
        (λ b is. came.keeps b is ∙ ap (λ (k : Cpu). k.mem b)
            (same_end from.s came.n reset_did.steps from (sym came.over ∙ over) reset_did.returns)),
        record {
          stage = start;
          peeked = (run from.s reset_did.steps from).mem 0x4001;
          stands = record { place = refl; half = tt; flipped = refl };
          holds = reset_did.holds;
          byte1 = refl;
          loaded = reset_did.loaded;
        },
      )),
    );
  }
