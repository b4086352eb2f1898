-- The log of a machine is one of a board whose processor's accesses are those of the machine code.
use Rattle.std.proofs.Common.{◌≡◌, ℕ, ◌+◌, ◌/◌, ◌%◌, ◌<◌, Bool, true, false, not, List, [], ◌∷◌, ◌++◌}
use Rattle.std.proofs.Common.{Some, None, refl, sym, ap, ◌∙◌, subst, arith, inl, inr}
use Rattle.std.specs.Prelude.{nat_eq, ◌&&◌, if◌then◌else◌, slice_index, slice_set}
use Rattle.dvg_mem.specs.Areas.{other, half_of_high}
use Rattle.dvg_frame.specs.declared.op.OpKind.{OpKind}
use Rattle.dvg_frame.specs.Ops.{IsDraft}
use Rattle.dvg_driver.specs.declared.action.Action.{Action}
use Rattle.dvg_driver.specs.declared.action.Action.TheVariants.{Peek, Wrote, Read, Sent, Idle}
use Rattle.dvg_driver.specs.Script
use Rattle.dvg_driver.specs.Script.{Item, Did, has_flip}
use Rattle.dvg_log.specs.declared.event.Event.TheVariants.{Offer, Redraw}
use Rattle.dvg_log.specs.declared.entry.Entry.TheVariants.{Offered, Busy, Asked, NothingPublished}
use Rattle.dvg_log.specs.Log.{◌⟼◌, Log, Throughout, ram, life, free_half}
use Rattle.dvg_log.specs.Legal.{IsLegal}
use Rattle.dvg_log.specs.Headline.{KeepsHeadline}
use Rattle.dvg_theorem.proofs.Bytes.{byte}
use Rattle.dvg_theorem.proofs.DrawnHalfSpared.{sized}
use Rattle.dvg_calls_6502.specs.Processor.{Cpu, Access, Reads, Writes}
use Rattle.dvg_calls_6502.specs.Amid.{amid}
use Rattle.dvg_calls_6502.specs.Board.{seen}
use Rattle.dvg_calls_6502.specs.Routines.{Shows}
use Rattle.dvg_calls_6502.specs.Calls as calls
use Rattle.dvg_calls_6502.specs.Calls.{Routine, Call, IsSession, IsLifeOf, IsAnswered, AreShown, Adds}
use Rattle.dvg_calls_6502.proofs.Sessions.{calls_live}
use Rattle.dvg_cells_core.specs.Core.{halted}
use Rattle.dvg_cells_board.specs.Board.{Board, Bus, q, clock}
use Rattle.dvg_cells_board.specs.Answers.{AnswersNext, uses_ram}
use Rattle.dvg_cells_board.specs.Clocks.{IsBus, IsServed, after, reads, writes, sends, looks, changes}
use Rattle.dvg_cells_board.specs.Logs.{did, answered, FitsIf, powers, clocks, tests, acts, HoldsRam}
use Rattle.dvg_cells_board.proofs.Wires.{changes_ram}
use Rattle.dvg_cells_board.proofs.Lines.{answered_ram, answered_life}
use Rattle.dvg_calls_board.specs.Machine
use Rattle.dvg_calls_board.specs.Machine.{accesses_of, later, Makes, with_answer}
use Rattle.dvg_calls_board.specs.Machine.{IsMachine, OfEachMachine, AreDone, HaveRam, FindsRam, AcceptsPublished}
use Rattle.dvg_calls_board.proofs.Ram.{last_write, call_ram, call_finds}
use Rattle.dvg_calls_board.proofs.Published.{published_accepts}
use Rattle.dvg_calls_board.proofs.System as system
use Rattle.dvg_calls_board.proofs.System.{FitsCode, ShowsIf, made_lives, shows_next}
use Rattle.dvg_calls_board.proofs.Calls.{Known, Newest, Next, Runs, begins_runs, elsewhere, first_is, next_of, waits_runs, written_in_ram, wrote_ram}

-- a call that goes on
module _ (R image : List ℕ) (held : ℕ → ℕ) (log : Log) (older : List Bus) (from : Cpu) (m n : ℕ) (others : ℕ → ℕ → ℕ) (olds : List Call) where
  abbrev before : Routine → Call
  before r = record { routine = r; from = from; steps = m; others = others }

  abbrev now : Routine → Call
  now r = record { routine = r; from = from; steps = m + n; others = others }

  abbrev was : Cpu
  was = amid from.s others m from

  abbrev end : Cpu
  end = amid from.s others (m + n) from

  abbrev On : Routine → Log → Type 0
  On r to = Runs R image held (now r ∷ olds) to older

  -- without an access
  module _ (same : seen end.log ≡ seen was.log) where
    same_shares : (r : Routine) → Newest R image log (before r) olds → (a : ℕ) → a < 2048
        → last_write (seen end.log) (0x4000 + a) (from.mem (0x4000 + a)) ≡ slice_index (ram image log) a
    same_shares r k a small = ap (λ l. last_write l (0x4000 + a) (from.mem (0x4000 + a))) same ∙ k.shares a small

    -- a call that adds what it accesses
    plain : (r : Routine) → Runs R image held (before r ∷ olds) log older → IsSession (now r ∷ olds)
        → ((items : List Item) → Adds r (before r) items → Adds r (now r) items) → On r log
    plain r runs session on = let k = runs.known in record {
      board = runs.board;
      known = record {
        session = session;
        checked = k.checked;
        makes = let it = k.makes in (it.0, it.1, it.2, on it.0 it.3, it.4);
        shares = same_shares r k;
      };
    }

    shown : (items : List Item) → AreShown items (seen was.log) → AreShown items (seen end.log)
    shown items is = subst (AreShown items) (sym same) is

    -- a call that is answered: what it adds, where it is taken
    abbrev Answer : Routine → List Item → Type 0
    Answer r X = IsLifeOf olds (life image log) × (seen was.log ≡ [])
        × ((t c : Bool) → calls.is_over (now r) ≡ t → calls.answer (now r) ≡ c
        → IsLifeOf (now r ∷ olds) ((if t && not c then X else []) ++ life image log))

    answer_of : (r : Routine) (X items old : List Item) → calls.is_over (before r) ≡ false → life image log ≡ items ++ old
        → items ≡ (if calls.is_over (before r) && not (calls.answer (before r)) then X else []) → seen was.log ≡ [] → IsLifeOf olds old
        → ((new : List Item) → new ≡ (if calls.is_over (now r) && not (calls.answer (now r)) then X else []) → seen end.log ≡ []
        → IsLifeOf (now r ∷ olds) (new ++ old)) → Answer r X
    answer_of r X items old unfinished is none quiet made on =
        let empty : items ≡ [] = none ∙ ap (λ (t : Bool). if t && not (calls.answer (before r)) then X else []) unfinished in
        let all : old ≡ life image log = sym (is ∙ ap (λ l. l ++ old) empty) in (
          subst (IsLifeOf olds) all made,
          quiet,
          λ t c returned carry. subst (λ l. IsLifeOf (now r ∷ olds) ((if t && not c then X else []) ++ l)) all
              (on (if t && not c then X else []) (sym (ap (λ (u : Bool). if u && not (calls.answer (now r)) then X else []) returned
              ∙ ap (λ (u : Bool). if t && not u then X else []) carry)) (same ∙ quiet)),
        )

    answered_as : (r : Routine) (X : List Item) (c : Bool) → Answer r X → IsSession (now r ∷ olds) → calls.is_over (now r) ≡ true → calls.answer (now r) ≡ c
        → IsAnswered r c (life image log)
    answered_as r X c answer session returned carry = record {
      from = from;
      steps = m + n;
      others = others;
      calls = olds;
      session = session;
      makes = answer.0;
      over = returned;
      carry = carry;
    }

    abbrev taken : List OpKind → List Item
    taken F = Script.Offered (other (half_of_high (from.mem 0x4001))) F ∷ []

    half_is : (r : Routine) → Newest R image log (before r) olds → seen was.log ≡ []
        → free_half image log ≡ other (half_of_high (from.mem 0x4001))
    half_is r k quiet = ap (λ b. other (half_of_high b))
        (sym (ap (λ l. last_write l 0x4001 (from.mem 0x4001)) (sym quiet) ∙ k.shares 1 (omega arith)))

    -- the line that tells of a frame
    frame_line : (r : Routine) (F : List OpKind) (t c : Bool) → calls.is_over (now r) ≡ t → calls.answer (now r) ≡ c
        → IsDraft F → Runs R image held (before r ∷ olds) log older → IsSession (now r ∷ olds) → Answer r (taken F)
        → (calls.is_over (now r) ≡ true → FitsCode R image log (Offer F) (if c then Busy else Offered))
        → On r (if t then (Offer F ⟼ (if c then Busy else Offered)) ∷ log else log)
    frame_line r F false c returned carry draft runs session answer fits = let k = runs.known in record {
      board = runs.board;
      known = record { session = session; checked = k.checked; makes = answer.2 false c returned carry; shares = same_shares r k };
    }
    frame_line r F true true returned carry draft runs session answer fits = let k = runs.known in record {
      board = acts runs.board draft tt (fits returned);
      known = record { session = session; checked = k.checked; makes = answer.2 true true returned carry; shares = same_shares r k };
    }
    frame_line r F true false returned carry draft runs session answer fits = let k = runs.known in record {
      board = acts runs.board draft tt (fits returned);
      known = record {
        session = session;
        checked = k.checked;
        makes = subst (λ h. IsLifeOf (now r ∷ olds) (Script.Offered h F ∷ life image log)) (sym (half_is r k answer.1))
            (answer.2 true false returned carry);
        shares = same_shares r k;
      };
    }

    redraw_line : (t c h : Bool) → calls.is_over (now calls.Redraw) ≡ t → calls.answer (now calls.Redraw) ≡ c → has_flip (life image log) ≡ h
        → Runs R image held (before calls.Redraw ∷ olds) log older → IsSession (now calls.Redraw ∷ olds)
        → Answer calls.Redraw (Script.Asked ∷ [])
        → On calls.Redraw (if t then (Redraw ⟼ (if c then if h then Busy else NothingPublished else Asked)) ∷ log else log)
    redraw_line false c h returned carry flip runs session answer = let k = runs.known in record {
      board = runs.board;
      known = record { session = session; checked = k.checked; makes = answer.2 false c returned carry; shares = same_shares calls.Redraw k };
    }
    redraw_line true false h returned carry flip runs session answer = let k = runs.known in record {
      board = acts runs.board tt tt (answered_as calls.Redraw (Script.Asked ∷ []) false answer session returned carry);
      known = record { session = session; checked = k.checked; makes = answer.2 true false returned carry; shares = same_shares calls.Redraw k };
    }
    redraw_line true true true returned carry flip runs session answer = let k = runs.known in record {
      board = acts runs.board tt tt (answered_as calls.Redraw (Script.Asked ∷ []) true answer session returned carry, flip);
      known = record { session = session; checked = k.checked; makes = answer.2 true true returned carry; shares = same_shares calls.Redraw k };
    }
    redraw_line true true false returned carry flip runs session answer = let k = runs.known in record {
      board = acts runs.board tt tt (answered_as calls.Redraw (Script.Asked ∷ []) true answer session returned carry, flip);
      known = record { session = session; checked = k.checked; makes = answer.2 true true returned carry; shares = same_shares calls.Redraw k };
    }

    abbrev To : Routine → Bool → Bool → Log
    To r t c = if t then with_answer image r c log else log

    offer_told : (F : List OpKind) (t c : Bool) → calls.is_over (before (calls.Offer F)) ≡ false → calls.is_over (now (calls.Offer F)) ≡ t → calls.answer (now (calls.Offer F)) ≡ c
        → Runs R image held (before (calls.Offer F) ∷ olds) log older → IsSession (now (calls.Offer F) ∷ olds)
        → On (calls.Offer F) (if t then (Offer F ⟼ (if c then Busy else Offered)) ∷ log else log)
    offer_told F t c unfinished returned carry runs session =
        let k = runs.known in
        let it = k.makes in
        let answer : Answer (calls.Offer F) (taken F) = answer_of (calls.Offer F) (taken F) it.0 it.1 unfinished it.2 it.3.1 it.3.0 it.4
        (λ new e quiet. (new, it.1, refl, (quiet, e), it.4)) in
        frame_line (calls.Offer F) F t c returned carry k.checked.0 runs session answer (fits c carry answer)
      where
        fits : (c : Bool) → calls.answer (now (calls.Offer F)) ≡ c → Answer (calls.Offer F) (taken F) → calls.is_over (now (calls.Offer F)) ≡ true
            → FitsCode R image log (Offer F) (if c then Busy else Offered)
        fits false carry answer is = inl (runs.known.checked.1, answered_as (calls.Offer F) (taken F) false answer session is carry)
        fits true carry answer is = inl (runs.known.checked.1, answered_as (calls.Offer F) (taken F) true answer session is carry)

    open_told : (F : List OpKind) (t c : Bool) → calls.is_over (before (calls.Open F)) ≡ false → calls.is_over (now (calls.Open F)) ≡ t → calls.answer (now (calls.Open F)) ≡ c
        → Runs R image held (before (calls.Open F) ∷ olds) log older → IsSession (now (calls.Open F) ∷ olds)
        → On (calls.Open F) (if t then (Offer F ⟼ (if c then Busy else Offered)) ∷ log else log)
    open_told F t c unfinished returned carry runs session =
        let k = runs.known in
        let it = k.makes in
        let answer : Answer (calls.Open F) (taken F) = answer_of (calls.Open F) (taken F) it.0 it.1 unfinished it.2 it.3.1 it.3.0 it.4
        (λ new e quiet. (new, it.1, refl, (quiet, e), it.4)) in
        frame_line (calls.Open F) F t c returned carry k.checked.0 runs session answer (fits c carry answer)
      where
        fits : (c : Bool) → calls.answer (now (calls.Open F)) ≡ c → Answer (calls.Open F) (taken F) → calls.is_over (now (calls.Open F)) ≡ true
            → FitsCode R image log (Offer F) (if c then Busy else Offered)
        fits false carry answer is = inr (runs.known.checked.1, answered_as (calls.Open F) (taken F) false answer session is carry)
        fits true carry answer is = inr (runs.known.checked.1, answered_as (calls.Open F) (taken F) true answer session is carry)

    redraw_answer : calls.is_over (before calls.Redraw) ≡ false → Runs R image held (before calls.Redraw ∷ olds) log older → Answer calls.Redraw (Script.Asked ∷ [])
    redraw_answer unfinished runs = let it = runs.known.makes in
        answer_of calls.Redraw (Script.Asked ∷ []) it.0 it.1 unfinished it.2 it.3.1 it.3.0 it.4
        (λ new e quiet. (new, it.1, refl, (quiet, e), it.4))

    -- each routine
    steps_by : (r : Routine) (t c : Bool) → calls.is_over (now r) ≡ t → calls.answer (now r) ≡ c
        → calls.is_over (before r) ≡ false → Runs R image held (before r ∷ olds) log older → IsSession (now r ∷ olds) → On r (To r t c)
    steps_by calls.Reset false c returned carry unfinished runs session = plain calls.Reset runs session (λ items is. (same ∙ is.0, is.1))
    steps_by calls.Reset true c returned carry unfinished runs session = plain calls.Reset runs session (λ items is. (same ∙ is.0, is.1))
    steps_by calls.Tick false c returned carry unfinished runs session = plain calls.Tick runs session shown
    steps_by calls.Tick true c returned carry unfinished runs session = plain calls.Tick runs session shown
    steps_by calls.Ticks false c returned carry unfinished runs session = plain calls.Ticks runs session shown
    steps_by calls.Ticks true c returned carry unfinished runs session = plain calls.Ticks runs session shown
    steps_by calls.Run false c returned carry unfinished runs session = plain calls.Run runs session shown
    steps_by calls.Run true c returned carry unfinished runs session = plain calls.Run runs session shown
    steps_by (calls.Offer F) t false returned carry unfinished runs session = offer_told F t false unfinished returned carry runs session
    steps_by (calls.Offer F) t true returned carry unfinished runs session = offer_told F t true unfinished returned carry runs session
    steps_by calls.Redraw t false returned carry unfinished runs session =
        redraw_line t false (has_flip (life image log)) returned carry refl runs session (redraw_answer unfinished runs)
    steps_by calls.Redraw t true returned carry unfinished runs session =
        redraw_line t true (has_flip (life image log)) returned carry refl runs session (redraw_answer unfinished runs)
    steps_by (calls.Open F) t false returned carry unfinished runs session = open_told F t false unfinished returned carry runs session
    steps_by (calls.Open F) t true returned carry unfinished runs session = open_told F t true unfinished returned carry runs session
    steps_by (calls.Puts part) false c returned carry unfinished runs session = plain (calls.Puts part) runs session shown
    steps_by (calls.Puts part) true c returned carry unfinished runs session = plain (calls.Puts part) runs session shown
    steps_by calls.Close false c returned carry unfinished runs session = plain calls.Close runs session shown
    steps_by calls.Close true c returned carry unfinished runs session = plain calls.Close runs session shown

  -- up to an access
  module _ (access : Access) (bus : Bus) (more : seen end.log ≡ access ∷ seen was.log) (is : IsBus bus)
      (served : IsServed R (after held older) bus) (made : Makes (after held older) bus access) where
    abbrev board : Board
    board = after held older

    abbrev next_log : Log
    next_log = answered image held older bus false log

    abbrev Goal : Routine → Type 0
    Goal r = Runs R image held (now r ∷ olds) (did (changes bus) next_log) (bus ∷ older)

    module _ (r : Routine) (runs : Runs R image held (before r ∷ olds) log older) (session : IsSession (now r ∷ olds)) where
      makes : IsLifeOf (before r ∷ olds) (life image log)
      makes = runs.known.makes

      next : Next (before r) (now r) access more r makes.0
      next = let live = calls_live (now r ∷ olds) session in
          next_of (before r) (now r) access more r makes.0 live.1.0 makes.3 live.1.3

      goes : (other : Action) → Shows other (access ∷ []) → IsLifeOf (now r ∷ olds) (Did other ∷ life image log)
      goes other shows =
          (Did other ∷ makes.0, makes.1, ap (λ l. Did other ∷ l) makes.2, next.2 other shows, makes.4)

      pins : ShowsIf (looks board bus) (Reads bus.a (q (clock board bus) bus)) × ShowsIf (changes bus) (Writes bus.a bus.d)
      pins = shows_next R image held log older runs.board bus bus is

      next_life : life image next_log ≡ life image (did (looks board bus) log)
      next_life = answered_life image held older bus false log ∙ one (nat_eq bus.reset 0) (life image (did (looks board bus) log))
        where
          one : (t : Bool) (l : List Item) → (if t then l else if false then [] else l) ≡ l
          one true l = refl
          one false l = refl

      next_ram : ram image (did (changes bus) next_log)
          ≡ (if writes bus then slice_set (ram image log) (bus.a % 0x800) bus.d else ram image log)
      next_ram = changes_ram image bus next_log
          ∙ ap (λ l. if writes bus then slice_set l (bus.a % 0x800) bus.d else l)
          (answered_ram image held older bus false log)

      -- what the RAM has after the access
      shares_by : (writing : Bool) → writes bus ≡ writing
          → ((a : ℕ) → a < 2048 → last_write (access ∷ seen was.log) (0x4000 + a) (from.mem (0x4000 + a))
          ≡ slice_index (if writing then slice_set (ram image log) (bus.a % 0x800) bus.d else ram image log) a)
          → (a : ℕ) → a < 2048 → last_write (seen end.log) (0x4000 + a) (from.mem (0x4000 + a))
          ≡ slice_index (ram image (did (changes bus) next_log)) a
      shares_by writing e has a small =
          ap (λ l. last_write l (0x4000 + a) (from.mem (0x4000 + a))) more ∙ has a small
          ∙ sym (ap (λ l. slice_index l a) (next_ram
          ∙ ap (λ (t : Bool). if t then slice_set (ram image log) (bus.a % 0x800) bus.d else ram image log) e))

      look : (other : Action) → looks board bus ≡ Some other → changes bus ≡ None → writes bus ≡ false
          → access ≡ Reads bus.a (q (clock board bus) bus) → Goal r
      look other looked unchanged unwritten same =
          let shows : Shows other (access ∷ []) = subst (λ x. Shows other (x ∷ [])) (sym same)
          (subst (λ d. ShowsIf d (Reads bus.a (q (clock board bus) bus))) looked pins.0) in
          record {
            board = clocks bus false runs.board is served
                (subst (FitsIf (FitsCode R image log)) (sym looked) (now r ∷ olds, session, goes other shows))
                (subst (FitsIf (FitsCode R image next_log)) (sym unchanged) tt);
            known = record {
              session = session;
              checked = runs.known.checked;
              makes = subst (IsLifeOf (now r ∷ olds)) (sym (ap (λ d. life image (did d next_log)) unchanged ∙ next_life
                  ∙ ap (λ d. life image (did d log)) looked)) (goes other shows);
              shares = shares_by false unwritten (λ a small.
                  ap (λ x. last_write (x ∷ seen was.log) (0x4000 + a) (from.mem (0x4000 + a))) same
                  ∙ runs.known.shares a small);
            };
          }

      change : (other : Action) → looks board bus ≡ None → changes bus ≡ Some other → access ≡ Writes bus.a bus.d
          → (writing : Bool) → writes bus ≡ writing
          → ((a : ℕ) → a < 2048 → (if nat_eq (0x4000 + a) bus.a then bus.d else slice_index (ram image log) a)
          ≡ slice_index (if writing then slice_set (ram image log) (bus.a % 0x800) bus.d else ram image log) a)
          → Goal r
      change other unlooked changed same writing written leaves =
          let shows : Shows other (access ∷ []) = subst (λ x. Shows other (x ∷ [])) (sym same)
          (subst (λ d. ShowsIf d (Writes bus.a bus.d)) changed pins.1) in
          let made_life : IsLifeOf (now r ∷ olds) (Did other ∷ life image next_log) =
          subst (λ l. IsLifeOf (now r ∷ olds) (Did other ∷ l)) (sym (next_life ∙ ap (λ d. life image (did d log)) unlooked))
          (goes other shows) in
          record {
            board = clocks bus false runs.board is served (subst (FitsIf (FitsCode R image log)) (sym unlooked) tt)
                (subst (FitsIf (FitsCode R image next_log)) (sym changed) (now r ∷ olds, session, made_life));
            known = record {
              session = session;
              checked = runs.known.checked;
              makes = subst (IsLifeOf (now r ∷ olds)) (sym (ap (λ d. life image (did d next_log)) changed)) made_life;
              shares = shares_by writing written (λ a small.
                  ap (λ x. last_write (x ∷ seen was.log) (0x4000 + a) (from.mem (0x4000 + a))) same
                  ∙ ap (λ byte. if nat_eq (0x4000 + a) bus.a then bus.d else byte) (runs.known.shares a small)
                  ∙ leaves a small);
            };
          }

      -- a read
      module _ (a byte : ℕ) (reading : access ≡ Reads a byte) where
        on_bus : Makes board bus (Reads a byte)
        on_bus = subst (Makes board bus) reading made

        reads_is : (b : ℕ) → reads bus b ≡ nat_eq a b
        reads_is b = ap (λ n. not (nat_eq n 0) && (nat_eq bus.write 0 && nat_eq bus.a b)) on_bus.0
            ∙ ap (λ n. nat_eq n 0 && nat_eq bus.a b) on_bus.1 ∙ ap (λ n. nat_eq n b) on_bus.2

        no_write : writes bus ≡ false
        no_write = ap (λ n. not (nat_eq n 0) && (not (nat_eq bus.write 0) && nat_eq (bus.a / 0x800) 8)) on_bus.0
            ∙ ap (λ n. not (nat_eq n 0) && nat_eq (bus.a / 0x800) 8) on_bus.1

        no_strobe : sends bus ≡ false
        no_strobe = ap (λ n. not (nat_eq n 0) && (not (nat_eq bus.write 0) && nat_eq bus.a 0x3000)) on_bus.0
            ∙ ap (λ n. not (nat_eq n 0) && nat_eq bus.a 0x3000) on_bus.1

        no_change : changes bus ≡ None
        no_change =
            ap (λ (t : Bool). if t then Some (Wrote (bus.a % 0x800) bus.d) else if sends bus then Some Sent else None) no_write
            ∙ ap (λ (t : Bool). if t then Some Sent else None) no_strobe

        found : access ≡ Reads bus.a (q (clock board bus) bus)
        found = reading ∙ ap (λ n. Reads n byte) (sym on_bus.2) ∙ ap (λ n. Reads bus.a n) (sym (on_bus.3 bus))

      -- a write
      module _ (a byte : ℕ) (writing : access ≡ Writes a byte) where
        bus_has : Makes board bus (Writes a byte)
        bus_has = subst (Makes board bus) writing made

        no_read : (b : ℕ) → reads bus b ≡ false
        no_read b = ap (λ n. not (nat_eq n 0) && (nat_eq bus.write 0 && nat_eq bus.a b)) bus_has.0
            ∙ ap (λ n. nat_eq n 0 && nat_eq bus.a b) bus_has.1

        no_look : looks board bus ≡ None
        no_look = ap (λ (t : Bool). if t then Some (Read (nat_eq (halted board.core) 1)) else if reads bus 0x4001
            then Some Peek else None) (no_read 0x2002) ∙ ap (λ (t : Bool). if t then Some Peek else None) (no_read 0x4001)

        writes_is : writes bus ≡ nat_eq (bus.a / 0x800) 8
        writes_is = ap (λ n. not (nat_eq n 0) && (not (nat_eq bus.write 0) && nat_eq (bus.a / 0x800) 8)) bus_has.0
            ∙ ap (λ n. not (nat_eq n 0) && nat_eq (bus.a / 0x800) 8) bus_has.1

        sends_is : sends bus ≡ nat_eq bus.a 0x3000
        sends_is = ap (λ n. not (nat_eq n 0) && (not (nat_eq bus.write 0) && nat_eq bus.a 0x3000)) bus_has.0
            ∙ ap (λ n. not (nat_eq n 0) && nat_eq bus.a 0x3000) bus_has.1

        put_there : access ≡ Writes bus.a bus.d
        put_there = writing ∙ ap (λ n. Writes n byte) (sym bus_has.2) ∙ ap (λ n. Writes bus.a n) (sym bus_has.3)

      by_action : (action : Action) → Shows action (access ∷ []) → Goal r
      by_action Peek shows =
          let e = first_is access (Reads 0x4001 shows.0) shows.1 in
          look Peek
          (ap (λ (t : Bool). if t then Some (Read (nat_eq (halted board.core) 1)) else if reads bus 0x4001 then Some Peek
          else None) (reads_is 0x4001 shows.0 e 0x2002)
          ∙ ap (λ (t : Bool). if t then Some Peek else None) (reads_is 0x4001 shows.0 e 0x4001))
          (no_change 0x4001 shows.0 e) (no_write 0x4001 shows.0 e) (found 0x4001 shows.0 e)
      by_action (Read flag) shows =
          let e = first_is access (Reads 0x2002 shows.0) shows.1 in
          look (Read (nat_eq (halted board.core) 1))
          (ap (λ (t : Bool). if t then Some (Read (nat_eq (halted board.core) 1)) else if reads bus 0x4001 then Some Peek
          else None) (reads_is 0x2002 shows.0 e 0x2002))
          (no_change 0x2002 shows.0 e) (no_write 0x2002 shows.0 e) (found 0x2002 shows.0 e)
      by_action (Wrote a byte) shows =
          let e = first_is access (Writes (0x4000 + a) byte) shows in
          let small : a < 0x800 = written_in_ram R image log a byte (system.legal R image held log older runs.board)
          (made_lives (Did (Wrote a byte) ∷ life image log) (now r ∷ olds, session, goes (Wrote a byte) shows)) in
          let at : bus.a ≡ 0x4000 + a = (bus_has (0x4000 + a) byte e).2 in
          let page : bus.a / 0x800 ≡ 8 = omega arith in
          let writing : writes bus ≡ true = writes_is (0x4000 + a) byte e ∙ ap (λ n. nat_eq n 8) page in
          change (Wrote (bus.a % 0x800) bus.d) (no_look (0x4000 + a) byte e)
          (ap (λ (t : Bool). if t then Some (Wrote (bus.a % 0x800) bus.d) else if sends bus then Some Sent else None) writing)
          (put_there (0x4000 + a) byte e) true writing
          (λ b below. wrote_ram (ram image log) (sized R image log (system.legal R image held log older runs.board))
          bus.a bus.d b page below)
      by_action Sent shows =
          let e = first_is access (Writes 0x3000 shows.0) shows.1 in
          let at : bus.a ≡ 0x3000 = (bus_has 0x3000 shows.0 e).2 in
          let writing : writes bus ≡ false = writes_is 0x3000 shows.0 e ∙ ap (λ n. nat_eq (n / 0x800) 8) at in
          change Sent (no_look 0x3000 shows.0 e)
          (ap (λ (t : Bool). if t then Some (Wrote (bus.a % 0x800) bus.d) else if sends bus then Some Sent else None) writing
          ∙ ap (λ (t : Bool). if t then Some Sent else None) (sends_is 0x3000 shows.0 e ∙ ap (λ n. nat_eq n 0x3000) at))
          (put_there 0x3000 shows.0 e) false writing
          (λ b below. ap (λ (t : Bool). if t then bus.d else slice_index (ram image log) b) (elsewhere bus.a b at))
      by_action Idle shows = absurd (cc)

      accesses_runs : Goal r
      accesses_runs = by_action next.0 next.1

runs_of : {R image : List ℕ} {held : ℕ → ℕ} {list : List Call} {log : Log} {older : List Bus}
    → IsMachine R image held list log older → Runs R image held list log older
runs_of (Machine.powers rom is_image same) = record { board = powers rom is_image same; known = (refl, refl) }
runs_of {R} {image} {held} (Machine.waits {calls = list} {log = log} {older = older} bus whole on is served idle) =
    waits_runs R image held list log older bus whole (runs_of on) is served idle
runs_of (Machine.tests bus on is served quiet) =
    let runs = runs_of on in
    record { board = tests bus runs.board runs.known.1 is served quiet; known = (refl, refl) }
runs_of {R} {image} {held} (Machine.begins {calls = list} {log = log} {older = older} routine from others on session checked shares) =
    begins_runs R image held log older from others routine list (runs_of on) session checked shares
runs_of {R} {image} {held} (Machine.steps {call = call} {calls = olds} {log = log} {older = older} n on unfinished session same) =
    steps_by R image held log older call.from call.steps n call.others olds same call.routine
    (calls.is_over (later n call)) (calls.answer (later n call)) refl refl unfinished (runs_of on) session
runs_of {R} {image} {held} (Machine.accesses {call = call} {calls = olds} {log = log} {older = older} n access bus on session more is served made) =
    accesses_runs R image held log older call.from call.steps n call.others olds access bus more is served made call.routine
    (runs_of on) session

pub legal : OfEachMachine (λ R image held list log older. IsLegal R image log)
legal R image held list log older on = system.legal R image held log older (runs_of on).board

pub headline : OfEachMachine (λ R image held list log older. Throughout (KeepsHeadline R image) log)
headline R image held list log older on = system.headline R image held log older (runs_of on).board

pub memory : OfEachMachine (λ R image held list log older. HoldsRam image held log older)
memory R image held list log older on = system.memory R image held log older (runs_of on).board

pub done : OfEachMachine (λ R image held list log older. AreDone list (life image log))
done R image held list log older on = by list (runs_of on).known
  where
    by : (list : List Call) → Known R image log list → AreDone list (life image log)
    by [] k = k.0
    by (call ∷ olds) k = k.makes

pub shared : OfEachMachine (λ R image held list log older. HaveRam list (after held older))
shared R image held list log older on = by list (runs_of on).known
  where
    by : (list : List Call) → Known R image log list → HaveRam list (after held older)
    by [] k = tt
    by (call ∷ olds) k = λ a small.
        call_ram call olds k.session a small ∙ k.shares a small ∙ sym (memory R image held list log older on a small)

pub answers : OfEachMachine (λ R image held list log older. AnswersNext image held log older)
answers R image held list log older on = system.answers R image held log older (runs_of on).board

pub finds : OfEachMachine (λ R image held list log older. FindsRam list (after held older))
finds R image held list log older on = by list on (runs_of on).known
  where
    by : (list : List Call) → IsMachine R image held list log older → Known R image log list
        → FindsRam list (after held older)
    by [] on k = tt
    by (call ∷ olds) on k = λ n a byte small session newest bus is access write at. (
      access,
      write,
      at,
      λ next.
          let page : bus.a / 0x800 ≡ 8 = omega arith in
          let place : bus.a % 0x800 ≡ a = omega arith in
          let uses : uses_ram bus ≡ true =
          ap (λ n. not (nat_eq n 0) && nat_eq (bus.a / 0x800) 8) access ∙ ap (λ n. nat_eq n 8) page in
          (answers R image held (call ∷ olds) log older on bus is).byte next uses write
          ∙ ap (slice_index (ram image log)) place ∙ sym (k.shares a small)
          ∙ sym (call_finds (later n call) olds session a byte small (accesses_of call) newest),
    )

pub accepted : OfEachMachine (λ R image held list log older. AcceptsPublished R log)
accepted R image held list log older on F is = published_accepts R image log F (legal R image held list log older on) is
