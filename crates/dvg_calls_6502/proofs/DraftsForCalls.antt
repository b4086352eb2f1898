-- Drafts are found for calls: what that says, and those for a call that puts a part.
use Rattle.std.proofs.Common.{◌≡◌, ℕ, ◌+◌, ◌<◌, ◌≤◌, Bool, true, false, not, List, [], ◌∷◌, ◌++◌, length, refl}
use Rattle.std.proofs.Common.{sym, ap, ◌∙◌, subst, arith, Some, Option, None, drop, leb-true}
use Rattle.std.proofs.Math.Seq.{drop-append_seam}
use Rattle.std.proofs.lemmas.Bool.{leb-false}
use Rattle.std.specs.Prelude.{nat_eq, nat_le, nat_lt, ◌&&◌, ◌||◌, if◌then◌else◌, ℤ, ◌/◌, ◌%◌}
use Rattle.dvg_frame.specs.declared.op.OpKind.{OpKind}
use Rattle.dvg_frame.specs.declared.op.OpKind.TheVariants.{Draw}
use Rattle.dvg_code.specs.declared.instr.Instr.TheVariants.{Vctr, Svec}
use Rattle.dvg_code.specs.Acts.{Moves, act_of}
use Rattle.dvg_code.specs.Ranges.{InRange}
use Rattle.dvg_frame.specs.Ops.{IsOp}
use Rattle.dvg_driver.specs.Script.{Item}
use Rattle.dvg_calls_6502.specs.Processor.{Cpu, run, at_return}
use Rattle.dvg_calls_6502.specs.Amid.{AreHarmless, guards, is_kept}
use Rattle.dvg_calls_6502.specs.Tables.{table_of}
use Rattle.dvg_calls_6502.specs.Routines.{Enters, Part, Put, Pair, Labs, Vector, begins, put_by}
use Rattle.dvg_calls_6502.specs.Moves.{number, is_vector, is_short, in_256s, vector, vector_bytes}
use Rattle.dvg_calls_6502.specs.Calls.{Routine, Reset, Tick, Ticks, Run, Offer, Redraw, Open, Puts, Close, Call, after}
use Rattle.dvg_calls_6502.specs.Calls.{is_over, answer, finds_busy, is_leaving, is_taken, is_offered, entry, bounds, put_on, frame_of, Brings}
use Rattle.dvg_calls_6502.specs.Calls.{IsLeftAlone, IsRoomFor, Follows, IsSession}
use Rattle.dvg_calls_6502.specs.Build.{IsPut}
use Rattle.dvg_calls_6502.specs.Programs.{IsLabs, CallBrings, renamed, with_drafts, AreBuilt}
use Rattle.dvg_calls_6502.proofs.Built.{holds_in}
use Rattle.dvg_calls_6502.proofs.BuildCalls.{puts_room, puts_over}
use Rattle.dvg_calls_6502.proofs.Sessions.{came_of, before_call}
use Rattle.dvg_calls_6502.proofs.VectorDraws.{vector_draws}
use Rattle.dvg_calls_6502.proofs.Drafts.{Fits, shortest, shortest_fits, fits_more, table_on, ends_some}

-- what may come later in the frame that is being built
abbrev pub MayCome : List ℕ → Option (ℕ × List ℕ) → List OpKind → Type 0
MayCome R None later = Unit {0}
MayCome R (Some frame) later = Fits R frame.0 later

abbrev pub HasRoom : Option (ℕ × List ℕ) → Type 0
HasRoom None = Unit {0}
HasRoom (Some frame) = frame.0 ≤ 1020

-- the frame that is being built, where this comes later
abbrev pub with_later : List OpKind → Option (ℕ × List ℕ) → Option (ℕ × List ℕ)
with_later later None = None
with_later later (Some frame) = Some (frame.0, table_of later)

-- what may come at all
abbrev pub some_later : Option (ℕ × List ℕ) → List OpKind
some_later None = []
some_later (Some frame) = shortest frame.0

pub some_may_come : (R : List ℕ) (frame : Option (ℕ × List ℕ)) → HasRoom frame → MayCome R frame (some_later frame)
some_may_come R None room = tt
some_may_come R (Some frame) room = shortest_fits R frame.0 room

-- the call, with another draft
abbrev pub call_with : Call → List OpKind → Call
call_with call G = record call { routine = renamed call.routine G }

-- drafts for calls, after which this comes later
pub record Found (R : List ℕ) (later : List OpKind) (call : Call) (calls : List Call) : Type 0 where
  pub draft : List OpKind
  pub drafts : List (List OpKind)
  pub session : IsSession (call_with call draft ∷ with_drafts calls drafts)
  pub built : AreBuilt R (call_with call draft ∷ with_drafts calls drafts)
  pub same : bounds (call_with call draft ∷ with_drafts calls drafts) ≡ bounds (call ∷ calls)
  pub frame : is_over call ≡ true
      → frame_of (call_with call draft ∷ with_drafts calls drafts) ≡ with_later later (frame_of (call ∷ calls))

-- for all that may come later there are such drafts; and there is room for the HALT
pub record Finds (R : List ℕ) (call : Call) (calls : List Call) : Type 0 where
  pub found : (later : List OpKind) → MayCome R (frame_of (call ∷ calls)) later → Found R later call calls
  pub room : HasRoom (frame_of (call ∷ calls))

-- a call comes out amid others with the C that it has without them, and so where it is decided
pub told : (call : Call) (calls : List Call) → IsSession (call ∷ calls) → (c : Bool)
    → ((k : ℕ) → at_return call.from.s (run call.from.s k call.from) ≡ true → (run call.from.s k call.from).c ≡ c)
    → is_over call ≡ true → answer call ≡ c
told call calls session c carry here = let is = came_of call calls session in
    is.carry here ∙ carry is.n (sym is.over ∙ here)

-- what holds at a call that follows others
pub held : (call older : Call) (olds : List Call) → Enters call.from (entry call.routine) → Follows call (older ∷ olds)
    → IsSession (older ∷ olds)
    → (begin : ℕ) × ((stop : ℕ) × ((life : List Item) × holds_in begin stop (frame_of (older ∷ olds)) call.from.mem life))
held call older olds enters follows session =
    let was = before_call call (older ∷ olds) follows enters.loaded session in
    ((bounds (older ∷ olds)).0, ((bounds (older ∷ olds)).1, (was.life, was.holds)))

-- the draft doesn't matter to whether a call is over
pub busy_renamed : (routine : Routine) (G : List OpKind) (mem : ℕ → ℕ)
    → finds_busy (renamed routine G) mem ≡ finds_busy routine mem
busy_renamed Reset G mem = refl
busy_renamed _ G mem = refl

pub over_renamed : (call : Call) (G : List OpKind) → is_over (call_with call G) ≡ is_over call
over_renamed call G = ap (λ (t : Bool). at_return call.from.s (after call)
    || ((nat_eq call.steps 1 && t) || is_leaving call.from.s (after call))) (busy_renamed call.routine G call.from.mem)

-- one call more; what it brings is told of the drafts that were found
module _ (R : List ℕ) (call older : Call) (olds : List Call) (enters : Enters call.from (entry call.routine))
    (alone : IsLeftAlone call (older ∷ olds)) (follows : Follows call (older ∷ olds)) (later : List OpKind)
    (found : Found R later older olds) where
  abbrev pub olds' : List Call
  olds' = call_with older found.draft ∷ with_drafts olds found.drafts

  pub alone' : AreHarmless
      (guards (is_kept (λ b. (nat_le (bounds olds').0 b && nat_lt b (bounds olds').1) || is_offered call.routine call.from b))
      call.from.s) call.from.s call.others call.steps call.from
  alone' = subst (λ (p : ℕ × ℕ). AreHarmless
      (guards (is_kept (λ b. (nat_le p.0 b && nat_lt b p.1) || is_offered call.routine call.from b))
      call.from.s) call.from.s call.others call.steps call.from) (sym found.same) alone

  pub follows' : Follows call olds'
  follows' = (
    over_renamed older found.draft ∙ follows.0,
    record {
      own = follows.1.own;
      ram = follows.1.ram;
      table = λ writing b low high. follows.1.table writing b
          (subst (λ (p : ℕ × ℕ). p.0 ≤ b) found.same low) (subst (λ (p : ℕ × ℕ). b < p.1) found.same high);
    },
  )

  pub frame' : frame_of olds' ≡ with_later later (frame_of (older ∷ olds))
  frame' = found.frame follows.0

-- the C of an answer says whether the call was taken
pub taken_is : (call : Call) (c : Bool) → is_over call ≡ true → answer call ≡ c → is_taken call ≡ not c
taken_is call c here is = ap (λ (t : Bool). t && not (answer call)) here ∙ ap not is

pub not_taken : (call : Call) → is_over call ≡ false → is_taken call ≡ false
not_taken call open_yet = ap (λ (t : Bool). t && not (answer call)) open_yet

-- a vector is one that a program may put
vector_put : (R : List ℕ) (scale : ℕ) (dx dy : ℤ) (z : ℕ) → IsPut R (Draw (vector scale dx dy z))
vector_put R scale dx dy z = by (is_short scale dx dy)
  where
    by : (t : Bool) → let instr = if t then Svec scale (in_256s dx) (in_256s dy) z else Vctr scale dx dy z in
        act_of instr ≡ Moves instr
    by true = refl
    by false = refl

vector_table : (scale : ℕ) (dx dy : ℤ) (z : ℕ) → 1 ≤ length (vector_bytes scale dx dy z)
    → vector_bytes scale dx dy z ≡ table_of (Draw (vector scale dx dy z) ∷ [])
vector_table scale dx dy z = by (is_vector scale dx dy)
  where
    by : (t : Bool) → let now = if t then table_of (Draw (vector scale dx dy z) ∷ []) else [] in
        1 ≤ length now → now ≡ table_of (Draw (vector scale dx dy z) ∷ [])
    by true some = refl
    by false some = absurd (omega (arith, some))

vector_op : (R : List ℕ) (scale : ℕ) (dx dy : ℤ) (z : ℕ) → z ≤ 15 → 1 ≤ length (vector_bytes scale dx dy z)
    → IsOp (Draw (vector scale dx dy z))
vector_op R scale dx dy z low some = (in_range (is_vector scale dx dy) refl some, vector_put R scale dx dy z)
  where
    in_range : (t : Bool) → is_vector scale dx dy ≡ t
        → 1 ≤ length (if t then table_of (Draw (vector scale dx dy z) ∷ []) else []) → InRange (vector scale dx dy z)
    in_range true is some = (vector_draws scale dx dy z is low).0
    in_range false is some = absurd (omega (arith, some))

-- what a part puts is the words of an operation
told_op : (R : List ℕ) (part : Part) (from : Cpu) (frame : ℕ × List ℕ) → CallBrings R (Puts part) from (Some frame)
    → IsRoomFor part from frame.0
    → (op : OpKind) × (put_by part from ≡ table_of (op ∷ [])) × IsPut R op × IsOp op × (frame.0 ≡ 0 → IsLabs op)
told_op R Vector from frame tells room =
    let scale = from.a / 16 in
    let dx = number (from.mem 0x1D) (from.mem 0x1E) in
    let dy = number (from.mem 0x1B) (from.mem 0x1C) in
    let z = from.a % 16 in (
      Draw (vector scale dx dy z),
      vector_table scale dx dy z room.0,
      vector_put R scale dx dy z,
      vector_op R scale dx dy z (omega arith) room.0,
      λ none. absurd (omega (arith, tells, none)),
    )
told_op R _ from frame tells room = tells room

-- a call that puts a part, over a frame that is being built
module _ (R : List ℕ) (part : Part) (from : Cpu) (steps : ℕ) (others : ℕ → ℕ → ℕ) (older : Call) (olds : List Call)
    (enters : Enters from (begins part)) where
  abbrev pub putting : Call
  putting = record { routine = Puts part; from = from; steps = steps; others = others }

  abbrev width : ℕ
  width = length (put_by part from)

  module _ (alone : IsLeftAlone putting (older ∷ olds)) (follows : Follows putting (older ∷ olds))
      (tells : CallBrings R (Puts part) from (frame_of (older ∷ olds))) (finds : Finds R older olds) where
    -- with these drafts for those before it
    module _ (next : List OpKind) (found : Found R next older olds) where
      abbrev before : List Call
      before = call_with older found.draft ∷ with_drafts olds found.drafts

      put_session : Brings (Puts part) from (frame_of before) → IsSession (putting ∷ before)
      put_session brings = (
        enters,
        brings,
        alone' R putting older olds enters alone follows next found,
        (follows' R putting older olds enters alone follows next found, found.session),
      )

      made : (draft later : List OpKind) → Brings (Puts part) from (frame_of before)
          → (is_over putting ≡ true → frame_of (putting ∷ before) ≡ with_later later (frame_of (putting ∷ older ∷ olds)))
          → Found R later putting (older ∷ olds)
      made draft later brings frame = record {
        draft = draft;
        drafts = found.draft ∷ found.drafts;
        session = put_session brings;
        built = (tt, found.built);
        same = found.same;
        frame = frame;
      }

    module _ (frame : ℕ × List ℕ) (is : frame_of (older ∷ olds) ≡ Some frame) where
      tells_now : IsRoomFor part from frame.0 → (op : OpKind) × (put_by part from ≡ table_of (op ∷ [])) × IsPut R op
          × IsOp op × (frame.0 ≡ 0 → IsLabs op)
      tells_now = told_op R part from frame (subst (λ f. CallBrings R (Puts part) from f) is tells)

      -- there is room
      module _ (room : IsRoomFor part from frame.0) where
        abbrev op : OpKind
        op = (tells_now room).0

        next_fits : (later : List OpKind) → Fits R (frame.0 + width) later → MayCome R (frame_of (older ∷ olds)) (op ∷ later)
        next_fits later fits = subst (λ f. MayCome R f (op ∷ later)) (sym is)
            (fits_more R frame.0 op later (tells_now room).2 (tells_now room).3 (tells_now room).4
            (subst (λ l. Fits R (frame.0 + length l) later) (tells_now room).1 fits))

        module _ (later : List OpKind) (fits : Fits R (frame.0 + width) later) where
          abbrev found_next : Found R (op ∷ later) older olds
          found_next = finds.found (op ∷ later) (next_fits later fits)

          frame_before : frame_of (before (op ∷ later) found_next) ≡ Some (frame.0, put_by part from ++ table_of later)
          frame_before = frame' R putting older olds enters alone follows (op ∷ later) found_next
              ∙ ap (with_later (op ∷ later)) is
              ∙ ap (λ l. Some (frame.0, l)) (table_on R op later (tells_now room).2 fits.ends
              ∙ ap (λ l. l ++ table_of later) (sym (tells_now room).1))

          brings_next : Brings (Puts part) from (frame_of (before (op ∷ later) found_next))
          brings_next = subst (λ f. Brings (Puts part) from f) (sym frame_before)
              (λ less. (table_of later, refl, ends_some R later fits.ends))

          -- so it is taken
          takes : is_over putting ≡ true → is_taken putting ≡ true
          takes here =
              let holds = held putting (call_with older found_next.draft) (with_drafts olds found_next.drafts) enters
              (follows' R putting older olds enters alone follows (op ∷ later) found_next) found_next.session in
              let did = puts_room part from holds.0 holds.1.0 (frame.0, put_by part from ++ table_of later) (table_of later)
              holds.1.1.0 enters room.0
              (subst (λ f. holds_in holds.0 holds.1.0 f from.mem holds.1.1.0) frame_before holds.1.1.1) refl
              (ends_some R later fits.ends) in
              taken_is putting false here
              (told putting (before (op ∷ later) found_next) (put_session (op ∷ later) found_next brings_next) false
              did.carry here)

          after_put : is_taken putting ≡ true → frame_of (putting ∷ before (op ∷ later) found_next)
              ≡ with_later later (frame_of (putting ∷ older ∷ olds))
          after_put taken =
              ap (λ (t : Bool). if t then put_on (put_by part from) (frame_of (before (op ∷ later) found_next))
              else frame_of (before (op ∷ later) found_next)) taken
              ∙ ap (put_on (put_by part from)) frame_before
              ∙ ap (λ l. Some (frame.0 + width, l)) (drop-append_seam (put_by part from) (table_of later))
              ∙ ap (λ f. with_later later (put_on (put_by part from) f)) (sym is)
              ∙ ap (λ (t : Bool). with_later later (if t then put_on (put_by part from) (frame_of (older ∷ olds))
              else frame_of (older ∷ olds))) (sym taken)

          found_put : Found R later putting (older ∷ olds)
          found_put = made (op ∷ later) found_next [] later brings_next (λ here. after_put (takes here))

        room_finds : Finds R putting (older ∷ olds)
        room_finds = record {
          found = λ later may. by later (is_over putting) refl may;
          room = has_room (is_taken putting);
        }
          where
            has_room : (t : Bool) → HasRoom (if t then put_on (put_by part from) (frame_of (older ∷ olds))
                else frame_of (older ∷ olds))
            has_room true = subst (λ f. HasRoom (put_on (put_by part from) f)) (sym is) room.1
            has_room false = finds.room

            taken_now : is_over putting ≡ true → frame_of (putting ∷ older ∷ olds)
                ≡ Some (frame.0 + width, drop width frame.1)
            taken_now here = ap (λ (t : Bool). if t then put_on (put_by part from) (frame_of (older ∷ olds))
                else frame_of (older ∷ olds)) (takes (shortest (frame.0 + width)) (shortest_fits R (frame.0 + width) room.1) here)
                ∙ ap (put_on (put_by part from)) is

            by : (later : List OpKind) (t : Bool) → is_over putting ≡ t
                → MayCome R (frame_of (putting ∷ older ∷ olds)) later → Found R later putting (older ∷ olds)
            by later true here may = found_put later (subst (λ f. MayCome R f later) (taken_now here) may)
            by later false open_yet may =
                let least = shortest (frame.0 + width) in
                let fits = shortest_fits R (frame.0 + width) room.1 in
                made (op ∷ least) (found_next least fits) [] later (brings_next least fits)
                (λ here. absurd (let e = sym open_yet ∙ here in cc))

      -- there is none
      module _ (over : IsRoomFor part from frame.0 → ⊥) where
        over_may : (later : List OpKind) → MayCome R (frame_of (putting ∷ older ∷ olds)) later
            → is_taken putting ≡ false → MayCome R (frame_of (older ∷ olds)) later
        over_may later may untaken = subst (λ (t : Bool). MayCome R (if t then put_on (put_by part from)
            (frame_of (older ∷ olds)) else frame_of (older ∷ olds)) later) untaken may

        module _ (later : List OpKind) (found : Found R later older olds) where
          frame_over : frame_of (before later found) ≡ Some (frame.0, table_of later)
          frame_over = frame' R putting older olds enters alone follows later found ∙ ap (with_later later) is

          brings_over : Brings (Puts part) from (frame_of (before later found))
          brings_over = subst (λ f. Brings (Puts part) from f) (sym frame_over) (λ less. absurd (over less))

          refuses : is_over putting ≡ true → is_taken putting ≡ false
          refuses here =
              let holds = held putting (call_with older found.draft) (with_drafts olds found.drafts) enters
              (follows' R putting older olds enters alone follows later found) found.session in
              let did = puts_over part from holds.0 holds.1.0 (frame.0, table_of later) holds.1.1.0 enters
              (subst (λ f. holds_in holds.0 holds.1.0 f from.mem holds.1.1.0) frame_over holds.1.1.1) over in
              taken_is putting true here
              (told putting (before later found) (put_session later found brings_over) true did.carry here)

        untaken : is_taken putting ≡ false
        untaken = by (is_over putting) refl
          where
            by : (t : Bool) → is_over putting ≡ t → is_taken putting ≡ false
            by true here = refuses (some_later (frame_of (older ∷ olds)))
                (finds.found (some_later (frame_of (older ∷ olds)))
                (some_may_come R (frame_of (older ∷ olds)) finds.room)) here
            by false open_yet = not_taken putting open_yet

        same_frame : (f : Option (ℕ × List ℕ)) → (if is_taken putting then put_on (put_by part from) f else f) ≡ f
        same_frame f = ap (λ (t : Bool). if t then put_on (put_by part from) f else f) untaken

        over_finds : Finds R putting (older ∷ olds)
        over_finds = record {
          found = λ later may. let found = finds.found later (over_may later may untaken) in
              made later found [] later (brings_over later found)
              (λ here. same_frame (frame_of (before later found))
              ∙ frame' R putting older olds enters alone follows later found
              ∙ ap (with_later later) (sym (same_frame (frame_of (older ∷ olds)))));
          room = subst HasRoom (sym (same_frame (frame_of (older ∷ olds)))) finds.room;
        }

    pub puts_find : Finds R putting (older ∷ olds)
    puts_find = by (frame_of (older ∷ olds)) refl
      where
        split : (frame : ℕ × List ℕ) → frame_of (older ∷ olds) ≡ Some frame → (t : Bool) → nat_le 1 width ≡ t
            → (u : Bool) → nat_le (frame.0 + width) 1020 ≡ u → Finds R putting (older ∷ olds)
        split frame is true any true less = room_finds frame is (leb-true 1 width any, leb-true (frame.0 + width) 1020 less)
        split frame is false none u less = over_finds frame is
            (λ room. let no = leb-false 1 width none in let some = room.0 in absurd (omega (arith, no, some)))
        split frame is true any false more = over_finds frame is
            (λ room. let above = leb-false (frame.0 + width) 1020 more in let low = room.1 in absurd (omega (arith, above, low)))

        by : (frame : Option (ℕ × List ℕ)) → frame_of (older ∷ olds) ≡ frame → Finds R putting (older ∷ olds)
        by (Some frame) is = split frame is (nat_le 1 width) refl (nat_le (frame.0 + width) 1020) refl
        by None is = record {
          found = λ later may. let found = finds.found later (subst (λ f. MayCome R f later) (sym is) tt) in
              let none : frame_of (before later found) ≡ None =
              frame' R putting older olds enters alone follows later found ∙ ap (with_later later) is in
              made later found [] later (subst (λ f. Brings (Puts part) from f) (sym none) tt)
              (λ here. ap still none ∙ still_none (is_taken putting)
              ∙ sym (ap (λ f. with_later later (still f)) is ∙ ap (with_later later) (still_none (is_taken putting)))
              );
          room = subst HasRoom (sym (ap still is ∙ still_none (is_taken putting))) tt;
        }
          where
            still : Option (ℕ × List ℕ) → Option (ℕ × List ℕ)
            still f = if is_taken putting then put_on (put_by part from) f else f

            still_none : (t : Bool) → (if t then put_on (put_by part from) None else None) ≡ None
            still_none true = refl
            still_none false = refl
