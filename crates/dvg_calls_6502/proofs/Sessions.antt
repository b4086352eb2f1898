-- What many calls make: a life, and only one.
use Rattle.std.proofs.Common.{◌≡◌, ℕ, inl, inr, ◌+◌, ◌-◌, ◌*◌, ◌<◌, ◌≤◌, Bool, true, false, List, [], ◌∷◌, ◌++◌, length}
use Rattle.std.proofs.Common.{refl, sym, ap, ◌∙◌, arith, zero, suc, eq-eqb}
use Rattle.std.proofs.lemmas.Bool.{ne_eqb}
use Rattle.std.specs.Prelude.{nat_eq, nat_le, nat_lt, ◌⊎◌, ◌&&◌, ◌||◌, if◌then◌else◌}
use Rattle.dvg_mem.specs.Areas.{other}
use Rattle.dvg_driver.specs.declared.action.Action.{Action}
use Rattle.dvg_driver.specs.declared.action.Action.TheVariants.{Peek, Wrote, Read, Sent, Idle}
use Rattle.dvg_driver.specs.Script.{Item, Offered, Asked, Did}
use Rattle.dvg_driver.proofs.Shapes.{place_life}
use Rattle.dvg_calls_6502.specs.Processor.{Cpu, Access, Reads, Writes, run, turn}
use Rattle.dvg_calls_6502.specs.Amid.{Guard, AreHarmless, changed, guards, is_kept, is_work, is_code, are_steady}
use Rattle.dvg_calls_6502.specs.Board.{IsLoaded, seen, tells_halted, is_own, is_ram, is_readable}
use Rattle.dvg_calls_6502.specs.Tables.{table_of}
use Rattle.dvg_calls_6502.specs.Routines.{Enters, Shows}
use Rattle.dvg_calls_6502.specs.Calls
use Rattle.dvg_calls_6502.specs.Calls.{Routine, Call, after, is_taken, is_table, is_offered, bounds, frame_of}
use Rattle.dvg_calls_6502.specs.Calls.{IsSession, Adds, AreShown, IsLifeOf, CallsLive, OneLife}
use Rattle.dvg_calls_6502.proofs.PlainTicks.{Covers}
use Rattle.dvg_calls_6502.proofs.AmidRun.{came_out}
use Rattle.dvg_calls_6502.proofs.Built.{holds_in, holds_on}
use Rattle.dvg_calls_6502.proofs.Interrupted.{Came, came, left_true, right_true, within as both_bounds}
use Rattle.dvg_calls_6502.proofs.Courses.{Outcome, Course, tick_course, ticks_course}
use Rattle.dvg_calls_6502.proofs.Courses.{run_course, puts_course, close_course, offer_course}
use Rattle.dvg_calls_6502.proofs.Courses.{open_course, redraw_course, reset_course}

-- a table that stands after a call was one that the call's guard has
covers_after : (routine : Routine) (call : Call) (bounds : ℕ × ℕ) (b : ℕ)
    → (Calls.taken_bounds routine call bounds).0 ≤ b → b < (Calls.taken_bounds routine call bounds).1
    → ((nat_le bounds.0 b && nat_lt b bounds.1) || Calls.is_offered routine call.from b) ≡ true
covers_after Calls.Reset call bounds b low high = absurd (omega (arith, high))
covers_after Calls.Tick call bounds b low high = left_true _ false (both_bounds bounds.0 bounds.1 b low high)
covers_after Calls.Ticks call bounds b low high = left_true _ false (both_bounds bounds.0 bounds.1 b low high)
covers_after Calls.Run call bounds b low high = left_true _ false (both_bounds bounds.0 bounds.1 b low high)
covers_after Calls.Redraw call bounds b low high = left_true _ false (both_bounds bounds.0 bounds.1 b low high)
covers_after (Calls.Open F) call bounds b low high = left_true _ false (both_bounds bounds.0 bounds.1 b low high)
covers_after (Calls.Puts part) call bounds b low high = left_true _ false (both_bounds bounds.0 bounds.1 b low high)
covers_after Calls.Close call bounds b low high = left_true _ false (both_bounds bounds.0 bounds.1 b low high)
covers_after (Calls.Offer F) call bounds b low high = by (Calls.is_taken call) low high
  where
    t : ℕ
    t = call.from.a + 256 * call.from.x

    by : (u : Bool)
        → (if u then (call.from.a + 256 * call.from.x + 2, call.from.a + 256 * call.from.x + 2 + length (table_of F)) else bounds).0 ≤ b
        → b < (if u then (call.from.a + 256 * call.from.x + 2, call.from.a + 256 * call.from.x + 2 + length (table_of F)) else bounds).1
        → ((nat_le bounds.0 b && nat_lt b bounds.1) || Calls.is_offered (Calls.Offer F) call.from b) ≡ true
    by true low high = right_true (nat_le bounds.0 b && nat_lt b bounds.1) _
        (both_bounds (call.from.a + 256 * call.from.x) (call.from.a + 256 * call.from.x + 2 + length (table_of F)) b
        (omega (arith, low)) high)
    by false low high = left_true _ (Calls.is_offered (Calls.Offer F) call.from b) (both_bounds bounds.0 bounds.1 b low high)

pub kept_own : (tables : ℕ → Bool) (b : ℕ) → is_own b ≡ true → is_kept tables b ≡ true
kept_own tables b is = left_true (is_own b) _ is

pub kept_ram : (tables : ℕ → Bool) (b : ℕ) → is_ram b ≡ true → is_kept tables b ≡ true
kept_ram tables b is = right_true (is_own b) _ (right_true (is_work b) _ (right_true (is_code b) _
    (left_true (is_readable b) (tables b) (left_true (is_ram b) _ is))))

pub kept_table : (tables : ℕ → Bool) (b : ℕ) → tables b ≡ true → is_kept tables b ≡ true
kept_table tables b is = right_true (is_own b) _ (right_true (is_work b) _ (right_true (is_code b) _
    (right_true (is_readable b) (tables b) is)))

-- one byte more is left alone
both_harmless : (g h u : Guard) → ((now k : ℕ) → u now k ≡ true → (g now k ≡ true) ⊎ (h now k ≡ true))
    → (s n : ℕ) (others : ℕ → ℕ → ℕ) (cpu : Cpu) → AreHarmless g s others n cpu → AreHarmless h s others n cpu
    → AreHarmless u s others n cpu
both_harmless g h u parts s zero others cpu one two = tt
both_harmless g h u parts s (suc n) others cpu one two = (
  (λ b is. by b (parts cpu.s b is)),
  both_harmless g h u parts s n (λ k. others (suc k)) (turn s (changed (others 0) cpu)) one.1 two.1,
)
  where
    by : (b : ℕ) → (g cpu.s b ≡ true) ⊎ (h cpu.s b ≡ true) → others 0 b ≡ cpu.mem b
    by b (inl is) = one.0 b is
    by b (inr is) = two.0 b is

-- so that byte comes out of a call as without others
pub spared : (call : Call) (calls : List Call)
    → ((tables : ℕ → Bool) → Covers tables (bounds calls).0 (bounds calls).1
    → are_steady (is_kept tables) call.from.s call.steps call.from ≡ true)
    → Calls.IsLeftAlone call calls → (b : ℕ)
    → AreHarmless (λ now k. nat_eq k b) call.from.s call.others call.steps call.from
    → (after call).mem b ≡ (run call.from.s call.steps call.from).mem b
spared call calls steady alone b leaves =
    let came = came_out (is_kept tables) call.from.s call.steps call.from call.from.mem call.others (λ b is. refl)
    (steady tables (λ k low high. left_true (is_table call calls k) (nat_eq k b)
    (left_true _ (is_offered call.routine call.from k) (both_bounds (bounds calls).0 (bounds calls).1 k low high))))
    (both_harmless (guards (is_kept (is_table call calls)) call.from.s) (λ now k. nat_eq k b)
    (guards (is_kept tables) call.from.s) (λ now k. parted (is_own k) (is_work k) (is_code k) (is_readable k)
    (is_table call calls k) (nat_eq k b) _) call.from.s call.steps call.others call.from alone leaves) in
    ap (λ (k : Cpu). k.mem b) came.same ∙ came.keeps b (left_true (is_kept tables b) _
    (kept_table tables b (right_true (is_table call calls b) (nat_eq b b) (eq-eqb b b refl))))
  where
    tables : ℕ → Bool
    tables k = is_table call calls k || nat_eq k b

    parted : (o w c h t e s : Bool) → ((o || (w || (c || (h || (t || e))))) || s) ≡ true
        → (((o || (w || (c || (h || t)))) || s) ≡ true) ⊎ (e ≡ true)
    parted true w c h t e s is = inl refl
    parted false true c h t e s is = inl refl
    parted false false true h t e s is = inl refl
    parted false false false true t e s is = inl refl
    parted false false false false true e s is = inl refl
    parted false false false false false true s is = inr refl
    parted false false false false false false s is = inl is

-- dvg_reset needs no premise, and begins a life; each other routine does neither
pub by_reset : (M : Routine → (Type 0 → Type 0) → (List Item → Type 0 → Type 0) → Type 0)
    → M Calls.Reset (λ P. Unit {0}) (λ old P. old ≡ []) → ((r : Routine) → M r (λ P. P) (λ old P. P))
    → (r : Routine) → M r (Calls.UnlessReset r) (Calls.SinceReset r)
by_reset M reset other Calls.Reset = reset
by_reset M reset other Calls.Tick = other Calls.Tick
by_reset M reset other Calls.Ticks = other Calls.Ticks
by_reset M reset other Calls.Run = other Calls.Run
by_reset M reset other (Calls.Offer F) = other (Calls.Offer F)
by_reset M reset other Calls.Redraw = other Calls.Redraw
by_reset M reset other (Calls.Open F) = other (Calls.Open F)
by_reset M reset other (Calls.Puts part) = other (Calls.Puts part)
by_reset M reset other Calls.Close = other Calls.Close

pub unless_map : (r : Routine) (P Q : Type 0) → (P → Q) → Calls.UnlessReset r P → Calls.UnlessReset r Q
unless_map r P Q f = by_reset (λ r U S. U P → U Q) (λ is. tt) (λ r. f) r

-- what holds at a call that follows others
pub record Before (from : Cpu) (calls : List Call) : Type 0 where
  pub life : List Item
  pub is_life : IsLifeOf calls life
  pub holds : holds_in (bounds calls).0 (bounds calls).1 (frame_of calls) from.mem life

before : (call : Call) (calls : List Call) → Calls.Follows call calls → IsLoaded call.from.mem → Outcome calls
    → Before call.from calls
before call [] follows load outcome = absurd follows
before call (older ∷ olds) follows load outcome =
    let untouched = follows.1 in
    let ends = bounds (older ∷ olds) in
    let tables = is_table older olds in
    let was = outcome.3 follows.0 in
    record {
      life = outcome.0;
      is_life = outcome.1;
      holds = holds_on ends.0 ends.1 (frame_of (older ∷ olds)) was.0 call.from.mem outcome.0 was.2 load
          (λ b is. untouched.own b is ∙ was.1 b (kept_own tables b is))
          (λ b is. untouched.ram b is ∙ was.1 b (kept_ram tables b is))
          (λ writing b low high far device. untouched.table (was.1 0x10 refl ∙ writing) b low high
          ∙ was.1 b (kept_table tables b (covers_after older.routine older (bounds olds) b low high)));
    }

course : (r : Routine) (from : Cpu) (calls : List Call) → Enters from (Calls.entry r)
    → Calls.Brings r from (frame_of calls) → Calls.UnlessReset r (Before from calls) → Course r from calls
course Calls.Reset from calls enters brings was = reset_course from calls enters
course Calls.Tick from calls enters brings was = tick_course from calls was.life was.is_life was.holds enters
course Calls.Ticks from calls enters brings was = ticks_course from calls was.life was.is_life was.holds enters
course Calls.Run from calls enters brings was = run_course from calls was.life was.is_life was.holds enters
course (Calls.Offer F) from calls enters brings was =
    offer_course from calls was.life was.is_life was.holds F enters brings
course Calls.Redraw from calls enters brings was = redraw_course from calls was.life was.is_life was.holds enters
course (Calls.Open F) from calls enters brings was = open_course from calls was.life was.is_life was.holds F enters brings
course (Calls.Puts part) from calls enters brings was =
    puts_course from calls was.life was.is_life was.holds part enters brings
course Calls.Close from calls enters brings was = close_course from calls was.life was.is_life was.holds enters brings

course_of : (call : Call) (calls : List Call) → IsSession (call ∷ calls) → (IsSession calls → Outcome calls)
    → Course call.routine call.from calls
course_of call calls session older = course call.routine call.from calls session.0 session.1
    (unless_map call.routine (Calls.Follows call calls × IsSession calls) (Before call.from calls)
    (λ both. before call calls both.0 session.0.loaded (older both.1)) session.3)

-- the tables that matter to a call are guarded
comes : (call : Call) (calls : List Call) → IsSession (call ∷ calls) → Course call.routine call.from calls
    → Came call calls
comes call calls session does =
    let ends = bounds calls in
    came call calls session.0 session.2 (λ k. does.steady k (is_table call calls)
    (λ b is. right_true (nat_le ends.0 b && nat_lt b ends.1) (is_offered call.routine call.from b) is)
    (λ b low high. left_true (nat_le ends.0 b && nat_lt b ends.1) (is_offered call.routine call.from b)
    (both_bounds ends.0 ends.1 b low high)))

outcome : (calls : List Call) → IsSession calls → Outcome calls
outcome [] session = absurd session
outcome (call ∷ calls) session = let does = course_of call calls session (outcome calls) in
    does.makes call.steps call.others (comes call calls session does)

pub came_of : (call : Call) (calls : List Call) → IsSession (call ∷ calls) → Came call calls
came_of call calls session = comes call calls session (course_of call calls session (outcome calls))

-- what holds at a call of a session
pub before_call : (call : Call) (calls : List Call) → Calls.Follows call calls → IsLoaded call.from.mem → IsSession calls
    → Before call.from calls
before_call call calls follows load session = before call calls follows load (outcome calls session)

pub calls_live : CallsLive
calls_live [] session = absurd session
calls_live (call ∷ calls) session =
    let made = outcome (call ∷ calls) session in (made.0, made.1, place_life made.0 made.2.0 made.2.1)

-- an access is one action
abbrev kind_of : Access → Action
kind_of (Reads a byte) = if nat_eq a 0x4001 then Peek else Read (tells_halted byte)
kind_of (Writes a byte) = if nat_eq a 0x3000 then Sent else Wrote (a - 0x4000) byte

pub head_same : (x y : Access) → ◌≡◌ {A = List Access} (x ∷ []) (y ∷ []) → x ≡ y
head_same x y is = cc

is_kind : (action : Action) (access : Access) → Shows action (access ∷ []) → action ≡ kind_of access
is_kind Peek access is = sym (ap kind_of (head_same access (Reads 0x4001 is.0) is.1))
is_kind (Wrote a byte) access is =
    let differ : nat_eq (0x4000 + a) 0x3000 ≡ false = ne_eqb (0x4000 + a) 0x3000 (λ e. absurd (omega arith)) in
    let back : 0x4000 + a - 0x4000 ≡ a = omega arith in
    sym (ap kind_of (head_same access (Writes (0x4000 + a) byte) is)
    ∙ ap (λ (t : Bool). if t then Sent else Wrote (0x4000 + a - 0x4000) byte) differ ∙ ap (λ b. Wrote b byte) back)
is_kind (Read halted) access is = ap Read is.2 ∙ sym (ap kind_of (head_same access (Reads 0x2002 is.0) is.1))
is_kind Sent access is = sym (ap kind_of (head_same access (Writes 0x3000 is.0) is.1))
is_kind Idle access is = absurd (cc)

one_shown : (log : List Access) (one other : List Item) → AreShown one log → AreShown other log → one ≡ other
one_shown [] [] [] a b = refl
one_shown [] [] (Did action ∷ other) a b = absurd b
one_shown [] [] (Offered half F ∷ other) a b = absurd b
one_shown [] [] (Asked ∷ other) a b = absurd b
one_shown [] (Did action ∷ one) other a b = absurd a
one_shown [] (Offered half F ∷ one) other a b = absurd a
one_shown [] (Asked ∷ one) other a b = absurd a
one_shown (access ∷ log) [] other a b = absurd a
one_shown (access ∷ log) (Offered half F ∷ one) other a b = absurd a
one_shown (access ∷ log) (Asked ∷ one) other a b = absurd a
one_shown (access ∷ log) (Did action ∷ one) [] a b = absurd b
one_shown (access ∷ log) (Did action ∷ one) (Offered half F ∷ other) a b = absurd b
one_shown (access ∷ log) (Did action ∷ one) (Asked ∷ other) a b = absurd b
one_shown (access ∷ log) (Did action ∷ one) (Did also ∷ other) a b =
    ap (λ (k : Action). Did k ∷ one) (is_kind action access a.0 ∙ sym (is_kind also access b.0))
    ∙ ap (λ l. Did also ∷ l) (one_shown log one other a.1 b.1)

one_added : (routine : Routine) (call : Call) (one other : List Item) → Adds routine call one
    → Adds routine call other → one ≡ other
one_added Calls.Reset call one other a b = a.1 ∙ sym b.1
one_added (Calls.Offer F) call one other a b = a.1 ∙ sym b.1
one_added (Calls.Open F) call one other a b = a.1 ∙ sym b.1
one_added Calls.Redraw call one other a b = a.1 ∙ sym b.1
one_added _ call one other a b = one_shown (seen (after call).log) one other a b

one_since : (r : Routine) (one other : List Item) (P : List Item → Type 0) → (P one → P other → one ≡ other)
    → Calls.SinceReset r one (P one) → Calls.SinceReset r other (P other) → one ≡ other
one_since r one other P same =
    by_reset (λ r U S. S one (P one) → S other (P other) → one ≡ other) (λ a b. a ∙ sym b) (λ r. same) r

pub one_life : OneLife
one_life [] one other a b = absurd a
one_life (call ∷ calls) one other a b =
    a.2 ∙ ap (λ l. l ++ a.1) (one_added call.routine call a.0 b.0 a.3 b.3)
    ∙ ap (λ l. b.0 ++ l) (one_since call.routine a.1 b.1 (λ l. IsLifeOf calls l) (one_life calls a.1 b.1) a.4 b.4)
    ∙ sym b.2
