-- A call of the driver comes to its RTS, and the play is in the game again.
use Rattle.std.proofs.Common.{◌≡◌, ◌⊎◌, inl, inr, ℕ, zero, suc, ◌+◌, ◌*◌, ◌/◌, ◌%◌, ◌<◌, ◌≤◌, Bool, true, false, List}
use Rattle.std.proofs.Common.{◌∷◌, refl, sym, ap, ◌∙◌, subst, arith, eqb-true}
use Rattle.std.specs.Prelude.{◌&&◌, ◌||◌, nat_eq, nat_le, nat_lt, if◌then◌else◌, None, Some, Option, drop, length}
use Rattle.std.proofs.lemmas.Bool.{or_left, or_right}
use Rattle.dvg_calls_6502.specs.Processor.{Cpu, Access, at_return, decoded, does, opcodes, stack_place}
use Rattle.dvg_calls_6502.specs.Processor as processor
use Rattle.dvg_calls_6502.specs.Amid as driver
use Rattle.dvg_calls_6502.specs.Amid.{is_kept}
use Rattle.dvg_calls_6502.specs.Board.{is_own, is_ram}
use Rattle.dvg_calls_6502.specs.Calls.{Routine, Call, after, bounds, entry, frame_after, frame_of, is_offered}
use Rattle.dvg_calls_6502.specs.Calls.{is_table, is_taken, put_on, taken_bounds, UnlessReset}
use Rattle.dvg_calls_6502.specs.Calls as calls_of
use Rattle.dvg_calls_6502.specs.Routines.{Put, Pair, Labs, Vector, put_by}
use Rattle.dvg_calls_6502.specs.Tables.{table_of}
use Rattle.dvg_calls_6502.proofs.Interrupted.{within}
use Rattle.dvg_calls_6502.proofs.Sessions.{kept_own, kept_ram, kept_table}
use Rattle.dvg_game_rules.specs.Kinds.{kind_of}
use Rattle.dvg_game_rules.specs.Kinds as kinds
use Rattle.dvg_game_rules.specs.Machine.{Choice, State, IsRun, blank_after, calling, driven, is_driver, left_by, returned}
use Rattle.dvg_game_rules.specs.Machine.{step, steps, called, word_at}
use Rattle.dvg_game_rules.specs.Machine as machine
use Rattle.dvg_game_rules.specs.Alike.{MatchesCpu, of_cpu}
use Rattle.dvg_game_rules.proofs.Facts.{both_true, inside}
use Rattle.dvg_game_rules.proofs.LocalKinds.{ticked}
use Rattle.dvg_game_rules.proofs.Memory.{either}
use Rattle.dvg_game_6502.specs.Play.{IsByteWide, done, fresh}
use Rattle.dvg_game_6502.specs.Open.{IsIn}
use Rattle.dvg_game_6502.proofs.CheckerFollows.{as_cpu}
use Rattle.dvg_game_6502.proofs.Bearers.{Bearer, Ended}
use Rattle.dvg_game_6502.proofs.DriverSteps.{choice, left_as, safe}
use Rattle.dvg_game_6502.proofs.Stages.{Back, jmp, jsr, InDriver, InGame, NotBlank, IsAccepted}

-- what is needed between calls is kept amid them
pub needed_kept : (tables : ℕ → Bool) (b : ℕ) → (is_own b || is_ram b) ≡ true → is_kept tables b ≡ true
needed_kept tables b is = by (either (is_own b) (is_ram b) is)
  where
    by : (is_own b ≡ true) ⊎ (is_ram b ≡ true) → is_kept tables b ≡ true
    by (inl own) = kept_own tables b own
    by (inr ram) = kept_ram tables b ram

-- a table that stands after a call was one of its own
pub covers : (routine : Routine) (call : Call) (old : ℕ × ℕ) (b : ℕ) → (taken_bounds routine call old).0 ≤ b
    → b < (taken_bounds routine call old).1
    → ((nat_le old.0 b && nat_lt b old.1) || is_offered routine call.from b) ≡ true
covers calls_of.Reset call old b low high = absurd (omega (arith, high))
covers calls_of.Tick call old b low high = or_left _ false (within old.0 old.1 b low high)
covers calls_of.Ticks call old b low high = or_left _ false (within old.0 old.1 b low high)
covers calls_of.Run call old b low high = or_left _ false (within old.0 old.1 b low high)
covers calls_of.Redraw call old b low high = or_left _ false (within old.0 old.1 b low high)
covers (calls_of.Open F) call old b low high = or_left _ false (within old.0 old.1 b low high)
covers (calls_of.Puts part) call old b low high = or_left _ false (within old.0 old.1 b low high)
covers calls_of.Close call old b low high = or_left _ false (within old.0 old.1 b low high)
covers (calls_of.Offer F) call old b low high = by (is_taken call) low high
  where
    t : ℕ
    t = call.from.a + 256 * call.from.x

    by : (u : Bool) → (if u then (t + 2, t + 2 + length (table_of F)) else old).0 ≤ b
        → b < (if u then (t + 2, t + 2 + length (table_of F)) else old).1
        → ((nat_le old.0 b && nat_lt b old.1) || is_offered (calls_of.Offer F) call.from b) ≡ true
    by true low high = or_right (nat_le old.0 b && nat_lt b old.1) _
        (within t (t + 2 + length (table_of F)) b (omega (arith, low)) high)
    by false low high = or_left _ (is_offered (calls_of.Offer F) call.from b) (within old.0 old.1 b low high)

-- a frame isn't blank where the checker says so
puts_more : (now : List ℕ) (frame : Option (ℕ × List ℕ)) → NotBlank frame → NotBlank (put_on now frame)
puts_more now None is = tt
puts_more now (Some frame) is = omega (arith, is)

either_frame : (t : Bool) (taken left : Option (ℕ × List ℕ)) → NotBlank taken → NotBlank left
    → NotBlank (if t then taken else left)
either_frame true taken left one two = one
either_frame false taken left one two = two

-- after dvg_labs there is a LABS, if a frame is begun
labs_put : (call : Call) (frame : Option (ℕ × List ℕ))
    → ((rest : List ℕ) → frame ≡ Some (0, rest) → is_taken call ≡ true)
    → NotBlank (if is_taken call then put_on (put_by Labs call.from) frame else frame)
labs_put call None taken = either_frame (is_taken call) None None tt tt
labs_put call (Some frame) taken = by frame.0 refl
  where
    by : (n : ℕ) → frame.0 ≡ n → NotBlank (if is_taken call then Some (frame.0 + 4, drop 4 frame.1) else Some frame)
    by zero none = subst (λ (t : Bool). NotBlank (if t then Some (frame.0 + 4, drop 4 frame.1) else Some frame))
        (sym (taken frame.1 (ap (λ k. Some (k, frame.1)) none))) (omega arith)
    by (suc n) some = either_frame (is_taken call) (Some (frame.0 + 4, drop 4 frame.1)) (Some frame) (omega arith)
        (omega (arith, some))

pub frame_on : (r : Routine) (call : Call) (frame : Option (ℕ × List ℕ)) (blank : Bool)
    → blank_after (entry r) blank ≡ false → UnlessReset r (blank ≡ false → NotBlank frame)
    → (r ≡ calls_of.Puts Labs → (rest : List ℕ) → frame ≡ Some (0, rest) → is_taken call ≡ true)
    → NotBlank (frame_after r call frame)
frame_on calls_of.Reset call frame blank is old labs = tt
frame_on (calls_of.Open F) call frame blank is old labs = absurd (cc)
frame_on (calls_of.Puts Put) call frame blank is old labs = either_frame (is_taken call)
    (put_on (put_by Put call.from) frame) frame (puts_more (put_by Put call.from) frame (old is)) (old is)
frame_on (calls_of.Puts Pair) call frame blank is old labs = either_frame (is_taken call)
    (put_on (put_by Pair call.from) frame) frame (puts_more (put_by Pair call.from) frame (old is)) (old is)
frame_on (calls_of.Puts Labs) call frame blank is old labs = labs_put call frame (labs refl)
frame_on (calls_of.Puts Vector) call frame blank is old labs = either_frame (is_taken call)
    (put_on (put_by Vector call.from) frame) frame (puts_more (put_by Vector call.from) frame (old is)) (old is)
frame_on calls_of.Close call frame blank is old labs = either_frame (is_taken call) None frame tt (old is)
frame_on _ call frame blank is old labs = old is

-- what the call leaves that is guarded is where its bearer has it end, too
pub ended_kept : (R : List ℕ) (routine : Routine) (s : ℕ) (calls : List Call) (cpu : Cpu) (mine : List Access)
    (is : IsIn R routine s calls cpu mine (λ n. 0)) (end : Ended R calls is.call) (b : ℕ)
    → is_kept (is_table is.call calls) b ≡ true → cpu.mem b ≡ (after end.last).mem b
ended_kept R routine s calls cpu mine is end b guarded =
    is.same b (or_left (is_kept (is_table is.call calls) b) _ guarded)
    ∙ sym (ap (λ (k : Cpu). k.mem b) is.after) ∙ end.kept b guarded

-- the machine's state at the return
pub record Came (rom : ℕ → ℕ) (start : ℕ) (ret : Cpu) (since : ℕ) (to : ℕ) (blank : Bool) (old : State) : Type 0 where
  pub st : State
  -- one step of the machine from its JSR or JMP
  pub choice : Choice
  pub stepped : st ≡ step choice old
  pub place : st.pc ≡ ret.pc
  pub run : IsRun rom start (of_cpu ret st)
  pub homeless : st.home ≡ None
  pub time : st.since ≡ since
  pub blank_is : st.blank ≡ blank_after to blank

module _ {R : List ℕ} {B : Bearer R} {rom : ℕ → ℕ} {start : ℕ} (game : IsAccepted rom start)
    {cpu : Cpu} {w : B.World} (d : InDriver R B rom start cpu w)
    (there : at_return d.s cpu ≡ true) (since : ℕ) (flags : ℕ → ℕ) where
  opcode : cpu.mem cpu.pc ≡ 0x60
  opcode = eqb-true (cpu.mem cpu.pc) 0x60 (both_true (nat_eq (cpu.mem cpu.pc) 0x60) (nat_eq cpu.s d.s) there).0

  level : cpu.s ≡ d.s
  level = eqb-true cpu.s d.s (both_true (nat_eq (cpu.mem cpu.pc) 0x60) (nat_eq cpu.s d.s) there).1

  -- the processor after its RTS
  abbrev pub ret : Cpu
  ret = does processor.Return (fresh flags cpu)

  pub ret_is : done flags cpu ≡ ret
  ret_is = ap (λ b. does (decoded opcodes b) (fresh flags cpu)) opcode

  abbrev chosen : Choice
  chosen = record (choice game d) { since = suc since }

  abbrev to : ℕ
  to = word_at d.st.mem (d.st.pc + 1)

  left : (b : ℕ) → left_by d.st.s cpu.mem d.st.mem b ≡ cpu.mem b
  left b = left_as game d b

  place : d.st.pc + 3 < 65536
  place = let high = (inside d.st.pc (safe game d).inside).1 in omega (arith, high)

  by_jsr : kind_of (d.st.mem d.st.pc) ≡ kinds.Call → d.s + 2 ≡ d.st.s
      → cpu.mem (0x100 + (d.s + 1)) ≡ (d.st.pc + 2) % 256 → cpu.mem (0x100 + (d.s + 2)) ≡ (d.st.pc + 2) / 256
      → Came rom start ret (suc since) to d.st.blank d.st
  by_jsr is up one two = record {
    st = new;
    choice = chosen;
    stepped = sym step_is;
    place = alike.pc;
    run = subst (IsRun rom start) (as_cpu new ret alike) (subst (IsRun rom start) step_is (steps chosen d.run d.goes));
    homeless = d.homeless;
    time = refl;
    blank_is = refl;
  }
    where
      new : State
      new = record (driven to chosen (ticked d.st)) { pc = d.st.pc + 3 }

      drives : is_driver to ≡ true
      drives = sym (ap (λ k. calling k d.st) is) ∙ d.calls_it

      step_is : step chosen d.st ≡ new
      step_is = ap (λ k. machine.does k chosen (ticked d.st)) is
          ∙ ap (λ (t : Bool). if t then new else called to (ticked d.st)) drives

      small : d.s + 2 ≤ 255
      small = let most = d.most in omega (arith, up, most)

      low : cpu.mem (stack_place (cpu.s + 1)) ≡ (d.st.pc + 2) % 256
      low = ap (λ s. cpu.mem (stack_place (s + 1))) level
          ∙ ap cpu.mem (let e : stack_place (d.s + 1) ≡ 0x100 + (d.s + 1) = omega (arith, small) in e) ∙ one

      high : cpu.mem (stack_place (cpu.s + 2)) ≡ (d.st.pc + 2) / 256
      high = ap (λ s. cpu.mem (stack_place (s + 2))) level
          ∙ ap cpu.mem (let e : stack_place (d.s + 2) ≡ 0x100 + (d.s + 2) = omega (arith, small) in e) ∙ two

      alike : MatchesCpu new ret
      alike = record {
        a = refl;
        x = refl;
        y = refl;
        pc = let far = place in let e : d.st.pc + 3 ≡ ((d.st.pc + 2) % 256 + 256 * ((d.st.pc + 2) / 256) + 1) % 65536 =
            omega (arith, far) in
            e ∙ ap (λ v. (v + 256 * ((d.st.pc + 2) / 256) + 1) % 65536) (sym low)
            ∙ ap (λ v. (cpu.mem (stack_place (cpu.s + 1)) + 256 * v + 1) % 65536) (sym high);
        s = let e : d.st.s ≡ (cpu.s + 2) % 256 = omega (arith, up, level, small) in e;
        mem = left;
      }

  by_jmp : kind_of (d.st.mem d.st.pc) ≡ kinds.Jump → d.s ≡ d.st.s → Came rom start ret (suc since) to d.st.blank d.st
  by_jmp is same = record {
    st = new;
    choice = chosen;
    stepped = sym step_is;
    place = alike.pc;
    run = subst (IsRun rom start) (as_cpu new ret alike) (subst (IsRun rom start) step_is (steps chosen d.run d.goes));
    homeless = d.homeless;
    time = refl;
    blank_is = refl;
  }
    where
      new : State
      new = returned (driven to chosen (ticked d.st))

      drives : is_driver to ≡ true
      drives = sym (ap (λ k. calling k d.st) is) ∙ d.calls_it

      step_is : step chosen d.st ≡ new
      step_is = ap (λ k. machine.does k chosen (ticked d.st)) is
          ∙ ap (λ (t : Bool). if t then new else record (ticked d.st) { pc = to }) drives

      s_is : d.st.s ≡ cpu.s
      s_is = sym same ∙ sym level

      alike : MatchesCpu new ret
      alike = record {
        a = refl;
        x = refl;
        y = refl;
        pc = ap (λ s. (left_by d.st.s cpu.mem d.st.mem (stack_place (s + 1))
            + 256 * left_by d.st.s cpu.mem d.st.mem (stack_place (s + 2)) + 1) % 65536) s_is
            ∙ ap (λ v. (v + 256 * left_by d.st.s cpu.mem d.st.mem (stack_place (cpu.s + 2)) + 1) % 65536)
            (left (stack_place (cpu.s + 1)))
            ∙ ap (λ v. (cpu.mem (stack_place (cpu.s + 1)) + 256 * v + 1) % 65536) (left (stack_place (cpu.s + 2)));
        s = ap (λ s. (s + 2) % 256) s_is;
        mem = left;
      }

  pub came : Came rom start ret (suc since) to d.st.blank d.st
  came = by d.back
    where
      by : Back d.st cpu.mem d.s → Came rom start ret (suc since) to d.st.blank d.st
      by (jsr is up one two) = by_jsr is up one two
      by (jmp is same) = by_jmp is same

  -- how its bearer leaves the call
  over : (is : IsIn R d.routine d.s d.calls cpu d.mine (λ n. 0)) × (end : Ended R d.calls is.call)
      × B.Between (end.last ∷ d.calls) cpu.mem w
  over = B.returns d.routine d.s d.calls cpu d.mine w d.place there d.doing

  abbrev is : IsIn R d.routine d.s d.calls cpu d.mine (λ n. 0)
  is = over.0

  abbrev end : Ended R d.calls is.call
  end = over.1

  kept : (b : ℕ) → is_kept (is_table is.call d.calls) b ≡ true → cpu.mem b ≡ (after end.last).mem b
  kept b guarded = ended_kept R d.routine d.s d.calls cpu d.mine is end b guarded

  in_table : (b : ℕ) → (bounds (end.last ∷ d.calls)).0 ≤ b → b < (bounds (end.last ∷ d.calls)).1
      → is_table is.call d.calls b ≡ true
  in_table b low high = ap (λ k. (nat_le (bounds d.calls).0 b && nat_lt b (bounds d.calls).1)
      || is_offered is.call.routine k b) (sym end.from_is)
      ∙ ap (λ r. (nat_le (bounds d.calls).0 b && nat_lt b (bounds d.calls).1) || is_offered r end.last.from b)
      (sym end.routine_is)
      ∙ covers end.last.routine end.last (bounds d.calls) b low high

  pub driver_returns : IsByteWide ret → InGame R B rom start ret (suc since) w
  driver_returns bytes = record {
    st = came.st;
    run = came.run;
    homeless = came.homeless;
    time = came.time;
    bytes = bytes;
    calls = end.last ∷ d.calls;
    between = over.2;
    tables = λ b low high. is.in_rom b (in_table b low high);
    rests = λ awake. record {
      rested = (
        end.session,
        end.over,
        (λ b needed. kept b (needed_kept (is_table is.call d.calls) b needed)),
        (λ b low high. kept b (kept_table (is_table is.call d.calls) b (in_table b low high))),
      );
      frame = λ blank. subst (λ r. NotBlank (frame_after r end.last (frame_of d.calls))) (sym now_is)
          (frame_on d.routine end.last (frame_of d.calls) d.st.blank
          (ap (λ t. blank_after t d.st.blank) (sym d.to) ∙ sym came.blank_is ∙ blank) d.frame
          (λ labs_is. end.taken (is.routine_is ∙ labs_is)));
    };
  }
    where
      now_is : end.last.routine ≡ d.routine
      now_is = end.routine_is ∙ is.routine_is
