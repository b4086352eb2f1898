-- An NMI before the program has set S. The machine here takes it at the program's start, with S at 255: but for where the
-- stack begins, that is the same NMI.
use Rattle.std.proofs.Common.{◌≡◌, ℕ, suc, ◌+◌, ◌*◌, ◌/◌, ◌%◌, ◌<◌, ◌≤◌, ◌⊎◌, inl, inr, Bool, true, false, [], refl, sym, ap, ◌∙◌}
use Rattle.std.proofs.Common.{subst, arith, eq-eqb, le-leb}
use Rattle.std.proofs.lemmas.Bool.{lt-leb, ne_eqb}
use Rattle.std.proofs.lemmas.Bool.Decides.{eqb_tells}
use Rattle.std.specs.Prelude.{if◌then◌else◌, nat_eq, nat_lt, None, Some}
use Rattle.dvg_calls_6502.specs.Processor
use Rattle.dvg_calls_6502.specs.Processor.{Cpu, Register, A, X, Y, flags_byte, put, stack_place, target}
use Rattle.dvg_game_rules.specs.Kinds.{Kind, Sets, Nothing, Only, Quiet, Reads, Transfer, Stores, Push, PushFlags, Pull, PullFlags}
use Rattle.dvg_game_rules.specs.Kinds.{AbsoluteIndexed, Branch, Jump, Call, Return, Finish, Wild, Place, kind_of, size}
use Rattle.dvg_game_rules.specs.Machine.{Begins, Came, Choice, IsLoaded, IsTurned, State, address, begins, does, interrupted, is_driver}
use Rattle.dvg_game_rules.specs.Machine.{nmi_vector, of_register, pushed, reset_vector, restarting, setting, word_at}
use Rattle.dvg_game_rules.specs.Checker.{Notes, accepts_game, fine_by, interrupts, may_write, noted, of_reached, same_level, starts, Sub}
use Rattle.dvg_game_rules.specs.Safe.{ComesBack, InCase, IsCalled, IsSafeBy}
use Rattle.dvg_game_rules.specs.Alike.{IsOwn, MatchesCpu, idle}
use Rattle.dvg_game_rules.proofs.StepsByKind.{steps_alike}
use Rattle.dvg_game_rules.proofs.CallsAndReturns.{Enters, comes_so, entering}
use Rattle.dvg_game_rules.proofs.Facts.{IsInside, both_true, placed}
use Rattle.dvg_game_rules.proofs.NmiStepsHold.{first_there, nmi_step, no_call, opcode_there, second_there, two_levels}
use Rattle.dvg_game_rules.proofs.LocalKinds.{ticked}
use Rattle.dvg_game_rules.proofs.Memory.{IsAside, aside, may_apart, other, reaching}
use Rattle.dvg_game_rules.proofs.Safety.{IsBeside, may_nmi, nmi_safe}
use Rattle.dvg_game_rules.proofs.RunInvariant.{Good, Handles, Runs, Stands}
use Rattle.dvg_game_rules.proofs.SafeSteps.{checked}
use Rattle.dvg_game_rules.proofs.OutsideTurns.{low_inside, rom_inside}
use Rattle.dvg_game_rules.proofs.RunsAreSafe.{good_run}

-- registers and PC are the same, S and the stack stand this much higher in the one; and in the other this NMI came as many
-- instructions ago
pub record AreTurned (gap : ℕ) (rom : ℕ → ℕ) (came : Came) (ago : ℕ) (one st : State) : Type 0 where
  pub a : one.a ≡ st.a
  pub x : one.x ≡ st.x
  pub y : one.y ≡ st.y
  pub pc : one.pc ≡ st.pc
  pub s : one.s ≡ (st.s + gap) % 256
  pub stack : (k : ℕ) → one.mem (stack_place (k + gap)) ≡ st.mem (stack_place k)
  pub loaded : IsLoaded rom one.mem
  pub amid : st.amid ≡ Some came
  pub since : st.since ≡ ago

-- a byte is put on both stacks
put_turned : (gap s t byte byte' : ℕ) (mem mem' : ℕ → ℕ) → byte ≡ byte' → stack_place s ≡ stack_place (t + gap)
    → ((k : ℕ) → mem (stack_place (k + gap)) ≡ mem' (stack_place k)) → (k : ℕ)
    → put (stack_place s) byte mem (stack_place (k + gap)) ≡ put (stack_place t) byte' mem' (stack_place k)
put_turned gap s t byte byte' mem mem' same place stack k = elim (eqb_tells (stack_place k) (stack_place t)) [
  | inl e ↦
      let is = e.1 in
      ap (λ u. if u then byte else mem (stack_place (k + gap)))
      (eq-eqb (stack_place (k + gap)) (stack_place s) (omega (arith, is, place)))
      ∙ same ∙ sym (ap (λ u. if u then byte' else mem' (stack_place k)) e.0)
  | inr e ↦
      ap (λ u. if u then byte else mem (stack_place (k + gap)))
      (ne_eqb (stack_place (k + gap)) (stack_place s) (λ is. e.1 (omega (arith, is, place))))
      ∙ stack k ∙ sym (ap (λ u. if u then byte' else mem' (stack_place k)) e.0)
]

-- a byte on the stack is none of the ROM
put_rom : (rom mem : ℕ → ℕ) (s byte : ℕ) → IsLoaded rom mem → IsLoaded rom (put (stack_place s) byte mem)
put_rom rom mem s byte loaded b high top = other (stack_place s) byte mem b (λ is. omega (arith, is, high)) ∙ loaded b high top

module _ (rom : ℕ → ℕ) (notes : Notes) (gap : ℕ) (came : Came) (since : ℕ) (one st : State)
    (r : AreTurned gap rom came since one st) (loaded : IsLoaded rom st.mem) (h : Handles notes st) where
  there : IsInside st.pc
  there = placed notes st.pc h.now h.is

  one_there : IsInside one.pc
  one_there = subst IsInside (sym r.pc) there

  opcode : one.mem one.pc ≡ rom st.pc
  opcode = opcode_there rom one.mem one.pc r.loaded one_there ∙ ap rom r.pc

  first : one.mem (one.pc + 1) ≡ st.mem (st.pc + 1)
  first = first_there rom one.mem one.pc r.loaded one_there ∙ ap (λ p. rom (p + 1)) r.pc
      ∙ sym (first_there rom st.mem st.pc loaded there)

  word : word_at one.mem (one.pc + 1) ≡ word_at st.mem (st.pc + 1)
  word = ap (λ b. b + 256 * one.mem (one.pc + 1 + 1)) first ∙ ap (λ b. st.mem (st.pc + 1) + 256 * b)
      (second_there rom one.mem one.pc r.loaded one_there ∙ ap (λ p. rom (p + 1 + 1)) r.pc
      ∙ sym (second_there rom st.mem st.pc loaded there))

  -- a byte that was pushed
  pulled : (back : ℕ) → one.mem (stack_place (one.s + back)) ≡ st.mem (stack_place (st.s + back))
  pulled back = let s = r.s in
      ap one.mem (let e : stack_place (one.s + back) ≡ stack_place (st.s + back + gap) = omega (arith, s) in e)
      ∙ r.stack (st.s + back)

  -- it jumps neither to the reset nor to the driver
  jumps_on : IsSafeBy Jump st → (restarting Jump st ≡ false) × (is_driver (word_at st.mem (st.pc + 1)) ≡ false)
  jumps_on safe = by (nat_eq (word_at st.mem (st.pc + 1)) (word_at st.mem reset_vector)) (is_driver (word_at st.mem (st.pc + 1))) safe
    where
      by : (t u : Bool)
          → InCase t (st.amid ≡ None) (InCase u (IsCalled st (word_at st.mem (st.pc + 1)) × ComesBack st) (Unit {0}))
          → (t ≡ false) × (u ≡ false)
      by true u safe = absurd (let e = sym r.amid ∙ safe in cc)
      by false true safe = absurd (let e = sym r.amid ∙ safe.0.program in cc)
      by false false safe = (refl, refl)

  goes_on : (kind : Kind) → IsSafeBy kind st → restarting kind st ≡ false
  goes_on Jump safe = (jumps_on safe).0
  goes_on kind safe = refl

  -- where its stores write
  stored : (mem : ℕ → ℕ) (pc index : ℕ) (place : Place) → IsLoaded rom mem → pc ≡ st.pc
      → of_reached place rom st.pc (may_write h.now.level) ≡ true → may_write h.now.level (address place mem pc index) ≡ true
  stored mem pc index place has is fine =
      let at = subst IsInside (sym is) there in
      reaching place rom mem pc index (may_write h.now.level) (first_there rom mem pc has at) (second_there rom mem pc has at)
      (subst (λ p. of_reached place rom p (may_write h.now.level) ≡ true) (sym is) fine)

  module _ (choice : Choice) where
    abbrev Goes : State → State → Type 0
    Goes one st = AreTurned gap rom came (suc since) one st

    abbrev Next : Kind → Type 0
    Next kind = Goes (does kind choice (ticked one)) (does kind choice (ticked st))

    registers : {a x y pc a' x' y' pc' : ℕ} → a ≡ a' → x ≡ x' → y ≡ y' → pc ≡ pc'
        → Goes (record (ticked one) { a = a; x = x; y = y; pc = pc }) (record (ticked st) { a = a'; x = x'; y = y'; pc = pc' })
    registers e f i j = record {
      a = e;
      x = f;
      y = i;
      pc = j;
      s = r.s;
      stack = r.stack;
      loaded = r.loaded;
      amid = r.amid;
      since = ap suc r.since;
    }

    sets_next : (sets : Sets) (bytes : ℕ) → Goes (record (setting sets choice (ticked one)) { pc = one.pc + bytes })
        (record (setting sets choice (ticked st)) { pc = st.pc + bytes })
    sets_next Nothing bytes = registers r.a r.x r.y (ap (λ p. p + bytes) r.pc)
    sets_next (Only A) bytes = registers refl r.x r.y (ap (λ p. p + bytes) r.pc)
    sets_next (Only X) bytes = registers r.a refl r.y (ap (λ p. p + bytes) r.pc)
    sets_next (Only Y) bytes = registers r.a r.x refl (ap (λ p. p + bytes) r.pc)

    same_register : (from : Register) → of_register from (ticked one) ≡ of_register from (ticked st)
    same_register A = r.a
    same_register X = r.x
    same_register Y = r.y

    moves_next : (from to : Register) → Next (Transfer from to)
    moves_next from A = registers (same_register from) r.x r.y (ap (λ p. p + 1) r.pc)
    moves_next from X = registers r.a (same_register from) r.y (ap (λ p. p + 1) r.pc)
    moves_next from Y = registers r.a r.x (same_register from) (ap (λ p. p + 1) r.pc)

    stores_next : (place : Place) → of_reached place rom st.pc (may_write h.now.level) ≡ true → Next (Stores place)
    stores_next place fine = record {
      a = r.a;
      x = r.x;
      y = r.y;
      pc = ap (λ p. p + size place) r.pc;
      s = r.s;
      stack = λ k. off one.mem (address place one.mem one.pc choice.index) (apart one.mem one.pc r.loaded r.pc) (k + gap)
          ∙ r.stack k ∙ sym (off st.mem (address place st.mem st.pc choice.index) (apart st.mem st.pc loaded refl) k);
      loaded = λ b high top. other (address place one.mem one.pc choice.index) choice.byte one.mem b
          (λ same. (apart one.mem one.pc r.loaded r.pc).rom b high same) ∙ r.loaded b high top;
      amid = r.amid;
      since = ap suc r.since;
    }
      where
        apart : (mem : ℕ → ℕ) (pc : ℕ) → IsLoaded rom mem → pc ≡ st.pc → IsAside (address place mem pc choice.index)
        apart mem pc has is = aside (address place mem pc choice.index)
            (may_apart h.now.level (address place mem pc choice.index) (stored mem pc choice.index place has is fine))

        off : (mem : ℕ → ℕ) (a : ℕ) → IsAside a → (k : ℕ) → put a choice.byte mem (stack_place k) ≡ mem (stack_place k)
        off mem a beside k = other a choice.byte mem (stack_place k) (λ same. beside.stack (k % 256) (omega arith)
            ((let e : stack_place (k % 256) ≡ stack_place k = omega arith in e) ∙ same))

    push_next : (byte byte' : ℕ) → byte ≡ byte'
        → Goes (record (ticked one) { pc = one.pc + 1; s = (one.s + 255) % 256; mem = put (stack_place one.s) byte one.mem })
        (record (ticked st) { pc = st.pc + 1; s = (st.s + 255) % 256; mem = put (stack_place st.s) byte' st.mem })
    push_next byte byte' same = let s = r.s in record {
      a = r.a;
      x = r.x;
      y = r.y;
      pc = ap (λ p. p + 1) r.pc;
      s = omega (arith, s);
      stack = put_turned gap one.s st.s byte byte' one.mem st.mem same (omega (arith, s)) r.stack;
      loaded = put_rom rom one.mem one.s byte r.loaded;
      amid = r.amid;
      since = ap suc r.since;
    }

    pull_next : (a a' : ℕ) → a ≡ a' → Goes (record (ticked one) { pc = one.pc + 1; s = (one.s + 1) % 256; a = a })
        (record (ticked st) { pc = st.pc + 1; s = (st.s + 1) % 256; a = a' })
    pull_next a a' same = let s = r.s in record {
      a = same;
      x = r.x;
      y = r.y;
      pc = ap (λ p. p + 1) r.pc;
      s = omega (arith, s);
      stack = r.stack;
      loaded = r.loaded;
      amid = r.amid;
      since = ap suc r.since;
    }

    branch_next : (t : Bool) → Goes
        (record (ticked one) { pc = if t then target one.pc (one.mem (one.pc + 1)) else one.pc + 2 })
        (record (ticked st) { pc = if t then target st.pc (st.mem (st.pc + 1)) else st.pc + 2 })
    branch_next true =
        registers r.a r.x r.y (ap (λ p. target p (one.mem (one.pc + 1))) r.pc ∙ ap (target st.pc) first)
    branch_next false = registers r.a r.x r.y (ap (λ p. p + 2) r.pc)

    -- it goes on; or this is its RTI
    follows : (kind : Kind) → fine_by kind notes rom st.pc h.now ≡ true → IsSafeBy kind st → Next kind ⊎ (kind ≡ Finish)
    follows (Quiet sets bytes) fine safe = inl (sets_next sets bytes)
    follows (Reads sets place) fine safe = inl (sets_next sets (size place))
    follows (Transfer from to) fine safe = inl (moves_next from to)
    follows (Stores place) fine safe =
        inl (stores_next place (both_true (of_reached place rom st.pc (may_write h.now.level)) _ fine).0)
    follows Push fine safe = inl (push_next one.a st.a r.a)
    follows PushFlags fine safe = inl (push_next choice.byte choice.byte refl)
    follows Pull fine safe = inl (pull_next (one.mem (stack_place (one.s + 1))) (st.mem (stack_place (st.s + 1))) (pulled 1))
    follows PullFlags fine safe = inl (pull_next one.a st.a r.a)
    follows Branch fine safe = inl (branch_next choice.taken)
    follows Jump fine safe = by (is_driver (word_at one.mem (one.pc + 1))) (is_driver (word_at st.mem (st.pc + 1)))
        (ap is_driver word ∙ (jumps_on safe).1) (jumps_on safe).1
      where
        jumped : Bool → State → State
        jumped t at = if t then Rattle.dvg_game_rules.specs.Machine.returned
            (Rattle.dvg_game_rules.specs.Machine.driven (word_at at.mem (at.pc + 1)) choice at)
            else record at { pc = word_at at.mem (at.pc + 1) }

        by : (t u : Bool) → t ≡ false → u ≡ false
            → Goes (jumped t (ticked one)) (jumped u (ticked st)) ⊎ (Jump ≡ Finish)
        by false false e f = inl (registers r.a r.x r.y word)
        by true u e f = absurd (cc)
        by false true e f = absurd (cc)
    follows Call fine safe = absurd (no_call rom notes st loaded h fine)
    follows Return fine safe = absurd (two_levels h.now.level h.level (both_true (same_level h.now.level Sub) _ fine).0)
    follows Finish fine safe = inr refl
    follows Wild fine safe = absurd safe

-- what an NMI comes upon there
abbrev pub upon : Cpu → Came
upon cpu = record { pc = cpu.pc; s = 255; p = flags_byte false cpu; a = cpu.a; x = cpu.x; y = cpu.y }

-- the processor is amid an NMI that came upon this one before the program had set S, as many instructions ago
pub record Early (rom : ℕ → ℕ) (start : ℕ) (back : Cpu) (since : ℕ) (cpu : Cpu) : Type 0 where
  pub notes : Notes
  pub accepted : accepts_game rom start notes ≡ true
  pub st : State
  pub good : Good rom notes st
  pub gap : ℕ
  pub turned : AreTurned gap rom (upon back) since (idle cpu) st

-- where its RTI leads: memory may be another one, and S
pub record IsBack (rom : ℕ → ℕ) (back cpu : Cpu) : Type 0 where
  pub loaded : IsLoaded rom cpu.mem
  pub pc : cpu.pc ≡ back.pc
  pub x : cpu.x ≡ back.x

-- a step of the machine is one of the processor
as_cpu : (gap : ℕ) (rom : ℕ → ℕ) (came : Came) (since : ℕ) (one st : State) (cpu : Cpu) → MatchesCpu one cpu
    → AreTurned gap rom came since one st → AreTurned gap rom came since (idle cpu) st
as_cpu gap rom came since one st cpu is r = record {
  a = sym is.a ∙ r.a;
  x = sym is.x ∙ r.x;
  y = sym is.y ∙ r.y;
  pc = sym is.pc ∙ r.pc;
  s = sym is.s ∙ r.s;
  stack = λ k. sym (is.mem (stack_place (k + gap))) ∙ r.stack k;
  loaded = λ b high top. sym (is.mem b) ∙ r.loaded b high top;
  amid = r.amid;
  since = r.since;
}

pub same_came : (one two : Came) → Some one ≡ Some two → one ≡ two
same_came one two is = cc

module _ {rom : ℕ → ℕ} {start : ℕ} {back : Cpu} {since : ℕ} {cpu : Cpu} (e : Early rom start back since cpu) where
  handles : Handles e.notes e.st
  handles = by e.good.stage
    where
      by : (Runs e.notes e.st ⊎ Handles e.notes e.st) → Handles e.notes e.st
      by (inl runs) = absurd (let f = sym e.turned.amid ∙ runs.outside in cc)
      by (inr h) = h

  pub early_time : since ≤ 800
  early_time = let time = handles.time in let is = e.turned.since in omega (arith, time, is)

  pub early_loaded : IsLoaded rom cpu.mem
  early_loaded = e.turned.loaded

  pub early_place : IsInside cpu.pc
  early_place = one_there rom e.notes e.gap (upon back) since (idle cpu) e.st e.turned e.good.loaded handles

  abbrev kind : Kind
  kind = kind_of (cpu.mem cpu.pc)

  fine : fine_by kind e.notes rom e.st.pc handles.now ≡ true
  fine = subst (λ o. fine_by (kind_of o) e.notes rom e.st.pc handles.now ≡ true)
      (sym (opcode rom e.notes e.gap (upon back) since (idle cpu) e.st e.turned e.good.loaded handles))
      (checked rom start e.notes e.st.pc handles.now e.accepted handles.is)

  pub early_safe : IsSafeBy kind e.st
  early_safe = nmi_safe rom e.notes e.st e.good.loaded handles kind fine

  -- it writes what is free
  pub early_beside : IsBeside kind (idle cpu)
  early_beside = by kind fine early_safe
    where
      by : (kind : Kind) → fine_by kind e.notes rom e.st.pc handles.now ≡ true → IsSafeBy kind e.st → IsBeside kind (idle cpu)
      by (Stores place) it is = λ index.
          may_nmi (idle cpu) handles.now.level (address place cpu.mem cpu.pc index) handles.level
          (stored rom e.notes e.gap (upon back) since (idle cpu) e.st e.turned e.good.loaded handles cpu.mem cpu.pc index place
          e.turned.loaded e.turned.pc (both_true (of_reached place rom e.st.pc (may_write handles.now.level)) _ it).0)
      by Wild it is = is
      by other it is = tt

  own : cpu.x < 256 → cpu.y < 256 → IsOwn kind cpu (idle cpu)
  own x_in y_in = by kind fine early_safe
    where
      by : (kind : Kind) → fine_by kind e.notes rom e.st.pc handles.now ≡ true → IsSafeBy kind e.st → IsOwn kind cpu (idle cpu)
      by (Stores AbsoluteIndexed) it is = (x_in, y_in)
      by Jump it is = ap is_driver (word rom e.notes e.gap (upon back) since (idle cpu) e.st e.turned e.good.loaded handles)
          ∙ (jumps_on rom e.notes e.gap (upon back) since (idle cpu) e.st e.turned e.good.loaded handles is).1
      by Call it is = absurd (no_call rom e.notes e.st e.good.loaded handles it)
      by Finish it is = refl
      by other it is = tt

  -- an instruction of the NMI: it goes on, or it leads back
  pub early_steps : cpu.x < 256 → cpu.y < 256
      → Early rom start back (suc since) (Processor.step cpu) ⊎ IsBack rom back (Processor.step cpu)
  early_steps x_in y_in =
      by (follows rom e.notes e.gap (upon back) since (idle cpu) e.st e.turned e.good.loaded handles choice kind fine early_safe)
    where
      like : (choice : Choice) × MatchesCpu (does kind choice (ticked (idle cpu))) (Processor.step cpu)
      like = steps_alike cpu (idle cpu) (own x_in y_in)

      choice : Choice
      choice = like.0

      good_then : Good rom e.notes (does kind choice (ticked e.st))
      good_then = nmi_step rom e.notes e.st e.good.loaded handles kind choice fine
          (goes_on rom e.notes e.gap (upon back) since (idle cpu) e.st e.turned e.good.loaded handles kind early_safe)

      by : AreTurned e.gap rom (upon back) (suc since) (does kind choice (ticked (idle cpu))) (does kind choice (ticked e.st))
          ⊎ (kind ≡ Finish)
          → Early rom start back (suc since) (Processor.step cpu) ⊎ IsBack rom back (Processor.step cpu)
      by (inl on) = inl (record {
        notes = e.notes;
        accepted = e.accepted;
        st = does kind choice (ticked e.st);
        good = good_then;
        gap = e.gap;
        turned = as_cpu e.gap rom (upon back) (suc since) (does kind choice (ticked (idle cpu))) (does kind choice (ticked e.st))
            (Processor.step cpu) like.1 on;
      })
      by (inr last) =
          let after = subst (λ k. MatchesCpu (does k choice (ticked (idle cpu))) (Processor.step cpu)) last like.1 in
          let safe = subst (λ k. IsSafeBy k e.st) last early_safe in
          let came = same_came (upon back) _ (sym e.turned.amid ∙ safe) in
          let byte = pulled rom e.notes e.gap (upon back) since (idle cpu) e.st e.turned e.good.loaded handles in
          inr (record {
            loaded = λ b high top. sym (after.mem b) ∙ e.turned.loaded b high top;
            pc = sym after.pc ∙ ap (λ b. b + 256 * cpu.mem (stack_place (cpu.s + 3))) (byte 2)
                ∙ ap (λ b. e.st.mem (stack_place (e.st.s + 2)) + 256 * b) (byte 3) ∙ sym (ap (λ (c : Came). c.pc) came);
            x = sym after.x ∙ e.turned.x ∙ sym (ap (λ (c : Came). c.x) came);
          })

  -- what is outside turns, and it stands as it stood
  pub early_turns : (mem flags : ℕ → ℕ) → IsTurned cpu.mem mem
      → Early rom start back since (record cpu { mem = mem; flags = flags; log = [] })
  early_turns mem flags same = record {
    notes = e.notes;
    accepted = e.accepted;
    st = e.st;
    good = e.good;
    gap = e.gap;
    turned = record {
      a = e.turned.a;
      x = e.turned.x;
      y = e.turned.y;
      pc = e.turned.pc;
      s = e.turned.s;
      stack = λ k. same (stack_place (k + e.gap)) (low_inside (stack_place (k + e.gap)) (omega arith)) ∙ e.turned.stack k;
      loaded = λ b high top. same b (rom_inside b high top) ∙ e.turned.loaded b high top;
      amid = e.turned.amid;
      since = e.turned.since;
    };
  }

-- such an NMI begins, with this memory
module _ (rom : ℕ → ℕ) (start : ℕ) (notes : Notes) (accepted : accepts_game rom start notes ≡ true) (back : Cpu) (own_mem : ℕ → ℕ)
    (loaded : IsLoaded rom own_mem) (s_in : back.s < 256) where
  abbrev gap : ℕ
  gap = suc back.s

  -- the ROM, and the stack with the newest byte at its top
  abbrev mem : ℕ → ℕ
  mem b = if nat_lt b 0x200 then own_mem (stack_place (b + gap)) else rom b

  mem_stack : (k : ℕ) → own_mem (stack_place (k + gap)) ≡ mem (stack_place k)
  mem_stack k = sym (ap (λ t. if t then own_mem (stack_place (stack_place k + gap)) else rom (stack_place k))
      (le-leb (suc (stack_place k)) 0x200 (omega arith))
      ∙ ap own_mem (let e : stack_place (stack_place k + gap) ≡ stack_place (k + gap) = omega arith in e))

  mem_rom : IsLoaded rom mem
  mem_rom b high top = ap (λ t. if t then own_mem (stack_place (b + gap)) else rom b) (lt-leb (suc b) 0x200 (omega (arith, high)))

  -- it comes there as if amid a call at the start
  abbrev stage : State
  stage = record {
    a = back.a;
    x = back.x;
    y = back.y;
    pc = back.pc;
    s = 255;
    mem = mem;
    since = 0;
    calls = [];
    amid = None;
    home = Some (start, 255);
    awake = false;
    blank = false;
  }

  begun : Begins rom start (record stage { pc = start; home = None })
  begun = record { loaded = mem_rom; entry = refl; stack = refl; calls = refl; amid = refl; home = refl; blank = refl }

  stands_there : Stands notes stage start 255
  stands_there = by (good_run rom start notes accepted (begins (record stage { pc = start; home = None }) begun)).stage
    where
      by : (Runs notes (record stage { pc = start; home = None }) ⊎ Handles notes (record stage { pc = start; home = None }))
          → Stands notes stage start 255
      by (inl runs) = record {
        now = runs.stands.now;
        is = runs.stands.is;
        below = runs.stands.below;
        fresh = runs.stands.fresh;
        room = runs.stands.room;
        awake = runs.stands.awake;
      }
      by (inr h) = absurd (let e = h.amid in cc)

  abbrev flags : Choice
  flags = record {
    a = 0;
    x = 0;
    y = 0;
    index = 0;
    byte = flags_byte false back;
    taken = false;
    left = mem;
    since = 0;
    place = 0;
    deep = 0;
  }

  enters : Enters notes (word_at rom nmi_vector)
  enters = entering notes (word_at rom nmi_vector) (both_true (interrupts (noted notes (word_at rom nmi_vector))) _
      (both_true (starts (noted notes start)) _ accepted).1).0

  handled : Handles notes (interrupted flags stage)
  handled = comes_so notes stage flags start 255 stands_there (inr refl) (omega arith) (omega arith)
      (λ is. absurd (cc)) enters

  abbrev p : ℕ
  p = flags_byte false back

  pushed_rom : (m : ℕ → ℕ) (s : ℕ) → IsLoaded rom m → IsLoaded rom (put (stack_place (s + 254)) p (pushed back.pc s m))
  pushed_rom m s has = put_rom rom (pushed back.pc s m) (s + 254) p
      (put_rom rom (put (stack_place s) (back.pc / 256) m) (s + 255) (back.pc % 256) (put_rom rom m s (back.pc / 256) has))

  pub early_begins :
      Early rom start back 0 (record (Processor.interrupted (record back { mem = own_mem })) { pc = word_at own_mem nmi_vector })
  early_begins = record {
    notes = notes;
    accepted = accepted;
    st = interrupted flags stage;
    good = record {
      loaded = pushed_rom mem 255 mem_rom;
      stage = inr handled;
    };
    gap = gap;
    turned = record {
      a = refl;
      x = refl;
      y = refl;
      pc = ap (λ b. b + 256 * own_mem (nmi_vector + 1)) (loaded nmi_vector (omega arith) (omega arith))
          ∙ ap (λ b. rom nmi_vector + 256 * b) (loaded (nmi_vector + 1) (omega arith) (omega arith));
      s = omega (arith, s_in);
      stack = put_turned gap (back.s + 254) (255 + 254) p p (pushed back.pc back.s own_mem) (pushed back.pc 255 mem) refl
          (omega arith) (put_turned gap (back.s + 255) (255 + 255) (back.pc % 256) (back.pc % 256)
          (put (stack_place back.s) (back.pc / 256) own_mem) (put (stack_place 255) (back.pc / 256) mem) refl (omega arith)
          (put_turned gap back.s 255 (back.pc / 256) (back.pc / 256) own_mem mem refl (omega arith) mem_stack));
      loaded = pushed_rom own_mem back.s loaded;
      amid = refl;
      since = refl;
    };
  }
