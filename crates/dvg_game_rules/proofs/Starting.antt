-- From a reset the processor comes to where a run begins.
use Rattle.std.proofs.Common.{◌≡◌, ◌⊎◌, inl, inr, ℕ, zero, suc, ◌+◌, ◌<◌, Bool, true, false, refl, sym, ap, ◌∙◌}
use Rattle.std.proofs.Common.{subst, arith, eqb-true}
use Rattle.std.specs.Prelude.{if◌then◌else◌, nat_eq, ◌&&◌, ◌||◌, not}
use Rattle.dvg_calls_6502.specs.Code.{code}
use Rattle.dvg_calls_6502.specs.Processor
use Rattle.dvg_calls_6502.specs.Processor.{Cpu, A, X, Y, decoded, opcodes}
use Rattle.dvg_game_rules.specs.Kinds.{Sets, Nothing, Only, Place, ZeroPage, ZeroPageIndexed, Absolute, AbsoluteIndexed, size}
use Rattle.dvg_game_rules.specs.Kinds.{Kind, Quiet, Reads, Transfer, Stores, Push, PushFlags, Pull, PullFlags, Branch, Jump}
use Rattle.dvg_game_rules.specs.Kinds.{Call, Return, Finish, Wild, kind_of}
use Rattle.dvg_game_rules.specs.Machine.{State, Choice, IsLoaded, Begins, does, address, is_operand, is_own}
use Rattle.dvg_game_rules.specs.Checker.{Main, accepts_game, boots, boot_most, may_boot, bytes_of, may_write, is_code}
use Rattle.dvg_game_rules.specs.Checker.{stand_at, stack_setting, of_reached, is_strobe, is_free}
use Rattle.dvg_game_rules.specs.Safe.{IsSafeBy, MayWrite}
use Rattle.dvg_game_rules.specs.Alike.{IsOwn, after, idle, Starts, StartsUp}
use Rattle.dvg_game_rules.proofs.Facts.{both_true, not_true, IsInside, inside}
use Rattle.dvg_game_rules.proofs.Memory.{IsAside, aside, may_apart, other, reaching, either}
use Rattle.dvg_game_rules.proofs.LocalKinds.{ticked}
use Rattle.dvg_game_rules.proofs.StepsByKind.{steps_alike}

-- what a step of a kind that a reset may do first leaves
record Goes (rom : ℕ → ℕ) (pc s : ℕ) (st : State) : Type 0 where
  loaded : IsLoaded rom st.mem
  at : st.pc ≡ pc
  stack : st.s ≡ s

module _ (rom : ℕ → ℕ) (cpu : Cpu) (loaded : IsLoaded rom cpu.mem) (at : IsInside cpu.pc) where
  first : cpu.mem (cpu.pc + 1) ≡ rom (cpu.pc + 1)
  first = let low = at.0 in let high = at.1 in loaded (cpu.pc + 1) (omega (arith, low)) (omega (arith, high))

  second : cpu.mem (cpu.pc + 1 + 1) ≡ rom (cpu.pc + 1 + 1)
  second = let low = at.0 in let high = at.1 in loaded (cpu.pc + 1 + 1) (omega (arith, low)) (omega (arith, high))

  may : (a : ℕ) → may_write Main a ≡ true → MayWrite (idle cpu) a
  may a is = one (either (is_free a) _ is)
    where
      two : ((is_operand a ≡ true) ⊎ (is_own a ≡ true)) → MayWrite (idle cpu) a
      two (inl operand) = inr (refl, inl operand)
      two (inr own) = inr (refl, inr (own, refl))

      one : ((is_free a ≡ true) ⊎ ((is_operand a || is_own a) ≡ true)) → MayWrite (idle cpu) a
      one (inl free) = inl free
      one (inr more) = two (either (is_operand a) _ more)

  stores_safe : (place : Place) → of_reached place rom cpu.pc (may_write Main) ≡ true
      → IsSafeBy (Stores place) (idle cpu)
  stores_safe place fine = λ index. may (address place cpu.mem cpu.pc index)
      (reaching place rom cpu.mem cpu.pc index (may_write Main) first second fine)

  pub boot_safe : (kind : Kind) → may_boot kind rom cpu.pc ≡ true → IsSafeBy kind (idle cpu)
  boot_safe (Quiet sets bytes) fine = tt
  boot_safe (Reads sets place) fine = λ index. not_true (is_strobe (address place cpu.mem cpu.pc index))
      (reaching place rom cpu.mem cpu.pc index (λ a. not (is_strobe a)) first second fine)
  boot_safe (Stores ZeroPage) fine = stores_safe ZeroPage fine
  boot_safe (Stores ZeroPageIndexed) fine = stores_safe ZeroPageIndexed fine
  boot_safe (Stores Absolute) fine = stores_safe Absolute fine
  boot_safe _ fine = absurd (cc)

  boot_own : (kind : Kind) → may_boot kind rom cpu.pc ≡ true → IsOwn kind cpu (idle cpu)
  boot_own (Stores AbsoluteIndexed) fine = absurd (cc)
  boot_own Jump fine = absurd (cc)
  boot_own Call fine = absurd (cc)
  boot_own Finish fine = absurd (cc)
  boot_own _ fine = tt

  quiet_goes : (sets : Sets) (bytes : ℕ) (choice : Choice)
      → Goes rom (cpu.pc + bytes) cpu.s (does (Quiet sets bytes) choice (ticked (idle cpu)))
  quiet_goes Nothing bytes choice = record { loaded = loaded; at = refl; stack = refl }
  quiet_goes (Only A) bytes choice = record { loaded = loaded; at = refl; stack = refl }
  quiet_goes (Only X) bytes choice = record { loaded = loaded; at = refl; stack = refl }
  quiet_goes (Only Y) bytes choice = record { loaded = loaded; at = refl; stack = refl }

  reads_goes : (sets : Sets) (place : Place) (choice : Choice)
      → Goes rom (cpu.pc + size place) cpu.s (does (Reads sets place) choice (ticked (idle cpu)))
  reads_goes Nothing place choice = record { loaded = loaded; at = refl; stack = refl }
  reads_goes (Only A) place choice = record { loaded = loaded; at = refl; stack = refl }
  reads_goes (Only X) place choice = record { loaded = loaded; at = refl; stack = refl }
  reads_goes (Only Y) place choice = record { loaded = loaded; at = refl; stack = refl }

  stores_goes : (place : Place) (choice : Choice) → of_reached place rom cpu.pc (may_write Main) ≡ true
      → Goes rom (cpu.pc + size place) cpu.s (does (Stores place) choice (ticked (idle cpu)))
  stores_goes place choice fine = record {
    loaded = λ b high top. other a choice.byte cpu.mem b (λ same. apart.rom b high same) ∙ loaded b high top;
    at = refl;
    stack = refl;
  }
    where
      a : ℕ
      a = address place cpu.mem cpu.pc choice.index

      apart : IsAside a
      apart = aside a (may_apart Main a
          (reaching place rom cpu.mem cpu.pc choice.index (may_write Main) first second fine))

  boot_goes : (kind : Kind) (choice : Choice) → may_boot kind rom cpu.pc ≡ true
      → Goes rom (cpu.pc + bytes_of kind) cpu.s (does kind choice (ticked (idle cpu)))
  boot_goes (Quiet sets bytes) choice fine = quiet_goes sets bytes choice
  boot_goes (Reads sets place) choice fine = reads_goes sets place choice
  boot_goes (Stores ZeroPage) choice fine = stores_goes ZeroPage choice fine
  boot_goes (Stores ZeroPageIndexed) choice fine = stores_goes ZeroPageIndexed choice fine
  boot_goes (Stores Absolute) choice fine = stores_goes Absolute choice fine
  boot_goes _ choice fine = absurd (cc)

  -- where the processor is after that step
  pub steps_on : may_boot (kind_of (cpu.mem cpu.pc)) rom cpu.pc ≡ true
      → IsLoaded rom (Processor.step cpu).mem
      × ((Processor.step cpu).pc ≡ cpu.pc + bytes_of (kind_of (cpu.mem cpu.pc)))
  steps_on fine =
      let kind = kind_of (cpu.mem cpu.pc) in
      let like = steps_alike cpu (idle cpu) (boot_own kind fine) in
      let goes = boot_goes kind like.0 fine in (
        (λ b high top. sym (like.1.mem b) ∙ goes.loaded b high top),
        sym like.1.pc ∙ goes.at,
      )

-- a step, by its opcode
step_by : (cpu : Cpu) (opcode : ℕ) → cpu.mem cpu.pc ≡ opcode
    → Processor.step cpu ≡ Processor.does (decoded opcodes opcode) cpu
step_by cpu opcode is = ap (λ o. Processor.does (decoded opcodes o) cpu) is

-- LDX #, TXS
abbrev loaded_x : Cpu → Cpu
loaded_x cpu = Processor.does (Processor.Load X Processor.Immediate) cpu

abbrev set_stack : Cpu → Cpu
set_stack cpu = Processor.does Processor.ToStack (loaded_x cpu)

two_steps : (cpu : Cpu) → cpu.mem cpu.pc ≡ 0xA2 → cpu.mem (cpu.pc + 2) ≡ 0x9A → after 2 cpu ≡ set_stack cpu
two_steps cpu one two = ap (after 1) (step_by cpu 0xA2 one) ∙ step_by (loaded_x cpu) 0x9A two

sets_up : (rom : ℕ → ℕ) (start : ℕ) (cpu : Cpu) → IsLoaded rom cpu.mem → cpu.mem cpu.pc ≡ 0xA2
    → cpu.mem (cpu.pc + 1) ≡ 0xFF → cpu.mem (cpu.pc + 2) ≡ 0x9A → start ≡ cpu.pc + 3 → Starts rom start cpu
sets_up rom start cpu loaded one x two there = record {
  steps = 2;
  ready = subst (λ c. Begins rom start (idle c)) (sym (two_steps cpu one two)) (record {
    loaded = loaded;
    entry = let e : cpu.pc + 2 + 1 ≡ start = omega (arith, there) in e;
    stack = x;
    calls = refl;
    amid = refl;
    home = refl;
    blank = refl;
  });
  safe = safe;
}
  where
    safe : (n : ℕ) → suc n < 2 → IsSafeBy (kind_of ((after n cpu).mem (after n cpu).pc)) (idle (after n cpu))
    safe zero less = subst (λ o. IsSafeBy (kind_of o) (idle cpu)) (sym one) tt
    safe (suc n) less = absurd (omega (arith, less))

-- what is left to check, from a place that isn't LDX #$FF, TXS
abbrev left_at : (rom : ℕ → ℕ) → (n pc start : ℕ) → Bool
left_at rom n pc start =
    may_boot (kind_of (rom pc)) rom pc && boots n rom (pc + bytes_of (kind_of (rom pc))) start

-- a step that may come first, and what comes then
goes_on : (rom : ℕ → ℕ) (start n : ℕ) (cpu : Cpu) → IsLoaded rom cpu.mem → IsInside cpu.pc
    → cpu.mem cpu.pc ≡ rom cpu.pc → left_at rom n cpu.pc start ≡ true
    → ((next : Cpu) → IsLoaded rom next.mem → boots n rom next.pc start ≡ true → Starts rom start next)
    → Starts rom start cpu
goes_on rom start n cpu loaded at opcode fine again =
    let may = both_true (may_boot (kind_of (rom cpu.pc)) rom cpu.pc) _ fine in
    let mine : may_boot (kind_of (cpu.mem cpu.pc)) rom cpu.pc ≡ true =
    subst (λ o. may_boot (kind_of o) rom cpu.pc ≡ true) (sym opcode) may.0 in
    let on = steps_on rom cpu loaded at mine in
    let next : (Processor.step cpu).pc ≡ cpu.pc + bytes_of (kind_of (rom cpu.pc)) =
    on.1 ∙ ap (λ o. cpu.pc + bytes_of (kind_of o)) opcode in
    let rest = again (Processor.step cpu) on.0 (subst (λ p. boots n rom p start ≡ true) (sym next) may.1) in
    record { steps = suc rest.steps; ready = rest.ready; safe = safe mine rest }
  where
    safe : may_boot (kind_of (cpu.mem cpu.pc)) rom cpu.pc ≡ true → (rest : Starts rom start (Processor.step cpu))
        → (m : ℕ) → suc m < suc rest.steps → IsSafeBy (kind_of ((after m cpu).mem (after m cpu).pc)) (idle
        (after m cpu))
    safe mine rest zero less = boot_safe rom cpu loaded at (kind_of (cpu.mem cpu.pc)) mine
    safe mine rest (suc m) less = rest.safe m (omega (arith, less))

goes_up : (rom : ℕ → ℕ) (start n : ℕ) (cpu : Cpu) → IsLoaded rom cpu.mem → boots n rom cpu.pc start ≡ true
    → Starts rom start cpu
goes_up rom start zero cpu loaded fine = absurd (cc)
goes_up rom start (suc n) cpu loaded fine = by (stand_at stack_setting rom cpu.pc) refl two.1
    (λ next loaded fine. goes_up rom start n next loaded fine)
  where
    two : (is_code cpu.pc ≡ true) × ((if stand_at stack_setting rom cpu.pc then nat_eq start (cpu.pc + 3)
        else left_at rom n cpu.pc start) ≡ true)
    two = both_true (is_code cpu.pc) _ fine

    at : IsInside cpu.pc
    at = inside cpu.pc two.0

    opcode : cpu.mem cpu.pc ≡ rom cpu.pc
    opcode = let low = at.0 in let high = at.1 in loaded cpu.pc low (omega (arith, high))

    by : (t : Bool) → stand_at stack_setting rom cpu.pc ≡ t
        → (if t then nat_eq start (cpu.pc + 3) else left_at rom n cpu.pc start) ≡ true
        → ((next : Cpu) → IsLoaded rom next.mem → boots n rom next.pc start ≡ true → Starts rom start next)
        → Starts rom start cpu
    by true is fine again =
        let a = both_true (nat_eq (rom cpu.pc) 0xA2) _ is in
        let b = both_true (nat_eq (rom (suc cpu.pc)) 0xFF) _ a.1 in
        let c = both_true (nat_eq (rom (suc (suc cpu.pc))) 0x9A) _ b.1 in
        let low = at.0 in
        let high = at.1 in
        sets_up rom start cpu loaded (opcode ∙ eqb-true (rom cpu.pc) 0xA2 a.0)
        (loaded (cpu.pc + 1) (omega (arith, low)) (omega (arith, high))
        ∙ ap rom (let e : cpu.pc + 1 ≡ suc cpu.pc = omega arith in e) ∙ eqb-true (rom (suc cpu.pc)) 0xFF b.0)
        (loaded (cpu.pc + 2) (omega (arith, low)) high
        ∙ ap rom (let e : cpu.pc + 2 ≡ suc (suc cpu.pc) = omega arith in e)
        ∙ eqb-true (rom (suc (suc cpu.pc))) 0x9A c.0)
        (eqb-true start (cpu.pc + 3) fine)
    by false is fine again = goes_on rom start n cpu loaded at opcode fine again

pub starts_up : StartsUp
starts_up rom start notes accepted cpu loaded there = goes_up rom start boot_most cpu loaded
    (subst (λ p. boots boot_most rom p start ≡ true) (sym there) (both_true (stand_at code rom 0x6800) _
    (both_true (accepts_game rom start notes) _ accepted).1).1)
