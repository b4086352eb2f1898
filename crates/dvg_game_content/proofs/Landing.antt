-- Where an instruction leads, what is known there holds.
use Rattle.std.proofs.Common.{◌≡◌, ◌⊎◌, inl, inr, ℕ, zero, suc, ◌+◌, ◌-◌, ◌*◌, ◌%◌, ◌<◌, Bool, true, false, refl, sym, ap}
use Rattle.std.proofs.Common.{◌∙◌, subst, arith, eqb-true, List, [], ◌∷◌}
use Rattle.std.specs.Prelude.{◌&&◌, ◌||◌, not, nat_eq, if◌then◌else◌, Option, None, Some}
use Rattle.dvg_frame.specs.declared.op.OpKind.{OpKind}
use Rattle.dvg_calls_6502.specs.Processor.{Cpu, A, X, Y, stack_place}
use Rattle.dvg_game_rules.specs.Kinds.{Nothing, Only, Kind, Quiet, Reads, Transfer, Stores, Push, PushFlags, Pull, PullFlags}
use Rattle.dvg_game_rules.specs.Kinds.{Branch, Jump, Call, Return, Finish, Wild, kind_of}
use Rattle.dvg_game_rules.specs.Machine.{State, Choice, IsLoaded, IsRun, begins, steps, anew, nmi, nmi_within, turns, Begins, word_at, does}
use Rattle.dvg_game_rules.specs.Machine.{back_of, called, calling, driven, goes_home, is_driver, left_by, rest_of}
use Rattle.dvg_game_rules.specs.Machine.{reset_vector, restarting, restarts, returned, step, blank_after}
use Rattle.dvg_game_rules.specs.Checker.{Note, Notes, Sub, Nmi, accepts, accepts_game, enters, fine_by, first, implies, leads, noted, places, same_level}
use Rattle.dvg_game_rules.specs.Safe.{IsSafeBy}
use Rattle.dvg_game_rules.proofs.CallsAndReturns.{leads_back, open_call}
use Rattle.dvg_game_rules.proofs.Facts.{IsInside, both_true, placed, same, under, within}
use Rattle.dvg_game_rules.proofs.NmiStepsHold.{opcode_there, first_there, second_there}
use Rattle.dvg_game_rules.proofs.LocalKinds.{ticked}
use Rattle.dvg_game_rules.proofs.Memory.{either, left_stack}
use Rattle.dvg_game_rules.proofs.RunInvariant.{Good, Handles, Runs, low}
use Rattle.dvg_game_rules.proofs.SafeSteps.{checked, vector}
use Rattle.dvg_game_rules.proofs.RunsAreSafe.{checked_is_safe, good_run}
use Rattle.dvg_game_content.specs.Brings.{Ways, brings_by, brings_at, brought_by, fact, fact_by, flows, is_free, is_leap}
use Rattle.dvg_game_content.specs.Brings.{next, passes_on, far}
use Rattle.dvg_game_content.proofs.InstructionLearns.{HoldsAt, holds_nothing}

-- a note is right where no instruction is come to from elsewhere
module _ (ways : Ways) (rom : ℕ → ℕ) where
  -- all that is known at a place holds
  abbrev pub Lands : Cpu → Type 0
  Lands cpu = (k : ℕ) → HoldsAt (fact ways rom k cpu.pc) cpu

  pub free_lands : (cpu : Cpu) → is_free ways cpu.pc ≡ true → cpu.y < 256 → Lands cpu
  free_lands cpu free small zero = holds_nothing cpu.a cpu.x cpu.y cpu.c small
  free_lands cpu free small (suc k) =
      subst (λ n. HoldsAt (fact_by rom (fact ways rom k) cpu.pc n) cpu) (sym (eqb-true (ways cpu.pc) 0 free))
      (holds_nothing cpu.a cpu.x cpu.y cpu.c small)

  behind : (cpu : Cpu) (at n : ℕ) → cpu.pc ≡ at + n → not (nat_eq n 0) ≡ true → (k : ℕ)
      → HoldsAt (next rom at (fact ways rom k at)) cpu → HoldsAt (fact_by rom (fact ways rom k) cpu.pc n) cpu
  behind cpu at zero place some k holds = absurd (cc)
  behind cpu at (suc n) place some k holds = subst (λ q. HoldsAt (next rom q (fact ways rom k q)) cpu)
      (let e : at ≡ cpu.pc - suc n = omega (arith, place) in e) holds

  pub goes_on : (cpu : Cpu) (at n : ℕ) → cpu.pc ≡ at + n → passes_on ways at n ≡ true → cpu.y < 256
      → ((k : ℕ) → HoldsAt (next rom at (fact ways rom k at)) cpu) → Lands cpu
  goes_on cpu at n place fine small holds = by (either (is_free ways (at + n)) _ fine)
    where
      by : (is_free ways (at + n) ≡ true) ⊎ ((nat_eq (ways (at + n)) n && not (nat_eq n 0)) ≡ true) → Lands cpu
      by (inl free) = free_lands cpu (ap (is_free ways) place ∙ free) small
      by (inr noted) = on
        where
          two : (nat_eq (ways (at + n)) n ≡ true) × (not (nat_eq n 0) ≡ true)
          two = both_true (nat_eq (ways (at + n)) n) _ noted

          same_way : ways cpu.pc ≡ n
          same_way = ap ways place ∙ eqb-true (ways (at + n)) n two.0

          on : Lands cpu
          on zero = holds_nothing cpu.a cpu.x cpu.y cpu.c small
          on (suc k) = subst (λ m. HoldsAt (fact_by rom (fact ways rom k) cpu.pc m) cpu) (sym same_way)
              (behind cpu at n place two.1 k (holds k))

  -- each open call returns to such a place
  abbrev pub Plain : List ℕ → Type 0
  Plain [] = Unit {0}
  Plain (back ∷ backs) = (is_free ways back ≡ true) × Plain backs

  rest_plain : (backs : List ℕ) → Plain backs → Plain (rest_of backs)
  rest_plain [] is = tt
  rest_plain (back ∷ backs) is = is.1

  plain_first : (backs : List ℕ) (back : ℕ) (rest : List ℕ) → backs ≡ back ∷ rest → Plain backs → is_free ways back ≡ true
  plain_first backs back rest same is = (subst Plain same is).0

  home_plain : (home : Option (ℕ × ℕ)) (st : State) → Plain st.calls → Plain (goes_home home st).calls
  home_plain None st is = is
  home_plain (Some place) st is = is

  -- an instruction of these bytes leaves that
  plain_does : (kind : Kind) (choice : Choice) (st : State) → word_at rom (st.pc + 1) ≡ word_at st.mem (st.pc + 1)
      → flows ways rom st.pc kind ≡ true → Plain st.calls → Plain (does kind choice (ticked st)).calls
  plain_does (Quiet Nothing bytes) choice st word fine is = is
  plain_does (Quiet (Only A) bytes) choice st word fine is = is
  plain_does (Quiet (Only X) bytes) choice st word fine is = is
  plain_does (Quiet (Only Y) bytes) choice st word fine is = is
  plain_does (Reads Nothing place) choice st word fine is = is
  plain_does (Reads (Only A) place) choice st word fine is = is
  plain_does (Reads (Only X) place) choice st word fine is = is
  plain_does (Reads (Only Y) place) choice st word fine is = is
  plain_does (Transfer r A) choice st word fine is = is
  plain_does (Transfer r X) choice st word fine is = is
  plain_does (Transfer r Y) choice st word fine is = is
  plain_does (Stores place) choice st word fine is = is
  plain_does Push choice st word fine is = is
  plain_does PushFlags choice st word fine is = is
  plain_does Pull choice st word fine is = is
  plain_does PullFlags choice st word fine is = is
  plain_does Branch choice st word fine is = is
  plain_does Jump choice st word fine is = by (is_driver (word_at st.mem (st.pc + 1)))
    where
      by : (t : Bool) → Plain (if t then returned (driven (word_at st.mem (st.pc + 1)) choice (ticked st))
          else record (ticked st) { pc = word_at st.mem (st.pc + 1) }).calls
      by true = rest_plain st.calls is
      by false = is
  plain_does Call choice st word fine is = by (is_driver (word_at st.mem (st.pc + 1)))
    where
      by : (t : Bool) → Plain (if t then record (driven (word_at st.mem (st.pc + 1)) choice (ticked st)) { pc = st.pc + 3 }
          else called (word_at st.mem (st.pc + 1)) (ticked st)).calls
      by true = is
      by false = ((both_true (is_free ways (st.pc + 3)) _ fine).0, is)
  plain_does Return choice st word fine is = rest_plain st.calls is
  plain_does Finish choice st word fine is = home_plain st.home _ is
  plain_does Wild choice st word fine is = is

module _ (R : List ℕ) (rom : ℕ → ℕ) (start : ℕ) (notes : Notes) (ways : Ways) (offers : ℕ → Bool) (puts : ℕ → ℕ → Bool)
    (accepted : accepts rom start notes ≡ true) (brought : brings_by offers puts rom start notes ways ≡ true) where
  pub accepted_game : accepts_game rom start notes ≡ true
  accepted_game = (both_true (accepts_game rom start notes) _ accepted).0

  pub good : {st : State} → IsRun rom start st → Good rom notes st
  good run = good_run rom start notes accepted_game run

  -- what was looked at
  pub looked : (at : ℕ) (now : Note) → noted notes at ≡ Some now → brings_at offers puts rom ways at (Some now) ≡ true
  looked at now is =
      let here = within notes at now is in
      let low = here.0 in
      let high = here.1 in
      let back : first + (at - first) ≡ at = omega (arith, low) in
      subst (λ n. brings_at offers puts rom ways at n ≡ true) is
      (subst (λ at. brings_at offers puts rom ways at (noted notes at) ≡ true) back
      (under places (λ i. brings_at offers puts rom ways (first + i) (noted notes (first + i)))
      (both_true (is_free ways start) _ brought).1 (at - first) (omega (arith, low, high))))

  pub start_free : is_free ways start ≡ true
  start_free = (both_true (is_free ways start) _ brought).0

  -- an instruction of a run stands at a place that is noted
  pub record Noted (st : State) : Type 0 where
    pub now : Note
    pub is : noted notes st.pc ≡ Some now
    pub at : IsInside st.pc
    pub loaded : IsLoaded rom st.mem
    pub flow : flows ways rom st.pc (kind_of (rom st.pc)) ≡ true
    pub brings : (not (is_leap (kind_of (rom st.pc)))
        || brought_by offers puts (fact ways rom far st.pc) (word_at rom (st.pc + 1))) ≡ true

  pub noted_run : {st : State} → IsRun rom start st → Noted st
  noted_run {st} run = by (good run).stage
    where
      made : (now : Note) → noted notes st.pc ≡ Some now → Noted st
      made now is = let two = both_true (flows ways rom st.pc (kind_of (rom st.pc))) _ (looked st.pc now is) in record {
        now = now;
        is = is;
        at = placed notes st.pc now is;
        loaded = (good run).loaded;
        flow = two.0;
        brings = two.1;
      }

      by : Runs notes st ⊎ Handles notes st → Noted st
      by (inl runs) = made runs.stands.now runs.stands.is
      by (inr h) = made h.now h.is

  pub word_there : (st : State) → Noted st → word_at rom (st.pc + 1) ≡ word_at st.mem (st.pc + 1)
  word_there st n = sym (ap (λ b. b + 256 * st.mem (st.pc + 1 + 1)) (first_there rom st.mem st.pc n.loaded n.at)
      ∙ ap (λ b. rom (st.pc + 1) + 256 * b) (second_there rom st.mem st.pc n.loaded n.at))

  pub kind_there : (st : State) → Noted st → kind_of (rom st.pc) ≡ kind_of (st.mem st.pc)
  kind_there st n = ap kind_of (sym (opcode_there rom st.mem st.pc n.loaded n.at))

  pub flow_there : (st : State) → Noted st → flows ways rom st.pc (kind_of (st.mem st.pc)) ≡ true
  flow_there st n = subst (λ k. flows ways rom st.pc k ≡ true) (kind_there st n) n.flow

  begun_plain : (st : State) → Begins rom start st → Plain ways rom st.calls
  begun_plain st is = subst (Plain ways rom) (sym is.calls) tt

  pub plain : {st : State} → IsRun rom start st → Plain ways rom st.calls
  plain (begins st is) = begun_plain st is
  plain (steps {st} choice run go) = let n = noted_run run in
      plain_does ways rom (kind_of (st.mem st.pc)) choice st (word_there st n) (flow_there st n) (plain run)
  plain (anew new run again is) = begun_plain new is
  plain (nmi choice run late) = plain run
  plain (nmi_within choice run outside is few) = plain run
  plain (turns mem run same) = plain run

  -- a call of the driver comes back to a place that is free
  pub record Returned (st new : State) : Type 0 where
    pub free : is_free ways new.pc ≡ true
    pub amid : new.amid ≡ st.amid

  pub driver_back : (st : State) → IsRun rom start st → st.amid ≡ None → restarts st ≡ false
      → calling (kind_of (st.mem st.pc)) st ≡ true → (choice : Choice) → Returned st (step choice st)
  driver_back st run outside go is choice =
      by (kind_of (st.mem st.pc)) refl go is (flow_there st n) safe
    where
      n : Noted st
      n = noted_run run

      to : ℕ
      to = word_at st.mem (st.pc + 1)

      safe : IsSafeBy (kind_of (st.mem st.pc)) st
      safe = (checked_is_safe rom start notes accepted st run).next

      jsr : (t : Bool) → t ≡ true → is_free ways (st.pc + 3) ≡ true
          → Returned st (if t then record (driven (word_at st.mem (st.pc + 1)) choice (ticked st)) { pc = st.pc + 3 }
          else called (word_at st.mem (st.pc + 1)) (ticked st))
      jsr true on free = record { free = free; amid = refl }
      jsr false on free = absurd (cc)

      runs : Runs notes st
      runs = of_stage (good run).stage
        where
          of_stage : Runs notes st ⊎ Handles notes st → Runs notes st
          of_stage (inl runs) = runs
          of_stage (inr h) = absurd (let e = sym outside ∙ h.amid in cc)

      -- a JMP to the driver stands where a subroutine may return
      at_end : (r d : Bool) → r ≡ false → d ≡ true → (if r then not (same_level runs.stands.now.level Nmi)
          else if d then enters (word_at rom (st.pc + 1)) runs.stands.now && (same_level runs.stands.now.level Sub
          && (nat_eq runs.stands.now.depth 0 && implies (blank_after (word_at rom (st.pc + 1)) runs.stands.now.blank) runs.stands.now.ends))
          else leads notes (word_at rom (st.pc + 1)) runs.stands.now) ≡ true
          → (runs.stands.now.level ≡ Sub) × (runs.stands.now.depth ≡ 0)
      at_end true d one two fine = absurd (cc)
      at_end false false one two fine = absurd (cc)
      at_end false true one two fine =
          let a = both_true (enters (word_at rom (st.pc + 1)) runs.stands.now) _ fine in
          let b = both_true (same_level runs.stands.now.level Sub) _ a.1 in
          let c = both_true (nat_eq runs.stands.now.depth 0) _ b.1 in
          (same runs.stands.now.level Sub b.0, eqb-true runs.stands.now.depth 0 c.0)

      jumps : kind_of (st.mem st.pc) ≡ Jump → restarting Jump st ≡ false → calling Jump st ≡ true
          → (runs.stands.now.level ≡ Sub) × (runs.stands.now.depth ≡ 0)
      jumps e go is = at_end (nat_eq (word_at rom (st.pc + 1)) (word_at rom reset_vector)) (is_driver (word_at rom (st.pc + 1)))
          (ap (λ w. nat_eq w (word_at rom reset_vector)) (word_there st n)
          ∙ ap (λ v. nat_eq (word_at st.mem (st.pc + 1)) v) (sym (vector rom notes st n.loaded)) ∙ go)
          (ap is_driver (word_there st n) ∙ is)
          (subst (λ k. fine_by k notes rom st.pc runs.stands.now ≡ true) (kind_there st n ∙ e)
          (checked rom start notes st.pc runs.stands.now accepted_game runs.stands.is))

      back_there : (runs.stands.now.level ≡ Sub) × (runs.stands.now.depth ≡ 0)
          → is_free ways (back_of (driven (word_at st.mem (st.pc + 1)) choice (ticked st))) ≡ true
      back_there two =
          let call = open_call notes st runs.stands two.0 two.1 in
          let high = low notes st.awake st.mem call.new.level (st.s + 2 + call.new.depth) call.rest call.below in
          ap (is_free ways) (ap (λ b. (b + 256 * left_by st.s choice.left st.mem (stack_place (st.s + 2)) + 1) % 65536)
          (left_stack st.s choice.left st.mem (st.s + 1) (omega arith) (omega (arith, high)))
          ∙ ap (λ b. (st.mem (stack_place (st.s + 1)) + 256 * b + 1) % 65536)
          (left_stack st.s choice.left st.mem (st.s + 2) (omega arith) (omega (arith, high)))
          ∙ leads_back notes st runs.stands two.0 two.1)
          ∙ plain_first ways rom st.calls call.back call.rest call.is (plain run)

      jmp : (t : Bool) → t ≡ true
          → is_free ways (back_of (driven (word_at st.mem (st.pc + 1)) choice (ticked st))) ≡ true
          → Returned st (if t then returned (driven (word_at st.mem (st.pc + 1)) choice (ticked st))
          else record (ticked st) { pc = word_at st.mem (st.pc + 1) })
      jmp true on free = record { free = free; amid = refl }
      jmp false on free = absurd (cc)

      by : (kind : Kind) → kind_of (st.mem st.pc) ≡ kind → restarting kind st ≡ false → calling kind st ≡ true
          → flows ways rom st.pc kind ≡ true → IsSafeBy kind st → Returned st (does kind choice (ticked st))
      by Call e go is flow safe = jsr (is_driver (word_at st.mem (st.pc + 1))) is (both_true (is_free ways (st.pc + 3)) _ flow).0
      by Jump e go is flow safe = jmp (is_driver (word_at st.mem (st.pc + 1))) is (back_there (jumps e go is))
      by (Quiet sets bytes) e go is flow safe = absurd (cc)
      by (Reads sets place) e go is flow safe = absurd (cc)
      by (Transfer r q) e go is flow safe = absurd (cc)
      by (Stores place) e go is flow safe = absurd (cc)
      by Push e go is flow safe = absurd (cc)
      by PushFlags e go is flow safe = absurd (cc)
      by Pull e go is flow safe = absurd (cc)
      by PullFlags e go is flow safe = absurd (cc)
      by Branch e go is flow safe = absurd (cc)
      by Return e go is flow safe = absurd (cc)
      by Finish e go is flow safe = absurd (cc)
      by Wild e go is flow safe = absurd (cc)
