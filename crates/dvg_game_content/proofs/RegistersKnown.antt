-- Along a play of the processor what is known of A, X and Y holds, also where an NMI comes between.
use Rattle.std.proofs.Common.{◌≡◌, ℕ, suc, ◌+◌, ◌≤◌, Bool, true, false, refl, sym, ap}
use Rattle.std.proofs.Common.{◌∙◌, subst, eqb-true, List, eq-eqb}
use Rattle.std.specs.Prelude.{◌||◌, nat_eq, if◌then◌else◌, Option, None, Some}
use Rattle.dvg_frame.specs.declared.op.OpKind.{OpKind}
use Rattle.dvg_calls_6502.specs.Amid.{changed}
use Rattle.dvg_calls_6502.specs.Processor
use Rattle.dvg_calls_6502.specs.Processor.{Access, Cpu, at_return, decoded, flags_byte, has_bit, opcodes, target}
use Rattle.dvg_game_rules.specs.Kinds.{Kind, Quiet, Reads, Transfer, Stores, Push, PushFlags, Pull, PullFlags}
use Rattle.dvg_game_rules.specs.Kinds.{Branch, Jump, Call, Return, Finish, Wild, kind_of, size}
use Rattle.dvg_game_rules.specs.Machine.{Came, State, Choice, IsRun, IsTurned, nmi, turns, word_at, does, goes_home}
use Rattle.dvg_game_rules.specs.Machine.{called, calling, is_driver, restarting, restarts, step}
use Rattle.dvg_game_rules.specs.Machine as machine
use Rattle.dvg_game_rules.specs.Checker.{Notes, accepts}
use Rattle.dvg_game_rules.specs.Safe.{IsSafe, IsSafeBy}
use Rattle.dvg_game_rules.specs.Alike.{MatchesCpu, idle, of_cpu}
use Rattle.dvg_game_rules.proofs.Facts.{both_true}
use Rattle.dvg_game_rules.proofs.NmiStepsHold.{first_there}
use Rattle.dvg_game_rules.proofs.LocalKinds.{ticked}
use Rattle.dvg_game_rules.proofs.RunsAreSafe.{checked_is_safe}
use Rattle.dvg_game_6502.specs.Play
use Rattle.dvg_game_6502.specs.Play.{Begins, IsByteWide, done, fresh, interrupted}
use Rattle.dvg_game_6502.proofs.CheckerFollows.{Followed, along, amid_stays, follow, homeless, is_finish, restarts_same}
use Rattle.dvg_game_6502.proofs.GameSteps.{pushing, run_begins}
use Rattle.dvg_game_6502.proofs.Leaps.{finishing, resume_is}
use Rattle.dvg_game_6502.proofs.NmiSteps.{flags_back}
use Rattle.dvg_game_6502.proofs.OnLog.{on_log}
use Rattle.dvg_game_6502.proofs.Returns as returning
use Rattle.dvg_game_6502.proofs.Stages.{InDriver, IsAccepted}
use Rattle.dvg_game_content.specs.Brings.{Ways, brings_by, fact, flows, is_free, next, passes_on}
use Rattle.dvg_game_content.proofs.InstructionLearns.{Holds, HoldsAt, advances, by_opcode}
use Rattle.dvg_game_content.proofs.Landing.{Lands, Noted, Plain, Returned, driver_back, flow_there, free_lands, goes_on, kind_there}
use Rattle.dvg_game_content.proofs.Landing.{noted_run, plain, start_free, word_there}

abbrev is_branch : Kind → Bool
is_branch Branch = true
is_branch kind = false

home_out : (home : Option (ℕ × ℕ)) (st : State) → home ≡ None → st.amid ≡ None → (goes_home home st).amid ≡ None
home_out None st is out = out
home_out (Some place) st is out = absurd (cc)

module _ (R : List ℕ) (rom : ℕ → ℕ) (start : ℕ) (notes : Notes) (ways : Ways) (offers : ℕ → Bool) (puts : ℕ → ℕ → Bool)
    (accepted : accepts rom start notes ≡ true) (brought : brings_by offers puts rom start notes ways ≡ true) where
  -- all that is known where the game stands, or where the NMI came that it is in
  abbrev pub Told : Option Came → Cpu → Type 0
  Told None cpu = Lands ways rom cpu
  Told (Some came) cpu = (k : ℕ) → Holds (fact ways rom k came.pc) came.a came.x came.y (has_bit 1 came.p)

  -- in the game, or in an NMI that came amid it: the checker's machine, and what is known
  pub record Mine (cpu : Cpu) (since : ℕ) : Type 0 where
    pub st : State
    pub run : IsRun rom start (of_cpu cpu st)
    pub homeless : st.home ≡ None
    pub time : st.since ≡ since
    pub told : Told st.amid cpu

  pub mine_begins : (cpu : Cpu) (since : ℕ) → Begins rom start cpu → Mine cpu since
  mine_begins cpu since is = record {
    st = record (idle cpu) { since = since };
    run = run_begins rom start cpu since is;
    homeless = refl;
    time = refl;
    told = free_lands ways rom cpu
        (ap (is_free ways) is.entry ∙ start_free R rom start notes ways offers puts accepted brought) is.bytes.y;
  }

  module _ (cpu : Cpu) (since : ℕ) (m : Mine cpu since) (bytes : IsByteWide cpu) where
    abbrev pub here : State
    here = of_cpu cpu m.st

    pub at : Noted R rom start notes ways offers puts accepted brought here
    at = noted_run R rom start notes ways offers puts accepted brought m.run

    pub safe : IsSafe rom here
    safe = checked_is_safe rom start notes accepted here m.run

    word : word_at rom (cpu.pc + 1) ≡ word_at cpu.mem (cpu.pc + 1)
    word = word_there R rom start notes ways offers puts accepted brought here at

    operand : cpu.mem (cpu.pc + 1) ≡ rom (cpu.pc + 1)
    operand = first_there rom cpu.mem cpu.pc at.loaded at.at

    module _ (flags : ℕ → ℕ) (after : IsByteWide (done flags cpu)) (told : Lands ways rom cpu) where
      abbrev new : Cpu
      new = done flags cpu

      -- what it makes of what is known
      makes : (kind : Kind) → kind_of (rom cpu.pc) ≡ kind → (choice : Choice)
          → MatchesCpu (does kind choice (ticked here)) new → (rom cpu.pc ≡ 0xB0 → cpu.c ≡ false)
          → (k : ℕ) → HoldsAt (next rom cpu.pc (fact ways rom k cpu.pc)) new
      makes kind is choice alike clear k = advances rom cpu flags at.loaded at.at bytes m.st choice
          (subst (λ k. MatchesCpu (does k choice (ticked here)) new) (sym is) alike) after clear (fact ways rom k cpu.pc)
          (told k)

      no_branch : (kind : Kind) → kind_of (rom cpu.pc) ≡ kind → is_branch kind ≡ false → rom cpu.pc ≡ 0xB0
          → cpu.c ≡ false
      no_branch kind is none e = let one : true ≡ is_branch kind = ap (λ b. is_branch (kind_of b)) (sym e)
          ∙ ap is_branch is in absurd (let f = one ∙ none in cc)

      on : (kind : Kind) → kind_of (rom cpu.pc) ≡ kind → (choice : Choice)
          → MatchesCpu (does kind choice (ticked here)) new → is_branch kind ≡ false → (n : ℕ) → new.pc ≡ cpu.pc + n
          → passes_on ways cpu.pc n ≡ true → Lands ways rom new
      on kind is choice alike none n place fine = goes_on ways rom new cpu.pc n place fine after.y
          (makes kind is choice alike (no_branch kind is none))

      -- a branch
      branches : kind_of (rom cpu.pc) ≡ Branch → (choice : Choice) → MatchesCpu (does Branch choice (ticked here)) new
          → flows ways rom cpu.pc Branch ≡ true → Lands ways rom new
      branches is choice alike flow = by (nat_eq (rom cpu.pc) 0xB0) refl
        where
          two : (is_free ways (target cpu.pc (rom (cpu.pc + 1))) ≡ true) × (passes_on ways cpu.pc 2 ≡ true)
          two = both_true (is_free ways (target cpu.pc (rom (cpu.pc + 1)))) _ flow

          away : new.pc ≡ target cpu.pc (cpu.mem (cpu.pc + 1)) → Lands ways rom new
          away place = free_lands ways rom new
              (ap (is_free ways) (place ∙ ap (target cpu.pc) operand) ∙ two.0) after.y

          behind : new.pc ≡ cpu.pc + 2 → (rom cpu.pc ≡ 0xB0 → cpu.c ≡ false) → Lands ways rom new
          behind place clear = goes_on ways rom new cpu.pc 2 place two.1 after.y (makes Branch is choice alike clear)

          carry : rom cpu.pc ≡ 0xB0 → (c : Bool) → cpu.c ≡ c → Lands ways rom new
          carry e true set = away (ap (λ (k : Cpu). k.pc) (by_opcode rom cpu flags at.loaded at.at bytes 0xB0 e)
              ∙ ap (λ (t : Bool). if t then target cpu.pc (cpu.mem (cpu.pc + 1)) else cpu.pc + 2) set)
          carry e false clear = behind (ap (λ (k : Cpu). k.pc) (by_opcode rom cpu flags at.loaded at.at bytes 0xB0 e)
              ∙ ap (λ (t : Bool). if t then target cpu.pc (cpu.mem (cpu.pc + 1)) else cpu.pc + 2) clear) (λ e. clear)

          other : nat_eq (rom cpu.pc) 0xB0 ≡ false → (t : Bool) → choice.taken ≡ t → Lands ways rom new
          other apart true taken = away (sym alike.pc
              ∙ ap (λ (t : Bool). if t then target cpu.pc (cpu.mem (cpu.pc + 1)) else cpu.pc + 2) taken)
          other apart false taken = behind (sym alike.pc
              ∙ ap (λ (t : Bool). if t then target cpu.pc (cpu.mem (cpu.pc + 1)) else cpu.pc + 2) taken)
              (λ e. absurd (let f = sym (eq-eqb (rom cpu.pc) 0xB0 e) ∙ apart in cc))

          by : (t : Bool) → nat_eq (rom cpu.pc) 0xB0 ≡ t → Lands ways rom new
          by true e = carry (eqb-true (rom cpu.pc) 0xB0 e) cpu.c refl
          by false apart = other apart choice.taken refl

      free_or : (t : Bool) → t ≡ false → (t || is_free ways (word_at rom (cpu.pc + 1))) ≡ true
          → is_free ways (word_at rom (cpu.pc + 1)) ≡ true
      free_or true out fine = absurd (cc)
      free_or false out fine = fine

      -- each instruction that calls no driver leads to where what is known holds
      lands_by : (kind : Kind) → kind_of (rom cpu.pc) ≡ kind → (choice : Choice)
          → MatchesCpu (does kind choice (ticked here)) new → flows ways rom cpu.pc kind ≡ true
          → restarting kind here ≡ false → calling kind here ≡ false → is_finish kind ≡ false → IsSafeBy kind here
          → Lands ways rom new
      lands_by (Quiet sets n) is choice alike flow go calls more safe =
          on (Quiet sets n) is choice alike refl n (sym alike.pc) flow
      lands_by (Reads sets place) is choice alike flow go calls more safe =
          on (Reads sets place) is choice alike refl (size place) (sym alike.pc) flow
      lands_by (Transfer r q) is choice alike flow go calls more safe =
          on (Transfer r q) is choice alike refl 1 (sym alike.pc) flow
      lands_by (Stores place) is choice alike flow go calls more safe =
          on (Stores place) is choice alike refl (size place) (sym alike.pc) flow
      lands_by Push is choice alike flow go calls more safe = on Push is choice alike refl 1 (sym alike.pc) flow
      lands_by PushFlags is choice alike flow go calls more safe = on PushFlags is choice alike refl 1 (sym alike.pc) flow
      lands_by Pull is choice alike flow go calls more safe = on Pull is choice alike refl 1 (sym alike.pc) flow
      lands_by PullFlags is choice alike flow go calls more safe = on PullFlags is choice alike refl 1 (sym alike.pc) flow
      lands_by Branch is choice alike flow go calls more safe = branches is choice alike flow
      lands_by Jump is choice alike flow go calls more safe = free_lands ways rom new
          (ap (is_free ways) (sym alike.pc ∙ leads calls) ∙ ap (is_free ways) (sym word)
          ∙ free_or (is_driver (word_at rom (cpu.pc + 1))) (ap is_driver word ∙ calls) flow) after.y
        where
          leads : is_driver (word_at cpu.mem (cpu.pc + 1)) ≡ false
              → (does Jump choice (ticked here)).pc ≡ word_at cpu.mem (cpu.pc + 1)
          leads out = ap (λ (t : Bool). (if t then machine.returned (machine.driven (word_at cpu.mem (cpu.pc + 1)) choice (ticked here))
              else record (ticked here) { pc = word_at cpu.mem (cpu.pc + 1) }).pc) out
      lands_by Call is choice alike flow go calls more safe = free_lands ways rom new
          (ap (is_free ways) (sym alike.pc ∙ leads calls) ∙ ap (is_free ways) (sym word)
          ∙ free_or (is_driver (word_at rom (cpu.pc + 1))) (ap is_driver word ∙ calls)
          (both_true (is_free ways (cpu.pc + 3)) _ flow).1) after.y
        where
          leads : is_driver (word_at cpu.mem (cpu.pc + 1)) ≡ false
              → (does Call choice (ticked here)).pc ≡ word_at cpu.mem (cpu.pc + 1)
          leads out = ap (λ (t : Bool). (if t then record (machine.driven (word_at cpu.mem (cpu.pc + 1)) choice (ticked here)) { pc = cpu.pc + 3 }
              else called (word_at cpu.mem (cpu.pc + 1)) (ticked here)).pc) out
      lands_by Return is choice alike flow go calls more safe = free_lands ways rom new
          (ap (is_free ways) (sym alike.pc) ∙ (subst (Plain ways rom) safe.1
          (plain R rom start notes ways offers puts accepted brought m.run)).0) after.y
      lands_by _ is choice alike flow go calls more safe = absurd (cc)

    -- an instruction of the game, or of an NMI that came amid it
    pub mine_steps : (flags : ℕ → ℕ) → Play.restarts cpu ≡ false → calling (kind_of (cpu.mem cpu.pc)) here ≡ false
        → IsByteWide (done flags cpu) → Mine (done flags cpu) (suc since)
    mine_steps flags go calls after = record {
      st = step did.choice here;
      run = did.run;
      homeless = homeless (kind_of (cpu.mem cpu.pc)) did.choice here m.homeless calls;
      time = (along (kind_of (cpu.mem cpu.pc)) did.choice here calls).since ∙ ap suc m.time;
      told = by (is_finish (kind_of (cpu.mem cpu.pc))) refl;
    }
      where
        did : Followed rom start cpu (done flags cpu) m.st
        did = follow rom start cpu m.st flags m.run go calls (λ is. m.homeless) bytes.x bytes.y

        not_yet : is_finish (kind_of (cpu.mem cpu.pc)) ≡ false → (o : Option Came) → m.st.amid ≡ o → Told o cpu
            → Told o (done flags cpu)
        not_yet more None out told = lands_by flags after told (kind_of (cpu.mem cpu.pc))
            (kind_there R rom start notes ways offers puts accepted brought here at) did.choice did.alike
            (flow_there R rom start notes ways offers puts accepted brought here at)
            (sym (restarts_same cpu m.st) ∙ go) calls more safe.next
        not_yet more (Some came) amid told = told

        over : kind_of (cpu.mem cpu.pc) ≡ Finish → Lands ways rom (done flags cpu)
        over is = subst (λ (k : Cpu). Lands ways rom k)
            (sym (ap (λ i. Processor.does i (fresh flags cpu)) (resume_is (decoded opcodes (cpu.mem cpu.pc)) is)))
            (subst (λ o. Told o cpu) (subst (λ k. IsSafeBy k here) is safe.next) m.told)

        out : kind_of (cpu.mem cpu.pc) ≡ Finish → (step did.choice here).amid ≡ None
        out is = subst (λ k. (does k did.choice (ticked here)).amid ≡ None) (sym is)
            (home_out m.st.home _ m.homeless refl)

        by : (t : Bool) → is_finish (kind_of (cpu.mem cpu.pc)) ≡ t → Told (step did.choice here).amid (done flags cpu)
        by false more = subst (λ o. Told o (done flags cpu))
            (sym (amid_stays (kind_of (cpu.mem cpu.pc)) did.choice here calls more).amid)
            (not_yet more m.st.amid refl m.told)
        by true ends = let is = finishing (kind_of (cpu.mem cpu.pc)) ends in
            subst (λ o. Told o (done flags cpu)) (sym (out is)) (over is)

    -- an NMI comes
    pub mine_nmi : 860 ≤ since → Mine (interrupted cpu) 0
    mine_nmi late = record {
      st = machine.interrupted (pushing (flags_byte false cpu)) here;
      run = nmi (pushing (flags_byte false cpu)) m.run later;
      homeless = m.homeless;
      time = refl;
      told = λ k. subst (λ c. Holds (fact ways rom k cpu.pc) cpu.a cpu.x cpu.y c) (sym (flags_back cpu).c) (told k);
    }
      where
        later : 860 ≤ m.st.since
        later = subst (λ n. 860 ≤ n) (sym m.time) late

        told : Lands ways rom cpu
        told = subst (λ o. Told o cpu) (safe.alone later) m.told

    -- what is outside turns
    pub mine_turns : (mem : ℕ → ℕ) → IsTurned cpu.mem mem → Mine (changed mem cpu) since
    mine_turns mem same = record {
      st = m.st;
      run = turns mem m.run same;
      homeless = m.homeless;
      time = m.time;
      told = by m.st.amid m.told;
    }
      where
        by : (o : Option Came) → Told o cpu → Told o (changed mem cpu)
        by None told = told
        by (Some came) told = told

  -- the driver returns
  pub mine_returns : (game : IsAccepted rom start) (cpu : Cpu) (log : List Access)
      (d : InDriver R (on_log R) rom start cpu log)
      (there : at_return d.s cpu ≡ true) (since : ℕ) (flags : ℕ → ℕ)
      → IsByteWide (returning.ret game d there since flags)
      → Mine (returning.ret game d there since flags) (suc since)
  mine_returns game cpu log d there since flags bytes = record {
    st = came.st;
    run = came.run;
    homeless = came.homeless;
    time = came.time;
    told = subst (λ o. Told o (returning.ret game d there since flags)) (sym out)
        (free_lands ways rom (returning.ret game d there since flags) free bytes.y);
  }
    where
      came : returning.Came rom start (returning.ret game d there since flags) (suc since) (word_at d.st.mem (d.st.pc + 1)) d.st.blank d.st
      came = returning.came game d there since flags

      back : Returned R rom start notes ways offers puts accepted brought d.st (step came.choice d.st)
      back = driver_back R rom start notes ways offers puts accepted brought d.st d.run d.outside d.goes d.calls_it came.choice

      out : came.st.amid ≡ None
      out = ap (λ (s : State). s.amid) came.stepped ∙ back.amid ∙ d.outside

      free : is_free ways (returning.ret game d there since flags).pc ≡ true
      free = ap (is_free ways) (sym came.place ∙ ap (λ (s : State). s.pc) came.stepped) ∙ back.free
