-- How far the machine has come with a call of the driver: up to its newest access, and to its end where it returns.
use Rattle.std.proofs.Common.{◌≡◌, ◌⊎◌, inl, inr, ℕ, suc, ◌+◌, Bool, true, false, List, [], ◌∷◌, refl}
use Rattle.std.proofs.Common.{sym, ap, ◌∙◌, subst, arith, eqb-true}
use Rattle.std.specs.Prelude.{◌&&◌, ◌||◌, not, nat_eq, if◌then◌else◌}
use Rattle.std.proofs.lemmas.Bool.{or_left, or_right}
use Rattle.dvg_log.specs.Log.{Log}
use Rattle.dvg_calls_6502.specs.Processor.{Cpu, Access, at_return, decoded, does, opcodes, turn}
use Rattle.dvg_calls_6502.specs.Amid.{AreHarmless, changed, guards, is_code, is_kept, is_work}
use Rattle.dvg_calls_6502.specs.Board.{is_own, seen}
use Rattle.dvg_calls_6502.specs.Calls
use Rattle.dvg_calls_6502.specs.Calls.{Call, Routine, after, answer, finds_busy, has_returned, is_leaving, is_over}
use Rattle.dvg_calls_6502.specs.Calls.{is_refused, is_table, IsSessionBy}
use Rattle.dvg_calls_6502.specs.Programs.{CallBrings}
use Rattle.dvg_calls_6502.specs.Routines.{Labs}
use Rattle.dvg_calls_6502.proofs.Decided.{clears}
use Rattle.dvg_cells_board.specs.Board.{Bus}
use Rattle.dvg_cells_board.specs.Clocks as clocked
use Rattle.dvg_cells_board.specs.Clocks.{IsBus, IsServed, changes}
use Rattle.dvg_cells_board.specs.Logs.{answered, did}
use Rattle.dvg_calls_board.specs.Hindsight.{IsCheckedTable, IsProgram}
use Rattle.dvg_calls_board.specs.Machine as machine
use Rattle.dvg_calls_board.specs.Machine.{IsIdle, Makes, SharesRam, accesses_of, begun, told, with_reset}
use Rattle.dvg_game_rules.proofs.Facts.{both_true}
use Rattle.dvg_game_rules.proofs.Memory.{either}
use Rattle.dvg_game_6502.proofs.Bearers.{Ended}
use Rattle.dvg_game_6502.proofs.BegunFrames.{labs_begins}
use Rattle.dvg_game_6502.proofs.NextMemory.{grows}
use Rattle.dvg_game_6502.proofs.Sessions.{further}
use Rattle.dvg_game_board.proofs.RefusedAtFirstLook.{refused_quiet}
use Rattle.dvg_game_board.proofs.LaterOthers.{Alike, amid_alike, harmless_alike, harmless_first, then_alike}

-- a call as it was after so many steps, with other others
abbrev pub so_far : Call → ℕ → (ℕ → ℕ → ℕ) → Call
so_far call n others = record call { steps = n; others = others }

-- the machine has done so many steps of the call, whatever others do from there on
abbrev pub Comes : (R image : List ℕ) (held : ℕ → ℕ) → Call → List Call → ℕ → List Bus → Type 0
Comes R image held call calls n clocks = (others : ℕ → ℕ → ℕ) → Alike n call.others others
    → (log : Log) × IsProgram R image held (so_far call n others ∷ calls) log clocks

pub data Stand (R image : List ℕ) (held : ℕ → ℕ) (call : Call) (calls : List Call) (clocks : List Bus) : Type 0 where
  -- it has done all: at the beginning, or since an access
  level : Comes R image held call calls call.steps clocks
      → (call.steps ≡ 0) ⊎ (accesses_of call ≡ [] → ⊥) → Stand R image held call calls clocks
  -- since there the call made no access, and there it isn't over
  behind : (n rest : ℕ) → Comes R image held call calls n clocks → rest + n ≡ call.steps
      → is_over (so_far call n call.others) ≡ false → accesses_of call ≡ accesses_of (so_far call n call.others)
      → Stand R image held call calls clocks
  -- there the call had its CLC and its RTS before it, and has done the first
  leaves : (n : ℕ) → Comes R image held call calls n clocks → suc n ≡ call.steps
      → is_leaving call.from.s (after (so_far call n call.others)) ≡ true → has_returned call ≡ true
      → ((b : ℕ) → is_kept (is_table call calls) b ≡ true
      → (after call).mem b ≡ (after (so_far call n call.others)).mem b)
      → Stand R image held call calls clocks

-- the call where it has returned, or was decided
pub record Last (R image : List ℕ) (held : ℕ → ℕ) (call : Call) (calls : List Call) (clocks : List Bus) : Type 0 where
  pub end : Ended R calls call
  pub log : Log
  pub on : IsProgram R image held (end.last ∷ calls) log clocks

-- a memory that has the code's bytes still has the CLC and the RTS
leaving_too : (s : ℕ) (cpu : Cpu) (m : ℕ → ℕ) → ((b : ℕ) → is_code b ≡ true → m b ≡ cpu.mem b)
    → is_leaving s cpu ≡ true → (is_leaving s (changed m cpu) ≡ true) × (m cpu.pc ≡ 0x18)
leaving_too s cpu m same is = (
  ap (λ q. is_code cpu.pc && (is_code (cpu.pc + 1) && (nat_eq q 0x18 && (nat_eq (m (cpu.pc + 1)) 0x60 && nat_eq cpu.s s))))
      (same cpu.pc one.0)
      ∙ ap (λ q. is_code cpu.pc && (is_code (cpu.pc + 1) && (nat_eq (cpu.mem cpu.pc) 0x18 && (nat_eq q 0x60 && nat_eq cpu.s s))))
      (same (cpu.pc + 1) two.0) ∙ is,
  same cpu.pc one.0 ∙ eqb-true (cpu.mem cpu.pc) 0x18 three.0,
)
  where
    one : (is_code cpu.pc ≡ true) × ((is_code (cpu.pc + 1) && (nat_eq (cpu.mem cpu.pc) 0x18
        && (nat_eq (cpu.mem (cpu.pc + 1)) 0x60 && nat_eq cpu.s s))) ≡ true)
    one = both_true (is_code cpu.pc) _ is

    two : (is_code (cpu.pc + 1) ≡ true) × ((nat_eq (cpu.mem cpu.pc) 0x18
        && (nat_eq (cpu.mem (cpu.pc + 1)) 0x60 && nat_eq cpu.s s)) ≡ true)
    two = both_true (is_code (cpu.pc + 1)) _ one.1

    three : (nat_eq (cpu.mem cpu.pc) 0x18 ≡ true) × ((nat_eq (cpu.mem (cpu.pc + 1)) 0x60 && nat_eq cpu.s s) ≡ true)
    three = both_true (nat_eq (cpu.mem cpu.pc) 0x18) _ two.1

-- CLC writes no memory
cleared : (s : ℕ) (cpu : Cpu) (b : ℕ) → cpu.mem cpu.pc ≡ 0x18 → (turn s cpu).mem b ≡ cpu.mem b
cleared s cpu b clc = ap (λ byte. (if nat_eq byte 0x60 && nat_eq cpu.s s then cpu else does (decoded opcodes byte) cpu).mem b) clc

over_alike : (call : Call) (n : ℕ) (one two : ℕ → ℕ → ℕ) → Alike n one two
    → is_over (so_far call n one) ≡ is_over (so_far call n two)
over_alike call n one two same = ap (λ (k : Cpu). at_return call.from.s k
    || ((nat_eq n 1 && finds_busy call.routine call.from.mem) || is_leaving call.from.s k))
    (amid_alike call.from.s n one two call.from same)

accesses_alike : (call : Call) (n : ℕ) (one two : ℕ → ℕ → ℕ) → Alike n one two
    → accesses_of (so_far call n one) ≡ accesses_of (so_far call n two)
accesses_alike call n one two same = ap (λ (k : Cpu). seen k.log) (amid_alike call.from.s n one two call.from same)

whole : (n : ℕ) → 0 + n ≡ n
whole n = omega arith

same_calls : (t : Bool) (calls : List Call) → (if t then calls else if false then [] else calls) ≡ calls
same_calls true calls = refl
same_calls false calls = refl

module _ (R image : List ℕ) (held : ℕ → ℕ) where
  -- a clock in which the processor leaves the board alone
  pub program_waits : (calls : List Call) (clocks : List Bus) (bus : Bus) (log : Log)
      → IsProgram R image held calls log clocks → IsBus bus → IsServed R (clocked.after held clocks) bus
      → IsIdle (clocked.after held clocks) bus
      → IsProgram R image held calls (answered image held clocks bus false log) (bus ∷ clocks)
  program_waits calls clocks bus log on is served idle =
      subst (λ list. IsProgram R image held list (answered image held clocks bus false log) (bus ∷ clocks))
      (same_calls (nat_eq bus.reset 0) calls) (machine.waits bus false on is served idle)

  pub stand_begins : (routine : Routine) (from : Cpu) (others : ℕ → ℕ → ℕ) (calls : List Call) (clocks : List Bus) (log : Log)
      → IsProgram R image held calls log clocks → IsSessionBy (CallBrings R) (begun routine from others ∷ calls)
      → IsCheckedTable R routine → SharesRam routine from.mem (clocked.after held clocks)
      → Stand R image held (begun routine from others) calls clocks
  stand_begins routine from others calls clocks log on session checked shares = level (λ more alike. (
    with_reset routine log,
    machine.begins routine from more on (session.0, session.1, tt, session.3) checked shares,
  )) (inl refl)

  module _ (call : Call) (calls : List Call) (clocks : List Bus) where
    waits_on : (bus : Bus) → IsBus bus → IsServed R (clocked.after held clocks) bus → IsIdle (clocked.after held clocks) bus
        → (n : ℕ) → Comes R image held call calls n clocks → Comes R image held call calls n (bus ∷ clocks)
    waits_on bus is served idle n comes others alike = let one = comes others alike in (
      answered image held clocks bus false one.0,
      program_waits (so_far call n others ∷ calls) clocks bus one.0 one.1 is served idle,
    )

    pub stand_waits : (bus : Bus) → Stand R image held call calls clocks → IsBus bus
        → IsServed R (clocked.after held clocks) bus → IsIdle (clocked.after held clocks) bus
        → Stand R image held call calls (bus ∷ clocks)
    stand_waits bus (level comes new) is served idle = level (waits_on bus is served idle call.steps comes) new
    stand_waits bus (behind n rest comes count over same) is served idle =
        behind n rest (waits_on bus is served idle n comes) count over same
    stand_waits bus (leaves n comes count leaving returned kept) is served idle =
        leaves n (waits_on bus is served idle n comes) count leaving returned kept

    -- one more step, which finds this memory
    module _ (m : ℕ → ℕ) (session : IsSessionBy (CallBrings R) (call ∷ calls)) (goes : has_returned call ≡ false) where
      abbrev new : Call
      new = further call m

      same_first : (n rest : ℕ) → rest + n ≡ call.steps → Alike n call.others new.others
      same_first n rest count k less = then_alike call.steps call.others m k (omega (arith, less, count))

      comes_on : (n rest : ℕ) → rest + n ≡ call.steps → Comes R image held call calls n clocks
          → Comes R image held new calls n clocks
      comes_on n rest count comes others alike =
          comes others (λ k less. same_first n rest count k less ∙ alike k less)

      stays_behind : (n rest : ℕ) → rest + n ≡ call.steps → Comes R image held call calls n clocks
          → is_over (so_far call n call.others) ≡ false → accesses_of new ≡ accesses_of (so_far call n call.others)
          → Stand R image held new calls clocks
      stays_behind n rest count comes over none = behind n (suc rest) (comes_on n rest count comes)
          (let e : suc rest + n ≡ suc call.steps = omega (arith, count) in e)
          (over_alike call n new.others call.others (λ k less. sym (same_first n rest count k less)) ∙ over)
          (none ∙ accesses_alike call n call.others new.others (same_first n rest count))

      pub stand_steps : ((b : ℕ) → guards (is_kept (is_table call calls)) call.from.s (after call).s b ≡ true
          → m b ≡ (after call).mem b) → accesses_of new ≡ accesses_of call
          → Stand R image held call calls clocks → Stand R image held new calls clocks
      stand_steps same none (behind n rest comes count over before) =
          stays_behind n rest count comes over (none ∙ before)
      stand_steps same none (leaves n comes count leaving returned kept) = absurd (let e = sym goes ∙ returned in cc)
      stand_steps same none (level comes fresh) = by (is_over call) refl
        where
          kept_same : (b : ℕ) → is_kept (is_table call calls) b ≡ true → m b ≡ (after call).mem b
          kept_same b is = same b (or_left (is_kept (is_table call calls) b) _ is)

          code_same : (b : ℕ) → is_code b ≡ true → m b ≡ (after call).mem b
          code_same b is = kept_same b (or_right (is_own b) _ (or_right (is_work b) _ (or_left (is_code b) _ is)))

          refused : is_refused call ≡ true → ⊥
          refused is = no fresh
            where
              no : (call.steps ≡ 0) ⊎ (accesses_of call ≡ [] → ⊥) → ⊥
              no (inl none) = let e = sym (ap (λ n. nat_eq n 1 && finds_busy call.routine call.from.mem) none) ∙ is in cc
              no (inr some) = some (refused_quiet R call calls session is)

          leaving : is_leaving call.from.s (after call) ≡ true → Stand R image held new calls clocks
          leaving is = leaves call.steps (comes_on call.steps 0 (whole call.steps) comes) refl
              (ap (λ (k : Cpu). is_leaving call.from.s k) (sym first) ∙ is)
              (ap (at_return call.from.s) turned ∙ clears call.from.s (changed m (after call)) still.0)
              (λ b kept. ap (λ (k : Cpu). k.mem b) turned ∙ cleared call.from.s (changed m (after call)) b still.1
              ∙ kept_same b kept ∙ ap (λ (k : Cpu). k.mem b) first)
            where
              still : (is_leaving call.from.s (changed m (after call)) ≡ true) × (m (after call).pc ≡ 0x18)
              still = leaving_too call.from.s (after call) m code_same is

              first : after call ≡ after (so_far new call.steps new.others)
              first = amid_alike call.from.s call.steps call.others new.others call.from (same_first call.steps 0 (whole call.steps))

              turned : after new ≡ turn call.from.s (changed m (after call))
              turned = grows call.from.s call.steps call.others m call.from

          by : (t : Bool) → is_over call ≡ t → Stand R image held new calls clocks
          by false over = stays_behind call.steps 0 (whole call.steps) comes over none
          by true over = one (either (has_returned call) _ over)
            where
              two : (is_refused call ≡ true) ⊎ (is_leaving call.from.s (after call) ≡ true) → Stand R image held new calls clocks
              two (inl is) = absurd (refused is)
              two (inr is) = leaving is

              one : (has_returned call ≡ true) ⊎ ((is_refused call || is_leaving call.from.s (after call)) ≡ true)
                  → Stand R image held new calls clocks
              one (inl is) = absurd (let e = sym goes ∙ is in cc)
              one (inr is) = two (either (is_refused call) _ is)

      -- one with an access, in a clock that makes it
      module _ (later : IsSessionBy (CallBrings R) (new ∷ calls)) (access : Access) (bus : Bus)
          (more : accesses_of new ≡ access ∷ accesses_of call) (is : IsBus bus)
          (served : IsServed R (clocked.after held clocks) bus) (made : Makes (clocked.after held clocks) bus access) where
        commits : (n rest : ℕ) → rest + n ≡ call.steps → Comes R image held call calls n clocks
            → accesses_of call ≡ accesses_of (so_far call n call.others)
            → Stand R image held new calls (bus ∷ clocks)
        commits n rest count comes before = level on (inr (λ none. let e = sym more ∙ none in cc))
          where
            on : Comes R image held new calls (suc call.steps) (bus ∷ clocks)
            on others alike = (
              did (changes bus) (answered image held clocks bus false prior.0),
              subst (λ k. IsProgram R image held (so_far call k others ∷ calls)
                  (did (changes bus) (answered image held clocks bus false prior.0)) (bus ∷ clocks)) up
                  (machine.accesses (suc rest) access bus prior.1 session_then news is served made),
            )
              where
                up : n + suc rest ≡ suc call.steps
                up = omega (arith, count)

                first : Alike n new.others others
                first k less = alike k (omega (arith, less, count))

                prior : (log : Log) × IsProgram R image held (so_far call n others ∷ calls) log clocks
                prior = comes_on n rest count comes others first

                session_then : IsSessionBy (CallBrings R) (so_far call (n + suc rest) others ∷ calls)
                session_then = (
                  later.0,
                  later.1,
                  subst (λ k. AreHarmless (guards (is_kept (is_table call calls)) call.from.s) call.from.s others k call.from)
                      (sym up) (harmless_alike (guards (is_kept (is_table call calls)) call.from.s) call.from.s
                      (suc call.steps) new.others others call.from alike later.2),
                  later.3,
                )

                news : accesses_of (so_far call (n + suc rest) others) ≡ access ∷ accesses_of (so_far call n others)
                news = ap (λ k. accesses_of (so_far call k others)) up
                    ∙ accesses_alike call (suc call.steps) others new.others (λ k less. sym (alike k less))
                    ∙ more ∙ ap (λ l. access ∷ l) (before
                    ∙ accesses_alike call n call.others others (λ k less. same_first n rest count k less ∙ first k less))

        pub stand_accesses : Stand R image held call calls clocks → Stand R image held new calls (bus ∷ clocks)
        stand_accesses (level comes fresh) = commits call.steps 0 (whole call.steps) comes refl
        stand_accesses (behind n rest comes count over before) = commits n rest count comes before
        stand_accesses (leaves n comes count leaving returned kept) = absurd (let e = sym goes ∙ returned in cc)

    -- at its RTS
    module _ (session : IsSessionBy (CallBrings R) (call ∷ calls)) (returned : has_returned call ≡ true) where
      by_itself : (log : Log) → IsProgram R image held (call ∷ calls) log clocks → Last R image held call calls clocks
      by_itself log on = record {
        end = record {
          last = call;
          routine_is = refl;
          from_is = refl;
          session = session;
          over = or_left (has_returned call) _ returned;
          kept = λ b is. refl;
          taken = λ is rest none. labs_begins R call calls rest session is none returned;
        };
        log = log;
        on = on;
      }

      pub stand_ends : Stand R image held call calls clocks → Last R image held call calls clocks
      stand_ends (level comes fresh) = let one = comes call.others (λ k less. refl) in by_itself one.0 one.1
      stand_ends (behind n rest comes count over before) =
          let one = comes call.others (λ k less. refl) in
          let up : n + rest ≡ call.steps = omega (arith, count) in
          by_itself (told image call one.0)
          (subst (λ k. IsProgram R image held (so_far call k call.others ∷ calls) (told image (so_far call k call.others) one.0) clocks)
          up (machine.steps rest one.1 over
          (subst (λ k. IsSessionBy (CallBrings R) (so_far call k call.others ∷ calls)) (sym up) session)
          (ap (λ k. accesses_of (so_far call k call.others)) up ∙ before)))
      stand_ends (leaves n comes count leaving home kept) =
          let one = comes call.others (λ k less. refl) in
          let last : Call = so_far call n call.others in record {
            end = record {
              last = last;
              routine_is = refl;
              from_is = refl;
              session = (
                session.0,
                session.1,
                harmless_first (guards (is_kept (is_table call calls)) call.from.s) call.from.s n 1 call.others
                    call.from
                    (subst (λ k. AreHarmless (guards (is_kept
                    (is_table call calls)) call.from.s) call.from.s call.others k call.from)
                    (let e : call.steps ≡ 1 + n = omega (arith, count) in e) session.2),
                session.3,
              );
              over = over;
              kept = kept;
              taken = λ is rest none. ap (λ t. t && not (answer last)) over
                  ∙ ap not (ap (λ (t : Bool). if t then true else
                  (if is_leaving call.from.s (after last) then false else (after last).c))
                  (unrefused is)
                  ∙ ap (λ (t : Bool). if t then false else (after last).c) leaving);
            };
            log = one.0;
            on = one.1;
          }
        where
          over : is_over (so_far call n call.others) ≡ true
          over = or_right (has_returned (so_far call n call.others)) _
              (or_right (is_refused (so_far call n call.others)) _ leaving)

          never : (t : Bool) → (t && false) ≡ false
          never true = refl
          never false = refl

          unrefused : call.routine ≡ Calls.Puts Labs → is_refused (so_far call n call.others) ≡ false
          unrefused is = ap (λ r. nat_eq n 1 && finds_busy r call.from.mem) is ∙ never (nat_eq n 1)
