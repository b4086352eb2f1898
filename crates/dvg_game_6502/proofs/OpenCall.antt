-- A call of the driver that a processor is in goes on as it plays. Each change of it is a definition, so that what
-- bears the call may say more of the call that it makes.
use Rattle.std.proofs.Common.{◌≡◌, ◌⊎◌, inl, inr, ℕ, suc, ◌<◌, ◌≤◌, Bool, true, false, List, [], ◌++◌, refl}
use Rattle.std.proofs.Common.{sym, ap, ◌∙◌, subst, leb-true}
use Rattle.std.specs.Prelude.{if◌then◌else◌, nat_eq, nat_le, nat_lt, ◌&&◌, ◌||◌}
use Rattle.std.proofs.lemmas.Bool.{or_left}
use Rattle.dvg_calls_6502.specs.Processor.{Cpu, Access, at_return, decoded, opcodes, step, turn}
use Rattle.dvg_calls_6502.specs.Amid.{changed, guards, is_code, is_kept}
use Rattle.dvg_calls_6502.specs.Calls as calls_of
use Rattle.dvg_calls_6502.specs.Calls.{Routine, after, bounds, call_of, entry, frame_of, has_returned, is_offered, is_table}
use Rattle.dvg_calls_6502.specs.Calls.{UnlessReset}
use Rattle.dvg_calls_6502.specs.Programs.{CallBrings}
use Rattle.dvg_calls_6502.specs.Routines.{Enters}
use Rattle.dvg_calls_6502.proofs.Steady.{code_kept}
use Rattle.dvg_game_rules.proofs.Facts.{both_true}
use Rattle.dvg_game_rules.proofs.Memory.{either}
use Rattle.dvg_game_6502.specs.Play.{done, fresh}
use Rattle.dvg_game_6502.specs.Open.{InRom, IsIn, Rested, DriverBegins, DriverEnds, DriverSteps, NmiPasses}
use Rattle.dvg_game_6502.proofs.Flags.{opens, told}
use Rattle.dvg_game_6502.proofs.Logs.{log_is_passive, upon}
use Rattle.dvg_game_6502.proofs.Sessions.{further, further_turns, session_begins, session_goes_on}

-- the code is guarded
pub code_guarded : (tables : ℕ → Bool) (s now b : ℕ) → is_code b ≡ true → guards (is_kept tables) s now b ≡ true
code_guarded tables s now b is = or_left (is_kept tables b) _ (code_kept tables b is)

module _ {R : List ℕ} {routine : Routine} {s : ℕ} {calls : List calls_of.Call} {cpu : Cpu} {log : List Access}
    {flags : ℕ → ℕ} (is : IsIn R routine s calls cpu log flags) where
  -- its memory is what the call's next step finds
  pub same_as_left : (b : ℕ) → guards (is_kept (is_table is.call calls)) is.call.from.s (after is.call).s b ≡ true
      → cpu.mem b ≡ (after is.call).mem b
  same_as_left b guarded =
      is.same b (subst (λ q. guards (is_kept (is_table is.call calls)) q cpu.s b ≡ true) is.level
      (subst (λ (k : Cpu). guards (is_kept (is_table is.call calls)) is.call.from.s k.s b ≡ true) is.after guarded))
      ∙ sym (ap (λ (k : Cpu). k.mem b) is.after)

  -- it has returned where the processor is at its RTS
  pub returned_is : is_code cpu.pc ≡ true → has_returned is.call ≡ at_return s cpu
  returned_is code =
      ap (λ k. at_return is.call.from.s k) is.after
      ∙ ap (λ k. at_return k (record cpu { mem = is.left; flags = flags; log = log })) is.level
      ∙ ap (λ v. nat_eq v 0x60 && nat_eq cpu.s s)
      (sym (is.same cpu.pc (code_guarded (is_table is.call calls) s cpu.s cpu.pc code)))

  -- others pass that leave what is guarded
  abbrev pub passed : (m : ℕ → ℕ) → ((tables : ℕ → Bool) → ((b : ℕ) → tables b ≡ true → InRom b)
      → (b : ℕ) → guards (is_kept tables) s cpu.s b ≡ true → m b ≡ cpu.mem b)
      → IsIn R routine s calls (changed m cpu) log flags
  passed m spares = record {
    call = is.call;
    session = is.session;
    routine_is = is.routine_is;
    level = is.level;
    in_rom = is.in_rom;
    left = is.left;
    after = is.after;
    same = λ b guarded. spares (is_table is.call calls) is.in_rom b guarded ∙ is.same b guarded;
  }

  -- the flag and the log are none of it
  abbrev pub refreshed : (other : ℕ → ℕ) → IsIn R routine s calls (fresh other cpu) log flags
  refreshed other = record {
    call = is.call;
    session = is.session;
    routine_is = is.routine_is;
    level = is.level;
    in_rom = is.in_rom;
    left = is.left;
    after = is.after;
    same = is.same;
  }

  -- an instruction: what the flag had to say before it is `flags`
  module _ (now future : ℕ → ℕ) (opened : step (told flags (fresh now cpu)) ≡ told future (done now cpu))
      (not_there : at_return s cpu ≡ false) where
    pub after_step : after (further is.call cpu.mem)
        ≡ record (done now cpu) { flags = future; log = (done now cpu).log ++ log }
    after_step = further_turns is.call cpu.mem ∙ ap (λ k. turn is.call.from.s (changed cpu.mem k)) is.after
        ∙ ap (λ k. turn k (record cpu { flags = flags; log = log })) is.level
        ∙ ap (λ (t : Bool). if t then record cpu { flags = flags; log = log }
        else step (record cpu { flags = flags; log = log })) not_there
        ∙ log_is_passive (record cpu { flags = flags; log = log })
        ∙ ap (upon log) opened

    abbrev pub stepped : IsIn R routine s calls (done now cpu) ((done now cpu).log ++ log) future
    stepped = record {
      call = further is.call cpu.mem;
      session = session_goes_on R is.call calls cpu.mem is.session same_as_left;
      routine_is = is.routine_is;
      level = is.level;
      in_rom = is.in_rom;
      left = (done now cpu).mem;
      after = after_step;
      same = λ b guarded. refl;
    }

-- a call begins
module _ (R : List ℕ) (routine : Routine) (cpu : Cpu) (calls : List calls_of.Call)
    (rested : UnlessReset routine (Rested R calls cpu.mem))
    (enters : (flags : ℕ → ℕ) → Enters (fresh flags cpu) (entry routine))
    (tells : (flags : ℕ → ℕ) → CallBrings R routine (fresh flags cpu) (frame_of calls))
    (table : (b : ℕ) → (bounds calls).0 ≤ b → b < (bounds calls).1 → InRom b)
    (offered : (b : ℕ) → is_offered routine cpu b ≡ true → InRom b) (flags : ℕ → ℕ) where
  is_offered_same : (r : Routine) (t : Bool) (b : ℕ)
      → (t || is_offered r cpu b) ≡ (t || is_offered r (fresh flags cpu) b)
  is_offered_same calls_of.Reset t b = refl
  is_offered_same _ t b = refl

  pub tables_in_rom : (b : ℕ) → is_table (call_of routine (fresh flags cpu) 0 (λ k b. 0)) calls b ≡ true → InRom b
  tables_in_rom b is = in_it (either taken (is_offered routine cpu b) (is_offered_same routine taken b ∙ is))
    where
      taken : Bool
      taken = nat_le (bounds calls).0 b && nat_lt b (bounds calls).1

      in_it : (taken ≡ true) ⊎ (is_offered routine cpu b ≡ true) → InRom b
      in_it (inl is) = let two = both_true (nat_le (bounds calls).0 b) _ is in
          table b (leb-true (bounds calls).0 b two.0) (leb-true (suc b) (bounds calls).1 two.1)
      in_it (inr is) = offered b is

  abbrev pub begun : IsIn R routine cpu.s calls cpu [] flags
  begun = record {
    call = call_of routine (fresh flags cpu) 0 (λ k b. 0);
    session = session_begins R routine (fresh flags cpu) (λ k b. 0) calls rested (enters flags) (tells flags);
    routine_is = refl;
    level = refl;
    in_rom = tables_in_rom;
    left = cpu.mem;
    after = refl;
    same = λ b guarded. refl;
  }

pub driver_begins : DriverBegins
driver_begins R routine cpu calls rested enters tells table offered =
    begun R routine cpu calls rested enters tells table offered

pub driver_steps : DriverSteps
driver_steps R routine s calls cpu log flags inside not_there future =
    let one = opens (fresh flags cpu) future (decoded opcodes (cpu.mem cpu.pc)) in
    stepped (inside one.0) flags future one.1 not_there

pub nmi_passes : NmiPasses
nmi_passes R routine s calls cpu log m inside spares flags = passed (inside flags) m spares

-- at its RTS it has returned
pub has_come : (R : List ℕ) (routine : Routine) (s : ℕ) (calls : List calls_of.Call) (cpu : Cpu) (log : List Access)
    (flags : ℕ → ℕ) (is : IsIn R routine s calls cpu log flags) → is_code cpu.pc ≡ true → at_return s cpu ≡ true
    → has_returned is.call ≡ true
has_come R routine s calls cpu log flags is code there = returned_is is code ∙ there

pub driver_ends : DriverEnds
driver_ends R routine s calls cpu log flags is code there =
    or_left (has_returned is.call) _ (has_come R routine s calls cpu log flags is code there)
