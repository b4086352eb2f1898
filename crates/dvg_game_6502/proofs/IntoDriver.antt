-- The game's JSR or JMP leads into the driver.
use Rattle.std.proofs.Common.{◌≡◌, ◌⊎◌, inl, inr, ℕ, zero, suc, ◌+◌, ◌*◌, ◌/◌, ◌%◌, ◌<◌, ◌≤◌, true, false, List, []}
use Rattle.std.proofs.Common.{◌∷◌, refl, sym, ap, ◌∙◌, subst, arith}
use Rattle.std.specs.Prelude.{length, slice_index}
use Rattle.std.proofs.lemmas.Bool.{or_right}
use Rattle.dvg_calls_6502.specs.Processor.{Cpu, decoded, does, opcodes, put, stack_place}
use Rattle.dvg_calls_6502.specs.Processor as processor
use Rattle.dvg_calls_6502.specs.Amid as driver
use Rattle.dvg_calls_6502.specs.Board.{is_own}
use Rattle.dvg_calls_6502.specs.Calls as calls_of
use Rattle.dvg_calls_6502.specs.Calls.{Routine, entry}
use Rattle.dvg_calls_6502.specs.Code.{code, dvg_offer, dvg_pair, dvg_put}
use Rattle.dvg_calls_6502.specs.Routines.{Enters, Put, Pair, Labs, Vector}
use Rattle.dvg_game_rules.specs.Kinds.{kind_of}
use Rattle.dvg_game_rules.specs.Kinds as kinds
use Rattle.dvg_game_rules.specs.Machine.{State, calling, word_at}
use Rattle.dvg_game_rules.specs.Safe.{IsCalled, IsSafe}
use Rattle.dvg_game_rules.specs.Safe as safes
use Rattle.dvg_game_rules.specs.Alike.{of_cpu}
use Rattle.dvg_game_rules.proofs.Memory.{here as put_here, other}
use Rattle.dvg_game_6502.specs.Play
use Rattle.dvg_game_6502.specs.Play.{IsByteWide, done, fresh}
use Rattle.dvg_game_6502.specs.Games.{IsTable, IsWord}
use Rattle.dvg_game_6502.proofs.CheckerFollows.{restarts_same}
use Rattle.dvg_game_6502.proofs.Bearers.{Bearer}
use Rattle.dvg_game_6502.proofs.GameCallsDriver.{Picked, picked}
use Rattle.dvg_game_6502.proofs.GameSteps.{needed_off, rested_on}
use Rattle.dvg_game_6502.proofs.Leaps.{by_leap, call_is, is_called, jump_is}
use Rattle.dvg_game_6502.proofs.Stages.{Back, jmp, jsr, InDriver, InGame, Rests, IsAccepted, safe_at}

-- each entry is in the driver's code
entry_there : (routine : Routine) → driver.is_code (entry routine) ≡ true
entry_there (calls_of.Offer F) = refl
entry_there (calls_of.Open F) = refl
entry_there (calls_of.Puts Put) = refl
entry_there (calls_of.Puts Pair) = refl
entry_there (calls_of.Puts Labs) = refl
entry_there (calls_of.Puts Vector) = refl
entry_there _ = refl

-- the driver's bytes, one by one
byte_at : (bytes : List ℕ) (mem : ℕ → ℕ) (at : ℕ) → safes.BytesLieAt bytes mem at → (i : ℕ) → i < length bytes
    → mem (at + i) ≡ slice_index bytes i
byte_at [] mem at are i less = absurd (omega (arith, less))
byte_at (byte ∷ bytes) mem at are zero less = ap mem (let e : at + 0 ≡ at = omega arith in e) ∙ are.0
byte_at (byte ∷ bytes) mem at are (suc i) less = ap mem (let e : at + suc i ≡ suc at + i = omega arith in e)
    ∙ byte_at bytes mem (suc at) are.1 i (omega (arith, less))

module _ {R : List ℕ} {B : Bearer R} {rom : ℕ → ℕ} {start : ℕ} (game : IsAccepted rom start)
    {cpu : Cpu} {since : ℕ} {w : B.World} (g : InGame R B rom start cpu since w) (go : Play.restarts cpu ≡ false)
    (is : calling (kind_of (cpu.mem cpu.pc)) (of_cpu cpu g.st) ≡ true) where
  abbrev here : State
  here = of_cpu cpu g.st

  abbrev to : ℕ
  to = word_at cpu.mem (cpu.pc + 1)

  safe : IsSafe rom here
  safe = safe_at game here g.run

  called : IsCalled here to
  called = is_called (kind_of (cpu.mem cpu.pc)) here safe.next (sym (restarts_same cpu g.st) ∙ go) is

  most : cpu.s ≤ 255
  most = let small = g.bytes.s in omega (arith, small)

  -- what the processor is at the entry
  record Entered (new : Cpu) : Type 0 where
    bytes : IsByteWide new
    pc : new.pc ≡ to
    off : (b : ℕ) → (b < 0x100) ⊎ (0x100 + cpu.s < b) → new.mem b ≡ cpu.mem b
    back : Back here new.mem new.s
    top : new.s ≤ cpu.s
    tables : to ≡ dvg_offer → IsTable R rom new
    words : to ≡ dvg_put → IsWord R new

  enter : (new : Cpu) → Entered new → (to ≡ dvg_pair → ⊥) → InDriver R B rom start new w
  enter new at no_pair = record {
    st = here;
    run = g.run;
    outside = called.program;
    homeless = g.homeless;
    calls_it = is;
    goes = sym (restarts_same cpu g.st) ∙ go;
    routine = pick.routine;
    to = pick.at;
    s = new.s;
    back = at.back;
    calls = g.calls;
    mine = [];
    doing = B.begins pick.routine new g.calls w pick.rested enters pick.tells pick.checked g.tables pick.offered
        (B.keeps g.calls cpu.mem new.mem w (λ b ram. at.off b (off_stack b (needed_off b (or_right (is_own b) _ ram))))
        g.between);
    most = most;
    top = at.top;
    level = inl refl;
    place = ap driver.is_code (at.pc ∙ pick.at) ∙ entry_there pick.routine;
    rom_kept = in_rom;
    stack_kept = λ b low high. at.off b (inr low);
    bytes = at.bytes;
    frame = pick.frame;
  }
    where
      far : (b : ℕ) → 0x4800 ≤ b → (b < 0x100) ⊎ (0x100 + cpu.s < b)
      far b low = let small = most in inr (omega (arith, low, small))

      in_rom : (b : ℕ) → 0x4800 ≤ b → b < 0x8000 → new.mem b ≡ rom b
      in_rom b low high = at.off b (far b low) ∙ safe.rom_kept b low high

      off_stack : (b : ℕ) → (b < 0x100) ⊎ (0x200 ≤ b) → (b < 0x100) ⊎ (0x100 + cpu.s < b)
      off_stack b (inl less) = inl less
      off_stack b (inr more) = let small = most in inr (omega (arith, more, small))

      rests : here.awake ≡ true → Rests R g.calls new.mem here.blank
      rests awake = on (g.rests awake)
        where
          on : Rests R g.calls cpu.mem g.st.blank → Rests R g.calls new.mem g.st.blank
          on r = record {
            rested = rested_on R g.calls cpu.mem new.mem (λ b needed. at.off b (off_stack b (needed_off b needed)))
                (λ b low high. at.off b (far b (g.tables b low high).0)) r.rested;
            frame = r.frame;
          }

      pick : Picked R rom new g.calls to here.blank
      pick = picked R rom new at.bytes g.calls here to called rests in_rom at.tables at.words no_pair

      enters : (flags : ℕ → ℕ) → Enters (fresh flags new) (entry pick.routine)
      enters flags = record {
        entry = at.pc ∙ pick.at;
        log = refl;
        loaded = record {
          code = λ i less. let small = most in
              at.off (0x6800 + i) (inr (omega (arith, small))) ∙ byte_at code cpu.mem 0x6800 safe.driver i less;
          bytes = at.bytes.mem;
        };
        a = at.bytes.a;
        x = at.bytes.x;
        s = at.bytes.s;
      }

  -- the instruction's word
  word_is : processor.word_at cpu.mem (cpu.pc + 1) (cpu.pc + 2) ≡ to
  word_is = ap (λ q. cpu.mem (cpu.pc + 1) + 256 * cpu.mem q) (let e : cpu.pc + 2 ≡ cpu.pc + 1 + 1 = omega arith in e)

  module _ (flags : ℕ → ℕ) (bytes : IsByteWide (done flags cpu)) (tables : to ≡ dvg_offer → IsTable R rom cpu)
      (words : to ≡ dvg_put → IsWord R cpu) (no_pair : to ≡ dvg_pair → ⊥) where
    abbrev jsr_done : Cpu
    jsr_done = does processor.Call (fresh flags cpu)

    abbrev jmp_done : Cpu
    jmp_done = does processor.Jump (fresh flags cpu)

    by_jsr : kind_of (cpu.mem cpu.pc) ≡ kinds.Call → InDriver R B rom start (done flags cpu) w
    by_jsr kind = subst (λ k. InDriver R B rom start k w) (sym same) (enter jsr_done (record {
      bytes = subst IsByteWide same bytes;
      pc = word_is;
      off = λ b off. other (stack_place (cpu.s + 255)) ((cpu.pc + 2) % 256) one b (apart (cpu.s + 255) (omega
          (arith, few, small)) b off)
          ∙ other (stack_place cpu.s) ((cpu.pc + 2) / 256) cpu.mem b (apart cpu.s (omega (arith, small)) b off);
      back = jsr kind (omega (arith, few, small))
          (ap jsr_done.mem (let e : 0x100 + ((cpu.s + 254) % 256 + 1) ≡ stack_place (cpu.s + 255) = omega
          (arith, few, small) in e)
          ∙ put_here (stack_place (cpu.s + 255)) ((cpu.pc + 2) % 256) one)
          (ap jsr_done.mem (let e : 0x100 + ((cpu.s + 254) % 256 + 2) ≡ stack_place cpu.s = omega (arith, few, small)
          in e)
          ∙ other (stack_place (cpu.s + 255)) ((cpu.pc + 2) % 256) one (stack_place cpu.s)
          (λ same. omega (arith, same, few, small))
          ∙ put_here (stack_place cpu.s) ((cpu.pc + 2) / 256) cpu.mem);
      top = omega (arith, few, small);
      tables = λ at. let t = tables at in
          record { draft = t.draft; table = t.table; low = t.low; ends = t.ends; checked = t.checked };
      words = λ at. let w = words at in record { op = w.op; word = w.word; put = w.put; is_op = w.is_op };
    }) no_pair)
      where
        same : done flags cpu ≡ jsr_done
        same = ap (λ i. does i (fresh flags cpu)) (call_is (decoded opcodes (cpu.mem cpu.pc)) kind)

        one : ℕ → ℕ
        one = put (stack_place cpu.s) ((cpu.pc + 2) / 256) cpu.mem

        few : 36 ≤ cpu.s
        few = called.room

        small : cpu.s ≤ 255
        small = most

        apart : (k : ℕ) → k % 256 ≤ cpu.s → (b : ℕ) → (b < 0x100) ⊎ (0x100 + cpu.s < b) → b ≡ stack_place k → ⊥
        apart k less b (inl low) at = omega (arith, low, at)
        apart k less b (inr high) at = omega (arith, high, at, less)

    by_jmp : kind_of (cpu.mem cpu.pc) ≡ kinds.Jump → InDriver R B rom start (done flags cpu) w
    by_jmp kind = subst (λ k. InDriver R B rom start k w) (sym same) (enter jmp_done (record {
      bytes = subst IsByteWide same bytes;
      pc = word_is;
      off = λ b off. refl;
      back = jmp kind refl;
      top = omega arith;
      tables = λ at. let t = tables at in
          record { draft = t.draft; table = t.table; low = t.low; ends = t.ends; checked = t.checked };
      words = λ at. let w = words at in record { op = w.op; word = w.word; put = w.put; is_op = w.is_op };
    }) no_pair)
      where
        same : done flags cpu ≡ jmp_done
        same = ap (λ i. does i (fresh flags cpu)) (jump_is (decoded opcodes (cpu.mem cpu.pc)) kind)

    pub game_calls : InDriver R B rom start (done flags cpu) w
    game_calls = by (by_leap (kind_of (cpu.mem cpu.pc)) here is)
      where
        by : (kind_of (cpu.mem cpu.pc) ≡ kinds.Call) ⊎ (kind_of (cpu.mem cpu.pc) ≡ kinds.Jump)
            → InDriver R B rom start (done flags cpu) w
        by (inl kind) = by_jsr kind
        by (inr kind) = by_jmp kind
