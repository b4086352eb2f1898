-- A play in an NMI that came amid a call of the driver: its steps, and its RTI.
use Rattle.std.proofs.Common.{◌≡◌, ℕ, suc, ◌+◌, ◌*◌, ◌/◌, ◌%◌, ◌<◌, ◌≤◌, Bool, true, false, List}
use Rattle.std.proofs.Common.{refl, sym, ap, ◌∙◌, subst, arith}
use Rattle.std.specs.Prelude.{nat_eq, None}
use Rattle.dvg_calls_6502.specs.Processor.{Cpu, bit_of, decoded, does, flags_byte, has_bit, opcodes, pulled}
use Rattle.dvg_calls_6502.specs.Processor.{stack_place}
use Rattle.dvg_calls_6502.specs.Amid.{changed, is_code}
use Rattle.dvg_calls_6502.specs.Calls.{frame_of}
use Rattle.dvg_calls_6502.proofs.Resuming.{bit_small, is_bit}
use Rattle.dvg_game_rules.specs.Kinds.{Finish, kind_of}
use Rattle.dvg_game_rules.specs.Machine.{Came, State, IsRun, calling, goes_home, reset_vector, restarting, restarts}
use Rattle.dvg_game_rules.specs.Machine.{resumed_at, step, steps, word_at}
use Rattle.dvg_game_rules.specs.Machine as machine
use Rattle.dvg_game_rules.specs.Safe.{IsSafe, IsSafeBy}
use Rattle.dvg_game_rules.specs.Alike.{of_cpu}
use Rattle.dvg_game_rules.proofs.Facts.{inside}
use Rattle.dvg_game_rules.proofs.Early.{same_came}
use Rattle.dvg_game_rules.proofs.LocalKinds.{ticked}
use Rattle.dvg_game_6502.specs.Play
use Rattle.dvg_game_6502.specs.Play.{IsByteWide, done, fresh}
use Rattle.dvg_game_6502.proofs.CheckerFollows.{Followed, along, amid_stays, follow, is_finish, restarts_same}
use Rattle.dvg_game_6502.proofs.Bearers.{Bearer}
use Rattle.dvg_game_6502.proofs.DriverSteps.{two_levels}
use Rattle.dvg_game_6502.proofs.GameSteps.{outside_code, pushing}
use Rattle.dvg_game_6502.proofs.Guarded.{guard_is_spared, stack_spared}
use Rattle.dvg_game_6502.proofs.Outside.{guard_is_inside, stack_inside}
use Rattle.dvg_game_6502.proofs.Leaps.{calling_same, finishing, is_called, restarting_same, resume_is}
use Rattle.dvg_game_6502.proofs.Sessions.{unless_map}
use Rattle.dvg_game_6502.proofs.Spares.{spares}
use Rattle.dvg_game_6502.proofs.Stages.{Back, jmp, jsr, InDriver, InNmi, NotBlank, IsAccepted, safe_at}

-- the flags that an NMI pushed
flag_back : (byte weight : ℕ) (flag : Bool) → byte / weight % 2 ≡ bit_of flag → has_bit weight byte ≡ flag
flag_back byte weight flag has = ap (λ b. nat_eq b 1) has ∙ is_bit flag

pub record FlagsBack (cpu : Cpu) (byte : ℕ) : Type 0 where
  pub n : has_bit 128 byte ≡ cpu.n
  pub v : has_bit 64 byte ≡ cpu.v
  pub d : has_bit 8 byte ≡ cpu.d
  pub i : has_bit 4 byte ≡ cpu.i
  pub z : has_bit 2 byte ≡ cpu.z
  pub c : has_bit 1 byte ≡ cpu.c

pub flags_back : (cpu : Cpu) → FlagsBack cpu (flags_byte false cpu)
flags_back cpu =
    let n = bit_small cpu.n in
    let v = bit_small cpu.v in
    let d = bit_small cpu.d in
    let i = bit_small cpu.i in
    let z = bit_small cpu.z in
    let c = bit_small cpu.c in
    record {
      n = flag_back (flags_byte false cpu) 128 cpu.n (omega (arith, n, v, d, i, z, c));
      v = flag_back (flags_byte false cpu) 64 cpu.v (omega (arith, n, v, d, i, z, c));
      d = flag_back (flags_byte false cpu) 8 cpu.d (omega (arith, n, v, d, i, z, c));
      i = flag_back (flags_byte false cpu) 4 cpu.i (omega (arith, n, v, d, i, z, c));
      z = flag_back (flags_byte false cpu) 2 cpu.z (omega (arith, n, v, d, i, z, c));
      c = flag_back (flags_byte false cpu) 1 cpu.c (omega (arith, n, v, d, i, z, c));
    }

module _ {R : List ℕ} {B : Bearer R} {rom : ℕ → ℕ} {start : ℕ} (game : IsAccepted rom start)
    {cpu : Cpu} {since : ℕ} {w : B.World} (n : InNmi R B rom start cpu since w) where
  abbrev here : State
  here = of_cpu cpu n.st

  abbrev d : InDriver R B rom start n.outer w
  d = n.driver

  abbrev came : Came
  came = record {
    pc = n.outer.pc;
    s = n.outer.s;
    p = flags_byte false n.outer;
    a = n.outer.a;
    x = n.outer.x;
    y = n.outer.y;
  }

  pub safe : IsSafe rom here
  safe = safe_at game here n.run

  at_call : IsSafe rom d.st
  at_call = safe_at game d.st d.run

  pub outside : is_code cpu.pc ≡ false
  outside = outside_code cpu.pc safe.inside

  -- an NMI calls no driver
  no_call : restarts here ≡ false → calling (kind_of (cpu.mem cpu.pc)) here ≡ false
  no_call go = by (calling (kind_of (cpu.mem cpu.pc)) here) refl
    where
      by : (t : Bool) → calling (kind_of (cpu.mem cpu.pc)) here ≡ t → t ≡ false
      by false is = refl
      by true is = let out = (is_called (kind_of (cpu.mem cpu.pc)) here safe.next go is).program in
          absurd (let e = sym n.amid ∙ out in cc)

  pub nmi_steps : (flags : ℕ → ℕ) → Play.restarts cpu ≡ false → is_finish (kind_of (cpu.mem cpu.pc)) ≡ false
      → IsByteWide (done flags cpu) → InNmi R B rom start (done flags cpu) (suc since) w
  nmi_steps flags go more bytes = record {
    outer = n.outer;
    driver = d;
    st = step did.choice here;
    run = did.run;
    time = (along (kind_of (cpu.mem cpu.pc)) did.choice here calls).since ∙ ap suc n.time;
    amid = (amid_stays (kind_of (cpu.mem cpu.pc)) did.choice here calls more).amid ∙ n.amid;
    home = (amid_stays (kind_of (cpu.mem cpu.pc)) did.choice here calls more).home ∙ n.home;
    blank = (along (kind_of (cpu.mem cpu.pc)) did.choice here calls).blank ∙ n.blank;
    bytes = bytes;
    kept = λ b spared inside. sym (did.alike.mem b)
        ∙ spares rom start game.notes game.yes here came n.run n.amid did.choice goes b spared ∙ n.kept b spared inside;
  }
    where
      goes : restarts here ≡ false
      goes = sym (restarts_same cpu n.st) ∙ go

      calls : calling (kind_of (cpu.mem cpu.pc)) here ≡ false
      calls = no_call goes

      did : Followed rom start cpu (done flags cpu) n.st
      did = follow rom start cpu n.st flags n.run go calls (λ is. absurd (let e = sym more ∙ is
          in cc)) n.bytes.x n.bytes.y

  -- no second one comes
  pub nmi_alone : 860 ≤ since → ⊥
  nmi_alone late = let out = safe.alone (subst (λ k. 860 ≤ k) (sym n.time) late) in let e = sym n.amid ∙ out in cc

  -- the driver goes on with the memory that the NMI left
  abbrev resumed : (ℕ → ℕ) → Cpu
  resumed flags = fresh flags (changed cpu.mem n.outer)

  -- and the machine stands at its call again
  abbrev again : State
  again = record (ticked here) { pc = d.st.pc; s = d.st.s; amid = None; home = None }

  module _ (go : Play.restarts cpu ≡ false) (ends : is_finish (kind_of (cpu.mem cpu.pc)) ≡ true) where
    at_rti : kind_of (cpu.mem cpu.pc) ≡ Finish
    at_rti = finishing (kind_of (cpu.mem cpu.pc)) ends

    same : came ≡ record {
      pc = resumed_at here;
      s = (cpu.s + 3) % 256;
      p = cpu.mem (stack_place (cpu.s + 1));
      a = cpu.a;
      x = cpu.x;
      y = cpu.y;
    }
    same = same_came came _ (sym n.amid ∙ subst (λ k. IsSafeBy k here) at_rti safe.next)

    flags_are : FlagsBack n.outer (pulled 1 cpu)
    flags_are = subst (λ b. FlagsBack n.outer b) (ap (λ (c : Came). c.p) same) (flags_back n.outer)

    pub comes_back : (flags : ℕ → ℕ) → done flags cpu ≡ resumed flags
    comes_back flags = ap (λ i. does i (fresh flags cpu)) (resume_is (decoded opcodes (cpu.mem cpu.pc)) at_rti)
        ∙ (λ j. record (fresh flags cpu) {
          a = sym (ap (λ (c : Came). c.a) same) j;
          x = sym (ap (λ (c : Came). c.x) same) j;
          y = sym (ap (λ (c : Came). c.y) same) j;
          s = sym (ap (λ (c : Came). c.s) same) j;
          pc = sym (ap (λ (c : Came). c.pc) same) j;
          n = flags_are.n j;
          v = flags_are.v j;
          d = flags_are.d j;
          i = flags_are.i j;
          z = flags_are.z j;
          c = flags_are.c j;
        })

    -- the run of the machine
    again_is : step (pushing 0) here ≡ again
    again_is = ap (λ k. machine.does k (pushing 0) (ticked here)) at_rti
        ∙ ap (λ home. goes_home home (record (ticked here) {
          pc = resumed_at here;
          s = (cpu.s + 3) % 256;
          amid = None;
          home = None;
        })) n.home

    again_run : IsRun rom start again
    again_run = subst (IsRun rom start) again_is (steps (pushing 0) n.run (sym (restarts_same cpu n.st) ∙ go))

    -- the ROM is as it was where the driver was called
    rom_same : (b : ℕ) → 0x4800 ≤ b → b < 0x8000 → cpu.mem b ≡ d.st.mem b
    rom_same b low high = safe.rom_kept b low high ∙ sym (at_call.rom_kept b low high)

    place : (0x4800 ≤ d.st.pc) × (d.st.pc + 2 < 0x8000)
    place = inside d.st.pc at_call.inside

    opcode : cpu.mem d.st.pc ≡ d.st.mem d.st.pc
    opcode = let high = place.1 in rom_same d.st.pc place.0 (omega (arith, high))

    operand : word_at cpu.mem (d.st.pc + 1) ≡ word_at d.st.mem (d.st.pc + 1)
    operand = let low = place.0 in let high = place.1 in
        ap (λ v. v + 256 * cpu.mem (d.st.pc + 1 + 1)) (rom_same (d.st.pc + 1) (omega (arith, low)) (omega
        (arith, high)))
        ∙ ap (λ v. d.st.mem (d.st.pc + 1) + 256 * v)
        (rom_same (d.st.pc + 1 + 1) (omega (arith, low)) (omega (arith, high)))

    vector : word_at cpu.mem reset_vector ≡ word_at d.st.mem reset_vector
    vector = ap (λ v. v + 256 * cpu.mem 0x7FFD) (rom_same 0x7FFC (omega arith) (omega arith))
        ∙ ap (λ v. d.st.mem 0x7FFC + 256 * v) (rom_same 0x7FFD (omega arith) (omega arith))

    kept_back : Back d.st n.outer.mem d.s → Back again cpu.mem d.s
    kept_back (jsr is level one two) = let low = (two_levels n.outer.s d.s d.level).0 in let most = d.most in
        jsr (ap kind_of opcode ∙ is) level
        (n.kept (0x100 + (d.s + 1)) (stack_spared n.outer.s (0x100 + (d.s + 1)) (d.s + 1) (omega (arith, low))
        (omega (arith, level, most)) refl) (stack_inside (d.s + 1) (omega (arith, level, most))) ∙ one)
        (n.kept (0x100 + (d.s + 2)) (stack_spared n.outer.s (0x100 + (d.s + 2)) (d.s + 2) (omega (arith, low))
        (omega (arith, level, most)) refl) (stack_inside (d.s + 2) (omega (arith, level, most))) ∙ two)
    kept_back (jmp is level) = jmp (ap kind_of opcode ∙ is) level

    pub nmi_ends : (flags : ℕ → ℕ) → IsByteWide (resumed flags) → InDriver R B rom start (resumed flags) w
    nmi_ends flags bytes = record {
      st = again;
      run = again_run;
      outside = refl;
      homeless = refl;
      calls_it = ap (λ b. calling (kind_of b) again) opcode ∙ calling_same (kind_of
          (d.st.mem d.st.pc)) again d.st operand
          ∙ d.calls_it;
      goes = ap (λ b. restarting (kind_of b) again) opcode
          ∙ restarting_same (kind_of (d.st.mem d.st.pc)) again d.st operand vector ∙ d.goes;
      routine = d.routine;
      to = operand ∙ d.to;
      s = d.s;
      back = kept_back d.back;
      calls = d.calls;
      mine = d.mine;
      doing = B.refreshes d.routine d.s d.calls (changed cpu.mem n.outer) d.mine w flags
          (B.passes d.routine d.s d.calls n.outer d.mine w cpu.mem (λ tables in_rom b guarded.
          n.kept b (guard_is_spared tables (λ b table. (in_rom b table).0) d.s n.outer.s small d.level b guarded)
          (guard_is_inside tables in_rom d.s n.outer.s b guarded)) d.doing);
      most = d.most;
      top = d.top;
      level = d.level;
      place = d.place;
      rom_kept = λ b low high. safe.rom_kept b low high;
      stack_kept = λ b low high. refl;
      bytes = bytes;
      frame = unless_map d.routine (d.st.blank ≡ false → NotBlank (frame_of d.calls))
          (n.st.blank ≡ false → NotBlank (frame_of d.calls)) (λ f blank. f (sym n.blank ∙ blank)) d.frame;
    }
      where
        small : d.s ≤ 255
        small = let top = d.top in let most = d.most in omega (arith, top, most)
