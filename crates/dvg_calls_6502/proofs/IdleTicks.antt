-- dvg_ticks where the driver is idle, or a frame is being built.
use Rattle.std.proofs.Common.{◌≡◌, ◌≢◌, ℕ, zero, suc, inl, inr, ◌+◌, ◌*◌, ◌%◌, ◌<◌, ◌≤◌, Bool, true, false, List, ◌∷◌}
use Rattle.std.proofs.Common.{refl, sym, ap, ◌∙◌, subst, arith, eqb-true}
use Rattle.std.proofs.lemmas.Bool.{ne_eqb}
use Rattle.std.specs.Prelude.{nat_eq, nat_le, ◌⊎◌, if◌then◌else◌}
use Rattle.dvg_calls_6502.specs.Processor.{Cpu, Access, Writes, Return, put, run, does, at_return}
use Rattle.dvg_calls_6502.specs.Board.{seen}
use Rattle.dvg_calls_6502.specs.Routines.{Enters}
use Rattle.dvg_calls_6502.specs.Build.{IdlesAll, IdleTicksAll}
use Rattle.dvg_calls_6502.proofs.ProcessorRuns.{at, run_more, returned}
use Rattle.dvg_calls_6502.proofs.Memory.{laid, page_of, page_in, HasCode, code_known, state_coded, put_out, in_page, in_code, le_not}
use Rattle.dvg_calls_6502.proofs.TickCall.{on_stack, found, past_low, rts}
use Rattle.dvg_calls_6502.proofs.TicksRun.{then_at, last, again, lower, not_last}

-- the two phases, and the instructions of a tick up to its RTS
abbrev phase_of : Bool → ℕ
phase_of true = 2
phase_of false = 7

abbrev steps_of : Bool → ℕ
steps_of true = 7
steps_of false = 15

-- from a JSR to what follows it
record Ticked (q : ℕ) (cpu : Cpu) : Type 0 where
  steps : ℕ
  place : (run q steps cpu).pc ≡ 0x6865
  stack : (run q steps cpu).s ≡ q
  shows : seen (run q steps cpu).log ≡ seen cpu.log
  kept : (b : ℕ) → b ≢ 0x100 + q % 256 → b ≢ 0x100 + (q + 255) % 256 → (run q steps cpu).mem b ≡ cpu.mem b

module _ (q : ℕ) (q_small : q < 256) (t : Bool) where
  abbrev p0 : ℕ
  p0 = 0x100 + q % 256

  abbrev p1 : ℕ
  p1 = 0x100 + (q + 255) % 256

  abbrev inner : ℕ
  inner = (q + 254) % 256

  out0 : (in_page p0 ≡ false) × (in_code p0 ≡ false)
  out0 = on_stack p0 (omega arith) (omega arith)

  out1 : (in_page p1 ≡ false) × (in_code p1 ≡ false)
  out1 = on_stack p1 (omega arith) (omega arith)

  module _ (a x y : ℕ) (n z c v d i : Bool) (mem flags : ℕ → ℕ) (log : List Access) where
    abbrev page : Bool → List ℕ
    page t = page_of (phase_of t) (mem 0x11) (mem 0x12) (mem 0x13) (mem 0x14) (mem 0x15) (mem 0x16) (mem 0x17) (mem 0x18)
        (mem 0x19) (mem 0x1A)

    abbrev stacked : ℕ → ℕ
    stacked = put p1 0x64 (put p0 0x68 mem)

    abbrev log' : List Access
    log' = Writes p1 0x64 ∷ Writes p0 0x68 ∷ log

    abbrev from : Cpu
    from = at 0x6862 a x y q n z c v d i (laid (page t) mem) flags log

    abbrev start : Bool → Cpu
    start t = at 0x686A a x y inner n z c v d i (laid (page t) stacked) flags log'

    called : run q 1 from ≡ start t
    called = ap (λ m. at 0x686A a x y inner n z c v d i m flags log')
        (ap (put p1 0x64) (put_out p0 0x68 (page t) mem out0.0 out0.1)
        ∙ put_out p1 0x64 (page t) (put p0 0x68 mem) out1.0 out1.1)

    quiet : seen log' ≡ seen log
    quiet =
        let e1 : nat_le 0x200 p1 ≡ false = le_not 0x200 p1 (omega arith) in
        let e0 : nat_le 0x200 p0 ≡ false = le_not 0x200 p0 (omega arith) in
        ap (λ (t : Bool). if t then Writes p1 0x64 ∷ seen (Writes p0 0x68 ∷ log) else seen (Writes p0 0x68 ∷ log)) e1
        ∙ ap (λ (t : Bool). if t then Writes p0 0x68 ∷ seen log else seen log) e0

    abbrev fin : Bool → Cpu
    fin t = run q (steps_of t) (start t)

    fin_pc : (t : Bool) → (fin t).pc ≡ 0x6889
    fin_pc true = refl
    fin_pc false = refl

    fin_s : (t : Bool) → (fin t).s ≡ inner
    fin_s true = refl
    fin_s false = refl

    fin_mem : (t : Bool) → (fin t).mem ≡ laid (page t) stacked
    fin_mem true = refl
    fin_mem false = refl

    fin_log : (t : Bool) → seen (fin t).log ≡ seen log'
    fin_log true = refl
    fin_log false = refl

    not_q : nat_eq (fin t).s q ≡ false
    not_q = ap (λ s. nat_eq s q) (fin_s t) ∙ ne_eqb inner q (λ same. absurd (omega arith))

    opcode : (fin t).mem (fin t).pc ≡ 0x60
    opcode = ap (λ (m : ℕ → ℕ). m (fin t).pc) (fin_mem t) ∙ ap (laid (page t) stacked) (fin_pc t)

    low_back : (fin t).mem (0x100 + ((fin t).s + 1) % 256) ≡ 0x64
    low_back =
        let s = fin_s t in
        let e : 0x100 + ((fin t).s + 1) % 256 ≡ p1 = omega (arith, s) in
        ap (fin t).mem e ∙ ap (λ (m : ℕ → ℕ). m p1) (fin_mem t)
        ∙ found p1 0x64 (page t) (put p0 0x68 mem) out1.0 out1.1

    high_back : (fin t).mem (0x100 + ((fin t).s + 2) % 256) ≡ 0x68
    high_back =
        let s = fin_s t in
        let e : 0x100 + ((fin t).s + 2) % 256 ≡ p0 = omega (arith, s) in
        ap (fin t).mem e ∙ ap (λ (m : ℕ → ℕ). m p0) (fin_mem t)
        ∙ past_low p1 0x64 (page t) (put p0 0x68 mem) out1.0 out1.1 p0 (λ same. absurd (omega arith))
        ∙ found p0 0x68 (page t) mem out0.0 out0.1

    abbrev end : Cpu
    end = does Return (fin t)

    ends : run q (1 + (steps_of t + 1)) from ≡ end
    ends = run_more q (steps_of t + 1) 1 from
        ∙ ap (run q 1) (run_more q 1 (steps_of t) from ∙ ap (run q (steps_of t)) called) ∙ rts q (fin t) opcode not_q

    ticked : Ticked q from
    ticked = record {
      steps = 1 + (steps_of t + 1);
      place = ap (λ (k : Cpu). k.pc) ends
          ∙ ap (λ l. (l + 256 * (fin t).mem (0x100 + ((fin t).s + 2) % 256) + 1) % 65536) low_back
          ∙ ap (λ h. (0x64 + 256 * h + 1) % 65536) high_back;
      stack = ap (λ (k : Cpu). k.s) ends ∙ (let s = fin_s t in omega (arith, s));
      shows = ap (λ (k : Cpu). seen k.log) ends ∙ fin_log t ∙ quiet;
      kept = λ b not0 not1. ap (λ (k : Cpu). k.mem b) ends ∙ ap (λ (m : ℕ → ℕ). m b) (fin_mem t)
          ∙ past_low p1 0x64 (page t) (put p0 0x68 mem) out1.0 out1.1 b not1
          ∙ past_low p0 0x68 (page t) mem out0.0 out0.1 b not0;
    }

  -- the same of any processor there
  tick_at : (cpu : Cpu) → cpu.pc ≡ 0x6862 → cpu.s ≡ q → HasCode cpu.mem → cpu.mem 0x10 ≡ phase_of t → Ticked q cpu
  tick_at cpu at_pc at_q has phase = subst (Ticked q)
      (ap (λ p. at 0x6862 cpu.a cpu.x cpu.y q cpu.n cpu.z cpu.c cpu.v cpu.d cpu.i (laid (page_of p (cpu.mem 0x11) (cpu.mem 0x12)
      (cpu.mem 0x13) (cpu.mem 0x14) (cpu.mem 0x15) (cpu.mem 0x16) (cpu.mem 0x17) (cpu.mem 0x18) (cpu.mem 0x19)
      (cpu.mem 0x1A)) cpu.mem) cpu.flags cpu.log) (sym phase)
      ∙ state_coded cpu 0x6862 q at_pc at_q has)
      (ticked cpu.a cpu.x cpu.y cpu.n cpu.z cpu.c cpu.v cpu.d cpu.i cpu.mem cpu.flags cpu.log)

  -- what the rest of the ticks leaves
  record Left (cpu : Cpu) : Type 0 where
    steps : ℕ
    returns : at_return q (run q steps cpu) ≡ true
    shows : seen (run q steps cpu).log ≡ seen cpu.log
    count : (run q steps cpu).mem 0x1F ≡ 0
    kept : (b : ℕ) → b ≢ 0x1F → b ≢ p0 → b ≢ p1 → (run q steps cpu).mem b ≡ cpu.mem b

  apart : (b : ℕ) → (b < 0x100) ⊎ (0x200 ≤ b) → (b ≢ p0) × (b ≢ p1)
  apart b (inl low) = ((λ same. absurd (omega (arith, low, same))), (λ same. absurd (omega (arith, low, same))))
  apart b (inr high) = ((λ same. absurd (omega (arith, high, same))), (λ same. absurd (omega (arith, high, same))))

  module _ (cpu : Cpu) (at_pc : cpu.pc ≡ 0x6862) (at_q : cpu.s ≡ q) (has : HasCode cpu.mem)
      (phase : cpu.mem 0x10 ≡ phase_of t) where
    tick : Ticked q cpu
    tick = tick_at cpu at_pc at_q has phase

    abbrev mid : Cpu
    mid = run q tick.steps cpu

    same : (b : ℕ) → (b < 0x100) ⊎ (0x200 ≤ b) → mid.mem b ≡ cpu.mem b
    same b is = let away = apart b is in tick.kept b away.0 away.1

    mid_has : HasCode mid.mem
    mid_has = λ i h. same (0x6800 + i) (inr (omega arith)) ∙ has i h

    mid_is : at 0x6865 mid.a mid.x mid.y q mid.n mid.z mid.c mid.v mid.d mid.i (laid (page_in mid.mem) mid.mem) mid.flags mid.log ≡ mid
    mid_is = state_coded mid 0x6865 q tick.place tick.stack mid_has

    abbrev r : ℕ
    r = (mid.mem 0x1F + 255) % 256

    abbrev counted : ℕ → Bool → Cpu
    counted pc z = then_at q mid.a mid.x mid.y mid.n mid.z mid.c mid.v mid.d mid.i mid.mem mid.flags mid.log pc z

    -- of memory the count alone is changed
    past_count : (b : ℕ) → b ≢ 0x1F → laid (page_in mid.mem) (put 0x1F r mid.mem) b ≡ mid.mem b
    past_count b not = past_low 0x1F r (page_in mid.mem) mid.mem refl refl b not
        ∙ sym (ap (λ (m : ℕ → ℕ). m b) (code_known mid.mem mid_has))

    last_left : nat_eq r 0 ≡ true → Left cpu
    last_left none =
        let is = ap (run q 2) (sym mid_is)
        ∙ last q mid.a mid.x mid.y mid.n mid.z mid.c mid.v mid.d mid.i mid.mem mid.flags mid.log none in
        let on = run_more q tick.steps 2 cpu ∙ is in
        record {
          steps = 2 + tick.steps;
          returns = ap (at_return q) on ∙ returned q (counted 0x6869 true) refl refl;
          shows = ap (λ (k : Cpu). seen k.log) on ∙ tick.shows;
          count = ap (λ (k : Cpu). k.mem 0x1F) on ∙ eqb-true r 0 none;
          kept = λ b not_count not0 not1. ap (λ (k : Cpu). k.mem b) on ∙ past_count b not_count ∙ tick.kept b not0 not1;
        }

    more_left : nat_eq r 0 ≡ false → Left (counted 0x6862 false) → Left cpu
    more_left some rest =
        let is = ap (run q 2) (sym mid_is)
        ∙ again q mid.a mid.x mid.y mid.n mid.z mid.c mid.v mid.d mid.i mid.mem mid.flags mid.log some in
        let on = run_more q (2 + tick.steps) rest.steps cpu ∙ ap (run q rest.steps) (run_more q tick.steps 2 cpu ∙ is) in
        record {
          steps = rest.steps + (2 + tick.steps);
          returns = ap (at_return q) on ∙ rest.returns;
          shows = ap (λ (k : Cpu). seen k.log) on ∙ rest.shows ∙ tick.shows;
          count = ap (λ (k : Cpu). k.mem 0x1F) on ∙ rest.count;
          kept = λ b not_count not0 not1. ap (λ (k : Cpu). k.mem b) on ∙ rest.kept b not_count not0 not1
              ∙ past_count b not_count ∙ tick.kept b not0 not1;
        }

    next_has : HasCode (counted 0x6862 false).mem
    next_has = λ i h. past_count (0x6800 + i) (λ same. absurd (omega (arith, same))) ∙ mid_has i h

    next_phase : (counted 0x6862 false).mem 0x10 ≡ phase_of t
    next_phase = same 0x10 (inl (omega arith)) ∙ phase

  ticks_leave : (n : ℕ) (cpu : Cpu) → n ≤ 255 → cpu.pc ≡ 0x6862 → cpu.s ≡ q → HasCode cpu.mem
      → cpu.mem 0x10 ≡ phase_of t → cpu.mem 0x1F ≡ suc n % 256 → Left cpu
  ticks_leave zero cpu most at_pc at_q has phase count = last_left cpu at_pc at_q has phase
      (ap (λ m. nat_eq ((m + 255) % 256) 0) (same cpu at_pc at_q has phase 0x1F (inl (omega arith)) ∙ count))
  ticks_leave (suc n) cpu most at_pc at_q has phase count =
      let is = same cpu at_pc at_q has phase 0x1F (inl (omega arith)) ∙ count in
      let down = lower n _ is most in
      more_left cpu at_pc at_q has phase (ne_eqb _ 0 (not_last n _ is most))
      (ticks_leave n (counted cpu at_pc at_q has phase 0x6862 false) (omega (arith, most)) refl refl
      (next_has cpu at_pc at_q has phase) (next_phase cpu at_pc at_q has phase) down)

ticks_idle_at : (t : Bool) (cpu : Cpu) → Enters cpu 0x6860 → cpu.mem 0x10 ≡ phase_of t → IdlesAll cpu
ticks_idle_at t cpu enters phase = record {
  steps = left.steps + 1;
  returns = ap (at_return cpu.s) on ∙ left.returns;
  shows = ap (λ (k : Cpu). seen k.log) on ∙ left.shows ∙ ap seen enters.log;
  count = ap (λ (k : Cpu). k.mem 0x1F) on ∙ left.count;
  kept = λ b not_count not0 not1. ap (λ (k : Cpu). k.mem b) on ∙ left.kept b not_count not0 not1 ∙ past b not_count;
}
  where
    from : Cpu
    from = at 0x6860 cpu.a cpu.x cpu.y cpu.s cpu.n cpu.z cpu.c cpu.v cpu.d cpu.i (laid (page_in cpu.mem) cpu.mem) cpu.flags cpu.log

    from_is : from ≡ cpu
    from_is = state_coded cpu 0x6860 cpu.s enters.entry refl enters.loaded.code

    next : Cpu
    next = at 0x6862 cpu.a cpu.x cpu.y cpu.s cpu.n cpu.z cpu.c cpu.v cpu.d cpu.i (laid (page_in cpu.mem) (put 0x1F cpu.a cpu.mem))
        cpu.flags (Writes 0x1F cpu.a ∷ cpu.log)

    stored : run cpu.s 1 from ≡ next
    stored = ap (λ m. at 0x6862 cpu.a cpu.x cpu.y cpu.s cpu.n cpu.z cpu.c cpu.v cpu.d cpu.i m cpu.flags (Writes 0x1F cpu.a ∷ cpu.log))
        (put_out 0x1F cpu.a (page_in cpu.mem) cpu.mem refl refl)

    past : (b : ℕ) → b ≢ 0x1F → next.mem b ≡ cpu.mem b
    past b not = past_low 0x1F cpu.a (page_in cpu.mem) cpu.mem refl refl b not
        ∙ sym (ap (λ (m : ℕ → ℕ). m b) (code_known cpu.mem enters.loaded.code))

    left : Left cpu.s enters.s t next
    left = ticks_leave cpu.s enters.s t ((cpu.a + 255) % 256) next (omega arith) refl refl
        (λ i h. past (0x6800 + i) (λ same. absurd (omega (arith, same))) ∙ enters.loaded.code i h) phase
        (let a = enters.a in omega (arith, a))

    on : run cpu.s (left.steps + 1) cpu ≡ run cpu.s left.steps next
    on = ap (run cpu.s (left.steps + 1)) (sym from_is) ∙ run_more cpu.s 1 left.steps from
        ∙ ap (run cpu.s left.steps) stored

pub idle_ticks_all : IdleTicksAll
idle_ticks_all cpu enters (inl is) = ticks_idle_at true cpu enters is
idle_ticks_all cpu enters (inr is) = ticks_idle_at false cpu enters is
