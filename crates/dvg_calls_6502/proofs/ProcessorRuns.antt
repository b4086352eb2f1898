-- Runs of the processor.
use Rattle.std.proofs.Common.{◌≡◌, ℕ, zero, suc, ◌+◌, Bool, true, false, List, refl, sym, ap, ◌∙◌, subst, arith, eq-eqb}
use Rattle.std.specs.Prelude.{nat_eq, ◌&&◌}
use Rattle.dvg_calls_6502.specs.Processor.{Cpu, Access, run, turn, at_return}
use Rattle.dvg_calls_6502.specs.Board.{seen}
use Rattle.dvg_calls_6502.specs.Amid.{is_kept, is_code, is_steady, are_steady, all_in}
pub use Rattle.std.proofs.lemmas.Bool.{and_from as and_true}

-- the state of a processor
abbrev pub at : ℕ → (a x y s : ℕ) → (n z c v d i : Bool) → (ℕ → ℕ) → (ℕ → ℕ) → List Access → Cpu
at pc a x y s n z c v d i mem flags log = record {
  a = a;
  x = x;
  y = y;
  s = s;
  pc = pc;
  n = n;
  z = z;
  c = c;
  v = v;
  d = d;
  i = i;
  mem = mem;
  flags = flags;
  log = log;
}

abbrev times : {A : Type 0} → (A → A) → ℕ → A → A
times f zero a = a
times f (suc n) a = times f n (f a)

times_more : {A : Type 0} (f : A → A) (k n : ℕ) (a : A) → times f (n + k) a ≡ times f n (times f k a)
times_more f zero n a = let e : n + 0 ≡ n = omega arith in ap (λ j. times f j a) e
times_more f (suc k) n a =
    let e : n + suc k ≡ suc (n + k) = omega arith in ap (λ j. times f j a) e ∙ times_more f k n (f a)

run_times : (s n : ℕ) (cpu : Cpu) → run s n cpu ≡ times (turn s) n cpu
run_times s zero cpu = refl
run_times s (suc n) cpu = run_times s n (turn s cpu)

pub run_more : (s k n : ℕ) (cpu : Cpu) → run s (n + k) cpu ≡ run s n (run s k cpu)
run_more s k n cpu =
    run_times s (n + k) cpu ∙ times_more (turn s) k n cpu ∙ sym (run_times s n (times (turn s) k cpu))
    ∙ ap (run s n) (sym (run_times s k cpu))

-- both stretches take guarded bytes alone
pub steady_more : (kept : ℕ → Bool) (s k n : ℕ) (cpu : Cpu) → are_steady kept s k cpu ≡ true
    → are_steady kept s n (run s k cpu) ≡ true → are_steady kept s (n + k) cpu ≡ true
steady_more kept s zero n cpu one two =
    let e : n + 0 ≡ n = omega arith in ap (λ j. are_steady kept s j cpu) e ∙ two
steady_more kept s (suc k) n cpu one two =
    let e : n + suc k ≡ suc (n + k) = omega arith in
    let both = split (is_steady kept s cpu) (are_steady kept s k (turn s cpu)) one in
    ap (λ j. are_steady kept s j cpu) e
    ∙ and_true (is_steady kept s cpu) (are_steady kept s (n + k) (turn s cpu)) both.0
    (steady_more kept s k n (turn s cpu) both.1 two)
  where
    split : (t u : Bool) → (t && u) ≡ true → (t ≡ true) × (u ≡ true)
    split true u is = (refl, is)
    split false u is = absurd (cc)

-- the run comes to an RTS with S so, and with this memory, C and these accesses; what it takes of tables are these bytes
pub record Ends (q : ℕ) (from : Cpu) (s : ℕ) (mem : ℕ → ℕ) (events : List Access) (reads : List ℕ) : Type 0 where
  pub steps : ℕ
  pub returns : (run q steps from).mem (run q steps from).pc ≡ 0x60
  pub stack : (run q steps from).s ≡ s
  pub memory : (run q steps from).mem ≡ mem
  pub accesses : seen (run q steps from).log ≡ events
  pub steady : (tables : ℕ → Bool) → all_in tables reads ≡ true → are_steady (is_kept tables) q steps from ≡ true
  pub there : is_code (run q steps from).pc ≡ true

-- a stretch takes guarded bytes alone, and of tables these
abbrev pub IsSteady : (q k : ℕ) (reads : List ℕ) → Cpu → Type 0
IsSteady q k reads from = (tables : ℕ → Bool) → all_in tables reads ≡ true → are_steady (is_kept tables) q k from ≡ true

pub on : (q k : ℕ) (from mid : Cpu) (s : ℕ) (mem : ℕ → ℕ) (events : List Access) {reads : List ℕ} → run q k from ≡ mid
    → IsSteady q k reads from → Ends q mid s mem events reads → Ends q from s mem events reads
on q k from mid s mem events e steady ends =
    let both : run q (ends.steps + k) from ≡ run q ends.steps mid = run_more q k ends.steps from
    ∙ ap (run q ends.steps) e in
    record {
      steps = ends.steps + k;
      returns = ap (λ (cpu : Cpu). cpu.mem cpu.pc) both ∙ ends.returns;
      stack = ap (λ (cpu : Cpu). cpu.s) both ∙ ends.stack;
      memory = ap (λ (cpu : Cpu). cpu.mem) both ∙ ends.memory;
      accesses = ap (λ (cpu : Cpu). seen cpu.log) both ∙ ends.accesses;
      steady = λ tables is. steady_more (is_kept tables) q k ends.steps from (steady tables is)
          (ap (are_steady (is_kept tables) q ends.steps) e ∙ ends.steady tables is);
      there = ap (λ (cpu : Cpu). is_code cpu.pc) both ∙ ends.there;
    }

pub seen_as : (q : ℕ) (from : Cpu) (s : ℕ) (mem : ℕ → ℕ) (events also : List Access) {reads : List ℕ} → events ≡ also
    → Ends q from s mem events reads → Ends q from s mem also reads
seen_as q from s mem events also {reads = reads} e ends = subst (λ es. Ends q from s mem es reads) e ends

-- the same, with C
pub record Comes (q : ℕ) (from : Cpu) (s : ℕ) (c : Bool) (mem : ℕ → ℕ) (events : List Access) (reads : List ℕ) :
    Type 0 where
  pub steps : ℕ
  pub returns : (run q steps from).mem (run q steps from).pc ≡ 0x60
  pub stack : (run q steps from).s ≡ s
  pub carry : (run q steps from).c ≡ c
  pub memory : (run q steps from).mem ≡ mem
  pub accesses : seen (run q steps from).log ≡ events
  pub steady : (tables : ℕ → Bool) → all_in tables reads ≡ true → are_steady (is_kept tables) q steps from ≡ true
  pub there : is_code (run q steps from).pc ≡ true

pub by : (q k : ℕ) (from mid : Cpu) (s : ℕ) (c : Bool) (mem : ℕ → ℕ) (events : List Access) {reads : List ℕ}
    → run q k from ≡ mid → IsSteady q k reads from → Comes q mid s c mem events reads
    → Comes q from s c mem events reads
by q k from mid s c mem events e steady comes =
    let both : run q (comes.steps + k) from ≡ run q comes.steps mid = run_more q k comes.steps from
    ∙ ap (run q comes.steps) e in
    record {
      steps = comes.steps + k;
      returns = ap (λ (cpu : Cpu). cpu.mem cpu.pc) both ∙ comes.returns;
      stack = ap (λ (cpu : Cpu). cpu.s) both ∙ comes.stack;
      carry = ap (λ (cpu : Cpu). cpu.c) both ∙ comes.carry;
      memory = ap (λ (cpu : Cpu). cpu.mem) both ∙ comes.memory;
      accesses = ap (λ (cpu : Cpu). seen cpu.log) both ∙ comes.accesses;
      steady = λ tables is. steady_more (is_kept tables) q k comes.steps from (steady tables is)
          (ap (are_steady (is_kept tables) q comes.steps) e ∙ comes.steady tables is);
      there = ap (λ (cpu : Cpu). is_code cpu.pc) both ∙ comes.there;
    }

-- so many steps come there, by computing
pub ends : (steps : ℕ) {q : ℕ} {from : Cpu} {s : ℕ} {mem : ℕ → ℕ} {events : List Access} {reads : List ℕ}
    → (run q steps from).mem (run q steps from).pc ≡ 0x60 → (run q steps from).s ≡ s → seen (run q steps from).log ≡ events
    → is_code (run q steps from).pc ≡ true → IsSteady q steps reads from → (run q steps from).mem ≡ mem
    → Ends q from s mem events reads
ends steps returns stack accesses there steady memory = record {
  steps = steps;
  returns = returns;
  stack = stack;
  memory = memory;
  accesses = accesses;
  steady = steady;
  there = there;
}

pub comes : (steps : ℕ) {q : ℕ} {from : Cpu} {s : ℕ} {c : Bool} {mem : ℕ → ℕ} {events : List Access} {reads : List ℕ}
    → (run q steps from).mem (run q steps from).pc ≡ 0x60 → (run q steps from).s ≡ s → (run q steps from).c ≡ c
    → seen (run q steps from).log ≡ events → is_code (run q steps from).pc ≡ true → IsSteady q steps reads from
    → (run q steps from).mem ≡ mem → Comes q from s c mem events reads
comes steps returns stack carry accesses there steady memory = record {
  steps = steps;
  returns = returns;
  stack = stack;
  carry = carry;
  memory = memory;
  accesses = accesses;
  steady = steady;
  there = there;
}

-- at an RTS with S as it was
pub returned : (s : ℕ) (cpu : Cpu) → cpu.mem cpu.pc ≡ 0x60 → cpu.s ≡ s → at_return s cpu ≡ true
returned s cpu opcode stack =
    let p : nat_eq (cpu.mem cpu.pc) 0x60 ≡ true = ap (λ b. nat_eq b 0x60) opcode in
    let r : nat_eq cpu.s s ≡ true = ap (λ b. nat_eq b s) stack ∙ same s in
    ap (λ (t : Bool). t && nat_eq cpu.s s) p ∙ r
  where
    same : (s : ℕ) → nat_eq s s ≡ true
    same s = eq-eqb s s refl
