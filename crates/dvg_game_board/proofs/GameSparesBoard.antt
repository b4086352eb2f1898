-- An instruction of the game leaves the board alone, where the checker's soundness allows it.
use Rattle.std.proofs.Common.{◌≡◌, ◌⊎◌, inl, inr, ℕ, ◌+◌, ◌*◌, ◌/◌, ◌%◌, ◌<◌, ◌≤◌, Bool, true, false, List, [], ◌∷◌, refl}
use Rattle.std.proofs.Common.{ap, ◌∙◌, subst, arith, eqb-true}
use Rattle.std.specs.Prelude.{◌&&◌, ◌||◌, nat_eq, nat_le, nat_lt, if◌then◌else◌}
use Rattle.dvg_calls_6502.specs.Processor
use Rattle.dvg_calls_6502.specs.Processor.{Cpu, Access, Writes, Instr, Mode, Register, A, X, Y, stack_place}
use Rattle.dvg_calls_6502.specs.Processor.{reading, setting, next, writing, flagging, flags_byte}
use Rattle.dvg_calls_6502.specs.Board.{is_ram, strobe_place}
use Rattle.dvg_game_rules.specs.Kinds.{kind, storing}
use Rattle.dvg_game_rules.specs.Kinds as kinds
use Rattle.dvg_game_rules.specs.Machine.{State, address, is_operand, is_own}
use Rattle.dvg_game_rules.specs.Safe.{IsSafeBy, MayWrite}
use Rattle.dvg_game_rules.specs.Alike.{of_cpu}
use Rattle.dvg_game_rules.proofs.Facts.{both_true}
use Rattle.dvg_game_rules.proofs.Memory.{between, either, other}
use Rattle.dvg_game_rules.proofs.Safety.{IsBeside, beside_of}
use Rattle.dvg_game_6502.proofs.Guarded.{Free, free}
use Rattle.dvg_game_6502.specs.Play.{fresh}
use Rattle.dvg_game_board.specs.Cabinet.{written}

-- an address of the board that a write changes
abbrev pub is_board : ℕ → Bool
is_board a = is_ram a || nat_eq a strobe_place

-- it writes neither the vector RAM nor the strobe
pub record IsQuiet (cpu new : Cpu) : Type 0 where
  pub none : written new.log ≡ []
  pub ram : (b : ℕ) → is_ram b ≡ true → new.mem b ≡ cpu.mem b

-- low memory, and outputs
Aside : ℕ → Type 0
Aside a = (a < 0x3000) ⊎ ((0x3200 ≤ a) × (a < 0x4000))

aside : (a : ℕ) → Aside a → is_board a ≡ false
unfolding Aside
aside a where_is = by (is_board a) refl
  where
    ram : (0x4000 ≤ a) × (a < 0x4800) → Aside a → ⊥
    ram two (inl low) = let high = two.0 in omega (arith, low, high)
    ram two (inr out) = let high = two.0 in let low = out.1 in omega (arith, low, high)

    strobe : a ≡ 0x3000 → Aside a → ⊥
    strobe is (inl low) = omega (arith, low, is)
    strobe is (inr out) = let high = out.0 in omega (arith, high, is)

    no : (is_ram a ≡ true) ⊎ (nat_eq a strobe_place ≡ true) → ⊥
    no (inl is) = ram (between 0x4000 0x4800 a is) where_is
    no (inr is) = strobe (eqb-true a strobe_place is) where_is

    by : (t : Bool) → is_board a ≡ t → t ≡ false
    by true is = absurd (no (either (is_ram a) (nat_eq a strobe_place) is))
    by false is = refl

free_aside : (a : ℕ) → Free a → Aside a
unfolding Aside
free_aside a (inl low) = inl (omega (arith, low))
free_aside a (inr (inl page)) = let high = page.1 in inl (omega (arith, high))
free_aside a (inr (inr (inl ram))) = let high = ram.1 in inl (omega (arith, high))
free_aside a (inr (inr (inr out))) = inr out

may_aside : (st : State) (a : ℕ) → MayWrite st a → is_board a ≡ false
unfolding Aside
may_aside st a (inl is) = aside a (free_aside a (free a is))
may_aside st a (inr more) = one more.1
  where
    one : (is_operand a ≡ true) ⊎ ((is_own a ≡ true) × (st.calls ≡ [])) → is_board a ≡ false
    one (inl operand) = let high = (between 0x1B 0x1F a operand).1 in aside a (inl (omega (arith, high)))
    one (inr own) = let high = (between 0x10 0x21 a (both_true (nat_le 0x10 a && nat_lt a 0x21) _ own.0).0).1 in
        aside a (inl (omega (arith, high)))

stack_aside : (s : ℕ) → is_board (stack_place s) ≡ false
unfolding Aside
stack_aside s = aside (stack_place s) (inl (omega arith))

-- a byte beside the board is written
ram_apart : (a b : ℕ) → is_board a ≡ false → is_ram b ≡ true → b ≡ a → ⊥
ram_apart a b off is same = by (is_ram a) refl off
  where
    by : (t : Bool) → is_ram a ≡ t → (t || nat_eq a strobe_place) ≡ false → ⊥
    by true here out = cc
    by false here out = let there = subst (λ q. is_ram q ≡ true) same is in cc

written_one : (a byte : ℕ) (log : List Access) → is_board a ≡ false → written log ≡ [] → written (Writes a byte ∷ log) ≡ []
written_one a byte log off none =
    ap (λ (t : Bool). if t then Writes a byte ∷ written log else written log) off ∙ none

writes_quiet : (a byte : ℕ) (cpu one : Cpu) → is_board a ≡ false → IsQuiet cpu one → IsQuiet cpu (writing a byte one)
writes_quiet a byte cpu one off quiet = record {
  none = written_one a byte one.log off quiet.none;
  ram = λ b is. other a byte one.mem b (ram_apart a b off is) ∙ quiet.ram b is;
}

still : (cpu new : Cpu) → new.log ≡ [] → new.mem ≡ cpu.mem → IsQuiet cpu new
still cpu new log mem = record { none = ap written log; ram = λ b is. ap (λ (m : ℕ → ℕ). m b) mem }

-- a byte is read
read : (mode : Mode) (cpu : Cpu) → cpu.log ≡ [] → IsQuiet cpu (reading mode cpu)
read Processor.Immediate cpu none = record { none = ap written none; ram = λ b is. refl }
read _ cpu none = record { none = ap written none; ram = λ b is. refl }

-- with other registers and flags
set : (r : Register) (v : ℕ) (cpu one : Cpu) → IsQuiet cpu one → IsQuiet cpu (setting r v one)
set A v cpu one quiet = record { none = quiet.none; ram = quiet.ram }
set _ v cpu one quiet = record { none = quiet.none; ram = quiet.ram }

flagged : (flag : Processor.Flag) (to : Bool) (cpu one : Cpu) → IsQuiet cpu one → IsQuiet cpu (flagging flag to one)
flagged Processor.Negative to cpu one quiet = record { none = quiet.none; ram = quiet.ram }
flagged _ to cpu one quiet = record { none = quiet.none; ram = quiet.ram }

-- where a store writes, as the checker has it
stores : (mode : Mode) (cpu : Cpu) (st : State) → cpu.x < 256 → cpu.y < 256 → IsBeside (storing mode) (of_cpu cpu st)
    → is_board (Processor.address mode cpu) ≡ false
stores Processor.ZeroPage cpu st x y safe = may_aside (of_cpu cpu st) (Processor.address Processor.ZeroPage cpu) (safe 0)
stores Processor.ZeroPageX cpu st x y safe =
    may_aside (of_cpu cpu st) (Processor.address Processor.ZeroPageX cpu) (safe cpu.x)
stores Processor.ZeroPageY cpu st x y safe =
    may_aside (of_cpu cpu st) (Processor.address Processor.ZeroPageY cpu) (safe cpu.y)
stores Processor.Absolute cpu st x y safe = subst (λ q. is_board (cpu.mem (cpu.pc + 1) + 256 * cpu.mem q) ≡ false)
    (let e : cpu.pc + 1 + 1 ≡ cpu.pc + 2 = omega arith in e)
    (may_aside (of_cpu cpu st) (address kinds.Absolute cpu.mem cpu.pc 0) (safe 0))
stores Processor.AbsoluteX cpu st x y safe = subst (λ q. is_board q ≡ false)
    (ap (λ i. (cpu.mem (cpu.pc + 1) + 256 * cpu.mem (cpu.pc + 1 + 1) + i) % 65536)
    (let e : cpu.x % 256 ≡ cpu.x = omega (arith, x) in e)
    ∙ ap (λ q. (cpu.mem (cpu.pc + 1) + 256 * cpu.mem q + cpu.x) % 65536)
    (let e : cpu.pc + 1 + 1 ≡ cpu.pc + 2 = omega arith in e))
    (may_aside (of_cpu cpu st) (address kinds.AbsoluteIndexed cpu.mem cpu.pc cpu.x) (safe cpu.x))
stores Processor.AbsoluteY cpu st x y safe = subst (λ q. is_board q ≡ false)
    (ap (λ i. (cpu.mem (cpu.pc + 1) + 256 * cpu.mem (cpu.pc + 1 + 1) + i) % 65536)
    (let e : cpu.y % 256 ≡ cpu.y = omega (arith, y) in e)
    ∙ ap (λ q. (cpu.mem (cpu.pc + 1) + 256 * cpu.mem q + cpu.y) % 65536)
    (let e : cpu.pc + 1 + 1 ≡ cpu.pc + 2 = omega arith in e))
    (may_aside (of_cpu cpu st) (address kinds.AbsoluteIndexed cpu.mem cpu.pc cpu.y) (safe cpu.y))
stores _ cpu st x y safe = absurd safe

pub quiet_by : (i : Instr) (cpu : Cpu) (st : State) → cpu.log ≡ [] → cpu.x < 256 → cpu.y < 256
    → IsBeside (kind i) (of_cpu cpu st) → IsQuiet cpu (Processor.does i cpu)
quiet_by (Processor.Load r mode) cpu st none x y safe =
    set r (Processor.operand mode cpu) cpu (reading mode cpu) (read mode cpu none)
quiet_by (Processor.Store r mode) cpu st none x y safe =
    let one = writes_quiet (Processor.address mode cpu) (Processor.of_register r cpu) cpu cpu (stores mode cpu st x y safe)
    (still cpu cpu none refl) in record { none = one.none; ram = one.ram }
quiet_by (Processor.Transfer from to) cpu st none x y safe =
    set to (Processor.of_register from cpu) cpu (next 1 cpu) (still cpu (next 1 cpu) none refl)
quiet_by (Processor.And mode) cpu st none x y safe = let one = read mode cpu none in
    record { none = one.none; ram = one.ram }
quiet_by (Processor.Or mode) cpu st none x y safe = let one = read mode cpu none in
    record { none = one.none; ram = one.ram }
quiet_by (Processor.Xor mode) cpu st none x y safe = let one = read mode cpu none in
    record { none = one.none; ram = one.ram }
quiet_by (Processor.Add mode) cpu st none x y safe = let one = read mode cpu none in
    record { none = one.none; ram = one.ram }
quiet_by (Processor.Subtract mode) cpu st none x y safe = let one = read mode cpu none in
    record { none = one.none; ram = one.ram }
quiet_by (Processor.Compare r mode) cpu st none x y safe = let one = read mode cpu none in
    record { none = one.none; ram = one.ram }
quiet_by (Processor.TestBits mode) cpu st none x y safe = let one = read mode cpu none in
    record { none = one.none; ram = one.ram }
quiet_by (Processor.Change mode by) cpu st none x y safe =
    let one = writes_quiet (Processor.address mode cpu) ((Processor.operand mode cpu + by) % 256) cpu (reading mode cpu)
    (stores mode cpu st x y safe) (read mode cpu none) in record { none = one.none; ram = one.ram }
quiet_by (Processor.Step r by) cpu st none x y safe =
    set r ((Processor.of_register r cpu + by) % 256) cpu (next 1 cpu) (still cpu (next 1 cpu) none refl)
quiet_by (Processor.ShiftAt shift mode) cpu st none x y safe =
    let one = writes_quiet (Processor.address mode cpu)
    (Processor.shifted shift cpu.c (Processor.operand mode cpu)) cpu (reading mode cpu)
    (stores mode cpu st x y safe) (read mode cpu none) in record { none = one.none; ram = one.ram }
quiet_by (Processor.Set flag to) cpu st none x y safe =
    flagged flag to cpu (next 1 cpu) (still cpu (next 1 cpu) none refl)
quiet_by Processor.JumpAt cpu st none x y safe = absurd safe
quiet_by Processor.Call cpu st none x y safe =
    let one = writes_quiet (stack_place (cpu.s + 255)) ((cpu.pc + 2) % 256) cpu
    (writing (stack_place cpu.s) ((cpu.pc + 2) / 256) cpu) (stack_aside (cpu.s + 255))
    (writes_quiet (stack_place cpu.s) ((cpu.pc + 2) / 256) cpu cpu (stack_aside cpu.s) (still cpu cpu none refl)) in
    record { none = one.none; ram = one.ram }
quiet_by Processor.PushA cpu st none x y safe =
    let one = writes_quiet (stack_place cpu.s) cpu.a cpu (next 1 cpu) (stack_aside cpu.s) (still cpu (next 1 cpu) none refl) in
    record { none = one.none; ram = one.ram }
quiet_by Processor.PushFlags cpu st none x y safe =
    let one = writes_quiet (stack_place cpu.s) (flags_byte true cpu) cpu (next 1 cpu) (stack_aside cpu.s)
    (still cpu (next 1 cpu) none refl) in record { none = one.none; ram = one.ram }
quiet_by Processor.ToStack cpu st none x y safe = absurd safe
quiet_by Processor.Unknown cpu st none x y safe = absurd safe
quiet_by _ cpu st none x y safe = record { none = ap written none; ram = λ b is. refl }

-- each instruction of the game, or of its NMI
pub quiet : (cpu : Cpu) (st : State) (flags : ℕ → ℕ) → cpu.x < 256 → cpu.y < 256
    → IsSafeBy (kinds.kind_of (cpu.mem cpu.pc)) (of_cpu cpu st) → IsQuiet cpu (Processor.step (fresh flags cpu))
quiet cpu st flags x y safe =
    let is = quiet_by (Processor.decoded Processor.opcodes (cpu.mem cpu.pc)) (fresh flags cpu) st refl x y
    (beside_of (kinds.kind_of (cpu.mem cpu.pc)) (of_cpu cpu st) safe) in
    record { none = is.none; ram = is.ram }
