-- Runs amid interrupts.
use Rattle.std.proofs.Common.{◌≡◌, ℕ, zero, suc, inl, inr, ◌+◌, ◌/◌, ◌%◌, Bool, true, false, not, List, [], ◌∷◌, refl, sym}
use Rattle.std.proofs.Common.{ap, ◌∙◌, subst, arith, eqb-true, eq-eqb}
use Rattle.std.specs.Prelude.{nat_eq, ◌&&◌, ◌||◌, ◌⊎◌, if◌then◌else◌}
use Rattle.dvg_calls_6502.specs.Processor.{Cpu, Instr, Mode, Immediate, ZeroPage, ZeroPageX, Absolute, IndirectIndexed, Load}
use Rattle.dvg_calls_6502.specs.Processor.{Store, Transfer, And, Or, Xor, Compare, TestBits, Change, Step}
use Rattle.dvg_calls_6502.specs.Processor.{Branch, Jump, Call, Return, Unknown}
use Rattle.dvg_calls_6502.specs.Processor.{Register, A, X, Y, put, decoded, opcodes, does, stack_place, step, turn, run, at_return}
use Rattle.dvg_calls_6502.specs.Processor.{reading, setting}
use Rattle.dvg_calls_6502.specs.Processor.{ZeroPageY, AbsoluteX, AbsoluteY, IndexedIndirect, Add, Subtract, ShiftAt, ShiftA}
use Rattle.dvg_calls_6502.specs.Processor.{Set, JumpAt, PushA, PushFlags, PullA, PullFlags, FromStack, ToStack, Resume}
use Rattle.dvg_calls_6502.specs.Processor.{Pass, Flag, Negative, Zero, Carry, Overflow, Decimal, Interrupt, flagging}
use Rattle.dvg_calls_6502.proofs.Memory.{both_true}
use Rattle.dvg_calls_6502.specs.Amid.{changed, touches, amid, AreHarmless, guards, all_in, goes_home, is_steady}
use Rattle.dvg_calls_6502.specs.Amid.{are_steady, CameOut}
use Rattle.dvg_calls_6502.proofs.AmidStep.{Agree, stepped, does_same}
use Rattle.std.proofs.lemmas.Bool.{or_left as left_true, or_cases as either}

-- guarded bytes agree
pub all_agree : (m mem : ℕ → ℕ) (guard : ℕ → Bool) (bs : List ℕ) → ((b : ℕ) → guard b ≡ true → m b ≡ mem b)
    → all_in guard bs ≡ true → Agree m mem bs
all_agree m mem guard [] same is = tt
all_agree m mem guard (b ∷ bs) same is = let two = both_true (guard b) (all_in guard bs) is in
    (same b two.0, all_agree m mem guard bs same two.1)

-- which instructions change S
abbrev moves : Instr → Bool
moves Call = true
moves Return = true
moves PushA = true
moves PushFlags = true
moves PullA = true
moves PullFlags = true
moves ToStack = true
moves Resume = true
moves instr = false

set_s : (r : Register) (v : ℕ) (k : Cpu) → (setting r v k).s ≡ k.s
set_s A v k = refl
set_s _ v k = refl

read_s : (mode : Mode) (cpu : Cpu) → (reading mode cpu).s ≡ cpu.s
read_s Immediate cpu = refl
read_s _ cpu = refl

flag_s : (f : Flag) (to : Bool) (k : Cpu) → (flagging f to k).s ≡ k.s
flag_s Negative to k = refl
flag_s _ to k = refl

s_stays : (i : Instr) (cpu : Cpu) → moves i ≡ false → (does i cpu).s ≡ cpu.s
s_stays (Load r mode) cpu is = set_s r _ (reading mode cpu) ∙ read_s mode cpu
s_stays (Transfer r t) cpu is = set_s t _ (record cpu { pc = cpu.pc + 1 })
s_stays (And mode) cpu is = read_s mode cpu
s_stays (Or mode) cpu is = read_s mode cpu
s_stays (Xor mode) cpu is = read_s mode cpu
s_stays (Add mode) cpu is = read_s mode cpu
s_stays (Subtract mode) cpu is = read_s mode cpu
s_stays (Compare r mode) cpu is = read_s mode cpu
s_stays (TestBits mode) cpu is = read_s mode cpu
s_stays (Change mode by) cpu is = read_s mode cpu
s_stays (Step r by) cpu is = set_s r _ (record cpu { pc = cpu.pc + 1 })
s_stays (ShiftAt shift mode) cpu is = read_s mode cpu
s_stays (Set flag to) cpu is = flag_s flag to (record cpu { pc = cpu.pc + 1 })
s_stays Call cpu is = absurd (cc)
s_stays Return cpu is = absurd (cc)
s_stays PushA cpu is = absurd (cc)
s_stays PushFlags cpu is = absurd (cc)
s_stays PullA cpu is = absurd (cc)
s_stays PullFlags cpu is = absurd (cc)
s_stays ToStack cpu is = absurd (cc)
s_stays Resume cpu is = absurd (cc)
s_stays _ cpu is = refl

neither : (t u : Bool) → (not t && u) ≡ true → t ≡ true → ⊥
neither true u is t = absurd (cc)
neither false u is t = absurd (cc)

put_there : (p v : ℕ) (mem : ℕ → ℕ) (b : ℕ) → b ≡ p → put p v mem b ≡ v
put_there p v mem b same = ap (λ (t : Bool). if t then v else mem b) (eq-eqb b p same)

module _ (kept : ℕ → Bool) (s : ℕ) (cpu : Cpu) (m : ℕ → ℕ)
    (agrees : (b : ℕ) → guards kept s cpu.s b ≡ true → m b ≡ cpu.mem b) where
  abbrev it : Cpu
  it = changed m cpu

  -- what is kept all along
  kept_agrees : (b : ℕ) → kept b ≡ true → m b ≡ cpu.mem b
  kept_agrees b is = agrees b (left_true (kept b) _ is)

  -- the claim: after an instruction the guarded bytes agree
  abbrev Grows : Instr → Type 0
  Grows i = Agree m cpu.mem (touches i cpu) → goes_home s i cpu ≡ true → (b : ℕ)
      → guards kept s (does i cpu).s b ≡ true → (does i it).mem b ≡ (does i cpu).mem b

  agree_after : (i : Instr) → Agree m cpu.mem (touches i cpu) → (b : ℕ) → m b ≡ cpu.mem b
      → (does i it).mem b ≡ (does i cpu).mem b
  agree_after i e b same = let did = does_same cpu m i e in ap (λ (k : Cpu). k.mem b) did.same ∙ did.keeps b same

  flat : (i : Instr) → moves i ≡ false → Grows i
  flat i not e home b is =
      agree_after i e b (agrees b (subst (λ now. guards kept s now b ≡ true) (s_stays i cpu not) is))

  abbrev up : ℕ
  up = (cpu.s + 2) % 256

  abbrev down : ℕ
  down = (cpu.s + 254) % 256

  abbrev low : ℕ
  low = (cpu.pc + 2) % 256

  abbrev high : ℕ
  high = (cpu.pc + 2) / 256

  abbrev p1 : ℕ
  p1 = stack_place (cpu.s + 255)

  abbrev p0 : ℕ
  p0 = stack_place cpu.s

  back : Grows Return
  back e home b is = agree_after Return e b (still (either (kept b) _ is))
    where
      still : (kept b ≡ true)
          ⊎ ((not (nat_eq up s) && (nat_eq b (stack_place (up + 1)) || nat_eq b (stack_place (up + 2)))) ≡ true)
          → m b ≡ cpu.mem b
      still (inl is) = kept_agrees b is
      still (inr is) = absurd (neither (nat_eq up s) _ is home)

  pushes : Grows Call
  pushes e home b is = by (either (kept b) _ is)
    where
      on : (m : ℕ → ℕ) → (b ≡ p1) ⊎ (b ≡ p0) → put p1 low (put p0 high m) b ≡ put p1 low (put p0 high (λ b. 0)) b
      on m (inl same) = put_there p1 low (put p0 high m) b same ∙ sym (put_there p1 low (put p0 high (λ b. 0)) b same)
      on m (inr same) = ap (λ (k : ℕ). if nat_eq b p1 then low else k)
          (put_there p0 high m b same ∙ sym (put_there p0 high (λ b. 0) b same))

      place : (not (nat_eq down s) && (nat_eq b (stack_place (down + 1)) || nat_eq b (stack_place (down + 2)))) ≡ true
          → (b ≡ p1) ⊎ (b ≡ p0)
      place is = which (either (nat_eq b (stack_place (down + 1))) (nat_eq b (stack_place (down + 2)))
          (both_true (not (nat_eq down s)) _ is).1)
        where
          which : (nat_eq b (stack_place (down + 1)) ≡ true) ⊎ (nat_eq b (stack_place (down + 2)) ≡ true)
              → (b ≡ p1) ⊎ (b ≡ p0)
          which (inl is) = let same = eqb-true b (stack_place (down + 1)) is in inl (omega arith)
          which (inr is) = let same = eqb-true b (stack_place (down + 2)) is in inr (omega arith)

      by : (kept b ≡ true)
          ⊎ ((not (nat_eq down s) && (nat_eq b (stack_place (down + 1)) || nat_eq b (stack_place (down + 2)))) ≡ true)
          → (does Call it).mem b ≡ (does Call cpu).mem b
      by (inl is) = agree_after Call e b (kept_agrees b is)
      by (inr is) = let there = place is in on m there ∙ sym (on cpu.mem there)

  grows : (i : Instr) → Grows i
  grows Call = pushes
  grows Return = back
  grows (Load r mode) = flat (Load r mode) refl
  grows (Store r mode) = flat (Store r mode) refl
  grows (Transfer r t) = flat (Transfer r t) refl
  grows (And mode) = flat (And mode) refl
  grows (Or mode) = flat (Or mode) refl
  grows (Xor mode) = flat (Xor mode) refl
  grows (Add mode) = flat (Add mode) refl
  grows (Subtract mode) = flat (Subtract mode) refl
  grows (Compare r mode) = flat (Compare r mode) refl
  grows (TestBits mode) = flat (TestBits mode) refl
  grows (Change mode by) = flat (Change mode by) refl
  grows (Step r by) = flat (Step r by) refl
  grows (ShiftAt shift mode) = flat (ShiftAt shift mode) refl
  grows (ShiftA shift) = flat (ShiftA shift) refl
  grows (Set flag to) = flat (Set flag to) refl
  grows (Branch flag when) = flat (Branch flag when) refl
  grows Jump = flat Jump refl
  grows JumpAt = flat JumpAt refl
  grows FromStack = flat FromStack refl
  grows Pass = flat Pass refl
  grows Unknown = flat Unknown refl
  grows _ = λ e home b is. absurd (cc)

  -- a step of a call amid others comes out as without them
  pub turned : is_steady kept s cpu ≡ true → CameOut (guards kept s) (turn s cpu) (turn s it)
  turned is = by (at_return s cpu) refl
    where
      two : (kept cpu.pc ≡ true) × ((at_return s cpu || (all_in (guards kept s cpu.s)
          (touches (decoded opcodes (cpu.mem cpu.pc)) cpu) && goes_home s (decoded opcodes (cpu.mem cpu.pc)) cpu)) ≡ true)
      two = both_true (kept cpu.pc) _ is

      opcode : m cpu.pc ≡ cpu.mem cpu.pc
      opcode = kept_agrees cpu.pc two.0

      by : (t : Bool) → at_return s cpu ≡ t → CameOut (guards kept s) (turn s cpu) (turn s it)
      by t at = ends t at (ap (λ b. nat_eq b 0x60 && nat_eq cpu.s s) opcode ∙ at)
        where
          ends : (t : Bool) → at_return s cpu ≡ t → at_return s it ≡ t
              → CameOut (guards kept s) (turn s cpu) (turn s it)
          ends true at also = subst (λ (k : Cpu). CameOut (guards kept s) k (turn s it))
              (sym (ap (λ (t : Bool). if t then cpu else step cpu) at))
              (subst (CameOut (guards kept s) cpu) (sym (ap (λ (t : Bool). if t then it else step it) also))
              (record { memory = m; same = refl; keeps = agrees }))
          ends false at also =
              let rest = both_true (all_in (guards kept s cpu.s) (touches (decoded opcodes (cpu.mem cpu.pc)) cpu))
              (goes_home s (decoded opcodes (cpu.mem cpu.pc)) cpu)
              (ap (λ (t : Bool). t || (all_in (guards kept s cpu.s) (touches (decoded opcodes (cpu.mem cpu.pc)) cpu)
              && goes_home s (decoded opcodes (cpu.mem cpu.pc)) cpu)) (sym at) ∙ two.1) in
              let e = all_agree m cpu.mem (guards kept s cpu.s) _ agrees rest.0 in
              let did = stepped cpu m opcode e in
              subst (λ (k : Cpu). CameOut (guards kept s) k (turn s it))
              (sym (ap (λ (t : Bool). if t then cpu else step cpu) at))
              (subst (CameOut (guards kept s) (step cpu))
              (sym (ap (λ (t : Bool). if t then it else step it) also))
              (record {
                memory = (step it).mem;
                same = did.same ∙ ap (λ m'. changed m' (step cpu)) (sym (ap (λ (k : Cpu). k.mem) did.same));
                keeps = λ b is. ap (λ (o : ℕ). (does (decoded opcodes o) it).mem b) opcode
                    ∙ grows (decoded opcodes (cpu.mem cpu.pc)) e rest.1 b is;
              }))

-- a call amid others comes out as without them
pub came_out : (kept : ℕ → Bool) (s n : ℕ) (cpu : Cpu) (m : ℕ → ℕ) (others : ℕ → ℕ → ℕ)
    → ((b : ℕ) → guards kept s cpu.s b ≡ true → m b ≡ cpu.mem b) → are_steady kept s n cpu ≡ true
    → AreHarmless (guards kept s) s others n (changed m cpu)
    → CameOut (guards kept s) (run s n cpu) (amid s others n (changed m cpu))
came_out kept s zero cpu m others agrees is harmless = record { memory = m; same = refl; keeps = agrees }
came_out kept s (suc n) cpu m others agrees is harmless =
    let two = both_true (is_steady kept s cpu) (are_steady kept s n (turn s cpu)) is in
    let now : ((b : ℕ) → guards kept s cpu.s b ≡ true → others 0 b ≡ cpu.mem b) =
    λ b is. harmless.0 b is ∙ agrees b is in
    let did = turned kept s cpu (others 0) now two.0 in
    subst (λ (k : Cpu). CameOut (guards kept s) (run s n (turn s cpu)) (amid s (λ j. others (suc j)) n k))
    (sym did.same)
    (came_out kept s n (turn s cpu) did.memory (λ j. others (suc j)) did.keeps two.1
    (subst (AreHarmless (guards kept s) s (λ j. others (suc j)) n) did.same harmless.1))
