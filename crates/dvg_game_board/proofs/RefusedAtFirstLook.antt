-- A call that is refused at its first look has made no access of the hardware.
use Rattle.std.proofs.Common.{◌≡◌, ℕ, suc, ◌+◌, ◌<◌, ◌≤◌, Bool, true, false, List, [], ◌∷◌, refl, ap, ◌∙◌, subst, arith}
use Rattle.std.proofs.Common.{eqb-true, le-leb, leb-true}
use Rattle.std.specs.Prelude.{◌&&◌, nat_eq, nat_lt, if◌then◌else◌, length, slice_index}
use Rattle.std.proofs.lemmas.Bool.{or_left, or_right}
use Rattle.dvg_calls_6502.specs.Processor.{Cpu, Access, Reads, Register, A, X, Y, Load, ZeroPage, at_return, decoded, does}
use Rattle.dvg_calls_6502.specs.Processor.{opcodes, operand, step, turn}
use Rattle.dvg_calls_6502.specs.Amid.{AreHarmless, amid, changed, guards, is_code, is_kept, is_work}
use Rattle.dvg_calls_6502.specs.Board.{is_own, seen}
use Rattle.dvg_calls_6502.specs.Calls
use Rattle.dvg_calls_6502.specs.Calls.{Call, Routine, after, entry, finds_busy, is_refused, is_table, IsSessionBy}
use Rattle.dvg_calls_6502.specs.Code.{code}
use Rattle.dvg_calls_6502.specs.Programs.{CallBrings}
use Rattle.dvg_calls_6502.specs.Routines.{Put, Pair, Labs, Vector}
use Rattle.dvg_game_rules.proofs.Facts.{both_true}

-- the phase is none of the hardware
pass : (a byte : ℕ) (log : List Access) → a ≡ 0x10 → log ≡ [] → seen (Reads a byte ∷ log) ≡ []
pass a byte log place none = ap (λ q. seen (Reads q byte ∷ log)) place ∙ ap seen none

loaded : (r : Register) (cpu : Cpu) → cpu.mem (cpu.pc + 1) ≡ 0x10 → cpu.log ≡ []
    → seen (does (Load r ZeroPage) cpu).log ≡ []
loaded A cpu place none = pass (cpu.mem (cpu.pc + 1)) (operand ZeroPage cpu) cpu.log place none
loaded X cpu place none = pass (cpu.mem (cpu.pc + 1)) (operand ZeroPage cpu) cpu.log place none
loaded Y cpu place none = pass (cpu.mem (cpu.pc + 1)) (operand ZeroPage cpu) cpu.log place none

quiet_step : (s : ℕ) (r : Register) (cpu : Cpu) → decoded opcodes (cpu.mem cpu.pc) ≡ Load r ZeroPage
    → cpu.mem (cpu.pc + 1) ≡ 0x10 → cpu.log ≡ [] → seen (turn s cpu).log ≡ []
quiet_step s r cpu is place none = by (at_return s cpu)
  where
    by : (t : Bool) → seen (if t then cpu else step cpu).log ≡ []
    by true = ap seen none
    by false = ap (λ i. seen (does i cpu).log) is ∙ loaded r cpu place none

-- a routine that looks at the phase does so first
record Looks (routine : Routine) : Type 0 where
  i : ℕ
  register : Register
  place : entry routine ≡ 0x6800 + i
  few : i + 1 < length code
  opcode : decoded opcodes (slice_index code i) ≡ Load register ZeroPage
  operand : slice_index code (i + 1) ≡ 0x10

looks : (routine : Routine) (mem : ℕ → ℕ) → finds_busy routine mem ≡ true → Looks routine
looks Calls.Reset mem is = absurd (cc)
looks Calls.Tick mem is = absurd (cc)
looks Calls.Ticks mem is = absurd (cc)
looks Calls.Run mem is = absurd (cc)
looks (Calls.Offer F) mem is = record {
  i = 0xFE;
  register = Y;
  place = refl;
  few = leb-true (suc (0xFE + 1)) (length code) refl;
  opcode = refl;
  operand = refl;
}
looks Calls.Redraw mem is = record {
  i = 0x143;
  register = A;
  place = refl;
  few = leb-true (suc (0x143 + 1)) (length code) refl;
  opcode = refl;
  operand = refl;
}
looks (Calls.Open F) mem is = record {
  i = 0x124;
  register = Y;
  place = refl;
  few = leb-true (suc (0x124 + 1)) (length code) refl;
  opcode = refl;
  operand = refl;
}
looks (Calls.Puts Put) mem is = record {
  i = 0x157;
  register = Y;
  place = refl;
  few = leb-true (suc (0x157 + 1)) (length code) refl;
  opcode = refl;
  operand = refl;
}
looks (Calls.Puts Pair) mem is = record {
  i = 0x189;
  register = Y;
  place = refl;
  few = leb-true (suc (0x189 + 1)) (length code) refl;
  opcode = refl;
  operand = refl;
}
looks (Calls.Puts Labs) mem is = absurd (cc)
looks (Calls.Puts Vector) mem is = absurd (cc)
looks Calls.Close mem is = record {
  i = 0x200;
  register = Y;
  place = refl;
  few = leb-true (suc (0x200 + 1)) (length code) refl;
  opcode = refl;
  operand = refl;
}

code_ends : 0x6800 + length code ≤ 0x6A87
code_ends = leb-true (0x6800 + length code) 0x6A87 refl

pub refused_quiet : (R : List ℕ) (call : Call) (calls : List Call) → IsSessionBy (CallBrings R) (call ∷ calls)
    → is_refused call ≡ true → seen (after call).log ≡ []
refused_quiet R call calls session is =
    ap (λ n. seen (amid call.from.s call.others n call.from).log) once
    ∙ quiet_step call.from.s first.register (changed (call.others 0) call.from) opcode operand session.0.log
  where
    two : (nat_eq call.steps 1 ≡ true) × (finds_busy call.routine call.from.mem ≡ true)
    two = both_true (nat_eq call.steps 1) (finds_busy call.routine call.from.mem) is

    once : call.steps ≡ 1
    once = eqb-true call.steps 1 two.0

    first : Looks call.routine
    first = looks call.routine call.from.mem two.1

    harmless : AreHarmless (guards (is_kept (is_table call calls)) call.from.s) call.from.s call.others 1 call.from
    harmless = subst (λ n. AreHarmless (guards (is_kept (is_table call calls)) call.from.s) call.from.s call.others n call.from) once session.2

    same : (i : ℕ) → i < length code → call.others 0 (0x6800 + i) ≡ slice_index code i
    same i less = harmless.0 (0x6800 + i) (or_left (is_kept (is_table call calls) (0x6800 + i)) _
        (or_right (is_own (0x6800 + i)) _ (or_right (is_work (0x6800 + i)) _ (or_left (is_code (0x6800 + i)) _
        (let ends = code_ends in ap (λ t. t && nat_lt (0x6800 + i) 0x6A87) (le-leb 0x6800 (0x6800 + i) (omega arith))
        ∙ le-leb (suc (0x6800 + i)) 0x6A87 (omega (arith, less, ends)))))))
        ∙ session.0.loaded.code i less

    pc_is : call.from.pc ≡ 0x6800 + first.i
    pc_is = session.0.entry ∙ first.place

    opcode : decoded opcodes (call.others 0 call.from.pc) ≡ Load first.register ZeroPage
    opcode = ap (λ q. decoded opcodes (call.others 0 q)) pc_is
        ∙ ap (decoded opcodes) (same first.i (let few = first.few in omega (arith, few))) ∙ first.opcode

    operand : call.others 0 (call.from.pc + 1) ≡ 0x10
    operand = ap (λ q. call.others 0 (q + 1)) pc_is
        ∙ ap (call.others 0) (let e : 0x6800 + first.i + 1 ≡ 0x6800 + (first.i + 1) = omega arith in e)
        ∙ same (first.i + 1) first.few ∙ first.operand
