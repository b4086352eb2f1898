-- The RTI of an NMI's routine.
use Rattle.std.proofs.Common.{◌≡◌, ℕ, ◌+◌, ◌*◌, ◌/◌, ◌%◌, ◌<◌, Bool, true, false, refl, ap, ◌∙◌, arith, eq-eqb}
use Rattle.std.proofs.lemmas.Bool.{ne_eqb}
use Rattle.std.specs.Prelude.{nat_eq, if◌then◌else◌}
use Rattle.dvg_calls_6502.specs.Processor.{Cpu, bit_of, does, decoded, opcodes, flags_byte, interrupted, put, stack_place, has_bit}
use Rattle.dvg_calls_6502.specs.Interrupts.{InterruptReturns}

pub bit_small : (b : Bool) → bit_of b < 2
bit_small true = omega arith
bit_small false = omega arith

pub is_bit : (b : Bool) → nat_eq (bit_of b) 1 ≡ b
is_bit true = refl
is_bit false = refl

-- a bit of the flags' byte that was pushed is that flag
flag_back : (byte weight : ℕ) (flag : Bool) (pushed : ℕ) → byte ≡ pushed → pushed / weight % 2 ≡ bit_of flag
    → has_bit weight byte ≡ flag
flag_back byte weight flag pushed same has =
    ap (λ b. nat_eq (b / weight % 2) 1) same ∙ ap (λ b. nat_eq b 1) has ∙ is_bit flag

put_there : (a byte : ℕ) (mem : ℕ → ℕ) → put a byte mem a ≡ byte
put_there a byte mem = ap (λ (t : Bool). if t then byte else mem a) (eq-eqb a a refl)

put_beside : (a byte : ℕ) (mem : ℕ → ℕ) (b : ℕ) → nat_eq b a ≡ false → put a byte mem b ≡ mem b
put_beside a byte mem b e = ap (λ (t : Bool). if t then byte else mem b) e

module _ (cpu : Cpu) where
  abbrev top : ℕ
  top = stack_place (cpu.s + 254)

  abbrev mid : ℕ
  mid = stack_place (cpu.s + 255)

  abbrev low_put : ℕ → ℕ
  low_put = put mid (cpu.pc % 256) (put (stack_place cpu.s) (cpu.pc / 256) cpu.mem)

  -- what it pushed stands there
  flags_pushed : (interrupted cpu).mem top ≡ flags_byte false cpu
  flags_pushed = put_there top (flags_byte false cpu) low_put

  low_pushed : (interrupted cpu).mem mid ≡ cpu.pc % 256
  low_pushed = put_beside top (flags_byte false cpu) low_put mid (ne_eqb mid top (omega arith))
      ∙ put_there mid (cpu.pc % 256) (put (stack_place cpu.s) (cpu.pc / 256) cpu.mem)

  high_pushed : (interrupted cpu).mem (stack_place cpu.s) ≡ cpu.pc / 256
  high_pushed = put_beside top (flags_byte false cpu) low_put (stack_place cpu.s) (ne_eqb (stack_place cpu.s) top (omega arith))
      ∙ put_beside mid (cpu.pc % 256) (put (stack_place cpu.s) (cpu.pc / 256) cpu.mem) (stack_place cpu.s)
      (ne_eqb (stack_place cpu.s) mid (omega arith))
      ∙ put_there (stack_place cpu.s) (cpu.pc / 256) cpu.mem

pub interrupt_returns : InterruptReturns
interrupt_returns cpu now few below over =
    let e = over.s in
    let n_in = bit_small cpu.n in
    let v_in = bit_small cpu.v in
    let d_in = bit_small cpu.d in
    let i_in = bit_small cpu.i in
    let z_in = bit_small cpu.z in
    let c_in = bit_small cpu.c in
    let p1 : stack_place (now.s + 1) ≡ stack_place (cpu.s + 254) = omega arith in
    let p2 : stack_place (now.s + 2) ≡ stack_place (cpu.s + 255) = omega arith in
    let p3 : stack_place (now.s + 3) ≡ stack_place cpu.s = omega arith in
    let b1 : now.mem (stack_place (now.s + 1)) ≡ flags_byte false cpu = ap now.mem p1 ∙ over.flags ∙ flags_pushed cpu in
    let b2 : now.mem (stack_place (now.s + 2)) ≡ cpu.pc % 256 = ap now.mem p2 ∙ over.low ∙ low_pushed cpu in
    let b3 : now.mem (stack_place (now.s + 3)) ≡ cpu.pc / 256 = ap now.mem p3 ∙ over.high ∙ high_pushed cpu in
    let s : (now.s + 3) % 256 ≡ cpu.s = omega arith in
    let pc : now.mem (stack_place (now.s + 2)) + 256 * now.mem (stack_place (now.s + 3)) ≡ cpu.pc = omega arith in
    let n = flag_back _ 128 cpu.n (flags_byte false cpu) b1 (omega arith) in
    let v = flag_back _ 64 cpu.v (flags_byte false cpu) b1 (omega arith) in
    let d = flag_back _ 8 cpu.d (flags_byte false cpu) b1 (omega arith) in
    let i = flag_back _ 4 cpu.i (flags_byte false cpu) b1 (omega arith) in
    let z = flag_back _ 2 cpu.z (flags_byte false cpu) b1 (omega arith) in
    let c = flag_back _ 1 cpu.c (flags_byte false cpu) b1 (omega arith) in
    ap (λ b. does (decoded opcodes b) now) over.opcode
    ∙ (λ j. record now { s = s j; pc = pc j; n = n j; z = z j; c = c j; v = v j; d = d j; i = i j })
