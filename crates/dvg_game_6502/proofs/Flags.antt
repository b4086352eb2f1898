-- What the flag will say is open: for each future after a step there is one before it.
use Rattle.std.proofs.Common.{◌≡◌, ℕ, zero, suc, ◌+◌, ◌-◌, ◌*◌, ◌%◌, Bool, true, false, ◌∷◌, refl, ap, ◌∙◌}
use Rattle.std.specs.Prelude.{nat_eq, bit_and, bit_or, bit_xor, nat_le, if◌then◌else◌}
use Rattle.dvg_calls_6502.specs.Processor.{Cpu, Instr, Mode, Register, A, X, Y, Flag, Shift, does}
use Rattle.dvg_calls_6502.specs.Processor.{Immediate, ZeroPage, ZeroPageX, ZeroPageY, Absolute, AbsoluteX, AbsoluteY}
use Rattle.dvg_calls_6502.specs.Processor.{IndexedIndirect, IndirectIndexed, Negative, Zero, Carry, Overflow, Decimal}
use Rattle.dvg_calls_6502.specs.Processor.{Interrupt}
use Rattle.dvg_calls_6502.specs.Processor.{Load, Store, Transfer, And, Or, Xor, Add, Subtract, Compare, TestBits, Change}
use Rattle.dvg_calls_6502.specs.Processor.{Step}
use Rattle.dvg_calls_6502.specs.Processor.{ShiftAt, ShiftA, Set, Branch, Jump, JumpAt, Call, Return, PushA, PushFlags, PullA}
use Rattle.dvg_calls_6502.specs.Processor.{PullFlags, FromStack, ToStack, Resume, Pass, Unknown, summing, subtracting, address, beside}
use Rattle.dvg_calls_6502.specs.Processor.{carrying}
use Rattle.dvg_calls_6502.specs.Processor.{flag_place, found, lost, next, of_register, operand, Reads, reading, reads}
use Rattle.dvg_calls_6502.specs.Processor.{setting, shifted, size, telling, writing}

-- with other answers of the flag from now on
abbrev pub told : (ℕ → ℕ) → Cpu → Cpu
told flags cpu = record cpu { flags = flags }

-- an answer before these
abbrev before : ℕ → (ℕ → ℕ) → ℕ → ℕ
before byte flags zero = byte
before byte flags (suc n) = flags n

-- what was to be said before a read, so that this is said after it
abbrev earlier : Bool → ℕ → (ℕ → ℕ) → ℕ → ℕ
earlier true byte flags = before byte flags
earlier false byte flags = flags

abbrev pub Opens : (Cpu → Cpu) → Cpu → (ℕ → ℕ) → Type 0
Opens f cpu flags = (first : ℕ → ℕ) × (f (told first cpu) ≡ told flags (f cpu))

byte_same : (t : Bool) (byte m : ℕ) (flags : ℕ → ℕ)
    → (if t then earlier t byte flags 0 else m) ≡ (if t then byte else m)
byte_same true byte m flags = refl
byte_same false byte m flags = refl

rest_same : (t : Bool) (byte : ℕ) (flags : ℕ → ℕ)
    → (if t then (λ n. earlier t byte flags (suc n)) else earlier t byte flags) ≡ flags
rest_same true byte flags = refl
rest_same false byte flags = refl

module _ (cpu : Cpu) (flags : ℕ → ℕ) where
  abbrev first : ℕ → ℕ → ℕ
  first a = earlier (nat_eq a flag_place) (cpu.flags 0) flags

  -- a byte is read, with this future after it
  found_same : (a : ℕ) → found a (told (first a) cpu) ≡ found a cpu
  found_same a = byte_same (nat_eq a flag_place) (cpu.flags 0) (cpu.mem a) flags

  read_same : (a : ℕ) → reads a (told (first a) cpu) ≡ told flags (reads a cpu)
  read_same a =
      ap (λ v. record cpu {
        flags = if nat_eq a flag_place then (λ n. first a (suc n)) else first a;
        log = Reads a v ∷ cpu.log;
      }) (found_same a)
      ∙ ap (λ (f : ℕ → ℕ). record cpu { flags = f; log = Reads a (found a cpu) ∷ cpu.log })
      (rest_same (nat_eq a flag_place) (cpu.flags 0) flags)

  -- what an instruction does that takes the byte at this address
  taken : (a bytes : ℕ) (rest : ℕ → Cpu → Cpu) → ((v : ℕ) (k : Cpu) → rest v (told flags k) ≡ told flags (rest v k))
      → (start : ℕ → ℕ) × (rest (found a (told start cpu)) (next bytes (reads a (told start cpu)))
      ≡ told flags (rest (found a cpu) (next bytes (reads a cpu))))
  taken a bytes rest same = (
    first a,
    ap (λ v. rest v (next bytes (reads a (told (first a) cpu)))) (found_same a)
        ∙ ap (λ k. rest (found a cpu) (next bytes k)) (read_same a) ∙ same (found a cpu) (next bytes (reads a cpu)),
  )

  via : (mode : Mode) (rest : ℕ → Cpu → Cpu) → ((v : ℕ) (k : Cpu) → rest v (told flags k) ≡ told flags (rest v k))
      → (start : ℕ → ℕ) × (rest (operand mode (told start cpu)) (reading mode (told start cpu))
      ≡ told flags (rest (operand mode cpu) (reading mode cpu)))
  via Immediate rest same = (flags, same (operand Immediate cpu) (reading Immediate cpu))
  via ZeroPage rest same = taken (address ZeroPage cpu) 2 rest same
  via ZeroPageX rest same = taken (address ZeroPageX cpu) 2 rest same
  via ZeroPageY rest same = taken (address ZeroPageY cpu) 2 rest same
  via Absolute rest same = taken (address Absolute cpu) 3 rest same
  via AbsoluteX rest same = taken (address AbsoluteX cpu) 3 rest same
  via AbsoluteY rest same = taken (address AbsoluteY cpu) 3 rest same
  via IndexedIndirect rest same = taken (address IndexedIndirect cpu) 2 rest same
  via IndirectIndexed rest same = taken (address IndirectIndexed cpu) 2 rest same

  same_address : (mode : Mode) (start : ℕ → ℕ) → address mode (told start cpu) ≡ address mode cpu
  same_address Immediate start = refl
  same_address _ start = refl

  same_register : (r : Register) → of_register r (told flags cpu) ≡ of_register r cpu
  same_register A = refl
  same_register _ = refl

  set_same : (r : Register) (v : ℕ) (k : Cpu) → setting r v (told flags k) ≡ told flags (setting r v k)
  set_same A v k = refl
  set_same _ v k = refl

  stored : (r : Register) (mode : Mode) → does (Store r mode) (told flags cpu) ≡ told flags (does (Store r mode) cpu)
  stored r mode =
      ap (λ a. next (size mode) (writing a (of_register r (told flags cpu)) (told flags cpu))) (same_address mode flags)
      ∙ ap (λ v. next (size mode) (writing (address mode cpu) v (told flags cpu))) (same_register r)

  compared : (r : Register) (mode : Mode) → Opens (does (Compare r mode)) cpu flags
  compared A mode = via mode (λ v k. carrying (nat_le v cpu.a) (telling ((cpu.a + 256 - v) % 256) k)) (λ v k. refl)
  compared X mode = via mode (λ v k. carrying (nat_le v cpu.x) (telling ((cpu.x + 256 - v) % 256) k)) (λ v k. refl)
  compared Y mode = via mode (λ v k. carrying (nat_le v cpu.y) (telling ((cpu.y + 256 - v) % 256) k)) (λ v k. refl)

  moved : (from to : Register) → does (Transfer from to) (told flags cpu) ≡ told flags (does (Transfer from to) cpu)
  moved A to = set_same to cpu.a (next 1 cpu)
  moved X to = set_same to cpu.x (next 1 cpu)
  moved Y to = set_same to cpu.y (next 1 cpu)

  stepped : (r : Register) (by : ℕ) → does (Step r by) (told flags cpu) ≡ told flags (does (Step r by) cpu)
  stepped A by = refl
  stepped _ by = refl

  flagged : (flag : Flag) (to : Bool) → does (Set flag to) (told flags cpu) ≡ told flags (does (Set flag to) cpu)
  flagged Negative to = refl
  flagged _ to = refl

  branched : (flag : Flag) (when : Bool)
      → does (Branch flag when) (told flags cpu) ≡ told flags (does (Branch flag when) cpu)
  branched Negative when = refl
  branched _ when = refl

  change : (mode : Mode) (by : ℕ) → Opens (does (Change mode by)) cpu flags
  change mode by =
      let on = via mode (λ v k. telling ((v + by) % 256) (writing (address mode cpu) ((v + by) % 256) k))
      (λ v k. refl) in (
        on.0,
        ap (λ a. let byte = (operand mode (told on.0 cpu) + by) % 256 in
            telling byte (writing a byte (reading mode (told on.0 cpu)))) (same_address mode on.0) ∙ on.1,
      )

  shift_at : (shift : Shift) (mode : Mode) → Opens (does (ShiftAt shift mode)) cpu flags
  shift_at shift mode =
      let on = via mode (λ v k. carrying (lost shift v) (telling (shifted shift cpu.c v)
      (writing (address mode cpu) (shifted shift cpu.c v) k))) (λ v k. refl) in (
        on.0,
        ap (λ a. let old = operand mode (told on.0 cpu) in let byte = shifted shift cpu.c old in
            carrying (lost shift old) (telling byte (writing a byte (reading mode (told on.0 cpu)))))
            (same_address mode on.0) ∙ on.1,
      )

  -- after JMP (abs), which reads two bytes, by whether these are the flag
  abbrev jumped_at : (t u : Bool) → (ℕ → ℕ) → Cpu
  jumped_at t u f =
      let one = if t then f 0 else cpu.mem (address Absolute cpu) in
      let after = if t then (λ n. f (suc n)) else f in
      let two = if u then after 0 else cpu.mem (beside cpu) in
      record cpu {
        pc = one + 256 * (if u then f 0 else cpu.mem (beside cpu));
        flags = if u then (λ n. after (suc n)) else after;
        log = Reads (beside cpu) two ∷ Reads (address Absolute cpu) one ∷ cpu.log;
      }

  jumped : Opens (does JumpAt) cpu flags
  jumped = by (nat_eq (address Absolute cpu) flag_place) (nat_eq (beside cpu) flag_place)
    where
      by : (t u : Bool) → (start : ℕ → ℕ) × (jumped_at t u start ≡ told flags (jumped_at t u cpu.flags))
      by true true = (before (cpu.flags 0) (before (cpu.flags 1) flags), refl)
      by true false = (before (cpu.flags 0) flags, refl)
      by false true = (before (cpu.flags 0) flags, refl)
      by false false = (flags, refl)

  pub opens : (i : Instr) → Opens (does i) cpu flags
  opens (Load r mode) = via mode (λ v k. setting r v k) (λ v k. set_same r v k)
  opens (Store r mode) = (flags, stored r mode)
  opens (Transfer from to) = (flags, moved from to)
  opens (And mode) = via mode (λ v k. setting A (bit_and cpu.a v) k) (λ v k. refl)
  opens (Or mode) = via mode (λ v k. setting A (bit_or cpu.a v) k) (λ v k. refl)
  opens (Xor mode) = via mode (λ v k. setting A (bit_xor cpu.a v) k) (λ v k. refl)
  opens (Add mode) = via mode (λ v k. summing v k) (λ v k. refl)
  opens (Subtract mode) = via mode (λ v k. subtracting (255 - v) k) (λ v k. refl)
  opens (Compare r mode) = compared r mode
  opens (TestBits mode) = via mode
      (λ v k. record k { z = nat_eq (bit_and cpu.a v) 0; n = nat_le 128 v; v = nat_le 64 (v % 128) }) (λ v k. refl)
  opens (Change mode by) = change mode by
  opens (Step r by) = (flags, stepped r by)
  opens (ShiftAt shift mode) = shift_at shift mode
  opens (Set flag to) = (flags, flagged flag to)
  opens (Branch flag when) = (flags, branched flag when)
  opens JumpAt = jumped
  opens _ = (flags, refl)
