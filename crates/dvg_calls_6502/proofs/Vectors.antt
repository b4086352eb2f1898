-- Single steps of another 6502, that of tests/parts/board/cpu.h, in numbers: the definition gives the same.
-- MoveVectors.antt, FlowVectors.antt and ComputeVectors.antt have the steps.
use Rattle.std.proofs.Common.{ℕ, ◌+◌, ◌*◌, ◌/◌, ◌%◌, ◌^◌, Bool, true, false, List, [], ◌∷◌}
use Rattle.std.specs.Prelude.{nat_eq, not, ◌&&◌}
use Rattle.dvg_calls_6502.specs.Processor.{Cpu, put, step}

-- the memory of a step: a sum of squares, and the instruction's three bytes
abbrev memory : (seed opcode low high pc : ℕ) → ℕ → ℕ
memory seed opcode low high pc =
    put pc opcode (put (pc + 1) low (put (pc + 2) high (λ b. (b * b * 3 + b * 7 + seed) % 256)))

-- two hexadecimal digits of a number, the last ones being those at 0; and a bit
abbrev byte : (at number : ℕ) → ℕ
byte at number = number / 256 ^ at % 256

abbrev bit : (at number : ℕ) → Bool
bit at number = nat_eq (number / 2 ^ at % 2) 1

-- A, X, Y, S, PC, and the flags N, Z, C, V, D, I
abbrev state : (number : ℕ) → (ℕ → ℕ) → Cpu
state number mem = record {
  a = byte 6 number;
  x = byte 5 number;
  y = byte 4 number;
  s = byte 3 number;
  pc = number / 256 % 65536;
  n = bit 5 number;
  z = bit 4 number;
  c = bit 3 number;
  v = bit 2 number;
  d = bit 1 number;
  i = bit 0 number;
  mem = mem;
  flags = λ n. mem 0x2002;
  log = [];
}

abbrev same_bit : Bool → Bool → Bool
same_bit true b = b
same_bit false b = not b

abbrev are_same : Cpu → Cpu → Bool
are_same new was = nat_eq new.a was.a && (nat_eq new.x was.x && (nat_eq new.y was.y && (nat_eq new.s was.s
    && (nat_eq new.pc was.pc && (same_bit new.n was.n && (same_bit new.z was.z && (same_bit new.c was.c
    && (same_bit new.v was.v && (same_bit new.d was.d && same_bit new.i was.i)))))))))

-- bytes that were written
abbrev have : (ℕ → ℕ) → List (ℕ × ℕ) → Bool
have mem [] = true
have mem (w ∷ ws) = nat_eq (mem w.0) w.1 && have mem ws

-- a step of this memory (its seed, the opcode and two bytes) and state gives the state that the other 6502 gave, and
-- these bytes at these places
abbrev pub gives : (bytes before after : ℕ) → List (ℕ × ℕ) → Bool
gives bytes before after written =
    let mem = memory (byte 3 bytes) (byte 2 bytes) (byte 1 bytes) (byte 0 bytes) (before / 256 % 65536) in
    let new = step (state before mem) in
    are_same new (state after mem) && have new.mem written

-- the steps, counted from this one on, that are false
abbrev pub wrong_from : ℕ → List Bool → List ℕ
wrong_from number [] = []
wrong_from number (true ∷ rest) = wrong_from (number + 1) rest
wrong_from number (false ∷ rest) = number ∷ wrong_from (number + 1) rest
