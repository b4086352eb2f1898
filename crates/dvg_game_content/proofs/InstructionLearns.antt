-- What is known of A, X and Y, and what an instruction makes of it.
use Rattle.std.proofs.Common.{suc, ◌≡◌, ℕ, ◌+◌, ◌*◌, ◌%◌, ◌<◌, ◌≤◌, Bool, true, false, refl, sym, ap}
use Rattle.std.proofs.Common.{◌∙◌, subst, arith, eqb-true, leb-true}
use Rattle.std.specs.Prelude.{◌&&◌, nat_eq, nat_le, if◌then◌else◌, bit_or}
use Rattle.std.proofs.lemmas.Bool.{leb-false}
use Rattle.std.proofs.lemmas.Nat.{and_le_r}
use Rattle.dvg_calls_6502.specs.Processor
use Rattle.dvg_calls_6502.specs.Processor.{Cpu, A, X, Y, AbsoluteY, decoded, opcodes, flag_place, found}
use Rattle.dvg_game_rules.specs.Kinds.{Nothing, Only, Kind, Quiet, Reads, Transfer, Stores, Push, PushFlags, Pull, PullFlags}
use Rattle.dvg_game_rules.specs.Kinds.{Branch, Jump, Call, Return, Finish, Wild, kind_of}
use Rattle.dvg_game_rules.specs.Machine.{State, Choice, IsLoaded, word_at, does}
use Rattle.dvg_game_rules.specs.Alike.{MatchesCpu, of_cpu}
use Rattle.dvg_game_rules.proofs.Facts.{IsInside, both_true}
use Rattle.dvg_game_rules.proofs.NmiStepsHold.{opcode_there, first_there, second_there}
use Rattle.dvg_game_rules.proofs.LocalKinds.{ticked}
use Rattle.dvg_game_6502.specs.Play.{IsByteWide, done, fresh}
use Rattle.dvg_game_content.specs.Brings.{Known, Any, Is, Under, By, bound, fixed, Fact, nothing, with_bits, listed, smaller, kept_by, next}

-- a byte is what it is known to be
abbrev pub IsKnown : Known → ℕ → ℕ → Type 0
IsKnown Any byte y = Unit {0}
IsKnown (Is n) byte y = byte ≡ n
IsKnown (Under n) byte y = byte < n
IsKnown (By f) byte y = byte ≡ f y

pub record Holds (f : Fact) (a x y : ℕ) (c : Bool) : Type 0 where
  pub a_is : IsKnown f.a a y
  pub x_is : IsKnown f.x x y
  pub below : y < f.most
  pub less : c ≡ false → y < f.less

-- of a processor
abbrev pub HoldsAt : Fact → Cpu → Type 0
HoldsAt f cpu = Holds f cpu.a cpu.x cpu.y cpu.c

pub holds_nothing : (a x y : ℕ) (c : Bool) → y < 256 → Holds nothing a x y c
holds_nothing a x y c small = record { a_is = tt; x_is = tt; below = small; less = λ is. small }

-- one of two facts
choose : (P : Fact → Type 0) (t : Bool) (f g : Fact) → (t ≡ true → P f) → (t ≡ false → P g) → P (if t then f else g)
choose P true f g one other = one refl
choose P false f g one other = other refl

masked : (k : Known) (byte y mask mask' : ℕ) → mask ≡ mask' → IsKnown k byte y
    → IsKnown (with_bits mask' k) (bit_or byte mask) y
masked (Is n) byte y mask mask' same is = ap (λ b. bit_or b mask) is ∙ ap (bit_or n) same
masked (By f) byte y mask mask' same is = ap (λ b. bit_or b mask) is ∙ ap (bit_or (f y)) same
masked _ byte y mask mask' same is = tt

is_fixed : (k : Known) (byte y other : ℕ) → IsKnown k byte y → IsKnown (fixed k) byte other
is_fixed (Is n) byte y other is = is
is_fixed _ byte y other is = tt

is_under : (k : Known) (byte y : ℕ) → byte < 256 → IsKnown k byte y → byte < bound k
is_under (Is n) byte y small is = omega (arith, is)
is_under (Under n) byte y small is = is
is_under _ byte y small is = small

less_than : (t : Bool) (y one other : ℕ) → nat_le one other ≡ t → y < one → y < other → y < (if t then one else other)
less_than true y one other is a b = a
less_than false y one other is a b = b

-- registers that stay
same_registers : (f : Fact) (cpu new : Cpu) → cpu.a ≡ new.a → cpu.x ≡ new.x → cpu.y ≡ new.y → new.y < 256
    → HoldsAt f cpu → HoldsAt (record f { less = 256 }) new
same_registers f cpu new a x y small is = record {
  a_is = subst (λ b. IsKnown f.a new.a b) y (subst (λ b. IsKnown f.a b cpu.y) a is.a_is);
  x_is = subst (λ b. IsKnown f.x new.x b) y (subst (λ b. IsKnown f.x b cpu.y) x is.x_is);
  below = subst (λ b. b < f.most) y is.below;
  less = λ c. small;
}

keeps : (kind : Kind) (cpu new : Cpu) (st : State) (choice : Choice)
    → MatchesCpu (does kind choice (ticked (of_cpu cpu st))) new → new.y < 256 → (f : Fact) → HoldsAt f cpu
    → HoldsAt (kept_by kind f) new
keeps (Quiet Nothing bytes) cpu new st choice alike small f is = same_registers f cpu new alike.a alike.x alike.y small is
keeps (Reads Nothing place) cpu new st choice alike small f is = same_registers f cpu new alike.a alike.x alike.y small is
keeps (Stores place) cpu new st choice alike small f is = same_registers f cpu new alike.a alike.x alike.y small is
keeps Branch cpu new st choice alike small f is = same_registers f cpu new alike.a alike.x alike.y small is
keeps _ cpu new st choice alike small f is = holds_nothing new.a new.x new.y new.c small

module _ (rom : ℕ → ℕ) (cpu : Cpu) (flags : ℕ → ℕ) (loaded : IsLoaded rom cpu.mem) (inside : IsInside cpu.pc)
    (bytes : IsByteWide cpu) where
  abbrev from : Cpu
  from = fresh flags cpu

  pub by_opcode : (op : ℕ) → rom cpu.pc ≡ op → done flags cpu ≡ Processor.does (decoded opcodes op) from
  by_opcode op is = ap (λ b. Processor.does (decoded opcodes b) from) (opcode_there rom cpu.mem cpu.pc loaded inside ∙ is)

  operand : cpu.mem (cpu.pc + 1) ≡ rom (cpu.pc + 1)
  operand = first_there rom cpu.mem cpu.pc loaded inside

  -- what an instruction makes of it, where its opcode is known
  of_opcode : (op : ℕ) (f : Fact) → rom cpu.pc ≡ op → HoldsAt f (Processor.does (decoded opcodes op) from)
      → HoldsAt f (done flags cpu)
  of_opcode op f is holds = subst (λ (k : Cpu). HoldsAt f k) (sym (by_opcode op is)) holds

  lda : (f : Fact) → rom cpu.pc ≡ 0xA9 → HoldsAt f cpu
      → HoldsAt (record f { a = Is (rom (cpu.pc + 1)); less = 256 }) (done flags cpu)
  lda f is h = of_opcode 0xA9 (record f { a = Is (rom (cpu.pc + 1)); less = 256 }) is
      (record { a_is = operand; x_is = h.x_is; below = h.below; less = λ c. bytes.y })

  ldx : (f : Fact) → rom cpu.pc ≡ 0xA2 → HoldsAt f cpu
      → HoldsAt (record f { x = Is (rom (cpu.pc + 1)); less = 256 }) (done flags cpu)
  ldx f is h = of_opcode 0xA2 (record f { x = Is (rom (cpu.pc + 1)); less = 256 }) is
      (record { a_is = h.a_is; x_is = operand; below = h.below; less = λ c. bytes.y })

  -- a byte of a list of the ROM
  found_there : (b : ℕ) → 0x4800 ≤ b → b < 0x8000 → found b from ≡ rom b
  found_there b low high = by (nat_eq b flag_place) refl
    where
      by : (t : Bool) → nat_eq b flag_place ≡ t → (if t then flags 0 else cpu.mem b) ≡ rom b
      by true is = let e = eqb-true b flag_place is in absurd (omega (arith, e, low))
      by false is = loaded b low high

  in_list : (most : ℕ) → cpu.y < most → IsKnown (listed rom (word_at rom (cpu.pc + 1)) most)
      (Processor.operand AbsoluteY from) cpu.y
  in_list most less = by (nat_le 0x4800 (word_at rom (cpu.pc + 1)) && nat_le (word_at rom (cpu.pc + 1) + most) 0x8000) refl
    where
      here : Processor.address AbsoluteY from ≡ (word_at rom (cpu.pc + 1) + cpu.y) % 65536
      here = ap (λ b. (b + 256 * cpu.mem (cpu.pc + 2) + cpu.y) % 65536) operand
          ∙ ap (λ b. (rom (cpu.pc + 1) + 256 * b + cpu.y) % 65536)
          (let e : cpu.pc + 2 ≡ cpu.pc + 1 + 1 = omega arith in ap cpu.mem e
          ∙ second_there rom cpu.mem cpu.pc loaded inside)

      by : (t : Bool) → (nat_le 0x4800 (word_at rom (cpu.pc + 1)) && nat_le (word_at rom (cpu.pc + 1) + most) 0x8000) ≡ t
          → IsKnown (if t then By (λ y. rom (word_at rom (cpu.pc + 1) + y)) else Any) (Processor.operand AbsoluteY from) cpu.y
      by false is = tt
      by true is =
          let two = both_true (nat_le 0x4800 (word_at rom (cpu.pc + 1))) _ is in
          let low = leb-true 0x4800 (word_at rom (cpu.pc + 1)) two.0 in
          let high = leb-true (word_at rom (cpu.pc + 1) + most) 0x8000 two.1 in
          let e : (word_at rom (cpu.pc + 1) + cpu.y) % 65536 ≡ word_at rom (cpu.pc + 1) + cpu.y =
          omega (arith, high, less) in
          ap (λ b. found b from) (here ∙ e)
          ∙ found_there (word_at rom (cpu.pc + 1) + cpu.y) (omega (arith, low)) (omega (arith, high, less))

  lda_list : (f : Fact) → rom cpu.pc ≡ 0xB9 → HoldsAt f cpu
      → HoldsAt (record f { a = listed rom (word_at rom (cpu.pc + 1)) f.most; less = 256 }) (done flags cpu)
  lda_list f is h = of_opcode 0xB9 (record f { a = listed rom (word_at rom (cpu.pc + 1)) f.most; less = 256 }) is
      (record { a_is = in_list f.most h.below; x_is = h.x_is; below = h.below; less = λ c. bytes.y })

  ldx_list : (f : Fact) → rom cpu.pc ≡ 0xBE → HoldsAt f cpu
      → HoldsAt (record f { x = listed rom (word_at rom (cpu.pc + 1)) f.most; less = 256 }) (done flags cpu)
  ldx_list f is h = of_opcode 0xBE (record f { x = listed rom (word_at rom (cpu.pc + 1)) f.most; less = 256 }) is
      (record { a_is = h.a_is; x_is = in_list f.most h.below; below = h.below; less = λ c. bytes.y })

  ora : (f : Fact) → rom cpu.pc ≡ 0x09 → HoldsAt f cpu
      → HoldsAt (record f { a = with_bits (rom (cpu.pc + 1)) f.a; less = 256 }) (done flags cpu)
  ora f is h = of_opcode 0x09 (record f { a = with_bits (rom (cpu.pc + 1)) f.a; less = 256 }) is
      (record {
        a_is = masked f.a cpu.a cpu.y (cpu.mem (cpu.pc + 1)) (rom (cpu.pc + 1)) operand h.a_is;
        x_is = h.x_is;
        below = h.below;
        less = λ c. bytes.y;
      })

  and : (f : Fact) → rom cpu.pc ≡ 0x29 → HoldsAt f cpu
      → HoldsAt (record f { a = Under (suc (rom (cpu.pc + 1))); less = 256 }) (done flags cpu)
  and f is h = of_opcode 0x29 (record f { a = Under (suc (rom (cpu.pc + 1))); less = 256 }) is
      (record {
        a_is = let e = operand in let less = and_le_r cpu.a (cpu.mem (cpu.pc + 1)) in omega (arith, e, less);
        x_is = h.x_is;
        below = h.below;
        less = λ c. bytes.y;
      })

  tay : (f : Fact) → rom cpu.pc ≡ 0xA8 → HoldsAt f cpu
      → HoldsAt (record { a = fixed f.a; x = fixed f.x; most = bound f.a; less = 256 }) (done flags cpu)
  tay f is h = of_opcode 0xA8 (record { a = fixed f.a; x = fixed f.x; most = bound f.a; less = 256 }) is
      (record {
        a_is = is_fixed f.a cpu.a cpu.y cpu.a h.a_is;
        x_is = is_fixed f.x cpu.x cpu.y cpu.a h.x_is;
        below = is_under f.a cpu.a cpu.y bytes.a h.a_is;
        less = λ c. bytes.a;
      })

  tax : (f : Fact) → rom cpu.pc ≡ 0xAA → HoldsAt f cpu → HoldsAt (record f { x = f.a; less = 256 }) (done flags cpu)
  tax f is h = of_opcode 0xAA (record f { x = f.a; less = 256 }) is
      (record { a_is = h.a_is; x_is = h.a_is; below = h.below; less = λ c. bytes.y })

  txa : (f : Fact) → rom cpu.pc ≡ 0x8A → HoldsAt f cpu → HoldsAt (record f { a = f.x; less = 256 }) (done flags cpu)
  txa f is h = of_opcode 0x8A (record f { a = f.x; less = 256 }) is
      (record { a_is = h.x_is; x_is = h.x_is; below = h.below; less = λ c. bytes.y })

  cpy : (f : Fact) → rom cpu.pc ≡ 0xC0 → HoldsAt f cpu → HoldsAt (record f { less = rom (cpu.pc + 1) }) (done flags cpu)
  cpy f is h = of_opcode 0xC0 (record f { less = rom (cpu.pc + 1) }) is
      (record {
        a_is = h.a_is;
        x_is = h.x_is;
        below = h.below;
        less = λ c. subst (λ b. cpu.y < b) operand (leb-false (cpu.mem (cpu.pc + 1)) cpu.y c);
      })

  bcs : (f : Fact) → rom cpu.pc ≡ 0xB0 → cpu.c ≡ false → HoldsAt f cpu
      → HoldsAt (record f { most = smaller f.less f.most; less = 256 }) (done flags cpu)
  bcs f is clear h = of_opcode 0xB0 (record f { most = smaller f.less f.most; less = 256 }) is
      (record {
        a_is = h.a_is;
        x_is = h.x_is;
        below = less_than (nat_le f.less f.most) cpu.y f.less f.most refl (h.less clear) h.below;
        less = λ c. bytes.y;
      })

  abbrev P : Fact → Type 0
  P g = HoldsAt g (done flags cpu)

  -- where it goes on behind itself
  pub advances : (st : State) (choice : Choice)
      → MatchesCpu (does (kind_of (rom cpu.pc)) choice (ticked (of_cpu cpu st))) (done flags cpu)
      → IsByteWide (done flags cpu) → (rom cpu.pc ≡ 0xB0 → cpu.c ≡ false) → (f : Fact) → HoldsAt f cpu
      → HoldsAt (next rom cpu.pc f) (done flags cpu)
  advances st choice alike after clear f h =
      choose P (nat_eq (rom cpu.pc) 0xA9) _ _ (λ e. lda f (eqb-true (rom cpu.pc) 0xA9 e) h) (λ n.
      choose P (nat_eq (rom cpu.pc) 0xA2) _ _ (λ e. ldx f (eqb-true (rom cpu.pc) 0xA2 e) h) (λ n.
      choose P (nat_eq (rom cpu.pc) 0xB9) _ _ (λ e. lda_list f (eqb-true (rom cpu.pc) 0xB9 e) h) (λ n.
      choose P (nat_eq (rom cpu.pc) 0xBE) _ _ (λ e. ldx_list f (eqb-true (rom cpu.pc) 0xBE e) h) (λ n.
      choose P (nat_eq (rom cpu.pc) 0x09) _ _ (λ e. ora f (eqb-true (rom cpu.pc) 0x09 e) h) (λ n.
      choose P (nat_eq (rom cpu.pc) 0x29) _ _ (λ e. and f (eqb-true (rom cpu.pc) 0x29 e) h) (λ n.
      choose P (nat_eq (rom cpu.pc) 0xA8) _ _ (λ e. tay f (eqb-true (rom cpu.pc) 0xA8 e) h) (λ n.
      choose P (nat_eq (rom cpu.pc) 0xAA) _ _ (λ e. tax f (eqb-true (rom cpu.pc) 0xAA e) h) (λ n.
      choose P (nat_eq (rom cpu.pc) 0x8A) _ _ (λ e. txa f (eqb-true (rom cpu.pc) 0x8A e) h) (λ n.
      choose P (nat_eq (rom cpu.pc) 0xC0) _ _ (λ e. cpy f (eqb-true (rom cpu.pc) 0xC0 e) h) (λ n.
      choose P (nat_eq (rom cpu.pc) 0xB0) _ _
      (λ e. bcs f (eqb-true (rom cpu.pc) 0xB0 e) (clear (eqb-true (rom cpu.pc) 0xB0 e)) h) (λ n.
      keeps (kind_of (rom cpu.pc)) cpu (done flags cpu) st choice alike after.y f h)))))))))))
