-- Calls and their beginnings, by what is computed of a path.
use Rattle.std.proofs.Common.{◌≡◌, ◌≢◌, ℕ, zero, suc, ◌+◌, ◌-◌, ◌*◌, ◌%◌, ◌<◌, ◌≤◌, Bool, true, false, cond, List, [], ◌∷◌}
use Rattle.std.proofs.Common.{length, refl, sym, ap, ◌∙◌, subst, arith, set, eqb-true, le-leb, leb-true}
use Rattle.std.proofs.Common.{get_or-set_other}
use Rattle.std.proofs.Math.Path.{fun_ext}
use Rattle.std.specs.Prelude.{nat_eq, nat_le, nat_lt, if◌then◌else◌, ◌&&◌, slice_index}
use Rattle.dvg_calls_6502.specs.Processor.{Cpu, Access, run}
use Rattle.dvg_calls_6502.specs.Code.{code}
use Rattle.dvg_calls_6502.specs.Board.{seen, IsLoaded}
use Rattle.dvg_calls_6502.specs.Amid.{changed, is_kept, is_code, all_in}
use Rattle.dvg_calls_6502.proofs.ProcessorRuns.{Comes, by}
use Rattle.dvg_calls_6502.proofs.Memory.{in_code, both_true, AreSmall, are_small, le_not}
use Rattle.dvg_calls_6502.proofs.Follow.{Sym, Way, full, over, in_part, follow, Owes, steadily}
use Rattle.dvg_calls_6502.proofs.Sound.{runs, sees, is_steadily}

-- what it takes of tables are these bytes
abbrev pub IsSteadyBy : (q n : ℕ) (reads : List ℕ) → List Way → Sym → Type 0
IsSteadyBy q n reads ways it = (tables : ℕ → Bool) → all_in tables reads ≡ true → steadily (is_kept tables) q n ways it ≡ true

-- it comes to its return
pub arrives : (q n : ℕ) (ways : List Way) (it : Sym) {reads : List ℕ} → Owes n ways it → seen it.cpu.log ≡ it.events
    → let end = follow n ways it in over end.page end.cpu.mem end.cpu.pc ≡ 0x60 → is_code end.cpu.pc ≡ true
    → IsSteadyBy q n reads ways it
    → Comes q (full it) end.cpu.s end.cpu.c (over end.page end.cpu.mem) end.events reads
arrives q n ways it o so returns there steady =
    let e = runs q n ways it o in
    record {
      steps = n;
      returns = ap (λ (c : Cpu). c.mem c.pc) e ∙ returns;
      stack = ap (λ (c : Cpu). c.s) e;
      carry = ap (λ (c : Cpu). c.c) e;
      memory = ap (λ (c : Cpu). c.mem) e;
      accesses = ap (λ (c : Cpu). seen c.log) e ∙ sees n ways it o so;
      steady = λ tables is. is_steadily (is_kept tables) q n ways it o (steady tables is);
      there = ap (λ (c : Cpu). is_code c.pc) e ∙ there;
    }

-- it comes to where something else is known
pub onward : (q n : ℕ) (ways : List Way) (it : Sym) (s : ℕ) (c : Bool) (mem : ℕ → ℕ) (events : List Access) {reads : List ℕ}
    → (o : Owes n ways it) → IsSteadyBy q n reads ways it → Comes q (full (follow n ways it)) s c mem events reads
    → Comes q (full it) s c mem events reads
onward q n ways it s c mem events o steady comes = by q n (full it) (full (follow n ways it)) s c mem events
    (runs q n ways it o) (λ tables is. is_steadily (is_kept tables) q n ways it o (steady tables is)) comes

abbrev pub page_from : (ℕ → ℕ) → List ℕ
page_from mem = mem 0x10 ∷ mem 0x11 ∷ mem 0x12 ∷ mem 0x13 ∷ mem 0x14 ∷ mem 0x15 ∷ mem 0x16 ∷ mem 0x17 ∷ mem 0x18 ∷ mem 0x19
    ∷ mem 0x1A ∷ mem 0x1B ∷ mem 0x1C ∷ mem 0x1D ∷ mem 0x1E ∷ mem 0x1F ∷ mem 0x20 ∷ []

in_list : (mem : ℕ → ℕ) (i : ℕ) → i < 17 → slice_index (page_from mem) i ≡ mem (0x10 + i)
in_list mem (suc (suc (suc (suc (suc (suc (suc (suc (suc (suc (suc (suc (suc (suc (suc (suc (suc i))))))))))))))))) h = absurd (omega arith)
in_list mem _ h = refl

choose : (t u : Bool) (x y z : ℕ) → (t ≡ true → x ≡ z) → (u ≡ true → y ≡ z) → cond t x (cond u y z) ≡ z
choose true u x y z one two = one refl
choose false true x y z one two = two refl
choose false false x y z one two = refl

pub within_part : (b : ℕ) → in_part b ≡ true → (0x10 ≤ b) × (b < 0x21)
within_part b is = let two = both_true (nat_le 0x10 b) (nat_lt b 0x21) is in
    (leb-true 0x10 b two.0, leb-true (suc b) 0x21 two.1)

pub over_is : (mem : ℕ → ℕ) → IsLoaded mem → over (page_from mem) mem ≡ mem
over_is mem load = fun_ext (λ b. choose (in_part b) (in_code b) (slice_index (page_from mem) (b - 0x10))
    (slice_index code (b - 0x6800)) (mem b)
    (λ is. let there = within_part b is in let small : b - 0x10 < 17 = omega (arith, there.0, there.1) in
    let back : 0x10 + (b - 0x10) ≡ b = omega (arith, there.0) in in_list mem (b - 0x10) small ∙ ap mem back)
    (λ is. let two = both_true (nat_le 0x6800 b) (nat_lt b 0x6A87) is in let low = leb-true 0x6800 b two.0 in
    let high = leb-true (suc b) 0x6A87 two.1 in let small : b - 0x6800 < 647 = omega (arith, low, high) in
    let back : 0x6800 + (b - 0x6800) ≡ b = omega (arith, low) in sym (load.code (b - 0x6800) small) ∙ ap mem back))

-- a processor at an entry, as a state to begin with
abbrev pub start : ℕ → Cpu → Sym
start pc cpu = record { cpu = record cpu { pc = pc; log = [] }; page = page_from cpu.mem; events = [] }

pub start_is : (pc : ℕ) (cpu : Cpu) → cpu.pc ≡ pc → cpu.log ≡ [] → IsLoaded cpu.mem → full (start pc cpu) ≡ cpu
start_is pc cpu at_pc quiet load =
    ap (λ (m : ℕ → ℕ). changed m (record cpu { pc = pc; log = [] })) (over_is cpu.mem load)
    ∙ ap (λ p. record cpu { pc = p; log = [] }) (sym at_pc) ∙ ap (λ l. record cpu { log = l }) (sym quiet)

-- outside of the page two memories that differ in it alone are the same
pub same_off : (page other : List ℕ) (mem : ℕ → ℕ) (b : ℕ) → in_part b ≡ false → over page mem b ≡ over other mem b
same_off page other mem b off =
    ap (λ (t : Bool). if t then slice_index page (b - 0x10) else if in_code b then slice_index code (b - 0x6800) else mem b) off
    ∙ sym (ap (λ (t : Bool). if t then slice_index other (b - 0x10) else if in_code b then slice_index code (b - 0x6800) else mem b) off)

-- of the page a byte is as it was, where another one was set
pub kept_set : (i v : ℕ) (page : List ℕ) (mem : ℕ → ℕ) (b : ℕ) → b ≢ 0x10 + i → over (set page i v) mem b ≡ over page mem b
kept_set i v page mem b not = pick (in_part b) refl
  where
    coded : ℕ
    coded = if in_code b then slice_index code (b - 0x6800) else mem b

    pick : (t : Bool) → in_part b ≡ t
        → (if t then slice_index (set page i v) (b - 0x10) else coded) ≡ (if t then slice_index page (b - 0x10) else coded)
    pick false is = refl
    pick true is = let low = (within_part b is).0 in get_or-set_other page i (b - 0x10) v 0 (λ same. not (omega (arith, same, low)))

chosen : (t u : Bool) (x y z : ℕ) → x < 256 → y < 256 → z < 256 → cond t x (cond u y z) < 256
chosen true u x y z a b c = a
chosen false true x y z a b c = b
chosen false false x y z a b c = c

all_small : List ℕ → Bool
all_small [] = true
all_small (x ∷ xs) = nat_lt x 256 && all_small xs

small_at : (xs : List ℕ) → all_small xs ≡ true → (i : ℕ) → slice_index xs i < 256
unfolding all_small
small_at [] is i = omega arith
small_at (x ∷ xs) is zero = leb-true (suc x) 256 (both_true (nat_lt x 256) (all_small xs) is).0
small_at (x ∷ xs) is (suc i) = small_at xs (both_true (nat_lt x 256) (all_small xs) is).1 i

code_small : (i : ℕ) → slice_index code i < 256
unfolding all_small
code_small i = small_at code refl i

pub loaded_over : (page : List ℕ) (mem : ℕ → ℕ) → AreSmall page → ((b : ℕ) → mem b < 256) → IsLoaded (over page mem)
loaded_over page mem all bytes = record {
  code = λ i h.
      let low : nat_le 0x6800 (0x6800 + i) ≡ true = le-leb 0x6800 (0x6800 + i) (omega arith) in
      let high : nat_lt (0x6800 + i) 0x6A87 ≡ true = le-leb (suc (0x6800 + i)) 0x6A87 (omega arith) in
      let past : nat_lt (0x6800 + i) 0x21 ≡ false = le_not (suc (0x6800 + i)) 0x21 (omega arith) in
      let above : nat_le 0x10 (0x6800 + i) ≡ true = le-leb 0x10 (0x6800 + i) (omega arith) in
      let back : 0x6800 + i - 0x6800 ≡ i = omega arith in
      coded (nat_le 0x10 (0x6800 + i)) (nat_lt (0x6800 + i) 0x21) (nat_le 0x6800 (0x6800 + i))
      (nat_lt (0x6800 + i) 0x6A87)
      (slice_index page (0x6800 + i - 0x10)) (slice_index code (0x6800 + i - 0x6800))
      (mem (0x6800 + i)) above past low high
      ∙ ap (slice_index code) back;
  bytes = λ b. chosen (in_part b) (in_code b) (slice_index page (b - 0x10)) (slice_index code (b - 0x6800)) (mem b)
      (are_small page all (b - 0x10)) (code_small (b - 0x6800)) (bytes b);
}
  where
    coded : (a b c d : Bool) (x y z : ℕ) → a ≡ true → b ≡ false → c ≡ true → d ≡ true
        → cond (a && b) x (cond (c && d) y z) ≡ y
    coded true false true true x y z p q r t = refl
    coded false b c d x y z p q r t = absurd (cc)
    coded true true c d x y z p q r t = absurd (cc)
    coded true false false d x y z p q r t = absurd (cc)
    coded true false true false x y z p q r t = absurd (cc)
