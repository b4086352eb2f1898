-- Memories of which the driver's bytes and code are known.
use Rattle.std.proofs.Common.{◌≡◌, ◌≢◌, ℕ, zero, suc, ◌+◌, ◌-◌, ◌<◌, ◌≤◌, Bool, true, false, cond, List, [], ◌∷◌}
use Rattle.std.proofs.Common.{length, refl, sym, ap, ◌∙◌, subst, arith, eqb-true, set, le-leb, leb-true}
use Rattle.std.proofs.Common.{get_or-set_same, get_or-set_other}
use Rattle.std.proofs.lemmas.Bool.{ne_eqb}
use Rattle.std.specs.Prelude.{nat_eq, nat_le, nat_lt, if◌then◌else◌, ◌&&◌, slice_index}
use Rattle.std.proofs.Math.Path.{fun_ext}
use Rattle.dvg_calls_6502.specs.Processor.{Cpu, put}
use Rattle.dvg_calls_6502.specs.Code.{code}
use Rattle.dvg_calls_6502.specs.Board.{IsLoaded}
use Rattle.dvg_calls_6502.proofs.ProcessorRuns.{at}
pub use Rattle.std.proofs.lemmas.Bool.{and_parts as both_true, lt-leb as le_not, eq-eqb as same_eqb}

abbrev pub in_page : ℕ → Bool
in_page b = nat_le 0x10 b && nat_lt b 0x1B

abbrev pub in_code : ℕ → Bool
in_code b = nat_le 0x6800 b && nat_lt b 0x6A87

-- a memory with these bytes from 0010 on and the code at its place
abbrev pub laid : List ℕ → (ℕ → ℕ) → ℕ → ℕ
laid page mem b = if in_page b then slice_index page (b - 0x10) else if in_code b then slice_index code
    (b - 0x6800) else mem b

abbrev pub page_of : (phase free publish next t0 t1 pages end second f0 f1 : ℕ) → List ℕ
page_of phase free publish next t0 t1 pages end second f0 f1 =
    phase ∷ free ∷ publish ∷ next ∷ t0 ∷ t1 ∷ pages ∷ end ∷ second ∷ f0 ∷ f1 ∷ []

pub swap2 : (w t : Bool) (byte old new rest : ℕ) → (w ≡ true → (t ≡ true) × (new ≡ byte))
    → (w ≡ false → t ≡ true → old ≡ new)
    → cond w byte (cond t old rest) ≡ cond t new rest
swap2 true true byte old new rest hit miss = sym (hit refl).1
swap2 true false byte old new rest hit miss = absurd (let e = (hit refl).0 in cc)
swap2 false true byte old new rest hit miss = miss refl refl
swap2 false false byte old new rest hit miss = refl

swap3 : (w t u : Bool) (byte a b rest : ℕ) → (w ≡ true → (t ≡ false) × (u ≡ false))
    → cond w byte (cond t a (cond u b rest)) ≡ cond t a (cond u b (cond w byte rest))
swap3 false t u byte a b rest out = refl
swap3 true false false byte a b rest out = refl
swap3 true true u byte a b rest out = absurd (let e = (out refl).0 in cc)
swap3 true false true byte a b rest out = absurd (let e = (out refl).1 in cc)

within : (i : ℕ) → i < 11 → in_page (0x10 + i) ≡ true
within i h =
    let low : nat_le 0x10 (0x10 + i) ≡ true = le-leb 0x10 (0x10 + i) (omega arith) in
    let high : nat_lt (0x10 + i) 0x1B ≡ true = le-leb (suc (0x10 + i)) 0x1B (omega arith) in
    rw (low, high) refl

-- a write into the page
pub put_page : (i byte : ℕ) (page : List ℕ) (mem : ℕ → ℕ) → i < 11 → length page ≡ 11
    → put (0x10 + i) byte (laid page mem) ≡ laid (set page i byte) mem
put_page i byte page mem h l = fun_ext (λ b. swap2 (nat_eq b (0x10 + i)) (in_page b) byte (slice_index page (b - 0x10))
    (slice_index (set page i byte) (b - 0x10)) (if in_code b then slice_index code (b - 0x6800) else mem b)
    (λ is. let e = eqb-true b (0x10 + i) is in let back : b - 0x10 ≡ i = omega arith in (
      subst (λ q. in_page q ≡ true) (sym e) (within i h),
      ap (slice_index (set page i byte)) back
          ∙ get_or-set_same page i byte 0 (omega arith),
    ))
    (λ not paged.
    let low : 0x10 ≤ b = leb-true 0x10 b (both_true (nat_le 0x10 b) (nat_lt b 0x1B) paged).0 in
    sym (get_or-set_other page i (b - 0x10) byte 0 (λ same. let there : b ≡ 0x10 + i = omega arith in
    let hit : nat_eq b (0x10 + i) ≡ true = same_eqb b (0x10 + i) there in absurd (cc)))))

-- a write elsewhere
pub put_out : (p byte : ℕ) (page : List ℕ) (mem : ℕ → ℕ) → in_page p ≡ false → in_code p ≡ false
    → put p byte (laid page mem) ≡ laid page (put p byte mem)
put_out p byte page mem not_page not_code = fun_ext (λ b. swap3 (nat_eq b p) (in_page b) (in_code b) byte
    (slice_index page (b - 0x10)) (slice_index code (b - 0x6800)) (mem b)
    (λ is. let e = sym (eqb-true b p is) in
    (subst (λ q. in_page q ≡ false) e not_page, subst (λ q. in_code q ≡ false) e not_code)))

-- the code is at its place
abbrev pub HasCode : (ℕ → ℕ) → Type 0
HasCode mem = (i : ℕ) → i < length code → mem (0x6800 + i) ≡ slice_index code i

module _ (mem : ℕ → ℕ) where
  abbrev pub page_in : List ℕ
  page_in = page_of (mem 0x10) (mem 0x11) (mem 0x12) (mem 0x13) (mem 0x14) (mem 0x15) (mem 0x16) (mem 0x17) (mem 0x18)
      (mem 0x19) (mem 0x1A)

  in_list : (i : ℕ) → i < 11 → slice_index page_in i ≡ mem (0x10 + i)
  in_list (suc (suc (suc (suc (suc (suc (suc (suc (suc (suc (suc i))))))))))) h = absurd (omega arith)
  in_list _ h = refl

  within_page : (b : ℕ) → in_page b ≡ true → (0x10 ≤ b) × (b < 0x1B)
  within_page b is = let two = both_true (nat_le 0x10 b) (nat_lt b 0x1B) is in
      (leb-true 0x10 b two.0, leb-true (suc b) 0x1B two.1)

  within_code : (b : ℕ) → in_code b ≡ true → (0x6800 ≤ b) × (b < 0x6A87)
  within_code b is = let two = both_true (nat_le 0x6800 b) (nat_lt b 0x6A87) is in
      (leb-true 0x6800 b two.0, leb-true (suc b) 0x6A87 two.1)

  choose : (t u : Bool) (x y z : ℕ) → (t ≡ true → x ≡ z) → (u ≡ true → y ≡ z) → z ≡ cond t x (cond u y z)
  choose true u x y z one two = sym (one refl)
  choose false true x y z one two = sym (two refl)
  choose false false x y z one two = refl

  -- each memory that has the code is of this form
  pub code_known : HasCode mem → mem ≡ laid page_in mem
  code_known has = fun_ext (λ b. choose (in_page b) (in_code b) (slice_index page_in (b - 0x10))
      (slice_index code (b - 0x6800)) (mem b)
      (λ is. let there = within_page b is in let small : b - 0x10 < 11 = omega (arith, there.0, there.1) in
      let back : 0x10 + (b - 0x10) ≡ b = omega (arith, there.0) in in_list (b - 0x10) small ∙ ap mem back)
      (λ is. let there = within_code b is in let small : b - 0x6800 < 647 = omega (arith, there.0, there.1) in
      let back : 0x6800 + (b - 0x6800) ≡ b = omega (arith, there.0) in sym (has (b - 0x6800) small)
      ∙ ap mem back))

  pub known : IsLoaded mem → mem ≡ laid page_in mem
  known load = code_known load.code

-- bytes
abbrev all_small : List ℕ → Bool
all_small [] = true
all_small (x ∷ xs) = nat_lt x 256 && all_small xs

small_at : (xs : List ℕ) → all_small xs ≡ true → (i : ℕ) → slice_index xs i < 256
small_at [] is i = omega arith
small_at (x ∷ xs) is zero = leb-true (suc x) 256 (both_true (nat_lt x 256) (all_small xs) is).0
small_at (x ∷ xs) is (suc i) = small_at xs (both_true (nat_lt x 256) (all_small xs) is).1 i

-- a list's bytes, for pages
abbrev pub AreSmall : List ℕ → Type 0
AreSmall [] = Unit {0}
AreSmall (x ∷ xs) = (x < 256) × AreSmall xs

pub small_page : {phase free publish next t0 t1 pages end second f0 f1 : ℕ} → phase < 256 → free < 256 → publish < 256
    → next < 256 → t0 < 256 → t1 < 256 → pages < 256 → end < 256 → second < 256 → f0 < 256 → f1 < 256
    → AreSmall (page_of phase free publish next t0 t1 pages end second f0 f1)
small_page a b c d e f g h i j k = (a, (b, (c, (d, (e, (f, (g, (h, (i, (j, (k, tt)))))))))))

pub are_small : (xs : List ℕ) → AreSmall xs → (i : ℕ) → slice_index xs i < 256
are_small [] all i = omega arith
are_small (x ∷ xs) all zero = all.0
are_small (x ∷ xs) all (suc i) = are_small xs all.1 i

chosen : (t u : Bool) (x y z : ℕ) → x < 256 → y < 256 → z < 256 → cond t x (cond u y z) < 256
chosen true u x y z a b c = a
chosen false true x y z a b c = b
chosen false false x y z a b c = c

pub loaded : (page : List ℕ) (mem : ℕ → ℕ) → AreSmall page → ((b : ℕ) → mem b < 256) → IsLoaded (laid page mem)
loaded page mem all bytes = record {
  code = λ i h.
      let low : nat_le 0x6800 (0x6800 + i) ≡ true = le-leb 0x6800 (0x6800 + i) (omega arith) in
      let high : nat_lt (0x6800 + i) 0x6A87 ≡ true = le-leb (suc (0x6800 + i)) 0x6A87 (omega arith) in
      let over : nat_lt (0x6800 + i) 0x1B ≡ false = le_not (suc (0x6800 + i)) 0x1B (omega arith) in
      let above : nat_le 0x10 (0x6800 + i) ≡ true = le-leb 0x10 (0x6800 + i) (omega arith) in
      let back : 0x6800 + i - 0x6800 ≡ i = omega arith in
      coded (nat_le 0x10 (0x6800 + i)) (nat_lt (0x6800 + i) 0x1B) (nat_le 0x6800 (0x6800 + i))
      (nat_lt (0x6800 + i) 0x6A87)
      (slice_index page (0x6800 + i - 0x10)) (slice_index code (0x6800 + i - 0x6800))
      (mem (0x6800 + i)) above over low high
      ∙ ap (slice_index code) back;
  bytes = λ b. chosen (in_page b) (in_code b) (slice_index page (b - 0x10)) (slice_index code (b - 0x6800)) (mem b)
      (are_small page all (b - 0x10)) (small_at code refl (b - 0x6800)) (bytes b);
}
  where
    coded : (a b c d : Bool) (x y z : ℕ) → a ≡ true → b ≡ false → c ≡ true → d ≡ true
        → cond (a && b) x (cond (c && d) y z) ≡ y
    coded true false true true x y z p q r t = refl
    coded false b c d x y z p q r t = absurd (cc)
    coded true true c d x y z p q r t = absurd (cc)
    coded true false false d x y z p q r t = absurd (cc)
    coded true false true false x y z p q r t = absurd (cc)

pub put_small : (p v : ℕ) (mem : ℕ → ℕ) → v < 256 → ((b : ℕ) → mem b < 256) → (b : ℕ) → put p v mem b < 256
put_small p v mem small bytes b = by (nat_eq b p)
  where
    by : (t : Bool) → (if t then v else mem b) < 256
    by true = small
    by false = bytes b

-- outside of the page two memories that differ in it alone are the same
pub same_out : (page other : List ℕ) (mem : ℕ → ℕ) (b : ℕ) → in_page b ≡ false → laid page mem b ≡ laid other mem b
same_out page other mem b out = by (in_page b) out
  where
    by : (t : Bool) → t ≡ false
        → cond t (slice_index page (b - 0x10)) (if in_code b then slice_index code (b - 0x6800) else mem b)
        ≡ cond t (slice_index other (b - 0x10)) (if in_code b then slice_index code (b - 0x6800) else mem b)
    by false is = refl
    by true is = absurd (cc)

pub kept_write : (p v : ℕ) (page other : List ℕ) (mem : ℕ → ℕ) → in_page p ≡ false → in_code p ≡ false → (b : ℕ)
    → in_page b ≡ false
    → laid other (put p v mem) b ≡ put p v (laid page mem) b
kept_write p v page other mem not_page not_code b out =
    same_out other page (put p v mem) b out ∙ sym (ap (λ (m : ℕ → ℕ). m b) (put_out p v page mem not_page not_code))

pub kept_sent : (page other : List ℕ) (mem : ℕ → ℕ) (b : ℕ) → in_page b ≡ false → b ≢ 0x3000
    → laid other (put 0x3000 2 mem) b ≡ laid page mem b
kept_sent page other mem b out not =
    kept_write 0x3000 2 page other mem refl refl b out
    ∙ ap (λ (t : Bool). if t then 2 else laid page mem b) (ne_eqb b 0x3000 not)

-- an address of the vector RAM is none of the page or the code
pub out_of_page : (q : ℕ) → 0x200 ≤ q → in_page q ≡ false
out_of_page q low =
    let a : nat_le 0x10 q ≡ true = le-leb 0x10 q (omega arith) in
    let b : nat_lt q 0x1B ≡ false = le_not (suc q) 0x1B (omega arith) in
    rw (a, b) refl

-- any state, by its place
pub state_coded : (cpu : Cpu) (pc s : ℕ) → cpu.pc ≡ pc → cpu.s ≡ s → HasCode cpu.mem
    → at pc cpu.a cpu.x cpu.y s cpu.n cpu.z cpu.c cpu.v cpu.d cpu.i (laid (page_in cpu.mem) cpu.mem) cpu.flags cpu.log ≡ cpu
state_coded cpu pc s at_pc at_s has =
    ap (λ (m : ℕ → ℕ). at pc cpu.a cpu.x cpu.y s cpu.n cpu.z cpu.c cpu.v cpu.d cpu.i m cpu.flags cpu.log) (sym (code_known cpu.mem has))
    ∙ ap (λ t. at pc cpu.a cpu.x cpu.y t cpu.n cpu.z cpu.c cpu.v cpu.d cpu.i cpu.mem cpu.flags cpu.log) (sym at_s)
    ∙ ap (λ p. at p cpu.a cpu.x cpu.y cpu.s cpu.n cpu.z cpu.c cpu.v cpu.d cpu.i cpu.mem cpu.flags cpu.log) (sym at_pc)

pub state_is : (cpu : Cpu) (pc s : ℕ) → cpu.pc ≡ pc → cpu.s ≡ s → IsLoaded cpu.mem
    → at pc cpu.a cpu.x cpu.y s cpu.n cpu.z cpu.c cpu.v cpu.d cpu.i (laid (page_in cpu.mem) cpu.mem) cpu.flags cpu.log ≡ cpu
state_is cpu pc s at_pc at_s load = state_coded cpu pc s at_pc at_s load.code

-- the same, of a known phase
pub phase_is : (cpu : Cpu) (pc phase : ℕ) → cpu.pc ≡ pc → cpu.mem 0x10 ≡ phase → IsLoaded cpu.mem
    → at pc cpu.a cpu.x cpu.y cpu.s cpu.n cpu.z cpu.c cpu.v cpu.d cpu.i
    (laid (page_of phase (cpu.mem 0x11) (cpu.mem 0x12) (cpu.mem 0x13) (cpu.mem 0x14) (cpu.mem 0x15) (cpu.mem 0x16)
    (cpu.mem 0x17) (cpu.mem 0x18) (cpu.mem 0x19) (cpu.mem 0x1A)) cpu.mem) cpu.flags cpu.log ≡ cpu
phase_is cpu pc phase at_pc is load =
    ap (λ p. at pc cpu.a cpu.x cpu.y cpu.s cpu.n cpu.z cpu.c cpu.v cpu.d cpu.i
    (laid (page_of p (cpu.mem 0x11) (cpu.mem 0x12) (cpu.mem 0x13) (cpu.mem 0x14) (cpu.mem 0x15) (cpu.mem 0x16)
    (cpu.mem 0x17) (cpu.mem 0x18) (cpu.mem 0x19) (cpu.mem 0x1A)) cpu.mem) cpu.flags cpu.log) (sym is)
    ∙ state_is cpu pc cpu.s at_pc refl load
