-- The driver's bytes and the working bytes, apart.
use Rattle.std.proofs.Common.{◌≡◌, ℕ, suc, ◌+◌, ◌-◌, ◌<◌, ◌≤◌, Bool, true, false, List, [], ◌∷◌, refl, sym, ap, ◌∙◌, subst, arith}
use Rattle.std.proofs.Common.{le-leb, leb-true}
use Rattle.std.proofs.Math.Path.{fun_ext}
use Rattle.std.proofs.lemmas.Bool.{leb-false}
use Rattle.std.specs.Prelude.{nat_le, nat_lt, if◌then◌else◌, ◌&&◌, slice_index}
use Rattle.dvg_calls_6502.specs.Processor.{Cpu, Access}
use Rattle.dvg_calls_6502.specs.Code.{code}
use Rattle.dvg_calls_6502.specs.Amid.{changed, is_work}
use Rattle.dvg_calls_6502.proofs.ProcessorRuns.{Comes}
use Rattle.dvg_calls_6502.proofs.Memory.{laid, in_page, in_code, both_true, le_not}
use Rattle.dvg_calls_6502.proofs.Follow.{Sym, full, over, in_part}

-- a memory with these bytes from 001B on: dvg_y, dvg_x, left, length
abbrev pub worked : List ℕ → (ℕ → ℕ) → ℕ → ℕ
worked work mem b = if is_work b then slice_index work (b - 0x1B) else mem b

-- the page of a path, by both parts
abbrev pub parts : (page work : List ℕ) → List ℕ
parts page work = slice_index page 0 ∷ slice_index page 1 ∷ slice_index page 2 ∷ slice_index page 3 ∷ slice_index page 4
    ∷ slice_index page 5 ∷ slice_index page 6 ∷ slice_index page 7 ∷ slice_index page 8 ∷ slice_index page 9
    ∷ slice_index page 10 ∷ work

first_part : (page work : List ℕ) (k : ℕ) → k < 11 → slice_index (parts page work) k ≡ slice_index page k
first_part page work (suc (suc (suc (suc (suc (suc (suc (suc (suc (suc (suc k))))))))))) less = absurd (omega arith)
first_part page work _ less = refl

pub parts_are : (page work : List ℕ) (mem : ℕ → ℕ) → over (parts page work) mem ≡ laid page (worked work mem)
parts_are page work mem = fun_ext (λ b. by b (in_part b) refl (in_page b) refl (is_work b) refl)
  where
    by : (b : ℕ) (t : Bool) → in_part b ≡ t → (u : Bool) → in_page b ≡ u → (w : Bool) → is_work b ≡ w
        → (if t then slice_index (parts page work) (b - 0x10) else if in_code b then slice_index code (b - 0x6800) else mem b)
        ≡ (if u then slice_index page (b - 0x10) else if in_code b then slice_index code (b - 0x6800)
        else if w then slice_index work (b - 0x1B) else mem b)
    by b t ts true us w ws =
        let e = both_true (nat_le 0x10 b) (nat_lt b 0x1B) us in let high = leb-true (suc b) 0x1B e.1 in
        let low = leb-true 0x10 b e.0 in let f = le-leb (suc b) 0x21 (omega (arith, high)) in
        let it : t ≡ true = sym ts ∙ ap (λ (k : Bool). k && nat_lt b 0x21) e.0 ∙ f in
        ap (λ (t : Bool). if t then slice_index (parts page work) (b - 0x10) else if in_code b then slice_index code (b - 0x6800)
        else mem b) it ∙ first_part page work (b - 0x10) (omega (arith, low, high))
    by b t ts false us true ws =
        let e = both_true (nat_le 0x1B b) (nat_lt b 0x21) ws in let low = leb-true 0x1B b e.0 in
        let high = leb-true (suc b) 0x21 e.1 in let f = le-leb 0x10 b (omega (arith, low)) in
        let it : t ≡ true = sym ts ∙ ap (λ (k : Bool). k && nat_lt b 0x21) f ∙ e.1 in
        let off : in_code b ≡ false = ap (λ (k : Bool). k && nat_lt b 0x6A87) (le_not 0x6800 b (omega (arith, high))) in
        let back : b - 0x10 ≡ 11 + (b - 0x1B) = omega (arith, low) in
        ap (λ (t : Bool). if t then slice_index (parts page work) (b - 0x10) else if in_code b then slice_index code (b - 0x6800)
        else mem b) it ∙ ap (slice_index (parts page work)) back ∙ later (b - 0x1B)
        ∙ sym (ap (λ (t : Bool). if t then slice_index code (b - 0x6800) else slice_index work (b - 0x1B)) off)
      where
        later : (k : ℕ) → slice_index (parts page work) (11 + k) ≡ slice_index work k
        later k = let e : 11 + k ≡ suc (suc (suc (suc (suc (suc (suc (suc (suc (suc (suc k)))))))))) = omega arith in
            ap (slice_index (parts page work)) e
    by b false ts false us false ws = refl
    by b true ts false us false ws = absurd (neither (nat_le 0x10 b) (nat_lt b 0x21) (nat_lt b 0x1B) (nat_le 0x1B b) ts us ws
        (λ more. le-leb 0x1B b (let e = leb-false (suc b) 0x1B more in omega (arith, e))))
      where
        neither : (low high less up : Bool) → (low && high) ≡ true → (low && less) ≡ false → (up && high) ≡ false
            → (less ≡ false → up ≡ true) → ⊥
        neither true true true up a b c d = cc
        neither true true false true a b c d = cc
        neither true true false false a b c d = let e = d refl in cc
        neither true false less up a b c d = cc
        neither false high less up a b c d = cc

-- a memory that has these bytes there
pub work_is : (work : List ℕ) (m : ℕ → ℕ) → ((k : ℕ) → k < 6 → slice_index work k ≡ m (0x1B + k)) → worked work m ≡ m
work_is work m are = fun_ext (λ b. by b (is_work b) refl)
  where
    by : (b : ℕ) (t : Bool) → is_work b ≡ t → (if t then slice_index work (b - 0x1B) else m b) ≡ m b
    by b false is = refl
    by b true is =
        let two = both_true (nat_le 0x1B b) (nat_lt b 0x21) is in let low = leb-true 0x1B b two.0 in
        let high = leb-true (suc b) 0x21 two.1 in let back : 0x1B + (b - 0x1B) ≡ b = omega (arith, low) in
        are (b - 0x1B) (omega (arith, low, high)) ∙ ap m back

-- a call, where such bytes stay as they are
pub comes_apart : (q s : ℕ) (c : Bool) (it : Sym) (from : Cpu) (page page' work : List ℕ) (m : ℕ → ℕ) (events : List Access)
    {reads : List ℕ} → changed (laid page (worked work it.cpu.mem)) it.cpu ≡ from → it.page ≡ parts page work
    → worked work m ≡ m
    → Comes q (full it) s c (over (parts page' work) m) events reads → Comes q from s c (laid page' m) events reads
comes_apart q s c it from page page' work m events {reads = reads} start paged kept did =
    subst (λ (k : Cpu). Comes q k s c (laid page' m) events reads)
    (ap (λ p. changed (over p it.cpu.mem) it.cpu) paged
    ∙ ap (λ (k : ℕ → ℕ). changed k it.cpu) (parts_are page work it.cpu.mem) ∙ start)
    (subst (λ (k : ℕ → ℕ). Comes q (full it) s c k events reads) (parts_are page' work m ∙ ap (laid page') kept) did)
