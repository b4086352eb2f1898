-- dvg_vector from its entry to dvg_put, to dvg_pair, or to its refusal.
use Rattle.std.proofs.Common.{◌≡◌, ℕ, suc, ◌+◌, ◌-◌, ◌*◌, ◌/◌, ◌%◌, ◌<◌, ◌≤◌, Bool, true, false, not, List, [], ◌∷◌}
use Rattle.std.proofs.Common.{length, refl, sym, ap, ◌∙◌, subst, arith, eqb-true, le-leb, leb-true}
use Rattle.std.proofs.Math.Path.{fun_ext}
use Rattle.std.proofs.lemmas.Bool.{ne_eqb, leb-false, eqb-false}
use Rattle.std.specs.Prelude.{nat_eq, nat_le, nat_lt, if◌then◌else◌, ◌&&◌, slice_index, bit_and, bit_or, bit_xor}
use Rattle.dvg_calls_6502.specs.Processor.{Cpu, Access, run}
use Rattle.dvg_calls_6502.specs.Code.{code}
use Rattle.dvg_calls_6502.specs.Board.{seen}
use Rattle.dvg_calls_6502.specs.Amid.{is_work, is_kept, are_steady}
use Rattle.dvg_calls_6502.proofs.ProcessorRuns.{at, run_more, steady_more, IsSteady}
use Rattle.dvg_calls_6502.proofs.Memory.{laid, in_page, in_code, AreSmall, both_true, le_not}
use Rattle.dvg_calls_6502.proofs.Masks.{turned, signed}
use Rattle.dvg_calls_6502.proofs.Follow.{Sym, Way, Goes, Owes, full, over, in_part, follow, steadily}
use Rattle.dvg_calls_6502.proofs.Sound.{runs, sees, is_steadily}
pub use Rattle.dvg_calls_6502.proofs.Parts.{worked, parts, parts_are}

-- the run comes from one state to another one, touches no hardware, and takes guarded bytes alone
pub record Led (q : ℕ) (from : Cpu) (to : List Access → Cpu) : Type 0 where
  pub steps : ℕ
  pub log : List Access
  pub is : run q steps from ≡ to log
  pub steady : IsSteady q steps [] from
  pub quiet : seen log ≡ []

pub joined : (q : ℕ) (from : Cpu) (mid to : List Access → Cpu) → (one : Led q from mid) → Led q (mid one.log) to
    → Led q from to
joined q from mid to one two = record {
  steps = two.steps + one.steps;
  log = two.log;
  is = run_more q one.steps two.steps from ∙ ap (run q two.steps) one.is ∙ two.is;
  steady = λ tables is. steady_more (is_kept tables) q one.steps two.steps from (one.steady tables is)
      (ap (are_steady (is_kept tables) q two.steps) one.is ∙ two.steady tables is);
  quiet = two.quiet;
}

pub more : (q : ℕ) (from : Cpu) (mid to : List Access → Cpu) → Led q from mid
    → ((log : List Access) → seen log ≡ [] → Led q (mid log) to) → Led q from to
more q from mid to one rest = joined q from mid to one (rest one.log one.quiet)

-- of dvg_x (true) and dvg_y: what X is for it, and after it
abbrev axis : Bool → ℕ
axis true = 2
axis false = 0

abbrev down : Bool → ℕ
down true = 0
down false = 254

-- a number of two bytes, below zero or not: its magnitude, and its high byte with the sign
abbrev pub magnitude : Bool → ℕ → ℕ
magnitude true w = 65536 - w
magnitude false w = w

abbrev pub high_of : Bool → ℕ → ℕ
high_of true w = 4 + magnitude true w / 256
high_of false w = magnitude false w / 256

abbrev less : ℕ → ℕ
less b = (b + 255) % 256

-- below zero: the high byte is one less where the low one is zero; then each bit goes the other way
abbrev left : Bool → ℕ → ℕ
left true hi = less hi
left false hi = hi

abbrev other_way : ℕ → ℕ
other_way b = bit_xor b 0xFF

module _ (q y s l len : ℕ) (v d i : Bool) (page : List ℕ) (mem flags : ℕ → ℕ) where
  abbrev pub here : (pc a x : ℕ) (n z c : Bool) (work : List ℕ) → List Access → Cpu
  here pc a x n z c work log = at pc a x y s n z c v d i (laid page (worked work mem)) flags log

  -- as a state to begin with
  abbrev it : (pc a x : ℕ) (n z c v : Bool) (work : List ℕ) → List Access → Sym
  it pc a x n z c v work log =
      record { cpu = at pc a x y s n z c v d i mem flags log; page = parts page work; events = [] }

  abbrev rest_of : List ℕ → List ℕ
  rest_of page = slice_index page 11 ∷ slice_index page 12 ∷ slice_index page 13 ∷ slice_index page 14 ∷ slice_index page 15
      ∷ slice_index page 16 ∷ []

  -- a path from there
  walk : (n : ℕ) (ways : List Way) (pc a x : ℕ) (nn z c : Bool) (work : List ℕ) (log : List Access) → seen log ≡ []
      → let from = it pc a x nn z c v work log in let e = follow n ways from in Owes n ways from
      → e ≡ it e.cpu.pc e.cpu.a e.cpu.x e.cpu.n e.cpu.z e.cpu.c e.cpu.v (rest_of e.page) e.cpu.log
      → ((tables : ℕ → Bool) → steadily (is_kept tables) q n ways from ≡ true)
      → Led q (here pc a x nn z c work log)
      (at e.cpu.pc e.cpu.a e.cpu.x y s e.cpu.n e.cpu.z e.cpu.c e.cpu.v d i (laid page (worked (rest_of e.page) mem)) flags)
  walk n ways pc a x nn z c work log quiet o is steady =
      let from = it pc a x nn z c v work log in let e = follow n ways from in
      let start : full from ≡ here pc a x nn z c work log =
      ap (λ (m : ℕ → ℕ). at pc a x y s nn z c v d i m flags log) (parts_are page work mem) in
      record {
        steps = n;
        log = e.cpu.log;
        is = sym (ap (run q n) start) ∙ runs q n ways from o ∙ ap full is
            ∙ ap (λ (m : ℕ → ℕ). at e.cpu.pc e.cpu.a e.cpu.x y s e.cpu.n e.cpu.z e.cpu.c e.cpu.v d i m flags e.cpu.log)
            (parts_are page (rest_of e.page) mem);
        steady = λ tables held. subst (λ (k : Cpu). are_steady (is_kept tables) q n k ≡ true) start
            (is_steadily (is_kept tables) q n ways from o (steady tables));
        quiet = sees n ways from o quiet ∙ ap (λ (k : Sym). k.events) is;
      }

  -- the bytes of both numbers, where one of them is this one
  abbrev pair : Bool → (o0 o1 lo hi : ℕ) → List ℕ
  pair true o0 o1 lo hi = o0 ∷ o1 ∷ lo ∷ hi ∷ l ∷ len ∷ []
  pair false o0 o1 lo hi = lo ∷ hi ∷ o0 ∷ o1 ∷ l ∷ len ∷ []

  -- after an axis
  abbrev turned_to : (t : Bool) (o0 o1 lo hi : ℕ) → List Access → Cpu
  turned_to t o0 o1 lo hi = here 0x6A45 hi (down t) (nat_le 128 (down t)) (nat_eq (down t) 0) false (pair t o0 o1 lo hi)

  -- there is no such vector
  pub record Beyond (from : Cpu) : Type 0 where
    pub a : ℕ
    pub x : ℕ
    pub n : Bool
    pub z : Bool
    pub work : List ℕ
    pub small : AreSmall work
    pub led : Led q from (here 0x6A85 a x n z true work)

  pub beyond_more : (from : Cpu) (mid : List Access → Cpu) → Led q from mid
      → ((log : List Access) → seen log ≡ [] → Beyond (mid log)) → Beyond from
  beyond_more from mid one rest =
      let two = rest one.log one.quiet in
      record {
        a = two.a;
        x = two.x;
        n = two.n;
        z = two.z;
        work = two.work;
        small = two.small;
        led = joined q from mid (here 0x6A85 two.a two.x two.n two.z true two.work) one two.led;
      }

  -- one axis
  module _ (o0 o1 a lo hi : ℕ) (n z c : Bool) (log : List Access) (quiet : seen log ≡ []) where
    abbrev from_axis : Bool → Cpu
    from_axis t = here 0x6A1F a (axis t) n z c (pair t o0 o1 lo hi) log

    abbrev beyond : Bool → ℕ → List ℕ → List Access → Cpu
    beyond t h = here 0x6A85 h (axis t) (nat_le 128 ((h + 256 - 4) % 256)) (nat_eq ((h + 256 - 4) % 256) 0) true

    -- it isn't below zero
    plus_in : (t : Bool) → nat_le 128 hi ≡ false → nat_le 4 hi ≡ false → Led q (from_axis t) (turned_to t o0 o1 lo hi)
    plus_in true is few = walk 7 (Goes true ∷ Goes false ∷ []) 0x6A1F a 2 n z c (pair true o0 o1 lo hi) log quiet
        (ap not is, (few, tt)) refl (λ tables. refl)
    plus_in false is few = walk 7 (Goes true ∷ Goes false ∷ []) 0x6A1F a 0 n z c (pair false o0 o1 lo hi) log quiet
        (ap not is, (few, tt)) refl (λ tables. refl)

    plus_out : (t : Bool) → nat_le 128 hi ≡ false → nat_le 4 hi ≡ true → Led q (from_axis t) (beyond t hi (pair t o0 o1 lo hi))
    plus_out true is many = walk 4 (Goes true ∷ Goes true ∷ []) 0x6A1F a 2 n z c (pair true o0 o1 lo hi) log quiet
        (ap not is, (many, tt)) refl (λ tables. refl)
    plus_out false is many = walk 4 (Goes true ∷ Goes true ∷ []) 0x6A1F a 0 n z c (pair false o0 o1 lo hi) log quiet
        (ap not is, (many, tt)) refl (λ tables. refl)

    -- it is
    abbrev high : Bool → ℕ
    high none = other_way (left none hi)

    minus_goes : (t none : Bool) → nat_le 128 hi ≡ true → nat_eq lo 0 ≡ none → nat_le 4 (high none) ≡ false
        → nat_eq (bit_or (high none) 4) 0 ≡ false
        → Led q (from_axis t) (turned_to t o0 o1 (other_way (less lo)) (bit_or (high none) 4))
    minus_goes true true is low few some = walk 18 (Goes false ∷ Goes false ∷ Goes false ∷ Goes true ∷ []) 0x6A1F a 2 n z c (pair true o0 o1 lo hi) log quiet
        (ap not is, (ap not low, (few, (ap not some, tt)))) refl (λ tables. refl)
    minus_goes true false is low few some = walk 17 (Goes false ∷ Goes true ∷ Goes false ∷ Goes true ∷ []) 0x6A1F a 2 n z c (pair true o0 o1 lo hi) log quiet
        (ap not is, (ap not low, (few, (ap not some, tt)))) refl (λ tables. refl)
    minus_goes false true is low few some = walk 18 (Goes false ∷ Goes false ∷ Goes false ∷ Goes true ∷ []) 0x6A1F a 0 n z c (pair false o0 o1 lo hi) log quiet
        (ap not is, (ap not low, (few, (ap not some, tt)))) refl (λ tables. refl)
    minus_goes false false is low few some = walk 17 (Goes false ∷ Goes true ∷ Goes false ∷ Goes true ∷ []) 0x6A1F a 0 n z c (pair false o0 o1 lo hi) log quiet
        (ap not is, (ap not low, (few, (ap not some, tt)))) refl (λ tables. refl)

    minus_out : (t none : Bool) → nat_le 128 hi ≡ true → nat_eq lo 0 ≡ none → nat_le 4 (high none) ≡ true
        → Led q (from_axis t) (beyond t (high none) (pair t o0 o1 (other_way (less lo)) (left none hi)))
    minus_out true true is low many = walk 13 (Goes false ∷ Goes false ∷ Goes true ∷ []) 0x6A1F a 2 n z c (pair true o0 o1 lo hi) log quiet
        (ap not is, (ap not low, (many, tt))) refl (λ tables. refl)
    minus_out true false is low many = walk 12 (Goes false ∷ Goes true ∷ Goes true ∷ []) 0x6A1F a 2 n z c (pair true o0 o1 lo hi) log quiet
        (ap not is, (ap not low, (many, tt))) refl (λ tables. refl)
    minus_out false true is low many = walk 13 (Goes false ∷ Goes false ∷ Goes true ∷ []) 0x6A1F a 0 n z c (pair false o0 o1 lo hi) log quiet
        (ap not is, (ap not low, (many, tt))) refl (λ tables. refl)
    minus_out false false is low many = walk 12 (Goes false ∷ Goes true ∷ Goes true ∷ []) 0x6A1F a 0 n z c (pair false o0 o1 lo hi) log quiet
        (ap not is, (ap not low, (many, tt))) refl (λ tables. refl)

    -- by its magnitude
    module _ (t : Bool) (lo_small : lo < 256) (hi_small : hi < 256) where
      abbrev w : ℕ
      w = lo + 256 * hi

      lessened : (none : Bool) → nat_eq lo 0 ≡ none → nat_le 128 hi ≡ true
          → (left none hi < 256) × (255 - less lo ≡ (65536 - w) % 256) × (255 - left none hi ≡ (65536 - w) / 256)
      lessened true none is = let e = eqb-true lo 0 none in let great = leb-true 128 hi is in
          (omega arith, omega (arith, e, hi_small), omega (arith, e, hi_small, great))
      lessened false some is = let positive : 1 ≤ lo = let e = eqb-false lo 0 some in omega (arith, e) in
          (hi_small, omega (arith, positive, lo_small, hi_small), omega (arith, positive, lo_small, hi_small))

      abbrev none : Bool
      none = nat_eq lo 0

      axis_in : (m : Bool) → nat_le 128 hi ≡ m → magnitude m w ≤ 1023
          → Led q (from_axis t) (turned_to t o0 o1 (magnitude m w % 256) (high_of m w))
      axis_in false is fits =
          let lo_is : lo ≡ w % 256 = omega (arith, lo_small) in
          let hi_is : hi ≡ w / 256 = omega (arith, lo_small) in
          subst (λ k. Led q (from_axis t) (turned_to t o0 o1 k (w / 256))) lo_is
          (subst (λ k. Led q (from_axis t) (turned_to t o0 o1 lo k)) hi_is (plus_in t is (le_not 4 hi (omega (arith, fits)))))
      axis_in true is fits =
          let l = lessened none refl is in
          let few : 255 - left none hi < 4 = let e = l.2 in omega (arith, e, fits) in
          let h_is = turned (left none hi) l.0 in
          let up_is = ap (λ k. bit_or k 4) h_is ∙ signed (255 - left none hi) few ∙ ap (λ k. 4 + k) l.2 in
          let lo_is = turned (less lo) (omega arith) ∙ l.1 in
          subst (λ k. Led q (from_axis t) (turned_to t o0 o1 k (4 + (65536 - w) / 256))) lo_is
          (subst (λ k. Led q (from_axis t) (turned_to t o0 o1 (other_way (less lo)) k)) up_is
          (minus_goes t none is refl (ap (nat_le 4) h_is ∙ le_not 4 (255 - left none hi) few)
          (ne_eqb (bit_or (high none) 4) 0 (λ zero. absurd (omega (arith, zero, up_is))))))

      -- the bytes are bytes; and the others of that number, too
      axis_out : (m : Bool) → nat_le 128 hi ≡ m → 1023 < magnitude m w
          → ((l h : ℕ) → l < 256 → h < 256 → AreSmall (pair t o0 o1 l h)) → Beyond (from_axis t)
      axis_out false is above small = record {
        a = hi;
        x = axis t;
        n = nat_le 128 ((hi + 256 - 4) % 256);
        z = nat_eq ((hi + 256 - 4) % 256) 0;
        work = pair t o0 o1 lo hi;
        small = small lo hi lo_small hi_small;
        led = plus_out t is (le-leb 4 hi (omega (arith, above, lo_small)));
      }
      axis_out true is above small =
          let l = lessened none refl is in
          let h_is = turned (left none hi) l.0 in
          record {
            a = high none;
            x = axis t;
            n = nat_le 128 ((high none + 256 - 4) % 256);
            z = nat_eq ((high none + 256 - 4) % 256) 0;
            work = pair t o0 o1 (other_way (less lo)) (left none hi);
            small = small (other_way (less lo)) (left none hi) (let e = turned (less lo) (omega arith) in omega (arith, e)) l.0;
            led = minus_out t none is refl (ap (nat_le 4) h_is
                ∙ le-leb 4 (255 - left none hi) (let e = l.2 in omega (arith, e, above)));
          }

  -- both numbers, with their signs
  abbrev pub both : (y0 y1 x0 x1 : ℕ) → List ℕ
  both y0 y1 x0 x1 = y0 ∷ y1 ∷ x0 ∷ x1 ∷ l ∷ len ∷ []

  -- on to dvg_y, and after it
  turns_to_y : (y0 y1 x0 x1 : ℕ) (log : List Access) → seen log ≡ []
      → Led q (turned_to true y0 y1 x0 x1 log) (here 0x6A1F x1 0 false true false (both y0 y1 x0 x1))
  turns_to_y y0 y1 x0 x1 log quiet = walk 1 (Goes true ∷ []) 0x6A45 x1 0 false true false (both y0 y1 x0 x1) log quiet
      (refl, tt) refl (λ tables. refl)

  goes_on : (y0 y1 x0 x1 : ℕ) (log : List Access) → seen log ≡ []
      → Led q (turned_to false x0 x1 y0 y1 log) (here 0x6A47 y1 254 true false false (both y0 y1 x0 x1))
  goes_on y0 y1 x0 x1 log quiet = walk 1 (Goes false ∷ []) 0x6A45 y1 254 true false false (both y0 y1 x0 x1) log quiet
      (refl, tt) refl (λ tables. refl)

  -- from the first number on
  module _ (y0 y1 x0 x1 : ℕ) (y0_small : y0 < 256) (y1_small : y1 < 256) (x0_small : x0 < 256) (x1_small : x1 < 256)
      (l_small : l < 256) (len_small : len < 256) (my mx : Bool) (y_is : nat_le 128 y1 ≡ my) (x_is : nat_le 128 x1 ≡ mx)
      (a : ℕ) (n z c : Bool) (log : List Access) (quiet : seen log ≡ []) where
    abbrev at_first : Cpu
    at_first = here 0x6A1F a 2 n z c (both y0 y1 x0 x1) log

    abbrev pub dx : ℕ
    dx = magnitude mx (x0 + 256 * x1)

    abbrev pub dy : ℕ
    dy = magnitude my (y0 + 256 * y1)

    abbrev pub hx : ℕ
    hx = high_of mx (x0 + 256 * x1)

    abbrev pub hy : ℕ
    hy = high_of my (y0 + 256 * y1)

    abbrev at_second : List Access → Cpu
    at_second = here 0x6A1F hx 0 false true false (both y0 y1 (dx % 256) hx)

    hx_small : dx ≤ 1023 → hx < 256
    hx_small fits = by mx fits
      where
        by : (m : Bool) → magnitude m (x0 + 256 * x1) ≤ 1023 → high_of m (x0 + 256 * x1) < 256
        by true fits = omega (arith, fits)
        by false fits = omega (arith, fits)

    first_in : dx ≤ 1023 → Led q at_first at_second
    first_in fits = more q at_first (turned_to true y0 y1 (dx % 256) hx) at_second
        (axis_in y0 y1 a x0 x1 n z c log quiet true x0_small x1_small mx x_is fits)
        (λ log1 quiet1. turns_to_y y0 y1 (dx % 256) hx log1 quiet1)

    pub both_in : dx ≤ 1023 → dy ≤ 1023
        → Led q at_first (here 0x6A47 hy 254 true false false (both (dy % 256) hy (dx % 256) hx))
    both_in fits_x fits_y =
        more q at_first at_second (here 0x6A47 hy 254 true false false (both (dy % 256) hy (dx % 256) hx)) (first_in fits_x)
        (λ log1 quiet1. more q (at_second log1) (turned_to false (dx % 256) hx (dy % 256) hy)
        (here 0x6A47 hy 254 true false false (both (dy % 256) hy (dx % 256) hx))
        (axis_in (dx % 256) hx hx y0 y1 false true false log1 quiet1 false y0_small y1_small my y_is fits_y)
        (λ log2 quiet2. goes_on (dy % 256) hy (dx % 256) hx log2 quiet2))

    pub first_out : 1023 < dx → Beyond at_first
    first_out above = axis_out y0 y1 a x0 x1 n z c log quiet true x0_small x1_small mx x_is above
        (λ low high low_small high_small. (y0_small, (y1_small, (low_small, (high_small, (l_small, (len_small, tt)))))))

    pub second_out : dx ≤ 1023 → 1023 < dy → Beyond at_first
    second_out fits above = beyond_more at_first at_second (first_in fits)
        (λ log1 quiet1. axis_out (dx % 256) hx hx y0 y1 false true false log1 quiet1 false y0_small y1_small my y_is above
        (λ low high low_small high_small.
        (low_small, (high_small, (omega arith, (hx_small fits, (l_small, (len_small, tt))))))))

  -- from the entry on
  module _ (y0 y1 x0 x1 old x : ℕ) (n z c : Bool) (log : List Access) (quiet : seen log ≡ []) where
    abbrev first_work : List ℕ
    first_work = y0 ∷ y1 ∷ x0 ∷ x1 ∷ l ∷ old ∷ []

    abbrev at_entry : Cpu
    at_entry = here 0x6A17 len x n z c first_work log

    pub scale_out : nat_le 0xA0 len ≡ true → AreSmall first_work → Beyond at_entry
    scale_out is small = record {
      a = len;
      x = x;
      n = nat_le 128 ((len + 256 - 0xA0) % 256);
      z = nat_eq ((len + 256 - 0xA0) % 256) 0;
      work = first_work;
      small = small;
      led = walk 2 (Goes true ∷ []) 0x6A17 len x n z c first_work log quiet (is, tt) refl (λ tables. refl);
    }

    pub scale_in : nat_le 0xA0 len ≡ false
        → Led q at_entry (here 0x6A1F len 2 false false false (both y0 y1 x0 x1))
    scale_in is = walk 4 (Goes false ∷ []) 0x6A17 len x n z c first_work log quiet (is, tt) refl (λ tables. refl)

  -- the words
  -- the intensity, shifted
  abbrev twice : ℕ → ℕ
  twice b = 2 * b % 256

  abbrev shifted : ℕ
  shifted = twice (twice (twice (twice len)))

  pub record ToPut (from : Cpu) (a x : ℕ) (work : List ℕ) : Type 0 where
    pub n : Bool
    pub z : Bool
    pub c : Bool
    pub v' : Bool
    pub led : Led q from (at 0x6957 a x y s n z c v' d i (laid page (worked work mem)) flags)

  pub record ToPair (from : Cpu) (work : List ℕ) : Type 0 where
    pub a : ℕ
    pub x : ℕ
    pub n : Bool
    pub z : Bool
    pub c : Bool
    pub led : Led q from (here 0x6989 a x n z c work)

  pub put_more : (from : Cpu) (mid : List Access → Cpu) (a x : ℕ) (work : List ℕ) → Led q from mid
      → ((log : List Access) → seen log ≡ [] → ToPut (mid log) a x work) → ToPut from a x work
  put_more from mid a x work one rest =
      let two = rest one.log one.quiet in
      record {
        n = two.n;
        z = two.z;
        c = two.c;
        v' = two.v';
        led = joined q from mid (at 0x6957 a x y s two.n two.z two.c two.v' d i (laid page (worked work mem)) flags) one two.led;
      }

  pub pair_more : (from : Cpu) (mid : List Access → Cpu) (work : List ℕ) → Led q from mid
      → ((log : List Access) → seen log ≡ [] → ToPair (mid log) work) → ToPair from work
  pair_more from mid work one rest =
      let two = rest one.log one.quiet in
      record {
        a = two.a;
        x = two.x;
        n = two.n;
        z = two.z;
        c = two.c;
        led = joined q from mid (here 0x6989 two.a two.x two.n two.z two.c work) one two.led;
      }

  module _ (y0 y1 x0 x1 : ℕ) (log : List Access) (quiet : seen log ≡ []) where
    abbrev high_byte : ℕ
    high_byte = bit_or (bit_or (bit_and len 0x10 / 2) y1) 0xF0

    abbrev large : Bool → ℕ
    large true = bit_or (bit_or shifted x1) 8
    large false = bit_or shifted x1

    abbrev long_work : List ℕ
    long_work = both y0 (bit_or (bit_and len 0xF0) y1) x0 (bit_or shifted x1)

    abbrev from_words : Cpu
    from_words = here 0x6A47 y1 254 true false false (both y0 y1 x0 x1) log

    pub long_some : nat_eq (bit_or y0 x0) 0 ≡ false → ToPair from_words long_work
    long_some some = record {
      a = _;
      x = _;
      n = _;
      z = _;
      c = _;
      led = walk 15 (Goes true ∷ []) 0x6A47 y1 254 true false false (both y0 y1 x0 x1) log quiet
          (ap not some, tt) refl (λ tables. refl);
    }

    pub long_small : nat_eq (bit_or y0 x0) 0 ≡ true → nat_le 0x20 len ≡ false → ToPair from_words long_work
    long_small none less = record {
      a = _;
      x = _;
      n = _;
      z = _;
      c = _;
      led = walk 18 (Goes false ∷ Goes true ∷ []) 0x6A47 y1 254 true false false (both y0 y1 x0 x1) log quiet
          (ap not none, (ap not less, tt)) refl (λ tables. refl);
    }

    pub long_large : nat_eq (bit_or y0 x0) 0 ≡ true → nat_le 0x20 len ≡ true → nat_le 0x60 len ≡ true
        → ToPair from_words long_work
    long_large none two above = record {
      a = _;
      x = _;
      n = _;
      z = _;
      c = _;
      led = walk 20 (Goes false ∷ Goes false ∷ Goes true ∷ []) 0x6A47 y1 254 true false false (both y0 y1 x0 x1) log quiet
          (ap not none, (ap not two, (above, tt))) refl (λ tables. refl);
    }

    pub short_fits : nat_eq (bit_or y0 x0) 0 ≡ true → nat_le 0x20 len ≡ true → nat_le 0x60 len ≡ false
        → (t : Bool) → nat_le 64 (len % 128) ≡ t → ToPut from_words (large t) high_byte (both y0 y1 x0 x1)
    short_fits none two five true is = record {
      n = _;
      z = _;
      c = _;
      v' = _;
      led = walk 23 (Goes false ∷ Goes false ∷ Goes false ∷ Goes false ∷ []) 0x6A47 y1 254 true false false (both y0 y1 x0 x1) log quiet
          (ap not none, (ap not two, (five, (ap not is, tt)))) refl (λ tables. refl);
    }
    short_fits none two five false is = record {
      n = _;
      z = _;
      c = _;
      v' = _;
      led = walk 22 (Goes false ∷ Goes false ∷ Goes false ∷ Goes true ∷ []) 0x6A47 y1 254 true false false (both y0 y1 x0 x1) log quiet
          (ap not none, (ap not two, (five, (ap not is, tt)))) refl (λ tables. refl);
    }
