-- dvg_vector, from its entry to dvg_put, to dvg_pair, or to its refusal.
use Rattle.std.proofs.Common.{◌≡◌, ℕ, ◌+◌, ◌-◌, ◌*◌, ◌/◌, ◌%◌, ◌<◌, ◌≤◌, Bool, true, false, List, [], ◌∷◌}
use Rattle.std.proofs.Common.{refl, sym, ap, ◌∙◌, arith, eqb-true, leb-true, le-leb}
use Rattle.std.proofs.lemmas.Bool.{leb-false}
use Rattle.std.specs.Prelude.{nat_eq, nat_le, ◌&&◌, if◌then◌else◌, bit_and, bit_or, ℤ, pos, negsuc, unsigned_abs}
use Rattle.dvg_code.specs.declared.instr.Instr.TheVariants.{Vctr, Svec}
use Rattle.dvg_code.specs.Spelling.{sign_bit}
use Rattle.dvg_frame.specs.declared.op.OpKind.TheVariants.{Draw}
use Rattle.dvg_calls_6502.specs.Processor.{Cpu, Access}
use Rattle.dvg_calls_6502.specs.Board.{seen}
use Rattle.dvg_calls_6502.specs.Tables.{table_of}
use Rattle.dvg_calls_6502.specs.Moves.{number, is_vector, is_short, in_256s, vector, vector_bytes}
use Rattle.dvg_calls_6502.proofs.Memory.{AreSmall, both_true, le_not}
use Rattle.dvg_calls_6502.proofs.Masks.{both_zero, topped, lowered, eighted, shortened}
use Rattle.dvg_calls_6502.proofs.VectorRun.{Led, more, magnitude, high_of, here, Beyond, both_in}
use Rattle.dvg_calls_6502.proofs.VectorRun.{first_out, second_out, scale_out, scale_in, beyond_more}
use Rattle.dvg_calls_6502.proofs.VectorRun.{ToPut, ToPair, long_some, long_small, long_large, short_fits, put_more, pair_more}

-- a number by its sign and its word
abbrev pub signed_of : Bool → ℕ → ℤ
signed_of true w = negsuc (65535 - w)
signed_of false w = pos w

abbrev bit : Bool → ℕ
bit true = 1
bit false = 0

number_is : (low high : ℕ) (m : Bool) → nat_le 128 high ≡ m → number low high ≡ signed_of m (low + 256 * high)
number_is low high true is = ap (λ (t : Bool). if t then negsuc (65535 - (low + 256 * high)) else pos (low + 256 * high)) is
number_is low high false is = ap (λ (t : Bool). if t then negsuc (65535 - (low + 256 * high)) else pos (low + 256 * high)) is

abs_is : (m : Bool) (w : ℕ) → w < 65536 → unsigned_abs (signed_of m w) ≡ magnitude m w
abs_is true w small = omega (arith, small)
abs_is false w small = refl

sign_is : (m : Bool) (w : ℕ) → sign_bit (signed_of m w) ≡ bit m
sign_is true w = refl
sign_is false w = refl

-- the same in 256s
in_256s_is : (m : Bool) (w : ℕ) → w < 65536 → magnitude m w % 256 ≡ 0
    → (unsigned_abs (in_256s (signed_of m w)) ≡ magnitude m w / 256) × (sign_bit (in_256s (signed_of m w)) ≡ bit m)
in_256s_is true w small whole = (omega (arith, small, whole), refl)
in_256s_is false w small whole = (refl, refl)

high_is : (m : Bool) (w : ℕ) → high_of m w ≡ 4 * bit m + magnitude m w / 256
high_is true w = refl
high_is false w = omega arith

four : {b0 b1 b2 b3 c0 c1 c2 c3 : ℕ} → b0 ≡ c0 → b1 ≡ c1 → b2 ≡ c2 → b3 ≡ c3
    → ◌≡◌ {A = List ℕ} (b0 ∷ b1 ∷ b2 ∷ b3 ∷ []) (c0 ∷ c1 ∷ c2 ∷ c3 ∷ [])
four {b1 = b1} {b2 = b2} {b3 = b3} {c0 = c0} {c1 = c1} {c2 = c2} e0 e1 e2 e3 =
    ap (λ b. b ∷ b1 ∷ b2 ∷ b3 ∷ []) e0 ∙ ap (λ b. c0 ∷ b ∷ b2 ∷ b3 ∷ []) e1 ∙ ap (λ b. c0 ∷ c1 ∷ b ∷ b3 ∷ []) e2
    ∙ ap (λ b. c0 ∷ c1 ∷ c2 ∷ b ∷ []) e3

two : {b0 b1 c0 c1 : ℕ} → b0 ≡ c0 → b1 ≡ c1 → ◌≡◌ {A = List ℕ} (b0 ∷ b1 ∷ []) (c0 ∷ c1 ∷ [])
two {b1 = b1} {c0 = c0} e0 e1 = ap (λ b. b ∷ b1 ∷ []) e0 ∙ ap (λ b. c0 ∷ b ∷ []) e1

bit_small : (m : Bool) → bit m < 2
bit_small true = omega arith
bit_small false = omega arith

-- the words of a vector, by the signs and magnitudes of its moves
module _ (s z wx wy : ℕ) (mx my : Bool) (x_small : wx < 65536) (y_small : wy < 65536) (z_small : z ≤ 15) where
  abbrev x : ℤ
  x = signed_of mx wx

  abbrev y : ℤ
  y = signed_of my wy

  abbrev dx : ℕ
  dx = magnitude mx wx

  abbrev dy : ℕ
  dy = magnitude my wy

  long_bytes : dx ≤ 1023 → dy ≤ 1023 → table_of (Draw (Vctr s x y z) ∷ [])
      ≡ (dy % 256) ∷ (16 * s + high_of my wy) ∷ (dx % 256) ∷ (16 * z + high_of mx wx) ∷ []
  long_bytes fits_x fits_y =
      let ax = abs_is mx wx x_small in
      let ay = abs_is my wy y_small in
      let sx = sign_is mx wx in
      let sy = sign_is my wy in
      let hx = high_is mx wx in
      let hy = high_is my wy in
      let bx = bit_small mx in
      let by = bit_small my in
      four (low s (sign_bit y) (unsigned_abs y) (magnitude my wy) ay) (up s (sign_bit y) (unsigned_abs y) (bit my) dy (high_of my wy) sy ay hy by fits_y)
      (low z (sign_bit x) (unsigned_abs x) (magnitude mx wx) ax) (up z (sign_bit x) (unsigned_abs x) (bit mx) dx (high_of mx wx) sx ax hx bx fits_x)
    where
      low : (t g k d : ℕ) → k ≡ d → (4096 * t + 1024 * g + k) % 256 ≡ d % 256
      low t g k d e = omega (arith, e)

      up : (t g k b d h : ℕ) → g ≡ b → k ≡ d → h ≡ 4 * b + d / 256 → b < 2 → d ≤ 1023
          → (4096 * t + 1024 * g + k) / 256 ≡ 16 * t + h
      up t g k b d h eg ek eh less fits = omega (arith, eg, ek, eh, less, fits)

  short_bytes : 2 ≤ s → s ≤ 5 → dx ≤ 1023 → dy ≤ 1023 → dx % 256 ≡ 0 → dy % 256 ≡ 0
      → table_of (Draw (Svec s (in_256s x) (in_256s y) z) ∷ [])
      ≡ (16 * z + 8 * ((s - 2) / 2) + high_of mx wx) ∷ (0xF0 + 8 * ((s - 2) % 2) + high_of my wy) ∷ []
  short_bytes low_s high_s fits_x fits_y whole_x whole_y =
      let ix = in_256s_is mx wx x_small whole_x in
      let iy = in_256s_is my wy y_small whole_y in
      two (low (s - 2) (sign_bit (in_256s y)) (unsigned_abs (in_256s y)) (sign_bit (in_256s x)) (unsigned_abs (in_256s x))
      (bit mx) dx (high_of mx wx) (omega (arith, low_s, high_s)) ix.1 ix.0 (high_is mx wx) (bit_small mx) fits_x)
      (up (s - 2) (sign_bit (in_256s y)) (unsigned_abs (in_256s y)) (sign_bit (in_256s x)) (unsigned_abs (in_256s x))
      (bit mx) dx (bit my) dy (high_of my wy) (omega (arith, low_s, high_s)) ix.1 ix.0 iy.1 iy.0 (high_is my wy)
      (bit_small mx) (bit_small my) fits_x fits_y)
    where
      low : (k gy ay gx ax b d h : ℕ) → k ≤ 3 → gx ≡ b → ax ≡ d / 256 → h ≡ 4 * b + d / 256 → b < 2 → d ≤ 1023
          → (0xF000 + 2048 * (k % 2) + 1024 * gy + 256 * ay + 16 * z + 8 * (k / 2) + 4 * gx + ax) % 256
          ≡ 16 * z + 8 * (k / 2) + h
      low k gy ay gx ax b d h few eg ea eh less fits = omega (arith, few, eg, ea, eh, less, fits, z_small)

      up : (k gy ay gx ax b d b' d' h : ℕ) → k ≤ 3 → gx ≡ b → ax ≡ d / 256 → gy ≡ b' → ay ≡ d' / 256
          → h ≡ 4 * b' + d' / 256 → b < 2 → b' < 2 → d ≤ 1023 → d' ≤ 1023
          → (0xF000 + 2048 * (k % 2) + 1024 * gy + 256 * ay + 16 * z + 8 * (k / 2) + 4 * gx + ax) / 256
          ≡ 0xF0 + 8 * (k % 2) + h
      up k gy ay gx ax b d b' d' h few eg ea eg' ea' eh less less' fits fits' =
          omega (arith, few, eg, ea, eg', ea', eh, less, less', fits, fits', z_small)

-- what a call comes to: it puts nothing, one word, or two
pub data Comes (q y s l len : ℕ) (v d i : Bool) (page : List ℕ) (mem flags : ℕ → ℕ) (from : Cpu) (now : List ℕ) : Type 0 where
  no_word : now ≡ [] → Beyond q y s l len v d i page mem flags from → Comes q y s l len v d i page mem flags from now
  one_word : (b0 b1 : ℕ) (work : List ℕ) → now ≡ b0 ∷ b1 ∷ [] → b0 < 256 → b1 < 256 → AreSmall work
      → ToPut q y s l len v d i page mem flags from b0 b1 work → Comes q y s l len v d i page mem flags from now
  two_words : (b0 b1 b2 b3 : ℕ) → now ≡ b0 ∷ b1 ∷ b2 ∷ b3 ∷ [] → AreSmall (b0 ∷ b1 ∷ b2 ∷ b3 ∷ l ∷ len ∷ [])
      → ToPair q y s l len v d i page mem flags from (b0 ∷ b1 ∷ b2 ∷ b3 ∷ l ∷ len ∷ [])
      → Comes q y s l len v d i page mem flags from now

right_false : (t : Bool) → (t && false) ≡ false
right_false true = refl
right_false false = refl

second_false : (t u w : Bool) → u ≡ false → (t && (u && w)) ≡ false
second_false t u w is = ap (λ (u : Bool). t && (u && w)) is ∙ right_false t

third_false : (t u w : Bool) → w ≡ false → (t && (u && w)) ≡ false
third_false t u w is = ap (λ (w : Bool). t && (u && w)) is ∙ ap (λ (k : Bool). t && k) (right_false u) ∙ right_false t

all_three : (t u w : Bool) → t ≡ true → u ≡ true → w ≡ true → (t && (u && w)) ≡ true
all_three t u w a b c = ap (λ (t : Bool). t && (u && w)) a ∙ ap (λ (u : Bool). u && w) b ∙ c

first_of_four : (t u w k : Bool) → (t && u) ≡ false → ((t && u) && (w && k)) ≡ false
first_of_four t u w k is = ap (λ (m : Bool). m && (w && k)) is

high_small : (m : Bool) (w : ℕ) → magnitude m w ≤ 1023 → high_of m w < 8
high_small true w fits = omega (arith, fits)
high_small false w fits = omega (arith, fits)

module _ (q a x y s y0 y1 x0 x1 l old : ℕ) (n z c v d i : Bool) (page : List ℕ) (mem flags : ℕ → ℕ) (a_small : a < 256)
    (y0_small : y0 < 256) (y1_small : y1 < 256) (x0_small : x0 < 256) (x1_small : x1 < 256) (l_small : l < 256)
    (old_small : old < 256) where
  abbrev pub from : Cpu
  from = here q y s l a v d i page mem flags 0x6A17 a x n z c (y0 ∷ y1 ∷ x0 ∷ x1 ∷ l ∷ old ∷ []) []

  abbrev pub now : List ℕ
  now = vector_bytes (a / 16) (number x0 x1) (number y0 y1) (a % 16)

  abbrev pub Coming : Type 0
  Coming = Comes q y s l a v d i page mem flags from now

  -- by the signs of the moves
  module _ (mx my : Bool) (x_is : nat_le 128 x1 ≡ mx) (y_is : nat_le 128 y1 ≡ my) where
    abbrev wx : ℕ
    wx = x0 + 256 * x1

    abbrev wy : ℕ
    wy = y0 + 256 * y1

    abbrev ex : ℕ
    ex = magnitude mx wx

    abbrev ey : ℕ
    ey = magnitude my wy

    abbrev fx : ℤ
    fx = signed_of mx wx

    abbrev fy : ℤ
    fy = signed_of my wy

    wx_small : wx < 65536
    wx_small = omega (arith, x0_small, x1_small)

    wy_small : wy < 65536
    wy_small = omega (arith, y0_small, y1_small)

    now_is : now ≡ vector_bytes (a / 16) fx fy (a % 16)
    now_is = ap (λ k. vector_bytes (a / 16) k (number y0 y1) (a % 16)) (number_is x0 x1 mx x_is)
        ∙ ap (λ k. vector_bytes (a / 16) fx k (a % 16)) (number_is y0 y1 my y_is)

    no_vector : is_vector (a / 16) fx fy ≡ false → now ≡ []
    no_vector is = now_is ∙ ap (λ (t : Bool). if t then table_of (Draw (vector (a / 16) fx fy (a % 16)) ∷ []) else []) is

    abs_x : unsigned_abs fx ≡ ex
    abs_x = abs_is mx wx wx_small

    abs_y : unsigned_abs fy ≡ ey
    abs_y = abs_is my wy wy_small

    begin : nat_le 0xA0 a ≡ false → Led q from (here q y s l a v d i page mem flags 0x6A1F a 2 false false false
        (y0 ∷ y1 ∷ x0 ∷ x1 ∷ l ∷ a ∷ []))
    begin is = scale_in q y s l a v d i page mem flags y0 y1 x0 x1 old x n z c [] refl is

    abbrev at_first : List Access → Cpu
    at_first = here q y s l a v d i page mem flags 0x6A1F a 2 false false false (y0 ∷ y1 ∷ x0 ∷ x1 ∷ l ∷ a ∷ [])

    scale_above : nat_le 0xA0 a ≡ true → Coming
    scale_above is = no_word (no_vector (ap (λ (t : Bool). t && (nat_le (unsigned_abs fx) 1023 && nat_le (unsigned_abs fy) 1023))
        (le_not (a / 16) 9 (let above = leb-true 0xA0 a is in omega (arith, above)))))
        (scale_out q y s l a v d i page mem flags y0 y1 x0 x1 old x n z c [] refl is
        (y0_small, (y1_small, (x0_small, (x1_small, (l_small, (old_small, tt)))))))

    x_above : nat_le 0xA0 a ≡ false → 1023 < ex → Coming
    x_above is above = no_word (no_vector (second_false (nat_le (a / 16) 9) (nat_le (unsigned_abs fx) 1023)
        (nat_le (unsigned_abs fy) 1023) (ap (λ k. nat_le k 1023) abs_x ∙ le_not ex 1023 above)))
        (beyond_more q y s l a v d i page mem flags from at_first (begin is)
        (λ log quiet. first_out q y s l a v d i page mem flags y0 y1 x0 x1 y0_small y1_small x0_small x1_small l_small a_small
        my mx y_is x_is a false false false log quiet above))

    y_above : nat_le 0xA0 a ≡ false → ex ≤ 1023 → 1023 < ey → Coming
    y_above is fits above = no_word (no_vector (third_false (nat_le (a / 16) 9) (nat_le (unsigned_abs fx) 1023)
        (nat_le (unsigned_abs fy) 1023) (ap (λ k. nat_le k 1023) abs_y ∙ le_not ey 1023 above)))
        (beyond_more q y s l a v d i page mem flags from at_first (begin is)
        (λ log quiet. second_out q y s l a v d i page mem flags y0 y1 x0 x1 y0_small y1_small x0_small x1_small l_small a_small
        my mx y_is x_is a false false false log quiet fits above))

    -- there is such a vector
    module _ (scale_is : nat_le 0xA0 a ≡ false) (fits_x : ex ≤ 1023) (fits_y : ey ≤ 1023) where
      abbrev kx : ℕ
      kx = high_of mx wx

      abbrev ky : ℕ
      ky = high_of my wy

      kx_small : kx < 8
      kx_small = high_small mx wx fits_x

      ky_small : ky < 8
      ky_small = high_small my wy fits_y

      scale_small : a < 160
      scale_small = leb-false 0xA0 a scale_is

      fits : is_vector (a / 16) fx fy ≡ true
      fits = all_three (nat_le (a / 16) 9) (nat_le (unsigned_abs fx) 1023) (nat_le (unsigned_abs fy) 1023)
          (le-leb (a / 16) 9 (omega (arith, scale_small)))
          (ap (λ k. nat_le k 1023) abs_x ∙ le-leb ex 1023 fits_x)
          (ap (λ k. nat_le k 1023) abs_y ∙ le-leb ey 1023 fits_y)

      now_so : (t : Bool) → is_short (a / 16) fx fy ≡ t
          → now ≡ table_of (Draw (if t then Svec (a / 16) (in_256s fx) (in_256s fy) (a % 16) else Vctr (a / 16) fx fy (a % 16)) ∷ [])
      now_so t is = now_is
          ∙ ap (λ (t : Bool). if t then table_of (Draw (vector (a / 16) fx fy (a % 16)) ∷ []) else []) fits
          ∙ ap (λ (t : Bool). table_of (Draw (if t then Svec (a / 16) (in_256s fx) (in_256s fy) (a % 16)
          else Vctr (a / 16) fx fy (a % 16)) ∷ [])) is

      abbrev ly : ℕ
      ly = ey % 256

      abbrev lx : ℕ
      lx = ex % 256

      abbrev words : List Access → Cpu
      words = here q y s l a v d i page mem flags 0x6A47 ky 254 true false false (ly ∷ ky ∷ lx ∷ kx ∷ l ∷ a ∷ [])

      to_words : Led q from words
      to_words = more q from at_first words (begin scale_is)
          (λ log quiet. both_in q y s l a v d i page mem flags y0 y1 x0 x1 y0_small y1_small x0_small x1_small l_small a_small
          my mx y_is x_is a false false false log quiet fits_x fits_y)

      abbrev shifted : ℕ
      shifted = 2 * (2 * (2 * (2 * a % 256) % 256) % 256) % 256

      shifted_is : shifted ≡ 16 * (a % 16)
      shifted_is = omega (arith, a_small)

      low_is : bit_or shifted kx ≡ 16 * (a % 16) + kx
      low_is = ap (λ k. bit_or k kx) shifted_is ∙ lowered (a % 16) kx (omega arith) kx_small

      top_is : bit_or (bit_and a 0xF0) ky ≡ 16 * (a / 16) + ky
      top_is = topped a ky a_small ky_small

      -- whether both moves go by 256s, as the code and the definition look at it
      abbrev zeros : Bool
      zeros = nat_eq ly 0 && nat_eq lx 0

      zeros_code : nat_eq (bit_or ly lx) 0 ≡ zeros
      zeros_code = both_zero ly lx (omega arith) (omega arith)

      zeros_said : (nat_eq (unsigned_abs fy % 256) 0 && nat_eq (unsigned_abs fx % 256) 0) ≡ zeros
      zeros_said = ap (λ k. nat_eq (k % 256) 0 && nat_eq (unsigned_abs fx % 256) 0) abs_y
          ∙ ap (λ k. nat_eq ly 0 && nat_eq (k % 256) 0) abs_x

      abbrev wide : List ℕ
      wide = ly ∷ bit_or (bit_and a 0xF0) ky ∷ lx ∷ bit_or shifted kx ∷ l ∷ a ∷ []

      -- two words
      as_pair : is_short (a / 16) fx fy ≡ false
          → ((log : List Access) → seen log ≡ [] → ToPair q y s l a v d i page mem flags (words log) wide) → Coming
      as_pair is rest = two_words ly (bit_or (bit_and a 0xF0) ky) lx (bit_or shifted kx)
          (now_so false is ∙ long_bytes (a / 16) (a % 16) wx wy mx my wx_small wy_small (omega arith) fits_x fits_y
          ∙ four refl (sym top_is) refl (sym low_is)) (
            omega arith,
            (
              omega (arith, top_is, ky_small, a_small),
              (omega arith, (omega (arith, low_is, kx_small), (l_small, (a_small, tt)))),
            ),
          )
          (pair_more q y s l a v d i page mem flags from words wide to_words rest)

      some : zeros ≡ false → Coming
      some is = as_pair
          (first_of_four (nat_eq (unsigned_abs fy % 256) 0) (nat_eq (unsigned_abs fx % 256) 0) (nat_le 2 (a / 16))
          (nat_le (a / 16) 5) (zeros_said ∙ is))
          (λ log quiet. long_some q y s l a v d i page mem flags ly ky lx kx log quiet (zeros_code ∙ is))

      below : zeros ≡ true → nat_le 0x20 a ≡ false → Coming
      below is less = as_pair
          (second_false (nat_eq (unsigned_abs fy % 256) 0 && nat_eq (unsigned_abs fx % 256) 0) (nat_le 2 (a / 16))
          (nat_le (a / 16) 5) (le_not 2 (a / 16) (let few = leb-false 0x20 a less in omega (arith, few))))
          (λ log quiet. long_small q y s l a v d i page mem flags ly ky lx kx log quiet (zeros_code ∙ is) less)

      above : zeros ≡ true → nat_le 0x20 a ≡ true → nat_le 0x60 a ≡ true → Coming
      above is two five = as_pair
          (third_false (nat_eq (unsigned_abs fy % 256) 0 && nat_eq (unsigned_abs fx % 256) 0) (nat_le 2 (a / 16))
          (nat_le (a / 16) 5) (le_not (a / 16) 5 (let many = leb-true 0x60 a five in omega (arith, many))))
          (λ log quiet. long_large q y s l a v d i page mem flags ly ky lx kx log quiet (zeros_code ∙ is) two five)

      -- one word
      abbrev high : ℕ
      high = bit_or (bit_or (bit_and a 0x10 / 2) ky) 0xF0

      abbrev low : Bool → ℕ
      low true = bit_or (bit_or shifted kx) 8
      low false = bit_or shifted kx

      module _ (is : zeros ≡ true) (two_is : nat_le 0x20 a ≡ true) (five_is : nat_le 0x60 a ≡ false) where
        from_two : 32 ≤ a
        from_two = leb-true 0x20 a two_is

        to_five : a < 96
        to_five = leb-false 0x60 a five_is

        whole : (nat_eq ly 0 ≡ true) × (nat_eq lx 0 ≡ true)
        whole = both_true (nat_eq ly 0) (nat_eq lx 0) is

        high_so : high ≡ 0xF0 + 8 * ((a / 16 - 2) % 2) + ky
        high_so = let e = shortened a ky a_small ky_small in omega (arith, e, from_two, to_five)

        low_so : (t : Bool) → nat_le 64 (a % 128) ≡ t → low t ≡ 16 * (a % 16) + 8 * ((a / 16 - 2) / 2) + kx
        low_so true large =
            let e = ap (λ k. bit_or k 8) low_is ∙ eighted (a % 16) kx (omega arith) kx_small in
            let g = leb-true 64 (a % 128) large in omega (arith, e, g, from_two, to_five)
        low_so false less =
            let g = leb-false 64 (a % 128) less in omega (arith, low_is, g, from_two, to_five)

        short_said : is_short (a / 16) fx fy ≡ true
        short_said = all_three (nat_eq (unsigned_abs fy % 256) 0 && nat_eq (unsigned_abs fx % 256) 0) (nat_le 2 (a / 16))
            (nat_le (a / 16) 5) (zeros_said ∙ is) (le-leb 2 (a / 16) (omega (arith, from_two)))
            (le-leb (a / 16) 5 (omega (arith, to_five)))

        short_now : now ≡ (16 * (a % 16) + 8 * ((a / 16 - 2) / 2) + kx) ∷ (0xF0 + 8 * ((a / 16 - 2) % 2) + ky) ∷ []
        short_now = now_so true short_said ∙ short_bytes (a / 16) (a % 16) wx wy mx my wx_small wy_small (omega arith)
            (omega (arith, from_two)) (omega (arith, to_five)) fits_x fits_y (eqb-true lx 0 whole.1) (eqb-true ly 0 whole.0)

        fits_word : (t : Bool) → nat_le 64 (a % 128) ≡ t → Coming
        fits_word t large =
            let e = low_so t large in
            one_word (low t) high (ly ∷ ky ∷ lx ∷ kx ∷ l ∷ a ∷ []) (short_now ∙ two (sym e) (sym high_so))
            (omega (arith, e, kx_small, from_two, to_five)) (omega (arith, high_so, ky_small))
            (omega arith, (omega (arith, ky_small), (omega arith, (omega (arith, kx_small), (l_small, (a_small, tt))))))
            (puts t large)
          where
            puts : (t : Bool) → nat_le 64 (a % 128) ≡ t
                → ToPut q y s l a v d i page mem flags from (low t) high (ly ∷ ky ∷ lx ∷ kx ∷ l ∷ a ∷ [])
            puts true large = put_more q y s l a v d i page mem flags from words (low true) high _ to_words
                (λ log quiet. short_fits q y s l a v d i page mem flags ly ky lx kx log quiet (zeros_code ∙ is) two_is five_is
                true large)
            puts false large = put_more q y s l a v d i page mem flags from words (low false) high _ to_words
                (λ log quiet. short_fits q y s l a v d i page mem flags ly ky lx kx log quiet (zeros_code ∙ is) two_is five_is
                false large)

      within : Coming
      within = by zeros refl (nat_le 0x20 a) refl (nat_le 0x60 a) refl
        where
          by : (t : Bool) → zeros ≡ t → (u : Bool) → nat_le 0x20 a ≡ u → (w : Bool) → nat_le 0x60 a ≡ w → Coming
          by false is u us w ws = some is
          by true is false us w ws = below is us
          by true is true us true ws = above is us ws
          by true is true us false ws = fits_word is us ws (nat_le 64 (a % 128)) refl

    by_size : Coming
    by_size = by (nat_le 0xA0 a) refl (nat_le ex 1023) refl (nat_le ey 1023) refl
      where
        by : (t : Bool) → nat_le 0xA0 a ≡ t → (u : Bool) → nat_le ex 1023 ≡ u → (w : Bool) → nat_le ey 1023 ≡ w → Coming
        by true is u us w ws = scale_above is
        by false is false us w ws = x_above is (leb-false ex 1023 us)
        by false is true us false ws = y_above is (leb-true ex 1023 us) (leb-false ey 1023 ws)
        by false is true us true ws = within is (leb-true ex 1023 us) (leb-true ey 1023 ws)

  pub vector_comes : Coming
  vector_comes = by_size (nat_le 128 x1) (nat_le 128 y1) refl refl
