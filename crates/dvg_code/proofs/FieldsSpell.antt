-- What fields spell.
use Rattle.std.proofs.Common.{◌≡◌, ℕ, zero, suc, ◌+◌, ◌-◌, ◌*◌, ◌/◌, ◌%◌, ◌^◌, ◌<◌, ◌≤◌, ℤ, pos, negsuc, List, [], ◌∷◌, refl, sym, ap, ◌∙◌, subst, arith, rules}
use Rattle.std.specs.Prelude.{unsigned_abs}
use mir.Val.{SFits}
use mir.Syntax.{w8}
use Rattle.dvg_code.specs.declared.instr.Instr.{Instr}
use Rattle.dvg_code.specs.declared.instr.Instr.TheVariants.{Vctr, Labs, Halt, Jsrl, Rtsl, Jmpl, Svec}
use Rattle.dvg_code.specs.Fields.{signed}
use Rattle.dvg_code.specs.Ranges.{InRange}
use Rattle.dvg_code.specs.Spelling.{IsSignOf, LongWord, Spells, vctr, labs, halt, jsrl, rtsl, jmpl, svec, sign_bit, canon}

-- the magnitude that was read
pub signed_size : (sign magnitude : ℕ) → unsigned_abs (signed sign magnitude) ≡ magnitude
signed_size zero magnitude = refl
signed_size (suc sign) zero = refl
signed_size (suc sign) (suc magnitude) = refl

-- the sign bit that was read
pub signed_sign : (sign magnitude : ℕ) → sign < 2 → IsSignOf (signed sign magnitude) sign
signed_sign zero zero h = h
signed_sign zero (suc magnitude) h = refl
signed_sign (suc sign) zero h = h
signed_sign (suc sign) (suc magnitude) h = omega arith

-- a magnitude of two bits with its sign fits a byte
pub short_fits : (sign magnitude : ℕ) → magnitude < 4 → SFits w8 (signed sign magnitude)
short_fits zero magnitude h = search rules
short_fits (suc sign) zero h = search rules
short_fits (suc sign) (suc magnitude) h = search rules

-- the sign bit of a number that was read
read_sign : (sign magnitude : ℕ) (n : ℤ) → sign < 2 → n ≡ signed sign magnitude → IsSignOf n sign
read_sign sign magnitude n is_bit n_is = subst (λ m. IsSignOf m sign) (sym n_is) (signed_sign sign magnitude is_bit)

-- the magnitude of a number that was read
read_size : (sign magnitude : ℕ) (n : ℤ) → n ≡ signed sign magnitude → unsigned_abs n ≡ magnitude
read_size sign magnitude n n_is = ap unsigned_abs n_is ∙ signed_size sign magnitude

-- the sign bit that is written is a sign of the number
written_sign : (n : ℤ) → IsSignOf n (sign_bit n)
written_sign (pos zero) = omega arith
written_sign (pos (suc n)) = refl
written_sign (negsuc n) = refl

-- the bits of a word are the fields of a long word
pub long_word_read : (word top sign magnitude : ℕ) (n : ℤ) → word < 65536 → top ≡ word / 2 ^ 12 % 2 ^ 4 → sign ≡ word / 2 ^ 10 % 2 ^ 1 → magnitude ≡ word / 2 ^ 0 % 2 ^ 10
    → n ≡ signed sign magnitude → LongWord top n word
long_word_read word top sign magnitude n fits top_is sign_is magnitude_is n_is =
    let size = read_size sign magnitude n n_is in
    record { free = word / 2048 % 2; sign = sign; free_is_bit = omega arith; sign_is = read_sign sign magnitude n (omega arith) n_is; sum = omega arith }

-- the canonical spelling is a spelling
pub canon_spells : (instr : Instr) → InRange instr → Spells instr (canon instr)
canon_spells (Vctr scale dx dy z) r = vctr r
    (record { free = 0; sign = sign_bit dy; free_is_bit = omega arith; sign_is = written_sign dy; sum = omega arith })
    (record { free = 0; sign = sign_bit dx; free_is_bit = omega arith; sign_is = written_sign dx; sum = omega arith })
canon_spells (Labs x y scale) r = labs r refl refl
canon_spells Halt r = halt (omega arith) (omega arith)
canon_spells (Jsrl address) r = jsrl r refl
canon_spells Rtsl r = rtsl (omega arith) (omega arith)
canon_spells (Jmpl address) r = jmpl r refl
canon_spells (Svec scale dx dy z) r = svec r (record {
  bit_11 = (scale - 2) % 2;
  bit_3 = (scale - 2) / 2;
  dy_sign = sign_bit dy;
  dx_sign = sign_bit dx;
  bit_11_is_bit = omega arith;
  bit_3_is_bit = omega arith;
  dy_sign_is = written_sign dy;
  dx_sign_is = written_sign dx;
  weights = omega arith;
  sum = refl;
})

-- words that are the canonical spelling are a spelling
pub written_spells : (instr : Instr) (words : List ℕ) → InRange instr → words ≡ canon instr → Spells instr words
written_spells instr words r written = subst (Spells instr) (sym written) (canon_spells instr r)

-- two words whose first has an opcode below 10 spell a VCTR
pub vctr_read : (instr : Instr) (v w s e m f k z : ℕ) (dx dy : ℤ) → v < 40960 → w < 65536
    → s ≡ v / 2 ^ 12 % 2 ^ 4 → e ≡ v / 2 ^ 10 % 2 ^ 1 → m ≡ v / 2 ^ 0 % 2 ^ 10 → f ≡ w / 2 ^ 10 % 2 ^ 1 → k ≡ w / 2 ^ 0 % 2 ^ 10 → z ≡ w / 2 ^ 12 % 2 ^ 4
    → dy ≡ signed e m → dx ≡ signed f k → instr ≡ Vctr s dx dy z → Spells instr (v ∷ w ∷ [])
vctr_read instr v w s e m f k z dx dy hv hw hs he hm hf hk hz y_is x_is is =
    let y = read_size e m dy y_is in
    let x = read_size f k dx x_is in
    let r : InRange (Vctr s dx dy z) = (omega arith, omega arith, omega arith, omega arith) in
    subst (λ i. Spells i (v ∷ w ∷ [])) (sym is)
    (vctr r (long_word_read v s e m dy (omega arith) hs he hm y_is) (long_word_read w z f k dx hw hz hf hk x_is))

-- two words whose first has the opcode 10 spell a LABS
pub labs_read : (instr : Instr) (v w x y scale : ℕ) → 40960 ≤ v → v < 45056 → w < 65536
    → x ≡ w / 2 ^ 0 % 2 ^ 12 → y ≡ v / 2 ^ 0 % 2 ^ 12 → scale ≡ w / 2 ^ 12 % 2 ^ 4 → instr ≡ Labs x y scale → Spells instr (v ∷ w ∷ [])
labs_read instr v w x y scale low high fits x_is y_is scale_is is =
    let x_size : x ≤ 4095 = omega arith in
    let y_size : y ≤ 4095 = omega arith in
    let scale_size : scale ≤ 15 = omega arith in
    subst (λ i. Spells i (v ∷ w ∷ [])) (sym is) (labs (x_size, y_size, scale_size) (omega arith) (omega arith))

-- a word of the opcode 11 spells HALT
pub halt_read : (instr : Instr) (w opcode : ℕ) → w < 65536 → opcode ≡ w / 2 ^ 12 % 2 ^ 4 → opcode ≡ 11 → instr ≡ Halt → Spells instr (w ∷ [])
halt_read instr w opcode fits opcode_is eleven is = subst (λ i. Spells i (w ∷ [])) (sym is) (halt (omega arith) (omega arith))

-- a word of the opcode 12 spells a JSRL
pub jsrl_read : (instr : Instr) (w opcode address : ℕ) → w < 65536 → opcode ≡ w / 2 ^ 12 % 2 ^ 4 → opcode ≡ 12 → address ≡ w / 2 ^ 0 % 2 ^ 12
    → instr ≡ Jsrl address → Spells instr (w ∷ [])
jsrl_read instr w opcode address fits opcode_is twelve address_is is =
    let size : address ≤ 4095 = omega arith in
    subst (λ i. Spells i (w ∷ [])) (sym is) (jsrl size (omega arith))

-- a word of the opcode 13 spells RTSL
pub rtsl_read : (instr : Instr) (w opcode : ℕ) → w < 65536 → opcode ≡ w / 2 ^ 12 % 2 ^ 4 → opcode ≡ 13 → instr ≡ Rtsl → Spells instr (w ∷ [])
rtsl_read instr w opcode fits opcode_is thirteen is = subst (λ i. Spells i (w ∷ [])) (sym is) (rtsl (omega arith) (omega arith))

-- a word of the opcode 14 spells a JMPL
pub jmpl_read : (instr : Instr) (w opcode address : ℕ) → w < 65536 → opcode ≡ w / 2 ^ 12 % 2 ^ 4 → opcode ≡ 14 → address ≡ w / 2 ^ 0 % 2 ^ 12
    → instr ≡ Jmpl address → Spells instr (w ∷ [])
jmpl_read instr w opcode address fits opcode_is fourteen address_is is =
    let size : address ≤ 4095 = omega arith in
    subst (λ i. Spells i (w ∷ [])) (sym is) (jmpl size (omega arith))

-- a word of the opcode 15 spells an SVEC
pub svec_read : (instr : Instr) (w b e y z t f x : ℕ) (dx dy : ℤ) → 61440 ≤ w → w < 65536
    → b ≡ w / 2 ^ 11 % 2 ^ 1 → e ≡ w / 2 ^ 10 % 2 ^ 1 → y ≡ w / 2 ^ 8 % 2 ^ 2 → z ≡ w / 2 ^ 4 % 2 ^ 4
    → t ≡ w / 2 ^ 3 % 2 ^ 1 → f ≡ w / 2 ^ 2 % 2 ^ 1 → x ≡ w / 2 ^ 0 % 2 ^ 2
    → dy ≡ signed e y → dx ≡ signed f x → instr ≡ Svec (2 + 2 * t + b) dx dy z → Spells instr (w ∷ [])
svec_read instr w b e y z t f x dx dy low fits hb he hy hz ht hf hx y_is x_is is =
    let y_size = read_size e y dy y_is in
    let x_size = read_size f x dx x_is in
    let r : InRange (Svec (2 + 2 * t + b) dx dy z) = (omega arith, omega arith, omega arith, omega arith, omega arith) in
    subst (λ i. Spells i (w ∷ [])) (sym is) (svec r (record {
      bit_11 = b;
      bit_3 = t;
      dy_sign = e;
      dx_sign = f;
      bit_11_is_bit = omega arith;
      bit_3_is_bit = omega arith;
      dy_sign_is = read_sign e y dy (omega arith) y_is;
      dx_sign_is = read_sign f x dx (omega arith) x_is;
      weights = refl;
      sum = omega arith;
    }))
