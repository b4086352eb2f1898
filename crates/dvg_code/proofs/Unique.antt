-- Words spell one instruction at most, and begin with one at most.
use Rattle.std.proofs.Common.{◌≡◌, ℕ, zero, suc, ◌<◌, ◌≤◌, ℤ, pos, negsuc, List, [], ◌∷◌, ◌++◌, length, get_or, refl, sym, ap, subst, ◌∙◌, arith}
use Rattle.std.specs.Prelude.{unsigned_abs}
use Rattle.dvg_code.specs.declared.instr.Instr.{Instr}
use Rattle.dvg_code.specs.declared.instr.Instr.TheVariants.{Jsrl, Jmpl, Svec}
use Rattle.dvg_code.specs.Ranges.{InRange}
use Rattle.dvg_code.specs.Spelling.{IsFirst, IsSignOf, LongWord, ShortWord, Spells, vctr, labs, halt, jsrl, rtsl, jmpl, svec, canon, word_count}
use Rattle.dvg_code.specs.Cutting.{Fronts, IsCut, IsRest}
use Rattle.dvg_code.proofs.FieldsSpell.{canon_spells}

-- a sign is a bit
pub sign_is_bit : (n : ℤ) (sign : ℕ) → IsSignOf n sign → sign < 2
sign_is_bit (pos zero) sign h = h
sign_is_bit (pos (suc n)) sign h = omega arith
sign_is_bit (negsuc n) sign h = omega arith

-- a sign bit and a magnitude are those of one number
same_number : (a b : ℤ) (sign : ℕ) → IsSignOf a sign → IsSignOf b sign → unsigned_abs a ≡ unsigned_abs b → a ≡ b
same_number (pos zero) (pos zero) sign p q e = refl
same_number (pos zero) (pos (suc n)) sign p q e = absurd (omega arith)
same_number (pos zero) (negsuc n) sign p q e = absurd (omega arith)
same_number (pos (suc m)) (pos zero) sign p q e = absurd (omega arith)
same_number (pos (suc m)) (pos (suc n)) sign p q e = ap pos e
same_number (pos (suc m)) (negsuc n) sign p q e = absurd (omega arith)
same_number (negsuc m) (pos zero) sign p q e = absurd (omega arith)
same_number (negsuc m) (pos (suc n)) sign p q e = absurd (omega arith)
same_number (negsuc m) (negsuc n) sign p q e = let same : m ≡ n = omega arith in ap negsuc same

-- the same with two equal sign bits
same_signed : (a b : ℤ) (s t : ℕ) → IsSignOf a s → IsSignOf b t → s ≡ t → unsigned_abs a ≡ unsigned_abs b → a ≡ b
same_signed a b s t p q signs sizes = same_number a b t (subst (IsSignOf a) signs p) q sizes

-- a long word has one number above and one below
same_long : (s t : ℕ) (a b : ℤ) (word : ℕ) → unsigned_abs a ≤ 1023 → unsigned_abs b ≤ 1023 → LongWord s a word → LongWord t b word → (s ≡ t) × (a ≡ b)
same_long s t a b word a_size b_size p q =
    let x = sign_is_bit a p.sign p.sign_is in
    let y = sign_is_bit b q.sign q.sign_is in
    (omega arith, same_signed a b p.sign q.sign p.sign_is q.sign_is (omega arith) (omega arith))

-- a short word has one scale, two moves and one intensity
same_short : (s t : ℕ) (dx dy dx' dy' : ℤ) (z z' word : ℕ) → InRange (Svec s dx dy z) → InRange (Svec t dx' dy' z') → ShortWord s dx dy z word → ShortWord t dx' dy' z' word
    → Svec s dx dy z ≡ Svec t dx' dy' z'
same_short s t dx dy dx' dy' z z' word r r' p q =
    let y = sign_is_bit dy p.dy_sign p.dy_sign_is in
    let y' = sign_is_bit dy' q.dy_sign q.dy_sign_is in
    let x = sign_is_bit dx p.dx_sign p.dx_sign_is in
    let x' = sign_is_bit dx' q.dx_sign q.dx_sign_is in
    let bit_11 : p.bit_11 ≡ q.bit_11 = omega arith in
    let y_sign : p.dy_sign ≡ q.dy_sign = omega arith in
    let y_size : unsigned_abs dy ≡ unsigned_abs dy' = omega arith in
    let intensity : z ≡ z' = omega arith in
    let bit_3 : p.bit_3 ≡ q.bit_3 = omega arith in
    let x_sign : p.dx_sign ≡ q.dx_sign = omega arith in
    let x_size : unsigned_abs dx ≡ unsigned_abs dx' = omega arith in
    let scales : s ≡ t = omega arith in
    let dy_is = same_signed dy dy' p.dy_sign q.dy_sign p.dy_sign_is q.dy_sign_is y_sign y_size in
    let dx_is = same_signed dx dx' p.dx_sign q.dx_sign p.dx_sign_is q.dx_sign_is x_sign x_size in
    cc

-- the first word of a VCTR has an opcode below 10
vctr_first : (scale : ℕ) (dy : ℤ) (word : ℕ) → scale ≤ 9 → unsigned_abs dy ≤ 1023 → LongWord scale dy word → word < 40960
vctr_first scale dy word scale_size dy_size p = let y = sign_is_bit dy p.sign p.sign_is in omega arith

-- the word of an SVEC has the opcode 15
svec_word : (scale : ℕ) (dx dy : ℤ) (z word : ℕ) → ShortWord scale dx dy z word → 61440 ≤ word
svec_word scale dx dy z word p = let sum = p.sum in omega arith

-- words spell one instruction at most
pub same_spelling : (a b : Instr) (words : List ℕ) → Spells a words → Spells b words → a ≡ b
same_spelling a b words (vctr {scale = s} {dx = dx} {dy = dy} {z = z} r first second) (vctr {scale = s'} {dx = dx'} {dy = dy'} {z = z'} r' first' second') =
    let one = same_long s s' dy dy' _ r.2 r'.2 first first' in
    let two = same_long z z' dx dx' _ r.1 r'.1 second second' in
    cc (one.0, one.1, two.0, two.1)
same_spelling a b words (vctr r p q) (labs r' p' q') = let low = vctr_first _ _ _ r.0 r.2 p in absurd (omega arith)
same_spelling a b words (labs r p q) (vctr r' p' q') = let low = vctr_first _ _ _ r'.0 r'.2 p' in absurd (omega arith)
same_spelling a b words (labs {x = x} {y = y} {scale = s} r p q) (labs {x = x'} {y = y'} {scale = s'} r' p' q') =
    let scales : s ≡ s' = omega arith in
    let xs : x ≡ x' = omega arith in
    let ys : y ≡ y' = omega arith in
    cc
same_spelling a b words (halt p q) (halt p' q') = refl
same_spelling a b words (halt p q) (jsrl r' p') = absurd (omega arith)
same_spelling a b words (halt p q) (rtsl p' q') = absurd (omega arith)
same_spelling a b words (halt p q) (jmpl r' p') = absurd (omega arith)
same_spelling a b words (halt p q) (svec r' p') = let high = svec_word _ _ _ _ _ p' in absurd (omega arith)
same_spelling a b words (jsrl r p) (halt p' q') = absurd (omega arith)
same_spelling a b words (jsrl {address = m} r p) (jsrl {address = n} r' p') = let same : m ≡ n = omega arith in ap Jsrl same
same_spelling a b words (jsrl r p) (rtsl p' q') = absurd (omega arith)
same_spelling a b words (jsrl r p) (jmpl r' p') = absurd (omega arith)
same_spelling a b words (jsrl r p) (svec r' p') = let high = svec_word _ _ _ _ _ p' in absurd (omega arith)
same_spelling a b words (rtsl p q) (halt p' q') = absurd (omega arith)
same_spelling a b words (rtsl p q) (jsrl r' p') = absurd (omega arith)
same_spelling a b words (rtsl p q) (rtsl p' q') = refl
same_spelling a b words (rtsl p q) (jmpl r' p') = absurd (omega arith)
same_spelling a b words (rtsl p q) (svec r' p') = let high = svec_word _ _ _ _ _ p' in absurd (omega arith)
same_spelling a b words (jmpl r p) (halt p' q') = absurd (omega arith)
same_spelling a b words (jmpl r p) (jsrl r' p') = absurd (omega arith)
same_spelling a b words (jmpl r p) (rtsl p' q') = absurd (omega arith)
same_spelling a b words (jmpl {address = m} r p) (jmpl {address = n} r' p') = let same : m ≡ n = omega arith in ap Jmpl same
same_spelling a b words (jmpl r p) (svec r' p') = let high = svec_word _ _ _ _ _ p' in absurd (omega arith)
same_spelling a b words (svec r p) (halt p' q') = let high = svec_word _ _ _ _ _ p in absurd (omega arith)
same_spelling a b words (svec r p) (jsrl r' p') = let high = svec_word _ _ _ _ _ p in absurd (omega arith)
same_spelling a b words (svec r p) (rtsl p' q') = let high = svec_word _ _ _ _ _ p in absurd (omega arith)
same_spelling a b words (svec r p) (jmpl r' p') = let high = svec_word _ _ _ _ _ p in absurd (omega arith)
same_spelling a b words (svec r p) (svec r' p') = same_short _ _ _ _ _ _ _ _ _ r r' p p'

-- two words of which the first has an opcode of 0 to A, or one word of another opcode
data Shape : List ℕ → Type 0 where
  two : {first second : ℕ} → IsFirst first → Shape (first ∷ second ∷ [])
  one : {word : ℕ} → 45056 ≤ word → Shape (word ∷ [])

-- a spelling has one of the two shapes
shape : (a : Instr) (words : List ℕ) → Spells a words → Shape words
shape a words (vctr r p q) = let low = vctr_first _ _ _ r.0 r.2 p in two (omega arith)
shape a words (labs r p q) = two (omega arith)
shape a words (halt p q) = one p
shape a words (jsrl r p) = one (omega arith)
shape a words (rtsl p q) = one (omega arith)
shape a words (jmpl r p) = one (omega arith)
shape a words (svec r p) = let high = svec_word _ _ _ _ _ p in one (omega arith)

-- of two shapes at the front of the same words neither is the longer one
same_shape : (front front' after after' : List ℕ) → Shape front → Shape front' → front ++ after ≡ front' ++ after' → (front ≡ front') × (after ≡ after')
same_shape front front' after after' (two p) (two p') e = (cc, cc)
same_shape front front' after after' (one p) (one p') e = (cc, cc)
same_shape front front' after after' (two {first = v} p) (one {word = w} p') e = let same : v ≡ w = cc in absurd (omega arith)
same_shape front front' after after' (one {word = w} p) (two {first = v} p') e = let same : w ≡ v = cc in absurd (omega arith)

-- two spellings at the front of the same words are one, with the same words after it
pub same_front : (a b : Instr) (front front' after after' : List ℕ) → Spells a front → Spells b front' → front ++ after ≡ front' ++ after'
    → (a ≡ b) × (front ≡ front') × (after ≡ after')
same_front a b front front' after after' spelled spelled' e =
    let same = same_shape front front' after after' (shape a front spelled) (shape b front' spelled') e in
    (same_spelling a b front' (subst (Spells a) same.0 spelled) spelled', same.0, same.1)

-- words begin with one instruction at most
pub same_fronts : (words : List ℕ) (a b : Instr) (m n : ℕ) → Fronts words a m → Fronts words b n → (a ≡ b) × (m ≡ n)
same_fronts words a b m n p q =
    let same = same_front a b p.front q.front p.after q.after p.spells q.spells (sym p.parts ∙ q.parts) in
    (same.0, p.counted ∙ ap length same.1 ∙ sym q.counted)

-- a first word that spells an instruction is a front
pub front_of_one : (words : List ℕ) (a : Instr) → 1 ≤ length words → Spells a (get_or words 0 0 ∷ []) → Fronts words a 1
front_of_one [] a some spelled = absurd (omega arith)
front_of_one (word ∷ words) a some spelled = record { front = word ∷ []; after = words; parts = refl; spells = spelled; counted = refl }

-- two first words that spell an instruction are a front
pub front_of_two : (words : List ℕ) (a : Instr) → 2 ≤ length words → Spells a (get_or words 0 0 ∷ get_or words 1 0 ∷ []) → Fronts words a 2
front_of_two [] a some spelled = absurd (omega arith)
front_of_two (first ∷ []) a some spelled = absurd (omega arith)
front_of_two (first ∷ second ∷ words) a some spelled = record { front = first ∷ second ∷ []; after = words; parts = refl; spells = spelled; counted = refl }

-- the canonical words of an instruction are a front
pub front_of_canon : (words after : List ℕ) (a : Instr) → InRange a → words ≡ canon a ++ after → Fronts words a (length (canon a))
front_of_canon words after a r parts = record { front = canon a; after = after; parts = parts; spells = canon_spells a r; counted = refl }

-- each spelling has the instruction's number of words
pub spelling_length : (a : Instr) (words : List ℕ) → Spells a words → length words ≡ word_count a
spelling_length a words (vctr r p q) = refl
spelling_length a words (labs r p q) = refl
spelling_length a words (halt p q) = refl
spelling_length a words (jsrl r p) = refl
spelling_length a words (rtsl p q) = refl
spelling_length a words (jmpl r p) = refl
spelling_length a words (svec r p) = refl

-- no word, or one whose second word is missing, is no shape with words after it
no_shape : (rest front after : List ℕ) → IsRest rest → Shape front → rest ≡ front ++ after → ⊥
no_shape [] front after h (two p) e = cc
no_shape [] front after h (one p) e = cc
no_shape (word ∷ []) front after h (two p) e = cc
no_shape (word ∷ []) front after h (one {word = w} p) e = let same : word ≡ w = cc in omega arith
no_shape (word ∷ next ∷ rest) front after h s e = h

-- a rest begins with no instruction
pub rest_begins_none : (rest : List ℕ) → IsRest rest → (a : Instr) (count : ℕ) → Fronts rest a count → ⊥
rest_begins_none rest h a count f = no_shape rest f.front f.after h (shape a f.front f.spells) f.parts

-- a cut is a rest
pub cut_is_rest : (words : List ℕ) → IsCut words → IsRest words
cut_is_rest words cut = subst IsRest (sym cut.2) cut.1
