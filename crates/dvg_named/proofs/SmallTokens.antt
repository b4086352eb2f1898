-- The tokens of a plain draft in small letters spell the same, and a sketch keeps them whole.
use Rattle.std.proofs.Common.{◌≡◌, ◌⊎◌, ◌<◌, ◌≤◌, ◌^◌, ◌+◌, ◌*◌, ◌∙◌, ℕ, ℤ, pos, negsuc, suc, List, [], ◌∷◌, All, ap, arith, codes, decimal, inl, inr, length, map, refl, subst, sym, true, unsigned_abs, ltb}
use Rattle.std.proofs.lemmas.Bool.{cases_lt, ltb-true}
use Rattle.std.proofs.lemmas.Bool.Decides.{nat_tests}
use Rattle.std.proofs.lemmas.List.{length-map}
use Rattle.std.proofs.lemmas.List.Elements.{All-cons, All-nil, All-weaker}
use Rattle.std.proofs.lemmas.List.Sums.{AllPass-from_list_all}
use Rattle.std.proofs.lemmas.Str.Ascii.{lowercase_is}
use Rattle.std.proofs.lemmas.Str.Parse.{digit_from_value}
use Rattle.std.specs.Char.{digit_value, to_ascii_lowercase}
use Rattle.std.specs.Fmt.{signed_decimal}
use Rattle.std.specs.List.{list_all}
use Rattle.std.specs.Str.Parse.{AllDigits, digits_value_after}
use Rattle.dvg_code.specs.Ranges.{InRange}
use Rattle.dvg_code.specs.declared.instr.Instr.TheVariants.{Labs, Svec, Vctr}
use Rattle.dvg_frame.specs.declared.op.OpKind.{OpKind}
use Rattle.dvg_frame.specs.declared.op.OpKind.TheVariants.{Call, Draw, Jump}
use Rattle.dvg_read.specs.OpLines.{OpParts}
use Rattle.dvg_read.specs.OpLines as ops
use Rattle.dvg_read.specs.Texts.{IsHex}
use Rattle.dvg_read.proofs.Decimals.{shaped}

-- in small letters
abbrev pub low : List ℕ → List ℕ
low = map to_ascii_lowercase

-- no blank, no CR and no `#`
abbrev pub IsHigh : ℕ → Type 0
IsHigh byte = 35 < byte

-- a token that a sketch keeps whole
pub record IsTidy (token : List ℕ) : Type 0 where
  pub some : 0 < length token
  pub high : All IsHigh token

-- ---- digits

same_digit_by : (c : ℕ) → digit_value c < 16 → (c < 65) ⊎ (65 ≤ c) → (c < 91) ⊎ (91 ≤ c)
    → digit_value (to_ascii_lowercase c) ≡ digit_value c
same_digit_by c digit (inl low) other = ap digit_value ((lowercase_is c).1 low)
same_digit_by c digit (inr high) (inr over) = ap digit_value ((lowercase_is c).2 (omega (arith, over)))
same_digit_by c digit (inr high) (inl below) =
    ap digit_value ((lowercase_is c).0 (high, omega (arith, below))) ∙ small_digit c high below
  where
    small_digit : (c : ℕ) → 65 ≤ c → c < 91 → digit_value (c + 32) ≡ digit_value c
    small_digit c high below = grind (arith, nat_tests)

same_digit : (c : ℕ) → digit_value c < 16 → digit_value (to_ascii_lowercase c) ≡ digit_value c
same_digit c digit = same_digit_by c digit (cases_lt c 65) (cases_lt c 91)

high_digit : (c : ℕ) → digit_value c < 16 → 35 < c
high_digit c digit = grind (arith, nat_tests)

high_digits : (token : List ℕ) → AllDigits 16 token → All IsHigh token
high_digits [] h = All-nil IsHigh
high_digits (c ∷ token) h = All-cons IsHigh c token (high_digit c h.0) (high_digits token h.1)

low_digits : (token : List ℕ) → AllDigits 16 token → AllDigits 16 (low token)
low_digits [] h = tt
low_digits (c ∷ token) h = (omega (arith, h.0, same_digit c h.0), low_digits token h.1)

same_value : (token : List ℕ) (n : ℕ) → AllDigits 16 token → digits_value_after 16 n (low token) ≡ digits_value_after 16 n token
same_value [] n h = refl
same_value (c ∷ token) n h =
    ap (λ d. digits_value_after 16 (n * 16 + d) (low token)) (same_digit c h.0)
    ∙ same_value token (n * 16 + digit_value c) h.1

pub low_hex : (count n : ℕ) (token : List ℕ) → IsHex count n token → IsHex count n (low token)
low_hex count n token h = record {
  size = length-map token to_ascii_lowercase ∙ h.size;
  digits = low_digits token h.digits;
  value = same_value token 0 h.digits ∙ h.value;
}

pub tidy_hex : (count n : ℕ) (token : List ℕ) → 0 < count → IsHex count n token → IsTidy (low token)
tidy_hex count n token some h = record {
  some = let size = h.size in omega (arith, some, size, length-map token to_ascii_lowercase);
  high = high_digits (low token) (low_digits token h.digits);
}

-- ---- decimal numbers

more_digits : (token : List ℕ) → AllDigits 10 token → AllDigits 16 token
more_digits [] h = tt
more_digits (c ∷ token) h = (omega (arith, h.0), more_digits token h.1)

low_same : (token : List ℕ) → AllDigits 10 token → low token ≡ token
low_same [] h = refl
low_same (c ∷ token) h =
    let range = digit_from_value c h.0 in
    let first : to_ascii_lowercase c ≡ c = (lowercase_is c).1 (omega (arith, range.1)) in
    let rest = low_same token h.1 in
    cc

-- a token that is in small letters
pub record IsSmall (token : List ℕ) : Type 0 where
  pub same : low token ≡ token
  pub tidy : IsTidy (low token)

small_decimal : (n : ℕ) → n < 2 ^ 16 → IsSmall (decimal n)
small_decimal n few =
    let shape = shaped n (decimal n) few refl in
    let same = low_same (decimal n) shape.digits in
    record {
      same = same;
      tidy = subst IsTidy (sym same) (record { some = shape.some; high = high_digits (decimal n) (more_digits (decimal n) shape.digits) });
    }

small_signed : (n : ℤ) → unsigned_abs n < 2 ^ 15 → IsSmall (signed_decimal n)
small_signed (pos n) few = small_decimal n (omega arith)
small_signed (negsuc n) few =
    let rest = small_decimal (suc n) (omega arith) in
    record {
      same = ap (λ token. 45 ∷ token) rest.same;
      tidy = record {
        some = omega arith;
        high = All-cons IsHigh 45 (low (decimal (suc n))) (omega arith) (rest.tidy.high);
      };
    }

-- ---- names of operations

high_by : (token : List ℕ) → list_all (λ byte. ltb 35 byte) token ≡ true → All IsHigh token
high_by token h =
    All-weaker (λ byte. ltb 35 byte ≡ true) IsHigh (λ byte is. ltb-true 35 byte is) token
    (AllPass-from_list_all (λ byte. ltb 35 byte) token h)

pub tidy_name : (token : List ℕ) → 0 < length token → list_all (λ byte. ltb 35 byte) token ≡ true → IsTidy token
tidy_name token some h = record { some = some; high = high_by token h }

-- ---- operations

-- each of these tokens
abbrev pub Tidies : List (List ℕ) → Type 0
Tidies [] = Unit {0}
Tidies (token ∷ tokens) = IsTidy token × Tidies tokens

pub all_tidy : (tokens : List (List ℕ)) → Tidies tokens → All IsTidy tokens
all_tidy [] h = All-nil IsTidy
all_tidy (token ∷ tokens) h = All-cons IsTidy token tokens h.0 (all_tidy tokens h.1)

vctr_low : (s x y z : List ℕ) (scale : ℕ) (dx dy : ℤ) (n : ℕ) → InRange (Vctr scale dx dy n) → s ≡ decimal scale
    → x ≡ signed_decimal dx → y ≡ signed_decimal dy → z ≡ decimal n
    → OpParts (Draw (Vctr scale dx dy n)) (codes "vctr" ∷ s ∷ x ∷ y ∷ z ∷ [])
vctr_low s x y z scale dx dy n h a b c d = rw (a, b, c, d) (ops.vctr h)

svec_low : (s x y z : List ℕ) (scale : ℕ) (dx dy : ℤ) (n : ℕ) → InRange (Svec scale dx dy n) → s ≡ decimal scale
    → x ≡ signed_decimal dx → y ≡ signed_decimal dy → z ≡ decimal n
    → OpParts (Draw (Svec scale dx dy n)) (codes "svec" ∷ s ∷ x ∷ y ∷ z ∷ [])
svec_low s x y z scale dx dy n h a b c d = rw (a, b, c, d) (ops.svec h)

labs_low : (p q s : List ℕ) (x y scale : ℕ) → InRange (Labs x y scale) → p ≡ decimal x → q ≡ decimal y → s ≡ decimal scale
    → OpParts (Draw (Labs x y scale)) (codes "labs" ∷ p ∷ q ∷ s ∷ [])
labs_low p q s x y scale h a b c = rw (a, b, c) (ops.labs h)

call_low : (token : List ℕ) (n : ℕ) → n < 2 ^ 16 → token ≡ decimal n → OpParts (Call n) (codes "call" ∷ token ∷ [])
call_low token n h e = rw e (ops.call h)

jump_low : (token : List ℕ) (n : ℕ) → n < 2 ^ 16 → token ≡ decimal n → OpParts (Jump n) (codes "jump" ∷ token ∷ [])
jump_low token n h e = rw e (ops.jump h)

-- the tokens of an operation in small letters
pub record IsLowered (op : OpKind) (tokens : List (List ℕ)) : Type 0 where
  pub spells : OpParts op (map low tokens)
  pub tidy : All IsTidy (map low tokens)

pub op_lowered : {op : OpKind} {tokens : List (List ℕ)} → OpParts op tokens → IsLowered op tokens
op_lowered (ops.vctr {scale = scale} {dx = dx} {dy = dy} {z = z} h) =
    let a = small_decimal scale (omega (arith, h.0)) in
    let b = small_signed dx (omega (arith, h.1)) in
    let c = small_signed dy (omega (arith, h.2)) in
    let d = small_decimal z (omega (arith, h.3)) in
    record {
      spells = vctr_low _ _ _ _ scale dx dy z h a.same b.same c.same d.same;
      tidy = all_tidy (codes "vctr" ∷ low (decimal scale) ∷ low (signed_decimal dx) ∷ low (signed_decimal dy) ∷ low (decimal z) ∷ [])
          (tidy_name (codes "vctr") (omega arith) refl, (a.tidy, (b.tidy, (c.tidy, (d.tidy, tt)))));
    }
op_lowered (ops.svec {scale = scale} {dx = dx} {dy = dy} {z = z} h) =
    let a = small_decimal scale (omega (arith, h.1)) in
    let b = small_signed dx (omega (arith, h.2)) in
    let c = small_signed dy (omega (arith, h.3)) in
    let d = small_decimal z (omega (arith, h.4)) in
    record {
      spells = svec_low _ _ _ _ scale dx dy z h a.same b.same c.same d.same;
      tidy = all_tidy (codes "svec" ∷ low (decimal scale) ∷ low (signed_decimal dx) ∷ low (signed_decimal dy) ∷ low (decimal z) ∷ [])
          (tidy_name (codes "svec") (omega arith) refl, (a.tidy, (b.tidy, (c.tidy, (d.tidy, tt)))));
    }
op_lowered (ops.labs {x = x} {y = y} {scale = scale} h) =
    let a = small_decimal x (omega (arith, h.0)) in
    let b = small_decimal y (omega (arith, h.1)) in
    let c = small_decimal scale (omega (arith, h.2)) in
    record {
      spells = labs_low _ _ _ x y scale h a.same b.same c.same;
      tidy = all_tidy (codes "labs" ∷ low (decimal x) ∷ low (decimal y) ∷ low (decimal scale) ∷ [])
          (tidy_name (codes "labs") (omega arith) refl, (a.tidy, (b.tidy, (c.tidy, tt))));
    }
op_lowered (ops.callrom {a = a} {digits = digits} h) = record {
  spells = ops.callrom (low_hex 3 a digits h);
  tidy = all_tidy (codes "callrom" ∷ low digits ∷ [])
      (tidy_name (codes "callrom") (omega arith) refl, (tidy_hex 3 a digits (omega arith) h, tt));
}
op_lowered (ops.jumprom {a = a} {digits = digits} h) = record {
  spells = ops.jumprom (low_hex 3 a digits h);
  tidy = all_tidy (codes "jumprom" ∷ low digits ∷ [])
      (tidy_name (codes "jumprom") (omega arith) refl, (tidy_hex 3 a digits (omega arith) h, tt));
}
op_lowered (ops.call {n = n} h) =
    let a = small_decimal n h in
    record {
      spells = call_low _ n h a.same;
      tidy = all_tidy (codes "call" ∷ low (decimal n) ∷ [])
          (tidy_name (codes "call") (omega arith) refl, (a.tidy, tt));
    }
op_lowered (ops.jump {n = n} h) =
    let a = small_decimal n h in
    record {
      spells = jump_low _ n h a.same;
      tidy = all_tidy (codes "jump" ∷ low (decimal n) ∷ [])
          (tidy_name (codes "jump") (omega arith) refl, (a.tidy, tt));
    }
op_lowered ops.return = record {
  spells = ops.return;
  tidy = all_tidy (codes "return" ∷ []) (tidy_name (codes "return") (omega arith) refl, tt);
}
op_lowered ops.halt = record {
  spells = ops.halt;
  tidy = all_tidy (codes "halt" ∷ []) (tidy_name (codes "halt") (omega arith) refl, tt);
}
