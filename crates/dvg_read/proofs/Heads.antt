-- Lines at the head of a text, by their parts.
use Rattle.std.proofs.Common.{◌≡◌, ◌<◌, ◌≤◌, ◌+◌, ◌*◌, ◌/◌, ◌%◌, ℕ, zero, suc, ℤ, pos, negsuc, List, [], ◌∷◌, ◌++◌, length, get_or, take, decimal, unsigned_abs, refl, sym, ap, subst, ◌∙◌, arith, All, false, eqb, append_assoc, codes, lit<, add-one}
use Rattle.std.specs.List.{onto_first, join_with_byte, AllByRecursion}
use Rattle.std.specs.Fmt.{signed_decimal}
use Rattle.std.specs.Int.{from_le_bytes, to_le_bytes, w32}
use Rattle.std.proofs.lemmas.Nat.{le_bytes_4}
use Rattle.std.proofs.Math.Seq.{split_at}
use Rattle.std.proofs.lemmas.Bool.{false_from_ne_true, eqb-true}
use Rattle.std.proofs.lemmas.Fmt.{decimal_digit, decimal_step}
use Rattle.std.proofs.lemmas.List.{get_or_default, take_rest}
use Rattle.std.proofs.lemmas.List.Elements.{All-head, All-tail, All-from_recursion}
use Rattle.std.proofs.lemmas.List.Splits.{slice_split_none, slice_split_at, join_with_byte-slice_split}
use Rattle.std.proofs.lemmas.Str.Parse.{digit_at}
use Rattle.dvg_code.specs.Ranges.{InRange}
use Rattle.dvg_code.specs.declared.instr.Instr.TheVariants.{Vctr, Svec, Labs}
use Rattle.dvg_frame.specs.declared.op.OpKind.{OpKind}
use Rattle.dvg_frame.specs.declared.op.OpKind.TheVariants.{Draw, Call, Jump, Halt}
use Rattle.dvg_read.specs.OpLines.{IsOpLine, OpParts, vctr, svec, labs, callrom, jumprom, call, jump, return, halt}
use Rattle.dvg_read.specs.TextLines.{HasOp}
use Rattle.dvg_read.specs.Texts.{is_passed, lines, parts}
use Rattle.dvg_read.proofs.Decimals.{shaped}
use Rattle.dvg_read.proofs.FirstBytes.{HasNone, behind}
use Rattle.dvg_read.proofs.LineEnds.{line_at}

-- ---- the first bytes

pub halves : (text : List ℕ) (i : ℕ) → i < length text → text ≡ take i text ++ get_or text i 0 ∷ behind i text
halves text i inside = rw (take_rest text (i + 1)) (rw add-one (split_at text i 0 inside))

pub first_byte : (text : List ℕ) (a : ℕ) → 1 ≤ length text → get_or text 0 0 ≡ a → text ≡ a ∷ behind 0 text
first_byte text a fits is = subst (λ a. text ≡ a ∷ behind 0 text) is (halves text 0 (omega arith))

pub two_bytes : (text : List ℕ) (a b : ℕ) → 2 ≤ length text → get_or text 0 0 ≡ a → get_or text 1 0 ≡ b → text ≡ a ∷ b ∷ behind 1 text
two_bytes [] a b fits is then = absurd (omega arith)
two_bytes (x ∷ []) a b fits is then = absurd (omega arith)
two_bytes (x ∷ y ∷ text) a b fits is then = rw (sym is, sym then) (halves (x ∷ y ∷ text) 1 (omega arith))

-- four bytes, and the number of which they are the bytes
pub four_bytes : (text : List ℕ) (n : ℕ) → 4 ≤ length text → ((i : ℕ) → get_or text i 0 < 256)
    → n ≡ from_le_bytes w32 (get_or text 0 0 ∷ get_or text 1 0 ∷ get_or text 2 0 ∷ get_or text 3 0 ∷ [])
    → text ≡ to_le_bytes w32 n ++ behind 3 text
four_bytes [] n fits bytes is = absurd (omega arith)
four_bytes (x ∷ []) n fits bytes is = absurd (omega arith)
four_bytes (x ∷ y ∷ []) n fits bytes is = absurd (omega arith)
four_bytes (x ∷ y ∷ z ∷ []) n fits bytes is = absurd (omega arith)
four_bytes (x ∷ y ∷ z ∷ w ∷ text) n fits bytes is =
    halves (x ∷ y ∷ z ∷ w ∷ text) 3 (omega arith) ∙ ap (λ front. front ++ behind 3 (x ∷ y ∷ z ∷ w ∷ text))
    (sym (le_bytes_4 (x ∷ y ∷ z ∷ w ∷ []) n refl below is))
  where
    below : (i : ℕ) → get_or (x ∷ y ∷ z ∷ w ∷ []) i 0 < 256
    below zero = bytes 0
    below (suc zero) = bytes 1
    below (suc (suc zero)) = bytes 2
    below (suc (suc (suc zero))) = bytes 3
    below (suc (suc (suc (suc i)))) = omega arith

-- ---- numbers

-- one digit
pub digit_alone : (text rest : List ℕ) (n end : ℕ) → n ≤ 9 → text ≡ (48 + n) ∷ end ∷ rest → text ≡ decimal n ++ end ∷ rest
digit_alone text rest n end few is = rw (decimal_digit n (omega arith)) is

-- the first digit
pub digit_first : (text rest : List ℕ) (n byte : ℕ) → n ≤ 9 → byte ≡ 48 + n → text ≡ byte ∷ rest → text ≡ decimal n ++ rest
digit_first text rest n byte few is spelled = spelled ∙ rw (decimal_digit n (omega arith), is) refl

-- and so from 10 to 15
pub teen_before : (text digits rest : List ℕ) (n end : ℕ) → n ≤ 5 → text ≡ 49 ∷ digits → digits ≡ decimal n ++ end ∷ rest → text ≡ decimal (10 + n) ++ end ∷ rest
teen_before text digits rest n end few is ones =
    let front : (10 + n) / 10 ≡ 1 = omega arith in
    let last : (10 + n) % 10 ≡ n = omega arith in
    let teen : decimal (10 + n) ≡ 49 ∷ (48 + n) ∷ [] = decimal_step (10 + n) (omega arith) (omega arith) ∙ rw (front, last, decimal_digit 1 (omega arith)) refl in
    let two : digits ≡ (48 + n) ∷ end ∷ rest = ones ∙ ap (λ front. front ++ end ∷ rest) (decimal_digit n (omega arith)) in
    is ∙ ap (λ digits. 49 ∷ digits) two ∙ sym (ap (λ front. front ++ end ∷ rest) teen)

-- a number with one more digit
pub digit_more : (text rest : List ℕ) (n digit byte more : ℕ) → 0 < n → n < 65536 → digit ≤ 9 → byte ≡ 48 + digit → more ≡ n * 10 + digit → text ≡ decimal n ++ byte ∷ rest → text ≡ decimal more ++ rest
digit_more text rest n digit byte more some small few is sum spelled =
    let front : more / 10 ≡ n = omega arith in
    let last : more % 10 ≡ digit = omega arith in
    let grown : decimal more ≡ decimal n ++ byte ∷ [] = decimal_step more (omega arith) (omega arith) ∙ rw (front, last, is) refl in
    spelled ∙ sym (ap (λ front. front ++ rest) grown ∙ append_assoc (decimal n) (byte ∷ []) rest)

-- ---- parts

-- each byte is above the space, so none is a space or a line end
abbrev pub IsPart : List ℕ → Type 0
IsPart = All (λ byte. 32 < byte)

none_of : (c : ℕ) (part : List ℕ) → c ≤ 32 → IsPart part → HasNone c part
none_of c part low h k d inside = false_from_ne_true (eqb (get_or part k d) c) (λ is. absurd (omega (arith, low, h k d inside, eqb-true (get_or part k d) c is)))

pub decimal_part : (n : ℕ) → n < 65536 → IsPart (decimal n)
decimal_part n small k d inside =
    let digits = (shaped n (decimal n) (omega arith) refl).digits in
    omega (arith, digit_at (decimal n) k digits inside, get_or_default (decimal n) k 0 d inside)

pub signed_part : (n : ℤ) → unsigned_abs n < 65536 → IsPart (signed_decimal n)
signed_part (pos n) small k d inside = decimal_part n small k d inside
signed_part (negsuc n) small zero d inside = omega arith
signed_part (negsuc n) small (suc k) d inside = decimal_part (suc n) (omega arith) k d (omega arith)

-- the first line of a text has these parts, and this text stands after it
pub record HasParts (text : List ℕ) (ps : List (List ℕ)) (rest : List ℕ) : Type 0 where
  pub line : List ℕ
  pub parted : parts line ≡ ps
  pub cut : lines text ≡ line ∷ lines rest

line_front : (front text line : List ℕ) (ls : List (List ℕ)) → HasNone 10 front → lines text ≡ line ∷ ls → lines (front ++ text) ≡ (front ++ line) ∷ ls
line_front [] text line ls h is = is
line_front (byte ∷ front) text line ls h is =
    let other : eqb byte 10 ≡ false = All-head (λ b. eqb b 10 ≡ false) byte front h in
    rw other (ap (onto_first byte) (line_front front text line ls (All-tail (λ b. eqb b 10 ≡ false) byte front h) is))

pub next_part : (text part more rest : List ℕ) (ps : List (List ℕ)) → IsPart part → text ≡ part ++ 32 ∷ more → HasParts more ps rest → HasParts text (part ∷ ps) rest
next_part text part more rest ps h is p = record {
  line = part ++ 32 ∷ p.line;
  parted = slice_split_at (λ byte. eqb byte 32) part 32 p.line (none_of 32 part (omega arith) h) refl ∙ ap (λ ps. part ∷ ps) p.parted;
  cut = ap lines is ∙ line_front part (32 ∷ more) (32 ∷ p.line) (lines rest) (none_of 10 part (omega arith) h) (ap (onto_first 32) p.cut);
}

pub last_part : (text part rest : List ℕ) → IsPart part → text ≡ part ++ 10 ∷ rest → HasParts text (part ∷ []) rest
last_part text part rest h is = record {
  line = part;
  parted = slice_split_none (λ byte. eqb byte 32) part (none_of 32 part (omega arith) h);
  cut = ap lines is ∙ line_at part 10 rest (none_of 10 part (omega arith) h) refl;
}

-- ---- operations

op_made : {text rest : List ℕ} {ps : List (List ℕ)} {op : OpKind} → HasParts text ps rest → OpParts op ps → HasOp text op rest
op_made {op = op} h spelled = record { line = h.line; spelled = subst (OpParts op) (sym h.parted) spelled; cut = h.cut }

-- a name of four letters and what stands after it
named_parts : (text rest : List ℕ) (ps : List (List ℕ)) (a b d e : ℕ) → AllByRecursion (λ byte. 32 < byte) (a ∷ b ∷ d ∷ e ∷ []) → HasParts text ps rest → HasParts (a ∷ b ∷ d ∷ e ∷ 32 ∷ text) ((a ∷ b ∷ d ∷ e ∷ []) ∷ ps) rest
named_parts text rest ps a b d e letters p = next_part (a ∷ b ∷ d ∷ e ∷ 32 ∷ text) (a ∷ b ∷ d ∷ e ∷ []) text rest ps (All-from_recursion (λ byte. 32 < byte) (a ∷ b ∷ d ∷ e ∷ []) letters) refl p

-- the numbers of a vector
vector_parts : (text p q r rest : List ℕ) (scale : ℕ) (dx dy : ℤ) (z : ℕ) → scale < 65536 → unsigned_abs dx < 65536 → unsigned_abs dy < 65536 → z < 65536
    → text ≡ decimal scale ++ 32 ∷ p → p ≡ signed_decimal dx ++ 32 ∷ q → q ≡ signed_decimal dy ++ 32 ∷ r → r ≡ decimal z ++ 10 ∷ rest
    → HasParts text (decimal scale ∷ signed_decimal dx ∷ signed_decimal dy ∷ decimal z ∷ []) rest
vector_parts text p q r rest scale dx dy z f g h i a b d e =
    next_part text (decimal scale) p rest _ (decimal_part scale f) a
    (next_part p (signed_decimal dx) q rest _ (signed_part dx g) b
    (next_part q (signed_decimal dy) r rest _ (signed_part dy h) d (last_part r (decimal z) rest (decimal_part z i) e)))

pub svec_head : (text p q r rest : List ℕ) (op : OpKind) (scale : ℕ) (dx dy : ℤ) (z : ℕ) → op ≡ Draw (Svec scale dx dy z) → InRange (Svec scale dx dy z)
    → text ≡ decimal scale ++ 32 ∷ p → p ≡ signed_decimal dx ++ 32 ∷ q → q ≡ signed_decimal dy ++ 32 ∷ r → r ≡ decimal z ++ 10 ∷ rest
    → HasOp (codes "svec " ++ text) op rest
svec_head text p q r rest op scale dx dy z is fits a b d e =
    let numbers = vector_parts text p q r rest scale dx dy z (omega arith) (omega arith) (omega arith) (omega arith) a b d e in
    rw is (op_made (named_parts text rest _ 115 118 101 99 (lit< tt, (lit< tt, (lit< tt, (lit< tt, tt)))) numbers) (svec fits))

pub vctr_head : (text p q r rest : List ℕ) (op : OpKind) (scale : ℕ) (dx dy : ℤ) (z : ℕ) → op ≡ Draw (Vctr scale dx dy z) → InRange (Vctr scale dx dy z)
    → text ≡ decimal scale ++ 32 ∷ p → p ≡ signed_decimal dx ++ 32 ∷ q → q ≡ signed_decimal dy ++ 32 ∷ r → r ≡ decimal z ++ 10 ∷ rest
    → HasOp (codes "vctr " ++ text) op rest
vctr_head text p q r rest op scale dx dy z is fits a b d e =
    let numbers = vector_parts text p q r rest scale dx dy z (omega arith) (omega arith) (omega arith) (omega arith) a b d e in
    rw is (op_made (named_parts text rest _ 118 99 116 114 (lit< tt, (lit< tt, (lit< tt, (lit< tt, tt)))) numbers) (vctr fits))

pub labs_head : (text p q rest : List ℕ) (op : OpKind) (x y scale : ℕ) → op ≡ Draw (Labs x y scale) → InRange (Labs x y scale)
    → text ≡ decimal x ++ 32 ∷ p → p ≡ decimal y ++ 32 ∷ q → q ≡ decimal scale ++ 10 ∷ rest
    → HasOp (codes "labs " ++ text) op rest
labs_head text p q rest op x y scale is fits a b d =
    let numbers = next_part text (decimal x) p rest _ (decimal_part x (omega arith)) a (next_part p (decimal y) q rest _ (decimal_part y (omega arith)) b (last_part q (decimal scale) rest (decimal_part scale (omega arith)) d)) in
    rw is (op_made (named_parts text rest _ 108 97 98 115 (lit< tt, (lit< tt, (lit< tt, (lit< tt, tt)))) numbers) (labs fits))

pub call_head : (text rest : List ℕ) (op : OpKind) (n : ℕ) → op ≡ Call n → n < 65536 → text ≡ decimal n ++ 10 ∷ rest → HasOp (codes "call " ++ text) op rest
call_head text rest op n is small a =
    rw is (op_made (named_parts text rest _ 99 97 108 108 (lit< tt, (lit< tt, (lit< tt, (lit< tt, tt)))) (last_part text (decimal n) rest (decimal_part n small) a)) (call small))

pub jump_head : (text rest : List ℕ) (op : OpKind) (n : ℕ) → op ≡ Jump n → n < 65536 → text ≡ decimal n ++ 10 ∷ rest → HasOp (codes "jump " ++ text) op rest
jump_head text rest op n is small a =
    rw is (op_made (named_parts text rest _ 106 117 109 112 (lit< tt, (lit< tt, (lit< tt, (lit< tt, tt)))) (last_part text (decimal n) rest (decimal_part n small) a)) (jump small))

pub halt_head : (text rest : List ℕ) (op : OpKind) → op ≡ Halt → text ≡ 10 ∷ rest → HasOp (codes "halt" ++ text) op rest
halt_head text rest op is end =
    let name = All-from_recursion (λ byte. 32 < byte) (codes "halt") (lit< tt, (lit< tt, (lit< tt, (lit< tt, tt)))) in
    rw is (op_made (last_part (codes "halt" ++ text) (codes "halt") rest name (ap (λ text. codes "halt" ++ text) end)) halt)

-- a line of an operation isn't passed over

unpassed_row : {op : OpKind} {ps : List (List ℕ)} → OpParts op ps → is_passed (join_with_byte 32 ps) ≡ false
unpassed_row (vctr h) = refl
unpassed_row (svec h) = refl
unpassed_row (labs h) = refl
unpassed_row (callrom h) = refl
unpassed_row (jumprom h) = refl
unpassed_row (call h) = refl
unpassed_row (jump h) = refl
unpassed_row return = refl
unpassed_row halt = refl

pub op_unpassed : (op : OpKind) (line : List ℕ) → IsOpLine op line → is_passed line ≡ false
op_unpassed op line h = subst (λ line. is_passed line ≡ false) (join_with_byte-slice_split 32 line) (unpassed_row h)
