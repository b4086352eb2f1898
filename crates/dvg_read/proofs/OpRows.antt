-- The rows of the operations, by what a reader knows of a line.
use Rattle.std.proofs.Common.{◌≡◌, ◌<◌, ◌^◌, ℕ, ℤ, List, [], ◌∷◌, Option, None, Some, IfSome, codes, decimal, length, refl, sym, subst, ◌≤◌, arith}
use Rattle.std.specs.Fmt.{signed_decimal}
use Rattle.std.proofs.lemmas.Slice.Eq.{HasBytesAt, text_from_reads}
use Rattle.dvg_code.specs.Ranges.{InRange}
use Rattle.dvg_code.specs.declared.instr.Instr.{Instr}
use Rattle.dvg_code.specs.declared.instr.Instr.TheVariants.{Vctr, Svec, Labs}
use Rattle.std.proofs.lemmas.Int.Digits.{digits_value-lt}
use Rattle.dvg_frame.specs.Ops.{IsOp}
use Rattle.dvg_frame.specs.declared.op.OpKind.{OpKind}
use Rattle.dvg_frame.specs.declared.op.OpKind.TheVariants.{Draw, Call, Jump}
use Rattle.dvg_read.specs.OpLines.{OpParts, vctr, svec, labs, callrom, jumprom, call, jump, return, halt}
use Rattle.dvg_read.specs.Texts.{IsHex}

-- what holds of a text holds of a part of the same bytes
pub named : (P : List ℕ → Type 0) (part text : List ℕ) → length part ≡ length text → HasBytesAt part 0 text → P text → P part
named P part text size bytes h = subst P (sym (text_from_reads part text size bytes)) h

-- an operation that draws by this instruction, which is in range
abbrev pub Draws : Option OpKind → Instr → Type 0
Draws answer instr = IfSome answer (λ op. (op ≡ Draw instr) × InRange instr)

pub vctr_made : (answer : Option OpKind) (s x y z : List ℕ) (scale : ℕ) (dx dy : ℤ) (intensity : ℕ) → Draws answer (Vctr scale dx dy intensity)
    → s ≡ decimal scale → x ≡ signed_decimal dx → y ≡ signed_decimal dy → z ≡ decimal intensity → IfSome answer (λ op. OpParts op (codes "vctr" ∷ s ∷ x ∷ y ∷ z ∷ []))
vctr_made None s x y z scale dx dy intensity d a b e f = tt
vctr_made (Some op) s x y z scale dx dy intensity d a b e f = rw (d.0, a, b, e, f) (vctr d.1)

pub svec_made : (answer : Option OpKind) (s x y z : List ℕ) (scale : ℕ) (dx dy : ℤ) (intensity : ℕ) → Draws answer (Svec scale dx dy intensity)
    → s ≡ decimal scale → x ≡ signed_decimal dx → y ≡ signed_decimal dy → z ≡ decimal intensity → IfSome answer (λ op. OpParts op (codes "svec" ∷ s ∷ x ∷ y ∷ z ∷ []))
svec_made None s x y z scale dx dy intensity d a b e f = tt
svec_made (Some op) s x y z scale dx dy intensity d a b e f = rw (d.0, a, b, e, f) (svec d.1)

pub labs_made : (answer : Option OpKind) (name p q s : List ℕ) (x y scale : ℕ) → name ≡ codes "labs" → Draws answer (Labs x y scale)
    → p ≡ decimal x → q ≡ decimal y → s ≡ decimal scale → IfSome answer (λ op. OpParts op (name ∷ p ∷ q ∷ s ∷ []))
labs_made None name p q s x y scale n d a b e = tt
labs_made (Some op) name p q s x y scale n d a b e = rw (n, d.0, a, b, e) (labs d.1)

pub call_made : (n : ℕ) (target : List ℕ) → target ≡ decimal n → n < 2 ^ 16 → OpParts (Call n) (codes "call" ∷ target ∷ [])
call_made n target e h = rw e (call h)

pub jump_made : (n : ℕ) (target : List ℕ) → target ≡ decimal n → n < 2 ^ 16 → OpParts (Jump n) (codes "jump" ∷ target ∷ [])
jump_made n target e h = rw e (jump h)

-- what a line of a short vector spells
pub record SvecRow (op : OpKind) (s x y z : List ℕ) : Type 0 where
  pub scale : ℕ
  pub dx : ℤ
  pub dy : ℤ
  pub intensity : ℕ
  pub fits : InRange (Svec scale dx dy intensity)
  pub is : op ≡ Draw (Svec scale dx dy intensity)
  pub s_is : s ≡ decimal scale
  pub x_is : x ≡ signed_decimal dx
  pub y_is : y ≡ signed_decimal dy
  pub z_is : z ≡ decimal intensity

pub svec_row : {op : OpKind} {s x y z : List ℕ} → OpParts op (codes "svec" ∷ s ∷ x ∷ y ∷ z ∷ []) → SvecRow op s x y z
svec_row (svec {scale = s} {dx = x} {dy = y} {z = z} h) = record { scale = s; dx = x; dy = y; intensity = z; fits = h; is = refl; s_is = refl; x_is = refl; y_is = refl; z_is = refl }

-- the numbers that were read are those of the row
pub svec_drawn : (answer : Option OpKind) (op : OpKind) (s : ℕ) (x y : ℤ) (z scale : ℕ) (dx dy : ℤ) (intensity : ℕ) → Some s ≡ Some scale → Some x ≡ Some dx → Some y ≡ Some dy → Some z ≡ Some intensity
    → op ≡ Draw (Svec scale dx dy intensity) → InRange (Svec scale dx dy intensity) → (InRange (Svec s x y z) → answer ≡ Some (Draw (Svec s x y z))) → answer ≡ Some op
svec_drawn answer op s x y z scale dx dy intensity a b c d is fits drawn =
    let s_is : s ≡ scale = cc in
    let x_is : x ≡ dx = cc in
    let y_is : y ≡ dy = cc in
    let z_is : z ≡ intensity = cc in
    let answered = drawn (rw (s_is, x_is, y_is, z_is) fits) in cc

address_fits : {n : ℕ} {digits : List ℕ} → IsHex 3 n digits → n ≤ 0xFFF
address_fits {n} {digits} h = let small = digits_value-lt 16 digits h.digits in let size = rw h.size at small in omega (arith, size, h.value)

-- a draft may hold each operation that a line spells
pub is_op : {op : OpKind} {parts : List (List ℕ)} → OpParts op parts → IsOp op
is_op (vctr h) = (h, refl)
is_op (svec h) = (h, refl)
is_op (labs h) = (h, refl)
is_op (callrom h) = address_fits h
is_op (jumprom h) = address_fits h
is_op (call h) = tt
is_op (jump h) = tt
is_op return = tt
is_op halt = tt
