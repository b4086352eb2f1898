-- One byte throughout.
use Rattle.std.proofs.Common.{◌≡◌, ℕ, suc, ◌-◌, ◌<◌, List, [], ◌∷◌, drop, take, length, refl, sym, ap, ◌∙◌, arith}
use Rattle.std.proofs.Common.{get_or, Option, Some}
use Rattle.std.specs.Prelude.{replicate}
use Rattle.std.proofs.Math.Seq.{take-length}
use Rattle.std.proofs.lemmas.List.{get_or-replicate}
use Rattle.dvg_mem.specs.Filled.{IsFilled, held}
use Rattle.dvg_mem.specs.Memory.{IsImage}

-- where all elements but the first are all but the last, they are the first one
pub same : (x : ℕ) (rest : List ℕ) → rest ≡ take (length rest) (x ∷ rest) → x ∷ rest ≡ replicate (suc (length rest)) x
same x [] is = refl
same x (y ∷ ys) is =
    let first : y ≡ x = cc in
    let others : ys ≡ take (length ys) (y ∷ ys) = cc in
    ap (λ zs. x ∷ zs) (same y ys others) ∙ ap (λ z. x ∷ replicate (suc (length ys)) z) first

-- so one byte stands everywhere
pub one_byte : (xs : List ℕ) (d : ℕ) → 0 < length xs → take (length xs - 1) (drop 1 xs) ≡ take (length xs - 1) xs
    → IsFilled xs (get_or xs 0 d)
one_byte [] d some is = absurd (omega arith)
one_byte (x ∷ rest) d some is =
    let less : length (x ∷ rest) - 1 ≡ length rest = omega arith in
    let front : take (length rest) rest ≡ rest = take-length rest in
    same x rest (sym front ∙ sym (ap (λ n. take n rest) less) ∙ is ∙ ap (λ n. take n (x ∷ rest)) less)

-- the byte at an address, where one byte stands everywhere
pub read_everywhere : (everywhere : Option ℕ) (bytes content : List ℕ) (byte a : ℕ) → everywhere ≡ Some byte
    → held everywhere bytes ≡ content → a < length bytes → byte ≡ get_or content a 0
read_everywhere everywhere bytes content byte a is view low =
    let same : replicate (length bytes) byte ≡ content = sym (ap (λ e. held e bytes) is) ∙ view in
    sym (get_or-replicate (length bytes) a byte 0 low) ∙ ap (λ l. get_or l a 0) same

-- bytes that were filled with it
pub filled_up : (everywhere : Option ℕ) (bytes content filled : List ℕ) (byte n : ℕ) → everywhere ≡ Some byte
    → held everywhere bytes ≡ content → filled ≡ replicate n byte → n ≡ length bytes → filled ≡ content
filled_up everywhere bytes content filled byte n is view fills size =
    fills ∙ ap (λ k. replicate k byte) size ∙ sym (ap (λ e. held e bytes) is) ∙ view

-- an image that it fills
pub filled_image : (image bytes : List ℕ) (byte : ℕ) → IsImage image → IsFilled image byte → IsImage bytes
    → replicate (length bytes) byte ≡ image
filled_image image bytes byte is fills held_now = ap (λ n. replicate n byte) (held_now.count ∙ sym is.count)
    ∙ sym fills
