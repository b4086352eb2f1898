-- The bytes of a layout, and the words that they make.
use Rattle.std.proofs.Common.{◌≡◌, ◌∙◌, ◌+◌, ◌*◌, ◌/◌, ◌%◌, ℕ, suc, List, [], ◌∷◌, ap, ap₂, arith, length, map, refl}
use Rattle.dvg_code.specs.Words.{words_of}
use Rattle.dvg_frame.specs.Bytes.{addressed, bytes}
use Rattle.dvg_frame.proofs.Bytes.{bytes-length}

-- bytes without their addresses
pub addressed_bytes : (a : ℕ) (bs : List ℕ) → map (λ item. item.1) (addressed a bs) ≡ bs
addressed_bytes a [] = refl
addressed_bytes a (byte ∷ bs) = ap (λ l. byte ∷ l) (addressed_bytes (suc a) bs)

-- words again
pub words_again : (words : List ℕ) → words_of (bytes words) ≡ words
words_again [] = refl
words_again (word ∷ words) =
    let whole : word % 256 + 256 * (word / 256) ≡ word = omega arith in
    ap₂ (λ w ws. w ∷ ws) whole (words_again words)

-- two bytes a word
pub even_bytes : (words bs : List ℕ) → bs ≡ bytes words → length bs % 2 ≡ 0
even_bytes words bs is =
    let count = ap length is ∙ bytes-length words in
    omega (arith, count)
