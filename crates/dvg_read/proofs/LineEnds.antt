-- How a text is cut at its line ends.
use Rattle.std.proofs.Common.{◌≡◌, ◌<◌, ℕ, List, [], ◌∷◌, ◌++◌, length, take, ap, ◌∙◌, arith, true, false, eqb, Some, None}
use Rattle.std.specs.List.{onto_first}
use Rattle.std.proofs.lemmas.List.Elements.{All-head, All-tail}
use Rattle.dvg_read.specs.Texts.{lines}
use Rattle.dvg_read.proofs.FirstBytes.{HasNone, IsCutAt, behind}

pub line_at : (line : List ℕ) (end : ℕ) (rest : List ℕ) → HasNone 10 line → eqb end 10 ≡ true → lines (line ++ end ∷ rest) ≡ line ∷ lines rest
line_at [] end rest h e = rw e
line_at (byte ∷ line) end rest h e =
    let other : eqb byte 10 ≡ false = All-head (λ b. eqb b 10 ≡ false) byte line h in
    rw other (ap (onto_first byte) (line_at line end rest (All-tail (λ b. eqb b 10 ≡ false) byte line h) e))

pub line_last : (byte : ℕ) (line : List ℕ) → HasNone 10 (byte ∷ line) → lines (byte ∷ line) ≡ (byte ∷ line) ∷ []
line_last byte [] h = let other : eqb byte 10 ≡ false = All-head (λ b. eqb b 10 ≡ false) byte [] h in rw other
line_last byte (next ∷ line) h =
    let other : eqb byte 10 ≡ false = All-head (λ b. eqb b 10 ≡ false) byte (next ∷ line) h in
    rw other (ap (onto_first byte) (line_last next line (All-tail (λ b. eqb b 10 ≡ false) byte (next ∷ line) h)))

-- the first line goes up to the first LF
pub line_ended : (bytes : List ℕ) (i : ℕ) → IsCutAt 10 bytes (Some i) → lines bytes ≡ take i bytes ∷ lines (behind i bytes)
line_ended bytes i (end, halves, before, there) = ap lines halves ∙ line_at (take i bytes) end (behind i bytes) before there

-- where there is none, all bytes are the one line
pub line_unended : (bytes : List ℕ) → 0 < length bytes → IsCutAt 10 bytes None → lines bytes ≡ bytes ∷ []
line_unended [] some h = absurd (omega arith)
line_unended (byte ∷ bytes) some h = line_last byte bytes h
