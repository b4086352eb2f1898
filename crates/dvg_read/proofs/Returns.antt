-- Bytes of returns, several at once.
use Rattle.std.proofs.Common.{◌≡◌, ◌∙◌, ℕ, ◌+◌, ◌-◌, ◌*◌, ◌<◌, ⊎_elim, List, [], ◌∷◌, ◌++◌, ap, arith, subst, sym}
use Rattle.std.proofs.lemmas.Bool.{cases_lt}
use Rattle.std.proofs.lemmas.List.Elements.{All-append}
use Rattle.std.proofs.lemmas.List.{length-append}
use Rattle.dvg_code.specs.Words.{word_in}
use Rattle.dvg_mem.specs.Grown.{AreReturns}
use Rattle.dvg_mem.proofs.GrownRom.{no_return, one_more, word_before, word_behind}

-- some returns, and more of them
pub more_returns : (xs ys : List ℕ) (m n : ℕ) → AreReturns xs m → AreReturns ys n → AreReturns (xs ++ ys) (m + n)
more_returns xs ys m n front rest = record {
  count = let some = front.count in let more = rest.count in length-append xs ys ∙ omega arith;
  bytes = All-append (λ byte. byte < 256) _ _ front.bytes rest.bytes;
  words = λ k less. let size = front.count in ⊎_elim
      (λ before. word_before xs ys k (omega arith) ∙ front.words k before)
      (λ after. let at : k ≡ m + (k - m) = omega arith in
      ap (word_in (xs ++ ys)) at ∙ word_behind xs ys m (k - m) size ∙ rest.words (k - m) (omega arith))
      (cases_lt k m);
}

-- the bytes of a row, of eight returns
abbrev pub row_bytes : List ℕ
row_bytes = 0x00 ∷ 0xD0 ∷ 0x00 ∷ 0xD0 ∷ 0x00 ∷ 0xD0 ∷ 0x00 ∷ 0xD0 ∷ 0x00 ∷ 0xD0 ∷ 0x00 ∷ 0xD0 ∷ 0x00 ∷ 0xD0 ∷ 0x00 ∷ 0xD0 ∷ []

pub row_of_returns : AreReturns row_bytes 8
row_of_returns = one_more _ 7 (one_more _ 6 (one_more _ 5 (one_more _ 4 (one_more _ 3 (one_more _ 2 (one_more _ 1 (one_more [] 0 no_return)))))))

-- some rows, and one more
pub row_more : (xs ys : List ℕ) (rows : ℕ) → AreReturns xs (8 * rows) → ys ≡ xs ++ row_bytes → AreReturns ys (8 * (rows + 1))
row_more xs ys rows front is =
    let count : 8 * rows + 8 ≡ 8 * (rows + 1) = omega arith in
    subst (AreReturns ys) count (subst (λ l. AreReturns l (8 * rows + 8)) (sym is) (more_returns xs row_bytes (8 * rows) 8 front row_of_returns))
