-- The words of a ROM that has grown.
use Rattle.std.proofs.Common.{◌≡◌, ◌∙◌, ℕ, ◌+◌, ◌-◌, ◌*◌, ◌<◌, ◌≤◌, ⊎_elim, inr, List, [], ◌∷◌, ◌++◌, length, get_or, get_or-append-add, Some, None, true, false, refl, ap, ap₂, sym, subst, arith, lit<, zero, suc, nat_le, nat_lt}
use Rattle.std.specs.Prelude.{All, Bool, ◌&&◌, if◌then◌else◌}
use Rattle.std.proofs.lemmas.Bool.{cases_lt, le-leb, le-ltb, lt-ltb}
use Rattle.std.proofs.lemmas.List.Elements.{All-append}
use Rattle.std.proofs.lemmas.List.{length-append, get_or_append_left}
use Rattle.dvg_code.specs.Words.{word_in}
use Rattle.dvg_mem.specs.Memory.{IsGrown, IsRom, first_word, rom_word}
use Rattle.dvg_mem.proofs.Roms.{large_first, words_from_first}
use Rattle.dvg_mem.specs.Grown.{AreReturns, ArePushedBack}

-- a word of the front, and one after it
pub word_before : (xs ys : List ℕ) (k : ℕ) → 2 * k + 1 < length xs → word_in (xs ++ ys) k ≡ word_in xs k
word_before xs ys k inside = ap₂ (λ low high. low + 256 * high) (get_or_append_left xs ys 0 (2 * k) (omega arith)) (get_or_append_left xs ys 0 (2 * k + 1) inside)

pub word_behind : (xs ys : List ℕ) (n k : ℕ) → length xs ≡ 2 * n → word_in (xs ++ ys) (n + k) ≡ word_in ys k
word_behind xs ys n k size =
    let low : 2 * (n + k) ≡ length xs + 2 * k = omega arith in
    let high : 2 * (n + k) + 1 ≡ length xs + (2 * k + 1) = omega arith in
    ap₂ (λ low high. low + 256 * high)
    (ap (λ j. get_or (xs ++ ys) j 0) low ∙ get_or-append-add xs ys (2 * k) 0)
    (ap (λ j. get_or (xs ++ ys) j 0) high ∙ get_or-append-add xs ys (2 * k + 1) 0)

return_fits : All (λ byte. byte < 256) (0x00 ∷ 0xD0 ∷ [])
return_fits zero d less = lit< tt
return_fits (suc zero) d less = lit< tt
return_fits (suc (suc k)) d less = absurd (omega arith)

-- one more return
pub one_more : (xs : List ℕ) (n : ℕ) → AreReturns xs n → AreReturns (xs ++ 0x00 ∷ 0xD0 ∷ []) (n + 1)
one_more xs n are = record {
  count = let size = are.count in length-append xs _ ∙ omega arith;
  bytes = All-append (λ byte. byte < 256) _ _ are.bytes return_fits;
  words = λ k less. let size = are.count in ⊎_elim
      (λ before. word_before xs _ k (omega arith) ∙ are.words k before)
      (λ last. let at : k ≡ n + 0 = omega arith in ap (word_in (xs ++ 0x00 ∷ 0xD0 ∷ [])) at ∙ word_behind xs _ n 0 size)
      (cases_lt k n);
}

pub no_return : AreReturns [] 0
no_return = record { count = refl; bytes = λ k d less. absurd (omega arith); words = λ k less. absurd (omega arith) }

and_false : (b : Bool) → (b && false) ≡ false
and_false true = refl
and_false false = refl

module _ (old new : List ℕ) (small : first_word old ≡ 0x800) (rom : IsRom old) (made : ArePushedBack old new) where
  old_count : length old ≡ 2048
  old_count = let words = words_from_first old rom in omega arith

  count : length new ≡ 4096
  count = let front = made.returns.count in let size = old_count in ap length made.whole ∙ length-append made.front old ∙ omega arith

  pub is_rom : IsRom new
  is_rom = record { count = inr count; bytes = subst (All (λ byte. byte < 256)) (sym made.whole) (All-append (λ byte. byte < 256) _ _ made.returns.bytes rom.bytes) }

  first : first_word new ≡ 0x400
  first = large_first new count

  there : (a : ℕ) → 0x400 ≤ a → a < 0xC00 → rom_word new a ≡ Some (word_in (made.front ++ old) (a - 0x400))
  there a low high =
      ap (λ f. if nat_le f a && nat_lt a 0xC00 then Some (word_in new (a - f)) else None) first
      ∙ ap (λ b. if b && nat_lt a 0xC00 then Some (word_in new (a - 0x400)) else None) (le-leb 0x400 a low)
      ∙ ap (λ b. if b then Some (word_in new (a - 0x400)) else None) (lt-ltb a 0xC00 high)
      ∙ ap (λ l. Some (word_in l (a - 0x400))) made.whole

  old_there : (a : ℕ) → 0x800 ≤ a → a < 0xC00 → rom_word old a ≡ Some (word_in old (a - 0x800))
  old_there a low high =
      ap (λ f. if nat_le f a && nat_lt a 0xC00 then Some (word_in old (a - f)) else None) small
      ∙ ap (λ b. if b && nat_lt a 0xC00 then Some (word_in old (a - 0x800)) else None) (le-leb 0x800 a low)
      ∙ ap (λ b. if b then Some (word_in old (a - 0x800)) else None) (lt-ltb a 0xC00 high)

  nowhere : (R : List ℕ) (a : ℕ) → 0xC00 ≤ a → rom_word R a ≡ None
  nowhere R a past =
      ap (λ b. if nat_le (first_word R) a && b then Some (word_in R (a - first_word R)) else None) (le-ltb a 0xC00 past)
      ∙ ap (λ b. if b then Some (word_in R (a - first_word R)) else None) (and_false (nat_le (first_word R) a))

  pub grown : IsGrown old new
  grown = record {
    count = count;
    returns = λ a low high. let size = made.returns.count in there a low (omega arith)
        ∙ ap Some (word_before made.front old (a - 0x400) (omega arith) ∙ made.returns.words (a - 0x400) (omega arith));
    words = λ a low. ⊎_elim
        (λ high. let at : a - 0x400 ≡ 1024 + (a - 0x800) = omega arith in
        there a (omega arith) high ∙ ap (λ k. Some (word_in (made.front ++ old) k)) at ∙ ap Some (word_behind made.front old 1024 (a - 0x800) made.returns.count)
        ∙ sym (old_there a low high))
        (λ past. nowhere new a past ∙ sym (nowhere old a past))
        (cases_lt a 0xC00);
  }
