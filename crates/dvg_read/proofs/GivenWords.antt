-- The words that a line gives, and the bytes of a ROM.
use Rattle.std.proofs.Common.{◌≡◌, ◌+◌, ◌-◌, ◌<◌, ◌≤◌, ℕ, List, [], ◌∷◌, ◌++◌, length, zero, suc, set, get_or, take, drop, codes, sym, ap, subst, ◌∙◌, arith, true, false, nat_le, nat_lt, slice_index, ◌⊎◌, inl, inr}
use Rattle.std.specs.Borrow.{Bor}
use Rattle.std.proofs.lemmas.Bool.{cases_lt, le-leb, le-ltb, lt-leb, lt-ltb}
use Rattle.std.proofs.lemmas.List.{get_or-map, length-map, length-take-le, map_more, take_all}
use Rattle.dvg_code.specs.Words.{word_in}
use Rattle.dvg_read.specs.LineParts.{bytes_of}
use Rattle.dvg_read.specs.RomTexts.{IsRomLine, RomLine, word_after_line}
use Rattle.dvg_read.specs.RomReading.{IsAfterLine, SpellsWords}
use Rattle.dvg_read.specs.Texts.{IsHex, parts}
use Rattle.dvg_read.proofs.Zips.{zip_at, zip_length, zip_push, zip_same}

-- one more part
pub word_read : (words : List ℕ) (parts : List (Bor (List ℕ))) (k word : ℕ) (d : Bor (List ℕ)) → SpellsWords words (bytes_of (take k parts)) → k < length parts → IsHex 4 word (get_or parts k d).now
    → SpellsWords (words ++ word ∷ []) (bytes_of (take (k + 1) parts))
word_read words parts k word d read l h = subst (SpellsWords (words ++ word ∷ [])) (sym (map_more (λ p. p.now) parts k d l)) (zip_push (λ w p. IsHex 4 w p) words _ word (get_or parts k d).now read h)

-- as many words were read as parts
pub count_read : (words : List ℕ) (parts : List (Bor (List ℕ))) (k : ℕ) → SpellsWords words (bytes_of (take k parts)) → k ≤ length parts → length words ≡ k
count_read words parts k read l = zip_length (λ w p. IsHex 4 w p) words _ read ∙ length-map (take k parts) (λ p. p.now) ∙ length-take-le k parts l

hex_same : (x y : ℕ) (part : List ℕ) → IsHex 4 x part → IsHex 4 y part → x ≡ y
hex_same x y part h k = sym h.value ∙ k.value

pub same_words : (xs ys : List ℕ) (parts : List (List ℕ)) → SpellsWords xs parts → SpellsWords ys parts → xs ≡ ys
same_words = zip_same (λ w p. IsHex 4 w p) hex_same

-- from place `first` on, these words were put, and all others are as they were
pub record PutTo (first k : ℕ) (words old now : List ℕ) : Type 0 where
  pub inside : (j : ℕ) → j < k → word_in now (first + j) ≡ slice_index words j
  pub before : (j : ℕ) → j < first → word_in now j ≡ word_in old j
  pub behind : (j : ℕ) → first + k ≤ j → word_in now j ≡ word_in old j

-- which word stands at an address after a line
word_inside : (address : ℕ) (words : List ℕ) (a word : ℕ) → address ≤ a → a < address + length words → word_after_line (record { address = address; words = words }) a word ≡ slice_index words (a - address)
word_inside address words a word low high =
    let first : nat_le address a ≡ true = le-leb _ _ low in
    let last : nat_lt a (address + length words) ≡ true = lt-ltb _ _ high in rw (first, last)

word_before : (address : ℕ) (words : List ℕ) (a word : ℕ) → a < address → word_after_line (record { address = address; words = words }) a word ≡ word
word_before address words a word low = let first : nat_le address a ≡ false = lt-leb _ _ low in rw first

word_beyond : (address : ℕ) (words : List ℕ) (a word : ℕ) → address ≤ a → address + length words ≤ a → word_after_line (record { address = address; words = words }) a word ≡ word
word_beyond address words a word low high =
    let first : nat_le address a ≡ true = le-leb _ _ low in
    let last : nat_lt a (address + length words) ≡ false = le-ltb _ _ high in rw (first, last)

by_place : (address first place : ℕ) (words old new : List ℕ) → address ≡ first + place → PutTo place (length words) words old new → (k : ℕ) → (k < place) ⊎ (place ≤ k) → (k < place + length words) ⊎ (place + length words ≤ k)
    → word_in new k ≡ word_after_line (record { address = address; words = words }) (first + k) (word_in old k)
by_place address first place words old new is p k (inl low) any = p.before k low ∙ sym (word_before address words (first + k) (word_in old k) (omega arith))
by_place address first place words old new is p k (inr low) (inl high) =
    let at : place + (k - place) ≡ k = omega arith in
    let index : first + k - address ≡ k - place = omega arith in
    ap (word_in new) (sym at) ∙ p.inside (k - place) (omega arith) ∙ ap (slice_index words) (sym index) ∙ sym (word_inside address words (first + k) (word_in old k) (omega arith) (omega arith))
by_place address first place words old new is p k (inr low) (inr high) = p.behind k high ∙ sym (word_beyond address words (first + k) (word_in old k) (omega arith) (omega arith))

-- all words of a line
pub all_put : (address first place : ℕ) (words old new : List ℕ) → first ≤ address → place ≡ address - first → length new ≡ length old → PutTo place (length words) words old new → IsAfterLine (record { address = address; words = words }) first old new
all_put address first place words old new low is size p = record { count = size; words = λ k small. by_place address first place words old new (omega arith) p k (cases_lt k place) (cases_lt k (place + length words)) }

-- no words go with parts of which too many are left
pub too_many : (found words : List ℕ) (parts : List (Bor (List ℕ))) (k : ℕ) → SpellsWords found (bytes_of (take k parts)) → k < length parts → length found ≡ 8 → length words ≤ 8 → SpellsWords words (bytes_of parts) → ⊥
too_many found words parts k read l full few all =
    let count = count_read found parts k read (omega arith) in
    let size = zip_length (λ w p. IsHex 4 w p) words (bytes_of parts) all in
    let parts_size = length-map parts (λ p. p.now) in
    absurd (omega arith)

-- nor with parts of which one is no word
pub no_word : (words : List ℕ) (parts : List (Bor (List ℕ))) (k : ℕ) (d : Bor (List ℕ)) → k < length parts → ((word : ℕ) → IsHex 4 word (get_or parts k d).now → ⊥) → SpellsWords words (bytes_of parts) → ⊥
no_word words parts k d l none all =
    let found = zip_at (λ w p. IsHex 4 w p) words (bytes_of parts) k d.now all (rw (length-map parts (λ p. p.now)) l) in
    none found.0 (subst (IsHex 4 found.0) (get_or-map (λ p. p.now) parts k d d.now l) found.1)

-- a line of a ROM has no more than ten parts
pub ten_parts : (first : ℕ) (given : RomLine) (line : List ℕ) → IsRomLine first given line → length (parts line) ≤ 10
ten_parts first given line h = let count = ap length h.split in let size = zip_length (λ w p. IsHex 4 w p) given.words h.spelled h.words in let most = h.most in omega (arith, count, size, most)

split_rom : (items : List (Bor (List ℕ))) (d : Bor (List ℕ)) → 2 ≤ length items → (get_or items 0 d).now ≡ codes "rom" → bytes_of items ≡ codes "rom" ∷ (get_or items 1 d).now ∷ bytes_of (take (length items - 2) (drop 2 items))
split_rom [] d two name = absurd (omega arith)
split_rom (x ∷ []) d two name = absurd (omega arith)
split_rom (x ∷ y ∷ items) d two name =
    ap (λ n. n ∷ y.now ∷ bytes_of items) name ∙ ap (λ l. codes "rom" ∷ y.now ∷ bytes_of l) (sym (take_all (length (x ∷ y ∷ items) - 2) items (omega arith)))

-- a line of a ROM, by its parts
pub rom_read : (first : ℕ) (line : List ℕ) (items : List (Bor (List ℕ))) (d : Bor (List ℕ)) (address : ℕ) (words : List ℕ) → bytes_of items ≡ parts line → 2 ≤ length items → (get_or items 0 d).now ≡ codes "rom" → IsHex 3 address (get_or items 1 d).now
    → SpellsWords words (bytes_of (take (length items - 2) (drop 2 items))) → 0 < length words → length words ≤ 8 → first ≤ address → address + length words ≤ 0xC00 → IsRomLine first (record { address = address; words = words }) line
rom_read first line items d address words is two name digits read some most low high = record {
  digits = (get_or items 1 d).now;
  spelled = bytes_of (take (length items - 2) (drop 2 items));
  split = sym is ∙ split_rom items d two name;
  address = digits;
  words = read;
  some = some;
  most = most;
  low = low;
  high = high;
}

-- bytes of which one was written
pub set_fits : (R : List ℕ) (i byte : ℕ) → byte < 256 → ((k : ℕ) → get_or R k 0 < 256) → (k : ℕ) → get_or (set R i byte) k 0 < 256
set_fits [] i byte h fits k = fits k
set_fits (x ∷ R) zero byte h fits zero = h
set_fits (x ∷ R) zero byte h fits (suc k) = fits (suc k)
set_fits (x ∷ R) (suc i) byte h fits zero = fits zero
set_fits (x ∷ R) (suc i) byte h fits (suc k) = set_fits R i byte h (λ j. fits (suc j)) k
