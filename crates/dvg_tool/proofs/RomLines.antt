-- How far the lines of a ROM have come.
use Rattle.std.proofs.Common.{◌≡◌, ℕ, ◌+◌, ◌*◌, ◌≤◌, ◌<◌, ◌≢◌, ◌==◌, if◌then◌else◌, List, [], ◌∷◌, ◌++◌, Option, length, take, drop, refl, sym, ap, subst, codes, ◌∙◌, arith, length-drop, inl, inr, ⊎_elim}
use Rattle.std.proofs.lemmas.List.{drop-drop}
use Rattle.std.proofs.lemmas.Bool.Decides.{eqb_tells}
use Rattle.std.specs.Io.KnownBytes.{Appends}
use Rattle.dvg_code.specs.Words.{words_of}
use Rattle.dvg_mem.proofs.Roms.{large_first, small_first}
use Rattle.dvg_print.specs.Lines.{map_text, rom_line, rom_lines, rom_text}
use Rattle.dvg_tool.specs.Roms.{HasRomSize, words_text}
use Rattle.dvg_io.specs.Watching.{BeginsToWrite, Went}
use Rattle.dvg_io.proofs.Inputs.{length-words_of}
use Rattle.dvg_io.proofs.WrittenSoFar.{all_of_it, nothing, piece_begun, piece_more}

-- the text of words by how many they are
pub small_words : (words : List ℕ) → length words ≡ 1024 → [] ++ rom_lines 0x800 words ≡ words_text words
small_words words few = sym (ap (λ n. if n == 1024 then rom_lines 0x800 words else (codes "map 4096" ++ 10 ∷ []) ++ rom_lines 0x400 words) few)

pub large_words : (words : List ℕ) → length words ≢ 1024 → (codes "map 4096" ++ 10 ∷ []) ++ rom_lines 0x400 words ≡ words_text words
large_words words many = ⊎_elim
    (λ few. absurd (many few.1))
    (λ other. sym (ap (λ b. if b then rom_lines 0x800 words else (codes "map 4096" ++ 10 ∷ []) ++ rom_lines 0x400 words) other.0))
    (eqb_tells (length words) 1024)

-- the text of either size
small_text : (R : List ℕ) → length R ≡ 2048 → [] ++ rom_lines 0x800 (words_of R) ≡ rom_text R
small_text R size =
    let none : map_text R ≡ [] = rw size in
    let first = small_first R size in
    sym (rw (none, first))

large_text : (R : List ℕ) → length R ≡ 4096 → (codes "map 4096" ++ 10 ∷ []) ++ rom_lines 0x400 (words_of R) ≡ rom_text R
large_text R size =
    let map : map_text R ≡ codes "map 4096" ++ 10 ∷ [] = rw size in
    let first = large_first R size in
    sym (rw (map, first))

-- so it is of the words of either size
pub text_of_words : (R : List ℕ) → HasRomSize R → words_text (words_of R) ≡ rom_text R
text_of_words R (inl small) =
    let words = length-words_of R (omega (arith, small)) in
    let few : length (words_of R) ≡ 1024 = omega (arith, small, words) in
    sym (small_words (words_of R) few) ∙ small_text R small
text_of_words R (inr large) =
    let words = length-words_of R (omega (arith, large)) in
    sym (large_words (words_of R) (λ few. omega (arith, large, words))) ∙ large_text R large

-- the first line is that of the first eight words
first_line : (address : ℕ) (words : List ℕ) → 8 ≤ length words → rom_lines address words ≡ rom_line address (take 8 words) ++ rom_lines (address + 8) (drop 8 words)
first_line address (a ∷ b ∷ c ∷ d ∷ e ∷ f ∷ g ∷ h ∷ words) long = refl
first_line address words long = absurd (omega arith)

-- the lines of the words before this row went out
abbrev pub RowsWritten : (first : ℕ) (words : List ℕ) (row : ℕ) (old now : Option (List ℕ)) → Type 0
RowsWritten first words row = Went (rom_lines first words) (rom_lines (first + row * 8) (drop (row * 8) words))

pub no_row : (first : ℕ) (words : List ℕ) (known : Option (List ℕ)) → RowsWritten first words 0 known known
no_row first words known =
    let address : first ≡ first + 0 * 8 = omega arith in
    subst (λ k. Went (rom_lines first words) (rom_lines k words) known known) address (nothing (rom_lines first words) known)

row_of : (first : ℕ) (words : List ℕ) (row : ℕ) → row * 8 + 8 ≤ length words
    → rom_lines (first + row * 8) (drop (row * 8) words) ≡ rom_line (first + row * 8) (take 8 (drop (row * 8) words)) ++ rom_lines (first + (row + 1) * 8) (drop ((row + 1) * 8) words)
row_of first words row within =
    let long : 8 ≤ length (drop (row * 8) words) = omega (arith, length-drop (row * 8) words) in
    let address : first + row * 8 + 8 ≡ first + (row + 1) * 8 = omega arith in
    let count : row * 8 + 8 ≡ (row + 1) * 8 = omega arith in
    let words_after : drop 8 (drop (row * 8) words) ≡ drop ((row + 1) * 8) words = drop-drop 8 (row * 8) words ∙ ap (λ k. drop k words) count in
    let after : rom_lines (first + row * 8 + 8) (drop 8 (drop (row * 8) words)) ≡ rom_lines (first + (row + 1) * 8) (drop ((row + 1) * 8) words) =
    ap (λ k. rom_lines k (drop 8 (drop (row * 8) words))) address ∙ ap (rom_lines (first + (row + 1) * 8)) words_after in
    first_line _ _ long ∙ ap (λ l. rom_line (first + row * 8) (take 8 (drop (row * 8) words)) ++ l) after

-- the lines from this row on
next_row : (first : ℕ) (words line : List ℕ) (row : ℕ) → row * 8 + 8 ≤ length words → line ≡ rom_line (first + row * 8) (take 8 (drop (row * 8) words))
    → rom_lines (first + row * 8) (drop (row * 8) words) ≡ line ++ rom_lines (first + (row + 1) * 8) (drop ((row + 1) * 8) words)
next_row first words line row within is = row_of first words row within ∙ ap (λ l. l ++ rom_lines (first + (row + 1) * 8) (drop ((row + 1) * 8) words)) (sym is)

-- one more row
pub row_written : (first : ℕ) (words line : List ℕ) (row : ℕ) (old now new : Option (List ℕ)) → row * 8 + 8 ≤ length words → RowsWritten first words row old now
    → line ≡ rom_line (first + row * 8) (take 8 (drop (row * 8) words)) → Appends now new line → RowsWritten first words (row + 1) old new
row_written first words line row old now new within went is wrote = piece_more line _ went (next_row first words line row within is) wrote

-- a beginning of one more row
pub row_begun : (first : ℕ) (words line : List ℕ) (row : ℕ) (old now new : Option (List ℕ)) → row * 8 + 8 ≤ length words → RowsWritten first words row old now
    → line ≡ rom_line (first + row * 8) (take 8 (drop (row * 8) words)) → BeginsToWrite line now new → BeginsToWrite (rom_lines first words) old new
row_begun first words line row old now new within went is begun = piece_begun line _ went (next_row first words line row within is) begun

-- fewer than eight words have no line
no_line : (address : ℕ) (words : List ℕ) → length words < 8 → rom_lines address words ≡ []
no_line address [] few = refl
no_line address (a ∷ []) few = refl
no_line address (a ∷ b ∷ []) few = refl
no_line address (a ∷ b ∷ c ∷ []) few = refl
no_line address (a ∷ b ∷ c ∷ d ∷ []) few = refl
no_line address (a ∷ b ∷ c ∷ d ∷ e ∷ []) few = refl
no_line address (a ∷ b ∷ c ∷ d ∷ e ∷ f ∷ []) few = refl
no_line address (a ∷ b ∷ c ∷ d ∷ e ∷ f ∷ g ∷ []) few = refl
no_line address (a ∷ b ∷ c ∷ d ∷ e ∷ f ∷ g ∷ h ∷ words) few = absurd (omega arith)

-- all rows
pub all_rows : (first : ℕ) (words : List ℕ) (rows : ℕ) (old now : Option (List ℕ)) → length words < rows * 8 + 8 → RowsWritten first words rows old now
    → Appends old now (rom_lines first words)
all_rows first words rows old now whole went =
    all_of_it went (no_line (first + rows * 8) (drop (rows * 8) words) (omega (arith, length-drop (rows * 8) words)))
