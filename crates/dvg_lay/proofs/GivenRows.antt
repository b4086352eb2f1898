-- How far the lines of a ROM have come that have to be given.
use Rattle.std.proofs.Common.{◌≡◌, ◌∙◌, ℕ, ◌+◌, ◌*◌, ◌≤◌, ◌<◌, List, [], ◌∷◌, ◌++◌, length, take, drop, refl, sym, ap, arith, length-drop}
use Rattle.std.proofs.lemmas.List.{append-nil, drop-drop}
use Rattle.dvg_lay.specs.Drafts.{given_line, given_lines}
use Rattle.dvg_blame.proofs.Lists.{grew}

-- the first line is that of the first eight words
first_line : (address : ℕ) (words : List ℕ) → 8 ≤ length words → given_lines address words ≡ given_line address (take 8 words) ++ given_lines (address + 8) (drop 8 words)
first_line address (a ∷ b ∷ c ∷ d ∷ e ∷ f ∷ g ∷ h ∷ words) long = refl
first_line address words long = absurd (omega arith)

-- the lines from a row on are its own, and those after it
row_of : (first : ℕ) (words : List ℕ) (row : ℕ) → row * 8 + 8 ≤ length words
    → given_lines (first + row * 8) (drop (row * 8) words) ≡ given_line (first + row * 8) (take 8 (drop (row * 8) words)) ++ given_lines (first + (row + 1) * 8) (drop ((row + 1) * 8) words)
row_of first words row within =
    let long : 8 ≤ length (drop (row * 8) words) = omega (arith, length-drop (row * 8) words) in
    let address : first + row * 8 + 8 ≡ first + (row + 1) * 8 = omega arith in
    let count : row * 8 + 8 ≡ (row + 1) * 8 = omega arith in
    let words_after : drop 8 (drop (row * 8) words) ≡ drop ((row + 1) * 8) words = drop-drop 8 (row * 8) words ∙ ap (λ k. drop k words) count in
    let after : given_lines (first + row * 8 + 8) (drop 8 (drop (row * 8) words)) ≡ given_lines (first + (row + 1) * 8) (drop ((row + 1) * 8) words) =
    ap (λ k. given_lines k (drop 8 (drop (row * 8) words))) address ∙ ap (given_lines (first + (row + 1) * 8)) words_after in
    first_line _ _ long ∙ ap (λ l. given_line (first + row * 8) (take 8 (drop (row * 8) words)) ++ l) after

-- the line of the next row was added
pub row_added : (first : ℕ) (words : List ℕ) (row : ℕ) (old line new whole : List ℕ) → row * 8 + 8 ≤ length words
    → line ≡ given_line (first + row * 8) (take 8 (drop (row * 8) words)) → new ≡ old ++ line
    → old ++ given_lines (first + row * 8) (drop (row * 8) words) ≡ whole → new ++ given_lines (first + (row + 1) * 8) (drop ((row + 1) * 8) words) ≡ whole
row_added first words row old line new whole within is more before =
    grew old (given_line (first + row * 8) (take 8 (drop (row * 8) words))) new (given_lines (first + (row + 1) * 8) (drop ((row + 1) * 8) words)) whole
    (more ∙ ap (λ l. old ++ l) is) (ap (λ l. old ++ l) (sym (row_of first words row within)) ∙ before)

-- fewer than eight words have no line
no_line : (address : ℕ) (words : List ℕ) → length words < 8 → given_lines address words ≡ []
no_line address [] few = refl
no_line address (a ∷ []) few = refl
no_line address (a ∷ b ∷ []) few = refl
no_line address (a ∷ b ∷ c ∷ []) few = refl
no_line address (a ∷ b ∷ c ∷ d ∷ []) few = refl
no_line address (a ∷ b ∷ c ∷ d ∷ e ∷ []) few = refl
no_line address (a ∷ b ∷ c ∷ d ∷ e ∷ f ∷ []) few = refl
no_line address (a ∷ b ∷ c ∷ d ∷ e ∷ f ∷ g ∷ []) few = refl
no_line address (a ∷ b ∷ c ∷ d ∷ e ∷ f ∷ g ∷ h ∷ words) few = absurd (omega arith)

-- all rows
pub all_rows : (first : ℕ) (words : List ℕ) (rows : ℕ) (text whole : List ℕ) → length words < rows * 8 + 8
    → text ++ given_lines (first + rows * 8) (drop (rows * 8) words) ≡ whole → text ≡ whole
all_rows first words rows text whole all is =
    let none = no_line (first + rows * 8) (drop (rows * 8) words) (omega (arith, length-drop (rows * 8) words)) in
    sym (append-nil text) ∙ ap (λ l. text ++ l) (sym none) ∙ is
