-- How a line is cut into its tokens, up to its comment.
use Rattle.std.proofs.Common.{◌≡◌, ◌<◌, ◌≤◌, ◌+◌, ◌-◌, ℕ, zero, suc, List, [], ◌∷◌, ◌++◌, length}
use Rattle.std.proofs.Common.{Bool, true, false, not, cond, eqb, ◌||◌, All, codes, get_or, take, drop}
use Rattle.std.proofs.Common.{refl, ap, sym, subst, ◌∙◌, add-one, append-nil, append_assoc, arith}
use Rattle.std.proofs.Common.{length-append}
use Rattle.std.proofs.Math.Seq.{split_at, take-suc}
use Rattle.std.proofs.lemmas.Bool.{eq-eqb, eqb-true, false_from_ne_true}
use Rattle.std.proofs.lemmas.List.{take_all, take_rest}
use Rattle.std.proofs.lemmas.List.Elements.{All-append, All-cons, All-head, All-nil, All-tail}
use Rattle.std.proofs.lemmas.List.Splits.{slice_split_at, slice_split_none}
use Rattle.std.proofs.lemmas.List.Sums.{take_while-cons}
use Rattle.dvg_read.proofs.FirstBytes.{HasNone, behind}
use Rattle.std.specs.List.{filter, slice_split}
use Rattle.dvg_rows.specs.PlainLines.{ends_token, is_blank, is_some_byte, uncommented}

-- a byte that is no `#` stays
pub byte_kept : (byte : ℕ) (bytes : List ℕ) → eqb byte 35 ≡ false
    → uncommented (byte ∷ bytes) ≡ byte ∷ uncommented bytes
byte_kept byte bytes other = take_while-cons (λ b. not (eqb b 35)) byte bytes ∙ rw other refl

-- a `#` ends the line
byte_cut : (byte : ℕ) (bytes : List ℕ) → eqb byte 35 ≡ true → uncommented (byte ∷ bytes) ≡ []
byte_cut byte bytes is = take_while-cons (λ b. not (eqb b 35)) byte bytes ∙ rw is refl

uncommented_by : (is : Bool) (byte : ℕ) (bytes : List ℕ) → eqb byte 35 ≡ is → HasNone 35 (uncommented bytes)
    → HasNone 35 (uncommented (byte ∷ bytes))
uncommented_by true byte bytes e none =
    subst (HasNone 35) (sym (byte_cut byte bytes e)) (All-nil (λ b. eqb b 35 ≡ false))
uncommented_by false byte bytes e none =
    subst (HasNone 35) (sym (byte_kept byte bytes e)) (All-cons (λ b. eqb b 35 ≡ false) byte (uncommented bytes) e none)

-- there is no `#` before the comment
pub none_in_uncommented : (line : List ℕ) → HasNone 35 (uncommented line)
none_in_uncommented [] = All-nil (λ b. eqb b 35 ≡ false)
none_in_uncommented (byte ∷ bytes) = uncommented_by (eqb byte 35) byte bytes refl (none_in_uncommented bytes)

-- what stands before the first `#` stays
pub cut_at_comment : (line : List ℕ) (end : ℕ) (rest : List ℕ) → HasNone 35 line → eqb end 35 ≡ true
    → uncommented (line ++ end ∷ rest) ≡ line
cut_at_comment [] end rest h is = byte_cut end rest is
cut_at_comment (byte ∷ line) end rest h is =
    byte_kept byte (line ++ end ∷ rest) (All-head (λ b. eqb b 35 ≡ false) byte line h)
    ∙ ap (λ l. byte ∷ l) (cut_at_comment line end rest (All-tail (λ b. eqb b 35 ≡ false) byte line h) is)

-- a line without one stays
pub nothing_cut : (line : List ℕ) → HasNone 35 line → uncommented line ≡ line
nothing_cut [] h = refl
nothing_cut (byte ∷ line) h =
    byte_kept byte line (All-head (λ b. eqb b 35 ≡ false) byte line h)
    ∙ ap (λ l. byte ∷ l) (nothing_cut line (All-tail (λ b. eqb b 35 ≡ false) byte line h))

-- a text without one stays before whatever comes after it
kept_before : (text rest : List ℕ) → HasNone 35 text → uncommented (text ++ rest) ≡ text ++ uncommented rest
kept_before [] rest h = refl
kept_before (byte ∷ text) rest h =
    byte_kept byte (text ++ rest) (All-head (λ b. eqb b 35 ≡ false) byte text h)
    ∙ ap (λ l. byte ∷ l) (kept_before text rest (All-tail (λ b. eqb b 35 ≡ false) byte text h))

-- ---- the tokens of a text, one after the other

-- the tokens of a text at whose end no CR counts
abbrev pub parted : List ℕ → List (List ℕ)
parted text = filter is_some_byte (slice_split is_blank (uncommented text))

-- none of these bytes ends a token
abbrev pub IsWhole : List ℕ → Type 0
IsWhole = All (λ byte. ends_token byte ≡ false)

-- a token goes on with a byte that doesn't end it
pub one_more_inside : (text : List ℕ) (n : ℕ) → n < length text → IsWhole (take n text)
    → ends_token (get_or text n 0) ≡ false → IsWhole (take (n + 1) text)
one_more_inside text n inside whole here =
    let ends_no : ℕ → Type 0 = λ byte. ends_token byte ≡ false in
    rw (add-one, take-suc text n 0 inside) (All-append ends_no (take n text) (get_or text n 0 ∷ []) whole
    (All-cons ends_no (get_or text n 0) [] here (All-nil ends_no)))

-- a text without such a byte is one token
pub whole_text : (text : List ℕ) (n : ℕ) → length text ≤ n → IsWhole (take n text) → IsWhole text
whole_text text n all whole = subst IsWhole (take_all n text all) whole

neither : (p q : Bool) → (p || q) ≡ false → (p ≡ false) × (q ≡ false)
neither false q h = (refl, h)
neither true q h = absurd cc

no_blank : (token : List ℕ) → IsWhole token → All (λ byte. is_blank byte ≡ false) token
no_blank token whole k d inside = (neither _ _ (whole k d inside)).0

no_comment : (token : List ℕ) → IsWhole token → HasNone 35 token
no_comment token whole k d inside = (neither _ _ (whole k d inside)).1

-- the text's end ends a token
ended_by_end : (token : List ℕ) → IsWhole token → parted token ≡ filter is_some_byte (token ∷ [])
ended_by_end token whole =
    ap (λ l. filter is_some_byte (slice_split is_blank l)) (nothing_cut token (no_comment token whole))
    ∙ ap (filter is_some_byte) (slice_split_none is_blank token (no_blank token whole))

-- so does a comment
ended_by_comment : (token : List ℕ) (byte : ℕ) (more : List ℕ) → IsWhole token → eqb byte 35 ≡ true
    → parted (token ++ byte ∷ more) ≡ filter is_some_byte (token ∷ [])
ended_by_comment token byte more whole is =
    ap (λ l. filter is_some_byte (slice_split is_blank l)) (cut_at_comment token byte more (no_comment token whole) is)
    ∙ ap (filter is_some_byte) (slice_split_none is_blank token (no_blank token whole))

first_kept : (token : List ℕ) (others : List (List ℕ))
    → filter is_some_byte (token ∷ others) ≡ filter is_some_byte (token ∷ []) ++ filter is_some_byte others
first_kept [] others = refl
first_kept (byte ∷ token) others = refl

-- so does a blank, behind which the others stand
ended_by_blank : (token : List ℕ) (byte : ℕ) (more : List ℕ) → IsWhole token → ends_token byte ≡ true
    → eqb byte 35 ≡ false → parted (token ++ byte ∷ more) ≡ filter is_some_byte (token ∷ []) ++ parted more
ended_by_blank token byte more whole ends other =
    let kept = kept_before token (byte ∷ more) (no_comment token whole) ∙ ap (λ l. token ++ l) (byte_kept byte more other) in
    let blank : is_blank byte ≡ true = either_first (is_blank byte) (eqb byte 35) ends other in
    ap (λ l. filter is_some_byte (slice_split is_blank l)) kept
    ∙ ap (filter is_some_byte) (slice_split_at is_blank token byte (uncommented more) (no_blank token whole) blank)
    ∙ first_kept token (slice_split is_blank (uncommented more))
  where
    either_first : (p q : Bool) → (p || q) ≡ true → q ≡ false → p ≡ true
    either_first true q h k = refl
    either_first false q h k = absurd cc

-- the tokens behind a token that this byte ends
abbrev others : ℕ → List ℕ → List (List ℕ)
others byte more = cond (eqb byte 35) [] (parted more)

ended_by : (token : List ℕ) (byte : ℕ) (more : List ℕ) (is : Bool) → IsWhole token → ends_token byte ≡ true
    → eqb byte 35 ≡ is → parted (token ++ byte ∷ more) ≡ filter is_some_byte (token ∷ []) ++ cond is [] (parted more)
ended_by token byte more true whole ends e = ended_by_comment token byte more whole e ∙ sym (append-nil _)
ended_by token byte more false whole ends e = ended_by_blank token byte more whole ends e

-- a text's tokens are the first one and those behind it
first_of : (text : List ℕ) (end : ℕ) → end < length text → IsWhole (take end text) → ends_token (get_or text end 0) ≡ true
    → parted text ≡ filter is_some_byte (take end text ∷ []) ++ others (get_or text end 0) (behind end text)
first_of text end inside whole ends =
    let halves : text ≡ take end text ++ get_or text end 0 ∷ behind end text =
    rw (take_rest text (end + 1)) (rw add-one (split_at text end 0 inside)) in
    ap parted halves ∙ ended_by (take end text) (get_or text end 0) (behind end text) (eqb (get_or text end 0) 35) whole ends refl

-- the last token is found, too
pub last_found : (old new all : List (List ℕ)) (text : List ℕ) → old ++ parted text ≡ all → IsWhole text
    → new ≡ old ++ filter is_some_byte (text ∷ []) → new ≡ all
last_found old new all text so_far whole is = is ∙ ap (λ l. old ++ l) (sym (ended_by_end text whole)) ∙ so_far

-- the first token of what is left, where all tokens are those found before and those that are left
module _ (old all : List (List ℕ)) (text : List ℕ) (end : ℕ) (so_far : old ++ parted text ≡ all) (inside : end < length text)
    (whole : IsWhole (take end text)) (ends : ends_token (get_or text end 0) ≡ true) where
  -- with it, only the others are left
  with_others : (new : List (List ℕ)) → new ≡ old ++ filter is_some_byte (take end text ∷ [])
      → new ++ others (get_or text end 0) (behind end text) ≡ all
  with_others new is =
      ap (λ l. l ++ others (get_or text end 0) (behind end text)) is
      ∙ append_assoc old (filter is_some_byte (take end text ∷ [])) (others (get_or text end 0) (behind end text))
      ∙ ap (λ l. old ++ l) (sym (first_of text end inside whole ends)) ∙ so_far

  -- so these are no more than all
  pub within_all : length (old ++ filter is_some_byte (take end text ∷ [])) ≤ length all
  within_all =
      let with_it = old ++ filter is_some_byte (take end text ∷ []) in
      let count = ap length (with_others with_it refl) in
      omega (arith, count, length-append with_it (others (get_or text end 0) (behind end text)))

  -- none are in a comment
  pub all_found : (new : List (List ℕ)) → new ≡ old ++ filter is_some_byte (take end text ∷ []) → get_or text end 0 ≡ 35
      → new ≡ all
  all_found new is comment =
      let none : others (get_or text end 0) (behind end text) ≡ [] = rw (eq-eqb (get_or text end 0) 35 comment) refl in
      sym (append-nil new) ∙ ap (λ l. new ++ l) (sym none) ∙ with_others new is

  -- and else they are those of the rest
  pub more_left : (new : List (List ℕ)) → new ≡ old ++ filter is_some_byte (take end text ∷ [])
      → (get_or text end 0 ≡ 35 → ⊥) → new ++ parted (behind end text) ≡ all
  more_left new is other =
      let no : eqb (get_or text end 0) 35 ≡ false =
      false_from_ne_true (eqb (get_or text end 0) 35) (λ is. other (eqb-true (get_or text end 0) 35 is)) in
      let those : others (get_or text end 0) (behind end text) ≡ parted (behind end text) = rw no refl in
      ap (λ l. new ++ l) (sym those) ∙ with_others new is

abbrev spaces_before : ℕ → List ℕ → List ℕ
spaces_before zero text = text
spaces_before (suc n) text = 32 ∷ spaces_before n text

spaces_passed : (n : ℕ) (text : List ℕ) → parted (spaces_before n text) ≡ parted text
spaces_passed zero text = refl
spaces_passed (suc n) text =
    ap (λ l. filter is_some_byte (slice_split is_blank l)) (byte_kept 32 (spaces_before n text) refl) ∙ spaces_passed n text

-- eight spaces at the beginning part nothing
pub indent_passed : (line : List ℕ) → line ≡ codes "        " ++ drop 8 line
    → parted (take (length line - 8) (drop 8 line)) ≡ parted line
indent_passed line e = rw (take_rest line 8) (sym (ap parted e ∙ spaces_passed 8 (drop 8 line)))
