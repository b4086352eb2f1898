-- A text has one first line at fault at most, and none where it has no fault.
use Rattle.std.proofs.Common.{◌≡◌, ◌<◌, ℕ, List, [], ◌∷◌, ◌++◌, length, refl, sym, ap, subst, ◌∙◌, arith, append_assoc, not, false}
use Rattle.std.proofs.lemmas.List.Elements.{filter-append}
use Rattle.dvg_read.specs.Texts.{is_passed, lines, unpassed}
use Rattle.dvg_read.specs.FirstFaults.{Reaches}
use Rattle.dvg_read.specs.declared.draft_text.TheConstants.{MOST_TEXT_BYTES}

-- two items of one list stand at one place, or one stands before the other
data Places {A : Type 0} (before other : List A) (x y : A) : Type 0 where
  same : before ≡ other → x ≡ y → Places before other x y
  sooner : (more : List A) → other ≡ before ++ x ∷ more → Places before other x y
  later : (more : List A) → before ≡ other ++ y ∷ more → Places before other x y

one_more : {A : Type 0} {before other : List A} {x y : A} (z : A) → Places before other x y → Places (z ∷ before) (z ∷ other) x y
one_more z (same e f) = same (ap (λ l. z ∷ l) e) f
one_more z (sooner more e) = sooner more (ap (λ l. z ∷ l) e)
one_more z (later more e) = later more (ap (λ l. z ∷ l) e)

places : {A : Type 0} (before other after rest : List A) (x y : A) → before ++ x ∷ after ≡ other ++ y ∷ rest → Places before other x y
places [] [] after rest x y e = same refl (cc)
places [] (z ∷ other) after rest x y e = sooner other (ap (λ a. a ∷ other) (cc))
places (w ∷ before) [] after rest x y e = later before (ap (λ a. a ∷ before) (cc))
places (w ∷ before) (z ∷ other) after rest x y e =
    let first : w ≡ z = cc in
    let others : before ++ x ∷ after ≡ other ++ y ∷ rest = cc in
    subst (λ a. Places (w ∷ before) (a ∷ other) x y) first (one_more w (places before other after rest x y others))

-- the unpassed lines up to a line that is unpassed, and those after it
unpassed_past : (before more : List (List ℕ)) (line : List ℕ) → is_passed line ≡ false → unpassed (before ++ line ∷ more) ≡ (unpassed before ++ line ∷ []) ++ unpassed more
unpassed_past before more line is = filter-append (λ line. not (is_passed line)) before (line ∷ more) ∙ rw is (sym (append_assoc (unpassed before) (line ∷ []) (unpassed more)))

-- line n is the first with which the unpassed lines are at fault
pub record StopsAt (Fine : List (List ℕ) → Type 0) (text : List ℕ) (n : ℕ) : Type 0 where
  pub before : List (List ℕ)
  pub line : List ℕ
  pub reaches : Reaches Fine text n before line
  pub wrong : ¬ Fine (unpassed before ++ line ∷ [])

-- a text that is stopped by a line is short
pub too_short : {Fine : List (List ℕ) → Type 0} {text : List ℕ} {n : ℕ} → StopsAt Fine text n → MOST_TEXT_BYTES < length text → ⊥
too_short s long = let short = s.reaches.short in omega arith

-- where each front of lines without fault is without fault
module _ (Fine : List (List ℕ) → Type 0) (front : (ls more : List (List ℕ)) → Fine (ls ++ more) → Fine ls) where
  -- no line before one that is reached is at fault
  no_sooner : (before other more : List (List ℕ)) (line : List ℕ) → other ≡ before ++ line ∷ more → is_passed line ≡ false → Fine (unpassed other) → ¬ Fine (unpassed before ++ line ∷ []) → ⊥
  no_sooner before other more line e is fine wrong =
      wrong (front (unpassed before ++ line ∷ []) (unpassed more) (subst Fine (ap unpassed e ∙ unpassed_past before more line is) fine))

  one_place : {text : List ℕ} {m n : ℕ} (a : StopsAt Fine text m) (b : StopsAt Fine text n) → Places a.before b.before a.line b.line → (a.before ≡ b.before) × (a.line ≡ b.line)
  one_place a b (same e f) = (e, f)
  one_place a b (sooner more e) = absurd (no_sooner a.before b.before more a.line e a.reaches.is_unpassed b.reaches.fine a.wrong)
  one_place a b (later more e) = absurd (no_sooner b.before a.before more b.line e b.reaches.is_unpassed a.reaches.fine b.wrong)

  -- two lines that stop the text are one
  pub one_stop : {text : List ℕ} {m n : ℕ} (a : StopsAt Fine text m) (b : StopsAt Fine text n) → (a.before ≡ b.before) × (a.line ≡ b.line) × (n ≡ m)
  one_stop a b =
      let (e, f) = one_place a b (places a.before b.before a.reaches.after b.reaches.after a.line b.line (sym a.reaches.cut ∙ b.reaches.cut)) in
      let p = a.reaches.number in
      let q = b.reaches.number in
      let count = ap length e in
      (e, f, omega arith)

  -- no line stops a text whose lines are without fault
  pub never_stops : {text : List ℕ} {n : ℕ} → Fine (unpassed (lines text)) → StopsAt Fine text n → ⊥
  never_stops {text = text} fine s = no_sooner s.before (lines text) s.reaches.after s.line s.reaches.cut s.reaches.is_unpassed fine s.wrong
