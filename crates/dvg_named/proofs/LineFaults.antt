-- A text has one first line at fault at most, and none where all its lines spell a sketch within the limits.
use Rattle.std.proofs.Common.{◌≡◌, ◌∙◌, ℕ, List, [], ◌∷◌, ◌++◌, length, ap, append_assoc, arith, false, not, refl, subst, sym}
use Rattle.std.proofs.lemmas.List.Elements.{filter-append}
use Rattle.dvg_read.specs.Texts.{is_passed, unpassed}
use Rattle.dvg_named.specs.SketchFaults.{DraftsFit, GivesOnce, IsFineSketch, KeepsLimits, LieApart, Meets, MeetsNothing, ReachesLine, RomFits}
use Rattle.dvg_rows.specs.PlainLines.{plain_lines}
use Rattle.dvg_named.specs.Sections.{Spelled, SpellsSketch}
use Rattle.dvg_named.proofs.FrontLimits.{limits_front}
use Rattle.dvg_named.proofs.OneSketch.{front_spells, one_sketch}

-- ---- kinds of fault

pub data Kind : Type 0 where
  nothing : Kind
  twice : Kind
  full : Kind
  outside : Kind
  overlap : Kind

-- how a sketch breaks the limits
abbrev pub Breaks : Kind → Spelled → Type 0
Breaks nothing sketch = ⊥
Breaks twice sketch = ¬ GivesOnce sketch
Breaks full sketch = GivesOnce sketch × (¬ DraftsFit sketch)
Breaks outside sketch = GivesOnce sketch × DraftsFit sketch × (¬ RomFits sketch)
Breaks overlap sketch = GivesOnce sketch × DraftsFit sketch × RomFits sketch × (¬ LieApart sketch)

-- what is wrong with lines
pub data Wrong (ls : List (List ℕ)) : Kind → Type 0 where
  none_spelled : ((sketch : Spelled) → ¬ SpellsSketch sketch ls) → Wrong ls nothing
  breaks : {kind : Kind} (sketch : Spelled) → SpellsSketch sketch ls → Breaks kind sketch → Wrong ls kind

one_break : (kind other : Kind) (sketch : Spelled) → Breaks kind sketch → Breaks other sketch → other ≡ kind
one_break nothing other sketch a b = absurd a
one_break kind nothing sketch a b = absurd b
one_break twice twice sketch a b = refl
one_break twice full sketch a b = absurd (a b.0)
one_break twice outside sketch a b = absurd (a b.0)
one_break twice overlap sketch a b = absurd (a b.0)
one_break full twice sketch a b = absurd (b a.0)
one_break full full sketch a b = refl
one_break full outside sketch a b = absurd (a.1 b.1)
one_break full overlap sketch a b = absurd (a.1 b.1)
one_break outside twice sketch a b = absurd (b a.0)
one_break outside full sketch a b = absurd (b.1 a.1)
one_break outside outside sketch a b = refl
one_break outside overlap sketch a b = absurd (a.2 b.2)
one_break overlap twice sketch a b = absurd (b a.0)
one_break overlap full sketch a b = absurd (b.1 a.1)
one_break overlap outside sketch a b = absurd (b.2 a.2)
one_break overlap overlap sketch a b = refl

-- lines are wrong in one way at most
one_wrong : (ls : List (List ℕ)) (kind other : Kind) → Wrong ls kind → Wrong ls other → other ≡ kind
one_wrong ls kind other (none_spelled none) (none_spelled also) = refl
one_wrong ls kind other (none_spelled none) (breaks sketch spelled broken) = absurd (none sketch spelled)
one_wrong ls kind other (breaks sketch spelled broken) (none_spelled none) = absurd (none sketch spelled)
one_wrong ls kind other (breaks sketch spelled broken) (breaks next also wrong) =
    let same = one_sketch sketch next ls spelled also in
    one_break kind other sketch broken (subst (Breaks other) same wrong)

breaks_none : (kind : Kind) (sketch : Spelled) → Breaks kind sketch → KeepsLimits sketch → ⊥
breaks_none nothing sketch a h = a
breaks_none twice sketch a h = a h.once
breaks_none full sketch a h = a.1 h.drafts
breaks_none outside sketch a h = a.2 h.rom
breaks_none overlap sketch a h = a.3 h.apart

-- wrong lines are no front of lines without fault
no_front : (ls more : List (List ℕ)) (kind : Kind) → Wrong ls kind → ¬ IsFineSketch (ls ++ more)
no_front ls more kind (none_spelled none) fine =
    let (front, spelled, leads) = front_spells fine.sketch ls more fine.spelled in
    none front spelled
no_front ls more kind (breaks sketch also broken) fine =
    let (front, spelled, leads) = front_spells fine.sketch ls more fine.spelled in
    let same = one_sketch front sketch ls spelled also in
    breaks_none kind front (subst (Breaks kind) same broken) (limits_front front fine.sketch more leads fine.limits)

-- ---- the line at fault

-- line n is the first at fault
pub record StandsAt (text : List ℕ) (n : ℕ) (kind : Kind) : Type 0 where
  pub before : List (List ℕ)
  pub line : List ℕ
  pub reaches : ReachesLine text n before line
  pub wrong : Wrong (unpassed before ++ line ∷ []) kind

pub nothing_stands : {text : List ℕ} {n : ℕ} → MeetsNothing text n → StandsAt text n nothing
nothing_stands h = record { before = h.before; line = h.line; reaches = h.reaches; wrong = none_spelled h.wrong }

pub break_stands : {text : List ℕ} {n : ℕ} (kind : Kind) → Meets (Breaks kind) text n → StandsAt text n kind
break_stands kind h = record {
  before = h.before;
  line = h.line;
  reaches = h.reaches;
  wrong = breaks h.sketch h.spelled h.breaks;
}

-- two lines of one list are the same, or one stands before the other
data Places {A : Type 0} (before other : List A) (x y : A) : Type 0 where
  same : before ≡ other → x ≡ y → Places before other x y
  sooner : (more : List A) → other ≡ before ++ x ∷ more → Places before other x y
  later : (more : List A) → before ≡ other ++ y ∷ more → Places before other x y

one_more : {A : Type 0} {before other : List A} {x y : A} (z : A) → Places before other x y
    → Places (z ∷ before) (z ∷ other) x y
one_more z (same e f) = same (ap (λ l. z ∷ l) e) f
one_more z (sooner more e) = sooner more (ap (λ l. z ∷ l) e)
one_more z (later more e) = later more (ap (λ l. z ∷ l) e)

places : {A : Type 0} (before other after rest : List A) (x y : A) → before ++ x ∷ after ≡ other ++ y ∷ rest
    → Places before other x y
places [] [] after rest x y e = same refl (cc)
places [] (z ∷ other) after rest x y e = sooner other (ap (λ a. a ∷ other) (cc))
places (w ∷ before) [] after rest x y e = later before (ap (λ a. a ∷ before) (cc))
places (w ∷ before) (z ∷ other) after rest x y e =
    let first : w ≡ z = cc in
    let others : before ++ x ∷ after ≡ other ++ y ∷ rest = cc in
    subst (λ a. Places (w ∷ before) (a ∷ other) x y) first (one_more w (places before other after rest x y others))

-- the lines up to one that has tokens, and those after it
pub unpassed_past : (before more : List (List ℕ)) (line : List ℕ) → is_passed line ≡ false
    → unpassed (before ++ line ∷ more) ≡ (unpassed before ++ line ∷ []) ++ unpassed more
unpassed_past before more line is =
    filter-append (λ line. not (is_passed line)) before (line ∷ more)
    ∙ rw is (sym (append_assoc (unpassed before) (line ∷ []) (unpassed more)))

-- lines without fault have no line at fault
no_sooner : (before all more : List (List ℕ)) (line : List ℕ) (kind : Kind) → all ≡ before ++ line ∷ more
    → is_passed line ≡ false → Wrong (unpassed before ++ line ∷ []) kind → ¬ IsFineSketch (unpassed all)
no_sooner before all more line kind e is wrong fine =
    no_front (unpassed before ++ line ∷ []) (unpassed more) kind wrong
    (subst IsFineSketch (ap unpassed e ∙ unpassed_past before more line is) fine)

pub never_stands : {text : List ℕ} {n : ℕ} {kind : Kind} → StandsAt text n kind → ¬ IsFineSketch (unpassed (plain_lines text))
never_stands {text = text} {kind = kind} h =
    no_sooner h.before (plain_lines text) h.reaches.after h.line kind h.reaches.cut h.reaches.is_unpassed h.wrong

module _ {text : List ℕ} {m n : ℕ} {kind other : Kind} (a : StandsAt text m kind) (b : StandsAt text n other) where
  one_place : Places a.before b.before a.line b.line → (b.before ≡ a.before) × (b.line ≡ a.line)
  one_place (same e f) = (sym e, sym f)
  one_place (sooner more e) =
      absurd (no_sooner a.before b.before more a.line kind e a.reaches.is_unpassed a.wrong b.reaches.fine)
  one_place (later more e) =
      absurd (no_sooner b.before a.before more b.line other e b.reaches.is_unpassed b.wrong a.reaches.fine)

  -- two lines at fault are one, and so are their faults
  pub one_stand : (n ≡ m) × (other ≡ kind)
  one_stand =
      let (e, f) = one_place (places a.before b.before a.reaches.after b.reaches.after a.line b.line
      (sym a.reaches.cut ∙ b.reaches.cut)) in
      let p = a.reaches.number in
      let q = b.reaches.number in
      let count = ap length e in (
        omega (arith, p, q, count),
        one_wrong (unpassed a.before ++ a.line ∷ []) kind other a.wrong
            (subst (λ line. Wrong (unpassed a.before ++ line ∷ []) other) f
            (subst (λ before. Wrong (unpassed before ++ b.line ∷ []) other) e b.wrong)),
      )
