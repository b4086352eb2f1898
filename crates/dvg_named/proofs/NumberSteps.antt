-- The rows that are held, and the numbers of their lines, with a line more.
use Rattle.std.proofs.Common.{◌≡◌, ◌<◌, ℕ, ◌+◌, ◌⊎◌, inl, inr, List, [], ◌∷◌, ◌++◌, length, refl, sym, ap, subst, ◌∙◌, append_assoc, length-append, arith, None, Contains, get_or}
use Rattle.std.proofs.lemmas.List.Elements.{All-contains_itself, Contains-append_left, Contains-push, Contains-push_cases}
use Rattle.std.proofs.lemmas.List.Quantifiers.{all_pairs_push}
use Rattle.std.specs.List.{AllPairs}
use Rattle.dvg_read.specs.Texts.{parts, unpassed}
use Rattle.dvg_named.specs.declared.reading.Reading.{Reading}
use Rattle.dvg_named.specs.LineNumbers.{AreNumbered, Entry, IsEntryOf, KeepsEntries, entries_in, head_at_top}
use Rattle.dvg_frame.specs.declared.op.OpKind.{OpKind}
use Rattle.dvg_read.specs.OpLines.{OpParts}
use Rattle.dvg_named.specs.ReadParts.{later}
use Rattle.dvg_rows.specs.Rows.{Doing, DoingParts, Head, HeadParts, IsHeadLine, IsRowLine, Row, plain}
use Rattle.dvg_named.specs.Sections.{Section, Spelled, SpellsSketch}
use Rattle.dvg_named.proofs.OneSketch.{one_row, one_sketch}
use Rattle.dvg_rows.proofs.RowSpelling.{RowCase, alone, row_case, unnamed}
use Rattle.dvg_rows.proofs.RowSpelling as spelling

-- an item of a list with one more: the last one, or one before
data LastCut {X : Type 0} (xs : List X) (y : X) (before : List X) (x : X) : Type 0 where
  at_end : before ≡ xs → x ≡ y → LastCut xs y before x
  earlier : (rest : List X) → xs ≡ before ++ x ∷ rest → LastCut xs y before x

more_cut : {X : Type 0} (a b : X) (xs : List X) (y : X) (before : List X) (x : X) → a ≡ b → LastCut xs y before x
    → LastCut (a ∷ xs) y (b ∷ before) x
more_cut a b xs y before x e (at_end same is) = at_end (cc) is
more_cut a b xs y before x e (earlier rest cut) = earlier rest (cc)

no_more : {X : Type 0} (before : List X) (x : X) (after : List X) → [] ≡ before ++ x ∷ after → ⊥
no_more before x after e = omega (arith, ap length e, length-append before (x ∷ after))

cut_last : {X : Type 0} (xs : List X) (y : X) (before : List X) (x : X) (after : List X)
    → xs ++ y ∷ [] ≡ before ++ x ∷ after → LastCut xs y before x
cut_last [] y [] x after e = at_end refl (cc)
cut_last [] y (b ∷ before) x after e = absurd (no_more before x after (cc))
cut_last (a ∷ xs) y [] x after e = earlier xs (cc)
cut_last (a ∷ xs) y (b ∷ before) x after e = more_cut a b xs y before x (cc) (cut_last xs y before x after (cc))

-- with a line more
entry_more : (ls : List (List ℕ)) (line : List ℕ) (entry : Entry) → IsEntryOf ls entry → IsEntryOf (ls ++ line ∷ []) entry
entry_more ls line entry h = record {
  before = h.before;
  line = h.line;
  after = h.after ++ line ∷ [];
  cut = ap (λ ls. ls ++ line ∷ []) h.cut ∙ append_assoc h.before (h.line ∷ h.after) (line ∷ []);
  number = h.number;
  part = h.part;
  up_to = h.up_to;
  inside = h.inside;
  spelled = h.spelled;
}

not_in_none : (entry : Entry) → Contains [] entry → ⊥
not_in_none entry h = omega (arith, h)

no_pairs : {X : Type 0} (R : X → X → Type 0) → AllPairs R []
no_pairs R = λ i j d low high. absurd (omega (arith, low, high))

-- ---- a line that spells no row

no_op : {op : OpKind} → OpParts op ([] ∷ []) → ⊥
no_op h = elim h [ ]

no_doing : (doing : Doing) → DoingParts doing ([] ∷ []) → ⊥
no_doing doing (plain p) = no_op p

no_colon : (name : List ℕ) → [] ≡ name ++ 58 ∷ [] → ⊥
no_colon name e = omega (arith, ap length e, length-append name (58 ∷ []))

no_case : {row : Row} → RowCase row [] [] → ⊥
no_case (unnamed doing is p) = no_doing doing p
no_case (alone name h e none is) = no_colon name e
no_case (spelling.before name doing h e p is) = no_colon name e

-- an empty line
pub no_empty_row : (line : List ℕ) → line ≡ [] → (row : Row) → ¬ IsRowLine row line
no_empty_row line none row h = no_case (row_case (subst (IsRowLine row) none h))

no_parts : {head : Head} → HeadParts head ([] ∷ []) → ⊥
no_parts h = elim h [ ]

pub no_empty_head : (line : List ℕ) → line ≡ [] → (head : Head) → ¬ IsHeadLine head line
no_empty_head line none head h = no_parts (subst (IsHeadLine head) none h)

-- ---- the steps

-- before the first line
pub numbered_none : {A : Type 0} (reading : Reading A) → head_at_top reading ≡ None → entries_in reading ≡ []
    → AreNumbered [] reading
numbered_none reading top none = record {
  top = top;
  holds = λ entry h. absurd (not_in_none entry (subst (λ l. Contains l entry) none h));
  all = λ entry h. absurd (no_more h.before h.line h.after h.cut);
  rising = subst (AllPairs (λ entry next. entry.number < next.number)) (sym none)
      (no_pairs (λ (entry next : Entry). entry.number < next.number));
}

-- a line that spells no row
kept_all : (ls : List (List ℕ)) (line : List ℕ) (entries : List Entry) → ((row : Row) → ¬ IsRowLine row line)
    → ((entry : Entry) → IsEntryOf ls entry → Contains entries entry) → (entry : Entry)
    → (h : IsEntryOf (ls ++ line ∷ []) entry) → LastCut ls line h.before h.line → Contains entries entry
kept_all ls line entries none all entry h (at_end same is) = absurd (none entry.row (subst (IsRowLine entry.row) is h.spelled))
kept_all ls line entries none all entry h (earlier rest cut) = all entry (record {
  before = h.before;
  line = h.line;
  after = rest;
  cut = cut;
  number = h.number;
  part = h.part;
  up_to = h.up_to;
  inside = h.inside;
  spelled = h.spelled;
})

pub numbered_kept : {A : Type 0} (old new : Reading A) (ls : List (List ℕ)) (line : List ℕ)
    → ((row : Row) → ¬ IsRowLine row line) → KeepsEntries old new → AreNumbered ls old → AreNumbered (ls ++ line ∷ []) new
numbered_kept old new ls line none same h = record {
  top = same.top ∙ h.top;
  holds = λ entry inside. entry_more ls line entry (h.holds entry (subst (λ l. Contains l entry) same.entries inside));
  all = λ entry is. subst (λ l. Contains l entry) (sym same.entries)
      (kept_all ls line (entries_in old) none h.all entry is
      (cut_last ls line is.before is.line is.after is.cut));
  rising = subst (AllPairs (λ entry next. entry.number < next.number)) (sym same.entries) h.rising;
}

abbrev entry_at : ℕ → Row → ℕ → Entry
entry_at section row number = record { section = section; row = row; number = number }

-- a row more
module _ (ls : List (List ℕ)) (line : List ℕ) (row : Row) (spelled : IsRowLine row line) (part : Spelled)
    (up_to : SpellsSketch part (unpassed ls ++ line ∷ [])) (last : Entry) (is_row : last.row ≡ row)
    (number : last.number ≡ length ls + 1) (inside : last.section ≡ length part.others) where
  last_is : IsEntryOf (ls ++ line ∷ []) last
  last_is = record {
    before = ls;
    line = line;
    after = [];
    cut = refl;
    number = number;
    part = part;
    up_to = up_to;
    inside = inside;
    spelled = subst (λ row. IsRowLine row line) (sym is_row) spelled;
  }

  same_entry : (section : ℕ) (other : Row) (n : ℕ) → last.section ≡ section → last.row ≡ other → last.number ≡ n
      → last ≡ record { section = section; row = other; number = n }
  same_entry section other n e f k =
      ap (λ s. entry_at s last.row last.number) e ∙ ap (λ row. entry_at section row last.number) f
      ∙ ap (λ n. entry_at section other n) k

  is_last : (entry : Entry) → (h : IsEntryOf (ls ++ line ∷ []) entry) → h.before ≡ ls → h.line ≡ line → last ≡ entry
  is_last entry h same is =
      let part_is : h.part ≡ part =
      one_sketch part h.part (unpassed ls ++ line ∷ []) up_to
      (subst (λ l. SpellsSketch h.part (unpassed ls ++ l ∷ [])) is
      (subst (λ before. SpellsSketch h.part (unpassed before ++ h.line ∷ [])) same h.up_to)) in
      same_entry entry.section entry.row entry.number
      (inside ∙ sym (h.inside ∙ ap (λ (s : Spelled). length s.others) part_is))
      (is_row ∙ one_row (parts line) (subst (IsRowLine entry.row) is h.spelled) spelled)
      (number ∙ sym (h.number ∙ ap (λ before. length before + 1) same))

  added_all : (entries : List Entry) → ((entry : Entry) → IsEntryOf ls entry → Contains entries entry) → (entry : Entry)
      → (h : IsEntryOf (ls ++ line ∷ []) entry) → LastCut ls line h.before h.line → Contains (entries ++ last ∷ []) entry
  added_all entries all entry h (at_end same is) =
      subst (Contains (entries ++ last ∷ [])) (is_last entry h same is) (Contains-push entries last)
  added_all entries all entry h (earlier rest cut) = Contains-append_left entries (last ∷ []) entry (all entry (record {
    before = h.before;
    line = h.line;
    after = rest;
    cut = cut;
    number = h.number;
    part = h.part;
    up_to = h.up_to;
    inside = h.inside;
    spelled = h.spelled;
  }))

  added_holds : (entries : List Entry) → ((entry : Entry) → Contains entries entry → IsEntryOf ls entry) → (entry : Entry)
      → Contains entries entry ⊎ (last ≡ entry) → IsEntryOf (ls ++ line ∷ []) entry
  added_holds entries holds entry (inl h) = entry_more ls line entry (holds entry h)
  added_holds entries holds entry (inr e) = subst (IsEntryOf (ls ++ line ∷ [])) e last_is

  lower : (entry : Entry) → IsEntryOf ls entry → entry.number < last.number
  lower entry h =
      let count = ap length h.cut in
      let n = h.number in
      omega (arith, n, count, number, length-append h.before (h.line ∷ h.after))

  pub numbered_added : {A : Type 0} (old new : Reading A) → head_at_top new ≡ head_at_top old
      → entries_in new ≡ entries_in old ++ last ∷ [] → AreNumbered ls old → AreNumbered (ls ++ line ∷ []) new
  numbered_added old new top more h = record {
    top = top ∙ h.top;
    holds = λ entry inside. added_holds (entries_in old) h.holds entry
        (Contains-push_cases (entries_in old) last entry (subst (λ l. Contains l entry) more inside));
    all = λ entry is. subst (λ l. Contains l entry) (sym more)
        (added_all (entries_in old) h.all entry is (cut_last ls line is.before is.line is.after is.cut));
    rising = subst (AllPairs (λ entry next. entry.number < next.number)) (sym more)
        (all_pairs_push (λ entry next. entry.number < next.number) (entries_in old) last h.rising
        (λ k d low. lower (get_or (entries_in old) k d)
        (h.holds (get_or (entries_in old) k d) (All-contains_itself (entries_in old) k d low))));
  }

-- ---- the number of the last section

pub later_length : (closed : List Section) (last : Section) → length closed ≡ length (later closed last)
later_length [] last = refl
later_length (first ∷ others) last = omega (arith, length-append others (last ∷ []))
