-- The lines of rows, with a row more.
use Rattle.std.proofs.Common.{◌≡◌, ◌<◌, ◌≤◌, ◌+◌, ◌∙◌, ℕ, List, [], ◌∷◌, ◌++◌, inl, inr, ◌⊎◌, ap, arith, length, sym, subst, All, None, Option, Some, Result, Ok, Err, OnOk, IfSome}
use Rattle.std.proofs.lemmas.Bool.{cases_lt}
use Rattle.std.proofs.lemmas.List.Elements.{All-nil, All-push, All-weaker}
use Rattle.std.proofs.lemmas.List.Quantifiers.{all_pairs_push}
use Rattle.std.specs.List.{AllZip}
use Rattle.dvg_read.proofs.Zips.{zip_push}
use Rattle.dvg_rows.specs.declared.source.Source.{Source}
use Rattle.dvg_rows.specs.declared.part.Part.{Part}
use Rattle.dvg_rows.specs.declared.row.Row as held_row
use Rattle.dvg_rows.specs.declared.row.Head as held_head
use Rattle.dvg_rows.specs.PlainLines.{plain}
use Rattle.dvg_rows.specs.Rows.{Head, IsHeadLine}
use Rattle.dvg_named.specs.declared.reading.Reading.{Reading}
use Rattle.dvg_named.specs.SourcedRows.{AreInOrder, AreSourced, BeginsIn, IsHeadAt, IsInSection, IsLineAt, IsPartAt, IsRowAt, NoneBegins, Rise, StandsBefore}
use Rattle.dvg_named.proofs.OneSketch.{head_is_no_row}

pub both_ok : {A E : Type 0} (r : Result A E) {P Q S : Type 0} → OnOk r P → OnOk r Q → (P → Q → S) → OnOk r S
both_ok (Ok x) h k f = f h k
both_ok (Err e) h k f = h

-- ---- lines and their numbers

same_place : {X : Type 0} (a b : List X) (x y : X) (c d : List X) → a ++ x ∷ c ≡ b ++ y ∷ d → length a ≡ length b → x ≡ y
same_place [] [] x y c d e n = cc
same_place [] (z ∷ b) x y c d e n = absurd (omega (arith, n))
same_place (z ∷ a) [] x y c d e n = absurd (omega (arith, n))
same_place (z ∷ a) (w ∷ b) x y c d e n = same_place a b x y c d (cc) (omega (arith, n))

-- a line is known by its number
same_line : (small : List ℕ) (one other : Source) → IsLineAt small one → IsLineAt small other → one.number ≡ other.number
    → one.line.now ≡ other.line.now
same_line small one other a b same =
    let n = a.number in
    let k = b.number in
    same_place a.before b.before one.line.now other.line.now a.after b.after (sym a.cut ∙ b.cut) (omega (arith, n, k, same))

-- a line more begins no section
none_more : (small : List ℕ) (from : ℕ) (source : Source) → IsLineAt small source
    → ((head : Head) → ¬ IsHeadLine head (plain source.line.now)) → NoneBegins small from source.number
    → NoneBegins small from (source.number + 1)
none_more small from source at not_head none line head is low high = by_place (cases_lt line.number source.number)
  where
    by_place : (line.number < source.number) ⊎ (source.number ≤ line.number) → ¬ IsHeadLine head (plain line.line.now)
    by_place (inl below) begins = none line head is low below begins
    by_place (inr above) begins =
        not_head head (subst (λ l. IsHeadLine head (plain l)) (same_line small line source is at (omega (arith, high, above))) begins)

-- ---- sections, with a line more

later_begin : {X : Type 0} (head : Option X) (a n : ℕ) → IfSome head (λ it. a < n) → IfSome head (λ it. a < n + 1)
later_begin None a n h = tt
later_begin (Some head) a n h = omega (arith, h)

before_more : {A : Type 0} (n : ℕ) (part : Part A) → StandsBefore n part → StandsBefore (n + 1) part
before_more n part h = record {
  begin = later_begin part.head part.begin.number n h.begin;
  rows = All-weaker (λ source. source.number < n) (λ source. source.number < n + 1) (λ source low. omega (arith, low))
      part.sources.items h.rows;
}

all_before_more : {A : Type 0} (n : ℕ) (parts : List (Part A)) → All (StandsBefore n) parts → All (StandsBefore (n + 1)) parts
all_before_more n parts all = All-weaker (StandsBefore n) (StandsBefore (n + 1)) (before_more n) parts all

no_rise : Rise []
no_rise = λ i j d low high. absurd (omega (arith, high))

-- a line more begins no section and states no row
pub sourced_passed : {A : Type 0} (small : List ℕ) (reading : Reading A) (source : Source) → IsLineAt small source
    → ((head : Head) → ¬ IsHeadLine head (plain source.line.now)) → AreSourced small source.number reading
    → AreSourced small (source.number + 1) reading
sourced_passed small reading source at not_head h = record {
  closed = h.closed;
  last = h.last;
  order = h.order;
  ahead = h.ahead;
  before = all_before_more source.number reading.closed.items h.before;
  last_before = before_more source.number reading.last h.last_before;
  none = none_more small reading.last.begin.number source at not_head h.none;
}

-- before the first line
pub sourced_first : {A : Type 0} (small : List ℕ) (reading : Reading A) (first : Source) → reading.closed.items ≡ []
    → reading.last.head ≡ None → reading.last.begin ≡ first → reading.last.rows.items ≡ [] → reading.last.sources.items ≡ []
    → BeginsIn small None first → AreSourced small 1 reading
sourced_first small reading first closed head begin rows sources h = record {
  closed = subst (All (IsPartAt small)) (sym closed) (All-nil (IsPartAt small));
  last = record {
    begin = subst (λ head. BeginsIn small head reading.last.begin) (sym head)
        (subst (λ begin. BeginsIn small None begin) (sym begin) h);
    rows = subst (λ rows. AllZip (IsRowAt small) rows reading.last.sources.items) (sym rows)
        (subst (λ sources. AllZip (IsRowAt small) [] sources) (sym sources) tt);
    rise = subst Rise (sym sources) no_rise;
    inside = subst (All (IsInSection small reading.last.begin)) (sym sources) (All-nil (IsInSection small reading.last.begin));
  };
  order = subst AreInOrder (sym closed) (λ i j d low high. absurd (omega (arith, high)));
  ahead = subst (All (StandsBefore reading.last.begin.number)) (sym closed) (All-nil (StandsBefore reading.last.begin.number));
  before = subst (All (StandsBefore 1)) (sym closed) (All-nil (StandsBefore 1));
  last_before = record {
    begin = subst (λ head. IfSome head (λ it. reading.last.begin.number < 1)) (sym head) tt;
    rows = subst (All (λ source. source.number < 1)) (sym sources) (All-nil (λ (source : Source). source.number < 1));
  };
  none = λ line head is low high begins.
      let one = ap (λ s. s.number) begin in let first_number = h.0 in absurd (omega (arith, low, high, one, first_number));
}

-- the line that begins a section is no later than the next line
begin_low : (small : List ℕ) (head : Option held_head.Head) (begin : Source) (n : ℕ) → BeginsIn small head begin
    → IfSome head (λ it. begin.number < n) → 1 ≤ n → begin.number ≤ n
begin_low small None begin n h low some = let one = h.0 in omega (arith, one, some)
begin_low small (Some head) begin n h low some = omega (arith, low)

some_number : (small : List ℕ) (source : Source) → IsLineAt small source → 1 ≤ source.number
some_number small source at = let n = at.number in omega (arith, n)

-- a section with a row more
part_more : {A : Type 0} (small : List ℕ) (old new : Part A) (row : held_row.Row) (source : Source) → new.head ≡ old.head
    → new.begin ≡ old.begin → new.rows.items ≡ old.rows.items ++ row ∷ []
    → new.sources.items ≡ old.sources.items ++ source ∷ [] → IsPartAt small old → IsRowAt small row source
    → All (λ before. before.number < source.number) old.sources.items → IsInSection small old.begin source
    → IsPartAt small new
part_more small old new row source head begin rows sources h at before inside = record {
  begin = subst (λ head. BeginsIn small head new.begin) (sym head)
      (subst (λ begin. BeginsIn small old.head begin) (sym begin) h.begin);
  rows = subst (λ rows. AllZip (IsRowAt small) rows new.sources.items) (sym rows)
      (subst (λ sources. AllZip (IsRowAt small) (old.rows.items ++ row ∷ []) sources) (sym sources)
      (zip_push (IsRowAt small) old.rows.items old.sources.items row source h.rows at));
  rise = subst Rise (sym sources)
      (all_pairs_push (λ source next. source.number < next.number) old.sources.items source h.rise before);
  inside = subst (All (IsInSection small new.begin)) (sym sources)
      (subst (λ begin. All (IsInSection small begin) (old.sources.items ++ source ∷ [])) (sym begin)
      (All-push (IsInSection small old.begin) old.sources.items source h.inside inside));
}

-- a row more in the last section
pub row_sourced : {A : Type 0} (small : List ℕ) (old new : Reading A) (row : held_row.Row) (source : Source)
    → new.closed.items ≡ old.closed.items → new.last.head ≡ old.last.head → new.last.begin ≡ old.last.begin
    → new.last.rows.items ≡ old.last.rows.items ++ row ∷ [] → new.last.sources.items ≡ old.last.sources.items ++ source ∷ []
    → AreSourced small source.number old → IsRowAt small row source → AreSourced small (source.number + 1) new
row_sourced {A = A} small old new row source closed head begin rows sources h at =
    let number : new.last.begin.number ≡ old.last.begin.number = ap (λ s. s.number) begin in
    let n = source.number in
    record {
      closed = subst (All (IsPartAt small)) (sym closed) h.closed;
      last = part_more small old.last new.last row source head begin rows sources h.last at h.last_before.rows
          (begin_low small old.last.head old.last.begin n h.last.begin h.last_before.begin (some_number small source at.at), h.none);
      order = subst AreInOrder (sym closed) h.order;
      ahead = subst (All (StandsBefore new.last.begin.number)) (sym closed)
          (subst (λ n. All (StandsBefore n) old.closed.items) (sym number) h.ahead);
      before = subst (All (StandsBefore (n + 1))) (sym closed) (all_before_more n old.closed.items h.before);
      last_before = record {
        begin = subst (λ head. IfSome head (λ it. new.last.begin.number < n + 1)) (sym head)
            (subst (λ b. IfSome old.last.head (λ it. b < n + 1)) (sym number)
            (later_begin old.last.head old.last.begin.number n h.last_before.begin));
        rows = subst (All (λ source. source.number < n + 1)) (sym sources)
            (All-push (λ source. source.number < n + 1) old.last.sources.items source
            (before_more n old.last h.last_before).rows (omega arith));
      };
      none = subst (λ from. NoneBegins small from (n + 1)) (sym number)
          (none_more small old.last.begin.number source at.at (λ head begins. head_is_no_row begins at.spelled) h.none);
    }

-- a last section that holds the same is as good
pub fitted_sourced : {A : Type 0} (small : List ℕ) (next : ℕ) (old : Reading A) (part : Part A) → part.head ≡ old.last.head
    → part.begin ≡ old.last.begin → part.rows.items ≡ old.last.rows.items
    → part.sources.items ≡ old.last.sources.items → AreSourced small next old → AreSourced small next (record old { last = part })
fitted_sourced small next old part head begin rows sources h =
    let number : part.begin.number ≡ old.last.begin.number = ap (λ s. s.number) begin in
    record {
      closed = h.closed;
      last = record {
        begin = subst (λ head. BeginsIn small head part.begin) (sym head)
            (subst (λ begin. BeginsIn small old.last.head begin) (sym begin) h.last.begin);
        rows = subst (λ rows. AllZip (IsRowAt small) rows part.sources.items) (sym rows)
            (subst (λ sources. AllZip (IsRowAt small) old.last.rows.items sources) (sym sources) h.last.rows);
        rise = subst Rise (sym sources) h.last.rise;
        inside = subst (All (IsInSection small part.begin)) (sym sources)
            (subst (λ begin. All (IsInSection small begin) old.last.sources.items) (sym begin) h.last.inside);
      };
      order = h.order;
      ahead = subst (λ n. All (StandsBefore n) old.closed.items) (sym number) h.ahead;
      before = h.before;
      last_before = record {
        begin = subst (λ head. IfSome head (λ it. part.begin.number < next)) (sym head)
            (subst (λ b. IfSome old.last.head (λ it. b < next)) (sym number) h.last_before.begin);
        rows = subst (All (λ source. source.number < next)) (sym sources) h.last_before.rows;
      };
      none = subst (λ from. NoneBegins small from next) (sym number) h.none;
    }

-- a section more begins
pub part_opened : {A : Type 0} (small : List ℕ) (old new : Reading A) (head : held_head.Head) (source : Source)
    → new.closed.items ≡ old.closed.items ++ old.last ∷ [] → new.last.head ≡ Some head → new.last.begin ≡ source
    → new.last.rows.items ≡ [] → new.last.sources.items ≡ [] → AreSourced small source.number old → IsHeadAt small head source
    → AreSourced small (source.number + 1) new
part_opened {A = A} small old new head source closed begins begin rows sources h at =
    let number : new.last.begin.number ≡ source.number = ap (λ s. s.number) begin in
    let n = source.number in
    let all = All-push (StandsBefore n) old.closed.items old.last h.before h.last_before in
    record {
      closed = subst (All (IsPartAt small)) (sym closed)
          (All-push (IsPartAt small) old.closed.items old.last h.closed h.last);
      last = record {
        begin = subst (λ head. BeginsIn small head new.last.begin) (sym begins)
            (subst (λ begin. IsHeadAt small head begin) (sym begin) at);
        rows = subst (λ rows. AllZip (IsRowAt small) rows new.last.sources.items) (sym rows)
            (subst (λ sources. AllZip (IsRowAt small) [] sources) (sym sources) tt);
        rise = subst Rise (sym sources) no_rise;
        inside = subst (All (IsInSection small new.last.begin)) (sym sources) (All-nil (IsInSection small new.last.begin));
      };
      order = subst AreInOrder (sym closed)
          (all_pairs_push (λ part next. StandsBefore next.begin.number part) old.closed.items old.last h.order h.ahead);
      ahead = subst (All (StandsBefore new.last.begin.number)) (sym closed)
          (subst (λ n. All (StandsBefore n) (old.closed.items ++ old.last ∷ [])) (sym number) all);
      before = subst (All (StandsBefore (n + 1))) (sym closed)
          (all_before_more n (old.closed.items ++ old.last ∷ []) all);
      last_before = record {
        begin = subst (λ head. IfSome head (λ it. new.last.begin.number < n + 1)) (sym begins) (omega (arith, number));
        rows = subst (All (λ source. source.number < n + 1)) (sym sources) (All-nil (λ (source : Source). source.number < n + 1));
      };
      none = λ line head is low high begins. absurd (omega (arith, low, high, number));
    }
