-- The rows that are held, and their lines, with a row or a section more.
use Rattle.std.proofs.Common.{◌≡◌, ℕ, ◌+◌, List, [], ◌∷◌, ◌++◌, length, refl, sym, ap, ◌∙◌, append_assoc, append-nil, arith, Result, Ok, Err, false, if◌then◌else◌}
use Rattle.std.specs.List.{AllZip}
use Rattle.std.specs.Result.{is_err, is_ok}
use Rattle.dvg_rows.specs.declared.source.Source.{Source}
use Rattle.dvg_rows.specs.declared.part.Part.{Part}
use Rattle.dvg_named.specs.declared.reading.Reading.{Reading}
use Rattle.dvg_rows.specs.declared.row.Row as held_row
use Rattle.dvg_named.specs.LineNumbers.{AddsEntry, KeepsEntries, entries_from, entries_in, entries_last, entries_of, entry_of, first_head}
use Rattle.dvg_rows.specs.RowValues.{row_of}

pub entries_push : (R : held_row.Row → Source → Type 0) (section : ℕ) (rows : List held_row.Row) (sources : List Source)
    (row : held_row.Row) (source : Source) → AllZip R rows sources
    → entries_of section (rows ++ row ∷ []) (sources ++ source ∷ [])
    ≡ entries_of section rows sources ++ entry_of section row source ∷ []
entries_push R section [] [] row source h = refl
entries_push R section [] (s ∷ sources) row source h = absurd h
entries_push R section (r ∷ rows) [] row source h = absurd h
entries_push R section (r ∷ rows) (s ∷ sources) row source h =
    ap (λ l. entry_of section r s ∷ l) (entries_push R section rows sources row source h.1)

pub entries_snoc : {A : Type 0} (section : ℕ) (parts : List (Part A)) (part : Part A)
    → entries_from section (parts ++ part ∷ []) ≡ entries_from section parts ++ entries_last (section + length parts) part
entries_snoc section [] part =
    append-nil (entries_last section part) ∙ ap (λ n. entries_last n part) (omega arith)
entries_snoc section (first ∷ parts) part =
    ap (λ l. entries_last section first ++ l)
    (entries_snoc (section + 1) parts part
    ∙ ap (λ n. entries_from (section + 1) parts ++ entries_last n part) (omega arith))
    ∙ sym (append_assoc (entries_last section first) (entries_from (section + 1) parts) (entries_last (section + length (first ∷ parts)) part))

first_snoc : {A : Type 0} (closed : List (Part A)) (last next : Part A) → first_head (closed ++ last ∷ []) next ≡ first_head closed last
first_snoc [] last next = refl
first_snoc (first ∷ closed) last next = refl

first_same : {A : Type 0} (closed : List (Part A)) (old new : Part A) → new.head ≡ old.head
    → first_head closed new ≡ first_head closed old
first_same [] old new e = e
first_same (first ∷ closed) old new e = refl

-- the last section is closed, and an empty one begins
pub opened_keeps : {A : Type 0} (old new : Reading A) → new.closed.items ≡ old.closed.items ++ old.last ∷ []
    → new.last.rows.items ≡ [] → KeepsEntries old new
opened_keeps old new closed none = record {
  top = ap (λ parts. first_head parts new.last) closed ∙ first_snoc old.closed.items old.last new.last;
  entries = ap (λ rows. entries_from 0 new.closed.items ++ entries_of (length new.closed.items) rows new.last.sources.items) none
      ∙ append-nil (entries_from 0 new.closed.items)
      ∙ ap (entries_from 0) closed
      ∙ entries_snoc 0 old.closed.items old.last
      ∙ ap (λ n. entries_from 0 old.closed.items ++ entries_last n old.last) (omega arith);
}

-- a last section that holds the same is as good
pub fitted_keeps : {A : Type 0} (old new : Reading A) (part : Part A) → part.head ≡ old.last.head
    → part.rows.items ≡ old.last.rows.items → part.sources.items ≡ old.last.sources.items
    → KeepsEntries (record old { last = part }) new → KeepsEntries old new
fitted_keeps old new part head rows sources keeps =
    let n = length old.closed.items in
    let front = entries_from 0 old.closed.items in
    record {
      top = keeps.top ∙ first_same old.closed.items old.last part head;
      entries = keeps.entries ∙ ap (λ l. front ++ entries_of n l part.sources.items) rows
          ∙ ap (λ l. front ++ entries_of n old.last.rows.items l) sources;
    }

-- a row more in the last section
pub row_adds : {A : Type 0} (R : held_row.Row → Source → Type 0) (old new : Reading A) (row : held_row.Row) (source : Source)
    → new.closed ≡ old.closed → new.last.head ≡ old.last.head → new.last.rows.items ≡ old.last.rows.items ++ row ∷ []
    → new.last.sources.items ≡ old.last.sources.items ++ source ∷ [] → AllZip R old.last.rows.items old.last.sources.items
    → AddsEntry old (row_of row) source.number new
row_adds {A = A} R old new row source closed head rows sources zip =
    let n = length old.closed.items in
    let more : entries_last n new.last ≡ entries_last n old.last ++ entry_of n row source ∷ [] =
    ap (λ l. entries_of n l new.last.sources.items) rows
    ∙ ap (λ l. entries_of n (old.last.rows.items ++ row ∷ []) l) sources
    ∙ entries_push R n old.last.rows.items old.last.sources.items row source zip in
    record {
      top = ap (λ (parts : List (Part A)). first_head parts new.last) (ap (λ c. c.items) closed)
          ∙ first_same old.closed.items old.last new.last head;
      entries = ap (λ c. entries_from 0 c.items ++ entries_last (length c.items) new.last) closed
          ∙ ap (λ l. entries_from 0 old.closed.items ++ l) more
          ∙ sym (append_assoc (entries_from 0 old.closed.items) (entries_last n old.last) (entry_of n row source ∷ []))
          ∙ ap (λ c. entries_in old ++ record { section = length c.items; row = row_of row; number = source.number } ∷ []) (sym closed);
    }

-- what a list becomes by a push that isn't refused
pub items_ok : {A E X : Type 0} (r : Result A E) (now more old : List X) → is_err r ≡ false
    → now ≡ (if is_ok r then more else old) → now ≡ more
items_ok (Ok x) now more old e h = h
items_ok (Err x) now more old e h = absurd cc
