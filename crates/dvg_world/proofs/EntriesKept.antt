-- Entries that are kept, more of them after the others.
use Rattle.std.proofs.Common.{◌≡◌, ℕ, zero, suc, ◌+◌, ◌-◌, ◌≤◌, List, [], ◌∷◌, ◌++◌, map}
use Rattle.std.proofs.Common.{length, replicate, get_or}
use Rattle.std.proofs.Common.{Option, Some, None, Vec, refl, sym, ap, ◌∙◌, append_assoc, arith, length-append}
use Rattle.std.specs.Prelude.{option_to_list}
use Rattle.std.proofs.lemmas.List.{append-nil, length-map, length-replicate, map-append}
use Rattle.std.proofs.lemmas.List.{replicate-append-replicate}
use Rattle.std.proofs.lemmas.Option.{none-some, same_Some}
use Rattle.std.proofs.lemmas.List.Sums.{sum_by-append, sum_by-cons}
use Rattle.dvg_gen.specs.declared.stroke.Stroke.{Stroke}
use Rattle.dvg_log.specs.declared.entry.Entry.{Entry}
use Rattle.dvg_log.specs.declared.entry.Entry.TheVariants.{Done}
use Rattle.dvg_log.specs.Entries.{Shown, map_entry}
use Rattle.dvg_log.specs.Events.{Happening}
use Rattle.dvg_log.specs.Log.{Log, ◌⟼◌}
use Rattle.dvg_world.specs.declared.entries.Alike.{Alike}
use Rattle.dvg_world.specs.Keeping.{all_entries, entries_in, pictures_left}
use Rattle.dvg_world.specs.own.Entries.{AreEntries, entry_count, finished_count, finished_in}
use Rattle.dvg_world.specs.own.Stepping.{IsDrawnBy}

-- an entry that finished a run has one picture, and any other none
finished_drew : {A : Type 0} (entry : Entry (Unit {0})) (picture : List Stroke) (drew : Option (Vec Stroke A))
    → IsDrawnBy (map_entry (λ _. picture) entry) drew → finished_in entry ≡ length (option_to_list drew)
finished_drew (Done address word unit) picture (Some drew) is = refl
finished_drew (Done address word unit) picture None is = absurd (none-some picture (sym is))
finished_drew _ picture (Some drew) is = absurd (none-some drew.items is)
finished_drew _ picture None is = refl

-- it is shown as it is
shown_last : {A : Type 0} (entry : Entry (Unit {0})) (picture : List Stroke) (drew : Option (Vec Stroke A))
    → IsDrawnBy (map_entry (λ _. picture) entry) drew
    → map_entry (λ _. get_or (map (λ strokes. strokes.items) (option_to_list drew)) 0 []) entry
    ≡ map_entry (λ _. picture) entry
shown_last (Done address word unit) picture (Some drew) is =
    ap (Done address word) (sym (same_Some picture drew.items is))
shown_last (Done address word unit) picture None is = absurd (none-some picture (sym is))
shown_last _ picture drew is = refl

-- the pictures of the entries from this one on, and more of them
record IsNext (pictures more : List (List Stroke)) (entry : Entry (Unit {0})) (n : ℕ) : Type 0 where
  shown : map_entry (λ _. get_or (pictures ++ more) 0 []) entry ≡ map_entry (λ _. get_or pictures 0 []) entry
  left : pictures_left entry (pictures ++ more) ≡ pictures_left entry pictures ++ more
  count : n ≡ length (pictures_left entry pictures)

next_picture : (pictures more : List (List Stroke)) (entry : Entry (Unit {0})) (n : ℕ)
    → finished_in entry + n ≡ length pictures → IsNext pictures more entry n
next_picture (picture ∷ pictures) more (Done address word unit) n is =
    record { shown = refl; left = refl; count = omega (arith, is) }
next_picture [] more (Done address word unit) n is = absurd (omega (arith, is))
next_picture pictures more _ n is =
    let same : 0 + n ≡ length pictures = is in record { shown = refl; left = refl; count = omega (arith, same) }

-- more entries with their pictures, after those that belong together
all_append : (pictures more : List (List Stroke)) (kept later : List Alike) → finished_count kept ≡ length pictures
    → all_entries (pictures ++ more) (kept ++ later) ≡ all_entries pictures kept ++ all_entries more later
all_append [] more [] later is = refl
all_append (picture ∷ pictures) more [] later is = absurd (omega (arith, is))
all_append pictures more (alike ∷ kept) later is =
    let sum = sum_by-cons (λ (alike : Alike). finished_in alike.entry) alike kept in
    let next = next_picture pictures more alike.entry (finished_count kept) (sym sum ∙ is) in
    let first = replicate (suc alike.again) (map_entry (λ _. get_or pictures 0 []) alike.entry) in
    let left = pictures_left alike.entry pictures in
    ap (λ shown. replicate (suc alike.again) shown
    ++ all_entries (pictures_left alike.entry (pictures ++ more)) (kept ++ later)) next.shown
    ∙ ap (λ left. first ++ all_entries left (kept ++ later)) next.left
    ∙ ap (λ rest. first ++ rest) (all_append left more kept later next.count)
    ∙ sym (append_assoc first (all_entries left kept) (all_entries more later))

-- as many entries as all that is kept stands for
pub entries_counted : (pictures : List (List Stroke)) (kept : List Alike)
    → length (all_entries pictures kept) ≡ entry_count kept
entries_counted pictures [] = refl
entries_counted pictures (alike ∷ kept) =
    let shown = map_entry (λ _. get_or pictures 0 []) alike.entry in
    let left = pictures_left alike.entry pictures in
    length-append (replicate (suc alike.again) shown) (all_entries left kept)
    ∙ ap (λ n. n + length (all_entries left kept)) (length-replicate (suc alike.again) shown)
    ∙ ap (λ n. suc alike.again + n) (entries_counted left kept)
    ∙ sym (sum_by-cons (λ (alike : Alike). suc alike.again) alike kept)

-- none of it stands for no entry
pub few_kept : (kept : List Alike) → length kept ≤ entry_count kept
few_kept [] = omega arith
few_kept (alike ∷ kept) =
    let rest = few_kept kept in
    let sum = sum_by-cons (λ (alike : Alike). suc alike.again) alike kept in
    omega (arith, rest, sum)

-- equal entries more
count_more : (kept : List Alike) (alike : Alike)
    → entry_count (kept ++ alike ∷ []) ≡ entry_count kept + suc alike.again
count_more kept alike =
    (let sum = sum_by-append (λ (alike : Alike). suc alike.again) kept (alike ∷ []) in omega (arith, sum))

finished_more : (kept : List Alike) (alike : Alike)
    → finished_count (kept ++ alike ∷ []) ≡ finished_count kept + finished_in alike.entry
finished_more kept alike =
    (let sum = sum_by-append (λ (alike : Alike). finished_in alike.entry) kept (alike ∷ []) in omega (arith, sum))

-- the entries of equal lines
pub lines_alike : (times : ℕ) (event : Happening) (entry : Shown) (log : Log)
    → entries_in (replicate times (event ⟼ entry) ++ log) ≡ entries_in log ++ replicate times entry
lines_alike zero event entry log = sym (append-nil (entries_in log))
lines_alike (suc n) event entry log =
    ap (λ entries. entries ++ entry ∷ []) (lines_alike n event entry log)
    ∙ append_assoc (entries_in log) (replicate n entry) (entry ∷ [])
    ∙ ap (λ entries. entries_in log ++ entries) (replicate-append-replicate n 1 entry
    ∙ ap (λ k. replicate k entry) (let k : n + 1 ≡ suc n = omega arith in k))

-- the entries of a log, and so many equal ones more
pub kept_more : {A : Type 0} (kept more : List Alike) (drawn later : List (Vec Stroke A)) (entry : Entry (Unit {0}))
    (picture : List Stroke) (drew : Option (Vec Stroke A)) (times : ℕ) (event : Happening) (log : Log)
    → IsDrawnBy (map_entry (λ _. picture) entry) drew
    → AreEntries kept (length drawn) → all_entries (map (λ strokes. strokes.items) drawn) kept ≡ entries_in log
    → 1 ≤ times → entry_count kept + times ≤ 65536
    → more ≡ kept ++ record { entry = entry; again = times - 1 } ∷ []
    → later ≡ drawn ++ option_to_list drew
    → AreEntries more (length later)
    × (all_entries (map (λ strokes. strokes.items) later) more
    ≡ entries_in (replicate times (event ⟼ map_entry (λ _. picture) entry) ++ log))
kept_more {A = A} kept more drawn later entry picture drew times event log is are all some room more_is later_is =
    rw (more_is, later_is) (
      record {
        count = (let sum = count_more kept last in omega (arith, sum, room, some));
        pictured = (let sum = finished_more kept last in
            let one = finished_drew entry picture drew is in
            let size = length-append drawn (option_to_list drew) in
            let before = are.pictured in omega (arith, sum, one, size, before));
      },
      ap (λ lists. all_entries lists (kept ++ last ∷ []))
          (map-append (λ strokes. strokes.items) drawn (option_to_list drew))
          ∙ all_append old new kept (last ∷ []) (are.pictured ∙ sym (length-map drawn (λ strokes. strokes.items)))
          ∙ ap (λ front. front ++ all_entries new (last ∷ [])) all
          ∙ ap (λ back. entries_in log ++ back)
          (append-nil (replicate (suc (times - 1)) (map_entry (λ _. get_or new 0 []) entry)))
          ∙ ap (λ shown. entries_in log ++ replicate (suc (times - 1)) shown) (shown_last entry picture drew is)
          ∙ ap (λ k. entries_in log ++ replicate k shown) (let k : suc (times - 1) ≡ times = omega (arith, some) in k)
          ∙ sym (lines_alike times event shown log),
    )
  where
    last : Alike
    last = record { entry = entry; again = times - 1 }

    shown : Shown
    shown = map_entry (λ _. picture) entry

    old : List (List Stroke)
    old = map (λ strokes. strokes.items) drawn

    new : List (List Stroke)
    new = map (λ strokes. strokes.items) (option_to_list drew)
