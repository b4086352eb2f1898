-- One section of the ROM more, and one row more in the last one.
use Rattle.std.proofs.Common.{◌≡◌, ◌<◌, ◌≤◌, ◌+◌, ◌⊎◌, inl, inr, ℕ, List, [], ◌∷◌, ◌++◌, length, get_or, max, refl, sym, ap, subst, ◌∙◌, arith}
use Rattle.std.proofs.Common.{length-append, unwrap_or, Any, Bool, true, false}
use Rattle.std.proofs.lemmas.Bool.{cases_lt}
use Rattle.std.proofs.lemmas.List.{get_or_append_left, get_or_default}
use Rattle.std.proofs.lemmas.List.Quantifiers.{Any-push, all_pairs_push}
use Rattle.std.proofs.Math.Seq.{get_or-append_seam}
use Rattle.std.specs.List.{AllPairs}
use Rattle.dvg_named.specs.SketchFaults.{LiesOn}
use Rattle.dvg_named.specs.Places.{Laid, laid_end, laid_from}
use Rattle.dvg_rows.specs.RowPlaces.{size}
use Rattle.dvg_named.specs.ReadParts.{free_from}
use Rattle.dvg_rows.specs.RomAreas.{IsFree}
use Rattle.dvg_rows.specs.Rows.{Row}
use Rattle.dvg_named.specs.Sections.{RomRows}
use Rattle.dvg_named.proofs.NamesMore.{pairs_front, pairs_last}

-- a section that is laid after others
abbrev pub laid_after : (free : ℕ) → List RomRows → RomRows → Laid
laid_after free sections section =
    record { start = unwrap_or section.address (free_from free sections); rows = section.rows }

pub laid_push : (sections : List RomRows) (section : RomRows) (free : ℕ)
    → laid_from free (sections ++ section ∷ []) ≡ laid_from free sections ++ laid_after free sections section ∷ []
laid_push [] section free = refl
laid_push (first ∷ sections) section free =
    ap (λ l. record { start = unwrap_or first.address free; rows = first.rows } ∷ l)
    (laid_push sections section (max free (unwrap_or first.address free + size first.rows)))

pub free_push : (sections : List RomRows) (section : RomRows) (free : ℕ)
    → free_from free (sections ++ section ∷ [])
    ≡ max (free_from free sections) (laid_end (laid_after free sections section))
free_push [] section free = refl
free_push (first ∷ sections) section free =
    free_push sections section (max free (unwrap_or first.address free + size first.rows))

-- ---- words on which sections are laid

-- a section of these is laid on the word
abbrev pub Covers : List Laid → ℕ → Type 0
Covers sections a = Any (λ section. LiesOn section a) sections

abbrev pub Apart : List Laid → Type 0
Apart = AllPairs (λ section next. (a : ℕ) → LiesOn section a → ¬ LiesOn next a)

pub covers_front : (front : List Laid) (last : Laid) (a : ℕ) → Covers front a → Covers (front ++ last ∷ []) a
covers_front front last a (k, section, low, is, on) =
    (k, section, omega (arith, length-append front (last ∷ []), low), get_or_append_left front (last ∷ []) section k low ∙ is, on)

pub covers_last : (front : List Laid) (last : Laid) (a : ℕ) → LiesOn last a → Covers (front ++ last ∷ []) a
covers_last front last a on = Any-push (λ section. LiesOn section a) front last on

by_place : (front : List Laid) (last : Laid) (a k : ℕ) (section : Laid) → get_or (front ++ last ∷ []) k section ≡ section
    → LiesOn section a → k < length front + 1 → (k < length front) ⊎ (length front ≤ k) → Covers front a ⊎ LiesOn last a
by_place front last a k section is on low (inl inside) =
    inl (k, section, inside, sym (get_or_append_left front (last ∷ []) section k inside) ∙ is, on)
by_place front last a k section is on low (inr here) =
    let at : k ≡ length front = omega (arith, low, here) in
    let same : section ≡ last =
    sym is ∙ ap (λ k. get_or (front ++ last ∷ []) k section) at ∙ get_or-append_seam front last [] section in
    inr (subst (λ (section : Laid). LiesOn section a) same on)

pub covers_cases : (front : List Laid) (last : Laid) (a : ℕ) → Covers (front ++ last ∷ []) a → Covers front a ⊎ LiesOn last a
covers_cases front last a (k, section, low, is, on) =
    by_place front last a k section is on (omega (arith, length-append front (last ∷ []), low)) (cases_lt k (length front))

-- a section that lies on a word is none of those that don't
pub apart_from : (front : List Laid) (last : Laid) (a : ℕ) → Apart (front ++ last ∷ []) → LiesOn last a → ¬ Covers front a
apart_from front last a apart on (k, section, low, is, on_it) =
    pairs_last (λ section next. (a : ℕ) → LiesOn section a → ¬ LiesOn next a) front last apart k section low a
    (subst (λ (section : Laid). LiesOn section a) (sym is) on_it) on

pub apart_push : (front : List Laid) (last : Laid) → Apart front → ((a : ℕ) → LiesOn last a → ¬ Covers front a)
    → Apart (front ++ last ∷ [])
apart_push front last apart none =
    all_pairs_push (λ section next. (a : ℕ) → LiesOn section a → ¬ LiesOn next a) front last apart
    (λ k d low a on_it on. none a on (k, get_or front k d, low, get_or_default front k (get_or front k d) d low, on_it))

-- ---- one row more

abbrev laid_at : ℕ → List Row → Laid
laid_at start rows = record { start = start; rows = rows }

-- a word of the section with the row is one of the section without it, or a new one
abbrev pub IsNew : (next now a : ℕ) → Type 0
IsNew next now a = (next ≤ a) × (a < now)

longer_by : (start : ℕ) (rows : List Row) (now a : ℕ) → start ≤ a → a < now
    → (a < start + size rows) ⊎ (start + size rows ≤ a) → LiesOn (laid_at start rows) a ⊎ IsNew (start + size rows) now a
longer_by start rows now a low high (inl before) = inl (low, before)
longer_by start rows now a low high (inr after) = inr (after, high)

module _ (front : List Laid) (start : ℕ) (rows longer : List Row) (taken : List Bool) (now : ℕ)
    (ends : now ≡ start + size longer) (grows : start + size rows ≤ now)
    (on : (a : ℕ) → Covers (front ++ laid_at start rows ∷ []) a → get_or taken a false ≡ true) where
  longer_cases : (a : ℕ) → LiesOn (laid_at start longer) a → LiesOn (laid_at start rows) a ⊎ IsNew (start + size rows) now a
  longer_cases a (low, high) =
      longer_by start rows now a low (omega (arith, high, ends)) (cases_lt a (start + size rows))

  apart_by : (a : ℕ) → Apart (front ++ laid_at start rows ∷ []) → IsFree taken (start + size rows) now
      → LiesOn (laid_at start rows) a ⊎ IsNew (start + size rows) now a → ¬ Covers front a
  apart_by a apart free (inl old) covered = apart_from front (laid_at start rows) a apart old covered
  apart_by a apart free (inr new) covered =
      let is = on a (covers_front front (laid_at start rows) a covered) in
      let none = free a new.0 new.1 in
      absurd (cc)

  -- where the new words were free, the sections lie apart
  pub apart_longer : Apart (front ++ laid_at start rows ∷ []) → IsFree taken (start + size rows) now
      → Apart (front ++ laid_at start longer ∷ [])
  apart_longer apart free =
      apart_push front (laid_at start longer)
      (pairs_front (λ section next. (a : ℕ) → LiesOn section a → ¬ LiesOn next a) front (laid_at start rows ∷ []) apart)
      (λ a on_it covered. apart_by a apart free (longer_cases a on_it) covered)

  module _ (only : (a : ℕ) → get_or taken a false ≡ true → Covers (front ++ laid_at start rows ∷ []) a) where
    free_by : (a : ℕ) (b : Bool) → get_or taken a false ≡ b → start + size rows ≤ a → a < now
        → Apart (front ++ laid_at start longer ∷ []) → get_or taken a false ≡ false
    free_by a false e low high apart = e
    free_by a true e low high apart =
        absurd (not_by (covers_cases front (laid_at start rows) a (only a e)))
      where
        not_by : Covers front a ⊎ LiesOn (laid_at start rows) a → ⊥
        not_by (inl covered) =
            apart_from front (laid_at start longer) a apart (omega arith, omega (arith, high, ends)) covered
        not_by (inr (from, below)) = omega (arith, below, low)

    -- and only there
    pub apart_free : Apart (front ++ laid_at start longer ∷ []) → IsFree taken (start + size rows) now
    apart_free apart = λ a low high. free_by a (get_or taken a false) refl low high apart

    module _ (marked : List Bool) (new : (a : ℕ) → start + size rows ≤ a → a < now → get_or marked a false ≡ true)
        (kept : (a : ℕ) → (a < start + size rows) ⊎ (now ≤ a) → get_or marked a false ≡ get_or taken a false) where
      is_marked : (a : ℕ) → get_or taken a false ≡ true → (a < start + size rows) ⊎ (start + size rows ≤ a)
          → (a < now) ⊎ (now ≤ a) → get_or marked a false ≡ true
      is_marked a is (inl below) high = kept a (inl below) ∙ is
      is_marked a is (inr low) (inl high) = new a low high
      is_marked a is (inr low) (inr over) = kept a (inr over) ∙ is

      still : (a : ℕ) → Covers (front ++ laid_at start rows ∷ []) a → get_or marked a false ≡ true
      still a covered = is_marked a (on a covered) (cases_lt a (start + size rows)) (cases_lt a now)

      on_by : (a : ℕ) → LiesOn (laid_at start rows) a ⊎ IsNew (start + size rows) now a → get_or marked a false ≡ true
      on_by a (inl old) = still a (covers_last front (laid_at start rows) a old)
      on_by a (inr is) = new a is.0 is.1

      on_cases : (a : ℕ) → Covers front a ⊎ LiesOn (laid_at start longer) a → get_or marked a false ≡ true
      on_cases a (inl covered) = still a (covers_front front (laid_at start rows) a covered)
      on_cases a (inr on_it) = on_by a (longer_cases a on_it)

      -- the words that are marked are those on which sections are laid
      pub on_longer : (a : ℕ) → Covers (front ++ laid_at start longer ∷ []) a → get_or marked a false ≡ true
      on_longer a covered = on_cases a (covers_cases front (laid_at start longer) a covered)

      still_covers : (a : ℕ) → Covers front a ⊎ LiesOn (laid_at start rows) a → Covers (front ++ laid_at start longer ∷ []) a
      still_covers a (inl covered) = covers_front front (laid_at start longer) a covered
      still_covers a (inr (low, high)) = covers_last front (laid_at start longer) a (low, omega (arith, high, grows, ends))

      only_by : (a : ℕ) → get_or marked a false ≡ true → (a < start + size rows) ⊎ (start + size rows ≤ a)
          → (a < now) ⊎ (now ≤ a) → Covers (front ++ laid_at start longer ∷ []) a
      only_by a is (inl below) high =
          still_covers a (covers_cases front (laid_at start rows) a (only a (sym (kept a (inl below)) ∙ is)))
      only_by a is (inr low) (inl high) =
          covers_last front (laid_at start longer) a (omega arith, omega (arith, high, ends))
      only_by a is (inr low) (inr over) =
          still_covers a (covers_cases front (laid_at start rows) a (only a (sym (kept a (inr over)) ∙ is)))

      pub only_longer : (a : ℕ) → get_or marked a false ≡ true → Covers (front ++ laid_at start longer ∷ []) a
      only_longer a is = only_by a is (cases_lt a (start + size rows)) (cases_lt a now)

-- ---- one section more, without rows

no_words : (start : ℕ) (a : ℕ) → LiesOn (laid_at start []) a → ⊥
no_words start a (low, high) = omega (arith, low, high)

pub apart_begun : (front : List Laid) (start : ℕ) → Apart front → Apart (front ++ laid_at start [] ∷ [])
apart_begun front start apart = apart_push front (laid_at start []) apart (λ a on covered. absurd (no_words start a on))

begun_by : (front : List Laid) (start a : ℕ) → Covers front a ⊎ LiesOn (laid_at start []) a → Covers front a
begun_by front start a (inl covered) = covered
begun_by front start a (inr on) = absurd (no_words start a on)

pub covers_begun : (front : List Laid) (start a : ℕ) → Covers (front ++ laid_at start [] ∷ []) a → Covers front a
covers_begun front start a covered = begun_by front start a (covers_cases front (laid_at start []) a covered)
