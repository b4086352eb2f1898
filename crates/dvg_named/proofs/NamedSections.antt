-- Which sections of the ROM give a name, and where.
use Rattle.std.proofs.Common.{◌≡◌, ◌<◌, ◌≤◌, ◌+◌, ℕ, List, [], ◌∷◌, ◌++◌, length, get_or, take, drop, map}
use Rattle.std.proofs.Common.{refl, sym, ap, subst, ◌∙◌, arith, suc, IfSome, Option, Some, None}
use Rattle.std.proofs.lemmas.List.{append_assoc, drop_more, get_or_append_left, get_or-map, length-append, map-append}
use Rattle.std.proofs.lemmas.List.{length-map, take-append-drop}
use Rattle.std.proofs.lemmas.List.Elements.{filter_map-append}
use Rattle.dvg_named.specs.declared.laid.LaidRows as held
use Rattle.dvg_rows.specs.NameTables.{IsFound}
use Rattle.dvg_named.specs.LaidValues.{AreLow, laid_section, laid_sections, rows_laid}
use Rattle.dvg_rows.specs.RowPlaces.{AreDistinct, names_of}
use Rattle.dvg_named.specs.Places.{IsAddress, Laid, laid_end}
use Rattle.dvg_rows.specs.RowPlaces.{IsNamedAfter, size}
use Rattle.dvg_rows.specs.Rows.{Row}
use Rattle.std.proofs.Math.Seq.{get_or-append_seam}
use Rattle.dvg_rows.proofs.RowSizes.{size-append}
use Rattle.dvg_rows.proofs.RowNames.{distinct_after, names_around, not_again, one_place}

-- ---- lists

-- a list of which each item was mapped is cut where the list is
pub map_cut_at : {X Y : Type 0} (f : X → Y) (xs : List X) (i : ℕ) (x : X) → i < length xs → x ≡ get_or xs i x
    → map f xs ≡ map f (take i xs) ++ f x ∷ map f (drop (i + 1) xs)
map_cut_at f xs i x low is =
    let here : drop i xs ≡ x ∷ drop (i + 1) xs =
    drop_more xs i x low ∙ ap (λ e. e ∷ drop (i + 1) xs) (sym is) in
    ap (map f) (sym (take-append-drop i xs) ∙ ap (λ l. take i xs ++ l) here)
    ∙ map-append f (take i xs) (x ∷ drop (i + 1) xs)

-- the item of the list that stands where a list of mapped items is cut
pub record IsCutAt {X Y : Type 0} (f : X → Y) (xs : List X) (place : ℕ) (y : Y) : Type 0 where
  pub item : X
  pub same : f item ≡ y
  pub low : place < length xs
  pub there : (d : X) → get_or xs place d ≡ item

pub item_cut : {X Y : Type 0} (f : X → Y) (xs : List X) (ys zs : List Y) (y : Y) → map f xs ≡ ys ++ y ∷ zs
    → IsCutAt f xs (length ys) y
item_cut f [] [] zs y e = absurd cc
item_cut f [] (z ∷ ys) zs y e = absurd cc
item_cut f (x ∷ xs) [] zs y e = record { item = x; same = cc; low = omega arith; there = λ d. refl }
item_cut f (x ∷ xs) (z ∷ ys) zs y e =
    let rest = item_cut f xs ys zs y (cc) in
    record { item = rest.item; same = rest.same; low = let low = rest.low in omega arith; there = rest.there }

-- ---- names that are given once

-- of distinct names those of an end are distinct
distinct_end : (names others : List (List ℕ)) → AreDistinct (names ++ others) → AreDistinct others
distinct_end [] others h = h
distinct_end (name ∷ names) others h = distinct_end names others (distinct_after (Some name) (names ++ others) h)

-- and those of a front
distinct_front : (names others : List (List ℕ)) → AreDistinct (names ++ others) → AreDistinct names
distinct_front names others h = λ i j d low inside same. h i j d low (omega (arith, length-append names others, inside))
    (get_or_append_left names others d i (omega (arith, low, inside)) ∙ same
    ∙ sym (get_or_append_left names others d j inside))

-- the names of a list around one
pub record HasName (names : List (List ℕ)) (name : List ℕ) : Type 0 where
  pub before : List (List ℕ)
  pub after : List (List ℕ)
  pub cut : names ≡ before ++ name ∷ after

-- no name is in a front and in the end after it
not_in_both : (names others : List (List ℕ)) (name : List ℕ) → AreDistinct (names ++ others) → HasName names name
    → HasName others name → ⊥
not_in_both names others name once h k =
    let whole : names ++ others ≡ h.before ++ (name ∷ (h.after ++ others)) =
    ap (λ l. l ++ others) h.cut ∙ append_assoc h.before (name ∷ h.after) others in
    let rest : AreDistinct (name ∷ (h.after ++ others)) =
    distinct_end h.before (name ∷ (h.after ++ others)) (subst AreDistinct whole once) in
    not_again name (h.after ++ others) (h.after ++ k.before) k.after
    (ap (λ l. h.after ++ l) k.cut ∙ sym (append_assoc h.after k.before (name ∷ k.after))) rest

name_given : (rows : List Row) (name : List ℕ) (before : List Row) → IsNamedAfter rows name before
    → HasName (names_of rows) name
name_given rows name before h = record {
  before = names_of before;
  after = names_of h.after;
  cut = names_around rows before h.after h.row name h.cut h.gives;
}

abbrev name_in : Row → Option (List ℕ)
name_in row = row.name

-- the names of a section and those of the others
names_first : (section : Laid) (others : List Laid)
    → names_of (rows_laid (section ∷ others)) ≡ names_of section.rows ++ names_of (rows_laid others)
names_first section others = filter_map-append name_in section.rows (rows_laid others)

-- a name that a section gives is among those of all
pub name_laid : (sections earlier later : List Laid) (section : Laid) (name : List ℕ) (before : List Row)
    → sections ≡ earlier ++ section ∷ later → IsNamedAfter section.rows name before
    → HasName (names_of (rows_laid sections)) name
name_laid [] [] later section name before e h = absurd cc
name_laid [] (x ∷ earlier) later section name before e h = absurd cc
name_laid (first ∷ sections) [] later section name before e h =
    let same : first ≡ section = cc in
    let given = name_given first.rows name before (subst (λ (l : Laid). IsNamedAfter l.rows name before) (sym same) h) in
    record {
      before = given.before;
      after = given.after ++ names_of (rows_laid sections);
      cut = names_first first sections ∙ ap (λ l. l ++ names_of (rows_laid sections)) given.cut
          ∙ append_assoc given.before (name ∷ given.after) (names_of (rows_laid sections));
    }
name_laid (first ∷ sections) (x ∷ earlier) later section name before e h =
    let rest = name_laid sections earlier later section name before (cc) h in
    record {
      before = names_of first.rows ++ rest.before;
      after = rest.after;
      cut = names_first first sections ∙ ap (λ l. names_of first.rows ++ l) rest.cut
          ∙ sym (append_assoc (names_of first.rows) rest.before (name ∷ rest.after));
    }

-- a name names one address, where each name is given once
one_place_of : (sections earlier others later behind : List Laid) (section other : Laid) (name : List ℕ)
    (before also : List Row) → AreDistinct (names_of (rows_laid sections))
    → sections ≡ earlier ++ section ∷ later → IsNamedAfter section.rows name before
    → sections ≡ others ++ other ∷ behind → IsNamedAfter other.rows name also
    → section.start + size before ≡ other.start + size also
one_place_of [] [] others later behind section other name before also once e h f k = absurd cc
one_place_of [] (x ∷ earlier) others later behind section other name before also once e h f k = absurd cc
one_place_of (first ∷ sections) [] [] later behind section other name before also once e h f k =
    let same : section ≡ other = cc in
    let is : section ≡ first = cc in
    let k_here : IsNamedAfter section.rows name also = subst (λ (l : Laid). IsNamedAfter l.rows name also) (sym same) k in
    let parts = subst AreDistinct (names_first first sections) once in
    let here = subst (λ (l : Laid). AreDistinct (names_of l.rows)) (sym is)
    (distinct_front (names_of first.rows) (names_of (rows_laid sections)) parts) in
    let rows : before ≡ also =
    one_place section.rows before also h.after k_here.after h.row k_here.row name here h.cut h.gives k_here.cut k_here.gives in
    ap (λ (l : Laid). l.start + size before) same ∙ ap (λ l. other.start + size l) rows
one_place_of (first ∷ sections) [] (y ∷ others) later behind section other name before also once e h f k =
    let is : section ≡ first = cc in
    absurd (not_in_both (names_of first.rows) (names_of (rows_laid sections)) name
    (subst AreDistinct (names_first first sections) once)
    (name_given first.rows name before (subst (λ (l : Laid). IsNamedAfter l.rows name before) is h))
    (name_laid sections others behind other name also (cc) k))
one_place_of (first ∷ sections) (x ∷ earlier) [] later behind section other name before also once e h f k =
    let is : other ≡ first = cc in
    absurd (not_in_both (names_of first.rows) (names_of (rows_laid sections)) name
    (subst AreDistinct (names_first first sections) once)
    (name_given first.rows name also (subst (λ (l : Laid). IsNamedAfter l.rows name also) is k))
    (name_laid sections earlier later section name before (cc) h))
one_place_of (first ∷ sections) (x ∷ earlier) (y ∷ others) later behind section other name before also once e h f k =
    one_place_of sections earlier others later behind section other name before also
    (distinct_end (names_of first.rows) (names_of (rows_laid sections)) (subst AreDistinct (names_first first sections) once))
    (cc) h (cc) k

pub one_address : (sections : List Laid) (name : List ℕ) (address also : ℕ) → AreDistinct (names_of (rows_laid sections))
    → IsAddress sections name address → IsAddress sections name also → address ≡ also
one_address sections name address also once h k =
    h.place ∙ one_place_of sections h.earlier k.earlier h.later k.later h.section k.section name h.before k.before once
    h.cut h.named k.cut k.named ∙ sym k.place

-- ---- sections that end in the ROM

pub low_at : (sections : List held.LaidRows) (i : ℕ) (section : held.LaidRows) → AreLow (laid_sections sections)
    → i < length sections → section ≡ get_or sections i section → laid_end (laid_section section) ≤ 0xC00
low_at sections i section low inside is =
    subst (λ l. laid_end l ≤ 0xC00) (get_or-map laid_section sections i section (laid_section section) inside ∙ ap laid_section (sym is))
    (low i (laid_section section) (omega (arith, length-map sections laid_section)))

-- a name is that of no word after the ROM's last one but the next
pub low_address : (sections : List Laid) (name : List ℕ) (address : ℕ) → AreLow sections → IsAddress sections name address
    → address ≤ 0xC00
low_address sections name address low h =
    let size_of : length sections ≡ length h.earlier + suc (length h.later) =
    ap length h.cut ∙ length-append h.earlier (h.section ∷ h.later) in
    let end : laid_end h.section ≤ 0xC00 =
    subst (λ l. laid_end l ≤ 0xC00)
    (ap (λ l. get_or l (length h.earlier) h.section) h.cut ∙ get_or-append_seam h.earlier h.section h.later h.section)
    (low (length h.earlier) h.section (omega (arith, size_of))) in
    let rows : size h.section.rows ≡ size h.before + size (h.named.row ∷ h.named.after) =
    ap size h.named.cut ∙ size-append h.before (h.named.row ∷ h.named.after) in
    let place = h.place in
    omega (arith, end, rows, place)

-- so is an address that is found
pub low_found : (sections : List Laid) (name : List ℕ) (found : Option ℕ) → AreLow sections
    → IsFound (IsAddress sections name) found → IfSome found (λ address. address ≤ 0xC00)
low_found sections name None low h = tt
low_found sections name (Some address) low h = low_address sections name address low h
