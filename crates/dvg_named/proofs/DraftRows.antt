-- What is drafted, one row after the other.
use Rattle.std.proofs.Common.{◌≡◌, ◌<◌, ◌≤◌, ◌+◌, ℕ, List, [], ◌∷◌, ◌++◌, length, get_or, take, drop, refl, sym, ap, subst, ◌∙◌}
use Rattle.std.proofs.Common.{arith, Option, Some, None, slice_get}
use Rattle.std.proofs.lemmas.List.{append-nil, get_or-map, length-append, length-map, map-append, map_more, take-append-drop}
use Rattle.std.proofs.lemmas.List.Elements.{filter_map-append}
use Rattle.std.proofs.lemmas.Option.{slice_get_read}
use Rattle.std.specs.List.{AllZip, cons_option}
use Rattle.dvg_frame.specs.declared.op.OpKind.{OpKind}
use Rattle.dvg_read.proofs.Zips.{zip_push}
use Rattle.dvg_rows.specs.declared.row.Doing as held_doing
use Rattle.dvg_rows.specs.declared.row.Row as held
use Rattle.dvg_rows.specs.HeldRows.{rows_of}
use Rattle.dvg_named.specs.Meanings.{IsDrafted}
use Rattle.dvg_named.specs.SketchFaults.{IsUngiven}
use Rattle.dvg_named.specs.Places.{Laid}
use Rattle.dvg_rows.specs.RowPlaces.{IsNumber, doings}
use Rattle.dvg_rows.specs.RowValues.{doing_of, doing_of_some, row_of}
use Rattle.dvg_rows.specs.Rows.{Doing, Row, plainly, calls, jumps, calls_rom, jumps_rom}
use Rattle.dvg_named.specs.Sections.{Section}
use Rattle.dvg_named.specs.Ungiven.{WantsAt, framed}

-- what stands at a place of a list stands there in the same list by another name
pub low_in : {X : Type 0} {xs ys : List X} (i : ℕ) → xs ≡ ys → i < length xs → i < length ys
low_in i same low = subst (λ l. i < length l) same low

pub at_in : {X : Type 0} {xs ys : List X} (i : ℕ) (x : X) → xs ≡ ys → x ≡ get_or xs i x → x ≡ get_or ys i x
at_in i x same is = is ∙ ap (λ l. get_or l i x) same

abbrev doing_in : Row → Option Doing
doing_in row = row.doing

-- the number of a name is at most that of all operations
pub number_most : (rows : List Row) (name : List ℕ) (number : ℕ) → IsNumber rows name number
    → number ≤ length (doings rows)
number_most rows name number h =
    let whole : length (doings rows) ≡ length (doings h.before) + length (doings (h.named.row ∷ h.named.after)) =
    ap length (ap doings h.named.cut ∙ filter_map-append doing_in h.before (h.named.row ∷ h.named.after))
    ∙ length-append (doings h.before) (doings (h.named.row ∷ h.named.after)) in
    omega (arith, whole, h.count)

-- ---- one row more

module _ (rows : List held.Row) (i : ℕ) (row : held.Row) (low : i < length rows) (is : row ≡ get_or rows i row) where
  pub doings_more : doings (rows_of (take (i + 1) rows))
      ≡ doings (rows_of (take i rows)) ++ cons_option (doing_of_some row.doing) []
  doings_more =
      ap doings (map_more row_of rows i row low ∙ ap (λ r. rows_of (take i rows) ++ row_of r ∷ []) (sym is))
      ∙ filter_map-append doing_in (rows_of (take i rows)) (row_of row ∷ [])

  pub one_doing : (doing : held_doing.Doing) → row.doing ≡ Some doing
      → doings (rows_of (take (i + 1) rows)) ≡ doings (rows_of (take i rows)) ++ doing_of doing ∷ []
  one_doing doing does =
      doings_more ∙ ap (λ d. doings (rows_of (take i rows)) ++ cons_option (doing_of_some d) []) does

  pub no_doing : row.doing ≡ None → doings (rows_of (take (i + 1) rows)) ≡ doings (rows_of (take i rows))
  no_doing none =
      doings_more ∙ ap (λ d. doings (rows_of (take i rows)) ++ cons_option (doing_of_some d) []) none
      ∙ append-nil (doings (rows_of (take i rows)))

  -- the row at its place
  pub stands_at : slice_get (rows_of rows) i ≡ Some (row_of row)
  stands_at =
      slice_get_read (rows_of rows) (length rows) i (row_of row) (sym (length-map rows row_of)) low
      (sym (get_or-map row_of rows i row (row_of row) low ∙ ap row_of (sym is)))

  -- a row that wants no name that isn't given
  pub wants_none : (laid : List Laid) (section : Section) → section.rows ≡ rows_of rows
      → ((doing : Doing) → (row_of row).doing ≡ Some doing → IsUngiven laid section doing → ⊥)
      → ¬ WantsAt laid section i
  wants_none laid section of_rows known h =
      let here : Some h.row ≡ Some (row_of row) =
      sym h.stands ∙ ap (λ rows. slice_get rows i) of_rows ∙ stands_at in
      let same : h.row ≡ row_of row = cc in
      known h.doing (ap doing_in (sym same) ∙ h.does) h.ungiven

  -- the row wants a name that isn't given
  pub wants_here : (laid : List Laid) (section : Section) → section.rows ≡ rows_of rows
      → (doing : held_doing.Doing) → row.doing ≡ Some doing → IsUngiven laid section (doing_of doing)
      → WantsAt laid section i
  wants_here laid section of_rows doing does ungiven = record {
    row = row_of row;
    stands = ap (λ rows. slice_get rows i) of_rows ∙ stands_at;
    doing = doing_of doing;
    does = ap doing_of_some does;
    ungiven = ungiven;
  }

-- a row that is drafted wants no name that isn't given
pub drafted_known : (laid : List Laid) (rows : List Row) (doing : Doing) (op : OpKind) → IsDrafted laid rows doing op
    → IsUngiven laid (framed rows) doing → ⊥
drafted_known laid rows (plainly done) op h ungiven = ungiven
drafted_known laid rows (calls name) op h ungiven = ungiven h.0 h.1
drafted_known laid rows (jumps name) op h ungiven = ungiven h.0 h.1
drafted_known laid rows (calls_rom name) op h ungiven = ungiven h.0 h.1
drafted_known laid rows (jumps_rom name) op h ungiven = ungiven h.0 h.1

-- items that go with one more
pub zip_more : {A B : Type 0} (R : A → B → Type 0) (xs all : List A) (ys now : List B) (x : A) (y : B) → AllZip R xs ys
    → R x y → all ≡ xs ++ x ∷ [] → now ≡ ys ++ y ∷ [] → AllZip R all now
zip_more R xs all ys now x y zipped here e f =
    subst (λ l. AllZip R l now) (sym e) (subst (AllZip R (xs ++ x ∷ [])) (sym f) (zip_push R xs ys x y zipped here))

-- the first rows have no more operations than all
pub front_doings : (rows : List held.Row) (i : ℕ)
    → length (doings (rows_of (take i rows))) ≤ length (doings (rows_of rows))
front_doings rows i =
    let whole : doings (rows_of rows) ≡ doings (rows_of (take i rows)) ++ doings (rows_of (drop i rows)) =
    ap doings (ap rows_of (sym (take-append-drop i rows)) ∙ map-append row_of (take i rows) (drop i rows))
    ∙ filter_map-append doing_in (rows_of (take i rows)) (rows_of (drop i rows)) in
    omega (arith, ap length whole, length-append (doings (rows_of (take i rows))) (doings (rows_of (drop i rows))))

-- what is not something is nothing
pub nothing_left : {X : Type 0} (found : Option X) → ((x : X) → found ≡ Some x → ⊥) → found ≡ None
nothing_left None none = refl
nothing_left (Some x) none = absurd (none x refl)
