-- The frames among the sections of a sketch, one section after the other.
use Rattle.std.proofs.Common.{◌≡◌, ◌<◌, ◌+◌, ℕ, List, [], ◌∷◌, ◌++◌, length, map, get_or, take, refl, sym, ap, subst, ◌∙◌, arith}
use Rattle.std.proofs.Common.{append_assoc, None, All, ◌≤◌, ◌-◌, drop, eqb-true, suc, zero, Bool, true, false}
use Rattle.std.specs.Prelude.{◌==◌}
use Rattle.std.proofs.lemmas.List.{map_more, take_all}
use Rattle.std.proofs.lemmas.List.Elements.{All-cons, All-head, All-nil, All-push, All-tail, filter_map-append}
use Rattle.std.proofs.lemmas.Slice.Zip.{AllZip-long}
use Rattle.std.specs.List.{AllPairs, AllZip, filter_map}
use Rattle.dvg_rows.specs.declared.source.Source.{Source}
use Rattle.dvg_read.specs.RomTexts.{RomText}
use Rattle.dvg_named.specs.declared.frame_rows.FrameRows as held
use Rattle.dvg_rows.specs.declared.part.Part.{Part}
use Rattle.dvg_rows.specs.declared.row.Row as held_row
use Rattle.dvg_named.specs.FrameValues.{BeginsBefore, BeginsFirst, IsBegunAt, IsFrameAt, frame_in, frame_list, frames_of, rows_at_top}
use Rattle.dvg_rows.specs.HeldRows.{rows_of}
use Rattle.dvg_named.specs.ReadParts.{sketch_of}
use Rattle.dvg_rows.specs.Rows.{Head, Row, frame, rom, top}
use Rattle.dvg_named.specs.Sections.{FrameRows, HasTop, Section, Spelled, frames, top_frame}
use Rattle.dvg_named.specs.SketchReading.{head_in, section_in}
use Rattle.dvg_named.specs.SourcedRows.{AreInOrder, BeginsFrame, IsInSection, IsPartAt, IsRowAt, Rise, StandsBefore}
use Rattle.dvg_frame.specs.declared.op.OpKind.{OpKind}
use Rattle.dvg_rows.specs.RowValues.{name_of}
use Rattle.dvg_named.specs.FlatFrames.{IsSpanOf}
use Rattle.dvg_named.specs.LineNumbers.{first_head}
use Rattle.dvg_named.specs.Places.{Laid}
use Rattle.dvg_named.specs.declared.joining.FrameSpan.{FrameSpan}

one_frame : (head : Head) (rows : List Row) → filter_map frame_in (record { head = head; rows = rows } ∷ []) ≡ frame_list head rows
one_frame top rows = refl
one_frame (frame name) rows = refl
one_frame (rom address) rows = refl

-- one section more
pub frames_more : {A : Type 0} (parts : List (Part A)) (i : ℕ) (part : Part A) → i < length parts → part ≡ get_or parts i part
    → filter_map frame_in (map section_in (take (i + 1) parts))
    ≡ filter_map frame_in (map section_in (take i parts)) ++ frame_list (head_in part.head) (rows_of part.rows.items)
frames_more parts i part low is =
    ap (filter_map frame_in)
    (map_more section_in parts i part low ∙ ap (λ p. map section_in (take i parts) ++ section_in p ∷ []) (sym is))
    ∙ filter_map-append frame_in (map section_in (take i parts)) (section_in part ∷ [])
    ∙ ap (λ l. filter_map frame_in (map section_in (take i parts)) ++ l) (one_frame (head_in part.head) (rows_of part.rows.items))

-- only the top
pub top_alone : (rows : List Row) → top_frame rows [] ++ [] ≡ record { name = None; rows = rows } ∷ []
top_alone [] = refl
top_alone (row ∷ rows) = refl

top_before : (rows : List Row) (others : List Section) (last : Section) → top_frame rows (others ++ last ∷ []) ≡ rows_at_top rows
top_before [] [] last = refl
top_before [] (first ∷ others) last = refl
top_before (row ∷ rows) others last = refl

-- the top, others and a last section
pub frames_all : (stated : RomText) (first : Section) (others : List Section) (last : Section)
    → frames (sketch_of stated (first ∷ others) last)
    ≡ (rows_at_top first.rows ++ filter_map frame_in others) ++ frame_list last.head last.rows
frames_all stated first others last =
    ap (λ l. l ++ filter_map frame_in (others ++ last ∷ [])) (top_before first.rows others last)
    ∙ ap (λ l. rows_at_top first.rows ++ l)
    (filter_map-append frame_in others (last ∷ [])
    ∙ ap (λ l. filter_map frame_in others ++ l) (one_frame last.head last.rows))
    ∙ sym (append_assoc (rows_at_top first.rows) (filter_map frame_in others) (frame_list last.head last.rows))

-- whether there are rows
pub some_rows : (rows : List held_row.Row) (r : Bool) → r ≡ (length rows == 0) → r ≡ false → rows ≡ [] → ⊥
some_rows [] r is none e = absurd cc
some_rows (row ∷ rows) r is none e = absurd (omega (arith, ap length e))

-- the rows at the top are the first frame
pub top_begun : (rows : List held_row.Row) (old new : List held.FrameRows) (r : Bool) → r ≡ (length rows == 0) → r ≡ false
    → old ≡ [] → frames_of new ≡ frames_of old ++ record { name = None; rows = rows_of rows } ∷ []
    → frames_of new ≡ rows_at_top (rows_of rows) ++ []
top_begun [] old new r is none bare pushed = absurd cc
top_begun (row ∷ rows) old new r is none bare pushed =
    pushed ∙ ap (λ l. frames_of l ++ record { name = None; rows = rows_of (row ∷ rows) } ∷ []) bare

-- there is none at the top
pub top_skipped : (rows : List held_row.Row) (old : List held.FrameRows) (r : Bool) → r ≡ (length rows == 0) → r ≡ true → old ≡ []
    → frames_of old ≡ rows_at_top (rows_of rows) ++ []
top_skipped [] old r is all bare = ap frames_of bare
top_skipped (row ∷ rows) old r is all bare =
    absurd (let none = eqb-true (length (row ∷ rows)) 0 (sym is ∙ all) in omega (arith, none))

pub no_frames : (P : held.FrameRows → Type 0) {found : List held.FrameRows} → found ≡ [] → All P found
no_frames P none = subst (All P) (sym none) (All-nil P)

pub no_pairs : {found : List held.FrameRows} → found ≡ [] → AllPairs BeginsFirst found
no_pairs none = subst (AllPairs BeginsFirst) (sym none) (λ i j d low high. absurd (omega (arith, high)))

-- a section that has rows begins before whatever its rows stand before
pub begins_under : {A : Type 0} (small : List ℕ) (number : ℕ) (part : Part A) → IsPartAt small part → StandsBefore number part
    → (part.rows.items ≡ [] → ⊥) → part.begin.number < number
begins_under small number part at stands some = by_rows part.rows.items part.sources.items at.rows at.inside stands.rows some
  where
    by_rows : (rows : List held_row.Row) (sources : List Source) → AllZip (IsRowAt small) rows sources
        → All (IsInSection small part.begin) sources → All (λ source. source.number < number) sources → (rows ≡ [] → ⊥)
        → part.begin.number < number
    by_rows [] sources zip inside before some = absurd (some refl)
    by_rows (row ∷ rows) [] zip inside before some = absurd zip
    by_rows (row ∷ rows) (source ∷ sources) zip inside before some =
        let from = (All-head (IsInSection small part.begin) source sources inside).0 in
        let low = All-head (λ (source : Source). source.number < number) source sources before in
        omega (arith, from, low)

-- what begins before the lines that a section stands after begins before that section
pub below : {A : Type 0} (others : List (Part A)) (first : Part A) (i : ℕ) (part : Part A) (found : List held.FrameRows)
    → i < length others → part ≡ get_or others i part → AreInOrder (first ∷ others)
    → (StandsBefore part.begin.number first → ((k : ℕ) (d : Part A) → k < i → StandsBefore part.begin.number (get_or others k d))
    → All (BeginsBefore part.begin.number) found)
    → All (BeginsBefore part.begin.number) found
below {A = A} others first i part found low is order all =
    let same : (get_or others i part).begin.number ≡ part.begin.number = ap (λ (p : Part A). p.begin.number) (sym is) in
    all (subst (λ n. StandsBefore n first) same (order 0 (suc i) part (omega arith) (omega (arith, low))))
    (λ k d under. subst (λ n. StandsBefore n (get_or others k d)) same
    (subst (λ p. StandsBefore (get_or others i part).begin.number p) (within others k part d (omega (arith, under, low)))
    (order (suc k) (suc i) part (omega (arith, under)) (omega (arith, low)))))
  where
    -- what stands within a list doesn't hang on what stands outside
    within : (xs : List (Part A)) (k : ℕ) (d e : Part A) → k < length xs → get_or xs k d ≡ get_or xs k e
    within [] k d e low = absurd (omega (arith, low))
    within (x ∷ xs) zero d e low = refl
    within (x ∷ xs) (suc k) d e low = within xs k d e (omega (arith, low))

-- ---- one frame more

pub sources_pushed : {A : Type 0} (small : List ℕ) (part : Part A) (old new : List held.FrameRows) (one : held.FrameRows)
    → new ≡ old ++ one ∷ [] → one.rows.now ≡ part.rows.items → one.sources.now ≡ part.sources.items → one.begin ≡ part.begin
    → IsPartAt small part → All (IsFrameAt small) old → All (IsFrameAt small) new
sources_pushed small part old new one pushed rows sources begin at all =
    subst (All (IsFrameAt small)) (sym pushed)
    (All-push (IsFrameAt small) old one all (record {
      rows = subst (λ l. AllZip (IsRowAt small) l one.sources.now) (sym rows)
          (subst (λ l. AllZip (IsRowAt small) part.rows.items l) (sym sources) at.rows);
      rise = subst Rise (sym sources) at.rise;
      inside = subst (λ begin. All (IsInSection small begin) one.sources.now) (sym begin)
          (subst (All (IsInSection small part.begin)) (sym sources) at.inside);
    }))

-- how the first of several sections begins
pub top_of : {A : Type 0} (closed : List (Part A)) (last first : Part A) → 1 ≤ length closed → first ≡ get_or closed 0 first
    → first_head closed last ≡ None → first.head ≡ None
top_of [] last first low is none = absurd (omega arith)
top_of (one ∷ others) last first low is none = ap (λ part. part.head) is ∙ none

-- there is a frame at the top where it has a row, and where it is alone
pub top_is_there : {A : Type 0} (closed : List (Part A)) (last first : Part A) (stated : RomText) → 1 ≤ length closed
    → first ≡ get_or closed 0 first → (first.rows.items ≡ [] → ⊥)
    → HasTop (sketch_of stated (map section_in closed) (section_in last))
top_is_there [] last first stated low is some = absurd (omega (arith, low))
top_is_there (one ∷ others) last first stated low is some =
    some_there one.rows.items (map section_in others ++ section_in last ∷ [])
    (λ none. some (ap (λ part. part.rows.items) is ∙ none))
  where
    some_there : (rows : List held_row.Row) (others : List Section) → (rows ≡ [] → ⊥) → 0 < length (top_frame (rows_of rows) others)
    some_there [] others some = absurd (some refl)
    some_there (row ∷ rows) others some = omega arith

pub top_is_all : {A : Type 0} (closed : List (Part A)) (last : Part A) (stated : RomText) → length closed ≡ 0
    → HasTop (sketch_of stated (map section_in closed) (section_in last))
top_is_all [] last stated none = alone (rows_of last.rows.items)
  where
    alone : (rows : List Row) → 0 < length (top_frame rows [])
    alone [] = omega arith
    alone (row ∷ rows) = omega arith
top_is_all (one ∷ others) last stated none = absurd (omega (arith, none))

pub last_at_top : {A : Type 0} (closed : List (Part A)) (last : Part A) → length closed ≡ 0 → first_head closed last ≡ None
    → last.head ≡ None
last_at_top [] last none is = is
last_at_top (one ∷ others) last none is = absurd (omega (arith, none))

-- the spans begin where the frames do
pub spans_begun : (small : List ℕ) (sketch : Spelled) (laid : List Laid) (ops : List OpKind) (found : List held.FrameRows) (spans : List FrameSpan)
    → AllZip (IsSpanOf laid ops) found spans → All (IsBegunAt small sketch) found
    → All (λ span. BeginsFrame small sketch (name_of span.name) span.begin) spans
spans_begun small sketch laid ops [] [] are all = All-nil (λ (span : FrameSpan). BeginsFrame small sketch (name_of span.name) span.begin)
spans_begun small sketch laid ops [] (span ∷ spans) are all = absurd are
spans_begun small sketch laid ops (one ∷ found) [] are all = absurd are
spans_begun small sketch laid ops (one ∷ found) (span ∷ spans) are all =
    All-cons (λ (span : FrameSpan). BeginsFrame small sketch (name_of span.name) span.begin) span spans
    (subst (λ b. BeginsFrame small sketch (name_of span.name) b) (sym are.0.begin)
    (subst (λ n. BeginsFrame small sketch n one.begin) (sym are.0.is.name) (All-head (IsBegunAt small sketch) one found all)))
    (spans_begun small sketch laid ops found spans are.1 (All-tail (IsBegunAt small sketch) one found all))

begun_with : (laid : List Laid) (ops : List OpKind) (found : List held.FrameRows) (spans : List FrameSpan) (i : ℕ)
    (d : held.FrameRows) (e : FrameSpan) → AllZip (IsSpanOf laid ops) found spans → i < length found
    → (get_or spans i e).begin ≡ (get_or found i d).begin
begun_with laid ops [] spans i d e are low = absurd (omega (arith, low))
begun_with laid ops (one ∷ found) [] i d e are low = absurd are
begun_with laid ops (one ∷ found) (span ∷ spans) zero d e are low = are.0.begin
begun_with laid ops (one ∷ found) (span ∷ spans) (suc i) d e are low =
    begun_with laid ops found spans i d e are.1 (omega (arith, low))

-- and in the same order
pub spans_rise : (laid : List Laid) (ops : List OpKind) (found : List held.FrameRows) (spans : List FrameSpan)
    → AllZip (IsSpanOf laid ops) found spans → AllPairs BeginsFirst found
    → AllPairs (λ span next. span.begin.number < next.begin.number) spans
spans_rise laid ops [] spans are rise i j d low high =
    absurd (let long = AllZip-long (IsSpanOf laid ops) [] spans are in omega (arith, high, long))
spans_rise laid ops (one ∷ found) spans are rise i j d low high =
    let long = AllZip-long (IsSpanOf laid ops) (one ∷ found) spans are in
    let here : i < length (one ∷ found) = omega (arith, low, high, long) in
    let there : j < length (one ∷ found) = omega (arith, high, long) in
    let from = ap (λ s. s.number) (begun_with laid ops (one ∷ found) spans i one d are here) in
    let to = ap (λ s. s.number) (begun_with laid ops (one ∷ found) spans j one d are there) in
    let rises = rise i j one low there in
    omega (arith, from, to, rises)

-- ---- the top and the others

rest_is : {X : Type 0} (xs : List X) → take (length xs - 1) (drop 1 xs) ≡ drop 1 xs
rest_is [] = refl
rest_is (x ∷ xs) = take_all (length (x ∷ xs) - 1) xs (omega arith)

cut_first : {A : Type 0} (closed : List (Part A)) (last first : Part A) (found now : List FrameRows) (stated : RomText)
    → 1 ≤ length closed → first ≡ get_or closed 0 first
    → found ≡ rows_at_top (rows_of first.rows.items) ++ filter_map frame_in (map section_in (drop 1 closed))
    → now ≡ found ++ frame_list (head_in last.head) (rows_of last.rows.items)
    → now ≡ frames (sketch_of stated (map section_in closed) (section_in last))
cut_first [] last first found now stated low is were are = absurd (omega arith)
cut_first (one ∷ others) last first found now stated low is were are =
    are ∙ ap (λ l. l ++ frame_list (head_in last.head) (rows_of last.rows.items))
    (were ∙ ap (λ rows. rows_at_top rows ++ filter_map frame_in (map section_in others))
    (ap (λ part. rows_of part.rows.items) is))
    ∙ sym (frames_all stated (section_in one) (map section_in others) (section_in last))

pub frames_joined : {A : Type 0} (closed : List (Part A)) (last first : Part A) (found now : List FrameRows) (stated : RomText)
    → 1 ≤ length closed → first ≡ get_or closed 0 first
    → found ≡ rows_at_top (rows_of first.rows.items)
    ++ filter_map frame_in (map section_in (take (length closed - 1) (drop 1 closed)))
    → now ≡ found ++ frame_list (head_in last.head) (rows_of last.rows.items)
    → now ≡ frames (sketch_of stated (map section_in closed) (section_in last))
frames_joined closed last first found now stated low is were are =
    cut_first closed last first found now stated low is
    (were ∙ ap (λ l. rows_at_top (rows_of first.rows.items) ++ filter_map frame_in (map section_in l)) (rest_is closed)) are

pub first_has : {X : Type 0} (P : X → Type 0) (xs : List X) (x : X) → 1 ≤ length xs → x ≡ get_or xs 0 x → All P xs → P x
first_has P xs x low is all = subst P (sym is) (all 0 x (omega (arith, low)))

after_first : {X : Type 0} (P : X → Type 0) (xs : List X) → 1 ≤ length xs → All P xs → All P (drop 1 xs)
after_first P [] low all = absurd (omega arith)
after_first P (x ∷ xs) low all = λ k d inside. all (suc k) d (omega (arith, inside))

pub others_have : {X : Type 0} (P : X → Type 0) (xs : List X) → 1 ≤ length xs → All P xs
    → All P (take (length xs - 1) (drop 1 xs))
others_have P xs low all = subst (All P) (sym (rest_is xs)) (after_first P xs low all)

-- the top stands before the others
pub top_order : {A : Type 0} (closed : List (Part A)) (first : Part A) → 1 ≤ length closed → first ≡ get_or closed 0 first
    → AreInOrder closed → AreInOrder (first ∷ take (length closed - 1) (drop 1 closed))
top_order [] first low is order = absurd (omega arith)
top_order (one ∷ others) first low is order =
    subst (λ first. AreInOrder (first ∷ take (length (one ∷ others) - 1) others)) (sym is)
    (subst (λ l. AreInOrder (one ∷ l)) (sym (rest_is (one ∷ others))) order)
