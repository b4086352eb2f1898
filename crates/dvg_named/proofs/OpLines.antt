-- The lines of operations, one row and one frame after the other.
use Rattle.std.proofs.Common.{◌≡◌, ◌<◌, ◌+◌, ◌-◌, ℕ, List, [], ◌∷◌, ◌++◌, length, get_or, take, drop, refl, sym, ap, subst, ◌∙◌}
use Rattle.std.proofs.Common.{All, arith, append_assoc, length-take, map, None, Option, Some, suc, Result, Ok, Err, IfOk}
use Rattle.std.specs.List.{AllZip, cons_option}
use Rattle.std.proofs.lemmas.List.{append-nil, length-append, length-drop, take_all, take_more}
use Rattle.std.proofs.lemmas.List.Kept.{AllPairs-cons}
use Rattle.std.proofs.lemmas.List.Elements.{All-cons, All-head, All-nil, All-tail}
use Rattle.std.proofs.lemmas.Slice.Zip.{AllZip-long}
use Rattle.dvg_frame.specs.declared.op.OpKind.{OpKind}
use Rattle.dvg_named.specs.declared.frame_rows.FrameRows as held_frame
use Rattle.dvg_named.specs.declared.joining.FrameSpan.{FrameSpan}
use Rattle.dvg_rows.specs.declared.source.Source.{Source}
use Rattle.dvg_rows.specs.declared.row.Doing as held_doing
use Rattle.dvg_rows.specs.declared.row.Row as held
use Rattle.dvg_named.specs.FlatFrames.{IsSpanOf}
use Rattle.dvg_named.specs.FrameValues.{IsFrameAt, frame_held, frames_of}
use Rattle.dvg_rows.specs.HeldRows.{rows_of}
use Rattle.dvg_named.specs.OpSources.{AreLinesOf, HasRowLines, IsDoneAt, line_kept, lines_at, op_sources}
use Rattle.dvg_named.specs.Places.{Laid}
use Rattle.dvg_rows.specs.RowPlaces.{doings}
use Rattle.dvg_named.specs.ReadSketches.{IsInside, StandsIn, joined_at}
use Rattle.dvg_rows.specs.RowValues.{doing_of_some, row_of}
use Rattle.dvg_named.specs.SourcedRows.{IsInSection, IsRowAt, Rise}
use Rattle.dvg_named.proofs.FlatSpans.{cut_front, drop_front}

-- a row more
op_push : (rows : List held.Row) (sources : List Source) (row : held.Row) (d : Source) → length rows < length sources
    → op_sources (rows ++ row ∷ []) sources ≡ op_sources rows sources ++ line_kept row.doing (get_or sources (length rows) d)
op_push [] [] row d low = absurd (omega (arith, low))
op_push [] (s ∷ sources) row d low = append-nil (line_kept row.doing s)
op_push (r ∷ rows) [] row d low = absurd (omega (arith, low))
op_push (r ∷ rows) (s ∷ sources) row d low =
    ap (λ l. line_kept r.doing s ++ l) (op_push rows sources row d (omega (arith, low)))
    ∙ sym (append_assoc (line_kept r.doing s) (op_sources rows sources) (line_kept row.doing (get_or sources (length rows) d)))

pub line_pushed : (rows : List held.Row) (sources : List Source) (i : ℕ) (row : held.Row) (d : Source) (old new before : List Source)
    → length rows ≡ length sources → i < length rows → row ≡ get_or rows i row
    → new ≡ old ++ line_kept row.doing (get_or sources i d) → old ≡ before ++ op_sources (take i rows) sources
    → new ≡ before ++ op_sources (take (i + 1) rows) sources
line_pushed rows sources i row d old new before same low is more so_far =
    let size : length (take i rows) ≡ i = omega (arith, length-take i rows, low) in
    let last = line_kept row.doing (get_or sources i d) in
    more ∙ ap (λ l. l ++ last) so_far ∙ append_assoc before (op_sources (take i rows) sources) last
    ∙ ap (λ l. before ++ l) (sym (ap (λ l. op_sources l sources) (take_more rows i row low ∙ ap (λ r. take i rows ++ r ∷ []) (sym is))
    ∙ op_push (take i rows) sources row d (omega (arith, size, same, low))
    ∙ ap (λ n. op_sources (take i rows) sources ++ line_kept row.doing (get_or sources n d)) size))

-- as many lines as operations
pub op_count : (rows : List held.Row) (sources : List Source) → length rows ≡ length sources
    → length (op_sources rows sources) ≡ length (doings (rows_of rows))
op_count [] sources same = refl
op_count (row ∷ rows) [] same = absurd (omega (arith, same))
op_count (row ∷ rows) (source ∷ sources) same = one row.doing (op_count rows sources (omega (arith, same)))
  where
    one : (does : Option held_doing.Doing) → length (op_sources rows sources) ≡ length (doings (rows_of rows))
        → length (line_kept does source ++ op_sources rows sources) ≡ length (cons_option (doing_of_some does) (doings (rows_of rows)))
    one None rest = rest
    one (Some doing) rest = ap suc rest

-- each operation stands in its line
pub done_all : (small : List ℕ) (rows : List held.Row) (sources : List Source) → AllZip (IsRowAt small) rows sources
    → AllZip (IsDoneAt small) (doings (rows_of rows)) (op_sources rows sources)
done_all small [] [] all = tt
done_all small [] (source ∷ sources) all = tt
done_all small (row ∷ rows) [] all = absurd all
done_all small (row ∷ rows) (source ∷ sources) all = one row.doing refl (done_all small rows sources all.1)
  where
    one : (does : Option held_doing.Doing) → row.doing ≡ does
        → AllZip (IsDoneAt small) (doings (rows_of rows)) (op_sources rows sources)
        → AllZip (IsDoneAt small) (cons_option (doing_of_some does) (doings (rows_of rows)))
        (line_kept does source ++ op_sources rows sources)
    one None e rest = rest
    one (Some doing) e rest = (record { at = all.0.at; row = row_of row; spelled = all.0.spelled; does = ap doing_of_some e }, rest)

-- what holds of the lines of all rows holds of those of the operations
all_ops : (P : Source → Type 0) (rows : List held.Row) (sources : List Source) → All P sources → All P (op_sources rows sources)
all_ops P [] sources all = All-nil P
all_ops P (row ∷ rows) [] all = All-nil P
all_ops P (row ∷ rows) (source ∷ sources) all = one row.doing (all_ops P rows sources (All-tail P source sources all))
  where
    one : (does : Option held_doing.Doing) → All P (op_sources rows sources)
        → All P (line_kept does source ++ op_sources rows sources)
    one None rest = rest
    one (Some doing) rest = All-cons P source (op_sources rows sources) (All-head P source sources all) rest

-- and these are in order, too
ops_rise : (rows : List held.Row) (sources : List Source) → Rise sources → Rise (op_sources rows sources)
ops_rise [] sources all = λ i j d low high. absurd (omega (arith, high))
ops_rise (row ∷ rows) [] all = λ i j d low high. absurd (omega (arith, high))
ops_rise (row ∷ rows) (source ∷ sources) all =
    one row.doing (ops_rise rows sources (λ i j d low high. all (suc i) (suc j) d (omega (arith, low)) (omega (arith, high))))
  where
    later : All (λ next. source.number < next.number) sources
    later = λ k d low. all 0 (suc k) d (omega arith) (omega (arith, low))

    one : (does : Option held_doing.Doing) → Rise (op_sources rows sources) → Rise (line_kept does source ++ op_sources rows sources)
    one None rest = rest
    one (Some doing) rest =
        AllPairs-cons (λ source next. source.number < next.number) source (op_sources rows sources)
        (all_ops (λ next. source.number < next.number) rows sources later) rest

-- ---- a frame more

line_more : (sources more : List Source) (frame : held_frame.FrameRows) (span : FrameSpan) → AreLinesOf sources frame span
    → AreLinesOf (sources ++ more) frame span
line_more sources more frame span h =
    let from = h.from in
    let to = h.to in
    record {
      from = from;
      to = omega (arith, to, length-append sources more);
      are = cut_front span.start (span.end - span.start) sources more (omega (arith, from, to)) ∙ h.are;
    }

lines_more : (sources more : List Source) (frames : List held_frame.FrameRows) (spans : List FrameSpan)
    → AllZip (AreLinesOf sources) frames spans → AllZip (AreLinesOf (sources ++ more)) frames spans
lines_more sources more [] [] h = tt
lines_more sources more [] (span ∷ spans) h = absurd h
lines_more sources more (frame ∷ frames) [] h = absurd h
lines_more sources more (frame ∷ frames) (span ∷ spans) h =
    (line_more sources more frame span h.0, lines_more sources more frames spans h.1)

pub lines_grown : (old new more : List Source) (frames : List held_frame.FrameRows) (spans : List FrameSpan) → new ≡ old ++ more
    → AllZip (AreLinesOf old) frames spans → AllZip (AreLinesOf new) frames spans
lines_grown old new more frames spans e h =
    subst (λ sources. AllZip (AreLinesOf sources) frames spans) (sym e) (lines_more old more frames spans h)

-- the lines of a frame, after others
pub lines_here : (old new : List Source) (frame : held_frame.FrameRows) (span : FrameSpan)
    → new ≡ old ++ op_sources frame.rows.now frame.sources.now → span.start ≡ length old → span.end ≡ length new
    → AreLinesOf new frame span
lines_here old new frame span grown start end =
    let lines = op_sources frame.rows.now frame.sources.now in
    let size = ap length grown in
    record {
      from = omega (arith, size, start, end, length-append old lines);
      to = omega (arith, end);
      are = ap (λ s. take (span.end - span.start) (drop s new)) start
          ∙ ap (λ l. take (span.end - span.start) (drop (length old) l)) grown
          ∙ ap (take (span.end - span.start)) (drop_front old lines)
          ∙ take_all (span.end - span.start) lines (omega (arith, size, start, end, length-append old lines));
    }

-- the operations of a frame are as many as their lines
pub span_count : (laid : List Laid) (ops : List OpKind) (frame : held_frame.FrameRows) (span : FrameSpan) → HasRowLines frame
    → IsSpanOf laid ops frame span → span.end ≡ span.start + length (op_sources frame.rows.now frame.sources.now)
span_count laid ops frame span same h =
    let here = take (span.end - span.start) (drop span.start ops) in
    let long = AllZip-long _ _ here h.is.draft in
    let count = op_count frame.rows.now frame.sources.now same in
    let from = h.from in
    let to = h.to in
    omega (arith, long, count, from, to, length-take (span.end - span.start) (drop span.start ops), length-drop span.start ops)

-- so many lines and operations there are
pub insides : (laid : List Laid) (ops : List OpKind) (sources : List Source) (frames : List held_frame.FrameRows) (spans : List FrameSpan)
    → AllZip (IsSpanOf laid ops) frames spans → AllZip (AreLinesOf sources) frames spans → All (IsInside ops sources) spans
insides laid ops sources [] [] are lines = All-nil (IsInside ops sources)
insides laid ops sources [] (span ∷ spans) are lines = absurd are
insides laid ops sources (frame ∷ frames) [] are lines = absurd are
insides laid ops sources (frame ∷ frames) (span ∷ spans) are lines =
    All-cons (IsInside ops sources) span spans (record { from = are.0.from; to = are.0.to; lines = lines.0.to })
    (insides laid ops sources frames spans are.1 lines.1)

-- each operation of the frame stands in its line
stands_in : (small : List ℕ) (ops : List OpKind) (sources : List Source) (frame : held_frame.FrameRows) (span : FrameSpan)
    → IsFrameAt small frame → AreLinesOf sources frame span → span.begin ≡ frame.begin
    → StandsIn small (frame_held frame) (joined_at ops sources span)
stands_in small ops sources frame span at lines begin =
    let rows = frame.rows.now in
    let held = frame.sources.now in
    record {
      does = subst (AllZip (IsDoneAt small) (doings (rows_of rows))) (sym lines.are) (done_all small rows held at.rows);
      rise = subst Rise (sym lines.are) (ops_rise rows held at.rise);
      inside = subst (λ begin. All (IsInSection small begin) (lines_at sources span)) (sym begin)
          (subst (All (IsInSection small frame.begin)) (sym lines.are)
          (all_ops (IsInSection small frame.begin) rows held at.inside));
    }

-- so it is of each frame
pub stand_in : (small : List ℕ) (laid : List Laid) (ops : List OpKind) (sources : List Source)
    (found : List held_frame.FrameRows) (spans : List FrameSpan)
    → All (IsFrameAt small) found → AllZip (IsSpanOf laid ops) found spans → AllZip (AreLinesOf sources) found spans
    → AllZip (StandsIn small) (frames_of found) (map (joined_at ops sources) spans)
stand_in small laid ops sources [] [] all are lines = tt
stand_in small laid ops sources [] (span ∷ spans) all are lines = absurd lines
stand_in small laid ops sources (frame ∷ found) [] all are lines = absurd lines
stand_in small laid ops sources (frame ∷ found) (span ∷ spans) all are lines = (
  stands_in small ops sources frame span (All-head (IsFrameAt small) frame found all) lines.0 are.0.begin,
  stand_in small laid ops sources found spans (All-tail (IsFrameAt small) frame found all) are.1 lines.1,
)

-- each row of each frame has a line
pub row_lines : (small : List ℕ) (found : List held_frame.FrameRows) → All (IsFrameAt small) found → All HasRowLines found
row_lines small [] all = All-nil HasRowLines
row_lines small (frame ∷ found) all =
    All-cons HasRowLines frame found (sym (AllZip-long (IsRowAt small) frame.rows.now frame.sources.now (All-head (IsFrameAt small) frame found all).rows))
    (row_lines small found (All-tail (IsFrameAt small) frame found all))

-- what follows from two facts of an answer
pub both_ok : {T E : Type 0} {P Q R : T → Type 0} (answer : Result T E) → IfOk answer P → IfOk answer Q
    → ((value : T) → P value → Q value → R value) → IfOk answer R
both_ok (Ok value) p q follows = follows value p q
both_ok (Err fault) p q follows = tt
