-- Where the operations of frames stand in one list, with a frame more.
use Rattle.std.proofs.Common.{◌≡◌, ◌≤◌, ◌-◌, ◌+◌, ℕ, List, [], ◌∷◌, ◌++◌, length, take, drop, refl, sym, ap, subst, arith, suc, zero, length-append}
use Rattle.std.specs.List.{AllZip}
use Rattle.dvg_frame.specs.declared.op.OpKind.{OpKind}
use Rattle.dvg_named.specs.declared.joining.FrameSpan.{FrameSpan}
use Rattle.dvg_named.specs.declared.frame_rows.FrameRows as held
use Rattle.dvg_named.specs.FlatFrames.{IsSpanOf}
use Rattle.dvg_rows.specs.HeldRows.{rows_of}
use Rattle.dvg_named.specs.Meanings.{IsDrafted}
use Rattle.dvg_named.specs.Places.{Laid}
use Rattle.dvg_rows.specs.RowPlaces.{doings}

pub drop_front : {X : Type 0} (xs ys : List X) → drop (length xs) (xs ++ ys) ≡ ys
drop_front [] ys = refl
drop_front (x ∷ xs) ys = drop_front xs ys

take_front : {X : Type 0} (n : ℕ) (xs ys : List X) → n ≤ length xs → take n (xs ++ ys) ≡ take n xs
take_front zero xs ys low = refl
take_front (suc n) [] ys low = absurd (omega (arith, low))
take_front (suc n) (x ∷ xs) ys low = ap (λ l. x ∷ l) (take_front n xs ys (omega (arith, low)))

-- what stands before the end of the first of two lists
pub cut_front : {X : Type 0} (s n : ℕ) (xs ys : List X) → s + n ≤ length xs → take n (drop s (xs ++ ys)) ≡ take n (drop s xs)
cut_front zero n xs ys low = take_front n xs ys (omega (arith, low))
cut_front (suc s) n [] ys low = absurd (omega (arith, low))
cut_front (suc s) n (x ∷ xs) ys low = cut_front s n xs ys (omega (arith, low))

span_more : (laid : List Laid) (ops more : List OpKind) (frame : held.FrameRows) (span : FrameSpan) → IsSpanOf laid ops frame span
    → IsSpanOf laid (ops ++ more) frame span
span_more laid ops more frame span h =
    let from = h.from in
    let to = h.to in
    record {
      from = from;
      to = omega (arith, to, length-append ops more);
      begin = h.begin;
      is = record {
        name = h.is.name;
        draft = subst (AllZip (IsDrafted laid (rows_of frame.rows.now)) (doings (rows_of frame.rows.now)))
            (sym (cut_front span.start (span.end - span.start) ops more (omega (arith, from, to)))) h.is.draft;
      };
    }

spans_more : (laid : List Laid) (ops more : List OpKind) (frames : List held.FrameRows) (spans : List FrameSpan)
    → AllZip (IsSpanOf laid ops) frames spans → AllZip (IsSpanOf laid (ops ++ more)) frames spans
spans_more laid ops more [] [] h = tt
spans_more laid ops more [] (span ∷ spans) h = absurd h
spans_more laid ops more (frame ∷ frames) [] h = absurd h
spans_more laid ops more (frame ∷ frames) (span ∷ spans) h =
    (span_more laid ops more frame span h.0, spans_more laid ops more frames spans h.1)

pub spans_grown : (laid : List Laid) (old new more : List OpKind) (frames : List held.FrameRows) (spans : List FrameSpan)
    → new ≡ old ++ more → AllZip (IsSpanOf laid old) frames spans → AllZip (IsSpanOf laid new) frames spans
spans_grown laid old new more frames spans e h =
    subst (λ ops. AllZip (IsSpanOf laid ops) frames spans) (sym e) (spans_more laid old more frames spans h)
