-- The texts of a stroke's line, put before one another.
use Rattle.std.proofs.Common.{◌≡◌, ℕ, ◌+◌, ◌-◌, ◌≤◌, List, [], ◌∷◌, ◌++◌, length, take, drop, ap, ◌∙◌, sym}
use Rattle.std.proofs.Common.{arith, append_assoc, append-nil, decimal}
use Rattle.std.proofs.lemmas.List.{drop-drop, drop_at, drop-append-le, length-take-le}
use borrow.Rule.Slice.PartMut.{put_mid}
use Rattle.dvg_gen.specs.declared.stroke.Stroke.{Stroke}
use Rattle.dvg_print.specs.Lines.{spaced}
use Rattle.dvg_print.specs.Shows.{position_text, stroke_line}

-- the last bytes of a text, before a place
pub last_put : (bytes text : List ℕ) (end count width : ℕ) → length text ≡ width → count ≤ width → width ≤ end
    → end ≤ length bytes
    → drop (end - count) (put_mid (end - width) width bytes text) ≡ drop (width - count) text ++ drop end bytes
last_put bytes text end count width size few room inside =
    let from : end - width + (width - count) ≡ end - count = omega arith in
    let past : end - width + width ≡ end = omega arith in
    let all = put_mid (end - width) width bytes text in
    sym (ap (λ n. drop n all) from)
    ∙ sym (drop-drop (width - count) (end - width) all)
    ∙ ap (drop (width - count))
    (drop_at (take (end - width) bytes) (text ++ drop width (drop (end - width) bytes)) (end - width)
    (length-take-le (end - width) bytes (omega arith)))
    ∙ drop-append-le (width - count) text (drop width (drop (end - width) bytes)) (omega (arith, size))
    ∙ ap (λ rest. drop (width - count) text ++ rest) (drop-drop width (end - width) bytes ∙ ap (λ n. drop n bytes) past)

-- the parts of a stroke's line
parts : (a b c d e space last rest : List ℕ)
    → (a ++ (b ++ [])) ++ (space ++ ((c ++ (d ++ [])) ++ ((e ++ []) ++ (last ++ rest))))
    ≡ ((a ++ (b ++ ((space ++ c) ++ (d ++ (e ++ []))))) ++ last) ++ rest
parts a b c d e space last rest = simp (append_assoc, append-nil)

-- a stroke's line, by what was put one before the other
pub stroke_put : (stroke : Stroke) (rest l1 l2 l3 l4 : List ℕ) → l1 ≡ spaced (decimal stroke.z ∷ []) ++ 10 ∷ rest
    → l2 ≡ position_text stroke.x1 stroke.y1 ++ l1 → l3 ≡ 32 ∷ l2 → l4 ≡ position_text stroke.x0 stroke.y0 ++ l3
    → l4 ≡ stroke_line stroke ++ rest
stroke_put stroke rest l1 l2 l3 l4 e1 e2 e3 e4 =
    let begin = position_text stroke.x0 stroke.y0 in
    let end = position_text stroke.x1 stroke.y1 in
    e4 ∙ ap (λ l. begin ++ l) (e3 ∙ ap (λ l. 32 ∷ l) (e2 ∙ ap (λ l. end ++ l) e1))
    ∙ parts (decimal stroke.x0) (32 ∷ decimal stroke.y0) (decimal stroke.x1) (32 ∷ decimal stroke.y1)
    (32 ∷ decimal stroke.z) (32 ∷ []) (10 ∷ []) rest

-- the stroke that stands for one after the end of a list
abbrev pub no_stroke : Stroke
no_stroke = record { x0 = 0; y0 = 0; x1 = 0; y1 = 0; z = 0 }
