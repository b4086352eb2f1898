use Rattle.std.proofs.Common.{◌≡◌, ◌-◌, ◌++◌, drop, ap, ◌∙◌, arith, rules}
use Rattle.dvg_print.proofs.Intensities.{long_end, long_text, short_end, short_text}
use Rattle.dvg_print.proofs.StrokeTexts.{last_put}
use Rattle.dvg_print.proofs.stroke_lines.put_intensity.Goals as goal

pub returns-then-z-lt10-clause-text : goal.returns-then-z-lt10-clause-text
returns-then-z-lt10-clause-text c =
    let rest = drop c.args.end c.args.bytes.now in
    let span : c.args.end - (c.args.end - 4) ≡ 4 = omega (arith, c.requires.room) in
    let put = last_put c.args.bytes.now c.to_le_bytes.result c.args.end 3 4 (search rules) (omega arith) c.requires.room
    (search rules) in
    rw (c.copy_from_slice.ensures.after, span) (
    put ∙ ap (λ text. drop 1 text ++ rest) (c.to_le_bytes.ensures ∙ short_end c.args.z c.if-z-lt10.true)
    ∙ short_text c.args.z rest c.if-z-lt10.true
    )

pub returns-else-z-lt10-clause-text : goal.returns-else-z-lt10-clause-text
returns-else-z-lt10-clause-text c =
    let rest = drop c.args.end c.args.bytes.now in
    let span : c.args.end - (c.args.end - 4) ≡ 4 = omega (arith, c.requires.room) in
    let put = last_put c.args.bytes.now c.to_le_bytes.result c.args.end 4 4 (search rules) (omega arith) c.requires.room
    (search rules) in
    rw (c.copy_from_slice.ensures.after, span) (
    put ∙ ap (λ text. text ++ rest) (c.to_le_bytes.ensures ∙ long_end c.args.z c.if-z-lt10.false c.requires.intensity)
    ∙ long_text c.args.z rest c.if-z-lt10.false c.requires.intensity
    )
