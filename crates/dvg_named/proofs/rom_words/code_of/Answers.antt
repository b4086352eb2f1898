use Rattle.std.proofs.Common.{◌≡◌, ◌∙◌, ap, subst, sym}
use Rattle.dvg_named.specs.LaidValues.{laid_sections}
use Rattle.dvg_named.specs.Meanings.{IsEncoded}
use Rattle.dvg_rows.specs.RowValues.{doing_of}
use Rattle.dvg_rows.specs.Rows.{plainly}
use Rattle.dvg_named.proofs.rom_words.code_of.Goals as goal

pub plain_code-requires-clause-may : goal.plain_code-requires-clause-may
plain_code-requires-clause-may g c n =
    let plain : doing_of c.args.doing.now ≡ plainly c.kind.result =
    ap doing_of c.in-Plainly.is ∙ ap plainly (sym c.kind.ensures.value) in
    (λ e. (c.requires.may n).0 (plain ∙ e), λ e. (c.requires.may n).1 (plain ∙ e))

pub returns-in-Plainly-clause-encoded : goal.returns-in-Plainly-clause-encoded
returns-in-Plainly-clause-encoded g c =
    let plain : doing_of c.args.doing.now ≡ plainly c.kind.result =
    ap doing_of c.in-Plainly.is ∙ ap plainly (sym c.kind.ensures.value) in
    subst (λ doing. IsEncoded (laid_sections c.args.sections.now) doing c.plain_code.result) (sym plain)
    (c.plain_code.ensures (laid_sections c.args.sections.now))
