use Rattle.std.proofs.Common.{codes}
use Rattle.std.proofs.lemmas.Bool.Decides.{Decides-eqb}
use Rattle.std.proofs.lemmas.Slice.Eq.{starts_is}
use Rattle.dvg_rows.proofs.LineCuts.{indent_passed}
use Rattle.dvg_rows.proofs.line_tokens.without_indent.Goals as goal

pub returns-then-starts_with : goal.returns-then-starts_with
returns-then-starts_with c =
    let begins = starts_is Decides-eqb c.args.line.now (codes "        ") c.starts_with.result c.starts_with.ensures.value in
    indent_passed c.args.line.now (begins.0 c.if-starts_with.true)
