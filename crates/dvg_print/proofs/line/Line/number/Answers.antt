use Rattle.std.proofs.Common.{◌≡◌, ◌∷◌, [], ◌++◌, length, ap, ◌∙◌, arith}
use Rattle.dvg_print.specs.Lines.{spaced}
use Rattle.dvg_print.proofs.line.Line.number.Goals as goal

pub part-requires : goal.part-requires
part-requires g c = let same : length c.as_bytes.result.now ≡ length c.format.result.now = ap length c.as_bytes.ensures.value in omega arith

pub returns-clause-text : goal.returns-clause-text
returns-clause-text g c = c.part.ensures.text ∙ ap (λ text. c.args.self.now ++ spaced (text ∷ [])) (c.as_bytes.ensures.value ∙ c.format.ensures.text)

pub returns-clause-grew : goal.returns-clause-grew
returns-clause-grew g c = let same : length c.as_bytes.result.now ≡ length c.format.result.now = ap length c.as_bytes.ensures.value in omega arith
