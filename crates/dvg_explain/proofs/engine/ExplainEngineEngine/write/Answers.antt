use Rattle.std.proofs.Common.{◌++◌, ap₂, subst}
use Rattle.dvg_io.specs.Watching.{Writes}
use Rattle.dvg_explain.proofs.engine.ExplainEngineEngine.write.Goals as goal

pub returns : goal.returns
returns g c =
    subst (λ text. Writes g.W.Write.contents text c.write_told.result c.args.writer.now c.write_told.new.writer)
    (ap₂ (λ text last. text ++ last) c.as_slice.ensures.value c.last.ensures) c.write_told.ensures
