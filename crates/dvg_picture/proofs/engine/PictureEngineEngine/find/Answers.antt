use Rattle.std.proofs.Common.{IfOk, subst}
use Rattle.dvg_dump.specs.Endings.{end_of}
use Rattle.dvg_picture.specs.Pictures.{IsRunOf}
use Rattle.dvg_picture.specs.Texts.{traces}
use Rattle.dvg_picture.proofs.PictureOfInput.{finds}
use Rattle.dvg_picture.proofs.engine.PictureEngineEngine.find.Goals as goal

pub returns : goal.returns
returns g c =
    let run = subst (λ recorded. IfOk c.run_dump.result (λ run. IsRunOf recorded c.args.read.now run.ran.items (end_of run.ending))) c.traces.ensures c.run_dump.ensures.run in
    finds (traces c.args.self.now.form) c.args.read.now c.run_dump.result run c.run_dump.ensures.fault
