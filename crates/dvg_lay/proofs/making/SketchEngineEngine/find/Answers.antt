use Rattle.std.proofs.Common.{◌∙◌, sym}
use Rattle.dvg_named.specs.ReadSketches.{IsReadOf}
use Rattle.dvg_lay.specs.Sketches.{ComesOf}
use Rattle.dvg_lay.proofs.SketchesLaid.{found, unread}
use Rattle.dvg_lay.proofs.making.SketchEngineEngine.find.Goals as goal

pub make_read-requires-clause-read : goal.make_read-requires-clause-read
make_read-requires-clause-read g c =
    (c.args.read.now, c.in-Ok-read_sketch.ensures.read c.args.read.now (sym (c.as_slice.ensures.value ∙ c.in-Ok.ensures.ok)))

pub returns-in-Ok-read_sketch : goal.returns-in-Ok-read_sketch
returns-in-Ok-read_sketch g c input e =
    found (λ text. IsReadOf text c.in-Ok-read_sketch.sketch) (ComesOf (g.M.Making.Comes c.args.self.now.making))
    (λ text made out. out.is.denotes.short) c.make_read.result c.args.read.now input e c.make_read.ensures.made c.make_read.ensures.fault
    (c.in-Ok-read_sketch.ensures.read c.args.read.now (sym (c.as_slice.ensures.value ∙ c.in-Ok.ensures.ok)))

pub returns : goal.returns
returns g c input e =
    unread (ComesOf (g.M.Making.Comes c.args.self.now.making) input) c.in-Err.stop c.args.read.now input e
    (c.in-Err.ensures.fault c.args.read.now (sym (c.as_slice.ensures.value ∙ c.in-Ok.ensures.ok)))
