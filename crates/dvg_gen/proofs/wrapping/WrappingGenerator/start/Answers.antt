use Rattle.std.proofs.Common.{ap}
use Rattle.dvg_gen.specs.Wrapping.{starts}
use Rattle.dvg_gen.proofs.WrapsAfterHistory.{wrapped_told}
use Rattle.dvg_gen.proofs.wrapping.WrappingGenerator.start.Goals as goal

pub returns-clause-stands : goal.returns-clause-stands
returns-clause-stands g c = λ history low stands.
    wrapped_told c.args.self.now (record { machine = c.start.new.self; registers = c.self.inside.registers })
    c.self.inside.generator history low (ap (λ w. w.machine) c.self.view_is) (ap (λ w. w.registers) c.self.view_is)
    c.start.ensures.stands (λ told kept wraps. starts wraps) stands
