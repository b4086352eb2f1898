use Rattle.std.proofs.Common.{[]}
use Rattle.dvg_gen.specs.Wrapping.{new}
use Rattle.dvg_gen.proofs.wrapping.WrappingGenerator.new.Goals as goal

pub returns-clause-stands : goal.returns-clause-stands
returns-clause-stands g c = record { told = []; wraps = new; after = c.new.ensures.stands }
