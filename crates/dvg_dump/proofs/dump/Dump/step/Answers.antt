use Rattle.std.proofs.Common.{ap, sym, ◌∙◌}
use Rattle.dvg_dump.specs.Memory.{memory_of}
use Rattle.dvg_dump.proofs.OneWordMore.{steps}
use Rattle.dvg_dump.proofs.dump.Dump.step.Goals as goal

pub returns-clause-steps : goal.returns-clause-steps
returns-clause-steps g c =
    steps c.take_word.result (memory_of c.args.self.now) c.args.address c.fetch-word.result c.args.generator.now c.take_word.new.generator c.args.tracer.now c.take.new.self
    (ap (λ dump. memory_of dump c.args.address) (sym c.self.view_is) ∙ sym c.fetch-word.ensures.word) c.in_ok-take.ensures.traces c.take_word.ensures.takes
