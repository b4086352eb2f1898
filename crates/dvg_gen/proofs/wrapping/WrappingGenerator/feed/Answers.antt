use Rattle.std.proofs.Common.{ap, sym, ◌∙◌}
use Rattle.dvg_gen.proofs.WrapsAfterHistory.{wrapped_fed, wrapped_turn}
use Rattle.dvg_gen.proofs.wrapping.WrappingGenerator.feed.Goals as goal

pub returns-in-Some-clause-answers : goal.returns-in-Some-clause-answers
returns-in-Some-clause-answers g c =
    let turn = c.turn.ensures in
    wrapped_turn c.args.self.now c.turn.new.self c.args.byte c.turn.result c.in-Some.word c.requires
    (sym c.turn_by.ensures ∙ c.in-Some.is) turn.registers turn.jumps turn.in_range turn.moved turn.goes_on

pub returns-in-None-clause-answers : goal.returns-in-None-clause-answers
returns-in-None-clause-answers g c =
    wrapped_fed c.feed.result c.args.self.now (record { machine = c.feed.new.self; registers = c.self.inside.registers })
    c.self.inside.generator c.args.byte c.requires (sym c.turn_by.ensures ∙ c.in-None.is)
    (ap (λ w. w.machine) c.self.view_is) (ap (λ w. w.registers) c.self.view_is) c.feed.ensures.answers
