use Rattle.std.proofs.Common.{length, ap, sym, ◌∙◌}
use Rattle.std.proofs.lemmas.Bool.{eq-eqb, eqb-true}
use Rattle.std.proofs.lemmas.List.{nil_from_length}
use Rattle.dvg_log.proofs.Traces.{count_of}
use Rattle.dvg_log.proofs.trace.Trace.is_empty.Goals as goal

pub returns : goal.returns
returns g c =
    let count = count_of c.self.invariant c.args.self.now c.self.view_is in
    (λ zero. nil_from_length c.args.self.now (sym count ∙ eqb-true c.self.inside.count 0 zero), λ none. eq-eqb c.self.inside.count 0 (count ∙ ap length none))
