use Rattle.std.proofs.Common.{rules, ◌≡◌, ◌∷◌, [], sym, ◌∙◌}
use Rattle.dvg_log.specs.Traces.{seen_as}
use Rattle.dvg_log.specs.declared.event.Event.TheVariants.{Strobe, Tick}
use Rattle.test_facts.proofs.TraceRuns.{first_of, strobe_seen}
use Rattle.test_facts.proofs.worlds.trace_begins_with_its_first_event.Goals as goal
use Rattle.test_facts.proofs.worlds.trace_begins_with_its_first_event.Goals.{in-Strobe, in_default}

pub returns : goal.returns
returns c =
    let run = c.in_ok-run.run' in
    let steps = c.in_ok-run.ensures.steps in
    let all : c.runs.result ≡ Strobe ∷ Tick ∷ [] = search rules in
    let first = strobe_seen run.0 (first_of Strobe (seen_as run.0) (Tick ∷ []) c.next.new.self run.1 steps.1 (sym all ∙ steps.2)) in
    elim c.match-matches.branch [ in-Strobe w ↦ w.matches-is | in_default w ↦ absurd (w.in_default.not-Strobe first) ]
