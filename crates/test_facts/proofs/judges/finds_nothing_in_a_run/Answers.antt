use Rattle.std.proofs.Common.{map, sym, subst}
use Rattle.dvg_log.specs.Events.{happening_of}
use Rattle.dvg_log.specs.Legal.{IsLegal}
use Rattle.dvg_world.specs.Runs.{log_of}
use Rattle.test_facts.proofs.TornPicture.{is_none_of}
use Rattle.test_facts.proofs.judges.finds_nothing_in_a_run.Goals as goal

pub returns-in-Ok : goal.returns-in-Ok
returns-in-Ok g c =
    let legal = subst (λ entries. IsLegal c.args.rom c.args.image.now (log_of (map happening_of c.args.events.now) entries)) (sym c.as_slice.ensures.value) c.in-Ok.ensures.legal in
    is_none_of c.first_torn.result c.is_none.result c.is_none.ensures (c.first_torn.ensures.legal c.args.rom c.args.image.now legal)

pub returns-in-Err : goal.returns-in-Err
returns-in-Err g c =
    let legal = subst (λ entries. IsLegal c.args.rom c.args.image.now (log_of (map happening_of c.args.events.now) entries)) (sym c.as_slice-in-Err.ensures.value) c.in-Err.ensures.legal in
    is_none_of c.first_torn-in-Err.result c.is_none-in-Err.result c.is_none-in-Err.ensures (c.first_torn-in-Err.ensures.legal c.args.rom c.args.image.now legal)
