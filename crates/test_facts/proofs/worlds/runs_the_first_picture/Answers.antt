use Rattle.std.proofs.Common.{subst, length, ◌∙◌, ap, sym}
use Rattle.std.proofs.lemmas.List.{length-map}
use Rattle.dvg_log.specs.Events.{happening_of}
use Rattle.dvg_log.specs.Legal.{IsLegal}
use Rattle.dvg_world.specs.Runs.{log_of}
use Rattle.test_facts.specs.Facts.{first_picture_events}
use Rattle.dvg_tool.specs.Plays.{zeros}
use Rattle.test_facts.proofs.FirstPicture.{first_picture_is}
use Rattle.test_facts.proofs.worlds.runs_the_first_picture.Goals as goal

pub returns-in-Ok : goal.returns-in-Ok
returns-in-Ok c =
    let entries = c.in-Ok.entries.items in
    let a = subst (λ events. IsLegal c.args.rom c.args.image.now (log_of events entries)) c.requires.events c.in-Ok.ensures.legal in
    let b = subst (λ R. IsLegal R c.args.image.now (log_of first_picture_events entries)) c.requires.rom a in
    let d = subst (λ image. IsLegal zeros image (log_of first_picture_events entries)) c.requires.image b in
    first_picture_is entries (c.in-Ok.ensures.whole ∙ sym (length-map _ happening_of) ∙ ap length c.requires.events) d
