use Rattle.std.proofs.Common.{◌≡◌, refl, ap, sym, ◌∙◌, subst}
use Rattle.std.specs.Prelude.{IsSome, is_some}
use Rattle.dvg_gen.specs.Bytes.{met, word_of}
use Rattle.dvg_log.specs.Entries.{drew_in, entry_by, map_entry}
use Rattle.dvg_log.specs.declared.event.Event.TheVariants.{Fetch}
use Rattle.dvg_log.specs.declared.entry.Entry.TheVariants.{Still}
use Rattle.dvg_world.specs.Standing.{ChangesNothing, DrawsNow}
use Rattle.dvg_world.proofs.Fetching.{fetch_changes, map_entry_by, picture_stays}
use Rattle.dvg_world.proofs.EventsAddLines.{adds_as, adds_between, draws_now, fetch_still, fetch_takes, keeps_headline, on_err, open_of}
use Rattle.dvg_world.proofs.world.World.fetch.Goals as goal

pub returns-in_default-clause-stands : goal.returns-in_default-clause-stands
returns-in_default-clause-stands g c =
    adds_between Fetch Still c.self.view_is (sym c.self.view_is)
    (fetch_still (c.wants.ensures.halted.0 (ap is_some c.in_default.is)))

pub returns-in_default-clause-headline : goal.returns-in_default-clause-headline
returns-in_default-clause-headline g c = keeps_headline Fetch Still (returns-in_default-clause-stands g c)

pub returns-clause-stands : goal.returns-clause-stands
returns-clause-stands g c =
    let address = c.in-Some.address in
    let low = c.low_byte-low.result in
    let byte = c.fetch_byte-byte.result in
    let step = c.in_ok-step.step in
    let picture = c.feed.new.self.picture in
    let shown : map_entry (λ _. picture) c.of_fetch.result ≡ entry_by address (met low byte) step picture =
    ap (map_entry (λ _. picture)) c.of_fetch.ensures ∙ map_entry_by (λ _. picture) address (met low byte) step tt in
    adds_as (sym shown)
    (adds_between Fetch _ c.self.view_is refl
    (fetch_takes address low byte c.is_some.result step picture
    (λ told low after. sym c.in-Some.is ∙ c.wants.ensures.address told low after) c.low_byte-low.ensures
    c.is_some.ensures c.rom.ensures c.fetch_byte-byte.ensures.byte c.in_ok-step.ensures.answers))

pub returns-clause-headline : goal.returns-clause-headline
returns-clause-headline g c = keeps_headline Fetch _ (returns-clause-stands g c)

pub returns-clause-picture : goal.returns-clause-picture
returns-clause-picture g c none =
    let low = c.low_byte-low in
    let byte = c.fetch_byte-byte.result in
    let step = c.in_ok-step.step in
    c.in_ok-step.ensures.picture
    ∙ picture_stays _ c.in-Some.address (met low.result byte) step tt
    (λ done. subst (λ l. IsSome (word_of (met l byte))) (sym low.ensures) (c.in_ok-step.ensures.finished done))
    (sym (ap drew_in c.of_fetch.ensures) ∙ none)
    ∙ ap (λ world. world.machine.picture) c.self.view_is

pub returns-clause-same : goal.returns-clause-same
returns-clause-same g c nothing =
    let found = met c.low_byte-low.result c.fetch_byte-byte.result in
    absurd (fetch_changes c.in-Some.address found c.in_ok-step.step (subst ChangesNothing c.of_fetch.ensures nothing))

pub returns-in_err-step-clause-room : goal.returns-in_err-step-clause-room
returns-in_err-step-clause-room g c =
    let is_open = open_of c.wants.result c.in-Some.address _ c.in-Some.is c.wants.ensures.halted in
    on_err c.from_residual.result (subst DrawsNow c.self.view_is
    (draws_now c.in-Some.address c.low_byte-low.result c.fetch_byte-byte.result c.is_some.result is_open
    (λ told low after. sym c.in-Some.is ∙ c.wants.ensures.address told low after) c.low_byte-low.ensures
    c.is_some.ensures c.rom.ensures c.fetch_byte-byte.ensures.byte
    (λ nothing. let given = c.in_err-step.ensures.room nothing in absurd (cc))))
