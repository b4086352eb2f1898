use Rattle.std.proofs.Common.{◌≡◌, ◌<◌, ◌∷◌, ◌++◌, [], None, length, refl, arith, rules}
use Rattle.std.proofs.lemmas.Grind.{common_steps}
use Rattle.dvg_log.specs.declared.event.Event.TheVariants.{Offer}
use Rattle.dvg_read.specs.TraceGives.{events_read, opened_of}
use Rattle.dvg_read.proofs.TraceMoves.{end_fits, end_stops, end_taken, end_wants, some_opened}
use Rattle.dvg_log.specs.declared.trace.TheConstants.{MOST_EVENTS}
use Rattle.dvg_read.proofs.trace_text.TraceReading.end_offer.Goals as goal

pub returns-then-len-eq-MOST_EVENTS-clause-fault : goal.returns-then-len-eq-MOST_EVENTS-clause-fault
returns-then-len-eq-MOST_EVENTS-clause-fault g c =
    let reading = c.args.self.now in
    let inside = some_opened reading.is_open reading.draft (search rules) in
    let full : length (events_read reading) ≡ MOST_EVENTS = grind (arith, common_steps) in
    end_stops (events_read reading) (opened_of reading) reading.draft reading.rom inside full

pub returns-then-is_err-clause-fault : goal.returns-then-is_err-clause-fault
returns-then-is_err-clause-fault g c =
    let reading = c.args.self.now in
    let inside = some_opened reading.is_open reading.draft (search rules) in
    let room : length (events_read reading) < MOST_EVENTS = grind (arith, common_steps) in
    end_wants (events_read reading) (opened_of reading) reading.draft reading.rom inside room

pub returns-clause-held : goal.returns-clause-held
returns-clause-held g c =
    let reading = c.args.self.now in
    let inside = some_opened reading.is_open reading.draft (search rules) in
    let pushed : c.push_offer.new.self ≡ events_read reading ++ Offer reading.draft ∷ [] = search rules in
    let room : length (events_read reading) < MOST_EVENTS = grind (arith, common_steps) in
    end_fits (events_read reading) c.push_offer.new.self (opened_of reading) None reading.draft inside refl pushed room c.requires.held

pub returns-clause-taken : goal.returns-clause-taken
returns-clause-taken g c =
    let reading = c.args.self.now in
    let inside = some_opened reading.is_open reading.draft (search rules) in
    let pushed : c.push_offer.new.self ≡ events_read reading ++ Offer reading.draft ∷ [] = search rules in
    end_taken (events_read reading) c.push_offer.new.self (opened_of reading) None reading.draft reading.rom inside refl pushed
