use Rattle.std.proofs.Common.{◌≡◌, List, [], Some, codes, ap, sym, subst, rules}
use Rattle.dvg_log.specs.Events.{Happening}
use Rattle.dvg_read.specs.EventLines.{happenings}
use Rattle.dvg_read.specs.Texts.{parts}
use Rattle.dvg_read.specs.TraceTexts.{EventParts, FitsTrace}
use Rattle.dvg_read.specs.TraceGives.{events_read, opened_of}
use Rattle.dvg_read.proofs.TraceMoves.{events_fit, events_stop, events_taken, none_opened, offer_fits, offer_taken, outside_stops, rom_taken}
use Rattle.dvg_read.proofs.EventRows.{some_events}
use Rattle.dvg_read.proofs.trace_text.TraceReading.take_outside.Goals as goal
use Rattle.dvg_read.proofs.trace_text.TraceReading.take_outside.Goals.{else-is_empty-via-else-is_empty, else-is_empty-via-then-is_empty+else-take}
use Rattle.dvg_read.specs.RomTexts.{RomText}
use Rattle.dvg_read.specs.RomReading.{HoldsRom, TellsRom}

pub returns-then-is_offer-clause-taken : goal.returns-then-is_offer-clause-taken
returns-then-is_offer-clause-taken g c =
    let reading = c.args.self.now in
    let named : c.args.line.now ≡ codes "offer" = search rules in
    offer_taken (events_read reading) (opened_of reading) (Some c.clear.new.self) c.args.line.now reading.rom (none_opened reading.is_open reading.draft c.requires.outside) named (ap Some c.clear.ensures)

pub returns-then-is_offer-clause-held : goal.returns-then-is_offer-clause-held
returns-then-is_offer-clause-held g c =
    let reading = c.args.self.now in
    subst (λ F. FitsTrace (events_read reading) (Some F)) (sym c.clear.ensures) (offer_fits (events_read reading) (opened_of reading) c.requires.held)

pub returns-in-Some-clause-taken : goal.returns-in-Some-clause-taken
returns-in-Some-clause-taken g c =
    events_taken c.add_events.result (events_read c.args.self.now) (happenings c.in-Some.repeated) c.add_events.new.events (opened_of c.args.self.now) c.args.line.now c.args.self.now.rom (none_opened c.args.self.now.is_open c.args.self.now.draft c.requires.outside) c.in-Some.ensures.found c.add_events.ensures.added

pub returns-in-Some-clause-held : goal.returns-in-Some-clause-held
returns-in-Some-clause-held g c =
    events_fit c.add_events.result (events_read c.args.self.now) (happenings c.in-Some.repeated) c.add_events.new.events (opened_of c.args.self.now) (parts c.args.line.now) c.in-Some.ensures.found c.add_events.ensures.added c.add_events.ensures.room c.requires.held

pub returns-in-Some-clause-fault : goal.returns-in-Some-clause-fault
returns-in-Some-clause-fault g c = events_stop c.add_events.result (events_read c.args.self.now) (happenings c.in-Some.repeated) (opened_of c.args.self.now) c.args.line.now c.args.self.now.rom (none_opened c.args.self.now.is_open c.args.self.now.draft c.requires.outside) c.in-Some.ensures.found c.add_events.ensures.fault

pub returns-then-take-clause-taken : goal.returns-then-take-clause-taken
returns-then-take-clause-taken g c =
    let none : events_read c.args.self.now ≡ [] = c.is_empty.ensures.0 (search rules) in
    rom_taken (events_read c.args.self.now) (opened_of c.args.self.now) c.args.line.now c.args.self.now.rom c.take.new.self none (none_opened c.args.self.now.is_open c.args.self.now.draft c.requires.outside) (c.take.ensures.took (search rules))

pub returns-clause-fault : goal.returns-clause-fault
returns-clause-fault g c =
    let other : c.args.line.now ≡ codes "offer" → ⊥ = search rules in
    let no_events : (more : List Happening) → EventParts more (parts c.args.line.now) → ⊥ = λ more p. let answered = c.in_default.ensures.only more p in search rules in
    let no_rom : events_read c.args.self.now ≡ [] → (rom now : RomText) → HoldsRom rom c.args.self.now.rom → TellsRom rom c.args.line.now now → ⊥ =
    elim c.else-is_empty.branch [
      | else-is_empty-via-else-is_empty w ↦ λ none rom now holds tells. let some = c.is_empty.ensures.1 none in let is = w.if-is_empty.false in absurd cc
      | else-is_empty-via-then-is_empty+else-take w ↦ λ none rom now holds. w.take.ensures.refused (search rules) rom now holds
    ] in
    outside_stops (events_read c.args.self.now) (opened_of c.args.self.now) c.args.line.now c.args.self.now.rom (none_opened c.args.self.now.is_open c.args.self.now.draft c.requires.outside) other no_events no_rom

pub add_events-requires : goal.add_events-requires
add_events-requires g c = some_events c.in-Some.ensures.found
