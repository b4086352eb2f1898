-- What one more line makes of a trace that is read.
use Rattle.std.proofs.Common.{◌≡◌, ◌<◌, ◌≤◌, ℕ, zero, suc, List, [], ◌∷◌, ◌++◌, length, replicate, refl, sym, subst, arith, length-append, codes, All, Option, Some, None, Result, Ok, Err, OnOk, IfErr, Bool, true, false}
use Rattle.std.proofs.lemmas.Option.{none-some}
use Rattle.std.proofs.lemmas.List.Elements.{All-append, All-replicate}
use Rattle.dvg_frame.specs.declared.op.OpKind.{OpKind}
use Rattle.dvg_log.specs.Events.{Happening}
use Rattle.dvg_log.specs.declared.event.Event.TheVariants.{Offer, Redraw, Tick, Strobe, Fetch, ResetGen, ResetCpu, ResetAll}
use Rattle.dvg_read.specs.declared.fault.LineFault.{LineFault}
use Rattle.dvg_read.specs.declared.fault.LineFault.TheVariants.{Syntax, Full, Many, Memory}
use Rattle.dvg_read.specs.Texts.{parts}
use Rattle.dvg_read.specs.OpLines.{IsOpLine}
use Rattle.dvg_read.specs.RomTexts.{RomText}
use Rattle.dvg_read.specs.declared.rom_text.RomReading.{RomReading}
use Rattle.dvg_read.specs.RomReading.{HoldsRom, TellsMore, TellsRom}
use Rattle.dvg_read.specs.TraceTexts.{EventParts, FitsTrace, FitsDraft, redraw, tick, strobe, fetch, resetgen, resetcpu, resetall}
use Rattle.dvg_read.specs.TraceReading.{Takes, does, ends, events, opens, tells}
use Rattle.dvg_read.specs.TraceGives.{StopsEvents, StopsLine, StopsOperation, TakesLine, opened_by}
use Rattle.dvg_read.proofs.EventRows.{some_events}
use Rattle.dvg_log.specs.declared.trace.TheConstants.{MOST_EVENTS}

pub all_one : {A : Type 0} (P : A → Type 0) (y : A) → P y → All P (y ∷ [])
all_one P y h zero d l = h
all_one P y h (suc k) d l = absurd (omega arith)

-- whether an offer is open
pub none_opened : (b : Bool) (F : List OpKind) → b ≡ false → opened_by b F ≡ None
none_opened b F e = rw e refl

pub some_opened : (b : Bool) (F : List OpKind) → b ≡ true → opened_by b F ≡ Some F
some_opened b F e = rw e refl

-- an offer that is open has room in its draft
pub inside_room : (old : List Happening) (opened : Option (List OpKind)) (F : List OpKind) → opened ≡ Some F
    → FitsTrace old opened → length F ≤ 511
inside_room old opened F e fits = let inside = rw e at fits in inside.last

-- and with another draft
pub inside_fits : (old : List Happening) (opened left : Option (List OpKind)) (G : List OpKind) → left ≡ Some G
    → length G ≤ 511 → FitsTrace old opened → FitsTrace old left
inside_fits old opened left G e few fits = rw e (record { count = fits.count; drafts = fits.drafts; last = few })

-- the end of an offer

pub end_taken : (old new : List Happening) (opened left : Option (List OpKind)) (F : List OpKind) (held : RomReading) → opened ≡ Some F → left ≡ None → new ≡ old ++ Offer F ∷ []
    → (rom : RomText) → HoldsRom rom held → TakesLine rom old opened (codes "end") new left held
end_taken old new opened left F held e f g rom holds = record { now = rom; takes = rw (e, f, g) ends; holds = holds }

pub end_fits : (old new : List Happening) (opened left : Option (List OpKind)) (F : List OpKind) → opened ≡ Some F → left ≡ None → new ≡ old ++ Offer F ∷ [] → length old < MOST_EVENTS → FitsTrace old opened → FitsTrace new left
end_fits old new opened left F e f g room fits =
    let inside = rw e at fits in
    let last : length F ≤ 511 = inside.last in
    rw (f, g) (record { count = omega (arith, length-append old (Offer F ∷ [])); drafts = All-append FitsDraft old (Offer F ∷ []) fits.drafts (all_one FitsDraft (Offer F) last); last = tt })

pub end_stops : (old : List Happening) (opened : Option (List OpKind)) (F : List OpKind) (held : RomReading) → opened ≡ Some F → length old ≡ MOST_EVENTS → StopsLine Many old opened held (codes "end")
end_stops old opened F held e full = rw e (old ++ Offer F ∷ [], omega (arith, length-append old (Offer F ∷ [])), λ rom. ends)

-- memory is wanted for an offer that fits
pub end_wants : (old : List Happening) (opened : Option (List OpKind)) (F : List OpKind) (held : RomReading) → opened ≡ Some F → length old < MOST_EVENTS → StopsLine Memory old opened held (codes "end")
end_wants old opened F held e room =
    let count = length-append old (Offer F ∷ []) in
    rw e (old ++ Offer F ∷ [], omega (arith, count), omega (arith, count, room), λ rom. ends)

-- where no offer is open

pub offer_taken : (old : List Happening) (opened left : Option (List OpKind)) (l : List ℕ) (held : RomReading) → opened ≡ None → l ≡ codes "offer" → left ≡ Some []
    → (rom : RomText) → HoldsRom rom held → TakesLine rom old opened l old left held
offer_taken old opened left l held e is f rom holds = record { now = rom; takes = rw (e, is, f) opens; holds = holds }

pub offer_fits : (old : List Happening) (opened : Option (List OpKind)) → FitsTrace old opened → FitsTrace old (Some [])
offer_fits old opened fits = record { count = fits.count; drafts = fits.drafts; last = omega arith }

pub events_taken : {A E : Type 0} (answer : Result A E) (old more new : List Happening) (opened : Option (List OpKind)) (l : List ℕ) (held : RomReading) → opened ≡ None → EventParts more (parts l) → OnOk answer (new ≡ old ++ more)
    → OnOk answer ((rom : RomText) → HoldsRom rom held → TakesLine rom old opened l new opened held)
events_taken (Ok x) old more new opened l held e p g = λ rom holds. record { now = rom; takes = rw (e, g) (events p); holds = holds }
events_taken (Err x) old more new opened l held e p g = tt

-- one event outside of offers
pub event_taken : (old : List Happening) (event : Happening) (l : List ℕ) (held : RomReading) → EventParts (event ∷ []) (parts l) → (rom : RomText) → HoldsRom rom held → TakesLine rom old None l (old ++ event ∷ []) None held
event_taken old event l held p rom holds = record { now = rom; takes = events p; holds = holds }

pub fine_events : {more : List Happening} {ps : List (List ℕ)} → EventParts more ps → All FitsDraft more
fine_events redraw = all_one FitsDraft Redraw tt
fine_events (tick {n = n} c) = All-replicate FitsDraft n Tick tt
fine_events (strobe {n = n} c) = All-replicate FitsDraft n Strobe tt
fine_events (fetch {n = n} c) = All-replicate FitsDraft n Fetch tt
fine_events resetgen = all_one FitsDraft ResetGen tt
fine_events resetcpu = all_one FitsDraft ResetCpu tt
fine_events (resetall {byte = byte} h) = all_one FitsDraft (ResetAll (replicate 2048 byte)) tt

pub events_fit : {A E : Type 0} (answer : Result A E) (old more new : List Happening) (opened : Option (List OpKind)) (ps : List (List ℕ)) → EventParts more ps → OnOk answer (new ≡ old ++ more) → OnOk answer (length new ≤ MOST_EVENTS)
    → FitsTrace old opened → OnOk answer (FitsTrace new opened)
events_fit (Ok x) old more new opened ps p g room fits = record { count = room; drafts = subst (All FitsDraft) (sym g) (All-append FitsDraft old more fits.drafts (fine_events p)); last = fits.last }
events_fit (Err x) old more new opened ps p g room fits = tt

pub many_events : (fault : LineFault) (old more : List Happening) (l : List ℕ) (held : RomReading) → EventParts more (parts l) → StopsEvents fault old more → StopsLine fault old None held l
many_events Many old more l held p h = (old ++ more, omega (arith, length-append old more), λ rom. events p)
many_events Memory old more l held p h =
    let count = length-append old more in
    let some = some_events p in
    (old ++ more, omega (arith, count, some), omega (arith, count, h), λ rom. events p)
many_events _ old more l held p h = absurd h

pub events_stop : {A : Type 0} (answer : Result A LineFault) (old more : List Happening) (opened : Option (List OpKind)) (l : List ℕ) (held : RomReading) → opened ≡ None → EventParts more (parts l) → IfErr answer (λ fault. StopsEvents fault old more)
    → IfErr answer (λ fault. StopsLine fault old opened held l)
events_stop (Ok x) old more opened l held e p h = tt
events_stop (Err fault) old more opened l held e p h = rw e (many_events fault old more l held p h)

pub rom_taken : (old : List Happening) (opened : Option (List OpKind)) (l : List ℕ) (held now : RomReading) → old ≡ [] → opened ≡ None → ((rom : RomText) → HoldsRom rom held → TellsMore rom l now)
    → (rom : RomText) → HoldsRom rom held → TakesLine rom old opened l old opened now
rom_taken old opened l held now none e more rom holds = let m = more rom holds in record { now = m.now; takes = rw (none, e) (tells m.tells); holds = m.holds }

nothing_outside : {rom now : RomText} {old new : List Happening} {opened left : Option (List OpKind)} {l : List ℕ} → opened ≡ None → (l ≡ codes "offer" → ⊥) → ((more : List Happening) → EventParts more (parts l) → ⊥)
    → (old ≡ [] → ¬ TellsRom rom l now) → Takes rom old opened l now new left → ⊥
nothing_outside e no_offer no_events no_rom (tells h) = no_rom refl h
nothing_outside e no_offer no_events no_rom (events {more = more} p) = no_events more p
nothing_outside e no_offer no_events no_rom opens = no_offer refl
nothing_outside e no_offer no_events no_rom (does op h) = none-some _ (sym e)
nothing_outside e no_offer no_events no_rom ends = none-some _ (sym e)

pub outside_stops : (old : List Happening) (opened : Option (List OpKind)) (l : List ℕ) (held : RomReading) → opened ≡ None → (l ≡ codes "offer" → ⊥) → ((more : List Happening) → EventParts more (parts l) → ⊥)
    → (old ≡ [] → (rom now : RomText) → HoldsRom rom held → ¬ TellsRom rom l now) → StopsLine Syntax old opened held l
outside_stops old opened l held e no_offer no_events no_rom rom now new left holds t = nothing_outside e no_offer no_events (λ none. no_rom none rom now holds) t

-- inside an offer

pub op_taken : {A E : Type 0} (answer : Result A E) (old : List Happening) (F G : List OpKind) (opened left : Option (List OpKind)) (l : List ℕ) (held : RomReading) → opened ≡ Some F → left ≡ Some G
    → OnOk answer ((op : OpKind) × IsOpLine op l × (G ≡ F ++ op ∷ [])) → OnOk answer ((rom : RomText) → HoldsRom rom held → TakesLine rom old opened l old left held)
op_taken (Ok x) old F G opened left l held e f h = λ rom holds. let is = h.2 in record { now = rom; takes = rw (e, f, is) (does h.0 h.1); holds = holds }
op_taken (Err x) old F G opened left l held e f h = tt

nothing_inside : {rom now : RomText} {old new : List Happening} {opened left : Option (List OpKind)} {l : List ℕ} (F : List OpKind) → opened ≡ Some F → (l ≡ codes "end" → ⊥) → ((op : OpKind) → IsOpLine op l → ⊥)
    → Takes rom old opened l now new left → ⊥
nothing_inside F e no_end no_op (tells h) = none-some F e
nothing_inside F e no_end no_op (events p) = none-some F e
nothing_inside F e no_end no_op opens = none-some F e
nothing_inside F e no_end no_op (does op h) = no_op op h
nothing_inside F e no_end no_op ends = no_end refl

pub no_op_more : (fault : LineFault) (old : List Happening) (F : List OpKind) (l : List ℕ) (held : RomReading) → (l ≡ codes "end" → ⊥) → StopsOperation fault F l → StopsLine fault old (Some F) held l
no_op_more Syntax old F l held no_end h = λ rom now new left holds t. nothing_inside F refl no_end h t
no_op_more Full old F l held no_end h = let full = h.1 in (F ++ h.0 ∷ [], omega (arith, length-append F (h.0 ∷ [])), λ rom. does h.0 h.2)
no_op_more _ old F l held no_end h = absurd h

pub op_stops : {A : Type 0} (answer : Result A LineFault) (old : List Happening) (F : List OpKind) (opened : Option (List OpKind)) (l : List ℕ) (held : RomReading) → opened ≡ Some F → (l ≡ codes "end" → ⊥) → IfErr answer (λ fault. StopsOperation fault F l)
    → IfErr answer (λ fault. StopsLine fault old opened held l)
op_stops (Ok x) old F opened l held e no_end h = tt
op_stops (Err fault) old F opened l held e no_end h = rw e (no_op_more fault old F l held no_end h)
