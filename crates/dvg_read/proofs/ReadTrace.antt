-- The text of a trace, read up to some line.
use Rattle.std.proofs.Common.{◌≡◌, ◌<◌, ◌≤◌, ◌+◌, ℕ, List, [], ◌∷◌, ◌++◌, length, refl, sym, ap, subst, ◌∙◌, arith}
use Rattle.std.proofs.Common.{append-nil, append_assoc, length-append, true, false, Option, Some, None}
use Rattle.std.proofs.Common.{Result, Ok, Err, IfOk}
use Rattle.std.specs.List.{AllZip}
use Rattle.dvg_frame.specs.declared.op.OpKind.{OpKind}
use Rattle.dvg_log.specs.Events.{Happening}
use Rattle.dvg_read.specs.declared.fault.LineFault.{LineFault}
use Rattle.dvg_read.specs.declared.fault.LineFault.TheVariants.{Syntax, Full, Many, Memory}
use Rattle.dvg_read.specs.Texts.{is_passed, lines, unpassed}
use Rattle.dvg_read.specs.RomTexts.{RomText}
use Rattle.dvg_read.specs.declared.rom_text.RomReading.{RomReading}
use Rattle.dvg_read.specs.RomReading.{HoldsRom, unstated}
use Rattle.dvg_read.specs.FirstFaults.{IsShort, Reaches}
use Rattle.dvg_read.specs.LineFaults.{fault_at}
use Rattle.dvg_read.specs.TraceTexts.{FitsTrace, IsFineTrace, SpellsTrace}
use Rattle.dvg_read.specs.TraceEvents.{AddsEvents, BeginsWithEvent, SpellsEvent}
use Rattle.dvg_read.specs.TraceGives.{BringsEvents, ReadsAhead, StopsLine, StopsReading, TakesLine}
use Rattle.dvg_read.specs.TraceGives.{events_read, opened_of, reads_events, reads_ops}
use Rattle.dvg_read.specs.TextLines.{AddsOps}
use Rattle.dvg_read.specs.OpLines.{IsOpLine}
use Rattle.dvg_read.specs.TraceReading.{does}
use Rattle.dvg_read.specs.declared.trace_text.TraceReading.{TraceReading}
use Rattle.dvg_read.proofs.Heads.{op_unpassed}
use Rattle.dvg_read.proofs.EventRows.{events_unpassed}
use Rattle.dvg_read.proofs.ReadTo.{count_on, cut_on, lines_length, unpassed_more, unpassed_one}
use Rattle.dvg_read.proofs.TraceMoves.{event_taken, many_events}
use Rattle.dvg_read.proofs.TraceSteps.{goes_on, says_more, says_nothing, so_far}
use Rattle.dvg_read.specs.declared.draft_text.TheConstants.{MOST_TEXT_BYTES}
use Rattle.dvg_log.specs.declared.trace.TheConstants.{MOST_EVENTS}

-- n lines were read, which spell these events and a ROM that the reader holds; those are left
pub record ReadTrace (text : List ℕ) (left : List (List ℕ)) (n : ℕ) (events : List Happening) (opened : Option (List OpKind)) (held : RomReading) : Type 0 where
  pub before : List (List ℕ)
  pub cut : lines text ≡ before ++ left
  pub number : n ≡ length before
  pub rom : RomText
  pub spelled : SpellsTrace rom events opened (unpassed before)
  pub holds : HoldsRom rom held

pub begins : (text : List ℕ) (left : List (List ℕ)) (events : List Happening) (opened : Option (List OpKind)) (held : RomReading) → left ≡ lines text → events ≡ [] → opened ≡ None → HoldsRom unstated held → ReadTrace text left 0 events opened held
begins text left events opened held all none closed holds = record { before = []; cut = sym all; number = refl; rom = unstated; spelled = rw (none, closed) says_nothing; holds = holds }

module _ (text : List ℕ) (left rest : List (List ℕ)) (n : ℕ) (old : List Happening) (opened : Option (List OpKind)) (held : RomReading) (line : List ℕ) (next : left ≡ line ∷ rest) (r : ReadTrace text left n old opened held) where
  -- a line that is passed over
  pub passes : is_passed line ≡ true → ReadTrace text rest (n + 1) old opened held
  passes is = record {
    before = r.before ++ line ∷ [];
    cut = cut_on text r.before left rest line r.cut next;
    number = count_on n r.before line r.number;
    rom = r.rom;
    spelled = subst (SpellsTrace r.rom old opened) (sym (unpassed_more r.before line is)) r.spelled;
    holds = r.holds;
  }

  -- a line that goes on
  pub one_more : (new : List Happening) (kept : Option (List OpKind)) (now : RomReading) → is_passed line ≡ false → TakesLine r.rom old opened line new kept now → ReadTrace text rest (n + 1) new kept now
  one_more new kept now is t = record {
    before = r.before ++ line ∷ [];
    cut = cut_on text r.before left rest line r.cut next;
    number = count_on n r.before line r.number;
    rom = t.now;
    spelled = subst (SpellsTrace t.now new kept) (sym (unpassed_one r.before line is)) (says_more r.spelled t.takes);
    holds = t.holds;
  }

  pub takes : (new : List Happening) (kept : Option (List OpKind)) (now : RomReading) → is_passed line ≡ false → ((rom : RomText) → HoldsRom rom held → TakesLine rom old opened line new kept now) → ReadTrace text rest (n + 1) new kept now
  takes new kept now is step = one_more new kept now is (step r.rom r.holds)

  reaches : IsShort text → FitsTrace old opened → is_passed line ≡ false → Reaches IsFineTrace text (n + 1) r.before line
  reaches short fits is = record {
    short = short;
    after = rest;
    cut = r.cut ∙ ap (λ l. r.before ++ l) next;
    number = omega (arith, r.number);
    fine = record { rom = r.rom; events = old; opened = opened; spelled = r.spelled; fits = fits };
    is_unpassed = is;
  }

  -- a line at fault
  pub stops : (fault : LineFault) → IsShort text → FitsTrace old opened → is_passed line ≡ false → StopsLine fault old opened held line → StopsReading (fault_at fault (n + 1)) text
  stops Syntax short fits is h = record {
    before = r.before;
    line = line;
    reaches = reaches short fits is;
    wrong = λ rom events kept s. h r.rom rom events kept r.holds (goes_on (so_far r.rom old opened) (so_far rom events kept) (unpassed r.before) line r.spelled s);
  }
  stops Full short fits is h = record {
    before = r.before;
    line = line;
    reaches = reaches short fits is;
    rom = r.rom;
    events = old;
    F = h.0;
    right = says_more r.spelled (h.2 r.rom);
    over = h.1;
  }
  stops Many short fits is h = record {
    before = r.before;
    line = line;
    reaches = reaches short fits is;
    rom = r.rom;
    events = h.0;
    right = says_more r.spelled (h.2 r.rom);
    over = h.1;
  }
  stops Memory short fits is h = record {
    n = n + 1;
    before = r.before;
    line = line;
    reaches = reaches short fits is;
    rom = r.rom;
    events = h.0;
    right = says_more r.spelled (h.3 r.rom);
    some = h.1;
    few = h.2;
  }
  stops _ short fits is h = absurd h

-- lines that spell an event each
all_events : (text : List ℕ) (rest : List (List ℕ)) (held : RomReading) (more : List Happening) (left ahead : List (List ℕ)) (n : ℕ) (old : List Happening) → AllZip SpellsEvent more ahead → left ≡ ahead ++ rest → ReadTrace text left n old None held
    → ReadTrace text rest (n + length more) (old ++ more) None held
all_events text rest held [] left [] n old h cut r =
    let count : n ≡ n + 0 = omega arith in
    subst (λ k. ReadTrace text rest k (old ++ []) None held) count (subst (λ ls. ReadTrace text ls n (old ++ []) None held) cut (subst (λ events. ReadTrace text left n events None held) (sym (append-nil old)) r))
all_events text rest held [] left (line ∷ ahead) n old h cut r = absurd h
all_events text rest held (event ∷ more) left [] n old h cut r = absurd h
all_events text rest held (event ∷ more) left (line ∷ ahead) n old h cut r =
    let step = takes text left (ahead ++ rest) n old None held line cut r (old ++ event ∷ []) None held (events_unpassed line h.0) (event_taken old event line held h.0) in
    let all = all_events text rest held more (ahead ++ rest) ahead (n + 1) (old ++ event ∷ []) h.1 refl step in
    let count : n + 1 + length more ≡ n + length (event ∷ more) = omega arith in
    subst (λ k. ReadTrace text rest k (old ++ event ∷ more) None held) count (subst (λ events. ReadTrace text rest (n + 1 + length more) events None held) (append_assoc old (event ∷ []) more) all)

-- lines that spell an operation each
all_ops : (text : List ℕ) (rest : List (List ℕ)) (events : List Happening) (held : RomReading) (more : List OpKind)
    (left ahead : List (List ℕ)) (n : ℕ) (F : List OpKind)
    → AllZip IsOpLine more ahead → left ≡ ahead ++ rest → ReadTrace text left n events (Some F) held
    → ReadTrace text rest (n + length more) events (Some (F ++ more)) held
all_ops text rest events held [] left [] n F h cut r =
    let count : n ≡ n + 0 = omega arith in
    subst (λ k. ReadTrace text rest k events (Some (F ++ [])) held) count
    (subst (λ ls. ReadTrace text ls n events (Some (F ++ [])) held) cut
    (subst (λ F. ReadTrace text left n events (Some F) held) (sym (append-nil F)) r))
all_ops text rest events held [] left (line ∷ ahead) n F h cut r = absurd h
all_ops text rest events held (op ∷ more) left [] n F h cut r = absurd h
all_ops text rest events held (op ∷ more) left (line ∷ ahead) n F h cut r =
    let step = takes text left (ahead ++ rest) n events (Some F) held line cut r events (Some (F ++ op ∷ [])) held
    (op_unpassed op line h.0) (λ rom holds. record { now = rom; takes = does op h.0; holds = holds }) in
    let all = all_ops text rest events held more (ahead ++ rest) ahead (n + 1) (F ++ op ∷ []) h.1 refl step in
    let count : n + 1 + length more ≡ n + length (op ∷ more) = omega arith in
    subst (λ k. ReadTrace text rest k events (Some (F ++ op ∷ more)) held) count
    (subst (λ F. ReadTrace text rest (n + 1 + length more) events (Some F) held) (append_assoc F (op ∷ []) more) all)

some_events : (text : List ℕ) (left rest : List (List ℕ)) (n count : ℕ) (old new : List Happening)
    (opened kept : Option (List OpKind)) (held now : RomReading)
    → ReadTrace text left n old opened held → opened ≡ None → AddsEvents left old count rest new
    → kept ≡ None → now ≡ held → ReadTrace text rest (n + count) new kept now
some_events text left rest n count old new opened kept held now r outside a still same =
    let all = all_events text rest held a.more left a.ahead.ahead n old a.ahead.spelled a.ahead.cut
    (subst (λ opened. ReadTrace text left n old opened held) outside r) in
    rw (still, same, a.added, sym a.counted) all

some_ops : (text : List ℕ) (left rest : List (List ℕ)) (n count : ℕ) (old new : List Happening) (F G : List OpKind)
    (opened kept : Option (List OpKind)) (held now : RomReading)
    → ReadTrace text left n old opened held → opened ≡ Some F → AddsOps left F count rest G
    → kept ≡ Some G → new ≡ old → now ≡ held → ReadTrace text rest (n + count) new kept now
some_ops text left rest n count old new F G opened kept held now r inside a still none same =
    let all = all_ops text rest old held a.more left a.ahead n F a.spelled a.cut
    (subst (λ opened. ReadTrace text left n old opened held) inside r) in
    rw (still, none, same, a.added, sym a.counted) all

-- lines of events, or of operations
pub reads_ahead : {A : Type 0} (text : List ℕ) (left rest : List (List ℕ)) (n count : ℕ) (old new : TraceReading A)
    → ReadTrace text left n (events_read old) (opened_of old) old.rom → ReadsAhead old left count new rest
    → ReadTrace text rest (n + count) (events_read new) (opened_of new) new.rom
reads_ahead text left rest n count old new r (reads_events s) =
    some_events text left rest n count (events_read old) (events_read new) (opened_of old) (opened_of new)
    old.rom new.rom r s.outside s.adds s.opened s.rom
reads_ahead text left rest n count old new r (reads_ops s) =
    some_ops text left rest n count (events_read old) (events_read new) old.draft new.draft (opened_of old)
    (opened_of new) old.rom new.rom r s.inside s.adds s.opened s.events s.rom

-- lines of events, as they are taken where no offer is open
pub ahead_events : {A E : Type 0} (answer : Result ℕ E) (old new : TraceReading A) (left rest : List (List ℕ))
    → opened_of old ≡ None → opened_of new ≡ None → new.rom ≡ old.rom
    → IfOk answer (λ count. AddsEvents left (events_read old) count rest (events_read new))
    → IfOk answer (λ count. ReadsAhead old left count new rest)
ahead_events (Ok count) old new left rest outside still same a =
    reads_events (record { outside = outside; adds = a; opened = still; rom = same })
ahead_events (Err e) old new left rest outside still same a = tt

-- memory is wanted for an event that there is room for
first_brings : (text : List ℕ) (left rest ahead : List (List ℕ)) (n : ℕ) (old : List Happening) (held : RomReading) (event : Happening) → ReadTrace text left n old None held → IsShort text → FitsTrace old None → length old < MOST_EVENTS → AllZip SpellsEvent (event ∷ []) ahead → left ≡ ahead ++ rest
    → BringsEvents text
first_brings text left rest [] n old held event r short fits room h cut = absurd h
first_brings text left rest (line ∷ ahead) n old held event r short fits room h cut =
    stops text left (ahead ++ rest) n old None held line cut r Memory short fits (events_unpassed line h.0) (many_events Memory old (event ∷ []) line held h.0 (omega (arith, room)))

pub wants_memory : (text : List ℕ) (left : List (List ℕ)) (n : ℕ) (old : List Happening) (opened : Option (List OpKind)) (held : RomReading) → ReadTrace text left n old opened held → IsShort text → FitsTrace old opened → opened ≡ None → length old < MOST_EVENTS → BeginsWithEvent left
    → BringsEvents text
wants_memory text left n old opened held r short fits closed room b =
    first_brings text left b.rest b.ahead.ahead n old held b.event (subst (λ opened. ReadTrace text left n old opened held) closed r) short (subst (FitsTrace old) closed fits) room b.ahead.spelled b.ahead.cut

-- at the text's end

all_unpassed : (text : List ℕ) (left before : List (List ℕ)) → left ≡ [] → lines text ≡ before ++ left → unpassed before ≡ unpassed (lines text)
all_unpassed text left before none cut = ap unpassed (sym (cut ∙ ap (λ l. before ++ l) none ∙ append-nil before))

pub all_spelled : (text : List ℕ) (left : List (List ℕ)) (n : ℕ) (events : List Happening) (opened : Option (List OpKind)) (held : RomReading) → left ≡ [] → (r : ReadTrace text left n events opened held) → SpellsTrace r.rom events opened (unpassed (lines text))
all_spelled text left n events opened held none r = subst (SpellsTrace r.rom events opened) (all_unpassed text left r.before none r.cut) r.spelled

-- no text has more lines than bytes
pub bounded : (text : List ℕ) (left : List (List ℕ)) (n : ℕ) (events : List Happening) (opened : Option (List OpKind)) (held : RomReading) → ReadTrace text left n events opened held → IsShort text → n ≤ MOST_TEXT_BYTES
bounded text left n events opened held r short = omega (arith, r.number, ap length r.cut, length-append r.before left, lines_length text)
