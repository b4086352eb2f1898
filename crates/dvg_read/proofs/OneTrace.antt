-- The text of a trace denotes one list of events at most or has one fault at most, and not both.
use Rattle.std.proofs.Common.{◌≡◌, ◌<◌, ◌≤◌, ℕ, List, [], ◌∷◌, ◌++◌, length, refl, sym, ap, subst, arith, Option, Some, None, IfSome}
use Rattle.dvg_frame.specs.declared.op.OpKind.{OpKind}
use Rattle.dvg_log.specs.Events.{Happening}
use Rattle.dvg_read.specs.declared.fault.TextFault.{TextFault}
use Rattle.dvg_read.specs.declared.fault.TextFault.TheVariants.{TooLong, Syntax, Full, Many, Unended}
use Rattle.dvg_read.specs.Texts.{lines, unpassed}
use Rattle.dvg_read.specs.RomTexts.{RomText}
use Rattle.dvg_read.specs.TraceTexts.{DenotesTrace, EndsInside, HasTraceFault, IsFineTrace, TraceMeetsFull, MeetsMany, TraceMeetsSyntax, SpellsTrace}
use Rattle.dvg_read.proofs.FirstStop.{StopsAt, never_stops, one_stop, too_short}
use Rattle.dvg_read.proofs.TraceSteps.{fine_front, one_spelled_trace}
use Rattle.dvg_log.specs.declared.trace.TheConstants.{MOST_EVENTS}

-- a text denotes one list of events, and tells one thing of the ROM, at most
pub one_trace_meaning : (text : List ℕ) (rom also : RomText) (one other : List Happening) → DenotesTrace text rom one → DenotesTrace text also other → (also ≡ rom) × (other ≡ one)
one_trace_meaning text rom also one other a b = let same = one_spelled_trace a.spelled b.spelled in (same.0, same.1)

abbrev syntax_stops : {text : List ℕ} {n : ℕ} → TraceMeetsSyntax text n → StopsAt IsFineTrace text n
syntax_stops m = record { before = m.before; line = m.line; reaches = m.reaches; wrong = λ fine. m.wrong fine.rom fine.events fine.opened fine.spelled }

draft_too_long : {rom : RomText} {events : List Happening} {F : List OpKind} {ls : List (List ℕ)} → SpellsTrace rom events (Some F) ls → 511 < length F → ¬ IsFineTrace ls
draft_too_long {F = F} right over fine =
    let is = (one_spelled_trace right fine.spelled).2 in
    let few : length F ≤ 511 = subst (λ opened. IfSome opened (λ F. length F ≤ 511)) is fine.fits.last in
    omega arith

abbrev full_stops : {text : List ℕ} {n : ℕ} → TraceMeetsFull text n → StopsAt IsFineTrace text n
full_stops m = record { before = m.before; line = m.line; reaches = m.reaches; wrong = draft_too_long m.right m.over }

too_many : {rom : RomText} {events : List Happening} {ls : List (List ℕ)} → SpellsTrace rom events None ls → MOST_EVENTS < length events → ¬ IsFineTrace ls
too_many right over fine = let same = (one_spelled_trace right fine.spelled).1 in let count = ap length same in let few = fine.fits.count in omega arith

abbrev many_stops : {text : List ℕ} {n : ℕ} → MeetsMany text n → StopsAt IsFineTrace text n
many_stops m = record { before = m.before; line = m.line; reaches = m.reaches; wrong = too_many m.right m.over }

same_stop : {text : List ℕ} {m n : ℕ} (a : StopsAt IsFineTrace text m) (b : StopsAt IsFineTrace text n) → (a.before ≡ b.before) × (a.line ≡ b.line) × (n ≡ m)
same_stop a b = one_stop IsFineTrace fine_front a b

-- what is spelled up to one line that stops the text is spelled up to another
moved : {text : List ℕ} {m n : ℕ} {rom : RomText} {events : List Happening} {opened : Option (List OpKind)} (a : StopsAt IsFineTrace text m) (b : StopsAt IsFineTrace text n)
    → SpellsTrace rom events opened (unpassed b.before ++ b.line ∷ []) → SpellsTrace rom events opened (unpassed a.before ++ a.line ∷ [])
moved {rom = rom} {events = events} {opened = opened} a b right =
    let same = same_stop a b in
    subst (λ line. SpellsTrace rom events opened (unpassed a.before ++ line ∷ [])) (sym same.1) (subst (λ before. SpellsTrace rom events opened (unpassed before ++ b.line ∷ [])) (sym same.0) right)

not_full : {text : List ℕ} {m n : ℕ} → TraceMeetsSyntax text m → TraceMeetsFull text n → ⊥
not_full s f = s.wrong f.rom f.events (Some f.F) (moved (syntax_stops s) (full_stops f) f.right)

not_many : {text : List ℕ} {m n : ℕ} → TraceMeetsSyntax text m → MeetsMany text n → ⊥
not_many s f = s.wrong f.rom f.events None (moved (syntax_stops s) (many_stops f) f.right)

full_or_many : {text : List ℕ} {m n : ℕ} → TraceMeetsFull text m → MeetsMany text n → ⊥
full_or_many a b = let same = (one_spelled_trace a.right (moved (full_stops a) (many_stops b) b.right)).2 in absurd cc

-- no line stops a text whose lines are without fault
never_at_fault : {text : List ℕ} {n : ℕ} → IsFineTrace (unpassed (lines text)) → StopsAt IsFineTrace text n → ⊥
never_at_fault fine s = never_stops IsFineTrace fine_front fine s

ends_fine : {text : List ℕ} → EndsInside text → IsFineTrace (unpassed (lines text))
ends_fine e = record { rom = e.rom; events = e.events; opened = Some e.F; spelled = e.spelled; fits = e.fits }

-- a text of a trace has one fault at most
pub one_trace_fault : (text : List ℕ) (one other : TextFault) → HasTraceFault text one → HasTraceFault text other → other ≡ one
one_trace_fault text TooLong TooLong a b = refl
one_trace_fault text TooLong (Syntax n) a b = absurd (too_short (syntax_stops b) a)
one_trace_fault text TooLong (Full n) a b = absurd (too_short (full_stops b) a)
one_trace_fault text TooLong (Many n) a b = absurd (too_short (many_stops b) a)
one_trace_fault text TooLong Unended a b = let short = b.short in absurd (omega arith)
one_trace_fault text (Syntax m) TooLong a b = absurd (too_short (syntax_stops a) b)
one_trace_fault text (Syntax m) (Syntax n) a b = ap Syntax (same_stop (syntax_stops a) (syntax_stops b)).2
one_trace_fault text (Syntax m) (Full n) a b = absurd (not_full a b)
one_trace_fault text (Syntax m) (Many n) a b = absurd (not_many a b)
one_trace_fault text (Syntax m) Unended a b = absurd (never_at_fault (ends_fine b) (syntax_stops a))
one_trace_fault text (Full m) TooLong a b = absurd (too_short (full_stops a) b)
one_trace_fault text (Full m) (Syntax n) a b = absurd (not_full b a)
one_trace_fault text (Full m) (Full n) a b = ap Full (same_stop (full_stops a) (full_stops b)).2
one_trace_fault text (Full m) (Many n) a b = absurd (full_or_many a b)
one_trace_fault text (Full m) Unended a b = absurd (never_at_fault (ends_fine b) (full_stops a))
one_trace_fault text (Many m) TooLong a b = absurd (too_short (many_stops a) b)
one_trace_fault text (Many m) (Syntax n) a b = absurd (not_many b a)
one_trace_fault text (Many m) (Full n) a b = absurd (full_or_many b a)
one_trace_fault text (Many m) (Many n) a b = ap Many (same_stop (many_stops a) (many_stops b)).2
one_trace_fault text (Many m) Unended a b = absurd (never_at_fault (ends_fine b) (many_stops a))
one_trace_fault text Unended TooLong a b = let short = a.short in absurd (omega arith)
one_trace_fault text Unended (Syntax n) a b = absurd (never_at_fault (ends_fine a) (syntax_stops b))
one_trace_fault text Unended (Full n) a b = absurd (never_at_fault (ends_fine a) (full_stops b))
one_trace_fault text Unended (Many n) a b = absurd (never_at_fault (ends_fine a) (many_stops b))
one_trace_fault text Unended Unended a b = refl
one_trace_fault text TooLong _ a b = absurd b
one_trace_fault text (Syntax m) _ a b = absurd b
one_trace_fault text (Full m) _ a b = absurd b
one_trace_fault text (Many m) _ a b = absurd b
one_trace_fault text Unended _ a b = absurd b
one_trace_fault text _ _ a b = absurd a

denotes_fine : {text : List ℕ} {rom : RomText} {events : List Happening} → DenotesTrace text rom events → IsFineTrace (unpassed (lines text))
denotes_fine {rom = rom} {events = events} d = record { rom = rom; events = events; opened = None; spelled = d.spelled; fits = d.fits }

-- a text that denotes events has no fault
pub no_fault_beside_trace : (text : List ℕ) (rom : RomText) (events : List Happening) → DenotesTrace text rom events → (fault : TextFault) → ¬ HasTraceFault text fault
no_fault_beside_trace text rom events d TooLong h = let short = d.short in omega arith
no_fault_beside_trace text rom events d (Syntax n) h = never_at_fault (denotes_fine d) (syntax_stops h)
no_fault_beside_trace text rom events d (Full n) h = never_at_fault (denotes_fine d) (full_stops h)
no_fault_beside_trace text rom events d (Many n) h = never_at_fault (denotes_fine d) (many_stops h)
no_fault_beside_trace text rom events d Unended h = let same = (one_spelled_trace d.spelled h.spelled).2 in absurd cc
no_fault_beside_trace text rom events d _ h = h
