-- Lemmas of the clients.
use Rattle.std.proofs.Common.{◌≡◌, ℕ, Bool, true, false, true≢false, List, [], ◌∷◌, ◌++◌, length, map, reverse, refl, sym, ap, ◌∙◌, subst, Option, Some, None, lit≤, arith}
use Rattle.std.specs.Prelude.{codes, Result, Ok, Err, IfOk}
use Rattle.std.specs.Io.KnownBytes.{Appends}
use Rattle.std.specs.Prelude.{IfErr, IfSome}
use Rattle.std.proofs.Common.{length-append}
use mathlib.Core.List.{append-nil}
use Rattle.std.proofs.lemmas.List.{length-map, length-reverse}
use Rattle.std.proofs.lemmas.Option.{same_Some}
use Rattle.dvg_driver.specs.Stands.{Stage, StandsAfter, peeked_after}
use Rattle.dvg_tool.specs.Plays.{Plays}
use Rattle.std.proofs.lemmas.List.Elements.{All-from_recursion}
use Rattle.dvg_gen.specs.declared.taken.Taken.{Taken}
use Rattle.dvg_gen.specs.declared.taken.Taken.TheVariants.{Low, Word, Done, Broke}
use Rattle.dvg_gen.specs.declared.taken.GenFault.TheVariants.{StackUnder}
use Rattle.dvg_gen.specs.Told.{Fails}
use Rattle.dvg_gen.specs.Machine.{answer_of}
use Rattle.dvg_read.specs.declared.fault.Unread.{Unread}
use Rattle.dvg_read.specs.declared.fault.Unread.TheVariants as unread
use Rattle.dvg_read.specs.Texts.{lines, unpassed}
use Rattle.dvg_read.specs.RomTexts.{RomText, unmapped}
use Rattle.dvg_read.specs.TraceTexts.{DenotesTrace, FitsDraft, tick, once, nothing, alone, whole}
use Rattle.dvg_read.specs.TraceGives.{GivesTrace, StopsReading}
use Rattle.dvg_tool.specs.Plays.{PlaysTrace, log_text, event_of, zeros}
use Rattle.dvg_read.proofs.OneTrace.{one_trace_meaning, no_fault_beside_trace}
use Rattle.clap.specs.Words.{Row, Text as WordText}
use Rattle.dvg_args.specs.Arguments.{IsJob}
use Rattle.dvg_job.specs.declared.task.Job.{Job}
use Rattle.dvg_job.specs.declared.task.Job.TheVariants.{List as list_job, ListAt, Rom, Picture, PictureSvg, Check, Play, PlaySvg, Torn, Render, RenderCheck, Lay, Explain, Game}
use Rattle.dvg_driver.specs.declared.action.Action.{Action}
use Rattle.dvg_driver.specs.declared.action.Action.TheVariants.{Peek, Wrote, Read}
use Rattle.dvg_driver.specs.Script.{Item, Did, Offered, IsLife, IsWhole}
use Rattle.dvg_driver.specs.Stands.{ShowsFlag}
use Rattle.dvg_driver.proofs.OneAction.{one_action}
use Rattle.dvg_driver.proofs.Shapes.{place_life, rests_whole}
use Rattle.dvg_driver.proofs.Places.{life_place, place_before, whole_rests}
use Rattle.dvg_mem.specs.declared.half.Half.TheVariants.{H1}
use Rattle.dvg_log.specs.Events.{Happening}
use Rattle.dvg_log.specs.declared.event.Event.TheVariants.{Tick}
use Rattle.dvg_log.specs.Entries.{Shown, shown_of}
use Rattle.dvg_log.specs.own.Owned.{OwnEntry}
use Rattle.dvg_log.specs.declared.entry.Entry.TheVariants.{Acted}
use Rattle.dvg_log.specs.Log.{Log, ◌⟼◌, events_of}
use Rattle.dvg_log.specs.Legal.{IsLegal}
use Rattle.dvg_world.specs.Runs.{log_of}
use Rattle.dvg_theorem.proofs.OneLog.{same_log}
use Rattle.test_facts.specs.Facts.{blank_frame, two_ticks_shown, two_ticks, tick_text, peek_line}

-- two next actions are one
pub one_next : (life : List Item) (halted : Bool) (a b : Action) → IsLife (Did a ∷ life) → IsLife (Did b ∷ life) → ShowsFlag a halted → ShowsFlag b halted → a ≡ b
one_next life halted a b x y t u =
    let after = life_place (Did a ∷ life) x in
    let before = place_before (Did a) life after.0 after.1 in
    let one = one_action life halted (place_life life before.0 before.1) in
    one.3 a x t ∙ sym (one.3 b y u)

pub peek_first : IsLife (Did Peek ∷ [])
peek_first = place_life (Did Peek ∷ []) _ refl

pub read_second : IsLife (Did (Read true) ∷ Did Peek ∷ [])
read_second = place_life (Did (Read true) ∷ Did Peek ∷ []) _ refl

pub booted : IsWhole (Did (Read true) ∷ Did Peek ∷ [])
booted = rests_whole (Did (Read true) ∷ Did Peek ∷ []) true refl

pub offered_life : List Item
offered_life = Offered H1 blank_frame ∷ Did (Read true) ∷ Did Peek ∷ []

pub write_first : IsLife (Did (Wrote 0x402 0x90) ∷ Offered H1 blank_frame ∷ Did (Read true) ∷ Did Peek ∷ [])
write_first = place_life (Did (Wrote 0x402 0x90) ∷ Offered H1 blank_frame ∷ Did (Read true) ∷ Did Peek ∷ []) _ refl

pub not_whole : ¬ IsWhole (Offered H1 blank_frame ∷ Did (Read true) ∷ Did Peek ∷ [])
not_whole all = let rests = whole_rests (Offered H1 blank_frame ∷ Did (Read true) ∷ Did Peek ∷ []) all in let e = rests.1 in cc

module _ (R image : List ℕ) (none_yet : IsLegal R image []) where
  abbrev first_line : Log
  first_line = (Tick ⟼ Acted Peek) ∷ []

  abbrev both_lines : Log
  both_lines = (Tick ⟼ Acted (Read true)) ∷ (Tick ⟼ Acted Peek) ∷ []

  legal_first : IsLegal R image first_line
  legal_first = ((peek_first, tt), tt, none_yet)

  legal_both : IsLegal R image both_lines
  legal_both = ((read_second, refl), tt, legal_first)

  line_is : (s t : Shown) (log later : Log) → (Tick ⟼ s) ∷ log ≡ (Tick ⟼ t) ∷ later → s ≡ t
  line_is s t log later e = cc

  pub peeks : (entry : Shown) → IsLegal R image ((Tick ⟼ entry) ∷ []) → entry ≡ Acted Peek
  peeks entry legal = line_is entry (Acted Peek) [] [] (same_log R image ((Tick ⟼ entry) ∷ []) first_line legal legal_first refl)

  pub one_tick_log : (log : Log) → IsLegal R image log → events_of log ≡ Tick ∷ [] → log ≡ first_line
  one_tick_log log legal e = same_log R image log first_line legal legal_first e

  entries_are : (r s t u : Shown) → (Tick ⟼ s) ∷ (Tick ⟼ r) ∷ [] ≡ (Tick ⟼ u) ∷ (Tick ⟼ t) ∷ [] → r ∷ s ∷ [] ≡ t ∷ u ∷ []
  entries_are r s t u e = cc

  pub two : {A : Type 0} (entries : List (OwnEntry A)) → length entries ≡ 2 → IsLegal R image (log_of two_ticks entries) → map shown_of entries ≡ two_ticks_shown
  two [] e legal = absurd (cc)
  two (x ∷ []) e legal = absurd (cc)
  two (x ∷ y ∷ []) e legal = entries_are (shown_of x) (shown_of y) (Acted Peek) (Acted (Read true)) (same_log R image ((Tick ⟼ shown_of y) ∷ (Tick ⟼ shown_of x) ∷ []) both_lines legal legal_both refl)
  two (x ∷ y ∷ z ∷ more) e legal = absurd (omega arith)

-- a log of two ticks
pub two_run : {A : Type 0} (R image : List ℕ) (entries : List (OwnEntry A)) → length entries ≡ 2 → IsLegal R image (log_of two_ticks entries) → map shown_of entries ≡ two_ticks_shown
two_run R image [] e legal = absurd (cc)
two_run R image (x ∷ []) e legal = absurd (cc)
two_run R image (x ∷ y ∷ []) e legal = two R image legal.2.2 (x ∷ y ∷ []) e legal
two_run R image (x ∷ y ∷ z ∷ more) e legal = absurd (omega arith)

-- what breaks by an empty stack
pub stack_under : {A : Type 0} (taken : Taken A) → answer_of taken ≡ Some (Fails StackUnder)
    → taken ≡ Broke StackUnder
stack_under Low r = absurd (cc)
stack_under Word r = absurd (cc)
stack_under (Done list) r = absurd (cc)
stack_under (Broke fault) r = let same : fault ≡ StackUnder = cc in ap Broke same

-- nothing is stated of the ROM
abbrev unstated : RomText
unstated = record { map = None; given = [] }

-- the text of a tick
pub denotes : DenotesTrace tick_text unstated (Tick ∷ [])
denotes = record {
  short = lit≤ tt;
  spelled = record { front = []; rest = unpassed (lines tick_text); cut = refl; head = unmapped tt; begun = whole (alone (codes "tick") nothing (tick once)) };
  fits = record { count = lit≤ tt; drafts = All-from_recursion FitsDraft (Tick ∷ []) (tt, tt); last = tt };
}

pub events_are : (events : List Happening) (S : List ℕ) → GivesTrace tick_text events S → events ≡ Tick ∷ []
events_are events S gives = (one_trace_meaning tick_text unstated gives.rom (Tick ∷ []) events denotes gives.denotes).1

pub no_fault : (fault : Unread) → StopsReading fault tick_text → fault ≡ unread.Memory
no_fault (unread.Text fault) stops = absurd (no_fault_beside_trace tick_text unstated (Tick ∷ []) denotes fault stops)
no_fault unread.Memory stops = refl

first_log : (log : Log) → map event_of (reverse log) ++ [] ≡ Tick ∷ [] → events_of log ≡ Tick ∷ []
first_log [] e = absurd (cc)
first_log ((event ⟼ entry) ∷ []) e = e
first_log (a ∷ b ∷ log) e = absurd (omega (arith, ap length e, length-map (reverse (a ∷ b ∷ log)) event_of, length-reverse (a ∷ b ∷ log), length-append (map event_of (reverse (a ∷ b ∷ log))) []))

nothing_of : (R image : List ℕ) (log : Log) → IsLegal R image log → IsLegal R image []
nothing_of R image [] legal = legal
nothing_of R image ((event ⟼ entry) ∷ log) legal = nothing_of R image log legal.2

pub played_text : (old new : Option (List ℕ)) (log : Log) → PlaysTrace tick_text log [] → Appends old new (log_text true log) → Appends old new peek_line
played_text old new log p wrote =
    let events = events_are p.events p.R p.gives in
    let same = one_tick_log p.R zeros (nothing_of p.R zeros log p.legal) log p.legal (first_log log (sym p.in_order ∙ events)) in
    let text : log_text true ((Tick ⟼ Acted Peek) ∷ []) ≡ peek_line = append-nil _ ∙ append-nil _ in
    subst (λ bs. Appends old new bs) text (subst (λ l. Appends old new (log_text true l)) same wrote)

abbrev first_of : List ℕ → ℕ
first_of [] = 0
first_of (x ∷ xs) = x

-- another name begins with another letter, or is longer
begins_so : (name other : WordText) → name ≡ other → name ≡ codes "play" → (first_of other ≡ 112 → ⊥) → ⊥
begins_so name other e f differs = differs (sym (ap first_of e) ∙ ap first_of f)

has_length : (name other : WordText) → name ≡ other → name ≡ codes "play" → (length other ≡ 4 → ⊥) → ⊥
has_length name other e f differs = differs (sym (ap length e) ∙ ap length f)

pub play_only : (job : Job) (met : Option (WordText × List Row)) → IsJob job met → IsJob (Play true false) met → job ≡ Play true false
play_only list_job None x y = absurd (cc)
play_only list_job (Some p) x y = absurd (begins_so p.0 (codes "list") (ap (λ q. q.0) (same_Some _ _ x)) (ap (λ q. q.0) (same_Some _ _ y)) (λ (d : 108 ≡ 112). omega arith))
play_only (ListAt address) None x y = absurd (cc)
play_only (ListAt address) (Some p) x y = absurd (begins_so p.0 (codes "list") (ap (λ q. q.0) (same_Some _ _ x)) (ap (λ q. q.0) (same_Some _ _ y)) (λ (d : 108 ≡ 112). omega arith))
play_only Rom None x y = absurd (cc)
play_only Rom (Some p) x y = absurd (begins_so p.0 (codes "rom") (same_Some _ _ x) (ap (λ q. q.0) (same_Some _ _ y)) (λ (d : 114 ≡ 112). omega arith))
play_only (Picture form) None x y = absurd (cc)
play_only (Picture form) (Some p) x y = absurd (has_length p.0 (codes "picture") (ap (λ q. q.0) (same_Some _ _ x)) (ap (λ q. q.0) (same_Some _ _ y)) (λ (d : 7 ≡ 4). omega arith))
play_only (PictureSvg percent) None x y = absurd (cc)
play_only (PictureSvg percent) (Some p) x y = absurd (has_length p.0 (codes "picture") (ap (λ q. q.0) (same_Some _ _ x)) (ap (λ q. q.0) (same_Some _ _ y)) (λ (d : 7 ≡ 4). omega arith))
play_only (Check bound) None x y = absurd (cc)
play_only (Check bound) (Some p) x y = absurd (begins_so p.0 (codes "check") (ap (λ q. q.0) (same_Some _ _ x)) (ap (λ q. q.0) (same_Some _ _ y)) (λ (d : 99 ≡ 112). omega arith))
play_only (Play all banked) None x y = absurd (cc)
play_only (Play all banked) (Some p) x y = ap (λ q. Play q.2 q.3) (sym (same_Some _ _ x) ∙ same_Some _ _ y)
play_only (PlaySvg banked show) None x y = absurd (cc)
play_only (PlaySvg banked show) (Some p) x y =
    absurd (true≢false (sym (ap (λ q. q.1) (same_Some _ _ x)) ∙ ap (λ q. q.1) (same_Some _ _ y)))
play_only (Torn rule base) None x y = absurd (cc)
play_only (Torn rule base) (Some p) x y = absurd (begins_so p.0 (codes "torn") (ap (λ q. q.0) (same_Some _ _ x)) (ap (λ q. q.0) (same_Some _ _ y)) (λ (d : 116 ≡ 112). omega arith))
play_only (Render show) None x y = absurd (cc)
play_only (Render show) (Some p) x y = absurd (begins_so p.0 (codes "render") (ap (λ q. q.0) (same_Some _ _ x)) (ap (λ q. q.0) (same_Some _ _ y)) (λ (d : 114 ≡ 112). omega arith))
play_only RenderCheck None x y = absurd (cc)
play_only RenderCheck (Some p) x y = absurd (begins_so p.0 (codes "render") (ap (λ q. q.0) (same_Some _ _ x)) (ap (λ q. q.0) (same_Some _ _ y)) (λ (d : 114 ≡ 112). omega arith))
play_only Explain None x y = absurd (cc)
play_only Explain (Some p) x y = absurd (begins_so p.0 (codes "explain") (same_Some _ _ x) (ap (λ q. q.0) (same_Some _ _ y)) (λ (d : 101 ≡ 112). omega arith))
play_only (Game notes) None x y = absurd (cc)
play_only (Game notes) (Some p) x y = absurd (begins_so p.0 (codes "game") (ap (λ q. q.0) (same_Some _ _ x)) (ap (λ q. q.0) (same_Some _ _ y)) (λ (d : 103 ≡ 112). omega arith))
play_only (Lay form) None x y = absurd (cc)
play_only (Lay form) (Some p) x y = absurd (begins_so p.0 (codes "lay") (ap (λ q. q.0) (same_Some _ _ x)) (ap (λ q. q.0) (same_Some _ _ y)) (λ (d : 108 ≡ 112). omega arith))

pub job_is : {E : Type 0} (result : Result Job E) (met : Option (WordText × List Row)) → IfOk result (λ job. IsJob job met) → IsJob (Play true false) met → IfOk result (λ job. job ≡ Play true false)
job_is (Ok job) met x y = play_only job met x y
job_is (Err error) met x y = tt

pub no_fault_in : {T : Type 0} (r : Result T Unread) → IfErr r (λ fault. StopsReading fault tick_text) → IfErr r (λ fault. fault ≡ unread.Memory)
no_fault_in (Ok x) stops = tt
no_fault_in (Err fault) stops = no_fault fault stops

pub plays_tick : {T : Type 0} (known old new : Option (List ℕ)) (value : T) → known ≡ Some tick_text → IfSome known (λ input. Plays true (Ok value) input old new) → Appends old new peek_line
plays_tick None old new value e p = absurd (cc)
plays_tick (Some input) old new value e p =
    let q = subst (λ text. (log : Log) × PlaysTrace text log [] × Appends old new (log_text true log)) (same_Some _ _ e) p in
    played_text old new q.0 q.1 q.2

pub booted_stands : {a b : Action} {s1 s2 : Stage} → IsLife (Did a ∷ []) → ShowsFlag a false → StandsAfter s1 (peeked_after a 0 0) (Did a ∷ [])
    → ((peeked : ℕ) (life : List Item) → StandsAfter s1 peeked life → IsLife (Did b ∷ life)) → ShowsFlag b true
    → ((peeked : ℕ) (life : List Item) → StandsAfter s1 peeked life → StandsAfter s2 (peeked_after b 0 peeked) (Did b ∷ life))
    → StandsAfter s2 0 (Did (Read true) ∷ Did Peek ∷ [])
booted_stands {a = a} {b = b} {s1 = s1} {s2 = s2} life1 tells1 stands1 life2 tells2 stands2 =
    let first : a ≡ Peek = one_next [] false a Peek life1 peek_first tells1 tt in
    let at1 : StandsAfter s1 0 (Did Peek ∷ []) = subst (λ x. StandsAfter s1 (peeked_after x 0 0) (Did x ∷ [])) first stands1 in
    let second : b ≡ Read true = one_next (Did Peek ∷ []) true b (Read true) (life2 0 (Did Peek ∷ []) at1) read_second tells2 refl in
    subst (λ x. StandsAfter s2 (peeked_after x 0 0) (Did x ∷ Did Peek ∷ [])) second (stands2 0 (Did Peek ∷ []) at1)
