-- From what was read of a trace to what the reader had.
use Rattle.std.proofs.Common.{◌≡◌, ◌+◌, ℕ, List, [], inl, inr, ⊎_elim, Bool, true, false, Option, Result, Err, length, take, length-take, ap, subst, sym, arith}
use Rattle.std.specs.Io.KnownBytes.{Appends}
use Rattle.dvg_read.specs.declared.fault.TextFault.{TextFault}
use Rattle.dvg_read.specs.declared.fault.TextFault.TheVariants.{TooLong, Syntax, Full, Many, Unended}
use Rattle.dvg_read.specs.declared.fault.Unread.{Unread}
use Rattle.dvg_read.specs.declared.fault.Unread.TheVariants as unread
use Rattle.dvg_read.specs.TraceGives.{StopsReading}
use Rattle.dvg_read.specs.TraceTexts.{HasTraceFault, TraceMeetsSyntax, TraceMeetsFull, MeetsMany, EndsInside}
use Rattle.dvg_io.specs.declared.fault.ToolFault.{ToolFault}
use Rattle.dvg_io.specs.declared.fault.ToolFault.TheVariants.{Text, Reader, Writer, Memory}
use Rattle.dvg_io.specs.declared.watched.Watched.{Watched}
use Rattle.dvg_io.specs.Faults.{ComesBeforeText}
use Rattle.dvg_io.specs.Serving.{Answers, IsFinding, OfInput}
use Rattle.dvg_io.specs.Watching.{BeginsToWrite, stream_of}
use Rattle.dvg_io.proofs.Inputs.{whole}
use Rattle.dvg_io.proofs.KnownBytesChain.{Appends-nil}
use Rattle.dvg_tool.specs.Plays.{IsShown, Plays, StopsBeforeShowing, log_text}
use Rattle.dvg_read.specs.declared.draft_text.TheConstants.{MOST_TEXT_BYTES}

-- the fault of what was read is that of the input
faulted : (fault : TextFault) (input read : List ℕ) → read ≡ take (MOST_TEXT_BYTES + 1) input → HasTraceFault read fault → HasTraceFault input fault
faulted TooLong input read e h = omega (arith, ap length e, length-take (MOST_TEXT_BYTES + 1) input)
faulted (Syntax n) input read e h = subst (λ text. TraceMeetsSyntax text n) (whole MOST_TEXT_BYTES read input e h.reaches.short) h
faulted (Full n) input read e h = subst (λ text. TraceMeetsFull text n) (whole MOST_TEXT_BYTES read input e h.reaches.short) h
faulted (Many n) input read e h = subst (λ text. MeetsMany text n) (whole MOST_TEXT_BYTES read input e h.reaches.short) h
faulted Unended input read e h = subst EndsInside (whole MOST_TEXT_BYTES read input e h.short) h
faulted _ input read e h = absurd h

-- the trace is at fault, or memory was refused
misread_by : {F : Type 0} (Finds : List ℕ → F → Type 0) (stop : Unread) (read : List ℕ) → StopsReading stop read
    → OfInput MOST_TEXT_BYTES read (λ input. IsFinding {F = F} (Finds input) (HasTraceFault input) (Err stop))
misread_by Finds (unread.Text fault) read h input e = faulted fault input read e h
misread_by Finds unread.Memory read h input e = tt

pub misread : {F : Type 0} (Finds : List ℕ → F → Type 0) (answer : Result F Unread) (stop : Unread) (read : List ℕ) → answer ≡ Err stop
    → StopsReading stop read → OfInput MOST_TEXT_BYTES read (λ input. IsFinding (Finds input) (HasTraceFault input) answer)
misread Finds answer stop read is h =
    subst (λ answer. OfInput MOST_TEXT_BYTES read (λ input. IsFinding (Finds input) (HasTraceFault input) answer)) (sym is) (misread_by Finds stop read h)

-- or up to where it stopped
pub plays_part : (T : Type 0) (all : Bool) (shown : List ℕ) (old new : Option (List ℕ)) (input : List ℕ)
    → IsShown all false input shown × Appends old new shown → Plays {T = T} all (Err Memory) input old new
plays_part T all shown old new input h =
    let wrote = subst (Appends old new) h.0.holds h.1 in
    ⊎_elim
    (λ none. inl (subst (Appends old new) (ap (log_text all) none) wrote))
    (λ stops. inr (record { log = h.0.log; later = h.0.later; played = h.0.played; ends = stops; holds = wrote }))
    h.0.ends

-- or the writer failed
pub broke_off : (T : Type 0) (all is_whole : Bool) (shown : List ℕ) (old new : Option (List ℕ)) (input : List ℕ)
    → IsShown all is_whole input shown → BeginsToWrite shown old new → Plays {T = T} all (Err Writer) input old new
broke_off T all true shown old new input run begun =
    record { log = run.log; later = run.later; played = run.played; ends = inl run.ends; holds = subst (λ text. BeginsToWrite text old new) run.holds begun }
broke_off T all false shown old new input run begun =
    record { log = run.log; later = run.later; played = run.played; ends = inr run.ends; holds = subst (λ text. BeginsToWrite text old new) run.holds begun }

-- where it stops
pub stops : {F W : Type 0} (T : Type 0) (all : Bool) (Finds : List ℕ → F → Type 0) (is_whole : F → Bool) (text : F → List ℕ) (fault : ToolFault) (contents : W → Option (List ℕ)) (old new : Watched W) (input : List ℕ)
    → ((found : F) → Finds input found → IsShown all (is_whole found) input (text found)) → (ComesBeforeText fault → new ≡ old)
    → Answers Finds HasTraceFault text (Err fault) input (contents (stream_of old)) (contents (stream_of new))
    → Plays {T = T} all (Err fault) input (contents (stream_of old)) (contents (stream_of new))
stops T all Finds is_whole text (Text fault) contents old new input shows same h = h
stops T all Finds is_whole text Reader contents old new input shows same h = tt
stops T all Finds is_whole text Memory contents old new input shows same h =
    inl (subst (λ writer. Appends (contents (stream_of old)) (contents (stream_of writer)) []) (sym (same (λ is. cc))) (Appends-nil (contents (stream_of old))))
stops T all Finds is_whole text Writer contents old new input shows same (run, found, begun) =
    broke_off T all (is_whole run) (text run) _ _ input (shows run found) begun

-- what comes before the first line is shown comes before the first write
pub earlier : (fault : ToolFault) → StopsBeforeShowing fault → ComesBeforeText fault
earlier (Text fault) early = λ is. cc
earlier Reader early = λ is. cc
earlier Writer early = absurd early
earlier Memory early = absurd early
