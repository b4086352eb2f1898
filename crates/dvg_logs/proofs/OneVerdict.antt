-- Of the text of a log one verdict is given at most, and none where a line tells nothing.
use Rattle.std.proofs.Common.{◌≡◌, ◌<◌, ◌+◌, ◌-◌, ℕ, suc, List, [], ◌∷◌, ◌++◌, codes, length, take, drop, reverse, refl, sym, ap, ◌∙◌, subst, arith, append_assoc, ⊎_elim, inl, inr, Option, Some, None}
use Rattle.std.specs.Prelude.{bytes_eq, if◌then◌else◌, unwrap_or}
use Rattle.std.specs.List.{AllZip}
use Rattle.std.specs.Str.Parse.{digits_value}
use Rattle.std.proofs.lemmas.Bool.{cases_lt}
use Rattle.std.proofs.lemmas.List.{reverse-append, reverse-reverse}
use Rattle.std.proofs.Math.Seq.{take-append_seam, take-append-add, drop-append_seam}
use Rattle.dvg_driver.specs.declared.action.Action.TheVariants.{Wrote}
use Rattle.dvg_log.specs.declared.entry.Entry.TheVariants.{Acted, Started, Low, Fetched, Done, Cleared}
use Rattle.dvg_log.specs.declared.event.Event.TheVariants.{Tick, Strobe, Fetch, ResetGen}
use Rattle.dvg_log.specs.Entries.{Shown}
use Rattle.dvg_log.specs.Events.{Happening}
use Rattle.dvg_log.specs.Log.{◌⟼◌, Line, Log, Throughout}
use Rattle.dvg_log.specs.Torn.{IsUntorn}
use Rattle.dvg_read.specs.Texts.{IsHex, lines}
use Rattle.dvg_read.specs.declared.fault.TextFault.TheVariants.{Syntax, TooLong}
use Rattle.dvg_print.specs.declared.log_verdict.LogFinding.TheVariants.{Torn}
use Rattle.dvg_print.specs.declared.log_verdict.LogVerdict.{LogVerdict}
use Rattle.dvg_read.proofs.Zips.{zip_same}
use Rattle.dvg_logs.specs.LogLines.{IsLogOf, IsWrittenAt, LogRow, IsLineOf, started, fetched, low, wrote, halted, reset, passed, logged}
use Rattle.dvg_logs.specs.declared.log_reading.LogStop.{LogStop}
use Rattle.dvg_logs.specs.declared.log_reading.LogStop.TheVariants as stop
use Rattle.dvg_logs.specs.LogLaws.{IsJudged}
use Rattle.dvg_logs.specs.LogReading as reading
use Rattle.dvg_logs.specs.LogTexts.{EndsUntorn, FindsTorn, HasLogFault, IsFoundAt, IsLogSo, JudgesLog, MeetsSyntax, Says, IsWhole}
use Rattle.dvg_logs.proofs.LogRows.{passed_alone, row_of}

-- ---- a line tells one thing at most

-- it is read back from the parts that spell it
abbrev hex : List ℕ → ℕ
hex = digits_value 16

abbrev read_back : (base : Option ℕ) → List (List ℕ) → Line
read_back base (name ∷ a ∷ n ∷ []) =
    if bytes_eq name (codes "fetched") then Fetch ⟼ Fetched (hex a) (hex n)
    else (if bytes_eq name (codes "low") then Fetch ⟼ Low (hex a) (hex n) else Tick ⟼ Acted (Wrote (hex a - unwrap_or base 0) (hex n)))
read_back base (name ∷ ps) =
    if bytes_eq name (codes "started") then Strobe ⟼ Started
    else (if bytes_eq name (codes "halted") then Fetch ⟼ Done 0 0 [] else ResetGen ⟼ Cleared)
read_back base [] = ResetGen ⟼ Cleared

written_back : (base : Option ℕ) {a : ℕ} (digits : List ℕ) → IsWrittenAt base a digits → hex digits - unwrap_or base 0 ≡ a
written_back None digits h = omega (arith, h.value)
written_back (Some base) digits h = omega (arith, h.value)

back : {base : Option ℕ} {line : Line} {ps : List (List ℕ)} → LogRow base line ps → read_back base ps ≡ line
back started = refl
back halted = refl
back reset = refl
back (fetched h k) = rw (h.value, k.value) refl
back (low h k) = rw (h.value, k.value) refl
back {base} (wrote ram h k) = rw (written_back base _ h, k.value) refl

row_once : {base : Option ℕ} {line other : Line} {ps : List (List ℕ)} → LogRow base line ps → LogRow base other ps → line ≡ other
row_once p q = sym (back p) ∙ back q

pub tells_once : {base : Option ℕ} (line other : Line) (text : List ℕ) → IsLineOf base line text → IsLineOf base other text → line ≡ other
tells_once line other text (passed short is) also = passed_alone text is also
tells_once line other text (logged short not row) also = row_once row (row_of text not also)

-- lines tell one log at most
pub log_once : (base : Option ℕ) (log other : Log) (texts : List (List ℕ)) → IsLogOf base log texts → IsLogOf base other texts → log ≡ other
log_once base log other texts one two =
    sym (reverse-reverse log) ∙ (ap reverse (zip_same (IsLineOf base) tells_once (reverse log) (reverse other) texts one two) ∙ reverse-reverse other)

-- ---- the lines before a line, and what they tell

-- the lines before one tell a log, and the line goes on with it
record Front (base : Option ℕ) (log : Log) (before : List (List ℕ)) (text : List ℕ) : Type 0 where
  pub later : Log
  pub line : Line
  pub older : Log
  pub split : log ≡ later ++ line ∷ older
  pub tells_older : IsLogOf base older before
  pub tells : IsLineOf base line text

-- the same of what lines tell, the oldest first
record Cut (base : Option ℕ) (all : List Line) (before : List (List ℕ)) (text : List ℕ) : Type 0 where
  pub front : List Line
  pub line : Line
  pub back : List Line
  pub split : all ≡ front ++ line ∷ back
  pub tells_front : AllZip (IsLineOf base) front before
  pub tells : IsLineOf base line text

cut_of : {base : Option ℕ} (all : List Line) (before : List (List ℕ)) (text : List ℕ) (after : List (List ℕ)) → AllZip (IsLineOf base) all (before ++ text ∷ after) → Cut base all before text
cut_of [] [] text after zip = absurd zip
cut_of [] (t ∷ before) text after zip = absurd zip
cut_of (line ∷ all) [] text after zip = record { front = []; line = line; back = all; split = refl; tells_front = tt; tells = zip.0 }
cut_of (line ∷ all) (t ∷ before) text after zip =
    let rest = cut_of all before text after zip.1 in
    record { front = line ∷ rest.front; line = rest.line; back = rest.back; split = ap (λ ls. line ∷ ls) rest.split; tells_front = (zip.0, rest.tells_front); tells = rest.tells }

front_of : {base : Option ℕ} (log : Log) (before : List (List ℕ)) (text : List ℕ) (after : List (List ℕ)) → IsLogOf base log (before ++ text ∷ after) → Front base log before text
front_of {base = base} log before text after log_of =
    let cut = cut_of (reverse log) before text after log_of in
    let turned : reverse (cut.front ++ cut.line ∷ cut.back) ≡ (reverse cut.back ++ cut.line ∷ []) ++ reverse cut.front
    = reverse-append cut.front (cut.line ∷ cut.back) ∙ ap (λ ls. ls ++ reverse cut.front) (reverse-append (cut.line ∷ []) cut.back) in
    record {
      later = reverse cut.back;
      line = cut.line;
      older = reverse cut.front;
      split = sym (reverse-reverse log) ∙ (ap reverse cut.split ∙ (turned ∙ append_assoc (reverse cut.back) (cut.line ∷ []) (reverse cut.front)));
      tells_older = subst (λ ls. AllZip (IsLineOf base) ls before) (sym (reverse-reverse cut.front)) cut.tells_front;
      tells = cut.tells;
    }

-- ---- the line at which a text stops

-- what holds throughout a log holds throughout an older part of it
behind_all : (P : Log → Happening → Shown → Type 0) (later log : Log) → Throughout P (later ++ log) → Throughout P log
behind_all P [] log all = all
behind_all P ((event ⟼ entry) ∷ later) log all = behind_all P later log all.1

-- of a line this holds or doesn't, after the log before it
abbrev pub Of : (Log → Happening → Shown → Type 0) → Log → Line → Type 0
Of P log (event ⟼ entry) = P log event entry

first_of : (P : Log → Happening → Shown → Type 0) (log : Log) (line : Line) → Throughout P (line ∷ log) → Of P log line
first_of P log (event ⟼ entry) all = all.0

-- of line number k, counted from 0, this doesn't hold, or it tells nothing; and it holds of each before it
pub record StopsAt (base : Option ℕ) (P : Log → Happening → Shown → Type 0) (texts : List (List ℕ)) (k : ℕ) : Type 0 where
  pub before : List (List ℕ)
  pub line : List ℕ
  pub after : List (List ℕ)
  pub cut : texts ≡ before ++ line ∷ after
  pub at : length before ≡ k
  pub log : Log
  pub fine : IsLogSo base (Throughout P) log before
  pub stops : (logged : Line) → IsLineOf base logged line → ¬ Of P log logged

module _ {base : Option ℕ} (P : Log → Happening → Shown → Type 0) where
  -- no line among those of which it holds stops a text
  stops_none : {texts : List (List ℕ)} {k : ℕ} (log : Log) (more : List (List ℕ)) (stop : StopsAt base P texts k) → IsLogSo base (Throughout P) log (stop.before ++ stop.line ∷ more) → ⊥
  stops_none log more stop fine =
      let front = front_of log stop.before stop.line more fine.tells in
      let all = behind_all P front.later (front.line ∷ front.older) (subst (Throughout P) front.split fine.holds) in
      let same = log_once _ front.older stop.log stop.before front.tells_older stop.fine.tells in
      stop.stops front.line front.tells (subst (λ log. Of P log front.line) same (first_of P front.older front.line all))

  -- a text that stops at a line stops at no later one
  stops_sooner : {texts : List (List ℕ)} {k j : ℕ} → StopsAt base P texts k → StopsAt base P texts j → k < j → ⊥
  stops_sooner {texts} {k} {j} one two sooner =
      let m = j - suc k in
      let p = one.at in
      let q = two.at in
      let far : length two.before ≡ length one.before + suc m = omega arith in
      let is : two.before ≡ one.before ++ one.line ∷ take m one.after
      = sym (take-append_seam two.before (two.line ∷ two.after)) ∙ (ap (take (length two.before)) (sym two.cut ∙ one.cut)
      ∙ (ap (λ n. take n (one.before ++ one.line ∷ one.after)) far ∙ take-append-add one.before (one.line ∷ one.after) (suc m))) in
      stops_none two.log (take m one.after) one (subst (IsLogSo base (Throughout P) two.log) is two.fine)

  pub one_stop : {texts : List (List ℕ)} {k j : ℕ} → StopsAt base P texts k → StopsAt base P texts j → k ≡ j
  one_stop {texts} {k} {j} one two =
      ⊎_elim (λ less. absurd (stops_sooner one two less)) (λ not_less. ⊎_elim (λ less. absurd (stops_sooner two one less)) (λ also. omega arith) (cases_lt j k)) (cases_lt k j)

  pub syntax_stops : {texts : List (List ℕ)} {n : ℕ} (at_fault : MeetsSyntax base (Throughout P) texts n) → StopsAt base P texts (length at_fault.before)
  syntax_stops at_fault = record { before = at_fault.before; line = at_fault.line; after = at_fault.after; cut = at_fault.cut; at = refl; log = at_fault.log; fine = at_fault.fine; stops = λ logged tells. absurd (at_fault.wrong logged tells) }

  pub never_stops : {texts : List (List ℕ)} {k : ℕ} (log : Log) → IsLogSo base (Throughout P) log texts → StopsAt base P texts k → ⊥
  never_stops log fine stop = stops_none log stop.after stop (subst (IsLogSo base (Throughout P) log) stop.cut fine)

-- two lines at one place are one
pub same_lines : {texts : List (List ℕ)} (before other : List (List ℕ)) (x y : List ℕ) (after rest : List (List ℕ)) → texts ≡ before ++ x ∷ after → texts ≡ other ++ y ∷ rest → length before ≡ length other → x ≡ y
same_lines before other x y after rest one two e =
    let behind : x ∷ after ≡ y ∷ rest = sym (drop-append_seam before (x ∷ after)) ∙ (ap (drop (length before)) (sym one ∙ two) ∙ (ap (λ n. drop n (other ++ y ∷ rest)) e ∙ drop-append_seam other (y ∷ rest))) in
    cc

-- and so is what stands before them
pub same_fronts : {texts : List (List ℕ)} (before other : List (List ℕ)) (x y : List ℕ) (after rest : List (List ℕ)) → texts ≡ before ++ x ∷ after → texts ≡ other ++ y ∷ rest → length before ≡ length other → before ≡ other
same_fronts before other x y after rest one two e =
    sym (take-append_seam before (x ∷ after)) ∙ (ap (take (length before)) (sym one ∙ two) ∙ (ap (λ n. take n (other ++ y ∷ rest)) e ∙ take-append_seam other (y ∷ rest)))

-- ---- what is said of lines

module _ {V : Type 0} (base : Option ℕ) (P : Log → Happening → Shown → Type 0) (Finds : V → Line → Log → Type 0) (Ends : V → Log → Type 0)
    (unsound : (said : V) (line : Line) (log : Log) → Finds said line log → ¬ Of P log line) where
  found_stops : {texts : List (List ℕ)} {n : ℕ} {said : V} (found : IsFoundAt base (Throughout P) Finds texts n said) → StopsAt base P texts (length found.before)
  found_stops {said = said} found = record {
    before = found.before;
    line = found.text;
    after = found.after;
    cut = found.cut;
    at = refl;
    log = found.log;
    fine = found.fine;
    stops = λ logged tells. subst (λ line. ¬ Of P found.log line) (tells_once found.line logged found.text found.tells tells) (unsound said found.line found.log found.finds);
  }

  -- no line is at fault before or where something is said
  pub no_fault : (texts : List (List ℕ)) (said : V) (decided : Option ℕ) (n : ℕ) → Says base (Throughout P) Finds Ends said texts decided → ¬ MeetsSyntax base (Throughout P) texts n
  no_fault texts said None n (log, whole, ends) at_fault = never_stops P log whole.fine (syntax_stops P at_fault)
  no_fault texts said (Some m) n found at_fault =
      let at = one_stop P (found_stops found) (syntax_stops P at_fault) in
      let line = same_lines found.before at_fault.before found.text at_fault.line found.after at_fault.after found.cut at_fault.cut at in
      at_fault.wrong found.line (subst (IsLineOf base found.line) line found.tells)

  module _ (finds_once : (one other : V) (line : Line) (log : Log) → Finds one line log → Finds other line log → other ≡ one)
      (ends_once : (one other : V) (log : Log) → Ends one log → Ends other log → other ≡ one) where
    found_once : (texts : List (List ℕ)) (n m : ℕ) (one other : V) → IsFoundAt base (Throughout P) Finds texts n one → IsFoundAt base (Throughout P) Finds texts m other → other ≡ one
    found_once texts n m one other a b =
        let at = one_stop P (found_stops b) (found_stops a) in
        let line = same_lines b.before a.before b.text a.text b.after a.after b.cut a.cut at in
        let before = same_fronts b.before a.before b.text a.text b.after a.after b.cut a.cut at in
        let log = log_once _ b.log a.log a.before (subst (IsLogOf base b.log) before b.fine.tells) a.fine.tells in
        let said = tells_once b.line a.line a.text (subst (IsLineOf base b.line) line b.tells) a.tells in
        finds_once one other a.line a.log a.finds (subst (λ line. Finds other line a.log) said (subst (Finds other b.line) log b.finds))

    -- one thing is
    pub one_said : (texts : List (List ℕ)) (one other : V) (at end : Option ℕ) → Says base (Throughout P) Finds Ends one texts at → Says base (Throughout P) Finds Ends other texts end → other ≡ one
    one_said texts one other None None (log, whole, says) (same, also, ends) =
        let is = log_once _ same log texts also.fine.tells whole.fine.tells in
        ends_once one other log says (subst (Ends other) is ends)
    one_said texts one other None (Some m) (log, whole, says) found = absurd (never_stops P log whole.fine (found_stops found))
    one_said texts one other (Some n) None found (log, whole, says) = absurd (never_stops P log whole.fine (found_stops found))
    one_said texts one other (Some n) (Some m) a b = found_once texts n m one other a b

-- ---- by the rule of halves

is_wrong : (verdict : LogVerdict) (line : Line) (log : Log) → FindsTorn verdict line log → ¬ Of IsUntorn log line
is_wrong verdict (event ⟼ entry) log finds untorn = untorn finds.torn

same_torn : (one other : LogVerdict) (line : Line) (log : Log) → FindsTorn one line log → FindsTorn other line log → other ≡ one
same_torn one other line log a b =
    let is : Tick ⟼ Acted (Wrote b.address b.byte) ≡ Tick ⟼ Acted (Wrote a.address a.byte) = sym b.is ∙ a.is in
    let address : b.address ≡ a.address = cc in
    let byte : b.byte ≡ a.byte = cc in
    let finding = b.finding ∙ (ap (λ a. Torn (length log + 1) a b.byte) address ∙ (ap (Torn (length log + 1) a.address) byte ∙ sym a.finding)) in
    let counts = b.counts ∙ sym a.counts in
    rw (finding, counts)

pub one_verdict : (base : Option ℕ) (text : List ℕ) (one other : LogVerdict) → JudgesLog base text one → JudgesLog base text other → other ≡ one
one_verdict base text one other (at, a) (end, b) =
    one_said base IsUntorn FindsTorn EndsUntorn is_wrong same_torn (λ one other log a b. b ∙ sym a) (lines text) one other at end a b

pub one_fault : (base : Option ℕ) (text : List ℕ) (n m : ℕ) → HasLogFault base text (Syntax n) → HasLogFault base text (Syntax m) → m ≡ n
one_fault base text n m a b =
    let at = one_stop IsUntorn (syntax_stops IsUntorn a) (syntax_stops IsUntorn b) in
    let p = a.number in
    let q = b.number in
    omega arith

pub no_verdict_beside_fault : (base : Option ℕ) (text : List ℕ) (verdict : LogVerdict) (n : ℕ) → JudgesLog base text verdict → ¬ HasLogFault base text (Syntax n)
no_verdict_beside_fault base text verdict n (decided, judged) = no_fault base IsUntorn FindsTorn EndsUntorn is_wrong (lines text) verdict decided n judged

pub judged_at : {base : Option ℕ} (text : List ℕ) (why : LogStop LogVerdict) → reading.StopsAt base (Throughout IsUntorn) FindsTorn why (lines text) → IsJudged base text
judged_at text (stop.Found n verdict) stops = inl (verdict, (Some n, stops))
judged_at text (stop.Syntax n) stops = inr (Syntax n, stops)
judged_at text stop.TooLong stops = inr (TooLong, stops)

pub judged_whole : (base : Option ℕ) (text : List ℕ) (verdict : LogVerdict) → (log : Log) × IsWhole base (Throughout IsUntorn) (lines text) log × EndsUntorn verdict log → IsJudged base text
judged_whole base text verdict says = inl (verdict, (None, says))
