-- How the torn runs of a log are told, and what is answered at last.
use Rattle.std.proofs.Common.{◌≡◌, ◌<◌, ◌≤◌, ◌+◌, ◌%◌, ◌^◌, ℕ, List, [], ◌∷◌, ◌++◌, flat_map, length, reverse, Option, Some, None, IfSome, IsNone, Result, Ok, Err, refl, sym, ap, ◌∙◌, subst, arith, append_assoc, append-nil, length-append, inl, inr, ◌⊎◌, Bool, true, false, cond, eqb}
use Rattle.std.proofs.lemmas.List.{reverse-append}
use Rattle.std.proofs.lemmas.Grind.{flat_map-append}
use Rattle.std.specs.Io.KnownBytes.{Appends, Consumes, IsAtEnd}
use Rattle.dvg_log.specs.Log.{◌⟼◌, Line, Log}
use Rattle.dvg_read.specs.Texts.{lines}
use Rattle.dvg_print.specs.declared.moment_verdict.MomentVerdict.{MomentVerdict}
use Rattle.dvg_print.specs.declared.moment_verdict.MomentVerdict.TheVariants as say
use Rattle.dvg_print.specs.MomentVerdicts.{moment_verdict_text}
use Rattle.dvg_io.specs.declared.fault.ToolFault.{ToolFault}
use Rattle.dvg_io.specs.declared.fault.ToolFault.TheVariants.{Text, Reader, Writer, Memory}
use Rattle.dvg_io.specs.Watching.{BeginsToWrite}
use Rattle.dvg_io.proofs.KnownBytesChain.{Appends-trans}
use Rattle.dvg_io.proofs.WrittenSoFar.{second_begun}
use Rattle.dvg_logs.specs.AllTears.{AllTakes, AllTears, AreSaid, AreTears, EndsAll, IsTear, JudgesAll, TellsAs, of_all, texts_of}
use Rattle.dvg_logs.specs.LogReading.{HasJudged, HasRead, IfDecided, StopsAt, number_of}
use Rattle.dvg_logs.specs.LogTexts.{IsFoundAt, IsWhole}
use Rattle.dvg_logs.specs.MomentLines.{StandsSo}
use Rattle.dvg_logs.specs.MomentLogs.{AreDecided, Decides, Ends}
use Rattle.dvg_logs.specs.Tears.{TakesUpTo}
use Rattle.dvg_logs.specs.Telling.{EndsSo, EndsWhole, HasTold, ListsTears, TellsLast, TellsTear, failed_by}
use Rattle.dvg_logs.specs.declared.log_reading.JudgedLines.{JudgedLines}
use Rattle.dvg_logs.specs.declared.log_reading.LogReading.{LogReading}
use Rattle.dvg_logs.specs.declared.moment_lines.MomentLines.{MomentLines}
use Rattle.dvg_logs.specs.declared.log_reading.LogStop.{LogStop}
use Rattle.dvg_logs.specs.declared.log_reading.LogStop.TheVariants.{Found, Syntax, TooLong}
use Rattle.dvg_logs.specs.declared.tears_all.Telling.{Telling}
use Rattle.dvg_logs.proofs.Inputs.{taken_up_to}
use Rattle.dvg_logs.proofs.LogReads.{fine_more, log_length}

-- ---- what is told

-- one more is told after the others
pub texts_more : (one : MomentVerdict) (said : List MomentVerdict) → texts_of (one ∷ said) ≡ texts_of said ++ moment_verdict_text one
texts_more one said =
    ap (flat_map moment_verdict_text) (reverse-append (one ∷ []) said)
    ∙ (flat_map-append moment_verdict_text (reverse said) (one ∷ []) ∙ ap (λ l. texts_of said ++ l) (append-nil (moment_verdict_text one)))

pub wrote_more : (one : MomentVerdict) (said : List MomentVerdict) (old now new : Option (List ℕ)) → Appends old now (texts_of said) → Appends now new (moment_verdict_text one) → Appends old new (texts_of (one ∷ said))
wrote_more one said old now new first second =
    subst (Appends old new) (sym (texts_more one said)) (Appends-trans old now new (texts_of said) (moment_verdict_text one) first second)

pub begun_more : (one : MomentVerdict) (said : List MomentVerdict) (old now new : Option (List ℕ)) → Appends old now (texts_of said) → BeginsToWrite (moment_verdict_text one) now new → BeginsToWrite (texts_of (one ∷ said)) old new
begun_more one said old now new first second =
    subst (λ text. BeginsToWrite text old new) (sym (texts_more one said)) (second_begun (texts_of said) (moment_verdict_text one) first second)

-- no more is said than there are lines
decided_few : (said : List MomentVerdict) (log : Log) → AreDecided said log → length said ≤ length log
decided_few [] log are = omega arith
decided_few (one ∷ said) [] are = absurd are
decided_few (one ∷ said) ((event ⟼ entry) ∷ log) (inl (sound, are)) = omega (arith, decided_few (one ∷ said) log are)
decided_few (one ∷ said) ((event ⟼ entry) ∷ log) (inr (decides, are)) = omega (arith, decided_few said log are)

-- so their count fits
pub count_fits : (base : Option ℕ) (said : List MomentVerdict) (judged : JudgedLines MomentLines) (texts : List (List ℕ)) → HasJudged base StandsSo (AreDecided said) judged texts → length said < 2 ^ 64
count_fits base said judged texts fine =
    omega (arith, decided_few said fine.log fine.fine.holds, log_length base fine.log texts fine.fine.tells, fine.count, fine.fits)

-- a torn run more is told
pub told_more : {H G : List MomentVerdict → Type 0} (torn next : ℕ) (one : MomentVerdict) (old now new : Option (List ℕ)) (told : ListsTears old now H torn) → IsTear one → Appends now new (moment_verdict_text one)
    → G (one ∷ told.tears) → length (one ∷ told.tears) < 2 ^ 64 → next ≡ (torn + 1) % 2 ^ 64 → ListsTears old new G next
told_more torn next one old now new told tear wrote holds fits is = record {
  tears = one ∷ told.tears;
  are = (tear, told.are);
  holds = holds;
  torn_is = omega (arith, is, told.torn_is, fits);
  wrote = wrote_more one told.tears old now new told.wrote wrote;
}

-- what holds of the same runs
pub told_as : {H G : List MomentVerdict → Type 0} (torn : ℕ) (old now : Option (List ℕ)) (told : ListsTears old now H torn) → G told.tears → ListsTears old now G torn
told_as torn old now told holds = record { tears = told.tears; are = told.are; holds = holds; torn_is = told.torn_is; wrote = told.wrote }

-- where the reading goes on, a torn run is told
pub record Tear (P : MomentVerdict → Type 0) (old new : Option (List ℕ)) : Type 0 where
  pub one : MomentVerdict
  pub tear : IsTear one
  pub wrote : Appends old new (moment_verdict_text one)
  pub holds : P one

pub tear_of : {P : MomentVerdict → Type 0} (stop : LogStop MomentVerdict) (old new : Option (List ℕ)) → TellsTear stop old new → IfDecided stop P → Tear P old new
tear_of (Found n one) old new tells on = record { one = one; tear = tells.0; wrote = tells.1; holds = on }
tear_of (Syntax n) old new tells on = absurd tells
tear_of TooLong old new tells on = absurd tells

-- ---- the end of a log

no_tear : (torn : ℕ) (said : MomentVerdict) (log : Log) → Ends said log → ¬ IsTear (of_all torn said)
no_tear torn (say.Whole runs halted judged) log ends tear = by_case (eqb torn 0) tear
  where
    by_case : (none : Bool) → IsTear (cond none (say.Whole runs halted judged) (say.SomeTorn runs halted torn)) → ⊥
    by_case true tear = tear
    by_case false tear = tear
no_tear torn (say.NoRun runs halted) log ends tear = by_case (eqb torn 0) tear
  where
    by_case : (none : Bool) → IsTear (cond none (say.NoRun runs halted) (say.SomeTorn runs halted torn)) → ⊥
    by_case true tear = tear
    by_case false tear = tear
no_tear torn (say.Torn n reading) log ends tear = ends
no_tear torn (say.Contradicts n reading) log ends tear = ends
no_tear torn (say.SomeTorn runs halted count) log ends tear = ends

pub no_tear_at : (torn : ℕ) (verdict : MomentVerdict) (log : Log) → EndsAll torn verdict log → ¬ IsTear verdict
no_tear_at torn verdict log (said, ends, is) tear = no_tear torn said log ends (subst IsTear is tear)

-- what is said at the end of all lines
pub judges_end : (base : Option ℕ) (torn : ℕ) (tears : List MomentVerdict) (verdict said : MomentVerdict) (text : List ℕ) → AreTears tears → torn ≡ length tears → verdict ≡ of_all torn said
    → ((log : Log) × IsWhole base (AreDecided tears) (lines text) log × Ends said log) → JudgesAll base text tears verdict None
judges_end base torn tears verdict said text are count is (log, whole, ends) =
    let all : EndsAll (length tears) verdict log = (said, ends, is ∙ ap (λ n. of_all n said) count) in
    (are, no_tear_at (length tears) verdict log all, (log, whole, all))

-- ---- what is answered

-- a line that decides is said after the others
pub decided_more : (one : MomentVerdict) (said : List MomentVerdict) (line : Line) (log : Log) → Decides one line log → AreDecided said log → AreDecided (one ∷ said) (line ∷ log)
decided_more one said (event ⟼ entry) log decides are = inr (decides, are)

said_at : {base : Option ℕ} (tears : List MomentVerdict) (texts : List (List ℕ)) (n : ℕ) (one : MomentVerdict) → IsFoundAt base (AreDecided tears) Decides texts n one → AreSaid base (one ∷ tears) texts n
said_at tears texts n one found = record {
  before = found.before ++ found.text ∷ [];
  after = found.after;
  cut = found.cut ∙ sym (append_assoc found.before (found.text ∷ []) found.after);
  number = omega (arith, found.number, length-append found.before (found.text ∷ []));
  log = found.line ∷ found.log;
  fine = fine_more found.log found.before found.line found.text found.fine found.tells (decided_more one tears found.line found.log found.finds found.fine.holds);
}

module _ (base : Option ℕ) (input : List ℕ) (old new first now last : Option (List ℕ)) (tears : List MomentVerdict) (are : AreTears tears) (wrote : Appends first now (texts_of tears)) where
  answers_by : (stop : LogStop MomentVerdict) (answer : Result MomentVerdict ToolFault) → StopsAt base (AreDecided tears) Decides stop (lines input) → TakesUpTo (number_of stop) input old new → TellsLast stop answer now last → TellsAs base answer input old new first last
  answers_by (Found n one) (Ok verdict) stops takes tells =
      subst (λ verdict. TellsAs base (Ok verdict) input old new first last) (sym tells.0)
      (tears, Some n, (are, tells.1, stops), takes, wrote_more one tears first now last wrote tells.2)
  answers_by (Found n one) (Err Writer) stops takes tells = (tears, one, Some n, (are, said_at tears (lines input) n one stops), takes, begun_more one tears first now last wrote tells)
  answers_by (Found n one) (Err (Text fault)) stops takes tells = absurd tells
  answers_by (Found n one) (Err Reader) stops takes tells = absurd tells
  answers_by (Found n one) (Err Memory) stops takes tells = absurd tells
  answers_by (Syntax n) (Err (Text fault)) stops takes tells =
      subst (λ fault. TellsAs base (Err (Text fault)) input old new first last) (sym tells.0)
      (tears, (are, stops), takes, subst (λ last. Appends first last (texts_of tears)) (sym tells.1) wrote)
  answers_by (Syntax n) (Ok verdict) stops takes tells = absurd tells
  answers_by (Syntax n) (Err Writer) stops takes tells = absurd tells
  answers_by (Syntax n) (Err Reader) stops takes tells = absurd tells
  answers_by (Syntax n) (Err Memory) stops takes tells = absurd tells
  answers_by TooLong (Err (Text fault)) stops takes tells =
      subst (λ fault. TellsAs base (Err (Text fault)) input old new first last) (sym tells.0)
      (tears, (are, stops), takes, subst (λ last. Appends first last (texts_of tears)) (sym tells.1) wrote)
  answers_by TooLong (Ok verdict) stops takes tells = absurd tells
  answers_by TooLong (Err Writer) stops takes tells = absurd tells
  answers_by TooLong (Err Reader) stops takes tells = absurd tells
  answers_by TooLong (Err Memory) stops takes tells = absurd tells

module _ (base : Option ℕ) (first last : Option (List ℕ)) (answer : Result MomentVerdict ToolFault) where
  told_known : {H : Log → Type 0} (reading : LogReading MomentLines) (text piece rest : List ℕ) (read : HasRead base StandsSo H reading text) → length piece ≤ 32768 → EndsSo base first last answer (lines (text ++ (piece ++ rest))) reading.judged.count
      → TellsAs base answer (text ++ (piece ++ rest)) (Some (text ++ (piece ++ rest))) (Some rest) first last
  told_known reading text piece rest read short ends =
      answers_by base (text ++ (piece ++ rest)) (Some (text ++ (piece ++ rest))) (Some rest) first ends.now last ends.tears ends.are ends.wrote ends.stop answer ends.stops
      (taken_up_to reading (number_of ends.stop) text piece rest read short (omega (arith, read.fine.count, ends.later))) ends.last

  -- the reading stopped in a piece
  pub told_stops : {H : Log → Type 0} (reading : LogReading MomentLines) (known now new : Option (List ℕ)) (text piece : List ℕ) (read : HasRead base StandsSo H reading text) → length piece ≤ 32768
      → ((more : List ℕ) → EndsSo base first last answer (lines (text ++ (piece ++ more))) reading.judged.count) → Consumes known now text → Consumes now new piece → IfSome known (λ input. TellsAs base answer input known new first last)
  told_stops reading None now new text piece read short ends before takes = tt
  told_stops reading (Some input) None new text piece read short ends before takes = absurd before
  told_stops reading (Some input) (Some left) None text piece read short ends before takes = absurd takes
  told_stops reading (Some input) (Some left) (Some rest) text piece read short ends before takes =
      let is : input ≡ text ++ (piece ++ rest) = before ∙ ap (λ l. text ++ l) takes in
      subst (λ input. TellsAs base answer input (Some input) (Some rest) first last) (sym is) (told_known reading text piece rest read short (ends rest))

  whole_known : (answer : Result MomentVerdict ToolFault) (text : List ℕ) (new : Option (List ℕ)) → Consumes (Some text) new text → IsAtEnd new → EndsWhole base first last answer text → TellsAs base answer text (Some text) new first last
  whole_known (Ok verdict) text new all at_end (tears, judges, wrote) = (tears, None, judges, (all, at_end), wrote)
  whole_known (Err Writer) text new all at_end (tears, verdict, judges, begun) = (tears, verdict, None, judges, (all, at_end), begun)
  whole_known (Err (Text fault)) text new all at_end ends = absurd ends
  whole_known (Err Reader) text new all at_end ends = absurd ends
  whole_known (Err Memory) text new all at_end ends = absurd ends

  -- or the text ended
  pub told_ends : {H : Log → Type 0} (reading : LogReading MomentLines) (known now new : Option (List ℕ)) (text : List ℕ) (read : HasRead base StandsSo H reading text)
      → EndsSo base first last answer (lines text) reading.judged.count ⊎ EndsWhole base first last answer text → Consumes known now text → Consumes now new [] → IsAtEnd new → IfSome known (λ input. TellsAs base answer input known new first last)
  told_ends reading None now new text read ends before takes at_end = tt
  told_ends reading (Some input) None new text read ends before takes at_end = absurd before
  told_ends reading (Some input) (Some left) None text read ends before takes at_end = absurd takes
  told_ends reading (Some input) (Some left) (Some rest) text read (inl ends) before takes at_end =
      let is : input ≡ text ++ ([] ++ rest) = before ∙ ap (λ l. text ++ l) takes in
      let same : text ≡ text ++ ([] ++ rest) = sym (append-nil text) ∙ ap (λ l. text ++ l) (sym at_end) in
      subst (λ input. TellsAs base answer input (Some input) (Some rest) first last) (sym is)
      (told_known reading text [] rest read (omega arith) (subst (λ l. EndsSo base first last answer (lines l) reading.judged.count) same ends))
  told_ends reading (Some input) (Some left) (Some rest) text read (inr ends) before takes at_end =
      let is : text ≡ input = sym (before ∙ ap (λ l. text ++ l) (takes ∙ at_end) ∙ append-nil text) in
      let all : Consumes (Some text) (Some rest) text = sym (append-nil text) ∙ ap (λ l. text ++ l) (sym at_end) in
      subst (λ input. TellsAs base answer input (Some input) (Some rest) first last) is (whole_known answer text (Some rest) all at_end ends)

-- the reader failed
pub told_reader : (base : Option ℕ) (telling : Telling) (first last known now new : Option (List ℕ)) (text : List ℕ) → HasTold base first last telling text → Consumes known now text → IfSome known (λ input. TellsAs base (Err Reader) input known new first last)
told_reader base telling first last None now new text told before = tt
told_reader base telling first last (Some input) None new text told before = absurd before
told_reader base telling first last (Some input) (Some left) new text told before =
    let read = told.holds in
    (told.tears, told.are, (length read.texts, record { before = read.texts; after = lines (telling.reading.unfinished.items ++ left); cut = ap lines before ∙ read.cut left; number = refl; log = read.fine.log; fine = read.fine.fine }), told.wrote)

-- ---- its parts

tears_of : (base : Option ℕ) (answer : Result MomentVerdict ToolFault) (input : List ℕ) (old new first last : Option (List ℕ)) → TellsAs base answer input old new first last → AllTears base answer input first last
tears_of base (Ok verdict) input old new first last (tears, decided, judges, takes, wrote) = (tears, (decided, judges), wrote)
tears_of base (Err (Text fault)) input old new first last (tears, at_fault, takes, wrote) = (tears, at_fault, wrote)
tears_of base (Err Reader) input old new first last tells = tells
tears_of base (Err Writer) input old new first last (tears, one, decided, next, takes, begun) = (tears, one, (decided, next), begun)
tears_of base (Err Memory) input old new first last tells = tells

takes_of : (base : Option ℕ) (answer : Result MomentVerdict ToolFault) (input : List ℕ) (old new first last : Option (List ℕ)) → TellsAs base answer input old new first last → AllTakes base answer input old new
takes_of base (Ok verdict) input old new first last (tears, decided, judges, takes, wrote) = (tears, decided, judges, takes)
takes_of base (Err (Text fault)) input old new first last (tears, at_fault, takes, wrote) = takes
takes_of base (Err Reader) input old new first last tells = tt
takes_of base (Err Writer) input old new first last (tears, one, decided, next, takes, begun) = (tears, one, decided, next, takes)
takes_of base (Err Memory) input old new first last tells = tt

pub tears_known : (base : Option ℕ) (answer : Result MomentVerdict ToolFault) (known new first last : Option (List ℕ)) → IfSome known (λ input. TellsAs base answer input known new first last) → IfSome known (λ input. AllTears base answer input first last)
tears_known base answer None new first last tells = tt
tears_known base answer (Some input) new first last tells = tears_of base answer input (Some input) new first last tells

pub takes_known : (base : Option ℕ) (answer : Result MomentVerdict ToolFault) (known new first last : Option (List ℕ)) → IfSome known (λ input. TellsAs base answer input known new first last) → IfSome known (λ input. AllTakes base answer input known new)
takes_known base answer None new first last tells = tt
takes_known base answer (Some input) new first last tells = takes_of base answer input (Some input) new first last tells

-- where the reading goes on, no failure was counted
pub none_failed : (answer : Option (Result MomentVerdict ToolFault)) (old : ℕ) → IsNone answer → failed_by answer old ≡ old
none_failed None old none = refl
none_failed (Some answer) old none = absurd cc
