-- How a log's text is read, line by line.
use Rattle.std.proofs.Common.{◌≡◌, ◌<◌, ◌≤◌, ◌+◌, ℕ, List, [], ◌∷◌, ◌++◌, Option, reverse, length, refl, sym, ap, ◌∙◌, subst, arith, eqb, false, append_assoc, append-nil, length-append, Bool, Result, Ok, Err, IfErr, true, true≢false, ⊎_elim, None, Some, take}
use Rattle.std.specs.List.{AllZip, onto_first}
use Rattle.std.proofs.lemmas.List.{reverse-append, length-reverse}
use Rattle.std.proofs.lemmas.List.Elements.{All-head, All-tail, All-append}
use Rattle.std.proofs.lemmas.Grind.{flat_map-append}
use Rattle.dvg_log.specs.Log.{Line, Log}
use Rattle.std.proofs.lemmas.Bool.{cases_lt, eqb-true}
use Rattle.dvg_read.specs.Texts.{lines}
use Rattle.dvg_read.proofs.LineEnds.{line_at, line_last}
use Rattle.dvg_read.proofs.FirstBytes.{IsCutAt, behind}
use Rattle.dvg_read.proofs.Zips.{zip_length, zip_push}
use Rattle.dvg_logs.specs.LogLines.{IsLineOf, IsLogOf, logged, passed}
use Rattle.dvg_logs.specs.LogTexts.{IsFoundAt, IsLogSo, IsWhole}
use Rattle.dvg_logs.specs.declared.log_reading.JudgedLines.{JudgedLines}
use Rattle.dvg_logs.specs.LogReading.{IsOpen, IsRead, HasJudged}
use Rattle.dvg_logs.specs.Tears.{ended}

-- ---- one more line

tells_more : {base : Option ℕ} (log : Log) (before : List (List ℕ)) (line : Line) (text : List ℕ) → IsLogOf base log before → IsLineOf base line text → IsLogOf base (line ∷ log) (before ++ text ∷ [])
tells_more {base = base} log before line text log_of tells =
    subst (λ l. AllZip (IsLineOf base) l (before ++ text ∷ [])) (sym (reverse-append (line ∷ []) log)) (zip_push (IsLineOf base) (reverse log) before line text log_of tells)

-- the log is as long as its text has lines
pub log_length : (base : Option ℕ) (log : Log) (texts : List (List ℕ)) → IsLogOf base log texts → length log ≡ length texts
log_length base log texts log_of = sym (length-reverse log) ∙ zip_length (IsLineOf base) (reverse log) texts log_of

pub fine_more : {base : Option ℕ} {Before After : Log → Type 0} (log : Log) (before : List (List ℕ)) (line : Line) (text : List ℕ) → IsLogSo base Before log before → IsLineOf base line text → After (line ∷ log)
    → IsLogSo base After (line ∷ log) (before ++ text ∷ [])
fine_more log before line text fine tells passes = record { tells = tells_more log before line text fine.tells tells; holds = passes }

-- a line decides
pub found_at : {V : Type 0} {base : Option ℕ} {Passes : Log → Type 0} {Finds : V → Line → Log → Type 0} (log : Log) (before : List (List ℕ)) (line : Line) (text : List ℕ) (after : List (List ℕ)) (verdict : V)
    → IsLogSo base Passes log before → IsLineOf base line text → Finds verdict line log → (n : ℕ) → n ≡ length before + 1 → IsFoundAt base Passes Finds (before ++ text ∷ after) n verdict
found_at log before line text after verdict fine tells finds n number = record {
  before = before;
  text = text;
  after = after;
  cut = refl;
  number = number;
  log = log;
  fine = fine;
  line = line;
  tells = tells;
  finds = finds;
}

-- ---- lines of a text

-- a line that ends
pub line_then : (line more : List ℕ) → IsOpen line → lines (line ++ 10 ∷ more) ≡ line ∷ lines more
line_then line more unended = line_at line 10 more unended refl

-- a text begins with a line that begins with these bytes
pub record Begins (bytes : List ℕ) (texts : List (List ℕ)) : Type 0 where
  pub tail : List ℕ
  pub after : List (List ℕ)
  pub is : texts ≡ (bytes ++ tail) ∷ after

begins_onto : (byte : ℕ) (texts : List (List ℕ)) → Begins (byte ∷ []) (onto_first byte texts)
begins_onto byte [] = record { tail = []; after = []; is = refl }
begins_onto byte (text ∷ texts) = record { tail = text; after = texts; is = refl }

begins_more : (byte : ℕ) (bytes : List ℕ) (texts : List (List ℕ)) → Begins bytes texts → Begins (byte ∷ bytes) (onto_first byte texts)
begins_more byte bytes texts begins = record { tail = begins.tail; after = begins.after; is = ap (onto_first byte) begins.is }

begins : (byte : ℕ) (bytes more : List ℕ) → IsOpen (byte ∷ bytes) → Begins (byte ∷ bytes) (lines ((byte ∷ bytes) ++ more))
begins byte [] more unended =
    let other : eqb byte 10 ≡ false = All-head (λ b. eqb b 10 ≡ false) byte [] unended in rw other (begins_onto byte (lines more))
begins byte (next ∷ bytes) more unended =
    let other : eqb byte 10 ≡ false = All-head (λ b. eqb b 10 ≡ false) byte (next ∷ bytes) unended in
    let rest = begins next bytes more (All-tail (λ b. eqb b 10 ≡ false) byte (next ∷ bytes) unended) in
    rw other (begins_more byte (next ∷ bytes) (lines ((next ∷ bytes) ++ more)) rest)

pub begins_of : (bytes more : List ℕ) → IsOpen bytes → 0 < length bytes → Begins bytes (lines (bytes ++ more))
begins_of [] more unended some = absurd (omega arith)
begins_of (byte ∷ bytes) more unended some = begins byte bytes more unended

-- a line that is too long tells nothing
pub too_long : {base : Option ℕ} (text : List ℕ) → 64 < length text → (line : Line) → ¬ IsLineOf base line text
too_long text over line (passed short is) = absurd (omega arith)
too_long text over line (logged short is row) = absurd (omega arith)

-- ---- bytes more

length_ended-append : (texts : List (List ℕ)) (text : List ℕ) → length (ended (texts ++ text ∷ [])) ≡ length (ended texts) + (length text + 1)
length_ended-append texts text = ap length (flat_map-append (λ line. line ++ 10 ∷ []) texts (text ∷ []))
    ∙ (length-append (ended texts) ((text ++ 10 ∷ []) ++ []) ∙ ap (λ n. length (ended texts) + n) (ap length (append-nil (text ++ 10 ∷ [])) ∙ length-append text (10 ∷ [])))

-- before the first piece
pub nothing_read : {J : Type 0} {base : Option ℕ} {Stands : J → Log → Type 0} {Passes : Log → Type 0} (judged : JudgedLines J) → HasJudged base Stands Passes judged [] → IsRead base Stands Passes judged [] []
nothing_read judged fine = record { texts = []; fine = fine; unended = λ k d inside. absurd (omega arith); short = omega arith; cut = λ more. refl; size = refl }

-- what bytes of a line make of what was read
module _ {J : Type 0} {base : Option ℕ} {Stands : J → Log → Type 0} {Passes : Log → Type 0} {judged : JudgedLines J} {unfinished text : List ℕ} (bytes : List ℕ) (read : IsRead base Stands Passes judged unfinished text) (unended : IsOpen bytes) where
  both_open : IsOpen (unfinished ++ bytes)
  both_open = All-append (λ b. eqb b 10 ≡ false) unfinished bytes read.unended unended

  -- it has not ended
  pub bytes_read : length (unfinished ++ bytes) ≤ 64 → IsRead base Stands Passes judged (unfinished ++ bytes) (text ++ bytes)
  bytes_read short = record {
    texts = read.texts;
    fine = read.fine;
    unended = both_open;
    short = short;
    cut = λ more. ap lines (append_assoc text bytes more) ∙ (read.cut (bytes ++ more) ∙ ap (λ l. read.texts ++ lines l) (sym (append_assoc unfinished bytes more)));
    size = omega (arith, read.size, length-append text bytes, length-append unfinished bytes);
  }

  -- it ends
  ended_line : (more : List ℕ) → lines (text ++ (bytes ++ 10 ∷ more)) ≡ read.texts ++ (unfinished ++ bytes) ∷ lines more
  ended_line more =
      read.cut (bytes ++ 10 ∷ more)
      ∙ ap (λ ls. read.texts ++ ls) (ap lines (sym (append_assoc unfinished bytes (10 ∷ more))) ∙ line_then (unfinished ++ bytes) more both_open)

  pub line_stops : (P : List (List ℕ) → Type 0) → ((after : List (List ℕ)) → P (read.texts ++ (unfinished ++ bytes) ∷ after)) → (more : List ℕ) → P (lines (text ++ (bytes ++ 10 ∷ more)))
  line_stops P stops more = subst P (sym (ended_line more)) (stops (lines more))

  pub line_read : {After : Log → Type 0} (new : JudgedLines J) → HasJudged base Stands After new (read.texts ++ (unfinished ++ bytes) ∷ []) → IsRead base Stands After new [] (text ++ (bytes ++ 10 ∷ []))
  line_read new fine = record {
    texts = read.texts ++ (unfinished ++ bytes) ∷ [];
    fine = fine;
    unended = λ k d inside. absurd (omega arith);
    short = omega arith;
    cut = λ more. ap lines (append_assoc text (bytes ++ 10 ∷ []) more ∙ ap (λ l. text ++ l) (append_assoc bytes (10 ∷ []) more))
        ∙ (ended_line more ∙ sym (append_assoc read.texts ((unfinished ++ bytes) ∷ []) (lines more)));
    size = omega (arith, read.size, length-append text (bytes ++ 10 ∷ []), length-append bytes (10 ∷ []), length-append unfinished bytes, length_ended-append read.texts (unfinished ++ bytes));
  }

  -- it is too long
  pub overlong_stops : (P : List (List ℕ) → Type 0) → 64 < length (unfinished ++ bytes) → ((line : List ℕ) (after : List (List ℕ)) → ((logged : Line) → ¬ IsLineOf base logged line) → P (read.texts ++ line ∷ after))
      → (more : List ℕ) → P (lines (text ++ (bytes ++ more)))
  overlong_stops P over stops more =
      let starts = begins_of (unfinished ++ bytes) more both_open (omega arith) in
      let is = read.cut (bytes ++ more) ∙ ap (λ ls. read.texts ++ ls) (ap lines (sym (append_assoc unfinished bytes more)) ∙ starts.is) in
      subst P (sym is) (stops ((unfinished ++ bytes) ++ starts.tail) starts.after (λ line tells. too_long ((unfinished ++ bytes) ++ starts.tail) (omega (arith, length-append (unfinished ++ bytes) starts.tail)) line tells))

-- the end of a text, where no line has begun
pub all_ended : {J : Type 0} {base : Option ℕ} {Stands : J → Log → Type 0} {Passes : Log → Type 0} {judged : JudgedLines J} {unfinished text : List ℕ} (read : IsRead base Stands Passes judged unfinished text) → unfinished ≡ [] → lines text ≡ read.texts
all_ended {unfinished = unfinished} {text = text} read none =
    ap lines (sym (append-nil text)) ∙ (read.cut [] ∙ (ap (λ l. read.texts ++ lines (l ++ [])) none ∙ append-nil read.texts))

-- where one has
last_alone : (bytes : List ℕ) → IsOpen bytes → 0 < length bytes → lines bytes ≡ bytes ∷ []
last_alone [] unended some = absurd (omega arith)
last_alone (byte ∷ bytes) unended some = line_last byte bytes unended

pub last_ended : {J : Type 0} {base : Option ℕ} {Stands : J → Log → Type 0} {Passes : Log → Type 0} {judged : JudgedLines J} {unfinished text : List ℕ} (read : IsRead base Stands Passes judged unfinished text) → 0 < length unfinished → lines text ≡ read.texts ++ unfinished ∷ []
last_ended {unfinished = unfinished} {text = text} read some =
    ap lines (sym (append-nil text)) ∙ (read.cut [] ∙ ap (λ ls. read.texts ++ ls) (ap lines (append-nil unfinished) ∙ last_alone unfinished read.unended some))

-- where nothing of the line has come before
module _ {J : Type 0} {base : Option ℕ} {Stands : J → Log → Type 0} {Passes : Log → Type 0} {judged : JudgedLines J} {unfinished text : List ℕ} (bytes : List ℕ) (read : IsRead base Stands Passes judged unfinished text) (unended : IsOpen bytes) (none : unfinished ≡ []) where
  alone : unfinished ++ bytes ≡ bytes
  alone = ap (λ l. l ++ bytes) none

  pub first_stops : (P : List (List ℕ) → Type 0) → ((after : List (List ℕ)) → P (read.texts ++ bytes ∷ after)) → (more : List ℕ) → P (lines (text ++ (bytes ++ 10 ∷ more)))
  first_stops P stops more = line_stops bytes read unended P (λ after. subst (λ line. P (read.texts ++ line ∷ after)) (sym alone) (stops after)) more

  pub first_read : (new : JudgedLines J) → HasJudged base Stands Passes new (read.texts ++ bytes ∷ []) → IsRead base Stands Passes new unfinished (text ++ (bytes ++ 10 ∷ []))
  first_read new fine = subst (λ l. IsRead base Stands Passes new l (text ++ (bytes ++ 10 ∷ []))) (sym none)
      (line_read bytes read unended new (subst (λ line. HasJudged base Stands Passes new (read.texts ++ line ∷ [])) (sym alone) fine))

-- what is said of all lines of a text
pub whole_said : {J V : Type 0} {base : Option ℕ} {Stands : J → Log → Type 0} {Passes : Log → Type 0} (Ends : V → Log → Type 0) (judged : JudgedLines J) (said : V) (texts : List (List ℕ)) → HasJudged base Stands Passes judged texts
    → ((log : Log) → Stands judged.judge log → Ends said log) → (log : Log) × IsWhole base Passes texts log × Ends said log
whole_said Ends judged said texts fine ends =
    (fine.log, record { fine = fine.fine; fits = omega (arith, fine.count, fine.fits) }, ends fine.log fine.stands)

-- what is said of an error
pub if_err_weaker : {T E : Type 0} {P Q : E → Type 0} (answer : Result T E) → ((e : E) → P e → Q e) → IfErr answer P → IfErr answer Q
if_err_weaker (Ok done) f p = tt
if_err_weaker (Err e) f p = f e p

pub begun : {J : Type 0} {base : Option ℕ} {Stands : J → Log → Type 0} {Passes : Log → Type 0} (judged : JudgedLines J) → Stands judged.judge [] → Passes [] → judged.base ≡ base → judged.count ≡ 0 → HasJudged base Stands Passes judged []
begun judged stands passes based none = record { log = []; fine = record { tells = tt; holds = passes }; stands = stands; based = based; count = none; fits = omega arith }

-- no byte is left, or some are
pub none_left : (bytes : List ℕ) → eqb (length bytes) 0 ≡ true → bytes ≡ []
none_left [] is = refl
none_left (byte ∷ bytes) is = let none = eqb-true (length (byte ∷ bytes)) 0 is in absurd (omega arith)

pub some_left : (bytes : List ℕ) → eqb (length bytes) 0 ≡ false → 0 < length bytes
some_left [] is = absurd (true≢false is)
some_left (byte ∷ bytes) is = omega arith

-- what fits doesn't, so there are more
pub over : (n most : ℕ) (fits : Bool) → fits ≡ false → (n ≤ most → fits ≡ true) → most < n
over n most fits unfit fit = ⊎_elim (λ more. more) (λ few. absurd (true≢false (sym (fit (omega arith)) ∙ unfit))) (cases_lt most n)

-- ---- a piece, of which this front was read

pub behind_front : (text front rest more piece : List ℕ) → piece ≡ front ++ rest → text ++ (piece ++ more) ≡ (text ++ front) ++ (rest ++ more)
behind_front text front rest more piece split =
    ap (λ l. text ++ (l ++ more)) split ∙ (ap (λ l. text ++ l) (append_assoc front rest more) ∙ sym (append_assoc text front (rest ++ more)))

-- a line of the rest
pub cut_line : (rest : List ℕ) (end : ℕ) → IsCutAt 10 rest (Some end) → rest ≡ take end rest ++ 10 ∷ behind end rest
cut_line rest end (byte, halves, before, is) = halves ∙ ap (λ b. take end rest ++ b ∷ behind end rest) (eqb-true byte 10 is)

pub no_line : (rest : List ℕ) (place : Option ℕ) → IsCutAt 10 rest place → ((end : ℕ) → place ≡ Some end → ⊥) → IsOpen rest
no_line rest None cut not = cut
no_line rest (Some end) cut not = absurd (not end refl)

pub at_line : (line back more rest : List ℕ) → rest ≡ line ++ 10 ∷ back → rest ++ more ≡ line ++ 10 ∷ (back ++ more)
at_line line back more rest is = ap (λ l. l ++ more) is ∙ append_assoc line (10 ∷ back) more

pub line_off : (front line back rest piece : List ℕ) → piece ≡ front ++ rest → rest ≡ line ++ 10 ∷ back → piece ≡ (front ++ (line ++ 10 ∷ [])) ++ back
line_off front line back rest piece split is =
    split ∙ (ap (λ l. front ++ l) (is ∙ sym (append_assoc line (10 ∷ []) back)) ∙ sym (append_assoc front (line ++ 10 ∷ []) back))
