-- How a log's text is read (for private contracts).
use Rattle.std.specs.Prelude.{◌≡◌, ◌==◌, ◌+◌, ◌*◌, ◌^◌, ◌<◌, ◌≤◌, ℕ, Option, List, [], ◌∷◌, ◌++◌, length, false, All}
use Rattle.dvg_log.specs.Log.{Line, Log}
use Rattle.dvg_read.specs.Texts.{lines}
use Rattle.dvg_logs.specs.declared.log_reading.JudgedLines.{JudgedLines}
use Rattle.dvg_logs.specs.declared.log_reading.LogReading.{LogReading}
use Rattle.dvg_logs.specs.declared.log_reading.LogStop.{LogStop}
use Rattle.dvg_logs.specs.declared.log_reading.LogStop.TheVariants.{Found, Syntax, TooLong}
use Rattle.dvg_logs.specs.LogLines.{IsLineOf}
use Rattle.dvg_logs.specs.LogTexts.{IsFoundAt, IsLogSo, MeetsSyntax, MeetsTooMany}
use Rattle.dvg_logs.specs.Tears.{ended}

-- why the reading of lines stops
abbrev pub StopsAt : {V : Type 0} → (base : Option ℕ) → (Log → Type 0) → (V → Line → Log → Type 0) → LogStop V
    → List (List ℕ) → Type 0
StopsAt base Passes Finds (Found n verdict) texts = IsFoundAt base Passes Finds texts n verdict
StopsAt base Passes Finds (Syntax n) texts = MeetsSyntax base Passes texts n
StopsAt base Passes Finds TooLong texts = MeetsTooMany base Passes texts

-- the number of the line that stops it
abbrev pub number_of : {V : Type 0} → LogStop V → ℕ
number_of (Found n verdict) = n
number_of (Syntax n) = n
number_of TooLong = 2 ^ 64

-- a judge was told these lines
pub record HasJudged {J : Type 0} (base : Option ℕ) (Stands : J → Log → Type 0) (Passes : Log → Type 0)
    (judged : JudgedLines J) (texts : List (List ℕ)) : Type 0 where
  pub log : Log
  pub fine : IsLogSo base Passes log texts
  pub stands : Stands judged.judge log
  pub based : judged.base ≡ base
  pub count : judged.count ≡ length texts
  pub fits : judged.count < 2 ^ 64

-- no line ends among these bytes; 10 is LF
abbrev pub IsOpen : List ℕ → Type 0
IsOpen = All (λ byte. (byte == 10) ≡ false)

-- this text was read: lines that were judged, and then the bytes of one that has not ended
pub record IsRead {J : Type 0} (base : Option ℕ) (Stands : J → Log → Type 0) (Passes : Log → Type 0)
    (judged : JudgedLines J) (unfinished text : List ℕ) : Type 0 where
  pub texts : List (List ℕ)
  pub fine : HasJudged base Stands Passes judged texts
  pub unended : IsOpen unfinished
  pub short : length unfinished ≤ 64
  pub cut : (more : List ℕ) → lines (text ++ more) ≡ texts ++ lines (unfinished ++ more)
  pub size : length text ≡ length (ended texts) + length unfinished

-- the same, of a reader
abbrev pub HasRead : {J : Type 0} → (base : Option ℕ) → (J → Log → Type 0) → (Log → Type 0) → LogReading J → List ℕ
    → Type 0
HasRead base Stands Passes reading text = IsRead base Stands Passes reading.judged reading.unfinished.items text

-- how far it has read: it gets farther with each line, and with each byte of a line that has not ended
abbrev pub place_of : {J : Type 0} → LogReading J → ℕ
place_of reading = 65 * reading.judged.count + length reading.unfinished.items

-- at the head of a text stands a line that ends and says this, with each base of which this holds, and then comes the
-- rest; 10 is LF
pub record HeadLine (Holds : Option ℕ → Type 0) (logged : Line) (text rest : List ℕ) : Type 0 where
  pub line : List ℕ
  pub split : text ≡ line ++ 10 ∷ rest
  pub unended : IsOpen line
  pub tells : (base : Option ℕ) → Holds base → IsLineOf base logged line

-- a line at the head of a text was judged, which doesn't decide, and this is the rest
pub record TakesLine {J V : Type 0} (Stands : J → Log → Type 0) (Passes : List V → Log → Type 0)
    (old new : JudgedLines J) (text rest : List ℕ) : Type 0 where
  pub line : List ℕ
  pub split : text ≡ line ++ 10 ∷ rest
  pub unended : IsOpen line
  pub judged : (base : Option ℕ) (said : List V) (before : List (List ℕ))
      → HasJudged base Stands (Passes said) old before → HasJudged base Stands (Passes said) new (before ++ line ∷ [])

-- lines at the head of a text were judged, none of which decides, and this is the rest
pub record TakesLines {J V : Type 0} (Stands : J → Log → Type 0) (Passes : List V → Log → Type 0)
    (old new : JudgedLines J) (text rest : List ℕ) : Type 0 where
  pub front : List ℕ
  pub split : text ≡ front ++ rest
  pub read : (base : Option ℕ) (said : List V) (before : List ℕ) → IsRead base Stands (Passes said) old [] before
      → IsRead base Stands (Passes said) new [] (before ++ front)
  pub farther : old.count ≤ new.count
  pub some : 0 < length front → old.count < new.count

-- where the reading stopped as a line decides, it may go on: this is so
abbrev pub IfDecided : {V : Type 0} → LogStop V → (V → Type 0) → Type 0
IfDecided (Found n one) Holds = Holds one
IfDecided (Syntax n) Holds = Unit {0}
IfDecided TooLong Holds = Unit {0}

-- a line decided, of which this was said, and was judged, too
pub record JudgesOn {J V : Type 0} (Stands : J → Log → Type 0) (Passes : List V → Log → Type 0)
    (old new : JudgedLines J) (line : List ℕ) (one : V) : Type 0 where
  pub judged : (base : Option ℕ) (said : List V) (before : List (List ℕ))
      → HasJudged base Stands (Passes said) old before
      → HasJudged base Stands (Passes (one ∷ said)) new (before ++ line ∷ [])
  pub count : new.count ≡ old.count + 1

-- a front of a piece was read, of which no line decides, and this is the rest
pub record ReadsFront {J V : Type 0} (Stands : J → Log → Type 0) (Passes : List V → Log → Type 0)
    (old new : LogReading J) (piece rest : List ℕ) : Type 0 where
  pub front : List ℕ
  pub split : piece ≡ front ++ rest
  pub read : (base : Option ℕ) (said : List V) (text : List ℕ) → HasRead base Stands (Passes said) old text
      → HasRead base Stands (Passes said) new (text ++ front)

-- a front of a piece was read, whose last line decides, and this is the rest
pub record ReadsOn {J V : Type 0} (Stands : J → Log → Type 0) (Passes : List V → Log → Type 0)
    (old new : LogReading J) (piece rest : List ℕ) (one : V) : Type 0 where
  pub front : List ℕ
  pub split : piece ≡ front ++ rest
  pub read : (base : Option ℕ) (said : List V) (text : List ℕ) → HasRead base Stands (Passes said) old text
      → HasRead base Stands (Passes (one ∷ said)) new (text ++ front)
  pub later : old.judged.count < new.judged.count
  pub farther : place_of old < place_of new
  pub some : 0 < length front
