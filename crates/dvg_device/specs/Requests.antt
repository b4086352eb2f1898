-- Requests as numbers of 64 bits.
use Rattle.std.specs.Prelude.{ℕ, ◌/◌, ◌%◌, [], ◌∷◌, ◌==◌, nat_lt, if◌then◌else◌, Option, Some, None, Bool}
use Rattle.dvg_device.specs.Lookup.{looked_up}
use Rattle.dvg_device.specs.Resuming.{driver_in}
use Rattle.dvg_device.specs.declared.driver.DriverFields.{DriverFields}
use Rattle.dvg_device.specs.declared.judging.JudgeLine.{JudgeLine}
use Rattle.dvg_device.specs.declared.judging.JudgeLine.TheVariants.{Passed, Started, Low, Fetched, Done, Wrote, Ended}
use Rattle.dvg_device.specs.declared.operation.Operation.{Operation}
use Rattle.dvg_device.specs.declared.request.Request.{Request}
use Rattle.dvg_device.specs.declared.request.Request.TheVariants.{Offer, Redraw, Tick, Strobe, Fetch, ResetGenerator}
use Rattle.dvg_device.specs.declared.request.Request.TheVariants.{ResetProcessor, ResetAll, Push, ClearDraft, Stage}
use Rattle.dvg_device.specs.declared.request.Request.TheVariants.{Unstage, OpenWorld, OpenDriver, OpenGenerator, Close}
use Rattle.dvg_device.specs.declared.request.Request.TheVariants.{Wants, CountStrokes, StrokeFrom, StrokeTo}
use Rattle.dvg_device.specs.declared.request.Request.TheVariants.{StrokeIntensity, OpenJudge, Tell, Ask, Resume}
use Rattle.dvg_device.specs.declared.request.Request.TheVariants.{OpenWrapping}
use Rattle.dvg_device.specs.declared.request.Request.TheVariants.{ResumeWrapping, TellState, ResumeWorld, Unknown}
use Rattle.dvg_device.specs.declared.request.Question.TheVariants.{Move, MoveTo, Beam, Holds, ReturnTo, State, Byte}
use Rattle.dvg_device.specs.declared.request.Question.TheVariants as questions

-- the fields of an operation: a byte each of its kind, its scale and its intensity above the lowest byte, and 16 bits
-- each of x and y
abbrev pub operation_of : ℕ → Operation
operation_of n = record {
  kind = n / 0x100 % 0x100;
  scale = n / 0x1_0000 % 0x100;
  z = n / 0x100_0000 % 0x100;
  x = n / 0x1_0000_0000 % 0x1_0000;
  y = n / 0x1_0000_0000_0000 % 0x1_0000;
}

-- a flag is the bit of weight 0x100
abbrev pub flag_of : ℕ → Bool
flag_of n = n / 0x100 % 2 == 1

-- a byte stands above a flag
abbrev pub byte_of : ℕ → ℕ
byte_of n = n / 0x1_0000 % 0x100

-- a line that a judge is told, by the kind, the address and the value of the reply to its event; a kind that says
-- nothing of memory or of a run is passed over, and one of no event's reply is that of no line
abbrev pub line_at : (kind address value : ℕ) → Option JudgeLine
line_at kind address value = looked_up (if nat_lt kind 17 then Some Passed else None) kind
    ((6, Some (Wrote address (value % 0x100))) ∷ (10, Some Started) ∷ (12, Some (Low address (value % 0x100)))
    ∷ (13, Some (Fetched address value)) ∷ (14, Some (Done address value)) ∷ (15, Some Ended) ∷ [])

-- the number of the reply stands above the lowest byte
abbrev pub line_in : ℕ → Option JudgeLine
line_in n = line_at (n / 0x100 % 0x100) (n / 0x1_0000 % 0x1_0000) (n / 0x1_0000_0000 % 0x1_0000)

-- a judge is told that line; of none there is no request
abbrev pub telling : Option JudgeLine → Request
telling None = Unknown
telling (Some line) = Tell line

-- a world goes on with these fields of its driver; with none there is no request
abbrev pub resuming : Option DriverFields → Request
resuming None = Unknown
resuming (Some fields) = ResumeWorld fields

-- a byte to be handed over, or a hole where a flag says so
abbrev pub handed : Bool → ℕ → Option ℕ
handed flag byte = if flag then None else Some byte

-- the request that a number is: its lowest byte says which, and what it brings stands above
abbrev pub request_of : ℕ → Request
request_of n = looked_up Unknown (n % 0x100)
    ((0, Offer) ∷ (1, Redraw) ∷ (2, Tick (flag_of n) (byte_of n)) ∷ (3, Strobe)
    ∷ (4, Fetch (handed (flag_of n) (byte_of n))) ∷ (5, ResetGenerator) ∷ (6, ResetProcessor)
    ∷ (7, ResetAll)
    ∷ (8, Push (operation_of n)) ∷ (9, ClearDraft) ∷ (10, Stage (byte_of n) (n / 0x100_0000 % 0x1_0000)) ∷ (11, Unstage)
    ∷ (12, OpenWorld) ∷ (13, OpenDriver) ∷ (14, OpenGenerator) ∷ (15, Close)
    ∷ (16, Wants) ∷ (17, CountStrokes) ∷ (18, StrokeFrom (n / 0x100)) ∷ (19, StrokeTo (n / 0x100))
    ∷ (20, StrokeIntensity (n / 0x100)) ∷ (21, OpenJudge) ∷ (22, telling (line_in n))
    ∷ (23, Ask (Move (handed (flag_of n) (byte_of n)))) ∷ (24, Ask (MoveTo (handed (flag_of n) (byte_of n))))
    ∷ (25, Ask Beam) ∷ (26, Ask Holds) ∷ (27, Ask (ReturnTo (n / 0x100)))
    ∷ (28, Ask (State (n / 0x100))) ∷ (29, Resume) ∷ (30, OpenWrapping) ∷ (31, Ask (Byte (n / 0x100)))
    ∷ (32, Ask questions.Driver) ∷ (33, Ask (questions.Operation (n / 0x100)))
    ∷ (34, ResumeWrapping) ∷ (35, TellState (n / 0x100)) ∷ (38, resuming (driver_in n)) ∷ [])
