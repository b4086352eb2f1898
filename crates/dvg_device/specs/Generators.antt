-- What a generator alone answers to a request.
use Rattle.std.specs.Prelude.{◌≡◌, ◌⊎◌, ◌↔◌, ◌+◌, ◌*◌, ℕ, Bool, true, false, List, ◌∷◌, length, slice_get, Option}
use Rattle.std.specs.Prelude.{Some, None, IsNone, is_some, option_to_list}
use Rattle.dvg_gen.specs.declared.beam.Beam.{Beam}
use Rattle.dvg_gen.specs.declared.moving.Move.{Move}
use Rattle.dvg_gen.specs.declared.taken.Step.{Step}
use Rattle.dvg_gen.specs.Bytes.{met}
use Rattle.dvg_gen.specs.Completing.{DrawsNothing}
use Rattle.dvg_gen.specs.Machine.{Machine, HasTaken, Answers, answer_by, picture_after}
use Rattle.dvg_gen.specs.Moving.{AddsMoves}
use Rattle.dvg_gen.specs.Told.{Told, Start, Reset, Newest, wants}
use Rattle.dvg_log.specs.Entries.{entry_by}
use Rattle.dvg_log.specs.declared.entry.Entry.{Entry}
use Rattle.dvg_log.specs.declared.entry.Entry.TheVariants.{Started, Cleared, Still}
use Rattle.dvg_device.specs.Bits.{bit}
use Rattle.dvg_device.specs.States.{CanBeSaved, parts_of, told_part}
use Rattle.dvg_device.specs.declared.reply.Reply.{Reply}
use Rattle.dvg_device.specs.declared.reply.Reply.TheVariants.{Came, Onward, Wants, Point, Moves, Nothing}
use Rattle.dvg_device.specs.declared.reply.Reply.TheVariants.{Holds, ReturnsTo, Unknown, NoMemory}
use Rattle.dvg_device.specs.declared.request.Request.{Request}
use Rattle.dvg_device.specs.declared.request.Request.TheVariants as requests
use Rattle.dvg_device.specs.declared.request.Question.{Question}
use Rattle.dvg_device.specs.declared.request.Question.TheVariants as questions

-- this holds of each history of words, with the low byte after it, that the generator stands after,
-- and of the run that the history leaves
abbrev pub OfHistories : Machine → (List Told → Option ℕ → Newest → Type 0) → Type 0
OfHistories machine P = (history : List Told) (low : Option ℕ) (after : HasTaken machine history low)
    → P history low after.run

-- which byte is wanted: one of the word at an address, the high one if the low one was fetched; or
-- none, as no run is open
abbrev pub wanting : Option ℕ → Option ℕ → Reply
wanting None low = Came Still
wanting (Some address) low = Wants address (is_some low)

-- the reply to a fetch: its entry, and which byte of the word at an address is wanted next, if any
abbrev pub onward : Entry (Unit {0}) → Option ℕ → Option ℕ → Reply
onward entry None low = Came entry
onward entry (Some address) low = Onward entry address (is_some low)

-- the same of any state, after a history or not: a byte of a word at some address is wanted exactly where a run is
-- open, the high one where a low one is kept
abbrev pub WantsNext : Entry (Unit {0}) → Machine → Reply → Type 0
WantsNext entry machine reply = (wanted : Option ℕ) × (IsNone wanted ↔ (machine.is_open ≡ false))
    × (reply ≡ onward entry wanted machine.low)

-- a byte or a hole is fetched: at the address that is wanted, and the answer is that of the entry that such a fetch has
-- in a log, with the byte that is wanted next. Where it finishes the run, the picture is of its strokes, and else it
-- stays. The last two facts hold of any state
pub record Fetches (byte : Option ℕ) (machine later : Machine) (reply : Reply) : Type 0 where
  pub address : ℕ
  pub step : Step
  pub wanted : OfHistories machine (λ history low run. wants run ≡ Some address)
  pub answers : OfHistories machine
      (λ history low run. Answers history (met low byte) later (answer_by step later.picture))
  pub picture : later.picture ≡ picture_after step machine
  pub entry : Entry (Unit {0})
  pub came : OfHistories machine (λ history low run. entry ≡ entry_by address (met low byte) step tt)
  pub answered : OfHistories later (λ history low run. reply ≡ onward entry (wants run) low)
  pub read : entry ≡ entry_by address (met machine.low byte) step tt
  pub goes_on : WantsNext entry later reply

-- there was no memory for the stroke of a vector that the byte completes, and nothing has changed
pub record LacksRoom (byte : Option ℕ) (machine later : Machine) (reply : Reply) : Type 0 where
  pub room : OfHistories machine (λ history low run. ¬ DrawsNothing run.held (met low byte))
  pub answered : reply ≡ NoMemory
  pub same : later ≡ machine

-- a fetch where no run is open changes nothing
pub record StaysStill (machine later : Machine) (reply : Reply) : Type 0 where
  pub halted : OfHistories machine (λ history low run. run.is_open ≡ false)
  pub answered : reply ≡ Came Still
  pub same : later ≡ machine

-- this is the move that a byte or a hole would make, fetched next: where a run is open it is what such a fetch adds to
-- the moves of the run, and else there is none
pub record Foretold (byte : Option ℕ) (machine : Machine) (move : Option Move) : Type 0 where
  pub adds : OfHistories machine (λ history low run. run.is_open ≡ true
      → AddsMoves history run (met low byte) (option_to_list move))
  pub halted : machine.is_open ≡ false → move ≡ None

-- what is told of a move
abbrev pub told_move : Option Move → Reply
told_move None = Nothing
told_move (Some move) = Moves move.address move.z move.placed

-- where a move ends, from this beam; it stays where there is no move
abbrev pub told_end : Option Move → Beam → Reply
told_end None beam = Point beam.x beam.y
told_end (Some move) beam = Point move.x1 move.y1

-- the first word, or 0 where there is none
abbrev pub first_or_none : Option ℕ → ℕ
first_or_none None = 0
first_or_none (Some word) = word

-- what is told of what a generator holds that has so many return addresses: its first word, and in bits its scale,
-- whether a low byte waits, whether there is a first word, whether its stack wraps, and that number
abbrev pub told_held : Machine → (returns : ℕ) → (wraps : Bool) → Reply
told_held machine returns wraps = Holds (first_or_none machine.held) (machine.beam.scale
    + (0x10 * bit (is_some machine.low) + 0x20 * bit (is_some machine.held) + 0x40 * bit wraps) + 0x100 * returns)

-- what is told of a return address
abbrev pub told_return : Option ℕ → Reply
told_return None = Nothing
told_return (Some address) = ReturnsTo address

-- what a question of a generator is answered
abbrev pub IsAnswerTo : Question → Machine → Reply → Type 0
IsAnswerTo (questions.Move byte) machine reply = (move : Option Move) × Foretold byte machine move
    × (reply ≡ told_move move)
IsAnswerTo (questions.MoveTo byte) machine reply = (move : Option Move) × Foretold byte machine move
    × (reply ≡ told_end move machine.beam)
IsAnswerTo questions.Beam machine reply = reply ≡ Point machine.beam.x machine.beam.y
IsAnswerTo questions.Holds machine reply = reply ≡ told_held machine (length machine.stack) false
IsAnswerTo (questions.ReturnTo n) machine reply = reply ≡ told_return (slice_get machine.stack n)
IsAnswerTo (questions.State n) machine reply = OfHistories machine (λ history low run. CanBeSaved machine)
    × (reply ≡ told_part (slice_get (parts_of machine) n))
IsAnswerTo question machine reply = reply ≡ Unknown

-- what a generator comes to by a request. After a strobe the low byte of word zero is wanted
abbrev pub GeneratorAnswers : Request → Machine → Machine → Reply → Type 0
GeneratorAnswers requests.Strobe machine later reply = OfHistories machine
    (λ history low run. HasTaken later (Start ∷ history) None) × (later.picture ≡ machine.picture)
    × (reply ≡ Onward Started 0 false)
GeneratorAnswers requests.ResetGenerator machine later reply = OfHistories machine
    (λ history low run. HasTaken later (Reset ∷ history) None) × (later.picture ≡ machine.picture)
    × (reply ≡ Came Cleared)
GeneratorAnswers requests.Wants machine later reply = (later ≡ machine)
    × OfHistories machine (λ history low run. reply ≡ wanting (wants run) low)
GeneratorAnswers (requests.Fetch byte) machine later reply = Fetches byte machine later reply
    ⊎ (LacksRoom byte machine later reply ⊎ StaysStill machine later reply)
GeneratorAnswers (requests.Ask question) machine later reply = (later ≡ machine) × IsAnswerTo question machine reply
GeneratorAnswers request machine later reply = (later ≡ machine) × (reply ≡ Unknown)
