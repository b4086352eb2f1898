-- What a generator alone whose stack wraps answers to a request.
use Rattle.std.specs.Prelude.{◌≡◌, ◌⊎◌, ℕ, true, false, [], ◌∷◌, length, slice_get, List, Option, Some, None}
use Rattle.dvg_gen.specs.declared.TheConstants.{STACK_DEPTH}
use Rattle.dvg_gen.specs.declared.taken.Step.{Step}
use Rattle.dvg_gen.specs.Bytes.{met}
use Rattle.dvg_gen.specs.Completing.{DrawsNothing}
use Rattle.dvg_gen.specs.Machine.{Machine, answer_by, picture_after}
use Rattle.dvg_gen.specs.Told.{Told, Start, Reset, Newest, wants}
use Rattle.dvg_gen.specs.Wrapping.{Wrapped, HasWrapped, AnswersWrapped}
use Rattle.dvg_log.specs.Entries.{entry_by}
use Rattle.dvg_log.specs.declared.entry.Entry.{Entry}
use Rattle.dvg_log.specs.declared.entry.Entry.TheVariants.{Started, Cleared, Still}
use Rattle.dvg_device.specs.Generators.{IsAnswerTo, WantsNext, onward, told_held, told_return, wanting}
use Rattle.dvg_device.specs.States.{CanBeSaved, CanStand, parts_of, told_part, with_stack}
use Rattle.dvg_device.specs.declared.reply.Reply.{Reply}
use Rattle.dvg_device.specs.declared.reply.Reply.TheVariants.{Came, Onward, Unknown, NoMemory}
use Rattle.dvg_device.specs.declared.request.Request.{Request}
use Rattle.dvg_device.specs.declared.request.Request.TheVariants as requests
use Rattle.dvg_device.specs.declared.request.Question.{Question}
use Rattle.dvg_device.specs.declared.request.Question.TheVariants as questions

-- this holds of each history of words, with the low byte after it, that the generator stands after, and of the run that
-- it leaves in the generator in it
abbrev pub OfWraps : Wrapped → (List Told → Option ℕ → Newest → Type 0) → Type 0
OfWraps wrapped P = (history : List Told) (low : Option ℕ) (stands : HasWrapped wrapped history low)
    → P history low stands.after.run

-- a byte or a hole is fetched, as a generator alone does. The last two facts hold of any state
pub record FetchesWrapped (byte : Option ℕ) (wrapped later : Wrapped) (reply : Reply) : Type 0 where
  pub address : ℕ
  pub step : Step
  pub wanted : OfWraps wrapped (λ history low run. wants run ≡ Some address)
  pub answers : OfWraps wrapped
      (λ history low run. AnswersWrapped history (met low byte) later (answer_by step later.machine.picture))
  pub picture : later.machine.picture ≡ picture_after step wrapped.machine
  pub entry : Entry (Unit {0})
  pub came : OfWraps wrapped (λ history low run. entry ≡ entry_by address (met low byte) step tt)
  pub answered : OfWraps later (λ history low run. reply ≡ onward entry (wants run) low)
  pub read : entry ≡ entry_by address (met wrapped.machine.low byte) step tt
  pub goes_on : WantsNext entry later.machine reply

-- there was no memory for the stroke of a vector that the byte completes, and nothing has changed
pub record LacksRoomWrapped (byte : Option ℕ) (wrapped later : Wrapped) (reply : Reply) : Type 0 where
  pub room : OfWraps wrapped (λ history low run. ¬ DrawsNothing run.held (met low byte))
  pub answered : reply ≡ NoMemory
  pub same : later ≡ wrapped

-- a fetch where no run is open changes nothing
pub record StaysStillWrapped (wrapped later : Wrapped) (reply : Reply) : Type 0 where
  pub halted : OfWraps wrapped (λ history low run. run.is_open ≡ false)
  pub answered : reply ≡ Came Still
  pub same : later ≡ wrapped

-- what is saved of it: the machine in it, with the registers as return addresses
abbrev pub saved_of : Wrapped → Machine
saved_of wrapped = with_stack wrapped.registers wrapped.machine

-- a generator whose stack wraps can begin in what was told of a machine: a generator can be in that
-- state, which has four return addresses
abbrev pub CanWrap : Machine → Type 0
CanWrap machine = CanStand machine × (length machine.stack ≡ STACK_DEPTH)

-- it, with those addresses as its registers
abbrev pub wrapping_of : Machine → Wrapped
wrapping_of machine = record { machine = with_stack [] machine; registers = machine.stack }

-- the answer to a question, which changes nothing: that of the generator in it, but the return addresses are the four
-- registers, the newest first
abbrev pub TellsWrapped : Question → Wrapped → Reply → Type 0
TellsWrapped questions.Holds wrapped reply = reply ≡ told_held wrapped.machine STACK_DEPTH true
TellsWrapped (questions.ReturnTo n) wrapped reply = reply ≡ told_return (slice_get wrapped.registers n)
TellsWrapped (questions.State n) wrapped reply = (wrapped.machine.stack ≡ [])
    × OfWraps wrapped (λ history low run. CanBeSaved (saved_of wrapped))
    × (reply ≡ told_part (slice_get (parts_of (saved_of wrapped)) n))
TellsWrapped question wrapped reply = IsAnswerTo question wrapped.machine reply

-- what it comes to by a request
abbrev pub WrappingAnswers : Request → Wrapped → Wrapped → Reply → Type 0
WrappingAnswers requests.Strobe wrapped later reply = OfWraps wrapped
    (λ history low run. HasWrapped later (Start ∷ history) None) × (later.machine.picture ≡ wrapped.machine.picture)
    × (reply ≡ Onward Started 0 false)
WrappingAnswers requests.ResetGenerator wrapped later reply = OfWraps wrapped
    (λ history low run. HasWrapped later (Reset ∷ history) None) × (later.machine.picture ≡ wrapped.machine.picture)
    × (reply ≡ Came Cleared)
WrappingAnswers requests.Wants wrapped later reply = (later ≡ wrapped)
    × OfWraps wrapped (λ history low run. reply ≡ wanting (wants run) low)
WrappingAnswers (requests.Fetch byte) wrapped later reply = FetchesWrapped byte wrapped later reply
    ⊎ (LacksRoomWrapped byte wrapped later reply ⊎ StaysStillWrapped wrapped later reply)
WrappingAnswers (requests.Ask question) wrapped later reply = (later ≡ wrapped) × TellsWrapped question wrapped reply
WrappingAnswers request wrapped later reply = (later ≡ wrapped) × (reply ≡ Unknown)
