-- What a world answers to a request.
use Rattle.std.specs.Prelude.{◌≡◌, ◌⊎◌, ◌==◌, ℕ, List, [], length, slice_get, if◌then◌else◌, Option, Some, None}
use Rattle.dvg_mem.specs.declared.TheConstants.{MEMORY_BYTES}
use Rattle.dvg_frame.specs.declared.op.OpKind.{OpKind}
use Rattle.dvg_driver.specs.declared.state.DriverState.{DriverState}
use Rattle.dvg_driver.specs.Saved.{IsState, driving_in}
use Rattle.dvg_log.specs.declared.entry.Entry.{Entry}
use Rattle.dvg_log.specs.Entries.{drew_in}
use Rattle.dvg_log.specs.declared.event.Event.TheVariants as events
use Rattle.dvg_log.specs.Events.{Happening}
use Rattle.dvg_world.specs.Standing.{State, WorldAfter, AddsLine, DrawsNow, KeepsHeadlineAfter, shown_in}
use Rattle.dvg_device.specs.Generators.{IsAnswerTo}
use Rattle.dvg_device.specs.Operations.{Names}
use Rattle.dvg_device.specs.States.{CanStand}
use Rattle.dvg_device.specs.declared.driver.DriverFields.{DriverFields}
use Rattle.dvg_gen.specs.Machine.{Machine}
use Rattle.dvg_device.specs.Resuming.{fields_of, state_of}
use Rattle.dvg_device.specs.declared.operation.Operation.{Operation}
use Rattle.dvg_device.specs.declared.reply.Reply.{Reply}
use Rattle.dvg_device.specs.declared.reply.Reply.TheVariants.{Came, NoMemory, Unknown, WrongSize, Byte, Driver}
use Rattle.dvg_device.specs.declared.reply.Reply.TheVariants.{Nothing, NoState, Opened}
use Rattle.dvg_device.specs.declared.reply.Reply.TheVariants as replies
use Rattle.dvg_device.specs.declared.request.Question.{Question}
use Rattle.dvg_device.specs.declared.request.Question.TheVariants as questions
use Rattle.dvg_device.specs.declared.request.Request.{Request}
use Rattle.dvg_device.specs.declared.request.Request.TheVariants.{Offer, Redraw, Tick, Strobe, Fetch, ResetGenerator}
use Rattle.dvg_device.specs.declared.request.Request.TheVariants.{ResetProcessor, ResetAll, Ask}

-- a world that begins over a ROM of these bytes and a RAM of those: it stands after the empty log, and has no picture
pub record IsBegun (R image : List ℕ) (world : State) : Type 0 where
  pub stands : WorldAfter R image [] world
  pub picture : world.machine.picture ≡ []

-- the event that a request asks a world for, with this draft and these staged bytes
abbrev pub event_of : List OpKind → List ℕ → Request → Option Happening
event_of F staged Offer = Some (events.Offer F)
event_of F staged Redraw = Some events.Redraw
event_of F staged (Tick halted byte1) = Some events.Tick
event_of F staged Strobe = Some events.Strobe
event_of F staged (Fetch byte) = Some events.Fetch
event_of F staged ResetGenerator = Some events.ResetGen
event_of F staged ResetProcessor = Some events.ResetCpu
event_of F staged ResetAll = if length staged == MEMORY_BYTES then Some (events.ResetAll staged) else None
event_of F staged request = None

-- the event happens: over each log that the world stands after, it adds a line, which keeps the headline; the reply is
-- of its entry. Where that finished a run, the picture is of its strokes, and else it stays
pub record Happens (event : Happening) (world later : State) (reply : Reply) : Type 0 where
  pub entry : Entry (Unit {0})
  pub stands : AddsLine world event (shown_in later entry) later
  pub headline : KeepsHeadlineAfter world event (shown_in later entry)
  pub picture : drew_in entry ≡ None → later.machine.picture ≡ world.machine.picture
  pub answered : reply ≡ Came entry

-- an event that there may be no memory for: a fetch that completes a vector that is seen
abbrev pub TakesRoom : Happening → State → Type 0
TakesRoom events.Fetch world = DrawsNow world
TakesRoom event world = ⊥

-- there was no memory for the event, and nothing has changed
pub record Lacks (event : Happening) (world later : State) (reply : Reply) : Type 0 where
  pub room : TakesRoom event world
  pub answered : reply ≡ NoMemory
  pub same : later ≡ world

-- the answer to a request for no event
abbrev pub declined : Request → Reply
declined ResetAll = WrongSize
declined request = Unknown

-- a request that asks for an event has it happen, or there is no memory for it; another one leaves all as it was
abbrev pub AnswersRequest : Option Happening → Request → State → State → Reply → Type 0
AnswersRequest (Some event) request world later reply = Happens event world later reply ⊎ Lacks event world later reply
AnswersRequest None request world later reply = (later ≡ world) × (reply ≡ declined request)

-- what is told of the byte of a RAM at an address
abbrev pub told_byte : ℕ → Option ℕ → Reply
told_byte address None = Nothing
told_byte address (Some byte) = Byte address byte

-- this holds of a state that the driver of a world is in, and that one over its ROM takes
abbrev pub OfDriver : State → (DriverState → Type 0) → Type 0
OfDriver world P = (state : DriverState) × (world.driver ≡ driving_in state) × IsState world.rom state × P state

-- what is told of an operation
abbrev pub TellsOperation : Option OpKind → Reply → Type 0
TellsOperation None reply = reply ≡ Nothing
TellsOperation (Some op) reply = (numbers : Operation) × Names numbers op × (reply ≡ replies.Operation numbers)

-- what a question of a world is answered: what its RAM holds, what it keeps of its driver, an operation of the frame
-- that is being written, and else what its generator alone would answer
abbrev pub TellsWorld : Question → State → Reply → Type 0
TellsWorld (questions.Byte n) world reply = reply ≡ told_byte n (slice_get world.ram n)
TellsWorld questions.Driver world reply = OfDriver world (λ state. reply ≡ Driver (fields_of state world.sent))
TellsWorld (questions.Operation n) world reply =
    OfDriver world (λ state. TellsOperation (slice_get state.frame n) reply)
TellsWorld question world reply = IsAnswerTo question world.machine reply

-- what a world with this draft and these staged bytes comes to by a request
abbrev pub WorldAnswers : List OpKind → List ℕ → Request → State → State → Reply → Type 0
WorldAnswers F staged (Ask question) world later reply = (later ≡ world) × TellsWorld question world reply
WorldAnswers F staged request world later reply = AnswersRequest (event_of F staged request) request world later reply

-- a world over its own ROM, with its own picture, that has this RAM, this machine, and these fields of its driver,
-- which writes this frame
abbrev pub world_with : List ℕ → Machine → DriverFields → List OpKind → State → State
world_with ram machine fields F world = record {
  rom = world.rom;
  ram = ram;
  machine = record machine { picture = world.machine.picture };
  driver = driving_in (state_of fields F);
  sent = fields.strobe_sent;
}

-- a world over this ROM can go on so: a generator can stand as the machine does, and a driver can be in that state
abbrev pub CanGoOn : Machine → DriverFields → List OpKind → List ℕ → Type 0
CanGoOn machine fields F R = CanStand machine × IsState R (state_of fields F)

-- a world goes on so, exactly where it can
abbrev pub Resumes : List ℕ → Machine → DriverFields → List OpKind → State → State → Reply → Type 0
Resumes ram machine fields F world later Opened = CanGoOn machine fields F world.rom
    × (later ≡ world_with ram machine fields F world)
Resumes ram machine fields F world later NoState = (CanGoOn machine fields F world.rom → ⊥) × (later ≡ world)
Resumes ram machine fields F world later reply = ⊥
