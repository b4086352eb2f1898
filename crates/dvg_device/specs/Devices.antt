-- What a device answers to a request.
use Rattle.std.specs.Prelude.{◌≡◌, ◌≢◌, ◌+◌, ◌*◌, ◌<◌, ◌≤◌, ◌⊎◌, ℕ, List, [], ◌∷◌, ◌++◌, length}
use Rattle.std.specs.Prelude.{take, drop, replicate, slice_get}
use Rattle.std.specs.Prelude.{None}
use Rattle.dvg_gen.specs.declared.stroke.Stroke.{Stroke}
use Rattle.dvg_gen.specs.Machine.{Machine, HasTaken}
use Rattle.dvg_gen.specs.Wrapping.{Wrapped, HasWrapped}
use Rattle.dvg_mem.specs.declared.TheConstants.{LARGE_ROM_BYTES, MEMORY_BYTES}
use Rattle.dvg_frame.specs.declared.draft.TheConstants.{MAX_OPS}
use Rattle.dvg_frame.specs.declared.op.OpKind.{OpKind}
use Rattle.dvg_world.specs.Standing.{State}
use Rattle.dvg_device.specs.Operations.{Names}
use Rattle.dvg_device.specs.Requests.{request_of}
use Rattle.dvg_device.specs.Replies.{number_of, begins, ends, shines}
use Rattle.dvg_device.specs.Worlds.{IsBegun, Resumes, TellsWorld, WorldAnswers}
use Rattle.dvg_device.specs.declared.driver.DriverFields.{DriverFields}
use Rattle.dvg_world.specs.Desks.{Driven, IsFresh}
use Rattle.dvg_device.specs.Drivers.{DriverAnswers}
use Rattle.dvg_device.specs.Generators.{GeneratorAnswers, IsAnswerTo}
use Rattle.dvg_device.specs.Wrappings.{CanWrap, TellsWrapped, WrappingAnswers, wrapping_of}
use Rattle.dvg_device.specs.States.{CanStand, TakesPart, part_in, unbegun}
use Rattle.dvg_moment.specs.declared.judge.MomentJudge.{MomentJudge}
use Rattle.dvg_moment.specs.Judging.{StandsAfter}
use Rattle.dvg_device.specs.Judges.{JudgeAnswers}
use Rattle.dvg_device.specs.declared.device.TheConstants.{MOST_STAGED}
use Rattle.dvg_device.specs.declared.operation.Operation.{Operation}
use Rattle.dvg_log.specs.declared.entry.Entry.TheVariants.{Cleared}
use Rattle.dvg_device.specs.declared.reply.Reply.{Reply}
use Rattle.dvg_device.specs.declared.reply.Reply.TheVariants as replies
use Rattle.dvg_device.specs.declared.request.Question.{Question}
use Rattle.dvg_device.specs.declared.request.Request.{Request}
use Rattle.dvg_device.specs.declared.request.Request.TheVariants as requests

-- what is open in a device
pub data Open : Type 0 where
  Nothing : Open
  World : State → Open
  Driver : Driven → Open
  Generator : Machine → Open
  Wrapping : Wrapped → Open
  Judge : MomentJudge → Open

-- the strokes of the newest run of what is open that came to a HALT
abbrev pub picture_in : Open → List Stroke
picture_in (World world) = world.machine.picture
picture_in (Generator machine) = machine.picture
picture_in (Wrapping wrapped) = wrapped.machine.picture
picture_in part = []

-- a device: the bytes that were staged, its draft, the machine in the state of a generator that was told so far, and
-- what is open
pub record Held : Type 0 where
  pub staged : List ℕ
  pub draft : List OpKind
  pub waiting : Machine
  pub open_part : Open

-- a device in which nothing is open
abbrev pub closed : Held
closed = record { staged = []; draft = []; waiting = unbegun; open_part = Nothing }

-- an operation is pushed: it stands at the end of the draft, under that number; or the numbers name none; or there are
-- as many as a draft holds
abbrev pub PushAnswers : Operation → Held → Held → Reply → Type 0
PushAnswers numbers old new (replies.Pushed i) = (op : OpKind) × Names numbers op × (i ≡ length old.draft)
    × (length old.draft < MAX_OPS) × (new ≡ record old { draft = old.draft ++ op ∷ [] })
PushAnswers numbers old new replies.NoOperation = ((op : OpKind) → ¬ Names numbers op) × (new ≡ old)
PushAnswers numbers old new replies.Full = (op : OpKind) × Names numbers op × (MAX_OPS ≤ length old.draft) × (new ≡ old)
PushAnswers numbers old new _ = ⊥

-- a byte is staged this many times, after the bytes that are; there are 6,144 at most in all
abbrev pub StageAnswers : ℕ → ℕ → Held → Held → Reply → Type 0
StageAnswers byte count old new (replies.Staged n) = (n ≡ length old.staged + count) × (n ≤ MOST_STAGED)
    × (new ≡ record old { staged = old.staged ++ replicate count byte })
StageAnswers byte count old new replies.Full = (MOST_STAGED < length old.staged + count) × (new ≡ old)
StageAnswers byte count old new replies.NoMemory = (length old.staged + count ≤ MOST_STAGED) × (new ≡ old)
StageAnswers byte count old new _ = ⊥

-- a number is one of two
abbrev pub IsOneOf : ℕ → ℕ → ℕ → Type 0
IsOneOf n small large = (n ≡ small) ⊎ (n ≡ large)

-- something is opened where the staged bytes are those that it takes: this holds of what is open then
abbrev pub OpenAnswers : Type 0 → (Open → Type 0) → Held → Held → Reply → Type 0
OpenAnswers Fits P old new replies.Opened = Fits × (part : Open) × P part
    × (new ≡ record old { open_part = part })
OpenAnswers Fits P old new replies.WrongSize = ¬ Fits × (new ≡ old)
OpenAnswers Fits P old new replies.NoMemory = Fits × (new ≡ old)
OpenAnswers Fits P old new _ = ⊥

-- a world over the ROM of the bytes after the first 2,048, with those as the first image of its RAM, that stands after
-- the empty log
abbrev pub IsNewWorld : List ℕ → Open → Type 0
IsNewWorld staged (World world) = IsBegun (drop MEMORY_BYTES staged) (take MEMORY_BYTES staged) world
IsNewWorld staged part = ⊥

-- a driver over the ROM of these bytes that stands after the empty life
abbrev pub IsNewDriver : List ℕ → Open → Type 0
IsNewDriver staged (Driver driven) = IsFresh staged driven
IsNewDriver staged part = ⊥

-- a judge that was told no line
abbrev pub IsNewJudge : Open → Type 0
IsNewJudge (Judge judge) = StandsAfter judge []
IsNewJudge part = ⊥

-- a generator begins in the state that was told, if it can stand so
abbrev pub ResumeAnswers : Held → Held → Reply → Type 0
ResumeAnswers old new replies.Opened = CanStand old.waiting × (old.waiting.picture ≡ [])
    × (new ≡ record old { waiting = unbegun; open_part = Generator old.waiting })
ResumeAnswers old new replies.NoState = ¬ CanStand old.waiting × (new ≡ old)
ResumeAnswers old new _ = ⊥

-- so does a generator whose stack wraps
abbrev pub WrappingResumes : Held → Held → Reply → Type 0
WrappingResumes old new replies.Opened = CanWrap old.waiting × (old.waiting.picture ≡ [])
    × (new ≡ record old { waiting = unbegun; open_part = Wrapping (wrapping_of old.waiting) })
WrappingResumes old new replies.NoState = ¬ CanWrap old.waiting × (new ≡ old)
WrappingResumes old new _ = ⊥

-- what is answered where nothing is open
abbrev pub unopened : Request → Reply
unopened requests.Unknown = replies.Unknown
unopened asked = replies.Closed

-- some reply meets this condition, and has this number
abbrev pub Numbered : (Reply → Type 0) → ℕ → Type 0
Numbered P answer = (answered : Reply) × P answered × (answer ≡ number_of answered)

-- the number of the reply to a question, by what is open
abbrev pub ToldBy : Question → Open → ℕ → Type 0
ToldBy question (Generator machine) answer = Numbered (IsAnswerTo question machine) answer
ToldBy question (Wrapping wrapped) answer = Numbered (TellsWrapped question wrapped) answer
ToldBy question (World world) answer = Numbered (TellsWorld question world) answer
ToldBy question Nothing answer = answer ≡ number_of replies.Closed
ToldBy question part answer = answer ≡ number_of replies.Unknown

-- what is open comes to this by a request, beside the draft and the staged bytes
abbrev pub PartAnswers : Open → Request → Held → Held → Reply → Type 0
PartAnswers Nothing asked old new answer = (new ≡ old) × (answer ≡ unopened asked)
PartAnswers (World world) asked old new answer = (later : State) × (new ≡ record old { open_part = World later })
    × WorldAnswers old.draft old.staged asked world later answer
PartAnswers (Driver driven) asked old new answer = (later : Driven) × (new ≡ record old { open_part = Driver later })
    × (later.rom ≡ driven.rom) × DriverAnswers driven.rom old.draft asked driven.driver later.driver answer
PartAnswers (Generator machine) asked old new answer = (later : Machine)
    × (new ≡ record old { open_part = Generator later }) × GeneratorAnswers asked machine later answer
PartAnswers (Wrapping wrapped) asked old new answer = (later : Wrapped)
    × (new ≡ record old { open_part = Wrapping later }) × WrappingAnswers asked wrapped later answer
PartAnswers (Judge judge) asked old new answer = (later : MomentJudge) × (new ≡ record old { open_part = Judge later })
    × JudgeAnswers asked judge later answer

-- a world that is open goes on in the state that was told: the staged bytes are those of its RAM, and the draft is the
-- frame that is being written. What was told is forgotten
abbrev pub WorldResumes : DriverFields → State → Held → Held → Reply → Type 0
WorldResumes fields world old new replies.WrongSize = (length old.staged ≢ MEMORY_BYTES) × (new ≡ old)
WorldResumes fields world old new replies.NoMemory = (length old.staged ≡ MEMORY_BYTES) × (new ≡ old)
WorldResumes fields world old new answer = (length old.staged ≡ MEMORY_BYTES) × (later : State)
    × (new ≡ record old { waiting = unbegun; open_part = World later })
    × Resumes old.staged old.waiting fields old.draft world later answer

-- what isn't a world knows no such request
abbrev pub ResumesIn : Open → DriverFields → Held → Held → Reply → Type 0
ResumesIn (World world) fields old new answer = WorldResumes fields world old new answer
ResumesIn part fields old new answer = PartAnswers part (requests.ResumeWorld fields) old new answer

-- what a device comes to by a request, and what it answers
abbrev pub Answered : Request → Held → Held → Reply → Type 0
Answered (requests.Push numbers) old new answer = PushAnswers numbers old new answer
Answered requests.ClearDraft old new answer = (new ≡ record old { draft = [] }) × (answer ≡ replies.Came Cleared)
Answered (requests.Stage byte count) old new answer = StageAnswers byte count old new answer
Answered requests.Unstage old new answer = (new ≡ record old { staged = [] }) × (answer ≡ replies.Came Cleared)
Answered requests.OpenWorld old new answer = OpenAnswers (IsOneOf (length old.staged) (2 * MEMORY_BYTES)
    MOST_STAGED) (IsNewWorld old.staged) old new answer
Answered requests.OpenDriver old new answer = OpenAnswers (IsOneOf (length old.staged) MEMORY_BYTES
    LARGE_ROM_BYTES) (IsNewDriver old.staged) old new answer
Answered requests.OpenGenerator old new answer = (machine : Machine) × HasTaken machine [] None
    × (machine.picture ≡ []) × (new ≡ record old { open_part = Generator machine }) × (answer ≡ replies.Opened)
Answered requests.OpenWrapping old new answer = (wrapped : Wrapped) × HasWrapped wrapped [] None
    × (wrapped.machine.picture ≡ []) × (new ≡ record old { open_part = Wrapping wrapped })
    × (answer ≡ replies.Opened)
Answered requests.OpenJudge old new answer = OpenAnswers (Unit {0}) IsNewJudge old new answer
Answered requests.Resume old new answer = ResumeAnswers old new answer
Answered requests.ResumeWrapping old new answer = WrappingResumes old new answer
Answered (requests.TellState word) old new answer = (later : Machine) × (new ≡ record old { waiting = later })
    × TakesPart (part_in word) old.waiting later answer
Answered (requests.ResumeWorld fields) old new answer = ResumesIn old.open_part fields old new answer
Answered requests.Close old new answer = (new ≡ closed) × (answer ≡ replies.Closed)
Answered requests.CountStrokes old new answer = (new ≡ old)
    × (answer ≡ replies.Count (length (picture_in old.open_part)))
Answered (requests.StrokeFrom n) old new answer = (new ≡ old)
    × (answer ≡ begins (slice_get (picture_in old.open_part) n))
Answered (requests.StrokeTo n) old new answer = (new ≡ old)
    × (answer ≡ ends (slice_get (picture_in old.open_part) n))
Answered (requests.StrokeIntensity n) old new answer = (new ≡ old)
    × (answer ≡ shines (slice_get (picture_in old.open_part) n))
Answered asked old new answer = PartAnswers old.open_part asked old new answer

-- a request as a number, with its answer as one
abbrev pub Turned : Held → ℕ → Held → ℕ → Type 0
Turned old number new answer = Numbered (Answered (request_of number) old new) answer
