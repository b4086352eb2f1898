-- Laws of the numbers of replies, and of saved states.
use Rattle.std.specs.Prelude.{◌≡◌, ◌<◌, ◌+◌, ◌*◌, ◌/◌, ◌%◌, ◌^◌, ℕ, Bool, List, [], ◌∷◌, length, map, All, Option}
use Rattle.std.specs.Prelude.{Some, IfSome, ◌⊎◌, slice_get}
use Rattle.dvg_gen.specs.Machine.{Machine, HasTaken}
use Rattle.dvg_gen.specs.Told.{Told}
use Rattle.dvg_gen.specs.Wrapping.{Wrapped, HasWrapped}
use Rattle.dvg_gen.specs.declared.TheConstants.{STACK_DEPTH}
use Rattle.dvg_driver.specs.Saved.{stage_in}
use Rattle.dvg_world.specs.Standing.{KeepsLogs, State}
use Rattle.dvg_log.specs.declared.entry.Entry.TheVariants.{Cleared}
use Rattle.dvg_mem.specs.Memory.{IsImage}
use Rattle.dvg_frame.specs.declared.op.OpKind.{OpKind}
use Rattle.dvg_device.specs.Devices.{Answered, Generator, Held, World, Wrapping}
use Rattle.dvg_device.specs.Worlds.{TellsOperation, TellsWorld}
use Rattle.dvg_device.specs.Resuming.{state_of}
use Rattle.dvg_device.specs.Wrappings.{saved_of}
use Rattle.dvg_device.specs.declared.driver.DriverFields.{DriverFields}
use Rattle.dvg_device.specs.declared.operation.Operation.{Operation}
use Rattle.dvg_device.specs.Bits.{bit}
use Rattle.dvg_device.specs.Replies.{next, number_of, packed}
use Rattle.dvg_device.specs.Requests.{request_of}
use Rattle.dvg_device.specs.States.{CanBeSaved, Suits, drawn_so_far, part_in, parts_of, told, unbegun, word_of}
use Rattle.dvg_device.specs.declared.reply.Reply.{Reply}
use Rattle.dvg_device.specs.declared.reply.Reply.TheVariants as replies
use Rattle.dvg_device.specs.declared.reply.Reply.TheVariants.{Came, NoMemory, Opened}
use Rattle.dvg_device.specs.declared.request.Question.TheVariants as questions
use Rattle.dvg_device.specs.declared.request.Request.TheVariants.{Push, Resume, ResumeWorld, ResumeWrapping, TellState}
use Rattle.dvg_device.specs.declared.state.StatePart.{StatePart}
use Rattle.dvg_device.specs.declared.state.StatePart.TheVariants.{Fields, ReturnAddress, Place, Line}

-- a packed number is taken apart by its lowest byte, the 16 bits above it, and what stands above those; a value of 16
-- bits ends below bit 40
abbrev pub TakenApart : Type 0
TakenApart = (kind address value : ℕ) → kind < 0x100 → address < 0x1_0000
    → (packed kind address value % 0x100 ≡ kind) × (packed kind address value / 0x100 % 0x1_0000 ≡ address)
    × (packed kind address value / 0x100_0000 ≡ value) × (value < 0x1_0000 → packed kind address value < 2 ^ 40)

-- an onward number: 16 bits of value, then the address of the byte wanted next, and 1 in bit 60
abbrev pub OnwardTakenApart : Type 0
OnwardTakenApart = (number kind address value word : ℕ) (high : Bool) → kind < 0x100
    → address < 0x1_0000 → value < 0x1_0000 → word < 0x8000
    → number ≡ packed kind address value + next word high
    → (number % 0x100 ≡ kind) × (number / 0x100 % 0x1_0000 ≡ address)
    × (number / 0x100_0000 % 0x1_0000 ≡ value)
    × (number / 2 ^ 40 % 0x1_0000 ≡ 2 * word + bit high) × (number / 2 ^ 60 % 2 ≡ 1)

-- the fields of a part fit into the bits that they have in its word
abbrev pub Fits : StatePart → Type 0
Fits (Fields is_open at held low scale) = (at < 0x1_0000) × IfSome held (λ word. word < 0x1_0000)
    × IfSome low (λ byte. byte < 0x100) × (scale < 16)
Fits (ReturnAddress address) = address < 0x1_0000
Fits (Place x y) = (x < 0x40_0000) × (y < 0x40_0000)
Fits (Line x y z) = (x < 0x40_0000) × (y < 0x40_0000) × (z < 16)

-- a part is read in its word
abbrev pub IsReadAgain : Type 0
IsReadAgain = (part : StatePart) → Fits part → part_in (word_of part) ≡ Some part

-- the number of the reply that tells a part is the request that tells it
abbrev pub IsPassedOn : Type 0
IsPassedOn = (part : StatePart) → Fits part
    → request_of (number_of (replies.State (word_of part))) ≡ TellState (word_of part)

-- each part of a state that can be saved fits
abbrev pub AllFit : Type 0
AllFit = (machine : Machine) → CanBeSaved machine → All Fits (parts_of machine)

-- parts suit, each after those before it
abbrev pub AllSuit : List StatePart → Machine → Type 0
AllSuit [] machine = Unit {0}
AllSuit (part ∷ parts) machine = Suits machine part × AllSuit parts (told machine part)

-- no part of a state that can be saved is refused, whatever was told before
abbrev pub IsNeverRefused : Type 0
IsNeverRefused = (machine before : Machine) → CanBeSaved machine → AllSuit (parts_of machine) before

-- a device is told these words in turn, and takes each
abbrev pub ToldInTurn : List ℕ → Held → Held → Type 0
ToldInTurn [] old new = new ≡ old
ToldInTurn (word ∷ words) old new = (between : Held) × Answered (TellState word) old between (Came Cleared)
    × ToldInTurn words between new

-- the machine that goes on from a saved state: neither strokes of a run that is over nor the picture are saved
abbrev pub restored : Machine → Machine
restored machine = record machine { strokes = drawn_so_far machine; picture = [] }

-- a device that was told a machine's state, and resumes, opens a generator that stands as the machine does
abbrev pub IsRestored : Type 0
IsRestored = (machine : Machine) (old between new : Held) (reply : Reply) → CanBeSaved machine
    → ToldInTurn (map word_of (parts_of machine)) old between → Answered Resume between new reply
    → (reply ≡ Opened) × (new ≡ record old { waiting = unbegun; open_part = Generator (restored machine) })

-- it stands after each history after which the machine stands
abbrev pub RestoredStands : Type 0
RestoredStands = (machine : Machine) (history : List Told) (low : Option ℕ) → HasTaken machine history low
    → HasTaken (restored machine) history low

-- a generator whose stack wraps, which saves no address itself: its state is told and it resumes, and so there is one
-- that stands after each history after which it stands
abbrev pub IsWrappingRestored : Type 0
IsWrappingRestored = (wrapped : Wrapped) (old between new : Held) (reply : Reply)
    → wrapped.machine.stack ≡ [] → length wrapped.registers ≡ STACK_DEPTH → CanBeSaved (saved_of wrapped)
    → ToldInTurn (map word_of (parts_of (saved_of wrapped))) old between → Answered ResumeWrapping between new reply
    → (reply ≡ Opened) × (later : Wrapped) × (new ≡ record old { waiting = unbegun; open_part = Wrapping later })
    × ((history : List Told) (low : Option ℕ) → HasWrapped wrapped history low → HasWrapped later history low)

-- the number of the reply that tells what a world keeps of its driver is the request by which a world goes on with it,
-- and the number of one that tells an operation is the request that pushes it
abbrev pub DriversArePassedOn : Type 0
DriversArePassedOn = (fields : DriverFields) → fields.left < 0x1_0000
    → request_of (number_of (replies.Driver fields)) ≡ ResumeWorld fields

abbrev pub OperationsArePassedOn : Type 0
OperationsArePassedOn = (o : Operation) → o.kind < 0x100 → o.scale < 0x100 → o.z < 0x100
    → o.x < 0x1_0000 → o.y < 0x1_0000 → request_of (number_of (replies.Operation o)) ≡ Push o

-- a device with a world over a saved world's ROM was told all that the saved one tells: its RAM is staged, the draft is
-- a frame, and with it these fields of a driver are a state of its stage, and the parts of its generator were told in
-- turn.
-- Where the world goes on, it stands after each log after which the saved one stands
abbrev pub IsWorldResumed : Type 0
IsWorldResumed = (saved world : State) (fields : DriverFields) (old between new : Held) → CanBeSaved saved.machine
    → world.rom ≡ saved.rom → old.staged ≡ saved.ram → stage_in (state_of fields old.draft) ≡ saved.driver.stage
    → fields.strobe_sent ≡ saved.sent → old.open_part ≡ World world
    → ToldInTurn (map word_of (parts_of saved.machine)) old between → Answered (ResumeWorld fields) between new Opened
    → (later : State) × (new.open_part ≡ World later) × KeepsLogs saved later

-- a world tells this draft as the frame that its driver writes: of each number it can be answered which operation of
-- the draft that is, or that there is none
abbrev pub TellsDraft : State → List OpKind → Type 0
TellsDraft world F = (n : ℕ) → (reply : Reply) × TellsWorld (questions.Operation n) world reply
    × TellsOperation (slice_get F n) reply

-- a device with a world over a saved world's ROM was told all that the saved one tells: its RAM is staged, these fields
-- and the draft are told of its driver, and the parts of its generator were told in turn.
-- If there is memory, the world goes on, and stands after each log after which the saved one stands
abbrev pub IsWorldTaken : Type 0
IsWorldTaken = (saved world : State) (fields : DriverFields) (old between new : Held) (reply : Reply)
    → CanBeSaved saved.machine → IsImage saved.ram → world.rom ≡ saved.rom → old.staged ≡ saved.ram
    → TellsWorld questions.Driver saved (replies.Driver fields) → TellsDraft saved old.draft
    → old.open_part ≡ World world → ToldInTurn (map word_of (parts_of saved.machine)) old between
    → Answered (ResumeWorld fields) between new reply
    → (reply ≡ NoMemory)
    ⊎ ((reply ≡ Opened) × (later : State) × (new.open_part ≡ World later) × KeepsLogs saved later)
