-- Replies, and their numbers of 64 bits.
use Rattle.std.specs.Prelude.{ℕ, ◌+◌, ◌*◌, ◌%◌, ◌^◌, Bool, true, false, Option, Some, None}
use Rattle.dvg_gen.specs.declared.stroke.Stroke.{Stroke}
use Rattle.dvg_gen.specs.Numbers.{fault_number}
use Rattle.dvg_driver.specs.declared.action.Action.{Action}
use Rattle.dvg_driver.specs.declared.action.Action.TheVariants as actions
use Rattle.dvg_frame.specs.declared.fault.FrameFault.{FrameFault}
use Rattle.dvg_frame.specs.FaultNumbers as faults
use Rattle.dvg_frame.specs.declared.place.Place.{Place}
use Rattle.dvg_frame.specs.declared.place.Place.TheVariants.{InFrame, InRom}
use Rattle.dvg_log.specs.declared.entry.Entry.{Entry}
use Rattle.dvg_log.specs.declared.entry.Entry.TheVariants.{Offered, Refused, Busy, Asked, NothingPublished, Acted}
use Rattle.dvg_log.specs.declared.entry.Entry.TheVariants.{Started, NoStrobe, Low, Fetched, Done, Broke, Still, Cleared}
use Rattle.dvg_device.specs.Bits.{bit}
use Rattle.dvg_device.specs.Resuming.{driver_number}
use Rattle.dvg_device.specs.declared.operation.Operation.{Operation}
use Rattle.dvg_device.specs.declared.reply.Reply.{Reply}
use Rattle.dvg_device.specs.declared.reply.Reply.TheVariants.{Came, Onward, Pushed, NoOperation, Full, Staged}
use Rattle.dvg_device.specs.declared.reply.Reply.TheVariants.{Opened, WrongSize, Closed, Wants, Count, Point, Intensity}
use Rattle.dvg_device.specs.declared.reply.Reply.TheVariants.{Judged, Moves, Nothing, Holds, ReturnsTo, State, NoState}
use Rattle.dvg_device.specs.declared.reply.Reply.TheVariants.{Byte, Driver, Unknown, NoMemory}
use Rattle.dvg_device.specs.declared.reply.Reply.TheVariants as replies
use Rattle.dvg_device.specs.declared.reply.RunState.{RunState}
use Rattle.dvg_device.specs.declared.reply.RunState.TheVariants as runs

-- 8 bits of a kind, 16 of an address and then a value
abbrev pub packed : ℕ → ℕ → ℕ → ℕ
packed kind address value = kind + 0x100 * address + 0x100_0000 * value

-- a fault: its number, and the place that it names, which is an operation's number or the address of
-- a word of the ROM; in the ROM the fault's number is 0x100 more
abbrev pub placed : ℕ → Option Place → ℕ
placed fault None = packed 1 0 fault
placed fault (Some (InFrame i)) = packed 1 i fault
placed fault (Some (InRom a)) = packed 1 a (0x100 + fault)

-- a refused draft: its fault by the number of `check`, at the place that it names
abbrev pub refusal : FrameFault → ℕ
refusal fault = placed (faults.number_of fault) (faults.place_of fault)

-- what the driver did
abbrev pub acted : Action → ℕ
acted actions.Peek = packed 5 0 0
acted (actions.Wrote a byte) = packed 6 a byte
acted (actions.Read false) = packed 7 0 0
acted (actions.Read true) = packed 7 0 1
acted actions.Sent = packed 8 0 0
acted actions.Idle = packed 9 0 0

-- what came of a request, by what a log shows of it, but without what a run drew
abbrev pub came : Entry (Unit {0}) → ℕ
came Offered = packed 0 0 0
came (Refused fault) = refusal fault
came Busy = packed 2 0 0
came Asked = packed 3 0 0
came NothingPublished = packed 4 0 0
came (Acted action) = acted action
came Started = packed 10 0 0
came NoStrobe = packed 11 0 0
came (Low address byte) = packed 12 address byte
came (Fetched address word) = packed 13 address word
came (Done address word drew) = packed 14 address word
came (Broke address fault) = packed 15 address (fault_number fault)
came Still = packed 16 0 0
came Cleared = packed 17 0 0

-- what a judge says: how the newest run stands
abbrev pub judged : RunState → ℕ → ℕ
judged runs.NoRun value = packed 26 0 value
judged runs.OneMoment value = packed 27 0 value
judged runs.NoMoment value = packed 28 0 value
judged runs.Whole value = packed 29 0 value
judged runs.Torn value = packed 30 0 value

-- which byte is wanted next: its byte address from bit 40 on, and 1 in bit 60
abbrev pub next : ℕ → Bool → ℕ
next address high = 2 ^ 60 + 2 ^ 40 * (2 * address + bit high)

-- an operation: the number of the request that pushes it
abbrev pub pushing : Operation → ℕ
pushing o = 8 + 0x100 * o.kind + 0x1_0000 * o.scale + 0x100_0000 * o.z + 2 ^ 32 * o.x + 2 ^ 48 * o.y

-- the number of a reply
abbrev pub number_of : Reply → ℕ
number_of (Came entry) = came entry
number_of (Onward entry address high) = came entry + next address high
number_of (Pushed i) = packed 18 0 i
number_of NoOperation = packed 19 0 0
number_of Full = packed 20 0 0
number_of (Staged count) = packed 21 0 count
number_of Opened = packed 22 0 0
number_of WrongSize = packed 23 0 0
number_of Closed = packed 24 0 0
number_of (Wants address false) = packed 25 address 0
number_of (Wants address true) = packed 25 address 1
number_of (Count n) = n
number_of (Point x y) = x + 2 ^ 32 * y
number_of (Intensity z) = z
number_of (Judged run false) = judged run 0
number_of (Judged run true) = judged run 1
number_of (Moves address z placed) = packed 31 address (z + 0x100 * bit placed)
number_of Nothing = packed 32 0 0
number_of (Holds first bits) = packed 33 first bits
number_of (ReturnsTo address) = packed 34 address 0
number_of (State word) = 35 + 0x100 * (word % 2 ^ 56)
number_of NoState = packed 36 0 0
number_of (Byte address byte) = packed 37 address byte
number_of (Driver fields) = driver_number fields
number_of (replies.Operation o) = pushing o
number_of Unknown = packed 254 0 0
number_of NoMemory = packed 255 0 0

-- where a stroke begins and ends, and its intensity; 0 where there is none
abbrev pub begins : Option Stroke → Reply
begins None = Point 0 0
begins (Some stroke) = Point stroke.x0 stroke.y0

abbrev pub ends : Option Stroke → Reply
ends None = Point 0 0
ends (Some stroke) = Point stroke.x1 stroke.y1

abbrev pub shines : Option Stroke → Reply
shines None = Intensity 0
shines (Some stroke) = Intensity stroke.z
