-- Many calls of the routines, and the life that their accesses make.
use Rattle.std.specs.Prelude.{◌≡◌, ℕ, ◌+◌, ◌*◌, ◌<◌, ◌≤◌, ◌&&◌, Bool, true, false, not, List, [], ◌∷◌, ◌++◌, length}
use Rattle.std.specs.Prelude.{Option, None, Some, drop, if◌then◌else◌, ◌||◌, nat_eq, nat_le, nat_lt}
use Rattle.dvg_mem.specs.declared.half.Half.TheVariants.{H1}
use Rattle.dvg_mem.specs.Areas.{other, half_of_high}
use Rattle.dvg_frame.specs.declared.op.OpKind.{OpKind}
use Rattle.dvg_frame.specs.Bytes.{bytes}
use Rattle.dvg_frame.specs.Layout.{laid}
use Rattle.dvg_driver.specs.Script.{Item, Offered, Asked, Did, IsLife, IsWhole, has_flip}
use Rattle.dvg_calls_6502.specs.Processor.{Cpu, Access, at_return, stack_place}
use Rattle.dvg_calls_6502.specs.Amid.{amid, AreHarmless, guards, is_kept, is_code}
use Rattle.dvg_calls_6502.specs.Code.{dvg_reset, dvg_tick, dvg_ticks, dvg_run, dvg_offer, dvg_redraw, dvg_open, dvg_close}
use Rattle.dvg_calls_6502.specs.Board.{seen, is_own, is_ram, is_hardware, byte1_place, phase_in}
use Rattle.dvg_calls_6502.specs.Tables.{HasTable, table_of}
use Rattle.dvg_calls_6502.specs.Routines.{Enters, Shows, Part, Put, Pair, begins, put_by}

-- what is called; an offer is of a draft's table, and dvg_open of the draft that is built from there on
pub data Routine : Type 0 where
  Reset : Routine
  Tick : Routine
  Ticks : Routine
  Run : Routine
  Offer : List OpKind → Routine
  Redraw : Routine
  Open : List OpKind → Routine
  Puts : Part → Routine
  Close : Routine

-- where a routine begins
abbrev pub entry : Routine → ℕ
entry Reset = dvg_reset
entry Tick = dvg_tick
entry Ticks = dvg_ticks
entry Run = dvg_run
entry (Offer F) = dvg_offer
entry Redraw = dvg_redraw
entry (Open F) = dvg_open
entry (Puts part) = begins part
entry Close = dvg_close

-- a call, from the processor at its entry, after this many steps; others may interrupt it, and each step finds the
-- memory that they leave
pub record Call : Type 0 where
  pub routine : Routine
  pub from : Cpu
  pub steps : ℕ
  pub others : ℕ → ℕ → ℕ

-- the processor after those steps
abbrev pub after : Call → Cpu
after call = amid call.from.s call.others call.steps call.from

abbrev pub has_returned : Call → Bool
has_returned call = at_return call.from.s (after call)

-- the routine begins with a look at the phase, and is refused at the one that this memory has
abbrev pub finds_busy : Routine → (ℕ → ℕ) → Bool
finds_busy (Offer F) mem = not (nat_eq (phase_in mem) 2)
finds_busy (Open F) mem = not (nat_eq (phase_in mem) 2)
finds_busy Redraw mem = not (nat_eq (phase_in mem) 2)
finds_busy (Puts Put) mem = not (nat_eq (phase_in mem) 7)
finds_busy (Puts Pair) mem = not (nat_eq (phase_in mem) 7)
finds_busy Close mem = not (nat_eq (phase_in mem) 7)
finds_busy routine mem = false

-- the call has looked, and is refused
abbrev pub is_refused : Call → Bool
is_refused call = nat_eq call.steps 1 && finds_busy call.routine call.from.mem

-- what is left of a call that began with this S is the code's CLC and RTS: it has stored the phase
abbrev pub is_leaving : ℕ → Cpu → Bool
is_leaving s cpu = is_code cpu.pc && (is_code (cpu.pc + 1)
    && (nat_eq (cpu.mem cpu.pc) 0x18 && (nat_eq (cpu.mem (cpu.pc + 1)) 0x60 && nat_eq cpu.s s)))

-- a call's C is decided: it returns with that C, whatever others then do to bytes outside the code
abbrev pub is_decided : Call → Bool
is_decided call = is_refused call || is_leaving call.from.s (after call)

-- it has returned, or its answer is decided, so that ticks of an NMI may follow
abbrev pub is_over : Call → Bool
is_over call = has_returned call || is_decided call

-- the C that it returns with then
abbrev pub answer : Call → Bool
answer call = if is_refused call then true else (if is_leaving call.from.s (after call) then false else (after call).c)

-- it is over, with C clear
abbrev pub is_taken : Call → Bool
is_taken call = is_over call && not (answer call)

-- these bytes of a frame are put
abbrev pub put_on : List ℕ → Option (ℕ × List ℕ) → Option (ℕ × List ℕ)
put_on now None = None
put_on now (Some frame) = Some (frame.0 + length now, drop (length now) frame.1)

-- of the frame that is being built, how many bytes were put, and those that are still to come
abbrev pub frame_after : Routine → Call → Option (ℕ × List ℕ) → Option (ℕ × List ℕ)
frame_after (Open F) call frame = if is_taken call then Some (0, table_of F) else frame
frame_after (Puts part) call frame = if is_taken call then put_on (put_by part call.from) frame else frame
frame_after Close call frame = if is_taken call then None else frame
frame_after Reset call frame = None
frame_after routine call frame = frame

abbrev pub frame_of : List Call → Option (ℕ × List ℕ)
frame_of [] = None
frame_of (call ∷ calls) = frame_after call.routine call (frame_of calls)

-- a draft that can be built: of at most 511 words, and laid alike in both halves, as it calls and jumps to the ROM alone
pub record IsBuildable (F : List OpKind) : Type 0 where
  pub alike : bytes (laid H1 F) ≡ table_of F
  pub some : 2 ≤ length (table_of F)
  pub fits : length (table_of F) ≤ 1022

-- the part puts something, and there is room for that and the HALT after this many bytes
abbrev pub IsRoomFor : Part → Cpu → ℕ → Type 0
IsRoomFor part cpu count = let now = put_by part cpu in (1 ≤ length now) × (count + length now ≤ 1020)

-- what a call brings: a table, at A and X; a draft that can be built; of the frame that is being built, where there is
-- room, what is next, with more after it; or its HALT
abbrev pub Brings : Routine → Cpu → Option (ℕ × List ℕ) → Type 0
Brings (Offer F) cpu frame = HasTable cpu.mem (cpu.a + 256 * cpu.x) F
Brings (Open F) cpu frame = IsBuildable F
Brings (Puts part) cpu (Some frame) = IsRoomFor part cpu frame.0
    → (more : List ℕ) × (frame.1 ≡ put_by part cpu ++ more) × (2 ≤ length more)
Brings Close cpu (Some frame) = frame.1 ≡ 0x00 ∷ 0xB0 ∷ []
Brings routine cpu frame = Unit {0}

-- where the words of the table that was taken last begin and end
abbrev pub taken_bounds : Routine → Call → ℕ × ℕ → ℕ × ℕ
taken_bounds (Offer F) call older =
    let t = call.from.a + 256 * call.from.x + 2 in if is_taken call then (t, t + length (table_of F)) else older
taken_bounds Reset call older = (0, 0)
taken_bounds routine call older = older

-- calls are lists with the newest one first
abbrev pub bounds : List Call → ℕ × ℕ
bounds [] = (0, 0)
bounds (call ∷ calls) = taken_bounds call.routine call (bounds calls)

-- a byte of the table that is offered, or of its count
abbrev pub is_offered : Routine → Cpu → ℕ → Bool
is_offered (Offer F) cpu b =
    let t = cpu.a + 256 * cpu.x in nat_le t b && nat_lt b (t + 2 + length (table_of F))
is_offered routine cpu b = false

-- a byte of a table that matters to a call: of the one that was taken last, or of the one that is offered
abbrev pub is_table : Call → List Call → ℕ → Bool
is_table call calls b =
    (nat_le (bounds calls).0 b && nat_lt b (bounds calls).1) || is_offered call.routine call.from b

-- those who interrupt a call leave the driver's bytes, its code, the vector RAM and the flag, these tables, and within its
-- call of dvg_tick the return address as they are
abbrev pub IsLeftAlone : Call → List Call → Type 0
IsLeftAlone call calls =
    AreHarmless (guards (is_kept (is_table call calls)) call.from.s) call.from.s call.others call.steps call.from

-- what nobody else writes between two calls: the driver's bytes, the vector RAM, and a table while
-- the driver is writing its frame (the phase DVG_WRITE)
pub record IsUntouched (calls : List Call) (before now : ℕ → ℕ) : Type 0 where
  pub own : (b : ℕ) → is_own b ≡ true → now b ≡ before b
  pub ram : (b : ℕ) → is_ram b ≡ true → now b ≡ before b
  pub table : phase_in before ≡ 0x80 → (b : ℕ) → (bounds calls).0 ≤ b → b < (bounds calls).1 → now b ≡ before b

-- the call before this one is over, and since then what must be untouched is
abbrev pub Follows : Call → List Call → Type 0
Follows call [] = ⊥
Follows call (older ∷ calls) = (is_over older ≡ true) × IsUntouched (older ∷ calls) (after older).mem call.from.mem

-- a reset may come at any time, over any memory
abbrev pub UnlessReset : Routine → Type 0 → Type 0
UnlessReset Reset premise = Unit {0}
UnlessReset routine premise = premise

-- calls since a reset, each of which brings what it must; the newest one may be unfinished
abbrev pub IsSessionBy : (Routine → Cpu → Option (ℕ × List ℕ) → Type 0) → List Call → Type 0
IsSessionBy brings [] = ⊥
IsSessionBy brings (call ∷ calls) =
    Enters call.from (entry call.routine) × brings call.routine call.from (frame_of calls) × IsLeftAlone call calls
    × UnlessReset call.routine (Follows call calls × IsSessionBy brings calls)

-- the calls that the laws speak of
abbrev pub IsSession : List Call → Type 0
IsSession calls = IsSessionBy Brings calls

-- accesses of the hardware as actions, one by one
abbrev pub AreShown : List Item → List Access → Type 0
AreShown [] [] = Unit {0}
AreShown (Did action ∷ items) (access ∷ log) = Shows action (access ∷ []) × AreShown items log
AreShown items log = ⊥

-- the items that a call adds to a life: its actions, or what it takes; a frame goes to the half that is free
abbrev pub Adds : Routine → Call → List Item → Type 0
Adds Tick call items = AreShown items (seen (after call).log)
Adds Ticks call items = AreShown items (seen (after call).log)
Adds Run call items = AreShown items (seen (after call).log)
Adds (Offer F) call items =
    (seen (after call).log ≡ [])
    × (items ≡ (if is_taken call then Offered (other (half_of_high (call.from.mem byte1_place))) F ∷ [] else []))
Adds Redraw call items = (seen (after call).log ≡ []) × (items ≡ (if is_taken call then Asked ∷ [] else []))
Adds (Open F) call items =
    (seen (after call).log ≡ [])
    × (items ≡ (if is_taken call then Offered (other (half_of_high (call.from.mem byte1_place))) F ∷ [] else []))
Adds (Puts part) call items = AreShown items (seen (after call).log)
Adds Close call items = AreShown items (seen (after call).log)
Adds Reset call items = (seen (after call).log ≡ []) × (items ≡ [])

-- a reset begins a life
abbrev pub SinceReset : Routine → List Item → Type 0 → Type 0
SinceReset Reset older is_life = older ≡ []
SinceReset routine older is_life = is_life

-- the life that calls make: what each adds, the newest first
abbrev pub IsLifeOf : List Call → List Item → Type 0
IsLifeOf [] life = ⊥
IsLifeOf (call ∷ calls) life = (new : List Item) × (old : List Item) × (life ≡ new ++ old) × Adds call.routine call new
    × SinceReset call.routine old (IsLifeOf calls old)

-- all calls since a reset, with any memory at first, make a life of the script
abbrev pub CallsLive : Type 0
CallsLive = (calls : List Call) → IsSession calls → (life : List Item) × IsLifeOf calls life × IsLife life

-- calls make at most one life
abbrev pub OneLife : Type 0
OneLife = (calls : List Call) (one other : List Item) → IsLifeOf calls one → IsLifeOf calls other → one ≡ other

-- a call of this routine
abbrev pub call_of : Routine → Cpu → ℕ → (ℕ → ℕ → ℕ) → Call
call_of routine from steps others = record { routine = routine; from = from; steps = steps; others = others }

-- after calls that make this life, a call of the routine returns with this C, or its answer is decided so
pub record IsAnswered (routine : Routine) (c : Bool) (life : List Item) : Type 0 where
  pub from : Cpu
  pub steps : ℕ
  pub others : ℕ → ℕ → ℕ
  pub calls : List Call
  pub session : IsSession (call_of routine from steps others ∷ calls)
  pub makes : IsLifeOf calls life
  pub over : is_over (call_of routine from steps others) ≡ true
  pub carry : answer (call_of routine from steps others) ≡ c

-- an offer is taken, with C clear, exactly where the life is whole
abbrev pub OfferAnswers : Type 0
OfferAnswers = (F : List OpKind) (life : List Item) →
    (IsAnswered (Offer F) false life → IsWhole life) × (IsAnswered (Offer F) true life → ¬ IsWhole life)

-- a frame is begun by dvg_open there, too
abbrev pub OpenAnswers : Type 0
OpenAnswers = (F : List OpKind) (life : List Item) →
    (IsAnswered (Open F) false life → IsWhole life) × (IsAnswered (Open F) true life → ¬ IsWhole life)

-- a redraw is taken exactly where it is whole and has a flip
abbrev pub RedrawAnswers : Type 0
RedrawAnswers = (life : List Item) → (IsAnswered Redraw false life → (has_flip life ≡ true) × IsWhole life)
    × (IsAnswered Redraw true life → has_flip life ≡ true → ¬ IsWhole life)

-- a byte that dvg_ticks or dvg_run may change: the driver's, the count, the hardware, and two of the stack below S
abbrev pub is_ticked : (s b : ℕ) → Bool
is_ticked s b = is_own b || (nat_eq b 0x1F || (is_hardware b || (nat_eq b (stack_place s) || nat_eq b (stack_place (s + 255)))))

-- the call leaves each other byte as it was, if those who interrupt it do so
abbrev pub SparesTicked : Call → Type 0
SparesTicked call = (b : ℕ) → is_ticked call.from.s b ≡ false
    → AreHarmless (λ now k. nat_eq k b) call.from.s call.others call.steps call.from
    → (after call).mem b ≡ call.from.mem b

-- a call of dvg_ticks returns, as long as it is in a session after each number of steps; its count is 0 then, and the
-- rest of memory is spared
abbrev pub TicksReturn : Type 0
TicksReturn = (from : Cpu) (others : ℕ → ℕ → ℕ) (calls : List Call)
    → ((n : ℕ) → IsSession (call_of Ticks from n others ∷ calls))
    → (n : ℕ) × (has_returned (call_of Ticks from n others) ≡ true)
    × ((after (call_of Ticks from n others)).mem 0x1F ≡ 0) × SparesTicked (call_of Ticks from n others)

-- where a call of dvg_run has returned, the rest of memory is spared
abbrev pub RunSpares : Type 0
RunSpares = (from : Cpu) (steps : ℕ) (others : ℕ → ℕ → ℕ) (calls : List Call)
    → IsSession (call_of Run from steps others ∷ calls) → has_returned (call_of Run from steps others) ≡ true
    → SparesTicked (call_of Run from steps others)
