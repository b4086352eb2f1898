-- The first picture of a machine: the driver boots and takes a table, writes and publishes its frame, and the core draws
-- it; a redraw is asked for meanwhile, and finds the core running. The prover runs both ends, step by step.
use Rattle.std.proofs.Common.{◌≡◌, ℕ, zero, suc, ◌+◌, ◌<◌, Bool, true, false, List, [], ◌∷◌, ◌++◌, length, Option, Some, None, drop, take}
use Rattle.std.proofs.Common.{refl, sym, ap, ◌∙◌, subst, arith, lit<, eqb-true, leb-true, length-append}
use Rattle.std.proofs.lemmas.List.{length-replicate, get_or-replicate}
use Rattle.std.proofs.lemmas.List.Elements.{All-cons, All-nil, All-replicate}
use Rattle.std.proofs.lemmas.Bool.{ne_eqb}
use Rattle.std.specs.Prelude.{nat_eq, nat_le, nat_lt, ◌&&◌, ◌||◌, if◌then◌else◌, pos}
use Rattle.dvg_code.specs.declared.instr.Instr.TheVariants.{Labs as Place, Svec}
use Rattle.dvg_frame.specs.declared.op.OpKind.{OpKind}
use Rattle.dvg_frame.specs.declared.op.OpKind.TheVariants.{Draw, CallRom, Halt}
use Rattle.dvg_frame.specs.Ops.{IsOp}
use Rattle.dvg_mem.specs.Memory.{IsImage}
use Rattle.dvg_driver.specs.declared.action.Action.TheVariants.{Peek, Read}
use Rattle.dvg_log.specs.declared.event.Event.TheVariants.{Offer, Tick, ResetCpu}
use Rattle.dvg_log.specs.declared.entry.Entry.TheVariants.{Offered, Acted, Cleared}
use Rattle.dvg_log.specs.Log.{◌⟼◌, Log}
use Rattle.dvg_calls_6502.specs.Processor.{Cpu, Access, Reads, Writes, run, turn, at_return}
use Rattle.dvg_calls_6502.specs.Amid.{guards, is_kept}
use Rattle.dvg_calls_6502.specs.Board.{IsLoaded, seen}
use Rattle.dvg_calls_6502.specs.Calls as calls
use Rattle.dvg_calls_6502.specs.Calls.{Routine, Call, IsSession, Follows, Brings, UnlessReset, is_table, is_refused, is_leaving}
use Rattle.dvg_calls_6502.specs.Calls.{entry, frame_of}
use Rattle.dvg_calls_6502.specs.Build.{IsPut}
use Rattle.dvg_calls_6502.specs.Joined.{stroke}
use Rattle.dvg_calls_6502.specs.Routines.{Labs, Put}
use Rattle.dvg_calls_6502.proofs.ProcessorRuns.{run_more}
use Rattle.dvg_calls_6502.proofs.LogsGrow.{GoesOn, run_on, seen_append}
use Rattle.dvg_calls_6502.proofs.Memory.{in_page, both_true, le_not, out_of_page}
use Rattle.dvg_calls_6502.proofs.Interrupted.{still, still_harmless}
use Rattle.dvg_calls_6502.proofs.UninterruptedCalls.{entered, enters, quiet, follows, written, fit, loaded_after}
use Rattle.dvg_calls_6502.proofs.ExampleWorld.{start, start_loaded}
use Rattle.dvg_calls_6502.proofs.Example.{some_logs, has_table}
use Rattle.dvg_calls_6502.proofs.BoardLogsLegal.{board_keeps as code_keeps}
use Rattle.dvg_cells_board.specs.Board.{Board, Bus, high, q, clock}
use Rattle.dvg_cells_board.specs.Clocks.{IsBus, after, changes}
use Rattle.dvg_cells_board.specs.Logs.{did, answered}
use Rattle.dvg_cells_board.specs.Example.{zeros}
use Rattle.dvg_cells_board.proofs.Example.{held}
use Rattle.dvg_calls_board.proofs.Returns.{no_access, reading, writing, is_quiet, is_reading, is_writing, served, is_rom, one_call}
use Rattle.dvg_calls_board.specs.Machine.{Makes, IsChecked, SharesRam, with_reset, with_answer, IsMachine, powers, waits, begins, steps, accesses}
use Rattle.dvg_calls_board.specs.Example.{SomeBuilder, SomeMachine, returns}

-- a log that goes on another one of the same length is the same
none_more : (pre log : List Access) → length (pre ++ log) ≡ length log → pre ≡ []
none_more [] log e = refl
none_more (x ∷ pre) log e = absurd (omega (arith, length-append (x ∷ pre) log, e))

no_more : (now before : List Access) → GoesOn now before → length now ≡ length before → now ≡ before
no_more now before on e =
    on.1 ∙ ap (λ l. l ++ before) (none_more on.0 before (ap length (sym on.1) ∙ e))

one_more : (access : Access) (log before : List Access) → GoesOn (access ∷ log) before → length log ≡ length before
    → log ≡ before
one_more access log before ([], is) e = absurd (omega (arith, ap length is, e))
one_more access log before (x ∷ pre, is) e = let rest : log ≡ pre ++ before = cc in no_more log before (pre, rest) e

-- an access on the bus, which the board answers so
abbrev bus_of : Access → Bus
bus_of (Reads a byte) = reading a
bus_of (Writes a byte) = writing a byte

abbrev answers : Board → Access → Bool
answers board (Reads a byte) = nat_lt a 65536 && nat_eq (q (clock board (reading a)) no_access) byte
answers board (Writes a byte) = nat_lt a 65536 && nat_lt byte 256

is_bus : (board : Board) (access : Access) → answers board access ≡ true → IsBus (bus_of access)
is_bus board (Reads a byte) is = is_reading a (leb-true (suc a) 65536 (both_true (nat_lt a 65536) _ is).0)
is_bus board (Writes a byte) is = let two = both_true (nat_lt a 65536) (nat_lt byte 256) is in
    is_writing a byte (leb-true (suc a) 65536 two.0) (leb-true (suc byte) 256 two.1)

drives : (access : Access) → ((bus_of access).big ≡ 0) × ((bus_of access).rom ≡ 0xD0)
drives (Reads a byte) = (refl, refl)
drives (Writes a byte) = (refl, refl)

makes : (board : Board) (access : Access) → answers board access ≡ true → Makes board (bus_of access) access
makes board (Reads a byte) is = (
  refl,
  refl,
  refl,
  λ next.
      eqb-true (q (clock board (reading a)) no_access) byte (both_true (nat_lt a 65536) _ is).1,
)
makes board (Writes a byte) is = (refl, refl, refl, refl)

abbrev On : List Call → Log → List Bus → Type 0
On list log older = IsMachine returns zeros held list log older

-- the pin `high` is a bit
abbrev is_bit : List Bus → Bool
is_bit older = nat_lt (high (after held older)) 2

-- a machine amid a call, after so many of its steps
record Amid (r : Routine) (from : Cpu) (olds : List Call) : Type 0 where
  n : ℕ
  cpu : Cpu
  is : run from.s n from ≡ cpu
  log : Log
  older : List Bus
  on : On (quiet r n from ∷ olds) log older

-- the call is over there, and its line
module _ (r : Routine) (from : Cpu) where
  abbrev over : ℕ → Cpu → Bool
  over n cpu = at_return from.s cpu || (is_refused (quiet r n from) || is_leaving from.s cpu)

  abbrev says : ℕ → Log → Cpu → Log
  says n log cpu = if over n cpu then with_answer zeros r (if is_refused (quiet r n from) then true
      else (if is_leaving from.s cpu then false else cpu.c)) log else log

module _ (r : Routine) (from : Cpu) (olds : List Call) (session : (n : ℕ) → IsSession (quiet r n from ∷ olds)) where
  module _ (at : Amid r from olds) where
    abbrev new : Cpu
    new = turn from.s at.cpu

    is_new : run from.s (at.n + 1) from ≡ new
    is_new = let e : at.n + 1 ≡ 1 + at.n = omega arith in
        ap (λ n. run from.s n from) e ∙ run_more from.s at.n 1 from ∙ ap (turn from.s) at.is

    now_is : calls.after (quiet r at.n from) ≡ at.cpu
    now_is = still from.s at.n from ∙ at.is

    next_is : calls.after (quiet r (at.n + 1) from) ≡ new
    next_is = still from.s (at.n + 1) from ∙ is_new

    seen_on : GoesOn (seen new.log) (seen at.cpu.log)
    seen_on = let on = run_on from.s 1 at.cpu in (seen on.0, ap seen on.1 ∙ seen_append on.0 at.cpu.log)

    -- an instruction without an access
    abbrev steps_on : over r from at.n at.cpu ≡ false → length (seen new.log) ≡ length (seen at.cpu.log) → Amid r from olds
    steps_on more same = record {
      n = at.n + 1;
      cpu = new;
      is = is_new;
      log = says r from (at.n + 1) at.log new;
      older = at.older;
      on = subst (λ l. On (quiet r (at.n + 1) from ∷ olds) l at.older) (ap (says r from (at.n + 1) at.log) next_is)
          (steps 1 at.on (ap (over r from at.n) now_is ∙ more) (session (at.n + 1))
          (ap (λ (c : Cpu). seen c.log) next_is ∙ no_more (seen new.log) (seen at.cpu.log) seen_on same
          ∙ ap (λ (c : Cpu). seen c.log) (sym now_is)));
    }

    -- one with an access
    abbrev fits : Access → List Access → Bool
    fits access log = nat_eq (length log) (length (seen at.cpu.log)) && (answers (after held at.older) access && is_bit at.older)

    abbrev goes_on : (access : Access) (log : List Access) → seen new.log ≡ access ∷ log → (t : Bool)
        → fits access log ≡ t → Option (Amid r from olds)
    goes_on access log is false e = None
    goes_on access log is true e =
        let one = both_true (nat_eq (length log) (length (seen at.cpu.log))) _ e in
        let two = both_true (answers (after held at.older) access) (is_bit at.older) one.1 in
        let bus = bus_of access in
        Some (record {
          n = at.n + 1;
          cpu = new;
          is = is_new;
          log = did (changes bus) (answered zeros held at.older bus false at.log);
          older = bus ∷ at.older;
          on = accesses 1 access bus at.on (session (at.n + 1))
              (ap (λ (c : Cpu). seen c.log) next_is ∙ is ∙ ap (λ l. access ∷ l) (one_more access log (seen at.cpu.log)
              (subst (λ l. GoesOn l (seen at.cpu.log)) is seen_on) (eqb-true (length log) (length (seen at.cpu.log)) one.0))
              ∙ ap (λ (c : Cpu). access ∷ seen c.log) (sym now_is))
              (is_bus (after held at.older) access two.0)
              (served (after held at.older) bus (drives access) (leb-true (suc (high (after held at.older))) 2 two.1))
              (makes (after held at.older) access two.0);
        })

    abbrev accessing : (log : List Access) → seen new.log ≡ log → Option (Amid r from olds)
    accessing [] is = None
    accessing (access ∷ log) is = goes_on access log is (fits access log) refl

    -- none where the call is over, or where the board answers something else
    abbrev next : (o : Bool) → over r from at.n at.cpu ≡ o
        → (t : Bool) → nat_eq (length (seen new.log)) (length (seen at.cpu.log)) ≡ t → Option (Amid r from olds)
    next true e t same = None
    next false e true same = Some (steps_on e (eqb-true (length (seen new.log)) (length (seen at.cpu.log)) same))
    next false e false same = accessing (seen new.log) refl

    -- a clock without an access
    abbrev rests : (t : Bool) → is_bit at.older ≡ t → Amid r from olds
    rests false e = at
    rests true e = record {
      n = at.n;
      cpu = at.cpu;
      is = at.is;
      log = answered zeros held at.older no_access false at.log;
      older = no_access ∷ at.older;
      on = waits no_access false at.on is_quiet
          (served (after held at.older) no_access (refl, refl) (leb-true (suc (high (after held at.older))) 2 e)) (refl, refl);
    }

  abbrev or_stays : Amid r from olds → Option (Amid r from olds) → (Amid r from olds → Amid r from olds) → Amid r from olds
  or_stays at None f = at
  or_stays at (Some new) f = f new

  -- so many instructions at most, up to where the call is over; and so many clocks after that
  abbrev lives : ℕ → Amid r from olds → Amid r from olds
  lives zero at = at
  lives (suc k) at = or_stays at
      (next at (over r from at.n at.cpu) refl (nat_eq (length (seen (new at).log)) (length (seen at.cpu.log))) refl) (lives k)

  abbrev rests_for : ℕ → Amid r from olds → Amid r from olds
  rests_for zero at = at
  rests_for (suc k) at = rests_for k (rests at (is_bit at.older) refl)

-- a machine whose newest call is over
record Ready : Type 0 where
  list : List Call
  mem : ℕ → ℕ
  log : Log
  older : List Bus
  on : On list log older
  loaded : IsLoaded mem
  session : IsSession list
  follows : (call : Call) → mem ≡ call.from.mem → Follows call list

abbrev ready : (r : Routine) (from : Cpu) (olds : List Call) → ((n : ℕ) → IsSession (quiet r n from ∷ olds)) → from.log ≡ []
    → IsLoaded from.mem → (at : Amid r from olds) → over r from at.n at.cpu ≡ true → fit (written at.cpu.log) ≡ true → Ready
ready r from olds session none load at is fits = record {
  list = quiet r at.n from ∷ olds;
  mem = at.cpu.mem;
  log = at.log;
  older = at.older;
  on = at.on;
  loaded = loaded_after from.s at.n from at.cpu at.is none fits load;
  session = session at.n;
  follows = λ call e. follows r at.n from olds call (ap (over r from at.n) at.is ∙ is)
      (ap (λ (c : Cpu). c.mem) at.is ∙ e);
}

-- a call that isn't dvg_reset, with this A and X, where the flag gives this byte
module _ (r : Routine) (a x flag : ℕ) (was : Ready) where
  abbrev from : Cpu
  from = record (entered (entry r) x 0xFF flag was.mem) { a = a }

  module _ (few_a : a < 256) (few : x < 256) (brings : Brings r from (frame_of was.list)) (checked : IsChecked returns r)
      (shares : SharesRam r was.mem (after held was.older)) (unless : (P : Type 0) → P → UnlessReset r P)
      (begins_so : with_reset r was.log ≡ was.log) where
    session : (n : ℕ) → IsSession (quiet r n from ∷ was.list)
    session n = (
      record { entry = refl; log = refl; loaded = was.loaded; a = few_a; x = few; s = lit< tt },
      brings,
      still_harmless (guards (is_kept (is_table (quiet r n from) was.list)) 0xFF) 0xFF n from,
      unless _ (was.follows (quiet r n from) refl, was.session),
    )

    -- up to its end, of at most 200 instructions, and after so many clocks more
    abbrev end : ℕ → Amid r from was.list
    end clocks = rests_for r from was.list session clocks (lives r from was.list session 200 (record {
      n = 0;
      cpu = from;
      is = refl;
      log = was.log;
      older = was.older;
      on = subst (λ l. On (quiet r 0 from ∷ was.list) l was.older) begins_so
          (begins r from (λ k. (run 0xFF k from).mem) was.on (session 0) checked shares);
    }))

    abbrev calls_for : (clocks : ℕ) → over r from (end clocks).n (end clocks).cpu ≡ true
        → fit (written (end clocks).cpu.log) ≡ true → Ready
    calls_for clocks is fits = ready r from was.list session refl was.loaded (end clocks) is fits

is_image : IsImage zeros
is_image = record { count = length-replicate {A = ℕ} 2048 0; bytes = All-replicate (λ b. b < 256) 2048 0 (lit< tt) }

-- the RAM is zeros, as the processor has it
pub shares : (a : ℕ) → a < 2048 → start (0x4000 + a) ≡ held a
shares a small =
    let page : in_page (0x4000 + a) ≡ false = out_of_page (0x4000 + a) (omega arith) in
    let code : nat_le 0x6800 (0x4000 + a) ≡ false = le_not 0x6800 (0x4000 + a) (omega arith) in
    let table : nat_le 0x5000 (0x4000 + a) ≡ false = le_not 0x5000 (0x4000 + a) (omega arith) in
    let x : nat_eq (0x4000 + a) 0x1C ≡ false = ne_eqb (0x4000 + a) 0x1C (λ e. omega (arith, e)) in
    let y : nat_eq (0x4000 + a) 0x1E ≡ false = ne_eqb (0x4000 + a) 0x1E (λ e. omega (arith, e)) in
    rw (page, code, x, y, table) (sym (get_or-replicate 2048 a 0 0 small))

-- the boot
abbrev reset_from : Cpu
reset_from = entered 0x6800 0 0xFF 0 start

reset_session : (n : ℕ) → IsSession (quiet calls.Reset n reset_from ∷ [])
reset_session n = (
  enters 0x6800 0 0xFF 0 start (lit< tt) (omega arith) start_loaded,
  tt,
  still_harmless (guards (is_kept (is_table (quiet calls.Reset n reset_from) [])) 0xFF) 0xFF n reset_from,
  tt,
)

abbrev reset : Ready
reset = ready calls.Reset reset_from [] reset_session refl start_loaded (lives calls.Reset reset_from [] reset_session 200 (record {
  n = 0;
  cpu = reset_from;
  is = refl;
  log = (ResetCpu ⟼ Cleared) ∷ [];
  older = [];
  on = begins calls.Reset reset_from (λ k. (run 0xFF k reset_from).mem) (powers is_rom is_image (λ a small. refl))
      (reset_session 0) tt shares;
})) refl refl

-- a tick that peeks at byte 001, and one that reads the flag
abbrev peeked : Ready
peeked = calls_for calls.Tick 0 0 0 reset (lit< tt) (lit< tt) tt tt tt (λ P is. is) refl 0 refl refl

abbrev looked : Ready
looked = calls_for calls.Tick 0 0 0 peeked (lit< tt) (lit< tt) tt tt tt (λ P is. is) refl 0 refl refl

-- an offer of the table, whose frame the check accepts
checked : IsChecked returns (calls.Offer stroke)
checked = let lines = some_logs returns zeros is_rom is_image in
    (lines.1, (code_keeps returns zeros ((Offer stroke ⟼ Offered) ∷ (Tick ⟼ Acted (Read true)) ∷ (Tick ⟼ Acted Peek) ∷ []) lines).0.0.0)

abbrev offered : Ready
offered = calls_for (calls.Offer stroke) 0 0x50 0 looked (lit< tt) (lit< tt) has_table checked tt (λ P is. is) refl 0 refl refl

-- dvg_run, up to the strobe, and then 21 clocks
abbrev ran : Ready
ran = calls_for calls.Run 0 0 0 offered (lit< tt) (lit< tt) tt tt tt (λ P is. is) refl 21 refl refl

-- a redraw
abbrev asked : Ready
asked = calls_for calls.Redraw 0 0 0 ran (lit< tt) (lit< tt) tt tt tt (λ P is. is) refl 0 refl refl

-- a tick that finds the generator running, and then 3 clocks
abbrev again : Ready
again = calls_for calls.Tick 0 0 0x80 asked (lit< tt) (lit< tt) tt tt tt (λ P is. is) refl 3 refl refl

pub some_machine : SomeMachine
some_machine = (_, drop 3 again.log, again.older, again.on)

-- after the boot a frame is built: a LABS, a short vector, a call of the ROM, and the HALT
abbrev vector : OpKind
vector = Draw (Svec 4 (pos 1) (pos 0) 7)

abbrev line : List OpKind
line = Draw (Place 512 512 0) ∷ vector ∷ CallRom 0x800 ∷ Halt ∷ []

line_checked : IsChecked returns (calls.Open line)
line_checked = (
  record {
    count = omega arith;
    ops = All-cons IsOp (Draw (Place 512 512 0)) (vector ∷ CallRom 0x800 ∷ Halt ∷ []) ((omega arith, omega arith, omega arith), refl)
        (All-cons IsOp vector (CallRom 0x800 ∷ Halt ∷ []) ((omega arith, omega arith, omega arith, omega arith, omega arith), refl)
        (All-cons IsOp (CallRom 0x800) (Halt ∷ []) (omega arith) (All-cons IsOp Halt [] tt (All-nil IsOp))));
  },
  (
    512,
    512,
    0,
    vector ∷ CallRom 0x800 ∷ [],
    refl,
    All-cons (IsPut returns) vector (CallRom 0x800 ∷ []) refl
        (All-cons (IsPut returns) (CallRom 0x800) [] one_call (All-nil (IsPut returns))),
    omega arith,
  ),
)

abbrev opened : Ready
opened = calls_for (calls.Open line) 0 0 0 looked (lit< tt) (lit< tt)
    (record { alike = refl; some = omega arith; fits = omega arith }) line_checked tt (λ P is. is) refl 0 refl refl

-- an NMI ticks, before dvg_open has returned
abbrev ticked : Ready
ticked = calls_for calls.Tick 0 0 0 opened (lit< tt) (lit< tt) tt tt tt (λ P is. is) refl 0 refl refl

abbrev placed : Ready
placed = calls_for (calls.Puts Labs) 0 0 0 ticked (lit< tt) (lit< tt)
    (λ room. (0x79 ∷ 0xF0 ∷ 0x00 ∷ 0xC8 ∷ 0x00 ∷ 0xB0 ∷ [], refl, omega arith)) tt tt (λ P is. is) refl 0 refl refl

abbrev drawn : Ready
drawn = calls_for (calls.Puts Put) 0x79 0xF0 0 placed (lit< tt) (lit< tt)
    (λ room. (0x00 ∷ 0xC8 ∷ 0x00 ∷ 0xB0 ∷ [], refl, omega arith)) tt tt (λ P is. is) refl 0 refl refl

-- the word C800 calls the ROM's first one
abbrev called : Ready
called = calls_for (calls.Puts Put) 0x00 0xC8 0 drawn (lit< tt) (lit< tt)
    (λ room. (0x00 ∷ 0xB0 ∷ [], refl, omega arith)) tt tt (λ P is. is) refl 0 refl refl

abbrev closed : Ready
closed = calls_for calls.Close 0 0 0 called (lit< tt) (lit< tt) refl tt tt (λ P is. is) refl 0 refl refl

-- dvg_run, up to the strobe, and then 32 clocks
abbrev shown : Ready
shown = calls_for calls.Run 0 0 0 closed (lit< tt) (lit< tt) tt tt tt (λ P is. is) refl 32 refl refl

pub some_builder : SomeBuilder
some_builder = (
  line,
  shown.list,
  drop 5 shown.log,
  shown.older,
  shown.on,
  refl,
  (take 5 shown.list, looked.list, first ticked.list, first opened.list, refl, refl, refl, refl),
)
  where
    first : List Call → Call
    first [] = quiet calls.Reset 0 reset_from
    first (call ∷ list) = call
