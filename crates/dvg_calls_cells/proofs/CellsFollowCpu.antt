-- Cells that follow a processor through calls that nobody interrupts: the prover computes both, cycle by cycle.
use Rattle.std.proofs.Common.{◌≡◌, ℕ, zero, suc, ◌+◌, ◌<◌, Bool, true, false, not, List, [], ◌∷◌, length, Option, Some, None}
use Rattle.std.proofs.Common.{refl, sym, ap, ◌∙◌, subst, arith, lit<, eqb-true, leb-true}
use Rattle.std.specs.Prelude.{nat_eq, nat_lt, ◌&&◌, ◌||◌, if◌then◌else◌}
use Rattle.dvg_calls_6502.specs.Processor.{Cpu, Reads, Writes, found, turn, run, at_return}
use Rattle.dvg_calls_6502.specs.Amid.{guards, is_kept, changed}
use Rattle.dvg_calls_6502.specs.Board.{IsLoaded, is_ram, strobe_place}
use Rattle.dvg_calls_6502.specs.Calls.{Routine, Call, IsSession, Follows, Brings, UnlessReset, is_table, is_over, is_refused, is_leaving}
use Rattle.dvg_calls_6502.specs.Calls.{entry, frame_of}
use Rattle.dvg_calls_6502.specs.Single.{is_single}
use Rattle.dvg_calls_6502.proofs.ProcessorRuns.{run_more}
use Rattle.dvg_calls_6502.proofs.Memory.{both_true}
use Rattle.dvg_calls_6502.proofs.Interrupted.{still, still_harmless}
use Rattle.dvg_calls_6502.proofs.UninterruptedCalls.{quiet, follows, written, fit, not_true, loaded_after}
use Rattle.dvg_cells_core.specs.Cells.{bit}
use Rattle.dvg_cells_board.specs.Board.{Board, Bus}
use Rattle.dvg_cells_board.specs.Clocks.{after}
use Rattle.dvg_cells_board.specs.Example.{zeros}
use Rattle.dvg_cells_board.proofs.Example.{held, served}
use Rattle.dvg_calls_board.specs.Machine.{IsChecked, SharesRam, later}
use Rattle.dvg_cells_cpu.specs.Cpu.{Cpu as Cells, at, write, dout}
use Rattle.dvg_cells_cpu.specs.Refines.{Where, Rests, cycles, access}
use Rattle.dvg_calls_cells.specs.Machine.{Machine}
use Rattle.dvg_calls_cells.specs.Cycles.{Drive, Two, Turn, acts, begins, between, next, ends, buses, cycle_of, cycles_of, AreQuiet}
use Rattle.dvg_calls_cells.specs.Steps.{now, instr_of}
use Rattle.dvg_calls_cells.specs.Played.{IsPlayed, IsGiven, AreGiven, AreFound, IsPlaced, Does, at_rest, in_board, alone, begins_call}
use Rattle.dvg_calls_cells.specs.Played.{inside}
use Rattle.dvg_calls_cells.proofs.CallOnCells.{ends_are, ends_cells}

-- a cycle with this byte of the memory
abbrev pub drive : ℕ → Drive
drive m = record { nmi = 0; hold = 0; big = 0; rom = 0; m = m; undefined = 0 }

abbrev pub two_of : ℕ → Two
two_of m = record { first = drive 0; second = drive m }

-- cycles in which memory answers as this processor has it
abbrev pub twos_for : ℕ → Machine → Cpu → List Turn
twos_for zero machine cpu = []
twos_for (suc k) machine cpu = let turn = acts (two_of (found (at machine.cpu) cpu)) in turn ∷ twos_for k (next machine turn) cpu

-- a byte is found, and the core is in the RAM
abbrev is_given : Machine → ℕ → Bool
is_given machine byte = nat_lt byte 256
    && (nat_lt machine.board.core.at 0x400 && nat_lt (between machine (two_of byte)).board.core.at 0x400)

given_of : (machine : Machine) (byte : ℕ) → is_given machine byte ≡ true → IsGiven zeros machine (two_of byte)
given_of machine byte is =
    let one = both_true (nat_lt byte 256) _ is in
    let two = both_true (nat_lt machine.board.core.at 0x400) _ one.1 in
    record {
      nmi = lit< tt;
      first_rom = lit< tt;
      second_rom = lit< tt;
      m = leb-true (suc byte) 256 one.0;
      first = served _ _ refl (leb-true (suc machine.board.core.at) 0x400 two.0);
      second = served _ _ refl (leb-true (suc (between machine (two_of byte)).board.core.at) 0x400 two.1);
    }

-- what the board answers is what the processor has there, where that is asked
abbrev finds : Machine → Cpu → Bool → ℕ → Bool
finds machine cpu fresh byte = not (nat_eq (write machine.cpu) 0)
    || ((fresh && in_board (at machine.cpu)) || nat_eq (cycle_of machine (two_of byte)).din byte)

abbrev pub fits_for : ℕ → Machine → Cpu → Bool → Bool
fits_for zero machine cpu fresh = true
fits_for (suc k) machine cpu fresh =
    let byte = found (at machine.cpu) cpu in
    (is_given machine byte && finds machine cpu fresh byte)
    && fits_for k (next machine (acts (two_of byte))) cpu (fresh && nat_eq (write machine.cpu) 0)

pub all_given : (k : ℕ) (machine : Machine) (cpu : Cpu) (fresh : Bool) → fits_for k machine cpu fresh ≡ true
    → AreGiven zeros machine (twos_for k machine cpu)
all_given zero machine cpu fresh is = tt
all_given (suc k) machine cpu fresh is =
    let byte = found (at machine.cpu) cpu in
    let one = both_true (is_given machine byte && finds machine cpu fresh byte) _ is in (
      given_of machine byte (both_true (is_given machine byte) _ one.0).0,
      all_given k (next machine (acts (two_of byte))) cpu (fresh && nat_eq (write machine.cpu) 0) one.1,
    )

where_of : (w i t : Bool) (P : Type 0) → (not w || (i || t)) ≡ true → (t ≡ true → P) → Where w (Where (not i) P)
where_of false i t P e p = tt
where_of true true t P e p = tt
where_of true false true P e p = p refl
where_of true false false P e p = absurd (cc)

pub all_found : (k : ℕ) (machine : Machine) (cpu : Cpu) (fresh : Bool) → fits_for k machine cpu fresh ≡ true
    → AreFound cpu fresh machine (twos_for k machine cpu)
all_found zero machine cpu fresh is = tt
all_found (suc k) machine cpu fresh is =
    let byte = found (at machine.cpu) cpu in
    let one = both_true (is_given machine byte && finds machine cpu fresh byte) _ is in (
      where_of (nat_eq (write machine.cpu) 0) (fresh && in_board (at machine.cpu)) (nat_eq (cycle_of machine (two_of byte)).din byte)
          ((cycle_of machine (two_of byte)).din ≡ byte) (both_true (is_given machine byte) _ one.0).1
          (λ e. eqb-true (cycle_of machine (two_of byte)).din byte e),
      all_found k (next machine (acts (two_of byte))) cpu (fresh && nat_eq (write machine.cpu) 0) one.1,
    )

pub count_of : (k : ℕ) (machine : Machine) (cpu : Cpu) → length (cycles_of machine (twos_for k machine cpu)) ≡ k
count_of zero machine cpu = refl
count_of (suc k) machine cpu = ap suc (count_of k (next machine (acts (two_of (found (at machine.cpu) cpu)))) cpu)

-- the cells rest with these registers
abbrev pub rests_by : Cells → Cpu → Bool
rests_by cells cpu = nat_eq cells.a cpu.a && (nat_eq cells.x cpu.x && (nat_eq cells.y cpu.y && (nat_eq cells.s cpu.s
    && (nat_eq cells.pc cpu.pc && (nat_eq cells.n (bit cpu.n) && (nat_eq cells.z (bit cpu.z) && (nat_eq cells.c (bit cpu.c)
    && (nat_eq cells.v (bit cpu.v) && (nat_eq cells.d (bit cpu.d) && (nat_eq cells.i (bit cpu.i) && nat_eq cells.state 2))))))))))

pub rests_of : (cells : Cells) (cpu : Cpu) → rests_by cells cpu ≡ true → Rests cells cpu
rests_of cells cpu is =
    let a = both_true (nat_eq cells.a cpu.a) _ is in
    let x = both_true (nat_eq cells.x cpu.x) _ a.1 in
    let y = both_true (nat_eq cells.y cpu.y) _ x.1 in
    let s = both_true (nat_eq cells.s cpu.s) _ y.1 in
    let pc = both_true (nat_eq cells.pc cpu.pc) _ s.1 in
    let n = both_true (nat_eq cells.n (bit cpu.n)) _ pc.1 in
    let z = both_true (nat_eq cells.z (bit cpu.z)) _ n.1 in
    let c = both_true (nat_eq cells.c (bit cpu.c)) _ z.1 in
    let v = both_true (nat_eq cells.v (bit cpu.v)) _ c.1 in
    let d = both_true (nat_eq cells.d (bit cpu.d)) _ v.1 in
    let i = both_true (nat_eq cells.i (bit cpu.i)) _ d.1 in
    record {
      holds = record {
        a = eqb-true cells.a cpu.a a.0;
        x = eqb-true cells.x cpu.x x.0;
        y = eqb-true cells.y cpu.y y.0;
        s = eqb-true cells.s cpu.s s.0;
        pc = eqb-true cells.pc cpu.pc pc.0;
        n = eqb-true cells.n (bit cpu.n) n.0;
        z = eqb-true cells.z (bit cpu.z) z.0;
        c = eqb-true cells.c (bit cpu.c) c.0;
        v = eqb-true cells.v (bit cpu.v) v.0;
        d = eqb-true cells.d (bit cpu.d) d.0;
        i = eqb-true cells.i (bit cpu.i) i.0;
      };
      fetches = eqb-true cells.state 2 i.1;
    }

-- its own bytes are none of the flag
abbrev pub placed_by : Cpu → Bool
placed_by cpu = nat_lt cpu.pc 65533 && (nat_lt (cpu.flags 0) 256 && (nat_eq (found cpu.pc cpu) (cpu.mem cpu.pc)
    && (nat_eq (found (cpu.pc + 1) cpu) (cpu.mem (cpu.pc + 1)) && nat_eq (found (cpu.pc + 2) cpu) (cpu.mem (cpu.pc + 2)))))

pub placed_of : (cpu : Cpu) → placed_by cpu ≡ true → ((b : ℕ) → cpu.mem b < 256) → IsPlaced cpu
placed_of cpu is bytes =
    let pc = both_true (nat_lt cpu.pc 65533) _ is in
    let flag = both_true (nat_lt (cpu.flags 0) 256) _ pc.1 in
    let here = both_true (nat_eq (found cpu.pc cpu) (cpu.mem cpu.pc)) _ flag.1 in
    let first = both_true (nat_eq (found (cpu.pc + 1) cpu) (cpu.mem (cpu.pc + 1))) _ here.1 in
    record {
      pc = leb-true (suc cpu.pc) 65533 pc.0;
      bytes = bytes;
      flags = leb-true (suc (cpu.flags 0)) 256 flag.0;
      here = eqb-true (found cpu.pc cpu) (cpu.mem cpu.pc) here.0;
      first = eqb-true (found (cpu.pc + 1) cpu) (cpu.mem (cpu.pc + 1)) first.0;
      second = eqb-true (found (cpu.pc + 2) cpu) (cpu.mem (cpu.pc + 2)) first.1;
    }

-- the cells can do its next instruction
abbrev pub can_do : ℕ → Cpu → Cells → Board → Bool
can_do s cpu cells board = not (at_return s cpu) && (rests_by cells cpu && (nat_eq cells.due 0 && (placed_by cpu
    && (is_single (instr_of cpu) && fits_for (cycles (instr_of cpu)) (begins cells board) cpu true))))

-- after the instruction
pub record Went (call : Call) (olds : List Call) (older : List Bus) (cells : Cells) (board : Board) (list : List Turn) : Type 0 where
  pub on : IsPlayed zeros zeros held (later 1 call ∷ olds) (buses (begins cells board) list older) (ends (begins cells board) list).cpu
  pub is_board : after held (buses (begins cells board) list older) ≡ (ends (begins cells board) list).board

module _ (call : Call) (olds : List Call) (older : List Bus) (cells : Cells) (cpu : Cpu) (is : now call ≡ cpu)
    (more : is_over call ≡ false) (bytes : (b : ℕ) → cpu.mem b < 256) (session : IsSession (later 1 call ∷ olds))
    (on : IsPlayed zeros zeros held (call ∷ olds) older cells) where
  abbrev listed : Board → List Turn
  listed board = twos_for (cycles (instr_of cpu)) (begins cells board) cpu

  went_on : can_do call.from.s cpu cells (after held older) ≡ true → Went call olds older cells (after held older) (listed (after held older))
  went_on can =
      let board = after held older in
      let goes = both_true (not (at_return call.from.s cpu)) _ can in
      let rests = both_true (rests_by cells cpu) _ goes.1 in
      let free = both_true (nat_eq cells.due 0) _ rests.1 in
      let placed = both_true (placed_by cpu) _ free.1 in
      let single = both_true (is_single (instr_of cpu)) _ placed.1 in
      let does : Does zeros held call older cells (listed board) = record {
        unfinished = more;
        goes = subst (λ c. at_return call.from.s c ≡ false) (sym is) (not_true (at_return call.from.s cpu) goes.0);
        rests = subst (λ c. Rests cells c) (sym is) (rests_of cells cpu rests.0);
        free = eqb-true cells.due 0 free.0;
        placed = subst IsPlaced (sym is) (placed_of cpu placed.0 bytes);
        single = subst (λ c. is_single (instr_of c) ≡ true) (sym is) single.0;
        count = count_of (cycles (instr_of cpu)) (begins cells board) cpu ∙ ap (λ c. cycles (instr_of c)) (sym is);
        answered = subst (λ c. AreFound c true (begins cells board) (listed board)) (sym is)
            (all_found (cycles (instr_of cpu)) (begins cells board) cpu true single.1);
        given = all_given (cycles (instr_of cpu)) (begins cells board) cpu true single.1;
      } in
      record {
        on = subst (λ k. IsPlayed zeros zeros held (later 1 call ∷ olds) (buses (begins cells board) (listed board) older) k)
            (sym (ends_cells (listed board) board cells)) (inside (listed board) on session does);
        is_board = sym (ap (λ (m : Machine). m.board) (ends_are held (listed board) older cells));
      }

  went : (board : Board) → after held older ≡ board → can_do call.from.s cpu cells board ≡ true
      → Went call olds older cells board (listed board)
  went board is_board can =
      subst (λ b. Went call olds older cells b (listed b)) is_board (went_on (subst (λ b. can_do call.from.s cpu cells b ≡ true) (sym is_board) can))

-- cells amid a call, after so many of its steps
pub record Amid (r : Routine) (from : Cpu) (olds : List Call) : Type 0 where
  pub n : ℕ
  pub cpu : Cpu
  pub is : run from.s n from ≡ cpu
  pub older : List Bus
  pub cells : Cells
  pub board : Board
  pub on : IsPlayed zeros zeros held (quiet r n from ∷ olds) older cells
  pub is_board : after held older ≡ board

-- the call is over there
abbrev pub over : Routine → Cpu → ℕ → Cpu → Bool
over r from n cpu = at_return from.s cpu || (is_refused (quiet r n from) || is_leaving from.s cpu)

pub now_is : (r : Routine) (from : Cpu) (n : ℕ) (cpu : Cpu) → run from.s n from ≡ cpu → now (quiet r n from) ≡ cpu
now_is r from n cpu is = ap (λ c. changed (run from.s n from).mem c) (still from.s n from) ∙ is

module _ (r : Routine) (from : Cpu) (olds : List Call) (session : (n : ℕ) → IsSession (quiet r n from ∷ olds)) (none : from.log ≡ [])
    (load : IsLoaded from.mem) where
  pub is_new : (n : ℕ) (cpu : Cpu) → run from.s n from ≡ cpu → run from.s (n + 1) from ≡ turn from.s cpu
  is_new n cpu is = let e : n + 1 ≡ 1 + n = omega arith in
      ap (λ k. run from.s k from) e ∙ run_more from.s n 1 from ∙ ap (turn from.s) is

  pub goes : (at : Amid r from olds) → over r from at.n at.cpu ≡ false → fit (written at.cpu.log) ≡ true
      → can_do from.s at.cpu at.cells at.board ≡ true
      → Went (quiet r at.n from) olds at.older at.cells at.board (twos_for (cycles (instr_of at.cpu)) (begins at.cells at.board) at.cpu)
  goes at more fits can =
      went (quiet r at.n from) olds at.older at.cells at.cpu (now_is r from at.n at.cpu at.is)
      (ap (over r from at.n) (still from.s at.n from ∙ at.is) ∙ more)
      (loaded_after from.s at.n from at.cpu at.is none fits load).bytes (session (at.n + 1)) at.on at.board at.is_board can

  -- an instruction further
  abbrev pub further : (at : Amid r from olds) → over r from at.n at.cpu ≡ false → fit (written at.cpu.log) ≡ true
      → can_do from.s at.cpu at.cells at.board ≡ true → Amid r from olds
  further at more fits can =
      let machine = begins at.cells at.board in
      let list = twos_for (cycles (instr_of at.cpu)) machine at.cpu in
      let last = ends machine list in
      record {
        n = at.n + 1;
        cpu = turn from.s at.cpu;
        is = is_new at.n at.cpu at.is;
        older = buses machine list at.older;
        cells = last.cpu;
        board = last.board;
        on = (goes at more fits can).on;
        is_board = (goes at more fits can).is_board;
      }

  -- none where the call is over, or where the cells can't do it
  abbrev pub next_by : (at : Amid r from olds) → (o : Bool) → over r from at.n at.cpu ≡ o → (f : Bool) → fit (written at.cpu.log) ≡ f
      → (c : Bool) → can_do from.s at.cpu at.cells at.board ≡ c → Option (Amid r from olds)
  next_by at true more f fits c can = None
  next_by at false more false fits c can = None
  next_by at false more true fits false can = None
  next_by at false more true fits true can = Some (further at more fits can)

  abbrev pub or_stays : Amid r from olds → Option (Amid r from olds) → (Amid r from olds → Amid r from olds) → Amid r from olds
  or_stays at None f = at
  or_stays at (Some new) f = f new

  -- so many instructions at most, up to where the call is over
  abbrev pub lives : ℕ → Amid r from olds → Amid r from olds
  lives zero at = at
  lives (suc k) at = or_stays at
      (next_by at (over r from at.n at.cpu) refl (fit (written at.cpu.log)) refl (can_do from.s at.cpu at.cells at.board) refl) (lives k)

-- cells between two calls: the newest one is over
pub record Ready : Type 0 where
  pub list : List Call
  pub mem : ℕ → ℕ
  pub older : List Bus
  pub cells : Cells
  pub board : Board
  pub on : IsPlayed zeros zeros held list older cells
  pub is_board : after held older ≡ board
  pub loaded : IsLoaded mem
  pub session : IsSession list
  pub follows : (call : Call) → mem ≡ call.from.mem → Follows call list

abbrev pub ready : (r : Routine) (from : Cpu) (olds : List Call) → ((n : ℕ) → IsSession (quiet r n from ∷ olds)) → from.log ≡ []
    → IsLoaded from.mem → (at : Amid r from olds) → (over r from at.n at.cpu && fit (written at.cpu.log)) ≡ true → Ready
ready r from olds session none load at is =
    let two = both_true (over r from at.n at.cpu) (fit (written at.cpu.log)) is in
    record {
      list = quiet r at.n from ∷ olds;
      mem = at.cpu.mem;
      older = at.older;
      cells = at.cells;
      board = at.board;
      on = at.on;
      is_board = at.is_board;
      loaded = loaded_after from.s at.n from at.cpu at.is none two.1 load;
      session = session at.n;
      follows = λ call e. follows r at.n from olds call (ap (over r from at.n) at.is ∙ two.0) (ap (λ (c : Cpu). c.mem) at.is ∙ e);
    }

-- cycles of the program, with these bytes of the memory
abbrev is_quiet : Cells → Bool
is_quiet cells = nat_eq (write cells) 0 || (not (is_ram (at cells)) && not (nat_eq (at cells) strobe_place))

quiet_of : (cells : Cells) (din : ℕ) → is_quiet cells ≡ true → AreQuiet (access cells din ∷ [])
quiet_of cells din is = by (nat_eq (write cells) 0) is
  where
    by : (w : Bool) → (w || (not (is_ram (at cells)) && not (nat_eq (at cells) strobe_place))) ≡ true
        → AreQuiet ((if w then Reads (at cells) din else Writes (at cells) (dout cells)) ∷ [])
    by true is = tt
    by false is = let two = both_true (not (is_ram (at cells))) _ is in
        ((not_true (is_ram (at cells)) two.0, not_true (nat_eq (at cells) strobe_place) two.1), tt)

abbrev pub twos : List ℕ → List Turn
twos [] = []
twos (m ∷ ms) = acts (two_of m) ∷ twos ms

abbrev pub are_quiet : List ℕ → Cells → Board → Bool
are_quiet [] cells board = true
are_quiet (m ∷ ms) cells board =
    let machine = begins cells board in
    let last = next machine (acts (two_of m)) in
    (is_given machine m && is_quiet cells) && are_quiet ms last.cpu last.board

abbrev pub are_given : List ℕ → Machine → Bool
are_given [] machine = true
are_given (m ∷ ms) machine = is_given machine m && are_given ms (next machine (acts (two_of m)))

pub list_given : (ms : List ℕ) (machine : Machine) → are_given ms machine ≡ true → AreGiven zeros machine (twos ms)
list_given [] machine is = tt
list_given (m ∷ ms) machine is = let both = both_true (is_given machine m) _ is in
    (given_of machine m both.0, list_given ms (next machine (acts (two_of m))) both.1)

pub record Alone (list : List Call) (older : List Bus) (cells : Cells) (board : Board) : Type 0 where
  pub on : IsPlayed zeros zeros held list older cells
  pub is_board : after held older ≡ board

one_alone : (list : List Call) (older : List Bus) (cells : Cells) (board : Board) (m : ℕ) → Alone list older cells board
    → is_given (begins cells board) m ≡ true → is_quiet cells ≡ true
    → Alone list (buses (begins cells board) (acts (two_of m) ∷ []) older) (next (begins cells board) (acts (two_of m))).cpu
    (next (begins cells board) (acts (two_of m))).board
one_alone list older cells board m is given q =
    subst (λ b. Alone list (buses (begins cells b) (acts (two_of m) ∷ []) older) (next (begins cells b) (acts (two_of m))).cpu
    (next (begins cells b) (acts (two_of m))).board) is.is_board (record {
      on = alone (acts (two_of m) ∷ []) is.on
          (given_of (at_rest held older cells) m (subst (λ b. is_given (begins cells b) m ≡ true) (sym is.is_board) given), tt)
          (quiet_of cells (cycle_of (at_rest held older cells) (two_of m)).din q);
      is_board = refl;
    })

pub plays_alone : (ms : List ℕ) (list : List Call) (older : List Bus) (cells : Cells) (board : Board) → Alone list older cells board
    → are_quiet ms cells board ≡ true
    → Alone list (buses (begins cells board) (twos ms) older) (ends (begins cells board) (twos ms)).cpu
    (ends (begins cells board) (twos ms)).board
plays_alone [] list older cells board is q = is
plays_alone (m ∷ ms) list older cells board is q =
    let machine = begins cells board in
    let last = next machine (acts (two_of m)) in
    let both = both_true (is_given machine m && is_quiet cells) _ q in
    let here = both_true (is_given machine m) (is_quiet cells) both.0 in
    plays_alone ms list (buses machine (acts (two_of m) ∷ []) older) last.cpu last.board (one_alone list older cells board m is here.0 here.1)
    both.1

-- the program goes on so
abbrev pub goes_by : (ms : List ℕ) (was : Ready) → are_quiet ms was.cells was.board ≡ true → Ready
goes_by ms was q =
    let machine = begins was.cells was.board in
    let last = ends machine (twos ms) in
    let on = plays_alone ms was.list was.older was.cells was.board (record { on = was.on; is_board = was.is_board }) q in
    record {
      list = was.list;
      mem = was.mem;
      older = buses machine (twos ms) was.older;
      cells = last.cpu;
      board = last.board;
      on = on.on;
      is_board = on.is_board;
      loaded = was.loaded;
      session = was.session;
      follows = was.follows;
    }

-- a processor with the registers of the cells, over this memory
abbrev pub of_cells : Cells → (ℕ → ℕ) → Cpu
of_cells cells mem = record {
  a = cells.a;
  x = cells.x;
  y = cells.y;
  s = cells.s;
  pc = cells.pc;
  n = nat_eq cells.n 1;
  z = nat_eq cells.z 1;
  c = nat_eq cells.c 1;
  v = nat_eq cells.v 1;
  d = nat_eq cells.d 1;
  i = nat_eq cells.i 1;
  mem = mem;
  flags = λ n. 0;
  log = [];
}

-- a call begins with those, where the flag gives this byte
abbrev pub enters_by : Routine → (flag : ℕ) → (ℕ → ℕ) → Cells → Cpu
enters_by r flag mem cells = record (of_cells cells mem) { pc = entry r; flags = λ n. flag }

-- they are at its entry, and hold bytes
abbrev pub enters_so : Routine → ℕ → (ℕ → ℕ) → Cells → Bool
enters_so r flag mem cells =
    rests_by cells (enters_by r flag mem cells) && (nat_lt cells.a 256 && (nat_lt cells.x 256 && nat_lt cells.s 256))

-- a call that isn't dvg_reset
module _ (r : Routine) (flag : ℕ) (was : Ready) where
  abbrev pub from : Cpu
  from = enters_by r flag was.mem was.cells

  module _ (enters : enters_so r flag was.mem was.cells ≡ true) (brings : Brings r from (frame_of was.list))
      (checked : IsChecked zeros r) (shares : SharesRam r was.mem (after held was.older)) (unless : (P : Type 0) → P → UnlessReset r P) where
    pub session : (n : ℕ) → IsSession (quiet r n from ∷ was.list)
    session n =
        let one = both_true (rests_by was.cells from) _ enters in
        let a = both_true (nat_lt was.cells.a 256) _ one.1 in
        let x = both_true (nat_lt was.cells.x 256) _ a.1 in (
          record {
            entry = refl;
            log = refl;
            loaded = was.loaded;
            a = leb-true (suc was.cells.a) 256 a.0;
            x = leb-true (suc was.cells.x) 256 x.0;
            s = leb-true (suc was.cells.s) 256 x.1;
          },
          brings,
          still_harmless (guards (is_kept (is_table (quiet r n from) was.list)) from.s) from.s n from,
          unless _ (was.follows (quiet r n from) refl, was.session),
        )

    pub begun_on : IsPlayed zeros zeros held (quiet r 0 from ∷ was.list) was.older was.cells
    begun_on = begins_call r from (λ k. (run from.s k from).mem) was.on
        (rests_of was.cells from (both_true (rests_by was.cells from) _ enters).0) (session 0) checked shares

    -- after so many instructions at most
    abbrev pub up_to : ℕ → Amid r from was.list
    up_to k = lives r from was.list session refl was.loaded k (record {
      n = 0;
      cpu = from;
      is = refl;
      older = was.older;
      cells = was.cells;
      board = was.board;
      on = begun_on;
      is_board = was.is_board;
    })

    -- at its end
    abbrev pub ready_by : (at : Amid r from was.list) → (over r from at.n at.cpu && fit (written at.cpu.log)) ≡ true → Ready
    ready_by = ready r from was.list session refl was.loaded

    abbrev pub calls_so : (over r from (up_to 200).n (up_to 200).cpu && fit (written (up_to 200).cpu.log)) ≡ true → Ready
    calls_so = ready_by (up_to 200)
