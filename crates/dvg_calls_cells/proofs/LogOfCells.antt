-- The log of cells that follow a processor: an instruction that leaves the board alone, and one that writes.
use Rattle.std.proofs.Common.{◌≡◌, ℕ, zero, suc, ◌+◌, Bool, true, false, List, [], ◌∷◌, Option, Some, None, refl, sym, ap, ◌∙◌}
use Rattle.std.proofs.Common.{subst, eqb-true}
use Rattle.std.specs.Prelude.{nat_eq, ◌&&◌}
use Rattle.dvg_log.specs.Log.{Log}
use Rattle.dvg_calls_6502.specs.Processor.{Cpu, Access, Reads, Writes, turn}
use Rattle.dvg_calls_6502.specs.Board.{IsLoaded, seen}
use Rattle.dvg_calls_6502.specs.Calls.{Routine, Call, IsSession, is_over}
use Rattle.dvg_calls_6502.proofs.Memory.{both_true}
use Rattle.dvg_calls_6502.proofs.Interrupted.{still}
use Rattle.dvg_calls_6502.proofs.UninterruptedCalls.{quiet, written, fit}
use Rattle.dvg_cells_board.specs.Board.{Bus}
use Rattle.dvg_cells_board.specs.Clocks.{changes}
use Rattle.dvg_cells_board.specs.Logs.{did}
use Rattle.dvg_cells_board.specs.Example.{zeros}
use Rattle.dvg_calls_board.specs.Machine as system
use Rattle.dvg_calls_board.specs.Machine.{Makes, accesses_of}
use Rattle.dvg_cells_cpu.specs.Refines.{cycles}
use Rattle.dvg_calls_cells.specs.Machine.{Machine}
use Rattle.dvg_calls_cells.specs.Cycles.{Two, Turn, acts, begins, between, ends, buses, first_bus, second_bus}
use Rattle.dvg_calls_cells.specs.Steps.{instr_of}
use Rattle.dvg_calls_cells.proofs.CellsFollowCpu.{Amid, over, can_do, twos_for, further, is_new}
use Rattle.dvg_calls_cells.proofs.Lines.{Told, Line, drew_on, line_on, lines, after_clock, are_idle, is_idle, is_driven, driven_of}
use Rattle.dvg_calls_cells.proofs.Lines.{told_all, told_clock, told_writes, told_steps}

-- two lists of accesses are the same
abbrev pub same_by : List Access → List Access → Bool
same_by [] [] = true
same_by (Reads a byte ∷ l) (Reads b other ∷ r) = nat_eq a b && (nat_eq byte other && same_by l r)
same_by (Writes a byte ∷ l) (Writes b other ∷ r) = nat_eq a b && (nat_eq byte other && same_by l r)
same_by l r = false

pub same_of : (l r : List Access) → same_by l r ≡ true → l ≡ r
same_of [] [] is = refl
same_of [] (x ∷ r) is = absurd (cc)
same_of (Reads a byte ∷ l) [] is = absurd (cc)
same_of (Writes a byte ∷ l) [] is = absurd (cc)
same_of (Reads a byte ∷ l) (Writes b other ∷ r) is = absurd (cc)
same_of (Writes a byte ∷ l) (Reads b other ∷ r) is = absurd (cc)
same_of (Reads a byte ∷ l) (Reads b other ∷ r) is =
    let one = both_true (nat_eq a b) _ is in
    let two = both_true (nat_eq byte other) (same_by l r) one.1 in
    let place = eqb-true a b one.0 in
    let same = eqb-true byte other two.0 in
    let rest = same_of l r two.1 in cc
same_of (Writes a byte ∷ l) (Writes b other ∷ r) is =
    let one = both_true (nat_eq a b) _ is in
    let two = both_true (nat_eq byte other) (same_by l r) one.1 in
    let place = eqb-true a b one.0 in
    let same = eqb-true byte other two.0 in
    let rest = same_of l r two.1 in cc

-- a clock writes
abbrev pub writes_by : Bus → (a byte : ℕ) → Bool
writes_by bus a byte = nat_eq bus.access 1 && (nat_eq bus.write 1 && (nat_eq bus.a a && nat_eq bus.d byte))

module _ (r : Routine) (from : Cpu) (olds : List Call) (session : (n : ℕ) → IsSession (quiet r n from ∷ olds)) (none : from.log ≡ [])
    (load : IsLoaded from.mem) where
  module _ (at : Amid r from olds) (line : Line) (told : Told (quiet r at.n from ∷ olds) at.older at.board line.drawn line.log)
      (more : over r from at.n at.cpu ≡ false) (fits : fit (written at.cpu.log) ≡ true)
      (can : can_do from.s at.cpu at.cells at.board ≡ true) where
    abbrev machine : Machine
    machine = begins at.cells at.board

    abbrev listed : List Turn
    listed = twos_for (cycles (instr_of at.cpu)) machine at.cpu

    abbrev new : Amid r from olds
    new = further r from olds session none load at more fits can

    seen_now : accesses_of (quiet r at.n from) ≡ seen at.cpu.log
    seen_now = ap (λ (c : Cpu). seen c.log) (still from.s at.n from ∙ at.is)

    seen_new : accesses_of (quiet r (at.n + 1) from) ≡ seen (turn from.s at.cpu).log
    seen_new = ap (λ (c : Cpu). seen c.log)
        (still from.s (at.n + 1) from ∙ is_new r from olds session none load at.n at.cpu at.is)

    not_over : is_over (quiet r at.n from) ≡ false
    not_over = ap (over r from at.n) (still from.s at.n from ∙ at.is) ∙ more

    -- it leaves the board alone
    pub told_quiet : are_idle listed machine ≡ true → same_by (seen (turn from.s at.cpu).log) (seen at.cpu.log) ≡ true
        → ((n : ℕ) (log : Log) → system.told zeros (quiet r n from) log ≡ log)
        → Told (quiet r (at.n + 1) from ∷ olds) new.older new.board (lines listed machine line).drawn (lines listed machine line).log
    told_quiet idle same answers =
        told_steps (quiet r at.n from) olds new.older new.board (lines listed machine line).drawn (lines listed machine line).log 1
        (told_all listed (quiet r at.n from ∷ olds) at.older machine line told idle) not_over (session (at.n + 1))
        (seen_new ∙ same_of (seen (turn from.s at.cpu).log) (seen at.cpu.log) same ∙ sym seen_now)
        (answers (at.n + 1) (lines listed machine line).log)

    -- it writes, in its fourth cycle
    module _ (t1 t2 t3 two : Two) (a byte : ℕ) where
      abbrev reads : List Turn
      reads = acts t1 ∷ acts t2 ∷ acts t3 ∷ []

      abbrev then_machine : Machine
      then_machine = ends machine reads

      abbrev one : Bus
      one = first_bus then_machine two

      abbrev last : Bus
      last = second_bus then_machine two

      abbrev mid : Machine
      mid = between then_machine two

      abbrev writing_line : Line
      writing_line = let was = lines reads machine line in record {
        drawn = drew_on then_machine.board one was.drawn;
        log = did (changes one) (line_on then_machine.board one was.drawn was.log);
      }

      abbrev pub written_line : Line
      written_line = after_clock mid.board last writing_line

      makes_of : writes_by one a byte ≡ true → Makes then_machine.board one (Writes a byte)
      makes_of is =
          let x = both_true (nat_eq one.access 1) _ is in
          let y = both_true (nat_eq one.write 1) _ x.1 in
          let z = both_true (nat_eq one.a a) (nat_eq one.d byte) y.1 in
          (eqb-true one.access 1 x.0, eqb-true one.write 1 y.0, eqb-true one.a a z.0, eqb-true one.d byte z.1)

      pub told_write : listed ≡ acts t1 ∷ acts t2 ∷ acts t3 ∷ acts two ∷ [] → are_idle reads machine ≡ true
          → (is_driven then_machine.board one && writes_by one a byte) ≡ true → is_idle mid.board last ≡ true
          → same_by (seen (turn from.s at.cpu).log) (Writes a byte ∷ seen at.cpu.log) ≡ true
          → Told (quiet r (at.n + 1) from ∷ olds) new.older new.board written_line.drawn written_line.log
      told_write is idle writes then_idle same =
          let was = lines reads machine line in
          let both = both_true (is_driven then_machine.board one) (writes_by one a byte) writes in
          let d = driven_of then_machine.board one both.0 in
          let before = told_all reads (quiet r at.n from ∷ olds) at.older machine line told idle in
          let wrote = told_writes (quiet r at.n from) olds (buses machine reads at.older) then_machine.board was.drawn was.log one a byte
          before d.is_bus d.is_served d.reset d.unlooked (session (at.n + 1))
          (seen_new ∙ same_of (seen (turn from.s at.cpu).log) (Writes a byte ∷ seen at.cpu.log) same ∙ ap (λ l. Writes a byte ∷ l) (sym seen_now))
          (makes_of both.1) in
          subst (λ l. Told (quiet r (at.n + 1) from ∷ olds) (buses machine l at.older) (ends machine l).board written_line.drawn written_line.log)
          (sym is)
          (told_clock (quiet r (at.n + 1) from ∷ olds) (one ∷ buses machine reads at.older) mid.board writing_line.drawn writing_line.log last
          wrote then_idle)

  -- cells amid a call, and their log
  pub record Followed : Type 0 where
    pub at : Amid r from olds
    pub line : Line
    pub told : Told (quiet r at.n from ∷ olds) at.older at.board line.drawn line.log

  module _ (answers : (n : ℕ) (log : Log) → system.told zeros (quiet r n from) log ≡ log) where
    -- an instruction further; none where the call is over, or where the cells can't do it, or it accesses the board
    abbrev pub tells_by : (f : Followed) → (o : Bool) → over r from f.at.n f.at.cpu ≡ o → (w : Bool) → fit (written f.at.cpu.log) ≡ w
        → (c : Bool) → can_do from.s f.at.cpu f.at.cells f.at.board ≡ c
        → (i : Bool) → are_idle (twos_for (cycles (instr_of f.at.cpu)) (begins f.at.cells f.at.board) f.at.cpu) (begins f.at.cells f.at.board) ≡ i
        → (s : Bool) → same_by (seen (turn from.s f.at.cpu).log) (seen f.at.cpu.log) ≡ s → Option Followed
    tells_by f false more true fits true can true idle true same = Some (record {
      at = further r from olds session none load f.at more fits can;
      line = lines (twos_for (cycles (instr_of f.at.cpu)) (begins f.at.cells f.at.board) f.at.cpu) (begins f.at.cells f.at.board) f.line;
      told = told_quiet f.at f.line f.told more fits can idle same answers;
    })
    tells_by f o more w fits c can i idle s same = None

    abbrev pub or_same : Followed → Option Followed → (Followed → Followed) → Followed
    or_same f None go = f
    or_same f (Some new) go = go new

    -- so many instructions at most
    abbrev pub tells : ℕ → Followed → Followed
    tells zero f = f
    tells (suc k) f = or_same f (tells_by f (over r from f.at.n f.at.cpu) refl (fit (written f.at.cpu.log)) refl
        (can_do from.s f.at.cpu f.at.cells f.at.board) refl
        (are_idle (twos_for (cycles (instr_of f.at.cpu)) (begins f.at.cells f.at.board) f.at.cpu) (begins f.at.cells f.at.board)) refl
        (same_by (seen (turn from.s f.at.cpu).log) (seen f.at.cpu.log)) refl) (tells k)
