-- The instructions between a reset and the program's start, on the cells.
use Rattle.std.proofs.Common.{◌≡◌, ℕ, zero, suc, ◌+◌, ◌-◌, ◌*◌, ◌<◌, ◌≤◌, Bool, true, false, List, [], ◌∷◌, ◌++◌, refl, sym, ap, ◌∙◌}
use Rattle.std.proofs.Common.{subst, arith, inl, inr, append-nil, eqb-true, leb-true}
use Rattle.std.specs.Prelude.{◌⊎◌, nat_eq, nat_le, nat_lt, ◌&&◌, if◌then◌else◌, Option, None, Some}
use Rattle.std.proofs.lemmas.Bool.{ne_eqb}
use Rattle.dvg_calls_6502.specs.Processor.{Cpu, Instr, JumpAt, Load, ToStack, X, Immediate, does, decoded, opcodes}
use Rattle.dvg_calls_6502.specs.Amid.{changed}
use Rattle.dvg_cells_board.specs.Board.{Bus}
use Rattle.dvg_cells_cpu.specs.Cpu.{Cpu as Cells, sync}
use Rattle.dvg_cells_cpu.specs.Refines.{Cycle, made, after_writes, Rests, CellsDo, cycles, ends, fetched}
use Rattle.dvg_game_rules.specs.Kinds.{kind, kind_of}
use Rattle.dvg_game_rules.specs.Machine.{IsLoaded}
use Rattle.dvg_game_rules.specs.Checker.{Level, Main, Nmi, Note, noted, same_level, starts as starts_at}
use Rattle.dvg_game_rules.specs.Checker.{accepts_game, boots, bytes_of, first, is_code, may_boot, places, stack_setting, stand_at}
use Rattle.dvg_game_rules.specs.Alike.{idle}
use Rattle.dvg_game_rules.proofs.Facts.{both_true, inside}
use Rattle.dvg_game_rules.proofs.Early.{Early, IsBack, early_begins, early_beside, early_loaded, early_place, early_safe, early_steps}
use Rattle.dvg_game_rules.proofs.Early.{early_time, early_turns}
use Rattle.dvg_game_rules.proofs.RunInvariant.{Handles, Runs}
use Rattle.dvg_game_rules.proofs.Safety.{IsBeside, beside_of}
use Rattle.dvg_game_rules.proofs.Starting.{boot_safe, steps_on}
use Rattle.dvg_game_rules.proofs.OutsideTurns.{rom_inside}
use Rattle.dvg_calls_cells.specs.Cycles.{Two, Turn, acts, IsQuiet, AreQuiet, cycles_of}
use Rattle.dvg_calls_cells.specs.Steps.{instr_of}
use Rattle.dvg_calls_cells.specs.Played.{at_rest, older_after, cells_after}
use Rattle.dvg_calls_cells.proofs.BoardLeftAlone.{made_more, write_append, write_both}
use Rattle.dvg_calls_cells.proofs.SeenAccesses.{fetched_quiet}
use Rattle.dvg_game_6502.specs.Play.{Begins, IsByteWide}
use Rattle.dvg_game_6502.proofs.Bytes.{done_bytes}
use Rattle.dvg_game_6502.proofs.GameSteps.{bytes_pushed}
use Rattle.dvg_game_6502.proofs.Stages.{IsAccepted}
use Rattle.dvg_game_board.specs.Cabinet.{IsCabinet, begins}
use Rattle.dvg_game_board.proofs.GameSparesBoard.{quiet_by}
use Rattle.dvg_game_cells.specs.Keeps.{IsBoot, by_nmi, by_return, by_step, by_turn}
use Rattle.dvg_game_cells.proofs.InstructionReads.{InRom, is_direct, tame_fetched}
use Rattle.dvg_game_cells.proofs.ReadsBeforeWrites.{tame_writes}
use Rattle.dvg_game_cells.proofs.CellsTask.{AtTxs, Boots, Doing, Shares, Task, calms, counted, works, stands, starts, handles}
use Rattle.dvg_game_cells.proofs.TaskEnds.{Done, Half, settle, settle_boot}
use Rattle.dvg_game_cells.proofs.CabinetProcessor.{safe_direct}
use Rattle.dvg_game_cells.proofs.Memory.{writes_both}
use Rattle.dvg_game_cells.proofs.Plays.{written_quiet}
use Rattle.dvg_game_cells.proofs.Snoc.{counts}
use Rattle.dvg_game_cells.proofs.NmiDue.{Timed, at_least, at_most, timely}
use Rattle.dvg_game_cells.proofs.CyclesFind
use Rattle.dvg_game_cells.proofs.CyclesFind.{made_both}
use Rattle.dvg_game_cells.proofs.Vectors.{all_quiet, doing_next, entered, half_quiet, nmi_done, nmi_half, nmi_time, nmi_unread, vectors_in}
use Rattle.dvg_game_cells.proofs.Vectors.{vectors_turn, with_vectors}

code_high : (at : ℕ) → is_code at ≡ true → at < 0x7FFA
unfolding places
code_high at is = let high = leb-true (suc at) (first + places) (both_true (nat_le first at) (nat_lt at (first + places)) is).1 in
    omega (arith, high)

-- what may come at a reset names no address indirectly
boot_direct : (rom : ℕ → ℕ) (at : ℕ) (i : Instr) → may_boot (kind i) rom at ≡ true → is_direct i ≡ true
boot_direct rom at JumpAt fine = fine
boot_direct rom at i fine = refl

-- boot code stands before the start
boots_below : (rom : ℕ → ℕ) (start left at : ℕ) → boots left rom at start ≡ true → at < start
boots_below rom start zero at fine = absurd (cc)
boots_below rom start (suc n) at fine = by (λ at fine. boots_below rom start n at fine) (stand_at stack_setting rom at) two.1
  where
    two : (is_code at ≡ true) × ((if stand_at stack_setting rom at then nat_eq start (at + 3)
        else may_boot (kind_of (rom at)) rom at && boots n rom (at + bytes_of (kind_of (rom at))) start) ≡ true)
    two = both_true (is_code at) _ fine

    by : ((at : ℕ) → boots n rom at start ≡ true → at < start) → (t : Bool) → (if t then nat_eq start (at + 3)
        else may_boot (kind_of (rom at)) rom at && boots n rom (at + bytes_of (kind_of (rom at))) start) ≡ true → at < start
    by again true fine = let e = eqb-true start (at + 3) fine in omega (arith, e)
    by again false fine =
        let more = again (at + bytes_of (kind_of (rom at))) (both_true (may_boot (kind_of (rom at)) rom at) _ fine).1 in
        omega (arith, more)

-- an NMI's routine doesn't come to the start
no_start : (n : Option Note) → starts_at n ≡ true → (now : Note) → n ≡ Some now → now.level ≡ Nmi → ⊥
no_start None fine now is level = absurd (cc)
no_start (Some note) fine now is level =
    let main = (both_true (same_level note.level Main) _ fine).0 in
    let same : note.level ≡ Nmi = ap level_of is ∙ level in
    absurd (let e = sym (ap (λ l. same_level l Main) same) ∙ main in cc)
  where
    level_of : Option Note → Level
    level_of None = Nmi
    level_of (Some one) = one.level

apart : (pc start : ℕ) → pc < start → nat_eq pc start ≡ false
apart pc start less = ne_eqb pc start (λ e. omega (arith, less, e))

module _ (R image : List ℕ) (held rom : ℕ → ℕ) (start : ℕ) (cpu : Cpu) (older : List Bus) (cells : Cells) (work : ℕ → ℕ) (calm : ℕ)
    (rests : Rests cells cpu) where
  abbrev Does : List Turn → Type 0
  Does list = Doing R image held rom start cpu older cells work calm list

  abbrev cycled : List Turn → List Cycle
  cycled list = cycles_of (at_rest held older cells) list

  abbrev On : Option (Cpu × ℕ) → List Bus → Type 0
  On spot clocks = IsCabinet R image held rom start spot clocks

  abbrev Claim : List Turn → Type 0
  Claim list = CyclesFind.Claim R image held rom start cpu older cells work calm list

  -- an instruction in the ROM, where no NMI is due
  record Ready : Type 0 where
    in_rom : InRom cpu
    bytes : IsByteWide cpu
    direct : is_direct (instr_of cpu) ≡ true
    free : cells.due ≡ 0

  module _ (is : Ready) where
    claim_of : (list : List Turn) → Does list → counted list ≤ cycles (instr_of cpu) → Claim list
    claim_of list doing most =
        CyclesFind.claim_all R image held rom start cpu older cells work calm rests is.free is.in_rom is.bytes is.direct list doing most

    module _ (list : List Turn) (claim : Claim list) where
      abbrev k : Cpu
      k = CyclesFind.as_turned R image held rom start cpu older cells work calm rests is.free is.in_rom is.bytes is.direct list claim

      abbrev last : Cpu
      last = does (instr_of k) k

      abbrev Went : ℕ → Type 0
      Went n = CellsDo (instr_of k) k cells
          (CyclesFind.whole R image held rom start cpu older cells work calm rests is.free is.in_rom is.bytes is.direct list claim n)

      went : (n : ℕ) → counted list + n ≡ cycles (instr_of cpu) → Went n
      went n count =
          CyclesFind.went R image held rom start cpu older cells work calm rests is.free is.in_rom is.bytes is.direct list claim n count

      quiet_log : IsBeside (kind (instr_of k)) (idle k) → AreQuiet last.log
      quiet_log beside = written_quiet last.log (quiet_by (instr_of k) k (idle k) refl is.bytes.x is.bytes.y beside).none

      -- where it leaves the board alone, its cycles do
      so_far_quiet : AreQuiet last.log → (n : ℕ) → Went n → AreQuiet (made cells (cycled list) [])
      so_far_quiet quiet n g =
          let then_cells = cells_after held older cells list in
          let log_is : last.log ≡ g.news = g.log ∙ append-nil g.news in
          let all = subst AreQuiet (sym g.bus) (write_append IsQuiet g.news (fetched (instr_of k) k) (subst AreQuiet log_is quiet)
          (fetched_quiet IsQuiet (instr_of k) k)) in
          let rest = CyclesFind.answers n then_cells k in
          let parts = made_both (cycled list) rest cells [] ∙ made_more then_cells rest (made cells (cycled list) []) in
          (write_both IsQuiet (made then_cells rest []) (made cells (cycled list) []) (subst AreQuiet parts all)).1

      -- all of it
      abbrev end_older : List Bus
      end_older = older_after held older cells list

      abbrev end_cells : Cells
      end_cells = cells_after held older cells list

      abbrev end_work : ℕ → ℕ
      end_work = works cells (cycled list) work

      abbrev end_calm : ℕ
      end_calm = calms cells (cycled list) calm

      bytes_then : IsByteWide last
      bytes_then = let high = is.in_rom.high in let old = is.bytes in done_bytes claim.flags (changed claim.mem cpu)
          (record { a = old.a; x = old.x; y = old.y; s = old.s; mem = claim.bytes }) claim.small (omega (arith, high))

      module _ (g : Went 0) (doing : Does list) where
        mem_is : last.mem ≡ after_writes (made cells (cycled list) []) claim.mem
        mem_is =
            let made_news : made cells (cycled list) [] ≡ g.news ++ fetched (instr_of k) k =
            ap (λ l. made cells l []) (sym (append-nil (cycled list))) ∙ g.bus in
            let mine : InRom k = record { low = is.in_rom.low; high = is.in_rom.high; bytes = claim.bytes } in
            g.memory ∙ sym (ap (λ l. after_writes l claim.mem) made_news ∙ writes_both g.news (fetched (instr_of k) k) claim.mem
            ∙ ap (after_writes g.news) (tame_writes (fetched (instr_of k) k) claim.mem (tame_fetched k mine (instr_of k))))

        rests_then : Rests end_cells last
        rests_then = subst (λ l. Rests (ends cells l) last) (append-nil (cycled list)) g.rests

        doing_then : IsLoaded rom last.mem → Doing R image held rom start last end_older end_cells end_work end_calm []
        doing_then loaded =
            doing_next R image held rom start cpu older cells work calm list doing last claim.mem claim.turned mem_is loaded bytes_then

        on_then : AreQuiet last.log → (spot : Option (Cpu × ℕ)) → On spot older → On spot end_older
        on_then quiet spot on =
            all_quiet R image held rom start cpu older cells work calm spot on list doing (so_far_quiet quiet 0 g)

        timed : counted list ≡ cycles (instr_of cpu)
            → Timed R held rom (counted list) calm end_calm end_cells.due × (end_calm ≤ calm + counted list) × (counted list ≤ 6)
        timed count =
            let t = timely R held rom list older cells work calm doing.fits doing.given doing.asked in
            let six = at_most (instr_of cpu) in
            (t.timed is.free, t.bound, omega (arith, six, count))

    -- amid it no opcode is read
    unread : (list : List Turn) → 0 < counted list → counted list < cycles (instr_of cpu) → Does list
        → sync (cells_after held older cells list) ≡ 0
    unread list some less doing =
        let claim = claim_of list doing (omega (arith, less)) in
        let n = cycles (instr_of cpu) - suc (counted list) in
        CyclesFind.amid_so R image held rom start cpu older cells work calm rests is.free is.in_rom is.bytes is.direct list claim n
        (went list claim (suc n) (omega (arith, less))) some

    -- one of a 6502 that boots
    boots_then : {spot : Option (Cpu × ℕ)} {amid : Option ℕ} → IsBoot rom start spot amid cpu → nat_eq cpu.pc start ≡ false → (list : List Turn)
        (claim : Claim list) → IsBoot rom start spot amid (last list claim)
    boots_then boot before list claim = by_step claim.flags (by_turn claim.mem boot claim.bytes claim.turned) before claim.small

    half_of : (spot : Option (Cpu × ℕ)) → On spot older → (list : List Turn) (two : Two) → counted list < cycles (instr_of cpu)
        → Does (list ++ acts two ∷ [])
        → ((claim : Claim (list ++ acts two ∷ [])) → AreQuiet (last (list ++ acts two ∷ []) claim).log)
        → Half R image held rom start older cells list two
    half_of spot on list two less doing quiet =
        let count = counts list two in
        let claim = claim_of (list ++ acts two ∷ []) doing (omega (arith, count, less)) in
        let n = cycles (instr_of cpu) - counted (list ++ acts two ∷ []) in
        half_quiet R image held rom start cpu older cells work calm spot on list two doing
        (so_far_quiet (list ++ acts two ∷ []) claim (quiet claim) n (went (list ++ acts two ∷ []) claim n (omega (arith, count, less))))

  -- which instruction it is: LDX #$FF before TXS, TXS, or another one
  data Kinds : Type 0 where
    other : (n : ℕ) → is_code cpu.pc ≡ true → may_boot (kind_of (rom cpu.pc)) rom cpu.pc ≡ true
        → boots n rom (cpu.pc + bytes_of (kind_of (rom cpu.pc))) start ≡ true → Kinds
    sets : is_code cpu.pc ≡ true → rom cpu.pc ≡ 0xA2 → rom (cpu.pc + 1) ≡ 0xFF → rom (cpu.pc + 2) ≡ 0x9A
        → start ≡ cpu.pc + 3 → Kinds
    txs : AtTxs R image held rom start cpu → Kinds

  view_at : (left : ℕ) → boots left rom cpu.pc start ≡ true → Kinds
  view_at zero fine = absurd (cc)
  view_at (suc n) fine = by (stand_at stack_setting rom cpu.pc) refl two.1
    where
      two : (is_code cpu.pc ≡ true) × ((if stand_at stack_setting rom cpu.pc then nat_eq start (cpu.pc + 3)
          else may_boot (kind_of (rom cpu.pc)) rom cpu.pc && boots n rom (cpu.pc + bytes_of (kind_of (rom cpu.pc))) start) ≡ true)
      two = both_true (is_code cpu.pc) _ fine

      by : (t : Bool) → stand_at stack_setting rom cpu.pc ≡ t → (if t then nat_eq start (cpu.pc + 3)
          else may_boot (kind_of (rom cpu.pc)) rom cpu.pc && boots n rom (cpu.pc + bytes_of (kind_of (rom cpu.pc))) start) ≡ true → Kinds
      by true is fine =
          let a = both_true (nat_eq (rom cpu.pc) 0xA2) _ is in
          let b = both_true (nat_eq (rom (suc cpu.pc)) 0xFF) _ a.1 in
          let c = both_true (nat_eq (rom (suc (suc cpu.pc))) 0x9A) _ b.1 in
          sets two.0 (eqb-true (rom cpu.pc) 0xA2 a.0)
          (ap rom (let e : cpu.pc + 1 ≡ suc cpu.pc = omega arith in e) ∙ eqb-true (rom (suc cpu.pc)) 0xFF b.0)
          (ap rom (let e : cpu.pc + 2 ≡ suc (suc cpu.pc) = omega arith in e) ∙ eqb-true (rom (suc (suc cpu.pc))) 0x9A c.0)
          (eqb-true start (cpu.pc + 3) fine)
      by false is fine = let parts = both_true (may_boot (kind_of (rom cpu.pc)) rom cpu.pc) _ fine in other n two.0 parts.0 parts.1

  view : (left : ℕ) → Boots R image held rom start left cpu → Kinds
  view left (inl fine) = view_at left fine
  view left (inr at) = txs at

  module _ (old : (b : ℕ) → 0x4800 ≤ b → b < 0x8000 → cpu.mem b ≡ rom b) (bytes : IsByteWide cpu) (kinds : Kinds) where
    in_rom : InRom cpu
    in_rom = by kinds
      where
        by : Kinds → InRom cpu
        by (other n code may rest) = let place = inside cpu.pc code in record { low = place.0; high = place.1; bytes = bytes.mem }
        by (sets code a b c is) = let place = inside cpu.pc code in record { low = place.0; high = place.1; bytes = bytes.mem }
        by (txs at) = record { low = at.low; high = at.high; bytes = bytes.mem }

    opcode : cpu.mem cpu.pc ≡ rom cpu.pc
    opcode = let low = in_rom.low in let high = in_rom.high in old cpu.pc low (omega (arith, high))

    direct : is_direct (instr_of cpu) ≡ true
    direct = by kinds
      where
        by : Kinds → is_direct (instr_of cpu) ≡ true
        by (other n code may rest) = boot_direct rom cpu.pc (instr_of cpu)
            (subst (λ o. may_boot (kind_of o) rom cpu.pc ≡ true) (sym opcode) may)
        by (sets code a b c is) = ap (λ o. is_direct (decoded opcodes o)) (opcode ∙ a)
        by (txs at) = ap (λ o. is_direct (decoded opcodes o)) (opcode ∙ at.opcode)

    -- it stands before the start
    before : cpu.pc < start
    before = by kinds
      where
        by : Kinds → cpu.pc < start
        by (other n code may rest) =
            let less = boots_below rom start n (cpu.pc + bytes_of (kind_of (rom cpu.pc))) rest in omega (arith, less)
        by (sets code a b c is) = omega (arith, is)
        by (txs at) = let next = at.next in omega (arith, next)

    ready : cells.due ≡ 0 → Ready
    ready free = record { in_rom = in_rom; bytes = bytes; direct = direct; free = free }

    module _ (free : cells.due ≡ 0) (list : List Turn) (claim : Claim list) where
      abbrev it : Ready
      it = ready free

      abbrev now : Cpu
      now = k it list claim

      abbrev new : Cpu
      new = last it list claim

      loaded_so : (b : ℕ) → 0x4800 ≤ b → b < 0x8000 → claim.mem b ≡ rom b
      loaded_so b low high = claim.turned b (rom_inside b low high) ∙ old b low high

      opcode_so : now.mem now.pc ≡ rom cpu.pc
      opcode_so = let low = in_rom.low in let high = in_rom.high in loaded_so cpu.pc low (omega (arith, high))

      boots_quiet : AreQuiet new.log
      boots_quiet = by kinds
        where
          by : Kinds → AreQuiet new.log
          by (other n code may rest) =
              let mine = subst (λ o. may_boot (kind_of o) rom cpu.pc ≡ true) (sym opcode_so) may in
              quiet_log it list claim (beside_of (kind_of (now.mem now.pc)) (idle now)
              (boot_safe rom now loaded_so (inside cpu.pc code) (kind_of (now.mem now.pc)) mine))
          by (sets code a b c is) = subst AreQuiet (sym (ap (λ o. (does (decoded opcodes o) now).log) (opcode_so ∙ a))) tt
          by (txs at) = subst AreQuiet (sym (ap (λ o. (does (decoded opcodes o) now).log) (opcode_so ∙ at.opcode))) tt

      module _ (g : Went it list claim 0) (doing : Does list) (spot : Option (Cpu × ℕ)) (on : On spot older)
          (boot : IsBoot rom start spot None cpu) (count : counted list ≡ cycles (instr_of cpu)) where
        close_then : (cells_after held older cells list).due ≡ 1 → calms cells (cycled list) calm ≤ 6
        close_then some = by (timed it list claim g doing count).0
          where
            by : Timed R held rom (counted list) calm (calms cells (cycled list) calm) (cells_after held older cells list).due
                → calms cells (cycled list) calm ≤ 6
            by (inl none) = absurd (omega (arith, some, none))
            by (inr rose) = let long = rose.1 in let six = (timed it list claim g doing count).2 in omega (arith, long, six)

        more_boots : (left : ℕ) → Boots R image held rom start left new → IsLoaded rom new.mem
            → Done R image held rom start cpu older cells work calm list
        more_boots left so loaded = settle_boot R image held rom start new spot left (end_older it list claim) (end_cells it list claim)
            (end_work it list claim) (end_calm it list claim) (on_then it list claim g doing boots_quiet spot on)
            (rests_then it list claim g doing) so (boots_then it boot (apart cpu.pc start before) list claim)
            (doing_then it list claim g doing loaded) close_then

        boots_on : Done R image held rom start cpu older cells work calm list
        boots_on = by kinds
          where
            by : Kinds → Done R image held rom start cpu older cells work calm list
            by (other n code may rest) =
                let mine = subst (λ o. may_boot (kind_of o) rom cpu.pc ≡ true) (sym opcode_so) may in
                let next = steps_on rom now loaded_so (inside cpu.pc code) mine in
                let pc_is : new.pc ≡ cpu.pc + bytes_of (kind_of (rom cpu.pc)) =
                next.1 ∙ ap (λ o. cpu.pc + bytes_of (kind_of o)) opcode_so in
                more_boots n (inl (subst (λ p. boots n rom p start ≡ true) (sym pc_is) rest)) next.0
            by (sets code a b c is) =
                let same : new ≡ does (Load X Immediate) now = ap (λ o. does (decoded opcodes o) now) (opcode_so ∙ a) in
                let pc_is : new.pc ≡ cpu.pc + 2 = ap (λ (p : Cpu). p.pc) same in
                let low = in_rom.low in
                let top = code_high cpu.pc code in
                let x_is : new.x ≡ 0xFF = ap (λ (p : Cpu). p.x) same
                ∙ loaded_so (cpu.pc + 1) (omega (arith, low)) (omega (arith, top)) ∙ b in
                more_boots 0 (inr (record {
                  low = omega (arith, low, pc_is);
                  high = omega (arith, top, pc_is);
                  opcode = ap rom pc_is ∙ c;
                  x = x_is;
                  next = omega (arith, pc_is, is);
                })) (subst (λ (p : Cpu). IsLoaded rom p.mem) (sym same) loaded_so)
            by (txs at) =
                let same : new ≡ does ToStack now = ap (λ o. does (decoded opcodes o) now) (opcode_so ∙ at.opcode) in
                let next_is = at.next in
                let loaded : IsLoaded rom new.mem = subst (λ (p : Cpu). IsLoaded rom p.mem) (sym same) loaded_so in
                let doing_new = doing_then it list claim g doing loaded in
                let start_is : Begins rom start new = record {
                  loaded = loaded;
                  entry = ap (λ (p : Cpu). p.pc) same ∙ next_is;
                  stack = ap (λ (p : Cpu). p.s) same ∙ at.x;
                  bytes = bytes_then it list claim;
                } in
                settle R image held rom start new 860 (end_older it list claim) (end_cells it list claim) (end_work it list claim)
                (end_calm it list claim) (begins new 860 (on_then it list claim g doing boots_quiet spot on) start_is doing_new.shares.ram)
                (rests_then it list claim g doing) doing_new (λ none. inl (omega arith)) (λ some. (omega arith, close_then some))

  module _ (spot : Option (Cpu × ℕ)) (left : ℕ) (on : On spot older) (so : Boots R image held rom start left cpu)
      (boot : IsBoot rom start spot None cpu) where
    -- an instruction up to the TXS
    module _ (free : cells.due ≡ 0) where
      pub starts_unread : (list : List Turn) → 0 < counted list → counted list < cycles (instr_of cpu) → Does list
          → sync (cells_after held older cells list) ≡ 0
      starts_unread list some less doing = unread (ready doing.shares.loaded doing.shares.bytes (view left so) free) list some less doing

      pub starts_half : (list : List Turn) (two : Two) → counted list < cycles (instr_of cpu)
          → Does (list ++ acts two ∷ []) → Half R image held rom start older cells list two
      starts_half list two less doing = half_of (ready doing.shares.loaded doing.shares.bytes (view left so) free) spot on list two less doing
          (λ claim. boots_quiet doing.shares.loaded doing.shares.bytes (view left so) free (list ++ acts two ∷ []) claim)

      pub starts_done : (list : List Turn) → counted list ≡ cycles (instr_of cpu)
          → Does list → Done R image held rom start cpu older cells work calm list
      starts_done list count doing =
          let old = doing.shares.loaded in
          let bytes = doing.shares.bytes in
          let it = ready old bytes (view left so) free in
          let claim = claim_of it list doing (omega (arith, count)) in
          boots_on old bytes (view left so) free list claim (went it list claim 0 (omega (arith, count))) doing spot on boot count

    -- an NMI before it
    module _ (due : cells.due ≡ 1) (close : calm ≤ 6) where
      pub breaks_unread : (list : List Turn) → counted list < 5 → Shares R image held rom start cpu work older
          → sync (cells_after held older cells list) ≡ 0
      breaks_unread list less shares = nmi_unread R image held rom start cpu older cells work calm
          (in_rom shares.loaded shares.bytes (view left so)) shares.bytes rests due close list less

      pub breaks_half : (list : List Turn) (two : Two) → counted list < 5 → Does (list ++ acts two ∷ [])
          → Half R image held rom start older cells list two
      breaks_half list two less doing =
          nmi_half R image held rom start cpu older cells work calm (in_rom doing.shares.loaded doing.shares.bytes (view left so))
          doing.shares.bytes rests due close spot on list two less doing

      pub breaks_done : IsAccepted rom start → (list : List Turn) → counted list ≡ 5 → Does list
          → Done R image held rom start cpu older cells work calm list
      breaks_done game list count doing =
          let bytes = doing.shares.bytes in
          let there = in_rom doing.shares.loaded bytes (view left so) in
          let high = there.high in
          let mem = with_vectors R image held rom start cpu older cells work calm in
          let turned = vectors_turn R image held rom start cpu older cells work calm in
          let small = vectors_in R image held rom start cpu older cells work calm bytes.mem doing.rom_in in
          let g = nmi_done R image held rom start cpu older cells work calm there bytes rests due close list count doing in
          let time = nmi_time R image held rom start cpu older cells work calm there bytes rests due close list count doing in
          let old : IsByteWide (changed mem cpu) = record { a = bytes.a; x = bytes.x; y = bytes.y; s = bytes.s; mem = small } in
          let early = early_begins rom start game.notes (both_true (accepts_game rom start game.notes) _ game.yes).0 cpu mem
          (λ b low top. turned b (rom_inside b low top) ∙ doing.shares.loaded b low top) bytes.s in
          let bound = time.1 in
          let new = entered R image held rom start cpu older cells work calm in
          stands new (older_after held older cells list) (cells_after held older cells list) (works cells (cycled list) work)
          (calms cells (cycled list) calm) (cycles (instr_of new)) []
          (doing_next R image held rom start cpu older cells work calm list doing new mem turned g.1 (early_loaded early)
          (bytes_pushed (changed mem cpu) old (omega (arith, high))))
          (handles spot left (all_quiet R image held rom start cpu older cells work calm spot on list doing g.2) g.0 cpu 0 so early
          (by_nmi (by_turn mem boot small turned)) time.0
          (omega (arith, bound)))
          (at_least (instr_of new)) (spot, all_quiet R image held rom start cpu older cells work calm spot on list doing g.2)

  -- an instruction of its routine
  module _ (spot : Option (Cpu × ℕ)) (left : ℕ) (on : On spot older) (back : Cpu) (since : ℕ)
      (so : Boots R image held rom start left back) (early : Early rom start back since cpu)
      (boot : IsBoot rom start spot (Some back.pc) cpu) (free : cells.due ≡ 0)
      (close : calm ≤ 6 * since + 13) where
    nmi_ready : IsByteWide cpu → Ready
    nmi_ready bytes = let place = early_place early in record {
      in_rom = record { low = place.0; high = place.1; bytes = bytes.mem };
      bytes = bytes;
      direct = safe_direct (instr_of cpu) early.st (early_safe early);
      free = free;
    }

    -- nor does it come to the start
    nmi_apart : nat_eq cpu.pc start ≡ false
    nmi_apart = by (nat_eq cpu.pc start) refl early.good.stage
      where
        by : (t : Bool) → nat_eq cpu.pc start ≡ t → Runs early.notes early.st ⊎ Handles early.notes early.st → t ≡ false
        by false e stage = refl
        by true e (inl runs) = absurd (let f = sym early.turned.amid ∙ runs.outside in cc)
        by true e (inr h) = absurd (no_start (noted early.notes start)
            (both_true (starts_at (noted early.notes start)) _ early.accepted).0 h.now
            (ap (noted early.notes) (sym (eqb-true cpu.pc start e) ∙ early.turned.pc) ∙ h.is) h.level)

    pub handles_unread : (list : List Turn) → 0 < counted list → counted list < cycles (instr_of cpu) → Does list
        → sync (cells_after held older cells list) ≡ 0
    handles_unread list some less doing = unread (nmi_ready doing.shares.bytes) list some less doing

    nmi_quiet : (bytes : IsByteWide cpu) (list : List Turn) (claim : Claim list) → AreQuiet (last (nmi_ready bytes) list claim).log
    nmi_quiet bytes list claim =
        quiet_log (nmi_ready bytes) list claim (early_beside (early_turns early claim.mem claim.flags claim.turned))

    pub handles_half : (list : List Turn) (two : Two) → counted list < cycles (instr_of cpu) → Does (list ++ acts two ∷ [])
        → Half R image held rom start older cells list two
    handles_half list two less doing = half_of (nmi_ready doing.shares.bytes) spot on list two less doing
        (λ claim. nmi_quiet doing.shares.bytes (list ++ acts two ∷ []) claim)

    -- it leads back to the boot code as it was
    comes_back : (new : Cpu) → IsBack rom back new → Boots R image held rom start left new
    comes_back new is = by so
      where
        by : Boots R image held rom start left back → Boots R image held rom start left new
        by (inl fine) = inl (subst (λ p. boots left rom p start ≡ true) (sym is.pc) fine)
        by (inr at) = let pc = is.pc in let low = at.low in let high = at.high in let next = at.next in inr (record {
          low = omega (arith, low, pc);
          high = omega (arith, high, pc);
          opcode = ap rom pc ∙ at.opcode;
          x = is.x ∙ at.x;
          next = omega (arith, next, pc);
        })

    pub handles_done : (list : List Turn) → counted list ≡ cycles (instr_of cpu) → Does list
        → Done R image held rom start cpu older cells work calm list
    handles_done list count doing =
        goes (early_steps (early_turns early claim.mem claim.flags claim.turned) doing.shares.bytes.x doing.shares.bytes.y)
      where
        it : Ready
        it = nmi_ready doing.shares.bytes

        claim : Claim list
        claim = claim_of it list doing (omega (arith, count))

        g : Went it list claim 0
        g = went it list claim 0 (omega (arith, count))

        new : Cpu
        new = last it list claim

        time : Timed R held rom (counted list) calm (end_calm it list claim) (end_cells it list claim).due
            × (end_calm it list claim ≤ calm + counted list) × (counted list ≤ 6)
        time = timed it list claim g doing count

        -- none rises meanwhile
        none_due : (end_cells it list claim).due ≡ 0
        none_due = none time.0
          where
            none : Timed R held rom (counted list) calm (end_calm it list claim) (end_cells it list claim).due
                → (end_cells it list claim).due ≡ 0
            none (inl is) = is
            none (inr rose) = let late = rose.0 in let few = early_time early in let six = time.2 in
                absurd (omega (arith, late, few, six, close))

        on_new : On spot (end_older it list claim)
        on_new = on_then it list claim g doing (nmi_quiet doing.shares.bytes list claim) spot on

        next : IsLoaded rom new.mem → Task R image held rom start new (end_older it list claim) (end_cells it list claim)
            (end_calm it list claim) (cycles (instr_of new)) → Done R image held rom start cpu older cells work calm list
        next loaded task = stands new (end_older it list claim) (end_cells it list claim) (end_work it list claim) (end_calm it list claim)
            (cycles (instr_of new)) [] (doing_then it list claim g doing loaded) task (at_least (instr_of new)) (spot, on_new)

        goes : Early rom start back (suc since) new ⊎ IsBack rom back new → Done R image held rom start cpu older cells work calm list
        goes (inl more) = let bound = time.1 in let six = time.2 in next (early_loaded more)
            (handles spot left on_new (rests_then it list claim g doing) back (suc since) so more (boots_then it boot nmi_apart list claim) none_due (omega (arith, bound, six, close)))
        goes (inr is) = next is.loaded (starts spot left on_new (rests_then it list claim g doing) (comes_back new is)
            (by_return (boots_then it boot nmi_apart list claim) is.pc) none_due)
