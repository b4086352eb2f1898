-- An instruction of the game or of the driver, on the cells, is one of the cabinet.
use Rattle.std.proofs.Common.{◌≡◌, ℕ, zero, suc, ◌+◌, ◌-◌, ◌*◌, ◌<◌, ◌≤◌, Bool, true, false, List, [], ◌∷◌, ◌++◌, refl, sym, ap, ◌∙◌}
use Rattle.std.proofs.Common.{subst, arith, inl, inr, append-nil, eqb-true, lit<, lit≤}
use Rattle.std.specs.Prelude.{◌⊎◌, nat_eq, ◌||◌, if◌then◌else◌, Option, Some}
use Rattle.dvg_calls_6502.specs.Processor.{Cpu, Access, Reads, Writes, Jump, does}
use Rattle.dvg_calls_6502.specs.Amid.{changed, is_code}
use Rattle.dvg_calls_6502.specs.Board.{is_ram, seen, strobe_place}
use Rattle.dvg_cells_board.specs.Board.{Bus}
use Rattle.dvg_cells_cpu.specs.Cpu.{Cpu as Cells, sync}
use Rattle.dvg_cells_cpu.specs.Refines.{Cycle, access, made, after_writes, Rests, CellsDo, cycles, ends, fetched}
use Rattle.dvg_game_rules.specs.Kinds.{kind}
use Rattle.dvg_game_rules.specs.Machine.{IsLoaded, reset_vector, restarting, word_at}
use Rattle.dvg_game_rules.specs.Checker.{accepts_game, boots, boot_most, stand_at}
use Rattle.dvg_game_rules.specs.Alike.{idle}
use Rattle.dvg_game_rules.proofs.Facts.{both_true}
use Rattle.dvg_game_rules.proofs.OutsideTurns.{rom_inside}
use Rattle.dvg_calls_6502.specs.Code.{code}
use Rattle.dvg_calls_6502.specs.Single.{is_single}
use Rattle.dvg_calls_6502.proofs.FewAccesses.{AreFew, few}
use Rattle.dvg_calls_cells.specs.Cycles.{Two, Turn, acts, IsQuiet, AreQuiet, cycles_of, cycle_of, first_bus}
use Rattle.dvg_calls_cells.specs.Steps.{AreServed, instr_of}
use Rattle.dvg_calls_cells.specs.Played.{at_rest, older_after, cells_after}
use Rattle.dvg_calls_cells.proofs.Fits.{AllFit, served_of}
use Rattle.dvg_calls_cells.proofs.BoardLeftAlone.{made_more, write_append, write_both}
use Rattle.dvg_calls_cells.proofs.SeenAccesses.{IsSeen, either_way, fetched_quiet, low_unseen, seen_one, unseen, unseen_quiet}
use Rattle.dvg_calls_cells.proofs.CallOnCells.{head_is}
use Rattle.dvg_game_6502.proofs.Plays.{Brought}
use Rattle.dvg_game_6502.proofs.Stages.{IsAccepted}
use Rattle.dvg_game_board.proofs.OnBoard.{on_board}
use Rattle.dvg_game_6502.specs.Play.{IsByteWide, done, restarts}
use Rattle.dvg_game_board.specs.Cabinet.{IsCabinet, AreMade, no_more, does as makes_step, touched, turns, written}
use Rattle.dvg_game_board.proofs.Runs.{leaves_board, standing}
use Rattle.dvg_game_board.proofs.SharedRam.{Laws}
use Rattle.dvg_game_cells.specs.Keeps.{from_vector}
use Rattle.dvg_game_cells.proofs.InstructionReads.{tame_fetched, InRom}
use Rattle.dvg_game_cells.proofs.ReadsBeforeWrites.{tame_writes}
use Rattle.dvg_game_cells.proofs.CellsTask.{Doing, IsTime, calms, counted, works}
use Rattle.dvg_game_cells.proofs.TaskEnds.{Done, EndsInCycle, Half, settle, settle_boot, split_served}
use Rattle.dvg_game_cells.proofs.Jumps.{jump_is}
use Rattle.dvg_game_cells.proofs.CabinetProcessor.{Known, known}
use Rattle.dvg_game_cells.proofs.Memory.{writes_both}
use Rattle.dvg_game_cells.proofs.Snoc.{counts, more_older, then_at}
use Rattle.dvg_game_cells.proofs.NmiDue.{Timed, at_most, timely}
use Rattle.dvg_game_cells.proofs.CyclesFind
use Rattle.dvg_game_cells.proofs.CyclesFind.{made_both, more_cycles}
use Rattle.dvg_game_cells.proofs.Vectors.{doing_next}
use Rattle.dvg_game_cells.proofs.Walks.{loud_half, quiet_half, quietly, second_half}

-- where nothing is written to the board, the accesses leave it alone
pub written_quiet : (log : List Access) → written log ≡ [] → AreQuiet log
written_quiet [] none = tt
written_quiet (Reads a byte ∷ log) none = written_quiet log none
written_quiet (Writes a byte ∷ log) none =
    by (λ none. written_quiet log none) (is_ram a) (nat_eq a strobe_place) refl refl none
  where
    by : (written log ≡ [] → AreQuiet log) → (r s : Bool) → is_ram a ≡ r → nat_eq a strobe_place ≡ s
        → (if r || s then Writes a byte ∷ written log else written log) ≡ []
        → ((is_ram a ≡ false) × (nat_eq a strobe_place ≡ false)) × AreQuiet log
    by again true s er es none = absurd (cc)
    by again false true er es none = absurd (cc)
    by again false false er es none = ((er, es), again none)

-- what is older than the newest of these
older_quiet : (more : List Access) (acc its : Access) (l r : List Access) → more ++ (acc ∷ l) ≡ its ∷ r → AreQuiet r → AreQuiet l
older_quiet [] acc its l r e quiet = subst AreQuiet (sym (head_is acc its l r e).1) quiet
older_quiet (one ∷ more) acc its l r e quiet =
    let rest = (head_is one its (more ++ (acc ∷ l)) r e).1 in
    let both = write_both IsQuiet more (acc ∷ l) (subst AreQuiet (sym rest) quiet) in
    (write_both IsQuiet (acc ∷ []) l both.1).1

module _ (laws : Laws) (R image : List ℕ) (held rom : ℕ → ℕ) (start : ℕ) (game : IsAccepted rom start)
    (brought : Brought R (on_board laws R image held) rom start) where
  abbrev On : Option (Cpu × ℕ) → List Bus → Type 0
  On spot clocks = IsCabinet R image held rom start spot clocks

  module _ (cpu : Cpu) (older : List Bus) (cells : Cells) (work : ℕ → ℕ) (calm : ℕ) (since : ℕ) (on : On (Some (cpu, since)) older)
      (rests : Rests cells cpu) (free : cells.due ≡ 0) where
    abbrev Does : List Turn → Type 0
    Does list = Doing R image held rom start cpu older cells work calm list

    abbrev Claim : List Turn → Type 0
    Claim list = CyclesFind.Claim R image held rom start cpu older cells work calm list

    abbrev cycled : List Turn → List Cycle
    cycled list = cycles_of (at_rest held older cells) list

    it : Known rom cpu
    it = known laws R image held rom start game brought cpu since older on

    claims : (list : List Turn) → Does list → counted list ≤ cycles (instr_of cpu) → Claim list
    claims list doing most = CyclesFind.claim_all R image held rom start cpu older cells work calm rests free it.in_rom it.bytes it.direct list doing most

    module _ (list : List Turn) (claim : Claim list) where
      abbrev turned : Cpu
      turned = changed claim.mem cpu

      abbrev new : Cpu
      new = done claim.flags turned

      abbrev as_turned : Cpu
      as_turned = CyclesFind.as_turned R image held rom start cpu older cells work calm rests free it.in_rom it.bytes it.direct list claim

      abbrev whole : ℕ → List Cycle
      whole n = CyclesFind.whole R image held rom start cpu older cells work calm rests free it.in_rom it.bytes it.direct list claim n

      on_turned : On (Some (turned, since)) older
      on_turned = turns claim.mem on claim.bytes claim.turned

      abbrev Went : ℕ → Type 0
      Went n = CellsDo (instr_of as_turned) as_turned cells (whole n)

      went : (n : ℕ) → counted list + n ≡ cycles (instr_of cpu) → Went n
      went n count = CyclesFind.went R image held rom start cpu older cells work calm rests free it.in_rom it.bytes it.direct list claim n count

      module _ (n : ℕ) (g : Went n) where
        log_is : new.log ≡ g.news
        log_is = g.log ∙ append-nil g.news

        abbrev Quietly : Type 0
        Quietly = AreQuiet g.news × (touched turned new ≡ [])

        abbrev Loudly : Type 0
        Loudly = (its : Access) × (g.news ≡ its ∷ []) × IsSeen its × (touched turned new ≡ its ∷ [])

        verdict : Quietly ⊎ Loudly
        verdict = by (is_code cpu.pc) refl
          where
            touches : (t : Bool) → is_code cpu.pc ≡ t → touched turned new ≡ (if t then seen new.log else written new.log)
            touches t e = ap (λ (t : Bool). if t then seen new.log else written new.log) e

            of_code : is_code cpu.pc ≡ true → (news : List Access) → g.news ≡ news → AreFew news → Quietly ⊎ Loudly
            of_code e news is (inr low) =
                let none = low_unseen news low in
                inl (subst AreQuiet (sym is) (unseen_quiet news none), touches true e ∙ ap seen (log_is ∙ is) ∙ unseen news none)
            of_code e [] is (inl less) = inl (subst AreQuiet (sym is) tt, touches true e ∙ ap seen (log_is ∙ is))
            of_code e (a ∷ []) is (inl less) = elim (either_way a) [
              | inl none ↦ inl (
                subst AreQuiet (sym is) (unseen_quiet (a ∷ []) (none, tt)),
                touches true e ∙ ap seen (log_is ∙ is) ∙ unseen (a ∷ []) (none, tt),
              )
              | inr some ↦ inr (a, is, some, touches true e ∙ ap seen (log_is ∙ is) ∙ seen_one a [] some)
            ]
            of_code e (a ∷ b ∷ news) is (inl less) = absurd (omega (arith, less))

            by : (t : Bool) → is_code cpu.pc ≡ t → Quietly ⊎ Loudly
            by false e =
                let none = leaves_board laws R image held rom start game brought claim.flags
                (standing laws R image held rom start game brought on_turned).stage e in
                inl (written_quiet g.news (ap written (sym log_is) ∙ none), touches false e ∙ none)
            by true e =
                let same = CyclesFind.same_instr R image held rom start cpu older cells work calm rests free it.in_rom it.bytes it.direct list claim in
                of_code e g.news refl
                (few as_turned claim.bytes (instr_of as_turned) (ap is_single same ∙ it.single e) g.news g.log)

        -- one with an access isn't a jump to the reset
        goes_on : Loudly → restarts turned ≡ false
        goes_on loud = by (restarts turned) refl
          where
            by : (t : Bool) → restarts turned ≡ t → t ≡ false
            by true is =
                let jump = jump_is (idle turned) (instr_of as_turned) is in
                let none : new.log ≡ [] = ap (λ i. (does i as_turned).log) jump in
                absurd (let e = sym none ∙ log_is ∙ loud.1 in cc)
            by false is = refl

        -- the cycles so far are quiet, where the instruction is
        so_far_quiet : AreQuiet g.news → AreQuiet (made cells (cycled list) [])
        so_far_quiet q =
            let then_cells = cells_after held older cells list in
            let all = subst AreQuiet (sym g.bus) (write_append IsQuiet g.news (fetched (instr_of as_turned) as_turned) q
            (fetched_quiet IsQuiet (instr_of as_turned) as_turned)) in
            let rest = CyclesFind.answers n then_cells as_turned in
            let parts : made cells (whole n) [] ≡ made then_cells rest [] ++ made cells (cycled list) [] =
            made_both (cycled list) rest cells [] ∙ made_more then_cells rest (made cells (cycled list) []) in
            (write_both IsQuiet (made then_cells rest []) (made cells (cycled list) []) (subst AreQuiet parts all)).1

      -- and where its access is still to come
      before_quiet : (n : ℕ) (g : Went (suc n)) → Loudly (suc n) g → AreQuiet (made cells (cycled list) [])
      before_quiet n g loud =
          let next = CyclesFind.made_next R image held rom start cpu older cells work calm rests free it.in_rom it.bytes it.direct list claim n in
          older_quiet next.0 _ loud.0 (made cells (cycled list) []) (fetched (instr_of as_turned) as_turned)
          (sym next.1 ∙ g.bus ∙ ap (λ l. l ++ fetched (instr_of as_turned) as_turned) loud.1)
          (fetched_quiet IsQuiet (instr_of as_turned) as_turned)

    -- with one cycle more
    module _ (list : List Turn) (two : Two) (doing : Does (list ++ acts two ∷ [])) (claim : Claim (list ++ acts two ∷ [])) where
      abbrev more : List Turn
      more = list ++ acts two ∷ []

      abbrev then_older : List Bus
      then_older = older_after held older cells list

      abbrev then_cells : Cells
      then_cells = cells_after held older cells list

      abbrev din : ℕ
      din = (cycle_of (then_at R held rom older cells list) two).din

      made_is : made cells (cycled more) [] ≡ access then_cells din ∷ made cells (cycled list) []
      made_is = ap (λ l. made cells l []) (more_cycles R image held rom start two list older cells)
          ∙ made_both (cycled list) (cycle_of (then_at R held rom older cells list) two ∷ []) cells []

      served : AreServed R (at_rest held older cells) list × AreServed R (then_at R held rom older cells list) (acts two ∷ [])
      served = split_served R image held rom start two list older cells (served_of R held more older cells doing.fits doing.given).0

      quiet_case : AreQuiet (made cells (cycled more) []) → Half R image held rom start older cells list two
      quiet_case q =
          let both = write_both IsQuiet (access then_cells din ∷ []) (made cells (cycled list) []) (subst AreQuiet made_is q) in (
            Some (turned more claim, since),
            quiet_half R image held rom start then_older then_cells two served.1 (Some (turned more claim, since))
                (quietly R image held rom start (Some (turned more claim, since)) list older cells (on_turned more claim) served.0 both.1) both.0,
          )

      loud_case : (g : Went more claim 0) → Loudly more claim 0 g
          → On (Some (new more claim, suc since)) (first_bus (then_at R held rom older cells list) two ∷ then_older)
      loud_case g loud =
          let all : access then_cells din ∷ made cells (cycled list) [] ≡ loud.0 ∷ fetched (instr_of (as_turned more claim)) (as_turned more claim) =
          sym made_is ∙ ap (λ l. made cells l []) (sym (append-nil (cycled more))) ∙ g.bus
          ∙ ap (λ l. l ++ fetched (instr_of (as_turned more claim)) (as_turned more claim)) loud.1 in
          let parts = head_is _ _ _ _ all in
          loud_half R image held rom start then_older then_cells two served.1 (turned more claim) since claim.flags
          (quietly R image held rom start (Some (turned more claim, since)) list older cells (on_turned more claim) served.0
          (subst AreQuiet (sym parts.1) (fetched_quiet IsQuiet (instr_of (as_turned more claim)) (as_turned more claim))))
          (goes_on more claim 0 g loud) claim.small loud.0 parts.0 loud.2 loud.3

    -- amid them no opcode is read
    pub plays_amid : (list : List Turn) → 0 < counted list → counted list < cycles (instr_of cpu) → Does list
        → sync (cells_after held older cells list) ≡ 0
    plays_amid list some less doing =
        let claim = claims list doing (omega (arith, less)) in
        let n = cycles (instr_of cpu) - suc (counted list) in
        CyclesFind.amid_so R image held rom start cpu older cells work calm rests free it.in_rom it.bytes it.direct list claim n
        (went list claim (suc n) (omega (arith, less))) some

    pub plays_half : (list : List Turn) (two : Two) → counted list < cycles (instr_of cpu) → Does (list ++ acts two ∷ [])
        → Half R image held rom start older cells list two
    plays_half list two less doing =
        let count = counts list two in
        let claim = claims (list ++ acts two ∷ []) doing (omega (arith, count, less)) in
        by claim (cycles (instr_of cpu) - counted (list ++ acts two ∷ [])) (omega (arith, count, less))
      where
        by : (claim : Claim (list ++ acts two ∷ [])) (n : ℕ) → counted (list ++ acts two ∷ []) + n ≡ cycles (instr_of cpu)
            → Half R image held rom start older cells list two
        by claim zero count = let g = went (list ++ acts two ∷ []) claim 0 count in elim (verdict (list ++ acts two ∷ []) claim 0 g) [
          | inl q ↦ quiet_case list two doing claim (so_far_quiet (list ++ acts two ∷ []) claim 0 g q.0)
          | inr loud ↦ (Some (new (list ++ acts two ∷ []) claim, suc since), loud_case list two doing claim g loud)
        ]
        by claim (suc n) count = let g = went (list ++ acts two ∷ []) claim (suc n) count in
            elim (verdict (list ++ acts two ∷ []) claim (suc n) g) [
              | inl q ↦ quiet_case list two doing claim (so_far_quiet (list ++ acts two ∷ []) claim (suc n) g q.0)
              | inr loud ↦ quiet_case list two doing claim (before_quiet (list ++ acts two ∷ []) claim n g loud)
            ]

    -- all cycles
    module _ (time : IsTime since calm) (list : List Turn) (count : counted list ≡ cycles (instr_of cpu)) (doing : Does list)
        (newest : EndsInCycle list) where
      claim : Claim list
      claim = claims list doing (omega (arith, count))

      abbrev k : Cpu
      k = as_turned list claim

      abbrev last : Cpu
      last = new list claim

      abbrev end_older : List Bus
      end_older = older_after held older cells list

      abbrev end_cells : Cells
      end_cells = cells_after held older cells list

      abbrev then_work : ℕ → ℕ
      then_work = works cells (cycled list) work

      abbrev then_calm : ℕ
      then_calm = calms cells (cycled list) calm

      g : Went list claim 0
      g = went list claim 0 (omega (arith, count))

      mem_is : last.mem ≡ after_writes (made cells (cycled list) []) claim.mem
      mem_is =
          let made_news : made cells (cycled list) [] ≡ g.news ++ fetched (instr_of k) k =
          ap (λ l. made cells l []) (sym (append-nil (cycled list))) ∙ g.bus in
          let mine : InRom k = record { low = it.in_rom.low; high = it.in_rom.high; bytes = claim.bytes } in
          g.memory ∙ sym (ap (λ l. after_writes l claim.mem) made_news ∙ writes_both g.news (fetched (instr_of k) k) claim.mem
          ∙ ap (after_writes g.news) (tame_writes (fetched (instr_of k) k) claim.mem (tame_fetched k mine (instr_of k))))

      all_served : AreServed R (at_rest held older cells) list × AllFit R held end_older end_cells
      all_served = served_of R held list older cells doing.fits doing.given

      doing_then : IsLoaded rom last.mem → IsByteWide last
          → Doing R image held rom start last end_older end_cells then_work then_calm []
      doing_then loaded bytes =
          doing_next R image held rom start cpu older cells work calm list doing last claim.mem claim.turned mem_is loaded bytes

      rests_then : Rests end_cells last
      rests_then = subst (λ l. Rests (ends cells l) last) (append-nil (cycled list)) g.rests

      on_quiet : AreQuiet g.news → On (Some (turned list claim, since)) end_older
      on_quiet q = quietly R image held rom start (Some (turned list claim, since)) list older cells (on_turned list claim)
          all_served.0 (so_far_quiet list claim 0 g q)

      -- where the newest cycle makes its access
      abbrev OnLoud : List Turn → Type 0
      OnLoud l = (doing : Does l) (claim : Claim l) (g : Went l claim 0) → Loudly l claim 0 g
          → On (Some (new l claim, suc since)) (older_after held older cells l)

      loud_by : (front : List Turn) (two : Two) → OnLoud (front ++ acts two ∷ [])
      loud_by front two doing claim g loud =
          let parts = served front two doing claim in
          subst (λ c. On (Some (new (front ++ acts two ∷ []) claim, suc since)) c) (sym (more_older R held rom (acts two) front older cells))
          (second_half R image held rom start (older_after held older cells front) (cells_after held older cells front) two parts.1
          (Some (new (front ++ acts two ∷ []) claim, suc since)) (loud_case front two doing claim g loud))

      on_loud : Loudly list claim 0 g → On (Some (last, suc since)) end_older
      on_loud loud = subst OnLoud (sym newest.2) (loud_by newest.0 newest.1) doing claim g loud

      on_new : restarts (turned list claim) ≡ false → On (Some (last, suc since)) end_older
      on_new go = elim (verdict list claim 0 g) [
        | inl q ↦ makes_step claim.flags (on_quiet q.0) go claim.small
            (subst (λ l. AreMade R held l end_older end_older) (sym q.1) no_more)
        | inr loud ↦ on_loud loud
      ]

      abbrev due : ℕ
      due = end_cells.due

      timed : Timed R held rom (counted list) calm then_calm due × (then_calm ≤ calm + counted list) × (counted list ≤ 6)
      timed =
          let t = timely R held rom list older cells work calm doing.fits doing.given doing.asked in
          let six = at_most (instr_of cpu) in
          (t.timed free, t.bound, omega (arith, six, count))

      -- an NMI that rose is long after the last one
      late_by : 5200 ≤ calm + counted list → IsTime since calm → 860 ≤ suc since
      late_by rose (inl late) = omega (arith, late)
      late_by rose (inr close) = let six = timed.2 in omega (arith, rose, close, six)

      time_then : IsTime (suc since) then_calm
      time_then = by timed.0 time
        where
          by : Timed R held rom (counted list) calm then_calm due → IsTime since calm → IsTime (suc since) then_calm
          by (inr rose) time = inl (late_by rose.0 time)
          by (inl none) (inl late) = inl (omega (arith, late))
          by (inl none) (inr close) = let bound = timed.1 in let six = timed.2 in inr (omega (arith, close, bound, six))

      late_then : due ≡ 1 → (860 ≤ suc since) × (then_calm ≤ 6)
      late_then is = by timed.0
        where
          by : Timed R held rom (counted list) calm then_calm due → (860 ≤ suc since) × (then_calm ≤ 6)
          by (inl none) = absurd (omega (arith, is, none))
          by (inr rose) = let six = timed.2 in let calm_is = rose.1 in (late_by rose.0 time, omega (arith, calm_is, six))

      goes_then : restarts (turned list claim) ≡ false → Done R image held rom start cpu older cells work calm list
      goes_then go =
          let after_it = known laws R image held rom start game brought last (suc since) end_older (on_new go) in
          settle R image held rom start last (suc since) end_older end_cells then_work then_calm (on_new go) rests_then
          (doing_then after_it.loaded after_it.bytes) (λ is. time_then) late_then

      -- a jump to the reset begins anew
      anew_then : restarts (turned list claim) ≡ true → Done R image held rom start cpu older cells work calm list
      anew_then is = elim (verdict list claim 0 g) [
        | inl q ↦
            let jump = jump_is (idle (turned list claim)) (instr_of k) is in
            let same : last ≡ does Jump k = ap (λ i. does i k) jump in
            let there : restarting (kind Jump) (idle (turned list claim)) ≡ true =
            subst (λ i. restarting (kind i) (idle (turned list claim)) ≡ true) jump is in
            let to = eqb-true (word_at claim.mem (cpu.pc + 1)) (word_at claim.mem reset_vector) there in
            let high : cpu.pc + 1 + 1 ≡ cpu.pc + 2 = omega arith in
            let vector : word_at claim.mem reset_vector ≡ word_at rom reset_vector =
            ap (λ b. b + 256 * claim.mem (reset_vector + 1)) (loaded_so 0x7FFC (lit≤ tt) (lit< tt))
            ∙ ap (λ b. rom 0x7FFC + 256 * b) (loaded_so 0x7FFD (lit≤ tt) (lit< tt)) in
            let pc_is : last.pc ≡ word_at rom reset_vector = ap (λ (c : Cpu). c.pc) same
            ∙ ap (λ b. claim.mem (cpu.pc + 1) + 256 * claim.mem b) (sym high) ∙ to ∙ vector in
            let fine = (both_true (stand_at code rom 0x6800) _ (both_true (accepts_game rom start game.notes) _ game.yes).1).1 in
            let loaded : IsLoaded rom last.mem = subst (λ (c : Cpu). IsLoaded rom c.mem) (sym same) loaded_so in
            let bytes : IsByteWide last = subst IsByteWide (sym same)
            (record { a = it.bytes.a; x = it.bytes.x; y = it.bytes.y; s = it.bytes.s; mem = claim.bytes }) in
            settle_boot R image held rom start last (Some (turned list claim, since)) boot_most end_older end_cells then_work then_calm
            (on_quiet q.0) rests_then (inl (subst (λ p. boots boot_most rom p start ≡ true) (sym pc_is) fine))
            (from_vector last is loaded pc_is bytes) (doing_then loaded bytes)
            (λ is. (late_then is).1)
        | inr loud ↦ absurd (let e = goes_on list claim 0 g loud in cc)
      ]
        where
          loaded_so : (b : ℕ) → 0x4800 ≤ b → b < 0x8000 → claim.mem b ≡ rom b
          loaded_so b low high = claim.turned b (rom_inside b low high) ∙ it.loaded b low high

      pub plays_done : Done R image held rom start cpu older cells work calm list
      plays_done = by (restarts (turned list claim)) refl
        where
          by : (t : Bool) → restarts (turned list claim) ≡ t → Done R image held rom start cpu older cells work calm list
          by true is = anew_then is
          by false is = goes_then is
