-- An NMI, and the reads of a reset, on the cells.
use Rattle.std.proofs.Common.{◌≡◌, ℕ, suc, ◌+◌, ◌-◌, ◌*◌, ◌%◌, ◌<◌, ◌≤◌, Bool, true, false, not, List, [], ◌∷◌, ◌++◌, length, refl, sym, ap, ◌∙◌}
use Rattle.std.proofs.Common.{subst, arith, inl, inr, eqb-true, leb-true, le-leb, lit<, lit≤}
use Rattle.std.specs.Prelude.{nat_eq, nat_le, nat_lt, ◌&&◌, ◌||◌, if◌then◌else◌, Option, Some}
use Rattle.std.proofs.lemmas.Bool.{ne_eqb, lt-leb}
use Rattle.dvg_calls_6502.specs.Code.{code}
use Rattle.dvg_calls_6502.specs.Processor.{Cpu, Access, Reads, Writes, found, restarted}
use Rattle.dvg_calls_6502.specs.Amid.{changed}
use Rattle.dvg_calls_6502.specs.Board.{is_ram}
use Rattle.dvg_cells_core.specs.Cells.{bit, mux, part, either, eq}
use Rattle.dvg_cells_board.specs.Board.{Bus, q}
use Rattle.dvg_cells_cpu.specs.Cpu.{Cpu as Cells, at, write, dout, clock, sync}
use Rattle.dvg_cells_cpu.specs.Refines.{Cycle, pins_of, access, made, after_writes, AreAnswered, Where, Holds, Rests, IsSound, ends}
use Rattle.dvg_cells_cpu.proofs.Interrupting.{interrupts, restarts, hears}
use Rattle.dvg_cells_cpu.proofs.Resting.{held as stands_so, in_state}
use Rattle.dvg_game_rules.specs.Machine.{IsLoaded, is_outside, IsTurned, reset_vector, word_at}
use Rattle.dvg_game_rules.specs.Checker.{accepts_game, boot_most, stand_at}
use Rattle.dvg_game_rules.proofs.Facts.{both_true}
use Rattle.dvg_game_rules.proofs.OutsideTurns.{low_inside, rom_inside}
use Rattle.dvg_calls_cells.specs.Cycles.{Two, Turn, acts, idles, wait_bus, IsQuiet, AreQuiet, next, first_bus, second_bus, cycles_of, cycle_of, between}
use Rattle.dvg_calls_cells.specs.Played.{AreGiven, at_rest, older_after, cells_after}
use Rattle.dvg_calls_cells.proofs.Fits.{AllFit, cycle_fits, wait_fits, first_is, served_of}
use Rattle.dvg_calls_cells.proofs.BoardLeftAlone.{made_more, write_both}
use Rattle.dvg_calls_cells.proofs.SeenAccesses.{no_ram}
use Rattle.dvg_calls_cells.proofs.CallOnCells.{on_board}
use Rattle.dvg_game_6502.proofs.Plays.{Brought}
use Rattle.dvg_game_6502.proofs.Stages.{IsAccepted}
use Rattle.dvg_game_board.proofs.OnBoard as bearing
use Rattle.dvg_game_6502.specs.Play
use Rattle.dvg_game_6502.specs.Play.{IsByteWide, fresh}
use Rattle.dvg_game_board.specs.Cabinet.{IsCabinet, nmi, turns}
use Rattle.dvg_game_board.proofs.SharedRam.{Laws}
use Rattle.dvg_game_cells.specs.Keeps.{MayBoot, from_vector}
use Rattle.dvg_game_cells.proofs.InstructionReads.{InRom}
use Rattle.dvg_game_cells.proofs.ReadsBeforeWrites.{where_so}
use Rattle.dvg_game_cells.proofs.CellsTask.{Asked, AreAsked, Doing, calm_in, calms, counted, works, wrote}
use Rattle.dvg_game_cells.proofs.TaskEnds.{Done, Half, settle, settle_boot, split_served, works_in}
use Rattle.dvg_game_cells.proofs.CabinetProcessor.{Known, known}
use Rattle.dvg_game_cells.proofs.Memory.{low_after, ram_after}
use Rattle.dvg_game_cells.proofs.Snoc.{counts, then_at}
use Rattle.dvg_game_cells.proofs.NmiDue.{Timed, Timely, timely}
use Rattle.dvg_game_cells.proofs.CyclesFind.{count_of, made_both, more_cycles, ram_inside}
use Rattle.dvg_game_cells.proofs.Walks.{quiet_half, quietly}

-- each of these reads is at the top of memory
abbrev AreHigh : List Access → Type 0
AreHigh [] = Unit {0}
AreHigh (Reads a byte ∷ list) = (0xFFFA ≤ a) × AreHigh list
AreHigh (Writes a byte ∷ list) = AreHigh list

high_both : (one two : List Access) → AreHigh (one ++ two) → AreHigh one × AreHigh two
high_both [] two h = (tt, h)
high_both (Reads a byte ∷ one) two h = let rest = high_both one two h.1 in ((h.0, rest.0), rest.1)
high_both (Writes a byte ∷ one) two h = high_both one two h

no_of : (l : Bool) → l ≡ true → (l && not (false || false)) ≡ true
no_of true e = refl
no_of false e = absurd (cc)

last_false : (l : Bool) → (l && false) ≡ false
last_false true = refl
last_false false = refl

-- what is there stands outside
high_outside : (b : ℕ) → 0xFFFA ≤ b → is_outside b ≡ true
high_outside b high =
    ap (λ t. nat_le 0x200 b && not (((nat_le 0x4000 b && t) || nat_eq b 0x2002) || (nat_le 0x4800 b && nat_lt b 0x8000)))
    (lt-leb (suc b) 0x4800 (omega (arith, high)))
    ∙ ap (λ t. nat_le 0x200 b && not ((t || nat_eq b 0x2002) || (nat_le 0x4800 b && nat_lt b 0x8000)))
    (last_false (nat_le 0x4000 b))
    ∙ ap (λ t. nat_le 0x200 b && not (t || (nat_le 0x4800 b && nat_lt b 0x8000))) (ne_eqb b 0x2002 (λ e. omega (arith, e, high)))
    ∙ ap (λ t. nat_le 0x200 b && not (false || (nat_le 0x4800 b && t))) (lt-leb (suc b) 0x8000 (omega (arith, high)))
    ∙ ap (λ t. nat_le 0x200 b && not (false || t)) (last_false (nat_le 0x4800 b))
    ∙ no_of (nat_le 0x200 b) (le-leb 0x200 b (omega (arith, high)))

off_high : (a : ℕ) → 0xFFFA ≤ a → a < 65536 → on_board a ≡ 0
off_high a high small =
    ap (λ t. either (either (bit t) (eq a 8194)) (eq a 12288)) (ne_eqb (part 11 5 a) 8 (λ e. omega (arith, e, high, small)))
    ∙ ap (λ t. either (either 0 (bit t)) (eq a 12288)) (ne_eqb a 8194 (λ e. omega (arith, e, high)))
    ∙ ap (λ t. either 0 (bit t)) (ne_eqb a 12288 (λ e. omega (arith, e, high)))

-- a place of the stack is neither of the vector RAM nor the strobe's
low_quiet : (a : ℕ) → a < 0x200 → (is_ram a ≡ false) × (nat_eq a 0x3000 ≡ false)
low_quiet a less = (no_ram a (omega (arith, less)), ne_eqb a 0x3000 (λ e. omega (arith, e, less)))

module _ (cpu : Cpu) (s_in : cpu.s < 256) (ir low high back was : ℕ) where
  abbrev risen : Cells
  risen = in_state 2 cpu ir low high back was 1

  abbrev top : ℕ
  top = cpu.s + 256

  first_low : (is_ram (cpu.s + 256) ≡ false) × (nat_eq (cpu.s + 256) 0x3000 ≡ false)
  first_low = low_quiet (cpu.s + 256) (omega (arith, s_in))

  second_low : (is_ram ((cpu.s + 255) % 256 + 256) ≡ false) × (nat_eq ((cpu.s + 255) % 256 + 256) 0x3000 ≡ false)
  second_low = low_quiet ((cpu.s + 255) % 256 + 256) (omega arith)

  third_low : (is_ram (((cpu.s + 255) % 256 + 255) % 256 + 256) ≡ false)
      × (nat_eq (((cpu.s + 255) % 256 + 255) % 256 + 256) 0x3000 ≡ false)
  third_low = low_quiet (((cpu.s + 255) % 256 + 255) % 256 + 256) (omega arith)

  -- the cycles of an NMI write the stack, and then read at the top
  nmi_accesses : (list : List Cycle) → length list ≤ 5 → AreQuiet (made risen list []) × AreHigh (made risen list [])
  nmi_accesses [] less = (tt, tt)
  nmi_accesses (a ∷ []) less = ((first_low, tt), tt)
  nmi_accesses (a ∷ b ∷ []) less = ((second_low, (first_low, tt)), tt)
  nmi_accesses (a ∷ b ∷ c ∷ []) less = ((third_low, (second_low, (first_low, tt))), tt)
  nmi_accesses (a ∷ b ∷ c ∷ d ∷ []) less = ((third_low, (second_low, (first_low, tt))), (lit≤ tt, tt))
  nmi_accesses (a ∷ b ∷ c ∷ d ∷ e ∷ []) less = ((third_low, (second_low, (first_low, tt))), (lit≤ tt, (lit≤ tt, tt)))
  nmi_accesses (a ∷ b ∷ c ∷ d ∷ e ∷ f ∷ list) less = absurd (omega (arith, less))

  -- none of them reads an opcode
  nmi_amid : (list : List Cycle) → length list < 5 → sync (ends risen list) ≡ 0
  nmi_amid (a ∷ b ∷ c ∷ d ∷ e ∷ list) less = absurd (omega (arith, less))
  nmi_amid _ less = refl

-- those of a reset read there
reset_accesses : (cpu : Cpu) (ir low high back was due : ℕ) (list : List Cycle) → length list ≤ 2
    → AreQuiet (made (in_state 0 cpu ir low high back was due) list []) × AreHigh (made (in_state 0 cpu ir low high back was due) list [])
reset_accesses cpu ir low high back was due [] less = (tt, tt)
reset_accesses cpu ir low high back was due (a ∷ []) less = (tt, (lit≤ tt, tt))
reset_accesses cpu ir low high back was due (a ∷ b ∷ []) less = (tt, (lit≤ tt, (lit≤ tt, tt)))
reset_accesses cpu ir low high back was due (a ∷ b ∷ c ∷ list) less = absurd (omega (arith, less))

reset_amid : (cpu : Cpu) (ir low high back was due : ℕ) (list : List Cycle) → length list < 2
    → sync (ends (in_state 0 cpu ir low high back was due) list) ≡ 0
reset_amid cpu ir low high back was due (a ∷ b ∷ list) less = absurd (omega (arith, less))
reset_amid cpu ir low high back was due _ less = refl

module _ (R image : List ℕ) (held rom : ℕ → ℕ) (start : ℕ) where
  high_answered : (list : List Turn) (older : List Bus) (cells : Cells) (work : ℕ → ℕ) (calm : ℕ) (k : Cpu)
      → AllFit R held older cells → AreGiven R (at_rest held older cells) list
      → AreAsked rom work calm (at_rest held older cells) list
      → ((b : ℕ) → 0xFFFA ≤ b → k.mem b ≡ rom (b - 0x8000))
      → AreHigh (made cells (cycles_of (at_rest held older cells) list) [])
      → AreAnswered k cells (cycles_of (at_rest held older cells) list)
  high_answered [] older cells work calm k f given asked vectors h = tt
  high_answered (idles drive ∷ list) older cells work calm k f given asked vectors h =
      high_answered list (wait_bus (at_rest held older cells) drive ∷ older) cells work calm k
      (wait_fits R held older cells drive f given.0) given.1 asked vectors h
  high_answered (acts two ∷ list) older cells work calm k f given asked vectors h =
      let machine = at_rest held older cells in
      let cycle = cycle_of machine two in
      let later = cycles_of (next machine (acts two)) list in
      let all = high_both (made (clock cells (pins_of cycle)) later []) (access cells cycle.din ∷ [])
      (subst AreHigh (made_more (clock cells (pins_of cycle)) later (access cells cycle.din ∷ [])) h) in (
        by (nat_eq (write cells) 0) refl all.1 asked.0 (first_is R held older cells two f given.0).a,
        high_answered list (second_bus machine two ∷ first_bus machine two ∷ older) (clock cells (pins_of cycle))
            (wrote cells work) (calm_in cells cycle calm) k (cycle_fits R held older cells two f given.0) given.1 asked.1 vectors all.0,
      )
    where
      by : (w : Bool) → nat_eq (write cells) 0 ≡ w
          → AreHigh ((if w then Reads (at cells) (cycle_of (at_rest held older cells) two).din else Writes (at cells) (dout cells)) ∷ [])
          → Asked rom cells work calm two.second.nmi two.second.m → at cells < 65536
          → Where w ((cycle_of (at_rest held older cells) two).din ≡ found (at cells) k)
      by false e high ask small = tt
      by true e high ask small =
          ap (λ o. mux o (q (between (at_rest held older cells) two).board (second_bus (at_rest held older cells) two)) two.second.m)
          (off_high (at cells) high.0 small)
          ∙ where_so (nat_le 0xFFFA (at cells)) (le-leb 0xFFFA (at cells) high.0) (ask.finds (eqb-true (write cells) 0 e)).vectors
          ∙ sym (ap (λ t. if t then k.flags 0 else k.mem (at cells)) (ne_eqb (at cells) 0x2002
          (λ is. let place = high.0 in omega (arith, is, place))) ∙ vectors (at cells) high.0)

  module _ (cpu : Cpu) (older : List Bus) (cells : Cells) (work : ℕ → ℕ) (calm : ℕ) where
    abbrev Does : List Turn → Type 0
    Does list = Doing R image held rom start cpu older cells work calm list

    abbrev cycled : List Turn → List Cycle
    cycled list = cycles_of (at_rest held older cells) list

    abbrev On : Option (Cpu × ℕ) → List Bus → Type 0
    On spot clocks = IsCabinet R image held rom start spot clocks

    -- quiet cycles, wherever a cabinet stands
    pub half_quiet : (spot : Option (Cpu × ℕ)) → On spot older → (list : List Turn) (two : Two) → Does (list ++ acts two ∷ [])
        → AreQuiet (made cells (cycled (list ++ acts two ∷ [])) []) → Half R image held rom start older cells list two
    half_quiet spot on list two doing quiet =
        let then_cells = cells_after held older cells list in
        let din = (cycle_of (then_at R held rom older cells list) two).din in
        let made_is = ap (λ l. made cells l []) (more_cycles R image held rom start two list older cells)
        ∙ made_both (cycled list) (cycle_of (then_at R held rom older cells list) two ∷ []) cells [] in
        let both = write_both IsQuiet (access then_cells din ∷ []) (made cells (cycled list) []) (subst AreQuiet made_is quiet) in
        let served = split_served R image held rom start two list older cells
        (served_of R held (list ++ acts two ∷ []) older cells doing.fits doing.given).0 in (
          spot,
          quiet_half R image held rom start (older_after held older cells list) then_cells two served.1 spot
              (quietly R image held rom start spot list older cells on served.0 both.1) both.0,
        )

    pub all_quiet : (spot : Option (Cpu × ℕ)) → On spot older → (list : List Turn) → Does list
        → AreQuiet (made cells (cycled list) []) → On spot (older_after held older cells list)
    all_quiet spot on list doing quiet = quietly R image held rom start spot list older cells on
        (served_of R held list older cells doing.fits doing.given).0 quiet

    -- what the next task begins with
    pub doing_next : (list : List Turn) → Does list → (new : Cpu) (mem : ℕ → ℕ) → IsTurned cpu.mem mem
        → new.mem ≡ after_writes (made cells (cycled list) []) mem → IsLoaded rom new.mem → IsByteWide new
        → Doing R image held rom start new (older_after held older cells list) (cells_after held older cells list)
        (works cells (cycled list) work) (calms cells (cycled list) calm) []
    doing_next list doing new mem turned is loaded bytes = record {
      is_rom = doing.is_rom;
      fits = (served_of R held list older cells doing.fits doing.given).1;
      shares = record {
        low = λ b less. ap (λ (m : ℕ → ℕ). m b) is
            ∙ low_after R held list older cells work mem doing.fits doing.given
            (λ b less. turned b (low_inside b less) ∙ doing.shares.low b less) b less;
        ram = λ a less. ap (λ (m : ℕ → ℕ). m (0x4000 + a)) is
            ∙ ram_after R held list older cells mem doing.fits doing.given
            (λ a less. turned (0x4000 + a) (ram_inside a less) ∙ doing.shares.ram a less) a less;
        loaded = loaded;
        bytes = bytes;
      };
      work_in = works_in R image held rom start list older cells work doing.fits doing.given doing.work_in;
      rom_in = doing.rom_in;
      given = tt;
      asked = tt;
    }

    -- the ROM's vectors stand at the top, too
    abbrev pub with_vectors : ℕ → ℕ
    with_vectors b = if nat_le 0xFFFA b then rom (b - 0x8000) else cpu.mem b

    pub vectors_turn : IsTurned cpu.mem with_vectors
    vectors_turn b is = by (nat_le 0xFFFA b) refl
      where
        by : (t : Bool) → nat_le 0xFFFA b ≡ t → (if t then rom (b - 0x8000) else cpu.mem b) ≡ cpu.mem b
        by true e = let out = high_outside b (leb-true 0xFFFA b e) in absurd (let x = sym is ∙ out in cc)
        by false e = refl

    pub vectors_in : (byte : (b : ℕ) → cpu.mem b < 256) → ((b : ℕ) → rom b < 256) → (b : ℕ) → with_vectors b < 256
    vectors_in byte rom_in b = by (nat_le 0xFFFA b)
      where
        by : (t : Bool) → (if t then rom (b - 0x8000) else cpu.mem b) < 256
        by true = rom_in (b - 0x8000)
        by false = byte b

    pub vectors_are : (b : ℕ) → 0xFFFA ≤ b → with_vectors b ≡ rom (b - 0x8000)
    vectors_are b high = ap (λ t. if t then rom (b - 0x8000) else cpu.mem b) (le-leb 0xFFFA b high)

    abbrev k : Cpu
    k = fresh (λ n. 0) (changed with_vectors cpu)

    -- where an NMI begins
    abbrev pub entered : Cpu
    entered = Play.interrupted (changed with_vectors cpu)

    holds_k : Holds cells cpu → Holds cells k
    holds_k holds = record {
      a = holds.a;
      x = holds.x;
      y = holds.y;
      s = holds.s;
      pc = holds.pc;
      n = holds.n;
      z = holds.z;
      c = holds.c;
      v = holds.v;
      d = holds.d;
      i = holds.i;
    }

    -- a reset
    module _ (holds : Holds cells cpu) (begin : cells.state ≡ 0) (none : cells.due ≡ 0) where
      reset_so : (list : List Turn) → counted list ≤ 2
          → AreQuiet (made cells (cycled list) []) × AreHigh (made cells (cycled list) [])
      reset_so list less =
          let e = count_of R image held rom start list older cells in
          subst (λ c. AreQuiet (made c (cycled list) []) × AreHigh (made c (cycled list) []))
          (sym (stands_so 0 cells cpu cells.due holds begin refl))
          (reset_accesses cpu cells.ir cells.low cells.high cells.back cells.was cells.due (cycled list) (omega (arith, e, less)))

      pub wakes_amid : (list : List Turn) → counted list < 2 → sync (cells_after held older cells list) ≡ 0
      wakes_amid list less =
          let e = count_of R image held rom start list older cells in
          subst (λ c. sync (ends c (cycled list)) ≡ 0) (sym (stands_so 0 cells cpu cells.due holds begin refl))
          (reset_amid cpu cells.ir cells.low cells.high cells.back cells.was cells.due (cycled list) (omega (arith, e, less)))

      pub wakes_half : (spot : Option (Cpu × ℕ)) → On spot older → (list : List Turn) (two : Two) → counted list < 2
          → Does (list ++ acts two ∷ []) → Half R image held rom start older cells list two
      wakes_half spot on list two less doing =
          let e = counts list two in
          half_quiet spot on list two doing (reset_so (list ++ acts two ∷ []) (omega (arith, e, less))).0

      pub wakes_done : IsAccepted rom start → (spot : Option (Cpu × ℕ)) → MayBoot spot → On spot older
          → (list : List Turn) → counted list ≡ 2 → Does list → Done R image held rom start cpu older cells work calm list
      wakes_done game spot may on list count doing =
          let so = reset_so list (omega (arith, count)) in
          let e = count_of R image held rom start list older cells in
          let g = restarts k cells (cycled list) (holds_k holds) begin (e ∙ count)
          (high_answered list older cells work calm k doing.fits doing.given doing.asked vectors_are so.1) in
          let pc_is : (restarted k).pc ≡ word_at rom reset_vector = refl in
          let loaded : IsLoaded rom (restarted k).mem =
          λ b low high. vectors_turn b (rom_inside b low high) ∙ doing.shares.loaded b low high in
          let old = doing.shares.bytes in
          let bytes : IsByteWide (restarted k) =
          record { a = old.a; x = old.x; y = old.y; s = lit< tt; mem = vectors_in old.mem doing.rom_in } in
          let fine = (both_true (stand_at code rom 0x6800) _ (both_true (accepts_game rom start game.notes) _ game.yes).1).1 in
          settle_boot R image held rom start (restarted k) spot boot_most (older_after held older cells list)
          (cells_after held older cells list) (works cells (cycled list) work) (calms cells (cycled list) calm)
          (all_quiet spot on list doing so.0) g.rests (inl fine)
          (from_vector (restarted k) may loaded pc_is bytes)
          (doing_next list doing (restarted k) with_vectors vectors_turn (sym (ap (λ l. after_writes l with_vectors) g.bus)) loaded bytes)
          (λ due. close due ((timely R held rom list older cells work calm doing.fits doing.given doing.asked).timed none))
        where
          close : (cells_after held older cells list).due ≡ 1
              → Timed R held rom (counted list) calm (calms cells (cycled list) calm) (cells_after held older cells list).due
              → calms cells (cycled list) calm ≤ 6
          close due (inl is) = absurd (omega (arith, due, is))
          close due (inr rose) = let long = rose.1 in omega (arith, long, count)

    -- an NMI
    module _ (in_rom : InRom cpu) (bytes : IsByteWide cpu) (rests : Rests cells cpu) (due : cells.due ≡ 1) (close : calm ≤ 6) where
      nmi_so : (list : List Turn) → counted list ≤ 5
          → AreQuiet (made cells (cycled list) []) × AreHigh (made cells (cycled list) [])
      nmi_so list less =
          let e = count_of R image held rom start list older cells in
          subst (λ c. AreQuiet (made c (cycled list) []) × AreHigh (made c (cycled list) []))
          (sym (stands_so 2 cells cpu 1 rests.holds rests.fetches due))
          (nmi_accesses cpu bytes.s cells.ir cells.low cells.high cells.back cells.was (cycled list) (omega (arith, e, less)))

      -- no opcode is read
      pub nmi_unread : (list : List Turn) → counted list < 5 → sync (cells_after held older cells list) ≡ 0
      nmi_unread list less =
          let e = count_of R image held rom start list older cells in
          subst (λ c. sync (ends c (cycled list)) ≡ 0) (sym (stands_so 2 cells cpu 1 rests.holds rests.fetches due))
          (nmi_amid cpu bytes.s cells.ir cells.low cells.high cells.back cells.was (cycled list) (omega (arith, e, less)))

      pub nmi_half : (spot : Option (Cpu × ℕ)) → On spot older → (list : List Turn) (two : Two) → counted list < 5
          → Does (list ++ acts two ∷ []) → Half R image held rom start older cells list two
      nmi_half spot on list two less doing =
          let e = counts list two in
          half_quiet spot on list two doing (nmi_so (list ++ acts two ∷ []) (omega (arith, e, less))).0

      plain : (b : ℕ) → 0x4800 ≤ b → found b k ≡ with_vectors b
      plain b low = ap (λ t. if t then 0 else with_vectors b) (ne_eqb b 0x2002 (λ e. omega (arith, e, low)))

      sound : (rom_in : (b : ℕ) → rom b < 256) → IsSound k
      sound rom_in = let low = in_rom.low in let high = in_rom.high in record {
        a = bytes.a;
        x = bytes.x;
        y = bytes.y;
        s = bytes.s;
        pc = omega (arith, high);
        bytes = vectors_in bytes.mem rom_in;
        flags = lit< tt;
        here = plain cpu.pc low;
        first = plain (cpu.pc + 1) (omega (arith, low));
        second = plain (cpu.pc + 2) (omega (arith, low));
      }

      vector : IsLoaded rom cpu.mem → rom 0x7FFA + 256 * rom 0x7FFB ≡ cpu.mem 0x7FFA + 256 * cpu.mem 0x7FFB
      vector loaded = ap (λ b. b + 256 * rom 0x7FFB) (sym (loaded 0x7FFA (lit≤ tt) (lit< tt)))
          ∙ ap (λ b. cpu.mem 0x7FFA + 256 * b) (sym (loaded 0x7FFB (lit≤ tt) (lit< tt)))

      -- another one doesn't rise meanwhile
      none_rises : (list : List Turn) (older : List Bus) → AllFit R held older cells → AreGiven R (at_rest held older cells) list
          → AreAsked rom work calm (at_rest held older cells) list → counted list ≡ 5
          → ((cells_after held older cells list).due ≡ 0) × (calms cells (cycles_of (at_rest held older cells) list) calm ≤ 11)
      none_rises [] older f given asked count = absurd (omega (arith, count))
      none_rises (idles drive ∷ list) older f given asked count =
          none_rises list (wait_bus (at_rest held older cells) drive ∷ older) (wait_fits R held older cells drive f given.0) given.1
          asked count
      none_rises (acts two ∷ list) older f given asked count =
          by (nat_eq (cycle_of (at_rest held older cells) two).nmi 1 && nat_eq cells.was 0) refl
        where
          rest : Timely R held rom (counted list) (calm_in cells (cycle_of (at_rest held older cells) two) calm) (calms cells (cycles_of (at_rest held older cells) (acts two ∷ list)) calm) (clock cells (pins_of (cycle_of (at_rest held older cells) two))).due (cells_after held older cells (acts two ∷ list)).due
          rest = timely R held rom list
              (second_bus (at_rest held older cells) two ∷ first_bus (at_rest held older cells) two ∷ older)
              (clock cells (pins_of (cycle_of (at_rest held older cells) two))) (wrote cells work) (calm_in cells (cycle_of (at_rest held older cells) two) calm)
              (cycle_fits R held older cells two f given.0) given.1 asked.1

          four : counted list ≡ 4
          four = omega (arith, count)

          by : (t : Bool) → (nat_eq (cycle_of (at_rest held older cells) two).nmi 1 && nat_eq cells.was 0) ≡ t → ((cells_after held older cells (acts two ∷ list)).due ≡ 0) × ((calms cells (cycles_of (at_rest held older cells) (acts two ∷ list)) calm) ≤ 11)
          by true e = absurd (let long = asked.0.apart e in omega (arith, long, close))
          by false e =
              let now : calm_in cells (cycle_of (at_rest held older cells) two) calm ≡ suc calm = ap (λ t. if t then 0 else suc calm) e in
              let none : (clock cells (pins_of (cycle_of (at_rest held older cells) two))).due ≡ 0 =
              (hears cells (cycle_of (at_rest held older cells) two) f.of_cells.was f.of_cells.due given.0.nmi).1
              ∙ ap (λ t. if t then 1 else if nat_eq cells.state 2 then 0 else cells.due) e
              ∙ ap (λ n. if nat_eq n 2 then 0 else cells.due) rests.fetches in
              let bound = rest.bound in
              let long = four in
              (only now (rest.timed none), omega (arith, bound, now, long, close))
            where
              only : calm_in cells (cycle_of (at_rest held older cells) two) calm ≡ suc calm → Timed R held rom (counted list) (calm_in cells (cycle_of (at_rest held older cells) two) calm) (calms cells (cycles_of (at_rest held older cells) (acts two ∷ list)) calm) (cells_after held older cells (acts two ∷ list)).due
                  → (cells_after held older cells (acts two ∷ list)).due ≡ 0
              only now (inl is) = is
              only now (inr rose) = let a = rose.0 in let long = four in absurd (omega (arith, a, now, long, close))

      pub nmi_time : (list : List Turn) → counted list ≡ 5 → Does list → ((cells_after held older cells list).due ≡ 0)
          × (calms cells (cycled list) calm ≤ 11)
      nmi_time list count doing = none_rises list older doing.fits doing.given doing.asked count

      -- all of it
      pub nmi_done : (list : List Turn) → counted list ≡ 5 → Does list → Rests (cells_after held older cells list) entered
          × (entered.mem ≡ after_writes (made cells (cycled list) []) with_vectors) × AreQuiet (made cells (cycled list) [])
      nmi_done list count doing =
          let so = nmi_so list (omega (arith, count)) in
          let e = count_of R image held rom start list older cells in
          let g = interrupts k cells (cycled list) (sound doing.rom_in) (record { holds = holds_k rests.holds; fetches = rests.fetches }) due (e ∙ count)
          (high_answered list older cells work calm k doing.fits doing.given doing.asked vectors_are so.1) in (
            record {
              holds = record {
                a = g.rests.holds.a;
                x = g.rests.holds.x;
                y = g.rests.holds.y;
                s = g.rests.holds.s;
                pc = g.rests.holds.pc ∙ vector doing.shares.loaded;
                n = g.rests.holds.n;
                z = g.rests.holds.z;
                c = g.rests.holds.c;
                v = g.rests.holds.v;
                d = g.rests.holds.d;
                i = g.rests.holds.i;
              };
              fetches = g.rests.fetches;
            },
            g.memory ∙ sym (ap (λ l. after_writes l with_vectors) g.bus),
            so.0,
          )

    -- and one of a game
    module _ (laws : Laws) (game : IsAccepted rom start) (brought : Brought R (bearing.on_board laws R image held) rom start)
        (since : ℕ) (on : On (Some (cpu, since)) older) (rests : Rests cells cpu) (due : cells.due ≡ 1) (late : 860 ≤ since)
        (close : calm ≤ 6) where
      it : Known rom cpu
      it = known laws R image held rom start game brought cpu since older on

      pub hears_amid : (list : List Turn) → counted list < 5 → sync (cells_after held older cells list) ≡ 0
      hears_amid = nmi_unread it.in_rom it.bytes rests due close

      pub hears_half : (list : List Turn) (two : Two) → counted list < 5
          → Does (list ++ acts two ∷ []) → Half R image held rom start older cells list two
      hears_half = nmi_half it.in_rom it.bytes rests due close (Some (cpu, since)) on

      pub hears_done : (list : List Turn) → counted list ≡ 5 → Does list
          → Done R image held rom start cpu older cells work calm list
      hears_done list count doing =
          let g = nmi_done it.in_rom it.bytes rests due close list count doing in
          let on_turned = turns with_vectors on (vectors_in it.bytes.mem doing.rom_in) vectors_turn in
          let on_new = nmi (all_quiet (Some (changed with_vectors cpu, since)) on_turned list doing g.2) late in
          let it_then = known laws R image held rom start game brought entered 0 (older_after held older cells list) on_new in
          let time = nmi_time it.in_rom it.bytes rests due close list count doing in
          settle R image held rom start entered 0 (older_after held older cells list) (cells_after held older cells list)
          (works cells (cycled list) work) (calms cells (cycled list) calm) on_new g.0
          (doing_next list doing entered with_vectors vectors_turn g.1 it_then.loaded it_then.bytes)
          (λ none. let bound = time.1 in inr (omega (arith, bound)))
          (λ some. let none = time.0 in absurd (omega (arith, some, none)))
