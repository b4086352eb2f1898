-- The cycles of an instruction find what the definition's processor has in memory, once what stands outside has turned.
use Rattle.std.proofs.Common.{◌≡◌, ℕ, zero, suc, ◌+◌, ◌-◌, ◌/◌, ◌<◌, ◌≤◌, Bool, true, false, not, List, [], ◌∷◌, ◌++◌, length, refl, sym, ap, ◌∙◌}
use Rattle.std.proofs.Common.{subst, arith, inl, inr, append_assoc, append-nil, eqb-true, eq-eqb, leb-true, le-leb}
use Rattle.std.specs.Prelude.{◌⊎◌, nat_eq, nat_le, nat_lt, ◌&&◌, ◌||◌, if◌then◌else◌}
use Rattle.std.proofs.lemmas.Bool.{ne_eqb, cases_lt, or_left}
use Rattle.std.proofs.lemmas.Bool.Decides.{eqb_tells}
use Rattle.dvg_calls_6502.specs.Processor.{Cpu, Access, Reads, Writes, found, does, decoded, opcodes, put}
use Rattle.dvg_calls_6502.specs.Amid.{changed}
use Rattle.dvg_calls_6502.specs.Board.{is_ram, is_readable}
use Rattle.dvg_cells_core.specs.Cells.{mux}
use Rattle.dvg_cells_board.specs.Board.{Bus, q}
use Rattle.dvg_cells_board.specs.Clocks.{after}
use Rattle.dvg_cells_cpu.specs.Cpu.{Cpu as Cells, at, write, dout, clock, sync}
use Rattle.dvg_cells_cpu.specs.Refines.{Cycle, pins_of, access, made, AreAnswered, Where, ends, Rests, CellsDo, IsSound, cycles}
use Rattle.dvg_cells_cpu.specs.Refines.{AreAmid, ShowsOpcode, fetched}
use Rattle.dvg_cells_cpu.proofs.EachOpcode.{refines}
use Rattle.dvg_cells_cpu.proofs.Bounds.{mux_in}
use Rattle.dvg_game_rules.specs.Machine.{is_outside, IsTurned}
use Rattle.dvg_game_rules.proofs.Facts.{both_true}
use Rattle.dvg_game_rules.proofs.Memory.{between as in_page}
use Rattle.dvg_game_rules.proofs.OutsideTurns.{low_inside, readable_inside, rom_inside}
use Rattle.dvg_calls_cells.specs.Cycles.{Drive, Two, Turn, acts, idles, wait_bus, first_bus, second_bus, cycles_of, cycle_of, between}
use Rattle.dvg_calls_cells.specs.Steps.{instr_of}
use Rattle.dvg_calls_cells.specs.Played.{AreGiven, IsGiven, at_rest, older_after, cells_after, in_board}
use Rattle.dvg_calls_cells.proofs.Fits.{AllFit, board_fits, served_of, first_is, q_in}
use Rattle.dvg_calls_cells.proofs.RamReads.{answered_of}
use Rattle.dvg_calls_cells.proofs.BoardLeftAlone.{made_more}
use Rattle.dvg_calls_cells.proofs.CallOnCells.{on_board}
use Rattle.dvg_calls_board.proofs.Ram.{in_ram as ram_place}
use Rattle.dvg_game_6502.specs.Play.{IsByteWide, fresh}
use Rattle.dvg_game_cells.proofs.InstructionReads.{AreFine, AreTame, InRom, IsTame, fine, fine_end, is_direct}
use Rattle.dvg_game_cells.proofs.ReadsBeforeWrites.{off_board, tame_answered, tame_byte, tame_writes, where_so}
use Rattle.dvg_game_cells.proofs.CellsTask.{Asked, AreAsked, Doing, calm_in, calms, counted, works, wrote}
use Rattle.dvg_game_cells.proofs.CpuOfAnyCells.{choose}
use Rattle.dvg_game_cells.proofs.Memory.{low_after, ram_after}
use Rattle.dvg_game_cells.proofs.Snoc.{then_at}

-- behind cycles of which all but the first read no opcode, and none does that is still to come
amid_cycles : (list : List Cycle) (cells : Cells) (cycle : Cycle) (later : List Cycle) → AreAmid cells (list ++ cycle ∷ later)
    → sync (ends cells list) ≡ 0
amid_cycles [] cells cycle later are = are.0
amid_cycles (x ∷ list) cells cycle later are = amid_cycles list (clock cells (pins_of x)) cycle later are.1

behind_first : (list : List Cycle) → 0 < length list → (cells : Cells) (cycle : Cycle) (later : List Cycle)
    → ShowsOpcode cells (list ++ cycle ∷ later) → sync (ends cells list) ≡ 0
behind_first [] some cells cycle later shows = absurd (omega (arith, some))
behind_first (x ∷ list) some cells cycle later shows = amid_cycles list (clock cells (pins_of x)) cycle later shows.1

-- cycles in which memory answers as this processor has it
abbrev pub answers : ℕ → Cells → Cpu → List Cycle
answers zero cells k = []
answers (suc n) cells k =
    let cycle : Cycle = record { nmi = 0; din = found (at cells) k } in cycle ∷ answers n (clock cells (pins_of cycle)) k

answers_count : (n : ℕ) (cells : Cells) (k : Cpu) → length (answers n cells k) ≡ n
answers_count zero cells k = refl
answers_count (suc n) cells k = ap suc (answers_count n (clock cells (pins_of (record { nmi = 0; din = found (at cells) k }))) k)

where_is : {P : Type 0} (t : Bool) → P → Where t P
where_is true p = p
where_is false p = tt

answers_so : (n : ℕ) (cells : Cells) (k : Cpu) → AreAnswered k cells (answers n cells k)
answers_so zero cells k = tt
answers_so (suc n) cells k = (
  where_is (nat_eq (write cells) 0) refl,
  answers_so n (clock cells (pins_of (record { nmi = 0; din = found (at cells) k }))) k,
)

-- lists of cycles, one after the other
pub answered_both : (k : Cpu) (one two : List Cycle) (cells : Cells) → AreAnswered k cells one → AreAnswered k (ends cells one) two
    → AreAnswered k cells (one ++ two)
answered_both k [] two cells a b = b
answered_both k (cycle ∷ one) two cells a b = (a.0, answered_both k one two (clock cells (pins_of cycle)) a.1 b)

pub made_both : (one two : List Cycle) (cells : Cells) (log : List Access)
    → made cells (one ++ two) log ≡ made (ends cells one) two (made cells one log)
made_both [] two cells log = refl
made_both (cycle ∷ one) two cells log = made_both one two (clock cells (pins_of cycle)) (access cells cycle.din ∷ log)

pub counted_both : (one two : List Turn) → counted (one ++ two) ≡ counted one + counted two
counted_both [] two = omega arith
counted_both (acts x ∷ one) two = let e = counted_both one two in omega (arith, e)
counted_both (idles drive ∷ one) two = counted_both one two

pub length_both : {A : Type 0} (one two : List A) → length (one ++ two) ≡ length one + length two
length_both [] two = omega arith
length_both (x ∷ one) two = let e = length_both one two in omega (arith, e)

-- what doesn't stand outside
pub ram_inside : (a : ℕ) → a < 2048 → is_outside (0x4000 + a) ≡ false
ram_inside a less = readable_inside (0x4000 + a) (or_left (is_ram (0x4000 + a)) _ (ram_place a less))

module _ (R image : List ℕ) (held rom : ℕ → ℕ) (start : ℕ) where
  abbrev onward : List Bus → Cells → Two → List Bus
  onward older cells x = second_bus (at_rest held older cells) x ∷ first_bus (at_rest held older cells) x ∷ older

  abbrev waited : List Bus → Cells → Drive → List Bus
  waited older cells drive = wait_bus (at_rest held older cells) drive ∷ older

  abbrev moved : List Bus → Cells → Two → Cells
  moved older cells x = clock cells (pins_of (cycle_of (at_rest held older cells) x))

  pub count_of : (list : List Turn) (older : List Bus) (cells : Cells)
      → length (cycles_of (at_rest held older cells) list) ≡ counted list
  count_of [] older cells = refl
  count_of (acts x ∷ list) older cells = ap suc (count_of list (onward older cells x) (moved older cells x))
  count_of (idles drive ∷ list) older cells = count_of list (waited older cells drive) cells

  -- none is a cycle
  pub no_cycles : (list : List Turn) (older : List Bus) (cells : Cells) → counted list ≡ 0
      → cycles_of (at_rest held older cells) list ≡ []
  no_cycles [] older cells none = refl
  no_cycles (acts x ∷ list) older cells none = absurd (omega (arith, none))
  no_cycles (idles drive ∷ list) older cells none = no_cycles list (waited older cells drive) cells none

  -- no cycle more
  pub idle_cycles : (drive : Drive) (list : List Turn) (older : List Bus) (cells : Cells)
      → cycles_of (at_rest held older cells) (list ++ idles drive ∷ []) ≡ cycles_of (at_rest held older cells) list
  idle_cycles drive [] older cells = refl
  idle_cycles drive (acts x ∷ list) older cells =
      ap (λ l. cycle_of (at_rest held older cells) x ∷ l) (idle_cycles drive list (onward older cells x) (moved older cells x))
  idle_cycles drive (idles x ∷ list) older cells = idle_cycles drive list (waited older cells x) cells

  module _ (two : Two) where
    pub more_cycles : (list : List Turn) (older : List Bus) (cells : Cells)
        → cycles_of (at_rest held older cells) (list ++ acts two ∷ [])
        ≡ cycles_of (at_rest held older cells) list ++ cycle_of (then_at R held rom older cells list) two ∷ []
    more_cycles [] older cells = refl
    more_cycles (idles drive ∷ list) older cells = more_cycles list (waited older cells drive) cells
    more_cycles (acts x ∷ list) older cells =
        ap (λ l. cycle_of (at_rest held older cells) x ∷ l) (more_cycles list (onward older cells x) (moved older cells x))

    pub split_given : (list : List Turn) (older : List Bus) (cells : Cells) → AreGiven R (at_rest held older cells) (list ++ acts two ∷ [])
        → AreGiven R (at_rest held older cells) list × IsGiven R (then_at R held rom older cells list) two
    split_given [] older cells given = (tt, given.0)
    split_given (idles drive ∷ list) older cells given =
        let rest = split_given list (waited older cells drive) cells given.1 in ((given.0, rest.0), rest.1)
    split_given (acts x ∷ list) older cells given =
        let rest = split_given list (onward older cells x) (moved older cells x) given.1 in ((given.0, rest.0), rest.1)

    pub split_asked : (list : List Turn) (older : List Bus) (cells : Cells) (work : ℕ → ℕ) (calm : ℕ)
        → AreAsked rom work calm (at_rest held older cells) (list ++ acts two ∷ [])
        → AreAsked rom work calm (at_rest held older cells) list
        × Asked rom (cells_after held older cells list) (works cells (cycles_of (at_rest held older cells) list) work)
        (calms cells (cycles_of (at_rest held older cells) list) calm) two.second.nmi two.second.m
    split_asked [] older cells work calm asked = (tt, asked.0)
    split_asked (idles drive ∷ list) older cells work calm asked = split_asked list (waited older cells drive) cells work calm asked
    split_asked (acts x ∷ list) older cells work calm asked =
        let rest = split_asked list (onward older cells x) (moved older cells x) (wrote cells work)
        (calm_in cells (cycle_of (at_rest held older cells) x) calm) asked.1 in ((asked.0, rest.0), rest.1)

  module _ (cpu : Cpu) (older : List Bus) (cells : Cells) (work : ℕ → ℕ) (calm : ℕ) where
    abbrev pub Does : List Turn → Type 0
    Does list = Doing R image held rom start cpu older cells work calm list

    abbrev cycled : List Turn → List Cycle
    cycled list = cycles_of (at_rest held older cells) list

    -- the newest read, where nothing was written before: if it isn't of what stands outside, it finds what memory has
    module _ (list : List Turn) (two : Two) (doing : Does (list ++ acts two ∷ [])) (tame : AreTame (made cells (cycled list) []))
        (reading : nat_eq (write (cells_after held older cells list)) 0 ≡ true) where
      abbrev then_older : List Bus
      then_older = older_after held older cells list

      abbrev then_cells : Cells
      then_cells = cells_after held older cells list

      abbrev place : ℕ
      place = at then_cells

      abbrev din : ℕ
      din = (cycle_of (then_at R held rom older cells list) two).din

      given : AreGiven R (at_rest held older cells) list × IsGiven R (then_at R held rom older cells list) two
      given = split_given two list older cells doing.given

      asked : Asked rom then_cells (works cells (cycled list) work) (calms cells (cycled list) calm) two.second.nmi two.second.m
      asked = (split_asked two list older cells work calm doing.asked).1

      fitted : AllFit R held then_older then_cells
      fitted = (served_of R held list older cells doing.fits given.0).1

      lows : (b : ℕ) → b < 0x200 → cpu.mem b ≡ works cells (cycled list) work b
      lows b less = sym (ap (λ (m : ℕ → ℕ). m b) (tame_writes (made cells (cycled list) []) cpu.mem tame))
          ∙ low_after R held list older cells work cpu.mem doing.fits given.0 doing.shares.low b less

      rams : (a : ℕ) → a < 2048 → (after held then_older).ram a ≡ cpu.mem (0x4000 + a)
      rams a less = sym (ram_after R held list older cells cpu.mem doing.fits given.0 doing.shares.ram a less)
          ∙ ap (λ (m : ℕ → ℕ). m (0x4000 + a)) (tame_writes (made cells (cycled list) []) cpu.mem tame)

      in_tame : IsTame place → din ≡ cpu.mem place
      in_tame t = ap (λ o. mux o (q (between (then_at R held rom older cells list) two).board
          (second_bus (then_at R held rom older cells list) two)) two.second.m) (off_board place t)
          ∙ tame_byte rom (works cells (cycled list) work) place two.second.m cpu.mem
          (asked.finds (eqb-true (write then_cells) 0 reading)) t lows doing.shares.loaded

      in_ram : is_ram place ≡ true → nat_eq place 0x2002 ≡ false → din ≡ cpu.mem place
      in_ram is other =
          let page = in_page 0x4000 0x4800 place is in
          let low = page.0 in
          let high = page.1 in
          let there : in_board place ≡ true = eq-eqb (place / 0x800) 8 (omega (arith, low, high)) in
          let asks = where_is (nat_eq (write then_cells) 0) (subst (λ t. Where (not t) (din ≡ found place cpu)) (sym there) tt) in
          let answered = answered_of R held cpu (acts two ∷ []) then_older then_cells true fitted (given.1, tt) (λ e. rams) (asks, tt) in
          where_so (nat_eq (write then_cells) 0) reading answered.0
          ∙ ap (λ t. if t then cpu.flags 0 else cpu.mem place) other

      pub finds_so : is_outside place ≡ false → nat_eq place 0x2002 ≡ false → din ≡ cpu.mem place
      finds_so is other = by_low (cases_lt place 0x200)
        where
          by_code : is_ram place ≡ false → 0x200 ≤ place → (t : Bool) → (nat_le 0x4800 place && nat_lt place 0x8000) ≡ t
              → din ≡ cpu.mem place
          by_code beside high true e = let two = both_true (nat_le 0x4800 place) (nat_lt place 0x8000) e in
              in_tame (inr (leb-true 0x4800 place two.0, leb-true (suc place) 0x8000 two.1))
          by_code beside high false e =
              let out : is_outside place ≡ true = ap (λ t. t && not (is_readable place || (nat_le 0x4800 place && nat_lt place 0x8000)))
              (le-leb 0x200 place high)
              ∙ ap (λ t. not ((t || nat_eq place 0x2002) || (nat_le 0x4800 place && nat_lt place 0x8000))) beside
              ∙ ap (λ t. not (t || (nat_le 0x4800 place && nat_lt place 0x8000))) other
              ∙ ap not e in
              absurd (let x = sym is ∙ out in cc)

          by_ram : 0x200 ≤ place → (t : Bool) → is_ram place ≡ t → din ≡ cpu.mem place
          by_ram high true e = in_ram e other
          by_ram high false e = by_code e high (nat_le 0x4800 place && nat_lt place 0x8000) refl

          by_low : (place < 0x200) ⊎ (0x200 ≤ place) → din ≡ cpu.mem place
          by_low (inl low) = in_tame (inl low)
          by_low (inr high) = by_ram high (is_ram place) refl

      din_in : din < 256
      din_in = mux_in (on_board place) (q (between (then_at R held rom older cells list) two).board
          (second_bus (then_at R held rom older cells list) two)) two.second.m 256
          (q_in (after held (first_bus (then_at R held rom older cells list) two ∷ then_older))
          (second_bus (then_at R held rom older cells list) two)
          (board_fits (after held then_older) (first_bus (then_at R held rom older cells list) two) fitted.of_board
          (first_is R held then_older then_cells two fitted given.1).d)) given.1.m

      -- all that stands outside may have turned
      abbrev turned_mem : ℕ → ℕ
      turned_mem b = if nat_eq place 0x2002 then cpu.mem b else put place din cpu.mem b

      turned_so : (f : Bool) → nat_eq place 0x2002 ≡ f → (b : ℕ) → is_outside b ≡ false
          → (if f then cpu.mem b else put place din cpu.mem b) ≡ cpu.mem b
      turned_so true e b is = refl
      turned_so false e b is = elim (eqb_tells b place) [
        | inl t ↦
            let same = t.1 in
            ap (λ t. if t then din else cpu.mem b) t.0
            ∙ finds_so (subst (λ k. is_outside k ≡ false) same is) e ∙ sym (ap cpu.mem same)
        | inr t ↦ ap (λ t. if t then din else cpu.mem b) t.0
      ]

      turned_in : (f : Bool) (b : ℕ) → (if f then cpu.mem b else put place din cpu.mem b) < 256
      turned_in true b = doing.shares.bytes.mem b
      turned_in false b = choose (nat_eq b place) din (cpu.mem b) din_in (doing.shares.bytes.mem b)

      found_so : (f : Bool) → din ≡ (if f then din else (if f then cpu.mem place else put place din cpu.mem place))
      found_so true = refl
      found_so false = sym (ap (λ t. if t then din else cpu.mem place) (eq-eqb place place refl))

      abbrev turned_cpu : Cpu
      turned_cpu = fresh (λ n. din) (changed turned_mem cpu)

      all_answered : AreAnswered turned_cpu cells (cycled (list ++ acts two ∷ []))
      all_answered = subst (λ l. AreAnswered turned_cpu cells l) (sym (more_cycles two list older cells))
          (answered_both turned_cpu (cycled list) (cycle_of (then_at R held rom older cells list) two ∷ []) cells
          (tame_answered R held rom list older cells work calm turned_cpu doing.fits given.0
          (split_asked two list older cells work calm doing.asked).0
          (λ b less. turned_so (nat_eq place 0x2002) refl b (low_inside b less) ∙ doing.shares.low b less)
          (λ b low high. turned_so (nat_eq place 0x2002) refl b (rom_inside b low high) ∙ doing.shares.loaded b low high) tame)
          (where_is (nat_eq (write then_cells) 0) (found_so (nat_eq place 0x2002)), tt))

    -- with this memory and this flag the reads so far find what the processor has
    pub record Claim (list : List Turn) : Type 0 where
      pub mem : ℕ → ℕ
      pub flags : ℕ → ℕ
      pub turned : IsTurned cpu.mem mem
      pub bytes : (b : ℕ) → mem b < 256
      pub small : flags 0 < 256
      pub answered : AreAnswered (fresh flags (changed mem cpu)) cells (cycled list)

    module _ (rests : Rests cells cpu) (free : cells.due ≡ 0) (in_rom : InRom cpu) (bytes : IsByteWide cpu)
        (direct : is_direct (instr_of cpu) ≡ true) where
      module _ (list : List Turn) (claim : Claim list) where
        abbrev pub as_turned : Cpu
        as_turned = fresh claim.flags (changed claim.mem cpu)

        pub same_instr : instr_of as_turned ≡ instr_of cpu
        same_instr = let high = in_rom.high in
            ap (decoded opcodes) (claim.turned cpu.pc (rom_inside cpu.pc in_rom.low (omega (arith, high))))

        plain : (b : ℕ) → 0x4800 ≤ b → found b as_turned ≡ claim.mem b
        plain b low = ap (λ t. if t then claim.flags 0 else claim.mem b) (ne_eqb b 0x2002 (λ e. omega (arith, e, low)))

        sound : IsSound as_turned
        sound = let low = in_rom.low in let high = in_rom.high in record {
          a = bytes.a;
          x = bytes.x;
          y = bytes.y;
          s = bytes.s;
          pc = omega (arith, high);
          bytes = claim.bytes;
          flags = claim.small;
          here = plain cpu.pc low;
          first = plain (cpu.pc + 1) (omega (arith, low));
          second = plain (cpu.pc + 2) (omega (arith, low));
        }

        pub rests_so : Rests cells as_turned
        rests_so = record {
          holds = record {
            a = rests.holds.a;
            x = rests.holds.x;
            y = rests.holds.y;
            s = rests.holds.s;
            pc = rests.holds.pc;
            n = rests.holds.n;
            z = rests.holds.z;
            c = rests.holds.c;
            v = rests.holds.v;
            d = rests.holds.d;
            i = rests.holds.i;
          };
          fetches = rests.fetches;
        }

        abbrev pub whole : ℕ → List Cycle
        whole n = cycled list ++ answers n (cells_after held older cells list) as_turned

        -- these cycles and others are the instruction
        pub went : (n : ℕ) → counted list + n ≡ cycles (instr_of cpu) → CellsDo (instr_of as_turned) as_turned cells (whole n)
        went n count =
            let then_cells = cells_after held older cells list in
            let e1 = length_both (cycled list) (answers n then_cells as_turned) in
            let e2 = count_of list older cells in
            let e3 = answers_count n then_cells as_turned in
            let e4 = ap cycles same_instr in
            refines as_turned cells (whole n) sound rests_so free (omega (arith, e1, e2, e3, e4, count))
            (answered_both as_turned (cycled list) (answers n then_cells as_turned) cells claim.answered
            (answers_so n then_cells as_turned))

        pub log_is : (n : ℕ) (g : CellsDo (instr_of as_turned) as_turned cells (whole n))
            → (does (instr_of as_turned) as_turned).log ≡ g.news
        log_is n g = g.log ∙ append-nil g.news

        -- and all that they access is fine
        pub fine_so : (n : ℕ) → CellsDo (instr_of as_turned) as_turned cells (whole n) → AreFine (made cells (whole n) [])
        fine_so n g =
            let mine : InRom as_turned = record { low = in_rom.low; high = in_rom.high; bytes = claim.bytes } in
            subst AreFine (sym g.bus)
            (subst (λ l. AreFine (l ++ fetched (instr_of as_turned) as_turned)) (log_is n g)
            (fine as_turned mine (instr_of as_turned) (ap is_direct same_instr ∙ direct) refl))

        -- amid them no opcode is read
        pub amid_so : (n : ℕ) → CellsDo (instr_of as_turned) as_turned cells (whole (suc n)) → 0 < counted list
            → sync (cells_after held older cells list) ≡ 0
        amid_so n g some =
            let then_cells = cells_after held older cells list in
            let cycle : Cycle = record { nmi = 0; din = found (at then_cells) as_turned } in
            let e = count_of list older cells in
            behind_first (cycled list) (omega (arith, e, some)) cells cycle (answers n (clock then_cells (pins_of cycle)) as_turned)
            g.opcode

        -- what they make, up to the next access
        pub made_next : (n : ℕ) → (more : List Access)
            × (made cells (whole (suc n)) [] ≡ more ++ (access (cells_after held older cells list)
            (found (at (cells_after held older cells list)) as_turned) ∷ made cells (cycled list) []))
        made_next n =
            let then_cells = cells_after held older cells list in
            let cycle : Cycle = record { nmi = 0; din = found (at then_cells) as_turned } in
            let last = clock then_cells (pins_of cycle) in (
              made last (answers n last as_turned) [],
              made_both (cycled list) (answers (suc n) then_cells as_turned) cells []
                  ∙ made_more last (answers n last as_turned) (access then_cells cycle.din ∷ made cells (cycled list) []),
            )

      pub claim_more : (list : List Turn) (two : Two) → Claim list → Does (list ++ acts two ∷ [])
          → counted list < cycles (instr_of cpu) → Claim (list ++ acts two ∷ [])
      claim_more list two claim doing less =
          let n = cycles (instr_of cpu) - suc (counted list) in
          let g = went list claim (suc n) (omega (arith, less)) in
          let next = made_next list claim n in
          by (nat_eq (write then_cells) 0) refl
          (fine_end next.0 (access then_cells (found (at then_cells) (as_turned list claim)) ∷ made cells (cycled list) [])
          (subst AreFine next.1 (fine_so list claim (suc n) g)))
        where
          then_cells : Cells
          then_cells = cells_after held older cells list

          by : (w : Bool) → nat_eq (write (cells_after held older cells list)) 0 ≡ w
              → AreFine ((if w then Reads (at (cells_after held older cells list))
              (found (at (cells_after held older cells list)) (as_turned list claim))
              else Writes (at (cells_after held older cells list)) (dout (cells_after held older cells list)))
              ∷ made cells (cycled list) []) → Claim (list ++ acts two ∷ [])
          by true reading tame = record {
            mem = turned_mem list two doing tame reading;
            flags = λ n. din list two doing tame reading;
            turned = turned_so list two doing tame reading
                (nat_eq (place list two doing tame reading) 0x2002) refl;
            bytes = turned_in list two doing tame reading (nat_eq (place list two doing tame reading) 0x2002);
            small = din_in list two doing tame reading;
            answered = all_answered list two doing tame reading;
          }
          by false writing fine = record {
            mem = claim.mem;
            flags = claim.flags;
            turned = claim.turned;
            bytes = claim.bytes;
            small = claim.small;
            answered = subst (λ l. AreAnswered (as_turned list claim) cells l) (sym (more_cycles two list older cells))
                (answered_both (as_turned list claim) (cycled list)
                (cycle_of (then_at R held rom older cells list) two ∷ []) cells claim.answered (
                  subst (λ w. Where w ((cycle_of (then_at R held rom older cells list) two).din
                      ≡ found (at (cells_after held older cells list)) (as_turned list claim))) (sym writing) tt,
                  tt,
                ));
          }

      -- none yet, and all
      claim_none : IsByteWide cpu → Claim []
      claim_none small = record {
        mem = cpu.mem;
        flags = λ n. 0;
        turned = λ b is. refl;
        bytes = small.mem;
        small = omega arith;
        answered = tt;
      }

      claim_on : (rest list : List Turn) → Claim list → Does (list ++ rest) → counted (list ++ rest) ≤ cycles (instr_of cpu)
          → Claim (list ++ rest)
      claim_on [] list claim doing most = subst Claim (sym (append-nil list)) claim
      claim_on (idles drive ∷ rest) list claim doing most =
          let same : (list ++ idles drive ∷ []) ++ rest ≡ list ++ idles drive ∷ rest = append_assoc list (idles drive ∷ []) rest in
          let mine : Claim (list ++ idles drive ∷ []) = record {
            mem = claim.mem;
            flags = claim.flags;
            turned = claim.turned;
            bytes = claim.bytes;
            small = claim.small;
            answered = subst (λ l. AreAnswered (fresh claim.flags (changed claim.mem cpu)) cells l)
                (sym (idle_cycles drive list older cells)) claim.answered;
          } in
          subst Claim same (claim_on rest (list ++ idles drive ∷ []) mine (subst Does (sym same) doing)
          (subst (λ l. counted l ≤ cycles (instr_of cpu)) (sym same) most))
      claim_on (acts two ∷ rest) list claim doing most =
          let same : (list ++ acts two ∷ []) ++ rest ≡ list ++ acts two ∷ rest = append_assoc list (acts two ∷ []) rest in
          let count = counted_both list (acts two ∷ rest) in
          subst Claim same (claim_on rest (list ++ acts two ∷ []) (claim_more list two claim (front (list ++ acts two ∷ []) rest (subst Does (sym same) doing))
          (omega (arith, count, most))) (subst Does (sym same) doing) (subst (λ l. counted l ≤ cycles (instr_of cpu)) (sym same) most))
        where
          front_given : (l r : List Turn) (b : List Bus) (c : Cells) → AreGiven R (at_rest held b c) (l ++ r)
              → AreGiven R (at_rest held b c) l
          front_given [] r b c given = tt
          front_given (acts x ∷ l) r b c given = (given.0, front_given l r (onward b c x) (moved b c x) given.1)
          front_given (idles drive ∷ l) r b c given = (given.0, front_given l r (waited b c drive) c given.1)

          front_asked : (l r : List Turn) (b : List Bus) (c : Cells) (w : ℕ → ℕ) (k : ℕ)
              → AreAsked rom w k (at_rest held b c) (l ++ r) → AreAsked rom w k (at_rest held b c) l
          front_asked [] r b c w k asked = tt
          front_asked (idles drive ∷ l) r b c w k asked = front_asked l r (waited b c drive) c w k asked
          front_asked (acts x ∷ l) r b c w k asked = (
            asked.0,
            front_asked l r (onward b c x) (moved b c x) (wrote c w)
                (calm_in c (cycle_of (at_rest held b c) x) k) asked.1,
          )

          front : (l r : List Turn) → Does (l ++ r) → Does l
          front l r doing = record {
            is_rom = doing.is_rom;
            fits = doing.fits;
            shares = doing.shares;
            work_in = doing.work_in;
            rom_in = doing.rom_in;
            given = front_given l r older cells doing.given;
            asked = front_asked l r older cells work calm doing.asked;
          }

      pub claim_all : (list : List Turn) → Does list → counted list ≤ cycles (instr_of cpu) → Claim list
      claim_all list doing most = claim_on list [] (claim_none bytes) doing most
