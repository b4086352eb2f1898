-- An instruction of a call on the cells.
use Rattle.std.proofs.Common.{◌≡◌, ℕ, zero, suc, ◌+◌, ◌<◌, Bool, true, false, List, [], ◌∷◌, ◌++◌, length, refl, sym, ap, ◌∙◌, subst}
use Rattle.std.proofs.Common.{arith, inl, inr, eqb-true, eq-eqb}
use Rattle.std.specs.Prelude.{◌⊎◌, nat_eq, nat_le, nat_lt, ◌&&◌, ◌||◌, if◌then◌else◌}
use Rattle.std.proofs.lemmas.Bool.Decides.{leb_tells}
use Rattle.dvg_calls_6502.specs.Processor.{Cpu, Instr, Access, Reads, Writes, step, turn, does, at_return}
use Rattle.dvg_calls_6502.specs.Amid.{amid, changed}
use Rattle.dvg_calls_6502.specs.Board.{seen, is_hardware, is_ram}
use Rattle.dvg_calls_6502.specs.Calls
use Rattle.dvg_calls_6502.specs.Calls.{Call, is_over, IsSession}
use Rattle.dvg_calls_6502.specs.Single.{is_single}
use Rattle.dvg_calls_6502.proofs.FewAccesses.{AreFew, few}
use Rattle.dvg_log.specs.Log.{Log}
use Rattle.dvg_cells_core.specs.Cells.{bit, eq, either, mux, part}
use Rattle.dvg_cells_board.specs.Board.{Board, Bus, q}
use Rattle.dvg_cells_board.specs.Board as pin
use Rattle.dvg_cells_board.specs.Clocks.{IsServed, after, changes}
use Rattle.dvg_cells_board.specs.Logs.{answered, did}
use Rattle.dvg_calls_board.specs.Machine as system
use Rattle.dvg_calls_board.specs.Machine.{IsMachine, later, Makes, accesses_of, told}
use Rattle.dvg_cells_cpu.specs.Cpu.{Cpu as Cells, at, write, dout, clock}
use Rattle.dvg_cells_cpu.specs.Refines as refined
use Rattle.dvg_cells_cpu.specs.Refines.{Cycle, pins_of, access, made, AreAnswered, Rests, CellsDo, IsSound, cycles, fetched}
use Rattle.dvg_cells_cpu.proofs.EachOpcode.{refines}
use Rattle.dvg_calls_cells.specs.Machine.{Machine}
use Rattle.dvg_calls_cells.specs.Cycles.{Two, Turn, acts, idles, begins, first_bus, second_bus, wait_bus, next, buses}
use Rattle.dvg_calls_cells.specs.Cycles.{cycles_of, cycle_of, ends}
use Rattle.dvg_calls_cells.specs.Cycles.{IsQuiet, AreQuiet, AreAlike, same}
use Rattle.dvg_calls_cells.specs.Steps.{AreServed, now, instr_of, Steps, CellsStep}
use Rattle.dvg_calls_cells.proofs.BoardLeftAlone.{Quietly, write_both, write_append, made_more, quietly, quiet_cycle, quiet_wait}
use Rattle.dvg_calls_cells.proofs.SeenAccesses.{AreUnseen, IsSeen, either_way, fetched_quiet, low_unseen, seen_more, seen_one, unseen}
use Rattle.dvg_calls_cells.proofs.SeenAccesses.{unseen_quiet}
use Rattle.std.proofs.lemmas.Bool.{or_right as or_more}

-- a step more of a call
amid_one : (n s : ℕ) (others : ℕ → ℕ → ℕ) (cpu : Cpu)
    → amid s others (n + 1) cpu ≡ turn s (changed (others n) (amid s others n cpu))
amid_one zero s others cpu = refl
amid_one (suc n) s others cpu =
    let e : suc n + 1 ≡ suc (n + 1) = omega arith in
    ap (λ k. amid s others k cpu) e ∙ amid_one n s (λ k. others (suc k)) (turn s (changed (others 0) cpu))

-- the board answers where it is read
and_no : (b : Bool) → (b && false) ≡ false
and_no true = refl
and_no false = refl

ram_bit : (a : ℕ) → a < 65536 → is_ram a ≡ true → nat_eq (part 11 5 a) 8 ≡ true
ram_bit a less e = elim (leb_tells 0x4000 a) [
  | inl t ↦ elim (leb_tells (suc a) 0x4800) [
    | inl u ↦ eq-eqb (part 11 5 a) 8 (let from = t.1 in let to = u.1 in omega arith)
    | inr u ↦ absurd (
        let no : (nat_le 0x4000 a && nat_lt a 0x4800) ≡ false = ap (λ k. nat_le 0x4000 a && k) u.0 ∙ and_no (nat_le 0x4000 a) in cc)
  ]
  | inr t ↦ absurd (let no : (nat_le 0x4000 a && nat_lt a 0x4800) ≡ false = ap (λ k. k && nat_lt a 0x4800) t.0 in cc)
]

abbrev pub on_board : ℕ → ℕ
on_board a = either (either (eq (part 11 5 a) 8) (eq a 8194)) (eq a 12288)

three_bits : (r f s : Bool) → (r || (f || s)) ≡ true → either (either (bit r) (bit f)) (bit s) ≡ 1
three_bits true f s e = refl
three_bits false true s e = refl
three_bits false false true e = refl
three_bits false false false e = absurd (cc)

pub answered_there : (a : ℕ) → a < 65536 → is_hardware a ≡ true → on_board a ≡ 1
answered_there a less e = by (is_ram a) refl
  where
    by : (b : Bool) → is_ram a ≡ b → on_board a ≡ 1
    by true is = ap (λ t. either (either (bit t) (eq a 8194)) (eq a 12288)) (ram_bit a less is)
    by false is = three_bits (nat_eq (part 11 5 a) 8) (nat_eq a 8194) (nat_eq a 12288)
        (or_more (nat_eq (part 11 5 a) 8) (nat_eq a 8194 || nat_eq a 12288)
        (sym (ap (λ t. t || (nat_eq a 8194 || nat_eq a 12288)) is) ∙ e))

pub one_of : (s t : Bool) → nat_eq (if s then (if t then 0 else 1) else 1) 0 ≡ false
    → ◌≡◌ {A = ℕ} (if s then (if t then 0 else 1) else 1) 1
one_of true true e = absurd (cc)
one_of true false e = refl
one_of false t e = refl

-- the newest of some accesses
pub head_is : (a b : Access) (l r : List Access) → a ∷ l ≡ b ∷ r → (a ≡ b) × (l ≡ r)
head_is a b l r e = (ap (λ l. first l) e, ap (λ l. others l) e)
  where
    first : List Access → Access
    first [] = a
    first (access ∷ rest) = access

    others : List Access → List Access
    others [] = []
    others (access ∷ rest) = rest

some_made : (cells : Cells) (cycle : Cycle) (list : List Cycle) → (newest : Access) × (rest : List Access)
    × (made cells (cycle ∷ list) [] ≡ newest ∷ rest)
some_made cells cycle [] = (access cells cycle.din, [], refl)
some_made cells cycle (second ∷ list) =
    let more = some_made (clock cells (pins_of cycle)) second list in (
      more.0,
      more.1 ++ (access cells cycle.din ∷ []),
      made_more (clock cells (pins_of cycle)) (second ∷ list) (access cells cycle.din ∷ [])
          ∙ ap (λ l. l ++ (access cells cycle.din ∷ [])) more.2,
    )

none_or_some : (list : List Cycle) → (list ≡ []) ⊎ ((first : Cycle) × (others : List Cycle) × (list ≡ first ∷ others))
none_or_some [] = inl refl
none_or_some (first ∷ others) = inr (first, others, refl)

newest : (l : List Access) (first a : Access) (rest : List Access)
    → (top : Access) × (below : List Access) × (l ≡ top ∷ below) → l ++ (first ∷ []) ≡ a ∷ rest
    → (below : List Access) × (l ≡ a ∷ below) × (below ++ (first ∷ []) ≡ rest)
newest l first a rest some e =
    let parts = head_is some.0 a (some.1 ++ (first ∷ [])) rest (sym (ap (λ l. l ++ (first ∷ [])) some.2) ∙ e) in
    (some.1, some.2 ∙ ap (λ top. top ∷ some.1) parts.0, parts.1)

module _ (R image : List ℕ) (held : ℕ → ℕ) (call : Call) (calls : List Call) where
  abbrev Gone : List Bus → Board → Cells → List Turn → Type 0
  Gone older board cells turns = Quietly R image held (later 1 call ∷ calls) older board cells turns

  -- a clock that makes an access of the call, and the next one
  seen_cycle : (log : Log) (older shown : List Bus) (board : Board) (cells : Cells) (two : Two)
      → IsMachine R image held (call ∷ calls) log shown → AreAlike older shown → after held shown ≡ board
      → IsSession (later 1 call ∷ calls) → AreServed R (begins cells board) (acts two ∷ [])
      → (its : Access) → access cells (cycle_of (begins cells board) two).din ≡ its → IsSeen its
      → accesses_of (later 1 call) ≡ its ∷ accesses_of call → Gone older board cells (acts two ∷ [])
  seen_cycle log older shown board cells two on alike same_board session served its is it_is_seen more =
      let machine = begins cells board in
      let one = first_bus machine two in
      let other = second_bus machine two in
      let log1 = did (changes one) (answered image held shown one false log) in
      let on1 : IsMachine R image held (later 1 call ∷ calls) log1 (one ∷ shown) =
      system.accesses 1 its one on session more served.0 (subst (λ b. IsServed R b one) (sym same_board) served.1.1.0)
      (subst (λ b. Makes b one its) (sym same_board) (makes (nat_eq (write cells) 0) its refl is it_is_seen)) in record {
        log = answered image held (one ∷ shown) other false log1;
        shown = other ∷ one ∷ shown;
        on = system.waits other false on1 served.1.0
            (subst (λ b. IsServed R (pin.clock b one) other) (sym same_board) served.1.1.1.0) (refl, refl);
        alike = same other (same one alike);
        board_is = ap (λ b. pin.clock (pin.clock b one) other) same_board;
      }
    where
      makes : (w : Bool) (its : Access) → nat_eq (write cells) 0 ≡ w
          → (if nat_eq (write cells) 0 then Reads (at cells) (cycle_of (begins cells board) two).din
          else Writes (at cells) (dout cells)) ≡ its
          → IsSeen its → Makes board (first_bus (begins cells board) two) its
      makes true its w is it_is_seen =
          let bus = first_bus (begins cells board) two in
          let read : Reads (at cells) (cycle_of (begins cells board) two).din ≡ its =
          sym (ap (λ (b : Bool). if b then Reads (at cells) (cycle_of (begins cells board) two).din
          else Writes (at cells) (dout cells)) w) ∙ is in
          let there : on_board (at cells) ≡ 1 = answered_there (at cells) served.0.a (subst IsSeen (sym read) it_is_seen) in
          subst (Makes board bus) read (
            refl,
            eqb-true (write cells) 0 w,
            refl,
            λ next. sym (ap (λ o. mux o (q (pin.clock board bus) next) two.second.m) there),
          )
      makes false its w is it_is_seen =
          let written : Writes (at cells) (dout cells) ≡ its =
          sym (ap (λ (b : Bool). if b then Reads (at cells) (cycle_of (begins cells board) two).din
          else Writes (at cells) (dout cells)) w) ∙ is in
          subst (Makes board (first_bus (begins cells board) two)) written (refl, one_of _ _ w, refl, refl)

  -- the newest access alone is seen
  loudly : (turns : List Turn) (log : Log) (older shown : List Bus) (board : Board) (cells : Cells)
      → IsMachine R image held (call ∷ calls) log shown → AreAlike older shown → after held shown ≡ board
      → IsSession (later 1 call ∷ calls) → AreServed R (begins cells board) turns
      → (its : Access) (rest : List Access) → made cells (cycles_of (begins cells board) turns) [] ≡ its ∷ rest
      → IsSeen its → AreQuiet rest → accesses_of (later 1 call) ≡ its ∷ accesses_of call → Gone older board cells turns
  loudly [] log older shown board cells on alike is session served a rest e it_is_seen quiet more = absurd (cc)
  loudly (idles drive ∷ later) log older shown board cells on alike is session served a rest e it_is_seen quiet more =
      let machine = begins cells board in
      let done = quiet_wait R image held (call ∷ calls) log older shown board cells drive on alike is served.0 served.1.0 in
      let gone = loudly later done.log (wait_bus machine drive ∷ older) done.shown (next machine (idles drive)).board cells
      done.on done.alike done.board_is session served.1.1 a rest e it_is_seen quiet more in
      record { log = gone.log; shown = gone.shown; on = gone.on; alike = gone.alike; board_is = gone.board_is }
  loudly (acts two ∷ others) log older shown board cells on alike is session served a rest e it_is_seen quiet more =
      let machine = begins cells board in
      let then_cells = clock cells (pins_of (cycle_of machine two)) in
      let then_board = (next machine (acts two)).board in
      let its_clocks = second_bus machine two ∷ first_bus machine two ∷ older in
      let first = access cells (cycle_of machine two).din in
      let cycles_later = cycles_of (next machine (acts two)) others in
      elim (none_or_some cycles_later) [
        | inl none ↦
            let newest : first ∷ [] ≡ a ∷ rest = ap (λ l. made then_cells l (first ∷ [])) (sym none) ∙ e in
            let mine : AreServed R machine (acts two ∷ []) =
            (served.0, (served.1.0, (served.1.1.0, (served.1.1.1.0, tt)))) in
            let done = seen_cycle log older shown board cells two on alike is session mine a (head_is _ _ _ _ newest).0
            it_is_seen more in
            let gone = quietly R image held (later 1 call ∷ calls) others done.log its_clocks done.shown then_board then_cells
            done.on done.alike done.board_is served.1.1.1.1 (subst (λ l. AreQuiet (made then_cells l [])) (sym none) tt) in
            record { log = gone.log; shown = gone.shown; on = gone.on; alike = gone.alike; board_is = gone.board_is }
        | inr some ↦
            let made_later = made then_cells cycles_later [] in
            let parts : made_later ++ (first ∷ []) ≡ a ∷ rest = sym (made_more then_cells cycles_later (first ∷ [])) ∙ e in
            let split = newest made_later first a rest
            (subst (λ l. (top : Access) × (below : List Access) × (made then_cells l [] ≡ top ∷ below)) (sym some.2)
            (some_made then_cells some.0 some.1)) parts in
            let quiets = write_both IsQuiet split.0 (first ∷ []) (subst AreQuiet (sym split.2) quiet) in
            let done = quiet_cycle R image held (call ∷ calls) log older shown board cells two on alike is served.0 served.1.0
            served.1.1.0 served.1.1.1.0 quiets.1 in
            let gone = loudly others done.log its_clocks done.shown then_board then_cells done.on done.alike done.board_is session
            served.1.1.1.1 a split.0 split.1 it_is_seen quiets.0 more in
            record { log = gone.log; shown = gone.shown; on = gone.on; alike = gone.alike; board_is = gone.board_is }
      ]

-- the machine after some turns
pub ends_are : (held : ℕ → ℕ) (list : List Turn) (older : List Bus) (cells : Cells)
    → ends (begins cells (after held older)) list
    ≡ begins (refined.ends cells (cycles_of (begins cells (after held older)) list))
    (after held (buses (begins cells (after held older)) list older))
ends_are held [] older cells = refl
ends_are held (acts two ∷ later) older cells =
    let machine = begins cells (after held older) in
    ends_are held later (second_bus machine two ∷ first_bus machine two ∷ older) (clock cells (pins_of (cycle_of machine two)))
ends_are held (idles drive ∷ later) older cells =
    ends_are held later (wait_bus (begins cells (after held older)) drive ∷ older) cells

pub ends_cells : (list : List Turn) (board : Board) (cells : Cells)
    → (ends (begins cells board) list).cpu ≡ refined.ends cells (cycles_of (begins cells board) list)
ends_cells [] board cells = refl
ends_cells (acts two ∷ later) board cells =
    let machine = begins cells board in
    ends_cells later (next machine (acts two)).board (clock cells (pins_of (cycle_of machine two)))
ends_cells (idles drive ∷ later) board cells = ends_cells later (next (begins cells board) (idles drive)).board cells

ends_answers : (list : List Turn) (board : Board) (cells : Cells) → (ends (begins cells board) list).answers ≡ 0
ends_answers [] board cells = refl
ends_answers (acts two ∷ later) board cells =
    let machine = begins cells board in
    ends_answers later (next machine (acts two)).board (clock cells (pins_of (cycle_of machine two)))
ends_answers (idles drive ∷ later) board cells = ends_answers later (next (begins cells board) (idles drive)).board cells

module _ (R image : List ℕ) (held : ℕ → ℕ) (call : Call) (calls : List Call) (log : Log) (older shown : List Bus) (board : Board)
    (cells : Cells) (list : List Turn) (on : IsMachine R image held (call ∷ calls) log shown) (alike : AreAlike older shown)
    (same_board : after held shown ≡ board) (unfinished : is_over call ≡ false)
    (goes : at_return call.from.s (now call) ≡ false) (session : IsSession (later 1 call ∷ calls))
    (served : AreServed R (begins cells board) list) where
  abbrev machine : Machine
  machine = begins cells board

  abbrev instr : Instr
  instr = instr_of (now call)

  end_is : Calls.after (later 1 call) ≡ does instr (now call)
  end_is = amid_one call.steps call.from.s call.others call.from
      ∙ ap (λ (b : Bool). if b then now call else step (now call)) goes

  module _ (g : CellsDo instr (now call) cells (cycles_of machine list)) where
    accesses_are : accesses_of (later 1 call) ≡ seen g.news ++ accesses_of call
    accesses_are = ap (λ (c : Cpu). seen c.log) end_is ∙ ap seen g.log ∙ seen_more g.news (Calls.after call).log

    finish : Gone R image held call calls older board cells list → Steps R image held call calls older machine list
    finish gone = record {
      log = gone.log;
      shown = gone.shown;
      on = gone.on;
      alike = gone.alike;
      board = sym gone.board_is;
      answers = ends_answers list board cells;
      rests = subst (λ c. Rests c (Calls.after (later 1 call))) (sym (ends_cells list board cells))
          (subst (Rests (refined.ends cells (cycles_of machine list))) (sym end_is) g.rests);
    }

    quiet_case : AreUnseen g.news → Steps R image held call calls older machine list
    quiet_case none =
        let went = quietly R image held (call ∷ calls) list log older shown board cells on alike same_board served
        (subst AreQuiet (sym g.bus) (write_append IsQuiet g.news (fetched instr (now call)) (unseen_quiet g.news none)
        (fetched_quiet IsQuiet instr (now call)))) in
        let none_more : accesses_of (later 1 call) ≡ accesses_of call =
        accesses_are ∙ ap (λ l. l ++ accesses_of call) (unseen g.news none) in
        finish (record {
          log = told image (later 1 call) went.log;
          shown = went.shown;
          on = system.steps 1 went.on unfinished session none_more;
          alike = went.alike;
          board_is = went.board_is;
        })

    seen_case : (a : Access) → g.news ≡ a ∷ [] → IsSeen a → Steps R image held call calls older machine list
    seen_case a is it_is_seen =
        let more : accesses_of (later 1 call) ≡ a ∷ accesses_of call =
        accesses_are ∙ ap (λ l. seen l ++ accesses_of call) is ∙ ap (λ l. l ++ accesses_of call) (seen_one a [] it_is_seen) in
        finish (loudly R image held call calls list log older shown board cells on alike same_board session served a
        (fetched instr (now call)) (g.bus ∙ ap (λ l. l ++ fetched instr (now call)) is) it_is_seen
        (fetched_quiet IsQuiet instr (now call)) more)

    by_news : (news : List Access) → g.news ≡ news → AreFew news → Steps R image held call calls older machine list
    by_news news is (inr low) = quiet_case (subst AreUnseen (sym is) (low_unseen news low))
    by_news [] is (inl few) = quiet_case (subst AreUnseen (sym is) tt)
    by_news (a ∷ []) is (inl few) = elim (either_way a) [
      | inl none ↦ quiet_case (subst AreUnseen (sym is) (none, tt))
      | inr it_is_seen ↦ seen_case a is it_is_seen
    ]
    by_news (a ∷ b ∷ news) is (inl few) = absurd (omega arith)

  -- an instruction of the call
  pub step_on : Rests cells (now call) → cells.due ≡ 0 → IsSound (now call) → is_single instr ≡ true
      → length (cycles_of machine list) ≡ cycles instr → AreAnswered (now call) cells (cycles_of machine list)
      → Steps R image held call calls older machine list
  step_on rests free sound single count answered =
      let g = refines (now call) cells (cycles_of machine list) sound rests free count answered in
      by_news g g.news refl (few (now call) sound.bytes instr single g.news g.log)

pub cells_step : CellsStep
cells_step R image held call calls log older shown cells list on alike unfinished goes session rests free sound single count
    answered served =
    step_on R image held call calls log older shown (after held shown) cells list on alike refl unfinished goes session served
    rests free sound single count answered
