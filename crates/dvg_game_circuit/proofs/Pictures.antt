-- The laws of the vectors, of those of the circuit.
use Rattle.std.proofs.Common.{◌≡◌, ℕ, ◌+◌, ◌<◌, Bool, true, false, not, List, [], ◌∷◌, ◌++◌, length, refl, sym, ap, ◌∙◌, subst, arith}
use Rattle.std.specs.Prelude.{All, nat_eq, ◌&&◌, ◌||◌}
use Rattle.std.proofs.lemmas.Bool.{eqb-true}
use Rattle.std.proofs.lemmas.List.Elements.{All-head, All-tail}
use Rattle.dvg_mem.specs.Memory.{IsRom}
use Rattle.dvg_cells_core.specs.Cells.{bit, both, eq, none, part}
use Rattle.dvg_cells_board.specs.Board.{starts}
use Rattle.dvg_cells_motion.specs.Vectors as vectors
use Rattle.dvg_gen.specs.Run.{Finished, fate}
use Rattle.dvg_gen.specs.Counting.{followed_all}
use Rattle.dvg_cells_core.specs.Refines.{Agrees}
use Rattle.dvg_cells_core.specs.Tells.{moves_of}
use Rattle.dvg_cells_motion.specs.Machine.{CountersFollow, HaltedTells, MachineFollows, cores, ticks}
use Rattle.dvg_cells_motion.specs.Pulses.{counters_of}
use Rattle.dvg_cells_motion.specs.Machine as drawn
use Rattle.dvg_cells_motion.specs.Times.{AtOnce, GoOn, TakesPicture, last_tick, late, run_ticks, tick_before, uses_ram}
use Rattle.dvg_game_circuit.specs.Game.{Bus, drives_vectors, halted}
use Rattle.dvg_game_circuit.specs.Game as pin
use Rattle.dvg_game_circuit.specs.Circuit.{Held, IsBus, HoldsGame, after, vector_clocks}
use Rattle.dvg_game_circuit.specs.Around.{IsTimed, begins, takes, took}
use Rattle.dvg_game_circuit.specs.Pictures.{AreCyclesInTicks, CircuitDraws, CircuitTakesPicture, later_clocks}
use Rattle.dvg_game_circuit.proofs.Around.{around}
use Rattle.dvg_game_circuit.proofs.CircuitAsCells.{vectors_after, vectors_driven}

-- what is said of the vectors after their clocks, of any that are the same
abbrev Drawn : (ℕ → ℕ) → List vectors.Bus → vectors.Vectors → Type 0
Drawn ram seen v = CountersFollow (cores ram seen) v.pace v.motion
    × (vectors.halted v ≡ 1 → (is : CountersFollow (cores ram seen) v.pace v.motion) × (is.agrees.run.is_open ≡ false)
    × (counters_of v.motion ≡ followed_all is.began (moves_of is.agrees.run)))

pub draws : MachineFollows → HaltedTells → CircuitDraws
draws follows tells R image rom held is_rom count rom_in loaded clocks all =
    let seen = vector_clocks held clocks in
    let driven = vectors_driven R image rom held is_rom count rom_in loaded clocks all in
    let here : Drawn held.ram seen (after held clocks).vectors = subst (Drawn held.ram seen) (sym (vectors_after held clocks))
    (follows held.ram loaded.ram_bytes seen driven, tells held.ram loaded.ram_bytes seen driven) in
    record { follows = here.0; drawn = here.1 }

pub all_clocks : (held : Held) (older later : List Bus)
    → later_clocks held older later ++ vector_clocks held older ≡ vector_clocks held (later ++ older)
all_clocks held older [] = refl
all_clocks held older (bus ∷ later) = ap (λ l. drives_vectors (after held (later ++ older)) bus ∷ l) (all_clocks held older later)

-- a tick that was taken stops the next three
first_took : (t u : Bool) → t ≡ true → (t || u) ≡ true
first_took true u e = refl
first_took false u e = absurd (cc)

second_took : (t u v : Bool) → u ≡ true → (t || (u || v)) ≡ true
second_took true u v e = refl
second_took false true v e = refl
second_took false false v e = absurd (cc)

takes_not : (bus : Bus) (clocks : List Bus) → took 3 clocks ≡ true → takes clocks bus ≡ false
takes_not bus clocks e = ap (λ t. nat_eq bus.tick 1 && not t) e ∙ by (nat_eq bus.tick 1)
  where
    by : (t : Bool) → (t && false) ≡ false
    by true = refl
    by false = refl

test_of : (t : Bool) (n : ℕ) → n ≡ bit t → n ≡ 1 → t ≡ true
test_of true n e one = refl
test_of false n e one = absurd (omega arith)

none_of : (t : Bool) (n : ℕ) → n ≡ bit t → t ≡ false → n ≡ 0
none_of true n e none = absurd (cc)
none_of false n e none = e

module _ (R image : List ℕ) (rom : ℕ → ℕ) (held : Held) (is_rom : IsRom R) (count : length R ≡ 2048) (rom_in : (a : ℕ) → rom a < 256)
    (loaded : HoldsGame R image rom held) where
  timed : (clocks : List Bus) → All IsBus clocks → (bus : Bus) → IsBus bus → IsTimed held clocks bus
  timed clocks all bus is = (around R image rom held is_rom count rom_in loaded clocks all bus is).timed

  -- no cycle begins in a clock that takes no tick, so the RAM is left alone
  left_alone : (clocks : List Bus) (bus : Bus) → IsTimed held clocks bus → (bus.ready ≡ 1 → takes clocks bus ≡ true)
      → takes clocks bus ≡ false → uses_ram (drives_vectors (after held clocks) bus) ≡ 0
  left_alone clocks bus is cycles none =
      ap (λ n. both n (eq (part 11 5 (pin.a (after held clocks))) 8)) (none_of (begins (after held clocks) bus)
      (pin.access (after held clocks) bus) is.access (idle (nat_eq bus.ready 1) (nat_eq (after held clocks).answers 0)
      (nat_eq bus.reset 1 || nat_eq (after held clocks).bites 1) refl))
    where
      idle : (t u v : Bool) → nat_eq bus.ready 1 ≡ t → (t && (u && not v)) ≡ false
      idle true u v e = absurd (let yes = cycles (eqb-true bus.ready 1 e) in let no = none in cc)
      idle false u v e = refl

  at_once : (older later : List Bus) → All IsBus (later ++ older) → AreCyclesInTicks older later
      → AtOnce (later_clocks held older later)
  at_once older [] all cycles = tt
  at_once older (bus ∷ later) all cycles =
      (last later rest refl, before later rest refl, at_once older later rest cycles.1)
    where
      rest : All IsBus (later ++ older)
      rest = All-tail IsBus bus (later ++ older) all

      now : IsTimed held (later ++ older) bus
      now = timed (later ++ older) rest bus (All-head IsBus bus (later ++ older) all)

      last : (l : List Bus) → All IsBus (l ++ older) → l ≡ later → last_tick (later_clocks held older l) ≡ 1
          → ((drives_vectors (after held (later ++ older)) bus).tick ≡ 0)
          × (uses_ram (drives_vectors (after held (later ++ older)) bus) ≡ 0)
      last [] fine e is = absurd (omega arith)
      last (one ∷ l) fine e is =
          let was = timed (l ++ older) (All-tail IsBus one (l ++ older) fine) one (All-head IsBus one (l ++ older) fine) in
          let taken = test_of (takes (l ++ older) one) _ was.taken is in
          let none : takes (later ++ older) bus ≡ false = takes_not bus (later ++ older)
          (subst (λ k. took 3 (k ++ older) ≡ true) e (first_took (takes (l ++ older) one) (took 2 (l ++ older)) taken)) in
          (none_of (takes (later ++ older) bus) _ now.taken none, left_alone (later ++ older) bus now cycles.0 none)

      before : (l : List Bus) → All IsBus (l ++ older) → l ≡ later → tick_before (later_clocks held older l) ≡ 1
          → (drives_vectors (after held (later ++ older)) bus).tick ≡ 0
      before [] fine e is = absurd (omega arith)
      before (one ∷ []) fine e is = absurd (omega arith)
      before (one ∷ two ∷ l) fine e is =
          let behind = All-tail IsBus one (two ∷ l ++ older) fine in
          let was = timed (l ++ older) (All-tail IsBus two (l ++ older) behind) two (All-head IsBus two (l ++ older) behind) in
          let taken = test_of (takes (l ++ older) two) _ was.taken is in
          none_of (takes (later ++ older) bus) _ now.taken (takes_not bus (later ++ older)
          (subst (λ k. took 3 (k ++ older) ≡ true) e
          (second_took (takes (two ∷ l ++ older) one) (takes (l ++ older) two) (took 1 (l ++ older)) taken)))

  pub takes_picture : TakesPicture → (clocks : List Bus) (bus : Bus) (later : List Bus) → All IsBus (later ++ bus ∷ clocks)
      → let old = vector_clocks held clocks in
      let first = drives_vectors (after held clocks) bus in
      let new = later_clocks held (bus ∷ clocks) later in
      halted (after held clocks) ≡ 1
      → starts (after held clocks).vectors.board (vectors.drives_board (after held clocks).vectors first) ≡ 1
      → GoOn held.ram (first ∷ old) new → halted (after held (later ++ bus ∷ clocks)) ≡ 1
      → (is : Agrees (cores held.ram (new ++ first ∷ old)))
      × (fate is.run.visits ≡ Finished → ticks new ≡ run_ticks is.run.first is.run.visits + late held.ram (first ∷ old) new)
      × (AreCyclesInTicks (bus ∷ clocks) later → late held.ram (first ∷ old) new ≡ 0)
  takes_picture law clocks bus later all halted_first started go_on halted_last =
      let old = vector_clocks held clocks in
      let first = drives_vectors (after held clocks) bus in
      let new = later_clocks held (bus ∷ clocks) later in
      let same = all_clocks held (bus ∷ clocks) later in
      let driven = vectors_driven R image rom held is_rom count rom_in loaded (later ++ bus ∷ clocks) all in
      let is = law held.ram loaded.ram_bytes old first new (subst (All drawn.IsBus) (sym same) driven)
      (ap vectors.halted (sym (vectors_after held clocks)) ∙ halted_first)
      (ap (λ (v : vectors.Vectors). starts v.board (vectors.drives_board v first)) (sym (vectors_after held clocks)) ∙ started)
      go_on
      (ap (λ l. vectors.halted (drawn.after held.ram l)) same ∙ ap vectors.halted (sym (vectors_after held (later ++ bus ∷ clocks)))
      ∙ halted_last) in
      (is.0, is.1, λ cycles. is.2 (at_once (bus ∷ clocks) later all cycles))

pub pictures : TakesPicture → CircuitTakesPicture
pictures law R image rom held is_rom count rom_in loaded clocks bus later =
    takes_picture R image rom held is_rom count rom_in loaded law clocks bus later
