-- All clocks since power-up.
use Rattle.std.proofs.Common.{◌≡◌, ℕ, zero, suc, ◌+◌, ◌-◌, ◌*◌, ◌%◌, ◌<◌, ◌≤◌, true, false, not, List, [], ◌∷◌, ◌++◌, Option, Some, None, refl, sym, ap, ◌∙◌, subst, arith, inl, inr}
use Rattle.std.specs.Prelude.{All, nat_eq, if◌then◌else◌, is_some, nat_lt, ◌⊎◌}
use Rattle.std.proofs.lemmas.Bool.{cases_lt, le-leb, lt-leb, lt-ltb, le-ltb}
use Rattle.std.proofs.lemmas.List.Elements.{All-head, All-tail}
use Rattle.dvg_gen.specs.declared.stroke.Stroke.{Stroke}
use Rattle.dvg_gen.specs.Bytes.{Met, Waits, Whole, met}
use Rattle.dvg_gen.specs.Machine.{HasTaken}
use Rattle.dvg_gen.specs.Run.{on, wanted}
use Rattle.dvg_gen.specs.Told.{Told, Fed, Newest, Leaves}
use Rattle.dvg_gen.specs.Wrapping.{Wraps, is_turn, jump_of}
use Rattle.dvg_gen.specs.Wrapping as wrapping
use Rattle.dvg_gen.proofs.GeneratorAfterHistory.{stands_new}
use Rattle.dvg_gen.proofs.OneRun.{leaves_same}
use Rattle.dvg_cells_core.specs.Cells.{bit, part, joined, add}
use Rattle.dvg_cells_core.specs.Core.{Core, Pins}
use Rattle.dvg_cells_core.specs.Core as core
use Rattle.dvg_cells_core.specs.Refines.{ArePins, byte_of, told_by, drawn_by, Said}
use Rattle.dvg_cells_core.specs.Refines as refines
use Rattle.dvg_cells_core.specs.Shown.{ShowsReply}
use Rattle.dvg_cells_core.proofs.RegistersFit.{Fits, Stepped}
use Rattle.dvg_cells_core.proofs.Machines.{machine_of, kept}
use Rattle.dvg_cells_core.proofs.CoreSincePowerUp.{one, halted_is, high_is}
use Rattle.dvg_cells_wraps.specs.Refines.{after, core_of, registers, drew, Tells, Hears, Agrees, WrapsRefines, WrapsTells, powers, clocks, resets, starts, idles, ignores, fetches}
use Rattle.dvg_cells_wraps.specs.Wraps as cells
use Rattle.dvg_cells_wraps.proofs.Steps.{Kind, IsTurn, calls, returns, same, turns, by_pins}
use Rattle.dvg_cells_wraps.proofs.Steps as steps

-- the return addresses have twelve bits
pub record Small (it : cells.Wraps) : Type 0 where
  pub s0 : it.s0 < 4096
  pub s1 : it.s1 < 4096
  pub s2 : it.s2 < 4096
  pub s3 : it.s3 < 4096

-- what a clock does
pub record Went (pins : Pins) (now : cells.Wraps) (drew : List Stroke) (history : List Told) (low : Option ℕ) : Type 0 where
  pub history' : List Told
  pub low' : Option ℕ
  pub found : Option Met
  pub tells : Tells pins history low history' low' found
  pub told : List Told
  pub wraps : Wraps history' told (registers now)
  pub stands : HasTaken (machine_of (core_of now) (drawn_by pins (core_of now) drew)) told low'
  pub fits : Fits (core_of now)
  pub small : Small now
  pub said : Said found (core_of now) (drawn_by pins (core_of now) drew) stands.run

-- where a core is, before a clock
pub record Here (it : cells.Wraps) (drew : List Stroke) (history told : List Told) (low : Option ℕ) : Type 0 where
  pub wraps : Wraps history told (registers it)
  pub stands : HasTaken (machine_of (core_of it) drew) told low
  pub fits : Fits (core_of it)
  pub small : Small it

-- a word that is neither a call nor a return
no_turn : (second first low din word : ℕ) → low < 256 → din < 256 → word ≡ low + 256 * din
    → (second ≡ 0 → part 4 4 din ≡ 12 → ⊥) → (second ≡ 0 → part 4 4 din ≡ 13 → ⊥) → second < 2 → is_turn (kept second first) word ≡ false
no_turn zero first low din word low_in din_in is not_call not_back small = by (cases_lt word 0xC000) (cases_lt word 0xE000) (cases_lt word 0xD000)
  where
    by : (word < 0xC000) ⊎ (0xC000 ≤ word) → (word < 0xE000) ⊎ (0xE000 ≤ word) → (word < 0xD000) ⊎ (0xD000 ≤ word) → is_turn None word ≡ false
    by (inl below) _ _ = rw (lt-leb 0xC000 word below) refl
    by (inr more) (inr above) _ = rw (le-leb 0xC000 word more) (rw (le-ltb word 0xE000 above) refl)
    by (inr more) (inl less) (inl call) = absurd (not_call refl (omega arith))
    by (inr more) (inl less) (inr back) = absurd (not_back refl (omega arith))
no_turn (suc zero) first low din word low_in din_in is not_call not_back small = refl
no_turn (suc (suc n)) first low din word low_in din_in is not_call not_back small = absurd (omega arith)

none_some : {P : Type 0} {n : ℕ} → ◌≡◌ {A = Option ℕ} None (Some n) → P
none_some e = absurd (cc)

some_is : {m n : ℕ} → ◌≡◌ {A = Option ℕ} (Some m) (Some n) → m ≡ n
some_is e = cc

whole_is : {v w : ℕ} → Whole (Some v) ≡ Whole (Some w) → v ≡ w
whole_is e = cc

waits_whole : {P : Type 0} {b : ℕ} {w : Option ℕ} → Waits b ≡ Whole w → P
waits_whole e = absurd (cc)

hole_whole : {P : Type 0} {w : ℕ} → Whole None ≡ Whole (Some w) → P
hole_whole e = absurd (cc)

-- a whole word is met after a low byte
pub record MetWord (low : Option ℕ) (pins : Pins) (word : ℕ) : Type 0 where
  pub byte : ℕ
  pub waited : low ≡ Some byte
  pub hole : pins.hole ≡ 0
  pub sum : byte + 256 * pins.din ≡ word

met_word : (low : Option ℕ) (pins : Pins) (word : ℕ) → pins.hole < 2 → met low (byte_of pins) ≡ Whole (Some word) → MetWord low pins word
met_word low pins word small e = by low pins.hole small refl e
  where
    by : (l : Option ℕ) (hole : ℕ) → hole < 2 → pins.hole ≡ hole → met l (if nat_eq hole 0 then Some pins.din else None) ≡ Whole (Some word) → MetWord l pins word
    by None zero s is e = waits_whole e
    by (Some b) zero s is e = record { byte = b; waited = refl; hole = is; sum = whole_is e }
    by None (suc zero) s is e = hole_whole e
    by (Some b) (suc zero) s is e = hole_whole e
    by l (suc (suc n)) s is e = absurd (omega arith)

kept_is : (flag value byte : ℕ) → flag < 2 → kept flag value ≡ Some byte → (flag ≡ 1) × (value ≡ byte)
kept_is zero value byte small e = none_some e
kept_is (suc zero) value byte small e = (refl, some_is e)
kept_is (suc (suc n)) value byte small e = absurd (omega arith)

-- one clock
module _ (at done fault stroke x0 y0 x y z first low_byte s0 s1 s2 s3 scale din : ℕ) (drew_so_far : List Stroke) (history told : List Told) (low : Option ℕ) where
  abbrev it : (is_open high second : ℕ) → cells.Wraps
  it is_open high second = steps.it at done fault stroke x0 y0 x y z first low_byte s0 s1 s2 s3 scale din is_open high second

  abbrev pins : (reset start valid hole : ℕ) → Pins
  pins reset start valid hole = record { reset = reset; start = start; valid = valid; hole = hole; din = din }

  -- as without a stack that wraps
  module _ (is_open high second reset start valid hole : ℕ) (here : Here (it is_open high second) drew_so_far history told low)
      (are : ArePins (pins reset start valid hole)) (same_core : core_of (cells.clock (it is_open high second) (pins reset start valid hole))
      ≡ core.clock (core_of (it is_open high second)) (pins reset start valid hole))
      (same_registers : registers (cells.clock (it is_open high second) (pins reset start valid hole)) ≡ registers (it is_open high second))
      (plain : hole ≡ 0 → valid ≡ 1 → high ≡ 1 → is_open ≡ 1 → second ≡ 0 → reset ≡ 0 → start ≡ 0
      → IsTurn at done fault stroke x0 y0 x y z first low_byte s0 s1 s2 s3 scale din → ⊥) where
    abbrev p : Pins
    p = pins reset start valid hole

    abbrev old : Core
    old = core_of (it is_open high second)

    abbrev did : Stepped p old drew_so_far told low
    did = one old p drew_so_far told low here.fits are here.stands

    open_is : (o : ℕ) → o < 2 → not (nat_eq o 0) ≡ true → o ≡ 1
    open_is zero small e = absurd (cc)
    open_is (suc zero) small e = refl
    open_is (suc (suc n)) small e = absurd (omega arith)

    fed : (run : Newest) → Leaves told run → run.is_open ≡ true → reset ≡ 0 → start ≡ 0 → valid ≡ 1 → (found : Met) → met low (byte_of p) ≡ found
        → Wraps (told_by found history) (told_by found told) (registers (it is_open high second))
    fed run l o r s v (Waits byte) e = here.wraps
    fed run l o r s v (Whole None) e = wrapping.meets_hole here.wraps
    fed run l o r s v (Whole (Some word)) e =
        let same_run = leaves_same here.stands.leaves l in
        let going_on : here.stands.run.is_open ≡ true = ap (λ k. k.is_open) same_run ∙ o in
        let opened = open_is is_open here.fits.opened (here.stands.stands.is_open ∙ going_on) in
        let is = met_word low p word are.hole e in
        let byte = kept_is high low_byte is.byte here.fits.high (here.stands.low ∙ is.waited) in
        let held : kept second first ≡ run.held = (here.stands.stands.running going_on).held ∙ ap (λ k. k.held) same_run in
        let low_same = byte.1 in
        let sum = is.sum in
        let none_turns = no_turn second first low_byte din word here.fits.low are.din (omega arith)
        (λ second_is op. plain is.hole v byte.0 opened second_is r s (calls op)) (λ second_is op. plain is.hole v byte.0 opened second_is r s (returns op)) here.fits.second in
        wrapping.takes here.wraps l (subst (λ h. is_turn h word ≡ false) held none_turns)

    abbrev Follows : List Told → Option ℕ → Option Met → Type 0
    Follows told' low' found = (history' : List Told) × Tells p history low history' low' found × Wraps history' told' (registers (it is_open high second))

    follow : {told' : List Told} {low' : Option ℕ} {found : Option Met} → refines.Tells p told low told' low' found → Follows told' low' found
    follow (refines.resets r) = (_, resets r, wrapping.resets here.wraps)
    follow (refines.starts r s) = (_, starts r s, wrapping.starts here.wraps)
    follow (refines.idles r s v) = (history, idles r s v, here.wraps)
    follow (refines.ignores r s v l o) = (history, ignores r s v here.wraps l o, here.wraps)
    follow (refines.fetches {run = run} r s v l o) =
        (told_by (met low (byte_of p)) history, fetches r s v here.wraps l o, fed run l o r s v (met low (byte_of p)) refl)

    abbrev Comes : Core → Type 0
    Comes k = (stands : HasTaken (machine_of k (drawn_by p k drew_so_far)) did.history' did.low') × Fits k × Said did.found k (drawn_by p k drew_so_far) stands.run

    went_same : Went p (cells.clock (it is_open high second) p) drew_so_far history low
    went_same =
        let follows = follow did.tells in
        let comes : Comes (core_of (cells.clock (it is_open high second) p)) = subst Comes (sym same_core) (did.stands, did.fits, did.said) in
        record {
          history' = follows.0;
          low' = did.low';
          found = did.found;
          tells = follows.1;
          told = did.history';
          wraps = subst (Wraps follows.0 did.history') (sym same_registers) follows.2;
          stands = comes.0;
          fits = comes.1;
          small = still here.small same_registers;
          said = comes.2;
        }
      where
        heads : {a b c d e f g h : ℕ} → a ∷ b ∷ c ∷ d ∷ [] ≡ e ∷ f ∷ g ∷ h ∷ [] → (a ≡ e) × (b ≡ f) × (c ≡ g) × (d ≡ h)
        heads e = (cc, cc, cc, cc)

        still : Small (it is_open high second) → registers (cells.clock (it is_open high second) p) ≡ registers (it is_open high second) → Small (cells.clock (it is_open high second) p)
        still was is =
            let each = heads is in
            record {
              s0 = subst (λ n. n < 4096) (sym each.0) was.s0;
              s1 = subst (λ n. n < 4096) (sym each.1) was.s1;
              s2 = subst (λ n. n < 4096) (sym each.2) was.s2;
              s3 = subst (λ n. n < 4096) (sym each.3) was.s3;
            }

  -- a call or a return
  module _ (here : Here (it 1 1 0) drew_so_far history told low) (din_in : din < 256) where
    abbrev byte : Pins
    byte = pins 0 0 1 0

    abbrev word : ℕ
    word = joined 8 low_byte din

    abbrev to_of : (to a0 a1 a2 a3 : ℕ) → cells.Wraps
    to_of to a0 a1 a2 a3 = steps.turned at done fault stroke x0 y0 x y z first low_byte s0 s1 s2 s3 scale din to a0 a1 a2 a3

    opened : here.stands.run.is_open ≡ true
    opened = sym here.stands.stands.is_open

    at_is : at ≡ wanted here.stands.run.visits here.stands.run.held
    at_is = (here.stands.stands.running opened).at

    held_is : here.stands.run.held ≡ None
    held_is = sym (here.stands.stands.running opened).held

    abbrev Turns : List Told → List ℕ → Type 0
    Turns told' addresses = Wraps (Fed (Some word) ∷ history) told' addresses

    abbrev with_jump : ℕ → List Told
    with_jump to = Fed (Some to) ∷ told

    abbrev four : ℕ → ℕ → ℕ → ℕ → List ℕ
    four a b c d = a ∷ b ∷ c ∷ d ∷ []

    went_turn : (to a0 a1 a2 a3 : ℕ) → to < 4096 → cells.clock (it 1 1 0) byte ≡ to_of to a0 a1 a2 a3 → Turns (with_jump (0xE000 + to)) (four a0 a1 a2 a3)
        → Small (to_of to a0 a1 a2 a3) → Went byte (cells.clock (it 1 1 0) byte) drew_so_far history low
    went_turn to a0 a1 a2 a3 to_in is wraps small =
        let jumped = steps.jumped_to at done fault stroke x0 y0 x y z first low_byte s0 s1 s2 s3 scale din drew_so_far here.fits.x here.fits.y here.fits.scale here.fits.low
        to a0 a1 a2 a3 to_in told low here.stands in
        subst (λ k. Went byte k drew_so_far history low) (sym is) (record {
          history' = Fed (Some word) ∷ history;
          low' = None;
          found = Some (Whole (Some word));
          tells = subst (λ l. Tells byte history l (Fed (Some word) ∷ history) None (Some (Whole (Some word)))) here.stands.low
              (fetches refl refl refl here.wraps here.stands.leaves opened);
          told = with_jump (0xE000 + to);
          wraps = wraps;
          stands = jumped.stands;
          fits = steps.fits_turned at done fault stroke x0 y0 x y z first low_byte s0 s1 s2 s3 scale din drew_so_far here.fits.x here.fits.y here.fits.scale here.fits.low
              to a0 a1 a2 a3;
          small = small;
          said = subst (λ r. ShowsReply r (core_of (to_of to a0 a1 a2 a3)) (drew_so_far ++ [])) jumped.more (refl, refl);
        })

    is_turning : 0xC000 ≤ word → word < 0xE000 → is_turn here.stands.run.held word ≡ true
    is_turning more less = subst (λ h. is_turn h word ≡ true) (sym held_is) (rw (le-leb 0xC000 word more) (rw (lt-ltb word 0xE000 less) refl))

    low_in : low_byte < 256
    low_in = here.fits.low

    went_call : part 4 4 din ≡ 12 → Went byte (cells.clock (it 1 1 0) byte) drew_so_far history low
    went_call e =
        let small_low = low_in in
        let turn = wrapping.turns here.wraps here.stands.leaves (is_turning (omega arith) (omega arith)) in
        let less : nat_lt word 0xD000 ≡ true = lt-ltb word 0xD000 (omega arith) in
        let to_is : jump_of (four s0 s1 s2 s3) word ≡ 0xE000 + joined 8 low_byte (part 0 4 din) = rw less (omega arith) in
        let left : wrapping.turned (four s0 s1 s2 s3) (on (wanted here.stands.run.visits here.stands.run.held) 1) word ≡ four (add 12 at 1) s0 s1 s2 =
        rw less (ap (λ n. four ((n + 1) % 4096) s0 s1 s2) (sym at_is)) in
        went_turn (joined 8 low_byte (part 0 4 din)) (add 12 at 1) s0 s1 s2 (omega arith)
        (steps.call_is at done fault stroke x0 y0 x y z first low_byte s0 s1 s2 s3 scale din e)
        (subst (Turns (with_jump (0xE000 + joined 8 low_byte (part 0 4 din)))) left
        (subst (λ n. Turns (with_jump n) (wrapping.turned (four s0 s1 s2 s3) (on (wanted here.stands.run.visits here.stands.run.held) 1) word)) to_is turn))
        (record { s0 = omega arith; s1 = here.small.s0; s2 = here.small.s1; s3 = here.small.s2 })

    went_return : part 4 4 din ≡ 13 → Went byte (cells.clock (it 1 1 0) byte) drew_so_far history low
    went_return e =
        let small_low = low_in in
        let turn = wrapping.turns here.wraps here.stands.leaves (is_turning (omega arith) (omega arith)) in
        let more : nat_lt word 0xD000 ≡ false = le-ltb word 0xD000 (omega arith) in
        let to_is : jump_of (four s0 s1 s2 s3) word ≡ 0xE000 + s0 = rw more refl in
        let left : wrapping.turned (four s0 s1 s2 s3) (on (wanted here.stands.run.visits here.stands.run.held) 1) word ≡ four s1 s2 s3 s0 = rw more refl in
        went_turn s0 s1 s2 s3 s0 here.small.s0 (steps.return_is at done fault stroke x0 y0 x y z first low_byte s0 s1 s2 s3 scale din e)
        (subst (Turns (with_jump (0xE000 + s0))) left
        (subst (λ n. Turns (with_jump n) (wrapping.turned (four s0 s1 s2 s3) (on (wanted here.stands.run.visits here.stands.run.held) 1) word)) to_is turn))
        (record { s0 = here.small.s1; s1 = here.small.s2; s2 = here.small.s3; s3 = here.small.s0 })

  went : {is_open high second reset start valid hole : ℕ}
      → Kind at done fault stroke x0 y0 x y z first low_byte s0 s1 s2 s3 scale din is_open high second reset start valid hole
      → Here (it is_open high second) drew_so_far history told low → ArePins (pins reset start valid hole)
      → Went (pins reset start valid hole) (cells.clock (it is_open high second) (pins reset start valid hole)) drew_so_far history low
  went (same {is_open = i} {high = h} {second = s} {reset = r} {start = t} {valid = v} {hole = o} is plain) here are =
      went_same i h s r t v o here are is.0 is.1 plain
  went (turns (calls e)) here are = went_call here are.din e
  went (turns (returns e)) here are = went_return here are.din e

-- one clock of any core that fits
step : (it : cells.Wraps) (pins : Pins) (so_far : List Stroke) (history told : List Told) (low : Option ℕ) → Here it so_far history told low → ArePins pins
    → Went pins (cells.clock it pins) so_far history low
step it pins so_far history told low here are =
    went it.at it.done it.fault it.stroke it.x0 it.y0 it.x it.y it.z it.first it.low it.s0 it.s1 it.s2 it.s3 it.scale pins.din so_far history told low
    (by_pins it.at it.done it.fault it.stroke it.x0 it.y0 it.x it.y it.z it.first it.low it.s0 it.s1 it.s2 it.s3 it.scale pins.din
    pins.reset pins.start pins.valid pins.hole it.is_open it.high it.second are.reset are.start are.valid are.hole here.fits.opened here.fits.high here.fits.second)
    here are

record Stands (list : List Pins) : Type 0 where
  history : List Told
  low : Option ℕ
  found : Option Met
  hears : Hears list history low found
  told : List Told
  here : Here (after list) (drew list) history told low
  said : Said found (core_of (after list)) (drew list) here.stands.run

stand : (list : List Pins) → All ArePins list → Stands list
stand [] all = record {
  history = [];
  low = None;
  found = None;
  hears = powers;
  told = [];
  here = record {
    wraps = wrapping.new;
    stands = stands_new (machine_of core.zeros []) refl refl refl;
    fits = record { opened = omega arith; high = omega arith; second = omega arith; low = omega arith; first = λ is. absurd (omega arith); depth = omega arith; x = omega arith; y = omega arith; scale = omega arith };
    small = record { s0 = omega arith; s1 = omega arith; s2 = omega arith; s3 = omega arith };
  };
  said = (refl, refl, refl);
}
stand (pins ∷ list) all =
    let was = stand list (All-tail ArePins pins list all) in
    let did = step (after list) pins (drew list) was.history was.told was.low was.here (All-head ArePins pins list all) in
    record {
      history = did.history';
      low = did.low';
      found = did.found;
      hears = clocks was.hears did.tells;
      told = did.told;
      here = record { wraps = did.wraps; stands = did.stands; fits = did.fits; small = did.small };
      said = did.said;
    }

agrees_of : (list : List Pins) → Stands list → Agrees list
agrees_of list is =
    let it = after list in
    let run = is.here.stands.run in
    record {
      history = is.history;
      low = is.low;
      found = is.found;
      hears = is.hears;
      told = is.told;
      wraps = is.here.wraps;
      run = run;
      leaves = is.here.stands.leaves;
      halted = halted_is (nat_eq it.is_open 0) ∙ ap (λ b. bit (not b)) is.here.stands.stands.is_open;
      beam = is.here.stands.stands.beam;
      at = λ opened. (is.here.stands.stands.running opened).at;
      high = λ opened. high_is it.high it.low is.here.fits.high ∙ ap (λ (l : Option ℕ). bit (is_some l)) is.here.stands.low;
      lines = λ opened. (is.here.stands.stands.running opened).strokes;
      said = is.said;
    }

pub wraps_refines_law : WrapsRefines
wraps_refines_law list all = agrees_of list (stand list all)

pub wraps_tells_law : WrapsTells
wraps_tells_law it pins = (refl, refl, refl, refl, refl, refl, refl, refl, refl, refl)
