-- Calls that build a frame, and what they make of a life.
use Rattle.std.proofs.Common.{◌≡◌, ℕ, suc, inl, inr, ◌+◌, ◌-◌, ◌*◌, ◌%◌, ◌<◌, ◌≤◌, Bool, true, false, not, List, [], ◌∷◌}
use Rattle.std.proofs.Common.{◌++◌, length, refl, sym, ap, ◌∙◌, subst, arith, Some, leb-true, le-leb, drop}
use Rattle.std.proofs.Math.Seq.{drop-append_seam}
use Rattle.std.proofs.lemmas.Bool.{ne_eqb, leb-false}
use Rattle.std.specs.Prelude.{Option, None, nat_eq, nat_le, nat_lt, ◌⊎◌, ◌||◌, if◌then◌else◌}
use Rattle.dvg_mem.specs.declared.half.Half.{Half}
use Rattle.dvg_mem.specs.Areas.{other, half_of_high}
use Rattle.dvg_frame.specs.Bytes.{addressed}
use Rattle.dvg_driver.specs.declared.action.Action.TheVariants.{Wrote}
use Rattle.dvg_driver.specs.Script.{Item, Did, word_zero, has_flip}
use Rattle.dvg_driver.specs.Place.{Place, Start, Booting, Resting, Writing, Waiting, Sending, place_of_life}
use Rattle.dvg_driver.specs.Stands.{byte1_of}
use Rattle.dvg_calls_6502.specs.Processor.{Cpu, run, at_return}
use Rattle.dvg_calls_6502.specs.Board.{seen, goal_in}
use Rattle.dvg_calls_6502.specs.Holds.{HoldsPlace, IsFeeding}
use Rattle.dvg_calls_6502.specs.Routines.{Enters, Part, Put, Pair, Labs, Vector, begins, put_by}
use Rattle.dvg_calls_6502.specs.Calls.{Puts, Close, AreShown, Brings, IsRoomFor, put_on}
use Rattle.dvg_calls_6502.specs.Build.{IsBuilding, PutsRefuse, OpenRefuses, CloseRefuses, put_items, written}
use Rattle.dvg_calls_6502.proofs.ProcessorRuns.{returned}
use Rattle.dvg_calls_6502.proofs.Memory.{both_true}
use Rattle.dvg_calls_6502.proofs.LogsGrow.{same_end}
use Rattle.dvg_calls_6502.proofs.TickDoesNext.{append_none}
use Rattle.dvg_calls_6502.proofs.DriverInMemory.{Stood}
use Rattle.dvg_calls_6502.proofs.LifeByAccesses.{GoesTo, append_items, finish}
use Rattle.dvg_calls_6502.proofs.BuildScript.{builds_script}
use Rattle.dvg_calls_6502.proofs.Building.{BuildsSo, goal_is, goal_low, put_steadily}
use Rattle.dvg_calls_6502.proofs.Pairing.{pair_steadily, labs_steadily}
use Rattle.dvg_calls_6502.proofs.OpenAndClose.{ClosesSo, close_steadily}
use Rattle.dvg_calls_6502.proofs.Refusing.{Refuses, refused_so, put_refused, pair_refused, labs_refused, full_put, full_pair, full_labs}
use Rattle.dvg_calls_6502.proofs.Refusing.{open_refused, close_refused}
use Rattle.dvg_calls_6502.proofs.VectorBuilds.{vector_steadily, refuses_so, no_vector, not_building_vector, full_vector}
use Rattle.dvg_calls_6502.proofs.Built.{Built, holds_in, place_now, holds_on}

-- a call to its end: its steps go on a life, and it returns with this C; then this frame is being built, if any
pub record Ended (cpu : Cpu) (begin stop : ℕ) (c : Bool) (frame : Option (ℕ × List ℕ)) (life : List Item) : Type 0 where
  pub carry : (k : ℕ) → at_return cpu.s (run cpu.s k cpu) ≡ true → (run cpu.s k cpu).c ≡ c
  pub goes : (k : ℕ) → GoesTo (holds_in begin stop frame) cpu.s k cpu begin stop life

-- a refused call
pub refused_holds : (cpu : Cpu) (begin stop : ℕ) (frame : Option (ℕ × List ℕ)) (life : List Item) → (did : Refuses cpu)
    → holds_in begin stop frame cpu.mem life → holds_in begin stop frame did.memory life
refused_holds cpu begin stop frame life did holds = holds_on begin stop frame cpu.mem did.memory life holds did.loaded did.own
    (λ b ram. let low = leb-true 0x4000 b (both_true (nat_le 0x4000 b) (nat_lt b 0x4800) ram).0 in
    did.far b (omega (arith, low))) (λ writing b low high far device. did.far b far)

refused_ends : (cpu : Cpu) (begin stop : ℕ) (frame : Option (ℕ × List ℕ)) (life : List Item) → cpu.log ≡ [] → Refuses cpu
    → holds_in begin stop frame cpu.mem life → Ended cpu begin stop true frame life
refused_ends cpu begin stop frame life no_log did holds =
    let back = returned cpu.s (run cpu.s did.comes.steps cpu) did.comes.returns did.comes.stack in
    record {
      carry = λ k here. ap (λ (j : Cpu). j.c) (same_end cpu.s k did.comes.steps cpu here back) ∙ did.comes.carry;
      goes = λ k. finish (holds_in begin stop frame) cpu.s k cpu begin stop life did.comes.steps
          (record {
            items = [];
            accesses = [];
            logged = did.comes.accesses ∙ sym (ap seen no_log);
            shown = tt;
            placed = place_now begin stop frame cpu.mem life holds;
            steady = λ tables covers. did.comes.steady tables refl;
          })
          back did.comes.there
          (subst (λ (m : ℕ → ℕ). holds_in begin stop frame m life) (sym did.comes.memory)
          (refused_holds cpu begin stop frame life did holds));
    }

-- what is written amid a frame is no flip, and not byte 001
put_quiet : (a : ℕ) (now : List ℕ) (peeked : ℕ) (life : List Item) → 0x4002 ≤ a
    → (byte1_of peeked (put_items a now ++ life) ≡ byte1_of peeked life)
    × (has_flip (put_items a now ++ life) ≡ has_flip life)
put_quiet a [] peeked life low = (refl, refl)
put_quiet a (byte ∷ now) peeked life low =
    let item = Did (Wrote (a - 0x4000) byte) in
    let more = put_quiet (suc a) now peeked (item ∷ life) (omega (arith, low)) in
    let away : nat_eq (a - 0x4000) 1 ≡ false = ne_eqb (a - 0x4000) 1 (λ e. absurd (omega (arith, e, low))) in
    let joined = append_items (put_items (suc a) now) (item ∷ []) life in (
      ap (byte1_of peeked) joined ∙ more.0 ∙ ap (λ (t : Bool). if t then byte else byte1_of peeked life) away,
      ap has_flip joined ∙ more.1 ∙ ap (λ (t : Bool). t || has_flip life) away,
    )

-- no frame is being built where a driver stands
pub not_building : (mem : ℕ → ℕ) (begin stop : ℕ) (life : List Item) → Stood mem begin stop life
    → nat_eq (mem 0x10) 7 ≡ false
not_building mem begin stop life stood = by stood.stage.place stood.holds.place
  where
    by : (place : Place) → HoldsPlace mem begin stop place stood.stage.half stood.stage.flipped
        → nat_eq (mem 0x10) 7 ≡ false
    by Start h = ap (λ p. nat_eq p 7) h.0
    by Booting h = ap (λ p. nat_eq p 7) h.0
    by (Resting first) h = ap (λ p. nat_eq p 7) h.0
    by (Writing writes) h = writing h.1
      where
        writing : IsFeeding mem begin stop stood.stage.half stood.stage.flipped writes
            ⊎ ((mem 0x10 ≡ 3) × (writes ≡ word_zero (other stood.stage.half) true))
            ⊎ ((mem 0x10 ≡ 4) × (writes ≡ word_zero (other stood.stage.half) false)) → nat_eq (mem 0x10) 7 ≡ false
        writing (inl feeds) = ap (λ p. nat_eq p 7) feeds.phase
        writing (inr (inl is)) = ap (λ p. nat_eq p 7) is.0
        writing (inr (inr is)) = ap (λ p. nat_eq p 7) is.0
    by (Waiting first) h = ap (λ p. nat_eq p 7) h.0
    by (Sending first) h = ap (λ p. nat_eq p 7) h.0

-- a part that is put
module _ (cpu : Cpu) (begin stop count : ℕ) (now more : List ℕ) (life : List Item)
    (no_log : cpu.log ≡ []) (built : Built cpu.mem (count, now ++ more) life) (did : BuildsSo cpu built.half built.flipped now more) where
  abbrev goal : ℕ
  goal = goal_in cpu.mem

  abbrev end : Cpu
  end = run cpu.s did.0.steps cpu

  low : 0x4002 ≤ goal
  low = goal_low cpu.mem built.half built.flipped (now ++ more) built.loaded built.building

  script : AreShown (put_items goal now) (written goal now)
      × (place_of_life (put_items goal now ++ life)
      ≡ Some (Writing (addressed (goal + length now - 0x4000) more ++ word_zero (other built.half) (not built.flipped))))
  script = builds_script goal now more (other built.half) (not built.flipped) life low built.stands.place

  quiet : (byte1_of built.peeked (put_items goal now ++ life) ≡ byte1_of built.peeked life)
      × (has_flip (put_items goal now ++ life) ≡ has_flip life)
  quiet = put_quiet goal now built.peeked life low

  after : Built end.mem (count + length now, more) (put_items goal now ++ life)
  after = record {
    half = built.half;
    flipped = built.flipped;
    peeked = built.peeked;
    stands = record {
      place = script.1 ∙ ap (λ p. Some (Writing (addressed (p - 0x4000) more
          ++ word_zero (other built.half) (not built.flipped)))) (sym did.0.goes_on);
      half = built.stands.half ∙ ap half_of_high (sym quiet.0);
      flipped = quiet.1 ∙ built.stands.flipped;
    };
    building = did.0.building;
    put =
        let then_at = goal_is end.mem built.half built.flipped more did.0.loaded did.0.building in
        let from_at = goal_is cpu.mem built.half built.flipped (now ++ more) built.loaded built.building in
        let on = did.0.goes_on in
        let is = built.put in
        omega (arith, then_at, from_at, on, is);
    byte1 = did.1.byte1 ∙ built.byte1 ∙ sym quiet.0;
    loaded = did.0.loaded;
  }

  put_ends : Ended cpu begin stop false (Some (count + length now, more)) life
  put_ends = record {
    carry = λ k here. ap (λ (j : Cpu). j.c) (same_end cpu.s k did.0.steps cpu here did.0.returns) ∙ did.0.carry;
    goes = λ k. finish (holds_in begin stop (Some (count + length now, more))) cpu.s k cpu begin stop life did.0.steps
        (record {
          items = put_items goal now;
          accesses = written goal now;
          logged = did.0.shows ∙ sym (append_none (written goal now))
              ∙ ap (λ l. written goal now ++ seen l) (sym no_log);
          shown = script.0;
          placed = (_, script.1);
          steady = λ tables covers. did.1.steady tables;
        })
        did.0.returns did.1.there after;
  }

part_builds : (part : Part) (cpu : Cpu) (half : Half) (flipped : Bool) (more : List ℕ) → Enters cpu (begins part)
    → 1 ≤ length (put_by part cpu) → IsBuilding cpu.mem half flipped (put_by part cpu ++ more) → 2 ≤ length more
    → BuildsSo cpu half flipped (put_by part cpu) more
part_builds Put cpu half flipped more enters any building some = put_steadily cpu half flipped more enters building some
part_builds Pair cpu half flipped more enters any building some = pair_steadily cpu half flipped more enters building some
part_builds Labs cpu half flipped more enters any building some = labs_steadily cpu half flipped more enters building some
part_builds Vector cpu half flipped more enters any building some =
    vector_steadily cpu enters half flipped more some any building

-- no frame is being built
part_refused : (part : Part) (cpu : Cpu) → Enters cpu (begins part) → nat_eq (cpu.mem 0x10) 7 ≡ false → Refuses cpu
part_refused Put cpu enters other = put_refused cpu enters other
part_refused Pair cpu enters other = pair_refused cpu enters other
part_refused Labs cpu enters other = labs_refused cpu enters other
part_refused Vector cpu enters other = refuses_so cpu enters (not_building_vector cpu enters other)

-- it puts nothing
part_nothing : (part : Part) (cpu : Cpu) → Enters cpu (begins part) → length (put_by part cpu) < 1 → Refuses cpu
part_nothing Put cpu enters none = absurd (omega (arith, none))
part_nothing Pair cpu enters none = absurd (omega (arith, none))
part_nothing Labs cpu enters none = absurd (omega (arith, none))
part_nothing Vector cpu enters none = refuses_so cpu enters (no_vector cpu enters (empty (put_by Vector cpu) none))
  where
    empty : (l : List ℕ) → length l < 1 → l ≡ []
    empty [] less = refl
    empty (b ∷ l) less = absurd (omega (arith, less))

-- there is no room: the last page is full
part_full : (part : Part) (cpu : Cpu) (left : ℕ) → Enters cpu (begins part) → cpu.mem 0x10 ≡ 7 → cpu.mem 0x13 % 2 ≡ 0
    → 2 ≤ left → 256 * cpu.mem 0x16 + cpu.mem 0x13 + left ≤ 1024
    → 1022 < 256 * cpu.mem 0x16 + cpu.mem 0x13 + length (put_by part cpu) → Refuses cpu
part_full Put cpu left enters phase even some fits above =
    let small = enters.loaded.bytes 0x13 in
    full_put cpu enters phase (le-leb 3 (cpu.mem 0x16) (omega (arith, small, above)))
    (le-leb 0xFE (cpu.mem 0x13) (omega (arith, small, even, some, fits, above)))
part_full Pair cpu left enters phase even some fits above =
    let small = enters.loaded.bytes 0x13 in
    full_pair cpu enters phase (le-leb 3 (cpu.mem 0x16) (omega (arith, small, above)))
    (le-leb 0xFC (cpu.mem 0x13) (omega (arith, small, even, some, fits, above)))
part_full Labs cpu left enters phase even some fits above =
    let small = enters.loaded.bytes 0x13 in
    full_labs cpu enters phase (le-leb 3 (cpu.mem 0x16) (omega (arith, small, above)))
    (le-leb 0xFC (cpu.mem 0x13) (omega (arith, small, even, some, fits, above)))
part_full Vector cpu left enters phase even some fits above =
    refuses_so cpu enters (full_vector cpu enters left phase even some fits above)

pub puts_refuse : PutsRefuse
puts_refuse part cpu enters (inl other) = refused_so cpu (part_refused part cpu enters other)
puts_refuse part cpu enters (inr room) =
    let built = room.3 in
    refused_so cpu (part_full part cpu (length room.2) enters built.phase built.even built.some built.fits room.4)

pub open_refuses : OpenRefuses
open_refuses cpu enters other = refused_so cpu (open_refused cpu enters other)

pub close_refuses : CloseRefuses
close_refuses cpu enters other = refused_so cpu (close_refused cpu enters other)

-- a call that puts a part: no frame is being built, there is room, or there is none
pub puts_none : (part : Part) (cpu : Cpu) (begin stop : ℕ) (life : List Item) → Enters cpu (begins part)
    → Stood cpu.mem begin stop life → Ended cpu begin stop true None life
puts_none part cpu begin stop life enters stood = refused_ends cpu begin stop None life enters.log
    (part_refused part cpu enters (not_building cpu.mem begin stop life stood)) stood

pub puts_room : (part : Part) (cpu : Cpu) (begin stop : ℕ) (frame : ℕ × List ℕ) (more : List ℕ) (life : List Item)
    → Enters cpu (begins part) → 1 ≤ length (put_by part cpu) → Built cpu.mem frame life
    → frame.1 ≡ put_by part cpu ++ more → 2 ≤ length more
    → Ended cpu begin stop false (put_on (put_by part cpu) (Some frame)) life
puts_room part cpu begin stop frame more life enters any built is some =
    let built' : Built cpu.mem (frame.0, put_by part cpu ++ more) life =
    subst (λ l. Built cpu.mem (frame.0, l) life) is built in
    subst (λ l. Ended cpu begin stop false (Some (frame.0 + length (put_by part cpu), l)) life)
    (sym (ap (drop (length (put_by part cpu))) is ∙ drop-append_seam (put_by part cpu) more))
    (put_ends cpu begin stop frame.0 (put_by part cpu) more life enters.log built'
    (part_builds part cpu built'.half built'.flipped more enters any built'.building some))

pub puts_over : (part : Part) (cpu : Cpu) (begin stop : ℕ) (frame : ℕ × List ℕ) (life : List Item)
    → Enters cpu (begins part) → Built cpu.mem frame life → (IsRoomFor part cpu frame.0 → ⊥)
    → Ended cpu begin stop true (Some frame) life
puts_over part cpu begin stop frame life enters built none =
    refused_ends cpu begin stop (Some frame) life enters.log (by (nat_le 1 width) refl) built
  where
    width : ℕ
    width = length (put_by part cpu)

    by : (t : Bool) → nat_le 1 width ≡ t → Refuses cpu
    by false is = part_nothing part cpu enters (leb-false 1 width is)
    by true is = full (nat_le (frame.0 + width) 1020) refl
      where
        full : (t : Bool) → nat_le (frame.0 + width) 1020 ≡ t → Refuses cpu
        full true less = absurd (none (leb-true 1 width is, leb-true (frame.0 + width) 1020 less))
        full false more = let above = leb-false (frame.0 + width) 1020 more in let put = built.put in
            part_full part cpu (length frame.1) enters built.building.phase built.building.even built.building.some
            built.building.fits (omega (arith, above, put))

-- its end, with the frame that is left
abbrev pub Ends : (cpu : Cpu) (begin stop : ℕ) (taken frame : Option (ℕ × List ℕ)) (life : List Item) → Type 0
Ends cpu begin stop taken frame life = (c : Bool) × Ended cpu begin stop c (if c then frame else taken) life

pub puts_end : (part : Part) (cpu : Cpu) (begin stop : ℕ) (frame : Option (ℕ × List ℕ)) (life : List Item)
    → Enters cpu (begins part) → Brings (Puts part) cpu frame → holds_in begin stop frame cpu.mem life
    → Ends cpu begin stop (put_on (put_by part cpu) frame) frame life
puts_end part cpu begin stop None life enters brings stood = (true, puts_none part cpu begin stop life enters stood)
puts_end part cpu begin stop (Some frame) life enters brings built =
    by (nat_le 1 (length (put_by part cpu))) refl (nat_le (frame.0 + length (put_by part cpu)) 1020) refl
  where
    by : (t : Bool) → nat_le 1 (length (put_by part cpu)) ≡ t
        → (u : Bool) → nat_le (frame.0 + length (put_by part cpu)) 1020 ≡ u
        → Ends cpu begin stop (put_on (put_by part cpu) (Some frame)) (Some frame) life
    by true is true less =
        let any = leb-true 1 (length (put_by part cpu)) is in
        let next = brings (any, leb-true (frame.0 + length (put_by part cpu)) 1020 less) in
        (false, puts_room part cpu begin stop frame next.0 life enters any built next.1 next.2)
    by false is u less = (
      true,
      puts_over part cpu begin stop frame life enters built
          (λ room. let none = leb-false 1 (length (put_by part cpu)) is in let some = room.0 in absurd (omega (arith, none, some))),
    )
    by true is false more = (
      true,
      puts_over part cpu begin stop frame life enters built
          (λ room. let above = leb-false (frame.0 + length (put_by part cpu)) 1020 more in
          let less = room.1 in absurd (omega (arith, above, less))),
    )

-- the HALT
module _ (cpu : Cpu) (begin stop count : ℕ) (life : List Item) (no_log : cpu.log ≡ [])
    (built : Built cpu.mem (count, 0x00 ∷ 0xB0 ∷ []) life) (did : ClosesSo cpu built.half built.flipped) where
  abbrev halt : List ℕ
  halt = 0x00 ∷ 0xB0 ∷ []

  abbrev here : ℕ
  here = goal_in cpu.mem

  here_low : 0x4002 ≤ here
  here_low = goal_low cpu.mem built.half built.flipped halt built.loaded built.building

  ends : AreShown (put_items here halt) (written here halt)
      × (place_of_life (put_items here halt ++ life)
      ≡ Some (Writing (word_zero (other built.half) (not built.flipped))))
  ends = builds_script here halt [] (other built.half) (not built.flipped) life here_low built.stands.place

  unseen : (byte1_of built.peeked (put_items here halt ++ life) ≡ byte1_of built.peeked life)
      × (has_flip (put_items here halt ++ life) ≡ has_flip life)
  unseen = put_quiet here halt built.peeked life here_low

  closed : Stood (run cpu.s did.0.steps cpu).mem begin stop (put_items here halt ++ life)
  closed = record {
    stage = record {
      place = Writing (word_zero (other built.half) (not built.flipped));
      half = built.half;
      flipped = built.flipped;
    };
    peeked = built.peeked;
    stands = record {
      place = ends.1;
      half = built.stands.half ∙ ap half_of_high (sym unseen.0);
      flipped = unseen.1 ∙ built.stands.flipped;
    };
    holds = did.0.holds begin stop;
    byte1 = did.1.byte1 ∙ built.byte1 ∙ sym unseen.0;
    loaded = did.0.loaded;
  }

  closes : Ended cpu begin stop false None life
  closes = record {
    carry = λ k back. ap (λ (j : Cpu). j.c) (same_end cpu.s k did.0.steps cpu back did.0.returns) ∙ did.0.carry;
    goes = λ k. finish (holds_in begin stop None) cpu.s k cpu begin stop life did.0.steps
        (record {
          items = put_items here halt;
          accesses = written here halt;
          logged = did.0.shows ∙ ap (λ l. written here halt ++ seen l) (sym no_log);
          shown = ends.0;
          placed = (_, ends.1);
          steady = λ tables covers. did.1.steady tables;
        })
        did.0.returns did.1.there closed;
  }

pub close_none : (cpu : Cpu) (begin stop : ℕ) (life : List Item) → Enters cpu 0x6A00 → Stood cpu.mem begin stop life
    → Ended cpu begin stop true None life
close_none cpu begin stop life enters stood = refused_ends cpu begin stop None life enters.log
    (close_refused cpu enters (not_building cpu.mem begin stop life stood)) stood

pub close_some : (cpu : Cpu) (begin stop : ℕ) (frame : ℕ × List ℕ) (life : List Item) → Enters cpu 0x6A00
    → Built cpu.mem frame life → frame.1 ≡ 0x00 ∷ 0xB0 ∷ [] → Ended cpu begin stop false None life
close_some cpu begin stop frame life enters built is =
    let built' : Built cpu.mem (frame.0, 0x00 ∷ 0xB0 ∷ []) life = subst (λ l. Built cpu.mem (frame.0, l) life) is built in
    closes cpu begin stop frame.0 life enters.log built'
    (close_steadily cpu built'.half built'.flipped enters built'.building)

pub close_ends : (cpu : Cpu) (begin stop : ℕ) (frame : Option (ℕ × List ℕ)) (life : List Item) → Enters cpu 0x6A00
    → Brings Close cpu frame → holds_in begin stop frame cpu.mem life → Ends cpu begin stop None frame life
close_ends cpu begin stop None life enters brings stood = (true, close_none cpu begin stop life enters stood)
close_ends cpu begin stop (Some frame) life enters brings built =
    (false, close_some cpu begin stop frame life enters built brings)
