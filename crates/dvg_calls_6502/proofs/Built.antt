-- What holds after a life, also while a frame is being built.
use Rattle.std.proofs.Common.{◌≡◌, ℕ, ◌+◌, ◌-◌, ◌*◌, ◌%◌, ◌<◌, ◌≤◌, Bool, true, false, not, List, [], ◌++◌}
use Rattle.std.proofs.Common.{refl, sym, ap, ◌∙◌, subst, arith, Some}
use Rattle.std.specs.Prelude.{Option, None, nat_eq}
use Rattle.dvg_mem.specs.declared.half.Half.{Half}
use Rattle.dvg_mem.specs.Areas.{other}
use Rattle.dvg_frame.specs.Bytes.{addressed}
use Rattle.dvg_driver.specs.Script.{Item, word_zero}
use Rattle.dvg_driver.specs.Place.{Place, Start, Booting, Resting, Writing, Waiting, Sending, place_of_life}
use Rattle.dvg_driver.specs.Stands.{Stage, StandsAfter, byte1_of}
use Rattle.dvg_calls_6502.specs.Processor.{Cpu, Access, run, at_return}
use Rattle.dvg_calls_6502.specs.Board.{IsLoaded, is_own, is_ram, is_hardware, goal_in}
use Rattle.dvg_calls_6502.specs.Holds.{Holds, HoldsPlace}
use Rattle.dvg_calls_6502.specs.Routines.{IsBusy}
use Rattle.dvg_calls_6502.specs.Build.{IsBuilding}
use Rattle.dvg_calls_6502.proofs.ProcessorRuns.{at, returned}
use Rattle.dvg_calls_6502.proofs.Memory.{laid, page_of, phase_is}
use Rattle.dvg_calls_6502.proofs.DriverInMemory.{Stood, stood_on}
use Rattle.dvg_calls_6502.proofs.LifeByAccesses.{Claim, GoesTo, stood_in, goes_as, idle_stretch, finish}
use Rattle.dvg_calls_6502.proofs.TickCall.{TickMakes, GoesByTicks, stood_ticks}
use Rattle.dvg_calls_6502.proofs.TicksRun.{Leaves}
use Rattle.dvg_calls_6502.proofs.LogsGrow.{same_end}
use Rattle.dvg_calls_6502.proofs.DvgRun.{run_spares, run_goes}
use Rattle.dvg_calls_6502.proofs.Offering.{not_idle}

-- the driver's bytes alone matter to what is being built
pub building_on : (mem now : ℕ → ℕ) (half : Half) (flipped : Bool) (rest : List ℕ)
    → ((b : ℕ) → is_own b ≡ true → now b ≡ mem b) → IsBuilding mem half flipped rest → IsBuilding now half flipped rest
building_on mem now half flipped rest own b =
    let p13 = own 0x13 refl in
    let p15 = own 0x15 refl in
    let p16 = own 0x16 refl in
    let page = b.page in
    let begun = b.begun in
    let fits = b.fits in
    record {
      phase = own 0x10 refl ∙ b.phase;
      free = own 0x11 refl ∙ b.free;
      publish = own 0x12 refl ∙ b.publish;
      low = own 0x14 refl ∙ b.low;
      page = omega (arith, p15, p16, page);
      even = ap (λ n. n % 2) p13 ∙ b.even;
      begun = omega (arith, p13, p16, begun);
      some = b.some;
      fits = omega (arith, p13, p16, fits);
    }

pub goal_on : (mem now : ℕ → ℕ) → ((b : ℕ) → is_own b ≡ true → now b ≡ mem b) → goal_in now ≡ goal_in mem
goal_on mem now own =
    let p13 = own 0x13 refl in
    let p14 = own 0x14 refl in
    let p15 = own 0x15 refl in
    omega (arith, p13, p14, p15)

-- the stage in which these bytes of a frame are to come, from an address on
abbrev pub stage_at : ℕ → Half → Bool → List ℕ → Stage
stage_at goal half flipped left = record {
  place = Writing (addressed (goal - 0x4000) left ++ word_zero (other half) (not flipped));
  half = half;
  flipped = flipped;
}

-- a driver of this memory builds a frame after a life, of which so many bytes were put, and these are still to come; byte
-- 001 is what the life tells
pub record Built (mem : ℕ → ℕ) (frame : ℕ × List ℕ) (life : List Item) : Type 0 where
  pub half : Half
  pub flipped : Bool
  pub peeked : ℕ
  pub stands : StandsAfter (stage_at (goal_in mem) half flipped frame.1) peeked life
  pub building : IsBuilding mem half flipped frame.1
  pub put : 256 * mem 0x16 + mem 0x13 ≡ 2 + frame.0
  pub byte1 : mem 0x4001 ≡ byte1_of peeked life
  pub loaded : IsLoaded mem

built_on : (mem now : ℕ → ℕ) (frame : ℕ × List ℕ) (life : List Item) → Built mem frame life → IsLoaded now
    → ((b : ℕ) → is_own b ≡ true → now b ≡ mem b) → now 0x4001 ≡ mem 0x4001 → Built now frame life
built_on mem now frame life built load own same = record {
  half = built.half;
  flipped = built.flipped;
  peeked = built.peeked;
  stands = subst (λ p. StandsAfter (stage_at p built.half built.flipped frame.1) built.peeked life) (sym (goal_on mem now own))
      built.stands;
  building = building_on mem now built.half built.flipped frame.1 own built.building;
  put = let p13 = own 0x13 refl in let p16 = own 0x16 refl in let is = built.put in omega (arith, p13, p16, is);
  byte1 = same ∙ built.byte1;
  loaded = load;
}

-- a driver stands after a life, or builds a frame
abbrev pub holds_in : (begin stop : ℕ) → Option (ℕ × List ℕ) → Claim
holds_in begin stop None mem life = Stood mem begin stop life
holds_in begin stop (Some frame) mem life = Built mem frame life

pub place_now : (begin stop : ℕ) (frame : Option (ℕ × List ℕ)) (mem : ℕ → ℕ) (life : List Item)
    → holds_in begin stop frame mem life → (place : Place) × (place_of_life life ≡ Some place)
place_now begin stop None mem life stood = (stood.stage.place, stood.stands.place)
place_now begin stop (Some frame) mem life built =
    ((stage_at (goal_in mem) built.half built.flipped frame.1).place, built.stands.place)

pub holds_on : (begin stop : ℕ) (frame : Option (ℕ × List ℕ)) (mem now : ℕ → ℕ) (life : List Item)
    → holds_in begin stop frame mem life
    → IsLoaded now → ((b : ℕ) → is_own b ≡ true → now b ≡ mem b) → ((b : ℕ) → is_ram b ≡ true → now b ≡ mem b)
    → (mem 0x10 ≡ 0x80 → (b : ℕ) → begin ≤ b → b < stop → 0x200 ≤ b → is_hardware b ≡ false → now b ≡ mem b)
    → holds_in begin stop frame now life
holds_on begin stop None mem now life stood load own ram table = stood_on mem now begin stop life stood load own ram table
holds_on begin stop (Some frame) mem now life built load own ram table =
    built_on mem now frame life built load own (ram 0x4001 refl)

-- a driver is idle where it rests, and nowhere else
module _ (mem : ℕ → ℕ) (begin stop : ℕ) (frame : Option (ℕ × List ℕ)) (life : List Item) (P : Type 0)
    (busy : nat_eq (mem 0x10) 2 ≡ false → P)
    (rests : frame ≡ None → (stood : Stood mem begin stop life) (first : Bool) → stood.stage.place ≡ Resting first
    → Holds mem begin stop (record { place = Resting first; half = stood.stage.half; flipped = stood.stage.flipped })
    → P) where
  pub by_rest : holds_in begin stop frame mem life → P
  by_rest holds = at_frame frame refl holds
    where
      at_frame : (f : Option (ℕ × List ℕ)) → frame ≡ f → holds_in begin stop f mem life → P
      at_frame (Some f) is built = busy (ap (λ p. nat_eq p 2) built.building.phase)
      at_frame None none stood = at_place stood.stage.place refl
        where
          elsewhere : IsBusy stood.stage.place → P
          elsewhere is = busy
              (not_idle mem begin stop stood.stage.place stood.stage.half stood.stage.flipped stood.holds.place is)

          at_place : (place : Place) → stood.stage.place ≡ place → P
          at_place (Resting first) is = rests none stood first is (record {
            flipped = stood.holds.flipped;
            place = subst (λ place. HoldsPlace mem begin stop place stood.stage.half stood.stage.flipped) is
                stood.holds.place;
          })
          at_place _ is = elsewhere (subst IsBusy (sym is) tt)

-- a driver that builds, at a place of the code
module _ (q a x y s : ℕ) (n z c v d i : Bool) (mem flags : ℕ → ℕ) (log : List Access) (begin stop : ℕ) (frame : ℕ × List ℕ)
    (life : List Item) where
  abbrev page : List ℕ
  page = page_of 7 (mem 0x11) (mem 0x12) (mem 0x13) (mem 0x14) (mem 0x15) (mem 0x16) (mem 0x17) (mem 0x18) (mem 0x19)
      (mem 0x1A)

  abbrev from : ℕ → Cpu
  from pc = at pc a x y s n z c v d i (laid page mem) flags log

  -- a tick leaves it as it is
  idles : Built (laid page mem) frame life → TickMakes (holds_in begin stop (Some frame)) q (from 0x686A) begin stop life
  idles built = record {
    steps = 15;
    items = [];
    events = [];
    returns = refl;
    stack = refl;
    accesses = refl;
    shown = tt;
    placed = place_now begin stop (Some frame) (laid page mem) life built;
    after = built;
    kept = λ b own out. refl;
    steady = λ tables covers. refl;
    there = refl;
  }

  -- dvg_run returns at once
  runs : Built (laid page mem) frame life → (k : ℕ) → GoesTo (holds_in begin stop (Some frame)) s k (from 0x6809) begin stop life
  runs built k = finish (holds_in begin stop (Some frame)) s k (from 0x6809) begin stop life 6
      (idle_stretch s (from 0x6809) 6 begin stop life (place_now begin stop (Some frame) (laid page mem) life built) refl
      (λ tables. refl)) (returned s (run s 6 (from 0x6809)) refl refl) refl built

  runs_spare : (k : ℕ) → at_return s (run s k (from 0x6809)) ≡ true
      → Leaves s (run s k (from 0x6809)).mem (from 0x6809).mem
  runs_spare k back b own past out not0 not1 = ap (λ (c : Cpu). c.mem b)
      (same_end s k 6 (from 0x6809) back (returned s (run s 6 (from 0x6809)) refl refl))

holds_ticks : (begin stop : ℕ) (frame : Option (ℕ × List ℕ)) (q : ℕ) (cpu : Cpu) (life : List Item) → cpu.pc ≡ 0x686A
    → holds_in begin stop frame cpu.mem life → TickMakes (holds_in begin stop frame) q cpu begin stop life
holds_ticks begin stop None q cpu life at_pc stood =
    let did = stood_ticks begin stop q cpu life at_pc stood in
    record {
      steps = did.steps;
      items = did.items;
      events = did.events;
      returns = did.returns;
      stack = did.stack;
      accesses = did.accesses;
      shown = did.shown;
      placed = did.placed;
      after = did.after;
      kept = did.kept;
      steady = did.steady;
      there = did.there;
    }
holds_ticks begin stop (Some frame) q cpu life at_pc built =
    let is = phase_is cpu 0x686A 7 at_pc built.building.phase built.loaded in
    subst (λ (k : Cpu). TickMakes (holds_in begin stop (Some frame)) q k begin stop life) is
    (idles q cpu.a cpu.x cpu.y cpu.s cpu.n cpu.z cpu.c cpu.v cpu.d cpu.i cpu.mem cpu.flags cpu.log begin stop frame life
    (subst (λ (m : ℕ → ℕ). Built m frame life) (ap (λ (k : Cpu). k.mem) (sym is)) built))

pub holds_goes : (begin stop : ℕ) (frame : Option (ℕ × List ℕ)) → GoesByTicks (holds_in begin stop frame) begin stop
holds_goes begin stop frame = record {
  loaded = load frame;
  placed = place_now begin stop frame;
  stays = holds_on begin stop frame;
  ticks = holds_ticks begin stop frame;
}
  where
    load : (frame : Option (ℕ × List ℕ)) (mem : ℕ → ℕ) (life : List Item) → holds_in begin stop frame mem life
        → IsLoaded mem
    load None mem life stood = stood.loaded
    load (Some frame) mem life built = built.loaded

pub run_goes_on : (k : ℕ) (cpu : Cpu) (begin stop : ℕ) (frame : Option (ℕ × List ℕ)) (life : List Item)
    → cpu.pc ≡ 0x6809 → cpu.s < 256 → holds_in begin stop frame cpu.mem life
    → GoesTo (holds_in begin stop frame) cpu.s k cpu begin stop life
run_goes_on k cpu begin stop None life at_pc small stood =
    goes_as (stood_in begin stop) (holds_in begin stop None) cpu.s k cpu begin stop life (λ mem after is. is)
    (run_goes k cpu begin stop life at_pc small stood)
run_goes_on k cpu begin stop (Some frame) life at_pc small built =
    let is = phase_is cpu 0x6809 7 at_pc built.building.phase built.loaded in
    subst (λ (j : Cpu). GoesTo (holds_in begin stop (Some frame)) cpu.s k j begin stop life) is
    (runs cpu.s cpu.a cpu.x cpu.y cpu.s cpu.n cpu.z cpu.c cpu.v cpu.d cpu.i cpu.mem cpu.flags cpu.log begin stop frame life
    (subst (λ (m : ℕ → ℕ). Built m frame life) (ap (λ (k : Cpu). k.mem) (sym is)) built) k)

-- what dvg_run leaves of memory, up to its return
pub run_leaves : (k : ℕ) (cpu : Cpu) (begin stop : ℕ) (frame : Option (ℕ × List ℕ)) (life : List Item)
    → cpu.pc ≡ 0x6809 → cpu.s < 256 → holds_in begin stop frame cpu.mem life
    → at_return cpu.s (run cpu.s k cpu) ≡ true → Leaves cpu.s (run cpu.s k cpu).mem cpu.mem
run_leaves k cpu begin stop None life at_pc small stood back = run_spares k cpu begin stop life at_pc small stood back
run_leaves k cpu begin stop (Some frame) life at_pc small built back =
    let is = phase_is cpu 0x6809 7 at_pc built.building.phase built.loaded in
    subst (λ (j : Cpu). at_return cpu.s (run cpu.s k j) ≡ true → Leaves cpu.s (run cpu.s k j).mem j.mem) is
    (runs_spare cpu.s cpu.a cpu.x cpu.y cpu.s cpu.n cpu.z cpu.c cpu.v cpu.d cpu.i cpu.mem cpu.flags cpu.log begin stop frame life k) back
