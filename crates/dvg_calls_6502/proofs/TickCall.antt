-- A tick that another routine calls, from its JSR to its RTS.
use Rattle.std.proofs.Common.{◌≡◌, ◌≢◌, ℕ, suc, inl, inr, ◌+◌, ◌*◌, ◌%◌, ◌<◌, ◌≤◌, Bool, true, false, List, ◌∷◌, ◌++◌}
use Rattle.std.proofs.Common.{refl, sym, ap, ◌∙◌, subst, arith, Some, eq-eqb, le-leb, leb-true}
use Rattle.std.proofs.lemmas.Bool.{ne_eqb}
use Rattle.std.specs.Prelude.{nat_eq, nat_le, nat_lt, ◌⊎◌, ◌&&◌, if◌then◌else◌}
use Rattle.dvg_driver.specs.declared.action.Action.{Action}
use Rattle.dvg_driver.specs.declared.action.Action.TheVariants.{Peek, Wrote, Read, Sent, Idle}
use Rattle.dvg_driver.specs.Script.{Item}
use Rattle.dvg_driver.specs.Place.{Place, place_of_life}
use Rattle.dvg_calls_6502.specs.Processor.{Cpu, Access, Writes, Return, put, run, turn, does, decoded, opcodes, stack_place}
use Rattle.dvg_calls_6502.specs.Board.{IsLoaded, seen, is_own, is_ram, is_hardware}
use Rattle.dvg_calls_6502.specs.Amid.{is_kept, is_code, is_steady, are_steady}
use Rattle.dvg_calls_6502.specs.Routines.{acted}
use Rattle.dvg_calls_6502.specs.Calls.{AreShown}
use Rattle.dvg_calls_6502.proofs.ProcessorRuns.{at, run_more, returned, steady_more, and_true}
use Rattle.dvg_calls_6502.proofs.Memory.{AreSmall, laid, page_in, in_page, in_code, known, loaded, put_out, put_small, state_is, small_page}
use Rattle.dvg_calls_6502.proofs.Memory.{both_true, le_not}
use Rattle.dvg_calls_6502.proofs.FewAccesses.{low_plain}
use Rattle.dvg_calls_6502.proofs.PlainTicks.{Covers, IsInRam}
use Rattle.dvg_calls_6502.proofs.Steady.{rts_steady, code_kept}
use Rattle.dvg_calls_6502.proofs.TickDoesNext.{acts}
use Rattle.dvg_calls_6502.proofs.DriverInMemory.{Stood, stood_on, stood_tick, items_of, shown_items}
use Rattle.dvg_calls_6502.proofs.LifeByAccesses.{Claim, GoesTo, Keeps, Stretch, stood_in, finish}

-- what was put somewhere is found there
pub found : (p v : ℕ) (page : List ℕ) (mem : ℕ → ℕ) → in_page p ≡ false → in_code p ≡ false → laid page (put p v mem) p ≡ v
found p v page mem not_page not_code = sym (ap (λ (m : ℕ → ℕ). m p) (put_out p v page mem not_page not_code))
    ∙ ap (λ (t : Bool). if t then v else laid page mem p) (eq-eqb p p refl)

-- and nothing else is changed
pub past_low : (p v : ℕ) (page : List ℕ) (mem : ℕ → ℕ) → in_page p ≡ false → in_code p ≡ false → (b : ℕ) → b ≢ p
    → laid page (put p v mem) b ≡ laid page mem b
past_low p v page mem not_page not_code b not = sym (ap (λ (m : ℕ → ℕ). m b) (put_out p v page mem not_page not_code))
    ∙ ap (λ (t : Bool). if t then v else laid page mem b) (ne_eqb b p not)

pub on_stack : (p : ℕ) → 0x100 ≤ p → p < 0x200 → (in_page p ≡ false) × (in_code p ≡ false)
on_stack p low high =
    let a : nat_le 0x10 p ≡ true = le-leb 0x10 p (omega arith) in
    let b : nat_lt p 0x1B ≡ false = le_not (suc p) 0x1B (omega arith) in
    let d : nat_le 0x6800 p ≡ false = le_not 0x6800 p (omega arith) in
    (rw (a, b) refl, rw d refl)

-- what an action writes is in the vector RAM
acted_out : (action : Action) (mem : ℕ → ℕ) (b : ℕ) → IsInRam action → is_hardware b ≡ false → acted action mem b ≡ mem b
acted_out (Wrote a v) mem b in_ram out = ap (λ (t : Bool). if t then v else mem b)
    (ne_eqb b (0x4000 + a) (λ same. absurd (let is = subst (λ p. is_hardware p ≡ true) (sym same) there in cc)))
  where
    there : is_hardware (0x4000 + a) ≡ true
    there =
        let low : nat_le 0x4000 (0x4000 + a) ≡ true = le-leb 0x4000 (0x4000 + a) (omega arith) in
        let high : nat_lt (0x4000 + a) 0x4800 ≡ true = le-leb (suc (0x4000 + a)) 0x4800 (omega (arith, in_ram)) in
        rw (low, high) refl
acted_out _ mem b in_ram out = refl

-- the two places that call dvg_tick: in dvg_run, and in dvg_ticks
abbrev pub site_of : Bool → ℕ
site_of true = 0x6815
site_of false = 0x6862

abbrev back_of : Bool → ℕ
back_of true = 0x17
back_of false = 0x64

-- a tick, from its entry to its RTS, and what it makes of a life
pub record TickMakes (P : Claim) (q : ℕ) (cpu : Cpu) (begin stop : ℕ) (life : List Item) : Type 0 where
  pub steps : ℕ
  pub items : List Item
  pub events : List Access
  pub returns : (run q steps cpu).mem (run q steps cpu).pc ≡ 0x60
  pub stack : (run q steps cpu).s ≡ cpu.s
  pub accesses : seen (run q steps cpu).log ≡ events ++ seen cpu.log
  pub shown : AreShown items events
  pub placed : (place : Place) × (place_of_life (items ++ life) ≡ Some place)
  pub after : P (run q steps cpu).mem (items ++ life)
  pub kept : (b : ℕ) → is_own b ≡ false → is_hardware b ≡ false → (run q steps cpu).mem b ≡ cpu.mem b
  pub steady : Keeps begin stop q steps cpu
  pub there : is_code (run q steps cpu).pc ≡ true

-- what holds of a loaded memory after a life that has a place, stays where others leave the driver alone, and from which
-- a tick goes on
pub record GoesByTicks (P : Claim) (begin stop : ℕ) : Type 0 where
  pub loaded : (mem : ℕ → ℕ) (life : List Item) → P mem life → IsLoaded mem
  pub placed : (mem : ℕ → ℕ) (life : List Item) → P mem life → (place : Place) × (place_of_life life ≡ Some place)
  pub stays : (mem now : ℕ → ℕ) (life : List Item) → P mem life → IsLoaded now
      → ((b : ℕ) → is_own b ≡ true → now b ≡ mem b) → ((b : ℕ) → is_ram b ≡ true → now b ≡ mem b)
      → (mem 0x10 ≡ 0x80 → (b : ℕ) → begin ≤ b → b < stop → 0x200 ≤ b → is_hardware b ≡ false → now b ≡ mem b)
      → P now life
  pub ticks : (q : ℕ) (cpu : Cpu) (life : List Item) → cpu.pc ≡ 0x686A → P cpu.mem life
      → TickMakes P q cpu begin stop life

-- a tick of a driver that stands after a life
pub stood_ticks : (begin stop q : ℕ) (cpu : Cpu) (life : List Item) → cpu.pc ≡ 0x686A → Stood cpu.mem begin stop life
    → TickMakes (stood_in begin stop) q cpu begin stop life
stood_ticks begin stop q cpu life at_pc stood =
    let did = acts q cpu begin stop stood.stage stood.peeked life at_pc stood.loaded stood.holds stood.stands in
    let new = stood_tick q cpu begin stop stood.peeked life stood.byte1 did in
    record {
      steps = did.steps;
      items = items_of did.action;
      events = did.events;
      returns = did.returns;
      stack = did.stack;
      accesses = did.accesses;
      shown = shown_items did.action did.events did.shows;
      placed = (new.stage.place, new.stands.place);
      after = new;
      kept = λ b own out. did.kept b own (λ same. absurd (let e = subst (λ p. is_hardware p ≡ false) same out in cc))
          ∙ acted_out did.action cpu.mem b did.in_ram out;
      steady = did.steady;
      there = did.there;
    }

pub stood_goes : (begin stop : ℕ) → GoesByTicks (stood_in begin stop) begin stop
stood_goes begin stop = record {
  loaded = λ mem life stood. stood.loaded;
  placed = λ mem life stood. (stood.stage.place, stood.stands.place);
  stays = λ mem now life stood. stood_on mem now begin stop life stood;
  ticks = stood_ticks begin stop;
}

-- a call of dvg_tick
pub tick_goes : (P : Claim) (k : ℕ) (cpu : Cpu) (begin stop : ℕ) (life : List Item) → GoesByTicks P begin stop
    → cpu.pc ≡ 0x686A → P cpu.mem life → GoesTo P cpu.s k cpu begin stop life
tick_goes P k cpu begin stop life goes at_pc holds =
    let did = goes.ticks cpu.s cpu life at_pc holds in
    finish P cpu.s k cpu begin stop life did.steps
    (record {
      items = did.items;
      accesses = did.events;
      logged = did.accesses;
      shown = did.shown;
      placed = did.placed;
      steady = did.steady;
    })
    (returned cpu.s (run cpu.s did.steps cpu) did.returns did.stack) did.there did.after

-- a call of the tick from there, to its return
pub record TurnedTo (P : Claim) (q : ℕ) (site : Bool) (cpu : Cpu) (begin stop : ℕ) (life : List Item) : Type 0 where
  pub steps : ℕ
  pub some : 1 ≤ steps
  pub made : Stretch begin stop q cpu steps life
  pub pc : (run q steps cpu).pc ≡ site_of site + 3
  pub stack : (run q steps cpu).s ≡ q
  pub stood : P (run q steps cpu).mem (made.items ++ life)
  pub kept : (run q steps cpu).mem 0x1F ≡ cpu.mem 0x1F
  pub spared : (b : ℕ) → is_own b ≡ false → is_hardware b ≡ false → b ≢ stack_place q → b ≢ stack_place (q + 255)
      → (run q steps cpu).mem b ≡ cpu.mem b

-- the same, of a driver that stands
abbrev pub Turned : (q : ℕ) (site : Bool) → Cpu → (begin stop : ℕ) → List Item → Type 0
Turned q site cpu begin stop life = TurnedTo (stood_in begin stop) q site cpu begin stop life

-- a return within a call
pub rts : (q : ℕ) (cpu : Cpu) → cpu.mem cpu.pc ≡ 0x60 → nat_eq cpu.s q ≡ false → turn q cpu ≡ does Return cpu
rts q cpu opcode inner =
    ap (λ b. if (nat_eq b 0x60 && nat_eq cpu.s q) then cpu else does (decoded opcodes b) cpu) opcode
    ∙ ap (λ (t : Bool). if t then cpu else does Return cpu) inner

module _ (P : Claim) (begin stop : ℕ) (goes : GoesByTicks P begin stop) (q a x y : ℕ) (n z c v d i : Bool)
    (mem flags : ℕ → ℕ) (log : List Access) (load : IsLoaded mem) (q_small : q < 256) (site : Bool) (life : List Item)
    (stood : P mem life) where
  abbrev p0 : ℕ
  p0 = 0x100 + q % 256

  abbrev p1 : ℕ
  p1 = 0x100 + (q + 255) % 256

  abbrev inner : ℕ
  inner = (q + 254) % 256

  abbrev page : List ℕ
  page = page_in mem

  abbrev stacked : ℕ → ℕ
  stacked = put p1 (back_of site) (put p0 0x68 mem)

  abbrev log' : List Access
  log' = Writes p1 (back_of site) ∷ Writes p0 0x68 ∷ log

  abbrev from : Cpu
  from = at (site_of site) a x y q n z c v d i (laid page mem) flags log

  abbrev start : Cpu
  start = at 0x686A a x y inner n z c v d i (laid page stacked) flags log'

  out0 : (in_page p0 ≡ false) × (in_code p0 ≡ false)
  out0 = on_stack p0 (omega arith) (omega arith)

  out1 : (in_page p1 ≡ false) × (in_code p1 ≡ false)
  out1 = on_stack p1 (omega arith) (omega arith)

  pushed : (site : Bool) → run q 1 (at (site_of site) a x y q n z c v d i (laid page mem) flags log)
      ≡ at 0x686A a x y inner n z c v d i (put p1 (back_of site) (put p0 0x68 (laid page mem))) flags
      (Writes p1 (back_of site) ∷ Writes p0 0x68 ∷ log)
  pushed true = refl
  pushed false = refl

  called : run q 1 from ≡ start
  called = pushed site ∙ ap (λ m. at 0x686A a x y inner n z c v d i m flags log')
      (ap (put p1 (back_of site)) (put_out p0 0x68 page mem out0.0 out0.1)
      ∙ put_out p1 (back_of site) page (put p0 0x68 mem) out1.0 out1.1)

  quiet : seen log' ≡ seen log
  quiet =
      let a : nat_le 0x200 p1 ≡ false = le_not 0x200 p1 (omega arith) in
      let b : nat_le 0x200 p0 ≡ false = le_not 0x200 p0 (omega arith) in
      ap (λ (t : Bool). if t then Writes p1 (back_of site)
      ∷ seen (Writes p0 0x68 ∷ log) else seen (Writes p0 0x68 ∷ log)) a
      ∙ ap (λ (t : Bool). if t then Writes p0 0x68 ∷ seen log else seen log) b

  elsewhere : (b : ℕ) → (b < 0x100) ⊎ (0x200 ≤ b) → laid page stacked b ≡ mem b
  elsewhere b apart =
      past_low p1 (back_of site) page (put p0 0x68 mem) out1.0 out1.1 b (not_at p1 (omega arith) (omega arith) apart)
      ∙ past_low p0 0x68 page mem out0.0 out0.1 b (not_at p0 (omega arith) (omega arith) apart)
      ∙ sym (ap (λ (m : ℕ → ℕ). m b) (known mem load))
    where
      not_at : (p : ℕ) → 0x100 ≤ p → p < 0x200 → (b < 0x100) ⊎ (0x200 ≤ b) → b ≢ p
      not_at p low up (inl less) same = omega arith
      not_at p low up (inr more) same = omega arith

  small : AreSmall page
  small = small_page (load.bytes 0x10) (load.bytes 0x11) (load.bytes 0x12) (load.bytes 0x13) (load.bytes 0x14)
      (load.bytes 0x15) (load.bytes 0x16) (load.bytes 0x17) (load.bytes 0x18) (load.bytes 0x19) (load.bytes 0x1A)

  back_small : (site : Bool) → back_of site < 256
  back_small true = omega arith
  back_small false = omega arith

  load' : IsLoaded (laid page stacked)
  load' = loaded page stacked small
      (put_small p1 (back_of site) (put p0 0x68 mem) (back_small site) (put_small p0 0x68 mem (omega arith) load.bytes))

  stood' : P (laid page stacked) life
  stood' = goes.stays mem (laid page stacked) life stood load'
      (λ b own. let high = leb-true (suc b) 0x1B (both_true (nat_le 0x10 b) (nat_lt b 0x1B) own).1 in
      elsewhere b (inl (omega arith)))
      (λ b ram. let low = leb-true 0x4000 b (both_true (nat_le 0x4000 b) (nat_lt b 0x4800) ram).0 in
      elsewhere b (inr (omega arith)))
      (λ writing b low high far device. elsewhere b (inr far))

  did : TickMakes P q start begin stop life
  did = goes.ticks q start life refl stood'

  abbrev fin : Cpu
  fin = run q did.steps start

  inner_is : fin.s ≡ inner
  inner_is = did.stack

  not_q : nat_eq fin.s q ≡ false
  not_q = ap (λ s. nat_eq s q) inner_is ∙ ne_eqb inner q (λ same. absurd (omega arith))

  kept_low : (b : ℕ) → is_own b ≡ false → b < 0x2000 → fin.mem b ≡ laid page stacked b
  kept_low b own low = did.kept b own (low_plain b (omega (arith, low)))

  not_own : (p : ℕ) → 0x1B ≤ p → is_own p ≡ false
  not_own p low = let a : nat_le 0x10 p ≡ true = le-leb 0x10 p (omega arith) in
      let b : nat_lt p 0x1B ≡ false = le_not (suc p) 0x1B (omega arith) in rw (a, b) refl

  low_back : fin.mem (0x100 + (fin.s + 1) % 256) ≡ back_of site
  low_back =
      let e : 0x100 + (fin.s + 1) % 256 ≡ p1 = omega (arith, inner_is) in
      ap fin.mem e ∙ kept_low p1 (not_own p1 (omega arith)) (omega arith)
      ∙ found p1 (back_of site) page (put p0 0x68 mem) out1.0 out1.1

  high_back : fin.mem (0x100 + (fin.s + 2) % 256) ≡ 0x68
  high_back =
      let e : 0x100 + (fin.s + 2) % 256 ≡ p0 = omega (arith, inner_is) in
      ap fin.mem e ∙ kept_low p0 (not_own p0 (omega arith)) (omega arith)
      ∙ past_low p1 (back_of site) page (put p0 0x68 mem) out1.0 out1.1 p0 (λ same. absurd (omega arith))
      ∙ found p0 0x68 page mem out0.0 out0.1

  abbrev end : Cpu
  end = does Return fin

  ends : run q (1 + (did.steps + 1)) from ≡ end
  ends = run_more q (did.steps + 1) 1 from ∙ ap (run q 1) (run_more q 1 did.steps from ∙ ap (run q did.steps) called)
      ∙ rts q fin did.returns not_q

  site_is : (site : Bool) → (back_of site + 256 * 0x68 + 1) % 65536 ≡ site_of site + 3
  site_is true = refl
  site_is false = refl

  end_pc : end.pc ≡ site_of site + 3
  end_pc = ap (λ l. (l + 256 * fin.mem (0x100 + (fin.s + 2) % 256) + 1) % 65536) low_back
      ∙ ap (λ h. (back_of site + 256 * h + 1) % 65536) high_back ∙ site_is site

  call_steady : (site : Bool) (tables : ℕ → Bool)
      → are_steady (is_kept tables) q 1 (at (site_of site) a x y q n z c v d i (laid page mem) flags log) ≡ true
  call_steady true tables = refl
  call_steady false tables = refl

  all_steady : (tables : ℕ → Bool) → Covers tables begin stop
      → are_steady (is_kept tables) q (1 + (did.steps + 1)) from ≡ true
  all_steady tables covers =
      let to_fin : run q (did.steps + 1) from ≡ fin = run_more q 1 did.steps from ∙ ap (run q did.steps) called in
      let home : nat_eq ((fin.s + 2) % 256) q ≡ true = eq-eqb ((fin.s + 2) % 256) q (omega (arith, inner_is)) in
      steady_more (is_kept tables) q (did.steps + 1) 1 from
      (steady_more (is_kept tables) q 1 did.steps from (call_steady site tables)
      (ap (are_steady (is_kept tables) q did.steps) called ∙ did.steady tables covers))
      (ap (are_steady (is_kept tables) q 1) to_fin
      ∙ and_true (is_steady (is_kept tables) q fin) true
      (rts_steady (is_kept tables) q fin (code_kept tables fin.pc did.there) did.returns not_q home) refl)

  turned : TurnedTo P q site from begin stop life
  turned = record {
    steps = 1 + (did.steps + 1);
    some = omega arith;
    made = record {
      items = did.items;
      accesses = did.events;
      logged = ap (λ (k : Cpu). seen k.log) ends ∙ did.accesses ∙ ap (λ l. did.events ++ l) quiet;
      shown = did.shown;
      placed = did.placed;
      steady = all_steady;
    };
    pc = ap (λ (k : Cpu). k.pc) ends ∙ end_pc;
    stack = ap (λ (k : Cpu). k.s) ends ∙ omega (arith, inner_is);
    stood = subst (λ (k : Cpu). P k.mem (did.items ++ life)) (sym ends) did.after;
    kept = ap (λ (k : Cpu). k.mem 0x1F) ends ∙ kept_low 0x1F refl (omega arith) ∙ elsewhere 0x1F (inl (omega arith))
        ∙ ap (λ (m : ℕ → ℕ). m 0x1F) (known mem load);
    spared = λ b own out not0 not1. ap (λ (k : Cpu). k.mem b) ends ∙ did.kept b own out
        ∙ past_low p1 (back_of site) page (put p0 0x68 mem) out1.0 out1.1 b not1
        ∙ past_low p0 0x68 page mem out0.0 out0.1 b not0;
  }

-- from any state at one of the two places
pub tick_call_to : (P : Claim) (begin stop : ℕ) → GoesByTicks P begin stop → (q : ℕ) (site : Bool) (cpu : Cpu)
    (life : List Item) → q < 256 → cpu.pc ≡ site_of site → cpu.s ≡ q → P cpu.mem life
    → TurnedTo P q site cpu begin stop life
tick_call_to P begin stop goes q site cpu life q_small at_site at_q stood =
    let load = goes.loaded cpu.mem life stood in
    subst (λ (k : Cpu). TurnedTo P q site k begin stop life) (state_is cpu (site_of site) q at_site at_q load)
    (turned P begin stop goes q cpu.a cpu.x cpu.y cpu.n cpu.z cpu.c cpu.v cpu.d cpu.i cpu.mem cpu.flags cpu.log load q_small site life
    stood)

pub tick_call : (q : ℕ) (site : Bool) (cpu : Cpu) (begin stop : ℕ) (life : List Item) → q < 256
    → cpu.pc ≡ site_of site → cpu.s ≡ q → Stood cpu.mem begin stop life → Turned q site cpu begin stop life
tick_call q site cpu begin stop life q_small at_site at_q stood =
    tick_call_to (stood_in begin stop) begin stop (stood_goes begin stop) q site cpu life q_small at_site at_q stood
