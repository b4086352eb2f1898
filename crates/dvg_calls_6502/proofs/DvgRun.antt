-- dvg_run: ticks until the driver is idle.
use Rattle.std.proofs.Common.{◌≡◌, ◌≢◌, ℕ, zero, suc, inl, inr, ◌+◌, ◌-◌, ◌%◌, ◌/◌, ◌<◌, ◌≤◌, Bool, true, false, not}
use Rattle.std.proofs.Common.{List, [], ◌∷◌, ◌++◌, refl, sym, ap, ◌∙◌, subst, arith, eqb-true}
use Rattle.std.proofs.lemmas.Bool.{eqb-false}
use Rattle.std.specs.Prelude.{nat_eq, nat_le, ◌⊎◌, ◌&&◌, ◌||◌, if◌then◌else◌}
use Rattle.std.proofs.Math.Path.{fun_ext}
use Rattle.dvg_mem.specs.declared.half.Half.{Half}
use Rattle.dvg_mem.specs.Areas.{other}
use Rattle.dvg_driver.specs.Script.{Item, word_zero}
use Rattle.dvg_driver.specs.Place.{Place, Start, Booting, Resting, Writing, Waiting, Sending, place_of_life}
use Rattle.dvg_calls_6502.specs.Processor.{Cpu, Access, Reads, Writes, put, run, at_return}
use Rattle.dvg_calls_6502.specs.Board.{IsLoaded, seen, goal_in, is_ram}
use Rattle.dvg_calls_6502.specs.Amid.{is_kept, is_code, are_steady}
use Rattle.dvg_calls_6502.specs.Holds.{HoldsPlace, IsFeeding, publish_byte}
use Rattle.dvg_calls_6502.proofs.ProcessorRuns.{at, run_more, returned, steady_more}
use Rattle.dvg_calls_6502.proofs.Memory.{laid, page_of, page_in, known, state_is}
use Rattle.dvg_calls_6502.proofs.StoredByte.{phase_then}
use Rattle.dvg_calls_6502.proofs.DriverInMemory.{Stood}
use Rattle.dvg_calls_6502.proofs.LifeByAccesses.{Goes, Stretch, stood_in, idle_stretch, finish, go_on, append_items, append_logs, shown_both}
use Rattle.dvg_calls_6502.proofs.TickCall.{Turned, tick_call}
use Rattle.dvg_calls_6502.proofs.TicksRun.{Leaves}
use Rattle.dvg_calls_6502.proofs.Building.{laid_out, put_far}
use Rattle.dvg_calls_6502.proofs.LogsGrow.{Splits, split, stays, same_end}
use Rattle.dvg_calls_6502.proofs.BurstRun.{Reaches, pc_then}
use Rattle.dvg_calls_6502.proofs.BurstWord as word
use Rattle.dvg_calls_6502.proofs.BurstWord.{Bursts}

-- where a round begins: at dvg_run, or in the loop
abbrev pub Here : Bool → ℕ → Cpu → (begin stop : ℕ) → List Item → Type 0
Here true q cpu begin stop life = (cpu.pc ≡ 0x6809) × (cpu.s ≡ q) × Stood cpu.mem begin stop life
Here false q cpu begin stop life = Bursts q cpu begin stop life

-- a round: a stretch to the return, or to where another round begins
pub record Round (q : ℕ) (cpu : Cpu) (begin stop : ℕ) (life : List Item) : Type 0 where
  pub steps : ℕ
  pub some : 1 ≤ steps
  pub made : Stretch begin stop q cpu steps life
  pub spared : Leaves q (run q steps cpu).mem cpu.mem
  pub next : (((at_return q (run q steps cpu) ≡ true) × (is_code (run q steps cpu).pc ≡ true))
      × Stood (run q steps cpu).mem begin stop (made.items ++ life))
      ⊎ ((at_return q (run q steps cpu) ≡ false)
      × ((there : Bool) × Here there q (run q steps cpu) begin stop (made.items ++ life)))

-- a state whose opcode is known isn't at its return
open_at : (q : ℕ) (cpu : Cpu) (opcode : ℕ) → cpu.mem cpu.pc ≡ opcode → nat_eq opcode 0x60 ≡ false
    → at_return q cpu ≡ false
open_at q cpu opcode is differs = ap (λ b. nat_eq b 0x60 && nat_eq cpu.s q) is
    ∙ ap (λ (t : Bool). t && nat_eq cpu.s q) differs

open_here : (there : Bool) (q : ℕ) (cpu : Cpu) (begin stop : ℕ) (life : List Item) → Here there q cpu begin stop life
    → at_return q cpu ≡ false
open_here true q cpu begin stop life here = open_at q cpu 0xA5 (ap cpu.mem here.0
    ∙ here.2.loaded.code 9 (omega arith)) refl
open_here false q cpu begin stop life here = open_at q cpu 0xB1 (ap cpu.mem here.pc
    ∙ here.loaded.code 34 (omega arith)) refl

-- after a stretch that ends at the JSR of dvg_run: a tick, and back to dvg_run
module _ (q : ℕ) (q_small : q < 256) (cpu : Cpu) (begin stop : ℕ) (life : List Item) (steps : ℕ) (some : 1 ≤ steps)
    (made : Stretch begin stop q cpu steps life)
    (at_pc : (run q steps cpu).pc ≡ 0x6815) (at_q : (run q steps cpu).s ≡ q)
    (stood : Stood (run q steps cpu).mem begin stop (made.items ++ life))
    (spared : Leaves q (run q steps cpu).mem cpu.mem) where
  abbrev mid : Cpu
  mid = run q steps cpu

  turned : Turned q true mid begin stop (made.items ++ life)
  turned = tick_call q true mid begin stop (made.items ++ life) q_small at_pc at_q stood

  abbrev fin : Cpu
  fin = run q turned.steps mid

  abbrev head : Cpu
  head = at 0x6809 fin.a fin.x fin.y q fin.n fin.z fin.c fin.v fin.d fin.i (laid (page_in fin.mem) fin.mem) fin.flags fin.log

  jumped : run q 1 fin ≡ head
  jumped = ap (run q 1) (sym (state_is fin 0x6818 q turned.pc turned.stack turned.stood.loaded))

  whole : run q (1 + (turned.steps + steps)) cpu ≡ head
  whole = run_more q (turned.steps + steps) 1 cpu ∙ ap (run q 1) (run_more q steps turned.steps cpu) ∙ jumped

  abbrev items : List Item
  items = turned.made.items ++ made.items

  there : Here true q head begin stop (items ++ life)
  there = (
    refl,
    refl,
    subst (λ (m : ℕ → ℕ). Stood m begin stop (items ++ life)) (known fin.mem turned.stood.loaded)
        (subst (λ l. Stood fin.mem begin stop l) (sym (append_items turned.made.items made.items life)) turned.stood),
  )

  ticked : Round q cpu begin stop life
  ticked = record {
    steps = 1 + (turned.steps + steps);
    some = omega arith;
    made = record {
      items = items;
      accesses = turned.made.accesses ++ made.accesses;
      logged = ap (λ (c : Cpu). seen c.log) whole ∙ turned.made.logged
          ∙ ap (λ l. turned.made.accesses ++ l) made.logged
          ∙ sym (append_logs turned.made.accesses made.accesses (seen cpu.log));
      shown = shown_both turned.made.items made.items turned.made.accesses made.accesses turned.made.shown made.shown;
      placed = (
        turned.made.placed.0,
        ap place_of_life (append_items turned.made.items made.items life)
            ∙ turned.made.placed.1,
      );
      steady = λ tables covers. steady_more (is_kept tables) q (turned.steps + steps) 1 cpu
          (steady_more (is_kept tables) q steps turned.steps cpu (made.steady tables covers)
          (turned.made.steady tables covers))
          (ap (are_steady (is_kept tables) q 1) (run_more q steps turned.steps cpu
          ∙ sym (state_is fin 0x6818 q turned.pc turned.stack turned.stood.loaded)));
    };
    spared = λ b own not out not0 not1. ap (λ (c : Cpu). c.mem b) whole
        ∙ sym (ap (λ (m : ℕ → ℕ). m b) (known fin.mem turned.stood.loaded)) ∙ turned.spared b own out not0 not1
        ∙ spared b own not out not0 not1;
    next = inr (
      ap (at_return q) whole ∙ open_here true q head begin stop (items ++ life) there,
      (
        true,
        subst (λ (c : Cpu). Here true q c begin stop (items ++ life)) (sym whole) there,
      ),
    );
  }

-- the head of dvg_run
module _ (q : ℕ) (q_small : q < 256) (a x y : ℕ) (n z c v d i : Bool) (mem flags : ℕ → ℕ) (log : List Access)
    (begin stop : ℕ) (life : List Item) (stood : Stood mem begin stop life) where
  abbrev page : ℕ → List ℕ
  page phase = page_of phase (mem 0x11) (mem 0x12) (mem 0x13) (mem 0x14) (mem 0x15) (mem 0x16) (mem 0x17) (mem 0x18)
      (mem 0x19) (mem 0x1A)

  abbrev from : ℕ → Cpu
  from phase = at 0x6809 a x y q n z c v d i (laid (page phase) mem) flags log

  abbrev Goal : ℕ → Type 0
  Goal phase = Round q (from phase) begin stop life

  stood_as : (phase : ℕ) → mem 0x10 ≡ phase → Stood (laid (page phase) mem) begin stop life
  stood_as phase is = subst (λ p. Stood (laid (page p) mem) begin stop life) is
      (subst (λ (m : ℕ → ℕ). Stood m begin stop life) (known mem stood.loaded) stood)

  idles : mem 0x10 ≡ 2 → Goal 2
  idles is = record {
    steps = 4;
    some = omega arith;
    made = idle_stretch q (from 2) 4 begin stop life (stood.stage.place, stood.stands.place) refl (λ tables. refl);
    spared = λ b own not out not0 not1. refl;
    next = inl ((returned q (run q 4 (from 2)) refl refl, refl), stood_as 2 is);
  }

  -- the phases that have a tick of their own; each is known
  ticks : (phase : ℕ) → mem 0x10 ≡ phase → (run q 6 (from phase)).pc ≡ 0x6815 → (run q 6 (from phase)).s ≡ q
      → (run q 6 (from phase)).mem ≡ laid (page phase) mem → seen (run q 6 (from phase)).log ≡ seen log
      → ((tables : ℕ → Bool) → are_steady (is_kept tables) q 6 (from phase) ≡ true) → Goal phase
  ticks phase is pc s memory quiet steady = ticked q q_small (from phase) begin stop life 6 (omega arith)
      (idle_stretch q (from phase) 6 begin stop life (stood.stage.place, stood.stands.place) quiet steady) pc s
      (subst (λ (m : ℕ → ℕ). Stood m begin stop life) (sym memory) (stood_as phase is))
      (λ b own not out not0 not1. ap (λ (m : ℕ → ℕ). m b) memory)

  -- a table is being written: a tick where its next byte is a high one, and else the loop
  abbrev told : Bool → Cpu
  told odd = at 0x6820 (mem 0x13 / 2) x (mem 0x13) q (nat_le 128 (mem 0x13 / 2)) (nat_eq (mem 0x13 / 2) 0) odd v d i
      (laid (page 0x80) mem) flags (Reads 0x13 (mem 0x13) ∷ Reads 0x10 0x80 ∷ log)

  feeds : (odd : Bool) → mem 0x10 ≡ 0x80 → nat_eq (mem 0x13 % 2) 1 ≡ odd → Goal 0x80
  feeds true is parity =
      let six : run q 6 (from 0x80) ≡ run q 1 (told true) = run_more q 5 1 (from 0x80)
      ∙ ap (λ t. run q 1 (told t)) parity in
      ticks 0x80 is (ap (λ (k : Cpu). k.pc) six) (ap (λ (k : Cpu). k.s) six) (ap (λ (k : Cpu). k.mem) six)
      (ap (λ (k : Cpu). seen k.log) six) (λ tables. refl)
  feeds false is parity =
      let six : run q 6 (from 0x80) ≡ run q 1 (told false) = run_more q 5 1 (from 0x80)
      ∙ ap (λ t. run q 1 (told t)) parity in
      record {
        steps = 6;
        some = omega arith;
        made = idle_stretch q (from 0x80) 6 begin stop life (stood.stage.place, stood.stands.place) (ap (λ (k : Cpu). seen k.log) six)
            (λ tables. refl);
        spared = λ b own not out not0 not1. ap (λ (k : Cpu). k.mem b) six;
        next = inr (ap (at_return q) six, (false, subst (λ (k : Cpu). Bursts q k begin stop life) (sym six) bursts));
      }
    where
      even : mem 0x13 % 2 ≡ 0
      even = let not : mem 0x13 % 2 ≢ 1 = eqb-false (mem 0x13 % 2) 1 parity in by (mem 0x13 % 2) (omega arith) not
        where
          by : (r : ℕ) → r < 2 → r ≢ 1 → r ≡ 0
          by r less not = omega (arith, less, not)

      kept : (m : ℕ → ℕ) → (b : ℕ) → put 0x13 (m 0x13) m b ≡ m b
      kept m b = at_place (nat_eq b 0x13) refl
        where
          at_place : (t : Bool) → nat_eq b 0x13 ≡ t → (if t then m 0x13 else m b) ≡ m b
          at_place true here = ap m (sym (eqb-true b 0x13 here))
          at_place false here = refl

      whole : Stood (laid (page 0x80) mem) begin stop life
      whole = stood_as 0x80 is

      bursts : Bursts q (run q 1 (told false)) begin stop life
      bursts = record {
        pc = refl;
        stack = refl;
        loaded = whole.loaded;
        phase = refl;
        even = even;
        stood = subst (λ (m : ℕ → ℕ). Stood m begin stop life) (sym (fun_ext (kept (laid (page 0x80) mem)))) whole;
      }

  as_phase : (phase : ℕ) → mem 0x10 ≡ phase → Goal phase → Goal (mem 0x10)
  as_phase phase is goal = subst Goal (sym is) goal

  head_round : Goal (mem 0x10)
  head_round = by stood.stage.place refl stood.holds.place
    where
      abbrev_stage : Place → Type 0
      abbrev_stage place = HoldsPlace mem begin stop place stood.stage.half stood.stage.flipped

      by : (place : Place) → stood.stage.place ≡ place
          → HoldsPlace mem begin stop stood.stage.place stood.stage.half stood.stage.flipped → Goal (mem 0x10)
      by Start is h = let e = (subst abbrev_stage is h).0 in as_phase 0 e (ticks 0 e refl refl refl refl (λ tables. refl))
      by Booting is h = let e = (subst abbrev_stage is h).0 in as_phase 1 e (ticks 1 e refl refl refl refl (λ tables. refl))
      by (Resting first) is h = let e = (subst abbrev_stage is h).0 in as_phase 2 e (idles e)
      by (Waiting first) is h = let e = (subst abbrev_stage is h).0 in as_phase 5 e (ticks 5 e refl refl refl refl (λ tables. refl))
      by (Sending first) is h = let e = (subst abbrev_stage is h).0 in as_phase 6 e (ticks 6 e refl refl refl refl (λ tables. refl))
      by (Writing writes) is h = part (subst abbrev_stage is h).1
        where
          part : IsFeeding mem begin stop stood.stage.half stood.stage.flipped writes
              ⊎ ((mem 0x10 ≡ 3) × (writes ≡ word_zero (other stood.stage.half) true))
              ⊎ ((mem 0x10 ≡ 4) × (writes ≡ word_zero (other stood.stage.half) false)) → Goal (mem 0x10)
          part (inl f) = as_phase 0x80 f.phase (feeds (nat_eq (mem 0x13 % 2) 1) f.phase refl)
          part (inr (inl three)) = as_phase 3 three.0 (ticks 3 three.0 refl refl refl refl (λ tables. refl))
          part (inr (inr four)) = as_phase 4 four.0 (ticks 4 four.0 refl refl refl refl (λ tables. refl))

-- where no table is being written, the place's byte doesn't matter
place_free : (v : ℕ) (mem : ℕ → ℕ) (begin stop : ℕ) (life : List Item) → IsLoaded mem → nat_eq (mem 0x10) 0x80 ≡ false
    → Stood (put 0x13 v mem) begin stop life → Stood mem begin stop life
place_free v mem begin stop life load other_phase stood = record {
  stage = stood.stage;
  peeked = stood.peeked;
  stands = stood.stands;
  byte1 = stood.byte1;
  loaded = load;
  holds = record {
    flipped = stood.holds.flipped;
    place = by stood.stage.place stood.stage.half stood.stage.flipped stood.holds.place;
  };
}
  where
    by : (place : Place) (half : Half) (flipped : Bool) → HoldsPlace (put 0x13 v mem) begin stop place half flipped
        → HoldsPlace mem begin stop place half flipped
    by Start half flipped h = h
    by Booting half flipped h = h
    by (Resting first) half flipped h = h
    by (Waiting first) half flipped h = h
    by (Sending first) half flipped h = h
    by (Writing writes) half flipped h = (h.0, part h.1)
      where
        part : IsFeeding (put 0x13 v mem) begin stop half flipped writes
            ⊎ ((mem 0x10 ≡ 3) × (writes ≡ word_zero (other half) true))
            ⊎ ((mem 0x10 ≡ 4) × (writes ≡ word_zero (other half) false))
            → IsFeeding mem begin stop half flipped writes ⊎ ((mem 0x10 ≡ 3) × (writes ≡ word_zero (other half) true))
            ⊎ ((mem 0x10 ≡ 4) × (writes ≡ word_zero (other half) false))
        part (inl f) = absurd (let e = ap (λ p. nat_eq p 0x80) f.phase in cc)
        part (inr rest) = inr rest

-- a word of the loop
module _ (q : ℕ) (q_small : q < 256) (a x y : ℕ) (n z c v d i : Bool) (mem flags : ℕ → ℕ) (log : List Access)
    (begin stop : ℕ) (life : List Item)
    (load : IsLoaded mem) (phase : mem 0x10 ≡ 0x80) (even : y % 2 ≡ 0)
    (stood : Stood (put 0x13 y mem) begin stop life) where
  abbrev low : Cpu
  low = at 0x6822 a x y q n z c v d i (laid (page_in mem) mem) flags log

  abbrev ends : Bool
  ends = word.ends q y mem begin stop life load phase even stood

  abbrev last : Bool
  last = word.last q y mem begin stop life load phase even stood

  abbrev after : ℕ
  after = word.after q y mem begin stop life load phase even stood

  abbrev final : ℕ → ℕ
  final = word.final q y mem begin stop life load phase even stood

  abbrev set : Bool
  set = word.set q y mem begin stop life load phase even stood

  abbrev item0 : Item
  item0 = word.item0 q y mem begin stop life load phase even stood

  abbrev item1 : Item
  item1 = word.item1 q y mem begin stop life load phase even stood

  abbrev g0 : ℕ
  g0 = goal_in (word.vm q y mem begin stop life load phase even stood)

  abbrev g1 : ℕ
  g1 = goal_in (word.vm1 q y mem begin stop life load phase even stood)

  abbrev b0 : ℕ
  b0 = word.b0 q y mem begin stop life load phase even stood

  abbrev w1 : ℕ
  w1 = word.w1 q y mem begin stop life load phase even stood

  reach : Reaches q low (pc_then ends last) after q final (Writes g1 w1 ∷ Writes g0 b0 ∷ seen log)
      (word.heads q y mem begin stop life load phase even stood)
  reach = word.writes q y mem begin stop life load phase even stood a x n z c v d i flags log

  stood2 : Stood (put 0x13 after final) begin stop (item1 ∷ item0 ∷ life)
  stood2 = word.stood2 q y mem begin stop life load phase even stood

  y_small : y < 256
  y_small = word.y_small q y mem begin stop life load phase even stood

  some : (steps : ℕ) → (run q steps low).y ≡ after → 1 ≤ steps
  some zero is = absurd (let e : y ≡ ((y + 1) % 256 + 1) % 256 = is in omega (arith, e, y_small))
  some (suc steps) is = omega arith

  made : Stretch begin stop q low reach.steps life
  made = record {
    items = item1 ∷ item0 ∷ [];
    accesses = Writes g1 w1 ∷ Writes g0 b0 ∷ [];
    logged = reach.accesses;
    shown = (shows g1 w1 high1, (shows g0 b0 high0, tt));
    placed = (stood2.stage.place, stood2.stands.place);
    steady = λ tables covers. reach.steady tables
        (word.held q y mem begin stop life load phase even stood tables covers);
  }
    where
      high0 : 0x4002 ≤ g0
      high0 = (word.one q y mem begin stop life load phase even stood).low

      high1 : 0x4002 ≤ g1
      high1 = (word.two q y mem begin stop life load phase even stood).low

      shows : (g w : ℕ) → 0x4002 ≤ g → Writes g w ∷ [] ≡ Writes (0x4000 + (g - 0x4000)) w ∷ []
      shows g w high = let same : g ≡ 0x4000 + (g - 0x4000) = omega (arith, high) in ap (λ p. Writes p w ∷ []) same

  abbrev word_end : Cpu
  word_end = run q reach.steps low

  even_after : after % 2 ≡ 0
  even_after = omega (arith, even, y_small)

  -- outside of the vector RAM memory is as it was
  word_spared : Leaves q word_end.mem low.mem
  word_spared b own not out not0 not1 =
      let ram = not_ram (is_ram b) _ out in
      let one = word.one q y mem begin stop life load phase even stood in
      let two = word.two q y mem begin stop life load phase even stood in
      ap (λ (m : ℕ → ℕ). m b) reach.memory
      ∙ laid_out (word.page2 q y mem begin stop life load phase even stood) (put g1 w1 (put g0 b0 mem)) mem load b own
      (put_far g1 w1 (put g0 b0 mem) b ram two.low two.high ∙ put_far g0 b0 mem b ram one.low one.high)
      ∙ ap (λ (m : ℕ → ℕ). m b) (known mem load)
    where
      not_ram : (t u : Bool) → (t || u) ≡ false → t ≡ false
      not_ram true u is = absurd (cc)
      not_ram false u is = refl

  -- more words
  goes_on : pc_then ends last ≡ 0x6822 → phase_then ends last (publish_byte set) ≡ 0x80 → Round q low begin stop life
  unfolding made
  goes_on pc is = record {
    steps = reach.steps;
    some = some reach.steps reach.place;
    made = made;
    spared = word_spared;
    next = inr (open_here false q word_end begin stop (item1 ∷ item0 ∷ life) bursts, (false, bursts));
  }
    where
      bursts : Bursts q word_end begin stop (item1 ∷ item0 ∷ life)
      bursts = record {
        pc = reach.pc ∙ pc;
        stack = reach.stack;
        loaded = subst IsLoaded (sym reach.memory) (word.final_loaded q y mem begin stop life load phase even stood);
        phase = ap (λ (m : ℕ → ℕ). m 0x10) reach.memory ∙ is;
        even = ap (λ p. p % 2) reach.place ∙ even_after;
        stood = subst (λ (m : ℕ → ℕ). Stood (put 0x13 word_end.y m) begin stop (item1 ∷ item0 ∷ life))
            (sym reach.memory)
            (subst (λ p. Stood (put 0x13 p final) begin stop (item1 ∷ item0 ∷ life)) (sym reach.place) stood2);
      }

  -- it was the last one
  publishes : pc_then ends last ≡ 0x6815 → phase_then ends last (publish_byte set) ≡ publish_byte set
      → Round q low begin stop life
  unfolding made
  publishes pc is = ticked q q_small low begin stop life reach.steps (some reach.steps reach.place) made (reach.pc
      ∙ pc) reach.stack
      (subst (λ (m : ℕ → ℕ). Stood m begin stop (item1 ∷ item0 ∷ life)) (sym reach.memory)
      (place_free after final begin stop (item1 ∷ item0 ∷ life)
      (word.final_loaded q y mem begin stop life load phase even stood) (ap (λ p. nat_eq p 0x80) is
      ∙ not_writing set) stood2)) word_spared
    where
      not_writing : (t : Bool) → nat_eq (publish_byte t) 0x80 ≡ false
      not_writing true = refl
      not_writing false = refl

  low_round : Round q low begin stop life
  low_round = by ends last refl refl
    where
      by : (e l : Bool) → ends ≡ e → last ≡ l → Round q low begin stop life
      by true true is also = publishes (ap (λ t. pc_then t last) is ∙ ap (pc_then true) also)
          (ap (λ t. phase_then t last (publish_byte set)) is ∙ ap (λ t. phase_then true t (publish_byte set)) also)
      by true false is also = goes_on (ap (λ t. pc_then t last) is ∙ ap (pc_then true) also)
          (ap (λ t. phase_then t last (publish_byte set)) is ∙ ap (λ t. phase_then true t (publish_byte set)) also)
      by false l is also = goes_on (ap (λ t. pc_then t last) is) (ap (λ t. phase_then t last (publish_byte set)) is)

-- a round, from either place
round : (there : Bool) (q : ℕ) (cpu : Cpu) (begin stop : ℕ) (life : List Item) → q < 256
    → Here there q cpu begin stop life → Round q cpu begin stop life
round true q cpu begin stop life q_small here =
    subst (λ (k : Cpu). Round q k begin stop life) (state_is cpu 0x6809 q here.0 here.1 here.2.loaded)
    (head_round q q_small cpu.a cpu.x cpu.y cpu.n cpu.z cpu.c cpu.v cpu.d cpu.i cpu.mem cpu.flags cpu.log begin stop life here.2)
round false q cpu begin stop life q_small here =
    subst (λ (k : Cpu). Round q k begin stop life) (state_is cpu 0x6822 q here.pc here.stack here.loaded)
    (low_round q q_small cpu.a cpu.x cpu.y cpu.n cpu.z cpu.c cpu.v cpu.d cpu.i cpu.mem cpu.flags cpu.log begin stop life
    here.loaded here.phase here.even here.stood)

-- rounds, one after the other
rounds : (fuel k : ℕ) → k < fuel → (there : Bool) (q : ℕ) (cpu : Cpu) (begin stop : ℕ) (life : List Item) → q < 256
    → Here there q cpu begin stop life → Goes q k cpu begin stop life
rounds zero k less there q cpu begin stop life q_small here = absurd (omega arith)
rounds (suc fuel) k less there q cpu begin stop life q_small here = by one.next (rounds fuel)
  where
    one : Round q cpu begin stop life
    one = round there q cpu begin stop life q_small here

    by : (((at_return q (run q one.steps cpu) ≡ true) × (is_code (run q one.steps cpu).pc ≡ true))
        × Stood (run q one.steps cpu).mem begin stop (one.made.items ++ life))
        ⊎ ((at_return q (run q one.steps cpu) ≡ false)
        × ((there : Bool) × Here there q (run q one.steps cpu) begin stop (one.made.items ++ life)))
        → ((j : ℕ) → j < fuel → (there : Bool) (q : ℕ) (cpu : Cpu) (begin stop : ℕ) (life : List Item) → q < 256
        → Here there q cpu begin stop life → Goes q j cpu begin stop life)
        → Goes q k cpu begin stop life
    by (inl done) more = finish (stood_in begin stop) q k cpu begin stop life one.steps one.made done.0.0 done.0.1 done.1
    by (inr next) more = go_on (stood_in begin stop) q k cpu begin stop life one.steps one.made one.some next.0
        (λ j below. more j (omega (arith, less, below)) next.1.0 q (run q one.steps cpu) begin stop
        (one.made.items ++ life) q_small next.1.1)

-- a call of dvg_run
pub run_goes : (k : ℕ) (cpu : Cpu) (begin stop : ℕ) (life : List Item) → cpu.pc ≡ 0x6809 → cpu.s < 256
    → Stood cpu.mem begin stop life → Goes cpu.s k cpu begin stop life
run_goes k cpu begin stop life at_pc s_small stood =
    rounds (suc k) k (omega arith) true cpu.s cpu begin stop life s_small (at_pc, refl, stood)

-- what rounds leave of memory, up to the return
rounds_spare : (fuel k : ℕ) → k < fuel → (there : Bool) (q : ℕ) (cpu : Cpu) (begin stop : ℕ) (life : List Item) → q < 256
    → Here there q cpu begin stop life → at_return q (run q k cpu) ≡ true → Leaves q (run q k cpu).mem cpu.mem
rounds_spare zero k less there q cpu begin stop life q_small here back = absurd (omega arith)
rounds_spare (suc fuel) k less there q cpu begin stop life q_small here back =
    by (round there q cpu begin stop life q_small here) (rounds_spare fuel)
  where
    by : (one : Round q cpu begin stop life)
        → ((j : ℕ) → j < fuel → (there : Bool) (q : ℕ) (cpu : Cpu) (begin stop : ℕ) (life : List Item) → q < 256
        → Here there q cpu begin stop life → at_return q (run q j cpu) ≡ true → Leaves q (run q j cpu).mem cpu.mem)
        → Leaves q (run q k cpu).mem cpu.mem
    by one more = ends one.next
      where
        goes : (at_return q (run q one.steps cpu) ≡ false)
            → ((there : Bool) × Here there q (run q one.steps cpu) begin stop (one.made.items ++ life))
            → Splits k one.steps → Leaves q (run q k cpu).mem cpu.mem
        goes unfinished next (inl within) =
            let on = ap (λ j. run q j cpu) within.1 ∙ run_more q k within.0 cpu ∙ stays q within.0 (run q k cpu) back in
            absurd (let e = sym unfinished ∙ ap (at_return q) on ∙ back in cc)
        goes unfinished next (inr above) =
            let some = one.some in
            let same : run q k cpu ≡ run q above.0 (run q one.steps cpu) = ap (λ j. run q j cpu) above.1
            ∙ run_more q one.steps above.0 cpu in
            let rest = more above.0 (omega (arith, less, above.1, some)) next.0 q (run q one.steps cpu) begin stop
            (one.made.items ++ life) q_small next.1 (sym (ap (at_return q) same) ∙ back) in
            λ b own past out not0 not1. ap (λ (c : Cpu). c.mem b) same ∙ rest b own past out not0 not1
            ∙ one.spared b own past out not0 not1

        ends : (((at_return q (run q one.steps cpu) ≡ true) × (is_code (run q one.steps cpu).pc ≡ true))
            × Stood (run q one.steps cpu).mem begin stop (one.made.items ++ life))
            ⊎ ((at_return q (run q one.steps cpu) ≡ false)
            × ((there : Bool) × Here there q (run q one.steps cpu) begin stop (one.made.items ++ life)))
            → Leaves q (run q k cpu).mem cpu.mem
        ends (inl done) = λ b own past out not0 not1.
            ap (λ (c : Cpu). c.mem b) (same_end q k one.steps cpu back done.0.0) ∙ one.spared b own past out not0 not1
        ends (inr next) = goes next.0 next.1 (split k one.steps)

pub run_spares : (k : ℕ) (cpu : Cpu) (begin stop : ℕ) (life : List Item) → cpu.pc ≡ 0x6809 → cpu.s < 256
    → Stood cpu.mem begin stop life → at_return cpu.s (run cpu.s k cpu) ≡ true
    → Leaves cpu.s (run cpu.s k cpu).mem cpu.mem
run_spares k cpu begin stop life at_pc s_small stood back =
    rounds_spare (suc k) k (omega arith) true cpu.s cpu begin stop life s_small (at_pc, refl, stood) back
