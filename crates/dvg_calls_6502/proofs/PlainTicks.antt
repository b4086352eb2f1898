-- The ticks that write no byte of a table, by the script.
use Rattle.std.proofs.Common.{◌≡◌, ◌≢◌, ℕ, zero, suc, inr, ◌*◌, ◌%◌, ◌/◌, ◌<◌, ◌≤◌, Bool, true, false, not, List, [], ◌∷◌}
use Rattle.std.proofs.Common.{◌++◌, refl, sym, ap, ◌∙◌, subst, arith, Some}
use Rattle.std.proofs.lemmas.Nat.Bits.{and_pow}
use Rattle.std.specs.Prelude.{nat_le, bit_and, bit_xor, ◌==◌, if◌then◌else◌, option_and_then}
use Rattle.dvg_mem.specs.declared.half.Half.{Half}
use Rattle.dvg_mem.specs.declared.half.Half.TheVariants.{H0, H1}
use Rattle.dvg_mem.specs.Areas.{other, high, half_of_high}
use Rattle.dvg_driver.specs.declared.action.Action.{Action}
use Rattle.dvg_driver.specs.declared.action.Action.TheVariants.{Peek, Wrote, Read, Sent, Idle}
use Rattle.dvg_driver.specs.Script.{Item, Did, word_zero}
use Rattle.dvg_driver.specs.Place.{Place, Start, Booting, Resting, Writing, Waiting, Sending, next_place, place_of_life}
use Rattle.dvg_driver.specs.Stands.{ShowsFlag, Stage, StandsAfter, peeked_after}
use Rattle.dvg_calls_6502.specs.Processor.{Cpu, Access, Reads, Writes, put, run}
use Rattle.dvg_calls_6502.specs.Board.{IsLoaded, seen, is_own, tells_halted}
use Rattle.dvg_calls_6502.specs.Amid.{is_kept, is_code, are_steady, all_in}
use Rattle.dvg_calls_6502.specs.Holds.{Holds, publish_byte}
use Rattle.dvg_calls_6502.specs.Routines.{Shows, acted}
use Rattle.dvg_calls_6502.proofs.ProcessorRuns.{Ends, at}
use Rattle.dvg_calls_6502.proofs.Memory.{AreSmall, laid, page_of, loaded, put_small, same_out, kept_write, kept_sent, small_page}
use Rattle.dvg_calls_6502.proofs.ShortTicks as short

-- a table of these bounds is among those that are kept
abbrev pub Covers : (tables : ℕ → Bool) → (begin stop : ℕ) → Type 0
Covers tables begin stop = (b : ℕ) → begin ≤ b → b < stop → tables b ≡ true

-- a byte that an action writes is one of the vector RAM
abbrev pub IsInRam : Action → Type 0
IsInRam (Wrote a byte) = a < 2048
IsInRam action = Unit {0}

-- the run comes to an RTS with S as it was, after one action that goes on the life
pub record Acts (q : ℕ) (from : Cpu) (begin stop peeked : ℕ) (life : List Item) : Type 0 where
  pub steps : ℕ
  pub action : Action
  pub events : List Access
  pub new : Stage
  pub returns : (run q steps from).mem (run q steps from).pc ≡ 0x60
  pub stack : (run q steps from).s ≡ from.s
  pub accesses : seen (run q steps from).log ≡ events ++ seen from.log
  pub shows : Shows action events
  pub tells : ShowsFlag action (tells_halted (from.flags 0))
  pub stands : StandsAfter new (peeked_after action (from.mem 0x4001) peeked) (Did action ∷ life)
  pub holds : Holds (run q steps from).mem begin stop new
  pub loaded : IsLoaded (run q steps from).mem
  pub kept : (b : ℕ) → is_own b ≡ false → b ≢ 0x3000 → (run q steps from).mem b ≡ acted action from.mem b
  pub in_ram : IsInRam action
  pub steady : (tables : ℕ → Bool) → Covers tables begin stop → are_steady (is_kept tables) q steps from ≡ true
  pub there : is_code (run q steps from).pc ≡ true

pub close : (q : ℕ) (from : Cpu) (s : ℕ) (mem : ℕ → ℕ) (events : List Access) (action : Action) (new : Stage)
    (begin stop peeked : ℕ) (life : List Item) {reads : List ℕ}
    → ((tables : ℕ → Bool) → Covers tables begin stop → all_in tables reads ≡ true)
    → Ends q from s mem (events ++ seen from.log) reads → s ≡ from.s
    → Shows action events → ShowsFlag action (tells_halted (from.flags 0))
    → StandsAfter new (peeked_after action (from.mem 0x4001) peeked) (Did action ∷ life)
    → Holds mem begin stop new → IsLoaded mem
    → ((b : ℕ) → is_own b ≡ false → b ≢ 0x3000 → mem b ≡ acted action from.mem b) → IsInRam action
    → Acts q from begin stop peeked life
close q from s mem events action new begin stop peeked life held ends stack shows tells stands holds load kept in_ram =
    record {
      steps = ends.steps;
      action = action;
      events = events;
      new = new;
      returns = ends.returns;
      stack = ends.stack ∙ stack;
      accesses = ends.accesses;
      shows = shows;
      tells = tells;
      stands = stands;
      holds = subst (λ (m : ℕ → ℕ). Holds m begin stop new) (sym ends.memory) holds;
      loaded = subst IsLoaded (sym ends.memory) load;
      kept = λ b own go. ap (λ (m : ℕ → ℕ). m b) ends.memory ∙ kept b own go;
      in_ram = in_ram;
      steady = λ tables covers. ends.steady tables (held tables covers);
      there = ends.there;
    }

-- what the look at byte 001 makes of it
pub looked : (b : ℕ) → bit_xor (bit_and b 2) 0xE2 ≡ high (other (half_of_high b))
looked b = let e : bit_and b 2 ≡ b / 2 % 2 * 2 = and_pow b 1 in ap (λ m. bit_xor m 0xE2) e
    ∙ by (b / 2 % 2) (omega arith)
  where
    by : (t : ℕ) → t < 2 → bit_xor (t * 2) 0xE2 ≡ high (other (if t == 0 then H0 else H1))
    by (suc (suc t)) h = absurd (omega arith)
    by _ h = refl

pub high_small : (half : Half) → high half < 256
high_small H0 = omega arith
high_small H1 = omega arith

pub publish_small : (set : Bool) → publish_byte set < 256
publish_small true = omega arith
publish_small false = omega arith

module _ (q a x y s : ℕ) (n z c v d i : Bool) (mem flags : ℕ → ℕ) (log : List Access) (bytes : (b : ℕ)
    → mem b < 256) (begin stop peeked : ℕ) (life : List Item) where
  abbrev pub page : ℕ → ℕ → ℕ → List ℕ
  page phase free publish = page_of phase free publish (mem 0x13) (mem 0x14) (mem 0x15) (mem 0x16) (mem 0x17)
      (mem 0x18) (mem 0x19) (mem 0x1A)

  abbrev pub from : ℕ → ℕ → Cpu
  from phase free = at 0x686A a x y s n z c v d i (laid (page phase free (mem 0x12)) mem) flags log

  small : (phase free publish : ℕ) → phase < 256 → free < 256 → publish < 256 → AreSmall (page phase free publish)
  small phase free publish p f l = small_page p f l (bytes 0x13) (bytes 0x14) (bytes 0x15) (bytes 0x16) (bytes 0x17)
      (bytes 0x18) (bytes 0x19) (bytes 0x1A)

  -- a tick of the script, from its stage
  abbrev after : Place → Action → Type 0
  after place action = place_of_life (Did action ∷ life) ≡ next_place place (Did action)

  goes : (place : Place) (action : Action) → place_of_life life ≡ Some place → after place action
  goes place action is = ap (option_and_then (λ there. next_place there (Did action))) is

  abbrev stage : Place → Half → Bool → Stage
  stage place half flipped = record { place = place; half = half; flipped = flipped }

  free_small : (half : Half) → high (other half) < 256
  free_small half = high_small (other half)

  pub start : (half : Half) → StandsAfter (stage Start half false) peeked life → mem 0x12 ≡ 3
      → Acts q (from 0 (mem 0x11)) begin stop peeked life
  start half stands clear =
      let f = bit_xor (bit_and (mem 0x4001) 2) 0xE2 in
      let now = half_of_high (mem 0x4001) in
      let f_small : f < 256 = subst (λ k. k < 256) (sym (looked (mem 0x4001))) (free_small now) in
      close q (from 0 (mem 0x11)) s (laid (page 1 f (mem 0x12)) mem) (Reads 0x4001 (mem 0x4001) ∷ []) Peek
      (stage Booting now false) begin stop peeked life
      (λ tables covers. refl) (short.start q a x y s n z c v d i (mem 0x11) (mem 0x12) (mem 0x13) (mem 0x14) (mem 0x15) (mem 0x16) (mem 0x17)
      (mem 0x18) (mem 0x19) (mem 0x1A) mem flags log) refl (mem 0x4001, refl) tt
      (record { place = goes Start Peek stands.place; half = refl; flipped = stands.flipped })
      (record { flipped = clear; place = (refl, looked (mem 0x4001), refl) })
      (loaded (page 1 f (mem 0x12)) mem (small 1 f (mem 0x12) (omega arith) f_small (bytes 0x12)) bytes)
      (λ b own go. same_out (page 1 f (mem 0x12)) (page 0 (mem 0x11) (mem 0x12)) mem b own) tt

  pub boot : (half : Half) (free : ℕ) (running : Bool) → free ≡ high (other half) → nat_le 128 (flags 0) ≡ running
      → StandsAfter (stage Booting half false) peeked life → mem 0x12 ≡ 3 → Acts q (from 1 free) begin stop peeked life
  boot half free true is flag stands clear =
      close q (from 1 free) s (laid (page 1 free (mem 0x12)) mem) (Reads 0x2002 (flags 0) ∷ []) (Read false)
      (stage Booting half false) begin stop peeked life
      (λ tables covers. refl) (short.boot q a x y s n z c v d i free (mem 0x12) (mem 0x13) (mem 0x14) (mem 0x15) (mem 0x16) (mem 0x17) (mem 0x18)
      (mem 0x19) (mem 0x1A) mem flags log true flag) refl (flags 0, refl, sym (ap not flag)) (sym (ap not flag))
      (record { place = goes Booting (Read false) stands.place; half = stands.half; flipped = stands.flipped })
      (record { flipped = clear; place = (refl, is, refl) })
      (loaded (page 1 free (mem 0x12)) mem
      (small 1 free (mem 0x12) (omega arith) (subst (λ k. k < 256) (sym is) (free_small half)) (bytes 0x12)) bytes)
      (λ b own go. refl) tt
  boot half free false is flag stands clear =
      close q (from 1 free) s (laid (page 2 free (mem 0x12)) mem) (Reads 0x2002 (flags 0) ∷ []) (Read true)
      (stage (Resting true) half false) begin stop peeked life
      (λ tables covers. refl) (short.boot q a x y s n z c v d i free (mem 0x12) (mem 0x13) (mem 0x14) (mem 0x15) (mem 0x16) (mem 0x17) (mem 0x18)
      (mem 0x19) (mem 0x1A) mem flags log false flag) refl (flags 0, refl, sym (ap not flag)) (sym (ap not flag))
      (record { place = goes Booting (Read true) stands.place; half = stands.half; flipped = stands.flipped })
      (record { flipped = clear; place = (refl, is, refl) })
      (loaded (page 2 free (mem 0x12)) mem
      (small 2 free (mem 0x12) (omega arith) (subst (λ k. k < 256) (sym is) (free_small half)) (bytes 0x12)) bytes)
      (λ b own go. same_out (page 2 free (mem 0x12)) (page 1 free (mem 0x12)) mem b own) tt

  pub rest : (half : Half) (free : ℕ) (first set : Bool) → free ≡ high (other half) → first ≡ not set
      → StandsAfter (stage (Resting first) half set) peeked life → mem 0x12 ≡ publish_byte set
      → Acts q (from 2 free) begin stop peeked life
  rest half free first set is firsts stands clear =
      close q (from 2 free) s (laid (page 2 free (mem 0x12)) mem) [] Idle
      (stage (Resting first) half set) begin stop peeked life
      (λ tables covers. refl) (short.idle q a x y s n z c v d i free (mem 0x12) (mem 0x13) (mem 0x14) (mem 0x15) (mem 0x16) (mem 0x17) (mem 0x18)
      (mem 0x19) (mem 0x1A) mem flags log) refl refl tt
      (record { place = goes (Resting first) Idle stands.place; half = stands.half; flipped = stands.flipped })
      (record { flipped = clear; place = (refl, is, firsts) })
      (loaded (page 2 free (mem 0x12)) mem
      (small 2 free (mem 0x12) (omega arith) (subst (λ k. k < 256) (sym is) (free_small half)) (bytes 0x12)) bytes)
      (λ b own go. refl) tt

  pub zero_tick : (half : Half) (free : ℕ) (set : Bool) → free ≡ high (other half)
      → StandsAfter (stage (Writing (word_zero (other half) true)) half set) peeked life → mem 0x12 ≡ publish_byte set
      → Acts q (from 3 free) begin stop peeked life
  zero_tick half free set is stands clear =
      close q (from 3 free) s (laid (page 4 free (mem 0x12)) (put 0x4000 1 mem)) (Writes 0x4000 1 ∷ []) (Wrote 0 1)
      (stage (Writing (word_zero (other half) false)) half set) begin stop peeked life
      (λ tables covers. refl) (short.zero q a x y s n z c v d i free (mem 0x12) (mem 0x13) (mem 0x14) (mem 0x15) (mem 0x16) (mem 0x17) (mem 0x18)
      (mem 0x19) (mem 0x1A) mem flags log) refl refl tt
      (record {
        place = goes (Writing (word_zero (other half) true)) (Wrote 0 1) stands.place;
        half = stands.half;
        flipped = stands.flipped;
      })
      (record { flipped = clear; place = (is, inr (inr (refl, refl))) })
      (loaded (page 4 free (mem 0x12)) (put 0x4000 1 mem)
      (small 4 free (mem 0x12) (omega arith) (subst (λ k. k < 256) (sym is) (free_small half)) (bytes 0x12))
      (put_small 0x4000 1 mem (omega arith) bytes))
      (λ b own go. kept_write 0x4000 1 (page 3 free (mem 0x12)) (page 4 free (mem 0x12)) mem refl refl b own) (omega arith)

  pub flip : (half : Half) (set : Bool)
      → StandsAfter (stage (Writing (word_zero (other half) false)) half set) peeked life
      → Acts q (from 4 (high (other half))) begin stop peeked life
  flip H0 set stands =
      close q (from 4 0xE2) s (laid (page 5 0xE0 4) (put 0x4001 0xE2 mem)) (Writes 0x4001 0xE2 ∷ []) (Wrote 1 0xE2)
      (stage (Waiting false) H1 true) begin stop peeked life
      (λ tables covers. refl) (short.flip q a x y s n z c v d i 0xE2 (mem 0x12) (mem 0x13) (mem 0x14) (mem 0x15) (mem 0x16) (mem 0x17) (mem 0x18)
      (mem 0x19) (mem 0x1A) mem flags log) refl refl tt
      (record { place = goes (Writing (word_zero H1 false)) (Wrote 1 0xE2) stands.place; half = refl; flipped = refl })
      (record { flipped = refl; place = (refl, refl, refl) })
      (loaded (page 5 0xE0 4) (put 0x4001 0xE2 mem) (small 5 0xE0 4 (omega arith) (omega arith) (omega arith))
      (put_small 0x4001 0xE2 mem (omega arith) bytes))
      (λ b own go. kept_write 0x4001 0xE2 (page 4 0xE2 (mem 0x12)) (page 5 0xE0 4) mem refl refl b own) (omega arith)
  flip H1 set stands =
      close q (from 4 0xE0) s (laid (page 5 0xE2 4) (put 0x4001 0xE0 mem)) (Writes 0x4001 0xE0 ∷ []) (Wrote 1 0xE0)
      (stage (Waiting false) H0 true) begin stop peeked life
      (λ tables covers. refl) (short.flip q a x y s n z c v d i 0xE0 (mem 0x12) (mem 0x13) (mem 0x14) (mem 0x15) (mem 0x16) (mem 0x17) (mem 0x18)
      (mem 0x19) (mem 0x1A) mem flags log) refl refl tt
      (record { place = goes (Writing (word_zero H0 false)) (Wrote 1 0xE0) stands.place; half = refl; flipped = refl })
      (record { flipped = refl; place = (refl, refl, refl) })
      (loaded (page 5 0xE2 4) (put 0x4001 0xE0 mem) (small 5 0xE2 4 (omega arith) (omega arith) (omega arith))
      (put_small 0x4001 0xE0 mem (omega arith) bytes))
      (λ b own go. kept_write 0x4001 0xE0 (page 4 0xE0 (mem 0x12)) (page 5 0xE2 4) mem refl refl b own) (omega arith)

  pub wait : (half : Half) (free : ℕ) (first set running : Bool) → free ≡ high (other half) → first ≡ not set
      → nat_le 128 (flags 0) ≡ running → StandsAfter (stage (Waiting first) half set) peeked life
      → mem 0x12 ≡ publish_byte set → Acts q (from 5 free) begin stop peeked life
  wait half free first set true is firsts flag stands clear =
      close q (from 5 free) s (laid (page 5 free (mem 0x12)) mem) (Reads 0x2002 (flags 0) ∷ []) (Read false)
      (stage (Waiting first) half set) begin stop peeked life
      (λ tables covers. refl) (short.wait q a x y s n z c v d i free (mem 0x12) (mem 0x13) (mem 0x14) (mem 0x15) (mem 0x16) (mem 0x17) (mem 0x18)
      (mem 0x19) (mem 0x1A) mem flags log true flag) refl (flags 0, refl, sym (ap not flag)) (sym (ap not flag))
      (record { place = goes (Waiting first) (Read false) stands.place; half = stands.half; flipped = stands.flipped })
      (record { flipped = clear; place = (refl, is, firsts) })
      (loaded (page 5 free (mem 0x12)) mem
      (small 5 free (mem 0x12) (omega arith) (subst (λ k. k < 256) (sym is) (free_small half)) (bytes 0x12)) bytes)
      (λ b own go. refl) tt
  wait half free first set false is firsts flag stands clear =
      close q (from 5 free) s (laid (page 6 free (mem 0x12)) mem) (Reads 0x2002 (flags 0) ∷ []) (Read true)
      (stage (Sending first) half set) begin stop peeked life
      (λ tables covers. refl) (short.wait q a x y s n z c v d i free (mem 0x12) (mem 0x13) (mem 0x14) (mem 0x15) (mem 0x16) (mem 0x17) (mem 0x18)
      (mem 0x19) (mem 0x1A) mem flags log false flag) refl (flags 0, refl, sym (ap not flag)) (sym (ap not flag))
      (record { place = goes (Waiting first) (Read true) stands.place; half = stands.half; flipped = stands.flipped })
      (record { flipped = clear; place = (refl, is, firsts) })
      (loaded (page 6 free (mem 0x12)) mem
      (small 6 free (mem 0x12) (omega arith) (subst (λ k. k < 256) (sym is) (free_small half)) (bytes 0x12)) bytes)
      (λ b own go. same_out (page 6 free (mem 0x12)) (page 5 free (mem 0x12)) mem b own) tt

  pub send : (half : Half) (free : ℕ) (first set : Bool) → free ≡ high (other half) → first ≡ not set
      → StandsAfter (stage (Sending first) half set) peeked life → mem 0x12 ≡ publish_byte set
      → Acts q (from 6 free) begin stop peeked life
  send half free first set is firsts stands clear =
      close q (from 6 free) s (laid (page 2 free (mem 0x12)) (put 0x3000 2 mem)) (Writes 0x3000 2 ∷ []) Sent
      (stage (Resting first) half set) begin stop peeked life
      (λ tables covers. refl) (short.send q a x y s n z c v d i free (mem 0x12) (mem 0x13) (mem 0x14) (mem 0x15) (mem 0x16) (mem 0x17) (mem 0x18)
      (mem 0x19) (mem 0x1A) mem flags log) refl (2, refl) tt
      (record { place = goes (Sending first) Sent stands.place; half = stands.half; flipped = stands.flipped })
      (record { flipped = clear; place = (refl, is, firsts) })
      (loaded (page 2 free (mem 0x12)) (put 0x3000 2 mem)
      (small 2 free (mem 0x12) (omega arith) (subst (λ k. k < 256) (sym is) (free_small half)) (bytes 0x12))
      (put_small 0x3000 2 mem (omega arith) bytes))
      (λ b own go. kept_sent (page 6 free (mem 0x12)) (page 2 free (mem 0x12)) mem b own go) tt
