-- Each call of dvg_tick does the script's next action.
use Rattle.std.proofs.Common.{◌≡◌, ℕ, inl, inr, ◌+◌, ◌-◌, ◌*◌, ◌%◌, ◌<◌, ◌≤◌, Bool, true, false, not, List, [], ◌∷◌}
use Rattle.std.proofs.Common.{◌++◌, length, refl, sym, ap, ◌∙◌, subst, arith}
use Rattle.std.specs.Prelude.{nat_eq, nat_le, slice_index, ◌⊎◌}
use Rattle.dvg_mem.specs.declared.half.Half.{Half}
use Rattle.dvg_mem.specs.Areas.{other, high}
use Rattle.dvg_frame.specs.Bytes.{addressed}
use Rattle.dvg_driver.specs.Script.{Item, word_zero}
use Rattle.dvg_driver.specs.Place.{Place, Start, Booting, Resting, Writing, Waiting, Sending}
use Rattle.dvg_driver.specs.Stands.{Stage, StandsAfter}
use Rattle.dvg_calls_6502.specs.Processor.{Cpu, Access, run}
use Rattle.dvg_calls_6502.specs.Board.{IsLoaded, is_hardware, source_in, goal_in, seen}
use Rattle.dvg_calls_6502.specs.Feed.{fed, second_byte}
use Rattle.dvg_calls_6502.specs.Holds.{IsFeeding, HoldsPlace, Holds, publish_byte}
use Rattle.dvg_calls_6502.specs.Routines.{TickRefines, Shows}
use Rattle.dvg_calls_6502.proofs.ProcessorRuns.{at, returned}
use Rattle.dvg_calls_6502.proofs.Memory.{known, page_in, laid, page_of}
use Rattle.dvg_calls_6502.proofs.PlainTicks as acting
use Rattle.dvg_calls_6502.proofs.PlainTicks.{Acts}
use Rattle.dvg_calls_6502.proofs.TableTick.{tick}
pub use Rattle.std.proofs.Common.{append-nil as append_none}

module _ (q a x y s : ℕ) (n z c v d i : Bool) (mem flags : ℕ → ℕ) (log : List Access) (load : IsLoaded mem)
    (begin stop peeked : ℕ) (life : List Item) where
  abbrev from : Cpu
  from = at 0x686A a x y s n z c v d i (laid (page_in mem) mem) flags log

  abbrev with_phase : ℕ → ℕ → Cpu
  with_phase phase free =
      at 0x686A a x y s n z c v d i
      (laid (page_of phase free (mem 0x12) (mem 0x13) (mem 0x14) (mem 0x15) (mem 0x16) (mem 0x17) (mem 0x18)
      (mem 0x19) (mem 0x1A)) mem) flags log

  abbrev Goal : Cpu → Type 0
  Goal cpu = Acts q cpu begin stop peeked life

  abbrev stage : Place → Half → Bool → Stage
  stage place half set = record { place = place; half = half; flipped = set }

  of_phase : (phase : ℕ) → mem 0x10 ≡ phase → Goal (with_phase phase (mem 0x11)) → Goal from
  of_phase phase is ticks = subst (λ ph. Goal (with_phase ph (mem 0x11))) (sym is) ticks

  fed_tick : (half : Half) (set odd second : Bool) (rest : List ℕ) (list : List (ℕ × ℕ)) → mem 0x10 ≡ 0x80
      → mem 0x11 ≡ high (other half) → mem 0x12 ≡ publish_byte set
      → nat_eq (mem 0x13 % 2) 1 ≡ odd → mem 0x17 % 2 ≡ 0 → mem 0x18 ≡ second_byte second → 1 ≤ length rest
      → mem 0x13 + length rest ≡ 256 * mem 0x16 + mem 0x17
      → ((k : ℕ) → k < length rest → mem (source_in mem + k) ≡ slice_index rest k)
      → ((k : ℕ) → k < length rest → (0x200 ≤ source_in mem + k) × (is_hardware (source_in mem + k) ≡ false))
      → begin ≤ source_in mem → source_in mem + length rest ≡ stop → stop ≤ 65536 → 0x4002 ≤ goal_in mem
      → goal_in mem + length rest ≤ 0x4800
      → list ≡ addressed (goal_in mem - 0x4000) (fed (mem 0x11) odd second rest) ++ word_zero (other half) (not set)
      → StandsAfter (stage (Writing list) half set) peeked life → Goal from
  fed_tick half set odd second [] list phase free clear parity even mark some left reads far after ends top low high
      are stands = absurd (omega arith)
  fed_tick half set odd second (byte ∷ more) list phase free clear parity even mark some left reads far after ends top
      low high are stands =
      of_phase 0x80 phase
      (subst (λ m. Goal (at 0x686A a x y s n z c v d i
      (laid (page_of 0x80 (mem 0x11) (mem 0x12) (mem 0x13) (mem 0x14) (mem 0x15) (mem 0x16) (mem 0x17) m
      (mem 0x19) (mem 0x1A)) mem) flags log)) (sym mark)
      (tick q a x y s n z c v d i mem flags log load begin stop peeked life half set odd second byte more list free clear
      parity even left reads far after ends top low high are stands))

  core : (place : Place) (half : Half) (set : Bool) → HoldsPlace mem begin stop place half set
      → mem 0x12 ≡ publish_byte set → StandsAfter (stage place half set) peeked life → Goal from
  core Start half set holds clear stands =
      of_phase 0 holds.0 (acting.start q a x y s n z c v d i mem flags log load.bytes begin stop peeked life half
      (subst (λ t. StandsAfter (stage Start half t) peeked life) holds.1 stands) (clear ∙ ap publish_byte holds.1))
  core Booting half set holds clear stands =
      of_phase 1 holds.0 (acting.boot q a x y s n z c v d i mem flags log load.bytes begin stop peeked life half
      (mem 0x11) (nat_le 128 (flags 0)) holds.1 refl
      (subst (λ t. StandsAfter (stage Booting half t) peeked life) holds.2 stands) (clear
      ∙ ap publish_byte holds.2))
  core (Resting first) half set holds clear stands =
      of_phase 2 holds.0 (acting.rest q a x y s n z c v d i mem flags log load.bytes begin stop peeked life half
      (mem 0x11) first set holds.1 holds.2 stands clear)
  core (Writing list) half set holds clear stands = by holds.1
    where
      by : IsFeeding mem begin stop half set list ⊎ ((mem 0x10 ≡ 3) × (list ≡ word_zero (other half) true))
          ⊎ ((mem 0x10 ≡ 4) × (list ≡ word_zero (other half) false)) → Goal from
      by (inl f) = fed_tick half set f.odd f.second f.rest list f.phase holds.0 clear f.parity f.even f.mark f.some
          f.left f.reads f.far f.after f.ends f.top f.low f.high f.are stands
      by (inr (inl is)) = of_phase 3 is.0
          (acting.zero_tick q a x y s n z c v d i mem flags log load.bytes begin stop peeked life half
          (mem 0x11) set holds.0 (subst (λ l. StandsAfter (stage (Writing l) half set) peeked life) is.1 stands) clear)
      by (inr (inr is)) = of_phase 4 is.0 (subst (λ free. Goal (with_phase 4 free)) (sym holds.0)
          (acting.flip q a x y s n z c v d i mem flags log load.bytes begin stop peeked life half set
          (subst (λ l. StandsAfter (stage (Writing l) half set) peeked life) is.1 stands)))
  core (Waiting first) half set holds clear stands =
      of_phase 5 holds.0 (acting.wait q a x y s n z c v d i mem flags log load.bytes begin stop peeked life half
      (mem 0x11) first set (nat_le 128 (flags 0)) holds.1 holds.2 refl stands clear)
  core (Sending first) half set holds clear stands =
      of_phase 6 holds.0 (acting.send q a x y s n z c v d i mem flags log load.bytes begin stop peeked life half
      (mem 0x11) first set holds.1 holds.2 stands clear)

-- from any state at the tick's entry
pub acts : (q : ℕ) (cpu : Cpu) (begin stop : ℕ) (stage : Stage) (peeked : ℕ) (life : List Item) → cpu.pc ≡ 0x686A
    → IsLoaded cpu.mem
    → Holds cpu.mem begin stop stage → StandsAfter stage peeked life → Acts q cpu begin stop peeked life
acts q cpu begin stop stage peeked life at_entry load holds stands =
    let is : at 0x686A cpu.a cpu.x cpu.y cpu.s cpu.n cpu.z cpu.c cpu.v cpu.d cpu.i
    (laid (page_in cpu.mem) cpu.mem) cpu.flags cpu.log ≡ cpu =
    ap (λ (m : ℕ → ℕ). at 0x686A cpu.a cpu.x cpu.y cpu.s cpu.n cpu.z cpu.c cpu.v cpu.d cpu.i m cpu.flags cpu.log)
    (sym (known cpu.mem load))
    ∙ ap (λ p. at p cpu.a cpu.x cpu.y cpu.s cpu.n cpu.z cpu.c cpu.v cpu.d cpu.i cpu.mem cpu.flags cpu.log) (sym at_entry) in
    subst (λ (c : Cpu). Acts q c begin stop peeked life) is
    (core q cpu.a cpu.x cpu.y cpu.s cpu.n cpu.z cpu.c cpu.v cpu.d cpu.i cpu.mem cpu.flags cpu.log load begin stop peeked life
    stage.place stage.half stage.flipped holds.place holds.flipped stands)

pub tick_refines : TickRefines
tick_refines cpu begin stop stage peeked life enters holds stands =
    let did = acts cpu.s cpu begin stop stage peeked life enters.entry enters.loaded holds stands in
    record {
      steps = did.steps;
      action = did.action;
      new = did.new;
      returns = returned cpu.s (run cpu.s did.steps cpu) did.returns did.stack;
      shows = subst (Shows did.action)
          (sym (did.accesses ∙ ap (λ l. did.events ++ seen l) enters.log ∙ append_none did.events)) did.shows;
      tells = did.tells;
      stands = did.stands;
      holds = did.holds;
      loaded = did.loaded;
      kept = did.kept;
    }
