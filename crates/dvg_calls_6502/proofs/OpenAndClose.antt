-- What dvg_open and dvg_close do, by the frame that is being built; and calls that change nothing.
use Rattle.std.proofs.Common.{◌≡◌, ℕ, suc, inl, inr, ◌+◌, ◌*◌, ◌%◌, ◌<◌, ◌≤◌, Bool, true, false, not, List, [], ◌∷◌}
use Rattle.std.proofs.Common.{length, refl, sym, ap, ◌∙◌, subst, arith}
use Rattle.std.proofs.lemmas.Bool.{ne_eqb}
use Rattle.std.specs.Prelude.{if◌then◌else◌}
use Rattle.dvg_mem.specs.declared.half.Half.{Half}
use Rattle.dvg_mem.specs.declared.half.Half.TheVariants.{H0, H1}
use Rattle.dvg_mem.specs.Areas.{base, other, high}
use Rattle.dvg_driver.specs.Script.{word_zero}
use Rattle.dvg_driver.specs.Place.{Resting, Writing}
use Rattle.dvg_calls_6502.specs.Processor.{Cpu, Writes, put, run}
use Rattle.dvg_calls_6502.specs.Code.{dvg_open, dvg_close}
use Rattle.dvg_calls_6502.specs.Board.{IsLoaded, seen, goal_in}
use Rattle.dvg_calls_6502.specs.Holds.{Holds, publish_byte}
use Rattle.dvg_calls_6502.specs.Routines.{Enters}
use Rattle.dvg_calls_6502.specs.Build.{IsBuilding, Opens, Closes, OpenTakes, CloseTakes}
use Rattle.dvg_calls_6502.specs.Build.{Idles, IdleTicks, RunReturns}
use Rattle.dvg_calls_6502.specs.Amid.{is_kept, is_code, are_steady}
use Rattle.dvg_calls_6502.proofs.ProcessorRuns.{Comes, by, at, returned}
use Rattle.dvg_calls_6502.proofs.Memory.{laid, page_of, loaded, put_small, same_out, small_page}
use Rattle.dvg_calls_6502.proofs.OfferRun.{free_of, high_of}
use Rattle.dvg_calls_6502.proofs.AmidOthers.{alike_if, Keeping}
use Rattle.dvg_calls_6502.proofs.PairRun.{open_takes, close_ends}
use Rattle.dvg_calls_6502.proofs.Building.{goal_low, goal_high, place_low, put_far, laid_out, laid_at, page_at}
use Rattle.dvg_calls_6502.proofs.Pairing.{place_of, comes_back, entered}

-- dvg_open
abbrev pub OpensSo : (cpu : Cpu) (half : Half) (flipped : Bool) (rest : List ℕ) → Type 0
OpensSo cpu half flipped rest = (did : Opens cpu half flipped rest) × Keeping cpu did.steps

opens_so : (cpu : Cpu) (half : Half) (flipped : Bool) (rest : List ℕ) → (did : Opens cpu half flipped rest)
    → Keeping cpu did.steps → OpensSo cpu half flipped rest
opens_so cpu half flipped rest did keeping = (did, keeping)

pub open_steadily : (cpu : Cpu) (begin stop : ℕ) (half : Half) (flipped first : Bool) (rest : List ℕ)
    → Enters cpu dvg_open → Holds cpu.mem begin stop (record { place = Resting first; half = half; flipped = flipped })
    → 2 ≤ length rest → length rest ≤ 1022 → OpensSo cpu half flipped rest
open_steadily cpu begin stop half flipped first rest enters holds some fits = by half refl
  where
    at_half : (h : Bool) → cpu.mem 0x11 ≡ free_of h → free_of h ≡ high (other half) → high_of h < 256 → free_of h < 256
        → 256 * high_of h + 2 ≡ 0x4000 + 2 * base (other half) → OpensSo cpu half flipped rest
    at_half h free is small f_small place =
        let did = open_takes cpu.s cpu.a cpu.x cpu.y cpu.s cpu.n cpu.z cpu.c cpu.v cpu.d cpu.i (cpu.mem 0x12) (cpu.mem 0x13)
        (cpu.mem 0x14) (cpu.mem 0x15) (cpu.mem 0x16) (cpu.mem 0x17) (cpu.mem 0x18) (cpu.mem 0x19) (cpu.mem 0x1A) cpu.mem
        cpu.flags [] h in
        let bytes = enters.loaded.bytes in
        subst (λ (k : Cpu). OpensSo k half flipped rest) (entered cpu 0x6924 2 enters holds.place.0)
        (subst (λ f. OpensSo (at 0x6924 cpu.a cpu.x cpu.y cpu.s cpu.n cpu.z cpu.c cpu.v cpu.d cpu.i
        (laid (page_of 2 f (cpu.mem 0x12) (cpu.mem 0x13) (cpu.mem 0x14) (cpu.mem 0x15) (cpu.mem 0x16)
        (cpu.mem 0x17) (cpu.mem 0x18) (cpu.mem 0x19) (cpu.mem 0x1A)) cpu.mem) cpu.flags []) half flipped rest) (sym free)
        (opens_so (at 0x6924 cpu.a cpu.x cpu.y cpu.s cpu.n cpu.z cpu.c cpu.v cpu.d cpu.i
        (laid (page_of 2 (free_of h) (cpu.mem 0x12) (cpu.mem 0x13) (cpu.mem 0x14) (cpu.mem 0x15) (cpu.mem 0x16)
        (cpu.mem 0x17) (cpu.mem 0x18) (cpu.mem 0x19) (cpu.mem 0x1A)) cpu.mem) cpu.flags []) half flipped rest
        (record {
          steps = did.steps;
          returns = comes_back did;
          carry = did.carry;
          shows = did.accesses;
          alike = alike_if _ did.steps (comes_back did) (λ tables. did.steady tables refl) did.there;
          begins = ap goal_in did.memory ∙ omega (arith, place);
          building = subst (λ (m : ℕ → ℕ). IsBuilding m half flipped rest) (sym did.memory) (record {
            phase = refl;
            free = is;
            publish = holds.flipped;
            low = refl;
            page = omega (arith, place);
            even = refl;
            begun = omega arith;
            some = some;
            fits = omega (arith, fits);
          });
          loaded = subst IsLoaded (sym did.memory)
              (loaded (page_of 7 (free_of h) (cpu.mem 0x12) 2 0 (high_of h) 0 (cpu.mem 0x17) (cpu.mem 0x18) (cpu.mem 0x19)
              (cpu.mem 0x1A)) cpu.mem (small_page (omega arith) f_small (bytes 0x12) (omega arith) (omega arith) small
              (omega arith) (bytes 0x17) (bytes 0x18) (bytes 0x19) (bytes 0x1A)) bytes);
          kept = λ b own. ap (λ (m : ℕ → ℕ). m b) did.memory
              ∙ same_out (page_of 7 (free_of h) (cpu.mem 0x12) 2 0 (high_of h) 0 (cpu.mem 0x17) (cpu.mem 0x18)
              (cpu.mem 0x19) (cpu.mem 0x1A)) (page_of 2 (free_of h) (cpu.mem 0x12) (cpu.mem 0x13) (cpu.mem 0x14)
              (cpu.mem 0x15) (cpu.mem 0x16) (cpu.mem 0x17) (cpu.mem 0x18) (cpu.mem 0x19) (cpu.mem 0x1A)) cpu.mem b own;
        })
        (record {
          byte1 = ap (λ (m : ℕ → ℕ). m 0x4001) did.memory;
          steady = λ tables. did.steady tables refl;
          there = did.there;
        })))

    by : (now : Half) → half ≡ now → OpensSo cpu half flipped rest
    by H0 is = at_half true (holds.place.1 ∙ ap (λ k. high (other k)) is) (sym (ap (λ k. high (other k)) is))
        (omega arith) (omega arith) (ap (λ k. 0x4000 + 2 * base (other k)) (sym is))
    by H1 is = at_half false (holds.place.1 ∙ ap (λ k. high (other k)) is) (sym (ap (λ k. high (other k)) is))
        (omega arith) (omega arith) (ap (λ k. 0x4000 + 2 * base (other k)) (sym is))

pub open_is_taken : OpenTakes
open_is_taken cpu begin stop half flipped first rest enters holds some fits =
    (open_steadily cpu begin stop half flipped first rest enters holds some fits).0

-- dvg_close
abbrev pub ClosesSo : (cpu : Cpu) (half : Half) (flipped : Bool) → Type 0
ClosesSo cpu half flipped = (did : Closes cpu half flipped) × Keeping cpu did.steps

module _ (a x y s : ℕ) (n z c v d i : Bool) (mem flags : ℕ → ℕ) (load : IsLoaded mem) (half : Half) (flipped : Bool)
    (building : IsBuilding mem half flipped (0 ∷ 0xB0 ∷ [])) where
  abbrev end : ℕ
  end = goal_in mem

  end_low : 0x4002 ≤ end
  end_low = goal_low mem half flipped (0 ∷ 0xB0 ∷ []) load building

  end_high : end + 2 ≤ 0x4800
  end_high = goal_high mem half flipped (0 ∷ 0xB0 ∷ []) load building

  end_place : mem 0x13 < 255
  end_place = place_low mem half flipped (0 ∷ 0xB0 ∷ []) load building

  h0_is : (mem 0x14 + 256 * mem 0x15 + mem 0x13) % 65536 ≡ end
  h0_is = omega (arith, end_high)

  h1_is : (mem 0x14 + 256 * mem 0x15 + (mem 0x13 + 1) % 256) % 65536 ≡ suc end
  h1_is = omega (arith, end_high, end_place)

  abbrev shut : ℕ → List ℕ
  shut phase = page_of phase (mem 0x11) (mem 0x12) (mem 0x13) (mem 0x14) (mem 0x15) (mem 0x16) (mem 0x17) (mem 0x18)
      (mem 0x19) (mem 0x1A)

  abbrev ended : ℕ → ℕ
  ended = put (suc end) 0xB0 (put end 0 mem)

  shuts : Comes s (at 0x6A00 a x y s n z c v d i (laid (shut 7) mem) flags []) s false (laid (shut (mem 0x12)) ended)
      (Writes (suc end) 0xB0 ∷ Writes end 0 ∷ []) []
  shuts =
      subst (λ p. Comes s (at 0x6A00 a x y s n z c v d i (laid (shut 7) mem) flags []) s false
      (laid (shut (mem 0x12)) (put (suc end) 0xB0 (put p 0 mem))) (Writes (suc end) 0xB0 ∷ Writes p 0 ∷ []) []) h0_is
      (subst (λ p. Comes s (at 0x6A00 a x y s n z c v d i (laid (shut 7) mem) flags []) s false
      (laid (shut (mem 0x12)) (put p 0xB0 (put to0 0 mem))) (Writes p 0xB0 ∷ Writes to0 0 ∷ []) []) h1_is
      (close_ends s a x y s n z c v d i (mem 0x11) (mem 0x12) (mem 0x13) (mem 0x14) (mem 0x15) (mem 0x16) (mem 0x17)
      (mem 0x18) (mem 0x19) (mem 0x1A) mem flags [] (place_of end to0 h0_is end_low (omega (arith, end_high)))
      (place_of (suc end) _ h1_is (omega (arith, end_low)) (omega (arith, end_high)))))
    where
      to0 : ℕ
      to0 = (mem 0x14 + 256 * mem 0x15 + mem 0x13) % 65536

  closes_at : (set : Bool) → flipped ≡ set → (begin stop : ℕ) → Holds (laid (shut (mem 0x12)) ended) begin stop
      (record { place = Writing (word_zero (other half) (not flipped)); half = half; flipped = flipped })
  closes_at true is begin stop = let word = ap (λ (t : Bool). word_zero (other half) (not t)) is in
      record { flipped = building.publish; place = (building.free, inr (inr (building.publish ∙ ap publish_byte is, word))) }
  closes_at false is begin stop = let word = ap (λ (t : Bool). word_zero (other half) (not t)) is in
      record { flipped = building.publish; place = (building.free, inr (inl (building.publish ∙ ap publish_byte is, word))) }

  closes : ClosesSo (at 0x6A00 a x y s n z c v d i (laid (shut 7) mem) flags []) half flipped
  closes = (
    record {
      steps = shuts.steps;
      returns = comes_back shuts;
      carry = shuts.carry;
      shows = shuts.accesses;
      alike = alike_if _ shuts.steps (comes_back shuts) (λ tables. shuts.steady tables refl) shuts.there;
      holds = λ begin stop. subst (λ (m : ℕ → ℕ). Holds m begin stop
          (record { place = Writing (word_zero (other half) (not flipped)); half = half; flipped = flipped }))
          (sym shuts.memory) (closes_at flipped refl begin stop);
      loaded = subst IsLoaded (sym shuts.memory) (loaded (shut (mem 0x12)) ended (small_page (load.bytes 0x12)
          (load.bytes 0x11) (load.bytes 0x12) (load.bytes 0x13) (load.bytes 0x14) (load.bytes 0x15) (load.bytes 0x16)
          (load.bytes 0x17) (load.bytes 0x18) (load.bytes 0x19) (load.bytes 0x1A))
          (put_small (suc end) 0xB0 (put end 0 mem) (omega arith) (put_small end 0 mem (omega arith) load.bytes)));
      kept = λ b own out ram. ap (λ (m : ℕ → ℕ). m b) shuts.memory ∙ laid_out (shut (mem 0x12)) ended mem load b own
          (put_far (suc end) 0xB0 (put end 0 mem) b ram (omega (arith, end_low)) (omega (arith, end_high))
          ∙ put_far end 0 mem b ram end_low (omega (arith, end_high))) ∙ laid_at 7 mem load b own;
    },
    record {
      byte1 = ap (λ (m : ℕ → ℕ). m 0x4001) shuts.memory
          ∙ ap (λ (t : Bool). if t then 0xB0 else put end 0 mem 0x4001)
          (ne_eqb 0x4001 (suc end) (λ same. absurd (omega (arith, same, end_low))))
          ∙ ap (λ (t : Bool). if t then 0 else mem 0x4001)
          (ne_eqb 0x4001 end (λ same. absurd (omega (arith, same, end_low))));
      steady = λ tables. shuts.steady tables refl;
      there = shuts.there;
    },
  )

pub close_steadily : (cpu : Cpu) (half : Half) (flipped : Bool) → Enters cpu dvg_close
    → IsBuilding cpu.mem half flipped (0 ∷ 0xB0 ∷ []) → ClosesSo cpu half flipped
close_steadily cpu half flipped enters building =
    subst (λ (k : Cpu). ClosesSo k half flipped) (entered cpu 0x6A00 7 enters building.phase)
    (closes cpu.a cpu.x cpu.y cpu.s cpu.n cpu.z cpu.c cpu.v cpu.d cpu.i cpu.mem cpu.flags enters.loaded half flipped building)

pub close_takes : CloseTakes
close_takes cpu half flipped enters building = (close_steadily cpu half flipped enters building).0

-- a tick that changes nothing, and a call of dvg_run that does
module _ (cpu : Cpu) where
  abbrev resting : (entry phase : ℕ) → Cpu
  resting entry phase = at entry cpu.a cpu.x cpu.y cpu.s cpu.n cpu.z cpu.c cpu.v cpu.d cpu.i (laid (page_at phase cpu.mem) cpu.mem) cpu.flags []

  idles : (entry phase n : ℕ) → let end = run cpu.s n (resting entry phase) in
      end.mem end.pc ≡ 0x60 → end.s ≡ cpu.s → seen end.log ≡ [] → end.mem ≡ (resting entry phase).mem
      → ((tables : ℕ → Bool) → are_steady (is_kept tables) cpu.s n (resting entry phase) ≡ true) → is_code end.pc ≡ true
      → (did : Idles (resting entry phase)) × (did.steps ≡ n)
  idles entry phase n opcode level quiet same steady there =
      let back = returned cpu.s (run cpu.s n (resting entry phase)) opcode level in (
        record {
          steps = n;
          returns = back;
          shows = quiet;
          kept = same;
          alike = alike_if (resting entry phase) n back steady there;
        },
        refl,
      )

pub idle_ticks : IdleTicks
idle_ticks cpu enters (inl is) = subst Idles (entered cpu 0x686A 2 enters is)
    (idles cpu 0x686A 2 7 refl refl refl refl (λ tables. refl) refl).0
idle_ticks cpu enters (inr is) = subst Idles (entered cpu 0x686A 7 enters is)
    (idles cpu 0x686A 7 15 refl refl refl refl (λ tables. refl) refl).0

pub run_returns : RunReturns
run_returns cpu enters (inl is) = subst (λ (k : Cpu). (did : Idles k) × (did.steps ≤ 6)) (entered cpu 0x6809 2 enters is)
    (let it = idles cpu 0x6809 2 4 refl refl refl refl (λ tables. refl) refl in (it.0, omega (arith, it.1)))
run_returns cpu enters (inr is) = subst (λ (k : Cpu). (did : Idles k) × (did.steps ≤ 6)) (entered cpu 0x6809 7 enters is)
    (let it = idles cpu 0x6809 7 6 refl refl refl refl (λ tables. refl) refl in (it.0, omega (arith, it.1)))
