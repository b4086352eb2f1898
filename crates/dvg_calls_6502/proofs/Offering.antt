-- What dvg_reset, dvg_offer and dvg_redraw answer, by the script.
use Rattle.std.proofs.Common.{◌≡◌, ◌≢◌, ℕ, ◌+◌, ◌*◌, ◌%◌, ◌<◌, ◌≤◌, Bool, true, false, not, List, [], ◌∷◌, length, refl}
use Rattle.std.proofs.Common.{sym, ap, ◌∙◌, subst, arith, inl, inr, leb-true, eqb-true}
use Rattle.std.proofs.lemmas.Bool.{leb-false, eqb-false}
use Rattle.std.specs.Prelude.{◌⊎◌, ◌&&◌, nat_eq, nat_le, if◌then◌else◌}
use Rattle.dvg_mem.specs.declared.half.Half.{Half}
use Rattle.dvg_mem.specs.declared.half.Half.TheVariants.{H0, H1}
use Rattle.dvg_mem.specs.Areas.{high, other, base}
use Rattle.dvg_frame.specs.declared.op.OpKind.{OpKind}
use Rattle.dvg_driver.specs.Script.{frame_writes, word_zero}
use Rattle.dvg_driver.specs.Place.{Place, Start, Booting, Resting, Writing, Waiting, Sending}
use Rattle.dvg_driver.specs.Stands.{Stage}
use Rattle.dvg_calls_6502.specs.Processor.{Cpu, run, bit_of}
use Rattle.dvg_calls_6502.specs.Board.{IsLoaded, is_hardware, is_own, seen}
use Rattle.dvg_calls_6502.specs.Amid.{is_kept, are_steady, all_in}
use Rattle.dvg_calls_6502.specs.Holds.{Holds, IsFeeding, HoldsPlace, publish_byte}
use Rattle.dvg_calls_6502.specs.Tables.{HasTable, table_of}
use Rattle.dvg_calls_6502.specs.Routines.{Answers, IsBusy, Enters, ResetRefines, OfferTakes, OfferRefuses, RedrawTakes}
use Rattle.dvg_calls_6502.specs.Routines.{RedrawRefuses}
use Rattle.dvg_calls_6502.proofs.ProcessorRuns.{Comes, at, returned}
use Rattle.dvg_calls_6502.proofs.Memory.{AreSmall, known, page_in, laid, state_is, page_of, loaded, same_out, out_of_page, small_page}
use Rattle.dvg_calls_6502.proofs.TableTick.{not_flag}
use Rattle.dvg_calls_6502.proofs.TableBegins.{BeginsTable, table_begins}
use Rattle.dvg_calls_6502.proofs.Steady.{steady_all, code_kept}
use Rattle.dvg_calls_6502.proofs.OfferRun.{reset, offer_refuses, redraw_takes, redraw_first, redraw_refuses, offer_takes}
use Rattle.dvg_calls_6502.proofs.OfferRun.{free_of, high_of}

-- an answer, of a call that takes guarded bytes alone
pub record Steadily (tables : ℕ → Bool) (from : Cpu) (c : Bool) (begin stop : ℕ) (new : Stage) : Type 0 where
  pub did : Answers from c begin stop new
  pub steady : (k : ℕ) → are_steady (is_kept tables) from.s k from ≡ true

-- a run that comes to its end, as an answer
answers : (tables : ℕ → Bool) (from : Cpu) (c : Bool) (page : List ℕ) (mem : ℕ → ℕ) (begin stop : ℕ) (new : Stage)
    {reads : List ℕ} → all_in tables reads ≡ true → from.log ≡ []
    → ((b : ℕ) → mem b < 256) → AreSmall page
    → Comes from.s from from.s c (laid page mem) (seen from.log) reads → Holds (laid page mem) begin stop new
    → ((b : ℕ) → is_own b ≡ false → laid page mem b ≡ from.mem b) → Steadily tables from c begin stop new
answers tables from c page mem begin stop new held no_log bytes small comes holds kept =
    let back = returned from.s (run from.s comes.steps from) comes.returns comes.stack in
    record {
      did = record {
        steps = comes.steps;
        returns = back;
        carry = comes.carry;
        shows = comes.accesses ∙ ap seen no_log;
        holds = subst (λ (m : ℕ → ℕ). Holds m begin stop new) (sym comes.memory) holds;
        loaded = subst IsLoaded (sym comes.memory) (loaded page mem small bytes);
        kept = λ b own. ap (λ (m : ℕ → ℕ). m b) comes.memory ∙ kept b own;
      };
      steady = λ k. steady_all (is_kept tables) from.s comes.steps k from (comes.steady tables held) back
          (code_kept tables (run from.s comes.steps from).pc comes.there);
    }

-- a driver that doesn't rest isn't idle
pub not_idle : (mem : ℕ → ℕ) (begin stop : ℕ) (place : Place) (half : Half) (flipped : Bool)
    → HoldsPlace mem begin stop place half flipped → IsBusy place → nat_eq (mem 0x10) 2 ≡ false
not_idle mem begin stop (Resting first) half flipped holds busy = absurd busy
not_idle mem begin stop (Writing writes) half flipped holds busy = by holds.1
  where
    by : IsFeeding mem begin stop half flipped writes ⊎ ((mem 0x10 ≡ 3) × (writes ≡ word_zero (other half) true))
        ⊎ ((mem 0x10 ≡ 4) × (writes ≡ word_zero (other half) false)) → nat_eq (mem 0x10) 2 ≡ false
    by (inl feeds) = ap (λ p. nat_eq p 2) feeds.phase
    by (inr (inl is)) = ap (λ p. nat_eq p 2) is.0
    by (inr (inr is)) = ap (λ p. nat_eq p 2) is.0
not_idle mem begin stop _ half flipped holds busy = ap (λ p. nat_eq p 2) holds.0

module _ (tables : ℕ → Bool) (a x y s : ℕ) (n z c v d i : Bool) (mem flags : ℕ → ℕ) (load : IsLoaded mem)
    (begin stop : ℕ) where
  abbrev page : ℕ → ℕ → ℕ → List ℕ
  page phase free publish = page_of phase free publish (mem 0x13) (mem 0x14) (mem 0x15) (mem 0x16) (mem 0x17)
      (mem 0x18) (mem 0x19) (mem 0x1A)

  small : (phase free publish : ℕ) → phase < 256 → free < 256 → publish < 256 → AreSmall (page phase free publish)
  small phase free publish p f l = small_page p f l (load.bytes 0x13) (load.bytes 0x14) (load.bytes 0x15)
      (load.bytes 0x16) (load.bytes 0x17) (load.bytes 0x18) (load.bytes 0x19) (load.bytes 0x1A)

  abbrev from : ℕ → Cpu
  from entry = at entry a x y s n z c v d i (laid (page_in mem) mem) flags []

  resets : (half : Half) → Steadily tables (from 0x6800) c begin stop (record { place = Start; half = half; flipped = false })
  resets half = answers tables (from 0x6800) c (page 0 (mem 0x11) 3) mem begin stop
      (record { place = Start; half = half; flipped = false }) refl refl load.bytes
      (small 0 (mem 0x11) 3 (omega arith) (load.bytes 0x11) (omega arith))
      (reset s a x y s n z c v d i (mem 0x11) (mem 0x13) (mem 0x14) (mem 0x15) (mem 0x16) (mem 0x17) (mem 0x18) (mem 0x19)
      (mem 0x1A) mem flags [] (mem 0x10) (mem 0x12))
      (record { flipped = refl; place = (refl, refl) })
      (λ b own. same_out (page 0 (mem 0x11) 3) (page_in mem) mem b own)

  abbrev HoldsHere : Stage → Type 0
  HoldsHere stage = Holds mem begin stop stage

  holds_here : (stage : Stage) → HoldsHere stage → Holds (laid (page_in mem) mem) begin stop stage
  holds_here stage holds = subst (λ (m : ℕ → ℕ). Holds m begin stop stage) (known mem load) holds

  whole_small : AreSmall (page_in mem)
  whole_small = small (mem 0x10) (mem 0x11) (mem 0x12) (load.bytes 0x10) (load.bytes 0x11) (load.bytes 0x12)

  offer_busy : (stage : Stage) → Holds mem begin stop stage → IsBusy stage.place
      → Steadily tables (from 0x68FE) true begin stop stage
  offer_busy stage holds busy =
      answers tables (from 0x68FE) true (page_in mem) mem begin stop stage refl refl load.bytes whole_small
      (offer_refuses s a x y s n z c v d i (mem 0x11) (mem 0x13) (mem 0x14) (mem 0x15) (mem 0x16) (mem 0x17) (mem 0x18)
      (mem 0x19) (mem 0x1A) mem flags [] (mem 0x10) (mem 0x12) (load.bytes 0x10)
      (not_idle mem begin stop stage.place stage.half stage.flipped holds.place busy))
      (holds_here stage holds) (λ b own. refl)

  redraw_busy : (stage : Stage) → Holds mem begin stop stage → (stage.flipped ≡ true → IsBusy stage.place)
      → Steadily tables (from 0x6943) true begin stop stage
  redraw_busy stage holds busy = by (nat_eq (mem 0x10) 2) refl
    where
      with_both : ℕ → ℕ → Type 0
      with_both phase publish =
          Comes s (at 0x6943 a x y s n z c v d i (laid (page phase (mem 0x11) publish) mem) flags []) s true
          (laid (page phase (mem 0x11) publish) mem) [] []

      ends : Comes s (from 0x6943) s true (laid (page_in mem) mem) [] [] → Steadily tables (from 0x6943) true begin stop stage
      ends comes = answers tables (from 0x6943) true (page_in mem) mem begin stop stage refl refl load.bytes whole_small comes
          (holds_here stage holds) (λ b own. refl)

      -- it rests, and has published nothing
      rests : mem 0x10 ≡ 2 → (t : Bool) → stage.flipped ≡ t → Steadily tables (from 0x6943) true begin stop stage
      rests idle true is = absurd (let e = not_idle mem begin stop stage.place stage.half stage.flipped holds.place (busy is) in
          let f = sym (ap (λ p. nat_eq p 2) idle) ∙ e in cc)
      rests idle false is = ends (subst (λ p. with_both p (mem 0x12)) (sym idle)
          (subst (with_both 2) (sym (holds.flipped ∙ ap publish_byte is))
          (redraw_first s a x y s n z c v d i (mem 0x11) (mem 0x13) (mem 0x14) (mem 0x15) (mem 0x16) (mem 0x17) (mem 0x18)
          (mem 0x19) (mem 0x1A) mem flags [])))

      by : (t : Bool) → nat_eq (mem 0x10) 2 ≡ t → Steadily tables (from 0x6943) true begin stop stage
      by true is = rests (eqb-true (mem 0x10) 2 is) stage.flipped refl
      by false is = ends (redraw_refuses s a x y s n z c v d i (mem 0x11) (mem 0x13) (mem 0x14) (mem 0x15) (mem 0x16)
          (mem 0x17) (mem 0x18) (mem 0x19) (mem 0x1A) mem flags [] (mem 0x10) (mem 0x12) (load.bytes 0x10) is)

  redraw_rests : (half : Half) (first : Bool)
      → Holds mem begin stop (record { place = Resting first; half = half; flipped = true })
      → Steadily tables (from 0x6943) false begin stop (record { place = Waiting first; half = half; flipped = true })
  redraw_rests half first holds = answers tables (from 0x6943) false (page 5 (mem 0x11) 4) mem begin stop
      (record { place = Waiting first; half = half; flipped = true }) refl refl load.bytes
      (small 5 (mem 0x11) 4 (omega arith) (load.bytes 0x11) (omega arith))
      (subst (λ p. Comes s (at 0x6943 a x y s n z c v d i (laid (page p (mem 0x11) (mem 0x12)) mem) flags []) s false
      (laid (page 5 (mem 0x11) 4) mem) [] []) (sym holds.place.0)
      (subst (λ p. Comes s (at 0x6943 a x y s n z c v d i (laid (page 2 (mem 0x11) p) mem) flags []) s false
      (laid (page 5 (mem 0x11) 4) mem) [] []) (sym holds.flipped)
      (redraw_takes s a x y s n z c v d i (mem 0x11) (mem 0x13) (mem 0x14) (mem 0x15) (mem 0x16) (mem 0x17) (mem 0x18)
      (mem 0x19) (mem 0x1A) mem flags [])))
      (record { flipped = refl; place = (refl, holds.place.1, holds.place.2) })
      (λ b own. same_out (page 5 (mem 0x11) 4) (page_in mem) mem b own)

-- the end's byte is even
even_end : (wl wh len : ℕ) → wl < 256 → len ≤ 1022 → 2 * (wl + 256 * wh) ≡ len
    → ((2 * wl % 256 + 1) % 256 + 1) % 256 % 2 ≡ 0
even_end wl wh len small fits is = omega arith

-- the count, doubled, and its own two bytes
counted : (wl wh len e2 : ℕ) (t u : Bool) → wl < 256 → len ≤ 1022 → 2 * (wl + 256 * wh) ≡ len
    → e2 ≡ ((2 * wl % 256 + 1) % 256 + 1) % 256
    → nat_le 128 wl ≡ t → nat_eq e2 0 ≡ u
    → 256 * (if u then ((2 * wh + bit_of t) % 256 + 1) % 256 else (2 * wh + bit_of t) % 256) + e2 ≡ 2 + len
counted wl wh len e2 true true low fits is e test none = let most = leb-true 128 wl test in
    let zero = eqb-true e2 0 none in omega arith
counted wl wh len e2 true false low fits is e test none = let most = leb-true 128 wl test in
    let some : e2 ≢ 0 = eqb-false e2 0 none in omega (arith, some)
counted wl wh len e2 false true low fits is e test none = let less = leb-false 128 wl test in
    let zero = eqb-true e2 0 none in omega arith
counted wl wh len e2 false false low fits is e test none = let less = leb-false 128 wl test in
    let some : e2 ≢ 0 = eqb-false e2 0 none in omega (arith, some)

module _ (tables : ℕ → Bool) (a x y s : ℕ) (n z c v d i : Bool) (mem flags : ℕ → ℕ) (load : IsLoaded mem)
    (a_small : a < 256)
    (x_small : x < 256)
    (half : Half) (set : Bool) (F : List OpKind) (h : Bool) (free_is : free_of h ≡ high (other half))
    (high_is : 256 * high_of h + 2 ≡ 0x4000 + 2 * base (other half))
    (h_small : high_of h < 256) (f_small : free_of h < 256) (clear : mem 0x12 ≡ publish_byte set)
    (table : HasTable mem (a + 256 * x) F)
    (covers : all_in tables ((a + 256 * x) ∷ (a + 256 * x + 1) ∷ []) ≡ true) where
  abbrev t : ℕ
  t = a + 256 * x

  abbrev wl : ℕ
  wl = mem t

  abbrev wh : ℕ
  wh = mem (t + 1)

  abbrev len : ℕ
  len = length (table_of F)

  abbrev e0 : ℕ
  e0 = 2 * wl % 256

  abbrev e2 : ℕ
  e2 = ((e0 + 1) % 256 + 1) % 256

  abbrev p0 : ℕ
  p0 = (2 * wh + bit_of (nat_le 128 wl)) % 256

  abbrev p2 : ℕ
  p2 = if nat_eq e2 0 then (p0 + 1) % 256 else p0

  abbrev final : List ℕ
  final = page_of 0x80 (free_of h) (mem 0x12) 2 0 (high_of h) p2 e2 0 a x

  abbrev begun : List ℕ
  begun = page_of 2 (free_of h) (mem 0x12) (mem 0x13) (mem 0x14) (mem 0x15) (mem 0x16) (mem 0x17) (mem 0x18)
      (mem 0x19) (mem 0x1A)

  reads : (page : List ℕ) (b : ℕ) → 0x200 ≤ b → laid page mem b ≡ mem b
  reads page b low = same_out page (page_in mem) mem b (out_of_page b low)
      ∙ sym (ap (λ (m : ℕ → ℕ). m b) (known mem load))

  low_is : (a + 256 * x + 0) % 65536 ≡ t
  low_is = omega (arith, a_small, x_small)

  high_place_is : (a + 256 * x + 1) % 65536 ≡ t + 1
  high_place_is = omega (arith, table.ends)

  -- the count of a table's words, as the code finds it
  abbrev heads : List ℕ
  heads = ((a + 256 * x + 0) % 65536) ∷ ((a + 256 * x + 1) % 65536) ∷ []

  comes : Comes s (at 0x68FE a x y s n z c v d i (laid begun mem) flags []) s false (laid final mem) [] heads
  comes = offer_takes s a x y s n z c v d i (mem 0x12) (mem 0x13) (mem 0x14) (mem 0x15) (mem 0x16) (mem 0x17) (mem 0x18)
      (mem 0x19) (mem 0x1A) mem flags [] h wl wh
      (λ page. ap (laid page mem) low_is ∙ reads page t table.low)
      (λ page. let low : 0x200 ≤ t + 1 = omega (arith, table.low) in ap (laid page mem) high_place_is
      ∙ reads page (t + 1) low)
      (ap (λ p. nat_eq p 0x2002) low_is ∙ not_flag t table.head.0)
      (ap (λ p. nat_eq p 0x2002) high_place_is ∙ not_flag (t + 1) table.head.1)
      (ap is_hardware low_is ∙ table.head.0)
      (ap is_hardware high_place_is ∙ table.head.1)

  held : all_in tables heads ≡ true
  held = ap (λ p. tables p && (tables ((a + 256 * x + 1) % 65536) && true)) low_is
      ∙ ap (λ p. tables t && (tables p && true)) high_place_is ∙ covers

  begins : BeginsTable (laid final mem) (t + 2) half F
  begins = record {
    fit = table.fit;
    phase = refl;
    free = free_is;
    place = refl;
    to_low = refl;
    to_high = high_is;
    from = refl;
    mark = refl;
    some = table.some;
    fits = table.fits;
    counted = counted wl wh len e2 (nat_le 128 wl) (nat_eq e2 0) (load.bytes t) table.fits table.count refl refl refl;
    even = even_end wl wh len (load.bytes t) table.fits table.count;
    table = λ k less. let low : 0x200 ≤ t + 2 + k = omega (arith, table.low) in reads final (t + 2 + k) low
        ∙ table.table k less;
    far = table.far;
    low = omega (arith, table.low);
    ends = table.ends;
  }

  p2_small : (u : Bool) → (if u then (p0 + 1) % 256 else p0) < 256
  p2_small true = omega arith
  p2_small false = omega arith

  small_final : AreSmall final
  small_final = small_page (omega arith) f_small (load.bytes 0x12) (omega arith) (omega arith) h_small
      (p2_small (nat_eq e2 0)) (omega arith) (omega arith) a_small x_small

  offers : Steadily tables (at 0x68FE a x y s n z c v d i (laid begun mem) flags []) false (t + 2) (t + 2 + len)
      (record { place = Writing (frame_writes (other half) F (not set)); half = half; flipped = set })
  offers = answers tables (at 0x68FE a x y s n z c v d i (laid begun mem) flags []) false final mem (t + 2)
      (t + 2 + len)
      (record { place = Writing (frame_writes (other half) F (not set)); half = half; flipped = set }) held refl load.bytes
      small_final comes
      (table_begins (laid final mem) (t + 2) half set F clear begins)
      (λ b own. same_out final begun mem b own)

module _ (tables : ℕ → Bool) (a x y s : ℕ) (n z c v d i : Bool) (mem flags : ℕ → ℕ) (load : IsLoaded mem)
    (a_small : a < 256)
    (x_small : x < 256) (set : Bool) (F : List OpKind)
    (covers : all_in tables ((a + 256 * x) ∷ (a + 256 * x + 1) ∷ []) ≡ true) where
  abbrev with_phase : ℕ → ℕ → Cpu
  with_phase phase free =
      at 0x68FE a x y s n z c v d i
      (laid (page_of phase free (mem 0x12) (mem 0x13) (mem 0x14) (mem 0x15) (mem 0x16) (mem 0x17) (mem 0x18)
      (mem 0x19) (mem 0x1A)) mem) flags []

  abbrev Goal : Half → Cpu → Type 0
  Goal half cpu = Steadily tables cpu false (a + 256 * x + 2) (a + 256 * x + 2 + length (table_of F))
      (record { place = Writing (frame_writes (other half) F (not set)); half = half; flipped = set })

  offer_rests : (half : Half) → mem 0x10 ≡ 2 → mem 0x11 ≡ high (other half) → mem 0x12 ≡ publish_byte set
      → HasTable mem (a + 256 * x) F → Goal half (with_phase (mem 0x10) (mem 0x11))
  offer_rests H0 phase free clear table = subst (λ p. Goal H0 (with_phase p (mem 0x11))) (sym phase)
      (subst (λ f. Goal H0 (with_phase 2 f)) (sym free)
      (offers tables a x y s n z c v d i mem flags load a_small x_small H0 set F true refl refl (omega arith)
      (omega arith) clear table covers))
  offer_rests H1 phase free clear table = subst (λ p. Goal H1 (with_phase p (mem 0x11))) (sym phase)
      (subst (λ f. Goal H1 (with_phase 2 f)) (sym free)
      (offers tables a x y s n z c v d i mem flags load a_small x_small H1 set F false refl refl (omega arith)
      (omega arith) clear table covers))

-- from any state at an entry
module _ (cpu : Cpu) (entry : ℕ) (enters : Enters cpu entry) where
  abbrev pub here : Cpu
  here = at entry cpu.a cpu.x cpu.y cpu.s cpu.n cpu.z cpu.c cpu.v cpu.d cpu.i (laid (page_in cpu.mem) cpu.mem) cpu.flags []

  pub here_is : here ≡ cpu
  here_is = ap (λ l. at entry cpu.a cpu.x cpu.y cpu.s cpu.n cpu.z cpu.c cpu.v cpu.d cpu.i (laid (page_in cpu.mem) cpu.mem) cpu.flags l)
      (sym enters.log) ∙ state_is cpu entry cpu.s enters.entry refl enters.loaded

pub resets_steadily : (tables : ℕ → Bool) (cpu : Cpu) (begin stop : ℕ) (half : Half) → Enters cpu 0x6800
    → Steadily tables cpu cpu.c begin stop (record { place = Start; half = half; flipped = false })
resets_steadily tables cpu begin stop half enters =
    subst (λ (k : Cpu). Steadily tables k cpu.c begin stop (record { place = Start; half = half; flipped = false }))
    (here_is cpu 0x6800 enters)
    (resets tables cpu.a cpu.x cpu.y cpu.s cpu.n cpu.z cpu.c cpu.v cpu.d cpu.i cpu.mem cpu.flags enters.loaded begin stop half)

pub reset_refines : ResetRefines
reset_refines cpu begin stop half enters = (resets_steadily (λ b. false) cpu begin stop half enters).did

pub refuses_steadily : (tables : ℕ → Bool) (cpu : Cpu) (begin stop : ℕ) (stage : Stage) → Enters cpu 0x68FE
    → Holds cpu.mem begin stop stage → IsBusy stage.place → Steadily tables cpu true begin stop stage
refuses_steadily tables cpu begin stop stage enters holds busy =
    subst (λ (k : Cpu). Steadily tables k true begin stop stage) (here_is cpu 0x68FE enters)
    (offer_busy tables cpu.a cpu.x cpu.y cpu.s cpu.n cpu.z cpu.c cpu.v cpu.d cpu.i cpu.mem cpu.flags enters.loaded begin stop stage
    holds busy)

pub offer_is_refused : OfferRefuses
offer_is_refused cpu begin stop stage enters holds busy =
    (refuses_steadily (λ b. false) cpu begin stop stage enters holds busy).did

pub redraw_refuses_steadily : (tables : ℕ → Bool) (cpu : Cpu) (begin stop : ℕ) (stage : Stage) → Enters cpu 0x6943
    → Holds cpu.mem begin stop stage → (stage.flipped ≡ true → IsBusy stage.place)
    → Steadily tables cpu true begin stop stage
redraw_refuses_steadily tables cpu begin stop stage enters holds busy =
    subst (λ (k : Cpu). Steadily tables k true begin stop stage) (here_is cpu 0x6943 enters)
    (redraw_busy tables cpu.a cpu.x cpu.y cpu.s cpu.n cpu.z cpu.c cpu.v cpu.d cpu.i cpu.mem cpu.flags enters.loaded begin stop
    stage holds busy)

pub redraw_is_refused : RedrawRefuses
redraw_is_refused cpu begin stop stage enters holds busy =
    (redraw_refuses_steadily (λ b. false) cpu begin stop stage enters holds busy).did

pub redraw_takes_steadily : (tables : ℕ → Bool) (cpu : Cpu) (begin stop : ℕ) (half : Half) (first : Bool)
    → Enters cpu 0x6943 → Holds cpu.mem begin stop (record { place = Resting first; half = half; flipped = true })
    → Steadily tables cpu false begin stop (record { place = Waiting first; half = half; flipped = true })
redraw_takes_steadily tables cpu begin stop half first enters holds =
    subst (λ (k : Cpu). Steadily tables k false begin stop
    (record { place = Waiting first; half = half; flipped = true })) (here_is cpu 0x6943 enters)
    (redraw_rests tables cpu.a cpu.x cpu.y cpu.s cpu.n cpu.z cpu.c cpu.v cpu.d cpu.i cpu.mem cpu.flags enters.loaded begin stop
    half first holds)

pub redraw_is_taken : RedrawTakes
redraw_is_taken cpu begin stop half first enters holds =
    (redraw_takes_steadily (λ b. false) cpu begin stop half first enters holds).did

pub takes_steadily : (tables : ℕ → Bool) (cpu : Cpu) (begin stop : ℕ) (half : Half) (set first : Bool)
    (F : List OpKind) → all_in tables ((cpu.a + 256 * cpu.x) ∷ (cpu.a + 256 * cpu.x + 1) ∷ []) ≡ true
    → Enters cpu 0x68FE → Holds cpu.mem begin stop (record { place = Resting first; half = half; flipped = set })
    → HasTable cpu.mem (cpu.a + 256 * cpu.x) F
    → let t = cpu.a + 256 * cpu.x + 2 in
    Steadily tables cpu false t (t + length (table_of F))
    (record { place = Writing (frame_writes (other half) F (not set)); half = half; flipped = set })
takes_steadily tables cpu begin stop half set first F covers enters holds table =
    subst (λ (k : Cpu). Steadily tables k false (cpu.a + 256 * cpu.x + 2)
    (cpu.a + 256 * cpu.x + 2 + length (table_of F))
    (record { place = Writing (frame_writes (other half) F (not set)); half = half; flipped = set }))
    (here_is cpu 0x68FE enters)
    (offer_rests tables cpu.a cpu.x cpu.y cpu.s cpu.n cpu.z cpu.c cpu.v cpu.d cpu.i cpu.mem cpu.flags enters.loaded enters.a
    enters.x set F covers half holds.place.0 holds.place.1 holds.flipped table)

pub offer_is_taken : OfferTakes
offer_is_taken cpu begin stop half set first F enters holds table =
    (takes_steadily (λ b. true) cpu begin stop half set first F refl enters holds table).did
