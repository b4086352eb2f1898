-- How long runs over a memory take that has a frame.
use Rattle.std.proofs.Common.{◌≡◌, ◌<◌, ◌≤◌, ◌+◌, ◌-◌, ◌∙◌, ℕ, suc, List, Option, Some, None}
use Rattle.std.proofs.Common.{Bool, true, false, ◌&&◌}
use Rattle.std.proofs.Common.{ap, arith, inl, inr, length, nat_le, nat_lt, refl, slice_index, sym}
use Rattle.std.specs.Prelude.{if◌then◌else◌}
use Rattle.std.proofs.lemmas.Bool.{le-leb, leb-true}
use Rattle.std.proofs.lemmas.Bool.Decides.{eqb_tells, leb_tells}
use Rattle.dvg_code.specs.Words.{word_in}
use Rattle.dvg_mem.specs.declared.half.Half.{Half}
use Rattle.dvg_mem.specs.declared.half.Half.TheVariants.{H0}
use Rattle.dvg_mem.specs.Areas.{base}
use Rattle.dvg_mem.specs.Memory.{IsRom, fetched, rom_word}
use Rattle.dvg_mem.proofs.Roms.{behind_ram, rom_some}
use Rattle.dvg_gen.specs.Run.{Visit, Finished, Runs, begins, fate, fetches}
use Rattle.dvg_gen.specs.Told.{nothing}
use Rattle.dvg_gen.proofs.OneRun.{one_end as same_end}
use Rattle.dvg_frame.specs.declared.op.OpKind.{OpKind}
use Rattle.dvg_frame.specs.Layout.{laid}
use Rattle.dvg_frame.specs.Ops.{IsDraft}
use Rattle.dvg_frame.specs.Picture.{IsBound}
use Rattle.dvg_frame.specs.Steps.{Closed}
use Rattle.dvg_frame.proofs.Sizes.{closed_fits}
use Rattle.dvg_log.specs.Held.{HoldsFrame}
use Rattle.dvg_theorem.specs.Law.{AnyMemory, Finishes, HasFrame, IsDrawn}
use Rattle.dvg_theorem.proofs.LeastMemory.{frame_memory, least_has}
use Rattle.dvg_dump.specs.Ends.{Complete, drawn_by, halts}
use Rattle.dvg_dump.specs.Laws.{OneEnd}
use Rattle.dvg_lay.specs.declared.time.PictureTime.{PictureTime}
use Rattle.dvg_lay.specs.Times.{IsTimeOf, spent_by, told}
use Rattle.dvg_lay.specs.Walks.{IsRunTime}
use Rattle.dvg_dump.specs.declared.runs.TheConstants.{MOST_WORDS}

-- a run over a memory is one over each memory that has its words
grown_run : {small large : ℕ → Option ℕ} {words : ℕ} {visits : List Visit} {held : Option ℕ}
    → ((a w : ℕ) → small a ≡ Some w → large a ≡ Some w) → Runs small words visits held
    → Runs large words visits held
grown_run more begins = begins
grown_run more (fetches r g m a) = fetches (grown_run more r) g (more _ _ m) a

-- a memory that has a frame has the words of the least one
module _ (memory : ℕ → Option ℕ) (half : Half) (F : List OpKind) (R : List ℕ) (has : HasFrame memory half F R)
    (a w : ℕ) where
  in_half : base half ≤ a → a < base half + length (laid half F)
      → ◌≡◌ {A = Option ℕ} (Some (slice_index (laid half F) (a - base half))) (Some w) → memory a ≡ Some w
  in_half from below is =
      let back : base half + (a - base half) ≡ a = omega (arith, from) in
      let low : a - base half < length (laid half F) = omega (arith, from, below) in
      ap memory (sym back) ∙ has.laid (a - base half) low ∙ is

  by_place : (s t : Bool) → nat_le (base half) a ≡ s → nat_lt a (base half + length (laid half F)) ≡ t
      → (if s && t then Some (slice_index (laid half F) (a - base half)) else rom_word R a) ≡ Some w
      → memory a ≡ Some w
  by_place true true es et is =
      in_half (leb-true (base half) a es) (leb-true (suc a) (base half + length (laid half F)) et) is
  by_place true false es et is = has.shapes a w is
  by_place false t es et is = has.shapes a w is

  least_in : frame_memory half F R a ≡ Some w → memory a ≡ Some w
  least_in is =
      elim (eqb_tells a 0) [
        | inl t ↦ ap memory t.1 ∙ has.zero ∙ rw t.0 at is
        | inr t ↦ by_place (nat_le (base half) a) (nat_lt a (base half + length (laid half F))) refl refl
            (rw t.0 at is)
      ]

-- a RAM beside a ROM has the frame that the RAM holds in half 0
ram_word : (ram R : List ℕ) (a : ℕ) → a < 0x400 → fetched ram R a ≡ Some (word_in ram a)
ram_word ram R a low = let is : nat_lt a 0x400 ≡ true = le-leb (suc a) 0x400 low in rw is refl

rom_there : (ram R : List ℕ) (a w : ℕ) → rom_word R a ≡ Some w → fetched ram R a ≡ Some w
rom_there ram R a w is =
    let place = rom_some R a w is in
    let from = place.0 in
    let past = behind_ram R in
    elim (leb_tells (suc a) 0x400) [ inl t ↦ absurd (omega (arith, t.1, from, past)) | inr t ↦ rw t.0 is ]

ram_has : (ram R : List ℕ) (F : List OpKind) → length (laid H0 F) ≤ 511 → HoldsFrame ram H0 F
    → HasFrame (fetched ram R) H0 F R
ram_has ram R F fits holds = record {
  zero = ram_word ram R 0 (omega arith) ∙ ap Some holds.zero;
  laid = λ k low. ram_word ram R (base H0 + k) (omega (arith, fits, low)) ∙ ap Some (holds.laid k low);
  shapes = rom_there ram R;
}

module _ (law : AnyMemory) (F : List OpKind) (R : List ℕ) (n : ℕ) (draft : IsDraft F) (rom : IsRom R)
    (closed : Closed F R) (bound : IsBound F R n) where
  fits : length (laid H0 F) ≤ 511
  fits = closed_fits H0 F R closed

  least : IsDrawn F R (frame_memory H0 F R)
  least = law H0 F R (frame_memory H0 F R) draft rom closed (least_has H0 F R fits)

  -- the run over the least memory
  least_run : Finishes (frame_memory H0 F R) nothing.first bound.0 n
  least_run = (least.exact nothing.first bound.0 n).1 bound.1

  there : (memory : ℕ → Option ℕ) → HasFrame memory H0 F R → Runs memory n least_run.visits None
  there memory has = grown_run (least_in memory H0 F R has) least_run.runs

  -- each run that ends in HALT has its instructions
  same_visits : (memory : ℕ → Option ℕ) (words : ℕ) (visits : List Visit) → HasFrame memory H0 F R
      → Runs memory words visits None → fate visits ≡ Finished → least_run.visits ≡ visits
  same_visits memory words visits has runs finished = (same_end (there memory has) least_run.finished runs finished).1

  -- so the run over a RAM that has the frame takes the time
  pub time_is : OneEnd → n ≤ MOST_WORDS → (ram : List ℕ) → HoldsFrame ram H0 F → (time : PictureTime)
      → IsRunTime (fetched ram R) time → IsTimeOf F R time
  time_is one_end few ram holds time timed memory words visits has runs finished =
      let ram_runs = there (fetched ram R) (ram_has ram R F fits holds) in
      let same = one_end.1 (fetched ram R) timed.0 least_run.visits timed.1 (Complete n (drawn_by least_run.visits))
      timed.2 (halts ram_runs few least_run.finished) in
      timed.3 ∙ ap (λ v. told (spent_by v)) (same.0 ∙ same_visits memory words visits has runs finished)
