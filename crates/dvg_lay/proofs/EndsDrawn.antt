-- How the run over a memory that has a frame ends.
use Rattle.std.proofs.Common.{Vec, ◌≡◌, ◌∙◌, ◌≤◌, ◌⊎◌, inl, inr, ℕ, List, ap, refl, sym, subst}
use Rattle.dvg_mem.specs.declared.half.Half.TheVariants.{H0}
use Rattle.dvg_mem.specs.Memory.{IsRom, fetched}
use Rattle.dvg_gen.specs.declared.stroke.Stroke.{Stroke}
use Rattle.dvg_gen.specs.declared.taken.GenFault.{GenFault}
use Rattle.dvg_gen.specs.Run.{Visit}
use Rattle.dvg_gen.specs.Told.{nothing}
use Rattle.dvg_frame.specs.declared.op.OpKind.{OpKind}
use Rattle.dvg_frame.specs.Ops.{IsDraft}
use Rattle.dvg_frame.specs.Picture.{IsBound, IsPicture}
use Rattle.dvg_frame.specs.Steps.{Closed}
use Rattle.dvg_log.specs.Held.{HoldsFrame}
use Rattle.dvg_theorem.specs.Law.{Finishes, IsDrawn, Undisturbed}
use Rattle.dvg_dump.specs.declared.ending.Ending.{Ending}
use Rattle.dvg_dump.specs.declared.ending.Ending.TheVariants as endings
use Rattle.dvg_dump.specs.Endings.{end_of}
use Rattle.dvg_dump.specs.Ends.{Complete, Ends, drawn_by, halts}
use Rattle.dvg_dump.specs.Memory.{DumpBytes, memory_of}
use Rattle.dvg_dump.specs.Laws.{OneEnd}
use Rattle.dvg_dump.specs.declared.runs.TheConstants.{MOST_WORDS}

-- the run over a dump ends so
abbrev pub EndsAs : {A : Type 0} → DumpBytes → Ending A → Type 0
EndsAs dump ending = (visits : List Visit) × Ends (memory_of dump) visits (end_of ending)

module _ (law : Undisturbed) (one_end : OneEnd) (F : List OpKind) (ram R : List ℕ) (n : ℕ) (draft : IsDraft F) (rom : IsRom R)
    (closed : Closed F R) (holds : HoldsFrame ram H0 F) (bound : IsBound F R n) (few : n ≤ MOST_WORDS) where
  drawn : IsDrawn F R (fetched ram R)
  drawn = law H0 F ram R draft rom closed holds

  -- the run that draws the picture
  done : Finishes (fetched ram R) nothing.first bound.0 n
  done = (drawn.exact nothing.first bound.0 n).1 bound.1

  abbrev drew : List Stroke
  drew = drawn_by done.visits

  drew_picture : IsPicture F R drew n
  drew_picture = (drawn.exact nothing.first drew n).0 (record { visits = done.visits; runs = done.runs; finished = done.finished; strokes = refl })

  -- no run ends in another way
  end_is : {A : Type 0} (ending : Ending A) → (visits : List Visit) × Ends (fetched ram R) visits (end_of ending)
      → end_of ending ≡ Complete n drew
  end_is ending ends =
      (one_end.1 (fetched ram R) ends.0 done.visits (end_of ending) (Complete n drew) ends.1 (halts done.runs few done.finished)).1

  pub picture_is : {A : Type 0} (ending : Ending A) (words : ℕ) (strokes : Vec Stroke A)
      → (visits : List Visit) × Ends (fetched ram R) visits (end_of ending) → ending ≡ endings.Finished words strokes
      → IsPicture F R strokes.items n
  picture_is ending words strokes ends finished =
      let same : Complete words strokes.items ≡ Complete n drew = ap end_of (sym finished) ∙ end_is ending ends in
      let are : drew ≡ strokes.items = cc in
      subst (λ s. IsPicture F R s n) are drew_picture

  pub none_else : {A : Type 0} (ending : Ending A) → (visits : List Visit) × Ends (fetched ram R) visits (end_of ending)
      → ((a : ℕ) × (fault : GenFault) × (ending ≡ endings.Broke a fault)) ⊎ (ending ≡ endings.Endless) → ⊥
  none_else ending ends (inl (a, fault, broke)) =
      let same = ap end_of (sym broke) ∙ end_is ending ends in cc
  none_else ending ends (inr endless) =
      let same = ap end_of (sym endless) ∙ end_is ending ends in cc
