-- A run over the memory of a frame that has a picture ends in time, and draws the picture.
use Rattle.std.proofs.Common.{◌≡◌, ℕ, ◌≤◌, List, Option, None, sym, ap, ◌∙◌, subst, ⊎_elim}
use Rattle.std.proofs.lemmas.Bool.{cases_lt}
use Rattle.dvg_gen.specs.declared.beam.Beam.{Beam}
use Rattle.dvg_gen.specs.declared.stroke.Stroke.{Stroke}
use Rattle.dvg_gen.specs.Run.{Visit, Goes, Finished, fate, strokes, Runs}
use Rattle.dvg_gen.proofs.OneRun.{runs_same, shorter}
use Rattle.dvg_theorem.specs.Law.{Finishes, EndsInTime}
use Rattle.dvg_theorem.proofs.Law.{any_memory}

-- no run is longer than one that is finished
no_longer : (memory : ℕ → Option ℕ) (beam : Beam) (drew : List Stroke) (n m : ℕ) (visits : List Visit) (held : Option ℕ)
    → Finishes memory beam drew n → Runs memory m visits held → m ≤ n
no_longer memory beam drew n m visits held done run =
    ⊎_elim
    (λ longer.
    let front = shorter run n longer in
    let same = runs_same done.runs front.2 in
    let clash : Finished ≡ Goes = sym done.finished ∙ ap fate same.0 ∙ front.3 in
    cc)
    (λ no_more. no_more)
    (cases_lt n m)

-- a run of as many words is the finished one
same_end : (memory : ℕ → Option ℕ) (beam : Beam) (drew : List Stroke) (n m : ℕ) (visits : List Visit) (held : Option ℕ)
    → Finishes memory beam drew n → Runs memory m visits held → m ≡ n → (held ≡ None) × (fate visits ≡ Finished) × (strokes beam visits ≡ drew)
same_end memory beam drew n m visits held done run as_many =
    let same = runs_same (subst (λ count. Runs memory count visits held) as_many run) done.runs in
    (same.1, ap fate same.0 ∙ done.finished, ap (λ all. strokes beam all) same.0 ∙ done.strokes)

pub ends_in_time : EndsInTime
ends_in_time half F R memory draft image closed holds beam drew n picture m visits held run =
    let drawn = any_memory half F R memory draft image closed holds in
    let done = (drawn.exact beam drew n).1 picture in
    (no_longer memory beam drew n m visits held done run, same_end memory beam drew n m visits held done run)
