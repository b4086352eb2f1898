-- What the table says of the whole draft, once it has operation 0.
use Rattle.std.proofs.Common.{◌≡◌, ℕ, suc, ◌+◌, ◌<◌, ◌≤◌, ◌^◌, List, Option, Some, refl, subst, arith, true}
use Rattle.dvg_mem.specs.Memory.{IsRom}
use Rattle.dvg_gen.specs.declared.beam.Beam.{Beam}
use Rattle.dvg_frame.specs.declared.op.OpKind.{OpKind}
use Rattle.dvg_frame.specs.declared.checking.pair.TheConstants.{DEEPEST}
use Rattle.dvg_frame.specs.declared.place.Place.{Place}
use Rattle.dvg_frame.specs.declared.place.Place.TheVariants.{InFrame}
use Rattle.dvg_frame.specs.declared.checking.table.Drawn.{Drawn}
use Rattle.dvg_frame.specs.Faults.{Accepts}
use Rattle.dvg_frame.specs.Loops.{HasLoop}
use Rattle.dvg_frame.specs.own.Pairs.{IsPlace}
use Rattle.dvg_frame.specs.Picture.{AtHalt, Draws, IsBound}
use Rattle.dvg_frame.specs.Steps.{Reached, begin, step, Closed, IsWellFormed}
use Rattle.dvg_frame.specs.own.Tables.{IsRefused, known_at, FitsAt, GoesTo, IsKnown, IsTable, end_of}
use Rattle.dvg_frame.proofs.Firsts.{closed_by}
use Rattle.dvg_frame.proofs.Bounded.{at_depth_0, bound_low}
use Rattle.dvg_frame.proofs.Loops.{walks_few}

module _ (F : List OpKind) (R : List ℕ) (begins : IsWellFormed F) (table : List (Option Drawn)) (entries : IsTable F R table) (first : Drawn) (inside : IsPlace (InFrame 0)) (is : known_at table (InFrame 0) ≡ Some first) where
  known : IsKnown F R table (InFrame 0) first
  known = entries (InFrame 0) first inside is

  -- no draft without a fault at a reached pair returns without a call, or calls too deep
  pub returns_refused : first.returns ≡ true → IsRefused F R
  returns_refused returns all = let none = (known.tight all 0 begin).back returns in absurd (omega arith)

  pub deep_refused : DEEPEST < first.calls → IsRefused F R
  deep_refused deep all = let low = (known.tight all 0 begin).deep in absurd (omega arith)

  module _ (image : IsRom R) (fits : FitsAt first 0) where
    -- each reached pair has a place of the table that fits its depth
    all_fit : {p : Place} {d : ℕ} → Reached F R p d → GoesTo table p d
    all_fit begin = record { inside = inside; drawn = first; known = is; fits = fits }
    all_fit (step {p = p} {q = q} {d = d} {e = e} reached fine leads) = let it = all_fit reached in (entries p it.drawn it.inside it.known).leads d q e it.fits leads

    closed : Closed F R
    closed = closed_by F R begins (λ p d reached. let it = all_fit reached in (entries p it.drawn it.inside it.known).fine d it.fits)

    no_loop : ¬ HasLoop F R
    no_loop loop =
        let it = all_fit loop.reached in
        let ends = (entries loop.place it.drawn it.inside it.known).draws.ends in
        walks_few F R image closed loop.depth ends.0 loop.place loop.reached (ends.1 loop.depth) loop.end loop.walk

    pub accepted : Accepts F R
    accepted = record { closed = closed; ends = no_loop }

    beam : Beam
    beam = record { x = 0; y = 0; scale = 0 }

    bound_is : IsBound F R (suc known.draws.count)
    unfolding beam
    bound_is =
        let it = known.draws.draws beam in
        let halted : end_of first.end ≡ AtHalt = at_depth_0 F R image closed begin it.2 in
        (it.0, record { last = it.1; rest = known.draws.count; draws = subst (λ e. Draws F R (InFrame 0) beam it.0 it.1 e known.draws.count) halted it.2; count = refl })

    low : suc known.draws.count < 2 ^ 63
    low = bound_low F R image closed (suc known.draws.count) no_loop bound_is

    same : suc known.draws.count ≡ first.words + 1
    same = let few = low in let words = known.draws.few (omega arith) in omega arith

    pub bound : IsBound F R (first.words + 1)
    bound = subst (IsBound F R) same bound_is

    pub small : first.words + 1 < 2 ^ 63
    small = let few = low in let equal = same in omega arith

pub fits_by : (first : Drawn) → (first.returns ≡ true → ⊥) → first.calls ≤ DEEPEST → FitsAt first 0
fits_by first never low = record { deep = omega arith; back = λ returns. absurd (never returns) }
