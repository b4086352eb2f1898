-- Which drafts have steps that come to no end. Steps are judged, not runs: a loop after a call that
-- halts is one, too.
use Rattle.std.specs.Prelude.{ℕ, suc, ◌+◌, ◌/◌, List, length}
use Rattle.dvg_frame.specs.declared.op.OpKind.{OpKind}
use Rattle.dvg_frame.specs.declared.place.Place.{Place}
use Rattle.dvg_frame.specs.Steps.{Leads, Reached}

-- this many steps, all at this depth, lead from a place to a place
pub data Walks (F : List OpKind) (R : List ℕ) (d : ℕ) : Place → ℕ → Place → Type 0 where
  none : {p : Place} → Walks F R d p 0 p
  more : {p q end : Place} {n : ℕ} → Leads F R p d q d → Walks F R d q n end → Walks F R d p (suc n) end

-- a reached pair begins more steps at its depth than there are places: operations, and words of the ROM
pub record HasLoop (F : List OpKind) (R : List ℕ) : Type 0 where
  pub place : Place
  pub depth : ℕ
  pub end : Place
  pub reached : Reached F R place depth
  pub walk : Walks F R depth place (1 + (length F + length R / 2)) end

-- a reached pair to which steps at its depth come back
pub record ComesBack (F : List OpKind) (R : List ℕ) : Type 0 where
  pub place : Place
  pub depth : ℕ
  pub count : ℕ
  pub reached : Reached F R place depth
  pub walk : Walks F R depth place (suc count) place
