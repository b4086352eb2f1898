-- A list that grows at its end, and the table of what it holds. Only the check's own functions cite this.
use Rattle.std.specs.Prelude.{◌≡◌, ◌≤◌, ◌⊎◌, Bool, true, List, ◌++◌, length, Contains, count_by, All}
use Rattle.std.specs.Prelude.{slice_index_or, false}
use Rattle.dvg_frame.specs.declared.checking.pair.TheConstants.{PAIRS}
use Rattle.dvg_frame.specs.declared.checking.pair.Pair.{Pair}
use Rattle.dvg_frame.specs.own.Pairs.{IsPair, index}

-- the list grew at its end, only by pairs of which New holds, and now has all of those
pub record Grows (old new : List Pair) (New : Pair → Type 0) : Type 0 where
  pub more : List Pair
  pub kept : new ≡ old ++ more
  pub only : (pair : Pair) → Contains new pair → Contains old pair ⊎ New pair
  pub all : (pair : Pair) → New pair → Contains new pair

-- the list holds each pair that is marked, and each item is a pair that a draft can have
pub record AreListed (marks : List Bool) (items : List Pair) : Type 0 where
  pub size : length marks ≡ PAIRS
  pub held : (pair : Pair) → IsPair pair → slice_index_or marks (index pair) false ≡ true → Contains items pair
  pub valid : All IsPair items

-- besides, there are no more items than marks, so each item is marked and none is there twice
pub record AreMarked (marks : List Bool) (items : List Pair) : Type 0 where
  pub listed : AreListed marks items
  pub counted : length items ≤ count_by (λ mark. mark) marks
