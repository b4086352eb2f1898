-- What a judge keeps of a log's open run.
use Rattle.std.specs.Prelude.{◌≡◌, ◌≢◌, ◌+◌, ◌++◌, ◌∷◌, [], ℕ, List, Option, Some, None, Bool, false, ◌==◌, ◌&&◌, ◌||◌}
use Rattle.std.specs.Int.{is_in_range}
use Rattle.dvg_mem.specs.declared.half.Half.{Half}
use Rattle.dvg_mem.specs.Areas.{IsInHalf}
use Rattle.dvg_world.specs.declared.judge.Drawing.{Drawing}
use Rattle.dvg_world.specs.declared.judge.Judge.{Judge}
use Rattle.dvg_world.specs.declared.judge.Drawing.TheVariants.{Nothing, Begun, Within}
use Rattle.dvg_log.specs.Log.{Log, open_run}

-- the run's first word is that at 000, a jump to an address in the half
pub record IsRunIn (run : Option (List (ℕ × ℕ))) (half : Half) : Type 0 where
  pub later : List (ℕ × ℕ)
  pub target : ℕ
  pub fetches : run ≡ Some (later ++ (0x000, 0xE000 + target) ∷ [])
  pub in_half : IsInHalf half target

-- a word at this address is that at 000, a jump to an address in a half
abbrev pub jumps_to_half : (address word : ℕ) → Bool
jumps_to_half address word = address == 0 && (is_in_range 0xE001 0xE1FF word || is_in_range 0xE201 0xE3FF word)

-- the first word of these fetches, which stands last, is such a jump
abbrev pub begins_in_half : List (ℕ × ℕ) → Bool
begins_in_half [] = false
begins_in_half (first ∷ []) = jumps_to_half first.0 first.1
begins_in_half (newest ∷ fetch ∷ fetches) = begins_in_half (fetch ∷ fetches)

-- the run draws a half
abbrev pub draws_half : Option (List (ℕ × ℕ)) → Bool
draws_half None = false
draws_half (Some fetches) = begins_in_half fetches

-- what a run draws, where there is one
abbrev pub FitsRun : Drawing → Option (List (ℕ × ℕ)) → Type 0
FitsRun Nothing run = (run ≢ Some []) × ((half : Half) → ¬ IsRunIn run half)
FitsRun Begun run = run ≡ Some []
FitsRun (Within half) run = IsRunIn run half

-- the judge was given this log: it knows what the open run draws
abbrev pub StandsAfter : Judge → Log → Type 0
StandsAfter judge log = FitsRun judge.drawing (open_run log)
