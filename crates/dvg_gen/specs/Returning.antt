-- The call that a return answers, read off a run directly.
use Rattle.std.specs.Prelude.{◌≡◌, ◌≢◌, ◌+◌, List, [], ◌∷◌, ◌++◌}
use Rattle.dvg_gen.specs.Run.{Visit, calls, returns}

-- reading back from a return over the older instructions, newest first, the call is the first place where there is one
-- call more than returns
pub record IsAnswered (older : List Visit) (call : Visit) : Type 0 where
  pub between : List Visit
  pub before : List Visit
  pub parts : older ≡ between ++ call ∷ before
  pub one_more : calls (between ++ call ∷ []) ≡ returns (between ++ call ∷ []) + 1
  pub nowhere_nearer : (nearer farther : List Visit) → between ≡ nearer ++ farther → calls nearer ≢ returns nearer + 1
