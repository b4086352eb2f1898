-- Whether the high byte is wanted.
use Rattle.std.proofs.Common.{◌≡◌, ◌↔◌, Bool, true, false, Option, Some, None, refl, sym, IsTrue}
use Rattle.std.specs.Prelude.{is_some, IsSome}

-- a flag that is true exactly where there is something
pub same_flag : {A : Type 0} (flag : Bool) (low : Option A) → IsTrue flag ↔ IsSome low → flag ≡ is_some low
same_flag true low both = sym (both.0 refl)
same_flag false None both = refl
same_flag false (Some a) both = both.1 refl
