-- How the notes of what a program brings are written down.
use Rattle.std.specs.Prelude.{ℕ, nat_eq, if◌then◌else◌, List, [], ◌∷◌}
use Rattle.dvg_frame.specs.declared.op.OpKind.{OpKind}
use Rattle.dvg_game_content.specs.Brings.{Ways}

unfoldable pub way_in : List (ℕ × ℕ) → Ways
way_in [] at = 0
way_in (one ∷ more) at = if nat_eq one.0 at then one.1 else way_in more at

unfoldable pub draft_in : List (ℕ × List OpKind) → ℕ → List OpKind
draft_in [] at = []
draft_in (one ∷ more) at = if nat_eq one.0 at then one.1 else draft_in more at
