-- What the cells of a memory compute. A memory is a function from addresses to bytes.
use Rattle.std.specs.Prelude.{ℕ, nat_eq, if◌then◌else◌}

-- $memrd without a clock of its own: the byte as the memory stands before the edge, at which a register takes it
abbrev pub memrd : (ℕ → ℕ) → ℕ → ℕ
memrd ram at = ram at

-- $memwr_v2, whose bits of enable are all 1 or all 0: the memory after the edge
abbrev pub memwr : (enable at byte : ℕ) → (ℕ → ℕ) → ℕ → ℕ
memwr enable at byte ram a = if nat_eq enable 0 then ram a else if nat_eq a at then byte else ram a
