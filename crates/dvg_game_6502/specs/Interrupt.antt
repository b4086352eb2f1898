-- What an NMI leaves alone, where the checker accepts a ROM.
use Rattle.std.specs.Prelude.{◌≡◌, ◌⊎◌, ℕ, ◌+◌, ◌<◌, ◌≤◌, Bool, true, false, Some}
use Rattle.dvg_calls_6502.specs.Amid.{guards, is_kept}
use Rattle.dvg_game_rules.specs.Machine.{State, Choice, Came, IsRun, restarts, step}
use Rattle.dvg_game_rules.specs.Checker.{Notes, accepts, is_free}

-- a byte that no NMI writes which came with this S: it isn't free, and not on the stack up to there
pub record IsSpared (s b : ℕ) : Type 0 where
  pub bound : is_free b ≡ false
  pub above : (b < 0x100) ⊎ (0x100 + s < b)

-- each step of an NMI's routine leaves spared bytes as they were
abbrev pub NmiSpares : Type 0
NmiSpares = (rom : ℕ → ℕ) (start : ℕ) (notes : Notes) → accepts rom start notes ≡ true → (st : State) (came : Came)
    → IsRun rom start st → st.amid ≡ Some came → (choice : Choice) → restarts st ≡ false
    → (b : ℕ) → IsSpared came.s b → (step choice st).mem b ≡ st.mem b

-- each byte guarded amid a driver's call that began with this S is spared, if tables are in the ROM
abbrev pub GuardIsSpared : Type 0
GuardIsSpared = (tables : ℕ → Bool) → ((b : ℕ) → tables b ≡ true → 0x4800 ≤ b) → (s now : ℕ) → s ≤ 255
    → (now ≡ s) ⊎ (now + 2 ≡ s) → (b : ℕ) → guards (is_kept tables) s now b ≡ true → IsSpared now b
