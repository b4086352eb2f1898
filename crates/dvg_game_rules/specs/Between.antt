-- What a game leaves alone between its calls of the driver.
use Rattle.std.specs.Prelude.{◌≡◌, ◌⊎◌, ℕ, ◌&&◌, ◌||◌, Bool, true, false, nat_le, nat_lt}
use Rattle.dvg_game_rules.specs.Machine.{State, Choice, IsRun, step, restarts, calls_driver, is_own}
use Rattle.dvg_game_rules.specs.Checker.{Notes, accepts}

-- the bytes that the driver keeps from call to call, and its hardware: flag, strobe and vector RAM
abbrev pub is_drivers : ℕ → Bool
is_drivers b = is_own b || ((nat_le 0x2000 b && nat_lt b 0x3200) || (nat_le 0x4000 b && nat_lt b 0x4800))

-- each step of the game, or of its NMI, leaves each of these as it is, or dvg_reset must be called before all others
abbrev pub LeavesAlone : Type 0
LeavesAlone = (rom : ℕ → ℕ) (start : ℕ) (notes : Notes) → accepts rom start notes ≡ true → (st : State)
    → IsRun rom start st → (choice : Choice) → restarts st ≡ false → calls_driver st ≡ false
    → ((step choice st).awake ≡ false) ⊎ ((b : ℕ) → is_drivers b ≡ true → (step choice st).mem b ≡ st.mem b)
