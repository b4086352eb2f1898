-- Which instruction begins a program anew.
use Rattle.std.proofs.Common.{◌≡◌, true, refl}
use Rattle.dvg_calls_6502.specs.Processor.{A, Mode, Immediate, Instr, Load, Store, And, Or, Xor}
use Rattle.dvg_calls_6502.specs.Processor.{Add, Subtract, Compare, TestBits, Change, ShiftAt, Jump}
use Rattle.dvg_game_rules.specs.Kinds.{Sets, Nothing, Only, kind, storing, taking}
use Rattle.dvg_game_rules.specs.Machine.{State, restarting}

module _ (st : State) where
  taking_no : (sets : Sets) (mode : Mode) → restarting (taking sets mode) st ≡ true → ⊥
  taking_no sets Immediate is = cc
  taking_no sets mode is = cc

  storing_no : (mode : Mode) → restarting (storing mode) st ≡ true → ⊥
  storing_no Immediate is = cc
  storing_no mode is = cc

  pub jump_is : (i : Instr) → restarting (kind i) st ≡ true → i ≡ Jump
  jump_is (Load r mode) is = absurd (taking_no (Only r) mode is)
  jump_is (Store r mode) is = absurd (storing_no mode is)
  jump_is (And mode) is = absurd (taking_no (Only A) mode is)
  jump_is (Or mode) is = absurd (taking_no (Only A) mode is)
  jump_is (Xor mode) is = absurd (taking_no (Only A) mode is)
  jump_is (Add mode) is = absurd (taking_no (Only A) mode is)
  jump_is (Subtract mode) is = absurd (taking_no (Only A) mode is)
  jump_is (Compare r mode) is = absurd (taking_no Nothing mode is)
  jump_is (TestBits mode) is = absurd (taking_no Nothing mode is)
  jump_is (Change mode by) is = absurd (storing_no mode is)
  jump_is (ShiftAt shift mode) is = absurd (storing_no mode is)
  jump_is Jump is = refl
  jump_is i is = absurd (cc)
