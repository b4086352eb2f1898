-- What a play takes of the driver's code, so that it is calls of the driver.
use Rattle.std.specs.Prelude.{◌≡◌, ◌⊎◌, ℕ, ◌+◌, ◌≤◌, ◌||◌, Bool, true, false, nat_eq, List, ◌∷◌, Some}
use Rattle.dvg_calls_6502.specs.Processor.{Cpu, stack_place, turn}
use Rattle.dvg_calls_6502.specs.Amid.{changed, guards, is_code, is_kept, is_work}
use Rattle.dvg_calls_6502.specs.Board.{is_hardware, is_own}
use Rattle.dvg_calls_6502.specs.Routines.{Labs}
use Rattle.dvg_calls_6502.specs.Calls.{Puts, Call, after, frame_of, has_returned, is_table, is_taken, IsSessionBy}
use Rattle.dvg_calls_6502.specs.Programs.{CallBrings}

-- what a step of a call that began with this S may write: the driver's bytes, what is set for a call and what it counts
-- by, the hardware, and two bytes of the stack
abbrev pub is_written : (s b : ℕ) → Bool
is_written s b = is_own b
    || (is_work b || (is_hardware b || (nat_eq b (stack_place s) || nat_eq b (stack_place (s + 255)))))

-- after a step it is in the driver's code, with S as where it began or two lower, and all else is as it was
pub record Stays (s : ℕ) (now new : Cpu) : Type 0 where
  pub place : is_code new.pc ≡ true
  pub level : (new.s ≡ s) ⊎ (new.s + 2 ≡ s)
  pub kept : (b : ℕ) → is_written s b ≡ false → new.mem b ≡ now.mem b

-- so does each step of each call of a session, on whatever memory harmless others leave
abbrev pub CallsStay : Type 0
CallsStay = (R : List ℕ) (call : Call) (calls : List Call) (m : ℕ → ℕ) → IsSessionBy (CallBrings R) (call ∷ calls)
    → 4 ≤ call.from.s
    → ((b : ℕ) → guards (is_kept (is_table call calls)) call.from.s (after call).s b ≡ true → m b ≡ (after call).mem b)
    → Stays call.from.s (changed m (after call)) (turn call.from.s (changed m (after call)))

-- where a frame is begun, with nothing in it, a dvg_labs that has returned is taken
abbrev pub LabsBegins : Type 0
LabsBegins = (R : List ℕ) (call : Call) (calls : List Call) (rest : List ℕ) → IsSessionBy (CallBrings R) (call ∷ calls)
    → call.routine ≡ Puts Labs → frame_of calls ≡ Some (0, rest) → has_returned call ≡ true → is_taken call ≡ true
