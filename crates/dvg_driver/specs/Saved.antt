-- A driver's state as a plain value.
use Rattle.std.specs.Prelude.{◌≡◌, ◌≢◌, ℕ, ◌*◌, ◌<◌, ◌≤◌, List, Some, IfSome}
use Rattle.dvg_mem.specs.Areas.{other}
use Rattle.dvg_frame.specs.Faults.{Accepts, Refuses}
use Rattle.dvg_frame.specs.Layout.{size}
use Rattle.dvg_frame.specs.Left.{CursorState}
use Rattle.dvg_driver.specs.declared.fault.DriverStateFault.{DriverStateFault}
use Rattle.dvg_driver.specs.declared.fault.DriverStateFault.TheVariants.{Flipped, Frame, Half, Left}
use Rattle.dvg_driver.specs.declared.state.DriverState.{DriverState}
use Rattle.dvg_driver.specs.declared.state.Phase.TheVariants as phase
use Rattle.dvg_driver.specs.Phases.{Allows, driving_at}
use Rattle.dvg_driver.specs.Stands.{Driving, Stage}

-- the frame in a state can be written over this ROM: the check accepts it, it is laid out for the half that is free, and
-- it has as many bytes as are left
abbrev pub IsWritable : List ℕ → DriverState → Type 0
IsWritable R state =
    Accepts state.frame R × (state.frame_half ≡ other state.half) × (state.left ≤ 2 * size state.frame)

-- the parts of a state fit together, over this ROM
abbrev pub IsState : List ℕ → DriverState → Type 0
IsState R state = Allows state.phase state.flipped (IsWritable R state)

-- why the frame in a state can't be written over this ROM: the fault of the check, the wrong half, or too few bytes
abbrev pub IsUnwritable : List ℕ → DriverState → DriverStateFault → Type 0
IsUnwritable R state Flipped = ⊥
IsUnwritable R state (Frame fault) = Refuses state.frame R fault
IsUnwritable R state Half = Accepts state.frame R × (state.frame_half ≢ other state.half)
IsUnwritable R state Left =
    Accepts state.frame R × (state.frame_half ≡ other state.half) × (2 * size state.frame < state.left)

-- why the parts of a state don't fit together: a frame that is being written can't be, and otherwise it is the flip
abbrev pub IsUnfit : List ℕ → DriverState → DriverStateFault → Type 0
IsUnfit R state Flipped = (state.phase ≢ phase.Writing) × ¬ IsState R state
IsUnfit R state fault = (state.phase ≡ phase.Writing) × IsUnwritable R state fault

-- what gives the bytes of the frame in a state
abbrev pub cursor_in : DriverState → CursorState
cursor_in state = record { draft = state.frame; half = state.frame_half; left = state.left }

-- a driver in a state; of the frame that it writes the last bytes are still to come
abbrev pub driving_in : DriverState → Driving
driving_in state = driving_at state.phase (Some (cursor_in state)) state.half state.flipped

-- its stage
abbrev pub stage_in : DriverState → Stage
stage_in state = (driving_in state).stage

-- the check accepts the frame that a driver keeps, if it keeps one, over this ROM
abbrev pub KeepsAccepted : List ℕ → Driving → Type 0
KeepsAccepted R driver = IfSome driver.frame (λ F. Accepts F R)
