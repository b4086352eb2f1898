-- What a world keeps of its driver, in a number.
use Rattle.std.specs.Prelude.{ℕ, ◌+◌, ◌*◌, ◌/◌, ◌%◌, ◌==◌, Bool, List, [], ◌∷◌, Option, Some, None, if◌then◌else◌}
use Rattle.dvg_mem.specs.declared.half.Half.{Half}
use Rattle.dvg_mem.specs.declared.half.Half.TheVariants.{H0, H1}
use Rattle.dvg_frame.specs.declared.op.OpKind.{OpKind}
use Rattle.dvg_driver.specs.declared.state.DriverState.{DriverState}
use Rattle.dvg_driver.specs.declared.state.Phase.{Phase}
use Rattle.dvg_driver.specs.declared.state.Phase.TheVariants.{Start, Booting, Resting, Writing, Flipping}
use Rattle.dvg_driver.specs.declared.state.Phase.TheVariants.{Waiting, Sending}
use Rattle.dvg_device.specs.Bits.{bit}
use Rattle.dvg_device.specs.Lookup.{looked_up}
use Rattle.dvg_device.specs.declared.driver.DriverFields.{DriverFields}

-- the fields of a driver's state, and whether a strobe is under way
abbrev pub fields_of : DriverState → Bool → DriverFields
fields_of state sent = record {
  phase = state.phase;
  half = state.half;
  flipped = state.flipped;
  frame_half = state.frame_half;
  left = state.left;
  strobe_sent = sent;
}

-- the state of a driver with these fields, and this frame
abbrev pub state_of : DriverFields → List OpKind → DriverState
state_of fields F = record {
  phase = fields.phase;
  half = fields.half;
  flipped = fields.flipped;
  frame = F;
  frame_half = fields.frame_half;
  left = fields.left;
}

-- the number of a phase
abbrev pub phase_number : Phase → ℕ
phase_number Start = 0
phase_number Booting = 1
phase_number Resting = 2
phase_number Writing = 3
phase_number Flipping = 4
phase_number Waiting = 5
phase_number Sending = 6

-- the phase of a number, if there is one
abbrev pub phase_in : ℕ → Option Phase
phase_in n = looked_up None n ((0, Some Start) ∷ (1, Some Booting) ∷ (2, Some Resting) ∷ (3, Some Writing)
    ∷ (4, Some Flipping) ∷ (5, Some Waiting) ∷ (6, Some Sending) ∷ [])

-- a half as a bit, and the half of a bit
abbrev pub half_bit : Half → ℕ
half_bit H0 = 0
half_bit H1 = 1

abbrev pub half_in : ℕ → Half
half_in n = if n % 2 == 1 then H1 else H0

-- the fields as a number: 8 bits of 38, 8 of the phase, four flags, and 16 bits of what is left
abbrev pub driver_number : DriverFields → ℕ
driver_number fields = 38 + 0x100 * phase_number fields.phase + 0x1_0000 * half_bit fields.half
    + 0x2_0000 * bit fields.flipped + 0x4_0000 * half_bit fields.frame_half + 0x8_0000 * bit fields.strobe_sent
    + 0x100_0000 * fields.left

-- the fields in a number, with this phase
abbrev pub fields_in : Option Phase → ℕ → Option DriverFields
fields_in None n = None
fields_in (Some phase) n = Some (record {
  phase = phase;
  half = half_in (n / 0x1_0000);
  flipped = n / 0x2_0000 % 2 == 1;
  frame_half = half_in (n / 0x4_0000);
  left = n / 0x100_0000 % 0x1_0000;
  strobe_sent = n / 0x8_0000 % 2 == 1;
})

-- the fields in a number, if it has a phase
abbrev pub driver_in : ℕ → Option DriverFields
driver_in n = fields_in (phase_in (n / 0x100 % 0x100)) n
