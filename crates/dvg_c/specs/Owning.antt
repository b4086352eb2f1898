-- A device behind a pointer.
use Rattle.std.specs.Prelude.{◌≡◌}
use mir.Syntax.{Ty}
use base.Fml.{Fml}
use denote.RawPtr.{Ptr}
use Rattle.std.specs.Box.Ownership.{box_owns}
use Rattle.std.specs.contracts.impls.GlobalAllocator.TheImpl.{ghosts}
use Rattle.dvg_device.specs.Devices.{Held, closed}
use Rattle.dvg_device.specs.contracts.device.Device.{the_row}

-- the right to free the block of a value of this type
abbrev pub frees : Ty → Ptr → Fml
frees = ghosts.dealloc_token (record { memory = record { seal = tt } })

-- the device lies there, and whoever says so has all of it, with the right to free its block
abbrev pub owned : Ptr → Held → Fml
owned p device = box_owns frees the_row p device

-- a device in which nothing is open
abbrev pub IsNew : Held → Type 0
IsNew device = device ≡ closed
