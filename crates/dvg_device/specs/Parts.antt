-- What is open, as the code holds it.
use Rattle.dvg_device.specs.Devices.{Open, Nothing, World, Driver, Generator, Wrapping, Judge}
use Rattle.dvg_device.specs.declared.device.Part.{Part}
use Rattle.dvg_device.specs.declared.device.Part.TheVariants as parts

-- what is open, without where it lies in memory
abbrev pub open_of : Part → Open
open_of parts.Nothing = Nothing
open_of (parts.World cabinet) = World cabinet.value.world
open_of (parts.Driver desk) = Driver desk.value
open_of (parts.Generator generator) = Generator generator
open_of (parts.Wrapping generator) = Wrapping generator
open_of (parts.Judge judge) = Judge judge.value
