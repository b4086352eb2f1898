-- How faults of a draft are numbered, and which place each names.
use Rattle.std.specs.Prelude.{ℕ, Option, Some, None}
use Rattle.dvg_frame.specs.declared.fault.FrameFault.{FrameFault}
use Rattle.dvg_frame.specs.declared.fault.FrameFault.TheVariants.{Empty, NoLabs, TooLong, Target, RunsOff, OutOfRom}
use Rattle.dvg_frame.specs.declared.fault.FrameFault.TheVariants.{TooDeep, NoCaller, Loops}
use Rattle.dvg_frame.specs.declared.place.Place.{Place}
use Rattle.dvg_frame.specs.declared.place.Place.TheVariants.{InFrame}

-- the number of a fault
abbrev pub number_of : FrameFault → ℕ
number_of Empty = 1
number_of NoLabs = 2
number_of TooLong = 3
number_of (Target i) = 4
number_of (RunsOff i) = 5
number_of (OutOfRom place) = 6
number_of (TooDeep place) = 7
number_of (NoCaller place) = 8
number_of Loops = 9

-- the place that a fault names, if it names one
abbrev pub place_of : FrameFault → Option Place
place_of (Target i) = Some (InFrame i)
place_of (RunsOff i) = Some (InFrame i)
place_of (OutOfRom place) = Some place
place_of (TooDeep place) = Some place
place_of (NoCaller place) = Some place
place_of _ = None
