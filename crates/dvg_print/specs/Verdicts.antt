-- What `check` answers of a draft, and how it is written.
use Rattle.std.specs.Prelude.{◌≡◌, ℕ, List, [], ◌∷◌, ◌++◌, codes, decimal}
use Rattle.dvg_frame.specs.declared.op.OpKind.{OpKind}
use Rattle.dvg_frame.specs.declared.place.Place.{Place}
use Rattle.dvg_frame.specs.declared.place.Place.TheVariants.{InFrame, InRom}
use Rattle.dvg_frame.specs.declared.fault.FrameFault.{FrameFault}
use Rattle.dvg_frame.specs.declared.fault.FrameFault.TheVariants.{Empty, NoLabs, TooLong, Target, RunsOff, OutOfRom}
use Rattle.dvg_frame.specs.declared.fault.FrameFault.TheVariants.{TooDeep, NoCaller, Loops}
use Rattle.dvg_frame.specs.Layout.{size}
use Rattle.dvg_frame.specs.Faults.{Accepts, Refuses}
use Rattle.dvg_frame.specs.Picture.{IsBound}
use Rattle.dvg_print.specs.Lines.{hex_3, spaced}
use Rattle.dvg_print.specs.declared.verdict.Verdict.{Verdict}
use Rattle.dvg_print.specs.declared.verdict.Verdict.TheVariants.{Good, Refused}
use Rattle.dvg_print.specs.declared.verdict.BoundedVerdict.{BoundedVerdict}
use Rattle.dvg_print.specs.declared.verdict.BoundedVerdict.TheVariants as bounded

-- what is said of a draft over a ROM: its number of words, where it is accepted, or the fault that is picked
abbrev pub IsVerdict : List OpKind → List ℕ → Verdict → Type 0
IsVerdict F R (Good words) = Accepts F R × (words ≡ size F)
IsVerdict F R (Refused fault) = Refuses F R fault

-- the same, with the bound of a draft that is accepted
abbrev pub IsBoundedVerdict : List OpKind → List ℕ → BoundedVerdict → Type 0
IsBoundedVerdict F R (bounded.Good words bound) = Accepts F R × (words ≡ size F) × IsBound F R bound
IsBoundedVerdict F R (bounded.Refused fault) = Refuses F R fault

-- such a verdict without its bound
abbrev pub without_bound : BoundedVerdict → Verdict
without_bound (bounded.Good words bound) = Good words
without_bound (bounded.Refused fault) = Refused fault

-- a place's name: an operation's number, or a ROM word's address
abbrev pub place_parts : Place → List (List ℕ)
place_parts (InFrame i) = codes "op" ∷ decimal i ∷ []
place_parts (InRom a) = codes "word" ∷ hex_3 a ∷ []

-- the parts of a fault's text
abbrev pub fault_parts : FrameFault → List (List ℕ)
fault_parts Empty = codes "1 empty" ∷ []
fault_parts NoLabs = codes "2 no labs" ∷ []
fault_parts TooLong = codes "3 too long" ∷ []
fault_parts (Target i) = codes "4 target" ∷ decimal i ∷ []
fault_parts (RunsOff i) = codes "5 runs off" ∷ decimal i ∷ []
fault_parts (OutOfRom place) = codes "6 out of rom" ∷ place_parts place
fault_parts (TooDeep place) = codes "7 too deep" ∷ place_parts place
fault_parts (NoCaller place) = codes "8 no caller" ∷ place_parts place
fault_parts Loops = codes "9 loops" ∷ []

-- the line of a fault; 10 is LF
abbrev pub fault_line : FrameFault → List ℕ
fault_line fault = codes "fault" ++ spaced (fault_parts fault) ++ 10 ∷ []

-- the line of a verdict
abbrev pub verdict_line : Verdict → List ℕ
verdict_line (Good words) = codes "ok" ++ spaced (decimal words ∷ codes "words" ∷ []) ++ 10 ∷ []
verdict_line (Refused fault) = fault_line fault

-- the line of a verdict with its bound
abbrev pub bounded_line : BoundedVerdict → List ℕ
bounded_line (bounded.Good words bound) =
    codes "ok" ++ spaced (decimal words ∷ codes "words" ∷ decimal bound ∷ codes "fetches" ∷ []) ++ 10 ∷ []
bounded_line (bounded.Refused fault) = fault_line fault
