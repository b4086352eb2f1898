-- Laws of the texts of logs.
use Rattle.std.specs.Prelude.{◌≡◌, ◌⊎◌, ℕ, List, Option}
use Rattle.dvg_read.specs.declared.fault.TextFault.{TextFault}
use Rattle.dvg_read.specs.declared.fault.TextFault.TheVariants.{Syntax}
use Rattle.dvg_print.specs.declared.log_verdict.LogVerdict.{LogVerdict}
use Rattle.dvg_print.specs.declared.moment_verdict.MomentVerdict.{MomentVerdict}
use Rattle.dvg_logs.specs.LogTexts.{HasLogFault, JudgesLog}
use Rattle.dvg_logs.specs.AllTears.{JudgesAll}
use Rattle.dvg_logs.specs.MomentTears.{HasMomentFault, JudgesMoments}

-- at most one verdict is given of the text of a log
abbrev pub OneLogVerdict : Type 0
OneLogVerdict = (base : Option ℕ) (text : List ℕ) (one other : LogVerdict) → JudgesLog base text one
    → JudgesLog base text other → other ≡ one

-- at most one line is the first that says nothing
abbrev pub OneLogFault : Type 0
OneLogFault = (base : Option ℕ) (text : List ℕ) (n m : ℕ) → HasLogFault base text (Syntax n)
    → HasLogFault base text (Syntax m) → m ≡ n

-- no verdict is given of a text that has such a line
abbrev pub NoVerdictBesideFault : Type 0
NoVerdictBesideFault = (base : Option ℕ) (text : List ℕ) (verdict : LogVerdict) (n : ℕ) → JudgesLog base text verdict
    → ¬ HasLogFault base text (Syntax n)

-- a verdict is given of a text, or it has a fault
abbrev pub IsJudged : (base : Option ℕ) → List ℕ → Type 0
IsJudged base text = ((verdict : LogVerdict) × JudgesLog base text verdict)
    ⊎ ((fault : TextFault) × HasLogFault base text fault)

-- at most one verdict is given of the text of a log by moments, wherever it is decided
abbrev pub OneMomentVerdict : Type 0
OneMomentVerdict = (base : Option ℕ) (text : List ℕ) (one other : MomentVerdict) (at end : Option ℕ)
    → JudgesMoments base text one at → JudgesMoments base text other end → other ≡ one

-- of the text of a log its torn runs are told in one way at most, and at most one verdict is given after them
abbrev pub OneAllVerdict : Type 0
OneAllVerdict = (base : Option ℕ) (text : List ℕ) (tears runs : List MomentVerdict) (one other : MomentVerdict)
    (at end : Option ℕ) → JudgesAll base text tears one at → JudgesAll base text runs other end
    → (runs ≡ tears) × (other ≡ one)

-- by moments a verdict is given of a text, or it has a fault
abbrev pub IsJudgedByMoments : (base : Option ℕ) → List ℕ → Type 0
IsJudgedByMoments base text =
    ((verdict : MomentVerdict) × (decided : Option ℕ) × JudgesMoments base text verdict decided)
    ⊎ ((fault : TextFault) × HasMomentFault base text fault)
