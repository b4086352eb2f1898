-- The laws of what is said of drafts.
use Rattle.std.specs.Prelude.{◌≡◌, ℕ, List}
use Rattle.dvg_print.specs.declared.verdict.BoundedVerdict.{BoundedVerdict}
use Rattle.dvg_print.specs.declared.verdict.Verdict.{Verdict}
use Rattle.dvg_tool.specs.Checks.{Judges, JudgesBound}

-- at most one verdict is given of a text
abbrev pub OneVerdict : Type 0
OneVerdict = (text : List ℕ) (one other : Verdict) → Judges text one → Judges text other → other ≡ one

-- and one with its bound
abbrev pub OneBoundedVerdict : Type 0
OneBoundedVerdict = (text : List ℕ) (one other : BoundedVerdict) → JudgesBound text one → JudgesBound text other
    → other ≡ one
