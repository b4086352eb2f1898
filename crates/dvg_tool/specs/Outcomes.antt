-- How an engine stops, and how the program ends.
use Rattle.std.specs.Prelude.{◌≡◌, ℕ, ◌⊎◌, Result, Ok, Err}
use Rattle.dvg_io.specs.declared.fault.ToolFault.{ToolFault}
use Rattle.dvg_io.specs.declared.fault.ToolFault.TheVariants.{Text, Writer}
use Rattle.dvg_tool.specs.declared.outcome.Done.{Done}
use Rattle.dvg_tool.specs.declared.outcome.Done.TheVariants.{Good, Unseen}
use Rattle.dvg_io.specs.Watching.{one_more}

-- the answer stays and no failure was counted, or one was counted and the answer is `Writer`
abbrev pub FinishesAs : {T : Type 0} → Result T ToolFault → Result T ToolFault → ℕ → ℕ → Type 0
FinishesAs answer result old new = ((result ≡ answer) × (new ≡ old)) ⊎ ((result ≡ Err Writer) × (new ≡ one_more old))

-- the exit status
abbrev pub status_of : {A : Type 0} → Result (Done A) ToolFault → ℕ
status_of (Ok Good) = 0
status_of (Ok Unseen) = 3
status_of (Ok _) = 1
status_of (Err (Text fault)) = 1
status_of (Err _) = 2
