use Rattle.std.proofs.Common.{◌≡◌, ◌-◌, All, false, length, take}
use Rattle.dvg_rows.specs.PlainLines.{ends_token}
use Rattle.dvg_rows.proofs.line_tokens.token_end.Given as goal

abbrev pub invariant-loop-place : goal.invariant-loop-place
invariant-loop-place l = All (λ byte. ends_token byte ≡ false) (take l.place l.text)

abbrev pub decreases-loop-place : goal.decreases-loop-place
decreases-loop-place l = length l.text - l.place
