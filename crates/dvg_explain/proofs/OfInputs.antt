-- What is found of what was read is found of the input.
use Rattle.std.proofs.Common.{◌≡◌, ◌+◌, ⊎_elim, ℕ, List, arith, subst, take}
use Rattle.dvg_io.proofs.Inputs.{whole_or_long}
use Rattle.dvg_read.specs.declared.draft_text.TheConstants.{MOST_TEXT_BYTES}
use Rattle.dvg_explain.specs.Findings.{IsFound}
use Rattle.dvg_explain.specs.declared.kind.Finding.{Finding}

pub found_of : {A : Type 0} (finding : Finding A) (read input : List ℕ) → read ≡ take (MOST_TEXT_BYTES + 1) input → IsFound read finding → IsFound input finding
found_of finding read input e found = ⊎_elim
    (λ same. subst (λ text. IsFound text finding) same found)
    (λ long. record {
      short = λ short. absurd (omega (arith, short, long.1));
      long = λ over. found.long long.0;
    })
    (whole_or_long MOST_TEXT_BYTES read input e)
