-- What is said of the first frame that isn't laid out.
use Rattle.std.proofs.Common.{◌≡◌, ◌<◌, ℕ, List, All, get_or, length, take}
use Rattle.dvg_named.specs.declared.meaning.NamedFrame.{NamedFrame}
use Rattle.dvg_named.specs.declared.meaning.RomName.{RomName}
use Rattle.dvg_blame.specs.Refusals.{IsFault, IsFirst, IsGood, NamesHighRom, IsUnlaid, TellsFault, TellsLow}
use Rattle.dvg_blame.specs.declared.refusal.Refusal.{Refusal}
use Rattle.dvg_blame.specs.declared.refusal.Unlaid.{Unlaid}
use Rattle.dvg_blame.specs.declared.refusal.Unlaid.TheVariants.{Refused, Memory}
use Rattle.dvg_blame.proofs.Lists.{first_at}

-- what is said otherwise, of the same refusal
pub unlaid_weaker : {A : Type 0} (P Q : Refusal A → Type 0) → ((refusal : Refusal A) → P refusal → Q refusal) → (unlaid : Unlaid A) → IsUnlaid P unlaid → IsUnlaid Q unlaid
unlaid_weaker P Q f (Refused refusal) p = f refusal p
unlaid_weaker P Q f Memory p = tt

module _ {A : Type 0} (names : List RomName) (frames : List NamedFrame) (i : ℕ) (frame : NamedFrame) (low : i < length frames) (is : frame ≡ get_or frames i frame) where
  -- a frame that the check refuses, after others that it accepts
  pub fault_at : (R : List ℕ) → All (IsGood R) (take i frames) → (unlaid : Unlaid A) → IsUnlaid (λ refusal. TellsFault R names refusal frame) unlaid
      → IsUnlaid (IsFault R names frames) unlaid
  fault_at R good = unlaid_weaker _ _ (λ refusal described. first_at (IsGood R) (TellsFault R names refusal) frames i frame low is good described)

  -- a frame that a table can't express, after others that it can
  pub low_at : All NamesHighRom (take i frames) → (unlaid : Unlaid A) → IsUnlaid (λ refusal. TellsLow names refusal frame) unlaid
      → IsUnlaid (λ refusal. IsFirst NamesHighRom (TellsLow names refusal) frames) unlaid
  low_at described = unlaid_weaker _ _ (λ refusal tells. first_at NamesHighRom (TellsLow names refusal) frames i frame low is described tells)
