-- What is shown was accepted, so it has a bound, and a run stays within it.
use Rattle.std.proofs.Common.{◌≡◌, refl, ℕ, ◌*◌, ◌≤◌, ◌<◌, List, [], ◌∷◌, sym, ap, ◌∙◌, subst, Option, Some, None, arith}
use Rattle.std.specs.Prelude.{◌^◌, option_and_then}
use Rattle.std.proofs.lemmas.Option.{none-some, same_Some}
use Rattle.dvg_gen.specs.declared.stroke.Stroke.{Stroke}
use Rattle.dvg_frame.specs.declared.op.OpKind.{OpKind}
use Rattle.dvg_frame.specs.Picture.{IsBound}
use Rattle.dvg_frame.proofs.Bounded.{some_picture}
use Rattle.dvg_driver.specs.Place.{Place}
use Rattle.dvg_log.specs.Events.{Happening}
use Rattle.dvg_log.specs.declared.event.Event.TheVariants.{Fetch}
use Rattle.dvg_log.specs.Entries.{Shown}
use Rattle.dvg_log.specs.declared.entry.Entry.TheVariants.{Low, Fetched, Done, Broke, Still}
use Rattle.dvg_log.specs.Log.{◌⟼◌, Log, Throughout, open_run, offered, before_flip, published}
use Rattle.dvg_log.specs.Legal.{Fits, IsLegal}
use Rattle.dvg_theorem.specs.Fetches.{WithinBound}
use Rattle.dvg_log.specs.Headline.{IsShown, EndsAt, KeepsTime}
use Rattle.dvg_theorem.proofs.Paced.{KeepsPace}
use Rattle.dvg_theorem.proofs.DrawnHalfSpared.{KeptBy, HasFlipped, kept}
use Rattle.dvg_theorem.proofs.Later.{shows}
use Rattle.dvg_theorem.proofs.LeastMemory.{Checked}
use Rattle.dvg_theorem.proofs.Shows.{Shows, at_zero_none, at_zero_open}
use Rattle.dvg_theorem.proofs.Words.{words_are_whole}

-- where something is published there was a flip
has_flipped : {F : List OpKind} (before : Option Log) → option_and_then offered before ≡ Some F → HasFlipped before
has_flipped None newest = absurd (none-some _ newest)
has_flipped (Some log) newest = (log, refl)

module _ (R image : List ℕ) where
  -- what the open run shows is what is newest, or, once word zero is fetched, what the run began with
  shown_by : (log : Log) (p : Place) (words : List (ℕ × ℕ)) (F : List OpKind) → KeptBy image log p → Shows R image log → open_run log ≡ Some words → IsShown log F → Checked F R
  shown_by log p [] F k s o shown =
      let newest = s.now (k.flipped (k.started [] o)) in
      subst (λ G. Checked G R) (same_Some _ _ (sym newest.newest ∙ (sym (ap published (at_zero_open log o)) ∙ shown))) newest.checked
  shown_by log p (v ∷ vs) F k s o shown =
      let running = s.running v vs o in
      subst (λ G. Checked G R) (same_Some _ _ (sym running.shown ∙ shown)) running.checked

  shown_checked : (log : Log) (words : List (ℕ × ℕ)) (F : List OpKind) → IsLegal R image log → open_run log ≡ Some words → IsShown log F → Checked F R
  shown_checked log words F legal o shown =
      let whole = words_are_whole R image log legal in
      let k = kept R image log legal whole in
      shown_by log k.0 words F k.1 (shows R image log legal whole).0 o shown

  -- the same where no run is open: it is what is newest
  none_checked : (log : Log) (F : List OpKind) → IsLegal R image log → open_run log ≡ None → IsShown log F → Checked F R
  none_checked log F legal o shown =
      let newest : published log ≡ Some F = sym (ap published (at_zero_none log o)) ∙ shown in
      let current = (shows R image log legal (words_are_whole R image log legal)).0.now (has_flipped (before_flip log) newest) in
      subst (λ G. Checked G R) (same_Some _ _ (sym current.newest ∙ newest)) current.checked

  -- what is shown has a picture
  pub has_bound : (log : Log) (F : List OpKind) → IsLegal R image log → IsShown log F → (n : ℕ) × IsBound F R n × (n < 2 ^ 63)
  has_bound log F legal shown =
      let checked = by (open_run log) refl in
      let it = some_picture F R checked.rom checked.accepts.closed checked.accepts.ends in
      (it.1, (it.0, it.2), it.3)
    where
      by : (run : Option (List (ℕ × ℕ))) → run ≡ open_run log → Checked F R
      by None is = none_checked log F legal (sym is) shown
      by (Some words) is = shown_checked log words F legal (sym is) shown

  none_open : {words : List (ℕ × ℕ)} (run : Option (List (ℕ × ℕ))) → run ≡ None → run ≡ Some words → ⊥
  none_open run none some = cc

  keeps : (log : Log) (event : Happening) (entry : Shown) → Fits R image log event entry → IsLegal R image log → KeepsPace R log event entry → KeepsTime R log event entry
  keeps log Fetch (Low a b) fits legal pace = pace
  keeps log Fetch (Fetched a w) fits legal pace = pace
  keeps log Fetch (Broke a fault) fits legal pace = absurd pace
  keeps log Fetch (Done a w drawn) fits legal pace = pace
  keeps log Fetch Still fits legal pace = λ words F drew n o shown picture. absurd (none_open (open_run log) fits o)
  keeps log Fetch _ fits legal pace = absurd fits
  keeps log _ entry fits legal pace = tt

  pub keeps_time : (log : Log) → IsLegal R image log → Throughout (KeepsPace R) log → Throughout (KeepsTime R) log
  keeps_time [] legal pace = tt
  keeps_time ((event ⟼ entry) ∷ log) legal pace = (keeps log event entry legal.0 legal.2 pace.0, keeps_time log legal.2 pace.1)

-- a fetch that ends so stays within the bound
ends_within : (number n : ℕ) (drew : List Stroke) (entry : Shown) → EndsAt number drew n entry → number ≤ 2 * n
ends_within number n drew (Done a w drawn) ends = let last = ends.0 in omega arith
ends_within number n drew (Broke a fault) ends = absurd ends
ends_within number n drew entry ends = omega arith

within : (R image : List ℕ) (log : Log) (event : Happening) (entry : Shown) → IsLegal R image log → KeepsTime R log event entry → WithinBound R log event entry
within R image log Fetch entry legal time = λ words F o shown.
    let it = has_bound R image log F legal shown in
    (it.0, it.1, it.2, ends_within _ it.0 it.1.0 entry (time words F it.1.0 it.0 o shown it.1.1))
within R image log _ entry legal time = tt

pub bounded : (R image : List ℕ) (log : Log) → IsLegal R image log → Throughout (KeepsTime R) log → Throughout (WithinBound R) log
bounded R image [] legal time = tt
bounded R image ((event ⟼ entry) ∷ log) legal time = (within R image log event entry legal.2 time.0, bounded R image log legal.2 time.1)
