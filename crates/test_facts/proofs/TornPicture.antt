-- What the judge finds in the log of a torn picture.
use Rattle.std.proofs.Common.{◌≡◌, ℕ, [], ◌∷◌, ◌++◌, length, Option, Some, None, refl, sym, ap, ◌∙◌, subst, arith}
use Rattle.std.specs.Prelude.{IfSome, IsNone, IsTrue, Bool, true, false, not, is_some}
use Rattle.dvg_mem.specs.declared.half.Half.TheVariants.{H1}
use Rattle.dvg_driver.specs.declared.action.Action.TheVariants.{Wrote}
use Rattle.dvg_log.specs.Events.{Happening}
use Rattle.dvg_log.specs.declared.event.Event.TheVariants.{Strobe, Fetch, Tick}
use Rattle.dvg_log.specs.Entries.{Shown}
use Rattle.dvg_log.specs.declared.entry.Entry.TheVariants.{Acted, Started, Fetched}
use Rattle.dvg_log.specs.Log.{◌⟼◌, Line, Log, Throughout}
use Rattle.dvg_log.specs.Torn.{IsFirstTorn, IsTorn, IsUntorn}

-- the run began, and fetched a jump to half 1
abbrev pub begun : Log
begun = (Fetch ⟼ Fetched 0x000 0xE201) ∷ (Strobe ⟼ Started) ∷ []

-- then byte 402 was written
abbrev torn_log : Log
torn_log = (Tick ⟼ Acted (Wrote 0x402 0x00)) ∷ begun

pub torn_there : IsTorn begun Tick (Acted (Wrote 0x402 0x00))
torn_there = (H1, record { later = []; target = 0x201; fetches = refl; in_half = (omega arith, omega arith) }, (omega arith, omega arith))

abbrev entry_of : Line → Shown
entry_of (event ⟼ entry) = entry

abbrev newest : Log → Line
newest [] = Tick ⟼ Started
newest (line ∷ log) = line

abbrev older : Log → Log
older [] = []
older (line ∷ log) = log

-- the line that is torn is the newest one
only_there : (later : Log) (event : Happening) (entry : Shown) (before : Log) → torn_log ≡ later ++ (event ⟼ entry) ∷ before → IsTorn before event entry → length before ≡ 2
only_there [] event entry before e torn = sym (ap (λ log. length (older log)) e)
only_there (one ∷ []) event entry before e torn =
    let is : Fetched 0x000 0xE201 ≡ entry = ap (λ log. entry_of (newest (older log))) e in
    absurd (subst (IsTorn before event) (sym is) torn)
only_there (one ∷ two ∷ []) event entry before e torn =
    let is : Started ≡ entry = ap (λ log. entry_of (newest (older (older log)))) e in
    absurd (subst (IsTorn before event) (sym is) torn)
only_there (one ∷ two ∷ three ∷ []) event entry before e torn = let f = ap (λ log. older (older (older log))) e in absurd (cc)
only_there (one ∷ two ∷ three ∷ four ∷ later) event entry before e torn = let f = ap (λ log. older (older (older log))) e in absurd (cc)

pub torn_at_2 : (result : Option ℕ) → IfSome result (IsFirstTorn torn_log) → (IsNone result → Throughout IsUntorn torn_log) → result ≡ Some 2
torn_at_2 None first untorn = absurd ((untorn refl).0 torn_there)
torn_at_2 (Some n) first untorn = ap Some (sym first.at ∙ only_there first.later first.event first.entry first.before first.split first.torn)

pub is_none_of : (result : Option ℕ) (none : Bool) → is_some result ≡ not none → result ≡ None → IsTrue none
is_none_of (Some n) none e is = cc
is_none_of None true e is = refl
is_none_of None false e is = cc
