-- The pictures of longer logs.
use Rattle.std.proofs.Common.{◌≡◌, ℕ, zero, suc, List, [], ◌∷◌, ◌++◌, length, replicate, Some, None, refl, sym, ap, ◌∙◌}
use Rattle.std.proofs.lemmas.Option.{none-some, same_Some}
use Rattle.dvg_gen.specs.declared.stroke.Stroke.{Stroke}
use Rattle.dvg_log.specs.declared.entry.Entry.TheVariants.{Done}
use Rattle.dvg_log.specs.Entries.{Shown, drew_in}
use Rattle.dvg_log.specs.Events.{Happening}
use Rattle.dvg_log.specs.Log.{Log, ◌⟼◌}
use Rattle.dvg_world.specs.Keeping.{pictures_of}

-- a line whose run finished has one picture more
pub pictures_more : (event : Happening) (log : Log) (entry : Shown) (strokes : List Stroke) → drew_in entry ≡ Some strokes
    → pictures_of ((event ⟼ entry) ∷ log) ≡ pictures_of log ++ (length log, strokes) ∷ []
pictures_more event log (Done address word drew) strokes is =
    ap (λ strokes. pictures_of log ++ (length log, strokes) ∷ []) (same_Some drew strokes is)
pictures_more event log _ strokes is = absurd (none-some strokes is)

-- and any other has none
pub pictures_none : (event : Happening) (log : Log) (entry : Shown) → drew_in entry ≡ None
    → pictures_of ((event ⟼ entry) ∷ log) ≡ pictures_of log
pictures_none event log (Done address word drew) none = absurd (none-some drew (sym none))
pictures_none event log _ none = refl

-- nor have as many as there are
pub pictures_alike : (times : ℕ) (event : Happening) (log : Log) (entry : Shown) → drew_in entry ≡ None
    → pictures_of (replicate times (event ⟼ entry) ++ log) ≡ pictures_of log
pictures_alike zero event log entry none = refl
pictures_alike (suc n) event log entry none =
    pictures_none event (replicate n (event ⟼ entry) ++ log) entry none ∙ pictures_alike n event log entry none
