-- What `draw_trace` and `log_trace` answer.
use Rattle.std.specs.Prelude.{◌≡◌, ℕ, List, map}
use Rattle.dvg_gen.specs.declared.stroke.Stroke.{Stroke}
use Rattle.dvg_log.specs.Events.{Happening}
use Rattle.dvg_world.specs.declared.logging.Logged.{Logged}
use Rattle.dvg_world.specs.declared.pictures.Drawn.{Drawn}
use Rattle.dvg_world.specs.declared.pictures.Picture.{Picture}
use Rattle.dvg_world.specs.Keeping.{Happened, entries_in, pictures_of}

-- a picture of the code, with its strokes as a list
abbrev pub picture_seen : {A : Type 0} → Picture A → ℕ × List Stroke
picture_seen picture = (picture.event, picture.strokes.items)

-- these are the pictures of a legal log of the events, or of the first of them, and each line of
-- the log keeps the headline
abbrev pub Draws : {A : Type 0} → (R image : List ℕ) → (events : List Happening) → Drawn A → Type 0
Draws R image events drawn =
    Happened R image events drawn.is_whole (λ log. map picture_seen drawn.pictures.items ≡ pictures_of log)

-- these are the entries of such a log
abbrev pub Logs : {A : Type 0} → (R image : List ℕ) → (events : List Happening) → Logged A → Type 0
Logs R image events logged = Happened R image events logged.is_whole (λ log. logged.entries ≡ entries_in log)
