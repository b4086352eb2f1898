-- The clocks of the board as its core has them.
use Rattle.std.proofs.Common.{◌≡◌, ℕ, List, [], ◌∷◌, refl, ap, ◌∙◌}
use Rattle.dvg_gen.specs.declared.stroke.Stroke.{Stroke}
use Rattle.dvg_gen.specs.Bytes.{met}
use Rattle.dvg_log.specs.Entries.{Shown}
use Rattle.dvg_log.specs.Log.{Log, low_byte}
use Rattle.dvg_cells_core.specs.Core.{Core, Pins, halted}
use Rattle.dvg_cells_core.specs.Core as cells
use Rattle.dvg_cells_core.specs.Refines.{byte_of, drawn_by}
use Rattle.dvg_cells_core.specs.Refines as core
use Rattle.dvg_cells_board.specs.Board.{Bus, pins}
use Rattle.dvg_cells_board.specs.Clocks.{after}
use Rattle.dvg_cells_board.specs.Fetches.{drew, entry, entry_by, says}

-- the same clocks as the pins of its core have them
abbrev pub cores : (ℕ → ℕ) → List Bus → List Pins
cores held [] = []
cores held (bus ∷ older) = pins (after held older) bus ∷ cores held older

pub core_is : (held : ℕ → ℕ) (older : List Bus) → (after held older).core ≡ core.after (cores held older)
core_is held [] = refl
core_is held (bus ∷ older) = ap (λ c. cells.clock c (pins (after held older) bus)) (core_is held older)

-- the strokes that the board shows are the core's
pub drew_is : (held : ℕ → ℕ) (older : List Bus) → drew held older ≡ core.drew (cores held older)
drew_is held [] = refl
drew_is held (bus ∷ older) =
    ap (λ c. drawn_by (pins (after held older) bus) c (drew held older)) (core_is held (bus ∷ older))
    ∙ ap (drawn_by (pins (after held older) bus) (core.after (cores held (bus ∷ older)))) (drew_is held older)

-- the entry of a fetch that is answered by these pins, after these clocks of the core
abbrev entry_of_cores : Log → Pins → (before now : Core) → List Stroke → Shown
entry_of_cores log pins before now drew =
    entry_by (halted before) before.at (met (low_byte log) (byte_of pins)) (says now.done now.fault drew)

abbrev pub entry_at : Log → List Pins → Pins → Shown
entry_at log clocks pins =
    entry_of_cores log pins (core.after clocks) (core.after (pins ∷ clocks)) (core.drew (pins ∷ clocks))

pub entry_is : (held : ℕ → ℕ) (log : Log) (older : List Bus) (bus : Bus)
    → entry held log older bus ≡ entry_at log (cores held older) (pins (after held older) bus)
entry_is held log older bus =
    let driven = pins (after held older) bus in
    ap (λ before. entry_of_cores log driven before (after held (bus ∷ older)).core (drew held (bus ∷ older))) (core_is held older)
    ∙ ap (λ now. entry_of_cores log driven (core.after (cores held older)) now (drew held (bus ∷ older)))
    (core_is held (bus ∷ older))
    ∙ ap (entry_of_cores log driven (core.after (cores held older)) (core.after (cores held (bus ∷ older))))
    (drew_is held (bus ∷ older))
