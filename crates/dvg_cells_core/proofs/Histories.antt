-- Each history has clocks: a start, a reset, a hole are one each, and a word is two.
use Rattle.std.proofs.Common.{◌≡◌, true, ℕ, ◌+◌, ◌*◌, ◌/◌, ◌%◌, ◌<◌, List, [], ◌∷◌, Option, Some, None, refl, subst, arith}
use Rattle.std.proofs.lemmas.List.Elements.{All-cons, All-nil}
use Rattle.std.specs.Prelude.{All}
use Rattle.dvg_gen.specs.Bytes.{Met, Whole}
use Rattle.dvg_gen.specs.Told.{Told, Start, Reset, Fed, Newest, Leaves}
use Rattle.dvg_gen.specs.Told as told
use Rattle.dvg_cells_core.specs.Core.{Pins}
use Rattle.dvg_cells_core.specs.Refines.{ArePins, Tells, Hears, AreWords, HasClocks, powers, clocks, resets, starts, fetches}

abbrev pin : (reset start valid hole din : ℕ) → Pins
pin reset start valid hole din = record { reset = reset; start = start; valid = valid; hole = hole; din = din }

are : (reset start valid hole din : ℕ) → reset < 2 → start < 2 → valid < 2 → hole < 2 → din < 256
    → ArePins (pin reset start valid hole din)
are reset start valid hole din a b c d e = record { reset = a; start = b; valid = c; hole = d; din = e }

abbrev Made : List Told → Type 0
Made history = (list : List Pins) × All ArePins list × (found : Option Met) × Hears list history None found

-- one more clock, and its pins
one : (history history' : List Told) (found : Option Met) (pins : Pins) → ArePins pins
    → Tells pins history None history' None found → Made history → Made history'
one history history' found pins is tells made =
    (pins ∷ made.0, All-cons ArePins pins made.0 is made.1, found, clocks made.3 tells)

-- a word's two bytes
word : (history : List Told) (run : Newest) (w : ℕ) → Leaves history run → run.is_open ≡ true → w < 65536 → Made history
    → Made (Fed (Some w) ∷ history)
word history run w leaves opened small made =
    let low = pin 0 0 1 0 (w % 256) in
    let high = pin 0 0 1 0 (w / 256) in
    let whole : w % 256 + 256 * (w / 256) ≡ w = omega arith in
    let heard = clocks (clocks made.3 (fetches refl refl refl leaves opened)) (fetches refl refl refl leaves opened) in
    subst (λ n. Made (Fed (Some n) ∷ history)) whole (
      high ∷ low ∷ made.0,
      All-cons ArePins high (low ∷ made.0) (are 0 0 1 0 (w / 256) (omega arith) (omega arith) (omega arith) (omega arith) (omega arith))
          (All-cons ArePins low made.0
          (are 0 0 1 0 (w % 256) (omega arith) (omega arith) (omega arith) (omega arith) (omega arith)) made.1),
      Some (Whole (Some (w % 256 + 256 * (w / 256)))),
      heard,
    )

made : {history : List Told} {run : Newest} → Leaves history run → AreWords history → Made history
made told.new words = ([], All-nil ArePins, None, powers)
made (told.starts {history = history} leaves) words =
    one history (Start ∷ history) None (pin 0 1 0 0 0)
    (are 0 1 0 0 0 (omega arith) (omega arith) (omega arith) (omega arith) (omega arith)) (starts refl refl)
    (made leaves words)
made (told.resets {history = history} leaves) words =
    one history (Reset ∷ history) None (pin 1 0 0 0 0)
    (are 1 0 0 0 0 (omega arith) (omega arith) (omega arith) (omega arith) (omega arith)) (resets refl)
    (made leaves words)
made (told.meets_hole {history = history} leaves opened) words =
    one history (Fed None ∷ history) (Some (Whole None)) (pin 0 0 1 1 0)
    (are 0 0 1 1 0 (omega arith) (omega arith) (omega arith) (omega arith) (omega arith))
    (fetches refl refl refl leaves opened) (made leaves words)
made (told.takes {history = history} {run = run} {word = w} leaves opened adds) words =
    word history run w leaves opened words.0 (made leaves words.1)

pub has_clocks : HasClocks
has_clocks history run leaves words = made leaves words
