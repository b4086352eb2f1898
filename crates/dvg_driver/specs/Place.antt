-- Where in its script a life stands, by a program that follows the items. A driver's place is one of these; the script
-- says what is promised of lives themselves.
use Rattle.std.specs.Prelude.{ℕ, Bool, true, false, List, [], ◌∷◌, Option, Some, None, nat_eq, ◌&&◌, if◌then◌else◌}
use Rattle.std.specs.Prelude.{option_and_then}
use Rattle.dvg_driver.specs.declared.action.Action.TheVariants.{Peek, Wrote, Read, Sent, Idle}
use Rattle.dvg_driver.specs.Script.{Item, Offered, Asked, Did, frame_writes}

-- a place in the script; a flag says that no frame part was begun before
pub data Place : Type 0 where
  Start : Place
  Booting : Place
  Resting : Bool → Place
  -- these writes are still to come
  Writing : List (ℕ × ℕ) → Place
  Waiting : Bool → Place
  Sending : Bool → Place

-- the place where these writes are still to come
abbrev pub with_left : List (ℕ × ℕ) → Place
with_left [] = Waiting false
with_left (write ∷ writes) = Writing (write ∷ writes)

-- the place after a write of this byte at this address, if that write was the next one to come
abbrev pub after_write : List (ℕ × ℕ) → ℕ → ℕ → Option Place
after_write [] a byte = None
after_write (write ∷ writes) a byte = if nat_eq write.0 a && nat_eq write.1 byte then Some (with_left writes) else None

-- the place after an item, if the item may come there
abbrev pub next_place : Place → Item → Option Place
next_place Start (Did Peek) = Some Booting
next_place Booting (Did (Read halted)) = Some (if halted then Resting true else Booting)
next_place (Resting first) (Offered half F) = Some (Writing (frame_writes half F first))
next_place (Resting first) Asked = Some (Waiting first)
next_place (Resting first) (Did Idle) = Some (Resting first)
next_place (Writing writes) (Did (Wrote a byte)) = after_write writes a byte
next_place (Waiting first) (Did (Read halted)) = Some (if halted then Sending first else Waiting first)
next_place (Sending first) (Did Sent) = Some (Resting first)
next_place _ _ = None

-- the place of a life, if it has one
abbrev pub place_of_life : List Item → Option Place
place_of_life [] = Some Start
place_of_life (item ∷ life) = option_and_then (λ place. next_place place item) (place_of_life life)
