-- The script of a life: what a driver shows from one reset to the next.
use Rattle.std.specs.Prelude.{ℕ, Bool, true, false, List, [], ◌∷◌, ◌++◌, map, reverse, replicate, ◌*◌, ◌≡◌, nat_eq}
use Rattle.std.specs.Prelude.{◌||◌}
use Rattle.dvg_mem.specs.declared.half.Half.{Half}
use Rattle.dvg_mem.specs.Areas.{base, high}
use Rattle.dvg_frame.specs.declared.op.OpKind.{OpKind}
use Rattle.dvg_frame.specs.Bytes.{addressed, bytes}
use Rattle.dvg_frame.specs.Layout.{laid}
use Rattle.dvg_driver.specs.declared.action.Action.{Action}
use Rattle.dvg_driver.specs.declared.action.Action.TheVariants.{Peek, Wrote, Read, Sent, Idle}

-- an item of a life: a frame accepted for a half, a redraw accepted, or an action
pub data Item : Type 0 where
  Offered : Half → List OpKind → Item
  Asked : Item
  Did : Action → Item

-- a part of a life after its boot; the number says how often the flag is read and shows the generator running
pub data Part : Type 0 where
  Rest : Part
  Frame : Half → List OpKind → ℕ → Part
  Redraw : ℕ → Part

-- writes as items, in their order
abbrev pub wrote : List (ℕ × ℕ) → List Item
wrote writes = map (λ write. Did (Wrote write.0 write.1)) writes

-- the flag is read this many times while it shows the generator running, and once when it shows it halted
abbrev pub waited : ℕ → List Item
waited reads = replicate reads (Did (Read false)) ++ Did (Read true) ∷ []

-- the writes of word zero: 01 to byte 000 in a life's first frame part, and the flip: the half's high byte to byte 001
abbrev pub word_zero : Half → Bool → List (ℕ × ℕ)
word_zero half true = (0, 0x01) ∷ (1, high half) ∷ []
word_zero half false = (1, high half) ∷ []

-- the writes of a frame part: each byte of the laid frame, and then word zero
abbrev pub frame_writes : Half → List OpKind → Bool → List (ℕ × ℕ)
frame_writes half F first = addressed (2 * base half) (bytes (laid half F)) ++ word_zero half first

-- parts, one after the other; the flag says that no frame part stands before them in the life
abbrev pub script : Bool → List Part → List Item
script first [] = []
script first (Rest ∷ parts) = Did Idle ∷ script first parts
script first (Frame half F reads ∷ parts) = Offered half F
    ∷ (wrote (frame_writes half F first) ++ (waited reads ++ Did Sent ∷ script false parts))
script first (Redraw reads ∷ parts) = Asked ∷ (waited reads ++ Did Sent ∷ script first parts)

-- a whole life, its oldest item first: the boot, which peeks at byte 001 and waits, and then parts
abbrev pub whole_life : ℕ → List Part → List Item
whole_life reads parts = Did Peek ∷ waited reads ++ script true parts

-- Lives are lists with the newest item first.

-- the items of the life are whole parts, boot first
abbrev pub IsWhole : List Item → Type 0
IsWhole life = (reads : ℕ) × (parts : List Part) × (reverse life ≡ whole_life reads parts)

-- the items of the life begin such a list
abbrev pub IsLife : List Item → Type 0
IsLife life = (reads : ℕ) × (parts : List Part) × (rest : List Item) × (reverse life ++ rest ≡ whole_life reads parts)

-- there is a flip in the life: a write of byte 001
abbrev pub has_flip : List Item → Bool
has_flip [] = false
has_flip (Did (Wrote a byte) ∷ life) = nat_eq a 1 || has_flip life
has_flip (item ∷ life) = has_flip life
