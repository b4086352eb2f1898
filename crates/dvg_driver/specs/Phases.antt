-- What the fields of a driver mean. Only the driver's own model cites this.
use Rattle.std.specs.Prelude.{All, Bool, true, false, not, ℕ, List, [], ◌++◌, ◌≡◌, Option, Some, None, IsSomeAnd}
use Rattle.dvg_mem.specs.declared.half.Half.{Half}
use Rattle.dvg_mem.specs.Areas.{other}
use Rattle.dvg_frame.specs.declared.op.OpKind.{OpKind}
use Rattle.dvg_frame.specs.Bytes.{IsBehindWordZero}
use Rattle.dvg_frame.specs.Left.{CursorState, items_in}
use Rattle.dvg_driver.specs.declared.state.Phase.{Phase}
use Rattle.dvg_driver.specs.declared.state.Phase.TheVariants as phase
use Rattle.dvg_driver.specs.declared.driver.Driver.TheInside.{Inside}
use Rattle.dvg_driver.specs.Script.{word_zero}
use Rattle.dvg_driver.specs.Place.{Place, Start, Booting, Resting, Writing, Waiting, Sending}
use Rattle.dvg_driver.specs.Stands.{Driving}

-- the bytes that are still to come, each with its address
abbrev pub items_of : Option CursorState → List (ℕ × ℕ)
items_of None = []
items_of (Some cursor) = items_in cursor

-- the draft whose bytes come
abbrev pub draft_of : Option CursorState → Option (List OpKind)
draft_of None = None
draft_of (Some cursor) = Some cursor.draft

-- the place of a driver in its script; what it writes last is word zero
abbrev pub place_in : Phase → Option CursorState → Half → Bool → Place
place_in phase.Start cursor half flipped = Start
place_in phase.Booting cursor half flipped = Booting
place_in phase.Resting cursor half flipped = Resting (not flipped)
place_in phase.Writing cursor half flipped = Writing (items_of cursor ++ word_zero (other half) (not flipped))
place_in phase.Flipping cursor half flipped = Writing (word_zero (other half) false)
place_in phase.Waiting cursor half flipped = Waiting (not flipped)
place_in phase.Sending cursor half flipped = Sending (not flipped)

-- the frame that a driver keeps, in the one phase in which it writes its bytes
abbrev pub frame_in : Phase → Option CursorState → Option (List OpKind)
frame_in phase.Writing cursor = draft_of cursor
frame_in _ cursor = None

-- a driver as contracts see it
abbrev pub driving_at : Phase → Option CursorState → Half → Bool → Driving
driving_at phase cursor half flipped = record {
  stage = record { place = place_in phase cursor half flipped; half = half; flipped = flipped };
  frame = frame_in phase cursor;
}

abbrev pub driving_of : Inside → Driving
driving_of driver = driving_at driver.phase driver.cursor driver.half driver.flipped

-- what a phase asks for: a driver has flipped where it waits or sends, and hasn't in its boot nor where it flips next;
-- and this holds where it writes a frame
abbrev pub Allows : Phase → (flipped : Bool) → (IsWriting : Type 0) → Type 0
Allows phase.Start flipped IsWriting = flipped ≡ false
Allows phase.Booting flipped IsWriting = flipped ≡ false
Allows phase.Resting flipped IsWriting = Unit {0}
Allows phase.Writing flipped IsWriting = IsWriting
Allows phase.Flipping flipped IsWriting = flipped ≡ false
Allows phase.Waiting flipped IsWriting = flipped ≡ true
Allows phase.Sending flipped IsWriting = flipped ≡ true

-- a frame is written into the half that isn't the current one, and its bytes go to no place of word zero
abbrev pub IsWritten : Half → CursorState → Type 0
IsWritten half cursor = All IsBehindWordZero (items_in cursor) × (cursor.half ≡ other half)

-- what a driver keeps: while it writes there is a frame
abbrev pub IsSound : Inside → Type 0
IsSound driver = Allows driver.phase driver.flipped (IsSomeAnd driver.cursor (IsWritten driver.half))
