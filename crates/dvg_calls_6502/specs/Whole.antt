-- Whole frames that a program builds, by calls one after the other, which others may interrupt.
use Rattle.std.specs.Prelude.{Some, ◌≡◌, ℕ, ◌+◌, ◌*◌, ◌≤◌, Bool, true, false, not, List, [], ◌∷◌, ◌++◌, length}
use Rattle.dvg_mem.specs.declared.half.Half.{Half}
use Rattle.dvg_mem.specs.declared.half.Half.TheVariants.{H0}
use Rattle.dvg_mem.specs.Areas.{base, other}
use Rattle.dvg_frame.specs.declared.op.OpKind.{OpKind}
use Rattle.dvg_frame.specs.Bytes.{bytes}
use Rattle.dvg_frame.specs.Layout.{laid}
use Rattle.dvg_driver.specs.Script.{Item, Offered, word_zero}
use Rattle.dvg_driver.specs.Place.{Resting, Writing, place_of_life}
use Rattle.dvg_calls_6502.specs.Processor.{Cpu, Access, at_return}
use Rattle.dvg_calls_6502.specs.Amid.{amid, AreHarmless, guards, is_kept_building}
use Rattle.dvg_calls_6502.specs.Board.{seen, is_own}
use Rattle.dvg_calls_6502.specs.Code.{dvg_open, dvg_close}
use Rattle.dvg_calls_6502.specs.Holds.{Holds}
use Rattle.dvg_calls_6502.specs.Routines.{Enters, Part, begins, put_by}
use Rattle.dvg_calls_6502.specs.Build.{put_items, written}
use Rattle.dvg_calls_6502.specs.Calls.{AreShown}

-- a call that has returned: from the processor at its entry, after this many steps, with the memory that each step finds
pub record Done : Type 0 where
  pub from : Cpu
  pub steps : ℕ
  pub others : ℕ → ℕ → ℕ

-- the processor at its return
abbrev pub end_of : Done → Cpu
end_of call = amid call.from.s call.others call.steps call.from

-- it is a call of this routine; nobody else has written the driver's bytes since memory was this, and who interrupts it
-- leaves alone what is kept
pub record IsDone (entry : ℕ) (before : ℕ → ℕ) (call : Done) : Type 0 where
  pub enters : Enters call.from entry
  pub untouched : (b : ℕ) → is_own b ≡ true → call.from.mem b ≡ before b
  pub alone : AreHarmless (guards is_kept_building call.from.s) call.from.s call.others call.steps call.from
  pub returns : at_return call.from.s (end_of call) ≡ true

-- calls that put parts, the newest one first
abbrev pub Parts : Type 0
Parts = List (Part × Done)

-- memory after them, where it was this before
abbrev pub memory_after : (ℕ → ℕ) → Parts → ℕ → ℕ
memory_after before [] = before
memory_after before (call ∷ calls) = (end_of call.1).mem

-- one follows the other
abbrev pub AreDone : (ℕ → ℕ) → Parts → Type 0
AreDone before [] = Unit {0}
AreDone before (call ∷ calls) = IsDone (begins call.0) (memory_after before calls) call.1 × AreDone before calls

-- the bytes that they put, the first one first
abbrev pub bytes_put : Parts → List ℕ
bytes_put [] = []
bytes_put (call ∷ calls) = bytes_put calls ++ put_by call.0 call.1.from

-- what is seen of them, the newest one first
abbrev pub seen_of : Parts → List Access
seen_of [] = []
seen_of (call ∷ calls) = seen (end_of call.1).log ++ seen_of calls

-- where the driver rests, dvg_open, then calls that put at most 510 words, and then dvg_close write exactly these words
-- and the HALT from the free half's first word on; word zero is to come
abbrev pub BuildsFrame : Type 0
BuildsFrame = (begin stop : ℕ) (half : Half) (flipped first : Bool) (opening closing : Done) (calls : Parts)
    → Holds opening.from.mem begin stop (record { place = Resting first; half = half; flipped = flipped })
    → IsDone dvg_open opening.from.mem opening → AreDone (end_of opening).mem calls
    → IsDone dvg_close (memory_after (end_of opening).mem calls) closing → length (bytes_put calls) ≤ 1020
    → (seen (end_of closing).log ++ (seen_of calls ++ seen (end_of opening).log)
    ≡ written (0x4000 + 2 * base (other half)) (bytes_put calls ++ 0 ∷ 0xB0 ∷ []))
    × ((from to : ℕ) → Holds (end_of closing).mem from to
    (record { place = Writing (word_zero (other half) (not flipped)); half = half; flipped = flipped }))

-- so where these are a draft's bytes, as it is laid for that half, what is seen is the script's writes of this draft,
-- which counts as offered when dvg_open begins
abbrev pub BuildsLife : Type 0
BuildsLife = (half : Half) (first : Bool) (F : List OpKind) (life : List Item) → place_of_life life ≡ Some (Resting first)
    → let a = 0x4000 + 2 * base half in let built = bytes (laid half F) in
    AreShown (put_items a built) (written a built)
    × (place_of_life (put_items a built ++ Offered half F ∷ life) ≡ Some (Writing (word_zero half first)))

-- there are such calls: they build a LABS
abbrev pub SomeFrame : Type 0
SomeFrame = (opening closing : Done) × (calls : Parts)
    × Holds opening.from.mem 0 0 (record { place = Resting true; half = H0; flipped = false })
    × IsDone dvg_open opening.from.mem opening × AreDone (end_of opening).mem calls
    × IsDone dvg_close (memory_after (end_of opening).mem calls) closing
    × (bytes_put calls ≡ 0x00 ∷ 0xA2 ∷ 0x00 ∷ 0x02 ∷ [])
