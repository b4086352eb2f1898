-- How fetched bytes make words. Histories are of words, and each list of bytes makes one history.
use Rattle.std.specs.Prelude.{ℕ, ◌+◌, ◌*◌, Option, Some, None}

-- what a fetched byte comes to: a low byte that waits for its high byte, or a whole word or hole
pub data Met : Type 0 where
  Waits : ℕ → Met
  Whole : Option ℕ → Met

-- by the low byte that waits: a hole is met at once, a low byte waits, and with the high byte after it is one word
abbrev pub met : Option ℕ → Option ℕ → Met
met low None = Whole None
met None (Some byte) = Waits byte
met (Some low) (Some high) = Whole (Some (low + 256 * high))

-- the whole word; none for a hole, and where a low byte waits
abbrev pub word_of : Met → Option ℕ
word_of (Waits byte) = None
word_of (Whole word) = word
