-- A row: what one instruction of the driver makes of its note serves the notes of where it leads.
use Rattle.std.proofs.Common.{◌≡◌, ℕ, ◌+◌, ◌-◌, ◌*◌, Bool, true, false, List, [], ◌∷◌, ◌++◌, refl, sym, ap, ◌∙◌}
use Rattle.std.proofs.Common.{subst, eqb-true, Some}
use Rattle.std.specs.Prelude.{nat_eq, nat_lt, ◌||◌, not, slice_index, if◌then◌else◌}
use Rattle.dvg_calls_6502.specs.Processor.{decoded, opcodes, target}
use Rattle.dvg_calls_6502.specs.Code.{code}
use Rattle.dvg_game_6502.proofs.Claims.{Claim, Ready, Also, Nothing, Note, length_of}
use Rattle.dvg_game_6502.proofs.Rules.{Straight}
use Rattle.dvg_game_6502.proofs.Forks.{Drops, Fork, Weaker}
use Rattle.dvg_game_6502.proofs.Notes.{lookup, noted, outer}

-- a byte of the code
abbrev pub byte_at : ℕ → ℕ
byte_at at = slice_index code (at - 0x6800)

-- the address is noted, and what is known there serves its note
pub data Serves (inner : Bool) (claim : Claim) (also : Also) (at : ℕ) : Type 0 where
  to : {note : Note} → noted at ≡ Some note → (not inner || note.inner) ≡ true → Weaker claim note.claim
      → Drops also note.also → Serves inner claim also at

pub data Row (at : ℕ) (note : Note) : Type 0 where
  goes_on : {later : Claim} {also : Also} → nat_lt (at + 2) 0x6A87 ≡ true
      → Straight (byte_at at) (byte_at (at + 1)) (byte_at (at + 2)) note.claim note.also later also
      → Serves note.inner later also (at + length_of (decoded opcodes (byte_at at))) → Row at note
  -- whatever the next bytes are
  alone : {later : Claim} {also : Also}
      → ((low high : ℕ) → Straight (byte_at at) low high note.claim note.also later also)
      → Serves note.inner later also (at + length_of (decoded opcodes (byte_at at))) → Row at note
  forks : {taken : Claim} {one : Also} {passed : Claim} {two : Also} → nat_lt (at + 2) 0x6A87 ≡ true
      → Fork (byte_at at) note.claim note.also taken one passed two
      → Serves note.inner taken one (target at (byte_at (at + 1))) → Serves note.inner passed two (at + 2) → Row at note
  jumps : nat_lt (at + 2) 0x6A87 ≡ true → byte_at at ≡ 0x4C
      → Serves note.inner note.claim note.also (byte_at (at + 1) + 256 * byte_at (at + 2)) → Row at note
  calls : nat_lt (at + 2) 0x6A87 ≡ true → byte_at at ≡ 0x20 → note.inner ≡ false
      → Serves true note.claim Nothing (byte_at (at + 1) + 256 * byte_at (at + 2))
      → noted (at + 3) ≡ Some (outer Ready Nothing) → Row at note
  returns : byte_at at ≡ 0x60 → Weaker note.claim Ready → Row at note

-- each row of a table
pub data Rows : List (ℕ × Note) → Type 0 where
  ends : Rows []
  ◌▸◌ : {row : ℕ × Note} {rows : List (ℕ × Note)} → Row row.0 row.1 → Rows rows → Rows (row ∷ rows)

infixr 5 ◌▸◌
pub rows_of_both : {one two : List (ℕ × Note)} → Rows one → Rows two → Rows (one ++ two)
rows_of_both ends b = b
rows_of_both (row ▸ rows) b = row ▸ rows_of_both rows b

pub some_same : {x y : Note} → Some x ≡ Some y → x ≡ y
some_same is = cc

-- the row of an address
pub row_of : {table : List (ℕ × Note)} → Rows table → (at : ℕ) (note : Note) → lookup table at ≡ Some note → Row at note
row_of ends at note is = absurd (cc)
row_of {table = here ∷ others} (row ▸ rows) at note is =
    by (nat_eq here.0 at) refl (row_of rows at note)
  where
    by : (t : Bool) → nat_eq here.0 at ≡ t → (lookup others at ≡ Some note → Row at note) → Row at note
    by true same rest =
        let it = sym (ap (λ (t : Bool). if t then Some here.1 else lookup others at) same) ∙ is in
        subst (λ j. Row j note) (eqb-true here.0 at same)
        (subst (λ k. Row here.0 k) (some_same it) row)
    by false other rest = rest (sym (ap (λ (t : Bool). if t then Some here.1 else lookup others at) other) ∙ is)
