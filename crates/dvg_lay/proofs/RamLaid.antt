-- A frame that is laid into a RAM, byte by byte.
use Rattle.std.proofs.Common.{◌≡◌, ℕ, ◌+◌, ◌*◌, ◌<◌, ◌≤◌, List, length, below_more, Some}
use Rattle.std.proofs.Common.{refl, sym, ap, ◌∙◌, arith}
use Rattle.std.specs.Prelude.{get_or, slice_get, slice_index, slice_set}
use Rattle.std.proofs.lemmas.List.{get_or-set_same, get_or-set_other}
use Rattle.std.proofs.lemmas.Option.{get_or_from_slice_get, slice_get-get_or}
use Rattle.dvg_mem.specs.declared.half.Half.{Half}
use Rattle.dvg_mem.specs.declared.half.Half.TheVariants.{H0, H1}
use Rattle.dvg_mem.specs.Areas.{base, high}
use Rattle.dvg_frame.specs.declared.op.OpKind.{OpKind}
use Rattle.dvg_frame.specs.Bytes.{bytes}
use Rattle.dvg_frame.specs.Layout.{laid}
use Rattle.dvg_log.specs.Held.{HoldsFrame}
use Rattle.dvg_theorem.proofs.LeastMemory.{lies_word}

-- the jump to the half is there, and so many bytes of the frame
pub record IsLaid (ram : List ℕ) (half : Half) (F : List OpKind) (count : ℕ) : Type 0 where
  pub size : length ram ≡ 2048
  pub low : slice_index ram 0 ≡ 0x01
  pub high_is : slice_index ram 1 ≡ high half
  pub bytes_are : (k : ℕ) → k < count
      → slice_index ram (2 * base half + k) ≡ slice_index (bytes (laid half F)) k

-- a half begins after word zero, and has room for 1,022 bytes
behind_zero : (half : Half) → (2 ≤ 2 * base half) × (2 * base half + 1022 ≤ 2048)
behind_zero H0 = (omega arith, omega arith)
behind_zero H1 = (omega arith, omega arith)

-- one byte more
pub more_laid : (ram new : List ℕ) (half : Half) (F : List OpKind) (k at byte : ℕ)
    → IsLaid ram half F k → k < 1022 → length new ≡ 2048 → at ≡ 2 * base half + k
    → slice_get (bytes (laid half F)) k ≡ Some byte → new ≡ slice_set ram at byte
    → IsLaid new half F (k + 1)
more_laid ram new half F k at byte before few size here is written =
    let room = behind_zero half in
    let other = λ (i : ℕ). λ (apart : i ≡ at → ⊥).
    ap (λ l. slice_index l i) written ∙ get_or-set_other ram at i byte 0 apart in
    let inside : at < length ram = omega (arith, before.size, room.1) in
    let this : slice_index new at ≡ byte =
    ap (λ l. slice_index l at) written ∙ get_or-set_same ram at byte 0 inside in
    let from = 2 * base half in
    let words = bytes (laid half F) in
    record {
      size = size;
      low = other 0 (λ e. omega (arith, e, room.0)) ∙ before.low;
      high_is = other 1 (λ e. omega (arith, e, room.0)) ∙ before.high_is;
      bytes_are =
          below_more (λ j. slice_index new (from + j) ≡ slice_index words j) k
          (λ j earlier. other (from + j) (λ e. omega (arith, e)) ∙ before.bytes_are j earlier)
          (ap (slice_index new) (sym here) ∙ this ∙ sym (get_or_from_slice_get words k byte 0 is));
    }

-- all of them
jump_is : (half : Half) → 0x01 + 256 * high half ≡ 0xE000 + base half
jump_is H0 = refl
jump_is H1 = refl

pub all_laid : (ram : List ℕ) (half : Half) (F : List OpKind) (count words : ℕ)
    → IsLaid ram half F count → 2 * words ≤ count → length (laid half F) ≡ words
    → HoldsFrame ram half F
all_laid ram half F count words all whole size =
    let bytes_at : (k : ℕ) → k < 2 * length (laid half F)
    → slice_index ram (2 * base half + k) ≡ slice_index (bytes (laid half F)) k =
    λ k within. all.bytes_are k (omega (arith, within, whole, size)) in
    record {
      zero =
          ap (λ b. b + 256 * slice_index ram 1) all.low ∙ ap (λ b. 0x01 + 256 * b) all.high_is
          ∙ jump_is half;
      laid = λ k within. lies_word half F ram bytes_at k (base half + k) within refl;
    }

-- the byte at a place of the same bytes
pub byte_at : (whole held : List ℕ) (k d : ℕ) → held ≡ whole → k < length whole → slice_get whole k ≡ Some (get_or held k d)
byte_at whole held k d is low = slice_get-get_or whole k d low ∙ ap (λ l. Some (get_or l k d)) (sym is)
