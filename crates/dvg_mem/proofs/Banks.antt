-- The bytes of the RAM in its four parts.
use Rattle.std.proofs.Common.{◌≡◌, ℕ, ◌+◌, ◌-◌, ◌<◌, ◌≤◌, List, [], ◌∷◌, length, ◌++◌, take, drop, refl, sym, ap, ◌∙◌, subst, arith}
use Rattle.std.specs.Prelude.{slice_set, All, replicate}
use Rattle.std.proofs.lemmas.List.{set-append_left, set-append_right, length-append, length-replicate, length-set}
use Rattle.std.proofs.lemmas.List.Elements.{All-append, All-replicate, All-set}
use Rattle.std.proofs.Math.Seq.{take-append_seam, take-length, drop-append-add}
use Rattle.dvg_mem.specs.declared.half.Half.TheVariants.{H0, H1}
use Rattle.dvg_mem.specs.Memory.{IsImage}
use Rattle.dvg_mem.specs.Banks.{AreBanks, half_bytes}

abbrev IsByte : ℕ → Type 0
IsByte byte = byte < 256

-- after a front of this many items comes the back
behind : (n m : ℕ) (front back : List ℕ) → length front ≡ n → drop (n + m) (front ++ back) ≡ drop m back
behind n m front back count = subst (λ k. drop (k + m) (front ++ back) ≡ drop m back) count (drop-append-add front back m)

-- the front of this many
before : (n : ℕ) (front back : List ℕ) → length front ≡ n → take n (front ++ back) ≡ front
before n front back count = subst (λ k. take k (front ++ back) ≡ front) count (take-append_seam front back)

module _ {zero half_0 unused half_1 : List ℕ} (banks : AreBanks zero half_0 unused half_1) where
  open banks use {of_zero, of_half_0, of_unused, of_half_1, bytes}

  abbrev ram : List ℕ
  ram = zero ++ (half_0 ++ (unused ++ half_1))

  -- all of them are an image
  pub banked_image : IsImage ram
  banked_image =
      let tail = length-append unused half_1 in
      let rest = length-append half_0 (unused ++ half_1) in
      let whole = length-append zero (half_0 ++ (unused ++ half_1)) in
      record { count = omega arith; bytes = bytes }

  -- the bytes of a half are those of its part
  pub half_0_bytes : half_bytes H0 ram ≡ half_0
  half_0_bytes = ap (take 1022) (behind 2 0 zero (half_0 ++ (unused ++ half_1)) of_zero) ∙ before 1022 half_0 (unused ++ half_1) of_half_0

  pub half_1_bytes : half_bytes H1 ram ≡ half_1
  half_1_bytes =
      let past_zero = behind 2 1024 zero (half_0 ++ (unused ++ half_1)) of_zero in
      let past_half_0 = behind 1022 2 half_0 (unused ++ half_1) of_half_0 in
      let past_unused = behind 2 0 unused half_1 of_unused in
      ap (take 1022) (past_zero ∙ past_half_0 ∙ past_unused) ∙ subst (λ k. take k half_1 ≡ half_1) of_half_1 (take-length half_1)

  -- a byte that is written in a part is written in the RAM
  pub zero_written : (a byte : ℕ) → a < 2 → slice_set zero a byte ++ (half_0 ++ (unused ++ half_1)) ≡ slice_set ram a byte
  zero_written a byte below = sym (set-append_left zero (half_0 ++ (unused ++ half_1)) a byte (omega arith))

  set_past_zero : (a byte : ℕ) → 2 ≤ a → slice_set ram a byte ≡ zero ++ slice_set (half_0 ++ (unused ++ half_1)) (a - 2) byte
  set_past_zero a byte least = set-append_right zero (half_0 ++ (unused ++ half_1)) 2 a byte of_zero least

  pub half_0_written : (a byte : ℕ) → 2 ≤ a → a < 1024 → zero ++ (slice_set half_0 (a - 2) byte ++ (unused ++ half_1)) ≡ slice_set ram a byte
  half_0_written a byte least below = sym (set_past_zero a byte least ∙ ap (λ rest. zero ++ rest) (set-append_left half_0 (unused ++ half_1) (a - 2) byte (omega arith)))

  set_past_half_0 : (a byte : ℕ) → 1024 ≤ a → slice_set ram a byte ≡ zero ++ (half_0 ++ slice_set (unused ++ half_1) (a - 1024) byte)
  set_past_half_0 a byte least =
      let at : a - 2 - 1022 ≡ a - 1024 = omega arith in
      set_past_zero a byte (omega arith)
      ∙ ap (λ rest. zero ++ rest) (set-append_right half_0 (unused ++ half_1) 1022 (a - 2) byte of_half_0 (omega arith) ∙ ap (λ i. half_0 ++ slice_set (unused ++ half_1) i byte) at)

  pub unused_written : (a byte : ℕ) → 1024 ≤ a → a < 1026 → zero ++ (half_0 ++ (slice_set unused (a - 1024) byte ++ half_1)) ≡ slice_set ram a byte
  unused_written a byte least below = sym (set_past_half_0 a byte least ∙ ap (λ rest. zero ++ (half_0 ++ rest)) (set-append_left unused half_1 (a - 1024) byte (omega arith)))

  pub half_1_written : (a byte : ℕ) → 1026 ≤ a → zero ++ (half_0 ++ (unused ++ slice_set half_1 (a - 1026) byte)) ≡ slice_set ram a byte
  half_1_written a byte least =
      let at : a - 1024 - 2 ≡ a - 1026 = omega arith in
      sym (set_past_half_0 a byte (omega arith)
      ∙ ap (λ rest. zero ++ (half_0 ++ rest)) (set-append_right unused half_1 2 (a - 1024) byte of_unused (omega arith) ∙ ap (λ i. unused ++ slice_set half_1 i byte) at))

  -- bytes that are those of the RAM but for one that was written
  written_bytes : {new : List ℕ} (a byte : ℕ) → byte < 256 → new ≡ slice_set ram a byte → All IsByte new
  written_bytes a byte fits same = subst (All IsByte) (sym same) (All-set IsByte ram a byte fits bytes)

  -- and the parts stay parts
  pub zero_banks : (a byte : ℕ) → byte < 256 → a < 2 → AreBanks (slice_set zero a byte) half_0 unused half_1
  zero_banks a byte fits below = record {
    of_zero = length-set zero a byte ∙ of_zero;
    of_half_0 = of_half_0;
    of_unused = of_unused;
    of_half_1 = of_half_1;
    bytes = written_bytes a byte fits (zero_written a byte below);
  }

  pub half_0_banks : (a byte : ℕ) → byte < 256 → 2 ≤ a → a < 1024 → AreBanks zero (slice_set half_0 (a - 2) byte) unused half_1
  half_0_banks a byte fits least below = record {
    of_zero = of_zero;
    of_half_0 = length-set half_0 (a - 2) byte ∙ of_half_0;
    of_unused = of_unused;
    of_half_1 = of_half_1;
    bytes = written_bytes a byte fits (half_0_written a byte least below);
  }

  pub unused_banks : (a byte : ℕ) → byte < 256 → 1024 ≤ a → a < 1026 → AreBanks zero half_0 (slice_set unused (a - 1024) byte) half_1
  unused_banks a byte fits least below = record {
    of_zero = of_zero;
    of_half_0 = of_half_0;
    of_unused = length-set unused (a - 1024) byte ∙ of_unused;
    of_half_1 = of_half_1;
    bytes = written_bytes a byte fits (unused_written a byte least below);
  }

  pub half_1_banks : (a byte : ℕ) → byte < 256 → 1026 ≤ a → AreBanks zero half_0 unused (slice_set half_1 (a - 1026) byte)
  half_1_banks a byte fits least = record {
    of_zero = of_zero;
    of_half_0 = of_half_0;
    of_unused = of_unused;
    of_half_1 = length-set half_1 (a - 1026) byte ∙ of_half_1;
    bytes = written_bytes a byte fits (half_1_written a byte least);
  }

-- parts of zeros are parts
pub zero_banks_of : {half_0 half_1 : List ℕ} → half_0 ≡ replicate 1022 0 → half_1 ≡ replicate 1022 0 → AreBanks (0 ∷ 0 ∷ []) half_0 (0 ∷ 0 ∷ []) half_1
zero_banks_of {half_0} {half_1} first second =
    let zeros : All IsByte (replicate 1022 0) = All-replicate IsByte 1022 0 (omega arith) in
    let word : List ℕ = 0 ∷ 0 ∷ [] in
    let of_word : All IsByte word = All-replicate IsByte 2 0 (omega arith) in
    let tail = All-append IsByte word half_1 of_word (subst (All IsByte) (sym second) zeros) in
    let rest = All-append IsByte half_0 (word ++ half_1) (subst (All IsByte) (sym first) zeros) tail in
    record {
      of_zero = refl;
      of_half_0 = ap length first ∙ length-replicate {A = ℕ} 1022 0;
      of_unused = refl;
      of_half_1 = ap length second ∙ length-replicate {A = ℕ} 1022 0;
      bytes = All-append IsByte word (half_0 ++ (word ++ half_1)) of_word rest;
    }
