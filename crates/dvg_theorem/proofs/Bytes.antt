-- What a fetch meets, by the byte that it reads.
use Rattle.std.proofs.Common.{◌≡◌, ℕ, ◌+◌, ◌*◌, ◌/◌, ◌%◌, List, slice_index, Option, Some, None, true, false, Bool, refl, sym, ap, ◌∙◌, arith}
use Rattle.std.specs.Prelude.{option_map, is_some, if◌then◌else◌}
use Rattle.std.proofs.lemmas.Option.{same_Some}
use Rattle.dvg_mem.specs.Memory.{fetched, fetched_byte}
use Rattle.dvg_gen.specs.Bytes.{Met, Waits, Whole, met, word_of}
use Rattle.dvg_log.specs.Log.{Log, ram}

-- the byte at an address
abbrev pub byte : List ℕ → Log → ℕ → ℕ
byte image log a = slice_index (ram image log) a

-- a word's high byte, or its low byte
abbrev pub byte_of : Bool → ℕ → ℕ
byte_of high word = if high then word / 256 else word % 256

-- what a fetch meets in these memories, after a low byte that waits or none
abbrev pub read : (ram rom : List ℕ) → Option ℕ → ℕ → Met
read ram rom low address = met low (fetched_byte ram rom address (is_some low))

pub same_Whole : {one other : Option ℕ} → Whole one ≡ Whole other → one ≡ other
same_Whole e = ap word_of e

pub same_Waits : {one other : ℕ} → Waits one ≡ Waits other → one ≡ other
same_Waits e = cc

-- a low byte is no word
pub not_whole : {found : Met} {byte : ℕ} {word : Option ℕ} → found ≡ Waits byte → found ≡ Whole word → ⊥
not_whole e f = let wrong = sym e ∙ f in cc

-- a low byte was read, and no other waited
low_of : (low found : Option ℕ) (b : ℕ) → met low found ≡ Waits b → (low ≡ None) × (found ≡ Some b)
low_of None None b e = absurd (cc)
low_of None (Some x) b e = (refl, ap Some (same_Waits e))
low_of (Some low) None b e = absurd (cc)
low_of (Some low) (Some x) b e = absurd (cc)

-- a word is of the low byte that waited and of the high byte that was read
high_of : (low found : Option ℕ) (w : ℕ) → met low found ≡ Whole (Some w) → (l : ℕ) × (h : ℕ) × (low ≡ Some l) × (found ≡ Some h) × (w ≡ l + 256 * h)
high_of low None w e = absurd (none low w e)
  where
    none : (low : Option ℕ) (w : ℕ) → met low None ≡ Whole (Some w) → ⊥
    none None w e = let f = same_Whole e in cc
    none (Some low) w e = let f = same_Whole e in cc
high_of None (Some x) w e = absurd (cc)
high_of (Some low) (Some high) w e = (low, high, refl, refl, sym (same_Some _ _ (same_Whole e)))

-- a hole was read
hole_of : (low found : Option ℕ) → met low found ≡ Whole None → found ≡ None
hole_of low None e = refl
hole_of None (Some x) e = absurd (cc)
hole_of (Some low) (Some x) e = let f = same_Whole e in absurd (cc)

-- a fetch that meets a low byte reads it, and no other waits
pub low_met : (ram rom : List ℕ) (low : Option ℕ) (a b : ℕ) → read ram rom low a ≡ Waits b → (low ≡ None) × (fetched_byte ram rom a false ≡ Some b)
low_met ram rom None a b e = low_of None (fetched_byte ram rom a false) b e
low_met ram rom (Some low) a b e = let f = (low_of (Some low) (fetched_byte ram rom a true) b e).0 in absurd (cc)

-- a fetch that meets a word has a low byte that waits
pub word_met : (ram rom : List ℕ) (low : Option ℕ) (a w : ℕ) → read ram rom low a ≡ Whole (Some w) → (l : ℕ) × (low ≡ Some l)
word_met ram rom low a w e = let h = high_of low (fetched_byte ram rom a (is_some low)) w e in (h.0, h.2)

-- bytes are of one word
of_word : (found : Option ℕ) (high : Bool) (b : ℕ) → option_map (byte_of high) found ≡ Some b → (w : ℕ) × (found ≡ Some w) × (b ≡ byte_of high w)
of_word None high b e = absurd (cc)
of_word (Some w) high b e = (w, refl, sym (same_Some _ _ e))

-- where the low byte that waits is the one that memory has, the word is the one that memory has
pub whole_met : (ram rom : List ℕ) (low : Option ℕ) (a w l : ℕ) → read ram rom low a ≡ Whole (Some w) → low ≡ Some l → fetched_byte ram rom a false ≡ Some l → fetched ram rom a ≡ Some w
whole_met ram rom None a w l e waits there = absurd (cc)
whole_met ram rom (Some low) a w l e waits there =
    let h = high_of (Some low) (fetched_byte ram rom a true) w e in
    let one = of_word (fetched ram rom a) true h.1 h.3 in
    let other = of_word (fetched ram rom a) false l there in
    let same : one.0 ≡ other.0 = same_Some _ _ (sym one.1 ∙ other.1) in
    let high : h.1 ≡ one.0 / 256 = one.2 in
    let low_is : l ≡ other.0 % 256 = other.2 in
    let mine : h.0 ≡ l = same_Some _ _ (sym h.2 ∙ waits) in
    let sum = h.4 in
    let word : one.0 ≡ w = omega arith in
    one.1 ∙ ap Some word

-- the low byte of a word that is met is the one that waits
pub low_part : (ram rom : List ℕ) (low : Option ℕ) (a w l : ℕ) → read ram rom low a ≡ Whole (Some w) → low ≡ Some l → fetched_byte ram rom a false ≡ Some l → l ≡ w % 256
low_part ram rom low a w l e waits there =
    let word = whole_met ram rom low a w l e waits there in
    let other = of_word (fetched ram rom a) false l there in
    other.2 ∙ ap (λ v. v % 256) (same_Some _ _ (sym other.1 ∙ word))

-- a hole has no word
pub hole_met : (ram rom : List ℕ) (low : Option ℕ) (a : ℕ) → read ram rom low a ≡ Whole None → fetched ram rom a ≡ None
hole_met ram rom low a e = by (fetched ram rom a) (is_some low) (hole_of low (fetched_byte ram rom a (is_some low)) e)
  where
    by : (found : Option ℕ) (high : Bool) → option_map (byte_of high) found ≡ None → found ≡ None
    by None high e = refl
    by (Some w) high e = absurd (cc)
