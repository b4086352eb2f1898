-- Parts of a state are read in their words.
use Rattle.std.proofs.Common.{◌≡◌, ℕ, ◌+◌, ◌*◌, ◌/◌, ◌%◌, ◌^◌, ◌<◌, ◌≤◌, [], ◌∷◌, refl, ap, ◌∙◌, arith}
use Rattle.std.proofs.Common.{Bool, true, false, Option, Some, None}
use Rattle.std.specs.Prelude.{◌==◌, if◌then◌else◌, IfSome, is_some, unwrap_or}
use Rattle.dvg_device.specs.Laws.{Fits}
use Rattle.dvg_device.specs.Lookup.{looked_up}
use Rattle.dvg_device.specs.Bits.{bit}
use Rattle.dvg_device.specs.Replies.{number_of}
use Rattle.dvg_device.specs.Requests.{request_of}
use Rattle.dvg_device.specs.States.{fields_in, flags_of, optional, part_in, place_word, word_of, x_in, y_in, z_in}
use Rattle.dvg_device.specs.declared.reply.Reply.TheVariants.{State}
use Rattle.dvg_device.specs.declared.request.Request.TheVariants.{TellState}
use Rattle.dvg_device.specs.declared.state.StatePart.{StatePart}
use Rattle.dvg_device.specs.declared.state.StatePart.TheVariants.{Fields, ReturnAddress, Place, Line}

-- a number that isn't there counts as 0, which has as few bits
few : (bound : ℕ) (o : Option ℕ) → 0 < bound → IfSome o (λ n. n < bound) → unwrap_or o 0 < bound
few bound None some below = some
few bound (Some n) some below = below

pub bit_few : (b : Bool) → bit b ≤ 1
bit_few true = omega arith
bit_few false = omega arith

-- a flag is read in its bit
pub flag_again : (b : Bool) (n : ℕ) → n ≡ bit b → ◌==◌ n 1 ≡ b
flag_again true n is = ap (λ n. ◌==◌ n 1) is
flag_again false n is = ap (λ n. ◌==◌ n 1) is

-- so is a number that a flag says to be there
optional_again : (o : Option ℕ) (flag n : ℕ) → flag % 2 ≡ bit (is_some o) → n ≡ unwrap_or o 0 → optional flag n ≡ o
optional_again None flag n is same = ap (λ k. if k == 1 then Some n else None) is
optional_again (Some m) flag n is same = ap (λ k. if k == 1 then Some n else None) is ∙ ap Some same

-- numbers that stand in a word, of so many bits each
record Stand (word at first low scale flags : ℕ) : Type 0 where
  pub kind : word % 0x100 ≡ 0
  pub at_is : word / 0x100 % 0x1_0000 ≡ at
  pub first_is : word / 0x100_0000 % 0x1_0000 ≡ first
  pub low_is : word / 0x100_0000_0000 % 0x100 ≡ low
  pub scale_is : word / 0x1_0000_0000_0000 % 16 ≡ scale
  pub flags_are : word / 0x10_0000_0000_0000 ≡ flags

stand : (at first low scale flags : ℕ) → at < 0x1_0000 → first < 0x1_0000 → low < 0x100 → scale < 16 →
    Stand (0x100 * at + 0x100_0000 * first + 0x100_0000_0000 * low + 0x1_0000_0000_0000 * (scale % 16)
    + 0x10_0000_0000_0000 * flags) at first low scale flags
stand at first low scale flags a f l s = record {
  kind = omega arith;
  at_is = omega arith;
  first_is = omega arith;
  low_is = omega arith;
  scale_is = omega arith;
  flags_are = omega arith;
}

same_fields : {o o' : Bool} {a a' : ℕ} {h h' l l' : Option ℕ} {s s' : ℕ} → o ≡ o' → a ≡ a' → h ≡ h' → l ≡ l' → s ≡ s'
    → Fields o a h l s ≡ Fields o' a' h' l' s'
same_fields o a h l s = cc

-- the flags of a state by themselves
flags_apart : (o l h : ℕ) → o ≤ 1 → l ≤ 1 → h ≤ 1 → ((o + 2 * l + 4 * h) % 2 ≡ o) × ((o + 2 * l + 4 * h) / 2 % 2 ≡ l)
    × ((o + 2 * l + 4 * h) / 4 % 2 ≡ h)
flags_apart o l h a b c = (omega arith, omega arith, omega arith)

-- which part a word is, by its lowest byte
kind_is : (word kind : ℕ) → word % 0x100 ≡ kind → part_in word ≡ looked_up None kind
    ((0, Some (fields_in word)) ∷ (1, Some (ReturnAddress (word / 0x100 % 0x1_0000)))
    ∷ (2, Some (Place (x_in word) (y_in word))) ∷ (3, Some (Line (x_in word) (y_in word) (z_in word))) ∷ [])
kind_is word kind is = ap (λ kind. looked_up None kind
    ((0, Some (fields_in word)) ∷ (1, Some (ReturnAddress (word / 0x100 % 0x1_0000)))
    ∷ (2, Some (Place (x_in word) (y_in word))) ∷ (3, Some (Line (x_in word) (y_in word) (z_in word))) ∷ [])) is

fields_again : (word at scale : ℕ) (is_open : Bool) (held low : Option ℕ)
    → Stand word at (unwrap_or held 0) (unwrap_or low 0) scale (flags_of is_open held low)
    → part_in word ≡ Some (Fields is_open at held low scale)
fields_again word at scale is_open held low stands =
    let flags = stands.flags_are in
    let apart = flags_apart (bit is_open) (bit (is_some low)) (bit (is_some held)) (bit_few is_open)
    (bit_few (is_some low)) (bit_few (is_some held)) in
    kind_is word 0 stands.kind
    ∙ ap Some (same_fields
    (flag_again is_open _ (ap (λ f. f % 2) flags ∙ apart.0))
    stands.at_is
    (optional_again held _ _ (ap (λ f. f / 4 % 2) flags ∙ apart.2) stands.first_is)
    (optional_again low _ _ (ap (λ f. f / 2 % 2) flags ∙ apart.1) stands.low_is)
    stands.scale_is)

same_place : {x x' y y' : ℕ} → x ≡ x' → y ≡ y' → ◌≡◌ {A = Option StatePart} (Some (Place x y)) (Some (Place x' y'))
same_place x y = cc

same_line : {x x' y y' z z' : ℕ} → x ≡ x' → y ≡ y' → z ≡ z'
    → ◌≡◌ {A = Option StatePart} (Some (Line x y z)) (Some (Line x' y' z'))
same_line x y z = cc

-- a part is read in its word
pub read_again : (part : StatePart) → Fits part → part_in (word_of part) ≡ Some part
read_again (Fields is_open at held low scale) fits = fields_again _ at scale is_open held low
    (stand at (unwrap_or held 0) (unwrap_or low 0) scale (flags_of is_open held low) fits.0
    (few 0x1_0000 held (omega arith) fits.1) (few 0x100 low (omega arith) fits.2) fits.3)
read_again (ReturnAddress address) fits = kind_is (1 + 0x100 * address) 1 (omega arith)
    ∙ ap (λ a. Some (ReturnAddress a)) (omega (arith, fits))
read_again (Place x y) fits = kind_is (2 + place_word x y) 2 (omega arith)
    ∙ same_place (omega (arith, fits.0, fits.1)) (omega (arith, fits.0, fits.1))
read_again (Line x y z) fits = kind_is (3 + place_word x y + 0x10_0000_0000_0000 * (z % 16)) 3 (omega arith)
    ∙ same_line (omega (arith, fits.0, fits.1, fits.2)) (omega (arith, fits.0, fits.1, fits.2)) (omega (arith, fits.0, fits.1, fits.2))

fields_small : (at first low scale o l h : ℕ) → at < 0x1_0000 → first < 0x1_0000 → low < 0x100 → o ≤ 1 → l ≤ 1 → h ≤ 1
    → 0x100 * at + 0x100_0000 * first + 0x100_0000_0000 * low + 0x1_0000_0000_0000 * (scale % 16)
    + 0x10_0000_0000_0000 * (o + 2 * l + 4 * h) < 2 ^ 56
fields_small at first low scale o l h a f b c d e = omega arith

-- a word has 56 bits
pub word_small : (part : StatePart) → Fits part → word_of part < 2 ^ 56
word_small (Fields is_open at held low scale) fits = fields_small at (unwrap_or held 0) (unwrap_or low 0) scale
    (bit is_open) (bit (is_some low)) (bit (is_some held)) fits.0
    (few 0x1_0000 held (omega arith) fits.1) (few 0x100 low (omega arith) fits.2) (bit_few is_open)
    (bit_few (is_some low)) (bit_few (is_some held))
word_small (ReturnAddress address) fits = omega (arith, fits)
word_small (Place x y) fits = omega arith
word_small (Line x y z) fits = omega arith

-- by this code a state is told
asks : (n : ℕ) → n % 0x100 ≡ 35 → request_of n ≡ TellState (n / 0x100)
asks n is = rw is refl

-- the number of a reply is the request
pub passed_on : (word : ℕ) → word < 2 ^ 56 → request_of (number_of (State word)) ≡ TellState word
passed_on word small = asks (35 + 0x100 * (word % 2 ^ 56)) (omega arith) ∙ ap TellState (omega (arith, small))
