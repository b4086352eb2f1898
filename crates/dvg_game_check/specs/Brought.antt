-- What the values of the code mean in the rules of what a program brings.
use Rattle.std.specs.Prelude.{◌≡◌, ◌⊎◌, ℕ, suc, ◌+◌, ◌*◌, ◌-◌, ◌<◌, ◌≤◌, ◌&&◌, ◌||◌, Bool, true, false, not, nat_eq, nat_le, if◌then◌else◌, bit_or}
use Rattle.std.specs.Prelude.{Option, None, Some, List, [], ◌∷◌, slice_index}
use Rattle.dvg_game_words.specs.Processor.{target}
use Rattle.dvg_game_words.specs.Checker
use Rattle.dvg_game_words.specs.Checker.{first, noted, places}
use Rattle.dvg_game_words.specs.Kinds
use Rattle.dvg_game_words.specs.Kinds.{Quiet, Reads, Transfer, Stores, Push, PushFlags, Pull, PullFlags, Branch, Jump, Call}
use Rattle.dvg_game_words.specs.Kinds.{Return, Finish, Wild, kind_of, size}
use Rattle.dvg_game_words.specs.Machine.{is_driver, word_at}
use Rattle.dvg_game_words.specs.Brings
use Rattle.dvg_game_words.specs.Brings.{Ways, bound, brings_by, fact, brought_by, far, fixed, flows, is_free, is_leap, kept_by, listed, passes_on, smaller}
use Rattle.dvg_game_words.specs.Brings.{with_bits, of_each}
use Rattle.dvg_game_words.specs.Code.{dvg_offer, dvg_pair, dvg_put}
use Rattle.dvg_game_check.specs.declared.known.Known.{Known}
use Rattle.dvg_game_check.specs.declared.known.Known.TheVariants.{Any, Is, Under, Listed, Masked}
use Rattle.dvg_game_check.specs.declared.known.Fact.{Fact}
use Rattle.dvg_game_check.specs.declared.known.Gap.{Gap}
use Rattle.dvg_game_check.specs.declared.known.Gap.TheVariants.{Ways as GapWays, Pair, Unknown, Outside, Missing}
use Rattle.dvg_game_check.specs.declared.known.Unseen.{Unseen}
use Rattle.dvg_game_check.specs.declared.known.Unseen.TheVariants.{Start, At, Table, Word}
use Rattle.dvg_game_check.specs.declared.note.Note.{Note}
use Rattle.dvg_game_check.specs.Rules.{HasBytes, notes_in}

abbrev pub known_meant : (rom : ℕ → ℕ) → Known → Brings.Known
known_meant rom Any = Brings.Any
known_meant rom (Is n) = Brings.Is n
known_meant rom (Under n) = Brings.Under n
known_meant rom (Listed base) = Brings.By (λ y. rom (base + y))
known_meant rom (Masked base mask) = Brings.By (λ y. bit_or (rom (base + y)) mask)

abbrev pub fact_meant : (rom : ℕ → ℕ) → Fact → Brings.Fact
fact_meant rom f = record { a = known_meant rom f.a; x = known_meant rom f.x; most = f.most; less = f.less }

-- as next, by the bytes of the instruction and its kind
abbrev pub next_with : (rom : ℕ → ℕ) → (op low word : ℕ) → Kinds.Kind → Brings.Fact → Brings.Fact
next_with rom op low word kind f =
    if nat_eq op 0xA9 then record f { a = Brings.Is low; less = 256 }
    else if nat_eq op 0xA2 then record f { x = Brings.Is low; less = 256 }
    else if nat_eq op 0xB9 then record f { a = listed rom word f.most; less = 256 }
    else if nat_eq op 0xBE then record f { x = listed rom word f.most; less = 256 }
    else if nat_eq op 0x09 then record f { a = with_bits low f.a; less = 256 }
    else if nat_eq op 0x29 then record f { a = Brings.Under (suc low); less = 256 }
    else if nat_eq op 0xA8 then record { a = fixed f.a; x = fixed f.x; most = bound f.a; less = 256 }
    else if nat_eq op 0xAA then record f { x = f.a; less = 256 }
    else if nat_eq op 0x8A then record f { a = f.x; less = 256 }
    else if nat_eq op 0xC0 then record f { less = low }
    else if nat_eq op 0xB0 then record f { most = smaller f.less f.most; less = 256 }
    else kept_by kind f

-- the bytes of the list are for the places from the first one on
abbrev pub ways_in : List ℕ → Ways
ways_in ways at = if nat_le first at then slice_index ways (at - first) else 0

-- as fact, not to be unfolded in goals
unfoldable pub known : Ways → (rom : ℕ → ℕ) → (count at : ℕ) → Brings.Fact
known ways rom count at = fact ways rom count at

-- as flows, by the bytes of the instruction
abbrev pub flows_with : Ways → (at : ℕ) → Kinds.Kind → (low word : ℕ) → Bool
flows_with ways at (Quiet sets bytes) low word = passes_on ways at bytes
flows_with ways at (Reads sets place) low word = passes_on ways at (size place)
flows_with ways at (Transfer from to) low word = passes_on ways at 1
flows_with ways at (Stores place) low word = passes_on ways at (size place)
flows_with ways at Push low word = passes_on ways at 1
flows_with ways at PushFlags low word = passes_on ways at 1
flows_with ways at Pull low word = passes_on ways at 1
flows_with ways at PullFlags low word = passes_on ways at 1
flows_with ways at Branch low word = is_free ways (target at low) && passes_on ways at 2
flows_with ways at Jump low word = is_driver word || is_free ways word
flows_with ways at Call low word = is_free ways (at + 3) && (is_driver word || is_free ways word)
flows_with ways at Return low word = true
flows_with ways at Finish low word = true
flows_with ways at Wild low word = false

-- what a byte is where Y is this
abbrev pub value_of : Brings.Known → ℕ → Option ℕ
value_of Brings.Any y = None
value_of (Brings.Is n) y = Some n
value_of (Brings.Under n) y = None
value_of (Brings.By f) y = Some (f y)

abbrev pub both_pass : Option ℕ → Option ℕ → (ℕ → ℕ → Bool) → Bool
both_pass (Some a) (Some x) p = p a x
both_pass a x p = false

-- a number is in a list
abbrev pub has : List ℕ → ℕ → Bool
has [] n = false
has (one ∷ more) n = nat_eq one n || has more n

-- the words of two bytes that are in a list
abbrev pub has_word : List ℕ → ℕ → ℕ → Bool
has_word words a x = has words (a + 256 * x)

-- it is known what a byte is, for each Y
abbrev pub known_is : Brings.Known → Bool
known_is Brings.Any = false
known_is (Brings.Is n) = true
known_is (Brings.Under n) = false
known_is (Brings.By f) = true

-- a word of A and X, for some Y
pub record MayBe (fact : Brings.Fact) (word : ℕ) : Type 0 where
  pub y : ℕ
  pub a : ℕ
  pub x : ℕ
  pub less : y < fact.most
  pub is_a : value_of fact.a y ≡ Some a
  pub is_x : value_of fact.x y ≡ Some x
  pub word_is : word ≡ a + 256 * x

-- what an answer says of a list that is to have each word of A and X: where they are in a list that isn't in the program's
-- bytes, nothing
abbrev pub PairsTell : Option Gap → Brings.Fact → (list : List ℕ) → Type 0
PairsTell None fact list = of_each fact (has_word list) ≡ true
PairsTell (Some GapWays) fact list = ⊥
PairsTell (Some Pair) fact list = ⊥
PairsTell (Some Outside) fact list = Unit {0}
PairsTell (Some Unknown) fact list =
    (of_each fact (has_word list) ≡ false) × ((known_is fact.a && known_is fact.x) ≡ false)
PairsTell (Some (Missing word)) fact list =
    (of_each fact (has_word list) ≡ false) × (MayBe fact word × (has list word ≡ false))

-- a routine's list lacks a word
abbrev pub IsLacking : (tables words : List ℕ) → (to word : ℕ) → Type 0
IsLacking tables words to word =
    ((to ≡ dvg_offer) × (has tables word ≡ false)) ⊎ ((to ≡ dvg_put) × (has words word ≡ false))

-- and of what is brought to a routine of the driver
abbrev pub Tells : (tables words : List ℕ) → Option Gap → Brings.Fact → (to : ℕ) → Type 0
Tells tables words None fact to = brought_by (has tables) (has_word words) fact to ≡ true
Tells tables words (Some GapWays) fact to = ⊥
Tells tables words (Some Outside) fact to = Unit {0}
Tells tables words (Some Pair) fact to = (brought_by (has tables) (has_word words) fact to ≡ false) × (to ≡ dvg_pair)
Tells tables words (Some Unknown) fact to = (brought_by (has tables) (has_word words) fact to ≡ false)
    × ((known_is fact.a && known_is fact.x) ≡ false)
Tells tables words (Some (Missing word)) fact to = (brought_by (has tables) (has_word words) fact to ≡ false)
    × (MayBe fact word × IsLacking tables words to word)

-- parts of brings_at, not to be unfolded in goals: each place that it leads to is come to as is noted; it is a JSR or a JMP;
-- what it brings is in the lists
unfoldable pub flows_there : (rom : ℕ → ℕ) → Ways → (at : ℕ) → Bool
flows_there rom ways at = flows ways rom at (kind_of (rom at))

unfoldable pub leaps_there : (rom : ℕ → ℕ) → (at : ℕ) → Bool
leaps_there rom at = is_leap (kind_of (rom at))

unfoldable pub brought_there : (tables words : List ℕ) (rom : ℕ → ℕ) → Ways → (at : ℕ) → Bool
brought_there tables words rom ways at =
    brought_by (has tables) (has_word words) (fact ways rom far at) (word_at rom (at + 1))

-- why not: it isn't come to as is noted where it leads, or it is a JSR or a JMP that brings something else
abbrev pub IsGap : (tables words : List ℕ) (rom : ℕ → ℕ) → Ways → (at : ℕ) → Gap → Type 0
IsGap tables words rom ways at GapWays = flows_there rom ways at ≡ false
IsGap tables words rom ways at gap =
    (leaps_there rom at ≡ true) × Tells tables words (Some gap) (known ways rom far at) (word_at rom (at + 1))

abbrev pub GapTells : (tables words : List ℕ) (rom : ℕ → ℕ) → Ways → (at : ℕ) → Option Gap → Type 0
GapTells tables words rom ways at None =
    (flows_there rom ways at && (not (leaps_there rom at) || brought_there tables words rom ways at)) ≡ true
GapTells tables words rom ways at (Some gap) = IsGap tables words rom ways at gap

-- and of a place with its note, if it has one
abbrev pub PlaceTells : (tables words : List ℕ) (rom : ℕ → ℕ) → Ways → (at : ℕ) → Option Checker.Note → Option Gap → Type 0
PlaceTells tables words rom ways at None None = Unit {0}
PlaceTells tables words rom ways at None (Some gap) = ⊥
PlaceTells tables words rom ways at (Some note) gap = GapTells tables words rom ways at gap

-- what each ROM with these bytes offers and puts is in these lists
abbrev pub BringsOnly : (bytes : List ℕ) (notes : List (Option Note)) (ways tables words : List ℕ) → (start : ℕ) → Type 0
BringsOnly bytes notes ways tables words start = (rom : ℕ → ℕ) → HasBytes bytes rom
    → brings_by (has tables) (has_word words) rom start (notes_in notes) (ways_in ways) ≡ true

-- why it isn't seen to be, and accepted: of each ROM with these bytes
abbrev pub IsUnseen : (bytes : List ℕ) (notes : List (Option Note)) (ways tables words : List ℕ) → (start : ℕ) → Unseen → Type 0
IsUnseen bytes notes ways tables words start Start = is_free (ways_in ways) start ≡ false
IsUnseen bytes notes ways tables words start (At at gap) = ((rom : ℕ → ℕ) → HasBytes bytes rom
    → PlaceTells tables words rom (ways_in ways) at (noted (notes_in notes) at) (Some gap)) × (first ≤ at) × (at < first + places)
IsUnseen bytes notes ways tables words start (Table t) = has tables t ≡ true
IsUnseen bytes notes ways tables words start (Word word) = has words word ≡ true
