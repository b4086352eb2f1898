-- What a program brings at its calls of dvg_offer and dvg_put, as far as the instructions right before them show it. It
-- is looked at each place by itself, with a note, for a place that is come to from the instruction before it alone, of
-- how many bytes that one has. Nobody has to trust the notes.
use Rattle.std.specs.Prelude.{ℕ, zero, suc, ◌+◌, ◌*◌, ◌-◌, ◌&&◌, ◌||◌, Bool, true, false, not, nat_eq, nat_le}
use Rattle.std.specs.Prelude.{if◌then◌else◌, Option, None, Some, List, bit_or}
use Rattle.dvg_game_words.specs.Code.{dvg_offer, dvg_pair, dvg_put}
use Rattle.dvg_game_words.specs.Processor.{target}
use Rattle.dvg_game_words.specs.Checker.{Note, Notes, all_under, first, noted, places}
use Rattle.dvg_game_words.specs.Kinds.{Nothing, Kind, Quiet, Reads, Transfer, Stores, Push}
use Rattle.dvg_game_words.specs.Kinds.{PushFlags, Pull, PullFlags, Branch, Jump, Call, Return, Finish, Wild, kind_of, size}
use Rattle.dvg_game_words.specs.Machine.{is_driver, word_at}

-- what a byte is known to be: a constant, a byte below a number, or what stands in a list by Y
pub data Known : Type 0 where
  Any : Known
  Is : ℕ → Known
  Under : ℕ → Known
  By : (ℕ → ℕ) → Known

-- what A and X hold; what Y is below; and below what it is where C is clear
pub record Fact : Type 0 where
  pub a : Known
  pub x : Known
  pub most : ℕ
  pub less : ℕ

abbrev pub nothing : Fact
nothing = record { a = Any; x = Any; most = 256; less = 256 }

-- how many bytes the instruction has from which alone a place is come to; or 0
abbrev pub Ways : Type 0
Ways = ℕ → ℕ

abbrev pub with_bits : ℕ → Known → Known
with_bits mask Any = Any
with_bits mask (Is n) = Is (bit_or n mask)
with_bits mask (Under n) = Any
with_bits mask (By f) = By (λ y. bit_or (f y) mask)

-- what stands in the ROM's list at this address, by Y
abbrev pub listed : (rom : ℕ → ℕ) → (base most : ℕ) → Known
listed rom base most = if nat_le 0x4800 base && nat_le (base + most) 0x8000 then By (λ y. rom (base + y)) else Any

-- what doesn't rest on Y, and below what a byte is
abbrev pub fixed : Known → Known
fixed (Is n) = Is n
fixed known = Any

abbrev pub bound : Known → ℕ
bound (Is n) = suc n
bound (Under n) = n
bound known = 256

abbrev pub smaller : ℕ → ℕ → ℕ
smaller one other = if nat_le one other then one else other

-- what an instruction leaves that sets no register
abbrev pub kept_by : Kind → Fact → Fact
kept_by (Quiet Nothing bytes) f = record f { less = 256 }
kept_by (Reads Nothing place) f = record f { less = 256 }
kept_by (Stores place) f = record f { less = 256 }
kept_by Branch f = record f { less = 256 }
kept_by kind f = nothing

-- what holds after LDA #, LDX #, LDA abs,Y, LDX abs,Y, AND #, ORA #, TAX, TXA, TAY, CPY #, BCS, and any other one, where
-- it goes on behind it
abbrev pub next : (rom : ℕ → ℕ) → (at : ℕ) → Fact → Fact
next rom at f =
    if nat_eq (rom at) 0xA9 then record f { a = Is (rom (at + 1)); less = 256 }
    else if nat_eq (rom at) 0xA2 then record f { x = Is (rom (at + 1)); less = 256 }
    else if nat_eq (rom at) 0xB9 then record f { a = listed rom (word_at rom (at + 1)) f.most; less = 256 }
    else if nat_eq (rom at) 0xBE then record f { x = listed rom (word_at rom (at + 1)) f.most; less = 256 }
    else if nat_eq (rom at) 0x09 then record f { a = with_bits (rom (at + 1)) f.a; less = 256 }
    else if nat_eq (rom at) 0x29 then record f { a = Under (suc (rom (at + 1))); less = 256 }
    else if nat_eq (rom at) 0xA8 then record { a = fixed f.a; x = fixed f.x; most = bound f.a; less = 256 }
    else if nat_eq (rom at) 0xAA then record f { x = f.a; less = 256 }
    else if nat_eq (rom at) 0x8A then record f { a = f.x; less = 256 }
    else if nat_eq (rom at) 0xC0 then record f { less = rom (at + 1) }
    else if nat_eq (rom at) 0xB0 then record f { most = smaller f.less f.most; less = 256 }
    else kept_by (kind_of (rom at)) f

-- what holds at a place that is come to from the instruction of so many bytes before it alone, or from anywhere
abbrev pub fact_by : (rom : ℕ → ℕ) → (ℕ → Fact) → (at bytes : ℕ) → Fact
fact_by rom before at zero = nothing
fact_by rom before at (suc bytes) = next rom (at - suc bytes) (before (at - suc bytes))

-- what holds at a place, by this many instructions before it at most
abbrev pub fact : Ways → (rom : ℕ → ℕ) → (count at : ℕ) → Fact
fact ways rom zero at = nothing
fact ways rom (suc count) at = fact_by rom (fact ways rom count) at (ways at)

abbrev pub far : ℕ
far = 12

-- no note is at a place that may be come to from elsewhere
abbrev pub is_free : Ways → ℕ → Bool
is_free ways at = nat_eq (ways at) 0

-- where an instruction goes on behind itself
abbrev pub passes_on : Ways → (at bytes : ℕ) → Bool
passes_on ways at bytes = is_free ways (at + bytes) || (nat_eq (ways (at + bytes)) bytes && not (nat_eq bytes 0))

abbrev pub flows : Ways → (rom : ℕ → ℕ) → (at : ℕ) → Kind → Bool
flows ways rom at (Quiet sets bytes) = passes_on ways at bytes
flows ways rom at (Reads sets place) = passes_on ways at (size place)
flows ways rom at (Transfer from to) = passes_on ways at 1
flows ways rom at (Stores place) = passes_on ways at (size place)
flows ways rom at Push = passes_on ways at 1
flows ways rom at PushFlags = passes_on ways at 1
flows ways rom at Pull = passes_on ways at 1
flows ways rom at PullFlags = passes_on ways at 1
flows ways rom at Branch = is_free ways (target at (rom (at + 1))) && passes_on ways at 2
flows ways rom at Jump = is_driver (word_at rom (at + 1)) || is_free ways (word_at rom (at + 1))
flows ways rom at Call = is_free ways (at + 3) && (is_driver (word_at rom (at + 1)) || is_free ways (word_at rom (at + 1)))
flows ways rom at Return = true
flows ways rom at Finish = true
flows ways rom at Wild = false

-- this holds of A and X, whatever Y is
abbrev pub for_each : Known → Known → ℕ → (ℕ → ℕ → Bool) → Bool
for_each (Is a) (Is x) most p = p a x
for_each (Is a) (By g) most p = all_under most (λ y. p a (g y))
for_each (By f) (Is x) most p = all_under most (λ y. p (f y) x)
for_each (By f) (By g) most p = all_under most (λ y. p (f y) (g y))
for_each a x most p = false

abbrev pub of_each : Fact → (ℕ → ℕ → Bool) → Bool
of_each f p = for_each f.a f.x f.most p

-- what is brought to a routine of the driver: a table at an address that passes a test, a word of two bytes that do
abbrev pub brought_by : (offers : ℕ → Bool) (puts : ℕ → ℕ → Bool) → Fact → ℕ → Bool
brought_by offers puts f to =
    if nat_eq to dvg_offer then of_each f (λ a x. offers (a + 256 * x))
    else if nat_eq to dvg_put then of_each f puts else not (nat_eq to dvg_pair)

abbrev pub is_leap : Kind → Bool
is_leap Jump = true
is_leap Call = true
is_leap kind = false

abbrev pub brings_at : (offers : ℕ → Bool) (puts : ℕ → ℕ → Bool) (rom : ℕ → ℕ) → Ways → (at : ℕ) → Option Note → Bool
brings_at offers puts rom ways at None = true
brings_at offers puts rom ways at (Some note) = flows ways rom at (kind_of (rom at))
    && (not (is_leap (kind_of (rom at))) || brought_by offers puts (fact ways rom far at) (word_at rom (at + 1)))

-- all that a program offers and puts passes these tests, and it calls no dvg_pair
abbrev pub brings_by : (offers : ℕ → Bool) (puts : ℕ → ℕ → Bool) (rom : ℕ → ℕ) → (start : ℕ) → Notes → Ways → Bool
brings_by offers puts rom start notes ways = is_free ways start
    && all_under places (λ i. brings_at offers puts rom ways (first + i) (noted notes (first + i)))
