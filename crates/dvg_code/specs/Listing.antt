-- What a `Listing` gives.
use Rattle.std.specs.Prelude.{◌≡◌, ℕ, ◌+◌, Bool, true, List, [], ◌∷◌, ◌++◌, length, map, Option, Some, None}
use Rattle.dvg_code.specs.declared.listing.Listed.{Listed}
use Rattle.dvg_code.specs.declared.listing.Listed.TheVariants.{At, Cut}
use Rattle.dvg_code.specs.declared.listing.Listing.{Listing}
use Rattle.dvg_code.specs.Spelling.{Spells}
use Rattle.dvg_code.specs.Cutting.{Cutting, IsCut}

-- the words that are left
abbrev pub words_left : Listing → List ℕ
words_left listing = listing.words.now

-- the place of the first of them
abbrev pub place_of : Listing → ℕ
place_of listing = listing.place

-- one call of `next`: None exactly where no word is left; an instruction is the front of the words that are left; a
-- word whose second word is missing is a cut, and nothing is left after it
abbrev pub NextListed : Listing → Option Listed → Listing → Type 0
NextListed old None new = (words_left old ≡ []) × (words_left new ≡ [])
NextListed old (Some (At place instr)) new = (place ≡ place_of old)
    × ((front : List ℕ) × Spells instr front × (words_left old ≡ front ++ words_left new)
    × (place_of new ≡ place_of old + length front))
NextListed old (Some (Cut place)) new = (place ≡ place_of old) × IsCut (words_left old) × (words_left new ≡ [])

-- the cut that comes last where a rest is left
abbrev pub listed_rest : ℕ → List ℕ → List Listed
listed_rest end [] = []
listed_rest end (word ∷ rest) = Cut end ∷ []

-- the items of a cutting: each instruction at its place, and a last one for the rest
abbrev pub listing_of : {words : List ℕ} → Cutting words → List Listed
listing_of cutting = map (λ item. At item.place item.instr) cutting.items ++ listed_rest cutting.end cutting.rest

-- these are the first items of the cutting of the words, and all of them where the listing went to its end
abbrev pub IsListing : List ℕ → List Listed → Bool → Type 0
IsListing words items whole = (cutting : Cutting words)
    → ((more : List Listed) × (listing_of cutting ≡ items ++ more)) × (whole ≡ true → items ≡ listing_of cutting)
