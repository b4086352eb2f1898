-- Each list of words has one cutting.
use Rattle.std.proofs.Common.{◌≡◌, ℕ, ◌+◌, ⊎_elim, List, [], ◌∷◌, ◌++◌, length, refl, sym, subst, ◌∙◌}
use Rattle.std.proofs.lemmas.Bool.{cases_lt}
use Rattle.dvg_code.specs.declared.instr.Instr.{Instr}
use Rattle.std.specs.List.{AllByRecursion}
use Rattle.std.proofs.lemmas.List.Elements.{recursion_from_All}
use Rattle.dvg_code.specs.Words.{AreWords, IsWord}
use Rattle.dvg_code.specs.Spelling.{Spells}
use Rattle.dvg_code.specs.Cutting.{IsRest, Placed, Cuts, ends, goes, Cutting}
use Rattle.dvg_code.proofs.Beginnings.{one_word, two_words}
use Rattle.dvg_code.proofs.Unique.{same_front, rest_begins_none}

-- a cutting of these words from a place on
record CutFrom (place : ℕ) (words : List ℕ) : Type 0 where
  items : List Placed
  end : ℕ
  rest : List ℕ
  cuts : Cuts place words items end rest

-- words that are a rest are cut into nothing
cut_short : (place : ℕ) (words : List ℕ) → IsRest words → CutFrom place words
cut_short place words is_rest = record { items = []; end = place; rest = words; cuts = ends is_rest }

-- an instruction, and a cutting of the words after it
cut_on : (place : ℕ) (front after : List ℕ) → (instr : Instr) × Spells instr front → CutFrom (place + length front) after → CutFrom place (front ++ after)
cut_on place front after read more = record {
  items = record { place = place; instr = read.0; words = front } ∷ more.items;
  end = more.end;
  rest = more.rest;
  cuts = goes read.1 refl more.cuts;
}

-- words of 16 bits have a cutting
cut_from : (place : ℕ) (words : List ℕ) → AllByRecursion IsWord words → CutFrom place words
cut_from place [] fit = cut_short place [] tt
cut_from place (word ∷ []) fit =
    ⊎_elim (λ first. cut_short place (word ∷ []) first) (λ alone. cut_on place (word ∷ []) [] (one_word word alone fit.0) (cut_short (place + 1) [] tt)) (cases_lt word 45056)
cut_from place (word ∷ next ∷ words) fit =
    ⊎_elim
    (λ first. cut_on place (word ∷ next ∷ []) words (two_words word next first fit.1.0) (cut_from (place + 2) words fit.1.1))
    (λ alone. cut_on place (word ∷ []) (next ∷ words) (one_word word alone fit.0) (cut_from (place + 1) (next ∷ words) fit.1))
    (cases_lt word 45056)

-- two cuttings of the same words from the same place are one
pub same_cuts : (place end end' : ℕ) (words rest rest' : List ℕ) (items items' : List Placed) → Cuts place words items end rest → Cuts place words items' end' rest'
    → (items ≡ items') × (end ≡ end') × (rest ≡ rest')
same_cuts place end end' words rest rest' items items' (ends is_rest) (ends is_rest') = (refl, refl, refl)
same_cuts place end end' words rest rest' items items' (ends is_rest) (goes {front = front} {after = after} spelled parts more) =
    absurd (rest_begins_none words is_rest _ (length front) (record { front = front; after = after; parts = parts; spells = spelled; counted = refl }))
same_cuts place end end' words rest rest' items items' (goes {front = front} {after = after} spelled parts more) (ends is_rest) =
    absurd (rest_begins_none words is_rest _ (length front) (record { front = front; after = after; parts = parts; spells = spelled; counted = refl }))
same_cuts place end end' words rest rest' items items'
    (goes {instr = a} {front = front} {after = after} {items = tail} spelled parts more) (goes {instr = b} {front = front'} {after = after'} {items = tail'} spelled' parts' more') =
    let same = same_front a b front front' after after' spelled spelled' (sym parts ∙ parts') in
    let on : Cuts (place + length front) after tail' end' rest' =
    subst (λ f. Cuts (place + length f) after tail' end' rest') (sym same.1) (subst (λ l. Cuts (place + length front') l tail' end' rest') (sym same.2) more') in
    let further = same_cuts (place + length front) end end' after rest rest' tail tail' more on in
    (cc (same.0, same.1, further.0), further.1, further.2)

-- a cutting of a whole list of words
pub cutting_of : (words : List ℕ) → AreWords words → Cutting words
cutting_of words fit = let c = cut_from 0 words (recursion_from_All IsWord words fit) in record { items = c.items; end = c.end; rest = c.rest; cuts = c.cuts }

-- and each other one is the same
pub same_cutting : (words : List ℕ) (a b : Cutting words) → (b.items ≡ a.items) × (b.end ≡ a.end) × (b.rest ≡ a.rest)
same_cutting words a b = same_cuts 0 b.end a.end words b.rest a.rest b.items a.items b.cuts a.cuts
