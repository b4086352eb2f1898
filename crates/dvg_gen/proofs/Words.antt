-- What a decoded front says of the one or two words that were decoded.
use Rattle.std.proofs.Common.{◌≡◌, ℕ, List, [], ◌∷◌, ◌++◌, refl, subst}
use Rattle.std.specs.Prelude.{Result, Ok, IfOk}
use Rattle.std.proofs.lemmas.Result.{IfOk-at_ok}
use Rattle.dvg_code.specs.declared.decoding.CodeFault.{CodeFault}
use Rattle.dvg_code.specs.declared.instr.Instr.{Instr}
use Rattle.dvg_code.specs.Cutting.{Fronts}
use Rattle.dvg_code.specs.Spelling.{IsFirst, Spells, vctr, labs, halt, jsrl, rtsl, jmpl, svec}
use Rattle.dvg_code.proofs.Unique.{rest_begins_none}

-- no instruction is spelled by no word
not_none : {code : Instr} {words : List ℕ} → Spells code words → words ≡ [] → ⊥
not_none (vctr r p q) e = cc
not_none (labs r p q) e = cc
not_none (halt p q) e = cc
not_none (jsrl r p) e = cc
not_none (rtsl p q) e = cc
not_none (jmpl r p) e = cc
not_none (svec r p) e = cc

-- a word that wants a second one spells nothing alone
pub not_first : (word : ℕ) (code : Instr) → IsFirst word → Spells code (word ∷ []) → ⊥
not_first word code wants spells =
    rest_begins_none (word ∷ []) wants code 1 (record { front = word ∷ []; after = []; parts = refl; spells = spells; counted = refl })

-- a front of one word is that word
one_front : (word : ℕ) (code : Instr) (front after : List ℕ) → Spells code front → word ∷ [] ≡ front ++ after → Spells code (word ∷ [])
one_front word code [] after spells parts = absurd (not_none spells refl)
one_front word code (w ∷ []) after spells parts = let same : w ≡ word = cc in subst (λ k. Spells code (k ∷ [])) same spells
one_front word code (v ∷ w ∷ front) after spells parts = absurd (cc)

-- a front of two words, of which the first wants a second one, is both
two_front : (first word : ℕ) (code : Instr) (front after : List ℕ) → IsFirst first → Spells code front → first ∷ word ∷ [] ≡ front ++ after → Spells code (first ∷ word ∷ [])
two_front first word code [] after wants spells parts = absurd (not_none spells refl)
two_front first word code (v ∷ []) after wants spells parts =
    let same : v ≡ first = cc in absurd (not_first first code wants (subst (λ k. Spells code (k ∷ [])) same spells))
two_front first word code (v ∷ w ∷ []) after wants spells parts =
    let same_first : v ≡ first = cc in
    let same_word : w ≡ word = cc in
    subst (λ k. Spells code (first ∷ k ∷ [])) same_word (subst (λ k. Spells code (k ∷ w ∷ [])) same_first spells)
two_front first word code (v ∷ w ∷ x ∷ front) after wants spells parts = absurd (cc)

-- what is decoded of one word
pub one_word : (word : ℕ) (code : Instr) (count : ℕ) → Fronts (word ∷ []) code count → Spells code (word ∷ [])
one_word word code count fronts = one_front word code fronts.front fronts.after fronts.spells fronts.parts

-- what is decoded of two words
pub two_words : (first word : ℕ) (code : Instr) (count : ℕ) → IsFirst first → Fronts (first ∷ word ∷ []) code count → Spells code (first ∷ word ∷ [])
two_words first word code count wants fronts = two_front first word code fronts.front fronts.after wants fronts.spells fronts.parts

-- one word that was decoded completes what it spells
pub completes_one : (word : ℕ) (decoded : Result (Instr × ℕ) CodeFault) (read : Instr × ℕ) → decoded ≡ Ok read
    → IfOk decoded (λ r. Fronts (word ∷ []) r.0 r.1) → Spells read.0 (word ∷ [])
completes_one word decoded read ok spelled = one_word word read.0 read.1 (IfOk-at_ok (λ r. Fronts (word ∷ []) r.0 r.1) ok spelled)
