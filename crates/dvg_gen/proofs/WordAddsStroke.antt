-- What takes memory: a word that completes a vector which is seen, and so adds a stroke.
use Rattle.std.proofs.Common.{◌≡◌, ◌≢◌, ℕ, ◌<◌, ◌⊎◌, inl, inr, ⊎_elim, List, [], ◌∷◌, length, Option, Some, None, refl, ap, subst, arith, length-append}
use Rattle.std.specs.Prelude.{IfSome}
use Rattle.std.proofs.lemmas.Bool.{cases_lt}
use Rattle.dvg_code.specs.declared.instr.Instr.{Instr}
use Rattle.dvg_code.specs.declared.instr.Instr.TheVariants.{Vctr, Labs, Halt, Jsrl, Rtsl, Jmpl, Svec}
use Rattle.dvg_code.specs.Spelling.{IsFirst, Spells, vctr, labs, halt, jsrl, rtsl, jmpl, svec}
use Rattle.dvg_code.proofs.Beginnings.{one_word, two_words}
use Rattle.dvg_code.proofs.Unique.{same_spelling, sign_is_bit}
use Rattle.dvg_gen.specs.declared.beam.Beam.{Beam}
use Rattle.dvg_gen.specs.Bytes.{Met, Waits, Whole}
use Rattle.dvg_gen.specs.Completing.{Completes, IsSeen, DrawsNothing}
use Rattle.dvg_gen.specs.Drawing.{drawn}
use Rattle.dvg_gen.specs.Run.{Visit, next, beam_after, strokes, Adds, one, two}
use Rattle.dvg_gen.proofs.WhatDraws.{seen_draws}
use Rattle.dvg_gen.proofs.Words.{not_first}

-- a word that completes an instruction has 16 bits
one_small : {code : Instr} {word : ℕ} → Spells code (word ∷ []) → word < 65536
one_small (halt p q) = omega arith
one_small (jsrl r p) = omega arith
one_small (rtsl p q) = omega arith
one_small (jmpl r p) = omega arith
one_small (svec {dx = dx} {dy = dy} r p) =
    let z_size = r.4 in
    let x_size = r.2 in
    let y_size = r.3 in
    let x = sign_is_bit dx p.dx_sign p.dx_sign_is in
    let y = sign_is_bit dy p.dy_sign p.dy_sign_is in
    let b = p.bit_11_is_bit in
    let t = p.bit_3_is_bit in
    let sum = p.sum in
    omega arith

second_small : {code : Instr} {first word : ℕ} → Spells code (first ∷ word ∷ []) → word < 65536
second_small (vctr {dx = dx} r p q) =
    let z_size = r.3 in
    let x_size = r.1 in
    let x = sign_is_bit dx q.sign q.sign_is in
    let free = q.free_is_bit in
    let sum = q.sum in
    omega arith
second_small (labs r p q) = let x_size = r.0 in let scale_size = r.2 in omega arith

completes_small : (held : Option ℕ) (word : ℕ) (code : Instr) → Completes held word code → word < 65536
completes_small None word code completes = one_small completes
completes_small (Some first) word code completes = second_small completes

completes_same : (held : Option ℕ) (word : ℕ) (code other : Instr) → Completes held word code → Completes held word other → code ≡ other
completes_same None word code other p q = same_spelling code other (word ∷ []) p q
completes_same (Some first) word code other p q = same_spelling code other (first ∷ word ∷ []) p q

is_seen : (code : Instr) → IsSeen code ⊎ ¬ IsSeen code
is_seen (Vctr scale dx dy z) = ⊎_elim (λ blank. inr (λ seen. omega arith)) (λ seen. inl seen) (cases_lt z 1)
is_seen (Svec scale dx dy z) = ⊎_elim (λ blank. inr (λ seen. omega arith)) (λ seen. inl seen) (cases_lt z 1)
is_seen (Labs x y scale) = inr (λ never. never)
is_seen Halt = inr (λ never. never)
is_seen (Jsrl address) = inr (λ never. never)
is_seen Rtsl = inr (λ never. never)
is_seen (Jmpl address) = inr (λ never. never)

-- what a word that draws something completes
Seen : Option ℕ → ℕ → Type 0
Seen held word = (code : Instr) × Completes held word code × IsSeen code

seen_by : (held : Option ℕ) (word : ℕ) (code : Instr) → Completes held word code → ¬ DrawsNothing held (Whole (Some word)) → Seen held word
unfolding Seen
seen_by held word code completes draws =
    ⊎_elim
    (λ seen. (code, completes, seen))
    (λ unseen. absurd (draws (λ other also seen. unseen (subst IsSeen (completes_same held word other code also completes) seen))))
    (is_seen code)

some_seen : (held : Option ℕ) (word : ℕ) → IfSome held IsFirst → word < 65536 → ¬ DrawsNothing held (Whole (Some word)) → Seen held word
some_seen None word wants fits draws =
    ⊎_elim
    (λ low. absurd (draws (λ code completes seen. absurd (not_first _ _ low completes))))
    (λ high. let read = one_word word high fits in seen_by None word read.0 read.1 draws)
    (cases_lt word 45056)
some_seen (Some first) word wants fits draws = let read = two_words first word wants fits in seen_by (Some first) word read.0 read.1 draws

-- such a word adds a stroke to the run
pub record DrawsSome (begun : Beam) (visits : List Visit) (held : Option ℕ) (found : Met) : Type 0 where
  pub word : ℕ
  pub met : found ≡ Whole (Some word)
  pub more : List Visit
  pub adds : Adds visits held word more None
  pub draws : strokes begun more ≢ strokes begun visits

adds_by : (visits : List Visit) (held : Option ℕ) (word : ℕ) (code : Instr) → Completes held word code → Adds visits held word (record { place = next visits; code = code } ∷ visits) None
adds_by visits None word code completes = one completes
adds_by visits (Some first) word code completes = two completes

longer : (begun : Beam) (visits : List Visit) (place : ℕ) (code : Instr) → IsSeen code → strokes begun (record { place = place; code = code } ∷ visits) ≢ strokes begun visits
longer begun visits place code seen same =
    let count = ap length same in
    let both = length-append (strokes begun visits) (drawn (beam_after begun visits) code) in
    let one = ap length (seen_draws (beam_after begun visits) code seen).1 in
    omega arith

adds_stroke : (begun : Beam) (visits : List Visit) (held : Option ℕ) (word : ℕ) → Seen held word → DrawsSome begun visits held (Whole (Some word))
unfolding Seen
adds_stroke begun visits held word (code, completes, seen) = record {
  word = word;
  met = refl;
  more = record { place = next visits; code = code } ∷ visits;
  adds = adds_by visits held word code completes;
  draws = longer begun visits (next visits) code seen;
}

pub draws_some : (begun : Beam) (visits : List Visit) (held : Option ℕ) (found : Met) → IfSome held IsFirst → ¬ DrawsNothing held found → DrawsSome begun visits held found
draws_some begun visits held (Waits byte) wants draws = absurd (draws tt)
draws_some begun visits held (Whole None) wants draws = absurd (draws tt)
draws_some begun visits held (Whole (Some word)) wants draws =
    ⊎_elim
    (λ fits. adds_stroke begun visits held word (some_seen held word wants fits draws))
    (λ large. absurd (draws (λ code completes seen. let small = completes_small held word code completes in absurd (omega arith))))
    (cases_lt word 65536)
