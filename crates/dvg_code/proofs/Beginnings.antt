-- Each word begins an instruction.
use Rattle.std.proofs.Common.{ℕ, ◌+◌, ◌*◌, ◌/◌, ◌%◌, ◌^◌, ◌<◌, ◌≤◌, ⊎_elim, [], ◌∷◌, refl, arith}
use Rattle.std.proofs.lemmas.Bool.{cases_lt}
use Rattle.dvg_code.specs.declared.instr.Instr.{Instr}
use Rattle.dvg_code.specs.declared.instr.Instr.TheVariants.{Vctr, Labs, Halt, Jsrl, Rtsl, Jmpl, Svec}
use Rattle.dvg_code.specs.Fields.{signed}
use Rattle.dvg_code.specs.Words.{IsWord}
use Rattle.dvg_code.specs.Spelling.{IsFirst, Spells, halt, jsrl, rtsl, jmpl}
use Rattle.dvg_code.proofs.FieldsSpell.{vctr_read, labs_read, svec_read}

-- the VCTR of two words
vctr_of : (first second : ℕ) → first < 40960 → IsWord second → (instr : Instr) × Spells instr (first ∷ second ∷ [])
vctr_of v w low fits = (
  Vctr (v / 2 ^ 12 % 2 ^ 4) (signed (w / 2 ^ 10 % 2 ^ 1) (w / 2 ^ 0 % 2 ^ 10)) (signed (v / 2 ^ 10 % 2 ^ 1) (v / 2 ^ 0 % 2 ^ 10)) (w / 2 ^ 12 % 2 ^ 4),
  vctr_read _ v w _ _ _ _ _ _ _ _ low fits refl refl refl refl refl refl refl refl refl,
)

-- the LABS of two words
labs_of : (first second : ℕ) → 40960 ≤ first → IsFirst first → IsWord second → (instr : Instr) × Spells instr (first ∷ second ∷ [])
labs_of v w low high fits = (Labs (w / 2 ^ 0 % 2 ^ 12) (v / 2 ^ 0 % 2 ^ 12) (w / 2 ^ 12 % 2 ^ 4), labs_read _ v w _ _ _ low high fits refl refl refl refl)

-- a word of opcode 0 to A spells an instruction with any second word
pub two_words : (first second : ℕ) → IsFirst first → IsWord second → (instr : Instr) × Spells instr (first ∷ second ∷ [])
two_words first second is_first fits =
    ⊎_elim (λ low. vctr_of first second low fits) (λ high. labs_of first second high is_first fits) (cases_lt first 40960)

-- the SVEC of a word
svec_of : (word : ℕ) → 61440 ≤ word → IsWord word → (instr : Instr) × Spells instr (word ∷ [])
svec_of w low fits = (
  Svec (2 + 2 * (w / 2 ^ 3 % 2 ^ 1) + w / 2 ^ 11 % 2 ^ 1) (signed (w / 2 ^ 2 % 2 ^ 1) (w / 2 ^ 0 % 2 ^ 2)) (signed (w / 2 ^ 10 % 2 ^ 1) (w / 2 ^ 8 % 2 ^ 2)) (w / 2 ^ 4 % 2 ^ 4),
  svec_read _ w _ _ _ _ _ _ _ _ _ low fits refl refl refl refl refl refl refl refl refl refl,
)

-- the JSRL of a word
jsrl_of : (word : ℕ) → 49152 ≤ word → word < 53248 → (instr : Instr) × Spells instr (word ∷ [])
jsrl_of word low high = let size : word % 4096 ≤ 4095 = omega arith in (Jsrl (word % 4096), jsrl size (omega arith))

-- the JMPL of a word
jmpl_of : (word : ℕ) → 57344 ≤ word → word < 61440 → (instr : Instr) × Spells instr (word ∷ [])
jmpl_of word low high = let size : word % 4096 ≤ 4095 = omega arith in (Jmpl (word % 4096), jmpl size (omega arith))

-- a word of opcode B to F spells an instruction alone
pub one_word : (word : ℕ) → 45056 ≤ word → IsWord word → (instr : Instr) × Spells instr (word ∷ [])
one_word word b fits =
    ⊎_elim (λ lt. (Halt, halt b lt))
    (λ c. ⊎_elim (λ lt. jsrl_of word c lt)
    (λ d. ⊎_elim (λ lt. (Rtsl, rtsl d lt))
    (λ e. ⊎_elim (λ lt. jmpl_of word e lt)
    (λ f. svec_of word f fits)
    (cases_lt word 61440))
    (cases_lt word 57344))
    (cases_lt word 53248))
    (cases_lt word 49152)
