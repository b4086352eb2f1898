-- Runs over a memory, by whole instructions.
use Rattle.std.proofs.Common.{◌≡◌, ℕ, suc, ◌+◌, ◌≤◌, List, [], ◌∷◌, Option, Some, None, refl, sym, subst, arith}
use Rattle.dvg_code.specs.declared.instr.Instr.{Instr}
use Rattle.dvg_code.specs.Spelling.{Spells, IsFirst, word_count}
use Rattle.dvg_code.specs.Spelling.{vctr, labs, halt, jsrl, rtsl, jmpl, svec}
use Rattle.dvg_code.proofs.Unique.{sign_is_bit}
use Rattle.dvg_gen.specs.Run.{Visit, on, next, wanted, Goes, fate, Adds, first, one, two, Runs, begins, fetches}

-- the words from an address on spell an instruction
pub data ReadsAt (mem : ℕ → Option ℕ) : ℕ → Instr → Type 0 where
  reads1 : {a w : ℕ} {c : Instr} → mem a ≡ Some w → Spells c (w ∷ []) → ReadsAt mem a c
  reads2 : {a v w : ℕ} {c : Instr} → mem a ≡ Some v → mem (on a 1) ≡ Some w → IsFirst v → Spells c (v ∷ w ∷ []) → ReadsAt mem a c

one_word : {c : Instr} {w : ℕ} → Spells c (w ∷ []) → word_count c ≡ 1
one_word (halt p q) = refl
one_word (jsrl p q) = refl
one_word (rtsl p q) = refl
one_word (jmpl p q) = refl
one_word (svec p q) = refl

two_words : {c : Instr} {v w : ℕ} → Spells c (v ∷ w ∷ []) → word_count c ≡ 2
two_words (vctr p q r) = refl
two_words (labs p q r) = refl

-- a word that is an instruction is no first word
pub one_size : {c : Instr} {w : ℕ} → Spells c (w ∷ []) → 0xB000 ≤ w
one_size (halt p q) = omega arith
one_size (jsrl p q) = omega arith
one_size (rtsl p q) = omega arith
one_size (jmpl p q) = omega arith
one_size (svec p q) = let sum = q.sum in omega arith

-- the first of two words is one
pub first_size : {c : Instr} {v w : ℕ} → Spells c (v ∷ w ∷ []) → IsFirst v
first_size (vctr {dy = dy} p q r) = let bit = sign_is_bit dy q.sign q.sign_is in omega arith
first_size (labs p e f) = omega arith

-- a run by whole instructions
pub data Whole (mem : ℕ → Option ℕ) : ℕ → List Visit → Type 0 where
  none : Whole mem 0 []
  more : {m n : ℕ} {vs : List Visit} {c : Instr} → Whole mem m vs → fate vs ≡ Goes → ReadsAt mem (next vs) c → n ≡ m + word_count c → Whole mem n (record { place = next vs; code = c } ∷ vs)

-- the same, and perhaps a first word
pub data Partly (mem : ℕ → Option ℕ) : ℕ → List Visit → Option ℕ → Type 0 where
  whole : {n : ℕ} {vs : List Visit} → Whole mem n vs → Partly mem n vs None
  half : {n v : ℕ} {vs : List Visit} → Whole mem n vs → fate vs ≡ Goes → mem (next vs) ≡ Some v → IsFirst v → Partly mem (suc n) vs (Some v)

partly_more : {mem : ℕ → Option ℕ} {n w : ℕ} {vs vs' : List Visit} {held held' : Option ℕ} → Partly mem n vs held → fate vs ≡ Goes → mem (wanted vs held) ≡ Some w → Adds vs held w vs' held' → Partly mem (suc n) vs' held'
partly_more (whole r) g m (first f) = half r g m f
partly_more (whole r) g m (one s) = whole (more r g (reads1 m s) (omega (arith, one_word s)))
partly_more (half r g0 m0 f) g m (two s) = whole (more r g0 (reads2 m0 m f s) (omega (arith, two_words s)))

pub partly_run : {mem : ℕ → Option ℕ} {n : ℕ} {vs : List Visit} {held : Option ℕ} → Runs mem n vs held → Partly mem n vs held
partly_run begins = whole none
partly_run (fetches r g m a) = partly_more (partly_run r) g m a

run_more : {mem : ℕ → Option ℕ} {m : ℕ} {vs : List Visit} {c : Instr} → Runs mem m vs None → fate vs ≡ Goes → ReadsAt mem (next vs) c → Runs mem (m + word_count c) (record { place = next vs; code = c } ∷ vs) None
run_more {mem} {m} {vs} {c} r g (reads1 e s) =
    let n : suc m ≡ m + word_count c = omega (arith, one_word s) in
    subst (λ k. Runs mem k (record { place = next vs; code = c } ∷ vs) None) n (fetches r g e (one s))
run_more {mem} {m} {vs} {c} r g (reads2 e1 e2 f s) =
    let n : suc (suc m) ≡ m + word_count c = omega (arith, two_words s) in
    subst (λ k. Runs mem k (record { place = next vs; code = c } ∷ vs) None) n (fetches (fetches r g e1 (first f)) g e2 (two s))

pub run_whole : {mem : ℕ → Option ℕ} {n : ℕ} {vs : List Visit} → Whole mem n vs → Runs mem n vs None
run_whole none = begins
run_whole {mem} (more {m = m} {vs = vs} {c = c} r g h e) =
    subst (λ k. Runs mem k (record { place = next vs; code = c } ∷ vs) None) (sym e) (run_more (run_whole r) g h)
