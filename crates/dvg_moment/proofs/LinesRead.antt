-- What lines read.
use Rattle.std.proofs.Common.{◌≡◌, ◌≢◌, ℕ, ◌+◌, ◌*◌, ◌/◌, inl, inr, refl, sym, ◌∙◌, Option, Some, None, Bool, true, arith}
use Rattle.std.specs.Prelude.{◌==◌}
use Rattle.std.proofs.lemmas.Bool.Decides.{eqb_tells}
use Rattle.std.proofs.lemmas.Option.{none-some}
use Rattle.dvg_log.specs.declared.entry.Entry.TheVariants.{Low}
use Rattle.dvg_log.specs.Log.{Log}
use Rattle.dvg_moment.specs.Moment.{word_reads, reads}

pub equal : (a b : ℕ) → a ≡ b → (a == b) ≡ true
equal a b e = elim (eqb_tells a b) [ inl t ↦ t.0 | inr t ↦ absurd (t.1 e) ]

pub some_read : {read : Option ℕ} {byte : ℕ} → read ≡ Some byte → read ≢ None
some_read e n = none-some _ (sym n ∙ e)

-- a low byte is read where it is
pub low_reads : (log : Log) (x b : ℕ) → reads log (Low x b) (2 * x) ≡ Some b
low_reads log x b = rw (equal (2 * x) (2 * x) refl) refl

pub low_at : (log : Log) (x b a : ℕ) → reads log (Low x b) a ≢ None → a ≡ 2 * x
low_at log x b a r = elim (eqb_tells a (2 * x)) [ inl t ↦ t.1 | inr t ↦ absurd (r (rw t.0 refl)) ]

-- a word's high byte is read by the fetch that completes it
pub high_reads : (waits : Bool) (x w : ℕ) → word_reads waits x w (2 * x + 1) ≡ Some (w / 256)
high_reads waits x w = rw (equal (2 * x + 1) (2 * x + 1) refl) refl

pub word_at : (waits : Bool) (x w a : ℕ) → word_reads waits x w a ≢ None → a / 2 ≡ x
word_at waits x w a r = elim (eqb_tells a (2 * x + 1)) [
  | inl t ↦ (let at = t.1 in omega arith)
  | inr t ↦ (elim (eqb_tells a (2 * x)) [
    | inl u ↦ (let at = u.1 in omega arith)
    | inr u ↦ absurd (r (rw (t.0, u.0) refl))
  ])
]
