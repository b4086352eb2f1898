-- When a reading contradicts what was told.
use Rattle.std.proofs.Common.{◌≡◌, ◌≢◌, ℕ, ◌+◌, ◌*◌, ◌/◌, ◌%◌, ◌<◌, ◌⊎◌, inl, inr, refl, sym, ◌∙◌, ap, subst, Some, None, Bool, true, false, get_or, arith}
use Rattle.std.specs.Prelude.{◌==◌, ◌&&◌, if◌then◌else◌, not, IsTrue, ◌↔◌}
use Rattle.std.proofs.lemmas.Bool.{cases_lt}
use Rattle.std.proofs.lemmas.Bool.Decides.{eqb_tells}
use Rattle.std.proofs.lemmas.List.{get_or_past}
use Rattle.std.proofs.lemmas.Option.{none-some, same_Some}
use Rattle.dvg_log.specs.declared.entry.Entry.TheVariants.{Low}
use Rattle.dvg_log.specs.Log.{Log, waiting}
use Rattle.dvg_moment.specs.declared.judge.MomentJudge.{MomentJudge}
use Rattle.dvg_moment.specs.Moment.{waits, word_reads, reads, told, WaitsAsAnother, Contradicts}
use Rattle.dvg_moment.specs.Judging.{StandsAfter}
use Rattle.dvg_moment.proofs.JudgeAfterLog.{low_waits}
use Rattle.dvg_moment.proofs.LinesRead.{equal, low_reads, low_at, some_read, high_reads}

-- another byte was told
abbrev pub IsAnother : MomentJudge → (at byte : ℕ) → Type 0
IsAnother judge at byte = (other : ℕ) × (get_or judge.told at None ≡ Some other) × (byte ≢ other)

module _ (judge : MomentJudge) (log : Log) (s : StandsAfter judge log) where
  within : (at other : ℕ) → get_or judge.told at None ≡ Some other → (at < 0x2000) × (told log at ≡ Some other)
  within at other e = elim (cases_lt at 0x2000) [
    | inl l ↦ (l, sym (s.tells at l) ∙ e)
    | inr l ↦ absurd (none-some other (sym (get_or_past judge.told at None (let n = s.sizes.0 in omega arith)) ∙ e))
  ]

  pub low_contradicts : (address byte : ℕ) → IsAnother judge (2 * address) byte ↔ Contradicts log (Low address byte)
  low_contradicts address byte = (
    (λ k. let w = within (2 * address) k.0 k.1 in (2 * address, byte, k.0, w.0, low_reads log address byte, w.1, k.2)),
    λ c.
        let e : c.0 ≡ 2 * address = low_at log address byte c.0 (some_read c.4) in
        let same : byte ≡ c.1 = same_Some _ _ (sym (low_reads log address byte) ∙ (ap (reads log (Low address byte)) (sym e) ∙ c.4)) in
        (c.2, ap (λ a. get_or judge.told a None) (sym e) ∙ (s.tells c.0 c.3 ∙ c.5), λ f. c.6 (sym same ∙ f)),
  )

  -- what a fetch that completes a word contradicts
  abbrev pub Word : (address word : ℕ) → Type 0
  Word address word =
      ((a byte other : ℕ) × (a < 0x2000) × (word_reads (waits (waiting log) address) address word a ≡ Some byte) × (told log a ≡ Some other) × (byte ≢ other))
      ⊎ WaitsAsAnother (waiting log) address (word % 256)

  low_part : (address word : ℕ) → word_reads false address word (2 * address) ≡ Some (word % 256)
  low_part address word = rw (apart (eqb_tells (2 * address) (2 * address + 1)), equal (2 * address) (2 * address) refl) refl
    where
      apart : ((2 * address == 2 * address + 1) ≡ true) × (2 * address ≡ 2 * address + 1) ⊎ ((2 * address == 2 * address + 1) ≡ false) × (2 * address ≢ 2 * address + 1) → (2 * address == 2 * address + 1) ≡ false
      apart (inl t) = absurd (let e = t.1 in omega arith)
      apart (inr t) = t.0

  parts : (low : Bool) (address word a byte : ℕ) → word_reads low address word a ≡ Some byte → ((a ≡ 2 * address + 1) × (word / 256 ≡ byte)) ⊎ ((low ≡ false) × (a ≡ 2 * address) × (word % 256 ≡ byte))
  parts low address word a byte e = elim (eqb_tells a (2 * address + 1)) [
    | inl t ↦ inl (t.1, same_Some _ _ (rw t.0 at e))
    | inr t ↦ elim (eqb_tells a (2 * address)) [
      | inl u ↦ inr (by low (rw (t.0, u.0) at e) u.1)
      | inr u ↦ absurd (none-some byte (rw (t.0, u.0) at e))
    ]
  ]
    where
      by : (low : Bool) → (if true && not low then Some (word % 256) else None) ≡ Some byte → a ≡ 2 * address → (low ≡ false) × (a ≡ 2 * address) × (word % 256 ≡ byte)
      by true f at = absurd (none-some byte f)
      by false f at = (refl, at, same_Some _ _ f)

  here : (address word at byte other : ℕ) → word_reads (waits (waiting log) address) address word at ≡ Some byte → get_or judge.told at None ≡ Some other → byte ≢ other → Word address word
  here address word at byte other r e n = let w = within at other e in inl (at, byte, other, w.0, r, w.1, n)

  there : (at a byte other : ℕ) → a ≡ at → a < 0x2000 → told log a ≡ Some other → byte ≢ other → IsAnother judge at byte
  there at a byte other e l t n = (other, ap (λ b. get_or judge.told b None) (sym e) ∙ (s.tells a l ∙ t), n)

  pub high_contradicts : (address word : ℕ) → IsAnother judge (2 * address + 1) (word / 256) → Word address word
  high_contradicts address word k = here address word (2 * address + 1) (word / 256) k.0 (high_reads (waits (waiting log) address) address word) k.1 k.2

  pub low_too : (address word : ℕ) → waits (waiting log) address ≡ false → IsAnother judge (2 * address) (word % 256) → Word address word
  low_too address word f k = here address word (2 * address) (word % 256) k.0 (rw f (low_part address word)) k.1 k.2

  pub word_contradicts : (address word : ℕ) → Word address word
      → IsAnother judge (2 * address + 1) (word / 256) ⊎ ((waits (waiting log) address ≡ false) × IsAnother judge (2 * address) (word % 256))
      ⊎ WaitsAsAnother judge.low address (word % 256)
  word_contradicts address word (inr k) = inr (inr (subst (λ low. WaitsAsAnother low address (word % 256)) (sym s.waits) k))
  word_contradicts address word (inl c) = elim (parts (waits (waiting log) address) address word c.0 c.1 c.4) [
    | inl h ↦ inl (there (2 * address + 1) c.0 (word / 256) c.2 h.0 c.3 c.5 (λ e. c.6 (sym h.1 ∙ e)))
    | inr h ↦ inr (inl (h.0, there (2 * address) c.0 (word % 256) c.2 h.1 c.3 c.5 (λ e. c.6 (sym h.2 ∙ e))))
  ]

  -- what the judge answers

  pub low_answer : (address byte : ℕ) (answer : Bool) → IsTrue answer ↔ IsAnother judge (2 * address) byte → IsTrue answer ↔ Contradicts log (Low address byte)
  low_answer address byte answer a = let c = low_contradicts address byte in ((λ t. c.0 (a.0 t)), λ k. a.1 (c.1 k))

  pub low_found : (address word : ℕ) → waits judge.low address ≡ false → IsAnother judge (2 * address) (word % 256) → Word address word
  low_found address word f k = low_too address word (sym (low_waits judge log address s) ∙ f) k

  pub high_answer : (address word : ℕ) (answer : Bool) → IsTrue answer ↔ IsAnother judge (2 * address + 1) (word / 256)
      → ¬ WaitsAsAnother judge.low address (word % 256) → (waits judge.low address ≡ false → ¬ IsAnother judge (2 * address) (word % 256)) → IsTrue answer ↔ Word address word
  high_answer address word answer a same none = (
    (λ t. high_contradicts address word (a.0 t)),
    λ k. elim (word_contradicts address word k) [
      | inl h ↦ a.1 h
      | inr (inl h) ↦ absurd (none (low_waits judge log address s ∙ h.0) h.1)
      | inr (inr k) ↦ absurd (same k)
    ],
  )
