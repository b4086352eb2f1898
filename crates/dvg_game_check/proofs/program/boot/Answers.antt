use Rattle.std.proofs.Common.{◌≡◌, ◌+◌, ◌-◌, suc, ℕ, sym, ◌∙◌, ap, arith, inl, inr, true}
use Rattle.dvg_game_words.specs.Kinds.{kind_of}
use Rattle.dvg_game_words.specs.Checker.{bytes_of, is_code}
use Rattle.dvg_game_words.specs.Machine.{word_at, reset_vector}
use Rattle.dvg_game_check.specs.Meant.{kind_meant}
use Rattle.dvg_game_check.specs.Program.{way}
use Rattle.dvg_game_check.proofs.Bytes.{boots_by_bytes}
use Rattle.dvg_game_check.proofs.Loops.{code_false, code_true}
use Rattle.dvg_game_check.proofs.Way.{way_bad, way_on, way_out, way_there, way_zero}
use Rattle.dvg_game_check.proofs.program.boot.Goals as goal
use Rattle.dvg_game_check.proofs.program.boot.Goals.{then-at-lt-FIRST-via-then-at-lt-FIRST, then-at-lt-FIRST-via-else-at-lt-FIRST+then-at}

pub loop-k-init : goal.loop-k-init
loop-k-init c = (omega arith, λ f start h. ap (λ a. way 32 f a start) (c.from-at.ensures ∙ c.word_at.ensures f h))

pub returns-then-at-lt-FIRST : goal.returns-then-at-lt-FIRST
returns-then-at-lt-FIRST c f start h =
    sym (c.loop-k.invariant.1 f start h) ∙ way_out (32 - c.loop-k.k) f c.loop-k.at start
    (elim c.then-at-lt-FIRST.branch [
      | then-at-lt-FIRST-via-then-at-lt-FIRST w ↦ code_false c.loop-k.at (inl (omega arith))
      | then-at-lt-FIRST-via-else-at-lt-FIRST+then-at w ↦ code_false c.loop-k.at (inr (omega arith))
    ])

pub returns-then-stands : goal.returns-then-stands
returns-then-stands c f h =
    let n : 32 - c.loop-k.k ≡ suc (31 - c.loop-k.k) = omega arith in
    sym (c.loop-k.invariant.1 f (c.loop-k.at + 3) h) ∙ (ap (λ m. way m f c.loop-k.at (c.loop-k.at + 3)) n
    ∙ way_there (31 - c.loop-k.k) f c.loop-k.at (code_true c.loop-k.at (omega arith) (omega arith))
    (sym (c.stands.ensures f h) ∙ c.if-stands.true))

pub returns-then-not-may_boot : goal.returns-then-not-may_boot
returns-then-not-may_boot c f start h =
    let n : 32 - c.loop-k.k ≡ suc (31 - c.loop-k.k) = omega arith in
    sym (c.loop-k.invariant.1 f start h) ∙ (ap (λ m. way m f c.loop-k.at start) n
    ∙ way_bad (31 - c.loop-k.k) f c.loop-k.at start (code_true c.loop-k.at (omega arith) (omega arith))
    (sym (c.stands.ensures f h) ∙ c.if-stands.false)
    (sym (boots_by_bytes (kind_meant c.kind_of-kind.result) (kind_of (f c.loop-k.at)) f c.loop-k.at c.byte_at-in-loop-k.result
    c.word_at-in-loop-k.result (c.kind_of-kind.ensures ∙ ap kind_of (c.byte_at.ensures f h)) (c.byte_at-in-loop-k.ensures f h)
    (c.word_at-in-loop-k.ensures f h)) ∙ (sym c.may_boot.ensures ∙ c.if-not-may_boot.true)))

pub loop-k-preserved : goal.loop-k-preserved
loop-k-preserved c = (
  omega arith,
  λ f start h.
      let n : 32 - c.loop-k.k ≡ suc (31 - c.loop-k.k) = omega arith in
      let m : 32 - (c.loop-k.k + 1) ≡ 31 - c.loop-k.k = omega arith in
      let k = c.kind_of-kind.ensures ∙ ap kind_of (c.byte_at.ensures f h) in
      ap (λ d. way (32 - (c.loop-k.k + 1)) f (c.loop-k.at + d) start) (c.from-at-in-loop-k.ensures ∙ (c.bytes_of.ensures ∙ ap bytes_of k))
      ∙ (ap (λ j. way j f (c.loop-k.at + bytes_of (kind_of (f c.loop-k.at))) start) m
      ∙ (sym (way_on (31 - c.loop-k.k) f c.loop-k.at start (code_true c.loop-k.at (omega arith) (omega arith))
      (sym (c.stands.ensures f h) ∙ c.if-stands.false)
      (sym (boots_by_bytes (kind_meant c.kind_of-kind.result) (kind_of (f c.loop-k.at)) f c.loop-k.at c.byte_at-in-loop-k.result
      c.word_at-in-loop-k.result k (c.byte_at-in-loop-k.ensures f h)
      (c.word_at-in-loop-k.ensures f h)) ∙ (sym c.may_boot.ensures ∙ c.if-not-may_boot.false)))
      ∙ (sym (ap (λ j. way j f c.loop-k.at start) n) ∙ c.loop-k.invariant.1 f start h))),
)

pub returns : goal.returns
returns c f start h =
    let n : 32 - c.loop-k.k ≡ 0 = omega arith in
    sym (c.loop-k.invariant.1 f start h) ∙ (ap (λ m. way m f c.loop-k.at start) n ∙ way_zero f c.loop-k.at start)
