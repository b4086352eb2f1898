use Rattle.std.proofs.Common.{◌≡◌, ◌∙◌, sym, arith, true, false}
use Rattle.dvg_frame.specs.Steps.{begin}
use Rattle.dvg_frame.proofs.Settled.{returns_refused, deep_refused, accepted, bound, small, fits_by}
use Rattle.dvg_frame.proofs.checking.bounds.bound_of.Goals as goal
use Rattle.dvg_frame.proofs.checking.bounds.bound_of.Goals.{then-first-via-then-first}
use Rattle.dvg_frame.proofs.checking.bounds.bound_of.Goals.{then-first-via-else-first+then-first-gt-DEEPEST}

pub settle-requires-clause-reached : goal.settle-requires-clause-reached
settle-requires-clause-reached g c = λ all. begin

pub returns-then-first : goal.returns-then-first
returns-then-first g c =
    let begins = c.requires.begins in
    let entries = c.settle.ensures.entries in
    let first = c.in_ok-first.ensures.settled.0.1 in
    elim c.then-first.branch [
      | then-first-via-then-first w ↦ returns_refused _ _ begins _ entries _ (omega arith) first w.if-first.true
      | then-first-via-else-first+then-first-gt-DEEPEST w ↦
          deep_refused _ _ begins _ entries _ (omega arith) first w.if-first-gt-DEEPEST.true
    ]

pub overflow_add-result : goal.overflow_add-result
overflow_add-result g c =
    let begins = c.requires.begins in
    let entries = c.settle.ensures.entries in
    let first = c.in_ok-first.ensures.settled.0.1 in
    let fits = fits_by c.in_ok-first.first
    (λ returns. let never : true ≡ false = sym returns ∙ c.if-first.false in cc) c.if-first-gt-DEEPEST.false in
    let low = small _ _ begins _ entries _ (omega arith) first c.requires.rom fits in
    omega arith

pub returns : goal.returns
returns g c =
    let begins = c.requires.begins in
    let entries = c.settle.ensures.entries in
    let first = c.in_ok-first.ensures.settled.0.1 in
    let fits = fits_by c.in_ok-first.first
    (λ returns. let never : true ≡ false = sym returns ∙ c.if-first.false in cc) c.if-first-gt-DEEPEST.false in
    let all = accepted _ _ begins _ entries _ (omega arith) first c.requires.rom fits in
    let words = bound _ _ begins _ entries _ (omega arith) first c.requires.rom fits in
    let low = small _ _ begins _ entries _ (omega arith) first c.requires.rom fits in
    (all, words, low)
