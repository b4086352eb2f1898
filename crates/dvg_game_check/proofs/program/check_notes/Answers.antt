use Rattle.std.proofs.Common.{◌≡◌, ◌+◌, ◌-◌, false, sym, ◌∙◌, ap, arith}
use Rattle.dvg_game_words.specs.Checker.{all_under, fine_at, first, interrupts, noted, places}
use Rattle.dvg_game_check.specs.Rules.{notes_in}
use Rattle.dvg_game_check.proofs.Accepted.{accepted, no_nmi, no_other, not_fine}
use Rattle.dvg_game_check.proofs.Loops.{all_under_fails, places_are}
use Rattle.dvg_game_check.proofs.program.check_notes.Goals as goal

pub returns-in-Some : goal.returns-in-Some
returns-in-Some c = (
  λ f start h. not_fine f start (notes_in c.args.notes.now)
      (let n : first + (c.in-Some.at - first) ≡ c.in-Some.at = omega (arith, c.in-Some.ensures.1) in
      all_under_fails (λ i. fine_at (notes_in c.args.notes.now) f (first + i) (noted (notes_in c.args.notes.now) (first + i)))
      places (c.in-Some.at - first) (omega (arith, places_are, c.in-Some.ensures.1, c.in-Some.ensures.2))
      (ap (λ a. fine_at (notes_in c.args.notes.now) f a (noted (notes_in c.args.notes.now) a)) n ∙ c.in-Some.ensures.0 f h)),
  (c.in-Some.ensures.0, c.in-Some.ensures.1, omega (arith, places_are, c.in-Some.ensures.2)),
)

pub returns-then-not-starts_fine : goal.returns-then-not-starts_fine
returns-then-not-starts_fine c = (
  λ f start h. no_other f c.args.start start (notes_in c.args.notes.now) (c.requires.boots f h)
      (sym c.starts_fine.ensures ∙ c.if-not-starts_fine.true),
  (c.args.start, c.requires.boots, sym c.starts_fine.ensures ∙ c.if-not-starts_fine.true),
)

pub returns-then-not-interrupts_fine : goal.returns-then-not-interrupts_fine
returns-then-not-interrupts_fine c = (
  λ f start h. no_nmi f start (notes_in c.args.notes.now)
      (ap (λ a. interrupts (noted (notes_in c.args.notes.now) a)) (sym (c.from.ensures ∙ c.word_at.ensures f h))
      ∙ (sym c.interrupts_fine.ensures ∙ c.if-not-interrupts_fine.true)),
  λ f h. ap (λ a. interrupts (noted (notes_in c.args.notes.now) a)) (sym (c.from.ensures ∙ c.word_at.ensures f h))
      ∙ (sym c.interrupts_fine.ensures ∙ c.if-not-interrupts_fine.true),
)

pub returns : goal.returns
returns c f h =
    accepted f c.args.start (notes_in c.args.notes.now) (sym c.starts_fine.ensures ∙ c.if-not-starts_fine.false)
    (ap (λ a. interrupts (noted (notes_in c.args.notes.now) a)) (sym (c.from.ensures ∙ c.word_at.ensures f h))
    ∙ (sym c.interrupts_fine.ensures ∙ c.if-not-interrupts_fine.false))
    (c.in-None.ensures f h) (c.requires.driver f h) (c.requires.boots f h)
