use Rattle.std.proofs.Common.{◌≡◌, ◌+◌, ◌&&◌, Bool, true, refl, sym, ◌∙◌, arith}
use Rattle.dvg_game_words.specs.Checker.{all_under, first, noted, places}
use Rattle.dvg_game_words.specs.Brings.{brings_at, is_free}
use Rattle.dvg_game_check.specs.Brought.{has, has_word, ways_in}
use Rattle.dvg_game_check.specs.Rules.{notes_in}
use Rattle.dvg_game_check.proofs.Knows.{place_brings}
use Rattle.dvg_game_check.proofs.Loops.{all_under_full, all_under_more, places_are}
use Rattle.dvg_game_check.proofs.known.brings_gap.Goals as goal

both : (a b : Bool) → a ≡ true → b ≡ true → (a && b) ≡ true
both a b h g = rw (h, g)

pub loop-i-preserved : goal.loop-i-preserved
loop-i-preserved c f h =
    all_under_more (λ i. brings_at (has c.args.tables.now) (has_word c.args.words.now) f (ways_in c.args.ways.now) (first + i)
    (noted (notes_in c.args.notes.now) (first + i))) c.loop-i.i (c.loop-i.invariant f h)
    (place_brings c.args.tables.now c.args.words.now f (ways_in c.args.ways.now) (first + c.loop-i.i)
    (noted (notes_in c.args.notes.now) (first + c.loop-i.i)) (c.in-None.ensures f h))

pub returns-in-Some : goal.returns-in-Some
returns-in-Some c = (c.in-Some.ensures, omega arith, omega (arith, places_are))

pub returns : goal.returns
returns c f h =
    both (is_free (ways_in c.args.ways.now) c.args.start) (all_under places (λ i. brings_at (has c.args.tables.now)
    (has_word c.args.words.now) f (ways_in c.args.ways.now) (first + i) (noted (notes_in c.args.notes.now) (first + i))))
    (sym c.is_free.ensures ∙ c.if-not-is_free.false)
    (all_under_full (λ i. brings_at (has c.args.tables.now) (has_word c.args.words.now) f (ways_in c.args.ways.now) (first + i)
    (noted (notes_in c.args.notes.now) (first + i))) c.loop-i.i places (omega (arith, places_are)) (c.loop-i.invariant f h))
