use Rattle.std.proofs.Common.{◌≤◌, [], None, false, sym, subst, ◌∙◌, arith}
use Rattle.dvg_gen.specs.Machine.{answer_of}
use Rattle.dvg_dump.specs.Tracing.{Stepped, fresh}
use Rattle.dvg_mem.specs.Memory.{fetched}
use Rattle.test_facts.proofs.Alone.{at_first, by_word, goes_further, never_breaks, not_so_long}
use Rattle.test_facts.proofs.undisturbed.drawn.Goals as goal

pub loop-words-init : goal.loop-words-init
loop-words-init c =
    at_first (fetched c.args.store.now c.args.rom.now) c.start.new.self
    (c.start.ensures.stands [] None c.new-generator.ensures.stands)

pub returns-in-Done : goal.returns-in-Done
returns-in-Done c =
    let run = c.loop-words.invariant in
    let at = c.wants.ensures.address run.follows.history None run.follows.after in
    let step =
    by_word run c.in-Some.address c.fetch-word.result c.take_word.new.generator
    (answer_of c.in_ok-take_word.field-0) (omega arith) (sym c.in-Some.is ∙ at)
    (sym c.fetch-word.ensures.word) c.in_ok-take_word.ensures in
    let done =
    subst
    (λ taken. Stepped (fetched c.args.store.now c.args.rom.now) false c.loop-words.words
    c.in-Some.address c.take_word.new.generator (fresh false) (answer_of taken))
    c.in-Done.is step in
    (done.0, done.1)

pub unreachable-requires-in_default-2 : goal.unreachable-requires-in_default-2
unreachable-requires-in_default-2 c =
    let run = c.loop-words.invariant in
    let at = c.wants.ensures.address run.follows.history None run.follows.after in
    let step =
    by_word run c.in-Some.address c.fetch-word.result c.take_word.new.generator
    (answer_of c.in_ok-take_word.field-0) (omega arith) (sym c.in-Some.is ∙ at)
    (sym c.fetch-word.ensures.word) c.in_ok-take_word.ensures in
    never_breaks _ _ _ _ _ step c.in_default-2.not-Word c.in_default-2.not-Done
    c.requires.0 c.requires.1 c.requires.3

pub loop-words-preserved : goal.loop-words-preserved
loop-words-preserved c =
    let run = c.loop-words.invariant in
    let at = c.wants.ensures.address run.follows.history None run.follows.after in
    let step =
    by_word run c.in-Some.address c.fetch-word.result c.take_word.new.generator
    (answer_of c.in_ok-take_word.field-0) (omega arith) (sym c.in-Some.is ∙ at)
    (sym c.fetch-word.ensures.word) c.in_ok-take_word.ensures in
    goes_further _ _ c.loop-words.words _ _ c.in-Word.is step

pub unreachable-requires-2 : goal.unreachable-requires-2
unreachable-requires-2 c =
    let few : c.requires.0 ≤ c.loop-words.words = omega (arith, c.requires.2) in
    not_so_long c.loop-words.invariant c.requires.0 c.requires.1 few c.requires.3
