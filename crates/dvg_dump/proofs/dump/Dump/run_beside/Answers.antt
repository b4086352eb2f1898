use Rattle.std.proofs.Common.{◌≡◌, ◌∙◌, ℕ, [], None, arith, subst}
use Rattle.std.specs.Prelude.{IfSome, false, true}
use Rattle.dvg_code.specs.Words.{IsWord}
use Rattle.dvg_gen.specs.Machine.{answer_by}
use Rattle.dvg_dump.specs.Memory.{memory_of}
use Rattle.dvg_dump.proofs.Silent.{all_fit, draws_nothing}
use Rattle.dvg_dump.proofs.OneWordMore.{ends_with, followed_first, goes_further, next_step, no_end}
use Rattle.dvg_dump.proofs.dump.Dump.run_beside.Goals as goal

pub loop-words-init : goal.loop-words-init
loop-words-init g c = followed_first _ _ c.args.tracer.now (c.start.ensures.stands [] None c.new-generator.ensures.stands) c.requires

pub returns-in-Done-clause-tells : goal.returns-in-Done-clause-tells
returns-in-Done-clause-tells g c =
    let f = c.loop-words.invariant in
    let new = c.step.new.generator in
    let ended =
    next_step new c.step.new.tracer (answer_by c.in_ok-step.field-0 new.picture) f c.loop-words-test.true
    (c.in-Some.ensures.address f.follows.history None f.follows.after) c.in_ok-step.ensures.steps in
    ends_with (memory_of c.args.self.now) _ _ c.in-Some.address new c.step.new.tracer c.in_ok-step.field-0 _ c.in-Done.is
    c.take_picture.ensures.taken ended

pub returns-in-Broke-clause-tells : goal.returns-in-Broke-clause-tells
returns-in-Broke-clause-tells g c =
    let f = c.loop-words.invariant in
    let new = c.step.new.generator in
    rw c.in-Broke.is at (next_step new c.step.new.tracer (answer_by c.in_ok-step.field-0 new.picture) f c.loop-words-test.true (c.in-Some.ensures.address f.follows.history None f.follows.after) c.in_ok-step.ensures.steps)

pub loop-words-preserved : goal.loop-words-preserved
loop-words-preserved g c =
    let f = c.loop-words.invariant in
    let new = c.step.new.generator in
    goes_further c.loop-words.words c.in-Some.address c.in_ok-step.field-0 c.in-Low.is
    (next_step new c.step.new.tracer (answer_by c.in_ok-step.field-0 new.picture) f c.loop-words-test.true (c.in-Some.ensures.address f.follows.history None f.follows.after) c.in_ok-step.ensures.steps)

pub returns-clause-tells : goal.returns-clause-tells
returns-clause-tells g c = let all : c.loop-words.words ≡ 65536 = omega arith in no_end all c.loop-words.invariant

pub returns-in_err-step-clause-room : goal.returns-in_err-step-clause-room
returns-in_err-step-clause-room g c = λ off none.
    let f = c.loop-words.invariant in
    let fits = all_fit c.self.inside.ram c.self.inside.rom c.self.invariant.0 c.self.invariant.1 in
    let memory = subst (λ dump. (w : ℕ) → IfSome (memory_of dump w) IsWord) c.self.view_is fits in
    let clash : false ≡ true = c.in_err-step.ensures.room (f.tells.flag ∙ off) (draws_nothing f none memory c.loop-words-test.true (c.in-Some.ensures.address f.follows.history None f.follows.after)) in
    absurd (cc)
