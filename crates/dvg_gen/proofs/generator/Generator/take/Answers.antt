use Rattle.std.proofs.Common.{ap, sym, ◌∙◌, subst, None, Some, ◌%◌, arith}
use Rattle.std.specs.Prelude.{Ok}
use Rattle.dvg_code.specs.declared.memory.OutOfMemory.{OutOfMemory}
use Rattle.dvg_code.specs.declared.instr.Instr.TheVariants.{Halt, Jsrl, Rtsl, Jmpl}
use Rattle.dvg_code.specs.Spelling.{halt, jsrl, rtsl, jmpl}
use Rattle.dvg_gen.specs.Completing.{Completes}
use Rattle.dvg_gen.specs.Machine.{Machine}
use Rattle.dvg_gen.specs.Run.{on}
use Rattle.dvg_gen.proofs.GeneratorAfterHistory.{claim_alone, claim_first, claim_result, goes_result, jumped, picture_result, none_left_result}
use Rattle.dvg_gen.proofs.generator.Generator.take.Goals as goal

pub returns-then-first-lt40960-clause-answers : goal.returns-then-first-lt40960-clause-answers
returns-then-first-lt40960-clause-answers g c =
    let held = ap (λ m. m.held) (sym c.self.view_is) ∙ c.in-Some.is in
    let completes = subst (λ h. Completes h c.args.word c.of_two.result) (sym held) c.of_two.ensures in
    claim_result c.draw.result c.args.word c.args.self.now c.draw.new.self c.of_two.result c.requires completes
    c.draw.ensures.obeyed

pub returns-else-first-lt40960-clause-answers : goal.returns-else-first-lt40960-clause-answers
returns-else-first-lt40960-clause-answers g c =
    let held = ap (λ m. m.held) (sym c.self.view_is) ∙ c.in-Some.is in
    let instr = c.of_two-else-first-lt40960.result in
    let completes = subst (λ h. Completes h c.args.word instr) (sym held) c.of_two-else-first-lt40960.ensures in
    claim_result {E = OutOfMemory} (Ok c.place.result) c.args.word c.args.self.now c.place.new.self instr c.requires
    completes c.place.ensures.obeyed

pub returns-then-word-lt45056-clause-answers : goal.returns-then-word-lt45056-clause-answers
returns-then-word-lt45056-clause-answers g c =
    let held = ap (λ m. m.held) (sym c.self.view_is) ∙ c.in_default.is in
    let after = c.after-self-inside.result in
    claim_first c.args.word after c.args.self.now _ c.requires held c.if-word-lt45056.true
    (c.after-self-inside.ensures ∙ ap (λ m. on m.at 1) c.self.view_is)
    (ap {A = Machine} (λ m. record m { at = after; held = Some c.args.word; low = None }) c.self.view_is)

pub returns-in-11-clause-answers : goal.returns-in-11-clause-answers
returns-in-11-clause-answers g c =
    let held = ap (λ m. m.held) (sym c.self.view_is) ∙ c.in_default.is in
    let opcode = c.in-11.is in
    claim_alone {E = OutOfMemory} (Ok c.finish.result) c.args.word c.args.self.now c.finish.new.self Halt c.requires
    held (halt (omega arith) (omega arith)) c.finish.ensures.obeyed

pub returns-in-12-clause-answers : goal.returns-in-12-clause-answers
returns-in-12-clause-answers g c =
    let held = ap (λ m. m.held) (sym c.self.view_is) ∙ c.in_default.is in
    let opcode = c.in-12.is in
    let address = c.args.word % 4096 in
    claim_alone {E = OutOfMemory} (Ok c.call.result) c.args.word c.args.self.now c.call.new.self (Jsrl address)
    c.requires held (jsrl {address = address} (omega arith) (omega arith)) c.call.ensures

pub returns-in-13-clause-answers : goal.returns-in-13-clause-answers
returns-in-13-clause-answers g c =
    let held = ap (λ m. m.held) (sym c.self.view_is) ∙ c.in_default.is in
    let opcode = c.in-13.is in
    claim_alone {E = OutOfMemory} (Ok c.come_back.result) c.args.word c.args.self.now c.come_back.new.self Rtsl
    c.requires held (rtsl (omega arith) (omega arith)) c.come_back.ensures

pub returns-in-14-clause-answers : goal.returns-in-14-clause-answers
returns-in-14-clause-answers g c =
    let held = ap (λ m. m.held) (sym c.self.view_is) ∙ c.in_default.is in
    let opcode = c.in-14.is in
    let address = c.args.word % 4096 in
    claim_alone {E = OutOfMemory} (Ok c.jump.result) c.args.word c.args.self.now c.jump.new.self (Jmpl address)
    c.requires held (jmpl {address = address} (omega arith) (omega arith))
    (jumped c.args.self.now c.jump.new.self c.jump.result address c.requires c.jump.ensures.moved c.jump.ensures.goes_on)

pub returns-in_default-2-clause-answers : goal.returns-in_default-2-clause-answers
returns-in_default-2-clause-answers g c =
    let held = ap (λ m. m.held) (sym c.self.view_is) ∙ c.in_default.is in
    claim_alone c.draw-in_default-2.result c.args.word c.args.self.now c.draw-in_default-2.new.self c.of_one.result
    c.requires held c.of_one.ensures c.draw-in_default-2.ensures.obeyed

pub returns-then-first-lt40960-clause-goes_on : goal.returns-then-first-lt40960-clause-goes_on
returns-then-first-lt40960-clause-goes_on g c =
    goes_result c.draw.result c.args.self.now c.draw.new.self c.of_two.result c.draw.ensures.obeyed

pub returns-in_default-2-clause-goes_on : goal.returns-in_default-2-clause-goes_on
returns-in_default-2-clause-goes_on g c =
    goes_result c.draw-in_default-2.result c.args.self.now c.draw-in_default-2.new.self c.of_one.result
    c.draw-in_default-2.ensures.obeyed

pub returns-then-first-lt40960-clause-picture : goal.returns-then-first-lt40960-clause-picture
returns-then-first-lt40960-clause-picture g c =
    picture_result c.draw.result c.args.self.now c.draw.new.self c.of_two.result c.draw.ensures.obeyed

pub returns-in_default-2-clause-picture : goal.returns-in_default-2-clause-picture
returns-in_default-2-clause-picture g c =
    picture_result c.draw-in_default-2.result c.args.self.now c.draw-in_default-2.new.self c.of_one.result
    c.draw-in_default-2.ensures.obeyed

pub returns-then-first-lt40960-clause-strokes : goal.returns-then-first-lt40960-clause-strokes
returns-then-first-lt40960-clause-strokes g c =
    none_left_result c.draw.result c.args.self.now c.draw.new.self c.of_two.result c.draw.ensures.obeyed

pub returns-in_default-2-clause-strokes : goal.returns-in_default-2-clause-strokes
returns-in_default-2-clause-strokes g c =
    none_left_result c.draw-in_default-2.result c.args.self.now c.draw-in_default-2.new.self c.of_one.result
    c.draw-in_default-2.ensures.obeyed
