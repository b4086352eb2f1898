use Rattle.std.proofs.Common.{◌≡◌, ◌*◌, ◌+◌, None, Some, ap, sym, ◌∙◌, arith}
use Rattle.std.specs.Prelude.{Ok}
use Rattle.dvg_code.specs.declared.memory.OutOfMemory.{OutOfMemory}
use Rattle.dvg_gen.specs.Bytes.{met, Whole}
use Rattle.dvg_gen.specs.Machine.{answer_by}
use Rattle.dvg_gen.proofs.GeneratorAfterHistory.{claim_met, claim_hole, met_hole}
use Rattle.dvg_gen.proofs.generator.Generator.feed.Goals as goal

pub returns-in_default-clause-answers : goal.returns-in_default-clause-answers
returns-in_default-clause-answers g c =
    let now = c.args.self.now in
    let new = c.break_off.new.self in
    let broke = ap (λ step. answer_by step new.picture) c.break_off.ensures.fault in
    claim_met {E = OutOfMemory} (Ok c.break_off.result) c.args.byte (Whole None) now new
    (ap (met now.low) c.in_default.is ∙ met_hole now.low)
    (claim_hole now new (answer_by c.break_off.result new.picture) c.requires broke c.break_off.ensures.shut)

pub returns-clause-answers : goal.returns-clause-answers
returns-clause-answers g c =
    let now = c.args.self.now in
    let low = sym c.low_byte.ensures ∙ c.in-Some-low_byte.is in
    let word = c.from_le_bytes.ensures in
    let sum : c.in-Some-low_byte.low + 256 * c.in-Some.byte ≡ c.from_le_bytes.result = omega arith in
    claim_met c.take.result c.args.byte (Whole (Some c.from_le_bytes.result)) now c.take.new.self
    (ap (λ l. met l c.args.byte) low ∙ ap (met (Some c.in-Some-low_byte.low)) c.in-Some.is ∙ ap (λ w. Whole (Some w)) sum) c.take.ensures.answers
