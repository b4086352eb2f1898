use Rattle.std.proofs.Common.{◌≡◌, ◌∙◌, [], ◌∷◌, ◌++◌, ap, length, length-append, sym, arith, rules}
use Rattle.dvg_read.specs.RomTexts.{RomText}
use Rattle.dvg_read.specs.RomReading.{HoldsRom, TellsRom}
use Rattle.dvg_read.specs.TextLines.{lines_left}
use Rattle.dvg_read.specs.Texts.{lines}
use Rattle.dvg_read.proofs.Heads.{op_unpassed}
use Rattle.dvg_read.proofs.ReadTo.{begins, bounded, gives_all, meets_full, meets_syntax, passes, refused, taken, takes, tells_of_rom}
use Rattle.dvg_read.proofs.draft_text.read_draft.Goals as goal
use Rattle.dvg_read.proofs.draft_text.read_draft.Goals.{else-is_empty-via-else-is_empty, else-is_empty-via-then-is_empty+else-take}

pub loop-op-init : goal.loop-op-init
loop-op-init c =
    let start = c.new-lines.result in
    let all : lines_left start ≡ lines c.args.text.now = c.new-lines.ensures in
    record { short = search rules; count = search rules; read = begins c.args.text.now (lines_left start) c.new-draft.result c.new-rom.result all (search rules) c.new-rom.ensures }

pub overflow_add-number : goal.overflow_add-number
overflow_add-number c = let few = bounded c.args.text.now _ c.loop-op.number c.loop-op.draft c.loop-op.rom c.loop-op.invariant.read c.loop-op.invariant.short in omega (arith, few)

-- an operation at the head of the lines

pub returns-then-is_err-clause-fault : goal.returns-then-is_err-clause-fault
returns-then-is_err-clause-fault c =
    let head = c.in-Some.ensures.taken in
    let full = refused c.push.result (length c.loop-op.draft) (sym c.is_err.ensures.value ∙ c.if-is_err.true) c.push.ensures.room.1 in
    meets_full c.args.text.now _ _ c.loop-op.number c.loop-op.draft c.loop-op.rom head.line head.cut c.loop-op.invariant.read c.loop-op.invariant.short c.loop-op.invariant.count (op_unpassed c.in-Some.op head.line head.spelled) c.in-Some.op full head.spelled

pub loop-op-preserved-in-Some : goal.loop-op-preserved-in-Some
loop-op-preserved-in-Some c =
    let head = c.in-Some.ensures.taken in
    let is_ok = sym c.is_err.ensures.value ∙ c.if-is_err.false in
    let pushed = taken c.push.result (c.push.new.self ≡ c.loop-op.draft ++ c.in-Some.op ∷ []) (length c.loop-op.draft) (length c.push.new.self) is_ok c.push.ensures.pushed c.push.ensures.room.0
    (λ e. ap length e ∙ length-append c.loop-op.draft (c.in-Some.op ∷ [])) in
    let read = takes c.args.text.now _ _ c.loop-op.number c.loop-op.draft c.loop-op.rom head.line head.cut c.loop-op.invariant.read c.in-Some.op (op_unpassed c.in-Some.op head.line head.spelled) head.spelled in
    record { short = c.loop-op.invariant.short; count = pushed.1; read = rw pushed.0 read }

-- any other line

pub loop-op-preserved-then-is_passed : goal.loop-op-preserved-then-is_passed
loop-op-preserved-then-is_passed c =
    let next : lines_left c.loop-op.lines ≡ c.in-Some-next.line.now ∷ lines_left c.next.new.self = sym c.in_default.ensures.kept ∙ c.in-Some-next.ensures.steps in
    record {
      short = c.loop-op.invariant.short;
      count = c.loop-op.invariant.count;
      read = passes c.args.text.now _ _ c.loop-op.number c.loop-op.draft c.loop-op.rom c.in-Some-next.line.now next c.loop-op.invariant.read (search rules);
    }

pub loop-op-preserved-then-take : goal.loop-op-preserved-then-take
loop-op-preserved-then-take c =
    let next : lines_left c.loop-op.lines ≡ c.in-Some-next.line.now ∷ lines_left c.next.new.self = sym c.in_default.ensures.kept ∙ c.in-Some-next.ensures.steps in
    record {
      short = c.loop-op.invariant.short;
      count = c.loop-op.invariant.count;
      read = tells_of_rom c.args.text.now _ _ c.loop-op.number c.loop-op.draft c.loop-op.rom c.in-Some-next.line.now next c.loop-op.invariant.read c.take.new.self (search rules) (search rules) (c.take.ensures.took (search rules));
    }

pub returns-in_default-read_op-clause-fault : goal.returns-in_default-read_op-clause-fault
returns-in_default-read_op-clause-fault c =
    let next : lines_left c.loop-op.lines ≡ c.in-Some-next.line.now ∷ lines_left c.next.new.self = sym c.in_default.ensures.kept ∙ c.in-Some-next.ensures.steps in
    let no_rom : c.loop-op.draft ≡ [] → (rom now : RomText) → HoldsRom rom c.loop-op.rom → TellsRom rom c.in-Some-next.line.now now → ⊥ =
    elim c.else-is_empty.branch [
      | else-is_empty-via-else-is_empty w ↦ λ none rom now holds tells. let some = c.is_empty.ensures.1 none in let is = w.if-is_empty.false in absurd cc
      | else-is_empty-via-then-is_empty+else-take w ↦ λ none rom now holds. w.take.ensures.refused (search rules) rom now holds
    ] in
    meets_syntax c.args.text.now _ _ c.loop-op.number c.loop-op.draft c.loop-op.rom c.in-Some-next.line.now next c.loop-op.invariant.read c.loop-op.invariant.short c.loop-op.invariant.count (search rules) no_rom
    (λ op h. let answered = c.in_default-read_op.ensures.only op h in absurd cc)

pub returns-then-is_err-2-clause-fault : goal.returns-then-is_err-2-clause-fault
returns-then-is_err-2-clause-fault c =
    let next : lines_left c.loop-op.lines ≡ c.in-Some-next.line.now ∷ lines_left c.next.new.self = sym c.in_default.ensures.kept ∙ c.in-Some-next.ensures.steps in
    let full = refused c.push-in-loop-op.result (length c.loop-op.draft) (sym c.is_err-in-loop-op.ensures.value ∙ c.if-is_err-2.true) c.push-in-loop-op.ensures.room.1 in
    meets_full c.args.text.now _ _ c.loop-op.number c.loop-op.draft c.loop-op.rom c.in-Some-next.line.now next c.loop-op.invariant.read c.loop-op.invariant.short c.loop-op.invariant.count (search rules) c.in-Some-read_op.op full c.in-Some-read_op.ensures.found

pub loop-op-preserved : goal.loop-op-preserved
loop-op-preserved c =
    let next : lines_left c.loop-op.lines ≡ c.in-Some-next.line.now ∷ lines_left c.next.new.self = sym c.in_default.ensures.kept ∙ c.in-Some-next.ensures.steps in
    let kept : c.else-is_empty.rom ≡ c.loop-op.rom = elim c.else-is_empty.branch [
      | else-is_empty-via-else-is_empty w ↦ w.rom-is
      | else-is_empty-via-then-is_empty+else-take w ↦ w.rom-is ∙ w.take.ensures.kept (search rules)
    ] in
    let is_ok = sym c.is_err-in-loop-op.ensures.value ∙ c.if-is_err-2.false in
    let pushed = taken c.push-in-loop-op.result (c.push-in-loop-op.new.self ≡ c.loop-op.draft ++ c.in-Some-read_op.op ∷ []) (length c.loop-op.draft) (length c.push-in-loop-op.new.self) is_ok c.push-in-loop-op.ensures.pushed c.push-in-loop-op.ensures.room.0
    (λ e. ap length e ∙ length-append c.loop-op.draft (c.in-Some-read_op.op ∷ [])) in
    let read = takes c.args.text.now _ _ c.loop-op.number c.loop-op.draft c.loop-op.rom c.in-Some-next.line.now next c.loop-op.invariant.read c.in-Some-read_op.op (search rules) c.in-Some-read_op.ensures.found in
    record { short = c.loop-op.invariant.short; count = pushed.1; read = rw (kept, pushed.0) read }

-- the end

pub returns-clause-gives : goal.returns-clause-gives
returns-clause-gives c =
    let none : lines_left c.loop-op.lines ≡ [] = sym c.in_default.ensures.kept ∙ c.in_default-next.ensures.steps.0 in
    gives_all c.args.text.now _ c.loop-op.number c.loop-op.draft c.loop-op.rom _ none c.loop-op.invariant.read c.loop-op.invariant.short c.loop-op.invariant.count (ap (λ bytes. bytes.items) c.into_bytes.ensures)
