-- The cutting of a draft's laid words.
use Rattle.std.proofs.Common.{◌≡◌, ◌∙◌, ◌+◌, ◌≤◌, ℕ, zero, suc, List, [], ◌∷◌, Some, ap, arith, length, refl, subst, take}
use Rattle.std.specs.Prelude.{slice_get}
use Rattle.std.specs.List.{AllByRecursion}
use Rattle.std.proofs.lemmas.List.Elements.{recursion_from_All}
use Rattle.std.proofs.lemmas.Option.{slice_get_within}
use Rattle.dvg_code.specs.Cutting.{Cuts, Cutting, Placed, ends, goes}
use Rattle.dvg_code.specs.Ranges.{InRange}
use Rattle.dvg_code.specs.Spelling.{canon}
use Rattle.dvg_code.proofs.Cuttings.{same_cutting}
use Rattle.dvg_code.proofs.FieldsSpell.{canon_spells}
use Rattle.dvg_mem.specs.declared.half.Half.{Half}
use Rattle.dvg_frame.specs.declared.op.OpKind.{OpKind}
use Rattle.dvg_frame.specs.declared.op.OpKind.TheVariants.{Draw, CallRom, JumpRom, Call, Jump, Return, Halt as Stop}
use Rattle.dvg_frame.specs.Cursors.{laid_ops}
use Rattle.dvg_frame.specs.Layout.{at, laid, op_code, op_words, size}
use Rattle.dvg_frame.specs.Ops.{IsDraft, IsOp}
use Rattle.dvg_frame.proofs.Counts.{size_bound}
use Rattle.dvg_frame.proofs.Sizes.{base_low, canon_length, size-take_le}
use Rattle.dvg_lay.specs.Laws.{IsOfDraft, op_at}

-- the word address of an operation has 12 bits
address_fits : (half : Half) (F : List OpKind) (i : ℕ) → length F ≤ 511 → at half F i ≤ 4095
address_fits half F i few =
    let first = base_low half in
    let front = size-take_le F i in
    let all = size_bound F in
    omega arith

-- each operation of a draft is an instruction in range
in_range : (half : Half) (F : List OpKind) (op : OpKind) → length F ≤ 511 → IsOp op → InRange (op_code half F op)
in_range half F (Draw instr) few is = is.0
in_range half F (CallRom a) few is = is
in_range half F (JumpRom a) few is = is
in_range half F (Call j) few is = address_fits half F j few
in_range half F (Jump j) few is = address_fits half F j few
in_range half F Return few is = tt
in_range half F Stop few is = tt

-- operations as instructions, of which the first stands at a place
abbrev placed_from : Half → (F ops : List OpKind) → ℕ → List Placed
placed_from half F [] place = []
placed_from half F (op ∷ ops) place = op_at half F place op ∷ placed_from half F ops (place + length (canon (op_code half F op)))

-- their words are cut into them
cuts_from : (half : Half) (F ops : List OpKind) (place : ℕ) → length F ≤ 511 → AllByRecursion IsOp ops
    → Cuts place (laid_ops half F ops) (placed_from half F ops place) (place + size ops) []
cuts_from half F [] place few valid =
    let same : place ≡ place + 0 = omega arith in
    subst (λ end. Cuts place [] [] end []) same (ends tt)
cuts_from half F (op ∷ ops) place few valid =
    let front = canon (op_code half F op) in
    let count = canon_length half F op in
    let same : place + length front + size ops ≡ place + (op_words op + size ops) = omega (arith, count) in
    let more = cuts_from half F ops (place + length front) few valid.1 in
    subst (λ end. Cuts place (laid_ops half F (op ∷ ops)) (placed_from half F (op ∷ ops) place) end []) same
    (goes (canon_spells (op_code half F op) (in_range half F op few valid.0)) refl more)

-- they are as many as the operations
placed-length : (half : Half) (F ops : List OpKind) (place : ℕ) → length (placed_from half F ops place) ≡ length ops
placed-length half F [] place = refl
placed-length half F (op ∷ ops) place = ap suc (placed-length half F ops (place + length (canon (op_code half F op))))

-- and each stands after the words of those before it
placed_item : (half : Half) (F ops : List OpKind) (place i : ℕ) (op : OpKind) → slice_get ops i ≡ Some op
    → slice_get (placed_from half F ops place) i ≡ Some (op_at half F (place + size (take i ops)) op)
placed_item half F [] place i op is = let within = slice_get_within [] i op is in absurd (omega arith)
placed_item half F (x ∷ ops) place zero op is =
    let same : x ≡ op = cc in
    let here : place ≡ place + 0 = omega arith in
    ap (λ y. Some (op_at half F place y)) same ∙ ap (λ n. Some (op_at half F n op)) here
placed_item half F (x ∷ ops) place (suc i) op is =
    let count = canon_length half F x in
    let here : place + length (canon (op_code half F x)) + size (take i ops) ≡ place + (op_words x + size (take i ops)) = omega (arith, count) in
    placed_item half F ops (place + length (canon (op_code half F x))) i op is ∙ ap (λ n. Some (op_at half F n op)) here

-- the cutting of the words of a draft
abbrev draft_cutting : (half : Half) (F : List OpKind) → IsDraft F → Cutting (laid half F)
draft_cutting half F draft = record {
  items = placed_from half F F 0;
  end = 0 + size F;
  rest = [];
  cuts = cuts_from half F F 0 draft.count (recursion_from_All IsOp F draft.ops);
}

-- each cutting of them is that one
of_draft : (half : Half) (F : List OpKind) → IsDraft F → (cutting : Cutting (laid half F)) → IsOfDraft half F cutting
of_draft half F draft cutting =
    let same = same_cutting (laid half F) (draft_cutting half F draft) cutting in
    let all : 0 + size F ≡ size F = omega arith in
    record {
      count = ap length same.0 ∙ placed-length half F F 0;
      each = λ i op is.
          let here : 0 + size (take i F) ≡ size (take i F) = omega arith in
          ap (λ items. slice_get items i) same.0 ∙ placed_item half F F 0 i op is ∙ ap (λ n. Some (op_at half F n op)) here;
      ends = same.1 ∙ all;
      whole = same.2;
    }

pub lists_as_draft : (half : Half) (F : List OpKind) → IsDraft F → Cutting (laid half F) × ((cutting : Cutting (laid half F)) → IsOfDraft half F cutting)
lists_as_draft half F draft = (draft_cutting half F draft, of_draft half F draft)
