-- What a table can tell of a checked draft.
use Rattle.std.proofs.Common.{◌≡◌, ℕ, zero, suc, ◌+◌, ◌<◌, ◌≤◌, Bool, true, false, List, [], ◌∷◌, length, refl, arith}
use Rattle.std.proofs.Common.{Some, take, leb-true}
use Rattle.std.specs.Prelude.{All, nat_le, slice_get}
use Rattle.std.proofs.lemmas.Bool.{leb-false}
use Rattle.std.proofs.lemmas.List.Elements.{All-head, All-tail}
use Rattle.dvg_mem.specs.declared.half.Half.TheVariants.{H0}
use Rattle.dvg_frame.specs.declared.op.OpKind.{OpKind}
use Rattle.dvg_frame.specs.declared.op.OpKind.TheVariants.{Draw, CallRom, JumpRom, Call, Jump, Return, Halt}
use Rattle.dvg_frame.specs.declared.place.Place.TheVariants.{InFrame}
use Rattle.dvg_frame.specs.Layout.{at, op_words, size}
use Rattle.dvg_frame.specs.Ops.{IsOp}
use Rattle.dvg_frame.specs.Steps.{Names, op_act, misses, IsWellFormed}
use Rattle.dvg_frame.proofs.Sizes.{size-take_le, size-take_more, some_words}
use Rattle.dvg_calls_6502.specs.Tables.{IsExpressible, AreExpressible, NamesRom, CheckedExpressible}

op_at : (F : List OpKind) (j : ℕ) → j < length F → (op : OpKind) × (slice_get F j ≡ Some op)
op_at [] j h = absurd (omega (arith, h))
op_at (op ∷ F) zero h = (op, refl)
op_at (op ∷ F) (suc j) h = op_at F j (omega (arith, h))

-- an operation of the draft stands in its first 511 words
low_place : (F : List OpKind) (j : ℕ) → j < length F → size F ≤ 511 → at H0 F j ≤ 0x1FF
low_place F j within fits =
    let here = op_at F j within in
    let more = size-take_more F j here.0 here.0 (size (take j F)) (op_words here.0) refl here.1 refl refl in
    let all = size-take_le F (j + 1) in
    let some = some_words here.0 in
    omega (arith, more, all, some, fits)

module _ (F : List OpKind) (begins : IsWellFormed F) where
  -- what an operation names of the frame is one of its operations
  in_frame : (i j : ℕ) (op : OpKind) → slice_get F i ≡ Some op → Names (op_act op) (InFrame j) → j < length F
  in_frame i j op is names = by (nat_le (length F) j) refl
    where
      by : (t : Bool) → nat_le (length F) j ≡ t → j < length F
      by true is' = absurd (begins.targets i (misses is names (leb-true (length F) j is')))
      by false is' = let less = leb-false (length F) j is' in omega (arith, less)

  fits : (i : ℕ) (op : OpKind) → slice_get F i ≡ Some op → NamesRom op → IsExpressible F op
  fits i (CallRom a) is rom = rom
  fits i (JumpRom a) is rom = rom
  fits i (Call j) is rom = low_place F j (in_frame i j (Call j) is refl) begins.fits
  fits i (Jump j) is rom = low_place F j (in_frame i j (Jump j) is refl) begins.fits
  fits i _ is rom = tt

  all_fit : (ops : List OpKind)
      → ((i : ℕ) (op : OpKind) → slice_get ops i ≡ Some op → (k : ℕ) × (slice_get F k ≡ Some op))
      → All IsOp ops → All NamesRom ops → AreExpressible F ops
  all_fit [] stands ops rom = tt
  all_fit (op ∷ rest) stands ops rom =
      let here = stands 0 op refl in (
        All-head IsOp op rest ops,
        fits here.0 op here.1 (All-head NamesRom op rest rom),
        all_fit rest (λ i other is. stands (suc i) other is) (All-tail IsOp op rest ops)
            (All-tail NamesRom op rest rom),
      )

pub checked_expressible : CheckedExpressible
checked_expressible F R draft accepts rom = all_fit F accepts.closed.begins F (λ i op is. (i, is)) draft.ops rom
