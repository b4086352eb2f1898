-- What the check answers of drafts that begin with no LABS, and of long ones.
use Rattle.std.proofs.Common.{◌≡◌, ℕ, ◌<◌, List, [], ◌∷◌, refl, arith}
use Rattle.std.specs.Prelude.{Result, Ok, Err}
use Rattle.dvg_frame.specs.declared.op.OpKind.{OpKind}
use Rattle.dvg_frame.specs.declared.op.OpKind.TheVariants.{Halt}
use Rattle.dvg_frame.specs.declared.fault.FrameFault.{FrameFault}
use Rattle.dvg_frame.specs.declared.fault.FrameFault.TheVariants.{Empty, NoLabs, TooLong, Target, RunsOff, OutOfRom, TooDeep, NoCaller, Loops}
use Rattle.dvg_frame.specs.Faults.{FrameState, IsChecked}
use Rattle.dvg_frame.specs.Layout.{size}
use Rattle.dvg_frame.specs.Steps.{BeginsWithLabs, labs}

-- a list that begins with a LABS is not empty
not_empty : {A : Type 0} {F : List OpKind} → BeginsWithLabs F → F ≡ [] → A
not_empty labs e = absurd (cc)

-- nor does it begin with a HALT
not_halt : {A : Type 0} {F ops : List OpKind} → BeginsWithLabs F → F ≡ Halt ∷ ops → A
not_halt labs e = absurd (cc)

-- an empty draft is refused for fault 1
pub empty_refused : (R : List ℕ) (answer : Result FrameState FrameFault) → IsChecked [] R answer → answer ≡ Err Empty
empty_refused R (Ok frame) is = not_empty is.0.closed.begins.begins refl
empty_refused R (Err Empty) is = refl
empty_refused R (Err NoLabs) is = absurd (omega (arith, is.0))
empty_refused R (Err TooLong) is = not_empty is.0 refl
empty_refused R (Err (Target i)) is = not_empty is.0 refl
empty_refused R (Err (RunsOff i)) is = not_empty is.0.begins refl
empty_refused R (Err (OutOfRom place)) is = not_empty is.0.begins refl
empty_refused R (Err (TooDeep place)) is = not_empty is.0.begins refl
empty_refused R (Err (NoCaller place)) is = not_empty is.0.begins refl
empty_refused R (Err Loops) is = not_empty is.0.begins.begins refl

-- one that begins with a HALT is refused for fault 2
pub halt_refused : (R : List ℕ) (ops : List OpKind) (answer : Result FrameState FrameFault) → IsChecked (Halt ∷ ops) R answer → answer ≡ Err NoLabs
halt_refused R ops (Ok frame) is = not_halt is.0.closed.begins.begins refl
halt_refused R ops (Err Empty) is = absurd (cc)
halt_refused R ops (Err NoLabs) is = refl
halt_refused R ops (Err TooLong) is = not_halt is.0 refl
halt_refused R ops (Err (Target i)) is = not_halt is.0 refl
halt_refused R ops (Err (RunsOff i)) is = not_halt is.0.begins refl
halt_refused R ops (Err (OutOfRom place)) is = not_halt is.0.begins refl
halt_refused R ops (Err (TooDeep place)) is = not_halt is.0.begins refl
halt_refused R ops (Err (NoCaller place)) is = not_halt is.0.begins refl
halt_refused R ops (Err Loops) is = not_halt is.0.begins.begins refl

-- one of more than 511 words that begins with a LABS is refused for fault 3
pub long_refused : (F : List OpKind) (R : List ℕ) (answer : Result FrameState FrameFault) → BeginsWithLabs F → 511 < size F
    → IsChecked F R answer → answer ≡ Err TooLong
long_refused F R (Ok frame) labs long is = let fits = is.0.closed.begins.fits in absurd (omega arith)
long_refused F R (Err Empty) labs long is = not_empty labs is
long_refused F R (Err NoLabs) labs long is = absurd (is.1 labs)
long_refused F R (Err TooLong) labs long is = refl
long_refused F R (Err (Target i)) labs long is = let fits = is.1 in absurd (omega arith)
long_refused F R (Err (RunsOff i)) labs long is = let fits = is.0.fits in absurd (omega arith)
long_refused F R (Err (OutOfRom place)) labs long is = let fits = is.0.fits in absurd (omega arith)
long_refused F R (Err (TooDeep place)) labs long is = let fits = is.0.fits in absurd (omega arith)
long_refused F R (Err (NoCaller place)) labs long is = let fits = is.0.fits in absurd (omega arith)
long_refused F R (Err Loops) labs long is = let fits = is.0.begins.fits in absurd (omega arith)
