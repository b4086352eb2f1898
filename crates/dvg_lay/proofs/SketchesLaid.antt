-- From the sketch that was read to what is laid out of the input.
use Rattle.std.proofs.Common.{◌≡◌, ◌<◌, ◌≤◌, ◌+◌, ⊎_elim, ℕ, List, arith, length, subst, take}
use Rattle.std.proofs.Common.{Result, Ok, Err, IfOk, IfErr}
use Rattle.dvg_read.specs.declared.fault.TextFault.{TextFault}
use Rattle.dvg_read.specs.declared.fault.TextFault.TheVariants.{TooLong, Syntax, Full, NameGivenAgain, OutOfRom, Overlap, UnknownName}
use Rattle.dvg_read.specs.declared.fault.Unread.{Unread}
use Rattle.dvg_read.specs.declared.fault.Unread.TheVariants.{Text, Memory}
use Rattle.dvg_named.specs.SketchFaults.{HasSketchFault}
use Rattle.dvg_named.specs.TextReading.{StopsText}
use Rattle.dvg_io.proofs.Inputs.{whole_or_long}
use Rattle.dvg_io.specs.Serving.{IsFinding}
use Rattle.dvg_read.specs.declared.draft_text.TheConstants.{MOST_TEXT_BYTES}

-- ---- the fault of what was read is that of the input

long_fault : (fault : TextFault) (read input : List ℕ) → MOST_TEXT_BYTES < length read → MOST_TEXT_BYTES < length input → HasSketchFault read fault
    → HasSketchFault input fault
long_fault TooLong read input long over has = over
long_fault (Syntax n) read input long over has = let short = has.reaches.short in absurd (omega (arith, short, long))
long_fault (NameGivenAgain n) read input long over has = let short = has.reaches.short in absurd (omega (arith, short, long))
long_fault (Full n) read input long over has = let short = has.reaches.short in absurd (omega (arith, short, long))
long_fault (OutOfRom n) read input long over has = let short = has.reaches.short in absurd (omega (arith, short, long))
long_fault (Overlap n) read input long over has = let short = has.reaches.short in absurd (omega (arith, short, long))
long_fault (UnknownName n) read input long over has = let short = has.0.short in absurd (omega (arith, short, long))
long_fault _ read input long over has = absurd has

faulted : (fault : TextFault) (read input : List ℕ) → read ≡ take (MOST_TEXT_BYTES + 1) input → HasSketchFault read fault
    → HasSketchFault input fault
faulted fault read input e has = ⊎_elim
    (λ whole. subst (λ text. HasSketchFault text fault) whole has)
    (λ long. long_fault fault read input long.0 long.1 has)
    (whole_or_long MOST_TEXT_BYTES read input e)

-- so is why no sketch was read
pub unread : {F : Type 0} (Finds : F → Type 0) (stop : Unread) (read input : List ℕ) → read ≡ take (MOST_TEXT_BYTES + 1) input
    → StopsText stop read → IsFinding Finds (HasSketchFault input) (Err stop)
unread Finds (Text fault) read input e stops = faulted fault read input e stops
unread Finds Memory read input e stops = tt

-- so an answer of what was read is one of the input, where it comes of short texts alone
pub found : {F : Type 0} (Sketch : List ℕ → Type 0) (Out : List ℕ → F → Type 0)
    → ((text : List ℕ) (out : F) → Out text out → length text ≤ MOST_TEXT_BYTES) → (answer : Result F Unread) (read input : List ℕ)
    → read ≡ take (MOST_TEXT_BYTES + 1) input → IfOk answer (λ out. (text : List ℕ) → Sketch text → Out text out)
    → IfErr answer (λ stop. stop ≡ Memory) → Sketch read → IsFinding (Out input) (HasSketchFault input) answer
found Sketch Out short (Ok out) read input e ok err is = ⊎_elim
    (λ whole. subst (λ text. Out text out) whole (ok read is))
    (λ long. let low = short read out (ok read is) in let over = long.0 in absurd (omega (arith, low, over)))
    (whole_or_long MOST_TEXT_BYTES read input e)
found Sketch Out short (Err Memory) read input e ok err is = tt
found Sketch Out short (Err (Text fault)) read input e ok err is = absurd cc
