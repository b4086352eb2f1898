-- A text has one fault at most.
use Rattle.std.proofs.Common.{◌≡◌, ◌⊎◌, ◌<◌, ◌≤◌, ◌∙◌, ℕ, List, length, ap, arith, inl, inr, refl, sym}
use Rattle.std.proofs.lemmas.Bool.{cases_lt}
use Rattle.dvg_read.specs.declared.fault.TextFault.{TextFault}
use Rattle.dvg_read.specs.declared.fault.TextFault.TheVariants.{Full, NameGivenAgain, OutOfRom, Overlap}
use Rattle.dvg_read.specs.declared.fault.TextFault.TheVariants.{Syntax, TooLong, UnknownName}
use Rattle.dvg_named.specs.SketchFaults.{HasSketchFault, WantsUngiven}
use Rattle.dvg_named.proofs.LineFaults.{Kind, StandsAt, break_stands, full, never_stands, nothing, nothing_stands, one_stand, outside, overlap, twice}
use Rattle.dvg_read.specs.declared.draft_text.TheConstants.{MOST_TEXT_BYTES}

-- a fault of this kind in line n
abbrev named : Kind → ℕ → TextFault
named nothing n = Syntax n
named twice n = NameGivenAgain n
named full n = Full n
named outside n = OutOfRom n
named overlap n = Overlap n

-- the fault of a text: its length, that of a line, or a name that isn't given
pub data Fault (text : List ℕ) (fault : TextFault) : Type 0 where
  long : fault ≡ TooLong → MOST_TEXT_BYTES < length text → Fault text fault
  stands : (n : ℕ) (kind : Kind) → fault ≡ named kind n → StandsAt text n kind → Fault text fault
  unknown : (n : ℕ) → fault ≡ UnknownName n → WantsUngiven text n → ((earlier : ℕ) → earlier < n → ¬ WantsUngiven text earlier)
      → Fault text fault

pub fault_is : (text : List ℕ) (fault : TextFault) → HasSketchFault text fault → Fault text fault
fault_is text TooLong h = long refl h
fault_is text (Syntax n) h = stands n nothing refl (nothing_stands h)
fault_is text (NameGivenAgain n) h = stands n twice refl (break_stands twice h)
fault_is text (Full n) h = stands n full refl (break_stands full h)
fault_is text (OutOfRom n) h = stands n outside refl (break_stands outside h)
fault_is text (Overlap n) h = stands n overlap refl (break_stands overlap h)
fault_is text (UnknownName n) h = unknown n refl h.0 h.1
fault_is text _ h = absurd h

same_named : (kind other : Kind) (n m : ℕ) → m ≡ n → other ≡ kind → named other m ≡ named kind n
same_named kind other n m e f = rw (e, f)

-- a line that stands is of a short text
stands_short : {text : List ℕ} {n : ℕ} {kind : Kind} → StandsAt text n kind → MOST_TEXT_BYTES < length text → ⊥
stands_short h over = let short = h.reaches.short in omega (arith, short, over)

wants_short : {text : List ℕ} {n : ℕ} → WantsUngiven text n → MOST_TEXT_BYTES < length text → ⊥
wants_short h over = let short = h.short in omega (arith, short, over)

-- no line at fault stands where a name isn't given
not_both : {text : List ℕ} {m n : ℕ} {kind : Kind} → StandsAt text m kind → WantsUngiven text n → ⊥
not_both h wants = never_stands h wants.fine

by_order : {text : List ℕ} (m n : ℕ) → WantsUngiven text m → WantsUngiven text n
    → ((earlier : ℕ) → earlier < m → ¬ WantsUngiven text earlier)
    → ((earlier : ℕ) → earlier < n → ¬ WantsUngiven text earlier) → (m < n) ⊎ (n ≤ m) → (n < m) ⊎ (m ≤ n) → n ≡ m
by_order m n a b first least (inl low) other = absurd (least m low a)
by_order m n a b first least (inr high) (inl low) = absurd (first n low b)
by_order m n a b first least (inr high) (inr low) = omega (arith, high, low)

one_of : (text : List ℕ) (fault other : TextFault) → Fault text fault → Fault text other → other ≡ fault
one_of text fault other (long e over) (long f also) = f ∙ sym e
one_of text fault other (long e over) (stands n kind f h) = absurd (stands_short h over)
one_of text fault other (long e over) (unknown n f h least) = absurd (wants_short h over)
one_of text fault other (stands m kind e h) (long f over) = absurd (stands_short h over)
one_of text fault other (stands m kind e h) (stands n also f k) =
    let (number, same) = one_stand h k in
    f ∙ same_named kind also m n number same ∙ sym e
one_of text fault other (stands m kind e h) (unknown n f wants least) = absurd (not_both h wants)
one_of text fault other (unknown m e wants first) (long f over) = absurd (wants_short wants over)
one_of text fault other (unknown m e wants first) (stands n kind f h) = absurd (not_both h wants)
one_of text fault other (unknown m e wants first) (unknown n f also least) =
    f ∙ ap UnknownName (by_order m n wants also first least (cases_lt m n) (cases_lt n m)) ∙ sym e

pub one_fault : (text : List ℕ) (fault other : TextFault) → HasSketchFault text fault → HasSketchFault text other
    → other ≡ fault
one_fault text fault other h k = one_of text fault other (fault_is text fault h) (fault_is text other k)
