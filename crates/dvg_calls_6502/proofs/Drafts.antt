-- Drafts that a program builds, operation by operation.
use Rattle.std.proofs.Common.{◌≡◌, ℕ, zero, suc, ◌+◌, ◌*◌, ◌≤◌, List, [], ◌∷◌, ◌++◌, length, refl, sym, ap, ◌∙◌}
use Rattle.std.proofs.Common.{arith, length-append}
use Rattle.std.proofs.lemmas.List.{append-nil}
use Rattle.std.proofs.lemmas.List.Elements.{All-cons, All-nil}
use Rattle.std.specs.Prelude.{All, flat_map}
use Rattle.dvg_code.specs.declared.instr.Instr.TheVariants.{Vctr, Labs, Svec, Halt as Stops, Jsrl, Rtsl, Jmpl}
use Rattle.dvg_code.specs.Spelling.{canon}
use Rattle.dvg_mem.specs.declared.half.Half.{Half}
use Rattle.dvg_mem.specs.declared.half.Half.TheVariants.{H0, H1}
use Rattle.dvg_frame.specs.declared.op.OpKind.{OpKind}
use Rattle.dvg_frame.specs.declared.op.OpKind.TheVariants.{Draw, CallRom, JumpRom, Call, Jump, Return, Halt as Stop}
use Rattle.dvg_frame.specs.Ops.{IsOp, IsDraft}
use Rattle.dvg_frame.specs.Bytes.{bytes}
use Rattle.dvg_frame.specs.Layout.{op_code, laid}
use Rattle.dvg_frame.proofs.Bytes.{bytes-length, bytes-append}
use Rattle.dvg_frame.proofs.Sizes.{laid_length}
use Rattle.dvg_calls_6502.specs.Tables.{table_of}
use Rattle.dvg_calls_6502.specs.Calls.{IsBuildable}
use Rattle.dvg_calls_6502.specs.Build.{IsPut, IsBuilt}
use Rattle.dvg_calls_6502.specs.Programs.{IsLabs}

-- what a program puts, and then the HALT
abbrev pub IsEnding : List ℕ → List OpKind → Type 0
IsEnding R [] = ⊥
IsEnding R (Stop ∷ []) = Unit {0}
IsEnding R (op ∷ ops) = IsPut R op × IsEnding R ops

abbrev pub HasLabs : List OpKind → Type 0
HasLabs [] = ⊥
HasLabs (op ∷ ops) = IsLabs op

-- the words of operations that name nothing of the frame
abbrev words_of : List OpKind → List ℕ
words_of ops = flat_map (λ op. canon (op_code H0 [] op)) ops

alike : (R : List ℕ) (half : Half) (G ops : List OpKind) → IsEnding R ops
    → flat_map (λ op. canon (op_code half G op)) ops ≡ words_of ops
alike R half G [] ends = refl
alike R half G (Draw instr ∷ ops) ends = ap (λ l. canon instr ++ l) (alike R half G ops ends.1)
alike R half G (CallRom a ∷ ops) ends = ap (λ l. canon (Jsrl a) ++ l) (alike R half G ops ends.1)
alike R half G (Stop ∷ []) ends = refl
alike R half G _ ends = absurd ends.0

table_is : (R : List ℕ) (ops : List OpKind) → IsEnding R ops → table_of ops ≡ bytes (words_of ops)
table_is R ops ends = ap bytes (alike R H0 ops ops ends)

one_table : (R : List ℕ) (op : OpKind) → IsPut R op → table_of (op ∷ []) ≡ bytes (canon (op_code H0 [] op))
one_table R (Draw instr) put = ap bytes (append-nil (canon instr))
one_table R (CallRom a) put = ap bytes (append-nil (canon (Jsrl a)))
one_table R _ put = absurd put

ending_of : (R : List ℕ) (op : OpKind) (ops : List OpKind) → IsPut R op → IsEnding R ops → IsEnding R (op ∷ ops)
ending_of R (Draw instr) ops put ends = (put, ends)
ending_of R (CallRom a) ops put ends = (put, ends)
ending_of R _ ops put ends = absurd put

-- the bytes of an operation, and of what comes after it
pub table_on : (R : List ℕ) (op : OpKind) (ops : List OpKind) → IsPut R op → IsEnding R ops
    → table_of (op ∷ ops) ≡ table_of (op ∷ []) ++ table_of ops
table_on R op ops put ends =
    table_is R (op ∷ ops) (ending_of R op ops put ends)
    ∙ bytes-append (canon (op_code H0 [] op)) (words_of ops)
    ∙ ap (λ l. l ++ bytes (words_of ops)) (sym (one_table R op put))
    ∙ ap (λ l. table_of (op ∷ []) ++ l) (sym (table_is R ops ends))

-- an operation more has more bytes
more : (R : List ℕ) (op : OpKind) (ops : List OpKind) → IsPut R op → IsEnding R ops → 2 ≤ length (table_of ops)
    → 2 ≤ length (table_of (op ∷ ops))
more R op ops put ends some =
    let is = ap length (table_on R op ops put ends) in
    let both = length-append (table_of (op ∷ [])) (table_of ops) in omega (arith, is, both, some)

pub ends_some : (R : List ℕ) (ops : List OpKind) → IsEnding R ops → 2 ≤ length (table_of ops)
ends_some R [] ends = absurd ends
ends_some R (Draw instr ∷ ops) ends = more R (Draw instr) ops ends.0 ends.1 (ends_some R ops ends.1)
ends_some R (CallRom a ∷ ops) ends = more R (CallRom a) ops ends.0 ends.1 (ends_some R ops ends.1)
ends_some R (Stop ∷ []) ends = omega arith
ends_some R _ ends = absurd ends.0

pub buildable : (R : List ℕ) (ops : List OpKind) → IsEnding R ops → length (table_of ops) ≤ 1022 → IsBuildable ops
buildable R ops ends fits = record {
  alike = ap bytes (alike R H1 ops ops ends ∙ sym (alike R H0 ops ops ends));
  some = ends_some R ops ends;
  fits = fits;
}

-- what is put, without the HALT
before_halt : (R : List ℕ) (ops : List OpKind) → IsEnding R ops
    → (put : List OpKind) × (ops ≡ put ++ Stop ∷ []) × All (IsPut R) put
before_halt R [] ends = absurd ends
before_halt R (Draw instr ∷ ops) ends = let rest = before_halt R ops ends.1 in
    (Draw instr ∷ rest.0, ap (λ l. Draw instr ∷ l) rest.1, All-cons (IsPut R) (Draw instr) rest.0 ends.0 rest.2)
before_halt R (CallRom a ∷ ops) ends = let rest = before_halt R ops ends.1 in
    (CallRom a ∷ rest.0, ap (λ l. CallRom a ∷ l) rest.1, All-cons (IsPut R) (CallRom a) rest.0 ends.0 rest.2)
before_halt R (Stop ∷ []) ends = ([], refl, All-nil (IsPut R))
before_halt R _ ends = absurd ends.0

pub is_built : (R : List ℕ) (ops : List OpKind) → IsEnding R ops → HasLabs ops → length (table_of ops) ≤ 1022
    → IsBuilt R ops
is_built R [] ends labs fits = absurd ends
is_built R (Draw (Labs x y scale) ∷ ops) ends labs fits =
    let rest = before_halt R ops ends.1 in
    let words = laid_length H0 (Draw (Labs x y scale) ∷ ops) in
    let double = bytes-length (laid H0 (Draw (Labs x y scale) ∷ ops)) in
    (x, y, scale, rest.0, ap (λ l. Draw (Labs x y scale) ∷ l) rest.1, rest.2, omega (arith, words, double, fits))
is_built R _ ends labs fits = absurd labs

-- each operation has a word or more
two_bytes : (R : List ℕ) (op : OpKind) → IsPut R op → 2 ≤ length (table_of (op ∷ []))
two_bytes R (Draw (Vctr scale dx dy z)) put = omega arith
two_bytes R (Draw (Labs x y scale)) put = omega arith
two_bytes R (Draw (Svec scale dx dy z)) put = omega arith
two_bytes R (Draw Stops) put = omega arith
two_bytes R (Draw (Jsrl a)) put = omega arith
two_bytes R (Draw Rtsl) put = omega arith
two_bytes R (Draw (Jmpl a)) put = omega arith
two_bytes R (CallRom a) put = omega arith
two_bytes R _ put = absurd put

one_more : (R : List ℕ) (op : OpKind) (ops : List OpKind) → IsPut R op → IsEnding R ops
    → 2 * length ops ≤ length (table_of ops) → 2 * length (op ∷ ops) ≤ length (table_of (op ∷ ops))
one_more R op ops put ends few =
    let is = ap length (table_on R op ops put ends) in
    let both = length-append (table_of (op ∷ [])) (table_of ops) in
    let two = two_bytes R op put in omega (arith, is, both, two, few)

few_ops : (R : List ℕ) (ops : List OpKind) → IsEnding R ops → 2 * length ops ≤ length (table_of ops)
few_ops R [] ends = absurd ends
few_ops R (Draw instr ∷ ops) ends = one_more R (Draw instr) ops ends.0 ends.1 (few_ops R ops ends.1)
few_ops R (CallRom a ∷ ops) ends = one_more R (CallRom a) ops ends.0 ends.1 (few_ops R ops ends.1)
few_ops R (Stop ∷ []) ends = omega arith
few_ops R _ ends = absurd ends.0

pub is_draft : (R : List ℕ) (ops : List OpKind) → IsEnding R ops → All IsOp ops → length (table_of ops) ≤ 1022
    → IsDraft ops
is_draft R ops ends all fits = record {
  count = let few = few_ops R ops ends in omega (arith, few, fits);
  ops = all;
}

-- these operations may come after so many bytes
pub record Fits (R : List ℕ) (count : ℕ) (later : List OpKind) : Type 0 where
  pub ends : IsEnding R later
  pub ops : All IsOp later
  pub labs : count ≡ 0 → HasLabs later
  pub fits : count + length (table_of later) ≤ 1022

-- the shortest ones: the HALT, after a LABS
abbrev pub shortest : ℕ → List OpKind
shortest zero = Draw (Labs 0 0 0) ∷ Stop ∷ []
shortest (suc count) = Stop ∷ []

pub only_halt : All IsOp (Stop ∷ [])
only_halt = All-cons IsOp Stop [] tt (All-nil IsOp)

pub shortest_fits : (R : List ℕ) (count : ℕ) → count ≤ 1020 → Fits R count (shortest count)
shortest_fits R zero low = record {
  ends = (refl, tt);
  ops = All-cons IsOp (Draw (Labs 0 0 0)) (Stop ∷ []) ((omega arith, omega arith, omega arith), refl) only_halt;
  labs = λ is. tt;
  fits = omega arith;
}
shortest_fits R (suc count) low =
    record { ends = tt; ops = only_halt; labs = λ is. absurd (omega (arith, is)); fits = omega (arith, low) }

-- one more
pub fits_more : (R : List ℕ) (count : ℕ) (op : OpKind) (later : List OpKind) → IsPut R op → IsOp op → (count ≡ 0 → IsLabs op)
    → Fits R (count + length (table_of (op ∷ []))) later → Fits R count (op ∷ later)
fits_more R count op later put is_op labs fits =
    let is = ap length (table_on R op later put fits.ends) in
    let both = length-append (table_of (op ∷ [])) (table_of later) in
    let old = fits.fits in
    record {
      ends = ending_of R op later put fits.ends;
      ops = All-cons IsOp op later is_op fits.ops;
      labs = labs;
      fits = omega (arith, is, both, old);
    }
