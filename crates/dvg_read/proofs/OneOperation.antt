-- A line spells one operation at most: it is read back from the parts that spell it.
use Rattle.std.proofs.Common.{◌≡◌, ◌<◌, ◌^◌, ◌∙◌, ℕ, ℤ, List, [], ◌∷◌, ap, arith, codes, decimal, drop, get_or, if◌then◌else◌, neg_ℤ, negsuc, pos, refl, suc, sym, unsigned_abs, false}
use Rattle.std.proofs.lemmas.Bool.{eqb-true, false_from_ne_true}
use Rattle.std.proofs.lemmas.Str.Parse.{digit_at}
use Rattle.std.specs.Prelude.{◌==◌, bytes_eq}
use Rattle.std.specs.Fmt.{signed_decimal}
use Rattle.std.specs.Str.Parse.{digits_value}
use Rattle.std.proofs.lemmas.Fmt.{decimal_is_IsNumeral}
use Rattle.dvg_code.specs.declared.instr.Instr.TheVariants.{Vctr, Svec, Labs}
use Rattle.dvg_frame.specs.declared.op.OpKind.{OpKind}
use Rattle.dvg_frame.specs.declared.op.OpKind.TheVariants.{Draw, CallRom, JumpRom, Call, Jump, Return, Halt}
use Rattle.dvg_read.specs.OpLines.{OpParts, vctr, svec, labs, callrom, jumprom, call, jump, return, halt}

abbrev pub number : List ℕ → ℕ
number = digits_value 10

pub number_is : (n : ℕ) → n < 2 ^ 16 → number (decimal n) ≡ n
number_is n few = (decimal_is_IsNumeral n (omega (arith, few))).1

abbrev move : List ℕ → ℤ
move part = if get_or part 0 0 == 45 then neg_ℤ (pos (number (drop 1 part))) else pos (number part)

move_is : (d : ℤ) → unsigned_abs d < 2 ^ 16 → move (signed_decimal d) ≡ d
move_is (pos n) few =
    let numeral = decimal_is_IsNumeral n (omega (arith, few)) in
    let first = digit_at (decimal n) 0 numeral.0.1 numeral.0.0 in
    let plain : (get_or (decimal n) 0 0 == 45) ≡ false = false_from_ne_true (get_or (decimal n) 0 0 == 45) (λ minus. let is = eqb-true (get_or (decimal n) 0 0) 45 minus in omega (arith, first, is)) in
    rw plain (ap pos numeral.1)
move_is (negsuc n) few = ap (λ k. neg_ℤ (pos k)) (number_is (suc n) (omega (arith, few)))

-- the operation that parts spell, if they spell one
abbrev read_back : List (List ℕ) → OpKind
read_back (name ∷ s ∷ x ∷ y ∷ z ∷ []) =
    if bytes_eq name (codes "vctr") then Draw (Vctr (number s) (move x) (move y) (number z)) else Draw (Svec (number s) (move x) (move y) (number z))
read_back (name ∷ x ∷ y ∷ s ∷ []) = Draw (Labs (number x) (number y) (number s))
read_back (name ∷ target ∷ []) =
    if bytes_eq name (codes "callrom") then CallRom (digits_value 16 target)
    else (if bytes_eq name (codes "jumprom") then JumpRom (digits_value 16 target)
    else (if bytes_eq name (codes "call") then Call (number target) else Jump (number target)))
read_back (name ∷ []) = if bytes_eq name (codes "return") then Return else Halt
read_back _ = Halt

back : {op : OpKind} {ps : List (List ℕ)} → OpParts op ps → read_back ps ≡ op
back (vctr {scale = s} {dx = x} {dy = y} {z = z} h) = rw (number_is s (omega (arith, h.0)), move_is x (omega (arith, h.1)), move_is y (omega (arith, h.2)), number_is z (omega (arith, h.3))) refl
back (svec {scale = s} {dx = x} {dy = y} {z = z} h) = rw (number_is s (omega (arith, h.0)), move_is x (omega (arith, h.1)), move_is y (omega (arith, h.2)), number_is z (omega (arith, h.3))) refl
back (labs {x = x} {y = y} {scale = s} h) = rw (number_is x (omega (arith, h.0)), number_is y (omega (arith, h.1)), number_is s (omega (arith, h.2))) refl
back (callrom h) = ap CallRom h.value
back (jumprom h) = ap JumpRom h.value
back (call {n = n} h) = ap Call (number_is n h)
back (jump {n = n} h) = ap Jump (number_is n h)
back return = refl
back halt = refl

-- parts spell one operation at most
pub one_operation : {op other : OpKind} {ws : List (List ℕ)} → OpParts op ws → OpParts other ws → other ≡ op
one_operation p q = sym (back q) ∙ back p
