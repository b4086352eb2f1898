-- Lists of cycles of a length.
use Rattle.std.proofs.Common.{◌≡◌, ℕ, List, [], ◌∷◌, sym, subst, arith}
use Rattle.std.specs.Prelude.{length}
use Rattle.dvg_cells_cpu.specs.Refines.{Cycle}
use Rattle.dvg_cells_cpu.proofs.Resting.{cy}

pub one : (P : List Cycle → Type 0) → ((a : Cycle) → P (a ∷ [])) → (list : List Cycle) → length list ≡ 1 → P list
one P p [] e = absurd (omega arith)
one P p (a ∷ []) e = p a
one P p (a ∷ b ∷ list) e = absurd (omega arith)

pub two : (P : List Cycle → Type 0) → ((a b : Cycle) → P (a ∷ b ∷ [])) → (list : List Cycle) → length list ≡ 2 → P list
two P p [] e = absurd (omega arith)
two P p (a ∷ list) e = one (λ list. P (a ∷ list)) (p a) list (omega arith)

pub three : (P : List Cycle → Type 0) → ((a b c : Cycle) → P (a ∷ b ∷ c ∷ [])) → (list : List Cycle)
    → length list ≡ 3 → P list
three P p [] e = absurd (omega arith)
three P p (a ∷ list) e = two (λ list. P (a ∷ list)) (p a) list (omega arith)

pub four : (P : List Cycle → Type 0) → ((a b c d : Cycle) → P (a ∷ b ∷ c ∷ d ∷ [])) → (list : List Cycle)
    → length list ≡ 4 → P list
four P p [] e = absurd (omega arith)
four P p (a ∷ list) e = three (λ list. P (a ∷ list)) (p a) list (omega arith)

pub five : (P : List Cycle → Type 0) → ((a b c d e : Cycle) → P (a ∷ b ∷ c ∷ d ∷ e ∷ [])) → (list : List Cycle)
    → length list ≡ 5 → P list
five P p [] e = absurd (omega arith)
five P p (a ∷ list) e = four (λ list. P (a ∷ list)) (p a) list (omega arith)

-- a cycle that reads this
pub at_opcode : (op : ℕ) (P : Cycle → Type 0) → ((m : ℕ) → P (cy m op)) → (c : Cycle) → c.din ≡ op → P c
at_opcode op P p c e = subst (λ d. P (cy c.nmi d)) (sym e) (p c.nmi)
