-- A line that grew by one text after the other.
use Rattle.std.proofs.Common.{◌≡◌, ℕ, ℤ, List, ◌++◌, ap, ◌∙◌, append_assoc, arith}
use Rattle.dvg_print.specs.Svg.{pair_text}

-- what was appended one by one
pub joined : {A : Type 0} (a b c d e f g h k l m n o p q : List A) → k ≡ a → l ≡ k ++ b → m ≡ l ++ c → n ≡ m ++ d
    → o ≡ n ++ e → p ≡ o ++ f → q ≡ p ++ (g ++ h)
    → q ≡ a ++ b ++ c ++ d ++ e ++ f ++ g ++ h
joined a b c d e f g h k l m n o p q ka lb mc nd oe pf qg =
    let n-is : n ≡ a ++ b ++ c ++ d = grind (arith, append_assoc) in
    let q-is : q ≡ n ++ e ++ f ++ g ++ h = grind (arith, append_assoc) in
    grind (arith, append_assoc)

-- a pair that was appended, by what its parts are
pub pair_is : (k l : List ℕ) (x y u v : ℤ) → l ≡ k ++ pair_text x y → x ≡ u → y ≡ v → l ≡ k ++ pair_text u v
pair_is k l x y u v l-is x-is y-is =
    l-is ∙ ap (λ n. k ++ pair_text n y) x-is ∙ ap (λ n. k ++ pair_text u n) y-is

-- four parts that were appended one by one
pub four_parts : (old a b c d : List ℕ) {first second third last : List ℕ} → first ≡ old ++ a → second ≡ first ++ b
    → third ≡ second ++ c → last ≡ third ++ d → last ≡ old ++ (((a ++ b) ++ c) ++ d)
four_parts old a b c d one two three four =
    four
    ∙ ap (λ l. l ++ d) (three ∙ ap (λ l. l ++ c) (two ∙ ap (λ l. l ++ b) one ∙ append_assoc old a b) ∙ append_assoc old (a ++ b) c)
    ∙ append_assoc old ((a ++ b) ++ c) d
