-- How a text is cut.
use Rattle.std.proofs.Common.{◌<◌, List, [], ◌∷◌, Option, Some, length, sym, subst, arith}
use Rattle.std.specs.Iterator.{AlwaysYields, Yields, YieldsThen}
use Rattle.std.proofs.lemmas.Iterator.{YieldsList}

fewer_by : {S A B : Type 0} (steps : S → Option A → S → Type 0) (v : A → B) (s : S) (all : List B) (xs : List A) (t : S) (x : A) (u : S)
    → AlwaysYields steps v s all → Yields steps s xs t → steps t (Some x) u → length xs < length all
fewer_by steps v s [] [] t x u h y last = absurd (h x u (subst (λ j. steps j (Some x) u) (sym y) last))
fewer_by steps v s (b ∷ all) [] t x u h y last = omega arith
fewer_by steps v s [] (a ∷ xs) t x u h y last = absurd (h a y.0 y.1)
fewer_by steps v s (b ∷ all) (a ∷ xs) t x u h y last = let more = fewer_by steps v y.0 all xs t x u (h.1 a y.0 y.1).1 y.2 last in omega arith

-- where one more item comes after these, they are not all
pub fewer : {S A B : Type 0} {steps : S → Option A → S → Type 0} {v : A → B} {s : S} {all : List B} (xs : List A) (x : A) (u : S) → YieldsThen steps s xs (Some x) u → YieldsList steps v s all → length xs < length all
fewer {steps = steps} {v = v} {s = s} {all = all} xs x u y h = fewer_by steps v s all xs y.0 x u h.runs y.1 y.2
