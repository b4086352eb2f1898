-- The table of letters has the kind of each opcode.
use Rattle.std.proofs.Common.{◌≡◌, ℕ, zero, suc, ◌+◌, ◌<◌, List, [], ◌∷◌, length, map, get_or, refl, sym, ◌∙◌, ap, arith}
use Rattle.dvg_game_words.specs.Kinds.{Kind, kind_of}
use Rattle.dvg_game_check.specs.Letters.{lettered}
use Rattle.dvg_game_check.specs.declared.kind.TheConstants.{KINDS}

-- so many numbers from one on
abbrev pub ups : ℕ → ℕ → List ℕ
ups zero n = []
ups (suc count) n = n ∷ ups count (suc n)

head_same : (x y : Kind) (xs ys : List Kind) → x ∷ xs ≡ y ∷ ys → x ≡ y
head_same x y xs ys e = cc

tail_same : (x y : Kind) (xs ys : List Kind) → x ∷ xs ≡ y ∷ ys → xs ≡ ys
tail_same x y xs ys e = cc

pub same_at : (f g : ℕ → Kind) (xs : List ℕ) (from i k : ℕ) → map f xs ≡ map g (ups (length xs) from) → i < length xs
    → k ≡ from + i → f (get_or xs i 0) ≡ g k
same_at f g [] from i k e h n = absurd (omega arith)
same_at f g (x ∷ xs) from zero k e h n =
    let m : from ≡ k = omega arith in
    head_same (f x) (g from) (map f xs) (map g (ups (length xs) (suc from))) e ∙ ap g m
same_at f g (x ∷ xs) from (suc i) k e h n =
    same_at f g xs (suc from) i k (tail_same (f x) (g from) (map f xs) (map g (ups (length xs) (suc from))) e) (omega arith)
    (omega arith)

pub kinds_same : map lettered KINDS.now ≡ map kind_of (ups 256 0)
kinds_same = refl

pub kind_lettered : (opcode : ℕ) → opcode < 256 → lettered (get_or KINDS.now opcode 0) ≡ kind_of opcode
kind_lettered opcode h = same_at lettered kind_of KINDS.now 0 opcode opcode kinds_same h (omega arith)
