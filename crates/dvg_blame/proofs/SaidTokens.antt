-- What a line says, by its tokens.
use Rattle.std.proofs.Common.{◌≡◌, ◌∙◌, ◌-◌, ◌≤◌, ℕ, List, [], ◌∷◌, ◌++◌, ap, arith, drop, flat_map, get_or, length, sym, take}
use Rattle.std.proofs.Math.Seq.{take-length}
use Rattle.std.proofs.lemmas.List.{append-nil}
use Rattle.std.specs.Borrow.{Bor}
use Rattle.std.specs.List.{join_with_byte}
use Rattle.dvg_read.specs.LineParts.{bytes_of}
use Rattle.dvg_rows.specs.PlainLines.{tokens}
use Rattle.dvg_blame.proofs.Lists.{grew}

-- the first token, and a space before each other one
pub joined : (first : Bor (List ℕ)) (rest : List (Bor (List ℕ))) → join_with_byte 32 (bytes_of (first ∷ rest)) ≡ first.now ++ flat_map (λ token. 32 ∷ token.now) rest
joined first [] = sym (append-nil first.now)
joined first (token ∷ rest) = ap (λ l. first.now ++ 32 ∷ l) (joined token rest)

-- the first token, and the others as the code cuts them off
pub joined_at : (tokens : List (Bor (List ℕ))) (d : Bor (List ℕ)) → 1 ≤ length tokens
    → join_with_byte 32 (bytes_of tokens) ≡ (get_or tokens 0 d).now ++ flat_map (λ token. 32 ∷ token.now) (take (length tokens - 1) (drop 1 tokens))
joined_at [] d some = absurd (omega arith)
joined_at (first ∷ rest) d some =
    let count : length (first ∷ rest) - 1 ≡ length rest = omega arith in
    joined first rest ∙ ap (λ l. first.now ++ flat_map (λ token. 32 ∷ token.now) l) (sym (ap (λ n. take n rest) count ∙ take-length rest))

-- a text grew by the first token, and the others are to come
pub put_first : (tokens : List (Bor (List ℕ))) (d : Bor (List ℕ)) (old new : List ℕ) → 1 ≤ length tokens → new ≡ old ++ (get_or tokens 0 d).now
    → new ++ flat_map (λ token. 32 ∷ token.now) (take (length tokens - 1) (drop 1 tokens)) ≡ old ++ join_with_byte 32 (bytes_of tokens)
put_first tokens d old new some is =
    let rest = flat_map (λ token. 32 ∷ token.now) (take (length tokens - 1) (drop 1 tokens)) in
    grew old (get_or tokens 0 d).now new rest (old ++ join_with_byte 32 (bytes_of tokens)) is (ap (λ l. old ++ l) (sym (joined_at tokens d some)))
