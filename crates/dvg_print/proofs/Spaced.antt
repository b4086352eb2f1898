-- Parts of a line, one after the other.
use Rattle.std.proofs.Common.{◌≡◌, ℕ, List, ◌∷◌, ◌++◌, ap, sym, ◌∙◌, append_assoc}
use Rattle.std.proofs.lemmas.Grind.{flat_map-append}
use Rattle.dvg_print.specs.Lines.{spaced}

-- a line with parts after it, and then more
pub spaced_more : (line middle last : List ℕ) (first more : List (List ℕ)) → middle ≡ line ++ spaced first → last ≡ middle ++ spaced more → last ≡ line ++ spaced (first ++ more)
spaced_more line middle last first more is then =
    then ∙ ap (λ l. l ++ spaced more) is ∙ append_assoc line (spaced first) (spaced more) ∙ ap (λ l. line ++ l) (sym (flat_map-append (λ part. 32 ∷ part) first more))
