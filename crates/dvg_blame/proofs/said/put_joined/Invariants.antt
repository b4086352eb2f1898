use Rattle.std.proofs.Common.{◌≡◌, ◌++◌, ◌∷◌, drop, flat_map}
use Rattle.std.specs.List.{join_with_byte}
use Rattle.dvg_read.specs.LineParts.{bytes_of}
use Rattle.dvg_blame.proofs.said.put_joined.Given as goal

abbrev pub invariant-loop-token : goal.invariant-loop-token
invariant-loop-token g l = l.text.items ++ flat_map (λ token. 32 ∷ token.now) (drop l.token-index l.rest) ≡ l.fn.text.items ++ join_with_byte 32 (bytes_of l.fn.tokens)
