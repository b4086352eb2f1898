use Rattle.std.proofs.Common.{◌≡◌, ◌++◌, codes, drop, flat_map}
use Rattle.std.specs.List.{join_by}
use Rattle.dvg_lay.specs.Texts.{dollar}
use Rattle.dvg_lay.proofs.text.put_words.Given as goal

abbrev pub invariant-loop-word : goal.invariant-loop-word
invariant-loop-word g l = l.text.items ++ flat_map (λ word. codes ", " ++ dollar word) (drop l.word-index l.rest) ≡ l.fn.text.items ++ join_by dollar (codes ", ") l.fn.words
