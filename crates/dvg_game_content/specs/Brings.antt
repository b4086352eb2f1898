-- What a program brings is accepted, as a test that can be computed.
use Rattle.std.specs.Prelude.{ℕ, Bool, List}
use Rattle.dvg_frame.specs.declared.op.OpKind.{OpKind}
use Rattle.dvg_game_words.specs.Checker.{Notes}
use Rattle.dvg_game_content.specs.Words.{may_offer, may_put}
pub use Rattle.dvg_game_words.specs.Brings.{Known, Any, Is, Under, By, Fact, nothing, Ways, with_bits, listed, fixed, bound, smaller, kept_by, next, fact_by, fact, far, is_free, passes_on, flows, for_each, of_each, brought_by, is_leap, brings_at, brings_by}

-- all that a program offers and puts is accepted, and it calls no dvg_pair: with the drafts of its tables
abbrev pub brings : List ℕ → (rom : ℕ → ℕ) → (start : ℕ) → Notes → Ways → (drafts : ℕ → List OpKind) → Bool
brings R rom start notes ways drafts = brings_by (may_offer R rom drafts) (may_put R) rom start notes ways
