-- What is fine by the bytes of an instruction is fine in each ROM that has them.
use Rattle.std.proofs.Common.{◌≡◌, ℕ, zero, suc, ◌+◌, ◌-◌, ◌<◌, ◌≤◌, Bool, true, false, List, [], ◌∷◌, length, get_or, drop, refl, sym, ◌∙◌, ap, arith}
use Rattle.std.proofs.Math.ListN.{drop_of_length-le}
use Rattle.std.proofs.Math.Seq.{drop-cons}
use Rattle.dvg_game_words.specs.Kinds.{Kind, Quiet, Reads, Transfer, Stores, Push, PushFlags, Pull, PullFlags, Branch, Jump, Call, Return, Finish, Wild, kind_of}
use Rattle.dvg_game_words.specs.Kinds.{ZeroPage, ZeroPageIndexed, Absolute, AbsoluteIndexed}
use Rattle.dvg_game_words.specs.Machine.{word_at, reset_vector}
use Rattle.dvg_game_words.specs.Checker.{Note, Notes, fine_by, may_boot, stand_at}
use Rattle.std.specs.Prelude.{MatchOption, Option, None, Some}
use Rattle.dvg_game_check.specs.declared.reason.Rule.{Rule}
use Rattle.dvg_game_check.specs.Why.{asks}
use Rattle.dvg_game_check.specs.Rules.{fine_with, boots_with}

pub fine_same : (kind : Kind) (notes : Notes) (f : ℕ → ℕ) (at : ℕ) (now : Note)
    → fine_with kind notes (f (at + 1)) (word_at f (at + 1)) (word_at f reset_vector) at now ≡ fine_by kind notes f at now
fine_same (Quiet sets bytes) notes f at now = refl
fine_same (Reads sets ZeroPage) notes f at now = refl
fine_same (Reads sets ZeroPageIndexed) notes f at now = refl
fine_same (Reads sets Absolute) notes f at now = refl
fine_same (Reads sets AbsoluteIndexed) notes f at now = refl
fine_same (Transfer from to) notes f at now = refl
fine_same (Stores ZeroPage) notes f at now = refl
fine_same (Stores ZeroPageIndexed) notes f at now = refl
fine_same (Stores Absolute) notes f at now = refl
fine_same (Stores AbsoluteIndexed) notes f at now = refl
fine_same Push notes f at now = refl
fine_same PushFlags notes f at now = refl
fine_same Pull notes f at now = refl
fine_same PullFlags notes f at now = refl
fine_same Branch notes f at now = refl
fine_same Jump notes f at now = refl
fine_same Call notes f at now = refl
fine_same Return notes f at now = refl
fine_same Finish notes f at now = refl
fine_same Wild notes f at now = refl

pub fine_by_bytes : (kind k : Kind) (notes : Notes) (f : ℕ → ℕ) (at low word reset : ℕ) (now : Note) → kind ≡ k
    → low ≡ f (at + 1) → word ≡ word_at f (at + 1) → reset ≡ word_at f reset_vector
    → fine_with kind notes low word reset at now ≡ fine_by k notes f at now
fine_by_bytes kind k notes f at low word reset now e l w r =
    ap (λ x. fine_with x notes low word reset at now) e
    ∙ (ap (λ x. fine_with k notes x word reset at now) l
    ∙ (ap (λ x. fine_with k notes (f (at + 1)) x reset at now) w
    ∙ (ap (λ x. fine_with k notes (f (at + 1)) (word_at f (at + 1)) x at now) r ∙ fine_same k notes f at now)))

boots_same : (kind : Kind) (f : ℕ → ℕ) (at : ℕ)
    → boots_with kind (f (at + 1)) (word_at f (at + 1)) ≡ may_boot kind f at
boots_same (Quiet sets bytes) f at = refl
boots_same (Reads sets ZeroPage) f at = refl
boots_same (Reads sets ZeroPageIndexed) f at = refl
boots_same (Reads sets Absolute) f at = refl
boots_same (Reads sets AbsoluteIndexed) f at = refl
boots_same (Transfer from to) f at = refl
boots_same (Stores ZeroPage) f at = refl
boots_same (Stores ZeroPageIndexed) f at = refl
boots_same (Stores Absolute) f at = refl
boots_same (Stores AbsoluteIndexed) f at = refl
boots_same Push f at = refl
boots_same PushFlags f at = refl
boots_same Pull f at = refl
boots_same PullFlags f at = refl
boots_same Branch f at = refl
boots_same Jump f at = refl
boots_same Call f at = refl
boots_same Return f at = refl
boots_same Finish f at = refl
boots_same Wild f at = refl

pub boots_by_bytes : (kind k : Kind) (f : ℕ → ℕ) (at low word : ℕ) → kind ≡ k
    → low ≡ f (at + 1) → word ≡ word_at f (at + 1) → boots_with kind low word ≡ may_boot k f at
boots_by_bytes kind k f at low word e l w =
    ap (λ x. boots_with x low word) e ∙ (ap (λ x. boots_with k x word) l
    ∙ (ap (λ x. boots_with k (f (at + 1)) x) w ∙ boots_same k f at))

asks_same : (kind : Kind) (rule : Rule) (notes : Notes) (f : ℕ → ℕ) (at low word reset : ℕ) (now : Note) → low ≡ f (at + 1)
    → word ≡ word_at f (at + 1) → reset ≡ word_at f reset_vector
    → asks kind rule notes low word reset at now ≡ asks kind rule notes (f (at + 1)) (word_at f (at + 1)) (word_at f reset_vector) at now
asks_same kind rule notes f at low word reset now l w r =
    ap (λ x. asks kind rule notes x word reset at now) l
    ∙ (ap (λ x. asks kind rule notes (f (at + 1)) x reset at now) w
    ∙ ap (λ x. asks kind rule notes (f (at + 1)) (word_at f (at + 1)) x at now) r)

pub asks_by_bytes : (kind k : Kind) (rule : Rule) (notes : Notes) (f : ℕ → ℕ) (at low word reset : ℕ) (now : Note) → kind ≡ k
    → low ≡ f (at + 1) → word ≡ word_at f (at + 1) → reset ≡ word_at f reset_vector
    → asks kind rule notes low word reset at now ≡ false
    → asks k rule notes (f (at + 1)) (word_at f (at + 1)) (word_at f reset_vector) at now ≡ false
asks_by_bytes kind k rule notes f at low word reset now e l w r is =
    sym (ap (λ x. asks x rule notes low word reset at now) e ∙ asks_same k rule notes f at low word reset now l w r) ∙ is

-- an answer is of each ROM with the bytes
pub why_by_bytes : (answer : Option Rule) (kind k : Kind) (notes : Notes) (f : ℕ → ℕ) (at low word reset : ℕ) (now : Note)
    → kind ≡ k → low ≡ f (at + 1) → word ≡ word_at f (at + 1) → reset ≡ word_at f reset_vector
    → MatchOption answer (fine_with kind notes low word reset at now ≡ true) (λ rule. asks kind rule notes low word reset at now ≡ false)
    → MatchOption answer (fine_by k notes f at now ≡ true)
    (λ rule. asks k rule notes (f (at + 1)) (word_at f (at + 1)) (word_at f reset_vector) at now ≡ false)
why_by_bytes None kind k notes f at low word reset now e l w r is =
    sym (fine_by_bytes kind k notes f at low word reset now e l w r) ∙ is
why_by_bytes (Some rule) kind k notes f at low word reset now e l w r is =
    asks_by_bytes kind k rule notes f at low word reset now e l w r is
