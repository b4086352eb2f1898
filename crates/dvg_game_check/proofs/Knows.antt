-- What is known at a place, one instruction after the other; and what is known of pairs of bytes.
use Rattle.std.proofs.Common.{◌≡◌, ℕ, zero, suc, ◌+◌, ◌-◌, ◌*◌, ◌<◌, ◌≤◌, ◌&&◌, ◌||◌, Bool, true, false, refl, sym, ◌∙◌, ap, subst, arith, bit_or, eq-eqb, get_or, ◌⊎◌, inl, inr, not}
use Rattle.std.specs.Prelude.{Option, None, Some, List, [], ◌∷◌, if◌then◌else◌, nat_eq, length}
use Rattle.dvg_game_words.specs.Code.{dvg_offer, dvg_pair, dvg_put}
use Rattle.dvg_game_words.specs.Checker.{Note, all_under}
use Rattle.dvg_game_words.specs.Kinds.{Kind, Quiet, Reads, Transfer, Stores, Push, PushFlags, Pull, PullFlags, Branch, Jump, Call, Return, Finish, Wild, kind_of}
use Rattle.dvg_game_words.specs.Machine.{word_at}
use Rattle.dvg_game_words.specs.Brings.{Known, Any, Is, Under, By, Fact, Ways, fact, fact_by, next, nothing, for_each, flows, is_leap, far, brought_by, brings_at}
use Rattle.dvg_game_check.specs.declared.known.Gap.{Gap}
use Rattle.dvg_game_check.specs.declared.known.Gap.TheVariants.{Ways as GapWays, Pair, Unknown, Outside, Missing}
use Rattle.dvg_game_check.specs.Brought.{GapTells, IsGap, PairsTell, PlaceTells, Tells, both_pass, brought_there, flows_there, flows_with, has, has_word}
use Rattle.dvg_game_check.specs.Brought.{known, known_is, leaps_there, next_with, value_of}
use Rattle.dvg_game_check.proofs.Loops.{all_under_fails, under}
use Rattle.dvg_game_check.proofs.Ors.{or_assoc}

pub masked_twice : (g : ℕ → ℕ) (old mask : ℕ) → By (λ y. bit_or (g y) (bit_or old mask)) ≡ By (λ y. bit_or (bit_or (g y) old) mask)
masked_twice g old mask i = By (λ y. sym (or_assoc (g y) old mask) i)

pub known_none : (ways : Ways) (f : ℕ → ℕ) (count at : ℕ) → count ≡ 0 → nothing ≡ known ways f count at
unfolding known
known_none ways f count at e = ap (λ n. fact ways f n at) (sym e)

from_none : (f : ℕ → ℕ) (before : ℕ → Fact) (at bytes : ℕ) → bytes ≡ 0 → nothing ≡ fact_by f before at bytes
from_none f before at bytes e = ap (fact_by f before at) (sym e)

from_one : (f : ℕ → ℕ) (before : ℕ → Fact) (at bytes : ℕ) → 0 < bytes
    → next f (at - bytes) (before (at - bytes)) ≡ fact_by f before at bytes
from_one f before at zero h = absurd (omega arith)
from_one f before at (suc bytes) h = refl

pub known_free : (ways : Ways) (f : ℕ → ℕ) (count at : ℕ) → ways at ≡ 0 → nothing ≡ known ways f count at
unfolding known
known_free ways f zero at e = refl
known_free ways f (suc count) at e = from_none f (fact ways f count) at (ways at) e

pub known_on : (ways : Ways) (f : ℕ → ℕ) (count less at bytes : ℕ) → count ≡ suc less → ways at ≡ bytes → 0 < bytes
    → next f (at - bytes) (known ways f less (at - bytes)) ≡ known ways f count at
unfolding known
known_on ways f count less at bytes e w h =
    from_one f (fact ways f less) at bytes h ∙ (ap (fact_by f (fact ways f less) at) (sym w) ∙ ap (λ n. fact ways f n at) (sym e))

pub next_same : (f : ℕ → ℕ) (at op low word : ℕ) (kind : Kind) (old now : Fact) → op ≡ f at → low ≡ f (at + 1)
    → word ≡ word_at f (at + 1) → kind ≡ kind_of op → old ≡ now → next_with f op low word kind old ≡ next f at now
next_same f at op low word kind old now o l w k e =
    ap (λ x. next_with f x low word kind old) o ∙ (ap (λ x. next_with f (f at) x word kind old) l
    ∙ (ap (λ x. next_with f (f at) (f (at + 1)) x kind old) w
    ∙ (ap (λ x. next_with f (f at) (f (at + 1)) (word_at f (at + 1)) x old) (k ∙ ap kind_of o)
    ∙ ap (next_with f (f at) (f (at + 1)) (word_at f (at + 1)) (kind_of (f at))) e)))

abbrev pub pair_passes : Known → Known → (ℕ → ℕ → Bool) → ℕ → Bool
pair_passes k l p y = both_pass (value_of k y) (value_of l y) p

pub each_by_pairs : (k l : Known) (most : ℕ) (p : ℕ → ℕ → Bool) → 0 < most → all_under most (pair_passes k l p) ≡ true
    → for_each k l most p ≡ true
each_by_pairs (Is a) (Is x) most p some all = under most (pair_passes (Is a) (Is x) p) all 0 some
each_by_pairs (Is a) (By g) most p some all = all
each_by_pairs (By f) (Is x) most p some all = all
each_by_pairs (By f) (By g) most p some all = all
each_by_pairs Any l most p some all = absurd (let e : false ≡ true = under most (pair_passes Any l p) all 0 some in cc)
each_by_pairs (Under n) l most p some all =
    absurd (let e : false ≡ true = under most (pair_passes (Under n) l p) all 0 some in cc)
each_by_pairs (Is a) Any most p some all =
    absurd (let e : false ≡ true = under most (pair_passes (Is a) Any p) all 0 some in cc)
each_by_pairs (Is a) (Under n) most p some all =
    absurd (let e : false ≡ true = under most (pair_passes (Is a) (Under n) p) all 0 some in cc)
each_by_pairs (By f) Any most p some all =
    absurd (let e : false ≡ true = under most (pair_passes (By f) Any p) all 0 some in cc)
each_by_pairs (By f) (Under n) most p some all =
    absurd (let e : false ≡ true = under most (pair_passes (By f) (Under n) p) all 0 some in cc)

-- and not, where one pair isn't there, or a byte is not known
pub each_fails : (k l : Known) (most : ℕ) (p : ℕ → ℕ → Bool) (y : ℕ) → y < most → pair_passes k l p y ≡ false
    → for_each k l most p ≡ false
each_fails (Is a) (Is x) most p y less fails = fails
each_fails (Is a) (By g) most p y less fails = all_under_fails (pair_passes (Is a) (By g) p) most y less fails
each_fails (By f) (Is x) most p y less fails = all_under_fails (pair_passes (By f) (Is x) p) most y less fails
each_fails (By f) (By g) most p y less fails = all_under_fails (pair_passes (By f) (By g) p) most y less fails
each_fails Any l most p y less fails = refl
each_fails (Under n) l most p y less fails = refl
each_fails (Is a) Any most p y less fails = refl
each_fails (Is a) (Under n) most p y less fails = refl
each_fails (By f) Any most p y less fails = refl
each_fails (By f) (Under n) most p y less fails = refl

pub pair_fails : (k l : Known) (y a x : ℕ) (p : ℕ → ℕ → Bool) → value_of k y ≡ Some a → value_of l y ≡ Some x → p a x ≡ false
    → pair_passes k l p y ≡ false
pair_fails k l y a x p is_a is_x fails =
    ap (λ o. both_pass o (value_of l y) p) is_a ∙ (ap (λ o. both_pass (Some a) o p) is_x ∙ fails)

pub each_unknown_a : (k l : Known) (most : ℕ) (p : ℕ → ℕ → Bool) → known_is k ≡ false → for_each k l most p ≡ false
each_unknown_a Any l most p fails = refl
each_unknown_a (Under n) l most p fails = refl
each_unknown_a (Is a) l most p fails = absurd (let e : true ≡ false = fails in cc)
each_unknown_a (By f) l most p fails = absurd (let e : true ≡ false = fails in cc)

pub each_unknown_x : (k l : Known) (most : ℕ) (p : ℕ → ℕ → Bool) → known_is l ≡ false → for_each k l most p ≡ false
each_unknown_x Any l most p fails = refl
each_unknown_x (Under n) l most p fails = refl
each_unknown_x (Is a) Any most p fails = refl
each_unknown_x (Is a) (Under n) most p fails = refl
each_unknown_x (By f) Any most p fails = refl
each_unknown_x (By f) (Under n) most p fails = refl
each_unknown_x k (Is a) most p fails = absurd (let e : true ≡ false = fails in cc)
each_unknown_x k (By f) most p fails = absurd (let e : true ≡ false = fails in cc)

-- a list has what is at one of its places
pub has_at : (xs : List ℕ) (i n : ℕ) → i < length xs → get_or xs i 0 ≡ n → has xs n ≡ true
has_at [] i n h e = absurd (omega arith)
has_at (x ∷ xs) zero n h e = ap (λ b. b || has xs n) (eq-eqb x n e)
has_at (x ∷ xs) (suc i) n h e = by (nat_eq x n) (has_at xs i n (omega arith) e)
  where
    by : (b : Bool) → has xs n ≡ true → (b || has xs n) ≡ true
    by true h = refl
    by false h = h

-- and no other number
pub has_none : (xs : List ℕ) (n : ℕ) → ((k : ℕ) → k < length xs → nat_eq (get_or xs k 0) n ≡ false) → has xs n ≡ false
has_none [] n none = refl
has_none (x ∷ xs) n none =
    let one : nat_eq x n ≡ false = none zero (omega arith) in
    let more : has xs n ≡ false = has_none xs n (λ k less. none (suc k) (omega arith)) in
    rw (one, more)

flows_same : (kind : Kind) (ways : Ways) (f : ℕ → ℕ) (at : ℕ)
    → flows_with ways at kind (f (at + 1)) (word_at f (at + 1)) ≡ flows ways f at kind
flows_same (Quiet sets bytes) ways f at = refl
flows_same (Reads sets place) ways f at = refl
flows_same (Transfer from to) ways f at = refl
flows_same (Stores place) ways f at = refl
flows_same Push ways f at = refl
flows_same PushFlags ways f at = refl
flows_same Pull ways f at = refl
flows_same PullFlags ways f at = refl
flows_same Branch ways f at = refl
flows_same Jump ways f at = refl
flows_same Call ways f at = refl
flows_same Return ways f at = refl
flows_same Finish ways f at = refl
flows_same Wild ways f at = refl

pub flows_by : (kind k : Kind) (ways : Ways) (f : ℕ → ℕ) (at low word : ℕ) → kind ≡ k → low ≡ f (at + 1)
    → word ≡ word_at f (at + 1) → flows_with ways at kind low word ≡ flows ways f at k
flows_by kind k ways f at low word e l w =
    ap (λ x. flows_with ways at x low word) e ∙ (ap (λ x. flows_with ways at k x word) l
    ∙ (ap (λ x. flows_with ways at k (f (at + 1)) x) w ∙ flows_same k ways f at))

both_hold : (a b c : Bool) → a ≡ true → (b ≡ false) ⊎ (c ≡ true) → (a && (not b || c)) ≡ true
both_hold a b c h (inl e) = rw (h, e)
both_hold a true c h (inr e) = rw (h, e)
both_hold a false c h (inr e) = rw h

pub no_flow : (tables words : List ℕ) (f : ℕ → ℕ) (ways : Ways) (at : ℕ) → flows ways f at (kind_of (f at)) ≡ false
    → IsGap tables words f ways at GapWays
unfolding flows_there
no_flow tables words f ways at h = h

pub brings_alone : (tables words : List ℕ) (f : ℕ → ℕ) (ways : Ways) (at : ℕ) → flows ways f at (kind_of (f at)) ≡ true
    → is_leap (kind_of (f at)) ≡ false → GapTells tables words f ways at None
unfolding flows_there leaps_there brought_there
brings_alone tables words f ways at h l =
    both_hold (flows ways f at (kind_of (f at))) (is_leap (kind_of (f at)))
    (brought_by (has tables) (has_word words) (fact ways f far at) (word_at f (at + 1))) h (inl l)

pub brings_so : (tables words : List ℕ) (f : ℕ → ℕ) (ways : Ways) (at : ℕ) (gap : Option Gap)
    → flows ways f at (kind_of (f at)) ≡ true → is_leap (kind_of (f at)) ≡ true
    → Tells tables words gap (known ways f far at) (word_at f (at + 1))
    → GapTells tables words f ways at gap
unfolding flows_there leaps_there brought_there known
brings_so tables words f ways at None h l tells =
    both_hold (flows ways f at (kind_of (f at))) (is_leap (kind_of (f at)))
    (brought_by (has tables) (has_word words) (fact ways f far at) (word_at f (at + 1))) h (inr tells)
brings_so tables words f ways at (Some GapWays) h l tells = absurd tells
brings_so tables words f ways at (Some Outside) h l tells = (l, tells)
brings_so tables words f ways at (Some Pair) h l tells = (l, tells)
brings_so tables words f ways at (Some Unknown) h l tells = (l, tells)
brings_so tables words f ways at (Some (Missing word)) h l tells = (l, tells)

pub unknown_a : (b c : Bool) → b ≡ false → (b && c) ≡ false
unknown_a b c h = rw h

pub unknown_x : (b c : Bool) → c ≡ false → (b && c) ≡ false
unknown_x true c h = h
unknown_x false c h = refl

-- what is said of a list is said of the routine that takes it
pub offers_tell : (tables words : List ℕ) (gap : Option Gap) (fact : Fact) (to : ℕ) → to ≡ dvg_offer → PairsTell gap fact tables
    → Tells tables words gap fact to
offers_tell tables words None fact to e h =
    subst (λ t. brought_by (has tables) (has_word words) fact t ≡ true) (sym e) h
offers_tell tables words (Some GapWays) fact to e h = h
offers_tell tables words (Some Pair) fact to e h = absurd h
offers_tell tables words (Some Outside) fact to e h = h
offers_tell tables words (Some Unknown) fact to e h =
    (subst (λ t. brought_by (has tables) (has_word words) fact t ≡ false) (sym e) h.0, h.1)
offers_tell tables words (Some (Missing word)) fact to e h =
    (subst (λ t. brought_by (has tables) (has_word words) fact t ≡ false) (sym e) h.0, (h.1.0, inl (e, h.1.1)))

pub puts_tell : (tables words : List ℕ) (gap : Option Gap) (fact : Fact) (to : ℕ) → to ≡ dvg_put → PairsTell gap fact words
    → Tells tables words gap fact to
puts_tell tables words None fact to e h =
    subst (λ t. brought_by (has tables) (has_word words) fact t ≡ true) (sym e) h
puts_tell tables words (Some GapWays) fact to e h = h
puts_tell tables words (Some Pair) fact to e h = absurd h
puts_tell tables words (Some Outside) fact to e h = h
puts_tell tables words (Some Unknown) fact to e h =
    (subst (λ t. brought_by (has tables) (has_word words) fact t ≡ false) (sym e) h.0, h.1)
puts_tell tables words (Some (Missing word)) fact to e h =
    (subst (λ t. brought_by (has tables) (has_word words) fact t ≡ false) (sym e) h.0, (h.1.0, inr (e, h.1.1)))

pub pair_tells : (tables words : List ℕ) (fact : Fact) (to : ℕ) → to ≡ dvg_pair → Tells tables words (Some Pair) fact to
pair_tells tables words fact to e =
    (subst (λ t. brought_by (has tables) (has_word words) fact t ≡ false) (sym e) refl, e)

pub place_brings : (tables words : List ℕ) (f : ℕ → ℕ) (ways : Ways) (at : ℕ) (note : Option Note)
    → PlaceTells tables words f ways at note None → brings_at (has tables) (has_word words) f ways at note ≡ true
unfolding flows_there leaps_there brought_there
place_brings tables words f ways at None h = refl
place_brings tables words f ways at (Some note) h = h
