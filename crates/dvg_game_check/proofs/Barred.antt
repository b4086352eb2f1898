-- What is found of all notes that are accepted can't be where there are some.
use Rattle.std.proofs.Common.{◌≡◌, ℕ, zero, suc, ◌+◌, ◌-◌, ◌<◌, ◌≤◌, ◌&&◌, ◌||◌, Bool, true, false, not, refl, sym, ◌∙◌, ap, subst, arith, eq-eqb}
use Rattle.std.specs.Prelude.{Option, None, Some, [], nat_eq, nat_le, if◌then◌else◌}
use Rattle.std.proofs.lemmas.Bool.{eqb-true, leb-true}
use Rattle.dvg_game_words.specs.Checker.{Level, Main, Sub, Nmi, Note, Notes, all_serve, enters, interrupts, most, serve, spare, starts, goes_on, implies, is_entry, leads, noted}
use Rattle.dvg_game_words.specs.Checker.{same_level, unchanged}
use Rattle.dvg_game_words.specs.Machine.{blank_after, is_driver, is_reset}
use Rattle.dvg_game_check.specs.Least.{Comes, IsUnder, UnderAt}
use Rattle.dvg_game_check.specs.Rules.{calls_fine, jumps_fine}
use Rattle.dvg_game_check.proofs.Suited.{all_both, and_is, both, implies_both, implies_by, implies_on, implies_or, implies_same_level, led}
use Rattle.dvg_game_check.proofs.Steps.{calls_on, drives_on, if_not, if_so}

pub not_true : (b : Bool) → (b ≡ true → ⊥) → b ≡ false
not_true b h = by b refl
  where
    by : (x : Bool) → b ≡ x → b ≡ false
    by true e = absurd (h e)
    by false e = e

pub not_both : (b : Bool) → not b ≡ true → b ≡ true → ⊥
not_both true h g = let e : false ≡ true = h in cc
not_both false h g = let e : false ≡ true = g in cc

pub contrary : (b : Bool) → b ≡ false → b ≡ true → ⊥
contrary b h g = let e : false ≡ true = sym h ∙ g in cc

pub either : (a b : Bool) → (a || b) ≡ true → (a ≡ true → ⊥) → b ≡ true
either a b h none = by a refl h
  where
    by : (x : Bool) → a ≡ x → (x || b) ≡ true → b ≡ true
    by true e k = absurd (none e)
    by false e k = k

same_self : (level : Level) → same_level level level ≡ true
same_self Main = refl
same_self Sub = refl
same_self Nmi = refl

pub same_levels : (one other : Level) → one ≡ other → same_level one other ≡ true
same_levels one other e = subst (λ l. same_level one l ≡ true) e (same_self one)

-- what is found of a place has the level and depth of any note there
pub as_found : (m new : Note) (level : Level) (depth : ℕ) → IsUnder m new → new.level ≡ level → new.depth ≡ depth
    → (same_level m.level level && nat_eq m.depth depth) ≡ true
as_found m new level depth u l d =
    and_is (same_level m.level level) (nat_eq m.depth depth) (same_levels m.level level (u.comes.level ∙ l))
    (eq-eqb m.depth depth (u.comes.depth ∙ d))

-- no note of this level and depth is there
abbrev pub IsBarred : Notes → ℕ → Level → ℕ → Type 0
IsBarred all to level depth = (new : Note) → noted all to ≡ Some new → new.level ≡ level → new.depth ≡ depth → ⊥

pub barred : (all : Notes) (to : ℕ) (level : Level) (depth : ℕ) (behind : Note) → IsBarred all to level depth
    → leads all to behind ≡ true → behind.level ≡ level → behind.depth ≡ depth → ⊥
barred all to level depth behind is h l d =
    let there = led all to behind h in
    is there.new there.is (there.suited.level ∙ l) (there.suited.depth ∙ d)

unblank : (g a b : Bool) → implies a b ≡ true → implies g (not b) ≡ true → implies g (not a) ≡ true
unblank false a b h k = refl
unblank true false b h k = refl
unblank true true true h k = k
unblank true true false h k = absurd (let e : false ≡ true = h in cc)

pub may_enter : (to : ℕ) (m n : Note) → Comes m n → enters to n ≡ true
    → (is_entry to && (not (same_level m.level Nmi) && ((is_reset to || m.awake) && implies (goes_on to) (not m.blank)))) ≡ true
may_enter to m n c h =
    let awake = is_reset to || n.awake in
    let begun = implies (goes_on to) (not n.blank) in
    let outside = not (same_level n.level Nmi) in
    let one = both (is_entry to) (nat_le 4 n.room && (outside && (awake && begun))) h in
    let two = both (nat_le 4 n.room) (outside && (awake && begun)) one.1 in
    let three = both outside (awake && begun) two.1 in
    let four = both awake begun three.1 in
    let same : not (same_level m.level Nmi) ≡ true = ap (λ l. not (same_level l Nmi)) c.level ∙ three.0 in
    let woken : (is_reset to || m.awake) ≡ true =
    implies_on (is_reset to || n.awake) (is_reset to || m.awake) (implies_or n.awake m.awake (is_reset to) c.awake) four.0 in
    let whole = unblank (goes_on to) m.blank n.blank c.blank four.1 in
    and_is (is_entry to) (not (same_level m.level Nmi) && ((is_reset to || m.awake) && implies (goes_on to) (not m.blank))) one.0
    (and_is (not (same_level m.level Nmi)) ((is_reset to || m.awake) && implies (goes_on to) (not m.blank)) same
    (and_is (is_reset to || m.awake) (implies (goes_on to) (not m.blank)) woken whole))

pub jump_anew : (notes : Notes) (word reset : ℕ) (n : Note) → nat_eq word reset ≡ true → jumps_fine notes word reset n ≡ true
    → not (same_level n.level Nmi) ≡ true
jump_anew notes word reset n e h =
    if_so (nat_eq word reset) (not (same_level n.level Nmi)) (if is_driver word then enters word n
    && (same_level n.level Sub && (nat_eq n.depth 0 && implies (blank_after word n.blank) n.ends)) else leads notes word n) e h

-- a jump to the driver: it may be called, and the subroutine returns with nothing on the stack
pub jump_enters : (notes : Notes) (word reset : ℕ) (n : Note) → nat_eq word reset ≡ false → is_driver word ≡ true
    → jumps_fine notes word reset n ≡ true
    → (enters word n ≡ true) × ((same_level n.level Sub ≡ true) × (nat_eq n.depth 0 ≡ true))
jump_enters notes word reset n e d h =
    let end = implies (blank_after word n.blank) n.ends in
    let zero_deep = nat_eq n.depth 0 && end in
    let sub = same_level n.level Sub && zero_deep in
    let drive = enters word n && sub in
    let one = if_not (nat_eq word reset) (not (same_level n.level Nmi)) (if is_driver word then drive else leads notes word n) e h in
    let two = both (enters word n) sub (if_so (is_driver word) drive (leads notes word n) d one) in
    let three = both (same_level n.level Sub) zero_deep two.1 in
    (two.0, (three.0, (both (nat_eq n.depth 0) end three.1).0))

-- a level and depth that n has, m has too
pub as_here : (m n : Note) (level : Level) → Comes m n → same_level n.level level ≡ true → nat_eq n.depth 0 ≡ true
    → (same_level m.level level && nat_eq m.depth 0) ≡ true
as_here m n level c l d =
    and_is (same_level m.level level) (nat_eq m.depth 0) (ap (λ k. same_level k level) c.level ∙ l)
    (ap (λ k. nat_eq k 0) c.depth ∙ d)

pub call_enters : (notes : Notes) (word at : ℕ) (n : Note) → is_driver word ≡ true → calls_fine notes word at n ≡ true
    → enters word n ≡ true
call_enters notes word at n d h =
    let go = leads notes (at + 3) (record n { awake = is_reset word || n.awake; blank = blank_after word n.blank }) in
    (both (enters word n) go (if_so (is_driver word) (drives_on notes word at n) (calls_on notes word at n) d h)).0

-- what starts has this level, with nothing on the stack
pub starts_there : (note : Option Note) → starts note ≡ true
    → (n : Note) × ((note ≡ Some n) × ((n.level ≡ Main) × (n.depth ≡ 0)))
starts_there None h = absurd (let e : false ≡ true = h in cc)
starts_there (Some n) h =
    let one = both (same_level n.level Main) (nat_eq n.depth 0 && (nat_le (n.room + spare) 255 && not n.awake)) h in
    let two = both (nat_eq n.depth 0) (nat_le (n.room + spare) 255 && not n.awake) one.1 in
    (n, (refl, (implies_same_level n.level Main one.0, eqb-true n.depth 0 two.0)))

pub interrupts_there : (note : Option Note) → interrupts note ≡ true
    → (n : Note) × ((note ≡ Some n) × ((n.level ≡ Nmi) × (n.depth ≡ 0)))
interrupts_there None h = absurd (let e : false ≡ true = h in cc)
interrupts_there (Some n) h =
    let c3 = nat_le (n.room + 3) spare && (nat_le n.fuel most && (not n.awake && (all_serve n.held unchanged && serve n.slots []))) in
    let one = both (same_level n.level Nmi) (nat_eq n.depth 0 && c3) h in
    let two = both (nat_eq n.depth 0) c3 one.1 in
    (n, (refl, (implies_same_level n.level Nmi one.0, eqb-true n.depth 0 two.0)))

pub record There (m : Note) (note : Option Note) : Type 0 where
  pub n : Note
  pub is : note ≡ Some n
  pub under : IsUnder m n

-- where something is found, there is a note
pub there : (m : Note) (note : Option Note) → UnderAt (Some m) note → There m note
there m None h = absurd h
there m (Some n) h = record { n = n; is = refl; under = h }
