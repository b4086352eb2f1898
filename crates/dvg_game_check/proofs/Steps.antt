-- Where jumps and calls go on, and what they need.
use Rattle.std.proofs.Common.{◌≡◌, ℕ, zero, suc, ◌+◌, ◌-◌, ◌<◌, ◌≤◌, ◌&&◌, ◌||◌, Bool, true, false, not, refl, sym, ◌∙◌, ap, subst, arith}
use Rattle.std.specs.Prelude.{Option, None, Some, List, [], ◌∷◌, nat_eq, nat_le, nat_lt, if◌then◌else◌, IfSome}
use Rattle.std.proofs.lemmas.Bool.{eqb-true, leb-true, ltb-true}
use Rattle.dvg_game_words.specs.Code.{dvg_open, dvg_labs}
use Rattle.dvg_game_words.specs.Checker.{Level, Main, Sub, Nmi, Note, Notes, begun, ends_of, enters, goes_on, implies, is_entry, leads}
use Rattle.dvg_game_words.specs.Checker.{noted, same_level}
use Rattle.dvg_game_words.specs.Machine.{blank_after, is_driver, is_reset}
use Rattle.dvg_game_check.specs.Least.{Comes, IsOnward, IsStep}
use Rattle.dvg_game_check.specs.Rules.{calls_fine, jumps_fine}
use Rattle.dvg_game_check.specs.declared.note.Change.TheVariants.{Same, Returns, Begins}
use Rattle.dvg_game_check.proofs.Suited.{both, implies_both, implies_or}
use Rattle.dvg_game_check.proofs.Onwards.{on_begins, on_returns, on_same}

pub if_not : (b x y : Bool) → b ≡ false → (if b then x else y) ≡ true → y ≡ true
if_not false x y e h = h
if_not true x y e h = absurd (let f : true ≡ false = e in cc)

pub if_so : (b x y : Bool) → b ≡ true → (if b then x else y) ≡ true → x ≡ true
if_so true x y e h = h
if_so false x y e h = absurd (let f : false ≡ true = e in cc)

-- where the driver may be called, there is room for it
pub entry_room : (to : ℕ) (n : Note) → enters to n ≡ true → 4 ≤ n.room
entry_room to n h =
    let c3 = (is_reset to || n.awake) && implies (goes_on to) (not n.blank) in
    let c2 = not (same_level n.level Nmi) && c3 in
    let one = both (is_entry to) (nat_le 4 n.room && c2) h in
    let two = both (nat_le 4 n.room) c2 one.1 in
    leb-true 4 n.room two.0

pub blank_more : (to : ℕ) (a b : Bool) → implies a b ≡ true → implies (blank_after to a) (blank_after to b) ≡ true
blank_more to a b h = by (nat_eq to dvg_open) (nat_eq to dvg_labs || is_reset to)
  where
    by : (p q : Bool) → implies (if p then true else if q then false else a) (if p then true else if q then false else b) ≡ true
    by true q = refl
    by false true = refl
    by false false = h

pub jump_drives : (notes : Notes) (word reset : ℕ) (n : Note) → nat_eq word reset ≡ false → is_driver word ≡ true
    → jumps_fine notes word reset n ≡ true → (4 ≤ n.room) × (implies (blank_after word n.blank) n.ends ≡ true)
jump_drives notes word reset n e d h =
    let end = implies (blank_after word n.blank) n.ends in
    let zero_deep = nat_eq n.depth 0 && end in
    let sub = same_level n.level Sub && zero_deep in
    let drive = enters word n && sub in
    let one = if_not (nat_eq word reset) (not (same_level n.level Nmi)) (if is_driver word then drive else leads notes word n) e h in
    let two = both (enters word n) sub (if_so (is_driver word) drive (leads notes word n) d one) in
    let three = both (same_level n.level Sub) zero_deep two.1 in
    (entry_room word n two.0, (both (nat_eq n.depth 0) end three.1).1)

pub jump_on : (notes : Notes) (word reset : ℕ) (n : Note) → nat_eq word reset ≡ false → is_driver word ≡ false
    → jumps_fine notes word reset n ≡ true → leads notes word n ≡ true
jump_on notes word reset n e d h =
    let drive = enters word n && (same_level n.level Sub && (nat_eq n.depth 0 && implies (blank_after word n.blank) n.ends)) in
    if_not (is_driver word) drive (leads notes word n) d
    (if_not (nat_eq word reset) (not (same_level n.level Nmi)) (if is_driver word then drive else leads notes word n) e h)

abbrev pub calls_on : Notes → ℕ → ℕ → Note → Bool
calls_on notes word at n = let ends = ends_of (noted notes word) in nat_le 2 n.room && (not (same_level n.level Nmi)
    && (leads notes word (begun ends n) && leads notes (at + 3) (record n { blank = ends })))

abbrev pub drives_on : Notes → ℕ → ℕ → Note → Bool
drives_on notes word at n = enters word n
    && leads notes (at + 3) (record n { awake = is_reset word || n.awake; blank = blank_after word n.blank })

pub call_drives : (notes : Notes) (word at : ℕ) (n : Note) → is_driver word ≡ true → calls_fine notes word at n ≡ true
    → (4 ≤ n.room) × (leads notes (at + 3) (record n { awake = is_reset word || n.awake; blank = blank_after word n.blank }) ≡ true)
call_drives notes word at n d h =
    let go = leads notes (at + 3) (record n { awake = is_reset word || n.awake; blank = blank_after word n.blank }) in
    let one = both (enters word n) go (if_so (is_driver word) (drives_on notes word at n) (calls_on notes word at n) d h) in
    (entry_room word n one.0, one.1)

pub record Called (notes : Notes) (word at : ℕ) (n : Note) : Type 0 where
  pub room : nat_le 2 n.room ≡ true
  pub level : not (same_level n.level Nmi) ≡ true
  pub begins : leads notes word (begun (ends_of (noted notes word)) n) ≡ true
  pub behind : leads notes (at + 3) (record n { blank = ends_of (noted notes word) }) ≡ true

pub call_on : (notes : Notes) (word at : ℕ) (n : Note) → is_driver word ≡ false → calls_fine notes word at n ≡ true
    → Called notes word at n
call_on notes word at n d h =
    let ends = ends_of (noted notes word) in
    let behind = leads notes (at + 3) (record n { blank = ends }) in
    let begins = leads notes word (begun ends n) in
    let one = both (nat_le 2 n.room) (not (same_level n.level Nmi) && (begins && behind))
    (if_not (is_driver word) (drives_on notes word at n) (calls_on notes word at n) d h) in
    let two = both (not (same_level n.level Nmi)) (begins && behind) one.1 in
    let three = both begins behind two.1 in
    record { room = one.0; level = two.0; begins = three.0; behind = three.1 }
