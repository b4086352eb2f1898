-- What is found of a place is found where its instruction goes on.
use Rattle.std.proofs.Common.{◌≡◌, ℕ, zero, suc, ◌+◌, ◌-◌, ◌<◌, ◌≤◌, ◌&&◌, ◌||◌, Bool, true, false, not, refl, sym, ◌∙◌, ap, subst, arith}
use Rattle.std.specs.Prelude.{Option, None, Some, List, [], ◌∷◌, nat_eq, nat_le, nat_lt, if◌then◌else◌}
use Rattle.std.proofs.lemmas.Bool.{eqb-true, leb-true, ltb-true}
use Rattle.dvg_game_words.specs.Checker.{Level, Main, Sub, Nmi, Slot, Any, Held, Note, Notes, all_serve, begun, holding, implies, leads, newest}
use Rattle.dvg_game_words.specs.Checker.{noted, of_held, older, pulling, pushing, same_level, serve, serves, set}
use Rattle.dvg_game_check.specs.Least.{Comes, ComesAt, IsKnown, IsNeeded, IsOnward, IsUnder, UnderAt, is_nmi, limit, passes, room_before}
use Rattle.dvg_game_check.specs.Rules.{changed, held_meant, slot_meant}
use Rattle.dvg_game_check.specs.declared.note.Change.{Change}
use Rattle.dvg_game_check.specs.declared.note.Change.TheVariants.{Same, Holds, Leaves, Pushes, Pulls, Returns, Begins}
use Rattle.dvg_game_check.specs.declared.note.Held.{Held as MadeHeld}
use Rattle.dvg_game_check.specs.declared.note.Slot.{Slot as MadeSlot}
use Rattle.dvg_game_check.specs.declared.step.Onward.{Onward}
use Rattle.dvg_game_check.proofs.Suited.{Led, Suited, all_both, all_holding, all_parts, all_set, and_is, implies_and, implies_both, led}
use Rattle.dvg_game_check.proofs.Suited.{serve_both, serve_older, serves_newest, serves_of_held}
use Rattle.dvg_game_words.specs.Kinds.{Sets}
use Rattle.dvg_game_words.specs.Processor.{Register, A}

abbrev pub nmi_of : Level → Bool
nmi_of level = same_level level Nmi

abbrev pub limit_of : Level → ℕ
limit_of Main = 223
limit_of Sub = 223
limit_of Nmi = 29

pub limit_is : (n : Note) → limit n ≡ limit_of n.level
limit_is n = by n.level
  where
    by : (level : Level) → (elim level [ Main ↦ 223 | Sub ↦ 223 | Nmi ↦ 29 ]) ≡ limit_of level
    by Main = refl
    by Sub = refl
    by Nmi = refl

-- what comes to a place comes to that which it suits
comes_suited : (m now new : Note) → Comes m now → Suited now new → Comes m new
comes_suited m now new c s = record {
  level = c.level ∙ sym s.level;
  depth = c.depth ∙ sym s.depth;
  awake = implies_both new.awake now.awake m.awake s.awake c.awake;
  blank = implies_both m.blank now.blank new.blank c.blank s.blank;
  room =
      let same : limit new ≡ limit now = limit_is new ∙ (ap limit_of s.level ∙ sym (limit_is now)) in
      omega (arith, c.room, s.room, s.depth, same);
  nmi = λ is.
      let nmi : is_nmi now ≡ true = ap nmi_of (sym s.level) ∙ is in
      let known = c.nmi nmi in
      record {
        held = all_both new.held now.held m.held s.held known.held;
        slots = serve_both new.slots now.slots m.slots s.slots known.slots;
        ends = omega (arith, s.fuel nmi, known.ends);
      };
}

pub comes_at : (m now : Note) (notes : Notes) (to : ℕ) → Comes m now → leads notes to now ≡ true → ComesAt m (noted notes to)
comes_at m now notes to c h =
    let one = led notes to now h in
    subst (λ note. ComesAt m note) (sym one.is) (comes_suited m now one.new c one.suited)

-- what is needed where it goes on is needed before
pub needed_before : (one : Onward) (m n t : Note) (notes : Notes) → IsOnward one m n notes
    → UnderAt (Some t) (noted notes one.to)
    → IsNeeded (room_before one.change t.room) (t.fuel + 1) (passes one.change && t.ends) n
needed_before one m n t notes is under =
    let there = led notes one.to is.behind is.led in
    let u : IsUnder t there.new = subst (λ note. UnderAt (Some t) note) there.is under in
    record {
      room = is.room t.room (omega (arith, u.needed.room, there.suited.room));
      fuel = λ nmi.
          let more = is.fuel nmi in
          let level : is_nmi there.new ≡ true = ap nmi_of there.suited.level ∙ more.0 in
          omega (arith, u.needed.fuel level, there.suited.fuel more.0, more.1);
      ends = ends_by (passes one.change) t.ends there.new.ends is.behind.ends n.ends is.ends there.suited.ends u.needed.ends;
    }
  where
    ends_by : (p e new behind now : Bool) → (p ≡ true → implies behind now ≡ true) → implies new behind ≡ true
        → implies e new ≡ true → implies (p && e) now ≡ true
    ends_by false e new behind now f g h = refl
    ends_by true e new behind now f g h = implies_both e behind now (implies_both e new behind h g) (f refl)

module _ (m n : Note) (notes : Notes) (c : Comes m n) where
  pub on_same : (to : ℕ) → leads notes to n ≡ true → IsOnward (record { to = to; change = Same }) m n notes
  on_same to h = record {
    behind = n;
    comes = c;
    led = h;
    room = λ r less. less;
    ends = λ p. implies_self n.ends;
    fuel = λ is. (is, omega arith);
  }
    where
      implies_self : (b : Bool) → implies b b ≡ true
      implies_self true = refl
      implies_self false = refl

  self : (b : Bool) → implies b b ≡ true
  self true = refl
  self false = refl

  pub on_holds : (to : ℕ) (held : MadeHeld) (new : Held) → (is_nmi n ≡ true → all_serve new (held_meant held) ≡ true)
      → leads notes to (record n { held = new }) ≡ true
      → IsOnward (record { to = to; change = Holds held }) m n notes
  on_holds to held new s h = record {
    behind = record n { held = new };
    comes = record {
      level = c.level;
      depth = c.depth;
      awake = c.awake;
      blank = c.blank;
      room = c.room;
      nmi = λ is. let k = c.nmi is in record { held = s is; slots = k.slots; ends = k.ends };
    };
    led = h;
    room = λ r less. less;
    ends = λ p. self n.ends;
    fuel = λ is. (is, omega arith);
  }

  pub on_leaves : (to : ℕ) (made awake : Bool) → implies awake made ≡ true
      → leads notes to (record n { awake = awake }) ≡ true
      → IsOnward (record { to = to; change = Leaves made }) m n notes
  on_leaves to made awake s h = record {
    behind = record n { awake = awake };
    comes = record {
      level = c.level;
      depth = c.depth;
      awake = s;
      blank = c.blank;
      room = c.room;
      nmi = λ is. let k = c.nmi is in record { held = k.held; slots = k.slots; ends = k.ends };
    };
    led = h;
    room = λ r less. less;
    ends = λ p. self n.ends;
    fuel = λ is. (is, omega arith);
  }

  pub on_returns : (to : ℕ) (made awake found blank : Bool) → implies awake made ≡ true → implies found blank ≡ true
      → leads notes to (record n { awake = awake; blank = blank }) ≡ true
      → IsOnward (record { to = to; change = Returns made found }) m n notes
  on_returns to made awake found blank s b h = record {
    behind = record n { awake = awake; blank = blank };
    comes = record {
      level = c.level;
      depth = c.depth;
      awake = s;
      blank = b;
      room = c.room;
      nmi = λ is. let k = c.nmi is in record { held = k.held; slots = k.slots; ends = k.ends };
    };
    led = h;
    room = λ r less. less;
    ends = λ p. self n.ends;
    fuel = λ is. (is, omega arith);
  }

  pub on_pushes : (to : ℕ) (made : MadeSlot) (slot : Slot) → nat_le 1 n.room ≡ true
      → (is_nmi n ≡ true → serve (slot ∷ n.slots) (slot_meant made ∷ m.slots) ≡ true)
      → leads notes to (pushing slot n) ≡ true
      → IsOnward (record { to = to; change = Pushes made }) m n notes
  on_pushes to made slot room s h =
      let some : 1 ≤ n.room = leb-true 1 n.room room in
      record {
        behind = pushing slot n;
        comes = record {
          level = c.level;
          depth = ap (λ d. d + 1) c.depth;
          awake = c.awake;
          blank = c.blank;
          room = let low : n.room + n.depth ≤ limit n = c.room in omega (arith, low, some);
          nmi = λ is. let k = c.nmi is in record { held = k.held; slots = s is; ends = k.ends };
        };
        led = h;
        room = λ r less. omega (arith, less, some);
        ends = λ p. self n.ends;
        fuel = λ is. (is, omega arith);
      }

  pub on_pulls : (to : ℕ) (held : MadeHeld) (new : Held) → nat_le 1 n.depth ≡ true
      → (is_nmi n ≡ true → all_serve new (held_meant held) ≡ true)
      → (is_nmi n ≡ true → serve (older n.slots) (older m.slots) ≡ true)
      → leads notes to (record (pulling n) { held = new }) ≡ true
      → IsOnward (record { to = to; change = Pulls held }) m n notes
  on_pulls to held new depth s t h =
      let some : 1 ≤ n.depth = leb-true 1 n.depth depth in
      record {
        behind = record (pulling n) { held = new };
        comes = record {
          level = c.level;
          depth = ap (λ d. d - 1) c.depth;
          awake = c.awake;
          blank = c.blank;
          room = let low : n.room + n.depth ≤ limit n = c.room in omega (arith, low, some);
          nmi = λ is. let k = c.nmi is in record { held = s is; slots = t is; ends = k.ends };
        };
        led = h;
        room = λ r less. omega (arith, less);
        ends = λ p. self n.ends;
        fuel = λ is. (is, omega arith);
      }

  pub on_begins : (to : ℕ) (made ends : Bool) → nat_le 2 n.room ≡ true → not (same_level n.level Nmi) ≡ true
      → leads notes to (begun ends n) ≡ true
      → IsOnward (record { to = to; change = Begins made }) m n notes
  on_begins to made ends room level h =
      let some : 2 ≤ n.room = leb-true 2 n.room room in
      record {
        behind = begun ends n;
        comes = record {
          level = refl;
          depth = refl;
          awake = c.awake;
          blank = c.blank;
          room = omega (arith, below n.level c.room);
          nmi = λ is. absurd (let e : false ≡ true = is in cc);
        };
        led = h;
        room = λ r less. omega (arith, less, some);
        ends = λ p. absurd (let e : false ≡ true = p in cc);
        fuel = λ is. absurd (no (same_level n.level Nmi) level is);
      }
    where
      no : (b : Bool) → not b ≡ true → b ≡ true → ⊥
      no true h g = let e : false ≡ true = h in cc
      no false h g = let e : false ≡ true = g in cc

      below : (level : Level) → n.room + n.depth ≤ limit n → n.room + n.depth ≤ 223
      below level low = by n.level (let e = limit_is n in omega (arith, low, e))
        where
          by : (l : Level) → n.room + n.depth ≤ limit_of l → n.room + n.depth ≤ 223
          by Main h = h
          by Sub h = h
          by Nmi h = omega (arith, h)

  -- an instruction that sets a register, moves one, or stores a byte
  pub on_sets : (to : ℕ) (sets : Sets) (made : MadeHeld) → held_meant made ≡ set sets m.held
      → leads notes to (record n { held = set sets n.held }) ≡ true
      → IsOnward (record { to = to; change = Holds made }) m n notes
  on_sets to sets made e h =
      on_holds to made (set sets n.held)
      (λ is. subst (λ held. all_serve (set sets n.held) held ≡ true) (sym e) (all_set sets n.held m.held (c.nmi is).held)) h

  pub on_moves : (to : ℕ) (from into : Register) (made : MadeHeld) → held_meant made ≡ holding into (of_held from m.held) m.held
      → leads notes to (record n { held = holding into (of_held from n.held) n.held }) ≡ true
      → IsOnward (record { to = to; change = Holds made }) m n notes
  on_moves to from into made e h =
      on_holds to made (holding into (of_held from n.held) n.held)
      (λ is. subst (λ held. all_serve (holding into (of_held from n.held) n.held) held ≡ true) (sym e)
      (all_holding into (of_held from n.held) (of_held from m.held) n.held m.held
      (serves_of_held from n.held m.held (c.nmi is).held) (c.nmi is).held)) h

  pub on_stores : (to : ℕ) (made other : Bool) → made ≡ (m.awake && other)
      → leads notes to (record n { awake = n.awake && other }) ≡ true
      → IsOnward (record { to = to; change = Leaves made }) m n notes
  on_stores to made other e h =
      on_leaves to made (n.awake && other)
      (ap (λ b. implies (n.awake && other) b) e ∙ implies_and n.awake m.awake other c.awake) h

  -- one that pushes A, or the flags
  pub on_pushes_a : (to : ℕ) (made : MadeSlot) → slot_meant made ≡ m.held.a → nat_le 1 n.room ≡ true
      → leads notes to (pushing n.held.a n) ≡ true
      → IsOnward (record { to = to; change = Pushes made }) m n notes
  on_pushes_a to made e room h =
      on_pushes to made n.held.a room
      (λ is. and_is (serves n.held.a (slot_meant made)) (serve n.slots m.slots)
      (ap (serves n.held.a) e ∙ (all_parts n.held m.held (c.nmi is).held).0) (c.nmi is).slots) h

  pub on_pushes_any : (to : ℕ) (made : MadeSlot) → nat_le 1 n.room ≡ true → leads notes to (pushing Any n) ≡ true
      → IsOnward (record { to = to; change = Pushes made }) m n notes
  on_pushes_any to made room h = on_pushes to made Any room (λ is. (c.nmi is).slots) h

  -- one that pulls A, or the flags
  pub on_pulls_a : (to : ℕ) (made : MadeHeld) → held_meant made ≡ holding A (newest m.slots) m.held → nat_le 1 n.depth ≡ true
      → leads notes to (record (pulling n) { held = holding A (newest n.slots) n.held }) ≡ true
      → IsOnward (record { to = to; change = Pulls made }) m n notes
  on_pulls_a to made e depth h =
      on_pulls to made (holding A (newest n.slots) n.held) depth
      (λ is. subst (λ held. all_serve (holding A (newest n.slots) n.held) held ≡ true) (sym e)
      (all_holding A (newest n.slots) (newest m.slots) n.held m.held (serves_newest n.slots m.slots (c.nmi is).slots)
      (c.nmi is).held)) (λ is. serve_older n.slots m.slots (c.nmi is).slots) h

  pub on_pulls_flags : (to : ℕ) (made : MadeHeld) → held_meant made ≡ m.held → nat_le 1 n.depth ≡ true
      → leads notes to (pulling n) ≡ true
      → IsOnward (record { to = to; change = Pulls made }) m n notes
  on_pulls_flags to made e depth h =
      on_pulls to made n.held depth
      (λ is. subst (λ held. all_serve n.held held ≡ true) (sym e) (c.nmi is).held)
      (λ is. serve_older n.slots m.slots (c.nmi is).slots) h
