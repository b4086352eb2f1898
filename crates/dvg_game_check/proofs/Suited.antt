-- What is asked of notes, told one by one; and that asking for less is asking for less.
use Rattle.std.proofs.Common.{◌≡◌, ℕ, zero, suc, ◌+◌, ◌-◌, ◌<◌, ◌≤◌, ◌&&◌, ◌||◌, Bool, true, false, not, refl, sym, ◌∙◌, ap, subst, arith}
use Rattle.std.specs.Prelude.{Option, None, Some, List, [], ◌∷◌, nat_eq, nat_le, nat_lt}
use Rattle.std.proofs.lemmas.Bool.{eqb-true, leb-true, ltb-true}
use Rattle.dvg_game_words.specs.Processor.{Register, A, X, Y}
use Rattle.dvg_game_words.specs.Kinds.{Sets, Nothing, Only}
use Rattle.dvg_game_words.specs.Checker.{Level, Main, Sub, Nmi, Slot, Any, Was, Held, Note, Notes, all_serve, holding, implies, leads, newest}
use Rattle.dvg_game_words.specs.Checker.{noted, of_held, older, same_level, same_register, serve, serves, set, suits}
use Rattle.dvg_game_check.specs.Least.{is_nmi}

pub both : (a b : Bool) → (a && b) ≡ true → (a ≡ true) × (b ≡ true)
both true b h = (refl, h)
both false b h = absurd (let e : false ≡ true = h in cc)

pub and_is : (a b : Bool) → a ≡ true → b ≡ true → (a && b) ≡ true
and_is a b h g = rw (h, g)

pub implies_both : (a b c : Bool) → implies a b ≡ true → implies b c ≡ true → implies a c ≡ true
implies_both false b c h g = refl
implies_both true true c h g = g
implies_both true false c h g = absurd (let e : false ≡ true = h in cc)

pub implies_on : (a b : Bool) → implies a b ≡ true → a ≡ true → b ≡ true
implies_on true b h e = h
implies_on false b h e = absurd (let f : false ≡ true = e in cc)

pub implies_by : (a b : Bool) → (a ≡ true → b ≡ true) → implies a b ≡ true
implies_by true b h = h refl
implies_by false b h = refl

pub implies_and : (a b w : Bool) → implies a b ≡ true → implies (a && w) (b && w) ≡ true
implies_and true true true h = refl
implies_and true true false h = refl
implies_and true false w h = absurd (let e : false ≡ true = h in cc)
implies_and false b w h = refl

pub implies_or : (a b w : Bool) → implies a b ≡ true → implies (w || a) (w || b) ≡ true
implies_or a b true h = refl
implies_or a b false h = h

pub implies_same_level : (a b : Level) → same_level a b ≡ true → a ≡ b
implies_same_level Main Main h = refl
implies_same_level Sub Sub h = refl
implies_same_level Nmi Nmi h = refl
implies_same_level Main Sub h = absurd (let e : false ≡ true = h in cc)
implies_same_level Main Nmi h = absurd (let e : false ≡ true = h in cc)
implies_same_level Sub Main h = absurd (let e : false ≡ true = h in cc)
implies_same_level Sub Nmi h = absurd (let e : false ≡ true = h in cc)
implies_same_level Nmi Main h = absurd (let e : false ≡ true = h in cc)
implies_same_level Nmi Sub h = absurd (let e : false ≡ true = h in cc)

same_register_is : (a b : Register) → same_register a b ≡ true → a ≡ b
same_register_is A A h = refl
same_register_is X X h = refl
same_register_is Y Y h = refl
same_register_is A X h = absurd (let e : false ≡ true = h in cc)
same_register_is A Y h = absurd (let e : false ≡ true = h in cc)
same_register_is X A h = absurd (let e : false ≡ true = h in cc)
same_register_is X Y h = absurd (let e : false ≡ true = h in cc)
same_register_is Y A h = absurd (let e : false ≡ true = h in cc)
same_register_is Y X h = absurd (let e : false ≡ true = h in cc)

pub serves_both : (a b c : Slot) → serves a b ≡ true → serves b c ≡ true → serves a c ≡ true
serves_both Any b c h g = refl
serves_both (Was r) Any c h g = absurd (let e : false ≡ true = h in cc)
serves_both (Was r) (Was s) c h g = ap (λ t. serves (Was t) c) (same_register_is r s h) ∙ g

pub serve_both : (a b c : List Slot) → serve a b ≡ true → serve b c ≡ true → serve a c ≡ true
serve_both [] b c h g = refl
serve_both (x ∷ a) [] c h g = absurd (let e : false ≡ true = h in cc)
serve_both (x ∷ a) (y ∷ b) [] h g = absurd (let e : false ≡ true = g in cc)
serve_both (x ∷ a) (y ∷ b) (z ∷ c) h g =
    let one = both (serves x y) (serve a b) h in
    let two = both (serves y z) (serve b c) g in
    and_is (serves x z) (serve a c) (serves_both x y z one.0 two.0) (serve_both a b c one.1 two.1)

pub serve_older : (a b : List Slot) → serve a b ≡ true → serve (older a) (older b) ≡ true
serve_older [] b h = refl
serve_older (x ∷ a) [] h = absurd (let e : false ≡ true = h in cc)
serve_older (x ∷ a) (y ∷ b) h = (both (serves x y) (serve a b) h).1

pub serves_newest : (a b : List Slot) → serve a b ≡ true → serves (newest a) (newest b) ≡ true
serves_newest [] b h = refl
serves_newest (x ∷ a) [] h = absurd (let e : false ≡ true = h in cc)
serves_newest (x ∷ a) (y ∷ b) h = (both (serves x y) (serve a b) h).0

pub three : (a b c : Held) → serves a.a b.a ≡ true → serves a.x b.x ≡ true → serves a.y b.y ≡ true → all_serve a b ≡ true
three a b c h g k = and_is (serves a.a b.a) (serves a.x b.x && serves a.y b.y) h (and_is (serves a.x b.x) (serves a.y b.y) g k)

pub all_parts : (a b : Held) → all_serve a b ≡ true
    → (serves a.a b.a ≡ true) × ((serves a.x b.x ≡ true) × (serves a.y b.y ≡ true))
all_parts a b h =
    let one = both (serves a.a b.a) (serves a.x b.x && serves a.y b.y) h in
    (one.0, both (serves a.x b.x) (serves a.y b.y) one.1)

pub all_both : (a b c : Held) → all_serve a b ≡ true → all_serve b c ≡ true → all_serve a c ≡ true
all_both a b c h g =
    let one = all_parts a b h in
    let two = all_parts b c g in
    three a c a (serves_both a.a b.a c.a one.0 two.0) (serves_both a.x b.x c.x one.1.0 two.1.0)
    (serves_both a.y b.y c.y one.1.1 two.1.1)

pub all_holding : (r : Register) (s t : Slot) (a b : Held) → serves s t ≡ true → all_serve a b ≡ true
    → all_serve (holding r s a) (holding r t b) ≡ true
all_holding A s t a b h g = let p = all_parts a b g in three (holding A s a) (holding A t b) a h p.1.0 p.1.1
all_holding X s t a b h g = let p = all_parts a b g in three (holding X s a) (holding X t b) a p.0 h p.1.1
all_holding Y s t a b h g = let p = all_parts a b g in three (holding Y s a) (holding Y t b) a p.0 p.1.0 h

pub all_set : (sets : Sets) (a b : Held) → all_serve a b ≡ true → all_serve (set sets a) (set sets b) ≡ true
all_set Nothing a b h = h
all_set (Only r) a b h = all_holding r Any Any a b refl h

pub serves_of_held : (r : Register) (a b : Held) → all_serve a b ≡ true → serves (of_held r a) (of_held r b) ≡ true
serves_of_held A a b h = (all_parts a b h).0
serves_of_held X a b h = (all_parts a b h).1.0
serves_of_held Y a b h = (all_parts a b h).1.1

-- what suits asks for
pub record Suited (now new : Note) : Type 0 where
  pub level : new.level ≡ now.level
  pub depth : new.depth ≡ now.depth
  pub room : new.room ≤ now.room
  pub fuel : is_nmi now ≡ true → new.fuel < now.fuel
  pub awake : implies new.awake now.awake ≡ true
  pub held : all_serve new.held now.held ≡ true
  pub slots : serve new.slots now.slots ≡ true
  pub blank : implies now.blank new.blank ≡ true
  pub ends : implies new.ends now.ends ≡ true

pub suited : (now new : Note) → suits now (Some new) ≡ true → Suited now new
suited now new h =
    let c9 = implies new.ends now.ends in
    let c8 = implies now.blank new.blank && c9 in
    let c7 = serve new.slots now.slots && c8 in
    let c6 = all_serve new.held now.held && c7 in
    let c5 = implies new.awake now.awake && c6 in
    let c4 = implies (same_level now.level Nmi) (nat_lt new.fuel now.fuel) && c5 in
    let c3 = nat_le new.room now.room && c4 in
    let c2 = nat_eq new.depth now.depth && c3 in
    let h1 = both (same_level new.level now.level) c2 h in
    let h2 = both (nat_eq new.depth now.depth) c3 h1.1 in
    let h3 = both (nat_le new.room now.room) c4 h2.1 in
    let h4 = both (implies (same_level now.level Nmi) (nat_lt new.fuel now.fuel)) c5 h3.1 in
    let h5 = both (implies new.awake now.awake) c6 h4.1 in
    let h6 = both (all_serve new.held now.held) c7 h5.1 in
    let h7 = both (serve new.slots now.slots) c8 h6.1 in
    let h8 = both (implies now.blank new.blank) c9 h7.1 in
    record {
      level = implies_same_level new.level now.level h1.0;
      depth = eqb-true new.depth now.depth h2.0;
      room = leb-true new.room now.room h3.0;
      fuel = λ is. ltb-true new.fuel now.fuel (implies_on (same_level now.level Nmi) (nat_lt new.fuel now.fuel) h4.0 is);
      awake = h5.0;
      held = h6.0;
      slots = h7.0;
      blank = h8.0;
      ends = h8.1;
    }

pub record Led (notes : Notes) (to : ℕ) (now : Note) : Type 0 where
  pub new : Note
  pub is : noted notes to ≡ Some new
  pub suited : Suited now new

-- where something leads, there is a note, which it suits
pub led : (notes : Notes) (to : ℕ) (now : Note) → leads notes to now ≡ true → Led notes to now
led notes to now h = by (noted notes to) refl h
  where
    by : (note : Option Note) → noted notes to ≡ note → suits now note ≡ true → Led notes to now
    by None is s = absurd (let e : false ≡ true = s in cc)
    by (Some new) is s = record { new = new; is = is; suited = suited now new s }
