-- Facts of the checker's tests.
use Rattle.std.proofs.Common.{◌≡◌, ℕ, zero, suc, ◌<◌, ◌≤◌, ◌+◌, Bool, true, false, refl, sym, ap, subst, arith}
use Rattle.std.proofs.Common.{eqb-true, leb-true}
use Rattle.std.proofs.lemmas.Bool.{eqb-false}
use Rattle.std.specs.Prelude.{if◌then◌else◌, nat_eq, nat_le, nat_lt, ◌&&◌, Option, None, Some}
use Rattle.dvg_game_rules.specs.Checker.{Level, Main, Sub, Nmi, Note, Notes, same_level, all_under, implies, suits, leads}
use Rattle.dvg_game_rules.specs.Checker.{noted, first, places, is_code, all_serve, serve}
pub use Rattle.std.proofs.lemmas.Bool.{and_parts as both_true, not-true as not_true}

pub else_true : (t u v : Bool) → t ≡ false → (if t then u else v) ≡ true → v ≡ true
else_true true u v is fine = absurd (cc)
else_true false u v is fine = fine

pub implied : (t u : Bool) → implies t u ≡ true → t ≡ true → u ≡ true
implied true true is h = refl
implied true false is h = absurd (cc)
implied false u is h = absurd (cc)

pub same : (l m : Level) → same_level l m ≡ true → l ≡ m
same Main Main is = refl
same Sub Sub is = refl
same Nmi Nmi is = refl
same Main Sub is = absurd (cc)
same Main Nmi is = absurd (cc)
same Sub Main is = absurd (cc)
same Sub Nmi is = absurd (cc)
same Nmi Main is = absurd (cc)
same Nmi Sub is = absurd (cc)

less_than : (i n : ℕ) → i < suc n → nat_eq i n ≡ false → i < n
less_than i n less other = let apart = eqb-false i n other in omega (arith, less, apart)

pub under : (n : ℕ) (p : ℕ → Bool) → all_under n p ≡ true → (i : ℕ) → i < n → p i ≡ true
under zero p all i less = absurd (omega (arith, less))
under (suc n) p all i less = by (nat_eq i n) refl (λ fewer. under n p two.1 i fewer)
  where
    two : (p n ≡ true) × (all_under n p ≡ true)
    two = both_true (p n) (all_under n p) all

    by : (t : Bool) → nat_eq i n ≡ t → (i < n → p i ≡ true) → p i ≡ true
    by true is older = subst (λ j. p j ≡ true) (sym (eqb-true i n is)) two.0
    by false other older = older (less_than i n less other)

-- an instruction that begins here is in the ROM
abbrev pub IsInside : ℕ → Type 0
IsInside pc = (0x4800 ≤ pc) × (pc + 2 < 0x8000)

-- a place that is noted is in the program's ROM
pub within : (notes : Notes) (at : ℕ) (now : Note) → noted notes at ≡ Some now → (first ≤ at) × (at < first + places)
within notes at now is = by (nat_le first at && nat_lt at (first + places)) refl is
  where
    by : (t : Bool) → (nat_le first at && nat_lt at (first + places)) ≡ t → (if t then notes at else None) ≡ Some now
        → (first ≤ at) × (at < first + places)
    by true inside is = let two = both_true (nat_le first at) (nat_lt at (first + places)) inside in
        (leb-true first at two.0, leb-true (suc at) (first + places) two.1)
    by false out is = absurd (cc)

pub inside : (at : ℕ) → is_code at ≡ true → IsInside at
unfolding places
inside at is = let two = both_true (nat_le first at) (nat_lt at (first + places)) is in
    let low = leb-true first at two.0 in let high = leb-true (suc at) (first + places) two.1 in
    (omega (arith, low), omega (arith, high))

pub placed : (notes : Notes) (at : ℕ) (now : Note) → noted notes at ≡ Some now → IsInside at
unfolding places
placed notes at now is = let two = within notes at now is in
    let low = two.0 in let high = two.1 in (omega (arith, low), omega (arith, high))

pub is_inside : (notes : Notes) (at : ℕ) (now : Note) → noted notes at ≡ Some now → is_code at ≡ true
is_inside notes at now is = by (is_code at) refl is
  where
    by : (t : Bool) → is_code at ≡ t → (if t then notes at else None) ≡ Some now → t ≡ true
    by true inside is = refl
    by false out is = absurd (cc)

-- what is to come is noted, and suits
pub record Leads (notes : Notes) (to : ℕ) (now : Note) : Type 0 where
  pub new : Note
  pub is : noted notes to ≡ Some new
  pub level : new.level ≡ now.level
  pub depth : new.depth ≡ now.depth
  pub room : new.room ≤ now.room
  pub fuel : now.level ≡ Nmi → new.fuel < now.fuel
  pub awake : new.awake ≡ true → now.awake ≡ true
  pub held : all_serve new.held now.held ≡ true
  pub slots : serve new.slots now.slots ≡ true
  pub blank : now.blank ≡ true → new.blank ≡ true
  pub ends : new.ends ≡ true → now.ends ≡ true

pub leading : (notes : Notes) (to : ℕ) (now : Note) → leads notes to now ≡ true → Leads notes to now
leading notes to now fine = by (noted notes to) refl fine
  where
    by : (n : Option Note) → noted notes to ≡ n → suits now n ≡ true → Leads notes to now
    by None is fine = absurd (cc)
    by (Some new) is fine =
        let a = both_true (same_level new.level now.level) _ fine in
        let b = both_true (nat_eq new.depth now.depth) _ a.1 in
        let c = both_true (nat_le new.room now.room) _ b.1 in
        let d = both_true (implies (same_level now.level Nmi) (nat_lt new.fuel now.fuel)) _ c.1 in
        let e = both_true (implies new.awake now.awake) _ d.1 in
        let f = both_true (all_serve new.held now.held) _ e.1 in
        let g = both_true (serve new.slots now.slots) _ f.1 in
        let k = both_true (implies now.blank new.blank) _ g.1 in
        record {
          new = new;
          is = is;
          level = same new.level now.level a.0;
          depth = eqb-true new.depth now.depth b.0;
          room = leb-true new.room now.room c.0;
          fuel = λ nmi. leb-true (suc new.fuel) now.fuel
              (implied (same_level now.level Nmi) (nat_lt new.fuel now.fuel) d.0 (ap (λ l. same_level l Nmi) nmi));
          awake = implied new.awake now.awake e.0;
          held = f.0;
          slots = g.0;
          blank = implied now.blank new.blank k.0;
          ends = implied new.ends now.ends k.1;
        }
