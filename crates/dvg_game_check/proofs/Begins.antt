-- What holds where a program starts, and where the NMI comes.
use Rattle.std.proofs.Common.{◌≡◌, ℕ, zero, suc, ◌+◌, ◌-◌, ◌<◌, ◌≤◌, ◌&&◌, Bool, true, false, not, refl, sym, ◌∙◌, ap, subst, arith}
use Rattle.std.specs.Prelude.{Option, None, Some, List, [], ◌∷◌, nat_eq, nat_le}
use Rattle.std.proofs.lemmas.Bool.{eqb-true, leb-true}
use Rattle.dvg_game_words.specs.Checker.{Level, Main, Sub, Nmi, Note, all_serve, implies, interrupts, most, same_level, serve, spare, starts, unchanged}
use Rattle.dvg_game_check.specs.Least.{Comes, ComesAt, IsKnown, is_nmi, limit}
use Rattle.dvg_game_check.proofs.Onwards.{limit_is, limit_of, nmi_of}
use Rattle.dvg_game_check.proofs.Suited.{both, implies_same_level}

asleep : (a b : Bool) → not a ≡ true → implies a b ≡ true
asleep false b h = refl
asleep true b h = absurd (let e : false ≡ true = h in cc)

unblank : (a b : Bool) → a ≡ false → implies a b ≡ true
unblank false b h = refl
unblank true b h = absurd (let e : true ≡ false = h in cc)

pub comes_start : (m : Note) (note : Option Note) → m.level ≡ Main → m.depth ≡ 0 → m.blank ≡ false → starts note ≡ true
    → ComesAt m note
comes_start m None l d b h = absurd (let e : false ≡ true = h in cc)
comes_start m (Some n) l d b h =
    let one = both (same_level n.level Main) (nat_eq n.depth 0 && (nat_le (n.room + spare) 255 && not n.awake)) h in
    let two = both (nat_eq n.depth 0) (nat_le (n.room + spare) 255 && not n.awake) one.1 in
    let three = both (nat_le (n.room + spare) 255) (not n.awake) two.1 in
    let level = implies_same_level n.level Main one.0 in
    let depth = eqb-true n.depth 0 two.0 in
    let room : n.room + 32 ≤ 255 = leb-true (n.room + spare) 255 three.0 in
    let most : limit n ≡ 223 = limit_is n ∙ ap limit_of level in
    record {
      level = l ∙ sym level;
      depth = d ∙ sym depth;
      awake = asleep n.awake m.awake three.1;
      blank = unblank m.blank n.blank b;
      room = omega (arith, room, depth, most);
      nmi = λ is. absurd (let e : false ≡ true = sym (ap nmi_of level) ∙ is in cc);
    }

pub comes_nmi : (m : Note) (note : Option Note) → m.level ≡ Nmi → m.depth ≡ 0 → m.blank ≡ false → m.held ≡ unchanged
    → m.slots ≡ [] → interrupts note ≡ true → ComesAt m note
comes_nmi m None l d b k s h = absurd (let e : false ≡ true = h in cc)
comes_nmi m (Some n) l d b k s h =
    let c7 = serve n.slots [] in
    let c6 = all_serve n.held unchanged && c7 in
    let c5 = not n.awake && c6 in
    let c4 = nat_le n.fuel most && c5 in
    let c3 = nat_le (n.room + 3) spare && c4 in
    let c2 = nat_eq n.depth 0 && c3 in
    let h1 = both (same_level n.level Nmi) c2 h in
    let h2 = both (nat_eq n.depth 0) c3 h1.1 in
    let h3 = both (nat_le (n.room + 3) spare) c4 h2.1 in
    let h4 = both (nat_le n.fuel most) c5 h3.1 in
    let h5 = both (not n.awake) c6 h4.1 in
    let h6 = both (all_serve n.held unchanged) c7 h5.1 in
    let level = implies_same_level n.level Nmi h1.0 in
    let depth = eqb-true n.depth 0 h2.0 in
    let room : n.room + 3 ≤ 32 = leb-true (n.room + 3) spare h3.0 in
    let fuel : n.fuel ≤ 800 = leb-true n.fuel most h4.0 in
    let full : limit n ≡ 29 = limit_is n ∙ ap limit_of level in
    record {
      level = l ∙ sym level;
      depth = d ∙ sym depth;
      awake = asleep n.awake m.awake h5.0;
      blank = unblank m.blank n.blank b;
      room = omega (arith, room, depth, full);
      nmi = λ is. record {
        held = subst (λ held. all_serve n.held held ≡ true) (sym k) h6.0;
        slots = subst (λ slots. serve n.slots slots ≡ true) (sym s) h6.1;
        ends = fuel;
      };
    }
