use Rattle.std.proofs.Common.{◌≡◌, ◌∙◌, ◌&&◌, ◌||◌, Bool, ap, arith, false, refl, subst, sym, true}
use Rattle.dvg_game_words.specs.Checker.{Nmi, implies, same_level, serve}
use Rattle.dvg_game_check.specs.Least.{IsKnown, stacked}
use Rattle.dvg_game_check.proofs.Onwards.{limit_is, limit_of, nmi_of}
use Rattle.dvg_game_check.proofs.Suited.{implies_same_level}
use Rattle.dvg_game_check.proofs.state.joined.Goals as goal

two : (a b c : Bool) → implies a b ≡ true → implies a c ≡ true → implies a (b && c) ≡ true
two false b c h g = refl
two true true c h g = g
two true false c h g = h

either : (a b n : Bool) → implies a n ≡ true → implies b n ≡ true → implies (a || b) n ≡ true
either true b n h g = h
either false b n h g = g

pub returns : goal.returns
returns c n under comes = record {
  comes = record {
    level = under.comes.level;
    depth = under.comes.depth;
    awake = ap (λ b. implies n.awake b) c.both-awake.ensures
        ∙ two n.awake c.args.old.awake c.args.new.awake under.comes.awake comes.awake;
    blank = ap (λ b. implies b n.blank) c.either-blank.ensures
        ∙ either c.args.old.blank c.args.new.blank n.blank under.comes.blank comes.blank;
    room = under.comes.room;
    nmi = λ is.
        let old = under.comes.nmi is in
        let new = comes.nmi is in
        let level = ap nmi_of under.comes.level ∙ is in
        let most = limit_is n ∙ ap limit_of (implies_same_level n.level Nmi is) in
        let same = comes.depth ∙ sym under.comes.depth in
        record {
          held = c.joined_held-held.ensures n.held old.held new.held;
          slots =
              c.met_slots-slots.ensures level n.slots c.args.old.depth
              (omega (arith, under.comes.room, under.comes.depth, most)) old.slots
              (subst (λ d. serve n.slots (stacked c.args.new.slots d) ≡ true) same new.slots);
          ends = old.ends;
        };
  };
  needed = under.needed;
}
