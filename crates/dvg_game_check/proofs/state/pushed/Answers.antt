use Rattle.std.proofs.Common.{◌≡◌, ◌∙◌, ◌∷◌, suc, ap, arith, set, subst, sym, true}
use Rattle.dvg_game_words.specs.Checker.{serve}
use Rattle.dvg_game_check.specs.Least.{IsKnown, stacked}
use Rattle.dvg_game_check.specs.Rules.{slot_meant}
use Rattle.dvg_game_check.proofs.Pushes.{stacked_pushed}
use Rattle.dvg_game_check.proofs.state.pushed.Goals as goal

pub returns-then-depth-lt-SLOTS : goal.returns-then-depth-lt-SLOTS
returns-then-depth-lt-SLOTS c n comes =
    let depth : c.saturating_add.result ≡ suc c.from-depth.result = omega arith in
    let e : stacked (set c.args.state.slots c.from-depth.result c.args.slot) c.saturating_add.result
    ≡ slot_meant c.args.slot ∷ stacked c.args.state.slots c.args.state.depth =
    ap (stacked (set c.args.state.slots c.from-depth.result c.args.slot)) depth
    ∙ (stacked_pushed c.args.state.slots c.from-depth.result c.args.slot (omega arith)
    ∙ ap (λ d. slot_meant c.args.slot ∷ stacked c.args.state.slots d) c.from-depth.ensures) in
    record {
      level = comes.level;
      depth = omega (arith, comes.depth);
      awake = comes.awake;
      blank = comes.blank;
      room = comes.room;
      nmi = λ is.
          let known = comes.nmi is in
          record { held = known.held; slots = subst (λ s. serve n.slots s ≡ true) (sym e) known.slots; ends = known.ends };
    }
