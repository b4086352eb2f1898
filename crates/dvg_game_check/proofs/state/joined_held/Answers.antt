use Rattle.dvg_game_check.specs.Rules.{held_meant}
use Rattle.dvg_game_check.proofs.Suited.{all_parts, three}
use Rattle.dvg_game_check.proofs.state.joined_held.Goals as goal

pub returns : goal.returns
returns c asked one two =
    let a = all_parts asked (held_meant c.args.one) one in
    let b = all_parts asked (held_meant c.args.other) two in
    three asked _ asked (c.joined_slot.ensures asked.a a.0 b.0) (c.joined_slot-2.ensures asked.x a.1.0 b.1.0)
    (c.joined_slot-3.ensures asked.y a.1.1 b.1.1)
