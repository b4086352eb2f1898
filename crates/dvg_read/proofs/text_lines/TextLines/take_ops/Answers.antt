use Rattle.std.proofs.Common.{◌≡◌, ◌<◌, ◌∷◌, ◌++◌, [], ap, arith, length, length-append, rules}
use Rattle.dvg_read.specs.TextLines.{lines_left}
use Rattle.dvg_read.proofs.OpsAhead.{adds_nothing, adds_one}
use Rattle.dvg_read.proofs.text_lines.TextLines.take_ops.Goals as goal

pub loop-head-init : goal.loop-head-init
loop-head-init c = record { adds = adds_nothing (lines_left c.args.self.now) c.args.draft.now; few = c.requires.few }

pub loop-head-preserved : goal.loop-head-preserved
loop-head-preserved c =
    let added : c.push.new.self ≡ c.loop-head.draft ++ c.in-Some.head.0 ∷ [] = search rules in
    let room : length c.loop-head.draft < 511 = search rules in
    record {
      adds = adds_one (lines_left c.args.self.now) c.loop-head.rest.now c.in-Some.head.1.now c.args.draft.now
          c.loop-head.draft c.push.new.self c.in-Some.head.0 c.loop-head.count c.loop-head.invariant.adds
          c.in-Some.ensures added;
      few = omega (arith, room, ap length added, length-append c.loop-head.draft (c.in-Some.head.0 ∷ []));
    }

pub loop-head-smaller : goal.loop-head-smaller
loop-head-smaller c = omega (arith, ap length c.in-Some.ensures.cut)
