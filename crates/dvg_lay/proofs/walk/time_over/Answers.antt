use Rattle.std.proofs.Common.{◌≡◌, ◌∙◌, ◌+◌, add-one, ap, arith, false, refl, subst, sym, true}
use Rattle.dvg_mem.specs.Memory.{fetched}
use Rattle.dvg_lay.specs.Times.{local_scale, told, with_one}
use Rattle.dvg_lay.specs.Walks.{Does}
use Rattle.dvg_lay.proofs.TimedRun.{Follows, at_end, at_hole, at_last, follows_first, follows_held, follows_on}
use Rattle.dvg_lay.proofs.walk.time_over.Goals.{in-Some-read+else-not-obey, in_default-read}
use Rattle.dvg_lay.proofs.walk.time_over.Goals as goal

pub loop-step-init : goal.loop-step-init
loop-step-init g c = record {
  follows = follows_first (fetched c.args.ram.now c.args.rom.now) c.new-walk.result c.nothing-spent.result c.new-walk.ensures c.nothing-spent.ensures;
  vectors = omega (arith, ap (λ s. s.vectors) c.nothing-spent.ensures);
  others = omega (arith, ap (λ s. s.others) c.nothing-spent.ensures);
  parts = omega (arith, ap (λ s. s.parts) c.nothing-spent.ensures);
}

pub returns-in_default : goal.returns-in_default
returns-in_default g c =
    let memory = fetched c.args.ram.now c.args.rom.now in
    let none = ap (λ w. memory w.at) (sym c.walk.view_is) ∙ sym c.in_default.ensures.word in
    let timed = at_hole c.loop-step.invariant.follows c.loop-step-test.true none in
    (timed.0, timed.1, timed.2, c.told.ensures ∙ ap told timed.3)

pub returns-then-not-obey : goal.returns-then-not-obey
returns-then-not-obey g c =
    let memory = fetched c.args.ram.now c.args.rom.now in
    let walk = c.loop-step.walk in
    let spent = c.loop-step.spent in
    let code = c.in-Some-read.code in
    let there = ap (λ w. memory w.at) (sym c.walk.view_is) ∙ sym c.in-Some.ensures.word in
    let same = c.in-Some-read.ensures.found.1 in
    let more = c.add.ensures.added ∙ ap (λ w. with_one spent w.scale (local_scale code)) (c.walk-in-Some-read.view_is ∙ same) in
    let does : Does walk code c.obey.new.self c.obey.result = subst (λ w. Does w code c.obey.new.self c.obey.result) same c.obey.ensures in
    let stops : Does walk code c.obey.new.self false = subst (λ b. Does walk code c.obey.new.self b) c.if-not-obey.true does in
    let timed = at_end c.loop-step.invariant.follows c.in-Some.word there code c.in-Some-read.ensures.found.0 c.add.new.self more c.loop-step-test.true stops in
    (timed.0, timed.1, timed.2, c.told-then-not-obey.ensures ∙ ap told timed.3)

pub loop-step-preserved : goal.loop-step-preserved
loop-step-preserved g c =
    let memory = fetched c.args.ram.now c.args.rom.now in
    let walk = c.loop-step.walk in
    let spent = c.loop-step.spent in
    let words = c.loop-step.step in
    let so_far = c.loop-step.invariant in
    let there = ap (λ w. memory w.at) (sym c.walk.view_is) ∙ sym c.in-Some.ensures.word in
    elim c.match-read.branch [
      | in-Some-read+else-not-obey w ↦
          let code = w.in-Some-read.code in
          let same = w.in-Some-read.ensures.found.1 in
          let more = w.add.ensures.added ∙ ap (λ w. with_one spent w.scale (local_scale code)) (w.walk-in-Some-read.view_is ∙ same) in
          let does : Does walk code w.obey.new.self w.obey.result = subst (λ v. Does v code w.obey.new.self w.obey.result) same w.obey.ensures in
          let goes : Does walk code w.obey.new.self true = subst (λ b. Does walk code w.obey.new.self b) w.if-not-obey.false does in
          let follows = follows_on so_far.follows c.in-Some.word there code w.in-Some-read.ensures.found.0 w.add.new.self more w.obey.new.self goes.0 goes.1 in
          let counted = subst (λ n. Follows memory n w.obey.new.self w.add.new.self) (sym (add-one words)) follows in
          record {
            follows = subst (λ v. Follows memory (words + 1) v c.match-read.spent) (sym w.walk-is)
                (subst (λ s. Follows memory (words + 1) w.obey.new.self s) (sym w.spent-is) counted);
            vectors = omega (arith, ap (λ s. s.vectors) w.spent-is, w.add.ensures.vectors, so_far.vectors);
            others = omega (arith, ap (λ s. s.others) w.spent-is, w.add.ensures.others, so_far.others);
            parts = omega (arith, ap (λ s. s.parts) w.spent-is, w.add.ensures.parts, so_far.parts);
          }
      | in_default-read w ↦
          let first = w.in_default-read.ensures.first refl in
          let follows = follows_held so_far.follows c.in-Some.word there c.read.new.self first.0 first.1 first.2 in
          let counted = subst (λ n. Follows memory n c.read.new.self spent) (sym (add-one words)) follows in
          record {
            follows = subst (λ v. Follows memory (words + 1) v c.match-read.spent) (sym w.walk-is)
                (subst (λ s. Follows memory (words + 1) c.read.new.self s) (sym w.spent-is) counted);
            vectors = omega (arith, ap (λ s. s.vectors) w.spent-is, so_far.vectors);
            others = omega (arith, ap (λ s. s.others) w.spent-is, so_far.others);
            parts = omega (arith, ap (λ s. s.parts) w.spent-is, so_far.parts);
          }
    ]

pub returns : goal.returns
returns g c =
    let all : c.loop-step.step ≡ 65536 = omega arith in
    let timed = at_last c.loop-step.invariant.follows all in
    (timed.0, timed.1, timed.2, c.told-2.ensures ∙ ap told timed.3)
