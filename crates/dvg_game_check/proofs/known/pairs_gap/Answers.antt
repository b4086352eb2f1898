use Rattle.std.proofs.Common.{◌≡◌, ◌+◌, ◌*◌, ap, sym, ◌∙◌, arith}
use Rattle.dvg_game_check.specs.Brought.{has, has_word, known_is, known_meant}
use Rattle.dvg_game_check.proofs.Knows.{each_by_pairs, each_fails, each_unknown_a, each_unknown_x, pair_fails, pair_passes, unknown_a, unknown_x}
use Rattle.dvg_game_check.proofs.Loops.{all_under_full}
use Rattle.dvg_game_check.proofs.known.pairs_gap.Goals as goal

pub returns-then-not-is_known : goal.returns-then-not-is_known
returns-then-not-is_known c f h =
    let k = known_meant f c.args.fact.a in
    let l = known_meant f c.args.fact.x in
    let no = sym (c.is_known.ensures f) ∙ c.if-not-is_known.true in
    (each_unknown_a k l c.args.fact.most (has_word c.args.list.now) no, unknown_a (known_is k) (known_is l) no)

pub returns-then-not-is_known-2 : goal.returns-then-not-is_known-2
returns-then-not-is_known-2 c f h =
    let k = known_meant f c.args.fact.a in
    let l = known_meant f c.args.fact.x in
    let no = sym (c.is_known-2.ensures f) ∙ c.if-not-is_known-2.true in
    (each_unknown_x k l c.args.fact.most (has_word c.args.list.now) no, unknown_x (known_is k) (known_is l) no)

pub returns-then-not-contains : goal.returns-then-not-contains
returns-then-not-contains c f h =
    let k = known_meant f c.args.fact.a in
    let l = known_meant f c.args.fact.x in
    let p = has_word c.args.list.now in
    let word : c.in-Some-Some.a + 256 * c.in-Some-Some.x ≡ c.from.result + 256 * c.from-in-loop-y.result = omega arith in
    let lacks = sym c.contains.ensures ∙ c.if-not-contains.true in (
      each_fails k l c.args.fact.most p c.loop-y.y (omega arith)
          (pair_fails k l c.loop-y.y c.in-Some-Some.a c.in-Some-Some.x p (c.in-Some-Some.ensures f h) (c.in-Some-Some.ensures' f h)
          (ap (has c.args.list.now) word ∙ lacks)),
      (
        record {
          y = c.loop-y.y;
          a = c.in-Some-Some.a;
          x = c.in-Some-Some.x;
          less = omega arith;
          is_a = c.in-Some-Some.ensures f h;
          is_x = c.in-Some-Some.ensures' f h;
          word_is = sym word;
        },
        lacks,
      ),
    )

pub returns : goal.returns
returns c f h =
    each_by_pairs (known_meant f c.args.fact.a) (known_meant f c.args.fact.x) c.args.fact.most (has_word c.args.list.now)
    (omega arith)
    (all_under_full (pair_passes (known_meant f c.args.fact.a) (known_meant f c.args.fact.x) (has_word c.args.list.now)) c.loop-y.y
    c.args.fact.most (omega arith) (c.loop-y.invariant f h))
