use Rattle.std.proofs.Common.{refl, arith, append_assoc}
use Rattle.std.proofs.lemmas.Fmt.{length-decimal-le}
use Rattle.itoa.proofs.Decimal.{decimal_pair, length_pair}
use Rattle.dvg_print.proofs.digits.put_number.Goals as goal

pub loop-left-init : goal.loop-left-init
loop-left-init c = record {
  room = omega (arith, length-decimal-le 10 c.args.number (omega arith) (omega arith) (omega arith));
  inside = omega arith;
  start = refl;
  text = refl;
}

pub put_pair-requires-clause-room : goal.put_pair-requires-clause-room
put_pair-requires-clause-room c =
    omega (arith, length_pair c.loop-left.left c.loop-left-test.true (omega arith), c.loop-left.invariant.room)

pub overflow_sub-at : goal.overflow_sub-at
overflow_sub-at c =
    omega (arith, length_pair c.loop-left.left c.loop-left-test.true (omega arith), c.loop-left.invariant.room)

pub loop-left-preserved : goal.loop-left-preserved
loop-left-preserved c =
    let l = c.loop-left in
    let long = length_pair l.left c.loop-left-test.true (omega arith) in
    record {
      room = omega (arith, long, l.invariant.room);
      inside = omega (arith, l.invariant.inside);
      start = omega (arith, long, l.invariant.start, l.invariant.room);
      text = rw c.put_pair.ensures
          (rw (decimal_pair l.left c.loop-left-test.true (omega arith), append_assoc) at l.invariant.text);
    }

pub returns-clause-few : goal.returns-clause-few
returns-clause-few c =
    omega (
      arith,
      length-decimal-le 10 c.args.number (omega arith) (omega arith) (omega arith),
      c.put_first.ensures.start,
      c.loop-left.invariant.start,
    )
