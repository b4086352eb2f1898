use Rattle.std.proofs.Common.{◌++◌, ◌∙◌, take, rules}
use Rattle.dvg_io.specs.Watching.{BeginsToWrite}
use Rattle.dvg_io.proofs.KnownBytesChain.{Appends-trans, Appends-kept, moves_front}
use Rattle.dvg_io.proofs.transfer.write_rest.Goals as goal

pub loop-rest-preserved : goal.loop-rest-preserved
loop-rest-preserved g c =
    let (done, split, appended) = c.loop-rest.invariant.went_out in
    let rest = c.loop-rest.rest.now in
    let count = c.in-Ok.count in
    record {
      went_out = (done ++ take count rest, moves_front _ done rest count split, Appends-trans _ _ _ _ _ appended c.in-Ok.ensures.bytes);
      counted = c.in-Ok.ensures.counts ∙ c.loop-rest.invariant.counted;
    }

pub returns-in_default : goal.returns-in_default
returns-in_default g c =
    let (done, split, appended) = c.loop-rest.invariant.went_out in
    let begun : BeginsToWrite c.args.text.now _ _ = record {
      front = done;
      rest = c.loop-rest.rest.now;
      parts = split;
      wrote = Appends-kept _ _ _ _ appended c.in_default.ensures.bytes;
    } in
    (begun, search rules)
