use Rattle.std.proofs.Common.{◌≡◌, length, rules}
use Rattle.dvg_mem.proofs.OneByteThroughout.{filled_up}
use Rattle.dvg_mem.proofs.flat.FlatStore.write.Goals as goal

pub returns-in-Some-clause-content : goal.returns-in-Some-clause-content
returns-in-Some-clause-content g c =
    let size : length c.as_mut_slice.result.now ≡ length c.self.inside.bytes.value = search rules in
    let same : c.deref_mut-in-Some.result.now ≡ c.args.self.now =
    filled_up c.self.inside.everywhere c.self.inside.bytes.value c.args.self.now c.deref_mut-in-Some.result.now
    c.in-Some.byte (length c.as_mut_slice.result.now)
    c.in-Some.is c.self.view_is (search rules) size in
    let at : c.from.result ≡ c.args.a = search rules in
    rw (same, at)
