use Rattle.std.proofs.Common.{refl}
use Rattle.dvg_named.proofs.FrameLists.{sources_pushed}
use Rattle.dvg_named.proofs.frame_rows.push_top.Goals as goal

pub returns-clause-sources : goal.returns-clause-sources
returns-clause-sources g c small at all =
    sources_pushed small c.args.top.now c.args.found.now.items c.push.new.self.items _ c.in_ok-push.ensures.items
    c.as_slice.ensures.value c.as_slice-2.ensures.value refl at all
