use Rattle.std.proofs.Common.{subst, ◌≡◌, ◌++◌}
use Rattle.std.specs.Prelude.{OnOk}
use Rattle.dvg_read.proofs.Returns.{row_bytes, row_more}
use Rattle.dvg_read.proofs.rom_text.fill_with_returns.Goals as goal

pub loop-row-preserved : goal.loop-row-preserved
loop-row-preserved c =
    let is = subst (λ r. OnOk r (c.try_extend_from_slice.new.self.items ≡ c.loop-row.bytes.items ++ row_bytes)) c.unwrap.ensures c.try_extend_from_slice.ensures.ok in
    record { returns = row_more _ _ c.loop-row._row c.loop-row.invariant.returns is }
