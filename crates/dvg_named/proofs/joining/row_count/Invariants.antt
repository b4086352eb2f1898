use Rattle.std.proofs.Common.{◌≡◌, ◌-◌, ◌^◌, length, min, take}
use Rattle.std.specs.List.{sum_by}
use Rattle.dvg_named.specs.declared.frame_rows.FrameRows.{FrameRows}
use Rattle.dvg_named.proofs.joining.row_count.Given as goal

abbrev pub invariant-loop-frame : goal.invariant-loop-frame
invariant-loop-frame l =
    l.count ≡ min (sum_by (λ (frame : FrameRows). length frame.rows.now) (take l.frame-index l.frames)) (2 ^ 64 - 1)
