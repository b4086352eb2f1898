use Rattle.std.proofs.Common.{length, ◌≤◌, ◌+◌, ◌-◌}
use Rattle.dvg_frame.specs.declared.checking.chain.TheConstants.{LONGEST}
use Rattle.dvg_frame.specs.own.Tables.{HasChain, IsTable, KeepsKnown}
use Rattle.dvg_frame.proofs.checking.bounds.+settle.Given as goal

abbrev pub decreases-settle : goal.decreases-settle
decreases-settle g l = 4 - l.start.depth

abbrev pub invariant-loop-start : goal.invariant-loop-start
invariant-loop-start g l = record {
  entries : IsTable l.draft l.rom l.table;
  kept : KeepsKnown l.fn.table l.table;
  left : HasChain l.draft l.rom l.table l.fn.start.depth l.fn.start.place l.rest l.fn.chain l.chain;
  room : length l.chain ≤ length l.fn.chain + LONGEST;
}

abbrev pub decreases-loop-start : goal.decreases-loop-start
decreases-loop-start g l = length l.chain
