use Rattle.std.proofs.Common.{◌≡◌, ◌++◌, drop, flat_map}
use Rattle.dvg_lay.specs.Drafts.{offer_lines}
use Rattle.dvg_lay.proofs.drafts.put_offers.Given as goal

abbrev pub invariant-loop-frame : goal.invariant-loop-frame
invariant-loop-frame g l = l.text.items ++ flat_map offer_lines (drop l.frame-index l.frames) ≡ l.fn.text.items ++ flat_map offer_lines l.frames
