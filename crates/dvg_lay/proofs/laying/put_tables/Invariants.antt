use Rattle.std.proofs.Common.{◌≡◌, ◌++◌, All, drop, take}
use Rattle.dvg_blame.specs.Refusals.{IsGood}
use Rattle.dvg_lay.specs.Texts.{tables}
use Rattle.dvg_lay.proofs.laying.put_tables.Given as goal

abbrev pub invariant-loop-number : goal.invariant-loop-number
invariant-loop-number g l = record {
  good : All (IsGood l.rom) (take l.number l.frames);
  text : l.text.items ++ tables l.number (drop l.number l.frames) ≡ tables 0 l.frames;
}
