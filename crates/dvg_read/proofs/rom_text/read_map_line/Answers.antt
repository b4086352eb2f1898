use Rattle.std.proofs.Common.{◌≡◌, codes, rules}
use Rattle.dvg_read.specs.RomTexts.{large, small}
use Rattle.dvg_read.proofs.rom_text.read_map_line.Goals as goal

pub returns-then-eq-clause-found : goal.returns-then-eq-clause-found
returns-then-eq-clause-found c = let is : c.args.line.now ≡ codes "map 2048" = search rules in rw is small

pub returns-then-eq-2-clause-found : goal.returns-then-eq-2-clause-found
returns-then-eq-2-clause-found c = let is : c.args.line.now ≡ codes "map 4096" = search rules in rw is large
