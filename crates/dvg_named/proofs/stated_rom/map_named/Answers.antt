use Rattle.std.proofs.Common.{◌≡◌, ◌∷◌, ◌++◌, codes, arith, rules}
use Rattle.dvg_read.proofs.OpRows.{named}
use Rattle.dvg_read.specs.RomTexts.{IsMapLine, large, small}
use Rattle.dvg_named.proofs.stated_rom.map_named.Goals as goal

pub returns-in-50-clause-found : goal.returns-in-50-clause-found
returns-in-50-clause-found c =
    let is : c.args.name.now ≡ codes "map" = search rules in
    rw is (named (λ size. IsMapLine 0x800 (codes "map" ++ 32 ∷ size)) _ (codes "2048") (omega arith) (search rules) small)

pub returns-in-52-clause-found : goal.returns-in-52-clause-found
returns-in-52-clause-found c =
    let is : c.args.name.now ≡ codes "map" = search rules in
    rw is (named (λ size. IsMapLine 0x400 (codes "map" ++ 32 ∷ size)) _ (codes "4096") (omega arith) (search rules) large)
