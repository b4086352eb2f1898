use Rattle.dvg_named.specs.LaidValues.{laid_sections}
use Rattle.dvg_named.proofs.ListedNames.{addresses_described}
use Rattle.dvg_named.proofs.laid.LaidNames.new.Goals as goal

pub invariant_of-result : goal.invariant_of-result
invariant_of-result g c =
    addresses_described (laid_sections c.args.sections.now) c.args.names.now c.requires.listed c.requires.addresses
    c.args.given.now.given.keys c.requires.given
