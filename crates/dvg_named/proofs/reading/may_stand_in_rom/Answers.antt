use Rattle.std.proofs.Common.{subst, sym}
use Rattle.std.specs.Prelude.{◌↔◌, IfSome, IsTrue}
use Rattle.dvg_named.specs.RomBytes.{MayBeEncoded}
use Rattle.dvg_rows.specs.RowValues.{doing_of_some}
use Rattle.dvg_named.proofs.reading.may_stand_in_rom.Goals as goal

pub returns-in-Some : goal.returns-in-Some
returns-in-Some c =
    subst (λ doing. IsTrue c.may_be_encoded.result ↔ IfSome (doing_of_some doing) MayBeEncoded) (sym c.in-Some.is)
    c.may_be_encoded.ensures
