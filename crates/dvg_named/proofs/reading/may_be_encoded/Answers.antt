use Rattle.std.proofs.Common.{subst, sym}
use Rattle.std.specs.Prelude.{◌↔◌, IsTrue}
use Rattle.dvg_named.specs.RomBytes.{MayBeEncoded}
use Rattle.dvg_rows.specs.RowValues.{doing_of}
use Rattle.dvg_rows.specs.Rows.{plainly}
use Rattle.dvg_named.proofs.reading.may_be_encoded.Goals as goal

pub returns-in-Plainly : goal.returns-in-Plainly
returns-in-Plainly c =
    subst (λ doing. IsTrue c.is_without_number.result ↔ MayBeEncoded (doing_of doing)) (sym c.in-Plainly.is)
    (subst (λ kind. IsTrue c.is_without_number.result ↔ MayBeEncoded (plainly kind)) c.kind.ensures.value
    c.is_without_number.ensures)
