use Rattle.std.proofs.Common.{◌≡◌, sym, subst}
use Rattle.dvg_device.specs.Devices.{Driver, IsNewDriver}
use Rattle.dvg_device.proofs.FoundInAnswer.{found_is, may_be_found}
use Rattle.dvg_device.proofs.device.boxed_desk.Goals as goal

pub returns : goal.returns
returns c =
    let rom = found_is (λ rom. rom ≡ c.args.rom.now) c.new.result c.ok.result c.in_ok-rom.rom c.ok.ensures.value c.in_ok-rom.was c.new.ensures.bytes in
    let desk = found_is (λ desk. IsNewDriver c.in_ok-rom.rom (Driver desk)) c.new-2.result c.ok-2.result c.in_ok-desk.desk c.ok-2.ensures.value c.in_ok-desk.was c.new-2.ensures in
    let here = subst (λ rom. IsNewDriver rom (Driver c.in_ok-desk.desk)) rom desk in
    may_be_found (λ boxed. boxed.value ≡ c.in_ok-desk.desk) (λ boxed. IsNewDriver c.args.rom.now (Driver boxed.value)) c.new-3.result c.ok-3.result c.ok-3.ensures.value (λ boxed same. subst (λ desk. IsNewDriver c.args.rom.now (Driver desk)) (sym same) here) c.new-3.ensures.ok
