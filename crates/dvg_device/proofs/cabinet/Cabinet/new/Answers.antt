use Rattle.std.proofs.Common.{◌≡◌, [], subst}
use Rattle.dvg_world.specs.Standing.{WorldAfter}
use Rattle.dvg_device.proofs.FoundInAnswer.{found_is}
use Rattle.dvg_device.proofs.cabinet.Cabinet.new.Goals as goal

pub returns : goal.returns
returns c =
    let image = found_is (λ image. image ≡ c.args.image.now) c.new.result c.ok.result c.in_ok-image.image c.ok.ensures.value c.in_ok-image.was c.new.ensures.bytes in
    let rom = found_is (λ rom. rom ≡ c.args.rom.now) c.new-2.result c.ok-2.result c.in_ok-rom.rom c.ok-2.ensures.value c.in_ok-rom.was c.new-2.ensures.bytes in
    let stands = found_is (WorldAfter c.in_ok-rom.rom c.in_ok-image.image []) c.new-3.result c.ok-3.result c.in_ok-world.world c.ok-3.ensures.value c.in_ok-world.was c.new-3.ensures.stands in
    record {
      stands = subst (λ rom. WorldAfter rom c.args.image.now [] c.in_ok-world.world) rom (subst (λ image. WorldAfter c.in_ok-rom.rom image [] c.in_ok-world.world) image stands);
      picture = found_is (λ world. world.machine.picture ≡ []) c.new-3.result c.ok-3.result c.in_ok-world.world c.ok-3.ensures.value c.in_ok-world.was c.new-3.ensures.picture;
    }
