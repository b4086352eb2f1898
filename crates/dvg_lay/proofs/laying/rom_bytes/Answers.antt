use Rattle.std.proofs.Common.{◌∙◌, ◌≤◌, ◌++◌, ap, subst}
use Rattle.dvg_lay.proofs.RomBytes.{word_added}
use Rattle.dvg_lay.proofs.laying.rom_bytes.Goals as goal

pub loop-address-preserved : goal.loop-address-preserved
loop-address-preserved g c =
    word_added c.args.rom.now c.loop-address.address c.word.result c.loop-address.text.items c.extend_from_slice.new.self.items c.len_words.ensures.rom
    (subst (λ first. first ≤ c.loop-address.address) c.first-address.ensures.first c.loop-address.auto.address) c.loop-address-test.true c.word.ensures
    (c.in_ok-extend_from_slice.ensures.items ∙ ap (λ bytes. c.loop-address.text.items ++ bytes) c.to_le_bytes.ensures) c.loop-address.invariant
