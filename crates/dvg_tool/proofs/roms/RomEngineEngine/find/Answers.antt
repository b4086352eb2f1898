use Rattle.dvg_tool.proofs.PrefixDecides.{finds_rom}
use Rattle.dvg_tool.proofs.roms.RomEngineEngine.find.Goals as goal

pub returns : goal.returns
returns g c =
    let made = c.words_of_rom.ensures in
    finds_rom c.args.read.now c.words_of_rom.result made.size made.words made.fault
