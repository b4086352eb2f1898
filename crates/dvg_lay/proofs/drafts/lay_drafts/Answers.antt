use Rattle.std.proofs.Common.{◌∙◌}
use Rattle.dvg_lay.proofs.RomBytes.{even_rom}
use Rattle.dvg_lay.proofs.drafts.lay_drafts.Goals as goal

pub collect_words-requires : goal.collect_words-requires
collect_words-requires g c = even_rom c.args.rom.now c.as_slice.result.now c.len_words.ensures.rom (c.as_slice.ensures.value ∙ c.in_ok-bytes.ensures)
