-- Each of these is the law of all games, at bytes of which the prover computed what the two tests say.
use Rattle.dvg_game_rules.specs.First as first_game
use Rattle.dvg_game_rules.specs.Bat as bat_game
use Rattle.dvg_game_rules.specs.Asteroid as asteroid_game
use Rattle.dvg_game_rules.specs.Rocks as rocks_game
use Rattle.dvg_game_rules.specs.TestRom as test_rom_game
use Rattle.dvg_game_rules.proofs.First as first_told
use Rattle.dvg_game_rules.proofs.Bat as bat_told
use Rattle.dvg_game_rules.proofs.Asteroid as asteroid_told
use Rattle.dvg_game_rules.proofs.Rocks as rocks_told
use Rattle.dvg_game_rules.proofs.TestRom as test_rom_told
use Rattle.dvg_game_content.proofs.ContentFromBytes.{content_by_bytes}
use Rattle.dvg_closed_board.specs.FirstContent as first_content
use Rattle.dvg_closed_board.specs.BatContent as bat_content
use Rattle.dvg_closed_board.specs.AsteroidContent as asteroid_content
use Rattle.dvg_closed_board.specs.RocksContent as rocks_content
use Rattle.dvg_closed_board.specs.TestRomContent as test_rom_content
use Rattle.dvg_closed_board.proofs.FirstContent as first_kept
use Rattle.dvg_closed_board.proofs.BatContent as bat_kept
use Rattle.dvg_closed_board.proofs.AsteroidContent as asteroid_kept
use Rattle.dvg_closed_board.proofs.RocksContent as rocks_kept
use Rattle.dvg_closed_board.proofs.TestRomContent as test_rom_kept
use Rattle.dvg_game_cells.specs.Keeps.{GamesOnCellsKeep}
use Rattle.dvg_closed_cells.specs.Closed.{GamesOnCellsKeepByBytes, Asteroid, Bat, First, Rocks, TestRom}

pub by_bytes : GamesOnCellsKeep → GamesOnCellsKeepByBytes
by_bytes keep R image held rom start notes ways drafts accepted brought =
    keep R image held rom start notes accepted (content_by_bytes R rom start notes ways drafts accepted brought)

pub first : GamesOnCellsKeepByBytes → First
first law other image held = law first_content.shapes image held (first_game.rom other) first_game.start first_game.notes
    first_content.ways first_content.drafts (first_told.is_told other) (first_kept.is_brought other)

pub bat : GamesOnCellsKeepByBytes → Bat
bat law other image held = law bat_content.shapes image held (bat_game.rom other) bat_game.start bat_game.notes
    bat_content.ways bat_content.drafts (bat_told.is_told other) (bat_kept.is_brought other)

pub asteroid : GamesOnCellsKeepByBytes → Asteroid
asteroid law other image held = law asteroid_content.shapes image held (asteroid_game.rom other) asteroid_game.start asteroid_game.notes
    asteroid_content.ways asteroid_content.drafts (asteroid_told.is_told other) (asteroid_kept.is_brought other)

pub rocks : GamesOnCellsKeepByBytes → Rocks
rocks law other image held = law rocks_content.shapes image held (rocks_game.rom other) rocks_game.start rocks_game.notes
    rocks_content.ways rocks_content.drafts (rocks_told.is_told other) (rocks_kept.is_brought other)

pub test_rom : GamesOnCellsKeepByBytes → TestRom
test_rom law other image held = law test_rom_content.shapes image held (test_rom_game.rom other) test_rom_game.start test_rom_game.notes
    test_rom_content.ways test_rom_content.drafts (test_rom_told.is_told other) (test_rom_kept.is_brought other)
