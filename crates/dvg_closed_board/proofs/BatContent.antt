use Rattle.std.proofs.Common.{refl}
use Rattle.dvg_game_rules.specs.Checker.{places}
use Rattle.dvg_game_rules.specs.Written.{of_list, rom_of, found, notes_of, note, nmi_note}
use Rattle.dvg_game_rules.specs.Bat as game
use Rattle.dvg_game_rules.proofs.Bat.{is_told}
use Rattle.dvg_game_content.specs.Written.{draft_in, way_in}
use Rattle.dvg_game_board.specs.Keeps.{GamesKeep}
use Rattle.dvg_game_board.proofs.ByBytes.{games_keep_by_bytes}
use Rattle.dvg_closed_board.specs.BatContent.{shapes, ways, drafts, IsBrought, Always}

pub is_brought : IsBrought
unfolding places of_list rom_of found notes_of note nmi_note game.bytes game.vectors game.rows
    game.rom game.notes shapes ways drafts draft_in way_in
is_brought other = refl

pub keeps : GamesKeep → Always
keeps law other image held at clocks on =
    games_keep_by_bytes law shapes image held (game.rom other) game.start game.notes ways drafts
    (is_told other) (is_brought other) at clocks on
