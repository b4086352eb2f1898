-- The joined law, by two tests of the bytes.
use Rattle.dvg_game_board.specs.Keeps.{GamesKeep, GamesKeepByBytes}
use Rattle.dvg_game_content.proofs.ContentFromBytes.{content_by_bytes}

pub games_keep_by_bytes : GamesKeep → GamesKeepByBytes
games_keep_by_bytes keep R image held rom start notes ways drafts accepted brought =
    keep R image held rom start notes accepted (content_by_bytes R rom start notes ways drafts accepted brought)
