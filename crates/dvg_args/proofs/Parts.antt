-- The program's command, put together from its subcommands.
use Rattle.std.proofs.Common.{◌≡◌}
use Rattle.clap.specs.Words.{App, with_subcommand}

-- a program with one more subcommand
abbrev pub added : App → App → App
added program part = with_subcommand program part.top

pub same : {whole program p part q : App} → whole ≡ added program part → program ≡ p → part ≡ q → whole ≡ added p q
same e f g = cc
