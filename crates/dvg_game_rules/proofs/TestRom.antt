use Rattle.std.proofs.Common.{refl}
use Rattle.dvg_game_rules.specs.Checker.{places}
use Rattle.dvg_game_rules.specs.Written.{of_list, rom_of, found, notes_of, note, nmi_note}
use Rattle.dvg_game_rules.specs.TestRom.{bytes, vectors, rows, rom, notes, start, IsTold, RunsSafely}
use Rattle.dvg_game_rules.proofs.RunsAreSafe.{checked_is_safe}

pub is_told : IsTold
unfolding places of_list rom_of found notes_of note nmi_note bytes vectors rows rom notes
is_told other = refl

pub runs_safely : RunsSafely
runs_safely other st run = checked_is_safe (rom other) start notes (is_told other) st run
