use Rattle.std.proofs.Common.{ℕ, ◌<◌, get_or}
use Rattle.dvg_frame.specs.declared.op.OpKind.{OpKind}
use Rattle.dvg_game_words.specs.Tables.{NamesRom}
use Rattle.dvg_game_check.proofs.offered.names_rom.Given as goal

abbrev pub invariant-loop-i : goal.invariant-loop-i
invariant-loop-i l = (k : ℕ) (d : OpKind) → k < l.i → NamesRom (get_or l.draft k d)
