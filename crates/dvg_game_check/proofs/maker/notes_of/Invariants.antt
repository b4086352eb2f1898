use Rattle.std.proofs.Common.{◌≡◌, length}
use Rattle.dvg_game_words.specs.Checker.{Notes}
use Rattle.dvg_game_check.specs.Least.{AreUnder, states_in}
use Rattle.dvg_game_check.proofs.States.{UnderFor}
use Rattle.dvg_game_check.proofs.maker.notes_of.Given as goal

abbrev pub invariant-loop-i : goal.invariant-loop-i
invariant-loop-i g l = (length l.notes.items ≡ l.i)
    × ((notes : Notes) → AreUnder (states_in l.states) notes → UnderFor l.notes.items notes l.i)
