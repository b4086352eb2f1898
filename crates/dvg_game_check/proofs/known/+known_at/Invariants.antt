use Rattle.dvg_game_check.proofs.known.+known_at.Given as goal

abbrev pub decreases-known_at : goal.decreases-known_at
decreases-known_at l = l.count
