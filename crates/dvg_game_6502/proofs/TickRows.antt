-- The rows of dvg_reset, dvg_run, dvg_ticks and dvg_tick.
use Rattle.std.proofs.Common.{refl}
use Rattle.dvg_game_6502.proofs.Notes.{reset, run, burst, ticks, tick, write}
use Rattle.dvg_game_6502.proofs.Rules.{plain, beside, far, lda, lda_phase, ldx_phase, ldy_at, iny, sty_at, count}
use Rattle.dvg_game_6502.proofs.Rules.{lower, sta_phase, inc_phase, turn_page, store}
use Rattle.dvg_game_6502.proofs.Forks.{either, busy_a, busy_x, none, same, low_ready, aims_ready, inside_aims, as_is}
use Rattle.dvg_game_6502.proofs.Forks.{nothing}
use Rattle.dvg_game_6502.proofs.Rows.{Rows, ◌▸◌, ends, goes_on, forks, jumps, calls, returns, to}

pub reset_rows : Rows reset
reset_rows =
    goes_on refl lda (to refl refl same as_is)
    ▸ goes_on refl (lower refl) (to refl refl same as_is)
    ▸ goes_on refl (plain refl refl) (to refl refl same as_is)
    ▸ goes_on refl (beside refl refl refl) (to refl refl low_ready as_is)
    ▸ returns refl same
    ▸ ends

pub run_rows : Rows run
run_rows =
    goes_on refl lda_phase (to refl refl same as_is)
    ▸ forks refl busy_a (to refl refl same as_is) (to refl refl same as_is)
    ▸ goes_on refl (plain refl refl) (to refl refl same as_is)
    ▸ forks refl (either refl) (to refl refl same as_is) (to refl refl same as_is)
    ▸ goes_on refl (plain refl refl) (to refl refl same as_is)
    ▸ forks refl (either refl) (to refl refl same as_is) (to refl refl same as_is)
    ▸ calls refl refl refl (to refl refl same as_is) refl
    ▸ jumps refl refl (to refl refl same as_is)
    ▸ returns refl same
    ▸ ends

pub burst_rows : Rows burst
burst_rows =
    goes_on refl ldy_at (to refl refl same as_is)
    ▸ goes_on refl (plain refl refl) (to refl refl same as_is)
    ▸ goes_on refl (plain refl refl) (to refl refl same as_is)
    ▸ forks refl (either refl) (to refl refl aims_ready nothing) (to refl refl same as_is)
    ▸ goes_on refl (plain refl refl) (to refl refl same as_is)
    ▸ goes_on refl store (to refl refl same as_is)
    ▸ goes_on refl iny (to refl refl same as_is)
    ▸ goes_on refl (plain refl refl) (to refl refl same as_is)
    ▸ goes_on refl (beside refl refl refl) (to refl refl same as_is)
    ▸ forks refl (either refl) (to refl refl inside_aims as_is) (to refl refl same as_is)
    ▸ goes_on refl (plain refl refl) (to refl refl same as_is)
    ▸ forks refl (either refl) (to refl refl inside_aims as_is) (to refl refl same as_is)
    ▸ goes_on refl (plain refl refl) (to refl refl same as_is)
    ▸ goes_on refl (plain refl refl) (to refl refl same as_is)
    ▸ goes_on refl (plain refl refl) (to refl refl same as_is)
    ▸ forks refl (either refl) (to refl refl inside_aims as_is) (to refl refl same as_is)
    ▸ goes_on refl (plain refl refl) (to refl refl inside_aims as_is)
    ▸ goes_on refl store (to refl refl same as_is)
    ▸ goes_on refl iny (to refl refl same as_is)
    ▸ forks refl (either refl) (to refl refl inside_aims as_is) (to refl refl same as_is)
    ▸ goes_on refl (beside refl refl refl) (to refl refl same as_is)
    ▸ goes_on refl (turn_page refl) (to refl refl same as_is)
    ▸ goes_on refl (beside refl refl refl) (to refl refl same as_is)
    ▸ goes_on refl (plain refl refl) (to refl refl same as_is)
    ▸ forks refl (either refl) (to refl refl same as_is) (to refl refl same as_is)
    ▸ goes_on refl (plain refl refl) (to refl refl same as_is)
    ▸ forks refl (either refl) (to refl refl same as_is) (to refl refl same as_is)
    ▸ goes_on refl (plain refl refl) (to refl refl same as_is)
    ▸ goes_on refl (sta_phase refl) (to refl refl same as_is)
    ▸ forks refl (either refl) (to refl refl aims_ready nothing) (to refl refl same as_is)
    ▸ goes_on refl (plain refl refl) (to refl refl same as_is)
    ▸ goes_on refl (beside refl refl refl) (to refl refl same as_is)
    ▸ forks refl (either refl) (to refl refl same as_is) (to refl refl same as_is)
    ▸ goes_on refl (plain refl refl) (to refl refl same as_is)
    ▸ goes_on refl (plain refl refl) (to refl refl same as_is)
    ▸ goes_on refl (plain refl refl) (to refl refl same as_is)
    ▸ forks refl (either refl) (to refl refl same as_is) (to refl refl aims_ready nothing)
    ▸ ends

pub ticks_rows : Rows ticks
ticks_rows =
    goes_on refl (beside refl refl refl) (to refl refl same as_is)
    ▸ calls refl refl refl (to refl refl same as_is) refl
    ▸ goes_on refl (beside refl refl refl) (to refl refl same as_is)
    ▸ forks refl (either refl) (to refl refl same as_is) (to refl refl same as_is)
    ▸ returns refl same
    ▸ ends

pub tick_rows : Rows tick
tick_rows =
    goes_on refl ldx_phase (to refl refl same as_is)
    ▸ forks refl busy_x (to refl refl same as_is) (to refl refl same as_is)
    ▸ forks refl (none refl) (to refl refl same as_is) (to refl refl same as_is)
    ▸ goes_on refl count (to refl refl same as_is)
    ▸ forks refl (none refl) (to refl refl same as_is) (to refl refl same as_is)
    ▸ goes_on refl count (to refl refl same as_is)
    ▸ forks refl (none refl) (to refl refl low_ready as_is) (to refl refl same as_is)
    ▸ goes_on refl count (to refl refl same as_is)
    ▸ forks refl (none refl) (to refl refl same as_is) (to refl refl same as_is)
    ▸ goes_on refl count (to refl refl same as_is)
    ▸ forks refl (none refl) (to refl refl same as_is) (to refl refl same as_is)
    ▸ goes_on refl count (to refl refl same as_is)
    ▸ forks refl (none refl) (to refl refl same as_is) (to refl refl same as_is)
    ▸ goes_on refl count (to refl refl same as_is)
    ▸ forks refl (either refl) (to refl refl same nothing) (to refl refl same nothing)
    ▸ goes_on refl lda (to refl refl same as_is)
    ▸ goes_on refl (lower refl) (to refl refl same as_is)
    ▸ goes_on refl (far refl refl) (to refl refl low_ready as_is)
    ▸ returns refl same
    ▸ goes_on refl (plain refl refl) (to refl refl same as_is)
    ▸ goes_on refl (plain refl refl) (to refl refl same as_is)
    ▸ goes_on refl (plain refl refl) (to refl refl same as_is)
    ▸ goes_on refl (beside refl refl refl) (to refl refl same as_is)
    ▸ goes_on refl inc_phase (to refl refl same as_is)
    ▸ returns refl same
    ▸ goes_on refl (plain refl refl) (to refl refl same as_is)
    ▸ forks refl (either refl) (to refl refl low_ready as_is) (to refl refl same as_is)
    ▸ goes_on refl inc_phase (to refl refl same as_is)
    ▸ returns refl same
    ▸ goes_on refl (plain refl refl) (to refl refl same as_is)
    ▸ goes_on refl (far refl refl) (to refl refl same as_is)
    ▸ goes_on refl inc_phase (to refl refl same as_is)
    ▸ returns refl same
    ▸ goes_on refl (plain refl refl) (to refl refl same as_is)
    ▸ goes_on refl (far refl refl) (to refl refl same as_is)
    ▸ goes_on refl (plain refl refl) (to refl refl same as_is)
    ▸ goes_on refl (beside refl refl refl) (to refl refl same as_is)
    ▸ goes_on refl (plain refl refl) (to refl refl same as_is)
    ▸ goes_on refl (beside refl refl refl) (to refl refl same as_is)
    ▸ goes_on refl inc_phase (to refl refl same as_is)
    ▸ returns refl same
    ▸ goes_on refl (plain refl refl) (to refl refl same as_is)
    ▸ forks refl (either refl) (to refl refl low_ready as_is) (to refl refl same as_is)
    ▸ goes_on refl inc_phase (to refl refl same as_is)
    ▸ returns refl same
    ▸ ends

pub write_rows : Rows write
write_rows =
    goes_on refl ldy_at (to refl refl same as_is)
    ▸ goes_on refl (plain refl refl) (to refl refl same as_is)
    ▸ goes_on refl (plain refl refl) (to refl refl same as_is)
    ▸ goes_on refl (plain refl refl) (to refl refl same as_is)
    ▸ forks refl (either refl) (to refl refl same as_is) (to refl refl same as_is)
    ▸ goes_on refl (beside refl refl refl) (to refl refl same as_is)
    ▸ forks refl (either refl) (to refl refl same as_is) (to refl refl same as_is)
    ▸ goes_on refl (plain refl refl) (to refl refl same as_is)
    ▸ forks refl (either refl) (to refl refl same as_is) (to refl refl same as_is)
    ▸ goes_on refl (plain refl refl) (to refl refl same as_is)
    ▸ goes_on refl (plain refl refl) (to refl refl same as_is)
    ▸ goes_on refl (plain refl refl) (to refl refl same as_is)
    ▸ forks refl (either refl) (to refl refl same as_is) (to refl refl same as_is)
    ▸ goes_on refl (plain refl refl) (to refl refl same as_is)
    ▸ forks refl (either refl) (to refl refl same as_is) (to refl refl same as_is)
    ▸ goes_on refl (plain refl refl) (to refl refl same as_is)
    ▸ goes_on refl (beside refl refl refl) (to refl refl same as_is)
    ▸ forks refl (either refl) (to refl refl same as_is) (to refl refl same as_is)
    ▸ goes_on refl (plain refl refl) (to refl refl same as_is)
    ▸ goes_on refl (plain refl refl) (to refl refl same as_is)
    ▸ goes_on refl (plain refl refl) (to refl refl same as_is)
    ▸ goes_on refl store (to refl refl same as_is)
    ▸ goes_on refl iny (to refl refl same as_is)
    ▸ goes_on refl sty_at (to refl refl same as_is)
    ▸ forks refl (either refl) (to refl refl inside_aims as_is) (to refl refl same as_is)
    ▸ goes_on refl (beside refl refl refl) (to refl refl same as_is)
    ▸ goes_on refl (turn_page refl) (to refl refl same as_is)
    ▸ goes_on refl (beside refl refl refl) (to refl refl same as_is)
    ▸ goes_on refl (plain refl refl) (to refl refl same as_is)
    ▸ forks refl (either refl) (to refl refl aims_ready nothing) (to refl refl same as_is)
    ▸ goes_on refl (plain refl refl) (to refl refl same as_is)
    ▸ forks refl (either refl) (to refl refl aims_ready nothing) (to refl refl same as_is)
    ▸ goes_on refl (plain refl refl) (to refl refl same as_is)
    ▸ goes_on refl (sta_phase refl) (to refl refl aims_ready nothing)
    ▸ returns refl same
    ▸ ends
