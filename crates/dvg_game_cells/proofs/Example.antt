-- A run of cells since power-up, which is computed clock by clock.
use Rattle.std.proofs.Common.{◌≡◌, ℕ, zero, suc, ◌+◌, Bool, true, false, List, [], ◌∷◌, length, refl, arith, lit<}
use Rattle.std.specs.Prelude.{nat_eq, ◌&&◌}
use Rattle.dvg_cells_board.specs.Board.{Bus}
use Rattle.dvg_cells_board.specs.Example.{zeros}
use Rattle.dvg_game_rules.specs.Written.{of_list, rom_of}
use Rattle.dvg_calls_cells.specs.Machine.{Machine, clock, drives_board, powered}
use Rattle.dvg_game_6502.specs.SomeGame.{bytes, vectors, rom}
use Rattle.dvg_game_board.specs.Example.{nothing}
use Rattle.dvg_game_board.proofs.SomeCabinet.{is_image, is_rom, zero_at}
use Rattle.dvg_game_6502.proofs.SomeGame.{rom_small}
use Rattle.dvg_game_cells.specs.Whole.{IsCellsRun, calm_after, powers, work_after}
use Rattle.dvg_game_cells.specs.GoesOn.{SomeWhole, pins_for}
use Rattle.dvg_game_cells.proofs.RunCanGoOn.{runs_go_on}

abbrev at_next : Machine → (ℕ → ℕ) → Rattle.dvg_calls_cells.specs.Machine.Bus
at_next machine work = pins_for zeros (rom nothing) machine work 0 1 0 0 0

-- the machine and the work RAM after clocks
abbrev went : ℕ → Machine → (ℕ → ℕ) → Machine × (ℕ → ℕ)
went zero machine work = (machine, work)
went (suc n) machine work = went n (clock machine (at_next machine work)) (work_after machine (at_next machine work) work)

never : (a b : Bool) → (a && (false && b)) ≡ true → ⊥
never true b e = cc
never false b e = cc

abbrev Is : Machine → (ℕ → ℕ) → ℕ → List Bus → Type 0
Is machine work calm clocks = IsCellsRun zeros zeros nothing (rom nothing) machine work calm clocks

-- so they come
goes : (n : ℕ) (machine : Machine) (work : ℕ → ℕ) (calm : ℕ) (clocks : List Bus) → Is machine work calm clocks
    → (calm' : ℕ) × (clocks' : List Bus) × Is (went n machine work).0 (went n machine work).1 calm' clocks'
    × (length clocks' ≡ n + length clocks)
goes zero machine work calm clocks on = (calm, clocks, on, omega arith)
goes (suc n) machine work calm clocks on =
    let pins = at_next machine work in
    let next = runs_go_on zeros zeros nothing (rom nothing) machine work calm clocks on 0 1 0 0 0 (lit< tt) (lit< tt) (lit< tt) (lit< tt)
    (λ rise. absurd (never (nat_eq machine.answers 1) (nat_eq machine.cpu.was 0) rise)) in
    let rest = goes n (clock machine pins) (work_after machine pins work) (calm_after machine pins calm) (drives_board machine pins ∷ clocks)
    next in
    let count = rest.3 in (rest.0, rest.1, rest.2, omega (arith, count))

first : Is (powered nothing) nothing 0 []
first = powers nothing 0 is_rom is_image (λ a few. zero_at 2048 a) (λ a. lit< tt) (λ a. lit< tt) (rom_small nothing (λ b. lit< tt))

pub some_whole : SomeWhole
unfolding of_list rom_of bytes vectors rom
some_whole =
    let before = goes 112 (powered nothing) nothing 0 [] first in
    let machine = (went 112 (powered nothing) nothing).0 in
    let work = (went 112 (powered nothing) nothing).1 in
    let pins = at_next machine work in
    let on = runs_go_on zeros zeros nothing (rom nothing) machine work before.0 before.1 before.2 0 1 0 0 0 (lit< tt) (lit< tt)
    (lit< tt) (lit< tt) (λ rise. absurd (never (nat_eq machine.answers 1) (nat_eq machine.cpu.was 0) rise)) in
    let count = before.3 in
    (_, _, _, drives_board machine pins, before.1, on, omega (arith, count), refl, refl, refl)
