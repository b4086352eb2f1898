-- The driver boots on the cells: power-up, a program that tells the watchdog, dvg_reset,
-- and two calls of dvg_tick, which read byte 001 and the flag. The prover computes each cycle of
-- the processor from the cells. Written by crates/dvg_calls_cells/tables.
use Rattle.std.proofs.Common.{List, [], ◌∷◌, ℕ, refl, lit<}
use Rattle.dvg_calls_6502.specs.Calls as calls
use Rattle.dvg_calls_6502.proofs.Memory.{put_small}
use Rattle.dvg_cells_board.specs.Board.{Bus}
use Rattle.dvg_cells_board.specs.Example.{zeros}
use Rattle.dvg_cells_board.proofs.Example.{held, served}
use Rattle.dvg_cells_cpu.specs.Cpu.{Cpu as Cells}
use Rattle.dvg_cells_cpu.specs.Cpu as cpu
use Rattle.dvg_calls_cells.specs.Cycles.{Drive, Turn, acts}
use Rattle.dvg_calls_cells.specs.Played.{IsPlayed, powers, alone, begins_call, inside, older_after, cells_after}
use Rattle.dvg_calls_cells.specs.Example.{SomePlayed}
use Rattle.dvg_calls_cells.proofs.ExampleCalls.{is_rom, is_image, held_bytes, others, shares, reset}
use Rattle.dvg_calls_cells.proofs.ExampleCalls.{reset_from, reset_session, reset_bytes, tick}
use Rattle.dvg_calls_cells.proofs.ExampleCalls.{tick_from, tick_session, tick_bytes, look}
use Rattle.dvg_calls_cells.proofs.ExampleCalls.{look_from, look_session, look_bytes}

-- the pins from outside, with this byte of the memory in the second clock
abbrev pub drive : ℕ → Drive
drive m = record { nmi = 0; hold = 0; big = 0; rom = 0; m = m; undefined = 0 }

abbrev pub twos : List ℕ → List Turn
twos [] = []
twos (m ∷ ms) = acts (record { first = drive 0; second = drive m }) ∷ twos ms

-- a board and cells, and they after these
pub record Place : Type 0 where
  pub older : List Bus
  pub cells : Cells

abbrev pub after : Place → List ℕ → Place
after at found = record {
  older = older_after held at.older at.cells (twos found);
  cells = cells_after held at.older at.cells (twos found);
}

abbrev pub at0 : Place
at0 = record { older = []; cells = cpu.zeros }

pub on0 : IsPlayed zeros zeros held [] at0.older at0.cells
on0 = powers is_rom is_image (λ a few. refl) held_bytes

abbrev pub at1 : Place
at1 = after at0 (0x00 ∷ 0x70 ∷ [])

pub on1 : IsPlayed zeros zeros held ([]) at1.older at1.cells
on1 = alone (twos (0x00 ∷ 0x70 ∷ [])) on0 (record { nmi = lit< tt; first_rom = lit< tt; second_rom = lit< tt; m = lit< tt; first = served _ _ refl (lit< tt); second = served _ _ refl (lit< tt) }, (record { nmi = lit< tt; first_rom = lit< tt; second_rom = lit< tt; m = lit< tt; first = served _ _ refl (lit< tt); second = served _ _ refl (lit< tt) }, tt)) tt

abbrev pub at2 : Place
at2 = after at1 (0x8D ∷ 0x00 ∷ 0x34 ∷ 0x00 ∷ [])

pub on2 : IsPlayed zeros zeros held ([]) at2.older at2.cells
on2 = alone (twos (0x8D ∷ 0x00 ∷ 0x34 ∷ 0x00 ∷ [])) on1 (record { nmi = lit< tt; first_rom = lit< tt; second_rom = lit< tt; m = lit< tt; first = served _ _ refl (lit< tt); second = served _ _ refl (lit< tt) }, (record { nmi = lit< tt; first_rom = lit< tt; second_rom = lit< tt; m = lit< tt; first = served _ _ refl (lit< tt); second = served _ _ refl (lit< tt) }, (record { nmi = lit< tt; first_rom = lit< tt; second_rom = lit< tt; m = lit< tt; first = served _ _ refl (lit< tt); second = served _ _ refl (lit< tt) }, (record { nmi = lit< tt; first_rom = lit< tt; second_rom = lit< tt; m = lit< tt; first = served _ _ refl (lit< tt); second = served _ _ refl (lit< tt) }, tt)))) ((refl, refl), tt)

abbrev pub at3 : Place
at3 = after at2 (0x20 ∷ 0x00 ∷ 0x68 ∷ 0x00 ∷ 0x00 ∷ [])

pub on3 : IsPlayed zeros zeros held ([]) at3.older at3.cells
on3 = alone (twos (0x20 ∷ 0x00 ∷ 0x68 ∷ 0x00 ∷ 0x00 ∷ [])) on2 (record { nmi = lit< tt; first_rom = lit< tt; second_rom = lit< tt; m = lit< tt; first = served _ _ refl (lit< tt); second = served _ _ refl (lit< tt) }, (record { nmi = lit< tt; first_rom = lit< tt; second_rom = lit< tt; m = lit< tt; first = served _ _ refl (lit< tt); second = served _ _ refl (lit< tt) }, (record { nmi = lit< tt; first_rom = lit< tt; second_rom = lit< tt; m = lit< tt; first = served _ _ refl (lit< tt); second = served _ _ refl (lit< tt) }, (record { nmi = lit< tt; first_rom = lit< tt; second_rom = lit< tt; m = lit< tt; first = served _ _ refl (lit< tt); second = served _ _ refl (lit< tt) }, (record { nmi = lit< tt; first_rom = lit< tt; second_rom = lit< tt; m = lit< tt; first = served _ _ refl (lit< tt); second = served _ _ refl (lit< tt) }, tt))))) ((refl, refl), ((refl, refl), tt))

pub reset_on : IsPlayed zeros zeros held (reset 0 ∷ []) at3.older at3.cells
reset_on = begins_call calls.Reset reset_from (others reset_from) on3 (record { holds = record { a = refl; x = refl; y = refl; s = refl; pc = refl; n = refl; z = refl; c = refl; v = refl; d = refl; i = refl }; fetches = refl }) (reset_session 0) tt shares

abbrev pub at4 : Place
at4 = after at3 (0xA9 ∷ 0x00 ∷ [])

pub on4 : IsPlayed zeros zeros held (reset 1 ∷ []) at4.older at4.cells
on4 = inside {call = reset 0} (twos (0xA9 ∷ 0x00 ∷ [])) reset_on (reset_session 1) (record { unfinished = refl; goes = refl; rests = record { holds = record { a = refl; x = refl; y = refl; s = refl; pc = refl; n = refl; z = refl; c = refl; v = refl; d = refl; i = refl }; fetches = refl }; free = refl; placed = record { pc = lit< tt; bytes = reset_bytes; flags = lit< tt; here = refl; first = refl; second = refl }; single = refl; count = refl; answered = (refl, (refl, tt)); given = (record { nmi = lit< tt; first_rom = lit< tt; second_rom = lit< tt; m = lit< tt; first = served _ _ refl (lit< tt); second = served _ _ refl (lit< tt) }, (record { nmi = lit< tt; first_rom = lit< tt; second_rom = lit< tt; m = lit< tt; first = served _ _ refl (lit< tt); second = served _ _ refl (lit< tt) }, tt)) })

abbrev pub at5 : Place
at5 = after at4 (0x85 ∷ 0x10 ∷ 0x00 ∷ [])

pub on5 : IsPlayed zeros zeros held (reset 2 ∷ []) at5.older at5.cells
on5 = inside {call = reset 1} (twos (0x85 ∷ 0x10 ∷ 0x00 ∷ [])) on4 (reset_session 2) (record { unfinished = refl; goes = refl; rests = record { holds = record { a = refl; x = refl; y = refl; s = refl; pc = refl; n = refl; z = refl; c = refl; v = refl; d = refl; i = refl }; fetches = refl }; free = refl; placed = record { pc = lit< tt; bytes = reset_bytes; flags = lit< tt; here = refl; first = refl; second = refl }; single = refl; count = refl; answered = (refl, (refl, (tt, tt))); given = (record { nmi = lit< tt; first_rom = lit< tt; second_rom = lit< tt; m = lit< tt; first = served _ _ refl (lit< tt); second = served _ _ refl (lit< tt) }, (record { nmi = lit< tt; first_rom = lit< tt; second_rom = lit< tt; m = lit< tt; first = served _ _ refl (lit< tt); second = served _ _ refl (lit< tt) }, (record { nmi = lit< tt; first_rom = lit< tt; second_rom = lit< tt; m = lit< tt; first = served _ _ refl (lit< tt); second = served _ _ refl (lit< tt) }, tt))) })

abbrev pub at6 : Place
at6 = after at5 (0xA9 ∷ 0x03 ∷ [])

pub on6 : IsPlayed zeros zeros held (reset 3 ∷ []) at6.older at6.cells
on6 = inside {call = reset 2} (twos (0xA9 ∷ 0x03 ∷ [])) on5 (reset_session 3) (record { unfinished = refl; goes = refl; rests = record { holds = record { a = refl; x = refl; y = refl; s = refl; pc = refl; n = refl; z = refl; c = refl; v = refl; d = refl; i = refl }; fetches = refl }; free = refl; placed = record { pc = lit< tt; bytes = put_small 0x10 0 _ (lit< tt) reset_bytes; flags = lit< tt; here = refl; first = refl; second = refl }; single = refl; count = refl; answered = (refl, (refl, tt)); given = (record { nmi = lit< tt; first_rom = lit< tt; second_rom = lit< tt; m = lit< tt; first = served _ _ refl (lit< tt); second = served _ _ refl (lit< tt) }, (record { nmi = lit< tt; first_rom = lit< tt; second_rom = lit< tt; m = lit< tt; first = served _ _ refl (lit< tt); second = served _ _ refl (lit< tt) }, tt)) })

abbrev pub at7 : Place
at7 = after at6 (0x85 ∷ 0x12 ∷ 0x00 ∷ [])

pub on7 : IsPlayed zeros zeros held (reset 4 ∷ []) at7.older at7.cells
on7 = inside {call = reset 3} (twos (0x85 ∷ 0x12 ∷ 0x00 ∷ [])) on6 (reset_session 4) (record { unfinished = refl; goes = refl; rests = record { holds = record { a = refl; x = refl; y = refl; s = refl; pc = refl; n = refl; z = refl; c = refl; v = refl; d = refl; i = refl }; fetches = refl }; free = refl; placed = record { pc = lit< tt; bytes = put_small 0x10 0 _ (lit< tt) reset_bytes; flags = lit< tt; here = refl; first = refl; second = refl }; single = refl; count = refl; answered = (refl, (refl, (tt, tt))); given = (record { nmi = lit< tt; first_rom = lit< tt; second_rom = lit< tt; m = lit< tt; first = served _ _ refl (lit< tt); second = served _ _ refl (lit< tt) }, (record { nmi = lit< tt; first_rom = lit< tt; second_rom = lit< tt; m = lit< tt; first = served _ _ refl (lit< tt); second = served _ _ refl (lit< tt) }, (record { nmi = lit< tt; first_rom = lit< tt; second_rom = lit< tt; m = lit< tt; first = served _ _ refl (lit< tt); second = served _ _ refl (lit< tt) }, tt))) })

abbrev pub at8 : Place
at8 = after at7 (0x60 ∷ 0x69 ∷ 0x68 ∷ [])

pub on8 : IsPlayed zeros zeros held (reset 4 ∷ []) at8.older at8.cells
on8 = alone (twos (0x60 ∷ 0x69 ∷ 0x68 ∷ [])) on7 (record { nmi = lit< tt; first_rom = lit< tt; second_rom = lit< tt; m = lit< tt; first = served _ _ refl (lit< tt); second = served _ _ refl (lit< tt) }, (record { nmi = lit< tt; first_rom = lit< tt; second_rom = lit< tt; m = lit< tt; first = served _ _ refl (lit< tt); second = served _ _ refl (lit< tt) }, (record { nmi = lit< tt; first_rom = lit< tt; second_rom = lit< tt; m = lit< tt; first = served _ _ refl (lit< tt); second = served _ _ refl (lit< tt) }, tt))) tt

pub tick_on : IsPlayed zeros zeros held (tick 0 ∷ reset 4 ∷ []) at8.older at8.cells
tick_on = begins_call calls.Tick tick_from (others tick_from) on8 (record { holds = record { a = refl; x = refl; y = refl; s = refl; pc = refl; n = refl; z = refl; c = refl; v = refl; d = refl; i = refl }; fetches = refl }) (tick_session 0) tt tt

abbrev pub at9 : Place
at9 = after at8 (0xA6 ∷ 0x10 ∷ 0x00 ∷ [])

pub on9 : IsPlayed zeros zeros held (tick 1 ∷ reset 4 ∷ []) at9.older at9.cells
on9 = inside {call = tick 0} (twos (0xA6 ∷ 0x10 ∷ 0x00 ∷ [])) tick_on (tick_session 1) (record { unfinished = refl; goes = refl; rests = record { holds = record { a = refl; x = refl; y = refl; s = refl; pc = refl; n = refl; z = refl; c = refl; v = refl; d = refl; i = refl }; fetches = refl }; free = refl; placed = record { pc = lit< tt; bytes = tick_bytes; flags = lit< tt; here = refl; first = refl; second = refl }; single = refl; count = refl; answered = (refl, (refl, (refl, tt))); given = (record { nmi = lit< tt; first_rom = lit< tt; second_rom = lit< tt; m = lit< tt; first = served _ _ refl (lit< tt); second = served _ _ refl (lit< tt) }, (record { nmi = lit< tt; first_rom = lit< tt; second_rom = lit< tt; m = lit< tt; first = served _ _ refl (lit< tt); second = served _ _ refl (lit< tt) }, (record { nmi = lit< tt; first_rom = lit< tt; second_rom = lit< tt; m = lit< tt; first = served _ _ refl (lit< tt); second = served _ _ refl (lit< tt) }, tt))) })

abbrev pub at10 : Place
at10 = after at9 (0x30 ∷ 0x50 ∷ [])

pub on10 : IsPlayed zeros zeros held (tick 2 ∷ reset 4 ∷ []) at10.older at10.cells
on10 = inside {call = tick 1} (twos (0x30 ∷ 0x50 ∷ [])) on9 (tick_session 2) (record { unfinished = refl; goes = refl; rests = record { holds = record { a = refl; x = refl; y = refl; s = refl; pc = refl; n = refl; z = refl; c = refl; v = refl; d = refl; i = refl }; fetches = refl }; free = refl; placed = record { pc = lit< tt; bytes = tick_bytes; flags = lit< tt; here = refl; first = refl; second = refl }; single = refl; count = refl; answered = (refl, (refl, tt)); given = (record { nmi = lit< tt; first_rom = lit< tt; second_rom = lit< tt; m = lit< tt; first = served _ _ refl (lit< tt); second = served _ _ refl (lit< tt) }, (record { nmi = lit< tt; first_rom = lit< tt; second_rom = lit< tt; m = lit< tt; first = served _ _ refl (lit< tt); second = served _ _ refl (lit< tt) }, tt)) })

abbrev pub at11 : Place
at11 = after at10 (0xF0 ∷ 0x1A ∷ [])

pub on11 : IsPlayed zeros zeros held (tick 3 ∷ reset 4 ∷ []) at11.older at11.cells
on11 = inside {call = tick 2} (twos (0xF0 ∷ 0x1A ∷ [])) on10 (tick_session 3) (record { unfinished = refl; goes = refl; rests = record { holds = record { a = refl; x = refl; y = refl; s = refl; pc = refl; n = refl; z = refl; c = refl; v = refl; d = refl; i = refl }; fetches = refl }; free = refl; placed = record { pc = lit< tt; bytes = tick_bytes; flags = lit< tt; here = refl; first = refl; second = refl }; single = refl; count = refl; answered = (refl, (refl, tt)); given = (record { nmi = lit< tt; first_rom = lit< tt; second_rom = lit< tt; m = lit< tt; first = served _ _ refl (lit< tt); second = served _ _ refl (lit< tt) }, (record { nmi = lit< tt; first_rom = lit< tt; second_rom = lit< tt; m = lit< tt; first = served _ _ refl (lit< tt); second = served _ _ refl (lit< tt) }, tt)) })

abbrev pub at12 : Place
at12 = after at11 (0xAD ∷ 0x01 ∷ 0x40 ∷ 0x00 ∷ [])

pub on12 : IsPlayed zeros zeros held (tick 4 ∷ reset 4 ∷ []) at12.older at12.cells
on12 = inside {call = tick 3} (twos (0xAD ∷ 0x01 ∷ 0x40 ∷ 0x00 ∷ [])) on11 (tick_session 4) (record { unfinished = refl; goes = refl; rests = record { holds = record { a = refl; x = refl; y = refl; s = refl; pc = refl; n = refl; z = refl; c = refl; v = refl; d = refl; i = refl }; fetches = refl }; free = refl; placed = record { pc = lit< tt; bytes = tick_bytes; flags = lit< tt; here = refl; first = refl; second = refl }; single = refl; count = refl; answered = (refl, (refl, (refl, (tt, tt)))); given = (record { nmi = lit< tt; first_rom = lit< tt; second_rom = lit< tt; m = lit< tt; first = served _ _ refl (lit< tt); second = served _ _ refl (lit< tt) }, (record { nmi = lit< tt; first_rom = lit< tt; second_rom = lit< tt; m = lit< tt; first = served _ _ refl (lit< tt); second = served _ _ refl (lit< tt) }, (record { nmi = lit< tt; first_rom = lit< tt; second_rom = lit< tt; m = lit< tt; first = served _ _ refl (lit< tt); second = served _ _ refl (lit< tt) }, (record { nmi = lit< tt; first_rom = lit< tt; second_rom = lit< tt; m = lit< tt; first = served _ _ refl (lit< tt); second = served _ _ refl (lit< tt) }, tt)))) })

abbrev pub at13 : Place
at13 = after at12 (0x29 ∷ 0x02 ∷ [])

pub on13 : IsPlayed zeros zeros held (tick 5 ∷ reset 4 ∷ []) at13.older at13.cells
on13 = inside {call = tick 4} (twos (0x29 ∷ 0x02 ∷ [])) on12 (tick_session 5) (record { unfinished = refl; goes = refl; rests = record { holds = record { a = refl; x = refl; y = refl; s = refl; pc = refl; n = refl; z = refl; c = refl; v = refl; d = refl; i = refl }; fetches = refl }; free = refl; placed = record { pc = lit< tt; bytes = tick_bytes; flags = lit< tt; here = refl; first = refl; second = refl }; single = refl; count = refl; answered = (refl, (refl, tt)); given = (record { nmi = lit< tt; first_rom = lit< tt; second_rom = lit< tt; m = lit< tt; first = served _ _ refl (lit< tt); second = served _ _ refl (lit< tt) }, (record { nmi = lit< tt; first_rom = lit< tt; second_rom = lit< tt; m = lit< tt; first = served _ _ refl (lit< tt); second = served _ _ refl (lit< tt) }, tt)) })

abbrev pub at14 : Place
at14 = after at13 (0x49 ∷ 0xE2 ∷ [])

pub on14 : IsPlayed zeros zeros held (tick 6 ∷ reset 4 ∷ []) at14.older at14.cells
on14 = inside {call = tick 5} (twos (0x49 ∷ 0xE2 ∷ [])) on13 (tick_session 6) (record { unfinished = refl; goes = refl; rests = record { holds = record { a = refl; x = refl; y = refl; s = refl; pc = refl; n = refl; z = refl; c = refl; v = refl; d = refl; i = refl }; fetches = refl }; free = refl; placed = record { pc = lit< tt; bytes = tick_bytes; flags = lit< tt; here = refl; first = refl; second = refl }; single = refl; count = refl; answered = (refl, (refl, tt)); given = (record { nmi = lit< tt; first_rom = lit< tt; second_rom = lit< tt; m = lit< tt; first = served _ _ refl (lit< tt); second = served _ _ refl (lit< tt) }, (record { nmi = lit< tt; first_rom = lit< tt; second_rom = lit< tt; m = lit< tt; first = served _ _ refl (lit< tt); second = served _ _ refl (lit< tt) }, tt)) })

abbrev pub at15 : Place
at15 = after at14 (0x85 ∷ 0x11 ∷ 0x00 ∷ [])

pub on15 : IsPlayed zeros zeros held (tick 7 ∷ reset 4 ∷ []) at15.older at15.cells
on15 = inside {call = tick 6} (twos (0x85 ∷ 0x11 ∷ 0x00 ∷ [])) on14 (tick_session 7) (record { unfinished = refl; goes = refl; rests = record { holds = record { a = refl; x = refl; y = refl; s = refl; pc = refl; n = refl; z = refl; c = refl; v = refl; d = refl; i = refl }; fetches = refl }; free = refl; placed = record { pc = lit< tt; bytes = tick_bytes; flags = lit< tt; here = refl; first = refl; second = refl }; single = refl; count = refl; answered = (refl, (refl, (tt, tt))); given = (record { nmi = lit< tt; first_rom = lit< tt; second_rom = lit< tt; m = lit< tt; first = served _ _ refl (lit< tt); second = served _ _ refl (lit< tt) }, (record { nmi = lit< tt; first_rom = lit< tt; second_rom = lit< tt; m = lit< tt; first = served _ _ refl (lit< tt); second = served _ _ refl (lit< tt) }, (record { nmi = lit< tt; first_rom = lit< tt; second_rom = lit< tt; m = lit< tt; first = served _ _ refl (lit< tt); second = served _ _ refl (lit< tt) }, tt))) })

abbrev pub at16 : Place
at16 = after at15 (0xE6 ∷ 0x10 ∷ 0x00 ∷ 0x00 ∷ [])

pub on16 : IsPlayed zeros zeros held (tick 8 ∷ reset 4 ∷ []) at16.older at16.cells
on16 = inside {call = tick 7} (twos (0xE6 ∷ 0x10 ∷ 0x00 ∷ 0x00 ∷ [])) on15 (tick_session 8) (record { unfinished = refl; goes = refl; rests = record { holds = record { a = refl; x = refl; y = refl; s = refl; pc = refl; n = refl; z = refl; c = refl; v = refl; d = refl; i = refl }; fetches = refl }; free = refl; placed = record { pc = lit< tt; bytes = put_small 0x11 0xE2 _ (lit< tt) tick_bytes; flags = lit< tt; here = refl; first = refl; second = refl }; single = refl; count = refl; answered = (refl, (refl, (refl, (tt, tt)))); given = (record { nmi = lit< tt; first_rom = lit< tt; second_rom = lit< tt; m = lit< tt; first = served _ _ refl (lit< tt); second = served _ _ refl (lit< tt) }, (record { nmi = lit< tt; first_rom = lit< tt; second_rom = lit< tt; m = lit< tt; first = served _ _ refl (lit< tt); second = served _ _ refl (lit< tt) }, (record { nmi = lit< tt; first_rom = lit< tt; second_rom = lit< tt; m = lit< tt; first = served _ _ refl (lit< tt); second = served _ _ refl (lit< tt) }, (record { nmi = lit< tt; first_rom = lit< tt; second_rom = lit< tt; m = lit< tt; first = served _ _ refl (lit< tt); second = served _ _ refl (lit< tt) }, tt)))) })

abbrev pub at17 : Place
at17 = after at16 (0x60 ∷ 0x69 ∷ 0x68 ∷ [])

pub on17 : IsPlayed zeros zeros held (tick 8 ∷ reset 4 ∷ []) at17.older at17.cells
on17 = alone (twos (0x60 ∷ 0x69 ∷ 0x68 ∷ [])) on16 (record { nmi = lit< tt; first_rom = lit< tt; second_rom = lit< tt; m = lit< tt; first = served _ _ refl (lit< tt); second = served _ _ refl (lit< tt) }, (record { nmi = lit< tt; first_rom = lit< tt; second_rom = lit< tt; m = lit< tt; first = served _ _ refl (lit< tt); second = served _ _ refl (lit< tt) }, (record { nmi = lit< tt; first_rom = lit< tt; second_rom = lit< tt; m = lit< tt; first = served _ _ refl (lit< tt); second = served _ _ refl (lit< tt) }, tt))) tt

pub look_on : IsPlayed zeros zeros held (look 0 ∷ tick 8 ∷ reset 4 ∷ []) at17.older at17.cells
look_on = begins_call calls.Tick look_from (others look_from) on17 (record { holds = record { a = refl; x = refl; y = refl; s = refl; pc = refl; n = refl; z = refl; c = refl; v = refl; d = refl; i = refl }; fetches = refl }) (look_session 0) tt tt

abbrev pub at18 : Place
at18 = after at17 (0xA6 ∷ 0x10 ∷ 0x01 ∷ [])

pub on18 : IsPlayed zeros zeros held (look 1 ∷ tick 8 ∷ reset 4 ∷ []) at18.older at18.cells
on18 = inside {call = look 0} (twos (0xA6 ∷ 0x10 ∷ 0x01 ∷ [])) look_on (look_session 1) (record { unfinished = refl; goes = refl; rests = record { holds = record { a = refl; x = refl; y = refl; s = refl; pc = refl; n = refl; z = refl; c = refl; v = refl; d = refl; i = refl }; fetches = refl }; free = refl; placed = record { pc = lit< tt; bytes = look_bytes; flags = lit< tt; here = refl; first = refl; second = refl }; single = refl; count = refl; answered = (refl, (refl, (refl, tt))); given = (record { nmi = lit< tt; first_rom = lit< tt; second_rom = lit< tt; m = lit< tt; first = served _ _ refl (lit< tt); second = served _ _ refl (lit< tt) }, (record { nmi = lit< tt; first_rom = lit< tt; second_rom = lit< tt; m = lit< tt; first = served _ _ refl (lit< tt); second = served _ _ refl (lit< tt) }, (record { nmi = lit< tt; first_rom = lit< tt; second_rom = lit< tt; m = lit< tt; first = served _ _ refl (lit< tt); second = served _ _ refl (lit< tt) }, tt))) })

abbrev pub at19 : Place
at19 = after at18 (0x30 ∷ 0x50 ∷ [])

pub on19 : IsPlayed zeros zeros held (look 2 ∷ tick 8 ∷ reset 4 ∷ []) at19.older at19.cells
on19 = inside {call = look 1} (twos (0x30 ∷ 0x50 ∷ [])) on18 (look_session 2) (record { unfinished = refl; goes = refl; rests = record { holds = record { a = refl; x = refl; y = refl; s = refl; pc = refl; n = refl; z = refl; c = refl; v = refl; d = refl; i = refl }; fetches = refl }; free = refl; placed = record { pc = lit< tt; bytes = look_bytes; flags = lit< tt; here = refl; first = refl; second = refl }; single = refl; count = refl; answered = (refl, (refl, tt)); given = (record { nmi = lit< tt; first_rom = lit< tt; second_rom = lit< tt; m = lit< tt; first = served _ _ refl (lit< tt); second = served _ _ refl (lit< tt) }, (record { nmi = lit< tt; first_rom = lit< tt; second_rom = lit< tt; m = lit< tt; first = served _ _ refl (lit< tt); second = served _ _ refl (lit< tt) }, tt)) })

abbrev pub at20 : Place
at20 = after at19 (0xF0 ∷ 0x1A ∷ [])

pub on20 : IsPlayed zeros zeros held (look 3 ∷ tick 8 ∷ reset 4 ∷ []) at20.older at20.cells
on20 = inside {call = look 2} (twos (0xF0 ∷ 0x1A ∷ [])) on19 (look_session 3) (record { unfinished = refl; goes = refl; rests = record { holds = record { a = refl; x = refl; y = refl; s = refl; pc = refl; n = refl; z = refl; c = refl; v = refl; d = refl; i = refl }; fetches = refl }; free = refl; placed = record { pc = lit< tt; bytes = look_bytes; flags = lit< tt; here = refl; first = refl; second = refl }; single = refl; count = refl; answered = (refl, (refl, tt)); given = (record { nmi = lit< tt; first_rom = lit< tt; second_rom = lit< tt; m = lit< tt; first = served _ _ refl (lit< tt); second = served _ _ refl (lit< tt) }, (record { nmi = lit< tt; first_rom = lit< tt; second_rom = lit< tt; m = lit< tt; first = served _ _ refl (lit< tt); second = served _ _ refl (lit< tt) }, tt)) })

abbrev pub at21 : Place
at21 = after at20 (0xCA ∷ [])

pub on21 : IsPlayed zeros zeros held (look 4 ∷ tick 8 ∷ reset 4 ∷ []) at21.older at21.cells
on21 = inside {call = look 3} (twos (0xCA ∷ [])) on20 (look_session 4) (record { unfinished = refl; goes = refl; rests = record { holds = record { a = refl; x = refl; y = refl; s = refl; pc = refl; n = refl; z = refl; c = refl; v = refl; d = refl; i = refl }; fetches = refl }; free = refl; placed = record { pc = lit< tt; bytes = look_bytes; flags = lit< tt; here = refl; first = refl; second = refl }; single = refl; count = refl; answered = (refl, tt); given = (record { nmi = lit< tt; first_rom = lit< tt; second_rom = lit< tt; m = lit< tt; first = served _ _ refl (lit< tt); second = served _ _ refl (lit< tt) }, tt) })

abbrev pub at22 : Place
at22 = after at21 (0xF0 ∷ 0x23 ∷ [])

pub on22 : IsPlayed zeros zeros held (look 5 ∷ tick 8 ∷ reset 4 ∷ []) at22.older at22.cells
on22 = inside {call = look 4} (twos (0xF0 ∷ 0x23 ∷ [])) on21 (look_session 5) (record { unfinished = refl; goes = refl; rests = record { holds = record { a = refl; x = refl; y = refl; s = refl; pc = refl; n = refl; z = refl; c = refl; v = refl; d = refl; i = refl }; fetches = refl }; free = refl; placed = record { pc = lit< tt; bytes = look_bytes; flags = lit< tt; here = refl; first = refl; second = refl }; single = refl; count = refl; answered = (refl, (refl, tt)); given = (record { nmi = lit< tt; first_rom = lit< tt; second_rom = lit< tt; m = lit< tt; first = served _ _ refl (lit< tt); second = served _ _ refl (lit< tt) }, (record { nmi = lit< tt; first_rom = lit< tt; second_rom = lit< tt; m = lit< tt; first = served _ _ refl (lit< tt); second = served _ _ refl (lit< tt) }, tt)) })

abbrev pub at23 : Place
at23 = after at22 (0x2C ∷ 0x02 ∷ 0x20 ∷ 0x00 ∷ [])

pub on23 : IsPlayed zeros zeros held (look 6 ∷ tick 8 ∷ reset 4 ∷ []) at23.older at23.cells
on23 = inside {call = look 5} (twos (0x2C ∷ 0x02 ∷ 0x20 ∷ 0x00 ∷ [])) on22 (look_session 6) (record { unfinished = refl; goes = refl; rests = record { holds = record { a = refl; x = refl; y = refl; s = refl; pc = refl; n = refl; z = refl; c = refl; v = refl; d = refl; i = refl }; fetches = refl }; free = refl; placed = record { pc = lit< tt; bytes = look_bytes; flags = lit< tt; here = refl; first = refl; second = refl }; single = refl; count = refl; answered = (refl, (refl, (refl, (refl, tt)))); given = (record { nmi = lit< tt; first_rom = lit< tt; second_rom = lit< tt; m = lit< tt; first = served _ _ refl (lit< tt); second = served _ _ refl (lit< tt) }, (record { nmi = lit< tt; first_rom = lit< tt; second_rom = lit< tt; m = lit< tt; first = served _ _ refl (lit< tt); second = served _ _ refl (lit< tt) }, (record { nmi = lit< tt; first_rom = lit< tt; second_rom = lit< tt; m = lit< tt; first = served _ _ refl (lit< tt); second = served _ _ refl (lit< tt) }, (record { nmi = lit< tt; first_rom = lit< tt; second_rom = lit< tt; m = lit< tt; first = served _ _ refl (lit< tt); second = served _ _ refl (lit< tt) }, tt)))) })

abbrev pub at24 : Place
at24 = after at23 (0x30 ∷ 0xEE ∷ [])

pub on24 : IsPlayed zeros zeros held (look 7 ∷ tick 8 ∷ reset 4 ∷ []) at24.older at24.cells
on24 = inside {call = look 6} (twos (0x30 ∷ 0xEE ∷ [])) on23 (look_session 7) (record { unfinished = refl; goes = refl; rests = record { holds = record { a = refl; x = refl; y = refl; s = refl; pc = refl; n = refl; z = refl; c = refl; v = refl; d = refl; i = refl }; fetches = refl }; free = refl; placed = record { pc = lit< tt; bytes = look_bytes; flags = lit< tt; here = refl; first = refl; second = refl }; single = refl; count = refl; answered = (refl, (refl, tt)); given = (record { nmi = lit< tt; first_rom = lit< tt; second_rom = lit< tt; m = lit< tt; first = served _ _ refl (lit< tt); second = served _ _ refl (lit< tt) }, (record { nmi = lit< tt; first_rom = lit< tt; second_rom = lit< tt; m = lit< tt; first = served _ _ refl (lit< tt); second = served _ _ refl (lit< tt) }, tt)) })

abbrev pub at25 : Place
at25 = after at24 (0xE6 ∷ 0x10 ∷ 0x01 ∷ 0x00 ∷ [])

pub on25 : IsPlayed zeros zeros held (look 8 ∷ tick 8 ∷ reset 4 ∷ []) at25.older at25.cells
on25 = inside {call = look 7} (twos (0xE6 ∷ 0x10 ∷ 0x01 ∷ 0x00 ∷ [])) on24 (look_session 8) (record { unfinished = refl; goes = refl; rests = record { holds = record { a = refl; x = refl; y = refl; s = refl; pc = refl; n = refl; z = refl; c = refl; v = refl; d = refl; i = refl }; fetches = refl }; free = refl; placed = record { pc = lit< tt; bytes = look_bytes; flags = lit< tt; here = refl; first = refl; second = refl }; single = refl; count = refl; answered = (refl, (refl, (refl, (tt, tt)))); given = (record { nmi = lit< tt; first_rom = lit< tt; second_rom = lit< tt; m = lit< tt; first = served _ _ refl (lit< tt); second = served _ _ refl (lit< tt) }, (record { nmi = lit< tt; first_rom = lit< tt; second_rom = lit< tt; m = lit< tt; first = served _ _ refl (lit< tt); second = served _ _ refl (lit< tt) }, (record { nmi = lit< tt; first_rom = lit< tt; second_rom = lit< tt; m = lit< tt; first = served _ _ refl (lit< tt); second = served _ _ refl (lit< tt) }, (record { nmi = lit< tt; first_rom = lit< tt; second_rom = lit< tt; m = lit< tt; first = served _ _ refl (lit< tt); second = served _ _ refl (lit< tt) }, tt)))) })

pub some_played : SomePlayed
some_played = (look 8, tick 8, reset 4, at25.older, at25.cells, on25, refl, refl)
