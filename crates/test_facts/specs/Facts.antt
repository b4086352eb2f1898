-- What the clients' facts speak of.
use Rattle.std.specs.Prelude.{ℕ, List, [], ◌∷◌, ◌++◌, Option, Ok, Err, true, false, pos, negsuc}
use Rattle.std.specs.Prelude.{codes, decimal, replicate}
use Rattle.dvg_code.specs.declared.instr.Instr.{Instr}
use Rattle.dvg_code.specs.declared.instr.Instr.TheVariants.{Vctr, Labs}
use Rattle.dvg_frame.specs.declared.op.OpKind.{OpKind}
use Rattle.dvg_mem.specs.declared.areas.Area.{Area}
use Rattle.dvg_mem.specs.declared.areas.Area.TheVariants.{Zero, Frame, Unused, Rom, Hole}
use Rattle.dvg_mem.specs.declared.half.Half.{Half}
use Rattle.dvg_mem.specs.declared.half.Half.TheVariants.{H0, H1}
use Rattle.dvg_frame.specs.declared.op.OpKind.TheVariants.{Draw, CallRom, Call, Jump, Return, Halt}
use Rattle.dvg_driver.specs.declared.action.Action.TheVariants.{Peek, Read, Wrote, Sent, Idle}
use Rattle.dvg_driver.specs.declared.fault.DriverFault.TheVariants.{Busy, NothingPublished}
use Rattle.test_facts.specs.declared.driver.Answer.{Answer}
use Rattle.test_facts.specs.declared.driver.Answer.TheVariants.{Asked, Ticked}
use Rattle.dvg_dump.specs.Ends.{Ends, Complete}
use Rattle.dvg_gen.specs.Run.{Visit}
use Rattle.dvg_gen.specs.declared.moving.Move.{Move}
use Rattle.dvg_gen.specs.declared.stroke.Stroke.{Stroke}
use Rattle.dvg_print.specs.Lines.{spaced}
use Rattle.dvg_log.specs.Events.{Happening}
use Rattle.dvg_log.specs.declared.event.Event.TheVariants.{Tick, Offer, Strobe, Fetch}
use Rattle.dvg_log.specs.Entries.{Shown}
use Rattle.dvg_log.specs.declared.entry.Entry.TheVariants.{Acted, Offered, Started, Low, Fetched, Done}

-- VCTR 9 -100 100 7
abbrev pub long_vector : Instr
long_vector = Vctr 9 (negsuc 99) (pos 100) 7

-- a move by two units along x from 0, 0, by the instruction at 000, with intensity 7
abbrev pub two_units : Move
two_units = record { x0 = 0; y0 = 0; x1 = 1024; y1 = 0; z = 7; placed = false; address = 0 }

-- labs 512 400 0; halt
abbrev pub blank_frame : List OpKind
blank_frame = Draw (Labs 512 400 0) ∷ Halt ∷ []

-- labs 512 400 0; vctr 9 -100 100 7; halt
abbrev pub vector_frame : List OpKind
vector_frame = Draw (Labs 512 400 0) ∷ Draw long_vector ∷ Halt ∷ []

-- its stroke
abbrev pub vector_strokes : List Stroke
vector_strokes = record { x0 = 262144; y0 = 204800; x1 = 210944; y1 = 256000; z = 7 } ∷ []

-- call 2; halt; vctr 9 -100 100 7; return
abbrev pub called_draft : List OpKind
called_draft = Call 2 ∷ Halt ∷ Draw long_vector ∷ Return ∷ []

abbrev pub one_tick : List Happening
one_tick = Tick ∷ []

abbrev pub two_ticks : List Happening
two_ticks = Tick ∷ Tick ∷ []

-- the entries of two ticks: the peek, and a read of the HALT flag, by which the generator is halted
abbrev pub two_ticks_shown : List Shown
two_ticks_shown = Acted Peek ∷ Acted (Read true) ∷ []

-- the text of one tick, without a line end
abbrev pub tick_text : List ℕ
tick_text = codes "tick"

-- the line `0 peek`
abbrev pub peek_line : List ℕ
peek_line = decimal 0 ++ spaced (codes "peek" ∷ []) ++ 10 ∷ []

-- tick 2; offer the frame of one vector; tick 14; strobe; fetch 12
abbrev pub first_picture_events : List Happening
first_picture_events = Tick ∷ Tick ∷ Offer vector_frame ∷ replicate 14 Tick ++ Strobe ∷ replicate 12 Fetch

-- their entries, of which the last one has the picture
abbrev pub first_picture : List Shown
first_picture = Acted Peek ∷ Acted (Read true) ∷ Offered
    ∷ Acted (Wrote 0x402 0x90) ∷ Acted (Wrote 0x403 0xA1) ∷ Acted (Wrote 0x404 0x00) ∷ Acted (Wrote 0x405 0x02)
    ∷ Acted (Wrote 0x406 0x64)
    ∷ Acted (Wrote 0x407 0x90) ∷ Acted (Wrote 0x408 0x64) ∷ Acted (Wrote 0x409 0x74) ∷ Acted (Wrote 0x40A 0x00)
    ∷ Acted (Wrote 0x40B 0xB0)
    ∷ Acted (Wrote 0x000 0x01) ∷ Acted (Wrote 0x001 0xE2) ∷ Acted (Read true) ∷ Acted Sent ∷ Started
    ∷ Low 0x000 0x01 ∷ Fetched 0x000 0xE201 ∷ Low 0x201 0x90 ∷ Fetched 0x201 0xA190 ∷ Low 0x202 0x00
    ∷ Fetched 0x202 0x0200
    ∷ Low 0x203 0x64 ∷ Fetched 0x203 0x9064 ∷ Low 0x204 0x64 ∷ Fetched 0x204 0x7464
    ∷ Low 0x205 0x00 ∷ Done 0x205 0xB000 vector_strokes ∷ []

-- redraw; offer; tick 4; offer; tick 10; redraw; tick 2; redraw; tick 2; redraw; tick 2
abbrev pub redraw_table : List Answer
redraw_table = Asked (Err NothingPublished) ∷ Asked (Err Busy)
    ∷ Ticked Peek ∷ Ticked (Read false) ∷ Ticked (Read true) ∷ Ticked Idle
    ∷ Asked (Ok tt) ∷ Ticked (Wrote 0x002 0x90) ∷ Ticked (Wrote 0x003 0xA1)
    ∷ Ticked (Wrote 0x004 0x00) ∷ Ticked (Wrote 0x005 0x02) ∷ Ticked (Wrote 0x006 0x64)
    ∷ Ticked (Wrote 0x007 0x90) ∷ Ticked (Wrote 0x008 0x64) ∷ Ticked (Wrote 0x009 0x74)
    ∷ Ticked (Wrote 0x00A 0x00) ∷ Ticked (Wrote 0x00B 0xB0)
    ∷ Asked (Err NothingPublished) ∷ Ticked (Wrote 0x000 0x01) ∷ Ticked (Wrote 0x001 0xE0)
    ∷ Asked (Err Busy) ∷ Ticked (Read true) ∷ Ticked Sent
    ∷ Asked (Ok tt) ∷ Ticked (Read true) ∷ Ticked Sent ∷ []

-- the areas of 000, 001, 1FF, 200, 201, 3FF, 400, 7FF, 800, BFF, C00 and FFF
abbrev pub areas_in_turn : List Area
areas_in_turn = Zero ∷ Frame H0 ∷ Frame H0 ∷ Unused ∷ Frame H1 ∷ Frame H1 ∷ Hole ∷ Hole ∷ Rom ∷ Rom ∷ Hole ∷ Hole ∷ []

-- labs 0 0 0; jump 2; halt
abbrev pub jump_frame : List OpKind
jump_frame = Draw (Labs 0 0 0) ∷ Jump 2 ∷ Halt ∷ []

-- its bytes in a half: the jump is to the word of the halt there
abbrev pub jump_bytes : Half → List ℕ
jump_bytes H0 = 0x00 ∷ 0xA0 ∷ 0x00 ∷ 0x00 ∷ 0x04 ∷ 0xE0 ∷ 0x00 ∷ 0xB0 ∷ []
jump_bytes H1 = 0x00 ∷ 0xA0 ∷ 0x00 ∷ 0x00 ∷ 0x04 ∷ 0xE2 ∷ 0x00 ∷ 0xB0 ∷ []

-- a generator's first run over this memory fetches this many words, and draws these strokes
abbrev pub IsComplete : (ℕ → Option ℕ) → ℕ → List Stroke → Type 0
IsComplete memory words drew = (visits : List Visit) × Ends memory visits (Complete words drew)

-- labs 0 0 0; vctr 9 10 0 5; halt
abbrev pub level_frame : List OpKind
level_frame = Draw (Labs 0 0 0) ∷ Draw (Vctr 9 (pos 10) (pos 0) 5) ∷ Halt ∷ []

-- its stroke
abbrev pub level_strokes : List Stroke
level_strokes = record { x0 = 0; y0 = 0; x1 = 5120; y1 = 0; z = 5 } ∷ []

-- labs 0 0 0; callrom 800; halt
abbrev pub shape_frame : List OpKind
shape_frame = Draw (Labs 0 0 0) ∷ CallRom 0x800 ∷ Halt ∷ []

-- its stroke, where the ROM has FE37, which is svec 3 -3 -2 3
abbrev pub shape_strokes : List Stroke
shape_strokes = record { x0 = 0; y0 = 0; x1 = 2091008; y1 = 2093056; z = 3 } ∷ []

-- labs 0 0 0; call 3; halt; call 5; return; call 7; return; call 9; return; return
abbrev pub nested_frame : List OpKind
nested_frame = Draw (Labs 0 0 0) ∷ Call 3 ∷ Halt ∷ Call 5 ∷ Return
    ∷ Call 7 ∷ Return ∷ Call 9 ∷ Return ∷ Return ∷ []
