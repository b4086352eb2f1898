-- The runs of four frames, each in either half, word by word.
use Rattle.std.proofs.Common.{◌≡◌, ◌≤◌, ℕ, ◌+◌, pos, negsuc, List}
use Rattle.std.proofs.Common.{[], ◌∷◌, Some, None, refl, ap, lit<, lit≤}
use Rattle.dvg_code.specs.declared.instr.Instr.TheVariants.{Vctr, Labs, Halt}
use Rattle.dvg_code.specs.declared.instr.Instr.TheVariants.{Jsrl, Rtsl, Jmpl, Svec}
use Rattle.dvg_code.specs.Spelling.{Spells, vctr, labs, halt, jsrl, rtsl, jmpl}
use Rattle.dvg_code.proofs.Rows.{long_vector as spells_vector, short_vector}
use Rattle.dvg_mem.specs.declared.half.Half.{Half}
use Rattle.dvg_mem.specs.declared.half.Half.TheVariants.{H0, H1}
use Rattle.dvg_mem.specs.Areas.{base}
use Rattle.dvg_mem.specs.Memory.{fetched, rom_word}
use Rattle.dvg_gen.specs.Run.{Visit, Runs, begins, fetches, first, one, two}
use Rattle.dvg_dump.specs.Ends.{halts}
use Rattle.dvg_log.specs.Held.{HoldsFrame}
use Rattle.test_facts.specs.Facts.{IsComplete, long_vector}
use Rattle.test_facts.specs.Facts.{vector_frame, level_frame, shape_frame, nested_frame}
use Rattle.test_facts.specs.Facts.{vector_strokes, level_strokes, shape_strokes}

spells_jump : (half : Half) → Spells (Jmpl (base half)) ((0xE000 + base half) ∷ [])
spells_jump H0 = jmpl (lit≤ tt) refl
spells_jump H1 = jmpl (lit≤ tt) refl

spells_call : (address : ℕ) → address ≤ 4095 → Spells (Jsrl address) ((0xC000 + address) ∷ [])
spells_call address within = jsrl within refl

spells_return : Spells Rtsl (0xD000 ∷ [])
spells_return = rtsl (lit≤ tt) (lit< tt)

spells_halt : Spells Halt (0xB000 ∷ [])
spells_halt = halt (lit≤ tt) (lit< tt)

spells_labs : Spells (Labs 512 400 0) (0xA190 ∷ 0x0200 ∷ [])
spells_labs = labs (lit≤ tt, lit≤ tt, lit≤ tt) refl refl

spells_origin : Spells (Labs 0 0 0) (0xA000 ∷ 0x0000 ∷ [])
spells_origin = labs (lit≤ tt, lit≤ tt, lit≤ tt) refl refl

spells_level : Spells (Vctr 9 (pos 10) (pos 0) 5) (0x9000 ∷ 0x500A ∷ [])
spells_level =
    vctr (lit≤ tt, lit≤ tt, lit≤ tt, lit≤ tt)
    (record { free = 0; sign = 0; free_is_bit = lit< tt; sign_is = lit< tt; sum = refl })
    (record { free = 0; sign = 0; free_is_bit = lit< tt; sign_is = refl; sum = refl })

-- the frame of a vector
abbrev vector_visits : Half → List Visit
vector_visits half =
    record { place = base half + 4; code = Halt }
    ∷ record { place = base half + 2; code = long_vector }
    ∷ record { place = base half; code = Labs 512 400 0 }
    ∷ record { place = 0; code = Jmpl (base half) }
    ∷ []

pub vector_drawn : (half : Half) (ram R : List ℕ) → HoldsFrame ram half vector_frame
    → IsComplete (fetched ram R) 6 vector_strokes
vector_drawn H0 ram R holds =
    let run : Runs (fetched ram R) 6 (vector_visits H0) None =
    fetches (fetches (fetches (fetches (fetches (fetches begins
    refl (ap Some holds.zero) (one (spells_jump H0)))
    refl (ap Some (holds.laid 0 (lit< tt))) (first (lit< tt)))
    refl (ap Some (holds.laid 1 (lit< tt))) (two spells_labs))
    refl (ap Some (holds.laid 2 (lit< tt))) (first (lit< tt)))
    refl (ap Some (holds.laid 3 (lit< tt))) (two spells_vector))
    refl (ap Some (holds.laid 4 (lit< tt))) (one spells_halt) in
    (vector_visits H0, halts run (lit≤ tt) refl)
vector_drawn H1 ram R holds =
    let run : Runs (fetched ram R) 6 (vector_visits H1) None =
    fetches (fetches (fetches (fetches (fetches (fetches begins
    refl (ap Some holds.zero) (one (spells_jump H1)))
    refl (ap Some (holds.laid 0 (lit< tt))) (first (lit< tt)))
    refl (ap Some (holds.laid 1 (lit< tt))) (two spells_labs))
    refl (ap Some (holds.laid 2 (lit< tt))) (first (lit< tt)))
    refl (ap Some (holds.laid 3 (lit< tt))) (two spells_vector))
    refl (ap Some (holds.laid 4 (lit< tt))) (one spells_halt) in
    (vector_visits H1, halts run (lit≤ tt) refl)

-- the frame of a level vector
abbrev level_visits : Half → List Visit
level_visits half =
    record { place = base half + 4; code = Halt }
    ∷ record { place = base half + 2; code = Vctr 9 (pos 10) (pos 0) 5 }
    ∷ record { place = base half; code = Labs 0 0 0 }
    ∷ record { place = 0; code = Jmpl (base half) }
    ∷ []

pub level_drawn : (half : Half) (ram R : List ℕ) → HoldsFrame ram half level_frame
    → IsComplete (fetched ram R) 6 level_strokes
level_drawn H0 ram R holds =
    let run : Runs (fetched ram R) 6 (level_visits H0) None =
    fetches (fetches (fetches (fetches (fetches (fetches begins
    refl (ap Some holds.zero) (one (spells_jump H0)))
    refl (ap Some (holds.laid 0 (lit< tt))) (first (lit< tt)))
    refl (ap Some (holds.laid 1 (lit< tt))) (two spells_origin))
    refl (ap Some (holds.laid 2 (lit< tt))) (first (lit< tt)))
    refl (ap Some (holds.laid 3 (lit< tt))) (two spells_level))
    refl (ap Some (holds.laid 4 (lit< tt))) (one spells_halt) in
    (level_visits H0, halts run (lit≤ tt) refl)
level_drawn H1 ram R holds =
    let run : Runs (fetched ram R) 6 (level_visits H1) None =
    fetches (fetches (fetches (fetches (fetches (fetches begins
    refl (ap Some holds.zero) (one (spells_jump H1)))
    refl (ap Some (holds.laid 0 (lit< tt))) (first (lit< tt)))
    refl (ap Some (holds.laid 1 (lit< tt))) (two spells_origin))
    refl (ap Some (holds.laid 2 (lit< tt))) (first (lit< tt)))
    refl (ap Some (holds.laid 3 (lit< tt))) (two spells_level))
    refl (ap Some (holds.laid 4 (lit< tt))) (one spells_halt) in
    (level_visits H1, halts run (lit≤ tt) refl)

-- the frame that calls a shape of the ROM
abbrev shape_visits : Half → List Visit
shape_visits half =
    record { place = base half + 3; code = Halt }
    ∷ record { place = 0x801; code = Rtsl }
    ∷ record { place = 0x800; code = Svec 3 (negsuc 2) (negsuc 1) 3 }
    ∷ record { place = base half + 2; code = Jsrl 0x800 }
    ∷ record { place = base half; code = Labs 0 0 0 }
    ∷ record { place = 0; code = Jmpl (base half) }
    ∷ []

pub shape_drawn : (half : Half) (ram R : List ℕ) → HoldsFrame ram half shape_frame
    → rom_word R 0x800 ≡ Some 0xFE37 → rom_word R 0x801 ≡ Some 0xD000
    → IsComplete (fetched ram R) 7 shape_strokes
shape_drawn H0 ram R holds vector back =
    let run : Runs (fetched ram R) 7 (shape_visits H0) None =
    fetches (fetches (fetches (fetches (fetches (fetches (fetches begins
    refl (ap Some holds.zero) (one (spells_jump H0)))
    refl (ap Some (holds.laid 0 (lit< tt))) (first (lit< tt)))
    refl (ap Some (holds.laid 1 (lit< tt))) (two spells_origin))
    refl (ap Some (holds.laid 2 (lit< tt))) (one (spells_call 0x800 (lit≤ tt))))
    refl vector (one short_vector))
    refl back (one spells_return))
    refl (ap Some (holds.laid 3 (lit< tt))) (one spells_halt) in
    (shape_visits H0, halts run (lit≤ tt) refl)
shape_drawn H1 ram R holds vector back =
    let run : Runs (fetched ram R) 7 (shape_visits H1) None =
    fetches (fetches (fetches (fetches (fetches (fetches (fetches begins
    refl (ap Some holds.zero) (one (spells_jump H1)))
    refl (ap Some (holds.laid 0 (lit< tt))) (first (lit< tt)))
    refl (ap Some (holds.laid 1 (lit< tt))) (two spells_origin))
    refl (ap Some (holds.laid 2 (lit< tt))) (one (spells_call 0x800 (lit≤ tt))))
    refl vector (one short_vector))
    refl back (one spells_return))
    refl (ap Some (holds.laid 3 (lit< tt))) (one spells_halt) in
    (shape_visits H1, halts run (lit≤ tt) refl)

-- the frame of four calls
abbrev nested_visits : Half → List Visit
nested_visits half =
    record { place = base half + 3; code = Halt }
    ∷ record { place = base half + 5; code = Rtsl }
    ∷ record { place = base half + 7; code = Rtsl }
    ∷ record { place = base half + 9; code = Rtsl }
    ∷ record { place = base half + 10; code = Rtsl }
    ∷ record { place = base half + 8; code = Jsrl (base half + 10) }
    ∷ record { place = base half + 6; code = Jsrl (base half + 8) }
    ∷ record { place = base half + 4; code = Jsrl (base half + 6) }
    ∷ record { place = base half + 2; code = Jsrl (base half + 4) }
    ∷ record { place = base half; code = Labs 0 0 0 }
    ∷ record { place = 0; code = Jmpl (base half) }
    ∷ []

pub nested_drawn : (half : Half) (ram R : List ℕ) → HoldsFrame ram half nested_frame
    → IsComplete (fetched ram R) 12 []
nested_drawn H0 ram R holds =
    let run : Runs (fetched ram R) 12 (nested_visits H0) None =
    fetches (fetches (fetches (fetches (fetches (fetches
    (fetches (fetches (fetches (fetches (fetches (fetches begins
    refl (ap Some holds.zero) (one (spells_jump H0)))
    refl (ap Some (holds.laid 0 (lit< tt))) (first (lit< tt)))
    refl (ap Some (holds.laid 1 (lit< tt))) (two spells_origin))
    refl (ap Some (holds.laid 2 (lit< tt))) (one (spells_call (base H0 + 4) (lit≤ tt))))
    refl (ap Some (holds.laid 4 (lit< tt))) (one (spells_call (base H0 + 6) (lit≤ tt))))
    refl (ap Some (holds.laid 6 (lit< tt))) (one (spells_call (base H0 + 8) (lit≤ tt))))
    refl (ap Some (holds.laid 8 (lit< tt))) (one (spells_call (base H0 + 10) (lit≤ tt))))
    refl (ap Some (holds.laid 10 (lit< tt))) (one spells_return))
    refl (ap Some (holds.laid 9 (lit< tt))) (one spells_return))
    refl (ap Some (holds.laid 7 (lit< tt))) (one spells_return))
    refl (ap Some (holds.laid 5 (lit< tt))) (one spells_return))
    refl (ap Some (holds.laid 3 (lit< tt))) (one spells_halt) in
    (nested_visits H0, halts run (lit≤ tt) refl)
nested_drawn H1 ram R holds =
    let run : Runs (fetched ram R) 12 (nested_visits H1) None =
    fetches (fetches (fetches (fetches (fetches (fetches
    (fetches (fetches (fetches (fetches (fetches (fetches begins
    refl (ap Some holds.zero) (one (spells_jump H1)))
    refl (ap Some (holds.laid 0 (lit< tt))) (first (lit< tt)))
    refl (ap Some (holds.laid 1 (lit< tt))) (two spells_origin))
    refl (ap Some (holds.laid 2 (lit< tt))) (one (spells_call (base H1 + 4) (lit≤ tt))))
    refl (ap Some (holds.laid 4 (lit< tt))) (one (spells_call (base H1 + 6) (lit≤ tt))))
    refl (ap Some (holds.laid 6 (lit< tt))) (one (spells_call (base H1 + 8) (lit≤ tt))))
    refl (ap Some (holds.laid 8 (lit< tt))) (one (spells_call (base H1 + 10) (lit≤ tt))))
    refl (ap Some (holds.laid 10 (lit< tt))) (one spells_return))
    refl (ap Some (holds.laid 9 (lit< tt))) (one spells_return))
    refl (ap Some (holds.laid 7 (lit< tt))) (one spells_return))
    refl (ap Some (holds.laid 5 (lit< tt))) (one spells_return))
    refl (ap Some (holds.laid 3 (lit< tt))) (one spells_halt) in
    (nested_visits H1, halts run (lit≤ tt) refl)
