-- Worked examples of how runs end, and of what is recorded of an instruction.
use Rattle.std.proofs.Common.{◌≡◌, ℕ, [], ◌∷◌, Option, Some, None, true, false, pos, refl, lit<, lit≤}
use Rattle.dvg_code.specs.declared.instr.Instr.{Instr}
use Rattle.dvg_code.specs.declared.instr.Instr.TheVariants.{Halt, Jsrl, Rtsl, Svec}
use Rattle.dvg_code.specs.Spelling.{Spells, halt, jsrl, rtsl}
use Rattle.dvg_gen.specs.declared.taken.GenFault.TheVariants.{StackOver, StackUnder, Hole}
use Rattle.dvg_gen.specs.Run.{Visit, one, begins, fetches}
use Rattle.dvg_gen.specs.Told.{nothing}
use Rattle.dvg_dump.specs.Ends.{Complete, Broken, Ends, halts, breaks, meets_hole}
use Rattle.dvg_dump.specs.Traces.{ran_of}

-- a memory of one word everywhere
abbrev full_of : ℕ → ℕ → Option ℕ
full_of word address = Some word

abbrev visit : ℕ → Instr → Visit
visit place code = record { place = place; code = code }

-- of HALTs: complete after one word, without a stroke
pub of_halts : Ends (full_of 0xB000) (visit 0 Halt ∷ []) (Complete 1 [])
of_halts = halts (fetches begins refl refl (one (halt (lit≤ tt) (lit< tt)))) (lit≤ tt) refl

-- of returns: the first one breaks it
pub of_returns : Ends (full_of 0xD000) (visit 0 Rtsl ∷ []) (Broken 0 StackUnder)
of_returns = breaks (fetches begins refl refl (one (rtsl (lit≤ tt) (lit< tt)))) (lit≤ tt) refl

-- without any word: a hole at once, and no instruction
pub of_nothing : Ends (λ address. None) [] (Broken 0 Hole)
of_nothing = meets_hole begins (lit< tt) refl refl

-- C800 calls 800
call_800 : Spells (Jsrl 2048) (0xC800 ∷ [])
call_800 = jsrl (lit≤ tt) refl

-- of calls of 800: the fifth one breaks it, at 800
pub of_calls : Ends (full_of 0xC800) (visit 2048 (Jsrl 2048) ∷ visit 2048 (Jsrl 2048) ∷ visit 2048 (Jsrl 2048) ∷ visit 2048 (Jsrl 2048) ∷ visit 0 (Jsrl 2048) ∷ []) (Broken 2048 StackOver)
of_calls =
    breaks
    (fetches (fetches (fetches (fetches (fetches begins refl refl (one call_800)) refl refl (one call_800)) refl refl (one call_800)) refl refl (one call_800)) refl refl (one call_800))
    (lit≤ tt)
    refl

-- F01A is the canonical word of an SVEC, and F41A spells it too, with the sign of a zero
pub recorded_of_a_short_vector : ran_of (full_of 0xF01A) nothing.first (visit 513 (Svec 4 (pos 2) (pos 0) 1))
    ≡ record { address = 513; code = Svec 4 (pos 2) (pos 0) 1; canonical = true; beam = record { x = 8192; y = 0; scale = 0 }; stroke = Some (record { x0 = 0; y0 = 0; x1 = 8192; y1 = 0; z = 1 }) }
recorded_of_a_short_vector = refl

pub recorded_with_a_star : (ran_of (full_of 0xF41A) nothing.first (visit 513 (Svec 4 (pos 2) (pos 0) 1))).canonical ≡ false
recorded_with_a_star = refl

-- a blank one has no stroke
pub recorded_without_a_stroke : (ran_of (full_of 0xF00A) nothing.first (visit 513 (Svec 4 (pos 2) (pos 0) 0))).stroke ≡ None
recorded_without_a_stroke = refl
