-- Worked examples of spellings and of a cutting.
use Rattle.std.proofs.Common.{◌≡◌, pos, negsuc, [], ◌∷◌, refl, lit<, lit≤}
use Rattle.dvg_code.specs.declared.instr.Instr.TheVariants.{Vctr, Halt, Svec}
use Rattle.dvg_code.specs.Words.{words_of}
use Rattle.dvg_code.specs.Spelling.{Spells, vctr, halt, svec, canon}
use Rattle.dvg_code.specs.Cutting.{Cuts, ends, goes}

-- the bytes 64 90 64 74 are the words 9064 7464
pub low_byte_first : words_of (0x64 ∷ 0x90 ∷ 0x64 ∷ 0x74 ∷ []) ≡ 0x9064 ∷ 0x7464 ∷ []
low_byte_first = refl

-- these spell VCTR 9 -100 100 7
pub long_vector : Spells (Vctr 9 (negsuc 99) (pos 100) 7) (0x9064 ∷ 0x7464 ∷ [])
long_vector =
    vctr (lit≤ tt, lit≤ tt, lit≤ tt, lit≤ tt)
    (record { free = 0; sign = 0; free_is_bit = lit< tt; sign_is = refl; sum = refl })
    (record { free = 0; sign = 1; free_is_bit = lit< tt; sign_is = refl; sum = refl })

-- and are its canonical words
pub long_vector_canonical : canon (Vctr 9 (negsuc 99) (pos 100) 7) ≡ 0x9064 ∷ 0x7464 ∷ []
long_vector_canonical = refl

-- FE37 spells SVEC 3 -3 -2 3
pub short_vector : Spells (Svec 3 (negsuc 2) (negsuc 1) 3) (0xFE37 ∷ [])
short_vector =
    svec (lit≤ tt, lit≤ tt, lit≤ tt, lit≤ tt, lit≤ tt)
    (record { bit_11 = 1; bit_3 = 0; dy_sign = 1; dx_sign = 1; bit_11_is_bit = lit< tt; bit_3_is_bit = lit< tt; dy_sign_is = refl; dx_sign_is = refl; weights = refl; sum = refl })

-- and is its canonical word
pub short_vector_canonical : canon (Svec 3 (negsuc 2) (negsuc 1) 3) ≡ 0xFE37 ∷ []
short_vector_canonical = refl

-- 9400 0800 spell VCTR 9 0 0 0, though with the sign 1 on the y of zero, and with bit 11 set in the second word
pub not_canonical : Spells (Vctr 9 (pos 0) (pos 0) 0) (0x9400 ∷ 0x0800 ∷ [])
not_canonical =
    vctr (lit≤ tt, lit≤ tt, lit≤ tt, lit≤ tt)
    (record { free = 0; sign = 1; free_is_bit = lit< tt; sign_is = lit< tt; sum = refl })
    (record { free = 1; sign = 0; free_is_bit = lit< tt; sign_is = lit< tt; sum = refl })

-- B000 A190 are cut into HALT, and at place 1 a word whose second word is missing
pub halt_then_cut : Cuts 0 (0xB000 ∷ 0xA190 ∷ []) (record { place = 0; instr = Halt; words = 0xB000 ∷ [] } ∷ []) 1 (0xA190 ∷ [])
halt_then_cut = goes (halt (lit≤ tt) (lit< tt)) refl (ends (lit< tt))
