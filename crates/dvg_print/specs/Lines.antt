-- The lines that the engines write.
use Rattle.std.specs.Prelude.{ℕ, ℤ, ◌+◌, ◌/◌, ◌%◌, Bool, true, cond, if◌then◌else◌, ◌==◌, length, List, [], ◌∷◌, ◌++◌}
use Rattle.std.specs.Prelude.{flat_map, map, codes}
use Rattle.std.specs.Fmt.{decimal, signed_decimal, digit_glyph}
use Rattle.dvg_code.specs.declared.instr.Instr.{Instr}
use Rattle.dvg_code.specs.declared.instr.Instr.TheVariants.{Vctr, Labs, Halt, Jsrl, Rtsl, Jmpl, Svec}
use Rattle.dvg_code.specs.Words.{words_of}
use Rattle.dvg_mem.specs.Memory.{first_word}

-- a number of 8 bits as two hexadecimal digits in upper case
abbrev pub hex_2 : ℕ → List ℕ
hex_2 n = digit_glyph true (n / 16 % 16) ∷ digit_glyph true (n % 16) ∷ []

-- a number below 4096 as three hexadecimal digits in upper case
abbrev pub hex_3 : ℕ → List ℕ
hex_3 n = digit_glyph true (n / 256 % 16) ∷ digit_glyph true (n / 16 % 16) ∷ digit_glyph true (n % 16) ∷ []

-- a number of 16 bits as four hexadecimal digits in upper case
abbrev pub hex_4 : ℕ → List ℕ
hex_4 n = digit_glyph true (n / 4096 % 16) ∷ hex_3 n

-- parts of a line, each after a space
abbrev pub spaced : List (List ℕ) → List ℕ
spaced = flat_map (λ part. 32 ∷ part)

-- a vector's name and numbers
abbrev pub vector_parts : List ℕ → ℕ → ℤ → ℤ → ℕ → List (List ℕ)
vector_parts name scale dx dy z = name ∷ decimal scale ∷ signed_decimal dx ∷ signed_decimal dy ∷ decimal z ∷ []

-- an instruction's name and operands
abbrev pub instr_parts : Instr → List (List ℕ)
instr_parts (Vctr scale dx dy z) = vector_parts (codes "VCTR") scale dx dy z
instr_parts (Labs x y scale) = codes "LABS" ∷ decimal x ∷ decimal y ∷ decimal scale ∷ []
instr_parts Halt = codes "HALT" ∷ []
instr_parts (Jsrl address) = codes "JSRL" ∷ hex_3 address ∷ []
instr_parts Rtsl = codes "RTSL" ∷ []
instr_parts (Jmpl address) = codes "JMPL" ∷ hex_3 address ∷ []
instr_parts (Svec scale dx dy z) = vector_parts (codes "SVEC") scale dx dy z

-- an instruction's name and operands, and a star where its words aren't canonical
abbrev pub listed_parts : Instr → Bool → List (List ℕ)
listed_parts instr canonical = instr_parts instr ++ cond canonical [] (codes "*" ∷ [])

-- the line of an instruction at a place, whose words are canonical, or else marked by a star; 10 is LF
abbrev pub line_text : ℕ → Instr → Bool → List ℕ
line_text place instr canonical = hex_3 place ++ spaced (listed_parts instr canonical) ++ 10 ∷ []

-- the ROM line of the words from an address on
abbrev pub rom_line : ℕ → List ℕ → List ℕ
rom_line address words = codes "rom" ++ spaced (hex_3 address ∷ map hex_4 words) ++ 10 ∷ []

-- a ROM line for every eight words, from an address on; fewer at the end have none
abbrev pub rom_lines : ℕ → List ℕ → List ℕ
rom_lines address (a ∷ b ∷ c ∷ d ∷ e ∷ f ∷ g ∷ h ∷ words) = rom_line address (a ∷ b ∷ c ∷ d ∷ e ∷ f ∷ g ∷ h ∷ [])
    ++ rom_lines (address + 8) words
rom_lines address _ = []

-- the line of a ROM's map; none where it has 2,048 bytes
abbrev pub map_text : List ℕ → List ℕ
map_text bytes = if length bytes == 2048 then [] else codes "map 4096" ++ 10 ∷ []

-- the text of a ROM: its map, and its words, from the first one on
abbrev pub rom_text : List ℕ → List ℕ
rom_text bytes = map_text bytes ++ rom_lines (first_word bytes) (words_of bytes)
