-- The table of the hexadecimal digits.
use Rattle.std.proofs.Common.{◌≡◌, ◌<◌, ℕ, List, min, map, get_or, refl, ap, ◌∙◌, arith}
use Rattle.std.specs.Char.{digit_value}
use Rattle.std.specs.List.{range_with_len}
use Rattle.std.proofs.lemmas.List.FromFn.{get_or-map-range_with_len}
use Rattle.dvg_read.specs.declared.number.TheConstants.{HEX_DIGITS}

-- the entries are the values of the bytes as digits, 16 for none, in turn
entries : HEX_DIGITS ≡ map (λ byte. min 16 (digit_value byte)) (range_with_len 0 256)
entries = refl

-- the entry of one byte
pub entry : (byte : ℕ) → byte < 256 → get_or HEX_DIGITS byte 0 ≡ min 16 (digit_value byte)
entry byte inside = ap (λ (table : List ℕ). get_or table byte 0) entries ∙ get_or-map-range_with_len (λ byte. min 16 (digit_value byte)) 0 256 byte byte 0 inside (omega arith)
