-- What is seen of two logs.
use Rattle.std.proofs.Common.{◌≡◌, Bool, true, false, List, [], ◌∷◌, ◌++◌, refl, ap}
use Rattle.std.specs.Prelude.{nat_le, if◌then◌else◌}
use Rattle.dvg_calls_6502.specs.Processor.{Access, Reads, Writes}
use Rattle.dvg_calls_6502.specs.Board.{is_hardware, seen}

pub seen_both : (one two more : List Access) → seen (one ++ two) ++ more ≡ seen one ++ (seen two ++ more)
seen_both [] two more = refl
seen_both (Reads a byte ∷ one) two more = by (is_hardware a) (seen_both one two more)
  where
    by : (t : Bool) → seen (one ++ two) ++ more ≡ seen one ++ (seen two ++ more)
        → (if t then Reads a byte ∷ seen (one ++ two) else seen (one ++ two)) ++ more
        ≡ (if t then Reads a byte ∷ seen one else seen one) ++ (seen two ++ more)
    by true same = ap (λ l. Reads a byte ∷ l) same
    by false same = same
seen_both (Writes a byte ∷ one) two more = by (nat_le 0x200 a) (seen_both one two more)
  where
    by : (t : Bool) → seen (one ++ two) ++ more ≡ seen one ++ (seen two ++ more)
        → (if t then Writes a byte ∷ seen (one ++ two) else seen (one ++ two)) ++ more
        ≡ (if t then Writes a byte ∷ seen one else seen one) ++ (seen two ++ more)
    by true same = ap (λ l. Writes a byte ∷ l) same
    by false same = same
