-- Which lines of a sketch belong to which section.
use Rattle.std.specs.Prelude.{◌≡◌, ◌≢◌, ◌<◌, ℕ, List, [], ◌∷◌, ◌++◌, All, IfSome, Option, Some, None, length}
use Rattle.std.specs.List.{AllZip, filter_map, flat_map}
use Rattle.dvg_frame.specs.declared.op.OpKind.TheVariants.{Call, Jump}
use Rattle.dvg_read.specs.RomTexts.{RomText, SpellsRom}
use Rattle.dvg_rows.specs.Rows.{Head, IsHeadLine, IsRowLine, Row, frame, plainly, rom, top}

-- a section: how it begins, and its rows
pub record Section : Type 0 where
  pub head : Head
  pub rows : List Row

-- what lines spell: what they tell of the ROM, the rows at the top, and the sections after them
pub record Spelled : Type 0 where
  pub rom : RomText
  pub first : List Row
  pub others : List Section

-- in a section of the ROM nothing calls or jumps by the number of an operation
abbrev pub MayStand : Head → Row → Type 0
MayStand (rom address) row = IfSome row.doing (λ doing. (n : ℕ) → (doing ≢ plainly (Call n))
    × (doing ≢ plainly (Jump n)))
MayStand _ row = Unit {0}

-- the lines of a section that a line begins: that line, and those of its rows
pub record SpellsSection (section : Section) (ls : List (List ℕ)) : Type 0 where
  pub begin : List ℕ
  pub rest : List (List ℕ)
  pub cut : ls ≡ begin ∷ rest
  pub head : IsHeadLine section.head begin
  pub rows : AllZip IsRowLine section.rows rest
  pub may : All (MayStand section.head) section.rows

-- lines that tell of the ROM, then rows, and then sections
pub record SpellsSketch (sketch : Spelled) (ls : List (List ℕ)) : Type 0 where
  pub front : List (List ℕ)
  pub rows : List (List ℕ)
  pub rest : List (List (List ℕ))
  pub cut : ls ≡ front ++ rows ++ flat_map (λ lines. lines) rest
  pub stated : SpellsRom sketch.rom front
  pub first : AllZip IsRowLine sketch.first rows
  pub others : AllZip SpellsSection sketch.others rest

-- all sections, with that at the top
abbrev pub sections : Spelled → List Section
sections sketch = record { head = top; rows = sketch.first } ∷ sketch.others

-- the rows of a frame, and its name, if it has one
pub record FrameRows : Type 0 where
  pub name : Option (List ℕ)
  pub rows : List Row

-- the rows of the ROM from one address on, and that address, if it is given
pub record RomRows : Type 0 where
  pub address : Option ℕ
  pub rows : List Row

-- a section that a line `.frame` begins is a frame
abbrev pub frame_of : Head → List Row → Option FrameRows
frame_of (frame name) rows = Some (record { name = name; rows = rows })
frame_of _ rows = None

-- one that a line `.rom` begins is of the ROM
abbrev pub rom_of : Head → List Row → Option RomRows
rom_of (rom address) rows = Some (record { address = address; rows = rows })
rom_of _ rows = None

-- the rows at the top are a frame without a name; where there is none, only if no section follows
abbrev pub top_frame : List Row → List Section → List FrameRows
top_frame [] (section ∷ others) = []
top_frame rows others = record { name = None; rows = rows } ∷ []

-- there is a frame at the top
abbrev pub HasTop : Spelled → Type 0
HasTop sketch = 0 < length (top_frame sketch.first sketch.others)

-- the frames, in order
abbrev pub frames : Spelled → List FrameRows
frames sketch = top_frame sketch.first sketch.others
    ++ filter_map (λ section. frame_of section.head section.rows) sketch.others

-- the sections of the ROM, in order
abbrev pub rom_sections : Spelled → List RomRows
rom_sections sketch = filter_map (λ section. rom_of section.head section.rows) sketch.others
