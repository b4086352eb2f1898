-- What the text of a sketch denotes: its frames, and what it tells of the ROM.
use Rattle.std.specs.Prelude.{◌≡◌, ℕ, List, ◌++◌, Option, map}
use Rattle.std.specs.List.{AllZip, concat}
use Rattle.dvg_code.specs.Spelling.{canon}
use Rattle.dvg_code.specs.declared.instr.Instr.{Instr}
use Rattle.dvg_code.specs.declared.instr.Instr.TheVariants as instrs
use Rattle.dvg_frame.specs.declared.op.OpKind.{OpKind}
use Rattle.dvg_frame.specs.declared.op.OpKind.TheVariants as kinds
use Rattle.dvg_read.specs.RomTexts.{RomLine, RomText}
use Rattle.dvg_rows.specs.Rows.{Doing, Row, plainly, calls, jumps, calls_rom, jumps_rom}
use Rattle.dvg_named.specs.Sections.{FrameRows, Spelled, frames, rom_sections}
use Rattle.dvg_named.specs.Places.{IsAddress, Laid, laid}
use Rattle.dvg_rows.specs.RowPlaces.{IsNumber, doings}

-- a frame: its name, if it has one, and its draft
pub record Frame : Type 0 where
  pub name : Option (List ℕ)
  pub draft : List OpKind

-- a row of a frame does this operation; names after `callrom` and `jumprom` are of the ROM
abbrev pub IsDrafted : List Laid → List Row → Doing → OpKind → Type 0
IsDrafted rom rows (plainly op) drafted = drafted ≡ op
IsDrafted rom rows (calls name) drafted = (number : ℕ) × IsNumber rows name number × (drafted ≡ kinds.Call number)
IsDrafted rom rows (jumps name) drafted = (number : ℕ) × IsNumber rows name number × (drafted ≡ kinds.Jump number)
IsDrafted rom rows (calls_rom name) drafted = (address : ℕ) × IsAddress rom name address
    × (drafted ≡ kinds.CallRom address)
IsDrafted rom rows (jumps_rom name) drafted = (address : ℕ) × IsAddress rom name address
    × (drafted ≡ kinds.JumpRom address)

-- the draft of a frame has what its rows do, in order
pub record IsFrameOf (rom : List Laid) (source : FrameRows) (result : Frame) : Type 0 where
  pub name : result.name ≡ source.name
  pub draft : AllZip (IsDrafted rom source.rows) (doings source.rows) result.draft

-- a row of the ROM does this instruction; each name there is of the ROM
abbrev pub IsEncoded : List Laid → Doing → Instr → Type 0
IsEncoded rom (plainly (kinds.Draw drawn)) instr = instr ≡ drawn
IsEncoded rom (plainly (kinds.CallRom a)) instr = instr ≡ instrs.Jsrl a
IsEncoded rom (plainly (kinds.JumpRom a)) instr = instr ≡ instrs.Jmpl a
IsEncoded rom (plainly (kinds.Call n)) instr = ⊥
IsEncoded rom (plainly (kinds.Jump n)) instr = ⊥
IsEncoded rom (plainly kinds.Return) instr = instr ≡ instrs.Rtsl
IsEncoded rom (plainly kinds.Halt) instr = instr ≡ instrs.Halt
IsEncoded rom (calls name) instr = (address : ℕ) × IsAddress rom name address × (instr ≡ instrs.Jsrl address)
IsEncoded rom (calls_rom name) instr = (address : ℕ) × IsAddress rom name address × (instr ≡ instrs.Jsrl address)
IsEncoded rom (jumps name) instr = (address : ℕ) × IsAddress rom name address × (instr ≡ instrs.Jmpl address)
IsEncoded rom (jumps_rom name) instr = (address : ℕ) × IsAddress rom name address × (instr ≡ instrs.Jmpl address)

-- a laid section gives the canonical words of its instructions, from its start on
pub record IsGiven (rom : List Laid) (section : Laid) (given : RomLine) : Type 0 where
  pub address : given.address ≡ section.start
  pub instrs : List Instr
  pub encoded : AllZip (IsEncoded rom) (doings section.rows) instrs
  pub words : given.words ≡ concat (map canon instrs)

-- what a sketch tells of the ROM: its lines of words, and then each section as one more
pub record IsRomText (sketch : Spelled) (result : RomText) : Type 0 where
  pub map : result.map ≡ sketch.rom.map
  pub laid_words : List RomLine
  pub given : AllZip (IsGiven (laid sketch.rom (rom_sections sketch)))
      (laid sketch.rom (rom_sections sketch)) laid_words
  pub all : result.given ≡ sketch.rom.given ++ laid_words

-- what a sketch denotes: the names that it wants are given, and the frames and the ROM are these
pub record IsMeant (sketch : Spelled) (result : List Frame) (rom : RomText) : Type 0 where
  pub frames : AllZip (IsFrameOf (laid sketch.rom (rom_sections sketch))) (frames sketch) result
  pub rom_text : IsRomText sketch rom
