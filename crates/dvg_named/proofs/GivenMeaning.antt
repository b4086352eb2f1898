-- Where each name that is wanted is given, a sketch denotes something.
use Rattle.std.proofs.Common.{◌≡◌, ℕ, suc, List, [], ◌∷◌, ◌++◌, All, IfSome, None, Option, Some, map, refl, slice_get, subst}
use Rattle.std.specs.Prelude.{◌≢◌}
use Rattle.std.proofs.lemmas.List.Elements.{All-cons, All-head, All-nil, All-tail}
use Rattle.std.specs.List.{AllZip, concat, cons_option}
use Rattle.dvg_code.specs.Spelling.{canon}
use Rattle.dvg_code.specs.declared.instr.Instr.{Instr}
use Rattle.dvg_code.specs.declared.instr.Instr.TheVariants as instrs
use Rattle.dvg_frame.specs.declared.op.OpKind.{OpKind}
use Rattle.dvg_frame.specs.declared.op.OpKind.TheVariants as kinds
use Rattle.dvg_read.specs.RomTexts.{RomLine, RomText}
use Rattle.dvg_named.specs.FirstUnknown.{WantsNone}
use Rattle.dvg_named.specs.Meanings.{Frame, IsDrafted, IsEncoded, IsFrameOf, IsGiven, IsMeant}
use Rattle.dvg_named.specs.SketchFaults.{IsUngiven, laid_of}
use Rattle.dvg_named.specs.Places.{Laid}
use Rattle.dvg_rows.specs.RowPlaces.{doings}
use Rattle.dvg_named.specs.RomBytes.{MayBeEncoded, MayStandInRom}
use Rattle.dvg_rows.specs.Rows.{Doing, Row, calls, calls_rom, jumps, jumps_rom, plainly, rom}
use Rattle.dvg_named.specs.Sections.{FrameRows, MayStand, Section, Spelled, SpellsSketch, frames, rom_sections, sections}
use Rattle.dvg_named.specs.Ungiven.{framed, in_rom}
use Rattle.dvg_named.proofs.KnownFrames.{frames_known}
use Rattle.dvg_named.proofs.KnownRom.{laid_known, rom_known}
use Rattle.dvg_named.proofs.RomGiven.{laid_may, sections_may}

-- ---- what rows do

one_doing : (P : Doing → Type 0) (doing : Option Doing) (others : List Doing) → ((d : Doing) → doing ≡ Some d → P d)
    → All P others → All P (cons_option doing others)
one_doing P None others here all = all
one_doing P (Some doing) others here all = All-cons P doing others (here doing refl) all

-- what is so of what each row does
all_doings : (P : Doing → Type 0) (rows : List Row)
    → ((place : ℕ) (row : Row) → slice_get rows place ≡ Some row → (doing : Doing) → row.doing ≡ Some doing → P doing)
    → All P (doings rows)
all_doings P [] each = All-nil P
all_doings P (row ∷ rows) each =
    one_doing P row.doing (doings rows) (each 0 row refl) (all_doings P rows (λ place. each (suc place)))

-- no row of the section wants a name that isn't given
known_doings : (laid : List Laid) (section : Section) → WantsNone laid section
    → All (λ doing. ¬ IsUngiven laid section doing) (doings section.rows)
known_doings laid section none =
    all_doings (λ doing. ¬ IsUngiven laid section doing) section.rows
    (λ place row stands doing does ungiven. none place (record {
      row = row;
      stands = stands;
      doing = doing;
      does = does;
      ungiven = ungiven;
    }))

may_doings : (rows : List Row) → MayStandInRom rows → All MayBeEncoded (doings rows)
may_doings [] may = All-nil MayBeEncoded
may_doings (row ∷ rows) may =
    one_doing MayBeEncoded row.doing (doings rows)
    (λ doing does.
    subst (λ d. IfSome d (λ doing. (n : ℕ) → (doing ≢ plainly (kinds.Call n)) × (doing ≢ plainly (kinds.Jump n)))) does
    (All-head (MayStand (rom None)) row rows may))
    (may_doings rows (All-tail (MayStand (rom None)) row rows may))

module _ (laid : List Laid) where
  -- ---- drafts of frames

  op_found : (rows : List Row) (doing : Doing) → ¬ IsUngiven laid (framed rows) doing
      → ((op : OpKind) → ¬ IsDrafted laid rows doing op) → ⊥
  op_found rows (plainly op) known none = none op refl
  op_found rows (calls name) known none = known (λ number is. none (kinds.Call number) (number, is, refl))
  op_found rows (jumps name) known none = known (λ number is. none (kinds.Jump number) (number, is, refl))
  op_found rows (calls_rom name) known none = known (λ address is. none (kinds.CallRom address) (address, is, refl))
  op_found rows (jumps_rom name) known none = known (λ address is. none (kinds.JumpRom address) (address, is, refl))

  ops_found : (rows : List Row) (done : List Doing) → All (λ doing. ¬ IsUngiven laid (framed rows) doing) done
      → ((ops : List OpKind) → ¬ AllZip (IsDrafted laid rows) done ops) → ⊥
  ops_found rows [] known none = none [] tt
  ops_found rows (doing ∷ done) known none =
      op_found rows doing (All-head (λ doing. ¬ IsUngiven laid (framed rows) doing) doing done known)
      (λ op is. ops_found rows done (All-tail (λ doing. ¬ IsUngiven laid (framed rows) doing) doing done known)
      (λ ops are. none (op ∷ ops) (is, are)))

  abbrev KnownFrame : FrameRows → Type 0
  KnownFrame source = WantsNone laid (framed source.rows)

  drafts_found : (sources : List FrameRows) → All KnownFrame sources
      → ((result : List Frame) → ¬ AllZip (IsFrameOf laid) sources result) → ⊥
  drafts_found [] known none = none [] tt
  drafts_found (source ∷ sources) known none =
      ops_found source.rows (doings source.rows)
      (known_doings laid (framed source.rows) (All-head KnownFrame source sources known))
      (λ ops are. drafts_found sources (All-tail KnownFrame source sources known)
      (λ result rest. none (record { name = source.name; draft = ops } ∷ result) (record { name = refl; draft = are }, rest)))

  -- ---- words of the ROM

  instr_found : (rows : List Row) (doing : Doing) → MayBeEncoded doing → ¬ IsUngiven laid (in_rom rows) doing
      → ((instr : Instr) → ¬ IsEncoded laid doing instr) → ⊥
  instr_found rows (plainly (kinds.Draw drawn)) may known none = none drawn refl
  instr_found rows (plainly (kinds.CallRom a)) may known none = none (instrs.Jsrl a) refl
  instr_found rows (plainly (kinds.JumpRom a)) may known none = none (instrs.Jmpl a) refl
  instr_found rows (plainly (kinds.Call n)) may known none = (may n).0 refl
  instr_found rows (plainly (kinds.Jump n)) may known none = (may n).1 refl
  instr_found rows (plainly kinds.Return) may known none = none instrs.Rtsl refl
  instr_found rows (plainly kinds.Halt) may known none = none instrs.Halt refl
  instr_found rows (calls name) may known none = known (λ a is. none (instrs.Jsrl a) (a, is, refl))
  instr_found rows (calls_rom name) may known none = known (λ a is. none (instrs.Jsrl a) (a, is, refl))
  instr_found rows (jumps name) may known none = known (λ a is. none (instrs.Jmpl a) (a, is, refl))
  instr_found rows (jumps_rom name) may known none = known (λ a is. none (instrs.Jmpl a) (a, is, refl))

  instrs_found : (rows : List Row) (done : List Doing) → All MayBeEncoded done
      → All (λ doing. ¬ IsUngiven laid (in_rom rows) doing) done
      → ((found : List Instr) → ¬ AllZip (IsEncoded laid) done found) → ⊥
  instrs_found rows [] may known none = none [] tt
  instrs_found rows (doing ∷ done) may known none =
      instr_found rows doing (All-head MayBeEncoded doing done may)
      (All-head (λ doing. ¬ IsUngiven laid (in_rom rows) doing) doing done known)
      (λ instr is. instrs_found rows done (All-tail MayBeEncoded doing done may)
      (All-tail (λ doing. ¬ IsUngiven laid (in_rom rows) doing) doing done known)
      (λ found are. none (instr ∷ found) (is, are)))

  abbrev KnownLaid : Laid → Type 0
  KnownLaid section = WantsNone laid (in_rom section.rows)

  abbrev MayLaid : Laid → Type 0
  MayLaid section = MayStandInRom section.rows

  words_found : (parts : List Laid) → All MayLaid parts → All KnownLaid parts
      → ((lines : List RomLine) → ¬ AllZip (IsGiven laid) parts lines) → ⊥
  words_found [] may known none = none [] tt
  words_found (section ∷ parts) may known none =
      instrs_found section.rows (doings section.rows) (may_doings section.rows (All-head MayLaid section parts may))
      (known_doings laid (in_rom section.rows) (All-head KnownLaid section parts known))
      (λ found are. words_found parts (All-tail MayLaid section parts may) (All-tail KnownLaid section parts known)
      (λ lines rest. none (record { address = section.start; words = concat (map canon found) } ∷ lines)
      (record { address = refl; instrs = found; encoded = are; words = refl }, rest)))

-- ---- a sketch

pub meaning_found : (sketch : Spelled) (ls : List (List ℕ)) → SpellsSketch sketch ls
    → All (WantsNone (laid_of sketch)) (sections sketch)
    → ((stated_rom : RomText) (result : List Frame) → ¬ IsMeant sketch result stated_rom) → ⊥
meaning_found sketch ls spelled known none =
    let laid = laid_of sketch in
    let may = laid_may (rom_sections sketch) _ (sections_may sketch.others spelled.rest spelled.others) in
    let in_laid = laid_known laid (rom_sections sketch) _
    (rom_known laid sketch.others (All-tail (WantsNone laid) (framed sketch.first) sketch.others known)) in
    drafts_found laid (frames sketch) (frames_known laid sketch known)
    (λ result are. words_found laid laid may in_laid
    (λ lines given. none (record { map = sketch.rom.map; given = sketch.rom.given ++ lines }) result (record {
      frames = are;
      rom_text = record { map = refl; laid_words = lines; given = given; all = refl };
    })))
