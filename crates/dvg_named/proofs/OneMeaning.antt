-- A text denotes one list of frames at most, and one ROM.
use Rattle.std.proofs.Common.{◌≡◌, ◌++◌, ◌∙◌, ℕ, List, [], ◌∷◌, All, Option, ap, map, refl, subst, sym}
use Rattle.std.proofs.lemmas.List.Elements.{All-head, All-tail}
use Rattle.std.specs.List.{AllZip, concat}
use Rattle.dvg_code.specs.Spelling.{canon}
use Rattle.dvg_code.specs.declared.instr.Instr.{Instr}
use Rattle.dvg_code.specs.declared.instr.Instr.TheVariants.{Jmpl, Jsrl}
use Rattle.dvg_frame.specs.declared.op.OpKind.{OpKind}
use Rattle.dvg_frame.specs.declared.op.OpKind.TheVariants as kinds
use Rattle.dvg_read.specs.RomTexts.{RomLine, RomText, first_stated}
use Rattle.dvg_read.specs.Texts.{unpassed}
use Rattle.dvg_named.specs.LaidValues.{rows_laid}
use Rattle.dvg_named.specs.Meanings.{Frame, IsDrafted, IsEncoded, IsFrameOf, IsGiven, IsMeant, IsRomText}
use Rattle.dvg_named.specs.SketchFaults.{DenotesFrames, GivesOnce, laid_of}
use Rattle.dvg_rows.specs.RowPlaces.{AreDistinct, names_of}
use Rattle.dvg_named.specs.Places.{IsAddress, Laid, free_after}
use Rattle.dvg_rows.specs.RowPlaces.{doings}
use Rattle.dvg_rows.specs.PlainLines.{plain_lines}
use Rattle.dvg_rows.specs.Rows.{Doing, Row, plainly, calls, jumps, calls_rom, jumps_rom}
use Rattle.dvg_named.specs.Sections.{FrameRows, Spelled, frames, rom_sections}
use Rattle.dvg_rows.proofs.RowNames.{one_number}
use Rattle.dvg_named.proofs.NamedSections.{one_address}
use Rattle.dvg_named.proofs.OneSketch.{one_sketch}
use Rattle.dvg_named.proofs.SketchWhole.{rows_are}

-- a list goes with one other at most, where each item goes with one at most
zip_one : {A B : Type 0} (P : A → Type 0) (R : A → B → Type 0)
    → ((x : A) (y z : B) → P x → R x y → R x z → z ≡ y)
    → (xs : List A) (ys zs : List B) → All P xs → AllZip R xs ys → AllZip R xs zs → zs ≡ ys
zip_one P R one [] [] [] all h k = refl
zip_one P R one [] [] (z ∷ zs) all h k = absurd k
zip_one P R one [] (y ∷ ys) zs all h k = absurd h
zip_one P R one (x ∷ xs) [] zs all h k = absurd h
zip_one P R one (x ∷ xs) (y ∷ ys) [] all h k = absurd k
zip_one P R one (x ∷ xs) (y ∷ ys) (z ∷ zs) all h k =
    let e = one x y z (All-head P x xs all) h.0 k.0 in
    let f = zip_one P R one xs ys zs (All-tail P x xs all) h.1 k.1 in
    cc

abbrev Any : {A : Type 0} → A → Type 0
Any x = Unit {0}

same_frame : (name other : Option (List ℕ)) (draft also : List OpKind) → other ≡ name → also ≡ draft
    → (let frame : Frame = record { name = other; draft = also } in frame) ≡ record { name = name; draft = draft }
same_frame name other draft also e f = cc

same_line : (address other : ℕ) (words also : List ℕ) → other ≡ address → also ≡ words
    → (let line : RomLine = record { address = other; words = also } in line) ≡ record { address = address; words = words }
same_line address other words also e f = cc

same_rom : (map other : Option ℕ) (given also : List RomLine) → other ≡ map → also ≡ given
    → (let rom : RomText = record { map = other; given = also } in rom) ≡ record { map = map; given = given }
same_rom map other given also e f = cc

module _ (laid : List Laid) (once : AreDistinct (names_of (rows_laid laid))) where
  one_target : {X : Type 0} (f : ℕ → X) (name : List ℕ) (a b : ℕ) (x y : X) → IsAddress laid name a
      → IsAddress laid name b → x ≡ f a → y ≡ f b → y ≡ x
  one_target f name a b x y h k e g = g ∙ ap f (one_address laid name b a once k h) ∙ sym e

  -- ---- frames

  one_op : (rows : List Row) → AreDistinct (names_of rows) → (doing : Doing) (op other : OpKind)
      → IsDrafted laid rows doing op → IsDrafted laid rows doing other → other ≡ op
  one_op rows each (plainly done) op other h k = k ∙ sym h
  one_op rows each (calls name) op other h k =
      k.2 ∙ ap kinds.Call (one_number rows name k.0 h.0 each k.1 h.1) ∙ sym h.2
  one_op rows each (jumps name) op other h k =
      k.2 ∙ ap kinds.Jump (one_number rows name k.0 h.0 each k.1 h.1) ∙ sym h.2
  one_op rows each (calls_rom name) op other h k = one_target kinds.CallRom name h.0 k.0 op other h.1 k.1 h.2 k.2
  one_op rows each (jumps_rom name) op other h k = one_target kinds.JumpRom name h.0 k.0 op other h.1 k.1 h.2 k.2

  one_frame : (source : FrameRows) (result other : Frame) → AreDistinct (names_of source.rows)
      → IsFrameOf laid source result → IsFrameOf laid source other → other ≡ result
  one_frame source result other each h k =
      same_frame result.name other.name result.draft other.draft (k.name ∙ sym h.name)
      (zip_one Any (IsDrafted laid source.rows) (λ doing op also any. one_op source.rows each doing op also)
      (doings source.rows) result.draft other.draft (λ i d low. tt) h.draft k.draft)

  -- ---- the ROM

  one_instr : (doing : Doing) (instr other : Instr) → IsEncoded laid doing instr → IsEncoded laid doing other
      → other ≡ instr
  one_instr (plainly (kinds.Draw drawn)) instr other h k = k ∙ sym h
  one_instr (plainly (kinds.CallRom a)) instr other h k = k ∙ sym h
  one_instr (plainly (kinds.JumpRom a)) instr other h k = k ∙ sym h
  one_instr (plainly (kinds.Call n)) instr other h k = absurd h
  one_instr (plainly (kinds.Jump n)) instr other h k = absurd h
  one_instr (plainly kinds.Return) instr other h k = k ∙ sym h
  one_instr (plainly kinds.Halt) instr other h k = k ∙ sym h
  one_instr (calls name) instr other h k = one_target Jsrl name h.0 k.0 instr other h.1 k.1 h.2 k.2
  one_instr (calls_rom name) instr other h k = one_target Jsrl name h.0 k.0 instr other h.1 k.1 h.2 k.2
  one_instr (jumps name) instr other h k = one_target Jmpl name h.0 k.0 instr other h.1 k.1 h.2 k.2
  one_instr (jumps_rom name) instr other h k = one_target Jmpl name h.0 k.0 instr other h.1 k.1 h.2 k.2

  one_given : (section : Laid) (given other : RomLine) → IsGiven laid section given → IsGiven laid section other
      → other ≡ given
  one_given section given other h k =
      let same = zip_one Any (IsEncoded laid) (λ doing instr also any. one_instr doing instr also)
      (doings section.rows) h.instrs k.instrs (λ i d low. tt) h.encoded k.encoded in
      same_line given.address other.address given.words other.words (k.address ∙ sym h.address)
      (k.words ∙ ap (λ instrs. concat (map canon instrs)) same ∙ sym h.words)

-- ---- a sketch

module _ (sketch : Spelled) (once : GivesOnce sketch) where
  distinct : AreDistinct (names_of (rows_laid (laid_of sketch)))
  distinct =
      subst (λ rows. AreDistinct (names_of rows))
      (sym (rows_are (free_after (first_stated sketch.rom.map) sketch.rom.given) (rom_sections sketch))) once.in_rom

  one_rom : (rom other : RomText) → IsRomText sketch rom → IsRomText sketch other → other ≡ rom
  one_rom rom other h k =
      let same = zip_one Any (IsGiven (laid_of sketch))
      (λ section given also any. one_given (laid_of sketch) distinct section given also) (laid_of sketch) h.laid_words
      k.laid_words (λ i d low. tt) h.given k.given in
      same_rom rom.map other.map rom.given other.given (k.map ∙ sym h.map)
      (k.all ∙ ap (λ words. sketch.rom.given ++ words) same ∙ sym h.all)

  one_meant : (rom other : RomText) (result others : List Frame) → IsMeant sketch result rom
      → IsMeant sketch others other → (other ≡ rom) × (others ≡ result)
  one_meant rom other result others h k = (
    one_rom rom other h.rom_text k.rom_text,
    zip_one (λ frame. AreDistinct (names_of frame.rows)) (IsFrameOf (laid_of sketch))
        (one_frame (laid_of sketch) distinct) (frames sketch) result others once.in_frames h.frames k.frames,
  )

pub one_meaning : (text : List ℕ) (rom other : RomText) (result others : List Frame) → DenotesFrames text rom result
    → DenotesFrames text other others → (other ≡ rom) × (others ≡ result)
one_meaning text rom other result others h k =
    let same = one_sketch h.sketch k.sketch (unpassed (plain_lines text)) h.spelled k.spelled in
    one_meant h.sketch h.limits.once rom other result others h.meant
    (subst (λ sketch. IsMeant sketch others other) same k.meant)
