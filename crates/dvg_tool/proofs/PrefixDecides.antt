-- From what was read to what an engine says of the input.
use Rattle.std.proofs.Common.{◌≡◌, ◌+◌, ℕ, refl, sym, ◌%◌, ◌≤◌, List, Option, None, Some, Result, Ok, Err, IfErr, IfOk, IfSome, Vec, length, take, take_all, ap, subst, ◌∙◌, arith, ◌⊎◌, inl, inr, ⊎_elim}
use Rattle.std.specs.Io.KnownBytes.{Appends}
use Rattle.dvg_code.specs.Words.{words_of}
use Rattle.dvg_read.specs.declared.fault.TextFault.{TextFault}
use Rattle.dvg_frame.specs.declared.op.OpKind.{OpKind}
use Rattle.dvg_print.specs.declared.verdict.BoundedVerdict.{BoundedVerdict}
use Rattle.dvg_print.specs.declared.verdict.BoundedVerdict.TheVariants as bounded
use Rattle.dvg_print.specs.Verdicts.{IsBoundedVerdict, without_bound}
use Rattle.dvg_io.specs.Serving.{Answers, IsFinding, OfInput}
use Rattle.dvg_tool.specs.Checks.{IsJudgingFault, Judges, JudgesBound, JudgesBy}
use Rattle.dvg_read.specs.DraftTexts.{HasDraftFault}
use Rattle.dvg_io.specs.Watching.{BeginsToWrite}
use Rattle.dvg_io.proofs.Inputs.{Read, whole, whole_or_long}
use Rattle.dvg_print.specs.Lines.{rom_text}
use Rattle.dvg_tool.specs.Roms.{HasRomFault, HasRomSize, IsRomFault, IsRomOf, WritesRom, words_text}
use Rattle.dvg_tool.proofs.RomLines.{text_of_words}
use Rattle.dvg_tool.specs.Lists.{IsListable, Lists, ListsWords}
use Rattle.dvg_read.specs.declared.fault.TextFault.TheVariants.{TooLong, Cut, RomSize, Syntax, Full}
use Rattle.dvg_read.specs.declared.fault.Unread.{Unread}
use Rattle.dvg_read.specs.declared.fault.Unread.TheVariants as unread
use Rattle.dvg_io.specs.declared.fault.ToolFault.{ToolFault}
use Rattle.dvg_io.specs.declared.fault.ToolFault.TheVariants.{Text, Reader, Writer, Memory}
use Rattle.dvg_read.specs.declared.draft_text.TheConstants.{MOST_TEXT_BYTES}
use Rattle.dvg_tool.specs.declared.lists.TheConstants.{MOST_LIST_BYTES}
use Rattle.dvg_mem.specs.declared.TheConstants.{LARGE_ROM_BYTES}

pub odd : (known : Option (List ℕ)) (read : List ℕ) → Read MOST_LIST_BYTES known read → length read ≤ MOST_LIST_BYTES → length read % 2 ≡ 1
    → IfSome known (λ input. (length input ≤ MOST_LIST_BYTES) × (length input % 2 ≡ 1))
odd None read e h o = tt
odd (Some input) read e h o = let same = ap length (whole MOST_LIST_BYTES read input e h) in (omega arith, omega arith)

listed : {T : Type 0} (at : ℕ) (answer : Result T ToolFault) (input : List ℕ) (old new : Option (List ℕ)) → IsListable input → ListsWords at answer (words_of input) old new → Lists at answer input old new
listed at (Ok done) input old new w h = (w, h)
listed at (Err (Text (Cut place))) input old new w h = (w, h)
listed at (Err (Text _)) input old new w h = absurd h
listed at (Err Reader) input old new w h = absurd h
listed at (Err Writer) input old new w h = (w, h)
listed at (Err Memory) input old new w h = absurd h

pub lists : {T : Type 0} (at : ℕ) (answer : Result T ToolFault) (known old new : Option (List ℕ)) (read : List ℕ) → Read MOST_LIST_BYTES known read → length read ≤ MOST_LIST_BYTES → length read % 2 ≡ 0
    → ListsWords at answer (words_of read) old new → IfSome known (λ input. Lists at answer input old new)
lists at answer None old new read e h o w = tt
lists at answer (Some input) old new read e h o w =
    let same = whole MOST_LIST_BYTES read input e h in
    let n = ap length same in
    listed at answer input old new (omega arith, omega arith) (subst (λ l. ListsWords at answer (words_of l) old new) same w)

-- of another size than a ROM has, so is what was read
wrong_size : (input read : List ℕ) → read ≡ take (LARGE_ROM_BYTES + 1) input → ¬ HasRomSize read → ¬ HasRomSize input
wrong_size input read e h size = h (⊎_elim
    (λ small. inl (ap length e ∙ ap length (take_all (LARGE_ROM_BYTES + 1) input (omega arith)) ∙ small))
    (λ large. inr (ap length e ∙ ap length (take_all (LARGE_ROM_BYTES + 1) input (omega arith)) ∙ large))
    size)

rom_faulted : (fault : TextFault) (input read : List ℕ) → read ≡ take (LARGE_ROM_BYTES + 1) input → HasRomFault read fault → HasRomFault input fault
rom_faulted RomSize input read e h = wrong_size input read e h
rom_faulted _ input read e h = absurd h

short_rom : (read : List ℕ) → HasRomSize read → length read ≤ LARGE_ROM_BYTES
short_rom read (inl small) = omega arith
short_rom read (inr large) = omega arith

-- the words of what was read are those of the input
pub finds_rom : {A : Type 0} (read : List ℕ) (answer : Result (Vec ℕ A) Unread) → IfOk answer (λ _. HasRomSize read)
    → IfOk answer (λ words. words.items ≡ words_of read) → IfErr answer (IsRomFault read)
    → OfInput LARGE_ROM_BYTES read (λ input. IsFinding (λ words. IsRomOf input words.items) (HasRomFault input) answer)
finds_rom read (Ok words) size is fault input e =
    let same = whole LARGE_ROM_BYTES read input e (short_rom read size) in
    (subst HasRomSize same size, is ∙ ap words_of same)
finds_rom read (Err (unread.Text fault)) size is h input e = rom_faulted fault input read e h
finds_rom read (Err unread.Memory) size is h input e = tt

-- what is written of a ROM's words is the text of the ROM
rom_said : (input words : List ℕ) → IsRomOf input words → words_text words ≡ rom_text input
rom_said input words rom = ap words_text rom.1 ∙ text_of_words input rom.0

pub rom_written : {A T : Type 0} (words : Vec ℕ A) (done : T) (old new : Option (List ℕ)) (input : List ℕ)
    → IsRomOf input words.items × Appends old new (words_text words.items) → WritesRom (Ok done) input old new
rom_written words done old new input h = (h.0.0, subst (Appends old new) (rom_said input words.items h.0) h.1)

pub rom_stops : (A T : Type 0) (fault : ToolFault) (old new : Option (List ℕ)) (input : List ℕ)
    → Answers {F = Vec ℕ A} (λ input words. IsRomOf input words.items) HasRomFault (λ words. words_text words.items) (Err fault) input old new
    → WritesRom {T = T} (Err fault) input old new
rom_stops A T (Text fault) old new input h = h
rom_stops A T Reader old new input h = tt
rom_stops A T Memory old new input h = tt
rom_stops A T Writer old new input (words, rom, begun) = (rom.0, subst (λ text. BeginsToWrite text old new) (rom_said input words.items rom) begun)

-- what is said of what was read is said of the input
pub judged : {V : Type 0} (IsSaid : List OpKind → List ℕ → V → Type 0) (verdict : V) (input read : List ℕ) → read ≡ take (MOST_TEXT_BYTES + 1) input
    → JudgesBy IsSaid read verdict → JudgesBy IsSaid input verdict
judged IsSaid verdict input read e j =
    let short = j.gives.denotes.short in
    subst (λ text. JudgesBy IsSaid text verdict) (whole MOST_TEXT_BYTES read input e short) j

-- and so it is without its bound
pub unbounded : (text : List ℕ) (verdict : BoundedVerdict) → JudgesBound text verdict → Judges text (without_bound verdict)
unbounded text (bounded.Good words bound) j = record { F = j.F; R = j.R; gives = j.gives; said = (j.said.0, j.said.1) }
unbounded text (bounded.Refused fault) j = record { F = j.F; R = j.R; gives = j.gives; said = j.said }

-- a text that is at fault but not too long is short
short_or_long : (fault : TextFault) (read : List ℕ) → HasDraftFault read fault → (fault ≡ TooLong) ⊎ (length read ≤ MOST_TEXT_BYTES)
short_or_long TooLong read h = inl refl
short_or_long (Syntax n) read h = inr h.reaches.short
short_or_long (Full n) read h = inr h.reaches.short
short_or_long _ read h = absurd h

-- the fault of what was read is that of the input
faulted : (fault : TextFault) (input read : List ℕ) → read ≡ take (MOST_TEXT_BYTES + 1) input → HasDraftFault read fault → HasDraftFault input fault
faulted fault input read e h = ⊎_elim
    (λ same. subst (λ text. HasDraftFault text fault) same h)
    (λ long. ⊎_elim (λ is. subst (HasDraftFault input) (sym is) long.1) (λ short. absurd (omega arith)) (short_or_long fault read h))
    (whole_or_long MOST_TEXT_BYTES read input e)

-- so is where nothing is said
stopped_by : {V : Type 0} (Says : List ℕ → V → Type 0) (stop : Unread) (read : List ℕ) → IsJudgingFault read stop
    → OfInput MOST_TEXT_BYTES read (λ input. IsFinding {F = V} (Says input) (HasDraftFault input) (Err stop))
stopped_by Says (unread.Text fault) read h input e = faulted fault input read e h
stopped_by Says unread.Memory read h input e = tt

pub unjudged : {V : Type 0} (Says : List ℕ → V → Type 0) (answer : Result V Unread) (stop : Unread) (read : List ℕ) → answer ≡ Err stop
    → IsJudgingFault read stop → OfInput MOST_TEXT_BYTES read (λ input. IsFinding (Says input) (HasDraftFault input) answer)
unjudged Says answer stop read is h =
    subst (λ answer. OfInput MOST_TEXT_BYTES read (λ input. IsFinding (Says input) (HasDraftFault input) answer)) (sym is) (stopped_by Says stop read h)

pub finds_bound : (read : List ℕ) (answer : Result BoundedVerdict Unread) → IfOk answer (JudgesBound read) → IfErr answer (IsJudgingFault read)
    → OfInput MOST_TEXT_BYTES read (λ input. IsFinding (JudgesBound input) (HasDraftFault input) answer)
finds_bound read (Ok verdict) said fault input e = judged IsBoundedVerdict verdict input read e said
finds_bound read (Err stop) said h input e = stopped_by JudgesBound stop read h input e
