-- A sketch of which all lines were read.
use Rattle.std.proofs.Common.{◌≡◌, ◌<◌, ◌∙◌, suc, ◌++◌, ℕ, List, [], ◌∷◌, All, ap, arith, map, refl, subst, unwrap_or, max, Result, Ok, Err, IfErr}
use Rattle.std.specs.Char.{to_ascii_lowercase}
use Rattle.std.specs.List.{AllPairs, AllZip, flat_map}
use Rattle.std.proofs.lemmas.List.{length-map}
use Rattle.dvg_frame.specs.declared.op.OpKind.{OpKind}
use Rattle.dvg_read.specs.RomTexts.{first_stated}
use Rattle.dvg_named.specs.declared.joining.FrameSpan.{FrameSpan}
use Rattle.dvg_named.specs.declared.laid.LaidRows as held_laid
use Rattle.dvg_named.specs.declared.meaning.RomName.{RomName}
use Rattle.dvg_rows.specs.declared.source.Source.{Source}
use Rattle.dvg_named.specs.declared.reading.Reading.{Reading}
use Rattle.dvg_named.specs.FlatFrames.{frame_at}
use Rattle.dvg_named.specs.GivenRoms.{GivesRom}
use Rattle.dvg_named.specs.LaidValues.{laid_sections, rows_laid}
use Rattle.dvg_named.specs.Meanings.{IsFrameOf}
use Rattle.dvg_named.specs.SketchFaults.{laid_of}
use Rattle.dvg_rows.specs.RowPlaces.{names_of}
use Rattle.dvg_named.specs.Places.{free_after, laid_end, laid_from}
use Rattle.dvg_named.specs.ReadSketches.{IsSketchOf, SourcedFrame, StandsIn, as_frame, joined_at}
use Rattle.dvg_named.specs.RomNames.{IsNamedIn, names_listed}
use Rattle.dvg_named.specs.Sections.{RomRows, Spelled, frames, rom_sections}
use Rattle.dvg_named.specs.SketchReading.{spelled_in}
use Rattle.dvg_named.specs.TextReading.{ReadsText}
use Rattle.dvg_named.specs.SourcedRows.{BeginsFrame}
use Rattle.dvg_rows.specs.RowValues.{name_of}
use Rattle.std.proofs.lemmas.List.Elements.{All-cons, All-head, All-map, All-nil, All-tail}
use Rattle.std.proofs.lemmas.List.Kept.{AllPairs-cons}

-- the rows of sections are those of the sections as they are laid
pub rows_are : (free : ℕ) (sections : List RomRows) → rows_laid (laid_from free sections) ≡ flat_map (λ section. section.rows) sections
rows_are free [] = refl
rows_are free (section ∷ others) =
    ap (λ l. section.rows ++ l)
    (rows_are (max free (laid_end (record { start = unwrap_or section.address free; rows = section.rows }))) others)

-- frames without their lines
frames_joined : (ops : List OpKind) (sources : List Source) (spans : List FrameSpan)
    → map (frame_at ops) spans ≡ map as_frame (map (joined_at ops sources) spans)
frames_joined ops sources [] = refl
frames_joined ops sources (span ∷ spans) = ap (λ l. frame_at ops span ∷ l) (frames_joined ops sources spans)

-- the frames begin where their spans do
begun : (small : List ℕ) (sketch : Spelled) (ops : List OpKind) (sources : List Source) (spans : List FrameSpan)
    → All (λ span. BeginsFrame small sketch (name_of span.name) span.begin) spans
    → All (λ frame. BeginsFrame small sketch frame.name frame.begin) (map (joined_at ops sources) spans)
begun small sketch ops sources [] all = All-nil (λ (frame : SourcedFrame). BeginsFrame small sketch frame.name frame.begin)
begun small sketch ops sources (span ∷ spans) all =
    All-cons (λ (frame : SourcedFrame). BeginsFrame small sketch frame.name frame.begin) (joined_at ops sources span) (map (joined_at ops sources) spans)
    (All-head (λ (span : FrameSpan). BeginsFrame small sketch (name_of span.name) span.begin) span spans all)
    (begun small sketch ops sources spans (All-tail (λ (span : FrameSpan). BeginsFrame small sketch (name_of span.name) span.begin) span spans all))

-- and in the same order
rises : (ops : List OpKind) (sources : List Source) (spans : List FrameSpan)
    → AllPairs (λ span next. span.begin.number < next.begin.number) spans
    → AllPairs (λ frame next. frame.begin.number < next.begin.number) (map (joined_at ops sources) spans)
rises ops sources [] all = λ i j d low high. absurd (omega (arith, high))
rises ops sources (span ∷ spans) all =
    AllPairs-cons (λ (frame next : SourcedFrame). frame.begin.number < next.begin.number) (joined_at ops sources span)
    (map (joined_at ops sources) spans)
    (All-map (λ (next : SourcedFrame). span.begin.number < next.begin.number) (joined_at ops sources) spans
    (λ k d low. all 0 (suc k) d (omega arith) (omega (arith, low))))
    (rises ops sources spans (λ i j d low high. all (suc i) (suc j) d (omega (arith, low)) (omega (arith, high))))

pub is_read : {A : Type 0} (reading : Reading A) (text : List ℕ) (read : ReadsText (map to_ascii_lowercase text) reading)
    (laid : List held_laid.LaidRows) (rom : List ℕ) (names : List RomName) (ops : List OpKind) (sources : List Source) (spans : List FrameSpan)
    → laid_sections laid ≡ laid_of (spelled_in read.rom reading)
    → GivesRom (spelled_in read.rom reading) rom
    → names_listed names ≡ names_of (rows_laid (laid_sections laid)) → All (IsNamedIn (laid_sections laid)) names
    → AllZip (IsFrameOf (laid_sections laid)) (frames (spelled_in read.rom reading)) (map (frame_at ops) spans)
    → All (λ span. BeginsFrame (map to_ascii_lowercase text) (spelled_in read.rom reading) (name_of span.name) span.begin) spans
    → AllPairs (λ span next. span.begin.number < next.begin.number) spans
    → AllZip (StandsIn (map to_ascii_lowercase text)) (frames (spelled_in read.rom reading)) (map (joined_at ops sources) spans)
    → IsSketchOf text rom names (map (joined_at ops sources) spans)
is_read reading text read laid rom names ops sources spans are gives listed named drafted begins rise lines =
    let sketch = spelled_in read.rom reading in
    let short = read.short in
    record {
      rom_text = gives.stated;
      denotes = record {
        short = omega (arith, short, length-map text to_ascii_lowercase);
        sketch = sketch;
        spelled = read.spelled;
        limits = read.reads.keeps.limits;
        meant = record {
          frames = subst (λ laid. AllZip (IsFrameOf laid) (frames sketch) (map as_frame (map (joined_at ops sources) spans))) are
              (subst (AllZip (IsFrameOf (laid_sections laid)) (frames sketch)) (frames_joined ops sources spans) drafted);
          rom_text = gives.text;
        };
      };
      is_rom = gives.is_rom;
      lists = record {
        listed = listed ∙ ap (λ laid. names_of (rows_laid laid)) are ∙ ap names_of (rows_are (free_after (first_stated sketch.rom.map) sketch.rom.given) (rom_sections sketch));
        addresses = subst (λ laid. All (IsNamedIn laid) names) are named;
      };
      begins = begun (map to_ascii_lowercase text) sketch ops sources spans begins;
      rise = rises ops sources spans rise;
      lines = lines;
    }

pub if_err : {X E : Type 0} (r : Result X E) {P Q : E → Type 0} → IfErr r P → ((e : E) → P e → Q e) → IfErr r Q
if_err (Ok x) h f = h
if_err (Err e) h f = f e h
