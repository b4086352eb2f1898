-- A text of a sketch, read up to some line.
use Rattle.std.proofs.Common.{◌≡◌, ◌<◌, ◌≤◌, ◌+◌, ℕ, List, [], ◌∷◌, ◌++◌, length, map, refl, sym, ap, subst, ◌∙◌, arith, Bool, true, false, zero, suc, append_assoc, append-nil, length-append, eqb-true, None}
use Rattle.std.proofs.lemmas.List.{length-map, map-append}
use Rattle.std.specs.Char.{to_ascii_lowercase}
use Rattle.std.specs.Borrow.{Bor}
use Rattle.std.specs.Prelude.{◌==◌}
use Rattle.dvg_read.specs.FirstFaults.{IsShort}
use Rattle.dvg_read.specs.LineParts.{bytes_of}
use Rattle.dvg_read.specs.RomTexts.{RomText}
use Rattle.dvg_read.specs.RomReading.{unstated}
use Rattle.dvg_read.specs.Texts.{lines, unpassed}
use Rattle.dvg_read.proofs.ReadTo.{count_on, lines_length, unpassed_more, unpassed_one}
use Rattle.dvg_read.specs.declared.fault.LineFault.{LineFault}
use Rattle.dvg_read.specs.declared.fault.LineFault.TheVariants as line_fault
use Rattle.dvg_named.specs.declared.reading.Reading.{Reading}
use Rattle.dvg_named.specs.SketchFaults.{Meets, MeetsNothing, ReachesLine}
use Rattle.dvg_rows.specs.PlainLines.{plain, tokens}
use Rattle.dvg_named.specs.ReadParts.{sketch_of}
use Rattle.dvg_named.specs.Sections.{Section, Spelled, SpellsSketch}
use Rattle.dvg_named.specs.SketchReading.{Breaks, IsBare, Reads, ReadsMore, StopsSketch, closed_in, section_in, spelled_in}
use Rattle.dvg_named.specs.SketchSteps.{AreParts, SketchTakes, line_of}
use Rattle.dvg_rows.specs.declared.source.Source.{Source}
use Rattle.dvg_named.specs.SourcedRows.{AreSourced, IsLineAt}
use Rattle.dvg_named.specs.LineNumbers.{AreNumbered, Numbers, adds, entries_in, head_at_top, keeps}
use Rattle.std.specs.List.{join_with_byte}
use Rattle.dvg_read.specs.LineFaults.{fault_at}
use Rattle.dvg_named.specs.TextReading.{StopsText, ReadsText}
use Rattle.dvg_named.proofs.NumberSteps.{later_length, no_empty_head, no_empty_row, numbered_added, numbered_kept, numbered_none}
use Rattle.dvg_named.proofs.FewTokens.{few_tokens}
use Rattle.dvg_named.proofs.SourcedMore.{sourced_passed}
use Rattle.dvg_named.proofs.OneSketch.{goes_on, says_more, says_nothing}
use Rattle.dvg_named.proofs.PlainTokens.{parts_of_plain, passed_without_tokens, unpassed_with_tokens}
use Rattle.dvg_read.specs.declared.draft_text.TheConstants.{MOST_TEXT_BYTES}

-- n lines were read of a text in small letters, which spell what the reader holds; those are left
pub record ReadTo {A : Type 0} (text : List ℕ) (left : List (List ℕ)) (n : ℕ) (reading : Reading A) : Type 0 where
  pub before : List (List ℕ)
  pub cut : lines text ≡ before ++ left
  pub number : n ≡ length before
  pub rom : RomText
  pub spelled : SpellsSketch (spelled_in rom reading) (unpassed (map plain before))
  pub reads : Reads rom reading
  pub numbered : AreNumbered (map plain before) reading

-- before the first line
pub begins : {A : Type 0} (text : List ℕ) (left : List (List ℕ)) (reading : Reading A) → left ≡ lines text → IsBare reading
    → Reads unstated reading → head_at_top reading ≡ None → entries_in reading ≡ [] → ReadTo text left 0 reading
begins text left reading all bare reads top none =
    let is : (let s : Section = section_in reading.last in s) ≡ record { head = (section_in reading.last).head; rows = [] } =
    ap (λ rows. record { head = (section_in reading.last).head; rows = rows }) bare.1 in
    record {
      before = [];
      cut = sym all;
      number = refl;
      rom = unstated;
      spelled = subst (λ closed. SpellsSketch (sketch_of unstated closed (section_in reading.last)) []) (sym bare.0)
          (subst (λ last. SpellsSketch (sketch_of unstated [] last) []) (sym is) says_nothing);
      reads = reads;
      numbered = numbered_none reading top none;
    }

module _ {A : Type 0} (text : List ℕ) (left rest : List (List ℕ)) (n : ℕ) (reading : Reading A) (line : List ℕ)
    (next : left ≡ line ∷ rest) (r : ReadTo text left n reading) where
  cut_on : lines text ≡ (r.before ++ line ∷ []) ++ rest
  cut_on = r.cut ∙ ap (λ l. r.before ++ l) next ∙ sym (append_assoc r.before (line ∷ []) rest)

  -- the line that is read next
  pub line_at : (source : Source) → source.number ≡ n + 1 → source.line.now ≡ line → IsLineAt text source
  line_at source number is = record {
    before = r.before;
    after = rest;
    cut = r.cut ∙ ap (λ l. r.before ++ l) next ∙ ap (λ line. r.before ++ line ∷ rest) (sym is);
    number = number ∙ ap (λ n. n + 1) r.number;
  }

  plain_on : map plain (r.before ++ line ∷ []) ≡ map plain r.before ++ plain line ∷ []
  plain_on = map-append plain r.before (line ∷ [])

  -- a line without tokens
  pub passes : tokens line ≡ [] → ReadTo text rest (n + 1) reading
  passes none = record {
    before = r.before ++ line ∷ [];
    cut = cut_on;
    number = count_on n r.before line r.number;
    rom = r.rom;
    spelled = subst (SpellsSketch (spelled_in r.rom reading))
        (sym (ap unpassed plain_on ∙ unpassed_more (map plain r.before) (plain line) (passed_without_tokens line none))) r.spelled;
    reads = r.reads;
    numbered = subst (λ ls. AreNumbered ls reading) (sym plain_on)
        (numbered_kept reading reading (map plain r.before) (plain line)
        (no_empty_row (plain line) (ap (join_with_byte 32) none))
        (record { top = refl; entries = refl }) r.numbered);
  }

  -- nor does it begin a section
  pub passes_sourced : tokens line ≡ [] → (source : Source) → source.number ≡ n + 1 → source.line.now ≡ line
      → AreSourced text source.number reading → AreSourced text (source.number + 1) reading
  passes_sourced none source number is =
      sourced_passed text reading source (line_at source number is)
      (λ head begins. no_empty_head (plain source.line.now) (ap (λ l. join_with_byte 32 (tokens l)) is ∙ ap (join_with_byte 32) none) head begins)

  module _ (some : 0 < length (tokens line)) where
    numbers_on : (new : Reading A) → ReadsMore r.rom reading (plain line) new → Numbers reading (plain line) (n + 1) new
        → AreNumbered (map plain r.before ++ plain line ∷ []) new
    numbers_on new m (keeps same none) = numbered_kept reading new (map plain r.before) (plain line) none same r.numbered
    numbers_on new m (adds row is h) =
        let count = r.number in
        numbered_added (map plain r.before) (plain line) row is (spelled_in m.now new)
        (says_more (spelled_in r.rom reading) (spelled_in m.now new) (plain line) (unpassed (map plain r.before)) r.spelled m.goes)
        (record { section = length new.closed.items; row = row; number = n + 1 }) refl
        (omega (arith, count, length-map r.before plain))
        (sym (length-map new.closed.items section_in) ∙ later_length (closed_in new) (section_in new.last))
        reading new h.top h.entries r.numbered

    -- a line that goes on
    pub goes : (new : Reading A) → ((rom : RomText) → Reads rom reading → ReadsMore rom reading (plain line) new)
        → ((rom : RomText) → Reads rom reading → Numbers reading (plain line) (n + 1) new) → ReadTo text rest (n + 1) new
    goes new more numbers =
        let m = more r.rom r.reads in
        record {
          before = r.before ++ line ∷ [];
          cut = cut_on;
          number = count_on n r.before line r.number;
          rom = m.now;
          spelled = subst (SpellsSketch (spelled_in m.now new))
              (sym (ap unpassed plain_on ∙ unpassed_one (map plain r.before) (plain line) (unpassed_with_tokens line some)))
              (says_more (spelled_in r.rom reading) (spelled_in m.now new) (plain line) (unpassed (map plain r.before)) r.spelled m.goes);
          reads = m.reads;
          numbered = subst (λ ls. AreNumbered ls new) (sym plain_on) (numbers_on new m (numbers r.rom r.reads));
        }

    module _ (whole : List ℕ) (is : map to_ascii_lowercase whole ≡ text) (short : IsShort whole) where
      reaches : ReachesLine whole (n + 1) (map plain r.before) (plain line)
      reaches = record {
        short = short;
        after = map plain rest;
        cut = ap (λ text. map plain (lines text)) is ∙ ap (map plain) (r.cut ∙ ap (λ l. r.before ++ l) next)
            ∙ map-append plain r.before (line ∷ rest);
        number = let count = r.number in omega (arith, count, length-map r.before plain);
        fine = record { sketch = spelled_in r.rom reading; spelled = r.spelled; limits = r.reads.keeps.limits };
        is_unpassed = unpassed_with_tokens line some;
      }

      breaks_at : (limit : Spelled → Type 0) → Breaks limit (spelled_in r.rom reading) (plain line) → Meets limit whole (n + 1)
      breaks_at limit b = record {
        before = map plain r.before;
        line = plain line;
        reaches = reaches;
        sketch = b.now;
        spelled = says_more (spelled_in r.rom reading) b.now (plain line) (unpassed (map plain r.before)) r.spelled b.goes;
        breaks = b.breaks;
      }

      nothing_at : ((now : Spelled) → ¬ SketchTakes (spelled_in r.rom reading) (plain line) now) → MeetsNothing whole (n + 1)
      nothing_at none = record {
        before = map plain r.before;
        line = plain line;
        reaches = reaches;
        wrong = λ sketch spelled.
            none sketch (goes_on (spelled_in r.rom reading) sketch (unpassed (map plain r.before)) (plain line) r.spelled spelled);
      }

      stops_by : (fault : LineFault) → StopsSketch fault (spelled_in r.rom reading) (plain line)
          → StopsText (fault_at fault (n + 1)) whole
      stops_by line_fault.Syntax h = nothing_at h
      stops_by line_fault.NameGivenAgain h = breaks_at _ h
      stops_by line_fault.Full h = breaks_at _ h
      stops_by line_fault.OutOfRom h = breaks_at _ h
      stops_by line_fault.Overlap h = breaks_at _ h
      stops_by line_fault.Memory h = tt
      stops_by _ h = absurd h

    -- a line that is not taken
    pub stops : (fault : LineFault) → ((rom : RomText) → Reads rom reading → StopsSketch fault (spelled_in rom reading) (plain line))
        → length text ≤ MOST_TEXT_BYTES → (whole : List ℕ) → map to_ascii_lowercase whole ≡ text
        → StopsText (fault_at fault (n + 1)) whole
    stops fault h short whole is =
        let size = ap length is in
        stops_by whole is (omega (arith, short, size, length-map whole to_ascii_lowercase)) fault (h r.rom r.reads)

  -- a line of too many tokens
  pub many : 10 < length (tokens line) → length text ≤ MOST_TEXT_BYTES → (whole : List ℕ) → map to_ascii_lowercase whole ≡ text
      → StopsText (fault_at line_fault.Syntax (n + 1)) whole
  many over short whole is =
      stops (omega arith) line_fault.Syntax
      (λ rom reads now goes.
      let few = few_tokens (spelled_in rom reading) now (plain line) goes in
      let same = ap length (parts_of_plain line (omega arith)) in
      absurd (omega (arith, over, few, same)))
      short whole is

  -- the same, of tokens as the reader holds them
  module _ (cut : List (List ℕ)) (e : cut ≡ tokens line) (some : 0 < length (tokens line)) where
    pub are_parts : AreParts cut
    are_parts = subst AreParts (sym e) (parts_of_plain line some)

    pub plain_is : plain line ≡ line_of cut
    plain_is = ap line_of (sym e)

    pub goes_by : (new : Reading A) → ((rom : RomText) → Reads rom reading → ReadsMore rom reading (line_of cut) new)
        → ((rom : RomText) → Reads rom reading → Numbers reading (line_of cut) (n + 1) new) → ReadTo text rest (n + 1) new
    goes_by new more numbers =
        goes some new
        (λ rom reads. subst (λ ws. ReadsMore rom reading (line_of ws) new) e (more rom reads))
        (λ rom reads. subst (λ ws. Numbers reading (line_of ws) (n + 1) new) e (numbers rom reads))

    pub stops_tokens : (fault : LineFault)
        → ((rom : RomText) → Reads rom reading → StopsSketch fault (spelled_in rom reading) (line_of cut))
        → length text ≤ MOST_TEXT_BYTES → (whole : List ℕ) → map to_ascii_lowercase whole ≡ text
        → StopsText (fault_at fault (n + 1)) whole
    stops_tokens fault h short whole is =
        stops some fault (λ rom reads. subst (λ ws. StopsSketch fault (spelled_in rom reading) (line_of ws)) e (h rom reads))
        short whole is

-- whether there are tokens
not_zero : (n : ℕ) → (n == 0) ≡ false → 0 < n
not_zero zero e = absurd cc
not_zero (suc n) e = omega arith

pub some_tokens : (held : List (Bor (List ℕ))) (line : List ℕ) (r : Bool) → r ≡ (length held == 0) → r ≡ false
    → bytes_of held ≡ tokens line → 0 < length (tokens line)
some_tokens held line r e none is =
    let some = not_zero (length held) (sym e ∙ none) in
    let count = length-map held (λ (part : Bor (List ℕ)). part.now) in
    let same = ap length is in
    omega (arith, some, count, same)

is_zero : (n : ℕ) → (n == 0) ≡ true → n ≡ 0
is_zero n e = eqb-true n 0 e

none_held : (held : List (Bor (List ℕ))) → (length held == 0) ≡ true → bytes_of held ≡ []
none_held [] e = refl
none_held (part ∷ held) e = absurd (let none = is_zero (length (part ∷ held)) e in omega (arith, none))

pub no_tokens : (held : List (Bor (List ℕ))) (line : List ℕ) (r : Bool) → r ≡ (length held == 0) → r ≡ true
    → bytes_of held ≡ tokens line → tokens line ≡ []
no_tokens held line r e all is = sym is ∙ none_held held (sym e ∙ all)

-- at the text's end
pub reads_all : {A : Type 0} (text : List ℕ) (left : List (List ℕ)) (n : ℕ) (reading : Reading A) → left ≡ []
    → ReadTo text left n reading → length text ≤ MOST_TEXT_BYTES → AreSourced text (n + 1) reading → ReadsText text reading
reads_all text left n reading none r short sourced = record {
  short = short;
  rom = r.rom;
  spelled = subst (λ ls. SpellsSketch (spelled_in r.rom reading) (unpassed (map plain ls)))
      (sym (r.cut ∙ ap (λ l. r.before ++ l) none ∙ append-nil r.before)) r.spelled;
  reads = r.reads;
  next = n + 1;
  sourced = sourced;
  numbered = subst (λ ls. AreNumbered (map plain ls) reading)
      (sym (r.cut ∙ ap (λ l. r.before ++ l) none ∙ append-nil r.before)) r.numbered;
}

-- no more lines were read than there are bytes
pub bounded : {A : Type 0} (text : List ℕ) (left : List (List ℕ)) (n : ℕ) (reading : Reading A) → ReadTo text left n reading
    → length text ≤ MOST_TEXT_BYTES → n ≤ MOST_TEXT_BYTES
bounded text left n reading r short =
    let few = lines_length text in
    let count = r.number in
    let all = ap length r.cut in
    omega (arith, few, count, all, length-append r.before left, short)
