-- No text lacks both a meaning and a fault.
use Rattle.std.proofs.Common.{◌≡◌, ◌⊎◌, ◌∙◌, ◌<◌, ◌≤◌, ◌+◌, ℕ, zero, suc, List, [], ◌∷◌, ◌++◌, All, Bool, None, Some, ap, append-nil, append_assoc, arith, false, get_or, inl, inr, length, refl, slice_get, subst, sym, true}
use Rattle.std.proofs.lemmas.Bool.{cases_lt}
use Rattle.std.proofs.lemmas.List.Elements.{All-cons, All-nil}
use Rattle.std.proofs.lemmas.Option.{slice_get-get_or}
use Rattle.dvg_read.specs.FirstFaults.{IsShort}
use Rattle.dvg_read.specs.RomReading.{unstated}
use Rattle.dvg_read.specs.RomTexts.{RomText}
use Rattle.dvg_read.specs.Texts.{is_passed, unpassed}
use Rattle.dvg_read.proofs.ReadTo.{unpassed_more, unpassed_one}
use Rattle.dvg_read.specs.declared.fault.TextFault.{TextFault}
use Rattle.dvg_read.specs.declared.fault.TextFault.TheVariants.{Full, OutOfRom, Overlap, Syntax, TooLong, NameGivenAgain, UnknownName}
use Rattle.dvg_named.specs.FirstUnknown.{WantsNone}
use Rattle.dvg_named.specs.Meanings.{Frame}
use Rattle.dvg_named.specs.SketchFaults.{DenotesFrames, HasSketchFault, KeepsLimits, Meets, ReachesLine, WantsUngiven, laid_of}
use Rattle.dvg_rows.specs.PlainLines.{plain_lines}
use Rattle.dvg_rows.specs.Rows.{Row}
use Rattle.dvg_named.specs.Sections.{Section, Spelled, SpellsSketch, sections}
use Rattle.dvg_named.specs.SketchSteps.{so_far}
use Rattle.dvg_named.proofs.FrontLimits.{no_names}
use Rattle.dvg_named.proofs.GivenMeaning.{meaning_found}
use Rattle.dvg_named.proofs.LineFaults.{Breaks, Kind, full, outside, overlap, twice}
use Rattle.dvg_named.proofs.OneSketch.{goes_on, says_nothing}
use Rattle.dvg_named.proofs.ReadLimits.{IsInRom, IsOnce, IsSmall, framed}
use Rattle.dvg_named.proofs.RowsCome.{StandsInLine, comes, line_comes, line_stays, no_row, row_at}
use Rattle.dvg_named.proofs.RowsStay.{HasAt, HasRow, at_top}
use Rattle.dvg_read.specs.declared.draft_text.TheConstants.{MOST_TEXT_BYTES}

-- lines without fault, and the line of each row
record IsRead (ls : List (List ℕ)) : Type 0 where
  sketch : Spelled
  spelled : SpellsSketch sketch (unpassed ls)
  limits : KeepsLimits sketch
  lines : (place : ℕ) (row : Row) → HasAt (sections sketch) place row → StandsInLine ls place row

-- ---- before the first line

abbrev bare : Spelled
bare = so_far unstated [] []

bare_kept : KeepsLimits bare
bare_kept = record {
  once = record {
    in_frames = All-cons IsOnce (framed None []) [] no_names (All-nil IsOnce);
    in_rom = no_names;
    of_frames = no_names;
  };
  drafts = All-cons IsSmall (framed None []) [] (omega arith) (All-nil IsSmall);
  rom = All-nil (IsInRom unstated);
  apart = λ i j d low inside. absurd (omega (arith, low, inside));
}

no_line : (place : ℕ) (row : Row) → HasAt (at_top [] ∷ []) place row → StandsInLine [] place row
no_line zero row h =
    let both : Some (at_top []) ≡ Some h.section = h.stands in
    let same : h.section ≡ at_top [] = cc in
    absurd (no_row row (subst (λ (section : Section). HasRow section.rows row) same h.inside))
no_line (suc place) row h = let none = h.stands in absurd cc

nothing_read : IsRead []
nothing_read = record { sketch = bare; spelled = says_nothing; limits = bare_kept; lines = no_line }

module _ (text : List ℕ) (none : (fault : TextFault) → ¬ HasSketchFault text fault) where
  short_by : (MOST_TEXT_BYTES < length text) ⊎ (length text ≤ MOST_TEXT_BYTES) → IsShort text
  short_by (inl over) = absurd (none TooLong over)
  short_by (inr short) = short

  short : IsShort text
  short = short_by (cases_lt MOST_TEXT_BYTES (length text))

  -- ---- one line more

  module _ (before rest : List (List ℕ)) (line : List ℕ) (cut : plain_lines text ≡ before ++ line ∷ rest) (read : IsRead before) where
    passes : is_passed line ≡ true → IsRead (before ++ line ∷ [])
    passes is = record {
      sketch = read.sketch;
      spelled = subst (SpellsSketch read.sketch) (sym (unpassed_more before line is)) read.spelled;
      limits = read.limits;
      lines = λ place row h. line_stays before line place row (read.lines place row h);
    }

    module _ (is : is_passed line ≡ false) where
      reaches : ReachesLine text (length before + 1) before line
      reaches = record {
        short = short;
        after = rest;
        cut = cut;
        number = refl;
        fine = record { sketch = read.sketch; spelled = read.spelled; limits = read.limits };
        is_unpassed = is;
      }

      module _ (next : Spelled) (spelled : SpellsSketch next (unpassed before ++ line ∷ [])) where
        reads : KeepsLimits next → IsRead (before ++ line ∷ [])
        reads limits = record {
          sketch = next;
          spelled = subst (SpellsSketch next) (sym (unpassed_one before line is)) spelled;
          limits = limits;
          lines = λ place row h.
              line_comes before line read.sketch next place row spelled (read.lines place row)
              (comes read.sketch next line place row (goes_on read.sketch next (unpassed before) line read.spelled spelled) h);
        }

        meets : (kind : Kind) → Breaks kind next → Meets (Breaks kind) text (length before + 1)
        meets kind broken = record {
          before = before;
          line = line;
          reaches = reaches;
          sketch = next;
          spelled = spelled;
          breaks = broken;
        }

        -- a limit after the other
        kept : ¬ KeepsLimits next → ⊥
        kept broken =
            none (NameGivenAgain (length before + 1)) (meets twice (λ once.
            none (Full (length before + 1)) (meets full (
              once,
              λ drafts.
                  none (OutOfRom (length before + 1)) (meets outside (
                    once,
                    drafts,
                    λ rom.
                        none (Overlap (length before + 1)) (meets overlap (
                          once,
                          drafts,
                          rom,
                          λ apart.
                              broken (record { once = once; drafts = drafts; rom = rom; apart = apart }),
                        )),
                  )),
            ))))

      goes : ¬ IsRead (before ++ line ∷ []) → ⊥
      goes stops = none (Syntax (length before + 1)) (record {
        before = before;
        line = line;
        reaches = reaches;
        wrong = λ next spelled. kept next spelled (λ limits. stops (reads next spelled limits));
      })

    step : (passed : Bool) → is_passed line ≡ passed → ¬ IsRead (before ++ line ∷ []) → ⊥
    step true is stops = stops (passes is)
    step false is stops = goes is stops

  -- ---- all lines

  all_read : (rest before : List (List ℕ)) → plain_lines text ≡ before ++ rest → IsRead before
      → ¬ IsRead (plain_lines text) → ⊥
  all_read [] before cut read stops = stops (subst IsRead (sym (cut ∙ append-nil before)) read)
  all_read (line ∷ rest) before cut read stops =
      step before rest line cut read (is_passed line) refl
      (λ more. all_read rest (before ++ line ∷ []) (cut ∙ sym (append_assoc before (line ∷ []) rest)) more stops)

  -- ---- names

  none_below : (m n : ℕ) → n < m → ¬ WantsUngiven text n
  none_below zero n low wants = omega (arith, low)
  none_below (suc m) n low wants =
      none (UnknownName n) (wants, λ earlier less. none_below m earlier (omega (arith, low, less)))

  module _ (read : IsRead (plain_lines text)) where
    known_at : (place : ℕ) (section : Section) → slice_get (sections read.sketch) place ≡ Some section
        → WantsNone (laid_of read.sketch) section
    known_at place section stands at wants =
        let found = read.lines place wants.row
        (record { section = section; stands = stands; inside = row_at section.rows at wants.row wants.stands }) in
        none_below (length found.before + 2) (length found.before + 1) (omega arith) (record {
          short = short;
          fine = record { sketch = read.sketch; spelled = read.spelled; limits = read.limits };
          before = found.before;
          line = found.line;
          after = found.after;
          cut = found.cut;
          number = refl;
          part = found.part;
          up_to = found.up_to;
          section = section;
          inside = ap (slice_get (sections read.sketch)) (sym found.inside) ∙ stands;
          row = wants.row;
          spelled = found.spelled;
          doing = wants.doing;
          does = wants.does;
          ungiven = wants.ungiven;
        })

    all_known : All (WantsNone (laid_of read.sketch)) (sections read.sketch)
    all_known = λ k d low.
        known_at k (get_or (sections read.sketch) k d) (slice_get-get_or (sections read.sketch) k d low)

    denotes : ((rom : RomText) (result : List Frame) → ¬ DenotesFrames text rom result) → ⊥
    denotes nothing =
        meaning_found read.sketch (unpassed (plain_lines text)) read.spelled all_known
        (λ rom result meant. nothing rom result (record {
          short = short;
          sketch = read.sketch;
          spelled = read.spelled;
          limits = read.limits;
          meant = meant;
        }))

pub none_lacks_both : (text : List ℕ) → ((rom : RomText) (result : List Frame) → ¬ DenotesFrames text rom result)
    → ((fault : TextFault) → ¬ HasSketchFault text fault) → ⊥
none_lacks_both text nothing none =
    all_read text none (plain_lines text) [] refl nothing_read (λ read. denotes text none read nothing)
