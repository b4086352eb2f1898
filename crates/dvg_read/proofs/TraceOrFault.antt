-- No text of a trace lacks both a meaning and a fault.
use Rattle.std.proofs.Common.{◌≡◌, ◌⊎◌, ◌<◌, ◌≤◌, ◌+◌, ◌∙◌, Bool, List, Option, None, Some, [], ◌∷◌, ◌++◌, append-nil, append_assoc, arith, false, inl, inr, length, refl, subst, sym, true, ℕ}
use Rattle.std.proofs.lemmas.Bool.{cases_lt}
use Rattle.std.proofs.lemmas.List.Elements.{All-append, All-nil}
use Rattle.dvg_frame.specs.declared.op.OpKind.{OpKind}
use Rattle.dvg_frame.specs.declared.draft.TheConstants.{MAX_OPS}
use Rattle.dvg_log.specs.Events.{Happening}
use Rattle.dvg_log.specs.declared.event.Event.TheVariants.{Offer}
use Rattle.dvg_log.specs.declared.trace.TheConstants.{MOST_EVENTS}
use Rattle.dvg_read.specs.FirstFaults.{IsShort, Reaches}
use Rattle.dvg_read.specs.RomReading.{unstated}
use Rattle.dvg_read.specs.RomTexts.{RomText}
use Rattle.dvg_read.specs.Texts.{is_passed, lines, unpassed}
use Rattle.dvg_read.specs.TraceLaws.{HasMeaning, NoTraceLacksBoth}
use Rattle.dvg_read.specs.TraceReading.{Takes, does, ends, events, opens, tells}
use Rattle.dvg_read.specs.TraceTexts.{FitsDraft, FitsTrace, HasTraceFault, IsFineTrace, SpellsTrace}
use Rattle.dvg_read.specs.declared.draft_text.TheConstants.{MOST_TEXT_BYTES}
use Rattle.dvg_read.specs.declared.fault.TextFault.{TextFault}
use Rattle.dvg_read.specs.declared.fault.TextFault.TheVariants.{Full, Many, Syntax, TooLong, Unended}
use Rattle.dvg_read.proofs.ReadTo.{unpassed_more, unpassed_one}
use Rattle.dvg_read.proofs.StatedRom.{each_rom}
use Rattle.dvg_read.proofs.TraceMoves.{all_one, fine_events}
use Rattle.dvg_read.proofs.TraceSteps.{goes_on, says_nothing, so_far}

-- what one more line spells is within the limits, or breaks one
by_line : {rom now : RomText} {old new : List Happening} {opened left : Option (List OpKind)} {line : List ℕ} → Takes rom old opened line now new left → FitsTrace old opened
    → (FitsTrace new left → ⊥) → ((F : List OpKind) → left ≡ Some F → MAX_OPS < length F → ⊥) → (left ≡ None → MOST_EVENTS < length new → ⊥) → ⊥
by_line (tells h) fits kept full many = kept fits
by_line (events {old = old} {more = more} p) fits kept full many = by_count (cases_lt MOST_EVENTS (length (old ++ more)))
  where
    by_count : (MOST_EVENTS < length (old ++ more)) ⊎ (length (old ++ more) ≤ MOST_EVENTS) → ⊥
    by_count (inl over) = many refl over
    by_count (inr few) = kept (record { count = few; drafts = All-append FitsDraft old more fits.drafts (fine_events p); last = tt })
by_line opens fits kept full many = kept (record { count = fits.count; drafts = fits.drafts; last = omega arith })
by_line (does {F = F} op h) fits kept full many = by_count (cases_lt MAX_OPS (length (F ++ op ∷ [])))
  where
    by_count : (MAX_OPS < length (F ++ op ∷ [])) ⊎ (length (F ++ op ∷ []) ≤ MAX_OPS) → ⊥
    by_count (inl over) = full (F ++ op ∷ []) refl over
    by_count (inr few) = kept (record { count = fits.count; drafts = fits.drafts; last = few })
by_line (ends {old = old} {F = F}) fits kept full many = by_count (cases_lt MOST_EVENTS (length (old ++ Offer F ∷ [])))
  where
    by_count : (MOST_EVENTS < length (old ++ Offer F ∷ [])) ⊎ (length (old ++ Offer F ∷ []) ≤ MOST_EVENTS) → ⊥
    by_count (inl over) = many refl over
    by_count (inr few) = kept (record { count = few; drafts = All-append FitsDraft old (Offer F ∷ []) fits.drafts (all_one FitsDraft (Offer F) fits.last); last = tt })

module _ (text : List ℕ) (none : (fault : TextFault) → ¬ HasTraceFault text fault) where
  short_by : (MOST_TEXT_BYTES < length text) ⊎ (length text ≤ MOST_TEXT_BYTES) → IsShort text
  short_by (inl over) = absurd (none TooLong over)
  short_by (inr short) = short

  short : IsShort text
  short = short_by (cases_lt MOST_TEXT_BYTES (length text))

  module _ (before rest : List (List ℕ)) (line : List ℕ) (cut : lines text ≡ before ++ line ∷ rest) (fine : IsFineTrace (unpassed before)) (is : is_passed line ≡ false) where
    reaches : Reaches IsFineTrace text (length before + 1) before line
    reaches = record { short = short; after = rest; cut = cut; number = refl; fine = fine; is_unpassed = is }

    goes : ¬ IsFineTrace (unpassed before ++ line ∷ []) → ⊥
    goes stops = none (Syntax (length before + 1)) (record {
      before = before;
      line = line;
      reaches = reaches;
      wrong = λ rom events opened spelled.
          by_line (goes_on (so_far fine.rom fine.events fine.opened) (so_far rom events opened) (unpassed before) line fine.spelled spelled) fine.fits
          (λ fits. stops (record { rom = rom; events = events; opened = opened; spelled = spelled; fits = fits }))
          (λ F stays over. none (Full (length before + 1)) (record {
            before = before;
            line = line;
            reaches = reaches;
            rom = rom;
            events = events;
            F = F;
            right = subst (λ opened. SpellsTrace rom events opened (unpassed before ++ line ∷ [])) stays spelled;
            over = over;
          }))
          (λ closed over. none (Many (length before + 1)) (record {
            before = before;
            line = line;
            reaches = reaches;
            rom = rom;
            events = events;
            right = subst (λ opened. SpellsTrace rom events opened (unpassed before ++ line ∷ [])) closed spelled;
            over = over;
          }));
    })

  step : (before rest : List (List ℕ)) (line : List ℕ) → lines text ≡ before ++ line ∷ rest → IsFineTrace (unpassed before) → (passed : Bool) → is_passed line ≡ passed → ¬ IsFineTrace (unpassed (before ++ line ∷ [])) → ⊥
  step before rest line cut fine true is stops = stops (subst IsFineTrace (sym (unpassed_more before line is)) fine)
  step before rest line cut fine false is stops = goes before rest line cut fine is (λ next. stops (subst IsFineTrace (sym (unpassed_one before line is)) next))

  all_fine : (rest before : List (List ℕ)) → lines text ≡ before ++ rest → IsFineTrace (unpassed before) → ¬ IsFineTrace (unpassed (lines text)) → ⊥
  all_fine [] before cut fine stops = stops (subst (λ ls. IsFineTrace (unpassed ls)) (sym (cut ∙ append-nil before)) fine)
  all_fine (line ∷ rest) before cut fine stops =
      step before rest line cut fine (is_passed line) refl (λ next. all_fine rest (before ++ line ∷ []) (cut ∙ sym (append_assoc before (line ∷ []) rest)) next stops)

  nothing_fine : IsFineTrace []
  nothing_fine = record { rom = unstated; events = []; opened = None; spelled = says_nothing; fits = record { count = omega arith; drafts = All-nil FitsDraft; last = tt } }

  -- where the text ends inside an offer, that is its fault
  ended : (rom : RomText) (read : List Happening) (opened : Option (List OpKind)) → SpellsTrace rom read opened (unpassed (lines text)) → FitsTrace read opened → ¬ HasMeaning text → ⊥
  ended rom read None spelled fits nothing =
      let (R, bytes) = each_rom rom spelled.front spelled.head in
      nothing (read, R, record { rom = rom; denotes = record { short = short; spelled = spelled; fits = fits }; bytes = bytes })
  ended rom read (Some F) spelled fits nothing = none Unended (record { short = short; rom = rom; events = read; F = F; spelled = spelled; fits = fits })

pub no_trace_lacks_both : NoTraceLacksBoth
no_trace_lacks_both text nothing none = all_fine text none (lines text) [] refl (nothing_fine text none) (λ fine. ended text none fine.rom fine.events fine.opened fine.spelled fine.fits nothing)
