-- What a run fetches is of the layout of what it shows, or of the ROM, and what it drew is in range.
use Rattle.std.proofs.Common.{◌≡◌, ◌≢◌, ℕ, ◌+◌, ◌-◌, ◌<◌, ◌⊎◌, inl, inr, List, [], ◌∷◌, length, Bool, true, false, ◌&&◌, refl, slice_get, Some, sym, ap, ◌∙◌, subst, arith, nat_le, nat_lt}
use Rattle.std.specs.Prelude.{All, if◌then◌else◌, slice_index}
use Rattle.std.proofs.lemmas.Bool.{and_parts, leb-true, ltb-true}
use Rattle.std.proofs.lemmas.Option.{same_Some, slice_get-get_or}
use Rattle.dvg_mem.specs.declared.half.Half.{Half}
use Rattle.dvg_mem.specs.Areas.{base}
use Rattle.dvg_mem.specs.Memory.{fetched, rom_word}
use Rattle.dvg_gen.specs.Position.{IsStroke}
use Rattle.dvg_gen.specs.Run.{wanted, fate, strokes}
use Rattle.dvg_gen.proofs.Inside.{run_in_range}
use Rattle.dvg_gen.proofs.Replies.{drew_finished}
use Rattle.dvg_frame.specs.declared.op.OpKind.{OpKind}
use Rattle.dvg_frame.specs.Layout.{laid}
use Rattle.dvg_log.specs.Events.{Happening}
use Rattle.dvg_log.specs.declared.event.Event.TheVariants.{Fetch}
use Rattle.dvg_log.specs.Entries.{Shown}
use Rattle.dvg_log.specs.declared.entry.Entry.TheVariants.{Fetched, Done}
use Rattle.dvg_log.specs.Log.{◌⟼◌, Log, ram, history, open_run}
use Rattle.dvg_log.specs.Legal.{Always, IsWanted, Fits, IsLegal}
use Rattle.dvg_log.specs.Headline.{IsShown}
use Rattle.dvg_theorem.specs.Fetches.{IsInMemory, FromLayout, ReadsOneFrame, DrewInRange}
use Rattle.dvg_theorem.proofs.DrawnHalf.{LeadsTo, drawn_leads, leads_none, leads_same}
use Rattle.dvg_theorem.proofs.Later.{memory_is, shows}
use Rattle.dvg_theorem.proofs.LeastMemory.{frame_memory, least_once, not_zero}
use Rattle.dvg_theorem.proofs.Linked.{Cut, cut_same, wanting}
use Rattle.dvg_theorem.proofs.Words.{words_are_whole}

-- a word of the least memory, but for word zero, is one of the layout or of the ROM
in_layout : (half : Half) (F : List OpKind) (R : List ℕ) (a w : ℕ) → a ≢ 0 → frame_memory half F R a ≡ Some w
    → ((k : ℕ) × (a ≡ base half + k) × (slice_get (laid half F) k ≡ Some w)) ⊎ (rom_word R a ≡ Some w)
in_layout half F R a w some is =
    let zero = not_zero a (omega (arith, some)) in
    by (nat_le (base half) a && nat_lt a (base half + length (laid half F))) refl (rw zero at is)
  where
    by : (inside : Bool) → inside ≡ (nat_le (base half) a && nat_lt a (base half + length (laid half F)))
        → (if inside then Some (slice_index (laid half F) (a - base half)) else rom_word R a) ≡ Some w
        → ((k : ℕ) × (a ≡ base half + k) × (slice_get (laid half F) k ≡ Some w)) ⊎ (rom_word R a ≡ Some w)
    by false same word = inr word
    by true same word =
        let both = and_parts (nat_le (base half) a) (nat_lt a (base half + length (laid half F))) (sym same) in
        let low = leb-true (base half) a both.0 in
        let high = ltb-true a (base half + length (laid half F)) both.1 in
        let within : a - base half < length (laid half F) = omega (arith, low, high) in
        inl (a - base half, omega (arith, low), slice_get-get_or (laid half F) (a - base half) 0 within ∙ word)

module _ (R image : List ℕ) (log : Log) (legal : IsLegal R image log) (a w : ℕ) (asked : IsWanted (history R image log) a) (here : fetched (ram image log) R a ≡ Some w) where
  from_run : (half : Half) (F : List OpKind) (fetches : List (ℕ × ℕ)) → open_run log ≡ Some fetches → LeadsTo fetches half → IsShown log F
      → ((k : ℕ) × (a ≡ base half + k) × (slice_get (laid half F) k ≡ Some w)) ⊎ (rom_word R a ≡ Some w)
  from_run half F [] o leads shown = absurd (leads_none half leads)
  from_run half F (v ∷ us) o leads shown =
      let r = (shows R image log legal (words_are_whole R image log legal)).0.running v us o in
      let t = wanting R image log a legal asked in
      let cut : Cut (v ∷ us) asked.run.visits asked.run.held = subst (λ ws. Cut ws asked.run.visits asked.run.held) (same_Some _ _ (sym t.open_now ∙ o)) t.cut in
      let same = cut_same r.cut cut in
      let at : wanted r.visits r.held ≡ a = ap (λ x. wanted x r.held) same.0 ∙ ap (λ x. wanted asked.run.visits x) same.1 ∙ sym t.at in
      let m = memory_is R image log v us r (ap fate same.0 ∙ t.goes) in
      let word : m.0 ≡ w = same_Some _ _ (sym m.2 ∙ (ap (fetched (ram image log) R) at ∙ here)) in
      let memory : frame_memory r.half r.draft R a ≡ Some w = ap (frame_memory r.half r.draft R) (sym at) ∙ m.1 ∙ ap Some word in
      let halves : r.half ≡ half = leads_same r.drawn leads in
      let drafts : r.draft ≡ F = same_Some _ _ (sym r.shown ∙ shown) in
      let once = least_once r.half r.draft R r.checked (length us) r.visits r.held r.runs (ap fate same.0 ∙ t.goes) in
      in_layout half F R a w (λ zero. once (at ∙ zero)) (subst (λ h. frame_memory h F R a ≡ Some w) halves (subst (λ G. frame_memory r.half G R a ≡ Some w) drafts memory))

  from_layout : FromLayout R log a w
  from_layout half F drawn shown = let lead = drawn_leads log half drawn in from_run half F lead.0 lead.1 lead.2 shown

line_reads : (R image : List ℕ) (log : Log) (event : Happening) (entry : Shown) → IsLegal R image log → Fits R image log event entry → IsInMemory R image log event entry → ReadsOneFrame R log event entry
line_reads R image log Fetch (Fetched a w) legal fits here = from_layout R image log legal a w fits.1.asked here
line_reads R image log Fetch (Done a w drew) legal fits here = from_layout R image log legal a w fits.1.asked here
line_reads R image log event (Fetched a w) legal fits here = absurd fits
line_reads R image log event (Done a w drew) legal fits here = absurd fits
line_reads R image log event entry legal fits here = tt

pub reads_one_frame : Always (λ R image. ReadsOneFrame R)
reads_one_frame R image [] l = tt
reads_one_frame R image ((event ⟼ entry) ∷ log) l =
    (line_reads R image log event entry l.2 l.0 (words_are_whole R image ((event ⟼ entry) ∷ log) l).0, reads_one_frame R image log l.2)

line_in_range : (R image : List ℕ) (log : Log) (event : Happening) (entry : Shown) → Fits R image log event entry → DrewInRange log event entry
line_in_range R image log Fetch (Done a w drew) fits =
    let f = fits.1 in
    let finished = drew_finished f.later.held (fate f.later.visits) (strokes f.later.first f.later.visits) drew f.replies in
    subst (All IsStroke) finished.2 (run_in_range _ f.later f.leaves_later)
line_in_range R image log event (Done a w drew) fits = absurd fits
line_in_range R image log event entry fits = tt

pub draws_in_range : Always (λ R image. DrewInRange)
draws_in_range R image [] l = tt
draws_in_range R image ((event ⟼ entry) ∷ log) l = (line_in_range R image log event entry l.0, draws_in_range R image log l.2)
