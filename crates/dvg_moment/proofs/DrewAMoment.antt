-- Runs of legal logs draw what a run over the memory at the fetch of word zero draws.
use Rattle.std.proofs.Common.{◌≡◌, ℕ, suc, ◌+◌, List, [], ◌∷◌, length, refl, sym, ◌∙◌, ap, subst, Option, Some, None, Bool, true, false}
use Rattle.std.specs.Prelude.{if◌then◌else◌, option_and_then}
use Rattle.std.proofs.lemmas.Option.{none-some, same_Some}
use Rattle.dvg_mem.specs.Areas.{base, half_of_high}
use Rattle.dvg_mem.specs.Memory.{fetched}
use Rattle.dvg_gen.specs.declared.beam.Beam.{Beam}
use Rattle.dvg_gen.specs.declared.stroke.Stroke.{Stroke}
use Rattle.dvg_frame.specs.declared.op.OpKind.{OpKind}
use Rattle.dvg_frame.specs.Picture.{IsPicture}
use Rattle.dvg_log.specs.Events.{Happening}
use Rattle.dvg_log.specs.declared.event.Event.TheVariants.{Fetch}
use Rattle.dvg_log.specs.Entries.{Shown}
use Rattle.dvg_log.specs.declared.entry.Entry.TheVariants.{Done}
use Rattle.dvg_log.specs.Log.{◌⟼◌, Log, Throughout, ram, open_run, before_flip, offered, published, has_fetched, at_zero}
use Rattle.dvg_log.specs.Held.{HoldsFrame}
use Rattle.dvg_log.specs.Headline.{DrewPublished}
use Rattle.dvg_log.specs.Legal.{Always, Fits, IsLegal}
use Rattle.dvg_theorem.specs.Law.{Finishes}
use Rattle.dvg_theorem.proofs.Bytes.{byte}
use Rattle.dvg_theorem.proofs.Headline.{draws_published}
use Rattle.dvg_theorem.proofs.DrawnHalfSpared.{HasFlipped, kept, zero_jumps}
use Rattle.dvg_theorem.proofs.Later.{shows}
use Rattle.dvg_theorem.proofs.Law.{undisturbed}
use Rattle.dvg_theorem.proofs.LeastMemory.{lies_word}
use Rattle.dvg_theorem.proofs.Words.{words_are_whole}
use Rattle.dvg_moment.specs.Moment.{stands}
use Rattle.dvg_moment.specs.Played.{DrewAMoment}
use Rattle.dvg_moment.proofs.OfOneMoment.{finished_at}
use Rattle.dvg_moment.proofs.Halves.{zero_is}

legal_zero : (R image : List ℕ) (log : Log) → IsLegal R image log → IsLegal R image (at_zero log)
legal_zero R image [] l = l
legal_zero R image ((event ⟼ entry) ∷ log) l = by (has_fetched (open_run ((event ⟼ entry) ∷ log))) (legal_zero R image log l.2)
  where
    by : (t : Bool) → IsLegal R image (at_zero log) → IsLegal R image (if t then at_zero log else (event ⟼ entry) ∷ log)
    by true h = h
    by false h = l

flipped_of : (flip : Option Log) (F : List OpKind) → option_and_then offered flip ≡ Some F → HasFlipped flip
flipped_of None F e = absurd (none-some F e)
flipped_of (Some older) F e = (older, refl)

module _ (R image : List ℕ) where
  -- the memory at a moment at which a frame is published draws its picture
  over : (moment : Log) → IsLegal R image moment → (F : List OpKind) → published moment ≡ Some F → (drew : List Stroke) (n : ℕ) → IsPicture F R drew n
      → (beam : Beam) → Finishes (fetched (ram image moment) R) beam drew n
  over moment l F shown drew n picture beam =
      let m = words_are_whole R image moment l in
      let flips = flipped_of (before_flip moment) F shown in
      let c = (shows R image moment l m).0.now flips in
      let k = (kept R image moment l m).1 in
      let half = half_of_high (byte image moment 1) in
      let same : c.draft ≡ F = same_Some _ _ (sym c.newest ∙ shown) in
      let holds : HoldsFrame (ram image moment) half c.draft = record {
        zero = zero_jumps (byte image moment 0) (byte image moment 1) (k.jumps flips);
        laid = λ j inside. lies_word half c.draft (ram image moment) c.holds j (base half + j) inside refl;
      } in
      let drawn = undisturbed half c.draft (ram image moment) R c.checked.draft c.checked.rom c.checked.accepts.closed holds in
      (drawn.exact beam drew n).1 (subst (λ G. IsPicture G R drew n) (sym same) picture)

  done_drew : (log : Log) (x w : ℕ) (drew : List Stroke) → IsLegal R image log → Fits R image log Fetch (Done x w drew) → DrewPublished R log Fetch (Done x w drew) → DrewAMoment R image log Fetch (Done x w drew)
  done_drew log x w drew l f d fetches o =
      let a = finished_at R image (stands image) (λ old m g. ap Some (zero_is R image old m g)) log x w drew l f.1.asked fetches o in
      let picture : IsPicture d.0 R drew (suc (length fetches)) = subst (λ ws. IsPicture d.0 R drew (suc (length ws))) (same_Some _ _ (sym d.4 ∙ o)) d.5 in (
        a.0,
        a.1,
        a.3,
        λ beam. subst (λ moment. Finishes (fetched (ram image moment) R) beam drew (suc (length fetches))) a.2
            (over (at_zero log) (legal_zero R image log l) d.0 d.2 drew (suc (length fetches)) picture beam),
      )

  line_drew : (log : Log) (event : Happening) (entry : Shown) → IsLegal R image log → Fits R image log event entry → DrewPublished R log event entry → DrewAMoment R image log event entry
  line_drew log Fetch (Done x w drew) l f d = done_drew log x w drew l f d
  line_drew log event (Done x w drew) l f d = absurd f
  line_drew log event entry l f d = tt

  all_drew : (log : Log) → IsLegal R image log → Throughout (DrewPublished R) log → Throughout (DrewAMoment R image) log
  all_drew [] l d = tt
  all_drew ((event ⟼ entry) ∷ log) l d = (line_drew log event entry l.2 l.0 d.0, all_drew log l.2 d.1)

pub drew_a_moment : Always DrewAMoment
drew_a_moment R image log l = all_drew R image log l (draws_published R image log l)
