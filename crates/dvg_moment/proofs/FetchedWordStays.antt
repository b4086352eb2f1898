-- Each word that a run of a legal log fetched stands in memory at the moment at which word zero is fetched.
use Rattle.std.proofs.Common.{◌≡◌, ℕ, ◌+◌, ◌*◌, ◌/◌, ◌≤◌, ◌⊎◌, inl, inr, List, [], ◌∷◌, refl, sym, ◌∙◌, ap, subst, Some, arith}
use Rattle.std.specs.Prelude.{slice_index}
use Rattle.std.specs.List.{AllByRecursion}
use Rattle.std.proofs.lemmas.Bool.{le-ltb}
use Rattle.std.proofs.lemmas.Option.{none-some, same_Some}
use Rattle.dvg_mem.specs.declared.half.Half.{Half}
use Rattle.dvg_mem.specs.Areas.{IsInHalf}
use Rattle.dvg_mem.specs.Memory.{IsImage, fetched}
use Rattle.dvg_gen.specs.declared.stroke.Stroke.{Stroke}
use Rattle.dvg_log.specs.Events.{Happening}
use Rattle.dvg_log.specs.declared.event.Event.TheVariants.{Fetch, ResetGen, ResetAll}
use Rattle.dvg_log.specs.Entries.{Shown}
use Rattle.dvg_log.specs.declared.entry.Entry.TheVariants.{Started, Fetched, Done, Broke}
use Rattle.dvg_log.specs.Log.{Line, ◌⟼◌, Log, Throughout, ram, history, open_run, at_zero}
use Rattle.dvg_log.specs.Legal.{Always, IsWanted, IsLegal}
use Rattle.dvg_theorem.proofs.Bytes.{byte}
use Rattle.dvg_theorem.proofs.DrawnHalf.{LeadsTo}
use Rattle.dvg_theorem.proofs.Later.{shows}
use Rattle.dvg_theorem.proofs.Shows.{at_zero_fetched, at_zero_open}
use Rattle.dvg_theorem.proofs.Words.{words_are_whole}
use Rattle.dvg_moment.specs.Moment.{stands}
use Rattle.dvg_moment.specs.Played.{FetchesMemory, StoodThen}
use Rattle.dvg_moment.proofs.DrawsTheMoment.{same_word, as_then}
use Rattle.dvg_moment.proofs.Small.{legal_is_played}
use Rattle.dvg_moment.proofs.OfOneMoment.{more_parts, Since, since_zero, finished_at}
use Rattle.dvg_moment.proofs.Halves.{wanted_there, zero_is}

rom_same : (one two R : List ℕ) (x : ℕ) → 0x400 ≤ x → fetched one R x ≡ fetched two R x
rom_same one two R x l = let t = le-ltb x 0x400 l in rw t refl

even : (x : ℕ) → (2 * x) / 2 ≡ x
even x = omega arith

odd : (x : ℕ) → (2 * x + 1) / 2 ≡ x
odd x = omega arith

module _ (R image : List ℕ) where
  first_image : (log : Log) → IsLegal R image log → IsImage image
  first_image [] l = l.1
  first_image ((event ⟼ entry) ∷ log) l = first_image log l.2

  abbrev Meanwhile : Log → Half → Type 0
  Meanwhile log half = Since R image (stands image) (λ old m g. ap Some (zero_is R image old m g)) log half

  meanwhile : (log : Log) → IsLegal R image log → (v : ℕ × ℕ) (vs : List (ℕ × ℕ)) → open_run log ≡ Some (v ∷ vs) → (half : Half) → LeadsTo (v ∷ vs) half → Meanwhile log half
  meanwhile log l v vs o half leads = since_zero R image (stands image) (λ old m g. ap Some (zero_is R image old m g)) log l v vs o half leads

  -- a word that is fetched later stood there at the moment
  stood : (log : Log) → IsLegal R image log → (u : ℕ × ℕ) (us : List (ℕ × ℕ)) → open_run log ≡ Some (u ∷ us) → (half : Half) → LeadsTo (u ∷ us) half
      → (x : ℕ) → IsWanted (history R image log) x → fetched (ram image (at_zero log)) R x ≡ fetched (ram image log) R x
  stood log l u us o half leads x f =
      let s = meanwhile log l u us o half leads in
      subst (λ moment. fetched (ram image moment) R x ≡ fetched (ram image log) R x) (sym s.at) (by s (wanted_there R image log l x f u us o half leads))
    where
      by : (s : Meanwhile log half) → IsInHalf half x ⊎ (0x400 ≤ x) → fetched (ram image s.moment) R x ≡ fetched (ram image log) R x
      by s (inr above) = rom_same (ram image s.moment) (ram image log) R x above
      by s (inl inside) = same_word (ram image s.moment) (ram image log) R x (here (2 * x) (even x)) (here (2 * x + 1) (odd x))
        where
          here : (a : ℕ) → a / 2 ≡ x → slice_index (ram image s.moment) a ≡ slice_index (ram image log) a
          here a e =
              let same = as_then R image (first_image log l) s.since s.moment (subst (Throughout (FetchesMemory R image)) s.split (legal_is_played R image log l)) s.after (u ∷ us) (subst (λ k. open_run k ≡ Some (u ∷ us)) s.split o) a
              (λ c. (s.apart a c).0 (subst (IsInHalf half) (sym e) inside)) in
              sym same ∙ ap (λ k. byte image k a) (sym s.split)

  -- a word that a line completes
  abbrev Stands : Log → ℕ × ℕ → Type 0
  Stands log f = fetched (ram image (at_zero log)) R f.0 ≡ Some f.1

  word_stood : (log : Log) (x w : ℕ) → IsLegal R image log → fetched (ram image log) R x ≡ Some w → IsWanted (history R image log) x → (us : List (ℕ × ℕ)) → open_run log ≡ Some us → Stands log (x, w)
  word_stood log x w l m f [] o = ap (λ k. fetched (ram image k) R x) (at_zero_open log o) ∙ m
  word_stood log x w l m f (u ∷ us) o =
      let r = (shows R image log l (words_are_whole R image log l)).0.running u us o in
      stood log l u us o r.half r.drawn x f ∙ m

  as_before : (line : Line) (log : Log) (v : ℕ × ℕ) (vs ws : List (ℕ × ℕ)) → open_run (line ∷ log) ≡ Some (v ∷ vs) → AllByRecursion (Stands log) ws → AllByRecursion (Stands (line ∷ log)) ws
  as_before line log v vs ws o h = subst (λ k. AllByRecursion (λ f. fetched (ram image k) R f.0 ≡ Some f.1) ws) (sym (at_zero_fetched line log v vs o)) h

  words_stood : (log : Log) → IsLegal R image log → (ws : List (ℕ × ℕ)) → open_run log ≡ Some ws → AllByRecursion (Stands log) ws
  words_stood log l [] o = tt
  words_stood [] l (v ∷ vs) o = absurd (none-some (v ∷ vs) o)
  words_stood ((event ⟼ Started) ∷ log) l (v ∷ vs) o = absurd (let e = same_Some _ _ o in cc)
  words_stood ((ResetGen ⟼ entry) ∷ log) l (v ∷ vs) o = absurd (none-some (v ∷ vs) o)
  words_stood ((ResetAll bytes ⟼ entry) ∷ log) l (v ∷ vs) o = absurd (none-some (v ∷ vs) o)
  words_stood ((event ⟼ Done x w drew) ∷ log) l (v ∷ vs) o = absurd (none-some (v ∷ vs) o)
  words_stood ((event ⟼ Broke x fault) ∷ log) l (v ∷ vs) o = absurd (none-some (v ∷ vs) o)
  words_stood ((Fetch ⟼ Fetched x w) ∷ log) l (v ∷ vs) o =
      let q = more_parts (x, w) (open_run log) (v ∷ vs) o in
      let m = (words_are_whole R image ((Fetch ⟼ Fetched x w) ∷ log) l).0 in
      as_before (Fetch ⟼ Fetched x w) log v vs (v ∷ vs) o
      (subst (AllByRecursion (Stands log)) q.2 (word_stood log x w l.2 m l.0.1.asked q.0 q.1, words_stood log l.2 q.0 q.1))
  words_stood ((event ⟼ Fetched x w) ∷ log) l (v ∷ vs) o = absurd l.0
  words_stood ((event ⟼ entry) ∷ log) l (v ∷ vs) o = as_before (event ⟼ entry) log v vs (v ∷ vs) o (words_stood log l.2 (v ∷ vs) o)

  done_stood : (log : Log) (x w : ℕ) (drew : List Stroke) → IsLegal R image ((Fetch ⟼ Done x w drew) ∷ log) → StoodThen R image log Fetch (Done x w drew)
  done_stood log x w drew l ws o =
      let a = finished_at R image (stands image) (λ old m g. ap Some (zero_is R image old m g)) log x w drew l.2 l.0.1.asked ws o in
      let m = (words_are_whole R image ((Fetch ⟼ Done x w drew) ∷ log) l).0 in
      (a.0, a.1, a.3, subst (λ k. AllByRecursion (λ f. fetched (ram image k) R f.0 ≡ Some f.1) ((x, w) ∷ ws)) a.2 (word_stood log x w l.2 m l.0.1.asked ws o, words_stood log l.2 ws o))

  line_stood : (log : Log) (event : Happening) (entry : Shown) → IsLegal R image ((event ⟼ entry) ∷ log) → StoodThen R image log event entry
  line_stood log Fetch (Done x w drew) l = done_stood log x w drew l
  line_stood log event (Done x w drew) l = absurd l.0
  line_stood log event entry l = tt

  all_stood : (log : Log) → IsLegal R image log → Throughout (StoodThen R image) log
  all_stood [] l = tt
  all_stood ((event ⟼ entry) ∷ log) l = (line_stood log event entry l, all_stood log l.2)

pub stood_then : Always StoodThen
stood_then R image log l = all_stood R image log l
