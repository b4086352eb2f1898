-- Runs of legal logs are consistent, by the moment at which word zero is fetched.
use Rattle.std.proofs.Common.{◌≡◌, ◌≢◌, ℕ, ◌*◌, ◌/◌, ◌≤◌, ◌<◌, ◌⊎◌, inl, inr, List, [], ◌∷◌, ◌++◌, refl, sym, ◌∙◌, ap, subst, Option, Some, None, arith}
use Rattle.std.specs.Prelude.{option_map}
use Rattle.std.proofs.lemmas.Option.{none-some, same_Some}
use Rattle.dvg_mem.specs.declared.half.Half.{Half}
use Rattle.dvg_mem.specs.Areas.{IsInHalf}
use Rattle.dvg_gen.specs.declared.stroke.Stroke.{Stroke}
use Rattle.dvg_driver.specs.declared.action.Action.TheVariants.{Wrote}
use Rattle.dvg_log.specs.Events.{Happening}
use Rattle.dvg_log.specs.declared.event.Event.TheVariants.{Tick, Fetch, ResetGen, ResetAll}
use Rattle.dvg_log.specs.Entries.{Shown}
use Rattle.dvg_log.specs.declared.entry.Entry.TheVariants.{Acted, Started, Low, Fetched, Done, Broke}
use Rattle.dvg_log.specs.Log.{◌⟼◌, Log, Throughout, history, waiting, open_run, before_flip, at_zero}
use Rattle.dvg_log.specs.Legal.{Always, IsWanted, Fits, IsLegal}
use Rattle.dvg_theorem.proofs.DrawnHalf.{LeadsTo, leads_before, past_zero}
use Rattle.dvg_theorem.proofs.DrawnHalfSpared.{HasFlipped}
use Rattle.dvg_theorem.proofs.Later.{shows}
use Rattle.dvg_theorem.proofs.Shows.{at_zero_fetched, at_zero_open}
use Rattle.dvg_theorem.proofs.Words.{words_are_whole}
use Rattle.dvg_moment.specs.Moment.{Known, stands, told, waits, Changes, reads, HasRead, HasChanged, StillStands, ReadsThen, IsMoment, OfOneMoment, IsOfOneMoment}
use Rattle.dvg_moment.proofs.ByteZeroAfterFlip.{told_zero}
use Rattle.dvg_moment.proofs.Halves.{wanted_there, wanted_first, has_flipped, zero_is, Writes, half_byte, zero_byte, one_byte, writes, written_apart}
use Rattle.dvg_moment.proofs.LinesRead.{low_at, word_at}

-- byte 000 is known to be 01 once there was a flip
abbrev pub KnowsZero : List ℕ → List ℕ → Known → Type 0
KnowsZero R image known = (log : Log) → IsLegal R image log → HasFlipped (before_flip log) → known log 0 ≡ Some 1

-- a run with one more fetch had the others
pub more_parts : (w : ℕ × ℕ) (run : Option (List (ℕ × ℕ))) (ws : List (ℕ × ℕ)) → option_map (λ fetches. w ∷ fetches) run ≡ Some ws → (us : List (ℕ × ℕ)) × (run ≡ Some us) × (w ∷ us ≡ ws)
more_parts w None ws e = absurd (none-some ws e)
more_parts w (Some us) ws e = (us, refl, same_Some _ _ e)

-- the line itself read nothing
abbrev no_byte : Option ℕ
no_byte = None

earlier : {P : Type 0} → (no_byte ≢ None) ⊎ P → P
earlier (inl h) = absurd (h refl)
earlier (inr h) = h

pub not_none : (v : ℕ × ℕ) (vs : List (ℕ × ℕ)) → v ∷ vs ≡ [] → ⊥
not_none v vs e = cc

halved : (a x : ℕ) → a ≡ 2 * x → a / 2 ≡ x
halved a x e = omega arith

-- a byte that changes is one of the RAM
in_ram : (known : Known) (event : Happening) (entry : Shown) (a : ℕ) (log : Log) → Changes known a log entry → a < 0x800
in_ram known event (Acted (Wrote b y)) a log c = c.1
in_ram known event entry a log c = absurd c

module _ (R image : List ℕ) (known : Known) (zero : KnowsZero R image known) where
  -- before word zero is fetched, byte 000 alone was read
  read_zero : (log : Log) → IsLegal R image log → open_run log ≡ Some [] → (a : ℕ) → HasRead a log → a ≡ 0
  read_zero [] l o a h = absurd h
  read_zero ((event ⟼ Started) ∷ log) l o a h = absurd h
  read_zero ((ResetGen ⟼ entry) ∷ log) l o a h = absurd (none-some [] o)
  read_zero ((ResetAll bytes ⟼ entry) ∷ log) l o a h = absurd (none-some [] o)
  read_zero ((Fetch ⟼ Low x y) ∷ log) l o a (inl r) = let e = low_at log x y a r in let z = wanted_first R image log l.2 x l.0.1 o in omega arith
  read_zero ((Fetch ⟼ Low x y) ∷ log) l o a (inr h) = read_zero log l.2 o a h
  read_zero ((event ⟼ Low x y) ∷ log) l o a h = absurd l.0
  read_zero ((event ⟼ Fetched x w) ∷ log) l o a h = let q = more_parts (x, w) (open_run log) [] o in absurd (not_none (x, w) q.0 q.2)
  read_zero ((event ⟼ Done x w s) ∷ log) l o a h = absurd (none-some [] o)
  read_zero ((event ⟼ Broke x fault) ∷ log) l o a h = absurd (none-some [] o)
  read_zero ((event ⟼ entry) ∷ log) l o a h = read_zero log l.2 o a (earlier h)

  -- and is only written with what stands there
  zero_stays : (log : Log) (b y : ℕ) → IsLegal R image ((Tick ⟼ Acted (Wrote b y)) ∷ log) → open_run log ≡ Some [] → b ≡ 0 → known log b ≡ Some y
  zero_stays log b y l o z =
      let one = zero log l.2 (has_flipped R image log l.2 [] o) in
      by (writes R image log b y l) (subst (λ a. known log a ≡ Some 1) (sym z) one)
    where
      by : Writes R image b y → known log b ≡ Some 1 → known log b ≡ Some y
      by (half_byte half i) one = absurd (past half i)
        where
          past : (half : Half) → IsInHalf half (b / 2) → ⊥
          past half i = let low = past_zero half (b / 2) i in omega arith
      by (zero_byte ea eb) one = one ∙ ap Some (sym eb)
      by (one_byte ea) one = absurd (omega arith)

  still : (log : Log) → IsLegal R image log → open_run log ≡ Some [] → StillStands known log
  still [] l o = tt
  still ((event ⟼ Started) ∷ log) l o = tt
  still ((ResetGen ⟼ entry) ∷ log) l o = absurd (none-some [] o)
  still ((ResetAll bytes ⟼ entry) ∷ log) l o = absurd (none-some [] o)
  still ((event ⟼ Fetched x w) ∷ log) l o = let q = more_parts (x, w) (open_run log) [] o in absurd (not_none (x, w) q.0 q.2)
  still ((event ⟼ Done x w s) ∷ log) l o = absurd (none-some [] o)
  still ((event ⟼ Broke x fault) ∷ log) l o = absurd (none-some [] o)
  still ((Tick ⟼ Acted (Wrote b y)) ∷ log) l o =
      ((λ a h c. c.2 (subst (λ d. known log d ≡ Some y) (sym c.0) (zero_stays log b y l o (sym c.0 ∙ read_zero log l.2 o a h)))), still log l.2 o)
  still ((event ⟼ Acted (Wrote b y)) ∷ log) l o = absurd l.0
  still ((event ⟼ entry) ∷ log) l o = ((λ a h c. c), still log l.2 o)

  -- a run that has fetched word zero, when it did, and what changed since: no byte of the half that it draws, and none of the ROM
  pub record Since (log : Log) (half : Half) : Type 0 where
    pub since : Log
    pub moment : Log
    pub split : log ≡ since ++ moment
    pub at : at_zero log ≡ moment
    pub before : StillStands known moment
    pub after : Throughout (ReadsThen known moment) since
    pub apart : (a : ℕ) → HasChanged known a since moment → (¬ IsInHalf half (a / 2)) × (a < 0x800)

  -- what a line reads, of the half or of the ROM, didn't change
  spared : (log : Log) (half : Half) (s : Since log half) (a x : ℕ) → a / 2 ≡ x → IsInHalf half x ⊎ (0x400 ≤ x) → HasChanged known a s.since s.moment → ⊥
  spared log half s a x e (inl inside) c = (s.apart a c).0 (subst (IsInHalf half) (sym e) inside)
  spared log half s a x e (inr above) c = let low = (s.apart a c).1 in omega arith

  -- one more line
  longer : (log : Log) (half : Half) (event : Happening) (entry : Shown) (s : Since log half) → entry ≢ Started
      → at_zero ((event ⟼ entry) ∷ log) ≡ at_zero log
      → ((a : ℕ) → reads log entry a ≢ None → ¬ HasChanged known a s.since s.moment)
      → ((a : ℕ) → Changes known a log entry → ¬ IsInHalf half (a / 2))
      → Since ((event ⟼ entry) ∷ log) half
  longer log half event entry s going same spares changes = record {
    since = (event ⟼ entry) ∷ s.since;
    moment = s.moment;
    split = ap (λ rest. (event ⟼ entry) ∷ rest) s.split;
    at = same ∙ s.at;
    before = s.before;
    after = ((going, λ a r c. spares a (subst (λ rest. reads rest entry a ≢ None) (sym s.split) r) c), s.after);
    apart = λ a c. by a c;
  }
    where
      by : (a : ℕ) → Changes known a (s.since ++ s.moment) entry ⊎ HasChanged known a s.since s.moment → (¬ IsInHalf half (a / 2)) × (a < 0x800)
      by a (inl c) = (changes a (subst (λ rest. Changes known a rest entry) (sym s.split) c), in_ram known event entry a (s.since ++ s.moment) c)
      by a (inr c) = s.apart a c

  -- the line that fetches word zero
  at_first : (log : Log) (x w : ℕ) (half : Half) → IsLegal R image log → open_run log ≡ Some [] → Since ((Fetch ⟼ Fetched x w) ∷ log) half
  at_first log x w half l o = record {
    since = (Fetch ⟼ Fetched x w) ∷ [];
    moment = log;
    split = refl;
    at = at_zero_fetched (Fetch ⟼ Fetched x w) log (x, w) [] (ap (option_map (λ fetches. (x, w) ∷ fetches)) o) ∙ at_zero_open log o;
    before = still log l o;
    after = (((λ e. cc), λ a r c. c), tt);
    apart = λ a c. none a c;
  }
    where
      none : (a : ℕ) → ⊥ ⊎ ⊥ → (¬ IsInHalf half (a / 2)) × (a < 0x800)
      none a (inl c) = absurd c
      none a (inr c) = absurd c

  pub since_zero : (log : Log) → IsLegal R image log → (v : ℕ × ℕ) (vs : List (ℕ × ℕ)) → open_run log ≡ Some (v ∷ vs) → (half : Half) → LeadsTo (v ∷ vs) half → Since log half
  since_zero [] l v vs o half leads = absurd (none-some (v ∷ vs) o)
  since_zero ((event ⟼ Started) ∷ log) l v vs o half leads = absurd (let e = same_Some _ _ o in cc)
  since_zero ((ResetGen ⟼ entry) ∷ log) l v vs o half leads = absurd (none-some (v ∷ vs) o)
  since_zero ((ResetAll bytes ⟼ entry) ∷ log) l v vs o half leads = absurd (none-some (v ∷ vs) o)
  since_zero ((event ⟼ Done x w s) ∷ log) l v vs o half leads = absurd (none-some (v ∷ vs) o)
  since_zero ((event ⟼ Broke x fault) ∷ log) l v vs o half leads = absurd (none-some (v ∷ vs) o)
  since_zero ((Fetch ⟼ Fetched x w) ∷ log) l v vs o half leads =
      let q = more_parts (x, w) (open_run log) (v ∷ vs) o in
      by q.0 q.1 (subst (λ ws. LeadsTo ws half) (sym q.2) leads) (λ u us p old. since_zero log l.2 u us p half old)
    where
      by : (us : List (ℕ × ℕ)) → open_run log ≡ Some us → LeadsTo ((x, w) ∷ us) half
          → ((u : ℕ × ℕ) (us : List (ℕ × ℕ)) → open_run log ≡ Some (u ∷ us) → LeadsTo (u ∷ us) half → Since log half) → Since ((Fetch ⟼ Fetched x w) ∷ log) half
      by [] p there before = at_first log x w half l.2 p
      by (u ∷ us) p there before =
          let old = leads_before there in
          let s = before u us p old in
          longer log half Fetch (Fetched x w) s (λ e. cc) (at_zero_fetched (Fetch ⟼ Fetched x w) log v vs o)
          (λ a r c. spared log half s a x (word_at (waits (waiting log) x) x w a r) (wanted_there R image log l.2 x l.0.1.asked u us p half old) c)
          (λ a c. absurd c)
  since_zero ((Fetch ⟼ Low x y) ∷ log) l v vs o half leads =
      let s = since_zero log l.2 v vs o half leads in
      longer log half Fetch (Low x y) s (λ e. cc) (at_zero_fetched (Fetch ⟼ Low x y) log v vs o)
      (λ a r c. spared log half s a x (halved a x (low_at log x y a r)) (wanted_there R image log l.2 x l.0.1 v vs o half leads) c)
      (λ a c. absurd c)
  since_zero ((Tick ⟼ Acted (Wrote b y)) ∷ log) l v vs o half leads =
      longer log half Tick (Acted (Wrote b y)) (since_zero log l.2 v vs o half leads) (λ e. cc) (at_zero_fetched (Tick ⟼ Acted (Wrote b y)) log v vs o)
      (λ a r c. r refl)
      (λ a c. subst (λ d. ¬ IsInHalf half (d / 2)) (sym c.0) (written_apart R image log b y l v vs o half leads))
  since_zero ((event ⟼ Fetched x w) ∷ log) l v vs o half leads = absurd l.0
  since_zero ((event ⟼ Low x y) ∷ log) l v vs o half leads = absurd l.0
  since_zero ((event ⟼ Acted (Wrote b y)) ∷ log) l v vs o half leads = absurd l.0
  since_zero ((event ⟼ entry) ∷ log) l v vs o half leads =
      longer log half event entry (since_zero log l.2 v vs o half leads) (λ e. cc) (at_zero_fetched (event ⟼ entry) log v vs o) (λ a r c. r refl) (λ a c. absurd c)

  -- the run that is finished by a word
  pub finished_at : (log : Log) (x w : ℕ) (drew : List Stroke) → IsLegal R image log → IsWanted (history R image log) x → (fetches : List (ℕ × ℕ)) → open_run log ≡ Some fetches
      → (since : Log) × (moment : Log) × (at_zero log ≡ moment) × IsMoment known ((Fetch ⟼ Done x w drew) ∷ log) since moment
  finished_at log x w drew l f [] o = (
    (Fetch ⟼ Done x w drew) ∷ [],
    log,
    at_zero_open log o,
    record { split = refl; read_before = still log l o; read_since = (((λ e. cc), λ a r c. c), tt) },
  )
  finished_at log x w drew l f (v ∷ vs) o =
      let leads = ((shows R image log l (words_are_whole R image log l)).0.running v vs o) in
      let s = since_zero log l v vs o leads.half leads.drawn in (
        (Fetch ⟼ Done x w drew) ∷ s.since,
        s.moment,
        s.at,
        record {
          split = ap (λ rest. (Fetch ⟼ Done x w drew) ∷ rest) s.split;
          read_before = s.before;
          read_since = (
            ((λ e. cc), λ a r c. spared log leads.half s a x (word_at (waits (waiting (s.since ++ s.moment)) x) x w a r) (wanted_there R image log l x f v vs o leads.half leads.drawn) c),
            s.after,
          );
        },
      )

  finished : (log : Log) (x w : ℕ) (drew : List Stroke) → IsLegal R image log → IsWanted (history R image log) x → (fetches : List (ℕ × ℕ)) → open_run log ≡ Some fetches
      → OfOneMoment known ((Fetch ⟼ Done x w drew) ∷ log)
  finished log x w drew l f fetches o = let a = finished_at log x w drew l f fetches o in (a.0, a.1, a.3)

  some_run : (run : Option (List (ℕ × ℕ))) → run ≢ None → (fetches : List (ℕ × ℕ)) × (run ≡ Some fetches)
  some_run None n = absurd (n refl)
  some_run (Some fetches) n = (fetches, refl)

  line_of_one : (log : Log) (event : Happening) (entry : Shown) → IsLegal R image log → Fits R image log event entry → IsOfOneMoment known log event entry
  line_of_one log Fetch (Done x w drew) l f = λ o. let run = some_run (open_run log) o in finished log x w drew l f.1.asked run.0 run.1
  line_of_one log event (Done x w drew) l f = absurd f
  line_of_one log event entry l f = tt

  pub all_of_one : (log : Log) → IsLegal R image log → Throughout (IsOfOneMoment known) log
  all_of_one [] l = tt
  all_of_one ((event ⟼ entry) ∷ log) l = (line_of_one log event entry l.2 l.0, all_of_one log l.2)

pub of_one_moment : Always (λ R image. IsOfOneMoment (stands image))
of_one_moment R image log l = all_of_one R image (stands image) (λ old m f. ap Some (zero_is R image old m f)) log l

pub told_of_one_moment : Always (λ R image. IsOfOneMoment told)
told_of_one_moment R image log l = all_of_one R image told (λ old m f. told_zero R image old m f) log l
