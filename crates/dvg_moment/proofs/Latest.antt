-- The latest moment up to which all that was read still stands is the best one: what changed since it, and is read, leaves none.
use Rattle.std.proofs.Common.{◌≡◌, ◌≢◌, ℕ, ◌⊎◌, inl, inr, None, [], ◌∷◌, ◌++◌, refl, sym, ◌∙◌, ap, subst}
use Rattle.dvg_log.specs.Events.{Happening}
use Rattle.dvg_log.specs.Entries.{Shown}
use Rattle.dvg_log.specs.declared.entry.Entry.TheVariants.{Started}
use Rattle.dvg_log.specs.Log.{Line, ◌⟼◌, Log, Throughout}
use Rattle.dvg_moment.specs.Moment.{Known, Changes, reads, HasRead, HasChanged, StillStands, ReadsThen, IsMoment, OfOneMoment}

pub joined : (one two three : Log) → (one ++ two) ++ three ≡ one ++ (two ++ three)
joined [] two three = refl
joined (line ∷ one) two three = ap (λ rest. line ∷ rest) (joined one two three)

tails : {k l : Line} {ks ls : Log} → k ∷ ks ≡ l ∷ ls → (k ≡ l) × (ks ≡ ls)
tails e = (cc, cc)

-- no line begins a run
abbrev Goes : Log → Happening → Shown → Type 0
Goes log event entry = entry ≢ Started

module _ (known : Known) where
  pub longer : (a : ℕ) (part mid moment : Log) → HasChanged known a part (mid ++ moment) → HasChanged known a (part ++ mid) moment
  longer a [] mid moment c = absurd c
  longer a ((event ⟼ entry) ∷ part) mid moment (inl c) = inl (subst (λ log. Changes known a log entry) (sym (joined part mid moment)) c)
  longer a ((event ⟼ entry) ∷ part) mid moment (inr c) = inr (longer a part mid moment c)

  stands_on : (event : Happening) (entry : Shown) (log : Log) → entry ≢ Started → ((a : ℕ) → HasRead a log → Changes known a log entry → ⊥) → StillStands known log → StillStands known ((event ⟼ entry) ∷ log)
  stands_on event Started log n f s = tt
  stands_on event entry log n f s = (f, s)

  stood : (event : Happening) (entry : Shown) (log : Log) → entry ≢ Started → StillStands known ((event ⟼ entry) ∷ log) → ((a : ℕ) → HasRead a log → Changes known a log entry → ⊥) × StillStands known log
  stood event Started log n s = absurd (n refl)
  stood event entry log n s = s

  earlier : (part log : Log) → Throughout Goes part → StillStands known (part ++ log) → StillStands known log
  earlier [] log g s = s
  earlier ((event ⟼ entry) ∷ part) log g s = earlier part log g.1 (stood event entry (part ++ log) g.0 s).1

  going : (moment since : Log) → Throughout (ReadsThen known moment) since → Throughout Goes since
  going moment [] r = tt
  going moment ((event ⟼ entry) ∷ since) r = (r.0.0, going moment since r.1)

  first_part : (one two : Log) → Throughout Goes (one ++ two) → Throughout Goes one
  first_part [] two g = tt
  first_part ((event ⟼ entry) ∷ one) two g = (g.0, first_part one two g.1)

  -- two ways to cut a log
  cuts : (one x two y : Log) → one ++ x ≡ two ++ y
      → ((mid : Log) × (one ≡ two ++ mid) × (y ≡ mid ++ x)) ⊎ ((mid : Log) × (two ≡ one ++ mid) × (x ≡ mid ++ y))
  cuts [] x two y e = inr (two, refl, e)
  cuts (k ∷ one) x [] y e = inl (k ∷ one, refl, sym e)
  cuts (k ∷ one) x (l ∷ two) y e = more (tails e).0 (cuts one x two y (tails e).1)
    where
      more : k ≡ l → ((mid : Log) × (one ≡ two ++ mid) × (y ≡ mid ++ x)) ⊎ ((mid : Log) × (two ≡ one ++ mid) × (x ≡ mid ++ y))
          → ((mid : Log) × (k ∷ one ≡ l ∷ two ++ mid) × (y ≡ mid ++ x)) ⊎ ((mid : Log) × (l ∷ two ≡ k ∷ one ++ mid) × (x ≡ mid ++ y))
      more same (inl c) = inl (c.0, ap (λ h. h ∷ one) same ∙ ap (λ t. l ∷ t) c.1, c.2)
      more same (inr c) = inr (c.0, ap (λ h. h ∷ two) (sym same) ∙ ap (λ t. k ∷ t) c.1, c.2)

  -- where all stands still, the moment may be now
  pub still_of_one : (log : Log) → StillStands known log → OfOneMoment known log
  still_of_one log s = ([], log, record { split = refl; read_before = s; read_since = tt })

  module _ (log : Log) (event : Happening) (entry : Shown) (goes : entry ≢ Started) where
    -- nothing that was read changes
    pub whole_on : StillStands known log → ((a : ℕ) → HasRead a log → ¬ Changes known a log entry) → StillStands known ((event ⟼ entry) ∷ log)
    whole_on s f = stands_on event entry log goes f s

    -- something that was read changes: the moment was before that
    pub moment_before : StillStands known log → IsMoment known ((event ⟼ entry) ∷ log) ((event ⟼ entry) ∷ []) log
    moment_before s = record { split = refl; read_before = s; read_since = ((goes, λ b r d. d), tt) }

    pub is_latest : (a : ℕ) → HasRead a log → Changes known a log entry → ¬ StillStands known ((event ⟼ entry) ∷ log)
    is_latest a h c all = (stood event entry log goes all).0 a h c

    -- nothing that changed since the moment is read
    pub past_on : (since moment : Log) → IsMoment known log since moment → ((a : ℕ) → reads log entry a ≢ None → ¬ HasChanged known a since moment)
        → IsMoment known ((event ⟼ entry) ∷ log) ((event ⟼ entry) ∷ since) moment
    past_on since moment m f = record {
      split = ap (λ rest. (event ⟼ entry) ∷ rest) m.split;
      read_before = m.read_before;
      read_since = ((goes, λ a r c. f a (subst (λ rest. reads rest entry a ≢ None) (sym m.split) r) c), m.read_since);
    }

    -- something that changed since the latest moment is read: there is no moment
    pub past_torn : (part : Log) (line : Line) (moment : Log) → IsMoment known log (part ++ line ∷ []) moment → ¬ StillStands known (line ∷ moment)
        → (a : ℕ) → reads log entry a ≢ None → HasChanged known a (part ++ line ∷ []) moment → ¬ OfOneMoment known ((event ⟼ entry) ∷ log)
    past_torn part line moment m n a read changed other = at other.0 other.1 other.2.split other.2.read_before other.2.read_since
      where
        split : log ≡ part ++ line ∷ moment
        split = m.split ∙ joined part (line ∷ []) moment

        goes_part : Throughout Goes part
        goes_part = first_part part (line ∷ []) (going moment (part ++ line ∷ []) m.read_since)

        until : (s : Log) (moment2 : Log) → log ≡ s ++ moment2 → StillStands known moment2 → (reads (s ++ moment2) entry a ≢ None → ¬ HasChanged known a s moment2) → ⊥
        until s moment2 e stands none = by (cuts part (line ∷ moment) s moment2 (sym split ∙ e))
          where
            within : (mid : Log) → s ≡ part ++ mid → line ∷ moment ≡ mid ++ moment2 → ⊥
            within [] f g = n (subst (StillStands known) (sym g) stands)
            within (l ∷ mid) f g =
                let d = tails g in
                let all : HasChanged known a (part ++ line ∷ []) (mid ++ moment2) = subst (HasChanged known a (part ++ line ∷ [])) d.1 changed in
                let more = longer a (part ++ line ∷ []) mid moment2 all in
                let same : (part ++ line ∷ []) ++ mid ≡ s = joined part (line ∷ []) mid ∙ (ap (λ k. part ++ k ∷ mid) d.0 ∙ sym f) in
                none (subst (λ rest. reads rest entry a ≢ None) e read) (subst (λ t. HasChanged known a t moment2) same more)

            by : ((mid : Log) × (part ≡ s ++ mid) × (moment2 ≡ mid ++ line ∷ moment)) ⊎ ((mid : Log) × (s ≡ part ++ mid) × (line ∷ moment ≡ mid ++ moment2)) → ⊥
            by (inl c) =
                let g : Throughout Goes (s ++ c.0) = subst (Throughout Goes) c.1 goes_part in
                n (earlier c.0 (line ∷ moment) (last_part s c.0 g) (subst (StillStands known) c.2 stands))
              where
                last_part : (one two : Log) → Throughout Goes (one ++ two) → Throughout Goes two
                last_part [] two g = g
                last_part ((event ⟼ entry) ∷ one) two g = last_part one two g.1
            by (inr c) = within c.0 c.1 c.2

        at : (since moment2 : Log) → (event ⟼ entry) ∷ log ≡ since ++ moment2 → StillStands known moment2 → Throughout (ReadsThen known moment2) since → ⊥
        at [] moment2 e stands r =
            let all = subst (StillStands known) (sym e) stands in
            let before : StillStands known (part ++ line ∷ moment) = subst (StillStands known) split (stood event entry log goes all).1 in
            n (earlier part (line ∷ moment) goes_part before)
        at (l ∷ s) moment2 e stands r =
            let d = tails e in
            let q : Throughout (ReadsThen known moment2) ((event ⟼ entry) ∷ s) = subst (λ k. Throughout (ReadsThen known moment2) (k ∷ s)) (sym d.0) r in
            until s moment2 d.1 stands (λ here c. q.0.1 a here c)

    -- once there is no moment, there is none any more
    pub torn_on : ¬ OfOneMoment known log → ¬ OfOneMoment known ((event ⟼ entry) ∷ log)
    torn_on n other = at other.0 other.1 other.2.split other.2.read_before other.2.read_since
      where
        at : (since moment : Log) → (event ⟼ entry) ∷ log ≡ since ++ moment → StillStands known moment → Throughout (ReadsThen known moment) since → ⊥
        at [] moment e stands r = n ([], log, record { split = refl; read_before = (stood event entry log goes (subst (StillStands known) (sym e) stands)).1; read_since = tt })
        at ((ev ⟼ en) ∷ s) moment e stands r = n (s, moment, record { split = (tails e).1; read_before = stands; read_since = r.1 })
