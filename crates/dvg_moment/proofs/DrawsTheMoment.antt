-- A consistent run draws what a run over that moment's memory draws, whoever wrote it.
use Rattle.std.proofs.Common.{◌≡◌, ◌≢◌, ℕ, zero, suc, ◌+◌, ◌*◌, ◌/◌, ◌%◌, ◌≤◌, ◌<◌, ◌⊎◌, inl, inr, List, [], ◌∷◌, ◌++◌, length, refl, sym, ◌∙◌, ap, subst, Option, Some, None, Bool, true, false, nat_lt, arith}
use Rattle.std.specs.Prelude.{if◌then◌else◌, option_map, is_some, slice_index, slice_set}
use Rattle.std.specs.List.{AllByRecursion}
use Rattle.std.proofs.lemmas.List.{length-set}
use Rattle.std.proofs.lemmas.Option.{none-some, same_Some}
use Rattle.std.proofs.lemmas.Bool.{cases_lt}
use Rattle.std.proofs.lemmas.Bool.Decides.{eqb_tells}
use Rattle.std.proofs.lemmas.List.Elements.{recursion_from_All}
use Rattle.dvg_code.specs.Words.{word_in}
use Rattle.dvg_mem.specs.Memory.{IsImage, fetched, fetched_byte, rom_word}
use Rattle.dvg_gen.specs.declared.stroke.Stroke.{Stroke}
use Rattle.dvg_gen.specs.Bytes.{Whole, met}
use Rattle.dvg_gen.specs.Run.{wanted, fate, strokes, Adds, Runs, begins, fetches}
use Rattle.dvg_gen.specs.Told.{Told, Fed, Newest, Leaves, starts, takes, Drew, reply}
use Rattle.dvg_gen.proofs.GeneratorAfterHistory.{open_goes}
use Rattle.dvg_gen.proofs.OneRun.{leaves_same}
use Rattle.dvg_gen.proofs.Replies.{drew_finished, wants_open}
use Rattle.dvg_driver.specs.declared.action.Action.TheVariants.{Wrote}
use Rattle.dvg_log.specs.Events.{Happening}
use Rattle.dvg_log.specs.declared.event.Event.TheVariants.{Tick, Strobe, Fetch, ResetGen, ResetAll}
use Rattle.dvg_log.specs.Entries.{Shown}
use Rattle.dvg_log.specs.declared.entry.Entry.TheVariants.{Acted, Started, Low, Fetched, Done, Broke, Cleared}
use Rattle.dvg_log.specs.Log.{Line, ◌⟼◌, Log, Throughout, ram, waiting, low_byte, meets, history, open_run}
use Rattle.dvg_log.specs.Legal.{IsWanted, IsFetch, Fits}
use Rattle.dvg_theorem.specs.Law.{Finishes}
use Rattle.dvg_theorem.proofs.Bytes.{byte, low_met, word_met, whole_met}
use Rattle.dvg_theorem.proofs.DrawnHalfSpared.{byte_other}
use Rattle.dvg_moment.specs.Moment.{stands, waits, Changes, reads, HasRead, HasChanged, StillStands, ReadsThen}
use Rattle.dvg_moment.specs.Played.{FetchesMemory, DrewItsMoment, DrawsTheMoment}
use Rattle.dvg_moment.proofs.OfOneMoment.{more_parts}
use Rattle.dvg_moment.proofs.LinesRead.{some_read, low_reads, high_reads}

-- 2,048 bytes
abbrev pub AreBytes : List ℕ → Type 0
AreBytes bytes = (length bytes ≡ 0x800) × ((i : ℕ) → slice_index bytes i < 256)

below : (bytes : List ℕ) → AllByRecursion (λ byte. byte < 256) bytes → (i : ℕ) → slice_index bytes i < 256
below [] s i = omega arith
below (byte ∷ bytes) s zero = s.0
below (byte ∷ bytes) s (suc i) = below bytes s.1 i

pub image_bytes : (bytes : List ℕ) → IsImage bytes → AreBytes bytes
image_bytes bytes i = (i.count, below bytes (recursion_from_All (λ byte. byte < 256) bytes i.bytes))

-- beyond the end there is nothing to change
beyond : (bs : List ℕ) (b v i : ℕ) → length bs ≤ i → slice_index (slice_set bs b v) i ≡ slice_index bs i
beyond [] b v i l = refl
beyond (x ∷ xs) zero v zero l = absurd (omega arith)
beyond (x ∷ xs) zero v (suc i) l = refl
beyond (x ∷ xs) (suc b) v zero l = refl
beyond (x ∷ xs) (suc b) v (suc i) l = beyond xs b v i (omega arith)

-- to write what stands there changes nothing
same_set : (bs : List ℕ) (b v i : ℕ) → slice_index bs b ≡ v → slice_index (slice_set bs b v) i ≡ slice_index bs i
same_set [] b v i e = refl
same_set (x ∷ xs) zero v zero e = sym e
same_set (x ∷ xs) zero v (suc i) e = refl
same_set (x ∷ xs) (suc b) v zero e = refl
same_set (x ∷ xs) (suc b) v (suc i) e = same_set xs b v i e

small_set : (bs : List ℕ) (b v : ℕ) → v < 256 → ((i : ℕ) → slice_index bs i < 256) → (i : ℕ) → slice_index (slice_set bs b v) i < 256
small_set [] b v l h i = h i
small_set (x ∷ xs) zero v l h zero = l
small_set (x ∷ xs) zero v l h (suc i) = h (suc i)
small_set (x ∷ xs) (suc b) v l h zero = h 0
small_set (x ∷ xs) (suc b) v l h (suc i) = small_set xs b v l (λ j. h (suc j)) i

bytes_set : (bs : List ℕ) (b v : ℕ) → v < 256 → AreBytes bs → AreBytes (slice_set bs b v)
bytes_set bs b v l h = (length-set bs b v ∙ h.0, small_set bs b v l h.1)

-- where a byte isn't changed it stays
pub unchanged : (bs : List ℕ) (b v a : ℕ) → length bs ≡ 0x800 → ((a ≡ b) × (a < 0x800) × (Some (slice_index bs a) ≢ Some v) → ⊥) → slice_index (slice_set bs b v) a ≡ slice_index bs a
unchanged bs b v a size n = elim (cases_lt a 0x800) [
  | inl l ↦ (elim (eqb_tells b a) [
    | inl t ↦ (elim (eqb_tells (slice_index bs a) v) [
      | inl u ↦ same_set bs b v a (subst (λ c. slice_index bs c ≡ v) (sym t.1) u.1)
      | inr u ↦ absurd (n (sym t.1, l, λ e. u.1 (same_Some _ _ e)))
    ])
    | inr t ↦ byte_other bs b v a t.1
  ])
  | inr l ↦ beyond bs b v a (omega arith)
]

-- the address of a byte of a word
abbrev at : ℕ → Bool → ℕ
at x high = if high then 2 * x + 1 else 2 * x

pub low_part : (b0 b1 : ℕ) → b0 < 256 → (b0 + 256 * b1) % 256 ≡ b0
low_part b0 b1 l = omega arith

pub high_part : (b0 b1 : ℕ) → b0 < 256 → (b0 + 256 * b1) / 256 ≡ b1
high_part b0 b1 l = omega arith

same_byte : (one two R : List ℕ) (x : ℕ) (high : Bool) → AreBytes one → AreBytes two → slice_index one (at x high) ≡ slice_index two (at x high)
    → fetched_byte one R x high ≡ fetched_byte two R x high
same_byte one two R x high small small2 e = by (nat_lt x 0x400) high e
  where
    by : (s high : Bool) → slice_index one (at x high) ≡ slice_index two (at x high)
        → option_map (λ word. if high then word / 256 else word % 256) (if s then Some (word_in one x) else rom_word R x)
        ≡ option_map (λ word. if high then word / 256 else word % 256) (if s then Some (word_in two x) else rom_word R x)
    by true true e = ap Some (high_part _ _ (small.1 (2 * x)) ∙ (e ∙ sym (high_part _ _ (small2.1 (2 * x)))))
    by true false e = ap Some (low_part _ _ (small.1 (2 * x)) ∙ (e ∙ sym (low_part _ _ (small2.1 (2 * x)))))
    by false high e = refl

pub same_word : (one two R : List ℕ) (x : ℕ) → slice_index one (2 * x) ≡ slice_index two (2 * x) → slice_index one (2 * x + 1) ≡ slice_index two (2 * x + 1)
    → fetched one R x ≡ fetched two R x
same_word one two R x e f = by (nat_lt x 0x400)
  where
    by : (s : Bool) → (if s then Some (word_in one x) else rom_word R x) ≡ (if s then Some (word_in two x) else rom_word R x)
    by true = ap Some (ap (λ v. v + 256 * slice_index one (2 * x + 1)) e ∙ ap (λ v. slice_index two (2 * x) + 256 * v) f)
    by false = refl

map_all : {T : Type 0} {P Q : T → Type 0} → ((t : T) → P t → Q t) → (ts : List T) → AllByRecursion P ts → AllByRecursion Q ts
map_all f [] h = tt
map_all f (t ∷ ts) h = (f t h.0, map_all f ts h.1)

-- a fetch that meets a word, where the low byte waits and the high one is as in another memory
met_word : (now mem R : List ℕ) (low : Option ℕ) (x w l : ℕ) → met low (fetched_byte now R x (is_some low)) ≡ Whole (Some w) → low ≡ Some l
    → fetched_byte now R x true ≡ fetched_byte mem R x true → fetched_byte mem R x false ≡ Some l → fetched mem R x ≡ Some w
met_word now mem R None x w l m e same there = absurd (none-some l e)
met_word now mem R (Some k) x w l m e same there =
    whole_met mem R (Some k) x w l (ap (met (Some k)) (sym same) ∙ m) e there

pub wanted_same : {told : List Told} {a b : ℕ} → IsWanted told a → IsWanted told b → a ≡ b
wanted_same f g =
    let e = leaves_same f.leaves g.leaves in
    let p = wants_open f.run _ f.wanted in
    let q = wants_open g.run _ g.wanted in
    p.1 ∙ (ap (λ r. wanted r.visits r.held) e ∙ sym q.1)

low_of : (low : Option (ℕ × ℕ)) (l : ℕ) → option_map (λ w. w.1) low ≡ Some l → (y : ℕ) × (low ≡ Some (y, l))
low_of None l e = absurd (none-some l e)
low_of (Some low) l e = (low.0, ap (λ b. Some (low.0, b)) (same_Some _ _ e))

cons_parts : {k l : Line} {ks ls : Log} → k ∷ ks ≡ l ∷ ls → (k ≡ l) × (ks ≡ ls)
cons_parts e = (cc, cc)

module _ (R image : List ℕ) (small : IsImage image) where
  pub are_bytes : (log : Log) → Throughout (FetchesMemory R image) log → AreBytes (ram image log)
  are_bytes [] p = image_bytes image small
  are_bytes ((ResetAll bytes ⟼ Cleared) ∷ log) p = image_bytes bytes p.0
  are_bytes ((ResetAll bytes ⟼ entry) ∷ log) p = absurd p.0
  are_bytes ((Tick ⟼ Acted (Wrote b v)) ∷ log) p = bytes_set (ram image log) b v p.0 (are_bytes log p.1)
  are_bytes ((event ⟼ Acted (Wrote b v)) ∷ log) p = absurd p.0
  are_bytes ((event ⟼ entry) ∷ log) p = are_bytes log p.1

  -- a word that was fetched is one of this memory, and both its bytes were read
  abbrev Word : List ℕ → Log → ℕ × ℕ → Type 0
  Word mem log f = (fetched mem R f.0 ≡ Some f.1) × HasRead (2 * f.0) log × HasRead (2 * f.0 + 1) log

  -- the low byte that waits is one of this memory, of the word that is wanted, and was read
  abbrev LowByte : List ℕ → Log → Type 0
  LowByte mem log = (y l : ℕ) → waiting log ≡ Some (y, l) → IsWanted (history R image log) y × (fetched_byte mem R y false ≡ Some l) × HasRead (2 * y) log

  record Now (log : Log) (ws : List (ℕ × ℕ)) : Type 0 where
    words : AllByRecursion (Word (ram image log) log) ws
    low : LowByte (ram image log) log

  -- a line that leaves memory, run and low byte
  abbrev Passes : Log → Happening → Shown → List (ℕ × ℕ) → Type 0
  Passes log event entry ws = ((a : ℕ) → HasRead a log → HasRead a ((event ⟼ entry) ∷ log)) → ram image ((event ⟼ entry) ∷ log) ≡ ram image log
      → waiting ((event ⟼ entry) ∷ log) ≡ waiting log → history R image ((event ⟼ entry) ∷ log) ≡ history R image log → Now ((event ⟼ entry) ∷ log) ws

  passes : (log : Log) (event : Happening) (entry : Shown) (ws : List (ℕ × ℕ)) → Now log ws → Passes log event entry ws
  passes log event entry ws n more mem low told = record {
    words = map_all (λ f t. (ap (λ m. fetched m R f.0) mem ∙ t.0, more _ t.1, more _ t.2)) ws n.words;
    low = λ y l e.
        let t = n.low y l (sym low ∙ e) in
        (subst (λ h. IsWanted h y) (sym told) t.0, ap (λ m. fetched_byte m R y false) mem ∙ t.1, more _ t.2);
  }

  wrote_now : (log : Log) (b v : ℕ) (ws : List (ℕ × ℕ)) → v < 256 → AreBytes (ram image log) → ((a : ℕ) → HasRead a log → ¬ Changes (stands image) a log (Acted (Wrote b v))) → Now log ws → Now ((Tick ⟼ Acted (Wrote b v)) ∷ log) ws
  wrote_now log b v ws l bytes still n = record {
    words = map_all (λ f t. (same_word (slice_set (ram image log) b v) (ram image log) R f.0 (stays _ t.1) (stays _ t.2) ∙ t.0, inr t.1, inr t.2)) ws n.words;
    low = λ y k e.
        let t = n.low y k e in
        (t.0, same_byte (slice_set (ram image log) b v) (ram image log) R y false (bytes_set (ram image log) b v l bytes) bytes (stays _ t.2) ∙ t.1, inr t.2);
  }
    where
      stays : (a : ℕ) → HasRead a log → slice_index (slice_set (ram image log) b v) a ≡ slice_index (ram image log) a
      stays a h = unchanged (ram image log) b v a bytes.0 (still a h)

  low_now : (log : Log) (x b : ℕ) (ws : List (ℕ × ℕ)) → Fits R image log Fetch (Low x b) → Now log ws → Now ((Fetch ⟼ Low x b) ∷ log) ws
  low_now log x b ws f n = record {
    words = map_all (λ f t. (t.0, inr t.1, inr t.2)) ws n.words;
    low = λ y l e. subst P (same_Some _ _ e) (f.1, there, inl (some_read (low_reads log x b)));
  }
    where
      there : fetched_byte (ram image log) R x false ≡ Some b
      there = (low_met (ram image log) R (low_byte log) x b f.0).1

      P : ℕ × ℕ → Type 0
      P = λ low. IsWanted (history R image log) low.0 × (fetched_byte (ram image log) R low.0 false ≡ Some low.1) × ((reads log (Low x b) (2 * low.0) ≢ None) ⊎ HasRead (2 * low.0) log)

  word_now : (log : Log) (x w : ℕ) (ws : List (ℕ × ℕ)) → meets R image log x ≡ Whole (Some w) → IsWanted (history R image log) x → Now log ws → Word (ram image log) ((Fetch ⟼ Fetched x w) ∷ log) (x, w)
  word_now log x w ws m f n =
      let low = word_met (ram image log) R (low_byte log) x w m in
      let y = low_of (waiting log) low.0 low.1 in
      let t = n.low y.0 low.0 y.1 in
      let same : y.0 ≡ x = wanted_same t.0 f in
      let there = subst (λ u. fetched_byte (ram image log) R u false ≡ Some low.0) same t.1 in
      (whole_met (ram image log) R (low_byte log) x w low.0 m low.1 there, inr (subst (λ u. HasRead (2 * u) log) same t.2), inl (some_read (high_reads (waits (waiting log) x) x w)))

  now : (log : Log) → Throughout (FetchesMemory R image) log → StillStands (stands image) log → (ws : List (ℕ × ℕ)) → open_run log ≡ Some ws → Now log ws
  now [] p s ws o = absurd (none-some ws o)
  now ((Strobe ⟼ Started) ∷ log) p s ws o = record { words = subst (AllByRecursion (Word (ram image log) ((Strobe ⟼ Started) ∷ log))) (same_Some _ _ o) tt; low = λ y l e. absurd (none-some (y, l) e) }
  now ((event ⟼ Started) ∷ log) p s ws o = absurd p.0
  now ((ResetGen ⟼ entry) ∷ log) p s ws o = absurd (none-some ws o)
  now ((ResetAll bytes ⟼ entry) ∷ log) p s ws o = absurd (none-some ws o)
  now ((event ⟼ Done x w drew) ∷ log) p s ws o = absurd (none-some ws o)
  now ((event ⟼ Broke x fault) ∷ log) p s ws o = absurd (none-some ws o)
  now ((Tick ⟼ Acted (Wrote b v)) ∷ log) p s ws o = wrote_now log b v ws p.0 (are_bytes log p.1) s.0 (now log p.1 s.1 ws o)
  now ((Fetch ⟼ Low x b) ∷ log) p s ws o = low_now log x b ws p.0 (now log p.1 s.1 ws o)
  now ((Fetch ⟼ Fetched x w) ∷ log) p s ws o =
      let q = more_parts (x, w) (open_run log) ws o in
      let n = now log p.1 s.1 q.0 q.1 in
      record {
        words = subst (AllByRecursion (Word (ram image log) ((Fetch ⟼ Fetched x w) ∷ log))) q.2
            (word_now log x w q.0 p.0.0 p.0.1.asked n, map_all (λ f t. (t.0, inr t.1, inr t.2)) q.0 n.words);
        low = λ y l e. absurd (none-some (y, l) e);
      }
  now ((event ⟼ Acted (Wrote b v)) ∷ log) p s ws o = absurd p.0
  now ((event ⟼ Low x b) ∷ log) p s ws o = absurd p.0
  now ((event ⟼ Fetched x w) ∷ log) p s ws o = absurd p.0
  now ((event ⟼ entry) ∷ log) p s ws o = passes log event entry ws (now log p.1 s.1 ws o) (λ a h. inr h) refl refl refl

  -- a byte that didn't change is as it was at the moment
  pub as_then : (part moment : Log) → Throughout (FetchesMemory R image) (part ++ moment) → Throughout (ReadsThen (stands image) moment) part → (ws : List (ℕ × ℕ)) → open_run (part ++ moment) ≡ Some ws
      → (a : ℕ) → ¬ HasChanged (stands image) a part moment → byte image (part ++ moment) a ≡ byte image moment a
  as_then [] moment p r ws o a n = refl
  as_then ((event ⟼ Started) ∷ part) moment p r ws o a n = absurd (r.0.0 refl)
  as_then ((ResetGen ⟼ entry) ∷ part) moment p r ws o a n = absurd (none-some ws o)
  as_then ((ResetAll bytes ⟼ entry) ∷ part) moment p r ws o a n = absurd (none-some ws o)
  as_then ((event ⟼ Done x w drew) ∷ part) moment p r ws o a n = absurd (none-some ws o)
  as_then ((event ⟼ Broke x fault) ∷ part) moment p r ws o a n = absurd (none-some ws o)
  as_then ((event ⟼ Fetched x w) ∷ part) moment p r ws o a n =
      let q = more_parts (x, w) (open_run (part ++ moment)) ws o in as_then part moment p.1 r.1 q.0 q.1 a (λ c. n (inr c))
  as_then ((event ⟼ Acted (Wrote b v)) ∷ part) moment p r ws o a n =
      unchanged (ram image (part ++ moment)) b v a (are_bytes (part ++ moment) p.1).0 (λ c. n (inl c)) ∙ as_then part moment p.1 r.1 ws o a (λ c. n (inr c))
  as_then ((event ⟼ entry) ∷ part) moment p r ws o a n = as_then part moment p.1 r.1 ws o a (λ c. n (inr c))

  -- what a run fetched is in the moment's memory
  record Then (log moment : Log) (ws : List (ℕ × ℕ)) : Type 0 where
    words : AllByRecursion (λ f. fetched (ram image moment) R f.0 ≡ Some f.1) ws
    low : (y l : ℕ) → waiting log ≡ Some (y, l) → IsWanted (history R image log) y × (fetched_byte (ram image moment) R y false ≡ Some l)

  goes_on : (log new moment : Log) (ws : List (ℕ × ℕ)) → Then log moment ws → waiting new ≡ waiting log → history R image new ≡ history R image log → Then new moment ws
  goes_on log new moment ws t low told = record {
    words = t.words;
    low = λ y l e. let k = t.low y l (sym low ∙ e) in (subst (λ h. IsWanted h y) (sym told) k.0, k.1);
  }

  played_moment : (part moment : Log) → Throughout (FetchesMemory R image) (part ++ moment) → Throughout (FetchesMemory R image) moment
  played_moment [] moment p = p
  played_moment ((event ⟼ entry) ∷ part) moment p = played_moment part moment p.1

  module _ (part moment : Log) (p : Throughout (FetchesMemory R image) (part ++ moment)) (r : Throughout (ReadsThen (stands image) moment) part) (ws : List (ℕ × ℕ)) (o : open_run (part ++ moment) ≡ Some ws) where
    -- a byte that a line reads, which hasn't changed since
    byte_then : (x : ℕ) (high : Bool) → ¬ HasChanged (stands image) (at x high) part moment → fetched_byte (ram image (part ++ moment)) R x high ≡ fetched_byte (ram image moment) R x high
    byte_then x high n =
        same_byte (ram image (part ++ moment)) (ram image moment) R x high (are_bytes (part ++ moment) p) (are_bytes moment (played_moment part moment p))
        (as_then part moment p r ws o (at x high) n)

    low_then : (x b : ℕ) → Fits R image (part ++ moment) Fetch (Low x b) → ¬ HasChanged (stands image) (2 * x) part moment → Then (part ++ moment) moment ws → Then ((Fetch ⟼ Low x b) ∷ part ++ moment) moment ws
    low_then x b f n t = record {
      words = t.words;
      low = λ y l e. subst P (same_Some _ _ e) (f.1, sym (byte_then x false n) ∙ (low_met (ram image (part ++ moment)) R (low_byte (part ++ moment)) x b f.0).1);
    }
      where
        P : ℕ × ℕ → Type 0
        P = λ low. IsWanted (history R image (part ++ moment)) low.0 × (fetched_byte (ram image moment) R low.0 false ≡ Some low.1)

    word_then : (x w : ℕ) → meets R image (part ++ moment) x ≡ Whole (Some w) → IsWanted (history R image (part ++ moment)) x → ¬ HasChanged (stands image) (2 * x + 1) part moment
        → Then (part ++ moment) moment ws → fetched (ram image moment) R x ≡ Some w
    word_then x w m f n t =
        let low = word_met (ram image (part ++ moment)) R (low_byte (part ++ moment)) x w m in
        let y = low_of (waiting (part ++ moment)) low.0 low.1 in
        let k = t.low y.0 low.0 y.1 in
        let same : y.0 ≡ x = wanted_same k.0 f in
        met_word (ram image (part ++ moment)) (ram image moment) R (low_byte (part ++ moment)) x w low.0 m low.1 (byte_then x true n)
        (subst (λ u. fetched_byte (ram image moment) R u false ≡ Some low.0) same k.1)

  was_then : (part moment : Log) → Throughout (FetchesMemory R image) (part ++ moment) → StillStands (stands image) moment → Throughout (ReadsThen (stands image) moment) part → (ws : List (ℕ × ℕ)) → open_run (part ++ moment) ≡ Some ws
      → Then (part ++ moment) moment ws
  was_then [] moment p s r ws o = let n = now moment p s ws o in record { words = map_all (λ f t. t.0) ws n.words; low = λ y l e. let k = n.low y l e in (k.0, k.1) }
  was_then ((event ⟼ Started) ∷ part) moment p s r ws o = absurd (r.0.0 refl)
  was_then ((ResetGen ⟼ entry) ∷ part) moment p s r ws o = absurd (none-some ws o)
  was_then ((ResetAll bytes ⟼ entry) ∷ part) moment p s r ws o = absurd (none-some ws o)
  was_then ((event ⟼ Done x w drew) ∷ part) moment p s r ws o = absurd (none-some ws o)
  was_then ((event ⟼ Broke x fault) ∷ part) moment p s r ws o = absurd (none-some ws o)
  was_then ((Fetch ⟼ Low x b) ∷ part) moment p s r ws o =
      low_then part moment p.1 r.1 ws o x b p.0 (r.0.1 (2 * x) (some_read (low_reads (part ++ moment) x b))) (was_then part moment p.1 s r.1 ws o)
  was_then ((Fetch ⟼ Fetched x w) ∷ part) moment p s r ws o =
      let q = more_parts (x, w) (open_run (part ++ moment)) ws o in
      let t = was_then part moment p.1 s r.1 q.0 q.1 in
      let high = some_read (high_reads (waits (waiting (part ++ moment)) x) x w) in
      record {
        words = subst (AllByRecursion (λ f. fetched (ram image moment) R f.0 ≡ Some f.1)) q.2
            (word_then part moment p.1 r.1 q.0 q.1 x w p.0.0 p.0.1.asked (r.0.1 (2 * x + 1) high) t, t.words);
        low = λ y l e. absurd (none-some (y, l) e);
      }
  was_then ((event ⟼ Low x b) ∷ part) moment p s r ws o = absurd p.0
  was_then ((event ⟼ Fetched x w) ∷ part) moment p s r ws o = absurd p.0
  was_then ((event ⟼ entry) ∷ part) moment p s r ws o = goes_on (part ++ moment) ((event ⟼ entry) ∷ part ++ moment) moment ws (was_then part moment p.1 s r.1 ws o) refl refl

  -- a run whose words are those of a memory is one over this memory
  run_over : (mem : ℕ → Option ℕ) (log : Log) → Throughout (FetchesMemory R image) log → (ws : List (ℕ × ℕ)) → open_run log ≡ Some ws → AllByRecursion (λ f. mem f.0 ≡ Some f.1) ws
      → {run : Newest} → Leaves (history R image log) run → Runs mem (length ws) run.visits run.held
  run_over mem [] p ws o h l = absurd (none-some ws o)
  run_over mem ((Strobe ⟼ Started) ∷ log) p ws o h (starts l) = subst (λ us. Runs mem (length us) [] None) (same_Some _ _ o) begins
  run_over mem ((Fetch ⟼ Fetched x w) ∷ log) p ws o h (takes {run = run} {visits = vs} {held = held} l is_open adds) =
      let q = more_parts (x, w) (open_run log) ws o in
      let all = subst (AllByRecursion (λ f. mem f.0 ≡ Some f.1)) (sym q.2) h in
      let r = run_over mem log p.1 q.0 q.1 all.1 l in
      let f = p.0.1.asked in
      let e = leaves_same f.leaves l in
      let want = (wants_open f.run x f.wanted).1 ∙ ap (λ n. wanted n.visits n.held) e in
      let here : mem (wanted run.visits run.held) ≡ Some w = subst (λ a. mem a ≡ Some w) want all.0 in
      subst (λ us. Runs mem (length us) vs held) q.2 (fetches r (open_goes l is_open) here adds)
  run_over mem ((event ⟼ Started) ∷ log) p ws o h l = absurd p.0
  run_over mem ((ResetGen ⟼ entry) ∷ log) p ws o h l = absurd (none-some ws o)
  run_over mem ((ResetAll bytes ⟼ entry) ∷ log) p ws o h l = absurd (none-some ws o)
  run_over mem ((event ⟼ Done x w drew) ∷ log) p ws o h l = absurd (none-some ws o)
  run_over mem ((event ⟼ Broke x fault) ∷ log) p ws o h l = absurd (none-some ws o)
  run_over mem ((event ⟼ Fetched x w) ∷ log) p ws o h l = absurd p.0
  run_over mem ((event ⟼ entry) ∷ log) p ws o h l = run_over mem log p.1 ws o h l

  -- how the last word is added
  ends : (mem : ℕ → Option ℕ) (told : List Told) (x w : ℕ) (drew : List Stroke) (n : ℕ) (f : IsFetch told x (Some w) (Drew drew)) (run : Newest) → Leaves told run → Runs mem n run.visits run.held → mem x ≡ Some w
      → Finishes mem run.first drew (suc n)
  ends mem told x w drew n f run l r here = by f.later f.leaves_later f.replies
    where
      by : (later : Newest) → Leaves (Fed (Some w) ∷ told) later → reply (Some w) later ≡ Drew drew → Finishes mem run.first drew (suc n)
      by later (takes {run = other} {visits = vs} {held = held} m is_open adds) rep =
          let e : other ≡ run = leaves_same m l in
          let fin = drew_finished held (fate vs) (strokes other.first vs) drew rep in
          let g = leaves_same f.asked.leaves l in
          let want = (wants_open f.asked.run x f.asked.wanted).1 ∙ ap (λ n. wanted n.visits n.held) g in
          let adds2 : Adds run.visits run.held w vs held = subst (λ y. Adds y.visits y.held w vs held) e adds in
          let opened : run.is_open ≡ true = ap (λ y. y.is_open) (sym e) ∙ is_open in
          let all : Runs mem (suc n) vs held = fetches r (open_goes l opened) (subst (λ a. mem a ≡ Some w) want here) adds2 in
          record {
            visits = vs;
            runs = subst (Runs mem (suc n) vs) fin.0 all;
            finished = fin.1;
            strokes = ap (λ y. strokes y.first vs) (sym e) ∙ fin.2;
          }

  line_draws : (part moment : Log) (x w : ℕ) (drew : List Stroke) → Throughout (FetchesMemory R image) (part ++ moment) → Fits R image (part ++ moment) Fetch (Done x w drew)
      → StillStands (stands image) moment → Throughout (ReadsThen (stands image) moment) part → ¬ HasChanged (stands image) (2 * x + 1) part moment
      → (ws : List (ℕ × ℕ)) → open_run (part ++ moment) ≡ Some ws
      → (run : Newest) → Leaves (history R image (part ++ moment)) run → Finishes (fetched (ram image moment) R) run.first drew (suc (length ws))
  line_draws part moment x w drew p f s r n ws o run l =
      let t = was_then part moment p s r ws o in
      let mem = fetched (ram image moment) R in
      ends mem (history R image (part ++ moment)) x w drew (length ws) f.1 run l (run_over mem (part ++ moment) p ws o t.words l)
      (word_then part moment p r ws o x w f.0 f.1.asked n t)

  done_draws : (log : Log) (x w : ℕ) (drew : List Stroke) → Throughout (FetchesMemory R image) log → Fits R image log Fetch (Done x w drew) → DrewItsMoment (stands image) R image log Fetch (Done x w drew)
  done_draws log x w drew p f ws o since moment m run l = by since m.split m.read_since
    where
      same : (line : Line) (part : Log) → (Fetch ⟼ Done x w drew) ∷ log ≡ line ∷ part ++ moment → Throughout (ReadsThen (stands image) moment) (line ∷ part) → Finishes (fetched (ram image moment) R) run.first drew (suc (length ws))
      same line part e r =
          let d = cons_parts e in
          let r2 : Throughout (ReadsThen (stands image) moment) ((Fetch ⟼ Done x w drew) ∷ part) = subst (λ k. Throughout (ReadsThen (stands image) moment) (k ∷ part)) (sym d.0) r in
          let P : Log → Type 0 = λ k. Throughout (FetchesMemory R image) k in
          let Q : Log → Type 0 = λ k. Fits R image k Fetch (Done x w drew) in
          let O : Log → Type 0 = λ k. open_run k ≡ Some ws in
          let L : Log → Type 0 = λ k. Leaves (history R image k) run in
          line_draws part moment x w drew (subst P d.1 p) (subst Q d.1 f) m.read_before r2.1 (r2.0.1 (2 * x + 1) (some_read (high_reads (waits (waiting (part ++ moment)) x) x w))) ws (subst O d.1 o) run (subst L d.1 l)

      by : (since : Log) → (Fetch ⟼ Done x w drew) ∷ log ≡ since ++ moment → Throughout (ReadsThen (stands image) moment) since → Finishes (fetched (ram image moment) R) run.first drew (suc (length ws))
      by [] e r =
          let s : StillStands (stands image) ((Fetch ⟼ Done x w drew) ∷ log) = subst (StillStands (stands image)) (sym e) m.read_before in
          subst (λ now. Finishes (fetched (ram image now) R) run.first drew (suc (length ws))) e
          (line_draws [] log x w drew p f s.1 tt (λ c. c) ws o run l)
      by (line ∷ part) e r = same line part e r

  all_draw : (log : Log) → Throughout (FetchesMemory R image) log → Throughout (DrewItsMoment (stands image) R image) log
  all_draw [] p = tt
  all_draw ((Fetch ⟼ Done x w drew) ∷ log) p = (done_draws log x w drew p.1 p.0, all_draw log p.1)
  all_draw ((event ⟼ Done x w drew) ∷ log) p = absurd p.0
  all_draw ((event ⟼ entry) ∷ log) p = (tt, all_draw log p.1)

pub draws_the_moment : DrawsTheMoment stands
draws_the_moment R image log small p = all_draw R image small log p
