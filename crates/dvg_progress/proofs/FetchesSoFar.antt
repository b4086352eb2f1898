-- How many fetches an open run has had.
use Rattle.std.proofs.Common.{◌≡◌, ℕ, suc, ◌+◌, ◌*◌, ◌<◌, List, [], ◌∷◌, length, Option, Some, None, refl, sym, ap, ◌∙◌, subst, arith}
use Rattle.std.specs.Prelude.{◌≢◌, option_map}
use Rattle.std.proofs.lemmas.Option.{none-some, same_Some}
use Rattle.dvg_gen.specs.declared.stroke.Stroke.{Stroke}
use Rattle.dvg_frame.specs.declared.op.OpKind.{OpKind}
use Rattle.dvg_frame.specs.Picture.{IsBound}
use Rattle.dvg_log.specs.Events.{Happening}
use Rattle.dvg_log.specs.declared.event.Event.TheVariants.{Offer, Redraw, Tick, Strobe, Fetch, ResetGen, ResetCpu, ResetAll}
use Rattle.dvg_log.specs.Entries.{Shown}
use Rattle.dvg_log.specs.declared.entry.Entry.TheVariants.{Offered, Refused, Busy, Asked, NothingPublished, Acted, Started, NoStrobe, Low, Fetched, Done, Broke, Still, Cleared}
use Rattle.dvg_log.specs.Log.{◌⟼◌, Log, open_run, low_byte, published}
use Rattle.dvg_log.specs.Legal.{IsLegal}
use Rattle.dvg_log.specs.Headline.{IsShown, fetch_count, EndsAt, KeepsTime}
use Rattle.dvg_theorem.proofs.Headline.{always_in_time}
use Rattle.dvg_theorem.proofs.Shows.{at_zero_fetched}
use Rattle.dvg_theorem.proofs.Words.{words_are_paired}
use Rattle.dvg_progress.specs.Progress.{fetched_since, HaltsInTime}

-- a run with one more fetch had the others
pub more_parts : (w : ℕ × ℕ) (run : Option (List (ℕ × ℕ))) (ws : List (ℕ × ℕ))
    → option_map (λ fetches. w ∷ fetches) run ≡ Some ws → (us : List (ℕ × ℕ)) × (run ≡ Some us)
    × (w ∷ us ≡ ws)
more_parts w None ws e = absurd (none-some ws e)
more_parts w (Some us) ws e = (us, refl, same_Some _ _ e)

not_begun : (v : ℕ × ℕ) (vs : List (ℕ × ℕ)) → Some [] ≡ Some (v ∷ vs) → ⊥
not_begun v vs e = cc

-- fetches are counted two ways
pub counted : (R image : List ℕ) (log : Log) (words : List (ℕ × ℕ)) → IsLegal R image log
    → open_run log ≡ Some words → fetched_since log ≡ fetch_count words (low_byte log)
counted R image [] words l o = absurd (none-some words o)
counted R image ((event ⟼ Started) ∷ log) words l o = subst (λ ws. 0 ≡ fetch_count ws None) (same_Some _ _ o) refl
counted R image ((ResetGen ⟼ entry) ∷ log) words l o = absurd (none-some words o)
counted R image ((ResetAll bytes ⟼ entry) ∷ log) words l o = absurd (none-some words o)
counted R image ((Fetch ⟼ Low a b) ∷ log) words l o =
    let before = counted R image log words l.2 o in
    let paired = (words_are_paired R image ((Fetch ⟼ Low a b) ∷ log) l).0 in
    let none : low_byte log ≡ None = ap (option_map (λ low. low.1)) paired in
    let count : fetch_count words (low_byte log) ≡ 2 * length words = ap (fetch_count words) none in
    omega arith
counted R image ((Fetch ⟼ Fetched a w) ∷ log) words l o =
    let q = more_parts (a, w) (open_run log) words o in
    let before = counted R image log q.0 l.2 q.1 in
    let paired = (words_are_paired R image ((Fetch ⟼ Fetched a w) ∷ log) l).0 in
    let some = ap (option_map (λ low. low.1)) paired in
    let count : fetch_count q.0 (low_byte log) ≡ 2 * length q.0 + 1 = ap (fetch_count q.0) some in
    let longer : suc (length q.0) ≡ length words = ap length q.2 in
    omega arith
counted R image ((Fetch ⟼ Still) ∷ log) words l o = absurd (none-some words (sym l.0 ∙ o))
counted R image ((event ⟼ Done a w drew) ∷ log) words l o = absurd (none-some words o)
counted R image ((event ⟼ Broke a fault) ∷ log) words l o = absurd (none-some words o)
counted R image ((Offer F ⟼ Refused fault) ∷ log) words l o = counted R image log words l.2 o
counted R image ((Offer F ⟼ Busy) ∷ log) words l o = counted R image log words l.2 o
counted R image ((Offer F ⟼ Offered) ∷ log) words l o = counted R image log words l.2 o
counted R image ((Redraw ⟼ NothingPublished) ∷ log) words l o = counted R image log words l.2 o
counted R image ((Redraw ⟼ Busy) ∷ log) words l o = counted R image log words l.2 o
counted R image ((Redraw ⟼ Asked) ∷ log) words l o = counted R image log words l.2 o
counted R image ((Tick ⟼ Acted action) ∷ log) words l o = counted R image log words l.2 o
counted R image ((Strobe ⟼ NoStrobe) ∷ log) words l o = counted R image log words l.2 o
counted R image ((ResetCpu ⟼ Cleared) ∷ log) words l o = counted R image log words l.2 o
counted R image ((event ⟼ entry) ∷ log) words l o = absurd l.0

-- a picture has a word at least
few : (low : Option ℕ) (F : List OpKind) (R : List ℕ) (n : ℕ) → IsBound F R n → fetch_count [] low < 2 * n
few None F R n bound = let count = bound.1.count in omega arith
few (Some byte) F R n bound = let count = bound.1.count in omega arith

-- a fetch that doesn't end the run is before the last one
before_last : (R : List ℕ) (log : Log) (entry : Shown) (words : List (ℕ × ℕ)) (F : List OpKind)
    (n number : ℕ) → KeepsTime R log Fetch entry → open_run log ≡ Some words → IsShown log F
    → IsBound F R n → ((number more : ℕ) (drew : List Stroke) → EndsAt number drew more entry → number < 2 * more)
    → number ≡ suc (fetch_count words (low_byte log)) → number < 2 * n
before_last R log entry words F n number keeps o shown bound ends is =
    let early = ends _ n bound.0 (keeps words F bound.0 n o shown bound.1) in
    omega arith

-- what an open run that has fetched a word shows stays
still_shown : (event : Happening) (entry : Shown) (log : Log) (v : ℕ × ℕ) (vs : List (ℕ × ℕ))
    (F : List OpKind) → open_run ((event ⟼ entry) ∷ log) ≡ Some (v ∷ vs)
    → IsShown ((event ⟼ entry) ∷ log) F → IsShown log F
still_shown event entry log v vs F o shown =
    subst (λ zero. published zero ≡ Some F) (at_zero_fetched (event ⟼ entry) log v vs o) shown

-- the fetches of an open run are fewer than two for each word of what it shows
under : (R image : List ℕ) (log : Log) (words : List (ℕ × ℕ)) (F : List OpKind) (n : ℕ)
    → IsLegal R image log → open_run log ≡ Some words → IsShown log F → IsBound F R n
    → fetch_count words (low_byte log) < 2 * n
under R image log [] F n l o shown b = few (low_byte log) F R n b
under R image [] (v ∷ vs) F n l o shown b = absurd (none-some (v ∷ vs) o)
under R image ((event ⟼ Started) ∷ log) (v ∷ vs) F n l o shown b = absurd (not_begun v vs o)
under R image ((ResetGen ⟼ entry) ∷ log) (v ∷ vs) F n l o shown b = absurd (none-some (v ∷ vs) o)
under R image ((ResetAll bytes ⟼ entry) ∷ log) (v ∷ vs) F n l o shown b = absurd (none-some (v ∷ vs) o)
under R image ((Fetch ⟼ Low a y) ∷ log) (v ∷ vs) F n l o shown b =
    let line = (Fetch ⟼ Low a y) ∷ log in
    let paired = (words_are_paired R image line l).0 in
    let count : fetch_count (v ∷ vs) (low_byte log) ≡ 2 * length (v ∷ vs) =
    ap (λ low. fetch_count (v ∷ vs) (option_map (λ low. low.1) low)) paired in
    before_last R log (Low a y) (v ∷ vs) F n (2 * length (v ∷ vs) + 1)
    (always_in_time R image line l).0 o (still_shown Fetch (Low a y) log v vs F o shown) b
    (λ number more drew early. early) (omega arith)
under R image ((Fetch ⟼ Fetched a w) ∷ log) (v ∷ vs) F n l o shown b =
    let line = (Fetch ⟼ Fetched a w) ∷ log in
    let q = more_parts (a, w) (open_run log) (v ∷ vs) o in
    let paired = (words_are_paired R image line l).0 in
    let count : fetch_count q.0 (low_byte log) ≡ 2 * length q.0 + 1 =
    ap (λ low. fetch_count q.0 (option_map (λ low. low.1) low)) paired in
    let longer : suc (length q.0) ≡ length (v ∷ vs) = ap length q.2 in
    before_last R log (Fetched a w) q.0 F n (2 * length (v ∷ vs)) (always_in_time R image line l).0
    q.1 (still_shown Fetch (Fetched a w) log v vs F o shown) b (λ number more drew early. early)
    (omega arith)
under R image ((Fetch ⟼ Still) ∷ log) (v ∷ vs) F n l o shown b = absurd (none-some (v ∷ vs) (sym l.0 ∙ o))
under R image ((event ⟼ Done a w drew) ∷ log) (v ∷ vs) F n l o shown b = absurd (none-some (v ∷ vs) o)
under R image ((event ⟼ Broke a fault) ∷ log) (v ∷ vs) F n l o shown b = absurd (none-some (v ∷ vs) o)
under R image ((Offer G ⟼ Refused fault) ∷ log) (v ∷ vs) F n l o shown b =
    under R image log (v ∷ vs) F n l.2 o (still_shown (Offer G) (Refused fault) log v vs F o shown)
    b
under R image ((Offer G ⟼ Busy) ∷ log) (v ∷ vs) F n l o shown b =
    under R image log (v ∷ vs) F n l.2 o (still_shown (Offer G) Busy log v vs F o shown) b
under R image ((Offer G ⟼ Offered) ∷ log) (v ∷ vs) F n l o shown b =
    under R image log (v ∷ vs) F n l.2 o (still_shown (Offer G) Offered log v vs F o shown) b
under R image ((Redraw ⟼ NothingPublished) ∷ log) (v ∷ vs) F n l o shown b =
    under R image log (v ∷ vs) F n l.2 o (still_shown Redraw NothingPublished log v vs F o shown) b
under R image ((Redraw ⟼ Busy) ∷ log) (v ∷ vs) F n l o shown b =
    under R image log (v ∷ vs) F n l.2 o (still_shown Redraw Busy log v vs F o shown) b
under R image ((Redraw ⟼ Asked) ∷ log) (v ∷ vs) F n l o shown b =
    under R image log (v ∷ vs) F n l.2 o (still_shown Redraw Asked log v vs F o shown) b
under R image ((Tick ⟼ Acted action) ∷ log) (v ∷ vs) F n l o shown b =
    under R image log (v ∷ vs) F n l.2 o (still_shown Tick (Acted action) log v vs F o shown) b
under R image ((Strobe ⟼ NoStrobe) ∷ log) (v ∷ vs) F n l o shown b =
    under R image log (v ∷ vs) F n l.2 o (still_shown Strobe NoStrobe log v vs F o shown) b
under R image ((ResetCpu ⟼ Cleared) ∷ log) (v ∷ vs) F n l o shown b =
    under R image log (v ∷ vs) F n l.2 o (still_shown ResetCpu Cleared log v vs F o shown) b
under R image ((event ⟼ entry) ∷ log) (v ∷ vs) F n l o shown b = absurd l.0

pub some_run : (run : Option (List (ℕ × ℕ))) → run ≢ None → (words : List (ℕ × ℕ)) × (run ≡ Some words)
some_run None is_open = absurd (is_open refl)
some_run (Some words) is_open = (words, refl)

pub halts_in_time : HaltsInTime
halts_in_time R image log F n l is_open shown bound =
    let some = some_run (open_run log) is_open in
    let count = counted R image log some.0 l some.1 in
    let few = under R image log some.0 F n l some.1 shown bound in
    omega arith
