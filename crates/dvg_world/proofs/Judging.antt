-- A judge that goes over a log.
use Rattle.std.proofs.Common.{◌≡◌, ◌≢◌, ℕ, ◌+◌, ◌<◌, ◌/◌, ◌%◌, List, [], ◌∷◌, ◌++◌, map, take, drop, reverse, length, get_or, Option, Some, None, refl, sym, ap, ◌∙◌, subst, arith, min, ⊎_elim}
use Rattle.std.specs.Prelude.{option_map}
use Rattle.std.specs.List.{zip}
use Rattle.std.proofs.lemmas.List.{reverse-append, map-append, take-append-drop, length-map, length-take-le, take_more}
use Rattle.std.proofs.lemmas.Bool.{cases_lt}
use Rattle.std.proofs.Math.ListN.{drop_of_length-le, get_or-map}
use Rattle.dvg_mem.specs.declared.half.Half.{Half}
use Rattle.dvg_mem.specs.Areas.{IsInHalf}
use Rattle.dvg_driver.specs.declared.action.Action.TheVariants.{Wrote}
use Rattle.dvg_world.specs.declared.judge.Drawing.{Drawing}
use Rattle.dvg_world.specs.declared.judge.Drawing.TheVariants.{Nothing, Begun, Within}
use Rattle.dvg_world.specs.declared.judge.Judge.{Judge}
use Rattle.dvg_log.specs.Events.{Happening, happening_of}
use Rattle.dvg_log.specs.own.Owned.{OwnEvent}
use Rattle.dvg_log.specs.declared.event.Event.TheVariants.{ResetGen, ResetAll}
use Rattle.dvg_log.specs.Entries.{Shown, shown_of}
use Rattle.dvg_log.specs.own.Owned.{OwnEntry}
use Rattle.dvg_log.specs.declared.entry.Entry.TheVariants.{Acted, Started}
use Rattle.dvg_log.specs.Headline.{SparesDrawn}
use Rattle.dvg_log.specs.Log.{◌⟼◌, Line, Log, Throughout, open_run, IsBeingDrawn}
use Rattle.dvg_log.specs.Legal.{IsLegal}
use Rattle.dvg_world.specs.Runs.{log_of}
use Rattle.dvg_log.specs.Torn.{IsFirstTorn, IsTorn, IsUntorn}
use Rattle.dvg_world.specs.Judging.{FitsRun, IsRunIn, StandsAfter}
use Rattle.dvg_world.specs.own.Leaving.{run_after, left_by}
use Rattle.dvg_theorem.proofs.Headline.{never_torn}
use Rattle.dvg_world.proofs.WholeRuns.{log_of-more, log_of-none}

abbrev Run : Type 0
Run = Option (List (ℕ × ℕ))

-- what is drawn in a log is what its open run draws
within_of : (log : Log) {half : Half} → IsBeingDrawn log half → IsRunIn (open_run log) half
within_of log drawn = record { later = drawn.later; target = drawn.target; fetches = drawn.fetches; in_half = drawn.in_half }

-- a run whose first word is a jump to a half draws it
pub first_within : {half : Half} (address word : ℕ) → address ≡ 0 → word / 4096 ≡ 14 → IsInHalf half (word % 4096) → IsRunIn (Some ((address, word) ∷ [])) half
first_within address word zero jump in_half =
    let is : word ≡ 0xE000 + word % 4096 = omega arith in
    record {
      later = [];
      target = word % 4096;
      fetches = ap (λ a. Some ((a, word) ∷ [])) zero ∙ ap (λ w. Some ((0, w) ∷ [])) is;
      in_half = in_half;
    }

-- a run that has fetched nothing draws no half
not_none : (later : List (ℕ × ℕ)) (first : ℕ × ℕ) → Some [] ≢ Some (later ++ first ∷ [])
not_none [] first e = cc
not_none (fetch ∷ later) first e = cc

none_begun : (run : Run) {half : Half} → run ≡ Some [] → ¬ IsRunIn run half
none_begun run begun within = not_none within.later (0, 0xE000 + within.target) (sym begun ∙ within.fetches)

-- one fetch less, where the run had another before
newest_off : (fetch other : ℕ × ℕ) (fetches later : List (ℕ × ℕ)) (first : ℕ × ℕ) → Some (fetch ∷ other ∷ fetches) ≡ Some (later ++ first ∷ [])
    → (older : List (ℕ × ℕ)) × (Some (other ∷ fetches) ≡ Some (older ++ first ∷ []))
newest_off fetch other fetches [] first e = absurd (cc)
newest_off fetch other fetches (newest ∷ later) first e = (later, cc)

one_less : (fetch other : ℕ × ℕ) (fetches : List (ℕ × ℕ)) {half : Half} → IsRunIn (Some (fetch ∷ other ∷ fetches)) half → IsRunIn (Some (other ∷ fetches)) half
one_less fetch other fetches within =
    let less = newest_off fetch other fetches within.later (0, 0xE000 + within.target) within.fetches in
    record { later = less.0; target = within.target; fetches = less.1; in_half = within.in_half }

-- a word that isn't the first leaves what is drawn
pub goes_on : (drawing : Drawing) → (drawing ≡ Begun → ⊥) → (fetch : ℕ × ℕ) (run : Run) → FitsRun drawing run → FitsRun drawing (option_map (λ fetches. fetch ∷ fetches) run)
goes_on Nothing later fetch None draws = draws
goes_on Nothing later fetch (Some []) draws = absurd (draws.0 refl)
goes_on Nothing later fetch (Some (other ∷ fetches)) draws = (λ e. cc, λ half within. draws.1 half (one_less fetch other fetches within))
goes_on Begun later fetch run draws = absurd (later refl)
goes_on (Within half) later fetch run draws = record {
  later = fetch ∷ draws.later;
  target = draws.target;
  fetches = ap (option_map (λ fetches. fetch ∷ fetches)) draws.fetches;
  in_half = draws.in_half;
}

-- where no half is drawn, nothing is torn
none_within : (drawing : Drawing) → ((half : Half) → drawing ≡ Within half → ⊥) → (run : Run) {half : Half} → FitsRun drawing run → ¬ IsRunIn run half
none_within Nothing not run {half} draws within = draws.1 half within
none_within Begun not run draws within = none_begun run draws within
none_within (Within half) not run draws within = not half refl

pub none_torn : (drawing : Drawing) → ((half : Half) → drawing ≡ Within half → ⊥) → (log : Log) (event : Happening) (entry : Shown) → FitsRun drawing (open_run ((event ⟼ entry) ∷ log)) → ¬ IsTorn log event entry
none_torn drawing not log event (Acted (Wrote a byte)) draws torn =
    none_within drawing not (open_run ((event ⟼ Acted (Wrote a byte)) ∷ log)) draws (within_of ((event ⟼ Acted (Wrote a byte)) ∷ log) torn.1)
none_torn drawing not log event entry draws torn = absurd torn

-- the open run after a line
open_run_after : (log : Log) (event : Happening) (entry : Shown) → run_after entry (left_by event (open_run log)) ≡ open_run ((event ⟼ entry) ∷ log)
open_run_after log event Started = refl
open_run_after log ResetGen entry = refl
open_run_after log (ResetAll bytes) entry = refl
open_run_after log event entry = refl

-- what is drawn after a line
pub drawn_after : (old left new : Drawing) (log : Log) (event : Happening) (entry : Shown) → FitsRun old (open_run log) → ((run : Run) → FitsRun old run → FitsRun left (left_by event run))
    → ((run : Run) → FitsRun left run → FitsRun new (run_after entry run)) → FitsRun new (open_run ((event ⟼ entry) ∷ log))
drawn_after old left new log event entry draws leaves goes =
    subst (FitsRun new) (open_run_after log event entry) (goes (left_by event (open_run log)) (leaves (open_run log) draws))

-- ---- the log of a part of the entries

zip-append : {A B : Type 0} (xs : List A) (ys zs : List B) → zip xs (ys ++ zs) ≡ zip xs ys ++ zip (drop (length ys) xs) zs
zip-append [] [] zs = refl
zip-append [] (y ∷ ys) zs = refl
zip-append (x ∷ xs) [] zs = refl
zip-append (x ∷ xs) (y ∷ ys) zs = ap (λ pairs. (x, y) ∷ pairs) (zip-append xs ys zs)

abbrev line_of : {A : Type 0} → Happening × OwnEntry A → Line
line_of line = line.0 ⟼ shown_of line.1

-- some entries more are some lines more
log_of-append : {A : Type 0} (events : List Happening) (entries more : List (OwnEntry A))
    → log_of events (entries ++ more) ≡ reverse (map line_of (zip (drop (length entries) events) more)) ++ log_of events entries
log_of-append events entries more =
    ap (λ pairs. reverse (map line_of pairs)) (zip-append events entries more)
    ∙ (ap reverse (map-append line_of (zip events entries) (zip (drop (length entries) events) more))
    ∙ reverse-append (map line_of (zip events entries)) (map line_of (zip (drop (length entries) events) more)))

-- what holds after this many lines: what is drawn, and that none is torn
pub record IsJudged {A : Type 0} (events : List Happening) (entries : List (OwnEntry A)) (n : ℕ) (judge : Judge) : Type 0 where
  pub stands : StandsAfter judge (log_of events (take n entries))
  pub whole : Throughout IsUntorn (log_of events (take n entries))
  pub count : length (log_of events (take n entries)) ≡ n

pub none_judged : {A : Type 0} (events : List Happening) (entries : List (OwnEntry A)) (judge : Judge) → StandsAfter judge [] → IsJudged events entries 0 judge
none_judged {A} events entries judge stands = record {
  stands = subst (StandsAfter judge) (sym (log_of-none A events)) stands;
  whole = subst (Throughout IsUntorn) (sym (log_of-none A events)) tt;
  count = ap length (log_of-none A events);
}

-- one more line
module _ {A : Type 0} (events : List (OwnEvent A)) (entries : List (OwnEntry A)) (n : ℕ) (event : OwnEvent A) (entry : OwnEntry A)
    (inside : n < min (length events) (length entries)) (is_event : event ≡ get_or events n event) (is_entry : entry ≡ get_or entries n entry) where
  abbrev happenings : List Happening
  happenings = map happening_of events

  -- the log before it, the line, and the log with it
  abbrev pub before : Log
  before = log_of happenings (take n entries)

  abbrev line : Line
  line = happening_of event ⟼ shown_of entry

  so_many : length (take n entries) ≡ n
  so_many = length-take-le n entries (omega (arith, inside))

  in_events : length (take n entries) < length happenings
  in_events = let same = length-map events happening_of in omega (arith, inside, so_many, same)

  is_happening : happening_of event ≡ get_or happenings (length (take n entries)) (happening_of event)
  is_happening = ap happening_of is_event ∙ sym (get_or-map happening_of events n event) ∙ ap (λ k. get_or happenings k (happening_of event)) (sym so_many)

  more : take (n + 1) entries ≡ take n entries ++ entry ∷ []
  more = take_more entries n entry (omega (arith, inside)) ∙ ap (λ last. take n entries ++ last ∷ []) (sym is_entry)

  one_line : line ∷ before ≡ log_of happenings (take (n + 1) entries)
  one_line = log_of-more happenings (take n entries) (happening_of event) entry in_events is_happening ∙ ap (log_of happenings) (sym more)

  pub judged_more : (old new : Judge) → IsJudged happenings entries n old → StandsAfter new (line ∷ before) → IsUntorn before (happening_of event) (shown_of entry)
      → IsJudged happenings entries (n + 1) new
  judged_more old new judged stands whole = record {
    stands = subst (StandsAfter new) one_line stands;
    whole = subst (Throughout IsUntorn) one_line (whole, judged.whole);
    count = let longer = ap length one_line in let count = judged.count in omega (arith, longer, count);
  }

  pub torn_here : (old : Judge) → IsJudged happenings entries n old → IsTorn before (happening_of event) (shown_of entry) → IsFirstTorn (log_of happenings entries) n
  torn_here old judged torn =
      let rest = drop (n + 1) entries in
      let later = reverse (map line_of (zip (drop (length (take (n + 1) entries)) happenings) rest)) in
      record {
        later = later;
        event = happening_of event;
        entry = shown_of entry;
        before = before;
        split = ap (log_of happenings) (sym (take-append-drop (n + 1) entries)) ∙ log_of-append happenings (take (n + 1) entries) rest ∙ ap (λ log. later ++ log) (sym one_line);
        at = judged.count;
        torn = torn;
        untorn = judged.whole;
      }

-- after the last line, none is torn
no_zip : {A B : Type 0} (xs : List A) → zip {X = B} xs [] ≡ []
no_zip [] = refl
no_zip (x ∷ xs) = refl

pub all_judged : {A : Type 0} (given : List (OwnEvent A)) (entries : List (OwnEntry A)) {n : ℕ} {judge : Judge} → n ≡ min (length given) (length entries) → IsJudged (map happening_of given) entries n judge
    → Throughout IsUntorn (log_of (map happening_of given) entries)
all_judged given entries {n} is_least judged =
    let events = map happening_of given in
    let least : n ≡ min (length events) (length entries) = is_least ∙ ap (λ k. min k (length entries)) (sym (length-map given happening_of)) in
    let so_many = length-take-le n entries (omega (arith, least)) in
    let none = ⊎_elim {C = zip (drop (length (take n entries)) events) (drop n entries) ≡ []}
    (λ few. ap (λ left. zip left (drop n entries)) (drop_of_length-le events (omega (arith, few, least, so_many))))
    (λ many. ap (zip (drop (length (take n entries)) events)) (drop_of_length-le entries (omega (arith, many, least))) ∙ no_zip (drop (length (take n entries)) events))
    (cases_lt (length events) (length entries)) in
    let same : log_of events entries ≡ log_of events (take n entries) =
    ap (log_of events) (sym (take-append-drop n entries)) ∙ log_of-append events (take n entries) (drop n entries)
    ∙ ap (λ pairs. reverse (map line_of pairs) ++ log_of events (take n entries)) none in
    subst (Throughout IsUntorn) (sym same) judged.whole

-- ---- a legal log isn't torn

older : (log : Log) (event : Happening) (a byte : ℕ) {half : Half} → IsBeingDrawn ((event ⟼ Acted (Wrote a byte)) ∷ log) half → IsBeingDrawn log half
older log ResetGen a byte drawn = let e = drawn.fetches in absurd (cc)
older log (ResetAll bytes) a byte drawn = let e = drawn.fetches in absurd (cc)
older log event a byte drawn = record { later = drawn.later; target = drawn.target; fetches = drawn.fetches; in_half = drawn.in_half }

spared : (log : Log) (event : Happening) (entry : Shown) → SparesDrawn log event entry → IsUntorn log event entry
spared log event (Acted (Wrote a byte)) spares = λ torn. spares torn.0 (older log event a byte torn.1) torn.2
spared log event entry spares = λ torn. absurd torn

there : (P : Log → Happening → Shown → Type 0) (later : Log) (event : Happening) (entry : Shown) (log : Log) → Throughout P (later ++ (event ⟼ entry) ∷ log) → P log event entry
there P [] event entry log all = all.0
there P ((newer ⟼ shown) ∷ later) event entry log all = there P later event entry log all.1

pub legal_is_untorn : (R image : List ℕ) (log : Log) {n : ℕ} → IsLegal R image log → ¬ IsFirstTorn log n
legal_is_untorn R image log legal torn =
    let all = subst (Throughout SparesDrawn) torn.split (never_torn R image log legal) in
    spared torn.before torn.event torn.entry (there SparesDrawn torn.later torn.event torn.entry torn.before all) torn.torn
