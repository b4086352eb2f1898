-- The log of a run, one entry after the other.
use Rattle.std.proofs.Common.{◌≡◌, ℕ, zero, suc, ◌+◌, ◌<◌, List, [], ◌∷◌, ◌++◌, map, reverse, length, get_or, slice_get, Some, refl, sym, ap, ◌∙◌, subst, inr, length-append, not-suc-le-zero, le_of_suc-le-suc, Vec, vec_len, vec_capacity}
use Rattle.std.proofs.lemmas.List.{reverse-append, map-append}
use Rattle.std.proofs.lemmas.Option.{get_or_from_slice_get, slice_get_within}
use Rattle.std.specs.List.{zip}
use Rattle.dvg_log.specs.Events.{Happening}
use Rattle.dvg_log.specs.Entries.{shown_of}
use Rattle.dvg_log.specs.own.Owned.{OwnEntry}
use Rattle.dvg_log.specs.Log.{◌⟼◌}
use Rattle.dvg_log.specs.Legal.{IsLegal}
use Rattle.dvg_world.specs.Runs.{log_of, IsStop}
use Rattle.dvg_world.specs.Standing.{AddsLine, State, WorldAfter}
use Rattle.dvg_world.specs.own.Stepping.{WantsMemory}

-- one more item on the right takes the next one on the left
zip-more : {A B : Type 0} (xs : List A) (ys : List B) (x : A) (y : B) → length ys < length xs → x ≡ get_or xs (length ys) x → zip xs (ys ++ y ∷ []) ≡ zip xs ys ++ (x, y) ∷ []
zip-more [] ys x y inside item = absurd (not-suc-le-zero inside)
zip-more (a ∷ []) [] x y inside item = ap (λ z. (z, y) ∷ []) (sym item)
zip-more (a ∷ b ∷ xs) [] x y inside item = ap (λ z. (z, y) ∷ []) (sym item)
zip-more (a ∷ xs) (b ∷ ys) x y inside item = ap (λ pairs. (a, b) ∷ pairs) (zip-more xs ys x y (le_of_suc-le-suc inside) item)

-- one more entry is one more line
pub log_of-more : {A : Type 0} (events : List Happening) (entries : List (OwnEntry A)) (event : Happening) (entry : OwnEntry A) → length entries < length events → event ≡ get_or events (length entries) event
    → (event ⟼ shown_of entry) ∷ log_of events entries ≡ log_of events (entries ++ entry ∷ [])
log_of-more events entries event entry inside item =
    sym (ap (λ pairs. reverse (map (λ line. line.0 ⟼ shown_of line.1) pairs)) (zip-more events entries event entry inside item)
    ∙ (ap reverse (map-append (λ line. line.0 ⟼ shown_of line.1) (zip events entries) ((event, entry) ∷ []))
    ∙ reverse-append (map (λ line. line.0 ⟼ shown_of line.1) (zip events entries)) ((event ⟼ shown_of entry) ∷ [])))

-- no entry is no line
pub log_of-none : (A : Type 0) (events : List Happening) → log_of {A = A} events [] ≡ []
log_of-none A [] = refl
log_of-none A (event ∷ events) = refl

-- what holds of a run so far: the world stands after the log, each event before number n has its entry, and there is room for all
pub record IsSoFar {A : Type 0} (R image : List ℕ) (events : List Happening) (entries : Vec (OwnEntry A) A) (n : ℕ) (world : State) : Type 0 where
  pub after : WorldAfter R image (log_of events entries.items) world
  pub count : length entries.items ≡ n
  pub len : vec_len entries ≡ n
  pub room : vec_capacity entries ≡ length events

pub legal_none : {A : Type 0} (R image : List ℕ) (events : List Happening) (entries : Vec (OwnEntry A) A) → entries.items ≡ [] → IsLegal R image [] → IsLegal R image (log_of events entries.items)
legal_none R image events entries none legal =
    subst (λ items. IsLegal R image (log_of events items)) (sym none) (subst (λ log. IsLegal R image log) (sym (log_of-none _ events)) legal)

pub begins_so_far : {A : Type 0} {R image : List ℕ} {events : List Happening} {entries : Vec (OwnEntry A) A} {world : State} → WorldAfter R image [] world → entries.items ≡ [] → vec_len entries ≡ 0
    → vec_capacity entries ≡ length events → IsSoFar R image events entries 0 world
begins_so_far {R = R} {image = image} {events = events} {world = world} after none len room = record {
  after = subst (λ items. WorldAfter R image (log_of events items) world) (sym none) (subst (λ log. WorldAfter R image log world) (sym (log_of-none _ events)) after);
  count = ap length none;
  len = len;
  room = room;
}

-- one entry more, of the event that has its number
pub one_more : {A : Type 0} {R image : List ℕ} {events : List Happening} {entries entries' : Vec (OwnEntry A) A} {n : ℕ} {world world' : State} (event : Happening) (entry : OwnEntry A) → IsSoFar R image events entries n world
    → slice_get events n ≡ Some event → AddsLine world event (shown_of entry) world' → entries'.items ≡ entries.items ++ entry ∷ [] → vec_len entries' ≡ vec_len entries + 1 → vec_capacity entries' ≡ vec_capacity entries
    → IsSoFar R image events entries' (n + 1) world'
one_more {R = R} {image = image} {events = events} {entries = entries} {n = n} {world' = world'} event entry so_far at adds pushed longer same =
    let inside = slice_get_within events n event at in
    let item : event ≡ get_or events n event = sym (get_or_from_slice_get events n event event at) in
    let after = adds R image (log_of events entries.items) so_far.after in
    let within : length entries.items < length events = subst (λ k. k < length events) (sym so_far.count) inside in
    let here : event ≡ get_or events (length entries.items) event = subst (λ k. event ≡ get_or events k event) (sym so_far.count) item in
    record {
      after = subst (λ items. WorldAfter R image (log_of events items) world') (sym pushed) (subst (λ log. WorldAfter R image log world') (log_of-more events entries.items event entry within here) after);
      count = ap length pushed ∙ (length-append entries.items (entry ∷ []) ∙ ap (λ k. k + 1) so_far.count);
      len = longer ∙ ap (λ k. k + 1) so_far.len;
      room = same ∙ so_far.room;
    }

pub stops_at : {A : Type 0} {R image : List ℕ} {events : List Happening} {entries : Vec (OwnEntry A) A} {n : ℕ} {world : State} (event : Happening) → IsSoFar R image events entries n world → slice_get events n ≡ Some event → WantsMemory event world
    → IsStop R image events (record { entries = entries; event = n })
stops_at {R = R} {image = image} {events = events} {entries = entries} event so_far at wants = inr (event, at, wants R image (log_of events entries.items) so_far.after)

-- the event of an item is the one that its number has
pub mapped_at : {X : Type 0} (f : X → Happening) (xs : List X) (n : ℕ) (d : X) → n < length xs → slice_get (map f xs) n ≡ Some (f (get_or xs n d))
mapped_at f [] n d inside = absurd (not-suc-le-zero inside)
mapped_at f (x ∷ xs) zero d inside = refl
mapped_at f (x ∷ xs) (suc n) d inside = mapped_at f xs n d (le_of_suc-le-suc inside)
