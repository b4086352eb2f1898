-- What every legal log of whole words keeps, and that no byte is written in the half being drawn.
use Rattle.std.proofs.Common.{◌≡◌, ◌≢◌, ℕ, ◌+◌, ◌*◌, ◌/◌, ◌<◌, List, [], ◌∷◌, length, refl, sym, ◌∙◌, ap, subst, Option, Some, None, Bool, true, false, arith, slice_index, inl, inr}
use Rattle.std.specs.Prelude.{◌==◌, if◌then◌else◌, is_none, option_and_then, option_map, slice_set}
use Rattle.std.proofs.lemmas.Bool.{false≢true, true≢false}
use Rattle.std.proofs.lemmas.Option.{none-some, same_Some}
use Rattle.std.proofs.lemmas.List.{length-set, get_or-set_same, get_or-set_other}
use Rattle.std.proofs.lemmas.Bool.Decides.{eqb_tells}
use Rattle.dvg_mem.specs.declared.half.Half.{Half}
use Rattle.dvg_mem.specs.Areas.{IsInHalf, base, other, high, half_of_high}
use Rattle.dvg_mem.specs.Memory.{fetched}
use Rattle.dvg_frame.specs.declared.op.OpKind.{OpKind}
use Rattle.dvg_frame.specs.Steps.{Closed}
use Rattle.dvg_gen.specs.Run.{Visit, wanted}
use Rattle.dvg_gen.specs.Told.{More}
use Rattle.dvg_driver.specs.declared.action.Action.{Action}
use Rattle.dvg_driver.specs.declared.action.Action.TheVariants.{Peek, Wrote, Read, Sent, Idle}
use Rattle.dvg_driver.specs.Script
use Rattle.dvg_driver.specs.Script.{Item, Did, IsWhole, IsLife, has_flip, frame_writes}
use Rattle.dvg_driver.specs.Stands.{ShowsFlag}
use Rattle.dvg_driver.specs.Place.{Place, Start, Booting, Resting, Writing, Waiting, Sending, next_place, place_of_life}
use Rattle.dvg_log.specs.Events.{Happening}
use Rattle.dvg_log.specs.declared.event.Event.TheVariants.{Offer, Redraw, Tick, Strobe, Fetch, ResetGen, ResetCpu, ResetAll}
use Rattle.dvg_log.specs.Entries.{Shown}
use Rattle.dvg_log.specs.declared.entry.Entry.TheVariants.{Offered, Refused, Busy, Asked, NothingPublished, Acted, Started, NoStrobe, Low, Fetched, Done, Broke, Still, Cleared}
use Rattle.dvg_log.specs.Log.{◌⟼◌, Log, Throughout, ram, history, open_run, free_half, life, strobed, before_flip}
use Rattle.dvg_theorem.proofs.Bytes.{byte}
use Rattle.dvg_log.specs.Legal.{IsFetch, Fits, IsLegal}
use Rattle.dvg_log.specs.Headline.{SparesDrawn}
use Rattle.dvg_theorem.specs.Fetches.{IsInMemory}
use Rattle.dvg_driver.proofs.Places.{whole_rests, life_place, place_before}
use Rattle.dvg_theorem.proofs.DrawnHalf.{LeadsTo, drawn_leads, leads_none, leads_before, leads_same, not_both, past_zero, half_high, jump_word, jump_there}
use Rattle.dvg_theorem.proofs.Flips.{no_flip}
use Rattle.dvg_theorem.proofs.Linked.{Cut, none, fetching}
use Rattle.dvg_theorem.proofs.ToCome.{ToCome, to_come_frame, IsWrite, to_half, to_zero, to_one, is_write}

-- the RAM keeps its size
pub sized : (R image : List ℕ) (log : Log) → IsLegal R image log → length (ram image log) ≡ 0x800
sized R image [] g = let i = g.1 in i.count
sized R image ((ResetAll bytes ⟼ entry) ∷ log) g = let i = g.1 in i.count
sized R image ((event ⟼ Acted (Wrote a b)) ∷ log) g = length-set (ram image log) a b ∙ sized R image log g.2
sized R image ((event ⟼ entry) ∷ log) g = sized R image log g.2

-- a write changes one byte
pub byte_other : (bs : List ℕ) (a b x : ℕ) → a ≢ x → slice_index (slice_set bs a b) x ≡ slice_index bs x
byte_other bs a b x n = get_or-set_other bs a x b 0 (λ e. n (sym e))

pub byte_here : (bs : List ℕ) (a b : ℕ) → a < length bs → slice_index (slice_set bs a b) a ≡ b
byte_here bs a b l = get_or-set_same bs a b 0 l

below : (a x : ℕ) → a < x → a ≢ x
below a x l e = omega arith

above : (a x : ℕ) → x < a → a ≢ x
above a x l e = omega arith

pub not_equal : (a x : ℕ) → a ≢ x → (a == x) ≡ false
not_equal a x n = elim (eqb_tells a x) [ inl t ↦ absurd (n t.1) | inr t ↦ t.0 ]

-- there was a flip since the last reset of the whole system
abbrev pub HasFlipped : Option Log → Type 0
HasFlipped flip = (older : Log) × (flip ≡ Some older)

-- a run that has fetched word zero draws the half that byte 001 names
abbrev pub DrawsCurrent : ℕ → Option (List (ℕ × ℕ)) → Type 0
DrawsCurrent b1 run = (fetches : List (ℕ × ℕ)) (half : Half) → run ≡ Some fetches → LeadsTo fetches half → half ≡ half_of_high b1

-- what holds at a place, with b0 and b1 in bytes 000 and 001
abbrev pub AtPlace : ℕ → ℕ → Option (List (ℕ × ℕ)) → Option Log → Place → Type 0
AtPlace b0 b1 run flip Start = Unit {0}
AtPlace b0 b1 run flip Booting = Unit {0}
AtPlace b0 b1 run flip (Resting first) = DrawsCurrent b1 run × (first ≡ false → HasFlipped flip)
AtPlace b0 b1 run flip (Writing ws) = DrawsCurrent b1 run × ToCome (other (half_of_high b1)) b0 ws
AtPlace b0 b1 run flip (Waiting first) = HasFlipped flip
AtPlace b0 b1 run flip (Sending first) = DrawsCurrent b1 run × HasFlipped flip

pub record Kept (b0 b1 : ℕ) (run : Option (List (ℕ × ℕ))) (items : List Item) (sent : Bool) (flip : Option Log) (p : Place) : Type 0 where
  pub stands : place_of_life items ≡ Some p
  -- once there was a flip, word zero is a jump to a half
  pub jumps : HasFlipped flip → (b0 ≡ 1) × (b1 ≡ high (half_of_high b1))
  -- a strobe is sent after a flip, and a run begins after a strobe was sent
  pub flipped : sent ≡ true → HasFlipped flip
  pub started : (ws : List (ℕ × ℕ)) → run ≡ Some ws → sent ≡ true
  pub here : AtPlace b0 b1 run flip p

abbrev pub KeptBy : List ℕ → Log → Place → Type 0
KeptBy image log p = Kept (byte image log 0) (byte image log 1) (open_run log) (life image log) (strobed log) (before_flip log) p

-- what a line leaves
abbrev Goes : List ℕ → Log → Happening → Shown → Type 0
Goes image log event entry = (q : Place) × KeptBy image ((event ⟼ entry) ∷ log) q × SparesDrawn log event entry

pub same_place : (items : List Item) (p q : Place) → place_of_life items ≡ Some p → place_of_life items ≡ Some q → p ≡ q
same_place items p q e d = same_Some _ _ (sym e ∙ d)

module _ {b0 b1 : ℕ} {run : Option (List (ℕ × ℕ))} {items : List Item} {sent : Bool} {flip : Option Log} {p : Place} (k : Kept b0 b1 run items sent flip p) where
  -- to another place, with nothing else changed
  moved : (items2 : List Item) (p2 : Place) → place_of_life items2 ≡ Some p2 → AtPlace b0 b1 run flip p2 → Kept b0 b1 run items2 sent flip p2
  moved items2 p2 d h = record { stands = d; jumps = k.jumps; flipped = k.flipped; started = k.started; here = h }

here_map : (b0 b1 : ℕ) (run run2 : Option (List (ℕ × ℕ))) (flip : Option Log) (p : Place) → (DrawsCurrent b1 run → DrawsCurrent b1 run2) → AtPlace b0 b1 run flip p → AtPlace b0 b1 run2 flip p
here_map b0 b1 run run2 flip Start f h = tt
here_map b0 b1 run run2 flip Booting f h = tt
here_map b0 b1 run run2 flip (Resting first) f h = (f h.0, h.1)
here_map b0 b1 run run2 flip (Writing ws) f h = (f h.0, h.1)
here_map b0 b1 run run2 flip (Waiting first) f h = h
here_map b0 b1 run run2 flip (Sending first) f h = (f h.0, h.1)

offer_step : (R image : List ℕ) (log : Log) (p : Place) (F : List OpKind) → KeptBy image log p → Closed F R → IsWhole (life image log) →
    (q : Place) × Kept (byte image log 0) (byte image log 1) (open_run log) (Script.Offered (free_half image log) F ∷ life image log) (strobed log) (before_flip log) q
offer_step R image log p F k c w =
    let rests = whole_rests (life image log) w in
    let first = rests.0 in
    let h = free_half image log in
    let at : AtPlace (byte image log 0) (byte image log 1) (open_run log) (before_flip log) (Resting first) =
    rw (same_place (life image log) p (Resting first) k.stands rests.1) at k.here in (
      Writing (frame_writes h F first),
      moved k (Script.Offered h F ∷ life image log) (Writing (frame_writes h F first)) (ap (option_and_then (λ p. next_place p (Script.Offered h F))) rests.1)
          (at.0, to_come_frame h (byte image log 0) F R first c (λ e. (k.jumps (at.1 e)).0)),
    )

ask_step : (image : List ℕ) (log : Log) (p : Place) → KeptBy image log p → has_flip (life image log) ≡ true → IsWhole (life image log) →
    (q : Place) × Kept (byte image log 0) (byte image log 1) (open_run log) (Script.Asked ∷ life image log) (strobed log) (before_flip log) q
ask_step image log p k f w =
    let rests = whole_rests (life image log) w in
    let at : AtPlace (byte image log 0) (byte image log 1) (open_run log) (before_flip log) (Resting rests.0) =
    rw (same_place (life image log) p (Resting rests.0) k.stands rests.1) at k.here in (
      Waiting rests.0,
      moved k (Script.Asked ∷ life image log) (Waiting rests.0) (ap (option_and_then (λ p. next_place p Script.Asked)) rests.1)
          (at.1 (not_first rests.0 refl)),
    )
  where
    rests2 : (f : Bool) × (place_of_life (life image log) ≡ Some (Resting f))
    rests2 = whole_rests (life image log) w

    not_first : (g : Bool) → rests2.0 ≡ g → g ≡ false
    not_first false e = refl
    not_first true e = absurd (true≢false (sym f ∙ no_flip (life image log) (Resting rests2.0) rests2.1 e))

none_draws : (b1 : ℕ) (run : Option (List (ℕ × ℕ))) → true ≡ is_none run → DrawsCurrent b1 run
none_draws b1 None e words half f l = absurd (none-some words f)
none_draws b1 (Some ws) e words half f l = absurd (true≢false e)

-- a byte past the first word was written
half_written : (bs : List ℕ) (a b : ℕ) (log : Log) {run : Option (List (ℕ × ℕ))} {items : List Item} {sent : Bool} {flip : Option Log} {p : Place} → 0 < a / 2 → Kept (slice_index bs 0) (slice_index bs 1) run items sent flip p →
    Kept (slice_index (slice_set bs a b) 0) (slice_index (slice_set bs a b) 1) run items sent (if a == 1 then Some log else flip) p
half_written bs a b log low k = rw (not_equal a 1 (λ e. omega (arith, e)), byte_other bs a b 0 (λ e. omega (arith, e)), byte_other bs a b 1 (λ e. omega (arith, e))) k

-- byte 000 was written
zero_written : (bs : List ℕ) (a b : ℕ) (log : Log) {run : Option (List (ℕ × ℕ))} {items items2 : List Item} {sent : Bool} {flip : Option Log} {p p2 : Place} → 0 < length bs → a ≡ 0 → b ≡ 1 → Kept (slice_index bs 0) (slice_index bs 1) run items sent flip p →
    place_of_life items2 ≡ Some p2 → AtPlace 1 (slice_index bs 1) run flip p2 → Kept (slice_index (slice_set bs a b) 0) (slice_index (slice_set bs a b) 1) run items2 sent (if a == 1 then Some log else flip) p2
zero_written bs a b log size ea eb k d h =
    rw (ea, eb, byte_here bs 0 1 size, byte_other bs 0 1 1 (below 0 1 (omega arith))) (record { stands = d; jumps = λ f. (refl, (k.jumps f).1); flipped = k.flipped; started = k.started; here = h })

-- byte 001 was written: a flip
one_written : (bs : List ℕ) (a b : ℕ) (log : Log) (half : Half) {run : Option (List (ℕ × ℕ))} {items items2 : List Item} {sent : Bool} {flip : Option Log} {p : Place} → 1 < length bs → a ≡ 1 → b ≡ high half → slice_index bs 0 ≡ 1 → Kept (slice_index bs 0) (slice_index bs 1) run items sent flip p →
    place_of_life items2 ≡ Some (Waiting false) → Kept (slice_index (slice_set bs a b) 0) (slice_index (slice_set bs a b) 1) run items2 sent (if a == 1 then Some log else flip) (Waiting false)
one_written bs a b log half size ea eb z k d =
    rw (ea, eb, byte_here bs 1 (high half) size, byte_other bs 1 (high half) 0 (above 1 0 (omega arith))) (record {
      stands = d;
      jumps = λ f. (z, ap high (sym (half_high half)));
      flipped = λ f. (log, refl {a = Some log});
      started = k.started;
      here = (log, refl {a = Some log});
    })

zero_low : 0 < 2
zero_low = omega arith

one_low : 1 < 2
one_low = omega arith

long_one : (bs : List ℕ) (n : ℕ) → length bs ≡ 0x800 → n < 2 → n < length bs
long_one bs n size low = omega arith

below_two : (a n : ℕ) → a ≡ n → n < 2 → a < 2
below_two a n e low = omega arith

-- neither byte of the first word is in a half
spared : (half : Half) (a : ℕ) → a < 2 → IsInHalf half (a / 2) → ⊥
spared half a low inside = let past = past_zero half (a / 2) inside in omega arith

write_step : (image : List ℕ) (log : Log) (ws : List (ℕ × ℕ)) (a b : ℕ) (q : Place) → length (ram image log) ≡ 0x800 → KeptBy image log (Writing ws) → place_of_life (Did (Wrote a b) ∷ life image log) ≡ Some q →
    IsWrite (free_half image log) (byte image log 0) a b q → Goes image log Tick (Acted (Wrote a b))
write_step image log ws a b q size k d (to_half i vs e t) = (
  Writing vs,
  half_written (ram image log) a b log (past_zero (free_half image log) (a / 2) i) (moved k (Did (Wrote a b) ∷ life image log) (Writing vs) (d ∙ ap Some e) (k.here.0, t)),
  λ half drawn inside.
      let run = drawn_leads log half drawn in
      let current = k.here.0 run.0 half run.1 run.2 in
      not_both half (a / 2) (subst (λ g. IsInHalf (other g) (a / 2)) (sym current) i) inside,
)
write_step image log ws a b q size k d (to_zero ea eb vs e t) =
    (Writing vs, zero_written (ram image log) a b log (long_one (ram image log) 0 size zero_low) ea eb k (d ∙ ap Some e) (k.here.0, t), λ half drawn inside. spared half a (below_two a 0 ea zero_low) inside)
write_step image log ws a b q size k d (to_one ea eb e z) = (
  Waiting false,
  one_written (ram image log) a b log (free_half image log) (long_one (ram image log) 1 size one_low) ea eb z k (d ∙ ap Some e),
  λ half drawn inside. spared half a (below_two a 1 ea one_low) inside,
)

tick_step : (image : List ℕ) (log : Log) (p : Place) (action : Action) (q : Place) → length (ram image log) ≡ 0x800 → KeptBy image log p → next_place p (Did action) ≡ Some q → place_of_life (Did action ∷ life image log) ≡ Some q → ShowsFlag action (is_none (open_run log)) → Goes image log Tick (Acted action)
tick_step image log Start Peek q size k e d r = (Booting, moved k (Did Peek ∷ life image log) Booting (d ∙ sym e) tt, tt)
tick_step image log Booting (Read true) q size k e d r = (Resting true, moved k (Did (Read true) ∷ life image log) (Resting true) (d ∙ sym e) (none_draws (byte image log 1) (open_run log) r, λ f. absurd (true≢false f)), tt)
tick_step image log Booting (Read false) q size k e d r = (Booting, moved k (Did (Read false) ∷ life image log) Booting (d ∙ sym e) tt, tt)
tick_step image log (Resting first) Idle q size k e d r = (Resting first, moved k (Did Idle ∷ life image log) (Resting first) (d ∙ sym e) k.here, tt)
tick_step image log (Writing ws) (Wrote a b) q size k e d r = write_step image log ws a b q size k d (is_write (free_half image log) (byte image log 0) ws k.here.1 a b q e)
tick_step image log (Waiting first) (Read true) q size k e d r = (Sending first, moved k (Did (Read true) ∷ life image log) (Sending first) (d ∙ sym e) (none_draws (byte image log 1) (open_run log) r, k.here), tt)
tick_step image log (Waiting first) (Read false) q size k e d r = (Waiting first, moved k (Did (Read false) ∷ life image log) (Waiting first) (d ∙ sym e) k.here, tt)
tick_step image log (Sending first) Sent q size k e d r =
    (Resting first, record { stands = d ∙ sym e; jumps = k.jumps; flipped = λ f. k.here.1; started = λ ws f. refl; here = (k.here.0, λ f. k.here.1) }, tt)
tick_step image log _ _ q size k e d r = absurd (none-some q e)

-- the first word of a run leads to the half that byte 001 names
first_draws : (b1 : ℕ) (w : ℕ × ℕ) (ws : List (ℕ × ℕ)) → (ws ≡ [] → LeadsTo (w ∷ []) (half_of_high b1)) → DrawsCurrent b1 (Some ws) → DrawsCurrent b1 (Some (w ∷ ws))
first_draws b1 w [] f g words half e l = leads_same (subst (λ all. LeadsTo all half) (sym (same_Some _ _ e)) l) (f refl)
first_draws b1 w (v ∷ vs) f g words half e l = g (v ∷ vs) half refl (leads_before (subst (λ all. LeadsTo all half) (sym (same_Some _ _ e)) l))

-- the word at 000 is of bytes 000 and 001
pub word_zero_is : (bytes R : List ℕ) (w : ℕ) → fetched bytes R 0 ≡ Some w → slice_index bytes 0 + 256 * slice_index bytes 1 ≡ w
word_zero_is bytes R w e = same_Some _ _ e

-- once there was a flip it is the jump to the half that byte 001 names
pub zero_jumps : (b0 b1 : ℕ) → (b0 ≡ 1) × (b1 ≡ high (half_of_high b1)) → b0 + 256 * b1 ≡ 0xE000 + base (half_of_high b1)
zero_jumps b0 b1 js = ap (λ v. v + 256 * b1) js.0 ∙ (ap (λ v. 1 + 256 * v) js.1 ∙ jump_word (half_of_high b1))

-- a run's first address is 000
pub first_at : (vs : List Visit) (held : Option ℕ) → Cut [] vs held → wanted vs held ≡ 0
first_at vs held none = refl

fetch_step : (R image : List ℕ) (log : Log) (p : Place) (a w : ℕ) → IsLegal R image log → KeptBy image log p → fetched (ram image log) R a ≡ Some w → IsFetch (history R image log) a (Some w) More → Goes image log Fetch (Fetched a w)
fetch_step R image log p a w g k m f =
    let t = fetching R image log a (Some w) More g f in
    let ws = t.fetches in
    let o = t.open_now in
    let sent = k.started ws o in
    let js = k.jumps (k.flipped sent) in
    let now : open_run ((Fetch ⟼ Fetched a w) ∷ log) ≡ Some ((a, w) ∷ ws) = ap (option_map (λ fetches. (a, w) ∷ fetches)) o in (
      p,
      record {
        stands = k.stands;
        jumps = k.jumps;
        flipped = k.flipped;
        started = λ vs e. sent;
        here = here_map (byte image log 0) (byte image log 1) (open_run log) (open_run ((Fetch ⟼ Fetched a w) ∷ log)) (before_flip log) p
            (λ g. subst (DrawsCurrent (byte image log 1)) (sym now)
            (first_draws (byte image log 1) (a, w) ws
            (λ e. first_word js (t.at ∙ first_at f.asked.run.visits f.asked.run.held (subst (λ x. Cut x f.asked.run.visits f.asked.run.held) e t.cut)))
            (subst (DrawsCurrent (byte image log 1)) o g))) k.here;
      },
      tt,
    )
  where
    first_word : (byte image log 0 ≡ 1) × (byte image log 1 ≡ high (half_of_high (byte image log 1))) → a ≡ 0 → LeadsTo ((a, w) ∷ []) (half_of_high (byte image log 1))
    first_word js z =
        let P : ℕ → Type 0 = λ v. fetched (ram image log) R v ≡ Some w in
        jump_there a w (half_of_high (byte image log 1)) z (sym (word_zero_is (ram image log) R w (subst P z m)) ∙ zero_jumps (byte image log 0) (byte image log 1) js)

-- no run is open, or it has fetched nothing
not_drawing : {b0 b1 : ℕ} {run : Option (List (ℕ × ℕ))} {items : List Item} {sent : Bool} {flip : Option Log} {p : Place} (run2 : Option (List (ℕ × ℕ))) → ((words : List (ℕ × ℕ)) (half : Half) → run2 ≡ Some words → LeadsTo words half → ⊥) → ((ws : List (ℕ × ℕ)) → run2 ≡ Some ws → sent ≡ true) →
    Kept b0 b1 run items sent flip p → Kept b0 b1 run2 items sent flip p
not_drawing {b0} {b1} {run} {flip} {p} run2 n f k =
    record { stands = k.stands; jumps = k.jumps; flipped = k.flipped; started = f; here = here_map b0 b1 run run2 flip p (λ g words half e l. absurd (n words half e l)) k.here }

begun_step : {b0 b1 : ℕ} {run : Option (List (ℕ × ℕ))} {items : List Item} {sent : Bool} {flip : Option Log} {p : Place} → sent ≡ true → Kept b0 b1 run items sent flip p → Kept b0 b1 (Some []) items sent flip p
begun_step s k = not_drawing (Some []) (λ words half e l. leads_none half (subst (λ all. LeadsTo all half) (sym (same_Some _ _ e)) l)) (λ ws e. s) k

closed_step : {b0 b1 : ℕ} {run : Option (List (ℕ × ℕ))} {items : List Item} {sent : Bool} {flip : Option Log} {p : Place} → Kept b0 b1 run items sent flip p → Kept b0 b1 None items sent flip p
closed_step k = not_drawing None (λ words half e l. none-some words e) (λ ws e. absurd (none-some ws e)) k

step : (R image : List ℕ) (log : Log) (p : Place) (event : Happening) (entry : Shown) → IsLegal R image log → KeptBy image log p → IsInMemory R image log event entry → Fits R image log event entry → Goes image log event entry
step R image log p (Offer F) (Refused fault) g k m f = (p, k, tt)
step R image log p (Offer F) Busy g k m f = (p, k, tt)
step R image log p (Offer F) Offered g k m f = let s = offer_step R image log p F k f.0.closed f.1 in (s.0, s.1, tt)
step R image log p Redraw NothingPublished g k m f = (p, k, tt)
step R image log p Redraw Busy g k m f = (p, k, tt)
step R image log p Redraw Asked g k m f = let s = ask_step image log p k f.0 f.1 in (s.0, s.1, tt)
step R image log p Tick (Acted action) g k m f =
    let after = life_place (Did action ∷ life image log) f.0 in
    let before = place_before (Did action) (life image log) after.0 after.1 in
    tick_step image log p action after.0 (sized R image log g) k (ap (λ p. next_place p (Did action)) (same_place (life image log) p before.0 k.stands before.1) ∙ before.2) after.1 f.1
step R image log p Strobe Started g k m f = (p, begun_step f k, tt)
step R image log p Strobe NoStrobe g k m f = (p, k, tt)
step R image log p Fetch Still g k m f = (p, k, tt)
step R image log p Fetch (Low a b) g k m f = (p, k, tt)
step R image log p Fetch (Fetched a w) g k m f = fetch_step R image log p a w g k m f.1
step R image log p Fetch (Done a w s) g k m f = (p, closed_step k, tt)
step R image log p Fetch (Broke a fault) g k m f = (p, closed_step k, tt)
step R image log p ResetGen Cleared g k m f = (p, closed_step k, tt)
step R image log p ResetCpu Cleared g k m f = (Start, record { stands = refl; jumps = k.jumps; flipped = k.flipped; started = k.started; here = tt }, tt)
step R image log p (ResetAll bytes) Cleared g k m f = (Start, record { stands = refl; jumps = λ f. absurd (none-some f.0 f.1); flipped = λ e. absurd (false≢true e); started = λ ws e. absurd (none-some ws e); here = tt }, tt)
step R image log p _ _ g k m f = absurd f

pub kept : (R image : List ℕ) (log : Log) → IsLegal R image log → Throughout (IsInMemory R image) log → (p : Place) × KeptBy image log p × Throughout SparesDrawn log
kept R image [] l m = (Start, record { stands = refl; jumps = λ f. absurd (none-some f.0 f.1); flipped = λ e. absurd (false≢true e); started = λ ws e. absurd (none-some ws e); here = tt }, tt)
kept R image ((event ⟼ entry) ∷ log) l m =
    let before = kept R image log l.2 m.1 in
    let s = step R image log before.0 event entry l.2 before.1 m.0 l.0 in
    (s.0, s.1, (s.2, before.2))
