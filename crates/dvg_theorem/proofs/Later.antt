-- What every legal log of whole words shows: no faults, right pictures, no older picture, and an end in time.
use Rattle.std.proofs.Common.{◌≡◌, ℕ, suc, ◌+◌, ◌*◌, ◌≤◌, List, [], ◌∷◌, length, refl, sym, ◌∙◌, ap, subst, Option, Some, None, Bool, arith}
use Rattle.std.specs.Prelude.{option_and_then, option_map}
use Rattle.std.proofs.lemmas.Option.{none-some, same_Some}
use Rattle.dvg_mem.specs.declared.half.Half.{Half}
use Rattle.dvg_mem.specs.Areas.{base}
use Rattle.dvg_mem.specs.Memory.{fetched, IsRom}
use Rattle.dvg_gen.specs.declared.taken.GenFault.{GenFault}
use Rattle.dvg_gen.specs.declared.beam.Beam.{Beam}
use Rattle.dvg_gen.specs.declared.stroke.Stroke.{Stroke}
use Rattle.dvg_gen.specs.Run.{Visit, wanted, Goes, fate, strokes, Runs, begins, fetches}
use Rattle.dvg_gen.specs.Told.{Reply, More, Drew, Fails, reply, reply_by}
use Rattle.dvg_gen.specs.Bytes.{Waits, Whole}
use Rattle.dvg_gen.proofs.Replies.{more_goes, drew_finished, fails_breaks}
use Rattle.dvg_frame.specs.declared.op.OpKind.{OpKind}
use Rattle.dvg_frame.specs.Picture.{IsPicture}
use Rattle.dvg_driver.specs.declared.action.Action.{Action}
use Rattle.dvg_driver.specs.declared.action.Action.TheVariants.{Peek, Wrote, Read, Sent, Idle}
use Rattle.dvg_driver.specs.Script
use Rattle.dvg_driver.specs.Script.{Did, IsWhole}
use Rattle.dvg_driver.specs.Place.{Place, Start, Writing, next_place, place_of_life}
use Rattle.dvg_log.specs.Events.{Happening, IsEvent}
use Rattle.dvg_log.specs.declared.event.Event.TheVariants.{Offer, Redraw, Tick, Strobe, Fetch, ResetGen, ResetCpu, ResetAll}
use Rattle.dvg_log.specs.Entries.{Shown}
use Rattle.dvg_log.specs.declared.entry.Entry.TheVariants.{Offered, Refused, Busy, Asked, NothingPublished, Acted, Started, NoStrobe, Low, Fetched, Done, Broke, Still, Cleared}
use Rattle.dvg_log.specs.Log.{◌⟼◌, Log, Throughout, ram, low_byte, meets, history, open_run, free_half, life, published, publication, at_zero}
use Rattle.dvg_log.specs.Legal.{IsWanted, IsFetch, Fits, IsLegal}
use Rattle.dvg_log.specs.Headline.{IsShown, IsNoLater, NoFault, DrewPublished, IsNoOlder, fetch_count}
use Rattle.dvg_theorem.specs.Fetches.{IsInMemory}
use Rattle.dvg_theorem.specs.Law.{IsDrawn}
use Rattle.dvg_driver.proofs.Places.{whole_rests, life_place, place_before}
use Rattle.dvg_theorem.proofs.DrawnHalf.{LeadsTo, later, jump_there}
use Rattle.dvg_theorem.proofs.DrawnHalfSpared.{sized, KeptBy, kept, same_place, zero_jumps}
use Rattle.dvg_theorem.proofs.LeastMemory.{Checked, fits, frame_memory, least_draws, least_once, goes_in_time, finished_in_time, finished_picture, Lies, agrees}
use Rattle.dvg_theorem.proofs.Paced.{KeepsPace}
use Rattle.dvg_theorem.proofs.Linked.{Cut, none, word, cut_same, wanting, fetching, added}
use Rattle.dvg_theorem.proofs.Bytes.{same_Whole, low_met, word_met, byte}
use Rattle.dvg_theorem.proofs.Shows.{current, Running, Shows, at_zero_fetched, at_zero_open, begun, idle_lays, write_shows, same_line, same_life}
use Rattle.dvg_theorem.proofs.ToCome.{is_write}

-- what a fetch of the open run meets
record Ready (R image : List ℕ) (log : Log) (ws : List (ℕ × ℕ)) (vs : List Visit) (held : Option ℕ) : Type 0 where
  half : Half
  draft : List OpKind
  shown : IsShown log draft
  checked : Checked draft R
  holds : Lies half draft (byte image log)
  runs : Runs (frame_memory half draft R) (length ws) vs held
  memory : frame_memory half draft R (wanted vs held) ≡ fetched (ram image log) R (wanted vs held)
  drawn : (w : ℕ) → fetched (ram image log) R (wanted vs held) ≡ Some w → LeadsTo ((wanted vs held, w) ∷ ws) half

rom_of : (R image : List ℕ) (log : Log) → IsLegal R image log → IsRom R
rom_of R image [] g = g.0
rom_of R image ((event ⟼ entry) ∷ log) g = rom_of R image log g.2

-- these actions write nothing
no_peek : (a b : ℕ) → Peek ≡ Wrote a b → ⊥
no_peek a b e = cc

no_read : (shown : Bool) (a b : ℕ) → Read shown ≡ Wrote a b → ⊥
no_read shown a b e = cc

no_sent : (a b : ℕ) → Sent ≡ Wrote a b → ⊥
no_sent a b e = cc

no_idle : (a b : ℕ) → Idle ≡ Wrote a b → ⊥
no_idle a b e = cc

-- a driver that starts writes nothing, and a run that begins has fetched nothing
not_at_start : (ws : List (ℕ × ℕ)) → Some Start ≡ Some (Writing ws) → ⊥
not_at_start ws e = cc

not_begun : (v : ℕ × ℕ) (vs : List (ℕ × ℕ)) → Some [] ≡ Some (v ∷ vs) → ⊥
not_begun v vs e = cc

-- a run over the least memory finds a word
some_word : {F : List OpKind} {R : List ℕ} {mem : ℕ → Option ℕ} {n : ℕ} {vs : List Visit} {held : Option ℕ} → IsDrawn F R mem → Runs mem n vs held → fate vs ≡ Goes → (o : Option ℕ) → mem (wanted vs held) ≡ o → (w : ℕ) × (o ≡ Some w)
some_word d r g (Some w) e = (w, refl)
some_word {n = n} {vs = vs} {held = held} d r g None e = absurd (d.safe.hole n vs held r g e)

module _ (R image : List ℕ) where
  -- memory has the frame's word where the run goes on
  pub memory_is : (log : Log) (v : ℕ × ℕ) (us : List (ℕ × ℕ)) (r : Running R image log (v ∷ us)) → fate r.visits ≡ Goes
      → (w : ℕ) × (frame_memory r.half r.draft R (wanted r.visits r.held) ≡ Some w) × (fetched (ram image log) R (wanted r.visits r.held) ≡ Some w)
  memory_is log v us r g =
      let mem = frame_memory r.half r.draft R in
      let m = some_word (least_draws r.half r.draft R r.checked) r.runs g (mem (wanted r.visits r.held)) refl in
      (m.0, m.1, agrees (ram image log) R r.half r.draft (fits r.half r.draft R r.checked) r.holds (wanted r.visits r.held) m.0 (least_once r.half r.draft R r.checked (length us) r.visits r.held r.runs g) m.1)

  ready : (log : Log) (p : Place) (ws : List (ℕ × ℕ)) (vs : List Visit) (held : Option ℕ) → KeptBy image log p → Shows R image log → open_run log ≡ Some ws → Cut ws vs held → fate vs ≡ Goes → Ready R image log ws vs held
  ready log p [] vs held k s o none g =
      let flips = k.flipped (k.started [] o) in
      let c = s.now flips in
      let js = k.jumps flips in
      let h = current image log in
      let zero : Some (0xE000 + base h) ≡ fetched (ram image log) R 0 =
      ap Some (sym (zero_jumps (byte image log 0) (byte image log 1) js)) in
      record {
        half = h;
        draft = c.draft;
        checked = c.checked;
        holds = c.holds;
        runs = begins;
        shown = ap published (at_zero_open log o) ∙ c.newest;
        memory = zero;
        drawn = λ w e. jump_there 0 w h refl (sym (same_Some _ _ (zero ∙ e)));
      }
  ready log p (v ∷ us) vs held k s o c g =
      let r = s.running v us o in
      let e = cut_same r.cut c in
      let mem = frame_memory r.half r.draft R in
      let runs : Runs mem (length (v ∷ us)) vs held = subst (λ x. Runs mem (length (v ∷ us)) x held) e.0 (subst (λ x. Runs mem (length (v ∷ us)) r.visits x) e.1 r.runs) in
      let at : wanted r.visits r.held ≡ wanted vs held = ap (λ x. wanted x r.held) e.0 ∙ ap (λ x. wanted vs x) e.1 in
      let m = memory_is log v us r (ap fate e.0 ∙ g) in
      record {
        half = r.half;
        draft = r.draft;
        shown = r.shown;
        checked = r.checked;
        holds = r.holds;
        runs = runs;
        memory = subst (λ a. mem a ≡ fetched (ram image log) R a) at (m.1 ∙ sym m.2);
        drawn = λ w e. later r.drawn;
      }

  -- no run that ended shows a later publication than the open run does
  run_bound : (log : Log) (ws : List (ℕ × ℕ)) (n : ℕ) → Shows R image log → open_run log ≡ Some ws → publication (at_zero log) ≡ Some n → Throughout (IsNoLater n) log
  run_bound log [] n s o e = s.newest n (ap publication (sym (at_zero_open log o)) ∙ e)
  run_bound log (v ∷ vs) n s o e = s.run_newest v vs n o e

  rise : (log : Log) (ws : List (ℕ × ℕ)) (n m : ℕ) → Shows R image log → open_run log ≡ Some ws → publication (at_zero log) ≡ Some n → publication log ≡ Some m → n ≤ m
  rise log [] n m s o e y = let same = same_Some _ _ (sym e ∙ (ap publication (at_zero_open log o) ∙ y)) in omega arith
  rise log (v ∷ vs) n m s o e y = s.rises v vs n m o e y

  -- a fetch of the open run: what it meets, and the run with its word
  record Step (log : Log) (a w : ℕ) (answer : Reply) : Type 0 where
    fetches : List (ℕ × ℕ)
    open_now : open_run log ≡ Some fetches
    half : Half
    draft : List OpKind
    shown : IsShown log draft
    checked : Checked draft R
    holds : Lies half draft (byte image log)
    drawn : LeadsTo ((a, w) ∷ fetches) half
    begun_with : Beam
    visits : List Visit
    held : Option ℕ
    cut : Cut ((a, w) ∷ fetches) visits held
    runs : Runs (frame_memory half draft R) (length ((a, w) ∷ fetches)) visits held
    replies : reply_by held (fate visits) (strokes begun_with visits) ≡ answer
    goes : answer ≡ More → fate visits ≡ Goes

  stepped : (log : Log) (p : Place) (a w : ℕ) (answer : Reply) → IsLegal R image log → KeptBy image log p → Shows R image log → fetched (ram image log) R a ≡ Some w → IsFetch (history R image log) a (Some w) answer → Step log a w answer
  stepped log p a w answer g k s m f =
      let t = fetching R image log a (Some w) answer g f in
      let r = ready log p t.fetches f.asked.run.visits f.asked.run.held k s t.open_now t.cut t.goes in
      let W : ℕ → Type 0 = λ x. fetched (ram image log) R x ≡ Some w in
      let here : fetched (ram image log) R (wanted f.asked.run.visits f.asked.run.held) ≡ Some w = subst W t.at m in
      let d = added f in
      let rep : reply_by d.1 (fate d.0) (strokes f.asked.run.first d.0) ≡ answer = ap (λ q. reply (Some w) q) (sym d.3) ∙ f.replies in
      record {
        fetches = t.fetches;
        open_now = t.open_now;
        half = r.half;
        draft = r.draft;
        shown = r.shown;
        checked = r.checked;
        holds = r.holds;
        drawn = subst (λ x. LeadsTo ((x, w) ∷ t.fetches) r.half) (sym t.at) (r.drawn w here);
        begun_with = f.asked.run.first;
        visits = d.0;
        held = d.1;
        cut = word t.cut d.2;
        runs = fetches r.runs t.goes (r.memory ∙ here) d.2;
        replies = rep;
        goes = λ e. more_goes d.2 t.goes (strokes f.asked.run.first d.0) (rep ∙ e);
      }

  fetch_shows : (log : Log) (a w : ℕ) → Shows R image log → Step log a w More → Shows R image ((Fetch ⟼ Fetched a w) ∷ log)
  fetch_shows log a w s t =
      let ws = t.fetches in
      let o = t.open_now in
      let now : Running R image ((Fetch ⟼ Fetched a w) ∷ log) ((a, w) ∷ ws) = record {
        half = t.half;
        draft = t.draft;
        checked = t.checked;
        holds = t.holds;
        shown = rw (at_zero_fetched (Fetch ⟼ Fetched a w) log (a, w) ws (now_open o)) t.shown;
        drawn = t.drawn;
        visits = t.visits;
        held = t.held;
        cut = t.cut;
        runs = t.runs;
      } in
      let P : List (ℕ × ℕ) → Type 0 = Running R image ((Fetch ⟼ Fetched a w) ∷ log) in
      record {
        now = λ f. let c = s.now f in record { draft = c.draft; newest = c.newest; checked = c.checked; holds = c.holds };
        laying = λ us l. let y = s.laying us l in record { draft = y.draft; half = y.half; first = y.first; count = y.count; accepted = y.accepted; checked = y.checked; free = y.free; left = y.left; done = y.done };
        running = λ v vs e. subst P (same_Some _ _ (sym (now_open o) ∙ e)) now;
        newest = λ n e. (tt, s.newest n e);
        run_newest = λ v vs n e z. (tt, run_bound log ws n s o (rw (at_zero_fetched (Fetch ⟼ Fetched a w) log (a, w) ws (now_open o)) at z));
        rises = λ v vs n m e z y. rise log ws n m s o (rw (at_zero_fetched (Fetch ⟼ Fetched a w) log (a, w) ws (now_open o)) at z) y;
      }
    where
      now_open : {fetches : List (ℕ × ℕ)} → open_run log ≡ Some fetches → open_run ((Fetch ⟼ Fetched a w) ∷ log) ≡ Some ((a, w) ∷ fetches)
      now_open e = ap (option_map (λ fetches. (a, w) ∷ fetches)) e

  -- what a line shows
  abbrev pub IsRight : Log → Happening → Shown → Type 0
  IsRight log event entry = NoFault log event entry × DrewPublished R log event entry × IsNoOlder log event entry × KeepsPace R log event entry

  -- the number of the fetch, where a low byte waits, and where none does
  behind_low : (log : Log) (a w : ℕ) (words : List (ℕ × ℕ)) → meets R image log a ≡ Whole (Some w) → fetch_count words (low_byte log) ≡ 2 * length words + 1
  behind_low log a w words met = let l = word_met (ram image log) R (low_byte log) a w met in ap (fetch_count words) l.1

  of_low : (log : Log) (a b : ℕ) (words : List (ℕ × ℕ)) → meets R image log a ≡ Waits b → fetch_count words (low_byte log) ≡ 2 * length words
  of_low log a b words met = ap (fetch_count words) (low_met (ram image log) R (low_byte log) a b met).0

  done_right : (log : Log) (a w : ℕ) (drew : List Stroke) → Shows R image log → meets R image log a ≡ Whole (Some w) → Step log a w (Drew drew) → IsRight log Fetch (Done a w drew)
  done_right log a w drew s met t =
      let ws = t.fetches in
      let d = least_draws t.half t.draft R t.checked in
      let fin = drew_finished t.held (fate t.visits) (strokes t.begun_with t.visits) drew t.replies in
      let mem = frame_memory t.half t.draft R in
      let runs : Runs mem (length ((a, w) ∷ ws)) t.visits None = subst (λ x. Runs mem (length ((a, w) ∷ ws)) t.visits x) fin.0 t.runs in
      let pic : IsPicture t.draft R drew (suc (length ws)) = subst (λ x. IsPicture t.draft R x (suc (length ws))) fin.2 (finished_picture d t.begun_with runs fin.1) in (
        tt,
        (t.draft, ws, t.shown, t.checked.accepts, t.open_now, pic),
        (λ n e. run_bound log ws n s t.open_now e),
        (λ vs F u j q f x.
            let y = subst (λ H. IsPicture H R u j) (same_Some _ _ (sym f ∙ t.shown)) x in
            let e = finished_in_time d t.begun_with runs fin.1 y in
            let len = ap length (same_Some _ _ (sym q ∙ t.open_now)) in
            let word = e.0 in
            let count = behind_low log a w vs met in
            (omega arith, sym fin.2 ∙ e.1)),
      )

  goes_right : (log : Log) (a w : ℕ) → meets R image log a ≡ Whole (Some w) → Step log a w More → IsRight log Fetch (Fetched a w)
  goes_right log a w met t =
      let d = least_draws t.half t.draft R t.checked in (
        tt,
        tt,
        tt,
        (λ vs F u j q f x.
            let y = subst (λ H. IsPicture H R u j) (same_Some _ _ (sym f ∙ t.shown)) x in
            let e = goes_in_time d t.runs (t.goes refl) y in
            let len = ap length (same_Some _ _ (sym q ∙ t.open_now)) in
            let count = behind_low log a w vs met in
            omega arith),
      )

  low_right : (log : Log) (p : Place) (a b : ℕ) → IsLegal R image log → KeptBy image log p → Shows R image log → meets R image log a ≡ Waits b → IsWanted (history R image log) a → IsRight log Fetch (Low a b)
  low_right log p a b g k s met f =
      let t = wanting R image log a g f in
      let r = ready log p t.fetches f.run.visits f.run.held k s t.open_now t.cut t.goes in (
        tt,
        tt,
        tt,
        (λ vs F u j q d y.
            let h = subst (λ H. IsPicture H R u j) (same_Some _ _ (sym d ∙ r.shown)) y in
            let e = goes_in_time (least_draws r.half r.draft R r.checked) r.runs t.goes h in
            let len = ap length (same_Some _ _ (sym q ∙ t.open_now)) in
            let count = of_low log a b vs met in
            omega arith),
      )

  broke_right : (log : Log) (p : Place) (a : ℕ) (fault : GenFault) → IsLegal R image log → KeptBy image log p → Shows R image log → IsFetch (history R image log) a (fetched (ram image log) R a) (Fails fault) → ⊥
  broke_right log p a fault g k s f =
      let t = fetching R image log a (fetched (ram image log) R a) (Fails fault) g f in
      let r = ready log p t.fetches f.asked.run.visits f.asked.run.held k s t.open_now t.cut t.goes in
      let d = least_draws r.half r.draft R r.checked in
      let m = some_word d r.runs t.goes (frame_memory r.half r.draft R (wanted f.asked.run.visits f.asked.run.held)) refl in
      let here : fetched (ram image log) R a ≡ Some m.0 = ap (fetched (ram image log) R) t.at ∙ (sym r.memory ∙ m.1) in
      let u = stepped log p a m.0 (Fails fault) g k s here (subst (λ x. IsFetch (history R image log) a x (Fails fault)) here f) in
      let e = least_draws u.half u.draft R u.checked in
      e.safe.fault (length ((a, m.0) ∷ u.fetches)) u.visits u.held u.runs fault (fails_breaks u.held (fate u.visits) (strokes u.begun_with u.visits) fault u.replies)

  tick_shows : (log : Log) (p : Place) (action : Action) (q : Place) → length (ram image log) ≡ 0x800 → KeptBy image log p → Shows R image log → next_place p (Did action) ≡ Some q → place_of_life (Did action ∷ life image log) ≡ Some q → Shows R image ((Tick ⟼ Acted action) ∷ log)
  tick_shows log (Writing ws) (Wrote a b) q size k s e d = write_shows R image log ws a b q size k s e d (is_write (free_half image log) (byte image log 0) ws k.here.1 a b q e)
  tick_shows log p Peek q size k s e d = same_line R image log Tick (Acted Peek) s (λ v vs o. o) refl (λ a. refl) (λ n f. tt) (λ v vs f m. tt) (λ ws l. absurd (idle_lays image log Peek no_peek ws l))
  tick_shows log p (Read h) q size k s e d = same_line R image log Tick (Acted (Read h)) s (λ v vs o. o) refl (λ a. refl) (λ n f. tt) (λ v vs f m. tt) (λ ws l. absurd (idle_lays image log (Read h) (no_read h) ws l))
  tick_shows log p Sent q size k s e d = same_line R image log Tick (Acted Sent) s (λ v vs o. o) refl (λ a. refl) (λ n f. tt) (λ v vs f m. tt) (λ ws l. absurd (idle_lays image log Sent no_sent ws l))
  tick_shows log p Idle q size k s e d = same_line R image log Tick (Acted Idle) s (λ v vs o. o) refl (λ a. refl) (λ n f. tt) (λ v vs f m. tt) (λ ws l. absurd (idle_lays image log Idle no_idle ws l))
  tick_shows log _ (Wrote a b) q size k s e d = absurd (none-some q e)

  step : (log : Log) (p : Place) (event : Happening) (entry : Shown) → IsLegal R image log → IsEvent event → KeptBy image log p → Shows R image log → IsInMemory R image log event entry → Fits R image log event entry → Shows R image ((event ⟼ entry) ∷ log) × IsRight log event entry
  step log p (Offer F) (Refused fault) g i k s m f = (same_life R image log (Offer F) (Refused fault) s (λ v vs o. o) refl (λ a. refl) (λ n g. tt) (λ v vs g m. tt) refl refl, (tt, tt, tt, tt))
  step log p (Offer F) Busy g i k s m f = (same_life R image log (Offer F) Busy s (λ v vs o. o) refl (λ a. refl) (λ n g. tt) (λ v vs g m. tt) refl refl, (tt, tt, tt, tt))
  step log p (Offer F) Offered g i k s m f = (same_line R image log (Offer F) Offered s (λ v vs o. o) refl (λ a. refl) (λ n g. tt) (λ v vs g m. tt) (begun R image log F (record { draft = i; accepts = f.0; rom = rom_of R image log g }) f.1), (tt, tt, tt, tt))
  step log p Redraw NothingPublished g i k s m f = (same_life R image log Redraw NothingPublished s (λ v vs o. o) refl (λ a. refl) (λ n g. tt) (λ v vs g m. tt) refl refl, (tt, tt, tt, tt))
  step log p Redraw Busy g i k s m f = (same_life R image log Redraw Busy s (λ v vs o. o) refl (λ a. refl) (λ n g. tt) (λ v vs g m. tt) refl refl, (tt, tt, tt, tt))
  step log p Redraw Asked g i k s m f = (same_line R image log Redraw Asked s (λ v vs o. o) refl (λ a. refl) (λ n g. tt) (λ v vs g m. tt) (λ ws l. absurd (ask_lays log ws f.1 l)), (tt, tt, tt, tt))
    where
      ask_lays : (log : Log) (ws : List (ℕ × ℕ)) → IsWhole (life image log) → option_and_then (λ p. next_place p Script.Asked) (place_of_life (life image log)) ≡ Some (Writing ws) → ⊥
      ask_lays log ws w l = let r = whole_rests (life image log) w in let d = rw r.1 at l in cc
  step log p Tick (Acted action) g i k s m f =
      let after = life_place (Did action ∷ life image log) f.0 in
      let before = place_before (Did action) (life image log) after.0 after.1 in
      (tick_shows log p action after.0 (sized R image log g) k s (ap (λ p. next_place p (Did action)) (same_place (life image log) p before.0 k.stands before.1) ∙ before.2) after.1, (tt, tt, tt, tt))
  step log p Strobe Started g i k s m f = (same_life R image log Strobe Started s (λ v vs o. absurd (not_begun v vs o)) refl (λ a. refl) (λ n g. tt) (λ v vs g m. tt) refl refl, (tt, tt, tt, tt))
  step log p Strobe NoStrobe g i k s m f = (same_life R image log Strobe NoStrobe s (λ v vs o. o) refl (λ a. refl) (λ n g. tt) (λ v vs g m. tt) refl refl, (tt, tt, tt, tt))
  step log p Fetch Still g i k s m f = (same_life R image log Fetch Still s (λ v vs o. o) refl (λ a. refl) (λ n g. tt) (λ v vs g m. tt) refl refl, (tt, tt, tt, tt))
  step log p Fetch (Low a b) g i k s m f = (same_life R image log Fetch (Low a b) s (λ v vs o. o) refl (λ a. refl) (λ n g. tt) (λ v vs g m. tt) refl refl, low_right log p a b g k s f.0 f.1)
  step log p Fetch (Fetched a w) g i k s m f = (let t = stepped log p a w More g k s m f.1 in (fetch_shows log a w s t, goes_right log a w f.0 t))
  step log p Fetch (Done a w d) g i k s m f =
      let t = stepped log p a w (Drew d) g k s m f.1 in (
        same_life R image log Fetch (Done a w d) s (λ v vs o. absurd (none-some (v ∷ vs) o)) refl (λ a. refl) (λ m b n z. rise log t.fetches n m s t.open_now z b) (λ v vs b m. absurd (none-some (v ∷ vs) b)) refl refl,
        done_right log a w d s f.0 t,
      )
  step log p Fetch (Broke a fault) g i k s m f =
      absurd (broke_right log p a fault g k s (subst (λ w. IsFetch (history R image log) a w (Fails fault)) (same_Whole (sym f.1 ∙ m)) f.2))
  step log p ResetGen Cleared g i k s m f = (same_life R image log ResetGen Cleared s (λ v vs o. absurd (none-some (v ∷ vs) o)) refl (λ a. refl) (λ n g. tt) (λ v vs g m. tt) refl refl, (tt, tt, tt, tt))
  step log p ResetCpu Cleared g i k s m f = (same_line R image log ResetCpu Cleared s (λ v vs o. o) refl (λ a. refl) (λ n g. tt) (λ v vs g m. tt) (λ ws l. absurd (not_at_start ws l)), (tt, tt, tt, tt))
  step log p (ResetAll bytes) Cleared g i k s m f = (
    record { now = λ f. absurd (none-some f.0 f.1); laying = λ ws l. absurd (not_at_start ws l); running = λ v vs e. absurd (none-some (v ∷ vs) e); newest = λ n e. absurd (none-some n e); run_newest = λ v vs n e z. absurd (none-some (v ∷ vs) e); rises = λ v vs n m e z y. absurd (none-some (v ∷ vs) e) },
    (tt, tt, tt, tt),
  )
  step log p _ _ g i k s m f = absurd f

  pub shows : (log : Log) → IsLegal R image log → Throughout (IsInMemory R image) log → Shows R image log × Throughout IsRight log
  shows [] l m = (record { now = λ f. absurd (none-some f.0 f.1); laying = λ ws l. absurd (not_at_start ws l); running = λ v vs e. absurd (none-some (v ∷ vs) e); newest = λ n e. absurd (none-some n e); run_newest = λ v vs n e z. absurd (none-some (v ∷ vs) e); rises = λ v vs n m e z y. absurd (none-some (v ∷ vs) e) }, tt)
  shows ((event ⟼ entry) ∷ log) l m =
      let before = shows log l.2 m.1 in
      let k = kept R image log l.2 m.1 in
      let t = step log k.0 event entry l.2 l.1 k.1 before.0 m.0 l.0 in
      (t.0, (t.1, before.1))
