-- The laws of progress need premises: for each that is left out here there is a legal log in which
-- the others hold, and what the law says doesn't. By the law itself it is the premise left out of a
-- lemma that fails there.
use Rattle.std.proofs.Common.{◌≡◌, ℕ, zero, suc, true, false, List, [], ◌∷◌, ◌++◌, length, replicate, Option, Some, pos, negsuc, lit<, lit≤, refl, sym, ap, ◌*◌, ◌+◌}
use Rattle.std.specs.Prelude.{◌≢◌, None, is_none, option_and_then, reverse}
use Rattle.std.specs.List.{AllByRecursion}
use Rattle.dvg_mem.specs.Memory.{IsImage}
use Rattle.dvg_frame.specs.declared.op.OpKind.{OpKind}
use Rattle.dvg_frame.specs.Layout.{size}
use Rattle.dvg_code.specs.declared.instr.Instr.TheVariants.{Vctr, Labs, Halt, Jmpl}
use Rattle.dvg_code.specs.Spelling.{labs, halt, jmpl}
use Rattle.dvg_code.proofs.Rows.{long_vector}
use Rattle.dvg_gen.specs.declared.stroke.Stroke.{Stroke}
use Rattle.dvg_gen.specs.Bytes.{Waits, Whole}
use Rattle.dvg_gen.specs.Run.{Visit, Adds, first as opens, one as alone, two as closes}
use Rattle.dvg_gen.specs.Told.{Fed, Newest, grown, begun as begun_run, Leaves, starts, takes, More, Drew, reply, wants}
use Rattle.dvg_driver.specs.declared.action.Action.{Action}
use Rattle.dvg_driver.specs.declared.action.Action.TheVariants.{Peek, Wrote, Read, Sent, Idle}
use Rattle.dvg_driver.specs.Script.{Did, wrote, frame_writes}
use Rattle.dvg_driver.specs.Place.{Booting, Resting, Waiting, next_place, place_of_life}
use Rattle.dvg_log.specs.Events.{Happening}
use Rattle.dvg_log.specs.declared.event.Event.TheVariants.{Offer, Strobe, Fetch, Tick, ResetGen, ResetCpu, ResetAll}
use Rattle.dvg_log.specs.Entries.{Shown}
use Rattle.dvg_log.specs.declared.entry.Entry.TheVariants.{Offered, Acted, Started, Low, Done, Still, Cleared}
use Rattle.dvg_log.specs.Log.{◌⟼◌, Log, Throughout, meets, history, life, free_half, open_run, published}
use Rattle.dvg_log.specs.Legal.{IsLegal, IsWanted}
use Rattle.dvg_theorem.proofs.Rows.{flip_between_the_bytes, restarted_run}
use Rattle.dvg_progress.specs.Progress.{Without, ticks, fetched_since, DrawsOnce}
use Rattle.dvg_progress.proofs.FirstPicture.{zeros, booted, frame, stroke, did, first_writes, all_writes, writes, accepted, accepted_legal, sends, begun, begun_legal, fetched, words, but_last, draws, legal, ticks_apart, draws_apart, is_shown, did_more}

pub is_image : IsImage zeros
is_image = accepted_legal.2.2.2.1

-- ticks of a driver that was reset: it peeks, reads and idles
abbrev pub idled : ℕ → List Action
idled count = replicate count Idle ++ (Read true ∷ Peek ∷ [])

pub idles : (log : Log) → IsLegal zeros zeros log → life zeros log ≡ [] → open_run log ≡ None
    → (count : ℕ) → IsLegal zeros zeros (did (idled count) ++ log)
    × (place_of_life (life zeros (did (idled count) ++ log)) ≡ Some (Resting true))
    × (open_run (did (idled count) ++ log) ≡ None)
idles log l new none zero =
    let peeked = ap (λ items. place_of_life (Did Peek ∷ items)) new in
    let read = ap (λ items. place_of_life (Did (Read true) ∷ Did Peek ∷ items)) new in
    let once = did_more log Peek Booting l peeked tt in (
      did_more ((Tick ⟼ Acted Peek) ∷ log) (Read true) (Resting true) once read (sym (ap is_none none)),
      read,
      none,
    )
idles log l new none (suc count) =
    let before = idles log l new none count in
    let stands = ap (option_and_then (λ place. next_place place (Did Idle))) before.1 in (
      did_more (did (idled count) ++ log) Idle (Resting true) before.0 stands tt,
      stands,
      before.2,
    )

-- fetches at which no run is open
abbrev pub stood : ℕ → Log
stood count = replicate count (Fetch ⟼ Still)

pub stands_still : (log : Log) → IsLegal zeros zeros log → open_run log ≡ None → (count : ℕ)
    → IsLegal zeros zeros (stood count ++ log) × (open_run (stood count ++ log) ≡ None)
stands_still log l none zero = (l, none)
stands_still log l none (suc count) =
    let before = stands_still log l none count in ((before.1, tt, before.0), before.1)

pub stood_apart : (events : List Happening) (log : Log) → AllByRecursion (λ e. Fetch ≢ e) events
    → Without events log → (count : ℕ) → Without events (stood count ++ log)
stood_apart events log fetch apart zero = apart
stood_apart events log fetch apart (suc count) = (fetch, stood_apart events log fetch apart count)

-- published_in_time: of these 12 ticks, or as many as the law says, none publishes the frame
abbrev PublishesNothing : Log → Type 0
PublishesNothing later = IsLegal zeros zeros (later ++ accepted) × ¬ (published (later ++ accepted) ≡ Some frame)

-- the processor is reset in between
pub published_needs_the_processor :
    let later = did (idled 10) ++ (ResetCpu ⟼ Cleared) ∷ [] in
    PublishesNothing later × Without [] later × (ticks later ≡ 2 * size frame + 2)
published_needs_the_processor =
    let reset = idles ((ResetCpu ⟼ Cleared) ∷ accepted) (tt, tt, accepted_legal) refl refl 10 in
    ((reset.0, λ e. cc), _, refl)

-- the whole system is reset in between
pub published_needs_the_system :
    let later = did (idled 10) ++ (ResetAll zeros ⟼ Cleared) ∷ [] in
    PublishesNothing later × (ticks later ≡ 2 * size frame + 2)
published_needs_the_system =
    let reset : Log = (ResetAll zeros ⟼ Cleared) ∷ accepted in
    (((idles reset (tt, is_image, accepted_legal) refl refl 10).0, λ e. cc), refl)

-- one tick less comes
pub published_needs_the_last_tick :
    let later = did first_writes in
    PublishesNothing later × Without (ResetCpu ∷ []) later
    × (suc (ticks later) ≡ 2 * size frame + 2)
published_needs_the_last_tick = ((begun_legal.2.2.2.2, λ e. cc), ticks_apart first_writes, refl)

-- a tick more comes: the life has the writes, and the read after them
pub published_needs_no_more :
    let later = did (Read true ∷ all_writes) in
    IsLegal zeros zeros (later ++ accepted) × Without (ResetCpu ∷ []) later
    × (ticks later ≡ suc (2 * size frame + 2))
    × ¬ (life zeros (later ++ accepted)
    ≡ reverse (wrote (frame_writes (free_half zeros booted) frame true)) ++ life zeros accepted)
published_needs_no_more = (begun_legal.2.2, ticks_apart (Read true ∷ all_writes), refl, λ e. cc)

-- drawn_in_time: there is no frame of which the log's later part holds one `done` alone, in time
abbrev DrawsNoneOnce : Log → Type 0
DrawsNoneOnce later = IsLegal zeros zeros (later ++ begun)
    × ((F : List OpKind) (n : ℕ) → ¬ DrawsOnce F zeros n begun later)

-- the run is still open, after 11 fetches
pub drawn_needs_the_end : DrawsNoneOnce but_last × Without (Strobe ∷ ResetGen ∷ []) but_last
drawn_needs_the_end = ((legal.2, λ F n once. once), draws_apart.1)

-- the generator is reset, and then 12 fetches come
pub drawn_needs_the_generator :
    let later = stood 12 ++ (ResetGen ⟼ Cleared) ∷ [] in
    DrawsNoneOnce later × (open_run (later ++ begun) ≡ None) × (fetched_since (later ++ begun) ≡ 12)
    × Without (Strobe ∷ []) later
drawn_needs_the_generator =
    let reset : Log = (ResetGen ⟼ Cleared) ∷ [] in
    let still = stands_still (reset ++ begun) (tt, tt, begun_legal) refl 12 in
    let apart = stood_apart (Strobe ∷ []) reset (λ e. cc, tt) ((λ e. cc, tt), tt) 12 in
    ((still.0, λ F n once. once), still.1, refl, apart)

-- the whole system is reset, and then 12 fetches come
pub drawn_needs_the_system :
    let later = stood 12 ++ (ResetAll zeros ⟼ Cleared) ∷ [] in
    DrawsNoneOnce later × (open_run (later ++ begun) ≡ None) × (fetched_since (later ++ begun) ≡ 12)
drawn_needs_the_system =
    let reset : Log = (ResetAll zeros ⟼ Cleared) ∷ begun in
    let still = stands_still reset (tt, is_image, begun_legal) refl 12 in
    ((still.0, λ F n once. once), still.1, refl)

-- sent_in_time: of these two ticks after a flip the first doesn't read `halted`, or the next one
-- doesn't send the strobe
abbrev SendsNothing : Log → Log → Shown → Log → Shown → Type 0
SendsNothing flipped wait first rest next =
    IsLegal zeros zeros ((Tick ⟼ next) ∷ rest ++ (Tick ⟼ first) ∷ wait ++ flipped)
    × ¬ ((first ≡ Acted (Read true)) × (next ≡ Acted Sent))

-- no tick of the wait finds that no run is open
abbrev WaitsForRun : Log → Log → Type 0
WaitsForRun flipped wait = Throughout (λ log event entry. event ≡ Tick → open_run (log ++ flipped) ≢ None) wait

abbrev pub flipped : Log
flipped = writes ++ accepted

-- the processor is reset after the flip: the first tick peeks, and the next one reads
pub sent_needs_the_processor :
    let wait = (ResetCpu ⟼ Cleared) ∷ [] in
    SendsNothing flipped wait (Acted Peek) [] (Acted (Read true)) × WaitsForRun flipped wait
    × (open_run (wait ++ flipped) ≡ None) × Without [] wait
sent_needs_the_processor =
    let reset : Log = (ResetCpu ⟼ Cleared) ∷ flipped in
    (((idles reset (tt, tt, begun_legal.2.2.2) refl refl 0).0, λ is. cc), (λ e. cc, tt), refl, _)

-- the whole system is reset after the flip
pub sent_needs_the_system :
    let wait = (ResetAll zeros ⟼ Cleared) ∷ [] in
    SendsNothing flipped wait (Acted Peek) [] (Acted (Read true)) × WaitsForRun flipped wait
    × (open_run (wait ++ flipped) ≡ None)
sent_needs_the_system =
    let reset : Log = (ResetAll zeros ⟼ Cleared) ∷ flipped in
    let ticked = (idles reset (tt, is_image, begun_legal.2.2.2) refl refl 0).0 in
    ((ticked, λ is. cc), (λ e. cc, tt), refl)

idle_after : IsLegal zeros zeros ((Tick ⟼ Acted Idle) ∷ sends ++ flipped)
idle_after = did_more (sends ++ flipped) Idle (Resting false) begun_legal.2 refl tt

-- the first tick at which no run is open is over: the one after it sends the strobe
pub sent_needs_the_first_tick :
    let wait = did (Read true ∷ []) in
    SendsNothing flipped wait (Acted Sent) [] (Acted Idle) × (open_run (wait ++ flipped) ≡ None)
    × Without (ResetCpu ∷ []) wait
sent_needs_the_first_tick = ((idle_after, λ is. cc), refl, ticks_apart (Read true ∷ []))

-- there is a tick between the two: it sends the strobe
pub sent_needs_the_next_tick :
    let rest = did (Sent ∷ []) in
    SendsNothing flipped [] (Acted (Read true)) rest (Acted Idle) × WaitsForRun flipped []
    × (open_run flipped ≡ None) × Without (ResetCpu ∷ []) rest
sent_needs_the_next_tick = ((idle_after, λ is. cc), _, refl, ticks_apart (Sent ∷ []))

-- the same frame again, to the other half, and a strobe that is repeated before its flip
abbrev flipped_again : Log
flipped_again =
    (Tick ⟼ Acted (Wrote 0x001 0xE0)) ∷ (Fetch ⟼ Low 0x000 0x01) ∷ (Strobe ⟼ Started)
    ∷ did (
    Wrote 0x00B 0xB0 ∷ Wrote 0x00A 0x00 ∷ Wrote 0x009 0x74 ∷ Wrote 0x008 0x64
    ∷ Wrote 0x007 0x90 ∷ Wrote 0x006 0x64 ∷ Wrote 0x005 0x02 ∷ Wrote 0x004 0x00
    ∷ Wrote 0x003 0xA1 ∷ Wrote 0x002 0x90 ∷ []
    ) ++ (Offer frame ⟼ Offered) ∷ draws ++ begun

-- a run is open at the tick: it reads `running`
pub sent_needs_the_end :
    SendsNothing flipped_again [] (Acted (Read false)) [] (Acted (Read false))
    × WaitsForRun flipped_again [] × Without (ResetCpu ∷ []) []
sent_needs_the_end =
    let flips : IsLegal zeros zeros flipped_again = flip_between_the_bytes.2 in
    let read = did_more flipped_again (Read false) (Waiting false) flips refl refl in
    let log : Log = (Tick ⟼ Acted (Read false)) ∷ flipped_again in
    ((did_more log (Read false) (Waiting false) read refl refl, λ is. cc), _, _)

-- a run goes on by a word, in two fetches
pub more : (log : Log) (run : Newest) (address low word : ℕ) (visits : List Visit) (held : Option ℕ)
    → IsLegal zeros zeros log → Leaves (history zeros zeros log) run → run.is_open ≡ true
    → wants run ≡ Some address → meets zeros zeros log address ≡ Waits low
    → meets zeros zeros ((Fetch ⟼ Low address low) ∷ log) address ≡ Whole (Some word)
    → Adds run.visits run.held word visits held → reply (Some word) (grown run visits held) ≡ More
    → IsLegal zeros zeros (fetched ((address, low, word) ∷ []) ++ log)
    × Leaves (Fed (Some word) ∷ history zeros zeros log) (grown run visits held)
more log run address low word visits held l leaves is_open wanted half whole adds replies =
    let asked : IsWanted (history zeros zeros log) address =
    record { run = run; leaves = leaves; wanted = wanted } in
    let grows = takes leaves is_open adds in (
      (
        (whole, record { asked = asked; later = grown run visits held; leaves_later = grows; replies = replies }),
        tt,
        ((half, asked), tt, l),
      ),
      grows,
    )

-- the run's last word, in two fetches
pub last : (log : Log) (run : Newest) (address low word : ℕ) (visits : List Visit)
    (drew : List Stroke) → IsLegal zeros zeros log → Leaves (history zeros zeros log) run
    → run.is_open ≡ true → wants run ≡ Some address → meets zeros zeros log address ≡ Waits low
    → meets zeros zeros ((Fetch ⟼ Low address low) ∷ log) address ≡ Whole (Some word)
    → Adds run.visits run.held word visits None → reply (Some word) (grown run visits None) ≡ Drew drew
    → IsLegal zeros zeros ((Fetch ⟼ Done address word drew) ∷ (Fetch ⟼ Low address low) ∷ log)
last log run address low word visits drew l leaves is_open wanted half whole adds replies =
    let asked : IsWanted (history zeros zeros log) address =
    record { run = run; leaves = leaves; wanted = wanted } in
    let grows = takes leaves is_open adds in (
      (whole, record { asked = asked; later = grown run visits None; leaves_later = grows; replies = replies }),
      tt,
      ((half, asked), tt, l),
    )

-- the strobe comes again after the first picture
abbrev pub again : Log
again = (Strobe ⟼ Started) ∷ draws

again_legal : IsLegal zeros zeros (again ++ begun)
again_legal = (refl, tt, legal)

module _ (before : Newest)
    (leaves : Leaves (history zeros zeros (again ++ begun)) (begun_run before)) where
  abbrev run : List Visit → Option ℕ → Newest
  run visits held = grown (begun_run before) visits held

  abbrev jumped : List Visit
  jumped = record { place = 0; code = Jmpl 0x201 } ∷ []

  abbrev placed : List Visit
  placed = record { place = 0x201; code = Labs 512 400 0 } ∷ jumped

  abbrev moved : List Visit
  moved = record { place = 0x203; code = Vctr 9 (negsuc 99) (pos 100) 7 } ∷ placed

  twice_legal : IsLegal zeros zeros (draws ++ (again ++ begun))
  twice_legal =
      let one_word = more (again ++ begun) (begun_run before) 0x000 0x01 0xE201 jumped None
      again_legal leaves refl refl refl refl (alone (jmpl (lit≤ tt) refl)) refl in
      let at1 : Log = fetched ((0x000, 0x01, 0xE201) ∷ []) ++ (again ++ begun) in
      let two_words = more at1 (run jumped None) 0x201 0x90 0xA190 jumped (Some 0xA190) one_word.0
      one_word.1 refl refl refl refl (opens (lit< tt)) refl in
      let at2 : Log = fetched ((0x201, 0x90, 0xA190) ∷ []) ++ at1 in
      let three = more at2 (run jumped (Some 0xA190)) 0x202 0x00 0x0200 placed None two_words.0
      two_words.1 refl refl refl refl
      (closes (labs (lit≤ tt, lit≤ tt, lit≤ tt) refl refl)) refl in
      let at3 : Log = fetched ((0x202, 0x00, 0x0200) ∷ []) ++ at2 in
      let four = more at3 (run placed None) 0x203 0x64 0x9064 placed (Some 0x9064) three.0 three.1
      refl refl refl refl (opens (lit< tt)) refl in
      let at4 : Log = fetched ((0x203, 0x64, 0x9064) ∷ []) ++ at3 in
      let five = more at4 (run placed (Some 0x9064)) 0x204 0x64 0x7464 moved None four.0 four.1 refl
      refl refl refl (closes long_vector) refl in
      let at5 : Log = fetched ((0x204, 0x64, 0x7464) ∷ []) ++ at4 in
      last at5 (run moved None) 0x205 0x00 0xB000 (record { place = 0x205; code = Halt } ∷ moved)
      stroke five.0 five.1 refl refl refl refl (alone (halt (lit≤ tt) (lit< tt))) refl

pub twice : IsLegal zeros zeros (draws ++ (again ++ begun))
twice = let done = legal.0.1 in twice_legal done.later (starts done.leaves_later)

-- what both parts are without, the whole is without
pub joined : (events : List Happening) (one other : Log) → Without events one → Without events other
    → Without events (one ++ other)
joined events [] other new old = old
joined events ((ResetAll bytes ⟼ entry) ∷ one) other new old = absurd new
joined events ((event ⟼ entry) ∷ one) other new old = (new.0, joined events one other new.1 old)

no_reset : (log : Log) → Without (Strobe ∷ ResetGen ∷ []) log → Without (ResetGen ∷ []) log
no_reset [] apart = tt
no_reset ((ResetAll bytes ⟼ entry) ∷ log) apart = absurd apart
no_reset ((event ⟼ entry) ∷ log) apart = (apart.0.1, no_reset log apart.1)

-- no line is `done`
abbrev NoneDone : Log → Type 0
NoneDone log = Throughout (λ _ _ entry. (a w : ℕ) (s : List Stroke) → entry ≢ Done a w s) log

older_done : (one other : Log) → NoneDone (one ++ other) → NoneDone other
older_done [] other none = none
older_done ((event ⟼ entry) ∷ one) other none = older_done one other none.1

fetches_done : (words : List (ℕ × ℕ × ℕ)) (log : Log) → NoneDone log → NoneDone (fetched words ++ log)
fetches_done [] log none = none
fetches_done (it ∷ words) log none = (λ a w s e. cc, (λ a w s e. cc, fetches_done words log none))

-- another strobe comes after the run is over, and there are two lines `done`
pub drawn_needs_no_strobe :
    let later = draws ++ again in
    DrawsNoneOnce later × (open_run (later ++ begun) ≡ None) × Without (ResetGen ∷ []) later
drawn_needs_no_strobe =
    let draws_on = no_reset draws draws_apart in (
      (twice, λ F n once. (older_done (but_last ++ (Strobe ⟼ Started) ∷ []) draws once.3).0 0x205 0xB000 stroke refl),
      refl,
      joined (ResetGen ∷ []) draws again draws_on ((λ e. cc, tt), draws_on),
    )

-- a strobe that comes amid the run begins another one, and the law counts that one's fetches: what
-- it says holds here, and the one `done` is fetch number 22 since the first strobe
pub restarts :
    let later = draws ++ (Strobe ⟼ Started) ∷ fetched words in
    IsLegal zeros zeros (later ++ begun) × (open_run (later ++ begun) ≡ None)
    × (length later ≡ 22 + 1) × DrawsOnce frame zeros 6 begun later
restarts =
    let early = fetches_done words [] tt in
    let done = fetches_done words ((Strobe ⟼ Started) ∷ fetched words) (λ a w s e. cc, early) in
    (restarted_run, refl, refl, (refl, is_shown.1, refl, (λ a w s e. cc, done)))
