-- `shown_in_time` needs its premises: for each that is left out here there is a legal log in which
-- the others hold, and what the law says doesn't.
use Rattle.std.proofs.Common.{◌≡◌, ℕ, zero, suc, true, false, List, [], ◌∷◌, ◌++◌, replicate, ◌≤◌, lit≤, refl, ◌*◌, ◌+◌}
use Rattle.std.specs.Prelude.{None}
use Rattle.dvg_frame.specs.Layout.{size}
use Rattle.dvg_driver.specs.declared.action.Action.{Action}
use Rattle.dvg_driver.specs.declared.action.Action.TheVariants.{Wrote, Read, Idle}
use Rattle.dvg_log.specs.declared.event.Event.TheVariants.{Strobe, ResetGen, ResetCpu, ResetAll}
use Rattle.dvg_log.specs.Entries.{Shown}
use Rattle.dvg_log.specs.declared.entry.Entry.TheVariants.{Started, NoStrobe, Cleared}
use Rattle.dvg_log.specs.Log.{◌⟼◌, Log, open_run, strobed}
use Rattle.dvg_log.specs.Legal.{IsLegal}
use Rattle.dvg_progress.specs.Progress.{Without, ticks, fetched_since, DrawsOnce}
use Rattle.dvg_progress.proofs.FirstPicture.{zeros, frame, did, first_writes, all_writes, writes, accepted, accepted_legal, sending, sends, begun, begun_legal, words, but_last, draws, legal, ticks_apart, waits_apart, draws_apart, NoFrame, ticks_accept, fetches_accept}
use Rattle.dvg_progress.proofs.Needed.{again, drawn_needs_no_strobe, drawn_needs_the_generator, drawn_needs_the_system, flipped, idled, idles, is_image, stands_still, stood, stood_apart, twice}

-- shown_in_time: the driver that has booted accepts the frame, whose bound is 6, and no other one;
-- no run is open once it is written; and after the strobe the frame isn't drawn once. That what is
-- open halts, and that no strobe comes before this one, isn't needed (`Sooner`)
abbrev pub Undrawn : ℕ → Log → Log → Shown → Log → Type 0
Undrawn n write send entry draw =
    let started = (Strobe ⟼ entry) ∷ send ++ (write ++ accepted) in
    IsLegal zeros zeros (draw ++ started) × NoFrame (draw ++ (send ++ write))
    × (open_run (write ++ accepted) ≡ None) × ¬ DrawsOnce frame zeros n started draw

-- the other premises, of each part of the log
abbrev pub IsWriting : Log → Type 0
IsWriting write = Without (ResetCpu ∷ []) write × (2 * size frame + 2 ≤ ticks write)

abbrev pub IsSending : Log → Type 0
IsSending send = Without (Strobe ∷ ResetCpu ∷ []) send × (2 ≤ ticks send)

abbrev pub IsDrawing : ℕ → Log → Log → Type 0
IsDrawing n started draw = Without (Strobe ∷ ResetGen ∷ []) draw × (2 * n ≤ fetched_since (draw ++ started))

-- no strobe was sent: the strobe that comes is none, and 12 fetches come at which no run is open
abbrev NeverBegun : Log → Log → Type 0
NeverBegun write send = Undrawn 6 write send NoStrobe (stood 12)
    × IsDrawing 6 ((Strobe ⟼ NoStrobe) ∷ send ++ (write ++ accepted)) (stood 12)

ticks_accept_too : (actions : List Action) (log : Log) → NoFrame log → NoFrame (did actions ++ log)
ticks_accept_too [] log none = none
ticks_accept_too (action ∷ actions) log none = (λ e. cc, ticks_accept_too actions log none)

pub fetches_stand : (count : ℕ) (log : Log) → NoFrame log → NoFrame (stood count ++ log)
fetches_stand zero log none = none
fetches_stand (suc count) log none = (λ e. cc, fetches_stand count log none)

never_begun : (write send : Log) → let log = send ++ (write ++ accepted) in IsLegal zeros zeros log
    → NoFrame (send ++ write) → open_run (write ++ accepted) ≡ None → open_run log ≡ None
    → strobed log ≡ false → 12 ≤ fetched_since (stood 12 ++ (Strobe ⟼ NoStrobe) ∷ log) → NeverBegun write send
never_begun write send l frames closed none dark count =
    let log : Log = (Strobe ⟼ NoStrobe) ∷ send ++ (write ++ accepted) in
    let apart = stood_apart (Strobe ∷ ResetGen ∷ []) [] (λ e. cc, (λ e. cc, tt)) tt 12 in (
      ((stands_still log (dark, tt, l) none 12).0, fetches_stand 12 (send ++ write) frames, closed, λ once. once),
      (apart, count),
    )

but_last_accepts : NoFrame (but_last ++ (sends ++ writes))
but_last_accepts = (λ e. cc, fetches_accept words (sends ++ writes) (ticks_accept (sending ++ all_writes)))

-- the processor is reset while the frame is written
pub shown_needs_the_processor :
    let write = did (idled 10) ++ (ResetCpu ⟼ Cleared) ∷ [] in let send = did (replicate 2 Idle) in
    NeverBegun write send × Without [] write × (2 * size frame + 2 ≤ ticks write)
    × IsSending send
shown_needs_the_processor =
    let reset : Log = (ResetCpu ⟼ Cleared) ∷ [] in
    let idle = (idles (reset ++ accepted) (tt, tt, accepted_legal) refl refl 12).0 in (
      never_begun (did (idled 10) ++ reset) (did (replicate 2 Idle)) idle
          (ticks_accept_too (idled 12) reset (λ e. cc, tt)) refl refl refl (lit≤ tt),
      _,
      lit≤ tt,
      (waits_apart (replicate 2 Idle), lit≤ tt),
    )

-- the whole system is reset while the frame is written
pub shown_needs_the_system :
    let write = did (idled 10) ++ (ResetAll zeros ⟼ Cleared) ∷ [] in
    let send = did (replicate 2 Idle) in
    NeverBegun write send × (2 * size frame + 2 ≤ ticks write) × IsSending send
shown_needs_the_system =
    let reset : Log = (ResetAll zeros ⟼ Cleared) ∷ [] in
    let idle = (idles (reset ++ accepted) (tt, is_image, accepted_legal) refl refl 12).0 in (
      never_begun (did (idled 10) ++ reset) (did (replicate 2 Idle)) idle
          (ticks_accept_too (idled 12) reset (λ e. cc, tt)) refl refl refl (lit≤ tt),
      lit≤ tt,
      (waits_apart (replicate 2 Idle), lit≤ tt),
    )

-- a tick less comes for the writes: the flip comes next, and no tick is left for the strobe
pub shown_needs_the_last_write :
    let write = did first_writes in let send = did (Read true ∷ Wrote 0x001 0xE2 ∷ []) in
    NeverBegun write send × Without (ResetCpu ∷ []) write
    × (suc (ticks write) ≡ 2 * size frame + 2) × IsSending send
shown_needs_the_last_write =
    let sent : List Action = Read true ∷ Wrote 0x001 0xE2 ∷ [] in (
      never_begun (did first_writes) (did sent) begun_legal.2.2
          (ticks_accept (sent ++ first_writes)) refl refl refl (lit≤ tt),
      ticks_apart first_writes,
      refl,
      (waits_apart sent, lit≤ tt),
    )

-- a tick less comes for the strobe, which isn't sent
pub shown_needs_the_next_tick :
    let send = did (Read true ∷ []) in
    NeverBegun writes send × IsWriting writes × Without (Strobe ∷ ResetCpu ∷ []) send
    × (suc (ticks send) ≡ 2)
shown_needs_the_next_tick = (
  never_begun writes (did (Read true ∷ [])) begun_legal.2.2
      (ticks_accept (Read true ∷ all_writes)) refl refl refl (lit≤ tt),
  (ticks_apart all_writes, lit≤ tt),
  waits_apart (Read true ∷ []),
  refl,
)

-- the processor is reset before the strobe is sent
pub shown_needs_the_sender :
    let send = did (idled 0) ++ (ResetCpu ⟼ Cleared) ∷ [] in
    NeverBegun writes send × IsWriting writes × Without (Strobe ∷ []) send × (2 ≤ ticks send)
shown_needs_the_sender =
    let reset : Log = (ResetCpu ⟼ Cleared) ∷ [] in
    let read = (idles (reset ++ flipped) (tt, tt, begun_legal.2.2.2) refl refl 0).0 in (
      never_begun writes (did (idled 0) ++ reset) read
          (ticks_accept_too (idled 0) (reset ++ writes) (λ e. cc, ticks_accept all_writes)) refl
          refl refl (lit≤ tt),
      (ticks_apart all_writes, lit≤ tt),
      ((λ e. cc, tt), ((λ e. cc, tt), ((λ e. cc, tt), tt))),
      lit≤ tt,
    )

-- the whole system is reset before the strobe is sent
pub shown_needs_what_was_written :
    let send = did (idled 0) ++ (ResetAll zeros ⟼ Cleared) ∷ [] in
    NeverBegun writes send × IsWriting writes × (2 ≤ ticks send)
shown_needs_what_was_written =
    let reset : Log = (ResetAll zeros ⟼ Cleared) ∷ [] in
    let read = (idles (reset ++ flipped) (tt, is_image, begun_legal.2.2.2) refl refl 0).0 in (
      never_begun writes (did (idled 0) ++ reset) read
          (ticks_accept_too (idled 0) (reset ++ writes) (λ e. cc, ticks_accept all_writes)) refl
          refl refl (lit≤ tt),
      (ticks_apart all_writes, lit≤ tt),
      lit≤ tt,
    )

-- a fetch less comes: the run is open
pub shown_needs_the_last_fetch :
    Undrawn 6 writes sends Started but_last × IsWriting writes × IsSending sends
    × Without (Strobe ∷ ResetGen ∷ []) but_last × (suc (fetched_since (but_last ++ begun)) ≡ 12)
shown_needs_the_last_fetch = (
  (legal.2, but_last_accepts, refl, λ once. once),
  (ticks_apart all_writes, lit≤ tt),
  (waits_apart sending, lit≤ tt),
  draws_apart.1,
  refl,
)

-- another strobe comes after the picture, and with its 12 fetches a second one
pub shown_needs_no_strobe :
    let draw = draws ++ again in
    Undrawn 6 writes sends Started draw × IsWriting writes × IsSending sends
    × Without (ResetGen ∷ []) draw × (12 ≤ fetched_since (draw ++ begun))
shown_needs_no_strobe = (
  (
    twice,
    (λ e. cc, (λ e. cc, fetches_accept words (again ++ (sends ++ writes)) (λ e. cc, (λ e. cc, but_last_accepts)))),
    refl,
    drawn_needs_no_strobe.0.1 frame 6,
  ),
  (ticks_apart all_writes, lit≤ tt),
  (waits_apart sending, lit≤ tt),
  drawn_needs_no_strobe.2,
  lit≤ tt,
)

-- the generator is reset, and then 12 fetches come
pub shown_needs_the_generator :
    let draw = stood 12 ++ (ResetGen ⟼ Cleared) ∷ [] in
    Undrawn 6 writes sends Started draw × IsWriting writes × IsSending sends
    × Without (Strobe ∷ []) draw × (12 ≤ fetched_since (draw ++ begun))
shown_needs_the_generator =
    let reset : Log = (ResetGen ⟼ Cleared) ∷ sends ++ writes in (
      (
        drawn_needs_the_generator.0.0,
        fetches_stand 12 reset (λ e. cc, ticks_accept (sending ++ all_writes)),
        refl,
        drawn_needs_the_generator.0.1 frame 6,
      ),
      (ticks_apart all_writes, lit≤ tt),
      (waits_apart sending, lit≤ tt),
      drawn_needs_the_generator.3,
      lit≤ tt,
    )

-- the whole system is reset, and then 12 fetches come
pub shown_needs_the_memory :
    let draw = stood 12 ++ (ResetAll zeros ⟼ Cleared) ∷ [] in
    Undrawn 6 writes sends Started draw × IsWriting writes × IsSending sends
    × (12 ≤ fetched_since (draw ++ begun))
shown_needs_the_memory =
    let reset : Log = (ResetAll zeros ⟼ Cleared) ∷ sends ++ writes in (
      (
        drawn_needs_the_system.0.0,
        fetches_stand 12 reset (λ e. cc, ticks_accept (sending ++ all_writes)),
        refl,
        drawn_needs_the_system.0.1 frame 6,
      ),
      (ticks_apart all_writes, lit≤ tt),
      (waits_apart sending, lit≤ tt),
      lit≤ tt,
    )

-- 7 is no bound of the frame: 14 fetches come, and the twelfth is `done`
pub shown_needs_the_bound :
    let draw = stood 2 ++ draws in
    Undrawn 7 writes sends Started draw × IsWriting writes × IsSending sends
    × IsDrawing 7 begun draw
shown_needs_the_bound = (
  (
    (stands_still (draws ++ begun) legal refl 2).0,
    fetches_stand 2 (draws ++ (sends ++ writes)) (λ e. cc, but_last_accepts),
    refl,
    λ once. let late = once.2 in cc,
  ),
  (ticks_apart all_writes, lit≤ tt),
  (waits_apart sending, lit≤ tt),
  (stood_apart (Strobe ∷ ResetGen ∷ []) draws (λ e. cc, (λ e. cc, tt)) draws_apart 2, lit≤ tt),
)
