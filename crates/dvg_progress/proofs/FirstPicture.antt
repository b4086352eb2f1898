-- The laws of progress, used on the first picture: none of their premises is empty.
use Rattle.std.proofs.Common.{◌≡◌, ℕ, suc, pos, negsuc, true, List, [], ◌∷◌, ◌++◌, length, replicate, Some, refl, sym, ap, subst, lit≤, ◌<◌, ◌*◌, ◌+◌, arith}
use Rattle.std.specs.Prelude.{◌≢◌, is_none}
use Rattle.std.proofs.lemmas.Option.{same_Some}
use Rattle.dvg_code.specs.declared.instr.Instr.TheVariants.{Vctr, Labs}
use Rattle.dvg_gen.specs.declared.stroke.Stroke.{Stroke}
use Rattle.dvg_frame.specs.declared.op.OpKind.{OpKind}
use Rattle.dvg_frame.specs.declared.op.OpKind.TheVariants.{Draw, Halt as Stop}
use Rattle.dvg_frame.specs.Picture.{IsPicture, IsBound}
use Rattle.dvg_frame.proofs.Pictures.{one_picture}
use Rattle.dvg_driver.specs.declared.action.Action.{Action}
use Rattle.dvg_driver.specs.declared.action.Action.TheVariants.{Peek, Wrote, Read, Sent}
use Rattle.dvg_driver.specs.Script.{Did}
use Rattle.dvg_driver.specs.Place.{Place, place_of_life}
use Rattle.dvg_driver.specs.Stands.{ShowsFlag}
use Rattle.dvg_driver.proofs.Shapes.{place_life}
use Rattle.dvg_log.specs.declared.event.Event.TheVariants.{Offer, Tick, Strobe, Fetch, ResetGen, ResetCpu}
use Rattle.dvg_log.specs.Entries.{Shown}
use Rattle.dvg_log.specs.declared.entry.Entry.TheVariants.{Offered, Acted, Started, Low, Fetched, Done}
use Rattle.dvg_log.specs.Log.{◌⟼◌, Log, Throughout, life, open_run, published}
use Rattle.dvg_log.specs.Legal.{IsLegal}
use Rattle.dvg_theorem.proofs.Headline.{draws_published}
use Rattle.dvg_theorem.proofs.Rows.{first_picture}
use Rattle.dvg_progress.specs.Progress.{Without, fetched_since, DrawsOnce}
use Rattle.dvg_progress.proofs.FinishedOnce.{drawn_in_time}
use Rattle.dvg_progress.proofs.FetchesSoFar.{halts_in_time}
use Rattle.dvg_progress.proofs.StrobeAfterFlip.{legal_before, sent_in_time}
use Rattle.dvg_progress.proofs.WayOfFrame.{shown_in_time}
use Rattle.dvg_progress.proofs.DrawnFromEveryLog.{never_stuck}
use Rattle.dvg_progress.proofs.WritesUntilFlip.{published_in_time}

abbrev pub zeros : List ℕ
zeros = replicate 2048 0

-- labs 512 400 0; vctr 9 -100 100 7; halt
abbrev pub frame : List OpKind
frame = Draw (Labs 512 400 0) ∷ Draw (Vctr 9 (negsuc 99) (pos 100) 7) ∷ Stop ∷ []

abbrev pub stroke : List Stroke
stroke = record { x0 = 262144; y0 = 204800; x1 = 210944; y1 = 256000; z = 7 } ∷ []

-- ticks of these actions, newest first
abbrev pub did : List Action → Log
did [] = []
did (action ∷ actions) = (Tick ⟼ Acted action) ∷ did actions

abbrev pub booted : Log
booted = did (Read true ∷ Peek ∷ [])

-- the writes but the flip
abbrev pub first_writes : List Action
first_writes =
    Wrote 0x000 0x01 ∷ Wrote 0x40B 0xB0 ∷ Wrote 0x40A 0x00 ∷ Wrote 0x409 0x74 ∷ Wrote 0x408 0x64
    ∷ Wrote 0x407 0x90 ∷ Wrote 0x406 0x64 ∷ Wrote 0x405 0x02 ∷ Wrote 0x404 0x00 ∷ Wrote 0x403 0xA1
    ∷ Wrote 0x402 0x90 ∷ []

abbrev pub all_writes : List Action
all_writes = Wrote 0x001 0xE2 ∷ first_writes

abbrev pub writes : Log
writes = did all_writes

abbrev pub accepted : Log
accepted = (Offer frame ⟼ Offered) ∷ booted

abbrev pub sending : List Action
sending = Sent ∷ Read true ∷ []

abbrev pub sends : Log
sends = did sending

abbrev pub begun : Log
begun = (Strobe ⟼ Started) ∷ sends ++ (writes ++ accepted)

-- the two fetches of each of these words, of its address, its low byte and itself, newest first
abbrev pub fetched : List (ℕ × ℕ × ℕ) → Log
fetched [] = []
fetched (it ∷ words) = (Fetch ⟼ Fetched it.0 it.2) ∷ (Fetch ⟼ Low it.0 it.1) ∷ fetched words

abbrev pub words : List (ℕ × ℕ × ℕ)
words =
    (0x204, 0x64, 0x7464) ∷ (0x203, 0x64, 0x9064) ∷ (0x202, 0x00, 0x0200) ∷ (0x201, 0x90, 0xA190)
    ∷ (0x000, 0x01, 0xE201) ∷ []

abbrev pub but_last : Log
but_last = (Fetch ⟼ Low 0x205 0x00) ∷ fetched words

abbrev pub draws : Log
draws = (Fetch ⟼ Done 0x205 0xB000 stroke) ∷ but_last

pub legal : IsLegal zeros zeros (draws ++ begun)
legal = first_picture

-- a tick is no reset and no strobe, and neither is a fetch
pub ticks_apart : (actions : List Action) → Without (ResetCpu ∷ []) (did actions)
ticks_apart [] = tt
ticks_apart (action ∷ actions) = ((λ e. cc, tt), ticks_apart actions)

pub waits_apart : (actions : List Action) → Without (Strobe ∷ ResetCpu ∷ []) (did actions)
waits_apart [] = tt
waits_apart (action ∷ actions) = ((λ e. cc, (λ e. cc, tt)), waits_apart actions)

pub fetches_apart : (words : List (ℕ × ℕ × ℕ)) → Without (Strobe ∷ ResetGen ∷ []) (fetched words)
fetches_apart [] = tt
fetches_apart (it ∷ words) = ((λ e. cc, (λ e. cc, tt)), ((λ e. cc, (λ e. cc, tt)), fetches_apart words))

pub draws_apart : Without (Strobe ∷ ResetGen ∷ []) draws
draws_apart = ((λ e. cc, (λ e. cc, tt)), ((λ e. cc, (λ e. cc, tt)), fetches_apart words))

-- none of them accepts a frame
abbrev pub NoFrame : Log → Type 0
NoFrame log = Throughout (λ _ _ entry. entry ≢ Offered) log

pub ticks_accept : (actions : List Action) → NoFrame (did actions)
ticks_accept [] = tt
ticks_accept (action ∷ actions) = (λ e. cc, ticks_accept actions)

pub fetches_accept : (words : List (ℕ × ℕ × ℕ)) (log : Log) → NoFrame log → NoFrame (fetched words ++ log)
fetches_accept [] log none = none
fetches_accept (it ∷ words) log none = (λ e. cc, (λ e. cc, fetches_accept words log none))

pub begun_legal : IsLegal zeros zeros begun
begun_legal = legal_before zeros zeros draws begun legal

-- the frame's picture has 6 words
pub bound : IsBound frame zeros 6
bound =
    let drawn = (draws_published zeros zeros (draws ++ begun) legal).0 in
    let same : drawn.0 ≡ frame = same_Some _ _ (sym drawn.2) in
    let words : suc (length drawn.1) ≡ 6 =
    ap (λ fetches. suc (length fetches)) (same_Some _ _ (sym drawn.4)) in (
      stroke,
      subst (λ k. IsPicture frame zeros stroke k) words
          (subst (λ G. IsPicture G zeros stroke (suc (length drawn.1))) same drawn.5),
    )

-- 12 ticks after the offer, which are 2 * 5 + 2, the frame is published
pub is_published : published (writes ++ accepted) ≡ Some frame
is_published = (published_in_time zeros zeros booted writes frame begun_legal.2.2.2 (ticks_apart all_writes) refl).1

-- the two ticks after the flip
pub is_sent : ◌≡◌ {A = Shown} (Acted (Read true)) (Acted (Read true)) × ◌≡◌ {A = Shown} (Acted Sent) (Acted Sent)
is_sent =
    let written = did first_writes ++ accepted in
    sent_in_time zeros zeros written [] [] 0xE2 (Acted (Read true)) (Acted Sent) begun_legal.2 tt
    refl refl tt

-- 11 fetches: the run is open
pub is_open : fetched_since (but_last ++ begun) < 12
is_open = halts_in_time zeros zeros (but_last ++ begun) frame 6 legal.2 (λ e. cc) refl bound

-- 12: it was finished, by the last one
pub is_drawn : (F : List OpKind) × (n : ℕ) × DrawsOnce F zeros n begun draws
is_drawn = drawn_in_time zeros zeros (sends ++ (writes ++ accepted)) draws legal draws_apart refl

-- and all together
pub is_shown : DrawsOnce frame zeros 6 begun draws
is_shown =
    shown_in_time zeros zeros frame 6 booted writes [] sends draws Started legal (
      λ e. cc,
      (λ e. cc, fetches_accept words (sends ++ writes) (ticks_accept (sending ++ all_writes))),
    )
    (ticks_apart all_writes) (lit≤ tt) (λ G m is_open shown bound. absurd (is_open refl))
    (waits_apart sending) (lit≤ tt) bound draws_apart (lit≤ tt)

pub accepted_legal : IsLegal zeros zeros accepted
accepted_legal = legal_before zeros zeros writes accepted begun_legal.2.2.2

-- with a run open after 11 fetches, the frame can be drawn once more, within 1067 events
pub is_unstuck : (later : Log) × (length later < 2 * 17 + 1033)
is_unstuck =
    let again = never_stuck zeros zeros (but_last ++ begun) frame 6 6 legal.2 accepted_legal.1
    accepted_legal.0.0 bound (λ G k newest other.
    let same : IsPicture frame zeros other.0 k =
    subst (λ H. IsPicture H zeros other.0 k) (sym (same_Some _ _ newest)) other.1 in
    let words : k ≡ 6 = (one_picture frame zeros bound.0 other.0 6 k bound.1 same).1 in
    omega arith) in
    (again.0, again.7)

-- one more tick
pub did_more : (log : Log) (action : Action) (to : Place) → IsLegal zeros zeros log
    → place_of_life (Did action ∷ life zeros log) ≡ Some to → ShowsFlag action (is_none (open_run log))
    → IsLegal zeros zeros ((Tick ⟼ Acted action) ∷ log)
did_more log action to l stands tells = ((place_life (Did action ∷ life zeros log) to stands, tells), tt, l)
