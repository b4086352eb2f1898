-- Offers that change nothing.
use Rattle.std.proofs.Common.{◌≡◌, ℕ, ◌≤◌, Bool, true, false, List, None, ⊎_elim, refl, sym, subst}
use Rattle.std.specs.Prelude.{◌↔◌, IsTrue}
use Rattle.dvg_mem.specs.Memory.{IsRom}
use Rattle.dvg_frame.specs.declared.op.OpKind.{OpKind}
use Rattle.dvg_frame.specs.declared.fault.FrameFault.{FrameFault}
use Rattle.dvg_frame.specs.Ops.{IsDraft}
use Rattle.dvg_frame.specs.Faults.{Accepts, Refuses}
use Rattle.dvg_driver.specs.Script.{IsWhole}
use Rattle.dvg_log.specs.declared.event.Event.TheVariants.{Offer}
use Rattle.dvg_log.specs.declared.entry.Entry.TheVariants.{Refused, Busy}
use Rattle.dvg_log.specs.Entries.{Shown, drew_in}
use Rattle.dvg_log.specs.Log.{Log}
use Rattle.dvg_log.specs.Traces.{BringsDraft, Seen, seen_as}
use Rattle.dvg_frame.proofs.AcceptedOrFault.{answered}
use Rattle.dvg_theorem.proofs.Untouched.{rom_of}
use Rattle.dvg_world.specs.Desks.{OfLives}
use Rattle.dvg_world.specs.Standing.{AddsLine, State, WorldAfter}
use Rattle.dvg_world.specs.own.Running.{IsPassedOver, KeepsRun}
use Rattle.dvg_world.proofs.LinesOfOneEvent.{repeats_to}
use Rattle.dvg_world.proofs.EventsAddLines.{offer_busy, offer_refused}

-- an offer of this draft changes nothing, and has no picture
record Passes (world : State) (F : List OpKind) : Type 0 where
  entry : Shown
  line : AddsLine world (Offer F) entry world
  undrawn : drew_in entry ≡ None

passes_refused : (world : State) (F : List OpKind) (fault : FrameFault) → IsDraft F → Refuses F world.rom fault
    → Passes world F
passes_refused world F fault draft refuses =
    record { entry = Refused fault; line = offer_refused draft refuses; undrawn = refl }

passes_busy : (world : State) (F : List OpKind) → IsDraft F → Accepts F world.rom
    → OfLives world.driver (λ peeked items. ¬ IsWhole items) → Passes world F
passes_busy world F draft accepts busy =
    record { entry = Busy; line = offer_busy draft accepts refl busy; undrawn = refl }

-- where the driver isn't idle, no offer changes anything: it is refused, or the driver is busy
passes : (R image : List ℕ) (log : Log) (world : State) (F : List OpKind) (idle : Bool)
    → IsDraft F → OfLives world.driver (λ peeked items. IsTrue idle ↔ IsWhole items) → idle ≡ false
    → WorldAfter R image log world → Passes world F
passes R image log world F idle draft idle_is not_idle after =
    let rom : IsRom world.rom = subst IsRom (sym after.stands.rom) (rom_of R image log after.legal) in
    let busy : OfLives world.driver (λ peeked items. ¬ IsWhole items) =
    λ peeked items stands whole. let is : idle ≡ true = (idle_is peeked items stands).1 whole in cc in
    ⊎_elim (λ accepts. passes_busy world F draft accepts busy)
    (λ refused. passes_refused world F refused.0 draft refused.1)
    (answered F world.rom rom)

-- so as many lines as are left are passed over
pub keeps_over : {old world : State} {IsKept Before : Log → Type 0} {number done times : ℕ} (event : Seen) (idle : Bool)
    → BringsDraft event → IsPassedOver Before (seen_as event)
    → OfLives world.driver (λ peeked items. IsTrue idle ↔ IsWhole items) → idle ≡ false → done ≤ times
    → KeepsRun old IsKept number (seen_as event) done world Before
    → KeepsRun old IsKept number (seen_as event) times world Before
keeps_over {world = world} {times = times} (Offer ops) idle draft over idle_is not_idle le so_far =
    λ R image log after kept count.
    let run = so_far R image log after kept count in
    let pass = passes R image run.later world ops.now idle draft idle_is not_idle run.after in
    repeats_to pass.entry times le run pass.line (λ log' before. over log' pass.entry pass.undrawn before)
keeps_over _ idle draft over idle_is not_idle le so_far = absurd over
