-- What comes, comes in time. Parts of logs are newest first, as logs are.
use Rattle.std.specs.Prelude.{◌≡◌, ◌≢◌, ℕ, suc, ◌+◌, ◌*◌, ◌<◌, ◌≤◌, not, true, List, [], ◌∷◌, ◌++◌, length, reverse}
use Rattle.std.specs.Prelude.{Some, None, if◌then◌else◌}
use Rattle.std.specs.List.{AllByRecursion}
use Rattle.dvg_gen.specs.declared.stroke.Stroke.{Stroke}
use Rattle.dvg_frame.specs.declared.op.OpKind.{OpKind}
use Rattle.dvg_frame.specs.Ops.{IsDraft}
use Rattle.dvg_frame.specs.Layout.{size}
use Rattle.dvg_frame.specs.Faults.{Accepts}
use Rattle.dvg_frame.specs.Picture.{IsPicture, IsBound}
use Rattle.dvg_driver.specs.declared.action.Action.TheVariants.{Wrote, Read, Sent}
use Rattle.dvg_driver.specs.Script.{has_flip, frame_writes, wrote}
use Rattle.dvg_log.specs.Events.{Happening}
use Rattle.dvg_log.specs.declared.event.Event.TheVariants.{Offer, Tick, Strobe, Fetch, ResetGen, ResetCpu, ResetAll}
use Rattle.dvg_log.specs.Entries.{Shown}
use Rattle.dvg_log.specs.declared.entry.Entry.TheVariants.{Offered, Acted, Started, Done}
use Rattle.dvg_log.specs.Log.{◌⟼◌, Log, Throughout, open_run, free_half, life, published}
use Rattle.dvg_log.specs.Headline.{IsShown}
use Rattle.dvg_log.specs.Legal.{IsLegal}

-- none of these events comes, and no reset of the whole system
abbrev pub Without : List Happening → Log → Type 0
Without events [] = Unit {0}
Without events ((ResetAll bytes ⟼ entry) ∷ log) = ⊥
Without events ((event ⟼ entry) ∷ log) = AllByRecursion (λ e. event ≢ e) events × Without events log

-- how many ticks come
abbrev pub ticks : Log → ℕ
ticks [] = 0
ticks ((Tick ⟼ entry) ∷ log) = suc (ticks log)
ticks (line ∷ log) = ticks log

-- how many fetches came since the newest run began
abbrev pub fetched_since : Log → ℕ
fetched_since [] = 0
fetched_since ((event ⟼ Started) ∷ log) = 0
fetched_since ((Fetch ⟼ entry) ∷ log) = suc (fetched_since log)
fetched_since (line ∷ log) = fetched_since log

-- once W words are accepted, 2W + 2 ticks, or 2W + 1 in a life with a flip, write and publish them
abbrev pub PublishedInTime : Type 0
PublishedInTime = (R image : List ℕ) (before later : Log) (F : List OpKind)
    → let accepted = (Offer F ⟼ Offered) ∷ before in let flipped = has_flip (life image before) in
    let writes = frame_writes (free_half image before) F (not flipped) in
    IsLegal R image (later ++ accepted) → Without (ResetCpu ∷ []) later
    → ticks later ≡ 2 * size F + (if flipped then 1 else 2)
    → (life image (later ++ accepted) ≡ reverse (wrote writes) ++ life image accepted)
    × (published (later ++ accepted) ≡ Some F)

-- after a flip the first tick that finds no run open reads `halted`, and the next sends the strobe
abbrev pub SentInTime : Type 0
SentInTime = (R image : List ℕ) (before wait rest : Log) (byte : ℕ) (first next : Shown)
    → let flipped = (Tick ⟼ Acted (Wrote 1 byte)) ∷ before in
    let read = (Tick ⟼ first) ∷ wait ++ flipped in IsLegal R image ((Tick ⟼ next) ∷ rest ++ read)
    → Throughout (λ log event entry. event ≡ Tick → open_run (log ++ flipped) ≢ None) wait
    → open_run (wait ++ flipped) ≡ None → ticks rest ≡ 0 → Without (ResetCpu ∷ []) (rest ++ wait)
    → (first ≡ Acted (Read true)) × (next ≡ Acted Sent)

-- an open run that shows a frame with a bound of n words has had fewer than 2n fetches
abbrev pub HaltsInTime : Type 0
HaltsInTime = (R image : List ℕ) (log : Log) (F : List OpKind) (n : ℕ) → IsLegal R image log
    → open_run log ≢ None → IsShown log F → IsBound F R n → fetched_since log < 2 * n

-- one line alone is `done`: fetch number 2n of a run that shows F, whose picture has n words
abbrev pub DrawsOnce : List OpKind → List ℕ → ℕ → Log → Log → Type 0
DrawsOnce F R n before [] = ⊥
DrawsOnce F R n before ((event ⟼ Done address word drew) ∷ log) = IsShown (log ++ before) F
    × IsPicture F R drew n × (suc (fetched_since (log ++ before)) ≡ 2 * n)
    × Throughout (λ _ _ entry. (a w : ℕ) (s : List Stroke) → entry ≢ Done a w s) log
DrawsOnce F R n before (line ∷ log) = DrawsOnce F R n before log

-- a run that a strobe began, and that no strobe and no reset ended, has drawn once it is over
abbrev pub DrawnInTime : Type 0
DrawnInTime = (R image : List ℕ) (before later : Log)
    → let started = (Strobe ⟼ Started) ∷ before in IsLegal R image (later ++ started)
    → Without (Strobe ∷ ResetGen ∷ []) later → open_run (later ++ started) ≡ None
    → (F : List OpKind) × (n : ℕ) × DrawsOnce F R n started later

-- F alone is accepted; it is written; what is open halts; 2 ticks, a strobe; 2n fetches: F is drawn
abbrev pub ShownInTime : Type 0
ShownInTime = (R image : List ℕ) (F : List OpKind) (n : ℕ) (before write halt send draw : Log)
    (entry : Shown) → let written = write ++ (Offer F ⟼ Offered) ∷ before in
    let started = (Strobe ⟼ entry) ∷ send ++ (halt ++ written) in IsLegal R image (draw ++ started)
    → Throughout (λ _ _ e. e ≢ Offered) (draw ++ (send ++ (halt ++ write)))
    → Without (ResetCpu ∷ []) write → 2 * size F + 2 ≤ ticks write
    → ((G : List OpKind) (m : ℕ) → open_run written ≢ None → IsShown written G → IsBound G R m
    → 2 * m ≤ fetched_since (halt ++ written))
    → Without (Strobe ∷ ResetCpu ∷ []) (send ++ halt) → 2 ≤ ticks send → IsBound F R n
    → Without (Strobe ∷ ResetGen ∷ []) draw → 2 * n ≤ fetched_since (draw ++ started)
    → DrawsOnce F R n started draw

-- from every log each accepted frame can come to be drawn with no reset, in this many events
abbrev pub NeverStuck : Type 0
NeverStuck = (R image : List ℕ) (log : Log) (F : List OpKind) (m n : ℕ) → IsLegal R image log
    → IsDraft F → Accepts F R → IsBound F R n
    → ((G : List OpKind) (k : ℕ) → published log ≡ Some G → IsBound G R k → k ≤ m)
    → (later : Log) × (address : ℕ) × (word : ℕ) × (drew : List Stroke)
    × IsLegal R image ((Fetch ⟼ Done address word drew) ∷ later ++ log) × IsPicture F R drew n
    × Without (ResetGen ∷ ResetCpu ∷ []) later × (length later < 2 * (size F + m + n) + 1033)
