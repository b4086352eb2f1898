-- The core in the world: what one more line of a log, or one more clock, keeps of a core and the log of its clocks.
use Rattle.std.proofs.Common.{◌≡◌, ℕ, Bool, true, false, not, List, [], ◌∷◌, Option, Some, None, refl, sym, ap, ◌∙◌, subst, arith}
use Rattle.std.specs.Prelude.{nat_eq, if◌then◌else◌, is_some, is_none, option_map, IsSome}
use Rattle.dvg_mem.specs.Memory.{IsImage, IsRom, fetched_byte}
use Rattle.dvg_gen.specs.declared.stroke.Stroke.{Stroke}
use Rattle.dvg_gen.specs.declared.taken.GenFault.{GenFault}
use Rattle.dvg_gen.specs.declared.taken.GenFault.TheVariants.{StackOver, StackUnder, Hole}
use Rattle.dvg_gen.specs.Bytes.{Met, Waits, Whole, met, word_of}
use Rattle.dvg_gen.specs.Machine.{HasTaken}
use Rattle.dvg_gen.specs.Run.{Visit, Adds, first, one, two, Fate, Goes, Finished, Breaks, fate, wanted, strokes}
use Rattle.dvg_gen.specs.Told.{Told, Start, Reset, Fed, Newest, Leaves, takes, meets_hole, goes_on, Reply, More, Drew, Fails, reply, reply_by}
use Rattle.dvg_gen.specs.Told as told
use Rattle.dvg_gen.proofs.GeneratorAfterHistory.{stands_new, stands_reset, open_goes}
use Rattle.dvg_gen.proofs.OneRun.{leaves_same}
use Rattle.dvg_driver.specs.Script.{Did, IsLife}
use Rattle.dvg_driver.specs.Stands.{ShowsFlag}
use Rattle.dvg_driver.specs.declared.action.Action.{Action}
use Rattle.dvg_driver.specs.declared.action.Action.TheVariants.{Peek, Wrote, Read, Sent, Idle}
use Rattle.dvg_log.specs.Events.{Happening, IsEvent}
use Rattle.dvg_log.specs.declared.event.Event.TheVariants.{Offer, Redraw, Tick, Strobe, Fetch, ResetGen, ResetCpu, ResetAll}
use Rattle.dvg_log.specs.Entries.{Shown}
use Rattle.dvg_log.specs.declared.entry.Entry.TheVariants.{Offered, Refused, Busy, Asked, NothingPublished, Acted, Started, Low, Still, Cleared}
use Rattle.dvg_log.specs.Log.{◌⟼◌, Log, ram, life, strobed, low_byte, open_run, history, meets}
use Rattle.dvg_log.specs.Legal.{IsLegal, Fits, IsWanted}
use Rattle.dvg_cells_core.specs.Core.{Core, Pins, halted, zeros}
use Rattle.dvg_cells_core.specs.Cells.{none}
use Rattle.dvg_cells_core.specs.Shown.{ShowsReply}
use Rattle.dvg_cells_core.proofs.Machines.{machine_of}
use Rattle.dvg_cells_core.specs.Refines
use Rattle.dvg_cells_core.specs.Refines.{ArePins, after, drew, byte_of, Tells as Clocked, Said}
use Rattle.dvg_cells_core.proofs.RegistersFit.{Fits as Fitting, Stepped}
use Rattle.dvg_cells_core.proofs.CoreSincePowerUp.{one as stepped}
use Rattle.dvg_cells_board.specs.Fetches.{entry_of, entry_by, says}
use Rattle.dvg_cells_board.proofs.Cores.{entry_at}
use Rattle.dvg_cells_board.specs.Logs.{IsSilent, FitsScript}

-- the core stands after the log's history, and the log knows whether a run is open
pub record Keeps (R image : List ℕ) (log : Log) (clocks : List Pins) : Type 0 where
  pub stands : HasTaken (machine_of (after clocks) (drew clocks)) (history R image log) (low_byte log)
  pub fits : Fitting (after clocks)
  pub opened : is_none (open_run log) ≡ not stands.run.is_open
  pub legal : IsLegal R image log

pub differ : {A : Type 0} {n : ℕ} → n ≡ 0 → n ≡ 1 → A
differ is_zero is_one = absurd (omega arith)

pub never : {A : Type 0} → false ≡ true → A
never e = cc

-- the answer to a word says whether the run goes on
abbrev Opens : Reply → Bool → Type 0
Opens More going = going ≡ true
Opens (Drew lines) going = going ≡ false
Opens (Fails fault) going = going ≡ false

by_fate : (f : Fate) (lines : List Stroke) → Opens (reply_by None f lines) (goes_on f)
by_fate Goes lines = refl
by_fate Finished lines = refl
by_fate (Breaks fault) lines = refl

of_adds : {visits visits' : List Visit} {held held' : Option ℕ} {word : ℕ} (lines : List Stroke) → Adds visits held word visits' held'
    → fate visits ≡ Goes → Opens (reply_by held' (fate visits') lines) (goes_on (fate visits'))
of_adds lines (first is_first) goes = ap goes_on goes
of_adds lines (one spells) goes = by_fate _ lines
of_adds lines (two spells) goes = by_fate _ lines

new_shuts : (run : Newest) → Leaves [] run → run.is_open ≡ false
new_shuts run told.new = refl

word_opens : (older : List Told) (word : ℕ) (run : Newest) → Leaves (Fed (Some word) ∷ older) run → Opens (reply (Some word) run) run.is_open
word_opens older word run (takes {run = was} {visits = visits} {held = held} leaves opened adds) =
    of_adds (strokes was.first visits) adds (open_goes leaves opened)

hole_shuts : (older : List Told) (run : Newest) → Leaves (Fed None ∷ older) run → run.is_open ≡ false
hole_shuts older run (meets_hole leaves opened) = refl

none_is : {X : Type 0} (o : Option X) → is_none o ≡ true → o ≡ None
none_is None is = refl
none_is (Some x) is = never is

kept_some : (b : Bool) (x : ℕ) → is_some (if b then None else Some x) ≡ not b
kept_some true x = refl
kept_some false x = refl

-- the pin
pin_of : (is_open : ℕ) → nat_eq (none is_open) 1 ≡ nat_eq is_open 0
pin_of is_open = by (nat_eq is_open 0)
  where
    by : (b : Bool) → nat_eq (if b then 1 else 0) 1 ≡ b
    by true = refl
    by false = refl

not_not : (b c : Bool) → not b ≡ c → b ≡ not c
not_not true c e = ap not e
not_not false c e = ap not e

still_is : (closed address : ℕ) (m : Met) (answer : Reply) → nat_eq closed 1 ≡ true → entry_by closed address m answer ≡ Still
still_is closed address (Waits byte) answer e = ap (λ b. if b then Still else Low address byte) e
still_is closed address (Whole word) answer e = ap (λ b. if b then Still else entry_of address word answer) e

-- the pins of an answer tell it
told_is : (answer : Reply) (core : Core) (drew : List Stroke) → ShowsReply answer core drew → says core.done core.fault drew ≡ answer
told_is More core drew (done, fault) = ap (λ n. says core.done n drew) fault ∙ ap (λ n. says n 0 drew) done
told_is (Drew strokes) core drew (done, fault, is) =
    ap (λ n. says core.done n drew) fault ∙ ap (λ n. says n 0 drew) done ∙ ap Drew is
told_is (Fails StackOver) core drew (done, fault, stroke) = ap (λ n. says core.done n drew) fault
told_is (Fails StackUnder) core drew (done, fault, stroke) = ap (λ n. says core.done n drew) fault
told_is (Fails Hole) core drew (done, fault, stroke) = ap (λ n. says core.done n drew) fault

abbrev running : ℕ → Met → Reply → Shown
running address (Waits byte) answer = Low address byte
running address (Whole word) answer = entry_of address word answer

running_is : (closed address : ℕ) (m : Met) (answer : Reply) → nat_eq closed 1 ≡ false → entry_by closed address m answer ≡ running address m answer
running_is closed address (Waits byte) answer e = ap (λ b. if b then Still else Low address byte) e
running_is closed address (Whole word) answer e = ap (λ b. if b then Still else entry_of address word answer) e

no_more : {A : Type 0} (fault : GenFault) → More ≡ Fails fault → A
no_more fault e = absurd (cc)

no_drew : {A : Type 0} (lines : List Stroke) (fault : GenFault) → Drew lines ≡ Fails fault → A
no_drew lines fault e = absurd (cc)

mapped_none : {X Y : Type 0} (f : X → Y) (o : Option X) → is_none (option_map f o) ≡ is_none o
mapped_none f None = refl
mapped_none f (Some x) = refl

module _ (R image : List ℕ) (log : Log) (clocks : List Pins) (pins : Pins) (k : Keeps R image log clocks) (are : ArePins pins) where
  abbrev hist : List Told
  hist = history R image log

  abbrev low : Option ℕ
  low = low_byte log

  abbrev now : List Pins
  now = pins ∷ clocks

  did : Stepped pins (after clocks) (drew clocks) hist low
  did = stepped (after clocks) pins (drew clocks) hist low k.fits are k.stands

  abbrev Stand : List Told → Option ℕ → Type 0
  Stand h l = HasTaken (machine_of (after now) (drew now)) h l

  same_run : (h : List Told) (r : Newest) → Leaves hist r → k.stands.run ≡ r
  same_run h r leaves = leaves_same k.stands.leaves leaves

  -- a clock with no event
  pub idle : pins.reset ≡ 0 → pins.start ≡ 0 → pins.valid ≡ 0 → Keeps R image log now
  idle reset start valid = by did.history' did.low' did.found did.tells did.stands
    where
      by : (h : List Told) (l : Option ℕ) (f : Option Met) → Clocked pins hist low h l f → Stand h l → Keeps R image log now
      by h l f (Refines.resets is) stands = differ reset is
      by h l f (Refines.starts r is) stands = differ start is
      by h l f (Refines.idles r s v) stands = record {
        stands = stands;
        fits = did.fits;
        opened = k.opened ∙ ap (λ (r : Newest). not r.is_open) (same_run h stands.run stands.leaves);
        legal = k.legal;
      }
      by h l f (Refines.ignores r s is leaves closed) stands = differ valid is
      by h l f (Refines.fetches r s is leaves opened) stands = differ valid is

  abbrev Next : Shown → Type 0
  Next shown = Keeps R image ((Fetch ⟼ shown) ∷ log) now

  module _ (reset : pins.reset ≡ 0) (start : pins.start ≡ 0) (valid : pins.valid ≡ 1)
      (answered : byte_of pins ≡ fetched_byte (ram image log) R (after clocks).at (not (nat_eq (after clocks).high 0))) where
    abbrev at : ℕ
    at = (after clocks).at

    meets_is : (m : Met) → met low (byte_of pins) ≡ m → meets R image log at ≡ m
    meets_is m e =
        let high : is_some low ≡ not (nat_eq (after clocks).high 0) = ap is_some (sym k.stands.low) ∙ kept_some (nat_eq (after clocks).high 0) (after clocks).low in
        ap (λ h. met low (fetched_byte (ram image log) R at h)) high ∙ ap (met low) (sym answered) ∙ e

    fetched_still : k.stands.run.is_open ≡ false → Stand hist low → Next Still
    fetched_still closed stands = record {
      stands = stands;
      fits = did.fits;
      opened = k.opened ∙ ap (λ (r : Newest). not r.is_open) (same_run hist stands.run stands.leaves);
      legal = (none_is (open_run log) (k.opened ∙ ap not closed), tt, k.legal);
    }

    module _ (is_open : k.stands.run.is_open ≡ true) where
      asks : IsWanted hist at
      asks = record {
        run = k.stands.run;
        leaves = k.stands.leaves;
        wanted = ap (λ t. if t then Some (wanted k.stands.run.visits k.stands.run.held) else None) is_open
            ∙ ap Some (sym (k.stands.stands.running is_open).at);
      }

      of_hole : (answer : Reply) → met low (byte_of pins) ≡ Whole None → (stands : Stand (Fed None ∷ hist) None)
          → answer ≡ reply None stands.run → Next (entry_of at None answer)
      of_hole More e stands said = no_more _ said
      of_hole (Drew lines) e stands said = no_drew lines _ said
      of_hole (Fails fault) e stands said =
          let meets_none = meets_is (Whole None) e in
          record {
            stands = subst (λ (m : Met). HasTaken (machine_of (after now) (drew now)) (Fed (word_of m) ∷ hist) None) (sym meets_none) stands;
            fits = did.fits;
            opened = let both = subst (λ (m : Met). HasTaken (machine_of (after now) (drew now)) (Fed (word_of m) ∷ hist) None) (sym meets_none) stands in
                ap not (sym (closed_by (Whole None) meets_none both.run both.leaves));
            legal = ((None, meets_none, record { asked = asks; later = stands.run; leaves_later = stands.leaves; replies = sym said }), tt, k.legal);
          }
        where
          closed_by : (m : Met) → meets R image log at ≡ Whole None → (run : Newest) → Leaves (Fed (word_of (meets R image log at)) ∷ hist) run → run.is_open ≡ false
          closed_by m is run leaves = hole_shuts hist run (subst (λ (m : Met). Leaves (Fed (word_of m) ∷ hist) run) is leaves)

      of_word : (word : ℕ) (answer : Reply) → met low (byte_of pins) ≡ Whole (Some word) → (stands : Stand (Fed (Some word) ∷ hist) None)
          → answer ≡ reply (Some word) stands.run → Opens answer stands.run.is_open → Next (entry_of at (Some word) answer)
      of_word word More e stands said opens = record {
        stands = stands;
        fits = did.fits;
        opened = mapped_none (λ fetches. (at, word) ∷ fetches) (open_run log) ∙ k.opened ∙ ap not is_open ∙ ap not (sym opens);
        legal = ((meets_is (Whole (Some word)) e, record { asked = asks; later = stands.run; leaves_later = stands.leaves; replies = sym said }), tt, k.legal);
      }
      of_word word (Drew lines) e stands said opens = record {
        stands = stands;
        fits = did.fits;
        opened = ap not (sym opens);
        legal = ((meets_is (Whole (Some word)) e, record { asked = asks; later = stands.run; leaves_later = stands.leaves; replies = sym said }), tt, k.legal);
      }
      of_word word (Fails fault) e stands said opens =
          let meets_word = meets_is (Whole (Some word)) e in
          let moved = subst (λ (m : Met). HasTaken (machine_of (after now) (drew now)) (Fed (word_of m) ∷ hist) None) (sym meets_word) stands in
          let same : stands.run ≡ moved.run = leaves_same stands.leaves (subst (λ (m : Met). Leaves (Fed (word_of m) ∷ hist) moved.run) meets_word moved.leaves) in
          record {
            stands = moved;
            fits = did.fits;
            opened = ap not (sym opens) ∙ ap (λ (r : Newest). not r.is_open) same;
            legal = ((Some word, meets_word, record { asked = asks; later = stands.run; leaves_later = stands.leaves; replies = sym said }), tt, k.legal);
          }

      of_met : (m : Met) → met low (byte_of pins) ≡ m → (stands : Stand (Refines.told_by m hist) (Refines.waiting m))
          → Said (Some m) (after now) (drew now) stands.run
          → Next (running at m (says (after now).done (after now).fault (drew now)))
      of_met (Waits byte) e stands said = record {
        stands = stands;
        fits = did.fits;
        opened = k.opened ∙ ap (λ (r : Newest). not r.is_open) (same_run hist stands.run stands.leaves);
        legal = ((meets_is (Waits byte) e, asks), tt, k.legal);
      }
      of_met (Whole None) e stands said = of_hole _ e stands (told_is (reply None stands.run) (after now) (drew now) said)
      of_met (Whole (Some word)) e stands said =
          let answers = told_is (reply (Some word) stands.run) (after now) (drew now) said in
          of_word word _ e stands answers
          (subst (λ r. Opens r stands.run.is_open) (sym answers) (word_opens hist word stands.run stands.leaves))

    closed_pin : (b : Bool) → k.stands.run.is_open ≡ b → nat_eq (halted (after clocks)) 1 ≡ not b
    closed_pin b is = pin_of (after clocks).is_open ∙ not_not _ _ (k.stands.stands.is_open ∙ is)

    abbrev answer : Reply
    answer = says (after now).done (after now).fault (drew now)

    pub fetch : Next (entry_at log clocks pins)
    fetch = by did.history' did.low' did.found did.tells did.stands did.said
      where
        by : (h : List Told) (l : Option ℕ) (f : Option Met) → Clocked pins hist low h l f → (stands : Stand h l)
            → Said f (after now) (drew now) stands.run → Next (entry_at log clocks pins)
        by h l f (Refines.resets is) stands said = differ reset is
        by h l f (Refines.starts r is) stands said = differ start is
        by h l f (Refines.idles r s is) stands said = differ is valid
        by h l f (Refines.ignores {run = run} r s is leaves closed) stands said =
            let shut : k.stands.run.is_open ≡ false = ap (λ (r : Newest). r.is_open) (same_run hist run leaves) ∙ closed in
            subst Next (sym (still_is (halted (after clocks)) at (met low (byte_of pins)) answer (closed_pin false shut))) (fetched_still shut stands)
        by h l f (Refines.fetches {run = run} r s is leaves opened) stands said =
            let is_open : k.stands.run.is_open ≡ true = ap (λ (r : Newest). r.is_open) (same_run hist run leaves) ∙ opened in
            subst Next (sym (running_is (halted (after clocks)) at (met low (byte_of pins)) answer (closed_pin true is_open)))
            (of_met is_open (met low (byte_of pins)) refl stands said)

none_waits : (low : Option ℕ) (opened : Bool) → (IsSome low → opened ≡ true) → opened ≡ false → low ≡ None
none_waits None opened waits closed = refl
none_waits (Some byte) opened waits closed = never (sym closed ∙ waits refl)

-- resets and starts
module _ (R image : List ℕ) (log : Log) (clocks : List Pins) (pins : Pins) (k : Keeps R image log clocks) (are : ArePins pins) where
  stands_reset' : pins.reset ≡ 1 → HasTaken (machine_of (after (pins ∷ clocks)) (drew (pins ∷ clocks))) (Reset ∷ history R image log) None
  stands_reset' is = by (did R image log clocks pins k are).history' (did R image log clocks pins k are).low' (did R image log clocks pins k are).found
      (did R image log clocks pins k are).tells (did R image log clocks pins k are).stands
    where
      by : (h : List Told) (l : Option ℕ) (f : Option Met) → Clocked pins (history R image log) (low_byte log) h l f
          → HasTaken (machine_of (after (pins ∷ clocks)) (drew (pins ∷ clocks))) h l
          → HasTaken (machine_of (after (pins ∷ clocks)) (drew (pins ∷ clocks))) (Reset ∷ history R image log) None
      by h l f (Refines.resets r) stands = stands
      by h l f (Refines.starts off s) stands = differ off is
      by h l f (Refines.idles off s v) stands = differ off is
      by h l f (Refines.ignores off s v leaves closed) stands = differ off is
      by h l f (Refines.fetches off s v leaves opened) stands = differ off is

  reset_shuts : (run : Newest) → Leaves (Reset ∷ history R image log) run → run.is_open ≡ false
  reset_shuts run (told.resets leaves) = refl

  start_opens : (run : Newest) → Leaves (Start ∷ history R image log) run → run.is_open ≡ true
  start_opens run (told.starts leaves) = refl

  pub reset_line : pins.reset ≡ 1 → Keeps R image ((ResetGen ⟼ Cleared) ∷ log) (pins ∷ clocks)
  reset_line is = let stands = stands_reset' is in record {
    stands = stands;
    fits = (did R image log clocks pins k are).fits;
    opened = ap not (sym (reset_shuts stands.run stands.leaves));
    legal = (tt, tt, k.legal);
  }

  pub reset_all : pins.reset ≡ 1 → (bytes : List ℕ) → IsImage bytes → Keeps R image ((ResetAll bytes ⟼ Cleared) ∷ log) (pins ∷ clocks)
  reset_all is bytes is_image = let stands = stands_reset' is in record {
    stands = stands;
    fits = (did R image log clocks pins k are).fits;
    opened = ap not (sym (reset_shuts stands.run stands.leaves));
    legal = (tt, is_image, k.legal);
  }

  abbrev Stand' : List Told → Option ℕ → Type 0
  Stand' h l = HasTaken (machine_of (after (pins ∷ clocks)) (drew (pins ∷ clocks))) h l

  -- while no run is open and none begins, a clock leaves the core as a reset does
  stands_shut : k.stands.run.is_open ≡ false → pins.start ≡ 0
      → HasTaken (machine_of (after (pins ∷ clocks)) (drew (pins ∷ clocks))) (Reset ∷ history R image log) None
  stands_shut shut off = by (did R image log clocks pins k are).history' (did R image log clocks pins k are).low' (did R image log clocks pins k are).found
      (did R image log clocks pins k are).tells (did R image log clocks pins k are).stands
    where
      is_shut : (run : Newest) → Leaves (history R image log) run → run.is_open ≡ false
      is_shut run leaves = ap (λ (r : Newest). r.is_open) (leaves_same leaves k.stands.leaves) ∙ shut

      ended : (l : Option ℕ) (stands : Stand' (history R image log) l) → stands.run.is_open ≡ false
          → Stand' (Reset ∷ history R image log) None
      ended l stands closed =
          stands_reset (machine_of (after (pins ∷ clocks)) (drew (pins ∷ clocks))) _ (history R image log) l stands
          (stands.low ∙ none_waits l stands.run.is_open stands.waits closed) refl (stands.stands.is_open ∙ closed)

      by : (h : List Told) (l : Option ℕ) (f : Option Met) → Clocked pins (history R image log) (low_byte log) h l f
          → Stand' h l → Stand' (Reset ∷ history R image log) None
      by h l f (Refines.resets r) stands = stands
      by h l f (Refines.starts r on) stands = differ off on
      by h l f (Refines.idles r s v) stands = ended l stands (is_shut stands.run stands.leaves)
      by h l f (Refines.ignores r s v leaves closed) stands = ended l stands (is_shut stands.run stands.leaves)
      by h l f (Refines.fetches {run = run} r s v leaves opened) stands = never (sym (is_shut run leaves) ∙ opened)

  pub shut_line : open_run log ≡ None → pins.start ≡ 0 → (bytes : List ℕ) → IsImage bytes
      → Keeps R image ((ResetAll bytes ⟼ Cleared) ∷ log) (pins ∷ clocks)
  shut_line none off bytes is_image =
      let shut : k.stands.run.is_open ≡ false = not_not k.stands.run.is_open true (sym k.opened ∙ ap is_none none) in
      let stands = stands_shut shut off in record {
        stands = stands;
        fits = (did R image log clocks pins k are).fits;
        opened = ap not (sym (reset_shuts stands.run stands.leaves));
        legal = (tt, is_image, k.legal);
      }

  stands_start' : pins.reset ≡ 0 → pins.start ≡ 1 → HasTaken (machine_of (after (pins ∷ clocks)) (drew (pins ∷ clocks))) (Start ∷ history R image log) None
  stands_start' off is = by (did R image log clocks pins k are).history' (did R image log clocks pins k are).low' (did R image log clocks pins k are).found
      (did R image log clocks pins k are).tells (did R image log clocks pins k are).stands
    where
      by : (h : List Told) (l : Option ℕ) (f : Option Met) → Clocked pins (history R image log) (low_byte log) h l f
          → HasTaken (machine_of (after (pins ∷ clocks)) (drew (pins ∷ clocks))) h l
          → HasTaken (machine_of (after (pins ∷ clocks)) (drew (pins ∷ clocks))) (Start ∷ history R image log) None
      by h l f (Refines.resets on) stands = differ off on
      by h l f (Refines.starts r s) stands = stands
      by h l f (Refines.idles r off v) stands = differ off is
      by h l f (Refines.ignores r off v leaves closed) stands = differ off is
      by h l f (Refines.fetches r off v leaves opened) stands = differ off is

  pub start_line : pins.reset ≡ 0 → pins.start ≡ 1 → strobed log ≡ true → Keeps R image ((Strobe ⟼ Started) ∷ log) (pins ∷ clocks)
  start_line off is sent = let stands = stands_start' off is in record {
    stands = stands;
    fits = (did R image log clocks pins k are).fits;
    opened = ap not (sym (start_opens stands.run stands.leaves));
    legal = (sent, tt, k.legal);
  }

-- a line of the driver
module _ (R image : List ℕ) (log : Log) (clocks : List Pins) (k : Keeps R image log clocks) where
  pub pin_is : nat_eq (halted (after clocks)) 1 ≡ is_none (open_run log)
  pin_is = pin_of (after clocks).is_open ∙ not_not _ _ k.stands.stands.is_open ∙ sym k.opened

  kept_line : (event : Happening) (shown : Shown) → history R image ((event ⟼ shown) ∷ log) ≡ history R image log
      → low_byte ((event ⟼ shown) ∷ log) ≡ low_byte log → open_run ((event ⟼ shown) ∷ log) ≡ open_run log
      → IsEvent event → Fits R image log event shown → Keeps R image ((event ⟼ shown) ∷ log) clocks
  kept_line event shown same_history same_low same_run is_event fits =
      let stands = subst (λ h. HasTaken (machine_of (after clocks) (drew clocks)) h (low_byte ((event ⟼ shown) ∷ log))) (sym same_history)
      (subst (λ l. HasTaken (machine_of (after clocks) (drew clocks)) (history R image log) l) (sym same_low) k.stands) in
      let run_is : k.stands.run ≡ stands.run = leaves_same k.stands.leaves (subst (λ h. Leaves h stands.run) same_history stands.leaves) in
      record {
        stands = stands;
        fits = k.fits;
        opened = ap is_none same_run ∙ k.opened ∙ ap (λ (r : Newest). not r.is_open) run_is;
        legal = (fits, is_event, k.legal);
      }

  -- a tick: the script's next action
  pub acted_line : (action : Action) → IsLife (Did action ∷ life image log) → ShowsFlag action (nat_eq (halted (after clocks)) 1)
      → Keeps R image ((Tick ⟼ Acted action) ∷ log) clocks
  acted_line action is tells =
      kept_line Tick (Acted action) refl refl refl tt (is, subst (λ b. ShowsFlag action b) pin_is tells)

  -- what needs no access
  pub silent_line : (event : Happening) (shown : Shown) → IsSilent event shown → IsEvent event
      → FitsScript R image log event shown → Keeps R image ((event ⟼ shown) ∷ log) clocks
  silent_line Tick (Acted Idle) silent is_event is = acted_line Idle is tt
  silent_line Tick (Acted Peek) silent is_event is = absurd silent
  silent_line Tick (Acted (Wrote a byte)) silent is_event is = absurd silent
  silent_line Tick (Acted (Read flag)) silent is_event is = absurd silent
  silent_line Tick (Acted Sent) silent is_event is = absurd silent
  silent_line (Offer F) (Refused fault) silent is_event is = kept_line (Offer F) (Refused fault) refl refl refl is_event is
  silent_line (Offer F) Busy silent is_event is = kept_line (Offer F) Busy refl refl refl is_event is
  silent_line (Offer F) Offered silent is_event is = kept_line (Offer F) Offered refl refl refl is_event is
  silent_line Redraw NothingPublished silent is_event is = kept_line Redraw NothingPublished refl refl refl is_event is
  silent_line Redraw Busy silent is_event is = kept_line Redraw Busy refl refl refl is_event is
  silent_line Redraw Asked silent is_event is = kept_line Redraw Asked refl refl refl is_event is
  silent_line ResetCpu Cleared silent is_event is = kept_line ResetCpu Cleared refl refl refl is_event is
  silent_line Tick shown silent is_event is = absurd silent
  silent_line (Offer F) shown silent is_event is = absurd is
  silent_line Redraw shown silent is_event is = absurd is
  silent_line ResetCpu shown silent is_event is = absurd is
  silent_line event shown silent is_event is = absurd silent

-- before the first clock
pub keeps_new : (R image : List ℕ) → IsRom R → IsImage image → Keeps R image [] []
keeps_new R image rom is_image = let stands = stands_new (machine_of zeros []) refl refl refl in record {
  stands = stands;
  fits = record {
    opened = omega arith;
    high = omega arith;
    second = omega arith;
    low = omega arith;
    first = λ is. absurd (omega arith);
    depth = omega arith;
    x = omega arith;
    y = omega arith;
    scale = omega arith;
  };
  opened = ap not (sym (new_shuts stands.run stands.leaves));
  legal = (rom, is_image);
}
