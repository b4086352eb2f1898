-- The board: what each clock keeps. Its logs are legal.
use Rattle.std.proofs.Common.{◌≡◌, ℕ, ◌+◌, ◌*◌, ◌/◌, ◌%◌, ◌<◌, Bool, true, false, not, List, ◌∷◌, length, Option, Some, None, refl, sym, ap, ◌∙◌, subst, arith, inl, inr}
use Rattle.std.specs.Prelude.{nat_eq, ◌&&◌, ◌==◌, if◌then◌else◌, slice_index, slice_set}
use Rattle.std.proofs.lemmas.Bool.{false≢true, eqb-true}
use Rattle.std.proofs.lemmas.List.{length-set}
use Rattle.std.proofs.lemmas.List.Elements.{All-set, All-get_or}
use Rattle.dvg_mem.specs.Memory.{IsImage, IsRom, fetched_byte}
use Rattle.dvg_gen.specs.Bytes.{met}
use Rattle.dvg_driver.specs.declared.action.Action.{Action}
use Rattle.dvg_driver.specs.declared.action.Action.TheVariants.{Peek, Wrote, Read, Sent, Idle}
use Rattle.dvg_log.specs.Events.{Happening}
use Rattle.dvg_log.specs.declared.event.Event.TheVariants.{Offer, Redraw, Tick, Fetch, ResetCpu, ResetAll}
use Rattle.dvg_log.specs.Entries.{Shown}
use Rattle.dvg_log.specs.declared.entry.Entry.TheVariants.{Offered, Refused, Busy, Asked, NothingPublished, Acted, Cleared}
use Rattle.dvg_log.specs.Log.{◌⟼◌, Log, ram, strobed, low_byte, open_run}
use Rattle.dvg_cells_core.specs.Cells.{bit, both, either, eq, lt, mux, none, part}
use Rattle.dvg_cells_core.specs.Core.{Core, Pins, halted}
use Rattle.dvg_cells_core.specs.Refines.{ArePins, byte_of}
use Rattle.dvg_cells_core.specs.Refines as core
use Rattle.dvg_cells_core.proofs.RegistersFit.{Fits}
use Rattle.dvg_driver.specs.Script.{Did, IsLife}
use Rattle.dvg_driver.specs.Stands.{ShowsFlag}
use Rattle.dvg_log.specs.Log.{Throughout, life}
use Rattle.dvg_log.specs.Legal.{IsLegal}
use Rattle.dvg_log.specs.Headline.{KeepsHeadline}
use Rattle.dvg_theorem.proofs.Headline.{headline}
use Rattle.dvg_theorem.proofs.DrawnHalfSpared.{kept}
use Rattle.dvg_theorem.proofs.Words.{words_are_whole}
use Rattle.dvg_cells_board.specs.Board.{Board, Bus, pins, takes, clock}
use Rattle.dvg_cells_board.specs.Fetches.{drew, entry, says}
use Rattle.dvg_cells_board.specs.Clocks.{IsBus, after, IsServed, reads, writes, sends, looks, changes}
use Rattle.dvg_cells_board.specs.Logs.{did, core_line, answered, FitsIf, IsSilent, IsBoard, powers, clocks, tests, acts, FitsScript, OfEachBoard, HoldsRam}
use Rattle.dvg_cells_board.proofs.Cores.{cores, core_is, entry_is}
use Rattle.dvg_cells_board.proofs.System.{Keeps, idle, fetch, reset_line, reset_all, shut_line, start_line, acted_line, silent_line, keeps_new}
use Rattle.dvg_cells_board.proofs.Wires.{asks_needs, bit_small, changes_ram, core_ram, differ, entry_ram, first_by, looks_ram, map_is, none_there, on_of, other, place_of, ram_is, ram_of, read_is, sends_needs, sent_looks, sent_sends, still, takes_none, takes_of, third_of, writes_of, written, zero_or_one}

-- what is kept from clock to clock
pub record Holds (R image : List ℕ) (held : ℕ → ℕ) (log : Log) (older : List Bus) : Type 0 where
  pub keeps : Keeps R image log (cores held older)
  pub same : (a : ℕ) → a < 2048 → (after held older).ram a ≡ slice_index (ram image log) a
  pub is_image : IsImage (ram image log)
  pub starting : (after held older).starting < 2
  pub sent : (after held older).starting ≡ 1 → strobed log ≡ true
  pub pending : (after held older).pending < 2
  pub read : (after held older).read < 256
  -- a byte that was read is the RAM's as it stands
  pub ready : (after held older).pending ≡ 1 → (after held older).core.at < 1024
      → (after held older).read ≡ (after held older).ram (2 * (after held older).core.at + (after held older).core.high)

module _ (R image : List ℕ) (log : Log) (cs : List Pins) (k : Keeps R image log cs) where
  acted : (action : Action) → IsLife (Did action ∷ life image log) → ShowsFlag action (nat_eq (halted (core.after cs)) 1)
      → Keeps R image (did (Some action) log) cs
  acted action is tells = acted_line R image log cs k action is tells

  looked_by : (flag byte1 pin : Bool) → pin ≡ nat_eq (halted (core.after cs)) 1
      → FitsIf (FitsScript R image log) (if flag then Some (Read pin) else if byte1 then Some Peek else None)
      → Keeps R image (did (if flag then Some (Read pin) else if byte1 then Some Peek else None) log) cs
  looked_by true byte1 pin e fits = acted (Read pin) fits e
  looked_by false true pin e fits = acted Peek fits tt
  looked_by false false pin e fits = k

  changed_to : (writes sends : Bool) (a byte : ℕ)
      → FitsIf (FitsScript R image log) (if writes then Some (Wrote a byte) else if sends then Some Sent else None)
      → Keeps R image (did (if writes then Some (Wrote a byte) else if sends then Some Sent else None) log) cs
  changed_to true sends a byte fits = acted (Wrote a byte) fits tt
  changed_to false true a byte fits = acted Sent fits tt
  changed_to false false a byte fits = k

-- a run is open only where a strobe was sent
unsent_shut : (R image : List ℕ) (log : Log) → IsLegal R image log → strobed log ≡ false → open_run log ≡ None
unsent_shut R image log legal unsent = by (open_run log) refl
  where
    by : (run : Option (List (ℕ × ℕ))) → open_run log ≡ run → run ≡ None
    by None e = refl
    by (Some fetches) e =
        absurd (false≢true (sym unsent ∙ (kept R image log legal (words_are_whole R image log legal)).1.started fetches e))

set_image : (L : List ℕ) (b : Bool) (a byte : ℕ) → byte < 256 → IsImage L → IsImage (if b then slice_set L a byte else L)
set_image L true a byte small is = record { count = length-set L a byte ∙ is.count; bytes = All-set (λ byte. byte < 256) L a byte small is.bytes }
set_image L false a byte small is = is

module _ (R image : List ℕ) (held : ℕ → ℕ) (log : Log) (older : List Bus) (bus : Bus) (whole : Bool)
    (h : Holds R image held log older) (rom : IsRom R) (is : IsBus bus) (served : IsServed R (after held older) bus) where
  abbrev board : Board
  board = after held older

  abbrev cs : List Pins
  cs = cores held older

  abbrev cs' : List Pins
  cs' = pins board bus ∷ cs

  fits : Fits board.core
  fits = subst Fits (sym (core_is held older)) h.keeps.fits

  -- what the processor looks at
  abbrev log1 : Log
  log1 = did (looks board bus) log

  looks_keeps : FitsIf (FitsScript R image log) (looks board bus) → Keeps R image log1 cs
  looks_keeps look =
      looked_by R image log cs h.keeps (reads bus 0x2002) (reads bus 0x4001) (nat_eq (halted board.core) 1)
      (ap (λ c. nat_eq (halted c) 1) (core_is held older)) look

  ram1 : ram image log1 ≡ ram image log
  ram1 = looks_ram image board bus log

  sent1 : board.starting ≡ 1 → strobed log1 ≡ true
  sent1 e = sent_looks (reads bus 0x2002) (reads bus 0x4001) (nat_eq (halted board.core) 1) log (h.sent e)

  -- the pins of the core
  are : ArePins (pins board bus)
  are = record {
    reset = is.reset;
    start = h.starting;
    valid = h.pending;
    hole = bit_small (none (lt board.core.at 1024)) (none (both (none (lt board.core.at (mux bus.big 1024 2048))) (lt board.core.at 3072)));
    din = din_small (nat_eq (lt board.core.at 1024) 0);
  }
    where
      din_small : (b : Bool) → (if b then bus.rom else board.read) < 256
      din_small true = is.rom
      din_small false = h.read

  answers : bus.reset ≡ 0 → board.starting ≡ 0 → board.pending ≡ 1
      → byte_of (pins board bus) ≡ fetched_byte (ram image log1) R (core.after cs).at (not (nat_eq (core.after cs).high 0))
  answers reset start pending =
      subst (λ (c : Core). byte_of (pins board bus) ≡ fetched_byte (ram image log1) R c.at (not (nat_eq c.high 0))) (core_is held older)
      (map_is (ram image log1) R board.core.at board.core.high board.read bus.rom (subst IsImage (sym ram1) h.is_image) rom fits.high
      (λ below. let high = fits.high in
      h.ready pending below ∙ h.same (2 * board.core.at + board.core.high) (omega arith)
      ∙ ap (λ L. slice_index L (2 * board.core.at + board.core.high)) (sym ram1))
      (served.rom (takes_of board.pending bus.reset board.starting reset start pending))
      (mux bus.big 1024 2048) (ap (λ b. mux b 1024 2048) served.big ∙ first_by (length R == 2048)))

  -- the core's line
  abbrev shown : Shown
  shown = entry held log1 older bus

  abbrev log2 : Log
  log2 = answered image held older bus whole log

  abbrev line : (reset starting takes : ℕ) → Log
  line r s p = core_line r s p whole (ram image log1) shown log1

  core_keeps : Keeps R image log1 cs → Keeps R image log2 cs'
  core_keeps k = elim (zero_or_one bus.reset is.reset) [
    | inr one ↦ subst (λ r. Keeps R image (line r board.starting (takes board bus)) cs') (sym one) (resets one whole)
    | inl off ↦ subst (λ r. Keeps R image (line r board.starting (takes board bus)) cs') (sym off)
        (elim (zero_or_one board.starting h.starting) [
          | inr one ↦ subst (λ s. Keeps R image (line 0 s (takes board bus)) cs') (sym one)
              (start_line R image log1 cs (pins board bus) k are off one (sent1 one))
          | inl still_off ↦ subst (λ s. Keeps R image (line 0 s (takes board bus)) cs') (sym still_off)
              (elim (zero_or_one board.pending h.pending) [
                | inr one ↦ subst (λ t. Keeps R image (line 0 0 t) cs') (sym (takes_of board.pending bus.reset board.starting off still_off one))
                    (subst (λ e. Keeps R image ((Fetch ⟼ e) ∷ log1) cs') (sym (entry_is held log1 older bus))
                    (fetch R image log1 cs (pins board bus) k are off still_off one (answers off still_off one)))
                | inl none ↦ subst (λ t. Keeps R image (line 0 0 t) cs') (sym (takes_none board.pending bus.reset board.starting none))
                    (idle R image log1 cs (pins board bus) k are off still_off none)
              ])
        ])
  ]
    where
      resets : bus.reset ≡ 1 → (whole : Bool)
          → Keeps R image (core_line 1 board.starting (takes board bus) whole (ram image log1) shown log1) cs'
      resets one true = reset_all R image log1 cs (pins board bus) k are one (ram image log1) (subst IsImage (sym ram1) h.is_image)
      resets one false = reset_line R image log1 cs (pins board bus) k are one

  ram2 : ram image log2 ≡ ram image log
  ram2 = core_ram image (nat_eq bus.reset 0) (nat_eq board.starting 0) (nat_eq (takes board bus) 0) whole shown log1
      (entry_ram image (halted board.core) board.core.at (met (low_byte log1) (byte_of (pins board bus)))
      (says (clock board bus).core.done (clock board bus).core.fault (drew held (bus ∷ older))) log1) ∙ ram1

  -- what the processor changes
  abbrev log3 : Log
  log3 = did (changes bus) log2

  changes_keeps : Keeps R image log2 cs' → FitsIf (FitsScript R image log2) (changes bus) → Keeps R image log3 cs'
  changes_keeps k change = changed_to R image log2 cs' k (writes bus) (sends bus) (bus.a % 0x800) bus.d change

  abbrev L : List ℕ
  L = ram image log

  ram3 : ram image log3 ≡ (if writes bus then slice_set L (bus.a % 0x800) bus.d else L)
  ram3 = changes_ram image bus log2
      ∙ ap (λ l. if writes bus then slice_set l (bus.a % 0x800) bus.d else l) ram2

  named_is : nat_eq (part 11 5 bus.a) 8 ≡ nat_eq (bus.a / 0x800) 8
  named_is = let small = is.a in let same : part 11 5 bus.a ≡ bus.a / 0x800 = omega arith in ap (λ n. nat_eq n 8) same

  -- the RAM after the clock, in a log that says the same of it
  abbrev IsWritten : Log → Type 0
  IsWritten to = ram image to ≡ (if writes bus then slice_set L (bus.a % 0x800) bus.d else L)

  same_in : (to : Log) → IsWritten to → (a : ℕ) → a < 2048 → (clock board bus).ram a ≡ slice_index (ram image to) a
  same_in to wrote a small =
      let count = h.is_image.count in
      ap (λ (r : ℕ → ℕ). r a) (ram_is board bus)
      ∙ written board bus L count h.same (nat_eq bus.access 0) (nat_eq bus.write 0) (nat_eq (part 11 5 bus.a) 8) a small
      ∙ ap (λ on. slice_index (if not (nat_eq bus.access 0) && (not (nat_eq bus.write 0) && on) then slice_set L (bus.a % 2048) bus.d else L) a) named_is
      ∙ ap (λ l. slice_index l a) (sym wrote)

  image_in : (to : Log) → IsWritten to → IsImage (ram image to)
  image_in to wrote = subst IsImage (sym wrote) (set_image L (writes bus) (bus.a % 0x800) bus.d is.d h.is_image)

  sends_is : (clock board bus).starting ≡ 1
      → both (both (if nat_eq bus.access 0 then 0 else if nat_eq bus.write 0 then 0 else 1) (bit (nat_eq bus.a 12288))) (if nat_eq bus.reset 0 then 1 else 0) ≡ 1
  sends_is e = e

  sends_at : (clock board bus).starting ≡ 1 → sends bus ≡ true
  sends_at e = sends_needs (nat_eq bus.access 0) (nat_eq bus.write 0) (nat_eq bus.a 12288) (nat_eq bus.reset 0) (sends_is e)

  sent3 : (clock board bus).starting ≡ 1 → strobed log3 ≡ true
  sent3 e = sent_sends (writes bus) (sends bus) (bus.a % 0x800) bus.d log2 (writes_off (sends_at e)) (sends_at e)
    where
      writes_off : sends bus ≡ true → writes bus ≡ false
      writes_off e =
          let at : bus.a ≡ 0x3000 = eqb-true bus.a 0x3000 (third_of (nat_eq bus.access 0) (nat_eq bus.write 0) (nat_eq bus.a 0x3000) e) in
          ap (λ a. not (nat_eq bus.access 0) && (not (nat_eq bus.write 0) && nat_eq (a / 0x800) 8)) at
          ∙ none_there (nat_eq bus.access 0) (nat_eq bus.write 0)

  ram_small : (a : ℕ) → a < 2048 → board.ram a < 256
  ram_small a small = let count = h.is_image.count in
      subst (λ n. n < 256) (sym (h.same a small)) (All-get_or (λ byte. byte < 256) L a 0 (omega arith) h.is_image.bytes)

  read3 : (clock board bus).read < 256
  read3 = subst (λ n. n < 256) (sym (read_is board bus))
      (by (nat_eq bus.access 0) (nat_eq bus.write 0) (nat_eq (part 11 5 bus.a) 8))
    where
      other_small : other board bus < 2048
      other_small = let high = fits.high in omega arith

      by : (x y z : Bool) → mux (writes_of x y z) board.read (board.ram (place_of board bus (on_of x z))) < 256
      by true y z = ram_small (other board bus) other_small
      by false y false = ram_small (other board bus) other_small
      by false true true = ram_small (part 0 11 bus.a) (omega arith)
      by false false true = h.read

  -- a byte is read in a clock that changes neither the RAM nor where the core stands
  ready3 : (clock board bus).pending ≡ 1 → (clock board bus).core.at < 1024
      → (clock board bus).read ≡ (clock board bus).ram (2 * (clock board bus).core.at + (clock board bus).core.high)
  ready3 e = by (asks_needs (nat_eq (both (none (halted board.core)) (none bus.hold)) 0) (nat_eq bus.reset 0) (nat_eq board.starting 0) (nat_eq board.pending 0) (nat_eq bus.access 0) (nat_eq (part 11 5 bus.a) 8) e)
    where
      at_rest : nat_eq bus.reset 0 ≡ true → nat_eq board.starting 0 ≡ true → nat_eq board.pending 0 ≡ true
          → ((clock board bus).core.at ≡ board.core.at) × ((clock board bus).core.high ≡ board.core.high)
      at_rest r s p = still board.core board.core.is_open bus.reset board.starting board.pending (pins board bus).hole (pins board bus).din
          fits.opened (eqb-true bus.reset 0 r) (eqb-true board.starting 0 s) (eqb-true board.pending 0 p)

      quiet : (x y z : Bool) → on_of x z ≡ 0
          → (mux (writes_of x y z) board.read (board.ram (place_of board bus (on_of x z))) ≡ board.ram (other board bus))
          × ((a : ℕ) → ram_of board bus (writes_of x y z) (on_of x z) a ≡ board.ram a)
      quiet true y z o = (refl, λ a. refl)
      quiet false y false o = (refl, λ a. refl)
      quiet false y true o = absurd (omega arith)

      by : (nat_eq bus.reset 0 ≡ true) × (nat_eq board.starting 0 ≡ true) × (nat_eq board.pending 0 ≡ true) × (on_of (nat_eq bus.access 0) (nat_eq (part 11 5 bus.a) 8) ≡ 0)
          → (clock board bus).core.at < 1024
          → (clock board bus).read ≡ (clock board bus).ram (2 * (clock board bus).core.at + (clock board bus).core.high)
      by (r, s, p, o) below =
          let rest = at_rest r s p in
          let free = quiet (nat_eq bus.access 0) (nat_eq bus.write 0) (nat_eq (part 11 5 bus.a) 8) o in
          let at_is = rest.0 in
          let high_is = rest.1 in
          let place : other board bus ≡ 2 * (clock board bus).core.at + (clock board bus).core.high = omega arith in
          let byte_at = 2 * (clock board bus).core.at + (clock board bus).core.high in
          read_is board bus ∙ free.0 ∙ ap board.ram place
          ∙ sym (ap (λ (r : ℕ → ℕ). r byte_at) (ram_is board bus) ∙ free.1 byte_at)

  -- of a log that says the same of the RAM, and where a strobe that is sent was sent
  holds_in : (to : Log) → IsWritten to → ((clock board bus).starting ≡ 1 → strobed to ≡ true) → Keeps R image to cs'
      → Holds R image held to (bus ∷ older)
  holds_in to wrote sent keeps = record {
    keeps = keeps;
    same = same_in to wrote;
    is_image = image_in to wrote;
    starting = bit_small (both (both bus.access bus.write) (eq bus.a 12288)) (none bus.reset);
    sent = sent;
    pending = bit_small (both (both (none (halted board.core)) (none bus.hold)) (none (either (either bus.reset board.starting) board.pending)))
        (none (both bus.access (eq (part 11 5 bus.a) 8)));
    read = read3;
    ready = ready3;
  }

  pub step : FitsIf (FitsScript R image log) (looks board bus) → FitsIf (FitsScript R image log2) (changes bus)
      → Holds R image held log3 (bus ∷ older)
  step look change = holds_in log3 ram3 sent3 (changes_keeps (core_keeps (looks_keeps look)) change)

  -- before a strobe was sent no run is open, and none begins
  pub test : strobed log ≡ false → sends bus ≡ false
      → Holds R image held ((ResetAll (ram image (did (changes bus) log)) ⟼ Cleared) ∷ log) (bus ∷ older)
  test unsent quiet =
      let bytes = ram image (did (changes bus) log) in
      let to : Log = (ResetAll bytes ⟼ Cleared) ∷ log in
      let wrote : IsWritten to = changes_ram image bus log in
      let off : board.starting ≡ 0 = elim (zero_or_one board.starting h.starting) [
        | inl e ↦ e
        | inr e ↦ absurd (false≢true (sym unsent ∙ h.sent e))
      ] in
      holds_in to wrote (λ e. absurd (false≢true (sym quiet ∙ sends_at e)))
      (shut_line R image log cs (pins board bus) h.keeps are (unsent_shut R image log h.keeps.legal unsent) off bytes (image_in to wrote))

-- what needs no access changes no memory and no strobe
silent : (R image : List ℕ) (log : Log) (event : Happening) (shown : Shown) → IsSilent event shown → FitsScript R image log event shown
    → (ram image ((event ⟼ shown) ∷ log) ≡ ram image log) × (strobed log ≡ true → strobed ((event ⟼ shown) ∷ log) ≡ true)
silent R image log Tick (Acted Idle) s f = (refl, λ e. e)
silent R image log Tick (Acted Peek) s f = absurd s
silent R image log Tick (Acted (Wrote a byte)) s f = absurd s
silent R image log Tick (Acted (Read flag)) s f = absurd s
silent R image log Tick (Acted Sent) s f = absurd s
silent R image log (Offer F) (Refused fault) s f = (refl, λ e. e)
silent R image log (Offer F) Busy s f = (refl, λ e. e)
silent R image log (Offer F) Offered s f = (refl, λ e. e)
silent R image log Redraw NothingPublished s f = (refl, λ e. e)
silent R image log Redraw Busy s f = (refl, λ e. e)
silent R image log Redraw Asked s f = (refl, λ e. e)
silent R image log ResetCpu Cleared s f = (refl, λ e. e)
silent R image log Tick _ s f = absurd s
silent R image log (Offer F) _ s f = absurd f
silent R image log Redraw _ s f = absurd f
silent R image log ResetCpu _ s f = absurd f
silent R image log event _ s f = absurd s

abbrev OnBoard : List ℕ → List ℕ → (ℕ → ℕ) → Log → List Bus → Type 0
OnBoard R image held log older = IsBoard FitsScript R image held log older

rom_of : {R image : List ℕ} {held : ℕ → ℕ} {log : Log} {older : List Bus} → OnBoard R image held log older → IsRom R
rom_of (powers rom is_image same) = rom
rom_of (clocks bus whole is_board is served look change) = rom_of is_board
rom_of (tests bus is_board unsent is served quiet) = rom_of is_board
rom_of (acts is_board is_event is_silent as_asked) = rom_of is_board

pub holds : {R image : List ℕ} {held : ℕ → ℕ} {log : Log} {older : List Bus} → OnBoard R image held log older
    → Holds R image held log older
holds {R} {image} {held} (powers rom is_image same) = record {
  keeps = keeps_new R image rom is_image;
  same = same;
  is_image = is_image;
  starting = omega arith;
  sent = λ e. differ refl e;
  pending = omega arith;
  read = omega arith;
  ready = λ e. differ refl e;
}
holds {R} {image} {held} (clocks {log = log} {older = older} bus whole is_board is served look change) =
    step R image held log older bus whole (holds is_board) (rom_of is_board) is served look change
holds {R} {image} {held} (tests {log = log} {older = older} bus is_board unsent is served quiet) =
    test R image held log older bus false (holds is_board) (rom_of is_board) is served unsent quiet
holds {R} {image} {held} (acts {log = log} {older = older} {event = event} {entry = shown} is_board is_event is_silent fits) =
    let h = holds is_board in
    let kept = silent R image log event shown is_silent fits in
    record {
      keeps = silent_line R image log (cores held older) h.keeps event shown is_silent is_event fits;
      same = λ a small. h.same a small ∙ ap (λ l. slice_index l a) (sym kept.0);
      is_image = subst IsImage (sym kept.0) h.is_image;
      starting = h.starting;
      sent = λ e. kept.1 (h.sent e);
      pending = h.pending;
      read = h.read;
      ready = h.ready;
    }

pub legal : OfEachBoard (λ R image held log older. IsLegal R image log)
legal R image held log older is_board = (holds is_board).keeps.legal

pub keeps_headline : OfEachBoard (λ R image held log older. Throughout (KeepsHeadline R image) log)
keeps_headline R image held log older is_board = headline R image log (legal R image held log older is_board)

pub memory : OfEachBoard (λ R image held log older. HoldsRam image held log older)
memory R image held log older is_board = (holds is_board).same
