-- What no log can have, and what each log as `cells_keep` says it has.
use Rattle.std.proofs.Common.{◌≡◌, ℕ, ◌<◌, Bool, true, false, List, [], ◌∷◌, Some, None, refl, sym, ap, ◌∙◌, subst}
use Rattle.std.specs.Prelude.{nat_eq, ◌%◌, if◌then◌else◌, slice_index}
use Rattle.dvg_mem.specs.Memory.{IsImage, IsRom}
use Rattle.dvg_driver.specs.declared.action.Action.TheVariants.{Wrote, Sent}
use Rattle.dvg_calls_6502.specs.Calls.{Call}
use Rattle.dvg_cells_board.specs.Board.{Bus}
use Rattle.dvg_cells_board.specs.Clocks.{after, writes, sends, changes}
use Rattle.dvg_log.specs.Log.{Log}
use Rattle.dvg_calls_board.specs.Machine as system
use Rattle.dvg_calls_board.specs.Machine.{IsMachine, OfEachMachine, HaveRam, calls_after}
use Rattle.dvg_calls_cells.specs.Cycles.{AreAlike, none, same, elsewhere}
use Rattle.dvg_calls_cells.specs.Played.{CallsKeepHeadline}
use Rattle.dvg_calls_cells.specs.Needed.{AreCalls, AreChecked, AreWired, PremisesFollow, AllIsDoes}

-- a clock that changes nothing sends no strobe
sends_none : (bus : Bus) → changes bus ≡ None → sends bus ≡ false
sends_none bus e = by (writes bus) (sends bus) e
  where
    by : (w s : Bool) → (if w then Some (Wrote (bus.a % 0x800) bus.d) else if s then Some Sent else None) ≡ None → s ≡ false
    by true s e = absurd (cc)
    by false true e = absurd (cc)
    by false false e = refl

-- a machine without a call, whose newest clock wasn't a reset: before that it had none either, and it sent no strobe
record Before (R image : List ℕ) (held : ℕ → ℕ) (bus : Bus) (older : List Bus) : Type 0 where
  log : Log
  on : IsMachine R image held [] log older
  silent : sends bus ≡ false

before : {R image : List ℕ} {held : ℕ → ℕ} {list : List Call} {log : Log} {clocks : List Bus} → IsMachine R image held list log clocks
    → list ≡ [] → (bus : Bus) (older : List Bus) → clocks ≡ bus ∷ older → nat_eq bus.reset 0 ≡ true → Before R image held bus older
before (system.powers rom is_image first) empty bus older is reset = absurd (cc)
before {R} {image} {held} (system.waits {calls = list} {log = log} {older = olds} one whole on is_bus served idle) empty bus older is reset =
    let same_bus : one ≡ bus = cc in
    let same_olds : olds ≡ older = cc in
    let no : nat_eq one.reset 0 ≡ true = ap (λ (b : Bus). nat_eq b.reset 0) same_bus ∙ reset in
    let no_calls : list ≡ [] = sym (ap (λ (t : Bool). if t then list else if whole then [] else list) no) ∙ empty in
    record {
      log = log;
      on = subst (λ l. IsMachine R image held l log older) no_calls (subst (λ o. IsMachine R image held list log o) same_olds on);
      silent = ap sends (sym same_bus) ∙ sends_none one idle.1;
    }
before {R} {image} {held} (system.tests {log = log} {older = olds} one on is_bus served quiet) empty bus older is reset =
    let same_bus : one ≡ bus = cc in
    let same_olds : olds ≡ older = cc in
    record {
      log = log;
      on = subst (λ o. IsMachine R image held [] log o) same_olds on;
      silent = ap sends (sym same_bus) ∙ quiet;
    }
before (system.begins routine from others on session checked shares) empty bus older is reset = absurd (cc)
before (system.steps n on unfinished session more) empty bus older is reset = absurd (cc)
before (system.accesses n access one on session more is_bus served made) empty bus older is reset = absurd (cc)

-- the clock that stands for one
record Stands (bus : Bus) (more shown : List Bus) : Type 0 where
  one : Bus
  older : List Bus
  is : shown ≡ one ∷ older
  alike : AreAlike more older
  writes_so : nat_eq bus.write 0 ≡ false → one ≡ bus
  reset : one.reset ≡ bus.reset
  big : one.big ≡ bus.big
  rom : one.rom ≡ bus.rom
  d : one.d ≡ bus.d

stands : {clocks shown : List Bus} → AreAlike clocks shown → (bus : Bus) (more : List Bus) → clocks ≡ bus ∷ more → Stands bus more shown
stands none bus more is = absurd (cc)
stands (same {made = made} {shown = shown} one alike) bus more is =
    let same_bus : one ≡ bus = cc in
    let same_more : made ≡ more = cc in
    record {
      one = one;
      older = shown;
      is = refl;
      alike = subst (λ l. AreAlike l shown) same_more alike;
      writes_so = λ writing. same_bus;
      reset = ap (λ (b : Bus). b.reset) same_bus;
      big = ap (λ (b : Bus). b.big) same_bus;
      rom = ap (λ (b : Bus). b.rom) same_bus;
      d = ap (λ (b : Bus). b.d) same_bus;
    }
stands (elsewhere {made = made} {shown = shown} one a reading alike) bus more is =
    let same_bus : one ≡ bus = cc in
    let same_more : made ≡ more = cc in
    record {
      one = record one { a = a };
      older = shown;
      is = refl;
      alike = subst (λ l. AreAlike l shown) same_more alike;
      writes_so = λ writing. absurd (
          let reads_so : nat_eq bus.write 0 ≡ true = ap (λ (b : Bus). nat_eq b.write 0) (sym same_bus) ∙ ap (λ w. nat_eq w 0) reading in
          cc
          );
      reset = ap (λ (b : Bus). b.reset) same_bus;
      big = ap (λ (b : Bus). b.big) same_bus;
      rom = ap (λ (b : Bus). b.rom) same_bus;
      d = ap (λ (b : Bus). b.d) same_bus;
    }

-- no log without a call is of clocks of which the newest but one sends a strobe
pub sent_by_none : (R image : List ℕ) (held : ℕ → ℕ) (last one : Bus) (older : List Bus) → nat_eq last.reset 0 ≡ true
    → nat_eq one.reset 0 ≡ true → nat_eq one.write 0 ≡ false → sends one ≡ true → CallsKeepHeadline R image held [] (last ∷ one ∷ older) → ⊥
sent_by_none R image held last one older reset_last reset_one writing sending keeps =
    let a = stands keeps.stand.alike last (one ∷ older) refl in
    let b = stands a.alike one older refl in
    let first = before keeps.machine refl a.one a.older a.is (ap (λ r. nat_eq r 0) a.reset ∙ reset_last) in
    let second = before first.on refl b.one b.older b.is (ap (λ r. nat_eq r 0) b.reset ∙ reset_one) in
    let silent : sends one ≡ false = ap sends (sym (b.writes_so writing)) ∙ second.silent in
    cc

-- the RAM is what the newest call has in memory
pub has_ram : OfEachMachine (λ R image held list log clocks. HaveRam list (after held clocks)) → (R image : List ℕ) (held : ℕ → ℕ)
    (call : Call) (olds : List Call) (clocks : List Bus) → CallsKeepHeadline R image held (call ∷ olds) clocks
    → HaveRam (call ∷ olds) (after held clocks)
has_ram shared R image held call olds clocks keeps =
    subst (λ b. HaveRam (call ∷ olds) b) keeps.stand.board
    (shared R image held (call ∷ olds) keeps.log keeps.shown keeps.machine)

-- what a machine says of its premises
record Says (R image : List ℕ) (held : ℕ → ℕ) (list : List Call) (clocks : List Bus) : Type 0 where
  rom : IsRom R
  is_image : IsImage image
  first : (a : ℕ) → a < 2048 → held a ≡ slice_index image a
  session : AreCalls list
  checked : AreChecked R list
  wired : AreWired R clocks

calls_stay : (P : List Call → Type 0) (bus : Bus) (whole : Bool) (list : List Call) → P [] → P list → P (calls_after bus whole list)
calls_stay P bus whole list empty some = by (nat_eq bus.reset 0) whole
  where
    by : (r w : Bool) → P (if r then list else if w then [] else list)
    by true w = some
    by false true = empty
    by false false = some

says : {R image : List ℕ} {held : ℕ → ℕ} {list : List Call} {log : Log} {clocks : List Bus} → IsMachine R image held list log clocks
    → Says R image held list clocks
says (system.powers rom is_image first) =
    record { rom = rom; is_image = is_image; first = first; session = tt; checked = tt; wired = tt }
says {R} (system.waits {calls = list} bus whole on is_bus served idle) = let was = says on in
    record {
      rom = was.rom;
      is_image = was.is_image;
      first = was.first;
      session = calls_stay AreCalls bus whole list tt was.session;
      checked = calls_stay (AreChecked R) bus whole list tt was.checked;
      wired = (served.big, is_bus.rom, is_bus.d, was.wired);
    }
says (system.tests bus on is_bus served quiet) = let was = says on in
    record {
      rom = was.rom;
      is_image = was.is_image;
      first = was.first;
      session = tt;
      checked = tt;
      wired = (served.big, is_bus.rom, is_bus.d, was.wired);
    }
says (system.begins routine from others on session checked shares) = let was = says on in
    record {
      rom = was.rom;
      is_image = was.is_image;
      first = was.first;
      session = session;
      checked = (checked, was.checked);
      wired = was.wired;
    }
says (system.steps n on unfinished session more) = let was = says on in
    record {
      rom = was.rom;
      is_image = was.is_image;
      first = was.first;
      session = session;
      checked = was.checked;
      wired = was.wired;
    }
says (system.accesses n access bus on session more is_bus served made) = let was = says on in
    record {
      rom = was.rom;
      is_image = was.is_image;
      first = was.first;
      session = session;
      checked = was.checked;
      wired = (served.big, is_bus.rom, is_bus.d, was.wired);
    }

-- clocks have the jumper and the bytes of those that stand for them
wired_so : (R : List ℕ) (clocks shown : List Bus) → AreAlike clocks shown → AreWired R shown → AreWired R clocks
wired_so R [] shown alike wired = tt
wired_so R (bus ∷ more) shown alike wired =
    let a = stands alike bus more refl in
    let both : AreWired R (a.one ∷ a.older) = subst (AreWired R) a.is wired in (
      sym a.big ∙ both.0,
      subst (λ n. n < 256) a.rom both.1,
      subst (λ n. n < 256) a.d both.2,
      wired_so R more a.older a.alike both.3,
    )

pub premises_follow : OfEachMachine (λ R image held list log clocks. HaveRam list (after held clocks)) → PremisesFollow
premises_follow shared R image held list clocks keeps =
    let said = says keeps.machine in
    record {
      rom = said.rom;
      is_image = said.is_image;
      first = said.first;
      session = said.session;
      checked = said.checked;
      shares = subst (λ b. HaveRam list b) keeps.stand.board (shared R image held list keeps.log keeps.shown keeps.machine);
      wired = wired_so R clocks keeps.shown keeps.stand.alike said.wired;
    }

pub all_is_does : AllIsDoes
all_is_does R held call older cells list does = record {
  unfinished = does.unfinished;
  goes = does.goes;
  rests = does.rests;
  free = does.free;
  placed = does.placed;
  single = does.single;
  count = does.count;
  answered = does.answered;
  given = does.given;
}
