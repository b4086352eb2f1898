-- What is known of the newest call of a machine, and of the lines of a clock.
use Rattle.std.proofs.Common.{◌≡◌, ℕ, ◌+◌, ◌/◌, ◌%◌, ◌<◌, Bool, true, false, not, List, [], ◌∷◌, length}
use Rattle.std.proofs.Common.{Some, refl, sym, ap, ◌∙◌, subst, arith, inl, inr}
use Rattle.std.specs.Prelude.{nat_eq, ◌&&◌, ◌||◌, if◌then◌else◌, slice_index, slice_set}
use Rattle.std.proofs.lemmas.Bool.Decides.{eqb_tells}
use Rattle.std.proofs.lemmas.List.{get_or-set_same, get_or-set_other}
use Rattle.std.proofs.lemmas.Option.{none-some}
use Rattle.dvg_mem.specs.declared.half.Half.{Half}
use Rattle.dvg_mem.specs.Areas.{other, half_of_high}
use Rattle.dvg_driver.specs.declared.action.Action.{Action}
use Rattle.dvg_driver.specs.declared.action.Action.TheVariants.{Wrote}
use Rattle.dvg_driver.specs.Script
use Rattle.dvg_driver.specs.Script.{Item, Did, IsLife}
use Rattle.dvg_driver.specs.Place.{Place, Writing, next_place}
use Rattle.dvg_driver.proofs.Places.{life_place, place_before}
use Rattle.dvg_log.specs.Log.{Log, ram, life, strobed, free_half}
use Rattle.dvg_log.specs.Legal.{IsLegal}
use Rattle.dvg_theorem.proofs.Bytes.{byte}
use Rattle.dvg_theorem.proofs.DrawnHalf.{in_ram}
use Rattle.dvg_theorem.proofs.DrawnHalfSpared.{KeptBy, kept, same_place}
use Rattle.dvg_theorem.proofs.ToCome.{IsWrite, to_half, to_zero, to_one, is_write}
use Rattle.dvg_theorem.proofs.Words.{words_are_whole}
use Rattle.dvg_calls_6502.specs.Processor.{Cpu, Access}
use Rattle.dvg_calls_6502.specs.Amid.{is_code}
use Rattle.dvg_calls_6502.specs.Board.{seen}
use Rattle.dvg_calls_6502.specs.Routines.{Enters, Shows}
use Rattle.dvg_calls_6502.specs.Calls as calls
use Rattle.dvg_calls_6502.specs.Calls.{Routine, Call, IsSession, IsLifeOf, Follows, AreShown, Adds}
use Rattle.dvg_cells_board.specs.Board.{Bus}
use Rattle.dvg_cells_board.specs.Clocks.{IsBus, IsServed, after}
use Rattle.dvg_cells_board.specs.Logs.{did, answered, FitsIf, IsBoard, clocks, acts}
use Rattle.dvg_cells_board.proofs.Lines.{answered_ram, answered_life, answered_sent}
use Rattle.dvg_calls_board.specs.Machine.{accesses_of, begun, IsIdle, IsChecked, SharesRam, calls_after, with_reset}
use Rattle.dvg_calls_board.proofs.Ram.{last_write, in_ram as ram_place, call_ram}
use Rattle.dvg_calls_board.proofs.System as system
use Rattle.dvg_calls_board.proofs.System.{FitsCode}

-- what is known of the newest call
pub record Newest (R image : List ℕ) (log : Log) (call : Call) (olds : List Call) : Type 0 where
  pub session : IsSession (call ∷ olds)
  pub checked : IsChecked R call.routine
  pub makes : IsLifeOf (call ∷ olds) (life image log)
  pub shares : (a : ℕ) → a < 2048
      → last_write (accesses_of call) (0x4000 + a) (call.from.mem (0x4000 + a)) ≡ slice_index (ram image log) a

abbrev pub Known : List ℕ → List ℕ → Log → List Call → Type 0
Known R image log [] = (life image log ≡ []) × (strobed log ≡ false)
Known R image log (call ∷ olds) = Newest R image log call olds

pub record Runs (R image : List ℕ) (held : ℕ → ℕ) (list : List Call) (log : Log) (older : List Bus) : Type 0 where
  pub board : IsBoard FitsCode R image held log older
  pub known : Known R image log list

-- lines that change neither the RAM nor the life, and send no strobe
same_known : (R image : List ℕ) (list : List Call) (log log' : Log) → ram image log' ≡ ram image log
    → life image log' ≡ life image log → strobed log' ≡ strobed log → Known R image log list → Known R image log' list
same_known R image [] log log' r l s k = (l ∙ k.0, s ∙ k.1)
same_known R image (call ∷ olds) log log' r l s k = record {
  session = k.session;
  checked = k.checked;
  makes = subst (IsLifeOf (call ∷ olds)) (sym l) k.makes;
  shares = λ a small. k.shares a small ∙ ap (λ bytes. slice_index bytes a) (sym r);
}

-- the lines of a clock, where a reset of the whole system ends the calls
known_after : (R image : List ℕ) (r w : Bool) (list : List Call) (log log' : Log) → ram image log' ≡ ram image log
    → life image log' ≡ (if r then life image log else if w then [] else life image log)
    → strobed log' ≡ (if r then strobed log else if w then false else strobed log) → Known R image log list
    → Known R image log' (if r then list else if w then [] else list)
known_after R image true w list log log' e l s k = same_known R image list log log' e l s k
known_after R image false true list log log' e l s k = (l, s)
known_after R image false false list log log' e l s k = same_known R image list log log' e l s k

pub waits_runs : (R image : List ℕ) (held : ℕ → ℕ) (list : List Call) (log : Log) (older : List Bus) (bus : Bus) (whole : Bool)
    → Runs R image held list log older → IsBus bus → IsServed R (after held older) bus → IsIdle (after held older) bus
    → Runs R image held (calls_after bus whole list) (answered image held older bus whole log) (bus ∷ older)
waits_runs R image held list log older bus whole runs is served idle =
    let now = answered image held older bus whole log in record {
      board = subst (λ d. IsBoard FitsCode R image held (did d now) (bus ∷ older)) idle.1
          (clocks bus whole runs.board is served (subst (FitsIf (FitsCode R image log)) (sym idle.0) tt)
          (subst (FitsIf (FitsCode R image now)) (sym idle.1) tt));
      known = known_after R image (nat_eq bus.reset 0) whole list log now (answered_ram image held older bus whole log)
          (answered_life image held older bus whole log
          ∙ ap (λ d. if nat_eq bus.reset 0 then life image (did d log) else if whole then [] else life image (did d log)) idle.0)
          (answered_sent image held older bus whole log
          ∙ ap (λ d. if nat_eq bus.reset 0 then strobed (did d log) else if whole then false else strobed (did d log)) idle.0)
          runs.known;
    }

nothing : (x y : Bool) → (x && (y && false)) ≡ false
nothing true true = refl
nothing true false = refl
nothing false y = refl

-- a call that begins isn't over
not_over : (r : Routine) (from : Cpu) (others : ℕ → ℕ → ℕ) (opcode : ℕ) → from.mem from.pc ≡ opcode
    → nat_eq opcode 0x60 ≡ false → nat_eq opcode 0x18 ≡ false → calls.is_over (begun r from others) ≡ false
not_over r from others opcode is no_return no_clear =
    ap (λ (t : Bool). (t && nat_eq from.s from.s) || calls.is_leaving from.s from) (ap (λ b. nat_eq b 0x60) is ∙ no_return)
    ∙ ap (λ (t : Bool). is_code from.pc && (is_code (from.pc + 1) && (t && (nat_eq (from.mem (from.pc + 1)) 0x60 && nat_eq from.s from.s))))
    (ap (λ b. nat_eq b 0x18) is ∙ no_clear)
    ∙ nothing (is_code from.pc) (is_code (from.pc + 1))

begin_adds : (r : Routine) (from : Cpu) (others : ℕ → ℕ → ℕ) → Enters from (calls.entry r) → Adds r (begun r from others) []
begin_adds calls.Reset from others enters = (ap seen enters.log, refl)
begin_adds (calls.Offer F) from others enters = (
  ap seen enters.log,
  sym (ap (λ (t : Bool). if t && not (calls.answer (begun (calls.Offer F) from others)) then Script.Offered (other (half_of_high (from.mem 0x4001))) F ∷ [] else [])
      (not_over (calls.Offer F) from others 0xA4 (ap from.mem enters.entry ∙ enters.loaded.code 0xFE (omega arith)) refl refl)),
)
begin_adds calls.Redraw from others enters = (
  ap seen enters.log,
  sym (ap (λ (t : Bool). if t && not (calls.answer (begun calls.Redraw from others)) then Script.Asked ∷ [] else [])
      (not_over calls.Redraw from others 0xA5 (ap from.mem enters.entry ∙ enters.loaded.code 0x143 (omega arith)) refl refl)),
)
begin_adds (calls.Open F) from others enters = (
  ap seen enters.log,
  sym (ap (λ (t : Bool). if t && not (calls.answer (begun (calls.Open F) from others)) then Script.Offered (other (half_of_high (from.mem 0x4001))) F ∷ [] else [])
      (not_over (calls.Open F) from others 0xA4 (ap from.mem enters.entry ∙ enters.loaded.code 0x124 (omega arith)) refl refl)),
)
begin_adds _ from others enters = subst (λ l. AreShown [] (seen l)) (sym enters.log) tt

module _ (R image : List ℕ) (held : ℕ → ℕ) (log : Log) (older : List Bus) (from : Cpu) (others : ℕ → ℕ → ℕ) where
  -- what the older calls made, and left in the RAM
  old_life : (call : Call) (list : List Call) → Follows call list × IsSession list → Known R image log list
      → IsLifeOf list (life image log)
  old_life call [] follows k = absurd follows.0
  old_life call (one ∷ olds) follows k = k.makes

  old_ram : (call : Call) (list : List Call) → Follows call list × IsSession list → Known R image log list → (a : ℕ) → a < 2048
      → call.from.mem (0x4000 + a) ≡ slice_index (ram image log) a
  old_ram call [] follows k a small = absurd follows.0
  old_ram call (one ∷ olds) follows k a small =
      follows.0.1.ram (0x4000 + a) (ram_place a small) ∙ call_ram one olds k.session a small ∙ k.shares a small

  begin_shares : (r : Routine) (bytes : List ℕ) → Enters from (calls.entry r)
      → ((a : ℕ) → a < 2048 → from.mem (0x4000 + a) ≡ slice_index bytes a) → (a : ℕ) → a < 2048
      → last_write (accesses_of (begun r from others)) (0x4000 + a) (from.mem (0x4000 + a)) ≡ slice_index bytes a
  begin_shares r bytes enters has a small =
      ap (λ l. last_write (seen l) (0x4000 + a) (from.mem (0x4000 + a))) enters.log ∙ has a small

  -- not a reset
  goes_on : (r : Routine) (list : List Call) → IsSession (begun r from others ∷ list) → IsChecked R r
      → Follows (begun r from others) list × IsSession list → Runs R image held list log older
      → ((items : List Item) → IsLifeOf list items → IsLifeOf (begun r from others ∷ list) items)
      → Runs R image held (begun r from others ∷ list) log older
  goes_on r list session checked follows runs on = record {
    board = runs.board;
    known = record {
      session = session;
      checked = checked;
      makes = on (life image log) (old_life (begun r from others) list follows runs.known);
      shares = begin_shares r (ram image log) session.0 (old_ram (begun r from others) list follows runs.known);
    };
  }

  pub begins_runs : (r : Routine) (list : List Call) → Runs R image held list log older → IsSession (begun r from others ∷ list)
      → IsChecked R r → SharesRam r from.mem (after held older)
      → Runs R image held (begun r from others ∷ list) (with_reset r log) older
  begins_runs calls.Reset list runs session checked shares = record {
    board = acts runs.board tt tt tt;
    known = record {
      session = session;
      checked = checked;
      makes = ([], [], refl, begin_adds calls.Reset from others session.0, refl);
      shares = begin_shares calls.Reset (ram image log) session.0
          (λ a small. shares a small ∙ system.memory R image held log older runs.board a small);
    };
  }
  begins_runs calls.Tick list runs session checked shares = goes_on calls.Tick list session checked session.3 runs
      (λ items is. ([], items, refl, begin_adds calls.Tick from others session.0, is))
  begins_runs calls.Ticks list runs session checked shares = goes_on calls.Ticks list session checked session.3 runs
      (λ items is. ([], items, refl, begin_adds calls.Ticks from others session.0, is))
  begins_runs calls.Run list runs session checked shares = goes_on calls.Run list session checked session.3 runs
      (λ items is. ([], items, refl, begin_adds calls.Run from others session.0, is))
  begins_runs (calls.Offer F) list runs session checked shares = goes_on (calls.Offer F) list session checked session.3 runs
      (λ items is. ([], items, refl, begin_adds (calls.Offer F) from others session.0, is))
  begins_runs calls.Redraw list runs session checked shares = goes_on calls.Redraw list session checked session.3 runs
      (λ items is. ([], items, refl, begin_adds calls.Redraw from others session.0, is))
  begins_runs (calls.Open F) list runs session checked shares = goes_on (calls.Open F) list session checked session.3 runs
      (λ items is. ([], items, refl, begin_adds (calls.Open F) from others session.0, is))
  begins_runs (calls.Puts part) list runs session checked shares = goes_on (calls.Puts part) list session checked session.3 runs
      (λ items is. ([], items, refl, begin_adds (calls.Puts part) from others session.0, is))
  begins_runs calls.Close list runs session checked shares = goes_on calls.Close list session checked session.3 runs
      (λ items is. ([], items, refl, begin_adds calls.Close from others session.0, is))

pub first_is : (one two : Access) → one ∷ [] ≡ two ∷ [] → one ≡ two
first_is one two e = ap (λ l. first l) e
  where
    first : List Access → Access
    first [] = one
    first (access ∷ rest) = access

-- what the script writes is a byte of the RAM
pub written_in_ram : (R image : List ℕ) (log : Log) (a b : ℕ) → IsLegal R image log → IsLife (Did (Wrote a b) ∷ life image log)
    → a < 0x800
written_in_ram R image log a b legal live =
    let k = kept R image log legal (words_are_whole R image log legal) in
    let place = life_place (Did (Wrote a b) ∷ life image log) live in
    let last = place_before (Did (Wrote a b)) (life image log) place.0 place.1 in
    let same = same_place (life image log) k.0 last.0 k.1.stands last.1 in
    by k.0 place.0 k.1 (ap (λ p. next_place p (Did (Wrote a b))) same ∙ last.2)
  where
    of_write : {half : Half} {z : ℕ} {p : Place} → IsWrite half z a b p → a < 0x800
    of_write {half} (to_half inside ws e t) = let below = in_ram half (a / 2) inside in omega arith
    of_write (to_zero ea eb ws e t) = omega arith
    of_write (to_one ea eb e z) = omega arith

    by : (p to : Place) → KeptBy image log p → next_place p (Did (Wrote a b)) ≡ Some to → a < 0x800
    by (Writing ws) to k e = of_write (is_write (free_half image log) (byte image log 0) ws k.here.1 a b to e)
    by _ to k e = absurd (none-some to e)

-- a write of the RAM, and one elsewhere
pub wrote_ram : (L : List ℕ) → length L ≡ 2048 → (x d a : ℕ) → x / 0x800 ≡ 8 → a < 2048
    → (if nat_eq (0x4000 + a) x then d else slice_index L a) ≡ slice_index (slice_set L (x % 0x800) d) a
wrote_ram L size x d a page small = elim (eqb_tells (0x4000 + a) x) [
  | inl t ↦ let at : a ≡ x % 0x800 = omega (arith, t.1) in ap (λ (b : Bool). if b then d else slice_index L a) t.0
      ∙ sym (ap (λ i. slice_index (slice_set L (x % 0x800) d) i) at ∙ get_or-set_same L (x % 0x800) d 0 (omega arith))
  | inr t ↦ ap (λ (b : Bool). if b then d else slice_index L a) t.0
      ∙ sym (get_or-set_other L (x % 0x800) a d 0 (λ e. t.1 (omega arith)))
]

pub elsewhere : (x b : ℕ) → x ≡ 0x3000 → nat_eq (0x4000 + b) x ≡ false
elsewhere x b at = elim (eqb_tells (0x4000 + b) x) [ inl t ↦ absurd (omega (arith, t.1)) | inr t ↦ t.0 ]

-- a call from one of its steps up to a later one, when it has made one access more
module _ (before now : Call) (access : Access) (more : accesses_of now ≡ access ∷ accesses_of before) where
  -- the access is an action, and the call adds it
  abbrev pub Next : Routine → List Item → Type 0
  Next r items = (action : Action) × Shows action (access ∷ [])
      × ((other : Action) → Shows other (access ∷ []) → Adds r now (Did other ∷ items))

  shown_next : (items new : List Item) → AreShown items (accesses_of before) → AreShown new (accesses_of now)
      → (action : Action) × Shows action (access ∷ [])
      × ((other : Action) → Shows other (access ∷ []) → AreShown (Did other ∷ items) (accesses_of now))
  shown_next items new old shows = by new (subst (AreShown new) more shows)
    where
      further : (other : Action) → Shows other (access ∷ []) → AreShown (Did other ∷ items) (accesses_of now)
      further other it = subst (AreShown (Did other ∷ items)) (sym more) (it, old)

      by : (new : List Item) → AreShown new (access ∷ accesses_of before)
          → (action : Action) × Shows action (access ∷ [])
          × ((other : Action) → Shows other (access ∷ []) → AreShown (Did other ∷ items) (accesses_of now))
      by (Did action ∷ new) it = (action, it.0, further)
      by _ it = absurd it

  no_access : {X : Type 0} → accesses_of now ≡ [] → X
  no_access e = absurd (let both = sym more ∙ e in cc)

  pub next_of : (r : Routine) (items new : List Item) → Adds r before items → Adds r now new → Next r items
  next_of calls.Reset items new old it = no_access it.0
  next_of (calls.Offer F) items new old it = no_access it.0
  next_of calls.Redraw items new old it = no_access it.0
  next_of (calls.Open F) items new old it = no_access it.0
  next_of _ items new old it = shown_next items new old it
