-- The pins of the core that a motion takes.
use Rattle.std.proofs.Common.{◌≡◌, ℕ, zero, suc, ◌+◌, ◌-◌, ◌*◌, ◌/◌, ◌%◌, ◌<◌, ◌≤◌, Bool, true, false, pos, ◌*ℤ◌}
use Rattle.std.proofs.Common.{List, [], ◌∷◌, ◌++◌, Option, Some, None, refl, sym, ap, ◌∙◌, subst, arith, append-nil, ltb, inl, inr}
use Rattle.std.specs.Prelude.{nat_eq, nat_lt, not, ◌⊎◌}
use Rattle.std.proofs.lemmas.Bool.{cases_lt, le-ltb, lt-ltb, ne_eqb}
use Rattle.std.proofs.lemmas.List.Elements.{All-head, All-tail}
use Rattle.dvg_code.specs.Fields.{signed}
use Rattle.dvg_code.specs.declared.instr.Instr.{Instr}
use Rattle.dvg_code.specs.declared.instr.Instr.TheVariants.{Vctr, Labs, Halt, Jsrl, Rtsl, Jmpl, Svec}
use Rattle.dvg_code.specs.Spelling.{Spells, halt, jsrl, rtsl, jmpl}
use Rattle.dvg_code.proofs.FieldsSpell.{vctr_read, labs_read, svec_read}
use Rattle.dvg_gen.specs.declared.beam.Beam.{Beam}
use Rattle.dvg_gen.specs.declared.counters.Counters.{Counters}
use Rattle.dvg_gen.specs.declared.moving.Move.{Move}
use Rattle.dvg_gen.specs.declared.stroke.Stroke.{Stroke}
use Rattle.dvg_gen.specs.Bytes.{Met, Waits, Whole, met}
use Rattle.dvg_gen.specs.Counting.{stepped, followed}
use Rattle.dvg_gen.specs.Drawing.{unit, moved}
use Rattle.dvg_gen.specs.Moving.{made, begins_at, going, AddsMoves}
use Rattle.dvg_gen.specs.Position.{IsBeam}
use Rattle.dvg_gen.specs.Told.{Told, Newest, Leaves}
use Rattle.dvg_gen.proofs.Counted.{counted_step}
use Rattle.dvg_gen.proofs.Inside.{spelled_range}
use Rattle.dvg_gen.proofs.Moves.{FetchesMove, completes_move, first_move, adds_moves}
use Rattle.dvg_gen.proofs.OneRun.{leaves_same}
use Rattle.dvg_cells_core.specs.Cells.{part, joined, add, lt, eq, bit, some, none, both}
use Rattle.dvg_cells_core.specs.Core.{Core, Pins, vec, labs}
use Rattle.dvg_cells_core.specs.Core as pin
use Rattle.dvg_cells_core.specs.Refines
use Rattle.dvg_cells_core.specs.Refines.{ArePins, after, drew, Tells, idles, ignores, fetches, byte_of, told_by}
use Rattle.dvg_cells_core.proofs.Machines.{machine_of, kept}
use Rattle.dvg_cells_core.proofs.CoreSincePowerUp.{Stands, stand, stand_next, agrees_of, one}
use Rattle.dvg_cells_core.specs.Tells.{moves_of, TellsMove, TellsMoves, TellsKind, PinsTell, PinsRest, sum_by}
use Rattle.dvg_cells_core.proofs.Scaled.{stepped_to}

-- a fetch: the moves that it adds, of which the pins tell
pub record Adds (core : Core) (pins : Pins) (drew : List Stroke) (found : Met) : Type 0 where
  pub added : List Move
  pub fetches : FetchesMove (machine_of core drew) found added
  pub tells : TellsMoves core pins added

both_not : (b : Bool) → some (none (some (bit b))) ≡ bit (not b)
both_not true = refl
both_not false = refl

both_is : (b : Bool) → some (some (bit b)) ≡ bit b
both_is true = refl
both_is false = refl

module _ (c : Core) (din : ℕ) (drew : List Stroke) (x_in : c.x < 2097152) (y_in : c.y < 2097152) (scale_in : c.scale < 16)
    (low_in : c.low < 256) (din_in : din < 256) where
  abbrev core : ℕ → ℕ → ℕ → Core
  core is_open high second = record c { is_open = is_open; high = high; second = second }

  abbrev byte : ℕ → ℕ → Pins
  byte valid hole = record { reset = 0; start = 0; valid = valid; hole = hole; din = din }

  abbrev word : ℕ
  word = joined 8 c.low din

  abbrev target : ℕ
  target = joined 8 c.low (part 0 4 din)

  abbrev Word : ℕ → Type 0
  Word second = Adds (core 1 1 second) (byte 1 0) drew (Whole (Some word))

  beam_in : IsBeam c.x c.y c.scale
  beam_in = record { x_inside = x_in; y_inside = y_in; scale_small = scale_in }

  abbrev beam : Beam
  beam = record { x = c.x; y = c.y; scale = c.scale }

  -- one word that moves nothing
  plain : (code : Instr) → Spells code (word ∷ []) → ((address : ℕ) → made beam address code ≡ [])
      → (vec (core 1 1 0) (byte 1 0) ≡ 0) × (labs (core 1 1 0) (byte 1 0) ≡ 0) → Word 0
  plain code spells none quiet = record {
    added = [];
    fetches = completes_move (machine_of (core 1 1 0) drew) word (begins_at None c.at) code [] spells refl (sym (none (begins_at None c.at)));
    tells = quiet;
  }

  silent : (op : ℕ) → op < 15 → part 4 4 din ≡ op → (vec (core 1 1 0) (byte 1 0) ≡ 0) × (labs (core 1 1 0) (byte 1 0) ≡ 0)
  silent op less e = rw e (rw (ne_eqb op 15 (λ e. absurd (omega arith))) (refl, refl))

  first : din < 176 → Word 0
  first less = record {
    added = [];
    fetches = first_move (machine_of (core 1 1 0) drew) word [] refl (omega arith) refl;
    tells = silent (part 4 4 din) (omega arith) refl;
  }

  alone : (k : ℕ) → k < 4 → part 4 4 din ≡ 11 + k → Word 0
  alone zero less e = plain Halt (halt (omega arith) (omega arith)) (λ a. refl) (silent 11 (omega arith) e)
  alone (suc zero) less e = plain (Jsrl target) (jsrl {address = target} (omega arith) (omega arith)) (λ a. refl) (silent 12 (omega arith) e)
  alone (suc (suc zero)) less e = plain Rtsl (rtsl (omega arith) (omega arith)) (λ a. refl) (silent 13 (omega arith) e)
  alone (suc (suc (suc zero))) less e = plain (Jmpl target) (jmpl {address = target} (omega arith) (omega arith)) (λ a. refl) (silent 14 (omega arith) e)
  alone (suc (suc (suc (suc k)))) less e = absurd (omega arith)

  -- an SVEC
  abbrev svec_by : ℕ
  svec_by = 2 + 2 * part 3 1 c.low + part 3 1 din

  abbrev svec_code : Instr
  svec_code = Svec svec_by (signed (part 2 1 c.low) (part 0 2 c.low)) (signed (part 2 1 din) (part 0 2 din)) (part 4 4 c.low)

  svec_spells : part 4 4 din ≡ 15 → Spells svec_code (word ∷ [])
  svec_spells e =
      svec_read _ word (part 3 1 din) (part 2 1 din) (part 0 2 din) (part 4 4 c.low) (part 3 1 c.low) (part 2 1 c.low) (part 0 2 c.low) _ _
      (omega arith) (omega arith) (omega arith) (omega arith) (omega arith) (omega arith) (omega arith) (omega arith) (omega arith) refl refl refl

  abbrev svec_sum : ℕ
  svec_sum = add 4 c.scale (add 4 (joined 1 (part 3 1 din) (part 3 1 c.low)) 2)

  abbrev svec_move : Move
  svec_move = going beam (moved beam svec_code) (part 4 4 c.low) false (begins_at None c.at)

  svec_leads : part 4 4 din ≡ 15 → (old : Counters) → followed old svec_move ≡ stepped old
      (signed (part 2 1 c.low) (joined 8 0 (part 0 2 c.low)) *ℤ pos (unit svec_sum)) (signed (part 2 1 din) (joined 8 0 (part 0 2 din)) *ℤ pos (unit svec_sum))
  svec_leads e old =
      let same : (c.scale + svec_by) % 16 ≡ svec_sum = omega arith in
      sym (counted_step old beam (begins_at None c.at) svec_code beam_in (spelled_range (svec_spells e)))
      ∙ ap (λ s. stepped old (signed (part 2 1 c.low) (part 0 2 c.low) *ℤ pos (256 * unit s)) (signed (part 2 1 din) (part 0 2 din) *ℤ pos (256 * unit s))) same
      ∙ stepped_to old (part 2 1 c.low) (part 2 1 din) (joined 8 0 (part 0 2 c.low)) (joined 8 0 (part 0 2 din)) (part 0 2 c.low) (part 0 2 din) (unit svec_sum)
      (omega arith) (omega arith)

  svec_tells : part 4 4 din ≡ 15 → TellsMove false (core 1 1 0) (byte 1 0) svec_move
  svec_tells e =
      let leads = svec_leads e in
      let goes_is : vec (core 1 1 0) (byte 1 0) ≡ 1 = rw e refl in
      let loads_is : labs (core 1 1 0) (byte 1 0) ≡ 0 = refl in
      (goes_is, loads_is, omega arith, omega arith, omega arith, omega arith, omega arith, refl, leads)

  svec : part 4 4 din ≡ 15 → Word 0
  svec e = record {
    added = svec_move ∷ [];
    fetches = completes_move (machine_of (core 1 1 0) drew) word (begins_at None c.at) svec_code (svec_move ∷ []) (svec_spells e) refl refl;
    tells = svec_tells e;
  }

  -- a VCTR
  abbrev vctr_code : Instr
  vctr_code = Vctr (part 12 4 c.first) (signed (part 2 1 din) (joined 8 c.low (part 0 2 din))) (signed (part 10 1 c.first) (part 0 10 c.first)) (part 4 4 din)

  vctr_spells : c.first < 40960 → Spells vctr_code (c.first ∷ word ∷ [])
  vctr_spells less =
      vctr_read _ c.first word (part 12 4 c.first) (part 10 1 c.first) (part 0 10 c.first) (part 2 1 din) (joined 8 c.low (part 0 2 din)) (part 4 4 din)
      _ _ (omega arith) (omega arith) refl refl refl (omega arith) (omega arith) (omega arith) refl refl refl

  abbrev vctr_move : Move
  vctr_move = going beam (moved beam vctr_code) (part 4 4 din) false (begins_at (Some c.first) c.at)

  vctr_leads : c.first < 40960 → (old : Counters) → followed old vctr_move ≡ stepped old
      (signed (part 2 1 din) (joined 8 c.low (part 0 2 din)) *ℤ pos (unit (add 4 c.scale (part 12 4 c.first)))) (signed (part 10 1 c.first) (part 0 10 c.first) *ℤ pos (unit (add 4 c.scale (part 12 4 c.first))))
  vctr_leads less old = sym (counted_step old beam (begins_at (Some c.first) c.at) vctr_code beam_in (spelled_range (vctr_spells less)))

  vctr_tells : c.first < 40960 → TellsMove false (core 1 1 1) (byte 1 0) vctr_move
  vctr_tells less =
      let op : ltb (part 12 4 c.first) 10 ≡ true = lt-ltb (part 12 4 c.first) 10 (omega arith) in
      rw op (refl, refl, omega arith, omega arith, omega arith, omega arith, omega arith, refl, λ old. vctr_leads less old)

  vctr : c.first < 40960 → Word 1
  vctr less = record {
    added = vctr_move ∷ [];
    fetches = completes_move (machine_of (core 1 1 1) drew) word (begins_at (Some c.first) c.at) vctr_code (vctr_move ∷ []) (vctr_spells less) refl refl;
    tells = vctr_tells less;
  }

  -- a LABS
  abbrev labs_code : Instr
  labs_code = Labs target (part 0 12 c.first) (part 4 4 din)

  labs_spells : 40960 ≤ c.first → c.first < 45056 → Spells labs_code (c.first ∷ word ∷ [])
  labs_spells more less =
      labs_read _ c.first word target (part 0 12 c.first) (part 4 4 din) (omega arith) (omega arith) (omega arith) (omega arith) refl (omega arith) refl

  abbrev labs_move : Move
  labs_move = going beam (moved beam labs_code) 0 true (begins_at (Some c.first) c.at)

  abbrev put : ℕ → ℕ → Counters
  put x y = record { x = x; y = y }

  labs_leads : (old : Counters) → followed old labs_move ≡ put (part 9 12 (0 + 512 * target)) (part 9 12 (0 + 512 * part 0 12 c.first))
  labs_leads old =
      let x_is : 512 * target / 512 % 4096 ≡ part 9 12 (0 + 512 * target) = omega arith in
      let y_is : 512 * part 0 12 c.first / 512 % 4096 ≡ part 9 12 (0 + 512 * part 0 12 c.first) = omega arith in
      ap (λ k. put k (512 * part 0 12 c.first / 512 % 4096)) x_is ∙ ap (put (part 9 12 (0 + 512 * target))) y_is

  labs_tells : 40960 ≤ c.first → c.first < 45056 → TellsMove true (core 1 1 1) (byte 1 0) labs_move
  labs_tells more less =
      let op : part 12 4 c.first ≡ 10 = omega arith in
      rw op (refl, refl, λ old. labs_leads old)

  by_labs : 40960 ≤ c.first → c.first < 45056 → Word 1
  by_labs more less = record {
    added = labs_move ∷ [];
    fetches = completes_move (machine_of (core 1 1 1) drew) word (begins_at (Some c.first) c.at) labs_code (labs_move ∷ []) (labs_spells more less) refl refl;
    tells = labs_tells more less;
  }

  -- any whole word
  by_word : (second : ℕ) → second < 2 → (second ≡ 1 → c.first < 45056) → Word second
  by_word zero bit is_first = by (cases_lt din 176) (cases_lt din 240)
    where
      by : (din < 176) ⊎ (176 ≤ din) → (din < 240) ⊎ (240 ≤ din) → Word 0
      by (inl less) _ = first less
      by (inr more) (inl less) = alone (part 4 4 din - 11) (omega arith) (omega arith)
      by (inr more) (inr far) = svec (omega arith)
  by_word (suc zero) bit is_first = by (cases_lt c.first 40960)
    where
      by : (c.first < 40960) ⊎ (40960 ≤ c.first) → Word 1
      by (inl less) = vctr less
      by (inr more) = by_labs more (is_first refl)
  by_word (suc (suc n)) bit is_first = absurd (omega arith)

  -- a low byte, and a hole
  by_low : (second : ℕ) → Adds (core 1 0 second) (byte 1 0) drew (Waits din)
  by_low second = record { added = []; fetches = refl; tells = (refl, refl) }

  by_hole : (high second : ℕ) → Adds (core 1 high second) (byte 1 1) drew (Whole None)
  by_hole high second = record { added = []; fetches = refl; tells = (refl, refl) }

  -- no fetch
  idle : (is_open high second hole : ℕ) → is_open < 2
      → (vec (core is_open high second) (byte 0 hole) ≡ 0) × (labs (core is_open high second) (byte 0 hole) ≡ 0)
  idle zero high second hole small = (refl, refl)
  idle (suc zero) high second hole small = (refl, refl)
  idle (suc (suc n)) high second hole small = absurd (omega arith)

  shut : (high second valid hole : ℕ) → (vec (core 0 high second) (byte valid hole) ≡ 0) × (labs (core 0 high second) (byte valid hole) ≡ 0)
  shut high second valid hole = (refl, refl)

  -- any fetch: what it meets, and what that adds
  by_fetch : (high second hole : ℕ) → high < 2 → second < 2 → hole < 2 → (second ≡ 1 → c.first < 45056)
      → Adds (core 1 high second) (byte 1 hole) drew (met (machine_of (core 1 high second) drew).low (byte_of (byte 1 hole)))
  by_fetch zero second zero h s o is_first = by_low second
  by_fetch (suc zero) second zero h s o is_first = by_word second s is_first
  by_fetch zero second (suc zero) h s o is_first = by_hole 0 second
  by_fetch (suc zero) second (suc zero) h s o is_first = by_hole 1 second
  by_fetch (suc (suc n)) second hole h s o is_first = absurd (omega arith)
  by_fetch high second (suc (suc n)) h s o is_first = absurd (omega arith)

  -- what a fetch met, and none
  kind_idle : (is_open high second hole : ℕ) → is_open < 2
      → (pin.ends (core is_open high second) (byte 0 hole) ≡ 0) × (pin.jsrl (core is_open high second) (byte 0 hole) ≡ 0)
  kind_idle zero high second hole small = (refl, refl)
  kind_idle (suc zero) high second hole small = (refl, refl)
  kind_idle (suc (suc n)) high second hole small = absurd (omega arith)

  kind_shut : (high second valid hole : ℕ) → (pin.ends (core 0 high second) (byte valid hole) ≡ 0) × (pin.jsrl (core 0 high second) (byte valid hole) ≡ 0)
  kind_shut high second valid hole = (refl, refl)

  -- a vector's sum after a first word, which is a VCTR's
  vctr_sum : pin.vec (core 1 1 1) (byte 1 0) ≡ 1 → pin.sum (core 1 1 1) (byte 1 0) ≡ sum_by (Some c.first) word c.scale
  vctr_sum is = by (cases_lt (part 12 4 c.first) 10)
    where
      by : (part 12 4 c.first < 10) ⊎ (10 ≤ part 12 4 c.first) → pin.sum (core 1 1 1) (byte 1 0) ≡ sum_by (Some c.first) word c.scale
      by (inl less) =
          let op : ltb (part 12 4 c.first) 10 ≡ true = lt-ltb (part 12 4 c.first) 10 less in
          let sum_is : add 4 c.scale (part 12 4 c.first) ≡ (c.scale + c.first / 4096) % 16 = omega arith in
          rw op sum_is
      by (inr more) =
          let op : ltb (part 12 4 c.first) 10 ≡ false = le-ltb (part 12 4 c.first) 10 more in
          let none_goes : pin.vec (core 1 1 1) (byte 1 0) ≡ 0 = rw op refl in
          let never : ◌≡◌ {A = ℕ} 0 1 = sym none_goes ∙ is in absurd (cc)

  kind_word : (second : ℕ) → second < 2 → TellsKind (Some (Whole (Some word))) (kept second c.first) (core 1 1 second) (byte 1 0)
  kind_word zero small =
      let op : part 4 4 din ≡ word / 4096 = omega arith in
      let sum_is : add 4 c.scale (add 4 (joined 1 (part 3 1 din) (part 3 1 c.low)) 2) ≡ sum_by None word c.scale = omega arith in
      (ap (λ n. some (none (some (lt n 11)))) op ∙ both_not (nat_lt (word / 4096) 11), ap (λ n. some (some (eq n 12))) op ∙ both_is (nat_eq (word / 4096) 12), λ is. sum_is)
  kind_word (suc zero) small = (refl, refl, vctr_sum)
  kind_word (suc (suc n)) small = absurd (omega arith)

  kind_fetch : (high second hole : ℕ) → high < 2 → second < 2 → hole < 2
      → TellsKind (Some (met (machine_of (core 1 high second) drew).low (byte_of (byte 1 hole)))) (kept second c.first) (core 1 high second) (byte 1 hole)
  kind_fetch zero second zero h s o = (refl, refl)
  kind_fetch (suc zero) second zero h s o = kind_word second s
  kind_fetch zero second (suc zero) h s o = (refl, refl)
  kind_fetch (suc zero) second (suc zero) h s o = (refl, refl)
  kind_fetch (suc (suc n)) second hole h s o = absurd (omega arith)
  kind_fetch high second (suc (suc n)) h s o = absurd (omega arith)

-- the run of a history is one
same_run : {history : List Told} {a b : Newest} → Leaves history a → Leaves history b → moves_of b ≡ moves_of a ++ []
same_run {a = a} l m = ap moves_of (leaves_same m l) ∙ sym (append-nil (moves_of a))

told_moves : (found : Met) (history : List Told) (old new : Newest) (added : List Move) → Leaves history old → AddsMoves history old found added
    → Leaves (told_by found history) new → moves_of new ≡ moves_of old ++ added
told_moves (Waits b) history old new added l adds m = same_run l m ∙ ap (λ list. moves_of old ++ list) (sym adds)
told_moves (Whole w) history old new added l adds m = adds new m

open_is : (o : ℕ) → o < 2 → not (nat_eq o 0) ≡ true → o ≡ 1
open_is zero small e = absurd (cc)
open_is (suc zero) small e = refl
open_is (suc (suc n)) small e = absurd (omega arith)

shut_is : (o : ℕ) → o < 2 → not (nat_eq o 0) ≡ false → o ≡ 0
shut_is zero small e = refl
shut_is (suc zero) small e = absurd (cc)
shut_is (suc (suc n)) small e = absurd (omega arith)

-- one clock of a core that stands
module _ (clocks : List Pins) (pins : Pins) (are : ArePins pins) (was : Stands clocks) (reset : pins.reset ≡ 0) (start : pins.start ≡ 0) where
  abbrev c : Core
  c = after clocks

  abbrev Gains : Newest → Option Met → Type 0
  Gains new found = (added : List Move) × (moves_of new ≡ moves_of was.stands.run ++ added) × TellsMoves c pins added
      × TellsKind found was.stands.run.held c pins

  as_byte : (valid : ℕ) → pins.valid ≡ valid → pins ≡ record { reset = 0; start = 0; valid = valid; hole = pins.hole; din = pins.din }
  as_byte valid v =
      ap (λ k. record { reset = k; start = pins.start; valid = pins.valid; hole = pins.hole; din = pins.din }) reset
      ∙ ap (λ k. record { reset = 0; start = k; valid = pins.valid; hole = pins.hole; din = pins.din }) start
      ∙ ap (λ k. record { reset = 0; start = 0; valid = k; hole = pins.hole; din = pins.din }) v

  as_core : (o : ℕ) → c.is_open ≡ o → c ≡ record c { is_open = o }
  as_core o e = ap (λ k. record c { is_open = k }) e

  pub gains : {history' : List Told} {low' : Option ℕ} {found : Option Met} → Tells pins was.history was.low history' low' found
      → (new : Newest) → Leaves history' new → Gains new found
  gains (Refines.resets r) new m = absurd (omega arith)
  gains (Refines.starts r s) new m = absurd (omega arith)
  gains (idles r s v) new m = (
    [],
    same_run was.stands.leaves m,
    subst (λ p. TellsMoves c p []) (sym (as_byte 0 v)) (idle c pins.din (drew clocks) was.fits.x was.fits.y was.fits.scale was.fits.low are.din c.is_open c.high c.second pins.hole was.fits.opened),
    subst (λ p. TellsKind None was.stands.run.held c p) (sym (as_byte 0 v)) (kind_idle c pins.din (drew clocks) was.fits.x was.fits.y was.fits.scale was.fits.low are.din c.is_open c.high c.second pins.hole was.fits.opened),
  )
  gains (ignores {run = run} r s v l o) new m =
      let closed : c.is_open ≡ 0 = shut_is c.is_open was.fits.opened (was.stands.stands.is_open ∙ ap (λ k. k.is_open) (leaves_same was.stands.leaves l) ∙ o) in (
        [],
        same_run was.stands.leaves m,
        subst (λ k. TellsMoves k pins []) (sym (as_core 0 closed)) (subst (λ p. TellsMoves (record c { is_open = 0 }) p []) (sym (as_byte 1 v))
            (shut c pins.din (drew clocks) was.fits.x was.fits.y was.fits.scale was.fits.low are.din c.high c.second 1 pins.hole)),
        subst (λ k. TellsKind None was.stands.run.held k pins) (sym (as_core 0 closed)) (subst (λ p. TellsKind None was.stands.run.held (record c { is_open = 0 }) p) (sym (as_byte 1 v))
            (kind_shut c pins.din (drew clocks) was.fits.x was.fits.y was.fits.scale was.fits.low are.din c.high c.second 1 pins.hole)),
      )
  gains (fetches {run = run} r s v l o) new m =
      let going_on : was.stands.run.is_open ≡ true = ap (λ k. k.is_open) (leaves_same was.stands.leaves l) ∙ o in
      let opened : c.is_open ≡ 1 = open_is c.is_open was.fits.opened (was.stands.stands.is_open ∙ going_on) in
      let plain = by_fetch c pins.din (drew clocks) was.fits.x was.fits.y was.fits.scale was.fits.low are.din c.high c.second pins.hole was.fits.high was.fits.second are.hole was.fits.first in
      let here : Adds c pins (drew clocks) (met (machine_of c (drew clocks)).low (byte_of pins)) =
      subst (λ k. Adds k pins (drew clocks) (met (machine_of k (drew clocks)).low (byte_of pins))) (sym (as_core 1 opened))
      (subst (λ p. Adds (record c { is_open = 1 }) p (drew clocks) (met (machine_of (record c { is_open = 1 }) (drew clocks)).low (byte_of p))) (sym (as_byte 1 v)) plain) in
      let adds = adds_moves (machine_of c (drew clocks)) (byte_of pins) (met (machine_of c (drew clocks)).low (byte_of pins)) here.added refl here.fetches was.history was.low was.stands going_on in
      let plain_kind = kind_fetch c pins.din (drew clocks) was.fits.x was.fits.y was.fits.scale was.fits.low are.din c.high c.second pins.hole was.fits.high was.fits.second are.hole in
      let kind_here : TellsKind (Some (met (machine_of c (drew clocks)).low (byte_of pins))) (machine_of c (drew clocks)).held c pins =
      subst (λ k. TellsKind (Some (met (machine_of k (drew clocks)).low (byte_of pins))) (machine_of k (drew clocks)).held k pins) (sym (as_core 1 opened))
      (subst (λ p. TellsKind (Some (met (machine_of (record c { is_open = 1 }) (drew clocks)).low (byte_of p))) (machine_of (record c { is_open = 1 }) (drew clocks)).held (record c { is_open = 1 }) p) (sym (as_byte 1 v)) plain_kind) in
      let kind = subst (λ h. TellsKind (Some (met was.low (byte_of pins))) h c pins) (was.stands.stands.running going_on).held
      (subst (λ l. TellsKind (Some (met l (byte_of pins))) (machine_of c (drew clocks)).held c pins) was.stands.low kind_here) in
      (here.added, told_moves (met was.low (byte_of pins)) was.history was.stands.run new here.added was.stands.leaves adds m, here.tells, kind)

pub pins_tell_law : PinsTell
pins_tell_law clocks pins all reset start =
    let was = stand clocks (All-tail ArePins pins clocks all) in
    let are = All-head ArePins pins clocks all in
    let now = stand_next pins clocks are was in
    let did = one (after clocks) pins (drew clocks) was.history was.low was.fits are was.stands in
    let found = gains clocks pins are was reset start did.tells now.stands.run now.stands.leaves in
    (agrees_of clocks was, agrees_of (pins ∷ clocks) now, found.0, found.1, found.2, found.3)

both_none : (a : ℕ) → both a 0 ≡ 0
both_none zero = refl
both_none (suc a) = rw (ne_eqb (suc a) 0 (λ e. absurd (omega arith))) refl

pub pins_rest_law : PinsRest
pins_rest_law core pins (inl reset) =
    let whole = both (both (both core.is_open pins.valid) (none pins.hole)) core.high in
    rw reset (rw (both_none whole) (refl, refl, refl, refl))
pins_rest_law core pins (inr start) =
    let whole = both (both (both core.is_open pins.valid) (none pins.hole)) core.high in
    rw start (rw (both_none (both whole (none pins.reset))) (refl, refl, refl, refl))
