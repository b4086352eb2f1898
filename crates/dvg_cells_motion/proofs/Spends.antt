-- A byte adds to the ticks of a run what the pins of the core tell of it.
use Rattle.std.proofs.Common.{◌≡◌, ℕ, zero, suc, ◌+◌, ◌*◌, ◌%◌, ◌<◌, ◌≤◌, Bool, true, false, List, [], ◌∷◌, Option, Some, None, refl, sym, ap, ◌∙◌, subst, arith, inl, inr, ltb}
use Rattle.std.specs.Prelude.{nat_eq, not, ◌⊎◌}
use Rattle.std.proofs.lemmas.Bool.{cases_lt, lt-ltb, ne_eqb}
use Rattle.dvg_code.specs.declared.instr.Instr.{Instr}
use Rattle.dvg_code.specs.declared.instr.Instr.TheVariants.{Vctr, Labs, Halt, Jsrl, Rtsl, Jmpl, Svec}
use Rattle.dvg_code.specs.Spelling.{Spells, vctr, labs, halt, jsrl, rtsl, jmpl, svec}
use Rattle.dvg_code.proofs.FieldsSpell.{vctr_read, svec_read}
use Rattle.dvg_code.proofs.Unique.{same_spelling, sign_is_bit}
use Rattle.dvg_gen.specs.declared.beam.Beam.{Beam}
use Rattle.dvg_gen.specs.Bytes.{Met, met}
use Rattle.dvg_gen.specs.Run.{Visit, Goes, Finished, Adds, first, one, two, fate, beam_after}
use Rattle.dvg_gen.specs.Told.{Told, Newest, Leaves, new, starts, resets, meets_hole, takes}
use Rattle.dvg_gen.proofs.OneRun.{leaves_same}
use Rattle.dvg_cells_core.specs.Cells.{part, joined, add, none}
use Rattle.dvg_cells_core.specs.Core.{Core, Pins}
use Rattle.dvg_cells_core.specs.Core as pin
use Rattle.dvg_cells_core.specs.Refines
use Rattle.dvg_cells_core.specs.Refines.{ArePins, after, Tells, idles, ignores, fetches, byte_of, told_by, waiting}
use Rattle.dvg_cells_core.proofs.Machines.{kept}
use Rattle.dvg_cells_core.proofs.CoreSincePowerUp.{Stands}
use Rattle.dvg_cells_motion.specs.Machine.{own_ticks, vector_ticks}
use Rattle.dvg_cells_motion.specs.Pulses.{time}
use Rattle.dvg_cells_motion.specs.Times.{instr_ticks, run_ticks}
pub use Rattle.dvg_gen.proofs.GeneratorAfterHistory.{open_goes as opened_goes}

-- the bytes of an instruction that isn't whole
abbrev pub of_held : Option ℕ → ℕ
of_held None = 0
of_held (Some word) = 2

abbrev pub of_low : Option ℕ → ℕ
of_low None = 0
of_low (Some byte) = 1

-- the ticks of a run and of the bytes after it, but that in which the next byte is fetched
abbrev pub given : Newest → Option ℕ → ℕ
given run low = 1 + run_ticks run.first run.visits + of_held run.held + of_low low

-- what the pins tell of a byte
abbrev pub cost : Core → Pins → ℕ
cost c pins = own_ticks (pin.jsrl c pins) (pin.ends c pins) + vector_ticks (pin.vec c pins) (pin.sum c pins)

-- a run that a hole broke
abbrev pub IsBroken : Newest → Type 0
IsBroken run = (run.is_open ≡ false) × (fate run.visits ≡ Goes)

-- a run that came to a HALT holds no word
pub finished_holds : {history : List Told} {run : Newest} → Leaves history run → fate run.visits ≡ Finished → run.held ≡ None
finished_holds new e = let never : Goes ≡ Finished = e in absurd (cc)
finished_holds (starts l) e = let never : Goes ≡ Finished = e in absurd (cc)
finished_holds (resets l) e = finished_holds l e
finished_holds (meets_hole l o) e = finished_holds l e
finished_holds (takes l o (first p)) e = let never : Goes ≡ Finished = sym (opened_goes l o) ∙ e in absurd (cc)
finished_holds (takes l o (one s)) e = refl
finished_holds (takes l o (two s)) e = refl

none_some : {P : Type 0} {n : ℕ} → ◌≡◌ {A = Option ℕ} None (Some n) → P
none_some e = absurd (cc)

some_is : {m n : ℕ} → ◌≡◌ {A = Option ℕ} (Some m) (Some n) → m ≡ n
some_is e = cc

first_sum : (r c : ℕ) → c ≡ 0 → r + 2 ≡ r + 0 + (2 + c)
first_sum r c none_more = omega arith

one_sum : (r c t t' : ℕ) → t ≡ 2 + c → t ≡ t' → r + t' + 0 ≡ r + 0 + (2 + c)
one_sum r c t t' costs same = omega arith

two_sum : (r c t t' : ℕ) → t ≡ 4 + c → t ≡ t' → r + t' + 0 ≡ r + 2 + (2 + c)
two_sum r c t t' costs same = omega arith

three : (t : ℕ) → 3 + t ≡ 2 + (1 + t)
three t = omega arith

five : (t : ℕ) → 5 + t ≡ 4 + (1 + t)
five t = omega arith

low_sum : (n : ℕ) → n + 1 ≡ n + 0 + (1 + 0)
low_sum n = omega arith

high_sum : (x y h r k c : ℕ) → x ≡ y → y + h ≡ r + k + (2 + c) → 1 + x + h + 0 ≡ 1 + r + k + 1 + (1 + c)
high_sum x y h r k c same added = omega arith

-- a whole word
module _ (c : Core) (din : ℕ) (low_in : c.low < 256) (din_in : din < 256) where
  abbrev core : ℕ → ℕ → Core
  core high second = record c { is_open = 1; high = high; second = second }

  abbrev byte : Pins
  byte = record { reset = 0; start = 0; valid = 1; hole = 0; din = din }

  abbrev word : ℕ
  word = joined 8 c.low din

  abbrev Costs : ℕ → Instr → ℕ → Type 0
  Costs second code bytes = instr_ticks c.scale code ≡ bytes + cost (core 1 second) byte

  svec_costs : (code : Instr) → part 4 4 din ≡ 15 → Spells code (word ∷ []) → Costs 0 code 2
  svec_costs code e spells =
      let made = svec_read _ word (part 3 1 din) (part 2 1 din) (part 0 2 din) (part 4 4 c.low) (part 3 1 c.low) (part 2 1 c.low) (part 0 2 c.low) _ _
      (omega arith) (omega arith) (omega arith) (omega arith) (omega arith) (omega arith) (omega arith) (omega arith) (omega arith) refl refl refl in
      let sum_is : (c.scale + (2 + 2 * part 3 1 c.low + part 3 1 din)) % 16 ≡ add 4 c.scale (add 4 (joined 1 (part 3 1 din) (part 3 1 c.low)) 2) = omega arith in
      ap (instr_ticks c.scale) (same_spelling code _ (word ∷ []) spells made)
      ∙ ap (λ s. 3 + time s) sum_is
      ∙ (rw e (three (time (add 4 c.scale (add 4 (joined 1 (part 3 1 din) (part 3 1 c.low)) 2)))))

  -- an instruction of one word
  one_costs : (code : Instr) (w : ℕ) → w ≡ word → Spells code (w ∷ []) → Costs 0 code 2
  one_costs Halt w is (halt more less) = let e : part 4 4 din ≡ 11 = omega arith in rw e refl
  one_costs (Jsrl to) w is (jsrl inside sum) = let to_in : to ≤ 4095 = inside in let e : part 4 4 din ≡ 12 = omega arith in rw e refl
  one_costs Rtsl w is (rtsl more less) = let e : part 4 4 din ≡ 13 = omega arith in rw e refl
  one_costs (Jmpl to) w is (jmpl inside sum) = let to_in : to ≤ 4095 = inside in let e : part 4 4 din ≡ 14 = omega arith in rw e refl
  one_costs (Vctr scale dx dy z) w is spells = elim spells [ ]
  one_costs (Labs x y scale) w is spells = elim spells [ ]
  one_costs (Svec scale dx dy z) w is (svec inside short) =
      let sum = short.sum in
      let e : part 4 4 din ≡ 15 = omega arith in
      svec_costs (Svec scale dx dy z) e (subst (λ n. Spells (Svec scale dx dy z) (n ∷ [])) is (svec inside short))

  -- and of two
  vctr_costs : (code : Instr) → c.first < 40960 → Spells code (c.first ∷ word ∷ []) → Costs 1 code 4
  vctr_costs code less spells =
      let made = vctr_read _ c.first word (part 12 4 c.first) (part 10 1 c.first) (part 0 10 c.first) (part 2 1 din) (joined 8 c.low (part 0 2 din)) (part 4 4 din)
      _ _ (omega arith) (omega arith) refl refl refl (omega arith) (omega arith) (omega arith) refl refl refl in
      let op : ltb (part 12 4 c.first) 10 ≡ true = lt-ltb (part 12 4 c.first) 10 (omega arith) in
      ap (instr_ticks c.scale) (same_spelling code _ (c.first ∷ word ∷ []) spells made) ∙ (rw op (five (time (add 4 c.scale (part 12 4 c.first)))))

  two_costs : (code : Instr) (v w : ℕ) → v ≡ c.first → w ≡ word → c.first < 45056 → Spells code (v ∷ w ∷ []) → Costs 1 code 4
  two_costs (Labs x y scale) v w v_is is small (labs inside one_is two_is) = let y_in = inside.1 in let e : part 12 4 c.first ≡ 10 = omega arith in rw e refl
  two_costs Halt v w v_is is small spells = elim spells [ ]
  two_costs (Jsrl to) v w v_is is small spells = elim spells [ ]
  two_costs Rtsl v w v_is is small spells = elim spells [ ]
  two_costs (Jmpl to) v w v_is is small spells = elim spells [ ]
  two_costs (Svec scale dx dy z) v w v_is is small spells = elim spells [ ]
  two_costs (Vctr scale dx dy z) v w v_is is small (vctr inside long other) = by (cases_lt c.first 40960)
    where
      spelled : Spells (Vctr scale dx dy z) (c.first ∷ word ∷ [])
      spelled = subst (λ n. Spells (Vctr scale dx dy z) (n ∷ word ∷ [])) v_is (subst (λ n. Spells (Vctr scale dx dy z) (v ∷ n ∷ [])) is (vctr inside long other))

      by : (c.first < 40960) ⊎ (40960 ≤ c.first) → Costs 1 (Vctr scale dx dy z) 4
      by (inl less) = vctr_costs (Vctr scale dx dy z) less spelled
      by (inr more) =
          let scale_in = inside.0 in
          let size_in = inside.2 in
          let sum = long.sum in
          let free_in = long.free_is_bit in
          let sign_in = sign_is_bit dy long.sign long.sign_is in
          absurd (omega arith)

  first_costs : word < 45056 → cost (core 1 0) byte ≡ 0
  first_costs less = by (part 4 4 din) (omega arith) refl
    where
      by : (op : ℕ) → op < 11 → part 4 4 din ≡ op → cost (core 1 0) byte ≡ 0
      by op less e =
          let below : ltb op 11 ≡ true = lt-ltb op 11 less in
          rw e (rw below (rw (ne_eqb op 12 (λ e. absurd (omega arith))) (rw (ne_eqb op 15 (λ e. absurd (omega arith))) refl)))

  -- what it adds
  abbrev Adding : ℕ → Beam → List Visit → Option ℕ → List Visit → Option ℕ → Type 0
  Adding second beam visits held visits' held' =
      run_ticks beam visits' + of_held held' ≡ run_ticks beam visits + of_held held + (2 + cost (core 1 second) byte)

  word_adds : (second : ℕ) → second < 2 → (second ≡ 1 → c.first < 45056) → (beam : Beam) (visits visits' : List Visit) (held held' : Option ℕ) (w : ℕ)
      → w ≡ word → kept second c.first ≡ held → c.scale ≡ (beam_after beam visits).scale → Adds visits held w visits' held'
      → Adding second beam visits held visits' held'
  word_adds zero small is_first beam visits visits' held held' w is none scale_is (first p) =
      let below : w < 45056 = p in first_sum (run_ticks beam visits) (cost (core 1 0) byte) (first_costs (omega arith))
  word_adds zero small is_first beam visits visits' held held' w is none scale_is (one {code = code} spells) =
      one_sum (run_ticks beam visits) (cost (core 1 0) byte) (instr_ticks c.scale code) (instr_ticks (beam_after beam visits).scale code) (one_costs code w is spells)
      (ap (λ s. instr_ticks s code) scale_is)
  word_adds zero small is_first beam visits visits' held held' w is none scale_is (two spells) = none_some none
  word_adds (suc zero) small is_first beam visits visits' held held' w is none scale_is (first p) = none_some (sym none)
  word_adds (suc zero) small is_first beam visits visits' held held' w is none scale_is (one spells) = none_some (sym none)
  word_adds (suc zero) small is_first beam visits visits' held held' w is none scale_is (two {held = v} {code = code} spells) =
      two_sum (run_ticks beam visits) (cost (core 1 1) byte) (instr_ticks c.scale code) (instr_ticks (beam_after beam visits).scale code)
      (two_costs code v w (sym (some_is none)) is (is_first refl) spells) (ap (λ s. instr_ticks s code) scale_is)
  word_adds (suc (suc n)) small is_first beam visits visits' held held' w is none scale_is adds = absurd (omega arith)

  -- any byte, or a hole
  abbrev holed : ℕ → Pins
  holed hole = record { reset = 0; start = 0; valid = 1; hole = hole; din = din }

  abbrev Spent : Newest → Option ℕ → Newest → Option ℕ → ℕ → Type 0
  Spent run low now low' taken = (given now low' ≡ given run low + (1 + taken)) ⊎ IsBroken now

  by_found : (hole : ℕ) → hole < 2 → (low : Option ℕ) (high second : ℕ) → high < 2 → second < 2 → (second ≡ 1 → c.first < 45056)
      → (history : List Told) (run now : Newest) → Leaves history run → run.is_open ≡ true → kept second c.first ≡ run.held → kept high c.low ≡ low
      → c.scale ≡ (beam_after run.first run.visits).scale → Leaves (told_by (met low (byte_of (holed hole))) history) now
      → Spent run low now (waiting (met low (byte_of (holed hole)))) (cost (core high second) (holed hole))
  by_found zero small None zero second h s is_first history run now l o held low scale_is m =
      inl (ap (λ k. given k (Some din)) (leaves_same m l) ∙ low_sum (1 + run_ticks run.first run.visits + of_held run.held))
  by_found zero small None (suc zero) second h s is_first history run now l o held low scale_is m = none_some (sym low)
  by_found zero small (Some b) zero second h s is_first history run now l o held low scale_is m = none_some low
  by_found zero small (Some b) (suc zero) second h s is_first history run now l o held low scale_is (takes {run = run'} {visits = visits} {held = holds} m p adds) =
      let same = leaves_same m l in
      let word_is : b + 256 * din ≡ word = let low_is = some_is low in omega arith in
      let added = word_adds second s is_first run.first run.visits visits run.held holds (b + 256 * din) word_is held scale_is
      (subst (λ r. Adds r.visits r.held (b + 256 * din) visits holds) same adds) in
      inl (high_sum (run_ticks run'.first visits) (run_ticks run.first visits) (of_held holds) (run_ticks run.first run.visits) (of_held run.held)
      (cost (core 1 second) (holed 0)) (ap (λ k. run_ticks k.first visits) same) added)
  by_found (suc zero) small None high second h s is_first history run now l o held low scale_is (meets_hole m p) = inr (refl, opened_goes m p)
  by_found (suc zero) small (Some b) high second h s is_first history run now l o held low scale_is (meets_hole m p) = inr (refl, opened_goes m p)
  by_found (suc (suc n)) small low high second h s is_first history run now l o held low_is scale_is m = absurd (omega arith)
  by_found hole small low (suc (suc n)) second h s is_first history run now l o held low_is scale_is m = absurd (omega arith)

open_is : (o : ℕ) → o < 2 → none o ≡ 0 → o ≡ 1
open_is zero small e = absurd (omega arith)
open_is (suc zero) small e = refl
open_is (suc (suc n)) small e = absurd (omega arith)

-- one clock of a core that stands, without a reset and a start
module _ (clocks : List Pins) (pins : Pins) (are : ArePins pins) (was : Stands clocks) (reset : pins.reset ≡ 0) (start : pins.start ≡ 0) where
  abbrev old : Core
  old = after clocks

  as_byte : pins.valid ≡ 1 → pins ≡ record { reset = 0; start = 0; valid = 1; hole = pins.hole; din = pins.din }
  as_byte v =
      ap (λ k. record { reset = k; start = pins.start; valid = pins.valid; hole = pins.hole; din = pins.din }) reset
      ∙ ap (λ k. record { reset = 0; start = k; valid = pins.valid; hole = pins.hole; din = pins.din }) start
      ∙ ap (λ k. record { reset = 0; start = 0; valid = k; hole = pins.hole; din = pins.din }) v

  -- one in which an open run is served
  pub spends : {history' : List Told} {low' : Option ℕ} {found : Option Met} → Tells pins was.history was.low history' low' found
      → (now : Newest) → Leaves history' now → pins.valid ≡ 1 → pin.halted old ≡ 0
      → (given now low' ≡ given was.stands.run was.low + (1 + cost old pins)) ⊎ IsBroken now
  spends (Refines.resets r) now m valid opened = absurd (omega arith)
  spends (Refines.starts r s) now m valid opened = absurd (omega arith)
  spends (idles r s v) now m valid opened = absurd (omega arith)
  spends (ignores {run = run} r s v l o) now m valid opened =
      let is = open_is old.is_open was.fits.opened opened in
      let shut = was.stands.stands.is_open ∙ ap (λ k. k.is_open) (leaves_same was.stands.leaves l) ∙ o in
      let flag : ◌≡◌ {A = Bool} true false = sym (ap (λ n. not (nat_eq n 0)) is) ∙ shut in
      absurd (cc)
  spends (fetches {run = run} r s v l o) now m valid opened =
      let is = open_is old.is_open was.fits.opened opened in
      let going_on : was.stands.run.is_open ≡ true = ap (λ k. k.is_open) (leaves_same was.stands.leaves l) ∙ o in
      let core_is : old ≡ record old { is_open = 1 } = ap (λ k. record old { is_open = k }) is in
      let byte_is = as_byte valid in
      let held = (was.stands.stands.running going_on).held in
      let m_byte : Leaves (told_by (met was.low (byte_of (record { reset = 0; start = 0; valid = 1; hole = pins.hole; din = pins.din }))) was.history) now = m in
      let plain = by_found old pins.din was.fits.low are.din pins.hole are.hole was.low old.high old.second was.fits.high was.fits.second was.fits.first
      was.history was.stands.run now was.stands.leaves going_on held was.stands.low (ap (λ b. b.scale) was.stands.stands.beam) m_byte in
      let same : cost (record old { is_open = 1 }) (record { reset = 0; start = 0; valid = 1; hole = pins.hole; din = pins.din }) ≡ cost old pins =
      ap (λ p. cost (record old { is_open = 1 }) p) (sym byte_is) ∙ ap (λ k. cost k pins) (sym core_is) in
      subst (λ n. (given now (waiting (met was.low (byte_of pins))) ≡ given was.stands.run was.low + (1 + n)) ⊎ IsBroken now) same plain

  -- one in which it isn't
  pub unspent : {history' : List Told} {low' : Option ℕ} {found : Option Met} → Tells pins was.history was.low history' low' found
      → (now : Newest) → Leaves history' now → (pins.valid ≡ 0) ⊎ (was.stands.run.is_open ≡ false)
      → (now ≡ was.stands.run) × (low' ≡ was.low)
  unspent (Refines.resets r) now m quiet = absurd (omega arith)
  unspent (Refines.starts r s) now m quiet = absurd (omega arith)
  unspent (idles r s v) now m quiet = (leaves_same m was.stands.leaves, refl)
  unspent (ignores r s v l o) now m quiet = (leaves_same m was.stands.leaves, refl)
  unspent (fetches r s v l o) now m (inl quiet) = absurd (omega arith)
  unspent (fetches {run = run} r s v l o) now m (inr shut) =
      let flag : ◌≡◌ {A = Bool} true false = sym (ap (λ k. k.is_open) (leaves_same was.stands.leaves l) ∙ o) ∙ shut in
      absurd (cc)
