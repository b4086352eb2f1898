-- One clock: what each event does to the machine of the core.
use Rattle.std.proofs.Common.{◌≡◌, ℕ, zero, suc, ◌+◌, ◌-◌, ◌*◌, ◌%◌, ◌<◌, ◌≤◌, false, List, [], ◌∷◌, ◌++◌, Option, Some, None, refl, sym, ap, ◌∙◌, subst, arith, append-nil, true, inl, inr}
use Rattle.std.specs.Prelude.{nat_eq, nat_lt, if◌then◌else◌, ◌⊎◌}
use Rattle.dvg_code.specs.declared.instr.Instr.{Instr}
use Rattle.dvg_code.specs.declared.instr.Instr.TheVariants.{Vctr, Labs, Halt, Jsrl, Rtsl, Jmpl, Svec}
use Rattle.dvg_code.specs.Spelling.{Spells, halt, jsrl, rtsl, jmpl}
use Rattle.dvg_gen.specs.declared.stroke.Stroke.{Stroke}
use Rattle.dvg_gen.specs.declared.taken.Step.TheVariants.{Word, Broke}
use Rattle.dvg_gen.specs.declared.taken.GenFault.{GenFault}
use Rattle.dvg_gen.specs.declared.taken.GenFault.TheVariants.{StackOver, StackUnder, Hole}
use Rattle.dvg_gen.specs.Bytes.{Waits, Whole}
use Rattle.dvg_gen.specs.Machine.{Machine, HasTaken}
use Rattle.dvg_gen.specs.Obeyed.{Obeyed, gone}
use Rattle.dvg_gen.proofs.GeneratorAfterHistory.{Claim, stands_start, stands_reset, claim_hole, claim_low, claim_first}
use Rattle.dvg_cells_core.specs.Cells.{part, joined, add, some}
use Rattle.dvg_cells_core.specs.Core.{Core, Pins, clock}
use Rattle.dvg_cells_core.specs.Shown.{line_of, ShowsReply}
use Rattle.std.proofs.lemmas.Bool.{cases_lt, lt-ltb, ne_eqb}
use Rattle.dvg_gen.specs.Completing.{Completes}
use Rattle.dvg_gen.specs.Told.{Told, Start, Reset, Fed, Reply, More, Drew, Fails, reply}
use Rattle.dvg_cells_core.proofs.Machines.{kept, machine_of}
use Rattle.dvg_cells_core.specs.Refines
use Rattle.dvg_cells_core.specs.Refines.{fetches}
use Rattle.dvg_cells_core.proofs.RegistersFit.{Fits, Stepped, Halted, halted_at, obeys, reply_is, shift_in}
use Rattle.dvg_cells_core.proofs.Shifts.{shift, shift_is, hop_is, line_is}
use Rattle.dvg_code.proofs.FieldsSpell.{vctr_read, labs_read, svec_read}
use Rattle.dvg_code.specs.Fields.{signed}
use Rattle.dvg_gen.specs.declared.beam.Beam.{Beam}
use Rattle.dvg_gen.specs.Drawing.{unit, shifted, line}

-- the tests of an opcode that begins an instruction of two words, or of one
first_tests : (op : ℕ) → op < 11 → (nat_eq op 11 ≡ false) × (nat_eq op 12 ≡ false) × (nat_eq op 13 ≡ false) × (nat_eq op 14 ≡ false)
    × (nat_eq op 15 ≡ false) × (nat_lt op 11 ≡ true)
first_tests op less = (
  ne_eqb op 11 (λ e. absurd (omega arith)),
  ne_eqb op 12 (λ e. absurd (omega arith)),
  ne_eqb op 13 (λ e. absurd (omega arith)),
  ne_eqb op 14 (λ e. absurd (omega arith)),
  ne_eqb op 15 (λ e. absurd (omega arith)),
  lt-ltb op 11 less,
)

module _ (at done fault stroke x0 y0 x y z first low depth s0 s1 s2 s3 scale din : ℕ) (drew : List Stroke) where
  abbrev core : (is_open high second depth : ℕ) → Core
  core is_open high second depth = record {
    at = at;
    high = high;
    done = done;
    fault = fault;
    stroke = stroke;
    x0 = x0;
    y0 = y0;
    x = x;
    y = y;
    z = z;
    is_open = is_open;
    second = second;
    first = first;
    low = low;
    depth = depth;
    s0 = s0;
    s1 = s1;
    s2 = s2;
    s3 = s3;
    scale = scale;
  }

  abbrev byte : Pins
  byte = record { reset = 0; start = 0; valid = 1; hole = 0; din = din }

  abbrev old : (high second depth : ℕ) → Machine
  old high second depth = machine_of (core 1 high second depth) drew

  abbrev new : (high second depth : ℕ) → Machine
  new high second depth =
      let after = clock (core 1 high second depth) byte in machine_of after (drew ++ line_of after)

  abbrev word : ℕ
  word = joined 8 low din

  pub resets : (is_open high second start valid hole : ℕ) (history : List Told) (waiting : Option ℕ)
      → HasTaken (machine_of (core is_open high second depth) drew) history waiting
      → HasTaken (machine_of (clock (core is_open high second depth) (record { reset = 1; start = start; valid = valid; hole = hole; din = din })) []) (Reset ∷ history) None
  resets is_open high second start valid hole history waiting after =
      stands_reset (machine_of (core is_open high second depth) drew) _ history waiting after refl refl refl

  pub starts : (is_open high second valid hole : ℕ) (history : List Told) (waiting : Option ℕ)
      → HasTaken (machine_of (core is_open high second depth) drew) history waiting
      → HasTaken (machine_of (clock (core is_open high second depth) (record { reset = 0; start = 1; valid = valid; hole = hole; din = din })) []) (Start ∷ history) None
  starts is_open high second valid hole history waiting after =
      stands_start (machine_of (core is_open high second depth) drew) _ history waiting after refl refl refl refl refl refl refl

  pub low_byte : (second : ℕ) → Claim (Waits din) (old 0 second depth) (new 0 second depth) None
  low_byte second = claim_low din (old 0 second depth) (new 0 second depth) refl
      (ap (λ (l : List Stroke). record (old 0 second depth) { low = Some din; strokes = l }) (append-nil drew))

  abbrev gap : Pins
  gap = record { reset = 0; start = 0; valid = 1; hole = 1; din = din }

  pub holes : (high second : ℕ)
      → Claim (Whole None) (old high second depth) (machine_of (clock (core 1 high second depth) gap) (drew ++ [])) (Some (Fails Hole))
  holes high second = claim_hole (old high second depth) (machine_of (clock (core 1 high second depth) gap) (drew ++ [])) (Some (Fails Hole)) refl refl
      (ap (λ (l : List Stroke). record (old high second depth) { low = None; is_open = false; strokes = l }) (append-nil drew))

  -- the high byte of a first word
  first_new : part 4 4 din < 11
      → new 1 0 depth ≡ record (old 1 0 depth) { at = (at + 1) % 4096; held = Some word; low = None; strokes = drew ++ [] }
  first_new less = let t = first_tests (part 4 4 din) less in rw (t.0, t.1, t.2, t.3, t.4, t.5)

  pub first_word : low < 256 → din < 176 → Claim (Whole (Some word)) (old 1 0 depth) (new 1 0 depth) (Some More)
  first_word low_small less =
      claim_first word ((at + 1) % 4096) (old 1 0 depth) (new 1 0 depth) refl refl (omega arith) refl
      (first_new (omega arith)
      ∙ ap (λ (l : List Stroke). record (old 1 0 depth) { at = (at + 1) % 4096; held = Some word; low = None; strokes = l }) (append-nil drew))

  -- an instruction of one word
  abbrev target : ℕ
  target = joined 8 low (part 0 4 din)

  overflows : part 4 4 din ≡ 12 → Obeyed (old 1 0 4) (Jsrl target) (new 1 0 4) (Broke StackOver)
  overflows e = ((target, refl), refl, (rw e, refl, rw e), refl)

  underflows : part 4 4 din ≡ 13 → Obeyed (old 1 0 0) Rtsl (new 1 0 0) (Broke StackUnder)
  underflows e = (refl, refl, (rw e, refl, rw e), refl)

  -- the words that spell them
  spells_call : part 4 4 din ≡ 12 → low < 256 → din < 256 → Spells (Jsrl target) (word ∷ [])
  spells_call e small byte_small = jsrl {address = target} (omega arith) (omega arith)

  spells_return : part 4 4 din ≡ 13 → low < 256 → din < 256 → Spells Rtsl (word ∷ [])
  spells_return e small byte_small = rtsl (omega arith) (omega arith)

  -- a LABS
  abbrev landed : ℕ → ℕ → ℕ → Machine
  landed depth to_x to_y = record (gone (old 1 1 depth) Halt) { beam = record { x = to_x; y = to_y; scale = part 4 4 din }; at = (at + 1) % 4096 }

  lands : (depth : ℕ) → part 12 4 first ≡ 10 → new 1 1 depth ≡ landed depth (0 + 512 * target) (0 + 512 * part 0 12 first)
  lands depth e = rw e

  labs : (depth : ℕ) → part 12 4 first ≡ 10
      → Obeyed (old 1 1 depth) (Labs target (part 0 12 first) (part 4 4 din)) (new 1 1 depth) Word
  labs depth e = (
    tt,
    lands depth e
        ∙ ap (λ to. landed depth to (0 + 512 * part 0 12 first)) (omega arith)
        ∙ ap (λ to. landed depth (512 * target) to) (omega arith),
  )

  -- a vector
  abbrev slid_to : (second depth to_x to_y : ℕ) → List Stroke → Machine
  slid_to second depth to_x to_y drew = record (gone (old 1 second depth) Halt) {
    beam = record { x = to_x; y = to_y; scale = scale };
    at = (at + 1) % 4096;
    strokes = drew;
  }

  abbrev seen : ℕ → ℕ → ℕ → List Stroke
  seen to_x to_y z = if nat_eq (some z) 0 then [] else record { x0 = x; y0 = y; x1 = to_x; y1 = to_y; z = z } ∷ []

  -- where it goes, in two ways
  slid_is : (second z to_x to_y x' y' : ℕ) → to_x ≡ x' → to_y ≡ y' → slid_to second depth to_x to_y (drew ++ seen to_x to_y z)
      ≡ slid_to second depth x' y' (drew ++ line (record { x = x; y = y; scale = scale }) (record { x = x'; y = y'; scale = scale }) z)
  slid_is second z to_x to_y x' y' x_is y_is =
      let from : Beam = record { x = x; y = y; scale = scale } in
      ap (λ drawn. slid_to second depth to_x to_y (drew ++ drawn)) (line_is from (record { x = to_x; y = to_y; scale = scale }) z)
      ∙ ap (λ v. slid_to second depth v to_y (drew ++ line from (record { x = v; y = to_y; scale = scale }) z)) x_is
      ∙ ap (λ v. slid_to second depth x' v (drew ++ line from (record { x = x'; y = v; scale = scale }) z)) y_is

  abbrev vctr_x : ℕ
  vctr_x = shift x (part 2 1 din) (joined 8 low (part 0 2 din)) (add 4 scale (part 12 4 first))

  abbrev vctr_y : ℕ
  vctr_y = shift y (part 10 1 first) (part 0 10 first) (add 4 scale (part 12 4 first))

  slides : part 12 4 first < 10 → new 1 1 depth ≡ slid_to 1 depth vctr_x vctr_y (drew ++ seen vctr_x vctr_y (part 4 4 din))
  slides less = let low = lt-ltb (part 12 4 first) 10 less in rw low

  abbrev svec_scale : ℕ
  svec_scale = add 4 (joined 1 (part 3 1 din) (part 3 1 low)) 2

  abbrev svec_x : ℕ
  svec_x = shift x (part 2 1 low) (joined 8 0 (part 0 2 low)) (add 4 scale svec_scale)

  abbrev svec_y : ℕ
  svec_y = shift y (part 2 1 din) (joined 8 0 (part 0 2 din)) (add 4 scale svec_scale)

  hops : part 4 4 din ≡ 15 → new 1 0 depth ≡ slid_to 0 depth svec_x svec_y (drew ++ seen svec_x svec_y (part 4 4 low))
  hops e = rw e

  -- as the definition has them
  module _ (x_in : x < 2097152) (y_in : y < 2097152) (scale_in : scale < 16) (low_in : low < 256) (din_in : din < 256) where
    vctr : part 12 4 first < 10
        → Obeyed (old 1 1 depth)
        (Vctr (part 12 4 first) (signed (part 2 1 din) (joined 8 low (part 0 2 din))) (signed (part 10 1 first) (part 0 10 first)) (part 4 4 din))
        (new 1 1 depth) Word
    vctr less =
        let sum_in : add 4 scale (part 12 4 first) < 16 = omega arith in
        let to_x = shift_is x (part 2 1 din) (joined 8 low (part 0 2 din)) (add 4 scale (part 12 4 first)) x_in (omega arith) sum_in in
        let to_y = shift_is y (part 10 1 first) (part 0 10 first) (add 4 scale (part 12 4 first)) y_in (omega arith) sum_in in
        (tt, slides less ∙ slid_is 1 (part 4 4 din) vctr_x vctr_y _ _ to_x to_y)

    abbrev svec_by : ℕ
    svec_by = 2 + 2 * part 3 1 low + part 3 1 din

    svec : part 4 4 din ≡ 15
        → Obeyed (old 1 0 depth)
        (Svec svec_by (signed (part 2 1 low) (part 0 2 low)) (signed (part 2 1 din) (part 0 2 din)) (part 4 4 low))
        (new 1 0 depth) Word
    svec e =
        let sum_in : add 4 scale svec_scale < 16 = omega arith in
        let same : add 4 scale svec_scale ≡ (scale + svec_by) % 16 = omega arith in
        let to_x : svec_x ≡ shifted x (signed (part 2 1 low) (part 0 2 low)) (256 * unit ((scale + svec_by) % 16)) =
        shift_is x (part 2 1 low) (joined 8 0 (part 0 2 low)) (add 4 scale svec_scale) x_in (omega arith) sum_in
        ∙ hop_is x (part 2 1 low) (part 0 2 low) (unit (add 4 scale svec_scale)) (omega arith)
        ∙ ap (λ s. shifted x (signed (part 2 1 low) (part 0 2 low)) (256 * unit s)) same in
        let to_y : svec_y ≡ shifted y (signed (part 2 1 din) (part 0 2 din)) (256 * unit ((scale + svec_by) % 16)) =
        shift_is y (part 2 1 din) (joined 8 0 (part 0 2 din)) (add 4 scale svec_scale) y_in (omega arith) sum_in
        ∙ hop_is y (part 2 1 din) (part 0 2 din) (unit (add 4 scale svec_scale)) (omega arith)
        ∙ ap (λ s. shifted y (signed (part 2 1 din) (part 0 2 din)) (256 * unit s)) same in
        (tt, hops e ∙ slid_is 0 (part 4 4 low) svec_x svec_y _ _ to_x to_y)

    spells_vctr : (op : ℕ) → op < 10 → part 12 4 first ≡ op → first < 65536
        → Spells (Vctr (part 12 4 first) (signed (part 2 1 din) (joined 8 low (part 0 2 din))) (signed (part 10 1 first) (part 0 10 first)) (part 4 4 din))
        (first ∷ word ∷ [])
    spells_vctr op less e first_in =
        vctr_read _ first word (part 12 4 first) (part 10 1 first) (part 0 10 first) (part 2 1 din) (joined 8 low (part 0 2 din)) (part 4 4 din)
        _ _ (omega arith) (omega arith) refl refl refl (omega arith) (omega arith) (omega arith) refl refl refl

    spells_labs : part 12 4 first ≡ 10 → first < 65536 → Spells (Labs target (part 0 12 first) (part 4 4 din)) (first ∷ word ∷ [])
    spells_labs e first_in =
        labs_read _ first word target (part 0 12 first) (part 4 4 din) (omega arith) (omega arith) (omega arith) (omega arith) refl (omega arith) refl

    spells_svec : part 4 4 din ≡ 15
        → Spells (Svec svec_by (signed (part 2 1 low) (part 0 2 low)) (signed (part 2 1 din) (part 0 2 din)) (part 4 4 low)) (word ∷ [])
    spells_svec e =
        svec_read _ word (part 3 1 din) (part 2 1 din) (part 0 2 din) (part 4 4 low) (part 3 1 low) (part 2 1 low) (part 0 2 low) _ _
        (omega arith) (omega arith) (omega arith) (omega arith) (omega arith) (omega arith) (omega arith) (omega arith) (omega arith) refl refl refl

    abbrev now : ℕ → ℕ → Core
    now second depth = clock (core 1 1 second depth) byte

    abbrev ShowsNow : ℕ → ℕ → Reply → Type 0
    ShowsNow second depth answer = ShowsReply answer (now second depth) (drew ++ line_of (now second depth))

    abbrev Next : ℕ → ℕ → List Told → Type 0
    Next second depth history = Stepped byte (core 1 1 second depth) drew history (Some low)

    abbrev Before : ℕ → ℕ → List Told → Type 0
    Before second depth history = HasTaken (old 1 second depth) history (Some low)

    finish : (second depth : ℕ) (history : List Told) (after : Before second depth history)
        (stands : HasTaken (new 1 second depth) (Fed (Some word) ∷ history) None)
        → ShowsNow second depth (reply (Some word) stands.run) → Fits (now second depth) → Next second depth history
    finish second depth history after stands said fits = record {
      history' = Fed (Some word) ∷ history;
      low' = None;
      found = Some (Whole (Some word));
      tells = fetches {run = after.run} refl refl refl after.leaves (sym after.stands.is_open);
      stands = stands;
      fits = fits;
      said = said;
    }

    goes : (second depth : ℕ) (history : List Told) (code : Instr) → Before second depth history
        → Completes (kept second first) word code → Obeyed (old 1 second depth) code (new 1 second depth) Word
        → ShowsNow second depth More → Fits (now second depth) → Next second depth history
    goes second depth history code after completes obeyed more fits =
        let answers = obeys word (old 1 second depth) (new 1 second depth) code Word refl completes obeyed history (Some low) after in
        finish second depth history after answers.0 (subst (ShowsNow second depth) (reply_is _ _ answers.1) more) fits

    breaks : (second depth : ℕ) (history : List Told) (code : Instr) (fault : GenFault) → Before second depth history
        → Completes (kept second first) word code → Obeyed (old 1 second depth) code (new 1 second depth) (Broke fault)
        → ShowsNow second depth (Fails fault) → Fits (now second depth) → Next second depth history
    breaks second depth history code fault after completes obeyed fails fits =
        let answers = obeys word (old 1 second depth) (new 1 second depth) code (Broke fault) refl completes obeyed history (Some low) after in
        finish second depth history after answers.0 (subst (ShowsNow second depth) (reply_is _ _ answers.1) fails) fits

    -- a first word
    step_first : depth ≤ 4 → (history : List Told) → Before 0 depth history → din < 176 → Next 0 depth history
    step_first deep history after less =
        let answers = first_word low_in less history (Some low) after in
        let t = first_tests (part 4 4 din) (omega arith) in
        let more : ShowsNow 0 depth More = rw (t.0, t.1, t.2) (refl, refl) in
        finish 0 depth history after answers.0 (subst (ShowsNow 0 depth) (reply_is _ _ answers.1) more)
        (rw (t.0, t.1, t.2, t.3, t.4, t.5) (omega arith))

    -- a HALT
    step_halt : depth ≤ 4 → (history : List Told) → Before 0 depth history → part 4 4 din ≡ 11 → Next 0 depth history
    step_halt deep history after e =
        let ended : Halted (new 1 0 depth) history word drew =
        halted_at history (Some low) (old 1 0 depth) (new 1 0 depth) word after refl refl (halt (omega arith) (omega arith)) (rw e, refl, rw e) in
        let shows : ShowsNow 0 depth (Drew drew) = rw e (refl, refl, append-nil drew) in
        finish 0 depth history after ended.stands (subst (ShowsNow 0 depth) ended.replies shows)
        (rw e (omega arith))

    -- a JSRL
    calls : (depth : ℕ) → depth < 4 → part 4 4 din ≡ 12
        → Obeyed (old 1 0 depth) (Jsrl target) (new 1 0 depth) Word × ShowsNow 0 depth More × Fits (now 0 depth)
    calls zero less e = ((omega arith, rw e), rw e (refl, refl), rw e (omega arith))
    calls (suc zero) less e = ((omega arith, rw e), rw e (refl, refl), rw e (omega arith))
    calls (suc (suc zero)) less e = ((omega arith, rw e), rw e (refl, refl), rw e (omega arith))
    calls (suc (suc (suc zero))) less e = ((omega arith, rw e), rw e (refl, refl), rw e (omega arith))
    calls (suc (suc (suc (suc n)))) less e = absurd (omega arith)

    step_call : (depth : ℕ) → depth ≤ 4 → (history : List Told) → Before 0 depth history → part 4 4 din ≡ 12 → Next 0 depth history
    step_call depth deep history after e = by (cases_lt depth 4)
      where
        full : Before 0 4 history → Next 0 4 history
        full before =
            breaks 0 4 history (Jsrl target) StackOver before (spells_call e low_in din_in) (overflows e) (rw e (refl, refl, refl)) (rw e (omega arith))

        by : (depth < 4) ⊎ (4 ≤ depth) → Next 0 depth history
        by (inl less) = let call = calls depth less e in
            goes 0 depth history (Jsrl target) after (spells_call e low_in din_in) call.0 call.1 call.2
        by (inr more) = let is : 4 ≡ depth = omega arith in
            subst (λ d. Before 0 d history → Next 0 d history) is full after

    -- an RTSL
    returns : (depth : ℕ) → 1 ≤ depth → depth ≤ 4 → part 4 4 din ≡ 13
        → Obeyed (old 1 0 depth) Rtsl (new 1 0 depth) Word × ShowsNow 0 depth More × Fits (now 0 depth)
    returns zero some less e = absurd (omega arith)
    returns (suc zero) some less e = ((omega arith, rw e), rw e (refl, refl), rw e (omega arith))
    returns (suc (suc zero)) some less e = ((omega arith, rw e), rw e (refl, refl), rw e (omega arith))
    returns (suc (suc (suc zero))) some less e = ((omega arith, rw e), rw e (refl, refl), rw e (omega arith))
    returns (suc (suc (suc (suc zero)))) some less e = ((omega arith, rw e), rw e (refl, refl), rw e (omega arith))
    returns (suc (suc (suc (suc (suc n))))) some less e = absurd (omega arith)

    step_return : (depth : ℕ) → depth ≤ 4 → (history : List Told) → Before 0 depth history → part 4 4 din ≡ 13 → Next 0 depth history
    step_return zero deep history after e =
        breaks 0 0 history Rtsl StackUnder after (spells_return e low_in din_in) (underflows e) (rw e (refl, refl, refl)) (rw e (omega arith))
    step_return (suc n) deep history after e = let back = returns (suc n) (omega arith) deep e in
        goes 0 (suc n) history Rtsl after (spells_return e low_in din_in) back.0 back.1 back.2

    -- a JMPL
    step_jump : depth ≤ 4 → (history : List Told) → Before 0 depth history → part 4 4 din ≡ 14 → Next 0 depth history
    step_jump deep history after e =
        goes 0 depth history (Jmpl target) after (jmpl {address = target} (omega arith) (omega arith)) (tt, rw e) (rw e (refl, refl)) (rw e (omega arith))

    -- an SVEC
    step_svec : depth ≤ 4 → (history : List Told) → Before 0 depth history → part 4 4 din ≡ 15 → Next 0 depth history
    step_svec deep history after e =
        goes 0 depth history _ after (spells_svec e) (svec e) (rw e (refl, refl))
        (rw e (record {
          opened = omega arith;
          high = omega arith;
          second = omega arith;
          low = low_in;
          first = λ is. absurd (omega arith);
          depth = deep;
          x = shift_in x (part 2 1 low) (joined 8 0 (part 0 2 low)) (add 4 scale svec_scale) (omega arith);
          y = shift_in y (part 2 1 din) (joined 8 0 (part 0 2 din)) (add 4 scale svec_scale) (omega arith);
          scale = scale_in;
        }))

    -- a LABS
    step_labs : depth ≤ 4 → (history : List Told) → Before 1 depth history → first < 65536 → part 12 4 first ≡ 10 → Next 1 depth history
    step_labs deep history after first_in e =
        goes 1 depth history _ after (spells_labs e first_in) (labs depth e) (refl, refl) (rw e (omega arith))

    -- a VCTR
    fits_vctr : depth ≤ 4 → part 12 4 first < 10 → Fits (now 1 depth)
    fits_vctr deep less = let small = lt-ltb (part 12 4 first) 10 less in rw small (record {
      opened = omega arith;
      high = omega arith;
      second = omega arith;
      low = low_in;
      first = λ is. absurd (omega arith);
      depth = deep;
      x = shift_in x (part 2 1 din) (joined 8 low (part 0 2 din)) (add 4 scale (part 12 4 first)) (omega arith);
      y = shift_in y (part 10 1 first) (part 0 10 first) (add 4 scale (part 12 4 first)) (omega arith);
      scale = scale_in;
    })

    step_vctr : depth ≤ 4 → (history : List Told) → Before 1 depth history → first < 40960 → Next 1 depth history
    step_vctr deep history after less =
        goes 1 depth history _ after (spells_vctr (part 12 4 first) (omega arith) refl (omega arith)) (vctr (omega arith)) (refl, refl)
        (fits_vctr deep (omega arith))

    -- a whole word
    step_alone : (k : ℕ) → k < 5 → depth ≤ 4 → (history : List Told) → Before 0 depth history → part 4 4 din ≡ 11 + k → Next 0 depth history
    step_alone zero less deep history after e = step_halt deep history after e
    step_alone (suc zero) less deep history after e = step_call depth deep history after e
    step_alone (suc (suc zero)) less deep history after e = step_return depth deep history after e
    step_alone (suc (suc (suc zero))) less deep history after e = step_jump deep history after e
    step_alone (suc (suc (suc (suc zero)))) less deep history after e = step_svec deep history after e
    step_alone (suc (suc (suc (suc (suc k))))) less deep history after e = absurd (omega arith)

    step_word : (second : ℕ) → second < 2 → (second ≡ 1 → first < 45056) → depth ≤ 4 → (history : List Told)
        → Before second depth history → Next second depth history
    step_word zero bit is_first deep history after = by (cases_lt din 176)
      where
        by : (din < 176) ⊎ (176 ≤ din) → Next 0 depth history
        by (inl less) = step_first deep history after less
        by (inr more) = step_alone (part 4 4 din - 11) (omega arith) deep history after (omega arith)
    step_word (suc zero) bit is_first deep history after = by (cases_lt first 40960)
      where
        by : (first < 40960) ⊎ (40960 ≤ first) → Next 1 depth history
        by (inl less) = step_vctr deep history after less
        by (inr more) = let less = is_first refl in step_labs deep history after (omega arith) (omega arith)
    step_word (suc (suc n)) bit is_first deep history after = absurd (omega arith)

    -- a low byte
    step_low : (second : ℕ) → second < 2 → (second ≡ 1 → first < 45056) → depth ≤ 4 → (history : List Told)
        → HasTaken (old 0 second depth) history None → Stepped byte (core 1 0 second depth) drew history None
    step_low second bit is_first deep history after =
        let answers = low_byte second history None after in
        record {
          history' = history;
          low' = Some din;
          found = Some (Waits din);
          tells = fetches {run = after.run} refl refl refl after.leaves (sym after.stands.is_open);
          stands = answers.0;
          fits = omega arith;
          said = (refl, refl, refl);
        }

    -- the other events
    module _ (second : ℕ) (second_in : second < 2) (is_first : second ≡ 1 → first < 45056) (deep : depth ≤ 4)
        (history : List Told) (low' : Option ℕ) where
      abbrev Goes : Pins → ℕ → ℕ → Type 0
      Goes pins is_open high = HasTaken (machine_of (core is_open high second depth) drew) history low'
          → Stepped pins (core is_open high second depth) drew history low'

      pub step : (is_open high reset start valid hole : ℕ)
          → is_open < 2 → high < 2 → reset < 2 → start < 2 → valid < 2 → hole < 2
          → Goes (record { reset = reset; start = start; valid = valid; hole = hole; din = din }) is_open high
      step is_open high (suc zero) start valid hole o h r s v w after = record {
        history' = Reset ∷ history;
        low' = None;
        found = None;
        tells = Refines.resets refl;
        stands = resets is_open high second start valid hole history low' after;
        fits = omega arith;
        said = (refl, refl, refl);
      }
      step is_open high zero (suc zero) valid hole o h r s v w after = record {
        history' = Start ∷ history;
        low' = None;
        found = None;
        tells = Refines.starts refl refl;
        stands = starts is_open high second valid hole history low' after;
        fits = omega arith;
        said = (refl, refl, refl);
      }
      step zero high zero zero zero hole o h r s v w after = record {
        history' = history;
        low' = low';
        found = None;
        tells = Refines.idles refl refl refl;
        stands = subst (λ l. HasTaken (machine_of (core 0 high second depth) l) history low') (sym (append-nil drew)) after;
        fits = omega arith;
        said = (refl, refl, refl);
      }
      step (suc zero) high zero zero zero hole o h r s v w after = record {
        history' = history;
        low' = low';
        found = None;
        tells = Refines.idles refl refl refl;
        stands = subst (λ l. HasTaken (machine_of (core 1 high second depth) l) history low') (sym (append-nil drew)) after;
        fits = omega arith;
        said = (refl, refl, refl);
      }
      step zero high zero zero (suc zero) hole o h r s v w after = record {
        history' = history;
        low' = low';
        found = None;
        tells = Refines.ignores {run = after.run} refl refl refl after.leaves (sym after.stands.is_open);
        stands = subst (λ l. HasTaken (machine_of (core 0 high second depth) l) history low') (sym (append-nil drew)) after;
        fits = omega arith;
        said = (refl, refl, refl);
      }
      step (suc zero) high zero zero (suc zero) (suc zero) o h r s v w after =
          let answers = holes high second history low' after in
          record {
            history' = Fed None ∷ history;
            low' = None;
            found = Some (Whole None);
            tells = fetches {run = after.run} refl refl refl after.leaves (sym after.stands.is_open);
            stands = answers.0;
            fits = omega arith;
            said = (refl, refl, refl);
          }
      step (suc zero) zero zero zero (suc zero) zero o h r s v w after =
          subst (λ w. Stepped byte (core 1 0 second depth) drew history w) after.low
          (step_low second second_in is_first deep history (subst (λ w. HasTaken (old 0 second depth) history w) (sym after.low) after))
      step (suc zero) (suc zero) zero zero (suc zero) zero o h r s v w after =
          subst (λ w. Stepped byte (core 1 1 second depth) drew history w) after.low
          (step_word second second_in is_first deep history (subst (λ w. HasTaken (old 1 second depth) history w) (sym after.low) after))
      step is_open high (suc (suc n)) start valid hole o h r s v w after = absurd (omega arith)
      step is_open high zero (suc (suc n)) valid hole o h r s v w after = absurd (omega arith)
      step is_open high zero zero (suc (suc n)) hole o h r s v w after = absurd (omega arith)
      step (suc (suc n)) high zero zero zero hole o h r s v w after = absurd (omega arith)
      step (suc (suc n)) high zero zero (suc zero) hole o h r s v w after = absurd (omega arith)
      step (suc zero) high zero zero (suc zero) (suc (suc n)) o h r s v w after = absurd (omega arith)
      step (suc zero) (suc (suc n)) zero zero (suc zero) zero o h r s v w after = absurd (omega arith)
