-- One clock: as that of a core whose stack doesn't wrap, but for a call and a return, which are jumps.
use Rattle.std.proofs.Common.{◌≡◌, ℕ, zero, suc, ◌+◌, ◌<◌, ◌≤◌, Bool, true, false, List, [], ◌∷◌, ◌++◌, Option, Some, None, refl, sym, ap, ◌∙◌, arith, eqb-true}
use Rattle.std.specs.Prelude.{nat_eq}
use Rattle.dvg_code.specs.declared.instr.Instr.TheVariants.{Jmpl}
use Rattle.dvg_code.specs.Spelling.{Spells, jmpl}
use Rattle.dvg_gen.specs.declared.stroke.Stroke.{Stroke}
use Rattle.dvg_gen.specs.declared.taken.Step.TheVariants.{Word}
use Rattle.dvg_gen.specs.Machine.{HasTaken}
use Rattle.dvg_gen.specs.Told.{Told, Fed, More, reply}
use Rattle.dvg_cells_core.specs.Cells.{part, joined, add}
use Rattle.dvg_cells_core.specs.Core.{Pins}
use Rattle.dvg_cells_core.specs.Core as core
use Rattle.dvg_cells_core.proofs.RegistersFit.{Fits, obeys, reply_is}
use Rattle.dvg_cells_core.proofs.Machines.{machine_of}
use Rattle.dvg_cells_wraps.specs.Refines.{core_of, registers}
use Rattle.dvg_cells_wraps.specs.Wraps as wraps

module _ (at done fault stroke x0 y0 x y z first low s0 s1 s2 s3 scale din : ℕ) where
  abbrev pub it : (is_open high second : ℕ) → wraps.Wraps
  it is_open high second = record {
    at = at;
    high = high;
    done = done;
    fault = fault;
    stroke = stroke;
    x0 = x0;
    y0 = y0;
    x = x;
    y = y;
    z = z;
    is_open = is_open;
    second = second;
    first = first;
    low = low;
    s0 = s0;
    s1 = s1;
    s2 = s2;
    s3 = s3;
    scale = scale;
  }

  abbrev pub pins : (reset start valid hole : ℕ) → Pins
  pins reset start valid hole = record { reset = reset; start = start; valid = valid; hole = hole; din = din }

  -- it is as without a stack that wraps, and the addresses stay
  abbrev pub Same : (is_open high second reset start valid hole : ℕ) → Type 0
  Same is_open high second reset start valid hole =
      (core_of (wraps.clock (it is_open high second) (pins reset start valid hole)) ≡ core.clock (core_of (it is_open high second)) (pins reset start valid hole))
      × (registers (wraps.clock (it is_open high second) (pins reset start valid hole)) ≡ registers (it is_open high second))

  -- the word is a call or a return
  pub data IsTurn : Type 0 where
    calls : part 4 4 din ≡ 12 → IsTurn
    returns : part 4 4 din ≡ 13 → IsTurn

  -- each clock is as without a stack that wraps, or takes a call or a return
  pub data Kind : (is_open high second reset start valid hole : ℕ) → Type 0 where
    same : {is_open high second reset start valid hole : ℕ} → Same is_open high second reset start valid hole
        → (hole ≡ 0 → valid ≡ 1 → high ≡ 1 → is_open ≡ 1 → second ≡ 0 → reset ≡ 0 → start ≡ 0 → IsTurn → ⊥) → Kind is_open high second reset start valid hole
    turns : IsTurn → Kind 1 1 0 0 0 1 0

  by_op : (halt call back : Bool) → nat_eq (part 4 4 din) 11 ≡ halt → nat_eq (part 4 4 din) 12 ≡ call → nat_eq (part 4 4 din) 13 ≡ back
      → Kind 1 1 0 0 0 1 0
  by_op halt true back e f g = turns (calls (eqb-true (part 4 4 din) 12 f))
  by_op halt call true e f g = turns (returns (eqb-true (part 4 4 din) 13 g))
  by_op halt false false e f g = same (by halt e) (λ o v h i s r t turn. never turn)
    where
      never : IsTurn → ⊥
      never (calls op) = let flag : ◌≡◌ {A = Bool} true false = sym (ap (λ n. nat_eq n 12) op) ∙ f in absurd (cc)
      never (returns op) = let flag : ◌≡◌ {A = Bool} true false = sym (ap (λ n. nat_eq n 13) op) ∙ g in absurd (cc)

      by : (b : Bool) → nat_eq (part 4 4 din) 11 ≡ b → Same 1 1 0 0 0 1 0
      by true e = let op = eqb-true (part 4 4 din) 11 e in rw op (refl, refl)
      by false e = rw e (rw f (rw g (refl, refl)))

  by_word : (second : ℕ) → second < 2 → Kind 1 1 second 0 0 1 0
  by_word zero small = by_op _ _ _ refl refl refl
  by_word (suc zero) small = same (refl, refl) (λ o v h i s r t turn. absurd (omega arith))
  by_word (suc (suc n)) small = absurd (omega arith)

  by_high : (high second : ℕ) → high < 2 → second < 2 → Kind 1 high second 0 0 1 0
  by_high zero second h s = same (refl, refl) (λ o v h i s r t turn. absurd (omega arith))
  by_high (suc zero) second h s = by_word second s
  by_high (suc (suc n)) second h s = absurd (omega arith)

  by_hole : (hole high second : ℕ) → hole < 2 → high < 2 → second < 2 → Kind 1 high second 0 0 1 hole
  by_hole zero high second o h s = by_high high second h s
  by_hole (suc zero) high second o h s = same (refl, refl) (λ o v h i s r t turn. absurd (omega arith))
  by_hole (suc (suc n)) high second o h s = absurd (omega arith)

  by_open : (is_open valid hole high second : ℕ) → is_open < 2 → valid < 2 → hole < 2 → high < 2 → second < 2 → Kind is_open high second 0 0 valid hole
  by_open zero valid hole high second i v o h s = same (refl, refl) (λ o v h i s r t turn. absurd (omega arith))
  by_open (suc zero) zero hole high second i v o h s = same (refl, refl) (λ o v h i s r t turn. absurd (omega arith))
  by_open (suc zero) (suc zero) hole high second i v o h s = by_hole hole high second o h s
  by_open (suc zero) (suc (suc n)) hole high second i v o h s = absurd (omega arith)
  by_open (suc (suc n)) valid hole high second i v o h s = absurd (omega arith)

  pub by_pins : (reset start valid hole is_open high second : ℕ) → reset < 2 → start < 2 → valid < 2 → hole < 2 → is_open < 2 → high < 2 → second < 2
      → Kind is_open high second reset start valid hole
  by_pins zero zero valid hole is_open high second r t v o i h s = by_open is_open valid hole high second i v o h s
  by_pins zero (suc zero) valid hole is_open high second r t v o i h s = same (refl, refl) (λ o v h i s r t turn. absurd (omega arith))
  by_pins (suc zero) start valid hole is_open high second r t v o i h s = same (refl, refl) (λ o v h i s r t turn. absurd (omega arith))
  by_pins zero (suc (suc n)) valid hole is_open high second r t v o i h s = absurd (omega arith)
  by_pins (suc (suc n)) start valid hole is_open high second r t v o i h s = absurd (omega arith)

  -- a call or a return leads to an address, and leaves these registers
  abbrev pub now : wraps.Wraps
  now = wraps.clock (it 1 1 0) (pins 0 0 1 0)

  abbrev pub turned : (to a0 a1 a2 a3 : ℕ) → wraps.Wraps
  turned to a0 a1 a2 a3 = record (it 1 0 0) { at = to; done = 0; fault = 0; stroke = 0; s0 = a0; s1 = a1; s2 = a2; s3 = a3 }

  pub call_is : part 4 4 din ≡ 12 → now ≡ turned (joined 8 low (part 0 4 din)) (add 12 at 1) s0 s1 s2
  call_is e = rw e refl

  pub return_is : part 4 4 din ≡ 13 → now ≡ turned s0 s1 s2 s3 s0
  return_is e = rw e refl

  module _ (drew : List Stroke) (x_in : x < 2097152) (y_in : y < 2097152) (scale_in : scale < 16) (low_in : low < 256) where
    -- as a jump does
    pub record Jumped (told : List Told) (to : ℕ) (new : wraps.Wraps) : Type 0 where
      pub stands : HasTaken (machine_of (core_of new) (drew ++ [])) (Fed (Some (0xE000 + to)) ∷ told) None
      pub more : More ≡ reply (Some (0xE000 + to)) stands.run

    pub jumped_to : (to a0 a1 a2 a3 : ℕ) → to < 4096 → (told : List Told) (waits : Option ℕ) → HasTaken (machine_of (core_of (it 1 1 0)) drew) told waits
        → Jumped told to (turned to a0 a1 a2 a3)
    jumped_to to a0 a1 a2 a3 small told waits after =
        let to_in : to ≤ 4095 = omega arith in
        let spells : Spells (Jmpl to) ((0xE000 + to) ∷ []) = jmpl {address = to} to_in refl in
        let answers = obeys (0xE000 + to) (machine_of (core_of (it 1 1 0)) drew) (machine_of (core_of (turned to a0 a1 a2 a3)) (drew ++ [])) (Jmpl to) Word refl spells
        (tt, refl) told waits after in
        record { stands = answers.0; more = reply_is _ _ answers.1 }

    pub fits_turned : (to a0 a1 a2 a3 : ℕ) → Fits (core_of (turned to a0 a1 a2 a3))
    fits_turned to a0 a1 a2 a3 = record {
      opened = omega arith;
      high = omega arith;
      second = omega arith;
      low = low_in;
      first = λ is. absurd (omega arith);
      depth = omega arith;
      x = x_in;
      y = y_in;
      scale = scale_in;
    }
