-- The game calls the driver: which routine that is, and what it brings.
use Rattle.std.proofs.Common.{◌≡◌, ◌⊎◌, inl, inr, ℕ, suc, ◌+◌, ◌*◌, ◌/◌, ◌%◌, ◌<◌, ◌≤◌, Bool, true, false, List}
use Rattle.std.proofs.Common.{[], ◌∷◌, refl, sym, ap, ◌∙◌, arith, leb-true, eqb-true}
use Rattle.std.specs.Prelude.{◌||◌, nat_eq, nat_le, None, Some, Option, length}
use Rattle.dvg_code.specs.declared.instr.Instr.TheVariants.{Labs as LabsOf}
use Rattle.dvg_frame.specs.declared.op.OpKind.{OpKind}
use Rattle.dvg_frame.specs.declared.op.OpKind.TheVariants.{Draw}
use Rattle.dvg_calls_6502.specs.Processor.{Cpu}
use Rattle.dvg_calls_6502.specs.Calls as calls_of
use Rattle.dvg_calls_6502.specs.Calls.{Call, Routine, entry, frame_of, is_offered, UnlessReset}
use Rattle.dvg_calls_6502.specs.Code.{dvg_offer, dvg_pair, dvg_put}
use Rattle.dvg_calls_6502.specs.Programs.{CallBrings}
use Rattle.dvg_calls_6502.specs.Routines.{Put, Labs, Vector}
use Rattle.dvg_calls_6502.specs.Tables.{HasTable, table_of}
use Rattle.dvg_game_rules.specs.Machine.{State, is_reset}
use Rattle.dvg_game_rules.specs.Checker.{goes_on}
use Rattle.dvg_game_rules.specs.Safe.{IsCalled}
use Rattle.dvg_game_rules.proofs.Facts.{both_true}
use Rattle.dvg_game_rules.proofs.Memory.{either}
use Rattle.dvg_game_6502.specs.Play.{IsByteWide, fresh}
use Rattle.dvg_game_6502.specs.Open.{InRom, Rested}
use Rattle.dvg_game_6502.specs.Games.{IsTable, IsWord}
use Rattle.dvg_game_6502.proofs.Bearers.{IsChecked}
use Rattle.dvg_game_6502.proofs.Stages.{NotBlank, Rests}

-- what dvg_labs puts is a LABS
labs_words : (low high x_low x_high a : ℕ) → low < 256 → x_low < 256 → a < 256
    → low ∷ (0xA0 + high % 16) ∷ x_low ∷ (16 * (a / 16) + x_high % 16) ∷ []
    ≡ table_of (Draw (LabsOf (x_low + 256 * (x_high % 16)) (low + 256 * (high % 16)) (a / 16)) ∷ [])
labs_words low high x_low x_high a one two three =
    let y : ℕ = low + 256 * (high % 16) in
    let x : ℕ = 4096 * (a / 16) + (x_low + 256 * (x_high % 16)) in
    let e1 : low ≡ (0xA000 + (low + 256 * (high % 16))) % 256 = omega (arith, one) in
    let e2 : 0xA0 + high % 16 ≡ (0xA000 + (low + 256 * (high % 16))) / 256 = omega (arith, one) in
    let e3 : x_low ≡ (4096 * (a / 16) + (x_low + 256 * (x_high % 16))) % 256 = omega (arith, two) in
    let e4 : 16 * (a / 16) + x_high % 16 ≡ (4096 * (a / 16) + (x_low + 256 * (x_high % 16))) / 256 = omega
    (arith, two) in
    (λ j. e1 j ∷ e2 j ∷ e3 j ∷ e4 j ∷ [])

-- what each routine is told, by the frame that is being built
module _ (R : List ℕ) (cpu : Cpu) (bytes : IsByteWide cpu) where
  puts_word : IsWord R cpu → (frame : Option (ℕ × List ℕ)) → NotBlank frame → CallBrings R (calls_of.Puts Put) cpu frame
  puts_word word None some = tt
  puts_word word (Some frame) some = λ room. (
    word.op,
    word.word,
    word.put,
    word.is_op,
    (λ none. absurd (omega (arith, some, none))),
  )

  puts_vector : (frame : Option (ℕ × List ℕ)) → NotBlank frame → CallBrings R (calls_of.Puts Vector) cpu frame
  puts_vector None some = tt
  puts_vector (Some frame) some = some

  puts_labs : (frame : Option (ℕ × List ℕ)) → CallBrings R (calls_of.Puts Labs) cpu frame
  puts_labs None = tt
  puts_labs (Some frame) = λ room.
      let low = bytes.mem 0x1B in let x_low = bytes.mem 0x1D in let a = bytes.a in (
        Draw (LabsOf (cpu.mem 0x1D + 256 * (cpu.mem 0x1E % 16)) (cpu.mem 0x1B + 256 * (cpu.mem 0x1C % 16))
            (cpu.a / 16)),
        labs_words (cpu.mem 0x1B) (cpu.mem 0x1C) (cpu.mem 0x1D) (cpu.mem 0x1E) cpu.a low x_low a,
        refl,
        ((omega (arith, x_low), omega (arith, low), omega (arith, a)), refl),
        (λ none. tt),
      )

  closes : (frame : Option (ℕ × List ℕ)) → NotBlank frame → CallBrings R calls_of.Close cpu frame
  closes None some = tt
  closes (Some frame) some = some

-- the table stands in this memory, too
table_on : (rom mem : ℕ → ℕ) (t : ℕ) (F : List OpKind) → 0x4800 ≤ t → t + 2 + length (table_of F) ≤ 0x8000
    → ((b : ℕ) → 0x4800 ≤ b → b < 0x8000 → mem b ≡ rom b) → HasTable rom t F → HasTable mem t F
table_on rom mem t F low ends same has = record {
  fit = has.fit;
  some = has.some;
  fits = has.fits;
  count = let one = same t low (omega (arith, ends)) in let two = same (t + 1) (omega (arith, low)) (omega
      (arith, ends)) in
      ap (λ v. 2 * (v + 256 * mem (t + 1))) one ∙ ap (λ v. 2 * (rom t + 256 * v)) two ∙ has.count;
  table = λ k less. same (t + 2 + k) (omega (arith, low)) (omega (arith, ends, less)) ∙ has.table k less;
  head = has.head;
  far = has.far;
  low = has.low;
  ends = has.ends;
}

-- the routine that is called, and all that its call wants
pub record Picked (R : List ℕ) (rom : ℕ → ℕ) (new : Cpu) (calls : List Call) (to : ℕ) (blank : Bool) : Type 0 where
  pub routine : Routine
  pub at : to ≡ entry routine
  pub tells : (flags : ℕ → ℕ) → CallBrings R routine (fresh flags new) (frame_of calls)
  pub checked : IsChecked R routine
  pub offered : (b : ℕ) → is_offered routine new b ≡ true → InRom b
  pub rested : UnlessReset routine (Rested R calls new.mem)
  pub frame : UnlessReset routine (blank ≡ false → NotBlank (frame_of calls))

unless : (routine : Routine) (P : Type 0) → P → UnlessReset routine P
unless calls_of.Reset P p = tt
unless routine P p = p

same_bytes : (flags : ℕ → ℕ) (cpu : Cpu) → IsByteWide cpu → IsByteWide (fresh flags cpu)
same_bytes flags cpu bytes = record { a = bytes.a; x = bytes.x; y = bytes.y; s = bytes.s; mem = bytes.mem }

module _ (R : List ℕ) (rom : ℕ → ℕ) (new : Cpu) (bytes : IsByteWide new) (calls : List Call) (st : State) (to : ℕ)
    (called : IsCalled st to) (rests : st.awake ≡ true → Rests R calls new.mem st.blank)
    (in_rom : (b : ℕ) → 0x4800 ≤ b → b < 0x8000 → new.mem b ≡ rom b)
    (tables : to ≡ dvg_offer → IsTable R rom new) (words : to ≡ dvg_put → IsWord R new) (no_pair : to ≡ dvg_pair
    → ⊥) where
  -- at a routine that isn't dvg_reset
  awake : (e : ℕ) → is_reset e ≡ false → to ≡ e → Rests R calls new.mem st.blank
  awake e other at = rests (sym (ap (λ t. t || st.awake) other) ∙ sym (ap (λ t. is_reset t || st.awake) at)
      ∙ called.awake)

  -- at one that goes on with a frame
  begun : (e : ℕ) → goes_on e ≡ true → is_reset e ≡ false → to ≡ e → NotBlank (frame_of calls)
  begun e goes other at = (awake e other at).frame (called.labs (ap goes_on at ∙ goes))

  abbrev worded : IsWord R new → (flags : ℕ → ℕ) → IsWord R (fresh flags new)
  worded word flags = record { op = word.op; word = word.word; put = word.put; is_op = word.is_op }

  reset : to ≡ 0x6800 → Picked R rom new calls to st.blank
  reset at = record {
    routine = calls_of.Reset;
    at = at;
    tells = λ flags. tt;
    checked = tt;
    offered = λ b is. absurd (cc);
    rested = tt;
    frame = tt;
  }

  -- a routine but dvg_reset, and one that no frame is brought to
  goes : (routine : Routine) → is_reset (entry routine) ≡ false
      → ((flags : ℕ → ℕ) → CallBrings R routine (fresh flags new) (frame_of calls)) → IsChecked R routine
      → ((b : ℕ) → is_offered routine new b ≡ true → InRom b) → to ≡ entry routine → Picked R rom new calls to st.blank
  goes routine other tells checked offered at = record {
    routine = routine;
    at = at;
    tells = tells;
    checked = checked;
    offered = offered;
    rested = unless routine _ (awake (entry routine) other at).rested;
    frame = unless routine _ (awake (entry routine) other at).frame;
  }

  plain : (routine : Routine) → is_reset (entry routine) ≡ false
      → ((flags : ℕ → ℕ) → CallBrings R routine (fresh flags new) (frame_of calls)) → IsChecked R routine
      → ((b : ℕ) → is_offered routine new b ≡ false) → to ≡ entry routine → Picked R rom new calls to st.blank
  plain routine other tells checked none at =
      goes routine other tells checked (λ b is. absurd (let e = sym (none b) ∙ is in cc)) at

  offer : to ≡ 0x68FE → Picked R rom new calls to st.blank
  offer at =
      goes (calls_of.Offer table.draft) refl
      (λ flags. table_on rom new.mem (new.a + 256 * new.x) table.draft table.low table.ends in_rom table.table) table.checked
      (λ b is.
      let two = both_true (nat_le (new.a + 256 * new.x) b) _ is in
      let above = leb-true (new.a + 256 * new.x) b two.0 in
      let below = leb-true (suc b) (new.a + 256 * new.x + 2 + length (table_of table.draft)) two.1 in
      let low = table.low in let ends = table.ends in (omega (arith, above, low), omega (arith, below, ends)))
      at
    where
      table : IsTable R rom new
      table = tables at

  -- one that puts words, or ends
  puts : to ≡ 0x6957 → Picked R rom new calls to st.blank
  puts at = plain (calls_of.Puts Put) refl
      (λ flags. puts_word R (fresh flags new) (same_bytes flags new bytes) (worded (words at) flags) (frame_of calls)
      (begun 0x6957 refl refl at)) tt (λ b. refl) at

  labs : to ≡ 0x6979 → Picked R rom new calls to st.blank
  labs = plain (calls_of.Puts Labs) refl
      (λ flags. puts_labs R (fresh flags new) (same_bytes flags new bytes) (frame_of calls)) tt (λ b. refl)

  closing : to ≡ 0x6A00 → Picked R rom new calls to st.blank
  closing at = plain calls_of.Close refl
      (λ flags. closes R (fresh flags new) (same_bytes flags new bytes) (frame_of calls) (begun 0x6A00 refl refl at)) tt
      (λ b. refl) at

  vector : to ≡ 0x6A17 → Picked R rom new calls to st.blank
  vector at = plain (calls_of.Puts Vector) refl
      (λ flags. puts_vector R (fresh flags new) (same_bytes flags new bytes) (frame_of calls) (begun 0x6A17 refl refl at)) tt
      (λ b. refl) at

  -- one of two
  choose : (e : ℕ) (rest : Bool) → (to ≡ e → Picked R rom new calls to st.blank)
      → (rest ≡ true → Picked R rom new calls to st.blank)
      → (nat_eq to e || rest) ≡ true → Picked R rom new calls to st.blank
  choose e rest this other is = by (either (nat_eq to e) rest is)
    where
      by : (nat_eq to e ≡ true) ⊎ (rest ≡ true) → Picked R rom new calls to st.blank
      by (inl here) = this (eqb-true to e here)
      by (inr more) = other more

  pub picked : Picked R rom new calls to st.blank
  picked = choose 0x6800 _ reset (choose 0x6809 _ (plain calls_of.Run refl (λ flags. tt) tt (λ b. refl))
      (choose 0x6860 _ (plain calls_of.Ticks refl (λ flags. tt) tt (λ b. refl))
      (choose 0x686A _ (plain calls_of.Tick refl (λ flags. tt) tt (λ b. refl))
      (choose 0x68FE _ offer (choose 0x6924 _ (plain (calls_of.Open []) refl (λ flags. tt) tt (λ b. refl))
      (choose 0x6943 _ (plain calls_of.Redraw refl (λ flags. tt) tt (λ b. refl)) (choose 0x6957 _ puts
      (choose 0x6979 _ labs (choose 0x6989 _ (λ at. absurd (no_pair at)) (choose 0x6A00 _ closing
      (λ is. vector (eqb-true to 0x6A17 is)))))))))))) called.entry
