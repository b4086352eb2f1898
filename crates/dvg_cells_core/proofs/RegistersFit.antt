-- Registers that fit, and what is told of a HALT.
use Rattle.std.proofs.Common.{◌≡◌, ℕ, zero, suc, ◌<◌, ◌≤◌, true, false, List, [], ◌∷◌, Option, Some, None, sym, ap, ◌∙◌, subst, arith, append-nil}
use Rattle.std.specs.Prelude.{IsSome}
use Rattle.dvg_code.specs.declared.instr.Instr.TheVariants.{Halt}
use Rattle.dvg_code.specs.Spelling.{Spells}
use Rattle.dvg_gen.specs.declared.stroke.Stroke.{Stroke}
use Rattle.dvg_gen.specs.Machine.{Machine, HasTaken, IsInRun}
use Rattle.dvg_gen.specs.Obeyed.{IsShut}
use Rattle.dvg_gen.specs.Run.{Visit, Adds, one, next, strokes}
use Rattle.dvg_gen.specs.Told.{Told, Fed, takes, grown, Reply, Drew, reply}
use Rattle.dvg_gen.specs.Bytes.{Met}
use Rattle.dvg_cells_core.specs.Core.{Core, Pins, clock}
use Rattle.dvg_cells_core.proofs.Machines.{machine_of}
use Rattle.dvg_cells_core.specs.Refines.{Tells, Said, drawn_by}
use Rattle.dvg_cells_core.proofs.Shifts.{shift}
pub use Rattle.dvg_gen.proofs.GeneratorAfterHistory.{claim_obeyed as obeys}

-- the registers that matter fit their widths, and a word that waits for its second one is a first word
pub record Fits (core : Core) : Type 0 where
  pub opened : core.is_open < 2
  pub high : core.high < 2
  pub second : core.second < 2
  pub low : core.low < 256
  pub first : core.second ≡ 1 → core.first < 45056
  pub depth : core.depth ≤ 4
  pub x : core.x < 2097152
  pub y : core.y < 2097152
  pub scale : core.scale < 16

pub shift_in : (from sign size sum : ℕ) → sign < 2 → shift from sign size sum < 2097152
shift_in from zero size sum bit = omega arith
shift_in from (suc zero) size sum bit = omega arith
shift_in from (suc (suc n)) size sum bit = absurd (omega arith)

never : {A : Type 0} → false ≡ true → A
never e = cc

none_waits : {P : Type 0} → IsSome {T = ℕ} None → P
none_waits some = absurd (cc)

-- a HALT ends the run, and hands its strokes out
pub record Halted (machine : Machine) (history : List Told) (word : ℕ) (drew : List Stroke) : Type 0 where
  pub stands : HasTaken machine (Fed (Some word) ∷ history) None
  pub replies : Drew drew ≡ reply (Some word) stands.run

pub halted_at : (history : List Told) (low : Option ℕ) (old machine : Machine) (word : ℕ) (after : HasTaken old history low)
    → old.is_open ≡ true → old.held ≡ None → Spells Halt (word ∷ []) → IsShut old machine → Halted machine history word old.strokes
halted_at history low old machine word after opened none spells shut =
    let is_open : after.run.is_open ≡ true = sym after.stands.is_open ∙ opened in
    let inside : IsInRun old after.run = after.stands.running is_open in
    let visits = after.run.visits in
    let newest : Visit = record { place = next visits; code = Halt } in
    let adds : Adds visits after.run.held word (newest ∷ visits) None =
    subst (λ held. Adds visits held word (newest ∷ visits) None) (sym none ∙ inside.held) (one spells) in
    record {
      stands = record {
        run = grown after.run (newest ∷ visits) None;
        leaves = takes after.leaves is_open adds;
        stands = record { is_open = shut.0; beam = shut.2 ∙ after.stands.beam; running = λ o. never o };
        low = shut.1;
        waits = none_waits;
      };
      replies = ap Drew (inside.strokes ∙ sym (append-nil (strokes after.run.first visits)));
    }

-- the reply that is answered
pub reply_is : (answer replied : Reply) → Some answer ≡ Some replied → answer ≡ replied
reply_is answer replied e = cc

-- what a clock does
pub record Stepped (pins : Pins) (old : Core) (drew : List Stroke) (history : List Told) (low : Option ℕ) : Type 0 where
  pub history' : List Told
  pub low' : Option ℕ
  pub found : Option Met
  pub tells : Tells pins history low history' low' found
  pub stands : HasTaken (machine_of (clock old pins) (drawn_by pins (clock old pins) drew)) history' low'
  pub fits : Fits (clock old pins)
  pub said : Said found (clock old pins) (drawn_by pins (clock old pins) drew) stands.run
