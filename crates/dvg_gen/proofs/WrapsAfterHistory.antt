-- A generator whose stack wraps still stands after its history once it is told one more thing.
use Rattle.std.proofs.Common.{◌≡◌, ℕ, ◌+◌, ◌<◌, true, false, Bool, List, [], ◌∷◌, Option, Some, None, refl, sym, ap, ◌∙◌, subst, arith}
use Rattle.std.proofs.Common.{if◌then◌else◌}
use Rattle.std.specs.Prelude.{Result, Ok, Err, IfOk}
use Rattle.dvg_code.specs.declared.memory.OutOfMemory.{OutOfMemory}
use Rattle.dvg_code.specs.declared.instr.Instr.TheVariants.{Jmpl}
use Rattle.dvg_code.specs.Spelling.{Spells, jmpl}
use Rattle.dvg_gen.specs.declared.taken.Step.{Step}
use Rattle.dvg_gen.specs.declared.taken.Step.TheVariants.{Word}
use Rattle.dvg_gen.specs.Bytes.{Met, met, Waits, Whole}
use Rattle.dvg_gen.specs.Machine.{Machine, HasTaken, Answers, IsInRun, answer_by}
use Rattle.dvg_gen.specs.Run.{on}
use Rattle.dvg_gen.specs.Told.{Told, Fed, Reply}
use Rattle.dvg_gen.specs.Wrapping.{HasWrapped, AnswersWrapped, Wraps, Wrapped, is_turn, turn_of, jump_of, turned, meets_hole, takes, turns}
use Rattle.dvg_gen.proofs.GeneratorAfterHistory.{claim_alone, jumped}

-- what is no turn
no_turn : (b : Bool) (word : ℕ) → ◌≡◌ {A = Option ℕ} (if b then Some word else None) None → b ≡ false
no_turn false word e = refl
no_turn true word e = absurd (cc)

some_is : {x y : ℕ} → ◌≡◌ {A = Option ℕ} (Some x) (Some y) → x ≡ y
some_is e = cc

-- what is one
turn_is : (b : Bool) (word turn : ℕ) → ◌≡◌ {A = Option ℕ} (if b then Some word else None) (Some turn) → (b ≡ true) × (word ≡ turn)
turn_is false word turn e = absurd (cc)
turn_is true word turn e = (refl, some_is e)

-- a turn was met whole
turn_met : (held : Option ℕ) (found : Met) (word : ℕ) → turn_of held found ≡ Some word
    → (found ≡ Whole (Some word)) × (is_turn held word ≡ true)
turn_met held (Waits byte) word e = absurd (cc)
turn_met held (Whole None) word e = absurd (cc)
turn_met held (Whole (Some met)) word e =
    let is = turn_is (is_turn held met) met word e in
    (ap (λ w. Whole (Some w)) is.1, ap (is_turn held) (sym is.1) ∙ is.0)

-- it is a word alone
turn_alone : (held : Option ℕ) (word : ℕ) → is_turn held word ≡ true → held ≡ None
turn_alone None word e = refl
turn_alone (Some first) word e = let never : false ≡ true = e in absurd (cc)

module _ (old : Wrapped) (history : List Told) (low : Option ℕ) (stands : HasWrapped old history low)
    (opened : old.machine.is_open ≡ true) where
  inside : IsInRun old.machine stands.after.run
  inside = stands.after.stands.running (sym stands.after.stands.is_open ∙ opened)

  -- what is no turn is told as it is
  by_met : (machine : Machine) (answer : Option Reply) (found : Met) → turn_of old.machine.held found ≡ None
      → Answers stands.told found machine answer
      → AnswersWrapped history found (record { machine = machine; registers = old.registers }) answer
  by_met machine answer (Waits byte) none answers =
      (record { told = stands.told; wraps = stands.wraps; after = answers.0 }, answers.1)
  by_met machine answer (Whole None) none answers =
      (record { told = Fed None ∷ stands.told; wraps = meets_hole stands.wraps; after = answers.0 }, answers.1)
  by_met machine answer (Whole (Some word)) none answers =
      let plain : is_turn stands.after.run.held word ≡ false =
      ap (λ h. is_turn h word) (sym inside.held) ∙ no_turn (is_turn old.machine.held word) word none in (
        record {
          told = Fed (Some word) ∷ stands.told;
          wraps = takes stands.wraps stands.after.leaves plain;
          after = answers.0;
        },
        answers.1,
      )

  -- a turn is told as a jump
  by_turn : (new : Wrapped) (step : Step) (word : ℕ) → is_turn old.machine.held word ≡ true
      → new.registers ≡ turned old.registers (on old.machine.at 1) word
      → 0xE000 + new.machine.at ≡ jump_of old.registers word → new.machine.at < 4096
      → new.machine ≡ record old.machine { at = new.machine.at; held = None; low = None } → step ≡ Word
      → AnswersWrapped history (Whole (Some word)) new (answer_by step new.machine.picture)
  by_turn new step word turn registers jumps in_range moved goes =
      let run = stands.after.run in
      let jump = jump_of old.registers word in
      let alone = turn_alone old.machine.held word turn in
      let spells : Spells (Jmpl new.machine.at) (jump ∷ []) = jmpl {address = new.machine.at} (omega arith) (omega arith) in
      let obeyed = jumped old.machine new.machine step new.machine.at opened moved goes in
      let answers =
      claim_alone {E = OutOfMemory} (Ok step) jump old.machine new.machine (Jmpl new.machine.at) opened alone spells obeyed
      stands.told low stands.after in
      let turned_on = subst (λ h. is_turn h word ≡ true) inside.held turn in
      let same = registers ∙ ap (λ at. turned old.registers (on at 1) word) inside.at in (
        record {
          told = Fed (Some jump) ∷ stands.told;
          wraps = subst (Wraps (Fed (Some word) ∷ history) (Fed (Some jump) ∷ stands.told)) (sym same)
              (turns stands.wraps stands.after.leaves turned_on);
          after = answers.0;
        },
        answers.1,
      )

-- a fetch that met no turn
pub wrapped_fed : {E : Type 0} (result : Result Step E) (old new : Wrapped) (machine : Machine) (byte : Option ℕ)
    → old.machine.is_open ≡ true → turn_of old.machine.held (met old.machine.low byte) ≡ None
    → machine ≡ old.machine → new.registers ≡ old.registers
    → IfOk result (λ step. (told : List Told) (low : Option ℕ) → HasTaken machine told low
    → Answers told (met low byte) new.machine (answer_by step new.machine.picture))
    → IfOk result (λ step. (history : List Told) (low : Option ℕ) → HasWrapped old history low
    → AnswersWrapped history (met low byte) new (answer_by step new.machine.picture))
wrapped_fed (Err e) old new machine byte opened none same registers answers = answers
wrapped_fed (Ok step) old new machine byte opened none same registers answers = λ history low stands.
    let answer = answer_by step new.machine.picture in
    let before = subst (λ m. HasTaken m stands.told low) (sym same) stands.after in
    let fed =
    by_met old history low stands opened new.machine answer (met low byte)
    (ap (λ l. turn_of old.machine.held (met l byte)) (sym stands.after.low) ∙ none) (answers stands.told low before) in
    subst (λ kept. AnswersWrapped history (met low byte) (record { machine = new.machine; registers = kept }) answer)
    (sym registers) fed

-- what is told beside the registers
pub wrapped_told : {event : Told} (old new : Wrapped) (machine : Machine) (history : List Told) (low : Option ℕ)
    → machine ≡ old.machine → new.registers ≡ old.registers
    → ((told : List Told) (waiting : Option ℕ) → HasTaken machine told waiting → HasTaken new.machine (event ∷ told) None)
    → ((told : List Told) (kept : List ℕ) → Wraps history told kept → Wraps (event ∷ history) (event ∷ told) kept)
    → HasWrapped old history low → HasWrapped new (event ∷ history) None
wrapped_told {event} old new machine history low same registers stands wraps was = record {
  told = event ∷ was.told;
  wraps = subst (Wraps (event ∷ history) (event ∷ was.told)) (sym registers) (wraps was.told old.registers was.wraps);
  after = stands was.told low (subst (λ m. HasTaken m was.told low) (sym same) was.after);
}

-- a fetch that met a turn
pub wrapped_turn : (old new : Wrapped) (byte : Option ℕ) (step : Step) (word : ℕ) → old.machine.is_open ≡ true
    → turn_of old.machine.held (met old.machine.low byte) ≡ Some word
    → new.registers ≡ turned old.registers (on old.machine.at 1) word
    → 0xE000 + new.machine.at ≡ jump_of old.registers word → new.machine.at < 4096
    → new.machine ≡ record old.machine { at = new.machine.at; held = None; low = None } → step ≡ Word
    → (history : List Told) (low : Option ℕ) → HasWrapped old history low
    → AnswersWrapped history (met low byte) new (answer_by step new.machine.picture)
wrapped_turn old new byte step word opened turn registers jumps in_range moved goes history low stands =
    let is = turn_met old.machine.held (met low byte) word
    (ap (λ l. turn_of old.machine.held (met l byte)) (sym stands.after.low) ∙ turn) in
    subst (λ found. AnswersWrapped history found new (answer_by step new.machine.picture)) (sym is.0)
    (by_turn old history low stands opened new step word is.1 registers jumps in_range moved goes)
