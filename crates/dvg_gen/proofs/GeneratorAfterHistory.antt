-- A generator still stands after its history once it is told one more thing.
use Rattle.std.proofs.Common.{◌≡◌, ◌↔◌, ℕ, suc, ◌+◌, ◌<◌, true, false, List, [], ◌∷◌, ◌++◌, length, get_or}
use Rattle.std.proofs.Common.{Option, Some, None, refl, sym, ap, ◌∙◌, subst, arith, append-nil, cond, eqb}
use Rattle.std.proofs.lemmas.Bool.{eq-eqb}
use Rattle.std.specs.Prelude.{Result, Ok, Err, IfOk, IsSome}
use Rattle.dvg_code.specs.declared.instr.Instr.{Instr}
use Rattle.dvg_code.specs.declared.instr.Instr.TheVariants.{Jmpl}
use Rattle.dvg_code.specs.Spelling.{IsFirst, Spells, vctr, labs, halt, jsrl, rtsl, jmpl, svec}
use Rattle.dvg_gen.specs.declared.beam.Beam.{Beam}
use Rattle.dvg_gen.specs.declared.taken.GenFault.TheVariants.{StackOver, StackUnder, Hole}
use Rattle.dvg_gen.specs.declared.stroke.Stroke.{Stroke}
use Rattle.dvg_gen.specs.declared.taken.Step.{Step}
use Rattle.dvg_gen.specs.declared.taken.Step.TheVariants.{Low, Word, Done, Broke}
use Rattle.dvg_gen.specs.Completing.{Completes}
use Rattle.dvg_gen.specs.Drawing.{moved, drawn}
use Rattle.dvg_gen.specs.Bytes.{Met, met, Waits, Whole}
use Rattle.dvg_gen.specs.Machine.{Machine, IsInRun, HasTaken, Answers, IsOnward, answer_by, picture_after}
use Rattle.dvg_gen.specs.Stacks.{stack_by, to_of, CanGo}
use Rattle.dvg_gen.specs.Obeyed.{past, gone, IsShut, Obeyed}
use Rattle.dvg_code.specs.Acts.{act_of}
use Rattle.dvg_gen.specs.Run.{Visit, on, next, wanted, calls, returns, Fate, Goes, Finished, Breaks, fate_by, fate, beam_after, strokes, Adds, first, one, two}
use Rattle.dvg_gen.specs.Told.{Told, Fed, Newest, nothing, goes_on, grown, stopped, begun, Leaves, new, starts, resets, meets_hole, takes, Start, Reset, Reply, More, Drew, Fails, reply_by}
use Rattle.dvg_gen.proofs.Stack.{stack, past_call_is, next_is, Sound, sound_none, sound_more, goes_more, can_more, halts_finish}

-- only a run that goes is opened
goes_true : (f : Fate) → goes_on f ≡ true → f ≡ Goes
goes_true Goes e = refl
goes_true Finished e = let false_is_true : false ≡ true = e in cc
goes_true (Breaks fault) e = let false_is_true : false ≡ true = e in cc

-- lists of one length with the same elements
same_list : (xs ys : List ℕ) → length xs ≡ length ys → ((k : ℕ) → k < length xs → get_or xs k 0 ≡ get_or ys k 0) → xs ≡ ys
same_list [] [] n same = refl
same_list [] (y ∷ ys) n same = absurd (omega arith)
same_list (x ∷ xs) [] n same = absurd (omega arith)
same_list (x ∷ xs) (y ∷ ys) n same =
    let head : x ≡ y = same 0 (omega arith) in
    let tail = same_list xs ys (omega arith) (λ k below. same (suc k) (omega arith)) in
    cc

-- an opened run goes
pub open_goes : {history : List Told} {run : Newest} → Leaves history run → run.is_open ≡ true → fate run.visits ≡ Goes
open_goes new opened = let false_is_true : false ≡ true = opened in cc
open_goes (starts leaves) opened = refl
open_goes (resets leaves) opened = let false_is_true : false ≡ true = opened in cc
open_goes (meets_hole leaves was) opened = let false_is_true : false ≡ true = opened in cc
open_goes (takes {visits = visits} leaves was adds) opened = goes_true (fate visits) opened

-- one more word keeps a run sound
sound_adds : {visits visits' : List Visit} {held held' : Option ℕ} {word : ℕ} → Adds visits held word visits' held' → Sound visits → fate visits' ≡ Goes → Sound visits'
sound_adds (first is_first) sound goes = sound
sound_adds (one {visits = visits} {code = code} spells) sound goes =
    let visit : Visit = record { place = next visits; code = code } in
    sound_more visit visits sound (can_more visit visits sound goes)
sound_adds (two {visits = visits} {code = code} spells) sound goes =
    let visit : Visit = record { place = next visits; code = code } in
    sound_more visit visits sound (can_more visit visits sound goes)

-- an opened run is sound
pub open_sound : {history : List Told} {run : Newest} → Leaves history run → run.is_open ≡ true → Sound run.visits
open_sound new opened = let false_is_true : false ≡ true = opened in cc
open_sound (starts leaves) opened = sound_none
open_sound (resets leaves) opened = let false_is_true : false ≡ true = opened in cc
open_sound (meets_hole leaves was) opened = let false_is_true : false ≡ true = opened in cc
open_sound (takes {visits = visits} leaves was adds) opened = sound_adds adds (open_sound leaves was) (goes_true (fate visits) opened)

-- the stack of a machine in an opened run is the run's
pub stack_is : {history : List Told} {run : Newest} {machine : Machine} → Leaves history run → run.is_open ≡ true → IsInRun machine run → machine.stack ≡ stack run.visits
stack_is {run = run} {machine = machine} leaves opened inside =
    let sound = open_sound leaves opened in
    let counted : calls run.visits ≡ returns run.visits + length (stack run.visits) = sound.counted in
    let count = inside.count in
    same_list machine.stack (stack run.visits) (omega arith) (λ k below. inside.brackets k below ∙ past_call_is run.visits k)

never : {A : Type 0} → false ≡ true → A
never e = cc

-- nothing waits
none_waits : {P : Type 0} → IsSome {T = ℕ} None → P
none_waits some = absurd (cc)

-- nothing was told
pub stands_new : (machine : Machine) → machine.is_open ≡ false → machine.low ≡ None → machine.beam ≡ record { x = 0; y = 0; scale = 0 } → HasTaken machine [] None
stands_new machine shut low beam =
    record { run = nothing; leaves = new; stands = record { is_open = shut; beam = beam; running = λ opened. never opened }; low = low; waits = none_waits }

-- a start was told
pub stands_start : (old machine : Machine) (history : List Told) (low : Option ℕ) → HasTaken old history low →
    machine.at ≡ 0 → machine.held ≡ None → machine.low ≡ None → machine.stack ≡ [] → machine.beam ≡ old.beam → machine.strokes ≡ [] → machine.is_open ≡ true → HasTaken machine (Start ∷ history) None
stands_start old machine history low after at held dropped empty beam none opened =
    record {
      run = begun after.run;
      leaves = starts after.leaves;
      stands = record {
        is_open = opened;
        beam = beam ∙ after.stands.beam;
        running = λ _. record { at = at; held = held; strokes = none; count = simp empty (omega arith); brackets = λ k below. let size = ap length empty in absurd (omega arith) };
      };
      low = dropped;
      waits = none_waits;
    }

-- a reset was told
pub stands_reset : (old machine : Machine) (history : List Told) (low : Option ℕ) → HasTaken old history low → machine.low ≡ None → machine.beam ≡ old.beam → machine.is_open ≡ false → HasTaken machine (Reset ∷ history) None
stands_reset old machine history low after dropped beam shut =
    record { run = stopped after.run; leaves = resets after.leaves; stands = record { is_open = shut; beam = beam ∙ after.stands.beam; running = λ opened. never opened }; low = dropped; waits = none_waits }

-- a word that completes an instruction adds it to the run
adds_by : (visits : List Visit) (held : Option ℕ) (word : ℕ) (code : Instr) → Completes held word code → Adds visits held word (record { place = next visits; code = code } ∷ visits) None
adds_by visits None word code completes = one completes
adds_by visits (Some held) word code completes = two completes

two_on : (place : ℕ) → on (on place 1) 1 ≡ on place 2
two_on place = omega arith

-- an instruction leads on from its last word as from its first
last_word : (visits : List Visit) (held : Option ℕ) (word : ℕ) (code : Instr) (stack : List ℕ) → Completes held word code
    → (past (act_of code) (wanted visits held) stack ≡ to_of (act_of code) (next visits) stack) × (stack_by (act_of code) (wanted visits held) stack ≡ stack_by (act_of code) (next visits) stack)
last_word visits None word code stack (halt p q) = (refl, refl)
last_word visits None word code stack (jsrl r p) = (refl, refl)
last_word visits None word code stack (rtsl p q) = (refl, refl)
last_word visits None word code stack (jmpl r p) = (refl, refl)
last_word visits None word code stack (svec r p) = (refl, refl)
last_word visits (Some held) word code stack (vctr r p q) = (two_on (next visits), refl)
last_word visits (Some held) word code stack (labs r p q) = (two_on (next visits), refl)

-- a fetch, of a machine that stands in an opened run
module _ (history : List Told) (low : Option ℕ) (old : Machine) (after : HasTaken old history low) (opened : old.is_open ≡ true) where
  is_open : after.run.is_open ≡ true
  is_open = sym after.stands.is_open ∙ opened

  inside : IsInRun old after.run
  inside = after.stands.running is_open

  -- of a low byte
  pub at_low : (byte : ℕ) (machine : Machine) → machine ≡ record old { low = Some byte } → Answers history (Waits byte) machine None
  at_low byte machine same =
      let run = after.run in
      let holding : Machine = record old { low = Some byte } in
      let answers : Answers history (Waits byte) holding None = (
        record {
          run = run;
          leaves = after.leaves;
          stands = record {
            is_open = after.stands.is_open;
            beam = after.stands.beam;
            running = λ _. record { at = inside.at; held = inside.held; strokes = inside.strokes; count = inside.count; brackets = inside.brackets };
          };
          low = refl;
          waits = λ _. is_open;
        },
        refl,
      ) in
      subst (λ m. Answers history (Waits byte) m None) (sym same) answers

  -- of a hole
  pub at_hole : (machine : Machine) → machine.is_open ≡ false → machine.low ≡ None → machine.beam ≡ old.beam → Answers history (Whole None) machine (Some (Fails Hole))
  at_hole machine shut dropped beam = (
    record {
      run = stopped after.run;
      leaves = meets_hole after.leaves is_open;
      stands = record { is_open = shut; beam = beam ∙ after.stands.beam; running = λ o. never o };
      low = dropped;
      waits = none_waits;
    },
    refl,
  )

  -- of a first word
  pub at_first : (word : ℕ) → IsFirst word → old.held ≡ None → (machine : Machine)
      → machine ≡ record old { at = on old.at 1; held = Some word; low = None; is_open = true } → Answers history (Whole (Some word)) machine (Some More)
  at_first word is_first none machine same =
      let goes = open_goes after.leaves is_open in
      let adds : Adds after.run.visits after.run.held word after.run.visits (Some word) =
      subst (λ held. Adds after.run.visits held word after.run.visits (Some word)) (sym none ∙ inside.held) (first is_first) in
      let holding : Machine = record old { at = on old.at 1; held = Some word; low = None; is_open = true } in
      let answers : Answers history (Whole (Some word)) holding (Some More) = (
        record {
          run = grown after.run after.run.visits (Some word);
          leaves = takes after.leaves is_open adds;
          stands = record {
            is_open = ap goes_on (sym goes);
            beam = after.stands.beam;
            running = λ _. record { at = ap (λ a. on a 1) (inside.at ∙ ap (wanted after.run.visits) (sym inside.held ∙ none)); held = refl; strokes = inside.strokes; count = inside.count; brackets = inside.brackets };
          };
          low = refl;
          waits = none_waits;
        },
        refl,
      ) in
      subst (λ m. Answers history (Whole (Some word)) m (Some More)) (sym same) answers

  -- of a word that completes an instruction
  module _ (word : ℕ) (code : Instr) (completes : Completes after.run.held word code) where
    adds : Adds after.run.visits after.run.held word (record { place = next after.run.visits; code = code } ∷ after.run.visits) None
    adds = adds_by after.run.visits after.run.held word code completes

    -- which the machine goes on from
    at_go : CanGo (act_of code) old.stack → (machine : Machine) → machine ≡ gone old code → Answers history (Whole (Some word)) machine (Some More)
    at_go can machine same =
        let visits = after.run.visits in
        let newest : Visit = record { place = next visits; code = code } in
        let saved = stack_is after.leaves is_open inside in
        let sound = open_sound after.leaves is_open in
        let can_run : CanGo (act_of code) (stack visits) = subst (λ st. CanGo (act_of code) st) saved can in
        let goes = goes_more newest visits sound can_run in
        let last = last_word visits after.run.held word code old.stack completes in
        let stack_after : stack_by (act_of code) old.at old.stack ≡ stack (newest ∷ visits) =
        ap (λ at. stack_by (act_of code) at old.stack) inside.at ∙ last.1 ∙ ap (λ st. stack_by (act_of code) (next visits) st) saved in
        let at_after : past (act_of code) old.at old.stack ≡ next (newest ∷ visits) =
        ap (λ at. past (act_of code) at old.stack) inside.at ∙ last.0 ∙ ap (λ st. to_of (act_of code) (next visits) st) saved ∙ sym (next_is newest visits) in
        let sound_after = sound_more newest visits sound can_run in
        let counted : calls (newest ∷ visits) ≡ returns (newest ∷ visits) + length (stack (newest ∷ visits)) = sound_after.counted in
        let answers : Answers history (Whole (Some word)) (gone old code) (Some More) = (
          record {
            run = grown after.run (newest ∷ visits) None;
            leaves = takes after.leaves is_open adds;
            stands = record {
              is_open = ap goes_on (sym goes);
              beam = ap (λ b. moved b code) after.stands.beam;
              running = λ _. record {
                at = at_after;
                held = refl;
                strokes = ap (λ drew. drew ++ drawn old.beam code) inside.strokes ∙ ap (λ b. strokes after.run.first visits ++ drawn b code) after.stands.beam;
                count = counted ∙ ap (λ st. returns (newest ∷ visits) + length st) (sym stack_after);
                brackets = λ k below. ap (λ st. get_or st k 0) stack_after ∙ sym (past_call_is (newest ∷ visits) k);
              };
            };
            low = refl;
            waits = none_waits;
          },
          ap (λ f. Some (reply_by None f (strokes after.run.first (newest ∷ visits)))) (sym goes),
        ) in
        subst (λ m. Answers history (Whole (Some word)) m (Some More)) (sym same) answers

    -- which ends the run
    at_stop : (ends : Fate) → fate (record { place = next after.run.visits; code = code } ∷ after.run.visits) ≡ ends → goes_on ends ≡ false → ((b : Beam) → moved b code ≡ b)
        → (machine : Machine) (answer : Reply) → IsShut old machine → answer ≡ reply_by None ends (strokes after.run.first (record { place = next after.run.visits; code = code } ∷ after.run.visits))
        → Answers history (Whole (Some word)) machine (Some answer)
    at_stop ends is_end over still machine answer shut replies =
        let newest : Visit = record { place = next after.run.visits; code = code } in
        let closed : goes_on (fate (newest ∷ after.run.visits)) ≡ false = ap goes_on is_end ∙ over in (
          record {
            run = grown after.run (newest ∷ after.run.visits) None;
            leaves = takes after.leaves is_open adds;
            stands = record {
              is_open = shut.0 ∙ sym closed;
              beam = shut.2 ∙ after.stands.beam ∙ sym (still (beam_after after.run.first after.run.visits));
              running = λ opened. never (sym closed ∙ opened);
            };
            low = shut.1;
            waits = none_waits;
          },
          ap Some (replies ∙ ap (λ f. reply_by None f (strokes after.run.first (newest ∷ after.run.visits))) (sym is_end)),
        )

    -- whichever it is
    pub at_obeyed : (machine : Machine) (step : Step) → Obeyed old code machine step → Answers history (Whole (Some word)) machine (answer_by step machine.picture)
    at_obeyed machine Low obeyed = absurd obeyed
    at_obeyed machine Word obeyed = at_go obeyed.0 machine obeyed.1
    at_obeyed machine Done obeyed =
        let visits = after.run.visits in
        let newest : Visit = record { place = next visits; code = code } in
        let finished = halts_finish newest visits (ap act_of obeyed.0) in
        let none : drawn (beam_after after.run.first visits) code ≡ [] = ap (λ k. drawn (beam_after after.run.first visits) k) obeyed.0 in
        let drew : strokes after.run.first (newest ∷ visits) ≡ strokes after.run.first visits =
        ap (λ ys. strokes after.run.first visits ++ ys) none ∙ append-nil (strokes after.run.first visits) in
        at_stop Finished finished refl (λ b. ap (λ k. moved b k) obeyed.0) machine (Drew machine.picture) obeyed.1 (ap Drew (obeyed.2 ∙ inside.strokes ∙ sym drew))
    at_obeyed machine (Broke StackOver) obeyed =
        let visits = after.run.visits in
        let count : calls visits ≡ returns visits + length old.stack = inside.count in
        let four : length old.stack ≡ 4 = obeyed.1 in
        let full : eqb (calls visits) (returns visits + 4) ≡ true = eq-eqb _ _ (omega arith) in
        let breaks = ap (λ k. fate_by (act_of k) visits) obeyed.0.1 ∙ ap (λ b. cond b (Breaks StackOver) Goes) full in
        at_stop (Breaks StackOver) breaks refl (λ b. ap (λ k. moved b k) obeyed.0.1) machine (Fails StackOver) obeyed.2 refl
    at_obeyed machine (Broke StackUnder) obeyed =
        let visits = after.run.visits in
        let count : calls visits ≡ returns visits + length old.stack = inside.count in
        let none : length old.stack ≡ 0 = ap length obeyed.1 in
        let empty : eqb (calls visits) (returns visits) ≡ true = eq-eqb _ _ (omega arith) in
        let breaks = ap (λ k. fate_by (act_of k) visits) obeyed.0 ∙ ap (λ b. cond b (Breaks StackUnder) Goes) empty in
        at_stop (Breaks StackUnder) breaks refl (λ b. ap (λ k. moved b k) obeyed.0) machine (Fails StackUnder) obeyed.2 refl
    at_obeyed machine (Broke Hole) obeyed = absurd obeyed

-- what a fetch that met this leaves and is answered, after whatever history
abbrev pub Claim : Met → Machine → Machine → Option Reply → Type 0
Claim found old machine answer = (history : List Told) (low : Option ℕ) → HasTaken old history low → Answers history found machine answer

-- what a fetch of this byte leaves and is answered, after whatever history and low byte
abbrev pub Claims : Option ℕ → Machine → Machine → Option Reply → Type 0
Claims byte old machine answer = (history : List Told) (low : Option ℕ) → HasTaken old history low → Answers history (met low byte) machine answer

-- it is what it meets with the low byte that the machine has
pub claim_met : {E : Type 0} (result : Result Step E) (byte : Option ℕ) (found : Met) (old machine : Machine)
    → met old.low byte ≡ found
    → IfOk result (λ step. Claim found old machine (answer_by step machine.picture))
    → IfOk result (λ step. Claims byte old machine (answer_by step machine.picture))
claim_met (Err e) byte found old machine same claim = claim
claim_met (Ok step) byte found old machine same claim = λ history low after.
    subst (λ l. Answers history (met l byte) machine (answer_by step machine.picture)) after.low
    (subst (λ f. Answers history f machine (answer_by step machine.picture)) (sym same) (claim history low after))

-- a hole is met whether a low byte waits or not
pub met_hole : (low : Option ℕ) → met low None ≡ Whole None
met_hole None = refl
met_hole (Some low) = refl

-- the claim of a hole
pub claim_hole : (old machine : Machine) (answer : Option Reply) → old.is_open ≡ true → answer ≡ Some (Fails Hole) → machine ≡ record old { low = None; is_open = false } → Claim (Whole None) old machine answer
claim_hole old machine answer opened broke shut history low after =
    subst (λ a. Answers history (Whole None) machine a) (sym broke)
    (at_hole history low old after opened machine (ap (λ m. m.is_open) shut) (ap (λ m. m.low) shut) (ap (λ m. m.beam) shut))

-- the claim of a low byte
pub claim_low : (byte : ℕ) (old machine : Machine) → old.is_open ≡ true → machine ≡ record old { low = Some byte } → Claim (Waits byte) old machine None
claim_low byte old machine opened same history low after = at_low history low old after opened byte machine same

-- the claim of a first word
pub claim_first : (w at : ℕ) (old machine : Machine) → old.is_open ≡ true → old.held ≡ None → IsFirst w → at ≡ on old.at 1
    → machine ≡ record old { at = at; held = Some w; low = None } → Claim (Whole (Some w)) old machine (Some More)
claim_first w at old machine opened none is_first on_one same history low after =
    let moved = same ∙ ap (λ a. record old { at = a; held = Some w; low = None }) on_one in
    let holding = moved ∙ ap (λ o. record old { at = on old.at 1; held = Some w; low = None; is_open = o }) opened in
    at_first history low old after opened w is_first none machine holding

-- the claim of a word that completes an instruction
pub claim_obeyed : (w : ℕ) (old machine : Machine) (code : Instr) (step : Step) → old.is_open ≡ true → Completes old.held w code
    → Obeyed old code machine step → Claim (Whole (Some w)) old machine (answer_by step machine.picture)
claim_obeyed w old machine code step opened completes obeyed history low after =
    let held = (after.stands.running (sym after.stands.is_open ∙ opened)).held in
    let completes_run : Completes after.run.held w code = subst (λ h. Completes h w code) held completes in
    at_obeyed history low old after opened w code completes_run machine step obeyed

-- the same of a result
pub claim_result : {E : Type 0} (result : Result Step E) (w : ℕ) (old machine : Machine) (code : Instr)
    → old.is_open ≡ true → Completes old.held w code → IfOk result (Obeyed old code machine)
    → IfOk result (λ step. Claim (Whole (Some w)) old machine (answer_by step machine.picture))
claim_result (Ok step) w old machine code opened completes obeyed =
    claim_obeyed w old machine code step opened completes obeyed
claim_result (Err e) w old machine code opened completes obeyed = obeyed

-- a run that obeys goes on exactly where its answer says so
goes_obeyed : (old machine : Machine) (code : Instr) (step : Step) → Obeyed old code machine step
    → (machine.is_open ≡ true) ↔ IsOnward (answer_by step machine.picture)
goes_obeyed old machine code Low obeyed = absurd obeyed
goes_obeyed old machine code Word obeyed = (λ opened. tt, λ onward. ap (λ m. m.is_open) obeyed.1)
goes_obeyed old machine code Done obeyed = (λ opened. never (sym obeyed.1.0 ∙ opened), λ onward. absurd onward)
goes_obeyed old machine code (Broke StackOver) obeyed =
    (λ opened. never (sym obeyed.2.0 ∙ opened), λ onward. absurd onward)
goes_obeyed old machine code (Broke StackUnder) obeyed =
    (λ opened. never (sym obeyed.2.0 ∙ opened), λ onward. absurd onward)
goes_obeyed old machine code (Broke Hole) obeyed = absurd obeyed

-- the same of a result
pub goes_result : {E : Type 0} (result : Result Step E) (old machine : Machine) (code : Instr)
    → IfOk result (Obeyed old code machine)
    → IfOk result (λ step. (machine.is_open ≡ true) ↔ IsOnward (answer_by step machine.picture))
goes_result (Ok step) old machine code obeyed = goes_obeyed old machine code step obeyed
goes_result (Err e) old machine code obeyed = obeyed

-- a HALT makes the picture of the run's strokes, and every other step leaves it
picture_obeyed : (old machine : Machine) (code : Instr) (step : Step) → Obeyed old code machine step
    → machine.picture ≡ picture_after step old
picture_obeyed old machine code Low obeyed = absurd obeyed
picture_obeyed old machine code Word obeyed = ap (λ m. m.picture) obeyed.1
picture_obeyed old machine code Done obeyed = obeyed.2
picture_obeyed old machine code (Broke StackOver) obeyed = obeyed.3
picture_obeyed old machine code (Broke StackUnder) obeyed = obeyed.3
picture_obeyed old machine code (Broke Hole) obeyed = absurd obeyed

-- the same of a result
pub picture_result : {E : Type 0} (result : Result Step E) (old machine : Machine) (code : Instr)
    → IfOk result (Obeyed old code machine) → IfOk result (λ step. machine.picture ≡ picture_after step old)
picture_result (Ok step) old machine code obeyed = picture_obeyed old machine code step obeyed
picture_result (Err e) old machine code obeyed = obeyed

-- a HALT leaves no stroke
pub none_left : (old machine : Machine) (code : Instr) (step : Step) → Obeyed old code machine step → step ≡ Done
    → machine.strokes ≡ []
none_left old machine code step obeyed done = (subst (Obeyed old code machine) done obeyed).3

-- the same of a result
pub none_left_result : {E : Type 0} (result : Result Step E) (old machine : Machine) (code : Instr)
    → IfOk result (Obeyed old code machine) → IfOk result (λ step. step ≡ Done → machine.strokes ≡ [])
none_left_result (Ok step) old machine code obeyed = none_left old machine code step obeyed
none_left_result (Err e) old machine code obeyed = obeyed

-- what a word claims that alone spells an instruction
pub claim_alone : {E : Type 0} (result : Result Step E) (w : ℕ) (old machine : Machine) (code : Instr)
    → old.is_open ≡ true → old.held ≡ None → Spells code (w ∷ []) → IfOk result (Obeyed old code machine)
    → IfOk result (λ step. Claim (Whole (Some w)) old machine (answer_by step machine.picture))
claim_alone result w old machine code opened none spells obeyed =
    claim_result result w old machine code opened (subst (λ held. Completes held w code) (sym none) spells) obeyed

-- a machine that goes to an address obeys a JMPL
pub jumped : (old machine : Machine) (step : Step) (address : ℕ) → old.is_open ≡ true → machine ≡ record old { at = address; held = None; low = None } → step ≡ Word
    → Obeyed old (Jmpl address) machine step
jumped old machine step address opened moved goes =
    let same : machine ≡ gone old (Jmpl address) =
    moved ∙ ap (λ o. record old { at = address; held = None; low = None; is_open = o }) opened
    ∙ ap (λ drew. record old { at = address; held = None; low = None; is_open = true; strokes = drew }) (sym (append-nil old.strokes)) in
    subst (Obeyed old (Jmpl address) machine) (sym goes) (tt, same)

-- a machine stands as before with whatever picture
pub stands_with : (old : Machine) (picture : List Stroke) (history : List Told) (low : Option ℕ) → HasTaken old history low
    → HasTaken (record old { picture = picture }) history low
stands_with old picture history low after = record {
  run = after.run;
  leaves = after.leaves;
  stands = record {
    is_open = after.stands.is_open;
    beam = after.stands.beam;
    running = λ opened. let inside = after.stands.running opened in
        record { at = inside.at; held = inside.held; strokes = inside.strokes; count = inside.count; brackets = inside.brackets };
  };
  low = after.low;
  waits = after.waits;
}

-- the picture is handed out with the answer to a HALT
pub handed_out : (history : List Told) (found : Met) (old machine : Machine) (list : List Stroke)
    → machine ≡ record old { picture = [] } → list ≡ old.picture → Answers history found old (answer_by Done old.picture)
    → Answers history found machine (Some (Drew list))
unfolding stands_with
handed_out history (Waits byte) old machine list same is answers = let never : Some (Drew old.picture) ≡ None = answers.1 in absurd (cc)
handed_out history (Whole word) old machine list same is answers =
    let left : Answers history (Whole word) (record old { picture = [] }) (Some (Drew old.picture)) =
    (stands_with old [] (Fed word ∷ history) None answers.0, answers.1) in
    subst (λ l. Answers history (Whole word) machine (Some (Drew l))) (sym is)
    (subst (λ m. Answers history (Whole word) m (Some (Drew old.picture))) (sym same) left)
