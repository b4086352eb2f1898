-- A run that is followed for its time alone.
use Rattle.std.proofs.Common.{◌≡◌, ◌⊎◌, ◌∙◌, ℕ, suc, ◌+◌, ◌<◌, List, [], ◌∷◌, Option, Some, None, true}
use Rattle.std.proofs.Common.{ap, arith, cond, eqb, inl, inr, length, refl, subst, sym}
use Rattle.std.proofs.lemmas.Bool.{eq-eqb}
use Rattle.dvg_code.specs.Acts.{Act, Moves, Jumps, Calls, Returns, Halts, act_of}
use Rattle.dvg_code.specs.Spelling.{IsFirst, vctr, labs, halt, jsrl, rtsl, jmpl, svec}
use Rattle.dvg_code.specs.declared.instr.Instr.{Instr}
use Rattle.dvg_code.specs.declared.instr.Instr.TheVariants.{Vctr, Labs, Halt, Jsrl, Rtsl, Jmpl, Svec}
use Rattle.dvg_gen.specs.declared.beam.Beam.{Beam}
use Rattle.dvg_gen.specs.declared.taken.GenFault.{GenFault}
use Rattle.dvg_gen.specs.declared.taken.GenFault.TheVariants.{StackOver, StackUnder, Hole}
use Rattle.dvg_gen.specs.Completing.{Completes}
use Rattle.dvg_gen.specs.Drawing.{moved}
use Rattle.dvg_gen.specs.Obeyed.{past}
use Rattle.dvg_gen.specs.Run.{Visit, Goes, Finished, Breaks, Adds, Runs, beam_after, begins, calls, fate, fate_by, fetches}
use Rattle.dvg_gen.specs.Run.{first, next, on, one, returns, two, wanted}
use Rattle.dvg_gen.specs.Stacks.{CanGo, stack_by, to_of}
use Rattle.dvg_gen.specs.Told.{nothing}
use Rattle.dvg_gen.proofs.Stack.{Sound, goes_more, next_is, sound_more, sound_none, stack}
use Rattle.dvg_dump.specs.Ends.{End, Ends, Complete, Broken, Endless, breaks, drawn_by, goes_on, halts, meets_hole}
use Rattle.dvg_lay.specs.declared.time.Spent.{Spent}
use Rattle.dvg_lay.specs.Times.{local_scale, nothing_spent, spent_by, with_one}
use Rattle.dvg_lay.specs.Walks.{EndsRun, Footing, at_first, gone, scale_after}

-- the global scale after an instruction is the beam's
scale_moved : (beam : Beam) (code : Instr) → (moved beam code).scale ≡ scale_after beam.scale code
scale_moved beam (Vctr scale dx dy z) = refl
scale_moved beam (Labs x y scale) = refl
scale_moved beam Halt = refl
scale_moved beam (Jsrl address) = refl
scale_moved beam Rtsl = refl
scale_moved beam (Jmpl address) = refl
scale_moved beam (Svec scale dx dy z) = refl

-- a word that completes an instruction adds it to the run
adds_by : (visits : List Visit) (held : Option ℕ) (word : ℕ) (code : Instr) → Completes held word code
    → Adds visits held word (record { place = next visits; code = code } ∷ visits) None
adds_by visits None word code completes = one completes
adds_by visits (Some held) word code completes = two completes

two_on : (place : ℕ) → on (on place 1) 1 ≡ on place 2
two_on place = omega arith

-- an instruction leads on from its last word as from its first
last_word : (visits : List Visit) (held : Option ℕ) (word : ℕ) (code : Instr) (stack : List ℕ) → Completes held word code
    → (past (act_of code) (wanted visits held) stack ≡ to_of (act_of code) (next visits) stack)
    × (stack_by (act_of code) (wanted visits held) stack ≡ stack_by (act_of code) (next visits) stack)
last_word visits None word code stack (halt p q) = (refl, refl)
last_word visits None word code stack (jsrl r p) = (refl, refl)
last_word visits None word code stack (rtsl p q) = (refl, refl)
last_word visits None word code stack (jmpl r p) = (refl, refl)
last_word visits None word code stack (svec r p) = (refl, refl)
last_word visits (Some held) word code stack (vctr r p q) = (two_on (next visits), refl)
last_word visits (Some held) word code stack (labs r p q) = (two_on (next visits), refl)

-- an instruction that ends a run finishes or breaks it
ended : (act : Act ℕ) (older : List Visit) → Sound older → EndsRun act (stack older)
    → (fate_by act older ≡ Finished) ⊎ ((fault : GenFault) × (fate_by act older ≡ Breaks fault))
ended (Moves code) older sound ends = absurd ends
ended (Jumps to) older sound ends = absurd ends
ended (Calls to) older sound ends =
    let counted : calls older ≡ returns older + length (stack older) = sound.counted in
    let four : length (stack older) ≡ 4 = ends in
    let full : eqb (calls older) (returns older + 4) ≡ true = eq-eqb _ _ (omega (arith, counted, four)) in
    inr (StackOver, ap (λ b. cond b (Breaks StackOver) Goes) full)
ended Returns older sound ends =
    let counted : calls older ≡ returns older + length (stack older) = sound.counted in
    let none : length (stack older) ≡ 0 = ap length ends in
    let empty : eqb (calls older) (returns older) ≡ true = eq-eqb _ _ (omega (arith, counted, none)) in
    inr (StackUnder, ap (λ b. cond b (Breaks StackUnder) Goes) empty)
ended Halts older sound ends = inl refl

-- the run over a memory takes this
abbrev pub Timed : (ℕ → Option ℕ) → Spent → Type 0
Timed memory spent = (visits : List Visit) × (end : End) × Ends memory visits end × (spent ≡ spent_by visits)

-- a walk is where a run over a memory is after so many words, and this is what it took
pub record Follows (memory : ℕ → Option ℕ) (words : ℕ) (walk : Footing) (spent : Spent) : Type 0 where
  pub visits : List Visit
  pub runs : Runs memory words visits walk.held
  pub goes : fate visits ≡ Goes
  pub sound : Sound visits
  pub at_is : walk.at ≡ wanted visits walk.held
  pub stack_is : walk.stack ≡ stack visits
  pub scale_is : walk.scale ≡ (beam_after nothing.first visits).scale
  pub spent_is : spent ≡ spent_by visits

-- from the beginning on
pub follows_first : (memory : ℕ → Option ℕ) (walk : Footing) (spent : Spent) → walk ≡ at_first → spent ≡ nothing_spent
    → Follows memory 0 walk spent
follows_first memory walk spent walk_is spent_is =
    let here : Follows memory 0 at_first nothing_spent = record {
      visits = [];
      runs = begins;
      goes = refl;
      sound = sound_none;
      at_is = refl;
      stack_is = refl;
      scale_is = refl;
      spent_is = refl;
    } in
    subst (λ w. Follows memory 0 w spent) (sym walk_is)
    (subst (λ s. Follows memory 0 at_first s) (sym spent_is) here)

module _ {memory : ℕ → Option ℕ} {words : ℕ} {old : Footing} {spent : Spent} (follows : Follows memory words old spent) where
  -- the run meets a hole
  pub at_hole : words < 65536 → memory old.at ≡ None → Timed memory spent
  at_hole few none = (
    follows.visits,
    Broken (wanted follows.visits old.held) Hole,
    meets_hole follows.runs few follows.goes (ap memory (sym follows.at_is) ∙ none),
    follows.spent_is,
  )

  -- the run isn't followed further
  pub at_last : words ≡ 65536 → Timed memory spent
  at_last all = (
    follows.visits,
    Endless,
    goes_on (subst (λ n. Runs memory n follows.visits old.held) all follows.runs) follows.goes,
    follows.spent_is,
  )

  -- the run fetches a word
  module _ (word : ℕ) (there : memory old.at ≡ Some word) where
    found : memory (wanted follows.visits old.held) ≡ Some word
    found = ap memory (sym follows.at_is) ∙ there

    -- which wants a second one
    pub follows_held : (new : Footing) → old.held ≡ None → IsFirst word
        → new ≡ record old { at = on old.at 1; held = Some word } → Follows memory (suc words) new spent
    follows_held new none wants is =
        let visits = follows.visits in
        let adds : Adds visits old.held word visits (Some word) =
        subst (λ held. Adds visits held word visits (Some word)) (sym none) (first wants) in
        let holding : Footing = record old { at = on old.at 1; held = Some word } in
        let here : Follows memory (suc words) holding spent = record {
          visits = visits;
          runs = fetches follows.runs follows.goes found adds;
          goes = follows.goes;
          sound = follows.sound;
          at_is = ap (λ a. on a 1) (follows.at_is ∙ ap (wanted visits) none);
          stack_is = follows.stack_is;
          scale_is = follows.scale_is;
          spent_is = follows.spent_is;
        } in
        subst (λ w. Follows memory (suc words) w spent) (sym is) here

    -- which completes an instruction
    module _ (code : Instr) (completes : Completes old.held word code) (more : Spent)
        (more_is : more ≡ with_one spent old.scale (local_scale code)) where
      abbrev newest : Visit
      newest = record { place = next follows.visits; code = code }

      runs : Runs memory (suc words) (newest ∷ follows.visits) None
      runs = fetches follows.runs follows.goes found (adds_by follows.visits old.held word code completes)

      took : more ≡ spent_by (newest ∷ follows.visits)
      took =
          more_is ∙ ap (λ s. with_one s old.scale (local_scale code)) follows.spent_is
          ∙ ap (λ s. with_one (spent_by follows.visits) s (local_scale code)) follows.scale_is

      -- from which the run goes on
      pub follows_on : (new : Footing) → CanGo (act_of code) old.stack → new ≡ gone old code
          → Follows memory (suc words) new more
      follows_on new can is =
          let visits = follows.visits in
          let can_run : CanGo (act_of code) (stack visits) = subst (λ s. CanGo (act_of code) s) follows.stack_is can in
          let last = last_word visits old.held word code old.stack completes in
          let here : Follows memory (suc words) (gone old code) more = record {
            visits = newest ∷ visits;
            runs = runs;
            goes = goes_more newest visits follows.sound can_run;
            sound = sound_more newest visits follows.sound can_run;
            at_is = ap (λ at. past (act_of code) at old.stack) follows.at_is ∙ last.0
                ∙ ap (λ s. to_of (act_of code) (next visits) s) follows.stack_is ∙ sym (next_is newest visits);
            stack_is = ap (λ at. stack_by (act_of code) at old.stack) follows.at_is ∙ last.1
                ∙ ap (λ s. stack_by (act_of code) (next visits) s) follows.stack_is;
            scale_is = ap (λ s. scale_after s code) follows.scale_is
                ∙ sym (scale_moved (beam_after nothing.first visits) code);
            spent_is = took;
          } in
          subst (λ w. Follows memory (suc words) w more) (sym is) here

      -- which ends the run
      pub at_end : words < 65536 → EndsRun (act_of code) old.stack → Timed memory more
      at_end few ends =
          let visits = follows.visits in
          let at_stack : EndsRun (act_of code) (stack visits) = subst (λ s. EndsRun (act_of code) s) follows.stack_is ends in
          elim (ended (act_of code) visits follows.sound at_stack) [
            | inl done ↦ (newest ∷ visits, Complete (suc words) (drawn_by (newest ∷ visits)), halts runs few done, took)
            | inr broke ↦ (newest ∷ visits, Broken (next visits) broke.0, breaks runs few broke.1, took)
          ]
