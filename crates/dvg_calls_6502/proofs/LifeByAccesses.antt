-- A call step by step: what its accesses make of a life.
use Rattle.std.proofs.Common.{◌≡◌, ℕ, inl, inr, ◌<◌, ◌≤◌, Bool, true, false, List, [], ◌∷◌, ◌++◌, refl, sym, ap, ◌∙◌}
use Rattle.std.proofs.Common.{subst, arith, Some}
use Rattle.std.proofs.lemmas.List.{append_cancel_right}
use Rattle.std.specs.Prelude.{◌⊎◌}
use Rattle.dvg_driver.specs.Script.{Item, Offered, Asked, Did}
use Rattle.dvg_driver.specs.Place.{Place, place_of_life}
use Rattle.dvg_calls_6502.specs.Processor.{Cpu, Access, run, at_return}
use Rattle.dvg_calls_6502.specs.Board.{seen}
use Rattle.dvg_calls_6502.specs.Calls.{AreShown}
use Rattle.dvg_calls_6502.proofs.ProcessorRuns.{run_more}
use Rattle.dvg_calls_6502.proofs.LogsGrow.{GoesOn, Splits, split, within, same_end, stays, run_on, seen_append}
use Rattle.dvg_calls_6502.specs.Amid.{is_kept, is_code, are_steady}
use Rattle.dvg_calls_6502.proofs.Steady.{steady_all, steady_on, code_kept}
use Rattle.dvg_calls_6502.proofs.PlainTicks.{Covers}
use Rattle.dvg_calls_6502.proofs.DriverInMemory.{Stood, place_of_rest, shown_rest}

pub append_items : (a b c : List Item) → (a ++ b) ++ c ≡ a ++ (b ++ c)
append_items [] b c = refl
append_items (x ∷ a) b c = ap (λ l. x ∷ l) (append_items a b c)

pub append_logs : (a b c : List Access) → (a ++ b) ++ c ≡ a ++ (b ++ c)
append_logs [] b c = refl
append_logs (x ∷ a) b c = ap (λ l. x ∷ l) (append_logs a b c)

pub shown_both : (new old : List Item) (now before : List Access) → AreShown new now → AreShown old before
    → AreShown (new ++ old) (now ++ before)
shown_both [] old [] before a b = b
shown_both [] old (access ∷ now) before a b = absurd a
shown_both (Did action ∷ new) old [] before a b = absurd a
shown_both (Did action ∷ new) old (access ∷ now) before a b = (a.0, shown_both new old now before a.1 b)
shown_both (Offered half F ∷ new) old now before a b = absurd a
shown_both (Asked ∷ new) old now before a b = absurd a

-- these steps take guarded bytes alone
abbrev pub Keeps : (begin stop q k : ℕ) → Cpu → Type 0
Keeps begin stop q k cpu =
    (tables : ℕ → Bool) → Covers tables begin stop → are_steady (is_kept tables) q k cpu ≡ true

-- what may hold of a memory after a life
abbrev pub Claim : Type 1
Claim = (ℕ → ℕ) → List Item → Type 0

-- what k steps of a call make of a life; where it has returned, this holds
pub record GoesTo (P : Claim) (q k : ℕ) (cpu : Cpu) (begin stop : ℕ) (life : List Item) : Type 0 where
  pub items : List Item
  pub accesses : List Access
  pub logged : seen (run q k cpu).log ≡ accesses ++ seen cpu.log
  pub shown : AreShown items accesses
  pub placed : (place : Place) × (place_of_life (items ++ life) ≡ Some place)
  pub stands : at_return q (run q k cpu) ≡ true → P (run q k cpu).mem (items ++ life)
  pub steady : Keeps begin stop q k cpu

-- the same, where a driver stands
abbrev pub stood_in : (begin stop : ℕ) → Claim
stood_in begin stop mem life = Stood mem begin stop life

abbrev pub Goes : (q k : ℕ) → Cpu → (begin stop : ℕ) → List Item → Type 0
Goes q k cpu begin stop life = GoesTo (stood_in begin stop) q k cpu begin stop life

-- what holds may be said less exactly
pub goes_as : (P Q : Claim) (q k : ℕ) (cpu : Cpu) (begin stop : ℕ) (life : List Item)
    → ((mem : ℕ → ℕ) (after : List Item) → P mem after → Q mem after) → GoesTo P q k cpu begin stop life
    → GoesTo Q q k cpu begin stop life
goes_as P Q q k cpu begin stop life weaken goes = record {
  items = goes.items;
  accesses = goes.accesses;
  logged = goes.logged;
  shown = goes.shown;
  placed = goes.placed;
  stands = λ here. weaken (run q k cpu).mem (goes.items ++ life) (goes.stands here);
  steady = goes.steady;
}

-- a stretch of steps, and what it makes of a life
pub record Stretch (begin stop q : ℕ) (cpu : Cpu) (steps : ℕ) (life : List Item) : Type 0 where
  pub items : List Item
  pub accesses : List Access
  pub logged : seen (run q steps cpu).log ≡ accesses ++ seen cpu.log
  pub shown : AreShown items accesses
  pub placed : (place : Place) × (place_of_life (items ++ life) ≡ Some place)
  pub steady : Keeps begin stop q steps cpu

-- a stretch that touches no hardware
abbrev pub idle_stretch : (q : ℕ) (cpu : Cpu) (k begin stop : ℕ) (life : List Item)
    → (place : Place) × (place_of_life life ≡ Some place) → seen (run q k cpu).log ≡ seen cpu.log
    → ((tables : ℕ → Bool) → are_steady (is_kept tables) q k cpu ≡ true) → Stretch begin stop q cpu k life
idle_stretch q cpu k begin stop life placed quiet steady = record {
  items = [];
  accesses = [];
  shown = tt;
  placed = placed;
  logged = quiet;
  steady = λ tables covers. steady tables;
}

module _ (P : Claim) (q k : ℕ) (cpu : Cpu) (begin stop : ℕ) (life : List Item) (steps : ℕ)
    (made : Stretch begin stop q cpu steps life) where
  -- within the stretch
  part : GoesOn (seen (run q steps cpu).log) (seen (run q k cpu).log) → (at_return q (run q k cpu) ≡ true → ⊥)
      → Keeps begin stop q k cpu → GoesTo P q k cpu begin stop life
  part on unreturned all =
      let base = run_on q k cpu in
      let now = seen base.0 in
      let logged : seen (run q k cpu).log ≡ now ++ seen cpu.log = ap seen base.1 ∙ seen_append base.0 cpu.log in
      let whole : made.accesses ≡ on.0 ++ now =
      append_cancel_right made.accesses (on.0 ++ now) (seen cpu.log) (sym made.logged ∙ on.1
      ∙ ap (λ l. on.0 ++ l) logged ∙ sym (append_logs on.0 now (seen cpu.log))) in
      let rest = shown_rest made.items on.0 now (subst (λ l. AreShown made.items l) whole made.shown) in
      record {
        items = rest.1;
        accesses = now;
        logged = logged;
        shown = rest.3;
        placed = place_of_rest rest.0 (rest.1 ++ life) made.placed.0
            (sym (ap place_of_life (ap (λ l. l ++ life) rest.2 ∙ append_items rest.0 rest.1 life)) ∙ made.placed.1);
        stands = λ here. absurd (unreturned here);
        steady = all;
      }

  -- the call returns at the stretch's end
  pub finish : at_return q (run q steps cpu) ≡ true → is_code (run q steps cpu).pc ≡ true
      → P (run q steps cpu).mem (made.items ++ life)
      → GoesTo P q k cpu begin stop life
  finish there code stood = by (at_return q (run q k cpu)) refl
    where
      all : Keeps begin stop q k cpu
      all tables covers = steady_all (is_kept tables) q steps k cpu (made.steady tables covers) there
          (code_kept tables (run q steps cpu).pc code)

      by : (t : Bool) → at_return q (run q k cpu) ≡ t → GoesTo P q k cpu begin stop life
      by true here =
          let same = same_end q k steps cpu here there in
          record {
            items = made.items;
            accesses = made.accesses;
            logged = ap (λ (c : Cpu). seen c.log) same ∙ made.logged;
            shown = made.shown;
            placed = made.placed;
            stands = λ again. subst (λ (c : Cpu). P c.mem (made.items ++ life)) (sym same) stood;
            steady = all;
          }
      by false unfinished = inside (within q k steps cpu there)
        where
          inside : (run q k cpu ≡ run q steps cpu) ⊎ GoesOn (seen (run q steps cpu).log) (seen (run q k cpu).log)
              → GoesTo P q k cpu begin stop life
          inside (inl same) = absurd (let e = ap (at_return q) same ∙ there in cc)
          inside (inr on) = part on (λ here. absurd (cc)) all

  -- the call goes on from the stretch's end
  pub go_on : 1 ≤ steps → at_return q (run q steps cpu) ≡ false
      → ((j : ℕ) → j < k → GoesTo P q j (run q steps cpu) begin stop (made.items ++ life)) → GoesTo P q k cpu begin stop life
  go_on some open_yet rest = by (split k steps)
    where
      all : Keeps begin stop q k cpu
      all tables covers = steady_on (is_kept tables) q steps k cpu (made.steady tables covers)
          (λ j is. (rest j (omega (arith, is, some))).steady tables covers)

      by : Splits k steps → GoesTo P q k cpu begin stop life
      by (inl less) =
          let more = run_on q less.0 (run q k cpu) in
          let to_end : run q steps cpu ≡ run q less.0 (run q k cpu) = ap (λ j. run q j cpu) less.1
          ∙ run_more q k less.0 cpu in
          part (
            seen more.0,
            ap (λ (c : Cpu). seen c.log) to_end ∙ ap seen more.1
                ∙ seen_append more.0 (run q k cpu).log,
          )
          (λ here. absurd (let e = sym open_yet ∙ ap (at_return q) (to_end ∙ stays q less.0 (run q k cpu) here)
          ∙ here in cc)) all
      by (inr above) =
          let on = rest above.0 (omega (arith, above.1, some)) in
          let same : run q k cpu ≡ run q above.0 (run q steps cpu) = ap (λ j. run q j cpu) above.1
          ∙ run_more q steps above.0 cpu in
          record {
            items = on.items ++ made.items;
            accesses = on.accesses ++ made.accesses;
            logged = ap (λ (c : Cpu). seen c.log) same ∙ on.logged ∙ ap (λ l. on.accesses ++ l) made.logged
                ∙ sym (append_logs on.accesses made.accesses (seen cpu.log));
            shown = shown_both on.items made.items on.accesses made.accesses on.shown made.shown;
            placed = (on.placed.0, ap place_of_life (append_items on.items made.items life) ∙ on.placed.1);
            stands = λ here.
                let there : at_return q (run q above.0 (run q steps cpu)) ≡ true = sym (ap (at_return q) same) ∙ here in
                subst (λ l. P (run q k cpu).mem l) (sym (append_items on.items made.items life))
                (subst (λ (c : Cpu). P c.mem (on.items ++ (made.items ++ life))) (sym same)
                (on.stands there));
            steady = all;
          }
