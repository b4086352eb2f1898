-- An instruction that goes on within its level.
use Rattle.std.proofs.Common.{◌⊎◌, inl, inr, ◌≡◌, ℕ, suc, ◌+◌, ◌*◌, ◌<◌, ◌≤◌, true, sym, ap, ◌∙◌, subst, arith}
use Rattle.std.specs.Prelude.{None, Some}
use Rattle.dvg_calls_6502.specs.Processor.{stack_place}
use Rattle.dvg_game_rules.specs.Machine.{State, IsLoaded, Came}
use Rattle.dvg_game_rules.specs.Checker.{Main, Sub, Nmi, Note, Notes, spare}
use Rattle.dvg_game_rules.proofs.Facts.{Leads}
use Rattle.dvg_game_rules.proofs.RunInvariant.{Fresh, fresh_less, Below, Runs, Handles, low, keeps, keeps_at}
use Rattle.dvg_game_rules.proofs.Saved.{Holds, Saved, holds_less, saved_less}

-- what such an instruction does, with the note of what is after it
pub record Moves (notes : Notes) (now : Note) (st after : State) : Type 0 where
  pub then : Note
  pub leads : Leads notes after.pc then
  pub level : then.level ≡ now.level
  pub fuel : then.fuel ≡ now.fuel
  pub ends : then.ends ≡ now.ends
  pub blank : (after.blank ≡ st.blank) × (then.blank ≡ now.blank)
  pub top : after.s + then.depth ≡ st.s + now.depth
  pub room : (more : ℕ) → now.room + more ≤ st.s → then.room + more ≤ after.s
  pub calls : after.calls ≡ st.calls
  pub amid : after.amid ≡ st.amid
  pub home : after.home ≡ st.home
  pub since : after.since ≡ suc st.since
  pub awake : then.awake ≡ true → (now.awake ≡ true → st.awake ≡ true) → after.awake ≡ true
  pub others : (now.level ≡ Main → ⊥) → st.awake ≡ true → after.awake ≡ true
  pub rom : IsLoaded st.mem after.mem
  pub saves : (came : Came) → Holds now.held came st → Saved now.slots came st.mem st.s
      → Holds then.held came after × Saved then.slots came after.mem after.s
  pub kept : (k : ℕ) → st.s < k → k ≤ 255 → after.mem (stack_place k) ≡ st.mem (stack_place k)

is_main : Sub ≡ Main → ⊥
is_main is = absurd (cc)

is_nmi : Nmi ≡ Main → ⊥
is_nmi is = absurd (cc)

pub runs_on : (notes : Notes) (st after : State) (runs : Runs notes st) → Moves notes runs.stands.now st after
    → Runs notes after
runs_on notes st after runs moves =
    let now = runs.stands.now in
    let new = moves.leads.new in
    let level : new.level ≡ now.level = moves.leads.level ∙ moves.level in
    let depth : after.s + new.depth ≡ st.s + now.depth = ap (λ d. after.s + d) moves.leads.depth ∙ moves.top in
    let kept = keeps_at notes st.awake after.awake st.mem after.mem now.level (st.s + now.depth) st.calls
    (λ sub. moves.others (λ main. is_main (sym sub ∙ main)))
    (λ k above high. moves.kept k (omega (arith, above)) high) runs.stands.below in
    record {
      stands = record {
        now = new;
        is = moves.leads.is;
        below = subst (λ l. Below notes after.awake after.mem l (after.s + new.depth) after.calls) (sym level)
            (subst (λ t. Below notes after.awake after.mem now.level t after.calls) (sym depth)
            (subst (λ c. Below notes after.awake after.mem now.level (st.s + now.depth) c) (sym moves.calls) kept));
        fresh = subst (λ c. Fresh notes new.ends new.level c) (sym moves.calls)
            (subst (λ l. Fresh notes new.ends l st.calls) (sym level)
            (fresh_less notes now.ends new.ends now.level st.calls (λ e. sym moves.ends
            ∙ moves.leads.ends e) runs.stands.fresh));
        room = let less = moves.leads.room in let more = moves.room spare runs.stands.room in omega arith;
        awake = λ is. moves.awake (moves.leads.awake is) runs.stands.awake;
      };
      outside = moves.amid ∙ runs.outside;
      homeless = moves.home ∙ runs.homeless;
      blank = λ is. moves.leads.blank (moves.blank.1 ∙ runs.blank (sym moves.blank.0 ∙ is));
    }

pub handles_on : (notes : Notes) (st after : State) (h : Handles notes st) → Moves notes h.now st after
    → Handles notes after
handles_on notes st after h moves =
    let now = h.now in
    let new = moves.leads.new in
    let level : new.level ≡ now.level = moves.leads.level ∙ moves.level in
    let depth : after.s + new.depth ≡ st.s + now.depth = ap (λ d. after.s + d) moves.leads.depth ∙ moves.top in
    let out : now.level ≡ Main → ⊥ = λ main. is_nmi (sym h.level ∙ main) in
    let old = h.stands in
    let place = h.place in
    let near = h.near in
    let high = low notes st.awake st.mem old.now.level (h.s + old.now.depth) st.calls old.below in
    let kept = keeps notes st.awake after.awake st.mem after.mem old.now.level (h.s + old.now.depth) st.calls
    (moves.others out) (λ k above most. moves.kept k (omega arith) most) old.below in
    let saves = moves.saves h.came h.holds h.saved in
    let two = moves.kept (st.s + now.depth + 2) (omega arith) (omega arith) in
    let three = moves.kept (st.s + now.depth + 3) (omega arith) (omega arith) in
    let one = moves.kept (st.s + now.depth + 1) (omega arith) (omega arith) in
    record {
      now = new;
      is = moves.leads.is;
      level = level ∙ h.level;
      came = h.came;
      amid = moves.amid ∙ h.amid;
      place = place ∙ ap (λ t. t + 3) (sym depth);
      word = subst (λ t. after.mem (stack_place (t + 2)) + 256 * after.mem (stack_place (t + 3)) ≡ h.came.pc)
          (sym depth)
          (ap (λ b. b + 256 * after.mem (stack_place (st.s + now.depth + 3))) two
          ∙ ap (λ b. st.mem (stack_place (st.s + now.depth + 2)) + 256 * b) three ∙ h.word);
      flags = ap (λ t. after.mem (stack_place (t + 1))) depth ∙ one ∙ h.flags;
      pc = h.pc;
      s = h.s;
      home = by h.home;
      near = near;
      stands = record {
        now = old.now;
        is = old.is;
        below = subst (λ c. Below notes after.awake after.mem old.now.level (h.s + old.now.depth) c)
            (sym moves.calls) kept;
        fresh = subst (λ c. Fresh notes old.now.ends old.now.level c) (sym moves.calls) old.fresh;
        room = old.room;
        awake = λ is. moves.others out (old.awake is);
      };
      blank = λ is. h.blank (sym moves.blank.0 ∙ is);
      holds = holds_less new.held moves.then.held h.came after moves.leads.held saves.0;
      saved = saved_less new.slots moves.then.slots h.came after.mem after.s moves.leads.slots saves.1;
      room = let less = moves.leads.room in let more = moves.room 0 (let r = h.room in omega arith) in omega arith;
      time = let t = h.time in let s = moves.since in let f = moves.fuel in
          let less = moves.leads.fuel (moves.level ∙ h.level) in omega arith;
      awake = λ is. moves.awake (moves.leads.awake is) h.awake;
    }
  where
    by : (((st.home ≡ None) × (h.came.pc ≡ h.pc) × (h.came.s ≡ h.s)) ⊎ (st.home ≡ Some (h.pc, h.s)))
        → ((after.home ≡ None) × (h.came.pc ≡ h.pc) × (h.came.s ≡ h.s)) ⊎ (after.home ≡ Some (h.pc, h.s))
    by (inl is) = inl (moves.home ∙ is.0, is.1, is.2)
    by (inr is) = inr (moves.home ∙ is)
