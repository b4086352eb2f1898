-- A log of its accesses bears the calls of a play; so they are those of a session.
use Rattle.std.proofs.Common.{◌≡◌, ◌⊎◌, inl, inr, ℕ, true, List, [], ◌∷◌, ◌++◌, refl, sym, ap, ◌∙◌, arith}
use Rattle.dvg_calls_6502.specs.Processor.{Cpu, Access, at_return}
use Rattle.dvg_calls_6502.specs.Amid.{is_code}
use Rattle.dvg_calls_6502.specs.Board.{seen}
use Rattle.dvg_calls_6502.specs.Calls.{Routine, Call, IsSessionBy}
use Rattle.dvg_calls_6502.specs.Programs.{CallBrings}
use Rattle.dvg_game_6502.specs.Play.{IsPlay, begins, does, nmi, turns, done}
use Rattle.dvg_game_6502.specs.Open.{IsIn, IsOpen}
use Rattle.dvg_game_6502.specs.Games.{AreOfCalls, GamesCall, VectorsCall, accesses_of}
use Rattle.dvg_game_6502.proofs.Bearers.{Bearer, Ended}
use Rattle.dvg_game_6502.proofs.BegunFrames.{labs_begins}
use Rattle.dvg_game_6502.proofs.GameSteps.{game_begins}
use Rattle.dvg_game_6502.proofs.SeenOfLogs.{seen_both}
use Rattle.dvg_game_6502.proofs.OpenCall.{driver_begins, driver_ends, driver_steps, has_come, nmi_passes, refreshed}
use Rattle.dvg_game_6502.proofs.Outside.{stage_turns}
use Rattle.dvg_game_6502.proofs.Plays.{Brought, by_bytes, by_content, stage_does, stage_nmi}
use Rattle.dvg_game_6502.proofs.Stages.{InDriver, InGame, IsAccepted, Stage}

-- these are the accesses of these calls
abbrev pub AreLogged : List ℕ → List Call → List Access → Type 0
AreLogged R calls log = (accesses_of calls ≡ log) × ((calls ≡ []) ⊎ IsSessionBy (CallBrings R) calls)

-- the call ends at its RTS
pub returns : (R : List ℕ) (routine : Routine) (s : ℕ) (calls : List Call) (cpu : Cpu) (mine log : List Access)
    → is_code cpu.pc ≡ true → at_return s cpu ≡ true → IsOpen R routine s calls cpu mine
    → seen mine ++ accesses_of calls ≡ log
    → (is : IsIn R routine s calls cpu mine (λ n. 0)) × (end : Ended R calls is.call) × AreLogged R
    (end.last ∷ calls) log
returns R routine s calls cpu mine log code there call same = let is = call (λ n. 0) in (
  is,
  record {
    last = is.call;
    routine_is = refl;
    from_is = refl;
    session = is.session;
    over = driver_ends R routine s calls cpu mine (λ n. 0) is code there;
    kept = λ b guarded. refl;
    taken = λ labs_is rest none. labs_begins R is.call calls rest is.session labs_is none
        (has_come R routine s calls cpu mine (λ n. 0) is code there);
  },
  (ap (λ (k : Cpu). seen k.log ++ accesses_of calls) is.after ∙ same, inr is.session),
)

abbrev pub on_log : (R : List ℕ) → Bearer R
on_log R = record {
  World = List Access;
  Makes = λ now log more. more ≡ now ++ log;
  Between = λ calls mem log. AreLogged R calls log;
  Amid = λ routine s calls cpu mine log. IsOpen R routine s calls cpu mine × (seen mine ++ accesses_of calls ≡ log);
  nothing = λ log more same. sym same;
  is_open = λ routine s calls cpu mine log amid. amid.0;
  keeps = λ calls mem now log same between. between;
  aside = λ calls cpu st flags log bytes safe between. between;
  begins = λ routine cpu calls log rested enters tells checked tables offered between.
      (driver_begins R routine cpu calls rested enters tells tables offered, between.0);
  steps = λ routine s calls cpu mine log more flags bytes code not_there makes amid. (
    driver_steps R routine s calls cpu mine flags amid.0 not_there,
    seen_both (done flags cpu).log mine (accesses_of calls) ∙ ap (λ l. seen (done flags cpu).log ++ l) amid.1
        ∙ sym makes,
  );
  passes = λ routine s calls cpu mine log m spares amid. (
    nmi_passes R routine s calls cpu mine m amid.0 spares,
    amid.1,
  );
  refreshes = λ routine s calls cpu mine log flags amid. ((λ future. refreshed (amid.0 future) flags), amid.1);
  returns = λ routine s calls cpu mine log code there amid.
      returns R routine s calls cpu mine log code there amid.0 amid.1;
}

module _ (R : List ℕ) (rom : ℕ → ℕ) (start : ℕ) (game : IsAccepted rom start)
    (brought : Brought R (on_log R) rom start) where
  stage : {cpu : Cpu} {since : ℕ} {log : List Access} → IsPlay rom start cpu since log
      → Stage R (on_log R) rom start cpu since log
  stage (begins cpu since is) = inl (game_begins R (on_log R) rom start cpu since [] [] (refl, inl refl)
      (λ b low high. absurd (omega (arith, high))) is)
  stage (does flags play go small) = stage_does R (on_log R) game brought _ _ flags play go small refl (stage play)
  stage (nmi play late) = stage_nmi R (on_log R) game _ late (stage play)
  stage (turns {cpu} {since} {log} mem play small same) =
      stage_turns R (on_log R) rom start cpu since log mem small same (stage play)

  of_driver : {cpu : Cpu} {log : List Access} → InDriver R (on_log R) rom start cpu log → AreOfCalls R log
  of_driver d = let is = d.doing.0 (λ n. 0) in
      inr (is.call ∷ d.calls, is.session, ap (λ (k : Cpu). seen k.log ++ accesses_of d.calls) is.after ∙ d.doing.1)

  of_game : {cpu : Cpu} {since : ℕ} {log : List Access} → InGame R (on_log R) rom start cpu since log → AreOfCalls R log
  of_game {cpu} {since} {log} g = by g.between.1
    where
      by : (g.calls ≡ []) ⊎ IsSessionBy (CallBrings R) g.calls → AreOfCalls R log
      by (inl none) = inl (sym g.between.0 ∙ ap accesses_of none)
      by (inr session) = inr (g.calls, session, g.between.0)

  of_stage : {cpu : Cpu} {since : ℕ} {log : List Access} → Stage R (on_log R) rom start cpu since log → AreOfCalls R log
  of_stage (inl g) = of_game g
  of_stage (inr (inl d)) = of_driver d
  of_stage (inr (inr n)) = of_driver n.driver

pub games_call : GamesCall
games_call R rom start notes accepted content cpu since log play =
    let game : IsAccepted rom start = record { notes = notes; yes = accepted } in
    let brought = by_content R (on_log R) game content in
    of_stage R rom start game brought (stage R rom start game brought play)

pub vectors_call : VectorsCall
vectors_call R rom start notes accepted offers puts pairs cpu since log play =
    let game : IsAccepted rom start = record { notes = notes; yes = accepted } in
    let brought = by_bytes R (on_log R) game offers puts pairs in
    of_stage R rom start game brought (stage R rom start game brought play)
