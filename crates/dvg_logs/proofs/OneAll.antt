-- Of the text of a log one list of torn runs is told at most, and one verdict after them.
use Rattle.std.proofs.Common.{◌≡◌, ◌∙◌, ℕ, List, [], ◌∷◌, length, refl, sym, ap, subst, inl, inr, Option, Some, None}
use Rattle.dvg_log.specs.Entries.{Shown}
use Rattle.dvg_log.specs.Events.{Happening}
use Rattle.dvg_log.specs.Log.{◌⟼◌, Line, Log, Throughout}
use Rattle.dvg_read.specs.Texts.{lines}
use Rattle.dvg_print.specs.declared.moment_verdict.MomentVerdict.{MomentVerdict}
use Rattle.dvg_logs.specs.AllTears.{AreTears, EndsAll, IsTear, of_all}
use Rattle.dvg_logs.specs.LogLaws.{OneAllVerdict}
use Rattle.dvg_logs.specs.LogLines.{IsLineOf, IsLogOf}
use Rattle.dvg_logs.specs.LogTexts.{IsFoundAt}
use Rattle.dvg_logs.specs.MomentLogs.{AreDecided, Decides}
use Rattle.dvg_logs.proofs.OneMoment.{decides_once, ends_once, unsound}
use Rattle.dvg_logs.proofs.OneVerdict.{Of, StopsAt, log_once, never_stops, one_stop, same_fronts, same_lines, tells_once}

-- by a line no more is said than that a run is torn
abbrev Calm : Log → Happening → Shown → Type 0
Calm log event entry = (one : MomentVerdict) → Decides one (event ⟼ entry) log → IsTear one

-- so it is throughout a log of which only torn runs are said
calm : (tears : List MomentVerdict) (log : Log) → AreTears tears → AreDecided tears log → Throughout Calm log
calm [] [] are decided = tt
calm (tear ∷ tears) [] are decided = absurd decided
calm [] ((event ⟼ entry) ∷ log) are (sound, decided) = ((λ one decides. absurd (unsound one (event ⟼ entry) log decides sound)), calm [] log are decided)
calm (tear ∷ tears) ((event ⟼ entry) ∷ log) are (inl (sound, decided)) = ((λ one decides. absurd (unsound one (event ⟼ entry) log decides sound)), calm (tear ∷ tears) log are decided)
calm (tear ∷ tears) ((event ⟼ entry) ∷ log) are (inr (here, decided)) =
    ((λ one decides. subst IsTear (sym (decides_once tear one (event ⟼ entry) log here decides)) are.0), calm tears log are.1 decided)

-- one list is said of a log
decided_once : (one other : List MomentVerdict) (log : Log) → AreDecided one log → AreDecided other log → other ≡ one
decided_once [] [] log a b = refl
decided_once [] (v ∷ vs) [] a b = absurd b
decided_once [] (v ∷ vs) ((event ⟼ entry) ∷ log) (sound, a) (inl (same, b)) = decided_once [] (v ∷ vs) log a b
decided_once [] (v ∷ vs) ((event ⟼ entry) ∷ log) (sound, a) (inr (decides, b)) = absurd (unsound v (event ⟼ entry) log decides sound)
decided_once (u ∷ us) [] [] a b = absurd a
decided_once (u ∷ us) [] ((event ⟼ entry) ∷ log) (inl (same, a)) (sound, b) = decided_once (u ∷ us) [] log a b
decided_once (u ∷ us) [] ((event ⟼ entry) ∷ log) (inr (decides, a)) (sound, b) = absurd (unsound u (event ⟼ entry) log decides sound)
decided_once (u ∷ us) (v ∷ vs) [] a b = absurd a
decided_once (u ∷ us) (v ∷ vs) ((event ⟼ entry) ∷ log) (inl (sound, a)) (inl (same, b)) = decided_once (u ∷ us) (v ∷ vs) log a b
decided_once (u ∷ us) (v ∷ vs) ((event ⟼ entry) ∷ log) (inl (sound, a)) (inr (decides, b)) = absurd (unsound v (event ⟼ entry) log decides sound)
decided_once (u ∷ us) (v ∷ vs) ((event ⟼ entry) ∷ log) (inr (decides, a)) (inl (sound, b)) = absurd (unsound u (event ⟼ entry) log decides sound)
decided_once (u ∷ us) (v ∷ vs) ((event ⟼ entry) ∷ log) (inr (one, a)) (inr (other, b)) =
    let first = decides_once u v (event ⟼ entry) log one other in
    let rest = decided_once us vs log a b in rw (first, rest) refl

-- a line that contradicts stops a text
last_stops : {base : Option ℕ} {texts : List (List ℕ)} {n : ℕ} {verdict : MomentVerdict} (tears : List MomentVerdict) → AreTears tears → (¬ IsTear verdict) → (found : IsFoundAt base (AreDecided tears) Decides texts n verdict) → StopsAt base Calm texts (length found.before)
last_stops {base = base} {verdict = verdict} tears are last found = record {
  before = found.before;
  line = found.text;
  after = found.after;
  cut = found.cut;
  at = refl;
  log = found.log;
  fine = record { tells = found.fine.tells; holds = calm tears found.log are found.fine.holds };
  stops = λ logged tells. wild logged found.log (subst (λ line. Decides verdict line found.log) (tells_once found.line logged found.text found.tells tells) found.finds);
}
  where
    wild : (line : Line) (log : Log) → Decides verdict line log → ¬ Of Calm log line
    wild (event ⟼ entry) log decides calm = last (calm verdict decides)

found_once : (base : Option ℕ) (texts : List (List ℕ)) (n m : ℕ) (tears runs : List MomentVerdict) (one other : MomentVerdict) → AreTears tears → AreTears runs → (¬ IsTear one) → (¬ IsTear other)
    → IsFoundAt base (AreDecided tears) Decides texts n one → IsFoundAt base (AreDecided runs) Decides texts m other → (runs ≡ tears) × (other ≡ one)
found_once base texts n m tears runs one other are too last end a b =
    let at = one_stop Calm (last_stops runs too end b) (last_stops tears are last a) in
    let line = same_lines b.before a.before b.text a.text b.after a.after b.cut a.cut at in
    let before = same_fronts b.before a.before b.text a.text b.after a.after b.cut a.cut at in
    let log = log_once _ b.log a.log a.before (subst (IsLogOf base b.log) before b.fine.tells) a.fine.tells in
    let said = tells_once b.line a.line a.text (subst (IsLineOf base b.line) line b.tells) a.tells in (
      decided_once tears runs a.log a.fine.holds (subst (AreDecided runs) log b.fine.holds),
      decides_once one other a.line a.log a.finds (subst (λ line. Decides other line a.log) said (subst (Decides other b.line) log b.finds)),
    )

whole_once : (tears runs : List MomentVerdict) (one other : MomentVerdict) (log : Log) → AreDecided tears log → AreDecided runs log → EndsAll (length tears) one log → EndsAll (length runs) other log → (runs ≡ tears) × (other ≡ one)
whole_once tears runs one other log a b (u, ends, is) (v, also, same) =
    let lists = decided_once tears runs log a b in
    let said = ends_once u v log ends also in
    (lists, same ∙ ap (λ n. of_all n v) (ap length lists) ∙ ap (of_all (length tears)) said ∙ sym is)

pub one_all_verdict : OneAllVerdict
one_all_verdict base text tears runs one other None None (are, last, (log, whole, says)) (too, end, (same, also, ends)) =
    let is = log_once _ same log (lines text) also.fine.tells whole.fine.tells in
    whole_once tears runs one other log whole.fine.holds (subst (AreDecided runs) is also.fine.holds) says (subst (EndsAll (length runs) other) is ends)
one_all_verdict base text tears runs one other None (Some m) (are, last, (log, whole, says)) (too, end, found) =
    absurd (never_stops Calm log (record { tells = whole.fine.tells; holds = calm tears log are whole.fine.holds }) (last_stops runs too end found))
one_all_verdict base text tears runs one other (Some n) None (are, last, found) (too, end, (log, whole, says)) =
    absurd (never_stops Calm log (record { tells = whole.fine.tells; holds = calm runs log too whole.fine.holds }) (last_stops tears are last found))
one_all_verdict base text tears runs one other (Some n) (Some m) (are, last, a) (too, end, b) = found_once base (lines text) n m tears runs one other are too last end a b
