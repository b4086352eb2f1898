use Rattle.std.proofs.Common.{[], ◌∷◌, ◌++◌, ◌∙◌, sym, subst}
use Rattle.std.proofs.lemmas.Result.{on_ok_weaker}
use Rattle.dvg_logs.specs.LogReading.{HasJudged, StopsAt}
use Rattle.dvg_logs.proofs.LogReads.{all_ended, if_err_weaker, last_ended, none_left, some_left}
use Rattle.dvg_logs.proofs.ReadsOn.{on_weaker}
use Rattle.dvg_logs.proofs.log_reading.LogReading.finish.Goals as goal

pub returns-then-is_empty-clause-read : goal.returns-then-is_empty-clause-read
returns-then-is_empty-clause-read g c = λ base said text read.
    let none = none_left c.args.self.now.unfinished.items (sym c.is_empty.ensures ∙ c.if-is_empty.true) in
    subst (HasJudged base g.J.LineJudge.Stands (g.J.LineJudge.Passes said) c.args.self.now.judged) (sym (all_ended read none)) read.fine

pub returns-clause-read : goal.returns-clause-read
returns-clause-read g c = λ base said text read.
    let some = some_left c.args.self.now.unfinished.items (sym c.is_empty.ensures ∙ c.if-is_empty.false) in
    on_ok_weaker c.take.result (λ fine. subst (HasJudged base g.J.LineJudge.Stands (g.J.LineJudge.Passes said) c.take.new.self) (sym (last_ended read some))
    (subst (λ line. HasJudged base g.J.LineJudge.Stands (g.J.LineJudge.Passes said) c.take.new.self (read.texts ++ line ∷ [])) c.as_slice.ensures.value fine))
    (c.take.ensures.taken base said read.texts read.fine)

pub returns-clause-stop : goal.returns-clause-stop
returns-clause-stop g c =
    let some = some_left c.args.self.now.unfinished.items (sym c.is_empty.ensures ∙ c.if-is_empty.false) in
    if_err_weaker c.take.result (λ stop stops base said text read.
    subst (StopsAt base (g.J.LineJudge.Passes said) g.J.LineJudge.Finds stop) (sym (last_ended read some))
    (subst (λ line. StopsAt base (g.J.LineJudge.Passes said) g.J.LineJudge.Finds stop (read.texts ++ line ∷ [])) c.as_slice.ensures.value (stops base said read.texts [] read.fine)))
    c.take.ensures.stop

pub returns-clause-on : goal.returns-clause-on
returns-clause-on g c =
    let some = some_left c.args.self.now.unfinished.items (sym c.is_empty.ensures ∙ c.if-is_empty.false) in
    if_err_weaker c.take.result (λ stop on. on_weaker stop (λ one judges base said text read.
    subst (HasJudged base g.J.LineJudge.Stands (g.J.LineJudge.Passes (one ∷ said)) c.take.new.self) (sym (last_ended read some))
    (subst (λ line. HasJudged base g.J.LineJudge.Stands (g.J.LineJudge.Passes (one ∷ said)) c.take.new.self (read.texts ++ line ∷ [])) c.as_slice.ensures.value (judges.judged base said read.texts read.fine))) on)
    c.take.ensures.on
