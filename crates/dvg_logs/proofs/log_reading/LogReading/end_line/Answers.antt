use Rattle.std.proofs.Common.{◌≡◌, ◌≤◌, [], ◌∷◌, ◌++◌, ◌∙◌, ap, arith, length, length-append, sym, subst}
use Rattle.std.proofs.lemmas.Result.{on_ok_weaker}
use Rattle.dvg_logs.specs.LogReading.{HasJudged, IsRead, JudgesOn, StopsAt}
use Rattle.dvg_logs.proofs.LogReads.{first_read, first_stops, if_err_weaker, line_read, line_stops, none_left}
use Rattle.dvg_logs.proofs.ReadsOn.{first_on, line_on, on_weaker}
use Rattle.dvg_logs.proofs.log_reading.LogReading.end_line.Goals as goal

pub returns-then-is_empty-clause-read : goal.returns-then-is_empty-clause-read
returns-then-is_empty-clause-read g c = λ base said text read.
    let none = none_left c.args.self.now.unfinished.items (sym c.is_empty.ensures ∙ c.if-is_empty.true) in
    on_ok_weaker c.take.result (λ fine. first_read c.args.bytes.now read c.requires none c.take.new.self fine) (c.take.ensures.taken base said read.texts read.fine)

pub returns-then-is_empty-clause-stop : goal.returns-then-is_empty-clause-stop
returns-then-is_empty-clause-stop g c =
    let none = none_left c.args.self.now.unfinished.items (sym c.is_empty.ensures ∙ c.if-is_empty.true) in
    if_err_weaker c.take.result (λ stop stops base said text more read. first_stops c.args.bytes.now read c.requires none (StopsAt base (g.J.LineJudge.Passes said) g.J.LineJudge.Finds stop) (λ after. stops base said read.texts after read.fine) more) c.take.ensures.stop

pub returns-then-is_empty-clause-on : goal.returns-then-is_empty-clause-on
returns-then-is_empty-clause-on g c =
    let none = none_left c.args.self.now.unfinished.items (sym c.is_empty.ensures ∙ c.if-is_empty.true) in
    if_err_weaker c.take.result (λ stop on. on_weaker stop (λ one judges. first_on c.args.self.now _ c.args.bytes.now one none none c.requires judges) on) c.take.ensures.on

pub returns-in-Err-clause-on : goal.returns-in-Err-clause-on
returns-in-Err-clause-on g c = on_weaker c.in-Err.stop (λ one none. absurd none) c.in-Err.ensures.on

pub returns-clause-read : goal.returns-clause-read
returns-clause-read g c = λ base said text read.
    let bytes = c.args.bytes.now in
    let line_is : c.as_slice.result.now ≡ c.args.self.now.unfinished.items ++ c.args.bytes.now = c.as_slice.ensures.value ∙ c.in-Ok.ensures.bytes in
    let before = subst (λ judged. HasJudged base g.J.LineJudge.Stands (g.J.LineJudge.Passes said) judged read.texts) (sym c.in-Ok.ensures.judged) read.fine in
    on_ok_weaker c.take-taken.result (λ fine. subst (λ items. IsRead base g.J.LineJudge.Stands (g.J.LineJudge.Passes said) c.take-taken.new.self items (text ++ (bytes ++ 10 ∷ []))) (sym c.clear.ensures)
    (line_read bytes read c.requires c.take-taken.new.self (subst (λ line. HasJudged base g.J.LineJudge.Stands (g.J.LineJudge.Passes said) c.take-taken.new.self (read.texts ++ line ∷ [])) line_is fine)))
    (c.take-taken.ensures.taken base said read.texts before)

pub returns-clause-stop : goal.returns-clause-stop
returns-clause-stop g c =
    let line_is : c.as_slice.result.now ≡ c.args.self.now.unfinished.items ++ c.args.bytes.now = c.as_slice.ensures.value ∙ c.in-Ok.ensures.bytes in
    if_err_weaker c.take-taken.result (λ stop stops base said text more read.
    let before = subst (λ judged. HasJudged base g.J.LineJudge.Stands (g.J.LineJudge.Passes said) judged read.texts) (sym c.in-Ok.ensures.judged) read.fine in
    line_stops c.args.bytes.now read c.requires (StopsAt base (g.J.LineJudge.Passes said) g.J.LineJudge.Finds stop) (λ after. subst (λ line. StopsAt base (g.J.LineJudge.Passes said) g.J.LineJudge.Finds stop (read.texts ++ line ∷ after)) line_is (stops base said read.texts after before)) more)
    c.take-taken.ensures.stop

pub returns-clause-on : goal.returns-clause-on
returns-clause-on g c =
    let line_is : c.as_slice.result.now ≡ c.args.self.now.unfinished.items ++ c.args.bytes.now = c.as_slice.ensures.value ∙ c.in-Ok.ensures.bytes in
    let few : length c.args.self.now.unfinished.items ≤ 64 = omega (arith, c.in-Ok.ensures.fits, ap length c.in-Ok.ensures.bytes, length-append c.args.self.now.unfinished.items c.args.bytes.now) in
    if_err_weaker c.take-taken.result (λ stop on. on_weaker stop (λ one judges.
    line_on c.args.self.now _ c.args.bytes.now one c.requires c.clear.ensures few
    (subst (λ line. JudgesOn g.J.LineJudge.Stands g.J.LineJudge.Passes c.args.self.now.judged c.take-taken.new.self line one) line_is
    (subst (λ old. JudgesOn g.J.LineJudge.Stands g.J.LineJudge.Passes old c.take-taken.new.self c.as_slice.result.now one) c.in-Ok.ensures.judged judges))) on)
    c.take-taken.ensures.on
