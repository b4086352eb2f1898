use Rattle.std.proofs.Common.{◌<◌, ◌++◌, length, arith, length-append, false, refl, sym, subst}
use Rattle.dvg_logs.specs.LogReading.{IsRead, StopsAt}
use Rattle.dvg_logs.proofs.LogReads.{bytes_read, over, overlong_stops}
use Rattle.dvg_logs.proofs.log_reading.LogReading.begin_line.Goals as goal

pub returns-in-Ok-clause-read : goal.returns-in-Ok-clause-read
returns-in-Ok-clause-read g c = λ base said text read.
    let size = length-append c.args.self.now.unfinished.items c.args.bytes.now in
    let most = c.in-Ok.ensures.variant.0 refl in
    subst (λ items. IsRead base g.J.LineJudge.Stands (g.J.LineJudge.Passes said) c.args.self.now.judged items (text ++ c.args.bytes.now)) (sym c.in-Ok.ensures.ok) (bytes_read c.args.bytes.now read c.requires (omega arith))

pub returns-in-Err-clause-stop : goal.returns-in-Err-clause-stop
returns-in-Err-clause-stop g c = λ base said text more read.
    let size = length-append c.args.self.now.unfinished.items c.args.bytes.now in
    let more_than_fits : 64 < length (c.args.self.now.unfinished.items ++ c.args.bytes.now) =
    over (length (c.args.self.now.unfinished.items ++ c.args.bytes.now)) 64 false refl (λ few. c.in-Err.ensures.variant.1 (omega arith)) in
    overlong_stops c.args.bytes.now read c.requires (StopsAt base (g.J.LineJudge.Passes said) g.J.LineJudge.Finds c.wrong.result) more_than_fits (λ line after wrong. c.wrong.ensures.stop base said read.texts line after read.fine wrong) more
