use Rattle.std.proofs.Common.{◌++◌, ◌∷◌, [], ◌∙◌, take, ap, sym, subst, refl, append_assoc, append-nil, arith}
use Rattle.dvg_read.specs.Texts.{lines}
use Rattle.dvg_read.proofs.FirstBytes.{IsCutAt, behind, cut_at_first}
use Rattle.dvg_logs.specs.LogReading.{HasRead, IsRead, StopsAt}
use Rattle.dvg_logs.proofs.NumberLines.{lines_off, lines_read}
use Rattle.dvg_logs.proofs.LogReads.{at_line, behind_front, cut_line, line_off, no_line}
use Rattle.dvg_logs.proofs.ReadsOn.{on_weaker, piece_on}
use Rattle.dvg_logs.proofs.log_reading.LogReading.take_piece.Goals as goal

pub loop-end-init : goal.loop-end-init
loop-end-init g c = record {
  done = record {
    front = [];
    split = refl;
    read = λ base said text read. subst (HasRead base g.J.LineJudge.Stands (g.J.LineJudge.Passes said) c.args.self.now) (sym (append-nil text)) read;
  };
  count = omega arith;
  farther = (omega arith, λ fewer. absurd (omega arith));
}

pub returns-in-Err-clause-stop : goal.returns-in-Err-clause-stop
returns-in-Err-clause-stop g c = λ base said text more read.
    let done = c.loop-end.invariant.done in
    let front = done.front in
    let split = done.split in
    let rest = c.loop-end.rest.now in
    let end = c.in-Some.end in
    let cut : IsCutAt 10 rest c.memchr.result = cut_at_first 10 rest _ c.memchr.ensures in
    let line = cut_line rest end (rw c.in-Some.is at cut) in
    let is = behind_front text front rest more c.args.piece.now split ∙ ap (λ l. (text ++ front) ++ l) (at_line (take end rest) (behind end rest) more rest line) in
    subst (λ l. StopsAt base (g.J.LineJudge.Passes said) g.J.LineJudge.Finds c.in-Err.stop (lines l)) (sym is) (c.in-Err.ensures.stop base said (text ++ front) (behind end rest ++ more) (done.read base said text read))

pub returns-in-Err-clause-on : goal.returns-in-Err-clause-on
returns-in-Err-clause-on g c =
    let done = c.loop-end.invariant.done in
    let front = done.front in
    let split = done.split in
    let rest = c.loop-end.rest.now in
    let end = c.in-Some.end in
    let cut : IsCutAt 10 rest c.memchr.result = cut_at_first 10 rest _ c.memchr.ensures in
    let line = cut_line rest end (rw c.in-Some.is at cut) in
    on_weaker c.in-Err.stop (λ one on. piece_on c.args.self.now c.end_line.new.self [] one c.loop-end.self front (take end rest ++ 10 ∷ []) rest (behind end rest) c.args.piece.now split (line ∙ sym (append_assoc (take end rest) (10 ∷ []) (behind end rest))) done.read c.loop-end.invariant.count c.loop-end.invariant.farther.0 on)
    c.in-Err.ensures.on

pub loop-end-preserved : goal.loop-end-preserved
loop-end-preserved g c =
    let done = c.loop-end.invariant.done in
    let front = done.front in
    let split = done.split in
    let rest = c.loop-end.rest.now in
    let end = c.in-Some.end in
    let cut : IsCutAt 10 rest c.memchr.result = cut_at_first 10 rest _ c.memchr.ensures in
    let line = cut_line rest end (rw c.in-Some.is at cut) in
    let (no_less, more) = c.loop-end.invariant.farther in
    let on = c.in-Ok.ensures.farther in
    let numbers = c.take_usual_lines-rest.ensures in
    let so_long = front ++ (take end rest ++ 10 ∷ []) in
    record {
      done = record {
        front = so_long ++ numbers.front;
        split = lines_off so_long c.args.piece.now numbers (line_off front (take end rest) (behind end rest) rest c.args.piece.now split line);
        read = λ base said text read.
            let ended = subst (HasRead base g.J.LineJudge.Stands (g.J.LineJudge.Passes said) c.end_line.new.self) (append_assoc text front (take end rest ++ 10 ∷ [])) (c.in-Ok.ensures.read base said (text ++ front) (done.read base said text read)) in
            subst (IsRead base g.J.LineJudge.Stands (g.J.LineJudge.Passes said) c.take_usual_lines-rest.new.self c.end_line.new.self.unfinished.items) (append_assoc text so_long numbers.front) (lines_read numbers base said c.in-Ok.ensures.ended ended);
      };
      count = omega (arith, c.in-Ok.ensures.count, numbers.farther);
      farther = (omega (arith, no_less, on, numbers.farther), λ fewer. omega (arith, no_less, on, numbers.farther));
    }

pub begin_line-requires : goal.begin_line-requires
begin_line-requires g c = no_line c.loop-end.rest.now c.memchr.result (cut_at_first 10 c.loop-end.rest.now _ c.memchr.ensures) c.in_default.not-Some

pub returns-in-Ok-begin_line-clause-read : goal.returns-in-Ok-begin_line-clause-read
returns-in-Ok-begin_line-clause-read g c = λ base said text read.
    let done = c.loop-end.invariant.done in
    let front = done.front in
    let split = done.split in
    let rest = c.loop-end.rest.now in
    let is = append_assoc text front rest ∙ ap (λ l. text ++ l) (sym split) in
    subst (HasRead base g.J.LineJudge.Stands (g.J.LineJudge.Passes said) c.begin_line.new.self) is (c.in-Ok-begin_line.ensures.read base said (text ++ front) (done.read base said text read))

pub returns-in-Err-begin_line-clause-stop : goal.returns-in-Err-begin_line-clause-stop
returns-in-Err-begin_line-clause-stop g c = λ base said text more read.
    let done = c.loop-end.invariant.done in
    let front = done.front in
    let split = done.split in
    let rest = c.loop-end.rest.now in
    subst (λ l. StopsAt base (g.J.LineJudge.Passes said) g.J.LineJudge.Finds c.in-Err-begin_line.stop (lines l)) (sym (behind_front text front rest more c.args.piece.now split)) (c.in-Err-begin_line.ensures.stop base said (text ++ front) more (done.read base said text read))

pub returns-in-Err-begin_line-clause-on : goal.returns-in-Err-begin_line-clause-on
returns-in-Err-begin_line-clause-on g c = on_weaker c.in-Err-begin_line.stop (λ one none. absurd none) c.in-Err-begin_line.ensures.on
