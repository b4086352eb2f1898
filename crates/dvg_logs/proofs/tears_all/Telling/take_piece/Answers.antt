use Rattle.std.proofs.Common.{◌++◌, ◌∷◌, [], ◌∙◌, ap, arith, append_assoc, append-nil, length, length-append, refl, rules, subst, sym, IsNone}
use Rattle.dvg_read.specs.Texts.{lines}
use Rattle.dvg_io.specs.Watching.{stream_of}
use Rattle.dvg_logs.specs.LogReading.{HasRead, StopsAt, place_of}
use Rattle.dvg_logs.specs.declared.log_reading.LogReading.{LogReading}
use Rattle.dvg_logs.specs.declared.moment_lines.MomentLines.{MomentLines}
use Rattle.dvg_logs.specs.MomentLines.{StandsSo}
use Rattle.dvg_logs.specs.MomentLogs.{AreDecided, Decides}
use Rattle.dvg_logs.specs.Telling.{HasTold}
use Rattle.dvg_logs.proofs.LogReads.{behind_front}
use Rattle.dvg_logs.proofs.Tellings.{count_fits, tear_of, told_as, told_more}
use Rattle.dvg_logs.proofs.tears_all.Telling.take_piece.Goals as goal

pub loop-rest-init : goal.loop-rest-init
loop-rest-init g c = record {
  done = record {
    front = [];
    split = refl;
    told = λ base first text told. subst (HasTold base first _ c.args.self.now) (sym (append-nil text)) told;
  };
  count = omega arith;
  farther = (omega arith, λ fewer. absurd (omega arith));
  counted = refl;
}

pub returns-in-Ok-clause-told : goal.returns-in-Ok-clause-told
returns-in-Ok-clause-told g c = λ none base old text told.
    let done = c.loop-rest.invariant.done in
    let now = done.told base old text told in
    let is = append_assoc text done.front c.loop-rest.rest.now ∙ ap (λ l. text ++ l) (sym done.split) in
    told_as _ _ _ now (subst (HasRead base StandsSo (AreDecided now.tears) c.take_piece.new.self) is (c.in-Ok.ensures.read base now.tears (text ++ done.front) now.holds))

pub returns-in-Some-clause-ends : goal.returns-in-Some-clause-ends
returns-in-Some-clause-ends g c = λ base old text more told.
    let done = c.loop-rest.invariant.done in
    let now = done.told base old text told in
    record {
      tears = now.tears;
      are = now.are;
      stop = c.in-Err.stopped.stop;
      stops = subst (λ l. StopsAt base (AreDecided now.tears) Decides c.in-Err.stopped.stop (lines l)) (sym (behind_front text done.front c.loop-rest.rest.now more c.args.piece.now done.split)) (c.in-Err.ensures.stop base now.tears (text ++ done.front) more now.holds);
      later = omega (arith, c.loop-rest.invariant.count, c.in-Err.ensures.later);
      now = g.W.Write.contents (stream_of c.loop-rest.writer);
      wrote = now.wrote;
      last = c.in-Some.ensures.last;
    }

pub loop-rest-preserved : goal.loop-rest-preserved
loop-rest-preserved g c =
    let done = c.loop-rest.invariant.done in
    let none : IsNone c.tell.result = search rules in
    let tear = tear_of c.in-Err.stopped.stop _ _ (c.tell.ensures.tear none) c.in-Err.ensures.on in
    let on = tear.holds in
    let same = c.tell.ensures.reading in
    let count = ap (λ (reading : LogReading MomentLines). reading.judged.count) same in
    let place = ap (λ (reading : LogReading MomentLines). place_of reading) same in
    record {
      done = record {
        front = done.front ++ on.front;
        split = done.split ∙ ap (λ l. done.front ++ l) on.split ∙ sym (append_assoc done.front on.front _);
        told = λ base first text told.
            let now = done.told base first text told in
            let read = subst (λ reading. HasRead base StandsSo (AreDecided (tear.one ∷ now.tears)) reading (text ++ (done.front ++ on.front))) (sym same)
            (subst (HasRead base StandsSo (AreDecided (tear.one ∷ now.tears)) c.take_piece.new.self) (append_assoc text done.front on.front) (on.read base now.tears (text ++ done.front) now.holds)) in
            told_more _ _ tear.one first _ _ now tear.tear tear.wrote read (count_fits base (tear.one ∷ now.tears) _ read.texts read.fine) (c.tell.ensures.torn none);
      };
      count = omega (arith, c.loop-rest.invariant.count, on.later, count);
      farther = (omega (arith, c.loop-rest.invariant.farther.0, on.farther, place), λ fewer. omega (arith, c.loop-rest.invariant.farther.0, on.farther, place));
      counted = search rules;
    }

pub loop-rest-smaller : goal.loop-rest-smaller
loop-rest-smaller g c =
    let none : IsNone c.tell.result = search rules in
    let tear = tear_of c.in-Err.stopped.stop _ _ (c.tell.ensures.tear none) c.in-Err.ensures.on in
    omega (arith, tear.holds.some, ap length tear.holds.split, length-append tear.holds.front c.in-Err.stopped.rest.now)
