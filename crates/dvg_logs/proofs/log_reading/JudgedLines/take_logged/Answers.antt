use Rattle.std.proofs.Common.{◌∷◌, [], arith, length-append, rules, IsNone}
use Rattle.dvg_logs.specs.LogLineTells.{line_of}
use Rattle.dvg_logs.proofs.LogReads.{fine_more, log_length}
use Rattle.dvg_logs.proofs.log_reading.JudgedLines.take_logged.Goals as goal

pub returns-clause-taken : goal.returns-clause-taken
returns-clause-taken g c = λ done base said before line judged tells.
    let logged = line_of c.args.logged in
    let whole = log_length _ judged.log before judged.fine.tells in
    let none : IsNone c.find.result = search rules in
    record {
      log = logged ∷ judged.log;
      fine = fine_more judged.log before logged line judged.fine tells (c.find.ensures.none said judged.log judged.stands judged.fine.holds none);
      stands = c.take.ensures judged.log judged.stands (omega (arith, whole, judged.count)) (omega (arith, whole, judged.count, c.requires.room));
      based = judged.based;
      count = omega (arith, judged.count, length-append before (line ∷ []));
      fits = omega (arith, judged.fits, c.requires.room);
    }
