use Rattle.std.proofs.Common.{◌∷◌, [], ◌+◌, ap, arith, refl, subst, length-append}
use Rattle.dvg_logs.specs.LogLines.{IsLineOf}
use Rattle.dvg_logs.specs.LogLineTells.{line_of}
use Rattle.dvg_logs.proofs.LogReads.{fine_more, found_at, log_length}
use Rattle.dvg_logs.proofs.log_reading.JudgedLines.take.Goals as goal

pub returns-in-Some-found-clause-stop : goal.returns-in-Some-found-clause-stop
returns-in-Some-found-clause-stop g c = λ base said before after judged.
    let whole = log_length base judged.log before judged.fine.tells in
    let tells = subst (λ base. IsLineOf base (line_of c.in-Some.logged) c.args.line.now) judged.based c.in-Some.ensures.found in
    let finds = c.in-Some-found.ensures.found judged.log judged.stands (omega (arith, whole, judged.count)) (omega (arith, whole, judged.count, judged.fits)) in
    found_at judged.log before (line_of c.in-Some.logged) c.args.line.now after c.in-Some-found.verdict judged.fine tells finds (c.args.self.now.count + 1) (ap (λ n. n + 1) judged.count)

pub returns-in-Some-found-clause-on : goal.returns-in-Some-found-clause-on
returns-in-Some-found-clause-on g c = record {
  judged = λ base said before judged.
      let whole = log_length base judged.log before judged.fine.tells in
      let tells = subst (λ base. IsLineOf base (line_of c.in-Some.logged) c.args.line.now) judged.based c.in-Some.ensures.found in
      let passes = c.in-Some-found.ensures.some said judged.log judged.stands (omega (arith, whole, judged.count)) (omega (arith, whole, judged.count, judged.fits)) judged.fine.holds in
      record {
        log = line_of c.in-Some.logged ∷ judged.log;
        fine = fine_more judged.log before (line_of c.in-Some.logged) c.args.line.now judged.fine tells passes;
        stands = c.take.ensures judged.log judged.stands (omega (arith, whole, judged.count)) (omega (arith, whole, judged.count));
        based = judged.based;
        count = omega (arith, judged.count, length-append before (c.args.line.now ∷ []));
        fits = omega (arith, judged.fits);
      };
  count = refl;
}

pub returns-in-None-clause-taken : goal.returns-in-None-clause-taken
returns-in-None-clause-taken g c = λ base said before judged.
    let whole = log_length base judged.log before judged.fine.tells in
    let tells = subst (λ base. IsLineOf base (line_of c.in-Some.logged) c.args.line.now) judged.based c.in-Some.ensures.found in
    let passes = c.in-None.ensures.none said judged.log judged.stands judged.fine.holds in
    record {
      log = line_of c.in-Some.logged ∷ judged.log;
      fine = fine_more judged.log before (line_of c.in-Some.logged) c.args.line.now judged.fine tells (passes refl);
      stands = c.take.ensures judged.log judged.stands (omega (arith, whole, judged.count)) (omega (arith, whole, judged.count));
      based = judged.based;
      count = omega (arith, judged.count, length-append before (c.args.line.now ∷ []));
      fits = omega (arith, judged.fits);
    }
