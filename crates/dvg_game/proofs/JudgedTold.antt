-- What is told of what was judged.
use Rattle.std.proofs.Common.{◌≡◌, ◌+◌, ℕ, List, Result, Ok, Err, IfOk, ap, arith, length, subst, sym, take}
use Rattle.std.proofs.lemmas.List.{length-take}
use Rattle.std.specs.Prelude.{All}
use Rattle.dvg_game_check.specs.declared.judging.Judged.{Judged}
use Rattle.dvg_game_check.specs.Verdicts.{Means}
use Rattle.dvg_game.specs.declared.told.Told.{Told}
use Rattle.dvg_io.proofs.Inputs.{whole}
use Rattle.dvg_read.specs.declared.fault.TextFault.{TextFault}
use Rattle.dvg_read.specs.declared.fault.TextFault.TheVariants.{GameSize, LongGame}
use Rattle.dvg_game.specs.declared.engine.TheConstants.{GAME_BYTES}
use Rattle.dvg_game.specs.Telling.{AreToldOf, HasGameFault, IsLineOf, IsTold, IsToldOf, addresses, program_of, vectors_of}

pub told_of : {A E : Type 0} (bytes R : List ℕ) (judged : Judged A) (result : Result (Told A) E) → Means bytes R judged
    → IfOk result (λ told. told.verdict ≡ judged.verdict)
    → IfOk result (λ told. AreToldOf bytes judged.notes.items judged.verdict (addresses told.lines.items))
    → IfOk result (λ told. All IsLineOf told.lines.items) → IfOk result (IsToldOf bytes R)
told_of bytes R judged (Ok told) means is at form = record {
  judged = judged;
  means = means;
  verdict = is;
  lines = subst (λ verdict. AreToldOf bytes judged.notes.items verdict (addresses told.lines.items)) (sym is) at;
  form = form;
}
told_of bytes R judged (Err error) means is at form = tt

-- the fault of what was read is that of the input
pub faulted : (fault : TextFault) (read input : List ℕ) → read ≡ take (GAME_BYTES + 1) input → HasGameFault read fault → HasGameFault input fault
faulted (GameSize bytes) read input e h =
    subst (λ text. HasGameFault text (GameSize bytes)) (whole GAME_BYTES read input e (omega (arith, h.0, h.1))) h
faulted LongGame read input e h = omega (arith, h, ap length e, length-take (GAME_BYTES + 1) input)
faulted _ read input e h = absurd h

-- what is told of what was read is told of the input
pub told_in : {A : Type 0} (told : Told A) (read input : List ℕ) → read ≡ take (GAME_BYTES + 1) input → length read ≡ GAME_BYTES
    → IsToldOf (program_of read) (vectors_of read) told → IsTold input told
told_in told read input e size of =
    subst (λ text. IsTold text told) (whole GAME_BYTES read input e (omega (arith, size))) (record { size = size; game = of })
