-- The accesses of a play, as those of calls, make a life of the script.
use Rattle.std.proofs.Common.{◌≡◌, inl, inr, List, [], ◌∷◌, ◌++◌, refl, ap, ◌∙◌}
use Rattle.dvg_frame.specs.declared.op.OpKind.{OpKind}
use Rattle.dvg_calls_6502.specs.Board.{seen}
use Rattle.dvg_calls_6502.specs.Calls.{Call, after, IsSessionBy}
use Rattle.dvg_calls_6502.specs.Programs.{CallBrings, with_drafts}
use Rattle.dvg_calls_6502.proofs.Programs.{hindsight}
use Rattle.dvg_calls_6502.proofs.Sessions.{calls_live}
use Rattle.dvg_game_6502.specs.Games.{Lives, CallsLiveOn, accesses_of}

-- drafts change no access
same_accesses : (calls : List Call) (drafts : List (List OpKind))
    → accesses_of (with_drafts calls drafts) ≡ accesses_of calls
same_accesses [] drafts = refl
same_accesses (call ∷ calls) [] = refl
same_accesses (call ∷ calls) (G ∷ drafts) = ap (λ l. seen (after call).log ++ l) (same_accesses calls drafts)

pub calls_live_on : CallsLiveOn
calls_live_on R log (inl none) = inl none
calls_live_on R log (inr are) = inr (lives are.0 are.1 are.2)
  where
    lives : (calls : List Call) → IsSessionBy (CallBrings R) calls → accesses_of calls ≡ log → Lives R log
    lives calls session same =
        let named = hindsight R calls session in
        let made = calls_live (with_drafts calls named.0) named.1 in
        record {
          calls = with_drafts calls named.0;
          session = named.1;
          built = named.2;
          accesses = same_accesses calls named.0 ∙ same;
          life = made.0;
          of_calls = made.1;
          is_life = made.2;
        }
