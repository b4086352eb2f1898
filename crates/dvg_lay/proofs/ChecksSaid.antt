-- What is said of frames, one after the other.
use Rattle.std.proofs.Common.{◌≡◌, ◌<◌, ◌+◌, ◌++◌, ◌∷◌, [], ◌∙◌, ℕ, List, ap, append_assoc, get_or, length, subst, sym, take}
use Rattle.std.specs.List.{AllZip}
use Rattle.std.proofs.lemmas.List.{append-nil, take_more}
use Rattle.dvg_read.proofs.Zips.{zip_push}
use Rattle.dvg_named.specs.declared.meaning.NamedFrame.{NamedFrame}
use Rattle.dvg_lay.specs.declared.verdicts.FrameVerdict.{FrameVerdict}
use Rattle.dvg_lay.specs.Checks.{IsVerdictOn, said_line, said_lines}

-- the lines of a frame more
lines_push : (R : List ℕ) (frames : List NamedFrame) (verdicts : List FrameVerdict) (frame : NamedFrame) (verdict : FrameVerdict)
    → AllZip (IsVerdictOn R) frames verdicts
    → said_lines (frames ++ frame ∷ []) (verdicts ++ verdict ∷ []) ≡ said_lines frames verdicts ++ said_line frame verdict
lines_push R [] [] frame verdict are = append-nil (said_line frame verdict)
lines_push R [] (v ∷ verdicts) frame verdict are = absurd are
lines_push R (f ∷ frames) [] frame verdict are = absurd are
lines_push R (f ∷ frames) (v ∷ verdicts) frame verdict are =
    ap (λ l. said_line f v ++ l) (lines_push R frames verdicts frame verdict are.1)
    ∙ sym (append_assoc (said_line f v) (said_lines frames verdicts) (said_line frame verdict))

module _ (R : List ℕ) (frames : List NamedFrame) (i : ℕ) (frame : NamedFrame) (old new : List FrameVerdict) (verdict : FrameVerdict)
    (low : i < length frames) (is : frame ≡ get_or frames i frame) (pushed : new ≡ old ++ verdict ∷ [])
    (before : AllZip (IsVerdictOn R) (take i frames) old) where
  next : take (i + 1) frames ≡ take i frames ++ frame ∷ []
  next = take_more frames i frame low ∙ ap (λ f. take i frames ++ f ∷ []) (sym is)

  pub verdicts_more : IsVerdictOn R frame verdict → AllZip (IsVerdictOn R) (take (i + 1) frames) new
  verdicts_more on =
      subst (λ l. AllZip (IsVerdictOn R) l new) (sym next)
      (subst (AllZip (IsVerdictOn R) (take i frames ++ frame ∷ [])) (sym pushed)
      (zip_push (IsVerdictOn R) (take i frames) old frame verdict before on))

  pub lines_more : (text now : List ℕ) → now ≡ text ++ said_line frame verdict → text ≡ said_lines (take i frames) old
      → now ≡ said_lines (take (i + 1) frames) new
  lines_more text now grown so_far =
      grown ∙ ap (λ l. l ++ said_line frame verdict) so_far ∙ sym (lines_push R (take i frames) old frame verdict before)
      ∙ ap (λ l. said_lines l (old ++ verdict ∷ [])) (sym next) ∙ ap (said_lines (take (i + 1) frames)) (sym pushed)
