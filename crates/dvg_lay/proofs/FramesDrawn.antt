-- Frames that are drawn, one after the other.
use Rattle.std.proofs.Common.{Vec, ◌≡◌, ◌<◌, ◌+◌, ◌++◌, ◌∷◌, [], ◌∙◌, ℕ, List, All, ap, get_or, length, subst, sym, take}
use Rattle.std.specs.List.{AllZip}
use Rattle.std.proofs.lemmas.List.{map-append, take_more}
use Rattle.std.proofs.lemmas.List.Elements.{All-cons, All-nil}
use Rattle.dvg_read.proofs.Zips.{zip_push}
use Rattle.dvg_gen.specs.declared.stroke.Stroke.{Stroke}
use Rattle.dvg_named.specs.declared.meaning.NamedFrame.{NamedFrame}
use Rattle.dvg_named.specs.declared.meaning.RomName.{RomName}
use Rattle.dvg_blame.specs.declared.refusal.Unlaid.{Unlaid}
use Rattle.dvg_blame.specs.Refusals.{IsUnlaid}
use Rattle.dvg_blame.proofs.Lists.{first_at}
use Rattle.dvg_blame.proofs.Described.{unlaid_weaker}
use Rattle.dvg_svg.specs.Svg.{strokes_of}
use Rattle.dvg_lay.specs.Drawings.{CanBeDrawn, IsDrawnFrame, IsUndrawn, TellsUndrawn}

-- each frame that has a picture can be drawn
can_all : (R : List ℕ) (frames : List NamedFrame) (pictures : List (List Stroke)) → AllZip (IsDrawnFrame R) frames pictures
    → All (CanBeDrawn R) frames
can_all R [] [] drawn = All-nil (CanBeDrawn R)
can_all R [] (picture ∷ pictures) drawn = absurd drawn
can_all R (frame ∷ frames) [] drawn = absurd drawn
can_all R (frame ∷ frames) (picture ∷ pictures) drawn =
    All-cons (CanBeDrawn R) frame frames (picture, drawn.0) (can_all R frames pictures drawn.1)

-- a frame that can't be drawn, after others that were
pub undrawn_at : {A : Type 0} (R : List ℕ) (names : List RomName) (frames : List NamedFrame) (i : ℕ) (frame : NamedFrame)
    (pictures : List (List Stroke)) → i < length frames → frame ≡ get_or frames i frame
    → AllZip (IsDrawnFrame R) (take i frames) pictures → (unlaid : Unlaid A)
    → IsUnlaid (λ refusal. TellsUndrawn R names refusal frame) unlaid → IsUnlaid (IsUndrawn R names frames) unlaid
undrawn_at R names frames i frame pictures low is drawn =
    unlaid_weaker _ _ (λ refusal described. first_at (CanBeDrawn R) (TellsUndrawn R names refusal) frames i frame low is
    (can_all R (take i frames) pictures drawn) described)

-- a frame more was drawn
pub drawn_more : {A : Type 0} (R : List ℕ) (frames : List NamedFrame) (i : ℕ) (frame : NamedFrame) (old new : List (Vec Stroke A))
    (picture : Vec Stroke A) → i < length frames → frame ≡ get_or frames i frame → new ≡ old ++ picture ∷ []
    → AllZip (IsDrawnFrame R) (take i frames) (strokes_of old) → IsDrawnFrame R frame picture.items
    → AllZip (IsDrawnFrame R) (take (i + 1) frames) (strokes_of new)
drawn_more {A} R frames i frame old new picture low is pushed before drawn =
    subst (λ l. AllZip (IsDrawnFrame R) l (strokes_of new))
    (sym (take_more frames i frame low ∙ ap (λ f. take i frames ++ f ∷ []) (sym is)))
    (subst (AllZip (IsDrawnFrame R) (take i frames ++ frame ∷ []))
    (sym (ap strokes_of pushed ∙ map-append (λ (p : Vec Stroke A). p.items) old (picture ∷ [])))
    (zip_push (IsDrawnFrame R) (take i frames) (strokes_of old) frame picture.items before drawn))
