-- From the log of a trace to its pictures.
use Rattle.std.proofs.Common.{◌≡◌, ℕ, List, [], ◌∷◌, ◌++◌, true, Option, Result, Ok, Err, IfErr, IfOk, Vec, map, ap, refl, subst, sym, ◌∙◌}
use Rattle.dvg_gen.specs.declared.stroke.Stroke.{Stroke}
use Rattle.dvg_log.specs.Events.{Happening}
use Rattle.dvg_world.specs.declared.pictures.Drawn.{Drawn}
use Rattle.dvg_world.specs.declared.pictures.Picture.{Picture}
use Rattle.dvg_world.specs.Keeping.{IsEndOf}
use Rattle.dvg_world.specs.Kept.{Draws, picture_seen}
use Rattle.dvg_read.specs.TraceGives.{GivesTrace}
use Rattle.dvg_read.specs.TraceTexts.{HasTraceFault}
use Rattle.dvg_read.specs.declared.fault.Unread.{Unread}
use Rattle.dvg_read.specs.declared.fault.Unread.TheVariants as unread
use Rattle.dvg_io.specs.declared.fault.ToolFault.{ToolFault}
use Rattle.dvg_io.specs.declared.fault.ToolFault.TheVariants.{Text, Reader, Writer, Memory}
use Rattle.dvg_io.specs.Serving.{Answers, IsFinding, OfInput}
use Rattle.dvg_io.proofs.Inputs.{whole}
use Rattle.dvg_job.specs.declared.form.Show.{Show}
use Rattle.dvg_svg.specs.Svg.{strokes_of, svgs_text}
use Rattle.dvg_tool.specs.Plays.{zeros}
use Rattle.dvg_tool.specs.PlaysSvg.{PlaysSvg, ShowsPictures}
use Rattle.dvg_tool.proofs.DrawnPlayed.{events_shown}
use Rattle.dvg_read.specs.declared.draft_text.TheConstants.{MOST_TEXT_BYTES}

-- the strokes of pictures
strokes_seen : {A : Type 0} (pictures : List (Picture A)) → map (λ picture. picture.strokes.items) pictures ≡ map (λ (picture : ℕ × List Stroke). picture.1) (map picture_seen pictures)
strokes_seen [] = refl
strokes_seen (picture ∷ pictures) = ap (λ rest. picture.strokes.items ∷ rest) (strokes_seen pictures)

-- where it stops
pub stops : (A T : Type 0) (show : Show) (fault : ToolFault) (old new : Option (List ℕ)) (input : List ℕ)
    → Answers {F = Vec (Vec Stroke A) A} (λ input pictures. ShowsPictures input (strokes_of pictures.items)) HasTraceFault (λ pictures. svgs_text show (strokes_of pictures.items)) (Err fault) input old new
    → PlaysSvg {T = T} show (Err fault) input old new
stops A T show (Text fault) old new input h = h
stops A T show Reader old new input h = tt
stops A T show Memory old new input h = tt
stops A T show Writer old new input (pictures, found, begun) = (strokes_of pictures.items, found, begun)

-- the pictures of a trace of which all events happened are those of a log that was played whole
pub drawn_whole : {A : Type 0} (R : List ℕ) (events : List Happening) (drawn : Drawn A) (answer : Result (Vec (Vec Stroke A) A) Unread) → Draws R zeros events drawn → drawn.is_whole ≡ true
    → IfOk answer (λ pictures. strokes_of pictures.items ≡ map (λ picture. picture.strokes.items) drawn.pictures.items)
    → IfOk answer (λ pictures. (text : List ℕ) → GivesTrace text events R → ShowsPictures text (strokes_of pictures.items))
drawn_whole R events drawn (Ok pictures) draws all is = λ text gives. (
  draws.log,
  record {
    events = events;
    R = R;
    gives = gives;
    legal = draws.legal;
    headline = draws.headline;
    in_order = draws.in_order ∙ (λ i. events_shown draws.log i ++ (subst (λ is_whole. IsEndOf is_whole R zeros draws.log draws.later) all draws.ends) i);
  },
  is ∙ strokes_seen drawn.pictures.items ∙ ap (map (λ picture. picture.1)) draws.kept,
)
drawn_whole R events drawn (Err fault) draws all is = tt

-- what is found of a trace that was read is found of the input
abbrev pub Finds : {A : Type 0} → (input : List ℕ) → Vec (Vec Stroke A) A → Type 0
Finds input pictures = ShowsPictures input (strokes_of pictures.items)

pub finds : {A : Type 0} (read R : List ℕ) (events : List Happening) (answer : Result (Vec (Vec Stroke A) A) Unread) → GivesTrace read events R
    → IfOk answer (λ pictures. (text : List ℕ) → GivesTrace text events R → ShowsPictures text (strokes_of pictures.items))
    → IfErr answer (λ stop. stop ≡ unread.Memory) → OfInput MOST_TEXT_BYTES read (λ input. IsFinding (Finds input) (HasTraceFault input) answer)
finds read R events (Ok pictures) gives ok err input e =
    ok input (subst (λ text. GivesTrace text events R) (whole MOST_TEXT_BYTES read input e gives.denotes.short) gives)
finds {A = A} read R events (Err stop) gives ok err input e =
    subst (λ stop. IsFinding {F = Vec (Vec Stroke A) A} (Finds input) (HasTraceFault input) (Err stop)) (sym err) tt
