-- Logs of the board are legal.
use Rattle.std.proofs.Common.{ℕ, ◌≤◌, inl, inr, List, [], ◌∷◌, subst, sym}
use Rattle.dvg_frame.specs.declared.op.OpKind.{OpKind}
use Rattle.dvg_frame.specs.Layout.{size}
use Rattle.dvg_frame.specs.Faults.{Accepts}
use Rattle.dvg_driver.specs.Script.{Item, Did, IsLife}
use Rattle.dvg_log.specs.Events.{Happening}
use Rattle.dvg_log.specs.declared.event.Event.TheVariants.{Offer, Redraw, Tick}
use Rattle.dvg_log.specs.Entries.{Shown}
use Rattle.dvg_log.specs.declared.entry.Entry.TheVariants.{Offered, Busy, Asked, NothingPublished, Acted}
use Rattle.dvg_log.specs.Log.{◌⟼◌, Log, life}
use Rattle.dvg_log.specs.Legal.{IsLegal, Fits}
use Rattle.dvg_theorem.proofs.Headline.{headline}
use Rattle.dvg_calls_6502.specs.Build.{IsBuilt}
use Rattle.dvg_calls_6502.specs.Joined.{IsMade, FitsBoard, IsBoards, BoardKeeps}
use Rattle.dvg_calls_6502.proofs.BuiltFrame.{built_accepted}
use Rattle.dvg_calls_6502.proofs.Sessions.{calls_live, one_life}
use Rattle.dvg_calls_6502.proofs.CallAnswers.{offer_answers, open_answers, redraw_answers}

pub made_lives : (items : List Item) → IsMade items → IsLife items
made_lives items made = let lives = calls_live made.0 made.1 in
    subst IsLife (one_life made.0 lives.0 items lives.1 made.2) lives.2

-- what a program builds is accepted
accepted : (R : List ℕ) (F : List OpKind) → IsBuilt R F → Accepts F R
accepted R F built = subst (λ G. Accepts G R) (sym built.4)
    (built_accepted R built.0 built.1 built.2 built.3 built.5
    (subst (λ G. size G ≤ 511) built.4 built.6))

fits : (R image : List ℕ) (log : Log) (event : Happening) (entry : Shown) → FitsBoard R image log event entry
    → Fits R image log event entry
fits R image log Tick (Acted action) f = (made_lives (Did action ∷ life image log) f.0, f.1)
fits R image log (Offer F) Offered (inl f) = (f.0, (offer_answers F (life image log)).0 f.1)
fits R image log (Offer F) Offered (inr f) = (accepted R F f.0, (open_answers F (life image log)).0 f.1)
fits R image log (Offer F) Busy (inl f) = (f.0, (offer_answers F (life image log)).1 f.1)
fits R image log (Offer F) Busy (inr f) = (accepted R F f.0, (open_answers F (life image log)).1 f.1)
fits R image log Redraw Asked f = (redraw_answers (life image log)).0 f
fits R image log Redraw Busy f = (f.1, (redraw_answers (life image log)).1 f.0 f.1)
fits R image log Redraw NothingPublished f = f.1
fits R image log event entry f = f

legal : (R image : List ℕ) (log : Log) → IsBoards R image log → IsLegal R image log
legal R image [] boards = boards
legal R image ((event ⟼ entry) ∷ log) boards =
    (fits R image log event entry boards.0, boards.1, legal R image log boards.2)

pub board_keeps : BoardKeeps
board_keeps R image log boards = let is = legal R image log boards in (is, headline R image log is)
