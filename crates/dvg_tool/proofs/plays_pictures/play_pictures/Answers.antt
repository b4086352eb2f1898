use Rattle.std.proofs.Common.{ap, ◌∙◌, Err, false, subst}
use Rattle.std.specs.Io.KnownBytes.{Appends}
use Rattle.std.proofs.lemmas.Result.{err_from_is_err_and}
use Rattle.dvg_io.proofs.Served.{served_wanting, unserved}
use Rattle.dvg_io.specs.Watching.{stream_of}
use Rattle.dvg_tool.specs.Plays.{ArePicturesShown, IsShown, drawn_shown}
use Rattle.dvg_tool.proofs.TracesPlayed.{earlier, plays_part, stops}
use Rattle.dvg_read.specs.declared.draft_text.TheConstants.{MOST_TEXT_BYTES}
use Rattle.dvg_tool.proofs.plays_pictures.play_pictures.Goals as goal

pub returns-in_err-serve : goal.returns-in_err-serve
returns-in_err-serve g c =
    let is = err_from_is_err_and c.from_residual.result c.from_residual.ensures.1 in
    let fault = c.in_err-serve.field-0.0 in
    let writer = c.args.writer.now in
    let written = c.serve.new.writer in
    unserved g.R.Read.remaining g.W.Write.contents MOST_TEXT_BYTES _ _ _ _ c.args.reader.now c.serve.new.reader writer written c.from_residual.result fault
    (is.1 ∙ ap Err is.2) (earlier fault)
    (λ input. stops (Unit {0}) false ArePicturesShown (λ drawn. drawn.is_whole) drawn_shown fault g.W.Write.contents writer written input (λ drawn found. found) c.in_err-serve.ensures.unwritten) c.in_err-serve.ensures

pub returns-else-branch : goal.returns-else-branch
returns-else-branch g c =
    let drawn = c.in_ok-serve.field-0 in
    let old = g.W.Write.contents (stream_of c.args.writer.now) in
    let new = g.W.Write.contents (stream_of c.serve.new.writer) in
    served_wanting g.R.Read.remaining g.W.Write.contents MOST_TEXT_BYTES _ _ _ _ c.args.reader.now c.serve.new.reader c.args.writer.now c.serve.new.writer
    drawn (λ early. early)
    (λ input h. plays_part (Unit {0}) false (drawn_shown drawn) old new input
    (subst (λ is_whole. IsShown false is_whole input (drawn_shown drawn) × Appends old new (drawn_shown drawn)) c.if-branch.false h))
    c.in_ok-serve.ensures
