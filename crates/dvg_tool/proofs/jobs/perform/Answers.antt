use Rattle.std.proofs.Common.{rules, ◌≡◌}
use Rattle.std.specs.Prelude.{false, true, IfSome}
use Rattle.dvg_job.specs.declared.task.Job.TheVariants.{List as list_job, ListAt, Rom, Picture, PictureSvg, Check}
use Rattle.dvg_job.specs.declared.task.Job.TheVariants.{Play, PlaySvg, Torn, Render, RenderCheck, Lay, Explain, Game}
use Rattle.dvg_job.specs.declared.form.LogRule.TheVariants.{Halves, Moments, AllMoments}
use Rattle.dvg_explain.specs.Findings.{Explains}
use Rattle.dvg_game.specs.Telling.{JudgesGame}
use Rattle.dvg_lay.specs.Checks.{ChecksSketch}
use Rattle.dvg_lay.specs.DrawnSketches.{Draws}
use Rattle.dvg_lay.specs.Sketches.{Lays}
use Rattle.dvg_logs.specs.AllTears.{AllTears}
use Rattle.dvg_logs.specs.MomentTears.{MomentTears}
use Rattle.dvg_logs.specs.Tears.{Tears}
use Rattle.dvg_io.specs.Watching.{stream_of}
use Rattle.dvg_picture.specs.Pictures.{Pictures}
use Rattle.dvg_picture.specs.Svgs.{DrawsSvg}
use Rattle.dvg_tool.specs.Lists.{Lists}
use Rattle.dvg_tool.specs.Roms.{WritesRom}
use Rattle.dvg_tool.specs.Checks.{Checks, ChecksBound}
use Rattle.dvg_tool.specs.Plays.{Plays}
use Rattle.dvg_tool.specs.PlaysSvg.{PlaysSvg}
use Rattle.dvg_tool.specs.Reports.{of_explained, of_frames, of_made, of_bounded, of_log, of_moments, of_outcome, of_told, of_undrawn, of_verdict, written}
use Rattle.dvg_tool.proofs.Reported.{reports, reports_at}
use Rattle.dvg_tool.proofs.jobs.perform.Goals as goal

pub returns-in-List-clause-performs : goal.returns-in-List-clause-performs
returns-in-List-clause-performs g c =
    let asked : c.args.job ≡ list_job = search rules in
    rw asked (reports written (Lists {T = Unit {0}} 0) c.list.result c.reported.result _ _ _ c.reported.ensures c.list.ensures.means)

pub returns-in-ListAt-clause-performs : goal.returns-in-ListAt-clause-performs
returns-in-ListAt-clause-performs g c =
    let asked : c.args.job ≡ ListAt c.in-ListAt.address = search rules in
    rw asked (reports written (Lists {T = Unit {0}} c.in-ListAt.address) c.list_at.result c.reported-in-ListAt.result _ _ _ c.reported-in-ListAt.ensures c.list_at.ensures.means)

pub returns-in-Rom-clause-performs : goal.returns-in-Rom-clause-performs
returns-in-Rom-clause-performs g c =
    let asked : c.args.job ≡ Rom = search rules in
    rw asked (reports written (WritesRom {T = Unit {0}}) c.rom_text.result c.reported-in-Rom.result _ _ _ c.reported-in-Rom.ensures c.rom_text.ensures.means)

pub returns-in-Picture-clause-performs : goal.returns-in-Picture-clause-performs
returns-in-Picture-clause-performs g c =
    let asked : c.args.job ≡ Picture c.in-Picture.form = search rules in
    rw asked (reports of_outcome (Pictures c.in-Picture.form) c.picture.result c.reported-in-Picture.result _ _ _ c.reported-in-Picture.ensures c.picture.ensures.means)

pub returns-in-PictureSvg-clause-performs : goal.returns-in-PictureSvg-clause-performs
returns-in-PictureSvg-clause-performs g c =
    let asked : c.args.job ≡ PictureSvg c.in-PictureSvg.percent = search rules in
    rw asked (reports of_undrawn (DrawsSvg c.in-PictureSvg.percent) c.picture_svg.result c.reported-in-PictureSvg.result _ _ _ c.reported-in-PictureSvg.ensures c.picture_svg.ensures.means)

pub returns-in-Check-true-clause-performs : goal.returns-in-Check-true-clause-performs
returns-in-Check-true-clause-performs g c =
    let asked : c.args.job ≡ Check true = search rules in
    rw asked (reports of_bounded ChecksBound c.check_bound.result c.reported-in-Check-true.result _ _ _ c.reported-in-Check-true.ensures c.check_bound.ensures.means)

pub returns-in-Check-false-clause-performs : goal.returns-in-Check-false-clause-performs
returns-in-Check-false-clause-performs g c =
    let asked : c.args.job ≡ Check false = search rules in
    rw asked (reports of_verdict Checks c.check_text.result c.reported-in-Check-false.result _ _ _ c.reported-in-Check-false.ensures c.check_text.ensures.means)

pub returns-in-Play-default-true-clause-performs : goal.returns-in-Play-default-true-clause-performs
returns-in-Play-default-true-clause-performs g c =
    let asked : c.args.job ≡ Play c.in-Play-default-true.all true = search rules in
    let means : IfSome (g.R.Read.remaining (stream_of c.args.reader.now)) (λ input. Plays {T = Unit {0}} c.in-Play-default-true.all c.play_in.result input
    (g.W.Write.contents (stream_of c.args.writer.now)) (g.W.Write.contents (stream_of c.play_in.new.writer))) =
    search rules in
    reports_at c.args.job (Play c.in-Play-default-true.all true) asked written (Plays {T = Unit {0}} c.in-Play-default-true.all) c.play_in.result c.reported-in-Play-default-true.result _ _ _ (λ input it. it)
    c.reported-in-Play-default-true.ensures means

pub returns-in-Play-default-false-clause-performs : goal.returns-in-Play-default-false-clause-performs
returns-in-Play-default-false-clause-performs g c =
    let asked : c.args.job ≡ Play c.in-Play-default-false.all false = search rules in
    let means : IfSome (g.R.Read.remaining (stream_of c.args.reader.now)) (λ input. Plays {T = Unit {0}} c.in-Play-default-false.all c.play.result input
    (g.W.Write.contents (stream_of c.args.writer.now)) (g.W.Write.contents (stream_of c.play.new.writer))) =
    search rules in
    reports_at c.args.job (Play c.in-Play-default-false.all false) asked written (Plays {T = Unit {0}} c.in-Play-default-false.all) c.play.result c.reported-in-Play-default-false.result _ _ _ (λ input it. it)
    c.reported-in-Play-default-false.ensures means

pub returns-in-PlaySvg-true-default-clause-performs : goal.returns-in-PlaySvg-true-default-clause-performs
returns-in-PlaySvg-true-default-clause-performs g c =
    let asked : c.args.job ≡ PlaySvg true c.in-PlaySvg-true-default.show = search rules in
    let means : IfSome (g.R.Read.remaining (stream_of c.args.reader.now)) (λ input. PlaysSvg {T = Unit {0}} c.in-PlaySvg-true-default.show c.play_svg_in.result input
    (g.W.Write.contents (stream_of c.args.writer.now)) (g.W.Write.contents (stream_of c.play_svg_in.new.writer))) =
    search rules in
    reports_at c.args.job (PlaySvg true c.in-PlaySvg-true-default.show) asked written (PlaysSvg {T = Unit {0}} c.in-PlaySvg-true-default.show) c.play_svg_in.result c.reported-in-PlaySvg-true-default.result _ _ _ (λ input it. it)
    c.reported-in-PlaySvg-true-default.ensures means

pub returns-in-PlaySvg-false-default-clause-performs : goal.returns-in-PlaySvg-false-default-clause-performs
returns-in-PlaySvg-false-default-clause-performs g c =
    let asked : c.args.job ≡ PlaySvg false c.in-PlaySvg-false-default.show = search rules in
    let means : IfSome (g.R.Read.remaining (stream_of c.args.reader.now)) (λ input. PlaysSvg {T = Unit {0}} c.in-PlaySvg-false-default.show c.play_svg_in-in-PlaySvg-false-default.result input
    (g.W.Write.contents (stream_of c.args.writer.now)) (g.W.Write.contents (stream_of c.play_svg_in-in-PlaySvg-false-default.new.writer))) =
    search rules in
    reports_at c.args.job (PlaySvg false c.in-PlaySvg-false-default.show) asked written (PlaysSvg {T = Unit {0}} c.in-PlaySvg-false-default.show) c.play_svg_in-in-PlaySvg-false-default.result c.reported-in-PlaySvg-false-default.result _ _ _ (λ input it. it)
    c.reported-in-PlaySvg-false-default.ensures means

pub returns-in-Torn-Halves-default-clause-performs : goal.returns-in-Torn-Halves-default-clause-performs
returns-in-Torn-Halves-default-clause-performs g c =
    let asked : c.args.job ≡ Torn Halves c.in-Torn-Halves-default.base = search rules in
    rw asked (reports of_log (Tears c.in-Torn-Halves-default.base) c.torn.result c.reported-in-Torn-Halves-default.result _ _ _ c.reported-in-Torn-Halves-default.ensures c.torn.ensures.tears)

pub returns-in-Torn-Moments-default-clause-performs : goal.returns-in-Torn-Moments-default-clause-performs
returns-in-Torn-Moments-default-clause-performs g c =
    let asked : c.args.job ≡ Torn Moments c.in-Torn-Moments-default.base = search rules in
    rw asked (reports of_moments (MomentTears c.in-Torn-Moments-default.base) c.torn_moments.result c.reported-in-Torn-Moments-default.result _ _ _ c.reported-in-Torn-Moments-default.ensures c.torn_moments.ensures.tears)

pub returns-in-Torn-AllMoments-default-clause-performs : goal.returns-in-Torn-AllMoments-default-clause-performs
returns-in-Torn-AllMoments-default-clause-performs g c =
    let asked : c.args.job ≡ Torn AllMoments c.in-Torn-AllMoments-default.base = search rules in
    rw asked (reports of_moments (AllTears c.in-Torn-AllMoments-default.base) c.torn_all.result c.reported-in-Torn-AllMoments-default.result _ _ _ c.reported-in-Torn-AllMoments-default.ensures c.torn_all.ensures.tears)

pub returns-in-Render-clause-performs : goal.returns-in-Render-clause-performs
returns-in-Render-clause-performs g c =
    let asked : c.args.job ≡ Render c.in-Render.show = search rules in
    rw asked (reports of_made (Draws c.in-Render.show) c.draw_sketch.result c.reported-in-Render.result _ _ _ c.reported-in-Render.ensures c.draw_sketch.ensures.means)

pub returns-in-RenderCheck-clause-performs : goal.returns-in-RenderCheck-clause-performs
returns-in-RenderCheck-clause-performs g c =
    let asked : c.args.job ≡ RenderCheck = search rules in
    rw asked (reports (λ said. of_frames said.verdicts.items) ChecksSketch c.check_sketch.result c.reported-in-RenderCheck.result _ _ _ c.reported-in-RenderCheck.ensures c.check_sketch.ensures.means)

pub returns-in-Lay-clause-performs : goal.returns-in-Lay-clause-performs
returns-in-Lay-clause-performs g c =
    let asked : c.args.job ≡ Lay c.in-Lay.form = search rules in
    rw asked (reports of_made (Lays c.in-Lay.form) c.lay_sketch.result c.reported-in-Lay.result _ _ _ c.reported-in-Lay.ensures c.lay_sketch.ensures.means)

pub returns-in-Explain-clause-performs : goal.returns-in-Explain-clause-performs
returns-in-Explain-clause-performs g c =
    let asked : c.args.job ≡ Explain = search rules in
    rw asked (reports of_explained Explains c.explain.result c.reported-in-Explain.result _ _ _ c.reported-in-Explain.ensures c.explain.ensures.means)

pub returns-in-Game-clause-performs : goal.returns-in-Game-clause-performs
returns-in-Game-clause-performs g c =
    let asked : c.args.job ≡ Game c.in-Game.notes = search rules in
    rw asked (reports of_told JudgesGame c.game.result c.reported-in-Game.result _ _ _ c.reported-in-Game.ensures c.game.ensures.means)
