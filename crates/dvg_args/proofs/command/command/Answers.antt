use Rattle.std.proofs.Common.{◌≡◌}
use Rattle.std.proofs.lemmas.Result.{IfOk-weaker}
use Rattle.clap.specs.Words.{app_of}
use Rattle.dvg_args.specs.Arguments.{dvg_app}
use Rattle.dvg_args.proofs.Parts.{added, same}
use Rattle.dvg_args.proofs.command.command.Goals as goal

pub returns-clause-app : goal.returns-clause-app
unfolding dvg_app
returns-clause-app c =
    let list = same c.in_ok-with_list.ensures.app c.program.ensures.app c.in_ok-list_command.ensures.app in
    let rom = same c.in_ok-with_rom.ensures.app list c.helped-rom.ensures.app in
    let picture = same c.in_ok-with_picture.ensures.app rom c.in_ok-picture_command.ensures.app in
    let check = same c.in_ok-with_check.ensures.app picture c.in_ok-check_command.ensures.app in
    let play = same c.in_ok-with_play.ensures.app check c.in_ok-play_command.ensures.app in
    let torn = same c.in_ok-with_torn.ensures.app play c.in_ok-torn_command.ensures.app in
    let render = same c.in_ok-with_render.ensures.app torn c.in_ok-render_command.ensures.app in
    let lay = same c.in_ok-with_lay.ensures.app render c.in_ok-lay_command.ensures.app in
    let explain = same c.in_ok-with_explain.ensures.app lay c.helped-explain.ensures.app in
    IfOk-weaker c.with_part-10.result (λ r. app_of r ≡ added (app_of c.in_ok-with_explain.with_explain) (app_of c.in_ok-game_command.field-0)) _
    (λ r e. same e explain c.in_ok-game_command.ensures.app) c.with_part-10.ensures.app
