-- The arguments of the program.
use Rattle.std.specs.Prelude.{◌≡◌, ◌⊎◌, ℕ, Bool, true, false, List, [], ◌∷◌, Option, Some, codes, option_map}
use Rattle.std.specs.Option.{option_map_or}
use Rattle.clap.specs.Kinds.{or_else}
use Rattle.clap.specs.Words.{App, Kinds, Row, Rule, Shape, Text, fault_of, new_app, new_rule, subcommand_of, takes}
use Rattle.clap.specs.Words.{with_rule}
use Rattle.clap.specs.declared.builder.ArgAction.TheVariants.{Set, SetTrue}
use Rattle.clap.specs.declared.error.kind.ErrorKind.{ErrorKind}
use Rattle.clap.specs.declared.error.kind.ErrorKind.TheVariants.{DisplayHelp, DisplayVersion, OutOfMemory}
use Rattle.dvg_args.specs.Options.{address_of, base_of, fault_in, form_of, gives, percent_of, rate_of, rule_of, sets}
use Rattle.dvg_job.specs.declared.form.LayForm.{LayForm}
use Rattle.dvg_job.specs.declared.form.LogRule.{LogRule}
use Rattle.dvg_job.specs.declared.task.Job.{Job}
use Rattle.dvg_job.specs.declared.task.Job.TheVariants.{List as list_job, ListAt, Rom, Picture, PictureSvg, Check}
use Rattle.dvg_job.specs.declared.task.Job.TheVariants.{Play, PlaySvg, Torn, Render, RenderCheck, Lay, Explain, Game}

-- a subcommand with no option of its own
abbrev pub plain : Text → Shape
plain name = (new_app name).top

-- an option of this long name, which is given or not and takes no value
abbrev pub flag : Text → Rule
flag name = record (new_rule name) { long = Some name; action = Some SetTrue }

-- an option of this long name, which takes one value
abbrev pub valued : Text → Rule
valued name = record (new_rule name) { long = Some name; value_names = 1; action = Some Set }

-- a subcommand with one more option, which is given or not
abbrev pub with_flag : App → Text → App
with_flag part option = with_rule part (flag option)

-- a subcommand with one more option, which takes a value
abbrev pub with_value : App → Text → App
with_value part option = with_rule part (valued option)

-- the subcommand `list`: from an address
abbrev pub list_app : App
list_app = with_value (new_app (codes "list")) (codes "at")

-- the subcommand `picture`: of each instruction, of each move, in whole units, or as SVG of a size
abbrev pub picture_app : App
picture_app =
    let with_moves = with_flag (with_flag (new_app (codes "picture")) (codes "all")) (codes "moves") in
    with_value (with_flag (with_flag with_moves (codes "units")) (codes "svg")) (codes "scale")

-- the subcommand `check`: with the bound
abbrev pub check_app : App
check_app = with_flag (new_app (codes "check")) (codes "bound")

-- a subcommand with the size and the rate of pictures as further options
abbrev pub showing : App → App
showing part = with_value (with_value part (codes "scale")) (codes "rate")

-- the subcommand `play`: of each entry, over banks, or as SVG of a size and a rate
abbrev pub play_app : App
play_app =
    showing (with_flag (with_flag (with_flag (new_app (codes "play")) (codes "all")) (codes "banked")) (codes "svg"))

-- the subcommand `torn`: by moments, of each run, with addresses of the processor
abbrev pub torn_app : App
torn_app = with_value (with_flag (with_flag (new_app (codes "torn")) (codes "moments")) (codes "all")) (codes "base")

-- the subcommand `render`: of a size and a rate, or a check alone
abbrev pub render_app : App
render_app = showing (with_flag (new_app (codes "render")) (codes "check"))

-- the subcommand `lay`: a half by its number, or one of four other forms
abbrev pub lay_app : App
lay_app =
    let with_half = with_value (new_app (codes "lay")) (codes "half") in
    let with_rom = with_flag (with_flag with_half (codes "table")) (codes "rom") in
    with_flag (with_flag with_rom (codes "equates")) (codes "draft")

-- the subcommand `game`: with the notes
abbrev pub game_app : App
game_app = with_flag (new_app (codes "game")) (codes "notes")

-- the program without its subcommands, of which it requires one; it has a version (for a private contract)
abbrev pub program_app : App
program_app = record (new_app (codes "dvg")) {
  top = record (plain (codes "dvg")) { subcommand_required = true; has_version = true };
}

-- the program's command, which requires one of ten subcommands and has a version; clap adds `help` and the options
-- `--help` and `--version`
unfoldable pub dvg_app : App
dvg_app = record {
  top = record (plain (codes "dvg")) { is_leaf = false; subcommand_required = true; has_version = true };
  subs = list_app.top ∷ plain (codes "rom") ∷ picture_app.top ∷ check_app.top ∷ play_app.top ∷ torn_app.top
      ∷ render_app.top ∷ lay_app.top ∷ plain (codes "explain") ∷ game_app.top ∷ [];
}

-- how the options of the subcommand that was matched are refused
abbrev pub options_fault : Option (Text × List Row) → Kinds
options_fault met = option_map_or (λ p. fault_in p.0 p.1) met []

-- how the arguments are refused: by the command, or else by the options of a subcommand
abbrev pub arguments_fault : List Text → Kinds
arguments_fault arguments = or_else (fault_of dvg_app arguments) (options_fault (subcommand_of dvg_app arguments))

-- the command takes the arguments, and so do the options of the subcommand
abbrev pub TakesArguments : List Text → Type 0
TakesArguments arguments = (takes dvg_app arguments ≡ true) × (options_fault (subcommand_of dvg_app arguments) ≡ [])

-- the job is the subcommand that was matched, with the options that the matching sets
abbrev pub IsJob : Job → Option (Text × List Row) → Type 0
IsJob list_job met = option_map {U = Text × Bool} (λ p. (p.0, gives (codes "at") p.1)) met ≡ Some (codes "list", false)
IsJob (ListAt address) met =
    option_map {U = Text × Option ℕ} (λ p. (p.0, address_of p.1)) met ≡ Some (codes "list", Some address)
IsJob Rom met = option_map (λ p. p.0) met ≡ Some (codes "rom")
IsJob (Picture form) met = option_map {U = Text × Bool × Bool × Bool × Bool}
    (λ p. (p.0, sets (codes "svg") p.1, sets (codes "all") p.1, sets (codes "moves") p.1, sets (codes "units") p.1)) met
    ≡ Some (codes "picture", false, form.all, form.moves, form.units)
IsJob (PictureSvg percent) met =
    option_map {U = Text × Bool × Option ℕ} (λ p. (p.0, sets (codes "svg") p.1, percent_of p.1)) met
    ≡ Some (codes "picture", true, Some percent)
IsJob (Check bound) met =
    option_map {U = Text × Bool} (λ p. (p.0, sets (codes "bound") p.1)) met ≡ Some (codes "check", bound)
IsJob (Play all banked) met = option_map {U = Text × Bool × Bool × Bool}
    (λ p. (p.0, sets (codes "svg") p.1, sets (codes "all") p.1, sets (codes "banked") p.1)) met
    ≡ Some (codes "play", false, all, banked)
IsJob (PlaySvg banked show) met = option_map {U = Text × Bool × Bool × Option ℕ × Option ℕ}
    (λ p. (p.0, sets (codes "svg") p.1, sets (codes "banked") p.1, percent_of p.1, rate_of p.1)) met
    ≡ Some (codes "play", true, banked, Some show.percent, Some show.rate)
IsJob (Torn rule base) met = option_map {U = Text × LogRule × Option (Option ℕ)}
    (λ p. (p.0, rule_of (sets (codes "moments") p.1) (sets (codes "all") p.1), base_of p.1)) met
    ≡ Some (codes "torn", rule, Some base)
IsJob (Render show) met = option_map {U = Text × Bool × Option ℕ × Option ℕ}
    (λ p. (p.0, sets (codes "check") p.1, percent_of p.1, rate_of p.1)) met
    ≡ Some (codes "render", false, Some show.percent, Some show.rate)
IsJob RenderCheck met =
    option_map {U = Text × Bool} (λ p. (p.0, sets (codes "check") p.1)) met ≡ Some (codes "render", true)
IsJob (Lay form) met =
    option_map {U = Text × Option LayForm} (λ p. (p.0, form_of p.1)) met ≡ Some (codes "lay", Some form)
IsJob Explain met = option_map (λ p. p.0) met ≡ Some (codes "explain")
IsJob (Game notes) met =
    option_map {U = Text × Bool} (λ p. (p.0, sets (codes "notes") p.1)) met ≡ Some (codes "game", notes)

-- the name of a subcommand whose options can't be refused (for a private contract)
abbrev pub IsPlainName : Text → Type 0
IsPlainName name = (name ≡ codes "rom")
    ⊎ ((name ≡ codes "check") ⊎ ((name ≡ codes "explain") ⊎ (name ≡ codes "game")))

-- the name of a subcommand that is a job (for a private contract)
abbrev pub IsJobName : Text → Type 0
IsJobName name = (name ≡ codes "list") ⊎ ((name ≡ codes "picture") ⊎ ((name ≡ codes "play")
    ⊎ ((name ≡ codes "render") ⊎ ((name ≡ codes "lay") ⊎ ((name ≡ codes "torn") ⊎ IsPlainName name)))))

-- the exit status of arguments that give no job, by the kind of the error
abbrev pub error_status : ErrorKind → ℕ
error_status DisplayHelp = 0
error_status DisplayVersion = 0
error_status OutOfMemory = 2
error_status _ = 64
