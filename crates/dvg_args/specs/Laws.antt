-- What some arguments come to.
use Rattle.std.specs.Prelude.{◌≡◌, ℕ, true, false, All, IfSome, List, [], ◌∷◌, None, Some, codes, map}
use Rattle.clap.specs.Words.{Kinds, Row, Text, subcommand_of}
use Rattle.clap.specs.declared.error.kind.ErrorKind.TheVariants.{ArgumentConflict, DisplayHelp, DisplayVersion}
use Rattle.clap.specs.declared.error.kind.ErrorKind.TheVariants.{InvalidSubcommand, InvalidValue}
use Rattle.clap.specs.declared.error.kind.ErrorKind.TheVariants.{MissingRequiredArgument, MissingSubcommand}
use Rattle.clap.specs.declared.error.kind.ErrorKind.TheVariants.{UnknownArgument}
use Rattle.dvg_args.specs.Options.{gives, sets}
use Rattle.dvg_args.specs.Arguments.{IsJob, TakesArguments, arguments_fault, dvg_app, options_fault}
use Rattle.dvg_job.specs.declared.task.Job.{Job}
use Rattle.dvg_job.specs.declared.task.Job.TheVariants.{List as list_job, ListAt, Rom, Picture, PictureSvg, Check}
use Rattle.dvg_job.specs.declared.task.Job.TheVariants.{Play, PlaySvg, Torn, Render, RenderCheck, Lay, Explain, Game}
use Rattle.dvg_job.specs.declared.form.LogRule.TheVariants.{Halves, Moments, AllMoments}
use Rattle.dvg_job.specs.declared.form.TheConstants.PictureForm.{PLAIN}
use Rattle.dvg_job.specs.declared.form.Show.{Show}
use Rattle.dvg_mem.specs.declared.half.Half.TheVariants.{H0, H1}
use Rattle.dvg_job.specs.declared.form.LayForm.TheVariants.{Bytes, Table, Rom as RomBytes, Equates, Draft}

-- the arguments are taken and ask for the job
abbrev pub AreFor : List Text → Job → Type 0
AreFor arguments job = TakesArguments arguments × (arguments_fault arguments ≡ [])
    × IsJob job (subcommand_of dvg_app arguments)

-- after any name of the program, the arguments are taken and ask for the job
abbrev pub AskFor : List Text → Job → Type 0
AskFor arguments job = (name : Text) → AreFor (name ∷ arguments) job

-- after any name of the program, each of these arguments fails by one of the kinds beside it
abbrev pub FailAs : List (List Text × Kinds) → Type 0
FailAs rows = (name : Text) → map (λ row. arguments_fault (name ∷ row.0)) rows ≡ map (λ row. row.1) rows

-- pictures of this size, at this rate
abbrev pub show_of : (percent rate : ℕ) → Show
show_of percent rate = record { percent = percent; rate = rate }

-- the arguments of each job that reads no sketch
abbrev pub TextJobArguments : Type 0
TextJobArguments = AskFor (codes "list" ∷ []) list_job
    × AskFor (codes "list" ∷ codes "--at" ∷ codes "000" ∷ []) (ListAt 0)
    × AskFor (codes "list" ∷ codes "--at" ∷ codes "FfE" ∷ []) (ListAt 4094)
    × AskFor (codes "rom" ∷ []) Rom
    × AskFor (codes "picture" ∷ []) (Picture PLAIN)
    × AskFor (codes "picture" ∷ codes "--all" ∷ []) (Picture (record PLAIN { all = true }))
    × AskFor (codes "picture" ∷ codes "--moves" ∷ []) (Picture (record PLAIN { moves = true }))
    × AskFor (codes "picture" ∷ codes "--units" ∷ codes "--moves" ∷ [])
    (Picture (record PLAIN { moves = true; units = true }))
    × AskFor (codes "picture" ∷ codes "--svg" ∷ []) (PictureSvg 100)
    × AskFor (codes "picture" ∷ codes "--scale" ∷ codes "10" ∷ codes "--svg" ∷ []) (PictureSvg 10)
    × AskFor (codes "check" ∷ []) (Check false)
    × AskFor (codes "check" ∷ codes "--bound" ∷ []) (Check true)
    × AskFor (codes "play" ∷ []) (Play false false)
    × AskFor (codes "play" ∷ codes "--all" ∷ []) (Play true false)
    × AskFor (codes "play" ∷ codes "--banked" ∷ []) (Play false true)
    × AskFor (codes "play" ∷ codes "--banked" ∷ codes "--all" ∷ []) (Play true true)
    × AskFor (codes "play" ∷ codes "--svg" ∷ []) (PlaySvg false (show_of 100 30))
    × AskFor (codes "play" ∷ codes "--rate" ∷ codes "60" ∷ codes "--svg" ∷ codes "--banked" ∷ codes "--scale=400" ∷ [])
    (PlaySvg true (show_of 400 60))
    × AskFor (codes "torn" ∷ []) (Torn Halves None)
    × AskFor (codes "torn" ∷ codes "--base" ∷ codes "4000" ∷ []) (Torn Halves (Some 0x4000))
    × AskFor (codes "torn" ∷ codes "--moments" ∷ []) (Torn Moments None)
    × AskFor (codes "torn" ∷ codes "--moments" ∷ codes "--all" ∷ []) (Torn AllMoments None)
    × AskFor (codes "torn" ∷ codes "--all" ∷ codes "--moments" ∷ []) (Torn AllMoments None)
    × AskFor (codes "torn" ∷ codes "--moments" ∷ codes "--base=fFfF" ∷ codes "--all" ∷ [])
    (Torn AllMoments (Some 0xFFFF))
    × AskFor (codes "explain" ∷ []) Explain
    × AskFor (codes "game" ∷ []) (Game false)
    × AskFor (codes "game" ∷ codes "--notes" ∷ []) (Game true)

-- the arguments of each job that reads a sketch
abbrev pub SketchJobArguments : Type 0
SketchJobArguments = AskFor (codes "render" ∷ []) (Render (show_of 100 30))
    × AskFor (codes "render" ∷ codes "--scale" ∷ codes "33" ∷ codes "--rate" ∷ codes "1" ∷ []) (Render (show_of 33 1))
    × AskFor (codes "render" ∷ codes "--check" ∷ []) RenderCheck
    × AskFor (codes "render" ∷ codes "--check" ∷ codes "--scale" ∷ codes "50" ∷ codes "--rate" ∷ codes "3" ∷ [])
    RenderCheck
    × AskFor (codes "lay" ∷ []) (Lay (Bytes H0))
    × AskFor (codes "lay" ∷ codes "--half" ∷ codes "0" ∷ []) (Lay (Bytes H0))
    × AskFor (codes "lay" ∷ codes "--half" ∷ codes "1" ∷ []) (Lay (Bytes H1))
    × AskFor (codes "lay" ∷ codes "--half=1" ∷ []) (Lay (Bytes H1))
    × AskFor (codes "lay" ∷ codes "--table" ∷ []) (Lay Table)
    × AskFor (codes "lay" ∷ codes "--rom" ∷ []) (Lay RomBytes)
    × AskFor (codes "lay" ∷ codes "--equates" ∷ []) (Lay Equates)
    × AskFor (codes "lay" ∷ codes "--draft" ∷ []) (Lay Draft)

-- arguments that ask for help, or for the version; what comes after `help` may also be refused
-- because it is no subcommand
abbrev pub HelpArguments : Type 0
HelpArguments = FailAs (
    (codes "--help" ∷ [], DisplayHelp ∷ [])
    ∷ (codes "-h" ∷ [], DisplayHelp ∷ [])
    ∷ (codes "play" ∷ codes "--help" ∷ [], DisplayHelp ∷ [])
    ∷ (codes "help" ∷ [], DisplayHelp ∷ InvalidSubcommand ∷ [])
    ∷ (codes "help" ∷ codes "play" ∷ [], DisplayHelp ∷ InvalidSubcommand ∷ [])
    ∷ (codes "--version" ∷ [], DisplayVersion ∷ [])
    ∷ (codes "-V" ∷ [], DisplayVersion ∷ []) ∷ [])

-- arguments that are refused: none, a word that is no subcommand, an option of another subcommand, an
-- option twice, and an argument too many
abbrev pub OtherArguments : Type 0
OtherArguments = FailAs (
    ([], MissingSubcommand ∷ [])
    ∷ (codes "lists" ∷ [], UnknownArgument ∷ InvalidSubcommand ∷ [])
    ∷ (codes "draw" ∷ [], UnknownArgument ∷ InvalidSubcommand ∷ [])
    ∷ (codes "list" ∷ codes "--all" ∷ [], UnknownArgument ∷ [])
    ∷ (codes "check" ∷ codes "--all" ∷ [], UnknownArgument ∷ [])
    ∷ (codes "torn" ∷ codes "--svg" ∷ [], UnknownArgument ∷ [])
    ∷ (codes "explain" ∷ codes "--all" ∷ [], UnknownArgument ∷ [])
    ∷ (codes "game" ∷ codes "--rom" ∷ [], UnknownArgument ∷ [])
    ∷ (codes "play" ∷ codes "--all" ∷ codes "--all" ∷ [], ArgumentConflict ∷ [])
    ∷ (codes "list" ∷ codes "list" ∷ [], UnknownArgument ∷ []) ∷ [])

-- options that are refused: a value that is none or that is missing, options that exclude each
-- other, a size or a rate without `--svg`, and all torn runs without `--moments`
abbrev pub RefusedOptions : Type 0
RefusedOptions = FailAs (
    (codes "list" ∷ codes "--at" ∷ codes "12" ∷ [], InvalidValue ∷ [])
    ∷ (codes "list" ∷ codes "--at" ∷ codes "12G" ∷ [], InvalidValue ∷ [])
    ∷ (codes "list" ∷ codes "--at" ∷ codes "+12" ∷ [], InvalidValue ∷ [])
    ∷ (codes "list" ∷ codes "--at" ∷ codes "1000" ∷ [], InvalidValue ∷ [])
    ∷ (codes "picture" ∷ codes "--svg" ∷ codes "--all" ∷ [], ArgumentConflict ∷ [])
    ∷ (codes "picture" ∷ codes "--moves" ∷ codes "--all" ∷ [], ArgumentConflict ∷ [])
    ∷ (codes "picture" ∷ codes "--svg" ∷ codes "--units" ∷ [], ArgumentConflict ∷ [])
    ∷ (codes "picture" ∷ codes "--scale" ∷ codes "50" ∷ [], MissingRequiredArgument ∷ [])
    ∷ (codes "picture" ∷ codes "--svg" ∷ codes "--scale" ∷ codes "9" ∷ [], InvalidValue ∷ [])
    ∷ (codes "play" ∷ codes "--all" ∷ codes "--svg" ∷ [], ArgumentConflict ∷ [])
    ∷ (codes "play" ∷ codes "--rate" ∷ codes "3" ∷ [], MissingRequiredArgument ∷ [])
    ∷ (codes "play" ∷ codes "--svg" ∷ codes "--rate" ∷ codes "61" ∷ [], InvalidValue ∷ [])
    ∷ (codes "render" ∷ codes "--scale" ∷ codes "401" ∷ [], InvalidValue ∷ [])
    ∷ (codes "render" ∷ codes "--check" ∷ codes "--rate" ∷ codes "0" ∷ [], InvalidValue ∷ [])
    ∷ (codes "render" ∷ codes "--rate" ∷ [], InvalidValue ∷ [])
    ∷ (codes "torn" ∷ codes "--all" ∷ [], MissingRequiredArgument ∷ [])
    ∷ (codes "torn" ∷ codes "--base" ∷ codes "400" ∷ [], InvalidValue ∷ [])
    ∷ (codes "torn" ∷ codes "--moments" ∷ codes "--base" ∷ codes "+400" ∷ [], InvalidValue ∷ [])
    ∷ (codes "torn" ∷ codes "--base" ∷ codes "14000" ∷ [], InvalidValue ∷ [])
    ∷ (codes "lay" ∷ codes "--half" ∷ codes "2" ∷ [], InvalidValue ∷ [])
    ∷ (codes "lay" ∷ codes "--half" ∷ [], InvalidValue ∷ [])
    ∷ (codes "lay" ∷ codes "--half" ∷ codes "0" ∷ codes "--rom" ∷ [], ArgumentConflict ∷ [])
    ∷ (codes "lay" ∷ codes "--rom" ∷ codes "--table" ∷ [], ArgumentConflict ∷ [])
    ∷ (codes "lay" ∷ codes "--draft" ∷ codes "--rom" ∷ [], ArgumentConflict ∷ [])
    ∷ (codes "lay" ∷ codes "--half" ∷ codes "0" ∷ codes "--half" ∷ codes "1" ∷ [], ArgumentConflict ∷ []) ∷ [])

-- the matching gives none of the options that this subcommand may refuse
abbrev pub GivesNoneRefused : Text → List Row → Type 0
GivesNoneRefused name rows = (name ≡ codes "torn" → sets (codes "all") rows ≡ false)
    × All (λ id. sets id rows ≡ false) (codes "svg" ∷ codes "moves" ∷ codes "units" ∷ codes "table"
    ∷ codes "rom" ∷ codes "equates" ∷ codes "draft" ∷ [])
    × All (λ id. gives id rows ≡ false) (codes "at" ∷ codes "scale" ∷ codes "rate" ∷ codes "half"
    ∷ codes "base" ∷ [])

-- without these options nothing is refused after the matching, so arguments that the command takes
-- fail only where an allocation fails
abbrev pub UnrefusedOptions : Type 0
UnrefusedOptions = (arguments : List Text)
    → IfSome (subcommand_of dvg_app arguments) (λ met. GivesNoneRefused met.0 met.1)
    → options_fault (subcommand_of dvg_app arguments) ≡ []
