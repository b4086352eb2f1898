-- What `play --svg` answers and writes.
use Rattle.std.specs.Prelude.{◌≡◌, ℕ, List, [], map, Option, Result, Ok, Err}
use Rattle.std.specs.Io.KnownBytes.{Appends}
use Rattle.dvg_gen.specs.declared.stroke.Stroke.{Stroke}
use Rattle.dvg_log.specs.Log.{Log}
use Rattle.dvg_read.specs.TraceTexts.{HasTraceFault}
use Rattle.dvg_io.specs.declared.fault.ToolFault.{ToolFault}
use Rattle.dvg_io.specs.declared.fault.ToolFault.TheVariants.{Text, Writer}
use Rattle.dvg_io.specs.Watching.{BeginsToWrite}
use Rattle.dvg_job.specs.declared.form.Show.{Show}
use Rattle.dvg_svg.specs.Svg.{svgs_text}
use Rattle.dvg_world.specs.Keeping.{pictures_of}
use Rattle.dvg_tool.specs.Plays.{PlaysTrace}

-- a log was played whole, and these are its pictures
abbrev pub ShowsPictures : (text : List ℕ) → List (List Stroke) → Type 0
ShowsPictures text pictures =
    (log : Log) × PlaysTrace text log [] × (pictures ≡ map (λ picture. picture.1) (pictures_of log))

-- what `play --svg` answers to an input, and what went out: the pictures of the log, or at `Writer` a
-- beginning of their text (that nothing went out at the other faults is a part of `Serves`)
abbrev pub PlaysSvg : {T : Type 0} → Show → Result T ToolFault → (input : List ℕ) → Option (List ℕ) → Option (List ℕ)
    → Type 0
PlaysSvg show (Ok done) input old new =
    (pictures : List (List Stroke)) × ShowsPictures input pictures × Appends old new (svgs_text show pictures)
PlaysSvg show (Err (Text fault)) input old new = HasTraceFault input fault
PlaysSvg show (Err Writer) input old new =
    (pictures : List (List Stroke)) × ShowsPictures input pictures × BeginsToWrite (svgs_text show pictures) old new
PlaysSvg show (Err _) input old new = Unit {0}
