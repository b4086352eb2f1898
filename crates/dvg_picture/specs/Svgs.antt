-- What `picture_svg` answers and writes.
use Rattle.std.specs.Prelude.{◌≡◌, ℕ, List, Option, Result, Ok, Err, flat_map, option_map, option_to_list}
use Rattle.std.specs.Io.KnownBytes.{Appends}
use Rattle.dvg_gen.specs.declared.stroke.Stroke.{Stroke}
use Rattle.dvg_gen.specs.Run.{Visit}
use Rattle.dvg_dump.specs.declared.ran.Ran.{Ran}
use Rattle.dvg_dump.specs.Ends.{End, Ends, drawn_by}
use Rattle.dvg_dump.specs.Memory.{HasDumpSize, memory_of, parts_of}
use Rattle.dvg_io.specs.declared.fault.ToolFault.{ToolFault}
use Rattle.dvg_io.specs.declared.fault.ToolFault.TheVariants.{Text, Writer}
use Rattle.dvg_io.specs.Watching.{BeginsToWrite}
use Rattle.dvg_svg.specs.Svg.{svg_text}
use Rattle.dvg_picture.specs.declared.undrawn.Undrawn.{Undrawn}
use Rattle.dvg_picture.specs.Pictures.{HasDumpFault}
use Rattle.dvg_picture.specs.Undrawn.{reason_text, undrawn_by}

-- the text of a run's picture: its strokes, and as the title why it drew no picture, if it didn't
abbrev pub run_svg : (percent : ℕ) → Option Undrawn → List Stroke → List ℕ
run_svg percent undrawn drew = svg_text percent (option_map reason_text undrawn) drew

-- the input is a dump, whose run draws these strokes until it ends so
pub record DrawsDump (input : List ℕ) (drew : List Stroke) (undrawn : Option Undrawn) : Type 0 where
  pub size : HasDumpSize input
  pub visits : List Visit
  pub end : End
  pub ends : Ends (memory_of (parts_of input)) visits end
  pub strokes : drew ≡ drawn_by visits
  pub called : undrawn ≡ undrawn_by end

-- what `picture_svg` answers of an input, and what went out: the text, or at `Writer` a beginning of
-- it (that nothing went out at the other faults is a part of `Serves`)
abbrev pub DrawsSvg : (percent : ℕ) → Result (Option Undrawn) ToolFault → (input : List ℕ) → Option (List ℕ)
    → Option (List ℕ)
    → Type 0
DrawsSvg percent (Ok undrawn) input old new =
    (drew : List Stroke) × DrawsDump input drew undrawn × Appends old new (run_svg percent undrawn drew)
DrawsSvg percent (Err (Text fault)) input old new = HasDumpFault input fault
DrawsSvg percent (Err Writer) input old new = (drew : List Stroke) × (undrawn : Option Undrawn)
    × DrawsDump input drew undrawn × BeginsToWrite (run_svg percent undrawn drew) old new
DrawsSvg percent _ input old new = Unit {0}

-- the strokes that are recorded of instructions (for a private contract)
abbrev pub strokes_of : List Ran → List Stroke
strokes_of = flat_map (λ ran. option_to_list ran.stroke)
