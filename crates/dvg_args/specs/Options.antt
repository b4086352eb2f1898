-- What the options of a subcommand say, and how they are refused.
use Rattle.std.specs.Prelude.{◌≡◌, ◌==◌, ◌&&◌, ◌||◌, ℕ, Bool, true, false, not, List, [], ◌∷◌, Option, Some, None}
use Rattle.std.specs.Prelude.{Result, MatchResult, codes, count_by, if◌then◌else◌, is_some, length, nat_lt}
use Rattle.std.specs.Prelude.{option_and_then, option_map}
use Rattle.std.specs.Char.{digit_value}
use Rattle.std.specs.Int.{is_in_range}
use Rattle.std.specs.List.{list_all}
use Rattle.std.specs.Option.{option_map_or}
use Rattle.std.specs.Str.{bytes_eq}
use Rattle.std.specs.Str.Parse.{digits_value, without_leading_plus}
use Rattle.clap.specs.Words.{Kinds, Row, Text, first_of}
use Rattle.clap.specs.declared.error.kind.ErrorKind.{ErrorKind}
use Rattle.clap.specs.declared.error.kind.ErrorKind.TheVariants.{ArgumentConflict, InvalidValue}
use Rattle.clap.specs.declared.error.kind.ErrorKind.TheVariants.{MissingRequiredArgument}
use Rattle.dvg_job.specs.declared.form.LayForm.{LayForm}
use Rattle.dvg_job.specs.declared.form.LayForm.TheVariants.{Bytes, Table, Rom as RomBytes, Equates, Draft}
use Rattle.dvg_job.specs.declared.form.LogRule.{LogRule}
use Rattle.dvg_job.specs.declared.form.LogRule.TheVariants.{Halves, Moments, AllMoments}
use Rattle.dvg_job.specs.declared.form.Show.{Show}
use Rattle.dvg_args.specs.declared.showing.TheConstants.{LEAST_PERCENT, LEAST_RATE, MOST_PERCENT, MOST_RATE}
use Rattle.dvg_args.specs.declared.showing.TheConstants.{USUAL_PERCENT, USUAL_RATE}
use Rattle.dvg_mem.specs.declared.half.Half.TheVariants.{H0, H1}

-- the matching sets the flag
abbrev pub sets : Text → List Row → Bool
sets id rows = option_map_or (λ t. bytes_eq t (codes "true")) (first_of id rows) false

-- the matching gives the option a value
abbrev pub gives : Text → List Row → Bool
gives id rows = is_some (first_of id rows)

-- ---- numbers

-- digits, at least one
abbrev pub is_numeral : (radix : ℕ) → Text → Bool
is_numeral radix digits = nat_lt 0 (length digits) && list_all (λ d. nat_lt (digit_value d) radix) digits

-- the number that decimal digits write, where it is one from `least` to `most`
abbrev pub decimal_in : (least most : ℕ) → (digits : Text) → Option ℕ
decimal_in least most digits =
    if is_numeral 10 digits && is_in_range least most (digits_value 10 digits) then Some (digits_value 10 digits)
    else None

-- the same of a text, in which a plus may stand first
abbrev pub number_in : (least most : ℕ) → Text → Option ℕ
number_in least most text = decimal_in least most (without_leading_plus text)

-- the number that an option gives, or else the default
abbrev pub number_of : Text → (least most default : ℕ) → List Row → Option ℕ
number_of id least most default rows = option_map_or (number_in least most) (first_of id rows) (Some default)

-- the size of pictures, in percent
abbrev pub percent_of : List Row → Option ℕ
percent_of = number_of (codes "scale") LEAST_PERCENT MOST_PERCENT USUAL_PERCENT

-- how many pictures are shown a second
abbrev pub rate_of : List Row → Option ℕ
rate_of = number_of (codes "rate") LEAST_RATE MOST_RATE USUAL_RATE

-- the number that so many hexadecimal digits write
abbrev pub hex_in : ℕ → Text → Option ℕ
hex_in digits text = if length text == digits && is_numeral 16 text then Some (digits_value 16 text) else None

-- the address that `list` is given
abbrev pub address_of : List Row → Option ℕ
address_of rows = option_and_then (hex_in 3) (first_of (codes "at") rows)

-- ---- logs

-- the rule by which a log is judged
abbrev pub rule_of : (moments all : Bool) → LogRule
rule_of false all = Halves
rule_of true false = Moments
rule_of true true = AllMoments

-- a base, where one is given: none is an answer, too
abbrev pub base_in : Option Text → Option (Option ℕ)
base_in None = Some None
base_in (Some text) = option_map Some (hex_in 4 text)

-- the base that `torn` is given
abbrev pub base_of : List Row → Option (Option ℕ)
base_of rows = base_in (first_of (codes "base") rows)

-- ---- the forms of `lay`

-- how many forms of `lay` are asked for
abbrev pub forms_wanted : (half table rom equates draft : Bool) → ℕ
forms_wanted half table rom equates draft =
    count_by (λ is_given. is_given) (half ∷ table ∷ rom ∷ equates ∷ draft ∷ [])

-- the form in a half of this number
abbrev pub half_form : Text → Option LayForm
half_form number = if bytes_eq number (codes "0") then Some (Bytes H0)
    else (if bytes_eq number (codes "1") then Some (Bytes H1) else None)

-- the form that an option asks for; without one it is half 0
abbrev pub form_by : (table rom equates draft : Bool) → (half : Option Text) → Option LayForm
form_by true rom equates draft half = Some Table
form_by false true equates draft half = Some RomBytes
form_by false false true draft half = Some Equates
form_by false false false true half = Some Draft
form_by false false false false half = option_map_or half_form half (Some (Bytes H0))

-- how many of the options of `lay` the matching gives
abbrev pub forms_given : List Row → ℕ
forms_given rows = forms_wanted (gives (codes "half") rows) (sets (codes "table") rows)
    (sets (codes "rom") rows) (sets (codes "equates") rows) (sets (codes "draft") rows)

-- the form that the options of `lay` ask for
abbrev pub form_of : List Row → Option LayForm
form_of rows = form_by (sets (codes "table") rows) (sets (codes "rom") rows)
    (sets (codes "equates") rows) (sets (codes "draft") rows) (first_of (codes "half") rows)

-- ---- how options are refused

-- options that exclude each other, one that wants another which isn't given, or a value that is none
abbrev pub refused_by : (clash lacking good : Bool) → Kinds
refused_by clash lacking good = if clash then ArgumentConflict ∷ []
    else (if lacking then MissingRequiredArgument ∷ [] else (if good then [] else InvalidValue ∷ []))

-- the size and the rate are good
abbrev pub shows_well : List Row → Bool
shows_well rows = is_some (percent_of rows) && is_some (rate_of rows)

-- how the option of `list` is refused
abbrev pub list_fault : List Row → Kinds
list_fault rows = refused_by false false (not (gives (codes "at") rows) || is_some (address_of rows))

-- how the options of `picture` and of `play` are refused: `clash` says whether two of them exclude
-- each other; a size and a rate need `--svg`
abbrev pub svg_fault : (clash : Bool) → List Row → Kinds
svg_fault clash rows = refused_by clash
    (not (sets (codes "svg") rows) && (gives (codes "scale") rows || gives (codes "rate") rows))
    (shows_well rows)

-- how the options of `picture` are refused: an SVG and each instruction exclude each other, and moves and whole units
abbrev pub picture_fault : List Row → Kinds
picture_fault rows = svg_fault
    ((sets (codes "svg") rows && sets (codes "all") rows)
    || ((sets (codes "svg") rows || sets (codes "all") rows)
    && (sets (codes "moves") rows || sets (codes "units") rows)))
    rows

-- how the options of `play` are refused: an SVG and each entry exclude each other
abbrev pub play_fault : List Row → Kinds
play_fault rows = svg_fault (sets (codes "svg") rows && sets (codes "all") rows) rows

-- how the options of `render` are refused
abbrev pub render_fault : List Row → Kinds
render_fault rows = refused_by false false (shows_well rows)

-- how the options of `lay` are refused
abbrev pub lay_fault : List Row → Kinds
lay_fault rows = refused_by (nat_lt 1 (forms_given rows)) false (is_some (form_of rows))

-- how the options of `torn` are refused: all runs are told by moments alone
abbrev pub torn_fault : List Row → Kinds
torn_fault rows =
    refused_by false (sets (codes "all") rows && not (sets (codes "moments") rows)) (is_some (base_of rows))

-- how the options of a subcommand are refused; one that isn't named here has none that can be
abbrev pub fault_in : Text → List Row → Kinds
fault_in name rows = if bytes_eq name (codes "list") then list_fault rows
    else (if bytes_eq name (codes "picture") then picture_fault rows
    else (if bytes_eq name (codes "play") then play_fault rows
    else (if bytes_eq name (codes "render") then render_fault rows
    else (if bytes_eq name (codes "lay") then lay_fault rows
    else (if bytes_eq name (codes "torn") then torn_fault rows else [])))))

-- an answer comes only where nothing is refused, and a kind where it is the one (for a private contract)
abbrev pub Refuses : {T : Type 0} → Result T ErrorKind → Kinds → Type 0
Refuses answer kinds = MatchResult answer (λ _. kinds ≡ []) (λ kind. kinds ≡ kind ∷ [])

-- how large and how fast pictures are shown (for a private contract)
abbrev pub Shows : List Row → Show → Type 0
Shows rows show = (percent_of rows ≡ Some show.percent) × (rate_of rows ≡ Some show.rate)
