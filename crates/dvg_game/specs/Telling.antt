-- What is told of a game.
use Rattle.std.specs.Prelude.{◌≡◌, ◌+◌, ◌<◌, ◌≤◌, ◌++◌, ◌||◌, ℕ, Bool, true, false, nat_eq, All, List, [], ◌∷◌, Option, Some}
use Rattle.std.specs.Prelude.{codes, drop, flat_map, length, map, take}
use Rattle.dvg_io.specs.Serving.{Answers, Meaning}
use Rattle.dvg_print.specs.Lines.{hex_4}
use Rattle.dvg_read.specs.declared.fault.TextFault.{TextFault}
use Rattle.dvg_read.specs.declared.fault.TextFault.TheVariants.{GameSize, LongGame}
use Rattle.dvg_game_words.specs.Checker.{fine_at, first, noted, places}
use Rattle.dvg_game_check.specs.Program.{IsBadAt}
use Rattle.dvg_game_check.specs.Rules.{HasBytes, notes_in}
use Rattle.dvg_game_check.specs.Verdicts.{Means}
use Rattle.dvg_game_check.specs.declared.judging.Judged.{Judged}
use Rattle.dvg_game_check.specs.declared.judging.Verdict.{Verdict}
use Rattle.dvg_game_check.specs.declared.judging.Verdict.TheVariants.{Keeps, Unseen, Refused, Unsettled}
use Rattle.dvg_game_check.specs.declared.known.Unseen.{Unseen as GameUnseen}
use Rattle.dvg_game_check.specs.declared.known.Unseen.TheVariants.{At as unseen_at}
use Rattle.dvg_game_check.specs.declared.note.Note.{Note}
use Rattle.dvg_game_check.specs.declared.program.Refusal.{Refusal}
use Rattle.dvg_game_check.specs.declared.program.Refusal.TheVariants.{Driver, Boot}
use Rattle.dvg_game.specs.declared.engine.TheConstants.{GAME_BYTES}
use Rattle.dvg_game.specs.declared.told.PlaceLine.{PlaceLine}
use Rattle.dvg_game.specs.declared.told.Told.{Told}

-- the vector ROM of a game, and its program behind it
abbrev pub vectors_of : List ℕ → List ℕ
vectors_of input = take 2048 input

abbrev pub program_of : List ℕ → List ℕ
program_of input = drop 2048 input

-- how the text begins; 10 is LF
abbrev pub opening_of : Verdict → List ℕ
opening_of (Keeps start) = codes "no run of these bytes tears a picture" ++ 10 ∷ []
opening_of (Unseen start why) =
    codes "keeps to the rules, but not all that it offers and puts is seen: it may tear a picture" ++ 10 ∷ []
opening_of (Refused why) = codes "refused: "
opening_of (Unsettled why) = codes "not accepted: "

-- a line of an instruction begins with its address, a colon and a space
abbrev pub IsLineOf : {A : Type 0} → PlaceLine A → Type 0
IsLineOf line = (rest : List ℕ) × (line.bytes.items ≡ hex_4 line.at ++ 58 ∷ 32 ∷ rest)

abbrev pub addresses : {A : Type 0} → List (PlaceLine A) → List ℕ
addresses lines = map (λ line. line.at) lines

-- an address is among these
abbrev pub is_told : List ℕ → ℕ → Bool
is_told [] at = false
is_told (one ∷ more) at = nat_eq one at || is_told more at

-- each place that is told isn't fine, and each that isn't told is
pub record TellBroken (bytes : List ℕ) (notes : List (Option Note)) (told : List ℕ) : Type 0 where
  pub each : All (IsBadAt bytes notes) told
  pub others : (at : ℕ) → first ≤ at → at < first + places → is_told told at ≡ false
      → (rom : ℕ → ℕ) → HasBytes bytes rom → fine_at (notes_in notes) rom at (noted (notes_in notes) at) ≡ true

-- where what isn't seen is of an instruction, that one is found (for a private contract)
abbrev pub IsPlaceOf : GameUnseen → Option ℕ → Type 0
IsPlaceOf (unseen_at at gap) place = place ≡ Some at
IsPlaceOf why place = Unit {0}

-- and that one is told
abbrev pub IsToldAs : GameUnseen → List ℕ → Type 0
IsToldAs (unseen_at at gap) told = told ≡ at ∷ []
IsToldAs why told = Unit {0}

-- of which instructions a line is told, where this is against the program
abbrev pub AreToldFor : (bytes : List ℕ) → List (Option Note) → Refusal → List ℕ → Type 0
AreToldFor bytes notes Driver told = told ≡ []
AreToldFor bytes notes (Boot at) told = told ≡ at ∷ []
AreToldFor bytes notes why told = TellBroken bytes notes told

-- of which instructions a line is told
abbrev pub AreToldOf : (bytes : List ℕ) → List (Option Note) → Verdict → List ℕ → Type 0
AreToldOf bytes notes (Keeps start) told = told ≡ []
AreToldOf bytes notes (Unseen start why) told = IsToldAs why told
AreToldOf bytes notes (Refused why) told = AreToldFor bytes notes why told
AreToldOf bytes notes (Unsettled why) told = AreToldFor bytes notes why told

-- what is told of a program, by the notes that the judge gives back
pub record IsToldOf {A : Type 0} (bytes R : List ℕ) (told : Told A) : Type 0 where
  pub judged : Judged A
  pub means : Means bytes R judged
  pub verdict : told.verdict ≡ judged.verdict
  pub lines : AreToldOf bytes judged.notes.items told.verdict (addresses told.lines.items)
  pub form : All IsLineOf told.lines.items

-- this is told of an input
pub record IsTold {A : Type 0} (input : List ℕ) (told : Told A) : Type 0 where
  pub size : length input ≡ GAME_BYTES
  pub game : IsToldOf (program_of input) (vectors_of input) told

-- the text of what is told: the verdict, the lines of instructions, and more, of which nothing is said
abbrev pub told_text : {A : Type 0} → Told A → List ℕ
told_text told = opening_of told.verdict ++ flat_map (λ line. line.bytes.items) told.lines.items ++ told.more.items

-- the fault of an input: how many bytes it has, or that these are more than a game's
abbrev pub HasGameFault : List ℕ → TextFault → Type 0
HasGameFault input (GameSize bytes) = (length input ≡ bytes) × (bytes < GAME_BYTES)
HasGameFault input LongGame = GAME_BYTES < length input
HasGameFault input _ = ⊥

-- what is answered of an input, and what went out
abbrev pub JudgesGame : {A : Type 0} → Meaning (Told A)
JudgesGame = Answers IsTold HasGameFault told_text
