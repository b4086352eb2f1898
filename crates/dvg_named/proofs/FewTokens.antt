-- No line that spells something has more than ten tokens.
use Rattle.std.proofs.Common.{◌≡◌, ◌≤◌, ℕ, List, [], ◌∷◌, length, ap, arith}
use Rattle.std.specs.List.{AllZip}
use Rattle.dvg_frame.specs.declared.op.OpKind.{OpKind}
use Rattle.dvg_read.specs.OpLines.{OpParts}
use Rattle.dvg_read.specs.OpLines as ops
use Rattle.dvg_read.specs.RomReading.{TellsRom, gives_words, tells_map}
use Rattle.dvg_read.specs.RomTexts.{IsMapLine, IsRomLine, RomLine, RomText, large, small}
use Rattle.dvg_read.specs.Texts.{parts}
use Rattle.dvg_rows.specs.Rows.{Doing, DoingParts, Head, HeadParts, Row, RowParts}
use Rattle.dvg_rows.specs.Rows as rows
use Rattle.dvg_named.specs.Sections.{Spelled}
use Rattle.dvg_named.specs.SketchSteps.{SketchTakes, adds, begins, tells, tops}

few_of_op : {op : OpKind} {ps : List (List ℕ)} → OpParts op ps → length ps ≤ 9
few_of_op (ops.vctr h) = omega arith
few_of_op (ops.svec h) = omega arith
few_of_op (ops.labs h) = omega arith
few_of_op (ops.callrom h) = omega arith
few_of_op (ops.jumprom h) = omega arith
few_of_op (ops.call h) = omega arith
few_of_op (ops.jump h) = omega arith
few_of_op ops.return = omega arith
few_of_op ops.halt = omega arith

few_of_doing : {doing : Doing} {ps : List (List ℕ)} → DoingParts doing ps → length ps ≤ 9
few_of_doing (rows.plain p) = few_of_op p
few_of_doing (rows.call h) = omega arith
few_of_doing (rows.jump h) = omega arith
few_of_doing (rows.callrom h) = omega arith
few_of_doing (rows.jumprom h) = omega arith

few_of_row : {row : Row} {ps : List (List ℕ)} → RowParts row ps → length ps ≤ 10
few_of_row (rows.named h) = omega arith
few_of_row (rows.does p) = let few = few_of_doing p in omega arith
few_of_row (rows.both h p) = let few = few_of_doing p in omega arith

few_of_head : {head : Head} {ps : List (List ℕ)} → HeadParts head ps → length ps ≤ 10
few_of_head rows.nameless = omega arith
few_of_head (rows.named_frame h) = omega arith
few_of_head rows.anywhere = omega arith
few_of_head (rows.at h) = omega arith

same_count : {A B : Type 0} (R : A → B → Type 0) (xs : List A) (ys : List B) → AllZip R xs ys → length ys ≡ length xs
same_count R [] [] h = omega arith
same_count R [] (y ∷ ys) h = absurd h
same_count R (x ∷ xs) [] h = absurd h
same_count R (x ∷ xs) (y ∷ ys) h = let rest = same_count R xs ys h.1 in omega arith

few_of_map : {first : ℕ} {line : List ℕ} → IsMapLine first line → length (parts line) ≤ 10
few_of_map small = omega arith
few_of_map large = omega arith

few_of_words : (first : ℕ) (given : RomLine) (line : List ℕ) → IsRomLine first given line → length (parts line) ≤ 10
few_of_words first given line h =
    let count = ap length h.split in
    let same = same_count _ given.words h.spelled h.words in
    let most = h.most in
    omega (arith, count, same, most)

few_of_stated : {rom now : RomText} {line : List ℕ} → TellsRom rom line now → length (parts line) ≤ 10
few_of_stated (tells_map m) = few_of_map m
few_of_stated (gives_words given h) = few_of_words _ given _ h

-- a line of more tokens doesn't go on
pub few_tokens : (s t : Spelled) (line : List ℕ) → SketchTakes s line t → length (parts line) ≤ 10
few_tokens s t line (tells h) = few_of_stated h
few_tokens s t line (tops row h) = few_of_row h
few_tokens s t line (adds before section row e may h) = few_of_row h
few_tokens s t line (begins head h) = few_of_head h
