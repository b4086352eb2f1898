-- The sections of the ROM among those of a sketch, and how many words they take at most.
use Rattle.std.proofs.Common.{◌≡◌, ◌<◌, ◌≤◌, ◌+◌, ◌*◌, ℕ, List, [], ◌∷◌, ◌++◌, length, map, get_or, take, sym, ap, ◌∙◌, arith, Bool, true, false, not, cond, Option, Some, None, Result, Ok, Err}
use Rattle.std.proofs.lemmas.List.{length-append, length-map, map_more}
use Rattle.std.proofs.lemmas.List.Elements.{filter_map-append}
use Rattle.std.proofs.lemmas.List.Sums.{sum_by-cons}
use Rattle.std.specs.List.{AllZip, cons_option, filter, filter_map, flat_map, sum_by}
use Rattle.std.specs.Prelude.{IfOk}
use Rattle.dvg_code.specs.Spelling.{word_count}
use Rattle.dvg_code.specs.declared.instr.Instr.{Instr}
use Rattle.dvg_code.specs.declared.instr.Instr.TheVariants as instrs
use Rattle.dvg_frame.specs.declared.op.OpKind.TheVariants as kinds
use Rattle.dvg_read.proofs.ReadTo.{lines_length}
use Rattle.dvg_read.specs.RomTexts.{RomText}
use Rattle.dvg_read.specs.Texts.{is_passed, lines, unpassed}
use Rattle.dvg_named.specs.declared.laid.LaidRows as held_laid
use Rattle.dvg_named.specs.declared.laid.RomRows as held_rom
use Rattle.dvg_rows.specs.declared.part.Part.{Part}
use Rattle.dvg_named.specs.declared.reading.Reading.{Reading}
use Rattle.dvg_rows.specs.HeldRows.{rows_of}
use Rattle.dvg_named.specs.LaidValues.{AreLaid, laid_sections, rows_in, sections_of}
use Rattle.dvg_named.specs.SketchFaults.{laid_of}
use Rattle.dvg_named.specs.Places.{laid_from}
use Rattle.dvg_rows.specs.RowPlaces.{doings, size, words_taken}
use Rattle.dvg_rows.specs.PlainLines.{plain}
use Rattle.dvg_named.specs.ReadParts.{front_roms}
use Rattle.dvg_named.specs.RomParts.{rom_in, rom_list}
use Rattle.dvg_rows.specs.Rows.{Doing, Head, IsRowLine, Row, calls, calls_rom, frame, jumps, jumps_rom, plainly, rom, top}
use Rattle.dvg_named.specs.Sections.{RomRows, Section, Spelled, SpellsSection, SpellsSketch, rom_sections}
use Rattle.dvg_named.specs.SketchReading.{Reads, closed_in, head_in, section_in, spelled_in}
use Rattle.dvg_named.specs.TextReading.{ReadsText}
use Rattle.dvg_named.proofs.ReadCuts.{last_rom, roms_cut}

-- one section more
pub part_more : {A : Type 0} (parts : List (Part A)) (i : ℕ) (part : Part A) → i < length parts → part ≡ get_or parts i part
    → filter_map rom_in (map section_in (take (i + 1) parts))
    ≡ filter_map rom_in (map section_in (take i parts)) ++ rom_list (head_in part.head) (rows_of part.rows.items)
part_more parts i part low is =
    ap (filter_map rom_in)
    (map_more section_in parts i part low ∙ ap (λ p. map section_in (take i parts) ++ section_in p ∷ []) (sym is))
    ∙ filter_map-append rom_in (map section_in (take i parts)) (section_in part ∷ [])
    ∙ ap (λ l. filter_map rom_in (map section_in (take i parts)) ++ l) (last_rom (head_in part.head) (rows_of part.rows.items))

-- ---- how many words rows take at most

two_words : (instr : Instr) → word_count instr ≤ 2
two_words (instrs.Vctr scale dx dy z) = omega arith
two_words (instrs.Labs x y scale) = omega arith
two_words (instrs.Svec scale dx dy z) = omega arith
two_words instrs.Halt = omega arith
two_words (instrs.Jsrl a) = omega arith
two_words instrs.Rtsl = omega arith
two_words (instrs.Jmpl a) = omega arith

two_taken : (doing : Doing) → words_taken doing ≤ 2
two_taken (plainly (kinds.Draw instr)) = two_words instr
two_taken (plainly (kinds.CallRom a)) = omega arith
two_taken (plainly (kinds.JumpRom a)) = omega arith
two_taken (plainly (kinds.Call n)) = omega arith
two_taken (plainly (kinds.Jump n)) = omega arith
two_taken (plainly kinds.Return) = omega arith
two_taken (plainly kinds.Halt) = omega arith
two_taken (calls name) = omega arith
two_taken (jumps name) = omega arith
two_taken (calls_rom name) = omega arith
two_taken (jumps_rom name) = omega arith

few_by : (doing : Option Doing) (others : List Doing) (n : ℕ) → sum_by words_taken others ≤ 2 * n
    → sum_by words_taken (cons_option doing others) ≤ 2 * (n + 1)
few_by None others n h = omega arith
few_by (Some doing) others n h =
    let two = two_taken doing in omega (arith, two, h, sum_by-cons words_taken doing others)

few_words_of : (rows : List Row) → size rows ≤ 2 * length rows
few_words_of [] = omega arith
few_words_of (row ∷ rows) =
    let rest = few_by row.doing (doings rows) (length rows) (few_words_of rows) in omega (arith, rest)

-- ---- how many rows a sketch has at most

abbrev rows_with : Section → List Row
rows_with section = section.rows

fewer_by : (head : Head) (rows : List Row) (others : List RomRows)
    → length (rows_in (cons_option (rom_in (record { head = head; rows = rows })) others)) ≤ length rows + length (rows_in others)
fewer_by top rows others = omega arith
fewer_by (frame name) rows others = omega arith
fewer_by (rom address) rows others = omega (arith, length-append rows (rows_in others))

rom_rows_few : (sections : List Section) → length (rows_in (filter_map rom_in sections)) ≤ length (flat_map rows_with sections)
rom_rows_few [] = omega arith
rom_rows_few (section ∷ sections) =
    let rest = rom_rows_few sections in
    let first = fewer_by section.head section.rows (filter_map rom_in sections) in
    omega (arith, rest, first, length-append section.rows (flat_map rows_with sections))

same_count : {A B : Type 0} (R : A → B → Type 0) (xs : List A) (ys : List B) → AllZip R xs ys → length ys ≡ length xs
same_count R [] [] h = omega arith
same_count R [] (y ∷ ys) h = absurd h
same_count R (x ∷ xs) [] h = absurd h
same_count R (x ∷ xs) (y ∷ ys) h = let rest = same_count R xs ys h.1 in omega arith

abbrev flat : List (List (List ℕ)) → List (List ℕ)
flat = flat_map (λ lines. lines)

rows_in_lines : (sections : List Section) (rest : List (List (List ℕ))) → AllZip SpellsSection sections rest
    → length (flat_map rows_with sections) ≤ length (flat rest)
rows_in_lines [] [] h = omega arith
rows_in_lines [] (ls ∷ rest) h = absurd h
rows_in_lines (section ∷ sections) [] h = absurd h
rows_in_lines (section ∷ sections) (ls ∷ rest) h =
    let first = h.0 in
    let count = same_count IsRowLine section.rows first.rest first.rows in
    let cut = ap length first.cut in
    let others = rows_in_lines sections rest h.1 in
    omega (arith, count, cut, others, length-append section.rows (flat_map rows_with sections), length-append ls (flat rest))

filter_few : {X : Type 0} (p : X → Bool) (xs : List X) → length (filter p xs) ≤ length xs
filter_few p [] = omega arith
filter_few p (x ∷ xs) = by (p x) (filter_few p xs)
  where
    by : (b : Bool) → length (filter p xs) ≤ length xs → length (cond b (x ∷ filter p xs) (filter p xs)) ≤ length (x ∷ xs)
    by true h = omega arith
    by false h = omega arith

-- a text's sections of the ROM take no more than two words for each byte
pub rom_few : (sketch : Spelled) (small : List ℕ) → SpellsSketch sketch (unpassed (map plain (lines small)))
    → size (rows_in (rom_sections sketch)) ≤ 2 * length small
rom_few sketch small h =
    let words = few_words_of (rows_in (rom_sections sketch)) in
    let rows = rom_rows_few sketch.others in
    let in_lines = rows_in_lines sketch.others h.rest h.others in
    let cut = ap length h.cut in
    let kept = filter_few (λ line. not (is_passed line)) (map plain (lines small)) in
    let plain_count = length-map (lines small) plain in
    let few = lines_length small in
    omega (arith, words, rows, in_lines, cut, kept, plain_count, few, length-append (h.front ++ h.rows) (flat h.rest), length-append h.front h.rows)

-- ---- what the reader holds

pub if_ok : {X E : Type 0} (r : Result X E) {P Q : X → Type 0} → IfOk r P → ((x : X) → P x → Q x) → IfOk r Q
if_ok (Ok x) h f = f x h
if_ok (Err e) h f = h

-- the sections of the ROM that were found are those of what is spelled
pub held_roms : {A : Type 0} (reading : Reading A) (text : RomText) (closed : List (Part A)) (held : List held_rom.RomRows)
    → Reads text reading → closed ≡ reading.closed.items
    → sections_of held ≡ front_roms (map section_in closed) ++ rom_list (head_in reading.last.head) (rows_of reading.last.rows.items)
    → sections_of held ≡ rom_sections (spelled_in text reading)
held_roms reading text closed held reads same found =
    found
    ∙ ap (λ closed. front_roms (map section_in closed) ++ rom_list (head_in reading.last.head) (rows_of reading.last.rows.items))
    same
    ∙ sym (roms_cut text (closed_in reading) (section_in reading.last) reads.keeps.starts)

-- they take few words
pub held_few : {A : Type 0} (reading : Reading A) (small : List ℕ) (closed : List (Part A)) (held : List held_rom.RomRows)
    → ReadsText small reading → closed ≡ reading.closed.items
    → sections_of held ≡ front_roms (map section_in closed) ++ rom_list (head_in reading.last.head) (rows_of reading.last.rows.items)
    → size (rows_in (sections_of held)) ≤ 2097152
held_few reading small closed held reads same found =
    let are = ap (λ l. size (rows_in l)) (held_roms reading reads.rom closed held reads.reads same found) in
    let few = rom_few (spelled_in reads.rom reading) small reads.spelled in
    let short = reads.short in
    omega (arith, are, few, short)

-- and are laid as those
pub laid_held : {A : Type 0} (reading : Reading A) (text : RomText) (closed : List (Part A)) (held : List held_rom.RomRows)
    (laid : List held_laid.LaidRows) (free : ℕ) → Reads text reading → closed ≡ reading.closed.items
    → sections_of held ≡ front_roms (map section_in closed) ++ rom_list (head_in reading.last.head) (rows_of reading.last.rows.items)
    → free ≡ reading.rom.free → AreLaid free held laid → laid_sections laid ≡ laid_of (spelled_in text reading)
laid_held reading text closed held laid free reads same found is are =
    are ∙ ap (laid_from free) (held_roms reading text closed held reads same found)
    ∙ ap (λ free. laid_from free (rom_sections (spelled_in text reading))) (is ∙ reads.rom.free)
