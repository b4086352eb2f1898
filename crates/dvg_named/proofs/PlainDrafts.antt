-- Each plain draft is a sketch: of one frame, of the same draft and of the same ROM.
use Rattle.std.proofs.Common.{◌≡◌, ◌⊎◌, ◌∙◌, ◌<◌, ◌≤◌, ℕ, zero, suc, List, [], ◌∷◌, ◌++◌, All, Bool, None, Some, ap, append-nil, arith, codes, eqb, false, inl, inr, length, map, refl, subst, sym, take, true}
use Rattle.std.proofs.lemmas.Bool.{cases_lt, eqb-true, false_from_ne_true}
use Rattle.std.proofs.lemmas.List.{length-map, map-append}
use Rattle.std.proofs.lemmas.List.Elements.{All-append, All-cons, All-head, All-nil, All-tail}
use Rattle.std.proofs.lemmas.Str.Ascii.{lowercase_is}
use Rattle.std.specs.Char.{to_ascii_lowercase}
use Rattle.std.specs.List.{AllZip, filter, onto_first, slice_split}
use Rattle.std.specs.Prelude.{if◌then◌else◌}
use Rattle.dvg_frame.specs.declared.op.OpKind.{OpKind}
use Rattle.dvg_read.specs.DraftTexts.{Denotes}
use Rattle.dvg_read.specs.OpLines.{IsOpLine}
use Rattle.dvg_read.specs.RomTexts.{IsMapLine, IsRomLine, RomLine, RomText, SpellsRom, large, mapped, small, unmapped}
use Rattle.dvg_read.specs.Texts.{IsHex, is_passed, lines, parts, unpassed}
use Rattle.dvg_named.specs.Meanings.{IsDrafted, IsFrameOf}
use Rattle.dvg_named.specs.SketchFaults.{DenotesFrames, KeepsLimits, laid_of}
use Rattle.dvg_rows.specs.RowPlaces.{AreDistinct, names_of}
use Rattle.dvg_named.specs.Places.{Laid}
use Rattle.dvg_rows.specs.RowPlaces.{doings}
use Rattle.dvg_rows.specs.PlainLines.{is_blank, is_some_byte, plain, plain_lines, tokens, uncommented}
use Rattle.dvg_rows.specs.Rows.{IsRowLine, Row, RowParts, does, plainly}
use Rattle.dvg_rows.specs.Rows as rows
use Rattle.dvg_named.specs.Sections.{Spelled, SpellsSketch}
use Rattle.dvg_named.specs.SketchSteps.{so_far}
use Rattle.dvg_named.proofs.FrontLimits.{no_names}
use Rattle.dvg_rows.proofs.LineCuts.{cut_at_comment}
use Rattle.dvg_named.proofs.PlainTokens.{passed_without_tokens}
use Rattle.dvg_named.proofs.ReadCuts.{top_alone}
use Rattle.dvg_named.proofs.ReadLimits.{IsInRom, IsOnce, IsSmall, framed, within_out}
use Rattle.dvg_named.proofs.SmallTokens.{IsTidy, low, low_hex, op_lowered, tidy_hex, tidy_name}
use Rattle.dvg_named.proofs.TidyLines.{IsPlain, line_is_plain, low_parts}

-- ---- the lines of a text in small letters

-- a byte before the letters stays, and no other becomes it
same_test_by : (c byte : ℕ) → c < 65 → (byte < 65) ⊎ (65 ≤ byte) → (byte < 91) ⊎ (91 ≤ byte)
    → eqb (to_ascii_lowercase byte) c ≡ eqb byte c
same_test_by c byte few (inl below) other = ap (λ b. eqb b c) ((lowercase_is byte).1 below)
same_test_by c byte few (inr high) (inr over) = ap (λ b. eqb b c) ((lowercase_is byte).2 (omega (arith, over)))
same_test_by c byte few (inr high) (inl below) =
    let is = (lowercase_is byte).0 (high, omega (arith, below)) in
    false_from_ne_true (eqb (to_ascii_lowercase byte) c)
    (λ e. absurd (omega (arith, few, high, is, eqb-true (to_ascii_lowercase byte) c e)))
    ∙ sym (false_from_ne_true (eqb byte c) (λ e. absurd (omega (arith, few, high, eqb-true byte c e))))

same_test : (c byte : ℕ) → c < 65 → eqb (to_ascii_lowercase byte) c ≡ eqb byte c
same_test c byte few = same_test_by c byte few (cases_lt byte 65) (cases_lt byte 91)

lines_by : (ends : Bool) (byte : ℕ) (rest : List (List ℕ))
    → (if ends then [] ∷ map low rest else onto_first (to_ascii_lowercase byte) (map low rest))
    ≡ map low (if ends then [] ∷ rest else onto_first byte rest)
lines_by true byte rest = refl
lines_by false byte [] = refl
lines_by false byte (line ∷ rest) = refl

lines_low : (text : List ℕ) → lines (low text) ≡ map low (lines text)
lines_low [] = refl
lines_low (byte ∷ bytes) =
    let first = to_ascii_lowercase byte in
    ap (λ ends. if ends then [] ∷ lines (low bytes) else onto_first first (lines (low bytes)))
    (same_test 10 byte (omega arith))
    ∙ ap (λ rest. if eqb byte 10 then [] ∷ rest else onto_first first rest) (lines_low bytes)
    ∙ lines_by (eqb byte 10) byte (lines bytes)

-- ---- lines that are passed over, and those that are unpassed

-- a comment has no tokens
nothing_left : (byte n : ℕ) (bytes : List ℕ) → eqb byte 35 ≡ true → uncommented (take n (byte ∷ bytes)) ≡ []
nothing_left byte zero bytes is = refl
nothing_left byte (suc n) bytes is =
    cut_at_comment [] byte (take n bytes) (All-nil (λ b. eqb b 35 ≡ false)) is

comment_by : (ends : Bool) (byte n : ℕ) (bytes : List ℕ) → eqb byte 35 ≡ true
    → uncommented (if ends then take n (byte ∷ bytes) else byte ∷ bytes) ≡ []
comment_by true byte n bytes is = nothing_left byte n bytes is
comment_by false byte n bytes is = cut_at_comment [] byte bytes (All-nil (λ b. eqb b 35 ≡ false)) is

no_tokens : (byte : ℕ) (bytes : List ℕ) → eqb byte 35 ≡ true → tokens (byte ∷ bytes) ≡ []
no_tokens byte bytes is =
    ap (λ l. filter is_some_byte (slice_split is_blank l)) (comment_by _ byte _ bytes is)

passed_low : (line : List ℕ) → is_passed line ≡ true → is_passed (plain (low line)) ≡ true
passed_low [] is = refl
passed_low (byte ∷ bytes) is =
    passed_without_tokens (low (byte ∷ bytes))
    (no_tokens (to_ascii_lowercase byte) (low bytes) (same_test 35 byte (omega arith) ∙ is))

unpassed_yes : (line : List ℕ) (ls : List (List ℕ)) → is_passed line ≡ false → unpassed (line ∷ ls) ≡ line ∷ unpassed ls
unpassed_yes line ls e = rw e refl

unpassed_no : (line : List ℕ) (ls : List (List ℕ)) → is_passed line ≡ true → unpassed (line ∷ ls) ≡ unpassed ls
unpassed_no line ls e = rw e refl

unpassed_by : (passed : Bool) (line : List ℕ) (ls : List (List ℕ)) → is_passed line ≡ passed
    → All IsPlain (unpassed (line ∷ ls)) → (All IsPlain (unpassed ls) → unpassed (map plain (map low ls)) ≡ map low (unpassed ls))
    → unpassed (map plain (map low (line ∷ ls))) ≡ map low (unpassed (line ∷ ls))
unpassed_by true line ls e h rest =
    unpassed_no (plain (low line)) (map plain (map low ls)) (passed_low line e)
    ∙ rest (subst (All IsPlain) (unpassed_no line ls e) h) ∙ ap (map low) (sym (unpassed_no line ls e))
unpassed_by false line ls e h rest =
    let all = subst (All IsPlain) (unpassed_yes line ls e) h in
    let first = All-head IsPlain line (unpassed ls) all in
    ap (λ l. unpassed (l ∷ map plain (map low ls))) first.plain_is
    ∙ unpassed_yes (low line) (map plain (map low ls)) first.is_unpassed
    ∙ ap (λ l. low line ∷ l) (rest (All-tail IsPlain line (unpassed ls) all))
    ∙ ap (map low) (sym (unpassed_yes line ls e))

unpassed_plain : (ls : List (List ℕ)) → All IsPlain (unpassed ls) → unpassed (map plain (map low ls)) ≡ map low (unpassed ls)
unpassed_plain [] h = refl
unpassed_plain (line ∷ ls) h = unpassed_by (is_passed line) line ls refl h (unpassed_plain ls)

-- ---- lines of operations

-- the row of an operation
abbrev plain_row : OpKind → Row
plain_row op = record { name = None; doing = Some (plainly op) }

ops_plain : (ops : List OpKind) (ls : List (List ℕ)) → AllZip IsOpLine ops ls → All IsPlain ls
ops_plain [] [] h = All-nil IsPlain
ops_plain [] (line ∷ ls) h = absurd h
ops_plain (op ∷ ops) [] h = absurd h
ops_plain (op ∷ ops) (line ∷ ls) h =
    All-cons IsPlain line ls (line_is_plain line (op_lowered h.0).tidy) (ops_plain ops ls h.1)

row_low : (op : OpKind) (line : List ℕ) → IsOpLine op line → IsRowLine (plain_row op) (low line)
row_low op line h =
    let lowered = op_lowered h in
    subst (RowParts (plain_row op)) (sym (low_parts line lowered.tidy)) (does (rows.plain lowered.spells))

rows_low : (ops : List OpKind) (ls : List (List ℕ)) → AllZip IsOpLine ops ls
    → AllZip IsRowLine (map plain_row ops) (map low ls)
rows_low [] [] h = tt
rows_low [] (line ∷ ls) h = absurd h
rows_low (op ∷ ops) [] h = absurd h
rows_low (op ∷ ops) (line ∷ ls) h = (row_low op line h.0, rows_low ops ls h.1)

-- ---- lines that tell of the ROM

words_tidy : (values : List ℕ) (spelled : List (List ℕ)) → AllZip (λ word part. IsHex 4 word part) values spelled
    → All IsTidy (map low spelled)
words_tidy [] [] h = All-nil IsTidy
words_tidy [] (part ∷ spelled) h = absurd h
words_tidy (value ∷ values) [] h = absurd h
words_tidy (value ∷ values) (part ∷ spelled) h =
    All-cons IsTidy (low part) (map low spelled) (tidy_hex 4 value part (omega arith) h.0) (words_tidy values spelled h.1)

words_low : (values : List ℕ) (spelled : List (List ℕ)) → AllZip (λ word part. IsHex 4 word part) values spelled
    → AllZip (λ word part. IsHex 4 word part) values (map low spelled)
words_low [] [] h = tt
words_low [] (part ∷ spelled) h = absurd h
words_low (value ∷ values) [] h = absurd h
words_low (value ∷ values) (part ∷ spelled) h = (low_hex 4 value part h.0, words_low values spelled h.1)

module _ (first : ℕ) (given : RomLine) (line : List ℕ) (h : IsRomLine first given line) where
  rom_tidy : All IsTidy (map low (parts line))
  rom_tidy =
      subst (λ ps. All IsTidy (map low ps)) (sym h.split)
      (All-cons IsTidy (codes "rom") (map low (h.digits ∷ h.spelled)) (tidy_name (codes "rom") (omega arith) refl)
      (All-cons IsTidy (low h.digits) (map low h.spelled) (tidy_hex 3 given.address h.digits (omega arith) h.address)
      (words_tidy given.words h.spelled h.words)))

  rom_low : IsRomLine first given (low line)
  rom_low = record {
    digits = map to_ascii_lowercase h.digits;
    spelled = map low h.spelled;
    split = low_parts line rom_tidy ∙ ap (map low) h.split;
    address = low_hex 3 given.address h.digits h.address;
    words = words_low given.words h.spelled h.words;
    some = h.some;
    most = h.most;
    low = h.low;
    high = h.high;
  }

given_plain : (first : ℕ) (given : List RomLine) (ls : List (List ℕ)) → AllZip (IsRomLine first) given ls → All IsPlain ls
given_plain first [] [] h = All-nil IsPlain
given_plain first [] (line ∷ ls) h = absurd h
given_plain first (words ∷ given) [] h = absurd h
given_plain first (words ∷ given) (line ∷ ls) h =
    All-cons IsPlain line ls (line_is_plain line (rom_tidy first words line h.0)) (given_plain first given ls h.1)

given_low : (first : ℕ) (given : List RomLine) (ls : List (List ℕ)) → AllZip (IsRomLine first) given ls
    → AllZip (IsRomLine first) given (map low ls)
given_low first [] [] h = tt
given_low first [] (line ∷ ls) h = absurd h
given_low first (words ∷ given) [] h = absurd h
given_low first (words ∷ given) (line ∷ ls) h = (rom_low first words line h.0, given_low first given ls h.1)

map_plain : {first : ℕ} {line : List ℕ} → IsMapLine first line → IsPlain line
map_plain small = record { plain_is = refl; is_unpassed = refl }
map_plain large = record { plain_is = refl; is_unpassed = refl }

map_low : {first : ℕ} {line : List ℕ} → IsMapLine first line → IsMapLine first (low line)
map_low small = small
map_low large = large

stated_rom_plain : {rom : RomText} {ls : List (List ℕ)} → SpellsRom rom ls → All IsPlain ls
stated_rom_plain (unmapped {given = given} {ls = ls} h) = given_plain 0x800 given ls h
stated_rom_plain (mapped {first = first} {given = given} {line = line} {ls = ls} m h) =
    All-cons IsPlain line ls (map_plain m) (given_plain first given ls h)

stated_rom_low : {rom : RomText} {ls : List (List ℕ)} → SpellsRom rom ls → SpellsRom rom (map low ls)
stated_rom_low (unmapped {given = given} {ls = ls} h) = unmapped (given_low 0x800 given ls h)
stated_rom_low (mapped {first = first} {given = given} {ls = ls} m h) = mapped (map_low m) (given_low first given ls h)

-- ---- the sketch of a draft

names_none : (ops : List OpKind) → names_of (map plain_row ops) ≡ []
names_none [] = refl
names_none (op ∷ ops) = names_none ops

doings_are : (ops : List OpKind) → doings (map plain_row ops) ≡ map plainly ops
doings_are [] = refl
doings_are (op ∷ ops) = ap (λ l. plainly op ∷ l) (doings_are ops)

drafted : (laid : List Laid) (all : List Row) (ops : List OpKind) → AllZip (IsDrafted laid all) (map plainly ops) ops
drafted laid all [] = tt
drafted laid all (op ∷ ops) = (refl, drafted laid all ops)

module _ (text : List ℕ) (rom : RomText) (ops : List OpKind) (h : Denotes text rom ops) where
  abbrev all_rows : List Row
  all_rows = map plain_row ops

  abbrev sketch : Spelled
  sketch = so_far rom all_rows []

  all_plain : All IsPlain (unpassed (lines text))
  all_plain =
      subst (All IsPlain) (sym h.spelled.cut)
      (All-append IsPlain h.spelled.front h.spelled.rest (stated_rom_plain h.spelled.head) (ops_plain ops h.spelled.rest h.spelled.draft))

  unpassed_lines : unpassed (plain_lines text) ≡ map low h.spelled.front ++ map low h.spelled.rest
  unpassed_lines =
      ap (λ ls. unpassed (map plain ls)) (lines_low text) ∙ unpassed_plain (lines text) all_plain ∙ ap (map low) h.spelled.cut
      ∙ map-append low h.spelled.front h.spelled.rest

  spelled : SpellsSketch sketch (unpassed (plain_lines text))
  spelled = record {
    front = map low h.spelled.front;
    rows = map low h.spelled.rest;
    rest = [];
    cut = unpassed_lines ∙ sym (append-nil (map low h.spelled.front ++ map low h.spelled.rest));
    stated = stated_rom_low h.spelled.head;
    first = rows_low ops h.spelled.rest h.spelled.draft;
    others = tt;
  }

  few : length (doings all_rows) ≤ 511
  few = let count = h.count in omega (arith, count, ap length (doings_are ops), length-map ops plainly)

  limits : KeepsLimits sketch
  limits = within_out sketch (framed None all_rows ∷ []) [] (top_alone all_rows) refl (record {
    once = record {
      in_frames = All-cons IsOnce (framed None all_rows) [] (subst AreDistinct (sym (names_none ops)) no_names) (All-nil IsOnce);
      in_rom = no_names;
      of_frames = no_names;
    };
    drafts = All-cons IsSmall (framed None all_rows) [] few (All-nil IsSmall);
    rom = All-nil (IsInRom rom);
    apart = λ i j d low inside. absurd (omega (arith, low, inside));
  })

  pub plain_drafts : DenotesFrames text rom (record { name = None; draft = ops } ∷ [])
  plain_drafts = record {
    short = h.short;
    sketch = sketch;
    spelled = spelled;
    limits = limits;
    meant = record {
      frames = subst (λ sources. AllZip (IsFrameOf (laid_of sketch)) sources (record { name = None; draft = ops } ∷ []))
          (sym (top_alone all_rows)) (
            record {
              name = refl;
              draft = subst (λ done. AllZip (IsDrafted (laid_of sketch) all_rows) done ops) (sym (doings_are ops))
                  (drafted (laid_of sketch) all_rows ops);
            },
            tt,
          );
      rom_text = record { map = refl; laid_words = []; given = tt; all = sym (append-nil rom.given) };
    };
  }
