-- Where a text denotes something, no line wants a name that isn't given.
use Rattle.std.proofs.Common.{◌≡◌, ◌+◌, ◌<◌, ◌∙◌, ℕ, List, [], ◌∷◌, ◌++◌, All, Option, Some, None, ap, arith, false, length, length-append, map, max, refl, slice_get, subst, sym, unwrap_or}
use Rattle.std.proofs.lemmas.List.Elements.{All-cons, All-head, All-nil, All-tail, filter_map-append}
use Rattle.std.proofs.lemmas.Option.{get_or_from_slice_get, slice_get_within}
use Rattle.std.proofs.Math.Seq.{get_or-append_seam}
use Rattle.std.specs.Char.{to_ascii_lowercase}
use Rattle.std.specs.List.{AllZip, cons_option, filter_map, join_with_byte}
use Rattle.dvg_code.specs.declared.instr.Instr.{Instr}
use Rattle.dvg_frame.specs.declared.op.OpKind.{OpKind}
use Rattle.dvg_read.specs.RomTexts.{RomLine, RomText}
use Rattle.dvg_read.specs.Texts.{is_passed, lines, unpassed}
use Rattle.dvg_read.proofs.Steps.{Leads}
use Rattle.dvg_named.specs.FrameValues.{frame_in}
use Rattle.dvg_named.specs.Meanings.{Frame, IsDrafted, IsEncoded, IsFrameOf, IsGiven, IsMeant}
use Rattle.dvg_named.specs.SketchFaults.{DenotesFrames, IsUngiven, WantsUngiven, laid_of}
use Rattle.dvg_named.specs.Places.{Laid, laid_from}
use Rattle.dvg_rows.specs.RowPlaces.{doings, size}
use Rattle.dvg_rows.specs.PlainLines.{plain, plain_lines, tokens}
use Rattle.dvg_named.specs.RomParts.{rom_in}
use Rattle.dvg_rows.specs.Rows.{Doing, Head, IsHeadLine, IsRowLine, Row, calls, calls_rom, frame, jumps, jumps_rom, plainly, rom, top}
use Rattle.dvg_named.specs.Sections.{FrameRows, RomRows, Section, Spelled, SpellsSection, SpellsSketch, frames, rom_sections, sections, top_frame}
use Rattle.dvg_named.specs.SketchSteps.{SketchTakes}
use Rattle.dvg_named.specs.Ungiven.{framed, in_rom}
use Rattle.dvg_named.proofs.DraftRows.{drafted_known}
use Rattle.dvg_named.proofs.LineFaults.{unpassed_past}
use Rattle.dvg_named.proofs.NamedSections.{item_cut}
use Rattle.dvg_named.proofs.NumberSteps.{no_empty_row}
use Rattle.dvg_named.proofs.OneSketch.{front_spells, one_sketch}
use Rattle.dvg_named.proofs.PlainTokens.{unpassed_with_tokens}
use Rattle.dvg_named.proofs.RomWritten.{encoded_known}
use Rattle.dvg_named.proofs.RowsStay.{HasRow, stands_after, stands_in}

module _ (laid : List Laid) where
  -- each name that the section wants is given
  abbrev Known : Section → Type 0
  Known section = All (λ doing. ¬ IsUngiven laid section doing) (doings section.rows)

  abbrev KnownFrame : FrameRows → Type 0
  KnownFrame source = Known (framed source.rows)

  abbrev KnownRom : RomRows → Type 0
  KnownRom section = Known (in_rom section.rows)

  abbrev KnownLaid : Laid → Type 0
  KnownLaid section = Known (in_rom section.rows)

  -- ---- what is drafted and what is encoded

  drafts_known : (rows : List Row) (done : List Doing) (ops : List OpKind) → AllZip (IsDrafted laid rows) done ops
      → All (λ doing. ¬ IsUngiven laid (framed rows) doing) done
  drafts_known rows [] ops h = All-nil (λ doing. ¬ IsUngiven laid (framed rows) doing)
  drafts_known rows (doing ∷ done) [] h = absurd h
  drafts_known rows (doing ∷ done) (op ∷ ops) h =
      All-cons (λ doing. ¬ IsUngiven laid (framed rows) doing) doing done (drafted_known laid rows doing op h.0)
      (drafts_known rows done ops h.1)

  frames_known : (sources : List FrameRows) (result : List Frame) → AllZip (IsFrameOf laid) sources result
      → All KnownFrame sources
  frames_known [] result h = All-nil KnownFrame
  frames_known (source ∷ sources) [] h = absurd h
  frames_known (source ∷ sources) (drafted ∷ result) h =
      All-cons KnownFrame source sources (drafts_known source.rows (doings source.rows) drafted.draft h.0.draft)
      (frames_known sources result h.1)

  codes_known : (rows : List Row) (done : List Doing) (instrs : List Instr) → AllZip (IsEncoded laid) done instrs
      → All (λ doing. ¬ IsUngiven laid (in_rom rows) doing) done
  codes_known rows [] instrs h = All-nil (λ doing. ¬ IsUngiven laid (in_rom rows) doing)
  codes_known rows (doing ∷ done) [] h = absurd h
  codes_known rows (doing ∷ done) (instr ∷ instrs) h =
      All-cons (λ doing. ¬ IsUngiven laid (in_rom rows) doing) doing done (encoded_known laid rows doing instr h.0)
      (codes_known rows done instrs h.1)

  given_known : (parts : List Laid) (lines : List RomLine) → AllZip (IsGiven laid) parts lines → All KnownLaid parts
  given_known [] lines h = All-nil KnownLaid
  given_known (section ∷ parts) [] h = absurd h
  given_known (section ∷ parts) (line ∷ lines) h =
      All-cons KnownLaid section parts (codes_known section.rows (doings section.rows) h.0.instrs h.0.encoded)
      (given_known parts lines h.1)

  laid_known : (roms : List RomRows) (free : ℕ) → All KnownLaid (laid_from free roms) → All KnownRom roms
  laid_known [] free all = All-nil KnownRom
  laid_known (section ∷ roms) free all =
      let start = unwrap_or section.address free in
      let next = max free (start + size section.rows) in
      let first : Laid = record { start = start; rows = section.rows } in
      All-cons KnownRom section roms (All-head KnownLaid first (laid_from next roms) all)
      (laid_known roms next (All-tail KnownLaid first (laid_from next roms) all))

  -- ---- all sections

  to_frame : (name : Option (List ℕ)) (rows : List Row) (doing : Doing)
      → IsUngiven laid (record { head = frame name; rows = rows }) doing → IsUngiven laid (framed rows) doing
  to_frame name rows (plainly op) h = h
  to_frame name rows (calls n) h = h
  to_frame name rows (jumps n) h = h
  to_frame name rows (calls_rom n) h = h
  to_frame name rows (jumps_rom n) h = h

  to_rom : (address : Option ℕ) (rows : List Row) (doing : Doing)
      → IsUngiven laid (record { head = rom address; rows = rows }) doing → IsUngiven laid (in_rom rows) doing
  to_rom address rows (plainly op) h = h
  to_rom address rows (calls n) h = h
  to_rom address rows (jumps n) h = h
  to_rom address rows (calls_rom n) h = h
  to_rom address rows (jumps_rom n) h = h

  -- a section that a line begins, and what comes after it
  record KnownWith (head : Head) (rows : List Row) (sources : List FrameRows) (roms : List RomRows) : Type 0 where
    here : Known (record { head = head; rows = rows })
    of_frames : All KnownFrame sources
    of_rom : All KnownRom roms

  known_with : (head : Head) (rows : List Row) (sources : List FrameRows) (roms : List RomRows) (l : List ℕ)
      → IsHeadLine head l → All KnownFrame (cons_option (frame_in (record { head = head; rows = rows })) sources)
      → All KnownRom (cons_option (rom_in (record { head = head; rows = rows })) roms)
      → KnownWith head rows sources roms
  known_with top rows sources roms l is f r = absurd (elim is [ ])
  known_with (frame name) rows sources roms l is f r = record {
    here = λ k d low ungiven.
        All-head KnownFrame (record { name = name; rows = rows }) sources f k d low (to_frame name rows _ ungiven);
    of_frames = All-tail KnownFrame (record { name = name; rows = rows }) sources f;
    of_rom = r;
  }
  known_with (rom address) rows sources roms l is f r = record {
    here = λ k d low ungiven.
        All-head KnownRom (record { address = address; rows = rows }) roms r k d low (to_rom address rows _ ungiven);
    of_frames = f;
    of_rom = All-tail KnownRom (record { address = address; rows = rows }) roms r;
  }

  others_known : (others : List Section) (rest : List (List (List ℕ))) → AllZip SpellsSection others rest
      → All KnownFrame (filter_map frame_in others) → All KnownRom (filter_map rom_in others) → All Known others
  others_known [] rest h f r = All-nil Known
  others_known (section ∷ others) [] h f r = absurd h
  others_known (section ∷ others) (ls ∷ rest) h f r =
      let both = known_with section.head section.rows (filter_map frame_in others) (filter_map rom_in others) h.0.begin
      h.0.head f r in
      All-cons Known section others both.here (others_known others rest h.1 both.of_frames both.of_rom)

  top_known : (rows : List Row) (others : List Section) (sources : List FrameRows)
      → All KnownFrame (top_frame rows others ++ sources) → Known (framed rows)
  top_known [] others sources f = All-nil (λ doing. ¬ IsUngiven laid (framed []) doing)
  top_known (row ∷ rows) others sources f = All-head KnownFrame (record { name = None; rows = row ∷ rows }) sources f

  rest_known : (rows : List Row) (others : List Section) (sources : List FrameRows)
      → All KnownFrame (top_frame rows others ++ sources) → All KnownFrame sources
  rest_known [] [] sources f = All-tail KnownFrame (record { name = None; rows = [] }) sources f
  rest_known [] (section ∷ others) sources f = f
  rest_known (row ∷ rows) others sources f = All-tail KnownFrame (record { name = None; rows = row ∷ rows }) sources f

  -- ---- a row of a section

  row_known : (section : Section) (row : Row) (doing : Doing) → Known section → HasRow section.rows row
      → row.doing ≡ Some doing → ¬ IsUngiven laid section doing
  row_known section row doing known h does =
      let front = doings h.before in
      let all : doings section.rows ≡ front ++ doing ∷ doings h.after =
      ap doings h.cut ∙ filter_map-append (λ (row : Row). row.doing) h.before (row ∷ h.after)
      ∙ ap (λ d. front ++ cons_option d (doings h.after)) does in
      let known_all = subst (All (λ doing. ¬ IsUngiven laid section doing)) all known in
      subst (λ doing. ¬ IsUngiven laid section doing) (get_or-append_seam front doing (doings h.after) doing)
      (known_all (length front) doing (omega (arith, length-append front (doing ∷ doings h.after))))

-- an item that stands in a list
at_place : {X : Type 0} (P : X → Type 0) (xs : List X) (i : ℕ) (x : X) → slice_get xs i ≡ Some x → All P xs → P x
at_place P xs i x is all = subst P (get_or_from_slice_get xs i x x is) (all i x (slice_get_within xs i x is))

-- where a sketch denotes something, each name that is wanted is given
meant_known : (sketch : Spelled) (ls : List (List ℕ)) (result : List Frame) (stated_rom : RomText) → SpellsSketch sketch ls
    → IsMeant sketch result stated_rom → All (Known (laid_of sketch)) (sections sketch)
meant_known sketch ls result stated_rom spelled meant =
    let laid = laid_of sketch in
    let f = frames_known laid (frames sketch) result meant.frames in
    let r = laid_known laid (rom_sections sketch) _
    (given_known laid laid meant.rom_text.laid_words meant.rom_text.given) in
    All-cons (Known laid) (framed sketch.first) sketch.others
    (top_known laid sketch.first sketch.others (filter_map frame_in sketch.others) f)
    (others_known laid sketch.others spelled.rest spelled.others
    (rest_known laid sketch.first sketch.others (filter_map frame_in sketch.others) f) r)

row_unpassed : (source line : List ℕ) (row : Row) (ws : List (List ℕ)) → tokens source ≡ ws → plain source ≡ line
    → IsRowLine row line → is_passed line ≡ false
row_unpassed source line row [] none same is = absurd (no_empty_row line (sym same ∙ ap (join_with_byte 32) none) row is)
row_unpassed source line row (first ∷ ws) some same is =
    subst (λ line. is_passed line ≡ false) same
    (unpassed_with_tokens source (subst (λ ws. 0 < length ws) (sym some) (omega arith)))

-- a line that spells a row is unpassed
line_unpassed : (text : List ℕ) (before after : List (List ℕ)) (line : List ℕ) (row : Row)
    → plain_lines text ≡ before ++ line ∷ after → IsRowLine row line → is_passed line ≡ false
line_unpassed text before after line row cut is =
    let source = item_cut plain (lines (map to_ascii_lowercase text)) before after line cut in
    row_unpassed source.item line row (tokens source.item) refl source.same is

pub none_unknown : (text : List ℕ) (stated_rom : RomText) (result : List Frame) (n : ℕ)
    → DenotesFrames text stated_rom result → ¬ WantsUngiven text n
none_unknown text stated_rom result n d w =
    let fine = w.fine.sketch in
    let same = one_sketch d.sketch fine (unpassed (plain_lines text)) d.spelled w.fine.spelled in
    let known = meant_known fine (unpassed (plain_lines text)) result stated_rom w.fine.spelled
    (subst (λ sketch. IsMeant sketch result stated_rom) (sym same) d.meant) in
    let front = unpassed w.before ++ w.line ∷ [] in
    let lines = ap unpassed w.cut ∙ unpassed_past w.before w.after w.line (line_unpassed text w.before w.after w.line w.row w.cut w.spelled) in
    let (part, up_to, leads) = front_spells fine front (unpassed w.after) (subst (SpellsSketch fine) lines w.fine.spelled) in
    let also = one_sketch part w.part front up_to w.up_to in
    let held = stands_after w.part fine (unpassed w.after) (length w.part.others) w.row
    (subst (λ part. Leads SketchTakes part (unpassed w.after) fine) (sym also) leads)
    (stands_in w.part (unpassed w.before) w.line w.row w.up_to w.spelled) in
    let both : Some held.section ≡ Some w.section = sym held.stands ∙ w.inside in
    let here : held.section ≡ w.section = cc in
    row_known (laid_of fine) w.section w.row w.doing
    (at_place (Known (laid_of fine)) (sections fine) (length w.part.others) w.section w.inside known)
    (subst (λ (section : Section). HasRow section.rows w.row) here held.inside) w.does w.ungiven
