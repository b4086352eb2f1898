-- The words of a section that were put so far.
use Rattle.std.proofs.Common.{◌≡◌, ◌<◌, ◌≤◌, ◌+◌, ◌-◌, ◌/◌, ℕ, List, [], ◌∷◌, ◌++◌, length, get_or, map, take, refl, sym, ap}
use Rattle.std.proofs.Common.{subst, ◌∙◌, arith, IfSome, None, Some, All, slice_index, inl, inr, ◌⊎◌}
use Rattle.std.specs.Prelude.{◌≢◌, ◌==◌, if◌then◌else◌}
use Rattle.std.proofs.lemmas.Bool.{cases_lt}
use Rattle.std.proofs.lemmas.List.{append-nil, append_assoc, get_or-append_right, get_or-map, get_or_append_left, length-append}
use Rattle.std.proofs.lemmas.List.{length-map}
use Rattle.std.proofs.lemmas.List.Sums.{sum_by-cons, sum_by_push}
use Rattle.std.specs.List.{AllZip, concat, sum_by}
use Rattle.dvg_code.specs.declared.instr.Instr.{Instr}
use Rattle.dvg_code.specs.declared.instr.Instr.TheVariants.{Vctr, Labs, Halt, Jsrl, Rtsl, Jmpl, Svec}
use Rattle.dvg_code.specs.Spelling.{canon, word_count}
use Rattle.dvg_code.specs.Words.{word_in}
use Rattle.dvg_frame.specs.declared.op.OpKind.TheVariants as kinds
use Rattle.dvg_read.specs.RomTexts.{IsRomOf, RomText, first_stated}
use Rattle.dvg_read.proofs.GivenWords.{all_put}
use Rattle.dvg_read.proofs.HeldRom.{all_fit, words_held}
use Rattle.dvg_read.proofs.Zips.{zip_push}
use Rattle.dvg_named.specs.declared.laid.LaidRows as held_laid
use Rattle.dvg_rows.specs.declared.row.Doing as held_doing
use Rattle.dvg_rows.specs.declared.row.Row as held
use Rattle.dvg_rows.specs.HeldRows.{rows_of}
use Rattle.dvg_named.specs.LaidValues.{laid_section, laid_sections}
use Rattle.dvg_named.specs.Meanings.{IsEncoded, IsGiven}
use Rattle.dvg_named.specs.SketchFaults.{IsUngiven}
use Rattle.dvg_named.specs.Places.{Laid}
use Rattle.dvg_rows.specs.RowPlaces.{doings, size, words_taken}
use Rattle.dvg_named.specs.RomBytes.{ArePut, IsPut, MayStandInRom, TellsSections}
use Rattle.dvg_rows.specs.RowValues.{doing_of, doing_of_some, row_of}
use Rattle.dvg_rows.specs.Rows.{Doing, Row, plainly, calls, jumps, calls_rom, jumps_rom, rom}
use Rattle.dvg_named.specs.Sections.{MayStand}
use Rattle.dvg_named.specs.Ungiven.{in_rom}
use Rattle.dvg_named.proofs.DraftRows.{one_doing}
use Rattle.dvg_rows.proofs.RowSizes.{size_front}

-- ---- words that are put after others

module _ (place : ℕ) (words more old mid new : List ℕ) (first : ArePut place words old mid)
    (second : ArePut (place + length words) more mid new) where
  by_place : (j : ℕ) → j < length (words ++ more) → (j < length words) ⊎ (length words ≤ j)
      → word_in new (place + j) ≡ slice_index (words ++ more) j
  by_place j low (inl within) =
      second.before (place + j) (omega arith) ∙ first.inside j within ∙ sym (get_or_append_left words more 0 j within)
  by_place j low (inr beyond) =
      let at : place + length words + (j - length words) ≡ place + j = omega arith in
      ap (word_in new) (sym at)
      ∙ second.inside (j - length words) (omega (arith, length-append words more, low, beyond))
      ∙ sym (get_or-append_right words more (length words) j 0 refl beyond)

  pub words_then : ArePut place (words ++ more) old new
  words_then = record {
    count = second.count ∙ first.count;
    inside = λ j low. by_place j low (cases_lt j (length words));
    before = λ j low. second.before j (omega arith) ∙ first.before j low;
    after = λ j high. second.after j (omega (arith, length-append words more, high))
        ∙ first.after j (omega (arith, length-append words more, high));
    fits = second.fits;
  }

-- ---- the words of instructions

-- the canonical words of instructions, one after the other
abbrev pub words_of : List Instr → List ℕ
words_of instrs = concat (map canon instrs)

words_more : (instrs : List Instr) (instr : Instr) → words_of (instrs ++ instr ∷ []) ≡ words_of instrs ++ canon instr
words_more [] instr = append-nil (canon instr)
words_more (x ∷ instrs) instr =
    ap (λ l. canon x ++ l) (words_more instrs instr) ∙ sym (append_assoc (canon x) (words_of instrs) (canon instr))

canon_size : (instr : Instr) → length (canon instr) ≡ word_count instr
canon_size (Vctr scale dx dy z) = refl
canon_size (Labs x y scale) = refl
canon_size Halt = refl
canon_size (Jsrl address) = refl
canon_size Rtsl = refl
canon_size (Jmpl address) = refl
canon_size (Svec scale dx dy z) = refl

size_of_canon : (instr other : Instr) → instr ≡ other → length (canon instr) ≡ word_count other
size_of_canon instr other same = canon_size instr ∙ ap word_count same

encoded_size : (laid : List Laid) (doing : Doing) (instr : Instr) → IsEncoded laid doing instr
    → length (canon instr) ≡ words_taken doing
encoded_size laid (plainly (kinds.Draw drawn)) instr h = size_of_canon instr drawn h
encoded_size laid (plainly (kinds.CallRom a)) instr h = size_of_canon instr (Jsrl a) h
encoded_size laid (plainly (kinds.JumpRom a)) instr h = size_of_canon instr (Jmpl a) h
encoded_size laid (plainly (kinds.Call n)) instr h = absurd h
encoded_size laid (plainly (kinds.Jump n)) instr h = absurd h
encoded_size laid (plainly kinds.Return) instr h = size_of_canon instr Rtsl h
encoded_size laid (plainly kinds.Halt) instr h = size_of_canon instr Halt h
encoded_size laid (calls name) instr h = size_of_canon instr (Jsrl h.0) h.2
encoded_size laid (jumps name) instr h = size_of_canon instr (Jmpl h.0) h.2
encoded_size laid (calls_rom name) instr h = size_of_canon instr (Jsrl h.0) h.2
encoded_size laid (jumps_rom name) instr h = size_of_canon instr (Jmpl h.0) h.2

words_size : (laid : List Laid) (ds : List Doing) (instrs : List Instr) → AllZip (IsEncoded laid) ds instrs
    → length (words_of instrs) ≡ sum_by words_taken ds
words_size laid [] [] h = refl
words_size laid [] (instr ∷ instrs) h = absurd h
words_size laid (doing ∷ ds) [] h = absurd h
words_size laid (doing ∷ ds) (instr ∷ instrs) h =
    let one = encoded_size laid doing instr h.0 in
    let rest = words_size laid ds instrs h.1 in
    omega (arith, one, rest, length-append (canon instr) (words_of instrs), sum_by-cons words_taken doing ds)

-- a row that is encoded wants no name that isn't given
pub encoded_known : (laid : List Laid) (rows : List Row) (doing : Doing) (instr : Instr) → IsEncoded laid doing instr
    → IsUngiven laid (in_rom rows) doing → ⊥
encoded_known laid rows (plainly op) instr h ungiven = ungiven
encoded_known laid rows (calls name) instr h ungiven = ungiven h.0 h.1
encoded_known laid rows (jumps name) instr h ungiven = ungiven h.0 h.1
encoded_known laid rows (calls_rom name) instr h ungiven = ungiven h.0 h.1
encoded_known laid rows (jumps_rom name) instr h ungiven = ungiven h.0 h.1

-- where a name is looked for in the ROM is the same for all its sections
pub same_in_rom : (laid : List Laid) (rows others : List Row) (doing : Doing) → IsUngiven laid (in_rom rows) doing
    → IsUngiven laid (in_rom others) doing
same_in_rom laid rows others (plainly op) h = h
same_in_rom laid rows others (calls name) h = h
same_in_rom laid rows others (jumps name) h = h
same_in_rom laid rows others (calls_rom name) h = h
same_in_rom laid rows others (jumps_rom name) h = h

-- ---- what was put of a section

-- the words of so much were put from a place on
pub record Written (laid : List Laid) (ds : List Doing) (place : ℕ) (old now : List ℕ) (next : ℕ) : Type 0 where
  pub instrs : List Instr
  pub encoded : AllZip (IsEncoded laid) ds instrs
  pub put : ArePut place (words_of instrs) old now
  pub next_is : next ≡ place + length (words_of instrs)

pub written_more : (laid : List Laid) (ds all : List Doing) (place next after : ℕ) (old mid new : List ℕ) (doing : Doing)
    (instr : Instr) → Written laid ds place old mid next → IsEncoded laid doing instr
    → ArePut next (canon instr) mid new → after ≡ next + length (canon instr) → all ≡ ds ++ doing ∷ []
    → Written laid all place old new after
written_more laid ds all place next after old mid new doing instr h here put is more =
    let words = words_more h.instrs instr in
    let both : ArePut place (words_of h.instrs ++ canon instr) old new =
    words_then place (words_of h.instrs) (canon instr) old mid new h.put
    (subst (λ n. ArePut n (canon instr) mid new) h.next_is put) in
    record {
      instrs = h.instrs ++ instr ∷ [];
      encoded = subst (λ l. AllZip (IsEncoded laid) l (h.instrs ++ instr ∷ [])) (sym more)
          (zip_push (IsEncoded laid) ds h.instrs doing instr h.encoded here);
      put = subst (λ l. ArePut place l old new) (sym words) both;
      next_is = let size = ap length words in let whole = length-append (words_of h.instrs) (canon instr) in
          let before = h.next_is in omega (arith, is, size, whole, before);
    }

-- the same of the same
pub written_same : (laid : List Laid) (ds all : List Doing) (place next after : ℕ) (old mid new : List ℕ)
    → Written laid ds place old mid next → all ≡ ds → new ≡ mid → after ≡ next → Written laid all place old new after
written_same laid ds all place next after old mid new h same kept here = record {
  instrs = h.instrs;
  encoded = subst (λ l. AllZip (IsEncoded laid) l h.instrs) (sym same) h.encoded;
  put = subst (λ bytes. ArePut place (words_of h.instrs) old bytes) (sym kept) h.put;
  next_is = here ∙ h.next_is;
}

-- the words of one row more fit where those of all rows do
pub code_room : (laid : List Laid) (rows : List held.Row) (i : ℕ) (row : held.Row) (low : i < length rows)
    (is : row ≡ get_or rows i row) (doing : held_doing.Doing) → row.doing ≡ Some doing → (place next : ℕ)
    (old mid : List ℕ) (instr : Instr) → Written laid (doings (rows_of (take i rows))) place old mid next
    → IsEncoded laid (doing_of doing) instr → next + length (canon instr) ≤ place + size (rows_of rows)
code_room laid rows i row low is doing does place next old mid instr h here =
    let before = words_size laid (doings (rows_of (take i rows))) h.instrs h.encoded in
    let one = encoded_size laid (doing_of doing) instr here in
    let more : size (rows_of (take (i + 1) rows)) ≡ size (rows_of (take i rows)) + words_taken (doing_of doing) =
    ap (sum_by words_taken) (one_doing rows i row low is doing does)
    ∙ sum_by_push words_taken (doings (rows_of (take i rows))) (doing_of doing) in
    let front = size_front rows (i + 1) in
    let next_is = h.next_is in
    omega (arith, before, one, more, front, next_is)

-- all words of a section were put
pub section_put : (laid : List Laid) (section : Laid) (first place next : ℕ) (old new : List ℕ)
    → first ≤ section.start → place ≡ section.start - first
    → Written laid (doings section.rows) place old new next → IsPut laid section first old new
section_put laid section first place next old new low at h =
    let put = h.put in
    record {
      given = record { address = section.start; words = words_of h.instrs };
      is = record { address = refl; instrs = h.instrs; encoded = h.encoded; words = refl };
      put = all_put section.start first place (words_of h.instrs) old new low at put.count
          (record { inside = put.inside; before = put.before; behind = put.after });
      fits = put.fits;
    }

-- ---- a row that may stand in the ROM

may_do : (row : Row) (doing : Doing) → row.doing ≡ Some doing → MayStand (rom None) row → (n : ℕ)
    → (doing ≢ plainly (kinds.Call n)) × (doing ≢ plainly (kinds.Jump n))
may_do row doing does may =
    subst (λ d. IfSome d (λ doing. (n : ℕ) → (doing ≢ plainly (kinds.Call n)) × (doing ≢ plainly (kinds.Jump n)))) does may

pub may_at : (rows : List held.Row) (i : ℕ) (row : held.Row) (doing : held_doing.Doing) → MayStandInRom (rows_of rows)
    → i < length rows → row ≡ get_or rows i row → row.doing ≡ Some doing → (n : ℕ)
    → (doing_of doing ≢ plainly (kinds.Call n)) × (doing_of doing ≢ plainly (kinds.Jump n))
may_at rows i row doing may low is does =
    let here : MayStand (rom None) (row_of row) =
    subst (MayStand (rom None)) (get_or-map row_of rows i row (row_of row) low ∙ ap row_of (sym is))
    (may i (row_of row) (omega (arith, low, length-map rows row_of))) in
    may_do (row_of row) (doing_of doing) (ap doing_of_some does) here

-- ---- sections of the ROM

pub section_at : (P : Laid → Type 0) (sections : List held_laid.LaidRows) (i : ℕ) (section : held_laid.LaidRows)
    → All P (laid_sections sections) → i < length sections → section ≡ get_or sections i section
    → P (laid_section section)
section_at P sections i section all low is =
    subst P (get_or-map laid_section sections i section (laid_section section) low ∙ ap laid_section (sym is))
    (all i (laid_section section) (omega (arith, low, length-map sections laid_section)))

-- the address of the first word
pub first_is : (stated : RomText) (R : List ℕ) (first : ℕ) → IsRomOf stated R → (length R ≡ 2048) ⊎ (length R ≡ 4096)
    → first ≡ 0xC00 - length R / 2 → first ≡ first_stated stated.map
first_is stated R first h (inl size) is =
    let at : first ≡ 0x800 = omega (arith, is, size) in
    at ∙ sym (ap (λ n. if n == 2048 then 0x800 else 0x400) size) ∙ h.first
first_is stated R first h (inr size) is =
    let at : first ≡ 0x400 = omega (arith, is, size) in
    at ∙ sym (ap (λ n. if n == 2048 then 0x800 else 0x400) size) ∙ h.first

-- ---- the ROM that is stated

pub nothing_stated : (laid : List Laid) (stated : RomText) (R : List ℕ) → IsRomOf stated R → TellsSections laid [] stated R
nothing_stated laid stated R h = record {
  lines = [];
  given = tt;
  is_rom = subst (λ given. IsRomOf (record { map = stated.map; given = given }) R) (sym (append-nil stated.given)) h;
}

pub stated_more : (laid done all : List Laid) (section : Laid) (stated : RomText) (first : ℕ) (mid new : List ℕ)
    → first ≡ first_stated stated.map → TellsSections laid done stated mid → IsPut laid section first mid new
    → all ≡ done ++ section ∷ [] → TellsSections laid all stated new
stated_more laid done all section stated first mid new is h put more = record {
  lines = h.lines ++ put.given ∷ [];
  given = subst (λ l. AllZip (IsGiven laid) l (h.lines ++ put.given ∷ [])) (sym more)
      (zip_push (IsGiven laid) done h.lines section put.given h.given put.is);
  is_rom = subst (λ given. IsRomOf (record { map = stated.map; given = given }) new)
      (append_assoc stated.given h.lines (put.given ∷ []))
      (words_held stated.map (stated.given ++ h.lines) put.given mid new first is h.is_rom put.put
      (all_fit new put.fits));
}
