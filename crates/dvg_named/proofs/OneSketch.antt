-- A list of lines spells one sketch at most.
use Rattle.std.proofs.Common.{◌≡◌, ℕ, List, [], ◌∷◌, ◌++◌, length, refl, sym, ap, subst, ◌∙◌, arith, append_assoc}
use Rattle.std.proofs.Common.{append-nil, length-append, codes, Some, All}
use Rattle.std.proofs.lemmas.List.{append_cancel_right, flat_map_more, same_from_push}
use Rattle.std.proofs.lemmas.List.Elements.{All-head, All-nil, All-push, All-tail}
use Rattle.std.specs.List.{AllZip, flat_map}
use Rattle.dvg_read.specs.OpLines.{OpParts}
use Rattle.dvg_read.specs.OpLines as ops
use Rattle.dvg_frame.specs.declared.op.OpKind.{OpKind}
use Rattle.dvg_read.specs.Texts.{IsHex, parts}
use Rattle.dvg_read.specs.RomTexts.{RomText, unmapped}
use Rattle.dvg_read.specs.RomReading.{TellsRom, unstated}
use Rattle.dvg_read.proofs.OneOperation.{one_operation}
use Rattle.dvg_read.proofs.RomSteps.{one_stated, rom_leads, stated_by_name, tells_more}
use Rattle.dvg_read.proofs.Steps.{Leads, front_says, further, here, last_line, on, one_saying}
use Rattle.dvg_read.proofs.Zips.{zip_push}
use Rattle.dvg_rows.specs.Rows.{Doing, DoingParts, Head, HeadParts, IsHeadLine, IsName, IsRowLine, Row, RowParts, plain}
use Rattle.dvg_rows.specs.Rows as rows
use Rattle.dvg_named.specs.Sections.{MayStand, Section, Spelled, SpellsSection, SpellsSketch}
use Rattle.dvg_named.specs.SketchSteps.{SketchTakes, adds, begins, begun, so_far, tells, tops, with_row}
use Rattle.dvg_rows.proofs.RowSpelling.{RowCase, alone, before, colon_at_end, does_not_name, last_byte, no_tokens_no_doing, no_tokens_no_row, not_plain}
use Rattle.dvg_rows.proofs.RowSpelling.{one_call, one_callrom, one_jump, one_jumprom, row_case, unnamed}

-- ---- tokens spell one row at most

pub one_doing : {doing other : Doing} {ps : List (List ℕ)} → DoingParts doing ps → DoingParts other ps → other ≡ doing
one_doing (plain p) (plain q) = ap rows.plainly (one_operation p q)
one_doing (plain p) (rows.call h) = absurd (not_plain h p)
one_doing (plain p) (rows.jump h) = absurd (not_plain h p)
one_doing (plain p) (rows.callrom h) = absurd (not_plain h p)
one_doing (plain p) (rows.jumprom h) = absurd (not_plain h p)
one_doing (rows.call h) q = sym (one_call h q)
one_doing (rows.jump h) q = sym (one_jump h q)
one_doing (rows.callrom h) q = sym (one_callrom h q)
one_doing (rows.jumprom h) q = sym (one_jumprom h q)

same_name : (name other first : List ℕ) → first ≡ name ++ 58 ∷ [] → first ≡ other ++ 58 ∷ [] → other ≡ name
same_name name other first e f = append_cancel_right other name (58 ∷ []) (sym f ∙ e)

one_case : {row other : Row} {first : List ℕ} {rest : List (List ℕ)} → RowCase row first rest → RowCase other first rest
    → other ≡ row
one_case (unnamed doing is p) (unnamed does also q) = let same = one_doing p q in cc
one_case (unnamed doing is p) (alone name h e none also) = absurd (does_not_name name p e)
one_case (unnamed doing is p) (before name does h e q also) = absurd (does_not_name name p e)
one_case (alone name h e none is) (unnamed does also q) = absurd (does_not_name name q e)
one_case {first = first} (alone name h e none is) (alone other k f left also) = let same = same_name name other first e f in cc
one_case (alone name h e none is) (before other does k f q also) =
    absurd (no_tokens_no_doing (subst (DoingParts does) none q))
one_case (before name doing h e p is) (unnamed does also q) = absurd (does_not_name name q e)
one_case (before name doing h e p is) (alone other k f left also) =
    absurd (no_tokens_no_doing (subst (DoingParts doing) left p))
one_case {first = first} (before name doing h e p is) (before other does k f q also) =
    let same = same_name name other first e f in let done = one_doing p q in cc

pub one_row : {row other : Row} (ps : List (List ℕ)) → RowParts row ps → RowParts other ps → other ≡ row
one_row [] p q = absurd (no_tokens_no_row p)
one_row (first ∷ rest) p q = one_case (row_case p) (row_case q)

one_at : (a b : ℕ) (digits : List ℕ) → IsHex 3 a digits → IsHex 3 b digits → b ≡ a
one_at a b digits h k = sym k.value ∙ h.value

pub one_head : {head other : Head} {ps : List (List ℕ)} → HeadParts head ps → HeadParts other ps → other ≡ head
one_head rows.nameless rows.nameless = refl
one_head (rows.named_frame h) (rows.named_frame k) = refl
one_head rows.anywhere rows.anywhere = refl
one_head (rows.at {a = a} {digits = d} h) (rows.at {a = b} k) = ap (λ a. rows.rom (Some a)) (one_at a b d h k)

-- ---- no line spells two of a row, a section's beginning and what is stated of the ROM

-- `.`, with which a section begins, is 46
abbrev first_byte : List ℕ → ℕ
first_byte [] = 0
first_byte (byte ∷ bytes) = byte

no_dot : {doing : Doing} {first : List ℕ} {rest : List (List ℕ)} → DoingParts doing (first ∷ rest) → first_byte first ≡ 46
    → ⊥
no_dot (plain (ops.vctr h)) e = omega (arith, e)
no_dot (plain (ops.svec h)) e = omega (arith, e)
no_dot (plain (ops.labs h)) e = omega (arith, e)
no_dot (plain (ops.callrom h)) e = omega (arith, e)
no_dot (plain (ops.jumprom h)) e = omega (arith, e)
no_dot (plain (ops.call h)) e = omega (arith, e)
no_dot (plain (ops.jump h)) e = omega (arith, e)
no_dot (plain ops.return) e = omega (arith, e)
no_dot (plain ops.halt) e = omega (arith, e)
no_dot (rows.call h) e = omega (arith, e)
no_dot (rows.jump h) e = omega (arith, e)
no_dot (rows.callrom h) e = omega (arith, e)
no_dot (rows.jumprom h) e = omega (arith, e)

-- a row that begins with a token which neither names an operation nor gives a name
no_case : {row : Row} {first : List ℕ} {rest : List (List ℕ)} → ((doing : Doing) → DoingParts doing (first ∷ rest) → ⊥)
    → (last_byte first ≡ 58 → ⊥) → RowCase row first rest → ⊥
no_case {first = first} none other (unnamed doing is p) = none doing p
no_case {first = first} none other (alone name h e left is) = other (colon_at_end first name e)
no_case {first = first} none other (before name doing h e p is) = other (colon_at_end first name e)

pub head_is_no_row : {head : Head} {row : Row} {ps : List (List ℕ)} → HeadParts head ps → RowParts row ps → ⊥
head_is_no_row rows.nameless q = no_case (λ doing p. no_dot p refl) (λ e. omega (arith, e)) (row_case q)
head_is_no_row (rows.named_frame h) q = no_case (λ doing p. no_dot p refl) (λ e. omega (arith, e)) (row_case q)
head_is_no_row rows.anywhere q = no_case (λ doing p. no_dot p refl) (λ e. omega (arith, e)) (row_case q)
head_is_no_row (rows.at h) q = no_case (λ doing p. no_dot p refl) (λ e. omega (arith, e)) (row_case q)

no_map_op : {op : OpKind} {rest : List (List ℕ)} → OpParts op (codes "map" ∷ rest) → ⊥
no_map_op h = elim h [ ]

no_rom_op : {op : OpKind} {rest : List (List ℕ)} → OpParts op (codes "rom" ∷ rest) → ⊥
no_rom_op h = elim h [ ]

no_map_doing : {rest : List (List ℕ)} (doing : Doing) → DoingParts doing (codes "map" ∷ rest) → ⊥
no_map_doing doing (plain p) = no_map_op p

no_rom_doing : {rest : List (List ℕ)} (doing : Doing) → DoingParts doing (codes "rom" ∷ rest) → ⊥
no_rom_doing doing (plain p) = no_rom_op p

no_map_row : {row : Row} (rest : List (List ℕ)) → RowParts row (codes "map" ∷ rest) → ⊥
no_map_row rest q = no_case no_map_doing (λ e. omega (arith, e)) (row_case q)

no_rom_row : {row : Row} (rest : List (List ℕ)) → RowParts row (codes "rom" ∷ rest) → ⊥
no_rom_row rest q = no_case no_rom_doing (λ e. omega (arith, e)) (row_case q)

no_map_head : {head : Head} (rest : List (List ℕ)) → HeadParts head (codes "map" ∷ rest) → ⊥
no_map_head rest h = elim h [ ]

no_rom_head : {head : Head} (rest : List (List ℕ)) → HeadParts head (codes "rom" ∷ rest) → ⊥
no_rom_head rest h = elim h [ ]

pub tells_no_row : {rom now : RomText} {row : Row} {l : List ℕ} → TellsRom rom l now → IsRowLine row l → ⊥
tells_no_row {row = row} t q = stated_by_name (RowParts row) q no_map_row no_rom_row t

pub tells_no_head : {rom now : RomText} {head : Head} {l : List ℕ} → TellsRom rom l now → IsHeadLine head l → ⊥
tells_no_head {head = head} t q = stated_by_name (HeadParts head) q no_map_head no_rom_head t

-- ---- no line goes on in two ways

same_adds : (rom : RomText) (first : List Row) (front others : List Section) (section next : Section) (row also : Row)
    → front ≡ others → section ≡ next → also ≡ row
    → so_far rom first (others ++ with_row next also ∷ []) ≡ so_far rom first (front ++ with_row section row ∷ [])
same_adds rom first front others section next row also e f g = rw (e, f, g)

none_ends : (front : List Section) (section : Section) → [] ≡ front ++ section ∷ [] → ⊥
none_ends front section e = omega (arith, ap length e, length-append front (section ∷ []))

one_way : (s t u : Spelled) (l : List ℕ) → SketchTakes s l t → SketchTakes s l u → u ≡ t
one_way s t u l (tells {rom = rom} {now = now} g) (tells {now = also} h) =
    ap (λ rom. so_far rom [] []) (one_stated rom now also l g h)
one_way s t u l (tells g) (tops row h) = absurd (tells_no_row g h)
one_way s t u l (tells g) (adds front section row e may h) = absurd (tells_no_row g h)
one_way s t u l (tells g) (begins head h) = absurd (tells_no_head g h)
one_way s t u l (tops row h) (tells g) = absurd (tells_no_row g h)
one_way s t u l (tops {rom = rom} {first = first} row h) (tops also k) =
    ap (λ row. so_far rom (first ++ row ∷ []) []) (one_row (parts l) h k)
one_way s t u l (tops row h) (adds front section also e may k) = absurd (none_ends front section e)
one_way s t u l (tops row h) (begins head k) = absurd (head_is_no_row k h)
one_way s t u l (adds front section row e may h) (tells g) = absurd (tells_no_row g h)
one_way s t u l (adds front section row e may h) (tops also k) = absurd (none_ends front section e)
one_way s t u l (adds {rom = rom} {first = first} front section row e may h) (adds others next also f might k) =
    let same = same_from_push front others section next (sym e ∙ f) in
    same_adds rom first front others section next row also same.0 same.1 (one_row (parts l) h k)
one_way s t u l (adds front section row e may h) (begins head k) = absurd (head_is_no_row k h)
one_way s t u l (begins head h) (tells g) = absurd (tells_no_head g h)
one_way s t u l (begins head h) (tops row k) = absurd (head_is_no_row h k)
one_way s t u l (begins head h) (adds front section row e may k) = absurd (head_is_no_row h k)
one_way s t u l (begins {rom = rom} {first = first} {others = others} head h) (begins also k) =
    ap (λ head. so_far rom first (others ++ begun head ∷ [])) (one_head h k)

-- ---- a line more

abbrev flat : List (List (List ℕ)) → List (List ℕ)
flat = flat_map (λ lines. lines)

abbrev nothing : Spelled
nothing = so_far unstated [] []

pub says_nothing : SpellsSketch nothing []
says_nothing = record {
  front = [];
  rows = [];
  rest = [];
  cut = refl;
  stated = unmapped tt;
  first = tt;
  others = tt;
}

no_items : {A B : Type 0} (R : A → B → Type 0) (ys : List B) → AllZip R [] ys → ys ≡ []
no_items R [] h = refl
no_items R (y ∷ ys) h = absurd h

-- what goes with a list and its last item
record LastZip {A B : Type 0} (R : A → B → Type 0) (xs : List A) (x : A) (zs : List B) : Type 0 where
  front : List B
  last : B
  cut : zs ≡ front ++ last ∷ []
  zip : AllZip R xs front
  goes : R x last

zip_last : {A B : Type 0} (R : A → B → Type 0) (xs : List A) (x : A) (zs : List B) → AllZip R (xs ++ x ∷ []) zs
    → LastZip R xs x zs
zip_last R [] x [] h = absurd h
zip_last R [] x (z ∷ []) h = record { front = []; last = z; cut = refl; zip = tt; goes = h.0 }
zip_last R [] x (z ∷ w ∷ zs) h = absurd h.1
zip_last R (a ∷ xs) x [] h = absurd h
zip_last R (a ∷ xs) x (z ∷ zs) h =
    let r = zip_last R xs x zs h.1 in
    record { front = z ∷ r.front; last = r.last; cut = ap (λ l. z ∷ l) r.cut; zip = (h.0, r.zip); goes = r.goes }

section_more : (section : Section) (row : Row) (ls : List (List ℕ)) (l : List ℕ) → SpellsSection section ls
    → MayStand section.head row → IsRowLine row l → SpellsSection (with_row section row) (ls ++ l ∷ [])
section_more section row ls l h may k = record {
  begin = h.begin;
  rest = h.rest ++ l ∷ [];
  cut = ap (λ ls. ls ++ l ∷ []) h.cut;
  head = h.head;
  rows = zip_push IsRowLine section.rows h.rest row l h.rows k;
  may = All-push (MayStand section.head) section.rows row h.may may;
}

flat_last : (A : List (List ℕ)) (front : List (List (List ℕ))) (last : List (List ℕ)) (l : List ℕ)
    → (A ++ flat (front ++ last ∷ [])) ++ l ∷ [] ≡ A ++ flat (front ++ (last ++ l ∷ []) ∷ [])
flat_last A front last l =
    ap (λ k. k ++ l ∷ []) (sym (flat_map_more (λ lines. lines) A front last))
    ∙ append_assoc (A ++ flat front) last (l ∷ []) ∙ flat_map_more (λ lines. lines) A front (last ++ l ∷ [])

pub says_more : (s t : Spelled) (l : List ℕ) (ls : List (List ℕ)) → SpellsSketch s ls → SketchTakes s l t
    → SpellsSketch t (ls ++ l ∷ [])
says_more s t l ls p (tells h) =
    let no_rows = no_items IsRowLine p.rows p.first in
    let no_sections = no_items SpellsSection p.rest p.others in
    let all : ls ≡ p.front =
    p.cut ∙ ap (λ rows. p.front ++ rows ++ flat p.rest) no_rows ∙ ap (λ rest. p.front ++ [] ++ flat rest) no_sections
    ∙ append-nil (p.front ++ []) ∙ append-nil p.front in
    record {
      front = p.front ++ l ∷ [];
      rows = [];
      rest = [];
      cut = ap (λ k. k ++ l ∷ []) all
          ∙ sym (append-nil ((p.front ++ l ∷ []) ++ []) ∙ append-nil (p.front ++ l ∷ []));
      stated = tells_more p.stated h;
      first = tt;
      others = tt;
    }
says_more s t l ls p (tops {first = first} row h) =
    let no_sections = no_items SpellsSection p.rest p.others in
    let all : ls ≡ p.front ++ p.rows =
    p.cut ∙ ap (λ rest. p.front ++ p.rows ++ flat rest) no_sections ∙ append-nil (p.front ++ p.rows) in
    record {
      front = p.front;
      rows = p.rows ++ l ∷ [];
      rest = [];
      cut = ap (λ k. k ++ l ∷ []) all ∙ append_assoc p.front p.rows (l ∷ [])
          ∙ sym (append-nil (p.front ++ (p.rows ++ l ∷ [])));
      stated = p.stated;
      first = zip_push IsRowLine first p.rows row l p.first h;
      others = tt;
    }
says_more s t l ls p (adds front section row e may h) =
    let z = zip_last SpellsSection front section p.rest (subst (λ others. AllZip SpellsSection others p.rest) e p.others) in
    record {
      front = p.front;
      rows = p.rows;
      rest = z.front ++ (z.last ++ l ∷ []) ∷ [];
      cut = ap (λ k. k ++ l ∷ []) (p.cut ∙ ap (λ rest. p.front ++ p.rows ++ flat rest) z.cut)
          ∙ flat_last (p.front ++ p.rows) z.front z.last l;
      stated = p.stated;
      first = p.first;
      others = zip_push SpellsSection front z.front (with_row section row) (z.last ++ l ∷ []) z.zip
          (section_more section row z.last l z.goes may h);
    }
says_more s t l ls p (begins {others = others} head h) = record {
  front = p.front;
  rows = p.rows;
  rest = p.rest ++ (l ∷ []) ∷ [];
  cut = ap (λ k. k ++ l ∷ []) p.cut ∙ flat_map_more (λ lines. lines) (p.front ++ p.rows) p.rest (l ∷ []);
  stated = p.stated;
  first = p.first;
  others = zip_push SpellsSection others p.rest (begun head) (l ∷ []) p.others
      (record { begin = l; rest = []; cut = refl; head = h; rows = tt; may = All-nil (MayStand head) });
}

-- ---- all lines in turn

rom_lines_lead : (rom now : RomText) (ls : List (List ℕ)) → Leads TellsRom rom ls now
    → Leads SketchTakes (so_far rom [] []) ls (so_far now [] [])
rom_lines_lead rom now [] here = here
rom_lines_lead rom now (l ∷ ls) (on {t = mid} g p) =
    let first : SketchTakes (so_far rom [] []) l (so_far mid [] []) = tells g in
    on first (rom_lines_lead mid now ls p)

rows_lead : (rom : RomText) (first more : List Row) (ls : List (List ℕ)) → AllZip IsRowLine more ls
    → Leads SketchTakes (so_far rom first []) ls (so_far rom (first ++ more) [])
rows_lead rom first [] [] h =
    subst (λ k. Leads SketchTakes (so_far rom first []) [] (so_far rom k [])) (sym (append-nil first)) here
rows_lead rom first [] (l ∷ ls) h = absurd h
rows_lead rom first (row ∷ more) [] h = absurd h
rows_lead rom first (row ∷ more) (l ∷ ls) h =
    let one : SketchTakes (so_far rom first []) l (so_far rom (first ++ row ∷ []) []) = tops row h.0 in
    let rest = rows_lead rom (first ++ row ∷ []) more ls h.1 in
    on one (subst (λ k. Leads SketchTakes (so_far rom (first ++ row ∷ []) []) ls (so_far rom k [])) (append_assoc first (row ∷ []) more) rest)

-- a section with these rows
abbrev having : Head → List Row → Section
having head rows = record { head = head; rows = rows }

module _ (rom : RomText) (first : List Row) where
  added_lead : (front : List Section) (head : Head) (done more : List Row) (ls : List (List ℕ)) → AllZip IsRowLine more ls
      → All (MayStand head) more
      → Leads SketchTakes (so_far rom first (front ++ having head done ∷ [])) ls (so_far rom first (front ++ having head (done ++ more) ∷ []))
  added_lead front head done [] [] h may =
      subst (λ k. Leads SketchTakes (so_far rom first (front ++ having head done ∷ [])) [] (so_far rom first (front ++ having head k ∷ [])))
      (sym (append-nil done)) here
  added_lead front head done [] (l ∷ ls) h may = absurd h
  added_lead front head done (row ∷ more) [] h may = absurd h
  added_lead front head done (row ∷ more) (l ∷ ls) h may =
      let one : SketchTakes (so_far rom first (front ++ having head done ∷ [])) l (so_far rom first (front ++ having head (done ++ row ∷ []) ∷ [])) =
      adds front (having head done) row refl (All-head (MayStand head) row more may) h.0 in
      let rest = added_lead front head (done ++ row ∷ []) more ls h.1 (All-tail (MayStand head) row more may) in
      on one
      (subst
      (λ k. Leads SketchTakes (so_far rom first (front ++ having head (done ++ row ∷ []) ∷ [])) ls (so_far rom first (front ++ having head k ∷ [])))
      (append_assoc done (row ∷ []) more) rest)

  section_leads : (front : List Section) (section : Section) (ls : List (List ℕ)) → SpellsSection section ls
      → Leads SketchTakes (so_far rom first front) ls (so_far rom first (front ++ section ∷ []))
  section_leads front section ls h =
      let one : SketchTakes (so_far rom first front) h.begin (so_far rom first (front ++ begun section.head ∷ [])) =
      begins section.head h.head in
      subst (λ k. Leads SketchTakes (so_far rom first front) k (so_far rom first (front ++ section ∷ []))) (sym h.cut)
      (on one (added_lead front section.head [] section.rows h.rest h.rows h.may))

  sections_lead : (front others : List Section) (rest : List (List (List ℕ))) → AllZip SpellsSection others rest
      → Leads SketchTakes (so_far rom first front) (flat rest) (so_far rom first (front ++ others))
  sections_lead front [] [] h =
      subst (λ k. Leads SketchTakes (so_far rom first front) [] (so_far rom first k)) (sym (append-nil front)) here
  sections_lead front [] (ls ∷ rest) h = absurd h
  sections_lead front (section ∷ others) [] h = absurd h
  sections_lead front (section ∷ others) (ls ∷ rest) h =
      further SketchTakes (so_far rom first front) (so_far rom first (front ++ section ∷ [])) (so_far rom first (front ++ section ∷ others)) ls (flat rest)
      (section_leads front section ls h.0)
      (subst (λ k. Leads SketchTakes (so_far rom first (front ++ section ∷ [])) (flat rest) (so_far rom first k)) (append_assoc front (section ∷ []) others)
      (sections_lead (front ++ section ∷ []) others rest h.1))

pub leads_to : (s : Spelled) (ls : List (List ℕ)) → SpellsSketch s ls → Leads SketchTakes nothing ls s
leads_to s ls p =
    subst (λ k. Leads SketchTakes nothing k s) (sym p.cut)
    (further SketchTakes nothing (so_far s.rom s.first []) s (p.front ++ p.rows) (flat p.rest)
    (further SketchTakes nothing (so_far s.rom [] []) (so_far s.rom s.first []) p.front p.rows
    (rom_lines_lead unstated s.rom p.front (rom_leads p.stated)) (rows_lead s.rom [] s.first p.rows p.first))
    (sections_lead s.rom s.first [] s.others p.rest p.others))

-- ---- what follows

-- a line that goes on from what others spell
pub goes_on : (s t : Spelled) (ls : List (List ℕ)) (l : List ℕ) → SpellsSketch s ls → SpellsSketch t (ls ++ l ∷ [])
    → SketchTakes s l t
goes_on = last_line SketchTakes one_way SpellsSketch nothing says_nothing says_more leads_to

-- lines spell one sketch at most
pub one_sketch : (s t : Spelled) (ls : List (List ℕ)) → SpellsSketch s ls → SpellsSketch t ls → t ≡ s
one_sketch = one_saying SketchTakes one_way SpellsSketch nothing says_nothing says_more leads_to

-- a front of lines that spell a sketch spells one
pub front_spells : (u : Spelled) (ls more : List (List ℕ)) → SpellsSketch u (ls ++ more)
    → (s : Spelled) × SpellsSketch s ls × Leads SketchTakes s more u
front_spells = front_says SketchTakes one_way SpellsSketch nothing says_nothing says_more leads_to
