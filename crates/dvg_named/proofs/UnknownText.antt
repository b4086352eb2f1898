-- The first name of a text that isn't given.
use Rattle.std.proofs.Common.{◌≡◌, ◌<◌, ℕ, ◌+◌, ◌⊎◌, inl, inr, List, [], ◌∷◌, ◌++◌, length, map, get_or, refl, sym, ap, subst, ◌∙◌, arith, suc, Some, None, slice_get, All, Contains, length-append, Option, IfSome}
use Rattle.std.proofs.lemmas.List.{get_or-append-add, length-map}
use Rattle.std.proofs.lemmas.List.Elements.{All-contains, Contains-append_cases, Contains-append_right, Contains-append_left, Contains-push, Contains-push_cases}
use Rattle.std.specs.Char.{to_ascii_lowercase}
use Rattle.std.specs.List.{AllPairs, AllZip}
use Rattle.dvg_read.specs.RomTexts.{RomText}
use Rattle.dvg_read.specs.Texts.{lines, unpassed}
use Rattle.dvg_read.specs.declared.fault.TextFault.TheVariants.{UnknownName}
use Rattle.dvg_rows.specs.declared.part.Part.{Part}
use Rattle.dvg_named.specs.declared.reading.Reading.{Reading}
use Rattle.dvg_named.specs.FirstUnknown.{FirstOf, HasLines, IsFirstOf, WantsIn, all_sections}
use Rattle.dvg_named.specs.LineNumbers.{Entry, IsEntryOf, entries_in, first_head}
use Rattle.dvg_named.specs.SketchFaults.{HasSketchFault, IsUngiven, WantsUngiven, laid_of}
use Rattle.dvg_rows.specs.PlainLines.{plain, plain_lines}
use Rattle.dvg_named.specs.ReadParts.{sketch_of}
use Rattle.dvg_named.specs.Sections.{Section, Spelled, SpellsSketch, sections}
use Rattle.dvg_named.specs.SketchReading.{head_in, section_in, spelled_in}
use Rattle.dvg_named.specs.SourcedRows.{IsPartAt}
use Rattle.dvg_named.specs.TextReading.{ReadsText}
use Rattle.dvg_named.proofs.OneSketch.{one_sketch}

-- all sections that are held, where no line begins the first
pub sections_are : {A : Type 0} (rom : RomText) (closed : List (Part A)) (last : Part A) → first_head closed last ≡ None
    → sections (sketch_of rom (map section_in closed) (section_in last)) ≡ all_sections closed last
sections_are rom [] last top =
    ap (λ head. record { head = head_in head; rows = (section_in last).rows } ∷ []) (sym top)
sections_are rom (first ∷ others) last top =
    ap (λ head. record { head = head_in head; rows = (section_in first).rows } ∷ (map section_in others ++ section_in last ∷ []))
    (sym top)

-- a later item has a higher number
after_is_higher : (before after : List Entry) (entry later : Entry)
    → AllPairs (λ entry next. entry.number < next.number) (before ++ entry ∷ after) → Contains after later
    → entry.number < later.number
after_is_higher before after entry later rising h =
    let j = h.0 in
    let low = h.1 in
    let r = rising (length before + 0) (length before + suc j) later (omega arith)
    (omega (arith, low, length-append before (entry ∷ after))) in
    let a = ap (λ (e : Entry). e.number) (get_or-append-add before (entry ∷ after) 0 later) in
    let b = ap (λ (e : Entry). e.number) (get_or-append-add before (entry ∷ after) (suc j) later) in
    let c = ap (λ (e : Entry). e.number) h.2 in
    omega (arith, r, a, b, c)

module _ {A : Type 0} (reading : Reading A) (small text : List ℕ) (read : ReadsText small reading)
    (is : map to_ascii_lowercase text ≡ small) where
  abbrev all : List Section
  all = all_sections reading.closed.items reading.last

  abbrev sketch : Spelled
  sketch = spelled_in read.rom reading

  abbrev ls : List (List ℕ)
  ls = map plain (lines small)

  same_lines : plain_lines text ≡ ls
  same_lines = ap (λ text. map plain (lines text)) is

  same_sections : sections sketch ≡ all
  same_sections = sections_are read.rom reading.closed.items reading.last read.numbered.top

  wants_ungiven : (entry : Entry) → IsEntryOf ls entry → WantsIn (laid_of sketch) all entry → WantsUngiven text entry.number
  wants_ungiven entry h w = record {
    short = let short = read.short in let size = ap length is in omega (arith, short, size, length-map text to_ascii_lowercase);
    fine = record {
      sketch = sketch;
      spelled = subst (λ ls. SpellsSketch sketch (unpassed ls)) (sym same_lines) read.spelled;
      limits = read.reads.keeps.limits;
    };
    before = h.before;
    line = h.line;
    after = h.after;
    cut = same_lines ∙ h.cut;
    number = h.number;
    part = h.part;
    up_to = h.up_to;
    section = w.section;
    inside = ap (λ l. slice_get l (length h.part.others)) same_sections ∙ ap (slice_get all) (sym h.inside) ∙ w.inside;
    row = entry.row;
    spelled = h.spelled;
    doing = w.wants.doing;
    does = w.wants.does;
    ungiven = w.wants.ungiven;
  }

  module _ (n : ℕ) (h : WantsUngiven text n) where
    abbrev wanting : Entry
    wanting = record { section = length h.part.others; row = h.row; number = n }

    same_sketch : h.fine.sketch ≡ sketch
    same_sketch =
        one_sketch sketch h.fine.sketch (unpassed ls) read.spelled
        (subst (λ ls. SpellsSketch h.fine.sketch (unpassed ls)) same_lines h.fine.spelled)

    is_entry : IsEntryOf ls wanting
    is_entry = record {
      before = h.before;
      line = h.line;
      after = h.after;
      cut = sym same_lines ∙ h.cut;
      number = h.number;
      part = h.part;
      up_to = h.up_to;
      inside = refl;
      spelled = h.spelled;
    }

    wants_in : WantsIn (laid_of sketch) all wanting
    wants_in = record {
      section = h.section;
      inside = ap (λ l. slice_get l (length h.part.others)) (sym same_sections ∙ ap sections (sym same_sketch)) ∙ h.inside;
      wants = record {
        doing = h.doing;
        does = h.does;
        ungiven = subst (λ (s : Spelled). IsUngiven (laid_of s) h.section h.doing) same_sketch h.ungiven;
      };
    }

  module _ (n : ℕ) (first : IsFirstOf (WantsIn (laid_of sketch) all) (entries_in reading) n) where
    held : Contains (entries_in reading) first.entry
    held = subst (λ l. Contains l first.entry) (sym first.cut)
        (Contains-append_right first.before (first.entry ∷ first.after) first.entry
        (Contains-append_left (first.entry ∷ []) first.after first.entry (Contains-push [] first.entry)))

    here_or_after : (other : Entry) → other.number < n → Contains (first.entry ∷ []) other ⊎ Contains first.after other → ⊥
    here_or_after other low (inl h) = is_here (Contains-push_cases [] first.entry other h)
      where
        is_here : Contains [] other ⊎ (first.entry ≡ other) → ⊥
        is_here (inl h) = omega (arith, h.1)
        is_here (inr e) = let same = ap (λ (e : Entry). e.number) e in let number = first.number in omega (arith, low, same, number)
    here_or_after other low (inr h) =
        let higher = after_is_higher first.before first.after first.entry other
        (subst (AllPairs (λ entry next. entry.number < next.number)) first.cut read.numbered.rising) h in
        let number = first.number in
        omega (arith, low, higher, number)

    none_earlier : (other : Entry) → WantsIn (laid_of sketch) all other → other.number < n
        → Contains first.before other ⊎ Contains (first.entry ∷ first.after) other → ⊥
    none_earlier other w low (inl h) = All-contains (λ entry. ¬ WantsIn (laid_of sketch) all entry) first.before other first.none h w
    none_earlier other w low (inr h) =
        here_or_after other low (Contains-append_cases (first.entry ∷ []) first.after other h)

    pub first_is_fault : HasSketchFault text (UnknownName n)
    first_is_fault = (
      subst (WantsUngiven text) (sym first.number)
          (wants_ungiven first.entry (read.numbered.holds first.entry held) first.is),
      λ earlier low wants.
          none_earlier (wanting earlier wants) (wants_in earlier wants) low
          (Contains-append_cases first.before (first.entry ∷ first.after) (wanting earlier wants)
          (subst (λ l. Contains l (wanting earlier wants)) first.cut
          (read.numbered.all (wanting earlier wants) (is_entry earlier wants)))),
    )

-- each row of a section has a line
zip_lengths : {X Y : Type 0} (R : X → Y → Type 0) (xs : List X) (ys : List Y) → AllZip R xs ys → length xs ≡ length ys
zip_lengths R [] [] h = refl
zip_lengths R [] (y ∷ ys) h = absurd h
zip_lengths R (x ∷ xs) [] h = absurd h
zip_lengths R (x ∷ xs) (y ∷ ys) h = ap (λ n. suc n) (zip_lengths R xs ys h.1)

pub has_lines : {A : Type 0} (small : List ℕ) (part : Part A) → IsPartAt small part → HasLines part
has_lines small part h = zip_lengths _ part.rows.items part.sources.items h.rows

pub have_lines : {A : Type 0} (small : List ℕ) (parts : List (Part A)) → All (IsPartAt small) parts → All HasLines parts
have_lines small parts all = λ k d low. has_lines small (get_or parts k d) (all k d low)

-- what is so of a number that was found
pub of_some : (P : ℕ → Type 0) (found : Option ℕ) (n : ℕ) → found ≡ Some n → IfSome found P → P n
of_some P None n e h = absurd cc
of_some P (Some m) n e h = subst P (let same : m ≡ n = cc in same) h

-- what follows from a row that was found first
pub if_found : (P : Entry → Type 0) (entries : List Entry) (Q : ℕ → Type 0) (found : Option ℕ) → FirstOf P entries found
    → ((n : ℕ) → IsFirstOf P entries n → Q n) → IfSome found Q
if_found P entries Q None h f = tt
if_found P entries Q (Some n) h f = f n h
