-- The worked examples of whole texts.
use Rattle.std.proofs.Common.{◌≡◌, ℕ, ◌<◌, ◌≤◌, List, [], ◌∷◌, ◌++◌, append-nil, length, length-append, refl, ap, sym, ◌∙◌, true}
use Rattle.std.proofs.Common.{false, true≢false, Bool, arith, codes, All, Option, Some, None}
use Rattle.std.specs.Prelude.{◌≢◌}
use Rattle.std.specs.List.{AllPairs, AllZip, cons_option, flat_map}
use Rattle.std.proofs.lemmas.List.Elements.{All-cons, filter_map-append}
use Rattle.std.proofs.lemmas.List.Kept.{AllPairs-cons}
use Rattle.dvg_code.specs.declared.instr.Instr.TheVariants.{Rtsl}
use Rattle.dvg_frame.specs.declared.op.OpKind.TheVariants.{Call, Halt, Jump, Return}
use Rattle.dvg_read.specs.OpLines as ops
use Rattle.dvg_read.specs.RomReading.{unstated}
use Rattle.dvg_read.specs.RomTexts.{unmapped}
use Rattle.dvg_read.specs.Texts.{IsHex}
use Rattle.dvg_rows.specs.Rows.{Doing, Head, IsHeadLine, IsRowLine, Row, plainly, jumps, calls_rom, frame, rom, top, does, both, plain, jump}
use Rattle.dvg_rows.specs.Rows.{callrom, named_frame, at}
use Rattle.dvg_named.specs.Sections.{FrameRows, MayStand, Section, Spelled, SpellsSection, SpellsSketch}
use Rattle.dvg_named.specs.Places.{IsAddress, Laid, laid_end}
use Rattle.dvg_rows.specs.RowPlaces.{IsNamedAfter, IsNumber, doings}
use Rattle.dvg_named.specs.SketchFaults.{GivesOnce, IsFineSketch, KeepsLimits, LiesOn, RomFits}
use Rattle.dvg_rows.specs.RowPlaces.{AreDistinct}
use Rattle.dvg_named.specs.SketchFaults.{WantsUngiven}
use Rattle.dvg_rows.specs.RowPlaces.{names_of}
use Rattle.dvg_named.specs.TextExamples.{CallsTheRom, JumpsBack, OutOfRomAtOne, OverlapAtFour, TwiceAtTwo, UnknownAtOne}
use Rattle.dvg_named.proofs.ExampleNames.{a, address, rock, ship, title}

none_all : {X : Type 0} (P : X → Type 0) → All P []
none_all P k d inside = absurd (omega arith)

one_all : {X : Type 0} (P : X → Type 0) (x : X) → P x → All P (x ∷ [])
one_all P x h = All-cons P x [] h (none_all P)

none_pairs : {X : Type 0} (R : X → X → Type 0) → AllPairs R []
none_pairs R i j d low inside = absurd (omega arith)

one_pairs : {X : Type 0} (R : X → X → Type 0) (x : X) → AllPairs R (x ∷ [])
one_pairs R x = AllPairs-cons R x [] (none_all (R x)) (none_pairs R)

two_pairs : {X : Type 0} (R : X → X → Type 0) (x y : X) → R x y → AllPairs R (x ∷ y ∷ [])
two_pairs R x y r = AllPairs-cons R x (y ∷ []) (one_all (R x) y r) (one_pairs R y)

abbrev Names : FrameRows → Type 0
Names source = AreDistinct (names_of source.rows)

abbrev Holds : FrameRows → Type 0
Holds source = length (doings source.rows) ≤ 511

abbrev Differ : List ℕ → List ℕ → Type 0
Differ name other = name ≢ other

abbrev Fits : Laid → Type 0
Fits section = (0x800 ≤ section.start) × (laid_end section ≤ 0xC00)

abbrev Apart : Laid → Laid → Type 0
Apart section next = (a : ℕ) → LiesOn section a → ¬ LiesOn next a

-- whether it calls or jumps by a number
abbrev by_number : Doing → Bool
by_number (plainly (Call n)) = true
by_number (plainly (Jump n)) = true
by_number _ = false

no_number : (doing : Doing) → by_number doing ≡ false → (n : ℕ) → (doing ≢ plainly (Call n))
    × (doing ≢ plainly (Jump n))
no_number doing h n = (λ e. true≢false (sym (ap by_number e) ∙ h), λ e. true≢false (sym (ap by_number e) ∙ h))

-- ---- sketches of rows alone, and of sections alone

abbrev rows_alone : List Row → Spelled
rows_alone rows = record { rom = unstated; first = rows; others = [] }

rows_spelled : (rows : List Row) (ls : List (List ℕ)) → AllZip IsRowLine rows ls → SpellsSketch (rows_alone rows) ls
rows_spelled rows ls h = record { front = []; rows = ls; rest = []; cut = sym (append-nil ls); stated = unmapped tt; first = h; others = tt }

rows_kept : (row : Row) (rows : List Row) → AreDistinct (names_of (row ∷ rows)) → length (doings (row ∷ rows)) ≤ 511
    → KeepsLimits (rows_alone (row ∷ rows))
rows_kept row rows once few = record {
  once = record {
    in_frames = one_all Names (record { name = None; rows = row ∷ rows }) once;
    in_rom = none_pairs Differ;
    of_frames = none_pairs Differ;
  };
  drafts = one_all Holds (record { name = None; rows = row ∷ rows }) few;
  rom = none_all Fits;
  apart = none_pairs Apart;
}

abbrev sections_alone : List Section → Spelled
sections_alone others = record { rom = unstated; first = []; others = others }

section_spelled : (head : Head) (rows : List Row) (begin : List ℕ) (rest : List (List ℕ)) → IsHeadLine head begin → AllZip IsRowLine rows rest → All (MayStand head) rows
    → SpellsSection (record { head = head; rows = rows }) (begin ∷ rest)
section_spelled head rows begin rest begins spelled may = record { begin = begin; rest = rest; cut = refl; head = begins; rows = spelled; may = may }

sections_spelled : (others : List Section) (rest : List (List (List ℕ))) → AllZip SpellsSection others rest → SpellsSketch (sections_alone others) (flat_map (λ lines. lines) rest)
sections_spelled others rest h = record { front = []; rows = []; rest = rest; cut = refl; stated = unmapped tt; first = tt; others = h }

-- ---- a frame whose second operation jumps to the first

abbrev rock_row : Row
rock_row = record { name = Some (codes "rock"); doing = Some (plainly Halt) }

abbrev jump_row : Row
jump_row = record { name = None; doing = Some (jumps (codes "rock")) }

abbrev jumping : Spelled
jumping = rows_alone (rock_row ∷ jump_row ∷ [])

jumping_spelled : SpellsSketch jumping (codes "rock: halt" ∷ codes "jump rock" ∷ [])
jumping_spelled = rows_spelled (rock_row ∷ jump_row ∷ []) _ (both rock (plain ops.halt), (does (jump rock), tt))

jumping_kept : KeepsLimits jumping
jumping_kept = rows_kept rock_row (jump_row ∷ []) (one_pairs Differ (codes "rock")) (omega arith)

rock_number : IsNumber (rock_row ∷ jump_row ∷ []) (codes "rock") 0
rock_number = record {
  before = [];
  named = record { row = rock_row; after = jump_row ∷ []; cut = refl; gives = refl };
  count = refl;
}

pub jumps_back : JumpsBack
jumps_back = record {
  short = omega arith;
  sketch = jumping;
  spelled = jumping_spelled;
  limits = jumping_kept;
  meant = record {
    frames = (record { name = refl; draft = (refl, ((0, rock_number, refl), tt)) }, tt);
    rom_text = record { map = refl; laid_words = []; given = tt; all = refl };
  };
}

-- ---- a shape in the ROM, and a frame that calls it

abbrev ship_row : Row
ship_row = record { name = Some (codes "ship"); doing = Some (plainly Return) }

abbrev call_row : Row
call_row = record { name = None; doing = Some (calls_rom (codes "ship")) }

abbrev shape : Section
shape = record { head = rom (Some 0x8A0); rows = ship_row ∷ [] }

abbrev titled : Section
titled = record { head = frame (Some (codes "title")); rows = call_row ∷ [] }

abbrev calling : Spelled
calling = sections_alone (shape ∷ titled ∷ [])

shape_spelled : SpellsSection shape (codes ".rom 8a0" ∷ codes "ship: return" ∷ [])
shape_spelled = section_spelled _ (ship_row ∷ []) _ _ (at address) (both ship (plain ops.return), tt) (one_all (MayStand (rom (Some 0x8A0))) ship_row (no_number (plainly Return) refl))

titled_spelled : SpellsSection titled (codes ".frame title" ∷ codes "callrom ship" ∷ [])
titled_spelled = section_spelled _ (call_row ∷ []) _ _ (named_frame title) (does (callrom ship), tt) (one_all (MayStand (frame (Some (codes "title")))) call_row tt)

calling_spelled : SpellsSketch calling (codes ".rom 8a0" ∷ codes "ship: return" ∷ codes ".frame title"
    ∷ codes "callrom ship" ∷ [])
calling_spelled = sections_spelled (shape ∷ titled ∷ [])
    ((codes ".rom 8a0" ∷ codes "ship: return" ∷ []) ∷ (codes ".frame title" ∷ codes "callrom ship" ∷ []) ∷ [])
    (shape_spelled, (titled_spelled, tt))

abbrev shape_laid : Laid
shape_laid = record { start = 0x8A0; rows = ship_row ∷ [] }

calling_kept : KeepsLimits calling
calling_kept = record {
  once = record {
    in_frames = one_all Names (record { name = Some (codes "title"); rows = call_row ∷ [] })
        (none_pairs Differ);
    in_rom = one_pairs Differ (codes "ship");
    of_frames = one_pairs Differ (codes "title");
  };
  drafts = one_all Holds (record { name = Some (codes "title"); rows = call_row ∷ [] }) (omega arith);
  rom = one_all Fits shape_laid (omega arith, omega arith);
  apart = one_pairs Apart shape_laid;
}

ship_address : IsAddress (shape_laid ∷ []) (codes "ship") 0x8A0
ship_address = record {
  earlier = [];
  section = shape_laid;
  later = [];
  cut = refl;
  before = [];
  named = record { row = ship_row; after = []; cut = refl; gives = refl };
  place = refl;
}

pub calls_the_rom : CallsTheRom
calls_the_rom = record {
  short = omega arith;
  sketch = calling;
  spelled = calling_spelled;
  limits = calling_kept;
  meant = record {
    frames = (record { name = refl; draft = ((0x8A0, ship_address, refl), tt) }, tt);
    rom_text = record {
      map = refl;
      laid_words = record { address = 0x8A0; words = 0xD000 ∷ [] } ∷ [];
      given = (record { address = refl; instrs = Rtsl ∷ []; encoded = (refl, tt); words = refl }, tt);
      all = refl;
    };
  };
}

-- ---- a name that is given again

abbrev a_row : Row
a_row = record { name = Some (codes "a"); doing = Some (plainly Halt) }

a_fine : IsFineSketch (codes "a: halt" ∷ [])
a_fine = record {
  sketch = rows_alone (a_row ∷ []);
  limits = rows_kept a_row [] (one_pairs Differ (codes "a")) (omega arith);
  spelled = rows_spelled (a_row ∷ []) _ (both a (plain ops.halt), tt);
}

pub twice_at_two : TwiceAtTwo
twice_at_two = record {
  before = codes "a: halt" ∷ [];
  line = codes "a: halt";
  reaches = record { short = omega arith; after = []; cut = refl; number = refl; fine = a_fine; is_unpassed = refl };
  sketch = rows_alone (a_row ∷ a_row ∷ []);
  spelled = rows_spelled (a_row ∷ a_row ∷ []) _ (both a (plain ops.halt), (both a (plain ops.halt), tt));
  breaks = λ once. once.in_frames 0 (record { name = None; rows = [] }) (omega arith) 0 1 [] (omega arith)
      (omega arith) refl;
}

-- ---- a section outside the ROM

nothing_kept : KeepsLimits (sections_alone [])
nothing_kept = record {
  once = record {
    in_frames = one_all Names (record { name = None; rows = [] }) (none_pairs Differ);
    in_rom = none_pairs Differ;
    of_frames = none_pairs Differ;
  };
  drafts = one_all Holds (record { name = None; rows = [] }) (omega arith);
  rom = none_all Fits;
  apart = none_pairs Apart;
}

nothing_fine : IsFineSketch []
nothing_fine = record { sketch = sections_alone []; limits = nothing_kept; spelled = sections_spelled [] [] tt }

abbrev low_section : Section
low_section = record { head = rom (Some 0x400); rows = [] }

low_spelled : SpellsSection low_section (codes ".rom 400" ∷ [])
low_spelled = section_spelled _ [] _ _ (at (record { size = refl; digits = (omega arith, (omega arith, (omega arith, tt))); value = refl })) tt (none_all (MayStand (rom (Some 0x400))))

nothing_named : GivesOnce (sections_alone (low_section ∷ []))
nothing_named = record { in_frames = none_all Names; in_rom = none_pairs Differ; of_frames = none_pairs Differ }

is_low : 0x800 ≤ 0x400 → ⊥
is_low h = omega (arith, h)

pub out_of_rom_at_one : OutOfRomAtOne
out_of_rom_at_one = record {
  before = [];
  line = codes ".rom 400";
  reaches = record { short = omega arith; after = []; cut = refl; number = refl; fine = nothing_fine; is_unpassed = refl };
  sketch = sections_alone (low_section ∷ []);
  spelled = sections_spelled (low_section ∷ []) ((codes ".rom 400" ∷ []) ∷ []) (low_spelled, tt);
  breaks = (nothing_named, none_all Holds, λ fits. is_low (fits 0 (record { start = 0; rows = [] }) (omega arith)).0);
}

-- ---- two sections on one word

abbrev halt_row : Row
halt_row = record { name = None; doing = Some (plainly Halt) }

abbrev at_800 : List Row → Section
at_800 rows = record { head = rom (Some 0x800); rows = rows }

abbrev laid_at_800 : List Row → Laid
laid_at_800 rows = record { start = 0x800; rows = rows }

is_800 : IsHex 3 0x800 (codes "800")
is_800 = record { size = refl; digits = (omega arith, (omega arith, (omega arith, tt))); value = refl }

halt_at_800 : SpellsSection (at_800 (halt_row ∷ [])) (codes ".rom 800" ∷ codes "halt" ∷ [])
halt_at_800 = section_spelled _ (halt_row ∷ []) _ _ (at is_800) (does (plain ops.halt), tt) (one_all (MayStand (rom (Some 0x800))) halt_row (no_number (plainly Halt) refl))

none_at_800 : SpellsSection (at_800 []) (codes ".rom 800" ∷ [])
none_at_800 = section_spelled _ [] _ _ (at is_800) tt (none_all (MayStand (rom (Some 0x800))))

abbrev two_at_800 : List Row → Spelled
two_at_800 rows = sections_alone (at_800 (halt_row ∷ []) ∷ at_800 rows ∷ [])

fit_at_800 : (rows : List Row) → laid_end (laid_at_800 rows) ≤ 0xC00 → RomFits (two_at_800 rows)
fit_at_800 rows h = All-cons Fits (laid_at_800 (halt_row ∷ [])) (laid_at_800 rows ∷ []) (omega arith, omega arith)
    (one_all Fits (laid_at_800 rows) (omega arith, h))

none_below : (a : ℕ) → 0x800 ≤ a → a < 0x800 → ⊥
none_below a low high = omega (arith, low, high)

one_kept : KeepsLimits (two_at_800 [])
one_kept = record {
  once = record { in_frames = none_all Names; in_rom = none_pairs Differ; of_frames = none_pairs Differ };
  drafts = none_all Holds;
  rom = fit_at_800 [] (omega arith);
  apart = two_pairs Apart (laid_at_800 (halt_row ∷ [])) (laid_at_800 []) (λ a on un. none_below a un.0 un.1);
}

one_fine : IsFineSketch (codes ".rom 800" ∷ codes "halt" ∷ codes ".rom 800" ∷ [])
one_fine = record {
  sketch = two_at_800 [];
  limits = one_kept;
  spelled = sections_spelled _ ((codes ".rom 800" ∷ codes "halt" ∷ []) ∷ (codes ".rom 800" ∷ []) ∷ [])
      (halt_at_800, (none_at_800, tt));
}

pub overlap_at_four : OverlapAtFour
overlap_at_four = record {
  before = codes ".rom 800" ∷ codes "halt" ∷ codes ".rom 800" ∷ [];
  line = codes "halt";
  reaches = record { short = omega arith; after = []; cut = refl; number = refl; fine = one_fine; is_unpassed = refl };
  sketch = two_at_800 (halt_row ∷ []);
  spelled = sections_spelled _ ((codes ".rom 800" ∷ codes "halt" ∷ []) ∷ (codes ".rom 800" ∷ codes "halt" ∷ []) ∷ [])
      (halt_at_800, (halt_at_800, tt));
  breaks = (
    record { in_frames = none_all Names; in_rom = none_pairs Differ; of_frames = none_pairs Differ },
    none_all Holds,
    fit_at_800 (halt_row ∷ []) (omega arith),
    λ apart. apart 0 1 (laid_at_800 []) (omega arith) (omega arith) 0x800 (omega arith, omega arith)
        (omega arith, omega arith),
  );
}

-- ---- a name that isn't given

abbrev name_of : Row → Option (List ℕ)
name_of row = row.name

-- where no row gives a name, none gives this one
nameless : (rows : List Row) (name : List ℕ) (before : List Row) → names_of rows ≡ [] → IsNamedAfter rows name before
    → ⊥
nameless rows name before none h =
    let given : names_of rows ≡ names_of before ++ name ∷ names_of h.after =
    ap names_of h.cut ∙ filter_map-append name_of before (h.row ∷ h.after)
    ∙ ap (λ first. names_of before ++ cons_option first (names_of h.after)) h.gives in
    let sizes : 0 ≡ length (names_of before ++ name ∷ names_of h.after) = ap length (sym none ∙ given) in
    omega (arith, sizes, length-append (names_of before) (name ∷ names_of h.after))

abbrev lost_row : Row
lost_row = record { name = None; doing = Some (jumps (codes "a")) }

lost_spelled : SpellsSketch (rows_alone (lost_row ∷ [])) (codes "jump a" ∷ [])
lost_spelled = rows_spelled (lost_row ∷ []) _ (does (jump a), tt)

lost_kept : KeepsLimits (rows_alone (lost_row ∷ []))
lost_kept = rows_kept lost_row [] (none_pairs Differ) (omega arith)

abbrev lost_fine : IsFineSketch (codes "jump a" ∷ [])
lost_fine = record { sketch = rows_alone (lost_row ∷ []); limits = lost_kept; spelled = lost_spelled }

-- lines are counted from 1
counted : (text : List ℕ) (n : ℕ) → n < 1 → ¬ WantsUngiven text n
counted text n low h = let number = h.number in omega (arith, low, number)

pub unknown_at_one : UnknownAtOne
unknown_at_one = (
  record {
    short = omega arith;
    fine = lost_fine;
    before = [];
    line = codes "jump a";
    after = [];
    cut = refl;
    number = refl;
    part = rows_alone (lost_row ∷ []);
    up_to = lost_spelled;
    section = record { head = top; rows = lost_row ∷ [] };
    inside = refl;
    row = lost_row;
    spelled = does (jump a);
    doing = jumps (codes "a");
    does = refl;
    ungiven = λ number h. nameless (lost_row ∷ []) (codes "a") h.before refl h.named;
  },
  λ earlier low. counted _ earlier low,
)
