-- A text of a draft, read up to some line.
use Rattle.std.proofs.Common.{◌≡◌, ◌<◌, ◌≤◌, ◌+◌, ℕ, List, [], ◌∷◌, ◌++◌, length, refl, sym, ap, subst, ◌∙◌, arith, true, false, Bool, cond, eqb, suc, append_assoc, length-append, append-nil, ◌⊎◌, inl, inr, Result, Ok, Err, IsOk, OnOk}
use Rattle.std.specs.Result.{is_err}
use Rattle.std.specs.List.{onto_first}
use Rattle.std.proofs.lemmas.List.Elements.{filter-append}
use Rattle.std.proofs.lemmas.Bool.{cases_lt}
use Rattle.dvg_read.specs.DraftReading.{Gives}
use Rattle.dvg_frame.specs.declared.op.OpKind.{OpKind}
use Rattle.dvg_read.specs.Texts.{is_passed, lines, unpassed}
use Rattle.dvg_read.specs.OpLines.{IsOpLine}
use Rattle.dvg_read.specs.RomTexts.{RomText, unmapped}
use Rattle.dvg_read.specs.RomReading.{HoldsRom, TellsMore, TellsRom, unstated}
use Rattle.dvg_read.specs.declared.rom_text.RomReading.{RomReading}
use Rattle.dvg_read.specs.FirstFaults.{IsShort, Reaches}
use Rattle.dvg_read.specs.DraftTexts.{IsFineDraft, DraftMeetsFull, DraftMeetsSyntax, SpellsDraft}
use Rattle.dvg_read.proofs.DraftSteps.{Goes, does, goes_on, says_more, so_far, tells}
use Rattle.dvg_read.specs.declared.draft_text.TheConstants.{MOST_TEXT_BYTES}

-- ---- the lines of a text, up to some line

pub unpassed_more : (ls : List (List ℕ)) (line : List ℕ) → is_passed line ≡ true → unpassed (ls ++ line ∷ []) ≡ unpassed ls
unpassed_more ls line e = filter-append _ ls (line ∷ []) ∙ rw e (append-nil _)

pub unpassed_one : (ls : List (List ℕ)) (line : List ℕ) → is_passed line ≡ false → unpassed (ls ++ line ∷ []) ≡ unpassed ls ++ line ∷ []
unpassed_one ls line e = filter-append _ ls (line ∷ []) ∙ rw e

-- n lines were read, which spell these operations and a ROM that the reader holds; those are left
pub record ReadTo (text : List ℕ) (left : List (List ℕ)) (n : ℕ) (ops : List OpKind) (held : RomReading) : Type 0 where
  pub before : List (List ℕ)
  pub cut : lines text ≡ before ++ left
  pub number : n ≡ length before
  pub rom : RomText
  pub spelled : SpellsDraft rom ops (unpassed before)
  pub holds : HoldsRom rom held

pub cut_on : (text : List ℕ) (before left rest : List (List ℕ)) (line : List ℕ) → lines text ≡ before ++ left → left ≡ line ∷ rest → lines text ≡ (before ++ line ∷ []) ++ rest
cut_on text before left rest line cut e = cut ∙ ap (λ l. before ++ l) e ∙ sym (append_assoc before (line ∷ []) rest)

pub count_on : (n : ℕ) (before : List (List ℕ)) (line : List ℕ) → n ≡ length before → n + 1 ≡ length (before ++ line ∷ [])
count_on n before line e = omega (arith, e, length-append before (line ∷ []))

-- a line that tells of the ROM goes on only where no operation was spelled
no_way : {rom now : RomText} {ops F : List OpKind} {l : List ℕ} → ((held : RomText) → ops ≡ [] → ¬ TellsRom rom l held) → ((op : OpKind) → ¬ IsOpLine op l) → ¬ Goes (so_far rom ops) l (so_far now F)
no_way no_rom no_op (tells {now = now} h) = no_rom now refl h
no_way no_rom no_op (does op h) = no_op op h

module _ (text : List ℕ) (left rest : List (List ℕ)) (n : ℕ) (ops : List OpKind) (held : RomReading) (line : List ℕ) (next : left ≡ line ∷ rest) (r : ReadTo text left n ops held) where
  -- a line that is passed over
  pub passes : is_passed line ≡ true → ReadTo text rest (n + 1) ops held
  passes e = record {
    before = r.before ++ line ∷ [];
    cut = cut_on text r.before left rest line r.cut next;
    number = count_on n r.before line r.number;
    rom = r.rom;
    spelled = subst (SpellsDraft r.rom ops) (sym (unpassed_more r.before line e)) r.spelled;
    holds = r.holds;
  }

  -- a line that goes on
  goes : (rom : RomText) (F : List OpKind) (now : RomReading) → is_passed line ≡ false → Goes (so_far r.rom ops) line (so_far rom F) → HoldsRom rom now → ReadTo text rest (n + 1) F now
  goes rom F now e step holds = record {
    before = r.before ++ line ∷ [];
    cut = cut_on text r.before left rest line r.cut next;
    number = count_on n r.before line r.number;
    rom = rom;
    spelled = subst (SpellsDraft rom F) (sym (unpassed_one r.before line e)) (says_more (so_far r.rom ops) (so_far rom F) line (unpassed r.before) r.spelled step);
    holds = holds;
  }

  -- a line that tells of the ROM
  pub tells_of_rom : (now : RomReading) → ops ≡ [] → is_passed line ≡ false → ((rom : RomText) → HoldsRom rom held → TellsMore rom line now) → ReadTo text rest (n + 1) ops now
  tells_of_rom now none e more =
      let m = more r.rom r.holds in
      goes m.now ops now e (rw none (tells m.tells)) m.holds

  -- a line of an operation
  pub takes : (op : OpKind) → is_passed line ≡ false → IsOpLine op line → ReadTo text rest (n + 1) (ops ++ op ∷ []) held
  takes op e h = goes r.rom (ops ++ op ∷ []) held e (does op h) r.holds

  module _ (short : IsShort text) (count : length ops ≤ 511) (e : is_passed line ≡ false) where
    reaches : Reaches IsFineDraft text (n + 1) r.before line
    reaches = record {
      short = short;
      after = rest;
      cut = r.cut ∙ ap (λ l. r.before ++ l) next;
      number = ap (λ k. k + 1) r.number;
      fine = record { rom = r.rom; ops = ops; spelled = r.spelled; count = count };
      is_unpassed = e;
    }

    -- a line that doesn't go on
    pub meets_syntax : (ops ≡ [] → (rom now : RomText) → HoldsRom rom held → ¬ TellsRom rom line now) → ((op : OpKind) → IsOpLine op line → ⊥) → DraftMeetsSyntax text (n + 1)
    meets_syntax no_rom no_op = record {
      before = r.before;
      line = line;
      reaches = reaches;
      wrong = λ rom F s. no_way (λ now none. no_rom none r.rom now r.holds) no_op (goes_on (so_far r.rom ops) (so_far rom F) (unpassed r.before) line r.spelled s);
    }

    -- a line of an operation too many
    pub meets_full : (op : OpKind) → 511 ≤ length ops → IsOpLine op line → DraftMeetsFull text (n + 1)
    meets_full op full h = record {
      before = r.before;
      line = line;
      reaches = reaches;
      rom = r.rom;
      ops = ops ++ op ∷ [];
      right = says_more (so_far r.rom ops) (so_far r.rom (ops ++ op ∷ [])) line (unpassed r.before) r.spelled (does op h);
      over = omega (arith, full, length-append ops (op ∷ []));
    }

pub begins : (text : List ℕ) (left : List (List ℕ)) (ops : List OpKind) (held : RomReading) → left ≡ lines text → ops ≡ [] → HoldsRom unstated held → ReadTo text left 0 ops held
begins text left ops held all none holds = record {
  before = [];
  cut = sym all;
  number = refl;
  rom = unstated;
  spelled = rw none (record { front = []; rest = []; cut = refl; head = unmapped tt; draft = tt });
  holds = holds;
}

-- at the text's end
pub gives_all : (text : List ℕ) (left : List (List ℕ)) (n : ℕ) (ops : List OpKind) (held : RomReading) (bytes : List ℕ) → left ≡ [] → ReadTo text left n ops held → IsShort text → length ops ≤ 511 → bytes ≡ held.bytes.items → Gives text ops bytes
gives_all text left n ops held bytes none r short count is = record {
  rom = r.rom;
  denotes = record { short = short; spelled = subst (λ ls. SpellsDraft r.rom ops (unpassed ls)) (sym (r.cut ∙ ap (λ l. r.before ++ l) none ∙ append-nil r.before)) r.spelled; count = count };
  bytes = rw is r.holds.is_rom;
}

-- an operation is refused only where there are 511
at_least : (n : ℕ) → (n < 511) ⊎ (511 ≤ n) → (n < 511 → ⊥) → 511 ≤ n
at_least n (inl low) none = absurd (none low)
at_least n (inr high) none = high

pub refused : {A E : Type 0} (answer : Result A E) (n : ℕ) → is_err answer ≡ true → (n < 511 → IsOk answer) → 511 ≤ n
refused (Ok x) n e room = absurd cc
refused (Err x) n e room = at_least n (cases_lt n 511) (λ low. let made = room low in absurd cc)

pub taken : {A E : Type 0} (answer : Result A E) (P : Type 0) (n m : ℕ) → is_err answer ≡ false → OnOk answer P → (IsOk answer → n < 511) → (P → m ≡ n + 1) → P × (m ≤ 511)
taken (Ok x) P n m e h room count = let low = room refl in (h, omega (arith, count h))
taken (Err x) P n m e h room count = absurd cc

-- no text has more lines than bytes
onto_length : (byte : ℕ) (ls : List (List ℕ)) → length (onto_first byte ls) ≤ length ls + 1
onto_length byte [] = omega arith
onto_length byte (line ∷ ls) = omega arith

lines_by : (end : Bool) (byte : ℕ) (ls : List (List ℕ)) (n : ℕ) → length ls ≤ n → length (cond end ([] ∷ ls) (onto_first byte ls)) ≤ suc n
lines_by true byte ls n h = omega arith
lines_by false byte ls n h = omega (arith, onto_length byte ls)

pub lines_length : (text : List ℕ) → length (lines text) ≤ length text
lines_length [] = omega arith
lines_length (byte ∷ text) = lines_by (eqb byte 10) byte (lines text) (length text) (lines_length text)

pub bounded : (text : List ℕ) (left : List (List ℕ)) (n : ℕ) (ops : List OpKind) (held : RomReading) → ReadTo text left n ops held → IsShort text → n ≤ MOST_TEXT_BYTES
bounded text left n ops held r short = omega (arith, r.number, ap length r.cut, length-append r.before left, lines_length text)
