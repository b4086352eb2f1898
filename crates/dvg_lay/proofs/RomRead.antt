-- The lines of a ROM are read as this ROM.
use Rattle.std.proofs.Common.{◌≡◌, ◌∙◌, ◌+◌, ◌-◌, ◌*◌, ◌<◌, ◌≤◌, ℕ, suc, Bool, true, false, List, [], ◌∷◌, ◌++◌, ap, append_assoc, arith, cond, codes, length, length-append, lit<, refl, sym, subst, ⊎_elim}
use Rattle.std.specs.List.{AllZip, join_with_byte}
use Rattle.std.specs.Prelude.{◌&&◌, nat_eq, nat_lt, replicate, slice_index}
use lib.Pointwise.{bytes_decides, pointwise}
use Rattle.std.proofs.lemmas.Bool.{cases_lt, le-leb, le-ltb, lt-leb, lt-ltb}
use Rattle.std.proofs.lemmas.List.{get_or_append_left, get_or-append-add, get_or-replicate}
use Rattle.std.proofs.lemmas.List.Elements.{All-from_recursion}
use Rattle.std.proofs.lemmas.List.Splits.{join_with_byte-slice_split}
use Rattle.dvg_code.specs.Words.{AreWords, IsWord}
use Rattle.dvg_print.specs.Lines.{hex_3, hex_4, rom_line}
use Rattle.dvg_read.specs.RomTexts.{IsRomLine, RomLine, word_after, word_after_line}
use Rattle.dvg_read.specs.Texts.{is_passed, lines, parts}
use Rattle.dvg_read.proofs.Heads.{HasParts, IsPart, last_part, next_part}
use Rattle.dvg_lay.specs.Drafts.{given_lines}
use Rattle.dvg_lay.proofs.DraftsRead.{Begins, begins_with, is_hex_3, is_hex_4, part_3, part_4}

-- ---- the line of eight words

letters_rom : IsPart (codes "rom")
letters_rom = All-from_recursion (λ byte. 32 < byte) (codes "rom") (lit< tt, (lit< tt, (lit< tt, tt)))

row_parts : (n a b c d e f g h : ℕ) (rest : List ℕ) → HasParts (rom_line n (a ∷ b ∷ c ∷ d ∷ e ∷ f ∷ g ∷ h ∷ []) ++ rest)
    (codes "rom" ∷ hex_3 n ∷ hex_4 a ∷ hex_4 b ∷ hex_4 c ∷ hex_4 d ∷ hex_4 e ∷ hex_4 f ∷ hex_4 g ∷ hex_4 h ∷ []) rest
row_parts n a b c d e f g h rest =
    next_part _ (codes "rom") _ rest _ letters_rom refl
    (next_part _ (hex_3 n) _ rest _ (part_3 n) refl
    (next_part _ (hex_4 a) _ rest _ (part_4 a) refl
    (next_part _ (hex_4 b) _ rest _ (part_4 b) refl
    (next_part _ (hex_4 c) _ rest _ (part_4 c) refl
    (next_part _ (hex_4 d) _ rest _ (part_4 d) refl
    (next_part _ (hex_4 e) _ rest _ (part_4 e) refl
    (next_part _ (hex_4 f) _ rest _ (part_4 f) refl
    (next_part _ (hex_4 g) _ rest _ (part_4 g) refl
    (last_part _ (hex_4 h) rest (part_4 h) refl)))))))))

-- a line with these parts isn't passed over
rom_unpassed : (line : List ℕ) (ps : List (List ℕ)) (p : List ℕ) → parts line ≡ codes "rom" ∷ p ∷ ps → is_passed line ≡ false
rom_unpassed line ps p is =
    let joined : join_with_byte 32 (codes "rom" ∷ p ∷ ps) ≡ line = ap (join_with_byte 32) (sym is) ∙ join_with_byte-slice_split 32 line in
    subst (λ line. is_passed line ≡ false) joined refl

-- ---- lines that give words

pub record Reads (first a : ℕ) (words text rest : List ℕ) : Type 0 where
  pub ls : List (List ℕ)
  pub given : List RomLine
  pub begins : Begins text rest ls
  pub spelled : AllZip (IsRomLine first) given ls
  pub before : (b w : ℕ) → b < a → word_after given b w ≡ w
  pub within : (b : ℕ) → a ≤ b → b < a + length words → word_after given b 0xD000 ≡ slice_index words (b - a)

-- a word before and behind a row
in_row : (row words : List ℕ) (k : ℕ) → k < length row → slice_index (row ++ words) k ≡ slice_index row k
in_row row words k low = get_or_append_left row words 0 k low

behind_row : (row words : List ℕ) (k : ℕ) → length row ≡ 8 → slice_index (row ++ words) (8 + k) ≡ slice_index words k
behind_row row words k eight = ap (λ n. slice_index (row ++ words) (n + k)) (sym eight) ∙ get_or-append-add row words k 0

-- what one line makes of a word before its words, among them, and behind them
line_before : (given : RomLine) (b w : ℕ) → b < given.address → word_after_line given b w ≡ w
line_before given b w low =
    ap (λ t. cond (t && nat_lt b (given.address + length given.words)) (slice_index given.words (b - given.address)) w) (lt-leb given.address b low)

line_within : (given : RomLine) (b w : ℕ) → given.address ≤ b → b < given.address + length given.words → word_after_line given b w ≡ slice_index given.words (b - given.address)
line_within given b w low high =
    ap (λ t. cond (t && nat_lt b (given.address + length given.words)) (slice_index given.words (b - given.address)) w) (le-leb given.address b low)
    ∙ ap (λ t. cond t (slice_index given.words (b - given.address)) w) (lt-ltb b (given.address + length given.words) high)

line_behind : (given : RomLine) (b w : ℕ) → given.address + length given.words ≤ b → word_after_line given b w ≡ w
line_behind given b w low =
    ap (λ t. cond (t && nat_lt b (given.address + length given.words)) (slice_index given.words (b - given.address)) w) (le-leb given.address b (omega arith))
    ∙ ap (λ t. cond t (slice_index given.words (b - given.address)) w) (le-ltb b (given.address + length given.words) low)

-- a row that no line gives
all_ungiven : (row : List ℕ) (k : ℕ) → row ≡ replicate 8 0xD000 → k < 8 → slice_index row k ≡ 0xD000
all_ungiven row k is low = ap (λ row. slice_index row k) is ∙ get_or-replicate 8 k 0xD000 0 low

row_skipped : (first a : ℕ) (row words text rest : List ℕ) → length row ≡ 8 → row ≡ replicate 8 0xD000 → Reads first (a + 8) words text rest → Reads first a (row ++ words) text rest
row_skipped first a row words text rest eight ungiven more =
    let size = length-append row words in
    record {
      ls = more.ls;
      given = more.given;
      begins = more.begins;
      spelled = more.spelled;
      before = λ b w low. more.before b w (omega arith);
      within = λ b low high. ⊎_elim
          (λ near. more.before b 0xD000 near ∙ sym (in_row row words (b - a) (omega arith) ∙ all_ungiven row (b - a) ungiven (omega arith)))
          (λ far.
          let place : b - a ≡ 8 + (b - (a + 8)) = omega arith in
          more.within b far (omega arith) ∙ sym (ap (slice_index (row ++ words)) place ∙ behind_row row words (b - (a + 8)) eight))
          (cases_lt b (a + 8));
    }

-- a row that a line gives
row_given : (first a : ℕ) (row words line text more rest : List ℕ) → length row ≡ 8 → IsRomLine first (record { address = a; words = row }) line
    → lines text ≡ line ∷ lines more → is_passed line ≡ false → Reads first (a + 8) words more rest → Reads first a (row ++ words) text rest
row_given first a row words line text more rest eight spelled cut told next =
    let size = length-append row words in
    let given : RomLine = record { address = a; words = row } in
    record {
      ls = line ∷ next.ls;
      given = given ∷ next.given;
      begins = begins_with text more rest line next.ls cut told next.begins;
      spelled = (spelled, next.spelled);
      before = λ b w low. ap (word_after next.given b) (line_before given b w low) ∙ next.before b w (omega arith);
      within = λ b low high. ⊎_elim
          (λ near. ap (word_after next.given b) (line_within given b 0xD000 low (omega arith)) ∙ next.before b (slice_index row (b - a)) near ∙ sym (in_row row words (b - a) (omega arith)))
          (λ far.
          let place : b - a ≡ 8 + (b - (a + 8)) = omega arith in
          ap (word_after next.given b) (line_behind given b 0xD000 (omega arith)) ∙ next.within b far (omega arith)
          ∙ sym (ap (slice_index (row ++ words)) place ∙ behind_row row words (b - (a + 8)) eight))
          (cases_lt b (a + 8));
    }

-- the line of eight words, if a line gives them
row_read : (first n a b c d e f g h : ℕ) (words rest : List ℕ) → AreWords (a ∷ b ∷ c ∷ d ∷ e ∷ f ∷ g ∷ h ∷ []) → first ≤ n → n + 8 ≤ 0xC00
    → (given : Bool) → (given ≡ true → (a ∷ b ∷ c ∷ d ∷ e ∷ f ∷ g ∷ h ∷ []) ≡ replicate 8 0xD000)
    → Reads first (n + 8) words (given_lines (n + 8) words ++ rest) rest
    → Reads first n (a ∷ b ∷ c ∷ d ∷ e ∷ f ∷ g ∷ h ∷ words)
    ((cond given [] (rom_line n (a ∷ b ∷ c ∷ d ∷ e ∷ f ∷ g ∷ h ∷ [])) ++ given_lines (n + 8) words) ++ rest) rest
row_read first n a b c d e f g h words rest fit low high true ungiven next =
    row_skipped first n (a ∷ b ∷ c ∷ d ∷ e ∷ f ∷ g ∷ h ∷ []) words _ rest refl (ungiven refl) next
row_read first n a b c d e f g h words rest fit low high false ungiven next =
    let read = row_parts n a b c d e f g h (given_lines (n + 8) words ++ rest) in
    let spelled : IsRomLine first (record { address = n; words = a ∷ b ∷ c ∷ d ∷ e ∷ f ∷ g ∷ h ∷ [] }) read.line = record {
      digits = hex_3 n;
      spelled = hex_4 a ∷ hex_4 b ∷ hex_4 c ∷ hex_4 d ∷ hex_4 e ∷ hex_4 f ∷ hex_4 g ∷ hex_4 h ∷ [];
      split = read.parted;
      address = is_hex_3 n (omega arith);
      words = (
        is_hex_4 a (fit 0 0 (omega arith)),
        (
          is_hex_4 b (fit 1 0 (omega arith)),
          (
            is_hex_4 c (fit 2 0 (omega arith)),
            (
              is_hex_4 d (fit 3 0 (omega arith)),
              (is_hex_4 e (fit 4 0 (omega arith)), (is_hex_4 f (fit 5 0 (omega arith)), (is_hex_4 g (fit 6 0 (omega arith)), (is_hex_4 h (fit 7 0 (omega arith)), tt)))),
            ),
          ),
        ),
      );
      some = omega arith;
      most = omega arith;
      low = low;
      high = omega arith;
    } in
    row_given first n (a ∷ b ∷ c ∷ d ∷ e ∷ f ∷ g ∷ h ∷ []) words read.line _ (given_lines (n + 8) words ++ rest) rest refl spelled
    (ap lines (append_assoc (rom_line n (a ∷ b ∷ c ∷ d ∷ e ∷ f ∷ g ∷ h ∷ [])) (given_lines (n + 8) words) rest) ∙ read.cut)
    (rom_unpassed read.line _ _ read.parted) next

-- all of them
pub rows_read : (first n : ℕ) (words rest : List ℕ) (rows : ℕ) → length words ≡ rows * 8 → AreWords words → first ≤ n → n + length words ≤ 0xC00
    → Reads first n words (given_lines n words ++ rest) rest
rows_read first n [] rest rows size fit low high = record {
  ls = [];
  given = [];
  begins = record { cut = refl; told = refl };
  spelled = tt;
  before = λ b w lower. refl;
  within = λ b lower higher. absurd (omega (arith, lower, higher));
}
rows_read first n (a ∷ b ∷ c ∷ d ∷ e ∷ f ∷ g ∷ h ∷ words) rest rows size fit low high =
    let row : List ℕ = a ∷ b ∷ c ∷ d ∷ e ∷ f ∷ g ∷ h ∷ [] in
    let fit_row : AreWords row = All-from_recursion IsWord row (
      fit 0 0 (omega arith),
      (
        fit 1 0 (omega arith),
        (
          fit 2 0 (omega arith),
          (
            fit 3 0 (omega arith),
            (fit 4 0 (omega arith), (fit 5 0 (omega arith), (fit 6 0 (omega arith), (fit 7 0 (omega arith), tt)))),
          ),
        ),
      ),
    ) in
    let later : AreWords words = λ k x inside. fit (suc (suc (suc (suc (suc (suc (suc (suc k)))))))) x (omega arith) in
    row_read first n a b c d e f g h words rest fit_row low (omega (arith, high)) (pointwise nat_eq row (replicate 8 0xD000)) (bytes_decides row (replicate 8 0xD000)).0
    (rows_read first (n + 8) words rest (rows - 1) (omega (arith, size)) later (omega (arith, low)) (omega (arith, high)))
rows_read first n words rest rows size fit low high = absurd (omega (arith, size))
