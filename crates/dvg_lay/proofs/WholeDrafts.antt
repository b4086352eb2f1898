-- What is written of one frame is read as its draft, over its ROM.
use Rattle.std.proofs.Common.{◌≡◌, ◌∙◌, ◌+◌, ◌-◌, ◌*◌, ◌<◌, ◌≤◌, ℕ, ℤ, suc, pos, negsuc, List, [], ◌∷◌, ◌++◌, All, Some, None, ap, append_assoc, append-nil, arith, codes, decimal, length, length-append, refl, sym, subst, ⊎_elim, unsigned_abs, Bool, true, false, cond}
use Rattle.std.specs.Fmt.{signed_decimal}
use Rattle.std.specs.Prelude.{nat_eq, replicate}
use lib.Pointwise.{pointwise}
use Rattle.std.proofs.lemmas.List.Elements.{All-head, All-tail, filter-append}
use Rattle.dvg_code.specs.Words.{word_in, words_of}
use Rattle.dvg_code.proofs.BytesOfWords.{word_k, words_fit}
use Rattle.dvg_code.specs.declared.instr.Instr.TheVariants as instr
use Rattle.dvg_frame.specs.declared.op.OpKind.{OpKind}
use Rattle.dvg_frame.specs.declared.op.OpKind.TheVariants.{Draw, CallRom, JumpRom, Call, Jump, Return, Halt}
use Rattle.dvg_frame.specs.Ops.{IsDraft, IsOp}
use Rattle.dvg_mem.specs.Memory.{IsRom, first_word, rom_word}
use Rattle.dvg_mem.proofs.Roms.{large_first, rom_there, small_first}
use Rattle.dvg_io.proofs.Inputs.{length-words_of}
use Rattle.dvg_print.specs.Lines.{map_text, rom_line}
use Rattle.dvg_read.specs.DraftReading.{Gives}
use Rattle.dvg_read.specs.RomTexts.{large, mapped, unmapped, word_after}
use Rattle.dvg_read.specs.Texts.{lines, unpassed}
use Rattle.dvg_read.proofs.Decimals.{shaped}
use Rattle.dvg_lay.specs.Drafts.{draft_line, draft_lines, given_lines, op_text, rom_part}
use Rattle.dvg_lay.specs.Laws.{IsNumbered}
use Rattle.dvg_lay.proofs.DraftsRead.{Begins, ReadsOps, draft_read}
use Rattle.dvg_lay.proofs.RomRead.{Reads, rows_read}
use Rattle.dvg_read.specs.declared.draft_text.TheConstants.{MOST_TEXT_BYTES}

-- ---- how long the text is

few_digits : (n : ℕ) → n < 65536 → length (decimal n) ≤ 5
few_digits n small = (shaped n (decimal n) (omega arith) refl).short

few_signed : (z : ℤ) → unsigned_abs z < 65535 → length (signed_decimal z) ≤ 6
few_signed (pos n) small = let few = few_digits n (omega arith) in omega (arith, few)
few_signed (negsuc n) small = let few = few_digits (suc n) (omega arith) in omega (arith, few)

vector_length : (s z : ℕ) (x y : ℤ) → s < 65536 → z < 65536 → unsigned_abs x < 65535 → unsigned_abs y < 65535
    → length (decimal s ++ 32 ∷ signed_decimal x ++ 32 ∷ signed_decimal y ++ 32 ∷ decimal z) ≤ 25
vector_length s z x y a b c d =
    let one = length-append (decimal s) (32 ∷ signed_decimal x) in
    let two = length-append (decimal s ++ 32 ∷ signed_decimal x) (32 ∷ signed_decimal y) in
    let three = length-append ((decimal s ++ 32 ∷ signed_decimal x) ++ 32 ∷ signed_decimal y) (32 ∷ decimal z) in
    let s_few = few_digits s a in let z_few = few_digits z b in let x_few = few_signed x c in let y_few = few_signed y d in
    omega (arith, one, two, three, s_few, z_few, x_few, y_few)

labs_length : (x y s : ℕ) → x < 65536 → y < 65536 → s < 65536 → length (decimal x ++ 32 ∷ decimal y ++ 32 ∷ decimal s) ≤ 17
labs_length x y s a b c =
    let one = length-append (decimal x) (32 ∷ decimal y) in
    let two = length-append (decimal x ++ 32 ∷ decimal y) (32 ∷ decimal s) in
    let x_few = few_digits x a in let y_few = few_digits y b in let s_few = few_digits s c in
    omega (arith, one, two, x_few, y_few, s_few)

text_length : (op : OpKind) → IsOp op → IsNumbered op → length (op_text op) ≤ 30
text_length (Draw (instr.Vctr s x y z)) fits small = let few = vector_length s z x y (omega (arith, fits.0)) (omega (arith, fits.0)) (omega (arith, fits.0)) (omega (arith, fits.0)) in omega (arith, few)
text_length (Draw (instr.Svec s x y z)) fits small = let few = vector_length s z x y (omega (arith, fits.0)) (omega (arith, fits.0)) (omega (arith, fits.0)) (omega (arith, fits.0)) in omega (arith, few)
text_length (Draw (instr.Labs x y s)) fits small = let few = labs_length x y s (omega (arith, fits.0)) (omega (arith, fits.0)) (omega (arith, fits.0)) in omega (arith, few)
text_length (Draw instr.Halt) fits small = omega arith
text_length (Draw instr.Rtsl) fits small = omega arith
text_length (Draw (instr.Jsrl a)) fits small = omega arith
text_length (Draw (instr.Jmpl a)) fits small = omega arith
text_length (Call n) fits small = let few = few_digits n (omega (arith, small)) in omega (arith, few)
text_length (Jump n) fits small = let few = few_digits n (omega (arith, small)) in omega (arith, few)
text_length (CallRom a) fits small = omega arith
text_length (JumpRom a) fits small = omega arith
text_length Return fits small = omega arith
text_length Halt fits small = omega arith

draft_length : (F : List OpKind) → All IsOp F → All IsNumbered F → length (draft_lines F) ≤ 31 * length F
draft_length [] fits small = omega arith
draft_length (op ∷ F) fits small =
    let first = text_length op (All-head IsOp op F fits) (All-head IsNumbered op F small) in
    let more = draft_length F (All-tail IsOp op F fits) (All-tail IsNumbered op F small) in
    let line = length-append (op_text op) (10 ∷ []) in
    let both = length-append (draft_line op) (draft_lines F) in
    omega (arith, first, more, line, both)

row_length : (n a b c d e f g h : ℕ) (given : Bool) → length (cond given [] (rom_line n (a ∷ b ∷ c ∷ d ∷ e ∷ f ∷ g ∷ h ∷ []))) ≤ 48
row_length n a b c d e f g h true = omega arith
row_length n a b c d e f g h false = omega arith

rows_length : (n : ℕ) (words : List ℕ) → length (given_lines n words) ≤ 6 * length words
rows_length n [] = omega arith
rows_length n (a ∷ []) = omega arith
rows_length n (a ∷ b ∷ []) = omega arith
rows_length n (a ∷ b ∷ c ∷ []) = omega arith
rows_length n (a ∷ b ∷ c ∷ d ∷ []) = omega arith
rows_length n (a ∷ b ∷ c ∷ d ∷ e ∷ []) = omega arith
rows_length n (a ∷ b ∷ c ∷ d ∷ e ∷ f ∷ []) = omega arith
rows_length n (a ∷ b ∷ c ∷ d ∷ e ∷ f ∷ g ∷ []) = omega arith
rows_length n (a ∷ b ∷ c ∷ d ∷ e ∷ f ∷ g ∷ h ∷ words) =
    let given = pointwise nat_eq (a ∷ b ∷ c ∷ d ∷ e ∷ f ∷ g ∷ h ∷ []) (replicate 8 0xD000) in
    let first = row_length n a b c d e f g h given in
    let more = rows_length (n + 8) words in
    let both = length-append (cond given [] (rom_line n (a ∷ b ∷ c ∷ d ∷ e ∷ f ∷ g ∷ h ∷ []))) (given_lines (n + 8) words) in
    omega (arith, first, more, both)

-- ---- the whole text

-- lines that begin a text, and those that begin what is left
joined : (text mid rest : List ℕ) (ls more : List (List ℕ)) → Begins text mid ls → Begins mid rest more → Begins text rest (ls ++ more)
joined text mid rest ls more one two = record {
  cut = one.cut ∙ ap (λ l. ls ++ l) two.cut ∙ sym (append_assoc ls more (lines rest));
  told = filter-append _ ls more ∙ ap (λ l. l ++ unpassed more) one.told ∙ ap (λ l. ls ++ l) two.told;
}

-- the ROM's words are those that its lines give
words_are : (R text rest : List ℕ) (first : ℕ) → first_word R ≡ first → 2 * first + length R ≡ 0x1800 → 2 * length (words_of R) ≡ length R
    → (reads : Reads first first (words_of R) text rest) → (a : ℕ) → first_word R ≤ a → a < 0xC00 → rom_word R a ≡ Some (word_after reads.given a 0xD000)
words_are R text rest first is size count reads a low high =
    let k : ℕ = a - first in
    let place : a - first_word R ≡ k = ap (λ n. a - n) is in
    let from : first ≤ a = omega (arith, is, low) in
    let within : 2 * k + 1 < length R = omega (arith, size, from, high) in
    let there : word_after reads.given a 0xD000 ≡ word_in R k = reads.within a from (omega (arith, size, count, high)) ∙ word_k R k within in
    rom_there R a low high ∙ ap (λ n. Some (word_in R n)) place ∙ ap Some (sym there)

-- what was read of a ROM of a size, and of a draft
module _ (R : List ℕ) (F : List OpKind) (rom : IsRom R) (draft : IsDraft F) (numbered : All IsNumbered F) where
  ops : ReadsOps F (draft_lines F) []
  ops = subst (λ text. ReadsOps F text []) (append-nil (draft_lines F)) (draft_read F [] draft.ops numbered)

  short : (text front : List ℕ) → text ≡ front ++ (given_lines (first_word R) (words_of R) ++ draft_lines F) → length front ≤ 9 → length (words_of R) ≤ 2048 → length text ≤ MOST_TEXT_BYTES
  short text front is few count =
      let rows = rows_length (first_word R) (words_of R) in
      let lines = draft_length F draft.ops numbered in
      let both = length-append (given_lines (first_word R) (words_of R)) (draft_lines F) in
      let all = ap length is ∙ length-append front (given_lines (first_word R) (words_of R) ++ draft_lines F) in
      omega (arith, rows, lines, both, all, few, count, draft.count)

  small : length R ≡ 2048 → Gives (rom_part R ++ draft_lines F) F R
  small size =
      let first = small_first R size in
      let none : map_text R ≡ [] = rw size in
      let count = length-words_of R (omega (arith, size)) in
      let reads = rows_read 0x800 0x800 (words_of R) (draft_lines F) 128 (omega (arith, size, count)) (words_fit R rom.bytes) (omega arith) (omega (arith, size, count)) in
      let text_is : rom_part R ++ draft_lines F ≡ given_lines (first_word R) (words_of R) ++ draft_lines F = ap (λ l. (l ++ given_lines (first_word R) (words_of R)) ++ draft_lines F) none in
      let at_first : rom_part R ++ draft_lines F ≡ given_lines 0x800 (words_of R) ++ draft_lines F = text_is ∙ ap (λ n. given_lines n (words_of R) ++ draft_lines F) first in
      let begins : Begins (rom_part R ++ draft_lines F) [] (reads.ls ++ ops.ls) =
      subst (λ text. Begins text [] (reads.ls ++ ops.ls)) (sym at_first) (joined _ (draft_lines F) [] reads.ls ops.ls reads.begins ops.begins) in
      record {
        rom = record { map = None; given = reads.given };
        denotes = record {
          short = short (rom_part R ++ draft_lines F) [] text_is (omega arith) (omega (arith, size, count));
          spelled = record {
            front = reads.ls;
            rest = ops.ls;
            cut = ap unpassed (begins.cut ∙ append-nil (reads.ls ++ ops.ls)) ∙ begins.told;
            head = unmapped {given = reads.given} {ls = reads.ls} reads.spelled;
            draft = ops.spelled;
          };
          count = draft.count;
        };
        bytes = record {
          whole = rom;
          first = first;
          words = words_are R _ _ 0x800 first (omega (arith, size)) count reads;
        };
      }

  big : length R ≡ 4096 → Gives (rom_part R ++ draft_lines F) F R
  big size =
      let first = large_first R size in
      let map : map_text R ≡ codes "map 4096" ++ 10 ∷ [] = rw size in
      let count = length-words_of R (omega (arith, size)) in
      let reads = rows_read 0x400 0x400 (words_of R) (draft_lines F) 256 (omega (arith, size, count)) (words_fit R rom.bytes) (omega arith) (omega (arith, size, count)) in
      let rest = given_lines (first_word R) (words_of R) in
      let text_is : rom_part R ++ draft_lines F ≡ (codes "map 4096" ++ 10 ∷ []) ++ (rest ++ draft_lines F) =
      ap (λ l. (l ++ rest) ++ draft_lines F) map ∙ append_assoc (codes "map 4096" ++ 10 ∷ []) rest (draft_lines F) in
      let at_first : rom_part R ++ draft_lines F ≡ (codes "map 4096" ++ 10 ∷ []) ++ (given_lines 0x400 (words_of R) ++ draft_lines F) =
      text_is ∙ ap (λ n. (codes "map 4096" ++ 10 ∷ []) ++ (given_lines n (words_of R) ++ draft_lines F)) first in
      let both : Begins (given_lines 0x400 (words_of R) ++ draft_lines F) [] (reads.ls ++ ops.ls) = joined _ (draft_lines F) [] reads.ls ops.ls reads.begins ops.begins in
      let whole : Begins ((codes "map 4096" ++ 10 ∷ []) ++ (given_lines 0x400 (words_of R) ++ draft_lines F)) [] (codes "map 4096" ∷ (reads.ls ++ ops.ls)) =
      record { cut = ap (λ l. codes "map 4096" ∷ l) both.cut; told = ap (λ l. codes "map 4096" ∷ l) both.told } in
      let begins : Begins (rom_part R ++ draft_lines F) [] (codes "map 4096" ∷ (reads.ls ++ ops.ls)) =
      subst (λ text. Begins text [] (codes "map 4096" ∷ (reads.ls ++ ops.ls))) (sym at_first) whole in
      record {
        rom = record { map = Some 0x400; given = reads.given };
        denotes = record {
          short = short (rom_part R ++ draft_lines F) (codes "map 4096" ++ 10 ∷ []) text_is (omega arith) (omega (arith, size, count));
          spelled = record {
            front = codes "map 4096" ∷ reads.ls;
            rest = ops.ls;
            cut = ap unpassed (begins.cut ∙ append-nil (codes "map 4096" ∷ (reads.ls ++ ops.ls))) ∙ begins.told;
            head = mapped {given = reads.given} {ls = reads.ls} large reads.spelled;
            draft = ops.spelled;
          };
          count = draft.count;
        };
        bytes = record {
          whole = rom;
          first = first;
          words = words_are R _ _ 0x400 first (omega (arith, size)) count reads;
        };
      }

  pub draft_gives : Gives (rom_part R ++ draft_lines F) F R
  draft_gives = ⊎_elim small big rom.count
