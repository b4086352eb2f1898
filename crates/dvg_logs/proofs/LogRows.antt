-- The rows of a log, by what a reader knows of a line.
use Rattle.std.proofs.Common.{◌≡◌, ◌≢◌, ◌<◌, ◌≤◌, ◌+◌, ℕ, List, [], ◌∷◌, ◌++◌, Option, Some, None, codes, length, take, drop, refl, sym, ap, ◌∙◌, subst, arith, eqb, true, MatchOption, false, true≢false, IfSome}
use Rattle.std.specs.Prelude.{◌-◌, unwrap_or}
use Rattle.std.specs.Borrow.{Bor}
use Rattle.std.specs.Cmp.Lexicographic.{pointwise}
use Rattle.std.proofs.lemmas.Bool.Decides.{Decides-eqb}
use Rattle.std.proofs.lemmas.Slice.Eq.{strip_prefix_is}
use Rattle.std.specs.List.{join_with_byte}
use Rattle.std.proofs.Math.Seq.{take-append_seam, drop-append-add}
use Rattle.std.proofs.lemmas.List.{take_rest}
use Rattle.std.proofs.lemmas.List.Splits.{slice_split_none, slice_split_at, join_with_byte-slice_split}
use Rattle.dvg_driver.specs.declared.action.Action.TheVariants.{Wrote, Idle}
use Rattle.dvg_log.specs.declared.entry.Entry.TheVariants.{Acted, Fetched, Low}
use Rattle.dvg_log.specs.declared.event.Event.TheVariants.{Tick, Fetch}
use Rattle.dvg_log.specs.Log.{◌⟼◌, Line}
use Rattle.dvg_read.specs.Texts.{IsHex, parts, is_passed}
use Rattle.std.specs.Str.Lines.{strip_carriage_return}
use Rattle.dvg_read.proofs.FirstBytes.{HasNone}
use Rattle.dvg_read.proofs.Spaces.{no_space}
use Rattle.dvg_logs.specs.declared.log_line.LogLine.{LogLine}
use Rattle.dvg_logs.specs.LogLines.{IsWrittenAt, LogRow, IsLineOf, small, started, fetched, low, wrote, halted, reset, passed, logged}
use Rattle.dvg_logs.specs.LogLineTells.{AreNumbers, AreWritten, line_of}

-- a line is its parts, with a space between each two
whole : (line : List ℕ) (ps : List (List ℕ)) → parts line ≡ ps → line ≡ join_with_byte 32 ps
whole line ps e = sym (join_with_byte-slice_split 32 line) ∙ ap (join_with_byte 32) e

hex_part : {count n : ℕ} {digits : List ℕ} → IsHex count n digits → HasNone 32 digits
hex_part {digits = digits} h = no_space 16 digits (omega arith) h.digits

-- numbers are two parts
number_parts : {width count a n : ℕ} {bytes : List ℕ} (numbers : AreNumbers width count a n bytes) → parts bytes ≡ numbers.front ∷ numbers.back ∷ []
number_parts numbers =
    ap parts numbers.split ∙ (slice_split_at (λ byte. eqb byte 32) numbers.front 32 numbers.back (hex_part numbers.address) refl
    ∙ ap (λ ps. numbers.front ∷ ps) (slice_split_none (λ byte. eqb byte 32) numbers.back (hex_part numbers.number)))

-- the address and the number of a row, as parts
pub record NumberRow (count : ℕ) (made : ℕ → ℕ → Line) (line : Line) (ps : List (List ℕ)) : Type 0 where
  pub a : ℕ
  pub n : ℕ
  pub front : List ℕ
  pub back : List ℕ
  pub is : line ≡ made a n
  pub split : ps ≡ front ∷ back ∷ []
  pub address : IsHex 3 a front
  pub number : IsHex count n back

numbers_of : {count : ℕ} {made : ℕ → ℕ → Line} {line : Line} (bytes : List ℕ) (row : NumberRow count made line (parts bytes)) → AreNumbers 3 count row.a row.n bytes
numbers_of bytes row = record { front = row.front; back = row.back; split = whole bytes (row.front ∷ row.back ∷ []) row.split; address = row.address; number = row.number }

abbrev pub wrote_line : ℕ → ℕ → Line
wrote_line a byte = Tick ⟼ Acted (Wrote a byte)

abbrev pub fetched_line : ℕ → ℕ → Line
fetched_line a word = Fetch ⟼ Fetched a word

abbrev pub low_line : ℕ → ℕ → Line
low_line a byte = Fetch ⟼ Low a byte

-- the same of a write in the RAM
pub record WrittenRow (base : Option ℕ) (line : Line) (ps : List (List ℕ)) : Type 0 where
  pub a : ℕ
  pub n : ℕ
  pub front : List ℕ
  pub back : List ℕ
  pub is : line ≡ wrote_line a n
  pub split : ps ≡ front ∷ back ∷ []
  pub ram : a < 0x800
  pub address : IsWrittenAt base a front
  pub byte_is : IsHex 2 n back

pub wrote_row : {base : Option ℕ} {line : Line} {ps : List (List ℕ)} → LogRow base line (codes "wrote" ∷ ps) → WrittenRow base line ps
wrote_row (wrote {a = a} {byte = n} {address = front} {digits = back} ram h k) = record { a = a; n = n; front = front; back = back; is = refl; split = refl; ram = ram; address = h; byte_is = k }

written_part : (base : Option ℕ) (a : ℕ) (digits : List ℕ) → IsWrittenAt base a digits → HasNone 32 digits
written_part None a digits h = hex_part h
written_part (Some base) a digits h = hex_part h

written_parts : {base : Option ℕ} {a byte : ℕ} {bytes : List ℕ} (w : AreWritten base a byte bytes) → parts bytes ≡ w.front ∷ w.back ∷ []
written_parts {base = base} {a = a} w =
    ap parts w.split ∙ (slice_split_at (λ byte. eqb byte 32) w.front 32 w.back (written_part base a w.front w.address) refl
    ∙ ap (λ ps. w.front ∷ ps) (slice_split_none (λ byte. eqb byte 32) w.back (hex_part w.byte_is)))

pub fetched_row : {base : Option ℕ} {line : Line} {ps : List (List ℕ)} → LogRow base line (codes "fetched" ∷ ps) → NumberRow 4 fetched_line line ps
fetched_row (fetched {a = a} {word = n} {address = front} {digits = back} h k) = record { a = a; n = n; front = front; back = back; is = refl; split = refl; address = h; number = k }

pub low_row : {base : Option ℕ} {line : Line} {ps : List (List ℕ)} → LogRow base line (codes "low" ∷ ps) → NumberRow 2 low_line line ps
low_row (low {a = a} {byte = n} {address = front} {digits = back} h k) = record { a = a; n = n; front = front; back = back; is = refl; split = refl; address = h; number = k }

-- a name alone is one part
alone : {base : Option ℕ} {line : Line} {name : List ℕ} → LogRow base line (name ∷ []) → parts name ≡ name ∷ []
alone started = refl
alone halted = refl
alone reset = refl

-- a line with no numbers is a name alone
named_row : {base : Option ℕ} {line : Line} (name text : List ℕ) → text ≡ name → LogRow base line (name ∷ []) → LogRow base line (text ∷ [])
named_row {base} {line} name text is row = subst (λ text. LogRow base line (text ∷ [])) (sym is) row

bare_of : {base : Option ℕ} {line : Line} {ps : List (List ℕ)} → LogRow base line ps → (text : List ℕ) → parts text ≡ ps
    → ((rest : List ℕ) → text ≢ codes "wrote " ++ rest) → ((rest : List ℕ) → text ≢ codes "fetched " ++ rest) → ((rest : List ℕ) → text ≢ codes "low " ++ rest) → LogRow base line (text ∷ [])
bare_of started text e w f l = named_row (codes "started") text (whole text (codes "started" ∷ []) e) started
bare_of halted text e w f l = named_row (codes "halted") text (whole text (codes "halted" ∷ []) e) halted
bare_of reset text e w f l = named_row (codes "reset") text (whole text (codes "reset" ∷ []) e) reset
bare_of (wrote {address = address} {digits = digits} ram h k) text e w f l = absurd (w (address ++ 32 ∷ digits) (whole text (codes "wrote" ∷ address ∷ digits ∷ []) e))
bare_of (fetched {address = address} {digits = digits} h k) text e w f l = absurd (f (address ++ 32 ∷ digits) (whole text (codes "fetched" ∷ address ∷ digits ∷ []) e))
bare_of (low {address = address} {digits = digits} h k) text e w f l = absurd (l (address ++ 32 ∷ digits) (whole text (codes "low" ∷ address ∷ digits ∷ []) e))

pub bare_row : {base : Option ℕ} {line : Line} (text : List ℕ) → LogRow base line (parts text)
    → ((rest : List ℕ) → text ≢ codes "wrote " ++ rest) → ((rest : List ℕ) → text ≢ codes "fetched " ++ rest) → ((rest : List ℕ) → text ≢ codes "low " ++ rest) → LogRow base line (text ∷ [])
bare_row text row w f l = bare_of row text refl w f l

-- ---- what is read of a line with numbers

pub wrote_made : {base : Option ℕ} (text rest : List ℕ) {a byte : ℕ} → text ≡ codes "wrote " ++ rest → AreWritten base a byte rest → LogRow base (wrote_line a byte) (parts text)
wrote_made {base = base} text rest is w = subst (LogRow base (wrote_line _ _)) (sym (ap parts is ∙ ap (λ ps. codes "wrote" ∷ ps) (written_parts w))) (wrote w.ram w.address w.byte_is)

pub fetched_made : {base : Option ℕ} (text rest : List ℕ) {a word : ℕ} → text ≡ codes "fetched " ++ rest → AreNumbers 3 4 a word rest → LogRow base (fetched_line a word) (parts text)
fetched_made {base = base} text rest is numbers = subst (LogRow base (fetched_line _ _)) (sym (ap parts is ∙ ap (λ ps. codes "fetched" ∷ ps) (number_parts numbers))) (fetched numbers.address numbers.number)

pub low_made : {base : Option ℕ} (text rest : List ℕ) {a byte : ℕ} → text ≡ codes "low " ++ rest → AreNumbers 3 2 a byte rest → LogRow base (low_line a byte) (parts text)
low_made {base = base} text rest is numbers = subst (LogRow base (low_line _ _)) (sym (ap parts is ∙ ap (λ ps. codes "low" ∷ ps) (number_parts numbers))) (low numbers.address numbers.number)

-- the numbers that a row has, as they stand after the name
pub record Numbers (count : ℕ) (made : ℕ → ℕ → Line) (line : Line) (bytes : List ℕ) : Type 0 where
  pub a : ℕ
  pub n : ℕ
  pub is : line ≡ made a n
  pub numbers : AreNumbers 3 count a n bytes

numbers_in : {count : ℕ} {made : ℕ → ℕ → Line} {line : Line} (bytes : List ℕ) → NumberRow count made line (parts bytes) → Numbers count made line bytes
numbers_in bytes row = record { a = row.a; n = row.n; is = row.is; numbers = numbers_of bytes row }

-- the same of a write in the RAM
pub record Written (base : Option ℕ) (line : Line) (bytes : List ℕ) : Type 0 where
  pub a : ℕ
  pub n : ℕ
  pub is : line ≡ wrote_line a n
  pub written : AreWritten base a n bytes

written_in : {base : Option ℕ} {line : Line} (bytes : List ℕ) → WrittenRow base line (parts bytes) → Written base line bytes
written_in bytes row = record {
  a = row.a;
  n = row.n;
  is = row.is;
  written = record { front = row.front; back = row.back; split = whole bytes (row.front ∷ row.back ∷ []) row.split; ram = row.ram; address = row.address; byte_is = row.byte_is };
}

pub wrote_numbers : {base : Option ℕ} {line : Line} (text rest : List ℕ) → text ≡ codes "wrote " ++ rest → LogRow base line (parts text) → Written base line rest
wrote_numbers {base = base} text rest is row = written_in rest (wrote_row (subst (LogRow base _) (ap parts is) row))

pub fetched_numbers : {base : Option ℕ} {line : Line} (text rest : List ℕ) → text ≡ codes "fetched " ++ rest → LogRow base line (parts text) → Numbers 4 fetched_line line rest
fetched_numbers {base = base} text rest is row = numbers_in rest (fetched_row (subst (LogRow base _) (ap parts is) row))

pub low_numbers : {base : Option ℕ} {line : Line} (text rest : List ℕ) → text ≡ codes "low " ++ rest → LogRow base line (parts text) → Numbers 2 low_line line rest
low_numbers {base = base} text rest is row = numbers_in rest (low_row (subst (LogRow base _) (ap parts is) row))

-- ---- what is read of a whole line

pub logged_by : (base : Option ℕ) (text : List ℕ) (answer : Option LogLine) → length text ≤ 64 → is_passed (strip_carriage_return text) ≡ false → IfSome answer (λ found. LogRow base (line_of found) (parts (small (strip_carriage_return text)))) → IfSome answer (λ found. IsLineOf base (line_of found) text)
logged_by base text None short not row = tt
logged_by base text (Some found) short not row = logged short not row

pub row_of : {base : Option ℕ} {line : Line} (text : List ℕ) → is_passed (strip_carriage_return text) ≡ false → IsLineOf base line text → LogRow base line (parts (small (strip_carriage_return text)))
row_of text not (passed short is) = absurd (true≢false (sym is ∙ not))
row_of text not (logged short is row) = row

pub passed_alone : {base : Option ℕ} {line : Line} (text : List ℕ) → is_passed (strip_carriage_return text) ≡ true → IsLineOf base line text → Tick ⟼ Acted Idle ≡ line
passed_alone text is (passed short also) = refl
passed_alone text is (logged short not row) = absurd (true≢false (sym is ∙ not))

pub bare_parts : (base : Option ℕ) (text : List ℕ) (answer : Option LogLine) → IfSome answer (λ found. LogRow base (line_of found) (text ∷ [])) → IfSome answer (λ found. LogRow base (line_of found) (parts text))
bare_parts base text None row = tt
bare_parts base text (Some found) row = subst (LogRow base (line_of found)) (sym (alone row)) row

-- ---- numbers that are read

module _ {width count a n : ℕ} {bytes : List ℕ} (numbers : AreNumbers width count a n bytes) where
  pub front_hex : IsHex width a (take width bytes)
  front_hex =
      let size = numbers.address.size in
      let is : take width bytes ≡ numbers.front = ap (take width) numbers.split ∙ (ap (λ k. take k (numbers.front ++ 32 ∷ numbers.back)) (sym size) ∙ take-append_seam numbers.front (32 ∷ numbers.back)) in
      subst (IsHex width a) (sym is) numbers.address

  pub back_hex : IsHex count n (take (length bytes - (width + 1)) (drop (width + 1) bytes))
  back_hex =
      let size = numbers.address.size in
      let past : width + 1 ≡ length numbers.front + 1 = omega arith in
      let is : drop (width + 1) bytes ≡ numbers.back = ap (drop (width + 1)) numbers.split ∙ (ap (λ k. drop k (numbers.front ++ 32 ∷ numbers.back)) past ∙ drop-append-add numbers.front (32 ∷ numbers.back) 1) in
      subst (IsHex count n) (sym (take_rest bytes (width + 1) ∙ is)) numbers.number

-- the numbers of a write, with a base and without
pub based : {base : Option ℕ} {b a byte : ℕ} {bytes : List ℕ} → base ≡ Some b → AreWritten base a byte bytes → AreNumbers 4 2 (b + a) byte bytes
based {a = a} is w = record { front = w.front; back = w.back; split = w.split; address = subst (λ base. IsWrittenAt base a w.front) is w.address; number = w.byte_is }

pub unbased : {base : Option ℕ} {a byte : ℕ} {bytes : List ℕ} → base ≡ None → AreWritten base a byte bytes → AreNumbers 3 2 a byte bytes
unbased {a = a} is w = record { front = w.front; back = w.back; split = w.split; address = subst (λ base. IsWrittenAt base a w.front) is w.address; number = w.byte_is }

-- one line is made of the same numbers
pub same_line : (made : ℕ → ℕ → Line) (a b x y : ℕ) (line : Line) → ◌≡◌ {A = Option (ℕ × ℕ)} (Some (a, b)) (Some (x, y)) → line ≡ made x y → made a b ≡ line
same_line made a b x y line e is =
    let one : a ≡ x = ap (λ (o : Option (ℕ × ℕ)). (unwrap_or o (a, b)).0) e in
    let two : b ≡ y = ap (λ (o : Option (ℕ × ℕ)). (unwrap_or o (a, b)).1) e in
    ap (λ k. made k b) one ∙ (ap (λ k. made x k) two ∙ sym is)

pub same_numbers : (a b x y : ℕ) → Some a ≡ Some x → Some b ≡ Some y → ◌≡◌ {A = Option (ℕ × ℕ)} (Some (a, b)) (Some (x, y))
same_numbers a b x y e f = let one : a ≡ x = cc in let two : b ≡ y = cc in rw (one, two)

-- what a search for a name at a line's front answers
abbrev pub FoundBehind : (text name : List ℕ) → Option (Bor (List ℕ)) → Type 0
FoundBehind text name found = MatchOption found (pointwise eqb (take (length name) text) name ≡ false)
    (λ rest. (pointwise eqb (take (length name) text) name ≡ true) × (rest.now ≡ drop (length name) text) × (length rest.now + length name ≡ length text))

pub behind_name : (text name : List ℕ) (found : Option (Bor (List ℕ))) (rest : Bor (List ℕ)) → FoundBehind text name found → found ≡ Some rest → text ≡ name ++ rest.now
behind_name text name None rest cases is = absurd (cc)
behind_name text name (Some other) rest cases is =
    let same : other ≡ rest = cc in
    subst (λ rest. text ≡ name ++ rest.now) same (strip_prefix_is {A = ℕ} {E = eqb} Decides-eqb text name (Some other) cases)

pub without : (text name : List ℕ) (found : Option (Bor (List ℕ))) → FoundBehind text name found → ((rest : Bor (List ℕ)) → found ≡ Some rest → ⊥) → (rest : List ℕ) → text ≢ name ++ rest
without text name None cases not = strip_prefix_is {A = ℕ} {E = eqb} Decides-eqb text name None cases
without text name (Some rest) cases not = absurd (not rest refl)
