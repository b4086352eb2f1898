-- Lines that tell numbers, at the head of a text.
use Rattle.std.proofs.Common.{◌≡◌, ◌<◌, ◌≤◌, ◌+◌, ◌*◌, ◌-◌, ℕ, List, [], ◌∷◌, ◌++◌, length, get_or, take, drop, min, refl, sym, ap, ◌∙◌, subst, arith, eqb, false, append_assoc, length-append, bit_or, codes, zero, suc, Option, None}
use Rattle.std.specs.Prelude.{⊤}
use Rattle.std.specs.Char.{digit_value, to_ascii_lowercase}
use Rattle.std.specs.Str.Lines.{strip_carriage_return}
use Rattle.std.specs.Prelude.{All}
use Rattle.std.specs.Str.Parse.{AllDigits}
use Rattle.std.proofs.lemmas.Bool.{eqb-true, false_from_ne_true}
use Rattle.std.proofs.lemmas.Nat.{le_or_l, le_or_r}
use Rattle.std.proofs.lemmas.List.{drop_more, map-append, take_rest}
use Rattle.std.proofs.lemmas.List.Elements.{All-cons}
use Rattle.dvg_log.specs.Log.{Line, Log}
use Rattle.dvg_read.specs.Texts.{IsHex, is_passed, parts}
use Rattle.dvg_logs.specs.LogLines.{IsLineOf, LogRow, logged, small}
use Rattle.dvg_logs.specs.LogLineTells.{AreNumbers, AreWritten, BeginsWithNumbers}
use Rattle.dvg_logs.specs.declared.log_reading.JudgedLines.{JudgedLines}
use Rattle.dvg_logs.specs.LogReading.{HasJudged, HeadLine, IsRead, TakesLine, TakesLines}
use Rattle.dvg_logs.proofs.LogReads.{first_read, line_off}
use Rattle.dvg_logs.proofs.SmallLines.{small_numbers, stripped}
use Rattle.dvg_logs.proofs.LogRows.{fetched_line, fetched_made, low_line, low_made, wrote_line, wrote_made}

-- ---- digits

-- a byte whose value in the table is a digit's is that digit
digit : (byte value : ℕ) → value ≡ min 16 (digit_value byte) → value < 16
    → (digit_value byte < 16) × (digit_value byte ≡ value)
digit byte value is few = (omega (arith, is, few), omega (arith, is, few))

pub two_hex : (a b x y : ℕ) → x ≡ min 16 (digit_value a) → y ≡ min 16 (digit_value b) → x < 16 → y < 16
    → IsHex 2 (16 * x + y) (a ∷ b ∷ [])
two_hex a b x y e f s t =
    let i = digit a x e s in
    let j = digit b y f t in
    record { size = refl; digits = (i.0, (j.0, tt)); value = omega (arith, i.1, j.1) }

pub three_hex : (a b d x y z : ℕ) → x ≡ min 16 (digit_value a) → y ≡ min 16 (digit_value b) → z ≡ min 16 (digit_value d)
    → x < 16 → y < 16 → z < 16 → IsHex 3 (256 * x + (16 * y + z)) (a ∷ b ∷ d ∷ [])
three_hex a b d x y z e f g s t u =
    let i = digit a x e s in
    let j = digit b y f t in
    let k = digit d z g u in
    record { size = refl; digits = (i.0, (j.0, (k.0, tt))); value = omega (arith, i.1, j.1, k.1) }

pub four_hex : (a b d q x y z w : ℕ) → x ≡ min 16 (digit_value a) → y ≡ min 16 (digit_value b)
    → z ≡ min 16 (digit_value d) → w ≡ min 16 (digit_value q) → x < 16 → y < 16 → z < 16 → w < 16
    → IsHex 4 (256 * (16 * x + y) + (16 * z + w)) (a ∷ b ∷ d ∷ q ∷ [])
four_hex a b d q x y z w e f g h s t u v =
    let front = three_hex a b d x y z e f g s t u in
    let l = digit q w h v in
    let (i, (j, (k, none))) = front.digits in
    record { size = refl; digits = (i, (j, (k, (l.0, tt)))); value = omega (arith, front.value, l.1) }

-- what is below 16 together is below it alone
both_below : (x y : ℕ) → bit_or x y < 16 → (x < 16) × (y < 16)
both_below x y few = (omega (arith, le_or_l x y, few), omega (arith, le_or_r x y, few))

pub five_below : (a b d x y : ℕ) → bit_or (bit_or (bit_or (bit_or a b) d) x) y < 16
    → ((a < 16) × (b < 16) × (d < 16)) × ((x < 16) × (y < 16))
five_below a b d x y few =
    let (four, fifth) = both_below (bit_or (bit_or (bit_or a b) d) x) y few in
    let (three, fourth) = both_below (bit_or (bit_or a b) d) x four in
    let (two, third) = both_below (bit_or a b) d three in
    let (first, second) = both_below a b two in
    ((first, second, third), (fourth, fifth))

pub seven_below : (a b d x y z w : ℕ) → bit_or (bit_or (bit_or (bit_or (bit_or (bit_or a b) d) x) y) z) w < 16
    → ((a < 16) × (b < 16) × (d < 16)) × ((x < 16) × (y < 16)) × ((z < 16) × (w < 16))
seven_below a b d x y z w few =
    let (six, seventh) = both_below (bit_or (bit_or (bit_or (bit_or (bit_or a b) d) x) y) z) w few in
    let (five, sixth) = both_below (bit_or (bit_or (bit_or (bit_or a b) d) x) y) z six in
    let (front, back) = five_below a b d x y five in
    (front, back, (sixth, seventh))

-- ---- the head of a text

-- this many bytes from a place on
abbrev pub firsts : ℕ → ℕ → List ℕ → List ℕ
firsts i zero text = []
firsts i (suc k) text = get_or text i 0 ∷ firsts (suc i) k text

cut_from : (text : List ℕ) (i k : ℕ) → i + k ≤ length text → drop i text ≡ firsts i k text ++ drop (i + k) text
cut_from text i zero fits = let is : i ≡ i + zero = omega arith in ap (λ n. drop n text) is
cut_from text i (suc k) fits =
    let next : i + 1 ≡ suc i = omega arith in
    let end : suc i + k ≡ i + suc k = omega arith in
    drop_more text i 0 (omega (arith, fits)) ∙ ap (λ l. get_or text i 0 ∷ l)
    (ap (λ n. drop n text) next ∙ (cut_from text (suc i) k (omega (arith, fits)) ∙ ap (λ n. firsts (suc i) k text ++ drop n text) end))

pub head_of : (text : List ℕ) (k : ℕ) → k ≤ length text → text ≡ firsts 0 k text ++ take (length text - k) (drop k text)
head_of text k fits =
    let is : 0 + k ≡ k = omega arith in
    cut_from text 0 k (omega (arith, fits)) ∙ (ap (λ n. firsts 0 k text ++ drop n text) is ∙ ap (λ l. firsts 0 k text ++ l) (sym (take_rest text k)))

-- none of these bytes is this one, which is no digit
module _ (c : ℕ) (no_digit : 16 ≤ digit_value c) where
  abbrev pub Lacks : List ℕ → Type 0
  Lacks [] = ⊤
  Lacks (byte ∷ bytes) = (eqb byte c ≡ false) × Lacks bytes

  pub none_of : (bytes : List ℕ) → Lacks bytes → All (λ byte. eqb byte c ≡ false) bytes
  none_of [] none = λ k d inside. absurd (omega arith)
  none_of (byte ∷ bytes) (other, others) = All-cons (λ b. eqb b c ≡ false) byte bytes other (none_of bytes others)

  -- no digit is
  lacking : (digits : List ℕ) → AllDigits 16 digits → Lacks digits
  lacking [] h = tt
  lacking (byte ∷ bytes) (h, others) = (false_from_ne_true (eqb byte c) (λ is. absurd (omega (arith, h, no_digit, ap digit_value (eqb-true byte c is)))), lacking bytes others)

  both_lack : (one other : List ℕ) → Lacks one → Lacks other → Lacks (one ++ other)
  both_lack [] other none h = h
  both_lack (byte ∷ bytes) other (none, more) h = (none, both_lack bytes other more h)

  pub numbers_lack : (space : eqb 32 c ≡ false) {count a n : ℕ} {bytes : List ℕ} → AreNumbers 3 count a n bytes → Lacks bytes
  numbers_lack space numbers =
      let back = lacking numbers.back numbers.number.digits in
      subst Lacks (sym numbers.split)
      (both_lack numbers.front (32 ∷ numbers.back) (lacking numbers.front numbers.address.digits) (space, back))

  pub line_lacks : (space : eqb 32 c ≡ false) {count a n : ℕ} {bytes : List ℕ} (name : List ℕ) → Lacks name → AreNumbers 3 count a n bytes → All (λ byte. eqb byte c ≡ false) (name ++ bytes)
  line_lacks space {bytes = bytes} name none numbers = none_of (name ++ bytes) (both_lack name bytes none (numbers_lack space numbers))

pub numbers : {count a n : ℕ} {front back : List ℕ} → IsHex 3 a front → IsHex count n back
    → AreNumbers 3 count a n (front ++ 32 ∷ back)
numbers {front = front} {back = back} address number =
    record { front = front; back = back; split = refl; address = address; number = number }

-- so a name with its space, numbers and an end are a line at a text's head
number_head : {count a n : ℕ} {text rest : List ℕ} (Holds : Option ℕ → Type 0) (line : Line) (name : List ℕ)
    (begins : BeginsWithNumbers count a n text rest) → Lacks 10 (omega arith) name → Lacks 13 (omega arith) name → small name ≡ name
    → length name + count ≤ 60 → is_passed (name ++ begins.bytes) ≡ false
    → ((base : Option ℕ) → Holds base → LogRow base line (parts (name ++ small begins.bytes))) → HeadLine Holds line (name ++ text) rest
number_head {rest = rest} Holds line name begins none no_cr in_small few not row =
    let bytes = begins.bytes in
    let numbers = begins.numbers in
    let size = length-append numbers.front (32 ∷ numbers.back) in
    let whole : strip_carriage_return (name ++ bytes) ≡ name ++ bytes = stripped (name ++ bytes) (line_lacks 13 (omega arith) refl name no_cr numbers) in
    let lowered : small (strip_carriage_return (name ++ bytes)) ≡ name ++ small bytes = ap small whole ∙ (map-append to_ascii_lowercase name bytes ∙ ap (λ l. l ++ small bytes) in_small) in
    record {
      line = name ++ bytes;
      split = ap (λ l. name ++ l) begins.split ∙ sym (append_assoc name bytes (10 ∷ rest));
      unended = line_lacks 10 (omega arith) refl name none numbers;
      tells = λ base holds. logged (omega (
        arith,
        length-append name bytes,
        ap length numbers.split,
        size,
        numbers.address.size,
        numbers.number.size,
        few,
      )) (ap is_passed whole ∙ not) (subst (λ text. LogRow base line (parts text)) (sym lowered) (row base holds));
    }

-- without a base
written : {a byte : ℕ} {bytes : List ℕ} → a < 0x800 → AreNumbers 3 2 a byte bytes → AreWritten None a byte bytes
written ram numbers = record { front = numbers.front; back = numbers.back; split = numbers.split; ram = ram; address = numbers.address; byte_is = numbers.number }

pub wrote_head : {a n : ℕ} {text rest : List ℕ} → BeginsWithNumbers 2 a n text rest → a < 0x800
    → HeadLine (λ base. base ≡ None) (wrote_line a n) (codes "wrote " ++ text) rest
wrote_head {a} {n} begins ram =
    number_head (λ base. base ≡ None) (wrote_line a n) (codes "wrote ") begins (refl, (refl, (refl, (refl, (refl, (refl, tt)))))) (refl, (refl, (refl, (refl, (refl, (refl, tt)))))) refl (omega arith) refl
    (λ base none. subst (λ base. LogRow base (wrote_line a n) (parts (codes "wrote " ++ small begins.bytes))) (sym none)
    (wrote_made (codes "wrote " ++ small begins.bytes) (small begins.bytes) refl (written ram (small_numbers begins.numbers))))

pub low_head : {a n : ℕ} {text rest : List ℕ} → BeginsWithNumbers 2 a n text rest
    → HeadLine (λ base. Unit {0}) (low_line a n) (codes "low " ++ text) rest
low_head {a} {n} begins =
    number_head (λ base. Unit {0}) (low_line a n) (codes "low ") begins (refl, (refl, (refl, (refl, tt)))) (refl, (refl, (refl, (refl, tt)))) refl (omega arith) refl
    (λ base holds. low_made (codes "low " ++ small begins.bytes) (small begins.bytes) refl (small_numbers begins.numbers))

pub fetched_head : {a n : ℕ} {text rest : List ℕ} → BeginsWithNumbers 4 a n text rest
    → HeadLine (λ base. Unit {0}) (fetched_line a n) (codes "fetched " ++ text) rest
fetched_head {a} {n} begins =
    number_head (λ base. Unit {0}) (fetched_line a n) (codes "fetched ") begins (refl, (refl, (refl, (refl, (refl, (refl, (refl, (refl, tt)))))))) (refl, (refl, (refl, (refl, (refl, (refl, (refl, (refl, tt)))))))) refl (omega arith) refl
    (λ base holds. fetched_made (codes "fetched " ++ small begins.bytes) (small begins.bytes) refl (small_numbers begins.numbers))

-- ---- lines that are taken

module _ {J V : Type 0} {Stands : J → Log → Type 0} {Passes : List V → Log → Type 0} where
  pub line_taken : {Holds : Option ℕ → Type 0} {old new : JudgedLines J} {logged : Line} {text rest : List ℕ} → HeadLine Holds logged text rest → ((base : Option ℕ) → old.base ≡ base → Holds base)
      → ((base : Option ℕ) (said : List V) (before : List (List ℕ)) (line : List ℕ) → HasJudged base Stands (Passes said) old before → IsLineOf base logged line → HasJudged base Stands (Passes said) new (before ++ line ∷ [])) → TakesLine Stands Passes old new text rest
  line_taken head holds takes = record {
    line = head.line;
    split = head.split;
    unended = head.unended;
    judged = λ base said before judged. takes base said before head.line judged (head.tells base (holds base judged.based));
  }

  pub one_taken : {old between new : JudgedLines J} {text rest after : List ℕ} → TakesLines Stands Passes old between text rest → TakesLine Stands Passes between new rest after → new.count ≡ between.count + 1 → TakesLines Stands Passes old new text after
  one_taken {new = new} {text = text} {rest = rest} {after = after} lines line count = record {
    front = lines.front ++ (line.line ++ 10 ∷ []);
    split = line_off lines.front line.line after rest text lines.split line.split;
    read = λ base said before read. let so_far = lines.read base said before read in
        subst (IsRead base Stands (Passes said) new []) (append_assoc before lines.front (line.line ++ 10 ∷ []))
        (first_read line.line so_far line.unended refl new (line.judged base said so_far.texts so_far.fine));
    farther = omega (arith, count, lines.farther);
    some = λ some. omega (arith, count, lines.farther);
  }

  -- what is left gets shorter
  pub shorter : {old new : JudgedLines J} {text rest : List ℕ} → TakesLine Stands Passes old new text rest → length rest < length text
  shorter {rest = rest} line = omega (arith, ap length line.split, length-append line.line (10 ∷ rest))

  -- after a text that ends with a line
  pub lines_read : {old new : JudgedLines J} {unfinished text after rest : List ℕ} (lines : TakesLines Stands Passes old new after rest) (base : Option ℕ) (said : List V) → unfinished ≡ [] → IsRead base Stands (Passes said) old unfinished text → IsRead base Stands (Passes said) new unfinished (text ++ lines.front)
  lines_read {old = old} {new = new} {text = text} lines base said none read =
      subst (λ l. IsRead base Stands (Passes said) new l (text ++ lines.front)) (sym none) (lines.read base said text (subst (λ l. IsRead base Stands (Passes said) old l text) none read))

  -- and of a piece, of which this front was read before
  pub lines_off : {old new : JudgedLines J} {after rest : List ℕ} (front piece : List ℕ) (lines : TakesLines Stands Passes old new after rest) → piece ≡ front ++ after → piece ≡ (front ++ lines.front) ++ rest
  lines_off {rest = rest} front piece lines is = is ∙ (ap (λ l. front ++ l) lines.split ∙ sym (append_assoc front lines.front rest))
