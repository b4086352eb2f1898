-- How many words operations have, and which word of a layout is theirs.
use Rattle.std.proofs.Common.{◌≡◌, ℕ, zero, suc, ◌+◌, ◌-◌, ◌<◌, ◌≤◌, List, [], ◌∷◌, ◌++◌, length, get_or, take, Some, refl, sym, ap, ◌∙◌, subst, arith, length-append}
use Rattle.std.specs.Prelude.{slice_get}
use Rattle.std.proofs.lemmas.List.{get_or-append-add}
use Rattle.std.proofs.lemmas.Option.{slice_get_within, get_or_from_slice_get, slice_get-get_or}
use Rattle.std.proofs.Math.ListN.{get_or-append}
use Rattle.std.proofs.Math.Seq.{take-length}
use Rattle.dvg_code.specs.declared.instr.Instr.{Instr}
use Rattle.dvg_code.specs.declared.instr.Instr.TheVariants.{Vctr, Labs, Halt, Jsrl, Rtsl, Jmpl, Svec}
use Rattle.dvg_code.specs.Spelling.{canon, word_count}
use Rattle.dvg_mem.specs.declared.half.Half.{Half}
use Rattle.dvg_mem.specs.declared.half.Half.TheVariants.{H0, H1}
use Rattle.dvg_mem.specs.Areas.{base}
use Rattle.dvg_frame.specs.declared.op.OpKind.{OpKind}
use Rattle.dvg_frame.specs.declared.op.OpKind.TheVariants.{Draw, CallRom, JumpRom, Call, Jump, Return, Halt as Stop}
use Rattle.dvg_frame.specs.own.Frames.{IsSpelling}
use Rattle.dvg_frame.specs.Cursors.{laid_ops}
use Rattle.dvg_frame.specs.Layout.{op_words, size, op_code, laid}
use Rattle.dvg_frame.specs.Steps.{Closed}

-- each operation has a word
pub some_words : (op : OpKind) → 1 ≤ op_words op
some_words (Draw (Vctr scale dx dy z)) = omega arith
some_words (Draw (Labs x y scale)) = omega arith
some_words _ = omega arith

-- so a list has as many words as operations, or more
pub length-le-size : (F : List OpKind) → length F ≤ size F
length-le-size [] = omega arith
length-le-size (op ∷ ops) = let rest = length-le-size ops in let one = some_words op in omega arith

-- the item that was read
pub read_op : (F : List OpKind) (k : ℕ) (item : OpKind) → k < length F → item ≡ get_or F k item → slice_get F k ≡ Some item
read_op F k item within is = slice_get-get_or F k item within ∙ ap Some (sym is)

-- one more operation
size-take_suc : (F : List OpKind) (k : ℕ) (op : OpKind) → slice_get F k ≡ Some op → size (take (suc k) F) ≡ size (take k F) + op_words op
size-take_suc [] k op is = let within = slice_get_within [] k op is in absurd (omega arith)
size-take_suc (x ∷ xs) zero op is =
    let same : x ≡ op = cc in
    let words : op_words x ≡ op_words op = ap op_words same in
    omega arith
size-take_suc (x ∷ xs) (suc k) op is = let rest = size-take_suc xs k op is in omega arith

pub size-take_more : (F : List OpKind) (k : ℕ) (op kind : OpKind) (words more : ℕ) → words ≡ size (take k F) → slice_get F k ≡ Some op → kind ≡ op → more ≡ op_words kind
    → words + more ≡ size (take (k + 1) F)
size-take_more F k op kind words more so_far is kind_is more_is =
    let step = size-take_suc F k op is in
    let one : more ≡ op_words op = more_is ∙ ap op_words kind_is in
    let next : size (take (k + 1) F) ≡ size (take (suc k) F) = let same : k + 1 ≡ suc k = omega arith in ap (λ n. size (take n F)) same in
    omega arith

-- all operations
pub size-take_all : (F : List OpKind) (n : ℕ) → n ≡ length F → size (take n F) ≡ size F
size-take_all F n all = ap (λ m. size (take m F)) all ∙ ap size (take-length F)

-- the step of a loop over the first i of the operations
pub size_item : (F : List OpKind) (k : ℕ) (item kind : OpKind) (words more : ℕ) → words ≡ size (take k F) → k < length F → item ≡ get_or F k item → kind ≡ item → more ≡ op_words kind
    → words + more ≡ size (take (k + 1) F)
size_item F k item kind words more so_far within is kind_is more_is =
    size-take_more F k item kind words more so_far (read_op F k item within is) kind_is more_is

-- some operations have no more words than all
pub size-take_le : (F : List OpKind) (n : ℕ) → size (take n F) ≤ size F
size-take_le [] zero = omega arith
size-take_le [] (suc n) = omega arith
size-take_le (op ∷ ops) zero = omega arith
size-take_le (op ∷ ops) (suc n) = let rest = size-take_le ops n in omega arith

-- each half begins at word 201 at the latest
pub base_low : (half : Half) → base half ≤ 0x201
base_low H0 = omega arith
base_low H1 = omega arith

-- no half has word zero
pub base_high : (half : Half) → 1 ≤ base half
base_high H0 = omega arith
base_high H1 = omega arith

length-canon : (instr : Instr) → length (canon instr) ≡ word_count instr
length-canon (Vctr scale dx dy z) = refl
length-canon (Labs x y scale) = refl
length-canon Halt = refl
length-canon (Jsrl address) = refl
length-canon Rtsl = refl
length-canon (Jmpl address) = refl
length-canon (Svec scale dx dy z) = refl

-- an operation has its number of words in each half
pub canon_length : (half : Half) (F : List OpKind) (op : OpKind) → length (canon (op_code half F op)) ≡ op_words op
canon_length half F (Draw instr) = length-canon instr
canon_length half F (CallRom a) = refl
canon_length half F (JumpRom a) = refl
canon_length half F (Call j) = refl
canon_length half F (Jump j) = refl
canon_length half F Return = refl
canon_length half F Stop = refl

words_length : (half : Half) (F ops : List OpKind) → length (laid_ops half F ops) ≡ size ops
words_length half F [] = refl
words_length half F (op ∷ ops) =
    let first = canon_length half F op in
    let rest = words_length half F ops in
    let both = length-append (canon (op_code half F op)) (laid_ops half F ops) in
    omega arith

pub laid_length : (half : Half) (F : List OpKind) → length (laid half F) ≡ size F
laid_length half F = words_length half F F

-- a draft without faults has at most 511 words
pub closed_fits : (half : Half) (F : List OpKind) (R : List ℕ) → Closed F R → length (laid half F) ≤ 511
closed_fits half F R closed = let laid_is = laid_length half F in let fits = closed.begins.fits in omega arith

get_front : (xs ys : List ℕ) (j x : ℕ) → slice_get xs j ≡ Some x → slice_get (xs ++ ys) j ≡ Some x
get_front xs ys j x is =
    let within = slice_get_within xs j x is in
    let here : get_or (xs ++ ys) j 0 ≡ x = get_or-append xs ys 0 j within ∙ get_or_from_slice_get xs j x 0 is in
    let within_both : j < length (xs ++ ys) = let both = length-append xs ys in omega arith in
    slice_get-get_or (xs ++ ys) j 0 within_both ∙ ap Some here

get_back : (xs ys : List ℕ) (j n x : ℕ) → n ≡ length xs + j → slice_get ys j ≡ Some x → slice_get (xs ++ ys) n ≡ Some x
get_back xs ys j n x n_is is =
    let within = slice_get_within ys j x is in
    let here : get_or (xs ++ ys) n 0 ≡ x = ap (λ k. get_or (xs ++ ys) k 0) n_is ∙ get_or-append-add xs ys j 0 ∙ get_or_from_slice_get ys j x 0 is in
    let within_both : n < length (xs ++ ys) = let both = length-append xs ys in omega arith in
    slice_get-get_or (xs ++ ys) n 0 within_both ∙ ap Some here

-- word r of operation i stands after the words of the operations before it
word_of_ops : (half : Half) (F ops : List OpKind) (i n r word : ℕ) (op : OpKind) → slice_get ops i ≡ Some op → n ≡ size (take i ops) + r → slice_get (canon (op_code half F op)) r ≡ Some word
    → slice_get (laid_ops half F ops) n ≡ Some word
word_of_ops half F [] i n r word op is n_is word_is = let within = slice_get_within [] i op is in absurd (omega arith)
word_of_ops half F (x ∷ ops) zero n r word op is n_is word_is =
    let same : x ≡ op = cc in
    let at_r : n ≡ r = omega arith in
    get_front (canon (op_code half F x)) (laid_ops half F ops) n word
    (subst (λ y. slice_get (canon (op_code half F y)) n ≡ Some word) (sym same) (subst (λ k. slice_get (canon (op_code half F op)) k ≡ Some word) (sym at_r) word_is))
word_of_ops half F (x ∷ ops) (suc i) n r word op is n_is word_is =
    let first = canon_length half F x in
    let rest = word_of_ops half F ops i (size (take i ops) + r) r word op is refl word_is in
    get_back (canon (op_code half F x)) (laid_ops half F ops) (size (take i ops) + r) n word (omega arith) rest

pub laid_word : (half : Half) (F : List OpKind) (i n before count k : ℕ) (op : OpKind) (words : List ℕ) → slice_get F i ≡ Some op → before ≡ size (take i F) → before ≤ n → count ≡ op_words op → n < before + count
    → words ≡ canon (op_code half F op) → k ≡ n - before → slice_get (laid half F) n ≡ Some (get_or words k 0)
laid_word half F i n before count k op words is before_is low count_is high words_is k_is =
    let size_op : count ≡ length words = count_is ∙ sym (canon_length half F op) ∙ ap length (sym words_is) in
    let word : slice_get words k ≡ Some (get_or words k 0) = slice_get-get_or words k 0 (omega arith) in
    word_of_ops half F F i n k (get_or words k 0) op is (omega arith) (subst (λ ws. slice_get ws k ≡ Some (get_or words k 0)) words_is word)

-- the words of an operation are as many as it has
pub spelling_length : (half : Half) (F : List OpKind) (i count : ℕ) (op : OpKind) (words : List ℕ) → slice_get F i ≡ Some op → IsSpelling half F i words → count ≡ op_words op → length words ≡ count
spelling_length half F i count op words is spelled count_is = ap length (spelled op is) ∙ canon_length half F op ∙ sym count_is
