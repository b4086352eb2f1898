-- The table of the words before each operation.
use Rattle.std.proofs.Common.{All, ◌≡◌, ℕ, zero, suc, ◌+◌, ◌*◌, ◌<◌, ◌≤◌, List, [], ◌∷◌, ◌++◌, length, take, get_or, refl, sym, ap, ◌∙◌, subst, arith, length-append}
use Rattle.std.proofs.lemmas.List.{length-take}
use Rattle.std.proofs.lemmas.List.Elements.{All-append, All-push}
use Rattle.std.proofs.Math.Seq.{take-length, take-suc}
use Rattle.dvg_code.specs.declared.instr.Instr.TheVariants.{Vctr, Labs}
use Rattle.dvg_frame.specs.declared.op.OpKind.{OpKind}
use Rattle.dvg_frame.specs.declared.op.OpKind.TheVariants.{Draw}
use Rattle.dvg_frame.specs.Layout.{op_words, size}
use Rattle.dvg_frame.specs.own.Counting.{counts_from, IsCounted}
use Rattle.dvg_frame.specs.Ops.{IsDraft, IsOp}

pub counts-length : (n : ℕ) (F : List OpKind) → length (counts_from n F) ≡ suc (length F)
counts-length n [] = refl
counts-length n (op ∷ ops) = ap suc (counts-length (n + op_words op) ops)

-- one more operation
pub counts-more : (n : ℕ) (F : List OpKind) (op : OpKind) → counts_from n (F ++ op ∷ []) ≡ counts_from n F ++ (n + (size F + op_words op)) ∷ []
counts-more n [] op = let same : n + op_words op ≡ n + (0 + op_words op) = omega arith in ap (λ m. n ∷ m ∷ []) same
counts-more n (x ∷ xs) op =
    let rest = counts-more (n + op_words x) xs op in
    let same : n + op_words x + (size xs + op_words op) ≡ n + (op_words x + size xs + op_words op) = omega arith in
    ap (λ l. n ∷ l) (rest ∙ ap (λ m. counts_from (n + op_words x) xs ++ m ∷ []) same)

pub size-more : (F : List OpKind) (op : OpKind) → size (F ++ op ∷ []) ≡ size F + op_words op
size-more [] op = omega arith
size-more (x ∷ xs) op = let rest = size-more xs op in omega arith

-- the entry of an operation, or of their end
count_at : (n : ℕ) (F : List OpKind) (i d : ℕ) → i ≤ length F → get_or (counts_from n F) i d ≡ n + size (take i F)
count_at n [] zero d low = omega arith
count_at n [] (suc i) d low = absurd (omega arith)
count_at n (op ∷ ops) zero d low = omega arith
count_at n (op ∷ ops) (suc i) d low = let rest = count_at (n + op_words op) ops i d (omega arith) in omega arith

-- what stands in the table
pub in_table : (F view : List OpKind) (table now : List ℕ) (i : ℕ) → IsCounted F table → now ≡ table → F ≡ view → i ≤ length view → i < length now
in_table F view table now i counted same viewed low =
    let counts = ap length (same ∙ counted.counts) in
    let count = counts-length 0 F in
    let length_now = ap length viewed in
    omega arith

pub found_count : (F view : List OpKind) (table now : List ℕ) (i d : ℕ) → IsCounted F table → now ≡ table → F ≡ view → i ≤ length view → get_or now i d ≡ size (take i view)
found_count F view table now i d counted same viewed low =
    let entry : get_or now i d ≡ 0 + size (take i F) = ap (λ l. get_or l i d) (same ∙ counted.counts) ∙ count_at 0 F i d (let length_now = ap length viewed in omega arith) in
    let front = ap (λ l. size (take i l)) viewed in
    omega arith

-- a draft with one more operation
pub draft_pushed : (F G : List OpKind) (op kind : OpKind) → IsDraft F → IsOp kind → length F < 511 → kind ≡ op → G ≡ F ++ op ∷ [] → IsDraft G
draft_pushed F G op kind draft valid low same is = rw is (record { count = omega (arith, length-append F (op ∷ [])); ops = All-push IsOp F op draft.ops (subst IsOp same valid) })

-- drafts of more operations
pub draft_extended : (F ops G : List OpKind) → IsDraft F → All IsOp ops → length F + length ops ≤ 511 → G ≡ F ++ ops → IsDraft G
draft_extended F ops G draft valid room is = rw is (record { count = omega (arith, length-append F ops); ops = All-append IsOp F ops draft.ops valid })

-- one more operation of a list
one_more : (F : List OpKind) (k : ℕ) (item : OpKind) → k < length F → item ≡ get_or F k item → take (k + 1) F ≡ take k F ++ item ∷ []
one_more F k item within is =
    let next : k + 1 ≡ suc k = omega arith in
    ap (λ n. take n F) next ∙ take-suc F k item within ∙ ap (λ op. take k F ++ op ∷ []) (sym is)

pub ops_item : (F : List OpKind) (k : ℕ) (item kind : OpKind) → All IsOp (take k F) → k < length F → item ≡ get_or F k item → kind ≡ item → IsOp kind → All IsOp (take (k + 1) F)
ops_item F k item kind so_far within is same valid =
    subst (All IsOp) (sym (one_more F k item within is)) (All-push IsOp (take k F) item so_far (subst IsOp same valid))

pub ops_all : (F : List OpKind) (k : ℕ) → k ≡ length F → All IsOp (take k F) → All IsOp F
ops_all F k all valid = subst (All IsOp) (ap (λ n. take n F) all ∙ take-length F) valid

-- the table with one more operation
pub counts_item : (F : List OpKind) (k words : ℕ) (item : OpKind) (table now : List ℕ) → k < length F → item ≡ get_or F k item → table ≡ counts_from 0 (take k F) → words ≡ size (take (k + 1) F) → now ≡ table ++ words ∷ []
    → now ≡ counts_from 0 (take (k + 1) F)
counts_item F k words item table now within is so_far words_is pushed =
    let more = one_more F k item within is in
    let all : words ≡ 0 + (size (take k F) + op_words item) = let sum = words_is ∙ ap size more ∙ size-more (take k F) item in omega arith in
    pushed ∙ ap (λ l. l ++ words ∷ []) so_far ∙ ap (λ n. counts_from 0 (take k F) ++ n ∷ []) all ∙ sym (counts-more 0 (take k F) item) ∙ ap (counts_from 0) (sym more)

-- the table has an entry for each of the first operations, and one for their end
pub counts-length_take : (F : List OpKind) (k : ℕ) (table : List ℕ) → table ≡ counts_from 0 (take k F) → length table ≤ k + 1
counts-length_take F k table is =
    let same = ap length is in
    let count = counts-length 0 (take k F) in
    let front = length-take k F in
    omega arith

-- the table of all operations
pub counted_all : (F : List OpKind) (k : ℕ) (table : List ℕ) → IsDraft F → k ≡ length F → table ≡ counts_from 0 (take k F) → IsCounted F table
counted_all F k table draft all is = record { draft = draft; counts = is ∙ ap (λ n. counts_from 0 (take n F)) all ∙ ap (counts_from 0) (take-length F) }

few_words : (op : OpKind) → op_words op ≤ 2
few_words (Draw (Vctr scale dx dy z)) = omega arith
few_words (Draw (Labs x y scale)) = omega arith
few_words _ = omega arith

-- an operation has two words at most
pub size_bound : (F : List OpKind) → size F ≤ 2 * length F
size_bound [] = omega arith
size_bound (op ∷ ops) = let rest = size_bound ops in let few = few_words op in omega arith
