-- What a draft measures.
use Rattle.std.proofs.Common.{◌≡◌, ℕ, zero, suc, ◌+◌, ◌<◌, ◌≤◌, List, [], ◌∷◌, length, get_or, take, Some, refl, sym, ap, ◌∙◌, subst, arith}
use Rattle.std.specs.Prelude.{slice_get}
use Rattle.std.proofs.lemmas.Option.{slice_get_within}
use Rattle.std.proofs.Math.Seq.{take-length}
use Rattle.dvg_frame.specs.declared.op.OpKind.{OpKind}
use Rattle.dvg_frame.specs.declared.op.OpKind.TheVariants.{Draw, Halt as Stop}
use Rattle.dvg_frame.specs.declared.place.Place.TheVariants.{InFrame}
use Rattle.dvg_frame.specs.Steps.{op_act, Names, Misses, misses}
use Rattle.dvg_frame.specs.own.Straight.{RunsStraight, halts, draws, draw_of, draw_count}
use Rattle.dvg_frame.proofs.Sizes.{read_op}

-- the step of a loop over the first k of the operations
draws_more : (F : List OpKind) (k : ℕ) (op : OpKind) → slice_get F k ≡ Some op → draw_count (take k F) + draw_of op ≡ draw_count (take (suc k) F)
draws_more [] k op is = let within = slice_get_within [] k op is in absurd (omega arith)
draws_more (x ∷ xs) zero op is =
    let same : x ≡ op = cc in
    let one : draw_of x ≡ draw_of op = ap draw_of same in
    omega arith
draws_more (x ∷ xs) (suc k) op is = let rest = draws_more xs k op is in omega arith

pub draws_item : (F : List OpKind) (k : ℕ) (item kind : OpKind) (count more : ℕ) → count ≡ draw_count (take k F) → k < length F → item ≡ get_or F k item → kind ≡ item → more ≡ draw_of kind
    → count + more ≡ draw_count (take (k + 1) F)
draws_item F k item kind count more so_far within is kind_is more_is =
    let step = draws_more F k item (read_op F k item within is) in
    let one : more ≡ draw_of item = more_is ∙ ap draw_of kind_is in
    let next : draw_count (take (k + 1) F) ≡ draw_count (take (suc k) F) = let same : k + 1 ≡ suc k = omega arith in ap (λ n. draw_count (take n F)) same in
    omega arith

pub draws_all : (F : List OpKind) (n : ℕ) → n ≡ length F → draw_count (take n F) ≡ draw_count F
draws_all F n all = ap (λ m. draw_count (take m F)) all ∙ ap draw_count (take-length F)

-- at most all of them draw
draw_le : (op : OpKind) → draw_of op ≤ 1
draw_le (Draw instr) = omega arith
draw_le _ = omega arith

pub draws_le : (F : List OpKind) → draw_count F ≤ length F
draws_le [] = omega arith
draws_le (op ∷ ops) = let rest = draws_le ops in let one = draw_le op in omega arith

pub draws-take_le : (F : List OpKind) (n : ℕ) → draw_count (take n F) ≤ draw_count F
draws-take_le [] zero = omega arith
draws-take_le [] (suc n) = omega arith
draws-take_le (op ∷ ops) zero = omega arith
draws-take_le (op ∷ ops) (suc n) = let rest = draws-take_le ops n in omega arith

-- a HALT doesn't
fewer : (F : List OpKind) (i : ℕ) → slice_get F i ≡ Some Stop → draw_count F < length F
fewer [] i is = let within = slice_get_within [] i Stop is in absurd (omega arith)
fewer (x ∷ xs) zero is =
    let same : x ≡ Stop = cc in
    let zero_is : draw_of x ≡ 0 = ap draw_of same in
    let rest = draws_le xs in
    omega arith
fewer (x ∷ xs) (suc i) is = let rest = fewer xs i is in let one = draw_le x in omega arith

-- all but a last HALT draw exactly where the operations run straight
straight_from : (op : OpKind) (ops : List OpKind) (i : ℕ) → slice_get ops i ≡ Some Stop → draw_count (op ∷ ops) + 1 ≡ length (op ∷ ops) → RunsStraight ops → RunsStraight (op ∷ ops)
straight_from (Draw instr) ops i is count rest = draws rest
straight_from _ ops i is count rest = let less = fewer ops i is in absurd (omega arith)

rest_count : (op : OpKind) (ops : List OpKind) (i : ℕ) → slice_get ops i ≡ Some Stop → draw_count (op ∷ ops) + 1 ≡ length (op ∷ ops) → draw_count ops + 1 ≡ length ops
rest_count op ops i is count = let less = fewer ops i is in let one = draw_le op in omega arith

only_halt : (op : OpKind) (ops : List OpKind) → op ≡ Stop → length ops ≡ 0 → RunsStraight (op ∷ ops)
only_halt op [] is count = subst (λ x. RunsStraight (x ∷ [])) (sym is) halts
only_halt op (x ∷ xs) is count = absurd (omega arith)

pub straight_by : (F : List OpKind) (i : ℕ) → slice_get F i ≡ Some Stop → length F ≡ i + 1 → draw_count F + 1 ≡ length F → RunsStraight F
straight_by [] i is all count = absurd (omega arith)
straight_by (x ∷ xs) zero is all count = only_halt x xs (let same : x ≡ Stop = cc in same) (omega arith)
straight_by (x ∷ xs) (suc i) is all count = straight_from x xs i is count (straight_by xs i is (omega arith) (rest_count x xs i is count))

pub count_straight : (F : List OpKind) → RunsStraight F → draw_count F + 1 ≡ length F
count_straight _ halts = refl
count_straight _ (draws {ops = ops} rest) = let all = count_straight ops rest in omega arith

pub last_halts : (F : List OpKind) (i : ℕ) (op : OpKind) → slice_get F i ≡ Some op → length F ≡ i + 1 → RunsStraight F → op ≡ Stop
last_halts _ zero op is all halts = let same : Some Stop ≡ Some op = is in cc
last_halts _ (suc i) op is all halts = absurd (omega arith)
last_halts _ zero op is all (draws {ops = ops} rest) = let some = count_straight ops rest in absurd (omega arith)
last_halts _ (suc i) op is all (draws {ops = ops} rest) = last_halts ops i op is (omega arith) rest

-- such operations name none
names_none : (F : List OpKind) (i j : ℕ) (op : OpKind) → RunsStraight F → slice_get F i ≡ Some op → ¬ Names (op_act op) (InFrame j)
names_none _ zero j op halts is named = let same : Stop ≡ op = let two : Some Stop ≡ Some op = is in cc in subst (λ x. Names (op_act x) (InFrame j)) (sym same) named
names_none _ (suc i) j op halts is named = absurd (cc)
names_none _ zero j op (draws {instr = instr} rest) is named =
    let same : Draw instr ≡ op = let two : Some (Draw instr) ≡ Some op = is in cc in
    subst (λ x. Names (op_act x) (InFrame j)) (sym same) named
names_none _ (suc i) j op (draws {ops = ops} rest) is named = names_none ops i j op rest is named

pub misses_none : (F : List OpKind) → RunsStraight F → (i : ℕ) → ¬ Misses F i
misses_none F runs i (misses {j = j} {op = op} is named far) = names_none F i j op runs is named
