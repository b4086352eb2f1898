-- The call that a return answers is the one that counting back finds.
use Rattle.std.proofs.Common.{◌≡◌, ℕ, zero, suc, ◌+◌, ◌<◌, ◌⊎◌, inl, inr, ⊎_elim, List, [], ◌∷◌, ◌++◌, refl, sym, ap, ◌∙◌, arith}
use Rattle.dvg_gen.specs.Returning.{IsAnswered}
use Rattle.dvg_code.specs.Acts.{Act, Moves, Jumps, Calls, Returns, Halts, act_of}
use Rattle.dvg_gen.specs.Run.{Visit, on, back_over, past_call, led, next, call_count, return_count, calls, returns}

-- the first place, going back, where there are suc n calls more than returns
record Answered (n : ℕ) (between : List Visit) (call : Visit) : Type 0 where
  more : calls (between ++ call ∷ []) ≡ returns (between ++ call ∷ []) + suc n
  nowhere_nearer : (nearer farther : List Visit) → between ≡ nearer ++ farther → calls nearer ≡ returns nearer + suc n → ⊥

-- what counting back finds there: a call, and the address past it
abbrev Found : ℕ → ℕ → Visit → Type 0
Found n found call = (found ≡ on call.place 1) × ((to : ℕ) × (act_of call.code ≡ Calls to))

-- the place is the newest instruction
found_here : (act : Act ℕ) (n place : ℕ) (older : ℕ → ℕ) → call_count act + 0 ≡ return_count act + 0 + suc n → (back_over act n place older ≡ on place 1) × ((to : ℕ) × (act ≡ Calls to))
found_here (Moves code) n place older more = absurd (omega arith)
found_here (Jumps to) n place older more = absurd (omega arith)
found_here (Calls to) zero place older more = (refl, (to, refl))
found_here (Calls to) (suc n) place older more = absurd (omega arith)
found_here Returns n place older more = absurd (omega arith)
found_here Halts n place older more = absurd (omega arith)

-- the place is further back than this instruction
found_past : (act : Act ℕ) (n place c r : ℕ) (older : ℕ → ℕ) (call : Visit) → call_count act + c ≡ return_count act + r + suc n → (call_count act ≡ return_count act + suc n → ⊥)
    → ((m : ℕ) → c ≡ r + suc m → call_count act + suc m ≡ return_count act + suc n → Found m (older m) call) → Found n (back_over act n place older) call
found_past (Moves code) n place c r older call more nearer further = further n (omega arith) (omega arith)
found_past (Jumps to) n place c r older call more nearer further = further n (omega arith) (omega arith)
found_past (Calls to) zero place c r older call more nearer further = absurd (nearer (omega arith))
found_past (Calls to) (suc n) place c r older call more nearer further = further n (omega arith) (omega arith)
found_past Returns n place c r older call more nearer further = further (suc n) (omega arith) (omega arith)
found_past Halts n place c r older call more nearer further = further n (omega arith) (omega arith)

-- counting back finds the call
found : (n : ℕ) (between : List Visit) (call : Visit) (before : List Visit) → Answered n between call → Found n (past_call n (between ++ call ∷ before)) call
found n [] call before answered = found_here (act_of call.code) n call.place (λ m. past_call m before) answered.more
found n (visit ∷ between) call before answered =
    found_past (act_of visit.code) n visit.place (calls (between ++ call ∷ [])) (returns (between ++ call ∷ [])) (λ m. past_call m (between ++ call ∷ before)) call answered.more
    (λ here. answered.nowhere_nearer (visit ∷ []) between refl (omega arith))
    (λ m more step. found m between call before (record {
      more = more;
      nowhere_nearer = λ nearer farther parts e. answered.nowhere_nearer (visit ∷ nearer) farther (ap (λ list. visit ∷ list) parts) (omega arith);
    }))

-- the direct reading as the one that counts from 0
answered_of : {older : List Visit} {call : Visit} (answer : IsAnswered older call) → Answered 0 answer.between call
answered_of answer = record { more = answer.one_more; nowhere_nearer = answer.nowhere_nearer }

-- the latest call that is still open is the call that a return answers
past_answered : (older : List Visit) (call : Visit) → IsAnswered older call → past_call 0 older ≡ on call.place 1
past_answered older call answer = ap (λ list. past_call 0 list) answer.parts ∙ (found 0 answer.between call answer.before (answered_of answer)).0

-- a return leads to one past the call that it answers
pub past_the_call : (back : Visit) (older : List Visit) (call : Visit) → act_of back.code ≡ Returns → IsAnswered older call → next (back ∷ older) ≡ on call.place 1
past_the_call back older call is_return answer = ap (λ act. led act back older) is_return ∙ past_answered older call answer

-- what a return answers is a call
pub answers_a_call : (older : List Visit) (call : Visit) → IsAnswered older call → (to : ℕ) × (act_of call.code ≡ Calls to)
answers_a_call older call answer = (found 0 answer.between call answer.before (answered_of answer)).1

-- one place of a list is the other, or lies before it, or after it
places : (b1 b2 : List Visit) (c1 c2 : Visit) (d1 d2 : List Visit) → b1 ++ c1 ∷ d1 ≡ b2 ++ c2 ∷ d2
    → (c1 ≡ c2) ⊎ (((x : List Visit) × (b2 ≡ (b1 ++ c1 ∷ []) ++ x)) ⊎ ((x : List Visit) × (b1 ≡ (b2 ++ c2 ∷ []) ++ x)))
places [] [] c1 c2 d1 d2 same = inl (cc)
places [] (y ∷ b2) c1 c2 d1 d2 same = let head : y ≡ c1 = cc in inr (inl (b2, ap (λ v. v ∷ b2) head))
places (x ∷ b1) [] c1 c2 d1 d2 same = let head : x ≡ c2 = cc in inr (inr (b1, ap (λ v. v ∷ b1) head))
places (x ∷ b1) (y ∷ b2) c1 c2 d1 d2 same =
    let head : y ≡ x = cc in
    let tail : b1 ++ c1 ∷ d1 ≡ b2 ++ c2 ∷ d2 = cc in
    ⊎_elim (λ e. inl e)
    (λ apart. inr (⊎_elim
    (λ nearer. inl (nearer.0, ap (λ v. v ∷ b2) head ∙ ap (λ list. x ∷ list) nearer.1))
    (λ farther. inr (farther.0, ap (λ v. v ∷ b1) (sym head) ∙ ap (λ list. y ∷ list) farther.1))
    apart))
    (places b1 b2 c1 c2 d1 d2 tail)

-- a return answers one call at most
pub same_call : (older : List Visit) (call other : Visit) → IsAnswered older call → IsAnswered older other → call ≡ other
same_call older call other p q =
    ⊎_elim (λ same. same)
    (λ apart. ⊎_elim
    (λ nearer. absurd (q.nowhere_nearer (p.between ++ call ∷ []) nearer.0 nearer.1 p.one_more))
    (λ farther. absurd (p.nowhere_nearer (q.between ++ other ∷ []) farther.0 farther.1 q.one_more))
    apart)
    (places p.between q.between call other p.before q.before (sym p.parts ∙ q.parts))

-- the first place with suc n calls more than returns, in a list
record Somewhere (n : ℕ) (older : List Visit) : Type 0 where
  between : List Visit
  call : Visit
  before : List Visit
  parts : older ≡ between ++ call ∷ before
  answered : Answered n between call

-- it is the newest instruction
here : (call : Visit) (older : List Visit) (n : ℕ) → call_count (act_of call.code) ≡ return_count (act_of call.code) + suc n → Somewhere n (call ∷ older)
here call older n more =
    record { between = []; call = call; before = older; parts = refl; answered = record { more = omega arith; nowhere_nearer = none } }
  where
    none : (nearer farther : List Visit) → [] ≡ nearer ++ farther → calls nearer ≡ returns nearer + suc n → ⊥
    none [] farther parts e = omega arith
    none (visit ∷ nearer) farther parts e = cc

-- it is further back than the newest instruction
further_back : (visit : Visit) (older : List Visit) (n m : ℕ) → call_count (act_of visit.code) + suc m ≡ return_count (act_of visit.code) + suc n → Somewhere m older → Somewhere n (visit ∷ older)
further_back visit older n m step place =
    let more = place.answered.more in
    record {
      between = visit ∷ place.between;
      call = place.call;
      before = place.before;
      parts = ap (λ list. visit ∷ list) place.parts;
      answered = record { more = omega arith; nowhere_nearer = none };
    }
  where
    none : (nearer farther : List Visit) → visit ∷ place.between ≡ nearer ++ farther → calls nearer ≡ returns nearer + suc n → ⊥
    none [] farther parts e = omega arith
    none (newest ∷ nearer) farther parts e =
        let same : newest ≡ visit = cc in
        let rest : place.between ≡ nearer ++ farther = cc in
        let call_is = ap (λ v. call_count (act_of v.code)) same in
        let return_is = ap (λ v. return_count (act_of v.code)) same in
        place.answered.nowhere_nearer nearer farther rest (omega arith)

-- the newest instruction is it, or it is further back
somewhere_by : (act : Act ℕ) (n : ℕ) (visit : Visit) (older : List Visit) → act_of visit.code ≡ act → return_count act + returns older + n < call_count act + calls older
    → ((m : ℕ) → returns older + m < calls older → Somewhere m older) → Somewhere n (visit ∷ older)
somewhere_by (Moves code) n visit older is more further = let c = ap call_count is in let r = ap return_count is in further_back visit older n n (omega arith) (further n (omega arith))
somewhere_by (Jumps to) n visit older is more further = let c = ap call_count is in let r = ap return_count is in further_back visit older n n (omega arith) (further n (omega arith))
somewhere_by (Calls to) zero visit older is more further = let c = ap call_count is in let r = ap return_count is in here visit older 0 (omega arith)
somewhere_by (Calls to) (suc n) visit older is more further = let c = ap call_count is in let r = ap return_count is in further_back visit older (suc n) n (omega arith) (further n (omega arith))
somewhere_by Returns n visit older is more further = let c = ap call_count is in let r = ap return_count is in further_back visit older n (suc n) (omega arith) (further (suc n) (omega arith))
somewhere_by Halts n visit older is more further = let c = ap call_count is in let r = ap return_count is in further_back visit older n n (omega arith) (further n (omega arith))

-- where there are more than n calls more than returns, there is such a place
somewhere : (older : List Visit) (n : ℕ) → returns older + n < calls older → Somewhere n older
somewhere [] n more = absurd (omega arith)
somewhere (visit ∷ older) n more = somewhere_by (act_of visit.code) n visit older refl more (λ m rest. somewhere older m rest)

-- where there are more calls than returns, a return answers a call
pub some_call : (older : List Visit) → returns older < calls older → (call : Visit) × IsAnswered older call
some_call older more =
    let place = somewhere older 0 (omega arith) in
    (place.call, record { between = place.between; before = place.before; parts = place.parts; one_more = place.answered.more; nowhere_nearer = place.answered.nowhere_nearer })
