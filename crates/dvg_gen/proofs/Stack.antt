-- A run as a machine with a stack of return addresses.
use Rattle.std.proofs.Common.{◌≡◌, ℕ, zero, suc, ◌+◌, ◌≤◌, false, List, [], ◌∷◌, length, get_or, refl, ap, subst, eqb, cond, ⊎_elim, arith}
use Rattle.std.proofs.lemmas.Bool.{eqb-false, ne_eqb, cases_Bool, cases_lt}
use Rattle.dvg_gen.specs.declared.taken.GenFault.TheVariants.{StackOver, StackUnder}
use Rattle.dvg_gen.specs.Stacks.{stack_by, to_of, CanGo}
use Rattle.dvg_code.specs.Acts.{Act, Moves, Jumps, Calls, Returns, Halts, act_of}
use Rattle.dvg_gen.specs.Run.{Visit, back_over, past_call, led, next, call_count, return_count, calls, returns, Goes, Finished, Breaks, fate_by, fate}

-- the stack that a run's instructions leave
abbrev pub stack : List Visit → List ℕ
stack [] = []
stack (visit ∷ older) = stack_by (act_of visit.code) visit.place (stack older)

-- one more instruction keeps brackets and stack together
back_is : (act : Act ℕ) (n place : ℕ) (older : ℕ → ℕ) (saved : List ℕ) → ((m : ℕ) → older m ≡ get_or saved m 0) → back_over act n place older ≡ get_or (stack_by act place saved) n 0
back_is (Moves code) n place older saved same = same n
back_is (Jumps to) n place older saved same = same n
back_is (Calls to) zero place older saved same = refl
back_is (Calls to) (suc n) place older saved same = same n
back_is Returns n place older [] same = same (suc n)
back_is Returns n place older (back ∷ saved) same = same (suc n)
back_is Halts n place older saved same = same n

-- the bracket that is still open is on the stack
pub past_call_is : (visits : List Visit) (n : ℕ) → past_call n visits ≡ get_or (stack visits) n 0
past_call_is [] n = refl
past_call_is (visit ∷ older) n = back_is (act_of visit.code) n visit.place (λ m. past_call m older) (stack older) (λ m. past_call_is older m)

-- where an instruction leads by brackets, it leads by the stack
led_is : (act : Act ℕ) (visit : Visit) (older : List Visit) → led act visit older ≡ to_of act visit.place (stack older)
led_is (Moves code) visit older = refl
led_is (Jumps to) visit older = refl
led_is (Calls to) visit older = refl
led_is Returns visit older = past_call_is older 0
led_is Halts visit older = refl

-- the same of the newest instruction of a run
pub next_is : (visit : Visit) (older : List Visit) → next (visit ∷ older) ≡ to_of (act_of visit.code) visit.place (stack older)
next_is visit older = led_is (act_of visit.code) visit older

-- the stack is as long as there are calls more than returns
abbrev pub Counted : List Visit → Type 0
Counted visits = calls visits ≡ returns visits + length (stack visits)

-- one more instruction keeps the count
counted_by : (act : Act ℕ) (place c r : ℕ) (saved : List ℕ) → c ≡ r + length saved → CanGo act saved → call_count act + c ≡ return_count act + r + length (stack_by act place saved)
counted_by (Moves code) place c r saved counted can = omega arith
counted_by (Jumps to) place c r saved counted can = omega arith
counted_by (Calls to) place c r saved counted can = omega arith
counted_by Returns place c r [] counted can = absurd (omega arith)
counted_by Returns place c r (back ∷ saved) counted can = omega arith
counted_by Halts place c r saved counted can = absurd can

-- the same of the newest instruction of a run
pub counted_more : (visit : Visit) (older : List Visit) → Counted older → CanGo (act_of visit.code) (stack older) → Counted (visit ∷ older)
counted_more visit older counted can = counted_by (act_of visit.code) visit.place (calls older) (returns older) (stack older) counted can

-- what a run keeps while it goes
pub record Sound (visits : List Visit) : Type 0 where
  pub counted : Counted visits
  pub short : length (stack visits) ≤ 4

-- a run with no instruction
pub sound_none : Sound []
sound_none = record { counted = refl; short = omega arith }

-- an instruction that can go leaves at most four return addresses
short_by : (act : Act ℕ) (place : ℕ) (saved : List ℕ) → length saved ≤ 4 → CanGo act saved → length (stack_by act place saved) ≤ 4
short_by (Moves code) place saved short can = short
short_by (Jumps to) place saved short can = short
short_by (Calls to) place saved short can = omega arith
short_by Returns place [] short can = short
short_by Returns place (back ∷ saved) short can = omega arith
short_by Halts place saved short can = short

-- one more instruction that can go
pub sound_more : (visit : Visit) (older : List Visit) → Sound older → CanGo (act_of visit.code) (stack older) → Sound (visit ∷ older)
sound_more visit older sound can =
    record { counted = counted_more visit older sound.counted can; short = short_by (act_of visit.code) visit.place (stack older) sound.short can }

-- a run goes on where the machine does
goes_by : (act : Act ℕ) (older : List Visit) → Sound older → CanGo act (stack older) → fate_by act older ≡ Goes
goes_by (Moves code) older sound can = refl
goes_by (Jumps to) older sound can = refl
goes_by (Calls to) older sound can =
    let counted : calls older ≡ returns older + length (stack older) = sound.counted in
    let not_full : eqb (calls older) (returns older + 4) ≡ false = ne_eqb _ _ (λ full. omega arith) in
    ap (λ b. cond b (Breaks StackOver) Goes) not_full
goes_by Returns older sound can =
    let counted : calls older ≡ returns older + length (stack older) = sound.counted in
    let not_empty : eqb (calls older) (returns older) ≡ false = ne_eqb _ _ (λ empty. omega arith) in
    ap (λ b. cond b (Breaks StackUnder) Goes) not_empty
goes_by Halts older sound can = absurd can

-- the same of the newest instruction of a run
pub goes_more : (visit : Visit) (older : List Visit) → Sound older → CanGo (act_of visit.code) (stack older) → fate (visit ∷ older) ≡ Goes
goes_more visit older sound can = goes_by (act_of visit.code) older sound can

-- the machine goes on where the run does
can_by : (act : Act ℕ) (older : List Visit) → Sound older → fate_by act older ≡ Goes → CanGo act (stack older)
can_by (Moves code) older sound goes = tt
can_by (Jumps to) older sound goes = tt
can_by (Calls to) older sound goes =
    let counted : calls older ≡ returns older + length (stack older) = sound.counted in
    let short : length (stack older) ≤ 4 = sound.short in
    ⊎_elim
    (λ full. let breaks = subst (λ b. cond b (Breaks StackOver) Goes ≡ Goes) full goes in cc)
    (λ not_full. let unequal = eqb-false (calls older) (returns older + 4) not_full in
    ⊎_elim (λ below. below) (λ above. absurd (unequal (omega arith))) (cases_lt (length (stack older)) 4))
    (cases_Bool (eqb (calls older) (returns older + 4)))
can_by Returns older sound goes =
    let counted : calls older ≡ returns older + length (stack older) = sound.counted in
    ⊎_elim
    (λ empty. let breaks = subst (λ b. cond b (Breaks StackUnder) Goes ≡ Goes) empty goes in cc)
    (λ not_empty. let unequal = eqb-false (calls older) (returns older) not_empty in
    ⊎_elim (λ some. some) (λ none. absurd (unequal (omega arith))) (cases_lt 0 (length (stack older))))
    (cases_Bool (eqb (calls older) (returns older)))
can_by Halts older sound goes = let finished : Finished ≡ Goes = goes in cc

-- the same of the newest instruction of a run
pub can_more : (visit : Visit) (older : List Visit) → Sound older → fate (visit ∷ older) ≡ Goes → CanGo (act_of visit.code) (stack older)
can_more visit older sound goes = can_by (act_of visit.code) older sound goes

-- a run that HALT ends
pub halts_finish : (visit : Visit) (older : List Visit) → act_of visit.code ≡ Halts → fate (visit ∷ older) ≡ Finished
halts_finish visit older halts = ap (λ act. fate_by act older) halts
