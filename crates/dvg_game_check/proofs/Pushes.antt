-- The stack of the NMI, byte by byte.
use Rattle.std.proofs.Common.{◌≡◌, ◌≢◌, ℕ, zero, suc, ◌+◌, ◌-◌, ◌<◌, ◌≤◌, ◌&&◌, Bool, true, false, not, refl, sym, ◌∙◌, ap, subst, arith, get_or, length, map, set, ◌++◌, append_assoc}
use Rattle.std.specs.Prelude.{Option, None, Some, List, [], ◌∷◌, slice_index_or}
use Rattle.std.proofs.lemmas.List.{get_or-set_other, map-append}
use Rattle.std.proofs.lemmas.Grind.{get_or-set_at}
use Rattle.dvg_game_words.specs.Checker as rules
use Rattle.dvg_game_words.specs.Checker.{newest, older, serve, serves}
use Rattle.dvg_game_check.specs.declared.note.Slot.{Slot}
use Rattle.dvg_game_check.specs.declared.note.Slot.TheVariants.{Any}
use Rattle.dvg_game_check.specs.Least.{stacked}
use Rattle.dvg_game_check.specs.Rules.{slot_meant}
use Rattle.dvg_game_check.proofs.Suited.{and_is, both}

-- a byte above isn't seen
pub stacked_set : (slots : List Slot) (i depth : ℕ) (slot : Slot) → depth ≤ i → stacked (set slots i slot) depth ≡ stacked slots depth
stacked_set slots i zero slot h = refl
stacked_set slots i (suc d) slot h =
    let other : d ≢ i = λ same. omega (arith, h, same) in
    let e = ap slot_meant (get_or-set_other slots i d slot Any other) in
    let more = stacked_set slots i d slot (omega (arith, h)) in
    rw (e, more)

pub stacked_pushed : (slots : List Slot) (depth : ℕ) (slot : Slot) → depth < length slots
    → stacked (set slots depth slot) (suc depth) ≡ slot_meant slot ∷ stacked slots depth
stacked_pushed slots depth slot h =
    let e = ap slot_meant (get_or-set_at slots depth depth slot Any refl h) in
    let more = stacked_set slots depth depth slot (omega arith) in
    rw (e, more)

pub stacked_pulled : (slots : List Slot) (depth less : ℕ) → less ≡ depth - 1 → older (stacked slots depth) ≡ stacked slots less
stacked_pulled slots zero less h = ap (stacked slots) (sym h)
stacked_pulled slots (suc d) less h = let e : less ≡ d = omega (arith, h) in ap (stacked slots) (sym e)

-- what both ways leave
pub stacked_joined : (asked : List rules.Slot) (one other both_of : List Slot) (depth : ℕ)
    → ((k : ℕ) → k < depth → (slot : rules.Slot) → serves slot (slot_meant (get_or one k Any)) ≡ true
    → serves slot (slot_meant (get_or other k Any)) ≡ true → serves slot (slot_meant (get_or both_of k Any)) ≡ true)
    → serve asked (stacked one depth) ≡ true → serve asked (stacked other depth) ≡ true → serve asked (stacked both_of depth) ≡ true
stacked_joined [] one other both_of depth each h g = refl
stacked_joined (x ∷ asked) one other both_of zero each h g = absurd (let e : false ≡ true = h in cc)
stacked_joined (x ∷ asked) one other both_of (suc d) each h g =
    let a = both (serves x (slot_meant (get_or one d Any))) (serve asked (stacked one d)) h in
    let b = both (serves x (slot_meant (get_or other d Any))) (serve asked (stacked other d)) g in
    and_is (serves x (slot_meant (get_or both_of d Any))) (serve asked (stacked both_of d)) (each d (omega arith) x a.0 b.0)
    (stacked_joined asked one other both_of d (λ k less. each k (omega (arith, less))) a.1 b.1)

pub stacked_top : (slots : List Slot) (depth less : ℕ) → depth ≡ suc less → slot_meant (get_or slots less Any) ≡ newest (stacked slots depth)
stacked_top slots depth less e = ap (λ d. newest (stacked slots d)) (sym e)

-- the slots that are put into a list, one by one from the newest on
pub stacked_more : (items slots : List Slot) (depth i : ℕ) (one : Slot) (whole : List rules.Slot) → i < depth
    → one ≡ get_or slots (depth - 1 - i) Any → map slot_meant items ++ stacked slots (depth - i) ≡ whole
    → map slot_meant (items ++ one ∷ []) ++ stacked slots (depth - (i + 1)) ≡ whole
stacked_more items slots depth i one whole less is h =
    let d : depth - i ≡ suc (depth - (i + 1)) = omega (arith, less) in
    let k : depth - 1 - i ≡ depth - (i + 1) = omega (arith, less) in
    let same : slot_meant one ≡ slot_meant (get_or slots (depth - (i + 1)) Any) =
    ap slot_meant is ∙ ap (λ j. slot_meant (get_or slots j Any)) k in
    ap (λ front. front ++ stacked slots (depth - (i + 1))) (map-append slot_meant items (one ∷ []))
    ∙ (append_assoc (map slot_meant items) (slot_meant one ∷ []) (stacked slots (depth - (i + 1)))
    ∙ (ap (λ s. map slot_meant items ++ s ∷ stacked slots (depth - (i + 1))) same
    ∙ (sym (ap (λ n. map slot_meant items ++ stacked slots n) d) ∙ h)))
