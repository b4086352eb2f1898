-- Slots, compared from the newest on.
use Rattle.std.proofs.Common.{◌≡◌, ℕ, zero, suc, ◌+◌, ◌<◌, ◌≤◌, ◌&&◌, Bool, true, false, List, [], ◌∷◌, length, map, get_or, drop, refl, sym, ◌∙◌, ap, arith, add-one}
use Rattle.std.proofs.Math.ListN.{drop_of_length-le}
use Rattle.std.proofs.Math.Seq.{drop-cons}
use Rattle.dvg_game_words.specs.Checker.{serve, serves}
use Rattle.dvg_game_check.specs.declared.note.Slot.{Slot}
use Rattle.dvg_game_check.specs.Rules.{slot_meant}

-- of the slots from i on
abbrev pub from_on : (i : ℕ) → (new known : List Slot) → Bool
from_on i new known = serve (map slot_meant (drop i new)) (map slot_meant (drop i known))

both_cons : (new known : List Slot) (i : ℕ) (d e : Slot) → i < length new → i < length known
    → from_on i new known ≡ (serves (slot_meant (get_or new i d)) (slot_meant (get_or known i e)) && from_on (suc i) new known)
both_cons new known i d e h k = rw (drop-cons new i d h, drop-cons known i e k)

pub serve_more : (new known : List Slot) (i : ℕ) (d e : Slot) → i < length new → i < length known
    → serves (slot_meant (get_or new i d)) (slot_meant (get_or known i e)) ≡ true
    → from_on (i + 1) new known ≡ from_on i new known
serve_more new known i d e h k s =
    let n : i + 1 ≡ suc i = omega arith in
    ap (λ j. from_on j new known) n ∙ sym (both_cons new known i d e h k ∙ ap (λ b. b && from_on (suc i) new known) s)

pub serve_fails : (new known : List Slot) (i : ℕ) (d e : Slot) → i < length new → i < length known
    → serves (slot_meant (get_or new i d)) (slot_meant (get_or known i e)) ≡ false
    → from_on i new known ≡ false
serve_fails new known i d e h k s = both_cons new known i d e h k ∙ ap (λ b. b && from_on (suc i) new known) s

pub serve_short : (new known : List Slot) (i : ℕ) (d : Slot) → i < length new → length known ≤ i → from_on i new known ≡ false
serve_short new known i d h k = rw (drop-cons new i d h, drop_of_length-le known k)

pub serve_done : (new known : List Slot) (i : ℕ) → length new ≤ i → from_on i new known ≡ true
serve_done new known i h = rw (drop_of_length-le new h)
