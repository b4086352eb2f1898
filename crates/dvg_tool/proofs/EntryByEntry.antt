-- What is shown of entries, one after the other.
use Rattle.std.proofs.Common.{◌≡◌, ℕ, zero, suc, ◌+◌, ◌-◌, ◌<◌, ◌≤◌, List, ◌++◌, length, flat_map, replicate, Bool}
use Rattle.std.proofs.Common.{true, refl, sym, ap, ◌∙◌, add-one, append-nil, append_assoc, arith}
use Rattle.dvg_gen.specs.declared.stroke.Stroke.{Stroke}
use Rattle.dvg_log.specs.declared.entry.Entry.{Entry}
use Rattle.dvg_log.specs.declared.entry.Entry.TheVariants.{Done}
use Rattle.dvg_log.specs.Entries.{Shown, map_entry}
use Rattle.dvg_print.specs.Shows.{entry_line, shown, shown_entry, stroke_line, strokes_of}
use Rattle.dvg_world.specs.Keeping.{strokes_in}

-- the number of the strokes that stand in an entry
pub counted : {A : Type 0} (strokes : List Stroke) (entry : Entry A) → map_entry (λ _. length strokes) entry ≡ map_entry (λ drew. length drew) (map_entry (λ _. strokes) entry)
counted strokes (Done address word number) = refl
counted strokes _ = refl

-- the lines of what an entry's run drew
pub lines_drawn : (entry : Shown) → strokes_of entry ≡ flat_map stroke_line (strokes_in entry)
lines_drawn (Done address word drew) = refl
lines_drawn _ = refl

-- the next of equal entries
pub next_alike : (all : Bool) (n done times : ℕ) (entry : Shown) → done < times
    → shown all n (replicate (times - done) entry)
    ≡ shown_entry all n entry ++ shown all (n + 1) (replicate (times - (done + 1)) entry)
next_alike all n done times entry inside =
    ap (λ k. shown all n (replicate k entry))
    (let k : times - done ≡ suc (times - (done + 1)) = omega (arith, inside) in k)
    ∙ ap (λ m. shown_entry all n entry ++ shown all m (replicate (times - (done + 1)) entry)) (sym (add-one n))

-- the first of equal entries, and then the others
pub first_alike : (all : Bool) (n times : ℕ) (entry : Shown) → 1 ≤ times
    → shown all n (replicate times entry) ≡ shown_entry all n entry ++ shown all (n + 1) (replicate (times - 1) entry)
first_alike all n times entry some =
    ap (λ k. shown all n (replicate k entry)) (let k : times ≡ times - 0 = omega arith in k)
    ∙ next_alike all n 0 times entry (omega (arith, some))

-- one entry alone
pub one_alike : (all : Bool) (n times : ℕ) (entry : Shown) → times ≡ 1
    → shown all n (replicate times entry) ≡ shown_entry all n entry
one_alike all n times entry one =
    ap (λ k. shown all n (replicate k entry)) one ∙ append-nil (shown_entry all n entry)

-- equal entries, and then the later ones
pub shown_run : (all : Bool) (n times : ℕ) (entry : Shown) (later : List Shown)
    → shown all n (replicate times entry ++ later)
    ≡ shown all n (replicate times entry) ++ shown all (n + times) later
shown_run all n zero entry later = ap (λ m. shown all m later) (let m : n ≡ n + 0 = omega arith in m)
shown_run all n (suc times) entry later =
    let first = shown_entry all n entry in
    let others = shown all (suc n) (replicate times entry) in
    ap (λ text. first ++ text) (shown_run all (suc n) times entry later)
    ∙ ap (λ m. first ++ (others ++ shown all m later)) (let m : suc n + times ≡ n + suc times = omega arith in m)
    ∙ sym (append_assoc first others (shown all (n + suc times) later))

-- the line of an entry, and after it those of what its run drew
pub line_then : {A : Type 0} (n : ℕ) (strokes : List Stroke) (entry : Entry A) → strokes ≡ strokes_in (map_entry (λ _. strokes) entry)
    → shown_entry true n (map_entry (λ _. strokes) entry)
    ≡ entry_line n (map_entry (λ _. length strokes) entry) ++ flat_map stroke_line strokes
line_then n strokes entry drawn =
    let shown = map_entry (λ _. strokes) entry in
    ap (λ e. entry_line n e ++ strokes_of shown) (sym (counted strokes entry))
    ∙ ap (λ l. entry_line n (map_entry (λ _. length strokes) entry) ++ l)
    (lines_drawn shown ∙ ap (flat_map stroke_line) (sym drawn))
