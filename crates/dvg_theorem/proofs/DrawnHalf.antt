-- Which half a run draws.
use Rattle.std.proofs.Common.{◌≡◌, ℕ, ◌+◌, ◌*◌, ◌/◌, ◌≤◌, ◌<◌, List, [], ◌∷◌, ◌++◌, Some, refl, sym, ◌∙◌, ap, subst, arith}
use Rattle.dvg_mem.specs.declared.half.Half.{Half}
use Rattle.dvg_mem.specs.declared.half.Half.TheVariants.{H0, H1}
use Rattle.dvg_mem.specs.Areas.{IsInHalf, base, high, other, half_of_high}
use Rattle.dvg_log.specs.Log.{Log, open_run, IsBeingDrawn}

-- the first of a run's fetches, which are given newest first, is of word zero and met a jump to an address in the half
pub data LeadsTo : List (ℕ × ℕ) → Half → Type 0 where
  jump : {fetch : ℕ × ℕ} {half : Half} (target : ℕ) → fetch ≡ (0, 0xE000 + target) → IsInHalf half target → LeadsTo (fetch ∷ []) half
  later : {fetch : ℕ × ℕ} {fetches : List (ℕ × ℕ)} {half : Half} → LeadsTo fetches half → LeadsTo (fetch ∷ fetches) half

leads : (fetches after : List (ℕ × ℕ)) (target : ℕ) (half : Half) → fetches ≡ after ++ (0, 0xE000 + target) ∷ [] → IsInHalf half target → LeadsTo fetches half
leads fetches [] target half e inside = subst (λ all. LeadsTo all half) (sym e) (jump target refl inside)
leads fetches (fetch ∷ after) target half e inside =
    subst (λ all. LeadsTo all half) (sym e) (later (leads (after ++ (0, 0xE000 + target) ∷ []) after target half refl inside))

-- the fetches of the open run lead to the half that is being drawn
pub drawn_leads : (log : Log) (half : Half) → IsBeingDrawn log half → (fetches : List (ℕ × ℕ)) × (open_run log ≡ Some fetches) × LeadsTo fetches half
drawn_leads log half drawn =
    (drawn.later ++ (0, 0xE000 + drawn.target) ∷ [], drawn.fetches, leads (drawn.later ++ (0, 0xE000 + drawn.target) ∷ []) drawn.later drawn.target half refl drawn.in_half)

-- a run that leads to a half is drawing it
pub drawing : (log : Log) (half : Half) (fetches : List (ℕ × ℕ)) → open_run log ≡ Some fetches → LeadsTo fetches half → IsBeingDrawn log half
drawing log half fetches is_open leads =
    let first = first_of leads in
    record { later = first.0; target = first.1; fetches = is_open ∙ ap Some first.2; in_half = first.3 }
  where
    first_of : {met : List (ℕ × ℕ)} {half : Half} → LeadsTo met half → (after : List (ℕ × ℕ)) × (target : ℕ) × (met ≡ after ++ (0, 0xE000 + target) ∷ []) × IsInHalf half target
    first_of (jump target e inside) = ([], target, ap (λ fetch. fetch ∷ []) e, inside)
    first_of (later {fetch = fetch} leads) = let first = first_of leads in (fetch ∷ first.0, first.1, ap (λ fetches. fetch ∷ fetches) first.2, first.3)

pub leads_none : (half : Half) → LeadsTo [] half → ⊥
leads_none half l = elim l [ ]

pub leads_before : {fetch newest : ℕ × ℕ} {fetches : List (ℕ × ℕ)} {half : Half} → LeadsTo (newest ∷ fetch ∷ fetches) half → LeadsTo (fetch ∷ fetches) half
leads_before (later l) = l

-- an address lies in one half at most
same_half : (one two : Half) (a b : ℕ) → a ≡ b → IsInHalf one a → IsInHalf two b → one ≡ two
same_half H0 H0 a b e x y = refl
same_half H0 H1 a b e x y = let top = x.1 in let low = y.0 in absurd (omega arith)
same_half H1 H0 a b e x y = let top = y.1 in let low = x.0 in absurd (omega arith)
same_half H1 H1 a b e x y = refl

pub leads_same : {fetches : List (ℕ × ℕ)} {one two : Half} → LeadsTo fetches one → LeadsTo fetches two → one ≡ two
leads_same (jump {half = one} a e x) (jump {half = two} b f y) = same_half one two a b (let same = ap (λ fetch. fetch.1) (sym e ∙ f) in omega arith) x y
leads_same (jump {half = one} a e x) (later {half = two} m) = absurd (leads_none two m)
leads_same (later {half = one} l) (jump {half = two} b f y) = absurd (leads_none one l)
leads_same (later l) (later m) = leads_same l m

pub other_differs : (half : Half) → half ≡ other half → ⊥
other_differs H0 e = cc
other_differs H1 e = cc

-- an address of the other half is none of the half
pub not_both : (half : Half) (a : ℕ) → IsInHalf (other half) a → IsInHalf half a → ⊥
not_both half a x y = other_differs half (same_half half (other half) a a refl y x)

-- word zero lies in no half
pub past_zero : (half : Half) (a : ℕ) → IsInHalf half a → 1 ≤ a
past_zero H0 a x = x.0
past_zero H1 a x = let low = x.0 in omega arith

-- an address of a half is one of the RAM
pub in_ram : (half : Half) (a : ℕ) → IsInHalf half a → a < 0x400
in_ram H0 a x = let top = x.1 in omega arith
in_ram H1 a x = let top = x.1 in omega arith

-- the byte addresses of a half are those of its words
pub in_half : (half : Half) (a : ℕ) → 2 * base half ≤ a → a < 2 * base half + 1022 → IsInHalf half (a / 2)
in_half H0 a low top = (omega arith, omega arith)
in_half H1 a low top = (omega arith, omega arith)

pub half_high : (half : Half) → half_of_high (high half) ≡ half
half_high H0 = refl
half_high H1 = refl

-- the word that jumps to a half's first word
pub jump_word : (half : Half) → 1 + 256 * high half ≡ 0xE000 + base half
jump_word H0 = refl
jump_word H1 = refl

in_base : (half : Half) → IsInHalf half (base half)
in_base H0 = (omega arith, omega arith)
in_base H1 = (omega arith, omega arith)

-- a run that fetched it first leads to the half
pub jump_there : (a word : ℕ) (half : Half) → a ≡ 0 → word ≡ 0xE000 + base half → LeadsTo ((a, word) ∷ []) half
jump_there a word half zero e = jump (base half) (ap (λ at. (at, word)) zero ∙ ap (λ met. (0, met)) e) (in_base half)
