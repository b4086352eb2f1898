-- Bytes that are written, and what they leave.
use Rattle.std.proofs.Common.{◌≡◌, ℕ, suc, ◌+◌, ◌*◌, ◌/◌, ◌%◌, ◌<◌, ◌≤◌, ◌⊎◌, inl, inr, Bool, true, false, refl, sym}
use Rattle.std.proofs.Common.{ap, ◌∙◌, subst, arith, eqb-true, leb-true, eq-eqb, le-leb}
use Rattle.std.specs.Prelude.{nat_eq, nat_le, nat_lt, ◌&&◌, ◌||◌, if◌then◌else◌}
use Rattle.dvg_calls_6502.specs.Processor.{put, stack_place}
use Rattle.dvg_game_rules.specs.Machine.{pushed, word_at, is_own, is_operand, left_by, address}
use Rattle.dvg_game_rules.specs.Kinds.{Place, ZeroPage, ZeroPageIndexed, Absolute, AbsoluteIndexed}
use Rattle.dvg_game_rules.specs.Checker.{Level, Main, Sub, Nmi, is_free, is_output, may_write, of_reached}
use Rattle.dvg_game_rules.proofs.Facts.{both_true, under}
pub use Rattle.std.proofs.lemmas.Bool.{or_cases as either}

pub other : (a byte : ℕ) (mem : ℕ → ℕ) (b : ℕ) → (b ≡ a → ⊥) → put a byte mem b ≡ mem b
other a byte mem b apart = by (nat_eq b a) refl
  where
    by : (t : Bool) → nat_eq b a ≡ t → (if t then byte else mem b) ≡ mem b
    by true is = absurd (apart (eqb-true b a is))
    by false is = refl

pub here : (a byte : ℕ) (mem : ℕ → ℕ) → put a byte mem a ≡ byte
here a byte mem = ap (λ (t : Bool). if t then byte else mem a) (eq-eqb a a refl)

-- where a game may write is neither on the stack nor in ROM
pub record IsAside (a : ℕ) : Type 0 where
  pub stack : (k : ℕ) → k ≤ 255 → stack_place k ≡ a → ⊥
  pub rom : (b : ℕ) → 0x4800 ≤ b → b ≡ a → ⊥

-- low RAM below the stack, or from 0200 up to 3FFF
abbrev pub IsApart : ℕ → Type 0
IsApart a = (a < 0x100) ⊎ ((0x200 ≤ a) × (a < 0x4000))

pub aside : (a : ℕ) → IsApart a → IsAside a
aside a (inl less) = record { stack = λ k small is. omega arith; rom = λ b high is. omega arith }
aside a (inr two) = let low = two.0 in let high = two.1 in
    record { stack = λ k small is. omega arith; rom = λ b above is. omega arith }

pub between : (low high a : ℕ) → (nat_le low a && nat_lt a high) ≡ true → (low ≤ a) × (a < high)
between low high a is = let two = both_true (nat_le low a) (nat_lt a high) is in
    (leb-true low a two.0, leb-true (suc a) high two.1)

-- an output stands from 3200 on, below 4000
pub output_place : (a : ℕ) → is_output a ≡ true → (0x3200 ≤ a) × (a < 0x4000)
output_place a is = one (either (nat_eq a 0x3200) _ is)
  where
    at : (place : ℕ) → 0x3200 ≤ place → place < 0x4000 → nat_eq a place ≡ true → (0x3200 ≤ a) × (a < 0x4000)
    at place low high same = let e = eqb-true a place same in (omega (arith, low, e), omega (arith, high, e))

    six : ((nat_eq a 0x3E00 ≡ true) ⊎ ((nat_le 0x3C00 a && nat_lt a 0x3C06) ≡ true)) → (0x3200 ≤ a) × (a < 0x4000)
    six (inl same) = at 0x3E00 (omega arith) (omega arith) same
    six (inr sounds) = let two = between 0x3C00 0x3C06 a sounds in let low = two.0 in let high = two.1 in
        (omega (arith, low), omega (arith, high))

    four : ((nat_eq a 0x3A00 ≡ true) ⊎ ((nat_eq a 0x3E00 || (nat_le 0x3C00 a && nat_lt a 0x3C06)) ≡ true))
        → (0x3200 ≤ a) × (a < 0x4000)
    four (inl same) = at 0x3A00 (omega arith) (omega arith) same
    four (inr more) = six (either (nat_eq a 0x3E00) _ more)

    three : ((nat_eq a 0x3600 ≡ true)
        ⊎ ((nat_eq a 0x3A00 || (nat_eq a 0x3E00 || (nat_le 0x3C00 a && nat_lt a 0x3C06))) ≡ true))
        → (0x3200 ≤ a) × (a < 0x4000)
    three (inl same) = at 0x3600 (omega arith) (omega arith) same
    three (inr more) = four (either (nat_eq a 0x3A00) _ more)

    two : ((nat_eq a 0x3400 ≡ true) ⊎ ((nat_eq a 0x3600
        || (nat_eq a 0x3A00 || (nat_eq a 0x3E00 || (nat_le 0x3C00 a && nat_lt a 0x3C06)))) ≡ true))
        → (0x3200 ≤ a) × (a < 0x4000)
    two (inl same) = at 0x3400 (omega arith) (omega arith) same
    two (inr more) = three (either (nat_eq a 0x3600) _ more)

    one : ((nat_eq a 0x3200 ≡ true) ⊎ ((nat_eq a 0x3400 || (nat_eq a 0x3600
        || (nat_eq a 0x3A00 || (nat_eq a 0x3E00 || (nat_le 0x3C00 a && nat_lt a 0x3C06))))) ≡ true))
        → (0x3200 ≤ a) × (a < 0x4000)
    one (inl same) = at 0x3200 (omega arith) (omega arith) same
    one (inr more) = two (either (nat_eq a 0x3400) _ more)

pub free_apart : (a : ℕ) → is_free a ≡ true → IsApart a
free_apart a is = one (either (nat_lt a 0x10) _ is)
  where
    three : (((nat_le 0x200 a && nat_lt a 0x400) ≡ true) ⊎ (is_output a ≡ true)) → IsApart a
    three (inl ram) = let two = between 0x200 0x400 a ram in let low = two.0 in let high =
        two.1 in inr (low, omega arith)
    three (inr out) = let two = output_place a out in let low = two.0 in let high = two.1 in inr (omega arith, high)

    next : (((nat_le 0x21 a && nat_lt a 0x100) ≡ true) ⊎ (((nat_le 0x200 a && nat_lt a 0x400) || is_output a) ≡ true))
        → IsApart a
    next (inl zero_page) = inl (between 0x21 0x100 a zero_page).1
    next (inr more) = three (either (nat_le 0x200 a && nat_lt a 0x400) _ more)

    one : ((nat_lt a 0x10 ≡ true)
        ⊎ (((nat_le 0x21 a && nat_lt a 0x100) || ((nat_le 0x200 a && nat_lt a 0x400) || is_output a)) ≡ true))
        → IsApart a
    one (inl less) = let l = leb-true (suc a) 0x10 less in inl (omega arith)
    one (inr more) = next (either (nat_le 0x21 a && nat_lt a 0x100) _ more)

operand_apart : (a : ℕ) → is_operand a ≡ true → a < 0x100
operand_apart a is = let two = between 0x1B 0x1F a is in let high = two.1 in omega arith

pub own_apart : (a : ℕ) → is_own a ≡ true → a < 0x100
own_apart a is = let page = (both_true (nat_le 0x10 a && nat_lt a 0x21) _ is).0 in
    let high = (between 0x10 0x21 a page).1 in omega arith

pub may_apart : (level : Level) (a : ℕ) → may_write level a ≡ true → IsApart a
may_apart Main a is = one (either (is_free a) _ is)
  where
    two : ((is_operand a ≡ true) ⊎ (is_own a ≡ true)) → IsApart a
    two (inl operand) = inl (operand_apart a operand)
    two (inr own) = inl (own_apart a own)

    one : ((is_free a ≡ true) ⊎ ((is_operand a || is_own a) ≡ true)) → IsApart a
    one (inl free) = free_apart a free
    one (inr more) = two (either (is_operand a) _ more)
may_apart Sub a is = one (either (is_free a) _ is)
  where
    one : ((is_free a ≡ true) ⊎ (is_operand a ≡ true)) → IsApart a
    one (inl free) = free_apart a free
    one (inr operand) = inl (operand_apart a operand)
may_apart Nmi a is = free_apart a is

-- what holds of each byte that a store may write holds of the one that it writes
pub reaching : (mode : Place) (rom mem : ℕ → ℕ) (pc index : ℕ) (p : ℕ → Bool) → mem (pc + 1) ≡ rom (pc + 1)
    → mem (pc + 1 + 1) ≡ rom (pc + 1 + 1) → of_reached mode rom pc p ≡ true → p (address mode mem pc index) ≡ true
reaching ZeroPage rom mem pc index p one two all = subst (λ b. p b ≡ true) (sym one) all
reaching ZeroPageIndexed rom mem pc index p one two all =
    under 256 p all ((mem (pc + 1) + index) % 256) (omega arith)
reaching Absolute rom mem pc index p one two all =
    subst (λ b. p (b + 256 * mem (pc + 1 + 1)) ≡ true) (sym one)
    (subst (λ b. p (rom (pc + 1) + 256 * b) ≡ true) (sym two) all)
reaching AbsoluteIndexed rom mem pc index p one two all =
    subst (λ b. p ((b + 256 * mem (pc + 1 + 1) + index % 256) % 65536) ≡ true) (sym one)
    (subst (λ b. p ((rom (pc + 1) + 256 * b + index % 256) % 65536) ≡ true) (sym two)
    (under 256 (λ k. p ((word_at rom (pc + 1) + k) % 65536)) all (index % 256) (omega arith)))

-- a word that is pushed stands there
pub word_pushed : (word s : ℕ) (mem : ℕ → ℕ) → 1 ≤ s → s ≤ 255
    → pushed word s mem (stack_place (s + 255)) + 256 * pushed word s mem (stack_place s) ≡ word
word_pushed word s mem low high =
    let first = here (stack_place (s + 255)) (word % 256) (put (stack_place s) (word / 256) mem) in
    let over = other (stack_place (s + 255)) (word % 256) (put (stack_place s) (word / 256) mem) (stack_place s)
    (λ is. omega arith) in
    let second = here (stack_place s) (word / 256) mem in
    ap (λ b. b + 256 * pushed word s mem (stack_place s)) first
    ∙ ap (λ b. word % 256 + 256 * b) (over ∙ second) ∙ omega arith

-- and what is above stays
pub above_pushed : (word s : ℕ) (mem : ℕ → ℕ) (b : ℕ) → 1 ≤ s → s ≤ 255 → (b < 0x100) ⊎ (0x100 + s < b)
    → pushed word s mem b ≡ mem b
above_pushed word s mem b low high (inl less) =
    other (stack_place (s + 255)) (word % 256) (put (stack_place s) (word / 256) mem) b (λ is. omega arith)
    ∙ other (stack_place s) (word / 256) mem b (λ is. omega arith)
above_pushed word s mem b low high (inr more) =
    other (stack_place (s + 255)) (word % 256) (put (stack_place s) (word / 256) mem) b (λ is. omega arith)
    ∙ other (stack_place s) (word / 256) mem b (λ is. omega arith)

-- what the driver leaves
pub left_rom : (s : ℕ) (left mem : ℕ → ℕ) (b : ℕ) → 0x4800 ≤ b → b < 0x8000 → left_by s left mem b ≡ mem b
left_rom s left mem b low high =
    by (nat_le 0x4800 b) (nat_lt b 0x8000) (le-leb 0x4800 b low) (le-leb (suc b) 0x8000 high)
  where
    by : (t u : Bool) → t ≡ true → u ≡ true
        → (if (t && u) || (nat_lt (0x100 + s % 256) b && nat_lt b 0x200) then mem b else left b) ≡ mem b
    by true true one two = refl
    by true false one two = absurd (cc)
    by false u one two = absurd (cc)

pub left_stack : (s : ℕ) (left mem : ℕ → ℕ) (k : ℕ) → s < k → k ≤ 255
    → left_by s left mem (stack_place k) ≡ mem (stack_place k)
left_stack s left mem k above high =
    by (nat_le 0x4800 (stack_place k) && nat_lt (stack_place k) 0x8000) (nat_lt (0x100 + s % 256) (stack_place k))
    (nat_lt (stack_place k) 0x200)
    (le-leb (suc (0x100 + s % 256)) (stack_place k) (omega arith)) (le-leb (suc (stack_place k)) 0x200 (omega arith))
  where
    by : (t u v : Bool) → u ≡ true → v ≡ true
        → (if t || (u && v) then mem (stack_place k) else left (stack_place k)) ≡ mem (stack_place k)
    by true u v one two = refl
    by false true true one two = refl
    by false false v one two = absurd (cc)
    by false true false one two = absurd (cc)
