-- What a game leaves alone between its calls of the driver.
use Rattle.std.proofs.Common.{leb-true, suc, ◌≡◌, ℕ, ◌+◌, ◌/◌, ◌%◌, ◌<◌, ◌≤◌, ◌⊎◌, inl, inr, Bool, true, false, refl}
use Rattle.std.proofs.Common.{◌∙◌, subst, arith, []}
use Rattle.std.specs.Prelude.{nat_le, nat_lt, ◌&&◌, ◌||◌, not, if◌then◌else◌, Option, None, Some}
use Rattle.dvg_calls_6502.specs.Processor.{A, X, Y, put, stack_place}
use Rattle.dvg_game_rules.specs.Kinds.{Nothing, Only, Kind, Quiet, Reads, Transfer, Stores, Push, PushFlags, Pull}
use Rattle.dvg_game_rules.specs.Kinds.{PullFlags, Branch, Jump, Call, Return, Finish, Wild, kind_of}
use Rattle.dvg_game_rules.specs.Machine.{State, Choice, does, restarts, restarting, calling, is_own, is_operand, is_driver}
use Rattle.dvg_game_rules.specs.Machine.{address, word_at, resumed_at, goes_home, returned, driven, called}
use Rattle.dvg_game_rules.specs.Checker.{is_free, is_output}
use Rattle.dvg_game_rules.specs.Safe.{MayWrite, IsSafeBy}
use Rattle.dvg_game_rules.specs.Between.{is_drivers, LeavesAlone}
use Rattle.dvg_game_rules.proofs.Memory.{output_place, other, either, between, own_apart as own_low}
use Rattle.dvg_game_rules.proofs.LocalKinds.{ticked, free_not_own, operand_not_own}
use Rattle.dvg_game_rules.proofs.RunsAreSafe.{checked_is_safe}

-- the driver's bytes are neither on the stack nor free
either_of : (b : ℕ) → is_drivers b ≡ true → (is_own b ≡ true) ⊎ ((0x2000 ≤ b) × ((b < 0x3200) ⊎ (0x4000 ≤ b)))
either_of b is = one (either (is_own b) _ is)
  where
    two : (((nat_le 0x2000 b && nat_lt b 0x3200) ≡ true) ⊎ ((nat_le 0x4000 b && nat_lt b 0x4800) ≡ true))
        → (is_own b ≡ true) ⊎ ((0x2000 ≤ b) × ((b < 0x3200) ⊎ (0x4000 ≤ b)))
    two (inl low) = let t = between 0x2000 0x3200 b low in inr (t.0, inl t.1)
    two (inr high) = let t = between 0x4000 0x4800 b high in let le = t.0 in inr (omega (arith, le), inr le)

    one : ((is_own b ≡ true) ⊎ (((nat_le 0x2000 b && nat_lt b 0x3200) || (nat_le 0x4000 b && nat_lt b 0x4800)) ≡ true))
        → (is_own b ≡ true) ⊎ ((0x2000 ≤ b) × ((b < 0x3200) ⊎ (0x4000 ≤ b)))
    one (inl own) = inl own
    one (inr more) = two (either (nat_le 0x2000 b && nat_lt b 0x3200) _ more)

off_stack : (b s : ℕ) → is_drivers b ≡ true → b ≡ stack_place s → ⊥
off_stack b s is same = one (either_of b is)
  where
    one : ((is_own b ≡ true) ⊎ ((0x2000 ≤ b) × ((b < 0x3200) ⊎ (0x4000 ≤ b)))) → ⊥
    one (inl own) = let low = own_low b own in omega (arith, low, same)
    one (inr far) = let high = far.0 in omega (arith, high, same)

-- a free byte is none of the driver's
free_apart : (b : ℕ) → is_free b ≡ true → is_drivers b ≡ true → ⊥
free_apart b free is = one (either_of b is)
  where
    three : (((nat_le 0x200 b && nat_lt b 0x400) ≡ true) ⊎ (is_output b ≡ true))
        → (b < 0x400) ⊎ ((0x3200 ≤ b) × (b < 0x4000))
    three (inl ram) = inl (between 0x200 0x400 b ram).1
    three (inr out) = inr (output_place b out)

    next : (((nat_le 0x21 b && nat_lt b 0x100) ≡ true)
        ⊎ (((nat_le 0x200 b && nat_lt b 0x400) || is_output b) ≡ true))
        → (b < 0x400) ⊎ ((0x3200 ≤ b) × (b < 0x4000))
    next (inl page) = let high = (between 0x21 0x100 b page).1 in inl (omega (arith, high))
    next (inr more) = three (either (nat_le 0x200 b && nat_lt b 0x400) _ more)

    where_free : ((nat_lt b 0x10 ≡ true) ⊎ (((nat_le 0x21 b && nat_lt b 0x100)
        || ((nat_le 0x200 b && nat_lt b 0x400) || is_output b)) ≡ true))
        → (b < 0x400) ⊎ ((0x3200 ≤ b) × (b < 0x4000))
    where_free (inl low) = let less = leb-true (suc b) 0x10 low in inl (omega (arith, less))
    where_free (inr more) = next (either (nat_le 0x21 b && nat_lt b 0x100) _ more)

    far_off : ((0x2000 ≤ b) × ((b < 0x3200) ⊎ (0x4000 ≤ b))) → ((b < 0x400) ⊎ ((0x3200 ≤ b) × (b < 0x4000))) → ⊥
    far_off far (inl low) = let high = far.0 in omega (arith, high, low)
    far_off far (inr out) = apart far.1
      where
        apart : ((b < 0x3200) ⊎ (0x4000 ≤ b)) → ⊥
        apart (inl less) = let le = out.0 in omega (arith, less, le)
        apart (inr more) = let lt = out.1 in omega (arith, more, lt)

    one : ((is_own b ≡ true) ⊎ ((0x2000 ≤ b) × ((b < 0x3200) ⊎ (0x4000 ≤ b)))) → ⊥
    one (inl own) = let no = free_not_own b free in absurd (cc)
    one (inr far) = far_off far (where_free (either (nat_lt b 0x10) _ free))

operand_apart : (b : ℕ) → is_operand b ≡ true → is_drivers b ≡ true → ⊥
operand_apart b operand is = one (either_of b is)
  where
    one : ((is_own b ≡ true) ⊎ ((0x2000 ≤ b) × ((b < 0x3200) ⊎ (0x4000 ≤ b)))) → ⊥
    one (inl own) = let no = operand_not_own b operand in absurd (cc)
    one (inr far) = let high = far.0 in let low = (between 0x1B 0x1F b operand).1 in omega (arith, high, low)

Leaves : State → State → Type 0
Leaves st after = (after.awake ≡ false) ⊎ ((b : ℕ) → is_drivers b ≡ true → after.mem b ≡ st.mem b)

asleep : (t u : Bool) → u ≡ true → (t && not u) ≡ false
asleep true true is = refl
asleep false true is = refl
asleep t false is = absurd (cc)

pub home_mem : (o : Option (ℕ × ℕ)) (st : State) (b : ℕ) → (goes_home o st).mem b ≡ st.mem b
home_mem None st b = refl
home_mem (Some place) st b = refl

leaves : (kind : Kind) (choice : Choice) (st : State) → IsSafeBy kind st → restarting kind st ≡ false
    → calling kind st ≡ false → Leaves st (does kind choice (ticked st))
unfolding Leaves
leaves (Quiet Nothing bytes) choice st safe go call = inr (λ b is. refl)
leaves (Quiet (Only A) bytes) choice st safe go call = inr (λ b is. refl)
leaves (Quiet (Only X) bytes) choice st safe go call = inr (λ b is. refl)
leaves (Quiet (Only Y) bytes) choice st safe go call = inr (λ b is. refl)
leaves (Reads Nothing place) choice st safe go call = inr (λ b is. refl)
leaves (Reads (Only A) place) choice st safe go call = inr (λ b is. refl)
leaves (Reads (Only X) place) choice st safe go call = inr (λ b is. refl)
leaves (Reads (Only Y) place) choice st safe go call = inr (λ b is. refl)
leaves (Transfer from A) choice st safe go call = inr (λ b is. refl)
leaves (Transfer from X) choice st safe go call = inr (λ b is. refl)
leaves (Transfer from Y) choice st safe go call = inr (λ b is. refl)
leaves (Stores mode) choice st safe go call = by (safe choice.index)
  where
    a : ℕ
    a = address mode st.mem st.pc choice.index

    out : (is_drivers a ≡ true → ⊥) → Leaves st (does (Stores mode) choice (ticked st))
    out apart = inr (λ b is. other a choice.byte st.mem b (λ same. apart (subst (λ q. is_drivers q ≡ true) same is)))

    two : ((is_operand a ≡ true) ⊎ ((is_own a ≡ true) × (st.calls ≡ [])))
        → Leaves st (does (Stores mode) choice (ticked st))
    two (inl operand) = out (operand_apart a operand)
    two (inr own) = inl (asleep st.awake (is_own a) own.0)

    by : MayWrite st a → Leaves st (does (Stores mode) choice (ticked st))
    by (inl free) = out (free_apart a free)
    by (inr more) = two more.1
leaves Push choice st safe go call = inr (λ b is. other (stack_place st.s) st.a st.mem b (off_stack b st.s is))
leaves PushFlags choice st safe go call = inr (λ b is. other (stack_place st.s) choice.byte st.mem b
    (off_stack b st.s is))
leaves Jump choice st safe go call = by (is_driver to) call
  where
    to : ℕ
    to = word_at st.mem (st.pc + 1)

    by : (t : Bool) → t ≡ false
        → Leaves st (if t then returned (driven to choice (ticked st)) else record (ticked st) { pc = to })
    by true is = absurd (cc)
    by false is = inr (λ b is. refl)
leaves Call choice st safe go call = by (is_driver to) call
  where
    to : ℕ
    to = word_at st.mem (st.pc + 1)

    by : (t : Bool) → t ≡ false
        → Leaves st (if t then record (driven to choice (ticked st)) { pc = st.pc + 3 } else called to (ticked st))
    by true is = absurd (cc)
    by false is = inr (λ b held.
        other (stack_place (st.s + 255)) ((st.pc + 2) % 256) (put (stack_place st.s) ((st.pc + 2) / 256) st.mem) b
        (off_stack b (st.s + 255) held)
        ∙ other (stack_place st.s) ((st.pc + 2) / 256) st.mem b (off_stack b st.s held))
leaves Finish choice st safe go call = inr (λ b is. home_mem st.home
    (record (ticked st) { pc = resumed_at st; s = (st.s + 3) % 256; amid = None; home = None }) b)
leaves Wild choice st safe go call = absurd safe
leaves _ choice st safe go call = inr (λ b is. refl)

not_both : (t u : Bool) → u ≡ false → (t && not u) ≡ false → t ≡ false
not_both false u one two = refl
not_both true _ one two = absurd (cc)

pub leaves_alone : LeavesAlone
unfolding Leaves
leaves_alone rom start notes accepted st run choice go call =
    let safe = checked_is_safe rom start notes accepted st run in
    leaves (kind_of (st.mem st.pc)) choice st safe.next go
    (not_both (calling (kind_of (st.mem st.pc)) st) (restarts st) go call)
