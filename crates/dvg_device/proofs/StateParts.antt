-- Where each part of a state stands.
use Rattle.std.proofs.Common.{◌≡◌, ℕ, zero, suc, ◌≤◌, ◌<◌, ◌+◌, ◌*◌, ◌-◌, ◌/◌, ◌%◌, List, [], ◌∷◌, ◌++◌, length, map, reverse, get_or}
use Rattle.std.proofs.Common.{◌≢◌, ◌⊎◌, inl, inr, refl, sym, ap, ◌∙◌, subst, arith, Bool, true, false, Option, Some, None, slice_get, slice_index_or}
use Rattle.std.specs.Prelude.{All, IfSome, ◌==◌}
use Rattle.std.specs.Option.{option_map}
use Rattle.std.proofs.lemmas.List.{get_or-reverse, length-map, length-reverse, reverse-reverse}
use Rattle.std.proofs.lemmas.List.Elements.{All-nil}
use Rattle.std.proofs.lemmas.Option.{slice_get-get_or, slice_get-map}
use Rattle.dvg_gen.proofs.Inside.{run_in_range}
use Rattle.dvg_gen.specs.declared.state.GeneratorState.{GeneratorState}
use Rattle.dvg_gen.specs.declared.stroke.Stroke.{Stroke}
use Rattle.dvg_gen.specs.Machine.{Machine, HasTaken}
use Rattle.dvg_gen.specs.Position.{IsStroke}
use Rattle.dvg_gen.specs.Saved.{IsState, machine_of}
use Rattle.dvg_gen.specs.Told.{Told}
use Rattle.dvg_gen.specs.Wrapping.{Wrapped, HasWrapped}
use Rattle.dvg_device.specs.Wrappings.{saved_of}
use Rattle.dvg_device.specs.States.{CanBeSaved, CanStand, drawing_parts, drawn_so_far, part_of_stroke, parts_of, stroke_parts}
use Rattle.dvg_device.specs.declared.state.StatePart.{StatePart}
use Rattle.dvg_device.specs.declared.state.StatePart.TheVariants.{ReturnAddress, Place}

-- what holds of each item of a list holds of each where it is turned round
pub all_reversed : (P : ℕ → Type 0) (ns : List ℕ) → All P ns → All P (reverse ns)
all_reversed P ns all k d within =
    let inside : k < length ns = omega (arith, within, length-reverse ns) in
    subst P (sym (get_or-reverse ns k d inside)) (all (length ns - 1 - k) d (omega (arith, inside)))

-- a generator can be in a state exactly where it can stand so
pub can_stand : (state : GeneratorState) (strokes picture : List Stroke) → IsState state
    → CanStand (machine_of state strokes picture)
can_stand state strokes picture is = record {
  kept = record {
    at_is_address = is.kept.at_is_address;
    held_is_first = is.kept.held_is_first;
    stack_is_addresses = all_reversed (λ a. a < 4096) state.return_addresses.items is.kept.stack_is_addresses;
  };
  waits = is.waits;
  beam = is.beam;
}

pub is_state : (state : GeneratorState) (strokes picture : List Stroke) → CanStand (machine_of state strokes picture)
    → IsState state
is_state state strokes picture can = record {
  kept = record {
    at_is_address = can.kept.at_is_address;
    held_is_first = can.kept.held_is_first;
    stack_is_addresses = subst (All (λ a. a < 4096)) (reverse-reverse state.return_addresses.items)
        (all_reversed (λ a. a < 4096) (reverse state.return_addresses.items) can.kept.stack_is_addresses);
  };
  waits = can.waits;
  beam = can.beam;
}

-- an item of the first of two lists, and of the second
in_first : {A : Type 0} (xs ys : List A) (i : ℕ) → i < length xs → slice_get (xs ++ ys) i ≡ slice_get xs i
in_first [] ys i within = absurd (omega (arith, within))
in_first (x ∷ xs) ys zero within = refl
in_first (x ∷ xs) ys (suc i) within = in_first xs ys i (omega (arith, within))

in_second : {A : Type 0} (xs ys : List A) (i k : ℕ) → i ≡ length xs + k → slice_get (xs ++ ys) i ≡ slice_get ys k
in_second [] ys i k is = ap (slice_get ys) (omega (arith, is))
in_second (x ∷ xs) ys zero k is = absurd (omega (arith, is))
in_second (x ∷ xs) ys (suc i) k is = in_second xs ys i k (omega (arith, is))

-- an item after the first one
after_first : {A : Type 0} (x : A) (xs : List A) (i k : ℕ) → i ≡ suc k → slice_get (x ∷ xs) i ≡ slice_get xs k
after_first x xs i k is = ap (slice_get (x ∷ xs)) is

addresses_are : (machine : Machine) (addresses : List ℕ) → reverse addresses ≡ machine.stack
    → addresses ≡ reverse machine.stack
addresses_are machine addresses is = sym (reverse-reverse addresses) ∙ ap reverse is

-- the part that is a return address
pub address_part : (machine : Machine) (addresses : List ℕ) (i : ℕ) → reverse addresses ≡ machine.stack → 1 ≤ i
    → i ≤ length addresses → Some (ReturnAddress (slice_index_or addresses (i - 1) 0)) ≡ slice_get (parts_of machine) i
address_part machine addresses i is some within =
    let there : i - 1 < length addresses = omega (arith, some, within) in
    let returns = map ReturnAddress addresses in
    sym (after_first _ (map ReturnAddress (reverse machine.stack) ++ drawing_parts machine) i (i - 1) (omega (arith, some))
    ∙ ap (λ back. slice_get (map ReturnAddress back ++ drawing_parts machine) (i - 1)) (sym (addresses_are machine addresses is))
    ∙ in_first returns (drawing_parts machine) (i - 1) (rw length-map there)
    ∙ slice_get-map ReturnAddress addresses (i - 1)
    ∙ ap (option_map ReturnAddress) (slice_get-get_or addresses (i - 1) 0 there))

-- a part after the return addresses
pub later_part : (machine : Machine) (addresses : List ℕ) (i : ℕ) → reverse addresses ≡ machine.stack
    → length addresses < i
    → slice_get (drawing_parts machine) (i - 1 - length addresses) ≡ slice_get (parts_of machine) i
later_part machine addresses i is past =
    sym (after_first _ (map ReturnAddress (reverse machine.stack) ++ drawing_parts machine) i (i - 1) (omega (arith, past))
    ∙ ap (λ back. slice_get (map ReturnAddress back ++ drawing_parts machine) (i - 1)) (sym (addresses_are machine addresses is))
    ∙ in_second (map ReturnAddress addresses) (drawing_parts machine) (i - 1) (i - 1 - length addresses)
    (omega (arith, past, length-map addresses ReturnAddress)))

at_even_odd : (strokes : List Stroke) (d : Stroke) {k k' b b' : ℕ} → k ≡ k' → b ≡ b'
    → ◌≡◌ {A = Option StatePart} (Some (part_of_stroke (get_or strokes k d) (b == 1)))
    (Some (part_of_stroke (get_or strokes k' d) (b' == 1)))
at_even_odd strokes d {k' = k'} {b = b} one two = ap (λ k. Some (part_of_stroke (get_or strokes k d) (b == 1))) one
    ∙ ap (λ b. Some (part_of_stroke (get_or strokes k' d) (b == 1))) two

-- a part of a stroke, the place after them all, and nothing after that
pub stroke_part : (strokes : List Stroke) (rest : List StatePart) (i : ℕ) (d : Stroke) → i / 2 < length strokes
    → slice_get (stroke_parts strokes ++ rest) i ≡ Some (part_of_stroke (get_or strokes (i / 2) d) (i % 2 == 1))
stroke_part [] rest i d within = absurd (omega (arith, within))
stroke_part (stroke ∷ strokes) rest zero d within = refl
stroke_part (stroke ∷ strokes) rest (suc zero) d within = refl
stroke_part (stroke ∷ strokes) rest (suc (suc i)) d within =
    let half : suc (i / 2) ≡ suc (suc i) / 2 = omega arith in
    let odd : i % 2 ≡ suc (suc i) % 2 = omega arith in
    stroke_part strokes rest i d (omega (arith, within)) ∙ at_even_odd (stroke ∷ strokes) d half odd

pub after_strokes : (strokes : List Stroke) (rest : List StatePart) (i : ℕ) → length strokes ≤ i / 2
    → slice_get (stroke_parts strokes ++ rest) i ≡ slice_get rest (i - 2 * length strokes)
after_strokes [] rest i past = ap (slice_get rest) (omega arith)
after_strokes (stroke ∷ strokes) rest zero past = absurd (omega (arith, past))
after_strokes (stroke ∷ strokes) rest (suc zero) past = absurd (omega (arith, past))
after_strokes (stroke ∷ strokes) rest (suc (suc i)) past =
    after_strokes strokes rest i (omega (arith, past)) ∙ ap (slice_get rest) (omega arith)

-- what a machine drew after a history is in range, if its run is open
pub drawn_in_range : (machine : Machine) (history : List Told) (low : Option ℕ) → HasTaken machine history low
    → All IsStroke (drawn_so_far machine)
drawn_in_range machine history low after = by_flag machine.is_open refl
  where
    by_flag : (flag : Bool) → machine.is_open ≡ flag → All IsStroke (drawn_so_far machine)
    by_flag false closed = rw closed (All-nil IsStroke)
    by_flag true runs = rw runs (subst (All IsStroke) (sym (after.stands.running (sym after.stands.is_open ∙ runs)).strokes)
        (run_in_range history after.run after.leaves))

-- a machine in a state of a generator can be saved
pub can_be_saved : (machine : Machine) (state : GeneratorState) (history : List Told) (low : Option ℕ)
    → machine ≡ machine_of state machine.strokes machine.picture → IsState state → length state.return_addresses.items ≤ 4
    → IfSome state.low (λ byte. byte < 0x100) → HasTaken machine history low → CanBeSaved machine
can_be_saved machine state history low is valid four byte after = record {
  stands = subst CanStand (sym is) (can_stand state machine.strokes machine.picture valid);
  four = subst (λ (m : Machine). length m.stack ≤ 4) (sym is) (rw length-reverse four);
  byte = subst (λ (m : Machine). IfSome m.low (λ byte. byte < 0x100)) (sym is) byte;
  strokes = drawn_in_range machine history low after;
}

-- the same where the stack wraps, with the registers as return addresses
pub can_be_saved_wrapped : (wrapped : Wrapped) (state : GeneratorState) (history : List Told) (low : Option ℕ)
    → saved_of wrapped ≡ machine_of state wrapped.machine.strokes wrapped.machine.picture → IsState state
    → length state.return_addresses.items ≤ 4 → IfSome state.low (λ byte. byte < 0x100)
    → HasWrapped wrapped history low → CanBeSaved (saved_of wrapped)
can_be_saved_wrapped wrapped state history low is valid four byte stands = record {
  stands = subst CanStand (sym is) (can_stand state wrapped.machine.strokes wrapped.machine.picture valid);
  four = subst (λ (m : Machine). length m.stack ≤ 4) (sym is) (rw length-reverse four);
  byte = subst (λ (m : Machine). IfSome m.low (λ byte. byte < 0x100)) (sym is) byte;
  strokes = drawn_in_range wrapped.machine stands.told low stands.after;
}

-- the place after the strokes, and nothing after it
pub last_place : (machine : Machine) (i : ℕ) → i / 2 ≡ length (drawn_so_far machine) → i % 2 ≡ 0
    → slice_get (drawing_parts machine) i ≡ Some (Place machine.beam.x machine.beam.y)
last_place machine i half even =
    let rest = Place machine.beam.x machine.beam.y ∷ [] in
    let none : i - 2 * length (drawn_so_far machine) ≡ 0 = omega (arith, half, even) in
    after_strokes (drawn_so_far machine) rest i (omega (arith, half)) ∙ ap (slice_get rest) none

pub no_place : (machine : Machine) (i : ℕ) → 2 * length (drawn_so_far machine) < i
    → slice_get (drawing_parts machine) i ≡ None
no_place machine i past =
    let rest = Place machine.beam.x machine.beam.y ∷ [] in
    let more : i - 2 * length (drawn_so_far machine) ≡ suc (i - 2 * length (drawn_so_far machine) - 1) =
    omega (arith, past) in
    after_strokes (drawn_so_far machine) rest i (omega (arith, past)) ∙ ap (slice_get rest) more

-- what stands after all strokes, or at an odd number there, stands after the place
pub past_place : (drawn i : ℕ) → drawn ≤ i / 2 → (i / 2 ≢ drawn) ⊎ (i % 2 ≢ 0) → 2 * drawn < i
past_place drawn i past (inl other) = omega (arith, past, other)
past_place drawn i past (inr odd) = omega (arith, past, odd)
