-- A generator alone that opens in a device and begins a run.
use Rattle.std.proofs.Common.{◌≡◌, ℕ, ◌+◌, ◌^◌, [], ◌∷◌, Some, None, true, refl, sym, ap, ◌∙◌, subst}
use Rattle.dvg_gen.specs.Told.{Start, Newest, Leaves, starts, new, wants}
use Rattle.dvg_gen.specs.Machine.{Machine, HasTaken}
use Rattle.dvg_device.specs.Devices.{Held, Turned, closed, Generator}
use Rattle.dvg_device.specs.Replies.{number_of}

-- the first word that is wanted after a start is that at 000
pub wants_zero : (run : Newest) → Leaves (Start ∷ []) run → wants run ≡ Some 0
wants_zero run (starts new) = refl

-- and the run is open
pub is_open : (run : Newest) → Leaves (Start ∷ []) run → run.is_open ≡ true
is_open run (starts new) = refl

-- a generator is opened in a device that is closed
pub opens : (old device : Held) (answer : ℕ) → old ≡ closed → Turned old 14 device answer
    → (answer ≡ 22) × (machine : Machine) × HasTaken machine [] None
    × (device ≡ record closed { open_part = Generator machine })
opens old device answer is turned =
    let now = subst (λ d. Turned d 14 device answer) is turned in
    (now.2 ∙ ap number_of now.1.4, now.1.0, now.1.1, now.1.3)

-- a run begins in it
pub begins : (old device : Held) (answer : ℕ) (machine : Machine) → HasTaken machine [] None
    → old ≡ record closed { open_part = Generator machine } → Turned old 3 device answer
    → (answer ≡ 10 + 2 ^ 60) × (later : Machine) × HasTaken later (Start ∷ []) None
    × (device ≡ record old { open_part = Generator later })
begins old device answer machine after is turned =
    let now = subst (λ d. Turned d 3 device answer) is turned in
    let part = now.1 in
    let there = part.1 ∙ ap (λ (d : Held). record d { open_part = Generator part.0 }) (sym is) in
    (now.2 ∙ ap number_of part.2.2, part.0, part.2.0 [] None after, there)
