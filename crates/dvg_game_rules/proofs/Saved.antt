-- What the NMI saved: registers and bytes of the stack that are as they were where it came.
use Rattle.std.proofs.Common.{◌≡◌, ℕ, ◌+◌, ◌<◌, ◌≤◌, true, sym, subst, arith, List, [], ◌∷◌}
use Rattle.dvg_calls_6502.specs.Processor.{A, Register, X, Y, stack_place}
use Rattle.dvg_game_rules.specs.Kinds.{Sets, Nothing, Only}
use Rattle.dvg_game_rules.specs.Machine.{State, Choice, Came, of_register, moved, setting}
use Rattle.dvg_game_rules.specs.Checker.{Slot, Any, Was, Held, serves, serve, all_serve, of_held, holding, set, newest, older}
use Rattle.dvg_game_rules.proofs.Facts.{both_true}

abbrev pub Fits : Slot → Came → ℕ → Type 0
Fits Any came byte = Unit {0}
Fits (Was A) came byte = byte ≡ came.a
Fits (Was X) came byte = byte ≡ came.x
Fits (Was Y) came byte = byte ≡ came.y

abbrev pub Holds : Held → Came → State → Type 0
Holds held came st = Fits held.a came st.a × Fits held.x came st.x × Fits held.y came st.y

-- the bytes above S, from the newest one on
abbrev pub Saved : List Slot → Came → (ℕ → ℕ) → ℕ → Type 0
Saved [] came mem s = Unit {0}
Saved (slot ∷ slots) came mem s = (s + 1 ≤ 255) × Fits slot came (mem (stack_place (s + 1))) × Saved slots came mem
    (s + 1)

pub saved_kept : (slots : List Slot) (came : Came) (mem mem' : ℕ → ℕ) (s : ℕ)
    → ((k : ℕ) → s < k → k ≤ 255 → mem' (stack_place k) ≡ mem (stack_place k)) → Saved slots came mem s
    → Saved slots came mem' s
saved_kept [] came mem mem' s same is = tt
saved_kept (slot ∷ slots) came mem mem' s same is =
    let high = is.0 in (
      high,
      subst (Fits slot came) (sym (same (s + 1) (omega arith) high)) is.1,
      saved_kept slots came mem mem' (s + 1) (λ k above most. same k (omega (arith, above)) most) is.2,
    )

-- less is known
pub fits_less : (one known : Slot) (came : Came) (byte : ℕ) → serves one known ≡ true → Fits known came byte
    → Fits one came byte
fits_less Any known came byte serves is = tt
fits_less (Was one) Any came byte serves is = absurd (cc)
fits_less (Was A) (Was A) came byte serves is = is
fits_less (Was X) (Was X) came byte serves is = is
fits_less (Was Y) (Was Y) came byte serves is = is
fits_less (Was A) (Was X) came byte serves is = absurd (cc)
fits_less (Was A) (Was Y) came byte serves is = absurd (cc)
fits_less (Was X) (Was A) came byte serves is = absurd (cc)
fits_less (Was X) (Was Y) came byte serves is = absurd (cc)
fits_less (Was Y) (Was A) came byte serves is = absurd (cc)
fits_less (Was Y) (Was X) came byte serves is = absurd (cc)

pub holds_less : (one known : Held) (came : Came) (st : State) → all_serve one known ≡ true → Holds known came st
    → Holds one came st
holds_less one known came st serve is =
    let a = both_true (serves one.a known.a) _ serve in
    let b = both_true (serves one.x known.x) _ a.1 in (
      fits_less one.a known.a came st.a a.0 is.0,
      fits_less one.x known.x came st.x b.0 is.1,
      fits_less one.y known.y came st.y b.1 is.2,
    )

pub saved_less : (one known : List Slot) (came : Came) (mem : ℕ → ℕ) (s : ℕ) → serve one known ≡ true
    → Saved known came mem s → Saved one came mem s
saved_less [] known came mem s fine is = tt
saved_less (one ∷ more) [] came mem s fine is = absurd (cc)
saved_less (one ∷ more) (known ∷ others) came mem s fine is =
    let two = both_true (serves one known) _ fine in (
      is.0,
      fits_less one known came (mem (stack_place (s + 1))) two.0 is.1,
      saved_less more others came mem
          (s + 1) two.1 is.2,
    )

-- a register is set
pub set_holds : (sets : Sets) (held : Held) (came : Came) (choice : Choice) (st : State) → Holds held came st
    → Holds (set sets held) came (setting sets choice st)
set_holds Nothing held came choice st is = is
set_holds (Only A) held came choice st is = (tt, is.1, is.2)
set_holds (Only X) held came choice st is = (is.0, tt, is.2)
set_holds (Only Y) held came choice st is = (is.0, is.1, tt)

-- a transfer
of_fits : (from : Register) (held : Held) (came : Came) (st : State) → Holds held came st
    → Fits (of_held from held) came (of_register from st)
of_fits A held came st is = is.0
of_fits X held came st is = is.1
of_fits Y held came st is = is.2

pub moved_holds : (to : Register) (slot : Slot) (byte : ℕ) (held : Held) (came : Came) (st : State)
    → Fits slot came byte
    → Holds held came st → Holds (holding to slot held) came (moved to byte st)
moved_holds A slot byte held came st fits is = (fits, is.1, is.2)
moved_holds X slot byte held came st fits is = (is.0, fits, is.2)
moved_holds Y slot byte held came st fits is = (is.0, is.1, fits)

pub transfer_holds : (from to : Register) (held : Held) (came : Came) (st : State) → Holds held came st
    → Holds (holding to (of_held from held) held) came (moved to (of_register from st) st)
transfer_holds from to held came st is =
    moved_holds to (of_held from held) (of_register from st) held came st (of_fits from held came st is) is

-- a byte is pushed at S
pub pushed_saved : (slot : Slot) (slots : List Slot) (came : Came) (byte : ℕ) (mem mem' : ℕ → ℕ) (s s' : ℕ) → s' + 1 ≡ s
    → s ≤ 255 → Fits slot came byte → mem' (stack_place s) ≡ byte
    → ((k : ℕ) → s < k → k ≤ 255 → mem' (stack_place k) ≡ mem (stack_place k)) → Saved slots came mem s
    → Saved (slot ∷ slots) came mem' s'
pushed_saved slot slots came byte mem mem' s s' next high fits here same is = (
  omega (arith, next, high),
  subst (λ k. Fits slot came (mem' (stack_place k))) (sym next)
      (subst (Fits slot came) (sym here) fits),
  subst (Saved slots came mem') (sym next) (saved_kept slots came mem mem' s same is),
)

-- a byte is pulled
pub pulled_saved : (slots : List Slot) (came : Came) (mem : ℕ → ℕ) (s s' : ℕ) → s + 1 ≡ s' → Saved slots came mem s
    → Saved (older slots) came mem s'
pulled_saved [] came mem s s' next is = tt
pulled_saved (slot ∷ slots) came mem s s' next is = subst (Saved slots came mem) next is.2

pub pulled_fits : (slots : List Slot) (came : Came) (mem : ℕ → ℕ) (s : ℕ) → Saved slots came mem s
    → Fits (newest slots) came (mem (stack_place (s + 1)))
pulled_fits [] came mem s is = tt
pulled_fits (slot ∷ slots) came mem s is = is.1
