-- A log that a generator makes, over each ROM: its run fetches word 0, then bytes 1 and 5 are written, and it fetches the rest.
use Rattle.std.proofs.Common.{◌≡◌, ◌≢◌, ℕ, ◌/◌, ◌<◌, ◌⊎◌, inl, inr, List, [], ◌∷◌, Some, None, true, refl, sym, lit<, lit≤, replicate, arith}
use Rattle.std.proofs.lemmas.Bool.Decides.{eqb_tells}
use Rattle.std.proofs.lemmas.List.{length-replicate}
use Rattle.std.proofs.lemmas.List.Elements.{All-replicate}
use Rattle.std.proofs.lemmas.Option.{none-some, same_Some}
use Rattle.dvg_code.specs.declared.instr.Instr.TheVariants.{Labs, Halt}
use Rattle.dvg_code.specs.Spelling.{Spells, labs, halt}
use Rattle.dvg_mem.specs.Memory.{IsImage}
use Rattle.dvg_gen.specs.Run.{Visit, first, one, two}
use Rattle.dvg_gen.specs.Told.{Start, Fed, Newest, nothing, begun, grown, Leaves, new, starts, takes}
use Rattle.dvg_driver.specs.declared.action.Action.TheVariants.{Wrote}
use Rattle.dvg_log.specs.declared.event.Event.TheVariants.{Tick, Strobe, Fetch}
use Rattle.dvg_log.specs.declared.entry.Entry.TheVariants.{Acted, Started, Low, Fetched, Done}
use Rattle.dvg_log.specs.Log.{Line, ◌⟼◌, Log, Throughout, open_run}
use Rattle.dvg_moment.specs.Moment.{Known, stands, HasChanged, StillStands, IsMoment, OfOneMoment}
use Rattle.dvg_moment.specs.Played.{FetchesMemory, SomeRunIsTorn}
use Rattle.dvg_moment.proofs.Latest.{moment_before, is_latest, past_on, past_torn}
use Rattle.dvg_moment.proofs.LinesRead.{some_read, low_at, word_at}
use Rattle.dvg_moment.proofs.Truth.{is_moment}

abbrev zeros : List ℕ
zeros = replicate 2048 0

is_image : IsImage zeros
is_image = record { count = length-replicate {A = ℕ} 2048 0; bytes = All-replicate (λ byte. byte < 256) 2048 0 (lit< tt) }

-- LABS stands in words 0 and 1, and its first word is fetched

abbrev begins : Log
begins = (Strobe ⟼ Started) ∷ (Tick ⟼ Acted (Wrote 1 0xA0)) ∷ []

abbrev first_read : Log
first_read = (Fetch ⟼ Fetched 0 0xA000) ∷ (Fetch ⟼ Low 0 0) ∷ begins

-- both bytes are written

abbrev one_written : Line
one_written = Tick ⟼ Acted (Wrote 1 0xA1)

abbrev five_written : Line
five_written = Tick ⟼ Acted (Wrote 5 0xB0)

abbrev written : Log
written = five_written ∷ one_written ∷ first_read

-- and the rest is fetched

abbrev second_low : Line
second_low = Fetch ⟼ Low 1 0

abbrev second_high : Line
second_high = Fetch ⟼ Fetched 1 0

abbrev third_low : Line
third_low = Fetch ⟼ Low 2 0

abbrev fetched : Log
fetched = third_low ∷ second_high ∷ second_low ∷ written

abbrev halted : Log
halted = (Fetch ⟼ Done 2 0xB000 []) ∷ fetched

-- what the generator does

abbrev visits1 : List Visit
visits1 = record { place = 0; code = Labs 0 0 0 } ∷ []

abbrev visits2 : List Visit
visits2 = record { place = 2; code = Halt } ∷ visits1

abbrev run : List Visit → Newest
run visits = grown (begun nothing) visits None

abbrev holding : Newest
holding = grown (begun nothing) [] (Some 0xA000)

leaves0 : Leaves (Start ∷ []) (begun nothing)
leaves0 = starts new

leaves1 : Leaves (Fed (Some 0xA000) ∷ Start ∷ []) holding
leaves1 = takes leaves0 refl (first (lit< tt))

spells_labs : Spells (Labs 0 0 0) (0xA000 ∷ 0 ∷ [])
spells_labs = labs (lit≤ tt, lit≤ tt, lit≤ tt) refl refl

leaves2 : Leaves (Fed (Some 0) ∷ Fed (Some 0xA000) ∷ Start ∷ []) (run visits1)
leaves2 = takes leaves1 refl (two spells_labs)

spells_halt : Spells Halt (0xB000 ∷ [])
spells_halt = halt (lit≤ tt) (lit< tt)

leaves3 : Leaves (Fed (Some 0xB000) ∷ Fed (Some 0) ∷ Fed (Some 0xA000) ∷ Start ∷ []) (run visits2)
leaves3 = takes leaves2 refl (one spells_halt)

module _ (R : List ℕ) where
  abbrev AllPlayed : Log → Type 0
  AllPlayed log = Throughout (FetchesMemory R zeros) log

  first_played : AllPlayed first_read
  first_played = (
    (refl, record { asked = record { run = begun nothing; leaves = leaves0; wanted = refl }; later = holding; leaves_later = leaves1; replies = refl }),
    ((refl, record { run = begun nothing; leaves = leaves0; wanted = refl }), (tt, (lit< tt, tt))),
  )

  written_played : AllPlayed written
  written_played = (lit< tt, (lit< tt, first_played))

  fetched_played : AllPlayed fetched
  fetched_played = (
    (refl, record { run = run visits1; leaves = leaves2; wanted = refl }),
    (
      (refl, record { asked = record { run = holding; leaves = leaves1; wanted = refl }; later = run visits1; leaves_later = leaves2; replies = refl }),
      ((refl, record { run = holding; leaves = leaves1; wanted = refl }), written_played),
    ),
  )

  all_played : AllPlayed halted
  all_played =
      ((refl, record { asked = record { run = run visits1; leaves = leaves2; wanted = refl }; later = run visits2; leaves_later = leaves3; replies = refl }), fetched_played)

-- there is no moment

abbrev known : Known
known = stands zeros

all_stands : StillStands known first_read
all_stands = ((λ a h c. c), ((λ a h c. c), tt))

differ : (a b : ℕ) → a < b → a ≡ b → ⊥
differ a b l e = omega (arith, l, e)

-- byte 1 changes, which was read
latest : ¬ StillStands known (one_written ∷ first_read)
latest = is_latest known first_read Tick (Acted (Wrote 1 0xA1)) (λ e. cc) 1 (inl (some_read {byte = 0xA0} refl)) (refl, lit< tt, λ e. differ 0xA0 0xA1 (lit< tt) (same_Some _ _ e))

first_moment : IsMoment known (one_written ∷ first_read) (one_written ∷ []) first_read
first_moment = moment_before known first_read Tick (Acted (Wrote 1 0xA1)) (λ e. cc) all_stands

abbrev both : Log
both = five_written ∷ one_written ∷ []

-- bytes 1 and 5 alone changed since
odd : (a : ℕ) → HasChanged known a both first_read → (a ≡ 5) ⊎ (a ≡ 1)
odd a (inl c) = inl c.0
odd a (inr (inl c)) = inr c.0
odd a (inr (inr c)) = absurd c

apart : (a : ℕ) → (a ≡ 2) ⊎ (a ≡ 3) ⊎ (a ≡ 4) → HasChanged known a both first_read → ⊥
apart a e c = by (odd a c) e
  where
    by : (a ≡ 5) ⊎ (a ≡ 1) → (a ≡ 2) ⊎ (a ≡ 3) ⊎ (a ≡ 4) → ⊥
    by (inl f) (inl e) = omega arith
    by (inl f) (inr (inl e)) = omega arith
    by (inl f) (inr (inr e)) = omega arith
    by (inr f) (inl e) = omega arith
    by (inr f) (inr (inl e)) = omega arith
    by (inr f) (inr (inr e)) = omega arith

in_second : (a : ℕ) → a / 2 ≡ 1 → (a ≡ 2) ⊎ (a ≡ 3) ⊎ (a ≡ 4)
in_second a e = elim (eqb_tells a 2) [ inl t ↦ inl t.1 | inr t ↦ inr (inl (let n = t.1 in omega arith)) ]

written_moment : IsMoment known written both first_read
written_moment = past_on known (one_written ∷ first_read) Tick (Acted (Wrote 5 0xB0)) (λ e. cc) (one_written ∷ []) first_read first_moment (λ a r c. r refl)

low_moment : IsMoment known (second_low ∷ written) (second_low ∷ both) first_read
low_moment = past_on known written Fetch (Low 1 0) (λ e. cc) both first_read written_moment (λ a r c. apart a (inl (low_at written 1 0 a r)) c)

high_moment : IsMoment known (second_high ∷ second_low ∷ written) (second_high ∷ second_low ∷ both) first_read
high_moment = past_on known (second_low ∷ written) Fetch (Fetched 1 0) (λ e. cc) (second_low ∷ both) first_read low_moment (λ a r c. past a (word_at true 1 0 a r) c)
  where
    past : (a : ℕ) → a / 2 ≡ 1 → HasChanged known a (second_low ∷ both) first_read → ⊥
    past a e (inl c) = c
    past a e (inr c) = apart a (in_second a e) c

last_moment : IsMoment known fetched (third_low ∷ second_high ∷ second_low ∷ both) first_read
last_moment =
    past_on known (second_high ∷ second_low ∷ written) Fetch (Low 2 0) (λ e. cc) (second_high ∷ second_low ∷ both) first_read high_moment
    (λ a r c. past a (low_at (second_high ∷ second_low ∷ written) 2 0 a r) c)
  where
    past : (a : ℕ) → a ≡ 4 → HasChanged known a (second_high ∷ second_low ∷ both) first_read → ⊥
    past a e (inl c) = c
    past a e (inr (inl c)) = c
    past a e (inr (inr c)) = apart a (inr (inr e)) c

-- byte 5 changed since, and is read
no_moment : ¬ OfOneMoment known halted
no_moment =
    past_torn known fetched Fetch (Done 2 0xB000 []) (λ e. cc) (third_low ∷ second_high ∷ second_low ∷ five_written ∷ []) one_written first_read last_moment latest
    5 (some_read {byte = 0xB0} refl) (inr (inr (inr (inl (refl, lit< tt, λ e. differ 0 0xB0 (lit< tt) (same_Some _ _ e))))))

some_none : (fetches : List (ℕ × ℕ)) → Some fetches ≡ None → ⊥
some_none fetches e = none-some fetches (sym e)

open_then : open_run fetched ≢ None
open_then e = some_none ((1, 0) ∷ (0, 0xA000) ∷ []) e

pub some_run_is_torn : SomeRunIsTorn
some_run_is_torn R = (
  zeros,
  halted,
  is_image,
  all_played R,
  (λ all. no_moment (all.0 open_then)),
  λ all. let m = all.0 open_then in no_moment (m.0, m.1, is_moment R zeros is_image halted m.0 m.1 (all_played R) m.2),
)
