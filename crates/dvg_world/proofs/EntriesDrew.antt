-- Entries with what their runs drew.
use Rattle.std.proofs.Common.{◌≡◌, ℕ, List, Some, None, Vec, refl, sym, ap}
use Rattle.std.proofs.lemmas.Option.{none-some, same_Some}
use Rattle.dvg_gen.specs.declared.stroke.Stroke.{Stroke}
use Rattle.dvg_log.specs.declared.entry.Entry.{Entry}
use Rattle.dvg_log.specs.declared.entry.Entry.TheVariants.{Done}
use Rattle.dvg_log.specs.Entries.{drew_in, map_entry, shown_of}
use Rattle.dvg_world.specs.Standing.{picture_left}
use Rattle.dvg_world.specs.own.Stepping.{IsDrawnBy}

-- an entry that finished no run drew nothing
pub drew_other : (entry : Entry (Unit {0})) (picture : List Stroke)
    → ((address word : ℕ) (drew : Unit {0}) → entry ≡ Done address word drew → ⊥)
    → drew_in (map_entry (λ _. picture) entry) ≡ None
drew_other (Done address word drew) picture other = absurd (other address word drew refl)
drew_other _ picture other = refl

pub undrawn_as : (entry : Entry (Unit {0})) (picture : List Stroke) → drew_in entry ≡ None
    → drew_in (map_entry (λ _. picture) entry) ≡ None
undrawn_as (Done address word unit) picture none = absurd (none-some unit (sym none))
undrawn_as _ picture none = refl

-- with the strokes that its run drew an entry shows them
pub owned_some : {A : Type 0} (entry : Entry (Unit {0})) (picture : List Stroke) (drew : Vec Stroke A)
    → IsDrawnBy (map_entry (λ _. picture) entry) (Some drew)
    → shown_of (map_entry (λ _. drew) entry) ≡ map_entry (λ _. picture) entry
owned_some (Done address word unit) picture drew is = ap (Done address word) (sym (same_Some picture drew.items is))
owned_some _ picture drew is = refl

-- and an entry of no finished run shows none, whatever stands beside it
pub owned_none : {A : Type 0} (entry : Entry (Unit {0})) (picture : List Stroke) (other : Vec Stroke A)
    → IsDrawnBy {A = A} (map_entry (λ _. picture) entry) None
    → shown_of (map_entry (λ _. other) entry) ≡ map_entry (λ _. picture) entry
owned_none (Done address word unit) picture other is = absurd (none-some picture (sym is))
owned_none _ picture other is = refl

-- what is left of the picture by what the entry shows
pub left_shown : (entry : Entry (Unit {0})) (drew picture : List Stroke)
    → picture_left (map_entry (λ _. drew) entry) picture ≡ picture_left entry picture
left_shown (Done address word unit) drew picture = refl
left_shown _ drew picture = refl

-- and by a picture that stays where no run finished
pub left_same : (entry : Entry (Unit {0})) (picture same : List Stroke) → (drew_in entry ≡ None → same ≡ picture)
    → picture_left entry same ≡ picture_left entry picture
left_same (Done address word unit) picture same stays = refl
left_same _ picture same stays = stays refl

pub left_other : (entry : Entry (Unit {0})) (picture : List Stroke)
    → ((address word : ℕ) (drew : Unit {0}) → entry ≡ Done address word drew → ⊥) → picture ≡ picture_left entry picture
left_other (Done address word drew) picture other = absurd (other address word drew refl)
left_other _ picture other = refl
