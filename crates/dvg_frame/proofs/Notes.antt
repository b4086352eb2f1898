-- The notes of the places, and what is known by them.
use Rattle.std.proofs.Common.{⊎_elim, inl, inr, ◌≡◌, ℕ, ◌<◌, ◌≤◌, List, length, get_or, set, map, replicate, Option, Some, None, refl, sym, ap, ◌∙◌, subst, arith, Bool, true, false, not, eqb, All}
use Rattle.std.specs.Option.{is_some}
use Rattle.std.proofs.lemmas.List.{length-map, length-replicate, get_or-replicate, get_or-map, map-set}
use Rattle.std.proofs.Math.ListN.{get_or-eq_default}
use Rattle.dvg_frame.specs.declared.checking.table.Ending.TheVariants.{Halts}
use Rattle.std.proofs.lemmas.List.Elements.{All-from_get_or}
use Rattle.std.proofs.lemmas.Bool.{cases_lt, eqb-true, false_from_ne_true}
use Rattle.std.proofs.lemmas.Bool.Decides.{eqb_tells}
use Rattle.dvg_frame.specs.declared.checking.pair.TheConstants.{PLACES}
use Rattle.dvg_frame.specs.declared.place.Place.{Place}
use Rattle.dvg_frame.specs.declared.checking.table.Drawn.{Drawn}
use Rattle.dvg_frame.specs.declared.checking.table.Note.{Note}
use Rattle.dvg_frame.specs.own.Pairs.{place_index}
use Rattle.dvg_frame.specs.own.Tables.{HasNone, noted, AreNotes}

-- notes of a round are notes of a later one
pub notes_later : (round later : ℕ) (notes : List Note) → AreNotes round notes → round ≤ later → AreNotes later notes
notes_later round later notes are after = record {
  size = are.size;
  past = λ k d within. let past = are.past k d within in omega arith;
}

-- and tell nothing in it
other_noted : (later : ℕ) (note : Note) → eqb note.round later ≡ false → noted later note ≡ None
other_noted later note other = rw other refl

pub notes_past : (round later : ℕ) (notes : List Note) → AreNotes round notes → round < later → HasNone (map (noted later) notes)
notes_past round later notes are after p inside =
    let blank : Note = record { words = 0; round = 0; end = Halts; returns = false; calls = 0 } in
    ⊎_elim
    (λ within.
    let note = get_or notes (place_index p) blank in
    let past : note.round ≤ round = are.past (place_index p) blank within in
    let other : eqb note.round later ≡ false = false_from_ne_true (eqb note.round later) (λ is. let same = eqb-true note.round later is in omega arith) in
    get_or-map (noted later) notes (place_index p) blank None within ∙ other_noted later note other)
    (λ past. get_or-eq_default (map (noted later) notes) None (let count = length-map notes (noted later) in omega arith))
    (cases_lt (place_index p) (length notes))

-- each place has the same note
pub notes_blank : (notes : List Note) (n : ℕ) (blank : Note) → n ≡ PLACES → notes ≡ replicate n blank → blank.round ≡ 0 → AreNotes 0 notes
notes_blank notes n blank count is zero = record {
  size = ap length is ∙ length-replicate n blank ∙ count;
  past = subst (All (λ note. note.round ≤ 0)) (sym is) (All-from_get_or (λ note. note.round ≤ 0) (replicate n blank) blank (λ i within. let same = ap (λ note. note.round) (get_or-replicate n i blank blank (let size = length-replicate n blank in omega arith)) in omega arith));
}

-- one more is put down
pub put_noted : (round n : ℕ) (notes : List Note) (place : Place) (note : Note) → n ≡ place_index place → note.round ≡ round
    → map (noted round) (set notes n note) ≡ set (map (noted round) notes) (place_index place) (Some (record { words = note.words; end = note.end; returns = note.returns; calls = note.calls }))
put_noted round n notes place note number now =
    let here : eqb note.round round ≡ true = elim (eqb_tells note.round round) [ inl same ↦ same.0 | inr differ ↦ absurd (differ.1 now) ] in
    let drawn : Option Drawn = Some (record { words = note.words; end = note.end; returns = note.returns; calls = note.calls }) in
    let told : noted round note ≡ drawn = rw here refl in
    map-set (noted round) notes n note ∙ ap (λ known. set (map (noted round) notes) n known) told ∙ ap (λ k. set (map (noted round) notes) k drawn) number

pub none_there : (known : Option Drawn) (none : Bool) → is_some known ≡ not none → none ≡ true → known ≡ None
none_there None none is holds = refl
none_there (Some drawn) none is holds = let never : true ≡ false = is ∙ ap not holds in cc
