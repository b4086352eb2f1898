-- How a driver goes on standing after its life.
use Rattle.std.proofs.Common.{◌≡◌, ℕ, ◌*◌, ◌≤◌, Bool, false, not, List, [], ◌∷◌, ◌++◌, refl, sym, ◌∙◌, ap, subst, Option, Some, None, nat_eq, arith, inl, inr, eq-eqb, length-append}
use Rattle.std.specs.Prelude.{All, IfNone, IfSome, IsSomeAnd, length, option_and_then, option_map}
use Rattle.std.proofs.lemmas.List.Elements.{All-nil, All-tail}
use Rattle.std.proofs.lemmas.Bool.Decides.{eqb_tells}
use Rattle.dvg_mem.specs.declared.half.Half.{Half}
use Rattle.dvg_mem.specs.Areas.{half_of_high, other}
use Rattle.dvg_frame.specs.declared.op.OpKind.{OpKind}
use Rattle.dvg_frame.specs.Bytes.{IsBehindWordZero}
use Rattle.dvg_frame.specs.Faults.{Accepts}
use Rattle.dvg_frame.specs.Layout.{size}
use Rattle.dvg_frame.specs.Left.{CursorState, IsOf, after_item, items_in}
use Rattle.dvg_driver.specs.declared.state.DriverState.{DriverState}
use Rattle.dvg_driver.specs.declared.state.Phase.{Phase}
use Rattle.dvg_driver.specs.declared.state.Phase.TheVariants as phase
use Rattle.dvg_driver.specs.declared.driver.Driver.TheInside.{Inside}
use Rattle.dvg_driver.specs.declared.action.Action.TheVariants.{Wrote}
use Rattle.dvg_driver.specs.Script.{Item, Did, IsWhole, IsLife, word_zero}
use Rattle.dvg_driver.specs.Place.{Place, Resting, Writing, next_place, place_of_life, with_left}
use Rattle.dvg_driver.specs.Stands.{Driving, KnowsHalf, Stage, StandsAfter, WritesNext, WritesNoByte, byte1_of}
use Rattle.dvg_driver.specs.Phases.{Allows, IsWritten, draft_of, driving_at, driving_of, frame_in, items_of, place_in}
use Rattle.dvg_driver.specs.Saved.{IsWritable, cursor_in}
use Rattle.dvg_driver.proofs.Places.{whole_rests, with_left-append}
use Rattle.dvg_driver.proofs.Shapes.{place_life}

pub stands_life : (stage : Stage) (peeked : ℕ) (life : List Item) → StandsAfter stage peeked life → IsLife life
stands_life stage peeked life stands = place_life life stage.place stands.place

-- a driver that does not rest stands after no life of whole parts
pub not_whole : (at : Phase) (cursor : Option CursorState) (half : Half) (flipped : Bool) (life : List Item) → (at ≡ phase.Resting → ⊥) → place_of_life life ≡ Some (place_in at cursor half flipped) → IsWhole life → ⊥
not_whole at cursor half flipped life moves stands whole = let rests = whole_rests life whole in differs at moves (sym stands ∙ rests.1)
  where
    differs : {first : Bool} (v : Phase) → (v ≡ phase.Resting → ⊥) → Some (place_in v cursor half flipped) ≡ Some (Resting first) → ⊥
    differs phase.Start n is = absurd (cc)
    differs phase.Booting n is = absurd (cc)
    differs phase.Resting n is = n refl
    differs phase.Writing n is = absurd (cc)
    differs phase.Flipping n is = absurd (cc)
    differs phase.Waiting n is = absurd (cc)
    differs phase.Sending n is = absurd (cc)

-- the next place after the first of the writes that are to come
next_write : (a byte : ℕ) (writes : List (ℕ × ℕ)) → next_place (Writing ((a, byte) ∷ writes)) (Did (Wrote a byte)) ≡ Some (with_left writes)
next_write a byte writes = rw (eq-eqb a a refl, eq-eqb byte byte refl)

not_one : (a : ℕ) → 2 ≤ a → nat_eq a 1 ≡ false
not_one a high = elim (eqb_tells a 1) [ inl same ↦ absurd (let is = same.1 in omega arith) | inr tells ↦ tells.0 ]

-- the stage of a driver, by its fields
abbrev stage_of : Inside → Stage
stage_of inside = (driving_of inside).stage

-- what a driver in a phase stands after
pub at_phase : (inside : Inside) (now : Driving) (v : Phase) (peeked : ℕ) (life : List Item) → driving_of inside ≡ now → inside.phase ≡ v → StandsAfter now.stage peeked life
    → StandsAfter (record { place = place_in v inside.cursor inside.half inside.flipped; half = inside.half; flipped = inside.flipped }) peeked life
at_phase inside now v peeked life view_is phase_is stands =
    let now_is : now.stage ≡ record { place = place_in v inside.cursor inside.half inside.flipped; half = inside.half; flipped = inside.flipped } =
    sym (ap (λ (driving : Driving). driving.stage) view_is) ∙ ap (λ (u : Phase). let stage : Stage = record { place = place_in u inside.cursor inside.half inside.flipped; half = inside.half; flipped = inside.flipped } in stage) phase_is in
    let P : Stage → Type 0 = λ stage. StandsAfter stage peeked life in
    subst P now_is stands

-- one more byte of a frame is taken, or none was left
pub keeps_next : (half : Half) (old new : Option CursorState) (taken : Option (ℕ × ℕ)) → IsSomeAnd old (IsWritten half) → new ≡ option_map after_item old
    → IfSome taken (λ item. items_of old ≡ item ∷ items_of new) → IfNone taken ((items_of old ≡ []) × (items_of new ≡ []))
    → IsSomeAnd new (IsWritten half)
keeps_next half None new taken none same given ended = absurd none
keeps_next half (Some old) new taken written same given ended =
    subst (λ cursor. IsSomeAnd cursor (IsWritten half)) (sym same)
    (subst (λ cursor. All IsBehindWordZero (items_of cursor)) same (others taken given ended), written.1)
  where
    others : (taken : Option (ℕ × ℕ)) → IfSome taken (λ item. items_in old ≡ item ∷ items_of new)
        → IfNone taken ((items_in old ≡ []) × (items_of new ≡ [])) → All IsBehindWordZero (items_of new)
    others None given ended = subst (λ list. All IsBehindWordZero list) (sym ended.1) (All-nil IsBehindWordZero)
    others (Some item) given ended = All-tail IsBehindWordZero item _ (subst (λ list. All IsBehindWordZero list) given written.0)

-- the frame that is kept stays as its bytes are taken
pub same_frame : (v : Phase) (old new : Option CursorState) → new ≡ option_map after_item old → frame_in v new ≡ frame_in v old
same_frame v old new same = ap (frame_in v) same ∙ stays v old
  where
    stays : (v : Phase) (old : Option CursorState) → frame_in v (option_map after_item old) ≡ frame_in v old
    stays phase.Start old = refl
    stays phase.Booting old = refl
    stays phase.Resting old = refl
    stays phase.Writing None = refl
    stays phase.Writing (Some cursor) = refl
    stays phase.Flipping old = refl
    stays phase.Waiting old = refl
    stays phase.Sending old = refl

-- a frame that is the same was kept before
pub kept_frame : (old new : Option (List OpKind)) → new ≡ old → IfSome new (λ F. old ≡ Some F)
kept_frame old None same = tt
kept_frame old (Some F) same = sym same

-- where none is kept, none is another
pub no_frame : (old new : Option (List OpKind)) → new ≡ None → IfSome new (λ F. old ≡ Some F)
no_frame old new none = subst (λ frame. IfSome frame (λ F. old ≡ Some F)) (sym none) tt

-- a frame is begun in the half that is free
pub begun_frame : (cursor : Option CursorState) (F : List OpKind) (free half : Half) → free ≡ other half
    → IsSomeAnd cursor (λ new. All IsBehindWordZero (items_in new) × IsOf new F free) → IsSomeAnd cursor (IsWritten half)
begun_frame None F free half same none = absurd none
begun_frame (Some cursor) F free half same all = (all.0, all.1.1 ∙ same)

pub begun_draft : (cursor : Option CursorState) (F : List OpKind) (free : Half)
    → IsSomeAnd cursor (λ new. All IsBehindWordZero (items_in new) × IsOf new F free) → draft_of cursor ≡ Some F
begun_draft None F free none = absurd none
begun_draft (Some cursor) F free all = ap Some all.1.0

-- a phase in which no frame is written asks for the same of a driver and of a state
pub allows_state : (v : Phase) (flipped : Bool) {A B : Type 0} → (v ≡ phase.Writing → A → B) → Allows v flipped A → Allows v flipped B
allows_state phase.Start flipped by allows = allows
allows_state phase.Booting flipped by allows = allows
allows_state phase.Resting flipped by allows = allows
allows_state phase.Writing flipped by allows = by refl allows
allows_state phase.Flipping flipped by allows = allows
allows_state phase.Waiting flipped by allows = allows
allows_state phase.Sending flipped by allows = allows

-- what gives the bytes of a frame counts only where one is written
pub same_driving : (v : Phase) (one other : Option CursorState) (half : Half) (flipped : Bool) → (v ≡ phase.Writing → one ≡ other)
    → driving_at v one half flipped ≡ driving_at v other half flipped
same_driving phase.Start one other half flipped same = refl
same_driving phase.Booting one other half flipped same = refl
same_driving phase.Resting one other half flipped same = refl
same_driving phase.Writing one other half flipped same =
    ap (λ cursor. driving_at phase.Writing cursor half flipped) (same refl)
same_driving phase.Flipping one other half flipped same = refl
same_driving phase.Waiting one other half flipped same = refl
same_driving phase.Sending one other half flipped same = refl

-- the frame of a driver that writes is one of a state: it is accepted where the driver's is
pub writable : (cursor : Option CursorState) (half : Half) (state : DriverState) (R : List ℕ) → state.half ≡ half
    → cursor ≡ Some (cursor_in state) → state.left ≤ 2 * size state.frame
    → IfSome (draft_of cursor) (λ F. Accepts F R) → IsSomeAnd cursor (IsWritten half) → IsWritable R state
writable cursor half state R half_is cursor_is few accepted written =
    let there : IsSomeAnd (Some (cursor_in state)) (IsWritten half) = subst (λ cursor. IsSomeAnd cursor (IsWritten half)) cursor_is written in
    (subst (λ cursor. IfSome (draft_of cursor) (λ F. Accepts F R)) cursor_is accepted, there.1 ∙ ap other (sym half_is), few)

-- a driver that writes takes the first of the writes that are to come
pub takes_next : (inside : Inside) (cursor : Option CursorState) (taken : Option (ℕ × ℕ)) → inside.phase ≡ phase.Writing
    → IfSome taken (λ item. items_of inside.cursor ≡ item ∷ items_of cursor)
    → IfSome taken (WritesNext (stage_of inside) (stage_of (record inside { cursor = cursor })))
takes_next inside cursor None phase_is given = tt
takes_next inside cursor (Some item) phase_is given =
    let zero = word_zero (other inside.half) (not inside.flipped) in
    let old : (stage_of inside).place ≡ Writing (item ∷ (items_of cursor ++ zero)) =
    ap (λ v. place_in v inside.cursor inside.half inside.flipped) phase_is ∙ ap (λ list. Writing (list ++ zero)) given in
    let place : place_in inside.phase cursor inside.half inside.flipped ≡ with_left (items_of cursor ++ zero) =
    ap (λ v. place_in v cursor inside.half inside.flipped) phase_is
    ∙ sym (with_left-append (items_of cursor) (other inside.half) (not inside.flipped)) in
    let at : Place → Stage = λ p. record { place = p; half = inside.half; flipped = inside.flipped } in
    (items_of cursor ++ zero, old, ap at place)

none_before : (items more : List (ℕ × ℕ)) → length (items ++ more) ≤ length more → items ≡ []
none_before [] more few = refl
none_before (item ∷ items) more few = let sum = length-append items more in absurd (omega arith)

-- a driver that writes, and no byte of a frame comes next, writes word zero
pub ends_frame : (inside : Inside) → inside.phase ≡ phase.Writing → WritesNoByte (stage_of inside)
    → (stage_of inside).place ≡ Writing (word_zero (other inside.half) (not inside.flipped))
ends_frame inside phase_is few =
    let zero = word_zero (other inside.half) (not inside.flipped) in
    let place : (stage_of inside).place ≡ Writing (items_of inside.cursor ++ zero) =
    ap (λ v. place_in v inside.cursor inside.half inside.flipped) phase_is in
    let none = none_before (items_of inside.cursor) zero (few _ place) in
    place ∙ ap (λ list. Writing (list ++ zero)) none

-- the first of the writes that are to come is done
pub next_stands : (old new : Stage) (write : ℕ × ℕ) (peeked : ℕ) (life : List Item) → WritesNext old new write → 2 ≤ write.0
    → StandsAfter old peeked life → StandsAfter new peeked (Did (Wrote write.0 write.1) ∷ life)
next_stands old new write peeked life next high stands =
    let differs : nat_eq write.0 1 ≡ false = not_one write.0 high in
    let known : KnowsHalf old.place old.half (byte1_of peeked life) = stands.half in
    let writing : KnowsHalf (Writing (write ∷ next.0)) old.half (byte1_of peeked life) =
    subst (λ p. KnowsHalf p old.half (byte1_of peeked life)) next.1 known in
    let after : StandsAfter (record { place = with_left next.0; half = old.half; flipped = old.flipped }) peeked
    (Did (Wrote write.0 write.1) ∷ life) = record {
      place = ap (option_and_then (λ place. next_place place (Did (Wrote write.0 write.1)))) (stands.place ∙ ap Some next.1)
          ∙ next_write write.0 write.1 next.0;
      half = rw differs (knows_left _ _ next.0 writing);
      flipped = rw differs stands.flipped;
    } in
    subst (λ stage. StandsAfter stage peeked (Did (Wrote write.0 write.1) ∷ life)) (sym next.2) after
  where
    knows_left : (half : Half) (byte1 : ℕ) (more : List (ℕ × ℕ)) → half ≡ half_of_high byte1
        → KnowsHalf (with_left more) half byte1
    knows_left half byte1 [] is = is
    knows_left half byte1 (item ∷ more) is = is
