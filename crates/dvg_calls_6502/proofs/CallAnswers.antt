-- What a call answers: it is taken exactly where the life before it is whole, and for a redraw has a flip.
use Rattle.std.proofs.Common.{◌≡◌, ℕ, ◌-◌, Bool, true, false, not, List, ◌++◌}
use Rattle.std.proofs.Common.{refl, sym, ap, ◌∙◌, subst, Some, Option, None}
use Rattle.std.specs.Prelude.{nat_eq}
use Rattle.dvg_mem.specs.Areas.{other}
use Rattle.dvg_frame.specs.Bytes.{addressed}
use Rattle.dvg_driver.specs.Script.{Item, IsWhole, has_flip, word_zero}
use Rattle.dvg_driver.specs.Place.{Resting, Writing}
use Rattle.dvg_driver.proofs.Places.{whole_rests, some_same}
use Rattle.dvg_driver.proofs.Shapes.{rests_whole}
use Rattle.dvg_calls_6502.specs.Processor.{Cpu, run}
use Rattle.dvg_calls_6502.specs.Board.{goal_in}
use Rattle.dvg_calls_6502.specs.Holds.{Holds, HoldsPlace}
use Rattle.dvg_calls_6502.specs.Tables.{table_of}
use Rattle.dvg_calls_6502.specs.Calls
use Rattle.dvg_calls_6502.specs.Calls.{Routine, Call, call_of, bounds, frame_of}
use Rattle.dvg_calls_6502.specs.Calls.{IsSession, IsAnswered, OfferAnswers, OpenAnswers, RedrawAnswers}
use Rattle.dvg_calls_6502.proofs.LogsGrow.{same_end}
use Rattle.dvg_calls_6502.proofs.Offering.{offer_is_taken, redraw_is_taken, redraw_is_refused}
use Rattle.dvg_calls_6502.proofs.OpenAndClose.{open_is_taken}
use Rattle.dvg_calls_6502.proofs.DriverInMemory.{Stood}
use Rattle.dvg_calls_6502.proofs.Refusing.{Refuses, offer_refused, open_refused, redraw_refused}
use Rattle.dvg_calls_6502.proofs.Built.{holds_in, by_rest}
use Rattle.dvg_calls_6502.proofs.Courses.{Quietly, of_answer, of_refusal}
use Rattle.dvg_calls_6502.proofs.Sessions.{came_of, before_call, one_life}

-- where a life is whole, the driver rests
module _ (from : Cpu) (begin stop : ℕ) (life : List Item) where
  not_at_rest : (writes : List (ℕ × ℕ)) (first : Bool) → Writing writes ≡ Resting first → ⊥
  not_at_rest writes first is = absurd (cc)

  at_rest : IsWhole life → (frame : Option (ℕ × List ℕ)) → holds_in begin stop frame from.mem life
      → (stood : Stood from.mem begin stop life) × ((first : Bool)
      × Holds from.mem begin stop (record { place = Resting first; half = stood.stage.half; flipped = stood.stage.flipped }))
  at_rest whole None stood =
      let rests = whole_rests life whole in
      let is : stood.stage.place ≡ Resting rests.0 = some_same (sym stood.stands.place ∙ rests.1) in (
        stood,
        (
          rests.0,
          record {
            flipped = stood.holds.flipped;
            place = subst (λ place. HoldsPlace from.mem begin stop place stood.stage.half stood.stage.flipped) is
                stood.holds.place;
          },
        ),
      )
  at_rest whole (Some frame) built =
      let rests = whole_rests life whole in
      absurd (not_at_rest (addressed (goal_in from.mem - 0x4000) frame.1 ++ word_zero (other built.half) (not built.flipped))
      rests.0 (some_same (sym built.stands.place ∙ rests.1)))

-- what an answer of a call is, and what it may be
module _ (r : Routine) (c : Bool) (life : List Item) (no_reset : (P : Type 0) → Calls.UnlessReset r P → P)
    (a : IsAnswered r c life) where
  abbrev asked : Call
  asked = call_of r a.from a.steps a.others

  held : holds_in (bounds a.calls).0 (bounds a.calls).1 (frame_of a.calls) a.from.mem life
  held = let both = no_reset (Calls.Follows asked a.calls × IsSession a.calls) a.session.3 in
      let was = before_call asked a.calls both.0 a.session.0.loaded both.1 in
      subst (λ l. holds_in (bounds a.calls).0 (bounds a.calls).1 (frame_of a.calls) a.from.mem l)
      (one_life a.calls was.life life was.is_life a.makes) was.holds

  -- its C
  carried : (d : Bool) (mem : ℕ → ℕ) → Quietly a.from d mem → c ≡ d
  carried d mem did =
      let is = came_of asked a.calls a.session in
      sym a.carry ∙ is.carry a.over
      ∙ ap (λ (k : Cpu). k.c) (same_end a.from.s is.n did.steps a.from (sym is.over ∙ a.over) did.returns) ∙ did.carry

  -- where it is taken, the driver rests, so that the life is whole
  rests : c ≡ false → (nat_eq (a.from.mem 0x10) 2 ≡ false → Refuses a.from)
      → (stood : Stood a.from.mem (bounds a.calls).0 (bounds a.calls).1 life)
      × ((first : Bool) × (stood.stage.place ≡ Resting first))
  rests taken refused = by_rest a.from.mem (bounds a.calls).0 (bounds a.calls).1 (frame_of a.calls) life
      ((stood : Stood a.from.mem (bounds a.calls).0 (bounds a.calls).1 life)
      × ((first : Bool) × (stood.stage.place ≡ Resting first)))
      (λ busy. let did = refused busy in
      absurd (let e = sym (carried true did.memory (of_refusal a.from did)) ∙ taken in cc))
      (λ none stood first is held. (stood, (first, is))) held

  whole : c ≡ false → (nat_eq (a.from.mem 0x10) 2 ≡ false → Refuses a.from) → IsWhole life
  whole taken refused = let at = rests taken refused in
      rests_whole life at.1.0 (at.0.stands.place ∙ ap Some at.1.1)

  -- where the life is whole, the driver rests
  rested : IsWhole life → (stood : Stood a.from.mem (bounds a.calls).0 (bounds a.calls).1 life) × ((first : Bool)
      × Holds a.from.mem (bounds a.calls).0 (bounds a.calls).1
      (record { place = Resting first; half = stood.stage.half; flipped = stood.stage.flipped }))
  rested whole = at_rest a.from (bounds a.calls).0 (bounds a.calls).1 life whole (frame_of a.calls) held

pub offer_answers : OfferAnswers
offer_answers F life = (
  (λ a. whole (Calls.Offer F) false life (λ P is. is) a refl (offer_refused a.from a.session.0)),
  (λ a is_whole.
      let rest = rested (Calls.Offer F) true life (λ P is. is) a is_whole in
      let did = offer_is_taken a.from (bounds a.calls).0 (bounds a.calls).1 rest.0.stage.half rest.0.stage.flipped
      rest.1.0 F a.session.0 rest.1.1 a.session.1 in
      absurd (let e = carried (Calls.Offer F) true life (λ P is. is) a false _ (of_answer a.from false _ _ _ did) in cc)),
)

pub open_answers : OpenAnswers
open_answers F life = (
  (λ a. whole (Calls.Open F) false life (λ P is. is) a refl (open_refused a.from a.session.0)),
  (λ a is_whole.
      let rest = rested (Calls.Open F) true life (λ P is. is) a is_whole in
      let did = open_is_taken a.from (bounds a.calls).0 (bounds a.calls).1 rest.0.stage.half rest.0.stage.flipped
      rest.1.0 (table_of F) a.session.0 rest.1.1 a.session.1.some a.session.1.fits in
      absurd (let e = carried (Calls.Open F) true life (λ P is. is) a false (run a.from.s did.steps a.from).mem (record {
        steps = did.steps;
        returns = did.returns;
        carry = did.carry;
        shows = did.shows;
        memory = refl;
      }) in cc)),
)

module _ (life : List Item) where
  redraw_taken : (a : IsAnswered Calls.Redraw false life) → (has_flip life ≡ true) × IsWhole life
  redraw_taken a = (
    by at.0.stage.flipped refl,
    whole Calls.Redraw false life (λ P is. is) a refl (redraw_refused a.from a.session.0),
  )
    where
      at : (stood : Stood a.from.mem (bounds a.calls).0 (bounds a.calls).1 life)
          × ((first : Bool) × (stood.stage.place ≡ Resting first))
      at = rests Calls.Redraw false life (λ P is. is) a refl (redraw_refused a.from a.session.0)

      by : (flipped : Bool) → at.0.stage.flipped ≡ flipped → has_flip life ≡ true
      by false unset =
          let did = redraw_is_refused a.from _ _ at.0.stage a.session.0 at.0.holds
          (λ set. absurd (let e = sym unset ∙ set in cc)) in
          absurd (let e = carried Calls.Redraw false life (λ P is. is) a true _ (of_answer a.from true _ _ at.0.stage did) in cc)
      by true set = at.0.stands.flipped ∙ set

  redraw_untaken : (a : IsAnswered Calls.Redraw true life) → has_flip life ≡ true → ¬ IsWhole life
  redraw_untaken a flip is_whole =
      let rest = rested Calls.Redraw true life (λ P is. is) a is_whole in
      let flipped : rest.0.stage.flipped ≡ true = sym rest.0.stands.flipped ∙ flip in
      let did = redraw_is_taken a.from (bounds a.calls).0 (bounds a.calls).1 rest.0.stage.half rest.1.0 a.session.0
      (subst (λ (t : Bool). Holds a.from.mem (bounds a.calls).0 (bounds a.calls).1
      (record { place = Resting rest.1.0; half = rest.0.stage.half; flipped = t })) flipped rest.1.1) in
      absurd (let e = carried Calls.Redraw true life (λ P is. is) a false _ (of_answer a.from false _ _ _ did) in cc)

pub redraw_answers : RedrawAnswers
redraw_answers life = (redraw_taken life, redraw_untaken life)
