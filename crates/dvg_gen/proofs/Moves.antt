-- The moves that a fetch adds to a run, and the strokes that are seen of them.
use Rattle.std.proofs.Common.{◌≡◌, ℕ, zero, suc, ◌<◌, true, List, [], ◌∷◌, ◌++◌, Option, Some}
use Rattle.std.proofs.Common.{None, refl, sym, ap, ◌∙◌, subst, arith, append-nil, append_assoc}
use Rattle.dvg_code.specs.declared.instr.Instr.{Instr}
use Rattle.dvg_code.specs.declared.instr.Instr.TheVariants.{Vctr, Labs, Halt, Jsrl, Rtsl, Jmpl, Svec}
use Rattle.dvg_code.specs.Acts.{Act, Moves, Jumps, Calls, Returns, Halts, act_of}
use Rattle.dvg_code.specs.Ranges.{InRange}
use Rattle.dvg_code.specs.Spelling.{IsFirst}
use Rattle.dvg_code.proofs.Unique.{same_spelling}
use Rattle.dvg_gen.specs.declared.beam.Beam.{Beam}
use Rattle.dvg_gen.specs.declared.moving.Move.{Move}
use Rattle.dvg_gen.specs.Bytes.{Met, Waits, Whole, met}
use Rattle.dvg_gen.specs.Completing.{Completes}
use Rattle.dvg_gen.specs.Drawing.{drawn}
use Rattle.dvg_gen.specs.Machine.{Machine, IsInRun, HasTaken}
use Rattle.dvg_gen.specs.Moving.{made, moves, seen_by, seen, AddsMoves, begins_at, CompletesMove}
use Rattle.dvg_gen.specs.Run.{Visit, back_over, past_call, led, next, wanted, beam_after, strokes}
use Rattle.dvg_gen.specs.Run.{Adds, first, one, two}
use Rattle.dvg_gen.specs.Told.{Told, Fed, Newest, Leaves, new, starts, resets, meets_hole, takes}
use Rattle.dvg_gen.proofs.Inside.{spelled_range}
use Rattle.dvg_gen.proofs.OneRun.{leaves_same}
use Rattle.dvg_gen.proofs.Words.{not_first}

-- what is seen of two lists of moves
seen-append : (xs ys : List Move) → seen (xs ++ ys) ≡ seen xs ++ seen ys
seen-append [] ys = refl
seen-append (x ∷ xs) ys =
    ap (λ later. seen_by x.z x ++ later) (seen-append xs ys) ∙ sym (append_assoc (seen_by x.z x) (seen xs) (seen ys))

-- what is seen of an instruction's move is what it draws
seen_made : (beam : Beam) (address : ℕ) (code : Instr) → seen (made beam address code) ≡ drawn beam code
seen_made beam address (Vctr scale dx dy zero) = refl
seen_made beam address (Vctr scale dx dy (suc z)) = refl
seen_made beam address (Labs x y scale) = refl
seen_made beam address Halt = refl
seen_made beam address (Jsrl to) = refl
seen_made beam address Rtsl = refl
seen_made beam address (Jmpl to) = refl
seen_made beam address (Svec scale dx dy zero) = refl
seen_made beam address (Svec scale dx dy (suc z)) = refl

-- the strokes of a run are those that are seen of its moves
pub seen_moves : (beam : Beam) (visits : List Visit) → strokes beam visits ≡ seen (moves beam visits)
seen_moves beam [] = refl
seen_moves beam (visit ∷ older) =
    let now = beam_after beam older in
    ap (λ drew. drew ++ drawn now visit.code) (seen_moves beam older)
    ∙ ap (λ drew. seen (moves beam older) ++ drew) (sym (seen_made now visit.place visit.code))
    ∙ sym (seen-append (moves beam older) (made now visit.place visit.code))

-- the next instruction is at one of 4,096 addresses
back_below : (act : Act ℕ) (n place : ℕ) (older : ℕ → ℕ) → ((m : ℕ) → older m < 4096)
    → back_over act n place older < 4096
back_below (Moves code) n place older below = below n
back_below (Jumps to) n place older below = below n
back_below (Calls to) zero place older below = omega arith
back_below (Calls to) (suc n) place older below = below n
back_below Returns n place older below = below (suc n)
back_below Halts n place older below = below n

past_below : (n : ℕ) (visits : List Visit) → past_call n visits < 4096
past_below n [] = omega arith
past_below n (visit ∷ older) =
    back_below (act_of visit.code) n visit.place (λ m. past_call m older) (λ m. past_below m older)

led_below : (code : Instr) (visit : Visit) (older : List Visit) → InRange code → led (act_of code) visit older < 4096
led_below (Vctr scale dx dy z) visit older range = omega arith
led_below (Labs x y scale) visit older range = omega arith
led_below Halt visit older range = omega arith
led_below (Jsrl to) visit older range = omega arith
led_below Rtsl visit older range = past_below 0 older
led_below (Jmpl to) visit older range = omega arith
led_below (Svec scale dx dy z) visit older range = omega arith

next_below : {history : List Told} {run : Newest} → Leaves history run → next run.visits < 4096
next_below new = omega arith
next_below (starts l) = omega arith
next_below (resets l) = next_below l
next_below (meets_hole l o) = next_below l
next_below (takes l o (first f)) = next_below l
next_below (takes {run = run} l o (one {code = code} s)) =
    led_below code (record { place = next run.visits; code = code }) run.visits (spelled_range s)
next_below (takes {run = run} l o (two {code = code} s)) =
    led_below code (record { place = next run.visits; code = code }) run.visits (spelled_range s)

-- the instruction of the next word begins where the one before leads
begins_next : (visits : List Visit) (held : Option ℕ) → next visits < 4096
    → begins_at held (wanted visits held) ≡ next visits
begins_next visits None below = refl
begins_next visits (Some word) below = omega arith

-- a first word completes nothing
completes_none : (held : Option ℕ) (word : ℕ) (code : Instr) → held ≡ None → IsFirst word → ¬ Completes held word code
completes_none held word code none wants completes =
    not_first word code wants (subst (λ h. Completes h word code) none completes)

completes_same : (held : Option ℕ) (word : ℕ) (code other : Instr) → Completes held word code
    → Completes held word other → code ≡ other
completes_same None word code other p q = same_spelling code other (word ∷ []) p q
completes_same (Some held) word code other p q = same_spelling code other (held ∷ word ∷ []) p q

-- a word's moves, by the instruction that it completes
pub completes_move : (machine : Machine) (word address : ℕ) (code : Instr) (added : List Move)
    → Completes machine.held word code → address ≡ begins_at machine.held machine.at
    → added ≡ made machine.beam address code → CompletesMove machine word added
completes_move machine word address code added completes at is =
    let made_at : ℕ → Instr → List Move = λ a k. made machine.beam a k in (
      λ other also. is ∙ ap (λ a. made_at a code) at
          ∙ ap (made_at (begins_at machine.held machine.at)) (completes_same machine.held word code other completes also),
      λ none wants. absurd (completes_none machine.held word code none wants completes),
    )

-- a first word's moves
pub first_move : (machine : Machine) (word : ℕ) (added : List Move) → machine.held ≡ None → IsFirst word
    → added ≡ [] → CompletesMove machine word added
first_move machine word added none wants is = (
  λ code completes. absurd (completes_none machine.held word code none wants completes),
  λ _ _. is,
)

-- no move is added
adds_none : (before added : List Move) → added ≡ [] → before ≡ before ++ added
adds_none before added none = sym (ap (λ list. before ++ list) none ∙ append-nil before)

-- the moves of a run with one more word
more_moves : (begun : Beam) (visits later : List Visit) (held held' : Option ℕ) (word : ℕ) (added : List Move)
    → Adds visits held word later held'
    → ((code : Instr) → Completes held word code → added ≡ made (beam_after begun visits) (next visits) code)
    → (held ≡ None → IsFirst word → added ≡ []) → moves begun later ≡ moves begun visits ++ added
more_moves begun visits later held held' word added (first f) whole part =
    adds_none (moves begun visits) added (part refl f)
more_moves begun visits later held held' word added (one {code = code} s) whole part =
    ap (λ list. moves begun visits ++ list) (sym (whole code s))
more_moves begun visits later held held' word added (two {code = code} s) whole part =
    ap (λ list. moves begun visits ++ list) (sym (whole code s))

-- the moves of a run
abbrev moves_of : Newest → List Move
moves_of run = moves run.first run.visits

-- a fetch, of a machine that stands in an open run
module _ (history : List Told) (low : Option ℕ) (machine : Machine) (after : HasTaken machine history low)
    (opened : after.run.is_open ≡ true) where
  inside : IsInRun machine after.run
  inside = after.stands.running opened

  begins : begins_at machine.held machine.at ≡ next after.run.visits
  begins =
      ap (begins_at machine.held) inside.at
      ∙ ap (λ h. begins_at h (wanted after.run.visits after.run.held)) inside.held
      ∙ begins_next after.run.visits after.run.held (next_below after.leaves)

  -- what a word completes is the run's
  completed : (word : ℕ) (added : List Move) → CompletesMove machine word added → (code : Instr)
      → Completes after.run.held word code
      → added ≡ made (beam_after after.run.first after.run.visits) (next after.run.visits) code
  completed word added moves code completes =
      moves.0 code (subst (λ h. Completes h word code) (sym inside.held) completes)
      ∙ ap (λ b. made b (begins_at machine.held machine.at) code) after.stands.beam
      ∙ ap (λ a. made (beam_after after.run.first after.run.visits) a code) begins

  -- the run that a history with one more fetch leaves is this one with one more word
  later_moves : (word : Option ℕ) (added : List Move) (later : Newest) → Leaves (Fed word ∷ history) later
      → ((w : ℕ) → word ≡ Some w → CompletesMove machine w added) → (word ≡ None → added ≡ [])
      → moves_of later ≡ moves_of after.run ++ added
  later_moves word added later (meets_hole {run = run} l o) some none =
      ap moves_of (leaves_same l after.leaves) ∙ adds_none (moves_of after.run) added (none refl)
  later_moves word added later (takes {run = run} {word = w} {visits = visits} {held = held} l o adds) some none =
      let same = leaves_same l after.leaves in
      let here : Adds after.run.visits after.run.held w visits held =
      subst (λ r. Adds r.visits r.held w visits held) same adds in
      let completes = some w refl in
      ap (λ r. moves r.first visits) same
      ∙ more_moves after.run.first after.run.visits visits after.run.held held w added here (completed w added completes)
      (λ none_held. completes.1 (inside.held ∙ none_held))

-- the moves that a fetch adds by what it met
abbrev pub FetchesMove : Machine → Met → List Move → Type 0
FetchesMove machine (Waits byte) added = added ≡ []
FetchesMove machine (Whole None) added = added ≡ []
FetchesMove machine (Whole (Some word)) added = CompletesMove machine word added

-- they are those of the run
found_moves : (machine : Machine) (found : Met) (added : List Move) → FetchesMove machine found added
    → (history : List Told) (low : Option ℕ) (after : HasTaken machine history low) → after.run.is_open ≡ true
    → AddsMoves history after.run found added
found_moves machine (Waits byte) added fetches history low after opened = fetches
found_moves machine (Whole None) added fetches history low after opened = λ later leaves.
    later_moves history low machine after opened None added later leaves (λ w never. absurd (cc)) (λ _. fetches)
found_moves machine (Whole (Some word)) added fetches history low after opened = λ later leaves.
    later_moves history low machine after opened (Some word) added later leaves
    (λ w same. subst (λ k. CompletesMove machine k added) (some_is same) fetches) (λ never. absurd (cc))
  where
    some_is : {x y : ℕ} → ◌≡◌ {A = Option ℕ} (Some x) (Some y) → x ≡ y
    some_is e = cc

-- the same of a byte
pub adds_moves : (machine : Machine) (byte : Option ℕ) (found : Met) (added : List Move)
    → met machine.low byte ≡ found → FetchesMove machine found added
    → (history : List Told) (low : Option ℕ) (after : HasTaken machine history low) → after.run.is_open ≡ true
    → AddsMoves history after.run (met low byte) added
adds_moves machine byte found added same fetches history low after opened =
    let here = found_moves machine found added fetches history low after opened in
    subst (λ l. AddsMoves history after.run (met l byte) added) after.low
    (subst (λ f. AddsMoves history after.run f added) (sym same) here)
