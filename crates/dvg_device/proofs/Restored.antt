-- A state that is told in parts is the one that was saved.
use Rattle.std.proofs.Common.{◌≡◌, ℕ, ◌≤◌, ◌<◌, ◌+◌, List, [], ◌∷◌, ◌++◌, length, map, reverse, refl, sym, ap, ◌∙◌, subst, arith}
use Rattle.std.proofs.Common.{true, false, Option, Some, None}
use Rattle.std.specs.Prelude.{IfSome}
use Rattle.std.specs.List.{AllByRecursion}
use Rattle.std.proofs.lemmas.List.{append-nil, append_assoc, length-reverse, reverse-append, reverse-reverse}
use Rattle.std.proofs.lemmas.List.Elements.{recursion_from_All}
use Rattle.dvg_gen.specs.declared.stroke.Stroke.{Stroke}
use Rattle.dvg_gen.specs.Machine.{Machine, HasTaken, IsInRun}
use Rattle.dvg_gen.specs.Position.{IsStroke}
use Rattle.dvg_gen.specs.Told.{Told, Newest}
use Rattle.dvg_gen.specs.Wrapping.{Wrapped, HasWrapped}
use Rattle.dvg_gen.specs.declared.TheConstants.{STACK_DEPTH}
use Rattle.dvg_log.specs.declared.entry.Entry.TheVariants.{Cleared}
use Rattle.dvg_code.specs.Spelling.{IsFirst}
use Rattle.dvg_device.specs.Devices.{Answered, Generator, Held, ResumeAnswers, Wrapping, WrappingResumes}
use Rattle.dvg_device.specs.Wrappings.{CanWrap, saved_of, wrapping_of}
use Rattle.dvg_device.proofs.StateParts.{all_reversed}
use Rattle.dvg_device.proofs.PartsInWords.{read_again}
use Rattle.dvg_device.specs.Laws.{AllSuit, Fits, ToldInTurn, restored}
use Rattle.dvg_device.specs.States.{CanBeSaved, CanStand, TakesPart, drawing_parts, drawn_so_far, part_in, part_of_stroke}
use Rattle.dvg_device.specs.States.{parts_of, stroke_parts, told, unbegun, with_stack, word_of}
use Rattle.dvg_device.specs.declared.reply.Reply.{Reply}
use Rattle.dvg_device.specs.declared.reply.Reply.TheVariants.{Came, NoState, Opened}
use Rattle.dvg_device.specs.declared.request.Request.TheVariants.{Resume, ResumeWrapping, TellState}
use Rattle.dvg_device.specs.declared.state.StatePart.{StatePart}
use Rattle.dvg_device.specs.declared.state.StatePart.TheVariants.{Fields, ReturnAddress, Place}

-- a machine that was told parts in turn
abbrev pub told_all : List StatePart → Machine → Machine
told_all [] machine = machine
told_all (part ∷ parts) machine = told_all parts (told machine part)

-- a list turned round has its first item before what follows
one_before : (n : ℕ) (ns after : List ℕ) → reverse ns ++ n ∷ after ≡ reverse (n ∷ ns) ++ after
one_before n ns after = sym (append_assoc (reverse ns) (n ∷ []) after)
    ∙ ap (λ before. before ++ after) (sym (reverse-append (n ∷ []) ns))

-- return addresses are put before those that are there
told_returns : (addresses : List ℕ) (rest : List StatePart) (machine : Machine)
    → told_all (map ReturnAddress addresses ++ rest) machine
    ≡ told_all rest (record machine { stack = reverse addresses ++ machine.stack })
told_returns [] rest machine = refl
told_returns (address ∷ addresses) rest machine = told_returns addresses rest (told machine (ReturnAddress address))
    ∙ ap (λ stack. told_all rest (record machine { stack = stack })) (one_before address addresses machine.stack)

-- strokes are put after those that are there
told_strokes : (strokes : List Stroke) (x y : ℕ) (machine : Machine)
    → told_all (stroke_parts strokes ++ Place x y ∷ []) machine ≡ record machine
    { strokes = machine.strokes ++ strokes; beam = record { x = x; y = y; scale = machine.beam.scale } }
told_strokes [] x y machine = ap (λ strokes. record machine
    { strokes = strokes; beam = record { x = x; y = y; scale = machine.beam.scale } }) (sym (append-nil machine.strokes))
told_strokes (stroke ∷ strokes) x y machine =
    told_strokes strokes x y (told (told machine (part_of_stroke stroke false)) (part_of_stroke stroke true))
    ∙ ap (λ strokes. record machine
    { strokes = strokes; beam = record { x = x; y = y; scale = machine.beam.scale } }) (append_assoc machine.strokes (stroke ∷ []) strokes)

-- all parts of a machine's state make the machine that is restored
pub told_machine : (machine before : Machine) → told_all (parts_of machine) before ≡ restored machine
told_machine machine before =
    told_returns (reverse machine.stack) (drawing_parts machine) (told before (Fields machine.is_open machine.at machine.held machine.low machine.beam.scale))
    ∙ told_strokes (drawn_so_far machine) machine.beam.x machine.beam.y _
    ∙ ap (λ stack. record (restored machine) { stack = stack }) (append-nil (reverse (reverse machine.stack)) ∙ reverse-reverse machine.stack)

-- a part is read in its word
abbrev pub IsRead : StatePart → Type 0
IsRead part = part_in (word_of part) ≡ Some part

-- a part that was taken was told
took : (part : StatePart) (old between : Held) → IsRead part
    → Answered (TellState (word_of part)) old between (Came Cleared) → (parts : List StatePart)
    → record between { waiting = told_all parts between.waiting }
    ≡ record old { waiting = told_all parts (told old.waiting part) }
took part old between reads (later, same, taken) parts =
    let done = subst (λ read. TakesPart read old.waiting later (Came Cleared)) reads taken in
    ap (λ (held : Held). record held { waiting = told_all parts held.waiting }) same
    ∙ ap (λ waiting. record old { waiting = told_all parts waiting }) done.1

-- a device that took parts in turn was told them
pub told_parts : (parts : List StatePart) (old new : Held) → AllByRecursion IsRead parts
    → ToldInTurn (map word_of parts) old new → new ≡ record old { waiting = told_all parts old.waiting }
told_parts [] old new reads same = same
told_parts (part ∷ parts) old new reads (between, taken, rest) =
    told_parts parts between new reads.1 rest ∙ took part old between reads.0 taken parts

-- where a run is open, its strokes are saved
drawn_open : (machine : Machine) → machine.is_open ≡ true → drawn_so_far machine ≡ machine.strokes
drawn_open machine runs = rw runs refl

running : (machine : Machine) (run : Newest) → machine.is_open ≡ true → IsInRun machine run
    → IsInRun (restored machine) run
running machine run runs inside = record {
  at = inside.at;
  held = inside.held;
  strokes = drawn_open machine runs ∙ inside.strokes;
  count = inside.count;
  brackets = inside.brackets;
}

-- what goes on from a saved state stands after the same histories
pub goes_on : (machine : Machine) (history : List Told) (low : Option ℕ) → HasTaken machine history low
    → HasTaken (restored machine) history low
goes_on machine history low after = record {
  run = after.run;
  leaves = after.leaves;
  stands = record {
    is_open = after.stands.is_open;
    beam = after.stands.beam;
    running = λ runs. running machine after.run (after.stands.is_open ∙ runs) (after.stands.running runs);
  };
  low = after.low;
  waits = after.waits;
}

-- what isn't in an open run isn't saved
drawn_strokes : (machine : Machine) → CanBeSaved machine → AllByRecursion IsStroke (drawn_so_far machine)
drawn_strokes machine can = recursion_from_All IsStroke (drawn_so_far machine) can.strokes

-- return addresses suit while there are four at most
returns_suit : (addresses : List ℕ) (rest : List StatePart) (machine : Machine)
    → length machine.stack + length addresses ≤ 4
    → ((later : Machine) → AllSuit rest later) → AllSuit (map ReturnAddress addresses ++ rest) machine
returns_suit [] rest machine fits others = others machine
returns_suit (address ∷ addresses) rest machine fits others = (
  omega (arith, fits),
  returns_suit addresses rest (told machine (ReturnAddress address)) (omega (arith, fits)) others,
)

-- strokes and a place suit anything
strokes_suit : (strokes : List Stroke) (x y : ℕ) → AllByRecursion IsStroke strokes → (machine : Machine)
    → AllSuit (stroke_parts strokes ++ Place x y ∷ []) machine
strokes_suit [] x y all machine = (tt, tt)
strokes_suit (stroke ∷ strokes) x y all machine = (tt, (all.0, strokes_suit strokes x y all.1 _))

-- no part of a state that can be saved is refused
pub all_suit : (machine before : Machine) → CanBeSaved machine → AllSuit (parts_of machine) before
all_suit machine before can = (
  tt,
  returns_suit (reverse machine.stack) (drawing_parts machine) _
      (rw length-reverse (omega (arith, can.four)))
      (strokes_suit (drawn_so_far machine) machine.beam.x machine.beam.y (drawn_strokes machine can)),
)

first_fits : (held : Option ℕ) → IfSome held IsFirst → IfSome held (λ word. word < 0x1_0000)
first_fits None first = first
first_fits (Some word) first = omega (arith, first)

returns_fit : (addresses : List ℕ) (rest : List StatePart) → AllByRecursion (λ address. address < 4096) addresses
    → AllByRecursion Fits rest → AllByRecursion Fits (map ReturnAddress addresses ++ rest)
returns_fit [] rest all others = others
returns_fit (address ∷ addresses) rest all others =
    let small = all.0 in
    (omega (arith, small), returns_fit addresses rest all.1 others)

place_fits : (x y : ℕ) → x < 2097152 → y < 2097152 → Fits (Place x y)
place_fits x y a b = (omega (arith, a), omega (arith, b))

strokes_fit : (strokes : List Stroke) (x y : ℕ) → AllByRecursion IsStroke strokes → x < 2097152 → y < 2097152
    → AllByRecursion Fits (stroke_parts strokes ++ Place x y ∷ [])
strokes_fit [] x y all a b = (place_fits x y a b, tt)
strokes_fit (stroke ∷ strokes) x y all a b =
    let x1 = all.0.2 in
    let y1 = all.0.3 in
    let z = all.0.5 in (
      place_fits stroke.x0 stroke.y0 all.0.0 all.0.1,
      ((omega (arith, x1), omega (arith, y1), omega (arith, z)), strokes_fit strokes x y all.1 a b),
    )

-- each part of a state that can be saved fits
pub all_fit : (machine : Machine) → CanBeSaved machine → AllByRecursion Fits (parts_of machine)
all_fit machine can =
    let kept = can.stands.kept in
    let beam = can.stands.beam in
    let at = kept.at_is_address in
    let addresses = all_reversed (λ address. address < 4096) machine.stack kept.stack_is_addresses in (
      (omega (arith, at), first_fits machine.held kept.held_is_first, can.byte, beam.scale_small),
      returns_fit (reverse machine.stack) (drawing_parts machine) (recursion_from_All _ _ addresses)
          (strokes_fit (drawn_so_far machine) machine.beam.x machine.beam.y (drawn_strokes machine can)
          beam.x_inside beam.y_inside),
    )

-- parts that fit are read in their words
read_by : (parts : List StatePart) → AllByRecursion Fits parts → AllByRecursion IsRead parts
read_by [] all = tt
read_by (part ∷ parts) all = (read_again part all.0, read_by parts all.1)

-- a device that was told all parts of a machine's state has that machine
pub told_state : (machine : Machine) (old between : Held) → CanBeSaved machine
    → ToldInTurn (map word_of (parts_of machine)) old between → between ≡ record old { waiting = restored machine }
told_state machine old between can in_turn =
    told_parts (parts_of machine) old between (read_by (parts_of machine) (all_fit machine can)) in_turn
    ∙ ap (λ waiting. record old { waiting = waiting }) (told_machine machine old.waiting)

-- where a generator can stand so, it begins
opened : (between new : Held) (reply : Reply) → CanStand between.waiting → ResumeAnswers between new reply
    → (reply ≡ Opened)
    × (new ≡ record between { waiting = unbegun; open_part = Generator between.waiting })
opened between new Opened can answers = (refl, answers.2)
opened between new NoState can answers = absurd (answers.0 can)
opened between new _ can answers = absurd answers

pub restored_stands : (machine : Machine) → CanStand machine → CanStand (restored machine)
restored_stands machine can = record { kept = can.kept; waits = can.waits; beam = can.beam }

-- a generator that is resumed after all parts of a machine's state stands as that machine
pub resumed : (machine : Machine) (old between new : Held) (reply : Reply) → CanBeSaved machine
    → ToldInTurn (map word_of (parts_of machine)) old between → Answered Resume between new reply
    → (reply ≡ Opened)
    × (new ≡ record old { waiting = unbegun; open_part = Generator (restored machine) })
resumed machine old between new reply can in_turn answers =
    let is = told_state machine old between can in_turn in
    let there = ap (λ held. held.waiting) is in
    let stands = subst CanStand (sym there) (restored_stands machine can.stands) in
    let done = opened between new reply stands answers in (
      done.0,
      done.1 ∙ ap (λ (held : Held). record held
          { waiting = unbegun; open_part = Generator held.waiting }) is,
    )

-- where a generator whose stack wraps can begin so, it does
opened_wrapping : (between new : Held) (reply : Reply) → CanWrap between.waiting → WrappingResumes between new reply
    → (reply ≡ Opened) × (new ≡ record between { waiting = unbegun; open_part = Wrapping (wrapping_of between.waiting) })
opened_wrapping between new Opened can answers = (refl, answers.2)
opened_wrapping between new NoState can answers = absurd (answers.0 can)
opened_wrapping between new _ can answers = absurd answers

-- it stands after each history after which the saved one stands, which saves no address itself
goes_on_wrapped : (wrapped : Wrapped) → wrapped.machine.stack ≡ [] → (history : List Told) (low : Option ℕ)
    → HasWrapped wrapped history low → HasWrapped (wrapping_of (restored (saved_of wrapped))) history low
goes_on_wrapped wrapped unstacked history low stands = record {
  told = stands.told;
  wraps = stands.wraps;
  after = subst (λ stack. HasTaken (with_stack stack (restored wrapped.machine)) stands.told low) unstacked
      (goes_on wrapped.machine stands.told low stands.after);
}

-- a generator whose stack wraps that is resumed after all parts of another one's state stands as that one
pub resumed_wrapping : (wrapped : Wrapped) (old between new : Held) (reply : Reply) → wrapped.machine.stack ≡ []
    → length wrapped.registers ≡ STACK_DEPTH → CanBeSaved (saved_of wrapped)
    → ToldInTurn (map word_of (parts_of (saved_of wrapped))) old between → Answered ResumeWrapping between new reply
    → (reply ≡ Opened) × (later : Wrapped) × (new ≡ record old { waiting = unbegun; open_part = Wrapping later })
    × ((history : List Told) (low : Option ℕ) → HasWrapped wrapped history low → HasWrapped later history low)
resumed_wrapping wrapped old between new reply unstacked four can in_turn answers =
    let machine = restored (saved_of wrapped) in
    let is = told_state (saved_of wrapped) old between can in_turn in
    let can_wrap : CanWrap machine = (restored_stands (saved_of wrapped) can.stands, four) in
    let there = ap (λ held. held.waiting) is in
    let done = opened_wrapping between new reply (subst CanWrap (sym there) can_wrap) answers in (
      done.0,
      wrapping_of machine,
      done.1 ∙ ap (λ (held : Held). record held
          { waiting = unbegun; open_part = Wrapping (wrapping_of held.waiting) }) is,
      goes_on_wrapped wrapped unstacked,
    )
