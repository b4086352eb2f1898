-- A generator's state in parts, as it is saved and told.
use Rattle.std.specs.Prelude.{◌≡◌, ◌<◌, ◌≤◌, ◌+◌, ◌*◌, ◌/◌, ◌%◌, ℕ, List, [], ◌∷◌, ◌++◌, length, map, reverse, All}
use Rattle.std.specs.Prelude.{Option, Some, None, IfSome, IsSome, is_some, unwrap_or, Bool, true, false, ◌==◌}
use Rattle.std.specs.Prelude.{if◌then◌else◌}
use Rattle.dvg_gen.specs.declared.stroke.Stroke.{Stroke}
use Rattle.dvg_gen.specs.Machine.{Machine, IsKept}
use Rattle.dvg_gen.specs.Position.{IsBeam, IsStroke}
use Rattle.dvg_log.specs.declared.entry.Entry.TheVariants.{Cleared}
use Rattle.dvg_device.specs.Lookup.{looked_up}
use Rattle.dvg_device.specs.Bits.{bit}
use Rattle.dvg_device.specs.declared.reply.Reply.{Reply}
use Rattle.dvg_device.specs.declared.reply.Reply.TheVariants.{Came, State, Nothing, NoState, NoMemory}
use Rattle.dvg_device.specs.declared.state.StatePart.{StatePart}
use Rattle.dvg_device.specs.declared.state.StatePart.TheVariants.{Fields, ReturnAddress, Place, Line}

-- the flags of a state, as bits: whether a run is open, and whether there are a low byte and a first word
abbrev pub flags_of : Bool → Option ℕ → Option ℕ → ℕ
flags_of is_open held low = bit is_open + 2 * bit (is_some low) + 4 * bit (is_some held)

-- where a place stands in a word, 22 bits along each axis
abbrev pub place_word : ℕ → ℕ → ℕ
place_word x y = 0x100 * (x % 0x40_0000) + 0x4000_0000 * (y % 0x40_0000)

-- a part of a state as a number of 56 bits: its kind in the lowest byte, and its fields above
abbrev pub word_of : StatePart → ℕ
word_of (Fields is_open at held low scale) = 0x100 * at + 0x100_0000 * unwrap_or held 0
    + 0x100_0000_0000 * unwrap_or low 0 + 0x1_0000_0000_0000 * (scale % 16)
    + 0x10_0000_0000_0000 * flags_of is_open held low
word_of (ReturnAddress address) = 1 + 0x100 * address
word_of (Place x y) = 2 + place_word x y
word_of (Line x y z) = 3 + place_word x y + 0x10_0000_0000_0000 * (z % 16)

-- a number, where a flag says that it is there
abbrev pub optional : ℕ → ℕ → Option ℕ
optional flag n = if flag % 2 == 1 then Some n else None

-- the fields of a state in a word
abbrev pub fields_in : ℕ → StatePart
fields_in word = Fields (word / 0x10_0000_0000_0000 % 2 == 1) (word / 0x100 % 0x1_0000)
    (optional (word / 0x10_0000_0000_0000 / 4) (word / 0x100_0000 % 0x1_0000))
    (optional (word / 0x10_0000_0000_0000 / 2) (word / 0x100_0000_0000 % 0x100))
    (word / 0x1_0000_0000_0000 % 16)

-- the place in a word along both axes, and the intensity
abbrev pub x_in : ℕ → ℕ
x_in word = word / 0x100 % 0x40_0000

abbrev pub y_in : ℕ → ℕ
y_in word = word / 0x4000_0000 % 0x40_0000

abbrev pub z_in : ℕ → ℕ
z_in word = word / 0x10_0000_0000_0000 % 16

-- the part that a word is, if its kind is that of one
abbrev pub part_in : ℕ → Option StatePart
part_in word = looked_up None (word % 0x100)
    ((0, Some (fields_in word)) ∷ (1, Some (ReturnAddress (word / 0x100 % 0x1_0000)))
    ∷ (2, Some (Place (x_in word) (y_in word))) ∷ (3, Some (Line (x_in word) (y_in word) (z_in word))) ∷ [])

-- the two parts of a stroke: where it begins, and where it leads, with its intensity
abbrev pub part_of_stroke : Stroke → Bool → StatePart
part_of_stroke stroke false = Place stroke.x0 stroke.y0
part_of_stroke stroke true = Line stroke.x1 stroke.y1 stroke.z

-- the parts of strokes, in order
abbrev pub stroke_parts : List Stroke → List StatePart
stroke_parts [] = []
stroke_parts (stroke ∷ strokes) = part_of_stroke stroke false ∷ part_of_stroke stroke true ∷ stroke_parts strokes

-- a machine with these return addresses, newest first
abbrev pub with_stack : List ℕ → Machine → Machine
with_stack addresses machine = record machine { stack = addresses }

-- what is saved of the strokes: those that an open run drew so far
abbrev pub drawn_so_far : Machine → List Stroke
drawn_so_far machine = if machine.is_open then machine.strokes else []

-- the parts that say what an open run drew so far, and where the beam is
abbrev pub drawing_parts : Machine → List StatePart
drawing_parts machine = stroke_parts (drawn_so_far machine) ++ Place machine.beam.x machine.beam.y ∷ []

-- the parts of a machine's state, in order: its fields, its return addresses, the oldest first, its strokes, and where
-- its beam is
abbrev pub parts_of : Machine → List StatePart
parts_of machine = Fields machine.is_open machine.at machine.held machine.low machine.beam.scale
    ∷ (map ReturnAddress (reverse machine.stack) ++ drawing_parts machine)

-- what is answered of a part: its word, or that there is none
abbrev pub told_part : Option StatePart → Reply
told_part None = Nothing
told_part (Some part) = State (word_of part)

-- the machine of a new generator: that of a state of which no part was told
abbrev pub unbegun : Machine
unbegun = record {
  at = 0;
  held = None;
  low = None;
  stack = [];
  beam = record { x = 0; y = 0; scale = 0 };
  strokes = [];
  picture = [];
  is_open = false;
}

-- the stroke from where a machine's beam is
abbrev pub line_to : Machine → ℕ → ℕ → ℕ → Stroke
line_to machine x y z = record { x0 = machine.beam.x; y0 = machine.beam.y; x1 = x; y1 = y; z = z }

-- the machine after one part more was told
abbrev pub told : Machine → StatePart → Machine
told machine (Fields is_open at held low scale) = record unbegun
    { at = at; held = held; low = low; beam = record { x = 0; y = 0; scale = scale }; is_open = is_open }
told machine (ReturnAddress address) = record machine { stack = address ∷ machine.stack }
told machine (Place x y) = record machine { beam = record { x = x; y = y; scale = machine.beam.scale } }
told machine (Line x y z) = record machine { strokes = machine.strokes ++ line_to machine x y z ∷ [] }

-- a part suits what was told before: a fifth return address doesn't, and nothing that is no stroke
abbrev pub Suits : Machine → StatePart → Type 0
Suits machine (ReturnAddress address) = length machine.stack < 4
Suits machine (Line x y z) = IsStroke (line_to machine x y z)
Suits machine part = Unit {0}

-- a part is told, if it is one: it is taken, or it doesn't suit, or there was no memory for a stroke
abbrev pub TakesPart : Option StatePart → Machine → Machine → Reply → Type 0
TakesPart (Some part) old new (Came Cleared) = Suits old part × (new ≡ told old part)
TakesPart (Some part) old new NoState = (Suits old part → ⊥) × (new ≡ old)
TakesPart (Some (Line x y z)) old new NoMemory = IsStroke (line_to old x y z) × (new ≡ old)
TakesPart None old new NoState = new ≡ old
TakesPart part old new reply = ⊥

-- a generator can be in this state: it could keep its addresses and its first word, a low byte
-- waits only in an open run, and the beam is in range
pub record CanStand (machine : Machine) : Type 0 where
  pub kept : IsKept machine.at machine.held machine.stack
  pub waits : IsSome machine.low → machine.is_open ≡ true
  pub beam : IsBeam machine.beam.x machine.beam.y machine.beam.scale

-- a machine can be saved: a generator can be in its state, which has at most four return addresses,
-- a byte as its low byte, and only strokes in what was drawn so far
pub record CanBeSaved (machine : Machine) : Type 0 where
  pub stands : CanStand machine
  pub four : length machine.stack ≤ 4
  pub byte : IfSome machine.low (λ byte. byte < 0x100)
  pub strokes : All IsStroke (drawn_so_far machine)
