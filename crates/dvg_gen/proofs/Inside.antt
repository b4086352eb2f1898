-- Positions and intensities are in range.
use Rattle.std.proofs.Common.{ℕ, zero, suc, ◌≤◌, List, [], ◌∷◌, arith}
use Rattle.std.specs.List.{All}
use Rattle.std.proofs.lemmas.List.Elements.{All-nil, All-cons, All-append}
use Rattle.dvg_code.specs.declared.instr.Instr.{Instr}
use Rattle.dvg_code.specs.declared.instr.Instr.TheVariants.{Vctr, Labs, Halt, Jsrl, Rtsl, Jmpl, Svec}
use Rattle.dvg_code.specs.Ranges.{InRange}
use Rattle.dvg_code.specs.Spelling.{Spells, vctr, labs, halt, jsrl, rtsl, jmpl, svec}
use Rattle.dvg_gen.specs.declared.beam.Beam.{Beam}
use Rattle.dvg_gen.specs.Drawing.{moved, line, drawn}
use Rattle.dvg_gen.specs.Position.{IsBeam, IsStroke}
use Rattle.dvg_gen.specs.Run.{Visit, next, beam_after, strokes, first, one, two}
use Rattle.dvg_gen.specs.Told.{Told, Newest, Leaves, new, starts, resets, meets_hole, takes}
use Rattle.dvg_gen.proofs.Residues.{shifted_below}

abbrev pub Inside : Beam → Type 0
Inside beam = IsBeam beam.x beam.y beam.scale

-- an instruction in range moves a beam to a beam
pub moved_inside : (beam : Beam) (code : Instr) → Inside beam → InRange code → Inside (moved beam code)
moved_inside beam (Vctr scale dx dy z) b r = record { x_inside = shifted_below _ dx _; y_inside = shifted_below _ dy _; scale_small = b.scale_small }
moved_inside beam (Labs x y scale) b r =
    let x_size = r.0 in
    let y_size = r.1 in
    let scale_size = r.2 in
    record { x_inside = omega arith; y_inside = omega arith; scale_small = omega arith }
moved_inside beam Halt b r = b
moved_inside beam (Jsrl address) b r = b
moved_inside beam Rtsl b r = b
moved_inside beam (Jmpl address) b r = b
moved_inside beam (Svec scale dx dy z) b r = record { x_inside = shifted_below _ dx _; y_inside = shifted_below _ dy _; scale_small = b.scale_small }

line_inside : (from to : Beam) (z : ℕ) → Inside from → Inside to → z ≤ 15 → All IsStroke (line from to z)
line_inside from to zero b c small = All-nil IsStroke
line_inside from to (suc z) b c small = All-cons IsStroke _ [] (b.x_inside, b.y_inside, c.x_inside, c.y_inside, omega arith, small) (All-nil IsStroke)

-- and what it draws is in range
pub drawn_inside : (beam : Beam) (code : Instr) → Inside beam → InRange code → All IsStroke (drawn beam code)
drawn_inside beam (Vctr scale dx dy z) b r = line_inside beam _ z b (moved_inside beam (Vctr scale dx dy z) b r) r.3
drawn_inside beam (Labs x y scale) b r = All-nil IsStroke
drawn_inside beam Halt b r = All-nil IsStroke
drawn_inside beam (Jsrl address) b r = All-nil IsStroke
drawn_inside beam Rtsl b r = All-nil IsStroke
drawn_inside beam (Jmpl address) b r = All-nil IsStroke
drawn_inside beam (Svec scale dx dy z) b r = line_inside beam _ z b (moved_inside beam (Svec scale dx dy z) b r) r.4

-- what words spell is in range
pub spelled_range : {code : Instr} {words : List ℕ} → Spells code words → InRange code
spelled_range (vctr r p q) = r
spelled_range (labs r p q) = r
spelled_range (halt p q) = tt
spelled_range (jsrl r p) = r
spelled_range (rtsl p q) = tt
spelled_range (jmpl r p) = r
spelled_range (svec r p) = r

-- a run began with a beam, stands at one, and drew strokes in range
pub record RunInside (run : Newest) : Type 0 where
  pub began : Inside run.first
  pub stands : Inside (beam_after run.first run.visits)
  pub drew : All IsStroke (strokes run.first run.visits)

one_more : (run : Newest) (visit : Visit) → RunInside run → InRange visit.code
    → Inside (beam_after run.first (visit ∷ run.visits)) × All IsStroke (strokes run.first (visit ∷ run.visits))
one_more run visit it range = (
  moved_inside (beam_after run.first run.visits) visit.code it.stands range,
  All-append IsStroke (strokes run.first run.visits) _ it.drew (drawn_inside (beam_after run.first run.visits) visit.code it.stands range),
)

pub run_inside : {history : List Told} {run : Newest} → Leaves history run → RunInside run
run_inside new = record {
  began = record { x_inside = omega arith; y_inside = omega arith; scale_small = omega arith };
  stands = record { x_inside = omega arith; y_inside = omega arith; scale_small = omega arith };
  drew = All-nil IsStroke;
}
run_inside (starts l) = let before = run_inside l in record { began = before.stands; stands = before.stands; drew = All-nil IsStroke }
run_inside (resets l) = let before = run_inside l in record { began = before.began; stands = before.stands; drew = before.drew }
run_inside (meets_hole l o) = let before = run_inside l in record { began = before.began; stands = before.stands; drew = before.drew }
run_inside (takes l o (first p)) = let before = run_inside l in record { began = before.began; stands = before.stands; drew = before.drew }
run_inside (takes {run = run} l o (one {code = code} s)) =
    let before = run_inside l in
    let more = one_more run (record { place = next run.visits; code = code }) before (spelled_range s) in
    record { began = before.began; stands = more.0; drew = more.1 }
run_inside (takes {run = run} l o (two {code = code} s)) =
    let before = run_inside l in
    let more = one_more run (record { place = next run.visits; code = code }) before (spelled_range s) in
    record { began = before.began; stands = more.0; drew = more.1 }

pub run_in_range : (history : List Told) (run : Newest) → Leaves history run → All IsStroke (strokes run.first run.visits)
run_in_range history run l = (run_inside l).drew
