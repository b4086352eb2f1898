-- A short vector at word zero, and the move that it makes.
use Rattle.std.proofs.Common.{◌≡◌, ℕ, pos, false, List, [], ◌∷◌, ◌++◌, Option, Some, None, refl, sym, ap, ◌∙◌, lit<, lit≤}
use Rattle.std.specs.Prelude.{option_to_list}
use Rattle.dvg_code.specs.declared.instr.Instr.TheVariants.{Svec}
use Rattle.dvg_code.specs.Spelling.{Spells, svec}
use Rattle.dvg_gen.specs.declared.moving.Move.{Move}
use Rattle.dvg_gen.specs.Moving.{moves}
use Rattle.dvg_gen.specs.Run.{one}
use Rattle.dvg_gen.specs.Told.{Told, Start, Fed, Newest, Leaves, new, starts, takes}
use Rattle.dvg_gen.proofs.OneRun.{leaves_same}
use Rattle.test_facts.specs.Facts.{two_units}

-- F071 is SVEC 2 1 0 7
short : Spells (Svec 2 (pos 1) (pos 0) 7) (0xF071 ∷ [])
short =
    svec (lit≤ tt, lit≤ tt, lit≤ tt, lit≤ tt, lit≤ tt) (record {
      bit_11 = 0;
      bit_3 = 0;
      dy_sign = 0;
      dx_sign = 0;
      bit_11_is_bit = lit< tt;
      bit_3_is_bit = lit< tt;
      dy_sign_is = lit< tt;
      dx_sign_is = refl;
      weights = refl;
      sum = refl;
    })

-- what such a word adds to a run that has begun
pub first_move : (run : Newest) (made : Option Move) → Leaves (Start ∷ []) run
    → ((later : Newest) → Leaves (Fed (Some 0xF071) ∷ Start ∷ []) later
    → moves later.first later.visits ≡ moves run.first run.visits ++ option_to_list made) → made ≡ Some two_units
first_move run made begun adds =
    let none = ap (λ r. moves r.first r.visits) (leaves_same begun (starts new)) in
    some_is made (adds _ (takes (starts new) refl (one short)) ∙ ap (λ list. list ++ option_to_list made) none)
  where
    some_is : (o : Option Move) → two_units ∷ [] ≡ option_to_list o → o ≡ Some two_units
    some_is None e = absurd (cc)
    some_is (Some move) e = let same : move ≡ two_units = cc in ap Some same

-- a byte that adds no move
pub no_move : (made : Option Move) → option_to_list made ≡ [] → made ≡ None
no_move None e = refl
no_move (Some move) e = absurd (cc)
