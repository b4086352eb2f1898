-- A draft has one picture at most.
use Rattle.std.proofs.Common.{◌≡◌, ℕ, suc, ◌+◌, ◌⊎◌, inl, inr, ⊎_elim, List, [], ◌++◌, refl, sym, ap, ◌∙◌, subst, arith}
use Rattle.dvg_code.specs.Spelling.{word_count}
use Rattle.dvg_code.specs.Acts.{Act, Moves, Jumps, Calls, Returns, Halts}
use Rattle.dvg_gen.specs.declared.beam.Beam.{Beam}
use Rattle.dvg_gen.specs.declared.stroke.Stroke.{Stroke}
use Rattle.dvg_gen.specs.Drawing.{moved, drawn}
use Rattle.dvg_frame.specs.declared.op.OpKind.{OpKind}
use Rattle.dvg_frame.specs.declared.place.Place.{Place}
use Rattle.dvg_frame.specs.Steps.{Stands}
use Rattle.dvg_frame.specs.Picture.{End, AtHalt, AtReturn, Draws, halts, returns, moves, jumps, call_halts, calls, IsPicture}
use Rattle.dvg_frame.proofs.FaultsAtPlaces.{same_standing}

module _ (F : List OpKind) (R : List ℕ) where
  -- what is drawn where this act stands
  abbrev By : Act Place → Place → Beam → List Stroke → Beam → End → ℕ → Type 0
  By (Moves instr) after beam strokes last end n =
      (more : List Stroke) × (rest : ℕ) × Draws F R after (moved beam instr) more last end rest × (strokes ≡ drawn beam instr ++ more) × (n ≡ word_count instr + rest)
  By (Jumps to) after beam strokes last end n = (rest : ℕ) × Draws F R to beam strokes last end rest × (n ≡ suc rest)
  By (Calls to) after beam strokes last end n =
      ((rest : ℕ) × Draws F R to beam strokes last AtHalt rest × (end ≡ AtHalt) × (n ≡ suc rest))
      ⊎ ((back : Beam) × (first : List Stroke) × (more : List Stroke) × (inside : ℕ) × (rest : ℕ) × Draws F R to beam first back AtReturn inside × Draws F R after back more last end rest × (strokes ≡ first ++ more) × (n ≡ suc (inside + rest)))
  By Returns after beam strokes last end n = (strokes ≡ []) × (last ≡ beam) × (end ≡ AtReturn) × (n ≡ 1)
  By Halts after beam strokes last end n = (strokes ≡ []) × (last ≡ beam) × (end ≡ AtHalt) × (n ≡ 1)

  at : {p a b : Place} {one other : Act Place} (beam last : Beam) (strokes : List Stroke) (end : End) (n : ℕ) → Stands F R p one a → Stands F R p other b
      → By one a beam strokes last end n → By other b beam strokes last end n
  at {a = a} {other = other} beam last strokes end n here there by =
      let same = same_standing here there in
      subst (λ x. By other x beam strokes last end n) same.1 (subst (λ x. By x a beam strokes last end n) same.0 by)

  by : {p after : Place} {act : Act Place} {beam last : Beam} {strokes : List Stroke} {end : End} {n : ℕ} → Stands F R p act after → Draws F R p beam strokes last end n
      → By act after beam strokes last end n
  by there (halts here) = at _ _ _ _ _ here there (refl, refl, refl, refl)
  by there (returns here) = at _ _ _ _ _ here there (refl, refl, refl, refl)
  by there (moves {strokes = strokes} {n = n} here draws) = at _ _ _ _ _ here there (strokes, n, draws, refl, refl)
  by there (jumps {n = n} here draws) = at _ _ _ _ _ here there (n, draws, refl)
  by there (call_halts {n = n} here draws) = at _ _ _ _ _ here there (inl (n, draws, refl, refl))
  by there (calls {back = back} {strokes = strokes} {more = more} {n = n} {m = m} here inside draws) = at _ _ _ _ _ here there (inr (back, strokes, more, n, m, inside, draws, refl, refl))

  pub record Same (strokes strokes' : List Stroke) (last last' : Beam) (end end' : End) (n n' : ℕ) : Type 0 where
    pub drew : strokes ≡ strokes'
    pub left : last ≡ last'
    pub ends : end ≡ end'
    pub count : n ≡ n'

  -- from one place and beam one picture at most is drawn
  pub draws_once : {p : Place} {beam last last' : Beam} {strokes strokes' : List Stroke} {end end' : End} {n n' : ℕ} → Draws F R p beam strokes last end n → Draws F R p beam strokes' last' end' n'
      → Same strokes strokes' last last' end end' n n'
  draws_once (halts here) other = let it = by here other in record { drew = sym it.0; left = sym it.1; ends = sym it.2; count = sym it.3 }
  draws_once (returns here) other = let it = by here other in record { drew = sym it.0; left = sym it.1; ends = sym it.2; count = sym it.3 }
  draws_once (moves {beam = beam} {instr = instr} here draws) other =
      let it = by here other in
      let same = draws_once draws it.2 in
      record { drew = ap (λ x. drawn beam instr ++ x) same.drew ∙ sym it.3; left = same.left; ends = same.ends; count = ap (λ x. word_count instr + x) same.count ∙ sym it.4 }
  draws_once (jumps here draws) other =
      let it = by here other in
      let same = draws_once draws it.1 in
      record { drew = same.drew; left = same.left; ends = same.ends; count = ap suc same.count ∙ sym it.2 }
  draws_once (call_halts here draws) other =
      ⊎_elim
      (λ it.
      let same = draws_once draws it.1 in
      record { drew = same.drew; left = same.left; ends = sym it.2; count = ap suc same.count ∙ sym it.3 })
      (λ it.
      let same = draws_once draws it.5 in
      let never : AtHalt ≡ AtReturn = same.ends in
      absurd cc)
      (by here other)
  draws_once {last' = last'} {end' = end'} (calls {after = after} {strokes = strokes} {more = more} {n = n} {m = m} here inside draws) other =
      ⊎_elim
      (λ it.
      let same = draws_once inside it.1 in
      let never : AtReturn ≡ AtHalt = same.ends in
      absurd cc)
      (λ it.
      let first = draws_once inside it.5 in
      let from : Draws F R after _ it.2 last' end' it.4 = subst (λ x. Draws F R after x it.2 last' end' it.4) (sym first.left) it.6 in
      let rest = draws_once draws from in
      record {
        drew = ap (λ x. x ++ more) first.drew ∙ ap (λ x. it.1 ++ x) rest.drew ∙ sym it.7;
        left = rest.left;
        ends = rest.ends;
        count = let one = first.count in let two = rest.count in let all = it.8 in omega arith;
      })
      (by here other)

  pub one_picture : (strokes strokes' : List Stroke) (n n' : ℕ) → IsPicture F R strokes n → IsPicture F R strokes' n' → (strokes' ≡ strokes) × (n' ≡ n)
  one_picture strokes strokes' n n' one other =
      let same = draws_once one.draws other.draws in
      (sym same.drew, other.count ∙ sym (ap suc same.count) ∙ sym one.count)
