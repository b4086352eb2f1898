-- What is written of a list, one item after the other, and of three texts.
use Rattle.std.proofs.Common.{◌≡◌, ℕ, ◌+◌, ◌-◌, ◌<◌, suc, List, [], ◌∷◌, Bor, ◌++◌, length, drop, get_or, Vec, Option, flat_map, ap, sym, ◌∙◌, add-one, refl}
use Rattle.std.proofs.lemmas.List.{drop_more, length-map}
use Rattle.dvg_gen.specs.declared.stroke.Stroke.{Stroke}
use Rattle.dvg_io.specs.declared.watched.Watched.{Watched}
use Rattle.dvg_io.specs.Watching.{one_more}
use Rattle.dvg_io.proofs.WrittenSoFar.{BrokeOff, Wrote, both, second_begun}
use Rattle.dvg_svg.specs.Svg.{group, groups, pictures_text, strokes_of}

-- the next item is that at this index
pub next_or : {X : Type 0} (text : X → List ℕ) (xs : List X) (i : ℕ) (none : X) → i < length xs
    → flat_map text (drop i xs) ≡ text (get_or xs i none) ++ flat_map text (drop (i + 1) xs)
next_or text xs i none low = ap (flat_map text) (drop_more xs i none low)

pub next : {X : Type 0} (text : X → List ℕ) (xs : List X) (i : ℕ) (x : X) → i < length xs → x ≡ get_or xs i x
    → flat_map text (drop i xs) ≡ text x ++ flat_map text (drop (i + 1) xs)
next text xs i x low is = next_or text xs i x low ∙ ap (λ y. text y ++ flat_map text (drop (i + 1) xs)) (sym is)

pub next_picture : {A : Type 0} (rate last : ℕ) (pictures : List (Vec Stroke A)) (i : ℕ) (picture : Vec Stroke A) → i < length pictures → picture ≡ get_or pictures i picture
    → groups rate last i (strokes_of (drop i pictures)) ≡ group rate last i picture.items ++ groups rate last (i + 1) (strokes_of (drop (i + 1) pictures))
next_picture rate last pictures i picture low is =
    ap (λ l. groups rate last i (strokes_of l)) (drop_more pictures i picture low)
    ∙ ap (λ p. group rate last i p.items ++ groups rate last (suc i) (strokes_of (drop (i + 1) pictures))) (sym is)
    ∙ ap (λ n. group rate last i picture.items ++ groups rate last n (strokes_of (drop (i + 1) pictures))) (sym (add-one i))

module _ {W : Type 0} (contents : W → Option (List ℕ)) (first second : List ℕ) (old now new : Watched W) where
  -- the first of two texts went out, and then the second broke off
  pub broke_second : Wrote contents first old now → BrokeOff contents second now new → BrokeOff contents (first ++ second) old new
  broke_second wrote broke = (second_begun first second wrote.0 broke.0, broke.1 ∙ ap one_more wrote.1)

  -- both went out
  pub wrote_both : Wrote contents first old now → Wrote contents second now new → Wrote contents (first ++ second) old new
  wrote_both wrote more = (both first second _ _ _ wrote.0 more.0, more.1 ∙ wrote.1)

-- the part that stands for one after the end of a list
abbrev pub no_part : Bor (List ℕ)
no_part = record { ref_ptr = (0, 0); now = [] }

-- of any number of pictures but one
pub several : {A : Type 0} (rate : ℕ) (pictures : List (Vec Stroke A)) → (length pictures ≡ 1 → ⊥)
    → groups rate (length pictures - 1) 0 (strokes_of pictures) ≡ pictures_text rate (strokes_of pictures)
several rate [] other = refl
several rate (one ∷ []) other = absurd (other refl)
several rate (one ∷ two ∷ more) other = ap (λ n. groups rate (n - 1) 0 (strokes_of (one ∷ two ∷ more))) (sym (length-map (one ∷ two ∷ more) (λ picture. picture.items)))
