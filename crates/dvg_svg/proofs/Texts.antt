-- Texts with numbers, by the texts of those.
use Rattle.std.proofs.Common.{ℕ, List, [], ◌∷◌, ◌++◌, codes}
use Rattle.dvg_svg.specs.Svg.{concat}

abbrev pub sized : List ℕ → List ℕ
sized side = concat (codes "<svg xmlns=\"http://www.w3.org/2000/svg\" width=\"" ∷ side
    ∷ codes "\" height=\"" ∷ side ∷ (codes "\" viewBox=\"-256 -256 524288 524288\">" ++ 10 ∷ []) ∷ [])

abbrev pub turned : (last seen hidden : List ℕ) → List ℕ
turned last seen hidden = concat (
    (codes "<g>" ++ 10 ∷ codes "<set id=\"p0\" attributeName=\"opacity\" to=\"1\" begin=\"0s;p") ∷ last
    ∷ codes ".end\" dur=\"" ∷ seen
    ∷ (codes "ms\"/>" ++ 10 ∷ codes "<set attributeName=\"visibility\" to=\"hidden\" begin=\"p0.end\" dur=\"")
    ∷ hidden ∷ (codes "ms\"/>" ++ 10 ∷ []) ∷ [])
