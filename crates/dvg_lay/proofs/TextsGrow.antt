-- Texts that grew by one part after the other.
use Rattle.std.proofs.Common.{◌≡◌, ◌∙◌, ◌++◌, List, ap, append_assoc}

module _ {A : Type 0} where
  pub grew_by_3 : (a x y z k l m : List A) → k ≡ a ++ x → l ≡ k ++ y → m ≡ l ++ z → m ≡ a ++ (x ++ y ++ z)
  grew_by_3 a x y z k l m k_is l_is m_is =
      m_is ∙ ap (λ t. t ++ z) (l_is ∙ ap (λ t. t ++ y) k_is ∙ append_assoc a x y) ∙ append_assoc a (x ++ y) z

  pub grew_by_5 : (a p w s t e k l m n o : List A) → k ≡ a ++ p → l ≡ k ++ w → m ≡ l ++ s → n ≡ m ++ t → o ≡ n ++ e
      → o ≡ a ++ (p ++ (w ++ s ++ t) ++ e)
  grew_by_5 a p w s t e k l m n o k_is l_is m_is n_is o_is =
      let inner : n ≡ k ++ (w ++ s ++ t) = grew_by_3 k w s t l m n l_is m_is n_is in
      grew_by_3 a p (w ++ s ++ t) e k n o k_is inner o_is
