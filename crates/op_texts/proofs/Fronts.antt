-- What stands in a text.
use Rattle.std.proofs.Common.{rules, ◌≡◌, refl, ap, ◌∙◌, ℕ, nat_eq, ◌&&◌, ◌==◌, List, [], ◌∷◌}
use Rattle.std.specs.List.{starts_with}
use Rattle.py_model.specs.Texts.{begins_with}

eq_swaps : (a b : ℕ) → nat_eq a b ≡ nat_eq b a
eq_swaps a b = search rules

pub begins_is : (bytes sought : List ℕ) → starts_with nat_eq bytes sought ≡ begins_with bytes sought
begins_is [] [] = refl
begins_is (a ∷ bytes) [] = refl
begins_is [] (b ∷ sought) = refl
begins_is (a ∷ bytes) (b ∷ sought) = ap (λ t. t && starts_with nat_eq bytes sought) (eq_swaps b a) ∙ ap (λ t. (a == b) && t) (begins_is bytes sought)
