-- Lists that stand in a list.
use Rattle.std.specs.Prelude.{List, [], ◌∷◌}

module _ {A : Type 0} where
  -- the first list is the second with some of its items left out
  pub data IsPartOf : List A → List A → Type 0 where
    no_more : IsPartOf [] []
    leaves : {x : A} {xs ys : List A} → IsPartOf xs ys → IsPartOf xs (x ∷ ys)
    takes : {x : A} {xs ys : List A} → IsPartOf xs ys → IsPartOf (x ∷ xs) (x ∷ ys)
