-- Paths and their texts in a set.
use Rattle.std.proofs.Common.{◌≡◌, ℕ, false, ◌||◌, List, [], ◌∷◌, ◌++◌, map, refl, ap, ◌∙◌, bytes_eq, if◌then◌else◌}
use Rattle.std.specs.List.{list_any}
use Rattle.std.proofs.lemmas.List.{map_push}
use Rattle.capture.specs.Capture.{is_among}

module _ {K : Type 0} (view : K → List ℕ) where
  -- the set has the path exactly where its texts have
  pub any_view : (path : List ℕ) (keys : List K) → list_any (λ k. bytes_eq path (view k)) keys ≡ is_among path (map view keys)
  any_view path [] = refl
  any_view path (k ∷ keys) = ap (λ b. bytes_eq path (view k) || b) (any_view path keys)

  -- the set after a path was put into it that it did not have
  pub put_behind : (keys new : List K) (k : K) (path : List ℕ) → is_among path (map view keys) ≡ false → view k ≡ path → new ≡ (if list_any (λ l. bytes_eq (view k) (view l)) keys then keys else keys ++ k ∷ []) → map view new ≡ map view keys ++ path ∷ []
  put_behind keys new k path gone is becomes =
      ap (map view) (becomes ∙ ap (λ b. if b then keys else keys ++ k ∷ []) (any_view (view k) keys ∙ ap (λ p. is_among p (map view keys)) is ∙ gone)) ∙ map_push view keys k ∙ ap (λ p. map view keys ++ p ∷ []) is
