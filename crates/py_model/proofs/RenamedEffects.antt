-- A renamed effect weighs and costs the same.
use Rattle.std.proofs.Common.{◌≡◌, suc, ◌+◌, ◌/◌, List, [], ◌∷◌, map, length, refl, ap, ap₂}
use Rattle.py_value.specs.Seen.{SeenAccess}
use Rattle.py_model.specs.Effect.{Touch, accessed, looked, counted, printed, opened, noted, asked, fetched, Effect, accesses_in, looked_at, characters_in, weight, cost}
use Rattle.py_model.specs.Renaming.{Renaming, renamed_touch, renamed_access, renamed_effect}

module _ (r : Renaming) where
  same_looked : (touches : List Touch) → looked_at (map (renamed_touch r) touches) ≡ looked_at touches
  same_looked [] = refl
  same_looked (looked n ∷ touches) = ap (λ m. n + m) (same_looked touches)
  same_looked (accessed access ∷ touches) = same_looked touches
  same_looked (counted n ∷ touches) = same_looked touches
  same_looked (printed bytes ∷ touches) = same_looked touches
  same_looked (opened path ∷ touches) = same_looked touches
  same_looked (noted place name ∷ touches) = same_looked touches
  same_looked (asked what ∷ touches) = same_looked touches
  same_looked (fetched path ∷ touches) = same_looked touches

  same_characters : (touches : List Touch) → characters_in (map (renamed_touch r) touches) ≡ characters_in touches
  same_characters [] = refl
  same_characters (counted n ∷ touches) = ap (λ m. n + m) (same_characters touches)
  same_characters (accessed access ∷ touches) = same_characters touches
  same_characters (looked n ∷ touches) = same_characters touches
  same_characters (printed bytes ∷ touches) = same_characters touches
  same_characters (opened path ∷ touches) = same_characters touches
  same_characters (noted place name ∷ touches) = same_characters touches
  same_characters (asked what ∷ touches) = same_characters touches
  same_characters (fetched path ∷ touches) = same_characters touches

  -- the accesses are the renamed ones, in the same order
  pub same_accesses : (touches : List Touch) → accesses_in (map (renamed_touch r) touches) ≡ map (renamed_access r) (accesses_in touches)
  same_accesses [] = refl
  same_accesses (accessed access ∷ touches) = ap (λ (more : List SeenAccess). renamed_access r access ∷ more) (same_accesses touches)
  same_accesses (looked n ∷ touches) = same_accesses touches
  same_accesses (counted n ∷ touches) = same_accesses touches
  same_accesses (printed bytes ∷ touches) = same_accesses touches
  same_accesses (opened path ∷ touches) = same_accesses touches
  same_accesses (noted place name ∷ touches) = same_accesses touches
  same_accesses (asked what ∷ touches) = same_accesses touches
  same_accesses (fetched path ∷ touches) = same_accesses touches

  as_long : (touches : List Touch) → length (accesses_in (map (renamed_touch r) touches)) ≡ length (accesses_in touches)
  as_long [] = refl
  as_long (accessed access ∷ touches) = ap suc (as_long touches)
  as_long (looked n ∷ touches) = as_long touches
  as_long (counted n ∷ touches) = as_long touches
  as_long (printed bytes ∷ touches) = as_long touches
  as_long (opened path ∷ touches) = as_long touches
  as_long (noted place name ∷ touches) = as_long touches
  as_long (asked what ∷ touches) = as_long touches
  as_long (fetched path ∷ touches) = as_long touches

  same_weight : (e : Effect) → weight (renamed_effect r e) ≡ weight e
  same_weight e = ap₂ (λ m n. m + (n + 63) / 64) (same_looked e.touches) (same_characters e.touches)

  pub weighs_same : (e : Effect) → (weight (renamed_effect r e) ≡ weight e) × (cost (renamed_effect r e) ≡ cost e)
  weighs_same e = (same_weight e, ap₂ (λ m n. 1 + m + n) (as_long e.touches) (same_weight e))
