-- Lines that were written so far.
use Rattle.std.proofs.Common.{◌≡◌, ℕ, suc, ◌+◌, ◌<◌, ◌≤◌, List, [], ◌∷◌, ◌++◌, length, drop, get_or, drop-cons, append_assoc, append-nil, sym, ap, ◌∙◌, arith}
use Rattle.std.proofs.lemmas.List.{drop_all}

-- what is left, by its first item
pub left_is : {A : Type 0} (items : List A) (i : ℕ) (other : A) → i < length items → drop i items ≡ get_or items i other ∷ drop (i + 1) items
left_is items i other below =
    let after : suc i ≡ i + 1 = omega arith in
    drop-cons items i other below ∙ ap (λ k. get_or items i other ∷ drop k items) after

-- of any items, each with a line
module _ {A : Type 0} (line : A → List ℕ) (lines : List A → List ℕ) (none : lines [] ≡ []) (more : (x : A) (xs : List A) → lines (x ∷ xs) ≡ line x ++ lines xs) where
  pub one_more : (out new given : List ℕ) (list : List A) (i : ℕ) (other : A) → i < length list → new ≡ out ++ line (get_or list i other)
      → out ++ lines (drop i list) ≡ given ++ lines list → new ++ lines (drop (i + 1) list) ≡ given ++ lines list
  one_more out new given list i other there wrote so_far =
      ap (λ (xs : List ℕ). xs ++ lines (drop (i + 1) list)) wrote
      ∙ (append_assoc out (line (get_or list i other)) (lines (drop (i + 1) list))
      ∙ (ap (λ (xs : List ℕ). out ++ xs) (sym (more (get_or list i other) (drop (i + 1) list)))
      ∙ (ap (λ (ds : List A). out ++ lines ds) (sym (left_is list i other there)) ∙ so_far)))

  pub all_written : (out given : List ℕ) (list : List A) (i : ℕ) → length list ≤ i → out ++ lines (drop i list) ≡ given ++ lines list → out ≡ given ++ lines list
  all_written out given list i high so_far = sym (append-nil out) ∙ (ap (λ (xs : List ℕ). out ++ xs) (sym none) ∙ (ap (λ (ds : List A). out ++ lines ds) (sym (drop_all i list high)) ∙ so_far))
