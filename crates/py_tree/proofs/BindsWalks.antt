-- Walks that end at the first item that passes a test.
use Rattle.std.proofs.Common.{◌≡◌, ℕ, ◌+◌, ◌<◌, ◌≤◌, Bool, true, false, ◌||◌, List, [], ◌∷◌, length, drop, get_or, ap, sym, ◌∙◌}
use Rattle.std.proofs.lemmas.List.{drop_all}
use Rattle.py_tree.proofs.OwnersWays.{next_left}

-- what is left begins with the item
split : {X : Type 0} (left : List X → Bool) (test : X → Bool) → ((x : X) (xs : List X) → left (x ∷ xs) ≡ (test x || left xs)) → (items : List X) (i : ℕ) (x : X) → i < length items → x ≡ get_or items i x → left (drop i items) ≡ (test x || left (drop (i + 1) items))
split left test more items i x within at = ap left (next_left items i x within ∙ ap (λ y. y ∷ drop (i + 1) items) (sym at)) ∙ more x (drop (i + 1) items)

pub any_here : {X : Type 0} (left : List X → Bool) (test : X → Bool) → ((x : X) (xs : List X) → left (x ∷ xs) ≡ (test x || left xs)) → (items : List X) (i : ℕ) (x : X) → i < length items → x ≡ get_or items i x → true ≡ test x → true ≡ left (drop i items)
any_here left test more items i x within at passes = ap (λ b. b || left (drop (i + 1) items)) passes ∙ sym (split left test more items i x within at)

pub any_next : {X : Type 0} (left : List X → Bool) (test : X → Bool) → ((x : X) (xs : List X) → left (x ∷ xs) ≡ (test x || left xs)) → (items : List X) (i : ℕ) (x : X) → i < length items → x ≡ get_or items i x → false ≡ test x → left (drop (i + 1) items) ≡ left (drop i items)
any_next left test more items i x within at fails = ap (λ b. b || left (drop (i + 1) items)) fails ∙ sym (split left test more items i x within at)

pub any_end : {X : Type 0} (left : List X → Bool) → left [] ≡ false → (items : List X) (i : ℕ) → length items ≤ i → false ≡ left (drop i items)
any_end left none items i past = sym (ap left (drop_all i items past) ∙ none)
