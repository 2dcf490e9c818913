-- Items that move in a loop, one after the other.
use Rattle.std.proofs.Common.{◌≡◌, ◌∙◌, sym, subst, ap, arith, ℕ, suc, ◌+◌, ◌-◌, ◌<◌, ◌≤◌, length, Option, None}
use Rattle.object_store.specs.Store.{StoreView, count_with}
use Rattle.py_model.specs.Lists.{move_up, move_down}
use Rattle.py_model.specs.Plan.{Writes, move}
use Rattle.py_value.specs.Values.{ValuesView}
use Rattle.py_value.specs.declared.access.Kind.{Kind}

-- what is left to be moved behind so many
abbrev pub up_left : ℕ → ℕ → ℕ → ℕ → ValuesView → Writes → Writes
up_left n o p i table = move_up (n - i) o (p + i)

abbrev pub down_left : ℕ → ℕ → ℕ → ℕ → ValuesView → Writes → Writes
down_left n o p i table = move_down (n - i) o (p + i)

the_count : (n i : ℕ) → i < n → n - i ≡ suc (n - (i + 1))
the_count n i less = omega (arith, less)

next_place : (p i : ℕ) → suc (p + i) ≡ p + i + 1
next_place p i = omega (arith)

later_place : (p i : ℕ) → suc (p + i) ≡ p + (i + 1)
later_place p i = omega (arith)

pub up_is : (n o p i : ℕ) → i < n → (table : ValuesView) (end : Writes) → up_left n o p i table end ≡ move o (p + i) (p + i + 1) (up_left n o p (i + 1) table end)
up_is n o p i less table end = ap (λ m. move_up m o (p + i) end) (the_count n i less)
    ∙ (ap (λ q. move o (p + i) q (move_up (n - (i + 1)) o (suc (p + i)) end)) (next_place p i)
    ∙ ap (λ q. move o (p + i) (p + i + 1) (move_up (n - (i + 1)) o q end)) (later_place p i))

pub down_is : (n o p i : ℕ) → i < n → (table : ValuesView) (end : Writes) → down_left n o p i table end ≡ move o (p + i + 1) (p + i) (down_left n o p (i + 1) table end)
down_is n o p i less table end = ap (λ m. move_down m o (p + i) end) (the_count n i less)
    ∙ (ap (λ q. move o q (p + i) (move_down (n - (i + 1)) o (suc (p + i)) end)) (next_place p i)
    ∙ ap (λ q. move o (p + i + 1) (p + i) (move_down (n - (i + 1)) o q end)) (later_place p i))

no_more : (n i : ℕ) → n ≤ i → n - i ≡ 0
no_more n i past = omega (arith, past)

pub up_none : (n o p i : ℕ) → n ≤ i → (table : ValuesView) (end : Writes) → up_left n o p i table end ≡ end
up_none n o p i past table end = ap (λ m. move_up m o (p + i) end) (no_more n i past)

pub down_none : (n o p i : ℕ) → n ≤ i → (table : ValuesView) (end : Writes) → down_left n o p i table end ≡ end
down_none n o p i past table end = ap (λ m. move_down m o (p + i) end) (no_more n i past)

-- an object that may be written may be so where nothing was made
pub within_kept : (o : ℕ) (old_made new_made : Option Kind) (old new : StoreView) → new_made ≡ old_made → new ≡ old → o < count_with old_made old → o < count_with new_made new
within_kept o old_made new_made old new made same within = subst (λ (m : Option Kind). o < count_with m new) (sym made) (subst (λ (s : StoreView). o < count_with old_made s) (sym same) within)

pub within_fresh : (o : ℕ) (made : Option Kind) (old new : StoreView) → made ≡ None → new ≡ old → o < length old.objects → o < count_with made new
within_fresh o made old new none same within = subst (λ (m : Option Kind). o < count_with m new) (sym none) (subst (λ (s : StoreView). o < length s.objects) (sym same) within)
