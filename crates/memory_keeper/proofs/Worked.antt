-- Worked examples of the definitions, which hold by computation.
use Rattle.std.proofs.Common.{◌≡◌, false, [], ◌∷◌, Some, None, refl}
use Rattle.keeper.specs.declared.records.Head.{Head}
use Rattle.keeper.specs.declared.records.Page.{Page}
use Rattle.keeper.specs.Batch.{empty_batch, heads_over, last_page, last_current, over}
use Rattle.memory_keeper.specs.Held.{are_pages_of, maps_of}
use Rattle.keeper.specs.Tables.{head_at}

module _ (a b c : Head) (x y z : Page) where
  first_head_is_of_trial_one : head_at (a ∷ b ∷ []) 1 ≡ Some a
  first_head_is_of_trial_one = refl

  no_trial_zero : head_at (a ∷ b ∷ []) 0 ≡ None
  no_trial_zero = refl

  no_third_trial : head_at (a ∷ b ∷ []) 3 ≡ None
  no_third_trial = refl

  next_head_is_put_behind : heads_over (a ∷ []) ((2, b) ∷ (3, c) ∷ []) ≡ a ∷ b ∷ c ∷ []
  next_head_is_put_behind = refl

  head_of_a_trial_is_replaced : heads_over (a ∷ b ∷ []) ((1, c) ∷ []) ≡ c ∷ b ∷ []
  head_of_a_trial_is_replaced = refl

  later_page_stands : last_page ((1, 0, x) ∷ (1, 1, y) ∷ (1, 0, z) ∷ []) 1 0 ≡ Some z
  later_page_stands = refl

  other_trial_has_no_page : last_page ((1, 0, x) ∷ []) 2 0 ≡ None
  other_trial_has_no_page = refl

  page_of_a_trial_without_head : are_pages_of 1 ((2, 0, x) ∷ []) ≡ false
  page_of_a_trial_without_head = refl

  batch_stands_over_tables : (over (record (empty_batch 1) { pages = (1, 0, y) ∷ [] }) (maps_of (record { heads = a ∷ []; pages = (1, 0, x) ∷ []; contents = []; current = [] }))).pages 1 0 ≡ Some y
  batch_stands_over_tables = refl

  dropped_page_is_absent : (over (record (empty_batch 1) { dropped = 1 ∷ [] }) (maps_of (record { heads = a ∷ []; pages = (1, 0, x) ∷ []; contents = []; current = [] }))).pages 1 0 ≡ None
  dropped_page_is_absent = refl

  page_of_a_batch_that_drops : (over (record (empty_batch 1) { pages = (1, 0, y) ∷ []; dropped = 1 ∷ [] }) (maps_of (record { heads = a ∷ []; pages = (1, 0, x) ∷ []; contents = []; current = [] }))).pages 1 0 ≡ Some y
  page_of_a_batch_that_drops = refl

later_current_stands : last_current ((97 ∷ [], 1) ∷ (98 ∷ [], 2) ∷ (97 ∷ [], 3) ∷ []) (97 ∷ []) ≡ Some 3
later_current_stands = refl
