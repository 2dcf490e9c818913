-- What is open by the numbers of rows is what is open by times.
use Rattle.std.proofs.Common.{◌≡◌, ◌<◌, ◌≤◌, ℕ, zero, suc, ◌==◌, ◌&&◌, ◌||◌, Bool, true, false, List, [], ◌∷◌, length, slice_get, Option, Some, None, is_some, refl, sym, ap, subst, ◌∙◌, arith, eqb-true}
use Rattle.std.specs.Prelude.{⊤}
use Rattle.std.specs.Option.{option_map}
use Rattle.py_model.specs.Moment.{Moment}
use Rattle.py_model.specs.Occurrences.{Occurrence, Frame, in_occurrence, in_activation, frames_after, innermost, without_top}
use Rattle.row_checks.specs.KeptRows.{view_in}
use Rattle.row_moments.specs.Moments.{told_with}
use Rattle.trace_rows.specs.declared.row.Row.{Row}
use Rattle.trace_rows.specs.declared.row.Row.TheVariants.{Text, Tuple, Begin, Do, Enter, Leave, End}
use Rattle.row_moments.specs.declared.places.Place.{Place}
use Rattle.row_moments.specs.IndexKnows.{has_parent}
use Rattle.row_moments.specs.IndexPlaces.{inner_stmt, inner_row, without_first, after_row, places_before, owner_by}
use Rattle.row_moments.specs.RowOccurrences.{told_before, frames_before, begun, is_number, began_at, is_child_of, owner_at, owner_in, rows_where, children_in}
use Rattle.row_moments.proofs.IndexCounting.{told_next, time_at, same_time, rows_same, no_rows}

module _ (rows : List Row) where
  -- the occurrence is that of the statement which the row begins
  record IsPlaceOf (place : Place) (o : Occurrence) : Type 0 where
    stmt : o.stmt ≡ place.stmt
    time : o.began ≡ time_at rows place.row
    begins : begun (slice_get rows place.row) ≡ Some place.stmt

  abbrev AreSame : List (Option Place) → List Frame → Type 0
  AreSame [] [] = ⊤
  AreSame (Some place ∷ places) (in_occurrence o ∷ frames) = IsPlaceOf place o × AreSame places frames
  AreSame (None ∷ places) (in_activation time ∷ frames) = AreSame places frames
  AreSame places frames = ⊥

  closed_same : (places : List (Option Place)) (frames : List Frame) → AreSame places frames → AreSame (without_first places) (without_top frames)
  closed_same [] [] same = tt
  closed_same [] (frame ∷ frames) same = absurd same
  closed_same (Some place ∷ places) [] same = absurd same
  closed_same (None ∷ places) [] same = absurd same
  closed_same (Some place ∷ places) (in_occurrence o ∷ frames) same = same.1
  closed_same (Some place ∷ places) (in_activation time ∷ frames) same = absurd same
  closed_same (None ∷ places) (in_occurrence o ∷ frames) same = absurd same
  closed_same (None ∷ places) (in_activation time ∷ frames) same = same

  step_same : (row : Row) (i : ℕ) → slice_get rows i ≡ Some row → (places : List (Option Place)) (told : List Moment) → length told ≡ time_at rows i → AreSame places (frames_after told)
      → AreSame (after_row (Some row) i places) (frames_after (told_with (view_in rows) row told))
  step_same (Text text) i at places told time same = same
  step_same (Tuple parts) i at places told time same = same
  step_same (Begin s) i at places told time same = (record { stmt = refl; time = time; begins = ap begun at }, same)
  step_same (Do place op values answer made accesses weight) i at places told time same = same
  step_same (Enter call def values accesses) i at places told time same = same
  step_same (Leave v) i at places told time same = closed_same places (frames_after told) same
  step_same (End how) i at places told time same = closed_same places (frames_after told) same

  open_same : (i : ℕ) → i ≤ length rows → AreSame (places_before rows i) (frames_before rows i)
  open_same zero less = tt
  open_same (suc i) less = by (slice_get rows i) refl (open_same i (omega (arith, less)))
    where
      by : (found : Option Row) → slice_get rows i ≡ found → AreSame (places_before rows i) (frames_before rows i) → AreSame (after_row (slice_get rows i) i (places_before rows i)) (frames_before rows (suc i))
      by None at same = absurd (none_past rows i (omega (arith, less)) at)
        where
          none_past : (xs : List Row) (k : ℕ) → k < length xs → slice_get xs k ≡ None → ⊥
          none_past [] k less none = absurd (omega (arith, less))
          none_past (x ∷ xs) zero less none = absurd cc
          none_past (x ∷ xs) (suc k) less none = none_past xs k (omega (arith, less)) none
      by (Some row) at same =
          subst (λ found. AreSame (after_row found i (places_before rows i)) (frames_before rows (suc i))) (sym at)
          (subst (λ told. AreSame (after_row (Some row) i (places_before rows i)) (frames_after told)) (sym (told_next rows i row at))
          (step_same row i at (places_before rows i) (told_before rows i) refl same))

  -- ---- what they tell

  stmt_same : (places : List (Option Place)) (frames : List Frame) → AreSame places frames → inner_stmt places ≡ option_map (λ (o : Occurrence). o.stmt) (innermost frames)
  stmt_same [] [] same = refl
  stmt_same [] (frame ∷ frames) same = absurd same
  stmt_same (Some place ∷ places) [] same = absurd same
  stmt_same (None ∷ places) [] same = absurd same
  stmt_same (Some place ∷ places) (in_occurrence o ∷ frames) same = ap (λ (s : ℕ). Some s) (sym same.0.stmt)
  stmt_same (Some place ∷ places) (in_activation time ∷ frames) same = absurd same
  stmt_same (None ∷ places) (in_occurrence o ∷ frames) same = absurd same
  stmt_same (None ∷ places) (in_activation time ∷ frames) same = stmt_same places frames same

  owner_same : (found : Option Row) (places : List (Option Place)) (told : List Moment) → AreSame places (frames_after told) → owner_by found places ≡ owner_at found told
  owner_same None places told same = refl
  owner_same (Some (Text text)) places told same = refl
  owner_same (Some (Tuple parts)) places told same = refl
  owner_same (Some (Begin s)) places told same = refl
  owner_same (Some (Do place op values answer made accesses weight)) places told same = stmt_same places (frames_after told) same
  owner_same (Some (Enter call def values accesses)) places told same = stmt_same places (frames_after told) same
  owner_same (Some (Leave v)) places told same = refl
  owner_same (Some (End how)) places told same = refl

  pub owners_are : (i : ℕ) → i < length rows → owner_by (slice_get rows i) (places_before rows i) ≡ owner_in rows i
  owners_are i less = owner_same (slice_get rows i) (places_before rows i) (told_before rows i) (open_same i (omega (arith, less)))

  or_false : (b : Bool) → b ≡ (b || false)
  or_false true = refl
  or_false false = refl

  module _ (b t : ℕ) (begins : begun (slice_get rows b) ≡ Some t) where
    place_same : (place : Place) (o : Occurrence) → IsPlaceOf place o → (place.row == b) ≡ (o.began == time_at rows b)
    place_same place o same = sym (ap (λ time. time == time_at rows b) same.time ∙ same_time rows place.row place.stmt b t same.begins begins)

    inner_same : (places : List (Option Place)) (frames : List Frame) → AreSame places frames → is_number b (inner_row places) ≡ began_at (time_at rows b) (innermost frames)
    inner_same [] [] same = refl
    inner_same [] (frame ∷ frames) same = absurd same
    inner_same (Some place ∷ places) [] same = absurd same
    inner_same (None ∷ places) [] same = absurd same
    inner_same (Some place ∷ places) (in_occurrence o ∷ frames) same = place_same place o same.0
    inner_same (Some place ∷ places) (in_activation time ∷ frames) same = absurd same
    inner_same (None ∷ places) (in_occurrence o ∷ frames) same = absurd same
    inner_same (None ∷ places) (in_activation time ∷ frames) same = inner_same places frames same

    child_same : (places : List (Option Place)) (frames : List Frame) → AreSame places frames → is_number b (inner_row places) ≡ is_child_of (time_at rows b) frames
    child_same [] [] same = refl
    child_same [] (frame ∷ frames) same = absurd same
    child_same (Some place ∷ places) [] same = absurd same
    child_same (None ∷ places) [] same = absurd same
    child_same (Some place ∷ places) (in_occurrence o ∷ frames) same = place_same place o same.0 ∙ or_false (o.began == time_at rows b)
    child_same (Some place ∷ places) (in_activation time ∷ frames) same = absurd same
    child_same (None ∷ places) (in_occurrence o ∷ frames) same = absurd same
    child_same (None ∷ places) (in_activation time ∷ frames) same = inner_same places frames same

    pub children_are : rows_where (has_parent rows b) (length rows) ≡ children_in rows b
    children_are = rows_same (has_parent rows b) (λ i. is_some (begun (slice_get rows i)) && is_child_of (time_at rows b) (frames_before rows i)) (length rows)
        (λ i less. ap (λ is. is_some (begun (slice_get rows i)) && is) (child_same (places_before rows i) (frames_before rows i) (open_same i (omega (arith, less)))))

  -- ---- a row has no children before it

  abbrev AllBefore : ℕ → List (Option Place) → Type 0
  AllBefore n [] = ⊤
  AllBefore n (None ∷ places) = AllBefore n places
  AllBefore n (Some place ∷ places) = (place.row < n) × AllBefore n places

  before_more : (n m : ℕ) → n ≤ m → (places : List (Option Place)) → AllBefore n places → AllBefore m places
  before_more n m more [] all = tt
  before_more n m more (None ∷ places) all = before_more n m more places all
  before_more n m more (Some place ∷ places) all = let first = all.0 in (omega (arith, first, more), before_more n m more places all.1)

  before_closed : (n : ℕ) (places : List (Option Place)) → AllBefore n places → AllBefore n (without_first places)
  before_closed n [] all = tt
  before_closed n (None ∷ places) all = all
  before_closed n (Some place ∷ places) all = all.1

  before_step : (found : Option Row) (i : ℕ) (places : List (Option Place)) → AllBefore i places → AllBefore (suc i) (after_row found i places)
  before_step None i places all = before_more i (suc i) (omega arith) places all
  before_step (Some (Text text)) i places all = before_more i (suc i) (omega arith) places all
  before_step (Some (Tuple parts)) i places all = before_more i (suc i) (omega arith) places all
  before_step (Some (Begin s)) i places all = (omega arith, before_more i (suc i) (omega arith) places all)
  before_step (Some (Do place op values answer made accesses weight)) i places all = before_more i (suc i) (omega arith) places all
  before_step (Some (Enter call def values accesses)) i places all = before_more i (suc i) (omega arith) places all
  before_step (Some (Leave v)) i places all = before_closed (suc i) places (before_more i (suc i) (omega arith) places all)
  before_step (Some (End how)) i places all = before_closed (suc i) places (before_more i (suc i) (omega arith) places all)

  all_before : (i : ℕ) → AllBefore i (places_before rows i)
  all_before zero = tt
  all_before (suc i) = before_step (slice_get rows i) i (places_before rows i) (all_before i)

  not_later : (b n : ℕ) → n ≤ b → (places : List (Option Place)) → AllBefore n places → is_number b (inner_row places) ≡ false
  not_later b n less [] all = refl
  not_later b n less (None ∷ places) all = not_later b n less places all
  not_later b n less (Some place ∷ places) all = by (place.row == b) refl
    where
      by : (is : Bool) → (place.row == b) ≡ is → (place.row == b) ≡ false
      by true same = let first = all.0 in absurd (omega (arith, first, less, eqb-true place.row b same))
      by false other = other

  pub no_children : (b : ℕ) → rows_where (has_parent rows b) b ≡ []
  no_children b = no_rows (has_parent rows b) b (λ i less. and_false (is_some (begun (slice_get rows i))) (is_number b (inner_row (places_before rows i))) (not_later b i (omega (arith, less)) (places_before rows i) (all_before i)))
    where
      and_false : (x y : Bool) → y ≡ false → (x && y) ≡ false
      and_false true y is = is
      and_false false y is = refl
